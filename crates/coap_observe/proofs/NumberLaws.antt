-- The sequence numbers of observers.
use Rattle.std.proofs.Common.{◌≡◌, ℕ, ◌≤◌, ◌&&◌, Bool, true, false, not, cond, List, [], ◌∷◌, ◌++◌, map, take, find, Option, Some, None, option_map, refl, sym, ap, subst, ◌∙◌, arith, inl, inr, ◌⊎◌}
use Rattle.std.specs.List.{filter, list_any}
use Rattle.std.specs.Option.{option_or}
use Rattle.std.specs.Str.{bytes_eq}
use Rattle.std.proofs.lemmas.Bool.{cases_Bool}
use Rattle.std.proofs.lemmas.List.Folds.{find-append}
use Rattle.coap_msg.specs.declared.endpoint.Endpoint.{Endpoint}
use Rattle.coap_msg.specs.Endpoints.{is_same_endpoint}
use Rattle.coap_observe.specs.declared.observer.Observer.{Observer}
use Rattle.coap_observe.specs.declared.notice.Registered.{Registered}
use Rattle.coap_observe.specs.declared.notice.Registered.TheVariants.{New, Replaced, Full}
use Rattle.coap_observe.specs.declared.notice.Notice.{Notice}
use Rattle.coap_observe.specs.Watching.{Watching, next_sequence, sequence_of, is_from, is_pair, is_sent_as, is_of_target, is_due, is_sendable, newcomer, replaced, marked, acknowledged, resent, renewed, notified, where_so, with_first, Registers, GivesUp, nobody, endpoint, IsNotification, Sends, same, newer, first, nothing, Notifies}
use Rattle.coap_observe.specs.Laws.{Goes, registers, cancels, emits, acknowledges, rejects, sends, Any, Comes, count, last_number, is_new}
use Rattle.coap_observe.proofs.Counts.{count_filter, found_passes, none_passes, any_first}
use Rattle.coap_observe.proofs.Found.{here, not_found, found_map, found_kept, found_beside, found_changed}
use Rattle.coap_observe.proofs.CallLaws.{where_same, absent_after, fewer_after, one_pair, own_pair}

-- a number stays or goes on
abbrev Rises : ℕ → ℕ → Type 0
Rises before after = (after ≡ before) ⊎ (after ≡ next_sequence before)

pub either : {X : Type 0} (o : Option X) → ((x : X) × (o ≡ Some x)) ⊎ (o ≡ None)
either None = inr refl
either (Some x) = inl (x, refl)

number_of : (o : Option Observer) (n : ℕ) → option_map (λ w. w.sequence) o ≡ Some n → (w : Observer) × (o ≡ Some w) × (w.sequence ≡ n)
number_of None n e = absurd (cc)
number_of (Some w) n e = (w, refl, (cc))

-- ---- searches once endpoints were given up

absent_of : (q : Observer → Bool) (ws : List Observer) → find q ws ≡ None → list_any q ws ≡ false
absent_of q ws none = none_passes q ws none

pub kept_after : (q : Observer → Bool) (now : ℕ) (ws us : List Observer) → GivesUp now ws us → (w v : Observer) → count q ws ≤ 1
    → find q ws ≡ Some w → find q us ≡ Some v → v ≡ w
kept_after q now _ _ (nobody ws us nobody_due is) w v most found kept =
    let at : find q ws ≡ Some v = subst (λ (vs : List Observer). find q vs ≡ Some v) is kept in
    let two : Some v ≡ Some w = sym at ∙ found in (cc)
kept_after q now _ _ (endpoint from ws us due rest) w v most found kept = elim (either (find q (filter (λ x. not (is_from from x)) ws))) [
  | inl some ↦
      let one = found_kept q (λ x. not (is_from from x)) ws w some.0 most found some.1 in
      let le = count_filter q (λ x. not (is_from from x)) ws in
      kept_after q now (filter (λ x. not (is_from from x)) ws) us rest some.0 v (omega (arith, le, most)) some.1 kept ∙ one
  | inr none ↦
      absurd (not_found q us v (absent_after q now (filter (λ x. not (is_from from x)) ws) us rest (absent_of q (filter (λ x. not (is_from from x)) ws) none)) kept)
]

pub kept_before : (q : Observer → Bool) (now : ℕ) (ws us : List Observer) (v : Observer) → GivesUp now ws us → count q ws ≤ 1
    → find q us ≡ Some v → find q ws ≡ Some v
kept_before q now ws us v gives most kept = elim (either (find q ws)) [
  | inl some ↦ some.1 ∙ ap (λ (x : Observer). Some x) (sym (kept_after q now ws us gives some.0 v most some.1 kept))
  | inr none ↦ absurd (not_found q us v (absent_after q now ws us gives (absent_of q ws none)) kept)
]

-- ---- one call

rise_option : (f : Observer → Observer) → ((x : Observer) → Rises x.sequence (f x).sequence) → (o : Option Observer) (before after : ℕ)
    → option_map (λ w. w.sequence) o ≡ Some before → option_map (λ w. w.sequence) (option_map f o) ≡ Some after → Rises before after
rise_option f rises None before after b a = absurd (cc)
rise_option f rises (Some w) before after b a =
    let from : w.sequence ≡ before = (cc) in
    let to : (f w).sequence ≡ after = (cc) in
    elim (rises w) [
      | inl e ↦ inl (sym to ∙ e ∙ from)
      | inr e ↦ inr (sym to ∙ e ∙ ap next_sequence from)
    ]

rise_map : (q : Observer → Bool) (f : Observer → Observer) → ((x : Observer) → q (f x) ≡ q x) → ((x : Observer) → Rises x.sequence (f x).sequence)
    → (ws : List Observer) (before after : ℕ) → option_map (λ w. w.sequence) (find q ws) ≡ Some before
    → option_map (λ w. w.sequence) (find q (map f ws)) ≡ Some after → Rises before after
rise_map q f keeps rises ws before after b a =
    rise_option f rises (find q ws) before after b
    (ap (λ (o : Option Observer). option_map (λ w. w.sequence) o) (sym (found_map q f keeps ws)) ∙ a)

at_test : (t : Bool) (f : Observer → Observer) (x : Observer) → Rises x.sequence (f x).sequence → Rises x.sequence (cond t (f x) x).sequence
at_test true f x rises = rises
at_test false f x rises = inl refl

where_rises : (p : Observer → Bool) (f : Observer → Observer) (x : Observer) → Rises x.sequence (f x).sequence → Rises x.sequence (where_so p f x).sequence
where_rises p f x rises = at_test (p x) f x rises

rise_filter : (q r : Observer → Bool) (ws : List Observer) (before after : ℕ) → count q ws ≤ 1
    → option_map (λ w. w.sequence) (find q ws) ≡ Some before → option_map (λ w. w.sequence) (find q (filter r ws)) ≡ Some after → Rises before after
rise_filter q r ws before after most b a =
    let from = number_of (find q ws) before b in
    let to = number_of (find q (filter r ws)) after a in
    let one = found_kept q r ws from.0 to.0 most from.1 to.1 in
    inl (sym to.2 ∙ ap (λ (x : Observer). x.sequence) one ∙ from.2)

rise_first : (q p : Observer → Bool) (f : Observer → Observer) (ws : List Observer) (c w v : Observer) → find p ws ≡ Some c
    → ((x : Observer) → q (f x) ≡ q x) → Rises c.sequence (f c).sequence → count q ws ≤ 1 → find q ws ≡ Some w
    → find q (with_first p f ws) ≡ Some v → Rises w.sequence v.sequence
rise_first q p f ws c w v found keeps rises most before after = elim (cases_Bool (q c)) [
  | inl it ↦
      let both_are = found_changed q p f ws c found it (keeps c ∙ it) most in
      let from : Some c ≡ Some w = sym both_are.0 ∙ before in
      let to : Some (f c) ≡ Some v = sym both_are.1 ∙ after in
      let from_it : c ≡ w = (cc) in
      let to_it : f c ≡ v = (cc) in
      subst (λ (x : Observer). Rises x.sequence v.sequence) from_it (subst (λ (x : Observer). Rises c.sequence x.sequence) to_it rises)
  | inr other ↦
      let stays = found_beside q p f ws c found other (keeps c ∙ other) in
      let one : Some v ≡ Some w = sym after ∙ stays ∙ before in
      let is : v ≡ w = (cc) in
      inl (ap (λ (x : Observer). x.sequence) is)
]

rise_sends : (now id : ℕ) (ws us : List Observer) (n : Option Notice) → Sends now id ws n us → (from : Endpoint) (token : List ℕ) (w v : Observer)
    → count (is_pair from token) ws ≤ 1 → find (is_pair from token) ws ≡ Some w → find (is_pair from token) us ≡ Some v → Rises w.sequence v.sequence
rise_sends now id ws _ _ (same c s m us found plain was notice is) from token w v most before after =
    rise_first (is_pair from token) (is_due now) (resent now) ws c w v found (λ x. refl) (inl refl) most before
    (subst (λ (vs : List Observer). find (is_pair from token) vs ≡ Some v) is after)
rise_sends now id ws _ _ (newer c m us found marked_one notice is) from token w v most before after =
    rise_first (is_pair from token) (is_due now) (renewed now id) ws c w v found (λ x. refl) (inr refl) most before
    (subst (λ (vs : List Observer). find (is_pair from token) vs ≡ Some v) is after)
rise_sends now id ws _ _ (first c m us none_due found notice is) from token w v most before after =
    rise_first (is_pair from token) (is_sendable ws) (notified now id) ws c w v found (λ x. refl) (inr refl) most before
    (subst (λ (vs : List Observer). find (is_pair from token) vs ≡ Some v) is after)
rise_sends now id ws _ _ (nothing us none_due none_free is) from token w v most before after =
    let at : find (is_pair from token) ws ≡ Some v = subst (λ (vs : List Observer). find (is_pair from token) vs ≡ Some v) is after in
    let one : Some v ≡ Some w = sym at ∙ before in
    let it : v ≡ w = (cc) in
    inl (ap (λ (x : Observer). x.sequence) it)

gone_sends : (q : Observer → Bool) (now id : ℕ) (ws us : List Observer) (n : Option Notice) → Sends now id ws n us
    → ((f : Observer → Observer) → ((x : Observer) → (f x).from ≡ x.from) → ((x : Observer) → (f x).token ≡ x.token) → (x : Observer) → q (f x) ≡ q x)
    → list_any q ws ≡ false → list_any q us ≡ false
gone_sends q now id ws _ _ (same c s m us found plain was notice is) keeps absent =
    subst (λ (vs : List Observer). list_any q vs ≡ false) (sym is) (any_first q (is_due now) (resent now) (keeps (resent now) (λ x. refl) (λ x. refl)) ws ∙ absent)
gone_sends q now id ws _ _ (newer c m us found marked_one notice is) keeps absent =
    subst (λ (vs : List Observer). list_any q vs ≡ false) (sym is) (any_first q (is_due now) (renewed now id) (keeps (renewed now id) (λ x. refl) (λ x. refl)) ws ∙ absent)
gone_sends q now id ws _ _ (first c m us none_due found notice is) keeps absent =
    subst (λ (vs : List Observer). list_any q vs ≡ false) (sym is) (any_first q (is_sendable ws) (notified now id) (keeps (notified now id) (λ x. refl) (λ x. refl)) ws ∙ absent)
gone_sends q now id ws _ _ (nothing us none_due none_free is) keeps absent = subst (λ (vs : List Observer). list_any q vs ≡ false) (sym is) absent

-- the list that was left when a notification was sent has the observer that was there before
left_has : (q : Observer → Bool) (now id : ℕ) (ws us : List Observer) (n : Option Notice) (v : Observer) → Sends now id ws n us
    → ((f : Observer → Observer) → ((x : Observer) → (f x).from ≡ x.from) → ((x : Observer) → (f x).token ≡ x.token) → (x : Observer) → q (f x) ≡ q x)
    → find q us ≡ Some v → (w : Observer) × (find q ws ≡ Some w)
left_has q now id ws us n v sent keeps after = elim (either (find q ws)) [
  | inl some ↦ some
  | inr none ↦ absurd (not_found q us v (gone_sends q now id ws us n sent keeps (none_passes q ws none)) after)
]

pair_keeps : (from : Endpoint) (token : List ℕ) (f : Observer → Observer) → ((x : Observer) → (f x).from ≡ x.from) → ((x : Observer) → (f x).token ≡ x.token)
    → (x : Observer) → is_pair from token (f x) ≡ is_pair from token x
pair_keeps from token f ends tokens x = λ i. is_same_endpoint from (ends x i) && bytes_eq token (tokens x i)

pub number_rises : (capacity : ℕ) (t u : Watching) (from : Endpoint) (token : List ℕ) (before after : ℕ) → Comes capacity t → Goes Any t u
    → last_number from token t.list ≡ Some before → last_number from token u.list ≡ Some after
    → (after ≡ before) ⊎ (after ≡ next_sequence before)
number_rises capacity t u from token before after comes (registers f name target (Replaced n) may reg) b a =
    rise_map (is_pair from token) (where_so (is_pair f name) (replaced target))
    (λ x. where_same (is_pair from token) (is_pair f name) (replaced target) x refl)
    (λ x. where_rises (is_pair f name) (replaced target) x (inr refl)) t.list before after b
    (subst (λ (x : Watching). last_number from token x.list ≡ Some after) reg.1 a)
number_rises capacity t u from token before after comes (registers f name target (New n) may reg) b a =
    let it = number_of (find (is_pair from token) t.list) before b in
    let stays : find (is_pair from token) (t.list ++ newcomer f name target ∷ []) ≡ Some it.0 =
    find-append (is_pair from token) t.list (newcomer f name target ∷ []) ∙ ap (λ (o : Option Observer). option_or o (find (is_pair from token) (newcomer f name target ∷ []))) it.1 in
    let at : option_map (λ (w : Observer). w.sequence) (find (is_pair from token) (t.list ++ newcomer f name target ∷ [])) ≡ Some after =
    subst (λ (x : Watching). last_number from token x.list ≡ Some after) reg.3 a in
    let one : Some it.0.sequence ≡ Some after = sym (ap (λ (o : Option Observer). option_map (λ (w : Observer). w.sequence) o) stays) ∙ at in
    let is : it.0.sequence ≡ after = (cc) in
    inl (sym is ∙ it.2)
number_rises capacity t u from token before after comes (registers f name target Full may reg) b a =
    let at : last_number from token t.list ≡ Some after = subst (λ (x : Watching). last_number from token x.list ≡ Some after) reg.2 a in
    let one : Some after ≡ Some before = sym at ∙ b in
    inl (cc)
number_rises capacity t u from token before after comes (cancels f name is) b a =
    rise_filter (is_pair from token) (λ x. not (is_pair f name x)) t.list before after (one_pair capacity t comes from token) b
    (subst (λ (x : Watching). last_number from token x.list ≡ Some after) is a)
number_rises capacity t u from token before after comes (emits target is) b a =
    rise_map (is_pair from token) (where_so (is_of_target target) marked)
    (λ x. where_same (is_pair from token) (is_of_target target) marked x refl)
    (λ x. where_rises (is_of_target target) marked x (inl refl)) t.list before after b
    (subst (λ (x : Watching). last_number from token x.list ≡ Some after) is a)
number_rises capacity t u from token before after comes (acknowledges f id is) b a =
    rise_map (is_pair from token) (where_so (is_sent_as f id) acknowledged)
    (λ x. where_same (is_pair from token) (is_sent_as f id) acknowledged x refl)
    (λ x. where_rises (is_sent_as f id) acknowledged x (inl refl)) t.list before after b
    (subst (λ (x : Watching). last_number from token x.list ≡ Some after) is a)
number_rises capacity t u from token before after comes (rejects f id is) b a =
    rise_filter (is_pair from token) (λ x. not (is_sent_as f id x)) t.list before after (one_pair capacity t comes from token) b
    (subst (λ (x : Watching). last_number from token x.list ≡ Some after) is a)
number_rises capacity t u from token before after comes (sends now id n same_capacity notifies) b a =
    let it = number_of (find (is_pair from token) t.list) before b in
    let later = number_of (find (is_pair from token) u.list) after a in
    let most = one_pair capacity t comes from token in
    let le = fewer_after (is_pair from token) now t.list notifies.left notifies.gives_up in
    let mid = left_has (is_pair from token) now id notifies.left u.list n later.0 notifies.sends (pair_keeps from token) later.1 in
    let is = kept_after (is_pair from token) now t.list notifies.left notifies.gives_up it.0 mid.0 most it.1 mid.1 in
    let rises = rise_sends now id notifies.left u.list n notifies.sends from token mid.0 later.0 (omega (arith, le, most)) mid.1 later.1 in
    elim rises [
      | inl e ↦ inl (sym later.2 ∙ e ∙ ap (λ (x : Observer). x.sequence) is ∙ it.2)
      | inr e ↦ inr (sym later.2 ∙ e ∙ ap (λ (x : Observer). next_sequence x.sequence) is ∙ ap next_sequence it.2)
    ]

-- ---- the number that is said

replaced_number : (q : Observer → Bool) (target : ℕ) (w : Observer) → q w ≡ true → (where_so q (replaced target) w).sequence ≡ next_sequence w.sequence
replaced_number q target w it = ap (λ (t : Bool). (cond t (replaced target w) w).sequence) it

next_of : (o : Option Observer) (n : ℕ) → option_map (λ w. next_sequence w.sequence) o ≡ Some n → (w : Observer) × (o ≡ Some w) × (next_sequence w.sequence ≡ n)
next_of None n e = absurd (cc)
next_of (Some w) n e = (w, refl, (cc))

pub registration_says : (from : Endpoint) (token : List ℕ) (target : ℕ) (t u : Watching) (r : Registered) (n : ℕ) → Registers from token target t r u
    → sequence_of r ≡ Some n
    → (last_number from token u.list ≡ Some n) × (option_map next_sequence (last_number from token t.list) ≡ cond (is_new r) None (Some n))
registration_says from token target t u (Replaced m) n reg says =
    let q = is_pair from token in
    let is : m ≡ n = (cc) in
    let it = next_of (find q t.list) m reg.0 in
    let after : find q (map (where_so q (replaced target)) t.list) ≡ Some (where_so q (replaced target) it.0) =
    found_map q (where_so q (replaced target)) (λ x. where_same q q (replaced target) x refl) t.list
    ∙ ap (λ (o : Option Observer). option_map (where_so q (replaced target)) o) it.1 in
    let number = replaced_number q target it.0 (found_passes q t.list it.0 it.1) in (
      subst (λ (x : Watching). last_number from token x.list ≡ Some n) (sym reg.1)
          (ap (λ (o : Option Observer). option_map (λ (w : Observer). w.sequence) o) after ∙ ap (λ (k : ℕ). Some k) (number ∙ it.2 ∙ is)),
      ap (λ (o : Option Observer). option_map next_sequence (option_map (λ (w : Observer). w.sequence) o)) it.1 ∙ ap (λ (k : ℕ). Some k) (it.2 ∙ is),
    )
registration_says from token target t u (New m) n reg says =
    let q = is_pair from token in
    let is : m ≡ n = (cc) in
    let self = newcomer from token target in
    let after : find q (t.list ++ self ∷ []) ≡ Some self =
    find-append q t.list (self ∷ []) ∙ ap (λ (o : Option Observer). option_or o (find q (self ∷ []))) reg.0 ∙ here q self [] (own_pair self) in (
      subst (λ (x : Watching). last_number from token x.list ≡ Some n) (sym reg.3)
          (ap (λ (o : Option Observer). option_map (λ (w : Observer). w.sequence) o) after ∙ ap (λ (k : ℕ). Some k) (sym reg.2 ∙ is)),
      ap (λ (o : Option Observer). option_map next_sequence (option_map (λ (w : Observer). w.sequence) o)) reg.0,
    )
registration_says from token target t u Full n reg says = absurd (cc)

-- a notification is for the observer that it is made of
pub notification_for : (c : Observer) (id sequence : ℕ) (fresh : Bool) (n : Notice) → IsNotification c id sequence fresh n
    → is_pair n.to (take n.token_length n.token) c ≡ true
notification_for c id sequence fresh n notice =
    (λ i. is_same_endpoint (notice.to i) c.from && bytes_eq (notice.token i) c.token) ∙ own_pair c

-- the number that is said of an observer that is found, and changed
record Says (q : Observer → Bool) (ws us : List Observer) (n : Notice) : Type 0 where
  it : Observer
  was : find q ws ≡ Some it
  now : option_map (λ w. w.sequence) (find q us) ≡ Some n.sequence
  said : n.sequence ≡ cond n.fresh (next_sequence it.sequence) it.sequence

says_changed : (q p : Observer → Bool) (f : Observer → Observer) (ws us : List Observer) (c : Observer) (n : Notice) → find p ws ≡ Some c → q c ≡ true
    → q (f c) ≡ true → count q ws ≤ 1 → us ≡ with_first p f ws → (f c).sequence ≡ n.sequence
    → n.sequence ≡ cond n.fresh (next_sequence c.sequence) c.sequence → Says q ws us n
says_changed q p f ws us c n found it after most is number says =
    let both_are = found_changed q p f ws c found it after most in
    record {
      it = c;
      was = both_are.0;
      now = subst (λ (vs : List Observer). option_map (λ (w : Observer). w.sequence) (find q vs) ≡ Some n.sequence) (sym is)
          (ap (λ (o : Option Observer). option_map (λ (w : Observer). w.sequence) o) both_are.1 ∙ ap (λ (k : ℕ). Some k) number);
      said = says;
    }

sends_say : (now id : ℕ) (ws us : List Observer) (o : Option Notice) → Sends now id ws o us → (n : Notice) → o ≡ Some n
    → count (is_pair n.to (take n.token_length n.token)) ws ≤ 1 → Says (is_pair n.to (take n.token_length n.token)) ws us n
sends_say now id ws _ _ (same c s m us found plain was notice is) n e most =
    let one : m ≡ n = (cc) in
    let at : IsNotification c s.id c.sequence false n = subst (λ (x : Notice). IsNotification c s.id c.sequence false x) one notice in
    let for_it = notification_for c s.id c.sequence false n at in
    says_changed (is_pair n.to (take n.token_length n.token)) (is_due now) (resent now) ws us c n found for_it for_it most is (sym at.sequence_is)
    (at.sequence_is ∙ sym (ap (λ (t : Bool). cond t (next_sequence c.sequence) c.sequence) at.fresh_is))
sends_say now id ws _ _ (newer c m us found marked_one notice is) n e most =
    let one : m ≡ n = (cc) in
    let at : IsNotification c id (next_sequence c.sequence) true n = subst (λ (x : Notice). IsNotification c id (next_sequence c.sequence) true x) one notice in
    let for_it = notification_for c id (next_sequence c.sequence) true n at in
    says_changed (is_pair n.to (take n.token_length n.token)) (is_due now) (renewed now id) ws us c n found for_it for_it most is (sym at.sequence_is)
    (at.sequence_is ∙ sym (ap (λ (t : Bool). cond t (next_sequence c.sequence) c.sequence) at.fresh_is))
sends_say now id ws _ _ (first c m us none_due found notice is) n e most =
    let one : m ≡ n = (cc) in
    let at : IsNotification c id (next_sequence c.sequence) true n = subst (λ (x : Notice). IsNotification c id (next_sequence c.sequence) true x) one notice in
    let for_it = notification_for c id (next_sequence c.sequence) true n at in
    says_changed (is_pair n.to (take n.token_length n.token)) (is_sendable ws) (notified now id) ws us c n found for_it for_it most is (sym at.sequence_is)
    (at.sequence_is ∙ sym (ap (λ (t : Bool). cond t (next_sequence c.sequence) c.sequence) at.fresh_is))
sends_say now id ws _ _ (nothing us none_due none_free is) n e most = absurd (cc)

pub notice_says : (capacity : ℕ) (t : Watching) (now id : ℕ) (n : Notice) (us : List Observer) → Comes capacity t → Notifies now id t.list (Some n) us
    → (before : ℕ) × (last_number n.to (take n.token_length n.token) t.list ≡ Some before)
    × (last_number n.to (take n.token_length n.token) us ≡ Some n.sequence)
    × (n.sequence ≡ cond n.fresh (next_sequence before) before)
notice_says capacity t now id n us comes notifies =
    let q = is_pair n.to (take n.token_length n.token) in
    let most = one_pair capacity t comes n.to (take n.token_length n.token) in
    let le = fewer_after q now t.list notifies.left notifies.gives_up in
    let says = sends_say now id notifies.left us (Some n) notifies.sends n refl (omega (arith, le, most)) in
    let was = kept_before q now t.list notifies.left says.it notifies.gives_up most says.was in (
      says.it.sequence,
      ap (λ (o : Option Observer). option_map (λ (w : Observer). w.sequence) o) was,
      says.now,
      says.said,
    )
