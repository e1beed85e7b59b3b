-- Values never go back: the invariant, and its parts that a taken value and a sent notification keep.
use Rattle.std.proofs.Common.{◌≡◌, ◌≢◌, ◌⊎◌, ℕ, ◌-◌, ◌/◌, ◌^◌, ◌<◌, ◌≤◌, ◌∙◌, ◌&&◌, Bool, true, false, cond, Option, Some, None, List, [], ◌∷◌, ◌++◌, map, length, get_or, zero, suc, inl, inr, refl, sym, ap, subst, arith, append_assoc}
use Rattle.std.specs.Prelude.{◌==◌, All, AllPairs, Contains, slice_get}
use Rattle.std.proofs.lemmas.Bool.{cases_lt}
use Rattle.std.proofs.lemmas.Bool.Decides.{nat_tests}
use Rattle.std.proofs.lemmas.List.{append-nil, length_push, get_or_default}
use Rattle.std.proofs.lemmas.List.Elements.{All-append, All-map, All-push, All-weaker, All-head, All-tail, All-get_or, Contains-append_left}
use Rattle.std.proofs.lemmas.List.Quantifiers.{all_pairs_push}
use Rattle.std.proofs.lemmas.Option.{same_Some, slice_get_within, get_or_from_slice_get}
use Rattle.coap_msg.specs.declared.endpoint.Endpoint.{Endpoint}
use Rattle.coap_msg.specs.Grammar.{CoapMessage}
use Rattle.coap_msg.proofs.SameEndpoints.{both}
use Rattle.coap_client.specs.declared.outstanding.Outstanding.{Outstanding}
use Rattle.coap_client.specs.declared.observation.Observation.{Observation}
use Rattle.coap_client.specs.declared.observation.Latest.{Latest}
use Rattle.coap_client.specs.declared.state.State.{State}
use Rattle.coap_client.specs.declared.meaning.Meaning.{Meaning}
use Rattle.coap_client.specs.declared.meaning.Meaning.TheVariants as meant
use Rattle.coap_client.specs.Laws.{Did as ClientDid}
use Rattle.coap_client.specs.Answers.{takes as is_taken, is_for_observation, meaning, meaning_taken, meaning_else, notified, sequence_of, is_newer, is_newer_than, latest_of}
use Rattle.coap_client.proofs.TokenLaws.{registrations_differ}
use Rattle.servient_world.specs.declared.network.TheConstants.{MAX_LATENCY}
use Rattle.servient_world.specs.World.{Purpose, copy_of, reply_to, notification_for, other, Datagram, WorldState, Value, with_sent}
use Rattle.servient_world.proofs.Places.{at_last}
use Rattle.servient_world.proofs.Holds.{Holds}
use Rattle.servient_world.proofs.WatchLaws.{same_registration}
use Rattle.servient_world.proofs.MeaningLaws.{value_taken, at_true, observation_token}

-- ---- the invariant

-- of two notifications for one ask the later one is the earlier again, or has a greater number and no earlier value
abbrev pub MayFollow : ℕ → ℕ → ℕ → Purpose → Type 0
MayFollow k q e (notification_for j p f) = j ≡ k → ((p ≡ q) × (f ≡ e)) ⊎ ((p < q) × (f ≤ e))
MayFollow k q e (copy_of j) = Unit {0}
MayFollow k q e (reply_to j) = Unit {0}
MayFollow k q e other = Unit {0}

-- the purposes of which one may come after another
abbrev pub MayComeAfter : Purpose → Purpose → Type 0
MayComeAfter p (notification_for k q e) = MayFollow k q e p
MayComeAfter p (copy_of k) = Unit {0}
MayComeAfter p (reply_to k) = Unit {0}
MayComeAfter p other = Unit {0}

pub record IsAfter (c d : Datagram) : Type 0 where
  pub moment : c.moment ≤ d.moment
  pub order : MayComeAfter c.purpose d.purpose

abbrev pub HasNumber : Purpose → Type 0
HasNumber (notification_for k q e) = (0 < q) × (q < 2 ^ 23)
HasNumber (copy_of k) = Unit {0}
HasNumber (reply_to k) = Unit {0}
HasNumber other = Unit {0}

-- the latest value of an ask is the one that was read, or a notification's
pub data IsLatest (sent : List Datagram) (k : ℕ) (l : Latest) (top : ℕ) : Type 0 where
  is_read : l.sequence ≡ 0 → top ≡ 0 → IsLatest sent k l top
  is_notification : (d : Datagram) → Contains sent d → d.purpose ≡ notification_for k l.sequence top → d.moment ≤ l.moment → IsLatest sent k l top

abbrev pub Tops : List Datagram → List Value → ℕ → Option Latest → Type 0
Tops sent taken k None = All (λ x. x.ask ≢ k) taken
Tops sent taken k (Some l) = (top : ℕ) × IsLatest sent k l top × All (λ x. x.ask ≡ k → x.place ≤ top) taken

-- no value of an ask is after a later one
abbrev pub IsNoLater : Value → Value → Type 0
IsNoLater x y = x.ask ≡ y.ask → x.place ≤ y.place

pub record Valued (w : WorldState) : Type 0 where
  pub order : AllPairs IsAfter w.sent
  pub numbers : All (λ d. HasNumber d.purpose) w.sent
  pub asked : All (λ x. x.ask < length w.asks) w.taken
  pub tops : (o : Observation) → w.client.observation ≡ Some o → (k : ℕ) (a : Outstanding) → slice_get w.asks k ≡ Some a → a.registers ≡ true → a.token ≡ o.token
      → Tops w.sent w.taken k o.latest
  pub rising : AllPairs IsNoLater w.taken

-- ---- more is sent

latest_more : (sent more : List Datagram) (k : ℕ) (l : Latest) (top : ℕ) → IsLatest sent k l top → IsLatest (sent ++ more) k l top
latest_more sent more k l top (is_read zero_it none) = is_read zero_it none
latest_more sent more k l top (is_notification d has purpose moment) = is_notification d (Contains-append_left sent more d has) purpose moment

pub tops_more : (sent more : List Datagram) (taken : List Value) (k : ℕ) (x : Option Latest) → Tops sent taken k x → Tops (sent ++ more) taken k x
tops_more sent more taken k None t = t
tops_more sent more taken k (Some l) t = (t.0, latest_more sent more k l t.0 t.1, t.2)

-- a datagram that was sent now, and is no notification
record IsPlain (now : ℕ) (d : Datagram) : Type 0 where
  at : d.moment ≡ now
  plain : (p : Purpose) → MayComeAfter p d.purpose
  number : HasNumber d.purpose

order_more : (now : ℕ) (sent more : List Datagram) → All (λ d. d.moment ≤ now) sent → AllPairs IsAfter sent → All (IsPlain now) more → AllPairs IsAfter (sent ++ more)
order_more now sent [] past order plain = subst (AllPairs IsAfter) (sym (append-nil sent)) order
order_more now sent (d ∷ more) past order plain =
    let this = All-head (IsPlain now) d more plain in
    let at = this.at in
    subst (AllPairs IsAfter) (append_assoc sent (d ∷ []) more)
    (order_more now (sent ++ d ∷ []) more
    (All-push (λ (c : Datagram). c.moment ≤ now) sent d past (omega arith))
    (all_pairs_push IsAfter sent d order (λ i c within.
    let before = All-get_or (λ (x : Datagram). x.moment ≤ now) sent i c within past in
    record { moment = omega arith; order = this.plain (get_or sent i c).purpose }))
    (All-tail (IsPlain now) d more plain))

numbers_more : (now : ℕ) (sent more : List Datagram) → All (λ d. HasNumber d.purpose) sent → All (IsPlain now) more → All (λ d. HasNumber d.purpose) (sent ++ more)
numbers_more now sent more all plain =
    All-append (λ (d : Datagram). HasNumber d.purpose) sent more all (All-weaker (IsPlain now) (λ (d : Datagram). HasNumber d.purpose) (λ d is. is.number) more plain)

-- the world in which these were sent as well
pub valued_sent : (w : WorldState) (from to : Endpoint) (p : Purpose) (said : List (List ℕ)) → Valued w → All (λ d. d.moment ≤ w.moment) w.sent → ((q : Purpose) → MayComeAfter q p) → HasNumber p
    → Valued (with_sent w from to p said)
valued_sent w from to p said v past plain number =
    let one : List ℕ → Datagram = λ bytes. record { moment = w.moment; from = from; to = to; bytes = bytes; purpose = p } in
    let each : All (IsPlain w.moment) (map one said) = All-map (IsPlain w.moment) one said (λ i d within. record { at = refl; plain = plain; number = number }) in
    record {
      order = order_more w.moment w.sent (map one said) past v.order each;
      numbers = numbers_more w.moment w.sent (map one said) v.numbers each;
      asked = v.asked;
      tops = λ o is k a at reg same. tops_more w.sent (map one said) w.taken k o.latest (v.tops o is k a at reg same);
      rising = v.rising;
    }

-- ---- the client changes, and takes no value

pub valued_client : (w u : WorldState) → u.sent ≡ w.sent → u.asks ≡ w.asks → u.taken ≡ w.taken → ((o : Observation) → u.client.observation ≡ Some o → w.client.observation ≡ Some o) → Valued w → Valued u
valued_client w u sent asks taken back v = record {
  order = subst (AllPairs IsAfter) (sym sent) v.order;
  numbers = subst (All (λ d. HasNumber d.purpose)) (sym sent) v.numbers;
  asked = subst (λ (l : List Outstanding). All (λ x. x.ask < length l) u.taken) (sym asks) (subst (All (λ x. x.ask < length w.asks)) (sym taken) v.asked);
  tops = λ o is k a at reg same.
      subst (λ (l : List Datagram). Tops l u.taken k o.latest) (sym sent)
      (subst (λ (l : List Value). Tops w.sent l k o.latest) (sym taken)
      (v.tops o (back o is) k a (subst (λ (l : List Outstanding). slice_get l k ≡ Some a) asks at) reg same));
  rising = subst (AllPairs IsNoLater) (sym taken) v.rising;
}

-- ---- the client asks

asked_seen : (before : Option Observation) (r : Outstanding) (b : Bool) (o : Observation) → r.registers ≡ b → cond b (Some (record { peer = r.peer; token = r.token; latest = None })) before ≡ Some o
    → ((r.registers ≡ true) × (r.token ≡ o.token) × (o.latest ≡ None)) ⊎ ((r.registers ≡ false) × (before ≡ Some o))
asked_seen before r true o reg e =
    let same = same_Some (record { peer = r.peer; token = r.token; latest = None }) o e in
    inl (reg, ap (λ (q : Observation). q.token) same, sym (ap (λ (q : Observation). q.latest) same))
asked_seen before r false o reg e = inr (reg, e)

at_before : (xs : List Outstanding) (x y : Outstanding) (k : ℕ) → slice_get (xs ++ x ∷ []) k ≡ Some y → ((k < length xs) × (slice_get xs k ≡ Some y)) ⊎ ((k ≡ length xs) × (x ≡ y))
at_before [] x y zero e = inr (refl, same_Some x y e)
at_before [] x y (suc k) e = absurd (cc)
at_before (z ∷ xs) x y zero e = inl (omega arith, e)
at_before (z ∷ xs) x y (suc k) e = elim (at_before xs x y k e) [
  | inl h ↦ inl (let below = h.0 in omega arith, h.1)
  | inr h ↦ inr (ap suc h.0, h.1)
]

pub valued_asked : (w : WorldState) (t : State) (r : Outstanding) → ClientDid (w.asks ++ r ∷ []) t → length w.asks < 65536 → t.observation ≡ cond r.registers (Some (record { peer = r.peer; token = r.token; latest = None })) w.client.observation
    → Valued w → Valued (record w { client = t; asks = w.asks ++ r ∷ [] })
valued_asked w t r did few seen v =
    let count = length_push w.asks r in
    let differ = registrations_differ (w.asks ++ r ∷ []) t did (omega arith) in
    record {
      order = v.order;
      numbers = v.numbers;
      asked = All-weaker (λ (x : Value). x.ask < length w.asks) (λ (x : Value). x.ask < length (w.asks ++ r ∷ [])) (λ x h. omega arith) w.taken v.asked;
      tops = λ o is k a at reg same. elim (asked_seen w.client.observation r r.registers o refl (sym seen ∙ is)) [
        | inl new ↦ elim (at_before w.asks r a k at) [
          | inl old ↦
              let in_k : k < length (w.asks ++ r ∷ []) = let h = old.0 in omega arith in
              let one : get_or (w.asks ++ r ∷ []) k a ≡ a = get_or_from_slice_get (w.asks ++ r ∷ []) k a a at in
              let two : get_or (w.asks ++ r ∷ []) (length w.asks) a ≡ r = get_or_from_slice_get (w.asks ++ r ∷ []) (length w.asks) r a (at_last w.asks r) in
              absurd (differ k (length w.asks) a old.0 (omega arith) (ap (λ (x : Outstanding). x.registers) two ∙ new.0)
              (ap (λ (x : Outstanding). x.token) one ∙ (same ∙ (sym new.1 ∙ sym (ap (λ (x : Outstanding). x.token) two)))))
          | inr last ↦ subst (Tops w.sent w.taken k) (sym new.2) (All-weaker (λ (x : Value). x.ask < length w.asks) (λ (x : Value). x.ask ≢ k) (λ x h e. absurd (let place = last.0 in omega arith)) w.taken v.asked)
        ]
        | inr old ↦ elim (at_before w.asks r a k at) [
          | inl before ↦ v.tops o old.1 k a before.1 reg same
          | inr last ↦ absurd (let no_one : r.registers ≡ false = old.0 in let yes_one : r.registers ≡ true = ap (λ (x : Outstanding). x.registers) last.1 ∙ reg in cc)
        ]
      ];
      rising = v.rising;
    }

-- ---- the place of a value

abbrev number_in : Meaning → ℕ
number_in (meant.Value q) = q
number_in meant.Old = 0
number_in meant.Response = 0
number_in meant.Reset = 0
number_in meant.Received = 0
number_in meant.Foreign = 0

newer_at : (b : Bool) (p q : ℕ) → cond b (meant.Value p) meant.Old ≡ meant.Value q → (p ≡ q) × (b ≡ true)
newer_at true p q e = (ap number_in e, refl)
newer_at false p q e = absurd (cc)

numbered : (s : State) (n : Option ℕ) (q : ℕ) → meaning_taken s n ≡ meant.Value q → (n ≡ Some q) × (is_newer (latest_of s.observation) s.moment q ≡ true)
numbered s None q e = absurd (cc)
numbered s (Some p) q e =
    let h = newer_at (is_newer (latest_of s.observation) s.moment p) p q e in
    (ap (λ (x : ℕ). Some x) h.0, subst (λ (x : ℕ). is_newer (latest_of s.observation) s.moment x ≡ true) h.0 h.1)

pub value_says : (s : State) (from : Endpoint) (m : CoapMessage) (q : ℕ) → meaning s from m ≡ meant.Value q → (notified s from m ≡ Some q) × (is_newer (latest_of s.observation) s.moment q ≡ true)
value_says s from m q e =
    let taken = value_taken s from m q e in
    numbered s (notified s from m) q (sym (at_true (is_taken s from m) (meaning_taken s (notified s from m)) (meaning_else s from m m.kind) taken) ∙ e)

shown_if : (b : Bool) (x : Option ℕ) (q : ℕ) → cond b x None ≡ Some q → (b ≡ true) × (x ≡ Some q)
shown_if true x q e = (refl, e)
shown_if false x q e = absurd (cc)

pub notified_says : (s : State) (from : Endpoint) (m : CoapMessage) (q : ℕ) → notified s from m ≡ Some q → (is_for_observation s.observation from m.token ≡ true) × (sequence_of m.options ≡ Some q)
notified_says s from m q e =
    let h = shown_if (m.code / 32 == 2 && is_for_observation s.observation from m.token) (sequence_of m.options) q e in ((both _ _ h.0).1, h.1)

pub observed_some : (x : Option Observation) (from : Endpoint) (token : List ℕ) → is_for_observation x from token ≡ true → (o : Observation) × (x ≡ Some o) × (token ≡ o.token)
observed_some None from token e = absurd (cc)
observed_some (Some o) from token e = (o, refl, observation_token o from token e)

-- ---- a value is taken

pub record IsTaken (w : WorldState) (t : State) (q k place : ℕ) : Type 0 where
  pub observation : Observation
  pub was : w.client.observation ≡ Some observation
  pub now : t.observation ≡ Some (record observation { latest = Some (record { sequence = q; moment = w.moment }) })
  pub request : Outstanding
  pub ask : slice_get w.asks k ≡ Some request
  pub registers_it : request.registers ≡ true
  pub token : request.token ≡ observation.token
  pub no_later : All (λ x. x.ask ≡ k → x.place ≤ place) w.taken
  pub newest : IsLatest w.sent k (record { sequence = q; moment = w.moment }) place

pub valued_value : (capacity : ℕ) (w : WorldState) (t : State) (ends : _) (q k place : ℕ) (payload : List ℕ) → Holds capacity w → length w.asks ≤ 65536 → IsTaken w t q k place → Valued w
    → Valued (record w { client = t; ends = ends; taken = w.taken ++ record { ask = k; place = place; payload = payload } ∷ [] })
valued_value capacity w t ends q k place payload h few it v =
    let value : Value = record { ask = k; place = place; payload = payload } in
    let within = slice_get_within w.asks k it.request it.ask in
    record {
      order = v.order;
      numbers = v.numbers;
      asked = All-push (λ (x : Value). x.ask < length w.asks) w.taken value v.asked within;
      tops = λ o is j a at reg same.
          let one : record it.observation { latest = Some (record { sequence = q; moment = w.moment }) } ≡ o = same_Some _ o (sym it.now ∙ is) in
          let tokens : a.token ≡ it.request.token = same ∙ (sym (ap (λ (x : Observation). x.token) one) ∙ sym it.token) in
          let which : j ≡ k = same_registration w.asks j k a it.request (registrations_differ w.asks w.client h.did few) at it.ask reg it.registers_it tokens in
          let here : Tops w.sent (w.taken ++ value ∷ []) k (Some (record { sequence = q; moment = w.moment })) = (
            place,
            it.newest,
            All-push (λ (x : Value). x.ask ≡ k → x.place ≤ place) w.taken value it.no_later (λ e. omega arith),
          ) in
          subst (Tops w.sent (w.taken ++ value ∷ []) j) (ap (λ (x : Observation). x.latest) one) (subst (λ (n : ℕ). Tops w.sent (w.taken ++ value ∷ []) n (Some (record { sequence = q; moment = w.moment }))) (sym which) here);
      rising = all_pairs_push IsNoLater w.taken value v.rising (λ i d inside e. All-get_or (λ (x : Value). x.ask ≡ k → x.place ≤ place) w.taken i d inside it.no_later e);
    }

-- ---- a notification isn't before the values that were taken

abbrev sequence_in : Purpose → ℕ
sequence_in (notification_for k q e) = q
sequence_in (copy_of k) = 0
sequence_in (reply_to k) = 0
sequence_in other = 0

abbrev emission_in : Purpose → ℕ
emission_in (notification_for k q e) = e
emission_in (copy_of k) = 0
emission_in (reply_to k) = 0
emission_in other = 0

not_smaller : (l : Latest) (now sequence : ℕ) → is_newer_than l now sequence ≡ true → l.sequence < 2 ^ 23 → sequence < l.sequence → now - l.moment ≤ 128000 → ⊥
not_smaller l now sequence newer small below soon = grind (arith, nat_tests)

-- of two notifications of one ask, at their places
ordered : (sent : List Datagram) (i j : ℕ) (d c : Datagram) (k q e p f : ℕ) → AllPairs IsAfter sent → i < j → j < length sent → get_or sent i d ≡ d → get_or sent j d ≡ c → d.purpose ≡ notification_for k q e → c.purpose ≡ notification_for k p f
    → (d.moment ≤ c.moment) × (((q ≡ p) × (e ≡ f)) ⊎ ((q < p) × (e ≤ f)))
ordered sent i j d c k q e p f order before within at_i at_j is_d is_c =
    let after_it : IsAfter d c = subst (λ (x : Datagram). IsAfter x c) at_i (subst (λ (y : Datagram). IsAfter (get_or sent i d) y) at_j (order i j d before within)) in
    let may : MayComeAfter (notification_for k q e) (notification_for k p f) = subst (λ (x : Purpose). MayComeAfter x (notification_for k p f)) is_d (subst (λ (y : Purpose). MayComeAfter d.purpose y) is_c after_it.order) in
    (after_it.moment, may refl)

no_earlier : (w : WorldState) (i : ℕ) (d : Datagram) (k q e : ℕ) (l : Latest) (top : ℕ) → Valued w → slice_get w.sent i ≡ Some d → d.purpose ≡ notification_for k q e → w.moment - d.moment ≤ MAX_LATENCY
    → is_newer_than l w.moment q ≡ true → IsLatest w.sent k l top → top ≤ e
no_earlier w i d k q e l top v at is soon newer (is_read zero_it none) = omega arith
no_earlier w i d k q e l top v at is soon newer (is_notification c has is_c moment) =
    let in_i = slice_get_within w.sent i d at in
    let at_i : get_or w.sent i d ≡ d = get_or_from_slice_get w.sent i d d at in
    let at_i_c : get_or w.sent i c ≡ d = get_or_from_slice_get w.sent i d c at in
    let at_j_d : get_or w.sent has.0 d ≡ c = get_or_default w.sent has.0 d c has.1 ∙ has.2 in
    let small : l.sequence < 2 ^ 23 = (subst HasNumber is_c (subst (λ (x : Datagram). HasNumber x.purpose) has.2 (v.numbers has.0 c has.1))).1 in
    elim (cases_lt i has.0) [
      | inl before ↦
          let o = ordered w.sent i has.0 d c k q e l.sequence top v.order before has.1 at_i at_j_d is is_c in
          elim o.1 [
            | inl same ↦ let f = same.1 in omega arith
            | inr less ↦ let g = less.0 in let m = o.0 in absurd (not_smaller l w.moment q newer small g (omega arith))
          ]
      | inr not_before ↦ elim (cases_lt has.0 i) [
        | inl later ↦
            let o = ordered w.sent has.0 i c d k l.sequence top q e v.order later in_i has.2 at_i_c is_c is in
            elim o.1 [
              | inl same ↦ let f = same.1 in omega arith
              | inr less ↦ less.1
            ]
        | inr not_later ↦
            let place : i ≡ has.0 = omega arith in
            let one : d ≡ c = sym at_i ∙ (ap (λ (n : ℕ). get_or w.sent n d) place ∙ at_j_d) in
            let f : e ≡ top = sym (ap emission_in is) ∙ (ap (λ (x : Datagram). emission_in x.purpose) one ∙ ap emission_in is_c) in
            omega arith
      ]
    ]

pub notification_last : (w : WorldState) (i : ℕ) (d : Datagram) (k q e : ℕ) (x : Option Latest) → Valued w → slice_get w.sent i ≡ Some d → d.purpose ≡ notification_for k q e → w.moment - d.moment ≤ MAX_LATENCY
    → is_newer x w.moment q ≡ true → Tops w.sent w.taken k x → All (λ y. y.ask ≡ k → y.place ≤ e) w.taken
notification_last w i d k q e None v at is soon newer tops = All-weaker (λ (y : Value). y.ask ≢ k) (λ (y : Value). y.ask ≡ k → y.place ≤ e) (λ y no_one same. absurd (no_one same)) w.taken tops
notification_last w i d k q e (Some l) v at is soon newer tops =
    let more : tops.0 ≤ e = no_earlier w i d k q e l tops.0 v at is soon newer tops.1 in
    All-weaker (λ (y : Value). y.ask ≡ k → y.place ≤ tops.0) (λ (y : Value). y.ask ≡ k → y.place ≤ e) (λ y h same. let a = h same in omega arith) w.taken tops.2
