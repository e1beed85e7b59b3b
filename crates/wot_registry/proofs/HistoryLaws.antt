-- The entries that a directory gives out, by the changes that were made from the beginning.
use Rattle.std.proofs.Common.{arith, ◌≡◌, ◌≤◌, ℕ, List, [], ◌∷◌, ◌++◌, refl, sym, ap, subst, ◌∙◌, inl, inr, Bool, true, false, cond}
use Rattle.std.specs.Prelude.{Option, Some, None, not, nat_le, map, option_map}
use Rattle.std.specs.Str.{bytes_eq}
use Rattle.std.proofs.lemmas.Bool.{cases_Bool}
use Rattle.std.proofs.lemmas.Bool.Decides.{nat_tests}
use Rattle.wot_json.specs.Tree.{Json, AreOrdered}
use Rattle.wot_json.specs.Cutting.{IsBeforeAll}
use Rattle.wot_json.specs.Lookup.{member_named}
use Rattle.wot_json.specs.Merge.{with_member, without_member}
use Rattle.wot_json.proofs.MemberOrder.{rest_ordered, before_others, ordered_with}
use Rattle.wot_directory.specs.Contents.{Contents}
use Rattle.wot_directory.proofs.EntryLaws.{named_with}
use Rattle.wot_registry.specs.Times.{Times, times_of, without_times, expiry, is_reached, stands, stands_by, is_standing, changed}
use Rattle.wot_registry.specs.Registration.{without_registration, shown}
use Rattle.wot_registry.specs.Registry.{Registered, empty_registry, standing, changed_to, without_id, shown_under, shown_entries}
use Rattle.wot_registry.specs.Laws.{registered, removed, History, Does, puts, creates, patches, removes, leaves, Comes, begins, goes_on, Entry, still, entry_after, last_entry, due_out}
use Rattle.wot_registry.proofs.Names.{same_id, other_id, times_kept, named_kept, times_gone, named_gone, times_elsewhere, named_elsewhere, times_with}
use Rattle.wot_registry.proofs.Standing.{filter_ordered, with_ordered, without_ordered}

abbrev Entries : Type 0
Entries = List (List ℕ × Json)

-- ---- what stands later stood before

not_later : (now later m : ℕ) → now ≤ later → not (nat_le m now) ≡ false → not (nat_le m later) ≡ false
not_later now later m after over = grind (arith, nat_tests, after, over)

over_later : (now later : ℕ) (e : Option ℕ) → now ≤ later → not (is_reached now e) ≡ false → not (is_reached later e) ≡ false
over_later now later None after over = absurd (cc (over))
over_later now later (Some m) after over = not_later now later m after over

-- so what is left at a moment may be asked later as what was there before
again : {A : Type 0} (now later : ℕ) (t : Option Times) (x : Option A) → now ≤ later
    → cond (stands_by later (cond (stands_by now t) t None)) (cond (stands_by now t) x None) None ≡ cond (stands_by later t) x None
again now later None x after = refl
again {A} now later (Some t) x after = elim (cases_Bool (stands now t)) [
  | inl stays ↦ rw stays refl
  | inr over ↦ let late : stands later t ≡ false = over_later now later (expiry t) after over in rw (over, late) refl
]

-- ---- what is found under an id

times_at : (now : ℕ) (id : List ℕ) (r : Registered) → times_of id (standing now r).times ≡ cond (stands_by now (times_of id r.times)) (times_of id r.times) None
times_at now id r = times_kept (is_standing now r.times) id r.times

named_at : (now : ℕ) (id : List ℕ) (r : Registered)
    → member_named id (standing now r).contents.entries ≡ cond (stands_by now (times_of id r.times)) (member_named id r.contents.entries) None
named_at now id r = named_kept (is_standing now r.times) id r.contents.entries

times_again : (now later : ℕ) (id : List ℕ) (r : Registered) → now ≤ later → times_of id (standing later (standing now r)).times ≡ times_of id (standing later r).times
times_again now later id r after =
    times_at later id (standing now r)
    ∙ ap (λ (t : Option Times). cond (stands_by later t) t None) (times_at now id r)
    ∙ again now later (times_of id r.times) (times_of id r.times) after
    ∙ sym (times_at later id r)

named_again : (now later : ℕ) (id : List ℕ) (r : Registered) → now ≤ later
    → member_named id (standing later (standing now r)).contents.entries ≡ member_named id (standing later r).contents.entries
named_again now later id r after =
    named_at later id (standing now r)
    ∙ ap (λ (t : Option Times). cond (stands_by later t) (member_named id (standing now r).contents.entries) None) (times_at now id r)
    ∙ ap (λ (d : Option Json). cond (stands_by later (cond (stands_by now (times_of id r.times)) (times_of id r.times) None)) d None) (named_at now id r)
    ∙ again now later (times_of id r.times) (member_named id r.contents.entries) after
    ∙ sym (named_at later id r)

-- ---- the state follows the history

abbrev pub description_of : Option Entry → Option Json
description_of e = option_map (λ x. x.description) e

abbrev pub times_in : Option Entry → Option Times
times_in e = option_map (λ x. x.times) e

pub record Follows (epoch last : ℕ) (history : History) (r : Registered) : Type 0 where
  pub epoch_is : r.epoch ≡ epoch
  pub ordered : AreOrdered r.contents.entries
  pub times_are : (now : ℕ) → last ≤ now → (id : List ℕ) → times_of id (standing now r).times ≡ times_in (still now (last_entry id history))
  pub named_are : (now : ℕ) → last ≤ now → (id : List ℕ) → member_named id (standing now r).contents.entries ≡ description_of (still now (last_entry id history))

follows_first : (epoch : ℕ) → Follows epoch 0 [] (empty_registry epoch)
follows_first epoch = record {
  epoch_is = refl;
  ordered = tt;
  times_are = λ now from id. refl;
  named_are = λ now from id. refl;
}

-- nothing was changed but that some are over
follows_left : (epoch last now : ℕ) (history : History) (r : Registered) → last ≤ now → Follows epoch last history r → Follows epoch now history (standing now r)
follows_left epoch last now history r after f = record {
  epoch_is = f.epoch_is;
  ordered = filter_ordered (λ e. is_standing now r.times e.0) r.contents.entries f.ordered;
  times_are = λ later from id. times_again now later id r from ∙ f.times_are later (omega arith) id;
  named_are = λ later from id. named_again now later id r from ∙ f.named_are later (omega arith) id;
}

-- a new entry, or what was there
new_times : (now : ℕ) (t : Times) (d : Json) → cond (stands now t) (Some t) None ≡ times_in (still now (Some (record { description = d; times = t })))
new_times now t d = by (stands now t)
  where
    by : (b : Bool) → cond b (Some t) None ≡ times_in (cond b (Some (record { description = d; times = t })) None)
    by true = refl
    by false = refl

new_named : (now : ℕ) (t : Times) (d : Json) → cond (stands now t) (Some d) None ≡ description_of (still now (Some (record { description = d; times = t })))
new_named now t d = by (stands now t)
  where
    by : (b : Bool) → cond b (Some d) None ≡ description_of (cond b (Some (record { description = d; times = t })) None)
    by true = refl
    by false = refl

-- a description came under an id
module _ (epoch now : ℕ) (history : History) (s : Registered) (f : Follows epoch now history s) (own : List ℕ) (d : Json) (ttl : Option ℕ) (contents : Contents)
    (entries : contents.entries ≡ with_member own d s.contents.entries) where
  abbrev after : Registered
  after = changed_to contents own now ttl s

  abbrev new : Times
  new = changed now ttl (times_of own s.times)

  abbrev told : List ℕ → Times
  told id = changed now ttl (times_in (still now (last_entry id history)))

  -- all of it stands, since it is what stood at this moment
  own_stands : (id : List ℕ) → times_of id (standing now s).times ≡ times_of id s.times → id ≡ own → new ≡ told id
  own_stands id all is =
      ap (λ (t : Option Times). changed now ttl t)
      (ap (λ (x : List ℕ). times_of x s.times) (sym is) ∙ sym all ∙ f.times_are now (omega arith) id)

  times_after : (id : List ℕ) → times_of id after.times ≡ cond (bytes_eq id own) (Some new) (times_of id s.times)
  times_after id = times_with id own new s.times

  named_after : (id : List ℕ) → member_named id after.contents.entries ≡ cond (bytes_eq id own) (Some d) (member_named id s.contents.entries)
  named_after id = ap (λ (es : Entries). member_named id es) entries ∙ named_with id own d s.contents.entries

  times_then : (later : ℕ) → now ≤ later → (id : List ℕ) → times_of id (standing now s).times ≡ times_of id s.times
      → times_of id (standing later after).times ≡ times_in (still later (entry_after id now (registered own d ttl) (last_entry id history)))
  times_then later from id all =
      times_at later id after ∙ ap (λ (t : Option Times). cond (stands_by later t) t None) (times_after id) ∙ by (bytes_eq id own) refl
    where
      by : (b : Bool) → bytes_eq id own ≡ b
          → cond (stands_by later (cond b (Some new) (times_of id s.times))) (cond b (Some new) (times_of id s.times)) None
          ≡ times_in (still later (cond b (Some (record { description = d; times = told id })) (last_entry id history)))
      by true same = ap (λ (t : Times). cond (stands later t) (Some t) None) (own_stands id all (same_id id own same)) ∙ new_times later (told id) d
      by false apart = sym (times_at later id s) ∙ f.times_are later from id

  named_then : (later : ℕ) → now ≤ later → (id : List ℕ) → times_of id (standing now s).times ≡ times_of id s.times
      → member_named id (standing later after).contents.entries ≡ description_of (still later (entry_after id now (registered own d ttl) (last_entry id history)))
  named_then later from id all =
      named_at later id after
      ∙ ap (λ (t : Option Times). cond (stands_by later t) (member_named id after.contents.entries) None) (times_after id)
      ∙ ap (λ (x : Option Json). cond (stands_by later (cond (bytes_eq id own) (Some new) (times_of id s.times))) x None) (named_after id)
      ∙ by (bytes_eq id own) refl
    where
      by : (b : Bool) → bytes_eq id own ≡ b
          → cond (stands_by later (cond b (Some new) (times_of id s.times))) (cond b (Some d) (member_named id s.contents.entries)) None
          ≡ description_of (still later (cond b (Some (record { description = d; times = told id })) (last_entry id history)))
      by true same = ap (λ (t : Times). cond (stands later t) (Some d) None) (own_stands id all (same_id id own same)) ∙ new_named later (told id) d
      by false apart = sym (named_at later id s) ∙ f.named_are later from id

-- entries that stand at a moment stand at it
same_twice : (now : ℕ) (id : List ℕ) (r : Registered) → times_of id (standing now (standing now r)).times ≡ times_of id (standing now r).times
same_twice now id r = times_again now now id r (omega arith)

follows_registered : (epoch last now : ℕ) (history : History) (r : Registered) (own : List ℕ) (d : Json) (ttl : Option ℕ) (contents : Contents) → last ≤ now
    → contents.entries ≡ with_member own d (standing now r).contents.entries → Follows epoch last history r
    → Follows epoch now ((now, registered own d ttl) ∷ history) (changed_to contents own now ttl (standing now r))
follows_registered epoch last now history r own d ttl contents after entries f =
    let s = follows_left epoch last now history r after f in
    record {
      epoch_is = s.epoch_is;
      ordered = subst AreOrdered (sym entries) (with_ordered own d (standing now r).contents.entries s.ordered);
      times_are = λ later from id. times_then epoch now history (standing now r) s own d ttl contents entries later from id (same_twice now id r);
      named_are = λ later from id. named_then epoch now history (standing now r) s own d ttl contents entries later from id (same_twice now id r);
    }

-- an entry was removed
module _ (epoch now : ℕ) (history : History) (s : Registered) (f : Follows epoch now history s) (own : List ℕ) where
  left_times : (later : ℕ) → now ≤ later → (id : List ℕ)
      → times_of id (standing later (without_id own s)).times ≡ times_in (still later (entry_after id now (removed own) (last_entry id history)))
  left_times later from id = times_at later id (without_id own s) ∙ by (bytes_eq id own) refl
    where
      by : (b : Bool) → bytes_eq id own ≡ b
          → cond (stands_by later (times_of id (without_times own s.times))) (times_of id (without_times own s.times)) None
          ≡ times_in (still later (cond b None (last_entry id history)))
      by true same =
          ap (λ (t : Option Times). cond (stands_by later t) t None)
          (ap (λ (x : List ℕ). times_of id (without_times x s.times)) (sym (same_id id own same)) ∙ times_gone id s.times)
      by false apart =
          ap (λ (t : Option Times). cond (stands_by later t) t None) (times_elsewhere own id s.times (other_id id own apart))
          ∙ sym (times_at later id s) ∙ f.times_are later from id

  left_named : (later : ℕ) → now ≤ later → (id : List ℕ)
      → member_named id (standing later (without_id own s)).contents.entries ≡ description_of (still later (entry_after id now (removed own) (last_entry id history)))
  left_named later from id = named_at later id (without_id own s) ∙ by (bytes_eq id own) refl
    where
      none : (b : Bool) (x : Option Json) → x ≡ None → cond b x None ≡ None
      none true x is = is
      none false x is = refl

      by : (b : Bool) → bytes_eq id own ≡ b
          → cond (stands_by later (times_of id (without_times own s.times))) (member_named id (without_member own s.contents.entries)) None
          ≡ description_of (still later (cond b None (last_entry id history)))
      by true same =
          none (stands_by later (times_of id (without_times own s.times))) (member_named id (without_member own s.contents.entries))
          (ap (λ (x : List ℕ). member_named id (without_member x s.contents.entries)) (sym (same_id id own same)) ∙ named_gone id s.contents.entries)
      by false apart =
          ap (λ (t : Option Times). cond (stands_by later t) (member_named id (without_member own s.contents.entries)) None) (times_elsewhere own id s.times (other_id id own apart))
          ∙ ap (λ (x : Option Json). cond (stands_by later (times_of id s.times)) x None) (named_elsewhere own id s.contents.entries (other_id id own apart))
          ∙ sym (named_at later id s) ∙ f.named_are later from id

follows_removed : (epoch last now : ℕ) (history : History) (r : Registered) (own : List ℕ) → last ≤ now → Follows epoch last history r
    → Follows epoch now ((now, removed own) ∷ history) (without_id own (standing now r))
follows_removed epoch last now history r own after f =
    let s = follows_left epoch last now history r after f in
    record {
      epoch_is = s.epoch_is;
      ordered = without_ordered own (standing now r).contents.entries s.ordered;
      times_are = λ later from id. left_times epoch now history (standing now r) s own later from id;
      named_are = λ later from id. left_named epoch now history (standing now r) s own later from id;
    }

-- ---- any call

-- the same, whatever it is called
moved : (epoch now : ℕ) (history whole : History) (r then : Registered) → whole ≡ history → then ≡ r → Follows epoch now history r → Follows epoch now whole then
moved epoch now history whole r then same is f =
    subst (λ (x : Registered). Follows epoch now whole x) (sym is) (subst (λ (h : History). Follows epoch now h r) (sym same) f)

follows_call : (epoch last now : ℕ) (before made : History) (r after : Registered) → last ≤ now → Follows epoch last before r → Does now r after made → Follows epoch now (made ++ before) after
follows_call epoch last now before made r after from f (puts id description is_new done is) =
    moved epoch now ((now, registered id (without_registration description) done.ttl) ∷ before) (made ++ before) (changed_to done.contents id now done.ttl (standing now r)) after
    (ap (λ (m : History). m ++ before) is) done.after_is
    (follows_registered epoch last now before r id (without_registration description) done.ttl done.contents from (ap (λ (d : Contents). d.entries) done.puts.after_is) f)
follows_call epoch last now before made r after from f (creates id description done is) =
    moved epoch now ((now, registered id (without_registration description) done.ttl) ∷ before) (made ++ before) (changed_to done.contents id now done.ttl (standing now r)) after
    (ap (λ (m : History). m ++ before) is) done.after_is
    (follows_registered epoch last now before r id (without_registration description) done.ttl done.contents from (ap (λ (d : Contents). d.entries) done.creates.after_is) f)
follows_call epoch last now before made r after from f (patches id patch description is_patched done is) =
    moved epoch now ((now, registered id (without_registration description) done.ttl) ∷ before) (made ++ before) (changed_to done.contents id now done.ttl (standing now r)) after
    (ap (λ (m : History). m ++ before) is) done.after_is
    (follows_registered epoch last now before r id (without_registration description) done.ttl done.contents from (ap (λ (d : Contents). d.entries) done.replaces.after_is) f)
follows_call epoch last now before made r after from f (removes id done is) =
    moved epoch now ((now, removed id) ∷ before) (made ++ before) (without_id id (standing now r)) after
    (ap (λ (m : History). m ++ before) is) done.after_is (follows_removed epoch last now before r id from f)
follows_call epoch last now before made r after from f (leaves same is) =
    moved epoch now before (made ++ before) (standing now r) after (ap (λ (m : History). m ++ before) is) same (follows_left epoch last now before r from f)

pub follows : (epoch last : ℕ) (history : History) (r : Registered) → Comes epoch last history r → Follows epoch last history r
follows epoch _ _ _ (begins r is) = subst (λ (x : Registered). Follows epoch 0 [] x) (sym is) (follows_first epoch)
follows epoch _ _ _ (goes_on last now before made r after comes from does) =
    follows_call epoch last now before made r after from (follows epoch last before r comes) does

-- ---- what is given out

shown_so : (epoch own : ℕ) (e : Option Entry) → own ≡ epoch → option_map (shown own (times_in e)) (description_of e) ≡ option_map (λ x. shown epoch (Some x.times) x.description) e
shown_so epoch own None is = refl
shown_so epoch own (Some e) is = ap (λ (n : ℕ). Some (shown n (Some e.times) e.description)) is

pub gives_out : (epoch last now : ℕ) (history : History) (r : Registered) → Comes epoch last history r → last ≤ now → (id : List ℕ) → shown_under id (standing now r) ≡ due_out epoch now id history
gives_out epoch last now history r comes from id =
    let f = follows epoch last history r comes in
    ap (λ (t : Option Times). option_map (shown r.epoch t) (member_named id (standing now r).contents.entries)) (f.times_are now from id)
    ∙ ap (λ (d : Option Json). option_map (shown r.epoch (times_in (still now (last_entry id history)))) d) (f.named_are now from id)
    ∙ shown_so epoch r.epoch (still now (last_entry id history)) f.epoch_is

-- descriptions that are changed each by itself
module _ (g : List ℕ → Json → Json) where
  abbrev each : Entries → Entries
  each es = map (λ e. (e.0, g e.0 e.1)) es

  each_before : (name : List ℕ) (es : Entries) → IsBeforeAll name es → IsBeforeAll name (each es)
  each_before name [] before = tt
  each_before name (e ∷ es) before = (before.0, each_before name es before.1)

  pub each_ordered : (es : Entries) → AreOrdered es → AreOrdered (each es)
  each_ordered [] ordered = tt
  each_ordered (e ∷ es) ordered =
      ordered_with (e.0, g e.0 e.1) (each es) (each_before e.0 es (before_others e es ordered)) (each_ordered es (rest_ordered e es ordered))

  pub each_named : (id : List ℕ) (es : Entries) → member_named id (each es) ≡ option_map (g id) (member_named id es)
  each_named id [] = refl
  each_named id (e ∷ es) = elim (cases_Bool (bytes_eq id e.0)) [
    | inl same ↦ rw same (ap (λ (x : List ℕ). Some (g x e.1)) (sym (same_id id e.0 same)))
    | inr apart ↦ rw apart (each_named id es)
  ]

pub lists_all : (epoch last now : ℕ) (history : History) (r : Registered) → Comes epoch last history r → last ≤ now
    → AreOrdered (shown_entries (standing now r)) × ((id : List ℕ) → member_named id (shown_entries (standing now r)) ≡ due_out epoch now id history)
lists_all epoch last now history r comes from =
    let s : Registered = standing now r in
    let f = follows epoch last history r comes in (
      each_ordered (λ id d. shown s.epoch (times_of id s.times) d) s.contents.entries (filter_ordered (λ e. is_standing now r.times e.0) r.contents.entries f.ordered),
      λ id. each_named (λ x d. shown s.epoch (times_of x s.times) d) id s.contents.entries ∙ gives_out epoch last now history r comes from id,
    )
