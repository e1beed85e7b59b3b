-- The entries that stand at a moment, and taking away those that are over.
use Rattle.std.proofs.Common.{◌≡◌, ℕ, List, [], ◌∷◌, refl, sym, ap, subst, ◌∙◌, inl, inr, Bool, true, false, cond}
use Rattle.std.specs.Prelude.{Option, Some, None, not, filter, is_some, Result, Ok, Err, OnOk, OnErr, IfErr}
use Rattle.std.specs.Str.{bytes_eq}
use Rattle.std.proofs.lemmas.Bool.{cases_Bool}
use Rattle.wot_json.specs.Tree.{Json, AreOrdered}
use Rattle.wot_json.specs.Cutting.{IsBefore, IsBeforeAll}
use Rattle.wot_json.specs.Lookup.{member_named}
use Rattle.wot_json.specs.Merge.{with_member, without_member}
use Rattle.wot_json.proofs.MemberOrder.{less, equal, greater, compares, rest_ordered, before_others, ordered_with}
use Rattle.wot_directory.specs.Contents.{Contents}
use Rattle.wot_directory.specs.Directory.{without_entry, Removes, HasRemoveFault}
use Rattle.wot_directory.specs.declared.fault.DirFault.{DirFault}
use Rattle.wot_directory.specs.declared.fault.DirFault.TheVariants.{NotFound, Invalid, IdDiffers, HasId, Full, NoMemory}
use Rattle.wot_directory.proofs.EntryLaws.{named_with}
use Rattle.wot_registry.specs.Times.{Times, times_of, without_times, stands_by, is_standing, standing_entries, changed}
use Rattle.wot_registry.specs.Registry.{Registered, IsRegistry, standing_contents, standing, changed_to, without_id}
use Rattle.wot_registry.proofs.Names.{same_id, without_is_filter, times_kept, named_kept, times_gone, named_gone, times_elsewhere, named_elsewhere, times_with, absent_first}

abbrev TimesList : Type 0
TimesList = List (List ℕ × Times)

abbrev Entries : Type 0
Entries = List (List ℕ × Json)

-- ---- names stay in order

before_filter : (name : List ℕ) (p : List ℕ × Json → Bool) (es : Entries) → IsBeforeAll name es → IsBeforeAll name (filter p es)
before_filter name p [] before = tt
before_filter name p (e ∷ es) before = elim (cases_Bool (p e)) [
  | inl passes ↦ rw passes (before.0, before_filter name p es before.1)
  | inr fails ↦ rw fails (before_filter name p es before.1)
]

pub filter_ordered : (p : List ℕ × Json → Bool) (es : Entries) → AreOrdered es → AreOrdered (filter p es)
filter_ordered p [] ordered = tt
filter_ordered p (e ∷ es) ordered =
    let rest = filter_ordered p es (rest_ordered e es ordered) in
    elim (cases_Bool (p e)) [
      | inl passes ↦ rw passes (ordered_with e (filter p es) (before_filter e.0 p es (before_others e es ordered)) rest)
      | inr fails ↦ rw fails rest
    ]

before_with : (first name : List ℕ) (v : Json) (es : Entries) → IsBefore first name → IsBeforeAll first es → IsBeforeAll first (with_member name v es)
before_with first name v [] before others = (before, tt)
before_with first name v (e ∷ es) before others = elim (compares name e.0) [
  | less is test ↦ rw is (before, others)
  | equal is same test ↦ rw is (before, others.1)
  | greater is behind test ↦ rw is (others.0, before_with first name v es before others.1)
]

pub with_ordered : (name : List ℕ) (v : Json) (es : Entries) → AreOrdered es → AreOrdered (with_member name v es)
with_ordered name v [] ordered = tt
with_ordered name v (e ∷ es) ordered =
    let others = before_others e es ordered in
    let rest = rest_ordered e es ordered in
    elim (compares name e.0) [
      | less is test ↦ rw is (is, ordered)
      | equal is same test ↦ rw is (ordered_with (name, v) es (subst (λ (n : List ℕ). IsBeforeAll n es) (sym same) others) rest)
      | greater is behind test ↦ rw is (ordered_with e (with_member name v es) (before_with e.0 name v es behind others) (with_ordered name v es rest))
    ]

pub without_ordered : (name : List ℕ) (es : Entries) → AreOrdered es → AreOrdered (without_member name es)
without_ordered name es ordered = subst AreOrdered (sym (without_is_filter name es)) (filter_ordered (λ e. not (bytes_eq name e.0)) es ordered)

-- ---- the directory is one still

some_kept : (b : Bool) (t : Option Times) (d : Option Json) → is_some t ≡ is_some d → is_some (cond b t None) ≡ is_some (cond b d None)
some_kept true t d same = same
some_kept false t d same = refl

pub standing_is : (now : ℕ) (r : Registered) → IsRegistry r → IsRegistry (standing now r)
standing_is now r is = record {
  timed = λ id.
      ap is_some (times_kept (is_standing now r.times) id r.times)
      ∙ some_kept (is_standing now r.times id) (times_of id r.times) (member_named id r.contents.entries) (is.timed id)
      ∙ ap is_some (sym (named_kept (is_standing now r.times) id r.contents.entries));
  ordered = filter_ordered (λ e. is_standing now r.times e.0) r.contents.entries is.ordered;
  begun = is.begun;
}

some_with : (b : Bool) (x : Times) (v : Json) (t : Option Times) (d : Option Json) → is_some t ≡ is_some d → is_some (cond b (Some x) t) ≡ is_some (cond b (Some v) d)
some_with true x v t d same = refl
some_with false x v t d same = same

-- also once a description was put, whatever the next number is then
pub changed_is : (id : List ℕ) (v : Json) (now : ℕ) (ttl : Option ℕ) (contents : Contents) (r : Registered) → contents.entries ≡ with_member id v r.contents.entries → IsRegistry r → IsRegistry (changed_to contents id now ttl r)
changed_is id v now ttl contents r entries is = record {
  timed = λ other.
      ap is_some (times_with other id (changed now ttl (times_of id r.times)) r.times)
      ∙ some_with (bytes_eq other id) (changed now ttl (times_of id r.times)) v (times_of other r.times) (member_named other r.contents.entries) (is.timed other)
      ∙ ap is_some (sym (named_with other id v r.contents.entries))
      ∙ ap (λ (es : Entries). is_some (member_named other es)) (sym entries);
  ordered = subst AreOrdered (sym entries) (with_ordered id v r.contents.entries is.ordered);
  begun = is.begun;
}

-- and once an entry was removed
pub without_is : (id : List ℕ) (r : Registered) → IsRegistry r → IsRegistry (without_id id r)
without_is id r is = record {
  timed = λ other. elim (cases_Bool (bytes_eq id other)) [
    | inl same ↦
        subst (λ (x : List ℕ). is_some (times_of x (without_times id r.times)) ≡ is_some (member_named x (without_member id r.contents.entries))) (same_id id other same)
        (ap is_some (times_gone id r.times) ∙ ap is_some (sym (named_gone id r.contents.entries)))
    | inr apart ↦
        ap is_some (times_elsewhere id other r.times apart) ∙ is.timed other ∙ ap is_some (sym (named_elsewhere id other r.contents.entries apart))
  ];
  ordered = without_ordered id r.contents.entries is.ordered;
  begun = is.begun;
}

-- ---- one that is over is taken away

-- the rest is judged as before
others_stand : (now : ℕ) (id : List ℕ) (ts : TimesList) (other : List ℕ) → bytes_eq id other ≡ false → is_standing now (without_times id ts) other ≡ is_standing now ts other
others_stand now id ts other apart = ap (stands_by now) (times_elsewhere id other ts apart)

over_filtered : {X : Type 0} (p q : List ℕ → Bool) (id : List ℕ) (es : List (List ℕ × X)) → p id ≡ false → ((other : List ℕ) → bytes_eq id other ≡ false → q other ≡ p other)
    → filter (λ e. q e.0) (filter (λ e. not (bytes_eq id e.0)) es) ≡ filter (λ e. p e.0) es
over_filtered p q id [] over same = refl
over_filtered {X} p q id (e ∷ es) over same = elim (cases_Bool (bytes_eq id e.0)) [
  | inl here ↦
      let gone : p e.0 ≡ false = ap p (sym (same_id id e.0 here)) ∙ over in
      rw (here, gone) (over_filtered p q id es over same)
  | inr apart ↦
      rw (apart, same e.0 apart) (ap (λ (xs : List (List ℕ × X)). cond (p e.0) (e ∷ xs) xs) (over_filtered p q id es over same))
]

pub times_as_before : (now : ℕ) (id : List ℕ) (ts : TimesList) → is_standing now ts id ≡ false
    → standing_entries now (without_times id ts) (without_times id ts) ≡ standing_entries now ts ts
times_as_before now id ts over = over_filtered (is_standing now ts) (is_standing now (without_times id ts)) id ts over (others_stand now id ts)

pub contents_as_before : (now : ℕ) (id : List ℕ) (ts : TimesList) (d : Contents) → is_standing now ts id ≡ false
    → standing_contents now (without_times id ts) (without_entry id d) ≡ standing_contents now ts d
contents_as_before now id ts d over =
    ap (λ (es : Entries). record d { entries = es })
    (ap (standing_entries now (without_times id ts)) (without_is_filter id d.entries)
    ∙ over_filtered (is_standing now ts) (is_standing now (without_times id ts)) id d.entries over (others_stand now id ts))

-- where an id was not there, nothing is removed
absent_entries : (id : List ℕ) (es : Entries) → member_named id es ≡ None → without_member id es ≡ es
absent_entries id [] none = refl
absent_entries id (e ∷ es) none =
    let first = absent_first (bytes_eq id e.0) e.1 (member_named id es) none in
    rw first.0 (ap (λ (xs : Entries). e ∷ xs) (absent_entries id es first.1))

fault_leaves : (e : DirFault) (id : List ℕ) (d : Contents) → HasRemoveFault e id d → without_entry id d ≡ d
fault_leaves NotFound id d none = ap (λ (es : Entries). record d { entries = es }) (absent_entries id d.entries none)
fault_leaves (Invalid f) id d none = absurd none
fault_leaves IdDiffers id d none = absurd none
fault_leaves HasId id d none = absurd none
fault_leaves Full id d none = absurd none
fault_leaves NoMemory id d none = absurd none

-- whatever `remove` answers, what is under the id is not there then
pub removed_anyway : {T : Type 0} (result : Result T DirFault) (id : List ℕ) (d after : Contents) → OnOk result (Removes id d after) → OnErr result (after ≡ d)
    → IfErr result (λ e. HasRemoveFault e id d) → after ≡ without_entry id d
removed_anyway (Ok t) id d after ok left fault = ok.after_is
removed_anyway (Err e) id d after ok left fault = left ∙ sym (fault_leaves e id d fault)

-- ---- nothing is over

pub all_stand : {X : Type 0} (p : List ℕ → Bool) (es : List (List ℕ × X)) → ((id : List ℕ) → p id ≡ true) → filter (λ e. p e.0) es ≡ es
all_stand p [] each = refl
all_stand {X} p (e ∷ es) each = rw (each e.0) (ap (λ (xs : List (List ℕ × X)). e ∷ xs) (all_stand p es each))

-- ---- one that is of equal parts

abbrev of_parts : Contents → TimesList → ℕ → Registered
of_parts contents times epoch = record { contents = contents; times = times; epoch = epoch }

pub same_parts : (epoch : ℕ) (contents d : Contents) (times ts : TimesList) → contents ≡ d → times ≡ ts → of_parts contents times epoch ≡ of_parts d ts epoch
same_parts epoch contents d times ts one other = ap (λ (x : Contents). of_parts x times epoch) one ∙ ap (λ (x : TimesList). of_parts d x epoch) other

pub is_of_parts : (epoch : ℕ) (contents d : Contents) (times ts : TimesList) → contents ≡ d → times ≡ ts → IsRegistry (of_parts d ts epoch) → IsRegistry (of_parts contents times epoch)
is_of_parts epoch contents d times ts one other is = subst IsRegistry (sym (same_parts epoch contents d times ts one other)) is

-- where no description is under an id, no times are
pub no_times : (id : List ℕ) (r : Registered) → IsRegistry r → member_named id r.contents.entries ≡ None → times_of id r.times ≡ None
no_times id r is none = by (times_of id r.times) (is.timed id ∙ ap (λ (d : Option Json). is_some d) none)
  where
    by : (t : Option Times) → is_some t ≡ false → t ≡ None
    by None h = refl
    by (Some t) h = absurd (cc (h))
