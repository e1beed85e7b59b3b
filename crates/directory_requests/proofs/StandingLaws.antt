-- The entries that stand at a later moment are those that stand then of those that stood before.
use Rattle.std.proofs.Common.{arith, ◌≡◌, ◌≤◌, ℕ, List, [], ◌∷◌, refl, sym, ap, ap₂, subst, ◌∙◌, inl, inr, Bool, true, false, cond}
use Rattle.std.specs.Prelude.{Option, Some, None, not, nat_le, filter}
use Rattle.std.specs.Str.{bytes_eq}
use Rattle.std.proofs.lemmas.Bool.{cases_Bool}
use Rattle.std.proofs.lemmas.Bool.Decides.{nat_tests}
use Rattle.std.proofs.lemmas.Slice.Eq.{bytes_eq-Decides}
use Rattle.std.proofs.lemmas.Map.Entries.{lookup-filter-keys}
use Rattle.wot_json.specs.Tree.{Json}
use Rattle.wot_directory.specs.Contents.{Contents}
use Rattle.wot_registry.specs.Times.{Times, times_of, expiry, is_reached, stands_by, is_standing, standing_entries}
use Rattle.wot_registry.specs.Registry.{Registered, standing}
use Rattle.directory_requests.specs.declared.server.ServedEntries.{ServedEntries}
use Rattle.directory_requests.specs.declared.server.ServedEntries.TheVariants as kept
use Rattle.directory_requests.specs.Requests.{standing_at}

abbrev TimesList : Type 0
TimesList = List (List ℕ × Times)

-- a moment that isn't reached now wasn't before
unreached : (n m : ℕ) (e : Option ℕ) → n ≤ m → not (is_reached m e) ≡ true → not (is_reached n e) ≡ true
unreached n m None sooner is = refl
unreached n m (Some moment) sooner is = grind (arith, nat_tests, sooner, is)

stood : (n m : ℕ) (t : Option Times) → n ≤ m → stands_by m t ≡ true → stands_by n t ≡ true
stood n m None sooner is = refl
stood n m (Some t) sooner is = unreached n m (expiry t) sooner is

-- a part of a part is the part, where the tests agree on the first part and the second test passes no more than the
-- first
part_of_part : {X : Type 0} (p q r : List ℕ → Bool) (es : List (List ℕ × X)) → ((id : List ℕ) → p id ≡ true → r id ≡ q id) → ((id : List ℕ) → q id ≡ true → p id ≡ true)
    → filter (λ e. r e.0) (filter (λ e. p e.0) es) ≡ filter (λ e. q e.0) es
part_of_part p q r [] agree fewer = refl
part_of_part {X} p q r (e ∷ es) agree fewer =
    let rest = part_of_part p q r es agree fewer in
    elim (cases_Bool (p e.0)) [
      | inl passes ↦ elim (cases_Bool (q e.0)) [
        | inl stays ↦ let stays_too : r e.0 ≡ true = agree e.0 passes ∙ stays in rw passes (rw stays (rw stays_too (ap (λ (xs : List (List ℕ × X)). e ∷ xs) rest)))
        | inr goes ↦ let goes_too : r e.0 ≡ false = agree e.0 passes ∙ goes in rw passes (rw goes (rw goes_too rest))
      ]
      | inr fails ↦
          let goes : q e.0 ≡ false = not_passed (q e.0) (p e.0) (fewer e.0) fails in
          rw fails (rw goes rest)
    ]
  where
    not_passed : (a b : Bool) → (a ≡ true → b ≡ true) → b ≡ false → a ≡ false
    not_passed false b needs fails = refl
    not_passed true b needs fails = absurd (let wrong : true ≡ false = sym (needs refl) ∙ fails in cc)

-- of what stood, the same stands
still_standing : (n m : ℕ) (ts : TimesList) (id : List ℕ) → is_standing n ts id ≡ true → is_standing m (standing_entries n ts ts) id ≡ is_standing m ts id
still_standing n m ts id stands =
    ap (stands_by m)
    (lookup-filter-keys (bytes_eq id) (is_standing n ts) (is_standing n ts id) (λ other same. ap (is_standing n ts) (sym ((bytes_eq-Decides id other).0 same))) ts
    ∙ ap (λ (b : Bool). cond b (times_of id ts) None) stands)

entries_later : {X : Type 0} (n m : ℕ) (ts : TimesList) (es : List (List ℕ × X)) → n ≤ m
    → standing_entries m (standing_entries n ts ts) (standing_entries n ts es) ≡ standing_entries m ts es
entries_later n m ts es sooner =
    part_of_part (is_standing n ts) (is_standing m ts) (is_standing m (standing_entries n ts ts)) es (still_standing n m ts) (λ id. stood n m (times_of id ts) sooner)

pub standing_later : (n m : ℕ) (d : ServedEntries) → n ≤ m → standing_at m (standing_at n d) ≡ standing_at m d
standing_later n m (kept.Untimed d) sooner = refl
standing_later n m (kept.Timed r) sooner =
    ap₂ (λ (es : List (List ℕ × Json)) (ts : TimesList). kept.Timed (record r { contents = record r.contents { entries = es }; times = ts }))
    (entries_later n m r.times r.contents.entries sooner) (entries_later n m r.times r.times sooner)

-- where the same stands, the same stands later
pub same_later : (a b m : ℕ) (d e : ServedEntries) → a ≤ m → b ≤ m → standing_at a d ≡ standing_at b e → standing_at m d ≡ standing_at m e
same_later a b m d e before after same = sym (standing_later a m d before) ∙ ap (standing_at m) same ∙ standing_later b m e after
