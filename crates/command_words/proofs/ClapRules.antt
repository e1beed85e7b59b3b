-- The arguments of the `clap` command of a form, as building the command leaves them, and how they are looked up.
use Rattle.std.proofs.Common.{◌≡◌, ◌==◌, ◌<◌, ◌≤◌, ◌+◌, ◌∙◌, ◌||◌, ◌++◌, ℕ, Bool, true, false, List, [], ◌∷◌, map, length, min, Option, Some, None, refl, ap, subst, arith}
use Rattle.std.specs.Str.{bytes_eq}
use Rattle.std.proofs.lemmas.Slice.Eq.{bytes_eq-Decides}
use Rattle.clap.specs.Lexer.{usize_max}
use Rattle.clap.specs.Walk.{Held, Row, Rule, Text, arg_by_id, arg_by_index, arg_by_long, arg_by_short, has_row, idle, option_word, reading_by, settled_rows, used}
use Rattle.clap.specs.Simple.{filled, filled_from, new_rule, with_index}
use Rattle.clap.specs.Faults.{repeat_fault, settle_fault, use_fault}
use Rattle.clap.specs.Kinds.{Kinds, or_else}
use Rattle.clap.specs.declared.error.kind.ErrorKind.TheVariants as kind
use Rattle.clap.specs.declared.parser.matches.ValueSource.TheVariants.{CommandLine}
use Rattle.command_words.specs.Words.{has_name}
use Rattle.command_words.specs.Line.{long_rule}

-- ---- the arguments when they are built

abbrev pub place_at : ℕ → Text → Rule
place_at position name = with_index position (filled (new_rule name))

abbrev pub option_named : Text → Rule
option_named name = filled (long_rule name)

abbrev pub places_from : ℕ → List Text → List Rule
places_from position [] = []
places_from position (name ∷ names) = place_at position name ∷ places_from (position + 1) names

abbrev pub rules_from : ℕ → List Text → List Text → List Rule
rules_from position places options = places_from position places ++ map option_named options

-- the numbers of the places stay below the greatest
abbrev pub HasRoom : ℕ → List Text → Type 0
HasRoom position places = position + length places ≤ usize_max

next_index : (i n : ℕ) → i + (n + 1) ≤ usize_max → min (i + 1) usize_max ≡ i + 1
next_index i n h = omega arith

pub filled_rules : (i : ℕ) (places options : List Text) → HasRoom i places
    → filled_from i (map new_rule places ++ map long_rule options) ≡ rules_from i places options
filled_rules i [] [] room = refl
filled_rules i [] (o ∷ options) room = ap (λ (rules : List Rule). option_named o ∷ rules) (filled_rules i [] options room)
filled_rules i (p ∷ places) options room =
    ap (λ (rules : List Rule). place_at i p ∷ rules)
    (ap (λ (k : ℕ). filled_from k (map new_rule places ++ map long_rule options)) (next_index i (length places) (omega (arith, room)))
    ∙ filled_rules (i + 1) places options (omega (arith, room)))

-- ---- looking them up

pub by_short : (i : ℕ) (places options : List Text) (x : ℕ) → arg_by_short (rules_from i places options) x ≡ None
by_short i [] [] x = refl
by_short i [] (o ∷ options) x = by_short i [] options x
by_short i (p ∷ places) options x = by_short (i + 1) places options x

pub by_long : (i : ℕ) (places options : List Text) (name : Text) → has_name name options ≡ true
    → arg_by_long (rules_from i places options) name ≡ Some (option_named name)
by_long i [] [] name has = cc
by_long i [] (o ∷ options) name has = go (bytes_eq o name) refl (by_long i [] options name)
  where
    go : (t : Bool) → bytes_eq o name ≡ t
        → (has_name name options ≡ true → arg_by_long (rules_from i [] options) name ≡ Some (option_named name))
        → arg_by_long (rules_from i [] (o ∷ options)) name ≡ Some (option_named name)
    go true e more = rw e (ap (λ (n : Text). Some (option_named n)) ((bytes_eq-Decides o name).0 e))
    go false e more = rw e (more (rw e at has))
by_long i (p ∷ places) options name has = by_long (i + 1) places options name has

pub by_long_unknown : (i : ℕ) (places options : List Text) (name : Text) → has_name name options ≡ false
    → arg_by_long (rules_from i places options) name ≡ None
by_long_unknown i [] [] name has = refl
by_long_unknown i [] (o ∷ options) name has = go (bytes_eq o name) refl (by_long_unknown i [] options name)
  where
    go : (t : Bool) → bytes_eq o name ≡ t → (has_name name options ≡ false → arg_by_long (rules_from i [] options) name ≡ None)
        → arg_by_long (rules_from i [] (o ∷ options)) name ≡ None
    go true e more = let bad : true ≡ false = rw e at has in cc
    go false e more = rw e (more (rw e at has))
by_long_unknown i (p ∷ places) options name has = by_long_unknown (i + 1) places options name has

-- ---- what comes of a value

-- the row of a value
abbrev pub row_of_value : Text → Text → Row
row_of_value name value = record { id = name; values = value ∷ []; count = None; source = Some CommandLine; reading = reading_by (new_rule name) }

abbrev pub held : List Row → Option (Text × List Text) → Held
held rows pending = record { rows = rows; pending = pending; skip = 0 }

-- An argument of this name is among the rules. Its one value is refused where it has a value already, and becomes a
-- row; and it needs one.
pub record Serves (rules : List Rule) (name : Text) : Type 0 where
  pub settles : (value : Text) (rows : List Row) → settle_fault rules false (held rows (Some (name, value ∷ []))) ≡ repeat_fault false name rows
  pub gives : (value : Text) (rows : List Row) → settled_rows rules (Some (name, value ∷ [])) rows ≡ used (option_named name) (value ∷ []) rows
  pub fills : (word : Text) (rows : List Row)
      → option_word (arg_by_id rules name) name word (held rows (Some (name, []))) ≡ (held rows (Some (name, word ∷ [])), idle)
  pub wants : (rows : List Row) → settle_fault rules false (held rows (Some (name, []))) ≡ kind.InvalidValue ∷ []

pub or_else-nil : (kinds : Kinds) → or_else kinds [] ≡ kinds
or_else-nil [] = refl
or_else-nil (k ∷ kinds) = refl

-- the use of an option with one value
pub option_use : (name value : Text) (rows : List Row) → use_fault false (option_named name) (value ∷ []) rows ≡ repeat_fault false name rows
option_use name value rows = or_else-nil (repeat_fault false name rows)

-- a rule that is found by its name serves it
pub place_serves : (rules : List Rule) (position : ℕ) (name : Text) → arg_by_id rules name ≡ Some (place_at position name) → Serves rules name
place_serves rules position name found = record {
  settles = λ value rows. rw found (or_else-nil (repeat_fault false name rows));
  gives = λ value rows. rw found refl;
  fills = λ word rows. rw (found, (bytes_eq-Decides name name).1 refl) refl;
  wants = λ rows. rw found refl;
}

pub option_serves : (rules : List Rule) (name : Text) → arg_by_id rules name ≡ Some (option_named name) → Serves rules name
option_serves rules name found = record {
  settles = λ value rows. rw found (or_else-nil (repeat_fault false name rows));
  gives = λ value rows. rw found refl;
  fills = λ word rows. rw (found, (bytes_eq-Decides name name).1 refl) refl;
  wants = λ rows. rw found refl;
}

-- each name of a form serves
pub each_serves : (rules : List Rule) (i : ℕ) (places options : List Text) (name : Text)
    → arg_by_id rules name ≡ arg_by_id (rules_from i places options) name → (has_name name places || has_name name options) ≡ true → Serves rules name
each_serves rules i [] [] name same has = cc
each_serves rules i [] (o ∷ options) name same has = go (bytes_eq o name) refl (each_serves rules i [] options name)
  where
    go : (t : Bool) → bytes_eq o name ≡ t
        → (arg_by_id rules name ≡ arg_by_id (rules_from i [] options) name → has_name name options ≡ true → Serves rules name) → Serves rules name
    go true e more =
        let is : o ≡ name = (bytes_eq-Decides o name).0 e in
        option_serves rules name (subst (λ (n : Text). arg_by_id rules name ≡ Some (option_named n)) is (rw e at same))
    go false e more = more (rw e at same) (rw e at has)
each_serves rules i (p ∷ places) options name same has = go (bytes_eq p name) refl (each_serves rules (i + 1) places options name)
  where
    go : (t : Bool) → bytes_eq p name ≡ t
        → (arg_by_id rules name ≡ arg_by_id (rules_from (i + 1) places options) name → (has_name name places || has_name name options) ≡ true → Serves rules name)
        → Serves rules name
    go true e more =
        let is : p ≡ name = (bytes_eq-Decides p name).0 e in
        place_serves rules i name (subst (λ (n : Text). arg_by_id rules name ≡ Some (place_at i n)) is (rw e at same))
    go false e more = more (rw e at same) (rw e at has)

-- The places from a number on: each is found by its number, and after them none.
abbrev pub Places : List Rule → ℕ → List Text → Type 0
Places rules i [] = arg_by_index rules i ≡ None
Places rules i (p ∷ places) = (arg_by_index rules i ≡ Some (place_at i p)) × Serves rules p × (i < usize_max) × Places rules (i + 1) places

no_index : (i k : ℕ) (options : List Text) → arg_by_index (rules_from i [] options) k ≡ None
no_index i k [] = refl
no_index i k (o ∷ options) = no_index i k options

pub places_hold : (rules : List Rule) (i : ℕ) (places options : List Text) → HasRoom i places
    → ((k : ℕ) → i ≤ k → arg_by_index rules k ≡ arg_by_index (rules_from i places options) k)
    → ((name : Text) → has_name name places ≡ true → Serves rules name) → Places rules i places
places_hold rules i [] options room same serves = same i (omega arith) ∙ no_index i i options
places_hold rules i (p ∷ places) options room same serves =
    let here : (i == i) ≡ true = grind arith in
    let later : (k : ℕ) → i + 1 ≤ k → (i == k) ≡ false = λ k le. grind (arith, le) in
    let itself : bytes_eq p p ≡ true = (bytes_eq-Decides p p).1 refl in (
      same i (omega arith) ∙ rw here refl,
      serves p (rw itself refl),
      omega (arith, room),
      places_hold rules (i + 1) places options (omega (arith, room)) (λ k le. same k (omega (arith, le)) ∙ rw (later k le) refl)
          (λ name has. serves name (or_true (bytes_eq p name) (has_name name places) has)),
    )
  where
    or_true : (a b : Bool) → b ≡ true → (a || b) ≡ true
    or_true true b e = refl
    or_true false b e = e

-- ---- rows

-- a value of a name that has none yet
pub fresh_value : (name value : Text) (rows : List Row) → has_row name rows ≡ false
    → used (option_named name) (value ∷ []) rows ≡ rows ++ row_of_value name value ∷ []
fresh_value name value [] fresh = refl
fresh_value name value (r ∷ rows) fresh = go (bytes_eq r.id name) refl (fresh_value name value rows)
  where
    go : (t : Bool) → bytes_eq r.id name ≡ t
        → (has_row name rows ≡ false → used (option_named name) (value ∷ []) rows ≡ rows ++ row_of_value name value ∷ [])
        → used (option_named name) (value ∷ []) (r ∷ rows) ≡ (r ∷ rows) ++ row_of_value name value ∷ []
    go true e more = let bad : true ≡ false = rw e at fresh in cc
    go false e more = rw (e, e) (ap (λ (rest : List Row). r ∷ rest) (more (rw e at fresh)))

pub no_repeat : (name : Text) (rows : List Row) → has_row name rows ≡ false → repeat_fault false name rows ≡ []
no_repeat name rows fresh = rw fresh refl

pub repeats : (name : Text) (rows : List Row) → has_row name rows ≡ true → repeat_fault false name rows ≡ kind.ArgumentConflict ∷ []
repeats name rows there = rw there refl

-- one row more
pub has_row_more : (other name value : Text) (rows : List Row)
    → has_row other (rows ++ row_of_value name value ∷ []) ≡ (has_row other rows || bytes_eq name other)
has_row_more other name value [] = or_false (bytes_eq name other)
  where
    or_false : (b : Bool) → (b || false) ≡ b
    or_false true = refl
    or_false false = refl
has_row_more other name value (r ∷ rows) = go (bytes_eq r.id other) refl (has_row_more other name value rows)
  where
    go : (t : Bool) → bytes_eq r.id other ≡ t → has_row other (rows ++ row_of_value name value ∷ []) ≡ (has_row other rows || bytes_eq name other)
        → has_row other ((r ∷ rows) ++ row_of_value name value ∷ []) ≡ (has_row other (r ∷ rows) || bytes_eq name other)
    go true e more = rw e refl
    go false e more = rw e more
