-- `clap` reads the words by the command of a form: it finds no fault exactly where they give values, and then it has
-- the rows of those.
use Rattle.std.proofs.Common.{◌≡◌, ◌+◌, ◌∙◌, ◌&&◌, ◌||◌, ◌++◌, ℕ, Bool, true, false, not, List, [], ◌∷◌, map, length, Option, Some, None, is_some, refl, sym, ap, subst, arith, nat_lt, inl, inr}
use Rattle.std.specs.Prelude.{fold}
use Rattle.std.specs.List.{All, list_all, list_any}
use Rattle.std.specs.Str.{IsUtf8, bytes_eq}
use Rattle.std.proofs.lemmas.List.Folds.{list_any-append}
use Rattle.std.proofs.lemmas.Slice.Eq.{bytes_eq-Decides}
use Rattle.clap.specs.Walk.{Row, Rule, Text, first_of, has_row, is_early_multiple, nothing_held, rows_after, rows_of, settled, walk, with_default}
use Rattle.clap.specs.Simple.{App, HasMatchesOf, entered, is_simple, matches_of, new_rule}
use Rattle.clap.specs.Takes.{is_given}
use Rattle.clap.specs.Faults.{built_fault, default_fault, defaults_fault, entered_fault, fault_of, is_simple_and_free, settle_fault, walk_fault}
use Rattle.clap.specs.Kinds.{HasKind, Kinds, or_else}
use Rattle.clap.specs.Values.{kind_of}
use Rattle.clap.specs.Matches.{found_of}
use Rattle.clap.specs.declared.error.Error.{Error}
use Rattle.clap.specs.declared.error.kind.ErrorKind.TheVariants as kind
use Rattle.clap.specs.declared.parser.matches.ArgMatches.{ArgMatches}
use Rattle.clap.specs.declared.parser.matches.Found.{Found}
use Rattle.command_words.specs.Words.{Form, Values, has_name, value_at, values_given}
use Rattle.command_words.specs.Line.{EachHasValue, app_for, are_distinct, has_text, is_form, long_rule, values_in, values_in_rows}
use Rattle.command_words.proofs.ClapRules.{HasRoom, Places, by_long, by_long_unknown, by_short, each_serves, filled_rules, held, option_named, or_else-nil, place_at, places_hold, rules_from}
use Rattle.command_words.proofs.ClapWalk.{Ends, Knows, last_rows, rows_of_values, shape_with, walk_at, walk_faults}
use Rattle.command_words.proofs.ClapValues.{Left, and_left, at_rest, ends, or_right}
use Rattle.clap.specs.Walk.{idle}

-- ---- the command is simple

raw_rules : List Text → List Text → List Rule
raw_rules places options = map new_rule places ++ map long_rule options

raw_simple : (places options : List Text) → list_all (λ (a : Rule). a.is_simple) (map new_rule places ++ map long_rule options) ≡ true
raw_simple [] [] = refl
raw_simple [] (o ∷ options) = raw_simple [] options
raw_simple (p ∷ places) options = raw_simple places options

built_simple : (i : ℕ) (places options : List Text) → list_all (λ (a : Rule). a.is_simple) (rules_from i places options) ≡ true
built_simple i [] [] = refl
built_simple i [] (o ∷ options) = built_simple i [] options
built_simple i (p ∷ places) options = built_simple (i + 1) places options

built_free : (i : ℕ) (places options : List Text) → list_all (λ (a : Rule). a.is_free) (rules_from i places options) ≡ true
built_free i [] [] = refl
built_free i [] (o ∷ options) = built_free i [] options
built_free i (p ∷ places) options = built_free (i + 1) places options

in_order : (n i : ℕ) (places options : List Text) → list_any (is_early_multiple n) (rules_from i places options) ≡ false
in_order n i [] [] = refl
in_order n i [] (o ∷ options) = in_order n i [] options
in_order n i (p ∷ places) options = in_order n (i + 1) places options

pub form_is_simple : (form : Form) → HasRoom 1 form.places → is_simple (app_for form) ≡ true
form_is_simple form room = rw (
  raw_simple form.places form.options,
  filled_rules 1 form.places form.options room,
  built_simple 1 form.places form.options,
  in_order _ 1 form.places form.options,
) refl

pub form_is_free : (form : Form) → HasRoom 1 form.places → is_simple_and_free (app_for form) ≡ true
form_is_free form room = rw (form_is_simple form room, filled_rules 1 form.places form.options room, built_free 1 form.places form.options) refl

-- ---- after the walk

-- neither kind of argument has a default
place_default : (i : ℕ) (name : Text) (rows : List Row) → with_default rows (place_at i name) ≡ rows
place_default i name rows = go (has_row name rows) refl
  where
    go : (t : Bool) → has_row name rows ≡ t → with_default rows (place_at i name) ≡ rows
    go true e = rw e refl
    go false e = rw e refl

option_default : (name : Text) (rows : List Row) → with_default rows (option_named name) ≡ rows
option_default name rows = go (has_row name rows) refl
  where
    go : (t : Bool) → has_row name rows ≡ t → with_default rows (option_named name) ≡ rows
    go true e = rw e refl
    go false e = rw e refl

no_defaults : (i : ℕ) (places options : List Text) (rows : List Row) → fold with_default rows (rules_from i places options) ≡ rows
no_defaults i [] [] rows = refl
no_defaults i [] (o ∷ options) rows =
    ap (λ (r : List Row). fold with_default r (rules_from i [] options)) (option_default o rows) ∙ no_defaults i [] options rows
no_defaults i (p ∷ places) options rows =
    ap (λ (r : List Row). fold with_default r (rules_from (i + 1) places options)) (place_default i p rows) ∙ no_defaults (i + 1) places options rows

place_default_passes : (i : ℕ) (name : Text) (rows : List Row) → default_fault rows (place_at i name) ≡ []
place_default_passes i name rows = go (has_row name rows) refl
  where
    go : (t : Bool) → has_row name rows ≡ t → default_fault rows (place_at i name) ≡ []
    go true e = rw e refl
    go false e = rw e refl

option_default_passes : (name : Text) (rows : List Row) → default_fault rows (option_named name) ≡ []
option_default_passes name rows = go (has_row name rows) refl
  where
    go : (t : Bool) → has_row name rows ≡ t → default_fault rows (option_named name) ≡ []
    go true e = rw e refl
    go false e = rw e refl

no_default_fault : (i : ℕ) (places options : List Text) (rows : List Row) → defaults_fault rows (rules_from i places options) ≡ []
unfolding defaults_fault
no_default_fault i [] [] rows = refl
no_default_fault i [] (o ∷ options) rows =
    ap (λ (k : Kinds). or_else k (defaults_fault (with_default rows (option_named o)) (rules_from i [] options))) (option_default_passes o rows)
    ∙ no_default_fault i [] options (with_default rows (option_named o))
no_default_fault i (p ∷ places) options rows =
    ap (λ (k : Kinds). or_else k (defaults_fault (with_default rows (place_at i p)) (rules_from (i + 1) places options))) (place_default_passes i p rows)
    ∙ no_default_fault (i + 1) places options (with_default rows (place_at i p))

-- and none is required
none_missing : (i : ℕ) (places options : List Text) (rows : List Row)
    → list_any (λ (a : Rule). a.required && not (is_given a.id rows)) (rules_from i places options) ≡ false
none_missing i [] [] rows = refl
none_missing i [] (o ∷ options) rows = none_missing i [] options rows
none_missing i (p ∷ places) options rows = none_missing (i + 1) places options rows

-- ---- the whole

-- the command when it is built
abbrev built_app : List Rule → App
built_app rules = record { top = shape_with rules; subs = [] }

abbrev faults_by : List Rule → List Text → Kinds
faults_by rules words = built_fault (built_app rules) nothing_held words

no_subcommand : (rules : List Rule) (stop : Option (Text × List Text))
    → (is_some (entered (built_app rules) stop) ≡ false) × (entered_fault (built_app rules) stop ≡ [])
no_subcommand rules None = (refl, refl)
no_subcommand rules (Some s) = (refl, refl)

-- the faults are those of the walk
faults_are : (places options words : List Text)
    → faults_by (rules_from 1 places options) words ≡ walk_faults (rules_from 1 places options) (walk_at (held [] None) idle 1 false) words
faults_are places options words =
    let rules = rules_from 1 places options in
    let end = (walk rules [] nothing_held words).held in
    let stop = no_subcommand rules (walk rules [] nothing_held words).stopped in
    rw (stop.0, stop.1, no_default_fault 1 places options (settled rules end).rows, none_missing 1 places options (fold with_default (settled rules end).rows rules))
    (ap (or_else (walk_fault (shape_with rules) [] (walk_at (held [] None) idle 1 false) words)) (or_else-nil (settle_fault rules false end)))

-- ---- the names of a form

not_either : (a b : Bool) → not (a || b) ≡ true → (a ≡ false) × (b ≡ false)
not_either true b e = cc
not_either false true e = cc
not_either false false e = (refl, refl)

names_apart : (name : Text) (places options : List Text) → not (has_name name (places ++ options)) ≡ true
    → (has_name name places ≡ false) × (has_name name options ≡ false)
names_apart name places options h =
    not_either (has_name name places) (has_name name options) (ap not (sym (list_any-append (λ (other : Text). bytes_eq other name) places options)) ∙ h)

places_distinct : (places options : List Text) → are_distinct (places ++ options) ≡ true → are_distinct places ≡ true
places_distinct [] options h = refl
places_distinct (p ∷ places) options h =
    let parts = and_left (not (has_name p (places ++ options))) (are_distinct (places ++ options)) h in
    rw ((names_apart p places options parts.0).0, places_distinct places options parts.1) refl

no_option : (places options : List Text) → are_distinct (places ++ options) ≡ true → (x : Text) → has_name x places ≡ true → has_name x options ≡ false
no_option [] options h x has = cc
no_option (p ∷ places) options h x has =
    let parts = and_left (not (has_name p (places ++ options))) (are_distinct (places ++ options)) h in
    go (bytes_eq p x) refl (names_apart p places options parts.0).1 (no_option places options parts.1 x)
  where
    go : (t : Bool) → bytes_eq p x ≡ t → has_name p options ≡ false → (has_name x places ≡ true → has_name x options ≡ false) → has_name x options ≡ false
    go true e none more = subst (λ (y : Text). has_name y options ≡ false) ((bytes_eq-Decides p x).0 e) none
    go false e none more = more (rw e at has)

form_room : (form : Form) → is_form form ≡ true → HasRoom 1 form.places
form_room form is =
    let few = (and_left (are_distinct (form.places ++ form.options)) (nat_lt (length form.places) 100) is).1 in grind (arith, few)

-- No fault and the rows of these values; or a fault, where there are none.
abbrev pub ComesOut : App → List Text → Option Values → Type 0
ComesOut app words (Some values) = (fault_of app words ≡ []) × (matches_of app words ≡ rows_of_values values)
ComesOut app words None = ¬ (fault_of app words ≡ [])

pub form_comes_out : (form : Form) (words : List Text) → is_form form ≡ true → All IsUtf8 words → ComesOut (app_for form) words (values_given form words)
form_comes_out form words is text = go (values_given form words) (ends rules form.options knows words form.places form.options [] (held [] None) idle None 1
    (at_rest [] None (record { passes = refl; comes_to = refl })) left places text)
  where
    parts : (are_distinct (form.places ++ form.options) ≡ true) × (nat_lt (length form.places) 100 ≡ true)
    parts = and_left (are_distinct (form.places ++ form.options)) (nat_lt (length form.places) 100) is

    room : HasRoom 1 form.places
    room = form_room form is

    rules : List Rule
    rules = rules_from 1 form.places form.options

    knows : Knows rules form.options
    knows = record {
      known = λ name has. by_long 1 form.places form.options name has;
      unknown_name = λ name has. by_long_unknown 1 form.places form.options name has;
      no_short = λ x. by_short 1 form.places form.options x;
      serves = λ name has. each_serves rules 1 form.places form.options name refl (or_right (has_name name form.places) (has_name name form.options) has);
    }

    places : Places rules 1 form.places
    places = places_hold rules 1 form.places form.options room (λ k le. refl) (λ name has. each_serves rules 1 form.places form.options name refl (rw has refl))

    left : Left [] form.options form.places form.options
    left = record {
      free_place = λ x has. refl;
      free_option = λ x has. refl;
      used_option = λ x has gone. let bad : true ≡ false = sym has ∙ gone in cc;
      are_options = λ x has. has;
      distinct = places_distinct form.places form.options parts.0;
      apart = no_option form.places form.options parts.0;
    }

    faults : fault_of (app_for form) words ≡ walk_faults rules (walk_at (held [] None) idle 1 false) words
    faults = ap (λ (r : List Rule). faults_by r words) (filled_rules 1 form.places form.options room) ∙ faults_are form.places form.options words

    rows : matches_of (app_for form) words ≡ last_rows rules (walk_at (held [] None) idle 1 false) words
    rows = ap (λ (r : List Rule). rows_after r [] words) (filled_rules 1 form.places form.options room)
        ∙ no_defaults 1 form.places form.options (last_rows rules (walk_at (held [] None) idle 1 false) words)

    go : (o : Option Values) → Ends rules (walk_at (held [] None) idle 1 false) words [] o → ComesOut (app_for form) words o
    go None h = λ none. h (sym faults ∙ none)
    go (Some values) h = (faults ∙ h.0, rows ∙ h.1)

-- ---- rows as values

-- the values of the rows of values
values_again : (values : Values) → values_in_rows (rows_of_values values) ≡ values
values_again [] = refl
values_again (v ∷ values) = ap (λ (more : Values). v ∷ more) (values_again values)

values_there : (values : Values) → list_all (λ (row : Row). has_text row.values) (rows_of_values values) ≡ true
values_there [] = refl
values_there (v ∷ values) = values_there values

-- the first value of a name
pub first_value_at : (name : Text) (rows : List Row) → list_all (λ (row : Row). has_text row.values) rows ≡ true
    → first_of name rows ≡ value_at name (values_in_rows rows)
first_value_at name [] each = refl
first_value_at name (r ∷ rows) each = go (bytes_eq r.id name) refl r.values refl (first_value_at name rows)
  where
    go : (t : Bool) → bytes_eq r.id name ≡ t → (texts : List Text) → r.values ≡ texts
        → (list_all (λ (row : Row). has_text row.values) rows ≡ true → first_of name rows ≡ value_at name (values_in_rows rows))
        → first_of name (r ∷ rows) ≡ value_at name (values_in_rows (r ∷ rows))
    go t e [] is more = let bad : false ≡ true = rw is at each in cc
    go true e (text ∷ texts) is more = rw (e, is) refl
    go false e (text ∷ texts) is more = rw e (more (rw is at each))

-- ---- the answer of a parse

-- the values that matches hold
pub record Holds (form : Form) (words : List Text) (found : Found) : Type 0 where
  pub values : values_given form words ≡ Some (values_in found)
  pub each : EachHasValue found

pub parsed : (app : App) (form : Form) (words : List Text) (m : ArgMatches) → app ≡ app_for form → is_form form ≡ true → All IsUtf8 words
    → (is_simple_and_free app ≡ true → fault_of app words ≡ []) → HasMatchesOf app words m → Holds form words (found_of m)
parsed app form words m same is text no_fault matches = go (values_given form words) refl (form_comes_out form words is text)
  where
    room : HasRoom 1 form.places
    room = form_room form is

    rows : rows_of (found_of m) ≡ matches_of (app_for form) words
    rows = subst (λ (a : App). rows_of (found_of m) ≡ matches_of a words) same (matches (ap is_simple same ∙ form_is_simple form room)).0

    passes : fault_of (app_for form) words ≡ []
    passes = subst (λ (a : App). fault_of a words ≡ []) same (no_fault (ap is_simple_and_free same ∙ form_is_free form room))

    go : (o : Option Values) → values_given form words ≡ o → ComesOut (app_for form) words o → Holds form words (found_of m)
    go None e h = absurd (h passes)
    go (Some values) e h = record {
      values = e ∙ ap (λ (v : Values). Some v) (sym (ap values_in_rows (rows ∙ h.1) ∙ values_again values));
      each = ap (list_all (λ (row : Row). has_text row.values)) (rows ∙ h.1) ∙ values_there values;
    }

-- an error that isn't being out of memory means that there are none
pub not_parsed : (app : App) (form : Form) (words : List Text) (e : Error) → app ≡ app_for form → is_form form ≡ true → All IsUtf8 words
    → (is_simple_and_free app ≡ true → HasKind (fault_of app words) e) → ¬ (kind_of e ≡ kind.OutOfMemory) → values_given form words ≡ None
not_parsed app form words e same is text has_kind no_memory = go (values_given form words) (form_comes_out form words is text)
  where
    room : HasRoom 1 form.places
    room = form_room form is

    fails : HasKind (fault_of (app_for form) words) e
    fails = subst (λ (a : App). HasKind (fault_of a words) e) same (has_kind (ap is_simple_and_free same ∙ form_is_free form room))

    go : (o : Option Values) → ComesOut (app_for form) words o → o ≡ None
    go None h = refl
    go (Some values) h = absurd (elim (subst (λ (kinds : Kinds). HasKind kinds e) h.0 fails) [ inl memory ↦ no_memory memory | inr among ↦ among ])
