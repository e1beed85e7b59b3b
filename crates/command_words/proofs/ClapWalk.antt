-- `clap`'s walk over the words against the arguments that they are: it ends without a fault exactly where they give
-- values, and its rows are then those values.
use Rattle.std.proofs.Common.{◌≡◌, ◌<◌, ◌+◌, ◌∙◌, ◌++◌, ℕ, Bool, true, false, List, [], ◌∷◌, map, min, Option, Some, None, is_some, refl, sym, ap, ◌⊎◌, inl, inr, subst, arith, append_assoc}
use Rattle.std.specs.Prelude.{fold, slice_get}
use Rattle.std.specs.List.{All}
use Rattle.std.specs.Str.{IsUtf8, chars}
use Rattle.clap.specs.Lexer.{long_of, short_of, usize_max}
use Rattle.clap.specs.Walk.{Held, Row, Rule, Text, Waiting, Walk, arg_by_index, arg_by_long, arg_by_short, has_row, idle, option as waits_for, is_pending, settled, walked}
use Rattle.clap.specs.Simple.{Shape}
use Rattle.clap.specs.Faults.{flags_fault, settle_fault, turn_fault, walk_fault}
use Rattle.clap.specs.Kinds.{Kinds, or_else}
use Rattle.clap.specs.declared.error.kind.ErrorKind.{ErrorKind}
use Rattle.clap.specs.declared.error.kind.ErrorKind.TheVariants as kind
use Rattle.command_words.specs.Words.{Values, WordKind, has_name, with_value, word_kind}
use Rattle.command_words.proofs.WordKinds.{IsDashes, LooksLike, as_end, as_option, as_plain, as_unknown, first_character, looks_like}
use Rattle.command_words.proofs.ClapRules.{Places, Serves, fresh_value, held, option_named, place_at, row_of_value}

-- ---- the walk

-- the command of these rules, when it is built
abbrev pub shape_with : List Rule → Shape
shape_with rules = record {
  name = 115 ∷ 101 ∷ 114 ∷ 118 ∷ 105 ∷ 101 ∷ 110 ∷ 116 ∷ [];
  aliases = [];
  rules = rules;
  is_plain = true;
  is_leaf = true;
  no_binary_name = true;
  disable_help_flag = true;
  disable_help_subcommand = true;
  disable_version_flag = true;
  propagate_version = false;
  has_version = false;
  has_long_version = false;
  args_override_self = false;
  arg_required_else_help = false;
  subcommand_required = false;
  subcommand_negates_reqs = false;
  is_built = true;
}

abbrev pub walk_at : Held → Waiting → ℕ → Bool → Walk
walk_at h waiting position trailing = record { held = h; waiting = waiting; position = position; is_trailing = trailing; stopped = None }

-- the faults of a walk over the words, and the rows at its end
abbrev pub walk_faults : List Rule → Walk → List Text → Kinds
walk_faults rules w words =
    or_else (walk_fault (shape_with rules) [] w words) (settle_fault rules false (fold (walked rules []) w words).held)

abbrev pub last_rows : List Rule → Walk → List Text → List Row
last_rows rules w words = (settled rules (fold (walked rules []) w words).held).rows

abbrev pub rows_of_values : Values → List Row
rows_of_values = map (λ given. row_of_value given.0 given.1)

-- the walk ends without a fault, with these values after the rows that it has; or with a fault, where there are none
abbrev pub Ends : List Rule → Walk → List Text → List Row → Option Values → Type 0
Ends rules w words rows (Some values) = (walk_faults rules w words ≡ []) × (last_rows rules w words ≡ rows ++ rows_of_values values)
Ends rules w words rows None = ¬ (walk_faults rules w words ≡ [])

-- a word that passes
pub goes_on : (rules : List Rule) (w next : Walk) (word : Text) (words : List Text) (rows : List Row) (o : Option Values)
    → turn_fault (shape_with rules) [] w word ≡ [] → walked rules [] w word ≡ next → Ends rules next words rows o → Ends rules w (word ∷ words) rows o
unfolding walk_fault
goes_on rules w next word words rows o passes is h = go o (subst (λ (x : Walk). Ends rules x words rows o) (sym is) h)
  where
    after : Kinds → Kinds
    after turn = or_else (or_else turn (walk_fault (shape_with rules) [] (walked rules [] w word) words))
        (settle_fault rules false (fold (walked rules []) (walked rules [] w word) words).held)

    same : walk_faults rules w (word ∷ words) ≡ after []
    same = ap after passes

    go : (p : Option Values) → Ends rules (walked rules [] w word) words rows p → Ends rules w (word ∷ words) rows p
    go None k = λ none. k (sym same ∙ none)
    go (Some values) k = (same ∙ k.0, k.1)

-- a word that is refused
pub stops : (rules : List Rule) (w : Walk) (word : Text) (words : List Text) (rows : List Row) (k : ErrorKind) (ks : Kinds)
    → turn_fault (shape_with rules) [] w word ≡ k ∷ ks → Ends rules w (word ∷ words) rows None
unfolding walk_fault
stops rules w word words rows k ks refuses = λ none. let bad : k ∷ _ ≡ [] = rw refuses at none in cc

-- a value is one row more
pub with_row : (rules : List Rule) (w : Walk) (words : List Text) (rows : List Row) (name value : Text) (o : Option Values)
    → Ends rules w words (rows ++ row_of_value name value ∷ []) o → Ends rules w words rows (with_value name value o)
with_row rules w words rows name value None h = h
with_row rules w words rows name value (Some values) h = (h.0, h.1 ∙ append_assoc rows (row_of_value name value ∷ []) (rows_of_values values))

-- ---- one word

-- the value held has no fault, and gives these rows
pub record Clean (rules : List Rule) (h : Held) (rows : List Row) : Type 0 where
  pub passes : settle_fault rules false h ≡ []
  pub comes_to : (settled rules h).rows ≡ rows

-- `--`, at any place
pub end_passes : (rules : List Rule) (h : Held) (waiting : Waiting) (position : ℕ) (word : Text) → IsDashes word true
    → (waiting ≡ idle) ⊎ ((name : Text) × (waiting ≡ waits_for name))
    → (turn_fault (shape_with rules) [] (walk_at h waiting position false) word ≡ [])
    × (walked rules [] (walk_at h waiting position false) word ≡ walk_at h waiting position true)
unfolding walked
end_passes rules h waiting position word dashes (inl is) = rw is (rw dashes refl, rw dashes refl)
end_passes rules h waiting position word dashes (inr (name, is)) = rw is (rw dashes refl, rw dashes refl)

-- an option with its value
pub option_with_value : (rules : List Rule) (rows : List Row) (pending : Option (Text × List Text)) (now : List Row) (position : ℕ) (word name value : Text)
    → IsDashes word false → long_of word ≡ Some (name, Some value) → arg_by_long rules name ≡ Some (option_named name)
    → Clean rules (held rows pending) now → has_row name now ≡ false
    → (turn_fault (shape_with rules) [] (walk_at (held rows pending) idle position false) word ≡ [])
    × (walked rules [] (walk_at (held rows pending) idle position false) word
    ≡ walk_at (held (now ++ row_of_value name value ∷ []) None) idle position false)
unfolding walked
option_with_value rules rows pending now position word name value dashes long known clean fresh = (
  rw (dashes, long, known, clean.passes, clean.comes_to, fresh) refl,
  rw (dashes, long, known, clean.comes_to, fresh_value name value now fresh) refl,
)

-- an option whose value is the next word
pub option_without_value : (rules : List Rule) (rows : List Row) (pending : Option (Text × List Text)) (now : List Row) (position : ℕ) (word name : Text)
    → IsDashes word false → long_of word ≡ Some (name, None) → arg_by_long rules name ≡ Some (option_named name)
    → Clean rules (held rows pending) now
    → (turn_fault (shape_with rules) [] (walk_at (held rows pending) idle position false) word ≡ [])
    × (walked rules [] (walk_at (held rows pending) idle position false) word
    ≡ walk_at (held now (Some (name, []))) (waits_for name) position false)
unfolding walked
option_without_value rules rows pending now position word name dashes long known clean = (
  rw (dashes, long, known, clean.passes) refl,
  rw (dashes, long, known, clean.comes_to) refl,
)

-- an option that has a value already
pub option_again : (rules : List Rule) (rows : List Row) (pending : Option (Text × List Text)) (now : List Row) (position : ℕ) (word name value : Text)
    → IsDashes word false → long_of word ≡ Some (name, Some value) → arg_by_long rules name ≡ Some (option_named name)
    → Clean rules (held rows pending) now → has_row name now ≡ true
    → turn_fault (shape_with rules) [] (walk_at (held rows pending) idle position false) word ≡ kind.ArgumentConflict ∷ []
option_again rules rows pending now position word name value dashes long known clean there =
    rw (dashes, long, known, clean.passes, clean.comes_to, there) refl

-- an option that isn't known, wherever a word may be one
abbrev pub May : Waiting → Type 0
May waiting = (waiting ≡ idle) ⊎ ((name : Text) × (waiting ≡ waits_for name))

pub option_unknown : (rules : List Rule) (h : Held) (waiting : Waiting) (position : ℕ) (word name : Text) (value : Option Text)
    → IsDashes word false → long_of word ≡ Some (name, value) → arg_by_long rules name ≡ None → May waiting
    → turn_fault (shape_with rules) [] (walk_at h waiting position false) word ≡ kind.UnknownArgument ∷ []
option_unknown rules h waiting position word name value dashes long none (inl is) = rw is (rw (dashes, long, none) refl)
option_unknown rules h waiting position word name value dashes long none (inr (other, is)) = rw is (rw (dashes, long, none) refl)

-- an option after something whose fault comes now
pub option_after_fault : (rules : List Rule) (h : Held) (waiting : Waiting) (position : ℕ) (word name : Text) (value : Option Text) (k : ErrorKind) (ks : Kinds)
    → IsDashes word false → long_of word ≡ Some (name, value) → arg_by_long rules name ≡ Some (option_named name) → May waiting
    → settle_fault rules false h ≡ k ∷ ks
    → turn_fault (shape_with rules) [] (walk_at h waiting position false) word ≡ k ∷ ks
option_after_fault rules h waiting position word name (Some value) k ks dashes long known (inl is) fails = rw is (rw (dashes, long, known, fails) refl)
option_after_fault rules h waiting position word name (Some value) k ks dashes long known (inr (other, is)) fails = rw is (rw (dashes, long, known, fails) refl)
option_after_fault rules h waiting position word name None k ks dashes long known (inl is) fails = rw is (rw (dashes, long, known, fails) refl)
option_after_fault rules h waiting position word name None k ks dashes long known (inr (other, is)) fails = rw is (rw (dashes, long, known, fails) refl)

-- a word with one hyphen and more
pub bundle_refused : (rules : List Rule) (rows : List Row) (pending : Option (Text × List Text)) (waiting : Waiting) (position : ℕ) (word : Text) (b : ℕ) (rest : Text)
    → word ≡ 45 ∷ b ∷ rest → IsUtf8 word → IsDashes word false → long_of word ≡ None → short_of word ≡ Some (b ∷ rest)
    → ((x : ℕ) → arg_by_short rules x ≡ None) → May waiting
    → turn_fault (shape_with rules) [] (walk_at (held rows pending) waiting position false) word ≡ kind.UnknownArgument ∷ []
unfolding flags_fault
bundle_refused rules rows pending waiting position word b rest begins text dashes long short none may =
    go (slice_get (chars (b ∷ rest)) 0) refl (first_character b rest (subst IsUtf8 begins text)) may
  where
    go : (first : Option ℕ) → slice_get (chars (b ∷ rest)) 0 ≡ first → is_some (slice_get (chars (b ∷ rest)) 0) ≡ true → May waiting
        → turn_fault (shape_with rules) [] (walk_at (held rows pending) waiting position false) word ≡ kind.UnknownArgument ∷ []
    go None e there m = let bad : false ≡ true = rw e at there in cc
    go (Some x) e there (inl is) = rw is (rw (dashes, long, short, e, none x) refl)
    go (Some x) e there (inr (other, is)) = rw is (rw (dashes, long, short, e, none x) refl)

-- a word goes to a place: any word after `--`, and a plain word where no option waits for its value
pub data GoesToPlace (word : Text) : Waiting → Bool → Type 0 where
  behind : (waiting : Waiting) → GoesToPlace word waiting true
  before : IsDashes word false → long_of word ≡ None → short_of word ≡ None → GoesToPlace word idle false

-- and fills it
pub place_filled : (rules : List Rule) (rows : List Row) (pending : Option (Text × List Text)) (now : List Row) (waiting : Waiting) (position : ℕ)
    (trailing : Bool) (word place : Text) → GoesToPlace word waiting trailing
    → arg_by_index rules position ≡ Some (place_at position place) → position < usize_max → Clean rules (held rows pending) now
    → (turn_fault (shape_with rules) [] (walk_at (held rows pending) waiting position trailing) word ≡ [])
    × (walked rules [] (walk_at (held rows pending) waiting position trailing) word
    ≡ walk_at (held now (Some (place, word ∷ []))) idle (position + 1) trailing)
unfolding walked
place_filled rules rows pending now waiting position trailing word place goes found less clean =
    go (is_pending (place_at position place) pending) refl waiting trailing goes
  where
    next : min (position + 1) usize_max ≡ position + 1
    next = omega (arith, less)

    go : (t : Bool) → is_pending (place_at position place) pending ≡ t → (w : Waiting) (b : Bool) → GoesToPlace word w b
        → (turn_fault (shape_with rules) [] (walk_at (held rows pending) w position b) word ≡ [])
        × (walked rules [] (walk_at (held rows pending) w position b) word
        ≡ walk_at (held now (Some (place, word ∷ []))) idle (position + 1) b)
    go true e w b (before dashes long short) =
        (rw (dashes, long, short, found, e, clean.passes) refl, rw (dashes, long, short, found, e, clean.comes_to, next) refl)
    go false e w b (before dashes long short) =
        (rw (dashes, long, short, found, e, clean.passes) refl, rw (dashes, long, short, found, e, clean.comes_to, next) refl)
    go true e w b (behind v) = (rw (found, e, clean.passes) refl, rw (found, e, clean.comes_to, next) refl)
    go false e w b (behind v) = (rw (found, e, clean.passes) refl, rw (found, e, clean.comes_to, next) refl)

-- and finds none
pub no_place : (rules : List Rule) (h : Held) (waiting : Waiting) (position : ℕ) (trailing : Bool) (word : Text) → GoesToPlace word waiting trailing
    → arg_by_index rules position ≡ None
    → turn_fault (shape_with rules) [] (walk_at h waiting position trailing) word ≡ kind.UnknownArgument ∷ []
no_place rules h waiting position trailing word (before dashes long short) none = rw (dashes, long, short, none) refl
no_place rules h waiting position trailing word (behind v) none = rw none refl

-- and comes after something whose fault comes now
place_after_fault : (rules : List Rule) (rows : List Row) (pending : Option (Text × List Text)) (waiting : Waiting) (position : ℕ)
    (trailing : Bool) (word place : Text) (k : ErrorKind) (ks : Kinds) → GoesToPlace word waiting trailing
    → arg_by_index rules position ≡ Some (place_at position place) → settle_fault rules false (held rows pending) ≡ k ∷ ks
    → turn_fault (shape_with rules) [] (walk_at (held rows pending) waiting position trailing) word ≡ k ∷ ks
place_after_fault rules rows pending waiting position trailing word place k ks goes found fails =
    go (is_pending (place_at position place) pending) refl waiting trailing goes
  where
    go : (t : Bool) → is_pending (place_at position place) pending ≡ t → (w : Waiting) (b : Bool) → GoesToPlace word w b
        → turn_fault (shape_with rules) [] (walk_at (held rows pending) w position b) word ≡ k ∷ ks
    go true e w b (before dashes long short) = rw (dashes, long, short, found, e, fails) refl
    go false e w b (before dashes long short) = rw (dashes, long, short, found, e, fails) refl
    go true e w b (behind v) = rw (found, e, fails) refl
    go false e w b (behind v) = rw (found, e, fails) refl

-- a plain word for the option that waits
pub value_filled : (rules : List Rule) (rows : List Row) (position : ℕ) (word name : Text) → IsDashes word false → long_of word ≡ None → short_of word ≡ None
    → Serves rules name
    → (turn_fault (shape_with rules) [] (walk_at (held rows (Some (name, []))) (waits_for name) position false) word ≡ [])
    × (walked rules [] (walk_at (held rows (Some (name, []))) (waits_for name) position false) word
    ≡ walk_at (held rows (Some (name, word ∷ []))) idle position false)
unfolding walked
value_filled rules rows position word name dashes long short serves =
    (rw (dashes, long, short) refl, rw (dashes, long, short, serves.fills word rows) refl)

-- ---- the words after a fault that is still to come

-- The rules know these options, and no short ones.
pub record Knows (rules : List Rule) (options : List Text) : Type 0 where
  pub known : (name : Text) → has_name name options ≡ true → arg_by_long rules name ≡ Some (option_named name)
  pub unknown_name : (name : Text) → has_name name options ≡ false → arg_by_long rules name ≡ None
  pub no_short : (x : ℕ) → arg_by_short rules x ≡ None
  pub serves : (name : Text) → has_name name options ≡ true → Serves rules name

pub fails_at_end : (rules : List Rule) (w : Walk) (rows : List Row) (k : ErrorKind) (ks : Kinds) → settle_fault rules false w.held ≡ k ∷ ks
    → Ends rules w [] rows None
unfolding walk_fault
fails_at_end rules w rows k ks fails = λ none. let bad : k ∷ ks ≡ [] = sym fails ∙ none in cc

-- a word for a place
fails_at_place : (rules : List Rule) (rows : List Row) (pending : Option (Text × List Text)) (waiting : Waiting) (position : ℕ)
    (trailing : Bool) (word : Text) (words : List Text) (now : List Row) (k : ErrorKind) (ks : Kinds) (places : List Text) → GoesToPlace word waiting trailing
    → Places rules position places → settle_fault rules false (held rows pending) ≡ k ∷ ks
    → Ends rules (walk_at (held rows pending) waiting position trailing) (word ∷ words) now None
fails_at_place rules rows pending waiting position trailing word words now k ks [] goes places fails =
    stops rules _ word words now _ _ (no_place rules (held rows pending) waiting position trailing word goes places)
fails_at_place rules rows pending waiting position trailing word words now k ks (place ∷ more) goes places fails =
    stops rules _ word words now k ks (place_after_fault rules rows pending waiting position trailing word place k ks goes places.0 fails)

pub fails_behind : (rules : List Rule) (rows : List Row) (pending : Option (Text × List Text)) (waiting : Waiting) (position : ℕ)
    (words : List Text) (now : List Row) (k : ErrorKind) (ks : Kinds) (places : List Text)
    → Places rules position places → settle_fault rules false (held rows pending) ≡ k ∷ ks
    → Ends rules (walk_at (held rows pending) waiting position true) words now None
fails_behind rules rows pending waiting position [] now k ks places hold fails = fails_at_end rules _ now k ks fails
fails_behind rules rows pending waiting position (word ∷ words) now k ks places hold fails =
    fails_at_place rules rows pending waiting position true word words now k ks places (behind waiting) hold fails

pub fails_before : (rules : List Rule) (options : List Text) → Knows rules options → (rows : List Row) (pending : Option (Text × List Text)) (position : ℕ)
    (words : List Text) (now : List Row) (k : ErrorKind) (ks : Kinds) (places : List Text) → All IsUtf8 words
    → Places rules position places → settle_fault rules false (held rows pending) ≡ k ∷ ks
    → Ends rules (walk_at (held rows pending) idle position false) words now None
fails_before rules options knows rows pending position [] now k ks places text hold fails = fails_at_end rules _ now k ks fails
fails_before rules options knows rows pending position (word ∷ words) now k ks places text hold fails = go (word_kind word) (looks_like word)
  where
    option_fails : (name : Text) (value : Option Text) → IsDashes word false → long_of word ≡ Some (name, value)
        → (t : Bool) → has_name name options ≡ t → Ends rules (walk_at (held rows pending) idle position false) (word ∷ words) now None
    option_fails name value dashes long true e = stops rules _ word words now k ks
        (option_after_fault rules (held rows pending) idle position word name value k ks dashes long (knows.known name e) (inl refl) fails)
    option_fails name value dashes long false e = stops rules _ word words now _ _
        (option_unknown rules (held rows pending) idle position word name value dashes long (knows.unknown_name name e) (inl refl))

    go : (what : WordKind) → LooksLike word what → Ends rules (walk_at (held rows pending) idle position false) (word ∷ words) now None
    go what (as_end dashes) =
        let step = end_passes rules (held rows pending) idle position word dashes (inl refl) in
        goes_on rules _ _ word words now None step.0 step.1 (fails_behind rules rows pending idle position words now k ks places hold fails)
    go what (as_option name value dashes long) = option_fails name value dashes long (has_name name options) refl
    go what (as_unknown b rest begins dashes long short) = stops rules _ word words now _ _
        (bundle_refused rules rows pending idle position word b rest begins (text 0 word (omega arith)) dashes long short knows.no_short (inl refl))
    go what (as_plain dashes long short) =
        fails_at_place rules rows pending idle position false word words now k ks places (before dashes long short) hold fails
