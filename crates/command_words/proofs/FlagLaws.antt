-- The words around a flag: where no option before it awaits its value, the arguments of all other words are those
-- before it and then those behind it; and where one does, there are none.
use Rattle.std.proofs.Common.{◌≡◌, ◌+◌, ◌∙◌, ◌++◌, ◌<◌, ◌≤◌, ℕ, zero, suc, Bool, true, false, List, [], ◌∷◌, map, length, take, drop, Option, Some, None, is_some, option_map, option_and_then, refl, sym, ap, subst, arith}
use Rattle.std.specs.Prelude.{codes, nat_eq, nat_lt, not, ◌&&◌, ◌==◌, get_or, if◌then◌else◌}
use Rattle.std.specs.List.{list_any, starts_with, All}
use Rattle.std.specs.Str.{IsUtf8}
use Rattle.std.proofs.lemmas.List.{at_drop_more, take_more, map-append}
use Rattle.std.proofs.lemmas.Bool.Decides.{nat_tests}
use Rattle.std.specs.List.{take-map}
use Rattle.std.specs.Borrow.{Bor}
use native.Mathlib.Numerals.{unary_clauses}
use Rattle.command_words.specs.Parts.{texts}
use Rattle.std.proofs.lemmas.List.Elements.{All-append, All-take, All-drop}
use Rattle.std.specs.Str.{bytes_eq}
use Rattle.command_words.specs.Words.{WordKind, option, options_end, plain, unknown, word_kind, option_of, is_equals_sign, Argument, word_given, option_given, Arguments, with_argument, arguments_after, from_word, from_value, from_either}
use Rattle.command_words.specs.Flags.{flag_place, IsFlagPlace, arguments_around, awaits_value, is_open, is_open_but}
use Rattle.command_words.proofs.WordKinds.{IsDashes, LooksLike, as_end, as_option, as_plain, as_unknown, looks_like}

abbrev pub Word : Type 0
Word = List ℕ

-- the arguments of some words, with those behind them
abbrev pub joined : Option Arguments → Option Arguments → Option Arguments
joined first second = option_and_then (λ a. option_map (λ b. a ++ b) second) first

-- none of these words is `--`
abbrev pub HasNoEnd : List Word → Type 0
HasNoEnd [] = Unit {0}
HasNoEnd (word ∷ words) = IsDashes word false × HasNoEnd words

joined_more : (argument : Argument) (first second : Option Arguments) → with_argument argument (joined first second) ≡ joined (with_argument argument first) second
joined_more argument None second = refl
joined_more argument (Some a) None = refl
joined_more argument (Some a) (Some b) = refl

joined_none : (second : Option Arguments) → second ≡ joined (Some []) second
joined_none None = refl
joined_none (Some b) = refl

-- ---- no option awaits its value

-- the outcome of the words after a word, by the kind of that word
abbrev pub JoinsAfter : List Word → List Word → Option Arguments → WordKind → Type 0
JoinsAfter all words second what = (next : Option Word) → is_some next ≡ awaits_value what → arguments_after all next ≡ joined (arguments_after words next) second

at_rest_joined : (word : Word) (all words : List Word) (second : Option Arguments) (what : WordKind) → LooksLike word what → IsDashes word false
    → JoinsAfter all words second what → from_word what word all (arguments_after all) ≡ joined (from_word what word words (arguments_after words)) second
at_rest_joined word all words second what (as_end dashes) plainly more = let bad : true ≡ false = sym dashes ∙ plainly in cc
at_rest_joined word all words second what (as_option name (Some value) dashes long) plainly more =
    ap (with_argument (option_given name value)) (more None refl) ∙ joined_more (option_given name value) (arguments_after words None) second
at_rest_joined word all words second what (as_option name None dashes long) plainly more = more (Some name) refl
at_rest_joined word all words second what (as_unknown b rest begins dashes long short) plainly more = refl
at_rest_joined word all words second what (as_plain dashes long short) plainly more =
    ap (with_argument (word_given word)) (more None refl) ∙ joined_more (word_given word) (arguments_after words None) second

at_option_joined : (name word : Word) (all words : List Word) (second : Option Arguments) (what : WordKind) → LooksLike word what
    → JoinsAfter all words second what → from_value name what word (arguments_after all) ≡ joined (from_value name what word (arguments_after words)) second
at_option_joined name word all words second what (as_end dashes) more = refl
at_option_joined name word all words second what (as_option other value dashes long) more = refl
at_option_joined name word all words second what (as_unknown b rest begins dashes long short) more = refl
at_option_joined name word all words second what (as_plain dashes long short) more =
    ap (with_argument (option_given name word)) (more None refl) ∙ joined_more (option_given name word) (arguments_after words None) second

pub words_joined : (words behind : List Word) (waiting : Option Word) → HasNoEnd words → is_open (is_some waiting) words ≡ false
    → arguments_after (words ++ behind) waiting ≡ joined (arguments_after words waiting) (arguments_after behind None)
words_joined [] behind None plainly closed = joined_none (arguments_after behind None)
words_joined [] behind (Some name) plainly closed = cc
words_joined (word ∷ words) behind None plainly closed =
    at_rest_joined word (words ++ behind) words (arguments_after behind None) (word_kind word) (looks_like word) plainly.0
    (λ next same. words_joined words behind next plainly.1 (ap (λ b. is_open b words) same ∙ closed))
words_joined (word ∷ words) behind (Some name) plainly closed =
    at_option_joined name word (words ++ behind) words (arguments_after behind None) (word_kind word) (looks_like word)
    (λ next same. words_joined words behind next plainly.1 (ap (λ b. is_open b words) same ∙ closed))

-- ---- one does

abbrev pub NoneAfter : List Word → WordKind → Type 0
NoneAfter words what = (next : Option Word) → is_some next ≡ awaits_value what → arguments_after words next ≡ None

at_rest_none : (word : Word) (words : List Word) (what : WordKind) → LooksLike word what → IsDashes word false → NoneAfter words what
    → from_word what word words (arguments_after words) ≡ None
at_rest_none word words what (as_end dashes) plainly more = let bad : true ≡ false = sym dashes ∙ plainly in cc
at_rest_none word words what (as_option name (Some value) dashes long) plainly more = ap (with_argument (option_given name value)) (more None refl)
at_rest_none word words what (as_option name None dashes long) plainly more = more (Some name) refl
at_rest_none word words what (as_unknown b rest begins dashes long short) plainly more = refl
at_rest_none word words what (as_plain dashes long short) plainly more = ap (with_argument (word_given word)) (more None refl)

at_option_none : (name word : Word) (words : List Word) (what : WordKind) → LooksLike word what → NoneAfter words what
    → from_value name what word (arguments_after words) ≡ None
at_option_none name word words what (as_end dashes) more = refl
at_option_none name word words what (as_option other value dashes long) more = refl
at_option_none name word words what (as_unknown b rest begins dashes long short) more = refl
at_option_none name word words what (as_plain dashes long short) more = ap (with_argument (option_given name word)) (more None refl)

pub words_open : (words : List Word) (waiting : Option Word) → HasNoEnd words → is_open (is_some waiting) words ≡ true → arguments_after words waiting ≡ None
words_open [] None plainly open_after = cc
words_open [] (Some name) plainly open_after = refl
words_open (word ∷ words) None plainly open_after =
    at_rest_none word words (word_kind word) (looks_like word) plainly.0 (λ next same. words_open words next plainly.1 (ap (λ b. is_open b words) same ∙ open_after))
words_open (word ∷ words) (Some name) plainly open_after =
    at_option_none name word words (word_kind word) (looks_like word) (λ next same. words_open words next plainly.1 (ap (λ b. is_open b words) same ∙ open_after))

-- ---- the place

same_place : (m n : ℕ) → Some m ≡ Some n → m ≡ n
same_place m n same = cc

-- the word at the place of a flag is there, and none before it is `--`
pub place_is_in : (flag : Word) (words : List Word) (place : ℕ) → flag_place flag words ≡ Some place → (place < length words) × HasNoEnd (take place words)
place_is_in flag [] place is = cc
place_is_in flag (word ∷ words) place is =
    go (bytes_eq word flag) refl (bytes_eq word (codes "--")) refl (flag_place flag words) refl (λ q same. place_is_in flag words q same)
  where
    go : (t : Bool) → bytes_eq word flag ≡ t → (u : Bool) → bytes_eq word (codes "--") ≡ u → (p : Option ℕ) → flag_place flag words ≡ p
        → ((q : ℕ) → flag_place flag words ≡ Some q → (q < length words) × HasNoEnd (take q words))
        → (place < length (word ∷ words)) × HasNoEnd (take place (word ∷ words))
    go true e u f p same rest =
        let at_once : Some 0 ≡ Some place = rw e at is in
        subst (λ (n : ℕ). (n < length (word ∷ words)) × HasNoEnd (take n (word ∷ words))) (same_place 0 place at_once) (omega arith, tt)
    go false e true f p same rest = let bad : ◌≡◌ {A = Option ℕ} None (Some place) = rw (e, f) at is in cc
    go false e false f None same rest = let bad : ◌≡◌ {A = Option ℕ} None (Some place) = rw (e, f, same) at is in cc
    go false e false f (Some q) same rest =
        let next : Some (q + 1) ≡ Some place = rw (e, f, same) at is in
        let known = rest q same in
        subst (λ (n : ℕ). (n < length (word ∷ words)) × HasNoEnd (take n (word ∷ words))) (same_place (q + 1) place next) (omega (arith, known.0), simp unary_clauses (f, known.1))

-- the last of some words decides
pub open_by_last : (before : Bool) (words : List Word) (word : Word) → is_open before (words ++ word ∷ []) ≡ awaits_value (word_kind word)
open_by_last before [] word = refl
open_by_last before (first ∷ words) word = open_by_last (awaits_value (word_kind first)) words word

-- ---- what the code sees of the word before

longer : (n : ℕ) → nat_lt 2 (suc (suc (suc n))) ≡ true
longer n = grind (arith, nat_tests)

nat_is : (a b : ℕ) → (a == b) ≡ true → a ≡ b
nat_is a b h = grind (arith, h)

-- an option awaits its value where it has no equals sign
by_value : (text : Word) (v : Bool) → list_any is_equals_sign text ≡ v → awaits_value (option_of text) ≡ not v
by_value text true e = rw e refl
by_value text false e = rw e refl

pub awaits_as : (word : Word) → awaits_value (word_kind word) ≡ (nat_lt 2 (length word) && (starts_with nat_eq word (45 ∷ 45 ∷ []) && not (list_any (λ b. b == 61) word)))
awaits_as [] = refl
awaits_as (a ∷ []) = one (a == 45) refl
  where
    one : (t : Bool) → (a == 45) ≡ t → awaits_value (word_kind (a ∷ [])) ≡ false
    one true e = rw e refl
    one false e = rw e refl
awaits_as (a ∷ b ∷ []) = two (a == 45) refl (b == 45) refl
  where
    two : (t : Bool) → (a == 45) ≡ t → (u : Bool) → (b == 45) ≡ u → awaits_value (word_kind (a ∷ b ∷ [])) ≡ false
    two true e true f = rw (e, f) refl
    two true e false f = rw (e, f) refl
    two false e u f = rw e refl
awaits_as (a ∷ b ∷ d ∷ rest) = three (a == 45) refl (b == 45) refl (list_any (λ x. x == 61) (d ∷ rest)) refl
  where
    three : (t : Bool) → (a == 45) ≡ t → (u : Bool) → (b == 45) ≡ u → (v : Bool) → list_any (λ x. x == 61) (d ∷ rest) ≡ v
        → awaits_value (word_kind (a ∷ b ∷ d ∷ rest)) ≡ (nat_lt 2 (length (a ∷ b ∷ d ∷ rest)) && (starts_with nat_eq (a ∷ b ∷ d ∷ rest) (45 ∷ 45 ∷ []) && not (list_any (λ x. x == 61) (a ∷ b ∷ d ∷ rest))))
    three true e true f v g =
        let a_is = nat_is a 45 e in
        let b_is = nat_is b 45 f in
        let long = longer (length rest) in
        rw (a_is, b_is, long) (by_value (d ∷ rest) (list_any is_equals_sign (d ∷ rest)) refl)
    three true e false f v g = grind (arith, e, f)
    three false e u f v g = grind (arith, e)

-- the texts around the place
pub texts_around : (words : List Word) (place : ℕ) → All IsUtf8 words → All IsUtf8 (take place words ++ drop (place + 1) words)
texts_around words place all = All-append IsUtf8 (take place words) (drop (place + 1) words) (All-take IsUtf8 place words all) (All-drop IsUtf8 (place + 1) words all)

-- their arguments, where no option awaits its value before the place, and where one does
pub around_closed : (words : List Word) (place : ℕ) → IsFlagPlace words place → is_open false (take place words) ≡ false
    → arguments_after (take place words ++ drop (place + 1) words) None ≡ arguments_around (take place words) (drop (place + 1) words)
around_closed words place is closed = words_joined (take place words) (drop (place + 1) words) None (place_is_in is.0 words place is.1).1 closed

pub around_open : (words : List Word) (place : ℕ) → IsFlagPlace words place → is_open false (take place words) ≡ true
    → arguments_around (take place words) (drop (place + 1) words) ≡ None
around_open words place is opened = rw (words_open (take place words) None (place_is_in is.0 words place is.1).1 opened) refl

-- the word before the place decides
pub open_at_front : (words : List Word) (place : ℕ) → place < 1 → is_open false (take place words) ≡ false
open_at_front words zero front = refl
open_at_front words (suc n) front = absurd (omega (arith, front))

pub open_behind : (words : List (Bor Word)) (n : ℕ) (d : Bor Word) → n < length words → is_open false (take (n + 1) (texts words)) ≡ awaits_value (word_kind (get_or words n d).now)
open_behind words n d within =
    ap (is_open false) (take-map (λ (s : Bor Word). s.now) (n + 1) words ∙ ap texts (take_more words n d within) ∙ map-append (λ (s : Bor Word). s.now) (take n words) (get_or words n d ∷ []))
    ∙ open_by_last false (texts (take n words)) (get_or words n d).now

drop_more : (words : List (Bor Word)) (i : ℕ) (d : Bor Word) → i < length words → drop i words ≡ get_or words i d ∷ drop (i + 1) words
drop_more words i d within = at_drop_more (λ x. x) words i d within

-- the words so far, and one more that is neither
pub flag_step : (flag : Word) (words : List (Bor Word)) (i : ℕ) (d : Bor Word) → i < length words → bytes_eq (get_or words i d).now flag ≡ false → bytes_eq (get_or words i d).now (codes "--") ≡ false
    → flag_place flag (texts words) ≡ option_map (λ place. place + i) (flag_place flag (texts (drop i words)))
    → flag_place flag (texts words) ≡ option_map (λ place. place + (i + 1)) (flag_place flag (texts (drop (i + 1) words)))
flag_step flag words i d within isnt ends_not so_far =
    so_far ∙ ap (λ x. option_map (λ place. place + i) (flag_place flag (texts x))) (drop_more words i d within) ∙ rw (isnt, ends_not) (later (flag_place flag (texts (drop (i + 1) words))))
  where
    later : (p : Option ℕ) → option_map (λ place. place + i) (option_map (λ place. place + 1) p) ≡ option_map (λ place. place + (i + 1)) p
    later None = refl
    later (Some n) = ap (λ k. Some k) (omega arith)

-- the words so far, and one more, where another flag awaits no value
pub open_step : (other : Word) (words : List (Bor Word)) (i : ℕ) (d : Bor Word) (opened next : Bool) → i < length words
    → next ≡ (if bytes_eq (get_or words i d).now other then opened else awaits_value (word_kind (get_or words i d).now))
    → is_open_but other false (texts words) ≡ is_open_but other opened (texts (drop i words)) → is_open_but other false (texts words) ≡ is_open_but other next (texts (drop (i + 1) words))
open_step other words i d opened next within is so_far =
    so_far ∙ ap (λ x. is_open_but other opened (texts x)) (drop_more words i d within) ∙ ap (λ b. is_open_but other b (texts (drop (i + 1) words))) (sym is)
