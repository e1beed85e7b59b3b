-- A whole walk of `clap` over the words, against the values that the words give.
use Rattle.std.proofs.Common.{◌≡◌, ◌+◌, ◌∙◌, ◌&&◌, ◌||◌, ◌++◌, inl, inr, ℕ, Bool, true, false, not, List, [], ◌∷◌, map, Option, Some, None, refl, sym, ap, subst, arith, append-nil}
use Rattle.std.specs.Prelude.{option_and_then}
use Rattle.std.specs.List.{All}
use Rattle.std.specs.Str.{IsUtf8, bytes_eq}
use Rattle.std.proofs.lemmas.List.Elements.{All-drop}
use Rattle.std.proofs.lemmas.Slice.Eq.{bytes_eq-Decides}
use Rattle.clap.specs.Lexer.{long_of}
use Rattle.clap.specs.Walk.{Held, Row, Rule, Text, Waiting, has_row, idle, option as waits_for}
use Rattle.clap.specs.Faults.{walk_fault}
use Rattle.command_words.specs.Words.{Arguments, Values, WordKind, arguments_after, from_value, from_word, has_name, names_without, option, option_given, options_end, plain, unknown, values_of, with_argument, with_value, word_given, word_kind}
use Rattle.command_words.specs.Line.{are_distinct}
use Rattle.command_words.proofs.WordKinds.{IsDashes, LooksLike, as_end, as_option, as_plain, as_unknown, looks_like}
use Rattle.command_words.proofs.ClapRules.{Places, Serves, fresh_value, has_row_more, held, no_repeat, repeats, row_of_value}
use Rattle.command_words.proofs.ClapWalk.{Clean, Ends, GoesToPlace, Knows, before, behind, bundle_refused, end_passes, fails_at_end, fails_before, fails_behind, goes_on, no_place, option_after_fault, option_again, option_unknown, option_with_value, option_without_value, place_filled, stops, value_filled, walk_at, with_row}

-- ---- names

-- the other names are those that aren't this one
pub other_names : (other name : Text) (names : List Text) → has_name other (names_without name names) ≡ (has_name other names && not (bytes_eq name other))
other_names other name [] = refl
other_names other name (n ∷ names) =
    go (bytes_eq n name) refl (bytes_eq n other) refl (bytes_eq name other) refl (other_names other name names)
  where
    same_left : (h t v : Bool) → t ≡ v → (h && not v) ≡ ((t || h) && not v)
    same_left true true true is = refl
    same_left true false false is = refl
    same_left false true true is = refl
    same_left false false false is = refl
    same_left h true false is = cc
    same_left h false true is = cc

    go : (t : Bool) → bytes_eq n name ≡ t → (u : Bool) → bytes_eq n other ≡ u → (v : Bool) → bytes_eq name other ≡ v
        → has_name other (names_without name names) ≡ (has_name other names && not (bytes_eq name other))
        → has_name other (names_without name (n ∷ names)) ≡ (has_name other (n ∷ names) && not (bytes_eq name other))
    go true e u f v g more =
        let same : bytes_eq n other ≡ bytes_eq name other = ap (λ (m : Text). bytes_eq m other) ((bytes_eq-Decides n name).0 e) in
        rw e (more ∙ same_left (has_name other names) (bytes_eq n other) (bytes_eq name other) same)
    go false e true f true g more =
        let one : n ≡ name = (bytes_eq-Decides n other).0 f ∙ sym ((bytes_eq-Decides name other).0 g) in
        let bad : true ≡ false = sym ((bytes_eq-Decides n name).1 one) ∙ e in cc
    go false e true f false g more = rw (e, f, g) refl
    go false e false f v g more = rw (e, f) more

-- ---- the values of arguments

abbrev pub given : List Text → List Text → Option Arguments → Option Values
given places options = option_and_then (λ arguments. values_of arguments places options)

given_place : (place word : Text) (places options : List Text) (o : Option Arguments)
    → given (place ∷ places) options (with_argument (word_given word) o) ≡ with_value place word (given places options o)
given_place place word places options None = refl
given_place place word places options (Some arguments) = refl

given_nowhere : (word : Text) (options : List Text) (o : Option Arguments) → given [] options (with_argument (word_given word) o) ≡ None
given_nowhere word options None = refl
given_nowhere word options (Some arguments) = refl

given_option : (name value : Text) (places options : List Text) (o : Option Arguments) → has_name name options ≡ true
    → given places options (with_argument (option_given name value) o) ≡ with_value name value (given places (names_without name options) o)
given_option name value places options None has = refl
given_option name value places options (Some arguments) has = rw has refl

given_refused : (name value : Text) (places options : List Text) (o : Option Arguments) → has_name name options ≡ false
    → given places options (with_argument (option_given name value) o) ≡ None
given_refused name value places options None has = refl
given_refused name value places options (Some arguments) has = rw has refl

-- the name that waits for a value is an option
given_waiting : (name : Text) (words places options : List Text) → has_name name options ≡ false
    → given places options (arguments_after words (Some name)) ≡ None
given_waiting name [] places options has = refl
given_waiting name (word ∷ words) places options has = go (word_kind word)
  where
    go : (what : WordKind) → given places options (from_value name what word (arguments_after words)) ≡ None
    go options_end = refl
    go (option n v) = refl
    go unknown = refl
    go plain = given_refused name word places options (arguments_after words None) has

-- ---- what is left

-- Of the names that may still get a value none has a row; each other option has one.
pub record Left (rows : List Row) (options places left : List Text) : Type 0 where
  pub free_place : (x : Text) → has_name x places ≡ true → has_row x rows ≡ false
  pub free_option : (x : Text) → has_name x left ≡ true → has_row x rows ≡ false
  pub used_option : (x : Text) → has_name x options ≡ true → has_name x left ≡ false → has_row x rows ≡ true
  pub are_options : (x : Text) → has_name x left ≡ true → has_name x options ≡ true
  pub distinct : are_distinct places ≡ true
  pub apart : (x : Text) → has_name x places ≡ true → has_name x left ≡ false

same_name : (x : Text) → bytes_eq x x ≡ true
same_name x = (bytes_eq-Decides x x).1 refl

-- a test that may not pass
not_so : (t : Bool) → ¬ (t ≡ true) → t ≡ false
not_so true h = absurd (h refl)
not_so false h = refl

pub or_right : (a b : Bool) → b ≡ true → (a || b) ≡ true
or_right true b e = refl
or_right false b e = e

both_false : (a b : Bool) → a ≡ false → b ≡ false → (a || b) ≡ false
both_false a b e f = rw (e, f) refl

pub and_left : (a b : Bool) → (a && b) ≡ true → (a ≡ true) × (b ≡ true)
and_left true true e = (refl, refl)
and_left true false e = cc
and_left false b e = cc

after_place : (rows : List Row) (options places left : List Text) (place value : Text) → Left rows options (place ∷ places) left
    → Left (rows ++ row_of_value place value ∷ []) options places left
after_place rows options places left place value h = record {
  free_place = λ x has. has_row_more x place value rows ∙ both_false (has_row x rows) (bytes_eq place x)
      (h.free_place x (or_right (bytes_eq place x) (has_name x places) has))
      (not_so (bytes_eq place x) (λ same. let is : place ≡ x = (bytes_eq-Decides place x).0 same in
      let twice : has_name place places ≡ true = subst (λ (y : Text). has_name y places ≡ true) (sym is) has in
      let once = (and_left (not (has_name place places)) (are_distinct places) h.distinct).0 in
      let bad : false ≡ true = rw twice at once in cc));
  free_option = λ x has. has_row_more x place value rows ∙ both_false (has_row x rows) (bytes_eq place x) (h.free_option x has)
      (not_so (bytes_eq place x) (λ same. let is : place ≡ x = (bytes_eq-Decides place x).0 same in
      let here : has_name x (place ∷ places) ≡ true = rw same refl in
      let bad : true ≡ false = sym has ∙ h.apart x here in cc));
  used_option = λ x has gone. has_row_more x place value rows ∙ ap (λ (t : Bool). t || bytes_eq place x) (h.used_option x has gone);
  are_options = h.are_options;
  distinct = (and_left (not (has_name place places)) (are_distinct places) h.distinct).1;
  apart = λ x has. h.apart x (or_right (bytes_eq place x) (has_name x places) has);
}

after_option : (rows : List Row) (options places left : List Text) (name value : Text) → has_name name left ≡ true → Left rows options places left
    → Left (rows ++ row_of_value name value ∷ []) options places (names_without name left)
after_option rows options places left name value there h = record {
  free_place = λ x has. has_row_more x name value rows ∙ both_false (has_row x rows) (bytes_eq name x) (h.free_place x has)
      (not_so (bytes_eq name x) (λ same. let is : name ≡ x = (bytes_eq-Decides name x).0 same in
      let bad : true ≡ false = sym (subst (λ (y : Text). has_name y left ≡ true) is there) ∙ h.apart x has in cc));
  free_option = λ x has. let kept = and_left (has_name x left) (not (bytes_eq name x)) (sym (other_names x name left) ∙ has) in
      has_row_more x name value rows ∙ both_false (has_row x rows) (bytes_eq name x) (h.free_option x kept.0)
      (not_so (bytes_eq name x) (λ same. let bad : false ≡ true = rw same at kept.1 in cc));
  used_option = λ x has gone. has_row_more x name value rows ∙ used x has (has_name x left) refl (bytes_eq name x) refl (sym (other_names x name left) ∙ gone);
  are_options = λ x has. h.are_options x (and_left (has_name x left) (not (bytes_eq name x)) (sym (other_names x name left) ∙ has)).0;
  distinct = h.distinct;
  apart = λ x has. other_names x name left ∙ ap (λ (t : Bool). t && not (bytes_eq name x)) (h.apart x has);
}
  where
    used : (x : Text) → has_name x options ≡ true → (t : Bool) → has_name x left ≡ t → (u : Bool) → bytes_eq name x ≡ u
        → (has_name x left && not (bytes_eq name x)) ≡ false → (has_row x rows || bytes_eq name x) ≡ true
    used x has t e true f gone = rw f (or_right (has_row x rows) true refl)
    used x has true e false f gone = let bad : true ≡ false = rw (e, f) at gone in cc
    used x has false e false f gone = ap (λ (r : Bool). r || bytes_eq name x) (h.used_option x has e)

-- ---- the walk

-- one value more for a name that has none
one_more : (rules : List Rule) (now : List Row) (name value : Text) → Serves rules name → has_row name now ≡ false
    → Clean rules (held now (Some (name, value ∷ []))) (now ++ row_of_value name value ∷ [])
one_more rules now name value serves fresh = record {
  passes = serves.settles value now ∙ no_repeat name now fresh;
  comes_to = serves.gives value now ∙ fresh_value name value now fresh;
}

-- at the end
ends_clean : (rules : List Rule) (h : Held) (waiting : Waiting) (position : ℕ) (trailing : Bool) (now : List Row) → Clean rules h now
    → Ends rules (walk_at h waiting position trailing) [] now (Some [])
unfolding walk_fault
ends_clean rules h waiting position trailing now clean = (clean.passes, clean.comes_to ∙ sym (append-nil now))

-- a word for a place: the next place, or none
at_place : (rules : List Rule) (options left : List Text) (rows : List Row) (pending : Option (Text × List Text)) (now : List Row) (waiting : Waiting)
    (position : ℕ) (trailing : Bool) (word : Text) (words : List Text) (places : List Text) (o : Option Arguments) → GoesToPlace word waiting trailing
    → Clean rules (held rows pending) now → Left now options places left → Places rules position places
    → ((filled : Option (Text × List Text)) (later : List Row) (more : List Text) → Clean rules (held now filled) later → Left later options more left
    → Places rules (position + 1) more → Ends rules (walk_at (held now filled) idle (position + 1) trailing) words later (given more left o))
    → Ends rules (walk_at (held rows pending) waiting position trailing) (word ∷ words) now (given places left (with_argument (word_given word) o))
at_place rules options left rows pending now waiting position trailing word words [] o goes clean free hold next =
    subst (Ends rules (walk_at (held rows pending) waiting position trailing) (word ∷ words) now) (sym (given_nowhere word left o))
    (stops rules _ word words now _ _ (no_place rules (held rows pending) waiting position trailing word goes hold))
at_place rules options left rows pending now waiting position trailing word words (place ∷ places) o goes clean free hold next =
    let fresh : has_row place now ≡ false = free.free_place place (rw (same_name place) refl) in
    let step = place_filled rules rows pending now waiting position trailing word place goes hold.0 hold.2 clean in
    subst (Ends rules (walk_at (held rows pending) waiting position trailing) (word ∷ words) now) (sym (given_place place word places left o))
    (goes_on rules _ _ word words now _ step.0 step.1
    (with_row rules _ words now place word _
    (next (Some (place, word ∷ [])) _ places (one_more rules now place word hold.1 fresh) (after_place now options places left place word free) hold.3)))

-- after `--`
ends_behind : (rules : List Rule) (options left : List Text) (rows : List Row) (pending : Option (Text × List Text)) (now : List Row) (waiting : Waiting)
    (position : ℕ) (words places : List Text) → Clean rules (held rows pending) now → Left now options places left → Places rules position places
    → Ends rules (walk_at (held rows pending) waiting position true) words now (given places left (Some (map word_given words)))
ends_behind rules options left rows pending now waiting position [] places clean free hold = ends_clean rules _ waiting position true now clean
ends_behind rules options left rows pending now waiting position (word ∷ words) places clean free hold =
    at_place rules options left rows pending now waiting position true word words places (Some (map word_given words)) (behind waiting) clean free hold
    (λ filled later more k f p. ends_behind rules options left now filled later idle (position + 1) words more k f p)

-- an option where another one waits for its value
option_refused : (rules : List Rule) (options : List Text) → Knows rules options → (now : List Row) (position : ℕ) (name word : Text) (words : List Text)
    (other : Text) (value : Option Text) → IsDashes word false → long_of word ≡ Some (other, value) → has_name name options ≡ true
    → (t : Bool) → has_name other options ≡ t
    → Ends rules (walk_at (held now (Some (name, []))) (waits_for name) position false) (word ∷ words) now None
option_refused rules options knows now position name word words other value dashes long is_known true e = stops rules _ word words now _ _
    (option_after_fault rules (held now (Some (name, []))) (waits_for name) position word other value _ _ dashes long (knows.known other e) (inr (name, refl))
    ((knows.serves name is_known).wants now))
option_refused rules options knows now position name word words other value dashes long is_known false e = stops rules _ word words now _ _
    (option_unknown rules (held now (Some (name, []))) (waits_for name) position word other value dashes long (knows.unknown_name other e) (inr (name, refl)))

-- an option that has a value already waits for another one
again_fails : (rules : List Rule) (options : List Text) → Knows rules options → (now : List Row) (position : ℕ) (name : Text) (words places : List Text)
    → has_name name options ≡ true → has_row name now ≡ true → Places rules position places → All IsUtf8 words
    → Ends rules (walk_at (held now (Some (name, []))) (waits_for name) position false) words now None
again_fails rules options knows now position name [] places is_known there hold text =
    fails_at_end rules _ now _ _ ((knows.serves name is_known).wants now)
again_fails rules options knows now position name (word ∷ words) places is_known there hold text = go (word_kind word) (looks_like word)
  where
    serves : Serves rules name
    serves = knows.serves name is_known

    waits : Waiting
    waits = waits_for name

    go : (what : WordKind) → LooksLike word what → Ends rules (walk_at (held now (Some (name, []))) waits position false) (word ∷ words) now None
    go what (as_end dashes) =
        let step = end_passes rules (held now (Some (name, []))) waits position word dashes (inr (name, refl)) in
        goes_on rules _ _ word words now None step.0 step.1 (fails_behind rules now (Some (name, [])) waits position words now _ _ places hold (serves.wants now))
    go what (as_option other value dashes long) = option_refused rules options knows now position name word words other value dashes long is_known (has_name other options) refl
    go what (as_unknown b rest begins dashes long short) = stops rules _ word words now _ _
        (bundle_refused rules now (Some (name, [])) waits position word b rest begins (text 0 word (omega arith)) dashes long short knows.no_short (inr (name, refl)))
    go what (as_plain dashes long short) =
        let step = value_filled rules now position word name dashes long short serves in
        goes_on rules _ _ word words now None step.0 step.1
        (fails_before rules options knows now (Some (name, word ∷ [])) position words now _ _ places (All-drop IsUtf8 1 (word ∷ words) text) hold
        (serves.settles word now ∙ repeats name now there))

-- The place of the walk: nothing waits for a value, or an option does that has none yet.
pub data Stands (rules : List Rule) (now : List Row) (left : List Text) : Held → Waiting → Option Text → Type 0 where
  at_rest : (rows : List Row) (pending : Option (Text × List Text)) → Clean rules (held rows pending) now → Stands rules now left (held rows pending) idle None
  at_option : (name : Text) → has_name name left ≡ true → Stands rules now left (held now (Some (name, []))) (waits_for name) (Some name)

-- the walk over these words ends with the values that they give
abbrev pub EndsWell : List Rule → List Text → List Text → Type 0
EndsWell rules options words = (places left : List Text) (now : List Row) (h : Held) (waiting : Waiting) (waits : Option Text) (position : ℕ)
    → Stands rules now left h waiting waits → Left now options places left → Places rules position places → All IsUtf8 words
    → Ends rules (walk_at h waiting position false) words now (given places left (arguments_after words waits))

-- an option where nothing waits for a value
at_new_option : (rules : List Rule) (options : List Text) → Knows rules options → (word : Text) (words places left : List Text) (now rows : List Row)
    (pending : Option (Text × List Text)) (position : ℕ) (name : Text) (value : Option Text)
    → Clean rules (held rows pending) now → Left now options places left → Places rules position places → All IsUtf8 words → EndsWell rules options words
    → IsDashes word false → long_of word ≡ Some (name, value) → (t : Bool) → has_name name left ≡ t → (u : Bool) → has_name name options ≡ u
    → Ends rules (walk_at (held rows pending) idle position false) (word ∷ words) now
    (given places left (from_word (option name value) word words (arguments_after words)))
at_new_option rules options knows word words places left now rows pending position name (Some value) clean free hold text next dashes long true e u f =
    let step = option_with_value rules rows pending now position word name value dashes long (knows.known name (free.are_options name e)) clean (free.free_option name e) in
    let later = now ++ row_of_value name value ∷ [] in
    subst (Ends rules (walk_at (held rows pending) idle position false) (word ∷ words) now) (sym (given_option name value places left (arguments_after words None) e))
    (goes_on rules _ _ word words now _ step.0 step.1
    (with_row rules _ words now name value _
    (next places (names_without name left) later (held later None) idle None position (at_rest later None (record { passes = refl; comes_to = refl }))
    (after_option now options places left name value e free) hold text)))
at_new_option rules options knows word words places left now rows pending position name (Some value) clean free hold text next dashes long false e true f =
    subst (Ends rules (walk_at (held rows pending) idle position false) (word ∷ words) now) (sym (given_refused name value places left (arguments_after words None) e))
    (stops rules _ word words now _ _
    (option_again rules rows pending now position word name value dashes long (knows.known name f) clean (free.used_option name f e)))
at_new_option rules options knows word words places left now rows pending position name (Some value) clean free hold text next dashes long false e false f =
    subst (Ends rules (walk_at (held rows pending) idle position false) (word ∷ words) now) (sym (given_refused name value places left (arguments_after words None) e))
    (stops rules _ word words now _ _
    (option_unknown rules (held rows pending) idle position word name (Some value) dashes long (knows.unknown_name name f) (inl refl)))
at_new_option rules options knows word words places left now rows pending position name None clean free hold text next dashes long true e u f =
    let step = option_without_value rules rows pending now position word name dashes long (knows.known name (free.are_options name e)) clean in
    goes_on rules _ _ word words now _ step.0 step.1
    (next places left now (held now (Some (name, []))) (waits_for name) (Some name) position (at_option name e) free hold text)
at_new_option rules options knows word words places left now rows pending position name None clean free hold text next dashes long false e true f =
    let step = option_without_value rules rows pending now position word name dashes long (knows.known name f) clean in
    subst (Ends rules (walk_at (held rows pending) idle position false) (word ∷ words) now) (sym (given_waiting name words places left e))
    (goes_on rules _ _ word words now None step.0 step.1
    (again_fails rules options knows now position name words places f (free.used_option name f e) hold text))
at_new_option rules options knows word words places left now rows pending position name None clean free hold text next dashes long false e false f =
    subst (Ends rules (walk_at (held rows pending) idle position false) (word ∷ words) now) (sym (given_waiting name words places left e))
    (stops rules _ word words now _ _
    (option_unknown rules (held rows pending) idle position word name None dashes long (knows.unknown_name name f) (inl refl)))

-- a word where nothing waits for a value
at_rest_ends : (rules : List Rule) (options : List Text) → Knows rules options → (word : Text) (words places left : List Text) (now rows : List Row)
    (pending : Option (Text × List Text)) (position : ℕ)
    → Clean rules (held rows pending) now → Left now options places left → Places rules position places → All IsUtf8 (word ∷ words) → EndsWell rules options words
    → (what : WordKind) → LooksLike word what
    → Ends rules (walk_at (held rows pending) idle position false) (word ∷ words) now (given places left (from_word what word words (arguments_after words)))
at_rest_ends rules options knows word words places left now rows pending position clean free hold text next what (as_end dashes) =
    let step = end_passes rules (held rows pending) idle position word dashes (inl refl) in
    goes_on rules _ _ word words now _ step.0 step.1 (ends_behind rules options left rows pending now idle position words places clean free hold)
at_rest_ends rules options knows word words places left now rows pending position clean free hold text next what (as_option name value dashes long) =
    at_new_option rules options knows word words places left now rows pending position name value clean free hold (All-drop IsUtf8 1 (word ∷ words) text) next
    dashes long (has_name name left) refl (has_name name options) refl
at_rest_ends rules options knows word words places left now rows pending position clean free hold text next what (as_unknown b rest begins dashes long short) =
    stops rules _ word words now _ _
    (bundle_refused rules rows pending idle position word b rest begins (text 0 word (omega arith)) dashes long short knows.no_short (inl refl))
at_rest_ends rules options knows word words places left now rows pending position clean free hold text next what (as_plain dashes long short) =
    at_place rules options left rows pending now idle position false word words places (arguments_after words None) (before dashes long short) clean free hold
    (λ filled later more k f p. next more left later (held now filled) idle None (position + 1) (at_rest now filled k) f p (All-drop IsUtf8 1 (word ∷ words) text))

-- a word where an option waits for its value
at_option_ends : (rules : List Rule) (options : List Text) → Knows rules options → (word : Text) (words places left : List Text) (now : List Row)
    (position : ℕ) (name : Text) → has_name name left ≡ true → Left now options places left → Places rules position places → All IsUtf8 (word ∷ words)
    → EndsWell rules options words → (what : WordKind) → LooksLike word what
    → Ends rules (walk_at (held now (Some (name, []))) (waits_for name) position false) (word ∷ words) now
    (given places left (from_value name what word (arguments_after words)))
at_option_ends rules options knows word words places left now position name has free hold text next what (as_end dashes) =
    let wants = (knows.serves name (free.are_options name has)).wants now in
    let step = end_passes rules (held now (Some (name, []))) (waits_for name) position word dashes (inr (name, refl)) in
    goes_on rules _ _ word words now None step.0 step.1 (fails_behind rules now (Some (name, [])) (waits_for name) position words now _ _ places hold wants)
at_option_ends rules options knows word words places left now position name has free hold text next what (as_option other value dashes long) =
    option_refused rules options knows now position name word words other value dashes long has_option (has_name other options) refl
  where
    has_option : has_name name options ≡ true
    has_option = free.are_options name has
at_option_ends rules options knows word words places left now position name has free hold text next what (as_unknown b rest begins dashes long short) =
    stops rules _ word words now _ _
    (bundle_refused rules now (Some (name, [])) (waits_for name) position word b rest begins (text 0 word (omega arith)) dashes long short knows.no_short (inr (name, refl)))
at_option_ends rules options knows word words places left now position name has free hold text next what (as_plain dashes long short) =
    let serves = knows.serves name (free.are_options name has) in
    let step = value_filled rules now position word name dashes long short serves in
    let later = now ++ row_of_value name word ∷ [] in
    subst (Ends rules (walk_at (held now (Some (name, []))) (waits_for name) position false) (word ∷ words) now)
    (sym (given_option name word places left (arguments_after words None) has))
    (goes_on rules _ _ word words now _ step.0 step.1
    (with_row rules _ words now name word _
    (next places (names_without name left) later (held now (Some (name, word ∷ []))) idle None position
    (at_rest now (Some (name, word ∷ [])) (one_more rules now name word serves (free.free_option name has)))
    (after_option now options places left name word has free) hold (All-drop IsUtf8 1 (word ∷ words) text))))

-- The walk ends with the values that the words give.
pub ends : (rules : List Rule) (options : List Text) → Knows rules options → (words : List Text) → EndsWell rules options words
ends rules options knows [] places left now h waiting waits position (at_rest rows pending clean) free hold text =
    ends_clean rules _ idle position false now clean
ends rules options knows [] places left now h waiting waits position (at_option name has) free hold text =
    fails_at_end rules _ now _ _ ((knows.serves name (free.are_options name has)).wants now)
ends rules options knows (word ∷ words) places left now h waiting waits position (at_rest rows pending clean) free hold text =
    at_rest_ends rules options knows word words places left now rows pending position clean free hold text (ends rules options knows words)
    (word_kind word) (looks_like word)
ends rules options knows (word ∷ words) places left now h waiting waits position (at_option name has) free hold text =
    at_option_ends rules options knows word words places left now position name has free hold text (ends rules options knows words)
    (word_kind word) (looks_like word)
