-- The header lines by which an HTTP message says what a request asks of versions.
use Rattle.std.proofs.Common.{◌≡◌, ◌<◌, ◌≤◌, ◌-◌, ◌^◌, ℕ, Bool, true, false, List, [], ◌∷◌, ◌++◌, append-nil, append_assoc, length, map, take, reverse, Option, Some, None, refl, sym, ap, ap₂, ◌∙◌, arith}
use Rattle.std.specs.Prelude.{◌==◌, ◌&&◌, not, codes, decimal, filter_map, IfSome, if◌then◌else◌}
use Rattle.std.specs.List.{AllByRecursion, list_all, list_any, flat_map, prefix_len, slice_split}
use Rattle.std.specs.Char.{is_ascii_whitespace}
use Rattle.std.specs.Str.{str_eq_ignore_ascii_case}
use Rattle.std.specs.Str.Parse.{AllDigits}
use Rattle.std.proofs.lemmas.Bool.Decides.{nat_tests}
use Rattle.std.proofs.lemmas.Fmt.{decimal_is_IsNumeral}
use Rattle.std.proofs.lemmas.List.{length-append, reverse-append, take_all}
use Rattle.std.proofs.lemmas.List.Elements.{All-from_recursion}
use Rattle.std.proofs.lemmas.List.Splits.{slice_split_none}
use Rattle.httparse.specs.Grammar.{is_token_byte, is_value_byte, is_ows, trim_ows}
use Rattle.httparse.specs.Spans.{name_and_value}
use Rattle.thing_ops.specs.declared.conditions.Tags.{Tags}
use Rattle.thing_ops.specs.declared.conditions.Conditions.{Conditions}
use Rattle.thing_ops.specs.declared.verb.Verb.{Verb}
use Rattle.thing_ops.specs.declared.verb.Verb.TheVariants as verb
use Rattle.http_wire.specs.Conditions.{version_of, items_of, is_star, tags_of, without_weak, match_of, none_match_of, reads, conditions_of}
use Rattle.http_replies.specs.Writing.{entity_tag}
use Rattle.http_fields.specs.Fields.{trimmed, values_of}
use Rattle.http_wire.proofs.EntityTags.{tags_are_read_again}
use Rattle.servient_laws.specs.Spoken.{IsVersion, IsSaidByBoth, MayBeAsked, tag_lines, match_lines, absent_lines, condition_lines}
use Rattle.consumer_laws.proofs.HeadLines.{IsPlain, IsLine, AreLines}
use Rattle.consumer_laws.proofs.HeadBytes.{both_all, passes, all_pass, is_plain, plain, plain_bytes, digits_pass, trims_nothing, fields, line_of, lines_all, IsGood, good, good_all}

-- ---- a tag

digits_are : (v : ℕ) → IsVersion v → AllDigits 10 (decimal v)
digits_are v is = let fits : v < 2 ^ 64 = omega (arith, is.1) in (decimal_is_IsNumeral v fits).0.1

-- a test that quotes and digits pass, each byte of a tag passes
tag_passes : (test : ℕ → Bool) → test 34 ≡ true → ((c : ℕ) → 48 ≤ c → c ≤ 57 → test c ≡ true) → (v : ℕ) → IsVersion v → list_all test (entity_tag v) ≡ true
tag_passes test quote each v is = ap₂ (λ (x y : Bool). x && y) quote (ends (decimal v) (digits_pass test (decimal v) each (digits_are v is)))
  where
    ends : (bytes : List ℕ) → list_all test bytes ≡ true → list_all test (bytes ++ 34 ∷ []) ≡ true
    ends [] all = ap (λ (x : Bool). x && true) quote
    ends (b ∷ bytes) all = step (test b) (list_all test bytes) (list_all test (bytes ++ 34 ∷ [])) all (ends bytes)
      where
        step : (x y z : Bool) → (x && y) ≡ true → (y ≡ true → z ≡ true) → (x && z) ≡ true
        step true y z both more = more both
        step false y z both more = absurd cc

abbrev not_comma : ℕ → Bool
not_comma b = not (b == 44)

abbrev not_space : ℕ → Bool
not_space b = not (is_ows b)

negated : (x : Bool) → not x ≡ true → x ≡ false
negated true h = absurd cc
negated false h = refl

tag_trimmed : (v : ℕ) → IsVersion v → trim_ows (entity_tag v) ≡ entity_tag v
tag_trimmed v is = trims_nothing (entity_tag v) (all_pass not_space (entity_tag v) (tag_passes not_space refl unspaced v is))
  where
    unspaced : (c : ℕ) → 48 ≤ c → c ≤ 57 → not_space c ≡ true
    unspaced c low high = grind (arith, nat_tests)

-- no white space is around it
tag_ends : (bytes : List ℕ) → trimmed (34 ∷ (bytes ++ 34 ∷ [])) ≡ 34 ∷ (bytes ++ 34 ∷ [])
tag_ends bytes =
    let tag : List ℕ = 34 ∷ (bytes ++ 34 ∷ []) in
    let last : prefix_len is_ascii_whitespace (reverse tag) ≡ 0 = ap (prefix_len is_ascii_whitespace) (reverse-append (34 ∷ bytes) (34 ∷ [])) in
    ap (λ (n : ℕ). take (length tag - n) tag) last ∙ take_all (length tag - 0) tag (omega arith)

tag_uncut : (v : ℕ) → IsVersion v → slice_split (λ b. b == 44) (entity_tag v) ≡ entity_tag v ∷ []
tag_uncut v is = slice_split_none (λ (b : ℕ). b == 44) (entity_tag v) (All-from_recursion (λ b. (b == 44) ≡ false) (entity_tag v) (others (entity_tag v) (tag_passes not_comma refl uncut v is)))
  where
    uncut : (c : ℕ) → 48 ≤ c → c ≤ 57 → not_comma c ≡ true
    uncut c low high = grind (arith, nat_tests)

    others : (bytes : List ℕ) → list_all not_comma bytes ≡ true → AllByRecursion (λ b. (b == 44) ≡ false) bytes
    others [] all = tt
    others (b ∷ bytes) all = let both = passes not_comma (b ∷ bytes) all in (negated (b == 44) both.0, others bytes (rest (not_comma b) (list_all not_comma bytes) all))
      where
        rest : (x y : Bool) → (x && y) ≡ true → y ≡ true
        rest true y h = h
        rest false y h = absurd cc

-- ---- the lines are lines, and fields

tag_is_line : (name : List ℕ) → 0 < length name → list_all plain name ≡ true → (v : ℕ) → IsVersion v → IsLine (line_of (name, entity_tag v))
tag_is_line name some named v is = (
  both_all IsPlain name (58 ∷ entity_tag v) (plain_bytes name named) (is_plain 58 refl, plain_bytes (entity_tag v) (tag_passes plain refl digit v is)),
  omega (arith, length-append name (58 ∷ entity_tag v), some),
)
  where
    digit : (c : ℕ) → 48 ≤ c → c ≤ 57 → plain c ≡ true
    digit c low high = grind (arith, nat_tests)

tags_are_lines : (name : List ℕ) → 0 < length name → list_all plain name ≡ true → (versions : List ℕ) → AllByRecursion IsVersion versions → AreLines (map line_of (tag_lines name versions))
tags_are_lines name some named [] are = tt
tags_are_lines name some named (v ∷ vs) are = (tag_is_line name some named v are.0, tags_are_lines name some named vs are.1)

matches_are_lines : (m : Option Tags) → IfSome m (λ tags. AllByRecursion IsVersion tags.list) → AreLines (map line_of (match_lines m))
matches_are_lines None are = tt
matches_are_lines (Some tags) are = (first tags.any, tags_are_lines (codes "If-Match") (omega arith) refl tags.list are)
  where
    first : (any : Bool) → IsLine (line_of (codes "If-Match", if any then codes "*" else []))
    first true = (plain_bytes (line_of (codes "If-Match", codes "*")) refl, omega arith)
    first false = (plain_bytes (line_of (codes "If-Match", [])) refl, omega arith)

absence_is_line : (absent : Bool) → AreLines (map line_of (absent_lines absent))
absence_is_line true = ((plain_bytes (line_of (codes "If-None-Match", codes "*")) refl, omega arith), tt)
absence_is_line false = tt

pub conditions_are_lines : (v : Verb) (c : Conditions) → MayBeAsked v c → AreLines (map line_of (condition_lines c))
conditions_are_lines v c may =
    lines_all (match_lines c.if_match) (tag_lines (codes "If-None-Match") c.known.list ++ absent_lines c.absent) (matches_are_lines c.if_match may.matched)
    (lines_all (tag_lines (codes "If-None-Match") c.known.list) (absent_lines c.absent) (tags_are_lines (codes "If-None-Match") (omega arith) refl c.known.list may.known) (absence_is_line c.absent))

good_tags : (name : List ℕ) → ((v : ℕ) → IsVersion v → IsGood (name, entity_tag v)) → (versions : List ℕ) → AllByRecursion IsVersion versions → AllByRecursion IsGood (tag_lines name versions)
good_tags name each [] are = tt
good_tags name each (v ∷ vs) are = (each v are.0, good_tags name each vs are.1)

tag_value : (v : ℕ) → IsVersion v → list_all is_value_byte (entity_tag v) ≡ true
tag_value v is = tag_passes is_value_byte refl digit v is
  where
    digit : (c : ℕ) → 48 ≤ c → c ≤ 57 → is_value_byte c ≡ true
    digit c low high = grind (arith, nat_tests)

good_first : (any : Bool) → IsGood (codes "If-Match", if any then codes "*" else [])
unfolding is_token_byte
good_first true = good (codes "If-Match") (codes "*") (omega arith) refl refl
good_first false = good (codes "If-Match") [] (omega arith) refl refl

good_matches : (m : Option Tags) → IfSome m (λ tags. AllByRecursion IsVersion tags.list) → AllByRecursion IsGood (match_lines m)
unfolding is_token_byte
good_matches None are = tt
good_matches (Some tags) are = (good_first tags.any, good_tags (codes "If-Match") (λ v is. good (codes "If-Match") (entity_tag v) (omega arith) refl (tag_value v is)) tags.list are)

good_absence : (absent : Bool) → AllByRecursion IsGood (absent_lines absent)
unfolding is_token_byte
good_absence true = (good (codes "If-None-Match") (codes "*") (omega arith) refl refl, tt)
good_absence false = tt

pub good_conditions : (v : Verb) (c : Conditions) → MayBeAsked v c → AllByRecursion IsGood (condition_lines c)
unfolding is_token_byte
good_conditions v c may =
    good_all (match_lines c.if_match) (tag_lines (codes "If-None-Match") c.known.list ++ absent_lines c.absent) (good_matches c.if_match may.matched)
    (good_all (tag_lines (codes "If-None-Match") c.known.list) (absent_lines c.absent)
    (good_tags (codes "If-None-Match") (λ n is. good (codes "If-None-Match") (entity_tag n) (omega arith) refl (tag_value n is)) c.known.list may.known) (good_absence c.absent))

-- ---- what other lines say

-- values under a name, of lines as they are read
abbrev pub read_under : List ℕ → List (List ℕ × List ℕ) → List (List ℕ)
read_under name lines = values_of name (map name_and_value (fields lines))

other_tags : (named name : List ℕ) → str_eq_ignore_ascii_case named name ≡ false → (versions : List ℕ) (rest : List (List ℕ × List ℕ))
    → read_under name (tag_lines named versions ++ rest) ≡ read_under name rest
other_tags named name isnt [] rest = refl
other_tags named name isnt (v ∷ vs) rest = rw isnt (other_tags named name isnt vs rest)

other_matches : (name : List ℕ) → str_eq_ignore_ascii_case (codes "If-Match") name ≡ false → (m : Option Tags) (rest : List (List ℕ × List ℕ))
    → read_under name (match_lines m ++ rest) ≡ read_under name rest
other_matches name isnt None rest = refl
other_matches name isnt (Some tags) rest = rw isnt (other_tags (codes "If-Match") name isnt tags.list rest)

other_absence : (name : List ℕ) → str_eq_ignore_ascii_case (codes "If-None-Match") name ≡ false → (absent : Bool) (rest : List (List ℕ × List ℕ))
    → read_under name (absent_lines absent ++ rest) ≡ read_under name rest
other_absence name isnt true rest = rw isnt refl
other_absence name isnt false rest = refl

regrouped : (a b c rest : List (List ℕ × List ℕ)) → (a ++ (b ++ c)) ++ rest ≡ a ++ (b ++ (c ++ rest))
regrouped a b c rest = append_assoc a (b ++ c) rest ∙ ap (λ (x : List (List ℕ × List ℕ)). a ++ x) (append_assoc b c rest)

-- lines of other names are read behind them
pub other_conditions : (name : List ℕ) → str_eq_ignore_ascii_case (codes "If-Match") name ≡ false → str_eq_ignore_ascii_case (codes "If-None-Match") name ≡ false
    → (c : Conditions) (rest : List (List ℕ × List ℕ)) → read_under name (condition_lines c ++ rest) ≡ read_under name rest
other_conditions name one two c rest =
    ap (read_under name) (regrouped (match_lines c.if_match) (tag_lines (codes "If-None-Match") c.known.list) (absent_lines c.absent) rest)
    ∙ (other_matches name one c.if_match (tag_lines (codes "If-None-Match") c.known.list ++ (absent_lines c.absent ++ rest))
    ∙ (other_tags (codes "If-None-Match") name two c.known.list (absent_lines c.absent ++ rest) ∙ other_absence name two c.absent rest))

-- ---- what these lines say

abbrev tags : List ℕ → List (List ℕ)
tags versions = map entity_tag versions

matches_read : (versions : List ℕ) (rest : List (List ℕ × List ℕ)) → AllByRecursion IsVersion versions
    → read_under (codes "if-match") (tag_lines (codes "If-Match") versions ++ rest) ≡ tags versions ++ read_under (codes "if-match") rest
matches_read [] rest are = refl
matches_read (v ∷ vs) rest are = ap₂ (λ (x : List ℕ) (xs : List (List ℕ)). x ∷ xs) (tag_trimmed v are.0) (matches_read vs rest are.1)

none_matches_read : (versions : List ℕ) (rest : List (List ℕ × List ℕ)) → AllByRecursion IsVersion versions
    → read_under (codes "if-none-match") (tag_lines (codes "If-None-Match") versions ++ rest) ≡ tags versions ++ read_under (codes "if-none-match") rest
none_matches_read [] rest are = refl
none_matches_read (v ∷ vs) rest are = ap₂ (λ (x : List ℕ) (xs : List (List ℕ)). x ∷ xs) (tag_trimmed v are.0) (none_matches_read vs rest are.1)

-- the items of tags are the tags
items_are : (versions : List ℕ) (more : List (List ℕ)) → AllByRecursion IsVersion versions → items_of (tags versions ++ more) ≡ tags versions ++ items_of more
items_are [] more are = refl
items_are (v ∷ vs) more are =
    ap (λ (pieces : List (List ℕ)). map trimmed (pieces ++ flat_map (slice_split (λ b. b == 44)) (tags vs ++ more))) (tag_uncut v are.0)
    ∙ ap₂ (λ (x : List ℕ) (xs : List (List ℕ)). x ∷ xs) (tag_ends (decimal v)) (items_are vs more are.1)

unweakened : (versions : List ℕ) (more : List (List ℕ)) → map without_weak (tags versions ++ more) ≡ tags versions ++ map without_weak more
unweakened [] more = refl
unweakened (v ∷ vs) more = ap (λ (xs : List (List ℕ)). entity_tag v ∷ xs) (unweakened vs more)

versions_read : (versions : List ℕ) (more : List (List ℕ)) → AllByRecursion IsVersion versions → filter_map version_of (tags versions ++ more) ≡ versions ++ filter_map version_of more
versions_read [] more are = refl
versions_read (v ∷ vs) more are = rw (tags_are_read_again v are.0.0 (omega (arith, are.0.1))) (ap (λ (rest : List ℕ). v ∷ rest) (versions_read vs more are.1))

no_star : (versions : List ℕ) (more : List (List ℕ)) → list_any is_star (tags versions ++ more) ≡ list_any is_star more
no_star [] more = refl
no_star (v ∷ vs) more = no_star vs more

named_by : (versions : List ℕ) (more : List (List ℕ)) → AllByRecursion IsVersion versions
    → tags_of (tags versions ++ more) ≡ record { any = list_any is_star more; list = versions ++ filter_map version_of more }
named_by versions more are = λ i. record { any = no_star versions more i; list = versions_read versions more are i }

abbrev first_value : Bool → List ℕ
first_value any = if any then codes "*" else []

first_is : (any : Bool) (versions : List ℕ) → AllByRecursion IsVersion versions → tags_of (items_of (first_value any ∷ tags versions)) ≡ record { any = any; list = versions }
first_is true versions are =
    ap (λ (items : List (List ℕ)). tags_of (codes "*" ∷ items)) (ap items_of (sym (append-nil (tags versions))) ∙ (items_are versions [] are ∙ append-nil (tags versions)))
    ∙ (λ i. record { any = true; list = (ap (filter_map version_of) (sym (append-nil (tags versions))) ∙ (versions_read versions [] are ∙ append-nil versions)) i })
first_is false versions are =
    ap (λ (items : List (List ℕ)). tags_of ([] ∷ items)) (ap items_of (sym (append-nil (tags versions))) ∙ (items_are versions [] are ∙ append-nil (tags versions)))
    ∙ (λ i. record {
      any = (ap (list_any is_star) (sym (append-nil (tags versions))) ∙ no_star versions []) i;
      list = (ap (filter_map version_of) (sym (append-nil (tags versions))) ∙ (versions_read versions [] are ∙ append-nil versions)) i;
    })

first_trimmed : (any : Bool) → trim_ows (first_value any) ≡ first_value any
unfolding trim_ows
first_trimmed true = refl
first_trimmed false = refl

match_is : (m : Option Tags) (rest : List (List ℕ × List ℕ)) → IfSome m (λ t. AllByRecursion IsVersion t.list) → read_under (codes "if-match") rest ≡ []
    → match_of (read_under (codes "if-match") (match_lines m ++ rest)) ≡ m
match_is None rest are none = ap match_of none
match_is (Some t) rest are none =
    ap (λ (value : List ℕ). match_of (value ∷ read_under (codes "if-match") (tag_lines (codes "If-Match") t.list ++ rest))) (first_trimmed t.any)
    ∙ (ap (λ (values : List (List ℕ)). match_of (first_value t.any ∷ values))
    (matches_read t.list rest are ∙ (ap (λ (values : List (List ℕ)). tags t.list ++ values) none ∙ append-nil (tags t.list)))
    ∙ ap (λ (x : Tags). Some x) (first_is t.any t.list are))

abbrev absent_values : Bool → List (List ℕ)
absent_values absent = if absent then codes "*" ∷ [] else []

absence_read : (absent : Bool) (rest : List (List ℕ × List ℕ)) → read_under (codes "if-none-match") rest ≡ [] → read_under (codes "if-none-match") (absent_lines absent ++ rest) ≡ absent_values absent
unfolding trim_ows
absence_read true rest none = ap (λ (values : List (List ℕ)). codes "*" ∷ values) none
absence_read false rest none = none

none_match_is : (versions : List ℕ) (absent : Bool) → AllByRecursion IsVersion versions → none_match_of (tags versions ++ absent_values absent) ≡ record { any = absent; list = versions }
none_match_is versions absent are =
    ap (λ (items : List (List ℕ)). tags_of (map without_weak items)) (items_are versions (absent_values absent) are)
    ∙ (ap tags_of (unweakened versions (items_of (absent_values absent)))
    ∙ (named_by versions (map without_weak (items_of (absent_values absent))) are ∙ last absent))
  where
    last : (b : Bool) → ◌≡◌ {A = Tags} (record { any = list_any is_star (map without_weak (items_of (absent_values b))); list = versions ++ filter_map version_of (map without_weak (items_of (absent_values b))) })
        (record { any = b; list = versions })
    last true = λ i. record { any = true; list = append-nil versions i }
    last false = λ i. record { any = false; list = append-nil versions i }

-- the meaning of If-None-Match by the verb
by_verb : (v : Verb) (c : Conditions) → c.known.any ≡ false → IsSaidByBoth v c → (c.known ≡ record { any = c.absent && reads v; list = c.known.list }) × (c.absent ≡ (c.absent && not (reads v)))
by_verb v c named said = by v said
  where
    no_reader : (b : Bool) → b ≡ (b && true)
    no_reader true = refl
    no_reader false = refl

    never : (b : Bool) → false ≡ (b && false)
    never true = refl
    never false = refl

    reader : (b : Bool) → b ≡ false → false ≡ (b && true)
    reader b isnt = sym (ap (λ (x : Bool). x && true) isnt)

    writes : (c.known ≡ record { any = c.absent && false; list = c.known.list }) × (c.absent ≡ (c.absent && true))
    writes = ((λ i. record { any = (named ∙ never c.absent) i; list = c.known.list }), no_reader c.absent)

    by : (w : Verb) → IsSaidByBoth w c → (c.known ≡ record { any = c.absent && reads w; list = c.known.list }) × (c.absent ≡ (c.absent && not (reads w)))
    by verb.Get absent = ((λ i. record { any = (named ∙ reader c.absent absent) i; list = c.known.list }), absent ∙ never c.absent)
    by verb.Head both = ((λ i. record { any = (named ∙ reader c.absent both.0) i; list = c.known.list }), both.0 ∙ never c.absent)
    by verb.Put known = writes
    by verb.Post known = writes
    by verb.Patch known = writes
    by verb.Delete known = writes
    by verb.Other known = writes

-- the conditions that the header lines say are those to be asked
pub conditions_read : (v : Verb) (c : Conditions) (rest : List (List ℕ × List ℕ)) → MayBeAsked v c → read_under (codes "if-match") rest ≡ [] → read_under (codes "if-none-match") rest ≡ []
    → conditions_of v (map name_and_value (fields (condition_lines c ++ rest))) ≡ c
conditions_read v c rest may one two =
    let behind = tag_lines (codes "If-None-Match") c.known.list ++ (absent_lines c.absent ++ rest) in
    let order = regrouped (match_lines c.if_match) (tag_lines (codes "If-None-Match") c.known.list) (absent_lines c.absent) rest in
    let no_match : read_under (codes "if-match") behind ≡ [] = other_tags (codes "If-None-Match") (codes "if-match") refl c.known.list (absent_lines c.absent ++ rest) ∙ (other_absence (codes "if-match") refl c.absent rest ∙ one) in
    let matched : match_of (read_under (codes "if-match") (condition_lines c ++ rest)) ≡ c.if_match =
    ap (λ (lines : List (List ℕ × List ℕ)). match_of (read_under (codes "if-match") lines)) order ∙ match_is c.if_match behind may.matched no_match in
    let values : read_under (codes "if-none-match") (condition_lines c ++ rest) ≡ tags c.known.list ++ absent_values c.absent =
    ap (read_under (codes "if-none-match")) order
    ∙ (other_matches (codes "if-none-match") refl c.if_match behind
    ∙ (none_matches_read c.known.list (absent_lines c.absent ++ rest) may.known ∙ ap (λ (xs : List (List ℕ)). tags c.known.list ++ xs) (absence_read c.absent rest two))) in
    let named : none_match_of (read_under (codes "if-none-match") (condition_lines c ++ rest)) ≡ record { any = c.absent; list = c.known.list } =
    ap none_match_of values ∙ none_match_is c.known.list c.absent may.known in
    let said = by_verb v c may.named may.said in
    ap₂ (λ (m : Option Tags) (t : Tags). record { if_match = m; known = record { any = t.any && reads v; list = t.list }; absent = t.any && not (reads v) }) matched named
    ∙ ap₂ (λ (k : Tags) (b : Bool). record { if_match = c.if_match; known = k; absent = b }) (sym said.0) (sym said.1)
