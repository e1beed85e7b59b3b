-- Tokens of pointers as they are read.
use Rattle.std.proofs.Common.{◌≡◌, ◌≢◌, ℕ, Bor, zero, suc, ◌+◌, ◌<◌, ◌≤◌, List, [], ◌∷◌, ◌++◌, ◌&&◌, length, get_or, refl, sym, ap, subst, inl, inr, ◌∙◌, ◌⊎◌, drop, drop-cons, add-one, arith, append-nil, length-append, append_assoc}
use Rattle.std.proofs.Math.Seq.{get_or-append_seam}
use Rattle.std.specs.List.{HoldsAt}
use Rattle.std.proofs.lemmas.List.{length-map}
use Rattle.std.specs.Cmp.Lexicographic.{slice_cmp}
use Rattle.std.specs.Ordering.{nat_cmp}
use Rattle.std.specs.declared.cmp.Ordering.TheVariants.{Greater}
use Rattle.std.specs.Prelude.{slice_get, codes, decimal, Bool, true, false, option_map, MatchOption, Option, Some, None, ◌-◌, ◌^◌}
use Rattle.std.specs.Str.{bytes_eq}
use mathlib.Core.Bool.{false≢true}
use Rattle.std.proofs.lemmas.Bool.{cases_eq}
use Rattle.std.proofs.lemmas.Slice.Eq.{bytes_eq-Decides}
use Rattle.servient_base.proofs.DecimalTexts.{decimal_digit_at}
use Rattle.wot_json.specs.Tree.{Json}
use Rattle.wot_json.specs.Pointer.{IsPointer, element_at, escapes, is_escape}
use Rattle.wot_json.specs.Meaning.{json_of, json_items}
use Rattle.wot_json.specs.declared.tree.Tree.{Tree}
use Rattle.std.proofs.lemmas.Str.Pattern.{IsSplitOnceResult, split_after, split_parts}
use Rattle.std.proofs.lemmas.Option.{slice_get-map, slice_get_read, slice_get_past}
use Rattle.std.proofs.lemmas.Bool.Decides.{nat_tests}
use Rattle.wot_json.specs.Places.{token_byte, token_text, place_text, index_text, step_text, element_step_text}
use Rattle.wot_json.proofs.Tokens.{token_byte-plain, token_text-plain}

-- the rest at a place begins with the element there
pub drop_next : (xs : List ℕ) (i : ℕ) → i < length xs → drop i xs ≡ get_or xs i 0 ∷ drop (i + 1) xs
drop_next xs i within = rw (add-one, drop-cons xs i 0)

-- a byte of a token is written in one of three ways
pub data IsWritten (b : ℕ) : Type 0 where
  tilde : b ≡ 126 → token_byte b ≡ 126 ∷ 48 ∷ [] → IsWritten b
  slash : b ≡ 47 → token_byte b ≡ 126 ∷ 49 ∷ [] → IsWritten b
  plain : b ≢ 126 → b ≢ 47 → token_byte b ≡ b ∷ [] → IsWritten b

pub is_written : (b : ℕ) → IsWritten b
is_written b = elim (cases_eq b 126) [
  | inl is ↦ tilde is (ap token_byte is)
  | inr other ↦ elim (cases_eq b 47) [
    | inl is ↦ slash is (ap token_byte is)
    | inr neither ↦ plain other neither (token_byte-plain b other neither)
  ]
]

-- only the empty token is written as nothing
pub token_empty : (name : List ℕ) → [] ≡ token_text name → name ≡ []
token_empty [] is = refl
token_empty (b ∷ name) is = elim (is_written b) [
  | tilde b_is text ↦ absurd (cc (is))
  | slash b_is text ↦ absurd (cc (is))
  | plain no_tilde no_slash text ↦ absurd (cc (is))
]

pub token_none : (token name : List ℕ) → length token ≡ 0 → token ≡ token_text name → name ≡ []
token_none [] name none is = token_empty name is
token_none (b ∷ token) name none is = absurd (omega arith)

-- the name that a token writes begins with this byte, and the rest of the token writes the rest of it
abbrev pub BeginsWith : ℕ → List ℕ → List ℕ → Type 0
BeginsWith b rest name = (behind : List ℕ) × (name ≡ b ∷ behind) × (rest ≡ token_text behind)

-- a byte that is no `~` is itself
pub begins_plain : (b : ℕ) (rest name : List ℕ) → b ≢ 126 → b ∷ rest ≡ token_text name → BeginsWith b rest name
begins_plain b rest [] no_tilde is = absurd (cc (is))
begins_plain b rest (n ∷ name) no_tilde is = elim (is_written n) [
  | tilde n_is text ↦ absurd (no_tilde (cc (is)))
  | slash n_is text ↦ absurd (no_tilde (cc (is)))
  | plain n_tilde n_slash text ↦
      let all : b ∷ rest ≡ n ∷ token_text name = is ∙ ap (λ (t : List ℕ). t ++ token_text name) text in
      (name, ap (λ (m : ℕ). m ∷ name) (cc (all)), cc (all))
]

-- `~0` writes `~`, and `~` with anything else for `/`
pub begins_escaped : (mark : ℕ) (rest name : List ℕ) → 126 ∷ mark ∷ rest ≡ token_text name → ((mark ≡ 48) × BeginsWith 126 rest name) ⊎ ((mark ≢ 48) × BeginsWith 47 rest name)
begins_escaped mark rest [] is = absurd (cc (is))
begins_escaped mark rest (n ∷ name) is = elim (is_written n) [
  | tilde n_is text ↦
      let all : 126 ∷ mark ∷ rest ≡ 126 ∷ 48 ∷ token_text name = is ∙ ap (λ (t : List ℕ). t ++ token_text name) text in
      inl (cc (all), (name, ap (λ (m : ℕ). m ∷ name) n_is, cc (all)))
  | slash n_is text ↦
      let all : 126 ∷ mark ∷ rest ≡ 126 ∷ 49 ∷ token_text name = is ∙ ap (λ (t : List ℕ). t ++ token_text name) text in
      let mark_is : mark ≡ 49 = cc (all) in
      inr (λ zero_mark. absurd (omega arith), (name, ap (λ (m : ℕ). m ∷ name) n_is, cc (all)))
  | plain n_tilde n_slash text ↦
      let all : 126 ∷ mark ∷ rest ≡ n ∷ token_text name = is ∙ ap (λ (t : List ℕ). t ++ token_text name) text in
      absurd (n_tilde (cc (all)))
]

-- a `~` alone is no token
pub no_tilde_alone : (name : List ℕ) → 126 ∷ [] ≡ token_text name → ⊥
no_tilde_alone [] is = cc (is)
no_tilde_alone (n ∷ name) is = elim (is_written n) [
  | tilde n_is text ↦ cc (is ∙ ap (λ (t : List ℕ). t ++ token_text name) text)
  | slash n_is text ↦ cc (is ∙ ap (λ (t : List ℕ). t ++ token_text name) text)
  | plain n_tilde n_slash text ↦
      let all : 126 ∷ [] ≡ n ∷ token_text name = is ∙ ap (λ (t : List ℕ). t ++ token_text name) text in
      n_tilde (cc (all))
]

-- a token of a `~` and what is after that
pub escaped_token : (token behind rest name : List ℕ) (first mark : ℕ) → token ≡ first ∷ behind → first ≡ 126 → behind ≡ mark ∷ rest → token ≡ token_text name → 126 ∷ mark ∷ rest ≡ token_text name
escaped_token token behind rest name first mark token_is first_is behind_is is = cc

pub tilde_is_no_token : (token behind name : List ℕ) (first : ℕ) → token ≡ first ∷ behind → first ≡ 126 → length behind ≡ 0 → token ≡ token_text name → ⊥
tilde_is_no_token token [] name first token_is first_is none is = no_tilde_alone name (cc)
tilde_is_no_token token (b ∷ behind) name first token_is first_is none is = omega arith

-- a name of which something is left is after one of which nothing is
pub compare_longer : (name other left : List ℕ) (i : ℕ) → i < length name → slice_cmp nat_cmp name other ≡ slice_cmp nat_cmp (drop i name) left → left ≡ [] → Greater ≡ slice_cmp nat_cmp name other
compare_longer name other left i within same left_is =
    sym (same ∙ ap (slice_cmp nat_cmp (drop i name)) left_is ∙ ap (λ (xs : List ℕ). slice_cmp nat_cmp xs []) (drop_next name i within))

-- a token without a `~` is the name
pub plain_name : (name token : List ℕ) → token ≡ token_text name → ((k : ℕ) → k < length token → get_or token k 0 ≢ 126) → name ≡ token
plain_name [] token is no_tilde = sym is
plain_name (b ∷ name) token is no_tilde = elim (is_written b) [
  | tilde b_is text ↦
      let all : token ≡ 126 ∷ 48 ∷ token_text name = is ∙ ap (λ (t : List ℕ). t ++ token_text name) text in
      absurd (no_tilde 0 (omega (arith, ap length all)) (ap (λ (xs : List ℕ). get_or xs 0 0) all))
  | slash b_is text ↦
      let all : token ≡ 126 ∷ 49 ∷ token_text name = is ∙ ap (λ (t : List ℕ). t ++ token_text name) text in
      absurd (no_tilde 0 (omega (arith, ap length all)) (ap (λ (xs : List ℕ). get_or xs 0 0) all))
  | plain b_tilde b_slash text ↦
      let all : token ≡ b ∷ token_text name = is ∙ ap (λ (t : List ℕ). t ++ token_text name) text in
      ap (λ (xs : List ℕ). b ∷ xs) (plain_name name (token_text name) refl (λ k within same. no_tilde (suc k) (omega (arith, ap length all)) (ap (λ (xs : List ℕ). get_or xs (suc k) 0) all ∙ same))) ∙ sym all
]

-- the token of a number is the number's digits
pub number_token : (n : ℕ) → n < 2 ^ 64 → token_text (decimal n) ≡ decimal n
number_token n fits = token_text-plain (decimal n) (λ k within. (λ is. omega (arith, decimal_digit_at n fits k within), λ is. omega (arith, decimal_digit_at n fits k within)))

-- a token that is a number's digits has these as its name
pub number_name : (name token : List ℕ) (n : ℕ) → n < 2 ^ 64 → token ≡ token_text name → token ≡ decimal n → name ≡ decimal n
number_name name token n fits is digits =
    plain_name name token is (λ k within same. omega (arith, decimal_digit_at n fits k (rw digits at within), ap (λ (xs : List ℕ). get_or xs k 0) digits)) ∙ digits

-- a test that isn't true is false
untrue : (b : Bool) → (b ≡ true → ⊥) → b ≡ false
untrue true never = absurd (never refl)
untrue false never = refl

-- the element whose index is the number that the token writes
pub element_found : (name : List ℕ) (vs : List Json) (start i : ℕ) → name ≡ decimal i → ((n : ℕ) → n < 2 ^ 64 → name ≡ decimal n → i ≡ n) → start ≤ i → start + length vs ≤ 2 ^ 64
    → slice_get vs (i - start) ≡ element_at name start vs
element_found name [] start i is only from bound = refl
element_found name (v ∷ vs) start i is only from bound = elim (cases_eq i start) [
  | inl same ↦
      rw ((bytes_eq-Decides name (decimal start)).1 (is ∙ ap decimal same)) (let none : i - start ≡ 0 = omega arith in ap (slice_get (v ∷ vs)) none)
  | inr other ↦
      let next : i - start ≡ suc (i - (start + 1)) = omega arith in
      rw (untrue (bytes_eq name (decimal start)) (λ same. other (only start (omega arith) ((bytes_eq-Decides name (decimal start)).0 same))))
      (ap (slice_get (v ∷ vs)) next ∙ element_found name vs (start + 1) i is only (omega arith) (omega arith))
]

-- where the token writes no number, no element is named
pub element_missing : (name : List ℕ) (vs : List Json) (start : ℕ) → ((n : ℕ) → n < 2 ^ 64 → name ≡ decimal n → ⊥) → start + length vs ≤ 2 ^ 64 → None ≡ element_at name start vs
element_missing name [] start none bound = refl
element_missing name (v ∷ vs) start none bound =
    rw (untrue (bytes_eq name (decimal start)) (λ same. none start (omega arith) ((bytes_eq-Decides name (decimal start)).0 same)))
    (element_missing name vs (start + 1) none (omega arith))

-- an element that is read by its index
pub element_read : (ts : List Tree) (vs : List Json) (i : ℕ) (r : Option (Bor Tree)) → json_items ts ≡ vs → MatchOption r (length ts ≤ i) (λ x. (i < length ts) × HoldsAt (λ t. x.now ≡ t) ts i)
    → option_map (λ t. json_of t.now) r ≡ slice_get vs (i - 0)
element_read ts vs i (Some x) view here =
    let same : i - 0 ≡ i = omega arith in
    rw (same, ← view, slice_get-map json_of ts i, slice_get_read ts (length ts) i x.now refl here.0 (here.1 x.now))
element_read ts vs i None view past =
    let same : i - 0 ≡ i = omega arith in
    rw (same, ← view, slice_get-map json_of ts i, slice_get_past ts i past)

-- fewer elements than a number of 64 bits can count
pub few_elements : (ts : List Tree) (vs : List Json) → json_items ts ≡ vs → length ts < 2 ^ 64 → 0 + length vs ≤ 2 ^ 64
few_elements ts vs view few = omega (arith, ap length view, length-map ts json_of)

-- a list has no `/`
abbrev HasNoSlash : List ℕ → Type 0
HasNoSlash bs = (k : ℕ) → k < length bs → get_or bs k 0 ≢ 47

no_slash_more : (b : ℕ) (bs : List ℕ) → b ≢ 47 → HasNoSlash bs → HasNoSlash (b ∷ bs)
no_slash_more b bs first others zero within is = first is
no_slash_more b bs first others (suc k) within is = others k (omega arith) is

-- no byte of a token is written as a `/`
pub no_slash : (token : List ℕ) → HasNoSlash (token_text token)
no_slash [] = λ k within is. omega arith
no_slash (b ∷ token) = elim (is_written b) [
  | tilde b_is text ↦ subst HasNoSlash (sym (ap (λ (t : List ℕ). t ++ token_text token) text)) (no_slash_more 126 (48 ∷ token_text token) (λ is. omega arith) (no_slash_more 48 (token_text token) (λ is. omega arith) (no_slash token)))
  | slash b_is text ↦ subst HasNoSlash (sym (ap (λ (t : List ℕ). t ++ token_text token) text)) (no_slash_more 126 (49 ∷ token_text token) (λ is. omega arith) (no_slash_more 49 (token_text token) (λ is. omega arith) (no_slash token)))
  | plain b_tilde b_slash text ↦ subst HasNoSlash (sym (ap (λ (t : List ℕ). t ++ token_text token) text)) (no_slash_more b (token_text token) b_slash (no_slash token))
]

-- where a text has no `/`, one token is all
pub cut_nowhere : (tokens token : List ℕ) (further : List (List ℕ)) → IsSplitOnceResult 47 tokens None → tokens ≡ token_text token ++ place_text further → (tokens ≡ token_text token) × (further ≡ [])
cut_nowhere tokens token [] split is = (is ∙ append-nil (token_text token), refl)
cut_nowhere tokens token (next ∷ more) split is =
    absurd (split_after 47 tokens (token_text token) (token_text next ++ place_text more) None split (omega arith) is (no_slash token))

-- where it has one, the first is after the first token
pub cut_first : (tokens token : List ℕ) (further : List (List ℕ)) (x : Bor (List ℕ) × Bor (List ℕ)) → IsSplitOnceResult 47 tokens (Some x) → tokens ≡ token_text token ++ place_text further
    → (x.0.now ≡ token_text token) × ((next : List ℕ) × (more : List (List ℕ)) × (further ≡ next ∷ more) × (x.1.now ≡ token_text next ++ place_text more))
cut_first tokens token [] x split is =
    let parts = split_parts 47 tokens (Some x) split (omega arith) in
    let whole : tokens ≡ token_text token = is ∙ append-nil (token_text token) in
    let seam : get_or tokens (length x.0.now) 0 ≡ 47 = ap (λ (bs : List ℕ). get_or bs (length x.0.now) 0) parts.0 ∙ get_or-append_seam x.0.now 47 x.1.now 0 in
    let within : length x.0.now < length tokens = omega (arith, ap length parts.0, length-append x.0.now (47 ∷ x.1.now)) in
    absurd (no_slash token (length x.0.now) (rw whole at within) (rw whole at seam))
cut_first tokens token (next ∷ more) x split is =
    let parts = split_after 47 tokens (token_text token) (token_text next ++ place_text more) (Some x) split (omega arith) is (no_slash token) in
    (parts.0, (next, more, refl, parts.1))

-- the part after a `/` is shorter than the whole
pub cut_shorter : (tokens : List ℕ) (x : Bor (List ℕ) × Bor (List ℕ)) → IsSplitOnceResult 47 tokens (Some x) → length x.1.now < length tokens
cut_shorter tokens x split =
    let parts = split_parts 47 tokens (Some x) split (omega arith) in
    omega (arith, ap length parts.0, length-append x.0.now (47 ∷ x.1.now))

-- the text of a byte has its `~` escaped, so it doesn't decide
escapes_byte : (b : ℕ) (rest : List ℕ) → escapes (token_byte b ++ rest) ≡ escapes rest
escapes_byte b rest = elim (is_written b) [
  | tilde b_is text ↦ ap (λ (t : List ℕ). escapes (t ++ rest)) text
  | slash b_is text ↦ ap (λ (t : List ℕ). escapes (t ++ rest)) text
  | plain b_tilde b_slash text ↦ ap (λ (t : List ℕ). escapes (t ++ rest)) text ∙ grind (arith, nat_tests)
]

escapes_token : (token rest : List ℕ) → escapes (token_text token ++ rest) ≡ escapes rest
escapes_token [] rest = refl
escapes_token (b ∷ token) rest =
    ap escapes (append_assoc (token_byte b) (token_text token) rest) ∙ escapes_byte b (token_text token ++ rest) ∙ escapes_token token rest

escapes_place : (tokens : List (List ℕ)) → escapes (place_text tokens) ≡ true
escapes_place [] = refl
escapes_place (token ∷ tokens) = escapes_token token (place_text tokens) ∙ escapes_place tokens

-- a text of some tokens is escaped
pub escapes_tokens : (token : List ℕ) (further : List (List ℕ)) → escapes (token_text token ++ place_text further) ≡ true
escapes_tokens token further = escapes_token token (place_text further) ∙ escapes_place further

-- the first token of an escaped text, and the tokens after it
abbrev IsTokens : List ℕ → Type 0
IsTokens text = (token : List ℕ) × (further : List (List ℕ)) × (text ≡ token_text token ++ place_text further)

tokens_more : (b : ℕ) (bs : List ℕ) → b ≢ 126 → IsTokens bs → IsTokens (b ∷ bs)
tokens_more b bs no_tilde (token, further, is) = elim (cases_eq b 47) [
  | inl slash_is ↦ ([], token ∷ further, (λ k. slash_is k ∷ is k))
  | inr no_slash_is ↦
      let text : token_byte b ≡ b ∷ [] = token_byte-plain b no_tilde no_slash_is in
      (b ∷ token, further, ap (λ (xs : List ℕ). b ∷ xs) is ∙ sym (ap (λ (t : List ℕ). (t ++ token_text token) ++ place_text further) text))
]

tokens_escaped : (mark : ℕ) (bs : List ℕ) → is_escape (mark ∷ bs) ≡ true → IsTokens bs → IsTokens (126 ∷ mark ∷ bs)
tokens_escaped mark bs escape (token, further, is) = elim (cases_eq mark 48) [
  | inl tilde_is ↦ (126 ∷ token, further, (λ k. 126 ∷ tilde_is k ∷ is k))
  | inr other ↦
      let slash_is : mark ≡ 49 = grind (arith, nat_tests, escape) in
      (47 ∷ token, further, (λ k. 126 ∷ slash_is k ∷ is k))
]

both_left : (x y : Bool) → x && y ≡ true → x ≡ true
both_left true y both = refl
both_left false y both = both

both_right : (x y : Bool) → x && y ≡ true → y ≡ true
both_right true y both = both
both_right false y both = absurd (false≢true both)

-- an escaped text is that of some tokens
pub tokens_of : (text : List ℕ) → escapes text ≡ true → IsTokens text
tokens_of [] escaped = ([], [], refl)
tokens_of (b ∷ []) escaped = tokens_more b [] (λ tilde_is. grind (arith, nat_tests)) ([], [], refl)
tokens_of (b ∷ c ∷ bs) escaped = elim (cases_eq b 126) [
  | inl tilde_is ↦
      let at_tilde : is_escape (c ∷ bs) && escapes (c ∷ bs) ≡ true = rw tilde_is at escaped in
      let behind : escapes bs ≡ true = both_right _ (escapes bs) (both_right (is_escape (c ∷ bs)) (escapes (c ∷ bs)) at_tilde) in
      rw tilde_is (tokens_escaped c bs (both_left (is_escape (c ∷ bs)) (escapes (c ∷ bs)) at_tilde) (tokens_of bs behind))
  | inr no_tilde ↦ tokens_more b (c ∷ bs) no_tilde (tokens_of (c ∷ bs) (both_right _ (escapes (c ∷ bs)) escaped))
]

-- a text that is neither empty nor begins with a `/` is no pointer
pub no_pointer : (at : List ℕ) → (length at ≡ 0 → ⊥) → ((rest : List ℕ) → at ≡ 47 ∷ rest → ⊥) → IsPointer at → ⊥
no_pointer at some no_begin ([], is) = some (ap length is)
no_pointer at some no_begin (token ∷ further, is) = no_begin (token_text token ++ place_text further) is

-- the tokens that a pointer writes after its first `/`
pub first_of_pointer : (at rest : List ℕ) (tokens : List (List ℕ)) → at ≡ 47 ∷ rest → at ≡ place_text tokens
    → (token : List ℕ) × (further : List (List ℕ)) × (tokens ≡ token ∷ further) × (rest ≡ token_text token ++ place_text further)
first_of_pointer at rest [] begins is = absurd (cc (begins, is))
first_of_pointer at rest (token ∷ further) begins is =
    let all : 47 ∷ rest ≡ 47 ∷ (token_text token ++ place_text further) = sym begins ∙ is in
    (token, further, refl, cc (all))

-- a text with a `~` that is no escape is no pointer
pub no_pointer_unescaped : (at rest : List ℕ) → at ≡ 47 ∷ rest → escapes rest ≡ false → IsPointer at → ⊥
no_pointer_unescaped at rest begins unescaped (tokens, is) =
    let first = first_of_pointer at rest tokens begins is in
    false≢true (sym unescaped ∙ ap escapes first.3 ∙ escapes_tokens first.0 first.1)

-- an escaped text after a `/` is a pointer
pub pointer_escaped : (at rest : List ℕ) → at ≡ 47 ∷ rest → escapes rest ≡ true → IsPointer at
pointer_escaped at rest begins escaped =
    let tokens = tokens_of rest escaped in
    (tokens.0 ∷ tokens.1, begins ∙ ap (λ (bs : List ℕ). 47 ∷ bs) tokens.2)

-- a step into a list is the step that the index writes as a token
pub element_step : (n : ℕ) → n < 2 ^ 64 → element_step_text n ≡ step_text (index_text n)
element_step n fits = ap (λ (token : List ℕ). codes "/" ++ token) (sym (number_token n fits))
