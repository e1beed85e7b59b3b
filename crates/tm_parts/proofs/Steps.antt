-- The walk to a place, step by step.
use Rattle.std.proofs.Common.{◌≡◌, ℕ, suc, ◌+◌, ◌<◌, ◌≤◌, List, [], ◌∷◌, ◌++◌, length, take, drop, refl, sym, ap, subst, ◌∙◌, Bool, true, false, cond, arith, inl, inr, append-nil}
use Rattle.std.specs.Prelude.{Option, Some, None, option_and_then, ◌==◌, ◌&&◌, not, ◌⊎◌}
use Rattle.std.specs.List.{position_or_len}
use Rattle.std.proofs.lemmas.Bool.{cases_Bool, eqb-true}
use Rattle.std.proofs.lemmas.List.{take-append-drop}
use Rattle.wot_json.specs.Tree.{Json}
use Rattle.wot_json.specs.Pointer.{is_escape, escapes, is_pointer, unescaped_token, with_byte, first_tokens, tokens_in, part_at, value_at, part_of}
use Rattle.tm_parts.proofs.Seen.{and_then_some}

-- bytes without a `/`
abbrev pub IsToken : List ℕ → Type 0
IsToken [] = Unit {0}
IsToken (b ∷ bs) = (b == 47 ≡ false) × IsToken bs

-- nothing, or a `/` and more
abbrev pub IsFurther : List ℕ → Type 0
IsFurther rest = (rest ≡ []) ⊎ ((more : List ℕ) × (rest ≡ 47 ∷ more))

-- a text is cut before its first `/`
cut_parts : (bs : List ℕ) → IsToken (take (position_or_len (λ b. b == 47) bs) bs) × IsFurther (drop (position_or_len (λ b. b == 47) bs) bs)
cut_parts [] = (tt, inl refl)
cut_parts (b ∷ bs) = elim (cases_Bool (b == 47)) [
  | inl slash ↦
      let begins : b ≡ 47 = eqb-true b 47 slash in
      subst (λ (t : Bool). IsToken (take (cond (not t) (1 + position_or_len (λ b. b == 47) bs) 0) (b ∷ bs)) × IsFurther (drop (cond (not t) (1 + position_or_len (λ b. b == 47) bs) 0) (b ∷ bs))) (sym slash)
      (tt, inr (bs, ap (λ (x : ℕ). x ∷ bs) begins))
  | inr other ↦
      let count : 1 + position_or_len (λ b. b == 47) bs ≡ suc (position_or_len (λ b. b == 47) bs) = omega arith in
      let inside = cut_parts bs in
      subst (λ (t : Bool). IsToken (take (cond (not t) (1 + position_or_len (λ b. b == 47) bs) 0) (b ∷ bs)) × IsFurther (drop (cond (not t) (1 + position_or_len (λ b. b == 47) bs) 0) (b ∷ bs))) (sym other)
      (subst (λ (n : ℕ). IsToken (take n (b ∷ bs)) × IsFurther (drop n (b ∷ bs))) (sym count) ((other, inside.0), inside.1))
]

-- ---- escapes

escape_begins : (t rest : List ℕ) → IsFurther rest → is_escape (t ++ rest) ≡ is_escape t
escape_begins [] rest (inl is) = ap is_escape is
escape_begins [] rest (inr (more, is)) = ap is_escape is
escape_begins (b ∷ t) rest further = refl

further_escapes : (rest : List ℕ) → IsFurther rest → escapes rest ≡ is_pointer rest
further_escapes rest (inl is) = ap escapes is ∙ sym (ap is_pointer is)
further_escapes rest (inr (more, is)) = ap escapes is ∙ sym (ap is_pointer is)

regroup : (a b c : Bool) → (a && (b && c)) ≡ ((a && b) && c)
regroup true b c = refl
regroup false b c = refl

escapes_cut : (t rest : List ℕ) → IsFurther rest → escapes (t ++ rest) ≡ (escapes t && is_pointer rest)
escapes_cut [] rest further = further_escapes rest further
escapes_cut (b ∷ t) rest further =
    ap (λ (e : Bool). cond (b == 126) e true && escapes (t ++ rest)) (escape_begins t rest further)
    ∙ ap (λ (e : Bool). cond (b == 126) (is_escape t) true && e) (escapes_cut t rest further)
    ∙ regroup (cond (b == 126) (is_escape t) true) (escapes t) (is_pointer rest)

-- ---- tokens

further_tokens : (rest : List ℕ) → IsFurther rest → first_tokens rest ≡ ([], tokens_in rest)
further_tokens rest (inl is) = ap first_tokens is ∙ sym (ap (λ (xs : List ℕ). ([], tokens_in xs)) is)
further_tokens rest (inr (more, is)) = ap first_tokens is ∙ sym (ap (λ (xs : List ℕ). ([], tokens_in xs)) is)

-- a byte before tokens, by whether it is a `/` and whether it is a `~`
abbrev put_byte : Bool → Bool → ℕ → List ℕ → List (List ℕ) → List ℕ × List (List ℕ)
put_byte slash tilde b x ys = cond slash ([], x ∷ ys) (cond tilde (unescaped_token x, ys) (b ∷ x, ys))

byte_of_token : (slash tilde : Bool) (b : ℕ) (x : List ℕ) (ys zs : List (List ℕ)) → slash ≡ false → put_byte slash tilde b x ys ≡ ((put_byte slash tilde b x zs).0, ys)
byte_of_token true tilde b x ys zs other = absurd (cc)
byte_of_token false true b x ys zs other = refl
byte_of_token false false b x ys zs other = refl

tokens_cut : (t rest : List ℕ) → IsToken t → IsFurther rest → first_tokens (t ++ rest) ≡ ((first_tokens t).0, tokens_in rest)
tokens_cut [] rest token further = further_tokens rest further
tokens_cut (b ∷ t) rest token further =
    ap (with_byte b) (tokens_cut t rest token.1 further)
    ∙ byte_of_token (b == 47) (b == 126) b (first_tokens t).0 (tokens_in rest) (first_tokens t).1 token.0

-- a token alone
alone : (t : List ℕ) → IsToken t → first_tokens t ≡ ((first_tokens t).0, [])
alone t token = ap first_tokens (sym (append-nil t)) ∙ tokens_cut t [] token (inl refl)

one_token : (b : ℕ) (t : List ℕ) → IsToken t → tokens_in (b ∷ t) ≡ (first_tokens t).0 ∷ []
one_token b t token = ap (λ (ts : List ℕ × List (List ℕ)). (first_tokens t).0 ∷ ts.1) (alone t token)

-- ---- values

abbrev nothing : Json → Option Json
nothing v = None

nowhere : (o : Option Json) → option_and_then nothing o ≡ None
nowhere None = refl
nowhere (Some v) = refl

in_steps : (a b : Bool) (whole first : Option Json) (next : Json → Option Json) → whole ≡ option_and_then next first
    → cond (a && b) whole None ≡ option_and_then (λ v. cond b (next v) None) (cond a first None)
in_steps true true whole first next is = is
in_steps true false whole first next is = sym (nowhere first)
in_steps false b whole first next is = refl

-- where a step and further steps lead, these lead from where the step leads
part_in_steps : (b : ℕ) (t rest : List ℕ) (v : Json) → IsToken t → IsFurther rest → part_of (b ∷ (t ++ rest)) v ≡ option_and_then (part_of rest) (part_of (b ∷ t) v)
part_in_steps b t rest v token further =
    let tokens : tokens_in (b ∷ (t ++ rest)) ≡ (first_tokens t).0 ∷ tokens_in rest = ap (λ (ts : List ℕ × List (List ℕ)). ts.0 ∷ ts.1) (tokens_cut t rest token further) in
    let step : value_at (tokens_in (b ∷ t)) v ≡ part_at (first_tokens t).0 v = ap (λ (ts : List (List ℕ)). value_at ts v) (one_token b t token) ∙ and_then_some (part_at (first_tokens t).0 v) in
    ap (λ (e : Bool). cond ((b == 47) && e) (value_at (tokens_in (b ∷ (t ++ rest))) v) None) (escapes_cut t rest further)
    ∙ ap (λ (e : Bool). cond e (value_at (tokens_in (b ∷ (t ++ rest))) v) None) (regroup (b == 47) (escapes t) (is_pointer rest))
    ∙ ap (λ (ts : List (List ℕ)). cond (((b == 47) && escapes t) && is_pointer rest) (value_at ts v) None) tokens
    ∙ in_steps ((b == 47) && escapes t) (is_pointer rest) (value_at ((first_tokens t).0 ∷ tokens_in rest) v) (part_at (first_tokens t).0 v) (value_at (tokens_in rest)) refl
    ∙ ap (λ (o : Option Json). option_and_then (part_of rest) (cond ((b == 47) && escapes t) o None)) (sym step)

-- the code's cut of a place
pub place_cut : (place : List ℕ) (n : ℕ) (step rest : List ℕ) → 0 < length place → n ≡ 1 + position_or_len (λ b. b == 47) (drop 1 place) → step ≡ take n place → rest ≡ drop n place
    → ((v : Json) → part_of place v ≡ option_and_then (part_of rest) (part_of step v)) × (length (tokens_in step) ≤ 1)
place_cut [] n step rest some is step_is rest_is = absurd (omega (arith, some))
place_cut (b ∷ bs) n step rest some is step_is rest_is =
    let m : ℕ = position_or_len (λ b. b == 47) bs in
    let count : n ≡ suc m = omega (arith, is) in
    let parts = cut_parts bs in
    let here : step ≡ b ∷ take m bs = step_is ∙ ap (λ (k : ℕ). take k (b ∷ bs)) count in
    let there : rest ≡ drop m bs = rest_is ∙ ap (λ (k : ℕ). drop k (b ∷ bs)) count in (
      λ v. ap (λ (xs : List ℕ). part_of (b ∷ xs) v) (sym (take-append-drop m bs)) ∙ part_in_steps b (take m bs) (drop m bs) v parts.0 parts.1
          ∙ ap (λ (xs : List ℕ). option_and_then (part_of xs) (part_of (b ∷ take m bs) v)) (sym there)
          ∙ ap (λ (xs : List ℕ). option_and_then (part_of rest) (part_of xs v)) (sym here),
      subst (λ (ts : List (List ℕ)). length ts ≤ 1) (sym (ap tokens_in here ∙ one_token b (take m bs) parts.0)) (omega arith),
    )
