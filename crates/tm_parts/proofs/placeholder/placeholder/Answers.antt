use Rattle.std.proofs.Common.{◌≡◌, ℕ, ◌<◌, ◌∷◌, ◌==◌, List, length, take, drop, sym, ap, ◌∙◌, arith, rules, eqb-true, false}
use Rattle.std.proofs.lemmas.Bool.{eqb-false}
use Rattle.std.specs.Prelude.{None}
use Rattle.std.specs.List.{prefix_len, take_while}
use Rattle.tm_parts.specs.Placeholders.{is_name_byte, placeholder_at}
use Rattle.tm_parts.proofs.Cuts.{placeholder_at_prefix}
use Rattle.tm_parts.proofs.Prefixes.{none_without_braces, cut_after_name, none_without_end, none_without_name, placeholder_in_parts, after_placeholder, name_not_empty, name_not_long}
use Rattle.tm_parts.proofs.placeholder.placeholder.Goals as goal
use Rattle.tm_parts.proofs.placeholder.placeholder.Goals.{then-is_empty-via-then-is_empty, then-is_empty-via-else-is_empty+then-name-gt-LONGEST_NAME}

-- the bytes that the code handed on, in terms of those after the braces
count_is : (bytes inner : List ℕ) (n : ℕ) → bytes ≡ inner → n ≡ prefix_len is_name_byte bytes → n ≡ prefix_len is_name_byte inner
count_is bytes inner n same is = is ∙ ap (λ (xs : List ℕ). prefix_len is_name_byte xs) same

prefix_is : (inner name : List ℕ) (n : ℕ) → n ≡ prefix_len is_name_byte inner → name ≡ take n inner → name ≡ take_while is_name_byte inner
prefix_is inner name n count is = is ∙ ap (λ (k : ℕ). take k inner) count

back_is : (inner after : List ℕ) (n : ℕ) → n ≡ prefix_len is_name_byte inner → after ≡ drop n inner → after ≡ drop (prefix_len is_name_byte inner) inner
back_is inner after n count is = is ∙ ap (λ (k : ℕ). drop k inner) count

pub returns-in_err-inner-clause-name : goal.returns-in_err-inner-clause-name
returns-in_err-inner-clause-name c =
    let none : placeholder_at c.args.text.now ≡ None = none_without_braces c.args.text.now c.in_err-inner.ensures.cases in
    rw c.from_residual.ensures (sym none)

pub split_at-requires : goal.split_at-requires
split_at-requires c =
    cut_after_name c.in_ok-inner.inner.now c.name_length.result (search rules)
    (count_is c.as_bytes.result.now c.in_ok-inner.inner.now c.name_length.result c.as_bytes.ensures.value c.name_length.ensures)

pub returns-in_err-rest-clause-name : goal.returns-in_err-rest-clause-name
returns-in_err-rest-clause-name c =
    let e = c.in_ok-inner.ensures.cases in
    let is : c.args.text.now ≡ 123 ∷ 123 ∷ c.in_ok-inner.inner.now = e.1.1 ∙ ap (λ (xs : List ℕ). 123 ∷ 123 ∷ xs) (sym e.2) in
    let count = count_is c.as_bytes.result.now c.in_ok-inner.inner.now c.name_length.result c.as_bytes.ensures.value c.name_length.ensures in
    let none : placeholder_at c.args.text.now ≡ None =
    none_without_end c.args.text.now c.in_ok-inner.inner.now c.split_at.result.1.now is
    (back_is c.in_ok-inner.inner.now c.split_at.result.1.now c.name_length.result count c.split_at.ensures.back)
    c.in_err-rest.ensures.cases in
    rw c.from_residual-in_err-rest.ensures (sym none)

pub returns-then-is_empty-clause-name : goal.returns-then-is_empty-clause-name
returns-then-is_empty-clause-name c =
    let e = c.in_ok-inner.ensures.cases in
    let is : c.args.text.now ≡ 123 ∷ 123 ∷ c.in_ok-inner.inner.now = e.1.1 ∙ ap (λ (xs : List ℕ). 123 ∷ 123 ∷ xs) (sym e.2) in
    let count = count_is c.as_bytes.result.now c.in_ok-inner.inner.now c.name_length.result c.as_bytes.ensures.value c.name_length.ensures in
    let prefix = prefix_is c.in_ok-inner.inner.now c.split_at.result.0.now c.name_length.result count c.split_at.ensures.front in
    sym (none_without_name c.args.text.now c.in_ok-inner.inner.now c.split_at.result.0.now is prefix
    (λ named.
    let some = name_not_empty c.split_at.result.0.now named in
    let few = name_not_long c.split_at.result.0.now named in
    elim c.then-is_empty.branch [
      | then-is_empty-via-then-is_empty w ↦
          let empty : length c.split_at.result.0.now ≡ 0 = eqb-true (length c.split_at.result.0.now) 0 (sym w.if-is_empty.ensures) in
          omega (arith, some, empty)
      | then-is_empty-via-else-is_empty+then-name-gt-LONGEST_NAME w ↦ omega (arith, few, w.if-name-gt-LONGEST_NAME.true)
    ]))

-- a name that has bytes
not_empty : (name : List ℕ) → (length name == 0) ≡ false → 0 < length name
not_empty name h = let e = eqb-false (length name) 0 h in omega arith

pub returns-clause-name : goal.returns-clause-name
returns-clause-name c =
    let e = c.in_ok-inner.ensures.cases in
    let f = c.in_ok-rest.ensures.cases in
    let is : c.args.text.now ≡ 123 ∷ 123 ∷ c.in_ok-inner.inner.now = e.1.1 ∙ ap (λ (xs : List ℕ). 123 ∷ 123 ∷ xs) (sym e.2) in
    let end : c.split_at.result.1.now ≡ 125 ∷ 125 ∷ c.in_ok-rest.rest.now = f.1.1 ∙ ap (λ (xs : List ℕ). 125 ∷ 125 ∷ xs) (sym f.2) in
    let count = count_is c.as_bytes.result.now c.in_ok-inner.inner.now c.name_length.result c.as_bytes.ensures.value c.name_length.ensures in
    let parts = placeholder_in_parts c.args.text.now c.in_ok-inner.inner.now c.split_at.result.0.now c.split_at.result.1.now c.in_ok-rest.rest.now is
    (prefix_is c.in_ok-inner.inner.now c.split_at.result.0.now c.name_length.result count c.split_at.ensures.front)
    (back_is c.in_ok-inner.inner.now c.split_at.result.1.now c.name_length.result count c.split_at.ensures.back)
    end (not_empty c.split_at.result.0.now (sym c.if-is_empty.ensures)) c.if-name-gt-LONGEST_NAME.false in
    sym (ap (λ (xs : List ℕ). placeholder_at xs) parts.0 ∙ placeholder_at_prefix c.split_at.result.0.now c.in_ok-rest.rest.now parts.1)

pub returns-clause-rest : goal.returns-clause-rest
returns-clause-rest c =
    let e = c.in_ok-inner.ensures.cases in
    let f = c.in_ok-rest.ensures.cases in
    let is : c.args.text.now ≡ 123 ∷ 123 ∷ c.in_ok-inner.inner.now = e.1.1 ∙ ap (λ (xs : List ℕ). 123 ∷ 123 ∷ xs) (sym e.2) in
    let end : c.split_at.result.1.now ≡ 125 ∷ 125 ∷ c.in_ok-rest.rest.now = f.1.1 ∙ ap (λ (xs : List ℕ). 125 ∷ 125 ∷ xs) (sym f.2) in
    let count = count_is c.as_bytes.result.now c.in_ok-inner.inner.now c.name_length.result c.as_bytes.ensures.value c.name_length.ensures in
    let parts = placeholder_in_parts c.args.text.now c.in_ok-inner.inner.now c.split_at.result.0.now c.split_at.result.1.now c.in_ok-rest.rest.now is
    (prefix_is c.in_ok-inner.inner.now c.split_at.result.0.now c.name_length.result count c.split_at.ensures.front)
    (back_is c.in_ok-inner.inner.now c.split_at.result.1.now c.name_length.result count c.split_at.ensures.back)
    end (not_empty c.split_at.result.0.now (sym c.if-is_empty.ensures)) c.if-name-gt-LONGEST_NAME.false in
    after_placeholder c.args.text.now c.split_at.result.0.now c.in_ok-rest.rest.now parts.0
