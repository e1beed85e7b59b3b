use Rattle.std.proofs.Common.{◌≡◌, ℕ, ◌+◌, ◌-◌, ◌==◌, List, length, drop, take, sym, ap, ◌∙◌, arith, length-drop}
use Rattle.std.specs.Prelude.{not}
use Rattle.std.specs.List.{position_or_len}
use Rattle.std.proofs.lemmas.List.{take_all, length-take-le}
use Rattle.std.proofs.lemmas.List.Sums.{prefix_len-le-length}
use Rattle.tm_parts.proofs.Cuts.{pieces_after_placeholder}
use Rattle.tm_parts.proofs.Prefixes.{cut_before, plain_prefix}
use Rattle.tm_parts.proofs.placeholder.first_piece.Goals as goal

-- the bytes after the first, as the code hands them on
after_first : (bytes text : List ℕ) (n : ℕ) → bytes ≡ text → n ≡ position_or_len (λ b. b == 123) (take (length bytes - 1) (drop 1 bytes)) → n ≡ position_or_len (λ b. b == 123) (drop 1 text)
after_first bytes text n same is =
    is ∙ ap (λ (xs : List ℕ). position_or_len (λ b. b == 123) xs) (take_all (length bytes - 1) (drop 1 bytes) (omega (arith, length-drop 1 bytes)))
    ∙ ap (λ (xs : List ℕ). position_or_len (λ b. b == 123) (drop 1 xs)) same

-- the length of the plain prefix
prefix_length : (text : List ℕ) (n : ℕ) → n ≡ position_or_len (λ b. b == 123) (drop 1 text) → 1 + n ≡ 1 + position_or_len (λ b. b == 123) (drop 1 text)
prefix_length text n is = ap (λ (k : ℕ). 1 + k) is

pub overflow_add-length : goal.overflow_add-length
overflow_add-length c =
    omega (
      arith,
      c.length_before-length.ensures,
      prefix_len-le-length (λ b. not (b == 123)) (take (length c.as_bytes.result.now - 1) (drop 1 c.as_bytes.result.now)),
      length-take-le (length c.as_bytes.result.now - 1) (drop 1 c.as_bytes.result.now),
      length-drop 1 c.as_bytes.result.now,
      c.as_bytes.type_inv,
    )

pub split_at-requires : goal.split_at-requires
split_at-requires c =
    let n = after_first c.as_bytes.result.now c.args.text.now c.length_before-length.result c.as_bytes.ensures.value c.length_before-length.ensures in
    cut_before 123 c.args.text.now (1 + c.length_before-length.result) (omega arith) c.requires (prefix_length c.args.text.now c.length_before-length.result n)

pub returns-in-Some-clause-pieces : goal.returns-in-Some-clause-pieces
returns-in-Some-clause-pieces c =
    pieces_after_placeholder c.args.text.now c.in-Some.name.now c.in-Some.rest.now (sym c.in-Some.ensures.name) c.in-Some.ensures.rest

pub returns-in-None-clause-pieces : goal.returns-in-None-clause-pieces
returns-in-None-clause-pieces c =
    let n = after_first c.as_bytes.result.now c.args.text.now c.length_before-length.result c.as_bytes.ensures.value c.length_before-length.ensures in
    rw (c.split_at.ensures.front, c.split_at.ensures.back)
    (plain_prefix c.args.text.now (1 + c.length_before-length.result) c.requires (sym c.in-None.ensures.name) (prefix_length c.args.text.now c.length_before-length.result n))
