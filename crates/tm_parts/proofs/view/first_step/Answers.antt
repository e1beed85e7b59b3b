use Rattle.std.proofs.Common.{◌≡◌, ◌+◌, ◌-◌, ◌==◌, ℕ, List, length, take, drop, ap, ◌∙◌, arith, length-drop}
use Rattle.std.specs.Prelude.{not}
use Rattle.std.specs.List.{position_or_len}
use Rattle.std.proofs.lemmas.List.{take_all, length-take-le}
use Rattle.std.proofs.lemmas.List.Sums.{prefix_len-le-length}
use Rattle.tm_parts.proofs.Prefixes.{cut_before}
use Rattle.tm_parts.proofs.Steps.{place_cut}
use Rattle.tm_parts.proofs.view.first_step.Goals as goal

-- the number of bytes of the step, in terms of the place
step_length : (bytes place : List ℕ) (n : ℕ) → bytes ≡ place → n ≡ position_or_len (λ b. b == 47) (take (length bytes - 1) (drop 1 bytes)) → 1 + n ≡ 1 + position_or_len (λ b. b == 47) (drop 1 place)
step_length bytes place n same is =
    ap (λ (k : ℕ). 1 + k) (is ∙ ap (λ (xs : List ℕ). position_or_len (λ b. b == 47) xs) (take_all (length bytes - 1) (drop 1 bytes) (omega (arith, length-drop 1 bytes)))
    ∙ ap (λ (xs : List ℕ). position_or_len (λ b. b == 47) (drop 1 xs)) same)

pub overflow_add-length : goal.overflow_add-length
overflow_add-length c =
    omega (
      arith,
      c.length_before-length.ensures,
      prefix_len-le-length (λ b. not (b == 47)) (take (length c.as_bytes.result.now - 1) (drop 1 c.as_bytes.result.now)),
      length-take-le (length c.as_bytes.result.now - 1) (drop 1 c.as_bytes.result.now),
      length-drop 1 c.as_bytes.result.now,
      c.as_bytes.type_inv,
    )

pub split_at-requires : goal.split_at-requires
split_at-requires c =
    cut_before 47 c.args.place.now (1 + c.length_before-length.result) (omega arith) c.requires
    (step_length c.as_bytes.result.now c.args.place.now c.length_before-length.result c.as_bytes.ensures.value c.length_before-length.ensures)

pub returns-clause-cut : goal.returns-clause-cut
returns-clause-cut c =
    (place_cut c.args.place.now (1 + c.length_before-length.result) c.split_at.result.0.now c.split_at.result.1.now c.requires
    (step_length c.as_bytes.result.now c.args.place.now c.length_before-length.result c.as_bytes.ensures.value c.length_before-length.ensures)
    c.split_at.ensures.front c.split_at.ensures.back).0

pub returns-clause-one : goal.returns-clause-one
returns-clause-one c =
    (place_cut c.args.place.now (1 + c.length_before-length.result) c.split_at.result.0.now c.split_at.result.1.now c.requires
    (step_length c.as_bytes.result.now c.args.place.now c.length_before-length.result c.as_bytes.ensures.value c.length_before-length.ensures)
    c.split_at.ensures.front c.split_at.ensures.back).1
