use Rattle.std.proofs.Common.{◌≡◌, ◌==◌, ℕ, ◌<◌, List, length, sym, arith, false}
use Rattle.std.proofs.lemmas.Bool.{eqb-true, eqb-false}
use Rattle.tm_parts.proofs.Cuts.{sole_if_alone, not_sole_if_more, not_sole_if_none, pieces_after_placeholder}
use Rattle.tm_parts.proofs.placeholder.whole_placeholder.Goals as goal

pub returns-in_err-name : goal.returns-in_err-name
returns-in_err-name c =
    let none = not_sole_if_none c.args.text.now (sym c.in_err-name.ensures.name) in
    rw c.from_residual.ensures (sym none)

pub returns-then-is_empty : goal.returns-then-is_empty
returns-then-is_empty c =
    sym (sole_if_alone c.args.text.now c.in_ok-name.name.now c.in_ok-name.rest.now
    (pieces_after_placeholder c.args.text.now c.in_ok-name.name.now c.in_ok-name.rest.now (sym c.in_ok-name.ensures.name) c.in_ok-name.ensures.rest)
    (eqb-true (length c.in_ok-name.rest.now) 0 (sym c.if-is_empty.ensures)))

-- a text that isn't empty
some_bytes : (rest : List ℕ) → (length rest == 0) ≡ false → 0 < length rest
some_bytes rest h = let e = eqb-false (length rest) 0 h in omega arith

pub returns-else-is_empty : goal.returns-else-is_empty
returns-else-is_empty c =
    sym (not_sole_if_more c.args.text.now c.in_ok-name.name.now c.in_ok-name.rest.now
    (pieces_after_placeholder c.args.text.now c.in_ok-name.name.now c.in_ok-name.rest.now (sym c.in_ok-name.ensures.name) c.in_ok-name.ensures.rest)
    (some_bytes c.in_ok-name.rest.now (sym c.if-is_empty.ensures)))
