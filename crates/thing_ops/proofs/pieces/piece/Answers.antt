use Rattle.std.proofs.Common.{◌≡◌, ℕ, ◌∷◌, get_or, slice_range, ap, sym, ◌∙◌, arith}
use Rattle.std.specs.Prelude.{Some}
use Rattle.thing_ops.proofs.SegmentLists.{piece_at, end_within, place_before}
use Rattle.thing_ops.proofs.pieces.piece.Goals as goal
use Rattle.thing_ops.proofs.pieces.piece.Goals.{Joined-index-eq0, then-index-eq0, else-index-eq0}

-- the place at which the piece begins
start_is : (c : Joined-index-eq0) → c.if-index-eq0.start ≡ get_or (0 ∷ c.args.ends.now) c.args.index 0
start_is c = elim c.if-index-eq0.branch [
  | then-index-eq0 w ↦ w.start-is ∙ ap (λ (n : ℕ). get_or (0 ∷ c.args.ends.now) n 0) (sym w.if-index-eq0.true)
  | else-index-eq0 w ↦ w.start-is ∙ place_before c.args.ends.now c.args.index (omega arith)
]

pub slice_bounds-result-count : goal.slice_bounds-result-count
slice_bounds-result-count c =
    let start = start_is (goal.at.slice_bounds-result-count c).Joined-index-eq0 in
    omega (arith, start, (end_within 0 c.args.ends.now _ c.args.index c.requires.ends c.requires.within).0)

pub slice_bounds-result-start : goal.slice_bounds-result-start
slice_bounds-result-start c =
    let start = start_is (goal.at.slice_bounds-result-start c).Joined-index-eq0 in
    omega (arith, start, end_within 0 c.args.ends.now _ c.args.index c.requires.ends c.requires.within)

pub slice_bounds-result-end : goal.slice_bounds-result-end
slice_bounds-result-end c =
    let start = start_is (goal.at.slice_bounds-result-end c).Joined-index-eq0 in
    omega (arith, start, end_within 0 c.args.ends.now _ c.args.index c.requires.ends c.requires.within)

pub returns : goal.returns
returns c =
    let start = start_is (goal.at.returns c).Joined-index-eq0 in
    piece_at c.args.bytes.now 0 c.args.ends.now c.args.index c.requires.within
    ∙ ap (λ (start : ℕ). Some (slice_range c.args.bytes.now start (get_or c.args.ends.now c.args.index 0))) (sym start)
