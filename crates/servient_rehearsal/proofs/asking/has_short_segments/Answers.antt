use Rattle.std.proofs.Common.{◌≡◌, ◌≤◌, ℕ, List, [], length, get_or, Some, refl, sym, subst, arith}
use Rattle.std.specs.Prelude.{All, slice_get}
use Rattle.std.proofs.lemmas.Option.{get_or_from_slice_get}
use Rattle.std.proofs.lemmas.List.{take_all}
use Rattle.std.proofs.lemmas.List.Elements.{All-more}
use Rattle.coap_msg.specs.declared.constants.TheConstants.{LONGEST_SEGMENT}
use Rattle.servient_rehearsal.proofs.asking.has_short_segments.Goals as goal

pub loop-index-preserved : goal.loop-index-preserved
loop-index-preserved c =
    let at : slice_get c.args.path.now c.loop-index.index ≡ Some c.in-Some.segment.now = sym c.in-Some.ensures in
    let is : get_or c.args.path.now c.loop-index.index [] ≡ c.in-Some.segment.now = get_or_from_slice_get c.args.path.now c.loop-index.index c.in-Some.segment.now [] at in
    All-more (λ (segment : List ℕ). length segment ≤ LONGEST_SEGMENT) c.args.path.now c.loop-index.index []
    (omega (arith, c.loop-index-test.true, c.len-index-end.ensures)) c.loop-index.invariant
    (subst (λ (segment : List ℕ). length segment ≤ LONGEST_SEGMENT) (sym is) c.if-segment-gt-LONGEST_SEGMENT.false)

pub returns : goal.returns
returns c = (
  λ e. subst (All (λ (segment : List ℕ). length segment ≤ LONGEST_SEGMENT)) (take_all c.loop-index.index c.args.path.now (omega (arith, c.loop-index-test.false, c.len-index-end.ensures))) c.loop-index.invariant,
  λ all. refl,
)
