use Rattle.std.proofs.Common.{◌≡◌, ℕ, ◌+◌, ◌∷◌, [], ◌++◌, List, length, sym, ap, subst, ◌∙◌, arith, length-append}
use Rattle.thing_ops.specs.Segments.{pieces, AreEnds}
use Rattle.thing_ops.proofs.SegmentLists.{ends_more, pieces_more}
use Rattle.coap_blocks.proofs.Paths.{room_for}
use Rattle.coap_blocks.proofs.kept_path.KeptPath.push.Goals as goal

pub put-requires : goal.put-requires
put-requires c = (omega arith, (room_for c.self.inside.bytes c.self.inside.ends.items c.args.segment.now c.args.self.now c.self.invariant.ends c.self.view_is c.requires).0)

pub push_reserved-requires : goal.push_reserved-requires
push_reserved-requires c =
    let it = room_for c.self.inside.bytes c.self.inside.ends.items c.args.segment.now c.args.self.now c.self.invariant.ends c.self.view_is c.requires in
    omega (arith, it.1, c.self.invariant.room, c.self.inside.ends.ok.0)

pub invariant_of-self : goal.invariant_of-self
invariant_of-self c =
    let long : length c.put.new.self ≡ length c.self.inside.bytes + length c.args.segment.now = ap (λ (bs : List ℕ). length bs) c.put.ensures ∙ length-append c.self.inside.bytes c.args.segment.now in
    record {
      ends = subst (λ (es : List ℕ). AreEnds 0 es (length c.put.new.self)) (sym c.push_reserved.ensures.items)
          (subst (λ (n : ℕ). AreEnds 0 (c.self.inside.ends.items ++ c.len.result ∷ []) n) c.len.ensures
          (ends_more 0 c.self.inside.ends.items (length c.self.inside.bytes) c.len.result c.self.invariant.ends (omega (arith, long, c.len.ensures))));
      room = omega (arith, c.push_reserved.ensures.capacity, c.self.invariant.room);
    }

pub returns : goal.returns
returns c =
    let long : length c.put.new.self ≡ length c.self.inside.bytes + length c.args.segment.now = ap (λ (bs : List ℕ). length bs) c.put.ensures ∙ length-append c.self.inside.bytes c.args.segment.now in
    ap (λ (bs : List ℕ). pieces bs 0 c.push_reserved.new.self.items) c.put.ensures
    ∙ ap (λ (es : List ℕ). pieces (c.self.inside.bytes ++ c.args.segment.now) 0 es) c.push_reserved.ensures.items
    ∙ pieces_more c.self.inside.bytes c.args.segment.now 0 c.self.inside.ends.items c.len.result c.self.invariant.ends (c.len.ensures ∙ long)
    ∙ ap (λ (path : List (List ℕ)). path ++ c.args.segment.now ∷ []) c.self.view_is
