use Rattle.std.proofs.Common.{◌≡◌, ℕ, ◌+◌, ◌∷◌, [], ◌++◌, List, length, ap, ◌∙◌, length-append}
use Rattle.thing_ops.specs.Segments.{pieces, AreEnds}
use Rattle.thing_ops.proofs.SegmentLists.{ends_same, judged_by, pieces_more, pushed_ends}
use Rattle.thing_ops.proofs.segments.Segments.push.Goals as goal

pub route_of_pieces-self-inside-requires : goal.route_of_pieces-self-inside-requires
route_of_pieces-self-inside-requires c =
    let bytes : c.extend_from_slice.new.self.items ≡ c.self.inside.bytes.items ++ c.args.segment.now = c.in_ok-extend_from_slice.ensures.items in
    let ends : c.push_reserved.new.self.items ≡ c.self.inside.ends.items ++ c.len.result ∷ [] = c.push_reserved.ensures.items ∙ ap (λ (es : List ℕ). es ++ c.len.result ∷ []) c.in_ok-reserve.ensures.items in
    let are : AreEnds 0 c.push_reserved.new.self.items (length c.extend_from_slice.new.self.items) =
    pushed_ends c.self.inside.bytes.items c.args.segment.now c.self.inside.ends.items c.len.result _ _ bytes ends (c.len.ensures ∙ c.extend_from_slice.new.self.ok.0) c.self.invariant.within in
    ends_same c.extend_from_slice.new.self.items _ c.push_reserved.new.self.items _ c.as_slice.ensures.value c.as_slice-2.ensures are

pub invariant_of-self-2 : goal.invariant_of-self-2
invariant_of-self-2 c =
    let bytes : c.extend_from_slice.new.self.items ≡ c.self.inside.bytes.items ++ c.args.segment.now = c.in_ok-extend_from_slice.ensures.items in
    let ends : c.push_reserved.new.self.items ≡ c.self.inside.ends.items ++ c.len.result ∷ [] = c.push_reserved.ensures.items ∙ ap (λ (es : List ℕ). es ++ c.len.result ∷ []) c.in_ok-reserve.ensures.items in
    let are : AreEnds 0 c.push_reserved.new.self.items (length c.extend_from_slice.new.self.items) =
    pushed_ends c.self.inside.bytes.items c.args.segment.now c.self.inside.ends.items c.len.result _ _ bytes ends (c.len.ensures ∙ c.extend_from_slice.new.self.ok.0) c.self.invariant.within in
    judged_by _ c.extend_from_slice.new.self.items _ c.push_reserved.new.self.items _ c.as_slice.ensures.value c.as_slice-2.ensures are c.route_of_pieces-self-inside.ensures

pub returns-clause-ok : goal.returns-clause-ok
returns-clause-ok c =
    let bytes : c.extend_from_slice.new.self.items ≡ c.self.inside.bytes.items ++ c.args.segment.now = c.in_ok-extend_from_slice.ensures.items in
    let ends : c.push_reserved.new.self.items ≡ c.self.inside.ends.items ++ c.len.result ∷ [] = c.push_reserved.ensures.items ∙ ap (λ (es : List ℕ). es ++ c.len.result ∷ []) c.in_ok-reserve.ensures.items in
    let long : length c.extend_from_slice.new.self.items ≡ length c.self.inside.bytes.items + length c.args.segment.now = ap length bytes ∙ length-append c.self.inside.bytes.items c.args.segment.now in
    let end : c.len.result ≡ length c.extend_from_slice.new.self.items = c.len.ensures ∙ c.extend_from_slice.new.self.ok.0 in
    ap (λ (bs : List ℕ). pieces bs 0 c.push_reserved.new.self.items) bytes
    ∙ ap (λ (es : List ℕ). pieces (c.self.inside.bytes.items ++ c.args.segment.now) 0 es) ends
    ∙ pieces_more c.self.inside.bytes.items c.args.segment.now 0 c.self.inside.ends.items c.len.result c.self.invariant.within (end ∙ long)
    ∙ ap (λ (path : List (List ℕ)). path ++ c.args.segment.now ∷ []) c.self.view_is
