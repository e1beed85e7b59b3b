use Rattle.std.proofs.Common.{◌≡◌, ℕ, ◌+◌, ◌<◌, ◌∷◌, [], ◌++◌, List, length, refl, sym, ap, subst, ◌∙◌, arith, length-append}
use Rattle.std.specs.Prelude.{Option, Some, None, IsSome}
use Rattle.std.specs.Option.{option_to_list}
use Rattle.thing_ops.specs.Segments.{pieces, with_longer_last, AreEnds}
use Rattle.thing_ops.proofs.SegmentLists.{length-pieces, ends_same, judged_by, longer_ends, last_longer}
use Rattle.thing_ops.proofs.segments.Segments.extend_last.Goals as goal

one_element : (o : Option ℕ) → IsSome o → (x : ℕ) × (option_to_list o ≡ x ∷ [])
one_element (Some x) is = (x, refl)
one_element None is = absurd cc

-- a path that isn't empty has a last end
last_end : (bytes ends front : List ℕ) (taken : Option ℕ) (path : List (List ℕ)) → pieces bytes 0 ends ≡ path → 0 < length path → (0 < length ends → IsSome taken) → ends ≡ front ++ option_to_list taken → (last : ℕ) × (ends ≡ front ++ last ∷ [])
last_end bytes ends front taken path view some takes split =
    let last = one_element taken (takes (omega (arith, length-pieces bytes 0 ends, ap (λ (p : List (List ℕ)). length p) view, some))) in
    (last.0, split ∙ ap (λ (rest : List ℕ). front ++ rest) last.1)

pub push_reserved-requires : goal.push_reserved-requires
push_reserved-requires c =
    let last = last_end c.self.inside.bytes.items c.self.inside.ends.items c.pop.new.self.items c.pop.result c.args.self.now c.self.view_is c.requires c.pop.ensures.variant.1 c.pop.ensures.items in
    (omega arith, omega (arith, ap (λ (es : List ℕ). length es) last.1, length-append c.pop.new.self.items (last.0 ∷ []), c.len-fits.ensures.value, c.len-fits.ensures.fits, c.pop.ensures.capacity))

pub route_of_pieces-self-inside-requires : goal.route_of_pieces-self-inside-requires
route_of_pieces-self-inside-requires c =
    let last = last_end c.self.inside.bytes.items c.self.inside.ends.items c.pop.new.self.items c.pop.result c.args.self.now c.self.view_is c.requires c.pop.ensures.variant.1 c.pop.ensures.items in
    let bytes : c.extend_from_slice.new.self.items ≡ c.self.inside.bytes.items ++ c.args.bytes.now = c.in_ok-extend_from_slice.ensures.items in
    let were : AreEnds 0 (c.pop.new.self.items ++ last.0 ∷ []) (length c.self.inside.bytes.items) = subst (λ (es : List ℕ). AreEnds 0 es (length c.self.inside.bytes.items)) last.1 c.self.invariant.within in
    let are : AreEnds 0 c.push_reserved.new.self.items (length c.extend_from_slice.new.self.items) =
    longer_ends c.self.inside.bytes.items c.args.bytes.now c.pop.new.self.items last.0 c.len.result _ _ bytes c.push_reserved.ensures.items (c.len.ensures ∙ c.extend_from_slice.new.self.ok.0) were in
    ends_same c.extend_from_slice.new.self.items _ c.push_reserved.new.self.items _ c.as_slice.ensures.value c.as_slice-2.ensures are

pub invariant_of-self-2 : goal.invariant_of-self-2
invariant_of-self-2 c =
    let last = last_end c.self.inside.bytes.items c.self.inside.ends.items c.pop.new.self.items c.pop.result c.args.self.now c.self.view_is c.requires c.pop.ensures.variant.1 c.pop.ensures.items in
    let bytes : c.extend_from_slice.new.self.items ≡ c.self.inside.bytes.items ++ c.args.bytes.now = c.in_ok-extend_from_slice.ensures.items in
    let were : AreEnds 0 (c.pop.new.self.items ++ last.0 ∷ []) (length c.self.inside.bytes.items) = subst (λ (es : List ℕ). AreEnds 0 es (length c.self.inside.bytes.items)) last.1 c.self.invariant.within in
    let are : AreEnds 0 c.push_reserved.new.self.items (length c.extend_from_slice.new.self.items) =
    longer_ends c.self.inside.bytes.items c.args.bytes.now c.pop.new.self.items last.0 c.len.result _ _ bytes c.push_reserved.ensures.items (c.len.ensures ∙ c.extend_from_slice.new.self.ok.0) were in
    judged_by _ c.extend_from_slice.new.self.items _ c.push_reserved.new.self.items _ c.as_slice.ensures.value c.as_slice-2.ensures are c.route_of_pieces-self-inside.ensures

pub returns-clause-ok : goal.returns-clause-ok
returns-clause-ok c =
    let last = last_end c.self.inside.bytes.items c.self.inside.ends.items c.pop.new.self.items c.pop.result c.args.self.now c.self.view_is c.requires c.pop.ensures.variant.1 c.pop.ensures.items in
    let bytes : c.extend_from_slice.new.self.items ≡ c.self.inside.bytes.items ++ c.args.bytes.now = c.in_ok-extend_from_slice.ensures.items in
    let long : length c.extend_from_slice.new.self.items ≡ length c.self.inside.bytes.items + length c.args.bytes.now = ap length bytes ∙ length-append c.self.inside.bytes.items c.args.bytes.now in
    let end : c.len.result ≡ length c.extend_from_slice.new.self.items = c.len.ensures ∙ c.extend_from_slice.new.self.ok.0 in
    let were : AreEnds 0 (c.pop.new.self.items ++ last.0 ∷ []) (length c.self.inside.bytes.items) = subst (λ (es : List ℕ). AreEnds 0 es (length c.self.inside.bytes.items)) last.1 c.self.invariant.within in
    ap (λ (bs : List ℕ). pieces bs 0 c.push_reserved.new.self.items) bytes
    ∙ ap (λ (es : List ℕ). pieces (c.self.inside.bytes.items ++ c.args.bytes.now) 0 es) c.push_reserved.ensures.items
    ∙ last_longer c.self.inside.bytes.items c.args.bytes.now 0 c.pop.new.self.items last.0 c.len.result were (end ∙ long)
    ∙ ap (λ (es : List ℕ). with_longer_last (pieces c.self.inside.bytes.items 0 es) c.args.bytes.now) (sym last.1)
    ∙ ap (λ (path : List (List ℕ)). with_longer_last path c.args.bytes.now) c.self.view_is
