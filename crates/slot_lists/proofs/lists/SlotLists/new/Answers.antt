-- No list has a slot yet.
use Rattle.std.proofs.Common.{◌≡◌, [], ℕ, List, None, length, replicate, subst, sym, ap, ◌∙◌}
use Rattle.std.proofs.lemmas.List.{length-replicate}
use Rattle.slot_lists.specs.declared.link.SlotLink.{SlotLink}
use Rattle.slot_lists.specs.declared.link.Ends.{Ends}
use Rattle.slot_lists.specs.Links.{Makes}
use Rattle.slot_lists.proofs.Linking.{seen_as, makes_seen, makes_empty}
use Rattle.slot_lists.proofs.lists.SlotLists.new.Goals as goal

made : (links : List SlotLink) (ends : List Ends) (count : ℕ) → ends ≡ replicate count (record { first = None; last = None }) → Makes links ends (replicate count [])
made links ends count e = subst (λ x. Makes links x (replicate count [])) (sym e) (makes_empty count links)

pub invariant_of-result : goal.invariant_of-result
invariant_of-result c = makes_seen _ _ _ (made c.in_ok-links.links.items c.in_ok-ends.ends.items c.args.count c.in_ok-ends.ensures)

pub returns : goal.returns
returns c =
    seen_as c.in_ok-links.links.items c.in_ok-ends.ends.items _ c.args.capacity (made c.in_ok-links.links.items c.in_ok-ends.ends.items c.args.count c.in_ok-ends.ensures)
    (ap length c.in_ok-links.ensures ∙ length-replicate c.args.capacity (record { previous = None; next = None }))
