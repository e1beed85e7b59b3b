-- The links lead from a slot to the one after it.
use Rattle.std.proofs.Common.{◌≡◌, [], ◌∷◌, ◌<◌, ℕ, Option, true, Some, None, IfSome, length, get_or, subst, sym, ap, ◌∙◌}
use Rattle.std.proofs.lemmas.List.{get_or_read}
use Rattle.slot_lists.specs.declared.link.SlotLink.{SlotLink}
use Rattle.slot_lists.specs.Lists.{Lists, list_at, is_among, IsIn, from_slot}
use Rattle.slot_lists.specs.Links.{previous_in, next_in, lists_in, lists_of}
use Rattle.slot_lists.proofs.Neighbours.{after_leads, after_within}
use Rattle.slot_lists.proofs.Linking.{if_some, on_is_place}
use Rattle.slot_lists.proofs.lists.SlotLists.after.Goals as goal

pub returns : goal.returns
returns c =
    let within : c.args.slot < length c.self.inside.links.items = subst (λ n. c.args.slot < n) (sym (ap (λ (t : Lists). t.capacity) c.self.view_is)) c.requires in
    let read : next_in c.self.inside.links.items c.args.slot ≡ c.index.result.now.next
    = sym (ap (λ (l : SlotLink). l.next) (get_or_read c.self.inside.links.items c.args.slot c.index.result.now within c.index.ensures (record { previous = None; next = None }))) in
    let P : Lists → Option ℕ → Type 0 = λ t o. (list : ℕ) → is_among c.args.slot (list_at list t) ≡ true
    → from_slot (Some c.args.slot) (list_at list t) ≡ c.args.slot ∷ from_slot o (list_at list t) in
    let leads : P (lists_of c.self.inside) (next_in c.self.inside.links.items c.args.slot)
    = λ list has. after_leads (length c.self.inside.links.items) c.args.slot (previous_in c.self.inside.links.items) (next_in c.self.inside.links.items) None
    (get_or (lists_in c.self.inside.links.items c.self.inside.ends.items) list []) (c.self.invariant.distinct list) has (c.self.invariant.neighbours list) in
    let Q : Lists → Type 0 = λ t. (list : ℕ) → is_among c.args.slot (list_at list t) ≡ true → IfSome c.index.result.now.next (IsIn list t) in
    let member : Q (lists_of c.self.inside) = λ list has. if_some c.index.result.now.next (IsIn list (lists_of c.self.inside)) (λ z e.
    let next : next_in c.self.inside.links.items c.args.slot ≡ Some z = read ∙ e in (
      after_within (length c.self.inside.links.items) (previous_in c.self.inside.links.items) (next_in c.self.inside.links.items) None
          (get_or (lists_in c.self.inside.links.items c.self.inside.ends.items) list []) c.args.slot z (c.self.invariant.neighbours list) has next,
      on_is_place c.self.inside.links.items c.self.inside.ends.items (lists_in c.self.inside.links.items c.self.inside.ends.items) list c.args.slot c.self.invariant has z next,
    )) in
    record {
      after = subst (λ t. P t c.index.result.now.next) c.self.view_is (subst (P (lists_of c.self.inside)) read leads);
      member = subst Q c.self.view_is member;
    }
