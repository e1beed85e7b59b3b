-- The first slot of a list is one end of it, and a place.
use Rattle.std.proofs.Common.{◌≡◌, [], ◌<◌, Some, None, length, get_or, subst, sym, ap, ◌∙◌}
use Rattle.std.proofs.lemmas.List.{get_or_read, length-map}
use Rattle.slot_lists.specs.declared.link.Ends.{Ends}
use Rattle.slot_lists.specs.Lists.{Lists, list_at, first_of, IsIn}
use Rattle.slot_lists.specs.Links.{ends_at, lists_in}
use Rattle.slot_lists.proofs.Linking.{if_some, first_is_place}
use Rattle.slot_lists.proofs.Neighbours.{first_among}
use Rattle.slot_lists.proofs.lists.SlotLists.first.Goals as goal

pub returns : goal.returns
returns c =
    let many : length (lists_in c.self.inside.links.items c.self.inside.ends.items) ≡ length c.self.inside.ends.items = length-map c.self.inside.ends.items _ in
    let within : c.args.list < length c.self.inside.ends.items
    = subst (λ n. c.args.list < n) (sym (ap (λ (t : Lists). length t.lists) c.self.view_is) ∙ many) c.requires in
    let read : c.index.result.now ≡ ends_at c.self.inside.ends.items c.args.list
    = get_or_read c.self.inside.ends.items c.args.list c.index.result.now within c.index.ensures (record { first = None; last = None }) in
    let end : c.index.result.now.first ≡ first_of (get_or (lists_in c.self.inside.links.items c.self.inside.ends.items) c.args.list [])
    = ap (λ (x : Ends). x.first) read ∙ c.self.invariant.first c.args.list within in
    record {
      first = subst (λ t. c.index.result.now.first ≡ first_of (list_at c.args.list t)) c.self.view_is end;
      member = if_some c.index.result.now.first (IsIn c.args.list c.args.self.now) (λ z e.
          let found : first_of (get_or (lists_in c.self.inside.links.items c.self.inside.ends.items) c.args.list []) ≡ Some z = sym end ∙ e in
          subst (λ t. IsIn c.args.list t z) c.self.view_is (
            first_among (get_or (lists_in c.self.inside.links.items c.self.inside.ends.items) c.args.list []) z found,
            first_is_place c.self.inside.links.items c.self.inside.ends.items (lists_in c.self.inside.links.items c.self.inside.ends.items) c.args.list c.self.invariant within z
                (sym (ap (λ (x : Ends). x.first) read) ∙ e),
          ));
    }
