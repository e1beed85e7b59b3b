-- The neighbours of the slot are linked to one another, and nothing else changes.
use Rattle.std.proofs.Common.{◌≡◌, [], ◌<◌, ℕ, List, true, None, length, get_or, set, subst, sym, ap, ◌∙◌, arith}
use Rattle.std.proofs.lemmas.List.{get_or_read, length-map}
use Rattle.slot_lists.specs.declared.link.SlotLink.{SlotLink}
use Rattle.slot_lists.specs.declared.link.Ends.{Ends}
use Rattle.slot_lists.specs.Lists.{Lists, list_at, is_among, with_list, without}
use Rattle.slot_lists.specs.Links.{link_at, ends_without, lists_in, Makes, with_next, with_previous}
use Rattle.slot_lists.proofs.Linking.{seen, seen_as, makes_seen, taken_as, if_some_bound, is_below, back_is_place, on_is_place, length-with_next, length-with_previous}
use Rattle.slot_lists.proofs.lists.SlotLists.remove.Goals as goal

is_place : (links : List SlotLink) (ends : List Ends) (t : Lists) (list slot : ℕ)
    → Makes links ends (lists_in links ends) → seen links ends ≡ t → is_among slot (list_at list t) ≡ true
    → (is_among slot (get_or (lists_in links ends) list []) ≡ true) × (slot < length links)
is_place links ends t list slot m view has =
    let here : is_among slot (get_or (lists_in links ends) list []) ≡ true = subst (λ u. is_among slot (list_at list u) ≡ true) (sym view) has in
    (here, is_below links ends (lists_in links ends) list slot m here)

pub index-link-requires : goal.index-link-requires
index-link-requires c =
    let place = is_place c.self.inside.links.items c.self.inside.ends.items c.args.self.now c.args.list c.args.slot c.self.invariant c.self.view_is c.requires.slot in
    let below : c.args.slot < length c.self.inside.links.items = place.1 in
    omega (arith, c.self.inside.links.ok.0)

pub set_next-requires : goal.set_next-requires
set_next-requires c =
    let place = is_place c.self.inside.links.items c.self.inside.ends.items c.args.self.now c.args.list c.args.slot c.self.invariant c.self.view_is c.requires.slot in
    let read : c.index-link.result.now ≡ link_at c.self.inside.links.items c.args.slot
    = get_or_read c.self.inside.links.items c.args.slot c.index-link.result.now place.1 c.index-link.ensures (record { previous = None; next = None }) in
    if_some_bound c.index-link.result.now.previous _ (λ z e.
    back_is_place c.self.inside.links.items c.self.inside.ends.items (lists_in c.self.inside.links.items c.self.inside.ends.items) c.args.list c.args.slot c.self.invariant place.0 z
    (sym (ap (λ (x : SlotLink). x.previous) read) ∙ e))

pub set_previous-requires : goal.set_previous-requires
set_previous-requires c =
    let place = is_place c.self.inside.links.items c.self.inside.ends.items c.args.self.now c.args.list c.args.slot c.self.invariant c.self.view_is c.requires.slot in
    let read : c.index-link.result.now ≡ link_at c.self.inside.links.items c.args.slot
    = get_or_read c.self.inside.links.items c.args.slot c.index-link.result.now place.1 c.index-link.ensures (record { previous = None; next = None }) in
    let many : length c.set_next.new.links.items ≡ length c.self.inside.links.items
    = ap length c.set_next.ensures ∙ length-with_next c.index-link.result.now.previous c.index-link.result.now.next c.self.inside.links.items in
    if_some_bound c.index-link.result.now.next _ (λ z e.
    subst (λ n. z < n) (sym many)
    (on_is_place c.self.inside.links.items c.self.inside.ends.items (lists_in c.self.inside.links.items c.self.inside.ends.items) c.args.list c.args.slot c.self.invariant place.0 z
    (sym (ap (λ (x : SlotLink). x.next) read) ∙ e)))

made : (links links1 links2 : List SlotLink) (ends : List Ends) (t : Lists) (list slot : ℕ) (link : SlotLink) (x w : Ends)
    → Makes links ends (lists_in links ends) → seen links ends ≡ t → list < length t.lists → is_among slot (list_at list t) ≡ true
    → link ≡ get_or links slot link → x ≡ get_or ends list x → w ≡ ends_without link x
    → links1 ≡ with_next link.previous link.next links → links2 ≡ with_previous link.next link.previous links1
    → Makes links2 (set ends list w) (set (lists_in links ends) list (without slot (get_or (lists_in links ends) list [])))
made links links1 links2 ends t list slot link x w m view list_within has read_link read without_slot one two =
    let many : length (lists_in links ends) ≡ length ends = length-map ends _ in
    let within : list < length ends = subst (λ n. list < n) (sym (ap (λ (u : Lists). length u.lists) view) ∙ many) list_within in
    let place = is_place links ends t list slot m view has in
    taken_as links links2 ends (lists_in links ends) list slot link x w m within place.0
    (get_or_read links slot link place.1 read_link (record { previous = None; next = None }))
    (get_or_read ends list x within read (record { first = None; last = None }))
    without_slot (two ∙ ap (with_previous link.next link.previous) one)

pub invariant_of-self : goal.invariant_of-self
invariant_of-self c =
    makes_seen _ _ _ (made c.self.inside.links.items c.set_next.new.links.items c.set_previous.new.links.items c.self.inside.ends.items c.args.self.now c.args.list c.args.slot
    c.index-link.result.now c.index.result.now c.without.result
    c.self.invariant c.self.view_is c.requires.list c.requires.slot c.index-link.ensures c.index.ensures c.without.ensures c.set_next.ensures c.set_previous.ensures)

pub returns : goal.returns
returns c =
    let m = made c.self.inside.links.items c.set_next.new.links.items c.set_previous.new.links.items c.self.inside.ends.items c.args.self.now c.args.list c.args.slot
    c.index-link.result.now c.index.result.now c.without.result
    c.self.invariant c.self.view_is c.requires.list c.requires.slot c.index-link.ensures c.index.ensures c.without.ensures c.set_next.ensures c.set_previous.ensures in
    let many : length c.set_previous.new.links.items ≡ length c.self.inside.links.items
    = ap length c.set_previous.ensures ∙ (length-with_previous c.index-link.result.now.next c.index-link.result.now.previous c.set_next.new.links.items
    ∙ (ap length c.set_next.ensures ∙ length-with_next c.index-link.result.now.previous c.index-link.result.now.next c.self.inside.links.items)) in
    subst (λ t. seen c.set_previous.new.links.items (set c.self.inside.ends.items c.args.list c.without.result) ≡ with_list c.args.list (without c.args.slot (list_at c.args.list t)) t) c.self.view_is
    (seen_as c.set_previous.new.links.items (set c.self.inside.ends.items c.args.list c.without.result) _ (length c.self.inside.links.items) m many)
