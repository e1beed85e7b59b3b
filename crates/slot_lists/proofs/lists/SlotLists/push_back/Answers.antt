-- The slot is linked after the last one, and nothing else changes.
use Rattle.std.proofs.Common.{◌≡◌, ◌∷◌, [], ◌++◌, ◌<◌, ℕ, List, false, Some, None, length, get_or, set, subst, sym, ap, ◌∙◌, rules}
use Rattle.std.proofs.lemmas.List.{get_or_read, length-map, length-set}
use Rattle.slot_lists.specs.declared.link.SlotLink.{SlotLink}
use Rattle.slot_lists.specs.declared.link.Ends.{Ends}
use Rattle.slot_lists.specs.Lists.{Lists, list_at, is_among, IsInNone, with_list}
use Rattle.slot_lists.specs.Links.{ends_at, ends_with, lists_in, Makes}
use Rattle.slot_lists.proofs.Linking.{seen, seen_as, makes_seen, pushed_as, pushed_links, if_some_bound, last_is_place, length-with_next}
use Rattle.slot_lists.proofs.lists.SlotLists.push_back.Goals as goal

pub set_next-requires : goal.set_next-requires
set_next-requires c =
    let many : length (lists_in c.self.inside.links.items c.self.inside.ends.items) ≡ length c.self.inside.ends.items = length-map c.self.inside.ends.items _ in
    let within : c.args.list < length c.self.inside.ends.items
    = subst (λ n. c.args.list < n) (sym (ap (λ (t : Lists). length t.lists) c.self.view_is) ∙ many) c.requires.list in
    let read : c.index-ends.result.now ≡ ends_at c.self.inside.ends.items c.args.list
    = get_or_read c.self.inside.ends.items c.args.list c.index-ends.result.now within c.index-ends.ensures (record { first = None; last = None }) in
    if_some_bound c.index-ends.result.now.last _ (λ z e.
    subst (λ n. z < n) (sym (length-set c.self.inside.links.items c.args.slot _))
    (last_is_place c.self.inside.links.items c.self.inside.ends.items (lists_in c.self.inside.links.items c.self.inside.ends.items) c.args.list c.self.invariant within z
    (sym (ap (λ (x : Ends). x.last) read) ∙ e)))

made : (links links2 : List SlotLink) (ends : List Ends) (t : Lists) (list slot : ℕ) (x w : Ends)
    → Makes links ends (lists_in links ends) → seen links ends ≡ t → list < length t.lists → slot < t.capacity → IsInNone slot t
    → x ≡ get_or ends list x → w ≡ ends_with slot x → links2 ≡ pushed_links links x.last slot
    → Makes links2 (set ends list w) (set (lists_in links ends) list (get_or (lists_in links ends) list [] ++ slot ∷ []))
made links links2 ends t list slot x w m view list_within slot_within none read with_slot written =
    let many : length (lists_in links ends) ≡ length ends = length-map ends _ in
    let within : list < length ends = subst (λ n. list < n) (sym (ap (λ (u : Lists). length u.lists) view) ∙ many) list_within in
    let below : slot < length links = subst (λ n. slot < n) (sym (ap (λ (u : Lists). u.capacity) view)) slot_within in
    let apart : (i : ℕ) → is_among slot (get_or (lists_in links ends) i []) ≡ false = subst (IsInNone slot) (sym view) none in
    pushed_as links links2 ends (lists_in links ends) list slot x w m within below apart (get_or_read ends list x within read (record { first = None; last = None })) with_slot written

pub invariant_of-self : goal.invariant_of-self
invariant_of-self c =
    let w : Ends = record { first = Some c.unwrap_or.result; last = Some c.args.slot } in
    let with_slot : w ≡ ends_with c.args.slot c.index-ends.result.now = search rules in
    makes_seen _ _ _ (made c.self.inside.links.items c.set_next.new.links.items c.self.inside.ends.items c.args.self.now c.args.list c.args.slot c.index-ends.result.now w
    c.self.invariant c.self.view_is c.requires.list c.requires.slot c.requires.apart c.index-ends.ensures with_slot c.set_next.ensures)

pub returns : goal.returns
returns c =
    let w : Ends = record { first = Some c.unwrap_or.result; last = Some c.args.slot } in
    let with_slot : w ≡ ends_with c.args.slot c.index-ends.result.now = search rules in
    let m = made c.self.inside.links.items c.set_next.new.links.items c.self.inside.ends.items c.args.self.now c.args.list c.args.slot c.index-ends.result.now w
    c.self.invariant c.self.view_is c.requires.list c.requires.slot c.requires.apart c.index-ends.ensures with_slot c.set_next.ensures in
    let many : length c.set_next.new.links.items ≡ length c.self.inside.links.items
    = ap length c.set_next.ensures ∙ (length-with_next c.index-ends.result.now.last (Some c.args.slot) _ ∙ length-set c.self.inside.links.items c.args.slot _) in
    subst (λ t. seen c.set_next.new.links.items (set c.self.inside.ends.items c.args.list w) ≡ with_list c.args.list (list_at c.args.list t ++ c.args.slot ∷ []) t) c.self.view_is
    (seen_as c.set_next.new.links.items (set c.self.inside.ends.items c.args.list w) _ (length c.self.inside.links.items) m many)
