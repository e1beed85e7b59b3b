-- The slot goes from the lists of its kind, of its bucket and of all to the free ones.
use Rattle.std.proofs.Common.{◌≡◌, ◌<◌, ◌++◌, ◌∷◌, [], ◌∙◌, ℕ, List, true, false, Some, length, map, sym, ap, subst, arith}
use Rattle.slot_lists.specs.Lists.{Lists, list_at, with_list, is_among, without}
use Rattle.coap_exchange.specs.Slots.{exchange_at, age_list, age_list_at, bucket_at}
use Rattle.coap_msg.specs.Buckets.{bucket}
use Rattle.coap_exchange.specs.Kept.{table_of, living_slots, IsKept, without_exchange}
use Rattle.coap_exchange.specs.Table.{Exchange, Table, exchange_in}
use Rattle.coap_exchange.specs.declared.entry.Entry.{Entry}
use Rattle.coap_exchange.specs.declared.exchanges.Exchanges.TheInside.{Inside}
use Rattle.coap_exchange.proofs.TableLaws.{slot_lives, living_is_below, entry_read, seen_without}
use Rattle.coap_exchange.proofs.KeptLaws.{without_at, kept_giving_up, living_without, taken_from_kind, in_its_kind, in_its_bucket}
use Rattle.coap_exchange.proofs.exchanges.Exchanges.give_up.Goals as goal

-- the slot lives, and is a place
lives_below : (x : Inside) (t : Table) (slot : ℕ) (e : Exchange) → IsKept x → table_of x ≡ t → exchange_in slot t ≡ Some e
    → (is_among slot (living_slots x) ≡ true) × (slot < length x.entries.items) × (slot < x.capacity)
lives_below x t slot e kept view there =
    let has : is_among slot (living_slots x) ≡ true = (slot_lives x slot e (ap (exchange_in slot) view ∙ there)).0 in
    let below : slot < x.capacity = living_is_below x kept slot has in
    (has, omega (arith, kept.entries), below)

pub index-entry-requires : goal.index-entry-requires
index-entry-requires c =
    let place = lives_below c.self.inside c.args.self.now c.args.slot c.requires.0 c.self.invariant c.self.view_is c.requires.1 in
    let below : c.args.slot < length c.self.inside.entries.items = place.1 in
    omega (arith, c.self.inside.entries.ok.0)

pub remove-requires-clause-slot : goal.remove-requires-clause-slot
remove-requires-clause-slot c =
    let place = lives_below c.self.inside c.args.self.now c.args.slot c.requires.0 c.self.invariant c.self.view_is c.requires.1 in
    let read = entry_read c.self.inside.entries.items c.args.slot c.index-entry.result.now place.1 c.index-entry.ensures in
    let list : c.list_of.result ≡ age_list_at c.self.inside.entries.items c.args.slot = c.list_of.ensures ∙ ap (λ (e : Entry). age_list e.kind) read in
    subst (λ n. is_among c.args.slot (list_at n c.self.inside.kinds) ≡ true) (sym list) (in_its_kind c.self.inside c.args.slot c.self.invariant place.0)

pub push_back-requires-clause-slot : goal.push_back-requires-clause-slot
push_back-requires-clause-slot c =
    let place = lives_below c.self.inside c.args.self.now c.args.slot c.requires.0 c.self.invariant c.self.view_is c.requires.1 in
    let below : c.args.slot < c.self.inside.capacity = place.2 in
    subst (λ (t : Lists). c.args.slot < t.capacity) (sym c.remove.ensures) (omega (arith, c.self.invariant.kinds_capacity))

pub push_back-requires-clause-apart : goal.push_back-requires-clause-apart
push_back-requires-clause-apart c =
    let place = lives_below c.self.inside c.args.self.now c.args.slot c.requires.0 c.self.invariant c.self.view_is c.requires.1 in
    let read = entry_read c.self.inside.entries.items c.args.slot c.index-entry.result.now place.1 c.index-entry.ensures in
    let list : c.list_of.result ≡ age_list_at c.self.inside.entries.items c.args.slot = c.list_of.ensures ∙ ap (λ (e : Entry). age_list e.kind) read in
    let kinds : c.remove.new.self ≡ without_at (age_list_at c.self.inside.entries.items c.args.slot) c.args.slot c.self.inside.kinds
    = c.remove.ensures ∙ ap (λ n. without_at n c.args.slot c.self.inside.kinds) list in
    λ i. subst (λ (t : Lists). is_among c.args.slot (list_at i t) ≡ false) (sym kinds) (taken_from_kind c.self.inside c.args.slot c.self.invariant place.0 i)

pub remove-requires-2-clause-slot : goal.remove-requires-2-clause-slot
remove-requires-2-clause-slot c =
    let place = lives_below c.self.inside c.args.self.now c.args.slot c.requires.0 c.self.invariant c.self.view_is c.requires.1 in
    let read = entry_read c.self.inside.entries.items c.args.slot c.index-entry.result.now place.1 c.index-entry.ensures in
    let number : c.bucket_of.result ≡ bucket_at c.self.inside.entries.items c.self.inside.capacity c.args.slot
    = c.bucket_of.ensures.bucket ∙ ap (λ (e : Entry). bucket c.self.inside.capacity e.from e.id) read in
    let below : bucket_at c.self.inside.entries.items c.self.inside.capacity c.args.slot < c.self.inside.capacity
    = subst (λ n. n < c.self.inside.capacity) number c.bucket_of.ensures.within in
    subst (λ n. is_among c.args.slot (list_at n c.self.inside.buckets) ≡ true) (sym number) (in_its_bucket c.self.inside c.args.slot c.self.invariant place.0 below)

pub remove-requires-3-clause-slot : goal.remove-requires-3-clause-slot
remove-requires-3-clause-slot c =
    (lives_below c.self.inside c.args.self.now c.args.slot c.requires.0 c.self.invariant c.self.view_is c.requires.1).0

pub invariant_of-self : goal.invariant_of-self
invariant_of-self c =
    let place = lives_below c.self.inside c.args.self.now c.args.slot c.requires.0 c.self.invariant c.self.view_is c.requires.1 in
    let read = entry_read c.self.inside.entries.items c.args.slot c.index-entry.result.now place.1 c.index-entry.ensures in
    let list : c.list_of.result ≡ age_list_at c.self.inside.entries.items c.args.slot = c.list_of.ensures ∙ ap (λ (e : Entry). age_list e.kind) read in
    let number : c.bucket_of.result ≡ bucket_at c.self.inside.entries.items c.self.inside.capacity c.args.slot
    = c.bucket_of.ensures.bucket ∙ ap (λ (e : Entry). bucket c.self.inside.capacity e.from e.id) read in
    let kinds : c.remove.new.self ≡ without_at (age_list_at c.self.inside.entries.items c.args.slot) c.args.slot c.self.inside.kinds
    = c.remove.ensures ∙ ap (λ n. without_at n c.args.slot c.self.inside.kinds) list in
    kept_giving_up c.self.inside c.args.slot c.push_back.new.self c.remove-2.new.self c.remove-3.new.self c.self.invariant place.0
    (c.push_back.ensures ∙ ap (λ (t : Lists). with_list 0 (list_at 0 t ++ c.args.slot ∷ []) t) kinds)
    (c.remove-2.ensures ∙ ap (λ n. without_at n c.args.slot c.self.inside.buckets) number)
    c.remove-3.ensures

pub returns : goal.returns
returns c =
    let at : List Exchange → Table = λ es. record { capacity = c.self.inside.capacity; moment = c.self.inside.moment; exchanges = es } in
    let f : ℕ → Exchange = exchange_at c.self.inside.entries.items c.self.inside.replies.items in
    let left : list_at 0 c.remove-3.new.self ≡ without c.args.slot (living_slots c.self.inside)
    = ap (list_at 0) c.remove-3.ensures ∙ living_without c.self.inside c.args.slot c.self.invariant in
    ap (λ l. at (map (exchange_at c.self.inside.entries.items c.self.inside.replies.items) l)) left
    ∙ (ap at (seen_without c.self.inside.entries.items c.self.inside.replies.items c.args.slot (living_slots c.self.inside))
    ∙ ap (without_exchange c.args.slot) c.self.view_is)
