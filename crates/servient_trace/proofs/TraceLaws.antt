-- Laws of what is seen of the servient.
use Rattle.std.proofs.Common.{◌≡◌, ◌+◌, List, [], ◌∷◌, ◌++◌, sym, ap, subst, ◌∙◌}
use Rattle.std.proofs.lemmas.List.Elements.{filter_map-append}
use Rattle.servient_base.specs.Moves.{ShowsInOrder}
use Rattle.thing_handler.specs.Handler.{Seen}
use Rattle.thing_handler.specs.Turns.{HandlerCall, RackShows, turns_in, turn_in}
use Rattle.thing_handler.proofs.RackLaws.{rack_shows_none, rack_shows_then}
use Rattle.servient_outside.specs.Network.{Happening, NetSeen, NetShows, events_in, break_count, event_in}
use Rattle.servient_outside.proofs.NetLaws.{net_shows_none, net_shows_then, break_count-append}
use Rattle.servient_trace.specs.Trace.{Sighting, at_network, at_handler, happened_in, calls_in, outside, Shows, happening_in, call_in}

-- the events, the breaks and the turns that are seen, one after another
pub events-append : (a b : List Sighting) → events_in (happened_in (a ++ b)) ≡ events_in (happened_in a) ++ events_in (happened_in b)
events-append a b = ap events_in (filter_map-append happening_in a b) ∙ filter_map-append event_in (happened_in a) (happened_in b)

pub breaks-append : (a b : List Sighting) → break_count (happened_in (a ++ b)) ≡ break_count (happened_in a) + break_count (happened_in b)
breaks-append a b = ap break_count (filter_map-append happening_in a b) ∙ break_count-append (happened_in a) (happened_in b)

pub turns-append : (a b : List Sighting) → turns_in (calls_in (a ++ b)) ≡ turns_in (calls_in a) ++ turns_in (calls_in b)
turns-append a b = ap turns_in (filter_map-append call_in a b) ∙ filter_map-append turn_in (calls_in a) (calls_in b)

-- the outside shows traces in their order
pub shows_in_order : ShowsInOrder Shows
shows_in_order = record {
  none = λ w. record { net = net_shows_none w.net; rack = rack_shows_none w.slots };
  more = λ w v u a b p q. record {
    net = subst (λ (happened : List Happening). NetShows w.net u.net happened) (sym (filter_map-append happening_in a b))
        (net_shows_then w.net v.net u.net (happened_in a) (happened_in b) p.net q.net);
    rack = subst (λ (calls : List HandlerCall). RackShows w.slots u.slots calls) (sym (filter_map-append call_in a b))
        (rack_shows_then w.slots v.slots u.slots (calls_in a) (calls_in b) p.rack q.rack);
  };
}

-- one thing that happened at the network alone
pub shows_at_network : (n m : NetSeen) (slots : List Seen) (h : Happening) → NetShows n m (h ∷ []) → Shows (outside n slots) (outside m slots) (at_network h ∷ [])
shows_at_network n m slots h shows = record { net = shows; rack = rack_shows_none slots }

-- one call of a handler alone
pub shows_at_handler : (net : NetSeen) (before after : List Seen) (call : HandlerCall) → RackShows before after (call ∷ []) → Shows (outside net before) (outside net after) (at_handler call ∷ [])
shows_at_handler net before after call shows = record { net = net_shows_none net; rack = shows }
