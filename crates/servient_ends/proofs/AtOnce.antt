-- A datagram that the servient answers at once, before anything else came, at the moment 0: the step, and the world after
-- it.
use Rattle.std.proofs.Common.{◌≤◌, ◌+◌, ℕ, List, [], ◌∷◌, ◌++◌, length, None, inr, refl}
use Rattle.servient_base.specs.Moves.{is_done}
use Rattle.coap_bind.specs.declared.server.Server.{Server}
use Rattle.coap_bind.specs.Server.{Hears, answered_at_once, SendsNext}
use Rattle.servient_outside.specs.declared.net.What.TheVariants as what
use Rattle.servient_outside.specs.declared.net.EventWithBytes.{EventWithBytes}
use Rattle.servient_outside.specs.declared.net.Act.TheVariants as act
use Rattle.servient_outside.specs.Network.{heard, did}
use Rattle.servient_trace.specs.Trace.{Sighting, at_network}
use Rattle.servient_core.specs.Machine.{Site, State, start, EventAndStep}
use Rattle.servient_world.specs.World.{client_place, server_place, copy_of, reply_to, WorldState, acts_for, id_used, with_sent}
use Rattle.servient_ends.specs.Ends.{act_of, back_of, emitted_by_datagram, notifications_in, with_emissions, with_notifications, event_at, ServientHears}

module _ (site : Site) (c d : Server) (bytes reply : List ℕ) (short : length bytes ≤ 1280) (hears : Hears client_place bytes 0 (answered_at_once reply) c d) (quiet : SendsNext 0 None d d) where
  abbrev pub before : State
  before = record (start site 16 None) { coap = c }

  abbrev pub after : State
  after = record (start site 16 None) { coap = d }

  abbrev it_comes : EventWithBytes
  it_comes = event_at 0 (what.Datagram client_place (length bytes)) bytes

  abbrev reply_seen : List Sighting
  reply_seen = at_network (did (act.Datagram client_place reply)) ∷ []

  abbrev the_step : EventAndStep site it_comes before (at_network (heard it_comes) ∷ reply_seen) after
  the_step = record {
    mid = before;
    first = at_network (heard it_comes) ∷ [];
    second = reply_seen;
    one = record { next = refl; saw = refl };
    other = record {
      mid = after;
      first = reply_seen;
      second = [];
      one = inr (
        short,
        (
          answered_at_once reply,
          record {
            mid = after;
            first = [];
            second = reply_seen;
            one = (d, hears, record { next = refl; saw = refl });
            other = record { next = refl; saw = refl };
            whole = refl;
          },
        ),
      );
      other = record {
        mid = after;
        first = [];
        second = [];
        one = record {
          mid = after;
          first = [];
          second = [];
          one = is_done after [] after (d, quiet) (record { next = refl; saw = refl });
          other = (d, quiet, record { next = refl; saw = refl });
          whole = refl;
        };
        other = record {
          mid = after;
          first = [];
          second = [];
          one = is_done after [] after refl (record { next = refl; saw = refl });
          other = is_done after [] after refl (record { next = refl; saw = refl });
          whole = refl;
        };
        whole = refl;
      };
      whole = refl;
    };
    whole = refl;
  }

  -- the world then, where the datagram was a copy of this ask
  abbrev pub world_after : ℕ → WorldState → WorldState
  world_after k w =
      with_notifications after.thing (notifications_in the_step.other.mid the_step.other.second after the_step.other.other)
      (with_emissions (emitted_by_datagram site client_place bytes before the_step.other.first the_step.other.mid the_step.other.one)
      (with_sent (record w {
        moment = 0;
        server = d;
        acts = w.acts ++ acts_for (copy_of k) (act_of site client_place bytes before the_step.other.first the_step.other.mid the_step.other.one);
        ids = w.ids + id_used c the_step.other.mid.coap;
      }) server_place client_place (reply_to k) (back_of site client_place bytes before the_step.other.first the_step.other.mid the_step.other.one)))

  pub answers_turn : (k : ℕ) (w : WorldState)
      → ServientHears site client_place (length bytes) bytes (copy_of k) (record { world = record w { moment = 0 }; servient = before }) (record { world = world_after k w; servient = after })
  answers_turn k w = record { seen = at_network (heard it_comes) ∷ reply_seen; step = the_step; next = refl }
