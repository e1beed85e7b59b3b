-- The invariant of each round of serving, and its end.
use Rattle.std.proofs.Common.{◌≡◌, ◌≢◌, ℕ, ◌+◌, ◌<◌, List, [], ◌∷◌, ◌++◌, length, take, refl, subst, ◌∙◌, arith, length-append}
use Rattle.servient_base.specs.Moves.{Then, Becomes, Refines}
use Rattle.servient_base.proofs.MovesLaws.{refines_then, refines_as, refines_each_more, refines_stays}
use Rattle.thing_handler.specs.Handler.{Seen}
use Rattle.thing_site.specs.Fits.{Fits}
use Rattle.servient_outside.specs.declared.net.What.TheVariants as what
use Rattle.servient_outside.specs.declared.net.Event.{Event}
use Rattle.servient_outside.specs.declared.net.EventWithBytes.{EventWithBytes}
use Rattle.servient_outside.specs.Network.{byte_count, in_buffer, Happening, NetSeen, NetShows, heard, broke, next_event}
use Rattle.servient_core.specs.declared.serving.Served.{Served}
use Rattle.servient_core.specs.declared.serving.Served.TheVariants as served
use Rattle.servient_trace.specs.Trace.{at_network, Outside, outside, Shows}
use Rattle.servient_core.specs.Machine.{Site, State, Step, EventAndStep, Run}
use Rattle.servient_core.specs.Keeping.{Comes}
use Rattle.servient_core.specs.declared.layers.Layers.{Layers}
use Rattle.servient_core.specs.Serving.{StandsFor, HasNoStop, AreTaken, Ends, Serves}
use Rattle.servient_trace.proofs.TraceLaws.{shows_in_order, shows_at_network}

-- no event of all is a stop, where none so far and not the next is
pub no_stop_more : (es : List EventWithBytes) (e : EventWithBytes) → HasNoStop es → e.event.what ≢ what.Stop → HasNoStop (es ++ e ∷ [])
no_stop_more [] e all last = (last, tt)
no_stop_more (x ∷ es) e all last = (all.0, no_stop_more es e all.1 last)

-- one thing happens at the network, and the state stays
refines_net : (c : Layers) (n m : NetSeen) (slots : List Seen) (h : Happening) → NetShows n m (h ∷ []) → Refines StandsFor Shows (λ (s : State). Becomes s (at_network h ∷ [])) c c (outside n slots) (outside m slots)
refines_net c n m slots h shows = λ s stands.
    (s, stands, record { seen = at_network h ∷ []; move = record { next = refl; saw = refl }; shows = shows_at_network n m slots h shows })

-- the invariant before each event that is served
pub record Progress (c d : Layers) (w v : Outside) (count : ℕ) : Type 0 where
  pub took : List EventWithBytes
  pub run : Refines StandsFor Shows (Run c.exposed.site took) c d w v
  pub count_is : length took ≡ count
  pub going : HasNoStop took
  pub site : d.exposed.site ≡ c.exposed.site
  pub fits : Fits d.exposed.site v.slots

-- before the first event
pub progress_none : (c : Layers) (w : Outside) → Fits c.exposed.site w.slots → Progress c c w w 0
progress_none c w within = record { took = []; run = refines_stays StandsFor Shows shows_in_order c w; count_is = refl; going = tt; site = refl; fits = within }

-- an event came and its step was made
took_more : (c d f : Layers) (w : Outside) (n m : NetSeen) (slots : List Seen) (u : Outside) (count : ℕ) (e : EventWithBytes) (p : Progress c d w (outside n slots) count) → NetShows n m (heard e ∷ []) → Refines StandsFor Shows (Step d.exposed.site e) d f (outside m slots) u → Refines StandsFor Shows (Run c.exposed.site (p.took ++ e ∷ [])) c f w u
took_more c d f w n m slots u count e p comes step =
    refines_each_more StandsFor Shows shows_in_order (EventAndStep c.exposed.site) p.took e c d f w (outside n slots) u p.run
    (refines_then StandsFor Shows shows_in_order (Comes e) (Step c.exposed.site e) d d f (outside n slots) (outside m slots) u (refines_net d n m slots (heard e) comes)
    (subst (λ (x : Site). Refines StandsFor Shows (Step x e) d f (outside m slots) u) p.site step))

-- an event was taken that is no stop
pub progress_more : (c d f : Layers) (w : Outside) (n m : NetSeen) (slots : List Seen) (u : Outside) (count : ℕ) (e : EventWithBytes) → Progress c d w (outside n slots) count → NetShows n m (heard e ∷ []) → Refines StandsFor Shows (Step d.exposed.site e) d f (outside m slots) u → f.exposed.site ≡ d.exposed.site → Fits f.exposed.site u.slots → e.event.what ≢ what.Stop → Progress c f w u (count + 1)
progress_more c d f w n m slots u count e p comes step same fits goes = record {
  took = p.took ++ e ∷ [];
  run = took_more c d f w n m slots u count e p comes step;
  count_is = omega (arith, length-append p.took (e ∷ []), p.count_is);
  going = no_stop_more p.took e p.going goes;
  site = same ∙ p.site;
  fits = fits;
}

serves : (site : Site) (budget : ℕ) (result : Served) (took : List EventWithBytes) (c d f : Layers) (w v u : Outside) → Refines StandsFor Shows (Run site took) c d w v → Refines StandsFor Shows (Ends result) d f v u → AreTaken budget took result → Refines StandsFor Shows (Serves site budget result) c f w u
serves site budget result took c d f w v u run ends taken =
    refines_as StandsFor Shows (Then (Run site took) (Ends result)) (Serves site budget result) c f w u
    (λ s seen t both. record { took = took; run = both; taken = taken })
    (refines_then StandsFor Shows shows_in_order (Run site took) (Ends result) c d f w v u run ends)

-- the network failed
pub serves_failed : (c d : Layers) (w : Outside) (n m : NetSeen) (slots : List Seen) (budget count : ℕ) → Progress c d w (outside n slots) count → NetShows n m (broke next_event ∷ []) → count < budget → Refines StandsFor Shows (Serves c.exposed.site budget served.Failed) c d w (outside m slots)
serves_failed c d w n m slots budget count p breaks below =
    serves c.exposed.site budget served.Failed p.took c d d w (outside n slots) (outside m slots) p.run (refines_net d n m slots (broke next_event) breaks) (p.going, omega (arith, p.count_is, below))

-- a stop was taken
pub serves_stopped : (c d f : Layers) (w : Outside) (n m : NetSeen) (slots : List Seen) (u : Outside) (budget count : ℕ) (e : EventWithBytes) → Progress c d w (outside n slots) count → NetShows n m (heard e ∷ []) → Refines StandsFor Shows (Step d.exposed.site e) d f (outside m slots) u → e.event.what ≡ what.Stop → count < budget → Refines StandsFor Shows (Serves c.exposed.site budget served.Stopped) c f w u
serves_stopped c d f w n m slots u budget count e p comes step stops below =
    serves c.exposed.site budget served.Stopped (p.took ++ e ∷ []) c f f w u u (took_more c d f w n m slots u count e p comes step) (refines_stays StandsFor Shows shows_in_order f u)
    (p.took, e, refl, stops, p.going, omega (arith, length-append p.took (e ∷ []), p.count_is, below))

-- the budget is spent
pub serves_spent : (c d : Layers) (w v : Outside) (budget count : ℕ) → Progress c d w v count → count ≡ budget → Refines StandsFor Shows (Serves c.exposed.site budget served.Spent) c d w v
serves_spent c d w v budget count p all =
    serves c.exposed.site budget served.Spent p.took c d d w v v p.run (refines_stays StandsFor Shows shows_in_order d v) (p.going, p.count_is ∙ all)

-- the event that the network gave is the one that the step took
pub same_event : (site : Site) (e : Event) (n : ℕ) (buffer : List ℕ) (c d : Layers) (w v : Outside) → n ≡ byte_count e.what → Refines StandsFor Shows (Step site (record { event = e; bytes = take n buffer })) c d w v → Refines StandsFor Shows (Step site (in_buffer e buffer)) c d w v
same_event site e n buffer c d w v is step =
    subst (λ (k : ℕ). Refines StandsFor Shows (Step site (record { event = e; bytes = take k buffer })) c d w v) is step
