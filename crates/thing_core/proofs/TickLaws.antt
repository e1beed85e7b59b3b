-- Polling all events is what polling one event after another is.
use Rattle.std.proofs.Common.{◌≡◌, List, [], ◌∷◌, ◌++◌, map, refl, sym, ap, ◌∙◌}
use Rattle.std.proofs.lemmas.List.Elements.{filter_map-append}
use Rattle.servient_base.specs.Moves.{Each}
use Rattle.thing_handler.specs.Turns.{HandlerCall}
use Rattle.thing_site.specs.Site.{Placed, Site, events_of}
use Rattle.thing_state.specs.State.{State, Emission}
use Rattle.thing_core.specs.Thing.{PollsEach}
use Rattle.thing_core.specs.Ticks.{TickSeen, calls, hands_out, call_in, emission_in, calls_in, emissions_in, PollsAndHandsOut, IsSameInTurn}

-- ---- what is in a trace

calls_of_one : (made : List HandlerCall) (es : List Emission) → calls_in (map calls made ++ map hands_out es) ≡ made
calls_of_one [] [] = refl
calls_of_one [] (e ∷ es) = calls_of_one [] es
calls_of_one (c ∷ made) es = ap (λ (l : List HandlerCall). c ∷ l) (calls_of_one made es)

emissions_of_one : (made : List HandlerCall) (es : List Emission) → emissions_in (map calls made ++ map hands_out es) ≡ es
emissions_of_one [] [] = refl
emissions_of_one [] (e ∷ es) = ap (λ (l : List Emission). e ∷ l) (emissions_of_one [] es)
emissions_of_one (c ∷ made) es = emissions_of_one made es

-- one event, and then others
calls_of_more : (made : List HandlerCall) (es : List Emission) (rest : List TickSeen) → calls_in ((map calls made ++ map hands_out es) ++ rest) ≡ made ++ calls_in rest
calls_of_more made es rest = filter_map-append call_in (map calls made ++ map hands_out es) rest ∙ ap (λ (l : List HandlerCall). l ++ calls_in rest) (calls_of_one made es)

emissions_of_more : (made : List HandlerCall) (es : List Emission) (rest : List TickSeen) → emissions_in ((map calls made ++ map hands_out es) ++ rest) ≡ es ++ emissions_in rest
emissions_of_more made es rest = filter_map-append emission_in (map calls made ++ map hands_out es) rest ∙ ap (λ (l : List Emission). l ++ emissions_in rest) (emissions_of_one made es)

-- ---- both ways

all_first : (ps : List Placed) (s t : State) (seen : List TickSeen) → Each PollsAndHandsOut ps s seen t → PollsEach ps (emissions_in seen) s (calls_in seen) t
all_first [] s t seen q = (ap emissions_in q.saw, record { next = q.next; saw = ap calls_in q.saw })
all_first (p ∷ ps) s t seen q =
    let is : seen ≡ (map calls q.one.1 ++ map hands_out q.one.0) ++ q.second = q.whole ∙ ap (λ (l : List TickSeen). l ++ q.second) q.one.3 in (
      q.one.0,
      emissions_in q.second,
      ap emissions_in is ∙ emissions_of_more q.one.1 q.one.0 q.second,
      record {
        mid = q.mid;
        first = q.one.1;
        second = calls_in q.second;
        one = q.one.2;
        other = all_first ps q.mid t q.second q.other;
        whole = ap calls_in is ∙ calls_of_more q.one.1 q.one.0 q.second;
      },
    )

in_turn : (ps : List Placed) (es : List Emission) (s t : State) (made : List HandlerCall) → PollsEach ps es s made t
    → (seen : List TickSeen) × Each PollsAndHandsOut ps s seen t × (calls_in seen ≡ made) × (emissions_in seen ≡ es)
in_turn [] es s t made q = ([], record { next = q.1.next; saw = refl }, sym q.1.saw, sym q.0)
in_turn (p ∷ ps) es s t made q =
    let rest = in_turn ps q.1 q.3.mid t q.3.second q.3.other in
    let here : List TickSeen = map calls q.3.first ++ map hands_out q.0 in (
      here ++ rest.0,
      record { mid = q.3.mid; first = here; second = rest.0; one = (q.0, q.3.first, q.3.one, refl); other = rest.1; whole = refl },
      calls_of_more q.3.first q.0 rest.0 ∙ ap (λ (l : List HandlerCall). q.3.first ++ l) rest.2 ∙ sym q.3.whole,
      emissions_of_more q.3.first q.0 rest.0 ∙ ap (λ (l : List Emission). q.0 ++ l) rest.3 ∙ sym q.2,
    )

pub same_in_turn : (site : Site) → IsSameInTurn site
same_in_turn site = (all_first (events_of site.things), (λ s t made es q. in_turn (events_of site.things) es s t made q))
