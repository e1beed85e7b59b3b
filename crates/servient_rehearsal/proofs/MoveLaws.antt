-- A rehearsal begins a new world, and the laws of the world of both ends hold of it.
use Rattle.std.proofs.Common.{◌≡◌, ◌∙◌, ℕ, ◌≤◌, List, [], ◌∷◌, ◌++◌, map, length, zero, suc, refl, sym, ap, subst, arith}
use Rattle.std.specs.Prelude.{Option, Some, Contains, slice_get}
use Rattle.std.proofs.lemmas.Option.{same_Some, slice_get_within, slice_get-get_or, get_or_from_slice_get}
use Rattle.coap_msg.specs.declared.block.Block.{Block}
use Rattle.coap_client.specs.declared.state.State.{State as ClientState}
use Rattle.coap_client.specs.Exchange.{IsNew}
use Rattle.thing_handler.specs.Handler.{Seen}
use Rattle.servient_core.specs.Links.{segments_of, text_of_links}
use Rattle.servient_core.specs.Machine.{Site, start}
use Rattle.servient_core.specs.Serving.{StandsFor}
use Rattle.servient_core.specs.declared.layers.Layers.{Layers}
use Rattle.servient_world.specs.World.{AskEnd as AskEndInWorld, End as EndInWorld, answered, observed, reset, timed_out}
use Rattle.servient_ends.specs.Ends.{IsBeginning}
use Rattle.servient_ends.proofs.EndsLaws.{servient_acts_once, servient_answers_once, servient_observes_once, servient_values_never_go_back, servient_values_have_a_source, servient_reads_one_act, servient_writes_one_act}
use Rattle.servient_rehearsal.specs.declared.moves.Move.{Move}
use Rattle.servient_rehearsal.specs.declared.notes.Notes.{Notes}
use Rattle.servient_rehearsal.specs.declared.world.World.{World}
use Rattle.servient_rehearsal.specs.declared.world.AskEnd.{AskEnd}
use Rattle.servient_rehearsal.specs.declared.world.End.{End}
use Rattle.servient_rehearsal.specs.declared.world.End.TheVariants as end
use Rattle.servient_rehearsal.specs.Moves.{turn_of}
use Rattle.servient_rehearsal.specs.Noted.{Noted, noted_of, nothing_noted, shown_end, shown_ends}
use Rattle.servient_rehearsal.specs.Turns.{Played}
use Rattle.servient_rehearsal.specs.Playing.{kept, IsShown, AreNoted, PlaysMoves, PlaysSomeMoves}
use Rattle.servient_rehearsal.specs.Rehearsal.{Rehearses, RehearsesSome}
use Rattle.servient_rehearsal.proofs.NotedLaws.{as_many_shown}
use Rattle.servient_rehearsal.proofs.TurnLaws.{all_taken}
use Rattle.servient_rehearsal.proofs.TakenLaws.{taken_as_sent}

-- ---- the beginning

-- nothing happened, with this client and a servient of this site
abbrev beginning_of : Site → ℕ → Option ℕ → ClientState → Played
beginning_of site exchanges epoch client = record {
  ends = record {
    world = record {
      moment = 0;
      client = client;
      server = (start site exchanges epoch).coap;
      asks = [];
      sent = [];
      acts = [];
      emitted = [];
      ids = 0;
      ends = [];
      taken = [];
    };
    servient = start site exchanges epoch;
  };
  values = [];
}

begins : (site : Site) (exchanges : ℕ) (epoch : Option ℕ) (client : ClientState) → IsNew client.next_id client → IsBeginning site client.next_id exchanges (beginning_of site exchanges epoch client).ends
begins site exchanges epoch client new = record {
  epoch = epoch;
  world = record { client = new; links = text_of_links (segments_of site); server = refl; asks = refl; sent = refl; acts = refl; emitted = refl; ids = refl; ends = refl; taken = refl };
  server = refl;
  servient = refl;
}

begins_noted : (servient : Layers) (exchanges : ℕ) (epoch : Option ℕ) (client : ClientState) (notes : Notes) → StandsFor servient (start servient.exposed.site exchanges epoch) → noted_of notes.world ≡ nothing_noted → notes.registered ≡ 0
    → AreNoted (kept servient client notes) (beginning_of servient.exposed.site exchanges epoch client)
begins_noted servient exchanges epoch client notes stands noted registered = record {
  left = record { servient = stands; client = refl };
  shown = record {
    moment = ap (λ (x : Noted). x.moment) noted;
    sent = ap (λ (x : Noted). x.sent) noted;
    asks = ap (λ (x : Noted). x.asks) noted;
    ends = ap (λ (x : Noted). x.ends) noted;
    taken = ap (λ (x : Noted). x.taken) noted;
  };
  registered = registered;
}

-- ---- how asks ended

end_answered : (e : EndInWorld) (code : ℕ) (block : Option Block) (payload : List ℕ) → shown_end e ≡ end.Answered code block payload → e ≡ answered code block payload
end_answered (answered c b p) code block payload is =
    let one : c ≡ code = cc in let two : b ≡ block = cc in let three : p ≡ payload = cc in λ i. answered (one i) (two i) (three i)
end_answered observed code block payload is = absurd (cc)
end_answered reset code block payload is = absurd (cc)
end_answered timed_out code block payload is = absurd (cc)

end_observed : (e : EndInWorld) → shown_end e ≡ end.Observed → e ≡ observed
end_observed (answered c b p) is = absurd (cc)
end_observed observed is = refl
end_observed reset is = absurd (cc)
end_observed timed_out is = absurd (cc)

end_at : (ends : List AskEndInWorld) (i : ℕ) (s : AskEnd) → slice_get (shown_ends ends) i ≡ Some s
    → (e : AskEndInWorld) × (slice_get ends i ≡ Some e) × (record { ask = e.ask; end = shown_end e.end } ≡ s)
end_at [] i s at = absurd (cc)
end_at (e ∷ ends) zero s at = (e, refl, same_Some (record { ask = e.ask; end = shown_end e.end }) s at)
end_at (e ∷ ends) (suc i) s at = end_at ends i s at

-- an end that is shown is one of the world
ended_in_world : (ends : List AskEndInWorld) (k : ℕ) (e : End) (x : EndInWorld) → ((y : EndInWorld) → shown_end y ≡ e → y ≡ x)
    → Contains (shown_ends ends) (record { ask = k; end = e }) → Contains ends (record { ask = k; end = x })
ended_in_world ends k e x back has =
    let shown : slice_get (shown_ends ends) has.0 ≡ Some (record { ask = k; end = e }) = slice_get-get_or (shown_ends ends) has.0 (record { ask = k; end = e }) has.1 ∙ ap (λ (y : AskEnd). Some y) has.2 in
    let there = end_at ends has.0 (record { ask = k; end = e }) shown in
    let same : there.0 ≡ record { ask = k; end = x }
    = (let one : there.0.ask ≡ k = ap (λ (y : AskEnd). y.ask) there.2 in let two : there.0.end ≡ x = back there.0.end (ap (λ (y : AskEnd). y.end) there.2) in (λ i. record { ask = one i; end = two i })) in
    let at : slice_get ends has.0 ≡ Some (record { ask = k; end = x }) = there.1 ∙ ap (λ (y : AskEndInWorld). Some y) same in
    (has.0, slice_get_within ends has.0 (record { ask = k; end = x }) at, get_or_from_slice_get ends has.0 (record { ask = k; end = x }) (record { ask = k; end = x }) at)

-- ---- what came of the moves

-- the asks that are noted are those of the world
few_asks : (w : World) (p : Played) → IsShown (noted_of w) p → length w.asks.items ≤ 65536 → length p.ends.world.asks ≤ 65536
few_asks w p shown few = let count = ap length shown.asks ∙ as_many_shown 0 p.ends.world.asks in omega arith

pub rehearsed : (servient after : Layers) (exchanges : ℕ) (epoch : Option ℕ) (client t : ClientState) (moves : List Move) (notes then_notes : Notes) (before shown : List Seen)
    → StandsFor servient (start servient.exposed.site exchanges epoch) → IsNew client.next_id client → noted_of notes.world ≡ nothing_noted → notes.registered ≡ 0
    → PlaysMoves servient.exposed.site moves (kept servient client notes) (kept after t then_notes) before shown
    → Rehearses servient.exposed.site moves servient after client t before shown then_notes.world
rehearsed servient after exchanges epoch client t moves notes then_notes before shown stands new noted registered plays =
    let site : Site = servient.exposed.site in
    let from : Played = beginning_of servient.exposed.site exchanges epoch client in
    let a = plays (beginning_of servient.exposed.site exchanges epoch client) (begins_noted servient exchanges epoch client notes stands noted registered) in
    let to : Played = a.0 in
    let begin : IsBeginning servient.exposed.site client.next_id exchanges (beginning_of servient.exposed.site exchanges epoch client).ends = begins servient.exposed.site exchanges epoch client new in
    let all = all_taken servient.exposed.site (map turn_of moves) from a.2.seen a.0 a.2.move in
    let few : length then_notes.world.asks.items ≤ 65536 → length a.0.ends.world.asks ≤ 65536 = few_asks then_notes.world a.0 a.1.shown in
    record {
      run = record {
        first_id = client.next_id;
        exchanges = exchanges;
        from = from;
        beginning = begin;
        servient_was = stands;
        client_was = refl;
        none_taken = refl;
        to = a.0;
        seen = a.2.seen;
        turns = a.2.move;
        servient_is = a.1.left.servient;
        client_is = a.1.left.client;
        rack = a.2.shows;
      };
      shown = a.1.shown;
      acts_once = servient_acts_once site client.next_id exchanges (map turn_of moves) from.ends a.0.ends begin all;
      answers_once = λ k code block payload low no_links no_blocks has.
          servient_answers_once site client.next_id exchanges (map turn_of moves) from.ends a.0.ends k code block payload begin all (few low) no_links no_blocks
          (ended_in_world a.0.ends.world.ends k (end.Answered code block payload) (answered code block payload) (λ y is. end_answered y code block payload is)
          (subst (λ (l : List AskEnd). Contains l (record { ask = k; end = end.Answered code block payload })) a.1.shown.ends has));
      observes_once = λ k low has.
          servient_observes_once site client.next_id exchanges (map turn_of moves) from.ends a.0.ends k begin all (few low)
          (ended_in_world a.0.ends.world.ends k end.Observed observed end_observed (subst (λ (l : List AskEnd). Contains l (record { ask = k; end = end.Observed })) a.1.shown.ends has));
      taken = λ low. a.1.shown.taken ∙ taken_as_sent site client.next_id exchanges (map turn_of moves) from a.2.seen a.0 begin refl a.2.move (few low);
      sources = λ low. servient_values_have_a_source site client.next_id exchanges (map turn_of moves) from.ends a.0.ends begin all (few low);
      order = λ low ids. servient_values_never_go_back site client.next_id exchanges (map turn_of moves) from.ends a.0.ends begin all (few low) ids;
      reads = λ path szx x row low are in_order no_other.
          servient_reads_one_act site client.next_id exchanges (map turn_of moves) from.ends a.0.ends path szx x row begin all (few low) are in_order no_other;
      writes = λ code path szx x row low write are in_order no_other.
          servient_writes_one_act site client.next_id exchanges (map turn_of moves) from.ends a.0.ends code path szx x row begin all (few low) write are in_order no_other;
    }

pub rehearsed_some : (servient after : Layers) (exchanges : ℕ) (epoch : Option ℕ) (client t : ClientState) (moves : List Move) (notes then_notes : Notes) (before shown : List Seen)
    → StandsFor servient (start servient.exposed.site exchanges epoch) → IsNew client.next_id client → noted_of notes.world ≡ nothing_noted → notes.registered ≡ 0
    → PlaysSomeMoves servient.exposed.site moves (kept servient client notes) (kept after t then_notes) before shown
    → RehearsesSome servient.exposed.site moves servient after client t before shown
rehearsed_some servient after exchanges epoch client t moves notes then_notes before shown stands new noted registered plays =
    let a = plays (beginning_of servient.exposed.site exchanges epoch client) (begins_noted servient exchanges epoch client notes stands noted registered) in (
      a.0,
      a.1,
      a.2,
      record {
        first_id = client.next_id;
        exchanges = exchanges;
        from = beginning_of servient.exposed.site exchanges epoch client;
        beginning = begins servient.exposed.site exchanges epoch client new;
        servient_was = stands;
        client_was = refl;
        none_taken = refl;
        to = a.3;
        seen = a.5.seen;
        turns = a.5.move;
        servient_is = a.4.servient;
        client_is = a.4.client;
        rack = a.5.shows;
      },
    )
