-- A rehearsal is a run of the world of both ends, from its beginning, which the real objects made. The laws of that
-- world hold of it. Those of rows speak of the ends of asks in the world, of which the notes show this (`shown`).
use Rattle.std.specs.Prelude.{◌≡◌, ◌≤◌, ◌⊎◌, ℕ, List, [], ◌∷◌, ◌++◌, length, map, Contains, Option}
use Rattle.servient_base.specs.Moves.{Each}
use Rattle.coap_msg.specs.declared.block.Block.{Block}
use Rattle.coap_client.specs.declared.state.State.{State as ClientState}
use Rattle.thing_handler.specs.Handler.{Seen}
use Rattle.thing_handler.specs.Turns.{RackShows}
use Rattle.servient_trace.specs.Trace.{Sighting, calls_in}
use Rattle.servient_core.specs.Machine.{Site, start}
use Rattle.servient_core.specs.Serving.{StandsFor}
use Rattle.servient_core.specs.declared.layers.Layers.{Layers}
use Rattle.servient_world.specs.World.{Act}
use Rattle.servient_world.specs.Laws.{AreForDifferentAsks, AsksLinks, AsksOfBlocks, IsExcuse, IsAnsweredBy, NeverGoBack, HaveASource}
use Rattle.servient_world.specs.Rows.{RowAsk, AreInOrder, NoOther, IsOfPath, AreReads, AreOfOneAct, IsWrite, IsOfCodeAndPath, AreWrites, IsOneAct}
use Rattle.servient_ends.specs.Ends.{IsBeginning}
use Rattle.servient_rehearsal.specs.declared.moves.Move.{Move}
use Rattle.servient_rehearsal.specs.declared.world.World.{World}
use Rattle.servient_rehearsal.specs.declared.world.End.TheVariants as end
use Rattle.servient_rehearsal.specs.Moves.{turn_of}
use Rattle.servient_rehearsal.specs.Noted.{noted_of, shown_values}
use Rattle.servient_rehearsal.specs.Turns.{Played, TakesTurn}
use Rattle.servient_rehearsal.specs.Playing.{IsShown}

-- a servient as it was made
abbrev pub IsUnused : Layers → Type 0
IsUnused servient = (exchanges : ℕ) × (epoch : Option ℕ) × StandsFor servient (start servient.exposed.site exchanges epoch)

-- A run by these moves, from a new world which the real objects stood for, to one that they stand for as they are left.
-- The rack shows the calls of handlers in its trace.
pub record IsRun (site : Site) (moves : List Move) (old_servient servient : Layers) (old new : ClientState) (before after : List Seen) : Type 0 where
  pub first_id : ℕ
  pub exchanges : ℕ
  pub from : Played
  pub beginning : IsBeginning site first_id exchanges from.ends
  pub servient_was : StandsFor old_servient from.ends.servient
  pub client_was : from.ends.world.client ≡ old
  pub none_taken : from.values ≡ []
  pub to : Played
  pub seen : List Sighting
  pub turns : Each (TakesTurn site) (map turn_of moves) from seen to
  pub servient_is : StandsFor servient to.ends.servient
  pub client_is : to.ends.world.client ≡ new
  pub rack : RackShows before after (calls_in seen)

-- The outcome of the moves is seen of such a run, and more holds of it.
pub record Rehearses (site : Site) (moves : List Move) (old_servient servient : Layers) (old new : ClientState) (before after : List Seen) (w : World) : Type 0 where
  pub run : IsRun site moves old_servient servient old new before after
  pub shown : IsShown (noted_of w) run.to
  -- For each ask the servient made at most one act.
  pub acts_once : AreForDifferentAsks run.to.ends.world.acts
  -- For an ask for another path than that of the links, without a block of its body and without one after the first of
  -- the response, which ended with a response that is no excuse it made one, and the response says what that came to.
  pub answers_once : (k code : ℕ) (block : Option Block) (payload : List ℕ) → length w.asks.items ≤ 65536
      → ¬ (AsksLinks run.to.ends.world.asks k) → ¬ (AsksOfBlocks run.to.ends.world.asks k)
      → Contains w.ends.items (record { ask = k; end = end.Answered code block payload })
      → IsExcuse code payload ⊎ IsAnsweredBy run.to.ends.world.acts k code block payload
  -- For an ask that ended with a value of what it observes it made one.
  pub observes_once : (k : ℕ) → length w.asks.items ≤ 65536 → Contains w.ends.items (record { ask = k; end = end.Observed })
      → (x : Act) × Contains run.to.ends.world.acts x × (x.ask ≡ k)
  -- The values that were taken are those of the world, each with the ask for which it was sent.
  pub taken : length w.asks.items ≤ 65536 → w.taken.items ≡ shown_values run.to.ends.world.taken
  -- Each was read by the act for its ask, or emitted for the target of that act.
  pub sources : length w.asks.items ≤ 65536 → HaveASource run.to.ends.world.acts run.to.ends.world.emitted run.to.ends.world.taken
  -- For one ask none is of an earlier emission than one before it, and the one that was read comes first.
  pub order : length w.asks.items ≤ 65536 → run.to.ends.world.ids ≤ 65536 → NeverGoBack run.to.ends.world.taken
  -- A row of asks for the blocks of one body read of one act, or of the links of the servient.
  pub reads : (path : List (List ℕ)) (szx : ℕ) (x : RowAsk) (row : List RowAsk) → length w.asks.items ≤ 65536
      → AreReads run.to.ends.world.asks run.to.ends.world.ends path szx 0 (x ∷ row) → AreInOrder (x ∷ row)
      → NoOther run.to.ends.world.asks (IsOfPath path) x row → AreOfOneAct path run.to.ends.world x row
  -- A row of asks with the blocks of one body was acted on once, whole.
  pub writes : (code : ℕ) (path : List (List ℕ)) (szx : ℕ) (x : RowAsk) (row : List RowAsk) → length w.asks.items ≤ 65536 → IsWrite code
      → AreWrites run.to.ends.world.asks run.to.ends.world.ends code path szx 0 (x ∷ row) → AreInOrder (x ∷ row)
      → NoOther run.to.ends.world.asks (IsOfCodeAndPath code path) x row → IsOneAct run.to.ends.world x row

-- Out of memory: both ends are left as a run by a first part of the moves leaves them.
abbrev pub RehearsesSome : Site → List Move → Layers → Layers → ClientState → ClientState → List Seen → List Seen → Type 0
RehearsesSome site moves old_servient servient old new before after =
    (some rest : List Move) × (moves ≡ some ++ rest) × IsRun site some old_servient servient old new before after
