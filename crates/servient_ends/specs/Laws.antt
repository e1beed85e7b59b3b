-- Laws of both ends where the server is the whole servient, over every list of turns.
use Rattle.std.specs.Prelude.{◌≡◌, ◌≤◌, ◌⊎◌, ℕ, List, ◌∷◌, length, Contains, Option}
use Rattle.coap_msg.specs.declared.block.Block.{Block}
use Rattle.servient_outside.specs.declared.net.EventWithBytes.{EventWithBytes}
use Rattle.servient_trace.specs.Trace.{Sighting}
use Rattle.servient_core.specs.Machine.{Site, start, Run}
use Rattle.servient_world.specs.World.{WorldMove, Act, answered, observed, PlaysAll}
use Rattle.servient_world.specs.Laws.{AreForDifferentAsks, AsksLinks, AsksOfBlocks, IsExcuse, IsAnsweredBy, NeverGoBack, HaveASource}
use Rattle.servient_world.specs.Rows.{RowAsk, AreInOrder, NoOther, IsOfPath, AreReads, AreOfOneAct, IsWrite, IsOfCodeAndPath, AreWrites, IsOneAct}
use Rattle.servient_ends.specs.Ends.{EndsState, IsBeginning, Turn, TakesAll, datagrams_in, sent_by_servient}

-- Whatever comes of turns is what comes of some moves of the world, in which the server is a CoAP server alone.
abbrev pub TurnsAreMoves : Type 0
TurnsAreMoves =
    (site : Site) (first_id exchanges : ℕ) (turns : List Turn) (p q : EndsState) → IsBeginning site first_id exchanges p → TakesAll site turns p q
    → (moves : List WorldMove) × PlaysAll moves p.world q.world

-- The servient meanwhile makes a run of its machine, and the trace of that run has the datagrams that it sent in the
-- world.
abbrev pub ServientRuns : Type 0
ServientRuns =
    (site : Site) (first_id exchanges : ℕ) (turns : List Turn) (p q : EndsState) (begins : IsBeginning site first_id exchanges p) → TakesAll site turns p q
    → (events : List EventWithBytes) × (seen : List Sighting) × Run site events (start site exchanges begins.epoch) seen q.servient
    × (sent_by_servient q.world.sent ≡ datagrams_in seen)

-- For each ask the servient makes at most one act.
abbrev pub ServientActsOnce : Type 0
ServientActsOnce =
    (site : Site) (first_id exchanges : ℕ) (turns : List Turn) (p q : EndsState) → IsBeginning site first_id exchanges p → TakesAll site turns p q
    → AreForDifferentAsks q.world.acts

-- For an ask for another path than that of the links, without a block of its body and without one after the first of
-- the response, which ended with a response that is no excuse it made an act, and the response says what that came to.
abbrev pub ServientAnswersOnce : Type 0
ServientAnswersOnce =
    (site : Site) (first_id exchanges : ℕ) (turns : List Turn) (p q : EndsState) (k code : ℕ) (block : Option Block) (payload : List ℕ)
    → IsBeginning site first_id exchanges p → TakesAll site turns p q → length q.world.asks ≤ 65536
    → ¬ (AsksLinks q.world.asks k) → ¬ (AsksOfBlocks q.world.asks k) → Contains q.world.ends (record { ask = k; end = answered code block payload })
    → IsExcuse code payload ⊎ IsAnsweredBy q.world.acts k code block payload

-- For an ask that ended with a value of what it observes it made an act.
abbrev pub ServientObservesOnce : Type 0
ServientObservesOnce =
    (site : Site) (first_id exchanges : ℕ) (turns : List Turn) (p q : EndsState) (k : ℕ)
    → IsBeginning site first_id exchanges p → TakesAll site turns p q → length q.world.asks ≤ 65536
    → Contains q.world.ends (record { ask = k; end = observed }) → (x : Act) × Contains q.world.acts x × (x.ask ≡ k)

-- Values of the servient's Things never go back.
abbrev pub ServientValuesNeverGoBack : Type 0
ServientValuesNeverGoBack =
    (site : Site) (first_id exchanges : ℕ) (turns : List Turn) (p q : EndsState) → IsBeginning site first_id exchanges p → TakesAll site turns p q
    → length q.world.asks ≤ 65536 → q.world.ids ≤ 65536 → NeverGoBack q.world.taken

-- Each value that the client takes was read by the act for its ask, or emitted by the servient's Things.
abbrev pub ServientValuesHaveASource : Type 0
ServientValuesHaveASource =
    (site : Site) (first_id exchanges : ℕ) (turns : List Turn) (p q : EndsState) → IsBeginning site first_id exchanges p → TakesAll site turns p q
    → length q.world.asks ≤ 65536 → HaveASource q.world.acts q.world.emitted q.world.taken

-- A row of asks for the blocks of one body reads of one act, or of the links of the servient.
abbrev pub ServientReadsOneAct : Type 0
ServientReadsOneAct =
    (site : Site) (first_id exchanges : ℕ) (turns : List Turn) (p q : EndsState) (path : List (List ℕ)) (szx : ℕ) (x : RowAsk) (row : List RowAsk)
    → IsBeginning site first_id exchanges p → TakesAll site turns p q → length q.world.asks ≤ 65536
    → AreReads q.world.asks q.world.ends path szx 0 (x ∷ row) → AreInOrder (x ∷ row) → NoOther q.world.asks (IsOfPath path) x row
    → AreOfOneAct path q.world x row

-- A row of asks with the blocks of one body is acted on once, whole.
abbrev pub ServientWritesOneAct : Type 0
ServientWritesOneAct =
    (site : Site) (first_id exchanges : ℕ) (turns : List Turn) (p q : EndsState) (code : ℕ) (path : List (List ℕ)) (szx : ℕ) (x : RowAsk) (row : List RowAsk)
    → IsBeginning site first_id exchanges p → TakesAll site turns p q → length q.world.asks ≤ 65536
    → IsWrite code → AreWrites q.world.asks q.world.ends code path szx 0 (x ∷ row) → AreInOrder (x ∷ row)
    → NoOther q.world.asks (IsOfCodeAndPath code path) x row → IsOneAct q.world x row
