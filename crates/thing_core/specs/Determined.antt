-- The outcome of a request is determined by the state, the request, and what the handlers answer.
use Rattle.std.specs.Prelude.{◌≡◌, ◌≢◌, ℕ, List, [], ◌∷◌}
use Rattle.thing_ops.specs.declared.outcome.Outcome.TheVariants as outcome
use Rattle.thing_ops.specs.Requests.{RequestSeen}
use Rattle.thing_handler.specs.declared.handler.Answer.{Answer}
use Rattle.thing_handler.specs.Turns.{HandlerCall, answered, missed}
use Rattle.thing_site.specs.Site.{Site}
use Rattle.thing_state.specs.State.{State}
use Rattle.thing_core.specs.Thing.{Done, Acts}

-- each turn among some calls has the answer that is given for its number
abbrev pub AreAnsweredBy : (ℕ → Answer) → List HandlerCall → Type 0
AreAnsweredBy answers [] = Unit {0}
AreAnsweredBy answers (answered turn ∷ calls) = (turn.answer ≡ answers turn.number) × AreAnsweredBy answers calls
AreAnsweredBy answers (missed slot ∷ calls) = AreAnsweredBy answers calls

-- a request for which a handler or the machine was out of memory has that outcome, and no other
abbrev pub HadMemory : Done → Type 0
HadMemory done = done.outcome ≢ outcome.Memory

-- One request is done twice from one state, with the same answers and never out of memory: then its calls, its outcome,
-- what it emits and the state afterwards are the same.
abbrev pub IsDetermined : Site → RequestSeen → Type 0
IsDetermined site q =
    (answers : ℕ → Answer) (done other : Done) (s t u : State) (calls more : List HandlerCall)
    → Acts site q done s calls t → Acts site q other s more u → AreAnsweredBy answers calls → AreAnsweredBy answers more → HadMemory done → HadMemory other
    → (calls ≡ more) × (done ≡ other) × (t ≡ u)
