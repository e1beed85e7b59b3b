-- The promise of performing a request: a move of the Thing machine, which the rack shows.
use Rattle.std.specs.Prelude.{◌≡◌, ◌<◌, ◌≤◌, ◌+◌, ◌⊎◌, ℕ, List, [], ◌∷◌, ◌++◌, map, length, Bool, true, false, Option, Some, None, Result, Ok, Err, codes, nat_lt, IfSome, IsSome, if◌then◌else◌}
use Rattle.std.specs.List.{AllByRecursion}
use Rattle.servient_base.specs.Moves.{Makes}
use Rattle.wot_json.specs.Tree.{Json, members_of}
use Rattle.wot_json.specs.Json.{text_of, json_string, members_text}
use Rattle.wot_json.specs.Meaning.{json_of}
use Rattle.wot_json.specs.declared.tree.Tree.{Tree}
use Rattle.thing_ops.specs.declared.outcome.Outcome.{Outcome}
use Rattle.thing_ops.specs.declared.outcome.Outcome.TheVariants as outcome
use Rattle.thing_ops.specs.declared.conditions.Conditions.{Conditions}
use Rattle.thing_ops.specs.Requests.{RequestSeen}
use Rattle.thing_handler.specs.declared.handler.Answer.{Answer}
use Rattle.thing_handler.specs.declared.handler.Answer.TheVariants as answer
use Rattle.thing_handler.specs.Handler.{Seen}
use Rattle.thing_handler.specs.Turns.{HandlerCall, RackShows}
use Rattle.thing_core.specs.declared.admitting.Task.{Task}
use Rattle.thing_site.specs.Site.{Placed}
use Rattle.thing_state.specs.State.{State, Emission, Invocation, completed, running, status_text, invocation_named, running_count, most_invocations}
use Rattle.thing_state.specs.Course.{Course}
use Rattle.thing_site.specs.declared.place.ThingAct.{ThingAct}
use Rattle.thing_site.specs.declared.place.ThingAct.TheVariants as act
use Rattle.thing_site.specs.Refusals.{Input, longest_value, inputs_of, IsAnswer, IsFirst, IsNone}
use Rattle.thing_core.specs.Refusals.{Asked, HasFailedCondition, HasNoInvocationLeft, act_asked, refusals, refusals_of_acts, StandsAgainst, IsRefusedBy, NoneStands}
use Rattle.thing_state.specs.Calls.{Move, Called, gives, IsTaken}
use Rattle.thing_core.specs.Thing.{Done, only, Decides, GivesValue, Answers, WritesEach, ReadsEach, PollsEach, Polls, emissions_of_write, place_of_invocation, IsInvoked, IsQueried, IsCancelled, Acts}
use Rattle.thing_core.specs.Kept.{Kept}

-- ---- judging a request

-- nothing is against an act, and this is handed in
abbrev pub IsFree : ThingAct → State → RequestSeen → List Input → Type 0
IsFree act s q inputs = (inputs_of act q.body ≡ Some inputs) × IsNone (λ r. StandsAgainst r act s q) refusals_of_acts

-- an act is refused as things stand
abbrev pub IsRefusedByState : State → Conditions → ThingAct → Outcome → Type 0
IsRefusedByState s c act o =
    (HasFailedCondition s c act × (o ≡ outcome.PreconditionFailed))
    ⊎ ((¬ (HasFailedCondition s c act)) × HasNoInvocationLeft s act × (o ≡ outcome.InvocationsFull))

-- an act is refused, or it is out of memory
abbrev pub IsActRefused : ThingAct → State → RequestSeen → Outcome → Type 0
IsActRefused act s q o = (o ≡ outcome.Memory) ⊎ IsFirst (λ r. StandsAgainst r act s q) IsAnswer refusals_of_acts o

-- a request is admitted, with its act and what is handed in; or it is refused, or out of memory
abbrev pub IsAdmitted : Asked → Result Task Outcome → Type 0
IsAdmitted a (Ok task) =
    (act_asked a ≡ Some task.act)
    × (inputs_of task.act a.request.body ≡ Some task.inputs.items)
    × NoneStands refusals a
IsAdmitted a (Err o) = (o ≡ outcome.Memory) ⊎ IsRefusedBy refusals a o

-- ---- the slots of what is called

-- these affordances have slots of a rack of n
abbrev pub AllStand : ℕ → List Placed → Type 0
AllStand count ps = AllByRecursion (λ p. p.slot < count) ps

-- the affordances that an act may call the handlers of
abbrev pub affordances_of_act : ThingAct → List Placed
affordances_of_act (act.Describes thing) = []
affordances_of_act (act.ReadsAll thing) = thing.affordances
affordances_of_act (act.WritesMany thing) = thing.affordances
affordances_of_act (act.Reads p) = p ∷ []
affordances_of_act (act.Writes p) = p ∷ []
affordances_of_act (act.Invokes p) = p ∷ []
affordances_of_act (act.Queries p id) = p ∷ []
affordances_of_act (act.Cancels p id) = p ∷ []
affordances_of_act (act.ReadsEvent p) = []
affordances_of_act (act.Waits p) = []

-- each input has such a slot, and is no longer than is taken
abbrev pub InputsFit : ℕ → List Input → Type 0
InputsFit count inputs = AllByRecursion (λ i. (i.affordance.slot < count) × (length (text_of i.value) ≤ longest_value)) inputs

-- ---- acting

-- an act was done, with this outcome; its emissions wait to be handed out after those that were
pub record MakesDone (move : Done → Move) (o : Outcome) (old new : Course) (before after : List Seen) : Type 0 where
  pub done : Done
  pub outcome : done.outcome ≡ o
  pub pending : new.pending ≡ old.pending ++ map (λ e. e.target) done.emissions
  pub made : Makes RackShows (move done) old.state new.state before after

-- the act is done, or it was out of memory before any call
abbrev pub OrMemory : (Done → Move) → Done → Move
OrMemory P done s seen t = P done s seen t ⊎ Answers outcome.Memory done s seen t

-- it is this, or it was out of memory
abbrev pub IsOrMemory : Outcome → Outcome → Type 0
IsOrMemory o result = (result ≡ o) ⊎ (result ≡ outcome.Memory)

-- A part of some moves was made: for all that follows, the whole is what was seen so far and then that. Loops over
-- properties and events keep it, and the law of two parts is proved once.
pub record Leads {I : Type 0} (rest whole : I → Move) (s mid : State) (before after : List Seen) : Type 0 where
  pub seen : List HandlerCall
  pub shows : RackShows before after seen
  pub leads : (i : I) (later : List HandlerCall) (t : State) → rest i mid later t → whole i s (seen ++ later) t

-- ---- reading

-- the value that a call for one gave, or the outcome
abbrev pub IsValueOf : Called → Result Tree Outcome → Type 0
IsValueOf called (Ok value) = called ≡ gives (answer.Value value)
IsValueOf called (Err o) = (schema : Option Json) → GivesValue schema called (Err o)

-- the text of an object so far, whose members are these
abbrev pub open_object : List (List ℕ × Json) → List ℕ
open_object members = codes "{" ++ members_text (members_of members)

-- the same with a further member, by its name's text and its value's
abbrev pub with_member : List ℕ → List ℕ → List ℕ → List ℕ
with_member text name value = text ++ (if nat_lt 1 (length text) then codes "," else []) ++ name ++ codes ":" ++ value

-- the most bytes of an object that has these properties with the longest values
abbrev pub room_of_all : List Placed → ℕ
room_of_all [] = 2
room_of_all (p ∷ ps) = room_of_all ps + (length (json_string p.affordance.name) + (longest_value + 2))

-- a property was read after others: its value is a further member, or it stops there
abbrev pub ReadsOne : Placed → Option Outcome → List ℕ → List ℕ → Course → Course → List Seen → List Seen → Type 0
ReadsOne p None text after_text old new before after =
    (members : List (List ℕ × Json)) → text ≡ open_object members →
    (value : Json) × (after_text ≡ open_object (members ++ (p.affordance.name, value) ∷ []))
    × ((ps : List Placed) → Leads (ReadsEach ps (members ++ (p.affordance.name, value) ∷ [])) (ReadsEach (p ∷ ps) members) old.state new.state before after)
ReadsOne p (Some o) text after_text old new before after =
    (ps : List Placed) (members : List (List ℕ × Json)) → Makes RackShows (ReadsEach (p ∷ ps) members (only o)) old.state new.state before after

-- ---- writing

-- the device did what it was asked
abbrev pub is_done : Called → Bool
is_done (gives answer.Done) = true
is_done called = false

-- the emissions of an observable property when this text is written to it
abbrev pub emissions_of_text : Placed → List ℕ → List Emission
emissions_of_text p text = if p.affordance.observable then record { target = p.slot; text = text } ∷ [] else []

-- a property was written after others: its emission waits to be handed out, or it stops there
abbrev pub WritesOne : Input → Option Outcome → Course → Course → List Seen → List Seen → Type 0
WritesOne i None old new before after =
    (new.pending ≡ old.pending ++ map (λ e. e.target) (emissions_of_write i))
    × ((inputs : List Input) (emitted : List Emission)
    → Leads (WritesEach inputs (emitted ++ emissions_of_write i)) (WritesEach (i ∷ inputs) emitted) old.state new.state before after)
WritesOne i (Some o) old new before after =
    (new.pending ≡ old.pending)
    × ((inputs : List Input) (emitted : List Emission)
    → Makes RackShows (WritesEach (i ∷ inputs) emitted (record { outcome = o; emissions = emitted })) old.state new.state before after)

-- ---- polling

-- events were polled, one after another; their emissions wait to be handed out
pub record PollsSome (ps : List Placed) (old new : Course) (before after : List Seen) : Type 0 where
  pub emissions : List Emission
  pub pending : new.pending ≡ old.pending ++ map (λ e. e.target) emissions
  pub leads : (qs : List Placed) → Leads (PollsEach qs) (λ later. PollsEach (ps ++ qs) (emissions ++ later)) old.state new.state before after

-- ---- actions

-- the outcome of an invocation that finished with this output
abbrev pub OutputComesTo : Option Json → Option Tree → Outcome → Type 0
OutputComesTo schema None o = o ≡ outcome.Changed
OutputComesTo schema (Some tree) o = Decides (IsTaken schema (json_of tree)) (outcome.Output (text_of (json_of tree))) outcome.BadAnswer o

-- the effect of an answer, while the emissions stay as they were
abbrev pub SettlesInvocation : Placed → List (List ℕ) → Answer → Outcome → Course → Course → Type 0
SettlesInvocation p place answer o old new =
    ((path : List (List ℕ)) → place ≡ place_of_invocation path old.state.next_invocation
    → IsInvoked p path old.state.next_invocation (only o) (gives answer) old.state [] new.state)
    × (new.pending ≡ old.pending)

abbrev pub SettlesQuery : Placed → ℕ → Answer → Outcome → Course → Course → Type 0
SettlesQuery p id answer o old new = IsQueried p id (only o) (gives answer) old.state [] new.state × (new.pending ≡ old.pending)

abbrev pub SettlesCancel : ℕ → Answer → Outcome → Course → Course → Type 0
SettlesCancel id answer o old new = IsCancelled id (only o) (gives answer) old.state [] new.state × (new.pending ≡ old.pending)

-- an invocation that runs no more was asked about; or it runs, and the room is empty still
abbrev pub IsTold : Option Invocation → ℕ → Result Outcome (List ℕ) → Type 0
IsTold found id (Ok o) =
    (i : Invocation) × (output : Option (List ℕ)) × (found ≡ Some i) × (i.status ≡ completed output) × (o ≡ outcome.Content (status_text id (completed output)) None)
IsTold found id (Err room) = IfSome found (λ i. i.status ≡ running) × (room ≡ [])

-- the demands of an act on the state: the invocation that it is about is there, and where it begins one, a further one
-- may run
abbrev pub MayBeDone : ThingAct → State → Type 0
MayBeDone (act.Invokes p) s = running_count s.invocations < most_invocations
MayBeDone (act.Queries p id) s = IsSome (invocation_named p.slot id s.invocations)
MayBeDone (act.Cancels p id) s = IsSome (invocation_named p.slot id s.invocations)
MayBeDone act s = Unit {0}

-- ---- the outcome of a call

-- a request was performed: a move of the Thing machine; its emissions wait to be handed out
pub record MakesAct (old new : Kept) (q : RequestSeen) (o : Outcome) (before after : List Seen) : Type 0 where
  pub done : Done
  pub outcome : done.outcome ≡ o
  pub pending : new.pending ≡ map (λ e. e.target) done.emissions
  pub site : new.site ≡ old.site
  pub made : Makes RackShows (Acts old.site q done) old.state new.state before after

-- all events were polled: a move of the Thing machine; its emissions wait to be handed out
pub record MakesPolls (old new : Kept) (before after : List Seen) : Type 0 where
  pub emissions : List Emission
  pub pending : new.pending ≡ map (λ e. e.target) emissions
  pub site : new.site ≡ old.site
  pub made : Makes RackShows (Polls old.site emissions) old.state new.state before after
