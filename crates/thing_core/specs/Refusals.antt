-- The refusals of a request before any handler is called.
use Rattle.std.specs.Prelude.{◌≡◌, ◌≤◌, List, [], ◌∷◌, ◌++◌, Option, None, option_and_then, IsTrue}
use Rattle.thing_ops.specs.declared.outcome.Outcome.{Outcome}
use Rattle.thing_ops.specs.declared.outcome.Outcome.TheVariants as outcome
use Rattle.thing_ops.specs.declared.allow.Allow.{Allow}
use Rattle.thing_ops.specs.declared.conditions.Conditions.{Conditions}
use Rattle.thing_ops.specs.Conditions.{fails_to_write}
use Rattle.thing_ops.specs.Requests.{RequestSeen}
use Rattle.thing_ops.specs.Routes.{route_of}
use Rattle.thing_ops.specs.Verbs.{verbs_in, verbs_of}
use Rattle.thing_site.specs.Site.{Site}
use Rattle.thing_site.specs.Places.{act_at, flags_of}
use Rattle.thing_site.specs.declared.place.Resource.{Resource}
use Rattle.thing_site.specs.declared.place.ThingAct.{ThingAct}
use Rattle.thing_site.specs.declared.place.ThingAct.TheVariants as act
use Rattle.thing_site.specs.Refusals.{Refusal, nothing_there, verb_not_taken, condition_failed, no_invocation_left, refusals_by_request, Holding, StandsByRequest, IsAnswer, IsFirst, IsNone}
use Rattle.thing_state.specs.State.{State, running_count, most_invocations, tag_of}
use Rattle.thing_state.specs.Places.{place_of}

-- A property would be written whose version isn't what the request asks for. Its version before the call counts, so
-- that a client that read it first loses nobody's write (RFC 9110, section 13.1.1); where nothing was seen of it in this
-- run, it has none that a tag names. Of all else that is written no condition is looked at, and one property's read is
-- judged after its call.
abbrev pub HasFailedCondition : State → Conditions → ThingAct → Type 0
HasFailedCondition s c (act.Writes p) = IsTrue (fails_to_write c (tag_of p.slot s.versions))
HasFailedCondition s c act = ⊥

-- as many invocations run as may
abbrev pub HasNoInvocationLeft : State → ThingAct → Type 0
HasNoInvocationLeft s (act.Invokes p) = most_invocations ≤ running_count s.invocations
HasNoInvocationLeft s act = ⊥

-- ---- the refusals

-- a request, where and when it is asked
pub record Asked : Type 0 where
  pub site : Site
  pub state : State
  pub request : RequestSeen

abbrev pub place_asked : Asked → Option Resource
place_asked a = place_of a.request.path a.site a.state.invocations

abbrev pub act_asked : Asked → Option ThingAct
act_asked a = option_and_then (λ place. act_at (route_of a.request.path) place a.request.verb) (place_asked a)

-- Those against an act that is there, apart from the two before it: code that judges an act says what it finds of that
-- act, and one lemma puts it after "nothing is there" and "the verb isn't taken". A further refusal is one more line.
abbrev pub refusals_of_acts : List Refusal
refusals_of_acts = refusals_by_request ++ condition_failed ∷ no_invocation_left ∷ []

-- All of them, in the order in which they are judged.
abbrev pub refusals : List Refusal
refusals = nothing_there ∷ verb_not_taken ∷ refusals_of_acts

-- each of them holds of an act that is asked for
abbrev pub StandsAgainst : Refusal → ThingAct → State → RequestSeen → Type 0
-- a property would be written that isn't of a version that the request asks for
StandsAgainst condition_failed act s q = HasFailedCondition s q.conditions act
-- an action would be invoked, and no further invocation may run
StandsAgainst no_invocation_left act s q = HasNoInvocationLeft s act
StandsAgainst r act s q = StandsByRequest r act q

-- each of them holds
abbrev pub Stands : Refusal → Asked → Type 0
-- there is nothing at the path
Stands nothing_there a = place_asked a ≡ None
-- the place doesn't take the verb
Stands verb_not_taken a = act_asked a ≡ None
Stands r a = Holding (λ act. StandsAgainst r act a.state a.request) (act_asked a)

-- the verbs that are taken at a place are those of the table, with the flags of the property that it is
abbrev pub ListsVerbs : Allow → Asked → Type 0
ListsVerbs allow a = Holding (λ place. verbs_in allow ≡ verbs_of (route_of a.request.path) (flags_of place)) (place_asked a)

-- the answer to each of them
abbrev pub IsAnsweredWith : Refusal → Asked → Outcome → Type 0
IsAnsweredWith nothing_there a o = o ≡ outcome.NotFound
IsAnsweredWith verb_not_taken a o = (allow : Allow) × ListsVerbs allow a × (o ≡ outcome.NotAllowed allow)
IsAnsweredWith r a o = IsAnswer r o

-- a request is refused by these, with this outcome
abbrev pub IsRefusedBy : List Refusal → Asked → Outcome → Type 0
IsRefusedBy rs a o = IsFirst (λ r. Stands r a) (λ r. IsAnsweredWith r a) rs o

abbrev pub NoneStands : List Refusal → Asked → Type 0
NoneStands rs a = IsNone (λ r. Stands r a) rs
