-- Refusals of acts, and of requests that ask for them.
use Rattle.std.proofs.Common.{◌≡◌, ℕ, ◌≤◌, ◌<◌, List, [], ◌∷◌, ◌++◌, refl, sym, ap, subst, inl, inr, ◌∙◌, arith}
use Rattle.std.specs.Prelude.{Option, Some, None, option_and_then}
use Rattle.thing_ops.specs.declared.outcome.Outcome.{Outcome}
use Rattle.thing_ops.specs.declared.outcome.Outcome.TheVariants as outcome
use Rattle.thing_ops.specs.declared.allow.Allow.{Allow}
use Rattle.thing_ops.specs.declared.routing.RouteKind.{RouteKind}
use Rattle.thing_ops.specs.declared.conditions.Conditions.{Conditions}
use Rattle.thing_ops.specs.Requests.{RequestSeen}
use Rattle.thing_ops.specs.Routes.{route_of}
use Rattle.thing_ops.specs.Verbs.{verbs_in, verbs_of}
use Rattle.thing_site.specs.Refusals.{Input}
use Rattle.thing_site.specs.Places.{act_at, flags_of}
use Rattle.thing_site.specs.declared.place.Resource.{Resource}
use Rattle.thing_site.specs.declared.place.ThingAct.{ThingAct}
use Rattle.thing_site.specs.declared.place.ThingAct.TheVariants as act
use Rattle.thing_site.specs.Site.{Placed}
use Rattle.thing_site.specs.Refusals.{Refusal, condition_failed, no_invocation_left, refusals_by_request, Holding, StandsByRequest, IsAnswer, IsFirst, IsNone}
use Rattle.thing_site.specs.HandedIn.{IsRefusedByRequest, IsUnrefused}
use Rattle.thing_state.specs.State.{State, Invocation, most_invocations, running_count}
use Rattle.thing_state.specs.Places.{place_of}
use Rattle.thing_core.specs.Refusals.{Asked, act_asked, place_asked, refusals, refusals_of_acts, HasFailedCondition, HasNoInvocationLeft, IsRefusedBy, NoneStands, StandsAgainst}
use Rattle.thing_core.specs.Performing.{IsActRefused, IsFree, IsRefusedByState}

-- ---- from the request alone to the state

-- none holds of an act that needs no state
pub act_is_free : (act : ThingAct) (s : State) (q : RequestSeen) (inputs : List Input) → IsUnrefused act q inputs → ¬ (HasFailedCondition s q.conditions act) → ¬ (HasNoInvocationLeft s act)
    → IsFree act s q inputs
act_is_free act s q inputs given met free = (given.0, (given.1.0, (given.1.1.0, (given.1.1.1.0, (given.1.1.1.1.0, (given.1.1.1.1.1.0, (met, (free, tt))))))))

pub act_is_failed : (act : ThingAct) (s : State) (q : RequestSeen) (inputs : List Input) → IsUnrefused act q inputs → HasFailedCondition s q.conditions act
    → IsActRefused act s q outcome.PreconditionFailed
act_is_failed act s q inputs given failed =
    inr (inr (given.1.0, inr (given.1.1.0, inr (given.1.1.1.0, inr (given.1.1.1.1.0, inr (given.1.1.1.1.1.0, inl (failed, refl)))))))

pub act_is_full : (act : ThingAct) (s : State) (q : RequestSeen) (inputs : List Input) → IsUnrefused act q inputs → ¬ (HasFailedCondition s q.conditions act) → HasNoInvocationLeft s act
    → IsActRefused act s q outcome.InvocationsFull
act_is_full act s q inputs given met full =
    inr (inr (given.1.0, inr (given.1.1.0, inr (given.1.1.1.0, inr (given.1.1.1.1.0, inr (given.1.1.1.1.1.0, inr (met, inl (full, refl))))))))

pub act_is_refused_by_state : (act : ThingAct) (s : State) (q : RequestSeen) (inputs : List Input) (o : Outcome) → IsUnrefused act q inputs → IsRefusedByState s q.conditions act o → IsActRefused act s q o
act_is_refused_by_state act s q inputs o given (inl failed) = subst (λ (x : Outcome). IsActRefused act s q x) (sym failed.1) (act_is_failed act s q inputs given failed.0)
act_is_refused_by_state act s q inputs o given (inr full) = subst (λ (x : Outcome). IsActRefused act s q x) (sym full.2) (act_is_full act s q inputs given full.0 full.1)

-- as many invocations run as may, or fewer
pub full_by_count : (s : State) (c : Conditions) (p : Placed) (a : ThingAct) (n : ℕ) → a ≡ act.Invokes p → n ≡ running_count s.invocations → most_invocations ≤ n → IsRefusedByState s c a outcome.InvocationsFull
full_by_count s c p a n is count full =
    let many : most_invocations ≤ running_count s.invocations = omega (arith, count, full) in
    subst (λ (x : ThingAct). IsRefusedByState s c x outcome.InvocationsFull) (sym is) (inr ((λ no. no), many, refl))

pub free_by_count : (s : State) (c : Conditions) (p : Placed) (a : ThingAct) (n : ℕ) → a ≡ act.Invokes p → n ≡ running_count s.invocations → n < most_invocations → (¬ (HasFailedCondition s c a)) × (¬ (HasNoInvocationLeft s a))
free_by_count s c p a n is count fewer =
    let few : ¬ (most_invocations ≤ running_count s.invocations) = λ many. absurd (omega (arith, count, fewer, many)) in
    subst (λ (x : ThingAct). (¬ (HasFailedCondition s c x)) × (¬ (HasNoInvocationLeft s x))) (sym is) ((λ no. no), few)

-- two conditions are the same of these
abbrev Alike : (Refusal → Type 0) → (Refusal → Type 0) → List Refusal → Type 0
Alike S T [] = Unit {0}
Alike S T (r ∷ rs) = ((S r → T r) × (T r → S r)) × Alike S T rs

-- the first of some is the first of those and others after them
first_of_more : (S T : Refusal → Type 0) (rs more : List Refusal) (o : Outcome) → Alike S T rs → IsFirst S IsAnswer rs o → IsFirst T IsAnswer (rs ++ more) o
first_of_more S T [] more o alike first = absurd first
first_of_more S T (r ∷ rs) more o alike (inl here) = inl (alike.0.0 here.0, here.1)
first_of_more S T (r ∷ rs) more o alike (inr further) = inr (λ stands. further.0 (alike.0.1 stands), first_of_more S T rs more o alike.1 further.1)

pub act_is_refused : (act : ThingAct) (s : State) (q : RequestSeen) (o : Outcome) → IsRefusedByRequest act q o → IsActRefused act s q o
act_is_refused act s q o (inl out) = inl out
act_is_refused act s q o (inr first) =
    inr (first_of_more (λ r. StandsByRequest r act q) (λ r. StandsAgainst r act s q) refusals_by_request (condition_failed ∷ no_invocation_left ∷ []) o
    ((λ h. h, λ h. h), ((λ h. h, λ h. h), ((λ h. h, λ h. h), ((λ h. h, λ h. h), ((λ h. h, λ h. h), tt))))) first)

-- ---- a request that asks for an act

there_is_a_place : (a : Asked) (act : ThingAct) → act_asked a ≡ Some act → ¬ (place_asked a ≡ None)
there_is_a_place a act e none =
    let nothing : act_asked a ≡ None = ap (option_and_then (λ place. act_at (route_of a.request.path) place a.request.verb)) none in absurd cc

there_is_an_act : (a : Asked) (act : ThingAct) → act_asked a ≡ Some act → ¬ (act_asked a ≡ None)
there_is_an_act a act e none = absurd cc

-- the first refusal of its act decides
pub act_decides : (a : Asked) (act : ThingAct) (o : Outcome) → act_asked a ≡ Some act → IsFirst (λ r. StandsAgainst r act a.state a.request) IsAnswer refusals_of_acts o → IsRefusedBy refusals a o
act_decides a act o e first =
    inr (
      there_is_a_place a act e,
      inr (
        there_is_an_act a act e,
        subst (λ (x : Option ThingAct). IsFirst (λ r. Holding (λ y. StandsAgainst r y a.state a.request) x) IsAnswer refusals_of_acts o) (sym e) first,
      ),
    )

pub none_stands : (a : Asked) (act : ThingAct) → act_asked a ≡ Some act → IsNone (λ r. StandsAgainst r act a.state a.request) refusals_of_acts → NoneStands refusals a
none_stands a act e none = (
  there_is_a_place a act e,
  (
    there_is_an_act a act e,
    subst (λ (x : Option ThingAct). IsNone (λ r. Holding (λ y. StandsAgainst r y a.state a.request) x) refusals_of_acts) (sym e) none,
  ),
)

-- the place that the code found at the path is the one that is there
pub is_there : (a : Asked) (invocations : List Invocation) (place : Resource) → a.state.invocations ≡ invocations → Some place ≡ place_of a.request.path a.site invocations → place_asked a ≡ Some place
is_there a invocations place same found = ap (λ (i : List Invocation). place_of a.request.path a.site i) same ∙ sym found

-- the act that it found is the one that is asked for
pub is_asked : (a : Asked) (form : RouteKind) (place : Resource) (act : ThingAct) → place_asked a ≡ Some place → form ≡ route_of a.request.path → act_at form place a.request.verb ≡ Some act → act_asked a ≡ Some act
is_asked a form place act there of asked =
    ap (option_and_then (λ p. act_at (route_of a.request.path) p a.request.verb)) there
    ∙ ap (λ (f : RouteKind). act_at f place a.request.verb) (sym of) ∙ asked

-- the verb isn't taken there
pub verb_decides : (a : Asked) (form : RouteKind) (place : Resource) (allow : Allow) → place_asked a ≡ Some place → form ≡ route_of a.request.path → act_at form place a.request.verb ≡ None
    → verbs_in allow ≡ verbs_of form (flags_of place) → IsRefusedBy refusals a (outcome.NotAllowed allow)
verb_decides a form place allow there of none lists =
    inr (
      λ nothing. absurd (let some : None ≡ Some place = sym nothing ∙ there in cc),
      inl (
        ap (option_and_then (λ p. act_at (route_of a.request.path) p a.request.verb)) there ∙ ap (λ (f : RouteKind). act_at f place a.request.verb) (sym of) ∙ none,
        (
          allow,
          subst (λ (o : Option Resource). Holding (λ p. verbs_in allow ≡ verbs_of (route_of a.request.path) (flags_of p)) o) (sym there)
              (subst (λ (f : RouteKind). verbs_in allow ≡ verbs_of f (flags_of place)) of lists),
          refl,
        ),
      ),
    )
