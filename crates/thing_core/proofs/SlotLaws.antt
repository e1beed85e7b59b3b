-- The affordances that a request asks for have slots of a rack that the site fits, and an act that
-- is admitted may be done.
use Rattle.std.proofs.Common.{◌≡◌, ◌≤◌, ◌<◌, ℕ, List, [], ◌∷◌, ◌++◌, length, Bool, true, false, cond, refl, sym, subst, arith, inl, inr}
use Rattle.std.specs.Prelude.{Option, Some, None, IsSome, option_and_then, slice_get}
use Rattle.std.specs.List.{AllByRecursion}
use Rattle.std.specs.Str.{bytes_eq}
use Rattle.std.proofs.lemmas.Option.{same_Some, slice_get_within}
use Rattle.wot_json.specs.Json.{text_of}
use Rattle.wot_terms.specs.declared.kind.Kind.{Kind}
use Rattle.wot_terms.specs.declared.kind.Kind.TheVariants as kind
use Rattle.thing_ops.specs.Routes.{route_of}
use Rattle.thing_ops.specs.Verbs.{verbs_of}
use Rattle.thing_ops.specs.declared.routing.RouteKind.{RouteKind}
use Rattle.thing_ops.specs.declared.routing.RouteKind.TheVariants as route
use Rattle.thing_ops.specs.declared.verb.Verb.{Verb}
use Rattle.thing_ops.specs.declared.verb.Verb.TheVariants as verb
use Rattle.thing_handler.specs.Handler.{Seen}
use Rattle.thing_site.specs.Refusals.{Input}
use Rattle.thing_site.specs.Site.{Placed, ExposedThing, Site, affordance_named, thing_named, events_of, those_of}
use Rattle.thing_state.specs.State.{State, Invocation, invocation_named, running_count, most_invocations}
use Rattle.thing_site.specs.Places.{thing_in, affordance_in, place_at, where_observable, act_at, act_of, flags_of, is_listed}
use Rattle.thing_site.specs.declared.place.Resource.{Resource}
use Rattle.thing_site.specs.declared.place.ThingAct.{ThingAct}
use Rattle.thing_site.specs.declared.place.Resource.TheVariants.{Description as description, AllProperties as all_properties, Property as property, Observed as observed, Action as action, Invocation as invocation, Event as event, Subscribed as subscribed}
use Rattle.thing_site.specs.declared.place.ThingAct.TheVariants.{Invokes as invokes, Queries as queries, Cancels as cancels}
use Rattle.thing_state.specs.Places.{where_stands}
use Rattle.thing_site.specs.Refusals.{Input, inputs_of, longest_value, IsLong, SomeInput, Holding}
use Rattle.thing_core.specs.Refusals.{Asked, act_asked, place_asked, refusals, HasNoInvocationLeft, NoneStands}
use Rattle.thing_site.specs.Fits.{FitsSlot, ThingFits, Fits}
use Rattle.thing_core.specs.Performing.{AllStand, InputsFit, MayBeDone, affordances_of_act}
use Rattle.thing_core.proofs.Handed.{came_of, made_of, named_has, InputsHave, handed_have}
use Rattle.thing_core.proofs.PlacedLists.{events_stand}

-- ---- what fits has slots

fits_stand : (slots : List Seen) (ps : List Placed) → AllByRecursion (FitsSlot slots) ps → AllStand (length slots) ps
fits_stand slots [] all = tt
fits_stand slots (p ∷ ps) all = (slice_get_within slots p.slot all.0.0 all.0.1, fits_stand slots ps all.1)

-- this holds of all affordances of Things, and of a site
abbrev pub ThingsHave : (Placed → Type 0) → List ExposedThing → Type 0
ThingsHave P things = AllByRecursion (λ t. AllByRecursion P t.affordances) things

abbrev pub SiteHas : (Placed → Type 0) → Site → Type 0
SiteHas P site = ThingsHave P site.things

-- they have slots of a rack of n
abbrev pub SiteStands : ℕ → Site → Type 0
SiteStands count site = SiteHas (λ p. p.slot < count) site

things_stand : (slots : List Seen) (things : List ExposedThing) → AllByRecursion (ThingFits slots) things → ThingsHave (λ p. p.slot < length slots) things
things_stand slots [] all = tt
things_stand slots (t ∷ things) all = (fits_stand slots t.affordances all.0, things_stand slots things all.1)

pub site_stands : (slots : List Seen) (site : Site) → Fits site slots → SiteStands (length slots) site
site_stands slots site all = things_stand slots site.things all

both_stand : (count : ℕ) (ps qs : List Placed) → AllStand count ps → AllStand count qs → AllStand count (ps ++ qs)
both_stand count [] qs one other = other
both_stand count (p ∷ ps) qs one other = (one.0, both_stand count ps qs one.1 other)

pub all_events_stand : (count : ℕ) (things : List ExposedThing) → ThingsHave (λ p. p.slot < count) things → AllStand count (events_of things)
all_events_stand count [] all = tt
all_events_stand count (t ∷ things) all =
    both_stand count (those_of kind.Event t) (events_of things) (events_stand count t.affordances all.0) (all_events_stand count things all.1)

-- ---- what is found

thing_stands : (P : Placed → Type 0) (segment : List ℕ) (site : List ExposedThing) (thing : ExposedThing) → ThingsHave P site → thing_named segment site ≡ Some thing → AllByRecursion P thing.affordances
thing_stands P segment [] thing all e = absurd cc
thing_stands P segment (t ∷ site) thing all e = by_test (thing_stands P segment site thing all.1) (bytes_eq segment t.segment) e
  where
    by_test : (thing_named segment site ≡ Some thing → AllByRecursion P thing.affordances) → (b : Bool) → cond b (Some t) (thing_named segment site) ≡ Some thing → AllByRecursion P thing.affordances
    by_test further true is = subst (λ (x : ExposedThing). AllByRecursion P x.affordances) (same_Some t thing is) all.0
    by_test further false is = further is

in_site_stands : (P : Placed → Type 0) (path : List (List ℕ)) (site : Site) (thing : ExposedThing) → SiteHas P site → thing_in path site ≡ Some thing → AllByRecursion P thing.affordances
in_site_stands P path site thing all e =
    let of_segment = came_of (λ (segment : List ℕ). thing_named segment site.things) (slice_get path 0) thing e in
    thing_stands P of_segment.0 site.things thing all of_segment.2

in_thing_stands : (P : Placed → Type 0) (k : Kind) (path : List (List ℕ)) (site : Site) (p : Placed) → SiteHas P site → affordance_in k path site ≡ Some p → P p
in_thing_stands P k path site p all e =
    let of_thing = came_of (λ (thing : ExposedThing). option_and_then (λ (name : List ℕ). affordance_named k name thing.affordances) (slice_get path 2)) (thing_in path site) p e in
    let of_name = came_of (λ (name : List ℕ). affordance_named k name of_thing.0.affordances) (slice_get path 2) p of_thing.2 in
    named_has P k of_name.0 of_thing.0.affordances p (in_site_stands P path site of_thing.0 all of_thing.1) of_name.2

-- ---- places and acts

-- a fact of all affordances of a site holds of those of a place
abbrev HasAll : (Placed → Type 0) → Resource → Type 0
HasAll P (description thing) = AllByRecursion P thing.affordances
HasAll P (all_properties thing) = AllByRecursion P thing.affordances
HasAll P (property p) = P p
HasAll P (observed p) = P p
HasAll P (action p) = P p
HasAll P (invocation p id) = P p
HasAll P (event p) = P p
HasAll P (subscribed p) = P p

-- the same, and an invocation that it is about is one of these
abbrev PlaceStands : (Placed → Type 0) → State → Resource → Type 0
PlaceStands P s (description thing) = AllByRecursion P thing.affordances
PlaceStands P s (all_properties thing) = AllByRecursion P thing.affordances
PlaceStands P s (property p) = P p
PlaceStands P s (observed p) = P p
PlaceStands P s (action p) = P p
PlaceStands P s (invocation p id) = (P p) × IsSome (invocation_named p.slot id s.invocations)
PlaceStands P s (event p) = P p
PlaceStands P s (subscribed p) = P p

root_stands : (P : Placed → Type 0) (site : List ExposedThing) (thing : ExposedThing) → ThingsHave P site → slice_get site 0 ≡ Some thing → AllByRecursion P thing.affordances
root_stands P [] thing all e = absurd cc
root_stands P (t ∷ site) thing all e = subst (λ (x : ExposedThing). AllByRecursion P x.affordances) (same_Some t thing e) all.0

observable_has : (P : Placed → Type 0) (p : Placed) (place : Resource) → P p → where_observable p ≡ Some place → HasAll P place
observable_has P p place below e = by_test p.affordance.observable e
  where
    by_test : (b : Bool) → cond b (Some (observed p)) None ≡ Some place → HasAll P place
    by_test true is = subst (λ (x : Resource). HasAll P x) (same_Some (observed p) place is) below
    by_test false is = absurd cc

place_has : (P : Placed → Type 0) (form : RouteKind) (path : List (List ℕ)) (site : Site) (place : Resource) → SiteHas P site → place_at form path site ≡ Some place → HasAll P place
place_has P route.Root path site place all e =
    let of = made_of description (slice_get site.things 0) place e in subst (λ (x : Resource). HasAll P x) of.2 (root_stands P site.things of.0 all of.1)
place_has P route.Thing path site place all e =
    let of = made_of description (thing_in path site) place e in subst (λ (x : Resource). HasAll P x) of.2 (in_site_stands P path site of.0 all of.1)
place_has P route.All path site place all e =
    let of = made_of all_properties (thing_in path site) place e in subst (λ (x : Resource). HasAll P x) of.2 (in_site_stands P path site of.0 all of.1)
place_has P route.Property path site place all e =
    let of = made_of property (affordance_in kind.Property path site) place e in subst (λ (x : Resource). HasAll P x) of.2 (in_thing_stands P kind.Property path site of.0 all of.1)
place_has P route.Observe path site place all e =
    let of = came_of where_observable (affordance_in kind.Property path site) place e in observable_has P of.0 place (in_thing_stands P kind.Property path site of.0 all of.1) of.2
place_has P route.Subscribe path site place all e =
    let of = made_of subscribed (affordance_in kind.Event path site) place e in subst (λ (x : Resource). HasAll P x) of.2 (in_thing_stands P kind.Event path site of.0 all of.1)
place_has P route.Action path site place all e =
    let of = made_of action (affordance_in kind.Action path site) place e in subst (λ (x : Resource). HasAll P x) of.2 (in_thing_stands P kind.Action path site of.0 all of.1)
place_has P (route.Invocation id) path site place all e =
    let of = made_of (λ (p : Placed). invocation p id) (affordance_in kind.Action path site) place e in
    subst (λ (x : Resource). HasAll P x) of.2 (in_thing_stands P kind.Action path site of.0 all of.1)
place_has P route.Event path site place all e =
    let of = made_of event (affordance_in kind.Event path site) place e in subst (λ (x : Resource). HasAll P x) of.2 (in_thing_stands P kind.Event path site of.0 all of.1)
place_has P route.Things path site place all e = absurd cc
place_has P route.Entry path site place all e = absurd cc
place_has P route.Nowhere path site place all e = absurd cc

is_there : (P : Placed → Type 0) (s : State) (place found : Resource) → PlaceStands P s place → Some place ≡ Some found → PlaceStands P s found
is_there P s place found stands e = subst (λ (x : Resource). PlaceStands P s x) (same_Some place found e) stands

-- a place that is there
place_stands : (P : Placed → Type 0) (s : State) (place found : Resource) → HasAll P place → where_stands s.invocations place ≡ Some found → PlaceStands P s found
place_stands P s (invocation p id) found below e =
    let of_invocation = made_of (λ (i : Invocation). invocation p id) (invocation_named p.slot id s.invocations) found e in
    subst (λ (x : Resource). PlaceStands P s x) of_invocation.2 (below, subst (λ (o : Option Invocation). IsSome o) (sym of_invocation.1) refl)
place_stands P s (description t) found below e = is_there P s (description t) found below e
place_stands P s (all_properties t) found below e = is_there P s (all_properties t) found below e
place_stands P s (property p) found below e = is_there P s (property p) found below e
place_stands P s (observed p) found below e = is_there P s (observed p) found below e
place_stands P s (action p) found below e = is_there P s (action p) found below e
place_stands P s (event p) found below e = is_there P s (event p) found below e
place_stands P s (subscribed p) found below e = is_there P s (subscribed p) found below e

-- a fact of the affordances of an act, and its demands on the state, but for room for a further invocation
abbrev ActStands : (Placed → Type 0) → State → ThingAct → Type 0
ActStands P s (queries p id) = AllByRecursion P (p ∷ []) × IsSome (invocation_named p.slot id s.invocations)
ActStands P s (cancels p id) = AllByRecursion P (p ∷ []) × IsSome (invocation_named p.slot id s.invocations)
ActStands P s act = AllByRecursion P (affordances_of_act act)

of_stands : (P : Placed → Type 0) (s : State) (place : Resource) (v : Verb) → PlaceStands P s place → ActStands P s (act_of place v)
of_stands P s (description t) v stands = tt
of_stands P s (all_properties t) verb.Get stands = stands
of_stands P s (all_properties t) verb.Head stands = stands
of_stands P s (all_properties t) verb.Put stands = stands
of_stands P s (all_properties t) verb.Post stands = stands
of_stands P s (all_properties t) verb.Patch stands = stands
of_stands P s (all_properties t) verb.Delete stands = stands
of_stands P s (all_properties t) verb.Other stands = stands
of_stands P s (property p) verb.Get stands = (stands, tt)
of_stands P s (property p) verb.Head stands = (stands, tt)
of_stands P s (property p) verb.Put stands = (stands, tt)
of_stands P s (property p) verb.Post stands = (stands, tt)
of_stands P s (property p) verb.Patch stands = (stands, tt)
of_stands P s (property p) verb.Delete stands = (stands, tt)
of_stands P s (property p) verb.Other stands = (stands, tt)
of_stands P s (observed p) v stands = tt
of_stands P s (action p) v stands = (stands, tt)
of_stands P s (invocation p id) verb.Get stands = ((stands.0, tt), stands.1)
of_stands P s (invocation p id) verb.Head stands = ((stands.0, tt), stands.1)
of_stands P s (invocation p id) verb.Put stands = ((stands.0, tt), stands.1)
of_stands P s (invocation p id) verb.Post stands = ((stands.0, tt), stands.1)
of_stands P s (invocation p id) verb.Patch stands = ((stands.0, tt), stands.1)
of_stands P s (invocation p id) verb.Delete stands = ((stands.0, tt), stands.1)
of_stands P s (invocation p id) verb.Other stands = ((stands.0, tt), stands.1)
of_stands P s (event p) v stands = tt
of_stands P s (subscribed p) v stands = tt

act_stands : (P : Placed → Type 0) (s : State) (form : RouteKind) (place : Resource) (v : Verb) (act : ThingAct) → PlaceStands P s place → act_at form place v ≡ Some act → ActStands P s act
act_stands P s form place v act stands e = by_test (is_listed v (verbs_of form (flags_of place))) e
  where
    by_test : (b : Bool) → cond b (Some (act_of place v)) None ≡ Some act → ActStands P s act
    by_test true is = subst (λ (x : ThingAct). ActStands P s x) (same_Some (act_of place v) act is) (of_stands P s place v stands)
    by_test false is = absurd cc

asked_stands : (P : Placed → Type 0) (a : Asked) (act : ThingAct) → SiteHas P a.site → act_asked a ≡ Some act → ActStands P a.state act
asked_stands P a act all e =
    let of = came_of (λ (place : Resource). act_at (route_of a.request.path) place a.request.verb) (place_asked a) act e in
    let there = came_of (where_stands a.state.invocations) (place_at (route_of a.request.path) a.request.path a.site) of.0 of.1 in
    act_stands P a.state (route_of a.request.path) of.0 a.request.verb act
    (place_stands P a.state there.0 of.0 (place_has P (route_of a.request.path) a.request.path a.site there.0 all there.1) there.2) of.2

slots_of : (P : Placed → Type 0) (s : State) (act : ThingAct) → ActStands P s act → AllByRecursion P (affordances_of_act act)
slots_of P s (queries p id) stands = stands.0
slots_of P s (cancels p id) stands = stands.0
slots_of P s act stands = stands

-- a fact of all affordances of a site holds of those of the act that is asked for
pub asked_have : (P : Placed → Type 0) (a : Asked) (act : ThingAct) → SiteHas P a.site → act_asked a ≡ Some act → AllByRecursion P (affordances_of_act act)
asked_have P a act all e = slots_of P a.state act (asked_stands P a act all e)

pub slots_stand : (count : ℕ) (a : Asked) (act : ThingAct) → SiteStands count a.site → act_asked a ≡ Some act → AllStand count (affordances_of_act act)
slots_stand count a act all e = asked_have (λ p. p.slot < count) a act all e

-- ---- the state

at_most : (s : State) → ¬ (most_invocations ≤ running_count s.invocations) → running_count s.invocations < most_invocations
at_most s full = omega (arith, full)

done_by_act : (count : ℕ) (s : State) (act : ThingAct) → ActStands (λ p. p.slot < count) s act → ¬ (HasNoInvocationLeft s act) → MayBeDone act s
done_by_act count s (invokes p) stands free = at_most s free
done_by_act count s (queries p id) stands free = stands.1
done_by_act count s (cancels p id) stands free = stands.1
done_by_act count s act stands free = tt

pub may_be_done : (count : ℕ) (a : Asked) (act : ThingAct) → SiteStands count a.site → act_asked a ≡ Some act → NoneStands refusals a → MayBeDone act a.state
may_be_done count a act all e none =
    done_by_act count a.state act (asked_stands (λ p. p.slot < count) a act all e)
    (λ full. none.1.1.1.1.1.1.1.1.0 (subst (λ (x : Option ThingAct). Holding (HasNoInvocationLeft a.state) x) (sym e) full))

-- ---- inputs

none_long : (count : ℕ) (inputs : List Input) → InputsHave (λ (x : Placed). x.slot < count) inputs → ¬ (SomeInput IsLong inputs) → InputsFit count inputs
none_long count [] stand short = tt
none_long count (i ∷ inputs) stand short =
    let here : ¬ (longest_value < length (text_of i.value)) = λ long. short (inl long) in (
      (stand.0, omega (arith, here)),
      none_long count inputs stand.1 (λ further. short (inr further)),
    )

pub inputs_fit : (count : ℕ) (a : Asked) (act : ThingAct) (inputs : List Input) → SiteStands count a.site → act_asked a ≡ Some act → inputs_of act a.request.body ≡ Some inputs
    → NoneStands refusals a → InputsFit count inputs
inputs_fit count a act inputs all e given none =
    none_long count inputs (handed_have (λ (x : Placed). x.slot < count) act a.request.body inputs (slots_stand count a act all e) given)
    (λ long. none.1.1.1.1.1.0 (subst (λ (x : Option ThingAct). Holding (λ y. Holding (SomeInput IsLong) (inputs_of y a.request.body)) x) (sym e)
    (subst (λ (x : Option (List Input)). Holding (SomeInput IsLong) x) (sym given) long)))
