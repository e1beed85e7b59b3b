-- The path of a request to an action is short.
use Rattle.std.proofs.Common.{◌≡◌, ℕ, ◌≤◌, List, [], ◌∷◌, length, Bool, true, false, refl, subst, arith}
use Rattle.std.specs.Prelude.{Option, Some, None, codes, if◌then◌else◌, option_map, option_and_then, slice_get}
use Rattle.std.specs.List.{All}
use Rattle.std.proofs.lemmas.Bool.{and_parts}
use Rattle.wot_terms.specs.declared.kind.Kind.TheVariants as kind
use Rattle.thing_ops.specs.declared.routing.RouteKind.{RouteKind}
use Rattle.thing_ops.specs.declared.routing.RouteKind.TheVariants as route
use Rattle.thing_ops.specs.declared.verb.Verb.{Verb}
use Rattle.thing_ops.specs.declared.verb.Verb.TheVariants as verb
use Rattle.thing_ops.specs.Requests.{RequestSeen}
use Rattle.thing_ops.specs.Verbs.{verbs_of}
use Rattle.thing_ops.specs.Routes.{route_of, has_form, the, any, entry_id, invocation_id, invocation_in}
use Rattle.thing_site.specs.Site.{Placed, Site}
use Rattle.thing_state.specs.State.{State, Invocation, invocation_named}
use Rattle.thing_site.specs.Places.{place_at, thing_in, affordance_in, where_observable, act_at, act_of, flags_of, is_listed}
use Rattle.thing_site.specs.declared.place.Resource.{Resource}
use Rattle.thing_site.specs.declared.place.ThingAct.{ThingAct}
use Rattle.thing_site.specs.declared.place.Resource.TheVariants.{Description as description, AllProperties as all_properties, Property as property, Observed as observed, Action as action, Invocation as invocation, Event as event, Subscribed as subscribed}
use Rattle.thing_site.specs.declared.place.ThingAct.TheVariants.{Invokes as invokes}
use Rattle.thing_state.specs.Places.{place_of, where_stands}
use Rattle.thing_core.specs.Refusals.{act_asked}

-- a short path: of at most three segments of at most 255 bytes
pub record IsShortPath (path : List (List ℕ)) : Type 0 where
  pub count : length path ≤ 3
  pub each : All (λ segment. length segment ≤ 255) path

-- an action is invoked by a path of three segments
abbrev pub ShortIfInvoked : ThingAct → List (List ℕ) → Type 0
ShortIfInvoked (invokes p) path = IsShortPath path
ShortIfInvoked act path = Unit {0}

form_length : (row : List (List ℕ → Bool)) (path : List (List ℕ)) → has_form row path ≡ true → length path ≡ length row
form_length [] [] fits = refl
form_length [] (segment ∷ path) fits = absurd (cc)
form_length (asks ∷ row) [] fits = absurd (cc)
form_length (asks ∷ row) (segment ∷ path) fits = omega (arith, form_length row path (and_parts (has_form row path) (asks segment) fits).0)

-- the path of an action has three segments
abbrev ThreeIfAction : RouteKind → List (List ℕ) → Type 0
ThreeIfAction route.Action path = length path ≤ 3
ThreeIfAction form path = Unit {0}

or_else : (b : Bool) (x y : RouteKind) (path : List (List ℕ)) → (b ≡ true → ThreeIfAction x path) → ThreeIfAction y path → ThreeIfAction (if b then x else y) path
or_else true x y path here there = here refl
or_else false x y path here there = there

three_if_action : (path : List (List ℕ)) → ThreeIfAction (route_of path) path
three_if_action path =
    let r10 : RouteKind = if has_form (any ∷ the (codes "events") ∷ any ∷ []) path then route.Event else route.Nowhere in
    let p10 : ThreeIfAction r10 path = or_else (has_form (any ∷ the (codes "events") ∷ any ∷ []) path) route.Event route.Nowhere path (λ _. tt) tt in
    let r9 : RouteKind = if has_form (any ∷ the (codes "actions") ∷ any ∷ invocation_id ∷ []) path then (route.Invocation (invocation_in path)) else r10 in
    let p9 : ThreeIfAction r9 path = or_else (has_form (any ∷ the (codes "actions") ∷ any ∷ invocation_id ∷ []) path) (route.Invocation (invocation_in path)) r10 path (λ _. tt) p10 in
    let r8 : RouteKind = if has_form (any ∷ the (codes "actions") ∷ any ∷ []) path then route.Action else r9 in
    let p8 : ThreeIfAction r8 path = or_else (has_form (any ∷ the (codes "actions") ∷ any ∷ []) path) route.Action r9 path (λ fits. omega (arith, form_length (any ∷ the (codes "actions") ∷ any ∷ []) path fits)) p9 in
    let r7 : RouteKind = if has_form (any ∷ the (codes "events") ∷ any ∷ the (codes "subscribe") ∷ []) path then route.Subscribe else r8 in
    let p7 : ThreeIfAction r7 path = or_else (has_form (any ∷ the (codes "events") ∷ any ∷ the (codes "subscribe") ∷ []) path) route.Subscribe r8 path (λ _. tt) p8 in
    let r6 : RouteKind = if has_form (any ∷ the (codes "properties") ∷ any ∷ the (codes "observe") ∷ []) path then route.Observe else r7 in
    let p6 : ThreeIfAction r6 path = or_else (has_form (any ∷ the (codes "properties") ∷ any ∷ the (codes "observe") ∷ []) path) route.Observe r7 path (λ _. tt) p7 in
    let r5 : RouteKind = if has_form (any ∷ the (codes "properties") ∷ any ∷ []) path then route.Property else r6 in
    let p5 : ThreeIfAction r5 path = or_else (has_form (any ∷ the (codes "properties") ∷ any ∷ []) path) route.Property r6 path (λ _. tt) p6 in
    let r4 : RouteKind = if has_form (any ∷ the (codes "properties") ∷ []) path then route.All else r5 in
    let p4 : ThreeIfAction r4 path = or_else (has_form (any ∷ the (codes "properties") ∷ []) path) route.All r5 path (λ _. tt) p5 in
    let r3 : RouteKind = if has_form (any ∷ []) path then route.Thing else r4 in
    let p3 : ThreeIfAction r3 path = or_else (has_form (any ∷ []) path) route.Thing r4 path (λ _. tt) p4 in
    let r2 : RouteKind = if has_form (the (codes "things") ∷ entry_id ∷ []) path then route.Entry else r3 in
    let p2 : ThreeIfAction r2 path = or_else (has_form (the (codes "things") ∷ entry_id ∷ []) path) route.Entry r3 path (λ _. tt) p3 in
    let r1 : RouteKind = if has_form (the (codes "things") ∷ []) path then route.Things else r2 in
    let p1 : ThreeIfAction r1 path = or_else (has_form (the (codes "things") ∷ []) path) route.Things r2 path (λ _. tt) p2 in
    let r0 : RouteKind = if has_form (the (codes ".well-known") ∷ the (codes "wot") ∷ []) path then route.Root else r1 in
    let p0 : ThreeIfAction r0 path = or_else (has_form (the (codes ".well-known") ∷ the (codes "wot") ∷ []) path) route.Root r1 path (λ _. tt) p1 in
    p0

-- the place of such a path, and the act that it is asked for
abbrev ShortIfPlace : Resource → List (List ℕ) → Type 0
ShortIfPlace (action p) path = IsShortPath path
ShortIfPlace place path = Unit {0}

abbrev ShortIfAsked : Option ThingAct → List (List ℕ) → Type 0
ShortIfAsked None path = Unit {0}
ShortIfAsked (Some act) path = ShortIfInvoked act path

of_short : (place : Resource) (v : Verb) (path : List (List ℕ)) → ShortIfPlace place path → ShortIfInvoked (act_of place v) path
of_short (description thing) v path short = tt
of_short (all_properties thing) verb.Get path short = tt
of_short (all_properties thing) verb.Head path short = tt
of_short (all_properties thing) verb.Put path short = tt
of_short (all_properties thing) verb.Post path short = tt
of_short (all_properties thing) verb.Patch path short = tt
of_short (all_properties thing) verb.Delete path short = tt
of_short (all_properties thing) verb.Other path short = tt
of_short (property p) verb.Get path short = tt
of_short (property p) verb.Head path short = tt
of_short (property p) verb.Put path short = tt
of_short (property p) verb.Post path short = tt
of_short (property p) verb.Patch path short = tt
of_short (property p) verb.Delete path short = tt
of_short (property p) verb.Other path short = tt
of_short (observed p) v path short = tt
of_short (action p) v path short = short
of_short (invocation p id) verb.Get path short = tt
of_short (invocation p id) verb.Head path short = tt
of_short (invocation p id) verb.Put path short = tt
of_short (invocation p id) verb.Post path short = tt
of_short (invocation p id) verb.Patch path short = tt
of_short (invocation p id) verb.Delete path short = tt
of_short (invocation p id) verb.Other path short = tt
of_short (event p) v path short = tt
of_short (subscribed p) v path short = tt

short_at : (form : RouteKind) (place : Resource) (v : Verb) (path : List (List ℕ)) → ShortIfPlace place path → ShortIfAsked (act_at form place v) path
short_at form place v path short = by_test (is_listed v (verbs_of form (flags_of place)))
  where
    by_test : (b : Bool) → ShortIfAsked (if b then Some (act_of place v) else None) path
    by_test true = of_short place v path short
    by_test false = tt

abbrev ShortIfFound : Option Resource → List (List ℕ) → Type 0
ShortIfFound None path = Unit {0}
ShortIfFound (Some place) path = ShortIfPlace place path

mapped : {A : Type 0} (make : A → Resource) (found : Option A) (path : List (List ℕ)) → ((a : A) → ShortIfPlace (make a) path) → ShortIfFound (option_map make found) path
mapped make None path each = tt
mapped make (Some a) path each = each a

observed_short : (found : Option Placed) (path : List (List ℕ)) → ShortIfFound (option_and_then where_observable found) path
observed_short None path = tt
observed_short (Some p) path = if_observed p.affordance.observable
  where
    if_observed : (b : Bool) → ShortIfFound (if b then Some (observed p) else None) path
    if_observed true = tt
    if_observed false = tt

place_short : (form : RouteKind) (path : List (List ℕ)) (site : Site) → All (λ segment. length segment ≤ 255) path → ThreeIfAction form path
    → ShortIfFound (place_at form path site) path
place_short route.Root path site short three = mapped description (slice_get site.things 0) path (λ _. tt)
place_short route.Thing path site short three = mapped description (thing_in path site) path (λ _. tt)
place_short route.All path site short three = mapped all_properties (thing_in path site) path (λ _. tt)
place_short route.Property path site short three = mapped property (affordance_in kind.Property path site) path (λ _. tt)
place_short route.Observe path site short three = observed_short (affordance_in kind.Property path site) path
place_short route.Subscribe path site short three = mapped subscribed (affordance_in kind.Event path site) path (λ _. tt)
place_short route.Action path site short three = mapped action (affordance_in kind.Action path site) path (λ _. record { count = three; each = short })
place_short (route.Invocation id) path site short three = mapped (λ p. invocation p id) (affordance_in kind.Action path site) path (λ _. tt)
place_short route.Event path site short three = mapped event (affordance_in kind.Event path site) path (λ _. tt)
place_short route.Things path site short three = tt
place_short route.Entry path site short three = tt
place_short route.Nowhere path site short three = tt

stands_short : (invocations : List Invocation) (place : Resource) (path : List (List ℕ)) → ShortIfPlace place path → ShortIfFound (where_stands invocations place) path
stands_short invocations (description thing) path short = short
stands_short invocations (all_properties thing) path short = short
stands_short invocations (property p) path short = short
stands_short invocations (observed p) path short = short
stands_short invocations (action p) path short = short
stands_short invocations (invocation p id) path short = mapped (λ _. invocation p id) (invocation_named p.slot id invocations) path (λ _. tt)
stands_short invocations (event p) path short = short
stands_short invocations (subscribed p) path short = short

there_short : (invocations : List Invocation) (found : Option Resource) (path : List (List ℕ)) → ShortIfFound found path → ShortIfFound (option_and_then (where_stands invocations) found) path
there_short invocations None path short = tt
there_short invocations (Some place) path short = stands_short invocations place path short

asked_short : (form : RouteKind) (found : Option Resource) (v : Verb) (path : List (List ℕ)) → ShortIfFound found path → ShortIfAsked (option_and_then (λ place. act_at form place v) found) path
asked_short form None v path short = tt
asked_short form (Some place) v path short = short_at form place v path short

pub short_if_invoked : (site : Site) (q : RequestSeen) (s : State) (act : ThingAct) → All (λ segment. length segment ≤ 255) q.path
    → act_asked (record { site = site; state = s; request = q }) ≡ Some act → ShortIfInvoked act q.path
short_if_invoked site q s act short asked =
    subst (λ (o : Option ThingAct). ShortIfAsked o q.path) asked
    (asked_short (route_of q.path) (place_of q.path site s.invocations) q.verb q.path
    (there_short s.invocations (place_at (route_of q.path) q.path site) q.path (place_short (route_of q.path) q.path site short (three_if_action q.path))))
