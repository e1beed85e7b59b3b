-- The affordances that an act calls are of the act's kind, and what is handed in to them is fit for them.
use Rattle.std.proofs.Common.{◌≡◌, ℕ, List, [], ◌∷◌, ◌++◌, Bool, true, false, cond, refl, subst}
use Rattle.std.specs.Prelude.{Some, None, option_and_then, slice_get, ◌&&◌, Contains}
use Rattle.std.specs.List.{AllByRecursion, flat_map}
use Rattle.std.specs.Str.{bytes_eq}
use Rattle.std.proofs.lemmas.Option.{same_Some}
use Rattle.std.proofs.lemmas.List.Elements.{All-contains_itself, recursion_from_All}
use Rattle.wot_terms.specs.declared.kind.Kind.{Kind}
use Rattle.wot_terms.specs.declared.kind.Kind.TheVariants as kind
use Rattle.thing_ops.specs.declared.routing.RouteKind.{RouteKind}
use Rattle.thing_ops.specs.declared.routing.RouteKind.TheVariants as route
use Rattle.thing_ops.specs.declared.verb.Verb.{Verb}
use Rattle.thing_ops.specs.declared.verb.Verb.TheVariants as verb
use Rattle.thing_ops.specs.Routes.{route_of}
use Rattle.thing_ops.specs.Verbs.{verbs_of}
use Rattle.thing_site.specs.Site.{Placed, ExposedThing, Site, affordance_named, is_kind}
use Rattle.thing_site.specs.Places.{affordance_in, thing_in, place_at, where_observable, act_of, act_at, flags_of, is_listed}
use Rattle.thing_site.specs.declared.place.Resource.{Resource}
use Rattle.thing_site.specs.declared.place.ThingAct.{ThingAct}
use Rattle.thing_site.specs.declared.place.Resource.TheVariants.{Description as description, AllProperties as all_properties, Property as property, Observed as observed, Action as action, Invocation as invocation, Event as event, Subscribed as subscribed}
use Rattle.thing_site.specs.declared.place.ThingAct.TheVariants.{Reads as reads, Writes as writes, Invokes as invokes, Queries as queries, Cancels as cancels}
use Rattle.thing_state.specs.Places.{where_stands}
use Rattle.thing_state.specs.State.{Invocation, invocation_named}
use Rattle.thing_core.specs.Refusals.{Asked, act_asked, place_asked}
use Rattle.thing_core.proofs.Handed.{came_of, made_of}
use Rattle.thing_core.proofs.SlotLaws.{SiteHas, ThingsHave}
use Rattle.servient_laws.specs.Calls.{affordances_of}

-- ---- all affordances of a site

parted : (P : Placed → Type 0) (ps qs : List Placed) → AllByRecursion P (ps ++ qs) → AllByRecursion P ps × AllByRecursion P qs
parted P [] qs all = (tt, all)
parted P (p ∷ ps) qs all = let rest = parted P ps qs all.1 in ((all.0, rest.0), rest.1)

things_have : (P : Placed → Type 0) (things : List ExposedThing) → AllByRecursion P (flat_map (λ (t : ExposedThing). t.affordances) things) → ThingsHave P things
things_have P [] all = tt
things_have P (t ∷ things) all =
    let both = parted P t.affordances (flat_map (λ (u : ExposedThing). u.affordances) things) all in (both.0, things_have P things both.1)

-- each is one of them
pub site_has_its_own : (site : Site) → SiteHas (Contains (affordances_of site)) site
site_has_its_own site =
    things_have (Contains (affordances_of site)) site.things (recursion_from_All (Contains (affordances_of site)) (affordances_of site) (All-contains_itself (affordances_of site)))

-- ---- kinds

pub same_kind : (k l : Kind) → is_kind k l ≡ true → l ≡ k
same_kind kind.Property kind.Property e = refl
same_kind kind.Action kind.Action e = refl
same_kind kind.Event kind.Event e = refl
same_kind k l e = absurd cc

both_true : (a b : Bool) → (a && b) ≡ true → a ≡ true
both_true true b e = refl
both_true false b e = absurd cc

pub named_kind : (k : Kind) (name : List ℕ) (ps : List Placed) (p : Placed) → affordance_named k name ps ≡ Some p → p.affordance.kind ≡ k
named_kind k name [] p e = absurd cc
named_kind k name (q ∷ ps) p e = by_test (named_kind k name ps p) (is_kind k q.affordance.kind && bytes_eq name q.affordance.name) refl e
  where
    by_test : (affordance_named k name ps ≡ Some p → p.affordance.kind ≡ k) → (b : Bool) → (is_kind k q.affordance.kind && bytes_eq name q.affordance.name) ≡ b
        → cond b (Some q) (affordance_named k name ps) ≡ Some p → p.affordance.kind ≡ k
    by_test further true is found =
        subst (λ (x : Placed). x.affordance.kind ≡ k) (same_Some q p found) (same_kind k q.affordance.kind (both_true (is_kind k q.affordance.kind) (bytes_eq name q.affordance.name) is))
    by_test further false isnt found = further found

in_path_kind : (k : Kind) (path : List (List ℕ)) (site : Site) (p : Placed) → affordance_in k path site ≡ Some p → p.affordance.kind ≡ k
in_path_kind k path site p e =
    let of_thing = came_of (λ (thing : ExposedThing). option_and_then (λ (name : List ℕ). affordance_named k name thing.affordances) (slice_get path 2)) (thing_in path site) p e in
    let of_name = came_of (λ (name : List ℕ). affordance_named k name of_thing.0.affordances) (slice_get path 2) p of_thing.2 in
    named_kind k of_name.0 of_thing.0.affordances p of_name.2

-- the kind of what a place or an act is about
abbrev IsPlaceOfKind : Resource → Type 0
IsPlaceOfKind (property p) = p.affordance.kind ≡ kind.Property
IsPlaceOfKind (action p) = p.affordance.kind ≡ kind.Action
IsPlaceOfKind (invocation p id) = p.affordance.kind ≡ kind.Action
IsPlaceOfKind place = Unit {0}

abbrev pub IsActOfKind : ThingAct → Type 0
IsActOfKind (reads p) = p.affordance.kind ≡ kind.Property
IsActOfKind (writes p) = p.affordance.kind ≡ kind.Property
IsActOfKind (invokes p) = p.affordance.kind ≡ kind.Action
IsActOfKind (queries p id) = p.affordance.kind ≡ kind.Action
IsActOfKind (cancels p id) = p.affordance.kind ≡ kind.Action
IsActOfKind act = Unit {0}

observable_kind : (p : Placed) (place : Resource) → where_observable p ≡ Some place → IsPlaceOfKind place
observable_kind p place e = by_test p.affordance.observable e
  where
    by_test : (b : Bool) → cond b (Some (observed p)) None ≡ Some place → IsPlaceOfKind place
    by_test true is = subst (λ (x : Resource). IsPlaceOfKind x) (same_Some (observed p) place is) tt
    by_test false is = absurd cc

place_kind : (form : RouteKind) (path : List (List ℕ)) (site : Site) (place : Resource) → place_at form path site ≡ Some place → IsPlaceOfKind place
place_kind route.Root path site place e = let of = made_of description (slice_get site.things 0) place e in subst (λ (x : Resource). IsPlaceOfKind x) of.2 tt
place_kind route.Thing path site place e = let of = made_of description (thing_in path site) place e in subst (λ (x : Resource). IsPlaceOfKind x) of.2 tt
place_kind route.All path site place e = let of = made_of all_properties (thing_in path site) place e in subst (λ (x : Resource). IsPlaceOfKind x) of.2 tt
place_kind route.Property path site place e =
    let of = made_of property (affordance_in kind.Property path site) place e in subst (λ (x : Resource). IsPlaceOfKind x) of.2 (in_path_kind kind.Property path site of.0 of.1)
place_kind route.Observe path site place e = let of = came_of where_observable (affordance_in kind.Property path site) place e in observable_kind of.0 place of.2
place_kind route.Subscribe path site place e = let of = made_of subscribed (affordance_in kind.Event path site) place e in subst (λ (x : Resource). IsPlaceOfKind x) of.2 tt
place_kind route.Action path site place e =
    let of = made_of action (affordance_in kind.Action path site) place e in subst (λ (x : Resource). IsPlaceOfKind x) of.2 (in_path_kind kind.Action path site of.0 of.1)
place_kind (route.Invocation id) path site place e =
    let of = made_of (λ (p : Placed). invocation p id) (affordance_in kind.Action path site) place e in subst (λ (x : Resource). IsPlaceOfKind x) of.2 (in_path_kind kind.Action path site of.0 of.1)
place_kind route.Event path site place e = let of = made_of event (affordance_in kind.Event path site) place e in subst (λ (x : Resource). IsPlaceOfKind x) of.2 tt
place_kind route.Things path site place e = absurd cc
place_kind route.Entry path site place e = absurd cc
place_kind route.Nowhere path site place e = absurd cc

stands_kind : (invocations : List Invocation) (place found : Resource) → IsPlaceOfKind place → where_stands invocations place ≡ Some found → IsPlaceOfKind found
stands_kind invocations (invocation p id) found is e =
    let of = made_of (λ (i : Invocation). invocation p id) (invocation_named p.slot id invocations) found e in subst (λ (x : Resource). IsPlaceOfKind x) of.2 is
stands_kind invocations (description t) found is e = subst (λ (x : Resource). IsPlaceOfKind x) (same_Some (description t) found e) is
stands_kind invocations (all_properties t) found is e = subst (λ (x : Resource). IsPlaceOfKind x) (same_Some (all_properties t) found e) is
stands_kind invocations (property p) found is e = subst (λ (x : Resource). IsPlaceOfKind x) (same_Some (property p) found e) is
stands_kind invocations (observed p) found is e = subst (λ (x : Resource). IsPlaceOfKind x) (same_Some (observed p) found e) is
stands_kind invocations (action p) found is e = subst (λ (x : Resource). IsPlaceOfKind x) (same_Some (action p) found e) is
stands_kind invocations (event p) found is e = subst (λ (x : Resource). IsPlaceOfKind x) (same_Some (event p) found e) is
stands_kind invocations (subscribed p) found is e = subst (λ (x : Resource). IsPlaceOfKind x) (same_Some (subscribed p) found e) is

verb_kind : (place : Resource) (v : Verb) → IsPlaceOfKind place → IsActOfKind (act_of place v)
verb_kind (description t) v is = tt
verb_kind (all_properties t) verb.Get is = tt
verb_kind (all_properties t) verb.Head is = tt
verb_kind (all_properties t) verb.Put is = tt
verb_kind (all_properties t) verb.Post is = tt
verb_kind (all_properties t) verb.Patch is = tt
verb_kind (all_properties t) verb.Delete is = tt
verb_kind (all_properties t) verb.Other is = tt
verb_kind (property p) verb.Get is = is
verb_kind (property p) verb.Head is = is
verb_kind (property p) verb.Put is = is
verb_kind (property p) verb.Post is = is
verb_kind (property p) verb.Patch is = is
verb_kind (property p) verb.Delete is = is
verb_kind (property p) verb.Other is = is
verb_kind (observed p) v is = tt
verb_kind (action p) v is = is
verb_kind (invocation p id) verb.Get is = is
verb_kind (invocation p id) verb.Head is = is
verb_kind (invocation p id) verb.Put is = is
verb_kind (invocation p id) verb.Post is = is
verb_kind (invocation p id) verb.Patch is = is
verb_kind (invocation p id) verb.Delete is = is
verb_kind (invocation p id) verb.Other is = is
verb_kind (event p) v is = tt
verb_kind (subscribed p) v is = tt

at_kind : (form : RouteKind) (place : Resource) (v : Verb) (act : ThingAct) → IsPlaceOfKind place → act_at form place v ≡ Some act → IsActOfKind act
at_kind form place v act is e = by_test (is_listed v (verbs_of form (flags_of place))) e
  where
    by_test : (b : Bool) → cond b (Some (act_of place v)) None ≡ Some act → IsActOfKind act
    by_test true found = subst (λ (x : ThingAct). IsActOfKind x) (same_Some (act_of place v) act found) (verb_kind place v is)
    by_test false found = absurd cc

-- the act that is asked for is of its kind
pub asked_kind : (a : Asked) (act : ThingAct) → act_asked a ≡ Some act → IsActOfKind act
asked_kind a act e =
    let of = came_of (λ (place : Resource). act_at (route_of a.request.path) place a.request.verb) (place_asked a) act e in
    let there = came_of (where_stands a.state.invocations) (place_at (route_of a.request.path) a.request.path a.site) of.0 of.1 in
    at_kind (route_of a.request.path) of.0 a.request.verb act
    (stands_kind a.state.invocations there.0 of.0 (place_kind (route_of a.request.path) a.request.path a.site there.0 there.1) there.2) of.2
