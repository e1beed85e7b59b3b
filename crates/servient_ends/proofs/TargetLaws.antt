-- The target that a request may observe is one of the site: an affordance that may emit.
use Rattle.std.proofs.Common.{◌≡◌, ◌∙◌, ℕ, Bool, true, false, cond, List, [], ◌∷◌, ◌++◌, map, refl, sym, ap, subst, arith}
use Rattle.std.specs.Prelude.{Option, Some, None, option_and_then, slice_get, ◌==◌, ◌&&◌}
use Rattle.std.specs.List.{AllByRecursion, filter}
use Rattle.std.specs.Str.{bytes_eq}
use Rattle.std.proofs.lemmas.Bool.Decides.{nat_tests}
use Rattle.std.proofs.lemmas.Option.{same_Some}
use Rattle.wot_terms.specs.declared.kind.Kind.{Kind}
use Rattle.wot_terms.specs.declared.kind.Kind.TheVariants as kind
use Rattle.thing_ops.specs.declared.routing.RouteKind.{RouteKind}
use Rattle.thing_ops.specs.declared.routing.RouteKind.TheVariants as route
use Rattle.thing_ops.specs.Routes.{route_of}
use Rattle.thing_site.specs.Site.{Placed, ExposedThing, Site, affordance_named, thing_named, is_kind, is_emitter, emitters_of, emitters_of_thing}
use Rattle.thing_site.specs.Places.{affordance_in, thing_in, place_at, where_observable, target_at}
use Rattle.thing_site.specs.declared.place.Resource.{Resource}
use Rattle.thing_site.specs.declared.place.Resource.TheVariants.{Description as description, AllProperties as all_properties, Property as property, Observed as observed, Action as action, Invocation as invocation, Event as event, Subscribed as subscribed}
use Rattle.thing_state.specs.State.{State as ThingState, Invocation, invocation_named, silent}
use Rattle.thing_state.specs.Places.{where_stands, place_of, target_of}
use Rattle.thing_core.proofs.Handed.{came_of, made_of, named_has}
use Rattle.thing_core.proofs.SlotLaws.{ThingsHave}
use Rattle.coap_opts.specs.Reading.{AskSeen}
use Rattle.servient_core.specs.Machine.{observed_target}
use Rattle.servient_ends.proofs.LastValues.{has_target}

-- something that may emit has this slot
abbrev pub IsTarget : Site → ℕ → Type 0
IsTarget site n = has_target n (map silent (emitters_of site.things)) ≡ true

abbrev IsAmong : List Placed → ℕ → Type 0
IsAmong ps n = has_target n (map silent ps) ≡ true

-- ---- lists

one_more : (p : Placed) (ps : List Placed) (n : ℕ) → IsAmong ps n → IsAmong (p ∷ ps) n
one_more p ps n among = by_test (p.slot == n) among
  where
    by_test : (b : Bool) → has_target n (map silent ps) ≡ true → cond b true (has_target n (map silent ps)) ≡ true
    by_test true there = refl
    by_test false there = there

more_before : (ps qs : List Placed) (n : ℕ) → IsAmong qs n → IsAmong (ps ++ qs) n
more_before [] qs n among = among
more_before (p ∷ ps) qs n among = one_more p (ps ++ qs) n (more_before ps qs n among)

more_after : (ps qs : List Placed) (n : ℕ) → IsAmong ps n → IsAmong (ps ++ qs) n
more_after [] qs n among = absurd cc
more_after (p ∷ ps) qs n among = by_test (p.slot == n) among (more_after ps qs n)
  where
    by_test : (b : Bool) → cond b true (has_target n (map silent ps)) ≡ true → (IsAmong ps n → IsAmong (ps ++ qs) n) → cond b true (has_target n (map silent (ps ++ qs))) ≡ true
    by_test true there further = refl
    by_test false there further = further there

weaker : (P Q : Placed → Type 0) → ((p : Placed) → P p → Q p) → (ps : List Placed) → AllByRecursion P ps → AllByRecursion Q ps
weaker P Q each [] all = tt
weaker P Q each (p ∷ ps) all = (each p all.0, weaker P Q each ps all.1)

things_weaker : (P Q : Placed → Type 0) → ((p : Placed) → P p → Q p) → (things : List ExposedThing) → ThingsHave P things → ThingsHave Q things
things_weaker P Q each [] all = tt
things_weaker P Q each (t ∷ things) all = (weaker P Q each t.affordances all.0, things_weaker P Q each things all.1)

same_number : (n : ℕ) → (n == n) ≡ true
same_number n = grind (arith, nat_tests)

-- each that may emit is among those that may
own : (ps : List Placed) → AllByRecursion (λ p. is_emitter p ≡ true → IsAmong (filter is_emitter ps) p.slot) ps
own [] = tt
own (p ∷ ps) = (
  λ emits. subst (λ (b : Bool). IsAmong (cond b (p ∷ filter is_emitter ps) (filter is_emitter ps)) p.slot) (sym emits)
      (ap (λ (b : Bool). cond b true (has_target p.slot (map silent (filter is_emitter ps)))) (same_number p.slot)),
  weaker (λ x. is_emitter x ≡ true → IsAmong (filter is_emitter ps) x.slot) (λ x. is_emitter x ≡ true → IsAmong (filter is_emitter (p ∷ ps)) x.slot)
      (λ x below emits. by_test x.slot (is_emitter p) (below emits)) ps (own ps),
)
  where
    by_test : (n : ℕ) (b : Bool) → IsAmong (filter is_emitter ps) n → IsAmong (cond b (p ∷ filter is_emitter ps) (filter is_emitter ps)) n
    by_test n true among = one_more p (filter is_emitter ps) n among
    by_test n false among = among

own_of_things : (things : List ExposedThing) → ThingsHave (λ p. is_emitter p ≡ true → IsAmong (emitters_of things) p.slot) things
own_of_things [] = tt
own_of_things (t ∷ things) = (
  weaker (λ x. is_emitter x ≡ true → IsAmong (emitters_of_thing t) x.slot) (λ x. is_emitter x ≡ true → IsAmong (emitters_of (t ∷ things)) x.slot)
      (λ x below emits. more_after (emitters_of_thing t) (emitters_of things) x.slot (below emits)) t.affordances (own t.affordances),
  things_weaker (λ x. is_emitter x ≡ true → IsAmong (emitters_of things) x.slot) (λ x. is_emitter x ≡ true → IsAmong (emitters_of (t ∷ things)) x.slot)
      (λ x below emits. more_before (emitters_of_thing t) (emitters_of things) x.slot (below emits)) things (own_of_things things),
)

-- ---- what is found

same_kind : (k l : Kind) → is_kind k l ≡ true → l ≡ k
same_kind kind.Property kind.Property e = refl
same_kind kind.Action kind.Action e = refl
same_kind kind.Event kind.Event e = refl
same_kind k l e = absurd cc

both_true : (a b : Bool) → (a && b) ≡ true → a ≡ true
both_true true b e = refl
both_true false b e = absurd cc

named_kind : (k : Kind) (name : List ℕ) (ps : List Placed) (p : Placed) → affordance_named k name ps ≡ Some p → p.affordance.kind ≡ k
named_kind k name [] p e = absurd cc
named_kind k name (q ∷ ps) p e = by_test (named_kind k name ps p) (is_kind k q.affordance.kind && bytes_eq name q.affordance.name) refl e
  where
    by_test : (affordance_named k name ps ≡ Some p → p.affordance.kind ≡ k) → (b : Bool) → (is_kind k q.affordance.kind && bytes_eq name q.affordance.name) ≡ b
        → cond b (Some q) (affordance_named k name ps) ≡ Some p → p.affordance.kind ≡ k
    by_test further true is found =
        subst (λ (x : Placed). x.affordance.kind ≡ k) (same_Some q p found) (same_kind k q.affordance.kind (both_true (is_kind k q.affordance.kind) (bytes_eq name q.affordance.name) is))
    by_test further false isnt found = further found

thing_has : (P : Placed → Type 0) (segment : List ℕ) (site : List ExposedThing) (thing : ExposedThing) → ThingsHave P site → thing_named segment site ≡ Some thing → AllByRecursion P thing.affordances
thing_has P segment [] thing all e = absurd cc
thing_has P segment (t ∷ site) thing all e = by_test (thing_has P segment site thing all.1) (bytes_eq segment t.segment) e
  where
    by_test : (thing_named segment site ≡ Some thing → AllByRecursion P thing.affordances) → (b : Bool) → cond b (Some t) (thing_named segment site) ≡ Some thing → AllByRecursion P thing.affordances
    by_test further true is = subst (λ (x : ExposedThing). AllByRecursion P x.affordances) (same_Some t thing is) all.0
    by_test further false is = further is

-- an affordance that a path leads to is of its kind, and a target if it may emit
record IsFound (site : Site) (k : Kind) (p : Placed) : Type 0 where
  kind : p.affordance.kind ≡ k
  target : is_emitter p ≡ true → IsTarget site p.slot

found : (k : Kind) (path : List (List ℕ)) (site : Site) (p : Placed) → affordance_in k path site ≡ Some p → IsFound site k p
found k path site p e =
    let of_thing = came_of (λ (thing : ExposedThing). option_and_then (λ (name : List ℕ). affordance_named k name thing.affordances) (slice_get path 2)) (thing_in path site) p e in
    let of_name = came_of (λ (name : List ℕ). affordance_named k name of_thing.0.affordances) (slice_get path 2) p of_thing.2 in
    let of_segment = came_of (λ (segment : List ℕ). thing_named segment site.things) (slice_get path 0) of_thing.0 of_thing.1 in
    record {
      kind = named_kind k of_name.0 of_thing.0.affordances p of_name.2;
      target = named_has (λ x. is_emitter x ≡ true → IsTarget site x.slot) k of_name.0 of_thing.0.affordances p
          (thing_has (λ x. is_emitter x ≡ true → IsTarget site x.slot) of_segment.0 site.things of_thing.0 (own_of_things site.things) of_segment.2) of_name.2;
    }

observable_emits : (p : Placed) → p.affordance.kind ≡ kind.Property → p.affordance.observable ≡ true → is_emitter p ≡ true
observable_emits p is may = subst (λ (k : Kind). cond (is_kind kind.Event k) true (is_kind kind.Property k && p.affordance.observable) ≡ true) (sym is) may

event_emits : (p : Placed) → p.affordance.kind ≡ kind.Event → is_emitter p ≡ true
event_emits p is = subst (λ (k : Kind). cond (is_kind kind.Event k) true (is_kind kind.Property k && p.affordance.observable) ≡ true) (sym is) refl

property_target : (site : Site) (p : Placed) (n : ℕ) → IsFound site kind.Property p → target_at (Some (property p)) ≡ Some n → IsTarget site n
property_target site p n there e = by_test p.affordance.observable refl e
  where
    by_test : (b : Bool) → p.affordance.observable ≡ b → cond b (Some p.slot) None ≡ Some n → IsTarget site n
    by_test true is said = subst (IsTarget site) (same_Some p.slot n said) (there.target (observable_emits p there.kind is))
    by_test false is said = absurd cc

event_target : (site : Site) (p : Placed) (n : ℕ) → IsFound site kind.Event p → target_at (Some (event p)) ≡ Some n → IsTarget site n
event_target site p n there e = subst (IsTarget site) (same_Some p.slot n e) (there.target (event_emits p there.kind))

-- a place of this form is no target
none_here : (site : Site) (place other : Resource) (n : ℕ) → other ≡ place → target_at (Some other) ≡ None → target_at (Some place) ≡ Some n → IsTarget site n
none_here site place other n same none some = absurd (let apart : None ≡ Some n = sym none ∙ (ap (λ (x : Resource). target_at (Some x)) same ∙ some) in cc)

observable_none : (p : Placed) (place : Resource) (n : ℕ) → where_observable p ≡ Some place → target_at (Some place) ≡ Some n → ⊥
observable_none p place n e some = by_test p.affordance.observable e
  where
    by_test : (b : Bool) → cond b (Some (observed p)) None ≡ Some place → ⊥
    by_test true is = let none : target_at (Some (observed p)) ≡ Some n = ap (λ (x : Resource). target_at (Some x)) (same_Some (observed p) place is) ∙ some in cc
    by_test false is = cc

place_target : (form : RouteKind) (path : List (List ℕ)) (site : Site) (place : Resource) (n : ℕ) → place_at form path site ≡ Some place → target_at (Some place) ≡ Some n → IsTarget site n
place_target route.Root path site place n e some = let of = made_of description (slice_get site.things 0) place e in none_here site place (description of.0) n of.2 refl some
place_target route.Thing path site place n e some = let of = made_of description (thing_in path site) place e in none_here site place (description of.0) n of.2 refl some
place_target route.All path site place n e some = let of = made_of all_properties (thing_in path site) place e in none_here site place (all_properties of.0) n of.2 refl some
place_target route.Property path site place n e some =
    let of = made_of property (affordance_in kind.Property path site) place e in
    property_target site of.0 n (found kind.Property path site of.0 of.1) (ap (λ (x : Resource). target_at (Some x)) of.2 ∙ some)
place_target route.Observe path site place n e some = let of = came_of where_observable (affordance_in kind.Property path site) place e in absurd (observable_none of.0 place n of.2 some)
place_target route.Subscribe path site place n e some = let of = made_of subscribed (affordance_in kind.Event path site) place e in none_here site place (subscribed of.0) n of.2 refl some
place_target route.Action path site place n e some = let of = made_of action (affordance_in kind.Action path site) place e in none_here site place (action of.0) n of.2 refl some
place_target (route.Invocation id) path site place n e some =
    let of = made_of (λ (p : Placed). invocation p id) (affordance_in kind.Action path site) place e in none_here site place (invocation of.0 id) n of.2 refl some
place_target route.Event path site place n e some =
    let of = made_of event (affordance_in kind.Event path site) place e in
    event_target site of.0 n (found kind.Event path site of.0 of.1) (ap (λ (x : Resource). target_at (Some x)) of.2 ∙ some)
place_target route.Things path site place n e some = absurd cc
place_target route.Entry path site place n e some = absurd cc
place_target route.Nowhere path site place n e some = absurd cc

-- the place that stands is the one that was looked for, where it is a target
stands_same : (invocations : List Invocation) (place there : Resource) (n : ℕ) → where_stands invocations place ≡ Some there → target_at (Some there) ≡ Some n → target_at (Some place) ≡ Some n
stands_same invocations (description t) there n e some = ap (λ (x : Resource). target_at (Some x)) (same_Some (description t) there e) ∙ some
stands_same invocations (all_properties t) there n e some = ap (λ (x : Resource). target_at (Some x)) (same_Some (all_properties t) there e) ∙ some
stands_same invocations (property p) there n e some = ap (λ (x : Resource). target_at (Some x)) (same_Some (property p) there e) ∙ some
stands_same invocations (observed p) there n e some = ap (λ (x : Resource). target_at (Some x)) (same_Some (observed p) there e) ∙ some
stands_same invocations (action p) there n e some = ap (λ (x : Resource). target_at (Some x)) (same_Some (action p) there e) ∙ some
stands_same invocations (invocation p id) there n e some =
    let of = made_of (λ (i : Invocation). invocation p id) (invocation_named p.slot id invocations) there e in
    ap (λ (x : Resource). target_at (Some x)) of.2 ∙ some
stands_same invocations (event p) there n e some = ap (λ (x : Resource). target_at (Some x)) (same_Some (event p) there e) ∙ some
stands_same invocations (subscribed p) there n e some = ap (λ (x : Resource). target_at (Some x)) (same_Some (subscribed p) there e) ∙ some

some_place : (o : Option Resource) (n : ℕ) → target_at o ≡ Some n → (place : Resource) × (o ≡ Some place) × (target_at (Some place) ≡ Some n)
some_place None n e = absurd cc
some_place (Some place) n e = (place, refl, e)

target_there : (path : List (List ℕ)) (site : Site) (invocations : List Invocation) (n : ℕ) → target_of path site invocations ≡ Some n → IsTarget site n
target_there path site invocations n e =
    let some = some_place (place_of path site invocations) n e in
    let of = came_of (where_stands invocations) (place_at (route_of path) path site) some.0 some.1 in
    place_target (route_of path) path site of.0 n of.1 (stands_same invocations of.0 some.0 n of.2 some.2)

-- A request observes a target.
pub observed_there : (site : Site) (thing : ThingState) (ask : AskSeen) (n : ℕ) → observed_target site thing ask ≡ Some n → IsTarget site n
observed_there site thing ask n e = by_observe ask.observe e
  where
    by_observe : (o : Option ℕ) → elim o as (λ _. Option ℕ) [ None ↦ None | Some k ↦ target_of ask.request.path site thing.invocations ] ≡ Some n → IsTarget site n
    by_observe None is = absurd cc
    by_observe (Some k) is = target_there ask.request.path site thing.invocations n is
