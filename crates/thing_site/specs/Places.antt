-- The place of a path among Things, and the act that a verb asks for there.
use Rattle.std.specs.Prelude.{ℕ, List, [], ◌∷◌, slice_get, Bool, true, false, Option, Some, None, option_map, option_and_then, if◌then◌else◌}
use Rattle.wot_terms.specs.declared.kind.Kind.TheVariants as kind
use Rattle.wot_terms.specs.declared.kind.Kind.{Kind}
use Rattle.thing_ops.specs.declared.verb.Verb.{Verb}
use Rattle.thing_ops.specs.declared.verb.Verb.TheVariants as verb
use Rattle.thing_ops.specs.declared.routing.RouteKind.{RouteKind}
use Rattle.thing_ops.specs.declared.routing.RouteKind.TheVariants as route
use Rattle.thing_ops.specs.declared.allow.Flags.{Flags}
use Rattle.thing_ops.specs.Verbs.{verbs_of}
use Rattle.thing_site.specs.declared.place.Resource.{Resource}
use Rattle.thing_site.specs.declared.place.Resource.TheVariants as place
use Rattle.thing_site.specs.declared.place.ThingAct.{ThingAct}
use Rattle.thing_site.specs.declared.place.ThingAct.TheVariants as act
use Rattle.thing_site.specs.Site.{Placed, ExposedThing, Site, thing_named, affordance_named}

-- ---- places

-- the Thing that the first segment names, and its affordance of this kind that the third names
abbrev pub thing_in : List (List ℕ) → Site → Option ExposedThing
thing_in path site = option_and_then (λ segment. thing_named segment site.things) (slice_get path 0)

abbrev pub affordance_in : Kind → List (List ℕ) → Site → Option Placed
affordance_in k path site =
    option_and_then (λ thing. option_and_then (λ name. affordance_named k name thing.affordances) (slice_get path 2)) (thing_in path site)

-- where a property is observed there is something only where it is observable
abbrev pub where_observable : Placed → Option Resource
where_observable p = if p.affordance.observable then Some (place.Observed p) else None

-- the place of a path of this form; that of an invocation, whether there is one of this id or not
abbrev pub place_at : RouteKind → List (List ℕ) → Site → Option Resource
place_at route.Root path site = option_map place.Description (slice_get site.things 0)
place_at route.Thing path site = option_map place.Description (thing_in path site)
place_at route.All path site = option_map place.AllProperties (thing_in path site)
place_at route.Property path site = option_map place.Property (affordance_in kind.Property path site)
place_at route.Observe path site = option_and_then where_observable (affordance_in kind.Property path site)
place_at route.Subscribe path site = option_map place.Subscribed (affordance_in kind.Event path site)
place_at route.Action path site = option_map place.Action (affordance_in kind.Action path site)
place_at (route.Invocation id) path site = option_map (λ p. place.Invocation p id) (affordance_in kind.Action path site)
place_at route.Event path site = option_map place.Event (affordance_in kind.Event path site)
-- the directory isn't a Thing's
place_at route.Things path site = None
place_at route.Entry path site = None
place_at route.Nowhere path site = None

-- ---- acts

-- the flags of the property that a place is; false for any other place
abbrev pub flags_of : Resource → Flags
flags_of (place.Property p) = record { read_only = p.affordance.read_only; write_only = p.affordance.write_only }
flags_of place = record { read_only = false; write_only = false }

-- the act that a verb asks for at a place where it is taken (TD 1.1, section 8.3, and RFC 9110, section 9.3)
abbrev pub act_of : Resource → Verb → ThingAct
act_of (place.Description thing) v = act.Describes thing
act_of (place.AllProperties thing) verb.Put = act.WritesMany thing
act_of (place.AllProperties thing) v = act.ReadsAll thing
act_of (place.Property p) verb.Put = act.Writes p
act_of (place.Property p) v = act.Reads p
act_of (place.Observed p) v = act.Waits p
act_of (place.Subscribed p) v = act.Waits p
act_of (place.Action p) v = act.Invokes p
act_of (place.Invocation p id) verb.Delete = act.Cancels p id
act_of (place.Invocation p id) v = act.Queries p id
act_of (place.Event p) v = act.ReadsEvent p

-- a verb is among these
abbrev pub is_verb : Verb → Verb → Bool
is_verb verb.Get verb.Get = true
is_verb verb.Head verb.Head = true
is_verb verb.Put verb.Put = true
is_verb verb.Post verb.Post = true
is_verb verb.Patch verb.Patch = true
is_verb verb.Delete verb.Delete = true
is_verb verb.Other verb.Other = true
is_verb v w = false

abbrev pub is_listed : Verb → List Verb → Bool
is_listed v [] = false
is_listed v (w ∷ ws) = if is_verb v w then true else is_listed v ws

-- the act of a verb at a place to which a path of this form leads, where the table of verbs has it there
abbrev pub act_at : RouteKind → Resource → Verb → Option ThingAct
act_at form place v = if is_listed v (verbs_of form (flags_of place)) then Some (act_of place v) else None

-- ---- targets

-- the target of the own path of an observable property or an event: the slot of its affordance
abbrev pub target_at : Option Resource → Option ℕ
target_at (Some (place.Property p)) = if p.affordance.observable then Some p.slot else None
target_at (Some (place.Event p)) = Some p.slot
target_at place = None
