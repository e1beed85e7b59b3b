-- Each Thing and each affordance is at its path.
use Rattle.std.proofs.Common.{◌≡◌, ◌≢◌, ℕ, List, [], ◌∷◌, ◌++◌, map, Bool, true, false, cond, Some, option_map, refl, sym, ap, ◌∙◌}
use Rattle.std.specs.Prelude.{codes, ◌&&◌, option_and_then}
use Rattle.std.specs.Str.{bytes_eq, is_utf8}
use Rattle.std.proofs.lemmas.Slice.Eq.{bytes_eq-Decides}
use Rattle.wot_json.specs.Tree.{Json, Members, no_members, member}
use Rattle.wot_json.specs.Lookup.{value_under}
use Rattle.wot_terms.specs.declared.kind.Kind.{Kind}
use Rattle.wot_terms.specs.declared.kind.Kind.TheVariants as kind
use Rattle.wot_terms.specs.Affordances.{affordance_of, named_affordances}
use Rattle.thing_ops.specs.declared.verb.Verb.{Verb}
use Rattle.thing_ops.specs.declared.verb.Verb.TheVariants as verb
use Rattle.thing_ops.specs.declared.routing.RouteKind.{RouteKind}
use Rattle.thing_ops.specs.declared.routing.RouteKind.TheVariants as route
use Rattle.thing_ops.specs.Routes.{route_of}
use Rattle.thing_site.specs.declared.place.Resource.TheVariants as place
use Rattle.thing_site.specs.declared.place.ThingAct.{ThingAct}
use Rattle.thing_site.specs.declared.place.ThingAct.TheVariants as act
use Rattle.thing_site.specs.Places.{affordance_in, where_observable, place_at, act_at, target_at}
use Rattle.thing_site.specs.Site.{Placed, ExposedThing, Site, Slots, placed, thing_named, affordance_named, is_kind}
use Rattle.description_laws.specs.Leading.{IsTaken}

-- ---- affordances by their names

abbrev pub placed_all : Slots → List ℕ → Kind → Members → List Placed
placed_all slots segment k ms = map (placed slots segment) (named_affordances k ms)

-- of the affordances of a kind the one of a name is that of the member of that name
pub by_member : (slots : Slots) (segment : List ℕ) (k : Kind) (name : List ℕ) (ms : Members) (rest : List Placed) (v : Json) → is_kind k k ≡ true
    → value_under name ms ≡ Some v → affordance_named k name (placed_all slots segment k ms ++ rest) ≡ Some (placed slots segment (affordance_of k name v))
by_member slots segment k name no_members rest v own is = absurd cc
by_member slots segment k name (member m w ms) rest v own is = by (bytes_eq name m) refl (by_member slots segment k name ms rest v own) is
  where
    value : Some w ≡ Some v → w ≡ v
    value e = cc

    by : (b : Bool) → bytes_eq name m ≡ b
        → (value_under name ms ≡ Some v → affordance_named k name (placed_all slots segment k ms ++ rest) ≡ Some (placed slots segment (affordance_of k name v)))
        → cond b (Some w) (value_under name ms) ≡ Some v
        → affordance_named k name (placed_all slots segment k (member m w ms) ++ rest) ≡ Some (placed slots segment (affordance_of k name v))
    by true same later found = rw (own, same) (ap Some (ap (placed slots segment) (sym (ap (λ (n : List ℕ). affordance_of k n w) ((bytes_eq-Decides name m).0 same)) ∙ ap (affordance_of k name) (value found))))
    by false differ later found = rw (own, differ) (later found)

-- those of another kind are passed over
pub past_others : (slots : Slots) (segment : List ℕ) (k other : Kind) (name : List ℕ) (ms : Members) (rest : List Placed) → is_kind k other ≡ false
    → affordance_named k name (placed_all slots segment other ms ++ rest) ≡ affordance_named k name rest
past_others slots segment k other name no_members rest differ = refl
past_others slots segment k other name (member m w ms) rest differ = rw differ (past_others slots segment k other name ms rest differ)

-- a name that is another tests as another
pub other_name : (m n : List ℕ) → m ≢ n → bytes_eq m n ≡ false
other_name m n differ = by (bytes_eq m n) refl
  where
    by : (b : Bool) → bytes_eq m n ≡ b → b ≡ false
    by true same = absurd (differ ((bytes_eq-Decides m n).0 same))
    by false is = refl

-- ---- the places of a Thing

-- a Thing and one of its affordances are found by their names
pub record AreThere (site : Site) (segment : List ℕ) (thing : ExposedThing) : Type 0 where
  pub named : thing_named segment site.things ≡ Some thing
  pub isnt : segment ≢ codes "things"

abbrev pub IsNamed : ExposedThing → Placed → Type 0
IsNamed thing p = affordance_named p.affordance.kind p.affordance.name thing.affordances ≡ Some p

pub affordance_there : (site : Site) (segment middle : List ℕ) (more : List (List ℕ)) (thing : ExposedThing) (k : Kind) (name : List ℕ) (p : Placed) → AreThere site segment thing
    → affordance_named k name thing.affordances ≡ Some p → affordance_in k (segment ∷ middle ∷ name ∷ more) site ≡ Some p
affordance_there site segment middle more thing k name p there is =
    ap (option_and_then (λ (t : ExposedThing). affordance_named k name t.affordances)) there.named ∙ is

-- ---- what is taken there

module _ (site : Site) (segment : List ℕ) (thing : ExposedThing) (there : AreThere site segment thing) where
  pub description_taken : IsTaken site (segment ∷ []) verb.Get (act.Describes thing)
  description_taken = record { place = place.Description thing; there = at; taken = taken }
    where
      other : bytes_eq segment (codes "things") ≡ false
      other = other_name segment (codes "things") there.isnt

      at : place_at (route_of (segment ∷ [])) (segment ∷ []) site ≡ Some (place.Description thing)
      at = rw other (ap (option_map place.Description) there.named)

      taken : act_at (route_of (segment ∷ [])) (place.Description thing) verb.Get ≡ Some (act.Describes thing)
      taken = rw other refl

  route_all : route_of (segment ∷ codes "properties" ∷ []) ≡ route.All
  route_all = by (is_utf8 (codes "properties")) (bytes_eq segment (codes "things")) (other_name segment (codes "things") there.isnt)
    where
      by : (t b : Bool) → b ≡ false → cond (t && b) route.Entry route.All ≡ route.All
      by true true is = absurd cc
      by true false is = refl
      by false b is = refl

  -- the path of all properties
  at_all : (v : Verb) (a : ThingAct) → act_at route.All (place.AllProperties thing) v ≡ Some a → IsTaken site (segment ∷ codes "properties" ∷ []) v a
  at_all v a is = record {
    place = place.AllProperties thing;
    there = ap (λ (r : RouteKind). place_at r (segment ∷ codes "properties" ∷ []) site) route_all ∙ ap (option_map place.AllProperties) there.named;
    taken = ap (λ (r : RouteKind). act_at r (place.AllProperties thing) v) route_all ∙ is;
  }

  pub all_read : IsTaken site (segment ∷ codes "properties" ∷ []) verb.Get (act.ReadsAll thing)
  all_read = at_all verb.Get (act.ReadsAll thing) refl

  pub all_written : IsTaken site (segment ∷ codes "properties" ∷ []) verb.Put (act.WritesMany thing)
  all_written = at_all verb.Put (act.WritesMany thing) refl

  module _ (name : List ℕ) (p : Placed) where
    -- a property
    pub property_taken : affordance_named kind.Property name thing.affordances ≡ Some p → (v : Verb) (a : ThingAct) → act_at route.Property (place.Property p) v ≡ Some a
        → IsTaken site (segment ∷ codes "properties" ∷ name ∷ []) v a
    property_taken named v a is = record {
      place = place.Property p;
      there = ap (option_map place.Property) (affordance_there site segment (codes "properties") [] thing kind.Property name p there named);
      taken = is;
    }

    -- its own path is that of its emissions where it is observable
    pub property_target : affordance_named kind.Property name thing.affordances ≡ Some p → p.affordance.observable ≡ true
        → target_at (place_at (route_of (segment ∷ codes "properties" ∷ name ∷ [])) (segment ∷ codes "properties" ∷ name ∷ []) site) ≡ Some p.slot
    property_target named flag =
        ap target_at (ap (option_map place.Property) (affordance_there site segment (codes "properties") [] thing kind.Property name p there named)) ∙ rw flag refl

    pub read_taken : affordance_named kind.Property name thing.affordances ≡ Some p → p.affordance.write_only ≡ false → IsTaken site (segment ∷ codes "properties" ∷ name ∷ []) verb.Get (act.Reads p)
    read_taken named flag = property_taken named verb.Get (act.Reads p) (rw flag refl)

    pub write_taken : affordance_named kind.Property name thing.affordances ≡ Some p → p.affordance.read_only ≡ false → IsTaken site (segment ∷ codes "properties" ∷ name ∷ []) verb.Put (act.Writes p)
    write_taken named flag = property_taken named verb.Put (act.Writes p) (by p.affordance.write_only refl)
      where
        by : (b : Bool) → p.affordance.write_only ≡ b → act_at route.Property (place.Property p) verb.Put ≡ Some (act.Writes p)
        by true is = rw (is, flag) refl
        by false is = rw (is, flag) refl

    pub observe_taken : affordance_named kind.Property name thing.affordances ≡ Some p → p.affordance.observable ≡ true
        → IsTaken site (segment ∷ codes "properties" ∷ name ∷ codes "observe" ∷ []) verb.Get (act.Waits p)
    observe_taken named flag = record {
      place = place.Observed p;
      there = ap (option_and_then where_observable) (affordance_there site segment (codes "properties") (codes "observe" ∷ []) thing kind.Property name p there named) ∙ rw flag refl;
      taken = refl;
    }

    -- an action
    pub invoke_taken : affordance_named kind.Action name thing.affordances ≡ Some p → IsTaken site (segment ∷ codes "actions" ∷ name ∷ []) verb.Post (act.Invokes p)
    invoke_taken named = record {
      place = place.Action p;
      there = ap (option_map place.Action) (affordance_there site segment (codes "actions") [] thing kind.Action name p there named);
      taken = refl;
    }

    -- an event
    pub subscribe_taken : affordance_named kind.Event name thing.affordances ≡ Some p → IsTaken site (segment ∷ codes "events" ∷ name ∷ codes "subscribe" ∷ []) verb.Get (act.Waits p)
    subscribe_taken named = record {
      place = place.Subscribed p;
      there = ap (option_map place.Subscribed) (affordance_there site segment (codes "events") (codes "subscribe" ∷ []) thing kind.Event name p there named);
      taken = refl;
    }

    pub event_taken : affordance_named kind.Event name thing.affordances ≡ Some p → IsTaken site (segment ∷ codes "events" ∷ name ∷ []) verb.Get (act.ReadsEvent p)
    event_taken named = record {
      place = place.Event p;
      there = ap (option_map place.Event) (affordance_there site segment (codes "events") [] thing kind.Event name p there named);
      taken = refl;
    }

    pub event_target : affordance_named kind.Event name thing.affordances ≡ Some p
        → target_at (place_at (route_of (segment ∷ codes "events" ∷ name ∷ [])) (segment ∷ codes "events" ∷ name ∷ []) site) ≡ Some p.slot
    event_target named = ap target_at (ap (option_map place.Event) (affordance_there site segment (codes "events") [] thing kind.Event name p there named))
