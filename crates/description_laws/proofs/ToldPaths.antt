-- Each act at the paths of one Thing is told, path by path.
use Rattle.std.proofs.Common.{◌≡◌, ℕ, Bool, true, false, cond, List, [], ◌∷◌, Option, Some, None, inl, inr, refl, sym, ap, subst, ◌∙◌}
use Rattle.std.specs.Prelude.{codes, ◌⊎◌, slice_get, IfSome, option_map, option_and_then, if◌then◌else◌}
use Rattle.std.specs.Str.{bytes_eq}
use Rattle.std.proofs.lemmas.Slice.Eq.{bytes_eq-Decides}
use Rattle.wot_json.specs.Tree.{Json, object, Members}
use Rattle.wot_terms.specs.declared.kind.Kind.TheVariants as kind
use Rattle.wot_terms.specs.Faults.{faults_of}
use Rattle.wot_forms.specs.declared.bases.Bases.{Bases}
use Rattle.wot_forms.specs.Segments.{is_plain_segment}
use Rattle.wot_forms.specs.Generated.{is_coap_segment, generated, generated_forms}
use Rattle.thing_ops.specs.declared.verb.Verb.{Verb}
use Rattle.thing_ops.specs.declared.verb.Verb.TheVariants as verb
use Rattle.thing_ops.specs.declared.routing.RouteKind.{RouteKind}
use Rattle.thing_ops.specs.declared.routing.RouteKind.TheVariants as route
use Rattle.thing_ops.specs.Routes.{route_of}
use Rattle.thing_ops.specs.Verbs.{property_verbs, verbs_of}
use Rattle.thing_site.specs.declared.place.Resource.{Resource}
use Rattle.thing_site.specs.declared.place.Resource.TheVariants as place
use Rattle.thing_site.specs.declared.place.ThingAct.{ThingAct}
use Rattle.thing_site.specs.declared.place.ThingAct.TheVariants as act
use Rattle.thing_site.specs.Places.{affordance_in, where_observable, place_at, act_of, act_at, is_listed, flags_of}
use Rattle.thing_site.specs.Site.{Placed, ExposedThing, Site, Slots, exposed, thing_named, affordance_named}
use Rattle.description_laws.specs.Encoding.{AreBytes}
use Rattle.description_laws.specs.Leading.{Binding, Http, Coap, asked_by}
use Rattle.description_laws.specs.Taking.{Says, IsUnsaid, IsSaidOf, IsTold, TellsAll}
use Rattle.description_laws.proofs.Places.{AreThere, other_name}
use Rattle.description_laws.proofs.RouteForms.{root, all, nowhere, two_forms, property, action, event, no_place, three_forms, observe, subscribe, invocation, no_thing, four_forms}
use Rattle.description_laws.proofs.Saying.{SaidOrNot, read_said, write_said, observe_said, invoke_said, event_said, subscribe_said}
use Rattle.description_laws.proofs.ToldThing.{IsKnown, known, among_forms}
use Rattle.description_laws.proofs.RootTold.{reads_told, writes_told}

-- ---- small steps

some_same : {A : Type 0} (x y : A) → Some x ≡ Some y → x ≡ y
some_same x y e = cc

none_isnt : {A : Type 0} (x : A) → None ≡ Some x → ⊥
none_isnt x e = cc

-- the two truth values differ
never : true ≡ false → ⊥
never e = cc

-- a value that is there gives the value at a place
affordance_is : {A B : Type 0} (f : A → Option B) (o : Option A) (x : A) (y : B) → o ≡ Some x → option_and_then f o ≡ Some y → f x ≡ Some y
affordance_is f o x y there is = sym (ap (option_and_then f) there) ∙ is

-- what a test lets through
let_through : {A : Type 0} (test : Bool) (x y : A) → (if test then Some x else None) ≡ Some y → (test ≡ true) × (x ≡ y)
let_through true x y e = (refl, some_same x y e)
let_through false x y e = absurd (none_isnt y e)

-- of a value that is there
if_there : {A B : Type 0} (f : A → B) (o : Option A) (y : B) → option_map f o ≡ Some y → (x : A) × (o ≡ Some x) × (f x ≡ y)
if_there f None y e = absurd (none_isnt y e)
if_there f (Some x) y e = (x, refl, some_same (f x) y e)

-- a property is read where it isn't write-only, and written where it isn't read-only
get_listed : (ro wo : Bool) → is_listed verb.Get (property_verbs (record { read_only = ro; write_only = wo })) ≡ true → wo ≡ false
get_listed true true listed = absurd cc
get_listed false true listed = absurd cc
get_listed ro false listed = refl

put_listed : (ro wo : Bool) → is_listed verb.Put (property_verbs (record { read_only = ro; write_only = wo })) ≡ true → ro ≡ false
put_listed true true listed = absurd cc
put_listed true false listed = absurd cc
put_listed false wo listed = refl

unlisted : (w : Verb) → is_listed w (verb.Get ∷ verb.Head ∷ verb.Put ∷ []) ≡ false → (ro wo : Bool) → is_listed w (property_verbs (record { read_only = ro; write_only = wo })) ≡ true → ⊥
unlisted verb.Get isnt ro wo listed = never isnt
unlisted verb.Head isnt ro wo listed = never isnt
unlisted verb.Put isnt ro wo listed = never isnt
unlisted verb.Post isnt true true listed = never (sym listed)
unlisted verb.Post isnt true false listed = never (sym listed)
unlisted verb.Post isnt false true listed = never (sym listed)
unlisted verb.Post isnt false false listed = never (sym listed)
unlisted verb.Patch isnt true true listed = never (sym listed)
unlisted verb.Patch isnt true false listed = never (sym listed)
unlisted verb.Patch isnt false true listed = never (sym listed)
unlisted verb.Patch isnt false false listed = never (sym listed)
unlisted verb.Delete isnt true true listed = never (sym listed)
unlisted verb.Delete isnt true false listed = never (sym listed)
unlisted verb.Delete isnt false true listed = never (sym listed)
unlisted verb.Delete isnt false false listed = never (sym listed)
unlisted verb.Other isnt true true listed = never (sym listed)
unlisted verb.Other isnt true false listed = never (sym listed)
unlisted verb.Other isnt false true listed = never (sym listed)
unlisted verb.Other isnt false false listed = never (sym listed)

named_segment : (s : List ℕ) (things : List ExposedThing) (t : ExposedThing) → thing_named s things ≡ Some t → s ≡ t.segment
named_segment s [] t e = absurd (none_isnt t e)
named_segment s (u ∷ things) t e = by (bytes_eq s u.segment) refl (named_segment s things t) e
  where
    by : (b : Bool) → bytes_eq s u.segment ≡ b → (thing_named s things ≡ Some t → s ≡ t.segment) → cond b (Some u) (thing_named s things) ≡ Some t → s ≡ t.segment
    by true same later is = (bytes_eq-Decides s u.segment).0 same ∙ ap (λ (x : ExposedThing). x.segment) (some_same u t is)
    by false differ later is = later is

module _ (bases : Bases) (site : Site) (segment : List ℕ) (plain : is_plain_segment segment ≡ true) (slots : Slots) (ms : Members) where
  abbrev tree : Json
  tree = generated (object ms) bases segment

  abbrev t : ExposedThing
  t = exposed slots (segment, tree)

  module _ (there : AreThere site segment t) (valid : faults_of tree ≡ []) (b : Binding) (v : Verb) (a : ThingAct) where
    abbrev Told : List (List ℕ) → Type 0
    Told path = IsTold bases b t path v a

    -- the act of a place
    of_act : (path : List (List ℕ)) (r : RouteKind) (p : Resource) → act_at r p v ≡ Some a → (is_listed v (verbs_of r (flags_of p)) ≡ true → IsTold bases b t path v (act_of p v)) → Told path
    of_act path r p taken told =
        let is = let_through (is_listed v (verbs_of r (flags_of p))) (act_of p v) a taken in
        subst (λ (x : ThingAct). IsTold bases b t path v x) is.1 (told is.0)

    pub described : (path : List (List ℕ)) (r : RouteKind) (p : Resource) (o : Option ExposedThing) → option_map place.Description o ≡ Some p → act_at r p v ≡ Some a → Told path
    described path r p o at taken =
        let is = if_there place.Description o p at in
        of_act path r p taken (λ listed. subst (λ (q : Resource). IsTold bases b t path v (act_of q v)) is.2 tt)

    -- ---- all properties

    pub all_told : (w : Verb) → is_listed w (verbs_of route.All (flags_of (place.AllProperties t))) ≡ true → IsTold bases b t (segment ∷ codes "properties" ∷ []) w (act_of (place.AllProperties t) w)
    all_told verb.Get listed = inr (reads_told bases segment plain t ms b)
    all_told verb.Head listed = inl refl
    all_told verb.Put listed = writes_told bases segment plain t ms b
    all_told verb.Post listed = absurd cc
    all_told verb.Patch listed = absurd cc
    all_told verb.Delete listed = absurd cc
    all_told verb.Other listed = absurd cc

    -- ---- one affordance

    module _ (name : List ℕ) (are : AreBytes name) (p : Placed) where
      -- a form that was generated, or a name that no URL says
      pub of_said : (c : Binding) (k : _) (path : List (List ℕ)) (w : Verb) (x : ThingAct) (is : IsKnown bases segment t k name p)
          → SaidOrNot bases segment plain name are p is.defaults c path w x (generated_forms bases segment k name is.value) → IsUnsaid c p ⊎ IsSaidOf bases c t p path w x
      of_said c k path w x is (inl unsaid) = inl (unsaid.0, ap is_coap_segment is.name_is ∙ unsaid.1)
      of_said c k path w x is (inr among) = inr (among_forms bases segment t k name p is (Says bases c (λ o. asked_by c o p) path w x) among)

      property_told : affordance_named kind.Property name t.affordances ≡ Some p → (w : Verb) → is_listed w (verbs_of route.Property (flags_of (place.Property p))) ≡ true
          → IsTold bases b t (segment ∷ codes "properties" ∷ name ∷ []) w (act_of (place.Property p) w)
      property_told named verb.Get listed =
          let is = known bases site segment plain slots ms valid kind.Property name p named in
          inr (of_said b kind.Property (segment ∷ codes "properties" ∷ name ∷ []) verb.Get (act.Reads p) is
          (read_said bases segment plain name are p is.defaults is.value b (sym is.of.write_only ∙ get_listed p.affordance.read_only p.affordance.write_only listed)))
      property_told named verb.Head listed = inl refl
      property_told named verb.Put listed =
          let is = known bases site segment plain slots ms valid kind.Property name p named in
          of_said b kind.Property (segment ∷ codes "properties" ∷ name ∷ []) verb.Put (act.Writes p) is
          (write_said bases segment plain name are p is.defaults is.value b (sym is.of.read_only ∙ put_listed p.affordance.read_only p.affordance.write_only listed))
      property_told named verb.Post listed = absurd (unlisted verb.Post refl p.affordance.read_only p.affordance.write_only listed)
      property_told named verb.Patch listed = absurd (unlisted verb.Patch refl p.affordance.read_only p.affordance.write_only listed)
      property_told named verb.Delete listed = absurd (unlisted verb.Delete refl p.affordance.read_only p.affordance.write_only listed)
      property_told named verb.Other listed = absurd (unlisted verb.Other refl p.affordance.read_only p.affordance.write_only listed)

      action_told : affordance_named kind.Action name t.affordances ≡ Some p → (w : Verb) → is_listed w (verbs_of route.Action (flags_of (place.Action p))) ≡ true
          → IsTold bases b t (segment ∷ codes "actions" ∷ name ∷ []) w (act_of (place.Action p) w)
      action_told named verb.Post listed =
          let is = known bases site segment plain slots ms valid kind.Action name p named in
          of_said b kind.Action (segment ∷ codes "actions" ∷ name ∷ []) verb.Post (act.Invokes p) is (invoke_said bases segment plain name are p is.defaults is.value b)
      action_told named verb.Get listed = absurd cc
      action_told named verb.Head listed = absurd cc
      action_told named verb.Put listed = absurd cc
      action_told named verb.Patch listed = absurd cc
      action_told named verb.Delete listed = absurd cc
      action_told named verb.Other listed = absurd cc

      event_told_by : affordance_named kind.Event name t.affordances ≡ Some p → (c : Binding) → (c ≡ Http) ⊎ (IsUnsaid c p ⊎ IsSaidOf bases c t p (segment ∷ codes "events" ∷ name ∷ []) verb.Get (act.ReadsEvent p))
      event_told_by named Http = inl refl
      event_told_by named Coap =
          let is = known bases site segment plain slots ms valid kind.Event name p named in
          inr (of_said Coap kind.Event (segment ∷ codes "events" ∷ name ∷ []) verb.Get (act.ReadsEvent p) is (event_said bases segment plain name are p is.defaults is.value))

      event_told : affordance_named kind.Event name t.affordances ≡ Some p → (w : Verb) → is_listed w (verbs_of route.Event (flags_of (place.Event p))) ≡ true
          → IsTold bases b t (segment ∷ codes "events" ∷ name ∷ []) w (act_of (place.Event p) w)
      event_told named verb.Get listed = inr (event_told_by named b)
      event_told named verb.Head listed = inl refl
      event_told named verb.Put listed = absurd cc
      event_told named verb.Post listed = absurd cc
      event_told named verb.Patch listed = absurd cc
      event_told named verb.Delete listed = absurd cc
      event_told named verb.Other listed = absurd cc

      observe_told_by : affordance_named kind.Property name t.affordances ≡ Some p → p.affordance.observable ≡ true → (c : Binding)
          → (c ≡ Coap) ⊎ IsSaidOf bases c t p (segment ∷ codes "properties" ∷ name ∷ codes "observe" ∷ []) verb.Get (act.Waits p)
      observe_told_by named flag Http =
          let is = known bases site segment plain slots ms valid kind.Property name p named in
          inr (among_forms bases segment t kind.Property name p is (Says bases Http (λ o. asked_by Http o p) (segment ∷ codes "properties" ∷ name ∷ codes "observe" ∷ []) verb.Get (act.Waits p))
          (observe_said bases segment plain name are p is.defaults is.value (sym is.of.observable ∙ flag)))
      observe_told_by named flag Coap = inl refl

      observe_told : affordance_named kind.Property name t.affordances ≡ Some p → p.affordance.observable ≡ true → (w : Verb) → is_listed w (verbs_of route.Observe (flags_of (place.Observed p))) ≡ true
          → IsTold bases b t (segment ∷ codes "properties" ∷ name ∷ codes "observe" ∷ []) w (act_of (place.Observed p) w)
      observe_told named flag verb.Get listed = observe_told_by named flag b
      observe_told named flag verb.Head listed = absurd cc
      observe_told named flag verb.Put listed = absurd cc
      observe_told named flag verb.Post listed = absurd cc
      observe_told named flag verb.Patch listed = absurd cc
      observe_told named flag verb.Delete listed = absurd cc
      observe_told named flag verb.Other listed = absurd cc

      subscribe_told_by : affordance_named kind.Event name t.affordances ≡ Some p → (c : Binding)
          → (c ≡ Coap) ⊎ IsSaidOf bases c t p (segment ∷ codes "events" ∷ name ∷ codes "subscribe" ∷ []) verb.Get (act.Waits p)
      subscribe_told_by named Http =
          let is = known bases site segment plain slots ms valid kind.Event name p named in
          inr (among_forms bases segment t kind.Event name p is (Says bases Http (λ o. asked_by Http o p) (segment ∷ codes "events" ∷ name ∷ codes "subscribe" ∷ []) verb.Get (act.Waits p))
          (subscribe_said bases segment plain name are p is.defaults is.value))
      subscribe_told_by named Coap = inl refl

      subscribe_told : affordance_named kind.Event name t.affordances ≡ Some p → (w : Verb) → is_listed w (verbs_of route.Subscribe (flags_of (place.Subscribed p))) ≡ true
          → IsTold bases b t (segment ∷ codes "events" ∷ name ∷ codes "subscribe" ∷ []) w (act_of (place.Subscribed p) w)
      subscribe_told named verb.Get listed = subscribe_told_by named b
      subscribe_told named verb.Head listed = absurd cc
      subscribe_told named verb.Put listed = absurd cc
      subscribe_told named verb.Post listed = absurd cc
      subscribe_told named verb.Patch listed = absurd cc
      subscribe_told named verb.Delete listed = absurd cc
      subscribe_told named verb.Other listed = absurd cc

    -- ---- paths of each length

    other : bytes_eq segment (codes "things") ≡ false
    other = other_name segment (codes "things") there.isnt

    one_told : (p : Resource) → place_at (route_of (segment ∷ [])) (segment ∷ []) site ≡ Some p → act_at (route_of (segment ∷ [])) p v ≡ Some a → Told (segment ∷ [])
    one_told p at taken =
        described (segment ∷ []) route.Thing p (thing_named segment site.things) (subst (λ (r : RouteKind). place_at r (segment ∷ []) site ≡ Some p) route_is at)
        (subst (λ (r : RouteKind). act_at r p v ≡ Some a) route_is taken)
      where
        route_is : route_of (segment ∷ []) ≡ route.Thing
        route_is = rw other refl

    two_told : (m : List ℕ) (p : Resource) → place_at (route_of (segment ∷ m ∷ [])) (segment ∷ m ∷ []) site ≡ Some p → act_at (route_of (segment ∷ m ∷ [])) p v ≡ Some a → Told (segment ∷ m ∷ [])
    two_told m p at taken = elim (two_forms segment m other) [
      | root e ↦
          described (segment ∷ m ∷ []) route.Root p (slice_get site.things 0) (subst (λ (r : RouteKind). place_at r (segment ∷ m ∷ []) site ≡ Some p) e at)
          (subst (λ (r : RouteKind). act_at r p v ≡ Some a) e taken)
      | all word e ↦
          subst (λ (w : List ℕ). Told (segment ∷ w ∷ [])) (sym word)
          (of_act (segment ∷ codes "properties" ∷ []) route.All (place.AllProperties t)
          (subst (λ (q : Resource). act_at route.All q v ≡ Some a) (sym (at_all (subst (λ (r : RouteKind). place_at r (segment ∷ m ∷ []) site ≡ Some p) e at))) (subst (λ (r : RouteKind). act_at r p v ≡ Some a) e taken))
          (all_told v))
      | nowhere e ↦ absurd (none_isnt p (subst (λ (r : RouteKind). place_at r (segment ∷ m ∷ []) site ≡ Some p) e at))
    ]
      where
        at_all : option_map place.AllProperties (thing_named segment site.things) ≡ Some p → place.AllProperties t ≡ p
        at_all is = some_same (place.AllProperties t) p (sym (ap (option_map place.AllProperties) there.named) ∙ is)

    three_told : (m n : List ℕ) → AreBytes n → (p : Resource) → place_at (route_of (segment ∷ m ∷ n ∷ [])) (segment ∷ m ∷ n ∷ []) site ≡ Some p → act_at (route_of (segment ∷ m ∷ n ∷ [])) p v ≡ Some a
        → Told (segment ∷ m ∷ n ∷ [])
    three_told m n are p at taken = elim (three_forms segment m n) [
      | property word e ↦
          let found = if_there place.Property (affordance_in kind.Property (segment ∷ m ∷ n ∷ []) site) p (subst (λ (r : RouteKind). place_at r (segment ∷ m ∷ n ∷ []) site ≡ Some p) e at) in
          subst (λ (w : List ℕ). Told (segment ∷ w ∷ n ∷ [])) (sym word)
          (of_act (segment ∷ codes "properties" ∷ n ∷ []) route.Property (place.Property found.0)
          (subst (λ (q : Resource). act_at route.Property q v ≡ Some a) (sym found.2) (subst (λ (r : RouteKind). act_at r p v ≡ Some a) e taken))
          (property_told n are found.0 (affordance_is (λ (x : ExposedThing). affordance_named kind.Property n x.affordances) (thing_named segment site.things) t found.0 there.named found.1) v))
      | action word e ↦
          let found = if_there place.Action (affordance_in kind.Action (segment ∷ m ∷ n ∷ []) site) p (subst (λ (r : RouteKind). place_at r (segment ∷ m ∷ n ∷ []) site ≡ Some p) e at) in
          subst (λ (w : List ℕ). Told (segment ∷ w ∷ n ∷ [])) (sym word)
          (of_act (segment ∷ codes "actions" ∷ n ∷ []) route.Action (place.Action found.0)
          (subst (λ (q : Resource). act_at route.Action q v ≡ Some a) (sym found.2) (subst (λ (r : RouteKind). act_at r p v ≡ Some a) e taken))
          (action_told n are found.0 (affordance_is (λ (x : ExposedThing). affordance_named kind.Action n x.affordances) (thing_named segment site.things) t found.0 there.named found.1) v))
      | event word e ↦
          let found = if_there place.Event (affordance_in kind.Event (segment ∷ m ∷ n ∷ []) site) p (subst (λ (r : RouteKind). place_at r (segment ∷ m ∷ n ∷ []) site ≡ Some p) e at) in
          subst (λ (w : List ℕ). Told (segment ∷ w ∷ n ∷ [])) (sym word)
          (of_act (segment ∷ codes "events" ∷ n ∷ []) route.Event (place.Event found.0)
          (subst (λ (q : Resource). act_at route.Event q v ≡ Some a) (sym found.2) (subst (λ (r : RouteKind). act_at r p v ≡ Some a) e taken))
          (event_told n are found.0 (affordance_is (λ (x : ExposedThing). affordance_named kind.Event n x.affordances) (thing_named segment site.things) t found.0 there.named found.1) v))
      | no_place e ↦ absurd (none_isnt p (subst (λ (r : RouteKind). place_at r (segment ∷ m ∷ n ∷ []) site ≡ Some p) e at))
    ]

    four_told : (m n x : List ℕ) → AreBytes n → (p : Resource) → place_at (route_of (segment ∷ m ∷ n ∷ x ∷ [])) (segment ∷ m ∷ n ∷ x ∷ []) site ≡ Some p
        → act_at (route_of (segment ∷ m ∷ n ∷ x ∷ [])) p v ≡ Some a → Told (segment ∷ m ∷ n ∷ x ∷ [])
    four_told m n x are p at taken = elim (four_forms segment m n x) [
      | observe word last e ↦
          let found = if_observed (affordance_in kind.Property (segment ∷ m ∷ n ∷ x ∷ []) site) p (subst (λ (r : RouteKind). place_at r (segment ∷ m ∷ n ∷ x ∷ []) site ≡ Some p) e at) in
          subst (λ (w : List ℕ). Told (segment ∷ w ∷ n ∷ x ∷ [])) (sym word) (subst (λ (y : List ℕ). Told (segment ∷ codes "properties" ∷ n ∷ y ∷ [])) (sym last)
          (of_act (segment ∷ codes "properties" ∷ n ∷ codes "observe" ∷ []) route.Observe (place.Observed found.0)
          (subst (λ (q : Resource). act_at route.Observe q v ≡ Some a) (sym found.3) (subst (λ (r : RouteKind). act_at r p v ≡ Some a) e taken))
          (observe_told n are found.0 (affordance_is (λ (u : ExposedThing). affordance_named kind.Property n u.affordances) (thing_named segment site.things) t found.0 there.named found.1) found.2 v)))
      | subscribe word last e ↦
          let found = if_there place.Subscribed (affordance_in kind.Event (segment ∷ m ∷ n ∷ x ∷ []) site) p (subst (λ (r : RouteKind). place_at r (segment ∷ m ∷ n ∷ x ∷ []) site ≡ Some p) e at) in
          subst (λ (w : List ℕ). Told (segment ∷ w ∷ n ∷ x ∷ [])) (sym word) (subst (λ (y : List ℕ). Told (segment ∷ codes "events" ∷ n ∷ y ∷ [])) (sym last)
          (of_act (segment ∷ codes "events" ∷ n ∷ codes "subscribe" ∷ []) route.Subscribe (place.Subscribed found.0)
          (subst (λ (q : Resource). act_at route.Subscribe q v ≡ Some a) (sym found.2) (subst (λ (r : RouteKind). act_at r p v ≡ Some a) e taken))
          (subscribe_told n are found.0 (affordance_is (λ (u : ExposedThing). affordance_named kind.Event n u.affordances) (thing_named segment site.things) t found.0 there.named found.1) v)))
      | invocation id e ↦
          let found = if_there (λ q. place.Invocation q id) (affordance_in kind.Action (segment ∷ m ∷ n ∷ x ∷ []) site) p (subst (λ (r : RouteKind). place_at r (segment ∷ m ∷ n ∷ x ∷ []) site ≡ Some p) e at) in
          of_act (segment ∷ m ∷ n ∷ x ∷ []) (route.Invocation id) (place.Invocation found.0 id)
          (subst (λ (q : Resource). act_at (route.Invocation id) q v ≡ Some a) (sym found.2) (subst (λ (r : RouteKind). act_at r p v ≡ Some a) e taken))
          (λ listed. of_invocation (segment ∷ m ∷ n ∷ x ∷ []) found.0 id v)
      | no_thing e ↦ absurd (none_isnt p (subst (λ (r : RouteKind). place_at r (segment ∷ m ∷ n ∷ x ∷ []) site ≡ Some p) e at))
    ]
      where
        if_observed : (o : Option Placed) (q : Resource) → option_and_then where_observable o ≡ Some q → (x : Placed) × (o ≡ Some x) × (x.affordance.observable ≡ true) × (place.Observed x ≡ q)
        if_observed None q is = absurd (none_isnt q is)
        if_observed (Some y) q is = let through = let_through y.affordance.observable (place.Observed y) q is in (y, refl, through.0, through.1)

        of_invocation : (path : List (List ℕ)) (q : Placed) (id : ℕ) (w : Verb) → IsTold bases b t path w (act_of (place.Invocation q id) w)
        of_invocation path q id verb.Get = tt
        of_invocation path q id verb.Head = tt
        of_invocation path q id verb.Put = tt
        of_invocation path q id verb.Post = tt
        of_invocation path q id verb.Patch = tt
        of_invocation path q id verb.Delete = tt
        of_invocation path q id verb.Other = tt

    behind_told : (rest : List (List ℕ)) (p : Resource) → IfSome (slice_get (segment ∷ rest) 2) AreBytes → place_at (route_of (segment ∷ rest)) (segment ∷ rest) site ≡ Some p
        → act_at (route_of (segment ∷ rest)) p v ≡ Some a → Told (segment ∷ rest)
    behind_told [] p are at taken = one_told p at taken
    behind_told (m ∷ []) p are at taken = two_told m p at taken
    behind_told (m ∷ n ∷ []) p are at taken = three_told m n are p at taken
    behind_told (m ∷ n ∷ x ∷ []) p are at taken = four_told m n x are p at taken
    behind_told (m ∷ n ∷ x ∷ y ∷ more) p are at taken = absurd (none_isnt p at)

  pub tells : AreThere site segment t → faults_of tree ≡ [] → TellsAll bases site t
  tells there valid b [] p v a in_it are at taken = absurd (none_isnt t in_it)
  tells there valid b (s ∷ rest) p v a in_it are at taken =
      subst (λ (x : List ℕ). IfSome (slice_get (x ∷ rest) 2) AreBytes → place_at (route_of (x ∷ rest)) (x ∷ rest) site ≡ Some p → act_at (route_of (x ∷ rest)) p v ≡ Some a → IsTold bases b t (x ∷ rest) v a)
      (sym (named_segment s site.things t in_it)) (behind_told there valid b v a rest p) are at taken
