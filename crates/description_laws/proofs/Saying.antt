-- Each operation of an affordance has its form.
use Rattle.std.proofs.Common.{◌≡◌, ℕ, Bool, true, false, List, [], ◌∷◌, ◌++◌, map, Some, None, inl, inr, refl}
use Rattle.std.specs.Prelude.{codes, ◌⊎◌, if◌then◌else◌}
use Rattle.wot_json.specs.Tree.{Json}
use Rattle.wot_terms.specs.declared.kind.Kind.TheVariants as kind
use Rattle.wot_terms.specs.declared.op.Op.{Op}
use Rattle.wot_terms.specs.declared.op.Op.TheVariants as op
use Rattle.wot_terms.specs.Affordances.{flag_of}
use Rattle.wot_forms.specs.declared.bases.Bases.{Bases}
use Rattle.wot_forms.specs.Forms.{form_of, default_ops}
use Rattle.wot_forms.specs.Segments.{is_plain_segment}
use Rattle.wot_forms.specs.Generated.{form, plain_form, affordance_path, is_coap_segment, generated_forms}
use Rattle.thing_ops.specs.declared.verb.Verb.{Verb}
use Rattle.thing_ops.specs.declared.verb.Verb.TheVariants as verb
use Rattle.thing_site.specs.declared.place.ThingAct.{ThingAct}
use Rattle.thing_site.specs.declared.place.ThingAct.TheVariants as act
use Rattle.thing_site.specs.Site.{Placed}
use Rattle.description_laws.specs.Encoding.{AreBytes}
use Rattle.description_laws.specs.Leading.{Binding, Http, Coap, HasPath, base_by, asked_by}
use Rattle.description_laws.specs.Taking.{Among, Says}
use Rattle.description_laws.proofs.Forms.{path_said_by, observe_path_said, subscribe_path_said, unchanged_path}

-- ---- lists

pub among_left : {A : Type 0} (P : A → Type 0) (xs ys : List A) → Among P xs → Among P (xs ++ ys)
among_left P [] ys is = absurd is
among_left P (x ∷ xs) ys (inl is) = inl is
among_left P (x ∷ xs) ys (inr is) = inr (among_left P xs ys is)

pub among_right : {A : Type 0} (P : A → Type 0) (xs ys : List A) → Among P ys → Among P (xs ++ ys)
among_right P [] ys is = is
among_right P (x ∷ xs) ys is = inr (among_right P xs ys is)

pub among_mapped : {A B : Type 0} (P : B → Type 0) (f : A → B) (xs : List A) → Among (λ x. P (f x)) xs → Among P (map f xs)
among_mapped P f [] is = absurd is
among_mapped P f (x ∷ xs) (inl is) = inl is
among_mapped P f (x ∷ xs) (inr is) = inr (among_mapped P f xs is)

-- of forms over both bindings those over one
abbrev pick : Binding → List Json → List Json → List Json
pick Http h c = h
pick Coap h c = c

by_binding : (b : Binding) (P : Json → Type 0) (coap : Bool) (h c : List Json) → Among P (pick b h c) → ((b ≡ Coap) × (coap ≡ false)) ⊎ Among P (h ++ (if coap then c else []))
by_binding Http P coap h c is = inr (among_left P h (if coap then c else []) is)
by_binding Coap P true h c is = inr (among_right P h c is)
by_binding Coap P false h c is = inl (refl, refl)

module _ (bases : Bases) (segment : List ℕ) (plain : is_plain_segment segment ≡ true) (name : List ℕ) (are : AreBytes name) (p : Placed) (defaults : List Op) where
  abbrev SaidBy : Binding → List (List ℕ) → Verb → ThingAct → Json → Type 0
  SaidBy b path v a w = Says bases b (λ o. asked_by b o p) path v a (form_of defaults w)

  abbrev pub SaidOrNot : Binding → List (List ℕ) → Verb → ThingAct → List Json → Type 0
  SaidOrNot b path v a forms = ((b ≡ Coap) × (is_coap_segment name ≡ false)) ⊎ Among (SaidBy b path v a) forms

  -- ---- properties

  abbrev path_by : Binding → List ℕ
  path_by b = affordance_path (base_by b bases) segment kind.Property name

  abbrev property_words : List (List ℕ)
  property_words = segment ∷ codes "properties" ∷ name ∷ []

  abbrev property_forms : Binding → Bool → Bool → Bool → List Json
  property_forms Http ro wo obs = plain_form (path_by Http) (default_ops kind.Property ro wo) ++ (if obs then form (path_by Http ++ codes "/observe") (op.ObserveProperty ∷ op.UnobserveProperty ∷ []) (Some (codes "longpoll")) ∷ [] else [])
  property_forms Coap ro wo obs = plain_form (path_by Coap) (default_ops kind.Property ro wo) ++ (if obs then form (path_by Coap ++ []) (op.ObserveProperty ∷ op.UnobserveProperty ∷ []) (Some (codes "cov:observe")) ∷ [] else [])

  said : (b : Binding) → HasPath (base_by b bases) b (path_by b) property_words
  said Http = path_said_by segment plain name are Http bases.http kind.Property
  said Coap = path_said_by segment plain name are Coap bases.coap kind.Property

  plain_read : (b : Binding) (ro : Bool) → Among (SaidBy b property_words verb.Get (act.Reads p)) (plain_form (path_by b) (default_ops kind.Property ro false))
  plain_read Http true = inl (said Http, inl refl)
  plain_read Http false = inl (said Http, inl refl)
  plain_read Coap true = inl (said Coap, inl refl)
  plain_read Coap false = inl (said Coap, inl refl)

  plain_write : (b : Binding) (wo : Bool) → Among (SaidBy b property_words verb.Put (act.Writes p)) (plain_form (path_by b) (default_ops kind.Property false wo))
  plain_write Http true = inl (said Http, inl refl)
  plain_write Http false = inl (said Http, inr (inl refl))
  plain_write Coap true = inl (said Coap, inl refl)
  plain_write Coap false = inl (said Coap, inr (inl refl))

  in_property_forms : (b : Binding) (P : Json → Type 0) (ro wo obs : Bool) → Among P (plain_form (path_by b) (default_ops kind.Property ro wo)) → Among P (property_forms b ro wo obs)
  in_property_forms Http P ro wo obs is = among_left P (plain_form (path_by Http) (default_ops kind.Property ro wo)) _ is
  in_property_forms Coap P ro wo obs is = among_left P (plain_form (path_by Coap) (default_ops kind.Property ro wo)) _ is

  of_both : (b : Binding) (P : Json → Type 0) (ro wo obs : Bool) → Among P (property_forms b ro wo obs) → ((b ≡ Coap) × (is_coap_segment name ≡ false)) ⊎ Among P (property_forms Http ro wo obs ++ (if is_coap_segment name then property_forms Coap ro wo obs else []))
  of_both Http P ro wo obs is = by_binding Http P (is_coap_segment name) (property_forms Http ro wo obs) (property_forms Coap ro wo obs) is
  of_both Coap P ro wo obs is = by_binding Coap P (is_coap_segment name) (property_forms Http ro wo obs) (property_forms Coap ro wo obs) is

  read_by : (b : Binding) (ro wo obs : Bool) → wo ≡ false → Among (SaidBy b property_words verb.Get (act.Reads p)) (property_forms b ro wo obs)
  read_by b ro true obs is = absurd cc
  read_by b ro false obs is = in_property_forms b (SaidBy b property_words verb.Get (act.Reads p)) ro false obs (plain_read b ro)

  write_by : (b : Binding) (ro wo obs : Bool) → ro ≡ false → Among (SaidBy b property_words verb.Put (act.Writes p)) (property_forms b ro wo obs)
  write_by b true wo obs is = absurd cc
  write_by b false wo obs is = in_property_forms b (SaidBy b property_words verb.Put (act.Writes p)) false wo obs (plain_write b wo)

  observe_by_http : (ro wo obs : Bool) → obs ≡ true → Among (SaidBy Http (segment ∷ codes "properties" ∷ name ∷ codes "observe" ∷ []) verb.Get (act.Waits p)) (property_forms Http ro wo obs)
  observe_by_http ro wo false is = absurd cc
  observe_by_http ro wo true is =
      among_right (SaidBy Http (segment ∷ codes "properties" ∷ name ∷ codes "observe" ∷ []) verb.Get (act.Waits p)) (plain_form (path_by Http) (default_ops kind.Property ro wo))
      (form (path_by Http ++ codes "/observe") (op.ObserveProperty ∷ op.UnobserveProperty ∷ []) (Some (codes "longpoll")) ∷ [])
      (inl (observe_path_said segment plain name are Http bases.http, inl refl))

  module _ (v : Json) where
    pub read_said : (b : Binding) → flag_of (codes "writeOnly") v ≡ false → SaidOrNot b property_words verb.Get (act.Reads p) (generated_forms bases segment kind.Property name v)
    read_said b wo =
        of_both b (SaidBy b property_words verb.Get (act.Reads p)) (flag_of (codes "readOnly") v) (flag_of (codes "writeOnly") v) (flag_of (codes "observable") v)
        (read_by b (flag_of (codes "readOnly") v) (flag_of (codes "writeOnly") v) (flag_of (codes "observable") v) wo)

    pub write_said : (b : Binding) → flag_of (codes "readOnly") v ≡ false → SaidOrNot b property_words verb.Put (act.Writes p) (generated_forms bases segment kind.Property name v)
    write_said b ro =
        of_both b (SaidBy b property_words verb.Put (act.Writes p)) (flag_of (codes "readOnly") v) (flag_of (codes "writeOnly") v) (flag_of (codes "observable") v)
        (write_by b (flag_of (codes "readOnly") v) (flag_of (codes "writeOnly") v) (flag_of (codes "observable") v) ro)

    pub observe_said : flag_of (codes "observable") v ≡ true
        → Among (SaidBy Http (segment ∷ codes "properties" ∷ name ∷ codes "observe" ∷ []) verb.Get (act.Waits p)) (generated_forms bases segment kind.Property name v)
    observe_said obs =
        among_left (SaidBy Http (segment ∷ codes "properties" ∷ name ∷ codes "observe" ∷ []) verb.Get (act.Waits p))
        (property_forms Http (flag_of (codes "readOnly") v) (flag_of (codes "writeOnly") v) (flag_of (codes "observable") v))
        (if is_coap_segment name then property_forms Coap (flag_of (codes "readOnly") v) (flag_of (codes "writeOnly") v) (flag_of (codes "observable") v) else [])
        (observe_by_http (flag_of (codes "readOnly") v) (flag_of (codes "writeOnly") v) (flag_of (codes "observable") v) obs)

    -- ---- actions and events

    abbrev action_form : Binding → List Json
    action_form b = form (affordance_path (base_by b bases) segment kind.Action name) (op.InvokeAction ∷ []) None ∷ []

    invoke_by : (b : Binding) → Among (SaidBy b (segment ∷ codes "actions" ∷ name ∷ []) verb.Post (act.Invokes p)) (pick b (action_form Http) (action_form Coap))
    invoke_by Http = inl (path_said_by segment plain name are Http bases.http kind.Action, inl refl)
    invoke_by Coap = inl (path_said_by segment plain name are Coap bases.coap kind.Action, inl refl)

    pub invoke_said : (b : Binding) → SaidOrNot b (segment ∷ codes "actions" ∷ name ∷ []) verb.Post (act.Invokes p) (generated_forms bases segment kind.Action name v)
    invoke_said b = by_binding b (SaidBy b (segment ∷ codes "actions" ∷ name ∷ []) verb.Post (act.Invokes p)) (is_coap_segment name) (action_form Http) (action_form Coap) (invoke_by b)

    abbrev by_http : List Json
    by_http = form (affordance_path bases.http segment kind.Event name ++ codes "/subscribe") (op.SubscribeEvent ∷ op.UnsubscribeEvent ∷ []) (Some (codes "longpoll")) ∷ []

    abbrev by_coap : List Json
    by_coap = form (affordance_path bases.coap segment kind.Event name ++ []) (op.SubscribeEvent ∷ op.UnsubscribeEvent ∷ []) (Some (codes "cov:observe")) ∷ []

    pub event_said : SaidOrNot Coap (segment ∷ codes "events" ∷ name ∷ []) verb.Get (act.ReadsEvent p) (generated_forms bases segment kind.Event name v)
    event_said =
        by_binding Coap (SaidBy Coap (segment ∷ codes "events" ∷ name ∷ []) verb.Get (act.ReadsEvent p)) (is_coap_segment name) by_http by_coap
        (inl (unchanged_path (base_by Coap bases) (affordance_path bases.coap segment kind.Event name) (path_said_by segment plain name are Coap bases.coap kind.Event), inl refl))

    pub subscribe_said : Among (SaidBy Http (segment ∷ codes "events" ∷ name ∷ codes "subscribe" ∷ []) verb.Get (act.Waits p)) (generated_forms bases segment kind.Event name v)
    subscribe_said =
        among_left (SaidBy Http (segment ∷ codes "events" ∷ name ∷ codes "subscribe" ∷ []) verb.Get (act.Waits p)) by_http (if is_coap_segment name then by_coap else [])
        (inl (subscribe_path_said segment plain name are Http bases.http, inl refl))
