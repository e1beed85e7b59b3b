-- Each form that is generated for an affordance leads there.
use Rattle.std.proofs.Common.{◌≡◌, ℕ, Bool, true, false, List, [], ◌∷◌, ◌++◌, Some, None, inl, inr, refl, sym, ap₂, ◌∙◌, append_assoc, append-nil}
use Rattle.std.specs.Prelude.{codes, IfSome, if◌then◌else◌}
use Rattle.std.specs.List.{AllByRecursion}
use Rattle.percent_encoding.specs.Percent.{percent_decode}
use Rattle.servient_base.specs.Encoding.{encoded}
use Rattle.wot_json.specs.Tree.{Json}
use Rattle.wot_terms.specs.declared.kind.Kind.{Kind}
use Rattle.wot_terms.specs.declared.kind.Kind.TheVariants as kind
use Rattle.wot_terms.specs.declared.op.Op.{Op}
use Rattle.wot_terms.specs.declared.op.Op.TheVariants as op
use Rattle.wot_terms.specs.Faults.{holder}
use Rattle.wot_terms.specs.Affordances.{flag_of}
use Rattle.wot_forms.specs.declared.bases.Bases.{Bases}
use Rattle.wot_forms.specs.Forms.{form_of, default_ops}
use Rattle.wot_forms.specs.Segments.{is_plain_segment}
use Rattle.wot_forms.specs.Generated.{form, plain_form, holder_path, affordance_path, is_coap_segment, generated_forms}
use Rattle.thing_ops.specs.declared.verb.Verb.{Verb}
use Rattle.thing_ops.specs.declared.verb.Verb.TheVariants as verb
use Rattle.thing_site.specs.declared.place.ThingAct.{ThingAct}
use Rattle.thing_site.specs.declared.place.ThingAct.TheVariants as act
use Rattle.thing_site.specs.Site.{Placed, ExposedThing, Site, affordance_named}
use Rattle.description_laws.specs.Encoding.{AreBytes}
use Rattle.description_laws.specs.Leading.{Binding, Http, Coap, base_by, HasPath, IsTaken, FormLeads, observed_by_coap}
use Rattle.description_laws.proofs.EncodedBytes.{IsInside, encoded_is_inside, undone}
use Rattle.description_laws.proofs.Paths.{plain_bytes, has_path}
use Rattle.description_laws.proofs.Places.{AreThere, read_taken, write_taken, observe_taken, property_target, event_target, invoke_taken, subscribe_taken, event_taken}

-- ---- the paths

-- the words of paths are read as they stand
properties_read : percent_decode (codes "properties") ≡ codes "properties"
unfolding percent_decode
properties_read = refl

actions_read : percent_decode (codes "actions") ≡ codes "actions"
unfolding percent_decode
actions_read = refl

events_read : percent_decode (codes "events") ≡ codes "events"
unfolding percent_decode
events_read = refl

observe_read : percent_decode (codes "observe") ≡ codes "observe"
unfolding percent_decode
observe_read = refl

subscribe_read : percent_decode (codes "subscribe") ≡ codes "subscribe"
unfolding percent_decode
subscribe_read = refl

holder_read : (k : Kind) → percent_decode (holder k) ≡ holder k
holder_read kind.Property = properties_read
holder_read kind.Action = actions_read
holder_read kind.Event = events_read

holder_inside : (k : Kind) → AllByRecursion IsInside (holder k)
holder_inside kind.Property = encoded_is_inside (codes "properties")
holder_inside kind.Action = encoded_is_inside (codes "actions")
holder_inside kind.Event = encoded_is_inside (codes "events")

-- a word behind the path of an affordance
further : (url word : List ℕ) → url ++ (47 ∷ word) ≡ url ++ codes "/" ++ word
further url word = sym (append_assoc url (codes "/") word)

module _ (segment : List ℕ) (plain : is_plain_segment segment ≡ true) where
  segment_read : percent_decode (encoded segment) ≡ segment
  segment_read = undone segment (plain_bytes segment plain)

  -- the path of the affordances of a kind
  pub holder_path_said : (b : Binding) (base : List ℕ) (k : Kind) → HasPath base b (holder_path base segment k) (segment ∷ holder k ∷ [])
  holder_path_said b base k =
      has_path b base (encoded segment) (holder k ∷ []) (holder_path base segment k) (segment ∷ holder k ∷ [])
      (encoded_is_inside segment, (holder_inside k, tt)) (λ same. absurd cc) refl
      (ap₂ (λ (s h : List ℕ). s ∷ h ∷ []) segment_read (holder_read k))

  module _ (name : List ℕ) (are : AreBytes name) where
    -- that of an affordance
    pub path_said_by : (b : Binding) (base : List ℕ) (k : Kind) → HasPath base b (affordance_path base segment k name) (segment ∷ holder k ∷ name ∷ [])
    path_said_by b base k =
        has_path b base (encoded segment) (holder k ∷ encoded name ∷ []) (affordance_path base segment k name) (segment ∷ holder k ∷ name ∷ [])
        (encoded_is_inside segment, (holder_inside k, (encoded_is_inside name, tt))) (λ same. absurd cc) refl
        (ap₂ (λ (s : List ℕ) (more : List (List ℕ)). s ∷ more) segment_read (ap₂ (λ (h n : List ℕ). h ∷ n ∷ []) (holder_read k) (undone name are)))

    -- and with one word more
    longer_path : (b : Binding) (base : List ℕ) (k : Kind) (word : List ℕ) → AllByRecursion IsInside word → percent_decode word ≡ word
        → HasPath base b (affordance_path base segment k name ++ (47 ∷ word)) (segment ∷ holder k ∷ name ∷ word ∷ [])
    longer_path b base k word inside read =
        has_path b base (encoded segment) (holder k ∷ encoded name ∷ word ∷ []) (affordance_path base segment k name ++ (47 ∷ word)) (segment ∷ holder k ∷ name ∷ word ∷ [])
        (encoded_is_inside segment, (holder_inside k, (encoded_is_inside name, (inside, tt)))) (λ same. absurd cc) (further (affordance_path base segment k name) word)
        (ap₂ (λ (s : List ℕ) (more : List (List ℕ)). s ∷ more) segment_read
        (ap₂ (λ (h : List ℕ) (more : List (List ℕ)). h ∷ more) (holder_read k) (ap₂ (λ (n w : List ℕ). n ∷ w ∷ []) (undone name are) read)))

    pub observe_path_said : (b : Binding) (base : List ℕ) → HasPath base b (affordance_path base segment kind.Property name ++ codes "/observe") (segment ∷ codes "properties" ∷ name ∷ codes "observe" ∷ [])
    observe_path_said b base = longer_path b base kind.Property (codes "observe") (encoded_is_inside (codes "observe")) observe_read

    pub subscribe_path_said : (b : Binding) (base : List ℕ) → HasPath base b (affordance_path base segment kind.Event name ++ codes "/subscribe") (segment ∷ codes "events" ∷ name ∷ codes "subscribe" ∷ [])
    subscribe_path_said b base = longer_path b base kind.Event (codes "subscribe") (encoded_is_inside (codes "subscribe")) subscribe_read

-- nothing behind a path
pub unchanged_path : {path : List (List ℕ)} (base url : List ℕ) → HasPath base Coap url path → HasPath base Coap (url ++ []) path
unchanged_path base url has = record { target = has.target; behind = append-nil url ∙ has.behind; said = has.said }

-- ---- the forms

-- each of these forms, as a description's reader has them
abbrev pub EachLeads : Bases → Site → Placed → List Op → List Json → Type 0
EachLeads bases site p defaults forms = AllByRecursion (λ v. FormLeads bases site p (form_of defaults v)) forms

both_lead : (bases : Bases) (site : Site) (p : Placed) (defaults : List Op) (xs ys : List Json) → EachLeads bases site p defaults xs → EachLeads bases site p defaults ys → EachLeads bases site p defaults (xs ++ ys)
both_lead bases site p defaults [] ys one other = other
both_lead bases site p defaults (x ∷ xs) ys one other = (one.0, both_lead bases site p defaults xs ys one.1 other)

module _ (bases : Bases) (site : Site) (segment : List ℕ) (plain : is_plain_segment segment ≡ true) (thing : ExposedThing) (there : AreThere site segment thing)
    (name : List ℕ) (are : AreBytes name) (p : Placed) (defaults : List Op) where
  module _ (named : affordance_named kind.Property name thing.affordances ≡ Some p) where
    abbrev property_path : Binding → List ℕ
    property_path b = affordance_path (base_by b bases) segment kind.Property name

    -- reading and writing
    pub plain_leads : (b : Binding) (ro wo : Bool) → p.affordance.read_only ≡ ro → p.affordance.write_only ≡ wo
        → EachLeads bases site p defaults (plain_form (property_path b) (default_ops kind.Property ro wo))
    plain_leads Http false false ro wo = (
      inl (record {
        path = segment ∷ codes "properties" ∷ name ∷ [];
        has = path_said_by segment plain name are Http bases.http kind.Property;
        each = (read_taken site segment thing there name p named wo, (write_taken site segment thing there name p named ro, tt));
        targets = (tt, (tt, tt));
      }),
      tt,
    )
    plain_leads Http true false ro wo = (
      inl (record {
        path = segment ∷ codes "properties" ∷ name ∷ [];
        has = path_said_by segment plain name are Http bases.http kind.Property;
        each = (read_taken site segment thing there name p named wo, tt);
        targets = (tt, tt);
      }),
      tt,
    )
    plain_leads Http false true ro wo = (
      inl (record {
        path = segment ∷ codes "properties" ∷ name ∷ [];
        has = path_said_by segment plain name are Http bases.http kind.Property;
        each = (write_taken site segment thing there name p named ro, tt);
        targets = (tt, tt);
      }),
      tt,
    )
    plain_leads Http true true ro wo = tt
    plain_leads Coap false false ro wo = (
      inr (record {
        path = segment ∷ codes "properties" ∷ name ∷ [];
        has = path_said_by segment plain name are Coap bases.coap kind.Property;
        each = (read_taken site segment thing there name p named wo, (write_taken site segment thing there name p named ro, tt));
        targets = (tt, (tt, tt));
      }),
      tt,
    )
    plain_leads Coap true false ro wo = (
      inr (record {
        path = segment ∷ codes "properties" ∷ name ∷ [];
        has = path_said_by segment plain name are Coap bases.coap kind.Property;
        each = (read_taken site segment thing there name p named wo, tt);
        targets = (tt, tt);
      }),
      tt,
    )
    plain_leads Coap false true ro wo = (
      inr (record {
        path = segment ∷ codes "properties" ∷ name ∷ [];
        has = path_said_by segment plain name are Coap bases.coap kind.Property;
        each = (write_taken site segment thing there name p named ro, tt);
        targets = (tt, tt);
      }),
      tt,
    )
    plain_leads Coap true true ro wo = tt

    -- observing
    observe_leads_by_http : (obs : Bool) → p.affordance.observable ≡ obs
        → EachLeads bases site p defaults (if obs then form (property_path Http ++ codes "/observe") (op.ObserveProperty ∷ op.UnobserveProperty ∷ []) (Some (codes "longpoll")) ∷ [] else [])
    observe_leads_by_http false obs = tt
    observe_leads_by_http true obs = (
      inl (record {
        path = segment ∷ codes "properties" ∷ name ∷ codes "observe" ∷ [];
        has = observe_path_said segment plain name are Http bases.http;
        each = (observe_taken site segment thing there name p named obs, (tt, tt));
        targets = (tt, (tt, tt));
      }),
      tt,
    )

    observed_taken : IfSome (observed_by_coap p) (λ (asks : Verb × ThingAct). IsTaken site (segment ∷ codes "properties" ∷ name ∷ []) asks.0 asks.1)
    observed_taken = by p.affordance.write_only refl
      where
        by : (wo : Bool) → p.affordance.write_only ≡ wo
            → IfSome (if wo then None else Some (verb.Get, act.Reads p)) (λ (asks : Verb × ThingAct). IsTaken site (segment ∷ codes "properties" ∷ name ∷ []) asks.0 asks.1)
        by true is = tt
        by false is = read_taken site segment thing there name p named is

    observe_leads_by_coap : (obs : Bool) → p.affordance.observable ≡ obs
        → EachLeads bases site p defaults (if obs then form (property_path Coap ++ []) (op.ObserveProperty ∷ op.UnobserveProperty ∷ []) (Some (codes "cov:observe")) ∷ [] else [])
    observe_leads_by_coap false obs = tt
    observe_leads_by_coap true obs = (
      inr (record {
        path = segment ∷ codes "properties" ∷ name ∷ [];
        has = unchanged_path (base_by Coap bases) (property_path Coap) (path_said_by segment plain name are Coap bases.coap kind.Property);
        each = (observed_taken, (observed_taken, tt));
        targets = (property_target site segment thing there name p named obs, (property_target site segment thing there name p named obs, tt));
      }),
      tt,
    )

    pub property_leads : (ro wo obs : Bool) → p.affordance.read_only ≡ ro → p.affordance.write_only ≡ wo → p.affordance.observable ≡ obs
        → EachLeads bases site p defaults (plain_form (property_path Http) (default_ops kind.Property ro wo)
        ++ (if obs then form (property_path Http ++ codes "/observe") (op.ObserveProperty ∷ op.UnobserveProperty ∷ []) (Some (codes "longpoll")) ∷ [] else []))
        × EachLeads bases site p defaults (plain_form (property_path Coap) (default_ops kind.Property ro wo)
        ++ (if obs then form (property_path Coap ++ []) (op.ObserveProperty ∷ op.UnobserveProperty ∷ []) (Some (codes "cov:observe")) ∷ [] else []))
    property_leads ro wo obs read write observe = (
      both_lead bases site p defaults _ _ (plain_leads Http ro wo read write) (observe_leads_by_http obs observe),
      both_lead bases site p defaults _ _ (plain_leads Coap ro wo read write) (observe_leads_by_coap obs observe),
    )

  module _ (named : affordance_named kind.Action name thing.affordances ≡ Some p) where
    pub action_leads : EachLeads bases site p defaults (form (affordance_path bases.http segment kind.Action name) (op.InvokeAction ∷ []) None ∷ [])
        × EachLeads bases site p defaults (form (affordance_path bases.coap segment kind.Action name) (op.InvokeAction ∷ []) None ∷ [])
    action_leads = (
      (
        inl (record {
          path = segment ∷ codes "actions" ∷ name ∷ [];
          has = path_said_by segment plain name are Http bases.http kind.Action;
          each = (invoke_taken site segment thing there name p named, tt);
          targets = (tt, tt);
        }),
        tt,
      ),
      (
        inr (record {
          path = segment ∷ codes "actions" ∷ name ∷ [];
          has = path_said_by segment plain name are Coap bases.coap kind.Action;
          each = (invoke_taken site segment thing there name p named, tt);
          targets = (tt, tt);
        }),
        tt,
      ),
    )

  module _ (named : affordance_named kind.Event name thing.affordances ≡ Some p) where
    pub event_leads : EachLeads bases site p defaults (form (affordance_path bases.http segment kind.Event name ++ codes "/subscribe") (op.SubscribeEvent ∷ op.UnsubscribeEvent ∷ []) (Some (codes "longpoll")) ∷ [])
        × EachLeads bases site p defaults (form (affordance_path bases.coap segment kind.Event name ++ []) (op.SubscribeEvent ∷ op.UnsubscribeEvent ∷ []) (Some (codes "cov:observe")) ∷ [])
    event_leads = (
      (
        inl (record {
          path = segment ∷ codes "events" ∷ name ∷ codes "subscribe" ∷ [];
          has = subscribe_path_said segment plain name are Http bases.http;
          each = (subscribe_taken site segment thing there name p named, (tt, tt));
          targets = (tt, (tt, tt));
        }),
        tt,
      ),
      (
        inr (record {
          path = segment ∷ codes "events" ∷ name ∷ [];
          has = unchanged_path (base_by Coap bases) (affordance_path bases.coap segment kind.Event name) (path_said_by segment plain name are Coap bases.coap kind.Event);
          each = (event_taken site segment thing there name p named, (event_taken site segment thing there name p named, tt));
          targets = (event_target site segment thing there name p named, (event_target site segment thing there name p named, tt));
        }),
        tt,
      ),
    )

-- ---- all forms of an affordance

-- the flags of an affordance are those of this value
pub record IsOf (p : Placed) (v : Json) : Type 0 where
  pub read_only : p.affordance.read_only ≡ flag_of (codes "readOnly") v
  pub write_only : p.affordance.write_only ≡ flag_of (codes "writeOnly") v
  pub observable : p.affordance.observable ≡ flag_of (codes "observable") v

module _ (bases : Bases) (site : Site) (segment : List ℕ) (plain : is_plain_segment segment ≡ true) (thing : ExposedThing) (there : AreThere site segment thing)
    (name : List ℕ) (are : AreBytes name) (p : Placed) (defaults : List Op) where
  only_where : (b : Bool) (forms : List Json) → EachLeads bases site p defaults forms → EachLeads bases site p defaults (if b then forms else [])
  only_where true forms all = all
  only_where false forms all = tt

  pub forms_lead : (k : Kind) (v : Json) → affordance_named k name thing.affordances ≡ Some p → IsOf p v → EachLeads bases site p defaults (generated_forms bases segment k name v)
  forms_lead kind.Property v named of =
      let both = property_leads bases site segment plain thing there name are p defaults named (flag_of (codes "readOnly") v) (flag_of (codes "writeOnly") v) (flag_of (codes "observable") v) of.read_only of.write_only of.observable in
      both_lead bases site p defaults _ _ both.0 (only_where (is_coap_segment name) _ both.1)
  forms_lead kind.Action v named of =
      let both = action_leads bases site segment plain thing there name are p defaults named in
      let by_coap : List Json = form (affordance_path bases.coap segment kind.Action name) (op.InvokeAction ∷ []) None ∷ [] in
      both_lead bases site p defaults (form (affordance_path bases.http segment kind.Action name) (op.InvokeAction ∷ []) None ∷ []) (if is_coap_segment name then by_coap else []) both.0
      (only_where (is_coap_segment name) by_coap both.1)
  forms_lead kind.Event v named of =
      let both = event_leads bases site segment plain thing there name are p defaults named in
      let by_coap : List Json = form (affordance_path bases.coap segment kind.Event name ++ []) (op.SubscribeEvent ∷ op.UnsubscribeEvent ∷ []) (Some (codes "cov:observe")) ∷ [] in
      both_lead bases site p defaults
      (form (affordance_path bases.http segment kind.Event name ++ codes "/subscribe") (op.SubscribeEvent ∷ op.UnsubscribeEvent ∷ []) (Some (codes "longpoll")) ∷ [])
      (if is_coap_segment name then by_coap else []) both.0 (only_where (is_coap_segment name) by_coap both.1)
