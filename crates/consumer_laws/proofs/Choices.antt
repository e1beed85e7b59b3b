-- A choice over HTTP of a derived description is the act of its operation.
use Rattle.std.proofs.Common.{◌≡◌, ◌≢◌, ◌⊎◌, ◌<◌, ℕ, zero, suc, Bool, true, false, List, [], ◌∷◌, ◌++◌, length, map, Option, Some, None, Ok, inl, inr, refl, sym, ap, subst, ◌∙◌, arith}
use Rattle.std.specs.Prelude.{◌&&◌, codes, Contains, IfSome, slice_index_or, unwrap_or, option_map, option_and_then, if◌then◌else◌}
use Rattle.std.specs.List.{AllByRecursion}
use Rattle.std.specs.Str.{bytes_eq}
use Rattle.std.proofs.lemmas.Slice.Eq.{bytes_eq-Decides}
use Rattle.percent_encoding.specs.Percent.{percent_decode}
use Rattle.url.specs.Parts.{Parts}
use Rattle.servient_base.specs.Location.{joined_url}
use Rattle.wot_json.specs.Tree.{Json, null, boolean, integer, string, array, object, Members}
use Rattle.wot_json.specs.Lookup.{value_under}
use Rattle.wot_terms.specs.declared.kind.Kind.{Kind}
use Rattle.wot_terms.specs.declared.kind.Kind.TheVariants as kind
use Rattle.wot_terms.specs.declared.op.Op.{Op}
use Rattle.wot_terms.specs.declared.op.Op.TheVariants as op
use Rattle.wot_terms.specs.Affordances.{part, affordance_of}
use Rattle.wot_terms.specs.Faults.{holder}
use Rattle.wot_forms.specs.declared.bases.Bases.{Bases}
use Rattle.wot_forms.specs.declared.form.Form.{Form}
use Rattle.wot_forms.specs.declared.scheme.Scheme.{Scheme}
use Rattle.wot_forms.specs.declared.scheme.Scheme.TheVariants as scheme
use Rattle.wot_forms.specs.Forms.{affordance_forms, forms_in, forms_under}
use Rattle.wot_forms.specs.Generated.{generated}
use Rattle.wot_forms.specs.Segments.{is_plain_segment}
use Rattle.thing_ops.specs.declared.verb.Verb.{Verb}
use Rattle.thing_ops.specs.declared.verb.Verb.TheVariants as verb
use Rattle.thing_site.specs.declared.place.ThingAct.{ThingAct}
use Rattle.thing_site.specs.declared.place.ThingAct.TheVariants as act
use Rattle.thing_site.specs.Site.{Placed, ExposedThing, Site, Slots, placed, exposed, affordance_named, is_kind}
use Rattle.http_wire.specs.Targets.{segments_of}
use Rattle.wot_consumer.specs.declared.chosen.Chosen.{Chosen}
use Rattle.wot_consumer.specs.Choice.{Qualifies, IsFirst, IsChosen, base_of, wanted}
use Rattle.wot_consumer.specs.Operations.{is_consumed, kind_of, default_verb, verb_of}
use Rattle.wot_consumer.specs.Places.{scheme_named, segments_of as url_segments}
use Rattle.description_laws.specs.Encoding.{AreBytes}
use Rattle.description_laws.specs.Leading.{Http, Coap, IsTaken, Leads, FormLeads, AffordanceIsReached, IsReached, asked_by_http, asked_by, asked_of_thing, watched_by}
use Rattle.description_laws.proofs.Targets.{slashed, segments_read, target_read}
use Rattle.description_laws.proofs.OneThing.{members_for, found as affordance_found}
use Rattle.consumer_laws.specs.Choosing.{IsItsAct, IsAsWritten, AreAsWritten}
use Rattle.consumer_laws.proofs.GeneratedForms.{IsPlainForm, affordance_plain, root_plain}

-- ---- what all hold, one holds

first_holds : (o : Op) (only : Option Scheme) (base : Option (List ℕ)) (P : Form → Type 0) (forms : List Form) (c : Chosen) → AllByRecursion P forms → IsFirst (wanted o only) base forms (Some c)
    → (f : Form) × P f × Qualifies (wanted o only) base f c
first_holds o only base P [] c all is = absurd is
first_holds o only base P (f ∷ fs) c all (inl is) = (f, all.0, is)
first_holds o only base P (f ∷ fs) c all (inr is) = first_holds o only base P fs c all.1 is.1

contained_holds : (P : Op → Type 0) (os : List Op) (o : Op) → AllByRecursion P os → Contains os o → P o
contained_holds P os o all (k, within, is) = at os k all within is
  where
    at : (xs : List Op) (i : ℕ) → AllByRecursion P xs → i < length xs → slice_index_or xs i o ≡ o → P o
    at [] i every fits same = absurd (omega (arith, fits))
    at (x ∷ xs) zero every fits same = subst P same every.0
    at (x ∷ xs) (suc i) every fits same = at xs i every.1 (omega (arith, fits)) same

named_holds : (P : Placed → Type 0) (k : Kind) (name : List ℕ) (ps : List Placed) (p : Placed) → AllByRecursion P ps → affordance_named k name ps ≡ Some p → P p
named_holds P k name [] p all is = absurd cc
named_holds P k name (x ∷ ps) p all is = by (is_kind k x.affordance.kind) (bytes_eq name x.affordance.name) (named_holds P k name ps p all.1) is
  where
    value : Some x ≡ Some p → x ≡ p
    value e = cc

    by : (s t : Bool) → (affordance_named k name ps ≡ Some p → P p) → (if s && t then Some x else affordance_named k name ps) ≡ Some p → P p
    by true true later found = subst P (value found) all.0
    by true false later found = later found
    by false t later found = later found

all_three : (P Q R : Form → Type 0) (fs : List Form) → AllByRecursion P fs → AllByRecursion Q fs → AllByRecursion R fs → AllByRecursion (λ f. P f × (Q f × R f)) fs
all_three P Q R [] p q r = tt
all_three P Q R (f ∷ fs) p q r = ((p.0, (q.0, r.0)), all_three P Q R fs p.1 q.1 r.1)

-- ---- a form over HTTP

scheme_is : (name : List ℕ) → scheme_named name ≡ Some scheme.Http → name ≡ codes "http"
scheme_is name is = by (bytes_eq name (codes "http")) (bytes_eq name (codes "coap")) refl is
  where
    by : (s t : Bool) → bytes_eq name (codes "http") ≡ s → (if s then Some scheme.Http else if t then Some scheme.Coap else None) ≡ Some scheme.Http → name ≡ codes "http"
    by true t same found = (bytes_eq-Decides name (codes "http")).0 same
    by false true differ found = absurd cc
    by false false differ found = absurd cc

-- Such a form that qualifies leads to its path, where the verb of the operation is taken.
pub record IsAtPath (site : Site) (asked : Op → Option (Verb × ThingAct)) (o : Op) (c : Chosen) : Type 0 where
  pub taken : IfSome (asked o) (λ (asks : Verb × ThingAct). IsTaken site c.path asks.0 asks.1)
  pub verb : c.verb ≡ default_verb o
  pub path : c.path ≢ [] ∷ []

module _ (bases : Bases) (site : Site) (asked : Op → Option (Verb × ThingAct)) (watched : Op → Option ℕ) (over : Op → Option (Verb × ThingAct)) (other : Op → Option ℕ)
    (o : Op) (only : Option Scheme) (base : Option (List ℕ)) (c : Chosen) (http : c.scheme ≡ scheme.Http) where
  abbrev LeadsBy : Form → Type 0
  LeadsBy f = Leads bases site asked watched Http f.href f.ops ⊎ Leads bases site over other Coap f.href f.ops

  abbrev ReadsBy : Form → Type 0
  ReadsBy f = (url : Parts) → joined_url base f.href ≡ Ok url → IsAsWritten bases f.href url

  at_form : (f : Form) → LeadsBy f → IsPlainForm bases f → ReadsBy f → Qualifies (wanted o only) base f c → IsAtPath site asked o c
  at_form f leads plain reads q = by plain.at leads
    where
      written : IsAsWritten bases f.href q.url
      written = reads q.url q.joined

      named : q.url.scheme ≡ codes "http"
      named = scheme_is q.url.scheme (q.leads.scheme ∙ ap Some http)

      two : plain.first ∷ plain.second ∷ plain.more ≢ [] ∷ []
      two = λ e. cc

      two_decoded : map percent_decode (plain.first ∷ plain.second ∷ plain.more) ≢ [] ∷ []
      two_decoded = λ e. cc

      at_path : f.href ≡ bases.http ++ slashed (plain.first ∷ plain.second ∷ plain.more) → c.path ≡ map percent_decode (plain.first ∷ plain.second ∷ plain.more)
      at_path is =
          q.leads.path
          ∙ ap url_segments (written.http (slashed (plain.first ∷ plain.second ∷ plain.more)) is)
          ∙ segments_read plain.first (plain.second ∷ plain.more) plain.parts two

      said : (target : List ℕ) (path : List (List ℕ)) → f.href ≡ bases.http ++ slashed (plain.first ∷ plain.second ∷ plain.more) → f.href ≡ bases.http ++ target → segments_of target ≡ Some path
          → path ≡ map percent_decode (plain.first ∷ plain.second ∷ plain.more)
      said target path is has says =
          some_path
          (sym says ∙ ap segments_of (sym (written.http target has) ∙ written.http (slashed (plain.first ∷ plain.second ∷ plain.more)) is) ∙ target_read plain.first (plain.second ∷ plain.more) plain.parts two)
        where
          some_path : Some path ≡ Some (map percent_decode (plain.first ∷ plain.second ∷ plain.more)) → path ≡ map percent_decode (plain.first ∷ plain.second ∷ plain.more)
          some_path e = cc

      by : (f.href ≡ bases.http ++ slashed (plain.first ∷ plain.second ∷ plain.more)) ⊎ (f.href ≡ bases.coap ++ slashed (plain.first ∷ plain.second ∷ plain.more)) → LeadsBy f → IsAtPath site asked o c
      by (inr is) l = absurd (written.coap (slashed (plain.first ∷ plain.second ∷ plain.more)) is named)
      by (inl is) (inr l) = absurd (written.coap l.has.target l.has.behind named)
      by (inl is) (inl l) = record {
        taken = subst (λ (path : List (List ℕ)). IfSome (asked o) (λ (asks : Verb × ThingAct). IsTaken site path asks.0 asks.1))
            (said l.has.target l.path is l.has.behind l.has.said ∙ sym (at_path is))
            (contained_holds (λ (x : Op). IfSome (asked x) (λ (asks : Verb × ThingAct). IsTaken site l.path asks.0 asks.1)) f.ops o l.each q.fits.operation);
        verb = q.verb ∙ ap (verb_of o) plain.method;
        path = λ e. two_decoded (sym (at_path is) ∙ e);
      }

  pub at_path_of : (forms : List Form) → AllByRecursion (λ (f : Form). LeadsBy f) forms → AllByRecursion (IsPlainForm bases) forms → AllByRecursion (λ (f : Form). ReadsBy f) forms
      → IsFirst (wanted o only) base forms (Some c) → IsAtPath site asked o c
  at_path_of forms lead plain read first =
      let one = first_holds o only base (λ (f : Form). LeadsBy f × (IsPlainForm bases f × ReadsBy f)) forms c (all_three LeadsBy (IsPlainForm bases) ReadsBy forms lead plain read) first in
      at_form one.0 one.1.0 one.1.1.0 one.1.1.1 one.2

-- ---- the act

-- the act of each operation of a consumer
module _ (site : Site) (thing : ExposedThing) (name : List ℕ) (c : Chosen) where
  abbrev asks : Verb → ThingAct → Option (Verb × ThingAct)
  asks v a = Some (v, a)

  same_asked : (v : Verb) (a : ThingAct) → c.verb ≡ v → asks v a ≡ asks c.verb a
  same_asked v a is = ap (λ (x : Verb). asks x a) (sym is)

  taken_by : (v : Verb) (a : ThingAct) → c.verb ≡ v → IsTaken site c.path v a → IsTaken site c.path c.verb a
  taken_by v a is taken = subst (λ (x : Verb). IsTaken site c.path x a) (sym is) taken

  of_affordance : (k : Kind) (o : Op) (p : Placed) → is_consumed o ≡ true → kind_of o ≡ Some k → affordance_named k name thing.affordances ≡ Some p
      → IsAtPath site (λ x. asked_by_http x p) o c → IsItsAct site thing o name c
  of_affordance kind.Property op.ReadProperty p consumed of named at = record { act = act.Reads p; asks = ap (option_and_then (asked_by_http op.ReadProperty)) named ∙ same_asked verb.Get (act.Reads p) at.verb; taken = taken_by verb.Get (act.Reads p) at.verb at.taken }
  of_affordance kind.Property op.WriteProperty p consumed of named at = record { act = act.Writes p; asks = ap (option_and_then (asked_by_http op.WriteProperty)) named ∙ same_asked verb.Put (act.Writes p) at.verb; taken = taken_by verb.Put (act.Writes p) at.verb at.taken }
  of_affordance kind.Property op.ObserveProperty p consumed of named at = record { act = act.Waits p; asks = ap (option_and_then (asked_by_http op.ObserveProperty)) named ∙ same_asked verb.Get (act.Waits p) at.verb; taken = taken_by verb.Get (act.Waits p) at.verb at.taken }
  of_affordance kind.Property op.InvokeAction p consumed of named at = absurd cc
  of_affordance kind.Action op.InvokeAction p consumed of named at = record { act = act.Invokes p; asks = ap (option_and_then (asked_by_http op.InvokeAction)) named ∙ same_asked verb.Post (act.Invokes p) at.verb; taken = taken_by verb.Post (act.Invokes p) at.verb at.taken }
  of_affordance kind.Action op.ReadProperty p consumed of named at = absurd cc
  of_affordance kind.Action op.WriteProperty p consumed of named at = absurd cc
  of_affordance kind.Action op.ObserveProperty p consumed of named at = absurd cc
  of_affordance kind.Event op.ReadProperty p consumed of named at = absurd cc
  of_affordance kind.Event op.WriteProperty p consumed of named at = absurd cc
  of_affordance kind.Event op.ObserveProperty p consumed of named at = absurd cc
  of_affordance kind.Event op.InvokeAction p consumed of named at = absurd cc
  of_affordance k op.ReadAllProperties p consumed of named at = absurd cc
  of_affordance k op.UnobserveProperty p consumed of named at = absurd cc
  of_affordance k op.QueryAction p consumed of named at = absurd cc
  of_affordance k op.CancelAction p consumed of named at = absurd cc
  of_affordance k op.SubscribeEvent p consumed of named at = absurd cc
  of_affordance k op.UnsubscribeEvent p consumed of named at = absurd cc
  of_affordance k op.WriteAllProperties p consumed of named at = absurd cc
  of_affordance k op.ReadMultipleProperties p consumed of named at = absurd cc
  of_affordance k op.WriteMultipleProperties p consumed of named at = absurd cc
  of_affordance k op.ObserveAllProperties p consumed of named at = absurd cc
  of_affordance k op.UnobserveAllProperties p consumed of named at = absurd cc
  of_affordance k op.SubscribeAllEvents p consumed of named at = absurd cc
  of_affordance k op.UnsubscribeAllEvents p consumed of named at = absurd cc
  of_affordance k op.QueryAllActions p consumed of named at = absurd cc

  of_thing : (o : Op) → is_consumed o ≡ true → kind_of o ≡ None → IsAtPath site (asked_of_thing thing) o c → IsItsAct site thing o name c
  of_thing op.ReadAllProperties consumed of at = record { act = act.ReadsAll thing; asks = same_asked verb.Get (act.ReadsAll thing) at.verb; taken = taken_by verb.Get (act.ReadsAll thing) at.verb at.taken }
  of_thing op.ReadProperty consumed of at = absurd cc
  of_thing op.WriteProperty consumed of at = absurd cc
  of_thing op.ObserveProperty consumed of at = absurd cc
  of_thing op.InvokeAction consumed of at = absurd cc
  of_thing op.UnobserveProperty consumed of at = absurd cc
  of_thing op.QueryAction consumed of at = absurd cc
  of_thing op.CancelAction consumed of at = absurd cc
  of_thing op.SubscribeEvent consumed of at = absurd cc
  of_thing op.UnsubscribeEvent consumed of at = absurd cc
  of_thing op.WriteAllProperties consumed of at = absurd cc
  of_thing op.ReadMultipleProperties consumed of at = absurd cc
  of_thing op.WriteMultipleProperties consumed of at = absurd cc
  of_thing op.ObserveAllProperties consumed of at = absurd cc
  of_thing op.UnobserveAllProperties consumed of at = absurd cc
  of_thing op.SubscribeAllEvents consumed of at = absurd cc
  of_thing op.UnsubscribeAllEvents consumed of at = absurd cc
  of_thing op.QueryAllActions consumed of at = absurd cc

pub verb_is_known : (o : Op) (v : Verb) → v ≡ default_verb o → v ≢ verb.Other
verb_is_known o v is same = isnt o (sym is ∙ same)
  where
    isnt : (x : Op) → default_verb x ≢ verb.Other
    isnt op.ReadProperty = λ e. cc
    isnt op.WriteProperty = λ e. cc
    isnt op.ObserveProperty = λ e. cc
    isnt op.UnobserveProperty = λ e. cc
    isnt op.InvokeAction = λ e. cc
    isnt op.QueryAction = λ e. cc
    isnt op.CancelAction = λ e. cc
    isnt op.SubscribeEvent = λ e. cc
    isnt op.UnsubscribeEvent = λ e. cc
    isnt op.ReadAllProperties = λ e. cc
    isnt op.WriteAllProperties = λ e. cc
    isnt op.ReadMultipleProperties = λ e. cc
    isnt op.WriteMultipleProperties = λ e. cc
    isnt op.ObserveAllProperties = λ e. cc
    isnt op.UnobserveAllProperties = λ e. cc
    isnt op.SubscribeAllEvents = λ e. cc
    isnt op.UnsubscribeAllEvents = λ e. cc
    isnt op.QueryAllActions = λ e. cc

-- ---- a Thing

-- the value of an affordance that has forms
pub record IsHeld (k : Kind) (name : List ℕ) (held : Option Json) (forms : List Form) : Type 0 where
  pub value : Json
  pub there : value_under name (members_for held) ≡ Some value
  pub forms_are : forms ≡ affordance_forms k value

held_value : (k : Kind) (name : List ℕ) (held : Option Json) (forms : List Form) → option_map (affordance_forms k) (option_and_then (part name) held) ≡ Some forms → IsHeld k name held forms
held_value k name None forms is = absurd cc
held_value k name (Some null) forms is = absurd cc
held_value k name (Some (boolean b)) forms is = absurd cc
held_value k name (Some (integer z)) forms is = absurd cc
held_value k name (Some (string s)) forms is = absurd cc
held_value k name (Some (array es)) forms is = absurd cc
held_value k name (Some (object ms)) forms is = by (value_under name ms) refl is
  where
    by : (o : Option Json) → value_under name ms ≡ o → option_map (affordance_forms k) o ≡ Some forms → IsHeld k name (Some (object ms)) forms
    by None at found = absurd cc
    by (Some v) at found = record { value = v; there = at; forms_are = sym (same found) }
      where
        same : Some (affordance_forms k v) ≡ Some forms → affordance_forms k v ≡ forms
        same e = cc

-- what is known of a choice
pub record IsKnownChoice (site : Site) (thing : ExposedThing) (o : Op) (name : List ℕ) (c : Chosen) : Type 0 where
  pub its_act : IsItsAct site thing o name c
  pub verb : c.verb ≢ verb.Other
  pub path : c.path ≢ [] ∷ []

module _ (bases : Bases) (site : Site) (segment : List ℕ) (plain : is_plain_segment segment ≡ true) (slots : Slots) (o : Op) (only : Option Scheme) (name : List ℕ) (c : Chosen) (consumed : is_consumed o ≡ true)
    (are : AreBytes name) (http : c.scheme ≡ scheme.Http) where
  module _ (ms : Members) where
    abbrev tree : Json
    tree = generated (object ms) bases segment

    abbrev thing : ExposedThing
    thing = exposed slots (segment, generated (object ms) bases segment)

    by_kind : (kinds : Option Kind) → kind_of o ≡ kinds → IsReached bases site (exposed slots (segment, generated (object ms) bases segment)) → (forms : List Form)
        → forms_in (generated (object ms) bases segment) kinds name ≡ Some forms → IsFirst (wanted o only) (base_of (generated (object ms) bases segment)) forms (Some c)
        → AllByRecursion (λ (f : Form). (url : Parts) → joined_url (base_of (generated (object ms) bases segment)) f.href ≡ Ok url → IsAsWritten bases f.href url) (unwrap_or (forms_in (generated (object ms) bases segment) kinds name) [])
        → IsKnownChoice site (exposed slots (segment, generated (object ms) bases segment)) o name c
    by_kind None of reached forms is first read =
        let at = at_path_of bases site (asked_of_thing thing) (λ x. None) (asked_of_thing thing) (λ x. None) o only (base_of tree) c http (forms_under [] tree) reached.root (root_plain bases segment ms)
        read
        (subst (λ (fs : List Form). IsFirst (wanted o only) (base_of tree) fs (Some c)) (same is) first) in
        record { its_act = of_thing site thing name c o consumed of at; verb = verb_is_known o c.verb at.verb; path = at.path }
      where
        same : Some (forms_under [] (generated (object ms) bases segment)) ≡ Some forms → forms ≡ forms_under [] (generated (object ms) bases segment)
        same e = cc
    by_kind (Some k) of reached forms is first read =
        let held = held_value k name (part (holder k) tree) forms is in
        let p : Placed = placed slots segment (affordance_of k name held.value) in
        let named : affordance_named k name thing.affordances ≡ Some p = affordance_found bases site segment plain slots ms k name held.value held.there in
        let lead : AllByRecursion (FormLeads bases site p) (unwrap_or (forms_in tree (Some k) name) []) = named_holds (AffordanceIsReached bases site thing) k name thing.affordances p reached.affordances named are in
        let at = at_path_of bases site (λ x. asked_by Http x p) (λ x. watched_by Http x p) (λ x. asked_by Coap x p) (λ x. watched_by Coap x p) o only (base_of tree) c http forms
        (subst (λ (fs : Option (List Form)). AllByRecursion (FormLeads bases site p) (unwrap_or fs [])) is lead)
        (subst (λ (fs : List Form). AllByRecursion (IsPlainForm bases) fs) (sym held.forms_are) (affordance_plain bases segment ms k name held.value held.there))
        (subst (λ (fs : Option (List Form)). AllByRecursion (λ (f : Form). (url : Parts) → joined_url (base_of tree) f.href ≡ Ok url → IsAsWritten bases f.href url) (unwrap_or fs [])) is read)
        first in
        record { its_act = of_affordance site thing name c k o p consumed of named at; verb = verb_is_known o c.verb at.verb; path = at.path }

  -- a description that is no object has no forms
  none_there : (v : Json) → ((k : Kind) → part (holder k) v ≡ None) → forms_under [] v ≡ [] → (kinds : Option Kind) (forms : List Form) → forms_in v kinds name ≡ Some forms
      → IsFirst (wanted o only) (base_of v) forms (Some c) → ⊥
  none_there v held none None forms is first = subst (λ (fs : List Form). IsFirst (wanted o only) (base_of v) fs (Some c)) (same is ∙ none) first
    where
      same : Some (forms_under [] v) ≡ Some forms → forms ≡ forms_under [] v
      same e = cc
  none_there v held none (Some k) forms is first = never (sym (ap (λ (x : Option Json). option_map (affordance_forms k) (option_and_then (part name) x)) (held k)) ∙ is)
    where
      never : None ≡ Some forms → ⊥
      never e = cc

  pub known_choice : (value : Json) → IsReached bases site (exposed slots (segment, generated value bases segment)) → IsChosen (generated value bases segment) (wanted o only) name c
      → AreAsWritten bases (generated value bases segment) o name → IsKnownChoice site (exposed slots (segment, generated value bases segment)) o name c
  known_choice (object ms) reached (forms, is, first) read = by_kind ms (kind_of o) refl reached forms is first read
  known_choice null reached (forms, is, first) read = absurd (none_there null (λ k. refl) refl (kind_of o) forms is first)
  known_choice (boolean b) reached (forms, is, first) read = absurd (none_there (boolean b) (λ k. refl) refl (kind_of o) forms is first)
  known_choice (integer z) reached (forms, is, first) read = absurd (none_there (integer z) (λ k. refl) refl (kind_of o) forms is first)
  known_choice (string s) reached (forms, is, first) read = absurd (none_there (string s) (λ k. refl) refl (kind_of o) forms is first)
  known_choice (array es) reached (forms, is, first) read = absurd (none_there (array es) (λ k. refl) refl (kind_of o) forms is first)
