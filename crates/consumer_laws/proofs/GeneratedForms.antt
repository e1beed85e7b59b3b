-- The forms that are generated name no method, and their URLs are a base with segments behind it.
use Rattle.std.proofs.Common.{◌≡◌, ◌⊎◌, ℕ, Bool, true, false, List, [], ◌∷◌, ◌++◌, append_assoc, append-nil, Option, Some, None, inl, inr, refl, sym, subst, ◌∙◌}
use Rattle.std.specs.Prelude.{codes, if◌then◌else◌}
use Rattle.std.specs.List.{AllByRecursion}
use Rattle.std.specs.Option.{option_map_or}
use Rattle.std.specs.Str.{bytes_eq}
use Rattle.std.proofs.lemmas.Slice.Eq.{bytes_eq-Decides}
use Rattle.servient_base.specs.Encoding.{encoded}
use Rattle.wot_json.specs.Tree.{Json, null, boolean, integer, string, array, object, Members}
use Rattle.wot_json.specs.Lookup.{member_named, member_list, value_under}
use Rattle.wot_terms.specs.declared.kind.Kind.{Kind}
use Rattle.wot_terms.specs.declared.kind.Kind.TheVariants as kind
use Rattle.wot_terms.specs.declared.op.Op.{Op}
use Rattle.wot_terms.specs.declared.op.Op.TheVariants as op
use Rattle.wot_terms.specs.Faults.{holder}
use Rattle.wot_terms.specs.Affordances.{part, flag_of}
use Rattle.wot_forms.specs.declared.bases.Bases.{Bases}
use Rattle.wot_forms.specs.declared.form.Form.{Form}
use Rattle.wot_forms.specs.Forms.{default_ops, form_of, list_forms, forms_under, affordance_forms}
use Rattle.wot_forms.specs.Generated.{form, plain_form, holder_path, affordance_path, generated_forms, root_ops, generated_root_forms, is_coap_segment, property_ops, with_forms, generated}
use Rattle.wot_forms.proofs.FormLists.{forms_in_list}
use Rattle.description_laws.specs.Leading.{Binding, Http, Coap, base_by}
use Rattle.description_laws.proofs.EncodedBytes.{encoded_is_inside}
use Rattle.description_laws.proofs.Targets.{slashed, AreParts}
use Rattle.description_laws.proofs.Paths.{url_of, url_is}
use Rattle.description_laws.proofs.Members.{Field}
use Rattle.description_laws.proofs.Generation.{held_is, root_forms_held, root_forms_are}
use Rattle.description_laws.proofs.AffordanceForms.{all_mapped, forms_after}
use Rattle.description_laws.proofs.OneThing.{members_for, IsWithForms, made_for}

-- ---- one form

pub record IsPlainForm (bases : Bases) (f : Form) : Type 0 where
  pub method : f.method ≡ None
  pub first : List ℕ
  pub second : List ℕ
  pub more : List (List ℕ)
  pub parts : AreParts (first ∷ second ∷ more)
  pub at : (f.href ≡ bases.http ++ slashed (first ∷ second ∷ more)) ⊎ (f.href ≡ bases.coap ++ slashed (first ∷ second ∷ more))

no_method : (defaults : List Op) (href : List ℕ) (ops : List Op) (sub : Option (List ℕ)) → (form_of defaults (form href ops sub)).method ≡ None
no_method defaults href ops None = refl
no_method defaults href ops (Some name) = refl

holder_inside : (k : Kind) → AreParts (holder k ∷ [])
holder_inside kind.Property = (encoded_is_inside (codes "properties"), tt)
holder_inside kind.Action = (encoded_is_inside (codes "actions"), tt)
holder_inside kind.Event = (encoded_is_inside (codes "events"), tt)

module _ (bases : Bases) (segment : List ℕ) where
  at_base : (b : Binding) (href : List ℕ) (parts : List (List ℕ)) → href ≡ base_by b bases ++ slashed parts → (href ≡ bases.http ++ slashed parts) ⊎ (href ≡ bases.coap ++ slashed parts)
  at_base Http href parts is = inl is
  at_base Coap href parts is = inr is

  plain : (b : Binding) (defaults : List Op) (href : List ℕ) (ops : List Op) (sub : Option (List ℕ)) (k : Kind) (more : List (List ℕ)) → AreParts more
      → href ≡ url_of (base_by b bases) (encoded segment ∷ holder k ∷ more) → IsPlainForm bases (form_of defaults (form href ops sub))
  plain b defaults href ops sub k more are is = record {
    method = no_method defaults href ops sub;
    first = encoded segment;
    second = holder k;
    more = more;
    parts = (encoded_is_inside segment, ((holder_inside k).0, are));
    at = at_base b href (encoded segment ∷ holder k ∷ more) (is ∙ url_is (base_by b bases) (encoded segment ∷ holder k ∷ more));
  }

  abbrev ArePlain : List Op → List Json → Type 0
  ArePlain defaults forms = AllByRecursion (λ v. IsPlainForm bases (form_of defaults v)) forms

  both_plain : (defaults : List Op) (xs ys : List Json) → ArePlain defaults xs → ArePlain defaults ys → ArePlain defaults (xs ++ ys)
  both_plain defaults [] ys one other = other
  both_plain defaults (x ∷ xs) ys one other = (one.0, both_plain defaults xs ys one.1 other)

  only_where : (defaults : List Op) (t : Bool) (forms : List Json) → ArePlain defaults forms → ArePlain defaults (if t then forms else [])
  only_where defaults true forms all = all
  only_where defaults false forms all = tt

  plain_ops : (b : Binding) (defaults : List Op) (href : List ℕ) (ops : List Op) (k : Kind) (more : List (List ℕ)) → AreParts more
      → href ≡ url_of (base_by b bases) (encoded segment ∷ holder k ∷ more) → ArePlain defaults (plain_form href ops)
  plain_ops b defaults href [] k more are is = tt
  plain_ops b defaults href (o ∷ ops) k more are is = (plain b defaults href (o ∷ ops) None k more are is, tt)

  module _ (name : List ℕ) (defaults : List Op) where
    named : AreParts (encoded name ∷ [])
    named = (encoded_is_inside name, tt)

    longer : (url word : List ℕ) → url ++ (47 ∷ word) ≡ url ++ codes "/" ++ word
    longer url word = sym (append_assoc url (codes "/") word)

    -- what the path and the subprotocol of a form that brings values are
    abbrev observe_of : Binding → List ℕ
    observe_of Http = codes "/observe"
    observe_of Coap = []

    abbrev subscribe_of : Binding → List ℕ
    subscribe_of Http = codes "/subscribe"
    subscribe_of Coap = []

    abbrev subprotocol_by : Binding → List ℕ
    subprotocol_by Http = codes "longpoll"
    subprotocol_by Coap = codes "cov:observe"

    abbrev path_by : Binding → Kind → List ℕ
    path_by b k = affordance_path (base_by b bases) segment k name

    observed : (b : Binding) → IsPlainForm bases (form_of defaults (form (path_by b kind.Property ++ observe_of b) (op.ObserveProperty ∷ op.UnobserveProperty ∷ []) (Some (subprotocol_by b))))
    observed Http =
        plain Http defaults (path_by Http kind.Property ++ codes "/observe") (op.ObserveProperty ∷ op.UnobserveProperty ∷ []) (Some (codes "longpoll")) kind.Property (encoded name ∷ codes "observe" ∷ [])
        (encoded_is_inside name, (encoded_is_inside (codes "observe"), tt)) (longer (path_by Http kind.Property) (codes "observe"))
    observed Coap =
        plain Coap defaults (path_by Coap kind.Property ++ []) (op.ObserveProperty ∷ op.UnobserveProperty ∷ []) (Some (codes "cov:observe")) kind.Property (encoded name ∷ []) named (append-nil (path_by Coap kind.Property))

    subscribed : (b : Binding) → IsPlainForm bases (form_of defaults (form (path_by b kind.Event ++ subscribe_of b) (op.SubscribeEvent ∷ op.UnsubscribeEvent ∷ []) (Some (subprotocol_by b))))
    subscribed Http =
        plain Http defaults (path_by Http kind.Event ++ codes "/subscribe") (op.SubscribeEvent ∷ op.UnsubscribeEvent ∷ []) (Some (codes "longpoll")) kind.Event (encoded name ∷ codes "subscribe" ∷ [])
        (encoded_is_inside name, (encoded_is_inside (codes "subscribe"), tt)) (longer (path_by Http kind.Event) (codes "subscribe"))
    subscribed Coap =
        plain Coap defaults (path_by Coap kind.Event ++ []) (op.SubscribeEvent ∷ op.UnsubscribeEvent ∷ []) (Some (codes "cov:observe")) kind.Event (encoded name ∷ []) named (append-nil (path_by Coap kind.Event))

    abbrev property_forms : Binding → Json → List Json
    property_forms b v =
        plain_form (path_by b kind.Property) (property_ops v)
        ++ (if flag_of (codes "observable") v then form (path_by b kind.Property ++ observe_of b) (op.ObserveProperty ∷ op.UnobserveProperty ∷ []) (Some (subprotocol_by b)) ∷ [] else [])

    of_property : (b : Binding) (v : Json) → ArePlain defaults (property_forms b v)
    of_property b v =
        both_plain defaults (plain_form (path_by b kind.Property) (property_ops v)) _
        (plain_ops b defaults (path_by b kind.Property) (property_ops v) kind.Property (encoded name ∷ []) named refl)
        (only_where defaults (flag_of (codes "observable") v) (form (path_by b kind.Property ++ observe_of b) (op.ObserveProperty ∷ op.UnobserveProperty ∷ []) (Some (subprotocol_by b)) ∷ []) (observed b, tt))

    of_action : (b : Binding) → IsPlainForm bases (form_of defaults (form (path_by b kind.Action) (op.InvokeAction ∷ []) None))
    of_action b = plain b defaults (path_by b kind.Action) (op.InvokeAction ∷ []) None kind.Action (encoded name ∷ []) named refl

    all_plain : (k : Kind) (v : Json) → ArePlain defaults (generated_forms bases segment k name v)
    all_plain kind.Property v =
        both_plain defaults (property_forms Http v) _ (of_property Http v) (only_where defaults (is_coap_segment name) (property_forms Coap v) (of_property Coap v))
    all_plain kind.Action v =
        (of_action Http, only_where defaults (is_coap_segment name) (form (path_by Coap kind.Action) (op.InvokeAction ∷ []) None ∷ []) (of_action Coap, tt))
    all_plain kind.Event v =
        (subscribed Http, only_where defaults (is_coap_segment name) (form (path_by Coap kind.Event ++ []) (op.SubscribeEvent ∷ op.UnsubscribeEvent ∷ []) (Some (codes "cov:observe")) ∷ []) (subscribed Coap, tt))

  -- the operations of its forms that name none
  abbrev own_ops : Kind → Json → List Op
  own_ops k v = default_ops k (flag_of (codes "readOnly") v) (flag_of (codes "writeOnly") v)

  -- the forms of an affordance that has those that were generated
  with_plain : (k : Kind) (m : Field) → IsWithForms bases segment k m → AllByRecursion (IsPlainForm bases) (affordance_forms k m.1)
  with_plain k m made =
      subst (λ (v : Json). AllByRecursion (IsPlainForm bases) (affordance_forms k v)) (sym made.1)
      (forms_after (IsPlainForm bases) (own_ops k (with_forms (generated_forms bases segment k m.0 made.0) made.0)) (generated_forms bases segment k m.0 made.0) made.0
      (all_plain m.0 (own_ops k (with_forms (generated_forms bases segment k m.0 made.0) made.0)) k made.0))

  -- ---- the description

  -- what is found by its name holds what all hold
  found_holds : (P : Field → Type 0) (name : List ℕ) (ms : List Field) (v : Json) → AllByRecursion P ms → member_named name ms ≡ Some v → P (name, v)
  found_holds P name [] v all is = absurd cc
  found_holds P name (m ∷ ms) v all is = by (bytes_eq name m.0) refl (found_holds P name ms v all.1) is
    where
      value : Some m.1 ≡ Some v → m.1 ≡ v
      value e = cc

      by : (b : Bool) → bytes_eq name m.0 ≡ b → (member_named name ms ≡ Some v → P (name, v)) → (if b then Some m.1 else member_named name ms) ≡ Some v → P (name, v)
      by true same later found = subst (λ (n : List ℕ). P (n, v)) (sym ((bytes_eq-Decides name m.0).0 same)) (subst (λ (w : Json). P (m.0, w)) (value found) all.0)
      by false differ later found = later found

  module _ (ms : Members) where
    abbrev pub tree : Json
    tree = generated (object ms) bases segment

    -- the affordance of a name among those that have their forms
    pub affordance_plain : (k : Kind) (name : List ℕ) (v : Json) → value_under name (members_for (part (holder k) tree)) ≡ Some v → AllByRecursion (IsPlainForm bases) (affordance_forms k v)
    affordance_plain k name v is =
        with_plain k (name, v)
        (found_holds (IsWithForms bases segment k) name (member_list (members_for (part (holder k) tree))) v
        (subst (λ (o : Option Json). AllByRecursion (IsWithForms bases segment k) (member_list (members_for o))) (sym (held_is bases segment ms k)) (made_for bases segment k (value_under (holder k) ms)))
        is)

    -- the forms of the whole
    roots : (properties : List Field) → ArePlain [] (generated_root_forms bases segment properties)
    roots properties =
        both_plain [] (plain_form (holder_path bases.http segment kind.Property) (root_ops properties)) (plain_form (holder_path bases.coap segment kind.Property) (root_ops properties))
        (plain_ops Http [] (holder_path bases.http segment kind.Property) (root_ops properties) kind.Property [] tt refl)
        (plain_ops Coap [] (holder_path bases.coap segment kind.Property) (root_ops properties) kind.Property [] tt refl)

    pub root_plain : AllByRecursion (IsPlainForm bases) (forms_under [] tree)
    root_plain = subst (λ (o : Option Json). AllByRecursion (IsPlainForm bases) (option_map_or (list_forms []) o [])) (sym (root_forms_are bases segment ms)) (by (value_under (holder kind.Property) ms))
      where
        by : (o : Option Json) → AllByRecursion (IsPlainForm bases) (option_map_or (list_forms []) (root_forms_held bases segment o) [])
        by (Some (object os)) =
            subst (λ (fs : List Form). AllByRecursion (IsPlainForm bases) fs) (sym (forms_in_list [] (generated_root_forms bases segment (member_list os))))
            (all_mapped (IsPlainForm bases) (form_of []) (generated_root_forms bases segment (member_list os)) (roots (member_list os)))
        by (Some null) = tt
        by (Some (boolean b)) = tt
        by (Some (integer z)) = tt
        by (Some (string s)) = tt
        by (Some (array es)) = tt
        by None = tt
