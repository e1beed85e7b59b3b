-- Each act at the paths of one Thing, whose description is generated, has its form.
use Rattle.std.proofs.Common.{◌≡◌, ℕ, Bool, true, false, cond, List, [], ◌∷◌, ◌++◌, Option, Some, None, refl, sym, ap, subst, ◌∙◌, append-nil}
use Rattle.std.specs.Prelude.{codes, ◌&&◌, unwrap_or, option_map, if◌then◌else◌}
use Rattle.std.specs.List.{AllByRecursion}
use Rattle.std.specs.Option.{option_map_or}
use Rattle.std.specs.Str.{bytes_eq}
use Rattle.std.proofs.lemmas.Slice.Eq.{bytes_eq-Decides}
use Rattle.wot_json.specs.Tree.{Json, null, boolean, integer, string, array, object, Members, no_members, member, elements_of}
use Rattle.wot_json.specs.Lookup.{member_named, member_list, value_under}
use Rattle.wot_json.specs.Merge.{with_member}
use Rattle.wot_json.proofs.EqualTrees.{listed_members_lem}
use Rattle.wot_terms.specs.declared.kind.Kind.{Kind}
use Rattle.wot_terms.specs.declared.kind.Kind.TheVariants as kind
use Rattle.wot_terms.specs.declared.op.Op.{Op}
use Rattle.wot_terms.specs.Faults.{holder, faults_of}
use Rattle.wot_terms.specs.Affordances.{part, flag_of, affordance_of}
use Rattle.wot_forms.specs.declared.bases.Bases.{Bases}
use Rattle.wot_forms.specs.declared.form.Form.{Form}
use Rattle.wot_forms.specs.Segments.{is_plain_segment}
use Rattle.wot_forms.specs.Forms.{form_of, default_ops, list_forms, forms_under, affordance_forms}
use Rattle.wot_forms.specs.Generated.{is_object, with_forms, generated_forms}
use Rattle.wot_forms.proofs.FormLists.{forms_in_list}
use Rattle.thing_site.specs.Site.{Placed, ExposedThing, Site, Slots, placed, affordance_named, is_kind}
use Rattle.description_laws.specs.Leading.{forms_for}
use Rattle.description_laws.specs.Taking.{Among}
use Rattle.description_laws.proofs.Members.{Field, named_with}
use Rattle.description_laws.proofs.Generation.{held_is}
use Rattle.description_laws.proofs.Places.{placed_all, past_others}
use Rattle.description_laws.proofs.Forms.{IsOf}
use Rattle.description_laws.proofs.AffordanceForms.{is_of}
use Rattle.description_laws.proofs.OneThing.{members_for, found_in, IsWithForms, made_for, affordances_are, found, tree, held, those, thing}
use Rattle.description_laws.proofs.Saying.{among_mapped}
use Rattle.description_laws.proofs.ValidObjects.{are_objects}

-- where no member has the name, none of the affordances has it
absent : (slots : Slots) (segment : List ℕ) (k other : Kind) (name : List ℕ) (ms : Members) (rest : List Placed) → value_under name ms ≡ None
    → affordance_named k name (placed_all slots segment other ms ++ rest) ≡ affordance_named k name rest
absent slots segment k other name no_members rest none = refl
absent slots segment k other name (member m w ms) rest none = by (bytes_eq name m) refl (is_kind k other) (absent slots segment k other name ms rest) none
  where
    by : (b : Bool) → bytes_eq name m ≡ b → (t : Bool) → (value_under name ms ≡ None → affordance_named k name (placed_all slots segment other ms ++ rest) ≡ affordance_named k name rest)
        → cond b (Some w) (value_under name ms) ≡ None → affordance_named k name (placed_all slots segment other (member m w ms) ++ rest) ≡ affordance_named k name rest
    by true same t later is = absurd cc
    by false differ t later is = rw differ (by_kind (is_kind k other) (later is))
      where
        by_kind : (u : Bool) → affordance_named k name (placed_all slots segment other ms ++ rest) ≡ affordance_named k name rest
            → (if u && false then Some (placed slots segment (affordance_of other m w)) else affordance_named k name (placed_all slots segment other ms ++ rest)) ≡ affordance_named k name rest
        by_kind true is = is
        by_kind false is = is

-- a member that is found has what each has
at_name : (P : List ℕ → Json → Type 0) (name : List ℕ) (v : Json) (ms : List Field) → AllByRecursion (λ (m : Field). P m.0 m.1) ms → member_named name ms ≡ Some v → P name v
at_name P name v [] all is = absurd cc
at_name P name v (m ∷ ms) all is = by (bytes_eq name m.0) refl (at_name P name v ms all.1) is
  where
    value : Some m.1 ≡ Some v → m.1 ≡ v
    value e = cc

    by : (b : Bool) → bytes_eq name m.0 ≡ b → (member_named name ms ≡ Some v → P name v) → cond b (Some m.1) (member_named name ms) ≡ Some v → P name v
    by true same later e = subst (λ (n : List ℕ). P n v) (sym ((bytes_eq-Decides name m.0).0 same)) (subst (P m.0) (value e) all.0)
    by false differ later e = later e

-- among the forms that are read are those that were generated for an object
among_after : (P : Form → Type 0) (defaults : List Op) (forms : List Json) (v : Json) → is_object v ≡ true → Among (λ w. P (form_of defaults w)) forms
    → Among P (forms_under defaults (with_forms forms v))
among_after P defaults forms (object ms) is among =
    subst (λ (o : Option Json). Among P (option_map_or (list_forms defaults) o [])) (sym at)
    (subst (λ (fs : List Form). Among P fs) (sym (forms_in_list defaults forms)) (among_mapped P (form_of defaults) forms among))
  where
    at : part (codes "forms") (with_forms forms (object ms)) ≡ Some (array (elements_of forms))
    at = ap (member_named (codes "forms")) (listed_members_lem (with_member (codes "forms") (array (elements_of forms)) (member_list ms))) ∙ named_with (codes "forms") (array (elements_of forms)) (member_list ms)
among_after P defaults forms null is among = absurd cc
among_after P defaults forms (boolean b) is among = absurd cc
among_after P defaults forms (integer z) is among = absurd cc
among_after P defaults forms (string s) is among = absurd cc
among_after P defaults forms (array es) is among = absurd cc

-- a value with its forms is an object where the value is
pub object_with_forms : (forms : List Json) (v : Json) → is_object (with_forms forms v) ≡ is_object v
object_with_forms forms (object ms) = refl
object_with_forms forms null = refl
object_with_forms forms (boolean b) = refl
object_with_forms forms (integer z) = refl
object_with_forms forms (string s) = refl
object_with_forms forms (array es) = refl

-- what is known of an affordance that is found: the value that its forms were generated for
pub record IsKnown (bases : Bases) (segment : List ℕ) (t : ExposedThing) (k : Kind) (name : List ℕ) (p : Placed) : Type 0 where
  pub value : Json
  pub of : IsOf p value
  pub name_is : p.affordance.name ≡ name
  pub defaults : List Op
  pub is_one : is_object value ≡ true
  pub forms : forms_for t p ≡ forms_under defaults (with_forms (generated_forms bases segment k name value) value)

module _ (bases : Bases) (site : Site) (segment : List ℕ) (plain : is_plain_segment segment ≡ true) (slots : Slots) (ms : Members) where
  abbrev t : ExposedThing
  t = thing bases site segment plain slots ms

  abbrev members : Kind → Members
  members k = those bases site segment plain slots ms k

  -- an affordance that is found is that of a member
  named_from : (k : Kind) (name : List ℕ) (p : Placed) → affordance_named k name t.affordances ≡ Some p
      → (v : Json) × (value_under name (members k) ≡ Some v) × (placed slots segment (affordance_of k name v) ≡ p)
  named_from k name p is = by (value_under name (members k)) refl
    where
      same : (x : Placed) → Some x ≡ Some p → x ≡ p
      same x e = cc

      none : value_under name (members k) ≡ None → affordance_named k name t.affordances ≡ None
      none e = ap (affordance_named k name) (affordances_are bases site segment plain slots ms) ∙ by_kind k e
        where
          by_kind : (l : Kind) → value_under name (members l) ≡ None
              → affordance_named l name (placed_all slots segment kind.Property (members kind.Property) ++ (placed_all slots segment kind.Action (members kind.Action) ++ placed_all slots segment kind.Event (members kind.Event))) ≡ None
          by_kind kind.Property f =
              absent slots segment kind.Property kind.Property name (members kind.Property) (placed_all slots segment kind.Action (members kind.Action) ++ placed_all slots segment kind.Event (members kind.Event)) f
              ∙ past_others slots segment kind.Property kind.Action name (members kind.Action) (placed_all slots segment kind.Event (members kind.Event)) refl
              ∙ ap (affordance_named kind.Property name) (sym (append-nil (placed_all slots segment kind.Event (members kind.Event))))
              ∙ past_others slots segment kind.Property kind.Event name (members kind.Event) [] refl
          by_kind kind.Action f =
              past_others slots segment kind.Action kind.Property name (members kind.Property) (placed_all slots segment kind.Action (members kind.Action) ++ placed_all slots segment kind.Event (members kind.Event)) refl
              ∙ absent slots segment kind.Action kind.Action name (members kind.Action) (placed_all slots segment kind.Event (members kind.Event)) f
              ∙ ap (affordance_named kind.Action name) (sym (append-nil (placed_all slots segment kind.Event (members kind.Event))))
              ∙ past_others slots segment kind.Action kind.Event name (members kind.Event) [] refl
          by_kind kind.Event f =
              past_others slots segment kind.Event kind.Property name (members kind.Property) (placed_all slots segment kind.Action (members kind.Action) ++ placed_all slots segment kind.Event (members kind.Event)) refl
              ∙ past_others slots segment kind.Event kind.Action name (members kind.Action) (placed_all slots segment kind.Event (members kind.Event)) refl
              ∙ ap (affordance_named kind.Event name) (sym (append-nil (placed_all slots segment kind.Event (members kind.Event))))
              ∙ absent slots segment kind.Event kind.Event name (members kind.Event) [] f

      by : (o : Option Json) → value_under name (members k) ≡ o → (v : Json) × (value_under name (members k) ≡ Some v) × (placed slots segment (affordance_of k name v) ≡ p)
      by (Some v) e = (v, e, same (placed slots segment (affordance_of k name v)) (sym (found bases site segment plain slots ms k name v e) ∙ is))
      by None e = absurd (never (sym (none e) ∙ is))
        where
          never : None ≡ Some p → ⊥
          never f = cc

  pub known : faults_of (tree bases site segment plain slots ms) ≡ [] → (k : Kind) (name : List ℕ) (p : Placed) → affordance_named k name t.affordances ≡ Some p → IsKnown bases segment t k name p
  known valid k name p is =
      subst (λ (q : Placed). IsKnown bases segment t k name q) from.2 of_member
    where
      from : (v : Json) × (value_under name (members k) ≡ Some v) × (placed slots segment (affordance_of k name v) ≡ p)
      from = named_from k name p is

      made : IsWithForms bases segment k (name, from.0)
      made =
          at_name (λ (n : List ℕ) (v : Json). IsWithForms bases segment k (n, v)) name from.0 (member_list (members k))
          (subst (λ (o : Option Json). AllByRecursion (IsWithForms bases segment k) (member_list (members_for o))) (sym (held_is bases segment ms k)) (made_for bases segment k (value_under (holder k) ms))) from.1

      is_one : is_object from.0 ≡ true
      is_one = at_name (λ (n : List ℕ) (v : Json). is_object v ≡ true) name from.0 (member_list (members k)) (are_objects _ k valid) from.1

      is_one_before : is_object made.0 ≡ true
      is_one_before = sym (object_with_forms (generated_forms bases segment k name made.0) made.0) ∙ sym (ap is_object made.1) ∙ is_one

      of_member : IsKnown bases segment t k name (placed slots segment (affordance_of k name from.0))
      of_member = record {
        value = made.0;
        of = subst (λ (x : Json). IsOf (placed slots segment (affordance_of k name x)) made.0) (sym made.1) (is_of slots segment k name (generated_forms bases segment k name made.0) made.0);
        name_is = refl;
        defaults = default_ops k (flag_of (codes "readOnly") from.0) (flag_of (codes "writeOnly") from.0);
        is_one = is_one_before;
        forms =
            ap (λ (o : Option (List Form)). unwrap_or o []) (ap (option_map (affordance_forms k)) (found_in name from.0 (held bases site segment plain slots ms k) from.1))
            ∙ ap (λ (x : Json). forms_under (default_ops k (flag_of (codes "readOnly") from.0) (flag_of (codes "writeOnly") from.0)) x) made.1;
      }

-- a form that was generated is among those that are read
pub among_forms : (bases : Bases) (segment : List ℕ) (t : ExposedThing) (k : Kind) (name : List ℕ) (p : Placed) (is : IsKnown bases segment t k name p) (P : Form → Type 0)
    → Among (λ w. P (form_of is.defaults w)) (generated_forms bases segment k name is.value) → Among P (forms_for t p)
among_forms bases segment t k name p is P among =
    subst (λ (fs : List Form). Among P fs) (sym is.forms) (among_after P is.defaults (generated_forms bases segment k name is.value) is.value is.is_one among)
