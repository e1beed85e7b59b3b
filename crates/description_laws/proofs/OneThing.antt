-- All forms of one Thing, whose description is generated, lead where they say.
use Rattle.std.proofs.Common.{◌≡◌, ℕ, Bool, true, false, List, [], ◌∷◌, ◌++◌, map, Option, Some, None, refl, sym, ap, ap₂, subst, ◌∙◌, append-nil}
use Rattle.std.specs.Prelude.{codes, cond, unwrap_or, option_map, option_and_then}
use Rattle.std.specs.List.{AllByRecursion}
use Rattle.std.specs.Option.{option_map_or}
use Rattle.std.specs.Str.{bytes_eq}
use Rattle.wot_json.specs.Tree.{Json, null, boolean, integer, string, array, object, Members, no_members, member, AreOrdered}
use Rattle.wot_json.specs.Lookup.{member_list, value_under}
use Rattle.wot_json.specs.WellFormed.{IsWellFormed, MembersAreWellFormed}
use Rattle.wot_json.proofs.EqualTrees.{listed_members_lem}
use Rattle.wot_terms.specs.declared.kind.Kind.{Kind}
use Rattle.wot_terms.specs.declared.kind.Kind.TheVariants as kind
use Rattle.wot_terms.specs.Faults.{holder}
use Rattle.wot_terms.specs.declared.affordance.Affordance.{Affordance}
use Rattle.wot_terms.specs.Affordances.{part, flag_of, affordance_of, named_affordances, held_affordances}
use Rattle.wot_forms.specs.declared.bases.Bases.{Bases}
use Rattle.wot_forms.specs.declared.form.Form.{Form}
use Rattle.wot_forms.specs.Segments.{is_plain_segment}
use Rattle.wot_forms.specs.Forms.{default_ops, affordance_forms}
use Rattle.wot_forms.specs.Generated.{with_forms, each_with_forms, generated_forms, generated}
use Rattle.thing_site.specs.Site.{Placed, ExposedThing, Site, Slots, placed, exposed, affordance_named}
use Rattle.description_laws.specs.Encoding.{AreBytes}
use Rattle.description_laws.specs.Leading.{FormLeads, AffordanceIsReached}
use Rattle.description_laws.proofs.Members.{Field, IsFound, each_of, both_of, each_found}
use Rattle.description_laws.proofs.Generation.{held_after, held_is}
use Rattle.description_laws.proofs.Places.{AreThere, placed_all, by_member, past_others}
use Rattle.description_laws.proofs.Forms.{forms_lead}
use Rattle.description_laws.proofs.AffordanceForms.{is_of, forms_after}

-- ---- the members of a kind

abbrev pub members_for : Option Json → Members
members_for (Some (object ms)) = ms
members_for (Some null) = no_members
members_for (Some (boolean b)) = no_members
members_for (Some (integer z)) = no_members
members_for (Some (string s)) = no_members
members_for (Some (array es)) = no_members
members_for None = no_members

listed_for : (k : Kind) (o : Option Json) → option_map_or (held_affordances k) o [] ≡ named_affordances k (members_for o)
listed_for k (Some (object ms)) = refl
listed_for k (Some null) = refl
listed_for k (Some (boolean b)) = refl
listed_for k (Some (integer z)) = refl
listed_for k (Some (string s)) = refl
listed_for k (Some (array es)) = refl
listed_for k None = refl

-- what is found among them is found in the value
pub found_in : (name : List ℕ) (v : Json) (o : Option Json) → value_under name (members_for o) ≡ Some v → option_and_then (part name) o ≡ Some v
found_in name v (Some (object ms)) is = is
found_in name v (Some null) is = absurd cc
found_in name v (Some (boolean b)) is = absurd cc
found_in name v (Some (integer z)) is = absurd cc
found_in name v (Some (string s)) is = absurd cc
found_in name v (Some (array es)) is = absurd cc
found_in name v None is = absurd cc

abbrev IsWellHeld : Option Json → Type 0
IsWellHeld o = AreOrdered (member_list (members_for o))

ordered_for : (v : Json) → IsWellFormed v → IsWellHeld (Some v)
ordered_for (object ms) well = well.0
ordered_for null well = tt
ordered_for (boolean b) well = tt
ordered_for (integer z) well = tt
ordered_for (string s) well = tt
ordered_for (array es) well = tt

pub under_well : (name : List ℕ) (ms : Members) → MembersAreWellFormed ms → IsWellHeld (value_under name ms)
under_well name no_members well = tt
under_well name (member m w ms) well = by (bytes_eq name m) (under_well name ms well.2)
  where
    by : (b : Bool) → IsWellHeld (value_under name ms) → IsWellHeld (cond b (Some w) (value_under name ms))
    by true further = ordered_for w well.1
    by false further = further

-- each has the forms that were generated for it
abbrev pub IsWithForms : Bases → List ℕ → Kind → Field → Type 0
IsWithForms bases segment k m = (v : Json) × (m.1 ≡ with_forms (generated_forms bases segment k m.0 v) v)

each_made : (bases : Bases) (segment : List ℕ) (k : Kind) (ms : List Field) → AllByRecursion (IsWithForms bases segment k) (each_with_forms bases segment k ms)
each_made bases segment k [] = tt
each_made bases segment k (m ∷ ms) = ((m.1, refl), each_made bases segment k ms)

pub made_for : (bases : Bases) (segment : List ℕ) (k : Kind) (o : Option Json) → AllByRecursion (IsWithForms bases segment k) (member_list (members_for (held_after bases segment k o)))
made_for bases segment k (Some (object os)) =
    subst (λ (fs : List Field). AllByRecursion (IsWithForms bases segment k) fs) (sym (listed_members_lem (each_with_forms bases segment k (member_list os)))) (each_made bases segment k (member_list os))
made_for bases segment k (Some null) = tt
made_for bases segment k (Some (boolean b)) = tt
made_for bases segment k (Some (integer z)) = tt
made_for bases segment k (Some (string s)) = tt
made_for bases segment k (Some (array es)) = tt
made_for bases segment k None = tt

-- ---- lists of affordances

map_both : {A B : Type 0} (f : A → B) (xs ys : List A) → map f (xs ++ ys) ≡ map f xs ++ map f ys
map_both f [] ys = refl
map_both f (x ∷ xs) ys = ap (λ (zs : List _). f x ∷ zs) (map_both f xs ys)

over_members : (slots : Slots) (segment : List ℕ) (k : Kind) (G : Placed → Type 0) (ms : Members) → AllByRecursion (λ (m : Field). G (placed slots segment (affordance_of k m.0 m.1))) (member_list ms)
    → AllByRecursion G (placed_all slots segment k ms)
over_members slots segment k G no_members all = tt
over_members slots segment k G (member m v ms) all = (all.0, over_members slots segment k G ms all.1)

each_in_both : {A : Type 0} (P : A → Type 0) (xs ys : List A) → AllByRecursion P xs → AllByRecursion P ys → AllByRecursion P (xs ++ ys)
each_in_both P [] ys one other = other
each_in_both P (x ∷ xs) ys one other = (one.0, each_in_both P xs ys one.1 other)

-- ---- the Thing

module _ (bases : Bases) (site : Site) (segment : List ℕ) (plain : is_plain_segment segment ≡ true) (slots : Slots) (ms : Members) where
  abbrev pub tree : Json
  tree = generated (object ms) bases segment

  abbrev pub held : Kind → Option Json
  held k = part (holder k) tree

  abbrev pub those : Kind → Members
  those k = members_for (held k)

  abbrev pub thing : ExposedThing
  thing = exposed slots (segment, tree)

  pub affordances_are : thing.affordances ≡ placed_all slots segment kind.Property (those kind.Property) ++ (placed_all slots segment kind.Action (those kind.Action) ++ placed_all slots segment kind.Event (those kind.Event))
  affordances_are =
      ap (map (placed slots segment)) (ap₂ (λ (xs ys : List Affordance). xs ++ ys) (listed_for kind.Property (held kind.Property))
      (ap₂ (λ (xs ys : List Affordance). xs ++ ys) (listed_for kind.Action (held kind.Action)) (listed_for kind.Event (held kind.Event))))
      ∙ map_both (placed slots segment) (named_affordances kind.Property (those kind.Property)) (named_affordances kind.Action (those kind.Action) ++ named_affordances kind.Event (those kind.Event))
      ∙ ap (λ (ps : List Placed). placed_all slots segment kind.Property (those kind.Property) ++ ps)
      (map_both (placed slots segment) (named_affordances kind.Action (those kind.Action)) (named_affordances kind.Event (those kind.Event)))

  -- an affordance is found by its kind and its name
  pub found : (k : Kind) (name : List ℕ) (v : Json) → value_under name (those k) ≡ Some v → affordance_named k name thing.affordances ≡ Some (placed slots segment (affordance_of k name v))
  found kind.Property name v is =
      ap (affordance_named kind.Property name) affordances_are
      ∙ by_member slots segment kind.Property name (those kind.Property) (placed_all slots segment kind.Action (those kind.Action) ++ placed_all slots segment kind.Event (those kind.Event)) v refl is
  found kind.Action name v is =
      ap (affordance_named kind.Action name) affordances_are
      ∙ past_others slots segment kind.Action kind.Property name (those kind.Property) (placed_all slots segment kind.Action (those kind.Action) ++ placed_all slots segment kind.Event (those kind.Event)) refl
      ∙ by_member slots segment kind.Action name (those kind.Action) (placed_all slots segment kind.Event (those kind.Event)) v refl is
  found kind.Event name v is =
      ap (affordance_named kind.Event name) affordances_are
      ∙ past_others slots segment kind.Event kind.Property name (those kind.Property) (placed_all slots segment kind.Action (those kind.Action) ++ placed_all slots segment kind.Event (those kind.Event)) refl
      ∙ past_others slots segment kind.Event kind.Action name (those kind.Action) (placed_all slots segment kind.Event (those kind.Event)) refl
      ∙ ap (affordance_named kind.Event name) (sym (append-nil (placed_all slots segment kind.Event (those kind.Event))))
      ∙ by_member slots segment kind.Event name (those kind.Event) [] v refl is

  module _ (there : AreThere site segment thing) where
    -- one member
    member_leads : (k : Kind) (name : List ℕ) (v v0 : Json) → v ≡ with_forms (generated_forms bases segment k name v0) v0
        → affordance_named k name thing.affordances ≡ Some (placed slots segment (affordance_of k name v)) → AreBytes name
        → AllByRecursion (FormLeads bases site (placed slots segment (affordance_of k name v))) (affordance_forms k v)
    member_leads k name v v0 e named are =
        subst (λ (x : Json). affordance_named k name thing.affordances ≡ Some (placed slots segment (affordance_of k name x)) → AllByRecursion (FormLeads bases site (placed slots segment (affordance_of k name x))) (affordance_forms k x))
        (sym e) at named
      where
        w : Json
        w = with_forms (generated_forms bases segment k name v0) v0

        p : Placed
        p = placed slots segment (affordance_of k name w)

        at : affordance_named k name thing.affordances ≡ Some p → AllByRecursion (FormLeads bases site p) (affordance_forms k w)
        at is = forms_after (FormLeads bases site p) (default_ops k (flag_of (codes "readOnly") w) (flag_of (codes "writeOnly") w)) (generated_forms bases segment k name v0) v0
            (forms_lead bases site segment plain thing there name are p (default_ops k (flag_of (codes "readOnly") w) (flag_of (codes "writeOnly") w)) k v0 is (is_of slots segment k name (generated_forms bases segment k name v0) v0))

    abbrev Good : Placed → Type 0
    Good p = AffordanceIsReached bases site thing p

    one_good : (k : Kind) (m : Field) → IsFound (member_list (those k)) m → IsWithForms bases segment k m → Good (placed slots segment (affordance_of k m.0 m.1))
    one_good k m is made are =
        subst (λ (o : Option (List Form)). AllByRecursion (FormLeads bases site (placed slots segment (affordance_of k m.0 m.1))) (unwrap_or o []))
        (sym (ap (option_map (affordance_forms k)) (found_in m.0 m.1 (held k) is)))
        (member_leads k m.0 m.1 made.0 made.1 (found k m.0 m.1 is) are)

    kind_good : (k : Kind) → AreOrdered (member_list (those k)) → AllByRecursion Good (placed_all slots segment k (those k))
    kind_good k ordered =
        over_members slots segment k Good (those k)
        (each_of (λ (m : Field). IsFound (member_list (those k)) m × IsWithForms bases segment k m) (λ (m : Field). Good (placed slots segment (affordance_of k m.0 m.1))) (λ m is. one_good k m is.0 is.1) (member_list (those k))
        (both_of (IsFound (member_list (those k))) (IsWithForms bases segment k) (member_list (those k)) (each_found (member_list (those k)) ordered)
        (subst (λ (o : Option Json). AllByRecursion (IsWithForms bases segment k) (member_list (members_for o))) (sym (held_is bases segment ms k)) (made_for bases segment k (value_under (holder k) ms)))))

    pub all_good : IsWellFormed tree → AllByRecursion Good thing.affordances
    all_good well =
        subst (λ (ps : List Placed). AllByRecursion Good ps) (sym affordances_are)
        (each_in_both Good (placed_all slots segment kind.Property (those kind.Property)) (placed_all slots segment kind.Action (those kind.Action) ++ placed_all slots segment kind.Event (those kind.Event))
        (kind_good kind.Property (ordered kind.Property))
        (each_in_both Good (placed_all slots segment kind.Action (those kind.Action)) (placed_all slots segment kind.Event (those kind.Event)) (kind_good kind.Action (ordered kind.Action)) (kind_good kind.Event (ordered kind.Event))))
      where
        ordered : (k : Kind) → AreOrdered (member_list (those k))
        ordered k = under_well (holder k) _ well.1
