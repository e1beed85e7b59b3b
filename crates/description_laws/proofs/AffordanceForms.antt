-- The forms that are read of an affordance are those that were generated for it.
use Rattle.std.proofs.Common.{◌≡◌, ℕ, List, [], ◌∷◌, map, false, Option, Some, refl, sym, ap, subst, ◌∙◌}
use Rattle.std.specs.Prelude.{codes}
use Rattle.std.specs.List.{AllByRecursion}
use Rattle.std.specs.Option.{option_map_or}
use Rattle.std.specs.Str.{bytes_eq}
use Rattle.wot_json.specs.Tree.{Json, null, boolean, integer, string, array, object, elements_of}
use Rattle.wot_json.specs.Lookup.{member_named, member_list}
use Rattle.wot_json.specs.Merge.{with_member}
use Rattle.wot_json.proofs.EqualTrees.{listed_members_lem}
use Rattle.wot_terms.specs.declared.kind.Kind.{Kind}
use Rattle.wot_terms.specs.declared.op.Op.{Op}
use Rattle.wot_terms.specs.Affordances.{part, flag_of, is_true, affordance_of}
use Rattle.wot_forms.specs.declared.form.Form.{Form}
use Rattle.wot_forms.specs.Forms.{form_of, list_forms, forms_under}
use Rattle.wot_forms.specs.Generated.{with_forms}
use Rattle.wot_forms.proofs.FormLists.{forms_in_list}
use Rattle.thing_site.specs.Site.{Slots, placed}
use Rattle.description_laws.proofs.Members.{named_with, named_with_other}
use Rattle.description_laws.proofs.Forms.{IsOf}

-- what is read of a value is read of it with its forms, but for the forms
pub flag_after : (forms : List Json) (name : List ℕ) (v : Json) → bytes_eq name (codes "forms") ≡ false → flag_of name (with_forms forms v) ≡ flag_of name v
flag_after forms name (object ms) differ =
    ap is_true (ap (member_named name) (listed_members_lem (with_member (codes "forms") (array (elements_of forms)) (member_list ms))) ∙ named_with_other name (codes "forms") (array (elements_of forms)) (member_list ms) differ)
flag_after forms name null differ = refl
flag_after forms name (boolean b) differ = refl
flag_after forms name (integer z) differ = refl
flag_after forms name (string s) differ = refl
flag_after forms name (array es) differ = refl

pub is_of : (slots : Slots) (segment : List ℕ) (k : Kind) (name : List ℕ) (forms : List Json) (v : Json) → IsOf (placed slots segment (affordance_of k name (with_forms forms v))) v
is_of slots segment k name forms v = record {
  read_only = flag_after forms (codes "readOnly") v refl;
  write_only = flag_after forms (codes "writeOnly") v refl;
  observable = flag_after forms (codes "observable") v refl;
}

-- its forms are those that were generated, or it is no affordance and has none
pub all_mapped : {A B : Type 0} (P : B → Type 0) (f : A → B) (xs : List A) → AllByRecursion (λ x. P (f x)) xs → AllByRecursion P (map f xs)
all_mapped P f [] all = tt
all_mapped P f (x ∷ xs) all = (all.0, all_mapped P f xs all.1)

pub forms_after : (P : Form → Type 0) (defaults : List Op) (forms : List Json) (v : Json) → AllByRecursion (λ w. P (form_of defaults w)) forms
    → AllByRecursion P (forms_under defaults (with_forms forms v))
forms_after P defaults forms (object ms) all =
    subst (λ (o : Option Json). AllByRecursion P (option_map_or (list_forms defaults) o [])) (sym at)
    (subst (λ (fs : List Form). AllByRecursion P fs) (sym (forms_in_list defaults forms)) (all_mapped P (form_of defaults) forms all))
  where
    at : part (codes "forms") (with_forms forms (object ms)) ≡ Some (array (elements_of forms))
    at = ap (member_named (codes "forms")) (listed_members_lem (with_member (codes "forms") (array (elements_of forms)) (member_list ms))) ∙ named_with (codes "forms") (array (elements_of forms)) (member_list ms)
forms_after P defaults forms null all = tt
forms_after P defaults forms (boolean b) all = tt
forms_after P defaults forms (integer z) all = tt
forms_after P defaults forms (string s) all = tt
forms_after P defaults forms (array es) all = tt
