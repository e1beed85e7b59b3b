-- Each form of a Thing as a whole leads to all its properties.
use Rattle.std.proofs.Common.{◌≡◌, ℕ, Bool, true, false, List, [], ◌∷◌, ◌++◌, inl, inr}
use Rattle.std.specs.Prelude.{codes, if◌then◌else◌}
use Rattle.std.specs.List.{AllByRecursion}
use Rattle.wot_json.specs.Tree.{Json}
use Rattle.wot_terms.specs.declared.kind.Kind.TheVariants as kind
use Rattle.wot_terms.specs.declared.op.Op.{Op}
use Rattle.wot_terms.specs.declared.op.Op.TheVariants as op
use Rattle.wot_forms.specs.declared.bases.Bases.{Bases}
use Rattle.wot_forms.specs.Forms.{form_of}
use Rattle.wot_forms.specs.Segments.{is_plain_segment}
use Rattle.wot_forms.specs.Generated.{plain_form, holder_path, some_without, generated_root_forms}
use Rattle.thing_site.specs.Site.{ExposedThing, Site}
use Rattle.description_laws.specs.Leading.{Http, Coap, RootFormLeads}
use Rattle.description_laws.proofs.Places.{AreThere, all_read, all_written}
use Rattle.description_laws.proofs.Forms.{holder_path_said}

module _ (bases : Bases) (site : Site) (segment : List ℕ) (plain : is_plain_segment segment ≡ true) (thing : ExposedThing) (there : AreThere site segment thing) where
  abbrev pub EachRootLeads : List Json → Type 0
  EachRootLeads forms = AllByRecursion (λ v. RootFormLeads bases site thing (form_of [] v)) forms

  abbrev ops_by : Bool → Bool → List Op
  ops_by reads writes = (if reads then op.ReadAllProperties ∷ [] else []) ++ (if writes then op.WriteMultipleProperties ∷ [] else [])

  by_http : (reads writes : Bool) → EachRootLeads (plain_form (holder_path bases.http segment kind.Property) (ops_by reads writes))
  by_http true true = (
    inl (record {
      path = segment ∷ codes "properties" ∷ [];
      has = holder_path_said segment plain Http bases.http kind.Property;
      each = (all_read site segment thing there, (all_written site segment thing there, tt));
      targets = (tt, (tt, tt));
    }),
    tt,
  )
  by_http true false =
      (inl (record { path = segment ∷ codes "properties" ∷ []; has = holder_path_said segment plain Http bases.http kind.Property; each = (all_read site segment thing there, tt); targets = (tt, tt) }), tt)
  by_http false true =
      (inl (record { path = segment ∷ codes "properties" ∷ []; has = holder_path_said segment plain Http bases.http kind.Property; each = (all_written site segment thing there, tt); targets = (tt, tt) }), tt)
  by_http false false = tt

  by_coap : (reads writes : Bool) → EachRootLeads (plain_form (holder_path bases.coap segment kind.Property) (ops_by reads writes))
  by_coap true true = (
    inr (record {
      path = segment ∷ codes "properties" ∷ [];
      has = holder_path_said segment plain Coap bases.coap kind.Property;
      each = (all_read site segment thing there, (all_written site segment thing there, tt));
      targets = (tt, (tt, tt));
    }),
    tt,
  )
  by_coap true false =
      (inr (record { path = segment ∷ codes "properties" ∷ []; has = holder_path_said segment plain Coap bases.coap kind.Property; each = (all_read site segment thing there, tt); targets = (tt, tt) }), tt)
  by_coap false true =
      (inr (record { path = segment ∷ codes "properties" ∷ []; has = holder_path_said segment plain Coap bases.coap kind.Property; each = (all_written site segment thing there, tt); targets = (tt, tt) }), tt)
  by_coap false false = tt

  both_roots : (xs ys : List Json) → EachRootLeads xs → EachRootLeads ys → EachRootLeads (xs ++ ys)
  both_roots [] ys one other = other
  both_roots (x ∷ xs) ys one other = (one.0, both_roots xs ys one.1 other)

  pub root_forms_lead : (properties : List (List ℕ × Json)) → EachRootLeads (generated_root_forms bases segment properties)
  root_forms_lead properties =
      let reads : Bool = some_without (codes "writeOnly") properties in
      let writes : Bool = some_without (codes "readOnly") properties in
      both_roots (plain_form (holder_path bases.http segment kind.Property) (ops_by reads writes)) (plain_form (holder_path bases.coap segment kind.Property) (ops_by reads writes))
      (by_http reads writes) (by_coap reads writes)
