-- Reading all properties and writing several have their forms, where there is something to read or to write.
use Rattle.std.proofs.Common.{◌≡◌, ℕ, Bool, true, false, List, [], ◌∷◌, ◌++◌, Option, Some, None, inl, inr, refl, sym, ap, ap₂, subst, ◌∙◌}
use Rattle.std.specs.Prelude.{codes, ◌⊎◌, ◌&&◌, ◌||◌, not, if◌then◌else◌}
use Rattle.std.specs.Option.{option_map_or}
use Rattle.std.specs.Str.{bytes_eq}
use Rattle.wot_json.specs.Tree.{Json, null, boolean, integer, string, array, object, Members}
use Rattle.wot_json.specs.Lookup.{member_list, value_under}
use Rattle.wot_json.specs.Merge.{members_under}
use Rattle.wot_json.proofs.EqualTrees.{listed_members_lem}
use Rattle.wot_terms.specs.declared.kind.Kind.TheVariants as kind
use Rattle.wot_terms.specs.declared.op.Op.{Op}
use Rattle.wot_terms.specs.declared.op.Op.TheVariants as op
use Rattle.wot_terms.specs.Faults.{holder}
use Rattle.wot_terms.specs.Affordances.{part}
use Rattle.wot_forms.specs.declared.bases.Bases.{Bases}
use Rattle.wot_forms.specs.declared.form.Form.{Form}
use Rattle.wot_forms.specs.Segments.{is_plain_segment}
use Rattle.wot_forms.specs.Forms.{form_of, list_forms, forms_under}
use Rattle.wot_forms.specs.Generated.{some_without, each_with_forms, generated_forms, generated_root_forms, holder_path, plain_form, generated}
use Rattle.wot_forms.proofs.FormLists.{forms_in_list}
use Rattle.thing_ops.specs.declared.verb.Verb.{Verb}
use Rattle.thing_ops.specs.declared.verb.Verb.TheVariants as verb
use Rattle.thing_site.specs.declared.place.ThingAct.{ThingAct}
use Rattle.thing_site.specs.declared.place.ThingAct.TheVariants as act
use Rattle.thing_site.specs.Site.{ExposedThing}
use Rattle.description_laws.specs.Leading.{Binding, Http, Coap, asked_of_thing}
use Rattle.description_laws.specs.Taking.{Among, Says, properties_of}
use Rattle.description_laws.proofs.Members.{Field}
use Rattle.description_laws.proofs.Generation.{held_after, held_is, root_forms_held, root_forms_are}
use Rattle.description_laws.proofs.AffordanceForms.{flag_after}
use Rattle.description_laws.proofs.Forms.{holder_path_said}
use Rattle.description_laws.proofs.Saying.{among_mapped}
use Rattle.description_laws.proofs.ToldThing.{object_with_forms}

-- the forms change no flag
same_some : (bases : Bases) (segment flag : List ℕ) (ms : List Field) → bytes_eq flag (codes "forms") ≡ false → some_without flag (each_with_forms bases segment kind.Property ms) ≡ some_without flag ms
same_some bases segment flag [] differ = refl
same_some bases segment flag (m ∷ ms) differ =
    ap₂ (λ (x y : Bool). x || y)
    (ap₂ (λ (x y : Bool). x && not y) (object_with_forms (generated_forms bases segment kind.Property m.0 m.1) m.1) (flag_after (generated_forms bases segment kind.Property m.0 m.1) flag m.1 differ))
    (same_some bases segment flag ms differ)

abbrev ops_by : Bool → Bool → List Op
ops_by reads writes = (if reads then op.ReadAllProperties ∷ [] else []) ++ (if writes then op.WriteMultipleProperties ∷ [] else [])

module _ (bases : Bases) (segment : List ℕ) (plain : is_plain_segment segment ≡ true) (t : ExposedThing) where
  abbrev words : List (List ℕ)
  words = segment ∷ codes "properties" ∷ []

  abbrev SaidBy : Binding → Verb → ThingAct → Json → Type 0
  SaidBy b v a w = Says bases b (asked_of_thing t) words v a (form_of [] w)

  abbrev forms_by : Bool → Bool → List Json
  forms_by reads writes = plain_form (holder_path bases.http segment kind.Property) (ops_by reads writes) ++ plain_form (holder_path bases.coap segment kind.Property) (ops_by reads writes)

  read_by : (b : Binding) (writes : Bool) → Among (SaidBy b verb.Get (act.ReadsAll t)) (forms_by true writes)
  read_by Http true = inl (holder_path_said segment plain Http bases.http kind.Property, inl refl)
  read_by Http false = inl (holder_path_said segment plain Http bases.http kind.Property, inl refl)
  read_by Coap true = inr (inl (holder_path_said segment plain Coap bases.coap kind.Property, inl refl))
  read_by Coap false = inr (inl (holder_path_said segment plain Coap bases.coap kind.Property, inl refl))

  write_by : (b : Binding) (reads : Bool) → Among (SaidBy b verb.Put (act.WritesMany t)) (forms_by reads true)
  write_by Http true = inl (holder_path_said segment plain Http bases.http kind.Property, inr (inl refl))
  write_by Http false = inl (holder_path_said segment plain Http bases.http kind.Property, inl refl)
  write_by Coap true = inr (inl (holder_path_said segment plain Coap bases.coap kind.Property, inr (inl refl)))
  write_by Coap false = inr (inl (holder_path_said segment plain Coap bases.coap kind.Property, inl refl))

  read_all : (b : Binding) (reads writes : Bool) → (reads ≡ false) ⊎ Among (SaidBy b verb.Get (act.ReadsAll t)) (forms_by reads writes)
  read_all b true writes = inr (read_by b writes)
  read_all b false writes = inl refl

  write_all : (b : Binding) (reads writes : Bool) → (writes ≡ false) ⊎ Among (SaidBy b verb.Put (act.WritesMany t)) (forms_by reads writes)
  write_all b reads true = inr (write_by b reads)
  write_all b reads false = inl refl

  module _ (ms : Members) where
    abbrev tree : Json
    tree = generated (object ms) bases segment

    abbrev Told : List ℕ → Binding → Verb → ThingAct → Option Json → Option Json → Type 0
    Told flag b v a properties forms = (some_without flag (option_map_or members_under properties []) ≡ false) ⊎ Among (Says bases b (asked_of_thing t) words v a) (option_map_or (list_forms []) forms [])

    -- from what is said of the forms that were generated to what is read of the description
    read_back : (flag : List ℕ) (b : Binding) (v : Verb) (a : ThingAct) → bytes_eq flag (codes "forms") ≡ false
        → ((ps : List Field) → (some_without flag ps ≡ false) ⊎ Among (SaidBy b v a) (generated_root_forms bases segment ps)) → (o : Option Json)
        → Told flag b v a (held_after bases segment kind.Property o) (root_forms_held bases segment o)
    read_back flag b v a differ is (Some (object os)) = by (is (member_list os))
      where
        by : (some_without flag (member_list os) ≡ false) ⊎ Among (SaidBy b v a) (generated_root_forms bases segment (member_list os))
            → Told flag b v a (held_after bases segment kind.Property (Some (object os))) (root_forms_held bases segment (Some (object os)))
        by (inl none) =
            inl (ap (some_without flag) (listed_members_lem (each_with_forms bases segment kind.Property (member_list os))) ∙ same_some bases segment flag (member_list os) differ ∙ none)
        by (inr among) =
            inr (subst (λ (fs : List Form). Among (Says bases b (asked_of_thing t) words v a) fs) (sym (forms_in_list [] (generated_root_forms bases segment (member_list os))))
            (among_mapped (Says bases b (asked_of_thing t) words v a) (form_of []) (generated_root_forms bases segment (member_list os)) among))
    read_back flag b v a differ is (Some null) = inl refl
    read_back flag b v a differ is (Some (boolean x)) = inl refl
    read_back flag b v a differ is (Some (integer z)) = inl refl
    read_back flag b v a differ is (Some (string s)) = inl refl
    read_back flag b v a differ is (Some (array es)) = inl refl
    read_back flag b v a differ is None = inl refl

    of_tree : (flag : List ℕ) (b : Binding) (v : Verb) (a : ThingAct) → Told flag b v a (held_after bases segment kind.Property (value_under (holder kind.Property) ms)) (root_forms_held bases segment (value_under (holder kind.Property) ms))
        → Told flag b v a (part (holder kind.Property) tree) (part (codes "forms") tree)
    of_tree flag b v a told =
        subst (λ (o : Option Json). Told flag b v a o (part (codes "forms") tree)) (sym (held_is bases segment ms kind.Property))
        (subst (λ (o : Option Json). Told flag b v a (held_after bases segment kind.Property (value_under (holder kind.Property) ms)) o) (sym (root_forms_are bases segment ms)) told)

    pub reads_told : (b : Binding) → (some_without (codes "writeOnly") (properties_of tree) ≡ false) ⊎ Among (Says bases b (asked_of_thing t) words verb.Get (act.ReadsAll t)) (forms_under [] tree)
    reads_told b =
        of_tree (codes "writeOnly") b verb.Get (act.ReadsAll t)
        (read_back (codes "writeOnly") b verb.Get (act.ReadsAll t) refl (λ ps. read_all b (some_without (codes "writeOnly") ps) (some_without (codes "readOnly") ps)) (value_under (holder kind.Property) ms))

    pub writes_told : (b : Binding) → (some_without (codes "readOnly") (properties_of tree) ≡ false) ⊎ Among (Says bases b (asked_of_thing t) words verb.Put (act.WritesMany t)) (forms_under [] tree)
    writes_told b =
        of_tree (codes "readOnly") b verb.Put (act.WritesMany t)
        (read_back (codes "readOnly") b verb.Put (act.WritesMany t) refl (λ ps. write_all b (some_without (codes "writeOnly") ps) (some_without (codes "readOnly") ps)) (value_under (holder kind.Property) ms))
