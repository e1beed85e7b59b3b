-- Each form of a derived description leads to its own affordance.
use Rattle.std.proofs.Common.{◌≡◌, ◌≢◌, ℕ, suc, true, false, List, [], ◌∷◌, map, Option, Some, None, Ok, inl, inr, refl, sym, ap, subst, ◌∙◌, arith}
use Rattle.std.specs.Prelude.{codes}
use Rattle.std.specs.List.{AllByRecursion, AllPairs}
use Rattle.std.specs.Option.{option_map_or}
use Rattle.std.proofs.lemmas.List.Elements.{recursion_from_All}
use Rattle.wot_json.specs.Tree.{Json, null, boolean, integer, string, array, object, Members}
use Rattle.wot_json.specs.Lookup.{member_list, value_under}
use Rattle.wot_json.specs.WellFormed.{IsWellFormed}
use Rattle.wot_json.proofs.MergeLaws.{itself}
use Rattle.wot_terms.specs.declared.kind.Kind.TheVariants as kind
use Rattle.wot_terms.specs.Faults.{holder}
use Rattle.wot_forms.specs.declared.bases.Bases.{Bases}
use Rattle.wot_forms.specs.declared.form.Form.{Form}
use Rattle.wot_forms.specs.Segments.{is_plain_segment}
use Rattle.wot_forms.specs.Forms.{form_of, list_forms, forms_under}
use Rattle.wot_forms.specs.Generated.{generated_root_forms, generated}
use Rattle.wot_forms.proofs.FormLists.{forms_in_list}
use Rattle.tm_derive.specs.Finishing.{description_url}
use Rattle.tm_derive.specs.Derivation.{Things}
use Rattle.tm_derive.proofs.NoFaults.{AreGood, derived_good}
use Rattle.thing_site.specs.Site.{Placed, ExposedThing, Site, Slots, exposed, thing_named, site_of}
use Rattle.description_laws.specs.Leading.{Http, HasPath, RootFormLeads, AffordanceIsReached, IsReached, FormsLeadToTheirAffordances}
use Rattle.description_laws.proofs.Members.{each_of, both_of}
use Rattle.description_laws.proofs.Generation.{root_forms_held, root_forms_are}
use Rattle.description_laws.proofs.Paths.{has_path, plain_inside, plain_decoded}
use Rattle.description_laws.proofs.Places.{AreThere, other_name, description_taken}
use Rattle.description_laws.proofs.AffordanceForms.{all_mapped}
use Rattle.description_laws.proofs.RootForms.{root_forms_lead}
use Rattle.description_laws.proofs.OneThing.{all_good}
use Rattle.description_laws.proofs.Things.{has_tilde, IsOfRoot, IsGenerated, things_made}

-- ---- one Thing

module _ (bases : Bases) (site : Site) (segment : List ℕ) (plain : is_plain_segment segment ≡ true) (some : segment ≢ []) (isnt : segment ≢ codes "things") (slots : Slots) where
  abbrev Named : Json → Type 0
  Named tree = thing_named segment site.things ≡ Some (exposed slots (segment, tree))

  url_said : HasPath bases.http Http (description_url bases segment) (segment ∷ [])
  url_said =
      has_path Http bases.http segment [] (description_url bases segment) (segment ∷ []) (plain_inside segment plain, tt) (λ same. some (first same)) refl
      (ap (λ (s : List ℕ). s ∷ []) (plain_decoded segment plain))
    where
      first : segment ∷ [] ≡ [] ∷ [] → segment ≡ []
      first same = cc

  root_leads : (ms : Members) (thing : ExposedThing) → AreThere site segment thing → AllByRecursion (RootFormLeads bases site thing) (forms_under [] (generated (object ms) bases segment))
  root_leads ms thing there =
      subst (λ (o : Option Json). AllByRecursion (RootFormLeads bases site thing) (option_map_or (list_forms []) o [])) (sym (root_forms_are bases segment ms)) (by (value_under (holder kind.Property) ms))
    where
      by : (o : Option Json) → AllByRecursion (RootFormLeads bases site thing) (option_map_or (list_forms []) (root_forms_held bases segment o) [])
      by (Some (object os)) =
          subst (λ (fs : List Form). AllByRecursion (RootFormLeads bases site thing) fs) (sym (forms_in_list [] (generated_root_forms bases segment (member_list os))))
          (all_mapped (RootFormLeads bases site thing) (form_of []) (generated_root_forms bases segment (member_list os)) (root_forms_lead bases site segment plain thing there (member_list os)))
      by (Some null) = tt
      by (Some (boolean b)) = tt
      by (Some (integer z)) = tt
      by (Some (string s)) = tt
      by (Some (array es)) = tt
      by None = tt

  -- a description that is no object has no affordances
  reached_empty : (tree : Json) → Named tree → (exposed slots (segment, tree)).affordances ≡ [] → forms_under [] tree ≡ [] → IsReached bases site (exposed slots (segment, tree))
  reached_empty tree named no_affordances no_forms =
      let there : AreThere site segment (exposed slots (segment, tree)) = record { named = named; isnt = isnt } in
      record {
        affordances = subst (λ (ps : List Placed). AllByRecursion (AffordanceIsReached bases site (exposed slots (segment, tree))) ps) (sym no_affordances) tt;
        root = subst (λ (fs : List Form). AllByRecursion (RootFormLeads bases site (exposed slots (segment, tree))) fs) (sym no_forms) tt;
        path = segment ∷ [];
        url = url_said;
        description = description_taken site segment (exposed slots (segment, tree)) there;
      }

  reached : (value : Json) → Named (generated value bases segment) → IsWellFormed (generated value bases segment) → IsReached bases site (exposed slots (segment, generated value bases segment))
  reached (object ms) named well =
      let thing : ExposedThing = exposed slots (segment, generated (object ms) bases segment) in
      let there : AreThere site segment thing = record { named = named; isnt = isnt } in
      record {
        affordances = all_good bases site segment plain slots ms there well;
        root = root_leads ms thing there;
        path = segment ∷ [];
        url = url_said;
        description = description_taken site segment thing there;
      }
  reached null named well = reached_empty null named refl refl
  reached (boolean b) named well = reached_empty (boolean b) named refl refl
  reached (integer z) named well = reached_empty (integer z) named refl refl
  reached (string s) named well = reached_empty (string s) named refl refl
  reached (array es) named well = reached_empty (array es) named refl refl

-- ---- all Things

abbrev pub Thing : Type 0
Thing = List ℕ × Json

-- each Thing is found by its segment
abbrev pub IsThere : Slots → Things → Thing → Type 0
IsThere slots things t = thing_named t.0 (map (exposed slots) things) ≡ Some (exposed slots t)

behind_first : (slots : Slots) (first : Thing) (things : Things) (t : Thing) → first.0 ≢ t.0 → IsThere slots things t → IsThere slots (first ∷ things) t
behind_first slots first things t differ is = rw (other_name t.0 first.0 (λ same. differ (sym same))) is

pub each_there : (slots : Slots) (things : Things) → AllPairs (λ (a b : Thing). a.0 ≢ b.0) things → AllByRecursion (IsThere slots things) things
each_there slots [] apart = tt
each_there slots (t ∷ things) apart = (
  rw (itself t.0).1 refl,
  each_of (λ (u : Thing). (t.0 ≢ u.0) × IsThere slots things u) (IsThere slots (t ∷ things)) (λ u is. behind_first slots t things u is.0 is.1) things
      (both_of (λ (u : Thing). t.0 ≢ u.0) (IsThere slots things) things
      (recursion_from_All (λ (u : Thing). t.0 ≢ u.0) things (λ i d within. apart 0 (suc i) d (omega arith) (omega (arith, within))))
      (each_there slots things (λ i j d before within. apart (suc i) (suc j) d (omega (arith, before)) (omega (arith, within))))),
)

pub over_things : (slots : Slots) (P : ExposedThing → Type 0) (things : Things) → AllByRecursion (λ (t : Thing). P (exposed slots t)) things → AllByRecursion P (map (exposed slots) things)
over_things slots P [] all = tt
over_things slots P (t ∷ things) all = (all.0, over_things slots P things all.1)

-- the segment of a Thing is the root's, or it has a `~`
pub differs : (root word segment : List ℕ) → root ≢ word → has_tilde word ≡ false → IsOfRoot root segment → segment ≢ word
differs root word segment differ none (inl is) same = differ (sym is ∙ same)
differs root word segment differ none (inr tilde) same = never (sym none ∙ sym (ap has_tilde same) ∙ tilde)
  where
    never : false ≡ true → ⊥
    never e = cc

-- what is known of a derived Thing
pub record IsKnown (bases : Bases) (root : List ℕ) (slots : Slots) (things : Things) (t : Thing) : Type 0 where
  pub generated : IsGenerated bases root t
  pub there : IsThere slots things t
  pub plain : is_plain_segment t.0 ≡ true
  pub well : IsWellFormed t.1

pub all_known : (bases : Bases) (root : List ℕ) (slots : Slots) (things all : Things) → AllByRecursion (IsGenerated bases root) things → AllByRecursion (IsThere slots all) things
    → AllByRecursion (λ (t : Thing). is_plain_segment t.0 ≡ true) things → AllByRecursion (λ (t : Thing). IsWellFormed t.1) things → AllByRecursion (IsKnown bases root slots all) things
all_known bases root slots [] all made there plain well = tt
all_known bases root slots (t ∷ things) all made there plain well =
    (record { generated = made.0; there = there.0; plain = plain.0; well = well.0 }, all_known bases root slots things all made.1 there.1 plain.1 well.1)

one : (bases : Bases) (root : List ℕ) (slots : Slots) (left_out : ℕ) (things : Things) → root ≢ [] → root ≢ codes "things" → (t : Thing) → IsKnown bases root slots things t
    → IsReached bases (site_of left_out slots things) (exposed slots t)
one bases root slots left_out things some isnt t known =
    subst (λ (x : Json). thing_named t.0 (map (exposed slots) things) ≡ Some (exposed slots (t.0, x)) → IsWellFormed x → IsReached bases (site_of left_out slots things) (exposed slots (t.0, x)))
    (sym known.generated.is)
    (reached bases (site_of left_out slots things) t.0 known.plain (differs root [] t.0 some refl known.generated.segment) (differs root (codes "things") t.0 isnt refl known.generated.segment) slots
    known.generated.value)
    known.there known.well

pub lead : FormsLeadToTheirAffordances
lead models values choices frame root things slots left_out is plain some isnt well =
    let good : AreGood frame.segment things = derived_good models values choices frame root (Ok things) is in
    over_things slots (IsReached frame.bases (site_of left_out slots things)) things
    (each_of (IsKnown frame.bases frame.segment slots things) (λ (t : Thing). IsReached frame.bases (site_of left_out slots things) (exposed slots t)) (one frame.bases frame.segment slots left_out things some isnt) things
    (all_known frame.bases frame.segment slots things things (things_made models values choices frame root things is) (each_there slots things good.distinct) (good.plain plain) well))
