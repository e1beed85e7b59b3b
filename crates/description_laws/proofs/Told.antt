-- Each act at the paths of derived Things has its form.
use Rattle.std.proofs.Common.{◌≡◌, ◌≢◌, ℕ, true, List, [], map, Some, Ok, refl, sym, subst}
use Rattle.std.specs.Prelude.{codes}
use Rattle.wot_json.specs.Tree.{Json, null, boolean, integer, string, array, object}
use Rattle.wot_terms.specs.Faults.{faults_of, IsValid}
use Rattle.wot_forms.specs.declared.bases.Bases.{Bases}
use Rattle.wot_forms.specs.Generated.{generated}
use Rattle.wot_forms.specs.Segments.{is_plain_segment}
use Rattle.tm_derive.specs.Derivation.{Things}
use Rattle.tm_derive.proofs.NoFaults.{AreGood, derived_good}
use Rattle.thing_site.specs.Site.{Site, Slots, exposed, thing_named, site_of}
use Rattle.description_laws.specs.Taking.{TellsAll, ActsHaveTheirForm}
use Rattle.description_laws.proofs.Members.{each_of, both_of}
use Rattle.description_laws.proofs.Things.{things_made}
use Rattle.description_laws.proofs.Leading.{Thing, IsKnown, all_known, each_there, over_things, differs}
use Rattle.description_laws.proofs.ToldPaths.{tells}

-- one Thing, whose description is valid
told_of : (bases : Bases) (site : Site) (segment : List ℕ) (plain : is_plain_segment segment ≡ true) (isnt : segment ≢ codes "things") (slots : Slots) (value : Json)
    → thing_named segment site.things ≡ Some (exposed slots (segment, generated value bases segment)) → faults_of (generated value bases segment) ≡ [] → TellsAll bases site (exposed slots (segment, generated value bases segment))
told_of bases site segment plain isnt slots (object ms) named valid = tells bases site segment plain slots ms (record { named = named; isnt = isnt }) valid
told_of bases site segment plain isnt slots null named valid = absurd cc
told_of bases site segment plain isnt slots (boolean b) named valid = absurd cc
told_of bases site segment plain isnt slots (integer z) named valid = absurd cc
told_of bases site segment plain isnt slots (string s) named valid = absurd cc
told_of bases site segment plain isnt slots (array es) named valid = absurd cc

one : (bases : Bases) (root : List ℕ) (slots : Slots) (left_out : ℕ) (things : Things) → root ≢ codes "things" → (t : Thing) → IsKnown bases root slots things t × IsValid t.1
    → TellsAll bases (site_of left_out slots things) (exposed slots t)
one bases root slots left_out things isnt t is =
    subst (λ (x : Json). thing_named t.0 (map (exposed slots) things) ≡ Some (exposed slots (t.0, x)) → faults_of x ≡ [] → TellsAll bases (site_of left_out slots things) (exposed slots (t.0, x)))
    (sym is.0.generated.is)
    (told_of bases (site_of left_out slots things) t.0 is.0.plain (differs root (codes "things") t.0 isnt refl is.0.generated.segment) slots is.0.generated.value)
    is.0.there is.1

pub tell : ActsHaveTheirForm
tell models values choices frame root things slots left_out is plain some isnt well =
    let good : AreGood frame.segment things = derived_good models values choices frame root (Ok things) is in
    over_things slots (TellsAll frame.bases (site_of left_out slots things)) things
    (each_of (λ (t : Thing). IsKnown frame.bases frame.segment slots things t × IsValid t.1) (λ (t : Thing). TellsAll frame.bases (site_of left_out slots things) (exposed slots t))
    (one frame.bases frame.segment slots left_out things isnt) things
    (both_of (IsKnown frame.bases frame.segment slots things) (λ (t : Thing). IsValid t.1) things
    (all_known frame.bases frame.segment slots things things (things_made models values choices frame root things is) (each_there slots things good.distinct) (good.plain plain) well)
    good.valid))
