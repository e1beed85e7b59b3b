-- One Thing, made of its parts.
use Rattle.std.proofs.Common.{◌≡◌, ◌⊎◌, ℕ, List, [], ◌++◌, map, refl, sym, ap, subst, ◌∙◌, inl, inr}
use Rattle.std.specs.Prelude.{Some, Result, Ok, Err}
use Rattle.std.proofs.lemmas.List.{map-append}
use Rattle.wot_json.specs.Tree.{Json}
use Rattle.tm_resolve.specs.ModelLinks.{ModelLink}
use Rattle.tm_resolve.specs.Resolution.{resolved_from}
use Rattle.tm_resolve.specs.declared.fault.ResolveFault.{ResolveFault}
use Rattle.tm_derive.specs.Given.{Given}
use Rattle.tm_derive.specs.Derivation.{children, optionals, thing_faults, thing_tree, thing_with, tree_faults}
use Rattle.tm_derive.specs.Making.{IsNoValue, MakesFrom, MakesThing}
use Rattle.tm_derive.specs.Refusals.{FindsPlaces, IsRefusal}
use Rattle.tm_derive.specs.Submodels.{children_from, submodel_faults}
use Rattle.tm_derive.specs.declared.made.Made.{Made}
use Rattle.tm_derive.specs.declared.place.ThingPlace.{ThingPlace}
use Rattle.tm_derive.specs.declared.fault.DeriveFault.{DeriveFault}
use Rattle.tm_derive.specs.declared.fault.DeriveFault.TheVariants as fault
use Rattle.tm_resolve.specs.declared.fault.ResolveFault.TheVariants as none
use Rattle.std.specs.Global.{Vec}
use Rattle.tm_parts.specs.Library.{Models}
use Rattle.tm_derive.proofs.Outcomes.{refused_before, refused_after, none_then_none}

-- faults of pointers, and then more of them
pub refused_listed : (segment : List ℕ) (faults more : List (List ℕ)) (e : DeriveFault) → IsRefusal e (map (fault.Optional segment) faults) → IsRefusal e (map (fault.Optional segment) (faults ++ more))
refused_listed segment faults more e refused =
    subst (λ (fs : List DeriveFault). IsRefusal e fs) (sym (map-append (fault.Optional segment) faults more)) (refused_before e (map (fault.Optional segment) faults) (map (fault.Optional segment) more) refused)

pub refused_choice : (segment : List ℕ) (faults more : List (List ℕ)) (e : DeriveFault) → map (fault.Optional segment) faults ≡ [] → IsRefusal e (map (fault.Optional segment) more) → IsRefusal e (map (fault.Optional segment) (faults ++ more))
refused_choice segment faults more e none refused =
    subst (λ (fs : List DeriveFault). IsRefusal e fs) (sym (map-append (fault.Optional segment) faults more)) (refused_after e (map (fault.Optional segment) faults) (map (fault.Optional segment) more) none refused)

pub none_of_both : (segment : List ℕ) (faults more : List (List ℕ)) → map (fault.Optional segment) faults ≡ [] → map (fault.Optional segment) more ≡ [] → map (fault.Optional segment) (faults ++ more) ≡ []
none_of_both segment faults more none no_more = map-append (fault.Optional segment) faults more ∙ none_then_none (map (fault.Optional segment) faults) (map (fault.Optional segment) more) none no_more

-- children by the links that the code has
pub found_by : (models : Models) (above : List (List ℕ)) (place : ThingPlace) (links same : List ModelLink) (r : Result (Vec ThingPlace) DeriveFault) → links ≡ same
    → FindsPlaces (children_from place 1 links) (submodel_faults models above place [] 1 links) r → FindsPlaces (children_from place 1 same) (submodel_faults models above place [] 1 same) r
found_by models above place links same r is found =
    subst (λ (ls : List ModelLink). FindsPlaces (children_from place 1 ls) (submodel_faults models above place [] 1 ls) r) is found

-- a Thing by the value of its model
pub made_by : (given : Given) (above : List (List ℕ)) (place : ThingPlace) (value : Json) (r : Result Made DeriveFault) → resolved_from given.sources place.model ≡ Ok value
    → MakesFrom given above place (Ok value) r → MakesThing given above place r
made_by given above place value r is made = subst (λ (v : Result Json ResolveFault). MakesFrom given above place v r) (sym is) made

-- a Thing whose model has no value
no_value_refused : (given : Given) (above : List (List ℕ)) (place : ThingPlace) (e : DeriveFault) → IsNoValue given place e → IsRefusal e (thing_faults given above place (resolved_from given.sources place.model))
no_value_refused given above place (fault.Resolve segment found) no_value =
    subst (λ (v : Result Json ResolveFault). IsRefusal (fault.Resolve segment found) (thing_faults given above place v)) (sym no_value.1)
    (inr (ap (λ (s : List ℕ). Some (fault.Resolve s found)) (sym no_value.0)))
no_value_refused given above place (fault.Optional segment pointer) no_value = absurd no_value
no_value_refused given above place (fault.Instance segment pointer) no_value = absurd no_value
no_value_refused given above place (fault.TwiceInstance segment pointer) no_value = absurd no_value
no_value_refused given above place (fault.Unbound segment name pointer) no_value = absurd no_value
no_value_refused given above place (fault.Invalid segment found) no_value = absurd no_value
no_value_refused given above place fault.NoMemory no_value = absurd no_value

pub unresolved : (given : Given) (above : List (List ℕ)) (place : ThingPlace) (e : DeriveFault) → (e ≡ fault.NoMemory) ⊎ IsNoValue given place e
    → IsRefusal e (thing_faults given above place (resolved_from given.sources place.model))
unresolved given above place e (inl memory) = inl memory
unresolved given above place e (inr no_value) = no_value_refused given above place e no_value

-- the reason for which the code has no value
pub no_value_is : (given : Given) (place : ThingPlace) (e : DeriveFault) (found : ResolveFault) → (found ≡ none.NoMemory → e ≡ fault.NoMemory) → (e ≡ fault.NoMemory) ⊎ (e ≡ fault.Resolve place.segment found)
    → (found ≡ none.NoMemory) ⊎ (resolved_from given.sources place.model ≡ Err found) → (e ≡ fault.NoMemory) ⊎ IsNoValue given place e
no_value_is given place e found memory made (inl none_left) = inl (memory none_left)
no_value_is given place e found memory (inl none_left) (inr is) = inl none_left
no_value_is given place e found memory (inr made) (inr is) = inr (subst (λ (f : DeriveFault). IsNoValue given place f) (sym made) (refl, is))

-- the description that the code makes
pub tree_is : (given : Given) (place : ThingPlace) (texts : List (List ℕ)) (parts : List ThingPlace) (value : Json) → texts ≡ optionals given place → parts ≡ children given place
    → thing_with given place texts parts value ≡ thing_tree given place value
tree_is given place texts parts value texts_are parts_are =
    ap (λ (ts : List (List ℕ)). thing_with given place ts parts value) texts_are ∙ ap (λ (ps : List ThingPlace). thing_with given place (optionals given place) ps value) parts_are

-- a refusal of the description
pub description_refused : (segment same : List ℕ) (tree whole : Json) (e : DeriveFault) → same ≡ segment → tree ≡ whole → IsRefusal e (tree_faults same tree) → IsRefusal e (tree_faults segment whole)
description_refused segment same tree whole e is tree_is_whole refused =
    subst (λ (s : List ℕ). IsRefusal e (tree_faults s whole)) is (subst (λ (t : Json). IsRefusal e (tree_faults same t)) tree_is_whole refused)

pub description_valid : (segment same : List ℕ) (tree whole : Json) → same ≡ segment → tree ≡ whole → tree_faults same tree ≡ [] → tree_faults segment whole ≡ []
description_valid segment same tree whole is tree_is_whole none =
    subst (λ (s : List ℕ). tree_faults s whole ≡ []) is (subst (λ (t : Json). tree_faults same t ≡ []) tree_is_whole none)
