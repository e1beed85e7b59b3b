-- The result of a derivation, from the Things that were put.
use Rattle.std.proofs.Common.{◌≡◌, ◌⊎◌, ℕ, List, [], ◌∷◌, map, refl, sym, ap, subst, ◌∙◌, inl, inr}
use Rattle.std.specs.Prelude.{Option, Some, None, Result, Ok, Err, IfOk, IfErr}
use Rattle.std.specs.List.{flat_map}
use Rattle.wot_json.specs.Tree.{Json}
use Rattle.tm_parts.specs.Library.{Models}
use Rattle.tm_parts.specs.Sources.{Sources, sources_of}
use Rattle.tm_parts.specs.Substitution.{Values}
use Rattle.tm_parts.specs.Placeholders.{first_of}
use Rattle.tm_derive.specs.Given.{Choice, Given, most_below}
use Rattle.tm_derive.specs.Derivation.{Outcome, Things, all_faults, derived, outcomes, outcomes_within, root_place, thing_of, things_or_fault}
use Rattle.tm_derive.specs.Making.{Derives}
use Rattle.tm_derive.specs.Optional.{choices_elsewhere}
use Rattle.tm_derive.specs.Refusals.{IsRefusal}
use Rattle.wot_terms.specs.ThingLists.{kept_things, segments_in}
use Rattle.wot_forms.specs.declared.frame.Frame.{Frame}
use Rattle.tm_derive.specs.declared.place.ThingPlace.{ThingPlace}
use Rattle.wot_terms.specs.declared.thing.Thing.{Thing}
use Rattle.tm_derive.specs.declared.fault.DeriveFault.{DeriveFault}
use Rattle.tm_derive.specs.declared.fault.DeriveFault.TheVariants.{NoMemory}
use Rattle.tm_derive.proofs.Outcomes.{refused_before, refused_after, none_then_none}

-- the outcomes that the code goes through
pub outcomes_are : (given : Given) (root : List ℕ) (room : ℕ) (place : ThingPlace) → room ≡ most_below → place ≡ root_place given.frame root → outcomes_within room given [] place ≡ outcomes given root
outcomes_are given root room place room_is place_is =
    ap (λ (n : ℕ). outcomes_within n given [] place) room_is ∙ ap (λ (p : ThingPlace). outcomes_within most_below given [] p) place_is

-- a refusal by all faults
refused_whole : (choices : List Choice) (os : List Outcome) (e : DeriveFault) → IsRefusal e (all_faults choices os) → (e ≡ NoMemory) ⊎ (things_or_fault choices os ≡ Err e)
refused_whole choices os e (inl memory) = inl memory
refused_whole choices os e (inr first) =
    inr (ap (λ (o : Option DeriveFault). elim o as (λ _. Result Things DeriveFault) [ None ↦ Ok (flat_map thing_of os) | Some f ↦ Err f ]) first)

pub refused_by_things : (choices : List Choice) (os same : List Outcome) (e : DeriveFault) → same ≡ os → IsRefusal e (flat_map (λ o. o.faults) same) → (e ≡ NoMemory) ⊎ (things_or_fault choices os ≡ Err e)
refused_by_things choices os same e is refused =
    refused_whole choices os e (refused_before e (flat_map (λ (o : Outcome). o.faults) os) _ (subst (λ (ps : List Outcome). IsRefusal e (flat_map (λ o. o.faults) ps)) is refused))

-- segments as the code sees them
pub segments_kept : (ts : List Thing) → segments_in ts ≡ map (λ (thing : List ℕ × Json). thing.0) (kept_things ts)
segments_kept [] = refl
segments_kept (t ∷ ts) = ap (λ (ss : List (List ℕ)). t.segment ∷ ss) (segments_kept ts)

-- the segments of the Things that were put are those of the outcomes
segments_are : (os : List Outcome) (things : Things) (list : List Thing) → things ≡ flat_map thing_of os → kept_things list ≡ things
    → map (λ (thing : List ℕ × Json). thing.0) (flat_map thing_of os) ≡ map (λ o. o.segment) os → segments_in list ≡ map (λ o. o.segment) os
segments_are os things list put kept segments =
    segments_kept list ∙ ap (λ (ts : Things). map (λ (thing : List ℕ × Json). thing.0) ts) (kept ∙ put) ∙ segments

pub refused_by_choice : (choices seen : List Choice) (os same : List Outcome) (things : Things) (list : List Thing) (e : DeriveFault) → same ≡ os → seen ≡ choices
    → things ≡ flat_map thing_of same → kept_things list ≡ things → flat_map (λ o. o.faults) same ≡ [] → map (λ (thing : List ℕ × Json). thing.0) (flat_map thing_of same) ≡ map (λ o. o.segment) same
    → IsRefusal e (choices_elsewhere (segments_in list) seen) → (e ≡ NoMemory) ⊎ (things_or_fault choices os ≡ Err e)
refused_by_choice choices seen os same things list e is seen_is put kept none segments refused =
    let by_segments = subst (λ (ss : List (List ℕ)). IsRefusal e (choices_elsewhere ss seen)) (segments_are same things list put kept segments) refused in
    let by_choices = subst (λ (cs : List Choice). IsRefusal e (choices_elsewhere (map (λ o. o.segment) same) cs)) seen_is by_segments in
    subst (λ (ps : List Outcome). (e ≡ NoMemory) ⊎ (things_or_fault choices ps ≡ Err e)) is
    (refused_whole choices same e (refused_after e (flat_map (λ (o : Outcome). o.faults) same) _ none by_choices))

pub whole_derived : (choices seen : List Choice) (os same : List Outcome) (things : Things) (list : List Thing) → same ≡ os → seen ≡ choices
    → things ≡ flat_map thing_of same → kept_things list ≡ things → flat_map (λ o. o.faults) same ≡ [] → map (λ (thing : List ℕ × Json). thing.0) (flat_map thing_of same) ≡ map (λ o. o.segment) same
    → choices_elsewhere (segments_in list) seen ≡ [] → things_or_fault choices os ≡ Ok things
whole_derived choices seen os same things list is seen_is put kept none segments no_choice =
    let by_segments = subst (λ (ss : List (List ℕ)). choices_elsewhere ss seen ≡ []) (segments_are same things list put kept segments) no_choice in
    let by_choices = subst (λ (cs : List Choice). choices_elsewhere (map (λ o. o.segment) same) cs ≡ []) seen_is by_segments in
    let no_faults : all_faults choices same ≡ [] = none_then_none (flat_map (λ (o : Outcome). o.faults) same) (choices_elsewhere (map (λ (o : Outcome). o.segment) same) choices) none by_choices in
    subst (λ (ps : List Outcome). things_or_fault choices ps ≡ Ok things) is
    (ap (λ (fs : List DeriveFault). elim (first_of fs) as (λ _. Result Things DeriveFault) [ None ↦ Ok (flat_map thing_of same) | Some f ↦ Err f ]) no_faults
    ∙ ap (λ (ts : Things). Ok ts) (sym put))

-- by the models of the resolver
pub derived_by : (models : Models) (values : Values) (choices : List Choice) (frame : Frame) (root : List ℕ) (sources : Sources) (r : Result Things DeriveFault) → sources ≡ sources_of models values
    → Derives (things_or_fault choices (outcomes (record { models = models; sources = sources; choices = choices; frame = frame }) root)) r → Derives (derived models values choices frame root) r
derived_by models values choices frame root sources r is derives =
    subst (λ (s : Sources). Derives (things_or_fault choices (outcomes (record { models = models; sources = s; choices = choices; frame = frame }) root)) r) is derives

pub ok_of : (wanted r : Result Things DeriveFault) → Derives wanted r → IfOk r (λ things. wanted ≡ Ok things)
ok_of wanted (Ok things) derives = derives
ok_of wanted (Err e) derives = tt

pub fault_of : (wanted r : Result Things DeriveFault) → Derives wanted r → IfErr r (λ e. (e ≡ NoMemory) ⊎ (wanted ≡ Err e))
fault_of wanted (Ok things) derives = tt
fault_of wanted (Err e) derives = derives
