-- Things of a derivation without a fault: the root is the first, no two have the same segment, each segment has only plain
-- bytes where that of the root has, and each description is valid.
use Rattle.std.proofs.Common.{◌≡◌, ◌≢◌, ℕ, ◌+◌, List, [], ◌∷◌, ◌++◌, map, take, refl, sym, ap, subst, ◌∙◌, arith}
use Rattle.std.specs.Prelude.{⊤, nat_lt, nat_le, length, Bool, true, false, ◌&&◌, ◌||◌, Option, Some, None, Result, Ok, Err, IfOk, zero, suc, AllPairs, if◌then◌else◌}
use Rattle.std.specs.List.{AllByRecursion, flat_map, list_all}
use Rattle.std.specs.Str.{bytes_eq}
use Rattle.std.proofs.lemmas.List.{append-nil, map-append}
use Rattle.std.proofs.lemmas.Bool.{and_parts}
use Rattle.std.proofs.lemmas.Grind.{flat_map-append}
use Rattle.std.proofs.lemmas.List.Elements.{All-from_recursion}
use Rattle.std.proofs.lemmas.List.Kept.{AllPairs-cons}
use Rattle.std.proofs.lemmas.Slice.Eq.{bytes_eq-Decides}
use Rattle.wot_json.specs.Tree.{Json}
use Rattle.tm_parts.specs.Library.{Models}
use Rattle.tm_parts.specs.Placeholders.{first_of}
use Rattle.tm_parts.specs.Sources.{sources_of}
use Rattle.tm_parts.specs.Substitution.{Values}
use Rattle.tm_resolve.specs.ModelLinks.{ModelLink}
use Rattle.tm_resolve.specs.Resolution.{resolved_from}
use Rattle.tm_resolve.specs.declared.fault.ResolveFault.{ResolveFault}
use Rattle.wot_terms.specs.Faults.{faults_of, IsValid}
use Rattle.tm_derive.specs.Given.{Choice, Given, most_below}
use Rattle.tm_derive.specs.Optional.{is_among}
use Rattle.tm_derive.specs.Submodels.{allowed_name, below, child_name, children_from, instance_name, link_child, link_faults, link_kind, may_name, name_faults, named_child, segments_of, submodel_faults, target_faults}
use Rattle.wot_forms.specs.Segments.{is_name_byte, is_plain_segment}
use Rattle.tm_derive.specs.Derivation.{Outcome, Things, all_faults, children, choosing_faults, derived, invalid_fault, outcome, outcomes, outcomes_within, root_place, submodels, thing_faults, thing_of, thing_tree, things_or_fault, tree_faults, tree_of, unbound_faults, unless_faulty}
use Rattle.wot_forms.specs.declared.frame.Frame.{Frame}
use Rattle.tm_derive.specs.declared.place.ThingPlace.{ThingPlace}
use Rattle.tm_derive.specs.declared.fault.DeriveFault.{DeriveFault}
use Rattle.tm_derive.proofs.SegmentsBelow.{none_first, none_second, none_of_map, each, each_of_both, Differ, differ_in_both, IsAtOrBelow, IsChild, plain_below, below_child, not_parent, not_sibling}

-- ---- the children of a Thing

-- the segments of children of a Thing, of which none is among earlier ones
pub record AreChildren (segment : List ℕ) (earlier segments : List (List ℕ)) : Type 0 where
  pub names : AllByRecursion (IsChild segment) segments
  pub new : AllByRecursion (λ s. is_among s earlier ≡ false) segments
  pub apart : Differ segments

false_first : (a b : Bool) → (a || b) ≡ false → a ≡ false
false_first true b is = absurd (cc)
false_first false b is = refl

false_second : (a b : Bool) → (a || b) ≡ false → b ≡ false
false_second true b is = absurd (cc)
false_second false b is = is

not_equal : (s c : List ℕ) → bytes_eq s c ≡ false → c ≢ s
not_equal s c is same =
    let equal : bytes_eq s c ≡ true = (bytes_eq-Decides s c).1 (sym same) in
    absurd (cc)

-- a text that is not among these and one more
not_earlier : (s c : List ℕ) (earlier : List (List ℕ)) → is_among s (earlier ++ c ∷ []) ≡ false → (is_among s earlier ≡ false) × (c ≢ s)
not_earlier s c [] is = (refl, not_equal s c (false_first (bytes_eq s c) false is))
not_earlier s c (e ∷ earlier) is =
    let rest = not_earlier s c earlier (false_second (bytes_eq s e) (is_among s (earlier ++ c ∷ [])) is) in
    let one : bytes_eq s e ≡ false = false_first (bytes_eq s e) (is_among s (earlier ++ c ∷ [])) is in
    (ap (λ (b : Bool). b || is_among s earlier) one ∙ rest.0, rest.1)

abbrev pub IsAllowed : Option (List ℕ) → Type 0
IsAllowed None = ⊤
IsAllowed (Some name) = list_all is_name_byte name ≡ true

allowed : (segment : List ℕ) (found : Option (List ℕ)) → IsAllowed (allowed_name segment found)
allowed segment None = tt
allowed segment (Some name) = by (may_name segment name) refl
  where
    by : (b : Bool) → may_name segment name ≡ b → IsAllowed (if b then Some name else None)
    by true is =
        let bytes : Bool = list_all is_name_byte name in
        let some : Bool = nat_lt 0 (length name) in
        let few : Bool = nat_le (length name) 32 in
        (and_parts bytes some (and_parts (bytes && some) few (and_parts (bytes && some && few) (nat_le (length (below segment name)) 255) is).0).0).0
    by false is = tt

new_name : (b : Bool) (e : DeriveFault) → (if b then e ∷ [] else []) ≡ [] → b ≡ false
new_name true e none = absurd (cc)
new_name false e none = refl

-- a child, and then more
child_then : (place : ThingPlace) (earlier : List (List ℕ)) (index : ℕ) (found target : Option (List ℕ)) (more : List ThingPlace) → IsAllowed found → name_faults place earlier index found ≡ []
    → AreChildren place.segment (earlier ++ segments_of (named_child place found target)) (segments_of more)
    → AreChildren place.segment earlier (segments_of (named_child place found target ++ more))
child_then place earlier index None target more ok none are =
    subst (λ (es : List (List ℕ)). AreChildren place.segment es (segments_of more)) (append-nil earlier) are
child_then place earlier index (Some name) None more ok none are =
    subst (λ (es : List (List ℕ)). AreChildren place.segment es (segments_of more)) (append-nil earlier) are
child_then place earlier index (Some name) (Some url) more ok none are =
    let child : List ℕ = below place.segment name in
    record {
      names = ((name, refl, ok), are.names);
      new = (new_name (is_among child earlier) _ none, each (λ s. is_among s (earlier ++ child ∷ []) ≡ false) (λ s. is_among s earlier ≡ false) (λ s is. (not_earlier s child earlier is).0) (segments_of more) are.new);
      apart = (each (λ s. is_among s (earlier ++ child ∷ []) ≡ false) (λ s. child ≢ s) (λ s is. (not_earlier s child earlier is).1) (segments_of more) are.new, are.apart);
    }

children_are : (models : Models) (above : List (List ℕ)) (place : ThingPlace) (earlier : List (List ℕ)) (number : ℕ) (links : List ModelLink) → submodel_faults models above place earlier number links ≡ []
    → AreChildren place.segment earlier (segments_of (children_from place number links))
children_are models above place earlier number [] none = record { names = tt; new = tt; apart = tt }
children_are models above place earlier number (link ∷ links) none =
    let of_link : link_faults models above place earlier number link ≡ [] = none_first (link_faults models above place earlier number link) _ none in
    let rest = none_second (link_faults models above place earlier number link) (submodel_faults models above place (earlier ++ segments_of (link_child place number link)) (number + 1) links) none in
    child_then place earlier link.index (child_name place.segment number link) link.target (children_from place (number + 1) links)
    (allowed place.segment (instance_name number link.instance_name))
    (none_first (name_faults place earlier link.index (child_name place.segment number link)) (target_faults place link.index (link_kind models above place.model link.target)) of_link)
    (children_are models above place (earlier ++ segments_of (link_child place number link)) (number + 1) links rest)

-- ---- one Thing

links_faultless : (given : Given) (above : List (List ℕ)) (place : ThingPlace) (value : Result Json ResolveFault) → thing_faults given above place value ≡ []
    → submodel_faults given.models above place [] 1 (submodels given place) ≡ []
links_faultless given above place (Err e) none = absurd (cc)
links_faultless given above place (Ok value) none =
    none_first (submodel_faults given.models above place [] 1 (submodels given place)) (tree_faults place.segment (thing_tree given place value)) (none_second (choosing_faults given place) _ none)

-- there is a description, and it is valid
abbrev pub HasValid : Option Json → Type 0
HasValid None = ⊥
HasValid (Some tree) = IsValid tree

has_valid : (given : Given) (above : List (List ℕ)) (place : ThingPlace) (value : Result Json ResolveFault) → thing_faults given above place value ≡ [] → HasValid (tree_of given place value)
has_valid given above place (Err e) none = absurd (cc)
has_valid given above place (Ok value) none =
    let tree : Json = thing_tree given place value in
    let of_tree : tree_faults place.segment tree ≡ [] =
    none_second (submodel_faults given.models above place [] 1 (submodels given place)) (tree_faults place.segment tree) (none_second (choosing_faults given place) _ none) in
    none_of_map (invalid_fault place.segment) (faults_of tree) (none_second (unbound_faults place.segment tree) _ of_tree)

-- ---- the Things of a place, and of several

abbrev pub segments_in : List Outcome → List (List ℕ)
segments_in os = map (λ o. o.segment) os

abbrev pub faults_in : List Outcome → List DeriveFault
faults_in os = flat_map (λ o. o.faults) os

pub record AreSound (segment : List ℕ) (os : List Outcome) : Type 0 where
  pub valid : AllByRecursion (λ o. HasValid o.tree) os
  pub within : AllByRecursion (IsAtOrBelow segment) (segments_in os)
  pub apart : Differ (segments_in os)

-- those of places are sound, each apart from the others
abbrev pub EachSound : (ThingPlace → List Outcome) → Type 0
EachSound of_place = (place : ThingPlace) → faults_in (of_place place) ≡ [] → AreSound place.segment (of_place place)

first_faultless : (of_place : ThingPlace → List Outcome) (place : ThingPlace) (places : List ThingPlace) → faults_in (flat_map of_place (place ∷ places)) ≡ [] → faults_in (of_place place) ≡ []
first_faultless of_place place places none = none_first (faults_in (of_place place)) (faults_in (flat_map of_place places)) (sym (flat_map-append (λ (o : Outcome). o.faults) (of_place place) (flat_map of_place places)) ∙ none)

others_faultless : (of_place : ThingPlace → List Outcome) (place : ThingPlace) (places : List ThingPlace) → faults_in (flat_map of_place (place ∷ places)) ≡ [] → faults_in (flat_map of_place places) ≡ []
others_faultless of_place place places none = none_second (faults_in (of_place place)) (faults_in (flat_map of_place places)) (sym (flat_map-append (λ (o : Outcome). o.faults) (of_place place) (flat_map of_place places)) ∙ none)

all_valid : (of_place : ThingPlace → List Outcome) → EachSound of_place → (places : List ThingPlace) → faults_in (flat_map of_place places) ≡ [] → AllByRecursion (λ o. HasValid o.tree) (flat_map of_place places)
all_valid of_place sound [] none = tt
all_valid of_place sound (place ∷ places) none =
    each_of_both (λ o. HasValid o.tree) (of_place place) (flat_map of_place places)
    (sound place (first_faultless of_place place places none)).valid (all_valid of_place sound places (others_faultless of_place place places none))

-- a property of all segments at and below these
all_segments : (of_place : ThingPlace → List Outcome) → EachSound of_place → (P Q : List ℕ → Type 0) → ((segment : List ℕ) → P segment → (s : List ℕ) → IsAtOrBelow segment s → Q s)
    → (places : List ThingPlace) → AllByRecursion P (segments_of places) → faults_in (flat_map of_place places) ≡ [] → AllByRecursion Q (segments_in (flat_map of_place places))
all_segments of_place sound P Q gives [] all none = tt
all_segments of_place sound P Q gives (place ∷ places) all none =
    subst (λ (ss : List (List ℕ)). AllByRecursion Q ss) (sym (map-append (λ (o : Outcome). o.segment) (of_place place) (flat_map of_place places)))
    (each_of_both Q (segments_in (of_place place)) (segments_in (flat_map of_place places))
    (each (IsAtOrBelow place.segment) Q (λ s at. gives place.segment all.0 s at) (segments_in (of_place place)) (sound place (first_faultless of_place place places none)).within)
    (all_segments of_place sound P Q gives places all.1 (others_faultless of_place place places none)))

-- of two things that hold of each, both do
each_both : (P Q : List ℕ → Type 0) (xs : List (List ℕ)) → AllByRecursion P xs → AllByRecursion Q xs → AllByRecursion (λ x. P x × Q x) xs
each_both P Q [] ps qs = tt
each_both P Q (x ∷ xs) ps qs = ((ps.0, qs.0), each_both P Q xs ps.1 qs.1)

all_apart : (of_place : ThingPlace → List Outcome) → EachSound of_place → (segment : List ℕ) (places : List ThingPlace) → AllByRecursion (IsChild segment) (segments_of places) → Differ (segments_of places)
    → faults_in (flat_map of_place places) ≡ [] → Differ (segments_in (flat_map of_place places))
all_apart of_place sound segment [] names apart none = tt
all_apart of_place sound segment (place ∷ places) names apart none =
    let others = others_faultless of_place place places none in
    let own = sound place (first_faultless of_place place places none) in
    subst Differ (sym (map-append (λ (o : Outcome). o.segment) (of_place place) (flat_map of_place places)))
    (differ_in_both (segments_in (of_place place)) (segments_in (flat_map of_place places)) own.apart (all_apart of_place sound segment places names.1 apart.1 others)
    (each (IsAtOrBelow place.segment) (λ s. AllByRecursion (λ t. s ≢ t) (segments_in (flat_map of_place places)))
    (λ s at. all_segments of_place sound (λ other. IsChild segment other × (place.segment ≢ other)) (λ t. s ≢ t)
    (λ other is t at_other. not_sibling segment place.segment other names.0 is.0 is.1 s t at at_other) places
    (each_both (IsChild segment) (λ other. place.segment ≢ other) (segments_of places) names.1 apart.0) others)
    (segments_in (of_place place)) own.within))

-- a Thing, and those below it
one_then : (of_place : ThingPlace → List Outcome) → EachSound of_place → (segment : List ℕ) (o : Outcome) (places : List ThingPlace) → o.segment ≡ segment → HasValid o.tree → AreChildren segment [] (segments_of places)
    → faults_in (flat_map of_place places) ≡ [] → AreSound segment (o ∷ flat_map of_place places)
one_then of_place sound segment o places is valid are none = record {
  valid = (valid, all_valid of_place sound places none);
  within = (([], is ∙ sym (append-nil segment), tt), all_segments of_place sound (IsChild segment) (IsAtOrBelow segment) (below_child segment) places are.names none);
  apart = (
    subst (λ (s : List ℕ). AllByRecursion (λ t. s ≢ t) (segments_in (flat_map of_place places))) (sym is)
        (all_segments of_place sound (IsChild segment) (λ t. segment ≢ t) (not_parent segment) places are.names none),
    all_apart of_place sound segment places are.names are.apart none,
  );
}

-- where a Thing has no faults, those below it are there
opened : (o : Outcome) (os : List Outcome) → o.faults ≡ [] → o ∷ unless_faulty o.faults os ≡ o ∷ os
opened o os none = ap (λ (fs : List DeriveFault). o ∷ unless_faulty fs os) none

sound : (room : ℕ) (given : Given) (above : List (List ℕ)) → EachSound (outcomes_within room given above)
sound zero given above place none = record { valid = tt; within = tt; apart = tt }
sound (suc room) given above place none =
    let o : Outcome = outcome given above place in
    let inner : List (List ℕ) = above ++ place.model ∷ [] in
    let below_it : List Outcome = flat_map (outcomes_within room given inner) (children given place) in
    let own : o.faults ≡ [] = none_first o.faults (faults_in (unless_faulty o.faults below_it)) none in
    let open_is = opened o below_it own in
    let whole : faults_in (o ∷ below_it) ≡ [] = ap faults_in (sym open_is) ∙ none in
    subst (AreSound place.segment) (sym open_is)
    (one_then (outcomes_within room given inner) (sound room given inner) place.segment o (children given place) refl
    (has_valid given above place (resolved_from given.sources place.model) own)
    (children_are given.models above place [] 1 (submodels given place) (links_faultless given above place (resolved_from given.sources place.model) own))
    (none_second o.faults (faults_in below_it) whole))

-- ---- the whole

segments_of_things : Things → List (List ℕ)
segments_of_things things = map (λ (thing : List ℕ × Json). thing.0) things

pub record AreGood (segment : List ℕ) (things : Things) : Type 0 where
  pub valid : AllByRecursion (λ t. IsValid t.1) things
  pub distinct : AllPairs (λ a b. a.0 ≢ b.0) things
  pub root : take 1 (map (λ (thing : List ℕ × Json). thing.0) things) ≡ segment ∷ []
  pub plain : is_plain_segment segment ≡ true → AllByRecursion (λ t. is_plain_segment t.0 ≡ true) things

-- the Things of sound outcomes
pub record AreTold (os : List Outcome) : Type 0 where
  pub valid : AllByRecursion (λ t. IsValid t.1) (flat_map thing_of os)
  pub segments : map (λ (thing : List ℕ × Json). thing.0) (flat_map thing_of os) ≡ segments_in os

one_told : (segment : List ℕ) (tree : Option Json) (os : List Outcome) → HasValid tree → AreTold os
    → (AllByRecursion (λ t. IsValid t.1) (elim tree as (λ _. Things) [ None ↦ [] | Some v ↦ (segment, v) ∷ [] ] ++ flat_map thing_of os))
    × (map (λ (thing : List ℕ × Json). thing.0) (elim tree as (λ _. Things) [ None ↦ [] | Some v ↦ (segment, v) ∷ [] ] ++ flat_map thing_of os) ≡ segment ∷ segments_in os)
one_told segment None os valid told = absurd valid
one_told segment (Some tree) os valid told = ((valid, told.valid), ap (λ (ss : List (List ℕ)). segment ∷ ss) told.segments)

told : (os : List Outcome) → AllByRecursion (λ o. HasValid o.tree) os → AreTold os
told [] all = record { valid = tt; segments = refl }
told (o ∷ os) all =
    let both = one_told o.segment o.tree os all.0 (told os all.1) in
    record { valid = both.0; segments = both.1 }

pairs_differ : (things : Things) → Differ (map (λ (thing : List ℕ × Json). thing.0) things) → AllPairs (λ a b. a.0 ≢ b.0) things
pairs_differ [] differ = λ i j d lt within. absurd (omega arith)
pairs_differ (t ∷ ts) differ =
    AllPairs-cons (λ a b. a.0 ≢ b.0) t ts (All-from_recursion (λ b. t.0 ≢ b.0) ts (at ts differ.0)) (pairs_differ ts differ.1)
  where
    at : (rest : Things) → AllByRecursion (λ s. t.0 ≢ s) (map (λ (thing : List ℕ × Json). thing.0) rest) → AllByRecursion (λ b. t.0 ≢ b.0) rest
    at [] all = tt
    at (b ∷ rest) all = (all.0, at rest all.1)

-- a property of the segments is one of the Things
plain_things : (things : Things) → AllByRecursion (λ s. is_plain_segment s ≡ true) (map (λ (thing : List ℕ × Json). thing.0) things)
    → AllByRecursion (λ (t : List ℕ × Json). is_plain_segment t.0 ≡ true) things
plain_things [] all = tt
plain_things (t ∷ ts) all = (all.0, plain_things ts all.1)

faultless : (choices : List Choice) (os : List Outcome) (things : Things) (faults : List DeriveFault)
    → elim (first_of faults) as (λ _. Result Things DeriveFault) [ None ↦ Ok (flat_map thing_of os) | Some e ↦ Err e ] ≡ Ok things → (faults ≡ []) × (flat_map thing_of os ≡ things)
faultless choices os things [] is = (refl, cc)
faultless choices os things (e ∷ es) is = absurd (cc)

root_first : (given : Given) (root : List ℕ) → take 1 (segments_in (outcomes given root)) ≡ given.frame.segment ∷ []
unfolding most_below
root_first given root = refl

good : (given : Given) (root : List ℕ) (things : Things) → things_or_fault given.choices (outcomes given root) ≡ Ok things → AreGood given.frame.segment things
good given root things is =
    let os : List Outcome = outcomes given root in
    let both = faultless given.choices os things (all_faults given.choices os) is in
    let are = sound most_below given [] (root_place given.frame root) (none_first (faults_in os) _ both.0) in
    let is_told = told os are.valid in
    let segments : map (λ (thing : List ℕ × Json). thing.0) things ≡ segments_in os = ap (λ (ts : Things). map (λ (thing : List ℕ × Json). thing.0) ts) (sym both.1) ∙ is_told.segments in
    record {
      valid = subst (λ (ts : Things). AllByRecursion (λ t. IsValid t.1) ts) both.1 is_told.valid;
      distinct = pairs_differ things (subst Differ (sym segments) are.apart);
      root = ap (take 1) segments ∙ root_first given root;
      plain = λ of_root. plain_things things (subst (AllByRecursion (λ s. is_plain_segment s ≡ true)) (sym segments)
          (each (IsAtOrBelow given.frame.segment) (λ s. is_plain_segment s ≡ true) (plain_below given.frame.segment of_root) (segments_in os) are.within));
    }

-- the derived Things are good
pub derived_good : (models : Models) (values : Values) (choices : List Choice) (frame : Frame) (root : List ℕ) (r : Result Things DeriveFault)
    → IfOk r (λ things. derived models values choices frame root ≡ Ok things) → IfOk r (AreGood frame.segment)
derived_good models values choices frame root (Ok things) is =
    good (record { models = models; sources = sources_of models values; choices = choices; frame = frame }) root things is
derived_good models values choices frame root (Err e) is = tt

pub if_root : (segment : List ℕ) (r : Result Things DeriveFault) → IfOk r (AreGood segment) → IfOk r (λ things. take 1 (map (λ (thing : List ℕ × Json). thing.0) things) ≡ segment ∷ [])
if_root segment (Ok things) are = are.root
if_root segment (Err e) are = tt

pub if_distinct : (segment : List ℕ) (r : Result Things DeriveFault) → IfOk r (AreGood segment) → IfOk r (AllPairs (λ a b. a.0 ≢ b.0))
if_distinct segment (Ok things) are = are.distinct
if_distinct segment (Err e) are = tt

pub if_valid : (segment : List ℕ) (r : Result Things DeriveFault) → IfOk r (AreGood segment) → IfOk r (AllByRecursion (λ t. IsValid t.1))
if_valid segment (Ok things) are = are.valid
if_valid segment (Err e) are = tt

pub if_plain : (segment : List ℕ) (r : Result Things DeriveFault) → IfOk r (AreGood segment)
    → IfOk r (λ things. is_plain_segment segment ≡ true → AllByRecursion (λ t. is_plain_segment t.0 ≡ true) things)
if_plain segment (Ok things) are = are.plain
if_plain segment (Err e) are = tt
