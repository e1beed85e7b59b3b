-- The Things of a derivation have the forms that are generated for them.
use Rattle.std.proofs.Common.{◌≡◌, ℕ, zero, suc, ◌+◌, Bool, true, false, List, [], ◌∷◌, ◌++◌, Option, Some, None, Result, Ok, Err, inl, inr, refl, sym, subst}
use Rattle.std.specs.Prelude.{codes, ◌||◌, ◌==◌, ◌⊎◌}
use Rattle.std.specs.List.{AllByRecursion, flat_map, list_any}
use Rattle.wot_json.specs.Tree.{Json}
use Rattle.tm_resolve.specs.declared.fault.ResolveFault.{ResolveFault}
use Rattle.tm_resolve.specs.Resolution.{resolved_from}
use Rattle.tm_resolve.specs.ModelLinks.{ModelLink}
use Rattle.wot_forms.specs.declared.frame.Frame.{Frame}
use Rattle.wot_forms.specs.declared.bases.Bases.{Bases}
use Rattle.wot_forms.specs.Generated.{generated}
use Rattle.tm_derive.specs.declared.fault.DeriveFault.{DeriveFault}
use Rattle.tm_parts.specs.Library.{Models}
use Rattle.tm_parts.specs.Placeholders.{first_of}
use Rattle.tm_parts.specs.Sources.{sources_of}
use Rattle.tm_parts.specs.Substitution.{Values}
use Rattle.tm_derive.specs.Given.{Given, Choice, most_below}
use Rattle.tm_derive.specs.Dropping.{is_left_out, chosen_value}
use Rattle.tm_derive.specs.Finishing.{indices_of, new_links, finished_value}
use Rattle.tm_derive.specs.Submodels.{segments_of, named_child, link_child, child_name, children_from}
use Rattle.tm_derive.specs.Derivation.{Things, Outcome, outcome, outcomes, outcomes_within, root_place, children, submodels, extended, optionals, unless_faulty, thing_of, tree_of, thing_tree, all_faults, derived}

-- the segment of a Thing below another has a `~`
abbrev pub has_tilde : List ℕ → Bool
has_tilde segment = list_any (λ b. b == 126) segment

abbrev pub IsOfRoot : List ℕ → List ℕ → Type 0
IsOfRoot root segment = (segment ≡ root) ⊎ (has_tilde segment ≡ true)

-- the description of a Thing, if it has one, is made with forms for its segment; which is the root's, or has a `~`
pub record IsMade (bases : Bases) (root : List ℕ) (o : Outcome) : Type 0 where
  pub made : (tree : Json) → o.tree ≡ Some tree → (v : Json) × (tree ≡ generated v bases o.segment)
  pub segment : IsOfRoot root o.segment

some_tree : (x tree : Json) → Some x ≡ Some tree → x ≡ tree
some_tree x tree is = cc

made_tree : (given : Given) (place : _) (r : Result Json ResolveFault) (tree : Json) → tree_of given place r ≡ Some tree
    → (v : Json) × (tree ≡ generated v given.frame.bases (outcome given [] place).segment)
made_tree given place (Err e) tree is = absurd cc
made_tree given place (Ok value) tree is = (
  finished_value given.frame place (indices_of (extended given place) ++ indices_of (submodels given place)) (new_links given.frame.bases place (segments_of (children given place)))
      (chosen_value (is_left_out (optionals given place) given.choices place.segment) value),
  sym (some_tree (thing_tree given place value) tree is),
)

outcome_is_made : (given : Given) (root : List ℕ) (above : List (List ℕ)) (place : _) → IsOfRoot root (outcome given above place).segment
    → IsMade given.frame.bases root (outcome given above place)
outcome_is_made given root above place named =
    record { made = λ tree is. made_tree given place (resolved_from given.sources place.model) tree is; segment = named }

-- ---- those below

tilde_behind : (xs ys : List ℕ) → has_tilde (xs ++ codes "~" ++ ys) ≡ true
tilde_behind [] ys = refl
tilde_behind (x ∷ xs) ys = by (x == 126) (tilde_behind xs ys)
  where
    by : (b : Bool) → has_tilde (xs ++ codes "~" ++ ys) ≡ true → (b || has_tilde (xs ++ codes "~" ++ ys)) ≡ true
    by true is = refl
    by false is = is

pub each_both : {A : Type 0} (P : A → Type 0) (xs ys : List A) → AllByRecursion P xs → AllByRecursion P ys → AllByRecursion P (xs ++ ys)
each_both P [] ys one other = other
each_both P (x ∷ xs) ys one other = (one.0, each_both P xs ys one.1 other)

flat_each : {A B : Type 0} (P : A → Type 0) (Q : B → Type 0) (f : A → List B) → ((x : A) → P x → AllByRecursion Q (f x)) → (xs : List A) → AllByRecursion P xs → AllByRecursion Q (flat_map f xs)
flat_each P Q f each [] all = tt
flat_each P Q f each (x ∷ xs) all = each_both Q (f x) (flat_map f xs) (each x all.0) (flat_each P Q f each xs all.1)

link_tilde : (place : _) (name target : Option (List ℕ)) → AllByRecursion (λ p. has_tilde p.segment ≡ true) (named_child place name target)
link_tilde place None None = tt
link_tilde place None (Some url) = tt
link_tilde place (Some name) None = tt
link_tilde place (Some name) (Some url) = (tilde_behind place.segment name, tt)

children_tilde : (place : _) (number : ℕ) (links : List ModelLink) → AllByRecursion (λ p. has_tilde p.segment ≡ true) (children_from place number links)
children_tilde place number [] = tt
children_tilde place number (link ∷ links) =
    each_both (λ p. has_tilde p.segment ≡ true) (link_child place number link) (children_from place (number + 1) links)
    (link_tilde place (child_name place.segment number link) link.target) (children_tilde place (number + 1) links)

unless_each : (P : Outcome → Type 0) (faults : List DeriveFault) (os : List Outcome) → AllByRecursion P os → AllByRecursion P (unless_faulty faults os)
unless_each P [] os all = all
unless_each P (e ∷ es) os all = tt

all_made : (room : ℕ) (given : Given) (root : List ℕ) (above : List (List ℕ)) (place : _) → IsOfRoot root (outcome given above place).segment
    → AllByRecursion (IsMade given.frame.bases root) (outcomes_within room given above place)
all_made zero given root above place named = tt
all_made (suc room) given root above place named =
    let inner : List (List ℕ) = above ++ place.model ∷ [] in (
      outcome_is_made given root above place named,
      unless_each (IsMade given.frame.bases root) (outcome given above place).faults (flat_map (outcomes_within room given inner) (children given place))
          (flat_each (λ p. has_tilde p.segment ≡ true) (IsMade given.frame.bases root) (outcomes_within room given inner) (λ p tilde. all_made room given root inner p (inr tilde))
          (children given place) (children_tilde place 1 (submodels given place))),
    )

-- ---- the Things

-- the description of a Thing is made with forms for its segment
pub record IsGenerated (bases : Bases) (root : List ℕ) (t : List ℕ × Json) : Type 0 where
  pub value : Json
  pub is : t.1 ≡ generated value bases t.0
  pub segment : IsOfRoot root t.0

thing_made : (bases : Bases) (root : List ℕ) (o : Outcome) → IsMade bases root o → AllByRecursion (IsGenerated bases root) (thing_of o)
thing_made bases root o is = by o.tree refl
  where
    by : (tree : Option Json) → o.tree ≡ tree → AllByRecursion (IsGenerated bases root) (elim tree as (λ _. Things) [ None ↦ [] | Some t ↦ (o.segment, t) ∷ [] ])
    by None e = tt
    by (Some t) e = let made = is.made t e in (record { value = made.0; is = made.1; segment = is.segment }, tt)

faultless : (os : List Outcome) (things : Things) (faults : List DeriveFault)
    → elim (first_of faults) as (λ _. Result Things DeriveFault) [ None ↦ Ok (flat_map thing_of os) | Some e ↦ Err e ] ≡ Ok things → flat_map thing_of os ≡ things
faultless os things [] is = cc
faultless os things (e ∷ es) is = absurd cc

pub things_made : (models : Models) (values : Values) (choices : List Choice) (frame : Frame) (root : List ℕ) (things : Things)
    → derived models values choices frame root ≡ Ok things → AllByRecursion (IsGenerated frame.bases frame.segment) things
things_made models values choices frame root things is =
    let given : Given = record { models = models; sources = sources_of models values; choices = choices; frame = frame } in
    let os : List Outcome = outcomes given root in
    subst (λ (ts : Things). AllByRecursion (IsGenerated frame.bases frame.segment) ts) (faultless os things (all_faults choices os) is)
    (flat_each (IsMade frame.bases frame.segment) (IsGenerated frame.bases frame.segment) thing_of (thing_made frame.bases frame.segment) os
    (all_made most_below given frame.segment [] (root_place frame root) (inl refl)))
