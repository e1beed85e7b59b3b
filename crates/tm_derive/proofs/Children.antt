-- Links to submodels, one after another.
use Rattle.std.proofs.Common.{◌≡◌, ℕ, ◌+◌, ◌<◌, ◌≤◌, List, [], ◌∷◌, ◌++◌, length, drop, get_or, sym, ap, ◌∙◌, append_assoc}
use Rattle.std.proofs.lemmas.List.{append-nil, drop_all, map-append}
use Rattle.tm_parts.specs.Library.{Models}
use Rattle.tm_resolve.specs.ModelLinks.{ModelLink, kept_link, kept_links}
use Rattle.tm_resolve.specs.declared.model_links.CountedLink.{CountedLink}
use Rattle.tm_resolve.proofs.Loops.{left_at}
use Rattle.tm_derive.specs.Submodels.{children_from, link_child, link_faults, segments_of, submodel_faults}
use Rattle.tm_derive.specs.Refusals.{IsRefusal}
use Rattle.tm_derive.specs.declared.place.ThingPlace.{ThingPlace}
use Rattle.tm_derive.specs.declared.fault.DeriveFault.{DeriveFault}
use Rattle.tm_derive.proofs.Outcomes.{refused_before, refused_same}

-- the Things made of the links before an index, with those that the others will give, are those of all links; and the
-- others have all faults
pub record ChildrenGoOn (models : Models) (above : List (List ℕ)) (place : ThingPlace) (links : List CountedLink) (made : List ThingPlace) (index : ℕ) : Type 0 where
  pub children : made ++ children_from place (index + 1) (kept_links (drop index links)) ≡ children_from place 1 (kept_links links)
  pub faults : submodel_faults models above place (segments_of made) (index + 1) (kept_links (drop index links)) ≡ submodel_faults models above place [] 1 (kept_links links)

-- the links that are left at an index
links_left : (links : List CountedLink) (index : ℕ) (link : CountedLink) → index < length links → link ≡ get_or links index link
    → kept_links (drop index links) ≡ kept_link link ∷ kept_links (drop (index + 1) links)
links_left links index link within is = ap kept_links (left_at links index link within is)

-- a link that is refused ends the walk
pub child_refused : (models : Models) (above : List (List ℕ)) (place : ThingPlace) (links : List CountedLink) (made : List ThingPlace) (index : ℕ) (link : CountedLink) (e : DeriveFault)
    → index < length links → link ≡ get_or links index link → ChildrenGoOn models above place links made index
    → IsRefusal e (link_faults models above place (segments_of made) (index + 1) (kept_link link)) → IsRefusal e (submodel_faults models above place [] 1 (kept_links links))
child_refused models above place links made index link e within is so_far refused =
    refused_same e _ _ (sym so_far.faults ∙ ap (λ (ls : List ModelLink). submodel_faults models above place (segments_of made) (index + 1) ls) (links_left links index link within is))
    (refused_before e (link_faults models above place (segments_of made) (index + 1) (kept_link link)) _ refused)

-- a link that leads to a Thing goes on
pub child_more : (models : Models) (above : List (List ℕ)) (place : ThingPlace) (links : List CountedLink) (made grown : List ThingPlace) (index : ℕ) (link : CountedLink) (child : ThingPlace)
    → index < length links → link ≡ get_or links index link → ChildrenGoOn models above place links made index
    → link_child place (index + 1) (kept_link link) ≡ child ∷ [] → link_faults models above place (segments_of made) (index + 1) (kept_link link) ≡ []
    → grown ≡ made ++ child ∷ [] → ChildrenGoOn models above place links grown (index + 1)
child_more models above place links made grown index link child within is so_far leads none grown_is =
    let left = links_left links index link within is in
    let rest : List ModelLink = kept_links (drop (index + 1) links) in
    let grown_by : grown ≡ made ++ link_child place (index + 1) (kept_link link) = grown_is ∙ ap (λ (cs : List ThingPlace). made ++ cs) (sym leads) in
    record {
      children = ap (λ (ps : List ThingPlace). ps ++ children_from place (index + 1 + 1) rest) grown_by
          ∙ append_assoc made (link_child place (index + 1) (kept_link link)) (children_from place (index + 1 + 1) rest)
          ∙ ap (λ (ls : List ModelLink). made ++ children_from place (index + 1) ls) (sym left)
          ∙ so_far.children;
      faults = ap (λ (ps : List ThingPlace). submodel_faults models above place (segments_of ps) (index + 1 + 1) rest) grown_by
          ∙ ap (λ (ss : List (List ℕ)). submodel_faults models above place ss (index + 1 + 1) rest) (map-append (λ (p : ThingPlace). p.segment) made (link_child place (index + 1) (kept_link link)))
          ∙ ap (λ (fs : List DeriveFault). fs ++ submodel_faults models above place (segments_of made ++ segments_of (link_child place (index + 1) (kept_link link))) (index + 1 + 1) rest) (sym none)
          ∙ ap (λ (ls : List ModelLink). submodel_faults models above place (segments_of made) (index + 1) ls) (sym left)
          ∙ so_far.faults;
    }

-- the end of the links
pub children_end : (models : Models) (above : List (List ℕ)) (place : ThingPlace) (links : List CountedLink) (made : List ThingPlace) (index : ℕ) → length links ≤ index → ChildrenGoOn models above place links made index
    → (made ≡ children_from place 1 (kept_links links)) × (submodel_faults models above place [] 1 (kept_links links) ≡ [])
children_end models above place links made index past so_far =
    let none : kept_links (drop index links) ≡ [] = ap kept_links (drop_all index links past) in (
      sym (append-nil made) ∙ ap (λ (ls : List ModelLink). made ++ children_from place (index + 1) ls) (sym none) ∙ so_far.children,
      sym so_far.faults ∙ ap (λ (ls : List ModelLink). submodel_faults models above place (segments_of made) (index + 1) ls) none,
    )
