-- Affordances with their slots, gone through one by one.
use Rattle.std.proofs.Common.{◌≡◌, ℕ, ◌+◌, ◌<◌, List, [], ◌∷◌, ◌++◌, Bool, true, false, cond, refl, ap, ◌∙◌}
use Rattle.std.specs.Prelude.{Some, ◌&&◌}
use Rattle.std.specs.List.{AllByRecursion, filter}
use Rattle.std.specs.Str.{bytes_eq}
use Rattle.std.proofs.lemmas.List.Elements.{filter-append}
use Rattle.wot_terms.specs.declared.kind.Kind.{Kind}
use Rattle.wot_terms.specs.declared.kind.Kind.TheVariants as kind
use Rattle.thing_site.specs.Site.{Placed, affordance_named, is_kind, of_kind}
use Rattle.thing_core.specs.Thing.{is_readable}
use Rattle.thing_core.specs.Performing.{AllStand}

-- the affordance of a kind and name is this one, or another after it
pub named_here : (k : Kind) (name : List ℕ) (p : Placed) (ps : List Placed) → (is_kind k p.affordance.kind && bytes_eq name p.affordance.name) ≡ true → affordance_named k name (p ∷ ps) ≡ Some p
named_here k name p ps e = rw e refl

pub named_further : (k : Kind) (name : List ℕ) (p : Placed) (ps : List Placed) → (is_kind k p.affordance.kind && bytes_eq name p.affordance.name) ≡ false → affordance_named k name (p ∷ ps) ≡ affordance_named k name ps
named_further k name p ps e = rw e refl

-- ---- those that are read, and those that are polled

abbrev pub readable_of : List Placed → List Placed
readable_of ps = filter is_readable (filter (of_kind kind.Property) ps)

abbrev pub events_among : List Placed → List Placed
events_among ps = filter (of_kind kind.Event) ps

filter_more : (p : Placed → Bool) (x : Placed) (xs : List Placed) → filter p (x ∷ xs) ≡ filter p (x ∷ []) ++ filter p xs
filter_more p x xs = by_test (p x)
  where
    by_test : (b : Bool) → cond b (x ∷ filter p xs) (filter p xs) ≡ cond b (x ∷ []) [] ++ filter p xs
    by_test true = refl
    by_test false = refl

pub readable_more : (p : Placed) (ps : List Placed) → readable_of (p ∷ ps) ≡ readable_of (p ∷ []) ++ readable_of ps
readable_more p ps =
    ap (filter is_readable) (filter_more (of_kind kind.Property) p ps) ∙ filter-append is_readable (filter (of_kind kind.Property) (p ∷ [])) (filter (of_kind kind.Property) ps)

pub events_more : (p : Placed) (ps : List Placed) → events_among (p ∷ ps) ≡ events_among (p ∷ []) ++ events_among ps
events_more p ps = filter_more (of_kind kind.Event) p ps

-- ---- slots that a rack has

-- a part of all has what all have
pub filter_has : (P : Placed → Type 0) (f : Placed → Bool) (ps : List Placed) → AllByRecursion P ps → AllByRecursion P (filter f ps)
filter_has P f [] all = tt
filter_has P f (x ∷ ps) all = by_test (filter_has P f ps all.1) (f x)
  where
    by_test : AllByRecursion P (filter f ps) → (b : Bool) → AllByRecursion P (cond b (x ∷ filter f ps) (filter f ps))
    by_test rest true = (all.0, rest)
    by_test rest false = rest

pub readable_stand : (count : ℕ) (ps : List Placed) → AllStand count ps → AllStand count (readable_of ps)
readable_stand count ps all =
    filter_has (λ (x : Placed). x.slot < count) is_readable (filter (of_kind kind.Property) ps) (filter_has (λ (x : Placed). x.slot < count) (of_kind kind.Property) ps all)

pub events_stand : (count : ℕ) (ps : List Placed) → AllStand count ps → AllStand count (events_among ps)
events_stand count ps all = filter_has (λ (x : Placed). x.slot < count) (of_kind kind.Event) ps all

-- of two lists of affordances whose slots a rack has, it has the slots of each
pub stands_first : (count : ℕ) (ps qs : List Placed) → AllStand count (ps ++ qs) → AllStand count ps
stands_first count [] qs all = tt
stands_first count (p ∷ ps) qs all = (all.0, stands_first count ps qs all.1)

pub stands_rest : (count : ℕ) (ps qs : List Placed) → AllStand count (ps ++ qs) → AllStand count qs
stands_rest count [] qs all = all
stands_rest count (p ∷ ps) qs all = stands_rest count ps qs all.1
