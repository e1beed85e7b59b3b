-- Binary search among models whose URLs ascend, and the model that it finds.
use Rattle.std.proofs.Common.{◌≡◌, ℕ, ◌<◌, List, [], ◌∷◌, length, get_or, refl, ap, ◌∙◌, cond}
use Rattle.std.specs.Prelude.{Option, Some, None, Result}
use Rattle.std.specs.Str.{bytes_eq}
use Rattle.std.specs.Ordering.{ordering_index}
use Rattle.std.specs.declared.cmp.Ordering.TheVariants.{Less, Equal, Greater}
use Rattle.std.specs.List.{HoldsAt}
use Rattle.std.specs.List.Sorted.{IsNonDecreasingBy, IsPartitionPoint}
use Rattle.wot_json.specs.Tree.{Json}
use Rattle.tm_parts.specs.Prepared.{prepared_source, prepared_sources}
use Rattle.tm_parts.specs.Sources.{Sources, source_named}
use Rattle.tm_parts.specs.Substitution.{Values}
use Rattle.tm_parts.specs.declared.sources.Prepared.{Prepared}
use Rattle.tm_parts.specs.declared.substitution.PartFault.{PartFault}
use Rattle.tm_parts.proofs.Halving.{Ascend, order_of, first_under}
use Rattle.tm_parts.proofs.Halving as halving

-- the URL of a model
abbrev pub url_of : Prepared → List ℕ
url_of m = m.location

-- the value under a URL is the first one there
value_named : (url : List ℕ) (sources : Sources) → first_under url sources ≡ source_named url sources
value_named url [] = refl
value_named url (s ∷ ss) = ap (λ (r : Option (Result Json PartFault)). cond (bytes_eq url s.0) (Some s.1) r) (value_named url ss)

-- a search that ends at a model found the one of this URL
pub found_by_halving : (ms slice : List Prepared) (values : Values) (sources : Sources) (url : List ℕ) (k : ℕ) (m : Prepared) → slice ≡ ms → prepared_sources ms values ≡ sources → Ascend url_of ms
    → k < length slice → HoldsAt (λ n. order_of url_of url n ≡ Equal) slice k → m ≡ get_or ms k m → Some (prepared_source m values) ≡ source_named url sources
found_by_halving ms slice values sources url k m slice_is sources_is ascend within equal m_is =
    halving.found_by_halving url_of (λ n. prepared_source n values) ms slice url k m slice_is ascend within equal m_is
    ∙ value_named url (prepared_sources ms values) ∙ ap (source_named url) sources_is

-- one that ends between two models found that none has this URL
pub missing_by_halving : (ms slice : List Prepared) (values : Values) (sources : Sources) (url : List ℕ) (i : ℕ) → slice ≡ ms → prepared_sources ms values ≡ sources → Ascend url_of ms
    → (IsNonDecreasingBy (λ n. ordering_index (order_of url_of url n)) slice → IsPartitionPoint (λ n. order_of url_of url n ≡ Less) (λ n. order_of url_of url n ≡ Greater) slice i) → None ≡ source_named url sources
missing_by_halving ms slice values sources url i slice_is sources_is ascend parted =
    halving.missing_by_halving url_of (λ n. prepared_source n values) ms slice url i slice_is ascend parted
    ∙ value_named url (prepared_sources ms values) ∙ ap (source_named url) sources_is
