-- The sources that are made of a library's models, one after another.
use Rattle.std.proofs.Common.{◌≡◌, ℕ, List, [], ◌∷◌, ◌++◌, map, refl, ap, sym, subst, ◌∙◌, append_assoc}
use Rattle.std.specs.Prelude.{Some, None, Result, Ok, Err, String, string_bytes}
use Rattle.std.specs.Cmp.Lexicographic.{slice_cmp}
use Rattle.std.specs.List.{AllByRecursion}
use Rattle.std.specs.List.Sorted.{IsStrictlySortedBy}
use Rattle.std.specs.Map.{keys_of}
use Rattle.std.specs.Ordering.{nat_cmp}
use Rattle.std.specs.String.{string_cmp}
use Rattle.std.specs.declared.alloc.Global.{Global}
use Rattle.std.specs.declared.cmp.Ordering.TheVariants.{Less}
use Rattle.std.proofs.lemmas.List.{map_push, append-nil}
use Rattle.wot_json.specs.Tree.{Json}
use Rattle.wot_json.specs.Meaning.{json_of}
use Rattle.wot_json.specs.declared.tree.Tree.{Tree}
use Rattle.tm_parts.specs.Kept.{kept_models}
use Rattle.tm_parts.specs.Library.{Models}
use Rattle.tm_parts.specs.Placeholders.{first_of}
use Rattle.tm_parts.specs.Prepared.{prepared_source, prepared_sources, prepared_urls}
use Rattle.tm_parts.specs.Sources.{Sources, substitution, sources_of}
use Rattle.tm_parts.specs.Substitution.{Values}
use Rattle.tm_parts.specs.Views.{BindAlike}
use Rattle.tm_parts.specs.declared.sources.Prepared.{Prepared}
use Rattle.tm_parts.specs.declared.substitution.PartFault.{PartFault}
use Rattle.tm_parts.proofs.Alike.{values_alike, faults_alike}

-- the models of the library's map
abbrev pub Entries : Type 0
Entries = List (String Global × Tree)

-- the source of the first model that is left goes after those that were made
pub sources_more : (made grown : List Prepared) (p : Prepared) (left rest : Entries) (e : String Global × Tree) (values : Values) (whole : Sources) → left ≡ e ∷ rest
    → prepared_sources made values ++ sources_of (kept_models left) values ≡ whole → grown ≡ made ++ p ∷ []
    → p.location ≡ string_bytes e.0 → prepared_source p values ≡ substitution (json_of e.1) values → prepared_sources grown values ++ sources_of (kept_models rest) values ≡ whole
sources_more made grown p left rest e values whole left_is before grown_is url model =
    ap (λ (ps : List Prepared). prepared_sources ps values ++ sources_of (kept_models rest) values) grown_is
    ∙ ap (λ (ss : Sources). ss ++ sources_of (kept_models rest) values) (map_push (λ (x : Prepared). (x.location, prepared_source x values)) made p)
    ∙ append_assoc (prepared_sources made values) ((p.location, prepared_source p values) ∷ []) (sources_of (kept_models rest) values)
    ∙ ap (λ (u : List ℕ). prepared_sources made values ++ (u, prepared_source p values) ∷ sources_of (kept_models rest) values) url
    ∙ ap (λ (m : Result Json PartFault). prepared_sources made values ++ (string_bytes e.0, m) ∷ sources_of (kept_models rest) values) model
    ∙ ap (λ (es : Entries). prepared_sources made values ++ sources_of (kept_models es) values) (sym left_is)
    ∙ before

-- once none is left, all were made
pub sources_made : (made : List Prepared) (left : Entries) (values : Values) (whole : Sources) → left ≡ []
    → prepared_sources made values ++ sources_of (kept_models left) values ≡ whole → prepared_sources made values ≡ whole
sources_made made left values whole none all =
    sym (append-nil (prepared_sources made values))
    ∙ ap (λ (es : Entries). prepared_sources made values ++ sources_of (kept_models es) values) (sym none)
    ∙ all

-- ---- the order of what was made

-- the texts of URLs, of models that were made ready and of those in the map
urls_prepared : (ps : List Prepared) (values : Values) → map (λ s. s.0) (prepared_sources ps values) ≡ prepared_urls ps
urls_prepared [] values = refl
urls_prepared (p ∷ ps) values = ap (λ (us : List (List ℕ)). p.location ∷ us) (urls_prepared ps values)

urls_kept : (es : Entries) (values : Values) → map (λ s. s.0) (sources_of (kept_models es) values) ≡ map string_bytes (keys_of es)
urls_kept [] values = refl
urls_kept (e ∷ es) values = ap (λ (us : List (List ℕ)). string_bytes e.0 ∷ us) (urls_kept es values)

-- keys of the map are in order as their texts are
texts_after : (k : String Global) (ks : List (String Global)) → AllByRecursion (λ y. string_cmp k y ≡ Less) ks → AllByRecursion (λ u. slice_cmp nat_cmp (string_bytes k) u ≡ Less) (map string_bytes ks)
texts_after k [] after = tt
texts_after k (y ∷ ys) after = (after.0, texts_after k ys after.1)

texts_ordered : (ks : List (String Global)) → IsStrictlySortedBy string_cmp ks → IsStrictlySortedBy (slice_cmp nat_cmp) (map string_bytes ks)
unfolding IsStrictlySortedBy
texts_ordered [] ordered = tt
texts_ordered (k ∷ ks) ordered = (texts_after k ks ordered.0, texts_ordered ks ordered.1)

-- so the URLs of what was made of all models ascend
pub urls_ordered : (ps : List Prepared) (es : Entries) (models : Models) (values : Values) → kept_models es ≡ models → prepared_sources ps values ≡ sources_of models values
    → IsStrictlySortedBy string_cmp (keys_of es) → IsStrictlySortedBy (slice_cmp nat_cmp) (prepared_urls ps)
urls_ordered ps es models values es_is made ordered =
    let urls : prepared_urls ps ≡ map string_bytes (keys_of es) =
    sym (urls_prepared ps values)
    ∙ ap (λ (ss : Sources). map (λ s. s.0) ss) (made ∙ ap (λ (ms : Models). sources_of ms values) (sym es_is))
    ∙ urls_kept es values in
    subst (λ (us : List (List ℕ)). IsStrictlySortedBy (slice_cmp nat_cmp) us) (sym urls) (texts_ordered (keys_of es) ordered)

-- ---- values that bind alike

substitutions_alike : (model : Json) (a b : Values) → BindAlike a b → substitution model a ≡ substitution model b
substitutions_alike model a b alike = λ i. elim (first_of (faults_alike model a b alike i)) as (λ _. Result Json PartFault) [ None ↦ Ok (values_alike model a b alike i) | Some fault ↦ Err fault ]

pub sources_alike : (models : Models) (a b : Values) → BindAlike a b → sources_of models a ≡ sources_of models b
sources_alike [] a b alike = refl
sources_alike (m ∷ ms) a b alike = λ i. (m.0, substitutions_alike m.1 a b alike i) ∷ sources_alike ms a b alike i
