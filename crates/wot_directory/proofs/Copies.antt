-- The copies of a directory's entries, one by one.
use Rattle.std.proofs.Common.{◌≡◌, ℕ, zero, suc, List, [], ◌∷◌, ◌++◌, refl, sym, ap, ◌∙◌, append_assoc}
use Rattle.std.specs.Prelude.{String, string_bytes, take, drop}
use Rattle.std.specs.declared.alloc.Global.{Global}
use Rattle.std.proofs.lemmas.List.{append-nil}
use Rattle.wot_json.specs.Tree.{Json}
use Rattle.wot_json.specs.Meaning.{json_of}
use Rattle.wot_json.specs.declared.tree.Tree.{Tree}
use Rattle.wot_directory.specs.Contents.{Entries}
use Rattle.wot_directory.specs.Kept.{kept_entries}
use Rattle.wot_directory.proofs.Entries.{Kept}

none_taken : (es : Entries) → take 0 es ≡ []
none_taken [] = refl
none_taken (e ∷ es) = refl

none_left : (skip left : ℕ) → take left (drop skip (kept_entries [])) ≡ []
none_left zero zero = refl
none_left zero (suc left) = refl
none_left (suc skip) zero = refl
none_left (suc skip) (suc left) = refl

-- the first that is left is left out
pub skips_copy : (made whole : Entries) (skip less left : ℕ) (e : String Global × Tree) (entries rest : Kept) → entries ≡ e ∷ rest → skip ≡ suc less
    → made ++ take left (drop skip (kept_entries entries)) ≡ whole → made ++ take left (drop less (kept_entries rest)) ≡ whole
skips_copy made whole skip less left e entries rest is count before =
    ap (λ (n : ℕ). made ++ take left (drop n (kept_entries (e ∷ rest)))) (sym count)
    ∙ ap (λ (es : Kept). made ++ take left (drop skip (kept_entries es))) (sym is) ∙ before

-- the first that is left is copied
pub makes_copy : (made grown whole : Entries) (skip left less : ℕ) (e : String Global × Tree) (copied : List ℕ × Json) (entries rest : Kept) → entries ≡ e ∷ rest → skip ≡ 0 → left ≡ suc less
    → copied ≡ (string_bytes e.0, json_of e.1) → grown ≡ made ++ copied ∷ []
    → made ++ take left (drop skip (kept_entries entries)) ≡ whole → grown ++ take less (drop skip (kept_entries rest)) ≡ whole
makes_copy made grown whole skip left less e copied entries rest is none count value grown_is before =
    ap (λ (n : ℕ). grown ++ take less (drop n (kept_entries rest))) none
    ∙ ap (λ (xs : Entries). xs ++ take less (drop 0 (kept_entries rest))) grown_is
    ∙ append_assoc made (copied ∷ []) (take less (drop 0 (kept_entries rest)))
    ∙ ap (λ (x : List ℕ × Json). made ++ x ∷ take less (drop 0 (kept_entries rest))) value
    ∙ ap (λ (n : ℕ). made ++ take n (drop 0 (kept_entries (e ∷ rest)))) (sym count)
    ∙ ap (λ (n : ℕ). made ++ take left (drop n (kept_entries (e ∷ rest)))) (sym none)
    ∙ ap (λ (es : Kept). made ++ take left (drop skip (kept_entries es))) (sym is)
    ∙ before

-- as many are copied as may be
pub copies_no_more : (made whole : Entries) (skip left : ℕ) (entries : Kept) → left ≡ 0 → made ++ take left (drop skip (kept_entries entries)) ≡ whole → made ≡ whole
copies_no_more made whole skip left entries full before =
    sym (append-nil made) ∙ ap (λ (es : Entries). made ++ es) (sym (none_taken (drop skip (kept_entries entries))))
    ∙ ap (λ (n : ℕ). made ++ take n (drop skip (kept_entries entries))) (sym full) ∙ before

-- all were gone over
pub copies_all : (made whole : Entries) (skip left : ℕ) (entries : Kept) → entries ≡ [] → made ++ take left (drop skip (kept_entries entries)) ≡ whole → made ≡ whole
copies_all made whole skip left entries is before =
    sym (append-nil made) ∙ ap (λ (es : Entries). made ++ es) (sym (none_left skip left))
    ∙ ap (λ (es : Kept). made ++ take left (drop skip (kept_entries es))) (sym is) ∙ before
