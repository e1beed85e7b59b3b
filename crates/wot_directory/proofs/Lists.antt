-- The list of a directory's entries, one by one.
use Rattle.std.proofs.Common.{◌≡◌, ℕ, zero, suc, List, [], ◌∷◌, ◌++◌, refl, sym, ap, ◌∙◌, append_assoc}
use Rattle.std.specs.Prelude.{String, string_bytes}
use Rattle.std.specs.declared.alloc.Global.{Global}
use Rattle.std.proofs.lemmas.List.{append-nil}
use Rattle.wot_json.specs.Tree.{Json}
use Rattle.wot_json.specs.Meaning.{json_of}
use Rattle.wot_json.specs.declared.tree.Tree.{Tree}
use Rattle.wot_directory.specs.Contents.{Entries}
use Rattle.wot_directory.specs.Kept.{kept_entries}
use Rattle.wot_directory.specs.Directory.{listed}
use Rattle.wot_directory.proofs.Entries.{Kept}

-- one is left out
left_out : (skip less left : ℕ) (e : List ℕ × Json) (es : Entries) → skip ≡ suc less → listed skip left (e ∷ es) ≡ listed less left es
left_out skip less left e es is = ap (λ (n : ℕ). listed n left (e ∷ es)) is

-- one is listed
one_listed : (left less : ℕ) (e : List ℕ × Json) (es : Entries) → left ≡ suc less → listed 0 left (e ∷ es) ≡ e.1 ∷ listed 0 less es
one_listed left less e es is = ap (λ (n : ℕ). listed 0 n (e ∷ es)) is

none_listed : (es : Entries) → listed 0 0 es ≡ []
none_listed [] = refl
none_listed (e ∷ es) = refl

none_left : (skip left : ℕ) → listed skip left [] ≡ []
none_left zero zero = refl
none_left zero (suc left) = refl
none_left (suc skip) zero = refl
none_left (suc skip) (suc left) = refl

-- the first that is left is left out
pub skips_one : (made whole : List Json) (skip less left : ℕ) (e : String Global × Tree) (left_entries rest : Kept) → left_entries ≡ e ∷ rest → skip ≡ suc less
    → made ++ listed skip left (kept_entries left_entries) ≡ whole → made ++ listed less left (kept_entries rest) ≡ whole
skips_one made whole skip less left e entries rest is count before =
    ap (λ (vs : List Json). made ++ vs) (sym (left_out skip less left (string_bytes e.0, json_of e.1) (kept_entries rest) count))
    ∙ ap (λ (es : Kept). made ++ listed skip left (kept_entries es)) (sym is) ∙ before

-- the first that is left is listed
pub lists_one : (made grown whole : List Json) (skip left less : ℕ) (e : String Global × Tree) (v : Json) (left_entries rest : Kept) → left_entries ≡ e ∷ rest → skip ≡ 0 → left ≡ suc less → v ≡ json_of e.1 → grown ≡ made ++ v ∷ []
    → made ++ listed skip left (kept_entries left_entries) ≡ whole → grown ++ listed skip less (kept_entries rest) ≡ whole
lists_one made grown whole skip left less e v entries rest is none count value grown_is before =
    ap (λ (n : ℕ). grown ++ listed n less (kept_entries rest)) none
    ∙ ap (λ (vs : List Json). vs ++ listed 0 less (kept_entries rest)) grown_is
    ∙ append_assoc made (v ∷ []) (listed 0 less (kept_entries rest))
    ∙ ap (λ (x : Json). made ++ x ∷ listed 0 less (kept_entries rest)) value
    ∙ ap (λ (vs : List Json). made ++ vs) (sym (one_listed left less (string_bytes e.0, json_of e.1) (kept_entries rest) count))
    ∙ ap (λ (es : Kept). made ++ listed 0 left (kept_entries es)) (sym is)
    ∙ ap (λ (n : ℕ). made ++ listed n left (kept_entries entries)) (sym none)
    ∙ before

-- as many are listed as may be
pub lists_no_more : (made whole : List Json) (skip left : ℕ) (entries : Kept) → skip ≡ 0 → left ≡ 0 → made ++ listed skip left (kept_entries entries) ≡ whole → made ≡ whole
lists_no_more made whole skip left entries none full before =
    sym (append-nil made) ∙ ap (λ (vs : List Json). made ++ vs) (sym (none_listed (kept_entries entries)))
    ∙ ap (λ (n : ℕ). made ++ listed n 0 (kept_entries entries)) (sym none)
    ∙ ap (λ (n : ℕ). made ++ listed skip n (kept_entries entries)) (sym full) ∙ before

-- all were gone over
pub lists_all : (made whole : List Json) (skip left : ℕ) (entries : Kept) → entries ≡ [] → made ++ listed skip left (kept_entries entries) ≡ whole → made ≡ whole
lists_all made whole skip left entries is before =
    sym (append-nil made) ∙ ap (λ (vs : List Json). made ++ vs) (sym (none_left skip left))
    ∙ ap (λ (es : Kept). made ++ listed skip left (kept_entries es)) (sym is) ∙ before
