-- The pointers that fragments write.
use Rattle.std.proofs.Common.{◌≡◌, ◌⊎◌, ℕ, List, sym, ap, ◌∙◌, inl, inr, cond}
use Rattle.std.specs.Prelude.{Bool, true, false, ◌&&◌, Some, None}
use Rattle.std.specs.Str.{IsUtf8, is_utf8}
use Rattle.std.proofs.lemmas.Bool.{cases_Bool}
use Rattle.std.proofs.lemmas.Str.{IsUtf8-from_is_utf8, is_utf8-from_IsUtf8}
use Rattle.percent_encoding.specs.Percent.{percent_decode}
use Rattle.wot_json.specs.Pointer.{IsPointer, is_pointer}
use Rattle.wot_json.proofs.PointerTokens.{is_pointer-pointer, is_pointer-other}
use Rattle.tm_parts.specs.References.{pointer_written}
use Rattle.tm_parts.specs.declared.reference.RefFault.{RefFault}
use Rattle.tm_parts.specs.declared.reference.RefFault.TheVariants.{BadRef, NoMemory}

-- the pointer that a fragment writes follows from two tests of its decoded bytes
by_tests : (fragment : List ℕ) (text pointer : Bool) → is_utf8 (percent_decode fragment) ≡ text → is_pointer (percent_decode fragment) ≡ pointer
    → pointer_written fragment ≡ cond (text && pointer) (Some (percent_decode fragment)) None
by_tests fragment text pointer text_is pointer_is =
    ap (λ (b : Bool). cond (b && is_pointer (percent_decode fragment)) (Some (percent_decode fragment)) None) text_is
    ∙ ap (λ (b : Bool). cond (text && b) (Some (percent_decode fragment)) None) pointer_is

-- a fragment that is decoded to a pointer writes it
pub writes_pointer : (fragment decoded : List ℕ) → decoded ≡ percent_decode fragment → IsUtf8 decoded → IsPointer decoded → pointer_written fragment ≡ Some decoded
writes_pointer fragment decoded is text pointer =
    by_tests fragment true true (ap is_utf8 (sym is) ∙ is_utf8-from_IsUtf8 decoded text) (ap is_pointer (sym is) ∙ is_pointer-pointer decoded pointer)
    ∙ ap (λ (bs : List ℕ). Some bs) (sym is)

-- one that is decoded to another text writes none
pub writes_other : (fragment decoded : List ℕ) → decoded ≡ percent_decode fragment → IsUtf8 decoded → ¬ IsPointer decoded → pointer_written fragment ≡ None
writes_other fragment decoded is text other =
    by_tests fragment true false (ap is_utf8 (sym is) ∙ is_utf8-from_IsUtf8 decoded text) (ap is_pointer (sym is) ∙ is_pointer-other decoded other)

-- nor does one that is decoded to no text
pub writes_no_text : (fragment : List ℕ) (fault : RefFault) → (fault ≡ NoMemory) ⊎ ¬ (IsUtf8 (percent_decode fragment)) → (fault ≡ NoMemory) ⊎ (pointer_written fragment ≡ None)
writes_no_text fragment fault (inl memory) = inl memory
writes_no_text fragment fault (inr no_text) = elim (cases_Bool (is_utf8 (percent_decode fragment))) [
  | inl text ↦ absurd (no_text (IsUtf8-from_is_utf8 (percent_decode fragment) text))
  | inr fails ↦ inr (ap (λ (b : Bool). cond (b && is_pointer (percent_decode fragment)) (Some (percent_decode fragment)) None) fails)
]

-- and where that wasn't for want of memory, the fragment writes none
pub none_written : (fragment : List ℕ) (fault : RefFault) → (fault ≡ NoMemory) ⊎ (pointer_written fragment ≡ None) → fault ≡ BadRef → pointer_written fragment ≡ None
none_written fragment fault (inl memory) bad = let never : NoMemory ≡ BadRef = sym memory ∙ bad in absurd cc
none_written fragment fault (inr none) bad = none
