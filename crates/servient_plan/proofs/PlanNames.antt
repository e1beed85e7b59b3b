-- The texts of a plan are such as their rows take; the segment of the root is plain.
use Rattle.std.proofs.Common.{◌≡◌, ◌∙◌, ℕ, ◌<◌, List, [], ◌∷◌, length, Bool, true, false, ◌&&◌, Option, Some, None, Result, Ok, Err, refl, ap, subst, sym}
use Rattle.std.specs.Prelude.{◌||◌, ◌==◌, IfOk, nat_lt, nat_le, not, if◌then◌else◌}
use Rattle.std.specs.List.{list_all}
use Rattle.std.proofs.lemmas.Bool.{and_parts}
use Rattle.wot_forms.specs.Segments.{is_name_byte, is_plain_segment}
use Rattle.wot_forms.proofs.PlainSegments.{plain_name}
use Rattle.servient_plan.specs.declared.plan.PlanFault.{PlanFault}
use Rattle.servient_plan.specs.declared.plan.PlanFault.TheVariants.{At, NoMemory}
use Rattle.servient_plan.specs.declared.texts.TextRow.{TextRow}
use Rattle.servient_plan.specs.Plan.{Reads, is_reserved, is_root_segment, row_of, taken_text, takes_text}

-- ---- a text that was taken

if_taken : (b : Bool) (text t : List ℕ) → (if b then Some text else None) ≡ Some t → (b ≡ true) × (text ≡ t)
if_taken true text t is = (refl, cc)
if_taken false text t is = absurd (cc)

taken_is : (r : TextRow) (found : Option (List ℕ)) (t : List ℕ) → taken_text r found ≡ Some t → takes_text r t ≡ true
taken_is r None t is = absurd (cc)
taken_is r (Some text) t is =
    let both = if_taken (takes_text r text) text t is in
    ap (takes_text r) (sym both.1) ∙ both.0

row_is : (name : List ℕ) (value : Option (List ℕ)) (t : List ℕ) → row_of name value ≡ Ok t → value ≡ Some t
row_is name None t is = absurd (cc)
row_is name (Some value) t is = cc

-- the value that a row reads of a text that may be taken is such as it takes
pub is_taken : (r : TextRow) (name : List ℕ) (found value : Option (List ℕ)) (result : Result (List ℕ) PlanFault) → value ≡ taken_text r found → Reads result (row_of name value)
    → IfOk result (λ text. takes_text r text ≡ true)
is_taken r name found value (Ok t) taken is = taken_is r found t (sym taken ∙ row_is name value t is)
is_taken r name found value (Err (At p)) taken is = tt
is_taken r name found value (Err NoMemory) taken is = tt

-- ---- the segment of the root

pub root_is_plain : (segment : List ℕ) → is_root_segment segment ≡ true → is_plain_segment segment ≡ true
root_is_plain segment is =
    let bytes : Bool = list_all is_name_byte segment in
    let some : Bool = nat_lt 0 (length segment) in
    let few : Bool = nat_le (length segment) 64 in
    plain_name segment (and_parts bytes some (and_parts (bytes && some) few (and_parts (bytes && some && few) (not (is_reserved segment)) is).0).0).0
