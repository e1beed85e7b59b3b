-- Bytes, their value and their tree.
use Rattle.std.proofs.Common.{arith, ◌≡◌, ◌≢◌, ℕ, List, Bool, true, false, cond, Option, Some, None, option_and_then, refl, ap, ◌∙◌}
use Rattle.std.specs.Prelude.{◌≤◌, IsUtf8, nat_le}
use Rattle.std.specs.Str.{is_utf8}
use Rattle.std.proofs.lemmas.Bool.Decides.{nat_tests}
use Rattle.std.proofs.lemmas.Str.{is_utf8-from_IsUtf8, IsUtf8-from_is_utf8}
use Rattle.serde_json.specs.Data.{Data, depth}
use Rattle.serde_json.specs.Read.{read}
use Rattle.wot_json.specs.Tree.{Json}
use Rattle.wot_json.specs.Reading.{value_of, tree_of, tree_of_value, wrong_numbers}
use Rattle.wot_json.specs.Faults.{HasReadFault, NamesFirst}
use Rattle.wot_json.specs.declared.reading.ReadFault.{ReadFault}
use Rattle.wot_json.specs.declared.reading.ReadFault.TheVariants.{NotJson, TooDeep, NotInteger, NoMemory}
use Rattle.wot_json.proofs.Converting.{no_tree_if_wrong}
use Rattle.wot_json.specs.declared.reading.TheConstants.{MAX_DEPTH}

pub value_of-some : (bytes : List ℕ) (d : Data) → IsUtf8 bytes → read bytes ≡ Some d → value_of bytes ≡ Some d
value_of-some bytes d utf8 e = rw (is_utf8-from_IsUtf8 bytes utf8) e

none_either : {A : Type 0} (b : Bool) (o : Option A) → (b ≡ true → o ≡ None) → cond b o None ≡ None
none_either true o e = e refl
none_either false o e = refl

pub value_of-none : (bytes : List ℕ) → (IsUtf8 bytes → read bytes ≡ None) → value_of bytes ≡ None
value_of-none bytes e = none_either (is_utf8 bytes) (read bytes) (λ is. e (IsUtf8-from_is_utf8 bytes is))

abbrev unless_too_deep : Data → Option Json
unless_too_deep d = cond (nat_le (depth d) MAX_DEPTH) (tree_of_value d) None

-- the faults of a value are those of the bytes that have it
pub fault_if_named : (bytes : List ℕ) (d : Data) (f : ReadFault) → value_of bytes ≡ Some d → depth d ≤ MAX_DEPTH → NamesFirst (wrong_numbers d) f → HasReadFault bytes f
fault_if_named bytes d NotJson value shallow named = absurd named
fault_if_named bytes d TooDeep value shallow named = absurd named
fault_if_named bytes d (NotInteger pointer) value shallow named = (d, value, shallow, named)
fault_if_named bytes d NoMemory value shallow named = tt

-- bytes at fault have no tree
pub no_tree_if_fault : (bytes : List ℕ) (f : ReadFault) → HasReadFault bytes f → f ≢ NoMemory → tree_of bytes ≡ None
no_tree_if_fault bytes NotJson none some = ap (option_and_then unless_too_deep) none
no_tree_if_fault bytes TooDeep (d, value, deep) some =
    ap (option_and_then unless_too_deep) value ∙ none_either (nat_le (depth d) MAX_DEPTH) (tree_of_value d) (λ shallow. absurd (grind (arith, nat_tests)))
no_tree_if_fault bytes (NotInteger pointer) (d, value, shallow, named) some =
    ap (option_and_then unless_too_deep) value ∙ none_either (nat_le (depth d) MAX_DEPTH) (tree_of_value d) (λ _. no_tree_if_wrong d pointer _ named refl)
no_tree_if_fault bytes NoMemory free some = absurd (some refl)
