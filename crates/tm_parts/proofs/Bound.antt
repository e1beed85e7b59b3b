-- The answers of the map of bound values while bindings are put into it, the last first.
use Rattle.std.proofs.Common.{◌≡◌, ℕ, List, [], ◌∷◌, ◌++◌, sym, ap, ◌∙◌, cond, length, arith, Bor}
use Rattle.std.specs.Prelude.{Option, Some, String, string_bytes}
use Rattle.std.specs.List.{push}
use Rattle.std.specs.Str.{bytes_eq}
use Rattle.std.specs.BTreeMap.{insert_entry}
use Rattle.std.specs.String.{string_cmp}
use Rattle.std.specs.declared.alloc.Global.{Global}
use Rattle.std.proofs.lemmas.List.{append-nil, map_push}
use Rattle.wot_json.specs.Tree.{Json}
use Rattle.wot_json.specs.Lookup.{member_named}
use Rattle.wot_json.specs.Meaning.{json_of, json_member, json_members}
use Rattle.wot_json.specs.declared.tree.Tree.{Tree}
use Rattle.tm_parts.specs.Kept.{kept_values}
use Rattle.tm_parts.specs.Library.{with_model}
use Rattle.tm_parts.specs.Substitution.{bound_value}
use Rattle.tm_parts.proofs.Maps.{inserted, found_with}

-- the last of those before a list may be put into it
last_put : (name : List ℕ) (left : List (List ℕ × Json)) (m : List ℕ × Json) (others : List (List ℕ × Json)) → member_named name (left ++ with_model m.0 m.1 others) ≡ member_named name ((left ++ m ∷ []) ++ others)
last_put name [] m others = found_with name m.0 m.1 others
last_put name (x ∷ left) m others = ap (λ (r : Option Json). cond (bytes_eq name x.0) (Some x.1) r) (last_put name left m others)

-- the value that is bound once the last that was left is in the map
pub bound_more : (name : List ℕ) (rest now : List (List ℕ × Tree)) (x : List ℕ × Tree) (entries after : List (String Global × Bor Tree)) (key : String Global) (value : Bor Tree) (whole : Option Json)
    → rest ≡ push now x → after ≡ insert_entry string_cmp entries key value → string_bytes key ≡ x.0 → value.now ≡ x.1
    → bound_value name (json_members rest ++ kept_values entries) ≡ whole → bound_value name (json_members now ++ kept_values after) ≡ whole
bound_more name rest now x entries after key value whole rest_is after_is key_is value_is before =
    ap (λ (es : List (String Global × Bor Tree)). member_named name (json_members now ++ kept_values es)) after_is
    ∙ ap (λ (vs : List (List ℕ × Json)). member_named name (json_members now ++ vs)) (inserted (λ (t : Bor Tree). json_of t.now) entries key value)
    ∙ ap (λ (n : List ℕ). member_named name (json_members now ++ with_model n (json_of value.now) (kept_values entries))) key_is
    ∙ ap (λ (t : Tree). member_named name (json_members now ++ with_model x.0 (json_of t) (kept_values entries))) value_is
    ∙ last_put name (json_members now) (json_member x) (kept_values entries)
    ∙ ap (λ (ms : List (List ℕ × Json)). member_named name (ms ++ kept_values entries)) (sym (map_push json_member now x))
    ∙ ap (λ (ms : List (List ℕ × Tree)). member_named name (json_members ms ++ kept_values entries)) (sym rest_is)
    ∙ before

-- where none is left, the map has all
pub bound_all : (name : List ℕ) (rest : List (List ℕ × Tree)) (entries : List (String Global × Bor Tree)) (whole : Option Json) → length rest ≡ 0
    → bound_value name (json_members rest ++ kept_values entries) ≡ whole → bound_value name (kept_values entries) ≡ whole
bound_all name [] entries whole empty all = all
bound_all name (x ∷ rest) entries whole empty all = absurd (omega (arith, empty))

-- at first all are left
pub bound_first : (name : List ℕ) (rest list : List (List ℕ × Tree)) (entries : List (String Global × Bor Tree)) (bindings : List (List ℕ × Json)) → rest ≡ list → entries ≡ [] → json_members list ≡ bindings
    → bound_value name (json_members rest ++ kept_values entries) ≡ bound_value name bindings
bound_first name rest list entries bindings rest_is none list_is =
    ap (λ (es : List (String Global × Bor Tree)). member_named name (json_members rest ++ kept_values es)) none
    ∙ ap (member_named name) (append-nil (json_members rest))
    ∙ ap (λ (ms : List (List ℕ × Tree)). member_named name (json_members ms)) rest_is
    ∙ ap (member_named name) list_is
