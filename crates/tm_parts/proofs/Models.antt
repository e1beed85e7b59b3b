-- The answers of the library's map, in terms of the list of models.
use Rattle.std.proofs.Common.{◌≡◌, ℕ, List, refl, sym, ap, ◌∙◌, Bool, true, false}
use Rattle.std.specs.Prelude.{Option, Some, None, option_map, option_copied, is_some, IsSome, codes, String, string_bytes}
use Rattle.std.proofs.Common.{Bor}
use Rattle.std.specs.declared.alloc.Global.{Global}
use Rattle.std.specs.Ordering.{nat_cmp}
use Rattle.std.specs.Cmp.Lexicographic.{slice_cmp}
use Rattle.std.specs.Map.{lookup}
use Rattle.std.specs.BTreeMap.{is_at, insert_entry}
use Rattle.std.specs.String.{string_cmp}
use Rattle.wot_json.specs.Tree.{Json}
use Rattle.wot_json.proofs.EqualTrees.{listed_members_lem}
use Rattle.wot_json.specs.Meaning.{json_of}
use Rattle.wot_json.specs.Lookup.{member_named}
use Rattle.wot_json.specs.Texts.{has_text}
use Rattle.wot_json.specs.declared.tree.Tree.{Tree}
use Rattle.tm_parts.specs.Kept.{kept_models}
use Rattle.tm_parts.specs.Library.{with_model, thing_model, is_thing_model}
use Rattle.tm_parts.proofs.Maps.{found, inserted, none_found, some_found}
use Rattle.wot_json.specs.declared.tree.Tree.TheVariants as tree

-- the model that a lookup lends, by value
pub lent_value : (r : Option (Bor Tree)) → option_map (λ t. json_of t.now) r ≡ option_map json_of (option_copied r)
lent_value None = refl
lent_value (Some t) = refl

-- a lookup in the map is one in the list
pub kept_found : (url : List ℕ) (entries : List (String Global × Tree)) → option_map json_of (lookup (is_at (λ k. slice_cmp nat_cmp url (string_bytes k))) entries) ≡ member_named url (kept_models entries)
kept_found = found json_of

-- an insertion into the map is one into the list
pub kept_inserted : (entries : List (String Global × Tree)) (k : String Global) (t : Tree) → kept_models (insert_entry string_cmp entries k t) ≡ with_model (string_bytes k) (json_of t) (kept_models entries)
kept_inserted = inserted json_of

-- a map without an entry has no model there
pub none_kept : (url : List ℕ) (entries : List (String Global × Tree)) → is_some (lookup (is_at (λ k. slice_cmp nat_cmp url (string_bytes k))) entries) ≡ false → member_named url (kept_models entries) ≡ None
none_kept = none_found json_of

-- and one with an entry has
pub some_kept : (url : List ℕ) (entries : List (String Global × Tree)) → is_some (lookup (is_at (λ k. slice_cmp nat_cmp url (string_bytes k))) entries) ≡ true → IsSome (member_named url (kept_models entries))
some_kept = some_found json_of

-- an object is a model by what is under `@type`
pub model_by_type : (t : Tree) (ms : List (List ℕ × Json)) (types : Option Json) → t ≡ tree.Obj ms → types ≡ member_named (codes "@type") ms → is_thing_model (json_of t) ≡ elim types [ None ↦ false | Some v ↦ has_text thing_model v ]
model_by_type t ms types is found' =
    ap (λ (u : Tree). is_thing_model (json_of u)) is
    ∙ ap (λ (o : Option Json). elim o as (λ _. Bool) [ None ↦ false | Some v ↦ has_text thing_model v ]) (ap (λ (members : List (List ℕ × Json)). member_named (codes "@type") members) (listed_members_lem ms) ∙ sym found')
