-- The answers of a map by texts, in terms of the list of the values that it keeps: each entry's value is seen by a
-- function.
use Rattle.std.proofs.Common.{◌≡◌, ℕ, List, [], ◌∷◌, map, refl, sym, ap, subst, rules, ◌∙◌, Bool, true, false, cond}
use Rattle.std.specs.Prelude.{Option, Some, None, option_map, is_some, IsSome, String, string_bytes}
use Rattle.std.specs.Str.{bytes_eq}
use Rattle.std.specs.declared.alloc.Global.{Global}
use Rattle.std.specs.Ordering.{is_eq, nat_cmp, match_ordering}
use Rattle.std.specs.declared.cmp.Ordering.{Ordering}
use Rattle.std.specs.declared.cmp.Ordering.TheVariants.{Less, Equal, Greater}
use Rattle.std.specs.Cmp.Lexicographic.{slice_cmp}
use Rattle.std.specs.Map.{lookup}
use Rattle.std.specs.BTreeMap.{is_at, insert_entry}
use Rattle.std.specs.String.{string_cmp}
use Rattle.std.proofs.lemmas.Bool.{true≢false}
use Rattle.std.proofs.lemmas.Slice.Eq.{bytes_eq-Decides}
use Rattle.std.proofs.lemmas.Map.Text.{is_eq-slice_cmp}
use Rattle.wot_json.specs.Tree.{Json}
use Rattle.wot_json.specs.Lookup.{member_named}
use Rattle.tm_parts.specs.Library.{with_model}

-- the texts of a map, each with the value of what is kept under it
abbrev pub kept : {X : Type 0} → (X → Json) → List (String Global × X) → List (List ℕ × Json)
kept value = map (λ entry. (string_bytes entry.0, value entry.1))

-- a choice, seen by its values
mapped : {X : Type 0} (value : X → Json) (b : Bool) (x : X) (r : Option X) → option_map value (cond b (Some x) r) ≡ cond b (Some (value x)) (option_map value r)
mapped value true x r = refl
mapped value false x r = refl

no_value : {X : Type 0} (r : Option X) → is_some r ≡ false → r ≡ None
no_value None h = refl
no_value (Some x) h = absurd (cc)

has_value : {X : Type 0} (value : X → Json) (r : Option X) → is_some r ≡ true → IsSome (option_map value r)
has_value value None h = absurd (cc)
has_value value (Some x) h = search rules

-- a lookup in the map is one in the list
pub found : {X : Type 0} (value : X → Json) (name : List ℕ) (entries : List (String Global × X)) → option_map value (lookup (is_at (λ k. slice_cmp nat_cmp name (string_bytes k))) entries) ≡ member_named name (kept value entries)
found value name [] = refl
found {X} value name (e ∷ es) =
    let rest : Option X = lookup (is_at (λ k. slice_cmp nat_cmp name (string_bytes k))) es in
    mapped value (is_at (λ k. slice_cmp nat_cmp name (string_bytes k)) e.0) e.1 rest
    ∙ ap (λ (b : Bool). cond b (Some (value e.1)) (option_map value rest)) (is_eq-slice_cmp name (string_bytes e.0))
    ∙ ap (λ (r : Option Json). cond (bytes_eq name (string_bytes e.0)) (Some (value e.1)) r) (found value name es)

placed : {X : Type 0} (value : X → Json) (o : Ordering) (before here after : List (String Global × X)) → kept value (match_ordering o before here after) ≡ match_ordering o (kept value before) (kept value here) (kept value after)
placed value Less before here after = refl
placed value Equal before here after = refl
placed value Greater before here after = refl

-- an insertion into the map is one into the list
pub inserted : {X : Type 0} (value : X → Json) (entries : List (String Global × X)) (k : String Global) (x : X) → kept value (insert_entry string_cmp entries k x) ≡ with_model (string_bytes k) (value x) (kept value entries)
inserted value [] k x = refl
inserted value (e ∷ es) k x =
    placed value (slice_cmp nat_cmp (string_bytes k) (string_bytes e.0)) ((k, x) ∷ e ∷ es) ((e.0, x) ∷ es) (e ∷ insert_entry string_cmp es k x)
    ∙ ap (λ (ms : List (List ℕ × Json)). match_ordering (slice_cmp nat_cmp (string_bytes k) (string_bytes e.0)) (kept value ((k, x) ∷ e ∷ es)) (kept value ((e.0, x) ∷ es)) ((string_bytes e.0, value e.1) ∷ ms)) (inserted value es k x)

-- a map without an entry has no value there
pub none_found : {X : Type 0} (value : X → Json) (name : List ℕ) (entries : List (String Global × X)) → is_some (lookup (is_at (λ k. slice_cmp nat_cmp name (string_bytes k))) entries) ≡ false → member_named name (kept value entries) ≡ None
none_found {X} value name entries none = sym (found value name entries) ∙ ap (λ (r : Option X). option_map value r) (no_value (lookup (is_at (λ k. slice_cmp nat_cmp name (string_bytes k))) entries) none)

-- and one with an entry has
pub some_found : {X : Type 0} (value : X → Json) (name : List ℕ) (entries : List (String Global × X)) → is_some (lookup (is_at (λ k. slice_cmp nat_cmp name (string_bytes k))) entries) ≡ true → IsSome (member_named name (kept value entries))
some_found value name entries some =
    subst (λ (o : Option Json). IsSome o) (found value name entries) (has_value value (lookup (is_at (λ k. slice_cmp nat_cmp name (string_bytes k))) entries) some)

-- of two names that differ, it's the same which is looked at first
either_first : (one other : Bool) (x y : Json) (r : Option Json) → (one ≡ true → other ≡ true → ⊥) → cond one (Some x) (cond other (Some y) r) ≡ cond other (Some y) (cond one (Some x) r)
either_first true true x y r apart = absurd (apart refl refl)
either_first true false x y r apart = refl
either_first false other x y r apart = refl

-- the second of two values under one name isn't looked at
first_counts : (b : Bool) (x y : Json) (r : Option Json) → cond b (Some x) r ≡ cond b (Some x) (cond b (Some y) r)
first_counts true x y r = refl
first_counts false x y r = refl

-- the value under a name once a value was put under another, or under the same
pub found_with : (name other : List ℕ) (v : Json) (ms : List (List ℕ × Json)) → member_named name (with_model other v ms) ≡ cond (bytes_eq name other) (Some v) (member_named name ms)
found_with name other v [] = refl
found_with name other v (m ∷ ms) =
    elim (slice_cmp nat_cmp other m.0) as (λ o. slice_cmp nat_cmp other m.0 ≡ o → member_named name (match_ordering o ((other, v) ∷ m ∷ ms) ((m.0, v) ∷ ms) (m ∷ with_model other v ms)) ≡ cond (bytes_eq name other) (Some v) (member_named name (m ∷ ms))) [
      | Less ↦ λ is. refl
      | Equal ↦ λ is.
          let same : other ≡ m.0 = (bytes_eq-Decides other m.0).0 (sym (is_eq-slice_cmp other m.0) ∙ ap is_eq is) in
          subst (λ (n : List ℕ). cond (bytes_eq name m.0) (Some v) (member_named name ms) ≡ cond (bytes_eq name n) (Some v) (cond (bytes_eq name m.0) (Some m.1) (member_named name ms))) (sym same)
          (first_counts (bytes_eq name m.0) v m.1 (member_named name ms))
      | Greater ↦ λ is.
          ap (λ (r : Option Json). cond (bytes_eq name m.0) (Some m.1) r) (found_with name other v ms)
          ∙ either_first (bytes_eq name m.0) (bytes_eq name other) m.1 v (member_named name ms) (λ one two.
          let here : name ≡ m.0 = (bytes_eq-Decides name m.0).0 one in
          let there : name ≡ other = (bytes_eq-Decides name other).0 two in
          let both : bytes_eq other m.0 ≡ true = (bytes_eq-Decides other m.0).1 (sym there ∙ here) in
          true≢false (sym both ∙ sym (is_eq-slice_cmp other m.0) ∙ ap is_eq is))
    ] refl
