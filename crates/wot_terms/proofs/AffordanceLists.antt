-- Affordances one after the other.
use Rattle.std.proofs.Common.{◌≡◌, ◌<◌, ◌+◌, ◌++◌, ℕ, List, [], ◌∷◌, length, get_or, take, None, refl, sym, ap, ◌∙◌, append_assoc}
use Rattle.std.specs.Option.{option_map_or}
use Rattle.std.proofs.lemmas.List.{take_more, map-append, append-nil}
use Rattle.wot_json.specs.Tree.{Json, members_of}
use Rattle.wot_json.specs.Meaning.{json_of, json_members}
use Rattle.wot_json.specs.declared.tree.Tree.{Tree}
use Rattle.wot_terms.specs.declared.kind.Kind.{Kind}
use Rattle.wot_terms.specs.declared.affordance.Affordance.{Affordance}
use Rattle.wot_json.specs.Lookup.{member_named, value_under}
use Rattle.wot_json.proofs.EqualTrees.{found-members_of}
use Rattle.wot_terms.specs.Faults.{holder}
use Rattle.wot_terms.specs.Affordances.{affordance_of, named_affordances, held_affordances, affordances_in}

-- where no member holds affordances of a kind, there are none
pub none_held : (k : Kind) (name : List ℕ) (ms : List (List ℕ × Json)) (list : List Affordance) → name ≡ holder k → None ≡ member_named name ms → list ≡ list ++ affordances_in k (members_of ms)
none_held k name ms list named none =
    let empty : affordances_in k (members_of ms) ≡ [] =
    ap (λ o. option_map_or (held_affordances k) o []) (ap (λ n. value_under n (members_of ms)) (sym named) ∙ found-members_of name ms ∙ sym none) in
    sym (append-nil list) ∙ ap (λ xs. list ++ xs) (sym empty)

named_last : (k : Kind) (ms : List (List ℕ × Json)) (m : List ℕ × Json) → named_affordances k (members_of (ms ++ m ∷ [])) ≡ named_affordances k (members_of ms) ++ affordance_of k m.0 m.1 ∷ []
named_last k [] m = refl
named_last k (n ∷ ms) m = ap (λ rest. affordance_of k n.0 n.1 ∷ rest) (named_last k ms m)

-- one more affordance was listed
pub named_more : (k : Kind) (before list after : List Affordance) (a : Affordance) (ts : List (List ℕ × Tree)) (i : ℕ) (t : List ℕ × Tree) → i < length ts → t ≡ get_or ts i t →
    list ≡ before ++ named_affordances k (members_of (json_members (take i ts))) → a ≡ affordance_of k t.0 (json_of t.1) → after ≡ list ++ a ∷ [] →
    after ≡ before ++ named_affordances k (members_of (json_members (take (i + 1) ts)))
named_more k before list after a ts i t within is so one more =
    let longer : take (i + 1) ts ≡ take i ts ++ t ∷ [] = take_more ts i t within ∙ ap (λ u. take i ts ++ u ∷ []) (sym is) in
    let listed : List Affordance = named_affordances k (members_of (json_members (take i ts))) in
    let whole : named_affordances k (members_of (json_members (take (i + 1) ts))) ≡ listed ++ affordance_of k t.0 (json_of t.1) ∷ [] =
    rw (longer, map-append) (named_last k (json_members (take i ts)) (t.0, json_of t.1)) in
    more
    ∙ (ap (λ l. l ++ a ∷ []) so
    ∙ (append_assoc before listed (a ∷ [])
    ∙ (ap (λ b. before ++ (listed ++ b ∷ [])) one
    ∙ ap (λ l. before ++ l) (sym whole))))
