-- The code's results for values, by the cases of a tree.
use Rattle.std.proofs.Common.{◌≡◌, ℕ, ◌+◌, ◌<◌, List, [], ◌∷◌, ◌++◌, length, drop, get_or, Bool, true, false, sym, ap, subst, ◌∙◌, append_assoc, cond, not, map}
use Rattle.std.specs.Prelude.{Option, Some, None, option_map, is_none, filter, codes, slice_get}
use Rattle.std.specs.List.{list_all}
use Rattle.std.proofs.lemmas.List.{append-nil}
use Rattle.wot_json.specs.Tree.{Json, null, array, object, elements_of, members_of, AreOrdered}
use Rattle.wot_json.specs.Lookup.{member_named}
use Rattle.wot_json.specs.Meaning.{json_of, json_member, json_members}
use Rattle.wot_json.specs.declared.tree.Tree.{Tree}
use Rattle.wot_json.specs.declared.tree.Tree.TheVariants as tree
use Rattle.wot_json.proofs.EqualTrees.{listed_lem, listed_members_lem}
use Rattle.wot_forms.specs.Generated.{is_object}
use Rattle.wot_terms.specs.declared.fault.TdFault.{TdFault}
use Rattle.tm_parts.specs.Placeholders.{first_of}
use Rattle.tm_resolve.proofs.Loops.{left_at, order_more, order_without}
use Rattle.tm_derive.specs.Dropping.{dropped_member, dropped_members, holder_change, member_place}
use Rattle.tm_derive.specs.Finishing.{changed_links, instance_patch, is_model_type, staying_links, type_change, types_left, version_change}
use Rattle.tm_derive.specs.Derivation.{invalid_fault}
use Rattle.tm_derive.specs.declared.fault.DeriveFault.TheVariants.{Invalid}

-- ---- what is left out

-- the members so far, with that of the next where it is left out
pub dropped_more : (is_out : List ℕ → Bool) (holder : List ℕ) (done grown total : List (List ℕ × Json)) (list : List (List ℕ × Tree)) (index : ℕ) (m : List ℕ × Tree) (name : List ℕ)
    → index < length list → m ≡ get_or list index m → name ≡ m.0 → grown ≡ done ++ dropped_member is_out holder name
    → done ++ dropped_members is_out holder (json_members (drop index list)) ≡ total → grown ++ dropped_members is_out holder (json_members (drop (index + 1) list)) ≡ total
dropped_more is_out holder done grown total list index m name within is named grown_is so_far =
    let rest : List (List ℕ × Json) = dropped_members is_out holder (json_members (drop (index + 1) list)) in
    let left : json_members (drop index list) ≡ json_member m ∷ json_members (drop (index + 1) list) = ap json_members (left_at list index m within is) in
    ap (λ (ms : List (List ℕ × Json)). ms ++ rest) (grown_is ∙ ap (λ (n : List ℕ). done ++ dropped_member is_out holder n) named)
    ∙ append_assoc done (dropped_member is_out holder m.0) rest
    ∙ ap (λ (ms : List (List ℕ × Json)). done ++ dropped_members is_out holder ms) (sym left)
    ∙ so_far

-- and they stay in order with those that are left
ordered_by : (out : Bool) (done : List (List ℕ × Json)) (list : List (List ℕ × Tree)) (index : ℕ) (m : List ℕ × Tree) (name : List ℕ)
    → index < length list → m ≡ get_or list index m → name ≡ m.0 → AreOrdered (done ++ json_members (drop index list))
    → AreOrdered ((done ++ cond out ((name, null) ∷ []) []) ++ json_members (drop (index + 1) list))
ordered_by true done list index m name within is named ordered = order_more done list index m name null within is named ordered
ordered_by false done list index m name within is named ordered =
    subst (λ (ms : List (List ℕ × Json)). AreOrdered (ms ++ json_members (drop (index + 1) list))) (sym (append-nil done)) (order_without done list index m within is ordered)

pub dropped_ordered : (is_out : List ℕ → Bool) (holder : List ℕ) (done grown : List (List ℕ × Json)) (list : List (List ℕ × Tree)) (index : ℕ) (m : List ℕ × Tree) (name : List ℕ)
    → index < length list → m ≡ get_or list index m → name ≡ m.0 → grown ≡ done ++ dropped_member is_out holder name
    → AreOrdered (done ++ json_members (drop index list)) → AreOrdered (grown ++ json_members (drop (index + 1) list))
dropped_ordered is_out holder done grown list index m name within is named grown_is ordered =
    subst (λ (ms : List (List ℕ × Json)). AreOrdered (ms ++ json_members (drop (index + 1) list))) (sym grown_is)
    (ordered_by (is_out (member_place holder name)) done list index m name within is named ordered)

pub holder_changed : (is_out : List ℕ → Bool) (holder : List ℕ) (t : Tree) (ms : List (List ℕ × Json)) → t ≡ tree.Obj ms
    → Some (object (members_of (dropped_members is_out holder ms))) ≡ holder_change is_out holder (json_of t)
holder_changed is_out holder t ms is =
    sym (ap (λ (u : Tree). holder_change is_out holder (json_of u)) is ∙ ap (λ (ns : List (List ℕ × Json)). Some (object (members_of (dropped_members is_out holder ns)))) (listed_members_lem ms))

-- ---- what is finished

pub types_changed : (t : Tree) (vs : List Json) → t ≡ tree.List vs → Some (types_left (filter (λ v. not (is_model_type v)) vs)) ≡ type_change (json_of t)
types_changed t vs is =
    sym (ap (λ (u : Tree). type_change (json_of u)) is ∙ ap (λ (ws : List Json). Some (types_left (filter (λ v. not (is_model_type v)) ws))) (listed_lem vs))

pub version_changed : (version : List ℕ) (t : Tree) (ms : List (List ℕ × Json)) (o : Option Json) → t ≡ tree.Obj ms → o ≡ member_named (codes "instance") ms
    → cond (is_none o) (Some (instance_patch version)) None ≡ version_change version (json_of t)
version_changed version t ms o is found =
    sym (ap (λ (u : Tree). version_change version (json_of u)) is
    ∙ ap (λ (ns : List (List ℕ × Json)). cond (is_none (member_named (codes "instance") ns)) (Some (instance_patch version)) None) (listed_members_lem ms)
    ∙ ap (λ (p : Option Json). cond (is_none p) (Some (instance_patch version)) None) (sym found))

pub links_changed : (leaving : List ℕ) (added : List Json) (t : Tree) (vs : List Json) (b : Bool) → t ≡ tree.List vs → b ≡ list_all is_object vs
    → cond b (Some (array (elements_of (staying_links leaving 0 vs ++ added)))) None ≡ changed_links leaving added (json_of t)
links_changed leaving added t vs b is tested =
    sym (ap (λ (u : Tree). changed_links leaving added (json_of u)) is
    ∙ ap (λ (ws : List Json). cond (list_all is_object ws) (Some (array (elements_of (staying_links leaving 0 ws ++ added)))) None) (listed_lem vs)
    ∙ ap (λ (c : Bool). cond c (Some (array (elements_of (staying_links leaving 0 vs ++ added)))) None) (sym tested))

-- ---- what isn't valid

pub first_invalid : (segment : List ℕ) (faults : List (ℕ × List ℕ)) (found : TdFault) → slice_get faults 0 ≡ Some (found.number, found.pointer)
    → first_of (map (invalid_fault segment) faults) ≡ Some (Invalid segment found)
first_invalid segment [] found is = absurd (cc)
first_invalid segment (f ∷ fs) found is = ap (λ (o : Option (ℕ × List ℕ)). option_map (invalid_fault segment) o) is
