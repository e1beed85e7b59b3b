-- Judging whether a description may be put, by the answers of the map.
use Rattle.std.proofs.Common.{◌≡◌, ◌≤◌, ◌<◌, ℕ, List, length, refl, sym, ap, subst, arith, ◌∙◌, inl, inr, true, false}
use Rattle.std.specs.Prelude.{Option, Some, None, is_some, is_none, IsSome}
use Rattle.wot_json.specs.Tree.{Json, string}
use Rattle.wot_json.specs.Lookup.{member_named}
use Rattle.wot_terms.specs.Faults.{IsValid}
use Rattle.wot_directory.specs.Contents.{Contents, Entries}
use Rattle.wot_directory.specs.Kept.{kept_entries}
use Rattle.wot_directory.specs.Directory.{id_of, MayPut, HasPutFault}
use Rattle.wot_directory.specs.declared.fault.DirFault.TheVariants.{Full}
use Rattle.wot_directory.proofs.Entries.{Kept, found_in, none_kept, some_kept, kept_length}

none_by : (r : Option Json) → r ≡ None → true ≡ is_none r
none_by None is = refl
none_by (Some v) is = absurd (cc (is))

not_none : (r : Option Json) → IsSome r → false ≡ is_none r
not_none None some = absurd (cc (some))
not_none (Some v) some = refl

-- one is under the id
pub may_replace : (id : List ℕ) (v : Json) (es : Kept) (d : Contents) → kept_entries es ≡ d.entries → IsValid v → id_of v ≡ Some (string id) → true ≡ is_some (found_in id es)
    → MayPut id v d × (false ≡ is_none (member_named id d.entries))
may_replace id v es d is valid id_is some =
    let found : IsSome (member_named id d.entries) = subst (λ (ms : Entries). IsSome (member_named id ms)) is (some_kept id es (sym some)) in
    (record { valid = valid; id_is = id_is; room = inl found }, not_none (member_named id d.entries) found)

-- none is under the id, and fewer are there than may be
pub may_add : (id : List ℕ) (v : Json) (es : Kept) (d : Contents) → kept_entries es ≡ d.entries → IsValid v → id_of v ≡ Some (string id) → false ≡ is_some (found_in id es) → length es < 4096
    → MayPut id v d × (true ≡ is_none (member_named id d.entries))
may_add id v es d is valid id_is none few =
    let absent : member_named id d.entries ≡ None = ap (λ (ms : Entries). member_named id ms) (sym is) ∙ none_kept id es (sym none) in
    let count : length d.entries ≡ length es = ap (λ (ms : Entries). length ms) (sym is) ∙ kept_length es in
    (record { valid = valid; id_is = id_is; room = inr (omega arith) }, none_by (member_named id d.entries) absent)

-- none is under the id, and as many are there as may be
pub is_full : (id : List ℕ) (v : Json) (es : Kept) (d : Contents) → kept_entries es ≡ d.entries → IsValid v → id_of v ≡ Some (string id) → false ≡ is_some (found_in id es) → 4096 ≤ length es
    → HasPutFault Full id v d
is_full id v es d is valid id_is none many =
    let absent : member_named id d.entries ≡ None = ap (λ (ms : Entries). member_named id ms) (sym is) ∙ none_kept id es (sym none) in
    let count : length d.entries ≡ length es = ap (λ (ms : Entries). length ms) (sym is) ∙ kept_length es in
    (valid, id_is, absent, omega arith)
