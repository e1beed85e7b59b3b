-- The description under an id, by the answer of the map.
use Rattle.std.proofs.Common.{◌≡◌, ℕ, List, refl, sym, ap, subst, rules, ◌∙◌, true, false}
use Rattle.std.specs.Prelude.{String, string_bytes, Option, Some, None, Result, Ok, Err, IfOk, IfErr, OnOk, option_map, is_some, IsSome}
use Rattle.std.specs.declared.alloc.Global.{Global}
use Rattle.wot_json.specs.Tree.{Json}
use Rattle.wot_json.specs.Meaning.{json_of}
use Rattle.wot_json.specs.Lookup.{member_named}
use Rattle.wot_json.specs.declared.tree.Tree.{Tree}
use Rattle.wot_directory.specs.Contents.{Contents, Entries}
use Rattle.wot_directory.specs.Kept.{kept_entries}
use Rattle.wot_directory.specs.Directory.{local_id, IsUsed, IsPatched, HasMergeFault, HasPatchFault, HoldsUnder, IsReplacement, MayReplace, HasReplacementFault, HasReplaceFault}
use Rattle.wot_directory.specs.declared.fault.DirFault.{DirFault}
use Rattle.wot_directory.specs.declared.fault.DirFault.TheVariants.{NotFound, Invalid, IdDiffers, HasId, Full, NoMemory}
use Rattle.wot_directory.proofs.Entries.{Kept, found_in, kept_found, none_kept, some_kept}

-- an answer of the map is so in the directory
pub found_under : (id : List ℕ) (es : Kept) (d : Contents) (r : Option Tree) → kept_entries es ≡ d.entries → r ≡ found_in id es → member_named id d.entries ≡ option_map json_of r
found_under id es d r is found =
    ap (λ (ms : Entries). member_named id ms) (sym is) ∙ sym (kept_found id es) ∙ ap (λ (o : Option Tree). option_map json_of o) (sym found)

none_mapped : (r : Option Tree) → is_some r ≡ false → option_map json_of r ≡ None
none_mapped None is = refl
none_mapped (Some t) is = absurd (cc (is))

some_mapped : (r : Option Tree) → is_some r ≡ true → IsSome (option_map json_of r)
some_mapped None is = absurd (cc (is))
some_mapped (Some t) is = refl

-- nothing came out, so there is none; something did, so there was one
pub none_under : (id : List ℕ) (es : Kept) (d : Contents) (r : Option Tree) → kept_entries es ≡ d.entries → r ≡ found_in id es → is_some r ≡ false → member_named id d.entries ≡ None
none_under id es d r is found none = found_under id es d r is found ∙ none_mapped r none

pub some_under : (id : List ℕ) (es : Kept) (d : Contents) (r : Option Tree) → kept_entries es ≡ d.entries → r ≡ found_in id es → is_some r ≡ true → IsSome (member_named id d.entries)
some_under id es d r is found some = subst (λ (o : Option Json). IsSome o) (sym (found_under id es d r is found)) (some_mapped r some)

-- ---- patches

pub patched_under : {E : Type 0} (r : Result Tree E) (id : List ℕ) (d : Contents) (kept patch : Json) → member_named id d.entries ≡ Some kept → IfOk r (λ t. IsPatched kept patch (json_of t)) → IfOk r (λ t. HoldsUnder id d (λ k. IsPatched k patch (json_of t)))
patched_under (Ok t) id d kept patch found ok = (kept, found, ok)
patched_under (Err e) id d kept patch found ok = search rules

fault_under : (e : DirFault) (id : List ℕ) (d : Contents) (kept patch : Json) → member_named id d.entries ≡ Some kept → HasMergeFault e kept patch → HasPatchFault e id patch d
fault_under (Invalid f) id d kept patch found fault = (kept, found, fault)
fault_under IdDiffers id d kept patch found fault = (kept, found, fault)
fault_under NoMemory id d kept patch found fault = tt
fault_under NotFound id d kept patch found fault = absurd fault
fault_under HasId id d kept patch found fault = absurd fault
fault_under Full id d kept patch found fault = absurd fault

pub refused_under : (r : Result Tree DirFault) (id : List ℕ) (d : Contents) (kept patch : Json) → member_named id d.entries ≡ Some kept → IfErr r (λ e. HasMergeFault e kept patch) → IfErr r (λ e. HasPatchFault e id patch d)
refused_under (Ok t) id d kept patch found fault = search rules
refused_under (Err e) id d kept patch found fault = fault_under e id d kept patch found fault

-- the map has nothing at a key, so there is none under its bytes
pub absent_by : (id : List ℕ) (key : String Global) (es : Kept) (d : Contents) → string_bytes key ≡ id → kept_entries es ≡ d.entries → found_in (string_bytes key) es ≡ None → member_named id d.entries ≡ None
absent_by id key es d key_is is absent = found_under id es d None is (sym (subst (λ (x : List ℕ). found_in x es ≡ None) key_is absent))

-- ---- replacements

pub replacement_under : {T E : Type 0} (r : Result T E) (id : List ℕ) (d : Contents) (kept description : Json) → member_named id d.entries ≡ Some kept → OnOk r (IsReplacement kept description) → OnOk r (MayReplace id description d)
replacement_under (Ok t) id d kept description found ok = (kept, found, ok)
replacement_under (Err e) id d kept description found ok = search rules

replacement_fault_under : (e : DirFault) (id : List ℕ) (d : Contents) (kept description : Json) → member_named id d.entries ≡ Some kept → HasReplacementFault e kept description → HasReplaceFault e id description d
replacement_fault_under (Invalid f) id d kept description found fault = (kept, found, fault)
replacement_fault_under IdDiffers id d kept description found fault = (kept, found, fault)
replacement_fault_under NoMemory id d kept description found fault = tt
replacement_fault_under NotFound id d kept description found fault = absurd fault
replacement_fault_under HasId id d kept description found fault = absurd fault
replacement_fault_under Full id d kept description found fault = absurd fault

pub replacement_refused_under : {T : Type 0} (r : Result T DirFault) (id : List ℕ) (d : Contents) (kept description : Json) → member_named id d.entries ≡ Some kept → IfErr r (λ e. HasReplacementFault e kept description) → IfErr r (λ e. HasReplaceFault e id description d)
replacement_refused_under (Ok t) id d kept description found fault = search rules
replacement_refused_under (Err e) id d kept description found fault = replacement_fault_under e id d kept description found fault

-- ---- numbers

pub unused_number : (es : Kept) (id : List ℕ) (number : ℕ) → id ≡ local_id number → false ≡ is_some (found_in id es) → member_named (local_id number) (kept_entries es) ≡ None
unused_number es id number is none = ap (λ (x : List ℕ). member_named x (kept_entries es)) (sym is) ∙ none_kept id es (sym none)

pub used_number : (es : Kept) (id : List ℕ) (number : ℕ) → id ≡ local_id number → true ≡ is_some (found_in id es) → IsUsed number (kept_entries es)
used_number es id number is some = subst (λ (x : List ℕ). IsSome (member_named x (kept_entries es))) is (some_kept id es (sym some))
