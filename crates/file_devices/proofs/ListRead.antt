-- Reading the entries of a list, one after another.
use Rattle.std.proofs.Common.{◌≡◌, ℕ, ◌+◌, ◌<◌, ◌≤◌, List, [], ◌∷◌, ◌++◌, length, drop, get_or, sym, ap, subst, ◌∙◌}
use Rattle.std.specs.Prelude.{Result, Ok, Err}
use Rattle.std.proofs.lemmas.List.{drop_all, at_drop_more}
use Rattle.wot_json.specs.Tree.{Json, elements_of}
use Rattle.wot_json.specs.Lookup.{element_list}
use Rattle.wot_json.proofs.EqualTrees.{listed_lem}
use Rattle.wot_json.specs.Meaning.{json_of, json_items}
use Rattle.wot_json.specs.Places.{element_step_text}
use Rattle.wot_json.specs.declared.tree.Tree.{Tree}
use Rattle.wot_json.specs.declared.tree.Tree.TheVariants as json
use Rattle.file_devices.specs.declared.entry.DeviceEntry.{DeviceEntry}
use Rattle.file_devices.specs.declared.entries.EntriesFault.{EntriesFault}
use Rattle.file_devices.specs.declared.entries.EntriesFault.TheVariants as fault
use Rattle.file_devices.specs.Entries.{entry_of, entry_said, ReadsFrom, ends, wrong, says, entries_memory, ReadsEntries, is_list}

-- however the entries that are left come out after these, all come out so
abbrev pub Leads : List Tree → ℕ → List DeviceEntry → Type 0
Leads items index before = (r : Result (List DeviceEntry) EntriesFault) → ReadsFrom index before (json_items (drop index items)) r → ReadsFrom 0 [] (json_items items) r

left : (items : List Tree) (index : ℕ) (item : Tree) → index < length items → item ≡ get_or items index item
    → json_items (drop index items) ≡ json_of item ∷ json_items (drop (index + 1) items)
left items index item within is =
    at_drop_more json_items items index item within ∙ ap (λ (t : Tree). json_of t ∷ json_items (drop (index + 1) items)) (sym is)

pub leads_more : (items : List Tree) (index : ℕ) (before grown : List DeviceEntry) (item : Tree) (e : DeviceEntry) → index < length items → item ≡ get_or items index item
    → entry_of before (json_of item) ≡ Ok (entry_said e) → grown ≡ before ++ e ∷ [] → Leads items index before → Leads items (index + 1) grown
leads_more items index before grown item e within is said more leads r rest =
    leads r (subst (λ vs. ReadsFrom index before vs r) (sym (left items index item within is))
    (says index before (json_of item) _ e r said (subst (λ es. ReadsFrom (index + 1) es (json_items (drop (index + 1) items)) r) more rest)))

pub leads_wrong : (items : List Tree) (index : ℕ) (before : List DeviceEntry) (item : Tree) (pointer : List ℕ) → index < length items → item ≡ get_or items index item
    → entry_of before (json_of item) ≡ Err pointer → Leads items index before → (place : List ℕ) → place ≡ element_step_text index ++ pointer
    → ReadsFrom 0 [] (json_items items) (Err (fault.At place))
leads_wrong items index before item pointer within is said leads place at =
    subst (λ p. ReadsFrom 0 [] (json_items items) (Err (fault.At p))) (sym at)
    (leads (Err (fault.At (element_step_text index ++ pointer))) (subst (λ vs. ReadsFrom index before vs (Err (fault.At (element_step_text index ++ pointer)))) (sym (left items index item within is)) (wrong index before (json_of item) _ pointer said)))

pub leads_end : (items : List Tree) (index : ℕ) (before : List DeviceEntry) → length items ≤ index → Leads items index before → ReadsFrom 0 [] (json_items items) (Ok before)
leads_end items index before past leads =
    leads (Ok before) (subst (λ vs. ReadsFrom index before vs (Ok before)) (sym (ap json_items (drop_all index items past))) (ends index before))

pub runs_out : (items : List Tree) (r : Result (List DeviceEntry) EntriesFault) → r ≡ Err fault.NoMemory → ReadsFrom 0 [] (json_items items) r
runs_out items r out = subst (ReadsFrom 0 [] (json_items items)) (sym out) (entries_memory 0 [] (json_items items))

pub list_read : (tree : Tree) (items : List Json) (given : List Tree) (r : Result (List DeviceEntry) EntriesFault) → tree ≡ json.List items → json_items given ≡ items
    → ReadsFrom 0 [] (json_items given) r → ReadsEntries (json_of tree) r
list_read tree items given r is same reads =
    let listed : ReadsFrom 0 [] (element_list (elements_of items)) r = subst (λ vs. ReadsFrom 0 [] vs r) (same ∙ sym (listed_lem items)) reads in
    is_list (elements_of items) (ap json_of is) listed
