-- The steps of a directory of Thing Descriptions (after the Things API of WoT Discovery, in outline). Each says what a
-- call answers, and when, and what is there afterwards.
use Rattle.std.specs.Prelude.{◌≡◌, ◌≢◌, ◌≤◌, ◌<◌, ℕ, ◌+◌, ◌-◌, ◌^◌, ◌==◌, ◌++◌, ◌⊎◌, List, Option, None, Some, IsSome, Bool, is_none, slice_get, [], map, take, drop, decimal, codes, if◌then◌else◌, length}
use Rattle.wot_json.specs.Tree.{Json, string, array, elements_of}
use Rattle.wot_json.specs.Json.{text_of}
use Rattle.wot_json.specs.Lookup.{member_named}
use Rattle.wot_json.specs.Merge.{with_member, without_member, members_under, merge}
use Rattle.wot_terms.specs.Faults.{faults_of, IsValid}
use Rattle.wot_terms.specs.declared.fault.TdFault.{TdFault}
use Rattle.wot_directory.specs.Contents.{Contents, Entries, most_entries}
use Rattle.wot_directory.specs.declared.fault.DirFault.{DirFault}
use Rattle.wot_directory.specs.declared.fault.DirFault.TheVariants.{NotFound, Invalid, IdDiffers, HasId, Full, NoMemory}

-- ---- words

-- the `id` of a description (TD 1.1, section 5.3.1.1), where it has one
abbrev pub id_of : Json → Option Json
id_of description = member_named (codes "id") (members_under description)

-- the first fault of a description by the table of conditions
abbrev pub IsFirstFault : TdFault → Json → Type 0
IsFirstFault fault description = slice_get (faults_of description) 0 ≡ Some (fault.number, fault.pointer)

-- the fault of a description that is not valid, or out of memory
abbrev pub IsInvalid : DirFault → Json → Type 0
IsInvalid (Invalid fault) description = IsFirstFault fault description
IsInvalid NoMemory description = Unit {0}
IsInvalid NotFound description = ⊥
IsInvalid IdDiffers description = ⊥
IsInvalid HasId description = ⊥
IsInvalid Full description = ⊥

-- there is room for a description under this id: one is there, or there are fewer than may be
abbrev pub HasRoom : List ℕ → Entries → Type 0
HasRoom id entries = IsSome (member_named id entries) ⊎ (length entries < most_entries)

-- the directory with this description under this id
abbrev pub with_entry : List ℕ → Json → Contents → Contents
with_entry id description d = record d { entries = with_member id description d.entries }

-- the directory without what is under this id
abbrev pub without_entry : List ℕ → Contents → Contents
without_entry id d = record d { entries = without_member id d.entries }

-- ---- a directory without descriptions

abbrev pub empty_directory : Contents
empty_directory = record { entries = []; next = 1 }

-- ---- `put`: a description under the id that it has

-- the cause for which a description is not put: the first of these that holds
abbrev pub HasPutFault : DirFault → List ℕ → Json → Contents → Type 0
HasPutFault (Invalid fault) id description d = IsFirstFault fault description
HasPutFault IdDiffers id description d = IsValid description × (id_of description ≢ Some (string id))
HasPutFault Full id description d =
    IsValid description × (id_of description ≡ Some (string id)) × (member_named id d.entries ≡ None) × (most_entries ≤ length d.entries)
HasPutFault NoMemory id description d = Unit {0}
HasPutFault NotFound id description d = ⊥
HasPutFault HasId id description d = ⊥

-- a description that may be put
pub record MayPut (id : List ℕ) (description : Json) (d : Contents) : Type 0 where
  pub valid : IsValid description
  pub id_is : id_of description ≡ Some (string id)
  pub room : HasRoom id d.entries

-- It was put, and the answer says whether it is a new one.
pub record Puts (id : List ℕ) (description : Json) (d : Contents) (is_new : Bool) (after : Contents) : Type 0 where
  pub may : MayPut id description d
  pub new : is_new ≡ is_none (member_named id d.entries)
  pub after_is : after ≡ with_entry id description d

-- ---- `create`: a description under an id that the directory gives

-- the id of a number
abbrev pub local_id : ℕ → List ℕ
local_id number = codes "local:" ++ decimal number

-- the greatest number of an id
abbrev pub last_number : ℕ
last_number = 2 ^ 64 - 1

-- a description is under the id of this number
abbrev pub IsUsed : ℕ → Entries → Type 0
IsUsed number entries = IsSome (member_named (local_id number) entries)

-- the least number that is not used, of those from a first to the greatest
pub record IsLeastUnused (first : ℕ) (entries : Entries) (number : ℕ) : Type 0 where
  pub from_first : first ≤ number
  pub to_last : number ≤ last_number
  pub unused : member_named (local_id number) entries ≡ None
  pub others : (other : ℕ) → first ≤ other → other < number → IsUsed other entries

-- all numbers from a first to the greatest are used
abbrev pub AreAllUsed : ℕ → Entries → Type 0
AreAllUsed first entries = (number : ℕ) → first ≤ number → number ≤ last_number → IsUsed number entries

-- The number of the next id: the least from the counter on that is not used, or where none is left there the least from
-- 1 on. That search may go past the counter, from which there is none anyway.
abbrev pub IsNextNumber : Contents → ℕ → Type 0
IsNextNumber d number = IsLeastUnused d.next d.entries number ⊎ (AreAllUsed d.next d.entries × IsLeastUnused 1 d.entries number)

-- the counter after an id of this number
abbrev pub number_after : ℕ → ℕ
number_after number = if number == last_number then 1 else number + 1

-- the directory whose search for the next id begins after this number
abbrev pub counted_on : ℕ → Contents → Contents
counted_on number d = record d { next = number_after number }

-- the cause for which no description is created: the first of these that holds
abbrev pub HasCreateFault : DirFault → Json → Contents → Type 0
HasCreateFault HasId description d = IsSome (id_of description)
HasCreateFault (Invalid fault) description d = (id_of description ≡ None) × IsFirstFault fault description
HasCreateFault Full description d = (id_of description ≡ None) × IsValid description × (most_entries ≤ length d.entries)
HasCreateFault NoMemory description d = Unit {0}
HasCreateFault NotFound description d = ⊥
HasCreateFault IdDiffers description d = ⊥

-- a description that may be created
pub record MayCreate (description : Json) (d : Contents) : Type 0 where
  pub nameless : id_of description ≡ None
  pub valid : IsValid description
  pub room : length d.entries < most_entries

-- It was created under this id, as it was handed in: it gets no `id`, because its id here is local.
pub record Creates (description : Json) (d : Contents) (id : List ℕ) (after : Contents) : Type 0 where
  pub may : MayCreate description d
  pub number : ℕ
  pub number_is : IsNextNumber d number
  pub id_is : id ≡ local_id number
  pub after_is : after ≡ record { entries = with_member id description d.entries; next = number_after number }

-- ---- `patch`: a description as a merge patch changes it (RFC 7396)

-- A patch makes this of a description: it is valid, and has the same `id`, or none where there was none, because its
-- place in the directory is that id.
pub record IsPatched (kept patch description : Json) : Type 0 where
  pub merged : description ≡ merge kept patch
  pub valid : IsValid description
  pub same_id : id_of description ≡ id_of kept

-- the cause for which a patch makes nothing of a description: the first of these that holds
abbrev pub HasMergeFault : DirFault → Json → Json → Type 0
HasMergeFault (Invalid fault) kept patch = IsFirstFault fault (merge kept patch)
HasMergeFault IdDiffers kept patch = IsValid (merge kept patch) × (id_of (merge kept patch) ≢ id_of kept)
HasMergeFault NoMemory kept patch = Unit {0}
HasMergeFault NotFound kept patch = ⊥
HasMergeFault HasId kept patch = ⊥
HasMergeFault Full kept patch = ⊥

-- there is a description under this id, of which this is true
abbrev pub HoldsUnder : List ℕ → Contents → (Json → Type 0) → Type 0
HoldsUnder id d P = (kept : Json) × (member_named id d.entries ≡ Some kept) × P kept

-- the cause for which a description is not patched: the first of these that holds
abbrev pub HasPatchFault : DirFault → List ℕ → Json → Contents → Type 0
HasPatchFault NotFound id patch d = member_named id d.entries ≡ None
HasPatchFault (Invalid fault) id patch d = HoldsUnder id d (λ kept. HasMergeFault (Invalid fault) kept patch)
HasPatchFault IdDiffers id patch d = HoldsUnder id d (λ kept. HasMergeFault IdDiffers kept patch)
HasPatchFault NoMemory id patch d = Unit {0}
HasPatchFault HasId id patch d = ⊥
HasPatchFault Full id patch d = ⊥

-- It was patched.
abbrev pub Patches : List ℕ → Json → Contents → Contents → Type 0
Patches id patch d after = (description : Json) × HoldsUnder id d (λ kept. IsPatched kept patch description) × (after ≡ with_entry id description d)

-- ---- replacement: a description in place of another, judged as what a patch makes of it

-- A description that may take the place of another: it is valid, and has the same `id`, or none where there was none.
pub record IsReplacement (kept description : Json) : Type 0 where
  pub valid : IsValid description
  pub same_id : id_of description ≡ id_of kept

-- the cause for which it may not: the first of these that holds
abbrev pub HasReplacementFault : DirFault → Json → Json → Type 0
HasReplacementFault (Invalid fault) kept description = IsFirstFault fault description
HasReplacementFault IdDiffers kept description = IsValid description × (id_of description ≢ id_of kept)
HasReplacementFault NoMemory kept description = Unit {0}
HasReplacementFault NotFound kept description = ⊥
HasReplacementFault HasId kept description = ⊥
HasReplacementFault Full kept description = ⊥

-- a description that may take the place of the one under this id
abbrev pub MayReplace : List ℕ → Json → Contents → Type 0
MayReplace id description d = HoldsUnder id d (λ kept. IsReplacement kept description)

-- the cause for which it may not: the first of these that holds
abbrev pub HasReplaceFault : DirFault → List ℕ → Json → Contents → Type 0
HasReplaceFault NotFound id description d = member_named id d.entries ≡ None
HasReplaceFault (Invalid fault) id description d = HoldsUnder id d (λ kept. HasReplacementFault (Invalid fault) kept description)
HasReplaceFault IdDiffers id description d = HoldsUnder id d (λ kept. HasReplacementFault IdDiffers kept description)
HasReplaceFault NoMemory id description d = Unit {0}
HasReplaceFault HasId id description d = ⊥
HasReplaceFault Full id description d = ⊥

-- It took that place.
pub record Replaces (id : List ℕ) (description : Json) (d after : Contents) : Type 0 where
  pub may : MayReplace id description d
  pub after_is : after ≡ with_entry id description d

-- ---- `remove`

-- the cause for which nothing is removed
abbrev pub HasRemoveFault : DirFault → List ℕ → Contents → Type 0
HasRemoveFault NotFound id d = member_named id d.entries ≡ None
HasRemoveFault (Invalid fault) id d = ⊥
HasRemoveFault IdDiffers id d = ⊥
HasRemoveFault HasId id d = ⊥
HasRemoveFault Full id d = ⊥
HasRemoveFault NoMemory id d = ⊥

-- It was removed.
pub record Removes (id : List ℕ) (d after : Contents) : Type 0 where
  pub found : IsSome (member_named id d.entries)
  pub after_is : after ≡ without_entry id d

-- ---- `list`

-- the descriptions in the order of their ids, without the first n, and at most m
abbrev pub listed : ℕ → ℕ → Entries → List Json
listed offset limit entries = map (λ entry. entry.1) (take limit (drop offset entries))

-- their text
abbrev pub list_text : ℕ → ℕ → Entries → List ℕ
list_text offset limit entries = text_of (array (elements_of (listed offset limit entries)))
