-- The steps of a directory whose entries have times (WoT Discovery, registration information). Entries that are over at
-- the moment of a call are taken away before the call is judged, also where it is refused then: so each step is said of
-- those that stand.
use Rattle.std.specs.Prelude.{◌≡◌, ◌≤◌, ℕ, List, [], Option, Some, None, IsSome, Bool, map, option_map, is_some, refl}
use Rattle.std.specs.Coded.{Coded, code_by, coded×, coded_ℕ}
use Rattle.wot_json.specs.Tree.{Json, AreOrdered}
use Rattle.wot_json.specs.Lookup.{member_named}
use Rattle.wot_json.specs.Merge.{merge}
use Rattle.wot_directory.specs.Contents.{Contents, contents_code}
use Rattle.wot_directory.specs.Directory.{empty_directory, without_entry, Puts, HasPutFault, Creates, HasCreateFault, HoldsUnder, Replaces, HasReplaceFault, HasRemoveFault, list_text}
use Rattle.wot_directory.specs.declared.fault.DirFault.{DirFault}
use Rattle.wot_directory.specs.declared.fault.DirFault.TheVariants.{NotFound, Invalid, IdDiffers, HasId, Full, NoMemory}
use Rattle.wot_registry.specs.declared.fault.RegFault.{RegFault}
use Rattle.wot_registry.specs.declared.fault.RegFault.TheVariants.{Ttl, Directory}
use Rattle.wot_registry.specs.Dates.{last_millisecond}
use Rattle.wot_registry.specs.Times.{Times, times_by_id_code, times_of, with_times, without_times, standing_entries, changed}
use Rattle.wot_registry.specs.Registration.{asked_ttl, without_registration, shown, with_ttl}

-- ---- the state

-- the descriptions, which have no registration information, the times of each, and when the clock began, in
-- milliseconds after the start of 1970
pub record Registered : Type 0 where
  pub contents : Contents
  pub times : List (List ℕ × Times)
  pub epoch : ℕ

-- its code, as the kit asks in an `impl Model`: the tuple of its fields
abbrev pub registered_code : Coded Registered
registered_code =
    code_by (Contents × (List (List ℕ × Times) × ℕ)) (coded× contents_code (coded× times_by_id_code coded_ℕ)) (λ r. (r.contents, (r.times, r.epoch)))
    (λ p. record { contents = p.0; times = p.1.0; epoch = p.1.1 }) (λ _. refl)

abbrev pub empty_registry : ℕ → Registered
empty_registry epoch = record { contents = empty_directory; times = []; epoch = epoch }

-- its invariant: each description has times and nothing else has, the descriptions are in the byte order of their ids,
-- and the clock began before the year 10000
pub record IsRegistry (r : Registered) : Type 0 where
  pub timed : (id : List ℕ) → is_some (times_of id r.times) ≡ is_some (member_named id r.contents.entries)
  pub ordered : AreOrdered r.contents.entries
  pub begun : r.epoch ≤ last_millisecond

-- ---- what stands at a moment

abbrev pub standing_contents : ℕ → List (List ℕ × Times) → Contents → Contents
standing_contents now ts d = record d { entries = standing_entries now ts d.entries }

abbrev pub standing : ℕ → Registered → Registered
standing now r = record r { contents = standing_contents now r.times r.contents; times = standing_entries now r.times r.times }

-- ---- changes

-- with these descriptions, of which that of an id is changed now and has this time to live
abbrev pub changed_to : Contents → List ℕ → ℕ → Option ℕ → Registered → Registered
changed_to contents id now ttl r = record r { contents = contents; times = with_times id (changed now ttl (times_of id r.times)) r.times }

-- without what is under an id
abbrev pub without_id : List ℕ → Registered → Registered
without_id id r = record r { contents = without_entry id r.contents; times = without_times id r.times }

-- ---- `put`

-- a description was put under the id that it has, without its registration information, and with the time to live that
-- it asks for
pub record PutsAt (id : List ℕ) (description : Json) (now : ℕ) (r : Registered) (is_new : Bool) (after : Registered) : Type 0 where
  pub ttl : Option ℕ
  pub asked : asked_ttl description ≡ Some ttl
  pub contents : Contents
  pub puts : Puts id (without_registration description) r.contents is_new contents
  pub after_is : after ≡ changed_to contents id now ttl r

-- the cause for which it was not: the first of these that holds
abbrev pub IsPutFault : RegFault → List ℕ → Json → Registered → Type 0
IsPutFault Ttl id description r = asked_ttl description ≡ None
IsPutFault (Directory fault) id description r =
    IsSome (asked_ttl description) × HasPutFault fault id (without_registration description) r.contents

-- ---- `create`

-- a description was put under an id that the directory gave
pub record CreatesAt (description : Json) (now : ℕ) (r : Registered) (id : List ℕ) (after : Registered) : Type 0 where
  pub ttl : Option ℕ
  pub asked : asked_ttl description ≡ Some ttl
  pub contents : Contents
  pub creates : Creates (without_registration description) r.contents id contents
  pub after_is : after ≡ changed_to contents id now ttl r

-- the cause for which it was not: the first of these that holds
abbrev pub IsCreateFault : RegFault → Json → Registered → Type 0
IsCreateFault Ttl description r = asked_ttl description ≡ None
IsCreateFault (Directory fault) description r =
    IsSome (asked_ttl description) × HasCreateFault fault (without_registration description) r.contents

-- ---- `patch`

-- the time to live of the entry of an id
abbrev pub own_ttl : Option Times → Option ℕ
own_ttl None = None
own_ttl (Some t) = t.ttl

-- the description under an id, with its time to live, as a merge patch changes it (RFC 7396), of which this is true
abbrev pub HoldsPatched : List ℕ → Json → Registered → (Json → Type 0) → Type 0
HoldsPatched id patch r P = HoldsUnder id r.contents (λ kept. P (merge (with_ttl (own_ttl (times_of id r.times)) kept) patch))

-- a description took the place of that under an id, without its registration information, and with the time to live
-- that it asks for
pub record ReplacesAt (id : List ℕ) (description : Json) (now : ℕ) (r after : Registered) : Type 0 where
  pub ttl : Option ℕ
  pub asked : asked_ttl description ≡ Some ttl
  pub contents : Contents
  pub replaces : Replaces id (without_registration description) r.contents contents
  pub after_is : after ≡ changed_to contents id now ttl r

-- it was patched
abbrev pub PatchesAt : List ℕ → Json → ℕ → Registered → Registered → Type 0
PatchesAt id patch now r after = HoldsPatched id patch r (λ description. ReplacesAt id description now r after)

-- the cause for which a description does not take that place, where one is there
abbrev pub IsReplaceFault : DirFault → List ℕ → Json → Registered → Type 0
IsReplaceFault fault id description r =
    IsSome (asked_ttl description) × HasReplaceFault fault id (without_registration description) r.contents

-- the cause for which it was not patched: the first of these that holds
abbrev pub IsPatchFault : RegFault → List ℕ → Json → Registered → Type 0
IsPatchFault Ttl id patch r = HoldsPatched id patch r (λ description. asked_ttl description ≡ None)
IsPatchFault (Directory NotFound) id patch r = member_named id r.contents.entries ≡ None
IsPatchFault (Directory (Invalid fault)) id patch r = HoldsPatched id patch r (λ description. IsReplaceFault (Invalid fault) id description r)
IsPatchFault (Directory IdDiffers) id patch r = HoldsPatched id patch r (λ description. IsReplaceFault IdDiffers id description r)
IsPatchFault (Directory NoMemory) id patch r = Unit {0}
IsPatchFault (Directory HasId) id patch r = ⊥
IsPatchFault (Directory Full) id patch r = ⊥

-- ---- `remove`

-- an entry was removed
pub record RemovesAt (id : List ℕ) (r after : Registered) : Type 0 where
  pub found : IsSome (member_named id r.contents.entries)
  pub after_is : after ≡ without_id id r

-- the cause for which it was not
abbrev pub IsRemoveFault : RegFault → List ℕ → Registered → Type 0
IsRemoveFault Ttl id r = ⊥
IsRemoveFault (Directory fault) id r = HasRemoveFault fault id r.contents

-- ---- what is given out

-- the description under an id, with its registration information
abbrev pub shown_under : List ℕ → Registered → Option Json
shown_under id r = option_map (shown r.epoch (times_of id r.times)) (member_named id r.contents.entries)

-- all of them, in the byte order of their ids
abbrev pub shown_entries : Registered → List (List ℕ × Json)
shown_entries r = map (λ e. (e.0, shown r.epoch (times_of e.0 r.times) e.1)) r.contents.entries

-- the text of the list of them, without the first n, and at most m
abbrev pub shown_list : ℕ → ℕ → Registered → List ℕ
shown_list offset limit r = list_text offset limit (shown_entries r)
