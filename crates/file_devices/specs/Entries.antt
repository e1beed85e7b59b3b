-- The list of devices: for each device the slot of its handler, and its file and how the file's content writes a value,
-- or the value with which it begins in memory. Its format is the product's own; docs/DEVICES.md retells it.
--
--     [{"slot": 0, "property": "/sys/class/leds/lamp/brightness"}, {"slot": 48, "event": "door", "as": "text"},
--      {"slot": 40, "action": "target", "status": "status", "cancel": "stop"}, {"slot": 3, "value": 21}]
use Rattle.std.specs.Prelude.{◌≡◌, ℕ, ◌+◌, max, pos, ◌==◌, nat_le, List, [], ◌∷◌, ◌++◌, codes, length, Option, Some, None, option_map, option_and_then, Result, Ok, Err, if◌then◌else◌}
use Rattle.std.specs.List.{list_any}
use Rattle.std.specs.Option.{option_map_or}
use Rattle.std.specs.Str.{bytes_eq}
use Rattle.wot_json.specs.Json.{text_of}
use Rattle.wot_json.specs.Tree.{Json, integer, string, array}
use Rattle.wot_json.specs.Meaning.{json_of}
use Rattle.wot_json.specs.Lookup.{element_list, member_named}
use Rattle.wot_json.specs.Merge.{members_under}
use Rattle.wot_json.specs.Places.{element_step_text}
use Rattle.wot_terms.specs.declared.kind.Kind.{Kind}
use Rattle.wot_terms.specs.declared.kind.Kind.TheVariants as kind
use Rattle.file_devices.specs.declared.notation.Notation.{Notation}
use Rattle.file_devices.specs.declared.notation.Notation.TheVariants as notation
use Rattle.file_devices.specs.declared.entry.DeviceEntry.{DeviceEntry}
use Rattle.file_devices.specs.declared.entry.EntryDevice.{EntryDevice}
use Rattle.file_devices.specs.declared.entry.EntryDevice.TheVariants as device
use Rattle.file_devices.specs.declared.entry.Named.{Named}
use Rattle.file_devices.specs.declared.entry.Named.TheVariants as named
use Rattle.file_devices.specs.declared.entries.EntriesFault.{EntriesFault}
use Rattle.file_devices.specs.declared.entries.EntriesFault.TheVariants as fault
use Rattle.file_devices.specs.Values.{longest}

-- ---- what an entry says

-- A device: the kind of its affordance, the path of its file and the notation of the file's content; an action that runs
-- on, with the paths of its file, of its status and of the file that cancels it, and the notation; or the value with which
-- it begins in memory.
pub data DeviceSaid : Type 0 where
  behind_file : Kind → List ℕ → Notation → DeviceSaid
  runs_on : List ℕ → List ℕ → Option (List ℕ) → Notation → DeviceSaid
  in_memory : Json → DeviceSaid

-- the slot of its handler, and the device
pub record EntrySaid : Type 0 where
  pub slot : ℕ
  pub device : DeviceSaid

-- what the code's entry says
abbrev pub device_said : EntryDevice → DeviceSaid
device_said (device.File f) = behind_file f.kind f.path f.notation
device_said (device.Running r) = runs_on r.action r.status r.cancel r.notation
device_said (device.Memory v) = in_memory (json_of v)

abbrev pub entry_said : DeviceEntry → EntrySaid
entry_said e = record { slot = e.slot; device = device_said e.device }

-- ---- members

-- the member of this name
abbrev pub member_in : Json → List ℕ → Option Json
member_in v name = member_named name (members_under v)

-- a path: a text that isn't empty
abbrev pub path_in : Json → Option (List ℕ)
path_in (string (b ∷ bytes)) = Some (b ∷ bytes)
path_in v = None

-- That of a member that may be missing: None where it is no path, and Some None where it isn't there.
abbrev pub optional_path : Option Json → Option (Option (List ℕ))
optional_path None = Some None
optional_path (Some v) = option_map Some (path_in v)

-- the notation of a content
abbrev pub notation_in : Json → Option Notation
notation_in (string text) =
    if bytes_eq text (codes "json") then Some notation.Json
    else if bytes_eq text (codes "text") then Some notation.Text
    else None
notation_in v = None

-- where nothing is said of it, it is as JSON
abbrev pub notation_of : Option Json → Option Notation
notation_of None = Some notation.Json
notation_of (Some v) = notation_in v

-- the number of a slot
abbrev pub slot_in : Json → Option ℕ
slot_in (integer (pos n)) = if nat_le n 65535 then Some n else None
slot_in v = None

-- that of one which no earlier entry has
abbrev pub free_slot : List DeviceEntry → Option ℕ → Option ℕ
free_slot before None = None
free_slot before (Some n) = if list_any (λ e. e.slot == n) before then None else Some n

-- a value whose JSON text isn't too long
abbrev pub short_value : Json → Option Json
short_value v = if nat_le (length (text_of v)) longest then Some v else None

-- the one device that an entry names, by whether it has the members `property`, `action`, `event` and `value`
abbrev pub device_named : Option Json → Option Json → Option Json → Option Json → Option Named
device_named (Some p) None None None = Some (named.File kind.Property)
device_named None (Some a) None None = Some (named.File kind.Action)
device_named None None (Some e) None = Some (named.File kind.Event)
device_named None None None (Some v) = Some named.Memory
device_named p a e v = None

abbrev pub named_by : Json → Option Named
named_by v = device_named (member_in v (codes "property")) (member_in v (codes "action")) (member_in v (codes "event")) (member_in v (codes "value"))

abbrev pub member_of : Kind → List ℕ
member_of kind.Property = codes "property"
member_of kind.Action = codes "action"
member_of kind.Event = codes "event"

-- ---- entries

-- What an entry says, or the pointer to the first of its members that is wrong, in the order of their names: action, as,
-- cancel, event, property, slot, status, value. A `status` stands only beside an action, and a `cancel` beside a `status`.

-- one of an action without a status, with this path and notation
abbrev pub at_once_by : List ℕ → Notation → Option Json → Option ℕ → Result EntrySaid (List ℕ)
at_once_by path way (Some cancel) slot = Err (codes "/cancel")
at_once_by path way None None = Err (codes "/slot")
at_once_by path way None (Some slot) = Ok (record { slot = slot; device = behind_file kind.Action path way })

-- one of an action with a status
abbrev pub running_by : List ℕ → Notation → Option (Option (List ℕ)) → Option ℕ → Option (List ℕ) → Result EntrySaid (List ℕ)
running_by path way None slot status = Err (codes "/cancel")
running_by path way (Some cancel) None status = Err (codes "/slot")
running_by path way (Some cancel) (Some slot) None = Err (codes "/status")
running_by path way (Some cancel) (Some slot) (Some status) = Ok (record { slot = slot; device = runs_on path status cancel way })

abbrev pub action_by : Option (List ℕ) → Option Notation → Option Json → Option ℕ → Option Json → Result EntrySaid (List ℕ)
action_by None way cancel slot status = Err (codes "/action")
action_by (Some path) None cancel slot status = Err (codes "/as")
action_by (Some path) (Some way) cancel slot None = at_once_by path way cancel slot
action_by (Some path) (Some way) cancel slot (Some status) = running_by path way (optional_path cancel) slot (path_in status)

-- one of a property or an event
abbrev pub plain_by : Kind → Option (List ℕ) → Option Notation → Option Json → Option ℕ → Option Json → Result EntrySaid (List ℕ)
plain_by k path None cancel slot status = Err (codes "/as")
plain_by k path (Some way) (Some cancel) slot status = Err (codes "/cancel")
plain_by k None (Some way) None slot status = Err (codes "/" ++ member_of k)
plain_by k (Some path) (Some way) None None status = Err (codes "/slot")
plain_by k (Some path) (Some way) None (Some slot) (Some status) = Err (codes "/status")
plain_by k (Some path) (Some way) None (Some slot) None = Ok (record { slot = slot; device = behind_file k path way })

abbrev pub file_by : Kind → Option (List ℕ) → Option Notation → Option Json → Option ℕ → Option Json → Result EntrySaid (List ℕ)
file_by kind.Property path way cancel slot status = plain_by kind.Property path way cancel slot status
file_by kind.Action path way cancel slot status = action_by path way cancel slot status
file_by kind.Event path way cancel slot status = plain_by kind.Event path way cancel slot status

-- one of a value in memory, which has no content, and so no notation
abbrev pub memory_by : Option Json → Option Json → Option ℕ → Option Json → Option Json → Result EntrySaid (List ℕ)
memory_by (Some way) cancel slot status v = Err (codes "/as")
memory_by None (Some cancel) slot status v = Err (codes "/cancel")
memory_by None None None status v = Err (codes "/slot")
memory_by None None (Some slot) (Some status) v = Err (codes "/status")
memory_by None None (Some slot) None None = Err (codes "/value")
memory_by None None (Some slot) None (Some v) = Ok (record { slot = slot; device = in_memory v })

abbrev pub entry_by : (List ℕ → Option Json) → Option ℕ → Named → Result EntrySaid (List ℕ)
entry_by member slot (named.File k) =
    file_by k (option_and_then path_in (member (member_of k))) (notation_of (member (codes "as"))) (member (codes "cancel")) slot (member (codes "status"))
entry_by member slot named.Memory =
    memory_by (member (codes "as")) (member (codes "cancel")) slot (member (codes "status")) (option_and_then short_value (member (codes "value")))

-- What an entry says after those before it. One that doesn't name just one device is wrong itself.
abbrev pub entry_of : List DeviceEntry → Json → Result EntrySaid (List ℕ)
entry_of before v =
    option_map_or (entry_by (member_in v) (free_slot before (option_and_then slot_in (member_in v (codes "slot"))))) (named_by v) (Err [])

-- ---- the list

-- Reading the entries from this index on, after these: what they say, in order, or the first that is wrong.
pub data ReadsFrom : ℕ → List DeviceEntry → List Json → Result (List DeviceEntry) EntriesFault → Type 0 where
  ends : (index : ℕ) (before : List DeviceEntry) → ReadsFrom index before [] (Ok before)
  wrong : (index : ℕ) (before : List DeviceEntry) (v : Json) (vs : List Json) (pointer : List ℕ) → entry_of before v ≡ Err pointer
      → ReadsFrom index before (v ∷ vs) (Err (fault.At (element_step_text index ++ pointer)))
  says : (index : ℕ) (before : List DeviceEntry) (v : Json) (vs : List Json) (e : DeviceEntry) (r : Result (List DeviceEntry) EntriesFault) → entry_of before v ≡ Ok (entry_said e)
      → ReadsFrom (index + 1) (before ++ e ∷ []) vs r → ReadsFrom index before (v ∷ vs) r
  entries_memory : (index : ℕ) (before : List DeviceEntry) (vs : List Json) → ReadsFrom index before vs (Err fault.NoMemory)

-- Reading a list of devices. A tree that is no list is wrong itself.
pub data ReadsEntries (v : Json) (r : Result (List DeviceEntry) EntriesFault) : Type 0 where
  is_list : (es : _) → v ≡ array es → ReadsFrom 0 [] (element_list es) r → ReadsEntries v r
  is_none : ((es : _) → v ≡ array es → ⊥) → r ≡ Err (fault.At []) → ReadsEntries v r
  list_memory : r ≡ Err fault.NoMemory → ReadsEntries v r

-- what the code's entry says, or a pointer
abbrev pub told : {A : Type 0} → Result DeviceEntry A → (A → List ℕ) → Result EntrySaid (List ℕ)
told (Ok e) text = Ok (entry_said e)
told (Err a) text = Err (text a)

-- ---- the slots of the list

-- the number of slots of a rack with these devices: as many as the greatest slot asks for, and at least those that the
-- product ships
abbrev pub slot_count : List DeviceEntry → ℕ
slot_count [] = 64
slot_count (e ∷ es) = max (e.slot + 1) (slot_count es)
