-- The handler of a slot: the view of it, what it is, and the handlers of a rack by a list of devices.
use Rattle.std.specs.Prelude.{◌≡◌, ℕ, ◌==◌, nat_lt, List, find, Option, Some, None, length, slice_get, if◌then◌else◌}
use Rattle.wot_json.specs.declared.tree.Tree.{Tree}
use Rattle.wot_terms.specs.declared.kind.Kind.{Kind}
use Rattle.wot_terms.specs.declared.kind.Kind.TheVariants as kind
use Rattle.thing_handler.specs.Handler.{Seen, fresh_handler}
use Rattle.thing_handler.specs.InMemory.{cell_seen, value_in}
use Rattle.thing_handler.specs.Shipped.{Device, device_kind, device_of, shipped_device, shipped_seen}
use Rattle.file_devices.specs.declared.entry.DeviceEntry.{DeviceEntry}
use Rattle.file_devices.specs.declared.entry.EntryDevice.{EntryDevice}
use Rattle.file_devices.specs.declared.entry.EntryDevice.TheVariants as device
use Rattle.file_devices.specs.declared.entry.FileDevice.{FileDevice}
use Rattle.file_devices.specs.declared.entry.RunningDevice.{RunningDevice}
use Rattle.file_devices.specs.declared.slot_handler.SlotHandler.{SlotHandler}
use Rattle.file_devices.specs.declared.slot_handler.SlotHandler.TheVariants as slot
use Rattle.file_devices.specs.Entries.{slot_count}
use Rattle.file_devices.specs.Seen.{property_seen, action_seen, running_seen, event_seen, none_seen}

abbrev pub slot_seen : {D : Type 0} → SlotHandler D → Seen
slot_seen (slot.Shipped s) = shipped_seen s
slot_seen (slot.NoDevice n) = none_seen n
slot_seen (slot.Memory c) = cell_seen c
slot_seen (slot.Property p) = property_seen p
slot_seen (slot.Action a) = action_seen a
slot_seen (slot.Running r) = running_seen r
slot_seen (slot.Event e) = event_seen e

abbrev pub slot_files : {D : Type 0} → SlotHandler D → Option D
slot_files (slot.Shipped s) = None
slot_files (slot.NoDevice n) = None
slot_files (slot.Memory c) = None
slot_files (slot.Property p) = Some p.device.files
slot_files (slot.Action a) = Some a.device.files
slot_files (slot.Running r) = Some r.files
slot_files (slot.Event e) = Some e.device.files

-- What a handler is: one that the product ships, in this state in memory; none; a property in memory that holds this
-- value; a device behind a file; or an action that runs on, and the invocation of it that was begun last.
pub data SlotIs : Type 0 where
  is_shipped : Device → SlotIs
  is_absent : SlotIs
  is_memory : Tree → SlotIs
  is_file : FileDevice → SlotIs
  is_running : RunningDevice → Option ℕ → SlotIs

abbrev pub slot_is : {D : Type 0} → SlotHandler D → SlotIs
slot_is (slot.Shipped s) = is_shipped (device_of s)
slot_is (slot.NoDevice n) = is_absent
slot_is (slot.Memory c) = is_memory (value_in c)
slot_is (slot.Property p) = is_file (record { kind = kind.Property; path = p.device.name; notation = p.device.notation })
slot_is (slot.Action a) = is_file (record { kind = kind.Action; path = a.device.name; notation = a.device.notation })
slot_is (slot.Running r) = is_running r.device r.last
slot_is (slot.Event e) = is_file (record { kind = kind.Event; path = e.device.name; notation = e.device.notation })

-- the device behind files that a handler is, where it is one, which never changes
abbrev pub device_in : SlotIs → Option EntryDevice
device_in (is_shipped d) = None
device_in is_absent = None
device_in (is_memory v) = None
device_in (is_file f) = Some (device.File f)
device_in (is_running r last) = Some (device.Running r)

abbrev pub slot_device : {D : Type 0} → SlotHandler D → Option EntryDevice
slot_device h = device_in (slot_is h)

-- a handler that is this, and wasn't called yet
abbrev pub IsFresh : {D : Type 0} → SlotIs → Kind → SlotHandler D → Type 0
IsFresh what kind h = (slot_is h ≡ what) × (slot_seen h ≡ fresh_handler kind)

-- the handler of the device that an entry says
abbrev pub IsHandlerOf : {D : Type 0} → EntryDevice → SlotHandler D → Type 0
IsHandlerOf (device.File f) h = IsFresh (is_file f) f.kind h
IsHandlerOf (device.Running r) h = IsFresh (is_running r None) kind.Action h
IsHandlerOf (device.Memory v) h = IsFresh (is_memory v) kind.Property h

-- that of a slot without an entry: below 64 the one that the product ships for the slot, and above none
abbrev pub free_slot_is : ℕ → SlotIs
free_slot_is place = if nat_lt place 64 then is_shipped (shipped_device place) else is_absent

abbrev pub free_slot_kind : ℕ → Kind
free_slot_kind place = if nat_lt place 64 then device_kind (shipped_device place) else kind.Property

-- The handler of a slot, by its entry in the list of devices. It wasn't called yet.
abbrev pub IsHandlerAt : {D : Type 0} → ℕ → Option DeviceEntry → SlotHandler D → Type 0
IsHandlerAt place (Some entry) h = IsHandlerOf entry.device h
IsHandlerAt place None h = IsFresh (free_slot_is place) (free_slot_kind place) h

-- The handlers of a rack with these devices: as many as the list asks for, and each slot's by its entry.
pub record AreHandlers {D : Type 0} (entries : List DeviceEntry) (handlers : List (SlotHandler D)) : Type 0 where
  pub count : length handlers ≡ slot_count entries
  pub each : (place : ℕ) (h : SlotHandler D) → slice_get handlers place ≡ Some h → IsHandlerAt place (find (λ e. e.slot == place) entries) h
