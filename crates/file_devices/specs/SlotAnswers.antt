-- The answer of the handler of a slot to a call.
use Rattle.std.specs.Prelude.{◌≡◌, IsSomeAnd}
use Rattle.thing_handler.specs.InMemory.{cell_answer, cell_after, value_in}
use Rattle.thing_handler.specs.Shipped.{device_answer, device_after, device_of}
use Rattle.thing_handler.specs.declared.handler.Answer.{Answer}
use Rattle.thing_handler.specs.declared.handler.Answer.TheVariants.{Refused}
use Rattle.thing_handler.specs.declared.handler.CallKind.{CallKind}
use Rattle.file_devices.specs.declared.event.FileEvent.{FileEvent}
use Rattle.file_devices.specs.declared.running.RunningAction.{RunningAction}
use Rattle.file_devices.specs.declared.slot_handler.SlotHandler.{SlotHandler}
use Rattle.file_devices.specs.declared.slot_handler.SlotHandler.TheVariants as slot
use Rattle.file_devices.specs.Devices.{PropertyAnswers, ActionAnswers, EventAnswers}
use Rattle.file_devices.specs.Files.{FilesSeen}
use Rattle.file_devices.specs.Running.{RunningAnswers}
use Rattle.file_devices.specs.Slots.{slot_files, slot_is, is_shipped, is_memory}

-- it is an event behind a file of which this holds
abbrev pub IsEventAnd : {D : Type 0} → (FileEvent D → Type 0) → SlotHandler D → Type 0
IsEventAnd P (slot.Shipped s) = ⊥
IsEventAnd P (slot.NoDevice n) = ⊥
IsEventAnd P (slot.Memory c) = ⊥
IsEventAnd P (slot.Property p) = ⊥
IsEventAnd P (slot.Action a) = ⊥
IsEventAnd P (slot.Running r) = ⊥
IsEventAnd P (slot.Event e) = P e

-- it is an action that runs on of which this holds
abbrev pub IsRunningAnd : {D : Type 0} → (RunningAction D → Type 0) → SlotHandler D → Type 0
IsRunningAnd P (slot.Shipped s) = ⊥
IsRunningAnd P (slot.NoDevice n) = ⊥
IsRunningAnd P (slot.Memory c) = ⊥
IsRunningAnd P (slot.Property p) = ⊥
IsRunningAnd P (slot.Action a) = ⊥
IsRunningAnd P (slot.Running r) = P r
IsRunningAnd P (slot.Event e) = ⊥

-- Handlers in memory answer by their tables, and are then what those say; a slot without a device refuses each call with
-- 2; a device behind a file answers as its kind does.
abbrev pub SlotAnswers : {D : Type 0} → (D → FilesSeen) → SlotHandler D → SlotHandler D → CallKind → Answer → Type 0
SlotAnswers seen (slot.Shipped s) now what answer =
    (answer ≡ device_answer (device_of s) what) × (slot_is now ≡ is_shipped (device_after (device_of s) what))
SlotAnswers seen (slot.NoDevice n) now what answer = answer ≡ Refused 2
SlotAnswers seen (slot.Memory c) now what answer =
    (answer ≡ cell_answer (value_in c) what) × (slot_is now ≡ is_memory (cell_after (value_in c) what))
SlotAnswers seen (slot.Property p) now what answer =
    IsSomeAnd (slot_files now) (λ files. PropertyAnswers (seen p.device.files) (seen files) p.device.name p.device.notation what answer)
SlotAnswers seen (slot.Action a) now what answer =
    IsSomeAnd (slot_files now) (λ files. ActionAnswers (seen a.device.files) (seen files) a.device.name a.device.notation what answer)
SlotAnswers seen (slot.Running r) now what answer =
    IsRunningAnd (λ s. RunningAnswers (seen r.files) (seen s.files) r.device r.last s.last what answer) now
SlotAnswers seen (slot.Event e) now what answer =
    IsEventAnd (λ f. EventAnswers (seen e.device.files) (seen f.device.files) e.device.name e.device.notation e.last f.last what answer) now
