-- The calls of files that one call of a device makes: it reads its file at most once, or writes it at most once, and
-- touches no other. Of an action that runs on, which has several files, each is written as its row says.
use Rattle.std.specs.Prelude.{◌≡◌, ℕ, Bool, true, false, List, [], ◌∷◌, codes, decimal, Option, Some, None, IsSomeAnd, Result, Ok, Err}
use Rattle.std.specs.declared.alloc.AllocError.{AllocError}
use Rattle.servient_outside.specs.declared.files.Got.{Got}
use Rattle.servient_outside.specs.Told.{Continues}
use Rattle.thing_handler.specs.declared.handler.CallKind.{CallKind}
use Rattle.thing_handler.specs.declared.handler.CallKind.TheVariants.{Read, Write, Invoke, Query, Cancel, Poll}
use Rattle.thing_handler.specs.declared.handler.Answer.{Answer}
use Rattle.thing_handler.specs.declared.handler.Answer.TheVariants.{Value, Done, Started, Running, Finished, Cancelled, Quiet, Fired, Refused, DeviceFault}
use Rattle.file_devices.specs.declared.entry.RunningDevice.{RunningDevice}
use Rattle.file_devices.specs.declared.files.FileCall.{FileCall}
use Rattle.file_devices.specs.declared.files.FileCall.TheVariants as file_call
use Rattle.file_devices.specs.declared.files.Wrote.{Wrote}
use Rattle.file_devices.specs.declared.files.Wrote.TheVariants as wrote
use Rattle.file_devices.specs.declared.notation.Notation.{Notation}
use Rattle.file_devices.specs.declared.running.Asked.{Asked}
use Rattle.file_devices.specs.declared.running.Asked.TheVariants as asked
use Rattle.file_devices.specs.declared.slot_handler.SlotHandler.{SlotHandler}
use Rattle.file_devices.specs.declared.slot_handler.SlotHandler.TheVariants as slot
use Rattle.file_devices.specs.Files.{FilesSeen}
use Rattle.file_devices.specs.Running.{asked_of}
use Rattle.file_devices.specs.Slots.{slot_files}
use Rattle.file_devices.specs.Values.{text_written, input_written}

-- the answer says that the call was done
abbrev pub is_done : Result Answer AllocError → Bool
is_done (Ok (Value v)) = false
is_done (Ok Done) = true
is_done (Ok Started) = true
is_done (Ok Running) = false
is_done (Ok (Finished v)) = true
is_done (Ok Cancelled) = false
is_done (Ok Quiet) = false
is_done (Ok (Fired v)) = false
is_done (Ok (Refused n)) = false
is_done (Ok (DeviceFault n)) = false
is_done (Err e) = false

-- the write says that the file holds its content
abbrev pub is_written : Wrote → Bool
is_written wrote.Done = true
is_written wrote.Absent = false
is_written wrote.Failed = false

-- No file is touched, or the file of this name is read once.
pub data ReadsAtMostOnce (name : List ℕ) (calls : List FileCall) : Type 0 where
  not_read : calls ≡ [] → ReadsAtMostOnce name calls
  was_read : (bytes : List ℕ) (got : Got) → calls ≡ file_call.Read name bytes got ∷ [] → ReadsAtMostOnce name calls

-- No file is touched, and the answer doesn't say that the call was done; or the text is written once, to the file of this
-- name, the call is answered, and its answer says that it was done just where the write says so.
pub data WritesOnce (name : List ℕ) (text : Option (List ℕ)) (result : Result Answer AllocError) (calls : List FileCall) : Type 0 where
  not_written : calls ≡ [] → is_done result ≡ false → WritesOnce name text result calls
  written : (content : List ℕ) (write : Wrote) (answer : Answer) → text ≡ Some content → calls ≡ file_call.Write name content write ∷ []
      → result ≡ Ok answer → is_done result ≡ is_written write → WritesOnce name text result calls

-- the calls of files in a call of a property behind the file of this name
abbrev pub PropertyCalls : List ℕ → Notation → CallKind → Result Answer AllocError → List FileCall → Type 0
PropertyCalls name way Read result calls = ReadsAtMostOnce name calls
PropertyCalls name way (Write v) result calls = WritesOnce name (text_written way v) result calls
PropertyCalls name way (Invoke id input) result calls = calls ≡ []
PropertyCalls name way (Query id) result calls = calls ≡ []
PropertyCalls name way (Cancel id) result calls = calls ≡ []
PropertyCalls name way Poll result calls = calls ≡ []

-- those of an action
abbrev pub ActionCalls : List ℕ → Notation → CallKind → Result Answer AllocError → List FileCall → Type 0
ActionCalls name way Read result calls = calls ≡ []
ActionCalls name way (Write v) result calls = calls ≡ []
ActionCalls name way (Invoke id input) result calls = WritesOnce name (input_written way input) result calls
ActionCalls name way (Query id) result calls = calls ≡ []
ActionCalls name way (Cancel id) result calls = calls ≡ []
ActionCalls name way Poll result calls = calls ≡ []

-- Those of an Invoke of an action that runs on. Before anything is written its status is read; the answer says that the
-- invocation was begun just where the input's text was written.
pub data InvokeCalls (d : RunningDevice) (text : Option (List ℕ)) (result : Result Answer AllocError) (calls : List FileCall) : Type 0 where
  looked : ReadsAtMostOnce d.status calls → is_done result ≡ false → InvokeCalls d text result calls
  status_unwritten : (bytes : List ℕ) (got : Got) (write : Wrote) (fault : ℕ) → calls ≡ file_call.Read d.status bytes got ∷ file_call.Write d.status (codes "running") write ∷ []
      → is_written write ≡ false → result ≡ Ok (DeviceFault fault) → InvokeCalls d text result calls
  was_handed_in : (bytes content : List ℕ) (got : Got) → text ≡ Some content
      → calls ≡ file_call.Read d.status bytes got ∷ file_call.Write d.status (codes "running") wrote.Done ∷ file_call.Write d.action content wrote.Done ∷ []
      → result ≡ Ok Started → InvokeCalls d text result calls
  was_undone : (bytes content : List ℕ) (got : Got) (write emptied : Wrote) (fault : ℕ) → text ≡ Some content
      → calls ≡ file_call.Read d.status bytes got ∷ file_call.Write d.status (codes "running") wrote.Done ∷ file_call.Write d.action content write ∷ file_call.Write d.status [] emptied ∷ []
      → is_written write ≡ false → result ≡ Ok (DeviceFault fault) → InvokeCalls d text result calls

-- those of a Query: of the last invocation the status is read
abbrev pub QueryCalls : RunningDevice → Asked → List FileCall → Type 0
QueryCalls d asked.NoneBegun calls = calls ≡ []
QueryCalls d asked.Earlier calls = calls ≡ []
QueryCalls d asked.Last calls = ReadsAtMostOnce d.status calls

-- Those of a Cancel of the last invocation, where this file cancels. Without an answer nothing is written.
pub data StopCalls (cancel status : List ℕ) (id : ℕ) (result : Result Answer AllocError) (calls : List FileCall) : Type 0 where
  out_of_memory : (e : AllocError) → calls ≡ [] → result ≡ Err e → StopCalls cancel status id result calls
  id_unwritten : (write : Wrote) (fault : ℕ) → calls ≡ file_call.Write cancel (decimal id) write ∷ [] → is_written write ≡ false → result ≡ Ok (DeviceFault fault)
      → StopCalls cancel status id result calls
  end_unwritten : (write : Wrote) (fault : ℕ) → calls ≡ file_call.Write cancel (decimal id) wrote.Done ∷ file_call.Write status (codes "cancelled") write ∷ []
      → is_written write ≡ false → result ≡ Ok (DeviceFault fault) → StopCalls cancel status id result calls
  was_cancelled : calls ≡ file_call.Write cancel (decimal id) wrote.Done ∷ file_call.Write status (codes "cancelled") wrote.Done ∷ []
      → result ≡ Ok Cancelled → StopCalls cancel status id result calls

abbrev pub LastCalls : Option (List ℕ) → List ℕ → ℕ → Result Answer AllocError → List FileCall → Type 0
LastCalls None status id result calls = calls ≡ []
LastCalls (Some cancel) status id result calls = StopCalls cancel status id result calls

abbrev pub CancelCalls : RunningDevice → Asked → ℕ → Result Answer AllocError → List FileCall → Type 0
CancelCalls d asked.NoneBegun id result calls = calls ≡ []
CancelCalls d asked.Earlier id result calls = calls ≡ []
CancelCalls d asked.Last id result calls = LastCalls d.cancel d.status id result calls

-- those of an action that runs on, of which this invocation was begun last
abbrev pub RunningCalls : RunningDevice → Option ℕ → CallKind → Result Answer AllocError → List FileCall → Type 0
RunningCalls d last Read result calls = calls ≡ []
RunningCalls d last (Write v) result calls = calls ≡ []
RunningCalls d last (Invoke id input) result calls = InvokeCalls d (input_written d.notation input) result calls
RunningCalls d last (Query id) result calls = QueryCalls d (asked_of last id) calls
RunningCalls d last (Cancel id) result calls = CancelCalls d (asked_of last id) id result calls
RunningCalls d last Poll result calls = calls ≡ []

-- those of an event
abbrev pub EventCalls : List ℕ → CallKind → List FileCall → Type 0
EventCalls name Read calls = calls ≡ []
EventCalls name (Write v) calls = calls ≡ []
EventCalls name (Invoke id input) calls = calls ≡ []
EventCalls name (Query id) calls = calls ≡ []
EventCalls name (Cancel id) calls = calls ≡ []
EventCalls name Poll calls = ReadsAtMostOnce name calls

-- From one time to another these calls were made and no others, and this holds of them.
pub record Tells (P : List FileCall → Type 0) (before now : FilesSeen) : Type 0 where
  pub calls : List FileCall
  pub told : P calls
  pub continued : Continues before.calls now.calls calls

-- the calls of files in a call of the handler of a slot, where it is a device behind files
abbrev pub SlotCalls : {D : Type 0} → (D → FilesSeen) → SlotHandler D → SlotHandler D → CallKind → Result Answer AllocError → Type 0
SlotCalls seen (slot.Shipped s) now what result = Unit {0}
SlotCalls seen (slot.NoDevice n) now what result = Unit {0}
SlotCalls seen (slot.Memory c) now what result = Unit {0}
SlotCalls seen (slot.Property p) now what result =
    IsSomeAnd (slot_files now) (λ files. Tells (PropertyCalls p.device.name p.device.notation what result) (seen p.device.files) (seen files))
SlotCalls seen (slot.Action a) now what result =
    IsSomeAnd (slot_files now) (λ files. Tells (ActionCalls a.device.name a.device.notation what result) (seen a.device.files) (seen files))
SlotCalls seen (slot.Running r) now what result =
    IsSomeAnd (slot_files now) (λ files. Tells (RunningCalls r.device r.last what result) (seen r.files) (seen files))
SlotCalls seen (slot.Event e) now what result =
    IsSomeAnd (slot_files now) (λ files. Tells (EventCalls e.device.name what) (seen e.device.files) (seen files))
