-- The answers of an action that runs on. Its input is written into one file; a second one, the status, holds `running` as
-- long as the invocation runs, and then its output; a third takes the id of an invocation that is to be cancelled. What a
-- call leaves remembered is the invocation that was begun last.
--
--     status holds       Invoke             Query of the last   Cancel of the last
--     running            refused 3          running             the id to `cancel`, `cancelled` to the status: cancelled
--     nothing            begins: started    finished            the same
--     an output          begins: started    finished with it    the same
--     is absent          begins (and can't write it: fault 1)   fault 1             the same
--
-- A Query of an earlier invocation is finished and a Cancel of one cancelled, and neither touches a file; where none was
-- begun both are refused with 1.
use Rattle.std.specs.Prelude.{◌≡◌, ℕ, ◌==◌, Bool, IsTrue, IsFalse, List, [], codes, decimal, Option, Some, None, Result, Ok, Err, if◌then◌else◌}
use Rattle.std.specs.Str.{bytes_eq}
use Rattle.wot_json.specs.declared.tree.Tree.{Tree}
use Rattle.thing_handler.specs.declared.handler.CallKind.{CallKind}
use Rattle.thing_handler.specs.declared.handler.CallKind.TheVariants.{Read, Write, Invoke, Query, Cancel, Poll}
use Rattle.thing_handler.specs.declared.handler.Answer.{Answer}
use Rattle.thing_handler.specs.declared.handler.Answer.TheVariants.{Started, Running, Finished, Cancelled, Refused, DeviceFault}
use Rattle.file_devices.specs.declared.entry.RunningDevice.{RunningDevice}
use Rattle.file_devices.specs.declared.fault.FileFault.{FileFault}
use Rattle.file_devices.specs.declared.fault.FileFault.TheVariants as fault
use Rattle.file_devices.specs.declared.notation.Notation.{Notation}
use Rattle.file_devices.specs.declared.running.Asked.{Asked}
use Rattle.file_devices.specs.declared.running.Asked.TheVariants as asked
use Rattle.file_devices.specs.declared.starting.StartTexts.{StartTexts}
use Rattle.file_devices.specs.declared.stopping.StopTexts.{StopTexts}
use Rattle.file_devices.specs.Devices.{FindsContent, PutsText, Refuses, fault_number, put_answer}
use Rattle.file_devices.specs.Files.{FilesSeen}
use Rattle.file_devices.specs.Values.{ComesTo, trimmed, input_written}

-- ---- what a status says

-- It says that an invocation runs, or nothing at all; blanks and line ends around it don't count.
abbrev pub says_running : List ℕ → Bool
says_running content = bytes_eq (trimmed content) (codes "running")

abbrev pub says_nothing : List ℕ → Bool
says_nothing content = bytes_eq (trimmed content) []

-- ---- an Invoke

-- The answer to an Invoke that finds this status, where it may not begin. Without a status file nothing runs.
abbrev pub hindrance : Result (List ℕ) FileFault → Option Answer
hindrance (Ok content) = if says_running content then Some (Refused 3) else None
hindrance (Err fault.Absent) = None
hindrance (Err fault.Failed) = Some (DeviceFault (fault_number fault.Failed))
hindrance (Err fault.TooLong) = Some (DeviceFault (fault_number fault.TooLong))
hindrance (Err fault.NoValue) = Some (DeviceFault (fault_number fault.NoValue))
hindrance (Err fault.NoText) = Some (DeviceFault (fault_number fault.NoText))

-- the texts that it writes, or its answer where it writes none, by what hinders it and the text of its input
abbrev pub ready_by : Option Answer → Option (List ℕ) → Result StartTexts Answer
ready_by (Some answer) text = Err answer
ready_by None None = Err (DeviceFault (fault_number fault.NoText))
ready_by None (Some text) = Ok (record { running = codes "running"; input = text })

-- Handing the input in: it is written to the action. Where that can't be done the status is emptied, if it can be.
pub data HandsIn (before now : FilesSeen) (d : RunningDevice) (input : List ℕ) (begun : Result (Unit {0}) FileFault) : Type 0 where
  handed_in : PutsText before now d.action input (Ok tt) → begun ≡ Ok tt → HandsIn before now d input begun
  undone : (refused : FilesSeen) (f : FileFault) (emptied : Result (Unit {0}) FileFault) → PutsText before refused d.action input (Err f)
      → PutsText refused now d.status [] emptied → begun ≡ Err f → HandsIn before now d input begun

-- Beginning an invocation: the status says that one runs, and then the input is handed in.
pub data Begins (before now : FilesSeen) (d : RunningDevice) (texts : StartTexts) (begun : Result (Unit {0}) FileFault) : Type 0 where
  unmarked : (f : FileFault) → PutsText before now d.status texts.running (Err f) → begun ≡ Err f → Begins before now d texts begun
  marked : (mid : FilesSeen) → PutsText before mid d.status texts.running (Ok tt) → HandsIn mid now d texts.input begun → Begins before now d texts begun

-- the invocation that was begun last, after this one was begun or wasn't
abbrev pub last_after : Option ℕ → ℕ → Result (Unit {0}) FileFault → Option ℕ
last_after last id (Ok u) = Some id
last_after last id (Err f) = last

-- An Invoke whose input has this text.
pub data RunInvokes (before now : FilesSeen) (d : RunningDevice) (id : ℕ) (text : Option (List ℕ)) (last next : Option ℕ) (answer : Answer) : Type 0 where
  kept_from : (status : Result (List ℕ) FileFault) → FindsContent before now d.status status → ready_by (hindrance status) text ≡ Err answer → next ≡ last
      → RunInvokes before now d id text last next answer
  begins : (status : Result (List ℕ) FileFault) (seen : FilesSeen) (texts : StartTexts) (begun : Result (Unit {0}) FileFault) → FindsContent before seen d.status status
      → ready_by (hindrance status) text ≡ Ok texts → Begins seen now d texts begun → answer ≡ put_answer Started begun → next ≡ last_after last id begun
      → RunInvokes before now d id text last next answer

-- ---- the invocation that is asked for

-- Each id but that of the last invocation is one of an earlier one: a device is asked only of those that it began.
abbrev pub asked_of : Option ℕ → ℕ → Asked
asked_of None id = asked.NoneBegun
asked_of (Some last) id = if last == id then asked.Last else asked.Earlier

-- a call that touches no file, with this answer
abbrev pub Untouched : FilesSeen → FilesSeen → Answer → Answer → Type 0
Untouched before now meant answer = (now ≡ before) × (answer ≡ meant)

-- ---- a Query

-- the answer by the output, or by the fault of reading it
abbrev pub output_answer : Result Tree FileFault → Answer
output_answer (Ok v) = Finished (Some v)
output_answer (Err f) = DeviceFault (fault_number f)

-- the answer by the content of the status
pub data ContentAnswers (way : Notation) (content : List ℕ) (answer : Answer) : Type 0 where
  runs : IsTrue (says_running content) → answer ≡ Running → ContentAnswers way content answer
  is_over : IsTrue (says_nothing content) → answer ≡ Finished None → ContentAnswers way content answer
  gives : IsFalse (says_running content) → IsFalse (says_nothing content) → (output : Result Tree FileFault) → ComesTo way content output → answer ≡ output_answer output
      → ContentAnswers way content answer

abbrev pub StatusAnswers : Notation → Result (List ℕ) FileFault → Answer → Type 0
StatusAnswers way (Ok content) answer = ContentAnswers way content answer
StatusAnswers way (Err f) answer = answer ≡ DeviceFault (fault_number f)

-- a Query of the last invocation reads the status
pub data StatusAsked (before now : FilesSeen) (d : RunningDevice) (answer : Answer) : Type 0 where
  status_read : (status : Result (List ℕ) FileFault) → FindsContent before now d.status status → StatusAnswers d.notation status answer → StatusAsked before now d answer

abbrev pub RunQueries : FilesSeen → FilesSeen → RunningDevice → Asked → Answer → Type 0
RunQueries before now d asked.NoneBegun answer = Refuses before now 1 answer
RunQueries before now d asked.Earlier answer = Untouched before now (Finished None) answer
RunQueries before now d asked.Last answer = StatusAsked before now d answer

-- ---- a Cancel

-- the texts that it writes
abbrev pub stop_texts : ℕ → StopTexts
stop_texts id = record { id = decimal id; cancelled = codes "cancelled" }

-- Cancelling an invocation: the file that cancels gets its id, and then the status says that it was cancelled.
pub data Stops (before now : FilesSeen) (cancel status : List ℕ) (texts : StopTexts) (stopped : Result (Unit {0}) FileFault) : Type 0 where
  unsaid : (f : FileFault) → PutsText before now cancel texts.id (Err f) → stopped ≡ Err f → Stops before now cancel status texts stopped
  said : (mid : FilesSeen) → PutsText before mid cancel texts.id (Ok tt) → PutsText mid now status texts.cancelled stopped → Stops before now cancel status texts stopped

pub data StopAsked (before now : FilesSeen) (cancel status : List ℕ) (id : ℕ) (answer : Answer) : Type 0 where
  stop : (stopped : Result (Unit {0}) FileFault) → Stops before now cancel status (stop_texts id) stopped → answer ≡ put_answer Cancelled stopped
      → StopAsked before now cancel status id answer

-- a Cancel of the last invocation, where there is this file that cancels
abbrev pub CancelsLast : FilesSeen → FilesSeen → Option (List ℕ) → List ℕ → ℕ → Answer → Type 0
CancelsLast before now None status id answer = Refuses before now 1 answer
CancelsLast before now (Some cancel) status id answer = StopAsked before now cancel status id answer

abbrev pub RunCancels : FilesSeen → FilesSeen → RunningDevice → Asked → ℕ → Answer → Type 0
RunCancels before now d asked.NoneBegun id answer = Refuses before now 1 answer
RunCancels before now d asked.Earlier id answer = Untouched before now Cancelled answer
RunCancels before now d asked.Last id answer = CancelsLast before now d.cancel d.status id answer

-- ---- each call

abbrev pub RunningAnswers : FilesSeen → FilesSeen → RunningDevice → Option ℕ → Option ℕ → CallKind → Answer → Type 0
RunningAnswers before now d last next Read answer = Refuses before now 0 answer × (next ≡ last)
RunningAnswers before now d last next (Write v) answer = Refuses before now 0 answer × (next ≡ last)
RunningAnswers before now d last next (Invoke id input) answer = RunInvokes before now d id (input_written d.notation input) last next answer
RunningAnswers before now d last next (Query id) answer = RunQueries before now d (asked_of last id) answer × (next ≡ last)
RunningAnswers before now d last next (Cancel id) answer = RunCancels before now d (asked_of last id) id answer × (next ≡ last)
RunningAnswers before now d last next Poll answer = Refuses before now 0 answer × (next ≡ last)
