-- The answers of the handlers of devices behind files.
use Rattle.std.specs.Prelude.{◌≡◌, ◌≢◌, ◌≤◌, ◌<◌, ℕ, List, [], Option, Some, None, IfSome, IsSomeAnd, Result, Ok, Err, length}
use Rattle.wot_json.specs.Meaning.{json_of}
use Rattle.wot_json.specs.declared.tree.Tree.{Tree}
use Rattle.servient_outside.specs.declared.files.Got.TheVariants as got
use Rattle.servient_outside.specs.Files.{content_of}
use Rattle.thing_handler.specs.declared.handler.CallKind.{CallKind}
use Rattle.thing_handler.specs.declared.handler.CallKind.TheVariants.{Read, Write, Invoke, Query, Cancel, Poll}
use Rattle.thing_handler.specs.declared.handler.Answer.{Answer}
use Rattle.thing_handler.specs.declared.handler.Answer.TheVariants.{Value, Done, Finished, Quiet, Fired, Refused, DeviceFault}
use Rattle.file_devices.specs.declared.event.EventState.{EventState}
use Rattle.file_devices.specs.declared.event.EventState.TheVariants as state
use Rattle.file_devices.specs.declared.fault.FileFault.{FileFault}
use Rattle.file_devices.specs.declared.fault.FileFault.TheVariants as fault
use Rattle.file_devices.specs.declared.files.FileCall.TheVariants as file_call
use Rattle.file_devices.specs.declared.files.Wrote.TheVariants as wrote
use Rattle.file_devices.specs.declared.notation.Notation.{Notation}
use Rattle.file_devices.specs.Files.{FilesSeen, Asks, Fails, MakesCall, Writes}
use Rattle.file_devices.specs.Values.{longest, ComesTo, text_written, input_written}

-- the numbers of the faults
abbrev pub fault_number : FileFault → ℕ
fault_number fault.Absent = 1
fault_number fault.Failed = 2
fault_number fault.TooLong = 3
fault_number fault.NoValue = 4
fault_number fault.NoText = 5

-- ---- looking

-- A look at the file of this name finds this content. It is one read, and changes no file; a failed one is counted.
pub data FindsContent (before now : FilesSeen) (name : List ℕ) (content : Result (List ℕ) FileFault) : Type 0 where
  whole : (bytes : List ℕ) → length bytes ≤ longest → IfSome before.held (λ files. content_of files name ≡ Some bytes)
      → Asks before now name bytes got.Whole → content ≡ Ok bytes → FindsContent before now name content
  absent : IfSome before.held (λ files. content_of files name ≡ None) → Asks before now name [] got.Absent → content ≡ Err fault.Absent → FindsContent before now name content
  too_long : IfSome before.held (λ files. IsSomeAnd (content_of files name) (λ bytes. longest < length bytes))
      → Asks before now name [] got.TooLong → content ≡ Err fault.TooLong → FindsContent before now name content
  failed : Fails before now → now.held ≡ before.held → MakesCall before now (file_call.Read name [] got.Failed) → content ≡ Err fault.Failed → FindsContent before now name content

-- A look at it finds this value.
pub data Finds (before now : FilesSeen) (name : List ℕ) (way : Notation) (found : Result Tree FileFault) : Type 0 where
  by_content : (bytes : List ℕ) → FindsContent before now name (Ok bytes) → ComesTo way bytes found → Finds before now name way found
  no_content : (f : FileFault) → FindsContent before now name (Err f) → found ≡ Err f → Finds before now name way found

-- ---- writing

-- Putting this text into the file of this name: it is written once. Where there is no text to write, nothing is
-- written.
pub data PutsText (before now : FilesSeen) (name text : List ℕ) (put : Result (Unit {0}) FileFault) : Type 0 where
  was_written : Writes before now name text wrote.Done → put ≡ Ok tt → PutsText before now name text put
  was_absent : Writes before now name text wrote.Absent → put ≡ Err fault.Absent → PutsText before now name text put
  has_failed : Writes before now name text wrote.Failed → put ≡ Err fault.Failed → PutsText before now name text put

abbrev pub Puts : FilesSeen → FilesSeen → List ℕ → Option (List ℕ) → Result (Unit {0}) FileFault → Type 0
Puts before now name None put = (now ≡ before) × (put ≡ Err fault.NoText)
Puts before now name (Some text) put = PutsText before now name text put

-- ---- properties

-- the answer of a property to a Read that found this
abbrev pub value_answer : Result Tree FileFault → Answer
value_answer (Ok v) = Value v
value_answer (Err f) = DeviceFault (fault_number f)

-- the answer of a device to a write of this result, where it is this if that was done
abbrev pub put_answer : Answer → Result (Unit {0}) FileFault → Answer
put_answer answer (Ok u) = answer
put_answer answer (Err f) = DeviceFault (fault_number f)

-- A Read answers what the file holds now, and a Write writes the value's text.
pub data PropertyReads (before now : FilesSeen) (name : List ℕ) (way : Notation) (answer : Answer) : Type 0 where
  read : (found : Result Tree FileFault) → Finds before now name way found → answer ≡ value_answer found → PropertyReads before now name way answer

-- A Write or an Invoke puts a text, and answers what came of it; this where it was written.
pub data DevicePuts (before now : FilesSeen) (name : List ℕ) (text : Option (List ℕ)) (done answer : Answer) : Type 0 where
  put : (put : Result (Unit {0}) FileFault) → Puts before now name text put → answer ≡ put_answer done put → DevicePuts before now name text done answer

-- a call that is none for the kind of the device, or for no invocation that runs
abbrev pub Refuses : FilesSeen → FilesSeen → ℕ → Answer → Type 0
Refuses before now number answer = (now ≡ before) × (answer ≡ Refused number)

abbrev pub PropertyAnswers : FilesSeen → FilesSeen → List ℕ → Notation → CallKind → Answer → Type 0
PropertyAnswers before now name way Read answer = PropertyReads before now name way answer
PropertyAnswers before now name way (Write v) answer = DevicePuts before now name (text_written way v) Done answer
PropertyAnswers before now name way (Invoke id input) answer = Refuses before now 0 answer
PropertyAnswers before now name way (Query id) answer = Refuses before now 0 answer
PropertyAnswers before now name way (Cancel id) answer = Refuses before now 0 answer
PropertyAnswers before now name way Poll answer = Refuses before now 0 answer

-- the text that a call writes, and the answer where it was written
abbrev pub call_text : Notation → CallKind → Option (List ℕ)
call_text way Read = None
call_text way (Write v) = text_written way v
call_text way (Invoke id input) = input_written way input
call_text way (Query id) = None
call_text way (Cancel id) = None
call_text way Poll = None

abbrev pub done_answer : CallKind → Answer
done_answer Read = Done
done_answer (Write v) = Done
done_answer (Invoke id input) = Finished None
done_answer (Query id) = Done
done_answer (Cancel id) = Done
done_answer Poll = Done

-- ---- actions

-- An Invoke writes the input's text and is finished, so that no invocation runs that could be queried or ended.
abbrev pub ActionAnswers : FilesSeen → FilesSeen → List ℕ → Notation → CallKind → Answer → Type 0
ActionAnswers before now name way Read answer = Refuses before now 0 answer
ActionAnswers before now name way (Write v) answer = Refuses before now 0 answer
ActionAnswers before now name way (Invoke id input) answer = DevicePuts before now name (input_written way input) (Finished None) answer
ActionAnswers before now name way (Query id) answer = Refuses before now 1 answer
ActionAnswers before now name way (Cancel id) answer = Refuses before now 1 answer
ActionAnswers before now name way Poll answer = Refuses before now 0 answer

-- ---- events

-- A Poll that finds this value comes about where it isn't the one that was found before.
pub data FiresIfOther (before v : Tree) (answer : Answer) : Type 0 where
  same : json_of before ≡ json_of v → answer ≡ Quiet → FiresIfOther before v answer
  other : json_of before ≢ json_of v → answer ≡ Fired v → FiresIfOther before v answer

-- What polls have found, when one more found no value: one that found no file before any value is remembered, and a
-- value that was found stays the last one.
abbrev pub still_found : FileFault → EventState → EventState
still_found fault.Absent state.Nothing = state.NoFile
still_found fault.Absent state.NoFile = state.NoFile
still_found fault.Absent (state.LastValue v) = state.LastValue v
still_found fault.Failed last = last
still_found fault.TooLong last = last
still_found fault.NoValue last = last
still_found fault.NoText last = last

-- The answer of a Poll that finds this, where the polls before found that, and what they all found then. The first value
-- has nothing to compare with where none of them found the file absent; else the file came, and so it is a change.
abbrev pub EventPolls : EventState → EventState → Result Tree FileFault → Answer → Type 0
EventPolls last next (Err f) answer = (next ≡ still_found f last) × (answer ≡ DeviceFault (fault_number f))
EventPolls state.Nothing next (Ok v) answer = (next ≡ state.LastValue v) × (answer ≡ Quiet)
EventPolls state.NoFile next (Ok v) answer = (next ≡ state.LastValue v) × (answer ≡ Fired v)
EventPolls (state.LastValue before) next (Ok v) answer = (next ≡ state.LastValue v) × FiresIfOther before v answer

pub data EventLooks (before now : FilesSeen) (name : List ℕ) (way : Notation) (last next : EventState) (answer : Answer) : Type 0 where
  polled : (found : Result Tree FileFault) → Finds before now name way found → EventPolls last next found answer → EventLooks before now name way last next answer

-- a call that is no Poll
abbrev pub EventRefuses : FilesSeen → FilesSeen → EventState → EventState → Answer → Type 0
EventRefuses before now last next answer = Refuses before now 0 answer × (next ≡ last)

abbrev pub EventAnswers : FilesSeen → FilesSeen → List ℕ → Notation → EventState → EventState → CallKind → Answer → Type 0
EventAnswers before now name way last next Read answer = EventRefuses before now last next answer
EventAnswers before now name way last next (Write v) answer = EventRefuses before now last next answer
EventAnswers before now name way last next (Invoke id input) answer = EventRefuses before now last next answer
EventAnswers before now name way last next (Query id) answer = EventRefuses before now last next answer
EventAnswers before now name way last next (Cancel id) answer = EventRefuses before now last next answer
EventAnswers before now name way last next Poll answer = EventLooks before now name way last next answer
