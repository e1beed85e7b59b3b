-- The calls of files in a call of a device.
use Rattle.std.proofs.Common.{◌≡◌, ℕ, true, false, List, [], ◌∷◌, Option, Some, None, refl, sym, ap, subst, ◌∙◌}
use Rattle.std.specs.Prelude.{Result, Ok, Err, IfOk}
use Rattle.std.specs.declared.alloc.AllocError.{AllocError}
use Rattle.wot_json.specs.declared.tree.Tree.{Tree}
use Rattle.servient_outside.specs.declared.files.Got.{Got}
use Rattle.servient_outside.proofs.ToldLaws.{continues_same}
use Rattle.thing_handler.specs.declared.handler.CallKind.{CallKind}
use Rattle.thing_handler.specs.declared.handler.CallKind.TheVariants.{Read, Write, Invoke, Query, Cancel, Poll}
use Rattle.thing_handler.specs.declared.handler.Answer.{Answer}
use Rattle.thing_handler.specs.declared.handler.Answer.TheVariants.{Refused}
use Rattle.file_devices.specs.declared.fault.FileFault.{FileFault}
use Rattle.file_devices.specs.declared.files.FileCall.{FileCall}
use Rattle.file_devices.specs.declared.files.FileCall.TheVariants as file_call
use Rattle.file_devices.specs.declared.files.Wrote.TheVariants as wrote
use Rattle.file_devices.specs.declared.notation.Notation.{Notation}
use Rattle.file_devices.specs.Devices.{Puts, PutsText, was_written, was_absent, has_failed, call_text, done_answer, put_answer}
use Rattle.file_devices.specs.Files.{FilesSeen, Reads, given_bytes}
use Rattle.file_devices.specs.Once.{Tells, ReadsAtMostOnce, not_read, was_read, WritesOnce, not_written, written, PropertyCalls, ActionCalls, EventCalls, is_done}

none_told : (P : List FileCall → Type 0) (files : FilesSeen) → P [] → Tells P files files
none_told P files holds = record { calls = []; told = holds; continued = continues_same files.calls }

pub read_told : (before now : FilesSeen) (name : List ℕ) (limit : ℕ) (got : Got) (into : List ℕ) → Reads before now name limit got into → Tells (ReadsAtMostOnce name) before now
read_told before now name limit got into reads =
    record { calls = file_call.Read name (given_bytes got into) got ∷ []; told = was_read (given_bytes got into) got refl; continued = reads.call }

-- ---- writing

not_done : (kept answer : Result Answer AllocError) → is_done answer ≡ false → IfOk kept (λ a. answer ≡ Ok a) → is_done kept ≡ false
not_done (Ok a) answer other same = sym (ap is_done same) ∙ other
not_done (Err e) answer other same = refl

done_is : (what : CallKind) → is_done (Ok (done_answer what)) ≡ true
done_is Read = refl
done_is (Write v) = refl
done_is (Invoke id input) = refl
done_is (Query id) = refl
done_is (Cancel id) = refl
done_is Poll = refl

text_told : (before now : FilesSeen) (name content : List ℕ) (what : CallKind) (was : Result (Unit {0}) FileFault) → PutsText before now name content was
    → Tells (WritesOnce name (Some content) (Ok (put_answer (done_answer what) was))) before now
text_told before now name content what was (was_written writes is) =
    subst (λ (w : Result (Unit {0}) FileFault). Tells (WritesOnce name (Some content) (Ok (put_answer (done_answer what) w))) before now) (sym is)
    (record { calls = file_call.Write name content wrote.Done ∷ []; told = written content wrote.Done _ refl refl refl (done_is what); continued = writes.call })
text_told before now name content what was (was_absent writes is) =
    subst (λ (w : Result (Unit {0}) FileFault). Tells (WritesOnce name (Some content) (Ok (put_answer (done_answer what) w))) before now) (sym is)
    (record { calls = file_call.Write name content wrote.Absent ∷ []; told = written content wrote.Absent _ refl refl refl refl; continued = writes.call })
text_told before now name content what was (has_failed writes is) =
    subst (λ (w : Result (Unit {0}) FileFault). Tells (WritesOnce name (Some content) (Ok (put_answer (done_answer what) w))) before now) (sym is)
    (record { calls = file_call.Write name content wrote.Failed ∷ []; told = written content wrote.Failed _ refl refl refl refl; continued = writes.call })

puts_told : (before now : FilesSeen) (name : List ℕ) (text : Option (List ℕ)) (what : CallKind) (was : Result (Unit {0}) FileFault) → Puts before now name text was
    → Tells (WritesOnce name text (Ok (put_answer (done_answer what) was))) before now
puts_told before now name None what was puts =
    subst (λ (n : FilesSeen). Tells (WritesOnce name None (Ok (put_answer (done_answer what) was))) before n) (sym puts.0)
    (subst (λ (w : Result (Unit {0}) FileFault). Tells (WritesOnce name None (Ok (put_answer (done_answer what) w))) before before) (sym puts.1)
    (none_told _ before (not_written refl refl)))
puts_told before now name (Some content) what was puts = text_told before now name content what was puts

pub put_told : (before now : FilesSeen) (name called : List ℕ) (wanted text : Option (List ℕ)) (what : CallKind) (answer : Answer) (was : Result (Unit {0}) FileFault)
    → called ≡ name → text ≡ wanted → Puts before now called text was → answer ≡ put_answer (done_answer what) was → Tells (WritesOnce name wanted (Ok answer)) before now
put_told before now name called wanted text what answer was same says puts is =
    subst (λ (n : List ℕ). Tells (WritesOnce n wanted (Ok answer)) before now) same
    (subst (λ (t : Option (List ℕ)). Tells (WritesOnce called t (Ok answer)) before now) says
    (subst (λ (a : Answer). Tells (WritesOnce called text (Ok a)) before now) (sym is) (puts_told before now called text what was puts)))

-- ---- calls that are refused

abbrev pub refusal : ℕ → Result Answer AllocError
refusal n = Ok (Refused n)

-- ---- properties

pub property_read : (before now : FilesSeen) (name : List ℕ) (way : Notation) (what : CallKind) (result : Result Answer AllocError) → what ≡ Read
    → Tells (ReadsAtMostOnce name) before now → Tells (PropertyCalls name way what result) before now
property_read before now name way what result is tells =
    subst (λ (w : CallKind). Tells (PropertyCalls name way w result) before now) (sym is) (record { calls = tells.calls; told = tells.told; continued = tells.continued })

pub property_write : (before now : FilesSeen) (name : List ℕ) (way : Notation) (what : CallKind) (v : Tree) (result : Result Answer AllocError) → what ≡ Write v
    → Tells (WritesOnce name (call_text way what) result) before now → Tells (PropertyCalls name way what result) before now
property_write before now name way what v result is tells =
    let so : Tells (WritesOnce name (call_text way (Write v)) result) before now = subst (λ (w : CallKind). Tells (WritesOnce name (call_text way w) result) before now) is tells in
    subst (λ (w : CallKind). Tells (PropertyCalls name way w result) before now) (sym is) (record { calls = so.calls; told = so.told; continued = so.continued })

property_none : (name : List ℕ) (way : Notation) (what : CallKind) (result : Result Answer AllocError) → is_done result ≡ false → PropertyCalls name way what result []
property_none name way Read result undone = not_read refl
property_none name way (Write v) result undone = not_written refl undone
property_none name way (Invoke id input) result undone = refl
property_none name way (Query id) result undone = refl
property_none name way (Cancel id) result undone = refl
property_none name way Poll result undone = refl

pub property_refused : (files : FilesSeen) (name : List ℕ) (way : Notation) (what : CallKind) (kept : Result Answer AllocError) (n : ℕ) → IfOk kept (λ a. refusal n ≡ Ok a)
    → Tells (PropertyCalls name way what kept) files files
property_refused files name way what kept n same =
    none_told (PropertyCalls name way what kept) files (property_none name way what kept (not_done kept (refusal n) refl same))

-- ---- actions

pub action_invoked : (before now : FilesSeen) (name : List ℕ) (way : Notation) (what : CallKind) (id : ℕ) (input : Option Tree) (result : Result Answer AllocError) → what ≡ Invoke id input
    → Tells (WritesOnce name (call_text way what) result) before now → Tells (ActionCalls name way what result) before now
action_invoked before now name way what id input result is tells =
    let so : Tells (WritesOnce name (call_text way (Invoke id input)) result) before now = subst (λ (w : CallKind). Tells (WritesOnce name (call_text way w) result) before now) is tells in
    subst (λ (w : CallKind). Tells (ActionCalls name way w result) before now) (sym is) (record { calls = so.calls; told = so.told; continued = so.continued })

action_none : (name : List ℕ) (way : Notation) (what : CallKind) (result : Result Answer AllocError) → is_done result ≡ false → ActionCalls name way what result []
action_none name way Read result undone = refl
action_none name way (Write v) result undone = refl
action_none name way (Invoke id input) result undone = not_written refl undone
action_none name way (Query id) result undone = refl
action_none name way (Cancel id) result undone = refl
action_none name way Poll result undone = refl

pub action_refused : (files : FilesSeen) (name : List ℕ) (way : Notation) (what : CallKind) (kept : Result Answer AllocError) (n : ℕ) → IfOk kept (λ a. refusal n ≡ Ok a)
    → Tells (ActionCalls name way what kept) files files
action_refused files name way what kept n same =
    none_told (ActionCalls name way what kept) files (action_none name way what kept (not_done kept (refusal n) refl same))

-- ---- events

pub event_polled : (before now : FilesSeen) (name : List ℕ) (what : CallKind) → what ≡ Poll → Tells (ReadsAtMostOnce name) before now → Tells (EventCalls name what) before now
event_polled before now name what is tells =
    subst (λ (w : CallKind). Tells (EventCalls name w) before now) (sym is) (record { calls = tells.calls; told = tells.told; continued = tells.continued })

event_none : (name : List ℕ) (what : CallKind) → EventCalls name what []
event_none name Read = refl
event_none name (Write v) = refl
event_none name (Invoke id input) = refl
event_none name (Query id) = refl
event_none name (Cancel id) = refl
event_none name Poll = not_read refl

pub event_refused : (files : FilesSeen) (name : List ℕ) (what : CallKind) → Tells (EventCalls name what) files files
event_refused files name what = none_told (EventCalls name what) files (event_none name what)
