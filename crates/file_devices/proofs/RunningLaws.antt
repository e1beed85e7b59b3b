-- The calls of files in a call of an action that runs on: where it was answered they are those of its answer.
use Rattle.std.proofs.Common.{◌≡◌, ℕ, Bool, true, false, cond, List, [], ◌∷◌, codes, decimal, Option, Some, None, refl, sym, ap, subst, ◌∙◌}
use Rattle.std.specs.Prelude.{Result, Ok, Err, IfOk, OnErr, IfSome}
use Rattle.std.specs.declared.alloc.AllocError.{AllocError}
use Rattle.wot_json.specs.declared.tree.Tree.{Tree}
use Rattle.servient_outside.specs.declared.files.Got.{Got}
use Rattle.servient_outside.specs.declared.files.Got.TheVariants as got
use Rattle.servient_outside.proofs.ToldLaws.{continues_same, continues_then}
use Rattle.thing_handler.specs.declared.handler.CallKind.{CallKind}
use Rattle.thing_handler.specs.declared.handler.CallKind.TheVariants.{Invoke, Query, Cancel}
use Rattle.thing_handler.specs.declared.handler.Answer.{Answer}
use Rattle.thing_handler.specs.declared.handler.Answer.TheVariants.{Started, Cancelled, Refused, DeviceFault}
use Rattle.file_devices.specs.declared.entry.RunningDevice.{RunningDevice}
use Rattle.file_devices.specs.declared.fault.FileFault.{FileFault}
use Rattle.file_devices.specs.declared.fault.FileFault.TheVariants as fault
use Rattle.file_devices.specs.declared.files.FileCall.{FileCall}
use Rattle.file_devices.specs.declared.files.FileCall.TheVariants as file_call
use Rattle.file_devices.specs.declared.files.Wrote.{Wrote}
use Rattle.file_devices.specs.declared.files.Wrote.TheVariants as wrote
use Rattle.file_devices.specs.declared.running.Asked.{Asked}
use Rattle.file_devices.specs.declared.running.Asked.TheVariants as asked
use Rattle.file_devices.specs.declared.starting.StartTexts.{StartTexts}
use Rattle.file_devices.specs.Devices.{FindsContent, whole, absent, too_long, failed, PutsText, was_written, was_absent, has_failed, call_text, fault_number, put_answer}
use Rattle.file_devices.specs.Files.{FilesSeen, MakesCall}
use Rattle.file_devices.specs.Once.{Tells, ReadsAtMostOnce, was_read, InvokeCalls, looked, status_unwritten, was_handed_in, was_undone, QueryCalls, StopCalls, out_of_memory, id_unwritten, end_unwritten, was_cancelled, LastCalls, CancelCalls, RunningCalls, is_done, is_written}
use Rattle.file_devices.specs.Running.{hindrance, says_running, ready_by, HandsIn, handed_in, undone, Begins, unmarked, marked, RunInvokes, kept_from, begins, asked_of, Stops, unsaid, said, stop, stop_texts, CancelsLast, RunCancels}

-- ---- one call

-- the read of a look
abbrev Looked : FilesSeen → FilesSeen → List ℕ → Type 0
Looked before now name = (bytes : List ℕ) × (got : Got) × MakesCall before now (file_call.Read name bytes got)

looked_by : (before now : FilesSeen) (name : List ℕ) (content : Result (List ℕ) FileFault) → FindsContent before now name content → Looked before now name
looked_by before now name content (whole bytes short holds asks is) = (bytes, got.Whole, asks.call)
looked_by before now name content (absent holds asks is) = ([], got.Absent, asks.call)
looked_by before now name content (too_long holds asks is) = ([], got.TooLong, asks.call)
looked_by before now name content (failed fails held call is) = ([], got.Failed, call)

-- the write of a text that was put, and of one that wasn't
put_done : (before now : FilesSeen) (name text : List ℕ) → PutsText before now name text (Ok tt) → MakesCall before now (file_call.Write name text wrote.Done)
put_done before now name text (was_written writes is) = writes.call
put_done before now name text (was_absent writes is) = absurd cc
put_done before now name text (has_failed writes is) = absurd cc

abbrev NotPut : FilesSeen → FilesSeen → List ℕ → List ℕ → Type 0
NotPut before now name text = (w : Wrote) × (is_written w ≡ false) × MakesCall before now (file_call.Write name text w)

not_put : (before now : FilesSeen) (name text : List ℕ) (f : FileFault) → PutsText before now name text (Err f) → NotPut before now name text
not_put before now name text f (was_written writes is) = absurd cc
not_put before now name text f (was_absent writes is) = (wrote.Absent, refl, writes.call)
not_put before now name text f (has_failed writes is) = (wrote.Failed, refl, writes.call)

abbrev AnyPut : FilesSeen → FilesSeen → List ℕ → List ℕ → Type 0
AnyPut before now name text = (w : Wrote) × MakesCall before now (file_call.Write name text w)

any_put : (before now : FilesSeen) (name text : List ℕ) (put : Result (Unit {0}) FileFault) → PutsText before now name text put → AnyPut before now name text
any_put before now name text put (was_written writes is) = (wrote.Done, writes.call)
any_put before now name text put (was_absent writes is) = (wrote.Absent, writes.call)
any_put before now name text put (has_failed writes is) = (wrote.Failed, writes.call)

-- ---- an Invoke

-- what hinders an Invoke doesn't say that it was done
busy_undone : (b : Bool) → IfSome (cond b (Some (Refused 3)) None) (λ a. is_done (Ok a) ≡ false)
busy_undone true = refl
busy_undone false = tt

hindrance_undone : (status : Result (List ℕ) FileFault) → IfSome (hindrance status) (λ a. is_done (Ok a) ≡ false)
hindrance_undone (Ok content) = busy_undone (says_running content)
hindrance_undone (Err fault.Absent) = tt
hindrance_undone (Err fault.Failed) = refl
hindrance_undone (Err fault.TooLong) = refl
hindrance_undone (Err fault.NoValue) = refl
hindrance_undone (Err fault.NoText) = refl

abbrev answer_in : Answer → Result StartTexts Answer → Answer
answer_in other (Ok texts) = other
answer_in other (Err answer) = answer

abbrev refused_texts : Answer → Result StartTexts Answer
refused_texts answer = Err answer

answer_is : (a b : Answer) → refused_texts a ≡ refused_texts b → a ≡ b
answer_is a b same = ap (answer_in a) same

ready_undone : (h : Option Answer) (text : Option (List ℕ)) (answer : Answer) → IfSome h (λ a. is_done (Ok a) ≡ false) → ready_by h text ≡ Err answer → is_done (Ok answer) ≡ false
ready_undone (Some a) text answer other is = subst (λ (b : Answer). is_done (Ok b) ≡ false) (answer_is a answer is) other
ready_undone None None answer other is = subst (λ (b : Answer). is_done (Ok b) ≡ false) (answer_is (DeviceFault (fault_number fault.NoText)) answer is) refl
ready_undone None (Some t) answer other is = absurd cc

-- the texts that are written
abbrev texts_in : StartTexts → Result StartTexts Answer → StartTexts
texts_in other (Ok texts) = texts
texts_in other (Err answer) = other

ready_texts : (h : Option Answer) (text : Option (List ℕ)) (texts : StartTexts) → ready_by h text ≡ Ok texts
    → (text ≡ Some texts.input) × (texts ≡ record { running = codes "running"; input = texts.input })
ready_texts (Some a) text texts is = absurd cc
ready_texts None None texts is = absurd cc
ready_texts None (Some t) texts is =
    let same : record { running = codes "running"; input = t } ≡ texts = ap (texts_in texts) is in
    (ap (λ (u : StartTexts). Some u.input) same, sym same ∙ ap (λ (u : StartTexts). record { running = codes "running"; input = u.input }) same)

handed_told : (before seen mid now : FilesSeen) (d : RunningDevice) (content bytes : List ℕ) (got : Got) (begun : Result (Unit {0}) FileFault)
    → MakesCall before seen (file_call.Read d.status bytes got) → MakesCall seen mid (file_call.Write d.status (codes "running") wrote.Done) → HandsIn mid now d content begun
    → Tells (InvokeCalls d (Some content) (Ok (put_answer Started begun))) before now
handed_told before seen mid now d content bytes got begun read mark (handed_in puts is) =
    let p = put_done mid now d.action content puts in
    subst (λ (b : Result (Unit {0}) FileFault). Tells (InvokeCalls d (Some content) (Ok (put_answer Started b))) before now) (sym is)
    (record {
      calls = file_call.Read d.status bytes got ∷ file_call.Write d.status (codes "running") wrote.Done ∷ file_call.Write d.action content wrote.Done ∷ [];
      told = was_handed_in bytes content got refl refl refl;
      continued = continues_then before.calls mid.calls now.calls _ _ (continues_then before.calls seen.calls mid.calls _ _ read mark) p;
    })
handed_told before seen mid now d content bytes got begun read mark (undone refused f emptied puts empties is) =
    let n = not_put mid refused d.action content f puts in
    let e = any_put refused now d.status [] emptied empties in
    subst (λ (b : Result (Unit {0}) FileFault). Tells (InvokeCalls d (Some content) (Ok (put_answer Started b))) before now) (sym is)
    (record {
      calls = file_call.Read d.status bytes got ∷ file_call.Write d.status (codes "running") wrote.Done ∷ file_call.Write d.action content n.0 ∷ file_call.Write d.status [] e.0 ∷ [];
      told = was_undone bytes content got n.0 e.0 (fault_number f) refl refl n.1 refl;
      continued = continues_then before.calls refused.calls now.calls _ _
          (continues_then before.calls mid.calls refused.calls _ _ (continues_then before.calls seen.calls mid.calls _ _ read mark) n.2) e.1;
    })

begin_told : (before seen now : FilesSeen) (d : RunningDevice) (content bytes : List ℕ) (got : Got) (begun : Result (Unit {0}) FileFault)
    → MakesCall before seen (file_call.Read d.status bytes got) → Begins seen now d (record { running = codes "running"; input = content }) begun
    → Tells (InvokeCalls d (Some content) (Ok (put_answer Started begun))) before now
begin_told before seen now d content bytes got begun read (unmarked f puts is) =
    let n = not_put seen now d.status (codes "running") f puts in
    subst (λ (b : Result (Unit {0}) FileFault). Tells (InvokeCalls d (Some content) (Ok (put_answer Started b))) before now) (sym is)
    (record {
      calls = file_call.Read d.status bytes got ∷ file_call.Write d.status (codes "running") n.0 ∷ [];
      told = status_unwritten bytes got n.0 (fault_number f) refl n.1 refl;
      continued = continues_then before.calls seen.calls now.calls _ _ read n.2;
    })
begin_told before seen now d content bytes got begun read (marked mid marks hands) =
    handed_told before seen mid now d content bytes got begun read (put_done seen mid d.status (codes "running") marks) hands

invoke_told : (before now : FilesSeen) (d : RunningDevice) (id : ℕ) (text : Option (List ℕ)) (last next : Option ℕ) (answer : Answer) → RunInvokes before now d id text last next answer
    → Tells (InvokeCalls d text (Ok answer)) before now
invoke_told before now d id text last next answer (kept_from status finds hinders same) =
    let l = looked_by before now d.status status finds in
    record {
      calls = file_call.Read d.status l.0 l.1 ∷ [];
      told = looked (was_read l.0 l.1 refl) (ready_undone (hindrance status) text answer (hindrance_undone status) hinders);
      continued = l.2;
    }
invoke_told before now d id text last next answer (begins status seen texts begun finds ready starts is same) =
    let l = looked_by before seen d.status status finds in
    let t = ready_texts (hindrance status) text texts ready in
    subst (λ (a : Answer). Tells (InvokeCalls d text (Ok a)) before now) (sym is)
    (subst (λ (o : Option (List ℕ)). Tells (InvokeCalls d o (Ok (put_answer Started begun))) before now) (sym t.0)
    (begin_told before seen now d texts.input l.0 l.1 begun l.2 (subst (λ (u : StartTexts). Begins seen now d u begun) t.1 starts)))

invoke_missed : (before now : FilesSeen) (d : RunningDevice) (text : Option (List ℕ)) (e : AllocError) → Tells (ReadsAtMostOnce d.status) before now
    → Tells (InvokeCalls d text (Err e)) before now
invoke_missed before now d text e tells = record { calls = tells.calls; told = looked tells.told refl; continued = tells.continued }

pub running_invoked : (before now : FilesSeen) (d : RunningDevice) (last next : Option ℕ) (what : CallKind) (id : ℕ) (input : Option Tree) (result : Result Answer AllocError)
    → what ≡ Invoke id input → IfOk result (RunInvokes before now d id (call_text d.notation what) last next) → OnErr result (Tells (ReadsAtMostOnce d.status) before now)
    → Tells (RunningCalls d last what result) before now
running_invoked before now d last next what id input (Ok answer) is invokes missed =
    let so : RunInvokes before now d id (call_text d.notation (Invoke id input)) last next answer = subst (λ (w : CallKind). RunInvokes before now d id (call_text d.notation w) last next answer) is invokes in
    let told = invoke_told before now d id _ last next answer so in
    subst (λ (w : CallKind). Tells (RunningCalls d last w (Ok answer)) before now) (sym is) (record { calls = told.calls; told = told.told; continued = told.continued })
running_invoked before now d last next what id input (Err e) is invokes missed =
    let told = invoke_missed before now d (call_text d.notation (Invoke id input)) e missed in
    subst (λ (w : CallKind). Tells (RunningCalls d last w (Err e)) before now) (sym is) (record { calls = told.calls; told = told.told; continued = told.continued })

-- ---- a Query

pub running_queried : (before now : FilesSeen) (d : RunningDevice) (last : Option ℕ) (what : CallKind) (id : ℕ) (result : Result Answer AllocError) → what ≡ Query id
    → Tells (QueryCalls d (asked_of last id)) before now → Tells (RunningCalls d last what result) before now
running_queried before now d last what id result is told =
    subst (λ (w : CallKind). Tells (RunningCalls d last w result) before now) (sym is) (record { calls = told.calls; told = told.told; continued = told.continued })

-- ---- a Cancel

stop_told : (before now : FilesSeen) (cancel status : List ℕ) (id : ℕ) (stopped : Result (Unit {0}) FileFault) → Stops before now cancel status (stop_texts id) stopped
    → Tells (StopCalls cancel status id (Ok (put_answer Cancelled stopped))) before now
stop_told before now cancel status id stopped (unsaid f puts is) =
    let n = not_put before now cancel (decimal id) f puts in
    subst (λ (b : Result (Unit {0}) FileFault). Tells (StopCalls cancel status id (Ok (put_answer Cancelled b))) before now) (sym is)
    (record { calls = file_call.Write cancel (decimal id) n.0 ∷ []; told = id_unwritten n.0 (fault_number f) refl n.1 refl; continued = n.2 })
stop_told before now cancel status id (Ok tt) (said mid puts ends) =
    record {
      calls = file_call.Write cancel (decimal id) wrote.Done ∷ file_call.Write status (codes "cancelled") wrote.Done ∷ [];
      told = was_cancelled refl refl;
      continued = continues_then before.calls mid.calls now.calls _ _ (put_done before mid cancel (decimal id) puts) (put_done mid now status (codes "cancelled") ends);
    }
stop_told before now cancel status id (Err f) (said mid puts ends) =
    let n = not_put mid now status (codes "cancelled") f ends in
    record {
      calls = file_call.Write cancel (decimal id) wrote.Done ∷ file_call.Write status (codes "cancelled") n.0 ∷ [];
      told = end_unwritten n.0 (fault_number f) refl n.1 refl;
      continued = continues_then before.calls mid.calls now.calls _ _ (put_done before mid cancel (decimal id) puts) n.2;
    }

untouched : (P : List FileCall → Type 0) (before now : FilesSeen) → now ≡ before → P [] → Tells P before now
untouched P before now same holds =
    subst (λ (n : FilesSeen). Tells P before n) (sym same) (record { calls = []; told = holds; continued = continues_same before.calls })

cancels_told : (before now : FilesSeen) (cancel : Option (List ℕ)) (status : List ℕ) (id : ℕ) (answer : Answer) → CancelsLast before now cancel status id answer
    → Tells (LastCalls cancel status id (Ok answer)) before now
cancels_told before now None status id answer refuses = untouched (λ (calls : List FileCall). calls ≡ []) before now refuses.0 refl
cancels_told before now (Some cancel) status id answer (stop stopped stops is) =
    subst (λ (a : Answer). Tells (StopCalls cancel status id (Ok a)) before now) (sym is) (stop_told before now cancel status id stopped stops)

cancel_told : (before now : FilesSeen) (d : RunningDevice) (which : Asked) (id : ℕ) (answer : Answer) → RunCancels before now d which id answer
    → Tells (CancelCalls d which id (Ok answer)) before now
cancel_told before now d asked.NoneBegun id answer refuses = untouched (λ (calls : List FileCall). calls ≡ []) before now refuses.0 refl
cancel_told before now d asked.Earlier id answer over = untouched (λ (calls : List FileCall). calls ≡ []) before now over.0 refl
cancel_told before now d asked.Last id answer cancels = cancels_told before now d.cancel d.status id answer cancels

last_missed : (cancel : Option (List ℕ)) (status : List ℕ) (id : ℕ) (e : AllocError) → LastCalls cancel status id (Err e) []
last_missed None status id e = refl
last_missed (Some cancel) status id e = out_of_memory e refl refl

cancel_missed : (d : RunningDevice) (which : Asked) (id : ℕ) (e : AllocError) → CancelCalls d which id (Err e) []
cancel_missed d asked.NoneBegun id e = refl
cancel_missed d asked.Earlier id e = refl
cancel_missed d asked.Last id e = last_missed d.cancel d.status id e

pub running_cancelled : {D : Type 0} (seen : D → FilesSeen) (before now : D) (d : RunningDevice) (last : Option ℕ) (what : CallKind) (id : ℕ) (result : Result Answer AllocError) → what ≡ Cancel id
    → IfOk result (RunCancels (seen before) (seen now) d (asked_of last id) id) → OnErr result (now ≡ before) → Tells (RunningCalls d last what result) (seen before) (seen now)
running_cancelled seen before now d last what id (Ok answer) is cancels missed =
    let told = cancel_told (seen before) (seen now) d (asked_of last id) id answer cancels in
    subst (λ (w : CallKind). Tells (RunningCalls d last w (Ok answer)) (seen before) (seen now)) (sym is) (record { calls = told.calls; told = told.told; continued = told.continued })
running_cancelled seen before now d last what id (Err e) is cancels missed =
    let told = untouched (CancelCalls d (asked_of last id) id (Err e)) (seen before) (seen now) (ap seen missed) (cancel_missed d (asked_of last id) id e) in
    subst (λ (w : CallKind). Tells (RunningCalls d last w (Err e)) (seen before) (seen now)) (sym is) (record { calls = told.calls; told = told.told; continued = told.continued })
