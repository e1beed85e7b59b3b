-- From what the steps of an action that runs on give to what it answers.
use Rattle.std.proofs.Common.{◌≡◌, ℕ, List, [], Option, Some, refl, sym, ap, subst, ◌∙◌}
use Rattle.std.specs.Prelude.{Result, Ok, Err, IfOk}
use Rattle.std.specs.declared.alloc.AllocError.{AllocError}
use Rattle.thing_handler.specs.declared.handler.Answer.{Answer}
use Rattle.thing_handler.specs.declared.handler.Answer.TheVariants.{Started, Cancelled}
use Rattle.file_devices.specs.declared.entry.RunningDevice.{RunningDevice}
use Rattle.file_devices.specs.declared.fault.FileFault.{FileFault}
use Rattle.file_devices.specs.declared.running.Asked.{Asked}
use Rattle.file_devices.specs.declared.running.Asked.TheVariants as asked
use Rattle.file_devices.specs.declared.starting.StartTexts.{StartTexts}
use Rattle.file_devices.specs.declared.stopping.StopTexts.{StopTexts}
use Rattle.file_devices.specs.Devices.{FindsContent, PutsText, put_answer}
use Rattle.file_devices.specs.Files.{FilesSeen}
use Rattle.file_devices.specs.Once.{Tells, ReadsAtMostOnce, QueryCalls}
use Rattle.file_devices.specs.Running.{hindrance, ready_by, HandsIn, undone, Begins, unmarked, marked, last_after, RunInvokes, kept_from, begins, StatusAnswers, StatusAsked, status_read, Stops, unsaid, said, stop, stop_texts, CancelsLast}
use Rattle.file_devices.proofs.Looks.{answered}

-- ---- an Invoke

pub undone_so : (before refused now : FilesSeen) (d : RunningDevice) (action status input none : List ℕ) (put emptied : Result (Unit {0}) FileFault) (f : FileFault) → action ≡ d.action → status ≡ d.status
    → none ≡ [] → put ≡ Err f → PutsText before refused action input put → PutsText refused now status none emptied → HandsIn before now d input (Err f)
undone_so before refused now d action status input none put emptied f acts says empty is puts empties =
    undone refused f emptied
    (subst (λ (n : List ℕ). PutsText before refused n input (Err f)) acts (subst (λ (p : Result (Unit {0}) FileFault). PutsText before refused action input p) is puts))
    (subst (λ (n : List ℕ). PutsText refused now n [] emptied) says (subst (λ (t : List ℕ). PutsText refused now status t emptied) empty empties)) refl

pub unmarked_so : (before now : FilesSeen) (d : RunningDevice) (status : List ℕ) (texts : StartTexts) (put : Result (Unit {0}) FileFault) (f : FileFault) → status ≡ d.status → put ≡ Err f
    → PutsText before now status texts.running put → Begins before now d texts (Err f)
unmarked_so before now d status texts put f says is puts =
    unmarked f (subst (λ (n : List ℕ). PutsText before now n texts.running (Err f)) says (subst (λ (p : Result (Unit {0}) FileFault). PutsText before now status texts.running p) is puts)) refl

pub marked_so : (before mid now : FilesSeen) (d : RunningDevice) (status : List ℕ) (texts : StartTexts) (put begun : Result (Unit {0}) FileFault) → status ≡ d.status → put ≡ Ok tt
    → PutsText before mid status texts.running put → HandsIn mid now d texts.input begun → Begins before now d texts begun
marked_so before mid now d status texts put begun says is puts hands =
    marked mid (subst (λ (n : List ℕ). PutsText before mid n texts.running (Ok tt)) says (subst (λ (p : Result (Unit {0}) FileFault). PutsText before mid status texts.running p) is puts)) hands

abbrev kept_in : Answer → Result Answer AllocError → Answer
kept_in other (Ok a) = a
kept_in other (Err e) = other

-- an Invoke that isn't begun, whose turn was kept
pub kept_so : (before now : FilesSeen) (d : RunningDevice) (called : List ℕ) (id : ℕ) (text : Option (List ℕ)) (last : Option ℕ) (status : Result (List ℕ) FileFault)
    (ready : Result StartTexts Answer) (answer : Answer) (kept : Result Answer AllocError) → called ≡ d.status → FindsContent before now called status
    → ready ≡ ready_by (hindrance status) text → ready ≡ Err answer → IfOk kept (λ a. answered answer ≡ answered a) → IfOk kept (RunInvokes before now d id text last last)
kept_so before now d called id text last status ready answer (Ok kept) says finds is err same =
    subst (λ (a : Answer). RunInvokes before now d id text last last a) (ap (kept_in answer) same)
    (kept_from status (subst (λ (n : List ℕ). FindsContent before now n status) says finds) (sym is ∙ err) refl)
kept_so before now d called id text last status ready answer (Err e) says finds is err same = tt

-- one that is begun, or for which a write failed
pub begun_so : (before seen now : FilesSeen) (d : RunningDevice) (called : List ℕ) (id : ℕ) (text : Option (List ℕ)) (last next : Option ℕ) (status : Result (List ℕ) FileFault)
    (ready : Result StartTexts Answer) (texts : StartTexts) (begun : Result (Unit {0}) FileFault) (answer : Answer) → called ≡ d.status → FindsContent before seen called status
    → ready ≡ ready_by (hindrance status) text → ready ≡ Ok texts → Begins seen now d texts begun → next ≡ last_after last id begun → answer ≡ put_answer Started begun
    → RunInvokes before now d id text last next answer
begun_so before seen now d called id text last next status ready texts begun answer says finds is ok starts after gives =
    begins status seen texts begun (subst (λ (n : List ℕ). FindsContent before seen n status) says finds) (sym is ∙ ok) starts gives after

-- ---- a Query

pub status_asked : (before now : FilesSeen) (d : RunningDevice) (called : List ℕ) (status : Result (List ℕ) FileFault) (r : Result Answer AllocError) → called ≡ d.status
    → FindsContent before now called status → IfOk r (StatusAnswers d.notation status) → IfOk r (StatusAsked before now d)
status_asked before now d called status (Ok answer) says finds answers = status_read status (subst (λ (n : List ℕ). FindsContent before now n status) says finds) answers
status_asked before now d called status (Err e) says finds answers = tt

pub query_told : (before now : FilesSeen) (d : RunningDevice) (which : Asked) → asked.Last ≡ which → Tells (ReadsAtMostOnce d.status) before now → Tells (QueryCalls d which) before now
query_told before now d which is told =
    subst (λ (w : Asked). Tells (QueryCalls d w) before now) is (record { calls = told.calls; told = told.told; continued = told.continued })

-- ---- a Cancel

pub unsaid_so : (before now : FilesSeen) (cancel status : List ℕ) (texts : StopTexts) (put : Result (Unit {0}) FileFault) (f : FileFault) → put ≡ Err f → PutsText before now cancel texts.id put
    → Stops before now cancel status texts (Err f)
unsaid_so before now cancel status texts put f is puts = unsaid f (subst (λ (p : Result (Unit {0}) FileFault). PutsText before now cancel texts.id p) is puts) refl

pub said_so : (before mid now : FilesSeen) (cancel status : List ℕ) (texts : StopTexts) (put stopped : Result (Unit {0}) FileFault) → put ≡ Ok tt → PutsText before mid cancel texts.id put
    → PutsText mid now status texts.cancelled stopped → Stops before now cancel status texts stopped
said_so before mid now cancel status texts put stopped is puts ends = said mid (subst (λ (p : Result (Unit {0}) FileFault). PutsText before mid cancel texts.id p) is puts) ends

pub cancels_last : (before now : FilesSeen) (wanted : Option (List ℕ)) (path called status says : List ℕ) (id : ℕ) (texts : StopTexts) (stopped : Result (Unit {0}) FileFault) (answer : Answer)
    → wanted ≡ Some path → called ≡ path → says ≡ status → texts ≡ stop_texts id → Stops before now called says texts stopped → answer ≡ put_answer Cancelled stopped
    → CancelsLast before now wanted status id answer
cancels_last before now wanted path called status says id texts stopped answer is same also written stops gives =
    let there : Stops before now path status (stop_texts id) stopped =
    subst (λ (n : List ℕ). Stops before now n status (stop_texts id) stopped) same
    (subst (λ (n : List ℕ). Stops before now called n (stop_texts id) stopped) also
    (subst (λ (t : StopTexts). Stops before now called says t stopped) written stops)) in
    subst (λ (o : Option (List ℕ)). CancelsLast before now o status id answer) (sym is) (stop stopped there gives)
