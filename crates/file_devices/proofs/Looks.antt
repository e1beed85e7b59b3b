-- From what the steps of a device give to what its handler answers.
use Rattle.std.proofs.Common.{◌≡◌, ◌≢◌, ◌≤◌, ◌<◌, ℕ, List, Option, Some, length, refl, sym, ap, ◌∙◌, subst, arith}
use Rattle.std.specs.Prelude.{Result, Ok, Err, IfOk}
use Rattle.std.specs.declared.alloc.AllocError.{AllocError}
use Rattle.wot_json.specs.Json.{json_text}
use Rattle.wot_json.specs.declared.tree.Tree.{Tree}
use Rattle.servient_outside.specs.declared.files.Got.{Got}
use Rattle.servient_outside.specs.declared.files.Got.TheVariants.{Whole, Absent, TooLong, Failed}
use Rattle.thing_handler.specs.declared.handler.Answer.{Answer}
use Rattle.std.specs.Option.{unwrap_or}
use Rattle.file_devices.specs.declared.event.EventState.{EventState}
use Rattle.file_devices.specs.declared.event.Polled.{Polled}
use Rattle.file_devices.specs.declared.fault.FileFault.{FileFault}
use Rattle.file_devices.specs.declared.fault.FileFault.TheVariants as fault
use Rattle.file_devices.specs.declared.notation.Notation.{Notation}
use Rattle.file_devices.specs.Files.{FilesSeen, Asks, Reads, given_bytes}
use Rattle.file_devices.specs.Values.{longest, trimmed, Says, ComesTo, value, long_text}
use Rattle.file_devices.specs.Devices.{FindsContent, whole, absent, too_long, failed, Finds, by_content, no_content, Puts, put_answer, DevicePuts, put, EventPolls, EventLooks, polled}

pub value_comes : (way : Notation) (bytes text : List ℕ) (o : Option Tree) (v : Tree) → text ≡ trimmed bytes → Says way text o → o ≡ Some v
    → (written : List ℕ) (count : ℕ) → written ≡ json_text v → count ≡ length written → count ≤ longest → ComesTo way bytes (Ok v)
value_comes way bytes text o v cut says some written count is counted short =
    let short_text : length (json_text v) ≤ longest = subst (λ (t : List ℕ). length t ≤ longest) is (omega arith) in
    value v (subst (λ t. Says way t (Some v)) cut (subst (Says way text) some says)) short_text refl

pub long_comes : (way : Notation) (bytes text : List ℕ) (o : Option Tree) (v : Tree) → text ≡ trimmed bytes → Says way text o → o ≡ Some v
    → (written : List ℕ) (count : ℕ) → written ≡ json_text v → count ≡ length written → longest < count → ComesTo way bytes (Err fault.TooLong)
long_comes way bytes text o v cut says some written count is counted long =
    let long_one : longest < length (json_text v) = subst (λ (t : List ℕ). longest < length t) is (omega arith) in
    long_text v (subst (λ t. Says way t (Some v)) cut (subst (Says way text) some says)) long_one refl

asked : (before now : FilesSeen) (name : List ℕ) (got : Got) (bytes : List ℕ) → Reads before now name longest got bytes → got ≢ Failed → Asks before now name (given_bytes got bytes) got
asked before now name got bytes reads went = record { held = reads.held; call = reads.call; faults = reads.same went }

pub absent_found : (before now : FilesSeen) (name : List ℕ) (bytes : List ℕ) → Reads before now name longest Absent bytes → FindsContent before now name (Err fault.Absent)
absent_found before now name bytes reads = absent reads.answer (asked before now name Absent bytes reads (λ (e : Absent ≡ Failed). absurd cc)) refl

pub too_long_found : (before now : FilesSeen) (name : List ℕ) (bytes : List ℕ) → Reads before now name longest TooLong bytes → FindsContent before now name (Err fault.TooLong)
too_long_found before now name bytes reads = too_long reads.answer (asked before now name TooLong bytes reads (λ (e : TooLong ≡ Failed). absurd cc)) refl

pub failed_found : (before now : FilesSeen) (name : List ℕ) (bytes : List ℕ) → Reads before now name longest Failed bytes → FindsContent before now name (Err fault.Failed)
failed_found before now name bytes reads = failed (reads.failed refl) reads.held reads.call refl

pub whole_found : (before now : FilesSeen) (name : List ℕ) (bytes : List ℕ) → Reads before now name longest Whole bytes → FindsContent before now name (Ok bytes)
whole_found before now name bytes reads = whole bytes reads.answer.0 reads.answer.1 (asked before now name Whole bytes reads (λ (e : Whole ≡ Failed). absurd cc)) refl

-- the value of a content that was found
pub content_valued : (before now : FilesSeen) (name called : List ℕ) (way : Notation) (content : Result (List ℕ) FileFault) (bytes seen : List ℕ)
    (r : Result (Result Tree FileFault) AllocError) → called ≡ name → content ≡ Ok bytes → seen ≡ bytes → FindsContent before now called content → IfOk r (ComesTo way seen)
    → IfOk r (Finds before now name way)
content_valued before now name called way content bytes seen (Ok found) same is read finds comes =
    by_content bytes (subst (λ (n : List ℕ). FindsContent before now n (Ok bytes)) same (subst (λ (o : Result (List ℕ) FileFault). FindsContent before now called o) is finds))
    (subst (λ (b : List ℕ). ComesTo way b found) read comes)
content_valued before now name called way content bytes seen (Err e) same is read finds comes = tt

pub content_missing : (before now : FilesSeen) (name called : List ℕ) (way : Notation) (content : Result (List ℕ) FileFault) (f : FileFault) → called ≡ name → content ≡ Err f
    → FindsContent before now called content → Finds before now name way (Err f)
content_missing before now name called way content f same is finds =
    no_content f (subst (λ (n : List ℕ). FindsContent before now n (Err f)) same (subst (λ (o : Result (List ℕ) FileFault). FindsContent before now called o) is finds)) refl

pub puts_device : (before now : FilesSeen) (name called : List ℕ) (wanted text : Option (List ℕ)) (meant answer : Answer) (was : Result (Unit {0}) FileFault) → called ≡ name → text ≡ wanted
    → Puts before now called text was → answer ≡ put_answer meant was → DevicePuts before now name wanted meant answer
puts_device before now name called wanted text meant answer was same says puts is =
    put was (subst (λ t. Puts before now name t was) says (subst (λ n. Puts before now n text was) same puts)) is

pub event_looks : (before now : FilesSeen) (name : List ℕ) (way : Notation) (last : EventState) (found : Result Tree FileFault) (r : Result Polled AllocError)
    → Finds before now name way found → IfOk r (λ p. EventPolls last (unwrap_or p.found last) found p.answer)
    → IfOk r (λ p. EventLooks before now name way last (unwrap_or p.found last) p.answer)
event_looks before now name way last found (Ok p) finds polls = polled found finds polls
event_looks before now name way last found (Err e) finds polls = tt

abbrev pub answered : Answer → Result Answer AllocError
answered a = Ok a

abbrev answer_in : Answer → Result Answer AllocError → Answer
answer_in other (Ok a) = a
answer_in other (Err e) = other

-- a Poll whose turn was kept, and the last value then
pub looks_kept : (before now : FilesSeen) (name : List ℕ) (way : Notation) (last was next : EventState) (found : Option EventState) (given kept : Answer) → EventLooks before now name way last (unwrap_or found last) given
    → was ≡ last → next ≡ unwrap_or found was → answered given ≡ answered kept → EventLooks before now name way last next kept
looks_kept before now name way last was next found given kept looks stayed is same =
    subst (λ (n : EventState). EventLooks before now name way last n kept) (sym (is ∙ ap (unwrap_or found) stayed))
    (subst (λ (a : Answer). EventLooks before now name way last (unwrap_or found last) a) (ap (answer_in given) same) looks)
