-- The end of a stage of the code: a value, or a status and a text.
use Rattle.std.specs.Prelude.{◌≡◌, ℕ, List, [], Result, Ok, Err}
use Rattle.std.specs.declared.alloc.AllocError.{AllocError}
use Rattle.command_stages.specs.declared.ending.Ending.{Ending}
use Rattle.command_stages.specs.declared.ending.Ended.{Ended}
use Rattle.command_stages.specs.declared.ending.Ended.TheVariants as ended
use Rattle.command_stages.specs.Lines.{usage_line, network_line, spent_line, silent_line, memory_line}
use Rattle.command_stages.specs.Stages.{Deed, Outcome, goes_on, ends, text_in, Around, ShowsDeeds}

-- A stage came out so, and the outside shows what it did. One that goes on has written nothing; one that
-- ends has the text to write.
pub record ComesOut {A : Type 0} (P : List Deed → Outcome A → Type 0) (before now : Around) (o : Outcome A) (text : List ℕ) : Type 0 where
  pub seen : List Deed
  pub stage : P seen o
  pub shows : ShowsDeeds before now seen
  pub text_is : text_in seen ≡ text

-- the status and the text with which a command ends that ends so
abbrev pub status_of : Ended → ℕ
status_of (ended.With ending) = ending.status
status_of ended.Usage = 2
status_of ended.Network = 6
status_of ended.Output = 7
status_of ended.Spent = 8
status_of ended.Silent = 11
status_of ended.NoMemory = 9

abbrev pub text_of : Ended → List ℕ
text_of (ended.With ending) = ending.text
text_of ended.Usage = usage_line
text_of ended.Network = network_line
text_of ended.Output = []
text_of ended.Spent = spent_line
text_of ended.Silent = silent_line
text_of ended.NoMemory = memory_line

-- a stage that may go on came out so
abbrev pub Performs : {A : Type 0} → (List Deed → Outcome A → Type 0) → Around → Around → Result A Ended → Type 0
Performs P before now (Ok value) = ComesOut P before now (goes_on value) []
Performs P before now (Err e) = ComesOut P before now (ends (status_of e)) (text_of e)

-- a stage that always ends the command came out so
abbrev pub Finishes : (List Deed → Outcome (Unit {0}) → Type 0) → Around → Around → Result Ending AllocError → Type 0
Finishes P before now (Ok ending) = ComesOut P before now (ends ending.status) ending.text
Finishes P before now (Err e) = ComesOut P before now (ends 9) memory_line

-- and so did a stage and those after it
abbrev pub EndsBy : (List Deed → Outcome (Unit {0}) → Type 0) → Around → Around → Result Ending Ended → Type 0
EndsBy P before now (Ok ending) = ComesOut P before now (ends ending.status) ending.text
EndsBy P before now (Err e) = ComesOut P before now (ends (status_of e)) (text_of e)

-- the status and the text of a command that came out so
abbrev pub final_status : Result Ending Ended → ℕ
final_status (Ok ending) = ending.status
final_status (Err e) = status_of e

abbrev pub final_text : Result Ending Ended → List ℕ
final_text (Ok ending) = ending.text
final_text (Err e) = text_of e
