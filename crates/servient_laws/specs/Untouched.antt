-- The parts that the top call leaves alone, by its words and its status.
use Rattle.std.specs.Prelude.{◌≡◌, ◌⊎◌, ℕ, Bool, true, false, List, Option, Some}
use Rattle.thing_site.specs.Exposing.{kinds_of}
use Rattle.command_words.specs.Grammar.{meaning_of}
use Rattle.command_words.specs.declared.command.Command.{Command}
use Rattle.command_words.specs.declared.command.Command.TheVariants.{Check, Derive, Table}
use Rattle.servient_outside.specs.Out.{OutSeen}
use Rattle.command_stages.specs.Stages.{Deed, Around}
use Rattle.servient_cli.specs.LoggedServing.{TookNothing}
use Rattle.servient_cli.specs.Command.{Commands, EndsAndReports, Ends, IsNoCommand, is_logging, is_serving}

-- The promise of the top call, `Ends`, where this is known besides of its deeds.
abbrev pub EndsSo : (List Deed → Type 0) → List (List ℕ) → Around → Around → OutSeen → OutSeen → ℕ → Type 0
EndsSo Known words before now out out_now result =
    EndsAndReports (is_logging (meaning_of words)) (λ seen o. Commands before.files.held (kinds_of before.outside.slots) words seen o × Known seen) before now out out_now result

-- events may have been taken: serving stopped, the network failed, the budget was spent, or the output failed
abbrev pub MayHaveServed : ℕ → Type 0
MayHaveServed status = (status ≡ 0) ⊎ (status ≡ 6) ⊎ (status ≡ 8) ⊎ (status ≡ 7)

-- "No event before the word": where a plan is served and the status is another, no event was taken.
abbrev pub FaultsTakeNoEvent : Type 0
FaultsTakeNoEvent =
    (words : List (List ℕ)) (before now : Around) (out out_now : OutSeen) (result : ℕ)
    → Ends words before now out out_now result → is_serving (meaning_of words) ≡ true → ¬ (MayHaveServed result) → EndsSo TookNothing words before now out out_now result

-- the words mean a command that calls no handler, whatever comes
abbrev pub calls_nothing : Option Command → Bool
calls_nothing (Some (Check description)) = true
calls_nothing (Some (Derive plan)) = true
calls_nothing (Some (Table plan)) = true
calls_nothing command = false

-- Where the words are no command, or one of these, each handler is as it was. (That status 2 says that they are no
-- command is a clause of the top call.)
abbrev pub HandlersStay : Type 0
HandlersStay =
    (words : List (List ℕ)) (before now : Around) (out out_now : OutSeen) (result : ℕ)
    → Ends words before now out out_now result → IsNoCommand words ⊎ (calls_nothing (meaning_of words) ≡ true) → now.outside.slots ≡ before.outside.slots
