-- The list of calls of files in memory.
use Rattle.std.proofs.Common.{◌≡◌, ◌<◌, ℕ, List, [], ◌∷◌, ◌++◌, Option, ap, subst, ◌∙◌, arith}
use Rattle.servient_outside.specs.Told.{Continues, told_at_zero}
use Rattle.servient_outside.proofs.GivenEvents.{continues_told, continues_untold}
use Rattle.file_devices.specs.declared.call_log.CallLog.{CallLog}
use Rattle.file_devices.specs.declared.files.FileCall.{FileCall}
use Rattle.file_devices.specs.declared.files.FileCall.TheVariants as file_call
use Rattle.file_devices.specs.declared.files.Wrote.{Wrote}
use Rattle.file_devices.specs.declared.files.Wrote.TheVariants as wrote
use Rattle.file_devices.specs.Files.{FilesSeen, LeavesWritten}
use Rattle.file_devices.specs.InMemory.{told_calls}

-- a call that was listed
pub listed : (lost : ℕ) (old new : List FileCall) (call made : FileCall) → new ≡ old ++ call ∷ [] → call ≡ made → Continues (told_at_zero lost old) (told_at_zero lost new) (made ∷ [])
listed lost old new call made grown same = continues_told lost old new (made ∷ []) (grown ∙ ap (λ (c : FileCall). old ++ c ∷ []) same)

-- a call that was lost
pub lost : (count : ℕ) (before : Option (List FileCall)) (now : List FileCall) (made : FileCall) → 0 < count → Continues before (told_at_zero count now) (made ∷ [])
lost count before now made some = continues_untold count before now (made ∷ []) some

pub written_so : (name content : List ℕ) (copied : List ℕ × List ℕ) (write : Wrote) → copied ≡ (name, content) → file_call.Write copied.0 copied.1 write ≡ file_call.Write name content write
written_so name content copied write same = ap (λ (c : List ℕ × List ℕ). file_call.Write c.0 c.1 write) same

-- the log was as before when the call was listed
pub after_log : (before mid now : CallLog) (call : FileCall) → mid ≡ before → Continues (told_calls mid) (told_calls now) (call ∷ []) → Continues (told_calls before) (told_calls now) (call ∷ [])
after_log before mid now call same more = subst (λ (l : CallLog). Continues (told_calls l) (told_calls now) (call ∷ [])) same more

-- a write, and then its place in the list
pub leaves_listed : (before mid now : FilesSeen) (name content : List ℕ) (write : Wrote) → now.held ≡ mid.held → now.faults ≡ mid.faults
    → LeavesWritten before mid name content write → LeavesWritten before now name content write
leaves_listed before mid now name content wrote.Done held faults leaves = (leaves.0, held ∙ leaves.1, faults ∙ leaves.2)
leaves_listed before mid now name content wrote.Absent held faults leaves = (leaves.0, held ∙ leaves.1, faults ∙ leaves.2)
leaves_listed before mid now name content wrote.Failed held faults leaves = record { counted = omega (arith, leaves.counted, faults) }
