-- The answers of the handler of a slot.
use Rattle.std.proofs.Common.{◌≡◌, ap}
use Rattle.std.specs.Prelude.{Result, Ok, Err, IfOk, OnOk}
use Rattle.std.specs.declared.alloc.AllocError.{AllocError}
use Rattle.wot_json.specs.declared.tree.Tree.{Tree}
use Rattle.thing_handler.specs.declared.handler.Answer.{Answer}
use Rattle.thing_handler.specs.Shipped.{Device}
use Rattle.file_devices.specs.Slots.{is_shipped, is_memory}

-- a handler in memory answered by its table, and is then what that says
pub shipped_answers : (r : Result Answer AllocError) (meant : Answer) (is next : Device) → IfOk r (λ a. a ≡ meant) → OnOk r (is ≡ next)
    → IfOk r (λ a. (a ≡ meant) × (is_shipped is ≡ is_shipped next))
shipped_answers (Ok a) meant is next answers changes = (answers, ap is_shipped changes)
shipped_answers (Err e) meant is next answers changes = tt

pub memory_answers : (r : Result Answer AllocError) (meant : Answer) (is next : Tree) → IfOk r (λ a. a ≡ meant) → OnOk r (is ≡ next)
    → IfOk r (λ a. (a ≡ meant) × (is_memory is ≡ is_memory next))
memory_answers (Ok a) meant is next answers changes = (answers, ap is_memory changes)
memory_answers (Err e) meant is next answers changes = tt
