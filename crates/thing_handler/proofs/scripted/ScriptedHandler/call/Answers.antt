use Rattle.std.proofs.Common.{sym}
use Rattle.std.specs.Prelude.{OnOk, Result, Ok, Err}
use Rattle.std.specs.declared.alloc.AllocError.{AllocError}
use Rattle.std.proofs.lemmas.List.{drop-drop}
use Rattle.thing_handler.specs.declared.handler.Answer.{Answer}
use Rattle.thing_handler.proofs.scripted.ScriptedHandler.call.Goals as goal

holds_on_ok : (r : Result Answer AllocError) (P : Type 0) → P → OnOk r P
holds_on_ok (Ok a) P p = p
holds_on_ok (Err e) P p = tt

pub returns-then-self-len-clause-left : goal.returns-then-self-len-clause-left
returns-then-self-len-clause-left c =
    holds_on_ok c.keep-kept.result _ (sym (drop-drop 1 c.args.self.now.given c.args.self.now.answers.items))
