use Rattle.std.proofs.Common.{sym}
use Rattle.wot_json.proofs.PointerTokens.{is_pointer-pointer, is_pointer-other}
use Rattle.tm_derive.proofs.optional.is_pointer.Goals as goal

pub returns-in-Ok : goal.returns-in-Ok
returns-in-Ok c = sym (is_pointer-pointer c.args.text.now c.in-Ok.ensures.ok.0)

pub returns-in-Err : goal.returns-in-Err
returns-in-Err c = sym (is_pointer-other c.args.text.now c.in-Err.ensures.fault)
