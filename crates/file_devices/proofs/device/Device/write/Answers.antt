use Rattle.std.proofs.Common.{ap, ◌∙◌}
use Rattle.thing_handler.specs.declared.handler.Answer.{Answer}
use Rattle.file_devices.specs.Devices.{put_answer}
use Rattle.file_devices.proofs.Looks.{puts_device}
use Rattle.file_devices.proofs.OnceLaws.{put_told}
use Rattle.file_devices.proofs.device.Device.write.Goals as goal

pub returns-clause-puts : goal.returns-clause-puts
returns-clause-puts g c = puts_device _ _ c.args.self.now.name c.as_str.result.now _ c.in-Ok.text _ c.answer_to-2.result c.put_text-put.result c.as_str.ensures c.in-Ok.ensures c.put_text-put.ensures (c.answer_to-2.ensures ∙ ap (λ (a : Answer). put_answer a c.put_text-put.result) c.done_by-2.ensures)

pub returns-clause-calls : goal.returns-clause-calls
returns-clause-calls g c = put_told _ _ c.args.self.now.name c.as_str.result.now _ c.in-Ok.text c.args.what.now c.answer_to-2.result c.put_text-put.result c.as_str.ensures c.in-Ok.ensures c.put_text-put.ensures (c.answer_to-2.ensures ∙ ap (λ (a : Answer). put_answer a c.put_text-put.result) c.done_by-2.ensures)
