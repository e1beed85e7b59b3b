use Rattle.file_devices.proofs.Looks.{content_valued, content_missing}
use Rattle.file_devices.proofs.device.Device.value.Goals as goal

pub returns-in-Ok-clause-found : goal.returns-in-Ok-clause-found
returns-in-Ok-clause-found g c = content_valued _ _ c.args.self.now.name c.as_str.result.now _ c.in_ok-content.field-0 c.in-Ok.content c.as_slice.result.now _ c.as_str.ensures c.in-Ok.is c.as_slice.ensures c.in_ok-content.ensures.found c.value_in.ensures

pub returns-in-Err-clause-found : goal.returns-in-Err-clause-found
returns-in-Err-clause-found g c = content_missing _ _ c.args.self.now.name c.as_str.result.now _ c.in_ok-content.field-0 c.in-Err.fault c.as_str.ensures c.in-Err.is c.in_ok-content.ensures.found
