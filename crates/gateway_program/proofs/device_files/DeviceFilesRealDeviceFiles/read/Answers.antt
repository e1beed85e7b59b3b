use Rattle.std.proofs.Common.{refl}
use Rattle.gateway_program.proofs.device_files.DeviceFilesRealDeviceFiles.read.Goals as goal

pub returns-in-Failed : goal.returns-in-Failed
returns-in-Failed g c = record { answer = tt; call = tt; same = λ other. absurd (other refl); held = refl; failed = λ is. record { counted = c.count_fault.ensures } }
