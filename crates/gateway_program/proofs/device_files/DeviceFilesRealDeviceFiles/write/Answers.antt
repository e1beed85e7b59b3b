use Rattle.gateway_program.proofs.device_files.DeviceFilesRealDeviceFiles.write.Goals as goal

pub returns : goal.returns
returns g c = record { leaves = record { counted = c.count_fault.ensures }; call = tt }
