use Rattle.std.proofs.Common.{refl}
use Rattle.file_devices.specs.declared.files.FileCall.TheVariants as file_call
use Rattle.file_devices.specs.InMemory.{seen_of}
use Rattle.file_devices.proofs.CallLists.{after_log, leaves_listed}
use Rattle.file_devices.proofs.files_memory.DeviceFilesMemoryDeviceFiles.write.Goals as goal

pub returns-clause-writes : goal.returns-clause-writes
returns-clause-writes c = record {
  leaves = leaves_listed (seen_of c.args.self.now) (seen_of c.put-wrote.new.self) _ c.args.name.now c.args.content c.put-wrote.result refl refl c.put-wrote.ensures.leaves;
  call = after_log c.args.self.now.log c.put-wrote.new.self.log c.keep.new.self _ c.put-wrote.ensures.log
      (c.keep.ensures (file_call.Write c.args.name.now c.args.content c.put-wrote.result) (c.write_call.ensures c.args.name.now c.args.content c.copy_both-copied.ensures));
}
