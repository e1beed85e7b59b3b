use Rattle.file_devices.proofs.ListRead.{list_read}
use Rattle.file_devices.proofs.entries.read_entries.Goals as goal

pub returns-in-List : goal.returns-in-List
returns-in-List c = list_read c.args.tree.now c.in-List.items c.as_slice.result.now c.read_list.result c.in-List.is c.as_slice.ensures c.read_list.ensures
