use Rattle.std.proofs.Common.{sym, ◌∙◌}
use Rattle.file_devices.proofs.Named.{written_there}
use Rattle.file_devices.proofs.files_memory.write_named.Goals as goal

pub returns-in-Some : goal.returns-in-Some
returns-in-Some c = written_there c.args.files.now c.args.name.now c.args.content c.in-Some.place c.index-files-place.result (sym c.place_of.ensures ∙ c.in-Some.is)
