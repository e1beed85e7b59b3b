-- The record of a system in memory.
use Rattle.std.specs.Prelude.{List, Option, option_map}
use Rattle.servient_system.specs.declared.asked.Asked.{Asked}
use Rattle.servient_system.specs.declared.asked_log.AskedLog.{AskedLog}

-- all that was asked, unless memory failed
abbrev pub told_by : AskedLog → Option (List Asked)
told_by log = option_map (λ list. list.items) log.list
