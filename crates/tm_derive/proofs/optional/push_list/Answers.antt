use Rattle.tm_derive.proofs.Gathering.{entries_gathered}
use Rattle.tm_derive.proofs.optional.push_list.Goals as goal

pub returns-in-List : goal.returns-in-List
returns-in-List c =
    entries_gathered c.args.segment.now c.args.texts.now.items c.push_entries.new.texts.items c.args.list.now c.in-List.entries c.as_slice.result.now c.push_entries.result c.in-List.is c.as_slice.ensures c.push_entries.ensures
