use Rattle.file_devices.proofs.Looks.{value_comes, long_comes}
use Rattle.file_devices.proofs.values.value_in.Goals as goal

pub returns-then-len-gt-LONGEST : goal.returns-then-len-gt-LONGEST
returns-then-len-gt-LONGEST c = long_comes c.args.way c.args.content.now c.trimmed.result.now c.in_ok-value.field-0 c.in-Some.value c.trimmed.ensures c.in_ok-value.ensures c.in-Some.is
    c.in_ok-text_of.field-0 c.len-2.result c.in_ok-text_of.ensures c.len-2.ensures c.if-len-gt-LONGEST.true

pub returns : goal.returns
returns c = value_comes c.args.way c.args.content.now c.trimmed.result.now c.in_ok-value.field-0 c.in-Some.value c.trimmed.ensures c.in_ok-value.ensures c.in-Some.is
    c.in_ok-text_of.field-0 c.len-2.result c.in_ok-text_of.ensures c.len-2.ensures c.if-len-gt-LONGEST.false
