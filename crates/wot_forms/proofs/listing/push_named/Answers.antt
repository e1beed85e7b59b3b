use Rattle.std.proofs.Common.{rules}
use Rattle.wot_forms.specs.Forms.{all_ops}
use Rattle.wot_forms.proofs.NamedOps.{no_op_named}
use Rattle.wot_forms.proofs.listing.push_named.Goals as goal

pub returns-in_default-named : goal.returns-in_default-named
returns-in_default-named c = search (rules, no_op_named c.in-Text.name all_ops)
