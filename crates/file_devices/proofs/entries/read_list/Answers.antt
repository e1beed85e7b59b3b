use Rattle.std.proofs.Common.{sym, ap, ◌∙◌}
use Rattle.wot_json.specs.Meaning.{json_of}
use Rattle.file_devices.specs.Entries.{entry_of, told}
use Rattle.file_devices.proofs.ListRead.{leads_more, leads_wrong, leads_end}
use Rattle.file_devices.proofs.entries.read_list.Goals as goal

pub returns-in-Err : goal.returns-in-Err
returns-in-Err c = leads_wrong c.args.items.now c.loop-index.index c.loop-index.entries c.index-items-index.result c.in-Err.pointer.now c.loop-index-test.true c.index-items-index.is
    (sym (ap (λ es. entry_of es (json_of c.index-items-index.result)) c.as_slice.ensures) ∙ sym c.in_ok-entry.ensures ∙ ap (λ e. told e (λ p. p.now)) c.in-Err.is)
    c.loop-index.invariant c.in_ok-through_element-in-Err.field-0 c.in_ok-through_element-in-Err.ensures

pub loop-index-preserved : goal.loop-index-preserved
loop-index-preserved c = leads_more c.args.items.now c.loop-index.index c.loop-index.entries c.push.new.self c.index-items-index.result c.in-Ok.entry c.loop-index-test.true c.index-items-index.is
    (sym (ap (λ es. entry_of es (json_of c.index-items-index.result)) c.as_slice.ensures) ∙ sym c.in_ok-entry.ensures ∙ ap (λ e. told e (λ p. p.now)) c.in-Ok.is)
    c.in_ok-push-in-Ok.ensures.ok c.loop-index.invariant

pub returns : goal.returns
returns c = leads_end c.args.items.now c.loop-index.index c.loop-index.entries c.loop-index-test.false c.loop-index.invariant
