use Rattle.std.proofs.Common.{◌≤◌, ◌<◌, ◌+◌, arith, ◌∙◌, below_more}
use Rattle.wot_directory.specs.Directory.{IsUsed}
use Rattle.wot_directory.specs.Kept.{kept_entries}
use Rattle.wot_directory.proofs.Finds.{unused_number, used_number}
use Rattle.wot_directory.proofs.directory.first_unused.Goals as goal

pub returns-then-not-contains_key : goal.returns-then-not-contains_key
returns-then-not-contains_key c = record {
  from_first = omega arith;
  to_last = omega arith;
  unused = unused_number c.args.entries.now.entries c.as_str.result.now c.loop-number.number (c.as_str.ensures ∙ c.in_ok-id.ensures) c.if-not-contains_key.ensures;
  others = c.loop-number.invariant;
}

pub loop-number-preserved : goal.loop-number-preserved
loop-number-preserved c =
    λ other from to.
    below_more (λ k. c.args.first ≤ k → IsUsed k (kept_entries c.args.entries.now.entries)) c.loop-number.number (λ k less first. c.loop-number.invariant k first less)
    (λ first. used_number c.args.entries.now.entries c.as_str.result.now c.loop-number.number (c.as_str.ensures ∙ c.in_ok-id.ensures) c.if-not-contains_key.ensures)
    other to from

pub returns-else-not-contains_key : goal.returns-else-not-contains_key
returns-else-not-contains_key c =
    λ number from to.
    let before : number < c.loop-number.number + 1 = omega arith in
    below_more (λ k. c.args.first ≤ k → IsUsed k (kept_entries c.args.entries.now.entries)) c.loop-number.number (λ k less first. c.loop-number.invariant k first less)
    (λ first. used_number c.args.entries.now.entries c.as_str.result.now c.loop-number.number (c.as_str.ensures ∙ c.in_ok-id.ensures) c.if-not-contains_key.ensures)
    number before from
