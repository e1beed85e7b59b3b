use Rattle.std.proofs.Common.{ℕ, List, subst, sym}
use Rattle.network_consumer.specs.declared.purpose.Purpose.{Purpose}
use Rattle.network_consumer.specs.Answers.{CanBeJudged, LinksComeTo, SucceedsAs}
use Rattle.network_consumer.proofs.answers.judge.Goals as goal

pub judge_value-requires : goal.judge_value-requires
judge_value-requires c = subst CanBeJudged c.in-Operation.is c.requires

pub returns-in-Operation : goal.returns-in-Operation
returns-in-Operation c = subst (λ (p : Purpose). SucceedsAs p c.args.status c.args.payload c.judge_value.result) (sym c.in-Operation.is) c.judge_value.ensures

pub returns-in-Discovery : goal.returns-in-Discovery
returns-in-Discovery c =
    subst (λ (p : Purpose). SucceedsAs p c.args.status c.args.payload c.judge_links.result) (sym c.in-Discovery.is)
    (subst (λ (x : List ℕ). LinksComeTo c.in-Discovery.server.now x c.judge_links.result) c.as_slice.ensures c.judge_links.ensures)
