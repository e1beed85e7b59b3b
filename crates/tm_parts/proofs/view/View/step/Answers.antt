use Rattle.std.proofs.Common.{ap, sym, ◌∙◌, Bor}
use Rattle.std.specs.Prelude.{Option, Some, None, option_map}
use Rattle.wot_json.specs.declared.tree.Tree.{Tree}
use Rattle.wot_json.specs.Meaning.{json_of}
use Rattle.tm_parts.specs.Views.{seen, values_in}
use Rattle.tm_parts.proofs.Seen.{step_seen, no_step}
use Rattle.tm_parts.proofs.view.View.step.Goals as goal

pub returns-in-Ok-Some : goal.returns-in-Ok-Some
returns-in-Ok-Some c =
    step_seen c.args.step.now (json_of c.followed.result.tree.now) (seen c.args.self) (values_in c.followed.result.values) (Some (json_of c.in-Ok-Some.tree.now)) c.requires
    c.followed.ensures.text c.followed.ensures.same
    (ap (λ (r : Option (Bor Tree)). option_map (λ t. json_of t.now) r) (sym c.in-Ok-Some.field-0-is) ∙ c.in-Ok-Some.ensures.ok.1)

pub returns-in-Ok-None : goal.returns-in-Ok-None
returns-in-Ok-None c =
    step_seen c.args.step.now (json_of c.followed.result.tree.now) (seen c.args.self) (values_in c.followed.result.values) None c.requires
    c.followed.ensures.text c.followed.ensures.same
    (ap (λ (r : Option (Bor Tree)). option_map (λ t. json_of t.now) r) (sym c.in-Ok-None.field-0-is) ∙ c.in-Ok-None.ensures.ok.1)

pub returns-in-Err : goal.returns-in-Err
returns-in-Err c = no_step c.args.step.now (seen c.args.self) c.in-Err.ensures.fault
