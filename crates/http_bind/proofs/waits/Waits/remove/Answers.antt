-- The list retains the waits of all other connections.
use Rattle.std.proofs.Common.{rules, ap, ◌∙◌}
use Rattle.std.proofs.lemmas.Fn.{filter_same}
use Rattle.http_bind.specs.Streams.{other_waits}
use Rattle.http_bind.proofs.waits.Waits.remove.Goals as goal

pub returns : goal.returns
returns c = filter_same _ _ _ (λ x b f' k. search rules) _ _ c.retain.ensures.filtered ∙ ap (other_waits c.args.c) c.self.view_is
