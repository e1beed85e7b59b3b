use Rattle.std.proofs.Common.{List, ap, ◌∙◌}
use Rattle.std.proofs.lemmas.Result.{IfOk-weaker}
use Rattle.wot_json.specs.Tree.{Json, array, elements_of}
use Rattle.wot_json.specs.Json.{text_of}
use Rattle.wot_json.specs.Meaning.{json_members}
use Rattle.wot_registry.proofs.Listed.{listed_shown}
use Rattle.wot_registry.proofs.registry.Registry.list_now.Goals as goal

pub returns-clause-ok : goal.returns-clause-ok
returns-clause-ok c =
    IfOk-weaker c.text_of.result _ _
    (λ b e. e ∙ ap (λ (vs : List Json). text_of (array (elements_of vs)))
    (listed_shown c.args.offset c.args.limit c.args.self.now c.self.inside.directory c.self.inside.times c.self.inside.epoch c.deref.result.now c.in_ok-trees.trees
    c.self.view_is (ap json_members c.deref.ensures.value ∙ c.in_ok-copies.ensures) c.in_ok-trees.ensures))
    c.text_of.ensures
