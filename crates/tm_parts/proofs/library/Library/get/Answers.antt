use Rattle.std.proofs.Common.{List, ℕ, ap, ◌∙◌}
use Rattle.std.specs.Prelude.{Option, option_map}
use Rattle.wot_json.specs.Tree.{Json}
use Rattle.wot_json.specs.Meaning.{json_of}
use Rattle.wot_json.specs.Lookup.{member_named}
use Rattle.wot_json.specs.declared.tree.Tree.{Tree}
use Rattle.tm_parts.proofs.Models.{lent_value, kept_found}
use Rattle.tm_parts.proofs.library.Library.get.Goals as goal

pub returns : goal.returns
returns c =
    lent_value c.get.result ∙ ap (λ (r : Option Tree). option_map json_of r) c.get.ensures.value ∙ kept_found c.args.url.now c.self.inside.models.entries
    ∙ ap (λ (ms : List (List ℕ × Json)). member_named c.args.url.now ms) c.self.view_is
