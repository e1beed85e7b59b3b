use Rattle.std.proofs.Common.{ap, ◌∙◌}
use Rattle.std.specs.Prelude.{Option, option_map}
use Rattle.wot_json.specs.Meaning.{json_of}
use Rattle.wot_json.specs.Lookup.{member_named}
use Rattle.wot_json.specs.declared.tree.Tree.{Tree}
use Rattle.wot_directory.specs.Contents.{Contents}
use Rattle.wot_directory.proofs.Entries.{lent_value, kept_found}
use Rattle.wot_directory.proofs.directory.Directory.get.Goals as goal

pub returns : goal.returns
returns c =
    lent_value c.get.result ∙ ap (λ (r : Option Tree). option_map json_of r) c.get.ensures.value ∙ kept_found c.args.id.now c.self.inside.entries.entries
    ∙ ap (λ (d : Contents). member_named c.args.id.now d.entries) c.self.view_is
