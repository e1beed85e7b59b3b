use Rattle.std.proofs.Common.{List, sym, ap, ◌∙◌}
use Rattle.std.specs.List.{list_any}
use Rattle.wot_json.specs.Tree.{Json}
use Rattle.wot_json.specs.Meaning.{json_of}
use Rattle.wot_json.specs.declared.tree.Tree.{Tree}
use Rattle.wot_json.specs.Texts.{is_text_of, has_text}
use Rattle.wot_json.proofs.EqualTrees.{listed_lem}
use Rattle.wot_json.proofs.texts.has_text.Goals as goal

pub returns-in-List : goal.returns-in-List
returns-in-List c =
    c.is_among.ensures
    ∙ ap (λ (vs : List Json). list_any (is_text_of c.args.text.now) vs) (c.as_slice.ensures ∙ sym (listed_lem c.in-List.items))
    ∙ sym (ap (λ (t : Tree). has_text c.args.text.now (json_of t)) c.in-List.is)
