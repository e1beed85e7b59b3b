use Rattle.std.proofs.Common.{List, ℕ, ap, ◌∙◌}
use Rattle.std.specs.Prelude.{String}
use Rattle.std.specs.declared.alloc.Global.{Global}
use Rattle.wot_json.specs.Tree.{Json}
use Rattle.wot_json.specs.Meaning.{json_of}
use Rattle.wot_json.specs.declared.tree.Tree.{Tree}
use Rattle.tm_parts.specs.Kept.{kept_models}
use Rattle.tm_parts.specs.Library.{with_model}
use Rattle.tm_parts.proofs.Models.{kept_inserted}
use Rattle.tm_parts.proofs.library.Library.keep.Goals as goal

pub returns-in-Ok-clause-ok : goal.returns-in-Ok-clause-ok
returns-in-Ok-clause-ok c =
    ap (λ (es : List (String Global × Tree)). kept_models es) c.in-Ok.ensures.entries
    ∙ kept_inserted c.self.inside.models.entries c.in_ok-key.key c.args.model
    ∙ ap (λ (url : List ℕ). with_model url (json_of c.args.model) (kept_models c.self.inside.models.entries)) c.in_ok-key.ensures.ok
    ∙ ap (λ (ms : List (List ℕ × Json)). with_model c.args.url.now (json_of c.args.model) ms) c.self.view_is
