use Rattle.std.proofs.Common.{◌≡◌, ℕ, List, ap, ◌∙◌, cond, rules}
use Rattle.std.specs.Prelude.{Some, Result, Ok, Err, OnOk}
use Rattle.std.specs.Str.{bytes_eq}
use Rattle.wot_json.specs.Tree.{Json}
use Rattle.wot_json.specs.Meaning.{json_of}
use Rattle.wot_json.specs.Lookup.{member_named}
use Rattle.tm_parts.specs.Library.{with_model}
use Rattle.tm_parts.specs.declared.library.AddFault.{AddFault}
use Rattle.tm_parts.proofs.Maps.{found_with}
use Rattle.tm_parts.proofs.library.Library.add.Goals as goal

-- the models by their names after one was put under a new text
models_after : (r : Result (Unit {0}) AddFault) (url : List ℕ) (model : Json) (before now : List (List ℕ × Json)) → OnOk r (now ≡ with_model url model before) → OnOk r ((name : List ℕ) → member_named name now ≡ cond (bytes_eq name url) (Some model) (member_named name before))
models_after (Ok u) url model before now ok = λ name. ap (λ (ms : List (List ℕ × Json)). member_named name ms) ok ∙ found_with name url model before
models_after (Err e) url model before now ok = search rules

pub returns-clause-models : goal.returns-clause-models
returns-clause-models c =
    models_after c.keep.result c.args.url.now (json_of c.args.model) c.args.self.now c.keep.new.self c.keep.ensures.ok
