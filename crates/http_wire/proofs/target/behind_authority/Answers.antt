use Rattle.std.proofs.Common.{◌≡◌, ◌∙◌, rules, arith}
use Rattle.std.proofs.lemmas.Grind.{common_steps}
use Rattle.std.specs.Prelude.{◌==◌}
use Rattle.std.specs.List.{position_or_len}
use Rattle.http_fields.proofs.Places.{place_or_end}
use Rattle.http_wire.proofs.target.behind_authority.Goals as goal

pub returns-then-slash-bytes-clause-ok : goal.returns-then-slash-bytes-clause-ok
returns-then-slash-bytes-clause-ok c =
    let is : c.unwrap_or-slash.result ≡ position_or_len (λ b. b == 47) c.args.bytes.now =
    c.unwrap_or-slash.ensures ∙ place_or_end 47 c.args.bytes.now c.memchr.result (search rules) in
    grind (arith, common_steps)

pub returns-else-slash-gt0-clause-ok : goal.returns-else-slash-gt0-clause-ok
returns-else-slash-gt0-clause-ok c =
    let is : c.unwrap_or-slash.result ≡ position_or_len (λ b. b == 47) c.args.bytes.now =
    c.unwrap_or-slash.ensures ∙ place_or_end 47 c.args.bytes.now c.memchr.result (search rules) in
    grind (arith, common_steps)
