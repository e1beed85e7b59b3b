use Rattle.std.proofs.Common.{◌≡◌, ℕ, ◌-◌, length, take, drop, sym, ap, ◌∙◌, arith}
use Rattle.http_wire.proofs.EntityTags.{version_quoted, version_unquoted}
use Rattle.http_wire.proofs.conditions.version_of.Goals as goal

pub returns-then-is_quoted : goal.returns-then-is_quoted
returns-then-is_quoted c =
    let size : length c.args.item.now - 1 - 1 ≡ length c.args.item.now - 2 = omega arith in
    c.number_of_digits.ensures
    ∙ sym (version_quoted c.args.item.now _ (sym c.is_quoted.ensures.ok ∙ c.if-is_quoted.true) (ap (λ (n : ℕ). take n (drop 1 c.args.item.now)) size))

pub returns-else-is_quoted : goal.returns-else-is_quoted
returns-else-is_quoted c = sym (version_unquoted c.args.item.now (sym c.is_quoted.ensures.ok ∙ c.if-is_quoted.false))
