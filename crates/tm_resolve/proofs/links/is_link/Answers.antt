use Rattle.std.proofs.Common.{sym, ap, ◌∙◌, true, false}
use Rattle.tm_parts.specs.Views.{seen, seen_members, node_value}
use Rattle.tm_resolve.proofs.ModelLinks.{link_found}
use Rattle.tm_resolve.proofs.links.is_link.Goals as goal

pub returns-then-is_none : goal.returns-then-is_none
returns-then-is_none c =
    c.has_relation.ensures ∙ sym (link_found c.args.relation.now (seen c.args.link) (seen_members c.in-Object.members) c.get.result false (sym (ap node_value c.in-Object.is) ∙ c.node.ensures) c.get.ensures c.if-is_none.ensures)

pub returns-else-is_none : goal.returns-else-is_none
returns-else-is_none c =
    c.if-is_none.false ∙ sym (link_found c.args.relation.now (seen c.args.link) (seen_members c.in-Object.members) c.get.result true (sym (ap node_value c.in-Object.is) ∙ c.node.ensures) c.get.ensures c.if-is_none.ensures)
