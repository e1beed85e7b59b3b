use Rattle.std.proofs.Common.{◌∙◌, sym, ap}
use Rattle.wot_json.specs.Lookup.{member_named}
use Rattle.wot_json.specs.Pointer.{element_at}
use Rattle.wot_json.proofs.EqualTrees.{listed_lem, listed_members_lem}
use Rattle.wot_json.proofs.lookup.part_at.Goals as goal

pub returns-in-List : goal.returns-in-List
returns-in-List c = λ name is.
    rw c.in-List.is (c.element.ensures name is ∙ ap (element_at name 0) (sym (listed_lem c.in-List.items)))

pub returns-in-Obj : goal.returns-in-Obj
returns-in-Obj c = λ name is.
    rw c.in-Obj.is (c.member.ensures name is ∙ ap (member_named name) (sym (listed_members_lem c.in-Obj.members)))
