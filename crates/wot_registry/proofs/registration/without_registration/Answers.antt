use Rattle.std.proofs.Common.{List, ℕ, sym, ap, ◌∙◌}
use Rattle.std.specs.Prelude.{codes}
use Rattle.wot_json.specs.Tree.{Json, object, members_of}
use Rattle.wot_json.specs.Meaning.{json_of}
use Rattle.wot_json.specs.Merge.{without_member}
use Rattle.wot_json.specs.declared.tree.Tree.{Tree}
use Rattle.wot_json.proofs.EqualTrees.{listed_members_lem}
use Rattle.wot_registry.specs.Registration.{without_registration}
use Rattle.wot_registry.proofs.registration.without_registration.Goals as goal

pub returns-in-Obj : goal.returns-in-Obj
returns-in-Obj c =
    ap (λ (ms : List (List ℕ × Json)). object (members_of ms))
    (c.without_member_registration.ensures ∙ ap (without_member (codes "registration")) (sym (listed_members_lem c.in-Obj.members)))
    ∙ sym (ap (λ (t : Tree). without_registration (json_of t)) c.in-Obj.is)
