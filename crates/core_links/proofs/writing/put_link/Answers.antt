use Rattle.std.proofs.Common.{List, ℕ, [], ◌∷◌, ◌++◌, subst, append_assoc}
use Rattle.std.specs.List.{flat_map}
use Rattle.servient_base.proofs.Pieces.{puts_then_if_room}
use Rattle.servient_base.specs.Writing.{Puts, PutsIfRoom}
use Rattle.core_links.specs.declared.links.Param.{Param}
use Rattle.core_links.specs.Writing.{param_text}
use Rattle.core_links.proofs.writing.put_link.Goals as goal

pub returns : goal.returns
returns c =
    subst (λ (text : List ℕ). PutsIfRoom (60 ∷ text) c.args.at c.args.out.now c.put_params.new.out c.put_params.result)
    (append_assoc c.args.link.now.target (62 ∷ []) (flat_map param_text c.args.link.now.params))
    (puts_then_if_room (60 ∷ (c.args.link.now.target ++ 62 ∷ [])) (flat_map param_text c.args.link.now.params) c.args.at c.in_ok-at.at c.args.out.now c.put_target.new.out c.put_params.new.out c.put_params.result
    c.put_target.auto.out (subst (λ (target : List ℕ). Puts (60 ∷ (target ++ 62 ∷ [])) c.args.at c.in_ok-at.at c.args.out.now c.put_target.new.out) c.as_slice.ensures c.in_ok-at.ensures)
    (subst (λ (params : List Param). PutsIfRoom (flat_map param_text params) c.in_ok-at.at c.put_target.new.out c.put_params.new.out c.put_params.result) c.as_slice-2.ensures c.put_params.ensures))
