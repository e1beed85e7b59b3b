use Rattle.std.proofs.Common.{ℕ, ◌+◌, ◌∷◌, [], ◌++◌, List, refl, sym, ap, ◌∙◌, arith}
use Rattle.coap_blocks.specs.Paths.{path_size}
use Rattle.coap_blocks.proofs.Paths.{size_within, take_next, segment_there}
use Rattle.coap_blocks.proofs.kept_path.KeptPath.push_next.Goals as goal

pub push-requires : goal.push-requires
push-requires c =
    omega (arith, size_within c.args.path.now c.args.index c.in-Some.segment.now (sym c.in-Some.ensures), ap path_size c.requires.so_far, c.requires.size)

pub returns-in-Some : goal.returns-in-Some
returns-in-Some c =
    c.push.ensures
    ∙ ap (λ (p : List (List ℕ)). p ++ c.in-Some.segment.now ∷ []) c.requires.so_far
    ∙ sym (take_next c.args.path.now c.args.index (c.args.index + 1) c.in-Some.segment.now refl (sym c.in-Some.ensures))

pub returns-in-None : goal.returns-in-None
returns-in-None c = let there = segment_there c.args.path.now c.args.index c.requires.within in let wrong = c.in-None.ensures ∙ there in absurd cc
