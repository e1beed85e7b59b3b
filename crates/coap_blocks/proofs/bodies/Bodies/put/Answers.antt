use Rattle.std.proofs.Common.{◌∙◌, ◌++◌, ◌∷◌, [], ap}
use Rattle.coap_blocks.specs.Bodies.{Body, content_of, with_body}
use Rattle.coap_blocks.proofs.Places.{put_last}
use Rattle.coap_blocks.proofs.bodies.Bodies.put.Goals as goal

pub returns : goal.returns
returns c =
    c.push_reserved.ensures.items
    ∙ ap (λ (b : Body). c.free_place-place.new.kept.items ++ b ∷ []) c.fill.ensures
    ∙ put_last (record { from = c.args.from; path = c.args.path.now; content = content_of c.args.body.now; moment = c.args.now }) c.self.inside.kept.items c.free_place-place.new.kept.items c.free_place-place.ensures.kept
    ∙ ap (with_body (record { from = c.args.from; path = c.args.path.now; content = content_of c.args.body.now; moment = c.args.now })) c.self.view_is
