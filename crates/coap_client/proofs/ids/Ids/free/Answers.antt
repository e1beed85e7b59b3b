-- All ids were gone through.
use Rattle.std.proofs.Common.{ℕ, List, Option, arith, subst}
use Rattle.coap_client.specs.Names.{is_used, AreAllUsed}
use Rattle.coap_client.proofs.IdLaws.{all_from_ahead}
use Rattle.coap_client.proofs.ids.Ids.free.Goals as goal

pub returns : goal.returns
returns c =
    let all : AreAllUsed c.self.inside.uses.items c.args.now =
    all_from_ahead (is_used c.self.inside.uses.items c.args.now) c.args.next (omega arith) (λ k h. c.loop-ahead.invariant k (omega arith)) in
    subst (λ (uses : List (Option ℕ)). AreAllUsed uses c.args.now) c.self.view_is all
