-- The client does the same as the state.
use Rattle.std.proofs.Common.{subst}
use Rattle.coap_client.specs.Exchange.{at_moment, Delivers}
use Rattle.coap_client.specs.declared.state.State.{State}
use Rattle.coap_client.proofs.client.Client.deliver.Goals as goal

pub returns-clause-ok : goal.returns-clause-ok
returns-clause-ok c =
    let P : State → Type 0 = λ s. Delivers (at_moment c.args.now s) c.args.from c.args.bytes.now c.deliver.result c.args.out.now c.deliver.new.out c.deliver.new.self in
    subst P c.self.view_is c.deliver.ensures.ok
