-- A block has at most 1,024 bytes, and so has a text that is given whole.
use Rattle.std.proofs.Common.{◌≤◌, length, subst, sym}
use Rattle.coap_msg.specs.declared.constants.TheConstants.{LONGEST_PAYLOAD}
use Rattle.coap_bind.specs.Blocks.{Portion}
use Rattle.coap_bind.proofs.LengthLaws.{given_short}
use Rattle.coap_bind.proofs.links.put_links.Goals as goal

pub put_told-requires-clause-payload : goal.put_told-requires-clause-payload
put_told-requires-clause-payload c =
    subst (λ (p : Portion). length p.payload ≤ LONGEST_PAYLOAD) (sym c.given_portion.ensures.ok) (given_short c.args.szx c.args.text.now c.requires).0
