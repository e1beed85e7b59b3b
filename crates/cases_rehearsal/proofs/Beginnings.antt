-- A servient and a client as they are made are as a rehearsal asks for them.
use Rattle.std.proofs.Common.{◌≡◌, ℕ, Option, true, ap, refl}
use Rattle.coap_client.specs.declared.state.State.{State}
use Rattle.coap_client.specs.Exchange.{IsNew}
use Rattle.wot_forms.specs.Segments.{is_plain_segment}
use Rattle.servient_plan.specs.declared.plan.Plan.{Plan}
use Rattle.servient_plan.specs.BuiltIn.{built_in_plan}
use Rattle.servient_core.specs.declared.layers.Layers.{Layers}
use Rattle.servient_core.specs.Machine.{start}
use Rattle.servient_core.specs.Serving.{StandsFor}
use Rattle.servient_rehearsal.specs.Rehearsal.{IsUnused}

pub unused_of : (s : Layers) (exchanges : ℕ) (epoch : Option ℕ) → StandsFor s (start s.exposed.site exchanges epoch) → IsUnused s
unused_of s exchanges epoch stands = (exchanges, epoch, stands)

pub new_of : (first_id : ℕ) (s : State) → IsNew first_id s → IsNew s.next_id s
new_of first_id s new = record {
  moment = new.moment;
  outstanding = new.outstanding;
  observation = new.observation;
  next_token = new.next_token;
  next_id = refl;
  ids = new.ids;
  unused = new.unused;
}

-- the segment of the built-in Thing is plain
pub plain_of : (plan : Plan) → plan ≡ built_in_plan → is_plain_segment plan.frame.segment ≡ true
plain_of plan is = ap (λ (p : Plan). is_plain_segment p.frame.segment) is
