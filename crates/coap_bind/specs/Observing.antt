-- The wish of a request for the observers, and the effect of its answer on them (RFC 7641, sections 2, 3.1, 3.6 and
-- 4.1).
use Rattle.std.specs.Prelude.{◌≡◌, ◌==◌, ℕ, nat_le, Bool, true, false, List, length, Option, Some, None, if◌then◌else◌}
use Rattle.coap_msg.specs.declared.constants.TheConstants.{GET, LONGEST_PAYLOAD}
use Rattle.coap_msg.specs.declared.endpoint.Endpoint.{Endpoint}
use Rattle.thing_ops.specs.declared.outcome.Outcome.{Outcome}
use Rattle.thing_ops.specs.declared.outcome.Outcome.TheVariants as outcome
use Rattle.coap_observe.specs.Watching.{Watching, Registers, sequence_of, without_pair}
use Rattle.coap_observe.specs.declared.notice.Registered.{Registered}
use Rattle.coap_bind.specs.declared.observing.Observing.{Observing}
use Rattle.coap_bind.specs.declared.observing.Observing.TheVariants as observing
use Rattle.coap_bind.specs.declared.observing.Effect.{Effect}
use Rattle.coap_bind.specs.declared.observing.Effect.TheVariants as effect

-- The value 0 of Observe registers and 1 deregisters; any other value says nothing here (section 2).
abbrev pub observing_at : Option ℕ → Observing
observing_at None = observing.Unchanged
observing_at (Some n) = if n == 0 then observing.Registers else if n == 1 then observing.Deregisters else observing.Unchanged

-- The wish of a request of this code and with this value of Observe: only a GET can register or deregister.
abbrev pub observing_of : ℕ → Option ℕ → Observing
observing_of code observe = if code == GET then observing_at observe else observing.Unchanged

-- The response may be a notification: it says a value, or that there is none yet, and isn't too long to be sent.
abbrev pub may_notify : Outcome → Bool
may_notify (outcome.Content value tag) = nat_le (length value) LONGEST_PAYLOAD
may_notify outcome.Empty = true
may_notify _ = false

-- the request wasn't acted on, since the server was out of memory
abbrev pub is_memory : Outcome → Bool
is_memory outcome.Memory = true
is_memory _ = false

-- a target registers, if there is one
abbrev pub registering : Option ℕ → Effect
registering None = effect.Nothing
registering (Some target) = effect.Registers target

-- The effect of the answer on the observers, where a request with this outcome is for this target, if it is for one. To
-- deregister ends an observation whatever comes of the request (section 3.6), but not where the server was out of
-- memory.
abbrev pub effect_of : Observing → Outcome → Option ℕ → Effect
effect_of observing.Unchanged o target = effect.Nothing
effect_of observing.Registers o target = if may_notify o then registering target else effect.Nothing
effect_of observing.Deregisters o target = if is_memory o then effect.Nothing else effect.Cancels

-- The observers after that, for the endpoint and the token of the request; and the sequence number that the response
-- says, where it says one: that of a registration for which there is room (section 4.1).
pub data Watches (does : Effect) (from : Endpoint) (token : List ℕ) (old : Watching) (observe : Option ℕ) (new : Watching) : Type 0 where
  leaves : does ≡ effect.Nothing → observe ≡ None → new ≡ old → Watches does from token old observe new
  cancels : does ≡ effect.Cancels → observe ≡ None → new ≡ without_pair from token old → Watches does from token old observe new
  registers : (target : ℕ) (r : Registered) → does ≡ effect.Registers target → Registers from token target old r new → observe ≡ sequence_of r
      → Watches does from token old observe new
