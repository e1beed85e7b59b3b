-- so far no id was used
use Rattle.std.proofs.Common.{◌≡◌, ℕ, length, get_or, None}
use Rattle.coap_client.proofs.ids.Ids.new.Given as goal

abbrev pub invariant-loop-id : goal.invariant-loop-id
invariant-loop-id l = record {
  count : length l.uses.items ≡ l._id;
  unused : (id : ℕ) → get_or l.uses.items id None ≡ None;
}
