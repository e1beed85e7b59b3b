-- Inside the crate: the bucket of a target, and that of an endpoint. They matter for speed alone.
use Rattle.std.specs.Prelude.{◌%◌, ℕ}
use Rattle.coap_msg.specs.declared.endpoint.Endpoint.{Endpoint}
use Rattle.coap_msg.specs.Buckets.{bucket}

-- the bucket of an endpoint, of n: that of the endpoint and 0
abbrev pub endpoint_bucket : ℕ → Endpoint → ℕ
endpoint_bucket count from = bucket count from 0

-- the bucket of a target, of n: targets are small numbers without gaps
abbrev pub target_bucket : ℕ → ℕ → ℕ
target_bucket count target = target % count
