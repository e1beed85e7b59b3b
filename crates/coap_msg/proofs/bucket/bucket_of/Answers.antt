-- The steps of the code are those of the definition.
use Rattle.std.proofs.Common.{◌%◌, ◌+◌, ◌*◌, ◌∙◌, bit_xor, ap}
use Rattle.coap_msg.specs.Buckets.{scattered, bucket}
use Rattle.coap_msg.proofs.bucket.bucket_of.Goals as goal

pub returns-clause-bucket : goal.returns-clause-bucket
unfolding bucket
returns-clause-bucket c =
    ap (λ n. n % c.args.count) (c.scatter-all.ensures
    ∙ ap (λ n. scattered (bit_xor n (c.args.from.port * 65536 + c.args.id))) (c.scatter-host.ensures
    ∙ ap (λ n. scattered (bit_xor n (c.args.from.host % 18446744073709551616))) c.scatter.ensures))
