use Rattle.std.proofs.Common.{length, ◌+◌, ◌-◌, false, refl}
use Rattle.std.specs.Prelude.{Ok, Err}
use Rattle.http_wire.specs.Stream.{fault}
use Rattle.http_wire.specs.Scanned.{front_of}
use Rattle.http_wire.proofs.Fronts.{front_with_head, front_of_fault, front_of_head}
use Rattle.http_wire.proofs.stream.scan.Goals as goal

pub returns-in-Err-clause-ok : goal.returns-in-Err-clause-ok
returns-in-Err-clause-ok c =
    front_with_head c.args.bytes.now c.skip_pairs-rest.result.now c.front.result.now c.split_at.result.0.now c.split_at.result.1.now c.in-Some.end (fault c.in-Err.status false)
    c.skip_pairs-rest.ensures.ok c.front.ensures.ok c.in-Some.ensures.ok c.split_at.ensures.front c.split_at.ensures.back
    (front_of_fault c.split_at.result.0.now c.split_at.result.1.now (length c.args.bytes.now - length c.skip_pairs-rest.result.now + c.in-Some.end) c.in-Err.status c.in-Err.ensures.ok)

pub returns-in-Err-framing_of-clause-ok : goal.returns-in-Err-framing_of-clause-ok
returns-in-Err-framing_of-clause-ok c =
    front_with_head c.args.bytes.now c.skip_pairs-rest.result.now c.front.result.now c.split_at.result.0.now c.split_at.result.1.now c.in-Some.end (fault c.in-Err-framing_of.status false)
    c.skip_pairs-rest.ensures.ok c.front.ensures.ok c.in-Some.ensures.ok c.split_at.ensures.front c.split_at.ensures.back
    (front_of_head c.split_at.result.0.now c.split_at.result.1.now (length c.args.bytes.now - length c.skip_pairs-rest.result.now + c.in-Some.end) c.in-Ok.parts (Err c.in-Err-framing_of.status) (fault c.in-Err-framing_of.status false) c.in-Ok.ensures.ok
    c.in-Err-framing_of.ensures.ok (λ h parts. refl))

pub returns-in-Ok-framing_of-clause-ok : goal.returns-in-Ok-framing_of-clause-ok
returns-in-Ok-framing_of-clause-ok c =
    front_with_head c.args.bytes.now c.skip_pairs-rest.result.now c.front.result.now c.split_at.result.0.now c.split_at.result.1.now c.in-Some.end (front_of c.scan_body.result)
    c.skip_pairs-rest.ensures.ok c.front.ensures.ok c.in-Some.ensures.ok c.split_at.ensures.front c.split_at.ensures.back
    (front_of_head c.split_at.result.0.now c.split_at.result.1.now (length c.args.bytes.now - length c.skip_pairs-rest.result.now + c.in-Some.end) c.in-Ok.parts (Ok c.in-Ok-framing_of.framing) (front_of c.scan_body.result) c.in-Ok.ensures.ok
    c.in-Ok-framing_of.ensures.ok c.scan_body.ensures.ok)
