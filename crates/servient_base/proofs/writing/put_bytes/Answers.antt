use Rattle.std.proofs.Common.{arith}
use Rattle.std.proofs.lemmas.Slice.{drop-put_mid}
use Rattle.servient_base.proofs.writing.put_bytes.Goals as goal

pub returns-clause-rest : goal.returns-clause-rest
returns-clause-rest c =
    drop-put_mid c.args.at _ c.args.out.now c.copy_from_slice.new.self _ (omega arith) (omega arith) (omega (arith, c.copy_from_slice.auto.self))
