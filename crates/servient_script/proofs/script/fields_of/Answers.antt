use Rattle.std.proofs.Common.{◌≡◌, ◌==◌, length, sym, ap, ◌∙◌, arith, lit<}
use Rattle.std.specs.List.{slice_split}
use Rattle.std.proofs.lemmas.Iterator.Splits.{YieldsList-from_str_split}
use Rattle.std.proofs.lemmas.List.Splits.{join_with_byte-slice_split}
use Rattle.servient_script.proofs.FieldTexts.{cut_fields, took_all, took_some}
use Rattle.servient_script.proofs.script.fields_of.Goals as goal

pub returns-in-Ok-clause-ok : goal.returns-in-Ok-clause-ok
returns-in-Ok-clause-ok c =
    let (it, xs, becomes, extends, drained) = c.in-Ok.ensures.ran in
    let parts = YieldsList-from_str_split {s = it} 32 c.args.line.now (lit< tt) (cc) (cc) (cc) in
    let all = took_all parts xs drained in
    let items : c.extend.new.self.items ≡ xs = cc (extends, c.new-fields.ensures) in
    rw (items, all) (sym (join_with_byte-slice_split 32 c.args.line.now))

pub returns-in-Ok-clause-complete : goal.returns-in-Ok-clause-complete
returns-in-Ok-clause-complete c = λ fields are few text.
    let (it, xs, becomes, extends, drained) = c.in-Ok.ensures.ran in
    let parts = YieldsList-from_str_split {s = it} 32 c.args.line.now (lit< tt) (cc) (cc) (cc) in
    let all = took_all parts xs drained in
    let items : c.extend.new.self.items ≡ xs = cc (extends, c.new-fields.ensures) in
    rw (items, all) (ap (slice_split (λ b. b == 32)) text ∙ cut_fields fields are)

pub returns-in-Err-clause-complete : goal.returns-in-Err-clause-complete
returns-in-Err-clause-complete c = λ fields are few text.
    let (it, xs, x, rest, becomes, then, extends) = c.in-Err.ensures.one_more in
    let parts = YieldsList-from_str_split {s = it} 32 c.args.line.now (lit< tt) (cc) (cc) (cc) in
    let more = took_some parts xs x rest then in
    let cut : slice_split (λ b. b == 32) c.args.line.now ≡ fields =
    ap (slice_split (λ b. b == 32)) text ∙ cut_fields fields are in
    let items : c.extend.new.self.items ≡ xs = cc (extends, c.new-fields.ensures) in
    absurd (omega (arith, more, ap length cut, ap length items, c.in-Err.ensures.full, few))
