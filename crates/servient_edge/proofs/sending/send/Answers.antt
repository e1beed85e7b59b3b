use Rattle.std.proofs.Common.{◌≡◌, ◌++◌, ◌-◌, [], length, drop, arith, rules}
use Rattle.std.proofs.lemmas.List.{nil_from_length}
use Rattle.servient_edge.proofs.SendingLaws.{sent_on_written}
use Rattle.servient_edge.proofs.sending.send.Goals as goal

-- nothing was kept, and what wasn't taken is kept
pub returns : goal.returns
returns g c =
    let kept = c.args.kept.now in
    let head = c.args.head.now in
    let body = c.args.body.now in
    let count = c.in_ok-count.count in
    let none : kept ≡ [] = nil_from_length kept (omega (arith, c.len.ensures.value, c.if-len-gt0.false)) in
    let is : c.keep-2.new.self ≡ kept ++ drop count head ++ drop (count - length head) body = search rules in
    sent_on_written _ _ count kept head body c.keep-2.new.self none is c.in_ok-count.ensures.bytes
