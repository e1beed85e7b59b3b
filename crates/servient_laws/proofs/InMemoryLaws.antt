-- Over files, a network and an output in memory none of whose calls fails, nothing failed.
use Rattle.std.proofs.Common.{◌≡◌, ◌-◌, ℕ, true, List, Some, length, ap, ◌∙◌, arith}
use Rattle.servient_base.specs.Count.{Rose}
use Rattle.servient_outside.specs.CallCount.{none_fails, where_none_fails}
use Rattle.servient_outside.specs.Files.{FilesSeen}
use Rattle.servient_outside.specs.Network.{NetSeen}
use Rattle.servient_outside.specs.Out.{OutSeen}
use Rattle.servient_outside.specs.OutMemory as output
use Rattle.servient_trace.proofs.ShownLaws.{sections_net}
use Rattle.servient_laws.specs.InMemory.{NothingFailsInMemory}

-- a count of no failures that stayed didn't rise
not_risen : (before now : ℕ) → before ≡ 0 → now ≡ before → ¬ (Rose before now)
not_risen before now none same rose = omega (arith, none, same, rose)

pub nothing_fails_in_memory : NothingFailsInMemory
nothing_fails_in_memory words before now out out_now result f n o ended files_are whole net_is net_whole out_is room =
    let never : before.files.never_fail ≡ true = ap (λ (s : FilesSeen). s.never_fail) files_are ∙ ap none_fails whole.none_fail in
    let no_faults : before.files.faults ≡ 0 = ap (λ (s : FilesSeen). s.faults) files_are ∙ whole.none_failed in
    let unfailing : before.outside.net.never_fail ≡ true = ap (λ (s : NetSeen). s.never_fail) net_is ∙ ap none_fails net_whole.none_fail in
    let no_breaks : before.outside.net.faults ≡ 0 = ap (λ (s : NetSeen). s.faults) net_is ∙ net_whole.none_failed in
    let net = sections_net before.outside now.outside _ ended.shows.outside in
    let left : out.room ≡ Some (output.room_of o - length (output.written_bytes o)) =
    ap (λ (s : OutSeen). s.room) out_is ∙ ap (λ (fails : List ℕ). where_none_fails fails (Some (output.room_of o - length (output.written_bytes o)))) room.none_fail in
    let none_written : out.faults ≡ 0 = ap (λ (s : OutSeen). s.faults) out_is ∙ room.none_failed in
    let fits = room.room in
    record {
      no_read = not_risen before.files.faults now.files.faults no_faults (ended.shows.no_failure never).1;
      no_call = not_risen before.outside.net.faults now.outside.net.faults no_breaks (net.no_failure unfailing).2;
      no_write = not_risen out.faults out_now.faults none_written (ended.no_failure (output.room_of o - length (output.written_bytes o)) left (omega (arith, fits)));
    }
