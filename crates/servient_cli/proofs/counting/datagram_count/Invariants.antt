use Rattle.std.proofs.Common.{◌≡◌, ◌≤◌, ℕ, List, length, take}
use Rattle.servient_outside.specs.declared.net.EventWithBytes.{EventWithBytes}
use Rattle.servient_cli.specs.Counting.{came}
use Rattle.servient_cli.proofs.counting.datagram_count.Given as goal

-- the datagrams among the events so far
pub record IsCounted (place count : ℕ) (events : List EventWithBytes) : Type 0 where
  pub counted : count ≡ length (came (take place events))
  pub few : count ≤ place

abbrev pub invariant-loop-place : goal.invariant-loop-place
invariant-loop-place l = IsCounted l.place l.count l.events
