-- The results of `next`, and the values held afterwards.
use Rattle.std.specs.Prelude.{◌≡◌, ◌<◌, ◌≤◌, ℕ, IsSome}
use Rattle.thing_ops.specs.Requests.{RequestSeen, request_seen}
use Rattle.http_bind.specs.declared.next.HttpNext.{HttpNext}
use Rattle.http_bind.specs.declared.next.HttpNext.TheVariants as next
use Rattle.http_bind.specs.Replying.{fault_word}
use Rattle.http_bind.specs.Streams.{Streams, Takes, IsDry, asks, wants_continue, is_faulty, interrupts}
use Rattle.http_bind.specs.Slots.{Slots, Leads, HasRoom, IsOpen, IsOwed}

-- nothing can be taken, and the streams stay
abbrev pub StaysDry : ℕ → Streams → Streams → Type 0
StaysDry c s t = (t ≡ s) × IsDry c t

-- a request was taken, to which a reply is owed
abbrev pub AsksFor : ℕ → RequestSeen → Slots → Slots → Type 0
AsksFor c request b d = Leads (Takes c (asks request)) b d × IsOwed c d

-- The result that was given, and the values held after it.
abbrev pub Gives : ℕ → HttpNext → Slots → Slots → Type 0
Gives c next.Idle b d = Leads (StaysDry c) b d × HasRoom c d
Gives c next.Continue b d = Leads (Takes c wants_continue) b d × IsOpen c d
Gives c (next.Ask request) b d = AsksFor c (request_seen request) b d
Gives c (next.Refuse status) b d = Leads (Takes c (is_faulty status)) b d × IsOpen c d × IsSome (fault_word status)
Gives c next.Memory b d = (request : RequestSeen) × AsksFor c request b d
Gives c next.Close b d = Leads (Takes c interrupts) b d × HasRoom c d

-- Less is left after what was taken; a fault leaves what there was, until it is refused.
abbrev pub LeavesLess : HttpNext → ℕ → ℕ → Type 0
LeavesLess next.Idle before after = Unit {0}
LeavesLess next.Continue before after = after < before
LeavesLess (next.Ask request) before after = after < before
LeavesLess (next.Refuse status) before after = after ≤ before
LeavesLess next.Memory before after = after < before
LeavesLess next.Close before after = after < before
