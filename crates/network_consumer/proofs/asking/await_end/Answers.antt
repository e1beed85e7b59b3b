use Rattle.std.proofs.Common.{refl, arith}
use Rattle.servient_outside.specs.Network.{in_buffer}
use Rattle.network_consumer.proofs.AwaitingLaws.{progress_none, progress_more, ends_broken, ends_at, ends_spent, same_event}
use Rattle.network_consumer.proofs.asking.await_end.Goals as goal

pub loop-count-init : goal.loop-count-init
loop-count-init g c = progress_none _ _ _ _ _ c.requires.ready

pub returns-in-Failed : goal.returns-in-Failed
returns-in-Failed g c =
    ends_broken _ _ _ _ _ _ (g.N.Net.seen c.loop-count.net) (g.N.Net.seen c.next.new.self) (g.O.Out.seen c.loop-count.out) c.loop-count.count c.loop-count.invariant c.in-Failed.ensures.shows c.loop-count-test.true

pub returns-in-Some : goal.returns-in-Some
returns-in-Some g c =
    ends_at _ _ _ _ _ _ _ _ (g.N.Net.seen c.loop-count.net) (g.N.Net.seen c.next.new.self) (g.O.Out.seen c.loop-count.out) _ c.loop-count.count (in_buffer c.in-Got.event c.next.new.buffer) _ c.loop-count.invariant c.in-Got.ensures.shows
    (same_event _ _ _ _ c.byte_count-size.ensures refl) c.in-Some.ensures.hears c.loop-count-test.true

pub loop-count-preserved : goal.loop-count-preserved
loop-count-preserved g c =
    progress_more _ _ _ _ _ _ _ (g.N.Net.seen c.loop-count.net) (g.N.Net.seen c.next.new.self) (g.O.Out.seen c.loop-count.out) _ c.loop-count.count (in_buffer c.in-Got.event c.next.new.buffer) _ c.loop-count.invariant c.in-Got.ensures.shows
    (same_event _ _ _ _ c.byte_count-size.ensures refl) c.in-None.ensures.hears (c.in-None.ensures.ready refl) c.loop-count-test.true

pub returns : goal.returns
returns g c = ends_spent _ _ _ _ _ _ _ c.loop-count.count c.loop-count.invariant (omega (arith, c.loop-count-test.false, c.loop-count.auto.count-end))
