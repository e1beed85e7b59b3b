use Rattle.std.proofs.Common.{refl, sym, subst}
use Rattle.servient_base.specs.Moves.{Refines}
use Rattle.http_bind.specs.Streams.{Opened, Ended}
use Rattle.servient_outside.specs.declared.net.What.{What}
use Rattle.servient_trace.specs.Trace.{Shows, outside}
use Rattle.servient_core.specs.Machine.{Follows}
use Rattle.servient_core.specs.Serving.{StandsFor}
use Rattle.servient_core.proofs.PartLaws.{refines_http, refines_nothing, room_after}
use Rattle.servient_core.proofs.layers.Layers.follow.Goals as goal

pub returns-in-Opened : goal.returns-in-Opened
returns-in-Opened g c =
    let k = c.args.self.now in
    let w = outside (g.N.Net.seen c.args.net.now) (g.R.Handlers.slots c.args.rack.now) in
    record {
      refines = subst (λ (x : What). Refines StandsFor Shows (Follows k.exposed.site x c.args.bytes.now) k (record k { http = c.opened.new.self }) w w) (sym c.in-Opened.is)
          (refines_http (Opened c.in-Opened.c) k c.opened.new.self w c.opened.ensures.leads);
      ready = record {
        pending = c.requires.ready.pending;
        moment = c.requires.ready.moment;
        clock = c.requires.ready.clock;
        room = room_after c.in-Opened.c k.http c.opened.new.self c.requires.ready.room c.opened.ensures.others c.opened.ensures.room;
      };
      site = refl;
    }

pub returns-in-Bytes : goal.returns-in-Bytes
returns-in-Bytes g c =
    let k = c.args.self.now in
    let w = outside (g.N.Net.seen c.args.net.now) (g.R.Handlers.slots c.args.rack.now) in
    let v = outside (g.N.Net.seen c.piece.new.net) (g.R.Handlers.slots c.piece.new.rack) in
    record {
      refines = subst (λ (x : What). Refines StandsFor Shows (Follows k.exposed.site x c.args.bytes.now) k c.piece.new.self w v) (sym c.in-Bytes.is) c.piece.ensures.refines;
      ready = c.piece.ensures.ready;
      site = c.piece.ensures.site;
    }

pub returns-in-Ended : goal.returns-in-Ended
returns-in-Ended g c =
    let k = c.args.self.now in
    let w = outside (g.N.Net.seen c.args.net.now) (g.R.Handlers.slots c.args.rack.now) in
    record {
      refines = subst (λ (x : What). Refines StandsFor Shows (Follows k.exposed.site x c.args.bytes.now) k (record k { http = c.ended.new.self }) w w) (sym c.in-Ended.is)
          (refines_http (λ now. Ended c.in-Ended.c) k c.ended.new.self w c.ended.ensures.leads);
      ready = record {
        pending = c.requires.ready.pending;
        moment = c.requires.ready.moment;
        clock = c.requires.ready.clock;
        room = room_after c.in-Ended.c k.http c.ended.new.self c.requires.ready.room c.ended.ensures.others c.ended.ensures.room;
      };
      site = refl;
    }

pub returns-in-Datagram : goal.returns-in-Datagram
returns-in-Datagram g c =
    let k = c.args.self.now in
    let w = outside (g.N.Net.seen c.args.net.now) (g.R.Handlers.slots c.args.rack.now) in
    let v = outside (g.N.Net.seen c.datagram.new.net) (g.R.Handlers.slots c.datagram.new.rack) in
    record {
      refines = subst (λ (x : What). Refines StandsFor Shows (Follows k.exposed.site x c.args.bytes.now) k c.datagram.new.self w v) (sym c.in-Datagram.is) c.datagram.ensures.refines;
      ready = c.datagram.ensures.ready;
      site = c.datagram.ensures.site;
    }

pub returns-in-Tick : goal.returns-in-Tick
returns-in-Tick g c =
    let k = c.args.self.now in
    let w = outside (g.N.Net.seen c.args.net.now) (g.R.Handlers.slots c.args.rack.now) in
    let v = outside (g.N.Net.seen c.poll_all.new.net) (g.R.Handlers.slots c.poll_all.new.rack) in
    record {
      refines = subst (λ (x : What). Refines StandsFor Shows (Follows k.exposed.site x c.args.bytes.now) k c.poll_all.new.self w v) (sym c.in-Tick.is) c.poll_all.ensures.refines;
      ready = c.poll_all.ensures.ready;
      site = c.poll_all.ensures.site;
    }

pub returns-in-Stop : goal.returns-in-Stop
returns-in-Stop g c =
    let k = c.args.self.now in
    let w = outside (g.N.Net.seen c.args.net.now) (g.R.Handlers.slots c.args.rack.now) in
    record {
      refines = subst (λ (x : What). Refines StandsFor Shows (Follows k.exposed.site x c.args.bytes.now) k k w w) (sym c.in-Stop.is) (refines_nothing k w);
      ready = c.requires.ready;
      site = refl;
    }
