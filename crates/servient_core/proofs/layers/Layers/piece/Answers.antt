use Rattle.http_bind.specs.Streams.{Lengthened}
use Rattle.servient_trace.specs.Trace.{outside}
use Rattle.servient_core.specs.Machine.{OnHttp, TakesEveryMessage}
use Rattle.servient_core.proofs.PartLaws.{then_moves, refines_http, others_keep}
use Rattle.servient_core.proofs.LoopLaws.{others_then, room_of_all}
use Rattle.servient_core.proofs.layers.Layers.piece.Goals as goal

pub returns : goal.returns
returns g c =
    let k = c.args.self.now in
    let all = c.take_all.ensures in
    let w = outside (g.N.Net.seen c.args.net.now) (g.R.Handlers.slots c.args.rack.now) in
    let v = outside (g.N.Net.seen c.take_all.new.net) (g.R.Handlers.slots c.take_all.new.rack) in
    record {
      refines = then_moves (OnHttp (Lengthened c.args.c c.args.piece.now)) (TakesEveryMessage k.exposed.site c.args.c) k (record k { http = c.bytes.new.self }) c.take_all.new.self w w v
          (refines_http (Lengthened c.args.c c.args.piece.now) k c.bytes.new.self w c.bytes.ensures.leads) all.taken;
      ready = record {
        pending = all.on.pending;
        moment = all.on.moment;
        clock = all.on.clock;
        room = room_of_all c.args.c k.http c.take_all.new.self.http c.requires.ready.room
            (others_then c.args.c k.http c.bytes.new.self c.take_all.new.self.http (others_keep c.args.c k.http c.bytes.new.self c.bytes.ensures.others) all.left) all.room;
      };
      site = all.site;
    }

pub bytes-requires-clause-room : goal.bytes-requires-clause-room
bytes-requires-clause-room g c = c.requires.ready.room c.args.c
