use Rattle.http_bind.proofs.Giving.{gives, others_stay_taking}
use Rattle.http_bind.proofs.Leaving.{takes_less, sound_taking}
use Rattle.http_bind.proofs.Staying.{took}
use Rattle.http_bind.proofs.bind.HttpBind.next.Goals as goal

pub returns-clause-gives : goal.returns-clause-gives
returns-clause-gives c =
    gives c.args.c c.args.self.now _ c.take-found.result c.take-found.new.room c.lend.result
    (took c.args.c c.args.self.now c.self.inside.slots.items c.take-found.new.slots.items c.self.inside.waits c.take-found.new.waits c.take-found.result c.take-found.new.room c.self.view_is c.self.invariant c.requires.connection c.take-found.ensures.taken c.take-found.ensures.waits)
    c.lend.ensures

pub returns-clause-less : goal.returns-clause-less
returns-clause-less c =
    takes_less c.args.c c.args.self.now _ c.take-found.result c.take-found.new.room c.lend.result
    (took c.args.c c.args.self.now c.self.inside.slots.items c.take-found.new.slots.items c.self.inside.waits c.take-found.new.waits c.take-found.result c.take-found.new.room c.self.view_is c.self.invariant c.requires.connection c.take-found.ensures.taken c.take-found.ensures.waits)
    c.lend.ensures

pub returns-clause-others : goal.returns-clause-others
returns-clause-others c =
    others_stay_taking c.args.c c.args.self.now _ c.take-found.result c.take-found.new.room
    (took c.args.c c.args.self.now c.self.inside.slots.items c.take-found.new.slots.items c.self.inside.waits c.take-found.new.waits c.take-found.result c.take-found.new.room c.self.view_is c.self.invariant c.requires.connection c.take-found.ensures.taken c.take-found.ensures.waits)

pub invariant_of-self : goal.invariant_of-self
invariant_of-self c =
    sound_taking c.args.c c.args.self.now _ c.take-found.result c.take-found.new.room
    (took c.args.c c.args.self.now c.self.inside.slots.items c.take-found.new.slots.items c.self.inside.waits c.take-found.new.waits c.take-found.result c.take-found.new.room c.self.view_is c.self.invariant c.requires.connection c.take-found.ensures.taken c.take-found.ensures.waits)
