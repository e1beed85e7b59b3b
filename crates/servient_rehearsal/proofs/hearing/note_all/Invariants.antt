-- the notes so far, with the datagrams that are left, are all
use Rattle.std.proofs.Common.{◌≡◌, drop}
use Rattle.servient_rehearsal.specs.Noted.{noted_of, with_datagrams}
use Rattle.servient_rehearsal.specs.Playing.{datagrams_among}
use Rattle.servient_rehearsal.proofs.hearing.note_all.Given as goal

abbrev pub invariant-loop-act : goal.invariant-loop-act
invariant-loop-act l =
    (with_datagrams (datagrams_among (drop l.act-index l.acts)) (noted_of l.notes.world) ≡ with_datagrams (datagrams_among l.acts) (noted_of l.fn.notes.world))
    × (l.notes.registered ≡ l.fn.notes.registered)
