use Rattle.std.proofs.Common.{◌≡◌, ◌∙◌, ◌&&◌, Bool, not, refl, ap}
use Rattle.std.specs.Prelude.{is_some}
use Rattle.std.proofs.lemmas.Result.{on_ok_weaker}
use Rattle.servient_world.specs.World.{client_place}
use Rattle.servient_ends.specs.Ends.{delivers}
use Rattle.servient_rehearsal.specs.Noted.{noted_of}
use Rattle.servient_rehearsal.proofs.TurnLaws.{nothing_done}
use Rattle.servient_rehearsal.proofs.PlayLaws.{on_ok, on_error, client_played, client_plays, client_plays_at_most, comes_here, with_told, taken_turns, reply_noted, no_reply_noted}
use Rattle.servient_rehearsal.proofs.taking.take_sent.Goals as goal

pub returns-in_err-bytes-clause-fault : goal.returns-in_err-bytes-clause-fault
returns-in_err-bytes-clause-fault c =
    on_error c.from_residual.result (λ site s after slots. nothing_done site (delivers c.args.index) s s c.args.client.now c.args.notes.now after slots slots refl refl)

pub returns-in_err-note_news-clause-fault : goal.returns-in_err-note_news-clause-fault
returns-in_err-note_news-clause-fault c =
    let e = c.index-datagram.result.now in
    client_plays_at_most c.from_residual-in_err-note_news.result (delivers c.args.index) c.args.client.now c.deliver-told.new.self c.args.notes.now
    (with_told e.from c.deliver-told.result (is_some c.args.client.now.outstanding && not (is_some c.deliver-told.new.self.outstanding)) c.deliver-told.new.out c.args.notes.now.registered (noted_of c.args.notes.now.world))
    c.args.notes.now.registered
    (taken_turns c.args.index e c.args.client.now c.deliver-told.new.self c.args.notes.now c.deliver-told.result _ c.deliver-told.new.out c.as_slice-2.result.now
    (comes_here client_place c.args.index c.args.notes.now.world e c.requires.there c.index-datagram.ensures)
    (c.as_slice-2.ensures ∙ (c.in_ok-bytes.ensures ∙ c.as_slice.ensures)) c.deliver-told.ensures.ok)

pub returns-in-Some-clause-ok : goal.returns-in-Some-clause-ok
returns-in-Some-clause-ok c =
    let e = c.index-datagram.result.now in
    let ended : c.has_ended-ends.result ≡ (is_some c.args.client.now.outstanding && not (is_some c.deliver-told.new.self.outstanding))
    = c.has_ended-ends.ensures ∙ ap (λ (x : Bool). x && not (is_some c.deliver-told.new.self.outstanding)) c.has_outstanding-was_outstanding.ensures in
    client_plays c.sent.result (delivers c.args.index) c.args.client.now c.deliver-told.new.self c.args.notes.now c.sent.new.self
    (with_told e.from c.deliver-told.result (is_some c.args.client.now.outstanding && not (is_some c.deliver-told.new.self.outstanding)) c.deliver-told.new.out c.args.notes.now.registered (noted_of c.args.notes.now.world))
    c.args.notes.now.registered
    (taken_turns c.args.index e c.args.client.now c.deliver-told.new.self c.args.notes.now c.deliver-told.result _ c.deliver-told.new.out c.as_slice-2.result.now
    (comes_here client_place c.args.index c.args.notes.now.world e c.requires.there c.index-datagram.ensures)
    (c.as_slice-2.ensures ∙ (c.in_ok-bytes.ensures ∙ c.as_slice.ensures)) c.deliver-told.ensures.ok)
    (on_ok_weaker c.sent.result
    (λ noted. reply_noted c.deliver-told.result c.in-Some.size c.deliver-told.new.out e.from c.has_ended-ends.result (is_some c.args.client.now.outstanding && not (is_some c.deliver-told.new.self.outstanding))
    c.args.notes.now.registered (noted_of c.args.notes.now.world) (noted_of c.note_news.new.notes.world) (noted_of c.sent.new.self.world) c.in-Some.is ended c.in_ok-note_news.ensures.noted noted)
    c.sent.ensures.noted)
    (on_ok c.sent.result (c.sent.ensures.registered ∙ c.note_news.ensures.registered))

pub returns-in-Some-clause-fault : goal.returns-in-Some-clause-fault
returns-in-Some-clause-fault c =
    let e = c.index-datagram.result.now in
    client_plays_at_most c.sent.result (delivers c.args.index) c.args.client.now c.deliver-told.new.self c.args.notes.now
    (with_told e.from c.deliver-told.result (is_some c.args.client.now.outstanding && not (is_some c.deliver-told.new.self.outstanding)) c.deliver-told.new.out c.args.notes.now.registered (noted_of c.args.notes.now.world))
    c.args.notes.now.registered
    (taken_turns c.args.index e c.args.client.now c.deliver-told.new.self c.args.notes.now c.deliver-told.result _ c.deliver-told.new.out c.as_slice-2.result.now
    (comes_here client_place c.args.index c.args.notes.now.world e c.requires.there c.index-datagram.ensures)
    (c.as_slice-2.ensures ∙ (c.in_ok-bytes.ensures ∙ c.as_slice.ensures)) c.deliver-told.ensures.ok)

pub returns-clause-ok : goal.returns-clause-ok
returns-clause-ok c =
    let e = c.index-datagram.result.now in
    let ended : c.has_ended-ends.result ≡ (is_some c.args.client.now.outstanding && not (is_some c.deliver-told.new.self.outstanding))
    = c.has_ended-ends.ensures ∙ ap (λ (x : Bool). x && not (is_some c.deliver-told.new.self.outstanding)) c.has_outstanding-was_outstanding.ensures in
    client_played (delivers c.args.index) c.args.client.now c.deliver-told.new.self c.args.notes.now c.note_news.new.notes
    (with_told e.from c.deliver-told.result (is_some c.args.client.now.outstanding && not (is_some c.deliver-told.new.self.outstanding)) c.deliver-told.new.out c.args.notes.now.registered (noted_of c.args.notes.now.world))
    c.args.notes.now.registered
    (taken_turns c.args.index e c.args.client.now c.deliver-told.new.self c.args.notes.now c.deliver-told.result _ c.deliver-told.new.out c.as_slice-2.result.now
    (comes_here client_place c.args.index c.args.notes.now.world e c.requires.there c.index-datagram.ensures)
    (c.as_slice-2.ensures ∙ (c.in_ok-bytes.ensures ∙ c.as_slice.ensures)) c.deliver-told.ensures.ok)
    (no_reply_noted c.deliver-told.result c.deliver-told.new.out e.from c.has_ended-ends.result (is_some c.args.client.now.outstanding && not (is_some c.deliver-told.new.self.outstanding))
    c.args.notes.now.registered (noted_of c.args.notes.now.world) (noted_of c.note_news.new.notes.world) c.in-None.is ended c.in_ok-note_news.ensures.noted)
    c.note_news.ensures.registered
