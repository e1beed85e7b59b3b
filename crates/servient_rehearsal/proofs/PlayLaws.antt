-- Where a call succeeded, all that a turn makes was noted; where it failed, a turn was played at most.
use Rattle.std.proofs.Common.{◌≡◌, ◌∙◌, ℕ, ◌&&◌, Bool, true, not, List, ◌+◌, ◌≤◌, take, get_or, length, refl, sym, ap, subst, arith}
use Rattle.std.specs.Prelude.{Result, Ok, Err, OnOk, OnErr, Option, Some, None, is_some, option_map, slice_get}
use Rattle.std.proofs.lemmas.Option.{get_or_from_slice_get}
use Rattle.coap_msg.specs.declared.endpoint.Endpoint.{Endpoint}
use Rattle.coap_client.specs.declared.news.News.{News}
use Rattle.coap_client.specs.declared.news.Delivered.{Delivered}
use Rattle.coap_client.specs.Exchange.{at_moment, Delivers}
use Rattle.coap_client.specs.declared.state.State.{State as ClientState}
use Rattle.thing_handler.specs.Handler.{Seen}
use Rattle.servient_outside.specs.declared.net.EventWithBytes.{EventWithBytes}
use Rattle.servient_core.specs.Machine.{Site}
use Rattle.servient_core.specs.declared.layers.Layers.{Layers}
use Rattle.servient_core.proofs.PartLaws.{stands_for_some}
use Rattle.servient_world.specs.World.{client_place}
use Rattle.servient_ends.specs.Ends.{Turn, delivers}
use Rattle.servient_rehearsal.specs.declared.notes.Notes.{Notes}
use Rattle.servient_rehearsal.specs.declared.world.World.{World}
use Rattle.servient_rehearsal.specs.declared.world.SentDatagram.{SentDatagram}
use Rattle.servient_rehearsal.specs.Noted.{Noted, noted_of, with_datagram, with_news}
use Rattle.servient_rehearsal.specs.Playing.{kept, ClientPlays, ClientPlaysAtMost, ServientPlays, ServientPlaysAtMost, HearsAndNotes, HearsAtMost, GoesOn, NotesGoOn, ComesTo, may_come_now}
use Rattle.servient_rehearsal.proofs.TurnLaws.{Turns, turns_play, turns_at_most}
use Rattle.servient_rehearsal.proofs.ClientLaws.{with_reply, taken_turn}
use Rattle.servient_rehearsal.proofs.EventLaws.{StepsTurn, steps_play, steps_at_most}

pub on_ok : {T E P : Type 0} (r : Result T E) → P → OnOk r P
on_ok (Ok x) p = p
on_ok (Err e) p = tt

pub on_error : {T E P : Type 0} (r : Result T E) → P → OnErr r P
on_error (Ok x) p = tt
on_error (Err e) p = p

-- whatever the servient is, the client's turn makes this of what is noted
abbrev pub ClientTurns : Turn → ClientState → ClientState → Notes → Noted → ℕ → Type 0
ClientTurns m old new before now last = (site : Site) (s : Layers) (slots : List Seen) → Turns site m (kept s old before) s new slots slots now last

pub client_played : (m : Turn) (old new : ClientState) (before after : Notes) (now : Noted) (last : ℕ)
    → ClientTurns m old new before now last → noted_of after.world ≡ now → after.registered ≡ last → ClientPlays m old new before after
client_played m old new before after now last turns noted registered =
    λ site s slots. turns_play site m (kept s old before) s new after slots slots now last (turns site s slots) noted registered

pub client_plays : {T E : Type 0} (r : Result T E) (m : Turn) (old new : ClientState) (before after : Notes) (now : Noted) (last : ℕ)
    → ClientTurns m old new before now last → OnOk r (noted_of after.world ≡ now) → OnOk r (after.registered ≡ last) → OnOk r (ClientPlays m old new before after)
client_plays (Ok x) m old new before after now last turns noted registered = client_played m old new before after now last turns noted registered
client_plays (Err e) m old new before after now last turns noted registered = tt

pub client_plays_at_most : {T E : Type 0} (r : Result T E) (m : Turn) (old new : ClientState) (before : Notes) (now : Noted) (last : ℕ)
    → ClientTurns m old new before now last → OnErr r (ClientPlaysAtMost m old new before)
client_plays_at_most r m old new before now last turns =
    on_error r (λ site s after slots. turns_at_most site m (kept s old before) s new after slots slots now last (turns site s slots))

-- ---- a datagram comes

-- this is the datagram of a number, and it may come to this end
pub record ComesHere (place : Endpoint) (i : ℕ) (w : World) (d : SentDatagram) : Type 0 where
  pub at : slice_get w.sent.items i ≡ Some d
  pub may : may_come_now w.moment d ≡ true
  pub to : d.to ≡ place

pub comes_here : (place : Endpoint) (i : ℕ) (w : World) (d : SentDatagram) → ComesTo place i w → d ≡ get_or w.sent.items i d → ComesHere place i w d
comes_here place i w d there is =
    let same : there.0 ≡ d = sym (is ∙ get_or_from_slice_get w.sent.items i there.0 d there.1) in
    subst (ComesHere place i w) same (record { at = there.1; may = there.2; to = there.3 })

-- the notes of news and of the reply
abbrev pub with_told : Endpoint → Delivered → Bool → List ℕ → ℕ → Noted → Noted
with_told from told ends new k n = with_reply from (option_map (λ (m : ℕ). take m new) told.reply) (with_news told.news ends k n)

pub taken_turns : (i : ℕ) (e : SentDatagram) (client t : ClientState) (notes : Notes) (told : Delivered) (old new bytes : List ℕ)
    → ComesHere client_place i notes.world e → bytes ≡ e.bytes → Delivers (at_moment notes.world.moment client) e.from bytes told old new t
    → ClientTurns (delivers i) client t notes (with_told e.from told (is_some client.outstanding && not (is_some t.outstanding)) new notes.registered (noted_of notes.world)) notes.registered
taken_turns i e client t notes told old new bytes here same comes = λ site s slots.
    taken_turn site s slots i e client t notes told old new here.at here.may here.to
    (subst (λ (l : List ℕ). Delivers (at_moment notes.world.moment client) e.from l told old new t) same comes)

pub reply_noted : (told : Delivered) (size : ℕ) (new : List ℕ) (from : Endpoint) (ends b : Bool) (k : ℕ) (n mid now : Noted) → told.reply ≡ Some size → ends ≡ b
    → mid ≡ with_news told.news ends k n → now ≡ with_datagram client_place from (take size new) mid → now ≡ with_told from told b new k n
reply_noted told size new from ends b k n mid now is same one two =
    two
    ∙ (ap (with_datagram client_place from (take size new)) (one ∙ ap (λ (x : Bool). with_news told.news x k n) same)
    ∙ ap (λ (o : Option ℕ). with_reply from (option_map (λ (m : ℕ). take m new) o) (with_news told.news b k n)) (sym is))

pub no_reply_noted : (told : Delivered) (new : List ℕ) (from : Endpoint) (ends b : Bool) (k : ℕ) (n now : Noted) → told.reply ≡ None → ends ≡ b
    → now ≡ with_news told.news ends k n → now ≡ with_told from told b new k n
no_reply_noted told new from ends b k n now is same one =
    one
    ∙ (ap (λ (x : Bool). with_news told.news x k n) same
    ∙ ap (λ (o : Option ℕ). with_reply from (option_map (λ (m : ℕ). take m new) o) (with_news told.news b k n)) (sym is))

-- ---- the servient steps

-- whatever the client is, a step on this event is this turn
abbrev pub ServientTurns : Site → Turn → EventWithBytes → Layers → Layers → Notes → List Seen → List Seen → Type 0
ServientTurns site m e old new notes slots shown = (client : ClientState) → StepsTurn site m e old new client notes slots shown

pub servient_plays : {T E : Type 0} (r : Result T E) (site : Site) (m : Turn) (e : EventWithBytes) (old new : Layers) (notes after : Notes) (slots shown : List Seen) → ServientTurns site m e old new notes slots shown
    → OnOk r (HearsAndNotes site e old new slots shown (noted_of notes.world) (noted_of after.world)) → after.registered ≡ notes.registered → OnOk r (ServientPlays site m old new notes after slots shown)
servient_plays (Ok x) site m e old new notes after slots shown turns hears registered =
    λ client. steps_play site m e old new client notes after slots shown (turns client) hears registered
servient_plays (Err f) site m e old new notes after slots shown turns hears registered = tt

pub servient_plays_at_most : {T E : Type 0} (r : Result T E) (site : Site) (m : Turn) (e : EventWithBytes) (old new : Layers) (notes : Notes) (slots shown : List Seen) → ServientTurns site m e old new notes slots shown
    → OnErr r (HearsAtMost site e old new slots shown) → OnErr r (ServientPlaysAtMost site m old new notes slots shown)
servient_plays_at_most (Ok x) site m e old new notes slots shown turns hears = tt
servient_plays_at_most (Err f) site m e old new notes slots shown turns hears =
    λ client after. steps_at_most site m e old new client notes after slots shown (turns client) hears

-- a turn in which nothing is heard
pub servient_played : (site : Site) (m : Turn) (s : Layers) (notes : Notes) (slots : List Seen)
    → ((client : ClientState) → Turns site m (kept s client notes) s client slots slots (noted_of notes.world) notes.registered) → ServientPlays site m s s notes notes slots slots
servient_played site m s notes slots turns =
    λ client. turns_play site m (kept s client notes) s client notes slots slots (noted_of notes.world) notes.registered (turns client) refl refl

-- ---- weaker

pub on_error_weaker : {T E P Q : Type 0} (r : Result T E) → (P → Q) → OnErr r P → OnErr r Q
on_error_weaker (Ok x) f p = tt
on_error_weaker (Err e) f p = f p

-- where nothing but datagrams was noted, the client may go on
pub goes_on_so : (client : ClientState) (old new : Notes) → client.moment ≤ old.world.moment → NotesGoOn old new → GoesOn 0 client old new
goes_on_so client old new now notes =
    let moment = notes.moment in
    let count = ap length notes.asks in
    record { client = omega arith; moment = omega arith; asks = omega arith }

pub hears_go_on : (site : Site) (e : EventWithBytes) (old new : Layers) (notes after : Notes) (slots shown : List Seen) → HearsAndNotes site e old new slots shown (noted_of notes.world) (noted_of after.world) → NotesGoOn notes after
hears_go_on site e old new notes after slots shown hears =
    let some = stands_for_some old in
    let noted = (hears some.0 some.1).1 in
    record { moment = ap (λ (n : Noted). n.moment) noted; asks = ap (λ (n : Noted). n.asks) noted }
