-- The moves that leave the directory: all but that a request to it is performed.
use Rattle.std.proofs.Common.{◌≡◌, ℕ, List, [], ◌∷◌, refl, ap, ◌∙◌, inl, inr}
use Rattle.std.specs.Prelude.{Option, Some, None, map}
use Rattle.servient_base.specs.Moves.{Each, Until, is_done, goes_on}
use Rattle.coap_msg.specs.declared.endpoint.Endpoint.{Endpoint}
use Rattle.coap_bind.specs.Server.{Heard, ignored, answered_at_once, asked}
use Rattle.http_bind.specs.Streams.{HttpReply, oldest_for, oldest_late, NoneIdle}
use Rattle.thing_site.specs.Site.{Placed}
use Rattle.thing_state.specs.State.{Emission}
use Rattle.servient_trace.specs.Trace.{Sighting}
use Rattle.servient_core.specs.Machine.{Site, State, Move, RepliesToWait, AnswersWait, AnswersLateWait, SendsIfAny, Delivers, DeliversEach, AnswersDatagram, HearsDatagram, ClosesIdle, PollsAndDelivers, SendsNotification, NothingIsDue, EndsEvent}

-- the directory and the moment are as they were
pub record SameDirectory (s t : State) : Type 0 where
  pub directory : t.directory ≡ s.directory
  pub moment : t.moment ≡ s.moment

pub same_as : (s u t : State) → t ≡ u → u.directory ≡ s.directory → u.moment ≡ s.moment → SameDirectory s t
same_as s u t is directory moment = record {
  directory = ap (λ (x : State). x.directory) is ∙ directory;
  moment = ap (λ (x : State). x.moment) is ∙ moment;
}

pub same_state : (s t : State) → t ≡ s → SameDirectory s t
same_state s t is = same_as s s t is refl refl

pub then_same : (s m t : State) → SameDirectory s m → SameDirectory m t → SameDirectory s t
then_same s m t one other = record { directory = other.directory ∙ one.directory; moment = other.moment ∙ one.moment }

-- a move leaves them
abbrev Leaves : Move → Type 0
Leaves P = (s t : State) (seen : List Sighting) → P s seen t → SameDirectory s t

until_same : (P : Move) (IsDone : State → Type 0) → Leaves P → Leaves (Until P IsDone)
until_same P IsDone each s t seen (is_done s' seen' t' done stays) = same_state s t stays.next
until_same P IsDone each s t seen (goes_on s' mid t' seen' first second one more whole) =
    then_same s mid t (each s mid first one) (until_same P IsDone each mid t second more)

each_same : {A : Type 0} (P : A → Move) → ((x : A) → Leaves (P x)) → (xs : List A) → Leaves (Each P xs)
each_same P each [] s t seen stays = same_state s t stays.next
each_same P each (x ∷ xs) s t seen w = then_same s w.mid t (each x s w.mid w.first w.one) (each_same P each xs w.mid t w.second w.other)

wait_reply_same : (c : ℕ) (text : Option (List ℕ)) → Leaves (RepliesToWait c text)
wait_reply_same c text s t seen w =
    then_same s w.1.mid t (same_as s (record s { http = w.1.one.0 }) w.1.mid w.1.one.2.next refl refl) (same_state w.1.mid t w.1.other.next)

delivers_same : (target : ℕ) → Leaves (Delivers target)
delivers_same target s t seen w =
    then_same s w.mid t
    (until_same (AnswersWait target) (λ (x : State). oldest_for target x.http.waits ≡ None) (λ x y calls move. wait_reply_same move.0 _ x y calls move.2) s w.mid w.first w.one)
    (same_as w.mid (record w.mid { coap = w.other.0 }) t w.other.2.next refl refl)

pub delivers_each_same : (emissions : List Emission) → Leaves (DeliversEach emissions)
delivers_each_same emissions s t seen each = each_same Delivers delivers_same (map (λ e. e.target) emissions) s t seen each

pub if_any_same : (c : ℕ) (reply : Option HttpReply) → Leaves (SendsIfAny c reply)
if_any_same c None s t seen stays = same_state s t stays.next
if_any_same c (Some reply) s t seen does = same_state s t does.next

pub polls_same : (p : Placed) → Leaves (PollsAndDelivers p)
polls_same p s t seen (emissions, w) =
    then_same s w.mid t (same_as s (record s { thing = w.one.0 }) w.mid w.one.3.next refl refl) (delivers_each_same emissions w.mid t w.second w.other)

pub all_polls_same : (ps : List Placed) → Leaves (Each PollsAndDelivers ps)
all_polls_same ps s t seen each = each_same PollsAndDelivers polls_same ps s t seen each

answers_same : (site : Site) (from : Endpoint) (what : Heard) → Leaves (AnswersDatagram site from what)
answers_same site from ignored s t seen stays = same_state s t stays.next
answers_same site from (answered_at_once bytes) s t seen does = same_state s t does.next
answers_same site from (asked ask pending) s t seen (done, w) =
    let answered = w.other.one.1 in
    then_same s w.mid t (same_as s (record s { thing = w.one.0 }) w.mid w.one.3.next refl refl)
    (then_same w.mid w.other.mid t
    (then_same w.mid answered.mid w.other.mid (same_as w.mid (record w.mid { coap = answered.one.0 }) answered.mid answered.one.2.next refl refl) (same_state answered.mid w.other.mid answered.other.next))
    (delivers_each_same done.emissions w.other.mid t w.other.second w.other.other))

pub datagram_same : (site : Site) (from : Endpoint) (bytes : List ℕ) → Leaves (HearsDatagram site from bytes)
datagram_same site from bytes s t seen (inl long) = same_state s t long.1.next
datagram_same site from bytes s t seen (inr (short, (what, w))) =
    then_same s w.mid t (same_as s (record s { coap = w.one.0 }) w.mid w.one.2.next refl refl) (answers_same site from what w.mid t w.second w.other)

notification_same : Leaves SendsNotification
notification_same s t seen (n, w) =
    then_same s w.mid t (same_as s (record s { coap = w.one.0 }) w.mid w.one.2.next refl refl) (same_state w.mid t w.other.next)

closes_same : Leaves ClosesIdle
closes_same s t seen (c, w) =
    then_same s w.mid t (same_as s (record s { http = w.one.0 }) w.mid w.one.2.next refl refl) (same_state w.mid t w.other.next)

pub ends_same : Leaves EndsEvent
ends_same s t seen w =
    let told = w.one in
    let rest = w.other in
    then_same s w.mid t
    (then_same s told.mid w.mid (until_same SendsNotification NothingIsDue notification_same s told.mid told.first told.one)
    (same_as told.mid (record told.mid { coap = told.other.0 }) w.mid told.other.2.next refl refl))
    (then_same w.mid rest.mid t
    (until_same AnswersLateWait (λ (x : State). oldest_late x.moment x.http.waits ≡ None) (λ x y calls move. wait_reply_same move.0 None x y calls move.2) w.mid rest.mid rest.first rest.one)
    (until_same ClosesIdle (λ (x : State). NoneIdle x.moment x.http) closes_same rest.mid t rest.second rest.other))
