-- The world of both ends: one CoAP client, one CoAP server, and all datagrams that either ever sent (RFC 7252, sections
-- 4.2 to 4.5; RFC 7641, section 4.5). The network is that list: any datagram of the last 100 seconds may come, any
-- number of times and in any order.
--
-- Both ends are as their own crates say: the client acts by `Asks`, `ComesDue` and `Delivers` of coap_client, the
-- server by `Treats` (`Hears`, `Answers`), `with_emitted` and `SendsNext` of coap_bind. Beside that the world notes the
-- purpose of each datagram, and no end looks at that. No definition here looks into bytes.
use Rattle.std.specs.Prelude.{◌≡◌, ◌<◌, ◌≤◌, ◌+◌, ◌-◌, ◌==◌, ◌&&◌, ◌||◌, ℕ, nat_le, Bool, true, false, List, [], ◌∷◌, ◌++◌, length, map, take, Option, Some, None, option_map, option_to_list, slice_get, if◌then◌else◌}
use Rattle.std.specs.Str.{bytes_eq}
use Rattle.coap_msg.specs.declared.block.Block.{Block}
use Rattle.coap_msg.specs.declared.constants.TheConstants.{LONGEST_DATAGRAM}
use Rattle.coap_msg.specs.declared.endpoint.Endpoint.{Endpoint}
use Rattle.coap_msg.specs.Endpoints.{is_same_endpoint}
use Rattle.coap_msg.specs.Grammar.{spelling}
use Rattle.coap_client.specs.declared.outstanding.Outstanding.{Outstanding}
use Rattle.coap_client.specs.declared.state.State.{State}
use Rattle.coap_client.specs.declared.fault.ClientFault.{ClientFault}
use Rattle.coap_client.specs.declared.news.News.{News}
use Rattle.coap_client.specs.declared.news.News.TheVariants as news
use Rattle.coap_client.specs.declared.news.Delivered.{Delivered}
use Rattle.coap_client.specs.declared.due.Due.TheVariants as what
use Rattle.coap_client.specs.Asking.{Asking, MayAsk}
use Rattle.coap_client.specs.Exchange.{IsNew, at_moment, Asks, IsRefused, request_for, ComesDue, Delivers}
use Rattle.coap_observe.specs.declared.notice.Notice.{Notice}
use Rattle.coap_observe.specs.Accounts.{last_place, token_of, one_if}
use Rattle.coap_bind.specs.declared.server.Server.{Server}
use Rattle.coap_bind.specs.Server.{start as nothing_came, with_emitted, with_links, SendsNext}
use Rattle.coap_bind.specs.Treating.{Acted, Treats}
use Rattle.coap_bind.specs.Writing.{notification}
use Rattle.servient_world.specs.declared.network.TheConstants.{MAX_LATENCY}

-- ---- the state

-- the endpoints of the two ends
abbrev pub client_place : Endpoint
client_place = record { host = 1; port = 49152 }

abbrev pub server_place : Endpoint
server_place = record { host = 2; port = 5683 }

-- The purpose of a datagram. Asks are counted from 0, as they are made, and values from 1, as they are emitted.
pub data Purpose : Type 0 where
  -- to ask: it is a copy of this ask
  copy_of : ℕ → Purpose
  -- because a copy of this ask came
  reply_to : ℕ → Purpose
  -- to notify of the target for which this ask registered: with this sequence number, of the value in this place
  notification_for : ℕ → ℕ → ℕ → Purpose
  -- because of something else
  other : Purpose

pub record Datagram : Type 0 where
  pub moment : ℕ
  pub from : Endpoint
  pub to : Endpoint
  pub bytes : List ℕ
  pub purpose : Purpose

-- an act that the server made because a copy of this ask was admitted
pub record Act : Type 0 where
  pub ask : ℕ
  pub acted : Acted

-- the end of an ask: by a response, of which the block is that of its body which it says; by a value of its target; by
-- a Reset; or by time
pub data End : Type 0 where
  answered : ℕ → Option Block → List ℕ → End
  observed : End
  reset : End
  timed_out : End

pub record AskEnd : Type 0 where
  pub ask : ℕ
  pub end : End

-- a value that was taken for an ask, and its place: 0 for the one that its registration read, and else that of an
-- emission
pub record Value : Type 0 where
  pub ask : ℕ
  pub place : ℕ
  pub payload : List ℕ

-- a value that a target emitted
pub record Emission : Type 0 where
  pub target : ℕ
  pub text : List ℕ

-- Both ends at a moment, and the history: the asks, each as it was when it was first sent; all datagrams that were
-- sent; the acts; the values that were emitted; the number of times that the server used its next message ID; the ends
-- of asks; and the values that the client took. Each list is in the order in which it came about.
pub record WorldState : Type 0 where
  pub moment : ℕ
  pub client : State
  pub server : Server
  pub asks : List Outstanding
  pub sent : List Datagram
  pub acts : List Act
  pub emitted : List Emission
  pub ids : ℕ
  pub ends : List AskEnd
  pub taken : List Value

-- Nothing happened yet: a new client, and a server in which so many exchanges may live and so many observers may be,
-- with some text of its links.
pub record IsStart (first_id exchanges observers : ℕ) (w : WorldState) : Type 0 where
  pub client : IsNew first_id w.client
  pub links : List ℕ
  pub server : w.server ≡ with_links links (nothing_came exchanges observers)
  pub asks : w.asks ≡ []
  pub sent : w.sent ≡ []
  pub acts : w.acts ≡ []
  pub emitted : w.emitted ≡ []
  pub ids : w.ids ≡ 0
  pub ends : w.ends ≡ []
  pub taken : w.taken ≡ []

-- ---- moves

-- The moves: the client asks; it sends again or gives up, if that is due; the datagram that was sent as this one comes;
-- so much time passes; another endpoint's datagram comes to the server; a target gets a new value; the server sends a
-- notification.
pub data WorldMove : Type 0 where
  ask : Asking → WorldMove
  due : WorldMove
  deliver : ℕ → WorldMove
  pass : ℕ → WorldMove
  elsewhere : Endpoint → List ℕ → WorldMove
  emit : Emission → WorldMove
  notify : WorldMove

-- the number of the latest ask, which is the outstanding one if one is
abbrev pub latest : WorldState → ℕ
latest w = length w.asks - 1

-- these are sent now, from one place to another
abbrev pub sent_now : ℕ → Endpoint → Endpoint → Purpose → List (List ℕ) → List Datagram
sent_now moment from to purpose said = map (λ bytes. record { moment = moment; from = from; to = to; bytes = bytes; purpose = purpose }) said

-- the world with these sent as well
abbrev pub with_sent : WorldState → Endpoint → Endpoint → Purpose → List (List ℕ) → WorldState
with_sent w from to purpose said = record w { sent = w.sent ++ sent_now w.moment from to purpose said }

-- ---- the client

-- it asks
pub data ClientAsks (a : Asking) (w v : WorldState) : Type 0 where
  sends_ask : (n : ℕ) (old new : List ℕ) (t : State) → MayAsk a → (asks : Asks (at_moment w.moment w.client) server_place a n old new t)
      → v ≡ with_sent (record w { client = t; asks = w.asks ++ request_for (at_moment w.moment w.client) server_place a asks.id ∷ [] })
      client_place server_place (copy_of (length w.asks)) (take n new ∷ [])
      → ClientAsks a w v
  refuses_ask : (f : ClientFault) → IsRefused (at_moment w.moment w.client) server_place a f
      → v ≡ record w { client = at_moment w.moment w.client } → ClientAsks a w v
  skips_ask : ¬ (MayAsk a) → v ≡ w → ClientAsks a w v

-- it sends again or gives up, if that is due
pub data ClientDoesDue (w v : WorldState) : Type 0 where
  retransmits : (n : ℕ) (old new : List ℕ) (t : State) → ComesDue (at_moment w.moment w.client) (what.Send n) old new t
      → v ≡ with_sent (record w { client = t }) client_place server_place (copy_of (latest w)) (take n new ∷ [])
      → ClientDoesDue w v
  gives_up : (old new : List ℕ) (t : State) → ComesDue (at_moment w.moment w.client) what.TimedOut old new t
      → v ≡ record w { client = t; ends = w.ends ++ record { ask = latest w; end = timed_out } ∷ [] }
      → ClientDoesDue w v
  waits : (old new : List ℕ) (t : State) → ComesDue (at_moment w.moment w.client) what.Nothing old new t
      → v ≡ record w { client = t } → ClientDoesDue w v

-- the ask that was outstanding before this news and isn't afterwards ended so
abbrev pub end_by : Option Outstanding → Option Outstanding → ℕ → News → List AskEnd
end_by (Some o) None k (news.Answered code block payload) = record { ask = k; end = answered code block payload.now } ∷ []
end_by (Some o) None k (news.Value payload) = record { ask = k; end = observed } ∷ []
end_by (Some o) None k news.Reset = record { ask = k; end = reset } ∷ []
end_by (Some o) None k news.Old = []
end_by (Some o) None k news.Nothing = []
end_by (Some o) (Some p) k what = []
end_by None after k what = []

-- the value that a datagram brings that was sent for this
abbrev pub value_by : Purpose → List ℕ → List Value
value_by (copy_of k) payload = []
value_by (reply_to k) payload = record { ask = k; place = 0; payload = payload } ∷ []
value_by (notification_for k q e) payload = record { ask = k; place = e; payload = payload } ∷ []
value_by other payload = []

abbrev pub taken_by : Purpose → News → List Value
taken_by p (news.Value payload) = value_by p payload.now
taken_by p (news.Answered code block payload) = []
taken_by p news.Old = []
taken_by p news.Reset = []
taken_by p news.Nothing = []

-- a datagram comes to it, which it may acknowledge or reset
pub record ClientTakes (d : Datagram) (w v : WorldState) : Type 0 where
  pub told : Delivered
  pub old : List ℕ
  pub new : List ℕ
  pub after : State
  pub delivers : Delivers (at_moment w.moment w.client) d.from d.bytes told old new after
  pub next : v ≡ with_sent (record w {
    client = after;
    ends = w.ends ++ end_by w.client.outstanding after.outstanding (latest w) told.news;
    taken = w.taken ++ taken_by d.purpose told.news;
  }) client_place d.from other (option_to_list (option_map (λ n. take n new) told.reply))

-- ---- the server

-- It does nothing with a datagram that is longer than one that is looked at, and treats any other.
pub data Receives (from : Endpoint) (bytes : List ℕ) (now : ℕ) (act : Option Acted) (back : List (List ℕ)) (s t : Server) : Type 0 where
  too_long : LONGEST_DATAGRAM < length bytes → act ≡ None → back ≡ [] → t ≡ s → Receives from bytes now act back s t
  treated : length bytes ≤ LONGEST_DATAGRAM → Treats from bytes now act back s t → Receives from bytes now act back s t

-- whether it used its next message ID
abbrev pub id_used : Server → Server → ℕ
id_used s t = if t.next_id == s.next_id then 0 else 1

-- an act that was made on a datagram of this purpose
abbrev pub acts_for : Purpose → Option Acted → List Act
acts_for (copy_of k) (Some acted) = record { ask = k; acted = acted } ∷ []
acts_for (copy_of k) None = []
acts_for (reply_to k) act = []
acts_for (notification_for k q e) act = []
acts_for other act = []

-- the purpose of the reply to a datagram of this purpose
abbrev pub purpose_back : Purpose → Purpose
purpose_back (copy_of k) = reply_to k
purpose_back (reply_to k) = other
purpose_back (notification_for k q e) = other
purpose_back other = other

-- a datagram comes to it
pub record ServerTakes (d : Datagram) (w v : WorldState) : Type 0 where
  pub act : Option Acted
  pub back : List (List ℕ)
  pub after : Server
  pub receives : Receives d.from d.bytes w.moment act back w.server after
  pub next : v ≡ with_sent (record w { server = after; acts = w.acts ++ acts_for d.purpose act; ids = w.ids + id_used w.server after })
      server_place d.from (purpose_back d.purpose) back

-- a target gets a new value
abbrev pub with_new_value : Emission → WorldState → WorldState
with_new_value e w = record w { server = with_emitted e.target w.server; emitted = w.emitted ++ e ∷ [] }

abbrev pub targets_of : List Emission → List ℕ
targets_of emitted = map (λ e. e.target) emitted

-- the last value of a target among these, where this was its last before
abbrev pub value_after : ℕ → List ℕ → List Emission → List ℕ
value_after target text [] = text
value_after target text (e ∷ emitted) = value_after target (if e.target == target then e.text else text) emitted

-- the last value of a target, and nothing where it has none
abbrev pub last_value : ℕ → List Emission → List ℕ
last_value target emitted = value_after target [] emitted

-- the number of the ask that registered with this token, where so many asks come before these
abbrev pub registration_from : ℕ → List ℕ → List Outstanding → Option ℕ
registration_from k token [] = None
registration_from k token (a ∷ asks) = if a.registers && bytes_eq token a.token then Some k else registration_from (k + 1) token asks

-- the purpose of a notification: to the client, for the ask that registered with its token
abbrev pub purpose_at : Option ℕ → ℕ → ℕ → Purpose
purpose_at None sequence place = other
purpose_at (Some k) sequence place = notification_for k sequence place

abbrev pub purpose_of : Notice → List Outstanding → List Emission → Purpose
purpose_of n asks emitted =
    if is_same_endpoint n.to client_place
    then purpose_at (registration_from 0 (token_of n) asks) n.sequence (last_place n.target (targets_of emitted))
    else other

-- a notification is sent now: it says the last value of its target
abbrev pub notification_sent : ℕ → List Outstanding → List Emission → Notice → Datagram
notification_sent moment asks emitted n = record {
  moment = moment;
  from = server_place;
  to = n.to;
  bytes = spelling (notification n (last_value n.target emitted));
  purpose = purpose_of n asks emitted;
}

abbrev pub with_notification : Option Notice → WorldState → WorldState
with_notification None w = w
with_notification (Some n) w = record w { sent = w.sent ++ notification_sent w.moment w.asks w.emitted n ∷ []; ids = w.ids + one_if n.fresh }

-- it sends notifications: one at most
pub record ServerNotifies (w v : WorldState) : Type 0 where
  pub notice : Option Notice
  pub after : Server
  pub sends : SendsNext w.moment notice w.server after
  pub next : v ≡ with_notification notice (record w { server = after })

-- ---- the network

-- a datagram may still come: for 100 seconds, to one of the two ends
abbrev pub may_come : ℕ → Datagram → Bool
may_come now d = nat_le (now - d.moment) MAX_LATENCY && (is_same_endpoint d.to client_place || is_same_endpoint d.to server_place)

-- it comes to the end to which it was sent
pub data Comes (d : Datagram) (w v : WorldState) : Type 0 where
  too_late : may_come w.moment d ≡ false → v ≡ w → Comes d w v
  to_client : may_come w.moment d ≡ true → d.to ≡ client_place → ClientTakes d w v → Comes d w v
  to_server : may_come w.moment d ≡ true → d.to ≡ server_place → ServerTakes d w v → Comes d w v

-- the datagram that a delivery names, if there is one
abbrev pub ComesIfSent : Option Datagram → WorldState → WorldState → Type 0
ComesIfSent None w v = v ≡ w
ComesIfSent (Some d) w v = Comes d w v

-- a datagram of another endpoint comes to the server, which isn't one of the two ends
abbrev pub is_end : Endpoint → Bool
is_end from = is_same_endpoint from client_place || is_same_endpoint from server_place

abbrev pub from_elsewhere : ℕ → Endpoint → List ℕ → Datagram
from_elsewhere moment from bytes = record { moment = moment; from = from; to = server_place; bytes = bytes; purpose = other }

pub data ComesElsewhere (from : Endpoint) (bytes : List ℕ) (w v : WorldState) : Type 0 where
  comes_elsewhere : is_end from ≡ false → ServerTakes (from_elsewhere w.moment from bytes) w v → ComesElsewhere from bytes w v
  skips_end : is_end from ≡ true → v ≡ w → ComesElsewhere from bytes w v

-- ---- all moves

-- The effect of a move. One that isn't allowed is skipped.
abbrev pub Plays : WorldMove → WorldState → WorldState → Type 0
Plays (ask a) w v = ClientAsks a w v
Plays due w v = ClientDoesDue w v
Plays (deliver i) w v = ComesIfSent (slice_get w.sent i) w v
Plays (pass n) w v = v ≡ record w { moment = w.moment + n }
Plays (elsewhere from bytes) w v = ComesElsewhere from bytes w v
Plays (emit e) w v = v ≡ with_new_value e w
Plays notify w v = ServerNotifies w v

-- one move after another
abbrev pub PlaysAll : List WorldMove → WorldState → WorldState → Type 0
PlaysAll [] w v = v ≡ w
PlaysAll (m ∷ ms) w v = (mid : WorldState) × Plays m w mid × PlaysAll ms mid v
