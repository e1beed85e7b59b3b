-- The notes on a rehearsal, and the addition of each happening to them.
use Rattle.std.specs.Prelude.{◌≡◌, ◌+◌, ◌-◌, ◌*◌, ℕ, nat_lt, Bool, true, false, List, [], ◌∷◌, ◌++◌, length, map, get_or, if◌then◌else◌}
use Rattle.coap_msg.specs.declared.endpoint.Endpoint.{Endpoint}
use Rattle.coap_client.specs.declared.outstanding.Outstanding.{Outstanding}
use Rattle.coap_client.specs.declared.news.News.{News}
use Rattle.coap_client.specs.declared.news.News.TheVariants as news
use Rattle.servient_world.specs.World.{Datagram, End as EndInWorld, answered, observed, reset, timed_out, AskEnd as AskEndInWorld, Value, client_place, server_place}
use Rattle.servient_rehearsal.specs.declared.world.World.{World}
use Rattle.servient_rehearsal.specs.declared.world.SentDatagram.{SentDatagram}
use Rattle.servient_rehearsal.specs.declared.world.AskMade.{AskMade}
use Rattle.servient_rehearsal.specs.declared.world.AskEnd.{AskEnd}
use Rattle.servient_rehearsal.specs.declared.world.End.{End}
use Rattle.servient_rehearsal.specs.declared.world.End.TheVariants as end
use Rattle.servient_rehearsal.specs.declared.world.TakenValue.{TakenValue}

-- the parts that `World` of src/world.rt has, apart from where it lies in memory
pub record Noted : Type 0 where
  pub moment : ℕ
  pub sent : List SentDatagram
  pub asks : List AskMade
  pub ends : List AskEnd
  pub taken : List TakenValue

abbrev pub noted_of : World → Noted
noted_of w = record { moment = w.moment; sent = w.sent.items; asks = w.asks.items; ends = w.ends.items; taken = w.taken.items }

-- nothing happened yet
abbrev pub nothing_noted : Noted
nothing_noted = record { moment = 0; sent = []; asks = []; ends = []; taken = [] }

-- ---- what is added

-- these bytes were sent now
abbrev pub with_datagram : Endpoint → Endpoint → List ℕ → Noted → Noted
with_datagram from to bytes n = record n { sent = n.sent ++ record { moment = n.moment; from = from; to = to; bytes = bytes } ∷ [] }

-- these were sent now by the servient, each with its receiver
abbrev pub with_datagrams : List (Endpoint × List ℕ) → Noted → Noted
with_datagrams said n = record n { sent = n.sent ++ map (λ d. record { moment = n.moment; from = server_place; to = d.0; bytes = d.1 }) said }

-- the message ID in the bytes of a message (RFC 7252, section 3)
abbrev pub id_in : List ℕ → ℕ
id_in bytes = if nat_lt (length bytes) 4 then 0 else get_or bytes 2 0 * 256 + get_or bytes 3 0

-- the client sent these bytes to ask for something
abbrev pub with_ask : List ℕ → Noted → Noted
with_ask bytes n = with_datagram client_place server_place bytes (record n { asks = n.asks ++ record { ask = length n.asks; id = id_in bytes; first = n.moment } ∷ [] })

-- the last ask ended so
abbrev pub with_end : End → Noted → Noted
with_end e n = record n { ends = n.ends ++ record { ask = length n.asks - 1; end = e } ∷ [] }

-- the client took a value, for which this ask registered
abbrev pub with_value : ℕ → List ℕ → Noted → Noted
with_value k value n = record n { taken = n.taken ++ record { ask = k; value = value } ∷ [] }

-- the number of the last ask that registered, after one more with this number
abbrev pub number_after : Bool → ℕ → ℕ → ℕ
number_after registers k before = if registers then k else before

-- the addition of news, which end the last ask or don't
abbrev pub with_end_if : Bool → End → Noted → Noted
with_end_if true e n = with_end e n
with_end_if false e n = n

abbrev pub with_news : News → Bool → ℕ → Noted → Noted
with_news (news.Answered code block payload) ends k n = with_end_if ends (end.Answered code block payload.now) n
with_news (news.Value payload) ends k n = with_value k payload.now (with_end_if ends end.Observed n)
with_news news.Reset ends k n = with_end_if ends end.Reset n
with_news news.Old ends k n = n
with_news news.Nothing ends k n = n

-- ---- the world, as it is noted

-- a datagram, without what it was sent for
abbrev pub shown_datagram : Datagram → SentDatagram
shown_datagram d = record { moment = d.moment; from = d.from; to = d.to; bytes = d.bytes }

-- asks, of which the first has this number
abbrev pub shown_asks : ℕ → List Outstanding → List AskMade
shown_asks k [] = []
shown_asks k (a ∷ asks) = record { ask = k; id = a.id; first = a.first } ∷ shown_asks (k + 1) asks

abbrev pub shown_end : EndInWorld → End
shown_end (answered code block payload) = end.Answered code block payload
shown_end observed = end.Observed
shown_end reset = end.Reset
shown_end timed_out = end.TimedOut

abbrev pub shown_ends : List AskEndInWorld → List AskEnd
shown_ends ends = map (λ e. record { ask = e.ask; end = shown_end e.end }) ends

-- values, without the places of their emissions
abbrev pub shown_values : List Value → List TakenValue
shown_values values = map (λ v. record { ask = v.ask; value = v.payload }) values

-- the number of the last ask that registered, where the first of these has number k, and this was the last before
abbrev pub last_from : ℕ → ℕ → List Outstanding → ℕ
last_from before k [] = before
last_from before k (a ∷ asks) = last_from (number_after a.registers k before) (k + 1) asks

-- the same of all asks, and 0 where none registered
abbrev pub last_registration : List Outstanding → ℕ
last_registration asks = last_from 0 0 asks
