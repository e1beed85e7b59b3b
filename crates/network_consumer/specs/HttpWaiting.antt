-- A reply over HTTP is awaited: what each event brings, until 60,000 ms after the request (RFC 9112, section 9.6 says
-- what a connection that ends leaves).
use Rattle.std.specs.Prelude.{◌≡◌, ℕ, max, nat_eq, nat_le, List, [], ◌++◌, Bool, true, false, Option, Some, None, if◌then◌else◌}
use Rattle.servient_outside.specs.declared.net.What.{What}
use Rattle.servient_outside.specs.declared.net.What.TheVariants as what
use Rattle.servient_outside.specs.declared.net.EventWithBytes.{EventWithBytes}
use Rattle.network_consumer.specs.declared.purpose.Purpose.{Purpose}
use Rattle.network_consumer.specs.declared.consumed.Consumed.{Consumed}
use Rattle.network_consumer.specs.declared.consumed.Consumed.TheVariants.{Silent}
use Rattle.network_consumer.specs.declared.consumed.ConsumedOutcome.TheVariants as outcome
use Rattle.network_consumer.specs.declared.answers.Verdict.{Verdict}
use Rattle.network_consumer.specs.declared.answers.Verdict.TheVariants as verdict
use Rattle.network_consumer.specs.declared.http_waiting.HttpWaiting.{HttpWaiting}
use Rattle.network_consumer.specs.Deeds.{Deed}
use Rattle.network_consumer.specs.Answers.{ReceivesAs, Closes}

-- the number of milliseconds after the request, which is sent at moment 0, until which a reply is awaited
abbrev pub deadline : ℕ
deadline = 60000

-- nothing came yet
abbrev pub waiting_on : ℕ → HttpWaiting
waiting_on c = record { connection = c; moment = 0; received = [] }

-- the bytes among what came that came on this connection
abbrev pub bytes_on : ℕ → What → List ℕ → List ℕ
bytes_on c (what.Bytes d count) bytes = if nat_eq d c then bytes else []
bytes_on c (what.Opened d) bytes = []
bytes_on c (what.Ended d) bytes = []
bytes_on c (what.Datagram from count) bytes = []
bytes_on c what.Tick bytes = []
bytes_on c what.Stop bytes = []

-- it has heard an event: the moment is the greatest so far, and what came on its connection is received
abbrev pub after_event : HttpWaiting → EventWithBytes → HttpWaiting
after_event w e =
    record w {
      moment = max w.moment e.event.moment;
      received = w.received ++ bytes_on w.connection e.event.what e.bytes;
    }

-- the event is of this connection, or it is the end of all
abbrev pub concerns : ℕ → What → Bool
concerns c (what.Bytes d count) = nat_eq d c
concerns c (what.Ended d) = nat_eq d c
concerns c what.Stop = true
concerns c (what.Opened d) = false
concerns c (what.Datagram from count) = false
concerns c what.Tick = false

-- the verdict on the event, where these bytes are received on connection c, or that it goes on
pub data Brings (p : Purpose) (c : ℕ) (received : List ℕ) (w : What) (r : Option Verdict) : Type 0 where
  bytes_came : (count : ℕ) → w ≡ what.Bytes c count → ReceivesAs p false received r → Brings p c received w r
  has_ended : w ≡ what.Ended c → ReceivesAs p true received r → Brings p c received w r
  has_stopped : w ≡ what.Stop → r ≡ Some (verdict.Outcome outcome.Stopped) → Brings p c received w r
  is_of_another : concerns c w ≡ false → r ≡ None → Brings p c received w r
  event_memory : r ≡ Some verdict.NoMemory → Brings p c received w r

-- the end at this moment where nothing else ended it, or that it goes on
abbrev pub at_deadline : ℕ → Option Consumed
at_deadline moment = if nat_le deadline moment then Some Silent else None

-- the deeds on an event, after which it waits like this, and the end by it, or that it goes on
pub data EndsOrWaits (p : Purpose) (w : HttpWaiting) (e : EventWithBytes) (deeds : List Deed) (r : Option Consumed) : Type 0 where
  has_come : (v : Verdict) (c : Consumed) → Brings p w.connection w.received e.event.what (Some v) → Closes v deeds c → r ≡ Some c → EndsOrWaits p w e deeds r
  has_not_come : Brings p w.connection w.received e.event.what None → deeds ≡ [] → r ≡ at_deadline w.moment → EndsOrWaits p w e deeds r

abbrev pub HearsByHttp : Purpose → HttpWaiting → EventWithBytes → List Deed → Option Consumed → Type 0
HearsByHttp p w e deeds r = EndsOrWaits p (after_event w e) e deeds r
