-- The clauses of the functions of connections.
use Rattle.std.specs.Prelude.{◌≡◌, ◌≤◌, ◌<◌, ℕ, List, [], map, Bool, true, false, Option, Some, None}
use Rattle.servient_base.specs.Moves.{Stays}
use Rattle.thing_ops.specs.declared.outcome.Outcome.{Outcome}
use Rattle.thing_handler.specs.Handler.{Seen}
use Rattle.thing_site.specs.Site.{Site}
use Rattle.thing_site.specs.Fits.{Fits}
use Rattle.http_bind.specs.Streams.{HttpReply, Answers, Continues, Refuses, IsDry}
use Rattle.wot_registry.specs.Times.{last_moment}
use Rattle.http_bind.specs.Slots.{Slots, Leads}
use Rattle.servient_outside.specs.declared.net.Act.{Act}
use Rattle.servient_outside.specs.Network.{NetSeen, NetShows, did}
use Rattle.servient_core.specs.Machine.{Move, TakesNextMessage, acts_of_reply}
use Rattle.servient_core.specs.declared.layers.Layers.{Layers}

-- While the messages of a connection are taken: no emission waits to be handed out, the exchanges are at no later
-- moment, the moment is one that a clock may give, and the rack is the Things'.
pub record IsOn (c : ℕ) (kept : Layers) (slots : List Seen) : Type 0 where
  pub connection : c < 64
  pub pending : kept.exposed.pending ≡ []
  pub moment : kept.coap.exchanges.moment ≤ kept.moment
  pub clock : kept.moment ≤ last_moment
  pub fits : Fits kept.exposed.site slots

-- the acts where there is a reply, and where a request waits
abbrev pub acts_of_answer : ℕ → Option HttpReply → List Act
acts_of_answer c None = []
acts_of_answer c (Some reply) = acts_of_reply c reply

-- the request that was taken last is answered by this outcome: its reply is sent, or it waits
pub record SendsAnswer (c : ℕ) (o : Outcome) (moment : ℕ) (b d : Slots) (n m : NetSeen) : Type 0 where
  pub reply : Option HttpReply
  pub leads : Leads (Answers c o moment reply) b d
  pub shows : NetShows n m (map did (acts_of_answer c reply))

-- the 100 reply is sent
pub record SendsContinue (c : ℕ) (b d : Slots) (n m : NetSeen) : Type 0 where
  pub bytes : List ℕ
  pub leads : Leads (Continues bytes) b d
  pub shows : NetShows n m (map did (acts_of_reply c (record { bytes = bytes; closes = false })))

-- the reply to a fault is sent
pub record SendsRefusal (c status : ℕ) (b d : Slots) (n m : NetSeen) : Type 0 where
  pub bytes : List ℕ
  pub leads : Leads (Refuses c status bytes) b d
  pub shows : NetShows n m (map did (acts_of_reply c (record { bytes = bytes; closes = true })))

-- nothing can be taken from it
abbrev pub StaysDry : ℕ → Move
StaysDry c s seen t = IsDry c s.http × Stays s seen t

-- one of both
abbrev pub TakesOne : Bool → Site → ℕ → Move
TakesOne true site c = TakesNextMessage site c
TakesOne false site c = StaysDry c
