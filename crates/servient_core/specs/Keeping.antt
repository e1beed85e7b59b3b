-- The clauses of the functions over the layers of a servient.
use Rattle.std.specs.Prelude.{◌≡◌, ◌⊎◌, ◌≤◌, ℕ, List, [], ◌∷◌, map, Bool, true, false, Option, None}
use Rattle.servient_base.specs.Moves.{Becomes, Until, Makes, Refines}
use Rattle.thing_ops.specs.declared.outcome.Outcome.{Outcome}
use Rattle.thing_ops.specs.Outcomes.{HasCode}
use Rattle.thing_ops.specs.Requests.{RequestSeen}
use Rattle.thing_ops.specs.Routes.{route_of}
use Rattle.thing_handler.specs.Handler.{Seen}
use Rattle.thing_handler.specs.Turns.{RackShows}
use Rattle.thing_site.specs.Site.{Placed}
use Rattle.thing_site.specs.Fits.{Fits}
use Rattle.thing_core.specs.Kept.{Kept}
use Rattle.thing_core.specs.Thing.{Done, Acts}
use Rattle.directory_requests.specs.Asked.{is_of_directory}
use Rattle.directory_requests.specs.declared.server.ServedEntries.{ServedEntries}
use Rattle.directory_requests.specs.Requests.{DirectoryActs}
use Rattle.thing_core.specs.declared.polling.Round.{Round}
use Rattle.thing_core.specs.Rounds.{events_left}
use Rattle.coap_bind.specs.Laws.{HasShortPlace}
use Rattle.http_bind.specs.Streams.{HttpReply, Wakes, oldest_for, oldest_late, NoneIdle}
use Rattle.http_bind.specs.Slots.{Slots, Leads, left_at}
use Rattle.servient_outside.specs.Network.{NetSeen, NetShows, heard, did}
use Rattle.servient_outside.specs.declared.net.EventWithBytes.{EventWithBytes}
use Rattle.servient_trace.specs.Trace.{at_network, Outside, outside, Shows}
use Rattle.servient_core.specs.Machine.{Move, AnswersWait, AnswersLateWait, ClosesIdle, PollsAndDelivers, acts_of_reply}
use Rattle.servient_core.specs.Serving.{StandsFor, IsReady}
use Rattle.servient_core.specs.declared.layers.Layers.{Layers}

-- ---- moves of one function each

-- all that wait for a target get its last value, the oldest first
abbrev pub AnswersWaits : ℕ → Move
AnswersWaits target = Until (AnswersWait target) (λ state. oldest_for target state.http.waits ≡ None)

-- all that waited too long are answered
abbrev pub AnswersLateWaits : Move
AnswersLateWaits = Until AnswersLateWait (λ state. oldest_late state.moment state.http.waits ≡ None)

-- all connections that are idle are closed
abbrev pub ClosesAllIdle : Move
ClosesAllIdle = Until ClosesIdle (λ state. NoneIdle state.moment state.http)

-- an event comes
abbrev pub Comes : EventWithBytes → Move
Comes it before = Becomes before (at_network (heard it) ∷ [])

-- ---- what they say

-- Code makes this move, from every state that it stands for, and is ready for another.
pub record DoesMove (move : Move) (old new : Layers) (before after : Outside) : Type 0 where
  pub refines : Refines StandsFor Shows move old new before after
  pub ready : IsReady new
  pub site : new.exposed.site ≡ old.exposed.site

-- The effect of a request by HTTP at a moment: on the directory, of which no handler knows and which emits nothing, or
-- on the Things; their emissions wait to be handed out.
pub record MakesByHttp (old new : Kept) (d t : ServedEntries) (now : ℕ) (q : RequestSeen) (o : Outcome) (before after : List Seen) : Type 0 where
  pub done : Done
  pub outcome : done.outcome ≡ o
  pub pending : new.pending ≡ map (λ e. e.target) done.emissions
  pub site : new.site ≡ old.site
  pub fits : Fits old.site before → Fits new.site after
  pub move :
      ((is_of_directory (route_of q.path) ≡ true)
      × DirectoryActs q now done.outcome d t × (done.emissions ≡ []) × (new ≡ old) × (after ≡ before))
      ⊎ ((is_of_directory (route_of q.path) ≡ false) × Makes RackShows (Acts old.site q done) old.state new.state before after × (t ≡ d))

-- An outcome can be sent by CoAP: it has a code, and its place is short. The place of an invocation is: its action's
-- segments have at most 255 bytes each, because they came by CoAP, and then comes its id.
abbrev pub IsSendable : Outcome → Type 0
IsSendable o = HasCode o × HasShortPlace o

-- A connection has no more bytes left to take than before.
abbrev pub LeavesNoMore : Slots → Slots → Type 0
LeavesNoMore b d = (c : ℕ) → left_at c d ≤ left_at c b

-- no other connection has
abbrev pub OthersKeep : ℕ → Slots → Slots → Type 0
OthersKeep c b d = (x : ℕ) → (x ≡ c → ⊥) → left_at x d ≤ left_at x b

-- Code makes this move without a call of a handler, from every state that it stands for.
abbrev pub DoesQuietly : Move → Layers → Layers → NetSeen → NetSeen → Type 0
DoesQuietly move old new n m = (slots : List Seen) → Refines StandsFor Shows move old new (outside n slots) (outside m slots)

-- Delivering new values leaves this as it was: the moment, the Things, the exchanges; and no connection has more left
-- to take.
pub record OnlyDelivers (old new : Layers) : Type 0 where
  pub moment : new.moment ≡ old.moment
  pub site : new.exposed.site ≡ old.exposed.site
  pub exchanges : new.coap.exchanges ≡ old.coap.exchanges
  pub left : LeavesNoMore old.http new.http

-- A connection that waits was replied to, with a value or with none.
pub record SendsToWait (c : ℕ) (text : Option (List ℕ)) (moment : ℕ) (b d : Slots) (n m : NetSeen) : Type 0 where
  pub reply : HttpReply
  pub leads : Leads (Wakes c text moment reply.bytes reply.closes) b d
  pub shows : NetShows n m (map did (acts_of_reply c reply))

-- The effect of an ask for the next poll of a round: the first event that is left was polled, and its emissions were
-- delivered; or none is left, and nothing was done.
pub data PollsOne (later : Round) (old new : Layers) (before after : Outside) : Bool → Round → Type 0 where
  polls : (round : Round) (p : Placed) → events_left round old.exposed.site.things ≡ p ∷ events_left later old.exposed.site.things
      → Refines StandsFor Shows (PollsAndDelivers p) old new before after → PollsOne later old new before after true round
  ends : (round : Round) → events_left round old.exposed.site.things ≡ [] → new ≡ old → after ≡ before → PollsOne later old new before after false round
