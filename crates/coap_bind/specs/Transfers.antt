-- Blocks over all that a server does (RFC 7959, sections 2.4 and 2.5).
use Rattle.std.specs.Prelude.{◌≡◌, ◌⊎◌, ℕ, false, Option, Some, None, List, [], ◌∷◌, ◌++◌}
use Rattle.coap_msg.specs.declared.endpoint.Endpoint.{Endpoint}
use Rattle.coap_msg.specs.Grammar.{CoapMessage}
use Rattle.coap_exchange.specs.Admission.{Arrival}
use Rattle.coap_blocks.specs.Bodies.{without_place}
use Rattle.coap_blocks.specs.Laws.{Call, adds, clears, after_call, parts_after}
use Rattle.coap_blocks.specs.Parts.{Arrival as BlockArrival, Part, living, after_block}
use Rattle.coap_blocks.specs.declared.added.Added.TheVariants.{Complete}
use Rattle.thing_ops.specs.declared.outcome.Outcome.{Outcome}
use Rattle.thing_ops.specs.declared.outcome.Outcome.TheVariants.{Memory}
use Rattle.coap_opts.specs.Reading.{faults_of, asked as what_is_asked}
use Rattle.coap_bind.specs.declared.pending.PendingReply.{PendingReply}
use Rattle.coap_bind.specs.declared.server.Server.{Server}
use Rattle.coap_bind.specs.Laws.{Did}
use Rattle.coap_bind.specs.Server.{Heard, answered_at_once, asked, asks_links, pending_of, Replies, Reads, Answers}
use Rattle.coap_bind.specs.Writing.{reply_of, head_of}

-- a request names no block
pub record NamesNoBlock (m : CoapMessage) : Type 0 where
  pub block1 : (what_is_asked m).block1 ≡ None
  pub block2 : (what_is_asked m).block2 ≡ None

-- A request that names no block and isn't for the links is asked as it is, or is out of memory: it is never answered from a
-- body that is kept, and never comes to the parts.
abbrev pub RequestsWithoutBlocksAct : Type 0
RequestsWithoutBlocksAct =
    (from : Endpoint) (now : ℕ) (m : CoapMessage) (slot : ℕ) (heard : Heard) (s t : Server) → NamesNoBlock m → faults_of m.options ≡ []
    → asks_links m ≡ false → Reads from now m slot heard s t
    → ((heard ≡ asked (what_is_asked m) (pending_of from now m slot)) × (t ≡ s))
    ⊎ ((bytes : List ℕ) × (heard ≡ answered_at_once bytes) × Replies (reply_of Memory) (head_of m) slot bytes s t)

-- An answer leaves the parts: also where the request is out of memory after its last block, which left them before.
abbrev pub AnswersLeaveTheParts : Type 0
AnswersLeaveTheParts = (ask : PendingReply) (o : Outcome) (target : Option ℕ) (bytes : List ℕ) (s t : Server) → Answers ask o target bytes s t → t.parts ≡ s.parts

-- a block doesn't make a body whole
abbrev pub LeavesOpen : BlockArrival → List Part → Type 0
LeavesOpen a parts = (place : ℕ) → (after_block a (living a.moment parts)).0 ≡ Complete place → ⊥

-- Calls that lead from some parts to others, in which each body that became whole was cleared at once.
pub data Spends (before : List Part) : List Call → List Part → Type 0 where
  no_call : Spends before [] before
  goes_on : (a : BlockArrival) (calls : List Call) (parts : List Part) → Spends before calls parts → LeavesOpen a parts
      → Spends before (calls ++ adds a ∷ []) (after_call (adds a) parts)
  spends : (a : BlockArrival) (place : ℕ) (calls : List Call) (parts : List Part) → Spends before calls parts
      → (after_block a (living a.moment parts)).0 ≡ Complete place
      → Spends before (calls ++ adds a ∷ clears place ∷ []) (without_place (Some place) (after_call (adds a) parts))

-- Between two calls of a server no body that is whole stands among its parts: they are made of blocks that came, and
-- each body went as soon as it was whole.
abbrev pub NoWholeBodyStays : Type 0
NoWholeBodyStays =
    (capacity : ℕ) (history : List Arrival) (s : Server) → Did capacity history s
    → (calls : List Call) × Spends [] calls s.parts × (s.parts ≡ parts_after [] calls)
