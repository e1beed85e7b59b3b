-- Inside the crate: the findings on a datagram before its result is made, and on a request that was admitted.
use Rattle.std.specs.Prelude.{◌≡◌, ◌≢◌, ◌<◌, ◌≤◌, ℕ, true, false, List, [], length, slice_get, IfSome, Result, Ok, Err, Option, Some, None}
use Rattle.std.specs.List.{remove}
use Rattle.coap_msg.specs.declared.block.Block.{Block}
use Rattle.coap_msg.specs.declared.message.Message.{Message}
use Rattle.coap_msg.specs.declared.message.RequestType.TheVariants.{Confirmable, NonConfirmable}
use Rattle.coap_msg.specs.declared.endpoint.Endpoint.{Endpoint}
use Rattle.coap_msg.specs.declared.constants.TheConstants.{GET}
use Rattle.coap_msg.specs.Grammar.{CoapMessage}
use Rattle.coap_msg.specs.MessageOf.{message_of}
use Rattle.coap_msg.specs.Written.{IsWritten}
use Rattle.coap_exchange.specs.Table.{IsAwaited}
use Rattle.coap_exchange.specs.declared.met.Met.TheVariants.{Fresh}
use Rattle.coap_blocks.specs.Parts.{Part, longest_request}
use Rattle.coap_blocks.specs.declared.added.Added.{Added}
use Rattle.coap_blocks.specs.declared.added.Added.TheVariants.{Complete}
use Rattle.thing_ops.specs.declared.outcome.Outcome.TheVariants.{Memory}
use Rattle.coap_opts.specs.declared.fault.AskFault.{AskFault}
use Rattle.coap_opts.specs.declared.fault.AskFault.TheVariants as fault
use Rattle.coap_opts.specs.Reading.{AskSeen, faults_of, asked as what_is_asked}
use Rattle.coap_bind.specs.declared.blocks.BlockWish.TheVariants.{Joining}
use Rattle.coap_bind.specs.declared.next.CoapNext.{CoapNext}
use Rattle.coap_bind.specs.declared.next.CoapNext.TheVariants.{Nothing, Send, Ask}
use Rattle.coap_bind.specs.declared.pending.PendingReply.{PendingReply}
use Rattle.coap_bind.specs.declared.server.Server.{Server}
use Rattle.coap_bind.specs.Blocks.{added_reply, block_reply}
use Rattle.coap_bind.specs.Links.{is_links_path, size_asked, links_reply, method_reply}
use Rattle.coap_bind.specs.Writing.{Reply, option_reply, proxy_reply, reply_of, head_of, head_in}
use Rattle.coap_bind.specs.Server.{Heard, ignored, answered_at_once, asked, with_parts, IsMet, Settles, Reads, Adds, links_given, observing_in, wanted_in}
use Rattle.coap_bind.specs.Telling.{RepliesAs, Tells}

-- n bytes are to be sent, or nothing
abbrev pub TellsDone : Heard → Option ℕ → List ℕ → List ℕ → Type 0
TellsDone ignored None old new = new ≡ old
TellsDone ignored (Some n) old new = ⊥
TellsDone (answered_at_once bytes) None old new = ⊥
TellsDone (answered_at_once bytes) (Some n) old new = IsWritten bytes n old new
TellsDone (asked what request) reply old new = ⊥

-- A datagram was judged without memory: it is done with, or it is a request that is admitted and got this slot.
abbrev pub SettlesOrAdmits : Endpoint → List ℕ → ℕ → Result (Message × ℕ) (Option ℕ) → List ℕ → List ℕ → Server → Server → Type 0
SettlesOrAdmits from bytes now (Err reply) old new s t = (heard : Heard) × Settles from bytes now heard s t × TellsDone heard reply old new
SettlesOrAdmits from bytes now (Ok admitted) old new s t =
    IsMet from bytes now (message_of admitted.0) (Fresh admitted.1) s t × IsAwaited admitted.1 t.exchanges × (new ≡ old)

-- a request that was admitted, and its meaning
pub record IsReadOf (pending : PendingReply) (code : ℕ) (what : AskSeen) (m : CoapMessage) : Type 0 where
  pub head : head_in pending ≡ head_of m
  pub observing : pending.observing ≡ observing_in m
  pub code_is : code ≡ m.code
  pub what_is : what ≡ what_is_asked m
  pub faultless : faults_of m.options ≡ []

-- A block of a request that was admitted was added to the parts, with this outcome.
pub record IsAdded (pending : PendingReply) (now : ℕ) (what : AskSeen) (m : CoapMessage) (b : Block) (added : Added) (s t : Server) : Type 0 where
  pub head : head_in pending ≡ head_of m
  pub observing : pending.observing ≡ observing_in m
  pub what_is : what ≡ what_is_asked m
  pub faultless : faults_of m.options ≡ []
  pub wanted : wanted_in m ≡ Joining b
  pub adds : Adds pending.from now m b s added t.parts
  pub after : t ≡ with_parts t.parts s

-- a body that became whole is in its place, and no longer than one may be
abbrev pub HasWhole : Added → List Part → Type 0
HasWhole added parts = (place : ℕ) → added ≡ Complete place → (place < length parts) × IfSome (slice_get parts place) (λ p. length p.bytes ≤ longest_request)

-- A block is answered by its outcome, or the place of the body is given that it made whole, which isn't for the links.
pub data AnswersBlock (pending : PendingReply) (path : List (List ℕ)) (b : Block) (added : Added) (answer : Result ℕ ℕ) (old new : List ℕ) (s t : Server) : Type 0 where
  answered : (r : Reply) (n : ℕ) → added_reply b added ≡ Some r → RepliesAs r pending n old new s t → answer ≡ Err n
      → AnswersBlock pending path b added answer old new s t
  for_links : (place n : ℕ) → added ≡ Complete place → is_links_path path ≡ true
      → RepliesAs method_reply pending n old new (with_parts (remove s.parts place) s) t → answer ≡ Err n
      → AnswersBlock pending path b added answer old new s t
  whole : (place : ℕ) → added ≡ Complete place → is_links_path path ≡ false → new ≡ old → t ≡ s → answer ≡ Ok place
      → AnswersBlock pending path b added answer old new s t

-- A request that was admitted has this effect, as the result says.
abbrev pub ReadsAs : Endpoint → ℕ → CoapMessage → ℕ → CoapNext → List ℕ → List ℕ → Server → Server → Type 0
ReadsAs from now m slot next old new s t = (heard : Heard) × Reads from now m slot heard s t × Tells heard next old new

-- A request for the links is answered: a GET with their text, and any other verb with a refusal.
pub data AnswersLinks (pending : PendingReply) (code now : ℕ) (what : AskSeen) (n : ℕ) (old new : List ℕ) (s t : Server) : Type 0 where
  gives : code ≡ GET
      → RepliesAs (links_reply (size_asked pending.observing what) s.links) pending n old new
      (links_given pending.from now pending.token pending.observing what s) t
      → AnswersLinks pending code now what n old new s t
  refuses : code ≢ GET → RepliesAs method_reply pending n old new s t → AnswersLinks pending code now what n old new s t

-- a Confirmable request with a bad option gets a reply, and any other doesn't
abbrev pub RefusesOption : PendingReply → ℕ → CoapNext → List ℕ → List ℕ → Server → Server → Type 0
RefusesOption pending number Nothing old new s t = (pending.kind ≡ NonConfirmable) × (t ≡ s) × (new ≡ old)
RefusesOption pending number (Send n) old new s t = (pending.kind ≡ Confirmable) × RepliesAs (option_reply number) pending n old new s t
RefusesOption pending number (Ask ask ticket) old new s t = ⊥

-- this reply was sent
abbrev pub IsSent : Reply → PendingReply → CoapNext → List ℕ → List ℕ → Server → Server → Type 0
IsSent r pending Nothing old new s t = ⊥
IsSent r pending (Send n) old new s t = RepliesAs r pending n old new s t
IsSent r pending (Ask ask ticket) old new s t = ⊥

-- A request that can't be read is refused for this.
abbrev pub RefusesFault : PendingReply → AskFault → CoapNext → List ℕ → List ℕ → Server → Server → Type 0
RefusesFault pending (fault.BadOption number) next old new s t = RefusesOption pending number next old new s t
RefusesFault pending fault.Proxy next old new s t = IsSent proxy_reply pending next old new s t
RefusesFault pending fault.Block next old new s t = IsSent block_reply pending next old new s t
RefusesFault pending fault.NoMemory next old new s t = IsSent (reply_of Memory) pending next old new s t
