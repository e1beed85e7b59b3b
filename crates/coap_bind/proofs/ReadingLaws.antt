-- A request that was admitted is treated by the first fault of its options.
use Rattle.std.proofs.Common.{◌≡◌, ◌≢◌, ◌⊎◌, ◌∙◌, ◌&&◌, not, cond, ℕ, Bool, true, false, Option, Some, None, List, [], ◌∷◌, inl, inr, refl, ap, sym, subst}
use Rattle.std.specs.Prelude.{slice_get}
use Rattle.coap_msg.specs.Grammar.{CoapOption, CoapMessage}
use Rattle.coap_opts.specs.declared.fault.AskFault.{AskFault}
use Rattle.coap_opts.specs.declared.fault.AskFault.TheVariants.{BadOption, Proxy, Block, NoMemory}
use Rattle.coap_opts.specs.Reading.{is_proxy, is_critical, is_no_block, and_then_these, faults_after, faults_of, IsRefusal}
use Rattle.coap_opts.specs.Table.{may_stand}
use Rattle.thing_ops.specs.declared.outcome.Outcome.TheVariants.{Memory}
use Rattle.coap_blocks.specs.Parts.{Part}
use Rattle.coap_bind.specs.declared.next.CoapNext.TheVariants.{Nothing, Send, Ask}
use Rattle.coap_bind.specs.declared.next.CoapNext.{CoapNext}
use Rattle.coap_bind.specs.declared.pending.PendingReply.{PendingReply}
use Rattle.coap_bind.specs.declared.server.Server.{Server}
use Rattle.coap_bind.specs.Blocks.{block_reply}
use Rattle.coap_bind.specs.Writing.{Reply, option_reply, proxy_reply, reply_of, ReplyHead, head_of, head_in}
use Rattle.coap_bind.specs.Server.{ignored, answered_at_once, with_parts, Replies, IsAnsweredAtOnce, bad_option, bad_block, for_proxy, no_memory, replied, bad_option_ignored}
use Rattle.coap_bind.specs.Telling.{RepliesAs, TicketIsOpen}
use Rattle.coap_bind.specs.Settling.{RefusesOption, IsSent, RefusesFault, ReadsAs}

-- ---- faults

-- the first fault is this one, where that isn't being out of memory
pub first_fault : (faults : List AskFault) (e f : AskFault) → e ≡ f → f ≢ NoMemory
    → (slice_get faults 0 ≡ Some e) ⊎ ((faults ≡ []) × (e ≡ NoMemory)) → slice_get faults 0 ≡ Some f
first_fault faults e f same other (inl h) = h ∙ ap Some same
first_fault faults e f same other (inr h) = absurd (other (let is = h.1 in cc))

-- no option is at fault by being out of memory
of_tests : (number : ℕ) (b c d : Bool) (rest : List AskFault) → (slice_get rest 0 ≡ Some NoMemory → ⊥)
    → slice_get (and_then_these (cond b (Some Proxy) (cond c (Some (BadOption number)) (cond d (Some Block) None))) rest) 0 ≡ Some NoMemory → ⊥
of_tests number true c d rest none e = cc
of_tests number false true d rest none e = cc
of_tests number false false true rest none e = cc
of_tests number false false false rest none e = none e

never_memory : (before : Option ℕ) (os : List CoapOption) → slice_get (faults_after before os) 0 ≡ Some NoMemory → ⊥
never_memory before [] e = cc
never_memory before (o ∷ os) e =
    of_tests o.0 (is_proxy o.0) (is_critical o.0 && not (may_stand before o)) (is_no_block o) (faults_after (Some o.0) os) (never_memory (Some o.0) os) e

-- out of memory says that nothing is wrong
pub no_fault_here : (os : List CoapOption) (e : AskFault) → e ≡ NoMemory
    → (slice_get (faults_of os) 0 ≡ Some e) ⊎ ((faults_of os ≡ []) × (e ≡ NoMemory)) → faults_of os ≡ []
no_fault_here os e same (inl h) = absurd (never_memory None os (h ∙ ap Some same))
no_fault_here os e same (inr h) = h.0

-- ---- the treatment

-- a fault is the first of the options, unless it is being out of memory
no_other : (faults : List AskFault) (f : AskFault) → f ≢ NoMemory → (slice_get faults 0 ≡ Some f) ⊎ ((faults ≡ []) × (f ≡ NoMemory)) → slice_get faults 0 ≡ Some f
no_other faults f other h = first_fault faults f f refl other h

-- a reply at once is one to the request that was admitted
pub reads_replied : (p : PendingReply) (now : ℕ) (m : CoapMessage) (n : ℕ) (r : Reply) (parts : List Part) (old new : List ℕ) (s t : Server) → head_in p ≡ head_of m
    → IsAnsweredAtOnce p.from now m r s parts → RepliesAs r p n old new (with_parts parts s) t → ReadsAs p.from now m p.slot (Send n) old new s t
reads_replied p now m n r parts old new s t head why h = (
  answered_at_once h.bytes,
  replied r parts h.bytes why (subst (λ (x : ReplyHead). Replies r x p.slot h.bytes (with_parts parts s) t) head h.replies) refl,
  (h.bytes, refl, h.written),
)

reads_sent : (p : PendingReply) (now : ℕ) (m : CoapMessage) (r : Reply) (next : CoapNext) (old new : List ℕ) (s t : Server) → head_in p ≡ head_of m
    → IsAnsweredAtOnce p.from now m r s s.parts → IsSent r p next old new s t → ReadsAs p.from now m p.slot next old new s t
reads_sent p now m r Nothing old new s t head why h = absurd h
reads_sent p now m r (Send n) old new s t head why h = reads_replied p now m n r s.parts old new s t head why h
reads_sent p now m r (Ask ask ticket) old new s t head why h = absurd h

reads_bad_option : (p : PendingReply) (now : ℕ) (m : CoapMessage) (number : ℕ) (next : CoapNext) (old new : List ℕ) (s t : Server) → head_in p ≡ head_of m
    → slice_get (faults_of m.options) 0 ≡ Some (BadOption number) → RefusesOption p number next old new s t → ReadsAs p.from now m p.slot next old new s t
reads_bad_option p now m number Nothing old new s t head fault h =
    (ignored, bad_option_ignored number fault (sym (ap (λ (x : ReplyHead). x.kind) head) ∙ h.0) refl h.1, (refl, h.2))
reads_bad_option p now m number (Send n) old new s t head fault h =
    reads_replied p now m n (option_reply number) s.parts old new s t head
    (bad_option number fault (sym (ap (λ (x : ReplyHead). x.kind) head) ∙ h.0) refl refl) h.1
reads_bad_option p now m number (Ask ask ticket) old new s t head fault h = absurd h

-- a request that can't be read
pub reads_fault : (p : PendingReply) (now : ℕ) (m : CoapMessage) (f : AskFault) (next : CoapNext) (old new : List ℕ) (s t : Server) → head_in p ≡ head_of m
    → IsRefusal m.options f → RefusesFault p f next old new s t → ReadsAs p.from now m p.slot next old new s t
reads_fault p now m (BadOption number) next old new s t head why h =
    reads_bad_option p now m number next old new s t head (no_other (faults_of m.options) (BadOption number) (λ e. cc) why) h
reads_fault p now m Proxy next old new s t head why h =
    reads_sent p now m proxy_reply next old new s t head (for_proxy (no_other (faults_of m.options) Proxy (λ e. cc) why) refl refl) h
reads_fault p now m Block next old new s t head why h =
    reads_sent p now m block_reply next old new s t head (bad_block (no_other (faults_of m.options) Block (λ e. cc) why) refl refl) h
reads_fault p now m NoMemory next old new s t head why h =
    reads_sent p now m (reply_of Memory) next old new s t head (no_memory (no_fault_here m.options NoMemory refl why) refl refl) h

-- nothing is asked for one
none_sent : (r : Reply) (p : PendingReply) (next : CoapNext) (old new : List ℕ) (s t : Server) → IsSent r p next old new s t → TicketIsOpen next t
none_sent r p Nothing old new s t h = tt
none_sent r p (Send n) old new s t h = tt
none_sent r p (Ask ask ticket) old new s t h = absurd h

pub no_ticket : (p : PendingReply) (f : AskFault) (next : CoapNext) (old new : List ℕ) (s t : Server) → RefusesFault p f next old new s t → TicketIsOpen next t
no_ticket p (BadOption number) Nothing old new s t h = tt
no_ticket p (BadOption number) (Send n) old new s t h = tt
no_ticket p (BadOption number) (Ask ask ticket) old new s t h = absurd h
no_ticket p Proxy next old new s t h = none_sent proxy_reply p next old new s t h
no_ticket p Block next old new s t h = none_sent block_reply p next old new s t h
no_ticket p NoMemory next old new s t h = none_sent (reply_of Memory) p next old new s t h
