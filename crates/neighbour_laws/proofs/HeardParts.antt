-- The effect of a datagram on the observers, and the endpoint to which its request is answered.
use Rattle.std.proofs.Common.{◌≡◌, ◌∙◌, ℕ, Bool, true, false, cond, List, refl, sym, ap, subst}
use Rattle.std.specs.Prelude.{Option, Some, None, ◌==◌}
use Rattle.coap_msg.specs.declared.constants.TheConstants.{EMPTY}
use Rattle.coap_msg.specs.declared.endpoint.Endpoint.{Endpoint}
use Rattle.coap_msg.specs.declared.message.Type4.{Type4}
use Rattle.coap_msg.specs.declared.message.Type4.TheVariants.{Con, Non, Ack, Rst}
use Rattle.coap_msg.specs.declared.message.RequestType.{RequestType}
use Rattle.coap_msg.specs.declared.message.RequestType.TheVariants.{Confirmable, NonConfirmable}
use Rattle.coap_msg.specs.Grammar.{CoapMessage}
use Rattle.coap_msg.specs.Requests.{request_type}
use Rattle.coap_msg.specs.Empty.{empty_reply, rejection_of}
use Rattle.coap_observe.specs.declared.notice.Notice.{Notice}
use Rattle.coap_observe.specs.Watching.{Watching, with_acknowledgement, with_reset, without_pair}
use Rattle.coap_opts.specs.Reading.{AskSeen, asked as what_is_asked}
use Rattle.coap_bind.specs.declared.observing.Observing.{Observing}
use Rattle.coap_bind.specs.declared.observing.Observing.TheVariants as observing
use Rattle.coap_bind.specs.declared.pending.PendingReply.{PendingReply}
use Rattle.coap_bind.specs.declared.server.Server.{Server}
use Rattle.coap_bind.specs.Links.{observers_with_links}
use Rattle.coap_bind.specs.Writing.{head_of}
use Rattle.coap_bind.specs.Server.{Heard, ignored, answered_at_once, asked, Hears, settled, admitted, malformed, no_request, duplicate, full, Reads, replied, bad_option_ignored, gives_links, asks, asks_whole, with_id_used, with_kept, with_parts, links_given, told_by, told_by_empty, replied_at_once, duplicate_reply, pending_of, pending_joined, with_next_id, with_observers, with_notification_sent, SendsNext, observing_in, with_whole_body}

-- ---- observers

-- The observers, before a datagram from an endpoint is answered.
pub data Told (from : Endpoint) (old new : Watching) : Type 0 where
  leaves_all : new ≡ old → Told from old new
  acknowledges : (id : ℕ) → new ≡ with_acknowledgement from id old → Told from old new
  rejects : (id : ℕ) → new ≡ with_reset from id old → Told from old new
  cancels_one : (token : List ℕ) → new ≡ without_pair from token old → Told from old new

pub told_same : (from : Endpoint) (old new last : Watching) → last ≡ new → Told from old new → Told from old last
told_same from old new last is t = subst (Told from old) (sym is) t

by_empty : (from : Endpoint) (kind : Type4) (id : ℕ) (w : Watching) → Told from w (told_by_empty from kind id w)
by_empty from Con id w = leaves_all refl
by_empty from Non id w = leaves_all refl
by_empty from Ack id w = acknowledges id refl
by_empty from Rst id w = rejects id refl

by_message : (from : Endpoint) (m : CoapMessage) (w : Watching) → Told from w (told_by from m w)
by_message from m w = by (m.code == EMPTY)
  where
    by : (b : Bool) → Told from w (cond b (told_by_empty from m.kind m.id w) w)
    by true = by_empty from m.kind m.id w
    by false = leaves_all refl

by_links : (o : Observing) (from : Endpoint) (token : List ℕ) (w : Watching) → Told from w (observers_with_links o from token w)
by_links observing.Unchanged from token w = leaves_all refl
by_links observing.Registers from token w = leaves_all refl
by_links observing.Deregisters from token w = cancels_one token refl

-- a reply leaves the observers
id_observers : (k : RequestType) (s : Server) → (with_id_used k s).observers ≡ s.observers
id_observers Confirmable s = refl
id_observers NonConfirmable s = refl

kept_observers : (k : RequestType) (slot : ℕ) (bytes : List ℕ) (s : Server) → (with_kept k slot bytes s).observers ≡ s.observers
kept_observers Confirmable slot bytes s = refl
kept_observers NonConfirmable slot bytes s = refl

pub replied_observers : (k : RequestType) (slot : ℕ) (bytes : List ℕ) (s t : Server) → t ≡ with_kept k slot bytes (with_id_used k s) → t.observers ≡ s.observers
replied_observers k slot bytes s t after = ap (λ (x : Server). x.observers) after ∙ (kept_observers k slot bytes (with_id_used k s) ∙ id_observers k s)

read_told : (from : Endpoint) (now : ℕ) (m : CoapMessage) (slot : ℕ) (h : Heard) (s t : Server) → Reads from now m slot h s t → Told from s.observers t.observers
read_told from now m slot h s t (replied r parts bytes why replies is) = leaves_all (replied_observers (head_of m).kind slot bytes (with_parts parts s) t replies.after)
read_told from now m slot h s t (bad_option_ignored number first non is after) = leaves_all (ap (λ (x : Server). x.observers) after)
read_told from now m slot h s t (gives_links bytes none acts links get replies is) =
    told_same from s.observers (observers_with_links (observing_in m) from m.token s.observers) t.observers (replied_observers (head_of m).kind slot bytes (links_given from now m.token (observing_in m) (what_is_asked m) s) t replies.after) (by_links (observing_in m) from m.token s.observers)
read_told from now m slot h s t (asks none acts apart is after) = leaves_all (ap (λ (x : Server). x.observers) after)
read_told from now m slot h s t (asks_whole b place parts whole none joins apart adds there is after) = leaves_all (ap (λ (x : Server). x.observers) after)

pub hears_told : (from : Endpoint) (bytes : List ℕ) (now : ℕ) (h : Heard) (s t : Server) → Hears from bytes now h s t → Told from s.observers t.observers
hears_told from bytes now h s t (settled (malformed f fault is after)) = leaves_all (ap (λ (x : Server). x.observers) after)
hears_told from bytes now h s t (settled (no_request m spells isnt is after)) =
    told_same from s.observers (told_by from m s.observers) t.observers (ap (λ (x : Server). x.observers) after) (by_message from m s.observers)
hears_told from bytes now h s t (settled (duplicate m kept e met found is)) = leaves_all met.same_observers
hears_told from bytes now h s t (settled (full m u met is after)) = leaves_all (ap (λ (x : Server). x.observers) after ∙ (id_observers (request_type m.kind) u ∙ met.same_observers))
hears_told from bytes now h s t (admitted m slot u met reads) =
    subst (λ (w : Watching). Told from w t.observers) met.same_observers (read_told from now m slot h u t reads)

-- what is sent next leaves these observers
noticed_observers : (n : Option Notice) (s : Server) → (with_notification_sent n s).observers ≡ s.observers
noticed_observers None s = refl
noticed_observers (Some n) s = by n.fresh
  where
    by : (b : Bool) → (cond b (with_next_id s) s).observers ≡ s.observers
    by true = refl
    by false = refl

pub next_observers : (now : ℕ) (n : Option Notice) (s t : Server) → (sends : SendsNext now n s t) → t.observers ≡ sends.observers
next_observers now n s t sends = ap (λ (x : Server). x.observers) sends.after ∙ noticed_observers n (with_observers sends.observers s)

-- ---- the request that is to be answered

-- the endpoint and the slot of its reply
pub record IsOf (from : Endpoint) (slot : ℕ) (pending : PendingReply) : Type 0 where
  pub endpoint : pending.from ≡ from
  pub slot_is : pending.slot ≡ slot

pub same_pending : (a b : AskSeen) (r q : PendingReply) → asked a r ≡ asked b q → r ≡ q
same_pending a b r q same = cc

pub never_sent : (o : Option CoapMessage) (ask : AskSeen) (r : PendingReply) → asked ask r ≡ replied_at_once o → ⊥
never_sent None ask r e = cc
never_sent (Some m) ask r e = cc

pub never_repeated : (kind : RequestType) (o : Option (List ℕ)) (ask : AskSeen) (r : PendingReply) → asked ask r ≡ duplicate_reply kind o → ⊥
never_repeated Confirmable None ask r e = cc
never_repeated Confirmable (Some bytes) ask r e = cc
never_repeated NonConfirmable o ask r e = cc

read_pending : (from : Endpoint) (now : ℕ) (m : CoapMessage) (slot : ℕ) (ask : AskSeen) (r : PendingReply) (s t : Server) → Reads from now m slot (asked ask r) s t → IsOf from slot r
read_pending from now m slot ask r s t (replied q parts bytes why replies is) = absurd (let e : asked ask r ≡ answered_at_once bytes = is in cc)
read_pending from now m slot ask r s t (bad_option_ignored number first non is after) = absurd (let e : asked ask r ≡ ignored = is in cc)
read_pending from now m slot ask r s t (gives_links bytes none acts links get replies is) = absurd (let e : asked ask r ≡ answered_at_once bytes = is in cc)
read_pending from now m slot ask r s t (asks none acts apart is after) =
    let e = same_pending ask (what_is_asked m) r (pending_of from now m slot) is in
    record { endpoint = ap (λ (x : PendingReply). x.from) e; slot_is = ap (λ (x : PendingReply). x.slot) e }
read_pending from now m slot ask r s t (asks_whole b place parts whole none joins apart adds there is after) =
    let e = same_pending ask (with_whole_body whole.bytes (what_is_asked m)) r (pending_joined from m slot b) is in
    record { endpoint = ap (λ (x : PendingReply). x.from) e; slot_is = ap (λ (x : PendingReply). x.slot) e }

-- a request that is asked comes from the endpoint of its datagram
pub asked_from : (from : Endpoint) (bytes : List ℕ) (now : ℕ) (ask : AskSeen) (r : PendingReply) (s t : Server) → Hears from bytes now (asked ask r) s t → r.from ≡ from
asked_from from bytes now ask r s t (settled (malformed f fault is after)) = absurd (never_sent (rejection_of bytes) ask r is)
asked_from from bytes now ask r s t (settled (no_request m spells isnt is after)) = absurd (never_sent (empty_reply m.kind m.id false) ask r is)
asked_from from bytes now ask r s t (settled (duplicate m kept e met found is)) = absurd (never_repeated (request_type m.kind) e.reply ask r is)
asked_from from bytes now ask r s t (settled (full m u met is after)) = absurd (let e : asked ask r ≡ answered_at_once _ = is in cc)
asked_from from bytes now ask r s t (admitted m slot u met reads) = (read_pending from now m slot ask r u t reads).endpoint
