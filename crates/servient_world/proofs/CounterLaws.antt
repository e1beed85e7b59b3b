-- The server's next message ID is one (RFC 7252, section 3).
use Rattle.std.proofs.Common.{◌≡◌, ℕ, ◌<◌, ◌^◌, Bool, true, false, cond, Option, Some, None, List, sym, subst, arith}
use Rattle.coap_msg.specs.declared.endpoint.Endpoint.{Endpoint}
use Rattle.coap_msg.specs.declared.message.RequestType.{RequestType}
use Rattle.coap_msg.specs.declared.message.RequestType.TheVariants.{Confirmable, NonConfirmable}
use Rattle.coap_msg.specs.Grammar.{CoapMessage}
use Rattle.coap_msg.specs.Requests.{request_type}
use Rattle.coap_observe.specs.declared.notice.Notice.{Notice}
use Rattle.coap_opts.specs.Reading.{asked as what_is_asked}
use Rattle.coap_bind.specs.declared.server.Server.{Server}
use Rattle.coap_bind.specs.Writing.{Reply, ReplyHead, head_of, head_in}
use Rattle.coap_bind.specs.Server.{Heard, with_next_id, with_id_used, with_kept, with_observers, with_notification_sent, Replies, SendsNext, malformed, no_request, duplicate, full, with_parts, replied, bad_option_ignored, gives_links, links_given, observing_in, asks, asks_whole, Reads, settled, admitted, Hears}
use Rattle.coap_bind.specs.Treating.{Acted, Treats, ignores, answers, acts}
use Rattle.coap_bind.proofs.DuplicateLaws.{ready}
use Rattle.servient_world.specs.World.{Receives, too_long, treated}

abbrev IsCounter : Server → Type 0
IsCounter s = s.next_id < 2 ^ 16

same_counter : (s t : Server) → t.next_id ≡ s.next_id → IsCounter s → IsCounter t
same_counter s t e h = omega arith

counter_used : (kind : RequestType) (s : Server) → IsCounter s → IsCounter (with_id_used kind s)
counter_used Confirmable s h = h
counter_used NonConfirmable s h = omega arith

counter_kept : (kind : RequestType) (slot : ℕ) (bytes : List ℕ) (s : Server) → IsCounter s → IsCounter (with_kept kind slot bytes s)
counter_kept Confirmable slot bytes s h = h
counter_kept NonConfirmable slot bytes s h = h

counter_replies : (r : Reply) (head : ReplyHead) (slot : ℕ) (bytes : List ℕ) (s t : Server) → Replies r head slot bytes s t → IsCounter s → IsCounter t
counter_replies r head slot bytes s t replies h =
    subst IsCounter (sym replies.after) (counter_kept head.kind slot bytes (with_id_used head.kind s) (counter_used head.kind s h))

counter_reads : (from : Endpoint) (now : ℕ) (m : CoapMessage) (slot : ℕ) (heard : Heard) (s t : Server) → Reads from now m slot heard s t → IsCounter s → IsCounter t
counter_reads from now m slot heard s t (replied r parts bytes why replies e) h = counter_replies r (head_of m) slot bytes (with_parts parts s) t replies h
counter_reads from now m slot heard s t (bad_option_ignored number fault non e same) h = subst IsCounter (sym same) h
counter_reads from now m slot heard s t (gives_links bytes none act links get replies e) h =
    counter_replies _ (head_of m) slot bytes (links_given from now m.token (observing_in m) (what_is_asked m) s) t replies h
counter_reads from now m slot heard s t (asks none act apart e same) h = subst IsCounter (sym same) h
counter_reads from now m slot heard s t (asks_whole b place parts whole none joining apart adds there e same) h = subst IsCounter (sym same) h

counter_hears : (from : Endpoint) (bytes : List ℕ) (now : ℕ) (heard : Heard) (s t : Server) → Hears from bytes now heard s t → IsCounter s → IsCounter t
counter_hears from bytes now heard s t (settled (malformed f fault e same)) h = subst IsCounter (sym same) h
counter_hears from bytes now heard s t (settled (no_request m spells none e same)) h = subst IsCounter (sym same) h
counter_hears from bytes now heard s t (settled (duplicate m kept x met found e)) h = same_counter s t met.same_id h
counter_hears from bytes now heard s t (settled (full m u met e same)) h =
    subst IsCounter (sym same) (counter_used (request_type m.kind) u (same_counter s u met.same_id h))
counter_hears from bytes now heard s t (admitted m slot u met reads) h = counter_reads from now m slot heard u t reads (same_counter s u met.same_id h)

counter_treats : (from : Endpoint) (bytes : List ℕ) (now : ℕ) (act : Option Acted) (back : List (List ℕ)) (s t : Server) → Treats from bytes now act back s t → IsCounter s → IsCounter t
counter_treats from bytes now act back s t (ignores hears none nothing) h = counter_hears from bytes now _ s t hears h
counter_treats from bytes now act back s t (answers reply hears none one) h = counter_hears from bytes now _ s t hears h
counter_treats from bytes now act back s t (acts a ask reply u hears code place answer is one) h =
    let heard_it = counter_hears from bytes now _ s u hears h in
    counter_replies _ (head_in ask) ask.slot reply (ready ask a.outcome answer.observers u) t answer.replies heard_it

pub counter_receives : (from : Endpoint) (bytes : List ℕ) (now : ℕ) (act : Option Acted) (back : List (List ℕ)) (s t : Server) → Receives from bytes now act back s t
    → s.next_id < 2 ^ 16 → t.next_id < 2 ^ 16
counter_receives from bytes now act back s t (too_long long none nothing same) h = subst IsCounter (sym same) h
counter_receives from bytes now act back s t (treated short treats) h = counter_treats from bytes now act back s t treats h

counter_fresh : (s : Server) (b : Bool) → IsCounter s → (cond b (with_next_id s) s).next_id < 2 ^ 16
counter_fresh s true h = omega arith
counter_fresh s false h = h

counter_noticed : (n : Option Notice) (s : Server) → IsCounter s → IsCounter (with_notification_sent n s)
counter_noticed None s h = h
counter_noticed (Some n) s h = counter_fresh s n.fresh h

pub counter_sends : (now : ℕ) (n : Option Notice) (s t : Server) → SendsNext now n s t → s.next_id < 2 ^ 16 → t.next_id < 2 ^ 16
counter_sends now n s t sends h = subst IsCounter (sym sends.after) (counter_noticed n (with_observers sends.observers s) h)
