-- The segments of the path of a CoAP request are short.
use Rattle.std.proofs.Common.{◌≡◌, ℕ, ◌≤◌, List, [], ◌∷◌, length, map, Bool, true, false, refl, sym, subst}
use Rattle.std.specs.Prelude.{Option, Some, None, ◌==◌, not, if◌then◌else◌}
use Rattle.std.specs.List.{All, filter}
use Rattle.std.proofs.lemmas.Bool.{and_parts, leb-true, eqb-true}
use Rattle.std.proofs.lemmas.List.Elements.{All-nil, All-cons}
use Rattle.coap_msg.specs.declared.endpoint.Endpoint.{Endpoint}
use Rattle.coap_msg.specs.declared.message.RequestType.{RequestType}
use Rattle.coap_msg.specs.declared.message.RequestType.TheVariants.{Confirmable, NonConfirmable}
use Rattle.coap_msg.specs.Grammar.{CoapOption, CoapMessage}
use Rattle.coap_msg.specs.Requests.{request_type}
use Rattle.coap_msg.specs.Empty.{empty_reply, rejection_of}
use Rattle.coap_opts.specs.declared.fault.AskFault.{AskFault}
use Rattle.coap_opts.specs.declared.fault.AskFault.TheVariants as fault
use Rattle.coap_opts.specs.Table.{may_stand}
use Rattle.coap_opts.specs.Reading.{AskSeen, fault_of, and_then_these, faults_after, faults_of, values_under, asked as what_is_asked}
use Rattle.coap_bind.specs.declared.pending.PendingReply.{PendingReply}
use Rattle.coap_bind.specs.declared.server.Server.{Server}
use Rattle.coap_bind.specs.Server.{Heard, ignored, answered_at_once, asked, replied_at_once, duplicate_reply, pending_of, pending_joined, with_whole_body, Settles, malformed, no_request, duplicate, full, Reads, replied, bad_option_ignored, gives_links, asks, asks_whole, Hears, settled, admitted}

abbrev IsShort : List ℕ → Type 0
IsShort segment = length segment ≤ 255

may_stand_there : (b : Bool) → (if not b then Some (fault.BadOption 11) else None) ≡ None → b ≡ true
may_stand_there true none = refl
may_stand_there false none = absurd (cc)

-- a segment that is no fault is short
segment_short : (before : Option ℕ) (value : List ℕ) → fault_of before (11, value) ≡ None → IsShort value
segment_short before value none =
    let stands : may_stand before (11, value) ≡ true = may_stand_there (may_stand before (11, value)) none in
    let length_is = (and_parts _ _ stands).0 in
    leb-true (length value) 255 (and_parts _ _ length_is).1

-- one that is a fault or none
no_fault_first : (f : Option AskFault) (fs : List AskFault) → and_then_these f fs ≡ [] → (f ≡ None) × (fs ≡ [])
no_fault_first None fs none = (refl, none)
no_fault_first (Some f) fs none = absurd (cc)

kept_short : (b : Bool) (o : CoapOption) (os : List CoapOption) → (b ≡ true → IsShort o.1) → All IsShort (map (λ (x : CoapOption). x.1) os)
    → All IsShort (map (λ (x : CoapOption). x.1) (if b then o ∷ os else os))
kept_short true o os first rest = All-cons IsShort o.1 (map (λ (x : CoapOption). x.1) os) (first refl) rest
kept_short false o os first rest = rest

path_short : (before : Option ℕ) (os : List CoapOption) → faults_after before os ≡ [] → All IsShort (values_under 11 os)
path_short before [] none = All-nil IsShort
path_short before (o ∷ os) none =
    let both = no_fault_first (fault_of before o) (faults_after (Some o.0) os) none in
    kept_short (o.0 == 11) o (filter (λ (x : CoapOption). x.0 == 11) os)
    (λ is. segment_short before o.1 (subst (λ (n : ℕ). fault_of before (n, o.1) ≡ None) (eqb-true o.0 11 is) both.0))
    (path_short (Some o.0) os both.1)

-- Where no option of a message is a fault, its path has segments of at most 255 bytes each (RFC 7252, section 5.10).
pub asked_path_short : (os : List CoapOption) → faults_of os ≡ [] → All (λ segment. length segment ≤ 255) (values_under 11 os)
asked_path_short os none = path_short None os none

-- a request that is heard has a short path
abbrev IsShortHeard : Heard → Type 0
IsShortHeard ignored = Unit {0}
IsShortHeard (answered_at_once bytes) = Unit {0}
IsShortHeard (asked ask request) = All (λ segment. length segment ≤ 255) ask.request.path

heard_as : (h other : Heard) → h ≡ other → IsShortHeard other → IsShortHeard h
heard_as h other same short = subst (λ (x : Heard). IsShortHeard x) (sym same) short

reply_short : (reply : Option CoapMessage) → IsShortHeard (replied_at_once reply)
reply_short None = tt
reply_short (Some m) = tt

duplicate_short : (kind : RequestType) (kept : Option (List ℕ)) → IsShortHeard (duplicate_reply kind kept)
duplicate_short Confirmable (Some bytes) = tt
duplicate_short Confirmable None = tt
duplicate_short NonConfirmable kept = tt

settles_short : (from : Endpoint) (bytes : List ℕ) (now : ℕ) (heard : Heard) (s t : Server) → Settles from bytes now heard s t → IsShortHeard heard
settles_short from bytes now heard s t (malformed f has is same) = heard_as heard (replied_at_once (rejection_of bytes)) is (reply_short (rejection_of bytes))
settles_short from bytes now heard s t (no_request m spells isnt is same) = heard_as heard (replied_at_once (empty_reply m.kind m.id false)) is (reply_short (empty_reply m.kind m.id false))
settles_short from bytes now heard s t (duplicate m kept e met found is) = heard_as heard (duplicate_reply (request_type m.kind) e.reply) is (duplicate_short (request_type m.kind) e.reply)
settles_short from bytes now heard s t (full m u met is after) = heard_as heard _ is tt

reads_short : (from : Endpoint) (now : ℕ) (m : CoapMessage) (slot : ℕ) (heard : Heard) (s t : Server) → Reads from now m slot heard s t → IsShortHeard heard
reads_short from now m slot heard s t (replied r parts bytes why replies is) = heard_as heard (answered_at_once bytes) is tt
reads_short from now m slot heard s t (bad_option_ignored number first non is same) = heard_as heard ignored is tt
reads_short from now m slot heard s t (gives_links bytes none act links get replies is) = heard_as heard (answered_at_once bytes) is tt
reads_short from now m slot heard s t (asks none act apart is same) = heard_as heard (asked (what_is_asked m) (pending_of from now m slot)) is (asked_path_short m.options none)
reads_short from now m slot heard s t (asks_whole b place parts whole none joining apart adds there is same) =
    heard_as heard (asked (with_whole_body whole.bytes (what_is_asked m)) (pending_joined from m slot b)) is (asked_path_short m.options none)

hears_short : (from : Endpoint) (bytes : List ℕ) (now : ℕ) (heard : Heard) (s t : Server) → Hears from bytes now heard s t → IsShortHeard heard
hears_short from bytes now heard s t (settled settles) = settles_short from bytes now heard s t settles
hears_short from bytes now heard s t (admitted m slot u met reads) = reads_short from now m slot heard u t reads

-- A request that comes by a datagram has a path of segments of at most 255 bytes.
pub asked_short : (from : Endpoint) (bytes : List ℕ) (now : ℕ) (heard : Heard) (s t : Server) (ask : AskSeen) (request : PendingReply)
    → Hears from bytes now heard s t → heard ≡ asked ask request → All (λ segment. length segment ≤ 255) ask.request.path
asked_short from bytes now heard s t ask request hears is = subst (λ (x : Heard). IsShortHeard x) is (hears_short from bytes now heard s t hears)
