-- The moment of the table of exchanges is that of the last request.
use Rattle.std.proofs.Common.{◌≡◌, ◌≤◌, ◌⊎◌, ◌∙◌, inl, inr, ℕ, List, refl, ap, arith}
use Rattle.coap_msg.specs.declared.endpoint.Endpoint.{Endpoint}
use Rattle.coap_msg.specs.declared.message.RequestType.{RequestType}
use Rattle.coap_msg.specs.declared.message.RequestType.TheVariants.{Confirmable, NonConfirmable}
use Rattle.coap_msg.specs.Grammar.{CoapMessage}
use Rattle.coap_msg.specs.Requests.{request_type}
use Rattle.coap_exchange.specs.Admission.{Arrival}
use Rattle.coap_exchange.specs.Table.{Table, at_moment, Meets}
use Rattle.coap_exchange.specs.declared.met.Met.{Met}
use Rattle.coap_exchange.specs.declared.met.Met.TheVariants.{Fresh, Repeat, Full}
use Rattle.coap_opts.specs.Reading.{asked as what_is_asked}
use Rattle.coap_bind.specs.declared.server.Server.{Server}
use Rattle.coap_bind.specs.Writing.{Reply, ReplyHead, head_of}
use Rattle.coap_bind.specs.Server.{Heard, arrival, with_id_used, with_kept, with_parts, Replies, Reads, replied, bad_option_ignored, gives_links, links_given, asks, asks_whole, observing_in, malformed, no_request, duplicate, full, Hears, settled, admitted}

met_moment : (now : ℕ) (t u : Table) (a : Arrival) (met : Met) → Meets (at_moment now t) a met u → u.moment ≡ now
met_moment now t u a (Fresh slot) is = ap (λ (x : Table). x.moment) is.1.2
met_moment now t u a (Repeat kept) is = ap (λ (x : Table). x.moment) is.1
met_moment now t u a Full is = ap (λ (x : Table). x.moment) is.1.1

used_moment : (kind : RequestType) (s : Server) → (with_id_used kind s).exchanges.moment ≡ s.exchanges.moment
used_moment Confirmable s = refl
used_moment NonConfirmable s = refl

kept_moment : (kind : RequestType) (slot : ℕ) (bytes : List ℕ) (s : Server) → (with_kept kind slot bytes s).exchanges.moment ≡ s.exchanges.moment
kept_moment Confirmable slot bytes s = refl
kept_moment NonConfirmable slot bytes s = refl

-- a reply leaves it
pub replies_moment : (r : Reply) (head : ReplyHead) (slot : ℕ) (bytes : List ℕ) (s t : Server) → Replies r head slot bytes s t → t.exchanges.moment ≡ s.exchanges.moment
replies_moment r head slot bytes s t is =
    ap (λ (x : Server). x.exchanges.moment) is.after ∙ kept_moment head.kind slot bytes (with_id_used head.kind s) ∙ used_moment head.kind s

pub reads_moment : (from : Endpoint) (now : ℕ) (m : CoapMessage) (slot : ℕ) (h : Heard) (s t : Server) → Reads from now m slot h s t → t.exchanges.moment ≡ s.exchanges.moment
reads_moment from now m slot h s t (replied r parts bytes why replies is) = replies_moment r (head_of m) slot bytes (with_parts parts s) t replies
reads_moment from now m slot h s t (bad_option_ignored number fault non is same) = ap (λ (x : Server). x.exchanges.moment) same
reads_moment from now m slot h s t (gives_links bytes none act links get replies is) =
    replies_moment _ (head_of m) slot bytes (links_given from now m.token (observing_in m) (what_is_asked m) s) t replies
reads_moment from now m slot h s t (asks none act apart is same) = ap (λ (x : Server). x.exchanges.moment) same
reads_moment from now m slot h s t (asks_whole b place parts whole none joining apart adds there is same) = ap (λ (x : Server). x.exchanges.moment) same

-- a datagram takes it to its own, or leaves the exchanges
pub moment_of : (from : Endpoint) (bytes : List ℕ) (now : ℕ) (h : Heard) (s t : Server) → Hears from bytes now h s t
    → (t.exchanges.moment ≡ now) ⊎ (t.exchanges ≡ s.exchanges)
moment_of from bytes now h s t (settled (malformed f fault is same)) = inr (ap (λ (x : Server). x.exchanges) same)
moment_of from bytes now h s t (settled (no_request n spells isnt is same)) = inr (ap (λ (x : Server). x.exchanges) same)
moment_of from bytes now h s t (settled (duplicate m kept e met found is)) = inl (met_moment now s.exchanges t.exchanges (arrival from now m) (Repeat kept) met.meets)
moment_of from bytes now h s t (settled (full m u met is same)) =
    inl (ap (λ (x : Server). x.exchanges.moment) same ∙ used_moment (request_type m.kind) u ∙ met_moment now s.exchanges u.exchanges (arrival from now m) Full met.meets)
moment_of from bytes now h s t (admitted m slot u met reads) =
    inl (reads_moment from now m slot h u t reads ∙ met_moment now s.exchanges u.exchanges (arrival from now m) (Fresh slot) met.meets)

no_later : (now : ℕ) (s t : Table) → (t.moment ≡ now) ⊎ (t ≡ s) → s.moment ≤ now → t.moment ≤ now
no_later now s t (inl is) early = omega arith
no_later now s t (inr same) early = omega (arith, ap (λ (x : Table). x.moment) same)

-- so it isn't past that of the last datagram
pub hears_moment : (from : Endpoint) (bytes : List ℕ) (now : ℕ) (h : Heard) (s t : Server) → Hears from bytes now h s t → s.exchanges.moment ≤ now → t.exchanges.moment ≤ now
hears_moment from bytes now h s t hears early = no_later now s.exchanges t.exchanges (moment_of from bytes now h s t hears) early

no_earlier : (now : ℕ) (s t : Table) → (t.moment ≡ now) ⊎ (t ≡ s) → s.moment ≤ now → s.moment ≤ t.moment
no_earlier now s t (inl is) early = omega arith
no_earlier now s t (inr same) early = omega (arith, ap (λ (x : Table). x.moment) same)

-- and never falls
pub never_falls : (from : Endpoint) (bytes : List ℕ) (now : ℕ) (h : Heard) (s t : Server) → Hears from bytes now h s t → s.exchanges.moment ≤ now → s.exchanges.moment ≤ t.exchanges.moment
never_falls from bytes now h s t hears early = no_earlier now s.exchanges t.exchanges (moment_of from bytes now h s t hears) early
