-- The ask of a datagram may be answered at once.
use Rattle.std.proofs.Common.{Option, ◌≡◌, ◌∙◌, ℕ, true, Some, None, List, [], ◌∷◌, ◌++◌, refl, sym, ap, subst, arith}
use Rattle.std.specs.Prelude.{◌==◌, find}
use Rattle.std.specs.List.{remove}
use Rattle.std.specs.Option.{option_or}
use Rattle.std.proofs.lemmas.List.Folds.{find-append}
use Rattle.std.proofs.lemmas.Bool.Decides.{nat_tests}
use Rattle.coap_observe.proofs.Found.{here}
use Rattle.coap_msg.specs.declared.endpoint.Endpoint.{Endpoint}
use Rattle.coap_msg.specs.Grammar.{CoapMessage}
use Rattle.coap_msg.specs.Requests.{request_type}
use Rattle.coap_exchange.specs.Table.{Exchange, exchange_in, at_moment}
use Rattle.coap_opts.specs.Reading.{AskSeen}
use Rattle.coap_bind.specs.declared.pending.PendingReply.{PendingReply}
use Rattle.coap_bind.specs.declared.server.Server.{Server}
use Rattle.coap_exchange.specs.declared.met.Met.TheVariants.{Fresh}
use Rattle.coap_bind.specs.Server.{asked, IsMet, answered_at_once, arrival, malformed, no_request, duplicate, full, replied, bad_option_ignored, gives_links, asks, asks_whole, with_parts, pending_of, pending_joined, Reads, settled, admitted}
use Rattle.coap_bind.specs.Laws.{IsOpen, AsksAreOpen}
use Rattle.coap_bind.proofs.HistoryLaws.{not_replied, not_duplicate}

same_number : (n : ℕ) → (n == n) ≡ true
same_number n = grind (arith, nat_tests)

asks_at_once : (what : AskSeen) (ask : PendingReply) (bytes : List ℕ) → asked what ask ≡ answered_at_once bytes → ⊥
asks_at_once what ask bytes e = cc

last_found : (slot : ℕ) (es : List Exchange) (e : Exchange) → find (λ x. x.slot == slot) es ≡ None → (e.slot == slot) ≡ true
    → find (λ x. x.slot == slot) (es ++ e ∷ []) ≡ Some e
last_found slot es e none is =
    find-append (λ x. x.slot == slot) es (e ∷ []) ∙ ap (λ (o : Option Exchange). option_or o (find (λ x. x.slot == slot) (e ∷ []))) none
    ∙ here (λ x. x.slot == slot) e [] is

-- a request that was admitted is in its slot, and waits for its reply
pub fresh_is_there : (from : Endpoint) (bytes : List ℕ) (now : ℕ) (m : CoapMessage) (slot : ℕ) (s u : Server) → IsMet from bytes now m (Fresh slot) s u
    → exchange_in slot u.exchanges ≡ Some (record { arrival = arrival from now m; slot = slot; reply = None })
fresh_is_there from bytes now m slot s u met =
    ap (exchange_in slot) met.meets.1.2
    ∙ last_found slot (at_moment now s.exchanges).exchanges (record { arrival = arrival from now m; slot = slot; reply = None }) met.meets.1.1 (same_number slot)

-- a request that has a slot and is asked may be answered
open_at : (ask other : PendingReply) (s t u : Server) (e : Exchange) → ask ≡ other → t ≡ u → u.exchanges ≡ s.exchanges → exchange_in other.slot s.exchanges ≡ Some e → e.reply ≡ None
    → other.kind ≡ e.arrival.kind → IsOpen ask t
open_at ask other s t u e same is exchanges there waits kind =
    subst (λ (x : Server). IsOpen ask x) (sym is)
    (subst (λ (a : PendingReply). IsOpen a u) (sym same)
    (record { exchange = e; there = ap (exchange_in other.slot) exchanges ∙ there; waits = waits; kind = kind }))

reads_open : (from : Endpoint) (now : ℕ) (m : CoapMessage) (slot : ℕ) (what : AskSeen) (ask : PendingReply) (s t : Server) (e : Exchange) → Reads from now m slot (asked what ask) s t
    → exchange_in slot s.exchanges ≡ Some e → e.reply ≡ None → request_type m.kind ≡ e.arrival.kind → IsOpen ask t
reads_open from now m slot what ask s t e (replied r parts bytes why replies h) there waits kind = absurd (asks_at_once what ask bytes h)
reads_open from now m slot what ask s t e (bad_option_ignored number fault non h is) there waits kind = cc
reads_open from now m slot what ask s t e (gives_links bytes none act links get replies h) there waits kind = absurd (asks_at_once what ask bytes h)
reads_open from now m slot what ask s t e (asks none act apart h is) there waits kind =
    let same : ask ≡ pending_of from now m slot = cc in
    open_at ask (pending_of from now m slot) s t s e same is refl there waits kind
reads_open from now m slot what ask s t e (asks_whole b place parts whole none joining apart adds found h is) there waits kind =
    let same : ask ≡ pending_joined from m slot b = cc in
    open_at ask (pending_joined from m slot b) s t (with_parts (remove parts place) s) e same is refl there waits kind

pub asks_are_open : AsksAreOpen
asks_are_open from bytes now what ask s t (settled (malformed f fault h is)) = absurd (not_replied what ask _ h)
asks_are_open from bytes now what ask s t (settled (no_request m of_m none h is)) = absurd (not_replied what ask _ h)
asks_are_open from bytes now what ask s t (settled (duplicate m kept e met found h)) = absurd (not_duplicate what ask (request_type m.kind) e.reply h)
asks_are_open from bytes now what ask s t (settled (full m u met h is)) = absurd (asks_at_once what ask _ h)
asks_are_open from bytes now what ask s t (admitted m slot u met reads) =
    reads_open from now m slot what ask u t (record { arrival = arrival from now m; slot = slot; reply = None }) reads (fresh_is_there from bytes now m slot s u met) refl refl
