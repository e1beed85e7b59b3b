-- The history of a server, from one datagram to the next (RFC 7252, section 4.5).
use Rattle.std.specs.Prelude.{◌≡◌, ◌≤◌, ℕ, true, List, [], ◌∷◌, ◌++◌}
use Rattle.coap_msg.specs.declared.endpoint.Endpoint.{Endpoint}
use Rattle.coap_msg.specs.Grammar.{CoapMessage, Spells}
use Rattle.coap_exchange.specs.Admission.{Arrival, admitted_among}
use Rattle.coap_opts.specs.Reading.{AskSeen}
use Rattle.coap_bind.specs.declared.pending.PendingReply.{PendingReply}
use Rattle.coap_bind.specs.declared.server.Server.{Server}
use Rattle.coap_bind.specs.Server.{is_request, arrival, Heard, asked, Hears}
use Rattle.coap_bind.specs.Laws.{Did, AreArrivals}

-- The history of a server goes on by each datagram that it hears, and its table is at no later moment.
abbrev pub HearingGoesOn : Type 0
HearingGoesOn =
    (capacity : ℕ) (history : List Arrival) (s t : Server) (from : Endpoint) (bytes : List ℕ) (now : ℕ) (heard : Heard)
    → Did capacity history s → s.exchanges.moment ≤ now → Hears from bytes now heard s t
    → (new : List Arrival) × AreArrivals from bytes now new × Did capacity (history ++ new) t × (t.exchanges.moment ≤ now)

-- The ask of a datagram is the request in it, which is admitted now.
abbrev pub AskedIsAdmitted : Type 0
AskedIsAdmitted =
    (capacity : ℕ) (history : List Arrival) (s t : Server) (from : Endpoint) (bytes : List ℕ) (now : ℕ) (what : AskSeen) (ask : PendingReply)
    → Did capacity history s → s.exchanges.moment ≤ now → Hears from bytes now (asked what ask) s t
    → (m : CoapMessage) × Spells m bytes × (is_request m ≡ true)
    × (admitted_among capacity (history ++ arrival from now m ∷ []) ≡ admitted_among capacity history ++ arrival from now m ∷ [])
    × Did capacity (history ++ arrival from now m ∷ []) t × (t.exchanges.moment ≤ now)
