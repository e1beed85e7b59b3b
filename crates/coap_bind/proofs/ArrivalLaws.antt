-- The history of a server goes on by each datagram that it hears.
use Rattle.std.proofs.Common.{◌≡◌, ℕ, ◌≤◌, ◌∙◌, false, List, [], ◌∷◌, ◌++◌, refl, ap, subst}
use Rattle.coap_msg.specs.declared.endpoint.Endpoint.{Endpoint}
use Rattle.coap_msg.specs.Grammar.{CoapMessage}
use Rattle.coap_msg.specs.Requests.{request_type}
use Rattle.coap_msg.proofs.Messages.{at_most_one_message}
use Rattle.coap_msg.proofs.FaultLaws.{no_fault_of_message}
use Rattle.coap_exchange.specs.Admission.{Arrival, admitted as is_admitted, verdict, after_verdict, admitted_among}
use Rattle.coap_exchange.specs.declared.met.Met.{Met}
use Rattle.coap_exchange.specs.declared.met.Met.TheVariants.{Fresh, Repeat, Full}
use Rattle.coap_exchange.proofs.HistoryLaws.{tables_follow_the_history, last_of}
use Rattle.coap_bind.specs.declared.server.Server.{Server}
use Rattle.coap_bind.specs.Server.{Heard, asked, is_request, arrival, IsMet, malformed, no_request, duplicate, full, Hears, settled, admitted}
use Rattle.coap_bind.specs.Laws.{AreArrivals, Did, heard_of}
use Rattle.coap_bind.specs.Histories.{HearingGoesOn, AskedIsAdmitted}
use Rattle.coap_bind.proofs.HistoryLaws.{exchanges_are_of_the_history, not_replied, not_duplicate}
use Rattle.coap_bind.proofs.MomentLaws.{hears_moment}

-- ---- the requests of a datagram

one_arrival : (from : Endpoint) (bytes : List ℕ) (now : ℕ) (m : CoapMessage) (met : Met) (s t : Server) → IsMet from bytes now m met s t
    → (new : List Arrival) × AreArrivals from bytes now new
one_arrival from bytes now m met s t is = (arrival from now m ∷ [], (m, is.spells, is.request, refl))

-- those of a datagram that was heard
pub arrivals : (from : Endpoint) (bytes : List ℕ) (now : ℕ) (h : Heard) (s t : Server) → Hears from bytes now h s t
    → (new : List Arrival) × AreArrivals from bytes now new
arrivals from bytes now h s t (settled (malformed f fault is same)) = ([], (λ m spells. absurd (no_fault_of_message f m bytes spells fault)))
arrivals from bytes now h s t (settled (no_request n spells isnt is same)) =
    ([], (λ m other. subst (λ (x : CoapMessage). is_request x ≡ false) (at_most_one_message n m bytes spells other) isnt))
arrivals from bytes now h s t (settled (duplicate m kept e met found is)) = one_arrival from bytes now m (Repeat kept) s t met
arrivals from bytes now h s t (settled (full m u met is same)) = one_arrival from bytes now m Full s u met
arrivals from bytes now h s t (admitted m slot u met reads) = one_arrival from bytes now m (Fresh slot) s u met

pub hearing_goes_on : HearingGoesOn
hearing_goes_on capacity history s t from bytes now heard did early hears =
    let new = arrivals from bytes now heard s t hears in (
      new.0,
      new.1,
      (did.0, heard_of history new.0 s t from bytes now heard did.1 early hears new.1),
      hears_moment from bytes now heard s t hears early,
    )

-- ---- a request that is asked was admitted

-- a request that met a free slot was admitted
fresh_is_admitted : (capacity : ℕ) (history : List Arrival) (s u : Server) (from : Endpoint) (bytes : List ℕ) (now : ℕ) (m : CoapMessage) (slot : ℕ)
    → Did capacity history s → s.exchanges.moment ≤ now → IsMet from bytes now m (Fresh slot) s u
    → admitted_among capacity (history ++ arrival from now m ∷ []) ≡ admitted_among capacity history ++ arrival from now m ∷ []
fresh_is_admitted capacity history s u from bytes now m slot did early met =
    let of = exchanges_are_of_the_history capacity history s did in
    let next = tables_follow_the_history s.exchanges u.exchanges history (arrival from now m) (Fresh slot) of.0 early met.meets in
    let v : verdict capacity (admitted_among capacity history) (arrival from now m) ≡ is_admitted
    = subst (λ k. verdict k (admitted_among k history) (arrival from now m) ≡ is_admitted) of.1 next.0 in
    last_of capacity history (arrival from now m) ∙ ap (after_verdict (admitted_among capacity history) (arrival from now m)) v

pub asked_is_admitted : AskedIsAdmitted
asked_is_admitted capacity history s t from bytes now what ask did early (settled (malformed f fault h is)) = absurd (not_replied what ask _ h)
asked_is_admitted capacity history s t from bytes now what ask did early (settled (no_request m of_m none h is)) = absurd (not_replied what ask _ h)
asked_is_admitted capacity history s t from bytes now what ask did early (settled (duplicate m kept e met found h)) =
    absurd (not_duplicate what ask (request_type m.kind) e.reply h)
asked_is_admitted capacity history s t from bytes now what ask did early (settled (full m u met h is)) = absurd (cc)
asked_is_admitted capacity history s t from bytes now what ask did early (admitted m slot u met reads) = (
  m,
  met.spells,
  met.request,
  fresh_is_admitted capacity history s u from bytes now m slot did early met,
  (did.0, heard_of history (arrival from now m ∷ []) s t from bytes now (asked what ask) did.1 early (admitted m slot u met reads) (m, met.spells, met.request, refl)),
  hears_moment from bytes now (asked what ask) s t (admitted m slot u met reads) early,
)
