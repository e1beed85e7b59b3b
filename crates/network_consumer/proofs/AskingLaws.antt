-- The trace of the whole of an operation.
use Rattle.std.proofs.Common.{◌≡◌, ℕ, List, [], ◌∷◌, ◌++◌, Bor, Option, Some, None, refl, sym, ap, subst, ◌∙◌, append-nil}
use Rattle.std.specs.Prelude.{option_map}
use Rattle.wot_forms.specs.declared.scheme.Scheme.{Scheme}
use Rattle.wot_forms.specs.declared.scheme.Scheme.TheVariants as scheme
use Rattle.wot_json.specs.Json.{text_of}
use Rattle.wot_consumer.specs.declared.chosen.Chosen.{Chosen}
use Rattle.wot_consumer.specs.Messages.{request_bytes}
use Rattle.wot_consumer.specs.Discovery.{server_url}
use Rattle.coap_msg.specs.declared.endpoint.Endpoint.{Endpoint}
use Rattle.coap_client.specs.declared.fault.ClientFault.{ClientFault}
use Rattle.coap_client.specs.declared.fault.ClientFault.TheVariants as client_fault
use Rattle.coap_client.specs.Exchange.{IsRefused}
use Rattle.servient_outside.specs.declared.net.Act.TheVariants as act
use Rattle.servient_outside.specs.declared.net.Dialled.TheVariants as dialled
use Rattle.servient_outside.specs.declared.net.Found.TheVariants as found
use Rattle.servient_outside.specs.declared.out.Put.{Put}
use Rattle.servient_outside.specs.declared.out.Put.TheVariants as put
use Rattle.servient_outside.specs.Network.{Happening, did, dials_as, finds_as, NetSeen, NetShows}
use Rattle.servient_outside.specs.Out.{OutSeen}
use Rattle.servient_outside.proofs.NetLaws.{net_shows_then}
use Rattle.network_consumer.specs.declared.operation.ThingOperation.{ThingOperation}
use Rattle.network_consumer.specs.declared.purpose.Purpose.{Purpose}
use Rattle.network_consumer.specs.declared.purpose.Purpose.TheVariants as purpose
use Rattle.network_consumer.specs.declared.consumed.Consumed.{Consumed}
use Rattle.network_consumer.specs.declared.consumed.Consumed.TheVariants as ended
use Rattle.network_consumer.specs.declared.consumed.ConsumedOutcome.TheVariants as outcome
use Rattle.network_consumer.specs.declared.waiting.Waiting.{Waiting}
use Rattle.network_consumer.specs.declared.waiting.Waiting.TheVariants.{Http, Coap}
use Rattle.network_consumer.specs.declared.coap_waiting.CoapWaiting.{CoapWaiting}
use Rattle.network_consumer.specs.Deeds.{happen, Sight, sight, Shows, ShowsHappenings, put_of}
use Rattle.network_consumer.specs.HttpWaiting.{waiting_on}
use Rattle.network_consumer.specs.declared.blocks.Blocks.{Blocks}
use Rattle.network_consumer.specs.Asking.{first_blocks}
use Rattle.network_consumer.specs.Blockwise.{Transferred, nothing_joined}
use Rattle.network_consumer.specs.CoapWaiting.{client_now, asking_with, IsSent}
use Rattle.network_consumer.specs.Waiting.{Awaits, most_events}
use Rattle.network_consumer.specs.Consuming as whole
use Rattle.network_consumer.specs.Consuming.{AsksByHttp, AsksByCoap, AsksPeer, AsksBy, AsksOrNot, IsFresh, Consumes, TakesInput, input_of, Discovers}
use Rattle.network_consumer.proofs.DeedLaws.{shows_none, shows_then, shows_net}
use Rattle.network_consumer.proofs.HearingLaws.{is_no_room}

-- ## Over HTTP

-- it dialled and sent the request, and its reply was awaited
pub http_sent : (o : Purpose) (c : Chosen) (host request : List ℕ) (k : ℕ) (w : Waiting) (r : Consumed) (n m l : NetSeen) (q : OutSeen) (b : Sight) → host ≡ c.host → w ≡ Http (waiting_on k) → NetShows n m (dials_as host c.port (dialled.Connected k))
    → NetShows m l (did (act.Sent k (request ++ [])) ∷ []) → Shows (Awaits o c r most_events w) (sight l q) b (put_of r) → Shows (λ deeds. AsksByHttp o c request deeds r) (sight n q) b (put_of r)
http_sent o c host request k w r n m l q b at_host waits dials sends awaits =
    let first : List Happening = did (act.Dialled c.host c.port (Some k)) ∷ did (act.Sent k request) ∷ [] in
    let shown : NetShows n l first = net_shows_then n m l (did (act.Dialled c.host c.port (Some k)) ∷ []) (did (act.Sent k request) ∷ [])
    (subst (λ (x : List ℕ). NetShows n m (did (act.Dialled x c.port (Some k)) ∷ [])) at_host dials)
    (subst (λ (x : List ℕ). NetShows m l (did (act.Sent k x) ∷ [])) (append-nil request) sends) in
    record {
      deeds = happen first ++ awaits.deeds;
      holds = whole.is_sent k awaits.deeds (subst (λ (x : Waiting). Awaits o c r most_events x awaits.deeds) waits awaits.holds) refl;
      shows = shows_then (sight n q) (sight l q) b (put_of r) (happen first) awaits.deeds (shows_net n l q first shown) awaits.shows;
    }

pub not_dialled : (o : Purpose) (c : Chosen) (host request : List ℕ) (n m : NetSeen) (q : OutSeen) → host ≡ c.host → NetShows n m (dials_as host c.port dialled.Failed) → Shows (λ deeds. AsksByHttp o c request deeds ended.Failed) (sight n q) (sight m q) put.Done
not_dialled o c host request n m q at_host dials =
    let shown : NetShows n m (dials_as c.host c.port dialled.Failed) = subst (λ (x : List ℕ). NetShows n m (dials_as x c.port dialled.Failed)) at_host dials in
    record { deeds = happen (dials_as c.host c.port dialled.Failed); holds = whole.not_dialled refl refl; shows = shows_net n m q (dials_as c.host c.port dialled.Failed) shown }

pub dial_memory : (o : Purpose) (c : Chosen) (host request : List ℕ) (n m : NetSeen) (q : OutSeen) → host ≡ c.host → NetShows n m (dials_as host c.port dialled.NoMemory) → Shows (λ deeds. AsksByHttp o c request deeds ended.NoMemory) (sight n q) (sight m q) put.Done
dial_memory o c host request n m q at_host dials =
    let shown : NetShows n m (dials_as c.host c.port dialled.NoMemory) = subst (λ (x : List ℕ). NetShows n m (dials_as x c.port dialled.NoMemory)) at_host dials in
    record { deeds = happen (dials_as c.host c.port dialled.NoMemory); holds = whole.dial_memory refl refl; shows = shows_net n m q (dials_as c.host c.port dialled.NoMemory) shown }

pub http_memory : (o : Purpose) (c : Chosen) (request : List ℕ) (a : Sight) → Shows (λ deeds. AsksByHttp o c request deeds ended.NoMemory) a a put.Done
http_memory o c request a = record { deeds = []; holds = whole.request_memory refl refl; shows = shows_none a }

pub http_same : (o : Purpose) (c : Chosen) (request bytes other : List ℕ) (r : Consumed) (a b : Sight) (p : Put) → bytes ≡ request → request ≡ other → Shows (λ deeds. AsksByHttp o c bytes deeds r) a b p → Shows (λ deeds. AsksByHttp o c other deeds r) a b p
http_same o c request bytes other r a b p is same asks = record { deeds = asks.deeds; holds = subst (λ (x : List ℕ). AsksByHttp o c x asks.deeds r) (is ∙ same) asks.holds; shows = asks.shows }

-- ## Over CoAP

-- the blocks of the first request
first_asked : (o : Purpose) (input : Option (List ℕ)) (peer : Endpoint) (w : CoapWaiting) → IsFresh o input peer w → w.transfer.asked ≡ first_blocks w.transfer.input
first_asked o input peer w fresh = ap (λ (t : Transferred). t.asked) fresh.transfer ∙ ap (λ (t : Transferred). first_blocks t.input) (sym fresh.transfer)

pub peer_asked : (o : Purpose) (c : Chosen) (input : Option (List ℕ)) (peer : Endpoint) (w v : CoapWaiting) (b : Blocks) (x : Waiting) (r : Consumed) (n m : NetSeen) (q : OutSeen) (d : Sight) → IsFresh o input peer w → b ≡ w.transfer.asked → x ≡ Coap v
    → ShowsHappenings (λ hs. IsSent c w b hs v) n m → Shows (Awaits o c r most_events x) (sight m q) d (put_of r) → Shows (λ deeds. AsksPeer o c w deeds r) (sight n q) d (put_of r)
peer_asked o c input peer w v b x r n m q d fresh first is sends awaits = record {
  deeds = happen sends.happened ++ awaits.deeds;
  holds = whole.is_asked sends.happened v awaits.deeds (subst (λ (y : Blocks). IsSent c w y sends.happened v) (first ∙ first_asked o input peer w fresh) sends.holds)
      (subst (λ (y : Waiting). Awaits o c r most_events y awaits.deeds) is awaits.holds) refl;
  shows = shows_then (sight n q) (sight m q) d (put_of r) (happen sends.happened) awaits.deeds (shows_net n m q sends.happened sends.shows) awaits.shows;
}

pub asked_too_long : (o : Purpose) (c : Chosen) (input : Option (List ℕ)) (peer : Endpoint) (w : CoapWaiting) (b : Blocks) (f : ClientFault) (n m : NetSeen) (q : OutSeen) → IsFresh o input peer w → b ≡ w.transfer.asked
    → ShowsHappenings (λ hs. IsRefused (client_now w) w.peer (asking_with c w b) f × (hs ≡ [])) n m → Shows (λ deeds. AsksPeer o c w deeds (ended.Other outcome.Long)) (sight n q) (sight m q) put.Done
asked_too_long o c input peer w b f n m q fresh first sends = record {
  deeds = happen sends.happened;
  holds = whole.is_long (is_no_room w.client w.moment w.peer (asking_with c w (first_blocks w.transfer.input)) f fresh.new
      (subst (λ (y : Blocks). IsRefused (client_now w) w.peer (asking_with c w y) f) (first ∙ first_asked o input peer w fresh) sends.holds.0))
      (ap happen sends.holds.1) refl;
  shows = shows_net n m q sends.happened sends.shows;
}

pub coap_found : (o : Purpose) (c : Chosen) (input : Option (List ℕ)) (host : List ℕ) (peer : Endpoint) (w : CoapWaiting) (r : Consumed) (n m : NetSeen) (q : OutSeen) (b : Sight) → host ≡ c.host → IsFresh o input peer w → NetShows n m (finds_as host c.port (found.At peer))
    → Shows (λ deeds. AsksPeer o c w deeds r) (sight m q) b (put_of r) → Shows (λ deeds. AsksByCoap o c input deeds r) (sight n q) b (put_of r)
coap_found o c input host peer w r n m q b at_host fresh finds asks =
    let shown : NetShows n m (finds_as c.host c.port (found.At peer)) = subst (λ (x : List ℕ). NetShows n m (finds_as x c.port (found.At peer))) at_host finds in
    record {
      deeds = happen (finds_as c.host c.port (found.At peer)) ++ asks.deeds;
      holds = whole.is_found peer w asks.deeds fresh asks.holds refl;
      shows = shows_then (sight n q) (sight m q) b (put_of r) (happen (finds_as c.host c.port (found.At peer))) asks.deeds (shows_net n m q (finds_as c.host c.port (found.At peer)) shown) asks.shows;
    }

pub not_found : (o : Purpose) (c : Chosen) (input : Option (List ℕ)) (host : List ℕ) (n m : NetSeen) (q : OutSeen) → host ≡ c.host → NetShows n m (finds_as host c.port found.Failed) → Shows (λ deeds. AsksByCoap o c input deeds ended.Failed) (sight n q) (sight m q) put.Done
not_found o c input host n m q at_host finds =
    let shown : NetShows n m (finds_as c.host c.port found.Failed) = subst (λ (x : List ℕ). NetShows n m (finds_as x c.port found.Failed)) at_host finds in
    record { deeds = happen (finds_as c.host c.port found.Failed); holds = whole.not_found refl refl; shows = shows_net n m q (finds_as c.host c.port found.Failed) shown }

pub find_memory : (o : Purpose) (c : Chosen) (input : Option (List ℕ)) (host : List ℕ) (n m : NetSeen) (q : OutSeen) → host ≡ c.host → NetShows n m (finds_as host c.port found.NoMemory) → Shows (λ deeds. AsksByCoap o c input deeds ended.NoMemory) (sight n q) (sight m q) put.Done
find_memory o c input host n m q at_host finds =
    let shown : NetShows n m (finds_as c.host c.port found.NoMemory) = subst (λ (x : List ℕ). NetShows n m (finds_as x c.port found.NoMemory)) at_host finds in
    record { deeds = happen (finds_as c.host c.port found.NoMemory); holds = whole.find_memory refl refl; shows = shows_net n m q (finds_as c.host c.port found.NoMemory) shown }

pub client_memory : (o : Purpose) (c : Chosen) (input : Option (List ℕ)) (s : Sight) → Shows (λ deeds. AsksByCoap o c input deeds ended.NoMemory) s s put.Done
client_memory o c input s = record { deeds = []; holds = whole.client_memory refl refl; shows = shows_none s }

-- the value handed in is that with which it begins
pub coap_same : (o : Purpose) (c : Chosen) (t : Transferred) (input : Option (List ℕ)) (r : Consumed) (a b : Sight) (p : Put) → t ≡ nothing_joined input → Shows (λ deeds. AsksByCoap o c t.input deeds r) a b p → Shows (λ deeds. AsksByCoap o c input deeds r) a b p
coap_same o c t input r a b p is asks = record { deeds = asks.deeds; holds = subst (λ (x : Option (List ℕ)). AsksByCoap o c x asks.deeds r) (ap (λ (x : Transferred). x.input) is) asks.holds; shows = asks.shows }

pub joined_nothing : (t : Transferred) (input : Option (List ℕ)) → t ≡ nothing_joined input → t ≡ nothing_joined t.input
joined_nothing t input is = is ∙ ap (λ (x : Transferred). nothing_joined x.input) (sym is)

-- ## The whole

pub asked_by_http : (o : Purpose) (c : Chosen) (body : Option (List ℕ)) (request : List ℕ) (s : Scheme) (r : Consumed) (a b : Sight) (p : Put) → s ≡ scheme.Http → request ≡ request_bytes c body → Shows (λ deeds. AsksByHttp o c request deeds r) a b p
    → Shows (λ deeds. AsksBy o c body s deeds r) a b p
asked_by_http o c body request s r a b p is same asks = record {
  deeds = asks.deeds;
  holds = subst (λ (x : Scheme). AsksBy o c body x asks.deeds r) (sym is) (subst (λ (x : List ℕ). AsksByHttp o c x asks.deeds r) same asks.holds);
  shows = asks.shows;
}

pub asked_by_coap : (o : Purpose) (c : Chosen) (body : Option (List ℕ)) (s : Scheme) (r : Consumed) (a b : Sight) (p : Put) → s ≡ scheme.Coap → Shows (λ deeds. AsksBy o c body scheme.Coap deeds r) a b p → Shows (λ deeds. AsksBy o c body s deeds r) a b p
asked_by_coap o c body s r a b p is asks = record { deeds = asks.deeds; holds = subst (λ (x : Scheme). AsksBy o c body x asks.deeds r) (sym is) asks.holds; shows = asks.shows }

pub asked_with : (o : Purpose) (c : Chosen) (body bytes : Option (List ℕ)) (r : Consumed) (a b : Sight) (p : Put) → body ≡ bytes → Shows (λ deeds. AsksBy o c body c.scheme deeds r) a b p → Shows (λ deeds. AsksOrNot o c bytes deeds r) a b p
asked_with o c body bytes r a b p same asks = record { deeds = asks.deeds; holds = whole.has_body (subst (λ (x : Option (List ℕ)). AsksBy o c x c.scheme asks.deeds r) same asks.holds); shows = asks.shows }

pub no_body : (o : Purpose) (c : Chosen) (body : Option (List ℕ)) (a : Sight) → Shows (λ deeds. AsksOrNot o c body deeds ended.NoMemory) a a put.Done
no_body o c body a = record { deeds = []; holds = whole.body_memory refl refl; shows = shows_none a }

pub consumed_by_asking : (o : ThingOperation) (c : Chosen) (r : Consumed) (a b : Sight) (p : Put) → TakesInput o → Shows (λ deeds. AsksOrNot (purpose.Operation o) c (option_map text_of (input_of o)) deeds r) a b p → Shows (λ deeds. Consumes o c deeds r) a b p
consumed_by_asking o c r a b p takes asks = record { deeds = asks.deeds; holds = whole.is_done takes asks.holds; shows = asks.shows }

pub consumed_nothing : (o : ThingOperation) (c : Chosen) (a : Sight) → ¬ (TakesInput o) → Shows (λ deeds. Consumes o c deeds (ended.Other outcome.Input)) a a put.Done
consumed_nothing o c a refused = record { deeds = []; holds = whole.is_refused refused refl refl; shows = shows_none a }

pub consumed_no_memory : (o : ThingOperation) (c : Chosen) (a : Sight) → Shows (λ deeds. Consumes o c deeds ended.NoMemory) a a put.Done
consumed_no_memory o c a = record { deeds = []; holds = whole.input_memory refl refl; shows = shows_none a }

-- ## Discovery

pub discovered_nothing : (c : Chosen) (a : Sight) → Shows (λ deeds. Discovers c deeds ended.NoMemory) a a put.Done
discovered_nothing c a = record { deeds = []; holds = whole.discovery_memory refl refl; shows = shows_none a }

pub discovered : (c : Chosen) (server : Bor (List ℕ)) (r : Consumed) (a b : Sight) (p : Put) → server.now ≡ server_url c.host c.port → Shows (λ deeds. AsksByCoap (purpose.Discovery server) c None deeds r) a b p → Shows (λ deeds. Discovers c deeds r) a b p
discovered c server r a b p url asks = record { deeds = asks.deeds; holds = whole.has_asked server url asks.holds; shows = asks.shows }

pub discovered_at : (c d : Chosen) (r : Consumed) (a b : Sight) (p : Put) → c ≡ d → Shows (λ deeds. Discovers c deeds r) a b p → Shows (λ deeds. Discovers d deeds r) a b p
discovered_at c d r a b p is shown = record { deeds = shown.deeds; holds = subst (λ (x : Chosen). Discovers x shown.deeds r) is shown.holds; shows = shown.shows }
