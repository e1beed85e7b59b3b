-- The server keeps and sends back replies as `Exact` says: on a copy of an ask a reply to it, on an empty message
-- nothing, and a datagram from elsewhere makes no exchange of the client's.
use Rattle.std.proofs.Common.{◌≡◌, ◌≢◌, ℕ, ◌<◌, ◌^◌, ◌∙◌, ◌&&◌, Bool, true, false, cond, Option, Some, None, List, [], ◌∷◌, ◌++◌, get_or, inl, inr, refl, sym, ap, subst, arith}
use Rattle.std.specs.Prelude.{◌==◌, All, AllPairs, slice_get, option_map}
use Rattle.std.specs.List.{find}
use Rattle.std.proofs.lemmas.Bool.Decides.{nat_tests}
use Rattle.std.proofs.lemmas.List.Elements.{All-nil, All-head, All-tail, All-push, All-same, All-filter, Contains-push}
use Rattle.std.proofs.lemmas.Option.{same_Some}
use Rattle.coap_msg.specs.declared.endpoint.Endpoint.{Endpoint}
use Rattle.coap_msg.specs.declared.message.Type4.{Type4}
use Rattle.coap_msg.specs.declared.message.Type4.TheVariants.{Con, Ack}
use Rattle.coap_msg.specs.declared.message.RequestType.{RequestType}
use Rattle.coap_msg.specs.declared.message.RequestType.TheVariants.{Confirmable, NonConfirmable}
use Rattle.coap_msg.specs.Requests.{request_type}
use Rattle.coap_msg.specs.Grammar.{CoapMessage, IsWellFormed, Spells, spelling}
use Rattle.coap_msg.proofs.Messages.{at_most_one_message}
use Rattle.coap_msg.proofs.SameEndpoints.{both}
use Rattle.coap_exchange.specs.Admission.{Arrival, lives, is_same_exchange, is_duplicate_of}
use Rattle.coap_exchange.specs.Table.{Exchange, Table, at_moment as later}
use Rattle.thing_ops.specs.declared.outcome.Outcome.{Outcome}
use Rattle.thing_ops.specs.declared.outcome.Outcome.TheVariants.{Memory}
use Rattle.coap_opts.specs.Reading.{faults_of, asked as what_is_asked}
use Rattle.coap_client.specs.declared.outstanding.Outstanding.{Outstanding}
use Rattle.coap_client.specs.Answers.{sequence_of}
use Rattle.coap_observe.specs.declared.notice.Registered.TheVariants.{New, Replaced, Full}
use Rattle.coap_observe.specs.declared.observer.Observer.{Observer}
use Rattle.coap_observe.specs.Watching.{Watching, is_pair, next_sequence}
use Rattle.coap_bind.specs.declared.observing.Effect.{Effect}
use Rattle.coap_bind.specs.declared.observing.Effect.TheVariants as effect
use Rattle.coap_bind.specs.Observing.{observing_of, effect_of, Watches, leaves, cancels, registers}
use Rattle.coap_bind.specs.declared.server.Server.{Server}
use Rattle.coap_bind.specs.declared.blocks.BlockUse.{BlockUse}
use Rattle.coap_bind.specs.declared.blocks.BlockUse.TheVariants.{Whole, Joined}
use Rattle.coap_bind.specs.Blocks.{use_of, answer_reply}
use Rattle.coap_bind.specs.Links.{size_asked}
use Rattle.coap_bind.specs.Writing.{Reply, full_reply, reply_options, observed as observed_reply, head_of, coap_reply}
use Rattle.coap_bind.specs.Server.{is_request, duplicate_reply, arrival, observing_in}
use Rattle.coap_bind.specs.Treating.{Acted, kept_for, sent_back, IsTreated, no_request, is_duplicate, finds_full, is_answered, is_ignored}
use Rattle.coap_bind.proofs.MessageLaws.{replies_are_messages, links_are_messages}
use Rattle.servient_world.specs.World.{client_place, Datagram, WorldState}
use Rattle.servient_world.specs.Led.{Led, act_in, LeadsTo, is_refused, finds_no_memory, gets_links, gets_no_links, gets_block, is_joined, is_acted_on, is_acted_on_whole, IsBack, IsLed}
use Rattle.servient_world.proofs.Places.{all_at}
use Rattle.servient_world.proofs.AskLaws.{IsAskOf, HasMessage}
use Rattle.servient_world.proofs.Holds.{IsCopy}
use Rattle.servient_world.proofs.ReplyLaws.{full_is_message, links_unnumbered, unnumbered, answer_unnumbered, observed_says}
use Rattle.servient_world.proofs.BlockReplies.{later_message, added_message, later_unnumbered, added_unnumbered}
use Rattle.servient_world.proofs.Ledger.{Entry}
use Rattle.servient_world.proofs.LedgerLaws.{copy_message, entry_of}
use Rattle.servient_world.proofs.WatchLaws.{effect_says, observing_says}
use Rattle.servient_world.proofs.Exact.{IsWhy, IsReply, IsKept, IsEmpty, reply_later, kept_later, same_ask}

-- ---- a copy of an ask at the server

-- the replies that are kept and sent then
pub record IsRight (asks : List Outstanding) (led : List Entry) (k : ℕ) (said : List (List ℕ)) (es : List Exchange) : Type 0 where
  pub kept : All (IsKept asks led) es
  pub replies : All (IsReply asks led k) said

found_at : {X : Type 0} (p : X → Bool) (P : X → Type 0) (x y : X) (o : Option X) (b : Bool) → P x → p x ≡ b → (o ≡ Some y → P y × (p y ≡ true)) → cond b (Some x) o ≡ Some y
    → P y × (p y ≡ true)
found_at p P x y o true here test rest e = let same : x ≡ y = same_Some x y e in (subst P same here, subst (λ z. p z ≡ true) same test)
found_at p P x y o false here test rest e = rest e

found_where : {X : Type 0} (p : X → Bool) (P : X → Type 0) (xs : List X) (y : X) → All P xs → find p xs ≡ Some y → P y × (p y ≡ true)
found_where p P [] y all e = absurd (cc)
found_where p P (x ∷ xs) y all e =
    found_at p P x y (find p xs) (p x) (All-head P x xs all) refl (λ more. found_where p P xs y (All-tail P x xs all) more) e

same_number : (m n : ℕ) → (m == n) ≡ true → m ≡ n
same_number m n e = grind (arith, nat_tests)

-- a duplicate is of the same endpoint and has the same id
same_exchange : (now : ℕ) (from : Endpoint) (m : CoapMessage) (e : Arrival) → is_duplicate_of (arrival from now m) e ≡ true → (from ≡ e.from) × (m.id ≡ e.id)
same_exchange now from m e again =
    let same = (both (lives now e) (is_same_exchange (arrival from now m) e) again).1 in
    let place_and_id = both ((from.host == e.from.host) && (from.port == e.from.port)) (m.id == e.id) same in
    let place = both (from.host == e.from.host) (from.port == e.from.port) place_and_id.0 in
    let at : ℕ → ℕ → Endpoint = λ x y. record { host = x; port = y } in (
      ap (λ (x : ℕ). at x from.port) (same_number from.host e.from.host place.0) ∙ ap (λ (y : ℕ). at e.from.host y) (same_number from.port e.from.port place.1),
      same_number m.id e.id place_and_id.1,
    )

again_right : (P : List ℕ → Type 0) (kind : RequestType) (kept : Option (List ℕ)) → ((b : List ℕ) → kept ≡ Some b → P b) → All P (sent_back (duplicate_reply kind kept))
again_right P Confirmable (Some b) each = All-push P [] b (All-nil P) (each b refl)
again_right P Confirmable None each = All-nil P
again_right P NonConfirmable kept each = All-nil P

-- a reply to the message of an ask, which is a message
made_reply : (asks : List Outstanding) (led : List Entry) (k : ℕ) (request : Outstanding) (m : CoapMessage) (r : Reply) (next : ℕ) (bytes : List ℕ)
    → slice_get asks k ≡ Some request → IsAskOf request m → IsWellFormed (coap_reply r (head_of m) next) → bytes ≡ spelling (coap_reply r (head_of m) next) → IsWhy led k r
    → ((q : ℕ) → sequence_of (reply_options r) ≡ Some q → (q ≡ 0) × (request.registers ≡ true)) → IsReply asks led k bytes
made_reply asks led k request m r next bytes ask is bounds spelt why shows =
    let head : coap_reply r (head_of m) next ≡ record { kind = Ack; code = r.code; id = m.id; token = m.token; options = reply_options r; payload = r.payload }
    = ap (λ t. coap_reply r (record { kind = request_type t; id = m.id; token = m.token }) next) is.message.kind in
    record {
      request = request;
      ask = ask;
      answer = record { kind = Ack; code = r.code; id = m.id; token = m.token; options = reply_options r; payload = r.payload };
      spells = subst (λ (x : CoapMessage). Spells x bytes) head (record { bounds = bounds; bytes_are = spelt });
      kind = refl;
      id = is.message.id;
      token = is.message.token;
      reply = r;
      code = refl;
      payload = refl;
      options = refl;
      shows = shows;
      why = why;
    }

kept_right : (P : List ℕ → Type 0) (kind : Type4) (reply b : List ℕ) → kind ≡ Con → P reply → kept_for (request_type kind) reply ≡ Some b → P b
kept_right P kind reply b con right e =
    let same : Some reply ≡ Some b = sym (ap (λ x. kept_for (request_type x) reply) con) ∙ e in
    subst P (same_Some reply b same) right

-- the reply to a request that is admitted is a message
message_by_led : (from : Endpoint) (now : ℕ) (m : CoapMessage) (links : List ℕ) (seen : Option ℕ) (led : Led) (r : Reply) (next : ℕ) → faults_of m.options ≡ [] → IsWellFormed m → next < 2 ^ 16
    → LeadsTo from now m links seen led r → IsWellFormed (coap_reply r (head_of m) next)
message_by_led from now m links seen led r next none bounds small (is_refused some same) = absurd (some none)
message_by_led from now m links seen led r next none bounds small (finds_no_memory same is) =
    subst (λ (x : Reply). IsWellFormed (coap_reply x (head_of m) next)) (sym is) (replies_are_messages Memory None Whole (head_of m) next refl tt bounds.id bounds.token small)
message_by_led from now m links seen led r next none bounds small (gets_links wants links_it same is) =
    subst (λ (x : Reply). IsWellFormed (coap_reply x (head_of m) next)) (sym is)
    (links_are_messages (size_asked (observing_in m) (what_is_asked m)) links (head_of m) next bounds.id bounds.token small).0
message_by_led from now m links seen led r next none bounds small (gets_no_links links_it same is) =
    subst (λ (x : Reply). IsWellFormed (coap_reply x (head_of m) next)) (sym is) (links_are_messages None [] (head_of m) next bounds.id bounds.token small).1
message_by_led from now m links seen led r next none bounds small (gets_block b found wants same is) =
    subst (λ (x : Reply). IsWellFormed (coap_reply x (head_of m) next)) (sym is) (later_message b found (head_of m) next bounds.id bounds.token small)
message_by_led from now m links seen led r next none bounds small (is_joined b added wants same is) = added_message b added r (head_of m) next is bounds.id bounds.token small
message_by_led from now m links seen led r next none bounds small (is_acted_on a wants apart same what code place is) =
    subst (λ (x : Reply). IsWellFormed (coap_reply x (head_of m) next)) (sym is)
    (replies_are_messages a.outcome seen (use_of now m.code (observing_in m) (what_is_asked m)) (head_of m) next code place bounds.id bounds.token small)
message_by_led from now m links seen led r next none bounds small (is_acted_on_whole a b body wants apart same what code place is) =
    subst (λ (x : Reply). IsWellFormed (coap_reply x (head_of m) next)) (sym is) (replies_are_messages a.outcome seen (Joined b) (head_of m) next code place bounds.id bounds.token small)

-- the value of Observe in a reply: 0, where the request registers
abbrev pub ShowsFirst : Outstanding → Reply → Type 0
ShowsFirst request r = (q : ℕ) → sequence_of (reply_options r) ≡ Some q → (q ≡ 0) × (request.registers ≡ true)

shows_said : (request : Outstanding) (u : BlockUse) (o : Outcome) (said : Option ℕ) → ((n : ℕ) → said ≡ Some n → (n ≡ 0) × (request.registers ≡ true))
    → ShowsFirst request (observed_reply said (answer_reply u o))
shows_said request u o None first q e = absurd (let none = answer_unnumbered u o in let wrong : None ≡ Some q = sym none ∙ e in cc)
shows_said request u o (Some n) first q e =
    let is = first n refl in
    let low : n < 2 ^ 24 = let none = is.0 in omega arith in
    let same : n ≡ q = same_Some n q (sym (observed_says n (answer_reply u o) low) ∙ e) in
    (sym same ∙ is.0, is.1)

replaced_there : (o : Option Observer) (n : ℕ) → option_map (λ (w : Observer). next_sequence w.sequence) o ≡ Some n → (w : Observer) × (o ≡ Some w)
replaced_there None n e = absurd (cc)
replaced_there (Some w) n e = (w, refl)

shows_watched : (request : Outstanding) (from : Endpoint) (token : List ℕ) (does : Effect) (old new : Watching) (said : Option ℕ) → Watches does from token old said new
    → ((target : ℕ) → does ≡ effect.Registers target → request.registers ≡ true)
    → ((w : Observer) → find (is_pair from token) old.list ≡ Some w → request.registers ≡ true → ⊥) → (n : ℕ) → said ≡ Some n → (n ≡ 0) × (request.registers ≡ true)
shows_watched request from token does old new said (leaves is none same) reg absent n e = absurd (let wrong : None ≡ Some n = sym none ∙ e in cc)
shows_watched request from token does old new said (cancels is none same) reg absent n e = absurd (let wrong : None ≡ Some n = sym none ∙ e in cc)
shows_watched request from token does old new said (registers target (New k) is r says) reg absent n e =
    let same : k ≡ n = same_Some k n (sym says ∙ e) in
    (sym same ∙ r.2, reg target is)
shows_watched request from token does old new said (registers target (Replaced k) is r says) reg absent n e =
    let there = replaced_there (find (is_pair from token) old.list) k r.0 in
    absurd (absent there.0 there.1 (reg target is))
shows_watched request from token does old new said (registers target Full is r says) reg absent n e = absurd (let wrong : None ≡ Some n = sym says ∙ e in cc)

-- nothing is said of it
silent : (request : Outstanding) (r : Reply) → sequence_of (reply_options r) ≡ None → ShowsFirst request r
silent request r none q e = absurd (let wrong : None ≡ Some q = sym none ∙ e in cc)

shows_acted : (request : Outstanding) (from : Endpoint) (m : CoapMessage) (a : Acted) (seen : Option ℕ) (u : BlockUse) (r : Reply) (old new : Watching) → IsAskOf request m
    → Watches (effect_of (observing_in m) a.outcome a.target) from m.token old seen new
    → ((w : Observer) → find (is_pair from m.token) old.list ≡ Some w → request.registers ≡ true → ⊥) → r ≡ observed_reply seen (answer_reply u a.outcome) → ShowsFirst request r
shows_acted request from m a seen u r old new is watches absent same q e =
    shows_said request u a.outcome seen
    (shows_watched request from m.token (effect_of (observing_of m.code (what_is_asked m).observe) a.outcome a.target) old new seen watches
    (λ target does. is.observes (observing_says m.code (what_is_asked m).observe (effect_says (observing_of m.code (what_is_asked m).observe) a.outcome a.target target does).0))
    absent) q (subst (λ (x : Reply). sequence_of (reply_options x) ≡ Some q) same e)

shows_by_led : (request : Outstanding) (from : Endpoint) (now : ℕ) (m : CoapMessage) (links : List ℕ) (seen : Option ℕ) (led : Led) (act : Option Acted) (r : Reply) (old new : Watching) → IsAskOf request m → act ≡ act_in led
    → ((a : Acted) → act ≡ Some a → Watches (effect_of (observing_in m) a.outcome a.target) from m.token old seen new)
    → ((a : Acted) (w : Observer) → act ≡ Some a → find (is_pair from m.token) old.list ≡ Some w → request.registers ≡ true → ⊥) → LeadsTo from now m links seen led r → ShowsFirst request r
shows_by_led request from now m links seen led act r old new is acted_is watches absent (is_refused some same) = absurd (some is.options)
shows_by_led request from now m links seen led act r old new is acted_is watches absent (finds_no_memory same says) =
    silent request r (ap (λ (x : Reply). sequence_of (reply_options x)) says ∙ unnumbered Memory)
shows_by_led request from now m links seen led act r old new is acted_is watches absent (gets_links wants links_it same says) =
    silent request r (ap (λ (x : Reply). sequence_of (reply_options x)) says ∙ links_unnumbered (size_asked (observing_in m) (what_is_asked m)) links)
shows_by_led request from now m links seen led act r old new is acted_is watches absent (gets_no_links links_it same says) =
    silent request r (ap (λ (x : Reply). sequence_of (reply_options x)) says)
shows_by_led request from now m links seen led act r old new is acted_is watches absent (gets_block b found wants same says) =
    silent request r (ap (λ (x : Reply). sequence_of (reply_options x)) says ∙ later_unnumbered b found)
shows_by_led request from now m links seen led act r old new is acted_is watches absent (is_joined b added wants same says) = silent request r (added_unnumbered b added r says)
shows_by_led request from now m links seen led act r old new is acted_is watches absent (is_acted_on a wants apart same what code place says) =
    let made : act ≡ Some a = acted_is ∙ ap act_in same in
    shows_acted request from m a seen (use_of now m.code (observing_in m) (what_is_asked m)) r old new is (watches a made) (λ w there reg. absent a w made there reg) says
shows_by_led request from now m links seen led act r old new is acted_is watches absent (is_acted_on_whole a b body wants apart same what code place says) =
    let made : act ≡ Some a = acted_is ∙ ap act_in same in
    shows_acted request from m a seen (Joined b) r old new is (watches a made) (λ w there reg. absent a w made there reg) says

-- the reply to a copy of an ask that is admitted, which is now an entry
pub led_reply : (w : WorldState) (led : List Entry) (d : Datagram) (k : ℕ) (act : Option Acted) (said : List (List ℕ)) (t : Server) (reply : List ℕ) → (copy : IsCopy w.asks d k) → All HasMessage w.asks → w.server.next_id < 2 ^ 16
    → ((a : Acted) (x : Observer) → act ≡ Some a → find (is_pair client_place copy.request.token) w.server.observers.list ≡ Some x → copy.request.registers ≡ true → ⊥)
    → (x : IsLed d.from d.bytes w.moment act said w.server t) → said ≡ reply ∷ [] → IsReply w.asks (led ++ entry_of k x.led x.reply ∷ []) k reply
led_reply w led d k act said t reply copy messages small absent x is = at x.sent
  where
    mine : IsAskOf copy.request x.message
    mine = copy_message w.asks d k x.message copy messages x.met.spells

    absent_here : (a : Acted) (v : Observer) → act ≡ Some a → find (is_pair d.from x.message.token) w.server.observers.list ≡ Some v → copy.request.registers ≡ true → ⊥
    absent_here a v made there reg = absent a v made
        (subst (λ (p : Endpoint). find (is_pair p copy.request.token) w.server.observers.list ≡ Some v) copy.from
        (subst (λ (n : List ℕ). find (is_pair d.from n) w.server.observers.list ≡ Some v) mine.message.token there)) reg

    at : IsBack x.message x.led x.reply w.server.next_id said → IsReply w.asks (led ++ entry_of k x.led x.reply ∷ []) k reply
    at (inl spelt) =
        let same : reply ≡ spelling (coap_reply x.reply (head_of x.message) w.server.next_id) = ap (λ (l : List (List ℕ)). get_or l 0 []) (sym is ∙ spelt) in
        made_reply w.asks (led ++ entry_of k x.led x.reply ∷ []) k copy.request x.message x.reply w.server.next_id reply copy.ask mine
        (message_by_led d.from w.moment x.message w.server.links x.seen x.led x.reply w.server.next_id mine.options x.met.spells.bounds small x.leads) same
        (inr (entry_of k x.led x.reply, Contains-push led (entry_of k x.led x.reply), refl, refl))
        (shows_by_led copy.request d.from w.moment x.message w.server.links x.seen x.led act x.reply w.server.observers t.observers mine x.act_is x.watches absent_here x.leads)
    at (inr nothing) = absurd (let wrong : reply ∷ [] ≡ [] = sym is ∙ nothing.0 in cc)

living_kept : (asks : List Outstanding) (led : List Entry) (now : ℕ) (t : Table) → All (IsKept asks led) t.exchanges → All (IsKept asks led) (later now t).exchanges
living_kept asks led now t kept = All-filter (λ (x : Exchange). lives now x.arrival) (IsKept asks led) t.exchanges kept

same_exchanges : (w : WorldState) (led more : List Entry) (t : Server) → t.exchanges ≡ later w.moment w.server.exchanges → All (IsKept w.asks led) w.server.exchanges.exchanges
    → All (IsKept w.asks (led ++ more)) t.exchanges.exchanges
same_exchanges w led more t same kept =
    kept_later w.asks led more t.exchanges.exchanges
    (All-same (IsKept w.asks led) t.exchanges.exchanges (later w.moment w.server.exchanges).exchanges (ap (λ (x : Table). x.exchanges) same) (living_kept w.asks led w.moment w.server.exchanges kept))

-- a copy of an ask, where these entries are new, by which a reply to one that is admitted is right
pub right_copy : (w : WorldState) (led more : List Entry) (d : Datagram) (k : ℕ) (act : Option Acted) (said : List (List ℕ)) (t : Server)
    → (copy : IsCopy w.asks d k) → All HasMessage w.asks → AllPairs (λ a b. a.id ≢ b.id) w.asks → w.server.next_id < 2 ^ 16 → All (IsKept w.asks led) w.server.exchanges.exchanges
    → ((m : CoapMessage) (e : Exchange) (reply : List ℕ) → Spells m d.bytes → is_request m ≡ true → said ≡ reply ∷ [] → t.exchanges.exchanges ≡ (later w.moment w.server.exchanges).exchanges ++ e ∷ [] → IsReply w.asks (led ++ more) k reply)
    → IsTreated d.from d.bytes w.moment act said w.server t → IsRight w.asks (led ++ more) k said t.exchanges.exchanges
right_copy w led more d k act said t copy messages differ small kept each (no_request never quiet none same told) =
    let message = all_at HasMessage w.asks k copy.request messages copy.ask in
    absurd (never message.0 (subst (λ (b : List ℕ). Spells message.0 b) (sym copy.bytes) message.1.message.spells) message.1.request)
right_copy w led more d k act said t copy messages differ small kept each (is_duplicate m e spells request found none is same stays) =
    let mine = copy_message w.asks d k m copy messages spells in
    let it = found_where (λ (x : Exchange). is_duplicate_of (arrival d.from w.moment m) x.arrival) (IsKept w.asks led) (later w.moment w.server.exchanges).exchanges e (living_kept w.asks led w.moment w.server.exchanges kept) found in
    let at = same_exchange w.moment d.from m e.arrival it.1 in
    let x = it.0 (sym at.0 ∙ copy.from) in
    let ids : x.request.id ≡ copy.request.id = sym x.id ∙ (sym at.1 ∙ mine.message.id) in
    let which : x.place ≡ k = same_ask w.asks x.place k x.request copy.request differ x.ask copy.ask ids in
    record {
      kept = same_exchanges w led more t same kept;
      replies = All-same (IsReply w.asks (led ++ more) k) said (sent_back (duplicate_reply (request_type m.kind) e.reply)) is
          (again_right (IsReply w.asks (led ++ more) k) (request_type m.kind) e.reply
          (λ b there. reply_later w.asks led more k b (subst (λ (n : ℕ). IsReply w.asks led n b) which (x.kept b there))));
    }
right_copy w led more d k act said t copy messages differ small kept each (finds_full m spells request none is same stays) =
    let mine = copy_message w.asks d k m copy messages spells in
    let b : List ℕ = spelling (coap_reply full_reply (head_of m) w.server.next_id) in
    record {
      kept = same_exchanges w led more t same kept;
      replies = All-same (IsReply w.asks (led ++ more) k) said (b ∷ []) is
          (All-push (IsReply w.asks (led ++ more) k) [] b (All-nil (IsReply w.asks (led ++ more) k))
          (made_reply w.asks (led ++ more) k copy.request m full_reply w.server.next_id b copy.ask mine
          (full_is_message (head_of m) w.server.next_id spells.bounds.id spells.bounds.token small) refl (inl refl) (λ q e. absurd (cc))));
    }
right_copy w led more d k act said t copy messages differ small kept each (is_answered m slot r reply spells request free reason spelt is new) =
    let mine = copy_message w.asks d k m copy messages spells in
    let fresh : Exchange = record { arrival = arrival d.from w.moment m; slot = slot; reply = kept_for (request_type m.kind) reply } in
    let right : IsReply w.asks (led ++ more) k reply = each m fresh reply spells request is new in
    record {
      kept = All-same (IsKept w.asks (led ++ more)) t.exchanges.exchanges ((later w.moment w.server.exchanges).exchanges ++ fresh ∷ []) new
          (All-push (IsKept w.asks (led ++ more)) (later w.moment w.server.exchanges).exchanges fresh
          (kept_later w.asks led more (later w.moment w.server.exchanges).exchanges (living_kept w.asks led w.moment w.server.exchanges kept))
          (λ from. record {
            place = k;
            request = copy.request;
            ask = copy.ask;
            id = mine.message.id;
            kept = λ b there. kept_right (IsReply w.asks (led ++ more) k) m.kind reply b mine.message.kind right there;
          }));
      replies = All-same (IsReply w.asks (led ++ more) k) said (reply ∷ []) is
          (All-push (IsReply w.asks (led ++ more) k) [] reply (All-nil (IsReply w.asks (led ++ more) k)) right);
    }
right_copy w led more d k act said t copy messages differ small kept each (is_ignored m slot spells request faults none quiet new stays) =
    let mine = copy_message w.asks d k m copy messages spells in
    absurd (faults mine.options)

-- ---- a datagram of another endpoint

living_of : (asks : List Outstanding) (led : List Entry) (now : ℕ) (s t : Server) → t.exchanges ≡ later now s.exchanges → All (IsKept asks led) s.exchanges.exchanges → All (IsKept asks led) t.exchanges.exchanges
living_of asks led now s t same kept =
    All-same (IsKept asks led) t.exchanges.exchanges (later now s.exchanges).exchanges (ap (λ (x : Table). x.exchanges) same)
    (All-filter (λ (x : Exchange). lives now x.arrival) (IsKept asks led) s.exchanges.exchanges kept)

-- an exchange of another endpoint
living_and : (asks : List Outstanding) (led : List Entry) (from : Endpoint) (now : ℕ) (s t : Server) (fresh : Exchange) → (from ≡ client_place → ⊥) → fresh.arrival.from ≡ from
    → t.exchanges.exchanges ≡ (later now s.exchanges).exchanges ++ fresh ∷ [] → All (IsKept asks led) s.exchanges.exchanges → All (IsKept asks led) t.exchanges.exchanges
living_and asks led from now s t fresh not of new kept =
    All-same (IsKept asks led) t.exchanges.exchanges ((later now s.exchanges).exchanges ++ fresh ∷ []) new
    (All-push (IsKept asks led) (later now s.exchanges).exchanges fresh
    (All-filter (λ (x : Exchange). lives now x.arrival) (IsKept asks led) s.exchanges.exchanges kept) (λ is_client. absurd (not (sym of ∙ is_client))))

pub kept_elsewhere : (asks : List Outstanding) (led : List Entry) (from : Endpoint) (bytes : List ℕ) (now : ℕ) (act : Option Acted) (said : List (List ℕ)) (s t : Server)
    → (from ≡ client_place → ⊥) → All (IsKept asks led) s.exchanges.exchanges → IsTreated from bytes now act said s t → All (IsKept asks led) t.exchanges.exchanges
kept_elsewhere asks led from bytes now act said s t not kept (no_request never quiet none same told) =
    All-same (IsKept asks led) t.exchanges.exchanges s.exchanges.exchanges (ap (λ (x : Table). x.exchanges) same) kept
kept_elsewhere asks led from bytes now act said s t not kept (is_duplicate m e spells request found none is same stays) = living_of asks led now s t same kept
kept_elsewhere asks led from bytes now act said s t not kept (finds_full m spells request none is same stays) = living_of asks led now s t same kept
kept_elsewhere asks led from bytes now act said s t not kept (is_answered m slot r reply spells request free reason spelt is new) =
    living_and asks led from now s t (record { arrival = arrival from now m; slot = slot; reply = kept_for (request_type m.kind) reply }) not refl new kept
kept_elsewhere asks led from bytes now act said s t not kept (is_ignored m slot spells request faults none silent new stays) =
    living_and asks led from now s t (record { arrival = arrival from now m; slot = slot; reply = None }) not refl new kept

pub no_request_of : (d : Datagram) (m : CoapMessage) → IsEmpty d → Spells m d.bytes → is_request m ≡ true → ⊥
no_request_of d m empty spells request =
    let none : is_request m ≡ false = subst (λ (x : CoapMessage). is_request x ≡ false) (at_most_one_message empty.message m d.bytes empty.spells spells) empty.no_request in
    cc

-- ---- an empty message of the client's, to which it sends nothing back

pub nothing_back : (w : WorldState) (led : List Entry) (d : Datagram) (act : Option Acted) (said : List (List ℕ)) (t : Server) → IsEmpty d → All (IsKept w.asks led) w.server.exchanges.exchanges
    → IsTreated d.from d.bytes w.moment act said w.server t → (said ≡ []) × All (IsKept w.asks led) t.exchanges.exchanges
nothing_back w led d act said t empty kept (no_request never quiet none same told) =
    (quiet empty.message empty.spells empty.kind, All-same (IsKept w.asks led) t.exchanges.exchanges w.server.exchanges.exchanges (ap (λ (x : Table). x.exchanges) same) kept)
nothing_back w led d act said t empty kept (is_duplicate m e spells request found none is same stays) = absurd (no_request_of d m empty spells request)
nothing_back w led d act said t empty kept (finds_full m spells request none is same stays) = absurd (no_request_of d m empty spells request)
nothing_back w led d act said t empty kept (is_answered m slot r reply spells request free reason spelt is new) = absurd (no_request_of d m empty spells request)
nothing_back w led d act said t empty kept (is_ignored m slot spells request faults none silent new stays) = absurd (no_request_of d m empty spells request)
