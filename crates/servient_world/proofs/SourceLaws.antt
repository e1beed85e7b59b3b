-- Each value that is taken was read or emitted.
use Rattle.std.proofs.Common.{◌≡◌, ◌⊎◌, ℕ, ◌+◌, ◌-◌, ◌<◌, ◌≤◌, ◌∙◌, Bool, true, false, cond, Option, Some, None, List, [], ◌∷◌, ◌++◌, map, take, length, append_assoc, inl, inr, refl, sym, ap, subst, arith}
use Rattle.std.specs.Prelude.{◌==◌, All, Contains, slice_get, option_map}
use Rattle.std.specs.Option.{option_to_list}
use Rattle.std.proofs.lemmas.Bool.{cases_Bool}
use Rattle.std.proofs.lemmas.Bool.Decides.{nat_tests}
use Rattle.std.proofs.lemmas.List.{append-nil, length_push}
use Rattle.std.proofs.lemmas.List.Elements.{All-append, All-map, All-nil, All-push, All-weaker, All-contains, Contains-append_left}
use Rattle.coap_msg.specs.declared.endpoint.Endpoint.{Endpoint}
use Rattle.coap_msg.specs.Endpoints.{is_same_endpoint}
use Rattle.coap_msg.specs.Grammar.{CoapMessage, Spells}
use Rattle.coap_msg.proofs.Messages.{at_most_one_message}
use Rattle.coap_msg.proofs.FaultLaws.{no_fault_of_message}
use Rattle.coap_msg.proofs.SameEndpoints.{same_endpoint}
use Rattle.coap_client.specs.declared.outstanding.Outstanding.{Outstanding}
use Rattle.coap_client.specs.declared.state.State.{State}
use Rattle.coap_client.specs.declared.meaning.Meaning.TheVariants as meant
use Rattle.coap_client.specs.declared.news.News.{News}
use Rattle.coap_client.specs.declared.news.News.TheVariants as news
use Rattle.coap_client.specs.declared.news.Delivered.{Delivered}
use Rattle.coap_client.specs.Answers.{meaning, sequence_of}
use Rattle.coap_client.specs.Exchange.{at_moment, request_for, Delivers, of_message, of_fault, IsNews}
use Rattle.coap_observe.specs.declared.notice.Notice.{Notice}
use Rattle.coap_observe.specs.Accounts.{place_after, last_place, token_of, IsToRegistered}
use Rattle.coap_observe.proofs.AccountLaws.{notifications_go_to_the_registered}
use Rattle.coap_bind.specs.declared.server.Server.{Server}
use Rattle.coap_bind.specs.Server.{SendsNext}
use Rattle.coap_bind.specs.Writing.{Reply, reply_options, notification}
use Rattle.coap_bind.proofs.MessageLaws.{notifications_are_messages}
use Rattle.servient_world.specs.World.{Emission, client_place, server_place, Purpose, copy_of, reply_to, notification_for, other, Datagram, Act, WorldState, Value, AskEnd, WorldMove, ask, due, deliver, pass, elsewhere, emit, notify, with_sent, latest, value_by, taken_by, end_by, acts_for, purpose_back, id_used, targets_of, value_after, last_value, purpose_of, notification_sent, with_notification, ClientAsks, sends_ask, refuses_ask, skips_ask, ClientDoesDue, retransmits, gives_up, waits, Comes, too_late, to_client, to_server, ComesIfSent, ComesElsewhere, comes_elsewhere, skips_end, Plays, PlaysAll}
use Rattle.servient_world.specs.Laws.{WasRead, WasEmitted, ValuesHaveASource}
use Rattle.servient_world.proofs.Places.{all_at, at_more, at_last}
use Rattle.servient_world.proofs.Holds.{Holds}
use Rattle.servient_world.proofs.WatchLaws.{IsKnown, Watched}
use Rattle.servient_world.proofs.Ledger.{Entry, IsEntry, entry_reply}
use Rattle.servient_world.proofs.Exact.{Exact, IsSaid, IsWhy}
use Rattle.servient_world.proofs.NotificationLaws.{purpose_is, not_client_purpose}
use Rattle.servient_world.proofs.EndLaws.{grows_by, all_grow, Stands, stands_after, stands_at_start}
use Rattle.servient_world.proofs.ValueLaws.{value_says, notified_says}
use Rattle.servient_world.proofs.TakenLaws.{IsFor, back_on, notification_of, is_for_end, bytes_of}

-- ---- the last value of a target

-- the value in a place, if it is one
abbrev IsThere : List Emission → ℕ → ℕ → List ℕ → Type 0
IsThere all target place text = (place ≡ 0) ⊎ ((0 < place) × (slice_get all (place - 1) ≡ Some (record { target = target; text = text })))

there_more : (all more : List Emission) (target place : ℕ) (text : List ℕ) → IsThere all target place text → IsThere (all ++ more) target place text
there_more all more target place text (inl none) = inl none
there_more all more target place text (inr some) = inr (some.0, at_more all more (place - 1) (record { target = target; text = text }) some.1)

there_at : (target place : ℕ) (text : List ℕ) (before : List Emission) (e : Emission) (b : Bool) → (e.target == target) ≡ b → IsThere before target place text
    → IsThere (before ++ e ∷ []) target (cond b (length before + 1) place) (cond b e.text text)
there_at target place text before e true test h =
    let same : e.target ≡ target = same_number e.target target test in
    let at : slice_get (before ++ e ∷ []) (length before) ≡ Some e = at_last before e in
    let is : length before + 1 - 1 ≡ length before = omega arith in
    inr (omega arith, ap (λ (n : ℕ). slice_get (before ++ e ∷ []) n) is ∙ (at ∙ ap (λ (n : ℕ). Some (record { target = n; text = e.text })) same))
  where
    same_number : (m n : ℕ) → (m == n) ≡ true → m ≡ n
    same_number m n e' = grind (arith, nat_tests)
there_at target place text before e false test h = there_more before (e ∷ []) target place text h

there_after : (target place : ℕ) (text : List ℕ) (before es : List Emission) → IsThere before target place text
    → IsThere (before ++ es) target (place_after target (length before) place (targets_of es)) (value_after target text es)
there_after target place text before [] h = subst (λ (l : List Emission). IsThere l target place text) (sym (append-nil before)) h
there_after target place text before (e ∷ es) h =
    let now = there_at target place text before e (e.target == target) refl h in
    let rest = there_after target (cond (e.target == target) (length before + 1) place) (cond (e.target == target) e.text text) (before ++ e ∷ []) es now in
    let count : length (before ++ e ∷ []) ≡ length before + 1 = length_push before e in
    let counted = subst (λ (n : ℕ). IsThere ((before ++ e ∷ []) ++ es) target (place_after target n (cond (e.target == target) (length before + 1) place) (targets_of es)) (value_after target (cond (e.target == target) e.text text) es)) count rest in
    subst (λ (l : List Emission). IsThere l target (place_after target (length before + 1) (cond (e.target == target) (length before + 1) place) (targets_of es)) (value_after target (cond (e.target == target) e.text text) es))
    (append_assoc before (e ∷ []) es) counted

last_there : (target : ℕ) (emitted : List Emission) → 0 < last_place target (targets_of emitted)
    → slice_get emitted (last_place target (targets_of emitted) - 1) ≡ Some (record { target = target; text = last_value target emitted })
last_there target emitted some = elim (there_after target 0 [] [] emitted (inl refl)) [
  | inl none ↦ absurd (omega arith)
  | inr there ↦ there.1
]

-- ---- the invariant

-- a notification says the value in its place, of the target of its ask's act
record Says (acts : List Act) (emitted : List Emission) (k e : ℕ) (d : Datagram) : Type 0 where
  act : Act
  made : Contains acts act
  for_it : act.ask ≡ k
  notice : Notice
  value : List ℕ
  of_target : act.acted.target ≡ Some notice.target
  spells : Spells (notification notice value) d.bytes
  some : 0 < e
  there : slice_get emitted (e - 1) ≡ Some (record { target = notice.target; text = value })

abbrev SaysIt : List Act → List Emission → Datagram → Purpose → Type 0
SaysIt acts emitted d (notification_for k q e) = Says acts emitted k e d
SaysIt acts emitted d (copy_of k) = Unit {0}
SaysIt acts emitted d (reply_to k) = Unit {0}
SaysIt acts emitted d other = Unit {0}

abbrev IsSource : List Act → List Emission → Value → Type 0
IsSource acts emitted x = WasRead acts x ⊎ WasEmitted acts emitted x

record Sourced (w : WorldState) : Type 0 where
  says : All (λ d. SaysIt w.acts w.emitted d d.purpose) w.sent
  source : All (IsSource w.acts w.emitted) w.taken

says_more : (acts more : List Act) (emitted later : List Emission) (d : Datagram) (p : Purpose) → SaysIt acts emitted d p → SaysIt (acts ++ more) (emitted ++ later) d p
says_more acts more emitted later d (notification_for k q e) x = record {
  act = x.act;
  made = Contains-append_left acts more x.act x.made;
  for_it = x.for_it;
  notice = x.notice;
  value = x.value;
  of_target = x.of_target;
  spells = x.spells;
  some = x.some;
  there = at_more emitted later (e - 1) (record { target = x.notice.target; text = x.value }) x.there;
}
says_more acts more emitted later d (copy_of k) x = tt
says_more acts more emitted later d (reply_to k) x = tt
says_more acts more emitted later d other x = tt

source_more : (acts more : List Act) (emitted later : List Emission) (x : Value) → IsSource acts emitted x → IsSource (acts ++ more) (emitted ++ later) x
source_more acts more emitted later x (inl r) = inl (record { act = r.act; made = Contains-append_left acts more r.act r.made; for_it = r.for_it; first = r.first; payload = r.payload })
source_more acts more emitted later x (inr n) = inr (record {
  act = n.act;
  made = Contains-append_left acts more n.act n.made;
  for_it = n.for_it;
  target = n.target;
  of_target = n.of_target;
  some = n.some;
  there = at_more emitted later (x.place - 1) (record { target = n.target; text = x.payload }) n.there;
})

-- more acts and more values
sourced_more : (w : WorldState) (t : Server) (n : ℕ) (more : List Act) (later : List Emission) → Sourced w → Sourced (record w { server = t; acts = w.acts ++ more; emitted = w.emitted ++ later; ids = n })
sourced_more w t n more later y = record {
  says = All-weaker (λ (d : Datagram). SaysIt w.acts w.emitted d d.purpose) (λ (d : Datagram). SaysIt (w.acts ++ more) (w.emitted ++ later) d d.purpose)
      (λ d x. says_more w.acts more w.emitted later d d.purpose x) w.sent y.says;
  source = All-weaker (IsSource w.acts w.emitted) (IsSource (w.acts ++ more) (w.emitted ++ later)) (λ x is. source_more w.acts more w.emitted later x is) w.taken y.source;
}

sourced_acts : (w : WorldState) (t : Server) (n : ℕ) (more : List Act) → Sourced w → Sourced (record w { server = t; acts = w.acts ++ more; ids = n })
sourced_acts w t n more y =
    subst (λ (l : List Emission). Sourced (record w { server = t; acts = w.acts ++ more; emitted = l; ids = n })) (append-nil w.emitted) (sourced_more w t n more [] y)

sourced_values : (w : WorldState) (t : Server) (later : List Emission) → Sourced w → Sourced (record w { server = t; emitted = w.emitted ++ later })
sourced_values w t later y =
    subst (λ (l : List Act). Sourced (record w { server = t; acts = l; emitted = w.emitted ++ later })) (append-nil w.acts) (sourced_more w t w.ids [] later y)

-- more is sent that is no notification
sourced_sent : (w : WorldState) (from to : Endpoint) (p : Purpose) (said : List (List ℕ)) → ((d : Datagram) → SaysIt w.acts w.emitted d p) → Sourced w → Sourced (with_sent w from to p said)
sourced_sent w from to p said plain y =
    let one : List ℕ → Datagram = λ bytes. record { moment = w.moment; from = from; to = to; bytes = bytes; purpose = p } in
    record {
      says = All-append (λ (d : Datagram). SaysIt w.acts w.emitted d d.purpose) w.sent (map one said) y.says
          (All-map (λ (d : Datagram). SaysIt w.acts w.emitted d d.purpose) one said (λ i d within. plain _));
      source = y.source;
    }

plain_back : (p : Purpose) (acts : List Act) (emitted : List Emission) (d : Datagram) → SaysIt acts emitted d (purpose_back p)
plain_back (copy_of k) acts emitted d = tt
plain_back (reply_to k) acts emitted d = tt
plain_back (notification_for k q e) acts emitted d = tt
plain_back other acts emitted d = tt

-- ---- values that are taken

read_of : (asks : List Outstanding) (acts : List Act) (links : List ℕ) (led : List Entry) (k : ℕ) (r : Reply) (payload : List ℕ) → All (IsEntry asks acts links) led → IsWhy led k r
    → (sequence_of (reply_options r) ≡ None → ⊥) → payload ≡ r.payload → WasRead acts (record { ask = k; place = 0; payload = payload })
read_of asks acts links led k r payload entries (inl full) some is = absurd (some (ap (λ (x : Reply). sequence_of (reply_options x)) full))
read_of asks acts links led k r payload entries (inr x) some is =
    let says = entry_reply asks acts links x.0 (All-contains (IsEntry asks acts links) led x.0 entries x.1) in
    elim says [
      | inl act ↦ record { act = act.act; made = act.made; for_it = act.for_it ∙ x.2; first = refl; payload = is ∙ (ap (λ (y : Reply). y.payload) x.3 ∙ ap (λ (y : Reply). y.payload) act.says) }
      | inr silent ↦ absurd (some (ap (λ (y : Reply). sequence_of (reply_options y)) x.3 ∙ silent.silent))
    ]

no_number : (os : _) (q : ℕ) → sequence_of os ≡ Some q → sequence_of os ≡ None → ⊥
no_number os q e none = let wrong : None ≡ Some q = sym none ∙ e in cc

source_of : (w : WorldState) (x : Exact w) (i : ℕ) (d : Datagram) (p : Purpose) (m : CoapMessage) (q : ℕ) (payload : List ℕ) → Sourced w → IsFor w x.led i d p → SaysIt w.acts w.emitted d p → Spells m d.bytes
    → meaning (at_moment w.moment w.client) d.from m ≡ meant.Value q → payload ≡ m.payload → All (IsSource w.acts w.emitted) (value_by p payload)
source_of w x i d p m q payload y (back_on k is sent) says spells e same =
    let right = sent.reply in
    let one : m ≡ right.answer = at_most_one_message m right.answer d.bytes spells right.spells in
    let shown = notified_says (at_moment w.moment w.client) d.from m q (value_says (at_moment w.moment w.client) d.from m q e).0 in
    let options : m.options ≡ reply_options right.reply = ap (λ (y : CoapMessage). y.options) one ∙ right.options in
    let read = read_of w.asks w.acts w.server.links x.led k right.reply payload x.ledger.entries right.why (λ unseen. no_number m.options q shown.1 (ap sequence_of options ∙ unseen)) (same ∙ (ap (λ (y : CoapMessage). y.payload) one ∙ right.payload)) in
    subst (λ (z : Purpose). All (IsSource w.acts w.emitted) (value_by z payload)) (sym is)
    (All-push (IsSource w.acts w.emitted) [] (record { ask = k; place = 0; payload = payload }) (All-nil (IsSource w.acts w.emitted)) (inl read))
source_of w x i d p m q payload y (notification_of k q0 place is n_of) says spells e same =
    let n : Says w.acts w.emitted k place d = subst (SaysIt w.acts w.emitted d) is says in
    let one : m ≡ notification n.notice n.value = at_most_one_message m (notification n.notice n.value) d.bytes spells n.spells in
    let text : n.value ≡ payload = sym (ap (λ (z : CoapMessage). z.payload) one) ∙ sym same in
    subst (λ (z : Purpose). All (IsSource w.acts w.emitted) (value_by z payload)) (sym is)
    (All-push (IsSource w.acts w.emitted) [] (record { ask = k; place = place; payload = payload }) (All-nil (IsSource w.acts w.emitted)) (inr (record {
      act = n.act;
      made = n.made;
      for_it = n.for_it;
      target = n.notice.target;
      of_target = n.of_target;
      some = n.some;
      there = subst (λ (t : List ℕ). slice_get w.emitted (place - 1) ≡ Some (record { target = n.notice.target; text = t })) text n.there;
    })))

told_source : (w : WorldState) (x : Exact w) (i : ℕ) (d : Datagram) (p : Purpose) (m : CoapMessage) (n : News) → Sourced w → IsFor w x.led i d p → SaysIt w.acts w.emitted d p → Spells m d.bytes
    → IsNews (meaning (at_moment w.moment w.client) d.from m) m n → All (IsSource w.acts w.emitted) (taken_by p n)
told_source w x i d p m (news.Value payload) y it says spells is = source_of w x i d p m is.0 payload.now y it says spells is.1 is.2
told_source w x i d p m (news.Answered code block payload) y it says spells is = All-nil (IsSource w.acts w.emitted)
told_source w x i d p m news.Old y it says spells is = All-nil (IsSource w.acts w.emitted)
told_source w x i d p m news.Reset y it says spells is = All-nil (IsSource w.acts w.emitted)
told_source w x i d p m news.Nothing y it says spells is = All-nil (IsSource w.acts w.emitted)

delivered_source : (w : WorldState) (x : Exact w) (i : ℕ) (d : Datagram) (told : Delivered) (old new : List ℕ) (t : State) → Sourced w → IsFor w x.led i d d.purpose → SaysIt w.acts w.emitted d d.purpose
    → Delivers (at_moment w.moment w.client) d.from d.bytes told old new t → All (IsSource w.acts w.emitted) (taken_by d.purpose told.news)
delivered_source w x i d told old new t y it says (of_message m spells reply news_is after_is) = told_source w x i d d.purpose m told.news y it says spells news_is
delivered_source w x i d told old new t y it says (of_fault f has reply news_is same) = let b = bytes_of w x.led i d d.purpose it in absurd (no_fault_of_message f b.0 d.bytes b.1 has)

-- ---- the moves

sourced_come : (w v : WorldState) (i : ℕ) (d : Datagram) → slice_get w.sent i ≡ Some d → Comes d w v → Exact w → Sourced w → Sourced v
sourced_come w v i d at (too_late late is) x y = subst Sourced (sym is) y
sourced_come w v i d at (to_client may to s) x y =
    let said = all_at (λ (z : Datagram). IsSaid w.asks w.acts x.led z z.purpose) w.sent i d x.said at in
    let says = all_at (λ (z : Datagram). SaysIt w.acts w.emitted z z.purpose) w.sent i d y.says at in
    let ends : List AskEnd = w.ends ++ end_by w.client.outstanding s.after.outstanding (latest w) s.told.news in
    let mid : WorldState = record w { client = s.after; ends = ends; taken = w.taken ++ taken_by d.purpose s.told.news } in
    let new_ones = delivered_source w x i d s.told s.old s.new s.after y (is_for_end w x.led i d d.purpose said to) says s.delivers in
    subst Sourced (sym s.next) (sourced_sent mid client_place d.from other (option_to_list (option_map (λ n. take n s.new) s.told.reply)) (λ z. tt)
    (record { says = y.says; source = All-append (IsSource w.acts w.emitted) w.taken (taken_by d.purpose s.told.news) y.source new_ones }))
sourced_come w v i d at (to_server may to s) x y =
    let mid : WorldState = record w { server = s.after; acts = w.acts ++ acts_for d.purpose s.act; ids = w.ids + id_used w.server s.after } in
    subst Sourced (sym s.next) (sourced_sent mid server_place d.from (purpose_back d.purpose) s.back (λ z. plain_back d.purpose mid.acts mid.emitted z)
    (sourced_acts w s.after (w.ids + id_used w.server s.after) (acts_for d.purpose s.act) y))

sourced_deliver : (w v : WorldState) (i : ℕ) (o : Option Datagram) → slice_get w.sent i ≡ o → ComesIfSent o w v → Exact w → Sourced w → Sourced v
sourced_deliver w v i None at is x y = subst Sourced (sym is) y
sourced_deliver w v i (Some d) at is x y = sourced_come w v i d at is x y

sourced_client : (w : WorldState) (t : State) (asks : List Outstanding) (ends : List AskEnd) → Sourced w → Sourced (record w { client = t; asks = asks; ends = ends })
sourced_client w t asks ends y = record { says = y.says; source = y.source }

sourced_ask : (a : _) (w v : WorldState) → ClientAsks a w v → Sourced w → Sourced v
sourced_ask a w v (sends_ask n old new t may asks is) y =
    let r : Outstanding = request_for (at_moment w.moment w.client) server_place a asks.id in
    subst Sourced (sym is) (sourced_sent (record w { client = t; asks = w.asks ++ r ∷ [] }) client_place server_place (copy_of (length w.asks)) (take n new ∷ []) (λ z. tt)
    (sourced_client w t (w.asks ++ r ∷ []) w.ends y))
sourced_ask a w v (refuses_ask f refused is) y = subst Sourced (sym is) (sourced_client w (at_moment w.moment w.client) w.asks w.ends y)
sourced_ask a w v (skips_ask may_not is) y = subst Sourced (sym is) y

sourced_due : (w v : WorldState) → ClientDoesDue w v → Sourced w → Sourced v
sourced_due w v (retransmits n old new t is_due is) y =
    subst Sourced (sym is) (sourced_sent (record w { client = t }) client_place server_place (copy_of (latest w)) (take n new ∷ []) (λ z. tt) (sourced_client w t w.asks w.ends y))
sourced_due w v (gives_up old new t is_due is) y = subst Sourced (sym is) (sourced_client w t w.asks _ y)
sourced_due w v (waits old new t is_due is) y = subst Sourced (sym is) (sourced_client w t w.asks w.ends y)

sourced_elsewhere : (from : Endpoint) (bytes : List ℕ) (w v : WorldState) → ComesElsewhere from bytes w v → Sourced w → Sourced v
sourced_elsewhere from bytes w v (comes_elsewhere no_end s) y =
    subst Sourced (sym s.next) (sourced_sent (record w { server = s.after; acts = w.acts ++ []; ids = w.ids + id_used w.server s.after }) server_place from other s.back (λ z. tt)
    (sourced_acts w s.after (w.ids + id_used w.server s.after) [] y))
sourced_elsewhere from bytes w v (skips_end is_one is) y = subst Sourced (sym is) y

sourced_noticed : (capacity observers : ℕ) (w : WorldState) (t : Server) (o : Option Notice) → Holds capacity w → length w.asks ≤ 65536 → Watched observers w → SendsNext w.moment o w.server t → Sourced w
    → Sourced (with_notification o (record w { server = t }))
sourced_noticed capacity observers w t None h few x sends y = record { says = y.says; source = y.source }
sourced_noticed capacity observers w t (Some n) h few x sends y =
    let goes : IsToRegistered x.account n = notifications_go_to_the_registered observers x.account w.server.observers w.moment w.server.next_id n sends.observers.list x.did x.id sends.notifies in
    let known = All-contains (IsKnown w.asks w.acts) x.account.registered (record { from = n.to; token = token_of n; target = n.target }) x.registered goes.registered in
    let d : Datagram = notification_sent w.moment w.asks w.emitted n in
    let spells : Spells (notification n (last_value n.target w.emitted)) d.bytes
    = record { bounds = notifications_are_messages n (last_value n.target w.emitted) goes.sendable goes.id; bytes_are = refl } in
    let some : 0 < last_place n.target (targets_of w.emitted) = subst (λ (l : List ℕ). 0 < last_place n.target l) x.values goes.valued in
    let it : SaysIt w.acts w.emitted d (purpose_of n w.asks w.emitted) = elim (cases_Bool (is_same_endpoint n.to client_place)) [
      | inl here ↦
          let to = same_endpoint n.to client_place here in
          let is = known.1 to in
          subst (SaysIt w.acts w.emitted d) (sym (purpose_is capacity w n h few to is).purpose) (record {
            act = is.act;
            made = is.made;
            for_it = is.for_it;
            notice = n;
            value = last_value n.target w.emitted;
            of_target = is.target;
            spells = spells;
            some = some;
            there = last_there n.target w.emitted some;
          })
      | inr elsewhere_is ↦ subst (SaysIt w.acts w.emitted d) (sym (not_client_purpose n w.asks w.emitted elsewhere_is)) tt
    ] in
    record { says = All-push (λ (z : Datagram). SaysIt w.acts w.emitted z z.purpose) w.sent d y.says it; source = y.source }

sourced_after : (capacity observers : ℕ) (m : WorldMove) (w v : WorldState) → Plays m w v → Stands capacity observers w → length w.asks ≤ 65536 → Sourced w → Sourced v
sourced_after capacity observers (ask a) w v plays s few y = sourced_ask a w v plays y
sourced_after capacity observers due w v plays s few y = sourced_due w v plays y
sourced_after capacity observers (deliver i) w v plays s few y = sourced_deliver w v i (slice_get w.sent i) refl plays s.exact y
sourced_after capacity observers (pass n) w v plays s few y = subst Sourced (sym plays) (record { says = y.says; source = y.source })
sourced_after capacity observers (elsewhere from bytes) w v plays s few y = sourced_elsewhere from bytes w v plays y
sourced_after capacity observers (emit e) w v plays s few y = subst Sourced (sym plays) (sourced_values w _ (e ∷ []) y)
sourced_after capacity observers notify w v plays s few y =
    subst Sourced (sym plays.next) (sourced_noticed capacity observers w plays.after plays.notice s.holds few s.watched plays.sends y)

sourced_after_all : (capacity observers : ℕ) (moves : List WorldMove) (w v : WorldState) → PlaysAll moves w v → length v.asks ≤ 65536 → Stands capacity observers w → Sourced w → Sourced v
sourced_after_all capacity observers [] w v plays few s y = subst Sourced (sym plays) y
sourced_after_all capacity observers (m ∷ moves) w v plays few s y =
    let one = (grows_by m w plays.0 plays.1).asks in
    let more = (all_grow moves plays.0 v plays.2).asks in
    sourced_after_all capacity observers moves plays.0 v plays.2 few (stands_after capacity observers m w plays.0 plays.1 (omega arith) s)
    (sourced_after capacity observers m w plays.0 plays.1 s (omega arith) y)

pub values_have_a_source : ValuesHaveASource
values_have_a_source first_id exchanges observers moves w v start plays few =
    (sourced_after_all exchanges observers moves w v plays few (stands_at_start first_id exchanges observers w start) (record {
      says = subst (All (λ d. SaysIt w.acts w.emitted d d.purpose)) (sym start.sent) (All-nil (λ (d : Datagram). SaysIt w.acts w.emitted d d.purpose));
      source = subst (All (IsSource w.acts w.emitted)) (sym start.taken) (All-nil (IsSource w.acts w.emitted));
    })).source
