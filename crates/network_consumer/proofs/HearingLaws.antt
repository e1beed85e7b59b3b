-- The effect of one event: the parts of it put together.
use Rattle.std.proofs.Common.{◌≡◌, ◌≤◌, ℕ, List, [], ◌∷◌, ◌++◌, take, length, Bool, true, false, Option, Some, None, refl, sym, ap, subst, ◌∙◌, arith, inl, inr}
use Rattle.std.specs.Prelude.{cond, max, nat_le, slice_index_or, IfSome, IsNone, IsSome}
use Rattle.coap_msg.specs.declared.block.Block.{Block}
use Rattle.coap_msg.specs.declared.endpoint.Endpoint.{Endpoint}
use Rattle.coap_msg.specs.Grammar.{CoapMessage}
use Rattle.coap_msg.specs.Written.{IsReplied}
use Rattle.coap_client.specs.declared.state.State.{State}
use Rattle.coap_client.specs.declared.fault.ClientFault.{ClientFault}
use Rattle.coap_client.specs.declared.fault.ClientFault.TheVariants as client_fault
use Rattle.coap_client.specs.declared.news.News.{News}
use Rattle.coap_client.specs.declared.news.News.TheVariants as news
use Rattle.coap_client.specs.declared.news.Delivered.{Delivered}
use Rattle.coap_client.specs.declared.due.Due.TheVariants as due
use Rattle.coap_client.specs.Asking.{Asking}
use Rattle.coap_client.specs.Names.{is_recent}
use Rattle.coap_client.specs.Exchange.{at_moment, Asks, IsNew, IsRefused, Delivers, of_message, of_fault, ComesDue}
use Rattle.servient_outside.specs.declared.net.What.{What}
use Rattle.servient_outside.specs.declared.net.What.TheVariants as what
use Rattle.servient_outside.specs.declared.net.EventWithBytes.{EventWithBytes}
use Rattle.servient_outside.specs.declared.net.Act.TheVariants as act
use Rattle.servient_outside.specs.declared.out.Put.{Put}
use Rattle.servient_outside.specs.declared.out.Put.TheVariants as put
use Rattle.servient_outside.specs.Network.{Happening, did, NetSeen, NetShows}
use Rattle.servient_outside.specs.Out.{OutSeen, OutShows}
use Rattle.servient_outside.proofs.NetLaws.{net_shows_none}
use Rattle.wot_consumer.specs.declared.chosen.Chosen.{Chosen}
use Rattle.network_consumer.specs.declared.purpose.Purpose.{Purpose}
use Rattle.network_consumer.specs.declared.consumed.Consumed.{Consumed}
use Rattle.network_consumer.specs.declared.consumed.Consumed.TheVariants as ended
use Rattle.network_consumer.specs.declared.consumed.ConsumedOutcome.{ConsumedOutcome}
use Rattle.network_consumer.specs.declared.consumed.ConsumedOutcome.TheVariants as outcome
use Rattle.network_consumer.specs.declared.answers.Verdict.{Verdict}
use Rattle.network_consumer.specs.declared.answers.Verdict.TheVariants as verdict
use Rattle.network_consumer.specs.declared.blocks.Blocks.{Blocks}
use Rattle.network_consumer.specs.declared.block_transfer.NextStep.TheVariants as step
use Rattle.network_consumer.specs.declared.consumed.Status.TheVariants as status
use Rattle.network_consumer.specs.declared.http_waiting.HttpWaiting.{HttpWaiting}
use Rattle.network_consumer.specs.declared.coap_waiting.CoapWaiting.{CoapWaiting}
use Rattle.network_consumer.specs.declared.waiting.Waiting.{Waiting}
use Rattle.network_consumer.specs.declared.waiting.Waiting.TheVariants.{Http, Coap}
use Rattle.network_consumer.specs.Deeds.{happen, text_in, printed, Sight, sight, ShowsDeeds, Shows, ShowsHappenings, put_of, put_in}
use Rattle.network_consumer.specs.Answers.{AnswersAs, Closes, ReceivesAs}
use Rattle.network_consumer.specs.HttpWaiting.{Brings, bytes_came, at_deadline, after_event, HearsByHttp, has_come, has_not_come}
use Rattle.network_consumer.specs.Asking.{cancelling}
use Rattle.network_consumer.specs.CoapWaiting as coap
use Rattle.network_consumer.specs.Blockwise.{after_answer, is_joined, whole_payload}
use Rattle.network_consumer.specs.CoapWaiting.{client_now, asking_with, with_joined, replied, DeliversNews, delivers, IsSent, AsksFurther, is_further, is_no_further, FollowsAnswer, leads_on, is_whole, is_malformed, is_long, Cancels, AfterValue, goes_on_observing, is_last, FollowsValue, is_judged, Follows, Meets, is_datagram, is_stop, FallsDue, is_quiet, goes_again, is_over, HearsByCoap, ends_by_it, then_due}
use Rattle.network_consumer.specs.Waiting.{Hears, by_http, by_coap}
use Rattle.network_consumer.proofs.DeedLaws.{shows_none, shows_then, shows_net, shows_then_net, shows_text}

-- ## Printing

pub closes_printed : (n : NetSeen) (o q : OutSeen) (payload bytes : List ℕ) → bytes ≡ payload → OutShows o q put.Done (text_in (printed bytes)) → Shows (λ deeds. Closes (verdict.Payload payload) deeds ended.Done) (sight n o) (sight n q) put.Done
closes_printed n o q payload bytes same shows = record {
  deeds = printed payload;
  holds = (refl, inl refl);
  shows = shows_text n o q put.Done payload (subst (λ (x : List ℕ). OutShows o q put.Done (text_in (printed x))) same shows);
}

pub closes_unprinted : (n : NetSeen) (o q : OutSeen) (payload bytes : List ℕ) (p : Put) → bytes ≡ payload → OutShows o q p (text_in (printed bytes)) → (bytes ≡ [] → p ≡ put.Done) → p ≡ put.Failed
    → Shows (λ deeds. Closes (verdict.Payload payload) deeds ended.Unprinted) (sight n o) (sight n q) put.Failed
closes_unprinted n o q payload bytes p same shows empty failed = record {
  deeds = printed payload;
  holds = (refl, inr (λ none. (let whole = empty (same ∙ none) in absurd cc), refl));
  shows = shows_text n o q put.Failed payload (subst (λ (x : List ℕ). OutShows o q put.Failed (text_in (printed x))) same (subst (λ (x : Put). OutShows o q x (text_in (printed bytes))) failed shows));
}

pub closes_outcome : (a : Sight) (x : ConsumedOutcome) → Shows (λ deeds. Closes (verdict.Outcome x) deeds (ended.Other x)) a a put.Done
closes_outcome a x = record { deeds = []; holds = (refl, refl); shows = shows_none a }

pub closes_memory : (a : Sight) → Shows (λ deeds. Closes verdict.NoMemory deeds ended.NoMemory) a a put.Done
closes_memory a = record { deeds = []; holds = (refl, refl); shows = shows_none a }

-- ## HTTP

-- bytes came on its own connection
pub bytes_of_it : (o : Purpose) (c d count : ℕ) (received bytes : List ℕ) (w : What) (r : Option Verdict) → w ≡ what.Bytes d count → d ≡ c → bytes ≡ received → ReceivesAs o false bytes r → Brings o c received w r
bytes_of_it o c d count received bytes w r is mine same receives =
    bytes_came count (subst (λ (x : ℕ). w ≡ what.Bytes x count) mine is) (subst (λ (b : List ℕ). ReceivesAs o false b r) same receives)

pub http_ends : (o : Purpose) (w : HttpWaiting) (e : EventWithBytes) (v : Verdict) (c : Consumed) (a b : Sight) → Brings o w.connection (after_event w e).received e.event.what (Some v) → Shows (λ deeds. Closes v deeds c) a b (put_of c)
    → Shows (λ deeds. HearsByHttp o w e deeds (Some c)) a b (put_of c)
http_ends o w e v c a b brings closes = record { deeds = closes.deeds; holds = has_come v c brings closes.holds refl; shows = closes.shows }

quiet_deadline : (t : Bool) → put_in (cond t (Some ended.Silent) None) ≡ put.Done
quiet_deadline true = refl
quiet_deadline false = refl

pub http_goes_on : (o : Purpose) (w : HttpWaiting) (e : EventWithBytes) (r : Option Consumed) (a : Sight) → Brings o w.connection (after_event w e).received e.event.what None → r ≡ at_deadline (after_event w e).moment
    → Shows (λ deeds. HearsByHttp o w e deeds r) a a (put_in r)
http_goes_on o w e r a brings is = record {
  deeds = [];
  holds = has_not_come brings refl is;
  shows = subst (λ (p : Put). ShowsDeeds a a p []) (sym (ap put_in is ∙ quiet_deadline (nat_le 60000 (after_event w e).moment))) (shows_none a);
}

-- ## CoAP

-- a reply fits into the room in which it was written
reply_fits : (wanted : Option CoapMessage) (reply : Option ℕ) (old new : List ℕ) → IsReplied wanted reply old new → IfSome reply (λ n. n ≤ length new)
reply_fits None None old new is = tt
reply_fits (Some m) None old new is = tt
reply_fits None (Some n) old new is = absurd is
reply_fits (Some m) (Some n) old new is = is.within

pub delivered_fits : (s t : State) (from : Endpoint) (bytes : List ℕ) (told : Delivered) (old new : List ℕ) → Delivers s from bytes told old new t → IfSome told.reply (λ n. n ≤ length new)
delivered_fits s t from bytes told old new (of_message m spells is news after) = reply_fits _ told.reply old new is
delivered_fits s t from bytes told old new (of_fault f fault is news after) = reply_fits _ told.reply old new is

pub news_come : (w v : CoapWaiting) (from : Endpoint) (bytes : List ℕ) (told : Delivered) (old new : List ℕ) (s : State) (n m : NetSeen) → Delivers (client_now w) from bytes told old new s → v ≡ record w { client = s } → NetShows n m (replied from told.reply new)
    → ShowsHappenings (λ hs. DeliversNews w from bytes hs told.news v) n m
news_come w v from bytes told old new s n m delivered is shows = record { happened = replied from told.reply new; holds = delivers told old new s delivered refl refl is; shows = shows }

put_awaiting : (left : ℕ) (r : Consumed) → coap.awaits_more left r ≡ true → put_of r ≡ put.Done
put_awaiting left ended.Done more = refl
put_awaiting left (ended.Other x) more = refl
put_awaiting left ended.Silent more = refl
put_awaiting left ended.Failed more = refl
put_awaiting left ended.Unprinted more = absurd cc
put_awaiting left ended.Spent more = refl
put_awaiting left ended.NoMemory more = refl

put_after : (c : Chosen) (w : CoapWaiting) (by_it : Consumed) (hs : List Happening) (r : Option Consumed) (v : CoapWaiting) → AfterValue c w by_it hs r v → put_of by_it ≡ put_in r
put_after c w by_it hs r v (goes_on_observing more none ends is) = put_awaiting w.left by_it more ∙ ap put_in (sym ends)
put_after c w by_it hs r v (is_last last cancels ends) = ap put_in (sym ends)

pub value_follows : (o : Purpose) (c : Chosen) (w v : CoapWaiting) (payload : List ℕ) (said : Verdict) (by_it : Consumed) (r : Option Consumed) (a : Sight) (m k : NetSeen) (q : OutSeen) → AnswersAs o (status.Coap 69) payload said
    → Shows (λ deeds. Closes said deeds by_it) a (sight m q) (put_of by_it) → ShowsHappenings (λ hs. AfterValue c w by_it hs r v) m k → Shows (λ deeds. FollowsValue o c w payload deeds r v) a (sight k q) (put_in r)
value_follows o c w v payload said by_it r a m k q says closes after = record {
  deeds = closes.deeds ++ happen after.happened;
  holds = is_judged said by_it closes.deeds after.happened says closes.holds after.holds refl;
  shows = subst (λ (p : Put). ShowsDeeds a (sight k q) p (closes.deeds ++ happen after.happened)) (put_after c w by_it after.happened r v after.holds) (shows_then_net a m k q (put_of by_it) closes.deeds after.happened closes.shows after.shows);
}

-- ## What follows an answer

put_further : (c : Chosen) (w v : CoapWaiting) (b : Blocks) (hs : List Happening) (r : Option Consumed) → AsksFurther c w b hs r v → put.Done ≡ put_in r
put_further c w v b hs r (is_further sent goes_on) = ap put_in (sym goes_on)
put_further c w v b hs r (is_no_further refused none ends) = ap put_in (sym ends)

-- the step and what came back, as one
as_one : {A B : Type 0} (x : A × B) (a : A) (b : B) → a ≡ x.0 → b ≡ x.1 → x ≡ (a, b)
as_one x a b e f = λ i. (sym e i, sym f i)

pub answer_leads_on : (o : Purpose) (c : Chosen) (w u v : CoapWaiting) (code : ℕ) (block2 : Option Block) (payload : List ℕ) (joins : Bool) (b : Blocks) (r : Option Consumed) (n m : NetSeen) (q : OutSeen) → joins ≡ is_joined c
    → step.Ask b ≡ (after_answer joins w.transfer code block2 payload).0 → u ≡ with_joined w (after_answer joins w.transfer code block2 payload).1
    → ShowsHappenings (λ hs. AsksFurther c u b hs r v) n m → Shows (λ deeds. FollowsAnswer o c w code block2 payload deeds r v) (sight n q) (sight m q) (put_in r)
answer_leads_on o c w u v code block2 payload joins b r n m q joined says takes asks =
    let P : Bool → Type 0 = λ j. (after_answer j w.transfer code block2 payload ≡ (step.Ask b, (after_answer joins w.transfer code block2 payload).1)) in
    record {
      deeds = happen asks.happened;
      holds = leads_on b (after_answer joins w.transfer code block2 payload).1 asks.happened (subst P joined (as_one _ (step.Ask b) (after_answer joins w.transfer code block2 payload).1 says refl))
          (subst (λ (x : CoapWaiting). AsksFurther c x b asks.happened r v) takes asks.holds) refl;
      shows = subst (λ (p : Put). ShowsDeeds (sight n q) (sight m q) p (happen asks.happened)) (put_further c u v b asks.happened r asks.holds) (shows_net n m q asks.happened asks.shows);
    }

pub answer_is_whole : (o : Purpose) (c : Chosen) (w v : CoapWaiting) (code : ℕ) (block2 : Option Block) (payload whole : List ℕ) (joins : Bool) (said : Verdict) (by_it : Consumed) (a b : Sight) → joins ≡ is_joined c
    → step.Judge ≡ (after_answer joins w.transfer code block2 payload).0 → whole ≡ whole_payload joins (with_joined w (after_answer joins w.transfer code block2 payload).1).transfer payload
    → AnswersAs o (status.Coap code) whole said → Shows (λ deeds. Closes said deeds by_it) a b (put_of by_it)
    → Shows (λ deeds. FollowsAnswer o c w code block2 payload deeds (Some by_it) v) a b (put_of by_it)
answer_is_whole o c w v code block2 payload whole joins said by_it a b joined says is answers closes =
    let P : Bool → Type 0 = λ j. (after_answer j w.transfer code block2 payload ≡ (step.Judge, (after_answer joins w.transfer code block2 payload).1)) in
    let Q : Bool → Type 0 = λ j. AnswersAs o (status.Coap code) (whole_payload j (with_joined w (after_answer joins w.transfer code block2 payload).1).transfer payload) said in
    record {
      deeds = closes.deeds;
      holds = is_whole (after_answer joins w.transfer code block2 payload).1 said by_it (subst P joined (as_one _ step.Judge (after_answer joins w.transfer code block2 payload).1 says refl))
          (subst Q joined (subst (λ (x : List ℕ). AnswersAs o (status.Coap code) x said) is answers)) closes.holds refl;
      shows = closes.shows;
    }

pub answer_is_malformed : (o : Purpose) (c : Chosen) (w v : CoapWaiting) (code : ℕ) (block2 : Option Block) (payload : List ℕ) (joins : Bool) (a : Sight) → joins ≡ is_joined c
    → step.Malformed ≡ (after_answer joins w.transfer code block2 payload).0 → Shows (λ deeds. FollowsAnswer o c w code block2 payload deeds (Some (ended.Other outcome.Malformed)) v) a a put.Done
answer_is_malformed o c w v code block2 payload joins a joined says =
    let P : Bool → Type 0 = λ j. (after_answer j w.transfer code block2 payload ≡ (step.Malformed, (after_answer joins w.transfer code block2 payload).1)) in
    record {
      deeds = [];
      holds = is_malformed (after_answer joins w.transfer code block2 payload).1 (subst P joined (as_one _ step.Malformed (after_answer joins w.transfer code block2 payload).1 says refl)) refl refl;
      shows = shows_none a;
    }

pub answer_is_long : (o : Purpose) (c : Chosen) (w v : CoapWaiting) (code : ℕ) (block2 : Option Block) (payload : List ℕ) (joins : Bool) (a : Sight) → joins ≡ is_joined c
    → step.Long ≡ (after_answer joins w.transfer code block2 payload).0 → Shows (λ deeds. FollowsAnswer o c w code block2 payload deeds (Some (ended.Other outcome.Long)) v) a a put.Done
answer_is_long o c w v code block2 payload joins a joined says =
    let P : Bool → Type 0 = λ j. (after_answer j w.transfer code block2 payload ≡ (step.Long, (after_answer joins w.transfer code block2 payload).1)) in
    record {
      deeds = [];
      holds = is_long (after_answer joins w.transfer code block2 payload).1 (subst P joined (as_one _ step.Long (after_answer joins w.transfer code block2 payload).1 says refl)) refl refl;
      shows = shows_none a;
    }

-- ## What follows other news

pub nothing_follows : (o : Purpose) (c : Chosen) (w : CoapWaiting) (n x : News) (a : Sight) → n ≡ x → Follows o c w x [] None w → Shows (λ deeds. Follows o c w n deeds None w) a a put.Done
nothing_follows o c w n x a is says = record { deeds = []; holds = subst (λ (y : News). Follows o c w y [] None w) (sym is) says; shows = shows_none a }

pub news_follow : (o : Purpose) (c : Chosen) (w v : CoapWaiting) (n x : News) (r : Option Consumed) (a b : Sight) (p : Put) → n ≡ x → Shows (λ deeds. Follows o c w x deeds r v) a b p → Shows (λ deeds. Follows o c w n deeds r v) a b p
news_follow o c w v n x r a b p is follows = record {
  deeds = follows.deeds;
  holds = subst (λ (y : News). Follows o c w y follows.deeds r v) (sym is) follows.holds;
  shows = follows.shows;
}

pub reset_follows : (o : Purpose) (c : Chosen) (w v : CoapWaiting) (n : News) (a : Sight) → n ≡ news.Reset → Shows (λ deeds. Follows o c w n deeds (Some (ended.Other outcome.Reset)) v) a a put.Done
reset_follows o c w v n a is = record {
  deeds = [];
  holds = subst (λ (x : News). Follows o c w x [] (Some (ended.Other outcome.Reset)) v) (sym is) (refl, refl);
  shows = shows_none a;
}

-- ## The answers' ends

pub cancel_said : (c : Chosen) (w : CoapWaiting) (size : ℕ) (old new sent : List ℕ) (s : State) (n m : NetSeen) → Asks (client_now w) w.peer (cancelling c) size old new s → sent ≡ take size new → NetShows n m (did (act.Datagram w.peer sent) ∷ [])
    → ShowsHappenings (λ hs. Cancels c w hs) n m
cancel_said c w size old new sent s n m asks is shows = record { happened = did (act.Datagram w.peer sent) ∷ []; holds = coap.is_said size old new s asks (ap (λ (x : List ℕ). did (act.Datagram w.peer x) ∷ []) is); shows = shows }

pub cancel_left_out : (c : Chosen) (w : CoapWaiting) (f : ClientFault) (n : NetSeen) → IsRefused (client_now w) w.peer (cancelling c) f → ShowsHappenings (λ hs. Cancels c w hs) n n
cancel_left_out c w f n refused = record { happened = []; holds = coap.does_not_fit f refused refl; shows = net_shows_none n }

pub value_is_last : (c : Chosen) (w v : CoapWaiting) (by_it : Consumed) (n m : NetSeen) → coap.awaits_more w.left by_it ≡ false → ShowsHappenings (λ hs. Cancels c w hs) n m → ShowsHappenings (λ hs. AfterValue c w by_it hs (Some by_it) v) n m
value_is_last c w v by_it n m last cancels = record { happened = cancels.happened; holds = is_last last cancels.holds refl; shows = cancels.shows }

-- ## The request

pub request_sent : (c : Chosen) (w v : CoapWaiting) (b : Blocks) (a : Asking) (size : ℕ) (old new sent : List ℕ) (s : State) (n m : NetSeen) → a ≡ asking_with c w b → Asks (client_now w) w.peer a size old new s → sent ≡ take size new
    → v ≡ record w { client = s; transfer = record w.transfer { asked = b } } → NetShows n m (did (act.Datagram w.peer sent) ∷ []) → ShowsHappenings (λ hs. IsSent c w b hs v) n m
request_sent c w v b a size old new sent s n m at_ask asks is same shows = record {
  happened = did (act.Datagram w.peer sent) ∷ [];
  holds = record {
    size = size;
    old = old;
    new = new;
    client = s;
    asks = subst (λ (x : Asking). Asks (client_now w) w.peer x size old new s) at_ask asks;
    happens = ap (λ (x : List ℕ). did (act.Datagram w.peer x) ∷ []) is;
    waits = same;
  };
  shows = shows;
}

-- a client that did nothing yet refuses what is too long, and nothing else
missing : {A : Type 0} (o : Option A) → o ≡ None → IsSome o → ⊥
missing o none some = cc

pub is_no_room : (s : State) (moment : ℕ) (peer : Endpoint) (a : Asking) (f : ClientFault) → IsNew 0 s → IsRefused (at_moment moment s) peer a f → IsRefused (at_moment moment s) peer a client_fault.NoRoom
is_no_room s moment peer a client_fault.Busy new refused = absurd (missing s.outstanding new.outstanding refused)
is_no_room s moment peer a client_fault.IdsUsed new refused =
    let used : is_recent moment (slice_index_or s.uses 0 None) ≡ true = refused.1 0 (omega arith) in
    let free : is_recent moment (slice_index_or s.uses 0 None) ≡ false = ap (is_recent moment) (new.unused 0) in absurd cc
is_no_room s moment peer a client_fault.NoRoom new refused = refused

pub request_refused : (c : Chosen) (w : CoapWaiting) (b : Blocks) (a : Asking) (f : ClientFault) (n : NetSeen) → a ≡ asking_with c w b → IsRefused (client_now w) w.peer a f
    → ShowsHappenings (λ hs. IsRefused (client_now w) w.peer (asking_with c w b) f × (hs ≡ [])) n n
request_refused c w b a f n at_ask refused = record {
  happened = [];
  holds = (subst (λ (x : Asking). IsRefused (client_now w) w.peer x f) at_ask refused, refl);
  shows = net_shows_none n;
}

-- a further request is sent, or refused
pub asked_further : (c : Chosen) (w v : CoapWaiting) (b : Blocks) (n m : NetSeen) → ShowsHappenings (λ hs. IsSent c w b hs v) n m → ShowsHappenings (λ hs. AsksFurther c w b hs None v) n m
asked_further c w v b n m sends = record { happened = sends.happened; holds = is_further sends.holds refl; shows = sends.shows }

pub asked_no_further : (c : Chosen) (w v : CoapWaiting) (b : Blocks) (f : ClientFault) (n m : NetSeen) → f ≡ client_fault.NoRoom → ShowsHappenings (λ hs. IsRefused (client_now w) w.peer (asking_with c w b) f × (hs ≡ [])) n m
    → ShowsHappenings (λ hs. AsksFurther c w b hs (Some (ended.Other outcome.Long)) v) n m
asked_no_further c w v b f n m is refuses = record {
  happened = refuses.happened;
  holds = is_no_further (subst (λ (x : ClientFault). IsRefused (client_now w) w.peer (asking_with c w b) x) is refuses.holds.0) refuses.holds.1 refl;
  shows = refuses.shows;
}

-- ## What falls due

pub quiet_due : (w v : CoapWaiting) (old new : List ℕ) (s : State) (n : NetSeen) → ComesDue (client_now w) due.Nothing old new s → v ≡ record w { client = s } → ShowsHappenings (λ hs. FallsDue w hs None v) n n
quiet_due w v old new s n comes is = record { happened = []; holds = is_quiet old new s comes refl refl is; shows = net_shows_none n }

pub sent_again : (w v : CoapWaiting) (size : ℕ) (old new sent : List ℕ) (s : State) (n m : NetSeen) → ComesDue (client_now w) (due.Send size) old new s → sent ≡ take size new → v ≡ record w { client = s } → NetShows n m (did (act.Datagram w.peer sent) ∷ [])
    → ShowsHappenings (λ hs. FallsDue w hs None v) n m
sent_again w v size old new sent s n m comes is same shows = record { happened = did (act.Datagram w.peer sent) ∷ []; holds = goes_again size old new s comes (ap (λ (x : List ℕ). did (act.Datagram w.peer x) ∷ []) is) refl same; shows = shows }

pub over_due : (w v : CoapWaiting) (old new : List ℕ) (s : State) (n : NetSeen) → ComesDue (client_now w) due.TimedOut old new s → ShowsHappenings (λ hs. FallsDue w hs (Some ended.Silent) v) n n
over_due w v old new s n comes = record { happened = []; holds = is_over old new s comes refl refl; shows = net_shows_none n }

-- ## An event

pub datagram_met : (o : Purpose) (c : Chosen) (w u v : CoapWaiting) (e : EventWithBytes) (from : Endpoint) (count : ℕ) (news : News) (r : Option Consumed) (n m : NetSeen) (q : OutSeen) (b : Sight) → e.event.what ≡ what.Datagram from count
    → ShowsHappenings (λ hs. DeliversNews w from e.bytes hs news u) n m → Shows (λ deeds. Follows o c u news deeds r v) (sight m q) b (put_in r) → Shows (λ deeds. Meets o c w e deeds r v) (sight n q) b (put_in r)
datagram_met o c w u v e from count news r n m q b is comes follows = record {
  deeds = happen comes.happened ++ follows.deeds;
  holds = is_datagram from count comes.happened news u follows.deeds is comes.holds follows.holds refl;
  shows = shows_then (sight n q) (sight m q) b (put_in r) (happen comes.happened) follows.deeds (shows_net n m q comes.happened comes.shows) follows.shows;
}

pub passed_over : (w : What) → ((from : Endpoint) (count : ℕ) → ¬ (w ≡ what.Datagram from count)) → ¬ (w ≡ what.Stop) → coap.is_passed_over w ≡ true
passed_over (what.Opened d) no_datagram no_stop = refl
passed_over (what.Bytes d count) no_datagram no_stop = refl
passed_over (what.Ended d) no_datagram no_stop = refl
passed_over (what.Datagram from count) no_datagram no_stop = absurd (no_datagram from count refl)
passed_over what.Tick no_datagram no_stop = refl
passed_over what.Stop no_datagram no_stop = absurd (no_stop refl)

pub stop_met : (o : Purpose) (c : Chosen) (w v : CoapWaiting) (e : EventWithBytes) (a : Sight) → e.event.what ≡ what.Stop → Shows (λ deeds. Meets o c w e deeds (Some (ended.Other outcome.Stopped)) v) a a put.Done
stop_met o c w v e a is = record { deeds = []; holds = is_stop is refl refl; shows = shows_none a }

pub another_met : (o : Purpose) (c : Chosen) (w : CoapWaiting) (e : EventWithBytes) (a : Sight) → coap.is_passed_over e.event.what ≡ true → Shows (λ deeds. Meets o c w e deeds None w) a a put.Done
another_met o c w e a is = record { deeds = []; holds = coap.is_another is refl refl refl; shows = shows_none a }

put_due : (w v : CoapWaiting) (hs : List Happening) (r : Option Consumed) → FallsDue w hs r v → put.Done ≡ put_in r
put_due w v hs r (is_quiet old new s comes none ends is) = ap put_in (sym ends)
put_due w v hs r (goes_again n old new s comes sent ends is) = ap put_in (sym ends)
put_due w v hs r (is_over old new s comes none ends) = ap put_in (sym ends)

pub coap_ends : (o : Purpose) (c : Chosen) (w u v : CoapWaiting) (e : EventWithBytes) (by_it : Consumed) (a b : Sight) → u ≡ record w { moment = max w.moment e.event.moment }
    → Shows (λ deeds. Meets o c u e deeds (Some by_it) v) a b (put_of by_it) → Shows (λ deeds. HearsByCoap o c w e deeds (Some by_it) v) a b (put_of by_it)
coap_ends o c w u v e by_it a b is meets = record {
  deeds = meets.deeds;
  holds = ends_by_it by_it (subst (λ (x : CoapWaiting). Meets o c x e meets.deeds (Some by_it) v) is meets.holds) refl;
  shows = meets.shows;
}

pub coap_goes_on : (o : Purpose) (c : Chosen) (w u t v : CoapWaiting) (e : EventWithBytes) (r : Option Consumed) (a : Sight) (m k : NetSeen) (q : OutSeen) → u ≡ record w { moment = max w.moment e.event.moment }
    → Shows (λ deeds. Meets o c u e deeds None t) a (sight m q) put.Done → ShowsHappenings (λ hs. FallsDue t hs r v) m k → Shows (λ deeds. HearsByCoap o c w e deeds r v) a (sight k q) (put_in r)
coap_goes_on o c w u t v e r a m k q is meets falls = record {
  deeds = meets.deeds ++ happen falls.happened;
  holds = then_due meets.deeds t falls.happened (subst (λ (x : CoapWaiting). Meets o c x e meets.deeds None t) is meets.holds) falls.holds refl;
  shows = subst (λ (p : Put). ShowsDeeds a (sight k q) p (meets.deeds ++ happen falls.happened)) (put_due t v falls.happened r falls.holds) (shows_then_net a m k q put.Done meets.deeds falls.happened meets.shows falls.shows);
}

-- ## Either

pub http_hears : (o : Purpose) (c : Chosen) (w v : Waiting) (x y : HttpWaiting) (e : EventWithBytes) (r : Option Consumed) (a b : Sight) → w ≡ Http x → v ≡ Http y → Shows (λ deeds. HearsByHttp o x e deeds r) a b (put_in r) → (IsNone r → y ≡ after_event x e)
    → Shows (λ deeds. Hears o c w e deeds r v) a b (put_in r)
http_hears o c w v x y e r a b is becomes hears waits = record {
  deeds = hears.deeds;
  holds = by_http x is hears.holds (λ none. becomes ∙ ap (λ (z : HttpWaiting). Http z) (waits (subst (λ (t : Option Consumed). IsNone t) (sym none) refl)));
  shows = hears.shows;
}

pub coap_hears : (o : Purpose) (c : Chosen) (w v : Waiting) (x y : CoapWaiting) (e : EventWithBytes) (r : Option Consumed) (a b : Sight) → w ≡ Coap x → v ≡ Coap y → Shows (λ deeds. HearsByCoap o c x e deeds r y) a b (put_in r)
    → Shows (λ deeds. Hears o c w e deeds r v) a b (put_in r)
coap_hears o c w v x y e r a b is becomes hears = record { deeds = hears.deeds; holds = by_coap x y is hears.holds becomes; shows = hears.shows }
