-- The requests of a wait stay in order: what each event leaves, and why one further request may be sent.
use Rattle.std.proofs.Common.{◌≡◌, ◌≤◌, ◌<◌, ◌+◌, ◌*◌, ◌/◌, ◌%◌, ◌^◌, ℕ, zero, suc, Bool, true, false, List, [], ◌∷◌, ◌++◌, length, Option, Some, None, refl, sym, ap, ap₂, subst, ◌∙◌, arith, inl, inr}
use Rattle.std.specs.Prelude.{◌==◌, ◌&&◌, ◌||◌, not, nat_lt, IfSome, Result, Ok, Err, IfErr, if◌then◌else◌}
use Rattle.std.proofs.lemmas.Bool.Decides.{nat_tests}
use Rattle.std.proofs.lemmas.List.{length-append}
use Rattle.std.proofs.Math.Pow.{pow_mono}
use Rattle.coap_msg.specs.declared.block.Block.{Block}
use Rattle.coap_msg.specs.declared.endpoint.Endpoint.{Endpoint}
use Rattle.coap_msg.specs.Blocks.{block_size, block_start}
use Rattle.coap_client.specs.declared.state.State.{State}
use Rattle.coap_client.specs.declared.fault.ClientFault.{ClientFault}
use Rattle.coap_client.specs.declared.fault.ClientFault.TheVariants.{NoRoom}
use Rattle.coap_client.specs.declared.news.News.{News}
use Rattle.coap_client.specs.declared.news.Delivered.{Delivered}
use Rattle.coap_client.specs.declared.due.Due.{Due}
use Rattle.coap_client.specs.declared.transfer.Taken.{Taken}
use Rattle.coap_client.specs.declared.transfer.Taken.TheVariants as answer
use Rattle.coap_client.specs.Asking.{Asking}
use Rattle.coap_client.specs.Exchange.{at_moment, is_registration, IsRefused, Asks, Delivers, ComesDue}
use Rattle.coap_client.specs.Transfers.{longest_transfer, is_broken, answer_to, after_response}
use Rattle.wot_consumer.specs.declared.chosen.Chosen.{Chosen}
use Rattle.network_consumer.specs.declared.purpose.Purpose.{Purpose}
use Rattle.network_consumer.specs.declared.blocks.Blocks.{Blocks}
use Rattle.network_consumer.specs.declared.block_transfer.NextStep.{NextStep}
use Rattle.network_consumer.specs.declared.block_transfer.NextStep.TheVariants as step
use Rattle.network_consumer.specs.declared.coap_waiting.CoapWaiting.{CoapWaiting}
use Rattle.network_consumer.specs.Asking.{blocks, input_block, first_block, most_input_blocks, input_size, observe_for}
use Rattle.network_consumer.specs.Blockwise.{Transferred, nothing_joined, after_block, after_continue, after_code, after_joining, taken_so, after_one, after_end, after_either, after_answer}
use Rattle.network_consumer.specs.CoapWaiting.{client_now, asking_with}
use Rattle.network_consumer.specs.Consuming.{IsFresh}
use Rattle.network_consumer.specs.Order.{IsOrderly, number_of, most_before, AreFew, IsInOrder, MayBeSent, IsFreeAfter}
use Rattle.network_consumer.proofs.OrderLaws.{delivered_orderly, delivered_ids, delivered_free, due_orderly, due_ids, refused_for_room, asked_orderly, new_orderly}

-- the moment says nothing of it
at_any_moment : (observes : Bool) (now : ℕ) (s : State) → IsOrderly observes s → IsOrderly observes (at_moment now s)
at_any_moment observes now s o = record { one_token = o.one_token; unobserved = o.unobserved; ids = o.ids; unused = o.unused }

pub moved_in_order : (c : Chosen) (w : CoapWaiting) (now : ℕ) → IsInOrder c w → IsInOrder c (record w { moment = now })
moved_in_order c w now o = record { client = o.client; requests = o.requests; few = o.few }

pub left_in_order : (c : Chosen) (w : CoapWaiting) (left : ℕ) → IsInOrder c w → IsInOrder c (record w { left = left })
left_in_order c w left o = record { client = o.client; requests = o.requests; few = o.few }

-- ---- datagrams, and what falls due

pub delivered_in_order : (c : Chosen) (w : CoapWaiting) (from : Endpoint) (bytes : List ℕ) (told : Delivered) (old new : List ℕ) (s : State) → Delivers (client_now w) from bytes told old new s → IsInOrder c w
    → IsInOrder c (record w { client = s })
delivered_in_order c w from bytes told old new s delivers o = record {
  client = delivered_orderly c.observe (client_now w) from bytes told old new s (at_any_moment c.observe w.moment w.client o.client) delivers;
  requests = subst (λ (n : ℕ). n ≤ most_before w.transfer.asked w.transfer.joined + 1) (sym (delivered_ids (client_now w) from bytes told old new s delivers)) o.requests;
  few = o.few;
}

pub delivered_free_of : (c : Chosen) (w : CoapWaiting) (from : Endpoint) (bytes : List ℕ) (told : Delivered) (old new : List ℕ) (s : State) → Delivers (client_now w) from bytes told old new s → IsInOrder c w
    → IsFreeAfter told.news s
delivered_free_of c w from bytes told old new s delivers o =
    delivered_free c.observe (client_now w) from bytes told old new s (at_any_moment c.observe w.moment w.client o.client) delivers

pub due_in_order : (c : Chosen) (w : CoapWaiting) (d : Due) (old new : List ℕ) (s : State) → ComesDue (client_now w) d old new s → IsInOrder c w → IsInOrder c (record w { client = s })
due_in_order c w d old new s comes o = record {
  client = due_orderly c.observe (client_now w) d old new s (at_any_moment c.observe w.moment w.client o.client) comes;
  requests = subst (λ (n : ℕ). n ≤ most_before w.transfer.asked w.transfer.joined + 1) (sym (due_ids (client_now w) d old new s comes)) o.requests;
  few = o.few;
}

-- ---- a request

registers_so : (observes : Bool) → is_registration (observe_for observes) ≡ observes
registers_so true = refl
registers_so false = refl

few_ids : (c : Chosen) (w : CoapWaiting) (b : Blocks) → MayBeSent c w b → w.client.next_id + 1 < 65536
few_ids c w b m = omega (arith, m.requests, m.few.input, m.few.answer)

pub sent_in_order : (c : Chosen) (w v : CoapWaiting) (b : Blocks) (a : Asking) (n : ℕ) (old new : List ℕ) (s : State) → MayBeSent c w b → a ≡ asking_with c w b → Asks (client_now w) w.peer a n old new s
    → v ≡ record w { client = s; transfer = record w.transfer { asked = b } } → IsInOrder c v
sent_in_order c w v b a n old new s m is asks same =
    let sent = asked_orderly c.observe (client_now w) w.peer (asking_with c w b) n old new s (at_any_moment c.observe w.moment w.client m.client) (few_ids c w b m) (registers_so c.observe)
    (subst (λ (x : Asking). Asks (client_now w) w.peer x n old new s) is asks) in
    subst (λ (x : CoapWaiting). IsInOrder c x) (sym same) (record {
      client = sent.0;
      requests = subst (λ (k : ℕ). k ≤ most_before b w.transfer.joined + 1) (sym sent.1) (omega (arith, m.requests));
      few = m.few;
    })

pub refused_alone : (c : Chosen) (w : CoapWaiting) (b : Blocks) (a : Asking) (f : ClientFault) → MayBeSent c w b → a ≡ asking_with c w b → IsRefused (client_now w) w.peer a f → f ≡ NoRoom
refused_alone c w b a f m is refused =
    refused_for_room c.observe (client_now w) w.peer a f (at_any_moment c.observe w.moment w.client m.client) m.free (let below = few_ids c w b m in omega (arith, below)) refused

-- the first
no_number : (size : ℕ) → number_of (first_block size) ≡ 0
no_number size = by (nat_lt 1024 size)
  where
    by : (t : Bool) → number_of (if t then Some (input_block size 0) else None) ≡ 0
    by true = refl
    by false = refl

pub first_may_be_sent : (c : Chosen) (p : Purpose) (input : Option (List ℕ)) (peer : Endpoint) (w : CoapWaiting) (b : Blocks) → IsFresh p input peer w → b ≡ w.transfer.asked → MayBeSent c w b
first_may_be_sent c p input peer w b fresh is =
    let asked : b ≡ (nothing_joined input).asked = is ∙ ap (λ (t : Transferred). t.asked) fresh.transfer in
    let joined : w.transfer.joined ≡ [] = ap (λ (t : Transferred). t.joined) fresh.transfer in
    let number : number_of b.block1 ≡ 0 = ap (λ (x : Blocks). number_of x.block1) asked ∙ no_number (input_size input) in
    record {
      client = new_orderly c.observe 0 w.client fresh.new;
      free = fresh.new.outstanding;
      requests = let none = fresh.new.next_id in omega (arith, none);
      few = record {
        input = omega (arith, number);
        answer = let nothing : length w.transfer.joined ≡ 0 = ap (λ (l : List ℕ). length l) joined in omega (arith, nothing);
      };
    }

-- ---- after an answer

-- one more block is asked for, of few
record AsksOne (asked : Blocks) (joined : List ℕ) (b : Blocks) (now : List ℕ) : Type 0 where
  more : most_before asked joined + 1 ≤ most_before b now
  few : AreFew b now

same_ask : (a b : Blocks) → step.Ask a ≡ step.Ask b → a ≡ b
same_ask a b same = cc

block_of_input : (size : ℕ) (x : Block) (asked b : Blocks) (joined : List ℕ) → asked.block1 ≡ Some x → AreFew asked joined → after_block size x ≡ step.Ask b → AsksOne asked joined b joined
block_of_input size x asked b joined is few said = by x.more (nat_lt (x.number + 1) most_input_blocks) refl said
  where
    by : (more below : Bool) → nat_lt (x.number + 1) most_input_blocks ≡ below
        → (if not more then step.Malformed else if below then step.Ask (blocks (Some (input_block size (x.number + 1))) None) else step.Long) ≡ step.Ask b → AsksOne asked joined b joined
    by true true low said =
        let same : blocks (Some (input_block size (x.number + 1))) None ≡ b = same_ask (blocks (Some (input_block size (x.number + 1))) None) b said in
        let number : number_of asked.block1 ≡ x.number = ap number_of is in
        subst (λ (y : Blocks). AsksOne asked joined y joined) same (record {
          more = omega (arith, number);
          few = record { input = grind (arith, nat_tests); answer = few.answer };
        })
    by true false low said = absurd cc
    by false below low said = absurd cc

after_input : (t : Transferred) (code : ℕ) (b : Blocks) → AreFew t.asked t.joined → after_code t code ≡ Some (step.Ask b) → AsksOne t.asked t.joined b t.joined
after_input t code b few said = by (code == 95) said
  where
    within : (block1 block2 : Option Block) → t.asked.block1 ≡ block1 → after_continue (input_size t.input) block1 block2 ≡ Some (step.Ask b) → AsksOne t.asked t.joined b t.joined
    within (Some x) None is said = block_of_input (input_size t.input) x t.asked b t.joined is few (let e : Some (after_block (input_size t.input) x) ≡ Some (step.Ask b) = said in cc)
    within (Some x) (Some y) is said = absurd cc
    within None block2 is said = absurd cc

    by : (is : Bool) → (if is then after_continue (input_size t.input) t.asked.block1 t.asked.block2 else None) ≡ Some (step.Ask b) → AsksOne t.asked t.joined b t.joined
    by true said = within t.asked.block1 t.asked.block2 refl said
    by false said = absurd cc

-- the size of a block
sixteen : (n : ℕ) → 16 ≤ 2 ^ (n + 4)
sixteen n = let least : 2 ^ 4 ≤ 2 ^ (n + 4) = pow_mono {i = 4} {j = n + 4} (omega arith) in omega (arith, least)

-- this comes to asking with these blocks, where so much of the answer is joined
abbrev AsksNext : NextStep × List ℕ → Blocks → List ℕ → Type 0
AsksNext x b now = (x.0 ≡ step.Ask b) × (x.1 ≡ now)

is_whole_size : (more : Bool) (length_is size : ℕ) (other : Bool) → (other || (more && not (length_is == size))) ≡ false → more ≡ true → length_is ≡ size
is_whole_size true length_is size false none is = grind (arith, nat_tests)
is_whole_size true length_is size true none is = absurd cc
is_whole_size false length_is size other none is = absurd cc

-- a block that was joined, of an answer that goes on
after_block_of_answer : (asked b : Blocks) (block2 : Option Block) (payload joined now : List ℕ) → AreFew asked joined → AsksNext (taken_so asked (after_response block2 payload joined)) b now → AsksOne asked joined b now
after_block_of_answer asked b block2 payload joined now few said = by (is_broken block2 payload (length joined)) (nat_lt longest_transfer (length joined + length payload)) refl refl said
  where
    goes_on : (x : Block) (more : Bool) → is_broken (Some x) payload (length joined) ≡ false → nat_lt longest_transfer (length joined + length payload) ≡ false → x.more ≡ more
        → (after_joining asked (if more then answer.More (record { number = (length joined + length payload) / block_size x; more = false; szx = x.szx }) else answer.Complete) ≡ step.Ask b) → joined ++ payload ≡ now
        → AsksOne asked joined b now
    goes_on x true whole short is said all =
        let same = same_ask (record asked { block2 = Some (record { number = (length joined + length payload) / block_size x; more = false; szx = x.szx }) }) b said in
        let size : length payload ≡ 2 ^ (x.szx + 4) = is_whole_size x.more (length payload) (block_size x) (not (block_start x == length joined)) whole is in
        let least : 16 ≤ 2 ^ (x.szx + 4) = sixteen x.szx in
        let sum = length-append joined payload in
        subst (λ (l : List ℕ). AsksOne asked joined b l) all (subst (λ (y : Blocks). AsksOne asked joined y (joined ++ payload)) same (record {
          more = omega (arith, size, least, sum);
          few = record { input = few.input; answer = grind (arith, nat_tests, sum, short) };
        }))
    goes_on x false whole short is said all = absurd (let e : step.Judge ≡ step.Ask b = said in cc)

    joined_one : (block2 : Option Block) → is_broken block2 payload (length joined) ≡ false → nat_lt longest_transfer (length joined + length payload) ≡ false
        → after_joining asked (answer_to block2 (length joined + length payload)) ≡ step.Ask b → joined ++ payload ≡ now → AsksOne asked joined b now
    joined_one None whole short said all = absurd (let e : step.Judge ≡ step.Ask b = said in cc)
    joined_one (Some x) whole short said all = goes_on x x.more whole short refl said all

    by : (broken long : Bool) → is_broken block2 payload (length joined) ≡ broken → nat_lt longest_transfer (length joined + length payload) ≡ long
        → AsksNext (taken_so asked (if broken then (answer.Broken, joined) else if long then (answer.TooLong, joined) else (answer_to block2 (length joined + length payload), joined ++ payload))) b now
        → AsksOne asked joined b now
    by true long is short said = absurd (let e : step.Malformed ≡ step.Ask b = said.0 in cc)
    by false true is short said = absurd (let e : step.Long ≡ step.Ask b = said.0 in cc)
    by false false is short said = joined_one block2 is short said.0 said.1

after_last : (joins : Bool) (t : Transferred) (code : ℕ) (block2 : Option Block) (payload now : List ℕ) (b : Blocks) → AreFew t.asked t.joined → AsksNext (after_end joins t code block2 payload) b now
    → AsksOne t.asked t.joined b now
after_last joins t code block2 payload now b few said = by (code / 32 == 2) joins said
  where
    one : (block2 : Option Block) → after_one block2 ≡ step.Ask b → ⊥
    one None e = cc
    one (Some x) e = chosen (x.more || nat_lt 0 x.number) e
      where
        chosen : (t : Bool) → (if t then step.Malformed else step.Judge) ≡ step.Ask b → ⊥
        chosen true e = cc
        chosen false e = cc

    by : (success joins : Bool)
        → AsksNext (if not success then (step.Judge, t.joined) else if joins then taken_so t.asked (after_response block2 payload t.joined) else (after_one block2, t.joined)) b now
        → AsksOne t.asked t.joined b now
    by false joins said = absurd (let e : step.Judge ≡ step.Ask b = said.0 in cc)
    by true true said = after_block_of_answer t.asked b block2 payload t.joined now few said
    by true false said = absurd (one block2 said.0)

after_any : (joins : Bool) (t : Transferred) (code : ℕ) (block2 : Option Block) (payload now : List ℕ) (b : Blocks) → AreFew t.asked t.joined → AsksNext (after_answer joins t code block2 payload) b now
    → AsksOne t.asked t.joined b now
after_any joins t code block2 payload now b few said = by (after_code t code) refl said
  where
    by : (next : Option NextStep) → after_code t code ≡ next → AsksNext (after_either next joins t code block2 payload) b now → AsksOne t.asked t.joined b now
    by None is said = after_last joins t code block2 payload now b few said
    by (Some x) is said = subst (λ (l : List ℕ). AsksOne t.asked t.joined b l) said.1 (after_input t code b few (is ∙ ap Some said.0))

-- After an answer a further request may be sent.
pub further_may_be_sent : (c : Chosen) (w : CoapWaiting) (joins : Bool) (code : ℕ) (block2 : Option Block) (payload : List ℕ) (next : NextStep) (t : Transferred) (b : Blocks) → IsInOrder c w → w.client.outstanding ≡ None
    → next ≡ (after_answer joins w.transfer code block2 payload).0 → t ≡ record w.transfer { joined = (after_answer joins w.transfer code block2 payload).1 } → next ≡ step.Ask b → MayBeSent c (record w { transfer = t }) b
further_may_be_sent c w joins code block2 payload next t b o free is then_is asks =
    let now : List ℕ = (after_answer joins w.transfer code block2 payload).1 in
    let one = after_any joins w.transfer code block2 payload now b o.few (sym is ∙ asks, refl) in
    let joined : t.joined ≡ now = ap (λ (x : Transferred). x.joined) then_is in
    record {
      client = record { one_token = o.client.one_token; unobserved = o.client.unobserved; ids = o.client.ids; unused = o.client.unused };
      free = free;
      requests = subst (λ (l : List ℕ). w.client.next_id ≤ most_before b l) (sym joined) (omega (arith, o.requests, one.more));
      few = subst (λ (l : List ℕ). AreFew b l) (sym joined) one.few;
    }
