-- The value that is handed in and the one that comes back travel in blocks over CoAP (RFC 7959, sections 2.3 to 2.5 and
-- 2.9.1): the steps after each answer, until one is whole.
use Rattle.std.specs.Prelude.{◌+◌, ◌/◌, ◌==◌, ◌&&◌, ◌||◌, not, ℕ, nat_lt, Bool, true, false, List, [], Option, Some, None, if◌then◌else◌}
use Rattle.coap_msg.specs.declared.constants.TheConstants.{GET}
use Rattle.coap_msg.specs.declared.block.Block.{Block}
use Rattle.wot_consumer.specs.declared.chosen.Chosen.{Chosen}
use Rattle.coap_client.specs.declared.transfer.Taken.{Taken}
use Rattle.coap_client.specs.declared.transfer.Taken.TheVariants as answer
use Rattle.coap_client.specs.Transfers.{after_response}
use Rattle.network_consumer.specs.declared.blocks.Blocks.{Blocks}
use Rattle.network_consumer.specs.declared.block_transfer.NextStep.{NextStep}
use Rattle.network_consumer.specs.declared.block_transfer.NextStep.TheVariants as step
use Rattle.network_consumer.specs.Asking.{blocks, first_blocks, input_block, most_input_blocks, input_size, method_code}

-- the state of both: the value handed in, the blocks of the last request, and the answer as far as it came back, joined
pub record Transferred : Type 0 where
  pub input : Option (List ℕ)
  pub asked : Blocks
  pub joined : List ℕ

-- nothing came back yet
abbrev pub nothing_joined : Option (List ℕ) → Transferred
nothing_joined input = record { input = input; asked = first_blocks input; joined = [] }

-- ## The value that is handed in

-- 2.31, "Continue": a server took a block, and others may follow (section 2.9.1)
abbrev pub continue_code : ℕ
continue_code = 95

-- After a block that a server took comes the next one, unless there were as many as may be. After the last there is nothing to
-- go on with.
abbrev pub after_block : ℕ → Block → NextStep
after_block size b =
    if not b.more then step.Malformed
    else if nat_lt (b.number + 1) most_input_blocks then step.Ask (blocks (Some (input_block size (b.number + 1))) None)
    else step.Long

-- the step after a 2.31 to a request with these blocks: it goes on where a block was sent and none asked for, and is
-- else an answer like any other
abbrev pub after_continue : ℕ → Option Block → Option Block → Option NextStep
after_continue size (Some b) None = Some (after_block size b)
after_continue size (Some b) (Some asked) = None
after_continue size None asked = None

abbrev pub after_code : Transferred → ℕ → Option NextStep
after_code t code = if code == continue_code then after_continue (input_size t.input) t.asked.block1 t.asked.block2 else None

-- ## The value that comes back

-- the answer to a GET is joined, but not the values that are observed
abbrev pub is_joined : Chosen → Bool
is_joined c = (method_code c.verb == GET) && not c.observe

-- the step after an answer of success that was joined so (section 2.4): the same is asked for the next block
abbrev pub after_joining : Blocks → Taken → NextStep
after_joining asked answer.Broken = step.Malformed
after_joining asked answer.TooLong = step.Long
after_joining asked answer.Complete = step.Judge
after_joining asked (answer.More b) = step.Ask (record asked { block2 = Some b })

-- the step after one that isn't joined: it is the whole, unless it says that it is a part
abbrev pub after_one : Option Block → NextStep
after_one None = step.Judge
after_one (Some b) = if b.more || nat_lt 0 b.number then step.Malformed else step.Judge

-- an answer was taken so, and this is what came back then
abbrev pub taken_so : Blocks → Taken × List ℕ → NextStep × List ℕ
taken_so asked taken = (after_joining asked taken.0, taken.1)

-- The step after an answer that ends the sending, where answers are joined or aren't, and the bytes that came back
-- then. An answer that is no success is the whole.
abbrev pub after_end : Bool → Transferred → ℕ → Option Block → List ℕ → NextStep × List ℕ
after_end joins t code block2 payload =
    if not (code / 32 == 2) then (step.Judge, t.joined)
    else if joins then taken_so t.asked (after_response block2 payload t.joined)
    else (after_one block2, t.joined)

-- ## Both

abbrev pub after_either : Option NextStep → Bool → Transferred → ℕ → Option Block → List ℕ → NextStep × List ℕ
after_either (Some next) joins t code block2 payload = (next, t.joined)
after_either None joins t code block2 payload = after_end joins t code block2 payload

-- The step after an answer with this code, this Block2 and this payload, and the bytes that came back then.
abbrev pub after_answer : Bool → Transferred → ℕ → Option Block → List ℕ → NextStep × List ℕ
after_answer joins t code block2 payload = after_either (after_code t code) joins t code block2 payload

-- the payload of the whole answer, of which this came last
abbrev pub whole_payload : Bool → Transferred → List ℕ → List ℕ
whole_payload joins t payload = if joins then t.joined else payload
