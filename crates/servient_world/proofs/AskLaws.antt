-- An ask of a client is a message, none of whose options is faulty, which has the blocks that are asked, and says to
-- observe only where it registers.
use Rattle.std.proofs.Common.{◌≡◌, ◌≢◌, ℕ, ◌<◌, ◌≤◌, ◌&&◌, ◌∙◌, Bool, true, false, Option, Some, None, List, [], ◌∷◌, ◌++◌, length, refl, sym, ap, subst, arith}
use Rattle.std.specs.Prelude.{◌==◌, nat_lt, nat_le, All, IfSome, option_and_then, slice_get}
use Rattle.std.proofs.lemmas.Bool.Decides.{nat_tests}
use Rattle.std.proofs.lemmas.List.Elements.{All-head, All-tail}
use Rattle.coap_msg.specs.declared.constants.TheConstants.{OBSERVE, URI_PATH, CONTENT_FORMAT, BLOCK1, BLOCK2, LONGEST_SEGMENT}
use Rattle.coap_msg.specs.declared.block.Block.{Block}
use Rattle.coap_msg.specs.declared.endpoint.Endpoint.{Endpoint}
use Rattle.coap_msg.specs.Grammar.{CoapOption, CoapMessage}
use Rattle.coap_msg.specs.Opts.{segment_options}
use Rattle.coap_msg.specs.Blocks.{IsBlock, block_number, block_bytes, block_of}
use Rattle.coap_msg.proofs.BlockValues.{block_is_short, blocks_are_read_again}
use Rattle.coap_msg.proofs.NumberValues.{short_length}
use Rattle.coap_opts.specs.Table.{observe, stands_again}
use Rattle.coap_opts.specs.Reading.{faults_after, fault_of, and_then_these, faults_of, values_under, number_under, number_within, HasBlocks, asked as what_is_asked}
use Rattle.coap_client.specs.declared.outstanding.Outstanding.{Outstanding}
use Rattle.coap_client.specs.declared.state.State.{State}
use Rattle.coap_client.specs.Asking.{Asking, MayAsk, observe_option, format_option, block_option, both_blocks, options_for, message_for}
use Rattle.coap_client.specs.Exchange.{at_moment, Asks, token_for, request_for, is_registration}
use Rattle.coap_client.specs.Laws.{Did}
use Rattle.coap_client.specs.Requests.{IsMessageOf}
use Rattle.coap_client.proofs.RequestLaws.{asks_are_messages}
use Rattle.coap_bind.specs.Server.{is_request}

-- the message of an ask, to a server
pub record IsAskOf (a : Outstanding) (m : CoapMessage) : Type 0 where
  pub message : IsMessageOf a m
  pub request : is_request m ≡ true
  pub options : faults_of m.options ≡ []
  pub observes : number_under observe m.options ≡ Some 0 → a.registers ≡ true
  pub blocks : HasBlocks (what_is_asked m)

abbrev pub HasMessage : Outstanding → Type 0
HasMessage a = (m : CoapMessage) × IsAskOf a m

-- ---- options without a fault

-- the option before isn't one of a block
record IsBeforeBlocks (before : Option ℕ) : Type 0 where
  block2 : stands_again before BLOCK2 ≡ false
  block1 : stands_again before BLOCK1 ≡ false

short_block : (b : Block) → IsBlock b → length (block_bytes b) ≤ 3
short_block b is = short_length (block_number b) (block_is_short b is)

block1_fault : (before : Option ℕ) (value : List ℕ) (b : Block) → length value ≤ 3 → block_of value ≡ Some b → stands_again before BLOCK1 ≡ false → fault_of before (BLOCK1, value) ≡ None
block1_fault before value b short is first =
    let fits : nat_le (length value) 3 ≡ true = grind (arith, nat_tests) in
    let least : nat_le 0 (length value) ≡ true = grind (arith, nat_tests) in
    rw least (rw fits (rw first (rw is refl)))

block2_fault : (before : Option ℕ) (value : List ℕ) (b : Block) → length value ≤ 3 → block_of value ≡ Some b → stands_again before BLOCK2 ≡ false → fault_of before (BLOCK2, value) ≡ None
block2_fault before value b short is first =
    let fits : nat_le (length value) 3 ≡ true = grind (arith, nat_tests) in
    let least : nat_le 0 (length value) ≡ true = grind (arith, nat_tests) in
    rw least (rw fits (rw first (rw is refl)))

block1_faultless : (before : Option ℕ) (b : Option Block) → IfSome b IsBlock → stands_again before BLOCK1 ≡ false → faults_after before (block_option BLOCK1 b) ≡ []
block1_faultless before None is first = refl
block1_faultless before (Some b) is first =
    ap (λ f. and_then_these f []) (block1_fault before (block_bytes b) b (short_block b is) (blocks_are_read_again b is) first)

blocks_faultless : (before : Option ℕ) (a b : Option Block) → IfSome a IsBlock → IfSome b IsBlock → IsBeforeBlocks before → faults_after before (both_blocks a b) ≡ []
blocks_faultless before None b of_a of_b first = block1_faultless before b of_b first.block1
blocks_faultless before (Some a) b of_a of_b first =
    ap (λ f. and_then_these f (faults_after (Some BLOCK2) (block_option BLOCK1 b))) (block2_fault before (block_bytes a) a (short_block a of_a) (blocks_are_read_again a of_a) first.block2)
    ∙ block1_faultless (Some BLOCK2) b of_b refl

path_fault : (before : Option ℕ) (segment : List ℕ) → length segment ≤ LONGEST_SEGMENT → fault_of before (URI_PATH, segment) ≡ None
path_fault before segment h =
    let fits : nat_le (length segment) 255 ≡ true = grind (arith, nat_tests) in
    let least : nat_le 0 (length segment) ≡ true = grind (arith, nat_tests) in
    rw least (rw fits refl)

-- the options after Observe, the path and the format have no fault after any of them
abbrev AreFaultless : List CoapOption → Type 0
AreFaultless os = (before : Option ℕ) → IsBeforeBlocks before → faults_after before os ≡ []

format_faultless : (format : Option ℕ) (os : List CoapOption) → AreFaultless os → AreFaultless (format_option format ++ os)
format_faultless None os rest before first = rest before first
format_faultless (Some n) os rest before first = rest (Some CONTENT_FORMAT) (record { block2 = refl; block1 = refl })

path_faultless : (path : List (List ℕ)) (os : List CoapOption) → All (λ segment. length segment ≤ LONGEST_SEGMENT) path → AreFaultless os
    → AreFaultless (segment_options URI_PATH path ++ os)
path_faultless [] os all rest before first = rest before first
path_faultless (segment ∷ path) os all rest before first =
    ap (λ f. and_then_these f (faults_after (Some URI_PATH) (segment_options URI_PATH path ++ os)))
    (path_fault before segment (All-head (λ (s : List ℕ). length s ≤ LONGEST_SEGMENT) segment path all))
    ∙ path_faultless path os (All-tail (λ (s : List ℕ). length s ≤ LONGEST_SEGMENT) segment path all) rest (Some URI_PATH) (record { block2 = refl; block1 = refl })

observe_faultless : (o : Option Bool) (os : List CoapOption) → AreFaultless os → faults_after None (observe_option o ++ os) ≡ []
observe_faultless None os rest = rest None (record { block2 = refl; block1 = refl })
observe_faultless (Some true) os rest = rest (Some OBSERVE) (record { block2 = refl; block1 = refl })
observe_faultless (Some false) os rest = rest (Some OBSERVE) (record { block2 = refl; block1 = refl })

faultless : (a : Asking) → MayAsk a → faults_of (options_for a) ≡ []
faultless a may =
    observe_faultless a.observe (segment_options URI_PATH a.path ++ (format_option a.format ++ both_blocks a.block2 a.block1))
    (path_faultless a.path (format_option a.format ++ both_blocks a.block2 a.block1) may.segments
    (format_faultless a.format (both_blocks a.block2 a.block1) (λ before first. blocks_faultless before a.block2 a.block1 may.block2 may.block1 first)))

-- ---- values of options

-- a number that neither Uri-Path nor Content-Format has
record IsNeither (number : ℕ) : Type 0 where
  path : (URI_PATH == number) ≡ false
  format : (CONTENT_FORMAT == number) ≡ false

format_neither : (number : ℕ) (format : Option ℕ) (os : List CoapOption) → IsNeither number → values_under number (format_option format ++ os) ≡ values_under number os
format_neither number None os never = refl
format_neither number (Some n) os never = rw never.format refl

path_neither : (number : ℕ) (path : List (List ℕ)) (os : List CoapOption) → IsNeither number → values_under number (segment_options URI_PATH path ++ os) ≡ values_under number os
path_neither number [] os never = refl
path_neither number (segment ∷ path) os never = let rest = path_neither number path os never in rw never.path rest

-- those after Observe
behind_observe : (number : ℕ) (a : Asking) → IsNeither number
    → values_under number (segment_options URI_PATH a.path ++ (format_option a.format ++ both_blocks a.block2 a.block1)) ≡ values_under number (both_blocks a.block2 a.block1)
behind_observe number a never =
    path_neither number a.path (format_option a.format ++ both_blocks a.block2 a.block1) never ∙ format_neither number a.format (both_blocks a.block2 a.block1) never

observe_never : (number : ℕ) (o : Option Bool) (os : List CoapOption) → (OBSERVE == number) ≡ false → values_under number (observe_option o ++ os) ≡ values_under number os
observe_never number None os never = refl
observe_never number (Some true) os never = rw never refl
observe_never number (Some false) os never = rw never refl

-- ---- Observe

no_observe : (a b : Option Block) → values_under OBSERVE (both_blocks a b) ≡ []
no_observe None None = refl
no_observe None (Some b) = refl
no_observe (Some a) None = refl
no_observe (Some a) (Some b) = refl

observes_where : (o : Option Bool) (os : List CoapOption) → values_under OBSERVE os ≡ [] → number_under observe (observe_option o ++ os) ≡ Some 0 → is_registration o ≡ true
observes_where None os none e =
    let no_value : number_under observe os ≡ None = ap (λ l. option_and_then (number_within observe) (slice_get l 0)) none in
    absurd (let wrong : None ≡ Some 0 = sym no_value ∙ e in cc)
observes_where (Some true) os none e = refl
observes_where (Some false) os none e = absurd (cc)

-- ---- blocks

abbrev first_block_in : List (List ℕ) → Option Block
first_block_in values = option_and_then block_of (slice_get values 0)

block2_there : (a b : Option Block) → IfSome a IsBlock → first_block_in (values_under BLOCK2 (both_blocks a b)) ≡ a
block2_there None None is = refl
block2_there None (Some b) is = refl
block2_there (Some a) None is = blocks_are_read_again a is
block2_there (Some a) (Some b) is = blocks_are_read_again a is

block1_there : (a b : Option Block) → IfSome b IsBlock → first_block_in (values_under BLOCK1 (both_blocks a b)) ≡ b
block1_there None None is = refl
block1_there None (Some b) is = blocks_are_read_again b is
block1_there (Some a) None is = refl
block1_there (Some a) (Some b) is = blocks_are_read_again b is

-- the blocks that are asked are read again
pub block2_asked : (a : Asking) (id : ℕ) (token : List ℕ) → MayAsk a → (what_is_asked (message_for a id token)).block2 ≡ a.block2
block2_asked a id token may =
    ap first_block_in (observe_never BLOCK2 a.observe (segment_options URI_PATH a.path ++ (format_option a.format ++ both_blocks a.block2 a.block1)) refl
    ∙ behind_observe BLOCK2 a (record { path = refl; format = refl }))
    ∙ block2_there a.block2 a.block1 may.block2

pub block1_asked : (a : Asking) (id : ℕ) (token : List ℕ) → MayAsk a → (what_is_asked (message_for a id token)).block1 ≡ a.block1
block1_asked a id token may =
    ap first_block_in (observe_never BLOCK1 a.observe (segment_options URI_PATH a.path ++ (format_option a.format ++ both_blocks a.block2 a.block1)) refl
    ∙ behind_observe BLOCK1 a (record { path = refl; format = refl }))
    ∙ block1_there a.block2 a.block1 may.block1

has_blocks : (a : Asking) (id : ℕ) (token : List ℕ) → MayAsk a → HasBlocks (what_is_asked (message_for a id token))
has_blocks a id token may = record {
  block1 = subst (λ (o : Option Block). IfSome o IsBlock) (sym (block1_asked a id token may)) may.block1;
  block2 = subst (λ (o : Option Block). IfSome o IsBlock) (sym (block2_asked a id token may)) may.block2;
}

-- ---- the message

asking_code : (code : ℕ) → code ≢ 0 → code < 32 → (nat_lt 0 code && nat_lt code 32) ≡ true
asking_code code some below = let above : 0 < code = omega arith in grind (arith, nat_tests)

pub asks_are_asks : (sent : List Outstanding) (s t : State) (now : ℕ) (peer : Endpoint) (a : Asking) (n : ℕ) (old new : List ℕ)
    → Did sent s → MayAsk a → (asks : Asks (at_moment now s) peer a n old new t) → HasMessage (request_for (at_moment now s) peer a asks.id)
asks_are_asks sent s t now peer a n old new did may asks = (
  message_for a asks.id (token_for (at_moment now s) peer a.observe),
  record {
    message = asks_are_messages sent s t now peer a n old new did may asks;
    request = asking_code a.code may.code may.class;
    options = faultless a may;
    observes = λ e. observes_where a.observe (segment_options URI_PATH a.path ++ (format_option a.format ++ both_blocks a.block2 a.block1))
        (behind_observe OBSERVE a (record { path = refl; format = refl }) ∙ no_observe a.block2 a.block1) e;
    blocks = has_blocks a asks.id (token_for (at_moment now s) peer a.observe) may;
  },
)
