-- The value of Observe in replies and notifications (RFC 7641, section 2).
use Rattle.std.proofs.Common.{◌≡◌, ℕ, ◌<◌, ◌≤◌, ◌^◌, ◌∙◌, Bool, true, false, cond, Option, Some, None, List, [], ◌∷◌, ◌++◌, length, inr, refl, ap, arith}
use Rattle.std.specs.Prelude.{nat_lt, nat_le}
use Rattle.std.specs.Option.{option_map_or}
use Rattle.std.proofs.lemmas.Bool.Decides.{nat_tests}
use Rattle.coap_msg.specs.declared.constants.TheConstants.{OBSERVE, LOCATION_PATH, CONTENT_FORMAT, JSON, LONGEST_PAYLOAD}
use Rattle.coap_msg.specs.declared.message.RequestType.{RequestType}
use Rattle.coap_msg.specs.declared.message.RequestType.TheVariants.{Confirmable, NonConfirmable}
use Rattle.coap_msg.specs.Grammar.{CoapOption, IsWellFormed}
use Rattle.coap_msg.specs.Numbers.{number_of, number_bytes}
use Rattle.coap_msg.proofs.NumberValues.{number_is_read, short_length}
use Rattle.coap_msg.specs.Opts.{segment_options}
use Rattle.thing_ops.specs.declared.outcome.Outcome.{Outcome}
use Rattle.thing_ops.specs.Outcomes.{payload_of, text_of}
use Rattle.coap_client.specs.Answers.{number_within, sequence_of}
use Rattle.coap_observe.specs.declared.notice.Notice.{Notice}
use Rattle.coap_bind.specs.declared.blocks.BlockOption.{BlockOption}
use Rattle.coap_bind.specs.declared.blocks.BlockOption.TheVariants as option
use Rattle.coap_bind.specs.declared.blocks.BlockUse.{BlockUse}
use Rattle.coap_blocks.specs.Bodies.{longest_body}
use Rattle.coap_bind.specs.Links.{links_content, links_reply}
use Rattle.coap_bind.specs.Blocks.{content_format, content_reply, given_portion, with_block, option_of, portion_of, most_bytes, reply_with, answer_reply}
use Rattle.coap_bind.specs.Writing.{Reply, full_reply, long_reply, whole_reply, reply_of, place_of, text_format, format_options, etag_options, reply_options, observed, reply_id, coap_reply, notification, ReplyHead}

-- ---- numbers

within_at : (value : List ℕ) (b : Bool) → nat_le (length value) 3 ≡ b → length value ≤ 3 → cond b (Some (number_of value)) None ≡ Some (number_of value)
within_at value true e short = refl
within_at value false e short = absurd (let long : nat_le (length value) 3 ≡ true = grind (arith, nat_tests) in cc)

shown_number : (n : ℕ) → n < 2 ^ 24 → number_within (number_bytes n) ≡ Some n
shown_number n low =
    within_at (number_bytes n) (nat_le (length (number_bytes n)) 3) refl (short_length n low) ∙ ap (λ (k : ℕ). Some k) (number_is_read n (omega arith))

-- options that begin with Observe say its number
observe_says : (n : ℕ) (os : List CoapOption) → n < 2 ^ 24 → sequence_of ((OBSERVE, number_bytes n) ∷ os) ≡ Some n
observe_says n os low = shown_number n low

-- ETag says nothing of it
tag_unnumbered : (version : Option ℕ) (os : List CoapOption) → sequence_of (etag_options version ++ os) ≡ sequence_of os
tag_unnumbered None os = refl
tag_unnumbered (Some v) os = refl

-- a reply with Observe says its number
pub observed_says : (n : ℕ) (r : Reply) → n < 2 ^ 24 → sequence_of (reply_options (observed (Some n) r)) ≡ Some n
observed_says n r low = tag_unnumbered r.version ((OBSERVE, number_bytes n) ∷ r.options) ∙ observe_says n r.options low

-- ---- replies

format_unnumbered : (value : List ℕ) (text : Option (List ℕ)) → sequence_of (option_map_or (λ _. (CONTENT_FORMAT, value) ∷ []) text []) ≡ None
format_unnumbered value None = refl
format_unnumbered value (Some text) = refl

place_unnumbered : (place : List (List ℕ)) (os : List CoapOption) → sequence_of os ≡ None → sequence_of (segment_options LOCATION_PATH place ++ os) ≡ None
place_unnumbered [] os e = e
place_unnumbered (segment ∷ place) os e = place_unnumbered place os e

unnumbered_at : (b : Bool) (r : Reply) → sequence_of r.options ≡ None → sequence_of (cond b long_reply r).options ≡ None
unnumbered_at true r e = refl
unnumbered_at false r e = e

-- a reply by itself has no Observe
pub unnumbered : (o : Outcome) → sequence_of (reply_options (reply_of o)) ≡ None
unnumbered o =
    tag_unnumbered (reply_of o).version (reply_of o).options
    ∙ unnumbered_at (nat_lt LONGEST_PAYLOAD (length (payload_of o))) (whole_reply o)
    (place_unnumbered (place_of o) (format_options o) (format_unnumbered (number_bytes (text_format o)) (text_of o)))

-- and none where a part of the payload is given
format_and_block : (value : List ℕ) (text : Option (List ℕ)) (b : BlockOption) → sequence_of (option_map_or (λ _. (CONTENT_FORMAT, value) ∷ []) text [] ++ option_of b ∷ []) ≡ None
format_and_block value None (option.Block1 b) = refl
format_and_block value None (option.Block2 b) = refl
format_and_block value (Some text) (option.Block1 b) = refl
format_and_block value (Some text) (option.Block2 b) = refl

place_and_block : (place : List (List ℕ)) (os more : List CoapOption) → sequence_of (os ++ more) ≡ None → sequence_of ((segment_options LOCATION_PATH place ++ os) ++ more) ≡ None
place_and_block [] os more e = e
place_and_block (segment ∷ place) os more e = place_and_block place os more e

part_unnumbered : (o : Outcome) (b : Option BlockOption) → sequence_of (with_block b (whole_reply o).options) ≡ None
part_unnumbered o None = place_unnumbered (place_of o) (format_options o) (format_unnumbered (number_bytes (text_format o)) (text_of o))
part_unnumbered o (Some b) =
    place_and_block (place_of o) (format_options o) (option_of b ∷ []) (format_and_block (number_bytes (text_format o)) (text_of o) b)

pub answer_unnumbered : (u : BlockUse) (o : Outcome) → sequence_of (reply_options (answer_reply u o)) ≡ None
answer_unnumbered u o =
    tag_unnumbered (answer_reply u o).version (answer_reply u o).options
    ∙ unnumbered_at (nat_lt (most_bytes u o) (length (payload_of o))) (reply_with (portion_of u o) o) (part_unnumbered o (portion_of u o).block)

-- ---- the links

block_unnumbered : (format : ℕ) (b : Option BlockOption) → sequence_of (with_block b (content_format (Some format))) ≡ None
block_unnumbered format None = refl
block_unnumbered format (Some (option.Block1 b)) = refl
block_unnumbered format (Some (option.Block2 b)) = refl

links_unnumbered_at : (long : Bool) (szx : Option ℕ) (text : List ℕ)
    → sequence_of (reply_options (cond long long_reply (content_reply (given_portion szx text) (links_content text)))) ≡ None
links_unnumbered_at true szx text = refl
links_unnumbered_at false szx text = block_unnumbered 40 (given_portion szx text).block

-- a reply with the links has no Observe
pub links_unnumbered : (szx : Option ℕ) (text : List ℕ) → sequence_of (reply_options (links_reply szx text)) ≡ None
links_unnumbered szx text = links_unnumbered_at (nat_lt longest_body (length text)) szx text

-- that the table is full is a message
pub id_at : (kind : RequestType) (id next : ℕ) → id < 2 ^ 16 → next < 2 ^ 16 → reply_id kind id next < 2 ^ 16
id_at Confirmable id next mine its = mine
id_at NonConfirmable id next mine its = its

pub full_is_message : (head : ReplyHead) (next : ℕ) → head.id < 2 ^ 16 → length head.token ≤ 8 → next < 2 ^ 16 → IsWellFormed (coap_reply full_reply head next)
full_is_message head next id token counter = record {
  code = omega arith;
  class = inr (inr (inr refl));
  id = id_at head.kind head.id next id counter;
  token = token;
  options = tt;
  empty = λ e. absurd (omega arith);
}

-- ---- notifications

pub notification_says : (n : Notice) (value : List ℕ) → n.sequence < 2 ^ 24 → sequence_of (notification n value).options ≡ Some n.sequence
notification_says n value low = observe_says n.sequence ((CONTENT_FORMAT, number_bytes JSON) ∷ []) low
