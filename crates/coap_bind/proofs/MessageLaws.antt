-- Replies and notifications are messages within the bounds of one.
use Rattle.std.proofs.Common.{◌≡◌, ◌⊎◌, ℕ, ◌+◌, ◌/◌, ◌<◌, ◌≤◌, ◌^◌, Bool, true, false, cond, Option, Some, None, List, [], ◌∷◌, ◌++◌, length, inl, inr, refl, sym, subst, ◌∙◌, append_assoc, arith}
use Rattle.std.specs.Prelude.{nat_lt, All, take}
use Rattle.std.specs.Option.{option_map_or}
use Rattle.std.proofs.lemmas.List.{length-take}
use Rattle.std.proofs.lemmas.List.Elements.{All-head, All-tail}
use Rattle.coap_msg.specs.declared.constants.TheConstants.{LOCATION_PATH, CONTENT_FORMAT, JSON, LONGEST_SEGMENT, LONGEST_TOKEN}
use Rattle.coap_msg.specs.declared.message.RequestType.{RequestType}
use Rattle.coap_msg.specs.declared.message.RequestType.TheVariants.{Confirmable, NonConfirmable}
use Rattle.coap_msg.specs.Grammar.{CoapOption, AreInOrder, IsWellFormed}
use Rattle.coap_msg.specs.Blocks.{block_number}
use Rattle.coap_msg.proofs.NumberValues.{number_length}
use Rattle.coap_msg.specs.Numbers.{number_bytes}
use Rattle.coap_msg.specs.Opts.{segment_options}
use Rattle.thing_ops.specs.declared.outcome.Outcome.{Outcome}
use Rattle.thing_ops.specs.declared.outcome.Outcome.TheVariants as outcome
use Rattle.thing_ops.specs.Outcomes.{HasCode, payload_of, text_of}
use Rattle.coap_bind.specs.declared.blocks.BlockOption.{BlockOption}
use Rattle.coap_bind.specs.declared.blocks.BlockOption.TheVariants as option
use Rattle.coap_bind.specs.declared.blocks.BlockUse.{BlockUse}
use Rattle.coap_blocks.specs.Bodies.{longest_body}
use Rattle.coap_bind.specs.declared.links.TheConstants.{LINK_FORMAT}
use Rattle.coap_bind.specs.Links.{links_content, method_reply}
use Rattle.coap_bind.specs.Blocks.{Portion, given_portion, content_format, content_reply, with_block, answer_reply, block_options, most_bytes, portion_of, reply_with}
use Rattle.coap_bind.specs.Writing.{Reply, long_reply, whole_reply, place_of, text_format, format_options, etag_options, observe_options, reply_options, reply_id, coap_reply, ReplyHead}
use Rattle.coap_bind.specs.Laws.{HasShortPlace}
use Rattle.coap_bind.specs.Messages.{RepliesAreMessages, LinksAreMessages, NotificationsAreMessages}
use Rattle.coap_bind.proofs.LengthLaws.{block_alone, place_bound}

-- ---- options in order

-- options may follow each number up to that of Location-Path
abbrev AreLater : List CoapOption → Type 0
AreLater os = (last : ℕ) → last ≤ 8 → AreInOrder last os

-- options may follow each number up to that of Content-Format
abbrev AreLast : List CoapOption → Type 0
AreLast os = (last : ℕ) → last ≤ 12 → AreInOrder last os

block_in_order : (b : Option BlockOption) → AreLast (block_options b)
block_in_order None last low = tt
block_in_order (Some (option.Block2 b)) last low = let few = number_length (block_number b) in (record { order = omega arith; number = omega arith; value = omega arith }, tt)
block_in_order (Some (option.Block1 b)) last low = let few = number_length (block_number b) in (record { order = omega arith; number = omega arith; value = omega arith }, tt)

format_in_order : (value : List ℕ) (text : Option (List ℕ)) (os : List CoapOption) → length value ≤ 4 → AreLast os → AreLater (option_map_or (λ _. (CONTENT_FORMAT, value) ∷ []) text [] ++ os)
format_in_order value None os short rest last low = rest last (omega arith)
format_in_order value (Some text) os short rest last low = (record { order = omega arith; number = omega arith; value = omega arith }, rest 12 (omega arith))

place_in_order : (place : List (List ℕ)) (os : List CoapOption) → All (λ segment. length segment ≤ LONGEST_SEGMENT) place → AreLater os
    → AreLater (segment_options LOCATION_PATH place ++ os)
place_in_order [] os all rest last low = rest last low
place_in_order (segment ∷ place) os all rest last low =
    let bound : length segment ≤ LONGEST_SEGMENT = All-head (λ (s : List ℕ). length s ≤ LONGEST_SEGMENT) segment place all in (
      record { order = omega arith; number = omega arith; value = omega arith },
      place_in_order place os (All-tail (λ (s : List ℕ). length s ≤ LONGEST_SEGMENT) segment place all) rest 8 (omega arith),
    )

observe_in_order : (observe : Option ℕ) (os : List CoapOption) → AreLater os → (last : ℕ) → last ≤ 6 → AreInOrder last (observe_options observe ++ os)
observe_in_order None os rest last low = rest last (omega arith)
observe_in_order (Some n) os rest last low =
    let value = number_length n in
    (record { order = omega arith; number = omega arith; value = omega arith }, rest 6 (omega arith))

tag_in_order : (version : Option ℕ) (os : List CoapOption) → ((last : ℕ) → last ≤ 6 → AreInOrder last os) → AreInOrder 0 (etag_options version ++ os)
tag_in_order None os rest = rest 0 (omega arith)
tag_in_order (Some v) os rest =
    let value = number_length v in
    (record { order = omega arith; number = omega arith; value = omega arith }, rest 4 (omega arith))

-- the format of an outcome, and then the option of a block
format_then : (o : Outcome) (b : Option BlockOption) → AreLater (format_options o ++ block_options b)
format_then o b = format_in_order (number_bytes (text_format o)) (text_of o) (block_options b) (number_length (text_format o)) (block_in_order b)

no_place_in_order : (o : Outcome) (b : Option BlockOption) (place : List (List ℕ)) → place ≡ [] → AreLater (segment_options LOCATION_PATH place ++ (format_options o ++ block_options b))
no_place_in_order o b place none =
    subst (λ (p : List (List ℕ)). AreLater (segment_options LOCATION_PATH p ++ (format_options o ++ block_options b))) (sym none) (format_then o b)

apart_in_order : (o : Outcome) (b : Option BlockOption) → HasShortPlace o → AreLater (segment_options LOCATION_PATH (place_of o) ++ (format_options o ++ block_options b))
apart_in_order o b short = elim (place_bound o short) [
  | inl none ↦ no_place_in_order o b (place_of o) none
  | inr some ↦ place_in_order (place_of o) (format_options o ++ block_options b) some.short (format_then o b)
]

part_in_order : (o : Outcome) (p : Portion) → HasShortPlace o → AreLater (reply_with p o).options
part_in_order o p short =
    subst AreLater (sym (block_alone p.block (segment_options LOCATION_PATH (place_of o) ++ format_options o) ∙ append_assoc (segment_options LOCATION_PATH (place_of o)) (format_options o) (block_options p.block)))
    (apart_in_order o p.block short)

in_order_at : (b : Bool) (r : Reply) → AreLater r.options → AreLater (cond b long_reply r).options
in_order_at true r later = λ last low. tt
in_order_at false r later = later

-- ---- codes

-- a code of a response
pub record IsResponse (code : ℕ) : Type 0 where
  pub small : code < 256
  pub class : (code / 32 ≡ 2) ⊎ ((code / 32 ≡ 4) ⊎ (code / 32 ≡ 5))

success : (n : ℕ) → n < 32 → IsResponse (64 + n)
success n low = record { small = omega arith; class = inl (omega arith) }

client_error : (n : ℕ) → n < 32 → IsResponse (128 + n)
client_error n low = record { small = omega arith; class = inr (inl (omega arith)) }

server_error : (n : ℕ) → n < 32 → IsResponse (160 + n)
server_error n low = record { small = omega arith; class = inr (inr (omega arith)) }

whole_code : (o : Outcome) → HasCode o → IsResponse (whole_reply o).code
whole_code (outcome.Content value tag) c = success 5 (omega arith)
whole_code (outcome.NotModified tag) c = success 3 (omega arith)
whole_code (outcome.Description description td) c = success 5 (omega arith)
whole_code outcome.Empty c = success 5 (omega arith)
whole_code outcome.Changed c = success 4 (omega arith)
whole_code (outcome.Output value) c = success 4 (omega arith)
whole_code (outcome.Started place status) c = success 1 (omega arith)
whole_code outcome.Deleted c = success 2 (omega arith)
whole_code (outcome.Created id) c = absurd (cc)
whole_code (outcome.Listed entries) c = absurd (cc)
whole_code (outcome.Wait slot) c = client_error 4 (omega arith)
whole_code outcome.NotFound c = client_error 4 (omega arith)
whole_code (outcome.NotAllowed allow) c = client_error 5 (omega arith)
whole_code outcome.NotAcceptable c = client_error 6 (omega arith)
whole_code outcome.Format c = client_error 15 (omega arith)
whole_code outcome.BadValue c = client_error 0 (omega arith)
whole_code outcome.TooLarge c = client_error 13 (omega arith)
whole_code outcome.PreconditionFailed c = client_error 12 (omega arith)
whole_code (outcome.Refused n) c = client_error 3 (omega arith)
whole_code (outcome.DeviceFault n) c = server_error 0 (omega arith)
whole_code outcome.BadAnswer c = server_error 0 (omega arith)
whole_code outcome.InvocationsFull c = server_error 3 (omega arith)
whole_code outcome.CallsUsed c = server_error 3 (omega arith)
whole_code (outcome.Invalid n) c = absurd (cc)
whole_code outcome.IdDiffers c = absurd (cc)
whole_code outcome.HasId c = absurd (cc)
whole_code outcome.BadTtl c = absurd (cc)
whole_code outcome.DirectoryFull c = absurd (cc)
whole_code outcome.Memory c = server_error 3 (omega arith)

code_at : (b : Bool) (r : Reply) → IsResponse r.code → IsResponse (cond b long_reply r).code
code_at true r code = server_error 0 (omega arith)
code_at false r code = code

-- the reply that says an outcome has a code of a response
pub reply_code : (u : BlockUse) (o : Outcome) → HasCode o → IsResponse (answer_reply u o).code
reply_code u o code = code_at (nat_lt (most_bytes u o) (length (payload_of o))) (reply_with (portion_of u o) o) (whole_code o code)

some_code : (code : ℕ) → IsResponse code → code ≡ 0 → ⊥
some_code code is none = elim is.class [
  | inl two ↦ omega arith
  | inr more ↦ elim more [
    | inl four ↦ omega arith
    | inr five ↦ omega arith
  ]
]

id_at : (kind : RequestType) (id next : ℕ) → id < 2 ^ 16 → next < 2 ^ 16 → reply_id kind id next < 2 ^ 16
id_at Confirmable id next mine its = mine
id_at NonConfirmable id next mine its = its

-- ---- the messages

pub replies_are_messages : RepliesAreMessages
replies_are_messages o observe u head next code short id token counter =
    let r : Reply = answer_reply u o in
    let is : IsResponse r.code = reply_code u o code in
    record {
      code = let small = is.small in omega arith;
      class = inr is.class;
      id = id_at head.kind head.id next id counter;
      token = token;
      options = tag_in_order r.version (observe_options observe ++ r.options)
          (observe_in_order observe r.options (in_order_at (nat_lt (most_bytes u o) (length (payload_of o))) (reply_with (portion_of u o) o) (part_in_order o (portion_of u o) short)));
      empty = λ none. absurd (some_code r.code is none);
    }

-- a reply with a code of a response and options in order
plain_message : (r : Reply) (head : ReplyHead) (next : ℕ) → IsResponse r.code → AreInOrder 0 (reply_options r) → head.id < 2 ^ 16 → length head.token ≤ LONGEST_TOKEN → next < 2 ^ 16
    → IsWellFormed (coap_reply r head next)
plain_message r head next is order id token counter = record {
  code = let small = is.small in omega arith;
  class = inr is.class;
  id = id_at head.kind head.id next id counter;
  token = token;
  options = order;
  empty = λ none. absurd (some_code r.code is none);
}

links_in_order : (b : Option BlockOption) → AreInOrder 0 (with_block b (content_format (Some LINK_FORMAT)))
links_in_order b =
    subst (AreInOrder 0) (sym (block_alone b (content_format (Some LINK_FORMAT))))
    (record { order = omega arith; number = omega arith; value = let few = number_length LINK_FORMAT in omega arith }, block_in_order b 12 (omega arith))

links_message_at : (long : Bool) (szx : Option ℕ) (text : List ℕ) (head : ReplyHead) (next : ℕ) → head.id < 2 ^ 16 → length head.token ≤ LONGEST_TOKEN → next < 2 ^ 16
    → IsWellFormed (coap_reply (cond long long_reply (content_reply (given_portion szx text) (links_content text))) head next)
links_message_at true szx text head next id token counter = plain_message long_reply head next (server_error 0 (omega arith)) tt id token counter
links_message_at false szx text head next id token counter =
    plain_message (content_reply (given_portion szx text) (links_content text)) head next (success 5 (omega arith)) (links_in_order (given_portion szx text).block) id token counter

pub links_are_messages : LinksAreMessages
links_are_messages szx text head next id token counter = (
  links_message_at (nat_lt longest_body (length text)) szx text head next id token counter,
  plain_message method_reply head next (client_error 5 (omega arith)) tt id token counter,
)

short_take : (n : ℕ) (bytes : List ℕ) → length (take n bytes) ≤ n
short_take n bytes = omega (arith, length-take n bytes)

pub notifications_are_messages : NotificationsAreMessages
notifications_are_messages n value sendable id =
    let short = sendable.token in
    let taken : length (take n.token_length n.token) ≤ n.token_length = short_take n.token_length n.token in
    record {
      code = omega arith;
      class = inr (inl refl);
      id = id;
      token = omega arith;
      options = observe_in_order (Some n.sequence) ((CONTENT_FORMAT, number_bytes JSON) ∷ [])
          (λ last low. (record { order = omega arith; number = omega arith; value = let few = number_length JSON in omega arith }, tt)) 0 (omega arith);
      empty = λ none. absurd (omega arith);
    }
