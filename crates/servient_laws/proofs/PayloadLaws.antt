-- The payload and the tag of what is sent.
use Rattle.std.proofs.Common.{◌≡◌, ◌≤◌, ℕ, Bool, true, false, length, map, List, [], ◌∷◌, ◌++◌, Option, Some, None, option_map, refl, sym, ap, subst, ◌∙◌, arith, inl, inr}
use Rattle.std.specs.Prelude.{◌⊎◌, ◌==◌, Contains, nat_le, nat_lt, if◌then◌else◌}
use Rattle.std.specs.Option.{option_map_or}
use Rattle.std.proofs.lemmas.List.Elements.{Contains-append_left, Contains-append_right}
use Rattle.std.proofs.lemmas.Bool.Decides.{nat_tests}
use Rattle.std.proofs.lemmas.Option.{same_Some}
use Rattle.coap_msg.specs.declared.constants.TheConstants.{ETAG, LOCATION_PATH, CONTENT_FORMAT, LONGEST_PAYLOAD}
use Rattle.coap_msg.specs.declared.endpoint.Endpoint.{Endpoint}
use Rattle.coap_msg.specs.Grammar.{CoapOption, spelling}
use Rattle.coap_msg.specs.Numbers.{number_bytes}
use Rattle.coap_msg.specs.Opts.{segment_options}
use Rattle.thing_ops.specs.declared.outcome.Outcome.{Outcome}
use Rattle.thing_ops.specs.Outcomes.{answer_of, payload_of, text_of, version_of}
use Rattle.thing_core.specs.Thing.{Done}
use Rattle.coap_opts.specs.Reading.{AskSeen, values_under}
use Rattle.coap_opts.proofs.FirstValues.{values_first}
use Rattle.coap_bind.specs.declared.pending.PendingReply.{PendingReply}
use Rattle.coap_bind.specs.declared.blocks.BlockUse.{BlockUse}
use Rattle.coap_bind.specs.declared.blocks.BlockUse.TheVariants as blocks
use Rattle.coap_bind.specs.declared.blocks.BlockOption.{BlockOption}
use Rattle.coap_bind.specs.declared.blocks.BlockOption.TheVariants as option
use Rattle.coap_blocks.specs.Bodies.{longest_body}
use Rattle.coap_bind.specs.Blocks.{is_representation, given_portion, all_of, portion_of, most_bytes, answer_reply, with_block, option_of}
use Rattle.coap_bind.specs.Writing.{place_of, text_format, format_options, etag_options, observe_options, reply_options, whole_reply, observed, coap_reply, head_in}
use Rattle.http_replies.specs.Writing.{PlainReply, http_reply}
use Rattle.http_bind.specs.Replying.{reply, reply_head, reply_body, longest_reply_head, head_of, head_with, location_of}
use Rattle.thing_ops.specs.Requests.{RequestSeen}
use Rattle.http_bind.specs.Streams.{HttpReply, Streams, connection_at, Answers as AnswersRequest, lets_wait, sends_reply, waits_of}
use Rattle.servient_outside.specs.declared.net.Act.TheVariants as act
use Rattle.servient_outside.specs.Network.{did}
use Rattle.servient_trace.specs.Trace.{Sighting, at_network}
use Rattle.servient_core.specs.Machine.{Site, State, Sends, SendsIfAny, PerformsByHttp, AnswersAsk, AnswersMessage}
use Rattle.servient_core.specs.Meaning.{Message, by_coap, by_http}
use Rattle.servient_laws.specs.Payloads.{AsksForAll, tags_for, SaysByCoap, SaysByHttp, Says, PayloadsAreOfOutcomes}

-- the payload of a reply that isn't too long
part_payload : (u : BlockUse) (o : Outcome) → length (payload_of o) ≤ most_bytes u o → (answer_reply u o).payload ≡ (portion_of u o).payload
part_payload u o short = rw fits refl
  where
    fits : nat_lt (most_bytes u o) (length (payload_of o)) ≡ false
    fits = grind (arith, nat_tests)

given_whole : (b : Bool) (payload : List ℕ) → length payload ≤ LONGEST_PAYLOAD → (if b then given_portion None payload else all_of payload).payload ≡ payload
given_whole false payload short = refl
given_whole true payload short = rw fits refl
  where
    fits : nat_lt LONGEST_PAYLOAD (length payload) ≡ false
    fits = grind (arith, nat_tests)

most_at : (b : Bool) (n : ℕ) → n ≤ LONGEST_PAYLOAD → n ≤ (if b then longest_body else LONGEST_PAYLOAD)
most_at true n short = omega arith
most_at false n short = short

-- where no part was asked for, all of it
short_payload : (u : BlockUse) (o : Outcome) → AsksForAll u → length (payload_of o) ≤ LONGEST_PAYLOAD → (answer_reply u o).payload ≡ payload_of o
short_payload blocks.Whole o all short = part_payload blocks.Whole o short
short_payload (blocks.Gives g) o all short =
    part_payload (blocks.Gives g) o (most_at (is_representation o) (length (payload_of o)) short)
    ∙ ap (λ (szx : Option ℕ). (if is_representation o then given_portion szx (payload_of o) else all_of (payload_of o)).payload) all
    ∙ given_whole (is_representation o) (payload_of o) short
short_payload (blocks.Joined b) o all short = part_payload (blocks.Joined b) o short

-- ---- the tag by CoAP

-- no option of a reply but ETag has a tag
none_observed : (n : Option ℕ) (os : List CoapOption) → values_under ETAG os ≡ [] → values_under ETAG (observe_options n ++ os) ≡ []
none_observed None os none = none
none_observed (Some n) os none = none

none_in_place : (path : List (List ℕ)) (os : List CoapOption) → values_under ETAG os ≡ [] → values_under ETAG (segment_options LOCATION_PATH path ++ os) ≡ []
none_in_place [] os none = none
none_in_place (segment ∷ path) os none = none_in_place path os none

none_of_format : (format : ℕ) (t : Option (List ℕ)) → values_under ETAG (option_map_or (λ (x : List ℕ). (CONTENT_FORMAT, number_bytes format) ∷ []) t []) ≡ []
none_of_format format None = refl
none_of_format format (Some x) = refl

none_behind : (o : CoapOption) (os : List CoapOption) → (o.0 == ETAG) ≡ false → values_under ETAG (os ++ o ∷ []) ≡ values_under ETAG os
none_behind o [] isnt = rw isnt refl
none_behind o (p ∷ os) isnt =
    values_first ETAG p (os ++ o ∷ []) ∙ (ap (λ (values : List (List ℕ)). values_under ETAG (p ∷ []) ++ values) (none_behind o os isnt) ∙ sym (values_first ETAG p os))

none_of_block : (b : Option BlockOption) (os : List CoapOption) → values_under ETAG (with_block b os) ≡ values_under ETAG os
none_of_block None os = refl
none_of_block (Some (option.Block2 b)) os = none_behind (option_of (option.Block2 b)) os refl
none_of_block (Some (option.Block1 b)) os = none_behind (option_of (option.Block1 b)) os refl

tag_first : (version : Option ℕ) (os : List CoapOption) → values_under ETAG os ≡ [] → values_under ETAG (etag_options version ++ os) ≡ tags_for version
tag_first None os none = none
tag_first (Some version) os none = ap (λ (values : List (List ℕ)). number_bytes version ∷ values) none

tags_said : (u : BlockUse) (o : Outcome) (observe : Option ℕ) → length (payload_of o) ≤ most_bytes u o
    → values_under ETAG (reply_options (observed observe (answer_reply u o))) ≡ tags_for (version_of o)
tags_said u o observe short = rw fits (tag_first (version_of o) (observe_options observe ++ with_block (portion_of u o).block (whole_reply o).options)
    (none_observed observe (with_block (portion_of u o).block (whole_reply o).options)
    (none_of_block (portion_of u o).block (whole_reply o).options ∙ none_in_place (place_of o) (format_options o) (none_of_format (text_format o) (text_of o)))))
  where
    fits : nat_lt (most_bytes u o) (length (payload_of o)) ≡ false
    fits = grind (arith, nat_tests)

-- ---- the tag by HTTP

-- the content of a head that was written of an outcome
record HeadSays (head : List ℕ) (o : Outcome) : Type 0 where
  says : PlainReply
  spells : head ≡ http_reply says
  tag : says.etag ≡ version_of o

head_with_says : (closes : Bool) (o : Outcome) (status : ℕ) → HeadSays (head_with closes o status) o
head_with_says closes o status = by (nat_le (length (http_reply (head_of status closes (location_of o) o))) longest_reply_head)
  where
    by : (b : Bool) → HeadSays (if b then http_reply (head_of status closes (location_of o) o) else http_reply (head_of status closes None o)) o
    by true = record { says = head_of status closes (location_of o) o; spells = refl; tag = refl }
    by false = record { says = head_of status closes None o; spells = refl; tag = refl }

head_says : (closes : Bool) (o : Outcome) (head : List ℕ) → reply_head closes o ≡ Some head → HeadSays head o
head_says closes o head is = by (answer_of o).status is
  where
    by : (status : Option ℕ) → option_map (head_with closes o) status ≡ Some head → HeadSays head o
    by None e = absurd cc
    by (Some status) e = subst (λ (h : List ℕ). HeadSays h o) (same_Some (head_with closes o status) head e) (head_with_says closes o status)

-- ---- what is sent

-- the sightings of a part of a trace are in the trace
in_whole : (x : Sighting) (a b seen : List Sighting) → seen ≡ a ++ b → Contains a x ⊎ Contains b x → Contains seen x
in_whole x a b seen whole (inl there) = subst (λ (l : List Sighting). Contains l x) (sym whole) (Contains-append_left a b x there)
in_whole x a b seen whole (inr there) = subst (λ (l : List Sighting). Contains l x) (sym whole) (Contains-append_right a b x there)

first_of : (x : Sighting) (rest seen : List Sighting) → seen ≡ x ∷ rest → Contains seen x
first_of x rest seen is = subst (λ (l : List Sighting). Contains l x) (sym is) (0, omega arith, refl)

pub by_ask : (site : Site) (from : Endpoint) (ask : AskSeen) (r : PendingReply) (done : Done) (s t : State) (seen : List Sighting) → AnswersAsk site from ask r done s seen t → SaysByCoap from r.blocks done.outcome seen
by_ask site from ask r done s t seen (bytes, w) = record {
  message = coap_reply (observed w.one.1.observe (answer_reply r.blocks done.outcome)) (head_in r) s.coap.next_id;
  sent = in_whole (at_network (did (act.Datagram from (spelling (coap_reply (observed w.one.1.observe (answer_reply r.blocks done.outcome)) (head_in r) s.coap.next_id))))) w.first w.second seen w.whole
      (inr (first_of (at_network (did (act.Datagram from (spelling (coap_reply (observed w.one.1.observe (answer_reply r.blocks done.outcome)) (head_in r) s.coap.next_id))))) [] w.second
      (w.other.saw ∙ ap (λ (x : List ℕ). at_network (did (act.Datagram from x)) ∷ []) w.one.1.replies.bytes_are)));
  payload = short_payload r.blocks done.outcome;
  part = part_payload r.blocks done.outcome;
  tags = tags_said r.blocks done.outcome w.one.1.observe;
}

-- a reply is its head and its body
parts_of : (bodiless closes : Bool) (o : Outcome) (bytes : List ℕ) → reply bodiless closes o ≡ Some bytes → (head : List ℕ) × (reply_head closes o ≡ Some head) × (bytes ≡ head ++ reply_body bodiless o)
parts_of bodiless closes o bytes is = by (reply_head closes o) refl is
  where
    by : (h : Option (List ℕ)) → reply_head closes o ≡ h → option_map (λ head. head ++ reply_body bodiless o) h ≡ Some bytes → (head : List ℕ) × (reply_head closes o ≡ Some head) × (bytes ≡ head ++ reply_body bodiless o)
    by None none e = absurd cc
    by (Some head) some e = (head, some, sym (same_Some (head ++ reply_body bodiless o) bytes e))

by_message : (c : ℕ) (done : Done) (s t : State) (seen : List Sighting) → waits_of done.outcome ≡ None → AnswersMessage c done s seen t → SaysByHttp c done.outcome s seen
by_message c done s t seen answered (sent, w) = by sent w.one.1 w.other
  where
    by : (sent : Option HttpReply) → AnswersRequest c done.outcome s.moment sent s.http w.one.0 → SendsIfAny c sent w.mid w.second t → SaysByHttp c done.outcome s seen
    by sent (lets_wait target is waits none) sends = absurd (let apart : None ≡ Some target = sym answered ∙ ap waits_of is in cc)
    by sent (sends_reply bytes closes none replies is) sends =
        let does : Sends c (record { bytes = bytes; closes = closes }) w.mid w.second t = subst (λ (x : Option HttpReply). SendsIfAny c x w.mid w.second t) is sends in
        let owed = replies.1 in
        let parts = parts_of owed.bodiless owed.closes done.outcome bytes (subst (λ (b : Bool). reply owed.bodiless b done.outcome ≡ Some bytes) replies.4 replies.5) in
        let head = head_says owed.closes done.outcome parts.0 parts.1 in
        record {
          connection = replies.0;
          owed = owed;
          there = replies.2;
          owes = replies.3;
          head = parts.0;
          head_is = parts.1;
          says = head.says;
          spells = head.spells;
          tag = head.tag;
          sent = in_whole (at_network (did (act.Sent c (parts.0 ++ reply_body owed.bodiless done.outcome)))) w.first w.second seen w.whole
              (inr (first_of (at_network (did (act.Sent c (parts.0 ++ reply_body owed.bodiless done.outcome)))) (map (λ x. at_network (did x)) (if closes then act.Closed c ∷ [] else [])) w.second
              (does.saw ∙ ap (λ (x : List ℕ). at_network (did (act.Sent c x)) ∷ map (λ y. at_network (did y)) (if closes then act.Closed c ∷ [] else [])) parts.2)));
        }

-- the reply is in the trace of all
pub whole_says : (m : Message) (o : Outcome) (s : State) (a c d seen : List Sighting) → seen ≡ a ++ (c ++ d) → Says m o s c → Says m o s seen
whole_says (by_coap from ask request) o s a c d seen whole says = record {
  message = says.message;
  sent = in_whole (at_network (did (act.Datagram from (spelling says.message)))) a (c ++ d) seen whole (inr (Contains-append_left c d (at_network (did (act.Datagram from (spelling says.message)))) says.sent));
  payload = says.payload;
  part = says.part;
  tags = says.tags;
}
whole_says (by_http n q) o s a c d seen whole says = record {
  connection = says.connection;
  owed = says.owed;
  there = says.there;
  owes = says.owes;
  head = says.head;
  head_is = says.head_is;
  says = says.says;
  spells = says.spells;
  tag = says.tag;
  sent = in_whole (at_network (did (act.Sent n (says.head ++ reply_body says.owed.bodiless o)))) a (c ++ d) seen whole
      (inr (Contains-append_left c d (at_network (did (act.Sent n (says.head ++ reply_body says.owed.bodiless o)))) says.sent));
}

-- performing a request leaves the connections as they are
same_http : (site : Site) (q : RequestSeen) (done : Done) (s t : State) (seen : List Sighting) → PerformsByHttp site q done s seen t → t.http ≡ s.http
same_http site q done s t seen (inl directory) = ap (λ (x : State). x.http) directory.1.3.next
same_http site q done s t seen (inr things) = ap (λ (x : State). x.http) things.1.3.next

pub payloads_are_of_outcomes : PayloadsAreOfOutcomes
payloads_are_of_outcomes site (by_coap from ask request) done s t seen both answered =
    whole_says (by_coap from ask request) done.outcome s both.first both.other.first both.other.second seen (both.whole ∙ ap (λ (x : List Sighting). both.first ++ x) both.other.whole)
    (by_ask site from ask request done both.mid both.other.mid both.other.first both.other.one)
payloads_are_of_outcomes site (by_http c q) done s t seen both answered =
    let says : SaysByHttp c done.outcome both.mid both.other.first = by_message c done both.mid both.other.mid both.other.first answered both.other.one in
    whole_says (by_http c q) done.outcome s both.first both.other.first both.other.second seen (both.whole ∙ ap (λ (x : List Sighting). both.first ++ x) both.other.whole) (record {
      connection = says.connection;
      owed = says.owed;
      there = subst (λ (h : Streams). connection_at c h ≡ Some says.connection) (same_http site q done s both.mid both.first both.one) says.there;
      owes = says.owes;
      head = says.head;
      head_is = says.head_is;
      says = says.says;
      spells = says.spells;
      tag = says.tag;
      sent = says.sent;
    })
