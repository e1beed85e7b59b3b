-- The meaning of a CoAP request, and the faults of its options (RFC 7252, sections 5.4, 5.8 and 5.10; RFC 7959, section
-- 2).
use Rattle.std.specs.Prelude.{◌≡◌, ◌⊎◌, ◌<◌, ◌^◌, ℕ, ◌%◌, List, [], ◌∷◌, map, Bool, true, false, not, length, ◌==◌, ◌&&◌, ◌||◌, Option, Some, None, option_and_then, slice_get, slice_index, nat_le, filter_map, is_some, IfSome, if◌then◌else◌}
use Rattle.std.specs.List.{filter, list_any}
use Rattle.coap_msg.specs.declared.constants.TheConstants.{IF_MATCH, ETAG, IF_NONE_MATCH, URI_PATH, BLOCK1, BLOCK2, PROXY_URI, PROXY_SCHEME, GET, POST, PUT, DELETE, JSON, TD_JSON}
use Rattle.coap_msg.specs.Grammar.{CoapOption, CoapMessage}
use Rattle.coap_msg.specs.Numbers.{number_of, number_bytes}
use Rattle.coap_msg.specs.declared.block.Block.{Block}
use Rattle.coap_msg.specs.Blocks.{IsBlock, block_of}
use Rattle.thing_ops.specs.declared.verb.Verb.{Verb}
use Rattle.thing_ops.specs.declared.verb.Verb.TheVariants as verb
use Rattle.thing_ops.specs.declared.request.Accept.{Accept}
use Rattle.thing_ops.specs.declared.request.Format.{Format}
use Rattle.thing_ops.specs.declared.request.Format.TheVariants as format
use Rattle.thing_ops.specs.declared.conditions.Tags.{Tags}
use Rattle.thing_ops.specs.declared.conditions.Conditions.{Conditions}
use Rattle.thing_ops.specs.Conditions.{no_tags}
use Rattle.thing_ops.specs.Requests.{RequestSeen}
use Rattle.coap_opts.specs.declared.fault.AskFault.{AskFault}
use Rattle.coap_opts.specs.declared.fault.AskFault.TheVariants as fault
use Rattle.coap_opts.specs.declared.known.Known.{Known}
use Rattle.coap_opts.specs.Table.{observe, content_format, accept, block1, block2, has_length, may_stand}

-- ---- faults

-- Proxy-Uri and Proxy-Scheme (section 5.10.2)
abbrev pub is_proxy : ℕ → Bool
is_proxy number = (number == PROXY_URI) || (number == PROXY_SCHEME)

-- an option of an odd number is critical, any other is elective (section 5.4.6)
abbrev pub is_critical : ℕ → Bool
is_critical number = number % 2 == 1

-- a Block option that says the reserved size, where its value isn't too long for one (RFC 7959, section 2.2)
abbrev pub is_no_block : CoapOption → Bool
is_no_block o = (o.0 == BLOCK1 || o.0 == BLOCK2) && not (is_some (block_of o.1))

-- The fault of an option after one of the number before. A critical one that may not be there is bad, an elective one
-- is ignored (section 5.4.1). One that may be there and is no block is wrong by that.
abbrev pub fault_of : Option ℕ → CoapOption → Option AskFault
fault_of before o =
    if is_proxy o.0 then Some fault.Proxy
    else if is_critical o.0 && not (may_stand before o) then Some (fault.BadOption o.0)
    else if is_no_block o then Some fault.Block
    else None

-- a fault, if there is one, and then these
abbrev pub and_then_these : Option AskFault → List AskFault → List AskFault
and_then_these None faults = faults
and_then_these (Some f) faults = f ∷ faults

-- the faults of the options after one of the number before, in their order
abbrev pub faults_after : Option ℕ → List CoapOption → List AskFault
faults_after before [] = []
faults_after before (o ∷ os) = and_then_these (fault_of before o) (faults_after (Some o.0) os)

-- all faults of the options of a message, in their order
abbrev pub faults_of : List CoapOption → List AskFault
faults_of os = faults_after None os

-- A request is refused for this: the first fault of its options; or being out of memory, and
-- nothing is wrong with them.
abbrev pub IsRefusal : List CoapOption → AskFault → Type 0
IsRefusal os e = (slice_get (faults_of os) 0 ≡ Some e) ⊎ ((faults_of os ≡ []) × (e ≡ fault.NoMemory))

-- ---- the meaning

-- the values of all options of this number, in their order
abbrev pub values_under : ℕ → List CoapOption → List (List ℕ)
values_under number os = map (λ o. o.1) (filter (λ o. o.0 == number) os)

-- the number that a value says, where it is as long as the option's may be
abbrev pub number_within : Known → List ℕ → Option ℕ
number_within k value = if has_length k value then Some (number_of value) else None

-- The number that an option says which doesn't repeat: the first of its number counts, if its value is as long as it
-- may be, and no other does.
abbrev pub number_under : Known → List CoapOption → Option ℕ
number_under k os = option_and_then (number_within k) (slice_get (values_under k.number os) 0)

-- the block that an option says: there is one option of its number at most, and it is a block where nothing is wrong
abbrev pub block_under : Known → List CoapOption → Option Block
block_under k os = option_and_then block_of (slice_get (values_under k.number os) 0)

-- ---- conditions on a version

-- The version that a value says: the number that its bytes are, of which there are 1 to 4, the first not 0. Any other
-- value says none.
abbrev pub version_of : List ℕ → Option ℕ
version_of value =
    if nat_le 1 (length value) && nat_le (length value) 4 && not (slice_index value 0 == 0) then Some (number_of value) else None

-- the tag of a version, its number (coap_bind/specs/Writing.antt), is read as that version
abbrev pub TagsAreReadAgain : Type 0
TagsAreReadAgain = (version : ℕ) → 0 < version → version < 2 ^ 32 → version_of (number_bytes version) ≡ Some version

-- there is a value
abbrev pub is_there : List (List ℕ) → Bool
is_there [] = false
is_there (value ∷ values) = true

-- a value of no bytes
abbrev pub is_blank : List ℕ → Bool
is_blank value = length value == 0

-- the versions that the values of If-Match say, or any: a value is empty (section 5.10.8.1)
abbrev pub tags_of : List (List ℕ) → Tags
tags_of values = record { any = list_any is_blank values; list = filter_map version_of values }

-- the condition of If-Match, where it is there
abbrev pub match_of : List (List ℕ) → Option Tags
match_of values = if is_there values then Some (tags_of values) else None

-- the versions that the values of ETag say, where they count
abbrev pub known_by : Bool → List (List ℕ) → Tags
known_by false values = no_tags
known_by true values = record { any = false; list = filter_map version_of values }

-- the options ask this, where those of ETag count or don't; If-None-Match asks that nothing is there (section 5.10.8.2)
abbrev pub conditions_by : Bool → List CoapOption → Conditions
conditions_by counts os = record {
  if_match = match_of (values_under IF_MATCH os);
  known = known_by counts (values_under ETAG os);
  absent = is_there (values_under IF_NONE_MATCH os);
}

-- The value of Observe of a request that registers (RFC 7641, section 2): its notifications are new, so that no version
-- of which its sender knows is asked for.
abbrev pub registers : Option ℕ → Bool
registers None = false
registers (Some value) = value == 0

-- ETag counts in a GET that doesn't register (section 5.10.6.2).
abbrev pub conditions_of : ℕ → List CoapOption → Conditions
conditions_of code os = conditions_by (code == GET && not (registers (number_under observe os))) os

-- ---- the meaning

-- the verb of a code of class 0 (section 12.1.1)
abbrev pub verb_of : ℕ → Verb
verb_of code =
    if code == GET then verb.Get
    else if code == POST then verb.Post
    else if code == PUT then verb.Put
    else if code == DELETE then verb.Delete
    else verb.Other

-- the media type of a content format (section 12.3; TD 1.1)
abbrev pub format_of : Option ℕ → Format
format_of None = format.Absent
format_of (Some number) =
    if number == JSON then format.Json else if number == TD_JSON then format.Td else format.Other

-- the formats that are taken in an answer; where the request says nothing, both are (section 5.10.4)
abbrev pub accept_of : Option ℕ → Accept
accept_of None = record { json = true; td = true }
accept_of (Some number) = record { json = number == JSON; td = number == TD_JSON }

-- a request, the value of Observe, the block of the request that this is and the block of the response that is wanted,
-- apart from their places in memory
pub record AskSeen : Type 0 where
  pub request : RequestSeen
  pub observe : Option ℕ
  pub block1 : Option Block
  pub block2 : Option Block

-- The meaning of a message of class 0, if nothing is wrong with its options. Its path is the values of Uri-Path, and
-- Uri-Query isn't read.
abbrev pub asked : CoapMessage → AskSeen
asked m = record {
  request = record {
    verb = verb_of m.code;
    path = values_under URI_PATH m.options;
    query = [];
    accept = accept_of (number_under accept m.options);
    format = format_of (number_under content_format m.options);
    body = m.payload;
    conditions = conditions_of m.code m.options;
  };
  observe = number_under observe m.options;
  block1 = block_under block1 m.options;
  block2 = block_under block2 m.options;
}

-- the blocks that are asked are such as may be written (RFC 7959, section 2.2)
pub record HasBlocks (a : AskSeen) : Type 0 where
  pub block1 : IfSome a.block1 IsBlock
  pub block2 : IfSome a.block2 IsBlock
