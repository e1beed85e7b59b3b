-- The lengths of replies and notifications; they fit their room.
use Rattle.std.proofs.Common.{◌≡◌, ℕ, ◌+◌, ◌*◌, ◌-◌, ◌≤◌, ◌<◌, ◌⊎◌, ◌∙◌, ◌||◌, Bool, true, false, inl, inr, Option, Some, None, List, [], ◌∷◌, ◌++◌, length, drop, refl, sym, ap, subst, arith, append_assoc, length-append, length-take, length-drop}
use Rattle.std.specs.Prelude.{nat_lt, All, IfSome, Result, Ok, Err, OnErr, if◌then◌else◌}
use Rattle.std.proofs.lemmas.List.{append-nil}
use Rattle.std.specs.Result.{IsOk}
use Rattle.std.specs.Option.{option_map_or}
use Rattle.std.proofs.lemmas.List.Elements.{All-nil, All-cons, All-head, All-tail}
use Rattle.std.proofs.lemmas.Bool.Decides.{nat_tests}
use Rattle.coap_msg.specs.declared.constants.TheConstants.{ETAG, OBSERVE, LOCATION_PATH, CONTENT_FORMAT, BLOCK1, BLOCK2, JSON, LONGEST_TOKEN, LONGEST_SEGMENT, LONGEST_PAYLOAD, LONGEST_MESSAGE}
use Rattle.coap_msg.specs.declared.endpoint.Endpoint.{Endpoint}
use Rattle.coap_msg.specs.Blocks.{block_bytes, block_number, block_size, block_start}
use Rattle.coap_msg.proofs.BlockValues.{sizes}
use Rattle.coap_msg.proofs.NumberValues.{number_length}
use Rattle.coap_msg.specs.Numbers.{number_bytes}
use Rattle.coap_msg.proofs.OptionParts.{longer}
use Rattle.coap_msg.specs.declared.opts.NoRoom.{NoRoom}
use Rattle.coap_msg.specs.Opts.{WrittenOptions, PutsOptions, segment_options}
use Rattle.coap_msg.specs.Grammar.{CoapOption, CoapMessage, extended, option_spelling, options_spelling, payload_spelling, spelling}
use Rattle.thing_ops.specs.declared.outcome.Outcome.{Outcome}
use Rattle.thing_ops.specs.declared.outcome.Outcome.TheVariants.{Started}
use Rattle.thing_ops.specs.Outcomes.{payload_of, text_of, version_of}
use Rattle.coap_blocks.specs.Bodies.{longest_body}
use Rattle.coap_bind.specs.declared.blocks.BlockOption.{BlockOption}
use Rattle.coap_bind.specs.declared.blocks.BlockOption.TheVariants as option
use Rattle.coap_bind.specs.declared.blocks.BlockUse.{BlockUse}
use Rattle.coap_bind.specs.declared.blocks.BlockUse.TheVariants as blocks
use Rattle.coap_bind.specs.Blocks.{IsUse, Portion, all_of, answer_reply, block_options, content_format, first_block, given_portion, is_in_blocks, is_representation, most_bytes, option_of, portion_at, portion_of, reply_with, with_block}
use Rattle.coap_bind.specs.Writing.{place_of, text_format, format_options, etag_options, observe_options, observed, long_reply, coap_reply, ReplyHead, head_in}
use Rattle.coap_bind.specs.declared.observing.Observing.{Observing}
use Rattle.coap_bind.specs.declared.observing.Observing.TheVariants as observing
use Rattle.coap_bind.specs.declared.observing.Effect.{Effect}
use Rattle.coap_bind.specs.declared.observing.Effect.TheVariants as effect
use Rattle.coap_observe.specs.Watching.{Watching}
use Rattle.coap_bind.specs.Observing.{effect_of, is_memory, may_notify, registering, Watches, leaves, cancels, registers}
use Rattle.coap_bind.specs.Laws.{HasShortPlace, RepliesFit}

-- ---- one option

none_extended : (n : ℕ) → n < 13 → length (extended n) ≡ 0
none_extended n h = let t : nat_lt n 13 ≡ true = grind (arith, nat_tests) in rw t refl

one_extended : (n : ℕ) (b : Bool) → n < 269 → nat_lt n 13 ≡ b → length (extended n) ≤ 1
one_extended n true h e = rw e (omega arith)
one_extended n false h e = let t : nat_lt n 269 ≡ true = grind (arith, nat_tests) in rw e (rw t (omega arith))

-- an option has its value and more
value_within : (last : ℕ) (o : CoapOption) (rest : List ℕ) → length o.1 ≤ length (option_spelling last o ++ rest)
unfolding option_spelling
value_within last o rest =
    omega (arith, length-append (extended (o.0 - last) ++ extended (length o.1) ++ o.1) rest, length-append (extended (o.0 - last) ++ extended (length o.1)) o.1, length-append (extended (o.0 - last)) (extended (length o.1)))

-- an option whose number is less than 13 more than the one before has a byte for both, and one for a length from 13 on
option_length : (last : ℕ) (o : CoapOption) (rest : List ℕ) → o.0 - last < 13 → length o.1 < 269
    → length (option_spelling last o ++ rest) ≤ 2 + length o.1 + length rest
unfolding option_spelling
option_length last o rest delta size =
    let one = none_extended (o.0 - last) delta in
    let two = one_extended (length o.1) (nat_lt (length o.1) 13) size refl in
    omega (arith, length-append (extended (o.0 - last) ++ extended (length o.1) ++ o.1) rest, length-append (extended (o.0 - last) ++ extended (length o.1)) o.1, length-append (extended (o.0 - last)) (extended (length o.1)))

-- one with a short value has no byte for a length
short_option : (last : ℕ) (o : CoapOption) (rest : List ℕ) → o.0 - last < 13 → length o.1 < 13 → length (option_spelling last o ++ rest) ≤ 1 + length o.1 + length rest
unfolding option_spelling
short_option last o rest delta size =
    let one = none_extended (o.0 - last) delta in
    let two = none_extended (length o.1) size in
    omega (arith, length-append (extended (o.0 - last) ++ extended (length o.1) ++ o.1) rest, length-append (extended (o.0 - last) ++ extended (length o.1)) o.1, length-append (extended (o.0 - last)) (extended (length o.1)))

-- one with a short value and a number below 269 has at most one for its number
low_option : (last : ℕ) (o : CoapOption) → o.0 < 269 → length o.1 < 13 → length (option_spelling last o) ≤ 2 + length o.1
unfolding option_spelling
low_option last o low size =
    let one = one_extended (o.0 - last) (nat_lt (o.0 - last) 13) (omega arith) refl in
    let two = none_extended (length o.1) size in
    omega (arith, length-append (extended (o.0 - last) ++ extended (length o.1)) o.1, length-append (extended (o.0 - last)) (extended (length o.1)))

-- ---- the option of a block

block_spelled : (b : BlockOption) (last : ℕ) → length (option_spelling last (option_of b)) ≤ 6
block_spelled (option.Block2 b) last = let few = number_length (block_number b) in let l = low_option last (BLOCK2, block_bytes b) (omega arith) (omega arith) in omega arith
block_spelled (option.Block1 b) last = let few = number_length (block_number b) in let l = low_option last (BLOCK1, block_bytes b) (omega arith) (omega arith) in omega arith

pushed_length : (n last : ℕ) (os : List CoapOption) (o : CoapOption) → ((l : ℕ) → length (option_spelling l o) ≤ n)
    → length (options_spelling last (os ++ o ∷ [])) ≤ length (options_spelling last os) + n
pushed_length n last [] o few = let l = few last in omega (arith, length-append (option_spelling last o) [])
pushed_length n last (x ∷ os) o few =
    let rest = pushed_length n x.0 os o few in
    omega (arith, length-append (option_spelling last x) (options_spelling x.0 os), length-append (option_spelling last x) (options_spelling x.0 (os ++ o ∷ [])))

-- it adds at most six bytes
block_length : (b : Option BlockOption) (last : ℕ) (os : List CoapOption) → length (options_spelling last (with_block b os)) ≤ length (options_spelling last os) + 6
block_length None last os = omega arith
block_length (Some b) last os = pushed_length 6 last os (option_of b) (block_spelled b)

-- it stands after all others
pub block_after : (b : Option BlockOption) (os ps : List CoapOption) → os ++ with_block b ps ≡ (os ++ ps) ++ block_options b
block_after None os ps = sym (append-nil (os ++ ps))
block_after (Some b) os ps = sym (append_assoc os ps (option_of b ∷ []))

pub block_last : (b : Option BlockOption) (os ps qs : List CoapOption) → os ++ (ps ++ with_block b qs) ≡ (os ++ (ps ++ qs)) ++ block_options b
block_last b os ps qs = ap (λ (l : List CoapOption). os ++ l) (block_after b ps qs) ∙ sym (append_assoc os (ps ++ qs) (block_options b))

pub block_alone : (b : Option BlockOption) (os : List CoapOption) → with_block b os ≡ os ++ block_options b
block_alone None os = sym (append-nil os)
block_alone (Some b) os = refl

-- ---- the options of a place

-- no segment is longer than the options
segments_within : (last n : ℕ) (place : List (List ℕ)) (os : List CoapOption) → length (options_spelling last (segment_options LOCATION_PATH place ++ os)) ≤ n
    → All (λ segment. length segment ≤ n) place
segments_within last n [] os h = All-nil (λ (segment : List ℕ). length segment ≤ n)
segments_within last n (segment ∷ place) os h =
    let rest : List ℕ = options_spelling 8 (segment_options LOCATION_PATH place ++ os) in
    let here = value_within last (8, segment) (options_spelling 8 (segment_options LOCATION_PATH place ++ os)) in
    let both = length-append (option_spelling last (8, segment)) (options_spelling 8 (segment_options LOCATION_PATH place ++ os)) in
    All-cons (λ (s : List ℕ). length s ≤ n) segment place (omega arith) (segments_within 8 n place os (omega arith))

place_length : (last more : ℕ) (place : List (List ℕ)) (os : List CoapOption) → last ≤ 8 → All (λ segment. length segment ≤ LONGEST_SEGMENT) place
    → ((l : ℕ) → l ≤ 8 → length (options_spelling l os) ≤ more)
    → length (options_spelling last (segment_options LOCATION_PATH place ++ os)) ≤ 257 * length place + more
place_length last more [] os low short rest = let r = rest last low in omega arith
place_length last more (segment ∷ place) os low short rest =
    let P : List ℕ → Type 0 = λ s. length s ≤ LONGEST_SEGMENT in
    let head : length segment ≤ LONGEST_SEGMENT = All-head P segment place short in
    let tail = place_length 8 more place os (omega arith) (All-tail P segment place short) rest in
    let one = option_length last (8, segment) (options_spelling 8 (segment_options LOCATION_PATH place ++ os)) (omega arith) (omega arith) in
    omega arith

-- ---- the format

format_at : (last n : ℕ) (value : List ℕ) (text : Option (List ℕ)) → last ≤ 8 → length value ≤ n → n < 13
    → length (options_spelling last (option_map_or (λ _. (CONTENT_FORMAT, value) ∷ []) text [])) ≤ 1 + n
format_at last n value None low short few = omega arith
format_at last n value (Some text) low short few = let one = short_option last (CONTENT_FORMAT, value) [] (omega arith) (omega arith) in omega arith

-- ---- ETag and Observe

observe_length : (observe : Option ℕ) (os : List CoapOption) (n : ℕ) → ((l : ℕ) → l ≤ 8 → length (options_spelling l os) ≤ n)
    → (last : ℕ) → last ≤ 6 → length (options_spelling last (observe_options observe ++ os)) ≤ 5 + n
observe_length None os n rest last low = let r = rest last (omega arith) in omega arith
observe_length (Some sequence) os n rest last low =
    let value = number_length sequence in
    let one = short_option last (OBSERVE, number_bytes sequence) (options_spelling 6 os) (omega arith) (omega arith) in
    let r = rest 6 (omega arith) in
    omega arith

tag_length : (version : Option ℕ) (os : List CoapOption) (n : ℕ) → ((l : ℕ) → l ≤ 6 → length (options_spelling l os) ≤ n)
    → length (options_spelling 0 (etag_options version ++ os)) ≤ 5 + n
tag_length None os n rest = let r = rest 0 (omega arith) in omega arith
tag_length (Some v) os n rest =
    let value = number_length v in
    let one = short_option 0 (ETAG, number_bytes v) (options_spelling 4 os) (omega arith) (omega arith) in
    let r = rest 4 (omega arith) in
    omega arith

-- the options after some of them are no longer than all
behind : (last n : ℕ) (os ps : List CoapOption) → length (options_spelling last (os ++ ps)) ≤ n → (l : ℕ) × (length (options_spelling l ps) ≤ n)
behind last n [] ps h = (last, h)
behind last n (o ∷ os) ps h = let both = length-append (option_spelling last o) (options_spelling o.0 (os ++ ps)) in behind o.0 n os ps (omega arith)

-- no segment is longer than the options, with the bytes before them
pub segments_behind : (n : ℕ) (os ps : List CoapOption) (place : List (List ℕ)) (rest : List CoapOption)
    → length (options_spelling 0 (os ++ (ps ++ (segment_options LOCATION_PATH place ++ rest)))) ≤ n → All (λ segment. length segment ≤ n) place
segments_behind n os ps place rest h =
    let one = behind 0 n os (ps ++ (segment_options LOCATION_PATH place ++ rest)) h in
    let two = behind one.0 n ps (segment_options LOCATION_PATH place ++ rest) one.1 in
    segments_within two.0 n place rest two.1

-- ---- a whole reply

-- A started action has a short place, a short status and the shortest format, no version, and is no notification. No
-- other outcome has a place.
pub record IsShortStart (o : Outcome) : Type 0 where
  pub few : length (place_of o) ≤ 4
  pub short : All (λ segment. length segment ≤ LONGEST_SEGMENT) (place_of o)
  pub status : length (payload_of o) ≤ 100
  pub json : text_format o ≡ JSON
  pub no_version : version_of o ≡ None
  pub no_notification : may_notify o ≡ false

pub place_bound : (o : Outcome) → HasShortPlace o → (place_of o ≡ []) ⊎ IsShortStart o
place_bound (Started place status) h = inr (record { few = h.0; short = h.1; status = h.2; json = refl; no_version = refl; no_notification = refl })
place_bound _ h = inl refl

payload_length : (payload : List ℕ) → length (payload_spelling payload) ≤ 1 + length payload
payload_length [] = omega arith
payload_length (b ∷ bytes) = omega arith

pub all_lengths : (token options payload : List ℕ) → length (token ++ (options ++ payload)) ≡ length token + (length options + length payload)
all_lengths token options payload = length-append token (options ++ payload) ∙ ap (λ n. length token + n) (length-append options payload)

-- the options after Observe have at most so many bytes, but for the option of a block
abbrev rest_bound : Outcome → ℕ → Type 0
rest_bound o n = (l : ℕ) → l ≤ 8 → length (options_spelling l (segment_options LOCATION_PATH (place_of o) ++ format_options o)) ≤ n

no_place_bound : (o : Outcome) → place_of o ≡ [] → rest_bound o 5
no_place_bound o none l low =
    let count = ap (λ place. length (options_spelling l (segment_options LOCATION_PATH place ++ format_options o))) none in
    let format = format_at l 4 (number_bytes (text_format o)) (text_of o) low (number_length (text_format o)) (omega arith) in
    omega arith

short_place_bound : (o : Outcome) → IsShortStart o → rest_bound o 1030
short_place_bound o start l low =
    let few = start.few in
    let one : length (number_bytes (text_format o)) ≤ 1 = omega (arith, ap (λ n. length (number_bytes n)) start.json) in
    let options = place_length l 2 (place_of o) (format_options o) low start.short (λ k under. format_at k 1 (number_bytes (text_format o)) (text_of o) under one (omega arith)) in
    omega arith

-- the options behind ETag and Observe, with that of a block
abbrev rest_of : Outcome → Portion → List CoapOption
rest_of o p = with_block p.block (segment_options LOCATION_PATH (place_of o) ++ format_options o)

with_block_bound : (o : Outcome) (p : Portion) (n : ℕ) → rest_bound o n → (l : ℕ) → l ≤ 8 → length (options_spelling l (rest_of o p)) ≤ n + 6
with_block_bound o p n bound l low =
    let a = bound l low in let b = block_length p.block l (segment_options LOCATION_PATH (place_of o) ++ format_options o) in omega arith

part_length : (o : Outcome) (p : Portion) (observe : Option ℕ) (head : ReplyHead) (next n : ℕ) → rest_bound o n
    → length (spelling (coap_reply (observed observe (reply_with p o)) head next)) ≤ 21 + n + length head.token + length p.payload
part_length o p observe head next n bound =
    let all = all_lengths head.token (options_spelling 0 (etag_options (version_of o) ++ (observe_options observe ++ rest_of o p))) (payload_spelling p.payload) in
    let options = tag_length (version_of o) (observe_options observe ++ rest_of o p) (n + 11) (λ l low. let r = observe_length observe (rest_of o p) (n + 6) (with_block_bound o p n bound) l low in omega arith) in
    let payload = payload_length p.payload in
    omega arith

-- without a version and without Observe
bare_length : (o : Outcome) (p : Portion) (observe : Option ℕ) (head : ReplyHead) (next n : ℕ) → rest_bound o n → version_of o ≡ None → observe ≡ None
    → length (spelling (coap_reply (observed observe (reply_with p o)) head next)) ≤ 11 + n + length head.token + length p.payload
bare_length o p observe head next n bound no_version no_observe =
    let os : List CoapOption = etag_options (version_of o) ++ (observe_options observe ++ rest_of o p) in
    let bare : os ≡ rest_of o p = ap (λ (v : Option ℕ). etag_options v ++ (observe_options observe ++ rest_of o p)) no_version ∙ ap (λ (n : Option ℕ). observe_options n ++ rest_of o p) no_observe in
    let count = ap (λ (l : List CoapOption). length (options_spelling 0 l)) bare in
    let all = all_lengths head.token (options_spelling 0 os) (payload_spelling p.payload) in
    let options = with_block_bound o p n bound 0 (omega arith) in
    let payload = payload_length p.payload in
    omega arith

-- a part of a payload that fits: at most 1,024 bytes, and at most 100 where there is a place
abbrev pub IsShortFor : Outcome → List ℕ → Type 0
IsShortFor o part = (length part ≤ LONGEST_PAYLOAD) × (length part ≤ length (payload_of o))

part_fits : (o : Outcome) (p : Portion) (observe : Option ℕ) (head : ReplyHead) (next : ℕ) → length head.token ≤ LONGEST_TOKEN → IsShortFor o p.payload
    → (may_notify o ≡ false → observe ≡ None) → (place_of o ≡ []) ⊎ IsShortStart o
    → length (spelling (coap_reply (observed observe (reply_with p o)) head next)) ≤ LONGEST_MESSAGE
part_fits o p observe head next token short unobserved (inl none) = let l = part_length o p observe head next 5 (no_place_bound o none) in let s = short.0 in omega arith
part_fits o p observe head next token short unobserved (inr start) =
    let l = bare_length o p observe head next 1030 (short_place_bound o start) start.no_version (unobserved start.no_notification) in
    let status = start.status in
    let s = short.1 in
    omega arith

long_fits : (observe : Option ℕ) (head : ReplyHead) (next : ℕ) → length head.token ≤ LONGEST_TOKEN
    → length (spelling (coap_reply (observed observe long_reply) head next)) ≤ LONGEST_MESSAGE
long_fits observe head next token =
    let all = all_lengths head.token (options_spelling 0 (observe_options observe ++ [])) (payload_spelling long_reply.payload) in
    let options = observe_length observe [] 0 (λ l low. omega arith) 0 (omega arith) in
    omega arith

-- ---- parts of payloads

under : (n m : ℕ) (b : Bool) → nat_lt n m ≡ b → b ≡ false → m ≤ n
under n m b e is = let t : nat_lt n m ≡ false = e ∙ is in grind (arith, nat_tests)

-- a size of a block that there is
size_bound : (szx : Option ℕ) → IfSome szx (λ z. z ≤ 6) → block_size (first_block szx) ≤ 1024
size_bound None fits = omega arith
size_bound (Some z) fits = (sizes z fits).2

block_part : (szx : Option ℕ) (payload : List ℕ) → IfSome szx (λ z. z ≤ 6) → length (portion_at (first_block szx) payload).payload ≤ 1024
block_part szx payload fits = let s = size_bound szx fits in omega (arith, length-take (block_size (first_block szx)) (drop (block_start (first_block szx)) payload))

block_part_within : (szx : Option ℕ) (payload : List ℕ) → length (portion_at (first_block szx) payload).payload ≤ length payload
block_part_within szx payload = omega (arith, length-take (block_size (first_block szx)) (drop (block_start (first_block szx)) payload), length-drop (block_start (first_block szx)) payload)

either_false : (a b : Bool) → (a || b) ≡ false → a ≡ false
either_false true b e = absurd cc
either_false false b e = refl

pub given_short : (szx : Option ℕ) (payload : List ℕ) → IfSome szx (λ z. z ≤ 6) → (length (given_portion szx payload).payload ≤ LONGEST_PAYLOAD) × (length (given_portion szx payload).payload ≤ length payload)
given_short szx payload fits = at (is_in_blocks szx (length payload)) refl
  where
    at : (b : Bool) → is_in_blocks szx (length payload) ≡ b
        → (length (if b then portion_at (first_block szx) payload else all_of payload).payload ≤ LONGEST_PAYLOAD)
        × (length (if b then portion_at (first_block szx) payload else all_of payload).payload ≤ length payload)
    at true e = (block_part szx payload fits, block_part_within szx payload)
    at false e =
        let s = size_bound szx fits in
        let w = under (block_size (first_block szx)) (length payload) (nat_lt (block_size (first_block szx)) (length payload)) refl (either_false _ _ e) in
        (omega arith, omega arith)

portion_short : (u : BlockUse) (o : Outcome) → IsUse u → length (payload_of o) ≤ most_bytes u o → IsShortFor o (portion_of u o).payload
portion_short blocks.Whole o fits few = (few, omega arith)
portion_short (blocks.Gives g) o fits few = at (is_representation o) few
  where
    at : (b : Bool) → length (payload_of o) ≤ (if b then longest_body else LONGEST_PAYLOAD)
        → IsShortFor o (if b then given_portion g.szx (payload_of o) else all_of (payload_of o)).payload
    at true many = given_short g.szx (payload_of o) fits.0
    at false some = (some, omega arith)
portion_short (blocks.Joined b) o fits few = (few, omega arith)

reply_at : (u : BlockUse) (o : Outcome) (observe : Option ℕ) (head : ReplyHead) (next : ℕ) (b : Bool) → nat_lt (most_bytes u o) (length (payload_of o)) ≡ b
    → length head.token ≤ LONGEST_TOKEN → HasShortPlace o → IsUse u → (may_notify o ≡ false → observe ≡ None)
    → length (spelling (coap_reply (observed observe (if b then long_reply else reply_with (portion_of u o) o)) head next)) ≤ LONGEST_MESSAGE
reply_at u o observe head next true e token place fits unobserved = long_fits observe head next token
reply_at u o observe head next false e token place fits unobserved =
    part_fits o (portion_of u o) observe head next token (portion_short u o fits (under (most_bytes u o) (length (payload_of o)) false e refl)) unobserved
    (place_bound o place)

-- an outcome that may not be a notification registers nobody
never_registers : (wants : Observing) (o : Outcome) (target : Option ℕ) (t : ℕ) → may_notify o ≡ false → effect_of wants o target ≡ effect.Registers t → ⊥
never_registers observing.Unchanged o target t quiet is = absurd cc
never_registers observing.Registers o target t quiet is = absurd (let wrong : effect.Nothing ≡ effect.Registers t = sym (ap (λ (b : Bool). if b then registering target else effect.Nothing) quiet) ∙ is in cc)
never_registers observing.Deregisters o target t quiet is = at (is_memory o) is
  where
    at : (b : Bool) → (if b then effect.Nothing else effect.Cancels) ≡ effect.Registers t → ⊥
    at true e = absurd cc
    at false e = absurd cc

no_sequence : (does : Effect) (from : Endpoint) (token : List ℕ) (old new : Watching) (observe : Option ℕ)
    → Watches does from token old observe new → ((t : ℕ) → does ≡ effect.Registers t → ⊥) → observe ≡ None
no_sequence does from token old new observe (leaves is none same) never = none
no_sequence does from token old new observe (cancels is none gone) never = none
no_sequence does from token old new observe (registers target r is did says) never = absurd (never target is)

pub replies_fit : RepliesFit
replies_fit ask o target s may place observe observers watches =
    reply_at ask.blocks o observe (head_in ask) s.next_id (nat_lt (most_bytes ask.blocks o) (length (payload_of o))) refl may.token place may.blocks
    (λ quiet. no_sequence (effect_of ask.observing o target) ask.from ask.token s.observers observers observe watches
    (λ t. never_registers ask.observing o target t quiet))

-- ---- the two kinds of replies

pub answer_is : (u : BlockUse) (o : Outcome) → length (payload_of o) ≤ most_bytes u o → answer_reply u o ≡ reply_with (portion_of u o) o
answer_is u o few = let t : nat_lt (most_bytes u o) (length (payload_of o)) ≡ false = grind (arith, nat_tests) in ap (λ b. if b then long_reply else reply_with (portion_of u o) o) t

-- ---- a notification

content_length : (l : ℕ) → l ≤ 8 → length (options_spelling l ((CONTENT_FORMAT, number_bytes JSON) ∷ [])) ≤ 5
content_length l low =
    let value = number_length JSON in
    let one = short_option l (CONTENT_FORMAT, number_bytes JSON) [] (omega arith) (omega arith) in
    omega arith

-- its options
pub notification_options_length : (sequence : ℕ) → length (options_spelling 0 (observe_options (Some sequence) ++ (CONTENT_FORMAT, number_bytes JSON) ∷ [])) ≤ 16
notification_options_length sequence = let l = observe_length (Some sequence) ((CONTENT_FORMAT, number_bytes JSON) ∷ []) 5 content_length 0 (omega arith) in omega arith

-- a message with so few options, whose token and payload are no longer than they may be
pub message_fits : (m : CoapMessage) → length m.token ≤ LONGEST_TOKEN → length (options_spelling 0 m.options) ≤ 16 → length m.payload ≤ LONGEST_PAYLOAD
    → length (spelling m) ≤ LONGEST_MESSAGE
message_fits m few options short =
    let all = all_lengths m.token (options_spelling 0 m.options) (payload_spelling m.payload) in
    let payload = payload_length m.payload in
    omega arith

-- the options of a reply to a request that isn't acted on
format_length : (format : Option ℕ) (l : ℕ) → l ≤ 6 → length (options_spelling l (content_format format)) ≤ 5
format_length None l low = omega arith
format_length (Some n) l low = let value = number_length n in let one = short_option l (CONTENT_FORMAT, number_bytes n) [] (omega arith) (omega arith) in omega arith

pub told_options : (version format : Option ℕ) → length (options_spelling 0 (etag_options version ++ content_format format)) ≤ 10
told_options version format = let l = tag_length version (content_format format) 5 (format_length format) in omega arith

pub told_length : (version format : Option ℕ) (b : Option BlockOption) → length (options_spelling 0 ((etag_options version ++ content_format format) ++ block_options b)) ≤ 16
told_length version format b =
    let L : List CoapOption → Type 0 = λ os. length (options_spelling 0 os) ≤ 16 in
    let few = told_options version format in
    let more = block_length b 0 (etag_options version ++ content_format format) in
    subst L (block_alone b (etag_options version ++ content_format format)) (omega arith)

-- where options fit with that of a block, they fit without it
pub without_block : (b : Option BlockOption) (os ps qs : List CoapOption) (n : ℕ)
    → length (options_spelling 0 (os ++ (ps ++ with_block b qs))) ≤ n → length (options_spelling 0 (os ++ (ps ++ qs))) ≤ n
without_block b os ps qs n fits =
    let L : List CoapOption → Type 0 = λ l. length (options_spelling 0 l) ≤ n in
    let whole : L ((os ++ (ps ++ qs)) ++ block_options b) = subst L (block_last b os ps qs) fits in
    let fewer = longer 0 (os ++ (ps ++ qs)) (block_options b) in
    omega arith

-- ---- a message that has room is written

-- two parts
pub both_written : (r q : Result (Unit {0}) NoRoom) (os ps : List CoapOption) (a b c : WrittenOptions) → PutsOptions os r a b → PutsOptions ps q b c
    → length (options_spelling 0 ((a.list ++ os) ++ ps)) ≤ a.room → IsOk r × IsOk q × (c.list ≡ (a.list ++ os) ++ ps)
both_written (Ok u) (Ok v) os ps a b c first second fits =
    (refl, refl, ap (λ (w : WrittenOptions). w.list) second ∙ ap (λ (w : WrittenOptions). w.list ++ ps) first)
both_written (Ok u) (Err e) os ps a b c first second fits =
    let W : WrittenOptions → Type 0 = λ w. w.room < length (options_spelling 0 (w.list ++ ps)) in
    let small : W (record a { list = a.list ++ os }) = subst W first second in
    absurd (omega arith)
both_written (Err e) q os ps a b c first second fits = let l = longer 0 (a.list ++ os) ps in absurd (omega arith)

pub options_written : (result : Result (Unit {0}) NoRoom) (os : List CoapOption) (old new : WrittenOptions) → PutsOptions os result old new
    → length (options_spelling 0 (old.list ++ os)) ≤ old.room → IsOk result × (new.list ≡ old.list ++ os)
options_written (Ok u) os old new puts fits = (refl, ap (λ (w : WrittenOptions). w.list) puts)
options_written (Err e) os old new puts fits = absurd (omega arith)

pub is_written : (result : Result ℕ NoRoom) (room n : ℕ) → OnErr result (room < n) → room ≡ LONGEST_MESSAGE → n ≤ LONGEST_MESSAGE → IsOk result
is_written (Ok k) room n no_room is fits = refl
is_written (Err e) room n no_room is fits = absurd (omega arith)
