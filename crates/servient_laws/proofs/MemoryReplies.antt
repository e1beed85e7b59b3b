-- The reply that says that memory was wanting differs from every other reply to the same request, by either binding.
use Rattle.std.proofs.Common.{◌≡◌, ℕ, Bool, true, false, List, [], ◌∷◌, ◌++◌, drop, Option, Some, None, refl, sym, ap, subst, ◌∙◌}
use Rattle.std.specs.Prelude.{◌==◌, length, nat_lt, nat_le, codes, option_map, if◌then◌else◌}
use Rattle.std.proofs.lemmas.List.{append_cancel_left}
use Rattle.std.proofs.lemmas.Option.{same_Some}
use Rattle.coap_msg.specs.declared.block.Block.{Block}
use Rattle.coap_msg.specs.declared.endpoint.Endpoint.{Endpoint}
use Rattle.coap_msg.specs.Blocks.{block_start}
use Rattle.coap_msg.specs.Grammar.{options_spelling, payload_spelling, spelling}
use Rattle.coap_observe.specs.Watching.{Watching}
use Rattle.coap_blocks.specs.Bodies.{Content, longest_body}
use Rattle.coap_blocks.specs.declared.added.Added.{Added}
use Rattle.coap_blocks.specs.declared.added.Added.TheVariants as added
use Rattle.thing_ops.specs.declared.outcome.Outcome.{Outcome}
use Rattle.thing_ops.specs.declared.outcome.Outcome.TheVariants as outcome
use Rattle.thing_ops.specs.Outcomes.{coap, answer_of, payload_of}
use Rattle.coap_bind.specs.declared.observing.Observing.{Observing}
use Rattle.coap_bind.specs.declared.observing.Observing.TheVariants as observing
use Rattle.coap_bind.specs.declared.observing.Effect.{Effect}
use Rattle.coap_bind.specs.declared.observing.Effect.TheVariants as effect
use Rattle.coap_bind.specs.declared.blocks.BlockUse.{BlockUse}
use Rattle.coap_bind.specs.declared.blocks.BlockUse.TheVariants as blocks
use Rattle.coap_bind.specs.Observing.{effect_of, Watches, leaves, cancels, registers}
use Rattle.coap_bind.specs.Blocks.{Portion, most_bytes, portion_of, reply_with, answer_reply, content_reply, portion_at, given_portion, block_reply, later_reply, continue_reply, added_reply}
use Rattle.coap_bind.specs.Links.{links_reply, links_content}
use Rattle.coap_bind.specs.Writing.{Reply, word_reply, whole_reply, long_reply, reply_of, observed, reply_options, ReplyHead, coap_reply}
use Rattle.http_replies.specs.Writing.{phrase_of, phrase_text, field_lines, head_text, http_reply}
use Rattle.http_bind.specs.Replying.{longest_reply_head, location_of, head_of, head_with, reply_body, reply}

-- ---- CoAP

-- a reply is never the one for want of memory, whatever its request was
abbrev pub SaysOther : Reply → Type 0
SaysOther r = (head : ReplyHead) (id : ℕ) → spelling (coap_reply r head id) ≡ spelling (coap_reply (reply_of outcome.Memory) head id) → ⊥

abbrev second_of : List ℕ → ℕ
second_of [] = 0
second_of (a ∷ []) = 0
second_of (a ∷ b ∷ rest) = b

-- it has another code
pub other_code : (r : Reply) → (r.code == 163) ≡ false → SaysOther r
other_code r apart head id same = absurd (let e : true ≡ false = sym (ap (λ (l : List ℕ). second_of l == 163) same) ∙ apart in cc)

-- or it is a word that begins with another byte
other_word : (r : Reply) → reply_options r ≡ [] → (second_of (payload_spelling r.payload) == 109) ≡ false → SaysOther r
other_word r plain apart head id same =
    let rest : options_spelling 0 (reply_options r) ++ payload_spelling r.payload ≡ payload_spelling (codes "memory") =
    append_cancel_left head.token (options_spelling 0 (reply_options r) ++ payload_spelling r.payload) (payload_spelling (codes "memory")) (ap (drop 4) same) in
    let word : payload_spelling r.payload ≡ payload_spelling (codes "memory") = sym (ap (λ os. options_spelling 0 os ++ payload_spelling r.payload) plain) ∙ rest in
    absurd (let e : true ≡ false = sym (ap (λ (l : List ℕ). second_of l == 109) word) ∙ apart in cc)

full_blocks : SaysOther (word_reply (coap 5 03) (codes "blocks"))
full_blocks = other_word (word_reply (coap 5 03) (codes "blocks")) refl refl

-- ---- replies without an act

of_content : (p : Portion) (c : Content) → SaysOther (content_reply p c)
of_content p c = other_code (content_reply p c) refl

of_block : SaysOther block_reply
of_block = other_code block_reply refl

pub later_says : (b : Block) (c : Option Content) → SaysOther (later_reply b c)
later_says b None = of_block
later_says b (Some c) = by (nat_lt (block_start b) (length c.bytes))
  where
    by : (t : Bool) → SaysOther (if t then content_reply (portion_at b c.bytes) c else block_reply)
    by true = of_content (portion_at b c.bytes) c
    by false = of_block

pub added_says : (b : Block) (a : Added) (r : Reply) → added_reply b a ≡ Some r → SaysOther r
added_says b added.Continue r is = subst SaysOther (same_Some (continue_reply b) r is) (other_code (continue_reply b) refl)
added_says b (added.Complete place) r is = absurd cc
added_says b added.BadBlock r is = subst SaysOther (same_Some block_reply r is) of_block
added_says b added.Incomplete r is =
    subst SaysOther (same_Some (word_reply (coap 4 08) (codes "incomplete")) r is) (other_code (word_reply (coap 4 08) (codes "incomplete")) refl)
added_says b added.TooLarge r is = subst SaysOther (same_Some (word_reply (coap 4 13) (codes "body")) r is) (other_code (word_reply (coap 4 13) (codes "body")) refl)
added_says b added.Full r is = subst SaysOther (same_Some (word_reply (coap 5 03) (codes "blocks")) r is) full_blocks

pub links_say : (szx : Option ℕ) (text : List ℕ) → SaysOther (links_reply szx text)
links_say szx text = by (nat_lt longest_body (length text))
  where
    by : (t : Bool) → SaysOther (if t then long_reply else content_reply (given_portion szx text) (links_content text))
    by true = other_code long_reply refl
    by false = of_content (given_portion szx text) (links_content text)

-- ---- replies to what was asked

-- a reply has the code of its outcome, or it is too long
of_code : (observe : Option ℕ) (u : BlockUse) (o : Outcome) → ((whole_reply o).code == 163) ≡ false → SaysOther (observed observe (answer_reply u o))
of_code observe u o apart = by (nat_lt (most_bytes u o) (length (payload_of o)))
  where
    by : (t : Bool) → SaysOther (observed observe (if t then long_reply else reply_with (portion_of u o) o))
    by true = other_code (observed observe long_reply) refl
    by false = other_code (observed observe (reply_with (portion_of u o) o)) apart

-- nobody is registered by a refusal
unregistered : (o : Observing) (target : Option ℕ) (of : Outcome) (does : Effect) (from : Endpoint) (token : List ℕ) (old new : Watching) (observe : Option ℕ)
    → ((t : ℕ) → effect_of o of target ≡ effect.Registers t → ⊥) → Watches (effect_of o of target) from token old observe new → observe ≡ None
unregistered o target of does from token old new observe never (leaves is isnt same) = isnt
unregistered o target of does from token old new observe never (cancels is isnt same) = isnt
unregistered o target of does from token old new observe never (registers t r is move number) = absurd (never t is)

pub calls_say : (u : BlockUse) → SaysOther (observed None (answer_reply u outcome.CallsUsed))
calls_say blocks.Whole = other_word (observed None (answer_reply blocks.Whole outcome.CallsUsed)) refl refl
calls_say (blocks.Gives g) = other_word (observed None (answer_reply (blocks.Gives g) outcome.CallsUsed)) refl refl
calls_say (blocks.Joined b) = other_word (observed None (answer_reply (blocks.Joined b) outcome.CallsUsed)) refl refl

pub invocations_say : (u : BlockUse) → SaysOther (observed None (answer_reply u outcome.InvocationsFull))
invocations_say blocks.Whole = other_word (observed None (answer_reply blocks.Whole outcome.InvocationsFull)) refl refl
invocations_say (blocks.Gives g) = other_word (observed None (answer_reply (blocks.Gives g) outcome.InvocationsFull)) refl refl
invocations_say (blocks.Joined b) = other_word (observed None (answer_reply (blocks.Joined b) outcome.InvocationsFull)) refl refl

refused_calls : (o : Observing) (target : Option ℕ) (t : ℕ) → effect_of o outcome.CallsUsed target ≡ effect.Registers t → ⊥
refused_calls observing.Unchanged target t is = cc
refused_calls observing.Registers target t is = cc
refused_calls observing.Deregisters target t is = cc

refused_invocations : (o : Observing) (target : Option ℕ) (t : ℕ) → effect_of o outcome.InvocationsFull target ≡ effect.Registers t → ⊥
refused_invocations observing.Unchanged target t is = cc
refused_invocations observing.Registers target t is = cc
refused_invocations observing.Deregisters target t is = cc

-- a request that wasn't out of memory gets another reply
pub answer_says : (observe : Option ℕ) (ob : Observing) (u : BlockUse) (o : Outcome) (target : Option ℕ) (from : Endpoint) (token : List ℕ) (old new : Watching) → (o ≡ outcome.Memory → ⊥)
    → Watches (effect_of ob o target) from token old observe new → SaysOther (observed observe (answer_reply u o))
answer_says observe ob u outcome.Memory target from token old new apart w = absurd (apart refl)
answer_says observe ob u outcome.CallsUsed target from token old new apart w =
    subst (λ (x : Option ℕ). SaysOther (observed x (answer_reply u outcome.CallsUsed)))
    (sym (unregistered ob target outcome.CallsUsed (effect_of ob outcome.CallsUsed target) from token old new observe (refused_calls ob target) w)) (calls_say u)
answer_says observe ob u outcome.InvocationsFull target from token old new apart w =
    subst (λ (x : Option ℕ). SaysOther (observed x (answer_reply u outcome.InvocationsFull)))
    (sym (unregistered ob target outcome.InvocationsFull (effect_of ob outcome.InvocationsFull target) from token old new observe (refused_invocations ob target) w)) (invocations_say u)
answer_says observe ob u (outcome.Content value tag) target from token old new apart w = of_code observe u (outcome.Content value tag) refl
answer_says observe ob u (outcome.NotModified tag) target from token old new apart w = of_code observe u (outcome.NotModified tag) refl
answer_says observe ob u (outcome.Description text as_td) target from token old new apart w = of_code observe u (outcome.Description text as_td) refl
answer_says observe ob u outcome.Empty target from token old new apart w = of_code observe u outcome.Empty refl
answer_says observe ob u outcome.Changed target from token old new apart w = of_code observe u outcome.Changed refl
answer_says observe ob u (outcome.Output value) target from token old new apart w = of_code observe u (outcome.Output value) refl
answer_says observe ob u (outcome.Started place status) target from token old new apart w = of_code observe u (outcome.Started place status) refl
answer_says observe ob u outcome.Deleted target from token old new apart w = of_code observe u outcome.Deleted refl
answer_says observe ob u (outcome.Created id) target from token old new apart w = of_code observe u (outcome.Created id) refl
answer_says observe ob u (outcome.Listed entries) target from token old new apart w = of_code observe u (outcome.Listed entries) refl
answer_says observe ob u (outcome.Wait slot) target from token old new apart w = of_code observe u (outcome.Wait slot) refl
answer_says observe ob u outcome.NotFound target from token old new apart w = of_code observe u outcome.NotFound refl
answer_says observe ob u (outcome.NotAllowed allow) target from token old new apart w = of_code observe u (outcome.NotAllowed allow) refl
answer_says observe ob u outcome.NotAcceptable target from token old new apart w = of_code observe u outcome.NotAcceptable refl
answer_says observe ob u outcome.Format target from token old new apart w = of_code observe u outcome.Format refl
answer_says observe ob u outcome.BadValue target from token old new apart w = of_code observe u outcome.BadValue refl
answer_says observe ob u outcome.PreconditionFailed target from token old new apart w = of_code observe u outcome.PreconditionFailed refl
answer_says observe ob u outcome.TooLarge target from token old new apart w = of_code observe u outcome.TooLarge refl
answer_says observe ob u (outcome.Refused n) target from token old new apart w = of_code observe u (outcome.Refused n) refl
answer_says observe ob u (outcome.DeviceFault n) target from token old new apart w = of_code observe u (outcome.DeviceFault n) refl
answer_says observe ob u outcome.BadAnswer target from token old new apart w = of_code observe u outcome.BadAnswer refl
answer_says observe ob u (outcome.Invalid n) target from token old new apart w = of_code observe u (outcome.Invalid n) refl
answer_says observe ob u outcome.IdDiffers target from token old new apart w = of_code observe u outcome.IdDiffers refl
answer_says observe ob u outcome.HasId target from token old new apart w = of_code observe u outcome.HasId refl
answer_says observe ob u outcome.BadTtl target from token old new apart w = of_code observe u outcome.BadTtl refl
answer_says observe ob u outcome.DirectoryFull target from token old new apart w = of_code observe u outcome.DirectoryFull refl

-- ---- HTTP

-- the last digit of the status
abbrev last_digit : List ℕ → ℕ
last_digit (a ∷ b ∷ c ∷ d ∷ e ∷ f ∷ g ∷ h ∷ i ∷ j ∷ k ∷ l ∷ rest) = l
last_digit bytes = 0

either_digit : (t : Bool) (x y rest : List ℕ) (digit : ℕ) → last_digit (x ++ rest) ≡ digit → last_digit (y ++ rest) ≡ digit → last_digit ((if t then x else y) ++ rest) ≡ digit
either_digit true x y rest digit one other = one
either_digit false x y rest digit one other = other

-- of a reply with this status
abbrev EndsIn : ℕ → ℕ → Type 0
EndsIn status digit = (lines rest : List ℕ) → last_digit (head_text (phrase_text (phrase_of status)) lines ++ rest) ≡ digit

digit_of_reply : (status digit : ℕ) → EndsIn status digit → (closes : Bool) (o : Outcome) (body : List ℕ) → last_digit (head_with closes o status ++ body) ≡ digit
digit_of_reply status digit ends closes o body =
    either_digit (nat_le (length (http_reply (head_of status closes (location_of o) o))) longest_reply_head)
    (http_reply (head_of status closes (location_of o) o)) (http_reply (head_of status closes None o)) body digit
    (ends (field_lines (head_of status closes (location_of o) o)) body) (ends (field_lines (head_of status closes None o)) body)

digit_said : (status digit : ℕ) (o : Outcome) (bodiless closes : Bool) (bytes : List ℕ) → (answer_of o).status ≡ Some status → EndsIn status digit → reply bodiless closes o ≡ Some bytes
    → last_digit bytes ≡ digit
digit_said status digit o bodiless closes bytes is ends said =
    let whole : head_with closes o status ++ reply_body bodiless o ≡ bytes =
    same_Some (head_with closes o status ++ reply_body bodiless o) bytes
    (sym (ap (λ (st : Option ℕ). option_map (λ (head : List ℕ). head ++ reply_body bodiless o) (option_map (head_with closes o) st)) is) ∙ said) in
    sym (ap last_digit whole) ∙ digit_of_reply status digit ends closes o (reply_body bodiless o)

-- the reply to a request with this outcome isn't the one for want of memory
abbrev pub DiffersByHttp : Outcome → Type 0
DiffersByHttp o =
    (bodiless closes without closing : Bool) (bytes memory : List ℕ) → reply bodiless closes o ≡ Some bytes → reply without closing outcome.Memory ≡ Some memory → bytes ≡ memory → ⊥

by_status : (status digit : ℕ) (o : Outcome) → (answer_of o).status ≡ Some status → EndsIn status digit → (digit == 55) ≡ false → DiffersByHttp o
by_status status digit o is ends apart bodiless closes without closing bytes memory said short same =
    let one = digit_said status digit o bodiless closes bytes is ends said in
    let other = digit_said 507 55 outcome.Memory without closing memory refl (λ lines rest. refl) short in
    absurd (let e : true ≡ false = ap (λ (n : ℕ). n == 55) (sym other ∙ sym (ap last_digit same) ∙ one) ∙ apart in cc)

pub differs_by_http : (o : Outcome) → (o ≡ outcome.Memory → ⊥) → DiffersByHttp o
differs_by_http outcome.Memory apart = absurd (apart refl)
differs_by_http (outcome.Wait slot) apart = λ bodiless closes without closing bytes memory said short same. absurd (let e : None ≡ Some bytes = said in cc)
differs_by_http (outcome.Content value tag) apart = by_status 200 48 (outcome.Content value tag) refl (λ lines rest. refl) refl
differs_by_http (outcome.Description text as_td) apart = by_status 200 48 (outcome.Description text as_td) refl (λ lines rest. refl) refl
differs_by_http (outcome.Output value) apart = by_status 200 48 (outcome.Output value) refl (λ lines rest. refl) refl
differs_by_http (outcome.Listed entries) apart = by_status 200 48 (outcome.Listed entries) refl (λ lines rest. refl) refl
differs_by_http (outcome.NotModified tag) apart = by_status 304 52 (outcome.NotModified tag) refl (λ lines rest. refl) refl
differs_by_http outcome.Empty apart = by_status 204 52 outcome.Empty refl (λ lines rest. refl) refl
differs_by_http outcome.Changed apart = by_status 204 52 outcome.Changed refl (λ lines rest. refl) refl
differs_by_http outcome.Deleted apart = by_status 204 52 outcome.Deleted refl (λ lines rest. refl) refl
differs_by_http (outcome.Started place status) apart = by_status 201 49 (outcome.Started place status) refl (λ lines rest. refl) refl
differs_by_http (outcome.Created id) apart = by_status 201 49 (outcome.Created id) refl (λ lines rest. refl) refl
differs_by_http outcome.NotFound apart = by_status 404 52 outcome.NotFound refl (λ lines rest. refl) refl
differs_by_http (outcome.NotAllowed allow) apart = by_status 405 53 (outcome.NotAllowed allow) refl (λ lines rest. refl) refl
differs_by_http outcome.NotAcceptable apart = by_status 406 54 outcome.NotAcceptable refl (λ lines rest. refl) refl
differs_by_http outcome.Format apart = by_status 415 53 outcome.Format refl (λ lines rest. refl) refl
differs_by_http outcome.BadValue apart = by_status 400 48 outcome.BadValue refl (λ lines rest. refl) refl
differs_by_http (outcome.Invalid n) apart = by_status 400 48 (outcome.Invalid n) refl (λ lines rest. refl) refl
differs_by_http outcome.IdDiffers apart = by_status 400 48 outcome.IdDiffers refl (λ lines rest. refl) refl
differs_by_http outcome.HasId apart = by_status 400 48 outcome.HasId refl (λ lines rest. refl) refl
differs_by_http outcome.BadTtl apart = by_status 400 48 outcome.BadTtl refl (λ lines rest. refl) refl
differs_by_http outcome.PreconditionFailed apart = by_status 412 50 outcome.PreconditionFailed refl (λ lines rest. refl) refl
differs_by_http outcome.TooLarge apart = by_status 413 51 outcome.TooLarge refl (λ lines rest. refl) refl
differs_by_http (outcome.Refused n) apart = by_status 403 51 (outcome.Refused n) refl (λ lines rest. refl) refl
differs_by_http (outcome.DeviceFault n) apart = by_status 500 48 (outcome.DeviceFault n) refl (λ lines rest. refl) refl
differs_by_http outcome.BadAnswer apart = by_status 500 48 outcome.BadAnswer refl (λ lines rest. refl) refl
differs_by_http outcome.InvocationsFull apart = by_status 503 51 outcome.InvocationsFull refl (λ lines rest. refl) refl
differs_by_http outcome.CallsUsed apart = by_status 503 51 outcome.CallsUsed refl (λ lines rest. refl) refl
differs_by_http outcome.DirectoryFull apart = by_status 503 51 outcome.DirectoryFull refl (λ lines rest. refl) refl
