-- The part of a text that the reply to a block-wise GET has: the first block, by an act or of the links, and each later
-- one, of a body that is kept (RFC 7959, section 2.4).
use Rattle.std.proofs.Common.{◌≡◌, ℕ, ◌+◌, ◌*◌, ◌<◌, ◌≤◌, ◌∙◌, ◌&&◌, ◌||◌, Bool, true, false, Option, Some, None, List, [], ◌∷◌, ◌++◌, take, drop, length, refl, sym, ap, append-nil, append_assoc, length-drop, arith}
use Rattle.std.proofs.Math.ListN.{drop_of_length-le}
use Rattle.std.proofs.Math.Nat.{add-mul}
use Rattle.std.proofs.lemmas.List.{take-append-drop, drop-drop}
use Rattle.std.specs.Prelude.{nat_lt, nat_le, if◌then◌else◌}
use Rattle.std.proofs.lemmas.Bool.Decides.{nat_tests}
use Rattle.coap_msg.specs.declared.block.Block.{Block}
use Rattle.coap_msg.specs.declared.constants.TheConstants.{JSON}
use Rattle.coap_msg.specs.Blocks.{IsBlock, block_size, block_start}
use Rattle.coap_client.specs.Answers.{block2_of as block_said}
use Rattle.coap_blocks.specs.Bodies.{Content, longest_body}
use Rattle.thing_ops.specs.declared.outcome.Outcome.{Outcome}
use Rattle.thing_ops.specs.declared.outcome.Outcome.TheVariants as outcome
use Rattle.thing_ops.specs.Outcomes.{payload_of}
use Rattle.coap_bind.specs.declared.blocks.BlockUse.{BlockUse}
use Rattle.coap_bind.specs.declared.blocks.BlockUse.TheVariants as blocks
use Rattle.coap_bind.specs.Blocks.{Portion, all_of, goes_on, portion_at, first_block, given_portion, is_kept, portion_of, most_bytes, reply_with, answer_reply, content_reply, later_reply, block_reply, with_block, content_format}
use Rattle.coap_bind.specs.Links.{links_content, links_reply}
use Rattle.coap_bind.specs.Writing.{Reply, long_reply, whole_reply, text_format, etag_options, reply_options}
use Rattle.servient_world.specs.Rows.{RowAsk, last_of, joined_payloads, says_more, IsFollowed, IsReadOf}
use Rattle.servient_world.proofs.BlockReplies.{part_block, no_part_block}
use Rattle.servient_world.proofs.Holds.{both_true}

-- the size of a block with this exponent
abbrev pub size_of : ℕ → ℕ
size_of z = block_size (first_block (Some z))

-- The part of a text that the first reply has, and the block that it says: all of it, and that no more follows; or the
-- first block, and whether more follows, where the text is then kept.
pub data FirstOf (z : ℕ) (text payload : List ℕ) (block : Option Block) : Type 0 where
  all_of_it : payload ≡ text → says_more block ≡ false → FirstOf z text payload block
  first_of_it : payload ≡ take (size_of z) text → says_more block ≡ nat_lt (size_of z) (length text) → FirstOf z text payload block

first_is_block : (z : ℕ) (more : Bool) → z ≤ 6 → IsBlock (record { number = 0; more = more; szx = z })
first_is_block z more fits = record { number = omega arith; szx = fits }

starts_at_none : (n : ℕ) → 0 * n ≡ 0
starts_at_none n = omega arith

ends_after_one : (n : ℕ) → 0 * n + n ≡ n
ends_after_one n = omega arith

goes_on_first : (z : ℕ) (text : List ℕ) → goes_on (first_block (Some z)) text ≡ nat_lt (size_of z) (length text)
goes_on_first z text = ap (λ (n : ℕ). nat_lt n (length text)) (ends_after_one (size_of z))

first_payload : (z : ℕ) (text : List ℕ) → (portion_at (first_block (Some z)) text).payload ≡ take (size_of z) text
first_payload z text = ap (λ (n : ℕ). take (size_of z) (drop n text)) (starts_at_none (size_of z))

abbrev shown_in : Option ℕ → ℕ → Portion → Option Block
shown_in tag format p = block_said (etag_options tag ++ with_block p.block (content_format (Some format)))

abbrev portion_if : ℕ → List ℕ → Bool → Bool → Portion
portion_if z text long some = if long || (true && some) then portion_at (first_block (Some z)) text else all_of text

-- a portion with its tag and its format
first_portion : (z : ℕ) (text : List ℕ) (tag : Option ℕ) (format : ℕ) → z ≤ 6 → FirstOf z text (given_portion (Some z) text).payload (shown_in tag format (given_portion (Some z) text))
first_portion z text tag format fits = by_tests (nat_lt (size_of z) (length text)) (nat_lt 0 (length text))
  where
    in_part : FirstOf z text (portion_at (first_block (Some z)) text).payload (shown_in tag format (portion_at (first_block (Some z)) text))
    in_part =
        first_of_it (first_payload z text)
        (ap says_more (part_block tag (Some format) (record { number = 0; more = goes_on (first_block (Some z)) text; szx = z }) (first_is_block z (goes_on (first_block (Some z)) text) fits)) ∙ goes_on_first z text)

    by_tests : (long some : Bool) → FirstOf z text (portion_if z text long some).payload (shown_in tag format (portion_if z text long some))
    by_tests true some = in_part
    by_tests false true = in_part
    by_tests false false = all_of_it refl (ap says_more (no_part_block tag (Some format)))

-- ---- an act

kept_by : (z : ℕ) (text payload : List ℕ) (block : Option Block) → FirstOf z text payload block → nat_lt longest_body (length text) ≡ false → says_more block ≡ true
    → (nat_lt (size_of z) (length text) && nat_le (length text) longest_body) ≡ true
kept_by z text payload block (all_of_it same ends) fits more = absurd (let wrong : true ≡ false = sym more ∙ ends in cc)
kept_by z text payload block (first_of_it same says) fits more =
    let long : nat_lt (size_of z) (length text) ≡ true = sym says ∙ more in
    let short : nat_le (length text) longest_body ≡ true = not_longer (length text) fits in
    both_true (nat_lt (size_of z) (length text)) (nat_le (length text) longest_body) long short
  where
    not_longer : (n : ℕ) → nat_lt longest_body n ≡ false → nat_le n longest_body ≡ true
    not_longer n e = grind (arith, nat_tests)

-- the outcome of an act for a GET: the first block of its payload, which is kept where more follows
pub record ActFirst (z : ℕ) (o : Outcome) (payload : List ℕ) (block : Option Block) : Type 0 where
  pub first : FirstOf z (payload_of o) payload block
  pub kept : says_more block ≡ true → is_kept (Some z) o ≡ true

abbrev pub give : List (List ℕ) → ℕ → ℕ → BlockUse
give path z moment = blocks.Gives (record { path = path; szx = Some z; moment = moment })

short_first : (path : List (List ℕ)) (z moment : ℕ) (o : Outcome) → z ≤ 6 → nat_lt (most_bytes (give path z moment) o) (length (payload_of o)) ≡ false → (whole_reply o).code ≡ 69
    → ActFirst z o (reply_with (portion_of (give path z moment) o) o).payload (block_said (reply_options (reply_with (portion_of (give path z moment) o) o)))
short_first path z moment (outcome.Content value tag) fits short e =
    let f = first_portion z value tag JSON fits in record { first = f; kept = λ more. kept_by z value _ _ f short more }
short_first path z moment (outcome.Description text td) fits short e =
    let f = first_portion z text None (text_format (outcome.Description text td)) fits in record { first = f; kept = λ more. kept_by z text _ _ f short more }
short_first path z moment outcome.Empty fits short e = record { first = all_of_it refl refl; kept = λ more. absurd cc }
short_first path z moment (outcome.NotModified tag) fits short e = absurd (omega (arith, e))
short_first path z moment outcome.Changed fits short e = absurd (omega (arith, e))
short_first path z moment (outcome.Output value) fits short e = absurd (omega (arith, e))
short_first path z moment (outcome.Started place status) fits short e = absurd (omega (arith, e))
short_first path z moment outcome.Deleted fits short e = absurd (omega (arith, e))
short_first path z moment (outcome.Created id) fits short e = absurd (omega (arith, e))
short_first path z moment (outcome.Listed entries) fits short e = absurd (omega (arith, e))
short_first path z moment (outcome.Wait slot) fits short e = absurd (omega (arith, e))
short_first path z moment outcome.NotFound fits short e = absurd (omega (arith, e))
short_first path z moment (outcome.NotAllowed allow) fits short e = absurd (omega (arith, e))
short_first path z moment outcome.NotAcceptable fits short e = absurd (omega (arith, e))
short_first path z moment outcome.Format fits short e = absurd (omega (arith, e))
short_first path z moment outcome.BadValue fits short e = absurd (omega (arith, e))
short_first path z moment outcome.TooLarge fits short e = absurd (omega (arith, e))
short_first path z moment outcome.PreconditionFailed fits short e = absurd (omega (arith, e))
short_first path z moment (outcome.Refused n) fits short e = absurd (omega (arith, e))
short_first path z moment (outcome.DeviceFault n) fits short e = absurd (omega (arith, e))
short_first path z moment outcome.BadAnswer fits short e = absurd (omega (arith, e))
short_first path z moment outcome.InvocationsFull fits short e = absurd (omega (arith, e))
short_first path z moment outcome.CallsUsed fits short e = absurd (omega (arith, e))
short_first path z moment (outcome.Invalid n) fits short e = absurd (omega (arith, e))
short_first path z moment outcome.IdDiffers fits short e = absurd (omega (arith, e))
short_first path z moment outcome.HasId fits short e = absurd (omega (arith, e))
short_first path z moment outcome.BadTtl fits short e = absurd (omega (arith, e))
short_first path z moment outcome.DirectoryFull fits short e = absurd (omega (arith, e))
short_first path z moment outcome.Memory fits short e = absurd (omega (arith, e))

abbrev said_if : ℕ → List (List ℕ) → ℕ → Outcome → Bool → Reply
said_if z path moment o long = if long then long_reply else reply_with (portion_of (give path z moment) o) o

pub act_first : (path : List (List ℕ)) (z moment : ℕ) (o : Outcome) → z ≤ 6 → (answer_reply (give path z moment) o).code ≡ 69
    → ActFirst z o (answer_reply (give path z moment) o).payload (block_said (reply_options (answer_reply (give path z moment) o)))
act_first path z moment o fits is = by_test (nat_lt (most_bytes (give path z moment) o) (length (payload_of o))) refl is
  where
    by_test : (long : Bool) → nat_lt (most_bytes (give path z moment) o) (length (payload_of o)) ≡ long → (said_if z path moment o long).code ≡ 69
        → ActFirst z o (said_if z path moment o long).payload (block_said (reply_options (said_if z path moment o long)))
    by_test true e code = absurd (omega (arith, code))
    by_test false e code = short_first path z moment o fits e code

-- ---- the links

abbrev links_if : ℕ → List ℕ → Bool → Reply
links_if z text long = if long then long_reply else content_reply (given_portion (Some z) text) (links_content text)

pub links_first : (z : ℕ) (text : List ℕ) → z ≤ 6 → (links_reply (Some z) text).code ≡ 69 → FirstOf z text (links_reply (Some z) text).payload (block_said (reply_options (links_reply (Some z) text)))
links_first z text fits is = by_test (nat_lt longest_body (length text)) is
  where
    by_test : (long : Bool) → (links_if z text long).code ≡ 69 → FirstOf z text (links_if z text long).payload (block_said (reply_options (links_if z text long)))
    by_test true code = absurd (omega (arith, code))
    by_test false code = first_portion z text None 40 fits

-- ---- a later block

-- a later block of a body that is kept
pub record LaterOf (b : Block) (found : Option Content) (payload : List ℕ) (block : Option Block) : Type 0 where
  pub content : Content
  pub is : found ≡ Some content
  pub within : block_start b < length content.bytes
  pub part : payload ≡ take (block_size b) (drop (block_start b) content.bytes)
  pub more : says_more block ≡ goes_on b content.bytes

is_within : (m n : ℕ) → nat_lt m n ≡ true → m < n
is_within m n e = grind (arith, nat_tests)

abbrev later_if : Block → Content → Bool → Reply
later_if b c t = if t then content_reply (portion_at b c.bytes) c else block_reply

pub later_of : (b : Block) (found : Option Content) → IsBlock b → (later_reply b found).code ≡ 69 → LaterOf b found (later_reply b found).payload (block_said (reply_options (later_reply b found)))
later_of b None fits is = absurd (omega (arith, is))
later_of b (Some c) fits is = by_test (nat_lt (block_start b) (length c.bytes)) refl is
  where
    by_test : (t : Bool) → nat_lt (block_start b) (length c.bytes) ≡ t → (later_if b c t).code ≡ 69 → LaterOf b (Some c) (later_if b c t).payload (block_said (reply_options (later_if b c t)))
    by_test true e code = record {
      content = c;
      is = refl;
      within = is_within (block_start b) (length c.bytes) e;
      part = refl;
      more = ap says_more (part_block c.tag c.format (record b { more = goes_on b c.bytes }) (record { number = fits.number; szx = fits.szx }));
    }
    by_test false e code = absurd (omega (arith, code))

-- ---- blocks in a row

-- the payload of a block with this number, and whether more follows
pub record IsBlockOf (z n : ℕ) (text : List ℕ) (y : RowAsk) : Type 0 where
  pub part : y.payload ≡ take (size_of z) (drop (n * size_of z) text)
  pub more : says_more y.block ≡ nat_lt (n * size_of z + size_of z) (length text)

abbrev pub AreBlocksOf : ℕ → List ℕ → ℕ → List RowAsk → Type 0
AreBlocksOf z text n [] = Unit {0}
AreBlocksOf z text n (y ∷ row) = IsBlockOf z n text y × IsFollowed y row × AreBlocksOf z text (n + 1) row

no_more : (m n : ℕ) → nat_lt m n ≡ false → n ≤ m
no_more m n e = grind (arith, nat_tests)

-- the rest behind a block, where none follows
nothing_left : (size start : ℕ) (text : List ℕ) → length text ≤ start + size → drop size (drop start text) ≡ []
nothing_left size start text short = drop_of_length-le (drop start text) (omega (arith, length-drop start text))

times_more : (n size : ℕ) → n * size + size ≡ (n + 1) * size
times_more n size = let split : (n + 1) * size ≡ n * size + 1 * size = add-mul n 1 size in omega arith

pub blocks_join : (z n : ℕ) (text : List ℕ) (y : RowAsk) (row : List RowAsk) → AreBlocksOf z text n (y ∷ row)
    → (rest : List ℕ) × (drop (n * size_of z) text ≡ joined_payloads (y ∷ row) ++ rest) × (says_more (last_of y row).block ≡ false → rest ≡ [])
blocks_join z n text y [] are =
    let behind : List ℕ = drop (n * size_of z) text in (
      drop (size_of z) behind,
      sym (take-append-drop (size_of z) behind) ∙ ap (λ (l : List ℕ). l ++ drop (size_of z) behind) (sym are.0.part ∙ sym (append-nil y.payload)),
      (λ ends. nothing_left (size_of z) (n * size_of z) text (no_more (n * size_of z + size_of z) (length text) (sym are.0.more ∙ ends))),
    )
blocks_join z n text y (w ∷ row) are =
    let behind : List ℕ = drop (n * size_of z) text in
    let rest = blocks_join z (n + 1) text w row are.2 in
    let next : n * size_of z + size_of z ≡ (n + 1) * size_of z = times_more n (size_of z) in
    let left : drop (size_of z) behind ≡ joined_payloads (w ∷ row) ++ rest.0
    = drop-drop (size_of z) (n * size_of z) text ∙ (ap (λ (k : ℕ). drop k text) next ∙ rest.1) in (
      rest.0,
      sym (take-append-drop (size_of z) behind)
          ∙ (ap (λ (l : List ℕ). l ++ drop (size_of z) behind) (sym are.0.part)
          ∙ (ap (λ (l : List ℕ). y.payload ++ l) left ∙ sym (append_assoc y.payload (joined_payloads (w ∷ row)) rest.0))),
      rest.2,
    )

-- a row whose first reply has the first of a text, and whose others are blocks of it
pub row_reads : (z : ℕ) (text : List ℕ) (x : RowAsk) (row : List RowAsk) → FirstOf z text x.payload x.block → IsFollowed x row → AreBlocksOf z text 1 row → IsReadOf text x row
row_reads z text x [] (all_of_it same ends) followed are = ([], sym same ∙ (sym (append-nil x.payload) ∙ sym (append-nil (x.payload ++ []))), (λ e. refl))
row_reads z text x [] (first_of_it same says) followed are = (
  drop (size_of z) text,
  sym (take-append-drop (size_of z) text) ∙ ap (λ (l : List ℕ). l ++ drop (size_of z) text) (sym same ∙ sym (append-nil x.payload)),
  (λ ends. nothing_left (size_of z) 0 text (let short = no_more (size_of z) (length text) (sym says ∙ ends) in omega arith)),
)
row_reads z text x (y ∷ row) (all_of_it same ends) followed are = absurd (let wrong : true ≡ false = sym followed ∙ ends in cc)
row_reads z text x (y ∷ row) (first_of_it same says) followed are =
    let rest = blocks_join z 1 text y row are in
    let one : 1 * size_of z ≡ size_of z = omega arith in
    let left : drop (size_of z) text ≡ joined_payloads (y ∷ row) ++ rest.0 = ap (λ (k : ℕ). drop k text) (sym one) ∙ rest.1 in (
      rest.0,
      sym (take-append-drop (size_of z) text)
          ∙ (ap (λ (l : List ℕ). l ++ drop (size_of z) text) (sym same)
          ∙ (ap (λ (l : List ℕ). x.payload ++ l) left ∙ sym (append_assoc x.payload (joined_payloads (y ∷ row)) rest.0))),
      rest.2,
    )
