-- The answer to a block, from the steps of the code.
use Rattle.std.proofs.Common.{◌≡◌, ◌+◌, ◌≤◌, ◌<◌, ℕ, zero, suc, Bool, true, false, List, [], ◌∷◌, ◌++◌, set, remove, length, get_or, Option, Some, None, refl, ap, sym, subst, ◌∙◌, arith}
use Rattle.std.specs.Prelude.{◌==◌, ◌≢◌, not, nat_lt, if◌then◌else◌}
use Rattle.std.proofs.lemmas.Bool.Decides.{nat_tests}
use Rattle.coap_msg.specs.declared.block.Block.{Block}
use Rattle.coap_msg.specs.Blocks.{block_start}
use Rattle.coap_blocks.specs.Parts.{Origin, Arrival, Part, Gives, most_parts, place_of, is_bad, answer_at, extended, joined_to, new_part, part_at, joined_at, joined, begun, other_parts, after_block}
use Rattle.coap_blocks.specs.declared.added.Added.{Added}
use Rattle.coap_blocks.specs.declared.added.Added.TheVariants as answer

-- two answers that are the same, and the parts then
same_gives : (x y : Added × List Part) (r : Added) (new : List Part) → x ≡ y → Gives y r new → Gives x r new
same_gives x y r new e h = subst (λ (z : Added × List Part). Gives z r new) (sym e) h

-- ---- a block that is joined to the part at a place

starts : (m n : ℕ) → m ≡ n → (not (m == n)) ≡ false
starts m n e = grind (arith, nat_tests)

starts_not : (m n : ℕ) → m ≢ n → (not (m == n)) ≡ true
starts_not m n e = grind (arith, nat_tests)

fits : (n : ℕ) → n ≤ 16384 → nat_lt 16384 n ≡ false
fits n h = grind (arith, nat_tests)

fits_not : (n : ℕ) → 16384 < n → nat_lt 16384 n ≡ true
fits_not n h = grind (arith, nat_tests)

-- the answer, by the two tests
abbrev pub said_to : Block → List ℕ → ℕ → Part → List Part → Bool → Bool → Added × List Part
said_to b payload place own parts apart long =
    if apart then (answer.Incomplete, remove parts place) else if long then (answer.TooLarge, remove parts place) else (answer_at place b, set parts place (extended payload own))

to_tests : (b : Block) (payload : List ℕ) (place : ℕ) (own : Part) (parts : List Part) (apart long : Bool)
    → (not (length own.bytes == block_start b)) ≡ apart → nat_lt 16384 (length own.bytes + length payload) ≡ long → joined_to b payload place own parts ≡ said_to b payload place own parts apart long
to_tests b payload place own parts apart long e f =
    ap (λ (t : Bool). said_to b payload place own parts t (nat_lt 16384 (length own.bytes + length payload))) e ∙ ap (λ (t : Bool). said_to b payload place own parts apart t) f

pub joins_not : (b : Block) (payload : List ℕ) (place : ℕ) (own : Part) (parts new : List Part)
    → length own.bytes ≢ block_start b → new ≡ remove parts place → Gives (joined_to b payload place own parts) answer.Incomplete new
joins_not b payload place own parts new apart gone =
    same_gives (joined_to b payload place own parts) (answer.Incomplete, remove parts place) answer.Incomplete new
    (to_tests b payload place own parts true (nat_lt 16384 (length own.bytes + length payload)) (starts_not (length own.bytes) (block_start b) apart) refl)
    (record { answer_is = refl; parts_are = gone })

pub joins_too_much : (b : Block) (payload : List ℕ) (place : ℕ) (own : Part) (parts new : List Part)
    → length own.bytes ≡ block_start b → 16384 < length own.bytes + length payload → new ≡ remove parts place → Gives (joined_to b payload place own parts) answer.TooLarge new
joins_too_much b payload place own parts new start long gone =
    same_gives (joined_to b payload place own parts) (answer.TooLarge, remove parts place) answer.TooLarge new
    (to_tests b payload place own parts false true (starts (length own.bytes) (block_start b) start) (fits_not (length own.bytes + length payload) long))
    (record { answer_is = refl; parts_are = gone })

pub joins : (b : Block) (payload : List ℕ) (place : ℕ) (own : Part) (parts new : List Part) (said : Added)
    → length own.bytes ≡ block_start b → length own.bytes + length payload ≤ 16384 → new ≡ set parts place (extended payload own) → said ≡ answer_at place b
    → Gives (joined_to b payload place own parts) said new
joins b payload place own parts new said start short grown is =
    same_gives (joined_to b payload place own parts) (answer_at place b, set parts place (extended payload own)) said new
    (to_tests b payload place own parts false false (starts (length own.bytes) (block_start b) start) (fits (length own.bytes + length payload) short))
    (record { answer_is = is; parts_are = grown })

-- ---- a block and its own part

pub joins_own : (o : Origin) (b : Block) (payload : List ℕ) (place : ℕ) (parts new : List Part) (said : Added)
    → place_of o parts ≡ Some place → Gives (joined_to b payload place (part_at place parts) parts) said new → Gives (joined o b payload parts) said new
joins_own o b payload place parts new said there gives =
    same_gives (joined o b payload parts) (joined_to b payload place (part_at place parts) parts) said new (ap (λ (x : Option ℕ). joined_at b payload x parts) there) gives

pub joins_none : (o : Origin) (b : Block) (payload : List ℕ) (parts : List Part)
    → place_of o parts ≡ None → Gives (joined o b payload parts) answer.Incomplete parts
joins_none o b payload parts none =
    same_gives (joined o b payload parts) (answer.Incomplete, parts) answer.Incomplete parts (ap (λ (x : Option ℕ). joined_at b payload x parts) none) (record { answer_is = refl; parts_are = refl })

-- ---- a first block

pub begins : (a : Arrival) (others with_own new : List Part) (said : Added)
    → nat_lt (length others) most_parts ≡ true → with_own ≡ others ++ new_part a.origin a.moment ∷ [] → Gives (joined a.origin a.block a.payload with_own) said new
    → Gives (begun a others) said new
begins a others with_own new said room own gives =
    same_gives (begun a others) (joined a.origin a.block a.payload with_own) said new
    (ap (λ (t : Bool). if t then joined a.origin a.block a.payload (others ++ new_part a.origin a.moment ∷ []) else (answer.Full, others)) room
    ∙ ap (λ (ps : List Part). joined a.origin a.block a.payload ps) (sym own))
    gives

pub begins_not : (a : Arrival) (others new : List Part) → nat_lt (length others) most_parts ≡ false → new ≡ others → Gives (begun a others) answer.Full new
begins_not a others new room same =
    same_gives (begun a others) (answer.Full, others) answer.Full new
    (ap (λ (t : Bool). if t then joined a.origin a.block a.payload (others ++ new_part a.origin a.moment ∷ []) else (answer.Full, others)) room)
    (record { answer_is = refl; parts_are = same })

-- ---- a block

-- the answer, by the two tests
abbrev said_at : Arrival → List Part → Bool → Bool → Added × List Part
said_at a parts bad first =
    if bad then (answer.BadBlock, parts) else if first then begun a (other_parts a.origin parts) else joined a.origin a.block a.payload parts

by_tests : (a : Arrival) (parts : List Part) (bad first : Bool) → is_bad a.block a.payload ≡ bad → (a.block.number == 0) ≡ first → after_block a parts ≡ said_at a parts bad first
by_tests a parts bad first e f = ap (λ (t : Bool). said_at a parts t (a.block.number == 0)) e ∙ ap (λ (t : Bool). said_at a parts bad t) f

pub adds_bad : (a : Arrival) (parts new : List Part) → is_bad a.block a.payload ≡ true → new ≡ parts → Gives (after_block a parts) answer.BadBlock new
adds_bad a parts new bad same =
    same_gives (after_block a parts) (answer.BadBlock, parts) answer.BadBlock new (by_tests a parts true (a.block.number == 0) bad refl) (record { answer_is = refl; parts_are = same })

pub adds_first : (a : Arrival) (parts lived new : List Part) (said : Added) → is_bad a.block a.payload ≡ false → a.block.number ≡ 0 → lived ≡ parts
    → Gives (begun a (other_parts a.origin lived)) said new → Gives (after_block a parts) said new
adds_first a parts lived new said good first same gives =
    let t : (a.block.number == 0) ≡ true = grind (arith, nat_tests) in
    same_gives (after_block a parts) (begun a (other_parts a.origin lived)) said new
    (by_tests a parts false true good t ∙ ap (λ (ps : List Part). begun a (other_parts a.origin ps)) (sym same)) gives

pub adds_later : (a : Arrival) (parts lived new : List Part) (said : Added) → is_bad a.block a.payload ≡ false → a.block.number ≢ 0 → lived ≡ parts
    → Gives (joined a.origin a.block a.payload lived) said new → Gives (after_block a parts) said new
adds_later a parts lived new said good later same gives =
    let t : (a.block.number == 0) ≡ false = grind (arith, nat_tests) in
    same_gives (after_block a parts) (joined a.origin a.block a.payload lived) said new
    (by_tests a parts false false good t ∙ ap (λ (ps : List Part). joined a.origin a.block a.payload ps) (sym same)) gives

-- ---- reading a part

-- the part at a place, whatever is read past the end
pub part_is : (parts : List Part) (place : ℕ) (d : Part) → place < length parts → get_or parts place d ≡ part_at place parts
part_is [] place d within = absurd (omega arith)
part_is (p ∷ parts) zero d within = refl
part_is (p ∷ parts) (suc place) d within = part_is parts place d (omega arith)

-- any part, which std's lemmas read past the end of a list
pub any_part : Part
any_part = new_part (record { from = record { host = 0; port = 0 }; code = 0; path = [] }) 0
