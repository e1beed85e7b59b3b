-- The answer to a response that comes in blocks, from the steps of the code.
use Rattle.std.proofs.Common.{◌≡◌, ◌+◌, ◌/◌, ◌≤◌, ◌<◌, ◌++◌, ℕ, Bool, true, false, List, length, Option, refl, ap, sym, subst, ◌∙◌, arith}
use Rattle.std.specs.Prelude.{nat_lt, if◌then◌else◌}
use Rattle.std.proofs.Math.Nat.{div-le_self}
use Rattle.std.proofs.lemmas.Bool.Decides.{nat_tests}
use Rattle.coap_msg.specs.declared.block.Block.{Block}
use Rattle.coap_msg.specs.Blocks.{IsBlock}
use Rattle.coap_client.specs.Transfers.{after_response, answer_to, is_broken, Takes}
use Rattle.coap_client.specs.declared.transfer.Taken.{Taken}
use Rattle.coap_client.specs.declared.transfer.Taken.TheVariants as answer

-- the answer, by the two tests
abbrev said_at : Option Block → List ℕ → List ℕ → Bool → Bool → Taken × List ℕ
said_at b payload so_far broken long =
    if broken then (answer.Broken, so_far) else if long then (answer.TooLong, so_far) else (answer_to b (length so_far + length payload), so_far ++ payload)

by_tests : (b : Option Block) (payload so_far : List ℕ) (broken long : Bool) → is_broken b payload (length so_far) ≡ broken → nat_lt 65536 (length so_far + length payload) ≡ long
    → after_response b payload so_far ≡ said_at b payload so_far broken long
by_tests b payload so_far broken long e f =
    ap (λ (t : Bool). said_at b payload so_far t (nat_lt 65536 (length so_far + length payload))) e ∙ ap (λ (t : Bool). said_at b payload so_far broken t) f

same_takes : (x y : Taken × List ℕ) (said : Taken) (body : List ℕ) → x ≡ y → Takes y said body → Takes x said body
same_takes x y said body e h = subst (λ (z : Taken × List ℕ). Takes z said body) (sym e) h

pub takes_broken : (b : Option Block) (payload so_far body : List ℕ) → is_broken b payload (length so_far) ≡ true → body ≡ so_far
    → Takes (after_response b payload so_far) answer.Broken body
takes_broken b payload so_far body broken same =
    same_takes (after_response b payload so_far) (answer.Broken, so_far) answer.Broken body (by_tests b payload so_far true (nat_lt 65536 (length so_far + length payload)) broken refl)
    (record { answer_is = refl; body_is = same })

pub takes_too_long : (b : Option Block) (payload so_far body : List ℕ) → is_broken b payload (length so_far) ≡ false → 65536 < length so_far + length payload → body ≡ so_far
    → Takes (after_response b payload so_far) answer.TooLong body
takes_too_long b payload so_far body whole long same =
    let t : nat_lt 65536 (length so_far + length payload) ≡ true = grind (arith, nat_tests) in
    same_takes (after_response b payload so_far) (answer.TooLong, so_far) answer.TooLong body (by_tests b payload so_far false true whole t) (record { answer_is = refl; body_is = same })

pub takes : (b : Option Block) (payload so_far body : List ℕ) (said : Taken) → is_broken b payload (length so_far) ≡ false → length so_far + length payload ≤ 65536
    → body ≡ so_far ++ payload → said ≡ answer_to b (length so_far + length payload) → Takes (after_response b payload so_far) said body
takes b payload so_far body said whole short grown is =
    let t : nat_lt 65536 (length so_far + length payload) ≡ false = grind (arith, nat_tests) in
    same_takes (after_response b payload so_far) (answer_to b (length so_far + length payload), so_far ++ payload) said body (by_tests b payload so_far false false whole t)
    (record { answer_is = is; body_is = grown })

-- the number of the next block is within the body
pub number_within : (n size : ℕ) → n / size ≤ n
number_within n size = div-le_self n size

-- the block that is asked for
pub asked_is : (x b : Block) → answer.More x ≡ answer.More b → IsBlock x → IsBlock b
asked_is x b e is = let same : x ≡ b = cc in subst IsBlock same is
