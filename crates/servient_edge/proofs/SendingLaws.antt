-- Laws of what is sent and kept.
use Rattle.std.proofs.Common.{◌≡◌, ◌∙◌, ◌-◌, ℕ, zero, suc, List, [], ◌∷◌, ◌++◌, Option, Some, None, Result, Ok, Err, true, length, take, drop, nat_eq, if◌then◌else◌, refl, sym, ap, arith, take-append-drop, append_assoc}
use Rattle.std.proofs.lemmas.List.{append-nil}
use Rattle.std.proofs.lemmas.Bool.Decides.{nat_tests}
use Rattle.servient_outside.specs.Told.{Continues}
use Rattle.servient_system.specs.declared.asked.Asked.{Asked}
use Rattle.servient_system.specs.declared.asked.Asked.TheVariants as asked
use Rattle.servient_system.specs.declared.refusal.Refusal.{Refusal}
use Rattle.servient_edge.specs.Sending.{SentOn, Takes, taken_of, taken_on, written_by, written_on}

-- ---- the bytes that calls of the system wrote

written_more : (c : ℕ) (calls more : List Asked) → written_on c (calls ++ more) ≡ written_on c calls ++ written_on c more
written_more c [] more = refl
written_more c (call ∷ calls) more = ap (λ (zs : List ℕ). written_by c call ++ zs) (written_more c calls more) ∙ sym (append_assoc (written_by c call) (written_on c calls) (written_on c more))

same_number : (c : ℕ) → nat_eq c c ≡ true
same_number c = grind (arith, nat_tests)

-- after one more write
taken_more : (c : ℕ) (told told_after : Option (List Asked)) (bytes : List ℕ) (answer : Result ℕ Refusal)
    → Continues told told_after (asked.Wrote c bytes answer ∷ []) → Continues (taken_on c told) (taken_on c told_after) (taken_of bytes answer)
taken_more c told None bytes answer continues = tt
taken_more c told (Some all) bytes answer continues =
    let past = continues.0 in
    let own : written_by c (asked.Wrote c bytes answer) ≡ taken_of bytes answer = ap (λ t. if t then taken_of bytes answer else []) (same_number c) in
    let grown : written_on c all ≡ written_on c past ++ taken_of bytes answer =
    ap (written_on c) continues.2 ∙ written_more c past (asked.Wrote c bytes answer ∷ []) ∙ ap (λ (zs : List ℕ). written_on c past ++ zs) (append-nil (written_by c (asked.Wrote c bytes answer)) ∙ own) in
    (written_on c past, ap (taken_on c) continues.1, grown)

-- what was taken by a write is what it answered
pub takes_written : (c : ℕ) (told told_after : Option (List Asked)) (bytes : List ℕ) (answer : Result ℕ Refusal)
    → Continues told told_after (asked.Wrote c bytes answer ∷ []) → Takes (taken_on c told) (taken_on c told_after) answer bytes
takes_written c told told_after bytes (Ok count) continues = taken_more c told told_after bytes (Ok count) continues
takes_written c told told_after bytes (Err refusal) continues = taken_more c told told_after bytes (Err refusal) continues

-- a write that was refused took none
pub takes_none : (c : ℕ) (told told_after : Option (List Asked)) (bytes : List ℕ) (refusal : Refusal)
    → Continues told told_after (asked.Wrote c bytes (Err refusal) ∷ []) → Continues (taken_on c told) (taken_on c told_after) []
takes_none c told told_after bytes refusal continues = taken_more c told told_after bytes (Err refusal) continues

-- ---- what is kept

-- the bytes after n of two pieces
pub drop_both : (n : ℕ) (xs ys : List ℕ) → drop n (xs ++ ys) ≡ drop n xs ++ drop (n - length xs) ys
drop_both zero xs ys =
    let none : 0 ≡ 0 - length xs = omega arith in
    ap (λ (k : ℕ). xs ++ drop k ys) none
drop_both (suc n) [] ys =
    let all : suc n ≡ suc n - 0 = omega arith in
    ap (λ (k : ℕ). drop k ys) all
drop_both (suc n) (x ∷ xs) ys =
    let same : n - length xs ≡ suc n - suc (length xs) = omega arith in
    drop_both n xs ys ∙ ap (λ (k : ℕ). drop n xs ++ drop k ys) same

-- where nothing was kept, n bytes of two pieces were taken, and the rest is kept
pub sent_on_written : (taken taken_after : Option (List ℕ)) (n : ℕ) (kept head body kept_after : List ℕ) → kept ≡ []
    → kept_after ≡ kept ++ drop n head ++ drop (n - length head) body → Continues taken taken_after (take n (head ++ body)) → SentOn taken kept (head ++ body) taken_after kept_after
sent_on_written taken taken_after n kept head body kept_after none is took =
    let message = head ++ body in
    let rest : kept_after ≡ drop n message = is ∙ ap (λ (k : List ℕ). k ++ drop n head ++ drop (n - length head) body) none ∙ sym (drop_both n head body) in
    (take n message, ap (λ (k : List ℕ). k ++ message) none ∙ sym (take-append-drop n message) ∙ ap (λ (k : List ℕ). take n message ++ k) (sym rest), took)

-- n of the bytes that were kept were taken, and the rest is kept
pub sent_on_flushed : (taken taken_after : Option (List ℕ)) (n : ℕ) (piece kept kept_after : List ℕ) → piece ≡ kept → kept_after ≡ drop n kept
    → Continues taken taken_after (take n (piece ++ [])) → SentOn taken kept [] taken_after kept_after
sent_on_flushed taken taken_after n piece kept kept_after same rest took =
    let whole : kept ++ [] ≡ piece ++ [] = ap (λ (k : List ℕ). k ++ []) (sym same) in
    let behind : drop n (piece ++ []) ≡ kept_after = ap (drop n) (append-nil piece ∙ same) ∙ sym rest in
    (take n (piece ++ []), whole ∙ sym (take-append-drop n (piece ++ [])) ∙ ap (λ (k : List ℕ). take n (piece ++ []) ++ k) behind, took)
