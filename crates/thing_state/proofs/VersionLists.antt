-- Versions of properties, gone through one by one.
use Rattle.std.proofs.Common.{◌≡◌, ℕ, zero, suc, ◌+◌, ◌<◌, ◌≤◌, List, [], ◌∷◌, length, map, get_or, slice_set, Bool, true, false, cond, not, refl, sym, ap, ◌∙◌, arith}
use Rattle.std.specs.Prelude.{Some, None, ◌==◌, nat_lt}
use Rattle.std.specs.List.{position, position_or_len}
use Rattle.std.proofs.lemmas.List.Quantifiers.{position-Some}
use Rattle.std.proofs.lemmas.Bool.{ltb-false}
use Rattle.std.proofs.lemmas.Bool.Decides.{nat_tests}
use Rattle.thing_site.specs.Site.{Placed}
use Rattle.thing_state.specs.State.{Version, is_last_seen, after_text, versions_after, version_of, tag_of_version, tag_of, unseen}

-- ---- the one at a place is the first of its slot

at_place : (slot : ℕ) (text : List ℕ) (d : Version) (vs : List Version) (i : ℕ) → i < length vs → ((get_or vs i d).slot == slot) ≡ true → ((k : ℕ) → k < i → ((get_or vs k d).slot == slot) ≡ false)
    → (slice_set vs i (after_text text (get_or vs i d)) ≡ versions_after slot text vs) × ((get_or vs i d).number ≡ version_of slot vs)
at_place slot text d [] i within here before = absurd (omega arith)
at_place slot text d (v ∷ vs) zero within here before = (rw here refl, rw here refl)
at_place slot text d (v ∷ vs) (suc i) within here before =
    let other : (v.slot == slot) ≡ false = before 0 (omega arith) in
    let rest = at_place slot text d vs i (omega arith) here (λ k h. before (suc k) (omega arith)) in
    (rw other (ap (λ (l : List Version). v ∷ l) rest.0), rw other rest.1)

pub seen_at : (slot : ℕ) (text : List ℕ) (vs : List Version) (i : ℕ) (v : Version) → Some i ≡ position (λ x. x.slot == slot) vs → v ≡ get_or vs i v → slice_set vs i (after_text text v) ≡ versions_after slot text vs
seen_at slot text vs i v found at =
    let there = position-Some (λ (x : Version). x.slot == slot) vs i v (sym found) in
    ap (λ (x : Version). slice_set vs i (after_text text x)) at ∙ (at_place slot text v vs i there.0 there.1 there.2).0

pub version_at : (slot : ℕ) (vs : List Version) (i : ℕ) (v : Version) → Some i ≡ position (λ x. x.slot == slot) vs → v ≡ get_or vs i v → v.number ≡ version_of slot vs
version_at slot vs i v found at =
    let there = position-Some (λ (x : Version). x.slot == slot) vs i v (sym found) in
    ap (λ (x : Version). x.number) at ∙ (at_place slot [] v vs i there.0 there.1 there.2).1

seen_here : (slot : ℕ) (text : List ℕ) (d : Version) (vs : List Version) (i : ℕ) → i < length vs → ((get_or vs i d).slot == slot) ≡ true → ((k : ℕ) → k < i → ((get_or vs k d).slot == slot) ≡ false)
    → (after_text text (get_or vs i d)).number ≡ version_of slot (versions_after slot text vs)
seen_here slot text d [] i within here before = absurd (omega arith)
seen_here slot text d (v ∷ vs) zero within here before = rw here (by_test (is_last_seen text v))
  where
    by_test : (b : Bool) → (cond b v (record v { number = v.number + 1; text = Some text })).number
        ≡ version_of slot (cond b v (record v { number = v.number + 1; text = Some text }) ∷ vs)
    by_test true = rw here refl
    by_test false = rw here refl
seen_here slot text d (v ∷ vs) (suc i) within here before =
    let other : (v.slot == slot) ≡ false = before 0 (omega arith) in
    let rest : (after_text text (get_or vs i d)).number ≡ version_of slot (versions_after slot text vs) = seen_here slot text d vs i (omega arith) here (λ k h. before (suc k) (omega arith)) in
    rw other (rw other rest)

pub version_seen : (slot : ℕ) (text : List ℕ) (vs : List Version) (i : ℕ) (v : Version) → Some i ≡ position (λ x. x.slot == slot) vs → v ≡ get_or vs i v
    → (after_text text v).number ≡ version_of slot (versions_after slot text vs)
version_seen slot text vs i v found at =
    let there = position-Some (λ (x : Version). x.slot == slot) vs i v (sym found) in
    ap (λ (x : Version). (after_text text x).number) at ∙ seen_here slot text v vs i there.0 there.1 there.2

tag_place : (slot : ℕ) (d : Version) (vs : List Version) (i : ℕ) → i < length vs → ((get_or vs i d).slot == slot) ≡ true → ((k : ℕ) → k < i → ((get_or vs k d).slot == slot) ≡ false)
    → tag_of_version (get_or vs i d) ≡ tag_of slot vs
tag_place slot d [] i within here before = absurd (omega arith)
tag_place slot d (v ∷ vs) zero within here before = rw here refl
tag_place slot d (v ∷ vs) (suc i) within here before =
    rw (before 0 (omega arith)) (tag_place slot d vs i (omega arith) here (λ k h. before (suc k) (omega arith)))

pub tag_at : (slot : ℕ) (vs : List Version) (i : ℕ) (v : Version) → Some i ≡ position (λ x. x.slot == slot) vs → v ≡ get_or vs i v → tag_of_version v ≡ tag_of slot vs
tag_at slot vs i v found at =
    let there = position-Some (λ (x : Version). x.slot == slot) vs i v (sym found) in
    ap tag_of_version at ∙ tag_place slot v vs i there.0 there.1 there.2

-- ---- there is none of this slot

none_found : (p : Version → Bool) (vs : List Version) → position p vs ≡ None → length vs ≤ position_or_len p vs
none_found p vs e = by_test (nat_lt (position_or_len p vs) (length vs)) refl e
  where
    by_test : (b : Bool) → nat_lt (position_or_len p vs) (length vs) ≡ b → cond b (Some (position_or_len p vs)) None ≡ None → length vs ≤ position_or_len p vs
    by_test true t n = absurd cc
    by_test false t n = ltb-false (position_or_len p vs) (length vs) t

none_there : (slot : ℕ) (text : List ℕ) (vs : List Version) → length vs ≤ position_or_len (λ v. v.slot == slot) vs → (versions_after slot text vs ≡ vs) × (version_of slot vs ≡ 0)
none_there slot text [] past = (refl, refl)
none_there slot text (v ∷ vs) past = by_test (none_there slot text vs) (v.slot == slot) refl past
  where
    by_test : (length vs ≤ position_or_len (λ x. x.slot == slot) vs → (versions_after slot text vs ≡ vs) × (version_of slot vs ≡ 0))
        → (b : Bool) → (v.slot == slot) ≡ b → suc (length vs) ≤ cond (not b) (1 + position_or_len (λ x. x.slot == slot) vs) 0 → (versions_after slot text (v ∷ vs) ≡ v ∷ vs) × (version_of slot (v ∷ vs) ≡ 0)
    by_test rest true e p = absurd (omega (arith, p))
    by_test rest false e p = let further = rest (omega (arith, p)) in (rw e (ap (λ (l : List Version). v ∷ l) further.0), rw e further.1)

pub none_seen : (slot : ℕ) (text : List ℕ) (vs : List Version) → None ≡ position (λ v. v.slot == slot) vs → vs ≡ versions_after slot text vs
none_seen slot text vs e = sym (none_there slot text vs (none_found (λ (v : Version). v.slot == slot) vs (sym e))).0

pub no_version : (slot : ℕ) (vs : List Version) → None ≡ position (λ v. v.slot == slot) vs → 0 ≡ version_of slot vs
no_version slot vs e = sym (none_there slot [] vs (none_found (λ (v : Version). v.slot == slot) vs (sym e))).1

no_tag_past : (slot : ℕ) (vs : List Version) → length vs ≤ position_or_len (λ v. v.slot == slot) vs → tag_of slot vs ≡ 0
no_tag_past slot [] past = refl
no_tag_past slot (v ∷ vs) past = by_test (no_tag_past slot vs) (v.slot == slot) refl past
  where
    by_test : (length vs ≤ position_or_len (λ x. x.slot == slot) vs → tag_of slot vs ≡ 0)
        → (b : Bool) → (v.slot == slot) ≡ b → suc (length vs) ≤ cond (not b) (1 + position_or_len (λ x. x.slot == slot) vs) 0 → tag_of slot (v ∷ vs) ≡ 0
    by_test rest true e p = absurd (omega (arith, p))
    by_test rest false e p = rw e (rest (omega (arith, p)))

pub no_tag : (slot : ℕ) (vs : List Version) → None ≡ position (λ v. v.slot == slot) vs → 0 ≡ tag_of slot vs
no_tag slot vs e = sym (no_tag_past slot vs (none_found (λ (v : Version). v.slot == slot) vs (sym e)))

-- ---- how far a version rises

pub versions_length : (slot : ℕ) (text : List ℕ) (vs : List Version) → length (versions_after slot text vs) ≡ length vs
versions_length slot text [] = refl
versions_length slot text (v ∷ vs) = by_test (versions_length slot text vs) (v.slot == slot)
  where
    by_test : length (versions_after slot text vs) ≡ length vs → (b : Bool) → length (cond b (after_text text v ∷ vs) (v ∷ versions_after slot text vs)) ≡ suc (length vs)
    by_test rest true = refl
    by_test rest false = ap suc rest

-- by one at most, whichever it is
pub one_more_at_most : (slot : ℕ) (text : List ℕ) (vs : List Version) (s : ℕ) → version_of s (versions_after slot text vs) ≤ version_of s vs + 1
one_more_at_most slot text [] s = omega arith
one_more_at_most slot text (v ∷ vs) s = by_slot (one_more_at_most slot text vs s) (v.slot == slot)
  where
    by_same : (b : Bool) → cond b (v.number + 1) (version_of s vs) ≤ cond b v.number (version_of s vs) + 1
    by_same true = omega arith
    by_same false = omega arith

    by_text : (b : Bool) → version_of s (cond b v (record v { number = v.number + 1; text = Some text }) ∷ vs) ≤ version_of s (v ∷ vs) + 1
    by_text true = omega arith
    by_text false = by_same (v.slot == s)

    by_other : version_of s (versions_after slot text vs) ≤ version_of s vs + 1 → (b : Bool)
        → cond b v.number (version_of s (versions_after slot text vs)) ≤ cond b v.number (version_of s vs) + 1
    by_other rest true = omega arith
    by_other rest false = rest

    by_slot : version_of s (versions_after slot text vs) ≤ version_of s vs + 1 → (b : Bool)
        → version_of s (cond b (after_text text v ∷ vs) (v ∷ versions_after slot text vs)) ≤ version_of s (v ∷ vs) + 1
    by_slot rest true = by_text (is_last_seen text v)
    by_slot rest false = by_other rest (v.slot == s)

-- and that of another property by nothing
pub others_stay : (slot : ℕ) (text : List ℕ) (vs : List Version) (s : ℕ) → (slot == s) ≡ false → version_of s (versions_after slot text vs) ≡ version_of s vs
others_stay slot text [] s other = refl
others_stay slot text (v ∷ vs) s other = by_slot (others_stay slot text vs s other) (v.slot == slot) refl
  where
    by_text : (v.slot == s) ≡ false → (b : Bool) → version_of s (cond b v (record v { number = v.number + 1; text = Some text }) ∷ vs) ≡ version_of s (v ∷ vs)
    by_text apart true = refl
    by_text apart false = rw apart refl

    by_slot : version_of s (versions_after slot text vs) ≡ version_of s vs → (b : Bool) → (v.slot == slot) ≡ b
        → version_of s (cond b (after_text text v ∷ vs) (v ∷ versions_after slot text vs)) ≡ version_of s (v ∷ vs)
    by_slot rest true e =
        let apart : (v.slot == s) ≡ false = grind (arith, nat_tests, e, other) in
        by_text apart (is_last_seen text v)
    by_slot rest false e = ap (λ (n : ℕ). cond (v.slot == s) v.number n) rest

pub seen_within : (slot : ℕ) (text : List ℕ) (vs : List Version) (n : ℕ) → ((s : ℕ) → version_of s vs < n) → (s : ℕ) → version_of s (versions_after slot text vs) ≤ n
seen_within slot text vs n below s = omega (arith, one_more_at_most slot text vs s, below s)

-- before anything was seen
pub unseen_version : (left_out slot : ℕ) (ps : List Placed) → version_of slot (map (unseen left_out) ps) ≤ left_out
unseen_version left_out slot [] = omega arith
unseen_version left_out slot (p ∷ ps) = by_test (unseen_version left_out slot ps) (p.slot == slot)
  where
    by_test : version_of slot (map (unseen left_out) ps) ≤ left_out → (b : Bool) → cond b left_out (version_of slot (map (unseen left_out) ps)) ≤ left_out
    by_test rest true = omega arith
    by_test rest false = rest
