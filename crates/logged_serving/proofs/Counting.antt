-- The turns of a step, which are found in the handlers by their numbers.
use Rattle.std.proofs.Common.{◌≡◌, ◌∙◌, ℕ, zero, suc, ◌+◌, ◌<◌, ◌≤◌, List, [], ◌∷◌, ◌++◌, length, take, drop, set, get_or, map, replicate, Bool, true, false, cond, refl, sym, ap, subst, arith, length-append, append_assoc, ◌⊎◌, inl, inr}
use Rattle.std.specs.Prelude.{Some, None, nat_lt, slice_get, IfSome}
use Rattle.std.specs.List.{position, flat_map}
use Rattle.std.proofs.lemmas.Bool.{lt-ltb}
use Rattle.std.proofs.lemmas.List.{append-nil, drop-drop}
use Rattle.std.proofs.Math.Seq.{take-append_seam}
use Rattle.std.proofs.lemmas.List.Sums.{position_or_len_is}
use Rattle.std.proofs.lemmas.Grind.{flat_map-append}
use Rattle.thing_handler.specs.declared.handler.Turn.{Turn}
use Rattle.thing_handler.specs.Handler.{Seen, forgotten}
use Rattle.thing_handler.specs.Turns.{RunTurn, kept_turn, turns_of_slot}
use Rattle.servient_outside.specs.Out.{OutSeen}
use Rattle.servient_script.specs.Print.{in_slot}
use Rattle.servient_script.specs.Merging.{AreSplit, IsMerged, begins_with, counts_of, turns_after, HaveKept}
use Rattle.servient_script.proofs.MergeLaws.{next_of, none_left, has_turn}
use Rattle.turn_lines.specs.Buffer.{Buffered, HasPut}
use Rattle.turn_lines.specs.Lines.{logged_turn}
use Rattle.turn_lines.proofs.Putting.{put_then}

-- ---- the slot of a number

-- none of the first n slots has it next
abbrev pub NoneBefore : ℕ → ℕ → List (List Turn) → Type 0
NoneBefore number n by_slot = (k : ℕ) → k < n → begins_with number (get_or by_slot k []) ≡ false

-- what a slot has that is not yet written
pub later_at : (counts : List ℕ) (slots : List Seen) (i d : ℕ) (kept : List Turn) → HaveKept counts slots → i < length counts → IfSome (slice_get slots i) (λ h. kept ≡ h.turns)
    → get_or (turns_after counts slots) i [] ≡ drop (get_or counts i d) kept
later_at [] slots i d kept have within at = absurd (omega (arith, within))
later_at (n ∷ counts) [] i d kept have within at = absurd have
later_at (n ∷ counts) (h ∷ slots) zero d kept have within at = ap (λ (ts : List Turn). drop n ts) (sym at)
later_at (n ∷ counts) (h ∷ slots) (suc i) d kept have within at = later_at counts slots i d kept have.1 (omega (arith, within)) at

pub as_many_after : (counts : List ℕ) (slots : List Seen) → HaveKept counts slots → length (turns_after counts slots) ≡ length counts
as_many_after [] slots have = refl
as_many_after (n ∷ counts) [] have = absurd have
as_many_after (n ∷ counts) (h ∷ slots) have = ap (λ (m : ℕ). suc m) (as_many_after counts slots have.1)

pub slot_found : (number i : ℕ) (by_slot : List (List Turn)) → i < length by_slot → NoneBefore number i by_slot → begins_with number (get_or by_slot i []) ≡ true → position (begins_with number) by_slot ≡ Some i
slot_found number i by_slot within none begins =
    let at = position_or_len_is (begins_with number) by_slot i [] (omega (arith, within)) none (λ _. begins) in
    let t : nat_lt i (length by_slot) ≡ true = lt-ltb i (length by_slot) within in
    rw (at, t) refl

pub no_slot : (number i : ℕ) (by_slot : List (List Turn)) → i ≡ length by_slot → NoneBefore number i by_slot → position (begins_with number) by_slot ≡ None
no_slot number i by_slot all none =
    let at = position_or_len_is (begins_with number) by_slot i [] (omega (arith, all)) none (λ less. absurd (omega (arith, less, all))) in
    rw (at, all) (none_at (length by_slot))
  where
    none_at : (n : ℕ) → cond (nat_lt n n) (Some n) None ≡ None
    none_at n = by_test (nat_lt n n) refl
      where
        by_test : (b : Bool) → nat_lt n n ≡ b → cond b (Some n) None ≡ None
        by_test false is = refl
        by_test true is = absurd (grind (arith, is))

pub none_more : (number i : ℕ) (by_slot : List (List Turn)) → NoneBefore number i by_slot → begins_with number (get_or by_slot i []) ≡ false → NoneBefore number (i + 1) by_slot
none_more number i by_slot none isnt k less = by_place (k_cases k i less)
  where
    k_cases : (k i : ℕ) → k < i + 1 → (k < i) ⊎ (k ≡ i)
    k_cases k i less = grind (arith, less)

    by_place : (k < i) ⊎ (k ≡ i) → begins_with number (get_or by_slot k []) ≡ false
    by_place (inl below) = none k below
    by_place (inr same) = subst (λ (n : ℕ). begins_with number (get_or by_slot n []) ≡ false) (sym same) isnt

-- ---- one turn is written

-- one more of a slot is counted
pub after_set : (counts : List ℕ) (slots : List Seen) (i d n : ℕ) (kept left : List Turn) → HaveKept counts slots → i < length counts → IfSome (slice_get slots i) (λ h. kept ≡ h.turns) → drop n kept ≡ left
    → turns_after (set counts i n) slots ≡ set (turns_after counts slots) i left
after_set [] slots i d n kept left have within at is = absurd (omega (arith, within))
after_set (m ∷ counts) [] i d n kept left have within at is = absurd have
after_set (m ∷ counts) (h ∷ slots) zero d n kept left have within at is = ap (λ (ts : List Turn). ts ∷ turns_after counts slots) (ap (λ (ts : List Turn). drop n ts) (sym at) ∙ is)
after_set (m ∷ counts) (h ∷ slots) (suc i) d n kept left have within at is =
    ap (λ (ts : List (List Turn)). drop m h.turns ∷ ts) (after_set counts slots i d n kept left have.1 (omega (arith, within)) at is)

pub kept_set : (counts : List ℕ) (slots : List Seen) (i n : ℕ) (kept : List Turn) → HaveKept counts slots → i < length counts → IfSome (slice_get slots i) (λ h. kept ≡ h.turns) → n ≤ length kept → HaveKept (set counts i n) slots
kept_set [] slots i n kept have within at few = absurd (omega (arith, within))
kept_set (m ∷ counts) [] i n kept have within at few = absurd have
kept_set (m ∷ counts) (h ∷ slots) zero n kept have within at few = (omega (arith, few, ap (λ (ts : List Turn). length ts) at), have.1)
kept_set (m ∷ counts) (h ∷ slots) (suc i) n kept have within at few = (have.0, kept_set counts slots i n kept have.1 (omega (arith, within)) at few)

-- a slot that has a turn next keeps more than were written
pub begins_some : (number : ℕ) (ts : List Turn) → begins_with number ts ≡ true → 1 ≤ length ts
begins_some number [] b = cc
begins_some number (t ∷ ts) b = omega arith

-- the turn that is next, and those that are left then
pub next_is : (number slot : ℕ) (by_slot : List (List Turn)) (t : RunTurn) (more : List RunTurn) (turn : Turn) (left : List Turn) → IsMerged number by_slot (t ∷ more) → position (begins_with number) by_slot ≡ Some slot
    → get_or by_slot slot [] ≡ turn ∷ left → (in_slot slot turn ≡ t) × IsMerged (number + 1) (set by_slot slot left) more
next_is number slot by_slot t more turn left merged found has =
    let next = next_of number slot by_slot (t ∷ more) merged found in
    let same : turn ∷ left ≡ kept_turn next.turn ∷ turns_of_slot slot next.more = sym has ∙ next.has [] in
    let first : turn ≡ kept_turn next.turn = head_same turn (kept_turn next.turn) left (turns_of_slot slot next.more) same in
    let rest : left ≡ turns_of_slot slot next.more = rest_same turn (kept_turn next.turn) left (turns_of_slot slot next.more) same in
    let it : t ≡ next.turn = run_same t next.turn more next.more next.whole in
    let others : more ≡ next.more = runs_same t next.turn more next.more next.whole in (
      ap (in_slot slot) first ∙ ap (λ (n : ℕ). in_slot n (kept_turn next.turn)) (sym next.of_slot) ∙ sym it,
      subst (λ (ls : List (List Turn)). IsMerged (number + 1) ls more) (ap (λ (ts : List Turn). set by_slot slot ts) (sym rest))
          (subst (λ (ts : List RunTurn). IsMerged (number + 1) (set by_slot slot (turns_of_slot slot next.more)) ts) (sym others) next.left),
    )
  where
    head_same : (t u : Turn) (ts us : List Turn) → t ∷ ts ≡ u ∷ us → t ≡ u
    head_same t u ts us e = cc

    rest_same : (t u : Turn) (ts us : List Turn) → t ∷ ts ≡ u ∷ us → ts ≡ us
    rest_same t u ts us e = cc

    run_same : (t u : RunTurn) (ts us : List RunTurn) → t ∷ ts ≡ u ∷ us → t ≡ u
    run_same t u ts us e = cc

    runs_same : (t u : RunTurn) (ts us : List RunTurn) → t ∷ ts ≡ u ∷ us → ts ≡ us
    runs_same t u ts us e = cc

-- a slot has the next number where a turn is left
pub never_none : (number : ℕ) (by_slot : List (List Turn)) (t : RunTurn) (more : List RunTurn) → IsMerged number by_slot (t ∷ more) → position (begins_with number) by_slot ≡ None → ⊥
never_none number by_slot t more merged none = some_is_left t more (none_left number by_slot (t ∷ more) merged none)
  where
    some_is_left : (t : RunTurn) (ts : List RunTurn) → t ∷ ts ≡ [] → ⊥
    some_is_left t ts e = cc

-- the slot that was found, in the counts themselves
pub found_in : (number slot : ℕ) (counts lent : List ℕ) (slots : List Seen) → HaveKept counts slots → lent ≡ counts → position (begins_with number) (turns_after lent slots) ≡ Some slot
    → (slot < length counts) × (position (begins_with number) (turns_after counts slots) ≡ Some slot)
found_in number slot counts lent slots have same found =
    let at : position (begins_with number) (turns_after counts slots) ≡ Some slot = subst (λ (xs : List ℕ). position (begins_with number) (turns_after xs slots) ≡ Some slot) same found in
    (omega (arith, (has_turn number slot (turns_after counts slots) at).0, as_many_after counts slots have), at)

-- that slot has a turn more
pub has_next : (number slot count : ℕ) (counts : List ℕ) (slots : List Seen) (kept later : List Turn) → HaveKept counts slots → slot < length counts → position (begins_with number) (turns_after counts slots) ≡ Some slot
    → IfSome (slice_get slots slot) (λ h. kept ≡ h.turns) → count ≡ get_or counts slot 0 → later ≡ drop count kept → later ≡ [] → ⊥
has_next number slot count counts slots kept later have within found at counted of_later none =
    (has_turn number slot (turns_after counts slots) found).1 []
    (later_at counts slots slot 0 kept have within at ∙ ap (λ (n : ℕ). drop n kept) (sym counted) ∙ sym of_later ∙ none)

-- that turn is counted, and those after it are left
pub counts_next : (slot count : ℕ) (counts : List ℕ) (slots : List Seen) (kept later left : List Turn) (turn : Turn) → HaveKept counts slots → slot < length counts
    → IfSome (slice_get slots slot) (λ h. kept ≡ h.turns) → length later + count ≡ length kept → later ≡ turn ∷ left → HaveKept (set counts slot (count + 1)) slots
counts_next slot count counts slots kept later left turn have within at long is =
    kept_set counts slots slot (count + 1) kept have within at (omega (arith, long, ap (λ (ts : List Turn). length ts) is))

pub takes_next : (number slot count : ℕ) (counts : List ℕ) (slots : List Seen) (kept later left : List Turn) (turn : Turn) (t : RunTurn) (more : List RunTurn) → HaveKept counts slots → slot < length counts
    → position (begins_with number) (turns_after counts slots) ≡ Some slot → IfSome (slice_get slots slot) (λ h. kept ≡ h.turns) → count ≡ get_or counts slot 0 → later ≡ drop count kept → later ≡ turn ∷ left
    → IsMerged number (turns_after counts slots) (t ∷ more) → (in_slot slot turn ≡ t) × IsMerged (number + 1) (turns_after (set counts slot (count + 1)) slots) more
takes_next number slot count counts slots kept later left turn t more have within found at counted of_later is merged =
    let has : get_or (turns_after counts slots) slot [] ≡ turn ∷ left =
    later_at counts slots slot 0 kept have within at ∙ ap (λ (n : ℕ). drop n kept) (sym counted) ∙ sym of_later ∙ is in
    let next = next_is number slot (turns_after counts slots) t more turn left merged found has in
    let rest : drop (count + 1) kept ≡ left = sym (drop-drop 1 count kept) ∙ ap (λ (ts : List Turn). drop 1 ts) (sym of_later ∙ is) in
    (next.0, subst (λ (ls : List (List Turn)). IsMerged (number + 1) ls more) (sym (after_set counts slots slot 0 (count + 1) kept left have within at rest)) next.1)

-- ---- all of a step

-- Of these turns those before this number were written, and these are left.
pub record HasLogged (first number moment : ℕ) (counts : List ℕ) (slots : List Seen) (turns : List RunTurn) (a b : Buffered) (o p : OutSeen) : Type 0 where
  pub done : List RunTurn
  pub left : List RunTurn
  pub whole : turns ≡ done ++ left
  pub merged : IsMerged number (turns_after counts slots) left
  pub count : first + length done ≡ number
  pub put : HasPut (flat_map (logged_turn moment) done) a b o p

pub logged_none : (first moment : ℕ) (counts : List ℕ) (slots : List Seen) (turns : List RunTurn) (a : Buffered) (o : OutSeen) → IsMerged first (turns_after counts slots) turns → HasPut [] a a o o → HasLogged first first moment counts slots turns a a o o
logged_none first moment counts slots turns a o merged nothing = record { done = []; left = turns; whole = refl; merged = merged; count = omega arith; put = nothing }

pub logged_next : (first number moment : ℕ) (counts later : List ℕ) (slots : List Seen) (turns : List RunTurn) (a b c : Buffered) (o p q : OutSeen) → HasLogged first number moment counts slots turns a b o p → number < first + length turns
    → ((t : RunTurn) → (more : List RunTurn) → IsMerged number (turns_after counts slots) (t ∷ more) → IsMerged (number + 1) (turns_after later slots) more)
    → ((t : RunTurn) → (more : List RunTurn) → IsMerged number (turns_after counts slots) (t ∷ more) → HasPut (logged_turn moment t) b c p q)
    → HasLogged first (number + 1) moment later slots turns a c o q
logged_next first number moment counts later slots turns a b c o p q before below left_of puts = by_left before.left before.whole before.merged
  where
    by_left : (left : List RunTurn) → turns ≡ before.done ++ left → IsMerged number (turns_after counts slots) left → HasLogged first (number + 1) moment later slots turns a c o q
    by_left [] whole merged = absurd (omega (arith, below, before.count, ap (λ (ts : List RunTurn). length ts) (whole ∙ append-nil before.done)))
    by_left (t ∷ more) whole merged = record {
      done = before.done ++ t ∷ [];
      left = more;
      whole = whole ∙ sym (append_assoc before.done (t ∷ []) more);
      merged = left_of t more merged;
      count = omega (arith, before.count, length-append before.done (t ∷ []));
      put = subst (λ (x : List ℕ). HasPut x a c o q)
          (sym (flat_map-append (logged_turn moment) before.done (t ∷ []) ∙ ap (λ (x : List ℕ). flat_map (logged_turn moment) before.done ++ x) (append-nil (logged_turn moment t))))
          (put_then before.put (puts t more merged));
    }

-- nothing is left at the end
left_nothing : (first number moment : ℕ) (counts : List ℕ) (slots : List Seen) (turns : List RunTurn) (a b : Buffered) (o p : OutSeen) → (l : HasLogged first number moment counts slots turns a b o p) → number ≡ first + length turns → l.left ≡ []
left_nothing first number moment counts slots turns a b o p l all = empty l.left (omega (arith, all, l.count, ap (λ (ts : List RunTurn). length ts) l.whole, length-append l.done l.left))
  where
    empty : (ts : List RunTurn) → length ts ≡ 0 → ts ≡ []
    empty [] e = refl
    empty (t ∷ ts) e = absurd (omega (arith, e))

pub logged_all : (first number moment : ℕ) (counts : List ℕ) (slots : List Seen) (turns : List RunTurn) (a b : Buffered) (o p : OutSeen) → HasLogged first number moment counts slots turns a b o p → number ≡ first + length turns → HasPut (flat_map (logged_turn moment) turns) a b o p
logged_all first number moment counts slots turns a b o p l all =
    let none = left_nothing first number moment counts slots turns a b o p l all in
    subst (λ (ts : List RunTurn). HasPut (flat_map (logged_turn moment) ts) a b o p) (sym (l.whole ∙ ap (λ (ts : List RunTurn). l.done ++ ts) none ∙ append-nil l.done)) l.put

-- where none is left, all are counted
counted_by : (from : ℕ) (counts : List ℕ) (slots : List Seen) → HaveKept counts slots → AreSplit [] from (turns_after counts slots) → counts ≡ counts_of slots
counted_by from [] [] have split = refl
counted_by from [] (h ∷ slots) have split = absurd have
counted_by from (n ∷ counts) [] have split = absurd have
counted_by from (n ∷ counts) (h ∷ slots) have split =
    let same : n ≡ length h.turns = all_kept n h.turns have.0 split.0 in
    ap (λ (m : ℕ). m ∷ counts) same ∙ ap (λ (ms : List ℕ). length h.turns ∷ ms) (counted_by (suc from) counts slots have.1 split.1)
  where
    all_kept : (n : ℕ) (ts : List Turn) → n ≤ length ts → drop n ts ≡ [] → n ≡ length ts
    all_kept zero [] few none = refl
    all_kept zero (t ∷ ts) few none = absurd cc
    all_kept (suc n) [] few none = absurd (omega (arith, few))
    all_kept (suc n) (t ∷ ts) few none = ap (λ (m : ℕ). suc m) (all_kept n ts (omega (arith, few)) none)

pub all_counted : (first number moment : ℕ) (counts : List ℕ) (slots : List Seen) (turns : List RunTurn) (a b : Buffered) (o p : OutSeen) → HasLogged first number moment counts slots turns a b o p → number ≡ first + length turns → HaveKept counts slots → counts ≡ counts_of slots
all_counted first number moment counts slots turns a b o p l all have =
    let none = left_nothing first number moment counts slots turns a b o p l all in
    counted_by 0 counts slots have (subst (λ (ts : List RunTurn). AreSplit ts 0 (turns_after counts slots)) none l.merged.split)

-- ---- forgetting

pub none_counted : (slots : List Seen) → counts_of (map forgotten slots) ≡ replicate (length slots) 0
none_counted [] = refl
none_counted (h ∷ slots) = ap (λ (ns : List ℕ). 0 ∷ ns) (none_counted slots)

pub as_many_counts : (slots : List Seen) → length (counts_of slots) ≡ length slots
as_many_counts [] = refl
as_many_counts (h ∷ slots) = ap (λ (n : ℕ). suc n) (as_many_counts slots)

pub counted_kept : (slots : List Seen) → HaveKept (counts_of slots) slots
counted_kept [] = tt
counted_kept (h ∷ slots) = (omega arith, counted_kept slots)

-- all are made none
pub all_none : (n : ℕ) (counts : List ℕ) → n ≡ length counts → replicate n 0 ++ drop n counts ≡ replicate (length counts) 0
all_none n counts all =
    ap (λ (k : ℕ). replicate k 0 ++ drop k counts) all ∙ ap (λ (x : List ℕ). replicate (length counts) 0 ++ x) (nothing_left counts) ∙ append-nil (replicate (length counts) 0)
  where
    nothing_left : (xs : List ℕ) → drop (length xs) xs ≡ []
    nothing_left [] = refl
    nothing_left (x ∷ xs) = nothing_left xs

-- the handlers forgot, and so nothing of theirs is counted
pub forgot_counts : (slots after : List Seen) (counts later : List ℕ) → counts ≡ counts_of slots → after ≡ map forgotten slots → later ≡ replicate (length counts) 0 → later ≡ counts_of after
forgot_counts slots after counts later counted forgot_all none =
    none ∙ ap (λ (n : ℕ). replicate n 0) (ap (λ (ns : List ℕ). length ns) counted ∙ as_many_counts slots) ∙ sym (none_counted slots) ∙ ap counts_of (sym forgot_all)

-- a list that was lent, and made none
pub lent_none : (old lent new : List ℕ) (len : ℕ) → new ≡ replicate (length lent) 0 → lent ≡ old → length lent ≡ len → take len (new ++ drop (length new) old) ≡ replicate (length old) 0
lent_none old lent new len none same long =
    let all : new ≡ replicate (length old) 0 = none ∙ ap (λ (xs : List ℕ). replicate (length xs) 0) same in
    let as_long : length new ≡ length lent = ap (λ (xs : List ℕ). length xs) none ∙ length_of (length lent) in
    ap (λ (k : ℕ). take k (new ++ drop (length new) old)) (sym long ∙ sym as_long) ∙ take-append_seam new (drop (length new) old) ∙ all
  where
    length_of : (n : ℕ) → length {A = ℕ} (replicate n 0) ≡ n
    length_of zero = refl
    length_of (suc n) = ap (λ (m : ℕ). suc m) (length_of n)
