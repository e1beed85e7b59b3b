-- The turns of a run, put together from those of its slots.
use Rattle.std.proofs.Common.{◌≡◌, ◌≢◌, ℕ, zero, suc, ◌+◌, ◌<◌, ◌≤◌, List, [], ◌∷◌, ◌++◌, length, take, drop, map, set, get_or, Bool, true, false, cond, eqb, not, refl, sym, ap, subst, ◌∙◌, arith, inl, inr, length-set, length-append, append_assoc, add-zero}
use Rattle.std.specs.Prelude.{Option, Some, None, nat_lt, slice_get, IfSome}
use Rattle.std.specs.List.{AllByRecursion, position, position_or_len, flat_map}
use Rattle.std.proofs.lemmas.Bool.{cases_eq, eq-eqb, ne_eqb, lt-ltb}
use Rattle.std.proofs.lemmas.List.{drop_at, append-nil, length-map}
use Rattle.std.proofs.lemmas.List.Quantifiers.{position-Some}
use Rattle.std.proofs.lemmas.Option.{same_Some}
use Rattle.thing_handler.specs.declared.handler.Turn.{Turn}
use Rattle.thing_handler.specs.Handler.{Seen}
use Rattle.thing_handler.specs.Turns.{RunTurn, HandlerCall, kept_turn, turns_of_slot, turns_in, AreNumberedFrom, GrewBy, RackShows}
use Rattle.servient_script.specs.Print.{turn_line, in_slot}
use Rattle.servient_script.specs.Merging.{AreSplit, IsMerged, begins_with, counts_of, HaveKept, turns_after}

-- ---- the next turn

-- turns that are numbered from a later number on don't begin with this one
begins_later : (number first slot : ℕ) (turns : List RunTurn) → number < first → AreNumberedFrom first turns → begins_with number (turns_of_slot slot turns) ≡ false
begins_later number first slot [] less numbered = refl
begins_later number first slot (t ∷ turns) less numbered = elim (cases_eq t.slot slot) [
  | inl same ↦
      let e : eqb t.slot slot ≡ true = eq-eqb t.slot slot same in
      let differs : t.number ≢ number = omega (arith, numbered.0, less) in
      rw e (ne_eqb t.number number differs)
  | inr other ↦
      let f : eqb t.slot slot ≡ false = ne_eqb t.slot slot other in
      rw f (begins_later number (first + 1) slot turns (omega (arith, less)) numbered.1)
]

-- the turns of a slot, where the first of a run is its own, and where it is another's
pub first_is : (slot : ℕ) (t : RunTurn) (more : List RunTurn) → t.slot ≡ slot → turns_of_slot slot (t ∷ more) ≡ kept_turn t ∷ turns_of_slot slot more
first_is slot t more same = let e : eqb t.slot slot ≡ true = eq-eqb t.slot slot same in rw e refl

pub first_is_not : (slot : ℕ) (t : RunTurn) (more : List RunTurn) → t.slot ≢ slot → turns_of_slot slot (t ∷ more) ≡ turns_of_slot slot more
first_is_not slot t more other = let f : eqb t.slot slot ≡ false = ne_eqb t.slot slot other in rw f refl

begins_itself : (number : ℕ) (t : RunTurn) (turns : List Turn) → t.number ≡ number → begins_with number (kept_turn t ∷ turns) ≡ true
begins_itself number t turns same = eq-eqb t.number number same

place_at : {X : Type 0} (p : X → Bool) (x : X) (xs : List X) → p x ≡ true → position_or_len p (x ∷ xs) ≡ 0
place_at p x xs e = rw e refl

place_later : {X : Type 0} (p : X → Bool) (x : X) (xs : List X) → p x ≡ false → position_or_len p (x ∷ xs) ≡ 1 + position_or_len p xs
place_later p x xs e = rw e refl

-- the first slot that begins with the first turn's number is that of the turn
place_of_next : (number from i : ℕ) (t : RunTurn) (more : List RunTurn) (by_slot : List (List Turn)) → AreNumberedFrom number (t ∷ more) → AreSplit (t ∷ more) from by_slot → t.slot ≡ from + i → i < length by_slot
    → position_or_len (begins_with number) by_slot ≡ i
place_of_next number from i t more [] numbered split place within = absurd (omega (arith, within))
place_of_next number from zero t more (turns ∷ by_slot) numbered split place within =
    let here : t.slot ≡ from = place ∙ add-zero from in
    place_at (begins_with number) turns by_slot
    (ap (begins_with number) (split.0 ∙ first_is from t more here) ∙ begins_itself number t (turns_of_slot from more) numbered.0)
place_of_next number from (suc i) t more (turns ∷ by_slot) numbered split place within =
    let other : t.slot ≢ from = omega (arith, place) in
    let later : begins_with number turns ≡ false =
    ap (begins_with number) (split.0 ∙ first_is_not from t more other) ∙ begins_later number (number + 1) from more (omega arith) numbered.1 in
    let here = place_later (begins_with number) turns by_slot later in
    let rest = place_of_next number (suc from) i t more by_slot numbered split.1 (omega (arith, place)) (omega (arith, within)) in
    omega (arith, here, rest)

-- no slot begins with anything where no turn is left
none_begins : (number from : ℕ) (by_slot : List (List Turn)) → AreSplit [] from by_slot → position_or_len (begins_with number) by_slot ≡ length by_slot
none_begins number from [] split = refl
none_begins number from (turns ∷ by_slot) split =
    let here = place_later (begins_with number) turns by_slot (ap (begins_with number) split.0) in
    let rest = none_begins number (suc from) by_slot split.1 in
    omega (arith, here, rest)

found_at : {X : Type 0} (p : X → Bool) (xs : List X) (i : ℕ) → i < length xs → position_or_len p xs ≡ i → position p xs ≡ Some i
found_at p xs i within e = let t : nat_lt i (length xs) ≡ true = lt-ltb i (length xs) within in rw (e, t) refl

-- the turns that the slot of the first turn has, and those that are left then
slot_has : (from i : ℕ) (t : RunTurn) (more : List RunTurn) (by_slot : List (List Turn)) (d : List Turn) → AreSplit (t ∷ more) from by_slot → t.slot ≡ from + i → i < length by_slot
    → get_or by_slot i d ≡ kept_turn t ∷ turns_of_slot t.slot more
slot_has from i t more [] d split place within = absurd (omega (arith, within))
slot_has from zero t more (turns ∷ by_slot) d split place within =
    let here : t.slot ≡ from = place ∙ add-zero from in
    split.0 ∙ first_is from t more here ∙ ap (λ (n : ℕ). kept_turn t ∷ turns_of_slot n more) (sym here)
slot_has from (suc i) t more (turns ∷ by_slot) d split place within =
    slot_has (suc from) i t more by_slot d split.1 (omega (arith, place)) (omega (arith, within))

others_split : (from : ℕ) (t : RunTurn) (more : List RunTurn) (by_slot : List (List Turn)) → t.slot < from → AreSplit (t ∷ more) from by_slot → AreSplit more from by_slot
others_split from t more [] less split = tt
others_split from t more (turns ∷ by_slot) less split =
    let other : t.slot ≢ from = omega (arith, less) in
    (split.0 ∙ first_is_not from t more other, others_split (suc from) t more by_slot (omega (arith, less)) split.1)

left_split : (from i : ℕ) (t : RunTurn) (more : List RunTurn) (by_slot : List (List Turn)) → AreSplit (t ∷ more) from by_slot → t.slot ≡ from + i → i < length by_slot
    → AreSplit more from (set by_slot i (turns_of_slot t.slot more))
left_split from i t more [] split place within = absurd (omega (arith, within))
left_split from zero t more (turns ∷ by_slot) split place within =
    let here : t.slot ≡ from = place ∙ add-zero from in
    (ap (λ (n : ℕ). turns_of_slot n more) here, others_split (suc from) t more by_slot (omega (arith, here)) split.1)
left_split from (suc i) t more (turns ∷ by_slot) split place within =
    let other : t.slot ≢ from = omega (arith, place) in
    (split.0 ∙ first_is_not from t more other, left_split (suc from) i t more by_slot split.1 (omega (arith, place)) (omega (arith, within)))

within_still : (count other : ℕ) (turns : List RunTurn) → other ≡ count → AllByRecursion (λ t. t.slot < count) turns → AllByRecursion (λ t. t.slot < other) turns
within_still count other turns same all = subst (λ (n : ℕ). AllByRecursion (λ t. t.slot < n) turns) (sym same) all

-- The turn that comes next, where a slot begins with this number.
pub record IsNext (number slot : ℕ) (by_slot : List (List Turn)) (turns : List RunTurn) : Type 0 where
  pub turn : RunTurn
  pub more : List RunTurn
  pub whole : turns ≡ turn ∷ more
  pub of_slot : turn.slot ≡ slot
  pub has : (d : List Turn) → get_or by_slot slot d ≡ kept_turn turn ∷ turns_of_slot slot more
  pub left : IsMerged (number + 1) (set by_slot slot (turns_of_slot slot more)) more

pub next_of : (number slot : ℕ) (by_slot : List (List Turn)) (turns : List RunTurn) → IsMerged number by_slot turns → position (begins_with number) by_slot ≡ Some slot → IsNext number slot by_slot turns
next_of number slot by_slot [] merged found =
    let at = position-Some (begins_with number) by_slot slot [] found in
    absurd (omega (arith, at.0, none_found number slot by_slot found (none_begins number 0 by_slot merged.split)))
  where
    none_found : (n i : ℕ) (ls : List (List Turn)) → position (begins_with n) ls ≡ Some i → position_or_len (begins_with n) ls ≡ length ls → i ≡ length ls
    none_found n i ls e l = by_test (nat_lt (position_or_len (begins_with n) ls) (length ls)) e
      where
        by_test : (b : Bool) → cond b (Some (position_or_len (begins_with n) ls)) None ≡ Some i → i ≡ length ls
        by_test true e = sym (same_Some _ i e) ∙ l
        by_test false e = absurd cc
next_of number slot by_slot (t ∷ more) merged found =
    let within = merged.slots.0 in
    let at = found_at (begins_with number) by_slot t.slot within (place_of_next number 0 t.slot t more by_slot merged.numbered merged.split (omega arith) within) in
    let same : t.slot ≡ slot = same_Some t.slot slot (sym at ∙ found) in
    record {
      turn = t;
      more = more;
      whole = refl;
      of_slot = same;
      has = λ d. subst (λ (n : ℕ). get_or by_slot n d ≡ kept_turn t ∷ turns_of_slot n more) same (slot_has 0 t.slot t more by_slot d merged.split (omega arith) within);
      left = record {
        numbered = merged.numbered.1;
        slots = within_still (length by_slot) (length (set by_slot slot (turns_of_slot slot more))) more (length-set by_slot slot (turns_of_slot slot more)) merged.slots.1;
        split = subst (λ (n : ℕ). AreSplit more 0 (set by_slot n (turns_of_slot n more))) same (left_split 0 t.slot t more by_slot merged.split (omega arith) within);
      };
    }

pub none_left : (number : ℕ) (by_slot : List (List Turn)) (turns : List RunTurn) → IsMerged number by_slot turns → position (begins_with number) by_slot ≡ None → turns ≡ []
none_left number by_slot [] merged none = refl
none_left number by_slot (t ∷ more) merged none =
    let within = merged.slots.0 in
    let at = found_at (begins_with number) by_slot t.slot within (place_of_next number 0 t.slot t more by_slot merged.numbered merged.split (omega arith) within) in
    absurd cc

-- ---- the slots that references lead to

place_in_map : {X Y : Type 0} (p : Y → Bool) (f : X → Y) (xs : List X) → position_or_len p (map f xs) ≡ position_or_len (λ x. p (f x)) xs
place_in_map p f [] = refl
place_in_map p f (x ∷ xs) = ap (λ (n : ℕ). cond (not (p (f x))) (1 + n) 0) (place_in_map p f xs)

pub position_in_map : {X Y : Type 0} (p : Y → Bool) (f : X → Y) (xs : List X) → position p (map f xs) ≡ position (λ x. p (f x)) xs
position_in_map p f xs = rw (place_in_map p f xs, length-map xs f) refl

-- a value that is none of the places is none
pub no_place : (o : Option ℕ) → ((i : ℕ) → o ≡ Some i → ⊥) → o ≡ None
no_place None none = refl
no_place (Some i) none = absurd (none i refl)

-- ---- printing them

-- Of the lines of these turns those before this number were put, and these turns are left.
pub record HasPut (number : ℕ) (by_slot : List (List Turn)) (before out : List ℕ) (turns : List RunTurn) : Type 0 where
  pub left : List RunTurn
  pub merged : IsMerged number by_slot left
  pub text : out ++ flat_map turn_line left ≡ before ++ flat_map turn_line turns

pub put_none : (by_slot : List (List Turn)) (before : List ℕ) (turns : List RunTurn) → IsMerged 0 by_slot turns → HasPut 0 by_slot before before turns
put_none by_slot before turns merged = record { left = turns; merged = merged; text = refl }

-- all were put, where no slot begins with the next number
pub put_all : (number : ℕ) (by_slot : List (List Turn)) (before out : List ℕ) (turns : List RunTurn) → HasPut number by_slot before out turns → position (begins_with number) by_slot ≡ None → out ≡ before ++ flat_map turn_line turns
put_all number by_slot before out turns put none =
    let empty = none_left number by_slot put.left put.merged none in
    sym (append-nil out) ∙ ap (λ (ts : List RunTurn). out ++ flat_map turn_line ts) (sym empty) ∙ put.text

-- a slot that begins with the next number has a turn
pub has_turn : (number slot : ℕ) (by_slot : List (List Turn)) → position (begins_with number) by_slot ≡ Some slot → (slot < length by_slot) × ((d : List Turn) → get_or by_slot slot d ≢ [])
has_turn number slot by_slot found = (
  (position-Some (begins_with number) by_slot slot [] found).0,
  λ d none. let at = position-Some (begins_with number) by_slot slot d found in not_begun number (get_or by_slot slot d) none at.1,
)
  where
    not_begun : (n : ℕ) (ts : List Turn) → ts ≡ [] → begins_with n ts ≡ true → ⊥
    not_begun n [] none b = cc
    not_begun n (t ∷ ts) none b = cc

-- one more was put, which was the first that its slot had left
pub put_next : (number slot : ℕ) (by_slot now : List (List Turn)) (before out out_now : List ℕ) (turns : List RunTurn) (d : List Turn) (turn : Turn) (left : List Turn)
    → HasPut number by_slot before out turns → position (begins_with number) by_slot ≡ Some slot → get_or by_slot slot d ≡ turn ∷ left → now ≡ set by_slot slot left → out_now ≡ out ++ turn_line (in_slot slot turn)
    → HasPut (number + 1) now before out_now turns
put_next number slot by_slot now before out out_now turns d turn left put found has set_left grown =
    let next = next_of number slot by_slot put.left put.merged found in
    let same : turn ∷ left ≡ kept_turn next.turn ∷ turns_of_slot slot next.more = sym has ∙ next.has d in
    let first : turn ≡ kept_turn next.turn = head_same turn (kept_turn next.turn) left (turns_of_slot slot next.more) same in
    let rest : left ≡ turns_of_slot slot next.more = rest_same turn (kept_turn next.turn) left (turns_of_slot slot next.more) same in
    let line : in_slot slot turn ≡ next.turn = ap (in_slot slot) first ∙ ap (λ (n : ℕ). in_slot n (kept_turn next.turn)) (sym next.of_slot) in
    record {
      left = next.more;
      merged = subst (λ (ls : List (List Turn)). IsMerged (number + 1) ls next.more) (sym (set_left ∙ ap (λ (ts : List Turn). set by_slot slot ts) rest)) next.left;
      text =
          ap (λ (b : List ℕ). b ++ flat_map turn_line next.more) (grown ∙ ap (λ (t : RunTurn). out ++ turn_line t) line)
          ∙ append_assoc out (turn_line next.turn) (flat_map turn_line next.more)
          ∙ ap (λ (ts : List RunTurn). out ++ flat_map turn_line ts) (sym next.whole)
          ∙ put.text;
    }
  where
    head_same : (t u : Turn) (ts us : List Turn) → t ∷ ts ≡ u ∷ us → t ≡ u
    head_same t u ts us e = cc

    rest_same : (t u : Turn) (ts us : List Turn) → t ∷ ts ≡ u ∷ us → ts ≡ us
    rest_same t u ts us e = cc

-- ---- what the handlers of a rack keep

pub kept_since : (turns : List RunTurn) (from : ℕ) (before after : List Seen) → GrewBy turns from before after → HaveKept (counts_of before) after
kept_since turns from [] [] grew = tt
kept_since turns from [] (k ∷ after) grew = absurd grew
kept_since turns from (h ∷ before) [] grew = absurd grew
kept_since turns from (h ∷ before) (k ∷ after) grew =
    (omega (arith, ap (λ (ts : List Turn). length ts) grew.1, length-append h.turns (turns_of_slot from turns)), kept_since turns (suc from) before after grew.2)

-- the turns that they kept since some time are those since then by their slots
pub split_since : (turns : List RunTurn) (from : ℕ) (before after : List Seen) → GrewBy turns from before after → AreSplit turns from (turns_after (counts_of before) after)
split_since turns from [] [] grew = tt
split_since turns from [] (k ∷ after) grew = absurd grew
split_since turns from (h ∷ before) [] grew = absurd grew
split_since turns from (h ∷ before) (k ∷ after) grew =
    (ap (λ (ts : List Turn). drop (length h.turns) ts) grew.1 ∙ drop_at h.turns (turns_of_slot from turns) (length h.turns) refl, split_since turns (suc from) before after grew.2)

pub as_many_since : (turns : List RunTurn) (from : ℕ) (before after : List Seen) → GrewBy turns from before after → length (turns_after (counts_of before) after) ≡ length before
as_many_since turns from [] [] grew = refl
as_many_since turns from [] (k ∷ after) grew = absurd grew
as_many_since turns from (h ∷ before) [] grew = absurd grew
as_many_since turns from (h ∷ before) (k ∷ after) grew = ap (λ (n : ℕ). suc n) (as_many_since turns (suc from) before after grew.2)

-- the turns of a part of a run, from this number on, where these handlers kept them
pub merged_from : (first : ℕ) (calls : List HandlerCall) (before after : List Seen) (counts : List ℕ) (by_slot : List (List Turn)) → counts ≡ counts_of before → by_slot ≡ turns_after counts after → RackShows before after calls → AreNumberedFrom first (turns_in calls) → IsMerged first by_slot (turns_in calls)
merged_from first calls before after counts by_slot counted kept shows numbered =
    let turns = turns_in calls in
    let whole : by_slot ≡ turns_after (counts_of before) after = kept ∙ ap (λ (ns : List ℕ). turns_after ns after) counted in
    record {
      numbered = numbered;
      slots = within_still (length before) (length by_slot) turns (ap (λ (ls : List (List Turn)). length ls) whole ∙ as_many_since turns 0 before after shows.turns) shows.slots;
      split = subst (λ (ls : List (List Turn)). AreSplit turns 0 ls) (sym whole) (split_since turns 0 before after shows.turns);
    }

-- those of a whole run
pub merged_since : (calls : List HandlerCall) (before after : List Seen) (counts : List ℕ) (by_slot : List (List Turn)) → counts ≡ counts_of before → by_slot ≡ turns_after counts after → RackShows before after calls → AreNumberedFrom 0 (turns_in calls) → IsMerged 0 by_slot (turns_in calls)
merged_since = merged_from 0

pub have_kept : (calls : List HandlerCall) (before after : List Seen) (counts : List ℕ) → counts ≡ counts_of before → RackShows before after calls → HaveKept counts after
have_kept calls before after counts counted shows =
    subst (λ (ns : List ℕ). HaveKept ns after) (sym counted) (kept_since (turns_in calls) 0 before after shows.turns)

-- ---- going over the slots

-- one more is counted
pub counted_more : (slots : List Seen) (i n : ℕ) (kept : List Turn) → i < length slots → IfSome (slice_get slots i) (λ h. kept ≡ h.turns) → n ≡ length kept → counts_of (take (suc i) slots) ≡ counts_of (take i slots) ++ n ∷ []
counted_more [] i n kept within at is = absurd (omega (arith, within))
counted_more (h ∷ slots) zero n kept within at is = ap (λ (m : ℕ). m ∷ []) (sym (is ∙ ap (λ (ts : List Turn). length ts) at))
counted_more (h ∷ slots) (suc i) n kept within at is = ap (λ (ms : List ℕ). length h.turns ∷ ms) (counted_more slots i n kept (omega (arith, within)) at is)

pub as_long : (counts : List ℕ) (slots : List Seen) → HaveKept counts slots → length slots ≡ length counts
as_long [] [] have = refl
as_long [] (h ∷ slots) have = absurd have
as_long (n ∷ counts) [] have = absurd have
as_long (n ∷ counts) (h ∷ slots) have = ap (λ (m : ℕ). suc m) (as_long counts slots have.1)

-- a slot has kept as many as are counted
pub kept_at : (counts : List ℕ) (slots : List Seen) (i d : ℕ) (kept : List Turn) → HaveKept counts slots → i < length counts → IfSome (slice_get slots i) (λ h. kept ≡ h.turns) → get_or counts i d ≤ length kept
kept_at [] slots i d kept have within at = absurd (omega (arith, within))
kept_at (n ∷ counts) [] i d kept have within at = absurd have
kept_at (n ∷ counts) (h ∷ slots) zero d kept have within at = omega (arith, have.0, ap (λ (ts : List Turn). length ts) at)
kept_at (n ∷ counts) (h ∷ slots) (suc i) d kept have within at = kept_at counts slots i d kept have.1 (omega (arith, within)) at

-- one more slot is gone over
pub after_more : (counts : List ℕ) (slots : List Seen) (i d : ℕ) (kept : List Turn) → HaveKept counts slots → i < length counts → IfSome (slice_get slots i) (λ h. kept ≡ h.turns) → take (suc i) (turns_after counts slots) ≡ take i (turns_after counts slots) ++ drop (get_or counts i d) kept ∷ []
after_more [] slots i d kept have within at = absurd (omega (arith, within))
after_more (n ∷ counts) [] i d kept have within at = absurd have
after_more (n ∷ counts) (h ∷ slots) zero d kept have within at = ap (λ (ts : List Turn). drop n ts ∷ []) (sym at)
after_more (n ∷ counts) (h ∷ slots) (suc i) d kept have within at =
    ap (λ (ts : List (List Turn)). drop n h.turns ∷ ts) (after_more counts slots i d kept have.1 (omega (arith, within)) at)

pub after_all : (counts : List ℕ) (slots : List Seen) → HaveKept counts slots → take (length counts) (turns_after counts slots) ≡ turns_after counts slots
after_all [] slots have = refl
after_all (n ∷ counts) [] have = absurd have
after_all (n ∷ counts) (h ∷ slots) have = ap (λ (ts : List (List Turn)). drop n h.turns ∷ ts) (after_all counts slots have.1)
