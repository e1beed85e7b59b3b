-- Laws of the events that a network in memory gives.
use Rattle.std.proofs.Common.{◌≡◌, ℕ, zero, suc, ◌+◌, ◌-◌, ◌^◌, ◌<◌, ◌≤◌, List, [], ◌∷◌, ◌++◌, length, drop, Some, refl, sym, ap, subst, ◌∙◌, add-one, arith}
use Rattle.std.specs.Prelude.{slice_get, Option, Bool, true, false, IsTrue, ◌↔◌}
use Rattle.servient_outside.specs.Ending.{stop_event}
use Rattle.std.proofs.lemmas.List.{take_at}
use Rattle.std.proofs.lemmas.Option.{slice_get_within, get_or_from_slice_get}
use Rattle.std.proofs.Math.Seq.{drop-cons}
use Rattle.servient_outside.specs.declared.net.Event.{Event}
use Rattle.servient_outside.specs.declared.net.EventWithBytes.{EventWithBytes}
use Rattle.servient_outside.specs.declared.net.Next.TheVariants.{Got}
use Rattle.servient_outside.specs.Told.{Continues, told_at_zero}
use Rattle.servient_outside.specs.CallCount.{where_none_fails}
use Rattle.servient_outside.specs.NetMemory.{TakesFrom}
use Rattle.servient_base.specs.Count.{one_more}
use Rattle.servient_outside.specs.CallCount.{is_failing}
use Rattle.servient_outside.specs.declared.net.Act.{Act}
use Rattle.servient_outside.specs.Order.{Step, asked, acted, steps, made_after, breaks_after, given_after, call_result, made_by, given_by, happened_by}
use Rattle.servient_outside.proofs.OrderLaws.{steps_asked, steps_acted, made_by-append, given_by-append, happened_by-append}
use Rattle.std.proofs.lemmas.List.{append-nil}
use Rattle.servient_outside.specs.Network.{Happening, heard, did, broke, NetCall, Leaves, byte_count, in_buffer}

-- an event whose bytes are a prefix of the buffer is the one that is in it
pub in_buffer-prefix : (e : EventWithBytes) (copied rest : List ℕ) → copied ≡ e.bytes → length e.bytes ≡ byte_count e.event.what → in_buffer e.event (copied ++ rest) ≡ e
in_buffer-prefix e copied rest same fits =
    ap (with_bytes e.event) (take_at copied rest (byte_count e.event.what) (ap length same ∙ fits) ∙ same)
  where
    with_bytes : Event → List ℕ → EventWithBytes
    with_bytes event bytes = record { event = event; bytes = bytes }

-- the rest begins with the event at the place that was reached
drop-at_item : (all : List EventWithBytes) (given : ℕ) (e : EventWithBytes) → slice_get all given ≡ Some e → drop given all ≡ e ∷ drop (given + 1) all
drop-at_item all given e item =
    let within : given < length all = slice_get_within all given e item in
    rw (add-one) (drop-cons all given e within ∙ ap (λ (x : EventWithBytes). x ∷ drop (suc given) all) (get_or_from_slice_get all given e e item))

-- the events still to come lose the event at the place that was reached
pub left_heard : (all : List EventWithBytes) (fails later : List ℕ) (given uncounted now : ℕ) (e x : EventWithBytes) → later ≡ fails → (fails ≡ [] → uncounted ≡ 0 → now ≡ 0)
    → slice_get all given ≡ Some e → x ≡ e → Leaves (heard x ∷ []) (where_none_fails fails (told_at_zero uncounted (drop given all))) (where_none_fails later (told_at_zero now (drop (given + 1) all)))
left_heard all (f ∷ fails) later given uncounted now e x kept counted item same = tt
left_heard all [] later given (suc uncounted) now e x kept counted item same = tt
left_heard all [] later given zero now e x kept counted item same =
    subst (λ (xs : List EventWithBytes). Leaves (heard x ∷ []) (Some xs) (where_none_fails later (told_at_zero now (drop (given + 1) all)))) (sym (drop-at_item all given e item))
    (same, ap (λ (fs : List ℕ). where_none_fails fs (told_at_zero now (drop (given + 1) all))) kept ∙ ap (λ (n : ℕ). told_at_zero n (drop (given + 1) all)) (counted refl refl))

-- where none is left, nothing more is known
pub left_none : (all : List EventWithBytes) (fails : List ℕ) (given uncounted : ℕ) (x : EventWithBytes) (now : Option (List EventWithBytes)) → drop given all ≡ [] → Leaves (heard x ∷ []) (where_none_fails fails (told_at_zero uncounted (drop given all))) now
left_none all (f ∷ fails) given uncounted x now none = tt
left_none all [] given (suc uncounted) x now none = tt
left_none all [] given zero x now none =
    subst (λ (xs : List EventWithBytes). Leaves (heard x ∷ []) (Some xs) now) (sym none) tt

-- where a call fails, none of the events to come is known
pub left_broke : (call : NetCall) (fails : List ℕ) (number : ℕ) (told now : Option (List EventWithBytes)) → is_failing fails number ≡ true → Leaves (broke call ∷ []) (where_none_fails fails told) now
left_broke call [] number told now c = absurd cc
left_broke call (f ∷ fails) number told now c = tt

-- nothing is left past the end
pub drop_past : (n : ℕ) (xs : List EventWithBytes) → length xs ≤ n → drop n xs ≡ []
drop_past zero [] le = refl
drop_past (suc n) [] le = refl
drop_past zero (x ∷ xs) le = absurd (omega arith)
drop_past (suc n) (x ∷ xs) le = drop_past n xs (omega arith)

-- the Stop has no bytes
pub stop_in_buffer : (moment : ℕ) (buffer : List ℕ) → in_buffer (stop_event moment) buffer ≡ record { event = stop_event moment; bytes = [] }
stop_in_buffer moment [] = refl
stop_in_buffer moment (b ∷ buffer) = refl

-- as long as an event is left and no call fails, all calls were counted
pub all_counted : (fails : List ℕ) (events : List EventWithBytes) (given since uncounted now : ℕ) → fails ≡ [] → uncounted ≡ 0 → (fails ≡ [] → given < length events → since ≤ given)
    → given < length events → length events < 2 ^ 64 → (since < 2 ^ 64 - 1 → now ≡ uncounted) → now ≡ 0
all_counted fails events given since uncounted now none counted reached within fits same =
    let below : since < 2 ^ 64 - 1 = omega (arith, reached none within) in
    same below ∙ counted

-- a record where nothing is lost continues as it was
pub continues_told : {A : Type 0} (untold : ℕ) (old new more : List A) → new ≡ old ++ more → Continues (told_at_zero untold old) (told_at_zero untold new) more
continues_told zero old new more grown = (old, refl, grown)
continues_told (suc untold) old new more grown = tt

-- and where something is lost, nothing is recorded
pub continues_untold : {A : Type 0} (untold : ℕ) (before : Option (List A)) (now more : List A) → 0 < untold → Continues before (told_at_zero untold now) more
continues_untold zero before now more some = absurd (omega arith)
continues_untold (suc untold) before now more some = tt

-- the call that comes next is one of those that fail, or none of them
pub fails_now : (fails : List ℕ) (made : ℕ) (failed : Bool) → (IsTrue failed ↔ IsTrue (is_failing fails (one_more made))) → is_failing fails (one_more made) ≡ failed
fails_now fails made failed same = alike (is_failing fails (one_more made)) failed same
  where
    alike : (a b : Bool) → (IsTrue b ↔ IsTrue a) → a ≡ b
    alike true true e = refl
    alike true false e = let never : false ≡ true = e.1 refl in absurd cc
    alike false true e = let never : false ≡ true = e.0 refl in absurd cc
    alike false false e = refl

-- no call fails where none is to fail
pub none_fails : (fails later : List ℕ) (number : ℕ) → later ≡ fails → later ≡ [] → IsTrue (is_failing fails number) → ⊥
none_fails [] later number same none is = let never : false ≡ true = is in absurd cc
none_fails (f ∷ fails) later number same none is = let never : f ∷ fails ≡ [] = sym same ∙ none in absurd cc

-- the happenings have a call of `next` more, where it was counted
pub history_called : (gaps : List ℕ) (acts : List Act) (fails later : List ℕ) (events : List EventWithBytes) (stop : EventWithBytes) (made uncounted now lost since since_now : ℕ) (h : Happening)
    → (now ≡ 0 → (uncounted ≡ 0) × (since < 2 ^ 64 - 1)) → since_now ≡ one_more since → later ≡ fails → length gaps ≡ length acts
    → (uncounted ≡ 0 → lost ≡ 0 → made ≡ made_by (steps gaps acts since) 0)
    → (uncounted ≡ 0 → lost ≡ 0 → call_result fails events stop made (given_by fails (steps gaps acts since) 0 0) ≡ h)
    → Continues (told_at_zero (uncounted + lost) (happened_by fails events stop (steps gaps acts since) 0 0)) (told_at_zero (now + lost) (happened_by later events stop (steps gaps acts since_now) 0 0)) (h ∷ [])
history_called gaps acts fails later events stop made uncounted (suc now) lost since since_now h counted more kept few placed comes =
    continues_untold (suc now + lost) _ _ (h ∷ []) (omega arith)
history_called gaps acts fails later events stop made uncounted zero (suc lost) since since_now h counted more kept few placed comes =
    continues_untold (zero + suc lost) _ _ (h ∷ []) (omega arith)
history_called gaps acts fails later events stop made uncounted zero zero since since_now h counted more kept few placed comes =
    let both = counted refl in
    let next : since_now ≡ suc since = omega (arith, both.1) in
    let grown : happened_by later events stop (steps gaps acts since_now) 0 0 ≡ happened_by fails events stop (steps gaps acts since) 0 0 ++ h ∷ [] =
    ap (λ (fs : List ℕ). happened_by fs events stop (steps gaps acts since_now) 0 0) kept
    ∙ ap (λ (n : ℕ). happened_by fails events stop (steps gaps acts n) 0 0) next
    ∙ ap (λ (xs : List Step). happened_by fails events stop xs 0 0) (steps_asked gaps acts since few)
    ∙ happened_by-append fails events stop (steps gaps acts since) (asked ∷ []) 0 0
    ∙ ap (λ (n : ℕ). happened_by fails events stop (steps gaps acts since) 0 0 ++ call_result fails events stop n (given_by fails (steps gaps acts since) 0 0) ∷ []) (sym (placed both.0 refl))
    ∙ ap (λ (x : Happening). happened_by fails events stop (steps gaps acts since) 0 0 ++ x ∷ []) (comes both.0 refl) in
    let none : 0 ≡ uncounted + 0 = omega (arith, both.0) in
    subst (λ (k : ℕ). Continues (told_at_zero k (happened_by fails events stop (steps gaps acts since) 0 0)) (told_at_zero (0 + 0) (happened_by later events stop (steps gaps acts since_now) 0 0)) (h ∷ [])) none
    (continues_told 0 _ _ (h ∷ []) grown)

-- the number of calls after one more call of `next`
pub made_called : (gaps : List ℕ) (acts : List Act) (made made_now since since_now : ℕ) → length gaps ≡ length acts → since_now ≡ suc since → made_now ≡ one_more made
    → made ≡ made_by (steps gaps acts since) 0 → made_now ≡ made_by (steps gaps acts since_now) 0
made_called gaps acts made made_now since since_now few next more placed =
    more
    ∙ ap one_more placed
    ∙ sym (made_by-append (steps gaps acts since) (asked ∷ []) 0)
    ∙ ap (λ (xs : List Step). made_by xs 0) (sym (steps_asked gaps acts since few))
    ∙ ap (λ (n : ℕ). made_by (steps gaps acts n) 0) (sym next)

-- the number of events given after one more call of `next`
pub given_called : (gaps : List ℕ) (acts : List Act) (fails later : List ℕ) (made since since_now : ℕ) → length gaps ≡ length acts → later ≡ fails → since_now ≡ suc since → made ≡ made_by (steps gaps acts since) 0
    → given_by later (steps gaps acts since_now) 0 0 ≡ given_after fails made (given_by fails (steps gaps acts since) 0 0)
given_called gaps acts fails later made since since_now few same next placed =
    ap (λ (fs : List ℕ). given_by fs (steps gaps acts since_now) 0 0) same
    ∙ ap (λ (n : ℕ). given_by fails (steps gaps acts n) 0 0) next
    ∙ ap (λ (xs : List Step). given_by fails xs 0 0) (steps_asked gaps acts since few)
    ∙ given_by-append fails (steps gaps acts since) (asked ∷ []) 0 0
    ∙ ap (λ (n : ℕ). given_after fails n (given_by fails (steps gaps acts since) 0 0)) (sym placed)

-- the happenings have an act more, which was kept
pub history_did : (gaps later : List ℕ) (acts more : List Act) (fails : List ℕ) (events : List EventWithBytes) (stop : EventWithBytes) (made uncounted lost now since since_now : ℕ) (act : Act)
    → (uncounted ≡ 0 → lost ≡ 0 → made ≡ made_by (steps gaps acts since) 0) → length gaps ≡ length acts → later ≡ gaps ++ since ∷ [] → more ≡ acts ++ act ∷ [] → now ≡ lost → since_now ≡ 0
    → Continues (told_at_zero (uncounted + lost) (happened_by fails events stop (steps gaps acts since) 0 0)) (told_at_zero (uncounted + now) (happened_by fails events stop (steps later more since_now) 0 0)) (did act ∷ breaks_after fails made act)
history_did gaps later acts more fails events stop made (suc uncounted) lost now since since_now act placed few grown kept same none =
    continues_untold (suc uncounted + now) _ _ (did act ∷ breaks_after fails made act) (omega arith)
history_did gaps later acts more fails events stop made zero (suc lost) now since since_now act placed few grown kept same none =
    continues_untold (zero + now) _ _ (did act ∷ breaks_after fails made act) (omega arith)
history_did gaps later acts more fails events stop made zero zero now since since_now act placed few grown kept same none =
    let longer : happened_by fails events stop (steps later more since_now) 0 0 ≡ happened_by fails events stop (steps gaps acts since) 0 0 ++ (did act ∷ breaks_after fails made act) =
    ap (λ (n : ℕ). happened_by fails events stop (steps later more n) 0 0) none
    ∙ ap (λ (gs : List ℕ). happened_by fails events stop (steps gs more 0) 0 0) grown
    ∙ ap (λ (xs : List Act). happened_by fails events stop (steps (gaps ++ since ∷ []) xs 0) 0 0) kept
    ∙ ap (λ (xs : List Step). happened_by fails events stop xs 0 0) (steps_acted gaps acts since act few)
    ∙ happened_by-append fails events stop (steps gaps acts since) (acted act ∷ []) 0 0
    ∙ ap (λ (n : ℕ). happened_by fails events stop (steps gaps acts since) 0 0 ++ (did act ∷ breaks_after fails n act ++ [])) (sym (placed refl refl))
    ∙ ap (λ (xs : List Happening). happened_by fails events stop (steps gaps acts since) 0 0 ++ (did act ∷ xs)) (append-nil (breaks_after fails made act)) in
    let none_lost : 0 ≡ 0 + now = omega (arith, same) in
    subst (λ (k : ℕ). Continues (told_at_zero (0 + 0) (happened_by fails events stop (steps gaps acts since) 0 0)) (told_at_zero k (happened_by fails events stop (steps later more since_now) 0 0)) (did act ∷ breaks_after fails made act)) none_lost
    (continues_told 0 _ _ (did act ∷ breaks_after fails made act) longer)

-- the number of calls after one more act
pub made_did : (gaps later : List ℕ) (acts more : List Act) (made since since_now : ℕ) (act : Act) → length gaps ≡ length acts → later ≡ gaps ++ since ∷ [] → more ≡ acts ++ act ∷ [] → since_now ≡ 0
    → made ≡ made_by (steps gaps acts since) 0 → made_after act made ≡ made_by (steps later more since_now) 0
made_did gaps later acts more made since since_now act few grown kept none placed =
    ap (made_after act) placed
    ∙ sym (made_by-append (steps gaps acts since) (acted act ∷ []) 0)
    ∙ ap (λ (xs : List Step). made_by xs 0) (sym (steps_acted gaps acts since act few))
    ∙ ap (λ (xs : List Act). made_by (steps (gaps ++ since ∷ []) xs 0) 0) (sym kept)
    ∙ ap (λ (gs : List ℕ). made_by (steps gs more 0) 0) (sym grown)
    ∙ ap (λ (n : ℕ). made_by (steps later more n) 0) (sym none)

-- the number of events given after one more act
pub given_did : (gaps later : List ℕ) (acts more : List Act) (fails : List ℕ) (since since_now : ℕ) (act : Act) → length gaps ≡ length acts → later ≡ gaps ++ since ∷ [] → more ≡ acts ++ act ∷ [] → since_now ≡ 0
    → given_by fails (steps later more since_now) 0 0 ≡ given_by fails (steps gaps acts since) 0 0
given_did gaps later acts more fails since since_now act few grown kept none =
    ap (λ (n : ℕ). given_by fails (steps later more n) 0 0) none
    ∙ ap (λ (gs : List ℕ). given_by fails (steps gs more 0) 0 0) grown
    ∙ ap (λ (xs : List Act). given_by fails (steps (gaps ++ since ∷ []) xs 0) 0 0) kept
    ∙ ap (λ (xs : List Step). given_by fails xs 0 0) (steps_acted gaps acts since act few)
    ∙ given_by-append fails (steps gaps acts since) (acted act ∷ []) 0 0

-- the rest loses the event at the place that was reached
pub TakesFrom-at_item : (all : List EventWithBytes) (given stop_moment : ℕ) (e : EventWithBytes) (buffer : List ℕ) → slice_get all given ≡ Some e → in_buffer e.event buffer ≡ e → TakesFrom (drop given all) (drop (given + 1) all) stop_moment (Got e.event) buffer
TakesFrom-at_item all given stop_moment e buffer item same =
    subst (λ (xs : List EventWithBytes). TakesFrom xs (drop (given + 1) all) stop_moment (Got e.event) buffer) (sym (drop-at_item all given e item))
    (same, refl)
