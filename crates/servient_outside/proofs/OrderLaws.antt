-- The happenings at a network in memory, as its calls and the acts come one by one.
use Rattle.std.proofs.Common.{◌≡◌, ℕ, zero, suc, ◌≤◌, ◌<◌, List, [], ◌∷◌, ◌++◌, length, refl, sym, ap, ◌∙◌, arith, append_assoc, true, false}
use Rattle.std.proofs.lemmas.List.Elements.{filter_map-append}
use Rattle.std.specs.Prelude.{if◌then◌else◌, slice_get, unwrap_or, min, Some, None, Option, Bool}
use Rattle.std.proofs.lemmas.Option.{slice_get_past}
use Rattle.servient_base.specs.Count.{one_more}
use Rattle.servient_outside.specs.declared.net.EventWithBytes.{EventWithBytes}
use Rattle.servient_outside.specs.declared.net.Act.{Act}
use Rattle.servient_outside.specs.declared.net.Act.TheVariants as act
use Rattle.servient_outside.specs.CallCount.{is_failing}
use Rattle.servient_outside.specs.Network.{Happening, heard, did, broke, next_event, listening, acts_in, act_in}
use Rattle.servient_outside.specs.Order.{Step, asked, acted, asks, steps, made_after, breaks_after, given_after, call_result, made_by, given_by, happened_by}

-- ---- one more step

-- one more call of `next` comes after the others
asks_more : (count : ℕ) → asks (suc count) ≡ asks count ++ asked ∷ []
asks_more zero = refl
asks_more (suc count) = ap (λ (xs : List Step). asked ∷ xs) (asks_more count)

pub steps_asked : (gaps : List ℕ) (acts : List Act) (since : ℕ) → length gaps ≡ length acts → steps gaps acts (suc since) ≡ steps gaps acts since ++ asked ∷ []
steps_asked [] acts since few = asks_more since
steps_asked (gap ∷ gaps) [] since few = absurd (omega arith)
steps_asked (gap ∷ gaps) (act ∷ acts) since few =
    rw (steps_asked gaps acts since (omega arith))
    (sym (append_assoc (asks gap) (acted act ∷ steps gaps acts since) (asked ∷ [])))

-- one more act comes after the others
pub steps_acted : (gaps : List ℕ) (acts : List Act) (since : ℕ) (act : Act) → length gaps ≡ length acts → steps (gaps ++ since ∷ []) (acts ++ act ∷ []) 0 ≡ steps gaps acts since ++ acted act ∷ []
steps_acted [] [] since act few = refl
steps_acted [] (a ∷ acts) since act few = absurd (omega arith)
steps_acted (gap ∷ gaps) [] since act few = absurd (omega arith)
steps_acted (gap ∷ gaps) (a ∷ acts) since act few =
    rw (steps_acted gaps acts since act (omega arith))
    (sym (append_assoc (asks gap) (acted a ∷ steps gaps acts since) (acted act ∷ [])))

-- ---- what one more step does

pub made_by-append : (a b : List Step) (made : ℕ) → made_by (a ++ b) made ≡ made_by b (made_by a made)
made_by-append [] b made = refl
made_by-append (asked ∷ a) b made = made_by-append a b (one_more made)
made_by-append (acted act ∷ a) b made = made_by-append a b (made_after act made)

pub given_by-append : (fails : List ℕ) (a b : List Step) (made given : ℕ) → given_by fails (a ++ b) made given ≡ given_by fails b (made_by a made) (given_by fails a made given)
given_by-append fails [] b made given = refl
given_by-append fails (asked ∷ a) b made given = given_by-append fails a b (one_more made) (given_after fails made given)
given_by-append fails (acted act ∷ a) b made given = given_by-append fails a b (made_after act made) given

pub happened_by-append : (fails : List ℕ) (events : List EventWithBytes) (stop : EventWithBytes) (a b : List Step) (made given : ℕ)
    → happened_by fails events stop (a ++ b) made given ≡ happened_by fails events stop a made given ++ happened_by fails events stop b (made_by a made) (given_by fails a made given)
happened_by-append fails events stop [] b made given = refl
happened_by-append fails events stop (asked ∷ a) b made given =
    ap (λ (xs : List Happening). call_result fails events stop made given ∷ xs) (happened_by-append fails events stop a b (one_more made) (given_after fails made given))
happened_by-append fails events stop (acted act ∷ a) b made given =
    ap (λ (xs : List Happening). did act ∷ breaks_after fails made act ++ xs) (happened_by-append fails events stop a b (made_after act made) given)
    ∙ ap (λ (xs : List Happening). did act ∷ xs) (sym (append_assoc (breaks_after fails made act) (happened_by fails events stop a (made_after act made) given) (happened_by fails events stop b (made_by a (made_after act made)) (given_by fails a (made_after act made) given))))

-- ---- the acts among what happened

abbrev acts_of : List Step → List Act
acts_of [] = []
acts_of (asked ∷ a) = acts_of a
acts_of (acted act ∷ a) = act ∷ acts_of a

acts_of-asks : (count : ℕ) (a : List Step) → acts_of (asks count ++ a) ≡ acts_of a
acts_of-asks zero a = refl
acts_of-asks (suc count) a = acts_of-asks count a

acts_of-asks_alone : (count : ℕ) → acts_of (asks count) ≡ []
acts_of-asks_alone zero = refl
acts_of-asks_alone (suc count) = acts_of-asks_alone count

acts_of-steps : (gaps : List ℕ) (acts : List Act) (since : ℕ) → length gaps ≡ length acts → acts_of (steps gaps acts since) ≡ acts
acts_of-steps [] [] since few = acts_of-asks_alone since
acts_of-steps [] (a ∷ acts) since few = absurd (omega arith)
acts_of-steps (gap ∷ gaps) [] since few = absurd (omega arith)
acts_of-steps (gap ∷ gaps) (a ∷ acts) since few =
    acts_of-asks gap (acted a ∷ steps gaps acts since) ∙ ap (λ (xs : List Act). a ∷ xs) (acts_of-steps gaps acts since (omega arith))

no_act_in_breaks : (fails : List ℕ) (made : ℕ) (a : Act) → acts_in (breaks_after fails made a) ≡ []
no_act_in_breaks fails made (act.Sent c bytes) = refl
no_act_in_breaks fails made (act.Closed c) = refl
no_act_in_breaks fails made (act.Datagram to bytes) = refl
no_act_in_breaks fails made (act.Listened place) = no_act_in (is_failing fails (one_more made))
  where
    no_act_in : (b : Bool) → acts_in (if b then broke listening ∷ [] else []) ≡ []
    no_act_in true = refl
    no_act_in false = refl
no_act_in_breaks fails made (act.Dialled host port (Some c)) = refl
no_act_in_breaks fails made (act.Dialled host port None) = refl
no_act_in_breaks fails made (act.Looked host port (Some to)) = refl
no_act_in_breaks fails made (act.Looked host port None) = refl

no_act_in_result : (fails : List ℕ) (events : List EventWithBytes) (stop : EventWithBytes) (made given : ℕ) → acts_in (call_result fails events stop made given ∷ []) ≡ []
no_act_in_result fails events stop made given = no_act_in (is_failing fails (one_more made)) (unwrap_or (slice_get events given) stop)
  where
    no_act_in : (b : Bool) (e : EventWithBytes) → acts_in ((if b then broke next_event else heard e) ∷ []) ≡ []
    no_act_in true e = refl
    no_act_in false e = refl

acts_in-happened : (fails : List ℕ) (events : List EventWithBytes) (stop : EventWithBytes) (a : List Step) (made given : ℕ) → acts_in (happened_by fails events stop a made given) ≡ acts_of a
acts_in-happened fails events stop [] made given = refl
acts_in-happened fails events stop (asked ∷ a) made given =
    filter_map-append act_in (call_result fails events stop made given ∷ []) (happened_by fails events stop a (one_more made) (given_after fails made given))
    ∙ ap (λ (xs : List Act). xs ++ acts_in (happened_by fails events stop a (one_more made) (given_after fails made given))) (no_act_in_result fails events stop made given)
    ∙ acts_in-happened fails events stop a (one_more made) (given_after fails made given)
acts_in-happened fails events stop (acted act ∷ a) made given =
    ap (λ (xs : List Act). act ∷ xs)
    (filter_map-append act_in (breaks_after fails made act) (happened_by fails events stop a (made_after act made) given)
    ∙ ap (λ (xs : List Act). xs ++ acts_in (happened_by fails events stop a (made_after act made) given)) (no_act_in_breaks fails made act)
    ∙ acts_in-happened fails events stop a (made_after act made) given)

-- the acts that happened are those that were kept
pub acts_in-told : (gaps : List ℕ) (acts : List Act) (since : ℕ) (fails : List ℕ) (events : List EventWithBytes) (stop : EventWithBytes) → length gaps ≡ length acts
    → acts_in (happened_by fails events stop (steps gaps acts since) 0 0) ≡ acts
acts_in-told gaps acts since fails events stop few =
    acts_in-happened fails events stop (steps gaps acts since) 0 0 ∙ acts_of-steps gaps acts since few

-- ---- what the next call does

pub given_failed : (fails : List ℕ) (made given : ℕ) → is_failing fails (one_more made) ≡ true → given_after fails made given ≡ given
given_failed fails made given is = rw is refl

pub given_gave : (fails : List ℕ) (made given : ℕ) → is_failing fails (one_more made) ≡ false → given_after fails made given ≡ suc given
given_gave fails made given is = rw is refl

pub call_failed : (fails : List ℕ) (events : List EventWithBytes) (stop : EventWithBytes) (made given : ℕ) → is_failing fails (one_more made) ≡ true → call_result fails events stop made given ≡ broke next_event
call_failed fails events stop made given is = rw is refl

pub call_gave : (fails : List ℕ) (events : List EventWithBytes) (stop : EventWithBytes) (made all given : ℕ) (e : EventWithBytes) → is_failing fails (one_more made) ≡ false
    → given ≡ min all (length events) → slice_get events given ≡ Some e → given < length events → call_result fails events stop made all ≡ heard e
call_gave fails events stop made all given e is reached item within =
    let same : all ≡ given = omega arith in
    rw is (ap (λ (x : EventWithBytes). heard x) (ap (λ (o : Option EventWithBytes). unwrap_or o stop) (ap (λ (n : ℕ). slice_get events n) same ∙ item)))

pub call_stopped : (fails : List ℕ) (events : List EventWithBytes) (stop : EventWithBytes) (made all given : ℕ) → is_failing fails (one_more made) ≡ false
    → given ≡ min all (length events) → length events ≤ given → call_result fails events stop made all ≡ heard stop
call_stopped fails events stop made all given is reached past =
    let none : slice_get events all ≡ None = slice_get_past events all (omega arith) in
    rw is (ap (λ (x : EventWithBytes). heard x) (ap (λ (o : Option EventWithBytes). unwrap_or o stop) none))
