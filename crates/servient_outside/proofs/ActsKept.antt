-- Laws of acts that a network in memory keeps.
use Rattle.std.proofs.Common.{◌≡◌, ℕ, zero, suc, List, [], ◌∷◌, refl, sym, ap, ◌∙◌, arith, true, false, inl, inr, subst}
use Rattle.std.specs.Prelude.{Result, Ok, Err, IfOk, IsSome, ◌⊎◌, Option}
use Rattle.std.specs.declared.alloc.AllocError.{AllocError}
use Rattle.servient_base.specs.Count.{one_more, RoseBy}
use Rattle.servient_outside.specs.declared.act_log.ActLog.{ActLog}
use Rattle.servient_outside.specs.declared.calls.CallCount.{CallCount}
use Rattle.servient_outside.specs.declared.net.Act.{Act}
use Rattle.servient_outside.specs.declared.net.EventWithBytes.{EventWithBytes}
use Rattle.servient_outside.specs.declared.net.Act.TheVariants as act
use Rattle.servient_outside.specs.declared.net_memory.NetMemory.{NetMemory}
use Rattle.servient_outside.specs.declared.place.Place.{Place}
use Rattle.servient_outside.specs.ActLog.{AddsAct, LosesAct, KeepsIfMade}
use Rattle.servient_outside.specs.CallCount.{is_failing, none_fails}
use Rattle.servient_outside.specs.Told.{told_at_zero, Continues}
use Rattle.servient_outside.specs.Order.{made_after, breaks_after}
use Rattle.servient_outside.specs.Network.{Happening, did, broke, listening, break_count, Leaves, NetShows}
use Rattle.servient_outside.specs.NetMemory.{told_history, left_events, net_seen, KeepsEvents, GoesOnBy, IsCall, IsNoCall}

-- a record stays, where no more is untold
pub told_still : {A : Type 0} (a b : ℕ) (x y : A) → b ≡ a → IsSome (told_at_zero a x) → IsSome (told_at_zero b y)
told_still zero zero x y same was = refl
told_still zero (suc b) x y same was = absurd (omega arith)
told_still (suc a) b x y same was = absurd cc

-- the act that was made is kept or lost
pub kept_act : (before now : ActLog) (made : Result Act AllocError) (done : Act) → IfOk made (λ a. a ≡ done) → KeepsIfMade before now made → AddsAct before now done ⊎ LosesAct before now
kept_act before now (Ok a) done same (inl kept) = inl (subst (λ (x : Act). AddsAct before now x) same kept)
kept_act before now (Ok a) done same (inr lost) = inr lost
kept_act before now (Err e) done same lost = inr lost

-- and where it is kept, it is of the kind that is kept here
pub kept_some : (P : Act → Type 0) (before now : ActLog) (made : Result Act AllocError) → IfOk made P → KeepsIfMade before now made → ((a : Act) × P a × AddsAct before now a) ⊎ LosesAct before now
kept_some P before now (Ok a) is (inl kept) = inl (a, is, kept)
kept_some P before now (Ok a) is (inr lost) = inr lost
kept_some P before now (Err e) is lost = inr lost

pub no_call_made : (a : Act) (made : ℕ) → IsNoCall a → made_after a made ≡ made
no_call_made (act.Sent c bytes) made is = refl
no_call_made (act.Closed c) made is = refl
no_call_made (act.Datagram to bytes) made is = refl
no_call_made (act.Listened place) made is = absurd is
no_call_made (act.Dialled host port c) made is = absurd is
no_call_made (act.Looked host port to) made is = absurd is

pub call_made : (a : Act) (made : ℕ) → IsCall a → made_after a made ≡ one_more made
call_made (act.Sent c bytes) made is = absurd is
call_made (act.Closed c) made is = absurd is
call_made (act.Datagram to bytes) made is = absurd is
call_made (act.Listened place) made is = refl
call_made (act.Dialled host port c) made is = refl
call_made (act.Looked host port to) made is = refl

-- an act that can't fail is all that is seen of it
pub shows_act : (before now : NetMemory) (a : Act) → IsNoCall a → GoesOnBy before now a → left_events now ≡ left_events before → KeepsEvents before now → NetShows (net_seen before) (net_seen now) (did a ∷ [])
shows_act before now (act.Sent c bytes) is h left stays = record { history = h; left = left; faults = omega (arith, stays.faults); no_failure = λ never. (ap (λ (c : CallCount). none_fails c.fails) stays.calls ∙ never, refl, stays.faults) }
shows_act before now (act.Closed c) is h left stays = record { history = h; left = left; faults = omega (arith, stays.faults); no_failure = λ never. (ap (λ (c : CallCount). none_fails c.fails) stays.calls ∙ never, refl, stays.faults) }
shows_act before now (act.Datagram to bytes) is h left stays = record { history = h; left = left; faults = omega (arith, stays.faults); no_failure = λ never. (ap (λ (c : CallCount). none_fails c.fails) stays.calls ∙ never, refl, stays.faults) }
shows_act before now (act.Listened place) is h left stays = absurd is
shows_act before now (act.Dialled host port c) is h left stays = absurd is
shows_act before now (act.Looked host port to) is h left stays = absurd is

-- an act that failed is seen with its break
pub listen_broke : (fails : List ℕ) (made : ℕ) (place : Place) → is_failing fails (one_more made) ≡ true → breaks_after fails made (act.Listened place) ≡ broke listening ∷ []
listen_broke fails made place is = rw is refl

pub listen_went : (fails : List ℕ) (made : ℕ) (place : Place) → is_failing fails (one_more made) ≡ false → breaks_after fails made (act.Listened place) ≡ []
listen_went fails made place is = rw is refl

-- a call that fails is none of a network whose calls don't
pub failing_never : (fails : List ℕ) (number : ℕ) → is_failing fails number ≡ true → none_fails fails ≡ true → ⊥
failing_never [] number is never = absurd cc
failing_never (f ∷ fails) number is never = absurd cc

-- a call and what follows it are all that is seen of it
pub shows_call : (before now : NetMemory) (a : Act) (more : List Happening) (faults : ℕ) → GoesOnBy before now a → breaks_after before.calls.fails before.calls.made a ≡ more → left_events now ≡ left_events before
    → now.calls.fails ≡ before.calls.fails → (none_fails before.calls.fails ≡ true → (break_count more ≡ 0) × (faults ≡ before.faults))
    → RoseBy (break_count more) before.faults faults → Leaves more (left_events before) (left_events before)
    → NetShows (net_seen before) (record { history = told_history now; left = left_events now; faults = faults; never_fail = none_fails now.calls.fails }) (did a ∷ more)
shows_call before now a more faults h same left kept unbroken rose stays =
    record {
      history = subst (λ (xs : List Happening). Continues (told_history before) (told_history now) (did a ∷ xs)) same h;
      left = subst (λ (o : Option (List EventWithBytes)). Leaves more (left_events before) o) (sym left) stays;
      faults = rose;
      no_failure = λ never. (ap none_fails kept ∙ never, (unbroken never).0, (unbroken never).1);
    }
