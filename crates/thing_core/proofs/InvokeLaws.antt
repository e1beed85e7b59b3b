-- Acts on actions as moves of the Thing machine.
use Rattle.std.proofs.Common.{◌≡◌, ℕ, zero, suc, ◌+◌, List, [], ◌∷◌, drop, true, false, refl, sym, ap, subst, ◌∙◌, arith}
use Rattle.std.specs.Prelude.{Option, Some, None, IsSome, IfSome, slice_get}
use Rattle.std.proofs.lemmas.Option.{same_Some}
use Rattle.servient_base.specs.Moves.{Makes}
use Rattle.wot_json.specs.declared.tree.Tree.{Tree}
use Rattle.thing_ops.specs.declared.outcome.Outcome.{Outcome}
use Rattle.thing_ops.specs.declared.outcome.Outcome.TheVariants as outcome
use Rattle.thing_handler.specs.declared.handler.CallKind.TheVariants as call
use Rattle.thing_handler.specs.Handler.{Seen}
use Rattle.thing_handler.specs.Turns.{RackShows}
use Rattle.thing_site.specs.Refusals.{Input}
use Rattle.thing_site.specs.Site.{Placed}
use Rattle.thing_state.specs.State.{Status, running, completed, Invocation, State, invocation_named, is_running, without_invocation, status_text, with_invocations}
use Rattle.thing_state.specs.Course.{Course}
use Rattle.thing_state.specs.Calls.{Called, no_number, no_memory, gives, IsUnanswered, MakesCall}
use Rattle.thing_core.specs.Thing.{only, place_of_invocation, IsHandedIn, IsInvoked, Invokes, IsQueried, Queries, IsCancelled, Cancels, OnInvocation}
use Rattle.thing_handler.specs.declared.handler.Answer.{Answer}
use Rattle.thing_core.specs.Performing.{MakesDone, SettlesInvocation}
use Rattle.thing_core.proofs.MoveLaws.{call_ends, done_alone, made_unseen}

-- an action is invoked by one call
pub invoke_done : (p : Placed) (path : List (List ℕ)) (inputs : List Input) (handed : Option Tree) (called : Called) (o : Outcome) (c d e : Course) (a b : List Seen) → IsHandedIn inputs handed
    → MakesCall p.slot (call.Invoke c.state.next_invocation handed) called c d a b → IsInvoked p path c.state.next_invocation (only o) called d.state [] e.state → e.pending ≡ d.pending
    → MakesDone (Invokes p path inputs) o c e a b
invoke_done p path inputs handed called o c d e a b hands k is pending =
    let made : Makes RackShows _ c.state e.state a b =
    call_ends (IsInvoked p path c.state.next_invocation) p.slot (call.Invoke c.state.next_invocation handed) called c d e.state (only o) a b k is in
    done_alone (Invokes p path inputs) o c e a b
    (record { seen = made.seen; move = (handed, hands, made.move); shows = made.shows }) (pending ∙ k.pending)

-- an invocation that runs is asked about, or ended, by one call
pub query_done : (p : Placed) (id : ℕ) (i : Invocation) (called : Called) (o : Outcome) (c d e : Course) (a b : List Seen) → invocation_named p.slot id c.state.invocations ≡ Some i → i.status ≡ running
    → MakesCall p.slot (call.Query id) called c d a b → IsQueried p id (only o) called d.state [] e.state → e.pending ≡ d.pending
    → MakesDone (OnInvocation p id (Queries p id)) o c e a b
query_done p id i called o c d e a b found runs k is pending =
    let made : Makes RackShows _ c.state e.state a b = call_ends (IsQueried p id) p.slot (call.Query id) called c d e.state (only o) a b k is in
    done_alone (OnInvocation p id (Queries p id)) o c e a b
    (record {
      seen = made.seen;
      move = (i, found, subst (λ (s : Status). Queries p id s (only o) c.state made.seen e.state) (sym runs) made.move);
      shows = made.shows;
    }) (pending ∙ k.pending)

pub cancel_done : (p : Placed) (id : ℕ) (i : Invocation) (called : Called) (o : Outcome) (c d e : Course) (a b : List Seen) → invocation_named p.slot id c.state.invocations ≡ Some i → i.status ≡ running
    → MakesCall p.slot (call.Cancel id) called c d a b → IsCancelled id (only o) called d.state [] e.state → e.pending ≡ d.pending
    → MakesDone (OnInvocation p id (Cancels p id)) o c e a b
cancel_done p id i called o c d e a b found runs k is pending =
    let made : Makes RackShows _ c.state e.state a b = call_ends (IsCancelled id) p.slot (call.Cancel id) called c d e.state (only o) a b k is in
    done_alone (OnInvocation p id (Cancels p id)) o c e a b
    (record {
      seen = made.seen;
      move = (i, found, subst (λ (s : Status). Cancels p id s (only o) c.state made.seen e.state) (sym runs) made.move);
      shows = made.shows;
    }) (pending ∙ k.pending)

-- one that runs no more is asked about, or goes, without a call
pub told_done : (p : Placed) (id : ℕ) (i : Invocation) (output : Option (List ℕ)) (o : Outcome) (c : Course) (a : List Seen) → invocation_named p.slot id c.state.invocations ≡ Some i
    → i.status ≡ completed output → o ≡ outcome.Content (status_text id (completed output)) None → MakesDone (OnInvocation p id (Queries p id)) o c c a a
told_done p id i output o c a found stands is =
    done_alone (OnInvocation p id (Queries p id)) o c c a a
    (made_unseen (OnInvocation p id (Queries p id) (only o)) c.state c.state a
    (i, found, subst (λ (s : Status). Queries p id s (only o) c.state [] c.state) (sym stands) (ap only is, record { next = refl; saw = refl }))) refl

-- there is no answer, and nothing changes
pub unanswered_invoke : (p : Placed) (path : List (List ℕ)) (id : ℕ) (s : State) (called : Called) (o : Outcome) → IsUnanswered called o → IsInvoked p path id (only o) called s [] s
unanswered_invoke p path id s no_number o e = (ap only e, record { next = refl; saw = refl })
unanswered_invoke p path id s no_memory o e = (ap only e, record { next = refl; saw = refl })
unanswered_invoke p path id s (gives answer) o e = absurd e

pub unanswered_query : (p : Placed) (id : ℕ) (s : State) (called : Called) (o : Outcome) → IsUnanswered called o → IsQueried p id (only o) called s [] s
unanswered_query p id s no_number o e = (ap only e, record { next = refl; saw = refl })
unanswered_query p id s no_memory o e = (ap only e, record { next = refl; saw = refl })
unanswered_query p id s (gives answer) o e = absurd e

pub unanswered_cancel : (id : ℕ) (s : State) (called : Called) (o : Outcome) → IsUnanswered called o → IsCancelled id (only o) called s [] s
unanswered_cancel id s no_number o e = (ap only e, record { next = refl; saw = refl })
unanswered_cancel id s no_memory o e = (ap only e, record { next = refl; saw = refl })
unanswered_cancel id s (gives answer) o e = absurd e

-- ---- the status of an invocation

pub some_of : {A : Type 0} (o : Option A) → IsSome o → (x : A) × (o ≡ Some x)
some_of None is = absurd cc
some_of (Some x) is = (x, refl)

pub running_one : (o : Option Invocation) → IsSome o → IfSome o (λ i. i.status ≡ running) → (i : Invocation) × (o ≡ Some i) × (i.status ≡ running)
running_one None is runs = absurd cc
running_one (Some i) is runs = (i, refl, runs)

it_runs : (s : Status) → is_running (record { id = 0; slot = 0; status = s }) ≡ true → s ≡ running
it_runs running e = refl
it_runs (completed output) e = absurd cc

pub found_running : (o : Option Invocation) → IsSome o → IfSome o (λ i. true ≡ is_running i) → (i : Invocation) × (o ≡ Some i) × (i.status ≡ running)
found_running None is runs = absurd cc
found_running (Some i) is runs = (i, refl, it_runs i.status (sym runs))

it_stands : (s : Status) → is_running (record { id = 0; slot = 0; status = s }) ≡ false → (output : Option (List ℕ)) × (s ≡ completed output)
it_stands running e = absurd cc
it_stands (completed output) e = (output, refl)

found_completed : (o : Option Invocation) → IsSome o → IfSome o (λ i. false ≡ is_running i) → (i : Invocation) × (output : Option (List ℕ)) × (o ≡ Some i) × (i.status ≡ completed output)
found_completed None is stands = absurd cc
found_completed (Some i) is stands = let s = it_stands i.status (sym stands) in (i, s.0, refl, s.1)

-- one that runs no more goes without a call
pub removed_done : (p : Placed) (id : ℕ) (c e : Course) (a : List Seen) → IsSome (invocation_named p.slot id c.state.invocations)
    → IfSome (invocation_named p.slot id c.state.invocations) (λ i. false ≡ is_running i)
    → e ≡ record c { state = with_invocations (without_invocation id c.state.invocations) c.state } → MakesDone (OnInvocation p id (Cancels p id)) outcome.Deleted c e a a
removed_done p id c e a is stands gone =
    let found = found_completed (invocation_named p.slot id c.state.invocations) is stands in
    done_alone (OnInvocation p id (Cancels p id)) outcome.Deleted c e a a
    (made_unseen (OnInvocation p id (Cancels p id) (only outcome.Deleted)) c.state e.state a (
      found.0,
      found.2,
      subst (λ (s : Status). Cancels p id s (only outcome.Deleted) c.state [] e.state) (sym found.3) (refl, record { next = ap (λ (x : Course). x.state) gone; saw = refl }),
    )) (ap (λ (x : Course). x.pending) gone)

-- ---- paths

pub next_segment : (path : List (List ℕ)) (i : ℕ) (s : List ℕ) → slice_get path i ≡ Some s → drop i path ≡ s ∷ drop (i + 1) path
next_segment [] i s e = absurd cc
next_segment (x ∷ path) zero s e = ap (λ (y : List ℕ). y ∷ path) (same_Some x s e)
next_segment (x ∷ path) (suc i) s e = next_segment path i s e ∙ (let n : suc (i + 1) ≡ suc i + 1 = omega arith in ap (λ (k : ℕ). s ∷ drop k (x ∷ path)) n)

-- the effect of an answer to an invocation is said at the state after the call, whose next id is that before it
pub invoked_after : (p : Placed) (path place : List (List ℕ)) (inputs : List Input) (handed : Option Tree) (a : Answer) (o : Outcome) (c d e : Course) (x y : List Seen) → IsHandedIn inputs handed
    → MakesCall p.slot (call.Invoke c.state.next_invocation handed) (gives a) c d x y → place ≡ place_of_invocation path c.state.next_invocation → SettlesInvocation p place a o d e
    → MakesDone (Invokes p path inputs) o c e x y
invoked_after p path place inputs handed a o c d e x y hands k is settles =
    let same : c.state.next_invocation ≡ d.state.next_invocation = ap (λ (s : State). s.next_invocation) (sym k.made.move.1.next) in
    let there : place ≡ place_of_invocation path d.state.next_invocation = is ∙ ap (place_of_invocation path) same in
    invoke_done p path inputs handed (gives a) o c d e x y hands k
    (subst (λ (n : ℕ). IsInvoked p path n (only o) (gives a) d.state [] e.state) (sym same) (settles.0 path there)) settles.1
