-- Properties that are written one after another.
use Rattle.std.proofs.Common.{◌≡◌, ℕ, List, [], ◌∷◌, ◌++◌, map, length, true, false, refl, sym, ap, subst, ◌∙◌, append_assoc}
use Rattle.std.specs.Prelude.{Some, None}
use Rattle.std.proofs.lemmas.List.{append-nil, map-append}
use Rattle.servient_base.specs.Moves.{Makes, Then}
use Rattle.wot_json.specs.Json.{text_of}
use Rattle.wot_json.specs.Meaning.{json_of}
use Rattle.wot_json.specs.declared.tree.Tree.{Tree}
use Rattle.thing_ops.specs.declared.outcome.Outcome.{Outcome}
use Rattle.thing_ops.specs.declared.outcome.Outcome.TheVariants as outcome
use Rattle.thing_handler.specs.declared.handler.CallKind.TheVariants as call
use Rattle.thing_handler.specs.declared.handler.Answer.TheVariants as answer
use Rattle.thing_handler.specs.Handler.{Seen}
use Rattle.thing_handler.specs.Turns.{HandlerCall, RackShows}
use Rattle.thing_state.specs.State.{State, Emission, last_after, versions_after}
use Rattle.thing_state.specs.Course.{Course}
use Rattle.thing_site.specs.Refusals.{Input}
use Rattle.thing_state.specs.Calls.{Move, Called, no_number, no_memory, gives, failure_of, IsUnanswered, MakesCall}
use Rattle.thing_core.specs.Thing.{Done, SeesWritten, emissions_of_write, IfDone, Stops, WritesEach}
use Rattle.thing_core.specs.Performing.{Leads, MakesDone, OrMemory, WritesOne, is_done}
use Rattle.thing_core.proofs.MoveLaws.{leads_none, leads_then, leads_end, made_unseen, or_memory}

-- ---- one

-- there is no answer
pub unanswered_write : (called : Called) (o : Outcome) → IsUnanswered called o → (is_done called ≡ false) × (o ≡ failure_of called)
unanswered_write no_number o e = (refl, e)
unanswered_write no_memory o e = (refl, e)
unanswered_write (gives answer) o e = absurd e

done_is : (called : Called) → is_done called ≡ true → called ≡ gives answer.Done
done_is (gives answer.Done) e = refl
done_is called e = absurd cc

if_not_done : (called : Called) (further otherwise : Move) (s : State) (seen : List HandlerCall) (t : State) → is_done called ≡ false → otherwise s seen t → IfDone called further otherwise s seen t
if_not_done (gives answer.Done) further otherwise s seen t e p = absurd cc
if_not_done called further otherwise s seen t e p = p

pub write_goes_on : (i : Input) (tree : Tree) (called : Called) (c d e : Course) (a b : List Seen) → json_of tree ≡ i.value → MakesCall i.affordance.slot (call.Write tree) called c d a b
    → is_done called ≡ true → e.state ≡ record d.state { versions = versions_after i.affordance.slot (text_of i.value) d.state.versions; last = last_after (emissions_of_write i) d.state.last } → (inputs : List Input) (emitted : List Emission)
    → Leads (WritesEach inputs (emitted ++ emissions_of_write i)) (WritesEach (i ∷ inputs) emitted) c.state e.state a b
write_goes_on i tree called c d e a b value k is state inputs emitted = record {
  seen = k.made.seen;
  shows = k.made.shows;
  leads = λ (done : Done) (later : List HandlerCall) (t : State) p.
      let further : Move = Then (SeesWritten i) (WritesEach inputs (emitted ++ emissions_of_write i) done) in (
        tree,
        value,
        (
          called,
          record {
            mid = d.state;
            first = k.made.seen;
            second = later;
            one = k.made.move;
            other = subst (λ (x : Called). IfDone x further (Stops (failure_of called) emitted done) d.state later t) (sym (done_is called is))
                (record { mid = e.state; first = []; second = later; one = record { next = state; saw = refl }; other = p; whole = refl });
            whole = refl;
          },
        ),
      );
}

pub write_stops : (i : Input) (tree : Tree) (called : Called) (o : Outcome) (c d : Course) (a b : List Seen) → json_of tree ≡ i.value → MakesCall i.affordance.slot (call.Write tree) called c d a b
    → is_done called ≡ false → o ≡ failure_of called → (inputs : List Input) (emitted : List Emission)
    → Makes RackShows (WritesEach (i ∷ inputs) emitted (record { outcome = o; emissions = emitted })) c.state d.state a b
write_stops i tree called o c d a b value k isnt is inputs emitted =
    let done : Done = record { outcome = o; emissions = emitted } in
    let further : Move = Then (SeesWritten i) (WritesEach inputs (emitted ++ emissions_of_write i) done) in
    record {
      seen = k.made.seen;
      move = (
        tree,
        value,
        (
          called,
          record {
            mid = d.state;
            first = k.made.seen;
            second = [];
            one = k.made.move;
            other = if_not_done called further (Stops (failure_of called) emitted done) d.state [] d.state isnt
                (ap (λ (x : Outcome). record { outcome = x; emissions = emitted }) is, record { next = refl; saw = refl });
            whole = sym (append-nil k.made.seen);
          },
        ),
      );
      shows = k.made.shows;
    }

-- ---- several

-- of all these, some were written, and these are left
pub record WrittenSoFar (all left : List Input) (c d : Course) (a b : List Seen) : Type 0 where
  pub emitted : List Emission
  pub pending : d.pending ≡ c.pending ++ map (λ e. e.target) emitted
  pub slots : length b ≡ length a
  pub leads : Leads (WritesEach left emitted) (WritesEach all []) c.state d.state a b

pub none_written : (all : List Input) (c : Course) (a : List Seen) → WrittenSoFar all all c c a a
none_written all c a = record { emitted = []; pending = sym (append-nil c.pending); slots = refl; leads = leads_none (WritesEach all []) c.state a }

-- the targets of emissions and of further ones
pub targets_then : (first middle last : List ℕ) (es fs : List Emission) → middle ≡ first ++ map (λ e. e.target) es → last ≡ middle ++ map (λ e. e.target) fs
    → last ≡ first ++ map (λ e. e.target) (es ++ fs)
targets_then first middle last es fs one other =
    other ∙ ap (λ (l : List ℕ). l ++ map (λ e. e.target) fs) one ∙ append_assoc first (map (λ e. e.target) es) (map (λ e. e.target) fs)
    ∙ ap (λ (l : List ℕ). first ++ l) (sym (map-append (λ (e : Emission). e.target) es fs))

pub one_written : (all left : List Input) (i : Input) (c d e : Course) (a b x : List Seen) → WrittenSoFar all (i ∷ left) c d a b → WritesOne i None d e b x → length x ≡ length b
    → WrittenSoFar all left c e a x
one_written all left i c d e a b x far one slots = record {
  emitted = far.emitted ++ emissions_of_write i;
  pending = targets_then c.pending d.pending e.pending far.emitted (emissions_of_write i) far.pending one.0;
  slots = slots ∙ far.slots;
  leads = leads_then (WritesEach left (far.emitted ++ emissions_of_write i)) (WritesEach (i ∷ left) far.emitted) (WritesEach all []) c.state d.state e.state a b x far.leads (one.1 left far.emitted);
}

pub one_stops : (all left : List Input) (i : Input) (o : Outcome) (c d e : Course) (a b x : List Seen) → WrittenSoFar all (i ∷ left) c d a b → WritesOne i (Some o) d e b x
    → MakesDone (WritesEach all []) o c e a x
one_stops all left i o c d e a b x far one =
    let done : Done = record { outcome = o; emissions = far.emitted } in
    record {
      done = done;
      outcome = refl;
      pending = one.0 ∙ far.pending;
      made = leads_end (WritesEach (i ∷ left) far.emitted) (WritesEach all []) done c.state d.state e.state a b x far.leads (one.1 left far.emitted);
    }

pub all_written : (all : List Input) (c d : Course) (a b : List Seen) → WrittenSoFar all [] c d a b → MakesDone (WritesEach all []) outcome.Changed c d a b
all_written all c d a b far =
    let done : Done = record { outcome = outcome.Changed; emissions = far.emitted } in
    record {
      done = done;
      outcome = refl;
      pending = far.pending;
      made = leads_end (WritesEach [] far.emitted) (WritesEach all []) done c.state d.state d.state a b b far.leads
          (made_unseen (WritesEach [] far.emitted done) d.state d.state b (refl, record { next = refl; saw = refl }));
    }

-- the same from before the room for the emissions was taken
pub written_after : (move : Done → Move) (o : Outcome) (c d e : Course) (a b : List Seen) → d.state ≡ c.state → d.pending ≡ c.pending → MakesDone move o d e a b → MakesDone (OrMemory move) o c e a b
written_after move o c d e a b state pending made =
    or_memory move o c e a b (record {
      done = made.done;
      outcome = made.outcome;
      pending = made.pending ∙ ap (λ (l : List ℕ). l ++ map (λ (x : Emission). x.target) made.done.emissions) pending;
      made = subst (λ (s : State). Makes RackShows (move made.done) s e.state a b) state made.made;
    })
