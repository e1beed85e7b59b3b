-- Events that are polled one after another.
use Rattle.std.proofs.Common.{◌≡◌, ℕ, List, [], ◌∷◌, ◌++◌, map, false, refl, sym, ap, subst, ◌∙◌, append_assoc, inl, inr}
use Rattle.std.proofs.lemmas.List.{append-nil}
use Rattle.wot_json.specs.Meaning.{json_of}
use Rattle.wot_json.specs.declared.tree.Tree.{Tree}
use Rattle.thing_ops.specs.declared.outcome.Outcome.{Outcome}
use Rattle.thing_handler.specs.declared.handler.CallKind.TheVariants as call
use Rattle.thing_handler.specs.declared.handler.Answer.TheVariants as answer
use Rattle.thing_handler.specs.Handler.{Seen}
use Rattle.thing_handler.specs.Turns.{HandlerCall}
use Rattle.thing_handler.proofs.RackLaws.{rack_shows_in_order}
use Rattle.thing_site.specs.Site.{Placed}
use Rattle.thing_state.specs.State.{State, Emission, last_after}
use Rattle.thing_state.specs.Course.{Course}
use Rattle.thing_state.specs.Calls.{Called, no_number, no_memory, gives, IsTaken, IsUnanswered, MakesCall, has_fired}
use Rattle.thing_core.specs.Thing.{emission, IsPolled, PollsEach}
use Rattle.thing_core.specs.Performing.{PollsSome}
use Rattle.thing_core.proofs.WriteLoop.{targets_then}

-- ---- what an answer emits

-- there is no answer, and nothing is emitted
pub unanswered_poll : (p : Placed) (called : Called) (o : Outcome) → IsUnanswered called o → IsPolled p [] called
unanswered_poll p no_number o e = refl
unanswered_poll p no_memory o e = refl
unanswered_poll p (gives answer) o e = absurd e

pub not_fired : (p : Placed) (called : Called) → has_fired called ≡ false → IsPolled p [] called
not_fired p (gives (answer.Fired tree)) e = absurd cc
not_fired p called e = refl

pub fired_taken : (p : Placed) (called : Called) (tree : Tree) → called ≡ gives (answer.Fired tree) → IsTaken p.affordance.output (json_of tree) → IsPolled p (emission p (json_of tree) ∷ []) called
fired_taken p called tree e taken = subst (λ (x : Called). IsPolled p (emission p (json_of tree) ∷ []) x) (sym e) (inl (taken, refl))

pub fired_refused : (p : Placed) (called : Called) (tree : Tree) → called ≡ gives (answer.Fired tree) → ¬ (IsTaken p.affordance.output (json_of tree)) → IsPolled p [] called
fired_refused p called tree e refused = subst (λ (x : Called). IsPolled p [] x) (sym e) (inr (refused, refl))

-- ---- one and several

pub one_polled : (p : Placed) (called : Called) (es : List Emission) (c d e : Course) (a b : List Seen) → MakesCall p.slot call.Poll called c d a b → IsPolled p es called
    → e.state ≡ record d.state { last = last_after es d.state.last } → e.pending ≡ d.pending ++ map (λ x. x.target) es → PollsSome (p ∷ []) c e a b
one_polled p called es c d e a b k polled state pending = record {
  emissions = es;
  pending = pending ∙ ap (λ (l : List ℕ). l ++ map (λ x. x.target) es) k.pending;
  leads = λ qs. record {
    seen = k.made.seen;
    shows = k.made.shows;
    leads = λ (more : List Emission) (later : List HandlerCall) (t : State) q. (
      es,
      more,
      refl,
      record {
        mid = e.state;
        first = k.made.seen;
        second = later;
        one = (
          called,
          record {
            mid = d.state;
            first = k.made.seen;
            second = [];
            one = k.made.move;
            other = (polled, record { next = state; saw = refl });
            whole = sym (append-nil k.made.seen);
          },
        );
        other = q;
        whole = refl;
      },
    );
  };
}

pub none_polled : (c : Course) (a : List Seen) → PollsSome [] c c a a
none_polled c a = record {
  emissions = [];
  pending = sym (append-nil c.pending);
  leads = λ qs. record { seen = []; shows = rack_shows_in_order.none a; leads = λ more later t q. q };
}

pub polled_then : (ps qs : List Placed) (c d e : Course) (a b x : List Seen) → PollsSome ps c d a b → PollsSome qs d e b x → PollsSome (ps ++ qs) c e a x
polled_then ps qs c d e a b x one other = record {
  emissions = one.emissions ++ other.emissions;
  pending = targets_then c.pending d.pending e.pending one.emissions other.emissions one.pending other.pending;
  leads = λ rs. (
      let first = one.leads (qs ++ rs) in
      let second = other.leads rs in
      record {
        seen = first.seen ++ second.seen;
        shows = rack_shows_in_order.more a b x first.seen second.seen first.shows second.shows;
        leads = λ (more : List Emission) (later : List HandlerCall) (t : State) q.
            subst (λ (seen : List HandlerCall). PollsEach ((ps ++ qs) ++ rs) ((one.emissions ++ other.emissions) ++ more) c.state seen t) (sym (append_assoc first.seen second.seen later))
            (subst (λ (es : List Emission). PollsEach ((ps ++ qs) ++ rs) es c.state (first.seen ++ (second.seen ++ later)) t) (sym (append_assoc one.emissions other.emissions more))
            (subst (λ (all : List Placed). PollsEach all (one.emissions ++ (other.emissions ++ more)) c.state (first.seen ++ (second.seen ++ later)) t) (sym (append_assoc ps qs rs))
            (first.leads (other.emissions ++ more) (second.seen ++ later) t (second.leads more later t q))));
      });
}
