-- Calls of handlers and parts of acts, put together to moves of the Thing machine.
use Rattle.std.proofs.Common.{◌≡◌, ℕ, ◌+◌, List, [], ◌++◌, refl, sym, subst, ◌∙◌, append_assoc, inl, inr}
use Rattle.std.specs.Prelude.{Result}
use Rattle.std.proofs.lemmas.List.{append-nil}
use Rattle.servient_base.specs.Moves.{Makes, Passing}
use Rattle.wot_json.specs.Tree.{Json}
use Rattle.thing_ops.specs.declared.outcome.Outcome.{Outcome}
use Rattle.thing_ops.specs.declared.outcome.Outcome.TheVariants as outcome
use Rattle.thing_handler.specs.declared.handler.CallKind.{CallKind}
use Rattle.thing_handler.specs.declared.handler.CallKind.TheVariants as call
use Rattle.thing_handler.specs.Handler.{Seen}
use Rattle.thing_handler.specs.Turns.{HandlerCall, RackShows}
use Rattle.thing_handler.proofs.RackLaws.{rack_shows_in_order}
use Rattle.thing_site.specs.Site.{Placed}
use Rattle.thing_state.specs.State.{State}
use Rattle.thing_state.specs.Course.{Course}
use Rattle.thing_state.specs.Calls.{Move, Called, Calls, MakesCall}
use Rattle.thing_core.specs.Thing.{Done, only, GivesValue, ReadsValue, with_value}
use Rattle.thing_core.specs.Performing.{IsOrMemory, Leads, MakesDone, OrMemory}

-- ---- parts of a move

-- nothing was done yet
pub leads_none : {I : Type 0} (P : I → Move) (s : State) (slots : List Seen) → Leads P P s s slots slots
leads_none P s slots = record { seen = []; shows = rack_shows_in_order.none slots; leads = λ i later t p. p }

-- one part and then another
pub leads_then : {I : Type 0} (P Q W : I → Move) (s m n : State) (a b c : List Seen) → Leads Q W s m a b → Leads P Q m n b c → Leads P W s n a c
leads_then {I} P Q W s m n a b c one other = record {
  seen = one.seen ++ other.seen;
  shows = rack_shows_in_order.more a b c one.seen other.seen one.shows other.shows;
  leads = λ (i : I) (later : List HandlerCall) (t : State) p.
      subst (λ (seen : List HandlerCall). W i s seen t) (sym (append_assoc one.seen other.seen later))
      (one.leads i (other.seen ++ later) t (other.leads i later t p));
}

-- the last part
pub leads_end : {I : Type 0} (P W : I → Move) (i : I) (s m t : State) (a b c : List Seen) → Leads P W s m a b → Makes RackShows (P i) m t b c → Makes RackShows (W i) s t a c
leads_end P W i s m t a b c one last = record {
  seen = one.seen ++ last.seen;
  move = one.leads i last.seen t last.move;
  shows = rack_shows_in_order.more a b c one.seen last.seen one.shows last.shows;
}

-- nothing further is seen
pub made_unseen : (P : Move) (s t : State) (slots : List Seen) → P s [] t → Makes RackShows P s t slots slots
made_unseen P s t slots p = record { seen = []; move = p; shows = rack_shows_in_order.none slots }

-- a part is the same from every state that it leads on from, where nothing is seen between
pub leads_unseen : {I : Type 0} (P Q W : I → Move) (s m n : State) (a b : List Seen) → Leads Q W s m a b → ((i : I) (later : List HandlerCall) (t : State) → P i n later t → Q i m later t) → Leads P W s n a b
leads_unseen P Q W s m n a b one on = record {
  seen = one.seen;
  shows = one.shows;
  leads = λ i later t p. one.leads i later t (on i later t p);
}

-- a call, and then what comes of it
pub leads_call : {I : Type 0} (K : I → Called → Move) (slot : ℕ) (what : CallKind) (called : Called) (c d : Course) (a b : List Seen) → MakesCall slot what called c d a b
    → Leads (λ i. K i called) (λ i. Passing (Calls slot what) (K i)) c.state d.state a b
leads_call {I} K slot what called c d a b k = record {
  seen = k.made.seen;
  shows = k.made.shows;
  leads = λ (i : I) (later : List HandlerCall) (t : State) p.
      (called, record { mid = d.state; first = k.made.seen; second = later; one = k.made.move; other = p; whole = refl });
}

-- a call for a value, which is seen, and then what comes of the value
pub leads_value : {I : Type 0} (K : I → Result Json Outcome → Move) (p : Placed) (called : Called) (r : Result Json Outcome) (c d e : Course) (a b : List Seen)
    → MakesCall p.slot call.Read called c d a b → GivesValue p.affordance.output called r → e.state ≡ with_value p r d.state
    → Leads (λ i. K i r) (λ i. Passing (ReadsValue p) (K i)) c.state e.state a b
leads_value {I} K p called r c d e a b k given sees = record {
  seen = k.made.seen;
  shows = k.made.shows;
  leads = λ (i : I) (later : List HandlerCall) (t : State) q. (
    r,
    record {
      mid = e.state;
      first = k.made.seen;
      second = later;
      one = (
        called,
        record {
          mid = d.state;
          first = k.made.seen;
          second = [];
          one = k.made.move;
          other = (given, record { next = sees; saw = refl });
          whole = sym (append-nil k.made.seen);
        },
      );
      other = q;
      whole = refl;
    },
  );
}

-- a call that ends an act
pub call_ends : (K : Done → Called → Move) (slot : ℕ) (what : CallKind) (called : Called) (c d : Course) (t : State) (done : Done) (a b : List Seen)
    → MakesCall slot what called c d a b → K done called d.state [] t → Makes RackShows (Passing (Calls slot what) (K done)) c.state t a b
call_ends K slot what called c d t done a b k p =
    leads_end (λ (x : Done). K x called) (λ (x : Done). Passing (Calls slot what) (K x)) done c.state d.state t a b b (leads_call K slot what called c d a b k) (made_unseen (K done called) d.state t b p)

-- ---- an act

-- an act without emissions
pub done_alone : (P : Done → Move) (o : Outcome) (c d : Course) (a b : List Seen) → Makes RackShows (P (only o)) c.state d.state a b → d.pending ≡ c.pending → MakesDone P o c d a b
done_alone P o c d a b made same = record {
  done = only o;
  outcome = refl;
  pending = same ∙ sym (append-nil c.pending);
  made = made;
}

-- it may also be that it was out of memory
pub or_memory : (P : Done → Move) (o : Outcome) (c d : Course) (a b : List Seen) → MakesDone P o c d a b → MakesDone (OrMemory P) o c d a b
or_memory P o c d a b k = record {
  done = k.done;
  outcome = k.outcome;
  pending = k.pending;
  made = record { seen = k.made.seen; move = inl k.made.move; shows = k.made.shows };
}

pub memory_out : (P : Done → Move) (c d : Course) (slots : List Seen) → d.state ≡ c.state → d.pending ≡ c.pending → MakesDone (OrMemory P) outcome.Memory c d slots slots
memory_out P c d slots state pending =
    done_alone (OrMemory P) outcome.Memory c d slots slots
    (record { seen = []; move = inr (refl, record { next = state; saw = refl }); shows = rack_shows_in_order.none slots }) pending

-- an act that needs no call
pub answers_done : (P : Done → Move) (o result : Outcome) (c : Course) (slots : List Seen) → IsOrMemory o result → P (only o) c.state [] c.state → MakesDone (OrMemory P) result c c slots slots
answers_done P o result c slots (inl is) p =
    done_alone (OrMemory P) result c c slots slots
    (made_unseen (OrMemory P (only result)) c.state c.state slots (inl (subst (λ (x : Outcome). P (only x) c.state [] c.state) (sym is) p))) refl
answers_done P o result c slots (inr is) p =
    subst (λ (x : Outcome). MakesDone (OrMemory P) x c c slots slots) (sym is) (memory_out P c c slots refl refl)
