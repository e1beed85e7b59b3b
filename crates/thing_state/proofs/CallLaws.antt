-- Calls of handlers, as moves of the Thing machine.
use Rattle.std.proofs.Common.{◌≡◌, ℕ, ◌<◌, ◌+◌, List, [], ◌∷◌, length, refl, ap, subst, ◌∙◌}
use Rattle.std.specs.Prelude.{Ok, Err}
use Rattle.std.specs.declared.alloc.AllocError.{AllocError}
use Rattle.std.proofs.lemmas.List.{length-set}
use Rattle.thing_handler.specs.declared.handler.CallKind.{CallKind}
use Rattle.thing_handler.specs.declared.handler.Answer.{Answer}
use Rattle.thing_handler.specs.Handler.{Seen, CallsHandler}
use Rattle.thing_handler.specs.Turns.{answered, missed}
use Rattle.thing_handler.proofs.RackLaws.{rack_shows_in_order, rack_shows_answer, rack_shows_miss}
use Rattle.thing_state.specs.State.{most_turns}
use Rattle.thing_state.specs.Course.{Course}
use Rattle.thing_state.specs.Calls.{Called, no_number, no_memory, gives, CallsFor, ComesAs, HasRoomAfter, MakesCall}

-- the run has no number for another turn
pub call_full : (c : Course) (slots : List Seen) (slot : ℕ) (what : CallKind) → c.state.turns ≡ most_turns c.state.left_out → MakesCall slot what no_number c c slots slots
call_full c slots slot what full = record {
  made = record { seen = []; move = (full, record { next = refl; saw = refl }); shows = rack_shows_in_order.none slots };
  pending = refl;
  room = refl;
  slots = refl;
}

-- the handler is out of memory
pub call_missed : (c : Course) (before after : List Seen) (slot : ℕ) (what : CallKind) (e : AllocError) → c.state.turns < most_turns c.state.left_out
    → CallsHandler before after slot c.state.turns what (Err e) → MakesCall slot what no_memory c c before after
call_missed c before after slot what e room made = record {
  made = record {
    seen = missed slot ∷ [];
    move = (room, record { next = refl; saw = refl });
    shows = rack_shows_miss before after slot c.state.turns what e made;
  };
  pending = refl;
  room = refl;
  slots = ap length made.others ∙ length-set before slot made.after;
}

-- it answers
pub call_answered : (c d : Course) (before after : List Seen) (slot : ℕ) (what : CallKind) (a : Answer) → c.state.turns < most_turns c.state.left_out
    → CallsHandler before after slot c.state.turns what (Ok a) → d ≡ record c { state = record c.state { turns = c.state.turns + 1 } }
    → MakesCall slot what (gives a) c d before after
call_answered c d before after slot what a room made is = record {
  made = record {
    seen = answered (record { number = c.state.turns; slot = slot; what = what; answer = a }) ∷ [];
    move = (room, record { next = ap (λ (x : Course). x.state) is; saw = refl });
    shows = rack_shows_answer before after slot c.state.turns what a made;
  };
  pending = ap (λ (x : Course). x.pending) is;
  room = ap (λ (x : Course). x.room) is;
  slots = ap length made.others ∙ length-set before slot made.after;
}

-- a call, and what holds of what came of it
pub calls_for : (P : Called → Type 0) (slot : ℕ) (what : CallKind) (called : Called) (c d : Course) (a b : List Seen) → P called → HasRoomAfter called d.state → MakesCall slot what called c d a b → CallsFor P slot what c d a b
calls_for P slot what called c d a b comes room k = record { called = called; comes = comes; versions = room; made = k.made; pending = k.pending; room = k.room; slots = k.slots }

pub makes_call : (P : Called → Type 0) (n slot : ℕ) (what : CallKind) (c d : Course) (a b : List Seen) → n ≡ slot → (k : CallsFor P n what c d a b) → MakesCall slot what k.called c d a b
makes_call P n slot what c d a b same k =
    subst (λ (i : ℕ). MakesCall i what k.called c d a b) same (record { made = k.made; pending = k.pending; room = k.room; slots = k.slots })

pub makes_answered : (n slot : ℕ) (what : CallKind) (x : Answer) (c d : Course) (a b : List Seen) → n ≡ slot → CallsFor (λ called. ComesAs called (Ok x)) n what c d a b → MakesCall slot what (gives x) c d a b
makes_answered n slot what x c d a b same k =
    subst (λ (y : Called). MakesCall slot what y c d a b) k.comes (makes_call (λ called. ComesAs called (Ok x)) n slot what c d a b same k)
