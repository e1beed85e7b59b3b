-- The view of a handler and of a rack, and the effect of a call on them.
use Rattle.std.specs.Prelude.{◌≡◌, ℕ, List, [], ◌∷◌, ◌++◌, slice_get, slice_set, Some, Ok, Err, Result}
use Rattle.std.specs.declared.alloc.AllocError.{AllocError}
use Rattle.servient_base.specs.Count.{raised}
use Rattle.wot_terms.specs.declared.kind.Kind.{Kind}
use Rattle.thing_handler.specs.declared.handler.CallKind.{CallKind}
use Rattle.thing_handler.specs.declared.handler.Answer.{Answer}
use Rattle.thing_handler.specs.declared.handler.Turn.{Turn}

-- a handler: its kind, its turns so far in order, and how often it was out of memory
pub record Seen : Type 0 where
  pub kind : Kind
  pub turns : List Turn
  pub misses : ℕ

-- a handler that was not called yet
abbrev pub fresh_handler : Kind → Seen
fresh_handler kind = record { kind = kind; turns = []; misses = 0 }

-- a handler that forgot its turns: its kind and its count of misses are as they were
abbrev pub forgotten : Seen → Seen
forgotten h = record { kind = h.kind; turns = []; misses = h.misses }

-- A call that is answered makes exactly one turn, of this number, call and answer, and leaves the count of misses as it
-- was. A call that is out of memory makes no turn, and raises that count by exactly one, up to its last value, because
-- a body that calls a handler again after a miss must be refused. The kind never changes.
abbrev pub AnswersCall : Seen → Seen → ℕ → CallKind → Result Answer AllocError → Type 0
AnswersCall old new number what (Ok answer) =
    (new.kind ≡ old.kind)
    × (new.turns ≡ old.turns ++ record { number = number; what = what; answer = answer } ∷ [])
    × (new.misses ≡ old.misses)
AnswersCall old new number what (Err e) =
    (new.kind ≡ old.kind) × (new.turns ≡ old.turns) × (new.misses ≡ raised 1 old.misses)

-- the handler in this slot answered the call, and the others are as they were
pub record CallsHandler (old new : List Seen) (slot number : ℕ) (what : CallKind) (result : Result Answer AllocError) : Type 0 where
  pub before : Seen
  pub after : Seen
  pub was : slice_get old slot ≡ Some before
  pub others : new ≡ slice_set old slot after
  pub call : AnswersCall before after number what result
