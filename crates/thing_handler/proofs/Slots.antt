-- Handlers that are seen slot by slot.
use Rattle.std.proofs.Common.{◌≡◌, ℕ, ◌<◌, List, length, get_or, map, set, refl, subst}
use Rattle.std.specs.Prelude.{Result}
use Rattle.std.specs.declared.alloc.AllocError.{AllocError}
use Rattle.std.proofs.lemmas.Option.{slice_get-map, slice_get_read}
use Rattle.std.proofs.lemmas.List.{map-set, length-map}
use Rattle.thing_handler.specs.declared.handler.CallKind.{CallKind}
use Rattle.thing_handler.specs.declared.handler.Answer.{Answer}
use Rattle.thing_handler.specs.Handler.{Seen, AnswersCall, CallsHandler}

-- a call of one item of a list is a call of its slot
pub calls_handler : {A : Type 0} (xs : List A) (seen : A → Seen) (slot number : ℕ) (what : CallKind) (result : Result Answer AllocError) (x y : A) → slot < length (map seen xs) → x ≡ get_or xs slot x → AnswersCall (seen x) (seen y) number what result → CallsHandler (map seen xs) (map seen (set xs slot y)) slot number what result
calls_handler xs seen slot number what result x y within at call =
    let inside : slot < length xs = subst (λ n. slot < n) (length-map xs seen) within in
    record {
      before = seen x;
      after = seen y;
      was = rw (slice_get-map seen xs slot, slice_get_read xs (length xs) slot x refl inside at) refl;
      others = map-set seen xs slot y;
      call = call;
    }
