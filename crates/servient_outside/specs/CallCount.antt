-- The calls of an object in memory: how many were made, and which fail.
use Rattle.std.specs.Prelude.{ℕ, Bool, true, false, nat_eq, IsTrue, List, [], ◌∷◌, Option, None}
use Rattle.std.specs.List.{list_any}
use Rattle.servient_base.specs.Count.{one_more}
use Rattle.servient_outside.specs.declared.calls.CallCount.{CallCount}

-- the call of this number is among those that fail
abbrev pub is_failing : List ℕ → ℕ → Bool
is_failing fails number = list_any (λ fail. nat_eq fail number) fails

-- the calls after one more
abbrev pub after_call : CallCount → CallCount
after_call calls = record calls { made = one_more calls.made }

-- the next call is among those that fail
abbrev pub FailsNext : CallCount → Type 0
FailsNext calls = IsTrue (is_failing calls.fails (one_more calls.made))

-- no call was made, and these fail
abbrev pub no_calls : List ℕ → CallCount
no_calls fails = record { fails = fails; made = 0 }

-- no call is among those that fail
abbrev pub none_fails : List ℕ → Bool
none_fails [] = true
none_fails (f ∷ fails) = false

-- the record where no call fails
abbrev pub where_none_fails : {A : Type 0} → List ℕ → Option A → Option A
where_none_fails [] told = told
where_none_fails (f ∷ fails) told = None
