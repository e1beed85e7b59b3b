use denote.Text.{Utf8}
use denote.Shadow.{shadow}
use Rattle.cases_notation.proofs.pages.put_rows_about.Given as goal

-- What the rows are about is text.
abbrev pub invariant-loop-line : goal.invariant-loop-line
invariant-loop-line g l = goal.F-IsAlwaysCallable g l.put_outcome × shadow (Utf8 l.about)
