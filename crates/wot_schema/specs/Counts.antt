-- A compiled range, and its demands on a count.
use Rattle.std.specs.Prelude.{ℕ, ◌≤◌, IfSome}
use Rattle.wot_schema.specs.declared.counts.CountRange.{CountRange}

-- the count is within the range
abbrev pub IsCountWithin : CountRange → ℕ → Type 0
IsCountWithin r n = IfSome r.least (λ least. least ≤ n) × IfSome r.most (λ most. n ≤ most)
