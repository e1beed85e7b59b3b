use Rattle.std.proofs.Common.{◌≡◌, drop, map}
use Rattle.std.specs.List.{list_any}
use Rattle.std.specs.Str.{bytes_eq}
use Rattle.servient_plan.proofs.unknown.is_among.Given as goal

-- none so far is the name
abbrev pub invariant-loop-other : goal.invariant-loop-other
invariant-loop-other l =
    list_any (λ other. bytes_eq l.name other) (map (λ s. s.now) (drop l.other-index l.names)) ≡ list_any (λ other. bytes_eq l.name other) (map (λ s. s.now) l.names)
