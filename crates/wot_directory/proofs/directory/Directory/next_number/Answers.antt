use Rattle.std.proofs.Common.{◌≤◌, ℕ, length, subst, sym}
use Rattle.std.specs.Prelude.{Option, MatchOption}
use Rattle.wot_directory.specs.Kept.{kept_entries}
use Rattle.wot_directory.specs.Directory.{AreAllUsed, IsLeastUnused}
use Rattle.wot_directory.proofs.Entries.{kept_length}
use Rattle.wot_directory.proofs.Numbers.{not_all_used}
use Rattle.wot_directory.proofs.directory.Directory.next_number.Goals as goal

pub unreachable-requires : goal.unreachable-requires
unreachable-requires c =
    let few : length (kept_entries c.self.inside.entries.entries) ≤ 4096 = subst (λ (n : ℕ). n ≤ 4096) (sym (kept_length c.self.inside.entries.entries)) c.self.invariant.1 in
    not_all_used (kept_entries c.self.inside.entries.entries) few
    (subst (λ (found : Option ℕ). MatchOption found (AreAllUsed 1 (kept_entries c.self.inside.entries.entries)) (λ number. IsLeastUnused 1 (kept_entries c.self.inside.entries.entries) number)) c.in-None-2.is c.in_ok-number-in-None.ensures)
