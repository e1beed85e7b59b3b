use Rattle.std.proofs.Common.{List, Bor, ◌∙◌, sym, subst}
use Rattle.std.specs.Cmp.Lexicographic.{slice_cmp}
use Rattle.std.specs.List.Sorted.{IsStrictlySortedBy}
use Rattle.std.specs.Ordering.{nat_cmp}
use Rattle.std.specs.Prelude.{String}
use Rattle.std.specs.declared.alloc.Global.{Global}
use Rattle.wot_json.specs.declared.tree.Tree.{Tree}
use Rattle.tm_parts.specs.Kept.{kept_names}
use Rattle.tm_parts.proofs.Named.{names_ascend, moved}
use Rattle.tm_parts.proofs.values.Values.new.Goals as goal

pub invariant_of-result : goal.invariant_of-result
invariant_of-result c =
    let all = moved c.loop-entry.list.items c.in_ok-map.map.entries c.loop-entry.entry-iterator (c.loop-entry.invariant ∙ c.into_iter-entry-iterator.ensures.into_iter_gives.0) c.in-None.ensures.steps.0 in
    subst (λ (es : List (String Global × Bor Tree)). IsStrictlySortedBy (slice_cmp nat_cmp) (kept_names es)) (sym all) (names_ascend c.in_ok-map.map.entries c.len.ensures.ordered)
