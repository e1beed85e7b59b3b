use Rattle.std.proofs.Common.{◌≡◌, ◌++◌}
use Rattle.wot_directory.specs.Directory.{listed}
use Rattle.wot_directory.specs.Kept.{kept_entries}
use Rattle.wot_directory.proofs.directory.listed_trees.Given as goal

-- the descriptions listed so far, and those to come
abbrev pub invariant-loop-tree : goal.invariant-loop-tree
invariant-loop-tree l = l.trees ++ listed l.skip l.left (kept_entries l.tree-iterator) ≡ listed l.offset l.limit (kept_entries l.entries.entries)
