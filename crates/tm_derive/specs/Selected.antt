-- A selection, as contracts see it.
use Rattle.std.specs.Prelude.{Bool, ℕ, List}
use Rattle.tm_derive.specs.Dropping.{is_left_out}
use Rattle.tm_derive.specs.declared.dropping.Selection.{Selection}

-- the affordance at this place is optional and wasn't chosen
abbrev pub is_out : Selection → List ℕ → Bool
is_out selection = is_left_out selection.texts.now selection.choices.now selection.segment.now
