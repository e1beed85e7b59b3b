-- The inputs of a derivation.
use Rattle.std.specs.Prelude.{ℕ, ◌+◌, List}
use Rattle.tm_parts.specs.Library.{Models}
use Rattle.tm_parts.specs.Sources.{Sources}
use Rattle.tm_resolve.specs.Weight.{most_entries}
use Rattle.wot_forms.specs.declared.frame.Frame.{Frame}

-- a choice: the segment of a Thing, and the pointer to an affordance that is optional there and is to stay
abbrev pub Choice : Type 0
Choice = List ℕ × List ℕ

-- The inputs that all Things of a derivation share: the models of the library, the same models with values in place of
-- their placeholders, the choices, and the frame, which names the root and says where the forms of all Things lead.
pub record Given : Type 0 where
  pub models : Models
  pub sources : Sources
  pub choices : List Choice
  pub frame : Frame

-- The most Things one below another, and more than the most models each of which extends the next. An expansion that
-- isn't too large has chains of at most 16 targets. One more Thing may be at the end, whose model has a fault of its
-- placeholders: that isn't visited, and has no Things below it. This is always enough, by a law (Enough.antt).
unfoldable pub most_below : ℕ
most_below = most_entries + 1
