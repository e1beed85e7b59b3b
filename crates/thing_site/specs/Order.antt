-- The order in which the affordances of a Thing are kept.
use Rattle.std.specs.Prelude.{ℕ, List, [], ◌∷◌, Bool, true, ◌&&◌}
use Rattle.std.specs.Ordering.{nat_cmp, is_lt}
use Rattle.std.specs.Cmp.Lexicographic.{slice_cmp}
use Rattle.wot_terms.specs.declared.kind.Kind.{Kind}
use Rattle.wot_terms.specs.declared.kind.Kind.TheVariants as kind
use Rattle.wot_terms.specs.declared.affordance.Affordance.{Affordance}

-- properties are before actions, and these before events
abbrev pub rank : Kind → ℕ
rank kind.Property = 0
rank kind.Action = 1
rank kind.Event = 2

-- the key by which an affordance is found: its kind, and then the bytes of its name
abbrev pub key : Kind → List ℕ → List ℕ
key k name = rank k ∷ name

abbrev pub key_of : Affordance → List ℕ
key_of a = key a.kind a.name

-- affordances rise by this, from each one to the next
abbrev pub are_rising : List Affordance → Bool
are_rising [] = true
are_rising (a ∷ []) = true
are_rising (a ∷ b ∷ more) = is_lt (slice_cmp nat_cmp (key_of a) (key_of b)) && are_rising (b ∷ more)
