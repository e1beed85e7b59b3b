-- The index by which a Thing is found by its segment: the numbers of Things in the order of their segments.
use Rattle.std.specs.Prelude.{◌≡◌, ℕ, ◌<◌, List, [], ◌∷◌, length, slice_get, Option, Some, None, if◌then◌else◌}
use Rattle.std.specs.List.{AllByRecursion}
use Rattle.std.specs.Str.{bytes_eq}
use Rattle.std.specs.Ordering.{nat_cmp}
use Rattle.std.specs.Cmp.Lexicographic.{slice_cmp}
use Rattle.std.specs.declared.cmp.Ordering.{Ordering}
use Rattle.std.specs.declared.cmp.Ordering.TheVariants.{Less}
use Rattle.thing_site.specs.Site.{ExposedThing, thing_named}

-- the segment of a Thing, and nothing where there is none
abbrev pub segment_of : Option ExposedThing → List ℕ
segment_of None = []
segment_of (Some thing) = thing.segment

-- the segment of the Thing of this number
abbrev pub segment_at : List ExposedThing → ℕ → List ℕ
segment_at all number = segment_of (slice_get all number)

-- the order of the Thing of a number and a segment
abbrev pub segment_order : List ExposedThing → List ℕ → ℕ → Ordering
segment_order all segment number = slice_cmp nat_cmp (segment_at all number) segment

-- the Thing of this segment, among those of these numbers
abbrev pub thing_among : List ℕ → List ExposedThing → List ℕ → Option ExposedThing
thing_among segment all [] = None
thing_among segment all (number ∷ numbers) =
    if bytes_eq segment (segment_at all number) then slice_get all number else thing_among segment all numbers

-- the segments of these numbers rise: each is before all that come after it
abbrev pub SegmentsRise : List ExposedThing → List ℕ → Type 0
SegmentsRise all [] = Unit {0}
SegmentsRise all (number ∷ numbers) =
    AllByRecursion (λ later. segment_order all (segment_at all later) number ≡ Less) numbers × SegmentsRise all numbers

-- By these numbers of some Things each segment leads where it leads in a list of Things.
pub record Indexes (all : List ExposedThing) (numbers : List ℕ) (things : List ExposedThing) : Type 0 where
  pub rise : SegmentsRise all numbers
  pub stand : AllByRecursion (λ number. number < length all) numbers
  pub same : (segment : List ℕ) → thing_named segment things ≡ thing_among segment all numbers
