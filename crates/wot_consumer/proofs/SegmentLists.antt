-- Segments of a path, one after another.
use Rattle.std.proofs.Common.{◌≡◌, ◌≤◌, ◌<◌, ◌+◌, ◌++◌, ℕ, List, [], length, take, get_or, false, nat_lt, All, subst, arith}
use Rattle.std.specs.Prelude.{slice_get}
use Rattle.std.specs.Option.{option_map_or}
use Rattle.std.proofs.lemmas.List.{take_more, flat_map_more, take_all}
use Rattle.std.proofs.lemmas.List.Elements.{All-more}
use Rattle.std.proofs.lemmas.Option.{slice_get-get_or}
use Rattle.std.proofs.lemmas.Bool.Decides.{nat_tests}
use Rattle.coap_msg.specs.declared.constants.TheConstants.{LONGEST_SEGMENT}
use Rattle.wot_consumer.specs.Messages.{segment_text, segments_text}

-- the text of segments, with one more
pub segments_more : (before : List ℕ) (path : List (List ℕ)) (i : ℕ) → i < length path →
    (before ++ segments_text (take i path)) ++ option_map_or segment_text (slice_get path i) [] ≡ before ++ segments_text (take (i + 1) path)
segments_more before path i within =
    rw (slice_get-get_or path i [] within, take_more path i [] within) (flat_map_more segment_text before (take i path) _)

abbrev pub IsShort : List ℕ → Type 0
IsShort segment = length segment ≤ LONGEST_SEGMENT

not_longer : (most n : ℕ) → nat_lt most n ≡ false → n ≤ most
not_longer most n is = grind (arith, nat_tests, is)

-- segments that aren't long, with one more
pub short_more : (segments : List (List ℕ)) (i : ℕ) → i < length segments →
    option_map_or (λ segment. nat_lt LONGEST_SEGMENT (length segment)) (slice_get segments i) false ≡ false →
    All IsShort (take i segments) → All IsShort (take (i + 1) segments)
short_more segments i within is all = All-more IsShort segments i [] within all (not_longer LONGEST_SEGMENT (length (get_or segments i [])) (rw (slice_get-get_or segments i [] within) at is))

pub short_all : (segments : List (List ℕ)) (i : ℕ) → length segments ≤ i → All IsShort (take i segments) → All IsShort segments
short_all segments i beyond all = subst (All IsShort) (take_all i segments beyond) all
