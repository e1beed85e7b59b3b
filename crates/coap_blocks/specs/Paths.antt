-- The paths of requests whose bodies travel in blocks (RFC 7252, section 5.10.1).
use Rattle.std.specs.Prelude.{◌+◌, ◌-◌, ℕ, nat_lt, Bool, List, [], ◌∷◌, length}
use Rattle.std.specs.Cmp.Lexicographic.{pointwise}
use Rattle.std.specs.Str.{bytes_eq}
use Rattle.coap_blocks.specs.declared.kept_path.TheConstants.{LARGEST_PATH}
use Rattle.coap_msg.specs.declared.transmission.TheConstants.{EXCHANGE_LIFETIME}

-- two paths have the same segments
abbrev pub is_same_path : List (List ℕ) → List (List ℕ) → Bool
is_same_path = pointwise bytes_eq

-- the number of the segments of a path and of the bytes in them, together
abbrev pub path_size : List (List ℕ) → ℕ
path_size [] = 0
path_size (segment ∷ segments) = 1 + length segment + path_size segments

-- the largest size of a path: that of a datagram that is looked at, in which each segment has a byte of its own beside
-- its value
abbrev pub largest_path : ℕ
largest_path = LARGEST_PATH

-- Less than EXCHANGE_LIFETIME (RFC 7252, section 4.8.2), in milliseconds, has passed since a moment: an older body is
-- gone, since the other end doesn't go on with it (RFC 7959, section 2.5).
abbrev pub lives : ℕ → ℕ → Bool
lives now moment = nat_lt (now - moment) EXCHANGE_LIFETIME
