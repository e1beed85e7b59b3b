-- The result of scanning, apart from its place in memory.
use Rattle.std.specs.Prelude.{◌≡◌, ◌≤◌, ℕ, List, length, Result}
use Rattle.http_wire.specs.declared.scanned.Head.{Head}
use Rattle.http_wire.specs.declared.scanned.Scanned.{Scanned}
use Rattle.http_wire.specs.declared.scanned.Scanned.TheVariants as scanned
use Rattle.http_wire.specs.Asked.{asking_lines_in}
use Rattle.http_wire.specs.Stream.{PlainHead, Front, short, message, fault, with_head, longest_head}
use Rattle.http_wire.specs.Judging.{FramedHead, IsJudged, longest_body}

-- the parts of a head
abbrev pub plain_head : Head → PlainHead
plain_head h = record {
  method = h.method.now;
  target = h.target.now;
  close = h.close;
  format = h.format;
  accept = h.accept;
  asking = asking_lines_in h.conditional h.lines.now;
}

-- the finding at the front of a stream
abbrev pub front_of : Scanned → Front
front_of (scanned.Short expect) = short expect
front_of (scanned.Whole head body used expect) = message (plain_head head) body used expect
front_of (scanned.Fault status expect) = fault status expect

-- the front where this head ends after n bytes
abbrev pub IsHeadFront : List ℕ → ℕ → List ℕ → Front → Type 0
IsHeadFront head taken after f = (r : Result FramedHead ℕ) × IsJudged head r × (f ≡ with_head taken r after)

-- a whole message takes from low to high bytes, its target is no longer than a head may be, and its body no
-- longer than a body may be
abbrev pub TakesBetween : ℕ → ℕ → Scanned → Type 0
TakesBetween low high (scanned.Short expect) = Unit {0}
TakesBetween low high (scanned.Whole head body used expect) =
    (low ≤ used) × (used ≤ high) × (length head.target.now ≤ longest_head) × (length body ≤ longest_body)
TakesBetween low high (scanned.Fault status expect) = Unit {0}
