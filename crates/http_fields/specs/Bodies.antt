-- Bodies of a stated length, and the decoded bytes of a whole body, in chunks or of such a length.
use Rattle.std.specs.Prelude.{◌≡◌, ℕ, List, [], length, take, Bool, true, false, nat_le, if◌then◌else◌}
use Rattle.http_fields.specs.Chunks.{BodyFront, unfinished, faulty, whole, chunks}

-- a body of this length
abbrev pub stated_body : ℕ → List ℕ → BodyFront
stated_body n bytes = if nat_le n (length bytes) then whole (take n bytes) n else unfinished

-- The most bytes of a reply with all that is before it, and so of any body when it is decoded.
abbrev pub longest_reply : ℕ
longest_reply = 65536

-- the decoded bytes of a body that is whole
abbrev pub body_in : BodyFront → List ℕ
body_in unfinished = []
body_in (faulty status) = []
body_in (whole body used) = body

-- the bytes of a whole body that is in chunks, or isn't
abbrev pub decoded : Bool → List ℕ → List ℕ
decoded true coded = body_in (chunks longest_reply 0 0 coded)
decoded false coded = coded

-- the coded bytes are one whole body of this many decoded bytes
abbrev pub AreOneBody : Bool → List ℕ → ℕ → Type 0
AreOneBody true coded n = (body : List ℕ) × (chunks longest_reply 0 0 coded ≡ whole body (length coded)) × (length body ≡ n)
AreOneBody false coded n = length coded ≡ n
