-- Percent-encoding of segments is undone by reading them (RFC 3986, section 2.1).
use Rattle.std.specs.Prelude.{◌≡◌, ◌<◌, ℕ, List}
use Rattle.std.specs.List.{AllByRecursion}
use Rattle.percent_encoding.specs.Percent.{percent_decode}
use Rattle.servient_base.specs.Encoding.{encoded}

-- numbers that are bytes
abbrev pub AreBytes : List ℕ → Type 0
AreBytes bytes = AllByRecursion (λ b. b < 256) bytes

abbrev pub EncodingIsUndone : Type 0
EncodingIsUndone = (bytes : List ℕ) → AreBytes bytes → percent_decode (encoded bytes) ≡ bytes
