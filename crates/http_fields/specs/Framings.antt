-- The framing of the body after a head, by its fields (RFC 9112, section 6).
use Rattle.std.specs.Prelude.{◌≤◌, ℕ, List, length, codes, Bool, ◌&&◌, not, nat_lt, Result, Ok, Err, if◌then◌else◌}
use Rattle.std.specs.List.{list_all}
use Rattle.std.specs.Char.{is_ascii_digit}
use Rattle.std.specs.Str.{str_eq_ignore_ascii_case}
use Rattle.std.specs.Str.Parse.{digits_value}
use Rattle.http_fields.specs.declared.framing.Framing.{Framing}
use Rattle.http_fields.specs.declared.framing.Framing.TheVariants as framing
use Rattle.http_fields.specs.Fields.{Standing, absent, once}

-- a length is one decimal digit or more (RFC 9110, section 8.6)
abbrev pub is_length : List ℕ → Bool
is_length value = nat_lt 0 (length value) && list_all is_ascii_digit value

-- the framing of a body of this length: 400 where it is no length, 413 where it is longer than so many bytes
abbrev pub stated_framing : ℕ → List ℕ → Result Framing ℕ
stated_framing most value =
    if not (is_length value) then Err 400
    else if nat_lt most (digits_value 10 value) then Err 413
    else Ok (framing.Stated (digits_value 10 value))

-- the framing of a body in this coding: there is none in HTTP/1.0, and none but `chunked` is
-- known (RFC 9112, section 6.1)
abbrev pub coded_framing : Bool → List ℕ → Result Framing ℕ
coded_framing newer value =
    if not newer then Err 400
    else if str_eq_ignore_ascii_case value (codes "chunked") then Ok framing.Chunked
    else Err 501

-- The framing by `Content-Length` and `Transfer-Encoding`, where a body has at most so many bytes: both together, and
-- more than one of either, are refused (RFC 9112, section 6.3).
abbrev pub framing_by : ℕ → Bool → Standing → Standing → Result Framing ℕ
framing_by most newer absent absent = Ok (framing.Stated 0)
framing_by most newer (once value) absent = stated_framing most value
framing_by most newer absent (once value) = coded_framing newer value
framing_by most newer lengths codings = Err 400

-- a stated length is no more than so many bytes
abbrev pub IsBounded : ℕ → Framing → Type 0
IsBounded most (framing.Stated n) = n ≤ most
IsBounded most framing.Chunked = Unit {0}
