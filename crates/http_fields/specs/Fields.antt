-- Header lines (RFC 9112, section 5): their names in any case, and their values.
use Rattle.std.specs.Prelude.{ℕ, ◌-◌, ◌==◌, List, [], ◌∷◌, length, map, take, drop, codes, Bool, true, ◌||◌, Option, Some, None, if◌then◌else◌}
use Rattle.std.specs.List.{filter, list_any, slice_split, before_first, prefix_len, suffix_len}
use Rattle.std.specs.Char.{is_ascii_whitespace}
use Rattle.std.specs.Str.{str_eq_ignore_ascii_case}
use Rattle.thing_ops.specs.declared.request.Accept.{Accept}
use Rattle.thing_ops.specs.declared.request.Format.{Format}
use Rattle.thing_ops.specs.declared.request.Format.TheVariants as format

-- a header line: its name, and its value without the white space around it
abbrev pub Line : Type 0
Line = List ℕ × List ℕ

-- a line has this name
abbrev pub has_name : List ℕ → Line → Bool
has_name name line = str_eq_ignore_ascii_case line.0 name

-- the values of the lines with this name, in their order
abbrev pub values_of : List ℕ → List Line → List (List ℕ)
values_of name lines = map (λ line. line.1) (filter (has_name name) lines)

-- a line asks for a version of what the target names (RFC 9110, sections 13.1.1 and 13.1.2)
abbrev pub asks_for_version : Line → Bool
asks_for_version line = has_name (codes "if-match") line || has_name (codes "if-none-match") line

-- The number of times that a field comes that may come once: not at all, once with this value, or more often. Nothing
-- is asked of the values of one that comes more often.
pub data Standing : Type 0 where
  absent : Standing
  once : (value : List ℕ) → Standing
  often : Standing

abbrev pub standing : List (List ℕ) → Standing
standing [] = absent
standing (value ∷ []) = once value
standing (value ∷ next ∷ values) = often

-- ---- lists and types

-- The bytes without the white space at both ends. In a value that is spaces and tabs (RFC 9110, section 5.6.3): it
-- has no other white space.
abbrev pub trimmed : List ℕ → List ℕ
trimmed bytes =
    let rest = drop (prefix_len is_ascii_whitespace bytes) bytes in
    take (length rest - suffix_len is_ascii_whitespace rest) rest

-- some item of a list with commas is so (RFC 9110, section 5.6.1)
abbrev pub has_item : (List ℕ → Bool) → List ℕ → Bool
has_item is_so value = list_any is_so (slice_split (λ b. b == 44) value)

-- an item is the connection option `close` (RFC 9110, section 7.6.1)
abbrev pub is_close : List ℕ → Bool
is_close item = str_eq_ignore_ascii_case (trimmed item) (codes "close")

-- an expectation is `100-continue` (RFC 9110, section 10.1.1)
abbrev pub is_continue : List ℕ → Bool
is_continue value = str_eq_ignore_ascii_case value (codes "100-continue")

-- a media type without its parameters (RFC 9110, section 8.3.1)
abbrev pub media_type : List ℕ → List ℕ
media_type value = trimmed (before_first (λ b. b == 59) value)

-- the format of a body whose media type this is
abbrev pub format_of_type : List ℕ → Format
format_of_type name =
    if str_eq_ignore_ascii_case name (codes "application/json") then format.Json
    else if str_eq_ignore_ascii_case name (codes "application/td+json") then format.Td
    else if str_eq_ignore_ascii_case name (codes "application/merge-patch+json") then format.Patch
    else format.Other

-- the format by `Content-Type`; a head that has more than one is refused
abbrev pub format_of : Standing → Format
format_of absent = format.Absent
format_of (once value) = format_of_type (media_type value)
format_of often = format.Other

-- a media range takes each type of `application` (RFC 9110, section 12.5.1)
abbrev pub takes_each : List ℕ → Bool
takes_each range = str_eq_ignore_ascii_case range (codes "*/*") || str_eq_ignore_ascii_case range (codes "application/*")

-- an item of `Accept` takes `application/json`; its weight isn't read
abbrev pub takes_json : List ℕ → Bool
takes_json item = takes_each (media_type item) || str_eq_ignore_ascii_case (media_type item) (codes "application/json")

-- an item of `Accept` takes `application/td+json`
abbrev pub takes_td : List ℕ → Bool
takes_td item = takes_each (media_type item) || str_eq_ignore_ascii_case (media_type item) (codes "application/td+json")

-- the types that the values of `Accept` take, if there are any
abbrev pub types_taken : List (List ℕ) → Option Accept
types_taken [] = None
types_taken (value ∷ values) = Some (record {
  json = list_any (has_item takes_json) (value ∷ values);
  td = list_any (has_item takes_td) (value ∷ values);
})

-- where there are none, both types are
abbrev pub accept_of : Option Accept → Accept
accept_of None = record { json = true; td = true }
accept_of (Some accept) = accept

-- ---- what the header lines of a head say

pub record Said : Type 0 where
  pub host : Standing
  pub content_length : Standing
  pub transfer_encoding : Standing
  pub content_type : Standing
  pub continues : Bool
  pub closes : Bool
  pub accept : Option Accept
  pub conditional : Bool

abbrev pub said_by : List Line → Said
said_by lines = record {
  host = standing (values_of (codes "host") lines);
  content_length = standing (values_of (codes "content-length") lines);
  transfer_encoding = standing (values_of (codes "transfer-encoding") lines);
  content_type = standing (values_of (codes "content-type") lines);
  continues = list_any is_continue (values_of (codes "expect") lines);
  closes = list_any (has_item is_close) (values_of (codes "connection") lines);
  accept = types_taken (values_of (codes "accept") lines);
  conditional = list_any asks_for_version lines;
}
