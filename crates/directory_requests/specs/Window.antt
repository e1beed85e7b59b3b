-- The part of the entries that a list of the directory has, by the query of its request.
use Rattle.std.specs.Prelude.{◌≡◌, ℕ, ◌==◌, ◌&&◌, min, nat_le, List, [], ◌∷◌, length, Bool, true, false, Option, Some, None, option_and_then, codes, if◌then◌else◌}
use Rattle.std.specs.List.{slice_split, before_first, after_first, list_all}
use Rattle.std.specs.Str.{bytes_eq}
use Rattle.std.specs.Char.{is_ascii_digit}
use Rattle.std.specs.Str.Parse.{digits_value}
use Rattle.directory_requests.specs.declared.window.Window.{Window}

-- ---- items

-- the items of a query: what is between its signs `&`
abbrev pub items_of : List ℕ → List (List ℕ)
items_of query = slice_split (λ b. b == 38) query

-- an item's name is before its first `=`, and its value behind it
abbrev pub name_of : List ℕ → List ℕ
name_of item = before_first (λ b. b == 61) item

abbrev pub value_of : List ℕ → List ℕ
value_of item = after_first (λ b. b == 61) item

-- the value of the first item of this name
abbrev pub value_in : List ℕ → List (List ℕ) → Option (List ℕ)
value_in name [] = None
value_in name (item ∷ items) = if bytes_eq (name_of item) name then Some (value_of item) else value_in name items

-- ---- numbers

-- one to nine digits, zeros in front among them
abbrev pub is_number : List ℕ → Bool
is_number text = nat_le 1 (length text) && nat_le (length text) 9 && list_all is_ascii_digit text

-- the number that an item says; None: it says something else
abbrev pub number_in : List ℕ → Option ℕ
number_in text = if is_number text then Some (digits_value 10 text) else None

-- and where there is no such item, another
abbrev pub number_or : ℕ → Option (List ℕ) → Option ℕ
number_or otherwise None = Some otherwise
number_or otherwise (Some text) = number_in text

-- ---- the window

-- the number of entries that are listed where nothing is said, and at most
abbrev pub usual_limit : ℕ
usual_limit = 32

abbrev pub greatest_limit : ℕ
greatest_limit = 100

-- no entries at all can't be asked for
abbrev pub window_from : ℕ → ℕ → Option Window
window_from offset limit = if limit == 0 then None else Some record { offset = offset; limit = min limit greatest_limit }

-- The window that a query asks for by its items `offset` and `limit`, of which the first of each name counts; all
-- others are ignored. None: one of them is no number as above, or the limit is 0.
abbrev pub window_of : List ℕ → Option Window
window_of query =
    option_and_then (λ offset. option_and_then (window_from offset) (number_or usual_limit (value_in (codes "limit") (items_of query))))
    (number_or 0 (value_in (codes "offset") (items_of query)))
