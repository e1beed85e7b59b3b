-- The route of a path, by its segments.
use Rattle.std.specs.Prelude.{ℕ, Bool, true, false, ◌&&◌, nat_le, List, [], ◌∷◌, Option, Some, None, codes, decimal, if◌then◌else◌}
use Rattle.std.specs.Str.{bytes_eq, is_utf8}
use Rattle.std.specs.Str.Parse.{digits_value}
use Rattle.thing_ops.specs.declared.routing.RouteKind.{RouteKind}
use Rattle.thing_ops.specs.declared.routing.RouteKind.TheVariants as route

-- The tests that a row of the table makes of a segment.

-- to be this word
abbrev pub the : List ℕ → List ℕ → Bool
the word segment = bytes_eq segment word

-- nothing: any name
abbrev pub any : List ℕ → Bool
any segment = true

-- to be the id of an entry in the directory: UTF-8 and not empty
abbrev pub entry_id : List ℕ → Bool
entry_id [] = false
entry_id (byte ∷ bytes) = is_utf8 (byte ∷ bytes)

-- to be the id of an invocation: a number from 1 to 4,294,967,295 in decimal digits with no leading zero, which is to
-- say the spelling of its own value
abbrev pub invocation_id : List ℕ → Bool
invocation_id segment =
    nat_le 1 (digits_value 10 segment) && nat_le (digits_value 10 segment) 4294967295
    && bytes_eq segment (decimal (digits_value 10 segment))

-- the number that such an id is
abbrev pub number_of_id : List ℕ → Option ℕ
number_of_id segment = if invocation_id segment then Some (digits_value 10 segment) else None

-- the path has as many segments as the row, and each is what the row asks
abbrev pub has_form : List (List ℕ → Bool) → List (List ℕ) → Bool
has_form [] [] = true
has_form [] (segment ∷ segments) = false
has_form (asks ∷ row) [] = false
has_form (asks ∷ row) (segment ∷ segments) = has_form row segments && asks segment

-- the number of the invocation that the fourth segment names
abbrev pub invocation_in : List (List ℕ) → ℕ
invocation_in (thing ∷ actions ∷ name ∷ id ∷ rest) = digits_value 10 id
invocation_in path = 0

-- The table of paths, the rows that name the first segment first: of two rows that a path fits, the first counts. The
-- path `things`, `properties`, N fits none of those, so it leads to a property of a Thing `things`, which no Thing is.
abbrev pub route_of : List (List ℕ) → RouteKind
route_of path =
    if has_form (the (codes ".well-known") ∷ the (codes "wot") ∷ []) path then route.Root
    else if has_form (the (codes "things") ∷ []) path then route.Things
    else if has_form (the (codes "things") ∷ entry_id ∷ []) path then route.Entry
    else if has_form (any ∷ []) path then route.Thing
    else if has_form (any ∷ the (codes "properties") ∷ []) path then route.All
    else if has_form (any ∷ the (codes "properties") ∷ any ∷ []) path then route.Property
    else if has_form (any ∷ the (codes "properties") ∷ any ∷ the (codes "observe") ∷ []) path then route.Observe
    else if has_form (any ∷ the (codes "events") ∷ any ∷ the (codes "subscribe") ∷ []) path then route.Subscribe
    else if has_form (any ∷ the (codes "actions") ∷ any ∷ []) path then route.Action
    else if has_form (any ∷ the (codes "actions") ∷ any ∷ invocation_id ∷ []) path then route.Invocation (invocation_in path)
    else if has_form (any ∷ the (codes "events") ∷ any ∷ []) path then route.Event
    else route.Nowhere
