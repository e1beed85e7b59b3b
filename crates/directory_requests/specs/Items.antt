-- The items of a query that are still to be looked through.
use Rattle.std.specs.Prelude.{ℕ, suc, List, [], length, Option, Some, None}
use Rattle.std.specs.Borrow.{Bor}
use Rattle.directory_requests.specs.Window.{items_of}

-- the items that are left, where there are any
abbrev pub items_in : Option (Bor (List ℕ)) → List (List ℕ)
items_in None = []
items_in (Some items) = items_of items.now

-- the number of bytes that they are in, and one for them
abbrev pub bytes_in : Option (Bor (List ℕ)) → ℕ
bytes_in None = 0
bytes_in (Some items) = suc (length items.now)
