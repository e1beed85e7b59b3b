-- The URL that a text names (URL Standard, section 4.4).
use Rattle.std.specs.Prelude.{◌≡◌, ℕ, List, Option, None, Some, Err}
use Rattle.url.specs.Parser.{Parsed, parse_url, and_then, IsOutOfRoom}
use Rattle.url.specs.declared.error.ParseError.{ParseError}
use Rattle.url.specs.Parts.{Parts}

-- the URL of a text, joined to a base where there is one
abbrev pub joined_url : Option (List ℕ) → List ℕ → Parsed Parts
joined_url None text = parse_url None text
joined_url (Some base) text = and_then (parse_url None base) (λ parts. parse_url (Some parts) text)

-- the text names no URL, and not because there was no room for one
abbrev pub IsRefused : Parsed Parts → Type 0
IsRefused parsed = (e : ParseError) × (parsed ≡ Err e) × ¬ (IsOutOfRoom e)
