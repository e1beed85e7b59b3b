-- The view of a `Directory` in contracts.
use Rattle.std.specs.Prelude.{ℕ, List, refl}
use Rattle.std.specs.Coded.{Coded, code_by, coded×, coded_ℕ}
use Rattle.wot_json.specs.Tree.{Json}
use Rattle.wot_json.specs.JsonCodes.{members_code}

-- descriptions by their ids
abbrev pub Entries : Type 0
Entries = List (List ℕ × Json)

-- the most descriptions that a directory may hold
abbrev pub most_entries : ℕ
most_entries = 4096

-- the descriptions by their ids, in the byte order of the ids, and the number from which the next id is sought
pub record Contents : Type 0 where
  pub entries : Entries
  pub next : ℕ

-- its code, as the kit asks in an `impl Model`: the pair of its fields
abbrev pub contents_code : Coded Contents
contents_code =
    code_by (Entries × ℕ) (coded× members_code coded_ℕ) (λ c. (c.entries, c.next)) (λ p. record { entries = p.0; next = p.1 }) (λ _. refl)
