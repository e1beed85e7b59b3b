-- The times of a directory's entries (WoT Discovery, registration information). Moments are milliseconds.
use Rattle.std.specs.Prelude.{ℕ, ◌+◌, ◌*◌, List, Option, Some, None, Bool, true, false, not, nat_le, filter, option_map, refl}
use Rattle.std.specs.Coded.{Coded, code_by, coded×, coded_ℕ, coded_option, coded_list}
use Rattle.std.specs.Map.{lookup}
use Rattle.std.specs.BTreeMap.{insert_entry}
use Rattle.std.specs.Ordering.{nat_cmp}
use Rattle.std.specs.Cmp.Lexicographic.{slice_cmp}
use Rattle.std.specs.Str.{bytes_eq}

-- the moments at which an entry was created and last changed, and its time to live in seconds, where it has one
pub record Times : Type 0 where
  pub created : ℕ
  pub modified : ℕ
  pub ttl : Option ℕ

-- its code, as the kit asks in an `impl Model`: the tuple of its fields
abbrev pub times_code : Coded Times
times_code =
    code_by (ℕ × (ℕ × Option ℕ)) (coded× coded_ℕ (coded× coded_ℕ (coded_option coded_ℕ))) (λ t. (t.created, (t.modified, t.ttl))) (λ p. record { created = p.0; modified = p.1.0; ttl = p.1.1 }) (λ _. refl)

-- the last moment of a clock
abbrev pub last_moment : ℕ
last_moment = 1_000_000_000_000_000

-- the longest time to live: 365 days
abbrev pub longest_ttl : ℕ
longest_ttl = 31_536_000

-- the moment from which on an entry is gone, where it has a time to live
abbrev pub expiry : Times → Option ℕ
expiry t = option_map (λ seconds. t.modified + 1_000 * seconds) t.ttl

-- a moment of expiry that is reached
abbrev pub is_reached : ℕ → Option ℕ → Bool
is_reached now None = false
is_reached now (Some moment) = nat_le moment now

-- an entry is there until its time to live has passed since it was last changed
abbrev pub stands : ℕ → Times → Bool
stands now t = not (is_reached now (expiry t))

-- ---- the times of all entries, in the byte order of their ids

-- the times of the entry of this id, where it has some
abbrev pub times_of : List ℕ → List (List ℕ × Times) → Option Times
times_of id ts = lookup (bytes_eq id) ts

-- the same with these times under this id, and without those of an id
abbrev pub with_times : List ℕ → Times → List (List ℕ × Times) → List (List ℕ × Times)
with_times id t ts = insert_entry (slice_cmp nat_cmp) ts id t

abbrev pub without_times : List ℕ → List (List ℕ × Times) → List (List ℕ × Times)
without_times id ts = filter (λ e. not (bytes_eq id e.0)) ts

-- the entry under this id stands at a moment: no time to live of it has passed
abbrev pub stands_by : ℕ → Option Times → Bool
stands_by now None = true
stands_by now (Some t) = stands now t

abbrev pub is_standing : ℕ → List (List ℕ × Times) → List ℕ → Bool
is_standing now ts id = stands_by now (times_of id ts)

-- of what is kept by ids, that which stands
abbrev pub standing_entries : {X : Type 0} → ℕ → List (List ℕ × Times) → List (List ℕ × X) → List (List ℕ × X)
standing_entries now ts es = filter (λ e. is_standing now ts e.0) es

abbrev pub times_by_id_code : Coded (List (List ℕ × Times))
times_by_id_code = coded_list (coded× (coded_list coded_ℕ) times_code)

-- the times of an entry after a change: a new one is created now
abbrev pub created_at : ℕ → Option Times → ℕ
created_at now None = now
created_at now (Some t) = t.created

abbrev pub changed : ℕ → Option ℕ → Option Times → Times
changed now ttl was = record { created = created_at now was; modified = now; ttl = ttl }
