-- Laws of a directory whose entries have times, over all that was done to it from the beginning.
use Rattle.std.specs.Prelude.{◌≡◌, ◌≢◌, ◌≤◌, ◌↔◌, ℕ, List, [], ◌∷◌, ◌++◌, Option, Some, None, IsSome, Bool, option_map, length, if◌then◌else◌, Result, Err, IfOk, IfErr}
use Rattle.std.specs.Str.{bytes_eq}
use Rattle.wot_json.specs.Tree.{Json, string, AreOrdered}
use Rattle.wot_json.specs.Lookup.{member_named}
use Rattle.wot_terms.specs.Faults.{IsValid}
use Rattle.wot_directory.specs.Contents.{most_entries}
use Rattle.wot_directory.specs.Directory.{id_of}
use Rattle.wot_directory.specs.declared.fault.DirFault.TheVariants.{Full, NoMemory}
use Rattle.wot_registry.specs.declared.fault.RegFault.{RegFault}
use Rattle.wot_registry.specs.declared.fault.RegFault.TheVariants.{Directory}
use Rattle.wot_registry.specs.Times.{Times, stands, changed}
use Rattle.wot_registry.specs.Registration.{asked_ttl, without_registration, shown}
use Rattle.wot_registry.specs.Registry.{Registered, empty_registry, standing, PutsAt, IsPutFault, CreatesAt, IsCreateFault, HoldsPatched, ReplacesAt, RemovesAt, shown_under, shown_entries}

-- ---- what was done

-- A change of what is under an id: this description came there, with this time to live; or nothing is there any more.
pub data Change : Type 0 where
  registered : (id : List ℕ) → (description : Json) → (ttl : Option ℕ) → Change
  removed : (id : List ℕ) → Change

-- changes, each with its moment, the last one first
abbrev pub History : Type 0
History = List (ℕ × Change)

-- A call at a moment, and the changes that it makes: one if it is done, and none if it is refused or only asks.
pub data Does (now : ℕ) (r after : Registered) (made : History) : Type 0 where
  puts : (id : List ℕ) (description : Json) (is_new : Bool) (done : PutsAt id description now (standing now r) is_new after)
      → made ≡ (now, registered id (without_registration description) done.ttl) ∷ [] → Does now r after made
  creates : (id : List ℕ) (description : Json) (done : CreatesAt description now (standing now r) id after)
      → made ≡ (now, registered id (without_registration description) done.ttl) ∷ [] → Does now r after made
  patches : (id : List ℕ) (patch description : Json) → HoldsPatched id patch (standing now r) (λ merged. merged ≡ description)
      → (done : ReplacesAt id description now (standing now r) after)
      → made ≡ (now, registered id (without_registration description) done.ttl) ∷ [] → Does now r after made
  removes : (id : List ℕ) → RemovesAt id (standing now r) after → made ≡ (now, removed id) ∷ [] → Does now r after made
  leaves : after ≡ standing now r → made ≡ [] → Does now r after made

-- A directory that was empty becomes this by calls at moments that never fall, with the last of these moments, and the
-- changes that were made.
pub data Comes (epoch : ℕ) : ℕ → History → Registered → Type 0 where
  begins : (r : Registered) → r ≡ empty_registry epoch → Comes epoch 0 [] r
  goes_on : (last now : ℕ) (before made : History) (r after : Registered) → Comes epoch last before r → last ≤ now → Does now r after made
      → Comes epoch now (made ++ before) after

-- ---- what is there by it

-- a description and its times
pub record Entry : Type 0 where
  pub description : Json
  pub times : Times

-- an entry until its time to live has passed since it was last changed
abbrev pub still : ℕ → Option Entry → Option Entry
still now None = None
still now (Some e) = if stands now e.times then Some e else None

-- the entry under an id after a change of the one that was there before: one that is registered while the entry before
-- it stands keeps its `created`
abbrev pub entry_after : List ℕ → ℕ → Change → Option Entry → Option Entry
entry_after id now (registered other description ttl) before =
    if bytes_eq id other then Some (record { description = description; times = changed now ttl (option_map (λ e. e.times) (still now before)) })
    else before
entry_after id now (removed other) before = if bytes_eq id other then None else before

-- the entry that the last change of an id left there, whether its time has passed or not
abbrev pub last_entry : List ℕ → History → Option Entry
last_entry id [] = None
last_entry id (c ∷ before) = entry_after id c.0 c.1 (last_entry id before)

-- the description to be given out under an id at a moment
abbrev pub due_out : ℕ → ℕ → List ℕ → History → Option Json
due_out epoch now id history = option_map (λ e. shown epoch (Some e.times) e.description) (still now (last_entry id history))

-- ---- the laws

-- At each moment that is given out under an id which its last change left there, until its time to live has passed.
abbrev pub GivesOutWhatStands : Type 0
GivesOutWhatStands =
    (epoch last now : ℕ) (history : History) (r : Registered) → Comes epoch last history r → last ≤ now
    → (id : List ℕ) → shown_under id (standing now r) ≡ due_out epoch now id history

-- And of these the list is made: each id once, in byte order.
abbrev pub ListsWhatStands : Type 0
ListsWhatStands =
    (epoch last now : ℕ) (history : History) (r : Registered) → Comes epoch last history r → last ≤ now
    → AreOrdered (shown_entries (standing now r))
    × ((id : List ℕ) → member_named id (shown_entries (standing now r)) ≡ due_out epoch now id history)

-- the directory is full, by what stands of it
abbrev pub IsFull : Registered → Type 0
IsFull r = most_entries ≤ length (shown_entries r)

-- any but out of memory
abbrev pub full : RegFault
full = Directory Full

-- Unless it is out of memory, `put` answers that the directory is full exactly where no earlier fault holds, 4,096
-- entries stand, and the id is new.
pub record IsPutInVain (id : List ℕ) (description : Json) (r : Registered) : Type 0 where
  pub asked : IsSome (asked_ttl description)
  pub valid : IsValid (without_registration description)
  pub id_is : id_of (without_registration description) ≡ Some (string id)
  pub new : member_named id r.contents.entries ≡ None
  pub full : IsFull r

abbrev pub PutIsFullExactly : Type 0
PutIsFullExactly =
    (id : List ℕ) (description : Json) (now : ℕ) (r after : Registered) (result : Result Bool RegFault)
    → IfOk result (λ is_new. PutsAt id description now (standing now r) is_new after)
    → IfErr result (λ e. IsPutFault e id description (standing now r))
    → result ≢ Err (Directory NoMemory)
    → (result ≡ Err full) ↔ IsPutInVain id description (standing now r)

-- And so does `create`, whose id is always new.
pub record IsCreatedInVain (description : Json) (r : Registered) : Type 0 where
  pub asked : IsSome (asked_ttl description)
  pub nameless : id_of (without_registration description) ≡ None
  pub valid : IsValid (without_registration description)
  pub full : IsFull r

abbrev pub CreateIsFullExactly : Type 0
CreateIsFullExactly =
    (description : Json) (now : ℕ) (r after : Registered) (result : Result (List ℕ) RegFault)
    → IfOk result (λ id. CreatesAt description now (standing now r) id after)
    → IfErr result (λ e. IsCreateFault e description (standing now r))
    → result ≢ Err (Directory NoMemory)
    → (result ≡ Err full) ↔ IsCreatedInVain description (standing now r)
