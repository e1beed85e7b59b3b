-- The effect of a request on the directory, and its outcome. The entries of a directory may have times (WoT Discovery,
-- registration information): then each request finds those that stand at its moment.
use Rattle.std.specs.Prelude.{◌≡◌, ◌⊎◌, ℕ, List, Bool, Option, Some, None, if◌then◌else◌}
use Rattle.wot_json.specs.Tree.{Json}
use Rattle.wot_json.specs.Json.{text_of}
use Rattle.wot_json.specs.Lookup.{member_named}
use Rattle.wot_json.specs.Reading.{tree_of}
use Rattle.thing_ops.specs.declared.request.Accept.{Accept}
use Rattle.thing_ops.specs.declared.outcome.Outcome.{Outcome}
use Rattle.thing_ops.specs.declared.outcome.Outcome.TheVariants as outcome
use Rattle.thing_ops.specs.Requests.{RequestSeen}
use Rattle.wot_directory.specs.Contents.{Contents}
use Rattle.wot_directory.specs.Directory.{empty_directory, Creates, Puts, Patches, Removes, HasCreateFault, HasPutFault, HasPatchFault, HasRemoveFault, list_text}
use Rattle.wot_directory.specs.declared.fault.DirFault.{DirFault}
use Rattle.wot_directory.specs.declared.fault.DirFault.TheVariants as fault
use Rattle.wot_registry.specs.Registry.{Registered, empty_registry, standing, PutsAt, IsPutFault, CreatesAt, IsCreateFault, PatchesAt, IsPatchFault, RemovesAt, IsRemoveFault, shown_under, shown_entries}
use Rattle.wot_registry.specs.declared.fault.RegFault.{RegFault}
use Rattle.wot_registry.specs.declared.fault.RegFault.TheVariants as reg_fault
use Rattle.directory_requests.specs.declared.server.ServedEntries.{ServedEntries}
use Rattle.directory_requests.specs.declared.server.ServedEntries.TheVariants as kept
use Rattle.directory_requests.specs.declared.act.DirectoryAct.{DirectoryAct}
use Rattle.directory_requests.specs.declared.act.DirectoryAct.TheVariants as act
use Rattle.directory_requests.specs.Asked.{act_asked, id_in, IsRefused, IsUnrefused}
use Rattle.directory_requests.specs.declared.window.Window.{Window}
use Rattle.directory_requests.specs.Window.{window_of}

-- ---- outcomes

-- the answer to a fault
abbrev pub outcome_of : DirFault → Outcome
outcome_of fault.NotFound = outcome.NotFound
outcome_of (fault.Invalid first) = outcome.Invalid first.number
outcome_of fault.IdDiffers = outcome.IdDiffers
outcome_of fault.HasId = outcome.HasId
outcome_of fault.Full = outcome.DirectoryFull
outcome_of fault.NoMemory = outcome.Memory

abbrev pub outcome_of_fault : RegFault → Outcome
outcome_of_fault reg_fault.Ttl = outcome.BadTtl
outcome_of_fault (reg_fault.Directory found) = outcome_of found

-- the entries that a query asks for, of these
abbrev pub listed_by : Option Window → List (List ℕ × Json) → Outcome
listed_by None entries = outcome.BadValue
listed_by (Some w) entries = outcome.Listed (list_text w.offset w.limit entries)

-- a description that is there
abbrev pub shown : Option Json → Accept → Outcome
shown None accept = outcome.NotFound
shown (Some description) accept = outcome.Description (text_of description) accept.td

-- an entry is new, or took the place of one
abbrev pub put_outcome : Bool → Outcome
put_outcome is_new = if is_new then outcome.Created None else outcome.Changed

-- ---- acts on entries without times

-- the description or the patch that a body is
abbrev pub WithBody : List ℕ → (Json → Type 0) → Type 0
WithBody body P = (value : Json) × (tree_of body ≡ Some value) × P value

-- this fault is answered, and nothing changed
abbrev pub IsNotDone : (DirFault → Type 0) → Outcome → Contents → Contents → Type 0
IsNotDone HasFault o d t = (found : DirFault) × HasFault found × (o ≡ outcome_of found) × (t ≡ d)

abbrev pub CreatesEntry : Json → Outcome → Contents → Contents → Type 0
CreatesEntry description o d t =
    ((id : List ℕ) × Creates description d id t × (o ≡ outcome.Created (Some id)))
    ⊎ IsNotDone (λ e. HasCreateFault e description d) o d t

abbrev pub PutsEntry : List ℕ → Json → Outcome → Contents → Contents → Type 0
PutsEntry id description o d t =
    ((is_new : Bool) × Puts id description d is_new t × (o ≡ put_outcome is_new))
    ⊎ IsNotDone (λ e. HasPutFault e id description d) o d t

abbrev pub PatchesEntry : List ℕ → Json → Outcome → Contents → Contents → Type 0
PatchesEntry id patch o d t =
    (Patches id patch d t × (o ≡ outcome.Changed))
    ⊎ IsNotDone (λ e. HasPatchFault e id patch d) o d t

abbrev pub RemovesEntry : List ℕ → Outcome → Contents → Contents → Type 0
RemovesEntry id o d t =
    (Removes id d t × (o ≡ outcome.Deleted))
    ⊎ IsNotDone (λ e. HasRemoveFault e id d) o d t

-- The effect of each act: the table of acts.
abbrev pub Performs : DirectoryAct → RequestSeen → Outcome → Contents → Contents → Type 0
Performs act.Lists q o d t = (o ≡ listed_by (window_of q.query) d.entries) × (t ≡ d)
Performs act.Creates q o d t = WithBody q.body (λ description. CreatesEntry description o d t)
Performs act.Shows q o d t = (o ≡ shown (member_named (id_in q.path) d.entries) q.accept) × (t ≡ d)
Performs act.Puts q o d t = WithBody q.body (λ description. PutsEntry (id_in q.path) description o d t)
Performs act.Patches q o d t = WithBody q.body (λ patch. PatchesEntry (id_in q.path) patch o d t)
Performs act.Removes q o d t = RemovesEntry (id_in q.path) o d t

-- ---- acts on entries with times, at a moment

-- this fault is answered, and nothing changed
abbrev pub IsNotDoneAt : (RegFault → Type 0) → Outcome → Registered → Registered → Type 0
IsNotDoneAt IsFault o r s = (found : RegFault) × IsFault found × (o ≡ outcome_of_fault found) × (s ≡ r)

abbrev pub CreatesEntryAt : Json → ℕ → Outcome → Registered → Registered → Type 0
CreatesEntryAt description now o r s =
    ((id : List ℕ) × CreatesAt description now r id s × (o ≡ outcome.Created (Some id)))
    ⊎ IsNotDoneAt (λ e. IsCreateFault e description r) o r s

abbrev pub PutsEntryAt : List ℕ → Json → ℕ → Outcome → Registered → Registered → Type 0
PutsEntryAt id description now o r s =
    ((is_new : Bool) × PutsAt id description now r is_new s × (o ≡ put_outcome is_new))
    ⊎ IsNotDoneAt (λ e. IsPutFault e id description r) o r s

abbrev pub PatchesEntryAt : List ℕ → Json → ℕ → Outcome → Registered → Registered → Type 0
PatchesEntryAt id patch now o r s =
    (PatchesAt id patch now r s × (o ≡ outcome.Changed))
    ⊎ IsNotDoneAt (λ e. IsPatchFault e id patch r) o r s

abbrev pub RemovesEntryAt : List ℕ → Outcome → Registered → Registered → Type 0
RemovesEntryAt id o r s =
    (RemovesAt id r s × (o ≡ outcome.Deleted))
    ⊎ IsNotDoneAt (λ e. IsRemoveFault e id r) o r s

-- The effect of each act: the same table, where entries are given out with their times.
abbrev pub PerformsAt : DirectoryAct → RequestSeen → ℕ → Outcome → Registered → Registered → Type 0
PerformsAt act.Lists q now o r s = (o ≡ listed_by (window_of q.query) (shown_entries r)) × (s ≡ r)
PerformsAt act.Creates q now o r s = WithBody q.body (λ description. CreatesEntryAt description now o r s)
PerformsAt act.Shows q now o r s = (o ≡ shown (shown_under (id_in q.path) r) q.accept) × (s ≡ r)
PerformsAt act.Puts q now o r s = WithBody q.body (λ description. PutsEntryAt (id_in q.path) description now o r s)
PerformsAt act.Patches q now o r s = WithBody q.body (λ patch. PatchesEntryAt (id_in q.path) patch now o r s)
PerformsAt act.Removes q now o r s = RemovesEntryAt (id_in q.path) o r s

-- ---- requests

-- no entries, which have times where it is known when the clock began
abbrev pub no_entries : Option ℕ → ServedEntries
no_entries None = kept.Untimed empty_directory
no_entries (Some epoch) = kept.Timed (empty_registry epoch)

-- the entries that stand at a moment: all but those whose time to live has passed
abbrev pub standing_at : ℕ → ServedEntries → ServedEntries
standing_at now (kept.Untimed d) = kept.Untimed d
standing_at now (kept.Timed r) = kept.Timed (standing now r)

-- an act is done
abbrev pub PerformsOn : DirectoryAct → RequestSeen → ℕ → Outcome → ServedEntries → ServedEntries → Type 0
PerformsOn a q now o (kept.Untimed d) t = (e : Contents) × Performs a q o d e × (t ≡ kept.Untimed e)
PerformsOn a q now o (kept.Timed r) t = (s : Registered) × PerformsAt a q now o r s × (t ≡ kept.Timed s)

-- A request to the directory at a moment, what stands then, and its outcome.
pub data ActsOnStanding (q : RequestSeen) (now : ℕ) (o : Outcome) (d t : ServedEntries) : Type 0 where
  -- the first refusal that holds decides, and nothing changes
  refuses : IsRefused q o → t ≡ d → ActsOnStanding q now o d t
  -- it may be out of memory, and nothing changes
  is_out_of_memory : o ≡ outcome.Memory → t ≡ d → ActsOnStanding q now o d t
  -- none holds, and the act is done
  performs : (a : DirectoryAct) → act_asked q ≡ Some a → IsUnrefused q → PerformsOn a q now o d t → ActsOnStanding q now o d t

-- The same where what is over isn't taken away yet: it goes first.
abbrev pub DirectoryActs : RequestSeen → ℕ → Outcome → ServedEntries → ServedEntries → Type 0
DirectoryActs q now o d t = ActsOnStanding q now o (standing_at now d) t
