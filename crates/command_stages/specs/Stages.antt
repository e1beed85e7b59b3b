-- Stages of a command: each goes on with a value, or ends the command with a status. The trace of a stage is a list of
-- its reads, its acts at the network, its calls and its writes, in order, and a command is one stage after another. So
-- reads, calls and status are said once, and not for each cause of an end.
use Rattle.std.specs.Prelude.{◌≡◌, ◌≤◌, ℕ, List, [], ◌∷◌, ◌++◌, map, Option, Some, None}
use Rattle.std.specs.List.{filter_map, flat_map}
use Rattle.servient_base.specs.Count.{Rose}
use Rattle.servient_base.specs.Moves.{Passing}
use Rattle.servient_outside.specs.declared.files.FileRead.{FileRead}
use Rattle.servient_outside.specs.Told.{Continues}
use Rattle.servient_outside.specs.Files.{FilesSeen, NoReadFailed}
use Rattle.servient_trace.specs.Trace.{Sighting, Outside}
use Rattle.servient_trace.specs.ShownSections.{Shown, saw, forgot, ShowsInSections}
use Rattle.command_stages.specs.Lines.{memory_line}

-- One thing that a command does.
pub data Deed : Type 0 where
  -- a file was read, or was absent or too long
  did_read : FileRead → Deed
  -- a read of a file failed: a deed, so that a stage speaks of what the files hold and not of counts before and after
  did_fail : FileRead → Deed
  -- something happened at the network, or a device handler was called: what the machine sees, as it is; of the network
  -- of a replay, which is its own, only the calls of handlers are deeds
  did_see : Sighting → Deed
  -- the handlers forgot their turns
  did_forget : Deed
  -- a text was written
  did_write : List ℕ → Deed

-- the reads among some deeds, in order
abbrev pub read_in : Deed → Option FileRead
read_in (did_read file) = Some file
read_in (did_fail file) = Some file
read_in (did_see sighting) = None
read_in did_forget = None
read_in (did_write text) = None

abbrev pub reads_in : List Deed → List FileRead
reads_in = filter_map read_in

-- one of these reads failed
abbrev pub HasFailed : List Deed → Type 0
HasFailed [] = ⊥
HasFailed (did_read file ∷ seen) = HasFailed seen
HasFailed (did_fail file ∷ seen) = Unit {0}
HasFailed (did_see sighting ∷ seen) = HasFailed seen
HasFailed (did_forget ∷ seen) = HasFailed seen
HasFailed (did_write text ∷ seen) = HasFailed seen

-- the sightings at the network and at the handlers, in order
abbrev pub sighting_in : Deed → Option Sighting
sighting_in (did_read file) = None
sighting_in (did_fail file) = None
sighting_in (did_see sighting) = Some sighting
sighting_in did_forget = None
sighting_in (did_write text) = None

abbrev pub sightings_in : List Deed → List Sighting
sightings_in = filter_map sighting_in

-- and with the forgettings between them
abbrev pub showing_in : Deed → Option Shown
showing_in (did_read file) = None
showing_in (did_fail file) = None
showing_in (did_see sighting) = Some (saw sighting)
showing_in did_forget = Some forgot
showing_in (did_write text) = None

abbrev pub showings_in : List Deed → List Shown
showings_in = filter_map showing_in

-- these were seen
abbrev pub sees : List Sighting → List Deed
sees = map (λ sighting. did_see sighting)

-- these were shown, forgettings among them
abbrev pub shows_as : Shown → Deed
shows_as (saw sighting) = did_see sighting
shows_as forgot = did_forget

abbrev pub shows_all : List Shown → List Deed
shows_all = map shows_as

-- all that was written, one text after another
abbrev pub written_in : Deed → List ℕ
written_in (did_read file) = []
written_in (did_fail file) = []
written_in (did_see sighting) = []
written_in did_forget = []
written_in (did_write text) = text

abbrev pub text_in : List Deed → List ℕ
text_in = flat_map written_in

-- The result of a stage.
pub data Outcome (A : Type 0) : Type 0 where
  goes_on : A → Outcome A
  ends : ℕ → Outcome A

-- these are the deeds, then this line is written, and the command ends with this status
abbrev pub EndsWith : {A : Type 0} → List Deed → ℕ → List ℕ → List Deed → Outcome A → Type 0
EndsWith before status line seen o = (seen ≡ before ++ did_write line ∷ []) × (o ≡ ends status)

-- it was out of memory after these deeds
abbrev pub RunsOut : {A : Type 0} → List Deed → List Deed → Outcome A → Type 0
RunsOut before seen o = EndsWith before 9 memory_line seen o

-- One stage, and the next after it, which takes its value: two moves with a value that is passed on. The inputs of a
-- stage are constant, so these moves have no state; a stage that ends has no value, and is a case of its own.
pub data AndThen {A B : Type 0} (P : List Deed → Outcome A → Type 0) (Q : A → List Deed → Outcome B → Type 0) (seen : List Deed) (o : Outcome B) : Type 0 where
  ends_first : (status : ℕ) → P seen (ends status) → o ≡ ends status → AndThen P Q seen o
  goes_further : Passing {S = Unit {0}} (λ value s first t. P first (goes_on value)) (λ value s second t. Q value second o) tt seen tt → AndThen P Q seen o

-- ---- what the outside shows of them

-- The view at one time of the files, and of the network and the handlers.
pub record Around : Type 0 where
  pub files : FilesSeen
  pub outside : Outside

abbrev pub around : FilesSeen → Outside → Around
around files outside = record { files = files; outside = outside }

-- From one time to another the files show these reads, and the network and the handlers the sightings among these
-- deeds, and nothing else: in one section, unless the handlers forgot their turns. Where a read failed, the count of
-- failures rose; it never falls, and stays where no read fails.
pub record ShowsDeeds (before now : Around) (seen : List Deed) : Type 0 where
  pub reads : Continues before.files.reads now.files.reads (reads_in seen)
  pub faults : before.files.faults ≤ now.files.faults
  pub failed : HasFailed seen → Rose before.files.faults now.files.faults
  pub no_failure : NoReadFailed before.files now.files
  pub outside : ShowsInSections before.outside now.outside (showings_in seen)
