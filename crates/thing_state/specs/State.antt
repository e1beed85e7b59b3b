-- The state of the Thing machine: what its devices don't keep themselves.
use Rattle.std.specs.Prelude.{ℕ, ◌+◌, ◌-◌, ◌==◌, List, [], ◌∷◌, ◌++◌, map, length, Bool, true, false, ◌&&◌, Option, Some, None, codes, decimal, if◌then◌else◌}
use Rattle.std.specs.List.{flat_map}
use Rattle.std.specs.Str.{bytes_eq}
use Rattle.wot_terms.specs.declared.kind.Kind.TheVariants as kind
use Rattle.thing_site.specs.Site.{Placed, ExposedThing, Site, emitters_of, those_of}

-- ---- invocations of actions

-- the status of an invocation: it runs, or is completed, with the text of its output where it has one
pub data Status : Type 0 where
  running : Status
  completed : (output : Option (List ℕ)) → Status

-- an invocation: its id, the slot of its action, and its status
pub record Invocation : Type 0 where
  pub id : ℕ
  pub slot : ℕ
  pub status : Status

-- the most invocations that may run at a time, and be there at a time, running and completed together
abbrev pub most_invocations : ℕ
most_invocations = 64

abbrev pub is_running : Invocation → Bool
is_running i = elim i.status as (λ _. Bool) [ running ↦ true | completed output ↦ false ]

-- the invocation of this id under the action in this slot
abbrev pub invocation_named : ℕ → ℕ → List Invocation → Option Invocation
invocation_named slot id [] = None
invocation_named slot id (i ∷ invocations) =
    if (i.slot == slot) && (i.id == id) then Some i else invocation_named slot id invocations

abbrev pub running_count : List Invocation → ℕ
running_count [] = 0
running_count (i ∷ invocations) = if is_running i then running_count invocations + 1 else running_count invocations

-- the invocations without the one of this id
abbrev pub without_invocation : ℕ → List Invocation → List Invocation
without_invocation id [] = []
without_invocation id (i ∷ invocations) = if i.id == id then invocations else i ∷ without_invocation id invocations

-- the same, where the one of this id is completed with this output
abbrev pub with_completed : ℕ → Option (List ℕ) → List Invocation → List Invocation
with_completed id output [] = []
with_completed id output (i ∷ invocations) =
    if i.id == id then record i { status = completed output } ∷ invocations else i ∷ with_completed id output invocations

-- without the oldest that is completed; the oldest are first
abbrev pub without_oldest_completed : List Invocation → List Invocation
without_oldest_completed [] = []
without_oldest_completed (i ∷ invocations) = if is_running i then i ∷ without_oldest_completed invocations else invocations

-- with a further one that runs; where there are as many as may be, the oldest completed one goes
abbrev pub with_running : ℕ → ℕ → List Invocation → List Invocation
with_running id slot invocations =
    (if length invocations == most_invocations then without_oldest_completed invocations else invocations)
    ++ record { id = id; slot = slot; status = running } ∷ []

-- its status as a JSON text
abbrev pub output_text : Option (List ℕ) → List ℕ
output_text None = []
output_text (Some text) = codes ",\"output\":" ++ text

abbrev pub status_text : ℕ → Status → List ℕ
status_text id running = codes "{\"id\":" ++ decimal id ++ codes ",\"status\":\"running\"}"
status_text id (completed output) = codes "{\"id\":" ++ decimal id ++ output_text output ++ codes ",\"status\":\"completed\"}"

-- ---- emissions

-- a value that an observable property or an event emits: the slot of its affordance, and the value's text
pub record Emission : Type 0 where
  pub target : ℕ
  pub text : List ℕ

-- the last value that an affordance emitted, where it did: the slot of the affordance, and the value's text
pub record LastValue : Type 0 where
  pub target : ℕ
  pub text : Option (List ℕ)

abbrev pub last_of : ℕ → List LastValue → Option (List ℕ)
last_of target [] = None
last_of target (l ∷ last) = if l.target == target then l.text else last_of target last

abbrev pub renewed : Emission → LastValue → LastValue
renewed e l = if l.target == e.target then record l { text = Some e.text } else l

-- after these emissions, one after another
abbrev pub last_after : List Emission → List LastValue → List LastValue
last_after [] last = last
last_after (e ∷ emissions) last = last_after emissions (map (renewed e) last)

-- ---- versions

-- A property's version: its number, and the text of the value that was seen last, where one was. A version is what a
-- strong entity tag stands for (RFC 9110, section 8.8.3): while the number is the same, so is the text. The property is
-- named by its slot.
pub record Version : Type 0 where
  pub slot : ℕ
  pub number : ℕ
  pub text : Option (List ℕ)

-- this text is the one that was seen last
abbrev pub is_last_seen : List ℕ → Version → Bool
is_last_seen text v = elim v.text as (λ _. Bool) [ None ↦ false | Some last ↦ bytes_eq last text ]

-- after this text was seen: where it isn't the last one, there is a new version
abbrev pub after_text : List ℕ → Version → Version
after_text text v = if is_last_seen text v then v else record v { number = v.number + 1; text = Some text }

-- after this text was seen of the property in this slot
abbrev pub versions_after : ℕ → List ℕ → List Version → List Version
versions_after slot text [] = []
versions_after slot text (v ∷ versions) =
    if v.slot == slot then after_text text v ∷ versions else v ∷ versions_after slot text versions

-- the number of the version of the property in this slot
abbrev pub version_of : ℕ → List Version → ℕ
version_of slot [] = 0
version_of slot (v ∷ versions) = if v.slot == slot then v.number else version_of slot versions

-- The tag of the property in this slot: the number of its version where something was seen of it in this run, else 0,
-- which no tag of a request is. So a tag of an earlier run isn't met by a property of which nothing was seen yet.
abbrev pub tag_of_version : Version → ℕ
tag_of_version v = elim v.text as (λ _. ℕ) [ None ↦ 0 | Some last ↦ v.number ]

abbrev pub tag_of : ℕ → List Version → ℕ
tag_of slot [] = 0
tag_of slot (v ∷ versions) = if v.slot == slot then tag_of_version v else tag_of slot versions

-- ---- the state

-- The version of each property; the invocations, the oldest first; the id of the next invocation, counted over all
-- actions; the last value of each affordance that may emit; how many turns the run has; and up to which number it leaves
-- versions out, which is the site's and never changes.
pub record State : Type 0 where
  pub versions : List Version
  pub invocations : List Invocation
  pub next_invocation : ℕ
  pub last : List LastValue
  pub turns : ℕ
  pub left_out : ℕ

abbrev pub silent : Placed → LastValue
silent p = record { target = p.slot; text = None }

-- all properties, in the order of Things and names
abbrev pub properties_of : List ExposedThing → List Placed
properties_of = flat_map (those_of kind.Property)

-- nothing was seen of a property yet: its first version is the one after those that are left out
abbrev pub unseen : ℕ → Placed → Version
unseen left_out p = record { slot = p.slot; number = left_out; text = None }

-- before the first request
abbrev pub start : Site → State
start site = record {
  versions = map (unseen site.left_out) (properties_of site.things);
  invocations = [];
  next_invocation = 1;
  last = map silent (emitters_of site.things);
  turns = 0;
  left_out = site.left_out;
}

-- the greatest version: a version has 32 bits
abbrev pub greatest_version : ℕ
greatest_version = 4294967295

-- The most turns that a run may have which leaves out the versions up to this number: a version rises by one with a turn
-- at most.
abbrev pub most_turns : ℕ → ℕ
most_turns left_out = greatest_version - left_out

-- ---- changes of it

-- this text is seen of the property in this slot
abbrev pub with_seen : ℕ → List ℕ → State → State
with_seen slot text s = record s { versions = versions_after slot text s.versions }

-- an invocation that was answered uses its id, with any answer
abbrev pub with_id_used : State → State
with_id_used s = record s { next_invocation = s.next_invocation + 1 }

abbrev pub with_invocations : List Invocation → State → State
with_invocations invocations s = record s { invocations = invocations }
