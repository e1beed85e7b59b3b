-- Versions of properties over a run: what entity tags promise (RFC 9110, section 8.8.3), and that no write is lost
-- (section 13.1.1).
use Rattle.std.specs.Prelude.{◌≡◌, ◌≢◌, ◌≤◌, ◌<◌, ℕ, ◌+◌, ◌==◌, ◌&&◌, Bool, true, List, [], ◌∷◌, ◌++◌, Option, Some, None, option_map, IsSome, if◌then◌else◌, false}
use Rattle.std.specs.List.{AllByRecursion}
use Rattle.servient_base.specs.Moves.{Each}
use Rattle.thing_ops.specs.declared.outcome.Outcome.TheVariants as outcome
use Rattle.thing_ops.specs.Outcomes.{version_of as tag_sent}
use Rattle.thing_ops.specs.Requests.{RequestSeen}
use Rattle.thing_handler.specs.declared.handler.CallKind.{CallKind}
use Rattle.thing_handler.specs.declared.handler.CallKind.TheVariants as call
use Rattle.thing_handler.specs.Turns.{HandlerCall, answered, missed}
use Rattle.thing_site.specs.Site.{Placed, Site}
use Rattle.thing_site.specs.declared.place.ThingAct.{ThingAct}
use Rattle.thing_site.specs.declared.place.ThingAct.TheVariants as act
use Rattle.thing_state.specs.State.{State, Emission, Version, is_last_seen, after_text, start, properties_of, version_of, most_turns}
use Rattle.thing_core.specs.Refusals.{act_asked}
use Rattle.thing_state.specs.Calls.{Move}
use Rattle.thing_core.specs.Thing.{Done, Acts, Polls}

-- ---- runs

-- a request with what came of it, or a poll of all events with what it emitted
pub data Deed : Type 0 where
  asks : RequestSeen → Done → Deed
  polls : List Emission → Deed

abbrev pub Does : Site → Deed → Move
Does site (asks q done) = Acts site q done
Does site (polls emissions) = Polls site emissions

-- one after another
abbrev pub DoesAll : Site → List Deed → Move
DoesAll site = Each (Does site)

-- ---- versions

-- the version of the property in this slot
abbrev pub version_in : ℕ → List Version → Option Version
version_in slot [] = None
version_in slot (v ∷ versions) = if v.slot == slot then Some v else version_in slot versions

-- after these texts were seen, one after another
abbrev pub after_texts : List (List ℕ) → Version → Version
after_texts [] v = v
after_texts (text ∷ texts) v = after_texts texts (after_text text v)

-- from one state to another some texts were seen of the property in this slot
abbrev pub SeesTexts : ℕ → State → State → Type 0
SeesTexts slot s t = (texts : List (List ℕ)) × (version_in slot t.versions ≡ option_map (after_texts texts) (version_in slot s.versions))

-- however many texts are seen: the number doesn't fall, and where it is the same, so is the text
abbrev pub IsLater : Version → Version → Type 0
IsLater v w = (v.number ≤ w.number) × (w.number ≡ v.number → w ≡ v)

-- Whatever is done, of each property texts were seen one after another: its version changes by them alone.
abbrev pub VersionsSeeTexts : Site → Type 0
VersionsSeeTexts site = (deeds : List Deed) (s t : State) (seen : List HandlerCall) → DoesAll site deeds s seen t → (slot : ℕ) → SeesTexts slot s t

-- the number of these texts that differ from the one that was seen before
abbrev pub changes : List (List ℕ) → Version → ℕ
changes [] v = 0
changes (text ∷ texts) v = (if is_last_seen text v then 0 else 1) + changes texts (after_text text v)

-- A version never falls; while its number is the same, its text is; and it rises by one for each text that differs from
-- the one that was seen before, and by nothing else.
abbrev pub TextsMakeVersions : Type 0
TextsMakeVersions =
    (texts : List (List ℕ)) (v : Version) → IsLater v (after_texts texts v) × ((after_texts texts v).number ≡ v.number + changes texts v)

-- ---- from the beginning

-- a state that is reached from the beginning
pub record IsReached (site : Site) (s : State) : Type 0 where
  pub deeds : List Deed
  pub seen : List HandlerCall
  pub run : DoesAll site deeds (start site) seen s

-- A version counts turns of the run, after the versions that are left out: it is a number of 32 bits where those are.
abbrev pub VersionsAreFew : Site → Type 0
VersionsAreFew site =
    (s : State) → IsReached site s → (slot : ℕ) → (version_of slot s.versions ≤ site.left_out + s.turns) × (s.turns ≤ most_turns site.left_out)

-- ---- reads and writes of one property

-- a request was made, and this came of it
pub record IsAsked (site : Site) (q : RequestSeen) (act : ThingAct) (done : Done) (s t : State) : Type 0 where
  pub asked : act_asked (record { site = site; state = s; request = q }) ≡ Some act
  pub seen : List HandlerCall
  pub move : Acts site q done s seen t

-- Two reads of one property in a run, whatever is done between them: what they send with one tag is one text.
abbrev pub SameTagSameText : Site → Type 0
SameTagSameText site =
    (p : Placed) (q r : RequestSeen) (one other : Done) (s t u v : State) (deeds : List Deed) (between : List HandlerCall) (tag : ℕ) (text further : List ℕ)
    → IsSome (version_in p.slot s.versions)
    → IsAsked site q (act.Reads p) one s t → DoesAll site deeds t between u → IsAsked site r (act.Reads p) other u v
    → one.outcome ≡ outcome.Content text (Some tag) → other.outcome ≡ outcome.Content further (Some tag) → text ≡ further

-- A tag is no version that is left out.
abbrev pub TagsAreSeen : Site → Type 0
TagsAreSeen site =
    (p : Placed) (q : RequestSeen) (done : Done) (s t : State) (tag : ℕ) (text : List ℕ) → IsReached site s → IsSome (version_in p.slot s.versions)
    → IsAsked site q (act.Reads p) done s t → done.outcome ≡ outcome.Content text (Some tag) → site.left_out < tag

-- No write is lost: one that was done and asks for the version that was read found the property as it was read.
abbrev pub NoWriteIsLost : Site → Type 0
NoWriteIsLost site =
    (p : Placed) (q r : RequestSeen) (read written : Done) (s t u v : State) (deeds : List Deed) (between : List HandlerCall) (tag : ℕ) (text : List ℕ)
    → IsSome (version_in p.slot s.versions)
    → IsAsked site q (act.Reads p) read s t → DoesAll site deeds t between u → IsAsked site r (act.Writes p) written u v
    → read.outcome ≡ outcome.Content text (Some tag) → r.conditions.if_match ≡ Some (record { any = false; list = tag ∷ [] })
    → written.outcome ≡ outcome.Changed
    → option_map {U = ℕ × Option (List ℕ)} (λ w. (w.number, w.text)) (version_in p.slot u.versions) ≡ Some (tag, Some text)

-- Each property has a version at the beginning, and so in each state that is reached.
abbrev pub PropertiesHaveVersions : Site → Type 0
PropertiesHaveVersions site = (s : State) → IsReached site s → AllByRecursion (λ p. IsSome (version_in p.slot s.versions)) (properties_of site.things)

-- ---- from one run to a later one

-- a property is read or written
abbrev pub reads_or_writes : CallKind → Bool
reads_or_writes call.Read = true
reads_or_writes (call.Write value) = true
reads_or_writes what = false

-- the number of turns among these calls in which the property in this slot was read or written
abbrev pub reads_and_writes : ℕ → List HandlerCall → ℕ
reads_and_writes slot [] = 0
reads_and_writes slot (answered turn ∷ calls) =
    (if (turn.slot == slot) && reads_or_writes turn.what then 1 else 0) + reads_and_writes slot calls
reads_and_writes slot (missed other ∷ calls) = reads_and_writes slot calls

-- A later run leaves out the versions that an earlier one left out, and as many more as any one property was read and
-- written there.
abbrev pub LeavesOutMore : Site → List HandlerCall → Site → Type 0
LeavesOutMore site seen later = (slot : ℕ) → site.left_out + reads_and_writes slot seen ≤ later.left_out

-- A run from the beginning, with these calls, in which a read of the property in this slot was answered with this tag: with
-- its value, or with the word that the client has it (RFC 9110, section 15.4.5).
pub record SendsTag (site : Site) (slot tag : ℕ) (seen : List HandlerCall) : Type 0 where
  pub before : List Deed
  pub begun : List HandlerCall
  pub s : State
  pub begins : DoesAll site before (start site) begun s
  pub p : Placed
  pub request : RequestSeen
  pub done : Done
  pub t : State
  pub asked : IsAsked site request (act.Reads p) done s t
  pub named : p.slot ≡ slot
  pub there : IsSome (version_in p.slot s.versions)
  pub sent : tag_sent done.outcome ≡ Some tag
  pub after : List Deed
  pub further : List HandlerCall
  pub u : State
  pub goes_on : DoesAll site after t further u
  pub whole : seen ≡ begun ++ (asked.seen ++ further)

-- No tag comes again: each that the later run sends is greater than each that the earlier one sent.
abbrev pub TagsDontComeAgain : Site → Site → Type 0
TagsDontComeAgain site later =
    (seen more : List HandlerCall) (slot other tag further : ℕ) → LeavesOutMore site seen later
    → SendsTag site slot tag seen → SendsTag later other further more → tag < further

-- No write of the later run is done that asks for a tag of the earlier one.
abbrev pub OldTagsAreNotMet : Site → Site → Type 0
OldTagsAreNotMet site later =
    (seen : List HandlerCall) (slot tag : ℕ) → LeavesOutMore site seen later → SendsTag site slot tag seen
    → (p : Placed) (request : RequestSeen) (written : Done) (u v : State) → IsReached later u → IsAsked later request (act.Writes p) written u v
    → request.conditions.if_match ≡ Some (record { any = false; list = tag ∷ [] }) → written.outcome ≢ outcome.Changed
