-- The directory over a whole run (WoT Discovery, "Things API", in outline): its requests are read off the run. What stands
-- at a moment follows from the changes that they made before it, and each is answered by that.
use mathlib.Core.Logic.{inl, inr}
use Rattle.std.specs.Prelude.{◌≡◌, ◌≢◌, ◌≤◌, ◌↔◌, ℕ, max, Bool, true, false, List, [], ◌∷◌, ◌++◌, length, Option, Some, None, option_map}
use Rattle.wot_json.specs.Tree.{Json, string, AreOrdered}
use Rattle.wot_json.specs.Lookup.{member_named}
use Rattle.wot_json.specs.Merge.{merge}
use Rattle.wot_json.specs.Reading.{tree_of}
use Rattle.wot_terms.specs.Faults.{IsValid}
use Rattle.wot_directory.specs.Contents.{Entries, most_entries}
use Rattle.wot_directory.specs.Directory.{id_of}
use Rattle.wot_registry.specs.Registration.{asked_ttl, without_registration, with_ttl, shown as with_registration}
use Rattle.wot_registry.specs.Laws.{History, Entry, registered, removed, still, last_entry}
use Rattle.thing_ops.specs.declared.outcome.Outcome.{Outcome}
use Rattle.thing_ops.specs.declared.outcome.Outcome.TheVariants as outcome
use Rattle.thing_ops.specs.Requests.{RequestSeen}
use Rattle.directory_requests.specs.declared.act.DirectoryAct.TheVariants as act
use Rattle.directory_requests.specs.Asked.{act_asked, id_in, IsUnrefused}
use Rattle.directory_requests.specs.Requests.{shown, listed_by, put_outcome}
use Rattle.directory_requests.specs.Window.{window_of}
use Rattle.http_bind.specs.Streams.{Taken, asks, wants_continue, is_faulty, interrupts}
use Rattle.servient_base.specs.Moves.{is_done, goes_on}
use Rattle.servient_outside.specs.declared.net.What.{What}
use Rattle.servient_outside.specs.declared.net.What.TheVariants as what
use Rattle.servient_outside.specs.declared.net.EventWithBytes.{EventWithBytes}
use Rattle.servient_trace.specs.Trace.{Sighting}
use Rattle.thing_core.specs.Thing.{Done}
use Rattle.servient_core.specs.Machine.{Site, State, start, PerformsByHttp, AnswersTaken, TakesEveryMessage, Follows, Run}

-- ---- the requests of a run

-- a request to the directory, the moment at which it is performed, and its outcome
pub record DirectoryRequest : Type 0 where
  pub request : RequestSeen
  pub moment : ℕ
  pub outcome : Outcome

-- a request that came by HTTP, where it is to the directory
abbrev pub requests_of_request : (site : Site) (q : RequestSeen) (done : Done) (s t : State) (seen : List Sighting) → PerformsByHttp site q done s seen t → List DirectoryRequest
requests_of_request site q done s t seen (inl directory) = record { request = q; moment = s.moment; outcome = done.outcome } ∷ []
requests_of_request site q done s t seen (inr thing) = []

abbrev pub requests_of_taken : (site : Site) (c : ℕ) (taken : Taken) (s t : State) (seen : List Sighting) → AnswersTaken site c taken s seen t → List DirectoryRequest
requests_of_taken site c (asks q) s t seen (done, w) = requests_of_request site q done s w.mid w.first w.one
requests_of_taken site c wants_continue s t seen w = []
requests_of_taken site c (is_faulty status) s t seen w = []
requests_of_taken site c interrupts s t seen w = []

-- those of messages that are taken one after another
abbrev pub requests_of_messages : (site : Site) (c : ℕ) (s t : State) (seen : List Sighting) → TakesEveryMessage site c s seen t → List DirectoryRequest
requests_of_messages site c s t seen (is_done s' seen' t' done stays) = []
requests_of_messages site c s t seen (goes_on s' mid t' seen' first second one more whole) =
    requests_of_taken site c one.0 one.1.mid mid one.1.second one.1.other ++ requests_of_messages site c mid t second more

-- only bytes bring some
abbrev pub requests_of_event : (site : Site) (w : What) (bytes : List ℕ) (s t : State) (seen : List Sighting) → Follows site w bytes s seen t → List DirectoryRequest
requests_of_event site (what.Bytes c size) bytes s t seen w = requests_of_messages site c w.mid t w.second w.other
requests_of_event site (what.Opened c) bytes s t seen w = []
requests_of_event site (what.Ended c) bytes s t seen w = []
requests_of_event site (what.Datagram from size) bytes s t seen w = []
requests_of_event site what.Tick bytes s t seen w = []
requests_of_event site what.Stop bytes s t seen w = []

-- those of a run, in their order
abbrev pub requests_in : (site : Site) (took : List EventWithBytes) (s t : State) (seen : List Sighting) → Run site took s seen t → List DirectoryRequest
requests_in site [] s t seen stays = []
requests_in site (e ∷ es) s t seen w =
    let step = w.one.other in
    requests_of_event site e.event.what e.bytes (record w.one.mid { moment = max w.one.mid.moment e.event.moment }) step.mid step.first step.one
    ++ requests_in site es w.mid t w.second w.other

-- ---- what stands by the changes that were made, where the clock began at an epoch, if that is known

-- the entry under an id at a moment: that which its last change left there, with an epoch until its time to live has
-- passed
abbrev pub entry_at : Option ℕ → ℕ → List ℕ → History → Option Entry
entry_at None now id history = last_entry id history
entry_at (Some epoch) now id history = still now (last_entry id history)

-- the description of an entry as it is given out: with an epoch it has registration information
abbrev pub given_out : Option ℕ → Entry → Json
given_out None e = e.description
given_out (Some epoch) e = with_registration epoch (Some e.times) e.description

abbrev pub stands_under : Option ℕ → ℕ → List ℕ → History → Option Json
stands_under epoch now id history = option_map (given_out epoch) (entry_at epoch now id history)

-- these are all descriptions that stand, each id once, in byte order
pub record AreStanding (epoch : Option ℕ) (now : ℕ) (history : History) (standing : Entries) : Type 0 where
  pub ordered : AreOrdered standing
  pub named : (id : List ℕ) → member_named id standing ≡ stands_under epoch now id history

-- ---- the change that a request makes

-- a description as it is kept: with an epoch its registration information is apart
abbrev pub as_kept : Option ℕ → Json → Json
as_kept None description = description
as_kept (Some epoch) description = without_registration description

-- it asks for this time to live
abbrev pub AsksFor : Option ℕ → Json → Option ℕ → Type 0
AsksFor None description ttl = ttl ≡ None
AsksFor (Some epoch) description ttl = asked_ttl description ≡ Some ttl

-- the description that a patch changes
abbrev pub to_be_patched : Option ℕ → Entry → Json
to_be_patched None e = e.description
to_be_patched (Some epoch) e = with_ttl e.times.ttl e.description

-- this description came under this id
abbrev pub IsRegistered : Option ℕ → ℕ → List ℕ → Json → History → Type 0
IsRegistered epoch now id description made =
    (ttl : Option ℕ) × AsksFor epoch description ttl × (made ≡ (now, registered id (as_kept epoch description) ttl) ∷ [])

-- the outcome is that of a change
abbrev pub is_change : Outcome → Bool
is_change (outcome.Created id) = true
is_change outcome.Changed = true
is_change outcome.Deleted = true
is_change o = false

-- The change that a request makes by its outcome, after those before: one, or none.
pub data Makes (epoch : Option ℕ) (r : DirectoryRequest) (before made : History) : Type 0 where
  puts : (description : Json) (is_new : Bool) → act_asked r.request ≡ Some act.Puts → r.outcome ≡ put_outcome is_new
      → tree_of r.request.body ≡ Some description → IsRegistered epoch r.moment (id_in r.request.path) description made → Makes epoch r before made
  creates : (id : List ℕ) (description : Json) → act_asked r.request ≡ Some act.Creates → r.outcome ≡ outcome.Created (Some id)
      → tree_of r.request.body ≡ Some description → IsRegistered epoch r.moment id description made → Makes epoch r before made
  patches : (patch : Json) (e : Entry) → act_asked r.request ≡ Some act.Patches → r.outcome ≡ outcome.Changed → tree_of r.request.body ≡ Some patch
      → entry_at epoch r.moment (id_in r.request.path) before ≡ Some e
      → IsRegistered epoch r.moment (id_in r.request.path) (merge (to_be_patched epoch e) patch) made → Makes epoch r before made
  removes : act_asked r.request ≡ Some act.Removes → r.outcome ≡ outcome.Deleted
      → made ≡ (r.moment, removed (id_in r.request.path)) ∷ [] → Makes epoch r before made
  leaves : is_change r.outcome ≡ false → made ≡ [] → Makes epoch r before made

-- ---- the answer to a request, by what stands

-- A description finds no room under its id: no earlier fault holds, the id is new, and 4,096 stand.
pub record IsPutInVain (epoch : Option ℕ) (id : List ℕ) (description : Json) (standing : Entries) : Type 0 where
  pub asked : (ttl : Option ℕ) × AsksFor epoch description ttl
  pub valid : IsValid (as_kept epoch description)
  pub id_is : id_of (as_kept epoch description) ≡ Some (string id)
  pub new : member_named id standing ≡ None
  pub full : most_entries ≤ length standing

-- And so does one that is to get an id, which is always new.
pub record IsCreatedInVain (epoch : Option ℕ) (description : Json) (standing : Entries) : Type 0 where
  pub asked : (ttl : Option ℕ) × AsksFor epoch description ttl
  pub nameless : id_of (as_kept epoch description) ≡ None
  pub valid : IsValid (as_kept epoch description)
  pub full : most_entries ≤ length standing

pub data FindsNoRoom (epoch : Option ℕ) (q : RequestSeen) (standing : Entries) : Type 0 where
  put_in_vain : (description : Json) → act_asked q ≡ Some act.Puts → IsUnrefused q → tree_of q.body ≡ Some description
      → IsPutInVain epoch (id_in q.path) description standing → FindsNoRoom epoch q standing
  created_in_vain : (description : Json) → act_asked q ≡ Some act.Creates → IsUnrefused q → tree_of q.body ≡ Some description
      → IsCreatedInVain epoch description standing → FindsNoRoom epoch q standing

-- Unless it is out of memory, a request for an entry that isn't refused is given what stands under its id, one for the
-- list the part of what stands that it asks for, and a request is told that the directory is full exactly where it finds
-- no room.
pub record IsAnsweredBy (epoch : Option ℕ) (standing : Entries) (r : DirectoryRequest) : Type 0 where
  pub entry : act_asked r.request ≡ Some act.Shows → IsUnrefused r.request → r.outcome ≢ outcome.Memory
      → r.outcome ≡ shown (member_named (id_in r.request.path) standing) r.request.accept
  pub list : act_asked r.request ≡ Some act.Lists → IsUnrefused r.request → r.outcome ≢ outcome.Memory
      → r.outcome ≡ listed_by (window_of r.request.query) standing
  pub full : r.outcome ≢ outcome.Memory → (r.outcome ≡ outcome.DirectoryFull) ↔ FindsNoRoom epoch r.request standing

-- Each request is answered by what stands after the changes of those before it.
abbrev pub AreAnswered : Option ℕ → History → List DirectoryRequest → Type 0
AreAnswered epoch history [] = Unit {0}
AreAnswered epoch history (r ∷ later) =
    (standing : Entries) × AreStanding epoch r.moment history standing × IsAnsweredBy epoch standing r
    × ((made : History) × Makes epoch r history made × AreAnswered epoch (made ++ history) later)

-- ---- the sentence

-- "The directory gives out exactly what stands, and it is full exactly where 4,096 stand and one more would come."
abbrev pub DirectoryGivesOutWhatStands : Type 0
DirectoryGivesOutWhatStands =
    (site : Site) (exchanges : ℕ) (epoch : Option ℕ) (took : List EventWithBytes) (t : State) (seen : List Sighting)
    → (run : Run site took (start site exchanges epoch) seen t)
    → AreAnswered epoch [] (requests_in site took (start site exchanges epoch) t seen run)
