-- Each request to the directory in a run is answered by what stands.
use Rattle.std.proofs.Common.{arith, ◌≡◌, ◌≤◌, ℕ, List, [], ◌∷◌, ◌++◌, max, refl, sym, ap, subst, inl, inr}
use Rattle.std.specs.Prelude.{Option, Some, None}
use Rattle.std.proofs.lemmas.List.{append-nil, append_assoc}
use Rattle.servient_base.specs.Moves.{is_done, goes_on}
use Rattle.wot_directory.specs.Directory.{empty_directory}
use Rattle.wot_registry.specs.Registry.{empty_registry}
use Rattle.wot_registry.specs.Laws.{History, begins}
use Rattle.thing_ops.specs.declared.outcome.Outcome.{Outcome}
use Rattle.thing_ops.specs.Requests.{RequestSeen}
use Rattle.thing_core.specs.Thing.{Done}
use Rattle.directory_requests.specs.declared.server.ServedEntries.{ServedEntries}
use Rattle.directory_requests.specs.Requests.{DirectoryActs}
use Rattle.http_bind.specs.Streams.{Taken, asks, wants_continue, is_faulty, interrupts}
use Rattle.servient_outside.specs.declared.net.What.{What}
use Rattle.servient_outside.specs.declared.net.What.TheVariants as what
use Rattle.servient_outside.specs.declared.net.EventWithBytes.{EventWithBytes}
use Rattle.servient_trace.specs.Trace.{Sighting}
use Rattle.thing_site.specs.Site.{events_of}
use Rattle.servient_core.specs.Machine.{Site, State, start, PerformsByHttp, AnswersTaken, TakesEveryMessage, Follows, Run}
use Rattle.servient_laws.specs.DirectoryRuns.{DirectoryRequest, requests_of_request, requests_of_taken, requests_of_messages, requests_of_event, requests_in, AreAnswered, DirectoryGivesOutWhatStands}
use Rattle.servient_laws.proofs.DirectoryAnswers.{HasCome, later_come, GoesOn}
use Rattle.servient_laws.proofs.DirectoryTimed.{timed_request}
use Rattle.servient_laws.proofs.DirectoryUntimed.{untimed_request}
use Rattle.servient_laws.proofs.DirectorySteps.{SameDirectory, same_as, same_state, then_same, delivers_each_same, if_any_same, all_polls_same, datagram_same, ends_same}

-- the state has the entries of these changes
abbrev Has : Option ℕ → History → State → Type 0
Has epoch history s = HasCome epoch s.moment history s.directory

-- From one state to another these requests came: they are answered, and those after them are if they are by what is there
-- then.
abbrev Leads : Option ℕ → State → List DirectoryRequest → State → Type 0
Leads epoch s came t =
    (history : History) → Has epoch history s → (later : List DirectoryRequest)
    → ((after : History) → Has epoch after t → AreAnswered epoch after later) → AreAnswered epoch history (came ++ later)

leads_then : (epoch : Option ℕ) (s m t : State) (a b : List DirectoryRequest) → Leads epoch s a m → Leads epoch m b t → Leads epoch s (a ++ b) t
leads_then epoch s m t a b one other history has later rest =
    subst (λ (rs : List DirectoryRequest). AreAnswered epoch history rs) (sym (append_assoc a b later))
    (one history has (b ++ later) (λ after there. other after there later rest))

-- none came
leads_same : (epoch : Option ℕ) (s t : State) → t.directory ≡ s.directory → s.moment ≤ t.moment → Leads epoch s [] t
leads_same epoch s t directory from history has later rest =
    rest history (subst (λ (d : ServedEntries). HasCome epoch t.moment history d) (sym directory) (later_come epoch s.moment t.moment history s.directory from has))

leads_left : (epoch : Option ℕ) (s t : State) → SameDirectory s t → Leads epoch s [] t
leads_left epoch s t same = let moment = same.moment in leads_same epoch s t same.directory (omega (arith, moment))

-- and then none came
leads_and : (epoch : Option ℕ) (s m t : State) (a : List DirectoryRequest) → Leads epoch s a m → SameDirectory m t → Leads epoch s a t
leads_and epoch s m t a one same history has later rest =
    one history has later (λ after there. leads_left epoch m t same after there later rest)

-- ---- one request

answered : (epoch : Option ℕ) (now : ℕ) (history : History) (q : RequestSeen) (o : Outcome) (d t : ServedEntries) → HasCome epoch now history d → DirectoryActs q now o d t → GoesOn epoch now history q o t
answered None now history q o d t (c, is, ordered, named) does =
    untimed_request now history c ordered named q o t (subst (λ (x : ServedEntries). DirectoryActs q now o x t) is does)
answered (Some epoch) now history q o d t (r, last, is, from, comes) does =
    timed_request epoch last now history r comes from q o t (subst (λ (x : ServedEntries). DirectoryActs q now o x t) is does)

request_leads : (epoch : Option ℕ) (site : Site) (q : RequestSeen) (done : Done) (s t : State) (seen : List Sighting) (p : PerformsByHttp site q done s seen t) → Leads epoch s (requests_of_request site q done s t seen p) t
request_leads epoch site q done s t seen (inl directory) history has later rest =
    let changed = directory.1.0 in
    let does = directory.1.1 in
    let becomes = directory.1.3 in
    let goes = answered epoch s.moment history q done.outcome s.directory changed has does in
    let directory : t.directory ≡ changed = ap (λ (x : State). x.directory) becomes.next in
    let moment : t.moment ≡ s.moment = ap (λ (x : State). x.moment) becomes.next in (
      goes.0,
      goes.1,
      goes.2,
      (
        goes.3.0,
        goes.3.1,
        rest (goes.3.0 ++ history)
            (subst (λ (d : ServedEntries). HasCome epoch t.moment (goes.3.0 ++ history) d) (sym directory)
            (subst (λ (n : ℕ). HasCome epoch n (goes.3.0 ++ history) changed) (sym moment) goes.3.2)),
      ),
    )
request_leads epoch site q done s t seen (inr things) history has later rest =
    leads_left epoch s t (same_as s (record s { thing = things.1.0 }) t things.1.3.next refl refl) history has later rest

-- ---- messages

taken_leads : (epoch : Option ℕ) (site : Site) (c : ℕ) (taken : Taken) (s t : State) (seen : List Sighting) (p : AnswersTaken site c taken s seen t) → Leads epoch s (requests_of_taken site c taken s t seen p) t
taken_leads epoch site c (asks q) s t seen (done, w) =
    let written = w.other.one.1 in
    leads_and epoch s w.mid t (requests_of_request site q done s w.mid w.first w.one) (request_leads epoch site q done s w.mid w.first w.one)
    (then_same w.mid w.other.mid t
    (then_same w.mid written.mid w.other.mid (same_as w.mid (record w.mid { http = written.one.0 }) written.mid written.one.2.next refl refl)
    (if_any_same c w.other.one.0 written.mid w.other.mid written.second written.other))
    (delivers_each_same done.emissions w.other.mid t w.other.second w.other.other))
taken_leads epoch site c wants_continue s t seen w =
    leads_left epoch s t (then_same s w.1.mid t (same_as s (record s { http = w.1.one.0 }) w.1.mid w.1.one.2.next refl refl) (same_state w.1.mid t w.1.other.next))
taken_leads epoch site c (is_faulty status) s t seen w =
    leads_left epoch s t (then_same s w.1.mid t (same_as s (record s { http = w.1.one.0 }) w.1.mid w.1.one.2.next refl refl) (same_state w.1.mid t w.1.other.next))
taken_leads epoch site c interrupts s t seen does = leads_left epoch s t (same_state s t does.next)

messages_lead : (epoch : Option ℕ) (site : Site) (c : ℕ) (s t : State) (seen : List Sighting) (p : TakesEveryMessage site c s seen t) → Leads epoch s (requests_of_messages site c s t seen p) t
messages_lead epoch site c s t seen (is_done s' seen' t' done stays) = leads_left epoch s t (same_state s t stays.next)
messages_lead epoch site c s t seen (goes_on s' mid t' seen' first second one more whole) =
    let w = one.1 in
    leads_then epoch s mid t (requests_of_taken site c one.0 w.mid mid w.second w.other) (requests_of_messages site c mid t second more)
    (λ history has. taken_leads epoch site c one.0 w.mid mid w.second w.other history
    (came_on history has w.mid (same_as s (record s { http = w.one.0 }) w.mid w.one.2.next refl refl)))
    (messages_lead epoch site c mid t second more)
  where
    came_on : (history : History) → Has epoch history s → (m : State) → SameDirectory s m → Has epoch history m
    came_on history has m same =
        subst (λ (d : ServedEntries). HasCome epoch m.moment history d) (sym same.directory) (subst (λ (n : ℕ). HasCome epoch n history s.directory) (sym same.moment) has)

-- ---- events

event_leads : (epoch : Option ℕ) (site : Site) (w : What) (bytes : List ℕ) (s t : State) (seen : List Sighting) (p : Follows site w bytes s seen t) → Leads epoch s (requests_of_event site w bytes s t seen p) t
event_leads epoch site (what.Opened c) bytes s t seen w = leads_left epoch s t (same_as s (record s { http = w.0 }) t w.2.next refl refl)
event_leads epoch site (what.Bytes c size) bytes s t seen w =
    leads_then epoch s w.mid t [] (requests_of_messages site c w.mid t w.second w.other)
    (leads_left epoch s w.mid (same_as s (record s { http = w.one.0 }) w.mid w.one.2.next refl refl))
    (messages_lead epoch site c w.mid t w.second w.other)
event_leads epoch site (what.Ended c) bytes s t seen w = leads_left epoch s t (same_as s (record s { http = w.0 }) t w.2.next refl refl)
event_leads epoch site (what.Datagram from size) bytes s t seen w = leads_left epoch s t (datagram_same site from bytes s t seen w)
event_leads epoch site what.Tick bytes s t seen w = leads_left epoch s t (all_polls_same (events_of site.things) s t seen w)
event_leads epoch site what.Stop bytes s t seen stays = leads_left epoch s t (same_state s t stays.next)

abbrev at_event : State → EventWithBytes → State
at_event s e = record s { moment = max s.moment e.event.moment }

run_leads : (epoch : Option ℕ) (site : Site) (took : List EventWithBytes) (s t : State) (seen : List Sighting) (run : Run site took s seen t) → Leads epoch s (requests_in site took s t seen run) t
run_leads epoch site [] s t seen stays = leads_left epoch s t (same_state s t stays.next)
run_leads epoch site (e ∷ es) s t seen w =
    let heard = w.one.mid in
    let step = w.one.other in
    leads_then epoch s w.mid t
    (requests_of_event site e.event.what e.bytes (at_event heard e) step.mid step.first step.one) (requests_in site es w.mid t w.second w.other)
    (leads_and epoch s step.mid w.mid _
    (leads_then epoch s (at_event heard e) step.mid [] (requests_of_event site e.event.what e.bytes (at_event heard e) step.mid step.first step.one)
    (leads_same epoch s (at_event heard e) (ap (λ (x : State). x.directory) w.one.one.next) (later heard e (ap (λ (x : State). x.moment) w.one.one.next)))
    (event_leads epoch site e.event.what e.bytes (at_event heard e) step.mid step.first step.one))
    (ends_same step.mid w.mid step.second step.other))
    (run_leads epoch site es w.mid t w.second w.other)
  where
    later : (heard : State) (e : EventWithBytes) → heard.moment ≡ s.moment → s.moment ≤ max heard.moment e.event.moment
    later heard e same = omega (arith, same)

-- ---- the law

begins_so : (site : Site) (exchanges : ℕ) (epoch : Option ℕ) → Has epoch [] (start site exchanges epoch)
begins_so site exchanges None = (empty_directory, refl, tt, λ id. refl)
begins_so site exchanges (Some epoch) = (empty_registry epoch, 0, refl, omega arith, begins (empty_registry epoch) refl)

pub directory_gives_out_what_stands : DirectoryGivesOutWhatStands
directory_gives_out_what_stands site exchanges epoch took t seen run =
    let requests = requests_in site took (start site exchanges epoch) t seen run in
    subst (λ (rs : List DirectoryRequest). AreAnswered epoch [] rs) (append-nil requests)
    (run_leads epoch site took (start site exchanges epoch) t seen run [] (begins_so site exchanges epoch) [] (λ after there. tt))
