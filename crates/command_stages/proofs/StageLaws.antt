-- Laws of stages and of what is seen of them.
use Rattle.std.proofs.Common.{◌≡◌, ◌≤◌, ◌⊎◌, ℕ, List, [], ◌∷◌, ◌++◌, length, refl, sym, ap, subst, ◌∙◌, arith, inl, inr}
use Rattle.std.proofs.lemmas.Grind.{flat_map-append}
use Rattle.std.proofs.lemmas.List.Elements.{filter_map-append}
use Rattle.std.specs.Prelude.{Result, Ok, Err, map, IfOk, MatchResult}
use Rattle.std.specs.declared.alloc.AllocError.{AllocError}
use Rattle.std.proofs.lemmas.List.{append-nil}
use Rattle.thing_handler.specs.Handler.{Seen}
use Rattle.thing_handler.specs.Turns.{HandlerCall, RackShows}
use Rattle.thing_handler.proofs.RackLaws.{rack_shows_none}
use Rattle.servient_outside.specs.Network.{Happening, NetSeen, NetShows}
use Rattle.servient_outside.proofs.NetLaws.{net_shows_none}
use Rattle.servient_trace.specs.Trace.{Sighting, at_network, at_handler, happened_in, calls_in, Outside, outside, Shows}
use Rattle.servient_trace.specs.ShownSections.{Shown, saw, forgot, seen_in, shown_of, ShowsInSections, section}
use Rattle.servient_trace.proofs.ShownLaws.{sections_in_order, sections_net, seen_of_shown}
use Rattle.servient_outside.specs.declared.files.FileRead.{FileRead}
use Rattle.servient_outside.specs.Told.{Continues}
use Rattle.servient_outside.proofs.ToldLaws.{continues_same, continues_then}
use Rattle.command_stages.specs.declared.ending.Ending.{Ending}
use Rattle.command_stages.specs.declared.ending.Ended.{Ended}
use Rattle.command_stages.specs.declared.ending.Ended.TheVariants as ended
use Rattle.command_stages.specs.Lines.{memory_line}
use Rattle.servient_base.specs.Count.{Rose}
use Rattle.command_stages.specs.Stages.{Deed, did_read, did_fail, did_see, did_forget, did_write, sees, shows_all, HasFailed, reads_in, sightings_in, text_in, Outcome, goes_on, ends, AndThen, ends_first, goes_further, Around, around, ShowsDeeds, read_in, showing_in, showings_in, written_in}
use Rattle.servient_outside.specs.Files.{FilesSeen, NoReadFailed}
use Rattle.servient_outside.proofs.FilesLaws.{no_read_failed_same, no_read_failed_then}
use Rattle.command_stages.specs.Ending.{ComesOut, Performs, Finishes, EndsBy, status_of, text_of, final_status, final_text}

failed_before : (a b : List Deed) → HasFailed (a ++ b) → HasFailed a ⊎ HasFailed b
failed_before [] b failed = inr failed
failed_before (did_read file ∷ a) b failed = failed_before a b failed
failed_before (did_fail file ∷ a) b failed = inl tt
failed_before (did_see sighting ∷ a) b failed = failed_before a b failed
failed_before (did_forget ∷ a) b failed = failed_before a b failed
failed_before (did_write text ∷ a) b failed = failed_before a b failed

-- a count that rose has still risen later
rose_then : (a b c : ℕ) → Rose a b → b ≤ c → Rose a c
rose_then a b c rose more = omega (arith, rose, more)

then_rose : (a b c : ℕ) → a ≤ b → Rose b c → Rose a c
then_rose a b c more rose = omega (arith, rose, more)

-- a line alone is all that is written
pub line_alone : (line : List ℕ) → text_in (did_write line ∷ []) ≡ line
line_alone line = append-nil line

-- the deeds that are shown where only a text was written, and where nothing was done
pub shows_wrote : (a : Around) (text : List ℕ) → ShowsDeeds a a (did_write text ∷ [])
shows_wrote a text = record { reads = continues_same a.files.reads; faults = omega arith; failed = λ none. absurd none; no_failure = no_read_failed_same a.files; outside = sections_in_order.none a.outside }

pub shows_nothing : (a : Around) → ShowsDeeds a a []
shows_nothing a = record { reads = continues_same a.files.reads; faults = omega arith; failed = λ none. absurd none; no_failure = no_read_failed_same a.files; outside = sections_in_order.none a.outside }

-- deeds that are shown at one time and then at another
pub shows_then : (a b c : Around) (first second : List Deed) → ShowsDeeds a b first → ShowsDeeds b c second → ShowsDeeds a c (first ++ second)
shows_then a b c first second p q = record {
  reads = subst (λ (files : List FileRead). Continues a.files.reads c.files.reads files) (sym (filter_map-append read_in first second))
      (continues_then a.files.reads b.files.reads c.files.reads (reads_in first) (reads_in second) p.reads q.reads);
  faults = omega (arith, p.faults, q.faults);
  failed = λ failed. elim (failed_before first second failed) [
    | inl before ↦ rose_then a.files.faults b.files.faults c.files.faults (p.failed before) q.faults
    | inr after ↦ then_rose a.files.faults b.files.faults c.files.faults p.faults (q.failed after)
  ];
  no_failure = no_read_failed_then a.files b.files c.files p.no_failure q.no_failure;
  outside = subst (λ (showings : List Shown). ShowsInSections a.outside c.outside showings) (sym (filter_map-append showing_in first second))
      (sections_in_order.more a.outside b.outside c.outside (showings_in first) (showings_in second) p.outside q.outside);
}

-- a file was read; a read failed; there was none
pub shows_read : (before now : FilesSeen) (w : Outside) (file : FileRead) → Continues before.reads now.reads (file ∷ []) → before.faults ≤ now.faults → NoReadFailed before now → ShowsDeeds (around before w) (around now w) (did_read file ∷ [])
shows_read before now w file reads faults never = record { reads = reads; faults = faults; failed = λ none. absurd none; no_failure = never; outside = sections_in_order.none w }

pub shows_failed : (before now : FilesSeen) (w : Outside) (file : FileRead) → Continues before.reads now.reads (file ∷ []) → before.faults ≤ now.faults → Rose before.faults now.faults → NoReadFailed before now → ShowsDeeds (around before w) (around now w) (did_fail file ∷ [])
shows_failed before now w file reads faults rose never = record { reads = reads; faults = faults; failed = λ failed. rose; no_failure = never; outside = sections_in_order.none w }

pub shows_no_read : (before now : FilesSeen) (w : Outside) → Continues before.reads now.reads [] → before.faults ≤ now.faults → NoReadFailed before now → ShowsDeeds (around before w) (around now w) []
shows_no_read before now w reads faults never = record { reads = reads; faults = faults; failed = λ none. absurd none; no_failure = never; outside = sections_in_order.none w }

-- ---- stages that go on, or write a line at the end

pub goes_after : {A : Type 0} (P : List Deed → Outcome A → Type 0) (a b : Around) (first : List Deed) (value : A) → ShowsDeeds a b first → text_in first ≡ [] → P first (goes_on value) → ComesOut P a b (goes_on value) []
goes_after P a b first value shows quiet stage = record { seen = first; stage = stage; shows = shows; text_is = quiet }

pub goes_quietly : {A : Type 0} (P : List Deed → Outcome A → Type 0) (a : Around) (value : A) → P [] (goes_on value) → ComesOut P a a (goes_on value) []
goes_quietly P a value stage = goes_after P a a [] value (shows_nothing a) refl stage

text_after : (first : List Deed) (line : List ℕ) → text_in first ≡ [] → text_in (first ++ did_write line ∷ []) ≡ line
text_after first line quiet = flat_map-append written_in first (did_write line ∷ []) ∙ ap (λ (more : List ℕ). more ++ text_in (did_write line ∷ [])) quiet ∙ line_alone line

pub ends_after : {A : Type 0} (P : List Deed → Outcome A → Type 0) (a b : Around) (first : List Deed) (ending : Ending) (status : ℕ) (line : List ℕ) → ShowsDeeds a b first → text_in first ≡ [] → (ending.status ≡ status) × (ending.text ≡ line)
    → P (first ++ did_write line ∷ []) (ends status) → ComesOut P a b (ends ending.status) ending.text
ends_after P a b first ending status line shows quiet is stage = record {
  seen = first ++ did_write line ∷ [];
  stage = subst (λ (n : ℕ). P (first ++ did_write line ∷ []) (ends n)) (sym is.0) stage;
  shows = shows_then a b b first (did_write line ∷ []) shows (shows_wrote b line);
  text_is = text_after first line quiet ∙ sym is.1;
}

pub memory_after : {A : Type 0} (P : List Deed → Outcome A → Type 0) (a b : Around) (first : List Deed) → ShowsDeeds a b first → text_in first ≡ [] → P (first ++ did_write memory_line ∷ []) (ends 9) → ComesOut P a b (ends 9) memory_line
memory_after P a b first shows quiet stage = record {
  seen = first ++ did_write memory_line ∷ [];
  stage = stage;
  shows = shows_then a b b first (did_write memory_line ∷ []) shows (shows_wrote b memory_line);
  text_is = text_after first memory_line quiet;
}

pub ends_line : {A : Type 0} (P : List Deed → Outcome A → Type 0) (a : Around) (ending : Ending) (status : ℕ) (line : List ℕ) → (ending.status ≡ status) × (ending.text ≡ line)
    → P (did_write line ∷ []) (ends status) → ComesOut P a a (ends ending.status) ending.text
ends_line P a ending status line is stage = ends_after P a a [] ending status line (shows_nothing a) refl is stage

pub ends_memory : {A : Type 0} (P : List Deed → Outcome A → Type 0) (a : Around) → P (did_write memory_line ∷ []) (ends 9) → ComesOut P a a (ends 9) memory_line
ends_memory P a stage = memory_after P a a [] (shows_nothing a) refl stage

-- ---- the arms of stages

-- a stage that did this, and then writes a line, or is out of memory
pub writes_after : {A : Type 0} (P : List Deed → Outcome A → Type 0) (a b : Around) (first : List Deed) (r : Result Ending AllocError) (e : Ended) (status : ℕ) (line : List ℕ) → ShowsDeeds a b first → text_in first ≡ [] → IfOk r (λ x. (x.status ≡ status) × (x.text ≡ line)) → MatchResult r (λ x. e ≡ ended.With x) (λ _. e ≡ ended.NoMemory)
    → P (first ++ did_write line ∷ []) (ends status) → P (first ++ did_write memory_line ∷ []) (ends 9) → Performs P a b (Err e)
writes_after {A} P a b first (Ok ending) e status line shows quiet is comes stage memory = subst (λ (x : Ended). Performs P a b (Err x)) (sym comes) (ends_after P a b first ending status line shows quiet is stage)
writes_after {A} P a b first (Err none) e status line shows quiet is comes stage memory = subst (λ (x : Ended). Performs P a b (Err x)) (sym comes) (memory_after P a b first shows quiet memory)

pub writes_line : {A : Type 0} (P : List Deed → Outcome A → Type 0) (a : Around) (r : Result Ending AllocError) (e : Ended) (status : ℕ) (line : List ℕ) → IfOk r (λ x. (x.status ≡ status) × (x.text ≡ line)) → MatchResult r (λ x. e ≡ ended.With x) (λ _. e ≡ ended.NoMemory)
    → P (did_write line ∷ []) (ends status) → P (did_write memory_line ∷ []) (ends 9) → Performs P a a (Err e)
writes_line P a r e status line is comes stage memory = writes_after P a a [] r e status line (shows_nothing a) refl is comes stage memory

pub finishes_line : (P : List Deed → Outcome (Unit {0}) → Type 0) (a : Around) (r : Result Ending AllocError) (status : ℕ) (line : List ℕ) → IfOk r (λ x. (x.status ≡ status) × (x.text ≡ line))
    → P (did_write line ∷ []) (ends status) → P (did_write memory_line ∷ []) (ends 9) → Finishes P a a r
finishes_line P a (Ok ending) status line is stage memory = ends_line P a ending status line is stage
finishes_line P a (Err none) status line is stage memory = ends_memory P a memory

-- ---- one stage and then the next

pub first_ends : {A B : Type 0} (P : List Deed → Outcome A → Type 0) (Q : A → List Deed → Outcome B → Type 0) (a b : Around) (status : ℕ) (text : List ℕ) → ComesOut P a b (ends status) text → ComesOut (AndThen P Q) a b (ends status) text
first_ends P Q a b status text p = record { seen = p.seen; stage = ends_first status p.stage refl; shows = p.shows; text_is = p.text_is }

pub second_comes : {A B : Type 0} (P : List Deed → Outcome A → Type 0) (Q : A → List Deed → Outcome B → Type 0) (a b c : Around) (value : A) (o : Outcome B) (text : List ℕ) → ComesOut P a b (goes_on value) [] → ComesOut (Q value) b c o text → ComesOut (AndThen P Q) a c o text
second_comes P Q a b c value o text p q = record {
  seen = p.seen ++ q.seen;
  stage = goes_further (value, record { mid = tt; first = p.seen; second = q.seen; one = p.stage; other = q.stage; whole = refl });
  shows = shows_then a b c p.seen q.seen p.shows q.shows;
  text_is = flat_map-append written_in p.seen q.seen ∙ ap (λ (before : List ℕ). before ++ text_in q.seen) p.text_is ∙ q.text_is;
}

pub then_ends : {A : Type 0} (P : List Deed → Outcome A → Type 0) (Q : A → List Deed → Outcome (Unit {0}) → Type 0) (a b c : Around) (value : A) (r : Result Ending Ended) → ComesOut P a b (goes_on value) [] → EndsBy (Q value) b c r → EndsBy (AndThen P Q) a c r
then_ends P Q a b c value (Ok ending) p q = second_comes P Q a b c value (ends ending.status) ending.text p q
then_ends P Q a b c value (Err e) p q = second_comes P Q a b c value (ends (status_of e)) (text_of e) p q

-- the error of a stage ends the whole
pub error_ends : {A : Type 0} (P : List Deed → Outcome A → Type 0) (Q : A → List Deed → Outcome (Unit {0}) → Type 0) (a b : Around) (e : Ended) → Performs P a b (Err e) → EndsBy (AndThen P Q) a b (Err e)
error_ends P Q a b e p = first_ends P Q a b (status_of e) (text_of e) p

pub then_performs : {A B : Type 0} (P : List Deed → Outcome A → Type 0) (Q : A → List Deed → Outcome B → Type 0) (a b c : Around) (value : A) (r : Result B Ended) → ComesOut P a b (goes_on value) [] → Performs (Q value) b c r → Performs (AndThen P Q) a c r
then_performs P Q a b c value (Ok further) p q = second_comes P Q a b c value (goes_on further) [] p q
then_performs P Q a b c value (Err e) p q = second_comes P Q a b c value (ends (status_of e)) (text_of e) p q

pub error_performs : {A B : Type 0} (P : List Deed → Outcome A → Type 0) (Q : A → List Deed → Outcome B → Type 0) (a b : Around) (e : Ended) → Performs P a b (Err e) → Performs (AndThen P Q) a b (Err e)
error_performs P Q a b e p = first_ends P Q a b (status_of e) (text_of e) p

-- the result of the last stage, as that of a command
pub finished : (P : List Deed → Outcome (Unit {0}) → Type 0) (a b : Around) (r : Result Ending AllocError) (ending : Ending) → r ≡ Ok ending → Finishes P a b r → EndsBy P a b (Ok ending)
finished P a b r ending is p = subst (λ (x : Result Ending AllocError). Finishes P a b x) is p

-- however a stage comes out that is the last of a command
pub ends_so : (P : List Deed → Outcome (Unit {0}) → Type 0) (a b : Around) (r : Result Ending Ended) → EndsBy P a b r → ComesOut P a b (ends (final_status r)) (final_text r)
ends_so P a b (Ok ending) p = p
ends_so P a b (Err e) p = p

-- ---- what is seen at the network and at the handlers, and then what is written

seen_alone : (seen : List Sighting) → showings_in (sees seen) ≡ shown_of seen
seen_alone [] = refl
seen_alone (sighting ∷ seen) = ap (λ (more : List Shown). saw sighting ∷ more) (seen_alone seen)

no_reads : (seen : List Sighting) → reads_in (sees seen) ≡ []
no_reads [] = refl
no_reads (sighting ∷ seen) = no_reads seen

pub no_text : (seen : List Sighting) → text_in (sees seen) ≡ []
no_text [] = refl
no_text (sighting ∷ seen) = no_text seen

none_failed : (seen : List Sighting) → HasFailed (sees seen) → ⊥
none_failed [] failed = failed
none_failed (sighting ∷ seen) failed = none_failed seen failed

pub shows_seen : (files : FilesSeen) (w v : Outside) (seen : List Sighting) → Shows w v seen → ShowsDeeds (around files w) (around files v) (sees seen)
shows_seen files w v seen shows = record {
  reads = subst (λ (made : List FileRead). Continues files.reads files.reads made) (sym (no_reads seen)) (continues_same files.reads);
  faults = omega arith;
  failed = λ failed. absurd (none_failed seen failed);
  no_failure = no_read_failed_same files;
  outside = section w v (showings_in (sees seen)) seen (seen_alone seen) shows;
}

-- the network shows what was seen of it, whatever was forgotten
pub seen_among : (seen : List Deed) → seen_in (showings_in seen) ≡ sightings_in seen
seen_among [] = refl
seen_among (did_read file ∷ seen) = seen_among seen
seen_among (did_fail file ∷ seen) = seen_among seen
seen_among (did_see sighting ∷ seen) = ap (λ (more : List Sighting). sighting ∷ more) (seen_among seen)
seen_among (did_forget ∷ seen) = seen_among seen
seen_among (did_write text ∷ seen) = seen_among seen

pub shows_net : (a b : Around) (seen : List Deed) → ShowsDeeds a b seen → NetShows a.outside.net b.outside.net (happened_in (sightings_in seen))
shows_net a b seen shows =
    subst (λ (x : List Sighting). NetShows a.outside.net b.outside.net (happened_in x)) (seen_among seen) (sections_net a.outside b.outside (showings_in seen) shows.outside)

-- ---- what is shown in sections, and then what is written

showings_alone : (shown : List Shown) → showings_in (shows_all shown) ≡ shown
showings_alone [] = refl
showings_alone (saw sighting ∷ shown) = ap (λ (more : List Shown). saw sighting ∷ more) (showings_alone shown)
showings_alone (forgot ∷ shown) = ap (λ (more : List Shown). forgot ∷ more) (showings_alone shown)

no_reads_shown : (shown : List Shown) → reads_in (shows_all shown) ≡ []
no_reads_shown [] = refl
no_reads_shown (saw sighting ∷ shown) = no_reads_shown shown
no_reads_shown (forgot ∷ shown) = no_reads_shown shown

no_text_shown : (shown : List Shown) → text_in (shows_all shown) ≡ []
no_text_shown [] = refl
no_text_shown (saw sighting ∷ shown) = no_text_shown shown
no_text_shown (forgot ∷ shown) = no_text_shown shown

none_failed_shown : (shown : List Shown) → HasFailed (shows_all shown) → ⊥
none_failed_shown [] failed = failed
none_failed_shown (saw sighting ∷ shown) failed = none_failed_shown shown failed
none_failed_shown (forgot ∷ shown) failed = none_failed_shown shown failed

shows_shown : (files : FilesSeen) (w v : Outside) (shown : List Shown) → ShowsInSections w v shown → ShowsDeeds (around files w) (around files v) (shows_all shown)
shows_shown files w v shown shows = record {
  reads = subst (λ (made : List FileRead). Continues files.reads files.reads made) (sym (no_reads_shown shown)) (continues_same files.reads);
  faults = omega arith;
  failed = λ failed. absurd (none_failed_shown shown failed);
  no_failure = no_read_failed_same files;
  outside = subst (λ (made : List Shown). ShowsInSections w v made) (sym (showings_alone shown)) shows;
}

-- a run was shown in sections, and then a text was written with which the command ends
pub sections_end : {A : Type 0} (P : List Deed → Outcome A → Type 0) (files : FilesSeen) (w v : Outside) (shown : List Shown) (status : ℕ) (line text : List ℕ) → ShowsInSections w v shown → text ≡ line
    → P (shows_all shown ++ did_write line ∷ []) (ends status) → ComesOut P (around files w) (around files v) (ends status) text
sections_end P files w v shown status line text shows is stage = record {
  seen = shows_all shown ++ did_write line ∷ [];
  stage = stage;
  shows = shows_then (around files w) (around files v) (around files v) (shows_all shown) (did_write line ∷ []) (shows_shown files w v shown shows) (shows_wrote (around files v) line);
  text_is = text_after (shows_all shown) line (no_text_shown shown) ∙ sym is;
}

-- ---- what is seen, and then what is written

-- something was seen, and then a text was written with which the command ends
pub seen_end : {A : Type 0} (P : List Deed → Outcome A → Type 0) (files : FilesSeen) (w v : Outside) (seen : List Sighting) (status : ℕ) (line text : List ℕ) → Shows w v seen → text ≡ line
    → P (sees seen ++ did_write line ∷ []) (ends status) → ComesOut P (around files w) (around files v) (ends status) text
seen_end P files w v seen status line text shows is stage = record {
  seen = sees seen ++ did_write line ∷ [];
  stage = stage;
  shows = shows_then (around files w) (around files v) (around files v) (sees seen) (did_write line ∷ []) (shows_seen files w v seen shows) (shows_wrote (around files v) line);
  text_is = text_after (sees seen) line (no_text seen) ∙ sym is;
}

-- ---- what happens at the network

happened_alone : (happened : List Happening) → happened_in (map (λ h. at_network h) happened) ≡ happened
happened_alone [] = refl
happened_alone (h ∷ happened) = ap (λ (more : List Happening). h ∷ more) (happened_alone happened)

no_calls : (happened : List Happening) → calls_in (map (λ h. at_network h) happened) ≡ []
no_calls [] = refl
no_calls (h ∷ happened) = no_calls happened

-- while no handler is called
pub shows_network : (n m : NetSeen) (slots : List Seen) (happened : List Happening) → NetShows n m happened → Shows (outside n slots) (outside m slots) (map (λ h. at_network h) happened)
shows_network n m slots happened shows = record {
  net = subst (λ (all : List Happening). NetShows n m all) (sym (happened_alone happened)) shows;
  rack = subst (λ (calls : List HandlerCall). RackShows slots slots calls) (sym (no_calls happened)) (rack_shows_none slots);
}

-- and then the stage gives a value
pub happens_goes : {A : Type 0} (P : List Deed → Outcome A → Type 0) (files : FilesSeen) (n m : NetSeen) (slots : List Seen) (happened : List Happening) (value : A) → NetShows n m happened → P (sees (map (λ h. at_network h) happened)) (goes_on value)
    → ComesOut P (around files (outside n slots)) (around files (outside m slots)) (goes_on value) []
happens_goes P files n m slots happened value shows stage =
    let seen = map (λ h. at_network h) happened in
    goes_after P (around files (outside n slots)) (around files (outside m slots)) (sees seen) value (shows_seen files (outside n slots) (outside m slots) seen (shows_network n m slots happened shows)) (no_text seen) stage

-- or a text is written with which the command ends
pub happens_end : {A : Type 0} (P : List Deed → Outcome A → Type 0) (files : FilesSeen) (n m : NetSeen) (slots : List Seen) (happened : List Happening) (status : ℕ) (line : List ℕ) → NetShows n m happened → P (sees (map (λ h. at_network h) happened) ++ did_write line ∷ []) (ends status)
    → ComesOut P (around files (outside n slots)) (around files (outside m slots)) (ends status) line
happens_end P files n m slots happened status line shows stage =
    seen_end P files (outside n slots) (outside m slots) (map (λ h. at_network h) happened) status line line (shows_network n m slots happened shows) refl stage

-- ---- calls of handlers, and then what is written

pub handlers_alone : (calls : List HandlerCall) → calls_in (map (λ call. at_handler call) calls) ≡ calls
handlers_alone [] = refl
handlers_alone (call ∷ calls) = ap (λ (more : List HandlerCall). call ∷ more) (handlers_alone calls)

nothing_there : (calls : List HandlerCall) → happened_in (map (λ call. at_handler call) calls) ≡ []
nothing_there [] = refl
nothing_there (call ∷ calls) = nothing_there calls

-- calls of handlers, while nothing happens at the network
pub shows_handlers : (net : NetSeen) (before now : List Seen) (calls : List HandlerCall) → RackShows before now calls → Shows (outside net before) (outside net now) (map (λ call. at_handler call) calls)
shows_handlers net before now calls shows = record {
  net = subst (λ (happened : List Happening). NetShows net net happened) (sym (nothing_there calls)) (net_shows_none net);
  rack = subst (λ (made : List HandlerCall). RackShows before now made) (sym (handlers_alone calls)) shows;
}

-- handlers were called, and then a text was written with which the command ends
pub calls_end : {A : Type 0} (P : List Deed → Outcome A → Type 0) (files : FilesSeen) (net : NetSeen) (before now : List Seen) (calls : List HandlerCall) (status : ℕ) (line text : List ℕ) → RackShows before now calls → text ≡ line
    → P (sees (map (λ call. at_handler call) calls) ++ did_write line ∷ []) (ends status) → ComesOut P (around files (outside net before)) (around files (outside net now)) (ends status) text
calls_end P files net before now calls status line text shows is stage =
    seen_end P files (outside net before) (outside net now) (map (λ call. at_handler call) calls) status line text (shows_handlers net before now calls shows) is stage

-- and two texts
pub calls_end_twice : {A : Type 0} (P : List Deed → Outcome A → Type 0) (files : FilesSeen) (net : NetSeen) (before now : List Seen) (calls : List HandlerCall) (status : ℕ) (print line text : List ℕ) → RackShows before now calls → text ≡ print ++ line
    → P ((sees (map (λ call. at_handler call) calls) ++ did_write print ∷ []) ++ did_write line ∷ []) (ends status) → ComesOut P (around files (outside net before)) (around files (outside net now)) (ends status) text
calls_end_twice P files net before now calls status print line text shows is stage =
    let made = sees (map (λ call. at_handler call) calls) in
    let w = around files (outside net before) in
    let v = around files (outside net now) in
    record {
      seen = (made ++ did_write print ∷ []) ++ did_write line ∷ [];
      stage = stage;
      shows = shows_then w v v (made ++ did_write print ∷ []) (did_write line ∷ [])
          (shows_then w v v made (did_write print ∷ []) (shows_seen files (outside net before) (outside net now) (map (λ call. at_handler call) calls) (shows_handlers net before now calls shows)) (shows_wrote v print))
          (shows_wrote v line);
      text_is = flat_map-append written_in (made ++ did_write print ∷ []) (did_write line ∷ [])
          ∙ ap (λ (more : List ℕ). more ++ text_in (did_write line ∷ [])) (text_after made print (no_text (map (λ call. at_handler call) calls)))
          ∙ ap (λ (more : List ℕ). print ++ more) (line_alone line) ∙ sym is;
    }

-- a text without bytes is nothing
pub nothing_if_empty : (text other : List ℕ) → text ≡ other → length text ≡ 0 → other ≡ []
nothing_if_empty [] other is none = sym is
nothing_if_empty (x ∷ text) other is none = absurd cc
