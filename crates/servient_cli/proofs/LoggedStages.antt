-- `serve --log`: the deeds of a run with its log, how the command ends by it, and that it ends well where nothing is wrong.
use Rattle.std.proofs.Common.{◌≡◌, ◌*◌, ◌⊎◌, ◌∙◌, ℕ, List, [], ◌∷◌, ◌++◌, length, map, Result, Ok, Err, Some, Option, refl, sym, ap, subst, arith, inl, inr, append_assoc}
use Rattle.std.proofs.lemmas.List.{append-nil, length-map}
use Rattle.std.proofs.lemmas.Grind.{flat_map-append}
use Rattle.std.proofs.lemmas.List.Elements.{filter_map-append}
use Rattle.servient_base.specs.Moves.{Refines}
use Rattle.wot_json.specs.Tree.{Json}
use Rattle.wot_terms.specs.declared.kind.Kind.{Kind}
use Rattle.thing_site.specs.Site.{expose_faults, exposed_all}
use Rattle.thing_handler.specs.Turns.{answered, missed}
use Rattle.servient_outside.specs.declared.files.FileRead.{FileRead}
use Rattle.servient_outside.specs.declared.files.HeldFile.{HeldFile}
use Rattle.servient_outside.specs.declared.net.EventWithBytes.{EventWithBytes}
use Rattle.servient_outside.specs.declared.out.Put.{Put}
use Rattle.servient_outside.specs.declared.out.Put.TheVariants as put
use Rattle.servient_outside.specs.Files.{FilesSeen}
use Rattle.servient_outside.specs.Network.{heard, did, broke, next_event, events_in}
use Rattle.servient_outside.specs.Out.{OutSeen, OutShows}
use Rattle.servient_outside.specs.Told.{Continues}
use Rattle.servient_outside.proofs.FilesLaws.{no_read_failed_same}
use Rattle.servient_outside.proofs.ToldLaws.{continues_same, continues_then}
use Rattle.servient_trace.specs.Trace.{Sighting, at_network, at_handler, happened_in, Outside}
use Rattle.servient_trace.specs.ShownSections.{Shown, saw, forgot, seen_in, shown_of, ShowsInSections}
use Rattle.servient_trace.proofs.ShownLaws.{seen_of_shown}
use Rattle.servient_core.specs.Machine.{Site, State, start}
use Rattle.servient_core.specs.Serving.{StandsFor}
use Rattle.servient_core.specs.declared.layers.Layers.{Layers}
use Rattle.servient_core.specs.declared.sections.RunBounds.{RunBounds}
use Rattle.servient_plan.specs.declared.plan.Plan.{Plan}
use Rattle.servient_plan.specs.Plan.{place_of}
use Rattle.command_words.specs.declared.command.Budget.{Budget}
use Rattle.turn_lines.specs.Lines.{logged_turn, serving_line}
use Rattle.turn_lines.proofs.Putting.{out_then}
use Rattle.logged_serving.specs.declared.serving.LoggedEnd.{LoggedEnd}
use Rattle.logged_serving.specs.declared.serving.LoggedEnd.TheVariants as logged
use Rattle.logged_serving.specs.Logging.{log_from, all_written, step_unwritten, Logs, RunsLogged, ServesLogged, answer_of}
use Rattle.logged_serving.proofs.LoggedRounds.{logs_shown}
use Rattle.command_stages.specs.declared.derivation.Planned.{Planned}
use Rattle.command_stages.specs.declared.ending.Ending.{Ending}
use Rattle.command_stages.specs.declared.ending.Ended.{Ended}
use Rattle.command_stages.specs.Lines.{network_line}
use Rattle.command_stages.specs.Stages.{Deed, did_see, did_forget, did_write, sees, HasFailed, reads_in, showings_in, sighting_in, sightings_in, text_in, written_in, Outcome, goes_on, ends, AndThen, Around, around, ShowsDeeds}
use Rattle.command_stages.specs.Ending.{final_status, final_text}
use Rattle.command_stages.specs.Deriving.{ReadsPlanned, derived_of}
use Rattle.command_stages.proofs.StageLaws.{line_alone, seen_among, shows_then, shows_wrote}
use Rattle.command_stages.proofs.FaultlessReading.{GoesOn, HasTrouble, trouble_before, trouble_after, then_well}
use Rattle.servient_cli.specs.Opening.{Opens}
use Rattle.servient_cli.specs.Listening.{Listens}
use Rattle.servient_cli.specs.LoggedServing.{writes, call_line, with_log, status_at_log_end, line_at_log_end, bounds_of, heading_of, ComesOutInTurn, EndsInTurn, IsInTurn, TakesLog, log_taken, log_memory, ServesWithLog, heading_unwritten, has_logged, ListensAndLogs, LogsPlanned, LogsPlan}
use Rattle.servient_cli.specs.Command.{IsFaultlessServing}
use Rattle.servient_cli.proofs.FaultlessStages.{planned_well, open_well}
use Rattle.servient_cli.proofs.ServedStages.{IsServed, listen_well, sees-append}

-- ---- the deeds

showings_written : (owed : List ℕ) (more : List Deed) → showings_in (writes owed ++ more) ≡ showings_in more
showings_written [] more = refl
showings_written (byte ∷ owed) more = refl

reads_written : (owed : List ℕ) (more : List Deed) → reads_in (writes owed ++ more) ≡ reads_in more
reads_written [] more = refl
reads_written (byte ∷ owed) more = refl

text_written : (owed : List ℕ) (more : List Deed) → text_in (writes owed ++ more) ≡ owed ++ text_in more
text_written [] more = refl
text_written (byte ∷ owed) more = refl

none_written : (owed : List ℕ) (more : List Deed) → HasFailed (writes owed ++ more) → HasFailed more
none_written [] more failed = failed
none_written (byte ∷ owed) more failed = failed

-- what is shown is the run
showings_logged : (moment : ℕ) (owed : List ℕ) (shown : List Shown) → showings_in (with_log moment owed shown) ≡ shown
showings_logged moment owed [] = ap showings_in (sym (append-nil (writes owed))) ∙ showings_written owed []
showings_logged moment owed (forgot ∷ shown) = showings_written owed _ ∙ ap (λ (x : List Shown). forgot ∷ x) (showings_logged moment [] shown)
showings_logged moment owed (saw (at_network (heard e)) ∷ shown) = showings_written owed _ ∙ ap (λ (x : List Shown). saw (at_network (heard e)) ∷ x) (showings_logged e.event.moment [] shown)
showings_logged moment owed (saw (at_network (did act)) ∷ shown) = ap (λ (x : List Shown). saw (at_network (did act)) ∷ x) (showings_logged moment owed shown)
showings_logged moment owed (saw (at_network (broke call)) ∷ shown) = showings_written owed _ ∙ ap (λ (x : List Shown). saw (at_network (broke call)) ∷ x) (showings_logged moment [] shown)
showings_logged moment owed (saw (at_handler call) ∷ shown) = ap (λ (x : List Shown). saw (at_handler call) ∷ x) (showings_logged moment (owed ++ call_line moment call) shown)

reads_logged : (moment : ℕ) (owed : List ℕ) (shown : List Shown) → reads_in (with_log moment owed shown) ≡ []
reads_logged moment owed [] = ap reads_in (sym (append-nil (writes owed))) ∙ reads_written owed []
reads_logged moment owed (forgot ∷ shown) = reads_written owed _ ∙ reads_logged moment [] shown
reads_logged moment owed (saw (at_network (heard e)) ∷ shown) = reads_written owed _ ∙ reads_logged e.event.moment [] shown
reads_logged moment owed (saw (at_network (did act)) ∷ shown) = reads_logged moment owed shown
reads_logged moment owed (saw (at_network (broke call)) ∷ shown) = reads_written owed _ ∙ reads_logged moment [] shown
reads_logged moment owed (saw (at_handler call) ∷ shown) = reads_logged moment (owed ++ call_line moment call) shown

none_failed_logged : (moment : ℕ) (owed : List ℕ) (shown : List Shown) → HasFailed (with_log moment owed shown) → ⊥
none_failed_logged moment owed [] failed = none_written owed [] (subst HasFailed (sym (append-nil (writes owed))) failed)
none_failed_logged moment owed (forgot ∷ shown) failed = none_failed_logged moment [] shown (none_written owed _ failed)
none_failed_logged moment owed (saw (at_network (heard e)) ∷ shown) failed = none_failed_logged e.event.moment [] shown (none_written owed _ failed)
none_failed_logged moment owed (saw (at_network (did act)) ∷ shown) failed = none_failed_logged moment owed shown failed
none_failed_logged moment owed (saw (at_network (broke call)) ∷ shown) failed = none_failed_logged moment [] shown (none_written owed _ failed)
none_failed_logged moment owed (saw (at_handler call) ∷ shown) failed = none_failed_logged moment (owed ++ call_line moment call) shown failed

-- what is written are the lines of its turns
text_logged : (moment : ℕ) (owed : List ℕ) (shown : List Shown) → text_in (with_log moment owed shown) ≡ owed ++ log_from moment shown
text_logged moment owed [] = ap text_in (sym (append-nil (writes owed))) ∙ text_written owed []
text_logged moment owed (forgot ∷ shown) = text_written owed _ ∙ ap (λ (x : List ℕ). owed ++ x) (text_logged moment [] shown)
text_logged moment owed (saw (at_network (heard e)) ∷ shown) = text_written owed _ ∙ ap (λ (x : List ℕ). owed ++ x) (text_logged e.event.moment [] shown)
text_logged moment owed (saw (at_network (did act)) ∷ shown) = text_logged moment owed shown
text_logged moment owed (saw (at_network (broke call)) ∷ shown) = text_written owed _ ∙ ap (λ (x : List ℕ). owed ++ x) (text_logged moment [] shown)
text_logged moment owed (saw (at_handler (answered turn)) ∷ shown) = text_logged moment (owed ++ logged_turn moment turn) shown ∙ append_assoc owed (logged_turn moment turn) (log_from moment shown)
text_logged moment owed (saw (at_handler (missed slot)) ∷ shown) = text_logged moment (owed ++ []) shown ∙ ap (λ (x : List ℕ). x ++ log_from moment shown) (append-nil owed)

-- and so of the run without its forgettings
sightings_of_log : (moment : ℕ) (owed : List ℕ) (shown : List Shown) → sightings_in (with_log moment owed shown) ≡ seen_in shown
sightings_of_log moment owed shown = sym (seen_among (with_log moment owed shown)) ∙ ap seen_in (showings_logged moment owed shown)

pub sightings_logged : (heading line : List ℕ) (shown : List Shown) → sightings_in ((did_write heading ∷ with_log 0 [] shown) ++ did_write line ∷ []) ≡ seen_in shown
sightings_logged heading line shown =
    filter_map-append sighting_in (did_write heading ∷ with_log 0 [] shown) (did_write line ∷ []) ∙ append-nil (sightings_in (with_log 0 [] shown)) ∙ sightings_of_log 0 [] shown

-- before an event is heard all lines so far are written
log_split : (moment : ℕ) (owed : List ℕ) (first : List Shown) (e : EventWithBytes) (rest : List Shown) → with_log moment owed (first ++ saw (at_network (heard e)) ∷ rest) ≡ with_log moment owed first ++ did_see (at_network (heard e)) ∷ with_log e.event.moment [] rest
log_split moment owed [] e rest = refl
log_split moment owed (forgot ∷ first) e rest =
    ap (λ (x : List Deed). writes owed ++ did_forget ∷ x) (log_split moment [] first e rest) ∙ sym (append_assoc (writes owed) (did_forget ∷ with_log moment [] first) (did_see (at_network (heard e)) ∷ with_log e.event.moment [] rest))
log_split moment owed (saw (at_network (heard other)) ∷ first) e rest =
    ap (λ (x : List Deed). writes owed ++ did_see (at_network (heard other)) ∷ x) (log_split other.event.moment [] first e rest)
    ∙ sym (append_assoc (writes owed) (did_see (at_network (heard other)) ∷ with_log other.event.moment [] first) (did_see (at_network (heard e)) ∷ with_log e.event.moment [] rest))
log_split moment owed (saw (at_network (did act)) ∷ first) e rest = ap (λ (x : List Deed). did_see (at_network (did act)) ∷ x) (log_split moment owed first e rest)
log_split moment owed (saw (at_network (broke call)) ∷ first) e rest =
    ap (λ (x : List Deed). writes owed ++ did_see (at_network (broke call)) ∷ x) (log_split moment [] first e rest)
    ∙ sym (append_assoc (writes owed) (did_see (at_network (broke call)) ∷ with_log moment [] first) (did_see (at_network (heard e)) ∷ with_log e.event.moment [] rest))
log_split moment owed (saw (at_handler call) ∷ first) e rest = ap (λ (x : List Deed). did_see (at_handler call) ∷ x) (log_split moment (owed ++ call_line moment call) first e rest)

shows_logged : (files : FilesSeen) (w v : Outside) (shown : List Shown) → ShowsInSections w v shown → ShowsDeeds (around files w) (around files v) (with_log 0 [] shown)
shows_logged files w v shown shows = record {
  reads = subst (λ (made : List FileRead). Continues files.reads files.reads made) (sym (reads_logged 0 [] shown)) (continues_same files.reads);
  faults = omega arith;
  failed = λ failed. absurd (none_failed_logged 0 [] shown failed);
  no_failure = no_read_failed_same files;
  outside = subst (λ (made : List Shown). ShowsInSections w v made) (sym (showings_logged 0 [] shown)) shows;
}

-- ---- how the command ends

seven_only : (r : LoggedEnd) → answer_of r ≡ put.Failed → (status_at_log_end r ≡ 7) × (line_at_log_end r ≡ [])
seven_only logged.Stopped failed = absurd cc
seven_only logged.Failed failed = absurd cc
seven_only logged.Spent failed = absurd cc
seven_only logged.Unwritten failed = (refl, refl)

unwritten_only : (r : LoggedEnd) → status_at_log_end r ≡ 7 → answer_of r ≡ put.Failed
unwritten_only logged.Stopped seven = absurd (omega (arith, seven))
unwritten_only logged.Failed seven = absurd (omega (arith, seven))
unwritten_only logged.Spent seven = absurd (omega (arith, seven))
unwritten_only logged.Unwritten seven = refl

-- the serving line wasn't written
pub heading_ends : (bounds : RunBounds) (plan : Plan) (site : Site) (a : Around) (out out_now : OutSeen) (line : List ℕ) (answer : Put) → OutShows out out_now answer line → line ≡ heading_of plan site → answer ≡ put.Failed → ComesOutInTurn (ServesWithLog bounds plan site) a a out out_now 7 []
heading_ends bounds plan site a out out_now line answer shows is failed =
    let heading = heading_of plan site in
    let told : OutShows out out_now put.Failed heading = subst (λ (x : List ℕ). OutShows out out_now put.Failed x) is (subst (λ (p : Put). OutShows out out_now p line) failed shows) in (
      record {
        seen = did_write heading ∷ did_write [] ∷ [];
        stage = heading_unwritten (refl, refl);
        shows = shows_then a a a (did_write heading ∷ []) (did_write [] ∷ []) (shows_wrote a heading) (shows_wrote a []);
        printed = heading;
        answer = put.Failed;
        wrote = told;
        text_is = refl;
        failed = λ f. (refl, refl);
        unprinted = λ seven. refl;
      },
      record {
        first = [];
        later = did_write heading ∷ did_write [] ∷ [];
        whole = refl;
        untaken = refl;
        part = told.writes.0;
        rest = told.writes.1;
        text_is = append-nil heading ∙ told.writes.2;
        wrote = told.writes.3;
        left = λ done. absurd cc;
      },
    )

-- Of the deeds of such a run and of its end, where all lines were written, and where those of the last step weren't.
all_in_turn : (heading line : List ℕ) (shown : List Shown) (r : LoggedEnd) (out middle out_now : OutSeen) → OutShows out middle put.Done heading → OutShows middle out_now put.Done (log_from 0 shown)
    → IsInTurn out out_now ((did_write heading ∷ with_log 0 [] shown) ++ did_write line ∷ []) line (answer_of r)
all_in_turn heading line shown r out middle out_now one other =
    let first = did_write heading ∷ with_log 0 [] shown in
    record {
      first = first;
      later = did_write line ∷ [];
      whole = refl;
      untaken = refl;
      part = [];
      rest = line;
      text_is = line_alone line;
      wrote = subst (λ (x : List ℕ). Continues out.written out_now.written x) (ap (λ (x : List ℕ). heading ++ x) (sym (text_logged 0 [] shown)) ∙ sym (append-nil (text_in first)))
          (continues_then out.written middle.written out_now.written heading (log_from 0 shown) one.writes other.writes);
      left = λ done. refl;
    }

step_in_turn : (heading line : List ℕ) (shown first : List Shown) (e : EventWithBytes) (step : List Sighting) (r : LoggedEnd) (out middle later out_now : OutSeen) → r ≡ logged.Unwritten → line ≡ line_at_log_end r → shown ≡ first ++ shown_of (at_network (heard e) ∷ step) → events_in (happened_in step) ≡ []
    → OutShows out middle put.Done heading → OutShows middle later put.Done (log_from 0 first) → OutShows later out_now put.Failed (log_from e.event.moment (shown_of step))
    → IsInTurn out out_now ((did_write heading ∷ with_log 0 [] shown) ++ did_write line ∷ []) line (answer_of r)
step_in_turn heading line shown first e step r out middle later out_now unwritten line_is whole quiet one other last =
    let before = with_log 0 [] first in
    let hears = did_see (at_network (heard e)) in
    let after = with_log e.event.moment [] (shown_of step) in
    let end = did_write line ∷ [] in
    let none : line ≡ [] = line_is ∙ ap line_at_log_end unwritten in
    record {
      first = did_write heading ∷ (before ++ hears ∷ []);
      later = after ++ end;
      whole = ap (λ (x : List Shown). (did_write heading ∷ with_log 0 [] x) ++ end) whole
          ∙ ap (λ (x : List Deed). (did_write heading ∷ x) ++ end) (log_split 0 [] first e (shown_of step))
          ∙ ap (λ (x : List Deed). did_write heading ∷ x) (append_assoc before (hears ∷ after) end ∙ sym (append_assoc before (hears ∷ []) (after ++ end)));
      untaken = ap (λ (x : List Sighting). events_in (happened_in x))
          (filter_map-append sighting_in after end ∙ append-nil (sightings_in after) ∙ sightings_of_log e.event.moment [] (shown_of step) ∙ seen_of_shown step)
          ∙ quiet;
      part = last.writes.0;
      rest = last.writes.1;
      text_is = flat_map-append written_in after end ∙ ap (λ (x : List ℕ). x ++ text_in end) (text_logged e.event.moment [] (shown_of step))
          ∙ ap (λ (x : List ℕ). log_from e.event.moment (shown_of step) ++ x) (line_alone line ∙ none) ∙ append-nil (log_from e.event.moment (shown_of step)) ∙ last.writes.2;
      wrote = subst (λ (x : List ℕ). Continues out.written out_now.written (x ++ last.writes.0))
          (ap (λ (x : List ℕ). heading ++ x) (sym (flat_map-append written_in before (hears ∷ []) ∙ append-nil (text_in before) ∙ text_logged 0 [] first)))
          (continues_then out.written later.written out_now.written (heading ++ log_from 0 first) last.writes.0
          (continues_then out.written middle.written later.written heading (log_from 0 first) one.writes other.writes) last.writes.3);
      left = λ done. absurd (let bad : put.Failed ≡ put.Done = ap answer_of (sym unwritten) ∙ done in cc);
    }

logs_in_turn : (heading : List ℕ) (shown : List Shown) (r : LoggedEnd) (out middle out_now : OutSeen) → OutShows out middle put.Done heading → Logs middle out_now shown r
    → IsInTurn out out_now ((did_write heading ∷ with_log 0 [] shown) ++ did_write (line_at_log_end r) ∷ []) (line_at_log_end r) (answer_of r)
logs_in_turn heading shown r out middle out_now one (all_written isnt wrote) = all_in_turn heading (line_at_log_end r) shown r out middle out_now one wrote
logs_in_turn heading shown r out middle out_now one (step_unwritten first e step later is whole quiet before failed) =
    step_in_turn heading (line_at_log_end r) shown first e step r out middle later out_now is refl whole quiet one before failed

-- it was, and then the events were served
pub logged_ends : (bounds : RunBounds) (plan : Plan) (kept later : Layers) (files : FilesSeen) (w v : Outside) (out middle out_now : OutSeen) (line : List ℕ) (answer : Put) (result : LoggedEnd) → OutShows out middle answer line → line ≡ heading_of plan kept.exposed.site → answer ≡ put.Done
    → StandsFor kept (start kept.exposed.site plan.exchanges plan.epoch)
    → Refines StandsFor ShowsInSections (ServesLogged kept.exposed.site bounds middle out_now result) kept later w v
    → ComesOutInTurn (ServesWithLog bounds plan kept.exposed.site) (around files w) (around files v) out out_now (status_at_log_end result) (line_at_log_end result)
logged_ends bounds plan kept later files w v out middle out_now line answer result shows is well stands serves =
    let site = kept.exposed.site in
    let heading = heading_of plan site in
    let made = serves (start site plan.exchanges plan.epoch) stands in
    let shown = made.2.seen in
    let end = line_at_log_end result in
    let first = did_write heading ∷ with_log 0 [] shown in
    let told : OutShows out middle put.Done heading = subst (λ (x : List ℕ). OutShows out middle put.Done x) is (subst (λ (p : Put). OutShows out middle p line) well shows) in (
      record {
        seen = first ++ did_write end ∷ [];
        stage = has_logged result shown made.0 made.2.move.ran (refl, refl);
        shows = shows_then (around files w) (around files v) (around files v) first (did_write end ∷ [])
            (shows_then (around files w) (around files w) (around files v) (did_write heading ∷ []) (with_log 0 [] shown) (shows_wrote (around files w) heading) (shows_logged files w v shown made.2.shows))
            (shows_wrote (around files v) end);
        printed = heading ++ log_from 0 shown;
        answer = answer_of result;
        wrote = out_then out middle out_now (answer_of result) heading (log_from 0 shown) told (logs_shown middle out_now shown result made.2.move.wrote);
        text_is = flat_map-append written_in first (did_write end ∷ []) ∙ ap (λ (x : List ℕ). (heading ++ x) ++ text_in (did_write end ∷ [])) (text_logged 0 [] shown)
            ∙ ap (λ (x : List ℕ). (heading ++ log_from 0 shown) ++ x) (line_alone end);
        failed = seven_only result;
        unprinted = unwritten_only result;
      },
      logs_in_turn heading shown result out middle out_now told made.2.move.wrote,
    )

-- the serving line of these texts is that of the plan
pub heading_same : (plan : Plan) (site : Site) (http coap : List ℕ) (things : ℕ) → http ≡ plan.frame.bases.http → coap ≡ plan.frame.bases.coap → things ≡ length site.things → serving_line http coap things ≡ heading_of plan site
heading_same plan site http coap things by_http by_coap count =
    ap (λ (x : List ℕ). serving_line x coap things) by_http ∙ ap (λ (x : List ℕ). serving_line plan.frame.bases.http x things) by_coap
    ∙ ap (λ (n : ℕ). serving_line plan.frame.bases.http plan.frame.bases.coap n) count

-- a command that came out so, by its status and its text
pub printing_as : (P : List Deed → Outcome (Unit {0}) → Type 0) (before now : Around) (out out_now : OutSeen) (status : ℕ) (text : List ℕ) (r : Result Ending Ended) → ComesOutInTurn P before now out out_now status text → final_status r ≡ status → final_text r ≡ text → EndsInTurn P before now out out_now r
printing_as P before now out out_now status text r comes status_is text_is =
    subst (λ (n : ℕ). ComesOutInTurn P before now out out_now n (final_text r)) (sym status_is)
    (subst (λ (t : List ℕ). ComesOutInTurn P before now out out_now status t) (sym text_is) comes)

-- ---- where nothing is wrong

-- it ends as serving does, or a write of its log failed
abbrev pub IsLogged : Outcome (Unit {0}) → Type 0
IsLogged o = IsServed o ⊎ (o ≡ ends 7)

logged_memory : (o : Outcome (Unit {0})) → o ≡ ends 9 → IsLogged o
logged_memory o nine = inl (inr (inl nine))

-- a run that ends with a break has one among its deeds
trouble_logged : (moment : ℕ) (owed : List ℕ) (shown : List Shown) → HasTrouble (sees (seen_in shown)) → HasTrouble (with_log moment owed shown)
trouble_logged moment owed [] trouble = absurd trouble
trouble_logged moment owed (forgot ∷ shown) trouble = trouble_after (writes owed) _ (trouble_logged moment [] shown trouble)
trouble_logged moment owed (saw (at_network (heard e)) ∷ shown) trouble = trouble_after (writes owed) _ (trouble_logged e.event.moment [] shown trouble)
trouble_logged moment owed (saw (at_network (did act)) ∷ shown) trouble = trouble_logged moment owed shown trouble
trouble_logged moment owed (saw (at_network (broke call)) ∷ shown) trouble = trouble_after (writes owed) (did_see (at_network (broke call)) ∷ with_log moment [] shown) tt
trouble_logged moment owed (saw (at_handler call) ∷ shown) trouble = trouble_logged moment (owed ++ call_line moment call) shown trouble

pub failing_logged : (bounds : RunBounds) (site : Site) (s t : State) (shown : List Shown) → RunsLogged site bounds logged.Failed s shown t → HasTrouble (with_log 0 [] shown)
failing_logged bounds site s t shown ran =
    let run = ran.run in
    let last = at_network (broke next_event) ∷ [] in
    trouble_logged 0 [] shown (subst HasTrouble (sym (ap sees (run.whole ∙ ap (λ (more : List Sighting). run.first ++ more) run.other.saw) ∙ sees-append run.first last))
    (trouble_after (sees run.first) (sees last) tt))

log_well : (bounds : RunBounds) (plan : Plan) (site : Site) (seen : List Deed) (o : Outcome (Unit {0})) → ¬ (HasTrouble seen) → ServesWithLog bounds plan site seen o → IsLogged o
log_well bounds plan site seen o quiet (heading_unwritten out) = inr out.1
log_well bounds plan site seen o quiet (has_logged logged.Stopped shown end ran out) = inl (inl out.1)
log_well bounds plan site seen o quiet (has_logged logged.Failed shown end ran out) =
    absurd (quiet (subst HasTrouble (sym out.0) (trouble_before (with_log 0 [] shown) (did_write network_line ∷ []) (failing_logged bounds site (start site plan.exchanges plan.epoch) end shown ran))))
log_well bounds plan site seen o quiet (has_logged logged.Spent shown end ran out) = inl (inr (inr out.1))
log_well bounds plan site seen o quiet (has_logged logged.Unwritten shown end ran out) = inr out.1

taken_well : (seen : List Deed) (o : Outcome (Unit {0})) → ¬ (HasTrouble seen) → TakesLog seen o → GoesOn (λ u. Unit {0}) o
taken_well seen o quiet (log_taken saw_none goes) = inl (tt, tt, goes)
taken_well seen o quiet (log_memory end) = inr end.1

pub logging_well : (held : Option (List HeldFile)) (files : List HeldFile) (kinds : List Kind) (plan : List ℕ) (budget : Budget) (idle : ℕ) (fine : IsFaultlessServing files kinds plan) (seen : List Deed) (o : Outcome (Unit {0})) → held ≡ Some files → ¬ (HasTrouble seen) → LogsPlan held kinds plan budget idle seen o → IsLogged o
logging_well held files kinds plan budget idle fine seen o is_held quiet stage =
    then_well IsLogged logged_memory (ReadsPlanned held plan) (LogsPlanned plan kinds budget idle) (λ p. p ≡ fine.planned) seen o quiet
    (λ s r q st. planned_well held files plan fine.planned s r is_held fine.by_plan q st)
    (λ p same s q st. then_well IsLogged logged_memory (Opens plan kinds p) (λ site. AndThen TakesLog (λ _. ListensAndLogs budget idle p.plan site)) (λ site. Unit {0}) s o q
    (λ s2 r q2 st2. open_well plan kinds p fine.things s2 r (ap derived_of same ∙ fine.derived_is) (ap (λ (x : Planned). expose_faults kinds x.plan.slots fine.things) same ∙ fine.fits) q2 st2)
    (λ site any s2 q2 st2. then_well IsLogged logged_memory TakesLog (λ _. ListensAndLogs budget idle p.plan site) (λ u. Unit {0}) s2 o q2
    (λ s3 r q3 st3. taken_well s3 r q3 st3)
    (λ u also s3 q3 st3. then_well IsLogged logged_memory (Listens (place_of p.plan (idle * 1000))) (λ _. ServesWithLog (bounds_of budget site) p.plan site) (λ u. Unit {0}) s3 o q3
    (λ s4 r q4 st4. listen_well (place_of p.plan (idle * 1000)) s4 r q4 st4)
    (λ u2 also2 s4 q4 st4. log_well (bounds_of budget site) p.plan site s4 o q4 st4) st3) st2) st) stage
