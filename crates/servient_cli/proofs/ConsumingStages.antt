-- `consume` and `discover`: what an operation does as what a command does, and what was written before the end.
use Rattle.std.proofs.Common.{◌≡◌, ◌≤◌, ◌∙◌, ℕ, Bool, true, List, [], ◌∷◌, ◌++◌, Option, Result, Ok, Err, refl, sym, ap, subst, arith, inl, inr, append_assoc}
use Rattle.std.specs.Prelude.{map, IfOk, MatchResult}
use Rattle.std.specs.declared.alloc.AllocError.{AllocError}
use Rattle.std.proofs.lemmas.Grind.{flat_map-append}
use Rattle.std.proofs.lemmas.List.{append-nil}
use Rattle.servient_base.specs.Count.{Rose}
use Rattle.wot_json.specs.declared.tree.Tree.{Tree}
use Rattle.wot_json.specs.Tree.{Json}
use Rattle.wot_json.specs.Meaning.{json_of}
use Rattle.wot_terms.specs.declared.op.Op.{Op}
use Rattle.wot_forms.specs.declared.scheme.Scheme.{Scheme}
use Rattle.wot_consumer.specs.declared.chosen.Chosen.{Chosen}
use Rattle.wot_consumer.specs.declared.chosen.ChooseFault.{ChooseFault}
use Rattle.wot_consumer.specs.declared.chosen.ChooseFault.TheVariants as fault
use Rattle.wot_consumer.specs.Choice.{IsChosen, IsNoChoice, wanted}
use Rattle.command_words.specs.Operations.{form_operation}
use Rattle.servient_outside.specs.declared.files.HeldFile.{HeldFile}
use Rattle.command_words.specs.declared.command.Consumption.{Consumption}
use Rattle.thing_handler.specs.Handler.{Seen}
use Rattle.servient_outside.specs.declared.files.FileRead.{FileRead}
use Rattle.servient_outside.specs.declared.out.Put.{Put}
use Rattle.servient_outside.specs.declared.out.Put.TheVariants as put
use Rattle.servient_outside.specs.Told.{Continues}
use Rattle.servient_outside.specs.Files.{FilesSeen}
use Rattle.servient_outside.specs.Network.{NetSeen}
use Rattle.servient_outside.proofs.FilesLaws.{no_read_failed_same}
use Rattle.servient_outside.proofs.OutLaws.{no_write_failed_then}
use Rattle.servient_outside.specs.Out.{OutSeen, OutShows, NoWriteFailed}
use Rattle.servient_outside.proofs.ToldLaws.{continues_same, continues_then}
use Rattle.servient_trace.specs.Trace.{at_network, outside}
use Rattle.servient_trace.specs.ShownSections.{Shown, saw as was_seen, shown_of, section}
use Rattle.network_consumer.specs.declared.operation.ThingOperation.{ThingOperation}
use Rattle.network_consumer.specs.declared.consumed.Consumed.{Consumed}
use Rattle.network_consumer.specs.declared.consumed.Consumed.TheVariants as consumed
use Rattle.network_consumer.specs.declared.consumed.ConsumedOutcome.{ConsumedOutcome}
use Rattle.network_consumer.specs.Deeds.{happens, prints, sight, put_of}
use Rattle.network_consumer.specs.Deeds as operation
use Rattle.network_consumer.specs.Consuming.{Consumes}
use Rattle.network_consumer.proofs.DeedLaws.{out_none}
use Rattle.command_stages.specs.declared.ending.Ending.{Ending}
use Rattle.command_stages.specs.declared.ending.Ended.{Ended}
use Rattle.command_stages.specs.declared.ending.Ended.TheVariants as ended
use Rattle.command_stages.specs.Stages.{Deed, did_write, HasFailed, reads_in, showings_in, text_in, written_in, Outcome, goes_on, ends, AndThen, ends_first, goes_further, Around, around, ShowsDeeds}
use Rattle.command_stages.specs.Ending.{ComesOut, Performs, status_of, text_of, final_status, final_text}
use Rattle.servient_cli.specs.Command.{IsReported, EndsAndReports}
use Rattle.command_stages.specs.Describing.{ReadsDescription}
use Rattle.servient_cli.specs.Consuming.{ConsumesBy, ConsumesThing, Chooses, is_chosen, has_no_affordance, has_no_form, choose_memory, OperatesOn, deeds_of, line_after, status_after, IsAskedFor, EndsAfter, has_ended, line_memory, IsOperated, Operates, IsEndOf, EndsPrinting}
use Rattle.command_stages.proofs.StageLaws.{line_alone, shows_network, shows_then, shows_wrote}
use Rattle.servient_cli.specs.LoggedServing.{EndsInTurn, IsInTurn, TookNothing, WritesInTurn}
use Rattle.servient_cli.proofs.UsageStages.{EndsPlainly, description_not, choose_not}

-- ---- an operation's deeds as those of a command

reads_of : (deeds : List operation.Deed) → reads_in (deeds_of deeds) ≡ []
reads_of [] = refl
reads_of (happens h ∷ deeds) = reads_of deeds
reads_of (prints text ∷ deeds) = reads_of deeds

none_failed : (deeds : List operation.Deed) → HasFailed (deeds_of deeds) → ⊥
none_failed [] failed = failed
none_failed (happens h ∷ deeds) failed = none_failed deeds failed
none_failed (prints text ∷ deeds) failed = none_failed deeds failed

showings_of : (deeds : List operation.Deed) → showings_in (deeds_of deeds) ≡ shown_of (map (λ h. at_network h) (operation.happened_in deeds))
showings_of [] = refl
showings_of (happens h ∷ deeds) = ap (λ (more : List Shown). was_seen (at_network h) ∷ more) (showings_of deeds)
showings_of (prints text ∷ deeds) = showings_of deeds

text_written : (deeds : List operation.Deed) → text_in (deeds_of deeds) ≡ operation.text_in deeds
text_written [] = refl
text_written (happens h ∷ deeds) = text_written deeds
text_written (prints text ∷ deeds) = ap (λ (more : List ℕ). text ++ more) (text_written deeds)

shows_operation : (files : FilesSeen) (n m : NetSeen) (slots : List Seen) (o q : OutSeen) (p : Put) (deeds : List operation.Deed) → operation.ShowsDeeds (sight n o) (sight m q) p deeds → ShowsDeeds (around files (outside n slots)) (around files (outside m slots)) (deeds_of deeds)
shows_operation files n m slots o q p deeds shows = record {
  reads = subst (λ (made : List FileRead). Continues files.reads files.reads made) (sym (reads_of deeds)) (continues_same files.reads);
  faults = omega arith;
  failed = λ failed. absurd (none_failed deeds failed);
  no_failure = no_read_failed_same files;
  outside = section (outside n slots) (outside m slots) (showings_in (deeds_of deeds)) (map (λ h. at_network h) (operation.happened_in deeds)) (showings_of deeds) (shows_network n m slots (operation.happened_in deeds) shows.net);
}

-- ---- how an operation ends the command

unprinted_ends : (r : Consumed) (result : Result Ending Ended) → IsEndOf r result → put_of r ≡ put.Failed → (final_status result ≡ 7) × (final_text result ≡ [])
unprinted_ends consumed.Done result is failed = absurd cc
unprinted_ends (consumed.Other x) result is failed = absurd cc
unprinted_ends consumed.Silent result is failed = absurd cc
unprinted_ends consumed.Failed result is failed = absurd cc
unprinted_ends consumed.Unprinted result (inl is) failed = is
unprinted_ends consumed.Unprinted result (inr is) failed = absurd (is.0 refl)
unprinted_ends consumed.Spent result is failed = absurd cc
unprinted_ends consumed.NoMemory result is failed = absurd cc

printed_not : (r : Consumed) → status_after r ≡ 7 → put_of r ≡ put.Failed
printed_not consumed.Done seven = absurd (omega (arith, seven))
printed_not (consumed.Other x) seven = absurd (omega (arith, seven))
printed_not consumed.Silent seven = absurd (omega (arith, seven))
printed_not consumed.Failed seven = absurd (omega (arith, seven))
printed_not consumed.Unprinted seven = refl
printed_not consumed.Spent seven = absurd (omega (arith, seven))
printed_not consumed.NoMemory seven = absurd (omega (arith, seven))

ends_unprinted : (r : Consumed) (result : Result Ending Ended) → IsEndOf r result → final_status result ≡ 7 → put_of r ≡ put.Failed
ends_unprinted r result (inl is) seven = printed_not r (sym is.0 ∙ seven)
ends_unprinted r result (inr is) seven = let bad : 9 ≡ 7 = sym is.1 ∙ seven in absurd (omega (arith, bad))

end_stage : (P : List operation.Deed → Consumed → Type 0) (r : Consumed) (deeds : List operation.Deed) (result : Result Ending Ended) → P deeds r → IsEndOf r result → EndsAfter P (deeds_of deeds ++ did_write (final_text result) ∷ []) (ends (final_status result))
end_stage P r deeds result did_so (inl is) = has_ended r deeds did_so (ap (λ (t : List ℕ). deeds_of deeds ++ did_write t ∷ []) is.1, ap (λ (n : ℕ). ends n) is.0)
end_stage P r deeds result did_so (inr is) = line_memory r deeds did_so (ap (λ (t : List ℕ). deeds_of deeds ++ did_write t ∷ []) is.2, ap (λ (n : ℕ). ends n) is.1)

-- an operation on others ended so
pub asked_others : (files : FilesSeen) (n m : NetSeen) (slots : List Seen) (o q : OutSeen) (P : List operation.Deed → Consumed → Type 0) (r : Consumed) (result : Result Ending Ended) → operation.Shows (λ deeds. P deeds r) (sight n o) (sight m q) (put_of r) → IsEndOf r result
    → EndsPrinting (EndsAfter P) (around files (outside n slots)) (around files (outside m slots)) o q result
asked_others files n m slots o q P r result shows is =
    let before = around files (outside n slots) in
    let now = around files (outside m slots) in
    let line = final_text result in
    record {
      seen = deeds_of shows.deeds ++ did_write line ∷ [];
      stage = end_stage P r shows.deeds result shows.holds is;
      shows = shows_then before now now (deeds_of shows.deeds) (did_write line ∷ []) (shows_operation files n m slots o q (put_of r) shows.deeds shows.shows) (shows_wrote now line);
      printed = operation.text_in shows.deeds;
      answer = put_of r;
      wrote = shows.shows.out;
      text_is = flat_map-append written_in (deeds_of shows.deeds) (did_write line ∷ []) ∙ ap (λ (t : List ℕ). t ++ text_in (did_write line ∷ [])) (text_written shows.deeds) ∙ ap (λ (t : List ℕ). operation.text_in shows.deeds ++ t) (line_alone line);
      failed = unprinted_ends r result is;
      unprinted = ends_unprinted r result is;
    }

pub operated : (files : FilesSeen) (n m : NetSeen) (slots : List Seen) (o q : OutSeen) (k : Consumption) (tree : Tree) (input : Option Tree) (c : Chosen) (x : ThingOperation) (r : Consumed) (result : Result Ending Ended) → IsAskedFor k tree input x
    → operation.Shows (λ deeds. Consumes x c deeds r) (sight n o) (sight m q) (put_of r) → IsEndOf r result → EndsPrinting (Operates k tree input c) (around files (outside n slots)) (around files (outside m slots)) o q result
operated files n m slots o q k tree input c x r result asked shows is =
    asked_others files n m slots o q (IsOperated k tree input c) r result (record { deeds = shows.deeds; holds = record { request = x; asked = asked; consumes = shows.holds }; shows = shows.shows }) is

pub outcome_ends : (x : ConsumedOutcome) (made : Result Ending AllocError) (e : Ended) → IfOk made (λ y. (y.status ≡ 10) × (y.text ≡ line_after (consumed.Other x))) → MatchResult made (λ y. e ≡ ended.With y) (λ _. e ≡ ended.NoMemory) → IsEndOf (consumed.Other x) (Err e)
outcome_ends x (Ok ending) e is comes = inl (ap status_of comes ∙ is.0, ap text_of comes ∙ is.1)
outcome_ends x (Err none) e is comes = inr ((λ no. absurd cc), ap status_of comes, ap text_of comes)

-- ---- one stage after another

-- nothing that was done has failed
pub done_not : {A : Type 0} → put.Done ≡ put.Failed → A
done_not failed = absurd cc

abbrev pub error_prints : {A : Type 0} (P : List Deed → Outcome A → Type 0) (Q : A → List Deed → Outcome (Unit {0}) → Type 0) (a b : Around) (o : OutSeen) (e : Ended)
    → ((s : List Deed) (r : Outcome A) → P s r → EndsPlainly r) → Performs P a b (Err e) → EndsPrinting (AndThen P Q) a b o o (Err e)
error_prints P Q a b o e plain p = record {
  seen = p.seen;
  stage = ends_first (status_of e) p.stage refl;
  shows = p.shows;
  printed = [];
  answer = put.Done;
  wrote = out_none o;
  text_is = p.text_is;
  failed = λ failed. done_not failed;
  unprinted = λ seven. absurd ((plain p.seen (ends (status_of e)) p.stage).1 seven);
}

abbrev pub then_prints : {A : Type 0} (P : List Deed → Outcome A → Type 0) (Q : A → List Deed → Outcome (Unit {0}) → Type 0) (a b c : Around) (o q : OutSeen) (value : A) (r : Result Ending Ended) → ComesOut P a b (goes_on value) [] → EndsPrinting (Q value) b c o q r → EndsPrinting (AndThen P Q) a c o q r
then_prints P Q a b c o q value r first second = record {
  seen = first.seen ++ second.seen;
  stage = goes_further (value, record { mid = tt; first = first.seen; second = second.seen; one = first.stage; other = second.stage; whole = refl });
  shows = shows_then a b c first.seen second.seen first.shows second.shows;
  printed = second.printed;
  answer = second.answer;
  wrote = second.wrote;
  text_is = flat_map-append written_in first.seen second.seen ∙ ap (λ (before : List ℕ). before ++ text_in second.seen) first.text_is ∙ second.text_is;
  failed = second.failed;
  unprinted = second.unprinted;
}

-- what is written in turn by stages before serving, and after them

pub error_in_turn : {A : Type 0} (P : List Deed → Outcome A → Type 0) (Q : A → List Deed → Outcome (Unit {0}) → Type 0) (a b : Around) (o : OutSeen) (e : Ended)
    → ((s : List Deed) (r : Outcome A) → P s r → EndsPlainly r) → ((s : List Deed) (r : Outcome A) → P s r → TookNothing s) → Performs P a b (Err e) → EndsInTurn (AndThen P Q) a b o o (Err e)
error_in_turn P Q a b o e plain untaken p = (
  error_prints P Q a b o e plain p,
  record {
    first = [];
    later = p.seen;
    whole = refl;
    untaken = untaken p.seen (ends (status_of e)) p.stage;
    part = [];
    rest = text_of e;
    text_is = p.text_is;
    wrote = continues_same o.written;
    left = λ done. refl;
  },
)

pub then_in_turn : {A : Type 0} (P : List Deed → Outcome A → Type 0) (Q : A → List Deed → Outcome (Unit {0}) → Type 0) (a b c : Around) (o q : OutSeen) (value : A) (r : Result Ending Ended) → ComesOut P a b (goes_on value) [] → EndsInTurn (Q value) b c o q r → EndsInTurn (AndThen P Q) a c o q r
then_in_turn P Q a b c o q value r first second =
    let t = second.1 in (
      then_prints P Q a b c o q value r first second.0,
      record {
        first = first.seen ++ t.first;
        later = t.later;
        whole = ap (λ (x : List Deed). first.seen ++ x) t.whole ∙ sym (append_assoc first.seen t.first t.later);
        untaken = t.untaken;
        part = t.part;
        rest = t.rest;
        text_is = t.text_is;
        wrote = subst (λ (x : List ℕ). Continues o.written q.written (x ++ t.part))
            (sym (flat_map-append written_in first.seen t.first ∙ ap (λ (x : List ℕ). x ++ text_in t.first) first.text_is)) t.wrote;
        left = t.left;
      },
    )

-- ---- the report

later_rose : (a b c : ℕ) → Rose a b → b ≤ c → Rose a c
later_rose a b c rose more = omega (arith, rose, more)

then_rose : (a b c : ℕ) → a ≤ b → Rose b c → Rose a c
then_rose a b c more rose = omega (arith, rose, more)

first_of_nothing : (a b : List ℕ) → a ++ b ≡ [] → a ≡ []
first_of_nothing [] b none = refl
first_of_nothing (x ∷ a) b none = absurd cc

printed_then : (printed text : List ℕ) (status : ℕ) (p : Put) (out out_now later : OutSeen) (result : ℕ) → OutShows out out_now p printed → (p ≡ put.Failed → (status ≡ 7) × (text ≡ [])) → out_now.faults ≤ later.faults → IsReported status text out_now later result → IsReported status (printed ++ text) out later result
printed_then printed text status put.Done out out_now later result wrote failed more (inl done) = inl (done.0, continues_then out.written out_now.written later.written printed text wrote.writes done.1)
printed_then printed text status put.Done out out_now later result wrote failed more (inr broke) =
    inr (
      broke.0,
      then_rose out.faults out_now.faults later.faults wrote.faults broke.1,
      (λ none. broke.2 (second_of_nothing printed text none)),
      printed ++ broke.3,
      broke.4,
      ap (λ (t : List ℕ). printed ++ t) broke.5 ∙ sym (append_assoc printed broke.3 broke.4),
      continues_then out.written out_now.written later.written printed broke.3 wrote.writes broke.6,
    )
  where
    second_of_nothing : (a b : List ℕ) → a ++ b ≡ [] → b ≡ []
    second_of_nothing [] b none = none
    second_of_nothing (x ∷ a) b none = absurd cc
-- nothing was to be written, and the status said already that the output failed
printed_then [] text status put.Failed out out_now later result wrote failed more (inl done) =
    let empty : wrote.writes.0 ≡ [] = first_of_nothing wrote.writes.0 wrote.writes.1 (sym wrote.writes.2) in
    inl (done.0, continues_then out.written out_now.written later.written [] text (subst (λ (t : List ℕ). Continues out.written out_now.written t) empty wrote.writes.3) done.1)
printed_then (x ∷ printed) text status put.Failed out out_now later result wrote failed more (inl done) =
    let none = failed refl in
    let all : (x ∷ printed) ++ text ≡ x ∷ printed = ap (λ (t : List ℕ). (x ∷ printed) ++ t) none.1 ∙ append-nil (x ∷ printed) in
    let written : Continues out.written later.written (wrote.writes.0 ++ []) = continues_then out.written out_now.written later.written wrote.writes.0 [] wrote.writes.3 (subst (λ (t : List ℕ). Continues out_now.written later.written t) none.1 done.1) in
    inr (
      done.0 ∙ none.0,
      later_rose out.faults out_now.faults later.faults (wrote.failed refl) more,
      (λ empty. absurd cc),
      wrote.writes.0,
      wrote.writes.1,
      all ∙ wrote.writes.2,
      subst (λ (t : List ℕ). Continues out.written later.written t) (append-nil wrote.writes.0) written,
    )
printed_then printed text status put.Failed out out_now later result wrote failed more (inr broke) = absurd (broke.2 (failed refl).1)

-- a line that is to be written alone
pub line_in_turn : (out : OutSeen) (line : List ℕ) → IsInTurn out out (did_write line ∷ []) line put.Done
line_in_turn out line = record {
  first = [];
  later = did_write line ∷ [];
  whole = refl;
  untaken = refl;
  part = [];
  rest = line;
  text_is = line_alone line;
  wrote = continues_same out.written;
  left = λ done. refl;
}

-- texts that were written in turn, and the report after them
pub turn_reported : (seen : List Deed) (text : List ℕ) (status : ℕ) (p : Put) (out out_now later : OutSeen) (result : ℕ) → IsInTurn out out_now seen text p → (p ≡ put.Failed → (status ≡ 7) × (text ≡ [])) → (status ≡ 7 → p ≡ put.Failed) → IsReported status text out_now later result → WritesInTurn out later seen result
turn_reported seen text status put.Done out out_now later result t failed unprinted (inl done) = record {
  first = t.first;
  later = t.later;
  whole = t.whole;
  untaken = t.untaken;
  part = t.part ++ text;
  rest = [];
  text_is = t.text_is ∙ ap (λ (x : List ℕ). t.part ++ x) (t.left refl) ∙ sym (append-nil (t.part ++ text));
  wrote = subst (λ (x : List ℕ). Continues out.written later.written x) (append_assoc (text_in t.first) t.part text)
      (continues_then out.written out_now.written later.written (text_in t.first ++ t.part) text t.wrote done.1);
  all = λ not_seven. refl;
}
turn_reported seen text status put.Done out out_now later result t failed unprinted (inr broke) = record {
  first = t.first;
  later = t.later;
  whole = t.whole;
  untaken = t.untaken;
  part = t.part ++ broke.3;
  rest = broke.4;
  text_is = t.text_is ∙ ap (λ (x : List ℕ). t.part ++ x) (t.left refl ∙ broke.5) ∙ sym (append_assoc t.part broke.3 broke.4);
  wrote = subst (λ (x : List ℕ). Continues out.written later.written x) (append_assoc (text_in t.first) t.part broke.3)
      (continues_then out.written out_now.written later.written (text_in t.first ++ t.part) broke.3 t.wrote broke.6);
  all = λ not_seven. absurd (not_seven broke.0);
}
turn_reported seen text status put.Failed out out_now later result t failed unprinted (inl done) = record {
  first = t.first;
  later = t.later;
  whole = t.whole;
  untaken = t.untaken;
  part = t.part;
  rest = t.rest;
  text_is = t.text_is;
  wrote = subst (λ (x : List ℕ). Continues out.written later.written x) (append-nil (text_in t.first ++ t.part))
      (continues_then out.written out_now.written later.written (text_in t.first ++ t.part) [] t.wrote (subst (λ (x : List ℕ). Continues out_now.written later.written x) (failed refl).1 done.1));
  all = λ not_seven. absurd (not_seven (done.0 ∙ (failed refl).0));
}
turn_reported seen text status put.Failed out out_now later result t failed unprinted (inr broke) = absurd (broke.2 (failed refl).1)

-- the writes before the end, and then the report
pub printing_reported : (logs : Bool) (P : List Deed → Outcome (Unit {0}) → Type 0) (before now : Around) (out out_now later : OutSeen) (r : Result Ending Ended) (result : ℕ) → (e : EndsPrinting P before now out out_now r) → (logs ≡ true → IsInTurn out out_now e.seen (final_text r) e.answer) → IsReported (final_status r) (final_text r) out_now later result
    → out_now.faults ≤ later.faults → NoWriteFailed out_now later (final_text r) → EndsAndReports logs P before now out later result
printing_reported logs P before now out out_now later r result e in_turn reported more fits = record {
  seen = e.seen;
  status = final_status r;
  stage = e.stage;
  shows = e.shows;
  reported = subst (λ (t : List ℕ). IsReported (final_status r) t out later result) (sym e.text_is) (printed_then e.printed (final_text r) (final_status r) e.answer out out_now later result e.wrote e.failed more reported);
  no_failure = subst (λ (t : List ℕ). NoWriteFailed out later t) (sym e.text_is) (no_write_failed_then out out_now later e.answer e.printed (final_text r) e.wrote.fits fits);
  in_turn = λ is. turn_reported e.seen (final_text r) (final_status r) e.answer out out_now later result (in_turn is) e.failed e.unprinted reported;
}

-- it is reported by 7 where the output failed alone
pub printing_failed : (P : List Deed → Outcome (Unit {0}) → Type 0) (before now : Around) (out out_now later : OutSeen) (r : Result Ending Ended) (result : ℕ) → EndsPrinting P before now out out_now r → IsReported (final_status r) (final_text r) out_now later result → out_now.faults ≤ later.faults
    → result ≡ 7 → Rose out.faults later.faults
printing_failed P before now out out_now later r result e (inl done) more seven =
    later_rose out.faults out_now.faults later.faults (e.wrote.failed (e.unprinted (sym done.0 ∙ seven))) more
printing_failed P before now out out_now later r result e (inr broke) more seven = then_rose out.faults out_now.faults later.faults e.wrote.faults broke.1

-- ---- the stages of `consume`

pub described_error : (held : Option (List HeldFile)) (k : Consumption) (name : List ℕ) (a b : Around) (o : OutSeen) (e : Ended) → name ≡ k.description → Performs {A = Tree} (ReadsDescription held name) a b (Err e) → EndsPrinting (ConsumesThing held k) a b o o (Err e)
described_error held k name a b o e is p = error_prints (ReadsDescription held k.description) (ConsumesBy held k) a b o e (description_not held k.description) (subst (λ (n : List ℕ). Performs {A = Tree} (ReadsDescription held n) a b (Err e)) is p)

pub described_then : (held later : Option (List HeldFile)) (k : Consumption) (name : List ℕ) (a b c : Around) (o q : OutSeen) (tree : Tree) (r : Result Ending Ended) → name ≡ k.description → later ≡ held → ComesOut {A = Tree} (ReadsDescription held name) a b (goes_on tree) [] → EndsPrinting (ConsumesBy later k tree) b c o q r
    → EndsPrinting (ConsumesThing held k) a c o q r
described_then held later k name a b c o q tree r is same first second =
    then_prints (ReadsDescription held k.description) (ConsumesBy held k) a b c o q tree r (subst (λ (n : List ℕ). ComesOut {A = Tree} (ReadsDescription held n) a b (goes_on tree) []) is first)
    (subst (λ (h : Option (List HeldFile)). EndsPrinting (ConsumesBy h k tree) b c o q r) same second)

same_chosen : (k : Consumption) (t u : Json) (op : Op) (name : List ℕ) (only : Option Scheme) (c : Chosen) → u ≡ t → op ≡ form_operation k.operation → name ≡ k.name → k.scheme ≡ only → IsChosen u (wanted op only) name c → IsChosen t (wanted (form_operation k.operation) k.scheme) k.name c
same_chosen k t u op name only c tree_is op_is name_is scheme_is chosen =
    subst (λ (x : Json). IsChosen x (wanted (form_operation k.operation) k.scheme) k.name c) tree_is
    (subst (λ (x : Op). IsChosen u (wanted x k.scheme) k.name c) op_is
    (subst (λ (x : List ℕ). IsChosen u (wanted op k.scheme) x c) name_is
    (subst (λ (x : Option Scheme). IsChosen u (wanted op x) name c) (sym scheme_is) chosen)))

same_no_choice : (k : Consumption) (t u : Json) (op : Op) (name : List ℕ) (only : Option Scheme) (f : ChooseFault) → u ≡ t → op ≡ form_operation k.operation → name ≡ k.name → k.scheme ≡ only → IsNoChoice u (wanted op only) name f → IsNoChoice t (wanted (form_operation k.operation) k.scheme) k.name f
same_no_choice k t u op name only f tree_is op_is name_is scheme_is none =
    subst (λ (x : Json). IsNoChoice x (wanted (form_operation k.operation) k.scheme) k.name f) tree_is
    (subst (λ (x : Op). IsNoChoice u (wanted x k.scheme) k.name f) op_is
    (subst (λ (x : List ℕ). IsNoChoice u (wanted op k.scheme) x f) name_is
    (subst (λ (x : Option Scheme). IsNoChoice u (wanted op x) name f) (sym scheme_is) none)))

-- a form is chosen by a description that has the same value
same_choice : (k : Consumption) (tree other : Tree) (op : Op) (name : List ℕ) (only : Option Scheme) (seen : List Deed) (o : Outcome Chosen) → json_of other ≡ json_of tree → op ≡ form_operation k.operation → name ≡ k.name → k.scheme ≡ only → Chooses other op name only seen o
    → Chooses tree (form_operation k.operation) k.name k.scheme seen o
same_choice k tree other op name only seen o t p n s (is_chosen c chosen saw goes) = is_chosen c (same_chosen k (json_of tree) (json_of other) op name only c t p n s chosen) saw goes
same_choice k tree other op name only seen o t p n s (has_no_affordance none end) = has_no_affordance (same_no_choice k (json_of tree) (json_of other) op name only fault.NoAffordance t p n s none) end
same_choice k tree other op name only seen o t p n s (has_no_form none end) = has_no_form (same_no_choice k (json_of tree) (json_of other) op name only fault.NoForm t p n s none) end
same_choice k tree other op name only seen o t p n s (choose_memory end) = choose_memory end

chooses_alike : (k : Consumption) (tree : Tree) (input : Option Tree) (x : ThingOperation) (only : Option Scheme) (a b : Around) (o : Outcome Chosen) (text : List ℕ) → k.scheme ≡ only → IsAskedFor k tree input x → ComesOut (Chooses x.tree.now x.op x.name.now only) a b o text
    → ComesOut (Chooses tree (form_operation k.operation) k.name k.scheme) a b o text
chooses_alike k tree input x only a b o text s asked p = record {
  seen = p.seen;
  stage = same_choice k tree x.tree.now x.op x.name.now only p.seen o asked.tree_is asked.op_is asked.name_is s p.stage;
  shows = p.shows;
  text_is = p.text_is;
}

pub form_error : (k : Consumption) (tree : Tree) (input : Option Tree) (x : ThingOperation) (only : Option Scheme) (a : Around) (o : OutSeen) (e : Ended) → k.scheme ≡ only → IsAskedFor k tree input x → Performs {A = Chosen} (Chooses x.tree.now x.op x.name.now only) a a (Err e)
    → EndsPrinting (OperatesOn k tree input) a a o o (Err e)
form_error k tree input x only a o e s asked p =
    error_prints (Chooses tree (form_operation k.operation) k.name k.scheme) (Operates k tree input) a a o e (choose_not tree (form_operation k.operation) k.name k.scheme) (chooses_alike k tree input x only a a (ends (status_of e)) (text_of e) s asked p)

pub form_then : (k : Consumption) (tree : Tree) (input : Option Tree) (x : ThingOperation) (only : Option Scheme) (a b : Around) (o q : OutSeen) (c : Chosen) (r : Result Ending Ended) → k.scheme ≡ only → IsAskedFor k tree input x → ComesOut (Chooses x.tree.now x.op x.name.now only) a a (goes_on c) []
    → EndsPrinting (Operates k tree input c) a b o q r → EndsPrinting (OperatesOn k tree input) a b o q r
form_then k tree input x only a b o q c r s asked first second =
    then_prints (Chooses tree (form_operation k.operation) k.name k.scheme) (Operates k tree input) a a b o q c r (chooses_alike k tree input x only a a (goes_on c) [] s asked first) second
