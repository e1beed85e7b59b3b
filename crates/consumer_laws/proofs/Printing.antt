-- An operation over HTTP prints the payload of the reply that comes, or nothing. The types of a wait and of a
-- verdict aren't named: their crate doesn't export them.
use Rattle.std.proofs.Common.{◌≡◌, ◌≢◌, ℕ, Bool, true, false, List, [], ◌∷◌, ◌++◌, append_assoc, append-nil, Option, Some, None, inl, inr, refl, sym, ap, ap₂, subst, ◌∙◌}
use Rattle.std.specs.Prelude.{◌⊎◌, nat_le, unwrap_or, if◌then◌else◌}
use Rattle.http_replies.specs.declared.reply_scan.ReplyScan.{ReplyScan}
use Rattle.http_replies.specs.declared.reply_scan.ReplyScan.TheVariants as scan
use Rattle.http_replies.proofs.OneReply.{at_most_one_reply}
use Rattle.servient_outside.specs.declared.net.EventWithBytes.{EventWithBytes}
use Rattle.servient_outside.specs.Network.{heard}
use Rattle.wot_forms.specs.declared.scheme.Scheme.{Scheme}
use Rattle.wot_forms.specs.declared.scheme.Scheme.TheVariants as scheme
use Rattle.wot_consumer.specs.declared.chosen.Chosen.{Chosen}
use Rattle.wot_consumer.specs.Messages.{request_bytes}
use Rattle.network_consumer.specs.declared.consumed.Consumed.{Consumed}
use Rattle.network_consumer.specs.declared.consumed.Consumed.TheVariants as ended
use Rattle.network_consumer.specs.declared.consumed.ConsumedOutcome.{ConsumedOutcome}
use Rattle.network_consumer.specs.declared.consumed.Status.TheVariants as status
use Rattle.network_consumer.specs.declared.operation.ThingOperation.{ThingOperation}
use Rattle.network_consumer.specs.Answers.{is_success, ValueComesTo, unread, not_taken, taken, value_memory, SucceedsAs, AnswersAs, no_success, success, answer_memory, Closes, short_of, ScansAs, ReceivesAs}
use Rattle.network_consumer.specs.Consuming.{AsksByHttp, not_dialled, dial_memory, request_memory, is_sent, AsksBy, AsksOrNot, body_memory, has_body, Consumes, is_refused, input_memory, is_done}
use Rattle.network_consumer.specs.Deeds.{Deed, happens, happened_in, printed, text_in}
use Rattle.network_consumer.specs.HttpWaiting.{bytes_on, waiting_on, after_event, deadline, Brings, bytes_came, has_ended, has_stopped, is_of_another, event_memory, EndsOrWaits, has_come, has_not_come}
use Rattle.network_consumer.specs.Waiting.{Hears, by_http, by_coap, Awaits, is_spent, is_broken, comes_to, goes_on}
use Rattle.consumer_laws.specs.Consuming.{heard_on, BringsOnly, PrintsItAlone, RepliesAreWhatIsPrinted}
use Rattle.consumer_laws.specs.Replying.{AreReadBack}

-- what is printed brings nothing
none_printed : (k : ℕ) (payload : List ℕ) → heard_on k (happened_in (printed payload)) ≡ []
none_printed k [] = refl
none_printed k (b ∷ payload) = refl

module _ (o : ThingOperation) (c : Chosen) (r : Consumed) (k : ℕ) (written payload : List ℕ) (number : ℕ) (read : AreReadBack written number payload) where
  -- what was heard before and by some deeds, and what is said of them
  pub record IsSaid (came : List ℕ) (deeds : List Deed) : Type 0 where
    pub all : r ≡ ended.Done → came ≡ written
    pub good : r ≡ ended.Done → is_success (status.Http number) ≡ true
    pub it : r ≡ ended.Done → text_in deeds ≡ text_in (printed payload)
    pub none : r ≢ ended.Done → r ≢ ended.Unprinted → text_in deeds ≡ []

  quiet : (came : List ℕ) (deeds : List Deed) → r ≢ ended.Done → text_in deeds ≡ [] → IsSaid came deeds
  quiet came deeds isnt none = record { all = λ is. absurd (isnt is); good = λ is. absurd (isnt is); it = λ is. absurd (isnt is); none = λ other unprinted. none }

  other_isnt : (out : ConsumedOutcome) → r ≡ ended.Other out → r ≢ ended.Done
  other_isnt out is same = never (sym is ∙ same)
    where
      never : ended.Other out ≡ ended.Done → ⊥
      never e = cc

  memory_isnt : r ≡ ended.NoMemory → r ≢ ended.Done
  memory_isnt is same = never (sym is ∙ same)
    where
      never : ended.NoMemory ≡ ended.Done → ⊥
      never e = cc

  failed_isnt : r ≡ ended.Failed → r ≢ ended.Done
  failed_isnt is same = never (sym is ∙ same)
    where
      never : ended.Failed ≡ ended.Done → ⊥
      never e = cc

  spent_isnt : r ≡ ended.Spent → r ≢ ended.Done
  spent_isnt is same = never (sym is ∙ same)
    where
      never : ended.Spent ≡ ended.Done → ⊥
      never e = cc

  silent_isnt : r ≡ ended.Silent → r ≢ ended.Done
  silent_isnt is same = never (sym is ∙ same)
    where
      never : ended.Silent ≡ ended.Done → ⊥
      never e = cc

  -- what is printed at an end, by what was heard then
  pub record EndsSo (came : List ℕ) (by_it : List Deed) : Type 0 where
    pub said : IsSaid came by_it
    pub hears : heard_on k (happened_in by_it) ≡ []

  by_outcome : (came : List ℕ) (by_it : List Deed) (out : ConsumedOutcome) → (by_it ≡ []) × (r ≡ ended.Other out) → EndsSo came by_it
  by_outcome came by_it out (none, is) = record { said = quiet came by_it (other_isnt out is) (ap text_in none); hears = ap (λ (ds : List Deed). heard_on k (happened_in ds)) none }

  by_memory : (came : List ℕ) (by_it : List Deed) → (by_it ≡ []) × (r ≡ ended.NoMemory) → EndsSo came by_it
  by_memory came by_it (none, is) = record { said = quiet came by_it (memory_isnt is) (ap text_in none); hears = ap (λ (ds : List Deed). heard_on k (happened_in ds)) none }

  by_payload : (by_it : List Deed) → is_success (status.Http number) ≡ true → (by_it ≡ printed payload) × ((r ≡ ended.Done) ⊎ ((payload ≢ []) × (r ≡ ended.Unprinted))) → EndsSo written by_it
  by_payload by_it well (is, how) = record {
    said = record { all = λ same. refl; good = λ same. well; it = λ same. ap text_in is; none = λ other unprinted. absurd (neither how other unprinted) };
    hears = ap (λ (ds : List Deed). heard_on k (happened_in ds)) is ∙ none_printed k payload;
  }
    where
      neither : (r ≡ ended.Done) ⊎ ((payload ≢ []) × (r ≡ ended.Unprinted)) → r ≢ ended.Done → r ≢ ended.Unprinted → ⊥
      neither (inl same) other unprinted = other same
      neither (inr same) other unprinted = unprinted same.1

  module _ (p : _) (succeeds : (v : _) → SucceedsAs p (status.Http number) payload v → ValueComesTo o (status.Http number) payload v) where
    by_value : (by_it : List Deed) (v : _) → is_success (status.Http number) ≡ true → ValueComesTo o (status.Http number) payload v → Closes v by_it r → EndsSo written by_it
    by_value by_it v well (unread judged is) closes = by_outcome written by_it _ (subst (λ x. Closes x by_it r) is closes)
    by_value by_it v well (not_taken judged is) closes = by_outcome written by_it _ (subst (λ x. Closes x by_it r) is closes)
    by_value by_it v well (taken judged is) closes = by_payload by_it well (subst (λ x. Closes x by_it r) is closes)
    by_value by_it v well (value_memory is) closes = by_memory written by_it (subst (λ x. Closes x by_it r) is closes)

    by_answer : (by_it : List Deed) (v : _) → AnswersAs p (status.Http number) payload v → Closes v by_it r → EndsSo written by_it
    by_answer by_it v (no_success bad is) closes = by_outcome written by_it _ (subst (λ x. Closes x by_it r) is closes)
    by_answer by_it v (success well value) closes = by_value by_it v well (succeeds v value) closes
    by_answer by_it v (answer_memory is) closes = by_memory written by_it (subst (λ x. Closes x by_it r) is closes)

    whole_heard : (is_over : Bool) (by_it : List Deed) (v : _) → ReceivesAs p is_over written (Some v) → Closes v by_it r → EndsSo written by_it
    whole_heard is_over by_it v (s, is, scans) closes =
        let found : ScansAs p is_over (scan.Whole number payload) (Some v) = subst (λ (x : ReplyScan). ScansAs p is_over x (Some v)) (at_most_one_reply written is_over s (scan.Whole number payload) is (read.whole is_over)) scans in
        by_answer by_it found.0 found.1 (subst (λ x. Closes x by_it r) (ap (λ x. unwrap_or x v) found.2) closes)

    part_heard : (is_over : Bool) (came missing : List ℕ) (by_it : List Deed) (v : _) → came ++ missing ≡ written → missing ≢ [] → ReceivesAs p is_over came (Some v) → Closes v by_it r → EndsSo came by_it
    part_heard is_over came missing by_it v part some (s, is, scans) closes =
        by is_over (subst (λ (x : ReplyScan). ScansAs p is_over x (Some v)) (at_most_one_reply came is_over s scan.Short is (read.early is_over came missing part some)) scans)
      where
        by : (b : Bool) → Some v ≡ short_of b → EndsSo came by_it
        by true same = by_outcome came by_it _ (subst (λ x. Closes x by_it r) (ap (λ x. unwrap_or x v) same) closes)
        by false same = absurd cc

    so_far : (is_over : Bool) (came missing : List ℕ) (by_it : List Deed) (v : _) → came ++ missing ≡ written → ReceivesAs p is_over came (Some v) → Closes v by_it r → EndsSo came by_it
    so_far is_over came [] by_it v is receives closes =
        let all : came ≡ written = sym (append-nil came) ∙ is in
        subst (λ (x : List ℕ). EndsSo x by_it) (sym all) (whole_heard is_over by_it v (subst (λ (x : List ℕ). ReceivesAs p is_over x (Some v)) all receives) closes)
    so_far is_over came (b ∷ missing) by_it v is receives closes = part_heard is_over came (b ∷ missing) by_it v is (λ e. cc) receives closes

    -- the end by an event
    by_event : (came missing : List ℕ) (d : ℕ) (w : _) (by_it : List Deed) (v : _) → came ++ missing ≡ written → Brings p d came w (Some v) → Closes v by_it r → EndsSo came by_it
    by_event came missing d w by_it v is (bytes_came count at receives) closes = so_far false came missing by_it v is receives closes
    by_event came missing d w by_it v is (has_ended at receives) closes = so_far true came missing by_it v is receives closes
    by_event came missing d w by_it v is (has_stopped at same) closes = by_outcome came by_it _ (subst (λ x. Closes x by_it r) (ap (λ x. unwrap_or x v) same) closes)
    by_event came missing d w by_it v is (is_of_another other same) closes = absurd cc
    by_event came missing d w by_it v is (event_memory same) closes = by_memory came by_it (subst (λ x. Closes x by_it r) (ap (λ x. unwrap_or x v) same) closes)

    late : (b : Bool) → Some r ≡ (if b then Some ended.Silent else None) → r ≡ ended.Silent
    late true same = cc
    late false same = absurd cc

    by_ending : (x : _) (e : EventWithBytes) (by_it : List Deed) → EndsOrWaits p x e by_it (Some r) → (missing : List ℕ) → x.received ++ missing ≡ written → EndsSo x.received by_it
    by_ending x e by_it (has_come v d brings closes same) missing is =
        by_event x.received missing x.connection e.event.what by_it v is brings (subst (λ (y : Consumed). Closes v by_it y) (ended_as same) closes)
      where
        ended_as : Some r ≡ Some d → d ≡ r
        ended_as e = cc
    by_ending x e by_it (has_not_come brings none same) missing is =
        record { said = quiet x.received by_it (silent_isnt (late (nat_le deadline x.moment) same)) (ap text_in none); hears = ap (λ (ds : List Deed). heard_on k (happened_in ds)) none }

    goes_by : (x : _) (e : EventWithBytes) (by_it : List Deed) → EndsOrWaits p x e by_it None → by_it ≡ []
    goes_by x e by_it (has_come v d brings closes same) = absurd cc
    goes_by x e by_it (has_not_come brings none same) = none

    -- ---- one event after another

    -- a wait on this connection, where these bytes came before
    abbrev AtOf : (before : List ℕ) (w : _) (e : EventWithBytes) (by_it : List Deed) (res : Option Consumed) (v : _) → Hears p c w e by_it res v → Type 0
    AtOf before w e by_it res v (by_http x is hears next) = (x.connection ≡ k) × (x.received ≡ before)
    AtOf before w e by_it res v (by_coap x y is hears at) = ⊥

    came_with : (x : _) (e : EventWithBytes) (before : List ℕ) (by_it : List Deed) (res : Option Consumed) → EndsOrWaits p (after_event x e) e by_it res → x.connection ≡ k → x.received ≡ before
        → (after_event x e).received ≡ before ++ bytes_on k e.event.what e.bytes
    came_with x e before by_it res hears at was = ap₂ (λ (s : List ℕ) (d : ℕ). s ++ bytes_on d e.event.what e.bytes) was at

    ending : (before missing : List ℕ) (w : _) (e : EventWithBytes) (by_it : List Deed) (v : _) (h : Hears p c w e by_it (Some r) v) → AtOf before w e by_it (Some r) v h
        → (before ++ bytes_on k e.event.what e.bytes) ++ missing ≡ written → EndsSo (before ++ bytes_on k e.event.what e.bytes) by_it
    ending before missing w e by_it v (by_http x is hears next) at total =
        let same = came_with x e before by_it (Some r) hears at.0 at.1 in
        subst (λ (s : List ℕ). EndsSo s by_it) same (by_ending (after_event x e) e by_it hears missing (ap (λ (s : List ℕ). s ++ missing) same ∙ total))
    ending before missing w e by_it v (by_coap x y is hears at) none total = absurd none

    going : (before : List ℕ) (w : _) (e : EventWithBytes) (by_it : List Deed) (v : _) (h : Hears p c w e by_it None v) → AtOf before w e by_it None v h → by_it ≡ []
    going before w e by_it v (by_http x is hears next) at = goes_by (after_event x e) e by_it hears
    going before w e by_it v (by_coap x y is hears at) none = absurd none

    afterwards : (before : List ℕ) (w : _) (e : EventWithBytes) (by_it : List Deed) (v : _) (h : Hears p c w e by_it None v) → AtOf before w e by_it None v h
        → (f : EventWithBytes) (by_them : List Deed) (res : Option Consumed) (u : _) (g : Hears p c v f by_them res u) → AtOf (before ++ bytes_on k e.event.what e.bytes) v f by_them res u g
    afterwards before w e by_it v (by_http x is hears next) at f by_them res u (by_http y was further after) =
        let awaited = next refl in
        let same : y ≡ after_event x e = cc in
        rw same (at.0, came_with x e before by_it None hears at.0 at.1)
    afterwards before w e by_it v (by_http x is hears next) at f by_them res u (by_coap y z was further after) = let awaited = next refl in absurd cc
    afterwards before w e by_it v (by_coap x y is hears at) none f by_them res u g = absurd none

    moved : (came came_now : List ℕ) (deeds now : List Deed) → came ≡ came_now → text_in now ≡ text_in deeds → IsSaid came deeds → IsSaid came_now now
    moved came came_now deeds now same texts said = record {
      all = λ is. sym same ∙ said.all is;
      good = said.good;
      it = λ is. texts ∙ said.it is;
      none = λ other unprinted. texts ∙ said.none other unprinted;
    }

    walk : (n : ℕ) (w : _) (before missing : List ℕ) (deeds : List Deed) → Awaits p c r n w deeds
        → ((e : EventWithBytes) (by_it : List Deed) (res : Option Consumed) (v : _) (h : Hears p c w e by_it res v) → AtOf before w e by_it res v h)
        → (before ++ heard_on k (happened_in deeds)) ++ missing ≡ written → IsSaid (before ++ heard_on k (happened_in deeds)) deeds
    walk n w before missing deeds (is_spent w' deeds' none is) here total = quiet (before ++ heard_on k (happened_in deeds)) deeds (spent_isnt is) (ap text_in none)
    walk n w before missing deeds (is_broken m w' deeds' one is) here total = quiet (before ++ heard_on k (happened_in deeds)) deeds (failed_isnt is) (ap text_in one)
    walk n w before missing deeds (comes_to m w' v deeds' e by_it hears is) here total =
        let b : List ℕ = bytes_on k e.event.what e.bytes in
        let rest : List ℕ = heard_on k (happened_in by_it) in
        let heard_is : heard_on k (happened_in deeds) ≡ b ++ rest = ap (λ (ds : List Deed). heard_on k (happened_in ds)) is in
        let apart : (before ++ b) ++ (rest ++ missing) ≡ written =
        sym (append_assoc (before ++ b) rest missing) ∙ ap (λ (s : List ℕ). s ++ missing) (append_assoc before b rest ∙ ap (λ (s : List ℕ). before ++ s) (sym heard_is)) ∙ total in
        let ends = ending before (rest ++ missing) w e by_it v hears (here e by_it (Some r) v hears) apart in
        moved (before ++ b) (before ++ heard_on k (happened_in deeds)) by_it deeds
        (sym (ap (λ (s : List ℕ). before ++ s) (heard_is ∙ ap (λ (s : List ℕ). b ++ s) ends.hears ∙ append-nil b))) (ap text_in is) ends.said
    walk n w before missing deeds (goes_on m w' v deeds' e by_it more hears later is) here total =
        let b : List ℕ = bytes_on k e.event.what e.bytes in
        let rest : List ℕ = heard_on k (happened_in more) in
        let silent : by_it ≡ [] = going before w e by_it v hears (here e by_it None v hears) in
        let deeds_are : deeds ≡ happens (heard e) ∷ more = is ∙ ap (λ (ds : List Deed). happens (heard e) ∷ (ds ++ more)) silent in
        let heard_is : heard_on k (happened_in deeds) ≡ b ++ rest = ap (λ (ds : List Deed). heard_on k (happened_in ds)) deeds_are in
        let together : (before ++ b) ++ rest ≡ before ++ heard_on k (happened_in deeds) = append_assoc before b rest ∙ ap (λ (s : List ℕ). before ++ s) (sym heard_is) in
        moved ((before ++ b) ++ rest) (before ++ heard_on k (happened_in deeds)) more deeds together (ap text_in deeds_are)
        (walk m v (before ++ b) missing more later (afterwards before w e by_it v hears (here e by_it None v hears)) (ap (λ (s : List ℕ). s ++ missing) together ∙ total))

-- ---- an operation

module _ (o : ThingOperation) (c : Chosen) (deeds : List Deed) (r : Consumed) (written payload : List ℕ) (number : ℕ) (read : AreReadBack written number payload) (brings : BringsOnly deeds written) where
  abbrev Alone : Type 0
  Alone = PrintsItAlone written number payload deeds r

  calm : r ≢ ended.Done → text_in deeds ≡ [] → PrintsItAlone written number payload deeds r
  calm isnt none = record { heard = λ is. absurd (isnt is); success = λ is. absurd (isnt is); printed_it = λ is. absurd (isnt is); undone = λ other unprinted. none }

  no_memory : r ≡ ended.NoMemory → r ≢ ended.Done
  no_memory is same = never (sym is ∙ same)
    where
      never : ended.NoMemory ≡ ended.Done → ⊥
      never e = cc

  has_failed : r ≡ ended.Failed → r ≢ ended.Done
  has_failed is same = never (sym is ∙ same)
    where
      never : ended.Failed ≡ ended.Done → ⊥
      never e = cc

  other_end : (out : ConsumedOutcome) → r ≡ ended.Other out → r ≢ ended.Done
  other_end out is same = never (sym is ∙ same)
    where
      never : ended.Other out ≡ ended.Done → ⊥
      never e = cc

  module _ (p : _) (succeeds : (v : _) → SucceedsAs p (status.Http number) payload v → ValueComesTo o (status.Http number) payload v) where
    by_http_asks : (request : List ℕ) → AsksByHttp p c request deeds r → PrintsItAlone written number payload deeds r
    by_http_asks request (not_dialled is failed) = calm (has_failed failed) (ap text_in is)
    by_http_asks request (dial_memory is none) = calm (no_memory none) (ap text_in is)
    by_http_asks request (request_memory is none) = calm (no_memory none) (ap text_in is)
    by_http_asks request (is_sent k rest later is) =
        let heard_is : heard_on k (happened_in deeds) ≡ heard_on k (happened_in rest) = ap (λ (ds : List Deed). heard_on k (happened_in ds)) is in
        let part = brings k in
        let said = walk o c r k written payload number read p succeeds _ _ [] part.0 rest later
        (λ e by_it res v h. elim h as (λ g. AtOf o c r k written payload number read p succeeds [] _ e by_it res v g) [ by_http y same hears next ↦ (let is_it : y ≡ waiting_on k = cc in rw is_it (refl, refl)) | by_coap y z same hears at ↦ absurd cc ])
        (ap (λ (s : List ℕ). s ++ part.0) (sym heard_is) ∙ part.1) in
        record {
          heard = λ done. (k, heard_is ∙ said.all done);
          success = said.good;
          printed_it = λ done. ap text_in is ∙ said.it done;
          undone = λ other unprinted. ap text_in is ∙ said.none other unprinted;
        }

    by_or : (body : Option (List ℕ)) → AsksOrNot p c body deeds r → c.scheme ≡ scheme.Http → PrintsItAlone written number payload deeds r
    by_or body (body_memory is none) http = calm (no_memory none) (ap text_in is)
    by_or body (has_body asks) http = by_http_asks (request_bytes c body) (subst (λ (s : Scheme). AsksBy p c body s deeds r) http asks)

  consumed : Consumes o c deeds r → c.scheme ≡ scheme.Http → PrintsItAlone written number payload deeds r
  consumed (is_refused refused is same) http = calm (other_end _ same) (ap text_in is)
  consumed (input_memory is none) http = calm (no_memory none) (ap text_in is)
  consumed (is_done takes asks) http = by_or _ (λ v x. x) _ asks http

pub printed_alone : RepliesAreWhatIsPrinted
printed_alone o c deeds r written payload number http consumes read brings = consumed o c deeds r written payload number read brings consumes http
