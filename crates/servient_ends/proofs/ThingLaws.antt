-- The effect of a request and of a poll on the last values, and the most invocations that there can be.
use Rattle.std.proofs.Common.{◌≡◌, ◌≤◌, ◌<◌, ◌+◌, ◌^◌, ℕ, List, [], ◌∷◌, ◌++◌, map, refl, sym, ap, subst, ◌∙◌, arith, inl, inr, append_assoc}
use Rattle.std.specs.Prelude.{Result, Ok, Err, Option, Some, None}
use Rattle.std.proofs.lemmas.List.{append-nil}
use Rattle.servient_base.specs.Moves.{Then, Becomes}
use Rattle.wot_json.specs.Tree.{Json}
use Rattle.thing_ops.specs.declared.outcome.Outcome.{Outcome}
use Rattle.thing_ops.specs.Requests.{RequestSeen}
use Rattle.thing_handler.specs.declared.handler.CallKind.{CallKind}
use Rattle.thing_handler.specs.declared.handler.CallKind.TheVariants as call
use Rattle.thing_handler.specs.declared.handler.Answer.{Answer}
use Rattle.thing_handler.specs.declared.handler.Answer.TheVariants as answer
use Rattle.thing_handler.specs.Turns.{HandlerCall}
use Rattle.thing_site.specs.Site.{Placed, Site}
use Rattle.thing_state.specs.State.{Status, running, completed, Invocation, State, Emission, LastValue, last_after, renewed, with_id_used, with_invocations}
use Rattle.thing_site.specs.declared.place.ThingAct.{ThingAct}
use Rattle.thing_site.specs.declared.place.ThingAct.TheVariants.{Describes as describes, ReadsAll as reads_all, WritesMany as writes_many, Reads as reads, Writes as writes, Invokes as invokes, Queries as queries, Cancels as cancels, ReadsEvent as reads_event, Waits as waits}
use Rattle.thing_site.specs.Refusals.{Input}
use Rattle.thing_state.specs.Calls.{Move, Called, no_number, no_memory, gives, failure_of, Calls}
use Rattle.thing_core.specs.Thing.{Done, only, ReadsValue, with_value, ReadsEach, Emits, SeesWritten, emissions_of_write, Stops, IfDone, WritesEach, IsInvoked, IsQueried, Queries, IsCancelled, Cancels, Performs, Acts, refuses, has_no_memory, performs, PollsEvent, readable, Decides, Completes}
use Rattle.thing_core.proofs.ReadLaws.{AfterValue}

-- as many ids of invocations are used as turns were made, at most
pub record IsCounted (s : State) : Type 0 where
  pub ids : s.next_invocation ≤ s.turns + 1
  pub turns : s.turns ≤ 4294967295

pub few_ids : (s : State) → IsCounted s → s.next_invocation < 2 ^ 64
few_ids s c = let ids = c.ids in let turns = c.turns in omega arith

-- These were emitted, and are the last values now; and the ids are counted as before.
pub record Emitted (es : List Emission) (s t : State) : Type 0 where
  pub last : t.last ≡ last_after es s.last
  pub counted : IsCounted s → IsCounted t

same_counted : (s t : State) → t.next_invocation ≡ s.next_invocation → t.turns ≡ s.turns → IsCounted s → IsCounted t
same_counted s t ids turns c = let i = c.ids in let n = c.turns in record { ids = omega arith; turns = omega arith }

emitted_none : (s t : State) → t ≡ s → Emitted [] s t
emitted_none s t e = record { last = ap (λ (x : State). x.last) e; counted = λ c. subst IsCounted (sym e) c }

last_after_both : (a b : List Emission) (last : List LastValue) → last_after (a ++ b) last ≡ last_after b (last_after a last)
last_after_both [] b last = refl
last_after_both (e ∷ a) b last = last_after_both a b (map (renewed e) last)

pub emitted_then : (a b : List Emission) (s m t : State) → Emitted a s m → Emitted b m t → Emitted (a ++ b) s t
emitted_then a b s m t one two = record {
  last = two.last ∙ ap (λ (l : List LastValue). last_after b l) one.last ∙ sym (last_after_both a b s.last);
  counted = λ c. two.counted (one.counted c);
}

none_then : (s m t : State) → Emitted [] s m → Emitted [] m t → Emitted [] s t
none_then s m t one two = emitted_then [] [] s m t one two

-- one call
call_emits : (slot : ℕ) (what : CallKind) (c : Called) (s : State) (seen : List HandlerCall) (t : State) → Calls slot what c s seen t → Emitted [] s t
call_emits slot what no_number s seen t p = emitted_none s t p.1.next
call_emits slot what no_memory s seen t p = emitted_none s t p.1.next
call_emits slot what (gives a) s seen t p = record {
  last = ap (λ (x : State). x.last) p.1.next;
  counted = λ c.
      let i = c.ids in
      let n = p.0 in
      let ids = ap (λ (x : State). x.next_invocation) p.1.next in
      let turns = ap (λ (x : State). x.turns) p.1.next in
      record { ids = omega arith; turns = omega arith };
}

-- the outcome of a request, where it emitted nothing
record IsPlain (done : Done) (s t : State) : Type 0 where
  nothing : done.emissions ≡ []
  emits : Emitted [] s t

plain_emits : (done : Done) (s t : State) → IsPlain done s t → Emitted done.emissions s t
plain_emits done s t p = subst (λ (es : List Emission). Emitted es s t) (sym p.nothing) p.emits

only_emits : (done : Done) (o : Outcome) → done ≡ only o → done.emissions ≡ []
only_emits done o is = ap (λ (d : Done). d.emissions) is

plain_is : (done : Done) (o : Outcome) (s t : State) → done ≡ only o → t ≡ s → IsPlain done s t
plain_is done o s t is same = record { nothing = only_emits done o is; emits = emitted_none s t same }

plain_after : (done : Done) (s m t : State) → Emitted [] s m → IsPlain done m t → IsPlain done s t
plain_after done s m t one two = record { nothing = two.nothing; emits = none_then s m t one two.emits }

-- ---- reads

-- seeing a value emits nothing
seen_emits : (p : Placed) (r : Result Json Outcome) (s t : State) → t ≡ with_value p r s → Emitted [] s t
seen_emits p (Ok value) s t e = record {
  last = ap (λ (x : State). x.last) e;
  counted = λ c. same_counted s t (ap (λ (x : State). x.next_invocation) e) (ap (λ (x : State). x.turns) e) c;
}
seen_emits p (Err o) s t e = emitted_none s t e

value_emits : (p : Placed) (r : Result Json Outcome) (s : State) (seen : List HandlerCall) (t : State) → ReadsValue p r s seen t → Emitted [] s t
value_emits p r s seen t q = none_then s q.1.mid t (call_emits p.slot call.Read q.0 s q.1.first q.1.mid q.1.one) (seen_emits p r q.1.mid t q.1.other.1.next)

each_plain : (ps : List Placed) (got : List (List ℕ × Json)) (done : Done) (s : State) (seen : List HandlerCall) (t : State) → ReadsEach ps got done s seen t → IsPlain done s t
each_plain [] got done s seen t q = plain_is done _ s t q.0 q.1.next
each_plain (p ∷ ps) got done s seen t q =
    plain_after done s q.1.mid t (value_emits p q.0 s q.1.first q.1.mid q.1.one) (after (λ more. each_plain ps more done q.1.mid q.1.second t) q.0 q.1.other)
  where
    after : ((more : List (List ℕ × Json)) → ReadsEach ps more done q.1.mid q.1.second t → IsPlain done q.1.mid t) → (r : Result Json Outcome) → AfterValue p ps got done r q.1.mid q.1.second t → IsPlain done q.1.mid t
    after further (Ok value) x = further (got ++ (p.affordance.name, value) ∷ []) x
    after further (Err o) x = plain_is done o q.1.mid t x.0 x.1.next

-- ---- writes

-- the emissions of a row of writes beside those before
record EmitsMore (before : List Emission) (done : Done) (s t : State) : Type 0 where
  more : List Emission
  all : done.emissions ≡ before ++ more
  emits : Emitted more s t

stops_more : (o : Outcome) (before : List Emission) (done : Done) (s : State) (seen : List HandlerCall) (t : State) → Stops o before done s seen t → EmitsMore before done s t
stops_more o before done s seen t x = record { more = []; all = ap (λ (d : Done). d.emissions) x.0 ∙ sym (append-nil before); emits = emitted_none s t x.1.next }

emits_these : (es : List Emission) (s : State) (seen : List HandlerCall) (t : State) → Emits es s seen t → Emitted es s t
emits_these es s seen t b = record {
  last = ap (λ (x : State). x.last) b.next;
  counted = λ c. same_counted s t (ap (λ (x : State). x.next_invocation) b.next) (ap (λ (x : State). x.turns) b.next) c;
}

written_emits : (i : Input) (s : State) (seen : List HandlerCall) (t : State) → SeesWritten i s seen t → Emitted (emissions_of_write i) s t
written_emits i s seen t b = record {
  last = ap (λ (x : State). x.last) b.next;
  counted = λ c. same_counted s t (ap (λ (x : State). x.next_invocation) b.next) (ap (λ (x : State). x.turns) b.next) c;
}

if_done : (called : Called) (F O : Move) (s : State) (seen : List HandlerCall) (t : State) (K : Type 0) → (F s seen t → K) → (O s seen t → K) → IfDone called F O s seen t → K
if_done (gives answer.Done) F O s seen t K f o x = f x
if_done called F O s seen t K f o x = o x

more_after : (a before : List Emission) (done : Done) (s m t : State) → Emitted a s m → EmitsMore (before ++ a) done m t → EmitsMore before done s t
more_after a before done s m t one two = record { more = a ++ two.more; all = two.all ∙ append_assoc before a two.more; emits = emitted_then a two.more s m t one two.emits }

none_before : (before : List Emission) (done : Done) (s m t : State) → Emitted [] s m → EmitsMore before done m t → EmitsMore before done s t
none_before before done s m t one two = record { more = two.more; all = two.all; emits = emitted_then [] two.more s m t one two.emits }

writes_more : (is : List Input) (before : List Emission) (done : Done) (s : State) (seen : List HandlerCall) (t : State) → WritesEach is before done s seen t → EmitsMore before done s t
writes_more [] before done s seen t q = stops_more _ before done s seen t q
writes_more (i ∷ is) before done s seen t q =
    none_before before done s q.2.1.mid t (call_emits i.affordance.slot (call.Write q.0) q.2.0 s q.2.1.first q.2.1.mid q.2.1.one)
    (if_done q.2.0 (Then (SeesWritten i) (WritesEach is (before ++ emissions_of_write i) done)) (Stops (failure_of q.2.0) before done) q.2.1.mid q.2.1.second t (EmitsMore before done q.2.1.mid t)
    (λ x. more_after (emissions_of_write i) before done q.2.1.mid x.mid t (written_emits i q.2.1.mid x.first x.mid x.one)
    (writes_more is (before ++ emissions_of_write i) done x.mid x.second t x.other))
    (λ x. stops_more (failure_of q.2.0) before done q.2.1.mid q.2.1.second t x) q.2.1.other)

writes_emit : (is : List Input) (done : Done) (s : State) (seen : List HandlerCall) (t : State) → WritesEach is [] done s seen t → Emitted done.emissions s t
writes_emit is done s seen t q = let m = writes_more is [] done s seen t q in subst (λ (es : List Emission). Emitted es s t) (sym m.all) m.emits

-- ---- actions

-- one id is used where one turn was made
id_used : (s m t : State) → s.turns < 4294967295 → m.last ≡ s.last → m.next_invocation ≡ s.next_invocation → m.turns ≡ s.turns + 1
    → t.last ≡ m.last → t.next_invocation ≡ m.next_invocation + 1 → t.turns ≡ m.turns → Emitted [] s t
id_used s m t few last ids turns last' ids' turns' = record { last = last' ∙ last; counted = λ c. let i = c.ids in record { ids = omega arith; turns = omega arith } }

-- a call that was answered, and then an id that is used
used_plain : (slot : ℕ) (what : CallKind) (c : Answer) (done : Done) (s m u : State) (a b : List HandlerCall) (t : State) → done.emissions ≡ [] → Calls slot what (gives c) s a m
    → u.last ≡ m.last → u.next_invocation ≡ m.next_invocation + 1 → u.turns ≡ m.turns → Becomes u [] b t → IsPlain done s t
used_plain slot what c done s m u a b t none k last ids turns x = record {
  nothing = none;
  emits = id_used s m t (let few = k.0 in omega arith) (ap (λ (y : State). y.last) k.1.next) (ap (λ (y : State). y.next_invocation) k.1.next) (ap (λ (y : State). y.turns) k.1.next)
      (ap (λ (y : State). y.last) x.next ∙ last) (ap (λ (y : State). y.next_invocation) x.next ∙ ids) (ap (λ (y : State). y.turns) x.next ∙ turns);
}

decided_none : (P : Type 0) (o p : Outcome) (done : Done) → Decides P (only o) (only p) done → done.emissions ≡ []
decided_none P o p done (inl x) = only_emits done o x.1
decided_none P o p done (inr x) = only_emits done p x.1

-- an invocation with its call uses an id at most where a turn was made
invoked_plain : (p : Placed) (path : List (List ℕ)) (id slot : ℕ) (what : CallKind) (done : Done) (called : Called) (s m : State) (a b : List HandlerCall) (t : State)
    → Calls slot what called s a m → IsInvoked p path id done called m b t → IsPlain done s t
invoked_plain p path id slot what done no_number s m a b t k x = plain_after done s m t (call_emits slot what no_number s a m k) (plain_is done _ m t x.0 x.1.next)
invoked_plain p path id slot what done no_memory s m a b t k x = plain_after done s m t (call_emits slot what no_memory s a m k) (plain_is done _ m t x.0 x.1.next)
invoked_plain p path id slot what done (gives answer.Started) s m a b t k x = used_plain slot what answer.Started done s m _ a b t (only_emits done _ x.0) k refl refl refl x.1
invoked_plain p path id slot what done (gives (answer.Finished None)) s m a b t k x = used_plain slot what (answer.Finished None) done s m _ a b t (only_emits done _ x.0) k refl refl refl x.1
invoked_plain p path id slot what done (gives (answer.Finished (Some tree))) s m a b t k x =
    used_plain slot what (answer.Finished (Some tree)) done s m _ a b t (decided_none _ _ _ done x.0) k refl refl refl x.1
invoked_plain p path id slot what done (gives (answer.Value tree)) s m a b t k x = used_plain slot what (answer.Value tree) done s m (with_id_used m) a b t (only_emits done _ x.0) k refl refl refl x.1
invoked_plain p path id slot what done (gives answer.Done) s m a b t k x = used_plain slot what answer.Done done s m (with_id_used m) a b t (only_emits done _ x.0) k refl refl refl x.1
invoked_plain p path id slot what done (gives answer.Running) s m a b t k x = used_plain slot what answer.Running done s m (with_id_used m) a b t (only_emits done _ x.0) k refl refl refl x.1
invoked_plain p path id slot what done (gives answer.Cancelled) s m a b t k x = used_plain slot what answer.Cancelled done s m (with_id_used m) a b t (only_emits done _ x.0) k refl refl refl x.1
invoked_plain p path id slot what done (gives answer.Quiet) s m a b t k x = used_plain slot what answer.Quiet done s m (with_id_used m) a b t (only_emits done _ x.0) k refl refl refl x.1
invoked_plain p path id slot what done (gives (answer.Fired tree)) s m a b t k x = used_plain slot what (answer.Fired tree) done s m (with_id_used m) a b t (only_emits done _ x.0) k refl refl refl x.1
invoked_plain p path id slot what done (gives (answer.Refused n)) s m a b t k x = used_plain slot what (answer.Refused n) done s m (with_id_used m) a b t (only_emits done _ x.0) k refl refl refl x.1
invoked_plain p path id slot what done (gives (answer.DeviceFault n)) s m a b t k x = used_plain slot what (answer.DeviceFault n) done s m (with_id_used m) a b t (only_emits done _ x.0) k refl refl refl x.1

-- other invocations are left, and nothing else changes
invocations_plain : (done : Done) (o : Outcome) (invocations : List Invocation) (s : State) (seen : List HandlerCall) (t : State) → done ≡ only o → Becomes (with_invocations invocations s) [] seen t → IsPlain done s t
invocations_plain done o invocations s seen t is x = record {
  nothing = only_emits done o is;
  emits = record {
    last = ap (λ (y : State). y.last) x.next;
    counted = λ c. same_counted s t (ap (λ (y : State). y.next_invocation) x.next) (ap (λ (y : State). y.turns) x.next) c;
  };
}

completes_plain : (id : ℕ) (output : Option (List ℕ)) (done : Done) (s : State) (seen : List HandlerCall) (t : State) → Completes id output done s seen t → IsPlain done s t
completes_plain id output done s seen t x = invocations_plain done _ _ s seen t x.0 x.1

queried_plain : (p : Placed) (id : ℕ) (done : Done) (called : Called) (s : State) (seen : List HandlerCall) (t : State) → IsQueried p id done called s seen t → IsPlain done s t
queried_plain p id done (gives answer.Running) s seen t x = plain_is done _ s t x.0 x.1.next
queried_plain p id done (gives (answer.Finished None)) s seen t x = completes_plain id None done s seen t x
queried_plain p id done (gives (answer.Finished (Some tree))) s seen t (inl x) = completes_plain id _ done s seen t x.1
queried_plain p id done (gives (answer.Finished (Some tree))) s seen t (inr x) = plain_is done _ s t x.1.0 x.1.1.next
queried_plain p id done no_number s seen t x = plain_is done _ s t x.0 x.1.next
queried_plain p id done no_memory s seen t x = plain_is done _ s t x.0 x.1.next
queried_plain p id done (gives answer.Started) s seen t x = plain_is done _ s t x.0 x.1.next
queried_plain p id done (gives (answer.Value tree)) s seen t x = plain_is done _ s t x.0 x.1.next
queried_plain p id done (gives answer.Done) s seen t x = plain_is done _ s t x.0 x.1.next
queried_plain p id done (gives answer.Cancelled) s seen t x = plain_is done _ s t x.0 x.1.next
queried_plain p id done (gives answer.Quiet) s seen t x = plain_is done _ s t x.0 x.1.next
queried_plain p id done (gives (answer.Fired tree)) s seen t x = plain_is done _ s t x.0 x.1.next
queried_plain p id done (gives (answer.Refused n)) s seen t x = plain_is done _ s t x.0 x.1.next
queried_plain p id done (gives (answer.DeviceFault n)) s seen t x = plain_is done _ s t x.0 x.1.next

cancelled_plain : (id : ℕ) (done : Done) (called : Called) (s : State) (seen : List HandlerCall) (t : State) → IsCancelled id done called s seen t → IsPlain done s t
cancelled_plain id done (gives answer.Cancelled) s seen t x = invocations_plain done _ _ s seen t x.0 x.1
cancelled_plain id done no_number s seen t x = plain_is done _ s t x.0 x.1.next
cancelled_plain id done no_memory s seen t x = plain_is done _ s t x.0 x.1.next
cancelled_plain id done (gives answer.Started) s seen t x = plain_is done _ s t x.0 x.1.next
cancelled_plain id done (gives (answer.Value tree)) s seen t x = plain_is done _ s t x.0 x.1.next
cancelled_plain id done (gives answer.Done) s seen t x = plain_is done _ s t x.0 x.1.next
cancelled_plain id done (gives answer.Running) s seen t x = plain_is done _ s t x.0 x.1.next
cancelled_plain id done (gives (answer.Finished output)) s seen t x = plain_is done _ s t x.0 x.1.next
cancelled_plain id done (gives answer.Quiet) s seen t x = plain_is done _ s t x.0 x.1.next
cancelled_plain id done (gives (answer.Fired tree)) s seen t x = plain_is done _ s t x.0 x.1.next
cancelled_plain id done (gives (answer.Refused n)) s seen t x = plain_is done _ s t x.0 x.1.next
cancelled_plain id done (gives (answer.DeviceFault n)) s seen t x = plain_is done _ s t x.0 x.1.next

queries_plain : (p : Placed) (id : ℕ) (status : Status) (done : Done) (s : State) (seen : List HandlerCall) (t : State) → Queries p id status done s seen t → IsPlain done s t
queries_plain p id running done s seen t q =
    plain_after done s q.1.mid t (call_emits p.slot (call.Query id) q.0 s q.1.first q.1.mid q.1.one) (queried_plain p id done q.0 q.1.mid q.1.second t q.1.other)
queries_plain p id (completed output) done s seen t q = plain_is done _ s t q.0 q.1.next

cancels_plain : (p : Placed) (id : ℕ) (status : Status) (done : Done) (s : State) (seen : List HandlerCall) (t : State) → Cancels p id status done s seen t → IsPlain done s t
cancels_plain p id running done s seen t q =
    plain_after done s q.1.mid t (call_emits p.slot (call.Cancel id) q.0 s q.1.first q.1.mid q.1.one) (cancelled_plain id done q.0 q.1.mid q.1.second t q.1.other)
cancels_plain p id (completed output) done s seen t q = invocations_plain done _ _ s seen t q.0 q.1

-- ---- requests and polls

performs_emit : (act : ThingAct) (q : RequestSeen) (is : List Input) (done : Done) (s : State) (seen : List HandlerCall) (t : State) → Performs act q is done s seen t → Emitted done.emissions s t
performs_emit (describes thing) q is done s seen t x = plain_emits done s t (plain_is done _ s t x.0 x.1.next)
performs_emit (reads_all thing) q is done s seen t x = plain_emits done s t (each_plain (readable thing) [] done s seen t x)
performs_emit (writes_many thing) q is done s seen t x = writes_emit is done s seen t x
performs_emit (reads p) q is done s seen t x = plain_emits done s t (record { nothing = only_emits done _ x.1; emits = value_emits p x.0 s seen t x.2 })
performs_emit (writes p) q is done s seen t x = writes_emit is done s seen t x
performs_emit (invokes p) q is done s seen t x =
    plain_emits done s t (invoked_plain p q.path s.next_invocation p.slot (call.Invoke s.next_invocation x.0) done x.2.0 s x.2.1.mid x.2.1.first x.2.1.second t x.2.1.one x.2.1.other)
performs_emit (queries p id) q is done s seen t x = plain_emits done s t (queries_plain p id x.0.status done s seen t x.2)
performs_emit (cancels p id) q is done s seen t x = plain_emits done s t (cancels_plain p id x.0.status done s seen t x.2)
performs_emit (reads_event p) q is done s seen t x = plain_emits done s t (plain_is done _ s t x.0 x.1.next)
performs_emit (waits p) q is done s seen t x = plain_emits done s t (plain_is done _ s t x.0 x.1.next)

-- The emissions of a request become the last values.
pub acts_emit : (site : Site) (q : RequestSeen) (done : Done) (s : State) (seen : List HandlerCall) (t : State) → Acts site q done s seen t → Emitted done.emissions s t
acts_emit site q done s seen t (refuses o refused answers) = plain_emits done s t (plain_is done o s t answers.0 answers.1.next)
acts_emit site q done s seen t (has_no_memory answers) = plain_emits done s t (plain_is done _ s t answers.0 answers.1.next)
acts_emit site q done s seen t (performs act inputs free asked given does) = performs_emit act q inputs done s seen t does

-- So does what a poll emits.
pub polls_emit : (p : Placed) (es : List Emission) (s : State) (seen : List HandlerCall) (t : State) → PollsEvent p es s seen t → Emitted es s t
polls_emit p es s seen t q =
    emitted_then [] es s q.1.mid t (call_emits p.slot call.Poll q.0 s q.1.first q.1.mid q.1.one) (emits_these es q.1.mid q.1.second t q.1.other.1)
