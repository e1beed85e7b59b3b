-- A request that nothing is against, and whose devices answer in kind, has the success of its act as its outcome.
use Rattle.std.proofs.Common.{◌≡◌, ℕ, List, [], ◌∷◌, ◌++◌, refl, sym, ap, subst, ◌∙◌, inl, inr}
use Rattle.std.specs.Prelude.{◌⊎◌, Result, Ok, Err, Option, Some, None}
use Rattle.std.specs.List.{AllByRecursion}
use Rattle.std.proofs.lemmas.List.{append-nil}
use Rattle.std.proofs.lemmas.Option.{same_Some}
use Rattle.servient_base.specs.Moves.{Then}
use Rattle.wot_json.specs.Tree.{Json}
use Rattle.wot_json.specs.Json.{text_of}
use Rattle.wot_json.specs.declared.tree.Tree.{Tree}
use Rattle.wot_terms.specs.declared.kind.Kind.TheVariants as kind
use Rattle.thing_ops.specs.declared.conditions.Conditions.{Conditions}
use Rattle.thing_ops.specs.declared.outcome.Outcome.{Outcome}
use Rattle.thing_ops.specs.declared.outcome.Outcome.TheVariants as outcome
use Rattle.thing_ops.specs.Requests.{RequestSeen}
use Rattle.thing_handler.specs.declared.handler.CallKind.{CallKind}
use Rattle.thing_handler.specs.declared.handler.CallKind.TheVariants as call
use Rattle.thing_handler.specs.declared.handler.Answer.TheVariants as answer
use Rattle.thing_handler.specs.Turns.{HandlerCall, answered, missed}
use Rattle.thing_site.specs.Site.{Placed, Site, those_of, of_kind}
use Rattle.thing_state.specs.State.{Status, running, completed, State, Emission, last_of, version_of, most_turns}
use Rattle.thing_site.specs.declared.place.ThingAct.{ThingAct}
use Rattle.thing_site.specs.declared.place.ThingAct.TheVariants.{Describes as describes, ReadsAll as reads_all, WritesMany as writes_many, Reads as reads, Writes as writes, Invokes as invokes, Queries as queries, Cancels as cancels, ReadsEvent as reads_event, Waits as waits}
use Rattle.thing_site.specs.Refusals.{Refusal, Input, inputs_of, IsFirst, IsNone}
use Rattle.thing_core.specs.Refusals.{Asked, refusals, Stands, IsAnsweredWith}
use Rattle.thing_state.specs.Calls.{Move, Called, no_number, no_memory, gives, failure_of, Calls}
use Rattle.thing_core.specs.Thing.{Done, outcome_of_read, only, GivesValue, ReadsValue, with_value, is_readable, readable, ReadsEach, SeesWritten, emissions_of_write, Stops, IfDone, WritesEach, IsInvoked, IsQueried, Queries, IsCancelled, Cancels, event_outcome, Performs, refuses, has_no_memory, performs}
use Rattle.thing_core.specs.Performing.{affordances_of_act}
use Rattle.thing_core.specs.Completeness.{IsInKind, AnswersInKind, IsContent, IsRead, IsInvocation, IsSuccess, Succeeds, succeeds, lacks_memory, lacks_numbers, IsComplete}
use Rattle.thing_core.proofs.PlacedLists.{filter_has}
use Rattle.thing_core.proofs.ReadLaws.{AfterValue}
use Rattle.thing_core.proofs.Handed.{InputsHave, handed_have}

-- ---- answers in kind

-- calls that follow others are answered in kind too
rest_in_kind : (first rest : List HandlerCall) (p : Placed) → AnswersInKind (first ++ rest) p → AnswersInKind rest p
rest_in_kind [] rest p h = h
rest_in_kind (answered turn ∷ first) rest p h = rest_in_kind first rest p h.1
rest_in_kind (missed slot ∷ first) rest p h = rest_in_kind first rest p h

rests_in_kind : (first rest : List HandlerCall) (ps : List Placed) → AllByRecursion (AnswersInKind (first ++ rest)) ps → AllByRecursion (AnswersInKind rest) ps
rests_in_kind first rest [] all = tt
rests_in_kind first rest (p ∷ ps) all = (rest_in_kind first rest p all.0, rests_in_kind first rest ps all.1)

inputs_rest : (first rest : List HandlerCall) (is : List Input) → InputsHave (AnswersInKind (first ++ rest)) is → InputsHave (AnswersInKind rest) is
inputs_rest first rest [] all = tt
inputs_rest first rest (i ∷ is) all = (rest_in_kind first rest i.affordance all.0, inputs_rest first rest is all.1)

-- the result of a call is an answer in kind, or none
abbrev CalledInKind : Placed → CallKind → Called → Type 0
CalledInKind p what no_number = Unit {0}
CalledInKind p what no_memory = Unit {0}
CalledInKind p what (gives a) = IsInKind p.affordance.output what a

called_in_kind : (p : Placed) (what : CallKind) (called : Called) (s mid : State) (first rest : List HandlerCall) → Calls p.slot what called s first mid → AnswersInKind (first ++ rest) p → CalledInKind p what called
called_in_kind p what no_number s mid first rest made h = tt
called_in_kind p what no_memory s mid first rest made h = tt
called_in_kind p what (gives a) s mid first rest made h =
    (subst (λ (l : List HandlerCall). AnswersInKind (l ++ rest) p) made.1.saw h).0 refl

-- ---- what an outcome is

outcome_is : (done : Done) (o : Outcome) → done ≡ only o → done.outcome ≡ o
outcome_is done o e = ap (λ (d : Done). d.outcome) e

is_content : (done : Done) (text : List ℕ) (t : State) → done ≡ only (outcome.Content text None) → Succeeds IsContent done.outcome t
is_content done text t e = succeeds (text, outcome_is done (outcome.Content text None) e)

-- ---- properties

-- the run has no number left for a turn
abbrev IsFull : State → Type 0
IsFull s = s.turns ≡ most_turns s.left_out

-- neither the turns nor the versions that are left out have changed
abbrev IsAsFull : State → State → Type 0
IsAsFull s t = (t.turns ≡ s.turns) × (t.left_out ≡ s.left_out)

full_on : (s t : State) → IsAsFull s t → IsFull s → IsFull t
full_on s t same full = same.0 ∙ full ∙ ap most_turns (sym same.1)

-- a value, or the reason that there is none
abbrev ValueSucceeds : Result Json Outcome → State → Type 0
ValueSucceeds (Ok value) t = Unit {0}
ValueSucceeds (Err o) t = Succeeds (λ _. ⊥) o t

given_in_kind : (p : Placed) (called : Called) (r : Result Json Outcome) (s mid t : State) (first : List HandlerCall) → Calls p.slot call.Read called s first mid → CalledInKind p call.Read called
    → GivesValue p.affordance.output called r → IsAsFull mid t → ValueSucceeds r t
given_in_kind p no_number r s mid t first made well given after =
    subst (λ (x : Result Json Outcome). ValueSucceeds x t) (sym given) (lacks_numbers refl (full_on mid t after (subst IsFull (sym made.1.next) made.0)))
given_in_kind p no_memory r s mid t first made well given after = subst (λ (x : Result Json Outcome). ValueSucceeds x t) (sym given) (lacks_memory refl)
given_in_kind p (gives (answer.Value tree)) r s mid t first made well (inl given) after = subst (λ (x : Result Json Outcome). ValueSucceeds x t) (sym given.1) tt
given_in_kind p (gives (answer.Value tree)) r s mid t first made well (inr given) after = absurd (given.0 well)
given_in_kind p (gives a) r s mid t first made well given after = absurd well

-- seeing a value is no turn
turns_stay : (p : Placed) (r : Result Json Outcome) (s t : State) → t ≡ with_value p r s → IsAsFull s t
turns_stay p (Ok value) s t e = (ap (λ (x : State). x.turns) e, ap (λ (x : State). x.left_out) e)
turns_stay p (Err o) s t e = (ap (λ (x : State). x.turns) e, ap (λ (x : State). x.left_out) e)

value_succeeds : (p : Placed) (r : Result Json Outcome) (s t : State) (seen rest : List HandlerCall) → ReadsValue p r s seen t → AnswersInKind (seen ++ rest) p → ValueSucceeds r t
value_succeeds p r s t seen rest q h =
    let whole : seen ≡ q.1.first = q.1.whole ∙ ap (λ (l : List HandlerCall). q.1.first ++ l) q.1.other.1.saw ∙ append-nil q.1.first in
    given_in_kind p q.0 r s q.1.mid t q.1.first q.1.one
    (called_in_kind p call.Read q.0 s q.1.mid q.1.first rest q.1.one (subst (λ (l : List HandlerCall). AnswersInKind (l ++ rest) p) whole h))
    q.1.other.0 (turns_stay p r q.1.mid t q.1.other.1.next)

-- the reason that there is no value is that of the whole
stops_there : (S : Outcome → Type 0) (o : Outcome) (done : Done) (mid t : State) → Succeeds (λ _. ⊥) o mid → done ≡ only o → t ≡ mid → Succeeds S done.outcome t
stops_there S o done mid t (succeeds none) e after = absurd none
stops_there S o done mid t (lacks_memory is) e after = lacks_memory (outcome_is done o e ∙ is)
stops_there S o done mid t (lacks_numbers is full) e after = lacks_numbers (outcome_is done o e ∙ is) (subst IsFull (sym after) full)

each_read : (ps : List Placed) (got : List (List ℕ × Json)) (done : Done) (s t : State) (seen : List HandlerCall) → ReadsEach ps got done s seen t
    → AllByRecursion (AnswersInKind seen) ps → Succeeds IsContent done.outcome t
each_read [] got done s t seen q all = is_content done _ t q.0
each_read (p ∷ ps) got done s t seen q all =
    let whole : AllByRecursion (AnswersInKind (q.1.first ++ q.1.second)) (p ∷ ps) =
    subst (λ (l : List HandlerCall). AllByRecursion (AnswersInKind l) (p ∷ ps)) q.1.whole all in
    after (λ more further. each_read ps more done q.1.mid t q.1.second further (rests_in_kind q.1.first q.1.second ps whole.1)) q.0
    (value_succeeds p q.0 s q.1.mid q.1.first q.1.second q.1.one whole.0) q.1.other
  where
    after : ((more : List (List ℕ × Json)) → ReadsEach ps more done q.1.mid q.1.second t → Succeeds IsContent done.outcome t)
        → (r : Result Json Outcome) → ValueSucceeds r q.1.mid → AfterValue p ps got done r q.1.mid q.1.second t → Succeeds IsContent done.outcome t
    after further (Ok value) well x = further (got ++ (p.affordance.name, value) ∷ []) x
    after further (Err o) well x = stops_there IsContent o done q.1.mid t well x.0 x.1.next

-- one property
one_read : (c : Conditions) (version : ℕ) (r : Result Json Outcome) (done : Done) (t : State) → ValueSucceeds r t → done ≡ only (outcome_of_read c version r)
    → Succeeds (IsRead c) done.outcome t
one_read c version (Ok value) done t well e = succeeds (version, text_of value, outcome_is done _ e)
one_read c version (Err o) done t well e = stops_there (IsRead c) o done t t well e refl

abbrev IsChanged : Outcome → Type 0
IsChanged o = o ≡ outcome.Changed

-- one write among several
one_write : (i : Input) (tree : Tree) (called : Called) (F : Move) (emitted : List Emission) (done : Done) (s mid t : State) (first second : List HandlerCall)
    → Calls i.affordance.slot (call.Write tree) called s first mid → CalledInKind i.affordance (call.Write tree) called → (F mid second t → Succeeds IsChanged done.outcome t)
    → IfDone called F (Stops (failure_of called) emitted done) mid second t → Succeeds IsChanged done.outcome t
one_write i tree no_number F emitted done s mid t first second made well further x =
    lacks_numbers (ap (λ (d : Done). d.outcome) x.0) (subst IsFull (sym (x.1.next ∙ made.1.next)) made.0)
one_write i tree no_memory F emitted done s mid t first second made well further x = lacks_memory (ap (λ (d : Done). d.outcome) x.0)
one_write i tree (gives answer.Done) F emitted done s mid t first second made well further x = further x
one_write i tree (gives a) F emitted done s mid t first second made well further x = absurd well

each_written : (is : List Input) (emitted : List Emission) (done : Done) (s t : State) (seen : List HandlerCall) → WritesEach is emitted done s seen t
    → InputsHave (AnswersInKind seen) is → Succeeds IsChanged done.outcome t
each_written [] emitted done s t seen q all = succeeds (ap (λ (d : Done). d.outcome) q.0)
each_written (i ∷ is) emitted done s t seen q all =
    let step = q.2.1 in
    let whole : InputsHave (AnswersInKind (step.first ++ step.second)) (i ∷ is) =
    subst (λ (l : List HandlerCall). InputsHave (AnswersInKind l) (i ∷ is)) step.whole all in
    one_write i q.0 q.2.0 (Then (SeesWritten i) (WritesEach is (emitted ++ emissions_of_write i) done)) emitted done s step.mid t step.first step.second step.one
    (called_in_kind i.affordance (call.Write q.0) q.2.0 s step.mid step.first step.second step.one whole.0)
    (λ x. each_written is (emitted ++ emissions_of_write i) done x.mid t x.second x.other
    (inputs_rest x.first x.second is (subst (λ (l : List HandlerCall). InputsHave (AnswersInKind l) is) x.whole (inputs_rest step.first step.second is whole.1))))
    step.other

-- ---- actions

invoked : (p : Placed) (path : List (List ℕ)) (id : ℕ) (handed : Option Tree) (called : Called) (done : Done) (s mid t : State) (first second : List HandlerCall)
    → Calls p.slot (call.Invoke id handed) called s first mid → CalledInKind p (call.Invoke id handed) called → IsInvoked p path id done called mid second t → Succeeds IsInvocation done.outcome t
invoked p path id handed no_number done s mid t first second made well x =
    lacks_numbers (outcome_is done _ x.0) (subst IsFull (sym (x.1.next ∙ made.1.next)) made.0)
invoked p path id handed no_memory done s mid t first second made well x = lacks_memory (outcome_is done _ x.0)
invoked p path id handed (gives answer.Started) done s mid t first second made well x = succeeds (inr (inr (_, _, outcome_is done _ x.0)))
invoked p path id handed (gives (answer.Finished None)) done s mid t first second made well x = succeeds (inl (outcome_is done _ x.0))
invoked p path id handed (gives (answer.Finished (Some tree))) done s mid t first second made well (inl taken, x) = succeeds (inr (inl (_, outcome_is done _ taken.1)))
invoked p path id handed (gives (answer.Finished (Some tree))) done s mid t first second made well (inr refused, x) = absurd (refused.0 well)
invoked p path id handed (gives a) done s mid t first second made well x = absurd well

queried : (p : Placed) (id : ℕ) (called : Called) (done : Done) (s mid t : State) (first second : List HandlerCall)
    → Calls p.slot (call.Query id) called s first mid → CalledInKind p (call.Query id) called → IsQueried p id done called mid second t → Succeeds IsContent done.outcome t
queried p id no_number done s mid t first second made well x =
    lacks_numbers (outcome_is done _ x.0) (subst IsFull (sym (x.1.next ∙ made.1.next)) made.0)
queried p id no_memory done s mid t first second made well x = lacks_memory (outcome_is done _ x.0)
queried p id (gives answer.Running) done s mid t first second made well x = is_content done _ t x.0
queried p id (gives (answer.Finished None)) done s mid t first second made well x = is_content done _ t x.0
queried p id (gives (answer.Finished (Some tree))) done s mid t first second made well (inl taken) = is_content done _ t taken.1.0
queried p id (gives (answer.Finished (Some tree))) done s mid t first second made well (inr refused) = absurd (refused.0 well)
queried p id (gives a) done s mid t first second made well x = absurd well

abbrev IsDeleted : Outcome → Type 0
IsDeleted o = o ≡ outcome.Deleted

cancelled : (p : Placed) (id : ℕ) (called : Called) (done : Done) (s mid t : State) (first second : List HandlerCall)
    → Calls p.slot (call.Cancel id) called s first mid → CalledInKind p (call.Cancel id) called → IsCancelled id done called mid second t → Succeeds IsDeleted done.outcome t
cancelled p id no_number done s mid t first second made well x =
    lacks_numbers (outcome_is done _ x.0) (subst IsFull (sym (x.1.next ∙ made.1.next)) made.0)
cancelled p id no_memory done s mid t first second made well x = lacks_memory (outcome_is done _ x.0)
cancelled p id (gives answer.Cancelled) done s mid t first second made well x = succeeds (outcome_is done _ x.0)
cancelled p id (gives a) done s mid t first second made well x = absurd well

queries_succeed : (p : Placed) (id : ℕ) (status : Status) (done : Done) (s t : State) (seen : List HandlerCall) → Queries p id status done s seen t → AnswersInKind seen p → Succeeds IsContent done.outcome t
queries_succeed p id running done s t seen q h =
    queried p id q.0 done s q.1.mid t q.1.first q.1.second q.1.one
    (called_in_kind p (call.Query id) q.0 s q.1.mid q.1.first q.1.second q.1.one (subst (λ (l : List HandlerCall). AnswersInKind l p) q.1.whole h)) q.1.other
queries_succeed p id (completed output) done s t seen q h = is_content done _ t q.0

cancels_succeed : (p : Placed) (id : ℕ) (status : Status) (done : Done) (s t : State) (seen : List HandlerCall) → Cancels p id status done s seen t → AnswersInKind seen p → Succeeds IsDeleted done.outcome t
cancels_succeed p id running done s t seen q h =
    cancelled p id q.0 done s q.1.mid t q.1.first q.1.second q.1.one
    (called_in_kind p (call.Cancel id) q.0 s q.1.mid q.1.first q.1.second q.1.one (subst (λ (l : List HandlerCall). AnswersInKind l p) q.1.whole h)) q.1.other
cancels_succeed p id (completed output) done s t seen q h = succeeds (outcome_is done _ q.0)

-- ---- acts

emission_read : (done : Done) (text : Option (List ℕ)) (t : State) → done ≡ only (event_outcome text) → Succeeds (λ o. (o ≡ outcome.Empty) ⊎ IsContent o) done.outcome t
emission_read done None t e = succeeds (inl (outcome_is done _ e))
emission_read done (Some text) t e = succeeds (inr (text, outcome_is done _ e))

act_succeeds : (act : ThingAct) (q : RequestSeen) (inputs : List Input) (done : Done) (s t : State) (seen : List HandlerCall) → Performs act q inputs done s seen t
    → inputs_of act q.body ≡ Some inputs → AllByRecursion (AnswersInKind seen) (affordances_of_act act) → Succeeds (IsSuccess act q) done.outcome t
act_succeeds (describes thing) q inputs done s t seen x given all = succeeds (outcome_is done _ x.0)
act_succeeds (reads_all thing) q inputs done s t seen x given all =
    each_read (readable thing) [] done s t seen x
    (filter_has (AnswersInKind seen) is_readable (those_of kind.Property thing) (filter_has (AnswersInKind seen) (of_kind kind.Property) thing.affordances all))
act_succeeds (writes_many thing) q inputs done s t seen x given all =
    each_written inputs [] done s t seen x (handed_have (AnswersInKind seen) (writes_many thing) q.body inputs all given)
act_succeeds (reads p) q inputs done s t seen x given all =
    one_read q.conditions (version_of p.slot t.versions) x.0 done t (value_succeeds p x.0 s t seen [] x.2 (subst (λ (l : List HandlerCall). AnswersInKind l p) (sym (append-nil seen)) all.0)) x.1
act_succeeds (writes p) q inputs done s t seen x given all =
    each_written inputs [] done s t seen x (handed_have (AnswersInKind seen) (writes p) q.body inputs all given)
act_succeeds (invokes p) q inputs done s t seen x given all =
    invoked p q.path s.next_invocation x.0 x.2.0 done s x.2.1.mid t x.2.1.first x.2.1.second x.2.1.one
    (called_in_kind p (call.Invoke s.next_invocation x.0) x.2.0 s x.2.1.mid x.2.1.first x.2.1.second x.2.1.one
    (subst (λ (l : List HandlerCall). AnswersInKind l p) x.2.1.whole all.0)) x.2.1.other
act_succeeds (queries p id) q inputs done s t seen x given all = queries_succeed p id x.0.status done s t seen x.2 all.0
act_succeeds (cancels p id) q inputs done s t seen x given all = cancels_succeed p id x.0.status done s t seen x.2 all.0
act_succeeds (reads_event p) q inputs done s t seen x given all = emission_read done (last_of p.slot s.last) t x.0
act_succeeds (waits p) q inputs done s t seen x given all = succeeds (outcome_is done _ x.0)

-- the first that holds is one that holds
pub none_is_first : (S : Refusal → Type 0) (A : Refusal → Outcome → Type 0) (rs : List Refusal) (o : Outcome) → IsFirst S A rs o → IsNone S rs → ⊥
none_is_first S A [] o first none = first
none_is_first S A (r ∷ rs) o (inl stands) none = none.0 stands.0
none_is_first S A (r ∷ rs) o (inr later) none = none_is_first S A rs o later.1 none.1

pub complete : (site : Site) (q : RequestSeen) → IsComplete site q
complete site q act done s t seen (refuses o refused answers) none asked all =
    let a : Asked = record { site = site; state = s; request = q } in
    absurd (none_is_first (λ r. Stands r a) (λ r. IsAnsweredWith r a) refusals o refused none)
complete site q act done s t seen (has_no_memory answers) none asked all = lacks_memory (outcome_is done _ answers.0)
complete site q act done s t seen (performs other inputs free found given does) none asked all =
    let same : other ≡ act = same_Some other act (sym found ∙ asked) in
    act_succeeds act q inputs done s t seen (subst (λ (x : ThingAct). Performs x q inputs done s seen t) same does)
    (subst (λ (x : ThingAct). inputs_of x q.body ≡ Some inputs) same given) all
