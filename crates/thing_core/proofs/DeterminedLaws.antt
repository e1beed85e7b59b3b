-- The outcome of a request is determined by the state, the request and the answers, until a handler is out of memory.
use Rattle.std.proofs.Common.{◌≡◌, ◌≢◌, ℕ, Bool, false, List, [], ◌∷◌, ◌++◌, refl, sym, ap, ap₂, subst, ◌∙◌, arith, inl, inr}
use Rattle.std.specs.Prelude.{◌⊎◌, ◌==◌, ◌||◌, Result, Ok, Err, Option, Some, None}
use Rattle.std.proofs.lemmas.Option.{same_Some}
use Rattle.servient_base.specs.Moves.{Becomes, Then, Passing}
use Rattle.wot_json.specs.Tree.{Json, null, boolean, integer, string, array, object}
use Rattle.wot_json.specs.Lookup.{element_list, member_list}
use Rattle.wot_json.specs.Meaning.{json_of}
use Rattle.wot_json.specs.declared.tree.Tree.{Tree}
use Rattle.wot_json.specs.declared.tree.Tree.TheVariants as tree
use Rattle.wot_json.proofs.EqualTrees.{listed_lem, listed_members_lem}
use Rattle.thing_ops.specs.declared.verb.Verb.{Verb}
use Rattle.thing_ops.specs.declared.verb.Verb.TheVariants as verb
use Rattle.thing_ops.specs.declared.allow.Allow.{Allow}
use Rattle.thing_ops.specs.declared.conditions.Conditions.{Conditions}
use Rattle.thing_ops.specs.declared.outcome.Outcome.{Outcome}
use Rattle.thing_ops.specs.declared.outcome.Outcome.TheVariants as outcome
use Rattle.thing_ops.specs.Requests.{RequestSeen}
use Rattle.thing_ops.specs.Routes.{route_of}
use Rattle.thing_ops.specs.Verbs.{verbs_in, verbs_of}
use Rattle.thing_handler.specs.declared.handler.CallKind.{CallKind}
use Rattle.thing_handler.specs.declared.handler.CallKind.TheVariants as call
use Rattle.thing_handler.specs.declared.handler.Answer.{Answer}
use Rattle.thing_handler.specs.declared.handler.Answer.TheVariants as answer
use Rattle.thing_handler.specs.Turns.{RunTurn, HandlerCall, answered, missed}
use Rattle.thing_site.specs.Site.{Placed, Site}
use Rattle.thing_state.specs.State.{Status, running, completed, Invocation, State, Emission, version_of}
use Rattle.thing_site.specs.Places.{flags_of}
use Rattle.thing_site.specs.declared.place.Resource.{Resource}
use Rattle.thing_site.specs.declared.place.ThingAct.{ThingAct}
use Rattle.thing_site.specs.declared.place.ThingAct.TheVariants.{Describes as describes, ReadsAll as reads_all, WritesMany as writes_many, Reads as reads, Writes as writes, Invokes as invokes, Queries as queries, Cancels as cancels, ReadsEvent as reads_event, Waits as waits}
use Rattle.thing_site.specs.Refusals.{Refusal, nothing_there, verb_not_taken, answer_not_acceptable, format_not_taken, body_not_as_wanted, value_too_large, refused_by_schema, condition_failed, no_invocation_left, Input, Holding, IsFirst, inputs_of}
use Rattle.thing_core.specs.Refusals.{Asked, place_asked, refusals, Stands, IsAnsweredWith, NoneStands}
use Rattle.thing_state.specs.Calls.{Move, Called, no_number, no_memory, gives, failure_of, IsTaken, Calls}
use Rattle.thing_core.specs.Thing.{Done, outcome_of_read, Decides, only, GivesValue, ReadsValue, with_value, Reads, readable, ReadsEach, SeesWritten, emissions_of_write, Stops, IfDone, WritesEach, IsHandedIn, IsInvoked, Invokes, IsQueried, Queries, IsCancelled, Cancels, OnInvocation, Answers, Performs, Acts, refuses, has_no_memory, performs}
use Rattle.thing_core.specs.Determined.{AreAnsweredBy, HadMemory, IsDetermined}
use Rattle.thing_core.proofs.ReadLaws.{AfterValue}
use Rattle.thing_core.proofs.CompleteLaws.{none_is_first}
use Rattle.thing_core.proofs.ApartLaws.{PartsAt, Part, part_after, part_before}

-- ---- values

-- the tree of a value
abbrev tree_back : Json → Tree
tree_back null = tree.Null
tree_back (boolean b) = tree.Bool b
tree_back (integer z) = tree.Int z
tree_back (string s) = tree.Text s
tree_back (array es) = tree.List (element_list es)
tree_back (object ms) = tree.Obj (member_list ms)

is_back : (t : Tree) → tree_back (json_of t) ≡ t
is_back tree.Null = refl
is_back (tree.Bool b) = refl
is_back (tree.Int z) = refl
is_back (tree.Text s) = refl
is_back (tree.List vs) = ap tree.List (listed_lem vs)
is_back (tree.Obj ms) = ap tree.Obj (listed_members_lem ms)

same_tree : (a b : Tree) → json_of a ≡ json_of b → a ≡ b
same_tree a b e = sym (is_back a) ∙ ap tree_back e ∙ is_back b

-- ---- answers of a part

pub answered_first : (answers : ℕ → Answer) (first rest : List HandlerCall) → AreAnsweredBy answers (first ++ rest) → AreAnsweredBy answers first
answered_first answers [] rest h = tt
answered_first answers (answered turn ∷ first) rest h = (h.0, answered_first answers first rest h.1)
answered_first answers (missed slot ∷ first) rest h = answered_first answers first rest h

pub answered_rest : (answers : ℕ → Answer) (first rest : List HandlerCall) → AreAnsweredBy answers (first ++ rest) → AreAnsweredBy answers rest
answered_rest answers [] rest h = h
answered_rest answers (answered turn ∷ first) rest h = answered_rest answers first rest h.1
answered_rest answers (missed slot ∷ first) rest h = answered_rest answers first rest h

-- ---- moves with a result

-- two results, two traces and two states are the same
pub record Same {A : Type 0} (a b : A) (calls more : List HandlerCall) (t u : State) : Type 0 where
  pub result : a ≡ b
  pub seen : calls ≡ more
  pub state : t ≡ u

-- a handler was out of memory
abbrev pub IsMissed : HandlerCall → Type 0
IsMissed (answered turn) = ⊥
IsMissed (missed slot) = Unit {0}

-- Two are the same; or the traces part at a call for which a handler was out of memory in one of both, and the results
-- aren't both well.
abbrev pub Compared : {A : Type 0} → (A → Type 0) → A → A → List HandlerCall → List HandlerCall → State → State → Type 0
Compared Well a b calls more t u = Same a b calls more t u ⊎ (Part IsMissed calls more × (Well a → Well b → ⊥))

-- from a state, a move has one result, one trace and one state, as the answers are, until a handler is out of memory
abbrev pub Determined : {A : Type 0} → (ℕ → Answer) → (A → Type 0) → (A → Move) → State → Type 0
Determined {A} answers Well P s =
    (a b : A) (calls more : List HandlerCall) (t u : State) → P a s calls t → P b s more u → AreAnsweredBy answers calls → AreAnsweredBy answers more
    → Compared Well a b calls more t u

-- a result that is fixed, and a trace and a state that are
fixed : {A : Type 0} (Well : A → Type 0) (x a b : A) (w : State) (shown calls more : List HandlerCall) (t u : State) → a ≡ x → b ≡ x → Becomes w shown calls t → Becomes w shown more u
    → Compared Well a b calls more t u
fixed Well x a b w shown calls more t u e f p q = inl (record { result = e ∙ sym f; seen = p.saw ∙ sym q.saw; state = p.next ∙ sym q.next })

-- what is compared comes after the same
compared_after : {A : Type 0} (Well : A → Type 0) (a b : A) (c d e f calls more : List HandlerCall) (t u : State) → c ≡ e → calls ≡ c ++ d → more ≡ e ++ f → Compared Well a b d f t u
    → Compared Well a b calls more t u
compared_after Well a b c d e f calls more t u same whole all (inl rest) = inl (record {
  result = rest.result;
  seen = whole ∙ ap₂ (λ (x y : List HandlerCall). x ++ y) same rest.seen ∙ sym all;
  state = rest.state;
})
compared_after Well a b c d e f calls more t u same whole all (inr (apart, ill)) = inr (part_after IsMissed c e d f calls more same whole all apart, ill)

-- the result of one move is what another takes
determined_then : {A B : Type 0} (answers : ℕ → Answer) (WellA : A → Type 0) (WellB : B → Type 0) (P : B → Move) (K : A → B → Move) (s : State)
    → Determined answers WellB P s
    → ((a : A) (b : B) (m t : State) (calls : List HandlerCall) → K a b m calls t → WellA a → WellB b)
    → ((b : B) (m : State) → Determined answers WellA (λ a. K a b) m)
    → Determined answers WellA (λ a. Passing P (K a)) s
determined_then {A} {B} answers WellA WellB P K s first well further a b calls more t u p q on_calls on_more =
    let calls_are = subst (λ (l : List HandlerCall). AreAnsweredBy answers l) p.1.whole on_calls in
    let more_are = subst (λ (l : List HandlerCall). AreAnsweredBy answers l) q.1.whole on_more in
    by calls_are more_are
    (first p.0 q.0 p.1.first q.1.first p.1.mid q.1.mid p.1.one q.1.one (answered_first answers p.1.first p.1.second calls_are) (answered_first answers q.1.first q.1.second more_are))
  where
    by : AreAnsweredBy answers (p.1.first ++ p.1.second) → AreAnsweredBy answers (q.1.first ++ q.1.second) → Compared WellB p.0 q.0 p.1.first q.1.first p.1.mid q.1.mid
        → Compared WellA a b calls more t u
    by calls_are more_are (inl one) =
        let there : K b p.0 p.1.mid q.1.second u =
        subst (λ (x : State). K b p.0 x q.1.second u) (sym one.state) (subst (λ (x : B). K b x q.1.mid q.1.second u) (sym one.result) q.1.other) in
        compared_after WellA a b p.1.first p.1.second q.1.first q.1.second calls more t u one.seen p.1.whole q.1.whole
        (further p.0 p.1.mid a b p.1.second q.1.second t u p.1.other there (answered_rest answers p.1.first p.1.second calls_are) (answered_rest answers q.1.first q.1.second more_are))
    by calls_are more_are (inr (apart, ill)) = inr (
      part_before IsMissed p.1.first q.1.first p.1.second q.1.second calls more p.1.whole q.1.whole apart,
      λ well_a well_b. ill (well a p.0 p.1.mid t p.1.second p.1.other well_a) (well b q.0 q.1.mid u q.1.second q.1.other well_b),
    )

-- ---- one call

abbrev pub IsAnswer : Called → Type 0
IsAnswer no_number = Unit {0}
IsAnswer no_memory = ⊥
IsAnswer (gives a) = Unit {0}

missed_here : (slot : ℕ) (turn : RunTurn) (calls more : List HandlerCall) → calls ≡ missed slot ∷ [] → more ≡ answered turn ∷ [] → PartsAt IsMissed calls more
missed_here slot turn calls more is other =
    record { common = []; sign = missed slot; rest = []; instead = answered turn; other = []; is_sign = tt; apart = λ same. cc; first = is; second = other }

pub call_determined : (answers : ℕ → Answer) (slot : ℕ) (what : CallKind) (s : State) → Determined answers IsAnswer (Calls slot what) s
call_determined answers slot what s no_number no_number calls more t u p q on_calls on_more = fixed IsAnswer no_number no_number no_number s [] calls more t u refl refl p.1 q.1
call_determined answers slot what s no_number no_memory calls more t u p q on_calls on_more = absurd (omega (arith, p.0, q.0))
call_determined answers slot what s no_number (gives b) calls more t u p q on_calls on_more = absurd (omega (arith, p.0, q.0))
call_determined answers slot what s no_memory no_number calls more t u p q on_calls on_more = absurd (omega (arith, p.0, q.0))
call_determined answers slot what s no_memory no_memory calls more t u p q on_calls on_more = fixed IsAnswer no_memory no_memory no_memory s (missed slot ∷ []) calls more t u refl refl p.1 q.1
call_determined answers slot what s no_memory (gives b) calls more t u p q on_calls on_more =
    inr (inl (missed_here slot (record { number = s.turns; slot = slot; what = what; answer = b }) calls more p.1.saw q.1.saw), λ well_a well_b. well_a)
call_determined answers slot what s (gives a) no_number calls more t u p q on_calls on_more = absurd (omega (arith, p.0, q.0))
call_determined answers slot what s (gives a) no_memory calls more t u p q on_calls on_more =
    inr (inr (missed_here slot (record { number = s.turns; slot = slot; what = what; answer = a }) more calls q.1.saw p.1.saw), λ well_a well_b. well_b)
call_determined answers slot what s (gives a) (gives b) calls more t u p q on_calls on_more =
    let one = (subst (λ (l : List HandlerCall). AreAnsweredBy answers l) p.1.saw on_calls).0 in
    let other = (subst (λ (l : List HandlerCall). AreAnsweredBy answers l) q.1.saw on_more).0 in
    let same : a ≡ b = one ∙ sym other in
    inl (record {
      result = ap gives same;
      seen = p.1.saw ∙ ap (λ (x : Answer). answered (record { number = s.turns; slot = slot; what = what; answer = x }) ∷ []) same ∙ sym q.1.saw;
      state = p.1.next ∙ sym q.1.next;
    })

-- a call, and then what comes of it
determined_call : {A : Type 0} (answers : ℕ → Answer) (Well : A → Type 0) (slot : ℕ) (what : CallKind) (K : A → Called → Move) (s : State)
    → ((a : A) (m t : State) (calls : List HandlerCall) → K a no_memory m calls t → Well a → ⊥)
    → ((c : Called) (m : State) → Determined answers Well (λ a. K a c) m)
    → Determined answers Well (λ a. Passing (Calls slot what) (K a)) s
determined_call {A} answers Well slot what K s told further =
    determined_then answers Well IsAnswer (Calls slot what) K s (call_determined answers slot what s) well further
  where
    well : (a : A) (c : Called) (m t : State) (calls : List HandlerCall) → K a c m calls t → Well a → IsAnswer c
    well a no_number m t calls k had = tt
    well a no_memory m t calls k had = told a m t calls k had
    well a (gives x) m t calls k had = tt

-- ---- properties

pub one_decision : {A : Type 0} (P : Type 0) (x y a b : A) → Decides P x y a → Decides P x y b → a ≡ b
one_decision P x y a b (inl p) (inl q) = p.1 ∙ sym q.1
one_decision P x y a b (inl p) (inr q) = absurd (q.0 p.0)
one_decision P x y a b (inr p) (inl q) = absurd (p.0 q.0)
one_decision P x y a b (inr p) (inr q) = p.1 ∙ sym q.1

abbrev HasValue : Result Json Outcome → Type 0
HasValue (Ok value) = Unit {0}
HasValue (Err o) = o ≢ outcome.Memory

one_value : (schema : Option Json) (c : Called) (r v : Result Json Outcome) → GivesValue schema c r → GivesValue schema c v → r ≡ v
one_value schema (gives (answer.Value tree)) r v p q = one_decision (IsTaken schema (json_of tree)) (Ok (json_of tree)) (Err outcome.BadAnswer) r v p q
one_value schema c r v p q = p ∙ sym q

abbrev GivenValue : Placed → Result Json Outcome → Called → Move
GivenValue p r c s seen t = GivesValue p.affordance.output c r × Becomes (with_value p r s) [] seen t

value_determined : (answers : ℕ → Answer) (p : Placed) (s : State) → Determined answers HasValue (ReadsValue p) s
value_determined answers p s =
    determined_call answers HasValue p.slot call.Read (GivenValue p) s
    (λ r m t calls k had. subst HasValue k.0 had refl)
    (λ c m r v calls more t u k l on_calls on_more.
    let same : r ≡ v = one_value p.affordance.output c r v k.0 l.0 in
    inl (record {
      result = same;
      seen = k.1.saw ∙ sym l.1.saw;
      state = k.1.next ∙ ap (λ (x : Result Json Outcome). with_value p x m) same ∙ sym l.1.next;
    }))

after_value_well : (p : Placed) (ps : List Placed) (got : List (List ℕ × Json)) (done : Done) (r : Result Json Outcome) (m t : State) (calls : List HandlerCall)
    → AfterValue p ps got done r m calls t → HadMemory done → HasValue r
after_value_well p ps got done (Ok value) m t calls k had = tt
after_value_well p ps got done (Err o) m t calls k had = λ is. had (ap (λ (d : Done). d.outcome) k.0 ∙ is)

after_value : (answers : ℕ → Answer) (p : Placed) (ps : List Placed) (got : List (List ℕ × Json)) (r : Result Json Outcome) (m : State)
    → ((value : Json) → Determined answers HadMemory (ReadsEach ps (got ++ (p.affordance.name, value) ∷ [])) m)
    → Determined answers HadMemory (λ done. AfterValue p ps got done r) m
after_value answers p ps got (Ok value) m further = further value
after_value answers p ps got (Err o) m further = λ a b calls more t u k l on_calls on_more. fixed HadMemory (only o) a b m [] calls more t u k.0 l.0 k.1 l.1

each_determined : (answers : ℕ → Answer) (ps : List Placed) (got : List (List ℕ × Json)) (s : State) → Determined answers HadMemory (ReadsEach ps got) s
each_determined answers [] got s = λ a b calls more t u k l on_calls on_more. fixed HadMemory _ a b s [] calls more t u k.0 l.0 k.1 l.1
each_determined answers (p ∷ ps) got s =
    determined_then answers HadMemory HasValue (ReadsValue p) (AfterValue p ps got) s (value_determined answers p s) (after_value_well p ps got)
    (λ r m. after_value answers p ps got r m (λ value. each_determined answers ps (got ++ (p.affordance.name, value) ∷ []) m))

read_well : (c : Conditions) (version : ℕ) (r : Result Json Outcome) (done : Done) → done ≡ only (outcome_of_read c version r) → HadMemory done → HasValue r
read_well c version (Ok value) done is had = tt
read_well c version (Err o) done is had = λ out. had (ap (λ (d : Done). d.outcome) is ∙ out)

read_determined : (answers : ℕ → Answer) (p : Placed) (c : Conditions) (s : State) → Determined answers HadMemory (Reads p c) s
read_determined answers p c s a b calls more t u k l on_calls on_more =
    by (value_determined answers p s k.0 l.0 calls more t u k.2 l.2 on_calls on_more)
  where
    by : Compared HasValue k.0 l.0 calls more t u → Compared HadMemory a b calls more t u
    by (inl one) =
        let outcomes : outcome_of_read c (version_of p.slot t.versions) k.0 ≡ outcome_of_read c (version_of p.slot u.versions) l.0 =
        ap₂ (λ (x : State) (r : Result Json Outcome). outcome_of_read c (version_of p.slot x.versions) r) one.state one.result in
        inl (record { result = k.1 ∙ ap only outcomes ∙ sym l.1; seen = one.seen; state = one.state })
    by (inr (apart, ill)) =
        inr (apart, λ well_a well_b. ill (read_well c (version_of p.slot t.versions) k.0 a k.1 well_a) (read_well c (version_of p.slot u.versions) l.0 b l.1 well_b))

-- ---- writes

-- a value that was written is seen, and then another move
sees_determined : (answers : ℕ → Answer) (i : Input) (F : Done → Move) (m : State) → ((n : State) → Determined answers HadMemory F n)
    → Determined answers HadMemory (λ done. Then (SeesWritten i) (F done)) m
sees_determined answers i F m further a b calls more t u k l on_calls on_more =
    let mids : k.mid ≡ l.mid = k.one.next ∙ sym l.one.next in
    compared_after HadMemory a b k.first k.second l.first l.second calls more t u (k.one.saw ∙ sym l.one.saw) k.whole l.whole
    (further k.mid a b k.second l.second t u k.other (subst (λ (x : State). F b x l.second u) (sym mids) l.other)
    (answered_rest answers k.first k.second (subst (λ (x : List HandlerCall). AreAnsweredBy answers x) k.whole on_calls))
    (answered_rest answers l.first l.second (subst (λ (x : List HandlerCall). AreAnsweredBy answers x) l.whole on_more)))

abbrev AfterWrite : Input → List Input → List Emission → Done → Called → Move
AfterWrite i is emitted done c =
    IfDone c (Then (SeesWritten i) (WritesEach is (emitted ++ emissions_of_write i) done)) (Stops (failure_of c) emitted done)

after_write : (answers : ℕ → Answer) (i : Input) (is : List Input) (emitted : List Emission) (c : Called) (m : State)
    → ((n : State) → Determined answers HadMemory (WritesEach is (emitted ++ emissions_of_write i)) n)
    → Determined answers HadMemory (λ done. AfterWrite i is emitted done c) m
after_write answers i is emitted (gives answer.Done) m further = sees_determined answers i (WritesEach is (emitted ++ emissions_of_write i)) m further
after_write answers i is emitted c m further = λ a b calls more t u k l on_calls on_more. fixed HadMemory _ a b m [] calls more t u k.0 l.0 k.1 l.1

written_determined : (answers : ℕ → Answer) (is : List Input) (emitted : List Emission) (s : State) → Determined answers HadMemory (WritesEach is emitted) s
written_determined answers [] emitted s a b calls more t u k l on_calls on_more = fixed HadMemory _ a b s [] calls more t u k.0 l.0 k.1 l.1
written_determined answers (i ∷ is) emitted s a b calls more t u k l on_calls on_more =
    let same : l.0 ≡ k.0 = same_tree l.0 k.0 (l.1 ∙ sym k.1) in
    let there : Passing (Calls i.affordance.slot (call.Write k.0)) (AfterWrite i is emitted b) s more u =
    subst (λ (x : Tree). Passing (Calls i.affordance.slot (call.Write x)) (AfterWrite i is emitted b) s more u) same l.2 in
    determined_call answers HadMemory i.affordance.slot (call.Write k.0) (AfterWrite i is emitted) s
    (λ done m v seen stops had. had (ap (λ (d : Done). d.outcome) stops.0))
    (λ c m. after_write answers i is emitted c m (λ n. written_determined answers is (emitted ++ emissions_of_write i) n))
    a b calls more t u k.2 there on_calls on_more

-- ---- actions

one_handed : (is : List Input) (a b : Option Tree) → IsHandedIn is a → IsHandedIn is b → a ≡ b
one_handed [] a b p q = p ∙ sym q
one_handed (i ∷ is) a b p q = p.2 ∙ ap Some (same_tree p.0 q.0 (p.1 ∙ sym q.1)) ∙ sym q.2

invoked_determined : (answers : ℕ → Answer) (p : Placed) (path : List (List ℕ)) (id : ℕ) (c : Called) (m : State) → Determined answers HadMemory (λ done. IsInvoked p path id done c) m
invoked_determined answers p path id (gives (answer.Finished (Some tree))) m a b calls more t u k l on_calls on_more = inl (record {
  result = one_decision (IsTaken p.affordance.output (json_of tree)) _ _ a b k.0 l.0;
  seen = k.1.saw ∙ sym l.1.saw;
  state = k.1.next ∙ sym l.1.next;
})
invoked_determined answers p path id (gives (answer.Finished None)) m a b calls more t u k l on_calls on_more = fixed HadMemory _ a b _ [] calls more t u k.0 l.0 k.1 l.1
invoked_determined answers p path id (gives x) m a b calls more t u k l on_calls on_more = fixed HadMemory _ a b _ [] calls more t u k.0 l.0 k.1 l.1
invoked_determined answers p path id c m a b calls more t u k l on_calls on_more = fixed HadMemory _ a b _ [] calls more t u k.0 l.0 k.1 l.1

invokes_determined : (answers : ℕ → Answer) (p : Placed) (path : List (List ℕ)) (is : List Input) (s : State) → Determined answers HadMemory (Invokes p path is) s
invokes_determined answers p path is s a b calls more t u k l on_calls on_more =
    let same : l.0 ≡ k.0 = one_handed is l.0 k.0 l.1 k.1 in
    let there : Passing (Calls p.slot (call.Invoke s.next_invocation k.0)) (IsInvoked p path s.next_invocation b) s more u =
    subst (λ (x : Option Tree). Passing (Calls p.slot (call.Invoke s.next_invocation x)) (IsInvoked p path s.next_invocation b) s more u) same l.2 in
    determined_call answers HadMemory p.slot (call.Invoke s.next_invocation k.0) (IsInvoked p path s.next_invocation) s
    (λ done m v seen fails had. had (ap (λ (d : Done). d.outcome) fails.0)) (invoked_determined answers p path s.next_invocation)
    a b calls more t u k.2 there on_calls on_more

queried_determined : (answers : ℕ → Answer) (p : Placed) (id : ℕ) (c : Called) (m : State) → Determined answers HadMemory (λ done. IsQueried p id done c) m
queried_determined answers p id (gives answer.Running) m a b calls more t u k l on_calls on_more = fixed HadMemory _ a b _ [] calls more t u k.0 l.0 k.1 l.1
queried_determined answers p id (gives (answer.Finished None)) m a b calls more t u k l on_calls on_more = fixed HadMemory _ a b _ [] calls more t u k.0 l.0 k.1 l.1
queried_determined answers p id (gives (answer.Finished (Some tree))) m a b calls more t u (inl k) (inl l) on_calls on_more = fixed HadMemory _ a b _ [] calls more t u k.1.0 l.1.0 k.1.1 l.1.1
queried_determined answers p id (gives (answer.Finished (Some tree))) m a b calls more t u (inl k) (inr l) on_calls on_more = absurd (l.0 k.0)
queried_determined answers p id (gives (answer.Finished (Some tree))) m a b calls more t u (inr k) (inl l) on_calls on_more = absurd (k.0 l.0)
queried_determined answers p id (gives (answer.Finished (Some tree))) m a b calls more t u (inr k) (inr l) on_calls on_more = fixed HadMemory _ a b _ [] calls more t u k.1.0 l.1.0 k.1.1 l.1.1
queried_determined answers p id c m a b calls more t u k l on_calls on_more = fixed HadMemory _ a b _ [] calls more t u k.0 l.0 k.1 l.1

cancelled_determined : (answers : ℕ → Answer) (id : ℕ) (c : Called) (m : State) → Determined answers HadMemory (λ done. IsCancelled id done c) m
cancelled_determined answers id (gives answer.Cancelled) m a b calls more t u k l on_calls on_more = fixed HadMemory _ a b _ [] calls more t u k.0 l.0 k.1 l.1
cancelled_determined answers id c m a b calls more t u k l on_calls on_more = fixed HadMemory _ a b _ [] calls more t u k.0 l.0 k.1 l.1

queries_determined : (answers : ℕ → Answer) (p : Placed) (id : ℕ) (status : Status) (s : State) → Determined answers HadMemory (Queries p id status) s
queries_determined answers p id running s =
    determined_call answers HadMemory p.slot (call.Query id) (IsQueried p id) s (λ done m v seen fails had. had (ap (λ (d : Done). d.outcome) fails.0)) (queried_determined answers p id)
queries_determined answers p id (completed output) s = λ a b calls more t u k l on_calls on_more. fixed HadMemory _ a b _ [] calls more t u k.0 l.0 k.1 l.1

cancels_determined : (answers : ℕ → Answer) (p : Placed) (id : ℕ) (status : Status) (s : State) → Determined answers HadMemory (Cancels p id status) s
cancels_determined answers p id running s =
    determined_call answers HadMemory p.slot (call.Cancel id) (IsCancelled id) s (λ done m v seen fails had. had (ap (λ (d : Done). d.outcome) fails.0)) (cancelled_determined answers id)
cancels_determined answers p id (completed output) s = λ a b calls more t u k l on_calls on_more. fixed HadMemory _ a b _ [] calls more t u k.0 l.0 k.1 l.1

-- an invocation that is there is one
on_invocation : (answers : ℕ → Answer) (p : Placed) (id : ℕ) (B : Status → Done → Move) (s : State) → ((status : Status) → Determined answers HadMemory (B status) s)
    → Determined answers HadMemory (OnInvocation p id B) s
on_invocation answers p id B s each a b calls more t u k l on_calls on_more =
    let same : l.0 ≡ k.0 = same_Some l.0 k.0 (sym l.1 ∙ k.1) in
    each k.0.status a b calls more t u k.2 (subst (λ (i : Invocation). B i.status b s more u) same l.2) on_calls on_more

-- ---- acts

answer_determined : (answers : ℕ → Answer) (o : Outcome) (s : State) → Determined answers HadMemory (Answers o) s
answer_determined answers o s a b calls more t u k l on_calls on_more = fixed HadMemory (only o) a b s [] calls more t u k.0 l.0 k.1 l.1

act_determined : (answers : ℕ → Answer) (act : ThingAct) (q : RequestSeen) (is : List Input) (s : State) → Determined answers HadMemory (Performs act q is) s
act_determined answers (describes thing) q is s = answer_determined answers _ s
act_determined answers (reads_all thing) q is s = each_determined answers (readable thing) [] s
act_determined answers (writes_many thing) q is s = written_determined answers is [] s
act_determined answers (reads p) q is s = read_determined answers p q.conditions s
act_determined answers (writes p) q is s = written_determined answers is [] s
act_determined answers (invokes p) q is s = invokes_determined answers p q.path is s
act_determined answers (queries p id) q is s = on_invocation answers p id (Queries p id) s (λ status. queries_determined answers p id status s)
act_determined answers (cancels p id) q is s = on_invocation answers p id (Cancels p id) s (λ status. cancels_determined answers p id status s)
act_determined answers (reads_event p) q is s = answer_determined answers _ s
act_determined answers (waits p) q is s = answer_determined answers _ s

-- ---- refusals

-- a verb is the one at this place of their order
abbrev is_at : ℕ → Verb → Bool
is_at n verb.Get = n == 0
is_at n verb.Head = n == 1
is_at n verb.Put = n == 2
is_at n verb.Post = n == 3
is_at n verb.Patch = n == 4
is_at n verb.Delete = n == 5
is_at n verb.Other = n == 6

-- it is among these
abbrev is_listed : ℕ → List Verb → Bool
is_listed n [] = false
is_listed n (v ∷ vs) = is_at n v || is_listed n vs

-- the verbs that are taken where these are listed
abbrev allow_back : List Verb → Allow
allow_back vs = record { get = is_listed 0 vs; head = is_listed 1 vs; put = is_listed 2 vs; post = is_listed 3 vs; patch = is_listed 4 vs; delete = is_listed 5 vs }

allow_is_back : (a : Allow) → allow_back (verbs_in a) ≡ a
allow_is_back a = grind arith

pub same_verbs : (a b : Allow) → verbs_in a ≡ verbs_in b → a ≡ b
same_verbs a b e = sym (allow_is_back a) ∙ ap allow_back e ∙ allow_is_back b

one_list : (a b : Allow) (f : Resource → List Verb) (place : Option Resource) → Holding (λ (x : Resource). verbs_in a ≡ f x) place → Holding (λ (x : Resource). verbs_in b ≡ f x) place → a ≡ b
one_list a b f None p q = absurd p
one_list a b f (Some place) p q = same_verbs a b (p ∙ sym q)

one_answer : (r : Refusal) (x : Asked) (o p : Outcome) → IsAnsweredWith r x o → IsAnsweredWith r x p → o ≡ p
one_answer nothing_there x o p k l = k ∙ sym l
one_answer verb_not_taken x o p k l = k.2 ∙ ap outcome.NotAllowed (one_list k.0 l.0 (λ place. verbs_of (route_of x.request.path) (flags_of place)) (place_asked x) k.1 l.1) ∙ sym l.2
one_answer answer_not_acceptable x o p k l = k ∙ sym l
one_answer format_not_taken x o p k l = k ∙ sym l
one_answer body_not_as_wanted x o p k l = k ∙ sym l
one_answer value_too_large x o p k l = k ∙ sym l
one_answer refused_by_schema x o p k l = k ∙ sym l
one_answer condition_failed x o p k l = k ∙ sym l
one_answer no_invocation_left x o p k l = k ∙ sym l

one_refusal : (S : Refusal → Type 0) (x : Asked) (rs : List Refusal) (o p : Outcome) → IsFirst S (λ r. IsAnsweredWith r x) rs o → IsFirst S (λ r. IsAnsweredWith r x) rs p → o ≡ p
one_refusal S x [] o p k l = absurd k
one_refusal S x (r ∷ rs) o p (inl k) (inl l) = one_answer r x o p k.1 l.1
one_refusal S x (r ∷ rs) o p (inl k) (inr l) = absurd (l.0 k.0)
one_refusal S x (r ∷ rs) o p (inr k) (inl l) = absurd (k.0 l.0)
one_refusal S x (r ∷ rs) o p (inr k) (inr l) = one_refusal S x rs o p k.1 l.1

-- ---- requests

-- a request that is refused isn't done
refused_isnt_done : (x : Asked) (o : Outcome) → IsFirst (λ r. Stands r x) (λ r. IsAnsweredWith r x) refusals o → ¬ (NoneStands refusals x)
refused_isnt_done x o refused none = none_is_first (λ r. Stands r x) (λ r. IsAnsweredWith r x) refusals o refused none

-- a request that isn't out of memory before its first call
abbrev pub IsDecided : {site : Site} {q : RequestSeen} {done : Done} {s t : State} {calls : List HandlerCall} → Acts site q done s calls t → Type 0
IsDecided (refuses o refused k) = Unit {0}
IsDecided (has_no_memory k) = ⊥
IsDecided (performs act is free asked given does) = Unit {0}

-- Two such from one state, with the same answers, are the same, or their traces part where a handler was out of memory.
pub decided : (answers : ℕ → Answer) (site : Site) (q : RequestSeen) (s : State) (a b : Done) (calls more : List HandlerCall) (t u : State)
    → (k : Acts site q a s calls t) → (l : Acts site q b s more u) → IsDecided k → IsDecided l → AreAnsweredBy answers calls → AreAnsweredBy answers more
    → Same a b calls more t u ⊎ (Part IsMissed calls more × (HadMemory a → HadMemory b → ⊥))
decided answers site q s a b calls more t u (refuses o refused k) (refuses p also l) is_a is_b on_calls on_more =
    let x : Asked = record { site = site; state = s; request = q } in
    let same : p ≡ o = one_refusal (λ r. Stands r x) x refusals p o also refused in
    answer_determined answers o s a b calls more t u k (subst (λ (y : Outcome). Answers y b s more u) same l) on_calls on_more
decided answers site q s a b calls more t u (performs act is free asked given does) (performs other js none found handed makes) is_a is_b on_calls on_more =
    let act_is : other ≡ act = same_Some other act (sym found ∙ asked) in
    let inputs_are : js ≡ is = same_Some js is (sym (subst (λ (x : ThingAct). inputs_of x q.body ≡ Some js) act_is handed) ∙ given) in
    act_determined answers act q is s a b calls more t u does
    (subst (λ (x : List Input). Performs act q x b s more u) inputs_are (subst (λ (x : ThingAct). Performs x q js b s more u) act_is makes)) on_calls on_more
decided answers site q s a b calls more t u (refuses o refused k) (performs other js none found handed makes) is_a is_b on_calls on_more =
    absurd (refused_isnt_done (record { site = site; state = s; request = q }) o refused none)
decided answers site q s a b calls more t u (performs act is free asked given does) (refuses p also l) is_a is_b on_calls on_more =
    absurd (refused_isnt_done (record { site = site; state = s; request = q }) p also free)
decided answers site q s a b calls more t u (has_no_memory k) other is_a is_b on_calls on_more = absurd is_a
decided answers site q s a b calls more t u one (has_no_memory l) is_a is_b on_calls on_more = absurd is_b

had_is_decided : (site : Site) (q : RequestSeen) (done : Done) (s t : State) (calls : List HandlerCall) → (k : Acts site q done s calls t) → HadMemory done → IsDecided k
had_is_decided site q done s t calls (refuses o refused k) had = tt
had_is_decided site q done s t calls (has_no_memory k) had = had (ap (λ (d : Done). d.outcome) k.0)
had_is_decided site q done s t calls (performs act is free asked given does) had = tt

pub determined : (site : Site) (q : RequestSeen) → IsDetermined site q
determined site q answers a b s t u calls more k l on_calls on_more well_a well_b =
    by (decided answers site q s a b calls more t u k l (had_is_decided site q a s t calls k well_a) (had_is_decided site q b s u more l well_b) on_calls on_more)
  where
    by : Same a b calls more t u ⊎ (Part IsMissed calls more × (HadMemory a → HadMemory b → ⊥)) → (calls ≡ more) × (a ≡ b) × (t ≡ u)
    by (inl same) = (same.seen, same.result, same.state)
    by (inr (apart, ill)) = absurd (ill well_a well_b)
