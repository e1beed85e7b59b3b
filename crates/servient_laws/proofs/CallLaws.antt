-- Each call of a request and of a poll is fit.
use Rattle.std.proofs.Common.{◌≡◌, ◌<◌, ℕ, List, [], ◌∷◌, ◌++◌, length, Bool, true, false, cond, refl, sym, subst, arith, inl, inr}
use Rattle.std.specs.Prelude.{Option, Some, None, Result, Ok, Err, option_map, Contains}
use Rattle.std.specs.List.{AllByRecursion, filter}
use Rattle.std.proofs.lemmas.Option.{same_Some}
use Rattle.servient_base.specs.Moves.{Then}
use Rattle.wot_json.specs.Json.{text_of}
use Rattle.wot_json.specs.Tree.{Json, Members, no_members, member, object}
use Rattle.wot_json.specs.Reading.{tree_of}
use Rattle.wot_json.specs.Meaning.{json_of}
use Rattle.wot_json.specs.declared.tree.Tree.{Tree}
use Rattle.wot_terms.specs.declared.kind.Kind.{Kind}
use Rattle.wot_terms.specs.declared.kind.Kind.TheVariants as kind
use Rattle.thing_ops.specs.declared.outcome.Outcome.{Outcome}
use Rattle.thing_ops.specs.Requests.{RequestSeen}
use Rattle.thing_handler.specs.declared.handler.CallKind.{CallKind}
use Rattle.thing_handler.specs.declared.handler.CallKind.TheVariants as call
use Rattle.thing_handler.specs.declared.handler.Answer.TheVariants as answer
use Rattle.thing_handler.specs.Turns.{HandlerCall}
use Rattle.thing_site.specs.Site.{Placed, ExposedThing, Site, affordance_named, is_kind, of_kind, those_of}
use Rattle.thing_site.specs.declared.place.ThingAct.{ThingAct}
use Rattle.thing_site.specs.declared.place.ThingAct.TheVariants.{Describes as describes, ReadsAll as reads_all, WritesMany as writes_many, Reads as reads, Writes as writes, Invokes as invokes, Queries as queries, Cancels as cancels, ReadsEvent as reads_event, Waits as waits}
use Rattle.thing_site.specs.Refusals.{Input, inputs_of, only_input, member_inputs, object_inputs, invoke_inputs, no_inputs, written_property, unless_read_only, longest_value, Holding, IsLong, IsRefusedBySchema, SomeInput}
use Rattle.thing_state.specs.State.{State, Emission, Status, running, completed}
use Rattle.thing_core.specs.Refusals.{Asked, act_asked}
use Rattle.thing_core.specs.Performing.{affordances_of_act}
use Rattle.thing_core.specs.Thing.{Done, ReadsValue, readable, is_readable, ReadsEach, SeesWritten, emissions_of_write, Stops, IfDone, WritesEach, IsHandedIn, IsInvoked, IsQueried, Queries, IsCancelled, Cancels, Performs, Acts, refuses, has_no_memory, performs, PollsEvent}
use Rattle.thing_state.specs.Calls.{Called, no_number, no_memory, gives, failure_of, Calls}
use Rattle.thing_core.proofs.ReadLaws.{AfterValue}
use Rattle.thing_core.proofs.Handed.{came_of, made_of, InputsHave, handed_have}
use Rattle.thing_core.proofs.SlotLaws.{asked_have}
use Rattle.servient_laws.specs.Calls.{affordances_of, IsFitValue, IsFitInput, IsCallOf, IsFit}
use Rattle.servient_laws.proofs.FoundKinds.{site_has_its_own, same_kind, named_kind, IsActOfKind, asked_kind}

-- ---- lists of calls

abbrev AreFit : Site → List HandlerCall → Type 0
AreFit site calls = AllByRecursion (IsFit site) calls

fit_then : (site : Site) (a b calls : List HandlerCall) → AreFit site a → AreFit site b → calls ≡ a ++ b → AreFit site calls
fit_then site a b calls one other whole = subst (λ (cs : List HandlerCall). AreFit site cs) (sym whole) (both a one)
  where
    both : (xs : List HandlerCall) → AreFit site xs → AreFit site (xs ++ b)
    both [] all = other
    both (x ∷ xs) all = (all.0, both xs all.1)

fit_none : (site : Site) (calls : List HandlerCall) → calls ≡ [] → AreFit site calls
fit_none site calls none = subst (λ (cs : List HandlerCall). AreFit site cs) (sym none) tt

-- one call
call_fit : (site : Site) (p : Placed) (what : CallKind) (c : Called) (s : State) (calls : List HandlerCall) (t : State) → Contains (affordances_of site) p → IsCallOf p what
    → Calls p.slot what c s calls t → AreFit site calls
call_fit site p what no_number s calls t among is k = fit_none site calls k.1.saw
call_fit site p what no_memory s calls t among is k = subst (λ (cs : List HandlerCall). AreFit site cs) (sym k.1.saw) ((p, among, refl), tt)
call_fit site p what (gives a) s calls t among is k = subst (λ (cs : List HandlerCall). AreFit site cs) (sym k.1.saw) ((p, among, refl, is), tt)

-- ---- reading

-- an affordance of this kind
pub record IsOne (site : Site) (k : Kind) (p : Placed) : Type 0 where
  pub among : Contains (affordances_of site) p
  pub kind : p.affordance.kind ≡ k

value_fit : (site : Site) (p : Placed) (r : Result Json Outcome) (s : State) (calls : List HandlerCall) (t : State) → IsOne site kind.Property p → ReadsValue p r s calls t
    → AreFit site calls
value_fit site p r s calls t one v =
    let both = v.1 in
    fit_then site both.first both.second calls (call_fit site p call.Read v.0 s both.first both.mid one.among one.kind both.one) (fit_none site both.second both.other.1.saw) both.whole

after_fit : (site : Site) (p : Placed) (ps : List Placed) (got : List (List ℕ × Json)) (done : Done) (r : Result Json Outcome) (s : State) (calls : List HandlerCall) (t : State)
    → ((value : Json) → ReadsEach ps (got ++ (p.affordance.name, value) ∷ []) done s calls t → AreFit site calls) → AfterValue p ps got done r s calls t → AreFit site calls
after_fit site p ps got done (Ok value) s calls t further rest = further value rest
after_fit site p ps got done (Err o) s calls t further rest = fit_none site calls rest.1.saw

each_fit : (site : Site) (ps : List Placed) (got : List (List ℕ × Json)) (done : Done) (s : State) (calls : List HandlerCall) (t : State)
    → AllByRecursion (IsOne site kind.Property) ps → ReadsEach ps got done s calls t → AreFit site calls
each_fit site [] got done s calls t all r = fit_none site calls r.1.saw
each_fit site (p ∷ ps) got done s calls t all r =
    let both = r.1 in
    fit_then site both.first both.second calls (value_fit site p r.0 s both.first both.mid all.0 both.one)
    (after_fit site p ps got done r.0 both.mid both.second t (λ value rest. each_fit site ps (got ++ (p.affordance.name, value) ∷ []) done both.mid both.second t all.1 rest) both.other)
    both.whole

-- those of one kind among those of a Thing
pub of_one_kind : (site : Site) (k : Kind) (ps : List Placed) → AllByRecursion (Contains (affordances_of site)) ps → AllByRecursion (IsOne site k) (filter (of_kind k) ps)
of_one_kind site k [] all = tt
of_one_kind site k (p ∷ ps) all = by_test (of_one_kind site k ps all.1) (is_kind k p.affordance.kind) refl
  where
    by_test : AllByRecursion (IsOne site k) (filter (of_kind k) ps) → (b : Bool) → is_kind k p.affordance.kind ≡ b
        → AllByRecursion (IsOne site k) (cond b (p ∷ filter (of_kind k) ps) (filter (of_kind k) ps))
    by_test rest true is = (record { among = all.0; kind = same_kind k p.affordance.kind is }, rest)
    by_test rest false isnt = rest

some_of : (site : Site) (k : Kind) (f : Placed → Bool) (ps : List Placed) → AllByRecursion (IsOne site k) ps → AllByRecursion (IsOne site k) (filter f ps)
some_of site k f [] all = tt
some_of site k f (p ∷ ps) all = by_test (some_of site k f ps all.1) (f p)
  where
    by_test : AllByRecursion (IsOne site k) (filter f ps) → (b : Bool) → AllByRecursion (IsOne site k) (cond b (p ∷ filter f ps) (filter f ps))
    by_test rest true = (all.0, rest)
    by_test rest false = rest

-- ---- what is handed in

-- a value for an affordance of this kind, which nothing is against
record IsHanded (site : Site) (k : Kind) (i : Input) : Type 0 where
  one : IsOne site k i.affordance
  fit : IsFitValue i.affordance i.value

handed_of : (site : Site) (k : Kind) (inputs : List Input) → InputsHave (Contains (affordances_of site)) inputs → InputsHave (λ p. p.affordance.kind ≡ k) inputs
    → ¬ (SomeInput IsLong inputs) → ¬ (SomeInput IsRefusedBySchema inputs) → AllByRecursion (IsHanded site k) inputs
handed_of site k [] among kinds short taken = tt
handed_of site k (i ∷ inputs) among kinds short taken =
    let here : ¬ (longest_value < length (text_of i.value)) = λ long. short (inl long) in (
      record { one = record { among = among.0; kind = kinds.0 }; fit = ((λ refused. taken (inl refused)), omega (arith, here)) },
      handed_of site k inputs among.1 kinds.1 (λ long. short (inr long)) (λ refused. taken (inr refused)),
    )

one_kind : (k : Kind) (p : Placed) (value : Option Json) (inputs : List Input) → p.affordance.kind ≡ k → option_map (only_input p) value ≡ Some inputs
    → InputsHave (λ x. x.affordance.kind ≡ k) inputs
one_kind k p value inputs is e = let of = made_of (only_input p) value inputs e in subst (λ (xs : List Input). InputsHave (λ x. x.affordance.kind ≡ k) xs) of.2 (is, tt)

written_kind : (thing : ExposedThing) (name : List ℕ) (p : Placed) → written_property thing name ≡ Some p → p.affordance.kind ≡ kind.Property
written_kind thing name p e =
    let of = came_of unless_read_only (affordance_named kind.Property name thing.affordances) p e in
    by_test of.0 (named_kind kind.Property name thing.affordances of.0 of.1) of.0.affordance.read_only of.2
  where
    by_test : (q : Placed) → q.affordance.kind ≡ kind.Property → (b : Bool) → cond b None (Some q) ≡ Some p → p.affordance.kind ≡ kind.Property
    by_test q is true found = absurd cc
    by_test q is false found = subst (λ (x : Placed). x.affordance.kind ≡ kind.Property) (same_Some q p found) is

members_kind : (thing : ExposedThing) (ms : Members) (inputs : List Input) → member_inputs thing ms ≡ Some inputs → InputsHave (λ x. x.affordance.kind ≡ kind.Property) inputs
members_kind thing no_members inputs e = subst (λ (xs : List Input). InputsHave (λ x. x.affordance.kind ≡ kind.Property) xs) (same_Some [] inputs e) tt
members_kind thing (member name value ms) inputs e =
    let of = came_of (λ (p : Placed). option_map (λ (is : List Input). only_input p value ++ is) (member_inputs thing ms)) (written_property thing name) inputs e in
    let rest = made_of (λ (is : List Input). only_input of.0 value ++ is) (member_inputs thing ms) inputs of.2 in
    subst (λ (xs : List Input). InputsHave (λ x. x.affordance.kind ≡ kind.Property) xs) rest.2 (written_kind thing name of.0 of.1, members_kind thing ms rest.0 rest.1)

object_kind : (thing : ExposedThing) (value : Json) (inputs : List Input) → object_inputs thing value ≡ Some inputs → InputsHave (λ x. x.affordance.kind ≡ kind.Property) inputs
object_kind thing (object ms) inputs e = members_kind thing ms inputs e
object_kind thing value inputs e = absurd cc

many_kind : (thing : ExposedThing) (body : List ℕ) (inputs : List Input) → inputs_of (writes_many thing) body ≡ Some inputs → InputsHave (λ x. x.affordance.kind ≡ kind.Property) inputs
many_kind thing body inputs e = let of = came_of (object_inputs thing) (tree_of body) inputs e in object_kind thing of.0 inputs of.2

no_kind : (k : Kind) (body : List ℕ) (inputs : List Input) → no_inputs body ≡ Some inputs → InputsHave (λ x. x.affordance.kind ≡ k) inputs
no_kind k [] inputs e = subst (λ (xs : List Input). InputsHave (λ x. x.affordance.kind ≡ k) xs) (same_Some [] inputs e) tt
no_kind k (b ∷ body) inputs e = absurd cc

invoked_kind : (k : Kind) (p : Placed) (schema : Option Json) (body : List ℕ) (inputs : List Input) → p.affordance.kind ≡ k → invoke_inputs p schema body ≡ Some inputs
    → InputsHave (λ x. x.affordance.kind ≡ k) inputs
invoked_kind k p None body inputs is e = no_kind k body inputs e
invoked_kind k p (Some schema) body inputs is e = one_kind k p (tree_of body) inputs is e

-- an action's one input is for that action
its_own : (P : Placed → Type 0) (p : Placed) (body : List ℕ) (inputs : List Input) → P p → inputs_of (invokes p) body ≡ Some inputs → InputsHave P inputs
its_own P p body inputs has e = handed_have P (invokes p) body inputs (has, tt) e

-- ---- writing

written_fit : (site : Site) (i : Input) (inputs : List Input) (emitted : List Emission) (done : Done) (c : Called) (s : State) (calls : List HandlerCall) (t : State)
    → ((u : State) (after : List HandlerCall) → WritesEach inputs (emitted ++ emissions_of_write i) done u after t → AreFit site after)
    → IfDone c (Then (SeesWritten i) (WritesEach inputs (emitted ++ emissions_of_write i) done)) (Stops (failure_of c) emitted done) s calls t
    → AreFit site calls
written_fit site i inputs emitted done (gives answer.Done) s calls t further r = fit_then site r.first r.second calls (fit_none site r.first r.one.saw) (further r.mid r.second r.other) r.whole
written_fit site i inputs emitted done no_number s calls t further r = fit_none site calls r.1.saw
written_fit site i inputs emitted done no_memory s calls t further r = fit_none site calls r.1.saw
written_fit site i inputs emitted done (gives (answer.Value tree)) s calls t further r = fit_none site calls r.1.saw
written_fit site i inputs emitted done (gives answer.Started) s calls t further r = fit_none site calls r.1.saw
written_fit site i inputs emitted done (gives answer.Running) s calls t further r = fit_none site calls r.1.saw
written_fit site i inputs emitted done (gives (answer.Finished output)) s calls t further r = fit_none site calls r.1.saw
written_fit site i inputs emitted done (gives answer.Cancelled) s calls t further r = fit_none site calls r.1.saw
written_fit site i inputs emitted done (gives answer.Quiet) s calls t further r = fit_none site calls r.1.saw
written_fit site i inputs emitted done (gives (answer.Fired tree)) s calls t further r = fit_none site calls r.1.saw
written_fit site i inputs emitted done (gives (answer.Refused n)) s calls t further r = fit_none site calls r.1.saw
written_fit site i inputs emitted done (gives (answer.DeviceFault n)) s calls t further r = fit_none site calls r.1.saw

fit_as : (p : Placed) (value other : Json) → other ≡ value → IsFitValue p value → IsFitValue p other
fit_as p value other same fit = subst (λ (x : Json). IsFitValue p x) (sym same) fit

writes_fit : (site : Site) (inputs : List Input) (emitted : List Emission) (done : Done) (s : State) (calls : List HandlerCall) (t : State)
    → AllByRecursion (IsHanded site kind.Property) inputs → WritesEach inputs emitted done s calls t → AreFit site calls
writes_fit site [] emitted done s calls t all r = fit_none site calls r.1.saw
writes_fit site (i ∷ inputs) emitted done s calls t all r =
    let both = r.2.1 in
    fit_then site both.first both.second calls
    (call_fit site i.affordance (call.Write r.0) r.2.0 s both.first both.mid all.0.one.among (all.0.one.kind, fit_as i.affordance i.value (json_of r.0) r.1 all.0.fit) both.one)
    (written_fit site i inputs emitted done r.2.0 both.mid both.second t (λ u after rest. writes_fit site inputs (emitted ++ emissions_of_write i) done u after t all.1 rest) both.other)
    both.whole

-- ---- actions

invoked_none : (p : Placed) (path : List (List ℕ)) (id : ℕ) (done : Done) (c : Called) (s : State) (calls : List HandlerCall) (t : State) → IsInvoked p path id done c s calls t → calls ≡ []
invoked_none p path id done (gives answer.Started) s calls t is = is.1.saw
invoked_none p path id done (gives (answer.Finished None)) s calls t is = is.1.saw
invoked_none p path id done (gives (answer.Finished (Some tree))) s calls t is = is.1.saw
invoked_none p path id done no_number s calls t is = is.1.saw
invoked_none p path id done no_memory s calls t is = is.1.saw
invoked_none p path id done (gives (answer.Value tree)) s calls t is = is.1.saw
invoked_none p path id done (gives answer.Done) s calls t is = is.1.saw
invoked_none p path id done (gives answer.Running) s calls t is = is.1.saw
invoked_none p path id done (gives answer.Cancelled) s calls t is = is.1.saw
invoked_none p path id done (gives answer.Quiet) s calls t is = is.1.saw
invoked_none p path id done (gives (answer.Fired tree)) s calls t is = is.1.saw
invoked_none p path id done (gives (answer.Refused n)) s calls t is = is.1.saw
invoked_none p path id done (gives (answer.DeviceFault n)) s calls t is = is.1.saw

queried_none : (p : Placed) (id : ℕ) (done : Done) (c : Called) (s : State) (calls : List HandlerCall) (t : State) → IsQueried p id done c s calls t → calls ≡ []
queried_none p id done (gives answer.Running) s calls t is = is.1.saw
queried_none p id done (gives (answer.Finished None)) s calls t is = is.1.saw
queried_none p id done (gives (answer.Finished (Some tree))) s calls t (inl taken) = taken.1.1.saw
queried_none p id done (gives (answer.Finished (Some tree))) s calls t (inr bad) = bad.1.1.saw
queried_none p id done no_number s calls t is = is.1.saw
queried_none p id done no_memory s calls t is = is.1.saw
queried_none p id done (gives (answer.Value tree)) s calls t is = is.1.saw
queried_none p id done (gives answer.Done) s calls t is = is.1.saw
queried_none p id done (gives answer.Started) s calls t is = is.1.saw
queried_none p id done (gives answer.Cancelled) s calls t is = is.1.saw
queried_none p id done (gives answer.Quiet) s calls t is = is.1.saw
queried_none p id done (gives (answer.Fired tree)) s calls t is = is.1.saw
queried_none p id done (gives (answer.Refused n)) s calls t is = is.1.saw
queried_none p id done (gives (answer.DeviceFault n)) s calls t is = is.1.saw

cancelled_none : (id : ℕ) (done : Done) (c : Called) (s : State) (calls : List HandlerCall) (t : State) → IsCancelled id done c s calls t → calls ≡ []
cancelled_none id done (gives answer.Cancelled) s calls t is = is.1.saw
cancelled_none id done no_number s calls t is = is.1.saw
cancelled_none id done no_memory s calls t is = is.1.saw
cancelled_none id done (gives (answer.Value tree)) s calls t is = is.1.saw
cancelled_none id done (gives answer.Done) s calls t is = is.1.saw
cancelled_none id done (gives answer.Started) s calls t is = is.1.saw
cancelled_none id done (gives answer.Running) s calls t is = is.1.saw
cancelled_none id done (gives (answer.Finished output)) s calls t is = is.1.saw
cancelled_none id done (gives answer.Quiet) s calls t is = is.1.saw
cancelled_none id done (gives (answer.Fired tree)) s calls t is = is.1.saw
cancelled_none id done (gives (answer.Refused n)) s calls t is = is.1.saw
cancelled_none id done (gives (answer.DeviceFault n)) s calls t is = is.1.saw

handed_fit : (site : Site) (p : Placed) (inputs : List Input) (handed : Option Tree) → AllByRecursion (IsHanded site kind.Action) inputs → InputsHave (λ x. x ≡ p) inputs
    → IsHandedIn inputs handed → IsFitInput p handed
handed_fit site p [] handed all own is = subst (λ (x : Option Tree). IsFitInput p x) (sym is) tt
handed_fit site p (i ∷ inputs) handed all own is =
    subst (λ (x : Option Tree). IsFitInput p x) (sym is.2)
    (subst (λ (x : Placed). IsFitValue x (json_of is.0)) own.0 (fit_as i.affordance i.value (json_of is.0) is.1 all.0.fit))

queries_fit : (site : Site) (p : Placed) (id : ℕ) (status : Status) (done : Done) (s : State) (calls : List HandlerCall) (t : State) → IsOne site kind.Action p
    → Queries p id status done s calls t → AreFit site calls
queries_fit site p id running done s calls t one r =
    let both = r.1 in
    fit_then site both.first both.second calls (call_fit site p (call.Query id) r.0 s both.first both.mid one.among one.kind both.one)
    (fit_none site both.second (queried_none p id done r.0 both.mid both.second t both.other)) both.whole
queries_fit site p id (completed output) done s calls t one r = fit_none site calls r.1.saw

cancels_fit : (site : Site) (p : Placed) (id : ℕ) (status : Status) (done : Done) (s : State) (calls : List HandlerCall) (t : State) → IsOne site kind.Action p
    → Cancels p id status done s calls t → AreFit site calls
cancels_fit site p id running done s calls t one r =
    let both = r.1 in
    fit_then site both.first both.second calls (call_fit site p (call.Cancel id) r.0 s both.first both.mid one.among one.kind both.one)
    (fit_none site both.second (cancelled_none id done r.0 both.mid both.second t both.other)) both.whole
cancels_fit site p id (completed output) done s calls t one r = fit_none site calls r.1.saw

-- ---- requests and polls

performs_fit : (site : Site) (act : ThingAct) (q : RequestSeen) (inputs : List Input) (done : Done) (s : State) (calls : List HandlerCall) (t : State)
    → AllByRecursion (Contains (affordances_of site)) (affordances_of_act act) → IsActOfKind act → inputs_of act q.body ≡ Some inputs
    → ¬ (SomeInput IsLong inputs) → ¬ (SomeInput IsRefusedBySchema inputs) → Performs act q inputs done s calls t → AreFit site calls
performs_fit site (describes thing) q inputs done s calls t among is given short taken r = fit_none site calls r.1.saw
performs_fit site (reads_all thing) q inputs done s calls t among is given short taken r =
    each_fit site (readable thing) [] done s calls t (some_of site kind.Property is_readable (those_of kind.Property thing) (of_one_kind site kind.Property thing.affordances among)) r
performs_fit site (writes_many thing) q inputs done s calls t among is given short taken r =
    writes_fit site inputs [] done s calls t
    (handed_of site kind.Property inputs (handed_have (Contains (affordances_of site)) (writes_many thing) q.body inputs among given) (many_kind thing q.body inputs given) short taken) r
performs_fit site (reads p) q inputs done s calls t among is given short taken r = value_fit site p r.0 s calls t (record { among = among.0; kind = is }) r.2
performs_fit site (writes p) q inputs done s calls t among is given short taken r =
    writes_fit site inputs [] done s calls t
    (handed_of site kind.Property inputs (handed_have (Contains (affordances_of site)) (writes p) q.body inputs among given) (one_kind kind.Property p (tree_of q.body) inputs is given) short taken) r
performs_fit site (invokes p) q inputs done s calls t among is given short taken r =
    let both = r.2.1 in
    let all = handed_of site kind.Action inputs (handed_have (Contains (affordances_of site)) (invokes p) q.body inputs among given)
    (invoked_kind kind.Action p p.affordance.input q.body inputs is given) short taken in
    fit_then site both.first both.second calls
    (call_fit site p (call.Invoke s.next_invocation r.0) r.2.0 s both.first both.mid among.0
    (is, handed_fit site p inputs r.0 all (its_own (λ x. x ≡ p) p q.body inputs refl given) r.1) both.one)
    (fit_none site both.second (invoked_none p q.path s.next_invocation done r.2.0 both.mid both.second t both.other)) both.whole
performs_fit site (queries p id) q inputs done s calls t among is given short taken r = queries_fit site p id r.0.status done s calls t (record { among = among.0; kind = is }) r.2
performs_fit site (cancels p id) q inputs done s calls t among is given short taken r = cancels_fit site p id r.0.status done s calls t (record { among = among.0; kind = is }) r.2
performs_fit site (reads_event p) q inputs done s calls t among is given short taken r = fit_none site calls r.1.saw
performs_fit site (waits p) q inputs done s calls t among is given short taken r = fit_none site calls r.1.saw

-- a fact of no act that is asked for is one of no input of it
not_some : (P : Input → Type 0) (a : Asked) (act : ThingAct) (inputs : List Input) → act_asked a ≡ Some act → inputs_of act a.request.body ≡ Some inputs
    → ¬ (Holding (λ x. Holding (SomeInput P) (inputs_of x a.request.body)) (act_asked a)) → ¬ (SomeInput P inputs)
not_some P a act inputs asked given none some =
    none (subst (λ (x : Option ThingAct). Holding (λ y. Holding (SomeInput P) (inputs_of y a.request.body)) x) (sym asked)
    (subst (λ (x : Option (List Input)). Holding (SomeInput P) x) (sym given) some))

pub acts_fit : (site : Site) (q : RequestSeen) (done : Done) (s : State) (calls : List HandlerCall) (t : State) → Acts site q done s calls t → AllByRecursion (IsFit site) calls
acts_fit site q done s calls t (refuses o refused answers) = fit_none site calls answers.1.saw
acts_fit site q done s calls t (has_no_memory answers) = fit_none site calls answers.1.saw
acts_fit site q done s calls t (performs act inputs free asked given does) =
    let a : Asked = record { site = site; state = s; request = q } in
    performs_fit site act q inputs done s calls t (asked_have (Contains (affordances_of site)) a act (site_has_its_own site) asked) (asked_kind a act asked) given
    (not_some IsLong a act inputs asked given free.1.1.1.1.1.0) (not_some IsRefusedBySchema a act inputs asked given free.1.1.1.1.1.1.0) does

pub polled_fit : (site : Site) (p : Placed) (one : List Emission) (s : State) (calls : List HandlerCall) (t : State) → Contains (affordances_of site) p → p.affordance.kind ≡ kind.Event
    → PollsEvent p one s calls t → AllByRecursion (IsFit site) calls
polled_fit site p one s calls t among is r =
    let both = r.1 in
    fit_then site both.first both.second calls (call_fit site p call.Poll r.0 s both.first both.mid among is both.one) (fit_none site both.second both.other.1.saw) both.whole
