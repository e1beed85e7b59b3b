-- Two runs perform a request alike, and poll an event alike, until memory is wanting.
use Rattle.std.proofs.Common.{◌≡◌, ℕ, Bool, true, false, List, [], ◌∷◌, ◌++◌, map, refl, sym, ap, ap₂, subst, ◌∙◌, inl, inr}
use Rattle.std.specs.Prelude.{◌⊎◌}
use Rattle.wot_json.specs.Meaning.{json_of}
use Rattle.thing_ops.specs.declared.outcome.Outcome.{Outcome}
use Rattle.thing_ops.specs.declared.outcome.Outcome.TheVariants as outcome
use Rattle.thing_ops.specs.Requests.{RequestSeen}
use Rattle.thing_ops.specs.Routes.{route_of}
use Rattle.thing_handler.specs.declared.handler.CallKind.{CallKind}
use Rattle.thing_handler.specs.declared.handler.CallKind.TheVariants as call
use Rattle.thing_handler.specs.declared.handler.Answer.{Answer}
use Rattle.thing_handler.specs.declared.handler.Answer.TheVariants as answer
use Rattle.thing_handler.specs.Turns.{HandlerCall, answered, missed}
use Rattle.thing_site.specs.Site.{Placed}
use Rattle.thing_state.specs.State.{State as ThingState, Emission, last_after}
use Rattle.thing_core.specs.Thing.{Done, only, Acts, refuses, has_no_memory, performs, emission, IsPolled, PollsEvent}
use Rattle.thing_state.specs.Calls.{Called, gives, Calls, IsTaken}
use Rattle.thing_core.specs.Determined.{AreAnsweredBy, HadMemory as WasAmple}
use Rattle.thing_core.proofs.ApartLaws.{PartsAt, Part, part_before, parts_mapped}
use Rattle.thing_core.proofs.DeterminedLaws.{Same, IsMissed, IsAnswer, IsDecided, decided, call_determined, answered_first, one_decision}
use Rattle.directory_requests.specs.declared.server.ServedEntries.{ServedEntries}
use Rattle.directory_requests.specs.Asked.{is_of_directory}
use Rattle.directory_requests.specs.Requests.{DirectoryActs}
use Rattle.coap_bind.specs.Observing.{is_memory}
use Rattle.servient_trace.specs.Trace.{Sighting, at_handler, calls_in}
use Rattle.servient_core.specs.Machine.{Site, State, OnThing, Performs, PerformsOnDirectory, PerformsByHttp, PollsAndDelivers, DeliversEach}
use Rattle.servient_core.proofs.PartLaws.{the_calls}
use Rattle.servient_laws.specs.Determined.{IsSign, SameServer, Alike, Agree, AreAnswered}
use Rattle.servient_laws.proofs.AlikeStates.{AgreeAs, AgreeOn, thing_changed, directory_changed, becomes_alike, passing_same}
use Rattle.servient_laws.proofs.AlikeMoves.{deliveries_agree}
use Rattle.servient_laws.proofs.AlikeDirectoryActs.{directory_determined}
use Rattle.servient_laws.proofs.MemoryLaws.{performs_missed, never_refused}
use Rattle.servient_laws.proofs.UnchangedEntries.{entries_stay}

-- ---- calls

-- the answers that are known of a trace are known of the calls that it is
answers_are : (answers : ℕ → Answer) (calls : List HandlerCall) (a : List Sighting) → a ≡ map at_handler calls → AreAnswered answers a → AreAnsweredBy answers calls
answers_are answers calls a saw fits = subst (λ (cs : List HandlerCall). AreAnsweredBy answers cs) (ap calls_in saw ∙ the_calls calls) fits

-- where calls part, so do their traces
sign_seen : (c : HandlerCall) → IsMissed c → IsSign (at_handler c)
sign_seen (answered turn) is = is
sign_seen (missed slot) is = tt

one_call : (c d : HandlerCall) → at_handler c ≡ at_handler d → c ≡ d
one_call c d same = cc

parts_seen : (calls more : List HandlerCall) (a b : List Sighting) → a ≡ map at_handler calls → b ≡ map at_handler more → PartsAt IsMissed calls more → PartsAt IsSign a b
parts_seen calls more a b one other e =
    subst (λ (x : List Sighting). PartsAt IsSign x b) (sym one)
    (subst (λ (x : List Sighting). PartsAt IsSign (map at_handler calls) x) (sym other) (parts_mapped IsMissed IsSign at_handler sign_seen one_call calls more e))

part_seen : (calls more : List HandlerCall) (a b : List Sighting) → a ≡ map at_handler calls → b ≡ map at_handler more → Part IsMissed calls more → Part IsSign a b
part_seen calls more a b one other (inl e) = inl (parts_seen calls more a b one other e)
part_seen calls more a b one other (inr e) = inr (parts_seen more calls b a other one e)

-- ---- requests

is_it : (o : Outcome) → is_memory o ≡ true → o ≡ outcome.Memory
is_it outcome.Memory is = refl
is_it o is = absurd cc

-- whether a request was out of memory
pub memory_or_not : (o : Outcome) → (o ≡ outcome.Memory) ⊎ (o ≡ outcome.Memory → ⊥)
memory_or_not o = by (is_memory o) refl
  where
    by : (t : Bool) → is_memory o ≡ t → (o ≡ outcome.Memory) ⊎ (o ≡ outcome.Memory → ⊥)
    by true is = inl (is_it o is)
    by false isnt = inr (λ same. let e : true ≡ false = ap is_memory (sym same) ∙ isnt in cc)

-- states are alike but for what a request changes
pub record Beside (s t : State) : Type 0 where
  pub moment : s.moment ≡ t.moment
  pub http : s.http ≡ t.http
  pub coap : SameServer s.coap t.coap

-- a request made a call, or its outcome isn't that it was out of memory
pub data GoesOn (a : List Sighting) (done : Done) : Type 0 where
  has_called : (c : HandlerCall) (more : List Sighting) → a ≡ at_handler c ∷ more → GoesOn a done
  has_ended : a ≡ [] → (done.outcome ≡ outcome.Memory → ⊥) → GoesOn a done

-- One request in two runs: both are the same; or they part where a handler was out of memory; or one was out of memory
-- before its first call, and the other goes on.
pub data Requested (x y : Done) (a b : List Sighting) (u v : State) : Type 0 where
  as_one : x ≡ y → Agree a b u v → Requested x y a b u v
  parted : Part IsSign a b → Requested x y a b u v
  first_out : a ≡ [] → x ≡ only outcome.Memory → GoesOn b y → Beside u v → Requested x y a b u v
  second_out : b ≡ [] → y ≡ only outcome.Memory → GoesOn a x → Beside u v → Requested x y a b u v

-- ---- requests to Things

-- the same of calls
data Acted (x y : Done) (calls more : List HandlerCall) (k l : ThingState) : Type 0 where
  acted_alike : x ≡ y → calls ≡ more → k ≡ l → Acted x y calls more k l
  acted_apart : Part IsMissed calls more → Acted x y calls more k l
  none_first : calls ≡ [] → x ≡ only outcome.Memory → (more ≡ [] → y.outcome ≡ outcome.Memory → ⊥) → Acted x y calls more k l
  none_second : more ≡ [] → y ≡ only outcome.Memory → (calls ≡ [] → x.outcome ≡ outcome.Memory → ⊥) → Acted x y calls more k l

not_empty : (before calls : List HandlerCall) (slot : ℕ) → calls ≡ before ++ missed slot ∷ [] → calls ≡ [] → ⊥
not_empty [] calls slot whole none = absurd (let e : [] ≡ missed slot ∷ [] = sym none ∙ whole in cc)
not_empty (c ∷ before) calls slot whole none = absurd (let e : [] ≡ c ∷ (before ++ missed slot ∷ []) = sym none ∙ whole in cc)

-- one that is decided is out of memory by a call alone
pub decided_calls : (site : Site) (q : RequestSeen) (done : Done) (s t : ThingState) (seen : List HandlerCall) → (acts : Acts site q done s seen t) → IsDecided acts → seen ≡ [] → done.outcome ≡ outcome.Memory → ⊥
decided_calls site q done s t seen (refuses o refused answers) is none memory =
    never_refused (record { site = site; state = s; request = q }) o refused (sym (ap (λ (d : Done). d.outcome) answers.0) ∙ memory)
decided_calls site q done s t seen (has_no_memory answers) is none memory = is
decided_calls site q done s t seen (performs act inputs free asked given move) is none memory =
    let e = performs_missed act q inputs done s seen t memory move in
    not_empty e.before seen e.slot e.last none

by_decided : (answers : ℕ → Answer) (site : Site) (q : RequestSeen) (x y : Done) (s k l : ThingState) (calls more : List HandlerCall)
    → (p : Acts site q x s calls k) → (r : Acts site q y s more l) → IsDecided p → IsDecided r → AreAnsweredBy answers calls → AreAnsweredBy answers more → Acted x y calls more k l
by_decided answers site q x y s k l calls more p r is_p is_r on_calls on_more = by (decided answers site q s x y calls more k l p r is_p is_r on_calls on_more)
  where
    by : Same x y calls more k l ⊎ (Part IsMissed calls more × (WasAmple x → WasAmple y → ⊥)) → Acted x y calls more k l
    by (inl one) = acted_alike one.result one.seen one.state
    by (inr (parts, ill)) = acted_apart parts

acted : (answers : ℕ → Answer) (site : Site) (q : RequestSeen) (x y : Done) (s k l : ThingState) (calls more : List HandlerCall)
    → Acts site q x s calls k → Acts site q y s more l → AreAnsweredBy answers calls → AreAnsweredBy answers more → Acted x y calls more k l
acted answers site q x y s k l calls more (has_no_memory p) (has_no_memory r) on_calls on_more = acted_alike (p.0 ∙ sym r.0) (p.1.saw ∙ sym r.1.saw) (p.1.next ∙ sym r.1.next)
acted answers site q x y s k l calls more (has_no_memory p) (refuses o refused r) on_calls on_more = none_first p.1.saw p.0 (decided_calls site q y s l more (refuses o refused r) tt)
acted answers site q x y s k l calls more (has_no_memory p) (performs act is free asked given r) on_calls on_more =
    none_first p.1.saw p.0 (decided_calls site q y s l more (performs act is free asked given r) tt)
acted answers site q x y s k l calls more (refuses o refused p) (has_no_memory r) on_calls on_more = none_second r.1.saw r.0 (decided_calls site q x s k calls (refuses o refused p) tt)
acted answers site q x y s k l calls more (performs act is free asked given p) (has_no_memory r) on_calls on_more =
    none_second r.1.saw r.0 (decided_calls site q x s k calls (performs act is free asked given p) tt)
acted answers site q x y s k l calls more (refuses o refused p) (refuses o' refused' r) on_calls on_more =
    by_decided answers site q x y s k l calls more (refuses o refused p) (refuses o' refused' r) tt tt on_calls on_more
acted answers site q x y s k l calls more (refuses o refused p) (performs act is free asked given r) on_calls on_more =
    by_decided answers site q x y s k l calls more (refuses o refused p) (performs act is free asked given r) tt tt on_calls on_more
acted answers site q x y s k l calls more (performs act is free asked given p) (refuses o refused r) on_calls on_more =
    by_decided answers site q x y s k l calls more (performs act is free asked given p) (refuses o refused r) tt tt on_calls on_more
acted answers site q x y s k l calls more (performs act is free asked given p) (performs act' is' free' asked' given' r) on_calls on_more =
    by_decided answers site q x y s k l calls more (performs act is free asked given p) (performs act' is' free' asked' given' r) tt tt on_calls on_more

goes_on_by : (more : List HandlerCall) (b : List Sighting) (y : Done) → b ≡ map at_handler more → (more ≡ [] → y.outcome ≡ outcome.Memory → ⊥) → GoesOn b y
goes_on_by [] b y saw isnt = has_ended saw (isnt refl)
goes_on_by (c ∷ more) b y saw isnt = has_called c (map at_handler more) saw

pub by_things : (answers : ℕ → Answer) (site : Site) (q : RequestSeen) (x y : Done) (s t u v : State) (a b : List Sighting) → Alike s t
    → Performs site q x s a u → Performs site q y t b v → AreAnswered answers a → AreAnswered answers b → Requested x y a b u v
by_things answers site q x y s t u v a b alike (k, calls, p, at) (l, more, r, at') on_a on_b =
    by (acted answers site q x y s.thing k l calls more p (subst (λ (z : ThingState). Acts site q y z more l) (sym alike.thing) r)
    (answers_are answers calls a at.saw on_a) (answers_are answers more b at'.saw on_b))
  where
    beside : Beside u v
    beside = subst (λ (z : State). Beside u z) (sym at'.next) (subst (λ (z : State). Beside z (record t { thing = l })) (sym at.next) (record { moment = alike.moment; http = alike.http; coap = alike.coap }))

    by : Acted x y calls more k l → Requested x y a b u v
    by (acted_alike done seen state) =
        as_one done (becomes_alike (record s { thing = k }) (record t { thing = l }) u v (map at_handler calls) (map at_handler more) a b (thing_changed s t k l alike state)
        (ap (λ (cs : List HandlerCall). map at_handler cs) seen) at at')
    by (acted_apart parts) = parted (part_seen calls more a b at.saw at'.saw parts)
    by (none_first none is isnt) = first_out (at.saw ∙ ap (λ (cs : List HandlerCall). map at_handler cs) none) is (goes_on_by more b y at'.saw isnt) beside
    by (none_second none is isnt) = second_out (at'.saw ∙ ap (λ (cs : List HandlerCall). map at_handler cs) none) is (goes_on_by calls a x at.saw isnt) beside

-- ---- requests to the directory

same_done : (x y : Done) → x.outcome ≡ y.outcome → x.emissions ≡ y.emissions → x ≡ y
same_done x y e f = ap₂ (λ (o : Outcome) (es : List Emission). record { outcome = o; emissions = es }) e f

by_directory : (q : RequestSeen) (x y : Done) (s t u v : State) (a b : List Sighting) → Alike s t
    → PerformsOnDirectory q x s a u → PerformsOnDirectory q y t b v → Requested x y a b u v
by_directory q x y s t u v a b alike (d, p, none, at) (e, r, none', at') = by (memory_or_not x.outcome) (memory_or_not y.outcome)
  where
    there : DirectoryActs q s.moment y.outcome s.directory e
    there =
        subst (λ (n : ℕ). DirectoryActs q n y.outcome s.directory e) (sym alike.moment) (subst (λ (z : ServedEntries). DirectoryActs q t.moment y.outcome z e) (sym alike.directory) r)

    beside : Beside u v
    beside =
        subst (λ (z : State). Beside u z) (sym at'.next)
        (subst (λ (z : State). Beside z (record t { directory = e })) (sym at.next) (record { moment = alike.moment; http = alike.http; coap = alike.coap }))

    one : x.outcome ≡ y.outcome → d ≡ e → Requested x y a b u v
    one outcomes entries =
        as_one (same_done x y outcomes (none ∙ sym none'))
        (becomes_alike (record s { directory = d }) (record t { directory = e }) u v [] [] a b (directory_changed s t d e alike entries) refl at at')

    by : (x.outcome ≡ outcome.Memory) ⊎ (x.outcome ≡ outcome.Memory → ⊥) → (y.outcome ≡ outcome.Memory) ⊎ (y.outcome ≡ outcome.Memory → ⊥) → Requested x y a b u v
    by (inl is) (inl is') = one (is ∙ sym is') (entries_stay q s.moment x.outcome s.directory d p is ∙ sym (entries_stay q s.moment y.outcome s.directory e there is'))
    by (inl is) (inr isnt) = first_out at.saw (same_done x (only outcome.Memory) is none) (has_ended at'.saw isnt) beside
    by (inr isnt) (inl is) = second_out at'.saw (same_done y (only outcome.Memory) is none') (has_ended at.saw isnt) beside
    by (inr isnt) (inr isnt') =
        let same = directory_determined q s.moment x.outcome y.outcome s.directory d e isnt isnt' p there in
        one same.0 same.1

never : (b : Bool) → b ≡ true → b ≡ false → ⊥
never true is isnt = absurd cc
never false is isnt = absurd cc

pub by_http : (answers : ℕ → Answer) (site : Site) (q : RequestSeen) (x y : Done) (s t u v : State) (a b : List Sighting) → Alike s t
    → PerformsByHttp site q x s a u → PerformsByHttp site q y t b v → AreAnswered answers a → AreAnswered answers b → Requested x y a b u v
by_http answers site q x y s t u v a b alike (inl p) (inl r) on_a on_b = by_directory q x y s t u v a b alike p.1 r.1
by_http answers site q x y s t u v a b alike (inr p) (inr r) on_a on_b = by_things answers site q x y s t u v a b alike p.1 r.1 on_a on_b
by_http answers site q x y s t u v a b alike (inl p) (inr r) on_a on_b = absurd (never (is_of_directory (route_of q.path)) p.0 r.0)
by_http answers site q x y s t u v a b alike (inr p) (inl r) on_a on_b = absurd (never (is_of_directory (route_of q.path)) r.0 p.0)

-- ---- polls

-- one call in two runs
data CalledAlike (c d : Called) (calls more : List HandlerCall) (m n : ThingState) : Type 0 where
  alike_call : c ≡ d → calls ≡ more → m ≡ n → CalledAlike c d calls more m n
  one_missed : Part IsMissed calls more → CalledAlike c d calls more m n

called_once : (answers : ℕ → Answer) (slot : ℕ) (what : CallKind) (c d : Called) (s m n : ThingState) (calls more : List HandlerCall) → Calls slot what c s calls m → Calls slot what d s more n
    → AreAnsweredBy answers calls → AreAnsweredBy answers more → CalledAlike c d calls more m n
called_once answers slot what c d s m n calls more p q on_p on_q = by (call_determined answers slot what s c d calls more m n p q on_p on_q)
  where
    by : Same c d calls more m n ⊎ (Part IsMissed calls more × (IsAnswer c → IsAnswer d → ⊥)) → CalledAlike c d calls more m n
    by (inl one) = alike_call one.result one.seen one.state
    by (inr (parts, ill)) = one_missed parts

polled_once : (p : Placed) (c : Called) (e f : List Emission) → IsPolled p e c → IsPolled p f c → e ≡ f
polled_once p (gives (answer.Fired tree)) e f a b = one_decision (IsTaken p.affordance.output (json_of tree)) (emission p (json_of tree) ∷ []) [] e f a b
polled_once p c e f a b = a ∙ sym b

-- one poll is
data PolledAlike (e f : List Emission) (calls more : List HandlerCall) (t u : ThingState) : Type 0 where
  alike_poll : e ≡ f → calls ≡ more → t ≡ u → PolledAlike e f calls more t u
  poll_missed : Part IsMissed calls more → PolledAlike e f calls more t u

poll_once : (answers : ℕ → Answer) (p : Placed) (e f : List Emission) (s t u : ThingState) (calls more : List HandlerCall) → PollsEvent p e s calls t → PollsEvent p f s more u
    → AreAnsweredBy answers calls → AreAnsweredBy answers more → PolledAlike e f calls more t u
poll_once answers p e f s t u calls more (c, x) (d, y) on_x on_y =
    by (called_once answers p.slot call.Poll c d s x.mid y.mid x.first y.first x.one y.one
    (answered_first answers x.first x.second (subst (λ (l : List HandlerCall). AreAnsweredBy answers l) x.whole on_x))
    (answered_first answers y.first y.second (subst (λ (l : List HandlerCall). AreAnsweredBy answers l) y.whole on_y)))
  where
    by : CalledAlike c d x.first y.first x.mid y.mid → PolledAlike e f calls more t u
    by (one_missed parts) = poll_missed (part_before IsMissed x.first y.first x.second y.second calls more x.whole y.whole parts)
    by (alike_call called seen state) =
        let emitted : e ≡ f = polled_once p c e f x.other.0 (subst (λ (z : Called). IsPolled p f z) (sym called) y.other.0) in
        alike_poll emitted
        (x.whole ∙ ap₂ (λ (k l : List HandlerCall). k ++ l) seen (x.other.1.saw ∙ sym y.other.1.saw) ∙ sym y.whole)
        (x.other.1.next ∙ ap₂ (λ (z : ThingState) (es : List Emission). record z { last = last_after es z.last }) state emitted ∙ sym y.other.1.next)

pub poll_agrees : (answers : ℕ → Answer) (p : Placed) → AgreeAs answers (PollsAndDelivers p) (PollsAndDelivers p)
poll_agrees answers p = passing_same answers (λ emissions. OnThing (PollsEvent p emissions)) DeliversEach polls (deliveries_agree answers)
  where
    polls : (x y : List Emission) (s t u v : State) (a b : List Sighting) → Alike s t → OnThing (PollsEvent p x) s a u → OnThing (PollsEvent p y) t b v → AreAnswered answers a → AreAnswered answers b
        → AgreeOn x y a b u v
    polls x y s t u v a b alike (k, calls, one, at) (l, more, other, at') on_a on_b =
        by (poll_once answers p x y s.thing k l calls more one (subst (λ (z : ThingState). PollsEvent p y z more l) (sym alike.thing) other)
        (answers_are answers calls a at.saw on_a) (answers_are answers more b at'.saw on_b))
      where
        by : PolledAlike x y calls more k l → AgreeOn x y a b u v
        by (poll_missed parts) = inr (part_seen calls more a b at.saw at'.saw parts)
        by (alike_poll emitted seen state) = inl (
          emitted,
          becomes_alike (record s { thing = k }) (record t { thing = l }) u v (map at_handler calls) (map at_handler more) a b (thing_changed s t k l alike state)
              (ap (λ (cs : List HandlerCall). map at_handler cs) seen) at at',
        )
