-- The events that a run over a script took, and the acts and turns that it made and showed.
use Rattle.std.proofs.Common.{◌≡◌, ◌≢◌, ℕ, ◌<◌, ◌≤◌, List, [], ◌∷◌, ◌++◌, Option, Some, None, Bool, true, false, length, take, refl, sym, ap, subst, ◌∙◌, arith, length-append}
use Rattle.std.proofs.lemmas.List.Elements.{filter_map-append}
use Rattle.std.specs.Prelude.{◌||◌, IfSome, IsSome}
use Rattle.std.proofs.lemmas.List.{append-nil}
use Rattle.std.proofs.lemmas.Option.{same_Some}
use Rattle.thing_handler.specs.Turns.{RunTurn, AreNumberedFrom, turns_in}
use Rattle.servient_outside.specs.declared.net.What.{What}
use Rattle.servient_outside.specs.declared.net.What.TheVariants as what
use Rattle.servient_outside.specs.declared.net.EventWithBytes.{EventWithBytes}
use Rattle.servient_outside.specs.declared.net.Act.{Act}
use Rattle.servient_outside.specs.Network.{Happening, heard, did, broke, NetCall, next_event, Leaves, events_in, acts_in, break_count}
use Rattle.servient_outside.specs.Told.{Continues}
use Rattle.servient_outside.specs.Ending.{with_stop}
use Rattle.servient_base.specs.Moves.{Refines}
use Rattle.servient_core.specs.declared.layers.Layers.{Layers}
use Rattle.servient_core.specs.declared.serving.Served.{Served}
use Rattle.servient_core.specs.declared.serving.Served.TheVariants as served
use Rattle.servient_trace.specs.Trace.{Sighting, happened_in, calls_in, Outside, Shows, happening_in}
use Rattle.servient_core.specs.Machine.{Site, State, Run}
use Rattle.servient_core.specs.Serving.{StandsFor, HasNoStop, AreTaken, Serves}
use Rattle.servient_core.proofs.MachineLaws.{run_keeps}
use Rattle.servient_script.specs.Print.{print_text}
use Rattle.servient_script.specs.Script.{StopsAtEnd, has_stop, is_stop}
use Rattle.servient_cli.specs.Replaying.{run_events}

-- ---- the events of a run

pub is_the_stop : (w : What) → is_stop w ≡ true → w ≡ what.Stop
is_the_stop (what.Opened c) is = absurd cc
is_the_stop (what.Bytes c count) is = absurd cc
is_the_stop (what.Ended c) is = absurd cc
is_the_stop (what.Datagram from count) is = absurd cc
is_the_stop what.Tick is = absurd cc
is_the_stop what.Stop is = refl

is_no_stop : (w : What) → is_stop w ≡ false → w ≢ what.Stop
is_no_stop w is stops = let bad : is_stop w ≡ true = ap is_stop stops in cc

-- they end with a stop, and it is the only one
pub record EndsOnce (coming : List EventWithBytes) : Type 0 where
  pub body : List EventWithBytes
  pub stop : EventWithBytes
  pub whole : coming ≡ body ++ stop ∷ []
  pub going : HasNoStop body
  pub stops : stop.event.what ≡ what.Stop

none_stops : (events : List EventWithBytes) → has_stop events ≡ false → HasNoStop events
none_stops [] none = tt
none_stops (e ∷ events) none = by_test (none_stops events) (is_stop e.event.what) refl none
  where
    by_test : (has_stop events ≡ false → HasNoStop events) → (b : Bool) → is_stop e.event.what ≡ b → (b || has_stop events) ≡ false → HasNoStop (e ∷ events)
    by_test rest true is n = absurd cc
    by_test rest false is n = (is_no_stop e.event.what is, rest n)

some_stops : (events : List EventWithBytes) → StopsAtEnd events → has_stop events ≡ true → EndsOnce events
some_stops [] ends some = absurd cc
some_stops (e ∷ events) ends some = by_test (some_stops events ends.1) (is_stop e.event.what) refl some
  where
    by_test : (has_stop events ≡ true → EndsOnce events) → (b : Bool) → is_stop e.event.what ≡ b → (b || has_stop events) ≡ true → EndsOnce (e ∷ events)
    by_test rest true is s = record {
      body = [];
      stop = e;
      whole = ap (λ (es : List EventWithBytes). e ∷ es) (ends.0 is);
      going = tt;
      stops = is_the_stop e.event.what is;
    }
    by_test rest false is s =
        let more = rest s in
        record {
          body = e ∷ more.body;
          stop = more.stop;
          whole = ap (λ (es : List EventWithBytes). e ∷ es) more.whole;
          going = (is_no_stop e.event.what is, more.going);
          stops = more.stops;
        }

pub run_ends : (events : List EventWithBytes) → StopsAtEnd events → EndsOnce (run_events events)
run_ends events ends = by_test (has_stop events) refl
  where
    by_test : (b : Bool) → has_stop events ≡ b → EndsOnce (run_events events)
    by_test true is = rw is (some_stops events ends is)
    by_test false is = rw is (record { body = events; stop = _; whole = refl; going = none_stops events is; stops = refl })

-- they are the first that the network gives
pub runs_first : (events : List EventWithBytes) → (rest : List EventWithBytes) × (with_stop events ≡ run_events events ++ rest)
runs_first events = by_test (has_stop events) refl
  where
    by_test : (b : Bool) → has_stop events ≡ b → (rest : List EventWithBytes) × (with_stop events ≡ run_events events ++ rest)
    by_test true is = rw is (_, refl)
    by_test false is = rw is ([], sym (append-nil (with_stop events)))

-- ---- which events were heard

-- the events are those that were to come, as far as those are known
abbrev AreNext : List EventWithBytes → List EventWithBytes → Type 0
AreNext coming [] = Unit {0}
AreNext [] (e ∷ took) = Unit {0}
AreNext (c ∷ coming) (e ∷ took) = (e ≡ c) × AreNext coming took

heard_next : (happened : List Happening) (coming : List EventWithBytes) (now : Option (List EventWithBytes)) → Leaves happened (Some coming) now → AreNext coming (events_in happened)
heard_next [] coming now leaves = tt
heard_next (did act ∷ happened) coming now leaves = heard_next happened coming now leaves
heard_next (heard e ∷ happened) [] now leaves = tt
heard_next (heard e ∷ happened) (c ∷ coming) now leaves = (leaves.0, heard_next happened coming now leaves.1)
heard_next (broke call ∷ happened) [] now leaves = nothing_next (events_in happened)
  where
    nothing_next : (took : List EventWithBytes) → AreNext [] took
    nothing_next [] = tt
    nothing_next (e ∷ took) = tt
heard_next (broke call ∷ happened) (c ∷ coming) now leaves = absurd leaves

-- as long as no more were heard than were to come, what is left is known
left_known : (happened : List Happening) (coming : List EventWithBytes) (now : Option (List EventWithBytes)) → Leaves happened (Some coming) now → break_count happened ≡ 0 → length (events_in happened) ≤ length coming → IsSome now
left_known [] coming now leaves unbroken few = subst (λ (o : Option (List EventWithBytes)). IsSome o) (sym leaves) refl
left_known (did act ∷ happened) coming now leaves unbroken few = left_known happened coming now leaves unbroken few
left_known (heard e ∷ happened) [] now leaves unbroken few = absurd (omega arith)
left_known (heard e ∷ happened) (c ∷ coming) now leaves unbroken few = left_known happened coming now leaves.1 unbroken (omega arith)
left_known (broke call ∷ happened) coming now leaves unbroken few = absurd (omega arith)

-- a network that knows what is to come doesn't break before that
breaks_after : (happened : List Happening) (coming : List EventWithBytes) (now : Option (List EventWithBytes)) → Leaves (happened ++ broke next_event ∷ []) (Some coming) now → break_count happened ≡ 0 → length (events_in happened) < length coming → ⊥
breaks_after [] [] now leaves unbroken few = omega arith
breaks_after [] (c ∷ coming) now leaves unbroken few = leaves
breaks_after (did act ∷ happened) coming now leaves unbroken few = breaks_after happened coming now leaves unbroken few
breaks_after (heard e ∷ happened) [] now leaves unbroken few = omega arith
breaks_after (heard e ∷ happened) (c ∷ coming) now leaves unbroken few = breaks_after happened coming now leaves.1 unbroken (omega arith)
breaks_after (broke other ∷ happened) coming now leaves unbroken few = omega arith

-- events taken up to a stop are all, and the stop after them
took_all : (events : List EventWithBytes) (stop : EventWithBytes) (before : List EventWithBytes) (last : EventWithBytes) → HasNoStop events → stop.event.what ≡ what.Stop → HasNoStop before → last.event.what ≡ what.Stop → AreNext (events ++ stop ∷ []) (before ++ last ∷ []) → before ++ last ∷ [] ≡ events ++ stop ∷ []
took_all [] stop [] last going stops all ends next = ap (λ (x : EventWithBytes). x ∷ []) next.0
took_all [] stop (x ∷ before) last going stops all ends next = absurd (all.0 (ap (λ (e : EventWithBytes). e.event.what) next.0 ∙ stops))
took_all (e ∷ events) stop [] last going stops all ends next = absurd (going.0 (ap (λ (x : EventWithBytes). x.event.what) (sym next.0) ∙ ends))
took_all (e ∷ events) stop (x ∷ before) last going stops all ends next =
    ap (λ (y : EventWithBytes). y ∷ (before ++ last ∷ [])) next.0 ∙ ap (λ (ys : List EventWithBytes). e ∷ ys) (took_all events stop before last going.1 stops all.1 ends next.1)

-- events taken without a stop are fewer than all and the stop
never_past : (events : List EventWithBytes) (stop : EventWithBytes) (took : List EventWithBytes) → stop.event.what ≡ what.Stop → HasNoStop took → AreNext (events ++ stop ∷ []) took → length took < length (events ++ stop ∷ [])
never_past [] stop [] stops all next = omega arith
never_past [] stop (x ∷ took) stops all next = absurd (all.0 (ap (λ (e : EventWithBytes). e.event.what) next.0 ∙ stops))
never_past (e ∷ events) stop [] stops all next = omega arith
never_past (e ∷ events) stop (x ∷ took) stops all next = omega (arith, never_past events stop took stops all.1 next.1)

-- as far as they go, the events taken are the first
next_first : (coming took : List EventWithBytes) → AreNext coming took → length took ≤ length coming → took ≡ take (length took) coming
next_first coming [] next le = refl
next_first [] (e ∷ took) next le = absurd (omega arith)
next_first (c ∷ coming) (e ∷ took) next le =
    ap (λ (x : EventWithBytes). x ∷ took) next.0 ∙ ap (λ (xs : List EventWithBytes). c ∷ xs) (next_first coming took next.1 (omega arith))

-- the part before a break leaves what the events heard in it leave
before_break : (happened : List Happening) (call : NetCall) (coming : List EventWithBytes) (now : Option (List EventWithBytes)) → Leaves (happened ++ broke call ∷ []) (Some coming) now → AreNext coming (events_in happened)
before_break [] call coming now leaves = tt
before_break (did act ∷ happened) call coming now leaves = before_break happened call coming now leaves
before_break (heard e ∷ happened) call [] now leaves = tt
before_break (heard e ∷ happened) call (c ∷ coming) now leaves = (leaves.0, before_break happened call coming now leaves.1)
before_break (broke other ∷ happened) call [] now leaves = none_next (events_in happened)
  where
    none_next : (took : List EventWithBytes) → AreNext [] took
    none_next [] = tt
    none_next (e ∷ took) = tt
before_break (broke other ∷ happened) call (c ∷ coming) now leaves = absurd leaves

-- those that are next of a list are next of its first part
next_part : (coming rest took : List EventWithBytes) → AreNext (coming ++ rest) took → AreNext coming took
next_part [] rest [] next = tt
next_part [] rest (e ∷ took) next = tt
next_part (c ∷ coming) rest [] next = tt
next_part (c ∷ coming) rest (e ∷ took) next = (next.0, next_part coming rest took next.1)

next_run : (events took : List EventWithBytes) → AreNext (with_stop events) took → AreNext (run_events events) took
next_run events took next =
    let whole = runs_first events in
    next_part (run_events events) whole.0 took (subst (λ (es : List EventWithBytes). AreNext es took) whole.1 next)

no_longer : (events : List EventWithBytes) → length (run_events events) ≤ length (with_stop events)
no_longer events =
    let whole = runs_first events in
    omega (arith, ap (λ (es : List EventWithBytes). length es) whole.1, length-append (run_events events) whole.0)

-- events taken up to a stop are all of a run
all_taken : (coming took : List EventWithBytes) (budget : ℕ) → EndsOnce coming → AreTaken budget took served.Stopped → AreNext coming took → took ≡ coming
all_taken coming took budget ends taken next =
    let all : AreNext (ends.body ++ ends.stop ∷ []) (taken.0 ++ taken.1 ∷ []) =
    subst (λ (es : List EventWithBytes). AreNext es (taken.0 ++ taken.1 ∷ [])) ends.whole (subst (λ (es : List EventWithBytes). AreNext coming es) taken.2 next) in
    taken.2 ∙ took_all ends.body ends.stop taken.0 taken.1 ends.going ends.stops taken.4 taken.3 all ∙ sym ends.whole

-- and those taken without one are fewer
fewer_taken : (coming took : List EventWithBytes) → EndsOnce coming → HasNoStop took → AreNext coming took → length took < length coming
fewer_taken coming took ends going next =
    omega (
      arith,
      ap (λ (es : List EventWithBytes). length es) ends.whole,
      never_past ends.body ends.stop took ends.stops going (subst (λ (es : List EventWithBytes). AreNext es took) ends.whole next),
    )

-- ---- how serving over a script ends

-- Serving over the events of a script, on a network that knows them.
pub record IsServed (events : List EventWithBytes) (budget : ℕ) (result : Served) (site : Site) (s t : State) (seen : List Sighting) : Type 0 where
  pub took : List EventWithBytes
  pub run : Run site took s seen t
  pub first : took ≡ take (length took) (run_events events)
  pub few : length took ≤ length (run_events events)
  pub next : AreNext (run_events events) took
  pub unbroken : break_count (happened_in seen) ≡ 0
  pub numbered : AreNumberedFrom s.thing.turns (turns_in (calls_in seen))
  pub hears : events_in (happened_in seen) ≡ took
  pub taken : AreTaken budget took result

run_ended : (site : Site) (took : List EventWithBytes) (s m t : State) (seen first second : List Sighting) → Run site took s first m → t ≡ m → second ≡ [] → seen ≡ first ++ second → Run site took s seen t
run_ended site took s m t seen first second run next none whole =
    subst (λ (x : State). Run site took s seen x) (sym next)
    (subst (λ (z : List Sighting). Run site took s z m) (sym (whole ∙ ap (λ (z : List Sighting). first ++ z) none ∙ append-nil first)) run)

is_served : (events : List EventWithBytes) (budget : ℕ) (result : Served) (site : Site) (s t : State) (seen : List Sighting) (took : List EventWithBytes) → Run site took s seen t → AreTaken budget took result → AreNext (run_events events) took → length took ≤ length (run_events events) → IsServed events budget result site s t seen
is_served events budget result site s t seen took run taken next few =
    let k = run_keeps site took s seen t run in
    record { took = took; run = run; first = next_first (run_events events) took next few; few = few; next = next; unbroken = k.unbroken; numbered = k.numbered; hears = k.hears; taken = taken }

heard_by : (site : Site) (took events : List EventWithBytes) (s t : State) (seen : List Sighting) (now : Option (List EventWithBytes)) → Run site took s seen t → Leaves (happened_in seen) (Some (with_stop events)) now → AreNext (run_events events) took
heard_by site took events s t seen now run leaves =
    next_run events took
    (subst (λ (es : List EventWithBytes). AreNext (with_stop events) es) (run_keeps site took s seen t run).hears (heard_next (happened_in seen) (with_stop events) now leaves))

-- serving over a script never fails
pub never_failed : (events : List EventWithBytes) (budget : ℕ) (site : Site) (s t : State) (seen : List Sighting) (left now : Option (List EventWithBytes)) → StopsAtEnd events → left ≡ Some (with_stop events) → Leaves (happened_in seen) left now → Serves site budget served.Failed s seen t → ⊥
never_failed events budget site s t seen left now ends known leaves serves =
    let both = serves.run in
    let k = run_keeps site serves.took s both.first both.mid both.one in
    let broken : Leaves (happened_in both.first ++ broke next_event ∷ []) (Some (with_stop events)) now =
    subst (λ (h : List Happening). Leaves h (Some (with_stop events)) now) (ap happened_in both.whole ∙ filter_map-append happening_in both.first both.second ∙ ap (λ (z : List Sighting). happened_in both.first ++ happened_in z) both.other.saw)
    (subst (λ (o : Option (List EventWithBytes)). Leaves (happened_in seen) o now) known leaves) in
    let next : AreNext (with_stop events) serves.took = subst (λ (es : List EventWithBytes). AreNext (with_stop events) es) k.hears (before_break (happened_in both.first) next_event (with_stop events) now broken) in
    breaks_after (happened_in both.first) (with_stop events) now broken k.unbroken
    (omega (arith, ap (λ (es : List EventWithBytes). length es) k.hears, no_longer events, fewer_taken (run_events events) serves.took (run_ends events ends) serves.taken.0 (next_run events serves.took next)))

pub serving_is_served : (events : List EventWithBytes) (budget : ℕ) (result : Served) (site : Site) (s t : State) (seen : List Sighting) (left now : Option (List EventWithBytes)) → StopsAtEnd events → left ≡ Some (with_stop events) → Leaves (happened_in seen) left now → Serves site budget result s seen t → IsServed events budget result site s t seen
serving_is_served events budget served.Stopped site s t seen left now ends known leaves serves =
    let both = serves.run in
    let run = run_ended site serves.took s both.mid t seen both.first both.second both.one both.other.next both.other.saw both.whole in
    let next = heard_by site serves.took events s t seen now run (subst (λ (o : Option (List EventWithBytes)). Leaves (happened_in seen) o now) known leaves) in
    let all = all_taken (run_events events) serves.took budget (run_ends events ends) serves.taken next in
    is_served events budget served.Stopped site s t seen serves.took run serves.taken next (omega (arith, ap (λ (es : List EventWithBytes). length es) all))
serving_is_served events budget served.Spent site s t seen left now ends known leaves serves =
    let both = serves.run in
    let run = run_ended site serves.took s both.mid t seen both.first both.second both.one both.other.next both.other.saw both.whole in
    let next = heard_by site serves.took events s t seen now run (subst (λ (o : Option (List EventWithBytes)). Leaves (happened_in seen) o now) known leaves) in
    is_served events budget served.Spent site s t seen serves.took run serves.taken next (omega (arith, fewer_taken (run_events events) serves.took (run_ends events ends) serves.taken.0 next))
serving_is_served events budget served.Failed site s t seen left now ends known leaves serves =
    absurd (never_failed events budget site s t seen left now ends known leaves serves)

-- a run that came to its stop took all the events, and had the budget for them
pub stopped_took : (events : List EventWithBytes) (budget : ℕ) (site : Site) (s t : State) (seen : List Sighting) → StopsAtEnd events → (r : IsServed events budget served.Stopped site s t seen) → (r.took ≡ run_events events) × (length (run_events events) ≤ budget)
stopped_took events budget site s t seen ends r =
    let all = all_taken (run_events events) r.took budget (run_ends events ends) r.taken r.next in
    (all, subst (λ (es : List EventWithBytes). length es ≤ budget) all r.taken.5)

-- a run that spent its budget took the first events, and there were more
pub spent_took : (events : List EventWithBytes) (budget : ℕ) (site : Site) (s t : State) (seen : List Sighting) → StopsAtEnd events → (r : IsServed events budget served.Spent site s t seen) → (r.took ≡ take budget (run_events events)) × (budget < length (run_events events))
spent_took events budget site s t seen ends r =
    (r.first ∙ ap (λ (n : ℕ). take n (run_events events)) r.taken.1, omega (arith, fewer_taken (run_events events) r.took (run_ends events ends) r.taken.0 r.next, r.taken.1))

-- the events that are left to come are still known after serving
pub still_known : (events : List EventWithBytes) (budget : ℕ) (result : Served) (site : Site) (s t : State) (seen : List Sighting) (left now : Option (List EventWithBytes)) → left ≡ Some (with_stop events) → Leaves (happened_in seen) left now → IsServed events budget result site s t seen → IsSome now
still_known events budget result site s t seen left now known leaves r =
    left_known (happened_in seen) (with_stop events) now (subst (λ (o : Option (List EventWithBytes)). Leaves (happened_in seen) o now) known leaves) r.unbroken
    (omega (arith, ap (λ (es : List EventWithBytes). length es) r.hears, r.few, no_longer events))

-- the happenings that a network shows that showed none before are all
pub all_told : (before now : Option (List Happening)) (happened : List Happening) → before ≡ Some [] → Continues before now happened → IfSome now (λ all. all ≡ happened)
all_told before None happened none continues = tt
all_told before (Some all) happened none continues =
    continues.2 ∙ ap (λ (past : List Happening). past ++ happened) (sym (same_Some [] continues.0 (sym none ∙ continues.1)))

-- the acts shown are those that happened
pub acts_shown : (now : Option (List Happening)) (happened : List Happening) (shown : List Act) → IsSome now → IfSome now (λ all. all ≡ happened) → IfSome now (λ all. acts_in all ≡ shown) → shown ≡ acts_in happened
acts_shown None happened shown some is told = absurd cc
acts_shown (Some all) happened shown some is told = sym told ∙ ap acts_in is

-- the text that was put together is the print
pub printed : (whole : List ℕ) (shown acts : List Act) (turns : List RunTurn) → shown ≡ acts → whole ≡ print_text shown turns → whole ≡ print_text acts turns
printed whole shown acts turns same is = is ∙ ap (λ (made : List Act). print_text made turns) same

-- ---- from the clause of serving

-- the run of a script, where serving began on a network that knows the script
pub run_of : (events : List EventWithBytes) (budget : ℕ) (result : Served) (site : Site) (s : State) (kept later : Layers) (w v : Outside) → StandsFor kept s → Refines StandsFor Shows (Serves site budget result) kept later w v → StopsAtEnd events → w.net.left ≡ Some (with_stop events)
    → (t : State) × (seen : List Sighting) × IsServed events budget result site s t seen × Shows w v seen
run_of events budget result site s kept later w v stands refines ends known =
    let made = refines s stands in
    (made.0, made.2.seen, serving_is_served events budget result site s made.0 made.2.seen w.net.left v.net.left ends known made.2.shows.net.left made.2.move, made.2.shows)

-- no event yet
pub run_none : (site : Site) (s : State) (events : List EventWithBytes) → Run site (take 0 events) s [] s
run_none site s [] = record { next = refl; saw = refl }
run_none site s (e ∷ events) = record { next = refl; saw = refl }

-- the run over the first events
pub run_first : (events : List EventWithBytes) (budget : ℕ) (result : Served) (site : Site) (s t : State) (seen : List Sighting) → (r : IsServed events budget result site s t seen) → Run site (take (length r.took) (run_events events)) s seen t
run_first events budget result site s t seen r = subst (λ (es : List EventWithBytes). Run site es s seen t) r.first r.run
