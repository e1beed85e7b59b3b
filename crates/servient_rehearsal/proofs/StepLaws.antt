-- A step of the servient on one event, as the network records it, and on a datagram that is cut.
use Rattle.std.proofs.Common.{◌≡◌, ◌∙◌, ℕ, ◌+◌, ◌<◌, List, [], ◌∷◌, ◌++◌, take, length, min, inl, inr, refl, sym, ap, subst, arith}
use Rattle.std.specs.Prelude.{Option, Some, None, IsSome, IfSome}
use Rattle.std.proofs.lemmas.Bool.{cases_lt}
use Rattle.std.proofs.lemmas.Option.{same_Some}
use Rattle.std.proofs.lemmas.List.{append-nil, length-take-le}
use Rattle.std.proofs.Math.Seq.{take-length}
use Rattle.servient_base.specs.Moves.{Refines}
use Rattle.coap_msg.specs.declared.endpoint.Endpoint.{Endpoint}
use Rattle.thing_handler.specs.Handler.{Seen}
use Rattle.thing_handler.specs.Turns.{HandlerCall, RackShows}
use Rattle.servient_outside.specs.declared.net.What.TheVariants as what
use Rattle.servient_outside.specs.declared.net.Act.{Act}
use Rattle.servient_outside.specs.declared.net.EventWithBytes.{EventWithBytes}
use Rattle.servient_outside.specs.Told.{Continues}
use Rattle.servient_outside.specs.Network.{Happening, heard, did, broke, events_in, break_count, acts_in, NetSeen, Leaves}
use Rattle.servient_trace.specs.Trace.{Sighting, at_network, at_handler, happened_in, calls_in, outside, Shows}
use Rattle.servient_core.specs.Machine.{Site, State, Step, EventAndStep, HearsDatagram}
use Rattle.servient_core.specs.Serving.{StandsFor}
use Rattle.servient_core.specs.declared.layers.Layers.{Layers}
use Rattle.servient_core.proofs.MachineLaws.{Keeps, run_keeps}
use Rattle.servient_world.specs.World.{other}
use Rattle.servient_ends.specs.Ends.{event_at, datagrams_of, datagrams_in}
use Rattle.servient_rehearsal.specs.Noted.{Noted, with_datagrams}
use Rattle.servient_rehearsal.specs.Playing.{datagrams_among, StepsFrom, HearsAndNotes}

-- ---- a step on a network of its own

-- the datagrams that are seen are those among the acts
seen_among : (seen : List Sighting) → datagrams_in seen ≡ datagrams_among (acts_in (happened_in seen))
seen_among [] = refl
seen_among (at_network (heard e) ∷ seen) = seen_among seen
seen_among (at_network (did a) ∷ seen) = ap (λ (l : List (Endpoint × List ℕ)). datagrams_of a ++ l) (seen_among seen)
seen_among (at_network (broke call) ∷ seen) = seen_among seen
seen_among (at_handler call ∷ seen) = seen_among seen

-- where nothing is heard and nothing breaks, the events to come stay
leaves_same : (happened : List Happening) (before now : Option (List EventWithBytes)) → events_in happened ≡ [] → break_count happened ≡ 0 → Leaves happened before now → now ≡ before
leaves_same [] before now none whole l = l
leaves_same (heard e ∷ happened) before now none whole l = absurd (cc)
leaves_same (did a ∷ happened) before now none whole l = leaves_same happened before now none whole l
leaves_same (broke call ∷ happened) before now none whole l = absurd (let broken = whole in omega arith)

-- the happenings since there were none
all_since : (now : Option (List Happening)) (happened : List Happening) (acts : List Act) → Continues (Some []) now happened → IsSome now → IfSome now (λ all. acts_in all ≡ acts)
    → acts_in happened ≡ acts
all_since None happened acts continues some told = absurd (cc)
all_since (Some all) happened acts continues some told =
    let past : [] ≡ continues.0 = same_Some [] continues.0 continues.1 in
    let same : all ≡ happened = continues.2 ∙ ap (λ (l : List Happening). l ++ happened) (sym past) in
    sym (ap acts_in same) ∙ told

-- an event comes, and the step on it is made
abbrev pub event_and_step : (site : Site) (e : EventWithBytes) (s : State) (seen : List Sighting) (t : State) → Step site e s seen t → EventAndStep site e s (at_network (heard e) ∷ seen) t
event_and_step site e s seen t step = record {
  mid = s;
  first = at_network (heard e) ∷ [];
  second = seen;
  one = record { next = refl; saw = refl };
  other = step;
  whole = refl;
}

-- a step alone, as a run of one event
step_alone : (site : Site) (e : EventWithBytes) (s : State) (seen : List Sighting) (t : State) → Step site e s seen t → Keeps (e ∷ []) s (at_network (heard e) ∷ seen) t
step_alone site e s seen t step =
    run_keeps site (e ∷ []) s (at_network (heard e) ∷ seen) t (record {
      mid = t;
      first = at_network (heard e) ∷ seen;
      second = [];
      one = event_and_step site e s seen t step;
      other = record { next = refl; saw = refl };
      whole = sym (append-nil (at_network (heard e) ∷ seen));
    })

abbrev rest_of : List EventWithBytes → List EventWithBytes
rest_of [] = []
rest_of (e ∷ es) = es

-- whatever the network records, a step was made
abbrev pub stepped : (site : Site) (e : EventWithBytes) (old new : Layers) (before after : List Seen) (was now : NetSeen) → Refines StandsFor Shows (Step site e) old new (outside was before) (outside now after)
    → (s : State) → StandsFor old s → StepsFrom site e s new before after
stepped site e old new before after was now refines s stands =
    let r = refines s stands in
    record {
      state = r.0;
      stands = r.1;
      seen = at_network (heard e) ∷ r.2.seen;
      step = event_and_step site e s r.2.seen r.0 r.2.move;
      rack = r.2.shows.rack;
    }

-- where it recorded all, the datagrams that were sent are those among its acts
pub heard_all : (site : Site) (e : EventWithBytes) (old new : Layers) (before after : List Seen) (was now : NetSeen) (first : List EventWithBytes) (acts : List Act) (noted then_noted : Noted)
    → was.history ≡ Some [] → was.left ≡ Some first → Refines StandsFor Shows (Step site e) old new (outside was before) (outside now after)
    → (IsSome now.left → IsSome now.history) → IfSome now.history (λ all. acts_in all ≡ acts)
    → then_noted ≡ with_datagrams (datagrams_among acts) noted → HearsAndNotes site e old new before after noted then_noted
heard_all site e old new before after was now first acts noted then_noted history left refines tells told put s stands =
    let r = refines s stands in
    let makes = r.2 in
    let keeps = step_alone site e s makes.seen r.0 makes.move in
    let none : events_in (happened_in makes.seen) ≡ [] = ap rest_of keeps.hears in
    let stays : now.left ≡ was.left = leaves_same (happened_in makes.seen) was.left now.left none keeps.unbroken makes.shows.net.left in
    let some_left : IsSome now.left = subst IsSome (sym (stays ∙ left)) refl in
    let continues : Continues (Some []) now.history (happened_in makes.seen) = subst (λ (x : Option (List Happening)). Continues x now.history (happened_in makes.seen)) history makes.shows.net.history in
    let done : acts_in (happened_in makes.seen) ≡ acts = all_since now.history (happened_in makes.seen) acts continues (tells some_left) told in (
      stepped site e old new before after was now refines s stands,
      put ∙ ap (λ (l : List (Endpoint × List ℕ)). with_datagrams l noted) (sym (seen_among makes.seen ∙ ap datagrams_among done)),
    )

-- ---- a datagram that is cut

-- the facts of a step, whichever bytes came
pub record StepsLike (site : Site) (e : EventWithBytes) (s : State) (new : Layers) (before after : List Seen) (sent : List (Endpoint × List ℕ)) : Type 0 where
  pub steps : StepsFrom site e s new before after
  pub same : datagrams_in steps.seen ≡ sent

-- a datagram that is too long to be looked at does as little as its first part
long_hears : (site : Site) (from : Endpoint) (bytes : List ℕ) (s : State) (seen : List Sighting) (t : State) → 2048 < length bytes → length (take 2048 bytes) ≡ 2048
    → HearsDatagram site from (take 2048 bytes) s seen t → HearsDatagram site from bytes s seen t
long_hears site from bytes s seen t long short (inl stays) = inl (omega arith, stays.1)
long_hears site from bytes s seen t long short (inr hears) = absurd (let low = hears.0 in omega arith)

uncut_long : (site : Site) (now : ℕ) (from : Endpoint) (bytes : List ℕ) (s : State) (new : Layers) (before after : List Seen) → 2048 < length bytes → length (take 2048 bytes) ≡ 2048
    → (steps : StepsFrom site (event_at now (what.Datagram from 2048) (take 2048 bytes)) s new before after)
    → StepsLike site (event_at now (what.Datagram from (length bytes)) bytes) s new before after (datagrams_in steps.seen)
uncut_long site now from bytes s new before after long short steps =
    let e : EventWithBytes = event_at now (what.Datagram from (length bytes)) bytes in
    let step = steps.step in
    let seen : steps.seen ≡ at_network (heard (event_at now (what.Datagram from 2048) (take 2048 bytes))) ∷ step.second
    = step.whole ∙ ap (λ (l : List Sighting). l ++ step.second) step.one.saw in
    record {
      steps = record {
        state = steps.state;
        stands = steps.stands;
        seen = at_network (heard e) ∷ step.second;
        step = record {
          mid = step.mid;
          first = at_network (heard e) ∷ [];
          second = step.second;
          one = record { next = step.one.next; saw = refl };
          other = record {
            mid = step.other.mid;
            first = step.other.first;
            second = step.other.second;
            one = long_hears site from bytes _ step.other.first step.other.mid long short step.other.one;
            other = step.other.other;
            whole = step.other.whole;
          };
          whole = refl;
        };
        rack = subst (λ (l : List HandlerCall). RackShows before after l) (ap calls_in seen) steps.rack;
      };
      same = sym (ap datagrams_in seen);
    }

-- the same of the bytes that a network gives of it: the first 2,048
abbrev Uncuts : (site : Site) (now : ℕ) (from : Endpoint) (bytes : List ℕ) (s : State) (new : Layers) (before after : List Seen) (n : ℕ) (given : List ℕ) → Type 0
Uncuts site now from bytes s new before after n given =
    (steps : StepsFrom site (event_at now (what.Datagram from n) given) s new before after)
    → StepsLike site (event_at now (what.Datagram from (length bytes)) bytes) s new before after (datagrams_in steps.seen)

pub uncut : (site : Site) (now : ℕ) (from : Endpoint) (bytes : List ℕ) (s : State) (new : Layers) (before after : List Seen) (n : ℕ) (given : List ℕ) → n ≡ min (length bytes) 2048 → given ≡ take n bytes
    → Uncuts site now from bytes s new before after n given
uncut site now from bytes s new before after n given size cut = elim (cases_lt 2048 (length bytes)) [
  | inl long ↦
      let short : length (take 2048 bytes) ≡ 2048 = length-take-le 2048 bytes (omega arith) in
      let is : 2048 ≡ n = omega arith in
      subst (λ (g : List ℕ). Uncuts site now from bytes s new before after n g) (sym cut)
      (subst (λ (k : ℕ). Uncuts site now from bytes s new before after k (take k bytes)) is (uncut_long site now from bytes s new before after long short))
  | inr whole ↦
      let is : length bytes ≡ n = omega arith in
      subst (λ (g : List ℕ). Uncuts site now from bytes s new before after n g) (sym (cut ∙ (ap (λ (k : ℕ). take k bytes) (sym is) ∙ take-length bytes)))
      (subst (λ (k : ℕ). Uncuts site now from bytes s new before after k bytes) is (λ steps. record { steps = steps; same = refl }))
]
