-- The events that are left of a round of polls.
use Rattle.std.proofs.Common.{◌≡◌, ℕ, zero, suc, ◌+◌, ◌<◌, ◌≤◌, List, [], ◌∷◌, ◌++◌, map, drop, get_or, length, length-append, refl, sym, ap, subst, ◌∙◌, arith, append_assoc}
use Rattle.std.specs.Prelude.{Bool, true, false, slice_get, Some}
use Rattle.std.proofs.lemmas.List.{append-nil, at_drop_all, at_drop_more}
use Rattle.wot_terms.specs.declared.kind.Kind.TheVariants as kind
use Rattle.thing_handler.specs.Handler.{Seen}
use Rattle.thing_handler.specs.Turns.{HandlerCall, RackShows}
use Rattle.thing_site.specs.Site.{Placed, ExposedThing, Site, is_kind, events_of}
use Rattle.thing_core.specs.declared.polling.Round.{Round}
use Rattle.thing_state.specs.State.{State, Emission}
use Rattle.thing_state.specs.Course.{Course}
use Rattle.thing_core.specs.Thing.{PollsEvent}
use Rattle.thing_core.specs.Performing.{AllStand, PollsSome}
use Rattle.thing_core.specs.Rounds.{events_from, events_left, MakesPoll, PollsNext}
use Rattle.thing_core.proofs.PlacedLists.{events_among, events_more, stands_rest}
use Rattle.thing_state.proofs.PlacedLists.{placed_more}
use Rattle.thing_core.proofs.LastLaws.{polls_keep}

-- ---- a Thing and those behind it

pub from_beginning : (things : List ExposedThing) → events_from 0 things ≡ events_of things
from_beginning [] = refl
from_beginning (t ∷ things) = refl

-- those that are left begin with the Thing at which the round stands
pub left_at : (things : List ExposedThing) (i a : ℕ) (t : ExposedThing) → i < length things → t ≡ get_or things i t
    → events_from a (drop i things) ≡ events_among (drop a t.affordances) ++ events_of (drop (i + 1) things)
left_at things i a t within at =
    at_drop_more (λ (ts : List ExposedThing). events_from a ts) things i t within
    ∙ ap (λ (x : ExposedThing). events_from a (x ∷ drop (i + 1) things)) (sym at)

-- the Thing has none left
pub left_behind : (things : List ExposedThing) (i a : ℕ) (t : ExposedThing) → i < length things → t ≡ get_or things i t
    → events_among (drop a t.affordances) ≡ [] → events_from 0 (drop (i + 1) things) ≡ events_from a (drop i things)
left_behind things i a t within at none =
    from_beginning (drop (i + 1) things)
    ∙ sym (left_at things i a t within at ∙ ap (λ (ps : List Placed). ps ++ events_of (drop (i + 1) things)) none)

-- it has this one
pub left_next : (things : List ExposedThing) (i a b : ℕ) (t : ExposedThing) (p : Placed) → i < length things → t ≡ get_or things i t
    → events_among (drop a t.affordances) ≡ p ∷ events_among (drop b t.affordances)
    → events_from a (drop i things) ≡ p ∷ events_from b (drop i things)
left_next things i a b t p within at is =
    left_at things i a t within at
    ∙ ap (λ (ps : List Placed). ps ++ events_of (drop (i + 1) things)) is
    ∙ ap (λ (ps : List Placed). p ∷ ps) (sym (left_at things i b t within at))

pub left_none : (things : List ExposedThing) (i a : ℕ) → length things ≤ i → events_from a (drop i things) ≡ []
left_none things i a past = at_drop_all (λ (ts : List ExposedThing). events_from a ts) things i past

-- ---- one affordance

pub next_is_event : (ps : List Placed) (i : ℕ) (p : Placed) → slice_get ps i ≡ Some p → is_kind kind.Event p.affordance.kind ≡ true
    → events_among (drop i ps) ≡ p ∷ events_among (drop (i + 1) ps)
next_is_event ps i p given event = placed_more events_among ps i p given ∙ rw event refl

pub next_is_none : (ps : List Placed) (i : ℕ) (p : Placed) → slice_get ps i ≡ Some p → is_kind kind.Event p.affordance.kind ≡ false
    → events_among (drop i ps) ≡ events_among (drop (i + 1) ps)
next_is_none ps i p given none = placed_more events_among ps i p given ∙ rw none refl

-- ---- a part of all events

-- those of a Thing from an affordance on are a part of its events
part_from : (ps : List Placed) (a : ℕ) → (front : List Placed) × (events_among ps ≡ front ++ events_among (drop a ps))
part_from ps zero = ([], refl)
part_from [] (suc a) = ([], refl)
part_from (p ∷ ps) (suc a) =
    let rest = part_from ps a in (
      events_among (p ∷ []) ++ rest.0,
      events_more p ps
          ∙ ap (λ (l : List Placed). events_among (p ∷ []) ++ l) rest.1
          ∙ sym (append_assoc (events_among (p ∷ [])) rest.0 (events_among (drop a ps))),
    )

part_left : (things : List ExposedThing) (i a : ℕ) → (front : List Placed) × (events_of things ≡ front ++ events_from a (drop i things))
part_left [] zero a = ([], refl)
part_left [] (suc i) a = ([], refl)
part_left (t ∷ things) zero a =
    let own = part_from t.affordances a in (
      own.0,
      ap (λ (l : List Placed). l ++ events_of things) own.1
          ∙ append_assoc own.0 (events_among (drop a t.affordances)) (events_of things),
    )
part_left (t ∷ things) (suc i) a =
    let rest = part_left things i a in (
      events_among t.affordances ++ rest.0,
      ap (λ (l : List Placed). events_among t.affordances ++ l) rest.1
          ∙ sym (append_assoc (events_among t.affordances) rest.0 (events_from a (drop i things))),
    )

-- a rack that has the slots of all events has those of the ones that are left
pub left_stand : (count : ℕ) (site : List ExposedThing) (r : Round) → AllStand count (events_of site) → AllStand count (events_left r site)
left_stand count site r all =
    let part = part_left site r.thing r.affordance in
    stands_rest count part.0 (events_left r site) (subst (λ (ps : List Placed). AllStand count ps) part.1 all)

pub left_few : (site : List ExposedThing) (r : Round) → length (events_left r site) ≤ length (events_of site)
left_few site r =
    let part = part_left site r.thing r.affordance in
    omega (arith, ap length part.1, length-append part.0 (events_left r site))

-- ---- one poll

pub poll_made : (site : Site) (p : Placed) (c d : Course) (before after : List Seen) → c.pending ≡ [] → PollsSome (p ∷ []) c d before after
    → MakesPoll p (record { site = site; state = c.state; pending = c.pending }) (record { site = site; state = d.state; pending = d.pending }) before after
poll_made site p c d before after none k =
    let last = k.leads [] in
    let q = last.leads [] [] d.state (refl, record { next = refl; saw = refl }) in
    let all : k.emissions ≡ q.0 = sym (append-nil k.emissions) ∙ q.2 ∙ ap (λ (es : List Emission). q.0 ++ es) q.3.other.0 ∙ append-nil q.0 in
    let whole : last.seen ≡ q.3.first =
    sym (append-nil last.seen) ∙ q.3.whole ∙ ap (λ (calls : List HandlerCall). q.3.first ++ calls) q.3.other.1.saw ∙ append-nil q.3.first in
    record {
      emissions = q.0;
      pending = k.pending
          ∙ ap (λ (l : List ℕ). l ++ map (λ (e : Emission). e.target) k.emissions) none
          ∙ ap (λ (es : List Emission). map (λ (e : Emission). e.target) es) all;
      site = refl;
      made = record {
        seen = q.3.first;
        move = subst (λ (t : State). PollsEvent p q.0 c.state q.3.first t) (sym q.3.other.1.next) q.3.one;
        shows = subst (λ (seen : List HandlerCall). RackShows before after seen) whole last.shows;
      };
    }

-- one ask of a round keeps as many last values
pub round_keeps : (c d : Course) (before after : List Seen) (P : Placed → Type 0) (b : Bool) → (b ≡ true → (p : Placed) × P p × PollsSome (p ∷ []) c d before after)
    → (b ≡ false → d ≡ c) → length d.state.last ≡ length c.state.last
round_keeps c d before after P true one none =
    let k = (one refl).2 in
    polls_keep ((one refl).0 ∷ []) (k.emissions ++ []) c.state ((k.leads []).seen ++ []) d.state
    ((k.leads []).leads [] [] d.state (refl, record { next = refl; saw = refl }))
round_keeps c d before after P false one none = ap (λ (x : Course). length x.state.last) (none refl)

pub round_made : (site : Site) (r q : Round) (c d : Course) (before after : List Seen) (b : Bool) → c.pending ≡ []
    → (b ≡ true → (p : Placed) × (events_left r site.things ≡ p ∷ events_left q site.things) × PollsSome (p ∷ []) c d before after)
    → (b ≡ false → events_left r site.things ≡ []) → (b ≡ false → d ≡ c) → (b ≡ false → after ≡ before)
    → PollsNext b r q (record { site = site; state = c.state; pending = c.pending }) (record { site = site; state = d.state; pending = d.pending }) before after
round_made site r q c d before after true empty one none same unseen =
    let k = one refl in
    (k.0, k.1, poll_made site k.0 c d before after empty k.2)
round_made site r q c d before after false empty one none same unseen =
    (none refl, ap (λ (x : Course). record { site = site; state = x.state; pending = x.pending }) (same refl), unseen refl)
