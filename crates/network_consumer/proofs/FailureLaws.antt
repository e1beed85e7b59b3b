-- An operation that failed broke the network: by nothing else does one come to that.
use Rattle.std.proofs.Common.{◌≡◌, ◌≤◌, ℕ, arith, List, [], ◌∷◌, ◌++◌, Option, Some, None, Bool, true, false, cond, refl, sym, ap, ◌∙◌, subst, inl, inr}
use Rattle.coap_msg.specs.declared.block.Block.{Block}
use Rattle.coap_client.specs.declared.news.News.{News}
use Rattle.coap_client.specs.declared.news.News.TheVariants as news
use Rattle.wot_forms.specs.declared.scheme.Scheme.{Scheme}
use Rattle.wot_forms.specs.declared.scheme.Scheme.TheVariants as scheme
use Rattle.wot_consumer.specs.declared.chosen.Chosen.{Chosen}
use Rattle.servient_outside.specs.declared.net.EventWithBytes.{EventWithBytes}
use Rattle.servient_outside.specs.Network.{Happening, heard, did, broke, break_count}
use Rattle.network_consumer.specs.declared.answers.Verdict.{Verdict}
use Rattle.network_consumer.specs.declared.answers.Verdict.TheVariants as verdict
use Rattle.network_consumer.specs.declared.blocks.Blocks.{Blocks}
use Rattle.network_consumer.specs.declared.coap_waiting.CoapWaiting.{CoapWaiting}
use Rattle.network_consumer.specs.declared.consumed.Consumed.{Consumed}
use Rattle.network_consumer.specs.declared.consumed.Consumed.TheVariants as consumed
use Rattle.network_consumer.specs.declared.operation.ThingOperation.{ThingOperation}
use Rattle.network_consumer.specs.declared.purpose.Purpose.{Purpose}
use Rattle.network_consumer.specs.declared.waiting.Waiting.{Waiting}
use Rattle.network_consumer.specs.Deeds.{Deed, happens, prints, happen, happened_in}
use Rattle.network_consumer.specs.Answers.{Closes}
use Rattle.network_consumer.specs.HttpWaiting.{has_come, has_not_come}
use Rattle.network_consumer.specs.CoapWaiting.{AsksFurther, is_further, is_no_further, FollowsAnswer, leads_on, is_whole, is_malformed, is_long as is_too_long, AfterValue, goes_on_observing, is_last, FollowsValue, is_judged, Follows, Meets, is_datagram, is_stop, is_another, FallsDue, is_quiet, goes_again, is_over, MeetsAndGoesOn, ends_by_it, then_due}
use Rattle.network_consumer.specs.Waiting.{Hears, by_http, by_coap, Awaits, is_spent, is_broken, comes_to, goes_on}
use Rattle.network_consumer.specs.Failing.{FailingBreaksTheNetwork}
use Rattle.network_consumer.specs.Consuming.{Consumes, is_refused, input_memory, is_done, body_memory, has_body, AsksBy, AsksByCoap, not_dialled, dial_memory, request_memory, is_sent, not_found, find_memory, client_memory, is_found, AsksPeer, is_long, is_asked, Discovers, discovery_memory, has_asked}

-- the network broke among these
abbrev pub Breaks : List Deed → Type 0
Breaks [] = ⊥
Breaks (happens (heard e) ∷ deeds) = Breaks deeds
Breaks (happens (did act) ∷ deeds) = Breaks deeds
Breaks (happens (broke call) ∷ deeds) = Unit {0}
Breaks (prints text ∷ deeds) = Breaks deeds

after_all : (a b : List Deed) → Breaks b → Breaks (a ++ b)
after_all [] b breaks = breaks
after_all (happens (heard e) ∷ a) b breaks = after_all a b breaks
after_all (happens (did act) ∷ a) b breaks = after_all a b breaks
after_all (happens (broke call) ∷ a) b breaks = tt
after_all (prints text ∷ a) b breaks = after_all a b breaks

as_one : (deeds other : List Deed) → deeds ≡ other → Breaks other → Breaks deeds
as_one deeds other is breaks = subst Breaks (sym is) breaks

-- ---- nothing that comes is that

never_closes : (v : Verdict) (deeds : List Deed) (r : Consumed) → Some consumed.Failed ≡ Some r → Closes v deeds r → ⊥
never_closes (verdict.Payload payload) deeds r is (nothing, inl done) = cc
never_closes (verdict.Payload payload) deeds r is (nothing, inr (some, unprinted)) = cc
never_closes (verdict.Lines lines) deeds r is (nothing, inl done) = cc
never_closes (verdict.Lines lines) deeds r is (nothing, inr (some, unprinted)) = cc
never_closes (verdict.Outcome outcome) deeds r is (nothing, other) = cc
never_closes verdict.NoMemory deeds r is (nothing, memory) = cc

never_late : (late : Bool) → Some consumed.Failed ≡ cond late (Some consumed.Silent) None → ⊥
never_late true is = cc
never_late false is = cc

never_further : (c : Chosen) (w : CoapWaiting) (b : Blocks) (happened : List Happening) (r : Consumed) (v : CoapWaiting) → Some consumed.Failed ≡ Some r → AsksFurther c w b happened (Some r) v → ⊥
never_further c w b happened r v is (is_further sent none) = cc
never_further c w b happened r v is (is_no_further refused nothing long) = cc

never_answers : (p : Purpose) (c : Chosen) (w : CoapWaiting) (code : ℕ) (block2 : Option Block) (payload : List ℕ) (deeds : List Deed) (r : Consumed) (v : CoapWaiting) → Some consumed.Failed ≡ Some r
    → FollowsAnswer p c w code block2 payload deeds (Some r) v → ⊥
never_answers p c w code block2 payload deeds r v is (leads_on b joined happened next asks does) = never_further c _ b happened r v is asks
never_answers p c w code block2 payload deeds r v is (is_whole joined said by_it next answers closes same) = never_closes said deeds by_it (is ∙ same) closes
never_answers p c w code block2 payload deeds r v is (is_malformed joined next nothing malformed) = cc
never_answers p c w code block2 payload deeds r v is (is_too_long joined next nothing long) = cc

never_after : (c : Chosen) (w : CoapWaiting) (v : Verdict) (deeds : List Deed) (by_it r : Consumed) (more : List Happening) (u : CoapWaiting) → Some consumed.Failed ≡ Some r → Closes v deeds by_it → AfterValue c w by_it more (Some r) u → ⊥
never_after c w v deeds by_it r more u is closes (goes_on_observing further nothing none next) = cc
never_after c w v deeds by_it r more u is closes (is_last last cancels said) = never_closes v deeds by_it (is ∙ said) closes

never_values : (p : Purpose) (c : Chosen) (w : CoapWaiting) (payload : List ℕ) (deeds : List Deed) (r : Consumed) (v : CoapWaiting) → Some consumed.Failed ≡ Some r → FollowsValue p c w payload deeds (Some r) v → ⊥
never_values p c w payload deeds r v is (is_judged said by_it first more answers closes after whole) = never_after c w said first by_it r more v is closes after

never_follows : (p : Purpose) (c : Chosen) (w : CoapWaiting) (n : News) (deeds : List Deed) (r : Consumed) (v : CoapWaiting) → Some consumed.Failed ≡ Some r → Follows p c w n deeds (Some r) v → ⊥
never_follows p c w news.Nothing deeds r v is (nothing, none, next) = cc
never_follows p c w news.Old deeds r v is (nothing, none, next) = cc
never_follows p c w news.Reset deeds r v is (nothing, reset) = cc
never_follows p c w (news.Answered code block2 payload) deeds r v is follows = never_answers p c w code block2 payload.now deeds r v is follows
never_follows p c w (news.Value payload) deeds r v is follows = never_values p c w payload.now deeds r v is follows

never_meets : (p : Purpose) (c : Chosen) (w : CoapWaiting) (e : EventWithBytes) (deeds : List Deed) (r : Consumed) (v : CoapWaiting) → Some consumed.Failed ≡ Some r → Meets p c w e deeds (Some r) v → ⊥
never_meets p c w e deeds r v is (is_datagram from count first n u more what_is delivered follows whole) = never_follows p c u n more r v is follows
never_meets p c w e deeds r v is (is_stop what_is nothing stopped) = cc
never_meets p c w e deeds r v is (is_another other nothing none next) = cc

never_due : (w v : CoapWaiting) (happened : List Happening) → FallsDue w happened (Some consumed.Failed) v → ⊥
never_due w v happened (is_quiet old new s due nothing none next) = cc
never_due w v happened (goes_again n old new s due sends none next) = cc
never_due w v happened (is_over old new s due nothing silent) = cc

never_by_coap : (p : Purpose) (c : Chosen) (w : CoapWaiting) (e : EventWithBytes) (deeds : List Deed) (v : CoapWaiting) → MeetsAndGoesOn p c w e deeds (Some consumed.Failed) v → ⊥
never_by_coap p c w e deeds v (ends_by_it by_it meets is) = never_meets p c w e deeds by_it v is meets
never_by_coap p c w e deeds v (then_due first u more meets due whole) = never_due u v more due

never_hears : (p : Purpose) (c : Chosen) (w : Waiting) (e : EventWithBytes) (deeds : List Deed) (v : Waiting) → Hears p c w e deeds (Some consumed.Failed) v → ⊥
never_hears p c w e deeds v (by_http x is (has_come said r brings closes same) next) = never_closes said deeds r same closes
never_hears p c w e deeds v (by_http x is (has_not_come none nothing late) next) = never_late _ late
never_hears p c w e deeds v (by_coap x y is hears next) = never_by_coap p c _ e deeds y hears

-- ---- the network broke

awaiting_breaks : (p : Purpose) (c : Chosen) (n : ℕ) (w : Waiting) (deeds : List Deed) → Awaits p c consumed.Failed n w deeds → Breaks deeds
awaiting_breaks p c n w deeds (is_spent w' deeds' nothing spent) = absurd cc
awaiting_breaks p c n w deeds (is_broken m w' deeds' is failed) = as_one deeds _ is tt
awaiting_breaks p c n w deeds (comes_to m w' v deeds' e by_it hears is) = absurd (never_hears p c w e by_it v hears)
awaiting_breaks p c n w deeds (goes_on m w' v deeds' e by_it rest hears awaits is) = as_one deeds _ is (after_all by_it rest (awaiting_breaks p c m v rest awaits))

peer_breaks : (p : Purpose) (c : Chosen) (w : CoapWaiting) (deeds : List Deed) → AsksPeer p c w deeds consumed.Failed → Breaks deeds
peer_breaks p c w deeds (is_long long nothing other) = absurd cc
peer_breaks p c w deeds (is_asked first v rest sent awaits is) = as_one deeds _ is (after_all (happen first) rest (awaiting_breaks p c _ _ rest awaits))

coap_breaks : (p : Purpose) (c : Chosen) (body : Option (List ℕ)) (deeds : List Deed) → AsksByCoap p c body deeds consumed.Failed → Breaks deeds
coap_breaks p c body deeds (not_found is failed) = as_one deeds _ is tt
coap_breaks p c body deeds (find_memory is memory) = absurd cc
coap_breaks p c body deeds (client_memory is memory) = absurd cc
coap_breaks p c body deeds (is_found peer w rest fresh asks is) = as_one deeds _ is (peer_breaks p c w rest asks)

asking_breaks : (p : Purpose) (c : Chosen) (body : Option (List ℕ)) (s : Scheme) (deeds : List Deed) → AsksBy p c body s deeds consumed.Failed → Breaks deeds
asking_breaks p c body scheme.Http deeds (not_dialled is failed) = as_one deeds _ is tt
asking_breaks p c body scheme.Http deeds (dial_memory is memory) = absurd cc
asking_breaks p c body scheme.Http deeds (request_memory is memory) = absurd cc
asking_breaks p c body scheme.Http deeds (is_sent k rest awaits is) = as_one deeds _ is (awaiting_breaks p c _ _ rest awaits)
asking_breaks p c body scheme.Coap deeds asks = coap_breaks p c body deeds asks

pub failing_breaks : (o : ThingOperation) (c : Chosen) (deeds : List Deed) → Consumes o c deeds consumed.Failed → Breaks deeds
failing_breaks o c deeds (is_refused refused nothing input) = absurd cc
failing_breaks o c deeds (input_memory nothing memory) = absurd cc
failing_breaks o c deeds (is_done takes (body_memory nothing memory)) = absurd cc
failing_breaks o c deeds (is_done takes (has_body by_it)) = asking_breaks _ c _ c.scheme deeds by_it

pub discovering_breaks : (c : Chosen) (deeds : List Deed) → Discovers c deeds consumed.Failed → Breaks deeds
discovering_breaks c deeds (discovery_memory nothing memory) = absurd cc
discovering_breaks c deeds (has_asked server is asks) = coap_breaks _ c None deeds asks

breaks_counted : (deeds : List Deed) → Breaks deeds → 1 ≤ break_count (happened_in deeds)
breaks_counted [] breaks = absurd breaks
breaks_counted (happens (heard e) ∷ deeds) breaks = breaks_counted deeds breaks
breaks_counted (happens (did act) ∷ deeds) breaks = breaks_counted deeds breaks
breaks_counted (happens (broke call) ∷ deeds) breaks = omega arith
breaks_counted (prints text ∷ deeds) breaks = breaks_counted deeds breaks

pub failing_breaks_the_network : FailingBreaksTheNetwork
failing_breaks_the_network = record {
  consumes = λ o c deeds consumes. breaks_counted deeds (failing_breaks o c deeds consumes);
  discovers = λ c deeds discovers. breaks_counted deeds (discovering_breaks c deeds discovers);
}
