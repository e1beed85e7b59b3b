-- A connection that is owed a reply gets none for want of memory before bytes come from it again: the request waits, and
-- what follows is seen of others, or wakes it.
use Rattle.std.proofs.Common.{◌≡◌, ℕ, Bool, List, [], ◌∷◌, ◌++◌, map, Option, Some, None, sym, ap, ap₂, subst, ◌∙◌, inl, inr}
use Rattle.std.specs.Prelude.{◌⊎◌, if◌then◌else◌}
use Rattle.std.proofs.lemmas.Option.{same_Some}
use Rattle.servient_base.specs.Moves.{Then, Each, Until, is_done, goes_on}
use Rattle.coap_bind.specs.declared.server.Server.{Server}
use Rattle.coap_bind.specs.Server.{with_emitted, SendsNext}
use Rattle.thing_ops.specs.declared.outcome.Outcome.TheVariants as outcome
use Rattle.thing_state.specs.State.{Emission, last_of}
use Rattle.http_bind.specs.declared.owed.Owed.{Owed}
use Rattle.http_bind.specs.Replying.{reply}
use Rattle.http_bind.specs.Streams.{Connection, Streams, connection_at, Taken, takes_front, is_interrupted, Takes, IsDry, oldest_for, oldest_late, NoneIdle, woken_by, Wakes}
use Rattle.servient_outside.specs.declared.net.EventWithBytes.{EventWithBytes}
use Rattle.servient_outside.specs.declared.net.Act.TheVariants as act
use Rattle.servient_outside.specs.Network.{heard, did}
use Rattle.servient_trace.specs.Trace.{Sighting, at_network}
use Rattle.servient_core.specs.Machine.{Site, State, Move, OnCoap, Does, RepliesToWait, AnswersWait, MarksObservers, Delivers, DeliversEach, SendsNotification, NothingIsDue, SendsNotifications, AnswersLateWait, ClosesIdle, EndsEvent, notification_bytes, AnswersTaken, TakesNextMessage, TakesEveryMessage, EventAndStep, Run}
use Rattle.servient_core.specs.Keeping.{AnswersWaits, ClosesAllIdle, AnswersLateWaits}
use Rattle.servient_laws.proofs.MemoryReplies.{differs_by_http}

-- a reply is owed to the request that was taken last from a connection
pub record Owes (c : ℕ) (h : Streams) : Type 0 where
  pub connection : Connection
  pub owed : Owed
  pub there : connection_at c h ≡ Some connection
  pub is : connection.owed ≡ Some owed

-- this isn't the reply to it for want of memory
abbrev pub IsNoRefusal : ℕ → Sighting → Type 0
IsNoRefusal c y = (bodiless closes : Bool) (bytes : List ℕ) → reply bodiless closes outcome.Memory ≡ Some bytes → y ≡ at_network (did (act.Sent c bytes)) → ⊥

-- these begin with something else
pub record BeginsOtherwise (c : ℕ) (b : List Sighting) : Type 0 where
  pub instead : Sighting
  pub other : List Sighting
  pub whole : b ≡ instead ∷ other
  pub is_no_refusal : IsNoRefusal c instead

-- nothing is seen of a move, and the reply is still owed; or what is seen begins with something else
abbrev pub Passed : ℕ → List Sighting → State → Type 0
Passed c b v = ((b ≡ []) × Owes c v.http) ⊎ BeginsOtherwise c b

abbrev pub PassesOver : ℕ → Move → Type 0
PassesOver c P = (t v : State) (b : List Sighting) → Owes c t.http → P t b v → Passed c b v

begins : (c : ℕ) (y : Sighting) (other b : List Sighting) → b ≡ y ∷ other → IsNoRefusal c y → BeginsOtherwise c b
begins c y other b whole isnt = record { instead = y; other = other; whole = whole; is_no_refusal = isnt }

begins_longer : (c : ℕ) (a d b : List Sighting) → b ≡ a ++ d → BeginsOtherwise c a → BeginsOtherwise c b
begins_longer c a d b whole e = begins c e.instead (e.other ++ d) b (whole ∙ ap (λ (x : List Sighting). x ++ d) e.whole) e.is_no_refusal

-- one after another
pub passed_then : (c : ℕ) (a d b : List Sighting) (m v : State) → b ≡ a ++ d → Passed c a m → (Owes c m.http → Passed c d v) → Passed c b v
passed_then c a d b m v whole (inr otherwise) rest = inr (begins_longer c a d b whole otherwise)
passed_then c a d b m v whole (inl (none, owes)) rest = by (rest owes)
  where
    is : b ≡ d
    is = whole ∙ ap (λ (x : List Sighting). x ++ d) none

    by : Passed c d v → Passed c b v
    by (inl (nothing, still)) = inl (is ∙ nothing, still)
    by (inr otherwise) = inr (begins c otherwise.instead otherwise.other b (is ∙ otherwise.whole) otherwise.is_no_refusal)

pub then_passes : (c : ℕ) (P Q : Move) → PassesOver c P → PassesOver c Q → PassesOver c (Then P Q)
then_passes c P Q one other t v b owes p = passed_then c p.first p.second b p.mid v p.whole (one t p.mid p.first owes p.one) (λ still. other p.mid v p.second still p.other)

each_passes : {A : Type 0} (c : ℕ) (M : A → Move) (xs : List A) → ((x : A) → PassesOver c (M x)) → PassesOver c (Each M xs)
each_passes c M [] each t v b owes p = inl (p.saw, subst (λ (x : State). Owes c x.http) (sym p.next) owes)
each_passes c M (x ∷ xs) each t v b owes p = then_passes c (M x) (Each M xs) (each x) (each_passes c M xs each) t v b owes p

pub until_passes : (c : ℕ) (P : Move) (IsDone : State → Type 0) → PassesOver c P → PassesOver c (Until P IsDone)
until_passes c P IsDone one t v b owes (is_done t' b' v' done stays) = inl (stays.saw, subst (λ (x : State). Owes c x.http) (sym stays.next) owes)
until_passes c P IsDone one t v b owes (goes_on t' m v' b' first second move more whole) =
    passed_then c first second b m v whole (one t m first owes move) (λ still. until_passes c P IsDone one m v second still more)

-- the CoAP server changes alone
coap_passes : (c : ℕ) (C : ℕ → Server → Server → Type 0) → PassesOver c (OnCoap C)
coap_passes c C t v b owes (d, k, p) = inl (p.saw, subst (λ (x : State). Owes c x.http) (sym p.next) owes)

-- something else is done first
after_nothing : (c : ℕ) (y : Sighting) (first second other b : List Sighting) → first ≡ [] → second ≡ y ∷ other → b ≡ first ++ second → IsNoRefusal c y → BeginsOtherwise c b
after_nothing c y first second other b none some whole isnt = begins c y other b (whole ∙ ap₂ (λ (x z : List Sighting). x ++ z) none some) isnt

-- a request that waits is woken by another reply
woken_is_no_memory : (text : Option (List ℕ)) → woken_by text ≡ outcome.Memory → ⊥
woken_is_no_memory None is = cc
woken_is_no_memory (Some text) is = cc

sent_bytes : (c d : ℕ) (a b : List ℕ) → at_network (did (act.Sent c a)) ≡ at_network (did (act.Sent d b)) → a ≡ b
sent_bytes c d a b same = cc

wakes_passes : (c d : ℕ) (text : Option (List ℕ)) → PassesOver c (RepliesToWait d text)
wakes_passes c d text t v b owes (r, p) =
    let wakes = p.one.1 in
    inr (after_nothing c (at_network (did (act.Sent d r.bytes))) p.first p.second (map (λ x. at_network (did x)) (if r.closes then act.Closed d ∷ [] else [])) b p.one.2.saw p.other.saw p.whole
    (λ bodiless closes bytes memory same. ill wakes bodiless closes bytes memory (sent_bytes d c r.bytes bytes same)))
  where
    ill : Wakes d text t.moment r.bytes r.closes t.http p.one.0 → (bodiless closes : Bool) (bytes : List ℕ) → reply bodiless closes outcome.Memory ≡ Some bytes → r.bytes ≡ bytes → ⊥
    ill wakes bodiless closes bytes memory same = differs_by_http (woken_by text) (woken_is_no_memory text) wakes.1.1.bodiless r.closes bodiless closes r.bytes bytes wakes.1.5 memory same

wait_passes : (c target : ℕ) → PassesOver c (AnswersWait target)
wait_passes c target t v b owes (d, found, p) = wakes_passes c d (last_of target t.thing.last) t v b owes p

delivers_passes : (c target : ℕ) → PassesOver c (Delivers target)
delivers_passes c target =
    then_passes c (AnswersWaits target) (MarksObservers target)
    (until_passes c (AnswersWait target) (λ s. oldest_for target s.http.waits ≡ None) (wait_passes c target))
    (λ t v b owes p. coap_passes c (λ now before after. after ≡ with_emitted target before) t v b owes p)

pub deliveries_pass : (c : ℕ) (emissions : List Emission) → PassesOver c (DeliversEach emissions)
deliveries_pass c emissions = each_passes c Delivers (map (λ e. e.target) emissions) (delivers_passes c)

late_passes : (c : ℕ) → PassesOver c AnswersLateWait
late_passes c t v b owes (d, found, p) = wakes_passes c d None t v b owes p

notification_passes : (c : ℕ) → PassesOver c SendsNotification
notification_passes c t v b owes (n, p) =
    inr (after_nothing c (at_network (did (act.Datagram n.to (notification_bytes n t.thing)))) p.first p.second [] b p.one.2.saw p.other.saw p.whole (λ bodiless closes bytes memory same. cc))

closes_passes : (c : ℕ) → PassesOver c ClosesIdle
closes_passes c t v b owes (d, p) = inr (after_nothing c (at_network (did (act.Closed d))) p.first p.second [] b p.one.2.saw p.other.saw p.whole (λ bodiless closes bytes memory same. cc))

pub ends_pass : (c : ℕ) → PassesOver c EndsEvent
ends_pass c =
    then_passes c SendsNotifications (Then AnswersLateWaits ClosesAllIdle)
    (then_passes c (Until SendsNotification NothingIsDue) (OnCoap (λ now. SendsNext now None)) (until_passes c SendsNotification NothingIsDue (notification_passes c))
    (coap_passes c (λ now. SendsNext now None)))
    (then_passes c AnswersLateWaits ClosesAllIdle
    (until_passes c AnswersLateWait (λ s. oldest_late s.moment s.http.waits ≡ None) (late_passes c))
    (until_passes c ClosesIdle (λ s. NoneIdle s.moment s.http) (closes_passes c)))

-- ---- what comes next of that connection

-- nothing is taken from it but that more bytes came, and it is closed
taken_passes : (site : Site) (c : ℕ) → PassesOver c (TakesNextMessage site c)
taken_passes site c t v b owes (taken, p) = by taken p.one.1 p.other
  where
    by : (taken : Taken) → Takes c taken t.http p.one.0 → AnswersTaken site c taken p.mid p.second v → Passed c b v
    by taken (x, y, there, takes_front f free front found is, is') answers =
        absurd (let owed : None ≡ Some owes.owed = sym free ∙ ap (λ (z : Connection). z.owed) (same_Some x owes.connection (sym there ∙ owes.there)) ∙ owes.is in cc)
    by taken (x, y, there, is_interrupted o owed rest is gone, is') answers =
        let does : Does (act.Closed c ∷ []) p.mid p.second v = subst (λ (z : Taken). AnswersTaken site c z p.mid p.second v) is answers in
        inr (after_nothing c (at_network (did (act.Closed c))) p.first p.second [] b p.one.2.saw does.saw p.whole (λ bodiless closes bytes memory same. cc))

pub messages_pass : (site : Site) (c : ℕ) → PassesOver c (TakesEveryMessage site c)
messages_pass site c = until_passes c (TakesNextMessage site c) (λ s. IsDry c s.http) (taken_passes site c)

-- the next event comes
pub event_passes : (site : Site) (c : ℕ) (e : EventWithBytes) → PassesOver c (EventAndStep site e)
event_passes site c e t v b owes p =
    inr (begins_longer c p.first p.second b p.whole (begins c (at_network (heard e)) [] p.first p.one.saw (λ bodiless closes bytes memory same. cc)))

pub events_pass : (site : Site) (c : ℕ) (took : List EventWithBytes) → PassesOver c (Run site took)
events_pass site c took = each_passes c (EventAndStep site) took (event_passes site c)
