-- Each event of a run keeps the dialogue of a connection.
use Rattle.std.proofs.Common.{◌≡◌, ◌<◌, ℕ, Bool, true, false, max, List, [], ◌∷◌, ◌++◌, Option, Some, None, refl, sym, ap, ap₂, subst, ◌∙◌, append_assoc}
use Rattle.std.specs.Prelude.{◌==◌}
use Rattle.std.proofs.lemmas.List.{get_or-replicate}
use Rattle.servient_base.specs.Moves.{Becomes, Each}
use Rattle.thing_site.specs.Site.{events_of}
use Rattle.http_bind.specs.Streams.{Connection, none_open, connection_at, with_connection, without_wait, Opened, Ended, opened_at, IsDry}
use Rattle.servient_outside.specs.declared.net.What.{What}
use Rattle.servient_outside.specs.declared.net.What.TheVariants as what
use Rattle.servient_outside.specs.declared.net.EventWithBytes.{EventWithBytes}
use Rattle.servient_outside.specs.Network.{heard}
use Rattle.servient_trace.specs.Trace.{Sighting, at_network}
use Rattle.servient_core.specs.Machine.{Site, State, Move, start, OnHttp, HearsDatagram, TakesNextMessage, TakesEveryMessage, PollsAndDelivers, Follows, Step, EventAndStep}
use Rattle.servient_laws.specs.Dialogues.{is_of, is_event_of, Talk, new_talk, Dialogue, begins, is_opened, has_ended, AreSame, PendingWaits, ResponsesPairWithRequests}
use Rattle.servient_laws.proofs.DialogueSteps.{no_more, one_more, Keeps, KeepsOn, keeps_here, keeps_each, keeps_until, untouched_self, untouched_keeps, aside_keeps, same_of, other_untouched}
use Rattle.servient_laws.proofs.DialogueReplies.{http_keeps, nothing_waits, ends_keep, hears_keep, polls_keep}
use Rattle.servient_laws.proofs.DialogueMessages.{taken_at, next_keeps, lengthened_keeps}

-- ---- events

-- the connection of an event, which is heard first
pub heard_keeps : (site : Site) (c : ℕ) (e : EventWithBytes) (w : What) (seen : List Sighting) (s t : State) (a : List Sighting) → c < 64 → e.event.what ≡ w → Keeps site c seen s → Follows site w e.bytes s a t
    → Keeps site c (seen ++ at_network (heard e) ∷ a) t
heard_keeps site c e w seen s t a below is k follows = by w is follows
  where
    heard_of : (w : What) → e.event.what ≡ w → is_of c (at_network (heard e)) ≡ is_event_of c w
    heard_of w is = ap (is_event_of c) is

    -- what isn't of this connection
    others : (w : What) → e.event.what ≡ w → is_event_of c w ≡ false → Keeps site c (seen ++ at_network (heard e) ∷ []) s
    others w is test = untouched_keeps site c seen (at_network (heard e) ∷ []) s s k (untouched_self c s.http) (one_more (at_network (heard e)) [] (heard_of w is ∙ test) no_more)

    then_it : (P : Move) → KeepsOn site c P → Keeps site c (seen ++ at_network (heard e) ∷ []) s → P s a t → Keeps site c (seen ++ at_network (heard e) ∷ a) t
    then_it P keeps before move =
        keeps_here site c ((seen ++ at_network (heard e) ∷ []) ++ a) (seen ++ at_network (heard e) ∷ a) t t (sym (append_assoc seen (at_network (heard e) ∷ []) a)) refl
        (keeps (seen ++ at_network (heard e) ∷ []) a s t before move)

    -- one of this connection changes it at once
    changed : (x : Option Connection) (talk : Option Talk) → Dialogue site c (seen ++ at_network (heard e) ∷ []) talk → AreSame x talk → PendingWaits c t.http talk
        → t.http ≡ with_connection c x (without_wait c s.http) → a ≡ [] → Keeps site c (seen ++ at_network (heard e) ∷ a) t
    changed x talk d same waits after none =
        let at_c = taken_at c x s.http t.http below k.places after in
        subst (λ (l : List Sighting). Keeps site c (seen ++ at_network (heard e) ∷ l) t) (sym none) (record {
          converses = record { talk = talk; dialogue = d; same = subst (λ (v : Option Connection). AreSame v talk) (sym at_c.0) same; waits = waits };
          places = at_c.1;
        })

    opened : (d : ℕ) → e.event.what ≡ what.Opened d → (test : Bool) → (c == d) ≡ test → Follows site (what.Opened d) e.bytes s a t → Keeps site c (seen ++ at_network (heard e) ∷ a) t
    opened d is false test on =
        then_it (OnHttp (Opened d)) (http_keeps site c (Opened d) (λ now h l p. other_untouched c d (Some (opened_at now)) h l test p)) (others (what.Opened d) is test) on
    opened d is true test on =
        let same : c ≡ d = same_of c d test in
        changed (Some (opened_at s.moment)) (Some new_talk) (is_opened seen e k.converses.talk k.converses.dialogue (is ∙ ap what.Opened (sym same)))
        (record { stream = refl; taken = refl; continued = refl; owed = refl }) (nothing_waits c t.http new_talk refl)
        (ap (λ (v : State). v.http) on.2.next ∙ subst (λ (n : ℕ). Opened n s.moment s.http on.0) (sym same) on.1) on.2.saw

    ended : (d : ℕ) → e.event.what ≡ what.Ended d → (test : Bool) → (c == d) ≡ test → Follows site (what.Ended d) e.bytes s a t → Keeps site c (seen ++ at_network (heard e) ∷ a) t
    ended d is false test on =
        then_it (OnHttp (λ now. Ended d)) (http_keeps site c (λ now. Ended d) (λ now h l p. other_untouched c d None h l test p)) (others (what.Ended d) is test) on
    ended d is true test on =
        let same : c ≡ d = same_of c d test in
        changed None None (has_ended seen e k.converses.talk k.converses.dialogue (is ∙ ap what.Ended (sym same))) tt tt
        (ap (λ (v : State). v.http) on.2.next ∙ subst (λ (n : ℕ). Ended n s.http on.0) (sym same) on.1) on.2.saw

    takes_all : (d : ℕ) → KeepsOn site c (TakesEveryMessage site d)
    takes_all d = keeps_until site c (TakesNextMessage site d) (λ s. IsDry d s.http) (next_keeps site c d below)

    bytes : (d count : ℕ) → e.event.what ≡ what.Bytes d count → Follows site (what.Bytes d count) e.bytes s a t → Keeps site c (seen ++ at_network (heard e) ∷ a) t
    bytes d count is both =
        keeps_here site c ((seen ++ at_network (heard e) ∷ both.first) ++ both.second) (seen ++ at_network (heard e) ∷ a) t t
        (ap (λ (l : List Sighting). seen ++ at_network (heard e) ∷ l) both.whole ∙ sym (append_assoc seen (at_network (heard e) ∷ both.first) both.second)) refl
        (takes_all d (seen ++ at_network (heard e) ∷ both.first) both.second both.mid t (lengthened_keeps site c d count e seen both.first s both.mid below is k both.one) both.other)

    by : (w : What) → e.event.what ≡ w → Follows site w e.bytes s a t → Keeps site c (seen ++ at_network (heard e) ∷ a) t
    by (what.Opened d) is on = opened d is (c == d) refl on
    by (what.Bytes d count) is both = bytes d count is both
    by (what.Ended d) is on = ended d is (c == d) refl on
    by (what.Datagram from count) is on = then_it (HearsDatagram site from e.bytes) (hears_keep site c from e.bytes below) (others (what.Datagram from count) is refl) on
    by what.Tick is on = then_it (Each PollsAndDelivers (events_of site.things)) (keeps_each site c PollsAndDelivers (events_of site.things) (λ p. polls_keep site c p below)) (others what.Tick is refl) on
    by what.Stop is stays =
        then_it (λ s a t. Becomes s [] a t) (λ seen a s t k p. aside_keeps site c seen a [] s t s k refl p no_more) (others what.Stop is refl) stays

-- the machine's moment says nothing of it
pub at_moment : (site : Site) (c : ℕ) (seen : List Sighting) (s : State) (now : ℕ) → Keeps site c seen s → Keeps site c seen (record s { moment = now })
at_moment site c seen s now k =
    record { converses = record { talk = k.converses.talk; dialogue = k.converses.dialogue; same = k.converses.same; waits = k.converses.waits }; places = k.places }

pub event_keeps : (site : Site) (c : ℕ) (e : EventWithBytes) → c < 64 → KeepsOn site c (EventAndStep site e)
event_keeps site c e below seen a s t k w =
    let step : Step site e s w.second t = subst (λ (x : State). Step site e x w.second t) w.one.next w.other in
    let moved : State = record s { moment = max s.moment e.event.moment } in
    let before : Keeps site c seen moved = at_moment site c seen s (max s.moment e.event.moment) k in
    let after = heard_keeps site c e e.event.what seen moved step.mid step.first below refl before step.one in
    keeps_here site c ((seen ++ at_network (heard e) ∷ step.first) ++ step.second) (seen ++ a) t t
    (ap (λ (l : List Sighting). seen ++ l) (w.whole ∙ ap₂ (λ (u v : List Sighting). u ++ v) w.one.saw step.whole) ∙ sym (append_assoc seen (at_network (heard e) ∷ step.first) step.second)) refl
    (ends_keep site c below (seen ++ at_network (heard e) ∷ step.first) step.second step.mid t after step.other)

pub nothing_open : (c : ℕ) → c < 64 → connection_at c none_open ≡ None
nothing_open c below = get_or-replicate 64 c None None below

pub first_keeps : (site : Site) (exchanges : ℕ) (epoch : Option ℕ) (c : ℕ) → c < 64 → Keeps site c [] (start site exchanges epoch)
first_keeps site exchanges epoch c below = record {
  converses = record { talk = None; dialogue = begins; same = subst (λ (v : Option Connection). AreSame v None) (sym (nothing_open c below)) tt; waits = tt };
  places = refl;
}

pub responses_pair_with_requests : ResponsesPairWithRequests
responses_pair_with_requests site exchanges epoch took seen s c below run =
    (keeps_each site c (EventAndStep site) took (λ e. event_keeps site c e below) [] seen (start site exchanges epoch) s (first_keeps site exchanges epoch c below) run).converses
