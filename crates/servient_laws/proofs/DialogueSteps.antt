-- What keeps the dialogue of a connection: sightings that aren't of it, and changes of other connections.
use Rattle.std.proofs.Common.{◌≡◌, ◌<◌, ℕ, Bool, true, false, List, [], ◌∷◌, ◌++◌, length, map, Option, Some, None, filter, refl, sym, ap, subst, ◌∙◌, arith, append_assoc}
use Rattle.std.specs.Prelude.{◌==◌, ◌||◌, ◌≢◌, not, if◌then◌else◌}
use Rattle.std.specs.List.{list_any}
use Rattle.std.proofs.lemmas.Bool.Decides.{nat_tests}
use Rattle.std.proofs.lemmas.List.{append-nil, get_or-set_other, get_or-set_same, length-set}
use Rattle.servient_base.specs.Moves.{Becomes, Then, Each, Until, is_done, goes_on}
use Rattle.thing_handler.specs.Turns.{HandlerCall}
use Rattle.http_bind.specs.declared.waits.Wait.{Wait}
use Rattle.http_bind.specs.Streams.{Connection, Streams, connection_at, with_connection, without_wait, other_waits, is_wait_of, is_waiting}
use Rattle.servient_trace.specs.Trace.{Sighting, at_handler}
use Rattle.servient_core.specs.Machine.{Site, State, Move, OnCoap}
use Rattle.coap_bind.specs.declared.server.Server.{Server}
use Rattle.servient_laws.specs.Dialogues.{is_of, Talk, Dialogue, passes, AreSame, PendingWaits, Converses}

-- ---- what was seen

-- none of these is of the connection
pub data NoneIsOf (c : ℕ) : List Sighting → Type 0 where
  no_more : NoneIsOf c []
  one_more : (x : Sighting) (a : List Sighting) → is_of c x ≡ false → NoneIsOf c a → NoneIsOf c (x ∷ a)

pub none_then : (c : ℕ) (a b : List Sighting) → NoneIsOf c a → NoneIsOf c b → NoneIsOf c (a ++ b)
none_then c [] b no_more q = q
none_then c (x ∷ a) b (one_more x' a' is p) q = one_more x (a ++ b) is (none_then c a b p q)

pub calls_are_none : (c : ℕ) (calls : List HandlerCall) → NoneIsOf c (map at_handler calls)
calls_are_none c [] = no_more
calls_are_none c (h ∷ calls) = one_more (at_handler h) (map at_handler calls) refl (calls_are_none c calls)

pub passes_all : (site : Site) (c : ℕ) (seen a : List Sighting) (talk : Option Talk) → Dialogue site c seen talk → NoneIsOf c a → Dialogue site c (seen ++ a) talk
passes_all site c seen [] talk d no_more = subst (λ (x : List Sighting). Dialogue site c x talk) (sym (append-nil seen)) d
passes_all site c seen (x ∷ a) talk d (one_more x' a' is none) =
    subst (λ (l : List Sighting). Dialogue site c l talk) (append_assoc seen (x ∷ []) a) (passes_all site c (seen ++ x ∷ []) a talk (passes seen x talk d is) none)

-- ---- the invariant

-- a dialogue so far, over 64 places
pub record Keeps (site : Site) (c : ℕ) (seen : List Sighting) (s : State) : Type 0 where
  pub converses : Converses site c seen s
  pub places : length s.http.places ≡ 64

-- a move keeps it, whatever was seen before
abbrev pub KeepsOn : Site → ℕ → Move → Type 0
KeepsOn site c P = (seen a : List Sighting) (s t : State) → Keeps site c seen s → P s a t → Keeps site c (seen ++ a) t

pub keeps_here : (site : Site) (c : ℕ) (seen told : List Sighting) (s t : State) → told ≡ seen → t ≡ s → Keeps site c seen s → Keeps site c told t
keeps_here site c seen told s t saw next k = subst (λ (x : List Sighting). Keeps site c x t) (sym saw) (subst (λ (x : State). Keeps site c seen x) (sym next) k)

pub keeps_then : (site : Site) (c : ℕ) (P Q : Move) → KeepsOn site c P → KeepsOn site c Q → KeepsOn site c (Then P Q)
keeps_then site c P Q one other seen a s t k w =
    keeps_here site c ((seen ++ w.first) ++ w.second) (seen ++ a) t t (ap (λ (x : List Sighting). seen ++ x) w.whole ∙ sym (append_assoc seen w.first w.second)) refl
    (other (seen ++ w.first) w.second w.mid t (one seen w.first s w.mid k w.one) w.other)

pub keeps_each : {A : Type 0} (site : Site) (c : ℕ) (M : A → Move) (xs : List A) → ((x : A) → KeepsOn site c (M x)) → KeepsOn site c (Each M xs)
keeps_each site c M [] each seen a s t k stays = keeps_here site c seen (seen ++ a) s t (ap (λ (x : List Sighting). seen ++ x) stays.saw ∙ append-nil seen) stays.next k
keeps_each site c M (x ∷ xs) each seen a s t k w = keeps_then site c (M x) (Each M xs) (each x) (keeps_each site c M xs each) seen a s t k w

pub keeps_until : (site : Site) (c : ℕ) (P : Move) (IsDone : State → Type 0) → KeepsOn site c P → KeepsOn site c (Until P IsDone)
keeps_until site c P IsDone each seen a s t k (is_done s' a' t' done stays) = keeps_here site c seen (seen ++ a) s t (ap (λ (x : List Sighting). seen ++ x) stays.saw ∙ append-nil seen) stays.next k
keeps_until site c P IsDone each seen a s t k (goes_on s' m t' a' first second one more whole) =
    keeps_here site c ((seen ++ first) ++ second) (seen ++ a) t t (ap (λ (x : List Sighting). seen ++ x) whole ∙ sym (append_assoc seen first second)) refl
    (keeps_until site c P IsDone each (seen ++ first) second m t (each seen first s m k one) more)

-- ---- the connections as they are for one

-- the connection and its wait are as they were
pub record IsUntouched (c : ℕ) (h k : Streams) : Type 0 where
  pub connection : connection_at c k ≡ connection_at c h
  pub waits : is_waiting c k.waits ≡ is_waiting c h.waits
  pub places : length k.places ≡ length h.places

pub untouched_self : (c : ℕ) (h : Streams) → IsUntouched c h h
untouched_self c h = record { connection = refl; waits = refl; places = refl }

pending_untouched : (c : ℕ) (h k : Streams) (talk : Option Talk) → is_waiting c k.waits ≡ is_waiting c h.waits → PendingWaits c h talk → PendingWaits c k talk
pending_untouched c h k None same waits = tt
pending_untouched c h k (Some x) same waits = λ p is. let w = waits p is in (same ∙ w.0, w.1, w.2)

-- what is of others keeps the dialogue
pub untouched_keeps : (site : Site) (c : ℕ) (seen a : List Sighting) (s t : State) → Keeps site c seen s → IsUntouched c s.http t.http → NoneIsOf c a → Keeps site c (seen ++ a) t
untouched_keeps site c seen a s t k same none = record {
  converses = record {
    talk = k.converses.talk;
    dialogue = passes_all site c seen a k.converses.talk k.converses.dialogue none;
    same = subst (λ (x : Option Connection). AreSame x k.converses.talk) (sym same.connection) k.converses.same;
    waits = pending_untouched c s.http t.http k.converses.talk same.waits k.converses.waits;
  };
  places = same.places ∙ k.places;
}

-- a move that leaves the connections
pub aside_keeps : (site : Site) (c : ℕ) (seen a shown : List Sighting) (s t u : State) → Keeps site c seen s → u.http ≡ s.http → Becomes u shown a t → NoneIsOf c shown → Keeps site c (seen ++ a) t
aside_keeps site c seen a shown s t u k http p none =
    untouched_keeps site c seen a s t k (subst (λ (h : Streams). IsUntouched c s.http h) (sym (ap (λ (x : State). x.http) p.next ∙ http)) (untouched_self c s.http))
    (subst (λ (x : List Sighting). NoneIsOf c x) (sym p.saw) none)

pub coap_keeps : (site : Site) (c : ℕ) (C : ℕ → Server → Server → Type 0) → KeepsOn site c (OnCoap C)
coap_keeps site c C seen a s t k (d, change, p) = aside_keeps site c seen a [] s t (record s { coap = d }) k refl p no_more

-- ---- another connection

-- two numbers that differ
pub apart_of : (c d : ℕ) → (c == d) ≡ false → c ≢ d
apart_of c d test = grind (arith, nat_tests)

pub same_of : (c d : ℕ) → (c == d) ≡ true → c ≡ d
same_of c d test = grind (arith, nat_tests)

waiting_others : (c d : ℕ) (waits : List Wait) → (c == d) ≡ false → is_waiting c (other_waits d waits) ≡ is_waiting c waits
waiting_others c d [] test = refl
waiting_others c d (w ∷ waits) test = by (d == w.connection) refl (waiting_others c d waits test)
  where
    by : (t : Bool) → (d == w.connection) ≡ t → is_waiting c (other_waits d waits) ≡ is_waiting c waits
        → list_any (is_wait_of c) (if not t then w ∷ filter (λ x. not (is_wait_of d x)) waits else filter (λ x. not (is_wait_of d x)) waits) ≡ ((c == w.connection) || list_any (is_wait_of c) waits)
    by true is rest =
        let other : (c == w.connection) ≡ false = grind (arith, nat_tests) in
        rest ∙ sym (ap (λ (b : Bool). b || list_any (is_wait_of c) waits) other)
    by false is rest = ap (λ (b : Bool). (c == w.connection) || b) rest

pub waiting_more : (c : ℕ) (waits : List Wait) (w : Wait) → (c == w.connection) ≡ false → is_waiting c (waits ++ w ∷ []) ≡ is_waiting c waits
waiting_more c [] w test = ap (λ (b : Bool). b || false) test
waiting_more c (v ∷ waits) w test = ap (λ (b : Bool). (c == v.connection) || b) (waiting_more c waits w test)

pub waits_at_last : (c : ℕ) (waits : List Wait) (w : Wait) → (c == w.connection) ≡ true → is_waiting c (waits ++ w ∷ []) ≡ true
waits_at_last c [] w test = ap (λ (b : Bool). b || false) test
waits_at_last c (v ∷ waits) w test = or_true (c == v.connection) (is_waiting c (waits ++ w ∷ [])) (waits_at_last c waits w test)
  where
    or_true : (a b : Bool) → b ≡ true → (a || b) ≡ true
    or_true true b is = refl
    or_true false b is = is

-- the place of another changes, and it waits no longer
pub other_untouched : (c d : ℕ) (x : Option Connection) (h k : Streams) → (c == d) ≡ false → k ≡ with_connection d x (without_wait d h) → IsUntouched c h k
other_untouched c d x h k test is =
    subst (λ (z : Streams). IsUntouched c h z) (sym is) (record {
      connection = get_or-set_other h.places d c x None (apart_of c d test);
      waits = waiting_others c d h.waits test;
      places = length-set h.places d x;
    })

-- its place alone does
pub place_untouched : (c d : ℕ) (x : Option Connection) (h k : Streams) → (c == d) ≡ false → k ≡ with_connection d x h → IsUntouched c h k
place_untouched c d x h k test is =
    subst (λ (z : Streams). IsUntouched c h z) (sym is) (record { connection = get_or-set_other h.places d c x None (apart_of c d test); waits = refl; places = length-set h.places d x })

pub connection_is : (c : ℕ) (x : Option Connection) (h : Streams) → c < 64 → length h.places ≡ 64 → connection_at c (with_connection c x h) ≡ x
connection_is c x h below places = get_or-set_same h.places c x None (omega (arith, below, places))
