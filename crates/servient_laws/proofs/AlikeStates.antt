-- Two states that differ in the slots of kept replies alone, and moves that two runs make alike from such states, up to
-- a sign that memory was wanting.
use Rattle.std.proofs.Common.{◌≡◌, ℕ, List, [], ◌∷◌, ◌++◌, refl, sym, ap, ap₂, subst, ◌∙◌, inl, inr}
use Rattle.std.specs.Prelude.{◌⊎◌}
use Rattle.std.proofs.lemmas.List.Elements.{filter_map-append}
use Rattle.servient_base.specs.Moves.{Becomes, Then, Passing, Each, Until, is_done, goes_on}
use Rattle.thing_handler.specs.declared.handler.Answer.{Answer}
use Rattle.thing_handler.specs.Turns.{HandlerCall}
use Rattle.thing_state.specs.State.{State as ThingState}
use Rattle.thing_core.specs.Determined.{AreAnsweredBy}
use Rattle.thing_core.proofs.ApartLaws.{Part, part_after, part_before}
use Rattle.thing_core.proofs.DeterminedLaws.{answered_first, answered_rest}
use Rattle.directory_requests.specs.declared.server.ServedEntries.{ServedEntries}
use Rattle.coap_bind.specs.declared.server.Server.{Server}
use Rattle.http_bind.specs.Streams.{Streams}
use Rattle.servient_trace.specs.Trace.{Sighting, call_in, calls_in}
use Rattle.servient_core.specs.Machine.{State, Move, OnHttp, OnCoap}
use Rattle.servient_laws.specs.Determined.{IsSign, SameServer, Alike, Agree, AreAnswered}

-- ---- states

pub same_server : (s : Server) → SameServer s s
same_server s = record { table = record { capacity = refl; moment = refl; exchanges = refl }; observers = refl; next = refl; bodies = refl; parts = refl; links = refl }

pub alike_self : (s : State) → Alike s s
alike_self s = record { moment = refl; http = refl; coap = same_server s.coap; thing = refl; directory = refl }

pub server_back : (s t : Server) → SameServer s t → SameServer t s
server_back s t e = record {
  table = record { capacity = sym e.table.capacity; moment = sym e.table.moment; exchanges = sym e.table.exchanges };
  observers = sym e.observers;
  next = sym e.next;
  bodies = sym e.bodies;
  parts = sym e.parts;
  links = sym e.links;
}

pub alike_back : (s t : State) → Alike s t → Alike t s
alike_back s t e = record { moment = sym e.moment; http = sym e.http; coap = server_back s.coap t.coap e.coap; thing = sym e.thing; directory = sym e.directory }

-- a part of both is changed
pub http_changed : (s t : State) (h k : Streams) → Alike s t → h ≡ k → Alike (record s { http = h }) (record t { http = k })
http_changed s t h k e same = record { moment = e.moment; http = same; coap = e.coap; thing = e.thing; directory = e.directory }

pub coap_changed : (s t : State) (c d : Server) → Alike s t → SameServer c d → Alike (record s { coap = c }) (record t { coap = d })
coap_changed s t c d e same = record { moment = e.moment; http = e.http; coap = same; thing = e.thing; directory = e.directory }

pub thing_changed : (s t : State) (x y : ThingState) → Alike s t → x ≡ y → Alike (record s { thing = x }) (record t { thing = y })
thing_changed s t x y e same = record { moment = e.moment; http = e.http; coap = e.coap; thing = same; directory = e.directory }

pub directory_changed : (s t : State) (d f : ServedEntries) → Alike s t → d ≡ f → Alike (record s { directory = d }) (record t { directory = f })
directory_changed s t d f e same = record { moment = e.moment; http = e.http; coap = e.coap; thing = e.thing; directory = same }

-- ---- parts of a trace

pub fits_first : (answers : ℕ → Answer) (a b seen : List Sighting) → seen ≡ a ++ b → AreAnswered answers seen → AreAnswered answers a
fits_first answers a b seen whole fits =
    answered_first answers (calls_in a) (calls_in b) (subst (λ (cs : List HandlerCall). AreAnsweredBy answers cs) (ap calls_in whole ∙ filter_map-append call_in a b) fits)

pub fits_rest : (answers : ℕ → Answer) (a b seen : List Sighting) → seen ≡ a ++ b → AreAnswered answers seen → AreAnswered answers b
fits_rest answers a b seen whole fits =
    answered_rest answers (calls_in a) (calls_in b) (subst (λ (cs : List HandlerCall). AreAnsweredBy answers cs) (ap calls_in whole ∙ filter_map-append call_in a b) fits)

-- ---- moves

-- two moves are seen alike and end alike, or what is seen of them parts at a sign
abbrev pub Agreed : List Sighting → List Sighting → State → State → Type 0
Agreed a b s t = Agree a b s t ⊎ Part IsSign a b

-- so are two moves from states that are alike, with these answers
abbrev pub AgreeAs : (ℕ → Answer) → Move → Move → Type 0
AgreeAs answers P Q = (s t u v : State) (a b : List Sighting) → Alike s t → P s a u → Q t b v → AreAnswered answers a → AreAnswered answers b → Agreed a b u v

pub becomes_alike : (s t u v : State) (shown told a b : List Sighting) → Alike s t → shown ≡ told → Becomes s shown a u → Becomes t told b v → Agree a b u v
becomes_alike s t u v shown told a b alike same p q = record {
  seen = p.saw ∙ same ∙ sym q.saw;
  state = subst (λ (x : State). Alike u x) (sym q.next) (subst (λ (x : State). Alike x t) (sym p.next) alike);
}

pub becomes_agree : (s t u v : State) (shown told a b : List Sighting) → Alike s t → shown ≡ told → Becomes s shown a u → Becomes t told b v → Agreed a b u v
becomes_agree s t u v shown told a b alike same p q = inl (becomes_alike s t u v shown told a b alike same p q)

pub joined_alike : (a b c d seen shown : List Sighting) (s t u v : State) → Agree a b s t → Agree c d u v → seen ≡ a ++ c → shown ≡ b ++ d → Agree seen shown u v
joined_alike a b c d seen shown s t u v one other whole all = record {
  seen = whole ∙ ap₂ (λ (x y : List Sighting). x ++ y) one.seen other.seen ∙ sym all;
  state = other.state;
}

-- what is known of two moves, of which the second is made from states that are alike
pub joined : (a b c d seen shown : List Sighting) (s t u v : State) → Agreed a b s t → (Agree a b s t → Agreed c d u v) → seen ≡ a ++ c → shown ≡ b ++ d → Agreed seen shown u v
joined a b c d seen shown s t u v (inr apart) other whole all = inr (part_before IsSign a b c d seen shown whole all apart)
joined a b c d seen shown s t u v (inl one) other whole all = by (other one)
  where
    by : Agreed c d u v → Agreed seen shown u v
    by (inl two) = inl (joined_alike a b c d seen shown s t u v one two whole all)
    by (inr apart) = inr (part_after IsSign a b c d seen shown one.seen whole all apart)

pub then_agree : (answers : ℕ → Answer) (P Q R S : Move) → AgreeAs answers P Q → AgreeAs answers R S → AgreeAs answers (Then P R) (Then Q S)
then_agree answers P Q R S one other s t u v a b alike p q on_a on_b =
    joined p.first q.first p.second q.second a b p.mid q.mid u v
    (one s t p.mid q.mid p.first q.first alike p.one q.one (fits_first answers p.first p.second a p.whole on_a) (fits_first answers q.first q.second b q.whole on_b))
    (λ first. other p.mid q.mid u v p.second q.second first.state p.other q.other (fits_rest answers p.first p.second a p.whole on_a) (fits_rest answers q.first q.second b q.whole on_b))
    p.whole q.whole

pub each_agree : {A : Type 0} (answers : ℕ → Answer) (M : A → Move) (xs : List A) → ((x : A) → AgreeAs answers (M x) (M x)) → AgreeAs answers (Each M xs) (Each M xs)
each_agree answers M [] each s t u v a b alike p q on_a on_b = becomes_agree s t u v [] [] a b alike refl p q
each_agree answers M (x ∷ xs) each s t u v a b alike p q on_a on_b =
    then_agree answers (M x) (M x) (Each M xs) (Each M xs) (each x) (each_agree answers M xs each) s t u v a b alike p q on_a on_b

-- where a move is made for as long as something is left to do
pub until_agree : (answers : ℕ → Answer) (P : Move) (IsDone : State → Type 0) → AgreeAs answers P P
    → ((s t u : State) (a : List Sighting) → Alike s t → IsDone s → P t a u → ⊥) → AgreeAs answers (Until P IsDone) (Until P IsDone)
until_agree answers P IsDone one apart s t u v a b alike (is_done s' a' u' done stays) (is_done t' b' v' also stay) on_a on_b = becomes_agree s t u v [] [] a b alike refl stays stay
until_agree answers P IsDone one apart s t u v a b alike (is_done s' a' u' done stays) (goes_on t' mid v' b' first second move more whole) on_a on_b =
    absurd (apart s t mid first alike done move)
until_agree answers P IsDone one apart s t u v a b alike (goes_on s' mid u' a' first second move more whole) (is_done t' b' v' done stays) on_a on_b =
    absurd (apart t s mid first (alike_back s t alike) done move)
until_agree answers P IsDone one apart s t u v a b alike (goes_on s' m u' a' c d p more whole) (goes_on t' n v' b' e f q further all) on_a on_b =
    joined c e d f a b m n u v
    (one s t m n c e alike p q (fits_first answers c d a whole on_a) (fits_first answers e f b all on_b))
    (λ first. until_agree answers P IsDone one apart m n u v d f first.state more further (fits_rest answers c d a whole on_a) (fits_rest answers e f b all on_b))
    whole all

-- two moves have one result besides
abbrev pub AgreeOn : {A : Type 0} → A → A → List Sighting → List Sighting → State → State → Type 0
AgreeOn x y a b u v = ((x ≡ y) × Agree a b u v) ⊎ Part IsSign a b

-- the same result is handed on
pub passing_same : {A : Type 0} (answers : ℕ → Answer) (P K : A → Move)
    → ((x y : A) (s t u v : State) (a b : List Sighting) → Alike s t → P x s a u → P y t b v → AreAnswered answers a → AreAnswered answers b → AgreeOn x y a b u v)
    → ((x : A) → AgreeAs answers (K x) (K x))
    → AgreeAs answers (Passing P K) (Passing P K)
passing_same {A} answers P K one other s t u v a b alike (x, p) (y, q) on_a on_b =
    by (one x y s t p.mid q.mid p.first q.first alike p.one q.one (fits_first answers p.first p.second a p.whole on_a) (fits_first answers q.first q.second b q.whole on_b))
  where
    by : AgreeOn x y p.first q.first p.mid q.mid → Agreed a b u v
    by (inl (same, first)) =
        joined p.first q.first p.second q.second a b p.mid q.mid u v (inl first)
        (λ f. other x p.mid q.mid u v p.second q.second first.state p.other (subst (λ (z : A). K z q.mid q.second v) (sym same) q.other)
        (fits_rest answers p.first p.second a p.whole on_a) (fits_rest answers q.first q.second b q.whole on_b)) p.whole q.whole
    by (inr apart) = inr (part_before IsSign p.first q.first p.second q.second a b p.whole q.whole apart)

-- the connections change as they are
pub on_http : {A : Type 0} (answers : ℕ → Answer) (C : A → ℕ → Streams → Streams → Type 0)
    → ((x y : A) (now : ℕ) (h k l : Streams) → C x now h k → C y now h l → (x ≡ y) × (k ≡ l))
    → (x y : A) (s t u v : State) (a b : List Sighting) → Alike s t → OnHttp (C x) s a u → OnHttp (C y) t b v → (x ≡ y) × Agree a b u v
on_http answers C one x y s t u v a b alike (h, c, p) (k, d, q) =
    let there : C y s.moment s.http k = subst (λ (m : ℕ). C y m s.http k) (sym alike.moment) (subst (λ (x : Streams). C y t.moment x k) (sym alike.http) d) in
    let same = one x y s.moment s.http h k c there in
    (same.0, becomes_alike (record s { http = h }) (record t { http = k }) u v [] [] a b (http_changed s t h k alike same.1) refl p q)

-- so does a result that is handed on
pub passing_http : {A : Type 0} (answers : ℕ → Answer) (C : A → ℕ → Streams → Streams → Type 0) (K : A → Move)
    → ((x y : A) (now : ℕ) (h k l : Streams) → C x now h k → C y now h l → (x ≡ y) × (k ≡ l))
    → ((x : A) → AgreeAs answers (K x) (K x))
    → AgreeAs answers (Passing (λ x. OnHttp (C x)) K) (Passing (λ x. OnHttp (C x)) K)
passing_http {A} answers C K one other =
    passing_same answers (λ x. OnHttp (C x)) K (λ x y s t u v a b alike p q on_a on_b. inl (on_http answers C one x y s t u v a b alike p q)) other

pub http_agree : (answers : ℕ → Answer) (C : ℕ → Streams → Streams → Type 0) → ((now : ℕ) (h k l : Streams) → C now h k → C now h l → k ≡ l) → AgreeAs answers (OnHttp C) (OnHttp C)
http_agree answers C one s t u v a b alike p q on_a on_b =
    inl (on_http answers (λ (x : Unit {0}). C) (λ x y now h k l c d. (refl, one now h k l c d)) tt tt s t u v a b alike p q).1

-- so does the CoAP server, but for slots
pub coap_agree : (answers : ℕ → Answer) (C : ℕ → Server → Server → Type 0)
    → ((now : ℕ) (c d e f : Server) → SameServer c d → C now c e → C now d f → SameServer e f) → AgreeAs answers (OnCoap C) (OnCoap C)
coap_agree answers C one s t u v a b alike (c, h, p) (d, k, q) on_a on_b =
    let there : C s.moment t.coap d = subst (λ (m : ℕ). C m t.coap d) (sym alike.moment) k in
    becomes_agree (record s { coap = c }) (record t { coap = d }) u v [] [] a b (coap_changed s t c d alike (one s.moment s.coap t.coap c d alike.coap h there)) refl p q
