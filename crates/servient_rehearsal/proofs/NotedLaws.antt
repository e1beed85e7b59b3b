-- The notes go on as the trace of the world does.
use Rattle.std.proofs.Common.{◌≡◌, ◌∙◌, ℕ, ◌+◌, ◌-◌, ◌*◌, ◌/◌, ◌%◌, ◌<◌, ◌≤◌, Bool, true, false, cond, List, [], ◌∷◌, ◌++◌, map, length, get_or, refl, sym, ap, subst, arith, append_assoc, zero, suc}
use Rattle.std.specs.Prelude.{Option, Some, None, slice_get, nat_lt}
use Rattle.std.proofs.lemmas.Bool.Decides.{nat_tests}
use Rattle.std.proofs.lemmas.List.{map-append}
use Rattle.std.proofs.lemmas.Option.{same_Some}
use Rattle.coap_msg.specs.declared.endpoint.Endpoint.{Endpoint}
use Rattle.coap_msg.specs.Grammar.{CoapMessage, spelling, type_bits}
use Rattle.coap_client.specs.declared.outstanding.Outstanding.{Outstanding}
use Rattle.coap_observe.specs.declared.notice.Notice.{Notice}
use Rattle.thing_state.specs.State.{State as ThingState}
use Rattle.servient_core.specs.Machine.{notification_bytes}
use Rattle.servient_world.specs.World.{WorldState, Datagram, Purpose, AskEnd as AskEndInWorld, End as EndInWorld, server_place, sent_now, latest}
use Rattle.servient_ends.specs.Ends.{notification_of}
use Rattle.servient_ends.proofs.SeenLaws.{back_to, noticed}
use Rattle.servient_rehearsal.specs.declared.world.SentDatagram.{SentDatagram}
use Rattle.servient_rehearsal.specs.declared.world.AskMade.{AskMade}
use Rattle.servient_rehearsal.specs.declared.world.AskEnd.{AskEnd}
use Rattle.servient_rehearsal.specs.Noted.{id_in, number_after, shown_datagram, shown_asks, shown_end, shown_ends, last_from, last_registration}

-- ---- asks

-- the number of asks that are shown
pub as_many_shown : (k : ℕ) (asks : List Outstanding) → length (shown_asks k asks) ≡ length asks
as_many_shown k [] = refl
as_many_shown k (a ∷ asks) = ap (λ (n : ℕ). suc n) (as_many_shown (k + 1) asks)

one_later : (k n : ℕ) → k + 1 + n ≡ k + suc n
one_later k n = omega arith

shown_more : (k : ℕ) (asks : List Outstanding) (a : Outstanding)
    → shown_asks k asks ++ record { ask = k + length asks; id = a.id; first = a.first } ∷ [] ≡ shown_asks k (asks ++ a ∷ [])
shown_more k [] a = ap (λ (n : ℕ). record { ask = n; id = a.id; first = a.first } ∷ []) (none_later k)
  where
    none_later : (k : ℕ) → k + 0 ≡ k
    none_later k = omega arith
shown_more k (b ∷ asks) a =
    ap (λ (n : ℕ). record { ask = k; id = b.id; first = b.first } ∷ (shown_asks (k + 1) asks ++ record { ask = n; id = a.id; first = a.first } ∷ [])) (sym (one_later k (length asks)))
    ∙ ap (λ (l : List AskMade). record { ask = k; id = b.id; first = b.first } ∷ l) (shown_more (k + 1) asks a)

-- one more is noted
pub ask_shown : (noted : List AskMade) (asks : List Outstanding) (a : Outstanding) (id first : ℕ) → noted ≡ shown_asks 0 asks → id ≡ a.id → first ≡ a.first
    → noted ++ record { ask = length noted; id = id; first = first } ∷ [] ≡ shown_asks 0 (asks ++ a ∷ [])
ask_shown noted asks a id first is same_id same_first =
    let one : noted ++ record { ask = length noted; id = id; first = first } ∷ [] ≡ shown_asks 0 asks ++ record { ask = length (shown_asks 0 asks); id = a.id; first = a.first } ∷ []
    = λ i. is i ++ record { ask = length (is i); id = same_id i; first = same_first i } ∷ [] in
    let two : shown_asks 0 asks ++ record { ask = length (shown_asks 0 asks); id = a.id; first = a.first } ∷ [] ≡ shown_asks 0 asks ++ record { ask = 0 + length asks; id = a.id; first = a.first } ∷ []
    = ap (λ (n : ℕ). shown_asks 0 asks ++ record { ask = n; id = a.id; first = a.first } ∷ []) (as_many_shown 0 asks ∙ from_none (length asks)) in
    one ∙ (two ∙ shown_more 0 asks a)
  where
    from_none : (n : ℕ) → n ≡ 0 + n
    from_none n = omega arith

last_more : (before k : ℕ) (asks : List Outstanding) (a : Outstanding) → last_from before k (asks ++ a ∷ []) ≡ number_after a.registers (k + length asks) (last_from before k asks)
last_more before k [] a = ap (λ (n : ℕ). number_after a.registers n before) (none_later k)
  where
    none_later : (k : ℕ) → k ≡ k + 0
    none_later k = omega arith
last_more before k (b ∷ asks) a =
    last_more (number_after b.registers k before) (k + 1) asks a ∙ ap (λ (n : ℕ). number_after a.registers n (last_from (number_after b.registers k before) (k + 1) asks)) (one_later k (length asks))

-- the last ask that registered, after one more ask
pub last_after : (asks : List Outstanding) (a : Outstanding) → last_registration (asks ++ a ∷ []) ≡ number_after a.registers (length asks) (last_registration asks)
last_after asks a = last_more 0 0 asks a ∙ ap (λ (n : ℕ). number_after a.registers n (last_registration asks)) (from_none (length asks))
  where
    from_none : (n : ℕ) → 0 + n ≡ n
    from_none n = omega arith

pub registered_more : (asks : List Outstanding) (a : Outstanding) (noted : List AskMade) (before : ℕ) → noted ≡ shown_asks 0 asks → before ≡ last_registration asks
    → number_after a.registers (length noted) before ≡ last_registration (asks ++ a ∷ [])
registered_more asks a noted before is was =
    let one : number_after a.registers (length noted) before ≡ number_after a.registers (length (shown_asks 0 asks)) (last_registration asks)
    = λ i. number_after a.registers (length (is i)) (was i) in
    one ∙ (ap (λ (n : ℕ). number_after a.registers n (last_registration asks)) (as_many_shown 0 asks) ∙ sym (last_after asks a))

-- ---- message IDs

halves : (id : ℕ) → id / 256 * 256 + id % 256 ≡ id
halves id = omega arith

id_by : (b : Bool) (bytes : List ℕ) (id : ℕ) → nat_lt (length bytes) 4 ≡ b → 4 ≤ length bytes → get_or bytes 2 0 ≡ id / 256 → get_or bytes 3 0 ≡ id % 256
    → cond b 0 (get_or bytes 2 0 * 256 + get_or bytes 3 0) ≡ id
id_by true bytes id short long high low = absurd (let wrong : nat_lt (length bytes) 4 ≡ false = grind (arith, nat_tests) in cc)
id_by false bytes id short long high low = let e = halves id in omega arith

long_enough : (a b c d : ℕ) (rest : List ℕ) → 4 ≤ length (a ∷ b ∷ c ∷ d ∷ rest)
long_enough a b c d rest = omega arith

-- the message ID in the bytes of a message is the message's
pub id_of_spelling : (m : CoapMessage) (bytes : List ℕ) → bytes ≡ spelling m → id_in bytes ≡ m.id
id_of_spelling m bytes is =
    ap id_in is ∙ id_by (nat_lt (length (spelling m)) 4) (spelling m) m.id refl (long_enough (64 * 1 + 16 * type_bits m.kind + length m.token) m.code (m.id / 256) (m.id % 256) _) refl refl

-- ---- ends

pub end_shown : (noted : List AskMade) (asks : List Outstanding) (ends : List AskEnd) (world_ends : List AskEndInWorld) (e : EndInWorld) → noted ≡ shown_asks 0 asks → ends ≡ shown_ends world_ends
    → ends ++ record { ask = length noted - 1; end = shown_end e } ∷ [] ≡ shown_ends (world_ends ++ record { ask = length asks - 1; end = e } ∷ [])
end_shown noted asks ends world_ends e is same =
    let one : ends ++ record { ask = length noted - 1; end = shown_end e } ∷ [] ≡ shown_ends world_ends ++ record { ask = length (shown_asks 0 asks) - 1; end = shown_end e } ∷ []
    = λ i. same i ++ record { ask = length (is i) - 1; end = shown_end e } ∷ [] in
    one
    ∙ (ap (λ (n : ℕ). shown_ends world_ends ++ record { ask = n - 1; end = shown_end e } ∷ []) (as_many_shown 0 asks)
    ∙ sym (map-append (λ (x : AskEndInWorld). record { ask = x.ask; end = shown_end x.end }) world_ends (record { ask = length asks - 1; end = e } ∷ [])))

-- ---- datagrams

-- one more is noted
pub datagram_shown : (noted : List SentDatagram) (sent : List Datagram) (now moment : ℕ) (from to : Endpoint) (purpose : Purpose) (bytes : List ℕ) → noted ≡ map shown_datagram sent → now ≡ moment
    → noted ++ record { moment = now; from = from; to = to; bytes = bytes } ∷ [] ≡ map shown_datagram (sent ++ sent_now moment from to purpose (bytes ∷ []))
datagram_shown noted sent now moment from to purpose bytes is same =
    let one : noted ++ record { moment = now; from = from; to = to; bytes = bytes } ∷ [] ≡ map shown_datagram sent ++ record { moment = moment; from = from; to = to; bytes = bytes } ∷ []
    = λ i. is i ++ record { moment = same i; from = from; to = to; bytes = bytes } ∷ [] in
    one ∙ sym (map-append shown_datagram sent (sent_now moment from to purpose (bytes ∷ [])))

abbrev pub as_sent : ℕ → Endpoint × List ℕ → SentDatagram
as_sent moment d = record { moment = moment; from = server_place; to = d.0; bytes = d.1 }

back_shown : (moment : ℕ) (from : Endpoint) (purpose : Purpose) (said : List (List ℕ)) → map shown_datagram (sent_now moment server_place from purpose said) ≡ map (as_sent moment) (back_to from said)
back_shown moment from purpose [] = refl
back_shown moment from purpose (bytes ∷ said) = ap (λ (l : List SentDatagram). record { moment = moment; from = server_place; to = from; bytes = bytes } ∷ l) (back_shown moment from purpose said)

notifications_shown : (w : WorldState) (thing : ThingState) (ns : List Notice) → map shown_datagram (map (notification_of w thing) ns) ≡ map (as_sent w.moment) (noticed thing ns)
notifications_shown w thing [] = refl
notifications_shown w thing (n ∷ ns) =
    ap (λ (l : List SentDatagram). record { moment = w.moment; from = server_place; to = n.to; bytes = notification_bytes n thing } ∷ l) (notifications_shown w thing ns)

-- the datagrams that were sent back and the notifications are noted
pub event_shown : (noted : List SentDatagram) (sent : List Datagram) (now : ℕ) (w : WorldState) (from : Endpoint) (purpose : Purpose) (said : List (List ℕ)) (thing : ThingState) (ns : List Notice) (all : List (Endpoint × List ℕ))
    → noted ≡ map shown_datagram sent → now ≡ w.moment → all ≡ back_to from said ++ noticed thing ns
    → noted ++ map (as_sent now) all ≡ map shown_datagram ((sent ++ sent_now w.moment server_place from purpose said) ++ map (notification_of w thing) ns)
event_shown noted sent now w from purpose said thing ns all is same whole =
    let back : List Datagram = sent_now w.moment server_place from purpose said in
    let notices : List Datagram = map (notification_of w thing) ns in
    let one : noted ++ map (as_sent now) all ≡ map shown_datagram sent ++ map (as_sent w.moment) (back_to from said ++ noticed thing ns)
    = λ i. is i ++ map (as_sent (same i)) (whole i) in
    let two : map (as_sent w.moment) (back_to from said ++ noticed thing ns) ≡ map (as_sent w.moment) (back_to from said) ++ map (as_sent w.moment) (noticed thing ns)
    = map-append (as_sent w.moment) (back_to from said) (noticed thing ns) in
    let three : map (as_sent w.moment) (back_to from said) ++ map (as_sent w.moment) (noticed thing ns) ≡ map shown_datagram back ++ map shown_datagram notices
    = λ i. sym (back_shown w.moment from purpose said) i ++ sym (notifications_shown w thing ns) i in
    let four : map shown_datagram back ++ map shown_datagram notices ≡ map shown_datagram (back ++ notices) = sym (map-append shown_datagram back notices) in
    let five : map shown_datagram sent ++ map shown_datagram (back ++ notices) ≡ map shown_datagram ((sent ++ back) ++ notices)
    = sym (map-append shown_datagram sent (back ++ notices)) ∙ ap (map shown_datagram) (sym (append_assoc sent back notices)) in
    one ∙ (ap (λ (l : List SentDatagram). map shown_datagram sent ++ l) (two ∙ (three ∙ four)) ∙ five)

-- the notifications alone are
pub notifications_noted : (noted : List SentDatagram) (sent : List Datagram) (now : ℕ) (w : WorldState) (thing : ThingState) (ns : List Notice) (all : List (Endpoint × List ℕ))
    → noted ≡ map shown_datagram sent → now ≡ w.moment → all ≡ noticed thing ns
    → noted ++ map (as_sent now) all ≡ map shown_datagram (sent ++ map (notification_of w thing) ns)
notifications_noted noted sent now w thing ns all is same whole =
    let one : noted ++ map (as_sent now) all ≡ map shown_datagram sent ++ map (as_sent w.moment) (noticed thing ns)
    = λ i. is i ++ map (as_sent (same i)) (whole i) in
    one
    ∙ (ap (λ (l : List SentDatagram). map shown_datagram sent ++ l) (sym (notifications_shown w thing ns)) ∙ sym (map-append shown_datagram sent (map (notification_of w thing) ns)))

-- ---- what stands at a number

pub shown_at : (sent : List Datagram) (i : ℕ) (s : SentDatagram) → slice_get (map shown_datagram sent) i ≡ Some s
    → (d : Datagram) × (slice_get sent i ≡ Some d) × (shown_datagram d ≡ s)
shown_at [] i s at = absurd (cc)
shown_at (d ∷ sent) zero s at = (d, refl, same_Some (shown_datagram d) s at)
shown_at (d ∷ sent) (suc i) s at = shown_at sent i s at

pub none_shown_at : (sent : List Datagram) (i : ℕ) → slice_get (map shown_datagram sent) i ≡ None → slice_get sent i ≡ None
none_shown_at [] i at = refl
none_shown_at (d ∷ sent) zero at = absurd (cc)
none_shown_at (d ∷ sent) (suc i) at = none_shown_at sent i at
