-- The states to which calls lead, by the value that they put in place of the one held of one connection.
use Rattle.std.proofs.Common.{◌≡◌, ℕ, zero, suc, ◌<◌, ◌≤◌, Bool, true, false, List, [], ◌∷◌, ◌++◌, length, get_or, refl, sym, ap, subst, ◌∙◌, cond, arith}
use Rattle.std.specs.Prelude.{Option, Some, None, option_map, unwrap_or, IsSome, ◌==◌}
use Rattle.std.proofs.lemmas.List.{get_or_read, append-nil}
use Rattle.std.proofs.lemmas.Bool.{eqb-true}
use Rattle.thing_ops.specs.declared.outcome.Outcome.{Outcome}
use Rattle.thing_ops.specs.declared.outcome.Outcome.TheVariants as outcome
use Rattle.thing_ops.specs.Outcomes.{payload_of}
use Rattle.http_bind.specs.declared.out.HttpOut.{HttpOut}
use Rattle.http_bind.specs.declared.owed.Owed.{Owed}
use Rattle.http_bind.specs.declared.waits.Wait.{Wait}
use Rattle.http_bind.specs.Replying.{reply, reply_head, reply_body, fault_word, fault_head, fault_body, fault_reply, continue_reply, status_head}
use Rattle.http_bind.specs.Shown.{Settles, SettlesAt, after_answer}
use Rattle.http_bind.specs.Streams.{Connection, Streams, connection_at, with_connection, without_wait, other_waits, is_waiting, opened_at, lengthened, Opened, Ended, Lengthened, Replies, Waits, Answers, lets_wait, sends_reply, waits_of, Wakes, woken_by, Continues, Refuses, after_reply}
use Rattle.http_bind.specs.Slots.{Held, Slots, HoldsIfOpen, StandsFor, Leads, held_at, with_held, with_place, without_wait_of, with_wait, held_at_opening, longer, owed_in, IsOwed, IsWaiting, HasRoomFor, HasRoom, longest_piece, left_in, left_at, OthersStay, sent_in}
use Rattle.http_bind.proofs.Holding.{holds_opening, holds_longer, holds_reply}
use Rattle.http_bind.proofs.Sound.{place_after, owed_within}
use Rattle.http_bind.proofs.Standing.{holds_at, leads_at, leads_left}
use Rattle.http_bind.proofs.WaitLists.{others_twice, others_with_one, same_number, fewer_others}

-- the value held of a connection, as the code found it among its slots
pub record IsAt (c : ℕ) (b : Slots) (items : List (Option Held)) (ws : List Wait) (h : Option Held) : Type 0 where
  pub all : record { places = items; waits = ws } ≡ b
  pub within : c < length items
  pub found : h ≡ get_or items c h

pub held_is : (c : ℕ) (b : Slots) (items : List (Option Held)) (ws : List Wait) (h : Option Held) → IsAt c b items ws h → held_at c b ≡ h
held_is c b items ws h a = ap (λ (x : Slots). held_at c x) (sym a.all) ∙ sym (get_or_read items c h a.within a.found None)

pub put_there : (c : ℕ) (b : Slots) (items : List (Option Held)) (ws : List Wait) (h g : Option Held) → IsAt c b items ws h → record { places = with_place c g items; waits = ws } ≡ with_held c g b
put_there c b items ws h g a = ap (λ (x : Slots). with_held c g x) a.all

pub put_without : (c : ℕ) (b : Slots) (items : List (Option Held)) (ws vs : List Wait) (h g : Option Held) → IsAt c b items ws h → vs ≡ other_waits c ws →
    record { places = with_place c g items; waits = vs } ≡ with_held c g (without_wait_of c b)
put_without c b items ws vs h g a gone =
    ap (λ (us : List Wait). record { places = with_place c g items; waits = us }) gone ∙ ap (λ (x : Slots). with_held c g (without_wait_of c x)) a.all

-- the value that is put there leads on
kept_leads : (c : ℕ) (b : Slots) (items : List (Option Held)) (ws : List Wait) (h g : Option Held) (Does : Streams → Streams → Type 0) → IsAt c b items ws h →
    ((s : Streams) → HoldsIfOpen h (connection_at c s) → (x : Option Connection) × HoldsIfOpen g x × Does s (with_connection c x s)) →
    Leads Does b (record { places = with_place c g items; waits = ws })
kept_leads c b items ws h g Does a one =
    subst (Leads Does b) (sym (put_there c b items ws h g a))
    (leads_at c b g Does (λ s holds. one s (subst (λ (k : Option Held). HoldsIfOpen k (connection_at c s)) (held_is c b items ws h a) holds)))

left_leads : (c : ℕ) (b : Slots) (items : List (Option Held)) (ws vs : List Wait) (h g : Option Held) (Does : Streams → Streams → Type 0) → IsAt c b items ws h → vs ≡ other_waits c ws →
    ((s : Streams) → (x : Option Connection) × HoldsIfOpen g x × Does s (with_connection c x (without_wait c s))) →
    Leads Does b (record { places = with_place c g items; waits = vs })
left_leads c b items ws vs h g Does a gone one =
    subst (Leads Does b) (sym (put_without c b items ws vs h g a gone)) (leads_left c b g Does (λ s holds. one s))

pub opens : (c now : ℕ) (b : Slots) (items : List (Option Held)) (ws vs : List Wait) (h g : Option Held) → IsAt c b items ws h → vs ≡ other_waits c ws → g ≡ Some (held_at_opening now) →
    Leads (Opened c now) b (record { places = with_place c g items; waits = vs })
opens c now b items ws vs h g a gone is =
    left_leads c b items ws vs h g (Opened c now) a gone
    (λ s. (Some (opened_at now), subst (λ (k : Option Held). HoldsIfOpen k (Some (opened_at now))) (sym is) (holds_opening now), refl))

pub ends : (c : ℕ) (b : Slots) (items : List (Option Held)) (ws vs : List Wait) (h g : Option Held) → IsAt c b items ws h → vs ≡ other_waits c ws → g ≡ None →
    Leads (Ended c) b (record { places = with_place c g items; waits = vs })
ends c b items ws vs h g a gone is =
    left_leads c b items ws vs h g (Ended c) a gone (λ s. (None, subst (λ (k : Option Held). HoldsIfOpen k None) (sym is) tt, refl))

longer_holds : (piece : List ℕ) (now : ℕ) (h : Option Held) (x : Option Connection) → HoldsIfOpen h x →
    HoldsIfOpen (option_map (longer piece now) h) (option_map (lengthened piece now) x)
longer_holds piece now None None holds = tt
longer_holds piece now None (Some x) holds = absurd holds
longer_holds piece now (Some h) None holds = absurd holds
longer_holds piece now (Some h) (Some x) holds = holds_longer h x piece now holds

pub lengthens : (c : ℕ) (piece : List ℕ) (now : ℕ) (b : Slots) (items : List (Option Held)) (ws : List Wait) (h g : Option Held) → IsAt c b items ws h → g ≡ option_map (longer piece now) h →
    Leads (Lengthened c piece now) b (record { places = with_place c g items; waits = ws })
lengthens c piece now b items ws h g a is =
    kept_leads c b items ws h g (Lengthened c piece now) a
    (λ s holds. (
      option_map (lengthened piece now) (connection_at c s),
      subst (λ (k : Option Held). HoldsIfOpen k (option_map (lengthened piece now) (connection_at c s))) (sym is) (longer_holds piece now h (connection_at c s) holds),
      refl,
    ))

-- ---- replies

-- the bytes of a reply
bytes_are : (bodiless closes said : Bool) (o : Outcome) (head body : List ℕ) → said ≡ closes → reply_head closes o ≡ Some head → body ≡ reply_body bodiless o →
    reply bodiless said o ≡ Some (head ++ body)
bytes_are bodiless closes said o head body same is_head is_body =
    ap (λ (t : Bool). reply bodiless t o) same ∙ ap (λ (r : Option (List ℕ)). option_map (λ xs. xs ++ reply_body bodiless o) r) is_head
    ∙ ap (λ (xs : List ℕ). Some (head ++ xs)) (sym is_body)

-- the connection is left as by a reply
replied : (c : ℕ) (o : Outcome) (now : ℕ) (bytes : List ℕ) (said : Bool) (owed : Owed) (h g : Option Held) (s : Streams) (y : Option Connection) →
    connection_at c s ≡ y → HoldsIfOpen h y → Settles now h owed g → said ≡ owed.closes → reply owed.bodiless said o ≡ Some bytes →
    (x : Option Connection) × HoldsIfOpen g x × Replies c o now bytes said s (with_connection c x (without_wait c s))
replied c o now bytes said owed None g s y at holds settles closes written = absurd settles
replied c o now bytes said owed (Some h) g s None at holds settles closes written = absurd holds
replied c o now bytes said owed (Some h) g s (Some x) at holds settles closes written = (
  after_reply said now x,
  subst (λ (k : Option Held). HoldsIfOpen k (after_reply said now x)) (ap (λ (t : Bool). after_answer t now h) closes ∙ sym settles.1) (holds_reply h x now said holds),
  (x, owed, at, sym holds.owed ∙ settles.0, closes, written, refl),
)

replied_at : (c now : ℕ) (o : Outcome) (b : Slots) (bytes : List ℕ) (said : Bool) (owed : Owed) (d : Slots) → SettlesAt c now b owed d → said ≡ owed.closes → reply owed.bodiless said o ≡ Some bytes →
    Leads (Replies c o now bytes said) b d
replied_at c now o b bytes said owed d r closes written =
    subst (Leads (Replies c o now bytes said) b) (sym r.after)
    (leads_left c b r.held (Replies c o now bytes said)
    (λ s holds. replied c o now bytes said owed (held_at c b) r.held s (connection_at c s) refl holds r.settles closes written))

none_sent : (out : HttpOut) → out.waits ≡ true → sent_in out ≡ None
none_sent out is = ap (λ (t : Bool). cond t None (Some (record { bytes = out.head.now ++ out.body.now; closes = out.close }))) is

-- the payload of a reply
pub answered_body : (bodiless : Bool) (o : Outcome) (payload body : List ℕ) → body ≡ cond bodiless [] payload → payload ≡ payload_of o → body ≡ reply_body bodiless o
answered_body true o payload body is all = is
answered_body false o payload body is all = is ∙ all

pub answers_reply : (c now : ℕ) (o : Outcome) (b : Slots) (head body : List ℕ) (owed : Owed) (d : Slots) → waits_of o ≡ None → SettlesAt c now b owed d →
    reply_head owed.closes o ≡ Some head → body ≡ reply_body owed.bodiless o → Leads (Answers c o now (Some (record { bytes = head ++ body; closes = owed.closes }))) b d
answers_reply c now o b head body owed d none r is_head is_body = λ s stands.
    let t = replied_at c now o b (head ++ body) owed.closes owed d r refl
    (bytes_are owed.bodiless owed.closes owed.closes o head body refl is_head is_body) s stands in
    (t.0, t.1, sends_reply (head ++ body) owed.closes none t.2 refl)

-- an outcome that waits for nothing
pub isnt_wait : (o : Outcome) → ((target : ℕ) → o ≡ outcome.Wait target → ⊥) → waits_of o ≡ None
isnt_wait (outcome.Wait target) isnt = absurd (isnt target refl)
isnt_wait o isnt = refl

-- the payload of the reply to a request that waits
pub woken_body : (bodiless : Bool) (text : Option (List ℕ)) (payload body : List ℕ) → body ≡ cond bodiless [] payload → payload ≡ unwrap_or text [] → body ≡ reply_body bodiless (woken_by text)
woken_body true text payload body is all = is
woken_body false None payload body is all = is ∙ all
woken_body false (Some text) payload body is all = is ∙ all

-- it is replied
pub wakes_lead : (c now : ℕ) (text : Option (List ℕ)) (b : Slots) (head body : List ℕ) (said : Bool) (owed : Owed) (d : Slots) → IsWaiting c b → SettlesAt c now b owed d → said ≡ owed.closes →
    reply_head owed.closes (woken_by text) ≡ Some head → body ≡ reply_body owed.bodiless (woken_by text) → Leads (Wakes c text now (head ++ body) said) b d
wakes_lead c now text b head body said owed d waits r closes is_head is_body = λ s stands.
    let t = replied_at c now (woken_by text) b (head ++ body) said owed d r closes (bytes_are owed.bodiless owed.closes said (woken_by text) head body closes is_head is_body) s stands in
    (t.0, t.1, (subst (λ (ws : List Wait). is_waiting c ws ≡ true) stands.waits waits, t.2))

-- the value that a reply leaves
settled_left : (now : ℕ) (owed : Owed) (h g : Option Held) → Settles now h owed g → left_in g ≤ left_in h
settled_left now owed None g settles = absurd settles
settled_left now owed (Some h) g settles = subst (λ (k : Option Held). left_in k ≤ left_in (Some h)) (sym settles.1) (by owed.closes)
  where
    by : (t : Bool) → left_in (after_answer t now h) ≤ left_in (Some h)
    by true = omega arith
    by false = omega arith

pub settled_room : (n now : ℕ) (owed : Owed) (h g : Option Held) → Settles now h owed g → HasRoomFor n h → HasRoomFor n g
settled_room n now owed None g settles room = absurd settles
settled_room n now owed (Some h) g settles room = subst (HasRoomFor n) (sym settles.1) (by owed.closes)
  where
    by : (t : Bool) → HasRoomFor n (after_answer t now h)
    by true = tt
    by false = room

settled_at : (c now : ℕ) (b : Slots) (owed : Owed) (d : Slots) → IsOwed c b → (r : SettlesAt c now b owed d) → held_at c d ≡ r.held
settled_at c now b owed d is r = ap (λ (x : Slots). held_at c x) r.after ∙ place_after c b.places r.held (owed_within c b.places is)

pub settles_left : (c now : ℕ) (b : Slots) (owed : Owed) (d : Slots) → IsOwed c b → SettlesAt c now b owed d → left_at c d ≤ left_at c b
settles_left c now b owed d is r =
    subst (λ (k : Option Held). left_in k ≤ left_at c b) (sym (settled_at c now b owed d is r)) (settled_left now owed (held_at c b) r.held r.settles)

pub settles_room : (c now : ℕ) (b : Slots) (owed : Owed) (d : Slots) → IsOwed c b → SettlesAt c now b owed d → HasRoom c b → HasRoom c d
settles_room c now b owed d is r room =
    subst (HasRoomFor longest_piece) (sym (settled_at c now b owed d is r)) (settled_room longest_piece now owed (held_at c b) r.held r.settles room)

pub settles_fewer : (c now : ℕ) (b : Slots) (owed : Owed) (d : Slots) → IsWaiting c b → SettlesAt c now b owed d → length d.waits < length b.waits
settles_fewer c now b owed d waits r = subst (λ (ws : List Wait). length ws < length b.waits) (ap (λ (x : Slots). x.waits) (sym r.after)) (fewer_others c b.waits waits)

-- one connection is put without its wait, and the others stay
pub others_without : (c : ℕ) (b d : Slots) (x : Option Held) → d ≡ with_held c x (without_wait_of c b) → OthersStay c b d
others_without c b d x put = record { held = x; places = ap (λ (k : Slots). k.places) put; waits = ap (λ (k : Slots). other_waits c k.waits) put ∙ others_twice c b.waits }

pub others_with : (c : ℕ) (b d : Slots) (x : Option Held) → d ≡ with_held c x b → OthersStay c b d
others_with c b d x put = record { held = x; places = ap (λ (k : Slots). k.places) put; waits = ap (λ (k : Slots). other_waits c k.waits) put }

-- ---- a request that waits

owed_open : (h : Option Held) → IsSome (owed_in h) → (k : Held) × (o : Owed) × (h ≡ Some k) × (k.owed ≡ Some o)
owed_open None is = absurd cc
owed_open (Some h) is = by h.owed refl is
  where
    by : (r : Option Owed) → h.owed ≡ r → IsSome r → (k : Held) × (o : Owed) × (Some h ≡ Some k) × (k.owed ≡ Some o)
    by None at some = absurd cc
    by (Some o) at some = (h, o, refl, at)

waits_by : (c target now : ℕ) (s : Streams) (h : Held) (o : Owed) (y : Option Connection) → connection_at c s ≡ y → HoldsIfOpen (Some h) y → h.owed ≡ Some o →
    Waits c target now s (record s { waits = other_waits c s.waits ++ record { connection = c; target = target; since = now } ∷ [] })
waits_by c target now s h o None at holds owed = absurd holds
waits_by c target now s h o (Some x) at holds owed = (x, o, at, sym holds.owed ∙ owed, refl)

stands_waiting : (c target now : ℕ) (b : Slots) (s : Streams) → StandsFor b s →
    StandsFor (with_wait c target now b) (record s { waits = other_waits c s.waits ++ record { connection = c; target = target; since = now } ∷ [] })
stands_waiting c target now b s stands = record {
  places = stands.places;
  waits = ap (λ (ws : List Wait). other_waits c ws ++ record { connection = c; target = target; since = now } ∷ []) stands.waits;
}

pub answers_wait : (c target now : ℕ) (o : Outcome) (b : Slots) (out : HttpOut) (d : Slots) → o ≡ outcome.Wait target → IsOwed c b → d ≡ with_wait c target now b → out.waits ≡ true →
    Leads (Answers c o now (sent_in out)) b d
answers_wait c target now o b out d is owed put sent =
    subst (Leads (Answers c o now (sent_in out)) b) (sym put)
    (λ s stands.
    let k = owed_open (held_at c b) owed in
    let holds : HoldsIfOpen (Some k.0) (connection_at c s) = subst (λ (h : Option Held). HoldsIfOpen h (connection_at c s)) k.2 (holds_at c b s stands) in (
      record s { waits = other_waits c s.waits ++ record { connection = c; target = target; since = now } ∷ [] },
      stands_waiting c target now b s stands,
      lets_wait target is (waits_by c target now s k.0 k.1 (connection_at c s) refl holds k.3) (none_sent out sent),
    ))

-- a value that is put back changes nothing
same_place : (c : ℕ) (b : List (Option Held)) → with_place c (held_at c (record { places = b; waits = [] })) b ≡ b
same_place c [] = refl
same_place zero (x ∷ b) = refl
same_place (suc c) (x ∷ b) = ap (λ (d : List (Option Held)). x ∷ d) (same_place c b)

pub others_waiting : (c target now : ℕ) (b d : Slots) → d ≡ with_wait c target now b → OthersStay c b d
others_waiting c target now b d put = record {
  held = held_at c b;
  places = ap (λ (k : Slots). k.places) put ∙ sym (same_place c b.places);
  waits = ap (λ (k : Slots). other_waits c k.waits) put
      ∙ others_with_one c (record { connection = c; target = target; since = now }) (other_waits c b.waits) (same_number c) ∙ others_twice c b.waits;
}

-- ---- what is answered without an outcome

-- the 100 reply
pub continues_lead : (c status : ℕ) (bytes : List ℕ) (b d : Slots) → d ≡ cond (status == 100) b (with_held c None (without_wait_of c b)) → bytes ≡ status_head status ++ fault_body status →
    status ≡ 100 → Leads (Continues bytes) b d
continues_lead c status bytes b d put said is =
    let same : d ≡ b = put ∙ ap (λ (n : ℕ). cond (n == 100) b (with_held c None (without_wait_of c b))) is in
    let written : bytes ≡ continue_reply = said ∙ ap (λ (n : ℕ). status_head n ++ fault_body n) is ∙ append-nil continue_reply in
    subst (Leads (Continues bytes) b) (sym same) (λ s stands. (s, stands, (written, refl)))

-- a status with a word isn't that of the 100 reply
isnt_continue : (status : ℕ) (t : Bool) → (status == 100) ≡ t → IsSome (fault_word status) → t ≡ false
isnt_continue status true is has = absurd (none (subst (λ (n : ℕ). IsSome (fault_word n)) (eqb-true status 100 is) has))
  where
    none : IsSome (fault_word 100) → ⊥
    none has = cc
isnt_continue status false is has = refl

-- the reply to a fault
pub refuses_lead : (c status : ℕ) (bytes : List ℕ) (b d : Slots) → d ≡ cond (status == 100) b (with_held c None (without_wait_of c b)) → bytes ≡ status_head status ++ fault_body status →
    IsSome (fault_word status) → Leads (Refuses c status bytes) b d
refuses_lead c status bytes b d put said has =
    let isnt : (status == 100) ≡ false = isnt_continue status (status == 100) refl has in
    let same : d ≡ with_held c None (without_wait_of c b) = put ∙ ap (λ (t : Bool). cond t b (with_held c None (without_wait_of c b))) isnt in
    let written : bytes ≡ fault_reply status = said ∙ ap (λ (t : Bool). cond t continue_reply (fault_head status) ++ fault_body status) isnt in
    subst (Leads (Refuses c status bytes) b) (sym same) (leads_left c b None (Refuses c status bytes) (λ s holds. (None, tt, (written, refl))))

-- a connection stays open, or isn't open any more
pub others_stay : (c : ℕ) (b d : Slots) (t : Bool) → d ≡ cond t b (with_held c None (without_wait_of c b)) → OthersStay c b d
others_stay c b d true put =
    record { held = held_at c b; places = ap (λ (k : Slots). k.places) put ∙ sym (same_place c b.places); waits = ap (λ (k : Slots). other_waits c k.waits) put }
others_stay c b d false put = others_without c b d None put
