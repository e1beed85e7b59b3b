-- The answer of `next`, by what was found at the front of a connection.
use Rattle.std.proofs.Common.{◌≡◌, ◌≢◌, ℕ, ◌-◌, ◌<◌, ◌≤◌, ◌&&◌, Bool, true, false, List, [], ◌∷◌, length, refl, sym, ap, subst, ◌∙◌, arith, cond}
use Rattle.std.specs.Prelude.{Option, Some, None, is_some, not, IsSome}
use Rattle.thing_ops.specs.Requests.{RequestSeen}
use Rattle.http_wire.specs.Heads.{skipped}
use Rattle.http_wire.specs.Stream.{Front, short, message, fault, IsFront}
use Rattle.http_wire.specs.Reading.{asked}
use Rattle.http_bind.specs.declared.looking.HeldFront.{HeldFront}
use Rattle.http_bind.specs.declared.looking.HeldFront.TheVariants as seen
use Rattle.http_bind.specs.declared.looking.MessageStep.{MessageStep}
use Rattle.http_bind.specs.declared.owed.Owed.{Owed}
use Rattle.http_bind.specs.declared.waits.Wait.{Wait}
use Rattle.http_wire.specs.declared.request.RequestParts.{RequestParts}
use Rattle.http_bind.specs.declared.next.HttpNext.{HttpNext}
use Rattle.http_bind.specs.declared.next.HttpNext.TheVariants as next
use Rattle.http_bind.specs.Streams.{Connection, Streams, connection_at, with_connection, without_wait, other_waits, rest_of, Taken, asks, wants_continue, is_faulty, interrupts, read_as, to_take, Takes, is_interrupted, HasNothing, IsSpent, IsDry}
use Rattle.http_bind.specs.Slots.{Held, Slots, HoldsIfOpen, Leads, held_at, with_held, with_place, without_wait_of, without_pairs, longest_piece, HasRoomFor, IsOpen, IsSound, owed_in, OthersStay}
use Rattle.http_bind.specs.Looking.{Fits, IsStep, IsWithin}
use Rattle.http_bind.specs.Shown.{after_finding, FindsBehind, PassesBy, TakesAt, Lends, LendsRequest, waits_after}
use Rattle.http_bind.specs.Given.{StaysDry, AsksFor, Gives}
use Rattle.http_bind.proofs.Skipping.{skipped_twice}
use Rattle.http_bind.proofs.ShortFronts.{short_front}
use Rattle.http_bind.proofs.Holding.{holds_less, has_nothing, lets_continue, lets_fault, takes_request}
use Rattle.http_bind.proofs.Sound.{place_after, unowed_waits_not}
use Rattle.http_bind.proofs.Standing.{leads_at, leads_left, same_with}
use Rattle.http_bind.proofs.WaitLists.{others_twice}

-- where nothing can be taken, the next message isn't whole
none_is_short : (continued : Bool) (f : Front) (bytes : List ℕ) → to_take continued f ≡ None → IsFront bytes f → length (skipped bytes) < 28672
none_is_short continued (short expect) bytes none front = short_front (length bytes - length (skipped bytes)) (skipped bytes) expect front
none_is_short continued (message head body used expect) bytes none front = absurd (isnt_none (expect && not continued) (read_as (asked head body)) none)
  where
    isnt_none : (t : Bool) (taken : Taken) → cond t (Some wants_continue) (Some taken) ≡ None → ⊥
    isnt_none true taken is = cc
    isnt_none false taken is = cc
none_is_short continued (fault status expect) bytes none front = absurd (isnt_none (expect && not continued) (is_faulty status) none)
  where
    isnt_none : (t : Bool) (taken : Taken) → cond t (Some wants_continue) (Some taken) ≡ None → ⊥
    isnt_none true taken is = cc
    isnt_none false taken is = cc

-- ---- the streams

-- a connection that isn't open stays so
closed_dry : (c : ℕ) (s : Streams) (y : Option Connection) → connection_at c s ≡ y → HoldsIfOpen None y →
    (x : Option Connection) × HoldsIfOpen None x × StaysDry c s (with_connection c x s)
closed_dry c s None at holds =
    let same : with_connection c None s ≡ s = ap (λ (x : Option Connection). with_connection c x s) (sym at) ∙ same_with c s in
    (None, tt, (same, subst (IsDry c) (sym same) (subst HasNothing (sym at) tt)))
closed_dry c s (Some x) at holds = absurd holds

-- one from which nothing can be taken stays as it is
stays_dry : (c : ℕ) (s : Streams) (h : Held) (x : Connection) → connection_at c s ≡ Some x → HoldsIfOpen (Some h) (Some x) → HasNothing (Some x) →
    (y : Option Connection) × HoldsIfOpen (Some h) y × StaysDry c s (with_connection c y s)
stays_dry c s h x at holds nothing =
    let same : with_connection c (Some x) s ≡ s = ap (λ (k : Option Connection). with_connection c k s) (sym at) ∙ same_with c s in
    (Some x, holds, (same, subst (IsDry c) (sym same) (subst HasNothing (sym at) nothing)))

-- one whose next message isn't whole
open_dry : (c : ℕ) (h : Held) (f : Front) (s : Streams) (y : Option Connection) → connection_at c s ≡ y → HoldsIfOpen (Some h) y → h.owed ≡ None →
    IsFront (skipped h.rest) f → to_take h.continued f ≡ None →
    (x : Option Connection) × HoldsIfOpen (Some (without_pairs h)) x × StaysDry c s (with_connection c x s)
open_dry c h f s None at holds free front none = absurd holds
open_dry c h f s (Some x) at holds free front none =
    let unowed : x.owed ≡ None = sym holds.owed ∙ free in
    stays_dry c s (without_pairs h) x at (holds_less h x holds unowed) (has_nothing h x f holds unowed front none)

-- one that is owed a reply and has no byte behind the messages taken
owed_dry : (c : ℕ) (h : Held) (o : Owed) (s : Streams) (y : Option Connection) → connection_at c s ≡ y → HoldsIfOpen (Some h) y → h.owed ≡ Some o → h.rest ≡ [] →
    (x : Option Connection) × HoldsIfOpen (Some h) x × StaysDry c s (with_connection c x s)
owed_dry c h o s None at holds owed none = absurd holds
owed_dry c h o s (Some x) at holds owed none =
    let same : x.owed ≡ Some o = sym holds.owed ∙ owed in
    let some : IsSome x.owed = subst IsSome (sym same) refl in
    stays_dry c s h x at holds (subst (λ (k : Option Owed). IsSpent k x) (sym same) (sym (holds.behind some) ∙ none))

-- one that is owed a reply and has some
open_interrupted : (c : ℕ) (h : Held) (o : Owed) (s : Streams) (y : Option Connection) → connection_at c s ≡ y → HoldsIfOpen (Some h) y → h.owed ≡ Some o → h.rest ≢ [] →
    (x : Option Connection) × HoldsIfOpen None x × Takes c interrupts s (with_connection c x (without_wait c s))
open_interrupted c h o s None at holds owed some = absurd holds
open_interrupted c h o s (Some x) at holds owed some =
    let same : x.owed ≡ Some o = sym holds.owed ∙ owed in
    let behind : h.rest ≡ rest_of x = holds.behind (subst IsSome (sym same) refl) in
    (None, tt, (x, None, at, is_interrupted o same (subst (λ (bytes : List ℕ). bytes ≢ []) behind some) refl refl, refl))

open_continue : (c : ℕ) (h : Held) (f : Front) (s : Streams) (y : Option Connection) → connection_at c s ≡ y → HoldsIfOpen (Some h) y → h.owed ≡ None →
    IsFront (skipped h.rest) f → to_take h.continued f ≡ Some wants_continue →
    (x : Option Connection) × HoldsIfOpen (Some (after_finding seen.Continue (without_pairs h))) x × Takes c wants_continue s (with_connection c x (without_wait c s))
open_continue c h f s None at holds free front is = absurd holds
open_continue c h f s (Some x) at holds free front is =
    let unowed : x.owed ≡ None = sym holds.owed ∙ free in
    let less = holds_less h x holds unowed in
    let y : Connection = record x { continued = true } in (
      Some y,
      record { rest = less.rest; behind = less.behind; within = less.within; continued = refl; owed = less.owed; active = less.active },
      (x, Some y, at, lets_continue h x f holds unowed front is, refl),
    )

open_fault : (c : ℕ) (h : Held) (f : Front) (status : ℕ) (s : Streams) (y : Option Connection) → connection_at c s ≡ y → HoldsIfOpen (Some h) y → h.owed ≡ None →
    IsFront (skipped h.rest) f → to_take h.continued f ≡ Some (is_faulty status) →
    (x : Option Connection) × HoldsIfOpen (Some (without_pairs h)) x × Takes c (is_faulty status) s (with_connection c x (without_wait c s))
open_fault c h f status s None at holds free front is = absurd holds
open_fault c h f status s (Some x) at holds free front is =
    let unowed : x.owed ≡ None = sym holds.owed ∙ free in
    (Some x, holds_less h x holds unowed, (x, Some x, at, lets_fault h x f status holds unowed front is, refl))

open_request : (c : ℕ) (h : Held) (f : Front) (q : RequestSeen) (step : MessageStep) (parts : Option RequestParts) (s : Streams) (y : Option Connection) → connection_at c s ≡ y →
    HoldsIfOpen (Some h) y → h.owed ≡ None → IsFront (skipped h.rest) f → to_take h.continued f ≡ Some (asks q) → IsStep f q step → step.used ≤ length (skipped h.rest) →
    (x : Option Connection) × HoldsIfOpen (Some (after_finding (seen.Message step parts) (without_pairs h))) x × Takes c (asks q) s (with_connection c x (without_wait c s))
open_request c h f q step parts s None at holds free front is by within = absurd holds
open_request c h f q step parts s (Some x) at holds free front is by within =
    let taken = takes_request h x f q step holds (sym holds.owed ∙ free) front is by within in
    (Some taken.after, taken.holds, (x, Some taken.after, at, taken.lets, refl))

-- ---- what is given

-- a connection as it was held, and as it is put back
pub record Puts (c : ℕ) (b d : Slots) (h x : Option Held) : Type 0 where
  pub within : c < length b.places
  pub was : held_at c b ≡ h
  pub put : d ≡ with_held c x b

put_is : (c : ℕ) (b d : Slots) (h x : Option Held) → Puts c b d h x → held_at c d ≡ x
put_is c b d h x p = ap (held_at c) p.put ∙ place_after c b.places x p.within

-- the change leads on
put_leads : (c : ℕ) (b d : Slots) (h x : Option Held) (Does : Streams → Streams → Type 0) → Puts c b d h x →
    ((s : Streams) → HoldsIfOpen h (connection_at c s) → (y : Option Connection) × HoldsIfOpen x y × Does s (with_connection c y s)) → Leads Does b d
put_leads c b d h x Does p one =
    subst (Leads Does b) (sym p.put)
    (leads_at c b x Does (λ s holds. one s (subst (λ (k : Option Held). HoldsIfOpen k (connection_at c s)) p.was holds)))

-- and where the connection doesn't wait, it does so without its wait
take_leads : (c : ℕ) (b d : Slots) (h x : Option Held) (Does : Streams → Streams → Type 0) → Puts c b d h x → other_waits c b.waits ≡ b.waits →
    ((s : Streams) → HoldsIfOpen h (connection_at c s) → (y : Option Connection) × HoldsIfOpen x y × Does s (with_connection c y (without_wait c s))) → Leads Does b d
take_leads c b d h x Does p free one =
    subst (Leads Does b) (ap (λ (ws : List Wait). record { places = with_place c x b.places; waits = ws }) free ∙ sym p.put)
    (leads_left c b x Does (λ s holds. one s (subst (λ (k : Option Held). HoldsIfOpen k (connection_at c s)) p.was holds)))

open_after : (c : ℕ) (b d : Slots) (h : Option Held) (x : Held) → Puts c b d h (Some x) → IsOpen c d
open_after c b d h x p = subst (λ (k : Option Held). IsSome k) (sym (put_is c b d h (Some x) p)) refl

-- a connection that is owed nothing, and as it is put back
pub record Frees (c : ℕ) (b d : Slots) (h x : Held) : Type 0 where
  pub puts : Puts c b d (Some h) (Some x)
  pub unowed : h.owed ≡ None
  pub waits_not : other_waits c b.waits ≡ b.waits

-- a request was taken
asks_for : (c : ℕ) (b d : Slots) (h : Held) (f : Front) (q : RequestSeen) (step : MessageStep) (parts : Option RequestParts) → Frees c b d h (after_finding (seen.Message step parts) (without_pairs h)) →
    IsFront (skipped h.rest) f → to_take h.continued f ≡ Some (asks q) → IsStep f q step → step.used ≤ length (skipped h.rest) → AsksFor c q b d
asks_for c b d h f q step parts p front is by within = (
  take_leads c b d (Some h) _ (Takes c (asks q)) p.puts p.waits_not (λ s holds. open_request c h f q step parts s (connection_at c s) refl holds p.unowed front is by within),
  subst (λ (k : Option Held). IsSome (owed_in k)) (sym (put_is c b d (Some h) _ p.puts)) refl,
)

gives_request : (c : ℕ) (b d : Slots) (q : RequestSeen) (given : HttpNext) → LendsRequest q given → AsksFor c q b d → Gives c given b d
gives_request c b d q next.Idle lends for = absurd lends
gives_request c b d q next.Continue lends for = absurd lends
gives_request c b d q (next.Ask request) lends for = subst (λ (p : RequestSeen). AsksFor c p b d) (sym lends) for
gives_request c b d q (next.Refuse status) lends for = absurd lends
gives_request c b d q next.Memory lends for = absurd lends
gives_request c b d q next.Close lends for = absurd lends

gives_front : (c : ℕ) (b d : Slots) (h : Held) (f : Front) (what : HeldFront) (room : List ℕ) (given : HttpNext) → Frees c b d h (after_finding what (without_pairs h)) →
    IsFront (skipped h.rest) f → Fits h.continued f what room → IsWithin (length (skipped h.rest)) what → Lends what room given → Gives c given b d
gives_front c b d h f seen.Nothing room given p front fits within lends =
    let few = none_is_short h.continued f (skipped h.rest) fits front in
    let least : length (skipped (skipped h.rest)) ≡ length (skipped h.rest) = ap length (skipped_twice h.rest) in
    subst (λ (n : HttpNext). Gives c n b d) (sym lends) (
      put_leads c b d (Some h) _ (StaysDry c) p.puts (λ s holds. open_dry c h f s (connection_at c s) refl holds p.unowed front fits),
      subst (HasRoomFor longest_piece) (sym (put_is c b d (Some h) _ p.puts)) (omega (arith, few, least)),
    )
gives_front c b d h f seen.Interrupted room given p front fits within lends = absurd fits
gives_front c b d h f seen.Continue room given p front fits within lends =
    subst (λ (n : HttpNext). Gives c n b d) (sym lends) (
      take_leads c b d (Some h) _ (Takes c wants_continue) p.puts p.waits_not (λ s holds. open_continue c h f s (connection_at c s) refl holds p.unowed front fits),
      open_after c b d (Some h) _ p.puts,
    )
gives_front c b d h f (seen.Fault status) room given p front fits within lends =
    subst (λ (n : HttpNext). Gives c n b d) (sym lends) (
      take_leads c b d (Some h) _ (Takes c (is_faulty status)) p.puts p.waits_not (λ s holds. open_fault c h f status s (connection_at c s) refl holds p.unowed front fits.0),
      open_after c b d (Some h) _ p.puts,
      fits.1,
    )
gives_front c b d h f (seen.Message step None) room given p front fits within lends =
    subst (λ (n : HttpNext). Gives c n b d) (sym lends)
    (fits.0, asks_for c b d h f fits.0 step None p front fits.1 fits.2 within)
gives_front c b d h f (seen.Message step (Some parts)) room given p front fits within lends =
    gives_request c b d fits.0 given (subst (λ (q : RequestSeen). LendsRequest q given) fits.3.request lends)
    (asks_for c b d h f fits.0 step (Some parts) p front fits.1 fits.2 within)

gives_closed : (c : ℕ) (b d : Slots) (what : HeldFront) (room : List ℕ) (given : HttpNext) → Puts c b d None None → what ≡ seen.Nothing → Lends what room given → Gives c given b d
gives_closed c b d what room given p is lends =
    let idle : given ≡ next.Idle = subst (λ (w : HeldFront). Lends w room given) is lends in
    subst (λ (n : HttpNext). Gives c n b d) (sym idle) (
      put_leads c b d None None (StaysDry c) p (λ s holds. closed_dry c s (connection_at c s) refl holds),
      subst (HasRoomFor longest_piece) (sym (put_is c b d None None p)) tt,
    )

-- nothing is given of a connection that is owed a reply and has no byte
gives_nothing : (c : ℕ) (b d : Slots) (h : Held) (o : Owed) (what : HeldFront) (room : List ℕ) (given : HttpNext) → Puts c b d (Some h) (Some h) → h.owed ≡ Some o → h.rest ≡ [] →
    what ≡ seen.Nothing → Lends what room given → Gives c given b d
gives_nothing c b d h o what room given p owed none is lends =
    let idle : given ≡ next.Idle = subst (λ (w : HeldFront). Lends w room given) is lends in
    subst (λ (n : HttpNext). Gives c n b d) (sym idle) (
      put_leads c b d (Some h) (Some h) (StaysDry c) p (λ s holds. owed_dry c h o s (connection_at c s) refl holds owed none),
      subst (HasRoomFor longest_piece) (sym (put_is c b d (Some h) (Some h) p)) (omega (arith, ap length none)),
    )

-- one that is owed a reply and has some is given up
gives_up : (c : ℕ) (b d : Slots) (h : Held) (o : Owed) (what : HeldFront) (room : List ℕ) (given : HttpNext) → c < length b.places → held_at c b ≡ Some h →
    d ≡ with_held c None (without_wait_of c b) → h.owed ≡ Some o → h.rest ≢ [] → what ≡ seen.Interrupted → Lends what room given → Gives c given b d
gives_up c b d h o what room given within was put owed some is lends =
    let close : given ≡ next.Close = subst (λ (w : HeldFront). Lends w room given) is lends in
    let gone : held_at c d ≡ None = ap (held_at c) put ∙ place_after c b.places None within in
    subst (λ (n : HttpNext). Gives c n b d) (sym close) (
      subst (Leads (Takes c interrupts) b) (sym put) (leads_left c b None (Takes c interrupts)
          (λ s holds. open_interrupted c h o s (connection_at c s) refl (subst (λ (k : Option Held). HoldsIfOpen k (connection_at c s)) was holds) owed some)),
      subst (HasRoomFor longest_piece) (sym gone) tt,
    )

-- ---- what was taken

-- taking what was found at the front of a connection
pub record Took (c : ℕ) (b d : Slots) (what : HeldFront) (room : List ℕ) : Type 0 where
  pub sound : IsSound b
  pub within : c < 64
  pub takes : TakesAt c b.places what d.places room
  pub waits : d.waits ≡ waits_after what c b.waits

pub both : (c : ℕ) (b d : Slots) (x : Option Held) (ws : List Wait) → d.places ≡ with_place c x b.places → d.waits ≡ ws → d ≡ record { places = with_place c x b.places; waits = ws }
both c b d x ws places waits = λ i. record { places = places i; waits = waits i }

-- taking from the front ends no wait
front_waits : (continued : Bool) (f : Front) (what : HeldFront) (room : List ℕ) (c : ℕ) (ws : List Wait) → Fits continued f what room → waits_after what c ws ≡ ws
front_waits continued f seen.Nothing room c ws fits = refl
front_waits continued f seen.Interrupted room c ws fits = absurd fits
front_waits continued f seen.Continue room c ws fits = refl
front_waits continued f (seen.Fault status) room c ws fits = refl
front_waits continued f (seen.Message step parts) room c ws fits = refl

no_owed : (o : Option Owed) → is_some o ≡ false → o ≡ None
no_owed None is = refl
no_owed (Some o) is = absurd cc

some_owed : (o : Option Owed) → is_some o ≡ true → (p : Owed) × (o ≡ Some p)
some_owed None is = absurd cc
some_owed (Some o) is = (o, refl)

isnt_empty : (b : ℕ) (bytes rest : List ℕ) → rest ≡ b ∷ bytes → rest ≢ []
isnt_empty b bytes rest is none = cc

gives_behind : (c : ℕ) (b d : Slots) (h : Held) (o : Owed) (x : Option Held) (what : HeldFront) (room : List ℕ) (given : HttpNext) (rest : List ℕ) → Took c b d what room → held_at c b ≡ Some h →
    d.places ≡ with_place c x b.places → h.owed ≡ Some o → h.rest ≡ rest → FindsBehind rest h what x → Lends what room given → Gives c given b d
gives_behind c b d h o x what room given [] took was put owed none finds lends =
    let same : d.places ≡ with_place c (Some h) b.places = put ∙ ap (λ (k : Option Held). with_place c k b.places) finds.1 in
    let stay : d.waits ≡ b.waits = took.waits ∙ ap (λ (w : HeldFront). waits_after w c b.waits) finds.0 in
    gives_nothing c b d h o what room given (record { within = omega (arith, took.within, took.sound.count); was = was; put = both c b d (Some h) b.waits same stay }) owed none finds.0 lends
gives_behind c b d h o x what room given (byte ∷ bytes) took was put owed some finds lends =
    let gone : d.places ≡ with_place c None b.places = put ∙ ap (λ (k : Option Held). with_place c k b.places) finds.1 in
    let left : d.waits ≡ other_waits c b.waits = took.waits ∙ ap (λ (w : HeldFront). waits_after w c b.waits) finds.0 in
    gives_up c b d h o what room given (omega (arith, took.within, took.sound.count)) was (both c b d None (other_waits c b.waits) gone left) owed (isnt_empty byte bytes h.rest some) finds.0 lends

gives_by : (c : ℕ) (b d : Slots) (h x : Option Held) (what : HeldFront) (room : List ℕ) (given : HttpNext) (t : Bool) → Took c b d what room → held_at c b ≡ h →
    d.places ≡ with_place c x b.places → is_some (owed_in h) ≡ t → PassesBy t h what x room → Lends what room given → Gives c given b d
gives_by c b d None x what room given true took was put owed passes lends = absurd passes
gives_by c b d (Some h) x what room given true took was put owed passes lends =
    let o = some_owed h.owed owed in gives_behind c b d h o.0 x what room given h.rest took was put o.1 refl passes lends
gives_by c b d None x what room given false took was put owed passes lends =
    let gone : d.places ≡ with_place c None b.places = put ∙ ap (λ (k : Option Held). with_place c k b.places) passes.1 in
    let stay : d.waits ≡ b.waits = took.waits ∙ ap (λ (w : HeldFront). waits_after w c b.waits) passes.0 in
    gives_closed c b d what room given (record { within = omega (arith, took.within, took.sound.count); was = was; put = both c b d None b.waits gone stay }) passes.0 lends
gives_by c b d (Some h) x what room given false took was put owed passes lends =
    let unowed : h.owed ≡ None = no_owed h.owed owed in
    let same : d.places ≡ with_place c (Some (after_finding what (without_pairs h))) b.places = put ∙ ap (λ (k : Option Held). with_place c k b.places) passes.2 in
    let stay : d.waits ≡ b.waits = took.waits ∙ front_waits h.continued passes.0.0 what room c b.waits passes.0.2 in
    let puts : Puts c b d (Some h) (Some (after_finding what (without_pairs h))) =
    record { within = omega (arith, took.within, took.sound.count); was = was; put = both c b d (Some (after_finding what (without_pairs h))) b.waits same stay } in
    gives_front c b d h passes.0.0 what room given
    (record { puts = puts; unowed = unowed; waits_not = unowed_waits_not c b took.sound (ap owed_in was ∙ unowed) }) passes.0.1 passes.0.2 passes.1 lends

-- `next` gives the taken message as it was lent.
pub gives : (c : ℕ) (b d : Slots) (what : HeldFront) (room : List ℕ) (given : HttpNext) → Took c b d what room → Lends what room given → Gives c given b d
gives c b d what room given took lends =
    gives_by c b d (held_at c b) took.takes.0 what room given (is_some (owed_in (held_at c b))) took refl took.takes.2 refl took.takes.1 lends

waits_others : (c : ℕ) (what : HeldFront) (ws : List Wait) → other_waits c (waits_after what c ws) ≡ other_waits c ws
waits_others c seen.Nothing ws = refl
waits_others c seen.Interrupted ws = others_twice c ws
waits_others c seen.Continue ws = refl
waits_others c (seen.Fault status) ws = refl
waits_others c (seen.Message step parts) ws = refl

-- and all others stay
pub others_stay_taking : (c : ℕ) (b d : Slots) (what : HeldFront) (room : List ℕ) → Took c b d what room → OthersStay c b d
others_stay_taking c b d what room took =
    record { held = took.takes.0; places = took.takes.2; waits = ap (other_waits c) took.waits ∙ waits_others c what b.waits }
