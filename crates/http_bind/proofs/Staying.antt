-- The invariant of the connections stays, by what the calls put in place of what was held of one.
use Rattle.std.proofs.Common.{◌≡◌, ℕ, ◌<◌, ◌≤◌, Bool, List, [], ◌∷◌, ◌++◌, length, get_or, refl, sym, ap, subst, ◌∙◌, arith, length-append}
use Rattle.std.specs.Prelude.{Option, Some, None, option_map, IsSome}
use Rattle.std.proofs.lemmas.List.{get_or_read}
use Rattle.http_bind.specs.declared.owed.Owed.{Owed}
use Rattle.http_bind.specs.declared.waits.Wait.{Wait}
use Rattle.http_bind.specs.declared.looking.HeldFront.{HeldFront}
use Rattle.http_bind.specs.Streams.{other_waits, oldest}
use Rattle.http_bind.specs.Slots.{Held, Slots, with_place, place_at, with_wait, held_at_opening, longer, longest_piece, HasRoomFor, owed_in, IsOwed, IsWaiting, IsSound}
use Rattle.http_bind.specs.Shown.{Settles, SettlesAt, TakesAt, waits_after}
use Rattle.http_bind.proofs.Calls.{IsAt, held_is, put_without, settled_room}
use Rattle.http_bind.proofs.Giving.{Took}
use Rattle.http_bind.proofs.Sound.{left_sound, kept_sound, wait_sound, wait_fits, waiting_below}
use Rattle.http_bind.proofs.WaitLists.{oldest_waits}

-- a slot as the code found it
pub found_at : (c : ℕ) (items : List (Option Held)) (h : Option Held) → c < length items → h ≡ get_or items c h → place_at c items ≡ h
found_at c items h within found = sym (get_or_read items c h within found None)

-- a connection is left as something that isn't too long, and waits no longer
pub left_stays : (c : ℕ) (g : Option Held) (items : List (Option Held)) (ws vs : List Wait) → IsSound (record { places = items; waits = ws }) → vs ≡ other_waits c ws → HasRoomFor 0 g →
    IsSound (record { places = with_place c g items; waits = vs })
left_stays c g items ws vs sound gone few =
    subst (λ (us : List Wait). IsSound (record { places = with_place c g items; waits = us })) (sym gone)
    (left_sound c g (record { places = items; waits = ws }) sound few)

pub opened_stays : (c now : ℕ) (g : Option Held) (items : List (Option Held)) (ws vs : List Wait) → IsSound (record { places = items; waits = ws }) → vs ≡ other_waits c ws →
    g ≡ Some (held_at_opening now) → IsSound (record { places = with_place c g items; waits = vs })
opened_stays c now g items ws vs sound gone is = left_stays c g items ws vs sound gone (subst (HasRoomFor 0) (sym is) (omega arith))

pub freed_stays : (c : ℕ) (g : Option Held) (items : List (Option Held)) (ws vs : List Wait) → IsSound (record { places = items; waits = ws }) → vs ≡ other_waits c ws → g ≡ None →
    IsSound (record { places = with_place c g items; waits = vs })
freed_stays c g items ws vs sound gone is = left_stays c g items ws vs sound gone (subst (HasRoomFor 0) (sym is) tt)

longer_room : (piece : List ℕ) (now : ℕ) (h : Option Held) → HasRoomFor longest_piece h → length piece ≤ longest_piece → HasRoomFor 0 (option_map (longer piece now) h)
longer_room piece now None room few = tt
longer_room piece now (Some h) room few = omega (arith, room, few, length-append h.rest piece)

longer_owed : (piece : List ℕ) (now : ℕ) (h : Option Held) → IsSome (owed_in h) → IsSome (owed_in (option_map (longer piece now) h))
longer_owed piece now None owed = owed
longer_owed piece now (Some h) owed = owed

-- bytes came
pub longer_stays : (c : ℕ) (piece : List ℕ) (now : ℕ) (h g : Option Held) (items : List (Option Held)) (ws : List Wait) → IsSound (record { places = items; waits = ws }) →
    place_at c items ≡ h → HasRoomFor longest_piece h → length piece ≤ longest_piece → g ≡ option_map (longer piece now) h →
    IsSound (record { places = with_place c g items; waits = ws })
longer_stays c piece now h g items ws sound at room few is =
    kept_sound c g (record { places = items; waits = ws }) sound (subst (HasRoomFor 0) (sym is) (longer_room piece now h room few))
    (λ owed. subst (λ (k : Option Held). IsSome (owed_in k)) (sym is) (longer_owed piece now h (subst (λ (k : Option Held). IsSome (owed_in k)) at owed)))

-- the request taken last is replied to
pub settled_stays : (c now : ℕ) (owed : Owed) (h g : Option Held) (items : List (Option Held)) (ws vs : List Wait) → IsSound (record { places = items; waits = ws }) →
    place_at c items ≡ h → vs ≡ other_waits c ws → Settles now h owed g → IsSound (record { places = with_place c g items; waits = vs })
settled_stays c now owed h g items ws vs sound at gone settles =
    left_stays c g items ws vs sound gone (settled_room 0 now owed h g settles (subst (HasRoomFor 0) at (sound.bounded c)))

-- taking what was found at the front of a connection
pub took : (c : ℕ) (b : Slots) (items now_items : List (Option Held)) (ws now_ws : List Wait) (what : HeldFront) (room : List ℕ) → record { places = items; waits = ws } ≡ b →
    IsSound (record { places = items; waits = ws }) → c < 64 → TakesAt c items what now_items room → now_ws ≡ waits_after what c ws →
    Took c b (record { places = now_items; waits = now_ws }) what room
took c b items now_items ws now_ws what room all sound within takes waits =
    subst (λ (x : Slots). Took c x (record { places = now_items; waits = now_ws }) what room) all (record { sound = sound; within = within; takes = takes; waits = waits })

-- the request taken last is replied to
pub settles_at : (c now : ℕ) (b : Slots) (items : List (Option Held)) (ws vs : List Wait) (owed : Owed) (h g : Option Held) → IsAt c b items ws h → vs ≡ other_waits c ws → Settles now h owed g →
    SettlesAt c now b owed (record { places = with_place c g items; waits = vs })
settles_at c now b items ws vs owed h g a gone settles = record {
  held = g;
  settles = subst (λ (k : Option Held). Settles now k owed g) (sym (held_is c b items ws h a)) settles;
  after = put_without c b items ws vs h g a gone;
}

-- it waits
pub begins : (c target now : ℕ) (b : Slots) (items : List (Option Held)) (ws vs us : List Wait) → record { places = items; waits = ws } ≡ b → vs ≡ other_waits c ws →
    us ≡ vs ++ record { connection = c; target = target; since = now } ∷ [] → record { places = items; waits = us } ≡ with_wait c target now b
begins c target now b items ws vs us all gone pushed =
    ap (λ (xs : List Wait). record { places = items; waits = xs }) (pushed ∙ ap (λ (xs : List Wait). xs ++ record { connection = c; target = target; since = now } ∷ []) gone)
    ∙ ap (λ (x : Slots). with_wait c target now x) all

pub owed_inside : (c : ℕ) (b : Slots) (items : List (Option Held)) (ws : List Wait) → record { places = items; waits = ws } ≡ b → IsOwed c b → IsSome (owed_in (place_at c items))
owed_inside c b items ws all owed = subst (λ (x : Slots). IsOwed c x) (sym all) owed

pub fits : (c : ℕ) (b : Slots) (items : List (Option Held)) (ws vs : List Wait) → record { places = items; waits = ws } ≡ b → IsSound (record { places = items; waits = ws }) → IsOwed c b →
    vs ≡ other_waits c ws → length vs < 64
fits c b items ws vs all sound owed gone =
    subst (λ (xs : List Wait). length xs < 64) (sym gone) (wait_fits c (record { places = items; waits = ws }) sound (owed_inside c b items ws all owed))

pub waits_stay : (c target now : ℕ) (b : Slots) (items : List (Option Held)) (ws vs us : List Wait) → record { places = items; waits = ws } ≡ b → IsSound (record { places = items; waits = ws }) → IsOwed c b →
    vs ≡ other_waits c ws → us ≡ vs ++ record { connection = c; target = target; since = now } ∷ [] → IsSound (record { places = items; waits = us })
waits_stay c target now b items ws vs us all sound owed gone pushed =
    subst IsSound (sym (begins c target now (record { places = items; waits = ws }) items ws vs us refl gone pushed))
    (wait_sound c target now (record { places = items; waits = ws }) sound (owed_inside c b items ws all owed))

-- ---- questions

-- the oldest wait of some is of a connection that waits
pub oldest_is : (test : Wait → Bool) (c : ℕ) (b : Slots) (items : List (Option Held)) (ws : List Wait) (r : Option ℕ) → record { places = items; waits = ws } ≡ b → r ≡ oldest test ws → r ≡ Some c →
    IsWaiting c b
oldest_is test c b items ws r all first is =
    subst (λ (x : Slots). IsWaiting c x) all (oldest_waits test c ws (sym first ∙ is))

pub oldest_below : (test : Wait → Bool) (c : ℕ) (items : List (Option Held)) (ws : List Wait) (r : Option ℕ) → IsSound (record { places = items; waits = ws }) → r ≡ oldest test ws → r ≡ Some c → c < 64
oldest_below test c items ws r sound first is = waiting_below c (record { places = items; waits = ws }) sound (oldest_waits test c ws (sym first ∙ is))
