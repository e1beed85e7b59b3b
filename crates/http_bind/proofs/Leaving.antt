-- Each call that takes something of a connection leaves less to take.
use Rattle.std.proofs.Common.{◌≡◌, ℕ, ◌<◌, ◌≤◌, ◌+◌, ◌⊎◌, inl, inr, Bool, true, false, List, [], ◌∷◌, length, take, drop, refl, sym, ap, subst, ◌∙◌, arith}
use Rattle.std.specs.Prelude.{Option, Some, None, Result, Ok, Err, is_some, IsSome, option_map, unwrap_or, not, ◌&&◌, nat_eq, nat_le, if◌then◌else◌}
use Rattle.std.specs.List.{starts_with}
use Rattle.std.proofs.lemmas.List.{length-drop}
use Rattle.httparse.specs.Grammar.{RequestHead}
use Rattle.http_wire.specs.Heads.{skipped}
use Rattle.http_fields.specs.Marks.{length_through, empty_line}
use Rattle.http_fields.specs.Chunks.{BodyFront, unfinished, faulty, whole}
use Rattle.http_wire.specs.Stream.{Front, short, message, fault, IsFrontAfter, no_end, one_end, with_body, with_head, without_head, body_front, longest_head}
use Rattle.http_wire.specs.Judging.{FramedHead, expects}
use Rattle.http_wire.specs.Reading.{asked}
use Rattle.thing_ops.specs.Requests.{RequestSeen}
use Rattle.http_bind.specs.declared.looking.HeldFront.{HeldFront}
use Rattle.http_bind.specs.declared.looking.HeldFront.TheVariants as seen
use Rattle.http_bind.specs.declared.next.HttpNext.{HttpNext}
use Rattle.http_bind.specs.declared.next.HttpNext.TheVariants as next
use Rattle.http_bind.specs.Streams.{asks, wants_continue, found, read_as, bytes_used, expected, other_waits}
use Rattle.http_bind.specs.declared.waits.Wait.{Wait}
use Rattle.http_bind.specs.Shown.{FindsBehind, PassesBy, Lends, after_finding, waits_after}
use Rattle.http_bind.specs.Slots.{Held, Slots, place_at, held_at, without_pairs, owed_in, HasRoomFor, IsOwed, IsSound, left_in, left_at}
use Rattle.http_bind.specs.Given.{LeavesLess}
use Rattle.http_bind.proofs.Giving.{Took, both}
use Rattle.http_bind.proofs.Sound.{place_after, left_sound, kept_sound}

-- ---- a message has bytes

mark_length : (mark bytes : List ℕ) (n : ℕ) → length_through mark bytes ≡ Some n → length mark ≤ n
mark_length mark [] n is = absurd (cc)
mark_length mark (b ∷ bytes) n is = here (starts_with nat_eq (b ∷ bytes) mark) (mark_length mark bytes) is
  where
    behind : (f : Option ℕ) → ((m : ℕ) → f ≡ Some m → length mark ≤ m) → option_map (λ m. m + 1) f ≡ Some n → length mark ≤ n
    behind None further is = absurd (cc)
    behind (Some m) further is = omega (arith, further m refl, ap (λ (o : Option ℕ). unwrap_or o 0) is)

    here : (t : Bool) → ((m : ℕ) → length_through mark bytes ≡ Some m → length mark ≤ m) → (if t then Some (length mark) else option_map (λ m. m + 1) (length_through mark bytes)) ≡ Some n → length mark ≤ n
    here true further is = omega (arith, ap (λ (o : Option ℕ). unwrap_or o 0) is)
    here false further is = behind (length_through mark bytes) further is

-- a whole message takes some
abbrev TakesSome : Front → Type 0
TakesSome (short expect) = Unit {0}
TakesSome (message head body used expect) = 0 < used
TakesSome (fault status expect) = Unit {0}

body_takes : (h : RequestHead) (taken : ℕ) (expect : Bool) (b : BodyFront) → 0 < taken → TakesSome (with_body h taken expect b)
body_takes h taken expect unfinished some = tt
body_takes h taken expect (faulty status) some = tt
body_takes h taken expect (whole body used) some = omega (arith, some)

head_takes : (taken : ℕ) (r : Result FramedHead ℕ) (bytes : List ℕ) → 0 < taken → TakesSome (with_head taken r bytes)
head_takes taken (Err status) bytes some = tt
head_takes taken (Ok h) bytes some = body_takes h.head taken (expects h.head h.framing) (body_front h.framing bytes) some

none_takes : (bytes : List ℕ) → TakesSome (without_head bytes)
none_takes bytes = either (nat_le longest_head (length bytes))
  where
    either : (t : Bool) → TakesSome (if t then fault 431 false else short false)
    either true = tt
    either false = tt

front_takes : (before : ℕ) (bytes : List ℕ) (f : Front) → IsFrontAfter before bytes f → TakesSome f
front_takes before bytes f (no_end none is) = subst TakesSome (sym is) (none_takes bytes)
front_takes before bytes f (one_end n r some judged is) =
    subst TakesSome (sym is) (head_takes (before + n) r (drop n bytes) (omega (arith, mark_length empty_line (take longest_head bytes) n some)))

-- only a message asks
asks_take : (t : Bool) (f : Front) (q : RequestSeen) → TakesSome f → (if t then Some wants_continue else found f) ≡ Some (asks q) → 0 < bytes_used f
asks_take true f q some is = absurd (cc)
asks_take false (short expect) q some is = absurd (cc)
asks_take false (message head body used expect) q some is = some
asks_take false (fault status expect) q some is = absurd (cc)

-- ---- what is left

skipped_few : (bytes : List ℕ) → length (skipped bytes) ≤ length bytes
skipped_few [] = omega arith
skipped_few (a ∷ []) = omega arith
skipped_few (a ∷ b ∷ bytes) = either _ (skipped_few bytes)
  where
    either : (t : Bool) → length (skipped bytes) ≤ length bytes → length (if t then skipped bytes else a ∷ b ∷ bytes) ≤ length (a ∷ b ∷ bytes)
    either true few = omega (arith, few)
    either false few = omega arith

-- less is left after what was found, if it is no fault
abbrev FindsLess : HeldFront → ℕ → ℕ → Type 0
FindsLess seen.Nothing before after = Unit {0}
FindsLess seen.Interrupted before after = after < before
FindsLess seen.Continue before after = after < before
FindsLess (seen.Fault status) before after = after ≤ before
FindsLess (seen.Message step parts) before after = after < before

-- a 100 reply was found where none was sent
never_found : (f : Front) → found f ≡ Some wants_continue → ⊥
never_found (short expect) is = absurd (cc)
never_found (message head body used expect) is = read (asked head body) is
  where
    read : (o : Option RequestSeen) → Some (read_as o) ≡ Some wants_continue → ⊥
    read None same = absurd (cc)
    read (Some q) same = absurd (cc)
never_found (fault status expect) is = absurd (cc)

not_sent : (e c : Bool) (f : Front) → (if e && not c then Some wants_continue else found f) ≡ Some wants_continue → c ≡ false
not_sent true true f is = absurd (never_found f is)
not_sent true false f is = refl
not_sent false c f is = absurd (never_found f is)

one_more : (c : Bool) → c ≡ false → 2 ≤ (if c then 1 else 2)
one_more false is = omega arith
one_more true is = absurd (cc)

at_least : (c : Bool) → 1 ≤ (if c then 1 else 2)
at_least true = omega arith
at_least false = omega arith

-- where a reply is owed, a connection that is given up had something left
behind_less : (h : Held) (what : HeldFront) (after : Option Held) (rest : List ℕ) → FindsBehind rest h what after → FindsLess what (left_in (Some h)) (left_in after)
behind_less h what after [] finds = subst (λ (w : HeldFront). FindsLess w (left_in (Some h)) (left_in after)) (sym finds.0) tt
behind_less h what after (b ∷ bytes) finds =
    let some = at_least h.continued in
    subst (λ (w : HeldFront). FindsLess w (left_in (Some h)) (left_in after)) (sym finds.0)
    (subst (λ (a : Option Held). left_in a < left_in (Some h)) (sym finds.1) (omega (arith, some)))

passes_less : (t : Bool) (old : Option Held) (what : HeldFront) (after : Option Held) (room : List ℕ) → PassesBy t old what after room → FindsLess what (left_in old) (left_in after)
passes_less true None what after room p = absurd p
passes_less true (Some h) what after room p = behind_less h what after h.rest p
passes_less false None what after room p = subst (λ (w : HeldFront). FindsLess w (left_in None) (left_in after)) (sym p.0) tt
passes_less false (Some h) seen.Nothing after room p = tt
passes_less false (Some h) seen.Interrupted after room p = absurd p.0.2
passes_less false (Some h) seen.Continue after room p =
    subst (λ (a : Option Held). left_in a < left_in (Some h)) (sym p.2)
    (omega (arith, skipped_few h.rest, one_more h.continued (not_sent (expected p.0.0) h.continued p.0.0 p.0.2)))
passes_less false (Some h) (seen.Fault status) after room p =
    subst (λ (a : Option Held). left_in a ≤ left_in (Some h)) (sym p.2) (omega (arith, skipped_few h.rest))
passes_less false (Some h) (seen.Message step parts) after room p =
    let least = at_least h.continued in
    let f = p.0.0 in
    let fits = p.0.2 in
    let some : 0 < step.used = subst (λ (n : ℕ). 0 < n) (sym fits.2.used) (asks_take (expected f && not h.continued) f fits.0 (front_takes _ _ f p.0.1) fits.1) in
    subst (λ (a : Option Held). left_in a < left_in (Some h)) (sym p.2)
    (omega (arith, some, least, p.1, skipped_few h.rest, length-drop step.used (skipped h.rest)))

-- the answer is what was found
given_less : (what : HeldFront) (room : List ℕ) (given : HttpNext) (before after : ℕ) → Lends what room given → FindsLess what before after → LeavesLess given before after
given_less seen.Nothing room given before after lends less = subst (λ (g : HttpNext). LeavesLess g before after) (sym lends) tt
given_less seen.Interrupted room given before after lends less = subst (λ (g : HttpNext). LeavesLess g before after) (sym lends) less
given_less seen.Continue room given before after lends less = subst (λ (g : HttpNext). LeavesLess g before after) (sym lends) less
given_less (seen.Fault status) room given before after lends less = subst (λ (g : HttpNext). LeavesLess g before after) (sym lends) less
given_less (seen.Message step None) room given before after lends less = subst (λ (g : HttpNext). LeavesLess g before after) (sym lends) less
given_less (seen.Message step (Some p)) room next.Idle before after lends less = absurd lends
given_less (seen.Message step (Some p)) room next.Continue before after lends less = absurd lends
given_less (seen.Message step (Some p)) room (next.Ask request) before after lends less = less
given_less (seen.Message step (Some p)) room (next.Refuse status) before after lends less = absurd lends
given_less (seen.Message step (Some p)) room next.Memory before after lends less = absurd lends
given_less (seen.Message step (Some p)) room next.Close before after lends less = absurd lends

-- Taking leaves less.
pub takes_less : (c : ℕ) (b d : Slots) (what : HeldFront) (room : List ℕ) (given : HttpNext) → Took c b d what room → Lends what room given →
    LeavesLess given (left_at c b) (left_at c d)
takes_less c b d what room given took lends =
    given_less what room given (left_at c b) (left_at c d) lends
    (subst (λ (e : List (Option Held)). FindsLess what (left_at c b) (left_in (place_at c e))) (sym took.takes.2)
    (subst (λ (h : Option Held). FindsLess what (left_at c b) (left_in h)) (sym (place_after c b.places took.takes.0 (omega (arith, took.within, took.sound.count))))
    (passes_less (is_some (owed_in (place_at c b.places))) (place_at c b.places) what took.takes.0 room took.takes.1)))

-- ---- no more is held

-- taking leaves no more bytes
rest_less : (t : Bool) (old : Option Held) (what : HeldFront) (after : Option Held) (room : List ℕ) → PassesBy t old what after room → HasRoomFor 0 old → HasRoomFor 0 after
rest_less true None what after room p few = absurd p
rest_less true (Some h) what after room p few = behind h.rest p
  where
    behind : (rest : List ℕ) → FindsBehind rest h what after → HasRoomFor 0 after
    behind [] finds = subst (HasRoomFor 0) (sym finds.1) few
    behind (b ∷ bytes) finds = subst (HasRoomFor 0) (sym finds.1) tt
rest_less false None what after room p few = subst (HasRoomFor 0) (sym p.1) tt
rest_less false (Some h) what after room p few = subst (HasRoomFor 0) (sym p.2) (found what)
  where
    found : (w : HeldFront) → HasRoomFor 0 (Some (after_finding w (without_pairs h)))
    found seen.Nothing = omega (arith, few, skipped_few h.rest)
    found seen.Interrupted = omega (arith, few, skipped_few h.rest)
    found seen.Continue = omega (arith, few, skipped_few h.rest)
    found (seen.Fault status) = omega (arith, few, skipped_few h.rest)
    found (seen.Message step parts) = omega (arith, few, skipped_few h.rest, length-drop step.used (skipped h.rest))

isnt_true : (t : Bool) → t ≡ false → t ≡ true → ⊥
isnt_true t no_one one = cc

-- unless it was interrupted, a connection is owed a reply if it was
owed_after : (t : Bool) (old : Option Held) (what : HeldFront) (after : Option Held) (room : List ℕ) → is_some (owed_in old) ≡ t → PassesBy t old what after room →
    (what ≡ seen.Interrupted) ⊎ (IsSome (owed_in old) → IsSome (owed_in after))
owed_after true None what after room owed p = absurd p
owed_after true (Some h) what after room owed p = behind h.rest p
  where
    behind : (rest : List ℕ) → FindsBehind rest h what after → (what ≡ seen.Interrupted) ⊎ (IsSome (owed_in (Some h)) → IsSome (owed_in after))
    behind [] finds = inr (λ some. subst (λ (k : Option Held). IsSome (owed_in k)) (sym finds.1) some)
    behind (b ∷ bytes) finds = inl finds.0
owed_after false old what after room owed p = inr (λ some. absurd (isnt_true (is_some (owed_in old)) owed some))

either_waits : (c : ℕ) (ws : List Wait) (what : HeldFront) → (waits_after what c ws ≡ ws) ⊎ (waits_after what c ws ≡ other_waits c ws)
either_waits c ws seen.Nothing = inl refl
either_waits c ws seen.Interrupted = inr refl
either_waits c ws seen.Continue = inl refl
either_waits c ws (seen.Fault status) = inl refl
either_waits c ws (seen.Message step parts) = inl refl

sound_without : (c : ℕ) (b d : Slots) (what : HeldFront) (room : List ℕ) (took : Took c b d what room) → HasRoomFor 0 took.takes.0 → waits_after what c b.waits ≡ other_waits c b.waits → IsSound d
sound_without c b d what room took few gone =
    subst IsSound (sym (both c b d took.takes.0 (other_waits c b.waits) took.takes.2 (took.waits ∙ gone))) (left_sound c took.takes.0 b took.sound few)

-- the invariant of the connections stays
pub sound_taking : (c : ℕ) (b d : Slots) (what : HeldFront) (room : List ℕ) → Took c b d what room → IsSound d
sound_taking c b d what room took = by (owed_after (is_some (owed_in (held_at c b))) (held_at c b) what took.takes.0 room refl took.takes.1) (either_waits c b.waits what)
  where
    few : HasRoomFor 0 took.takes.0
    few = rest_less (is_some (owed_in (held_at c b))) (held_at c b) what took.takes.0 room took.takes.1 (took.sound.bounded c)

    by : (what ≡ seen.Interrupted) ⊎ (IsOwed c b → IsSome (owed_in took.takes.0)) → (waits_after what c b.waits ≡ b.waits) ⊎ (waits_after what c b.waits ≡ other_waits c b.waits) → IsSound d
    by (inl is) waits = sound_without c b d what room took few (ap (λ (w : HeldFront). waits_after w c b.waits) is)
    by (inr owed) (inl same) =
        subst IsSound (sym (both c b d took.takes.0 b.waits took.takes.2 (took.waits ∙ same))) (kept_sound c took.takes.0 b took.sound few owed)
    by (inr owed) (inr gone) = sound_without c b d what room took few gone
