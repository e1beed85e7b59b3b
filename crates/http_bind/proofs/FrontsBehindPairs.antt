-- The front of a stream, and that of what is left of it without the CR LF pairs in front.
use Rattle.std.proofs.Common.{◌≡◌, ℕ, ◌+◌, ◌-◌, ◌&&◌, Bool, true, false, List, length, drop, refl, sym, ap, subst, ◌∙◌, arith, cond}
use Rattle.std.specs.Prelude.{Some, None, Result, Ok, Err, not, nat_le}
use Rattle.thing_ops.specs.Requests.{RequestSeen}
use Rattle.httparse.specs.Grammar.{RequestHead}
use Rattle.http_wire.specs.Heads.{skipped}
use Rattle.http_wire.specs.Judging.{FramedHead, expects}
use Rattle.http_fields.specs.Chunks.{BodyFront, unfinished, faulty, whole}
use Rattle.http_wire.specs.Stream.{plain_head_of, Front, short, message, fault, IsFront, IsFrontAfter, no_end, one_end, with_body, with_head, longest_head, body_front}
use Rattle.http_bind.specs.Streams.{asks, wants_continue, is_faulty, to_take, bytes_used, asks_to_close}
use Rattle.http_bind.proofs.Skipping.{skipped_twice}

-- a front after n bytes more
pub later : ℕ → Front → Front
later d (short expect) = short expect
later d (message head body used expect) = message head body (d + used) expect
later d (fault status expect) = fault status expect

body_later : (d : ℕ) (h : RequestHead) (n : ℕ) (expect : Bool) (b : BodyFront) → with_body h (d + n) expect b ≡ later d (with_body h n expect b)
unfolding later
body_later d h n expect unfinished = refl
body_later d h n expect (faulty status) = refl
body_later d h n expect (whole body used) =
    let sum : d + n + used ≡ d + (n + used) = omega arith in ap (λ (k : ℕ). message (plain_head_of h) body k expect) sum

head_later : (d n : ℕ) (r : Result FramedHead ℕ) (bytes : List ℕ) → with_head (d + n) r bytes ≡ later d (with_head n r bytes)
unfolding later
head_later d n (Err status) bytes = refl
head_later d n (Ok h) bytes = body_later d h.head n (expects h.head h.framing) (body_front h.framing bytes)

none_by : (d : ℕ) (t : Bool) → cond t (fault 431 false) (short false) ≡ later d (cond t (fault 431 false) (short false))
unfolding later
none_by d true = refl
none_by d false = refl

front_later : (d before : ℕ) (bytes : List ℕ) (f : Front) → IsFrontAfter before bytes f → IsFrontAfter (d + before) bytes (later d f)
front_later d before bytes f (no_end none is) = no_end none (ap (later d) is ∙ sym (none_by d (nat_le longest_head (length bytes))))
front_later d before bytes f (one_end n r found judged is) =
    let sum : d + (before + n) ≡ d + before + n = omega arith in
    one_end n r found judged
    (ap (later d) is ∙ sym (head_later d (before + n) r (drop n bytes)) ∙ ap (λ (k : ℕ). with_head k r (drop n bytes)) sum)

-- The front without the pairs is the front of the stream, after them.
pub front_of_all : (all : List ℕ) (f : Front) → IsFront (skipped all) f → IsFront all (later (length all - length (skipped all)) f)
front_of_all all f front =
    let d : ℕ = length all - length (skipped all) in
    let same : skipped (skipped all) ≡ skipped all = skipped_twice all in
    let alone : IsFrontAfter (length (skipped all) - length (skipped all)) (skipped all) f =
    subst (λ (xs : List ℕ). IsFrontAfter (length (skipped all) - length xs) xs f) same front in
    let none : d + (length (skipped all) - length (skipped all)) ≡ d = omega arith in
    subst (λ (k : ℕ). IsFrontAfter k (skipped all) (later d f)) none (front_later d _ (skipped all) f alone)

-- the same can be taken there
pub to_take_later : (d : ℕ) (continued : Bool) (f : Front) → to_take continued (later d f) ≡ to_take continued f
unfolding later
to_take_later d continued (short expect) = refl
to_take_later d continued (message head body used expect) = refl
to_take_later d continued (fault status expect) = refl

pub closes_later : (d : ℕ) (f : Front) → asks_to_close (later d f) ≡ asks_to_close f
unfolding later
closes_later d (short expect) = refl
closes_later d (message head body used expect) = refl
closes_later d (fault status expect) = refl

isnt_asked : (t : Bool) (q : RequestSeen) → cond t (Some wants_continue) None ≡ Some (asks q) → ⊥
isnt_asked true q is = cc
isnt_asked false q is = cc

isnt_asked_of_fault : (t : Bool) (status : ℕ) (q : RequestSeen) → cond t (Some wants_continue) (Some (is_faulty status)) ≡ Some (asks q) → ⊥
isnt_asked_of_fault true status q is = cc
isnt_asked_of_fault false status q is = cc

-- and a message takes those bytes as well
pub used_later : (d : ℕ) (continued : Bool) (f : Front) (q : RequestSeen) → to_take continued f ≡ Some (asks q) → bytes_used (later d f) ≡ d + bytes_used f
unfolding later
used_later d continued (short expect) q is = absurd (isnt_asked (expect && not continued) q is)
used_later d continued (message head body used expect) q is = refl
used_later d continued (fault status expect) q is = absurd (isnt_asked_of_fault (expect && not continued) status q is)
