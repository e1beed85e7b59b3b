-- The front of a stream stays as it is where more bytes come after it, once it is a whole message or a fault.
use Rattle.std.proofs.Common.{◌≡◌, ◌≢◌, ℕ, ◌+◌, ◌-◌, ◌≤◌, ◌&&◌, Bool, true, false, List, [], ◌∷◌, ◌++◌, length, take, drop, refl, sym, ap, subst, ◌∙◌, arith, cond, length-append}
use Rattle.std.specs.Prelude.{Some, None, Result, Ok, Err, nat_le, ◌==◌}
use Rattle.std.proofs.lemmas.Bool.{leb-true, le-leb}
use Rattle.std.proofs.lemmas.List.{take-append-le, drop-append-le}
use Rattle.httparse.specs.Grammar.{RequestHead}
use Rattle.http_wire.specs.Heads.{skipped}
use Rattle.http_fields.specs.Marks.{length_through, empty_line}
use Rattle.http_wire.specs.Judging.{FramedHead, IsJudged, expects}
use Rattle.http_fields.specs.Chunks.{BodyFront, unfinished, faulty, whole}
use Rattle.http_wire.specs.Stream.{Front, IsFront, IsFrontAfter, no_end, one_end, IsSettled, with_body, with_head, without_head, head_length, longest_head, body_front}
use Rattle.http_wire.proofs.MoreBytes.{body_stays}
use Rattle.http_fields.proofs.FoundMarks.{through_first_stays, through_first_within}

-- a front that is settled has a body that is
body_is_settled : (h : RequestHead) (taken : ℕ) (expect : Bool) (b : BodyFront) → IsSettled (with_body h taken expect b) → b ≢ unfinished
body_is_settled h taken expect unfinished settled = absurd settled
body_is_settled h taken expect (faulty status) settled = λ is. cc
body_is_settled h taken expect (whole body used) settled = λ is. cc

with_head_stays : (taken : ℕ) (r : Result FramedHead ℕ) (bytes more : List ℕ) → IsSettled (with_head taken r bytes) →
    with_head taken r (bytes ++ more) ≡ with_head taken r bytes
with_head_stays taken (Err status) bytes more settled = refl
with_head_stays taken (Ok h) bytes more settled =
    ap (with_body h.head taken (expects h.head h.framing))
    (body_stays h.framing bytes more (body_is_settled h.head taken (expects h.head h.framing) (body_front h.framing bytes) settled))

-- a head that doesn't end where it should
without_head_stays : (before : ℕ) (bytes more : List ℕ) (t : Bool) → nat_le longest_head (length bytes) ≡ t → head_length bytes ≡ None →
    IsSettled (without_head bytes) → IsFrontAfter before (bytes ++ more) (without_head bytes)
without_head_stays before bytes more false few none settled = absurd (rw few at settled)
without_head_stays before bytes more true many none settled =
    let all : longest_head ≤ length bytes = leb-true _ _ many in
    let longer : nat_le longest_head (length (bytes ++ more)) ≡ true = le-leb _ _ (omega (arith, all, length-append bytes more)) in
    no_end (ap (length_through empty_line) (take-append-le longest_head bytes more all) ∙ none) (both_without bytes (bytes ++ more) many longer)
  where
    both_without : (old new : List ℕ) → nat_le longest_head (length old) ≡ true → nat_le longest_head (length new) ≡ true → without_head old ≡ without_head new
    both_without old new of_a of_b = rw (of_a, of_b) refl

-- the same where it ends
one_head_stays : (before n : ℕ) (r : Result FramedHead ℕ) (bytes more : List ℕ) (f : Front) → head_length bytes ≡ Some n → IsJudged (take n bytes) r →
    f ≡ with_head (before + n) r (drop n bytes) → IsSettled f → IsFrontAfter before (bytes ++ more) f
one_head_stays before n r bytes more f found judged is settled =
    let bounds = through_first_within empty_line longest_head bytes n found in
    let head : take n (bytes ++ more) ≡ take n bytes = take-append-le n bytes more bounds.within in
    let rest : drop n (bytes ++ more) ≡ drop n bytes ++ more = drop-append-le n bytes more bounds.within in
    one_end n r (through_first_stays empty_line longest_head bytes more n found)
    (subst (λ (xs : List ℕ). IsJudged xs r) (sym head) judged)
    (is
    ∙ sym (with_head_stays (before + n) r (drop n bytes) more (subst IsSettled is settled))
    ∙ ap (with_head (before + n) r) (sym rest))

front_after_stays : (before : ℕ) (bytes more : List ℕ) (f : Front) → IsFrontAfter before bytes f → IsSettled f → IsFrontAfter before (bytes ++ more) f
front_after_stays before bytes more f (no_end none is) settled =
    subst (λ (g : Front). IsFrontAfter before (bytes ++ more) g) (sym is)
    (without_head_stays before bytes more (nat_le longest_head (length bytes)) refl none (subst IsSettled is settled))
front_after_stays before bytes more f (one_end n r found judged is) settled = one_head_stays before n r bytes more f found judged is settled

-- a front that is settled has bytes after the skipped pairs
settled_has_bytes : (bytes : List ℕ) (t : Bool) → nat_le longest_head (length bytes) ≡ t → IsSettled (without_head bytes) → 2 ≤ length bytes
settled_has_bytes bytes false few settled = absurd (rw few at settled)
settled_has_bytes bytes true many settled = let all : longest_head ≤ length bytes = leb-true _ _ many in omega (arith, all)

front_has_bytes : (before : ℕ) (bytes : List ℕ) (f : Front) → IsFrontAfter before bytes f → IsSettled f → 2 ≤ length bytes
front_has_bytes before bytes f (no_end none is) settled = settled_has_bytes bytes (nat_le longest_head (length bytes)) refl (subst IsSettled is settled)
front_has_bytes before bytes f (one_end n r found judged is) settled =
    let bounds = through_first_within empty_line longest_head bytes n found in omega (arith, bounds.long, bounds.within)

-- the pairs in front are the same where two bytes or more come after them
skipped_by : (a b : ℕ) (bytes more : List ℕ) (t : Bool) → (2 ≤ length (skipped bytes) → skipped (bytes ++ more) ≡ skipped bytes ++ more) →
    2 ≤ length (cond t (skipped bytes) (a ∷ b ∷ bytes)) →
    cond t (skipped (bytes ++ more)) (a ∷ b ∷ (bytes ++ more)) ≡ cond t (skipped bytes) (a ∷ b ∷ bytes) ++ more
skipped_by a b bytes more true later two = later two
skipped_by a b bytes more false later two = refl

pub skipped_grows : (bytes more : List ℕ) → 2 ≤ length (skipped bytes) → skipped (bytes ++ more) ≡ skipped bytes ++ more
skipped_grows [] more two = absurd (omega arith)
skipped_grows (a ∷ []) more two = absurd (omega arith)
skipped_grows (a ∷ b ∷ bytes) more two =
    skipped_by a b bytes more ((a == 13) && (b == 10)) (λ later. skipped_grows bytes more later) two

-- the front of a stream that is settled stays as it is
pub front_stays : (bytes more : List ℕ) (f : Front) → IsFront bytes f → IsSettled f → IsFront (bytes ++ more) f
front_stays bytes more f front settled =
    let two = front_has_bytes _ (skipped bytes) f front settled in
    let rest : skipped (bytes ++ more) ≡ skipped bytes ++ more = skipped_grows bytes more two in
    let before : length bytes - length (skipped bytes) ≡ length (bytes ++ more) - length (skipped (bytes ++ more)) =
    omega (arith, ap length rest, length-append bytes more, length-append (skipped bytes) more) in
    subst (λ (n : ℕ). IsFrontAfter n (skipped (bytes ++ more)) f) before
    (subst (λ (xs : List ℕ). IsFrontAfter (length bytes - length (skipped bytes)) xs f) (sym rest)
    (front_after_stays (length bytes - length (skipped bytes)) (skipped bytes) more f front settled))
