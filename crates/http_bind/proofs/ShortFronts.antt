-- Bounds on what is at the front of a stream.
use Rattle.std.proofs.Common.{◌≡◌, ℕ, ◌+◌, ◌<◌, ◌≤◌, Bool, true, false, List, length, take, drop, refl, sym, subst, arith, cond, length-drop, length-take}
use Rattle.std.specs.Prelude.{Some, Result, Ok, Err, not, nat_le, nat_lt, codes}
use Rattle.std.proofs.lemmas.Bool.{leb-false, ltb-false}
use Rattle.http_fields.specs.declared.framing.Framing.{Framing}
use Rattle.http_fields.specs.declared.framing.Framing.TheVariants as framing
use Rattle.std.specs.Str.{str_eq_ignore_ascii_case}
use Rattle.std.specs.Str.Parse.{digits_value}
use Rattle.httparse.specs.Grammar.{RequestHead}
use Rattle.http_wire.specs.Heads.{is_newer, lines_of}
use Rattle.http_fields.specs.Marks.{empty_line}
use Rattle.http_fields.specs.Fields.{Standing, absent, once, often, said_by}
use Rattle.http_wire.specs.Judging.{FramedHead, with_framing, IsJudged, too_many_lines, bare_line_end, no_head, one_head, expects, longest_body, has_right_counts, fields_judged}
use Rattle.http_fields.specs.Framings.{IsBounded, is_length, framing_by}
use Rattle.http_fields.specs.Chunks.{BodyFront, unfinished, faulty, whole, chunks}
use Rattle.http_wire.specs.Stream.{short, fault, IsFrontAfter, no_end, one_end, with_body, with_head, longest_head, longest_coded, head_length, body_front, within_longest}
use Rattle.http_fields.proofs.FoundMarks.{is_through}

-- ---- how a head is judged

stated_bounded : (t u : Bool) (n a b : ℕ) (f : Framing) (r : Result Framing ℕ) → nat_lt longest_body n ≡ u →
    r ≡ cond t (Err a) (cond u (Err b) (Ok (framing.Stated n))) → r ≡ Ok f → IsBounded longest_body f
stated_bounded true u n a b f r long is ok = absurd cc
stated_bounded false true n a b f r long is ok = absurd cc
stated_bounded false false n a b f r long is ok =
    let same : f ≡ framing.Stated n = cc in
    subst (IsBounded longest_body) (sym same) (ltb-false _ _ long)

coded_bounded : (t u : Bool) (a b : ℕ) (f : Framing) (r : Result Framing ℕ) → r ≡ cond t (Err a) (cond u (Ok framing.Chunked) (Err b)) → r ≡ Ok f → IsBounded longest_body f
coded_bounded true u a b f r is ok = absurd cc
coded_bounded false true a b f r is ok = let same : f ≡ framing.Chunked = cc in subst (IsBounded longest_body) (sym same) tt
coded_bounded false false a b f r is ok = absurd cc

framing_bounded : (newer : Bool) (ls cs : Standing) (f : Framing) → Ok f ≡ framing_by longest_body newer ls cs → IsBounded longest_body f
framing_bounded newer absent absent f is = let same : f ≡ framing.Stated 0 = cc in subst (IsBounded longest_body) (sym same) (omega arith)
framing_bounded newer absent (once v) f is = coded_bounded (not newer) (str_eq_ignore_ascii_case v (codes "chunked")) 400 501 f (Ok f) is refl
framing_bounded newer absent often f is = absurd cc
framing_bounded newer (once v) absent f is = stated_bounded (not (is_length v)) (nat_lt longest_body (digits_value 10 v)) (digits_value 10 v) 400 413 f (Ok f) refl is refl
framing_bounded newer (once v) (once w) f is = absurd cc
framing_bounded newer (once v) often f is = absurd cc
framing_bounded newer often absent f is = absurd cc
framing_bounded newer often (once w) f is = absurd cc
framing_bounded newer often often f is = absurd cc

fields_bounded : (t : Bool) (r : Result Framing ℕ) (f : Framing) → (Ok f ≡ r → IsBounded longest_body f) → Ok f ≡ cond t r (Err 400) → IsBounded longest_body f
fields_bounded true r f by is = by is
fields_bounded false r f by is = absurd cc

framed_bounded : (k : RequestHead) (h : FramedHead) (r : Result Framing ℕ) → ((f : Framing) → Ok f ≡ r → IsBounded longest_body f) → Ok h ≡ with_framing k r → IsBounded longest_body h.framing
framed_bounded k h (Err status) by is = absurd cc
framed_bounded k h (Ok f) by is =
    let same : h ≡ record { head = k; framing = f } = cc in
    subst (λ (x : FramedHead). IsBounded longest_body x.framing) (sym same) (by f refl)

judged_bounded : (head : List ℕ) (h : FramedHead) → IsJudged head (Ok h) → IsBounded longest_body h.framing
judged_bounded head h (too_many_lines many is) = absurd cc
judged_bounded head h (bare_line_end few bare is) = absurd cc
judged_bounded head h (no_head few paired none is) = absurd cc
judged_bounded head h (one_head k few paired one is) =
    let said = said_by (lines_of k) in
    framed_bounded k h (fields_judged (is_newer k) said)
    (λ f. fields_bounded (has_right_counts (is_newer k) said) _ f (framing_bounded (is_newer k) said.content_length said.transfer_encoding f)) is

-- ---- a message that isn't whole has fewer bytes than one may have

stated_short : (n : ℕ) (bytes : List ℕ) (t : Bool) → nat_le n (length bytes) ≡ t → cond t (whole (take n bytes) n) unfinished ≡ unfinished → length bytes < n
stated_short n bytes true long is = absurd cc
stated_short n bytes false long is = leb-false _ _ long

coded_short : (bytes : List ℕ) (t : Bool) (r : BodyFront) → nat_le longest_coded (length bytes) ≡ t → within_longest bytes r ≡ unfinished → length bytes < longest_coded
coded_short bytes true unfinished long is = absurd (faulty_isnt (rw long at is))
  where
    faulty_isnt : faulty 413 ≡ unfinished → ⊥
    faulty_isnt is = cc
coded_short bytes false unfinished long is = leb-false _ _ long
coded_short bytes t (faulty status) long is = absurd cc
coded_short bytes t (whole body used) long is = absurd cc

body_short : (f : Framing) (bytes : List ℕ) → IsBounded longest_body f → body_front f bytes ≡ unfinished → length bytes < longest_coded
body_short (framing.Stated n) bytes bound is = let few = stated_short n bytes (nat_le n (length bytes)) refl is in omega (arith, few, bound)
body_short framing.Chunked bytes bound is = coded_short bytes (nat_le longest_coded (length bytes)) (chunks longest_body 0 0 (take longest_coded bytes)) refl is

with_body_short : (h : RequestHead) (taken : ℕ) (e : Bool) (b : BodyFront) (expect : Bool) → short expect ≡ with_body h taken e b → b ≡ unfinished
with_body_short h taken e unfinished expect is = refl
with_body_short h taken e (faulty status) expect is = absurd cc
with_body_short h taken e (whole body used) expect is = absurd cc

-- a head that ends, ends within the bytes that it may have
pub record EndsWithin (bytes : List ℕ) (n : ℕ) : Type 0 where
  pub few : n ≤ longest_head
  pub within : n ≤ length bytes

pub head_within : (bytes : List ℕ) (n : ℕ) → head_length bytes ≡ Some n → EndsWithin bytes n
head_within bytes n found =
    let through = is_through empty_line (take longest_head bytes) n found in
    record { few = omega (arith, through.within, length-take longest_head bytes); within = omega (arith, through.within, length-take longest_head bytes) }

none_short : (bytes : List ℕ) (t : Bool) (expect : Bool) → nat_le longest_head (length bytes) ≡ t → short expect ≡ cond t (fault 431 false) (short false) → length bytes < longest_head
none_short bytes true expect long is = absurd cc
none_short bytes false expect long is = leb-false _ _ long

headed_short : (bytes : List ℕ) (taken n : ℕ) (r : Result FramedHead ℕ) (expect : Bool) → EndsWithin bytes n → IsJudged (take n bytes) r →
    short expect ≡ with_head taken r (drop n bytes) → length bytes < 28672
headed_short bytes taken n (Err status) expect ends judged is = absurd cc
headed_short bytes taken n (Ok h) expect ends judged is =
    let open_body = with_body_short h.head taken (expects h.head h.framing) (body_front h.framing (drop n bytes)) expect is in
    let few = body_short h.framing (drop n bytes) (judged_bounded (take n bytes) h judged) open_body in
    omega (arith, few, ends.few, ends.within, length-drop n bytes)

-- A message that isn't whole has fewer bytes than a head and a body may have.
pub short_front : (before : ℕ) (bytes : List ℕ) (expect : Bool) → IsFrontAfter before bytes (short expect) → length bytes < 28672
short_front before bytes expect (no_end none is) = let few = none_short bytes (nat_le longest_head (length bytes)) expect refl is in omega (arith, few)
short_front before bytes expect (one_end n r found judged is) = headed_short bytes (before + n) n r expect (head_within bytes n found) judged is
