-- Paths and endpoints that are the same, and paths that are kept.
use Rattle.std.proofs.Common.{◌≡◌, ◌+◌, ◌-◌, ◌≤◌, ◌<◌, ℕ, zero, suc, Bool, true, false, List, [], ◌∷◌, ◌++◌, drop, take, get_or, length, refl, ap, sym, ◌∙◌, arith, length-take-le, length-drop}
use Rattle.std.proofs.Math.ListN.{drop_of_length-le}
use Rattle.std.specs.Prelude.{◌&&◌, ◌≢◌, slice_get, slice_range, Some}
use Rattle.std.specs.Str.{bytes_eq}
use Rattle.std.specs.Bool.{Decides}
use Rattle.std.proofs.lemmas.Option.{slice_get-get_or}
use Rattle.std.proofs.lemmas.Slice.Eq.{slice_eq-Decides, bytes_eq-Decides}
use Rattle.coap_msg.specs.declared.endpoint.Endpoint.{Endpoint}
use Rattle.coap_msg.specs.Endpoints.{is_same_endpoint}
use Rattle.coap_msg.proofs.SameEndpoints.{same_endpoint, itself, both}
use Rattle.thing_ops.specs.Segments.{pieces, AreEnds}
use Rattle.coap_blocks.specs.Paths.{is_same_path, path_size}

-- ---- sameness

path_decides : (p q : List (List ℕ)) → Decides (is_same_path p q) (p ≡ q)
path_decides p q = slice_eq-Decides bytes_eq-Decides p q (is_same_path p q) refl

pub same_path : (p q : List (List ℕ)) → is_same_path p q ≡ true → p ≡ q
same_path p q e = (path_decides p q).0 e

pub path_itself : (p : List (List ℕ)) → is_same_path p p ≡ true
path_itself p = (path_decides p p).1 refl

and_true : (b c : Bool) → b ≡ true → c ≡ true → (b && c) ≡ true
and_true true c e h = h
and_true false c e h = absurd cc

-- an endpoint and a path are these
pub same_key : (e f : Endpoint) (p q : List (List ℕ)) → (is_same_endpoint e f && is_same_path p q) ≡ true → (e ≡ f) × (p ≡ q)
same_key e f p q h = let t = both (is_same_endpoint e f) (is_same_path p q) h in (same_endpoint e f t.0, same_path p q t.1)

pub key_itself : (e : Endpoint) (p : List (List ℕ)) → (is_same_endpoint e e && is_same_path p p) ≡ true
key_itself e p = and_true (is_same_endpoint e e) (is_same_path p p) (itself e) (path_itself p)

-- ---- sizes

pub size-append : (p : List (List ℕ)) (s : List ℕ) → path_size (p ++ s ∷ []) ≡ path_size p + (1 + length s)
size-append [] s = omega arith
size-append (x ∷ p) s = omega (arith, size-append p s)

-- a path with a segment more, by the first so many of another one
pub size_within : (p : List (List ℕ)) (i : ℕ) (s : List ℕ) → slice_get p i ≡ Some s → path_size (take i p) + 1 + length s ≤ path_size p
size_within [] i s e = absurd cc
size_within (x ∷ p) zero s e = let same : x ≡ s = cc in omega (arith, ap length same)
size_within (x ∷ p) (suc i) s e = omega (arith, size_within p i s e)

take_suc : (p : List (List ℕ)) (i : ℕ) (s : List ℕ) → slice_get p i ≡ Some s → take (suc i) p ≡ take i p ++ s ∷ []
take_suc [] i s e = absurd cc
take_suc (x ∷ p) zero s e = let same : x ≡ s = cc in ap (λ (y : List ℕ). y ∷ []) same
take_suc (x ∷ p) (suc i) s e = ap (λ (l : List (List ℕ)). x ∷ l) (take_suc p i s e)

pub take_next : (p : List (List ℕ)) (i next : ℕ) (s : List ℕ) → next ≡ i + 1 → slice_get p i ≡ Some s → take next p ≡ take i p ++ s ∷ []
take_next p i next s e there = let one_more : next ≡ suc i = omega (arith, e) in ap (λ (n : ℕ). take n p) one_more ∙ take_suc p i s there

-- as many segments as there are
pub take_past : (p : List (List ℕ)) (i : ℕ) → length p ≤ i → take i p ≡ p
take_past [] zero past = refl
take_past [] (suc i) past = refl
take_past (x ∷ p) zero past = absurd (omega (arith, past))
take_past (x ∷ p) (suc i) past = ap (λ (l : List (List ℕ)). x ∷ l) (take_past p i (omega (arith, past)))

length-range : (bytes : List ℕ) (start end : ℕ) → start ≤ end → end ≤ length bytes → length (slice_range bytes start end) ≡ end - start
length-range bytes start end ordered within = length-take-le (end - start) (drop start bytes) (omega (arith, length-drop start bytes))

-- the size of a path that is kept is the size of its memory
pub size_is_memory : (bytes : List ℕ) (start : ℕ) (ends : List ℕ) → start ≤ length bytes → AreEnds start ends (length bytes)
    → path_size (pieces bytes start ends) + start ≡ length ends + length bytes
size_is_memory bytes start [] within are = omega (arith, are)
size_is_memory bytes start (end ∷ ends) within are =
    let later : end ≤ length bytes = end_within end ends (length bytes) are.1 in
    let rest = size_is_memory bytes end ends later are.1 in
    omega (arith, rest, are.0, length-range bytes start end are.0 later)
  where
    end_within : (s : ℕ) (es : List ℕ) (whole : ℕ) → AreEnds s es whole → s ≤ whole
    end_within s [] whole e = omega (arith, e)
    end_within s (x ∷ es) whole e = omega (arith, e.0, end_within x es whole e.1)

-- there is memory for a further segment
pub room_for : (bytes ends s : List ℕ) (path : List (List ℕ)) → AreEnds 0 ends (length bytes) → pieces bytes 0 ends ≡ path → path_size path + 1 + length s ≤ 1280
    → (length bytes + length s ≤ 1280) × (length ends + 1 ≤ 1280)
room_for bytes ends s path are view size =
    let memory = size_is_memory bytes 0 ends (omega arith) are in
    let same = ap path_size view in
    (omega (arith, memory, same, size), omega (arith, memory, same, size))

-- ---- comparing segment by segment

-- the same from a place on, where both have a segment there
pub same_from : (p q : List (List ℕ)) (i : ℕ) (s t : List ℕ) → slice_get p i ≡ Some s → slice_get q i ≡ Some t
    → is_same_path (drop i p) (drop i q) ≡ (bytes_eq s t && is_same_path (drop (suc i) p) (drop (suc i) q))
same_from [] q i s t e f = absurd cc
same_from (x ∷ p) [] i s t e f = absurd cc
same_from (x ∷ p) (y ∷ q) zero s t e f =
    let left : x ≡ s = cc in
    let right : y ≡ t = cc in
    ap (λ (a : List ℕ). bytes_eq a y && is_same_path p q) left ∙ ap (λ (b : List ℕ). bytes_eq s b && is_same_path p q) right
same_from (x ∷ p) (y ∷ q) (suc i) s t e f = same_from p q i s t e f

-- past the ends of both
pub same_past : (p q : List (List ℕ)) (i : ℕ) → length p ≤ i → length q ≤ i → is_same_path (drop i p) (drop i q) ≡ true
same_past p q i past_p past_q =
    ap (λ (l : List (List ℕ)). is_same_path l (drop i q)) (drop_of_length-le p past_p) ∙ ap (λ (l : List (List ℕ)). is_same_path [] l) (drop_of_length-le q past_q)

-- a segment of a path is there
pub segment_there : (p : List (List ℕ)) (i : ℕ) → i < length p → slice_get p i ≡ Some (get_or p i [])
segment_there p i within = slice_get-get_or p i [] within

-- paths of different lengths differ
differ_at : (p q : List (List ℕ)) (b : Bool) → is_same_path p q ≡ b → length p ≢ length q → b ≡ false
differ_at p q true e h = absurd (h (ap (λ (l : List (List ℕ)). length l) (same_path p q e)))
differ_at p q false e h = refl

pub lengths_differ : (p q : List (List ℕ)) → length p ≢ length q → is_same_path p q ≡ false
lengths_differ p q h = differ_at p q (is_same_path p q) refl h

-- a turn of the comparison
pub turn : (p q : List (List ℕ)) (i next : ℕ) (s : List ℕ) (r : Bool) → next ≡ i + 1 → i < length q → slice_get p i ≡ Some s
    → ((own : List ℕ) → slice_get q i ≡ Some own → r ≡ bytes_eq s own)
    → is_same_path (drop i p) (drop i q) ≡ (r && is_same_path (drop next p) (drop next q))
turn p q i next s r e within there compared =
    let one_more : suc i ≡ next = omega (arith, e) in
    same_from p q i s (get_or q i []) there (segment_there q i within)
    ∙ ap (λ (b : Bool). b && is_same_path (drop (suc i) p) (drop (suc i) q)) (sym (compared (get_or q i []) (segment_there q i within)))
    ∙ ap (λ (n : ℕ). r && is_same_path (drop n p) (drop n q)) one_more
