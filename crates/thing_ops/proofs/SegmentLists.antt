-- The places of the segments of a path in their bytes.
use Rattle.std.proofs.Common.{◌≡◌, ℕ, zero, suc, ◌+◌, ◌-◌, ◌<◌, ◌≤◌, List, [], ◌∷◌, ◌++◌, length, take, drop, get_or, slice_get, slice_range, Some, None, ◌≢◌, refl, ap, sym, subst, ◌∙◌, arith, length-append, length-drop}
use Rattle.std.proofs.lemmas.List.{take-append-le, drop-append-le}
use Rattle.std.proofs.Math.Seq.{drop-append_seam, take-length}
use Rattle.thing_ops.specs.declared.routing.RouteKind.{RouteKind}
use Rattle.thing_ops.specs.declared.routing.RouteKind.TheVariants as route
use Rattle.thing_ops.specs.Routes.{route_of}
use Rattle.thing_ops.specs.Segments.{pieces, with_longer_last, AreEnds, AreJudged}

-- there are as many as there are ends
pub length-pieces : (bytes : List ℕ) (start : ℕ) (ends : List ℕ) → length (pieces bytes start ends) ≡ length ends
length-pieces bytes start [] = refl
length-pieces bytes start (end ∷ ends) = omega (arith, length-pieces bytes end ends)

-- each begins where the one before it ends
pub piece_at : (bytes : List ℕ) (start : ℕ) (ends : List ℕ) (i : ℕ) → i < length ends → slice_get (pieces bytes start ends) i ≡ Some (slice_range bytes (get_or (start ∷ ends) i 0) (get_or ends i 0))
piece_at bytes start [] i within = absurd (omega arith)
piece_at bytes start (end ∷ ends) zero within = refl
piece_at bytes start (end ∷ ends) (suc i) within = piece_at bytes end ends i (omega arith)

-- the first place is within the bytes
start_within : (start : ℕ) (ends : List ℕ) (whole : ℕ) → AreEnds start ends whole → start ≤ whole
start_within start [] whole are = omega arith
start_within start (end ∷ ends) whole are = omega (arith, are.0, start_within end ends whole are.1)

-- no end is before the end in front of it or after the bytes
pub end_within : (start : ℕ) (ends : List ℕ) (whole i : ℕ) → AreEnds start ends whole → i < length ends → (get_or (start ∷ ends) i 0 ≤ get_or ends i 0) × (get_or ends i 0 ≤ whole)
end_within start [] whole i are within = absurd (omega arith)
end_within start (end ∷ ends) whole zero are within = (are.0, start_within end ends whole are.1)
end_within start (end ∷ ends) whole (suc i) are within = end_within end ends whole i are.1 (omega arith)

-- the place after all bytes is one more end
pub ends_more : (start : ℕ) (ends : List ℕ) (whole more : ℕ) → AreEnds start ends whole → whole ≤ more → AreEnds start (ends ++ more ∷ []) more
ends_more start [] whole more are longer = (omega arith, refl)
ends_more start (end ∷ ends) whole more are longer = (are.0, ends_more end ends whole more are.1 longer)

-- a piece stays where bytes come after it
range_stays : (bytes further : List ℕ) (start end : ℕ) → start ≤ end → end ≤ length bytes → slice_range (bytes ++ further) start end ≡ slice_range bytes start end
range_stays bytes further start end ordered within =
    ap (take (end - start)) (drop-append-le start bytes further (omega arith))
    ∙ take-append-le (end - start) (drop start bytes) further (omega (arith, length-drop start bytes))

-- the bytes that come after all others are a piece
range_after : (bytes further : List ℕ) (start end : ℕ) → start ≡ length bytes → end ≡ length bytes + length further → slice_range (bytes ++ further) start end ≡ further
range_after bytes further start end from to =
    let long : end - start ≡ length further = omega arith in
    ap (λ (n : ℕ). take n (drop start (bytes ++ further))) long
    ∙ ap (λ (n : ℕ). take (length further) (drop n (bytes ++ further))) from
    ∙ ap (take (length further)) (drop-append_seam bytes further)
    ∙ take-length further

-- one more piece
pub pieces_more : (bytes further : List ℕ) (start : ℕ) (ends : List ℕ) (end : ℕ) → AreEnds start ends (length bytes) → end ≡ length bytes + length further → pieces (bytes ++ further) start (ends ++ end ∷ []) ≡ pieces bytes start ends ++ further ∷ []
pieces_more bytes further start [] end are to = ap (λ (piece : List ℕ). piece ∷ []) (range_after bytes further start end are to)
pieces_more bytes further start (first ∷ ends) end are to =
    ap (λ (piece : List ℕ). piece ∷ pieces (bytes ++ further) first (ends ++ end ∷ [])) (range_stays bytes further start first are.0 (start_within first ends (length bytes) are.1))
    ∙ ap (λ (others : List (List ℕ)). slice_range bytes start first ∷ others) (pieces_more bytes further first ends end are.1 to)

-- the place in front of a piece that isn't the first
pub place_before : (ends : List ℕ) (i : ℕ) → 0 < i → get_or ends (i - 1) 0 ≡ get_or (0 ∷ ends) i 0
place_before ends zero some = absurd (omega arith)
place_before ends (suc i) some = let back : suc i - 1 ≡ i = omega arith in ap (λ (n : ℕ). get_or ends n 0) back

-- the last end is the end of the bytes
pub last_is_whole : (start : ℕ) (ends : List ℕ) (last whole : ℕ) → AreEnds start (ends ++ last ∷ []) whole → last ≡ whole
last_is_whole start [] last whole are = are.1
last_is_whole start (end ∷ ends) last whole are = last_is_whole end ends last whole are.1

-- where bytes come after the last piece, its end is later
pub ends_later : (start : ℕ) (ends : List ℕ) (last whole more : ℕ) → AreEnds start (ends ++ last ∷ []) whole → whole ≤ more → AreEnds start (ends ++ more ∷ []) more
ends_later start [] last whole more are longer = (omega (arith, are.0, are.1), refl)
ends_later start (end ∷ ends) last whole more are longer = (are.0, ends_later end ends last whole more are.1 longer)

-- as many elements as there are
take_all : (bytes : List ℕ) (n : ℕ) → length bytes ≡ n → take n bytes ≡ bytes
take_all bytes n long = ap (λ (m : ℕ). take m bytes) (sym long) ∙ take-length bytes

-- a piece up to the end of the bytes, with more bytes after it
range_longer : (bytes more : List ℕ) (start last end : ℕ) → start ≤ last → last ≡ length bytes → end ≡ length bytes + length more → slice_range (bytes ++ more) start end ≡ slice_range bytes start last ++ more
range_longer bytes more start last end ordered whole to =
    let rest : drop start (bytes ++ more) ≡ drop start bytes ++ more = drop-append-le start bytes more (omega arith) in
    let long : length (drop start bytes) ≡ last - start = omega (arith, length-drop start bytes) in
    ap (take (end - start)) rest
    ∙ take_all (drop start bytes ++ more) (end - start) (omega (arith, long, length-append (drop start bytes) more))
    ∙ ap (λ (piece : List ℕ). piece ++ more) (sym (take_all (drop start bytes) (last - start) long))

-- more bytes after the last piece
pub last_longer : (bytes more : List ℕ) (start : ℕ) (ends : List ℕ) (last end : ℕ) → AreEnds start (ends ++ last ∷ []) (length bytes) → end ≡ length bytes + length more → pieces (bytes ++ more) start (ends ++ end ∷ []) ≡ with_longer_last (pieces bytes start (ends ++ last ∷ [])) more
last_longer bytes more start [] last end are to = ap (λ (piece : List ℕ). piece ∷ []) (range_longer bytes more start last end are.0 are.1 to)
last_longer bytes more start (first ∷ []) last end are to =
    ap (λ (piece : List ℕ). piece ∷ pieces (bytes ++ more) first (end ∷ [])) (range_stays bytes more start first are.0 (start_within first (last ∷ []) (length bytes) are.1))
    ∙ ap (λ (others : List (List ℕ)). slice_range bytes start first ∷ others) (last_longer bytes more first [] last end are.1 to)
last_longer bytes more start (first ∷ second ∷ ends) last end are to =
    ap (λ (piece : List ℕ). piece ∷ pieces (bytes ++ more) first ((second ∷ ends) ++ end ∷ [])) (range_stays bytes more start first are.0 (start_within first ((second ∷ ends) ++ last ∷ []) (length bytes) are.1))
    ∙ ap (λ (others : List (List ℕ)). slice_range bytes start first ∷ others) (last_longer bytes more first (second ∷ ends) last end are.1 to)

-- a path of one segment, of two, of three and of four
path_of_one : (path : List (List ℕ)) (first : List ℕ) → length path ≡ 1 → slice_get path 0 ≡ Some first → path ≡ first ∷ []
path_of_one [] first long = absurd (omega arith)
path_of_one (a ∷ []) first long = λ p. cc
path_of_one (a ∷ b ∷ path) first long = absurd (omega arith)

path_of_two : (path : List (List ℕ)) (first second : List ℕ) → length path ≡ 2 → slice_get path 0 ≡ Some first → slice_get path 1 ≡ Some second → path ≡ first ∷ second ∷ []
path_of_two [] first second long = absurd (omega arith)
path_of_two (a ∷ path) first second long = λ p q. cc (path_of_one path second (omega arith) q)

path_of_three : (path : List (List ℕ)) (first second third : List ℕ) → length path ≡ 3 → slice_get path 0 ≡ Some first → slice_get path 1 ≡ Some second → slice_get path 2 ≡ Some third → path ≡ first ∷ second ∷ third ∷ []
path_of_three [] first second third long = absurd (omega arith)
path_of_three (a ∷ path) first second third long = λ p q r. cc (path_of_two path second third (omega arith) q r)

path_of_four : (path : List (List ℕ)) (first second third fourth : List ℕ) → length path ≡ 4 → slice_get path 0 ≡ Some first → slice_get path 1 ≡ Some second → slice_get path 2 ≡ Some third → slice_get path 3 ≡ Some fourth → path ≡ first ∷ second ∷ third ∷ fourth ∷ []
path_of_four [] first second third fourth long = absurd (omega arith)
path_of_four (a ∷ path) first second third fourth long = λ p q r s. cc (path_of_three path second third fourth (omega arith) q r s)

-- the route of a path of one segment, of two, and of four
pub leads_by_one : (kind : RouteKind) (bytes ends : List ℕ) (first : List ℕ) → length ends ≡ 1 → slice_get (pieces bytes 0 ends) 0 ≡ Some first → kind ≡ route_of (first ∷ []) → kind ≡ route_of (pieces bytes 0 ends)
leads_by_one kind bytes ends first long is known =
    known ∙ ap (λ (p : List (List ℕ)). route_of p) (sym (path_of_one (pieces bytes 0 ends) first (length-pieces bytes 0 ends ∙ long) is))

pub leads_by_two : (kind : RouteKind) (bytes ends : List ℕ) (first second : List ℕ) → length ends ≡ 2 → slice_get (pieces bytes 0 ends) 0 ≡ Some first → slice_get (pieces bytes 0 ends) 1 ≡ Some second → kind ≡ route_of (first ∷ second ∷ []) → kind ≡ route_of (pieces bytes 0 ends)
leads_by_two kind bytes ends first second long is also known =
    known ∙ ap (λ (p : List (List ℕ)). route_of p) (sym (path_of_two (pieces bytes 0 ends) first second (length-pieces bytes 0 ends ∙ long) is also))

pub leads_by_four : (kind : RouteKind) (bytes ends : List ℕ) (first second third fourth : List ℕ) → length ends ≡ 4
    → slice_get (pieces bytes 0 ends) 0 ≡ Some first → slice_get (pieces bytes 0 ends) 1 ≡ Some second → slice_get (pieces bytes 0 ends) 2 ≡ Some third → slice_get (pieces bytes 0 ends) 3 ≡ Some fourth
    → kind ≡ route_of (first ∷ second ∷ third ∷ fourth ∷ []) → kind ≡ route_of (pieces bytes 0 ends)
leads_by_four kind bytes ends first second third fourth long is also too last known =
    known ∙ ap (λ (p : List (List ℕ)). route_of p) (sym (path_of_four (pieces bytes 0 ends) first second third fourth (length-pieces bytes 0 ends ∙ long) is also too last))

-- the route of a path of three segments, which the second of them says
of_three : (kind : RouteKind) (path : List (List ℕ)) (second : List ℕ) → length path ≡ 3 → slice_get path 1 ≡ Some second → ((thing name : List ℕ) → kind ≡ route_of (thing ∷ second ∷ name ∷ [])) → kind ≡ route_of path
of_three kind [] second long = absurd (omega arith)
of_three kind (a ∷ []) second long = absurd (omega arith)
of_three kind (a ∷ b ∷ []) second long = absurd (omega arith)
of_three kind (a ∷ b ∷ c ∷ []) second long = λ is known. let same : second ≡ b = cc in known a c ∙ ap (λ (s : List ℕ). route_of (a ∷ s ∷ c ∷ [])) same
of_three kind (a ∷ b ∷ c ∷ d ∷ path) second long = absurd (omega arith)

pub leads_by_kind : (kind : RouteKind) (bytes ends : List ℕ) (second : List ℕ) → length ends ≡ 3 → slice_get (pieces bytes 0 ends) 1 ≡ Some second → ((thing name : List ℕ) → kind ≡ route_of (thing ∷ second ∷ name ∷ [])) → kind ≡ route_of (pieces bytes 0 ends)
leads_by_kind kind bytes ends second long is known = of_three kind (pieces bytes 0 ends) second (length-pieces bytes 0 ends ∙ long) is known

-- no path of no segments or of more than four leads anywhere
nowhere : (path : List (List ℕ)) → length path ≢ 1 → length path ≢ 2 → length path ≢ 3 → length path ≢ 4 → route_of path ≡ route.Nowhere
nowhere [] = λ a b c d. refl
nowhere (first ∷ []) = λ a b c d. absurd (a refl)
nowhere (first ∷ second ∷ []) = λ a b c d. absurd (b refl)
nowhere (first ∷ second ∷ third ∷ []) = λ a b c d. absurd (c refl)
nowhere (first ∷ second ∷ third ∷ fourth ∷ []) = λ a b c d. absurd (d refl)
nowhere (first ∷ second ∷ third ∷ fourth ∷ fifth ∷ path) = λ a b c d. refl

pub leads_nowhere : (bytes ends : List ℕ) → length ends ≢ 1 → length ends ≢ 2 → length ends ≢ 3 → length ends ≢ 4 → route.Nowhere ≡ route_of (pieces bytes 0 ends)
leads_nowhere bytes ends one two three four =
    let long = length-pieces bytes 0 ends in
    sym (nowhere (pieces bytes 0 ends) (λ e. one (sym long ∙ e)) (λ e. two (sym long ∙ e)) (λ e. three (sym long ∙ e)) (λ e. four (sym long ∙ e)))

-- a piece after the last one isn't there
pub no_piece : (path : List (List ℕ)) (i : ℕ) → length path ≤ i → slice_get path i ≡ None
no_piece [] i after = refl
no_piece (piece ∷ path) zero after = absurd (omega arith)
no_piece (piece ∷ path) (suc i) after = no_piece path i (omega arith)

-- ends of the same bytes, as slices show them
pub ends_same : (bytes shown places seen : List ℕ) → shown ≡ bytes → seen ≡ places → AreEnds 0 places (length bytes) → AreEnds 0 seen (length shown)
ends_same bytes shown places seen b e are =
    subst (λ (es : List ℕ). AreEnds 0 es (length shown)) (sym e) (subst (λ (bs : List ℕ). AreEnds 0 places (length bs)) (sym b) are)

-- the route of a path, judged by such slices
pub judged_by : (kind : RouteKind) (bytes shown places seen : List ℕ) → shown ≡ bytes → seen ≡ places → AreEnds 0 places (length bytes) → kind ≡ route_of (pieces shown 0 seen) → AreJudged kind bytes places
judged_by kind bytes shown places seen b e are is = record {
  within = are;
  judged = is ∙ ap (λ (bs : List ℕ). route_of (pieces bs 0 seen)) b ∙ ap (λ (es : List ℕ). route_of (pieces bytes 0 es)) e;
}

-- the ends after a segment more
pub pushed_ends : (bytes segment ends : List ℕ) (end : ℕ) (whole places : List ℕ) → whole ≡ bytes ++ segment → places ≡ ends ++ end ∷ [] → end ≡ length whole → AreEnds 0 ends (length bytes) → AreEnds 0 places (length whole)
pushed_ends bytes segment ends end whole places b e long are =
    subst (λ (es : List ℕ). AreEnds 0 es (length whole)) (sym e)
    (subst (λ (n : ℕ). AreEnds 0 (ends ++ end ∷ []) n) long
    (ends_more 0 ends (length bytes) end are (omega (arith, long, ap (λ (bs : List ℕ). length bs) b, length-append bytes segment))))

-- the ends after more bytes of the last segment
pub longer_ends : (bytes more ends : List ℕ) (last end : ℕ) (whole places : List ℕ) → whole ≡ bytes ++ more → places ≡ ends ++ end ∷ [] → end ≡ length whole → AreEnds 0 (ends ++ last ∷ []) (length bytes) → AreEnds 0 places (length whole)
longer_ends bytes more ends last end whole places b e long are =
    subst (λ (es : List ℕ). AreEnds 0 es (length whole)) (sym e)
    (subst (λ (n : ℕ). AreEnds 0 (ends ++ end ∷ []) n) long
    (ends_later 0 ends last (length bytes) end are (omega (arith, long, ap (λ (bs : List ℕ). length bs) b, length-append bytes more))))
