-- The requests of a stream, one after another.
use Rattle.std.proofs.Common.{◌≡◌, ℕ, zero, suc, ◌+◌, ◌-◌, ◌≤◌, ◌&&◌, Bool, true, false, List, [], ◌∷◌, ◌++◌, length, take, drop, refl, sym, ap, subst, ◌∙◌, arith, cond, length-append}
use Rattle.std.specs.Prelude.{Option, Some, None, Result, Ok, Err, not, nat_le, nat_lt, nat_eq}
use Rattle.std.specs.List.{starts_with}
use Rattle.std.proofs.lemmas.Bool.{leb-true}
use Rattle.std.proofs.lemmas.List.{drop-append-le, length-drop, length-take, drop-drop}
use Rattle.thing_ops.specs.Requests.{RequestSeen}
use Rattle.http_fields.specs.declared.framing.Framing.{Framing}
use Rattle.http_fields.specs.declared.framing.Framing.TheVariants as framing
use Rattle.http_fields.specs.declared.chunks.Chunk.{Chunk}
use Rattle.http_fields.specs.declared.chunks.Chunk.TheVariants as chunk
use Rattle.httparse.specs.Grammar.{RequestHead}
use Rattle.http_wire.specs.Heads.{skipped}
use Rattle.http_fields.specs.Marks.{empty_line, line_end, length_through}
use Rattle.http_wire.specs.Judging.{FramedHead, expects, longest_body}
use Rattle.http_fields.specs.Chunks.{BodyFront, unfinished, faulty, whole, chunks, chunk_at, lined_chunk, sized_chunk, chunk_size, trailers_to, data_before, follow, with_chunk}
use Rattle.http_wire.specs.Stream.{Front, short, message, fault, IsFront, IsFrontAfter, no_end, one_end, IsSettled, with_body, with_head, longest_head, longest_coded, body_front, within_longest}
use Rattle.http_fields.proofs.FoundMarks.{is_through}
use Rattle.http_wire.proofs.MoreOfAStream.{front_stays}
use Rattle.http_wire.proofs.OneFront.{at_most_one_front}
use Rattle.http_bind.specs.declared.owed.Owed.{Owed}
use Rattle.http_bind.specs.Streams.{Connection, rest_of, Taken, asks, wants_continue, is_faulty, expected, found, bytes_used, after_taking, LetsTake, takes_front, is_interrupted, IsSpent}
use Rattle.http_bind.specs.Cutting.{IsFirst, AreFirst, IsNoRequest, EndsThere, HasTaken, at_opening, with_piece, with_request, with_continue, with_fault, with_reply, TakesTheFirst, TakesAll, HasOneList}
use Rattle.http_bind.proofs.Skipping.{skipped_is_end}
use Rattle.http_bind.proofs.ShortFronts.{head_within}

-- ---- a message has no more bytes than there are

data_isnt_last : (t u : Bool) (place size n : ℕ) (r : Chunk) → r ≡ cond t chunk.Cut (cond u (chunk.More place size) (chunk.Wrong 400)) → r ≡ chunk.Last n → ⊥
data_isnt_last true u place size n r is last = cc
data_isnt_last false true place size n r is last = cc
data_isnt_last false false place size n r is last = cc

large_isnt_last : (t : Bool) (n : ℕ) (r s : Chunk) → (r ≡ s → ⊥) → r ≡ cond t (chunk.Wrong 413) s → r ≡ chunk.Last n → ⊥
large_isnt_last true n r s isnt is last = cc
large_isnt_last false n r s isnt is last = isnt is

trailers_within : (k : ℕ) (bytes : List ℕ) (o : Option ℕ) (n : ℕ) → k ≤ length bytes → length_through empty_line (drop k bytes) ≡ o → trailers_to k o ≡ chunk.Last n → n ≤ length bytes
trailers_within k bytes None n within at is = absurd cc
trailers_within k bytes (Some m) n within at is =
    let through = is_through empty_line (drop k bytes) m at in
    let same : k + m ≡ n = cc in
    omega (arith, through.within, length-drop k bytes, same, within)

sized_within : (sum : ℕ) (bytes : List ℕ) (k : ℕ) (o : Option ℕ) (n : ℕ) → k ≤ length bytes → sized_chunk longest_body sum bytes k o ≡ chunk.Last n → n ≤ length bytes
sized_within sum bytes k None n within is = absurd cc
sized_within sum bytes k (Some zero) n within is = trailers_within (k - 2) bytes (length_through empty_line (drop (k - 2) bytes)) n (omega (arith, within)) refl is
sized_within sum bytes k (Some (suc m)) n within is =
    absurd (large_isnt_last (nat_lt longest_body (sum + suc m)) n (sized_chunk longest_body sum bytes k (Some (suc m))) (data_before k (suc m) (drop (k + suc m) bytes))
    (λ small. data_isnt_last (nat_lt (length (drop (k + suc m) bytes)) 2) (starts_with nat_eq (drop (k + suc m) bytes) line_end) k (suc m) n _ small is) refl is)

unlined_isnt_last : (t : Bool) (n : ℕ) (r : Chunk) → r ≡ cond t (chunk.Wrong 400) chunk.Cut → r ≡ chunk.Last n → ⊥
unlined_isnt_last true n r is last = cc
unlined_isnt_last false n r is last = cc

last_within : (sum : ℕ) (bytes : List ℕ) (o : Option ℕ) (n : ℕ) → length_through line_end (take 64 bytes) ≡ o → lined_chunk longest_body sum bytes o ≡ chunk.Last n → n ≤ length bytes
last_within sum bytes None n at is = absurd (unlined_isnt_last (nat_le 64 (length bytes)) n (lined_chunk longest_body sum bytes None) refl is)
last_within sum bytes (Some k) n at is =
    let through = is_through line_end (take 64 bytes) k at in
    sized_within sum bytes k (chunk_size (take (k - 2) bytes)) n (omega (arith, through.within, length-take 64 bytes)) is

behind_within : (piece : List ℕ) (k n limit : ℕ) (rest : BodyFront) (body : List ℕ) (used : ℕ) → ((b : List ℕ) (u : ℕ) → rest ≡ whole b u → k + u ≤ limit) →
    n ≡ k + 1 → with_chunk piece n rest ≡ whole body used → used ≤ limit + 1
behind_within piece k n limit unfinished body used by next is = absurd cc
behind_within piece k n limit (faulty status) body used by next is = absurd cc
behind_within piece k n limit (whole b u) body used by next is =
    let same : n + u ≡ used = cc in
    let few = by b u refl in omega (arith, few, same, next)

followed_within : (sum b : ℕ) (bytes : List ℕ) (c : Chunk) (rest : ℕ → ℕ → BodyFront) (body : List ℕ) (used : ℕ) → chunk_at longest_body sum (b ∷ bytes) ≡ c →
    ((size skip : ℕ) (d : List ℕ) (u : ℕ) → rest size skip ≡ whole d u → skip + u ≤ length bytes) → follow c (b ∷ bytes) rest ≡ whole body used → used ≤ length bytes + 1
followed_within sum b bytes chunk.Cut rest body used at by is = absurd cc
followed_within sum b bytes (chunk.Wrong status) rest body used at by is = absurd cc
followed_within sum b bytes (chunk.Last n) rest body used at by is =
    let same : n ≡ used = cc in
    let few = last_within sum (b ∷ bytes) (length_through line_end (take 64 (b ∷ bytes))) n refl at in omega (arith, few, same)
followed_within sum b bytes (chunk.More place size) rest body used at by is =
    behind_within (take size (drop place (b ∷ bytes))) (place + size + 1) (place + size + 2) (length bytes) (rest size (place + size + 1)) body used (by size (place + size + 1)) (omega arith) is

chunks_within : (skip sum : ℕ) (bytes body : List ℕ) (used : ℕ) → chunks longest_body skip sum bytes ≡ whole body used → skip + used ≤ length bytes
chunks_within skip sum [] body used is = absurd cc
chunks_within (suc skip) sum (b ∷ bytes) body used is = let few = chunks_within skip sum bytes body used is in omega (arith, few)
chunks_within zero sum (b ∷ bytes) body used is =
    let few = followed_within sum b bytes (chunk_at longest_body sum (b ∷ bytes)) (λ size skip. chunks longest_body skip (sum + size) bytes) body used refl
    (λ size skip d u later. chunks_within skip (sum + size) bytes d u later) is in omega (arith, few)

stated_within : (t : Bool) (n : ℕ) (bytes body : List ℕ) (used : ℕ) → nat_le n (length bytes) ≡ t → cond t (whole (take n bytes) n) unfinished ≡ whole body used → used ≤ length bytes
stated_within true n bytes body used long is = let same : n ≡ used = cc in omega (arith, leb-true _ _ long, same)
stated_within false n bytes body used long is = absurd cc

coded_within : (t : Bool) (bytes : List ℕ) (r : BodyFront) (body : List ℕ) (used limit : ℕ) → ((b : List ℕ) (u : ℕ) → r ≡ whole b u → u ≤ limit) → nat_le longest_coded (length bytes) ≡ t →
    within_longest bytes r ≡ whole body used → used ≤ limit
coded_within true bytes unfinished body used limit by long is = absurd (faulty_isnt (rw long at is))
  where
    faulty_isnt : faulty 413 ≡ whole body used → ⊥
    faulty_isnt e = cc
coded_within false bytes unfinished body used limit by long is = absurd (unfinished_isnt (rw long at is))
  where
    unfinished_isnt : unfinished ≡ whole body used → ⊥
    unfinished_isnt e = cc
coded_within t bytes (faulty status) body used limit by long is = absurd cc
coded_within t bytes (whole b u) body used limit by long is = by body used is

body_within : (f : Framing) (bytes body : List ℕ) (used : ℕ) → body_front f bytes ≡ whole body used → used ≤ length bytes
body_within (framing.Stated n) bytes body used is = stated_within (nat_le n (length bytes)) n bytes body used refl is
body_within framing.Chunked bytes body used is =
    coded_within (nat_le longest_coded (length bytes)) bytes (chunks longest_body 0 0 (take longest_coded bytes)) body used (length bytes)
    (λ b u whole_is. few b u whole_is) refl is
  where
    few : (b : List ℕ) (u : ℕ) → chunks longest_body 0 0 (take longest_coded bytes) ≡ whole b u → u ≤ length bytes
    few b u e = let under = chunks_within 0 0 (take longest_coded bytes) b u e in omega (arith, under, length-take longest_coded bytes)

with_body_within : (h : RequestHead) (taken : ℕ) (e : Bool) (b : BodyFront) (f : Front) (limit : ℕ) → ((c : List ℕ) (u : ℕ) → b ≡ whole c u → taken + u ≤ limit) → f ≡ with_body h taken e b → bytes_used f ≤ limit
with_body_within h taken e unfinished f limit by is = rw is (omega arith)
with_body_within h taken e (faulty status) f limit by is = rw is (omega arith)
with_body_within h taken e (whole c u) f limit by is = rw is (by c u refl)

with_head_within : (taken : ℕ) (r : Result FramedHead ℕ) (bytes : List ℕ) (f : Front) (limit : ℕ) → taken + length bytes ≤ limit → f ≡ with_head taken r bytes → bytes_used f ≤ limit
with_head_within taken (Err status) bytes f limit fits is = rw is (omega arith)
with_head_within taken (Ok h) bytes f limit fits is =
    with_body_within h.head taken (expects h.head h.framing) (body_front h.framing bytes) f limit
    (λ c u whole_is. let few = body_within h.framing bytes c u whole_is in omega (arith, few, fits)) is

none_within : (t : Bool) (f : Front) (limit : ℕ) → f ≡ cond t (fault 431 false) (short false) → bytes_used f ≤ limit
none_within true f limit is = rw is (omega arith)
none_within false f limit is = rw is (omega arith)

after_within : (before : ℕ) (bytes : List ℕ) (f : Front) (limit : ℕ) → before + length bytes ≤ limit → IsFrontAfter before bytes f → bytes_used f ≤ limit
after_within before bytes f limit fits (no_end none is) = none_within (nat_le longest_head (length bytes)) f limit is
after_within before bytes f limit fits (one_end n r at judged is) =
    let ends = head_within bytes n at in
    with_head_within (before + n) r (drop n bytes) f limit (omega (arith, ends.within, length-drop n bytes, fits)) is

few_skipped : (bytes : List ℕ) → length (skipped bytes) ≤ length bytes
few_skipped bytes = let end = skipped_is_end bytes in omega (arith, ap length end.is, length-drop end.place bytes)

pub front_within : (bytes : List ℕ) (f : Front) → IsFront bytes f → bytes_used f ≤ length bytes
front_within bytes f front =
    after_within (length bytes - length (skipped bytes)) (skipped bytes) f (length bytes) (omega (arith, few_skipped bytes)) front

-- ---- one request after another

asked_settled : (f : Front) (q : RequestSeen) → found f ≡ Some (asks q) → IsSettled f
asked_settled (short expect) q is = absurd cc
asked_settled (message head body used expect) q is = tt
asked_settled (fault status expect) q is = tt

first_within : (bytes : List ℕ) (q : RequestSeen) (used : ℕ) → IsFirst bytes q used → used ≤ length bytes
first_within bytes q used first = let few = front_within bytes first.0 first.1 in omega (arith, few, first.3)

first_stays : (bytes more : List ℕ) (q : RequestSeen) (used : ℕ) → IsFirst bytes q used → IsFirst (bytes ++ more) q used
first_stays bytes more q used first = (first.0, front_stays bytes more first.0 first.1 (asked_settled first.0 q first.2), first.2, first.3)

first_stay : (bytes more : List ℕ) (qs : List RequestSeen) (n : ℕ) → AreFirst bytes qs n → AreFirst (bytes ++ more) qs n
first_stay bytes more [] n are = are
first_stay bytes more (q ∷ qs) n (used, behind, first, others, is) = (
  used,
  behind,
  first_stays bytes more q used first,
  subst (λ (xs : List ℕ). AreFirst xs qs behind) (sym (drop-append-le used bytes more (first_within bytes q used first))) (first_stay (drop used bytes) more qs behind others),
  is,
)

first_more : (bytes : List ℕ) (qs : List RequestSeen) (n : ℕ) (q : RequestSeen) (used : ℕ) → AreFirst bytes qs n → IsFirst (drop n bytes) q used → AreFirst bytes (qs ++ q ∷ []) (n + used)
first_more bytes [] n q used is next =
    (used, 0, subst (λ (k : ℕ). IsFirst (drop k bytes) q used) is next, refl, omega (arith, is))
first_more bytes (p ∷ qs) n q used (one, behind, first, others, is) next =
    let there : drop n bytes ≡ drop behind (drop one bytes) = ap (λ (k : ℕ). drop k bytes) is ∙ sym (drop-drop behind one bytes) in (
      one,
      behind + used,
      first,
      first_more (drop one bytes) qs behind q used others (subst (λ (xs : List ℕ). IsFirst xs q used) there next),
      omega (arith, is),
    )

-- the thing taken is the thing found
asked_found : (t : Bool) (r : Option Taken) (q : RequestSeen) → cond t (Some wants_continue) r ≡ Some (asks q) → r ≡ Some (asks q)
asked_found true r q is = absurd cc
asked_found false r q is = is

none_found : (t : Bool) (r : Option Taken) → cond t (Some wants_continue) r ≡ None → r ≡ None
none_found true r is = absurd cc
none_found false r is = is

-- ---- what a connection has been through

pub record Follows (x : Connection) (qs : List RequestSeen) : Type 0 where
  pub first : AreFirst x.stream qs x.taken
  pub within : x.taken ≤ length x.stream

the_same : (y z : Connection) → Some y ≡ Some z → z ≡ y
the_same y z is = cc

isnt_none : (y : Connection) → Some y ≡ None → ⊥
isnt_none y is = cc

asks_follows : (x y : Connection) (qs : List RequestSeen) (q : RequestSeen) → Follows x qs → LetsTake (asks q) x (Some y) → Follows y (qs ++ q ∷ [])
asks_follows x y qs q a (takes_front f free front is after) =
    let at : IsFirst (rest_of x) q (bytes_used f) = (f, front, asked_found (expected f && not x.continued) (found f) q is, refl) in
    let few = front_within (rest_of x) f front in
    subst (λ (z : Connection). Follows z (qs ++ q ∷ [])) (the_same y (after_taking (asks q) f x) after)
    (record { first = first_more x.stream qs x.taken q (bytes_used f) a.first at; within = omega (arith, few, a.within, length-drop x.taken x.stream) })
asks_follows x y qs q a (is_interrupted o owed some is gone) = absurd (isnt_none y gone)

continue_follows : (x y : Connection) (qs : List RequestSeen) → Follows x qs → LetsTake wants_continue x (Some y) → Follows y qs
continue_follows x y qs a (takes_front f free front is after) =
    subst (λ (z : Connection). Follows z qs) (the_same y (after_taking wants_continue f x) after) (record { first = a.first; within = a.within })
continue_follows x y qs a (is_interrupted o owed some is gone) = absurd (isnt_none y gone)

fault_follows : (x y : Connection) (qs : List RequestSeen) (status : ℕ) → Follows x qs → LetsTake (is_faulty status) x (Some y) → Follows y qs
fault_follows x y qs status a (takes_front f free front is after) = subst (λ (z : Connection). Follows z qs) (the_same y x after) a
fault_follows x y qs status a (is_interrupted o owed some is gone) = absurd (isnt_none y gone)

follows : (x : Connection) (qs : List RequestSeen) → HasTaken x qs → Follows x qs
follows x qs (at_opening now) = record { first = refl; within = omega arith }
follows x qs (with_piece y ps piece now before) =
    let a = follows y ps before in
    record { first = first_stay y.stream piece ps y.taken a.first; within = omega (arith, a.within, length-append y.stream piece) }
follows x qs (with_request y z ps q before lets) = asks_follows y z ps q (follows y ps before) lets
follows x qs (with_continue y z ps before lets) = continue_follows y z ps (follows y ps before) lets
follows x qs (with_fault y z ps status before lets) = fault_follows y z ps status (follows y ps before) lets
follows x qs (with_reply y ps now before) = let a = follows y ps before in record { first = a.first; within = a.within }

pub takes_the_first : TakesTheFirst
takes_the_first x qs taken = (follows x qs taken).first

-- where no byte is left, no message is whole
empty_ends : (bytes : List ℕ) → bytes ≡ [] → EndsThere bytes
empty_ends bytes none = subst EndsThere (sym none) (short false, no_end refl refl, tt)

spent_ends : (x : Connection) (o : Option Owed) → IsSpent o x → EndsThere (rest_of x)
spent_ends x None (f, front, none) = (f, front, subst IsNoRequest (sym (none_found (expected f && not x.continued) (found f) none)) tt)
spent_ends x (Some o) none = empty_ends (rest_of x) none

pub takes_all : TakesAll
takes_all x qs taken spent = (x.taken, (follows x qs taken).first, spent_ends x x.owed spent)

-- ---- a stream has one list of requests

isnt_request : (bytes : List ℕ) (q : RequestSeen) (used : ℕ) → EndsThere bytes → IsFirst bytes q used → ⊥
isnt_request bytes q used ends first =
    let same = at_most_one_front bytes ends.0 first.0 ends.1 first.1 in
    subst IsNoRequest (ap found same ∙ first.2) ends.2

one_list : (bytes : List ℕ) (ps qs : List RequestSeen) (n m : ℕ) → AreFirst bytes ps n → EndsThere (drop n bytes) → AreFirst bytes qs m → EndsThere (drop m bytes) → ps ≡ qs
one_list bytes [] [] n m a ends_a b ends_b = refl
one_list bytes [] (q ∷ qs) n m a ends_a (used, behind, first, others, is) ends_b =
    absurd (isnt_request bytes q used (subst (λ (k : ℕ). EndsThere (drop k bytes)) a ends_a) first)
one_list bytes (p ∷ ps) [] n m (used, behind, first, others, is) ends_a b ends_b =
    absurd (isnt_request bytes p used (subst (λ (k : ℕ). EndsThere (drop k bytes)) b ends_b) first)
one_list bytes (p ∷ ps) (q ∷ qs) n m (used, behind, first, others, is) ends_a (used_b, behind_b, first_b, others_b, is_b) ends_b =
    let same = at_most_one_front bytes first.0 first_b.0 first.1 first_b.1 in
    let alike : used_b ≡ used = sym first_b.3 ∙ ap bytes_used (sym same) ∙ first.3 in
    let request : p ≡ q = let e : Some (asks p) ≡ Some (asks q) = sym first.2 ∙ ap found same ∙ first_b.2 in cc in
    let there : (k l : ℕ) → k ≡ used + l → drop k bytes ≡ drop l (drop used bytes) = λ k l e. ap (λ (i : ℕ). drop i bytes) e ∙ sym (drop-drop l used bytes) in
    let others_here : AreFirst (drop used bytes) qs behind_b = subst (λ (k : ℕ). AreFirst (drop k bytes) qs behind_b) alike others_b in
    let rest : ps ≡ qs =
    one_list (drop used bytes) ps qs behind behind_b others (subst EndsThere (there n behind is) ends_a)
    others_here (subst EndsThere (there m behind_b (is_b ∙ ap (λ (k : ℕ). k + behind_b) alike)) ends_b) in
    ap (λ (z : RequestSeen). z ∷ ps) request ∙ ap (λ (zs : List RequestSeen). q ∷ zs) rest

pub has_one_list : HasOneList
has_one_list bytes ps qs (n, are, ends) (m, are_too, ends_too) = one_list bytes ps qs n m are ends are_too ends_too
