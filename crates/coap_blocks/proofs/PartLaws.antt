-- Parts over whole histories of calls.
use Rattle.std.proofs.Common.{◌≡◌, ◌+◌, ◌<◌, ℕ, suc, Bool, true, false, not, List, [], ◌∷◌, ◌++◌, drop, take, set, remove, length, slice_get, Option, Some, None, refl, ap, sym, subst, ◌∙◌, arith, append_assoc, length-append}
use Rattle.std.specs.Prelude.{◌==◌, ◌&&◌, nat_lt, All, if◌then◌else◌}
use Rattle.std.proofs.lemmas.List.{length-set, get_or-set_same}
use Rattle.std.proofs.lemmas.Option.{slice_get-get_or}
use Rattle.std.proofs.lemmas.List.Elements.{All-nil, All-filter, All-get_or, All-append, All-set, All-push, All-weaker, All-take, All-drop}
use Rattle.std.proofs.lemmas.List.Quantifiers.{position-Some}
use Rattle.std.proofs.lemmas.Bool.Decides.{nat_tests}
use Rattle.coap_msg.specs.declared.endpoint.Endpoint.{Endpoint}
use Rattle.coap_msg.specs.Blocks.{block_start}
use Rattle.coap_msg.proofs.SameEndpoints.{same_endpoint}
use Rattle.coap_msg.specs.Endpoints.{is_same_endpoint}
use Rattle.coap_blocks.specs.Paths.{is_same_path, lives}
use Rattle.coap_blocks.specs.Bodies.{without_place}
use Rattle.coap_blocks.specs.Parts.{Origin, Arrival, Part, most_parts, longest_request, is_part_of, place_of, living, is_bad, extended, joined_to, new_part, part_at, joined_at, joined, begun, other_parts, after_block}
use Rattle.coap_blocks.specs.Laws.{Call, adds, clears, after_call, IsLeftOf, no_more, stays, goes, joined_payloads, IsRowFrom, Makes, blocks_among, parts_after, IsMadeOf, PartsAreRows, WholeBodiesAreRows}
use Rattle.coap_blocks.specs.declared.added.Added.{Added}
use Rattle.coap_blocks.specs.declared.added.Added.TheVariants as answer
use Rattle.coap_blocks.proofs.Joining.{said_to}
use Rattle.coap_blocks.proofs.Paths.{same_path}

-- ---- the origin of a part

three : (b c d : Bool) → (b && c && d) ≡ true → (b ≡ true) × (c ≡ true) × (d ≡ true)
three true true true e = (refl, refl, refl)
three true true false e = absurd cc
three true false true e = absurd cc
three true false false e = absurd cc
three false true true e = absurd cc
three false true false e = absurd cc
three false false true e = absurd cc
three false false false e = absurd cc

same_number : (m n : ℕ) → (m == n) ≡ true → m ≡ n
same_number m n e = grind (arith, nat_tests)

pub own_origin : (o : Origin) (p : Part) → is_part_of o p ≡ true → p.origin ≡ o
own_origin o p e =
    let t = three (is_same_endpoint p.origin.from o.from) (p.origin.code == o.code) (is_same_path p.origin.path o.path) e in
    let from = same_endpoint p.origin.from o.from t.0 in
    let code = same_number p.origin.code o.code t.1 in
    let path = same_path p.origin.path o.path t.2 in
    let made : Endpoint → ℕ → List (List ℕ) → Origin = λ f n s. record { from = f; code = n; path = s } in
    ap (λ (f : Endpoint). made f p.origin.code p.origin.path) from
    ∙ ap (λ (n : ℕ). made o.from n p.origin.path) code
    ∙ ap (λ (s : List (List ℕ)). made o.from o.code s) path

-- the part that is read past the end of a list
abbrev no_part : Part
no_part = new_part (record { from = record { host = 0; port = 0 }; code = 0; path = [] }) 0

-- ---- rows

left_push : (row blocks : List Arrival) (a : Arrival) → IsLeftOf row blocks → IsLeftOf row (blocks ++ a ∷ [])
left_push _ _ a no_more = goes a [] [] no_more
left_push _ _ a (stays x xs ys h) = stays x xs (ys ++ a ∷ []) (left_push xs ys a h)
left_push _ _ a (goes y xs ys h) = goes y xs (ys ++ a ∷ []) (left_push xs ys a h)

stays_push : (row blocks : List Arrival) (a : Arrival) → IsLeftOf row blocks → IsLeftOf (row ++ a ∷ []) (blocks ++ a ∷ [])
stays_push _ _ a no_more = stays a [] [] no_more
stays_push _ _ a (stays x xs ys h) = stays x (xs ++ a ∷ []) (ys ++ a ∷ []) (stays_push xs ys a h)
stays_push _ _ a (goes y xs ys h) = goes y (xs ++ a ∷ []) (ys ++ a ∷ []) (stays_push xs ys a h)

none_left : (blocks : List Arrival) → IsLeftOf [] blocks
none_left [] = no_more
none_left (a ∷ blocks) = goes a [] blocks (none_left blocks)

joined_push : (row : List Arrival) (a : Arrival) → joined_payloads (row ++ a ∷ []) ≡ joined_payloads row ++ a.payload
joined_push [] a = append_nil a.payload
  where
    append_nil : (xs : List ℕ) → xs ++ [] ≡ xs
    append_nil [] = refl
    append_nil (x ∷ xs) = ap (λ (l : List ℕ). x ∷ l) (append_nil xs)
joined_push (x ∷ row) a = ap (λ (l : List ℕ). x.payload ++ l) (joined_push row a) ∙ sym (append_assoc x.payload (joined_payloads row) a.payload)

row_push : (o : Origin) (n : ℕ) (row : List Arrival) (a : Arrival) → IsRowFrom o n row → a.origin ≡ o → block_start a.block ≡ n + length (joined_payloads row)
    → IsRowFrom o n (row ++ a ∷ [])
row_push o n [] a is own start = (own, start ∙ omega arith, tt)
row_push o n (x ∷ row) a is own start =
    (is.0, is.1, row_push o (n + length x.payload) row a is.2 own (start ∙ omega (arith, length-append x.payload (joined_payloads row))))

pub makes_push : (row : List Arrival) (p : Part) (a : Arrival) → Makes row p → p.origin ≡ a.origin → length p.bytes ≡ block_start a.block → Makes (row ++ a ∷ []) (extended a.payload p)
makes_push row p a is own start = record {
  in_order = row_push p.origin 0 row a is.in_order (sym own) (sym start ∙ (ap (λ (l : List ℕ). length l) is.bytes ∙ omega arith));
  bytes = ap (λ (l : List ℕ). l ++ a.payload) is.bytes ∙ sym (joined_push row a);
}

-- ---- all parts

abbrev Made : List Arrival → List Part → Type 0
Made blocks parts = All (IsMadeOf blocks) parts

longer : (blocks : List Arrival) (a : Arrival) (parts : List Part) → Made blocks parts → Made (blocks ++ a ∷ []) parts
longer blocks a parts h = All-weaker (IsMadeOf blocks) (IsMadeOf (blocks ++ a ∷ [])) (λ p it. (it.0, it.1, left_push it.0 blocks a it.2)) parts h

all_removed : (P : Part → Type 0) (parts : List Part) (i : ℕ) → All P parts → All P (remove parts i)
all_removed P parts i h = All-append P (take i parts) (drop (suc i) parts) (All-take P i parts h) (All-drop P (suc i) parts h)

all_living : (blocks : List Arrival) (now : ℕ) (parts : List Part) → Made blocks parts → Made blocks (living now parts)
all_living blocks now parts h = All-filter (λ p. lives now p.moment) (IsMadeOf blocks) parts h

all_others : (blocks : List Arrival) (place : Option ℕ) (parts : List Part) → Made blocks parts → Made blocks (without_place place parts)
all_others blocks None parts h = h
all_others blocks (Some i) parts h = all_removed (IsMadeOf blocks) parts i h

-- a block that is joined to the part at a place
joined_to_made : (blocks : List Arrival) (a : Arrival) (i : ℕ) (own : Part) (parts : List Part) → Made blocks parts → IsMadeOf blocks own → own.origin ≡ a.origin
    → Made (blocks ++ a ∷ []) (joined_to a.block a.payload i own parts).1
joined_to_made blocks a i own parts all made origin =
    by_tests (length own.bytes == block_start a.block) (nat_lt longest_request (length own.bytes + length a.payload)) refl
  where
    by_tests : (goes_on long : Bool) → (length own.bytes == block_start a.block) ≡ goes_on
        → Made (blocks ++ a ∷ []) (said_to a.block a.payload i own parts (not goes_on) long).1
    by_tests false long t = longer blocks a (remove parts i) (all_removed (IsMadeOf blocks) parts i all)
    by_tests true true t = longer blocks a (remove parts i) (all_removed (IsMadeOf blocks) parts i all)
    by_tests true false t =
        let start : length own.bytes ≡ block_start a.block = same_number (length own.bytes) (block_start a.block) t in
        All-set (IsMadeOf (blocks ++ a ∷ [])) parts i (extended a.payload own)
        (made.0 ++ a ∷ [], makes_push made.0 own a made.1 origin start, stays_push made.0 blocks a made.2)
        (longer blocks a parts all)

joined_made : (blocks : List Arrival) (a : Arrival) (parts : List Part) → Made blocks parts → Made (blocks ++ a ∷ []) (joined a.origin a.block a.payload parts).1
joined_made blocks a parts all = by_place (place_of a.origin parts) refl
  where
    by_place : (place : Option ℕ) → place_of a.origin parts ≡ place → Made (blocks ++ a ∷ []) (joined_at a.block a.payload place parts).1
    by_place None e = longer blocks a parts all
    by_place (Some i) e =
        let at = position-Some (is_part_of a.origin) parts i no_part e in
        joined_to_made blocks a i (part_at i parts) parts all (All-get_or (IsMadeOf blocks) parts i no_part at.0 all) (own_origin a.origin (part_at i parts) at.1)

new_made : (blocks : List Arrival) (o : Origin) (now : ℕ) → IsMadeOf blocks (new_part o now)
new_made blocks o now = ([], record { in_order = tt; bytes = refl }, none_left blocks)

begun_made : (blocks : List Arrival) (a : Arrival) (others : List Part) → Made blocks others → Made (blocks ++ a ∷ []) (begun a others).1
begun_made blocks a others all = by_test (nat_lt (length others) most_parts)
  where
    by_test : (b : Bool) → Made (blocks ++ a ∷ []) (if b then joined a.origin a.block a.payload (others ++ new_part a.origin a.moment ∷ []) else (answer.Full, others)).1
    by_test true = joined_made blocks a (others ++ new_part a.origin a.moment ∷ []) (All-push (IsMadeOf blocks) others (new_part a.origin a.moment) all (new_made blocks a.origin a.moment))
    by_test false = longer blocks a others all

added_made : (blocks : List Arrival) (a : Arrival) (parts : List Part) → Made blocks parts → Made (blocks ++ a ∷ []) (after_block a parts).1
added_made blocks a parts all = by_tests (is_bad a.block a.payload) (a.block.number == 0)
  where
    by_tests : (bad first : Bool) → Made (blocks ++ a ∷ []) (if bad then (answer.BadBlock, parts) else if first then begun a (other_parts a.origin parts) else joined a.origin a.block a.payload parts).1
    by_tests true first = longer blocks a parts all
    by_tests false true = begun_made blocks a (other_parts a.origin parts) (all_others blocks (place_of a.origin parts) parts all)
    by_tests false false = joined_made blocks a parts all

-- ---- the laws

after_made : (blocks : List Arrival) (parts : List Part) (calls : List Call) → Made blocks parts → Made (blocks ++ blocks_among calls) (parts_after parts calls)
after_made blocks parts [] all = subst (λ (bs : List Arrival). Made bs parts) (sym (append_nil blocks)) all
  where
    append_nil : (xs : List Arrival) → xs ++ [] ≡ xs
    append_nil [] = refl
    append_nil (x ∷ xs) = ap (λ (l : List Arrival). x ∷ l) (append_nil xs)
after_made blocks parts (adds a ∷ calls) all =
    subst (λ (bs : List Arrival). Made bs (parts_after (after_call (adds a) parts) calls)) (append_assoc blocks (a ∷ []) (blocks_among calls))
    (after_made (blocks ++ a ∷ []) (after_call (adds a) parts) calls (added_made blocks a (living a.moment parts) (all_living blocks a.moment parts all)))
after_made blocks parts (clears place ∷ calls) all = after_made blocks (without_place (Some place) parts) calls (all_others blocks (Some place) parts all)

pub parts_are_rows : PartsAreRows
parts_are_rows calls = after_made [] [] calls (All-nil (IsMadeOf []))

-- a part that is completed
abbrev Completes : List Arrival → Arrival → ℕ → Added × List Part → Type 0
Completes blocks a place said =
    said.0 ≡ answer.Complete place
    → (p : Part) × (row : List Arrival) × (slice_get said.1 place ≡ Some p) × Makes (row ++ a ∷ []) p × IsLeftOf row blocks

joined_to_completes : (blocks : List Arrival) (a : Arrival) (place i : ℕ) (own : Part) (parts : List Part) → i < length parts → IsMadeOf blocks own → own.origin ≡ a.origin
    → Completes blocks a place (joined_to a.block a.payload i own parts)
joined_to_completes blocks a place i own parts within made origin =
    by_tests (length own.bytes == block_start a.block) (nat_lt longest_request (length own.bytes + length a.payload)) a.block.more refl
  where
    by_tests : (goes_on long more : Bool) → (length own.bytes == block_start a.block) ≡ goes_on
        → Completes blocks a place (if not goes_on then (answer.Incomplete, remove parts i) else if long then (answer.TooLarge, remove parts i) else ((if more then answer.Continue else answer.Complete i), set parts i (extended a.payload own)))
    by_tests false long more t e = absurd cc
    by_tests true true more t e = absurd cc
    by_tests true false true t e = absurd cc
    by_tests true false false t e =
        let same : i ≡ place = cc in
        let start : length own.bytes ≡ block_start a.block = same_number (length own.bytes) (block_start a.block) t in
        let there : slice_get (set parts i (extended a.payload own)) i ≡ Some (extended a.payload own) =
        slice_get-get_or (set parts i (extended a.payload own)) i own (omega (arith, length-set parts i (extended a.payload own)))
        ∙ ap (λ (y : Part). Some y) (get_or-set_same parts i (extended a.payload own) own within) in
        (extended a.payload own, made.0, subst (λ (n : ℕ). slice_get (set parts i (extended a.payload own)) n ≡ Some (extended a.payload own)) same there, makes_push made.0 own a made.1 origin start, made.2)

joined_completes : (blocks : List Arrival) (a : Arrival) (place : ℕ) (parts : List Part) → Made blocks parts → Completes blocks a place (joined a.origin a.block a.payload parts)
joined_completes blocks a place parts all = by_place (place_of a.origin parts) refl
  where
    by_place : (o : Option ℕ) → place_of a.origin parts ≡ o → Completes blocks a place (joined_at a.block a.payload o parts)
    by_place None e = λ is. absurd cc
    by_place (Some i) e =
        let at = position-Some (is_part_of a.origin) parts i no_part e in
        joined_to_completes blocks a place i (part_at i parts) parts at.0 (All-get_or (IsMadeOf blocks) parts i no_part at.0 all) (own_origin a.origin (part_at i parts) at.1)

begun_completes : (blocks : List Arrival) (a : Arrival) (place : ℕ) (others : List Part) → Made blocks others → Completes blocks a place (begun a others)
begun_completes blocks a place others all = by_test (nat_lt (length others) most_parts)
  where
    by_test : (b : Bool) → Completes blocks a place (if b then joined a.origin a.block a.payload (others ++ new_part a.origin a.moment ∷ []) else (answer.Full, others))
    by_test true = joined_completes blocks a place (others ++ new_part a.origin a.moment ∷ []) (All-push (IsMadeOf blocks) others (new_part a.origin a.moment) all (new_made blocks a.origin a.moment))
    by_test false = λ is. absurd cc

added_completes : (blocks : List Arrival) (a : Arrival) (place : ℕ) (parts : List Part) → Made blocks parts → Completes blocks a place (after_block a parts)
added_completes blocks a place parts all = by_tests (is_bad a.block a.payload) (a.block.number == 0)
  where
    by_tests : (bad first : Bool) → Completes blocks a place (if bad then (answer.BadBlock, parts) else if first then begun a (other_parts a.origin parts) else joined a.origin a.block a.payload parts)
    by_tests true first = λ is. absurd cc
    by_tests false true = begun_completes blocks a place (other_parts a.origin parts) (all_others blocks (place_of a.origin parts) parts all)
    by_tests false false = joined_completes blocks a place parts all

pub whole_bodies_are_rows : WholeBodiesAreRows
whole_bodies_are_rows calls a place =
    added_completes (blocks_among calls) a place (living a.moment (parts_after [] calls))
    (all_living (blocks_among calls) a.moment (parts_after [] calls) (parts_are_rows calls))
