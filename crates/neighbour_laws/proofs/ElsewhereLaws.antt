-- The exchanges, the bodies and the parts of one endpoint, once a datagram of another came.
use Rattle.std.proofs.Common.{◌≡◌, ◌∙◌, ◌+◌, ◌-◌, ◌≤◌, ◌<◌, ℕ, zero, suc, Bool, true, false, not, cond, List, [], ◌∷◌, ◌++◌, filter, length, drop, get_or, refl, sym, ap, subst, arith, length-append, length-drop}
use Rattle.std.proofs.Math.Logic.{⊎_elim}
use Rattle.std.proofs.lemmas.Bool.{cases_eq}
use Rattle.std.specs.Prelude.{Option, Some, None, ◌==◌, ◌&&◌, nat_lt, slice_set}
use Rattle.std.specs.List.{position, remove}
use Rattle.std.proofs.lemmas.List.{append-nil}
use Rattle.std.proofs.lemmas.List.Edits.{length-remove}
use Rattle.std.proofs.lemmas.List.Elements.{filter-append}
use Rattle.std.proofs.lemmas.List.Quantifiers.{position-Some}
use Rattle.coap_msg.specs.declared.block.Block.{Block}
use Rattle.coap_msg.specs.declared.endpoint.Endpoint.{Endpoint}
use Rattle.coap_msg.specs.Blocks.{block_start}
use Rattle.coap_msg.specs.Endpoints.{is_same_endpoint}
use Rattle.coap_msg.proofs.SameEndpoints.{both, same_endpoint}
use Rattle.coap_exchange.specs.Admission.{lives}
use Rattle.coap_exchange.specs.Table.{Exchange, Table, at_moment}
use Rattle.coap_blocks.specs.Paths.{is_same_path, lives as body_lives}
use Rattle.coap_blocks.specs.Bodies.{Body, most_bodies, is_body_of, last, without_place, other_bodies}
use Rattle.coap_blocks.specs.Parts.{Part, Arrival, Origin, living, longest_request, most_parts, is_bad, is_part_of, place_of, answer_at, extended, joined_to, new_part, part_at, joined_at, joined, begun, other_parts, after_block}
use Rattle.coap_blocks.specs.declared.added.Added.{Added}
use Rattle.coap_blocks.specs.declared.added.Added.TheVariants as answer
use Rattle.coap_blocks.proofs.Lists.{place_removed}
use Rattle.neighbour_laws.specs.Neighbours.{exchanges_of, bodies_of, parts_of, KeepsBodies, all_stay, oldest_goes}
use Rattle.neighbour_laws.proofs.HearingLaws.{Meeting, meets_none, meets_some, has_admitted, Puts, puts_none, puts_one, Joins, joins_none, joins_one, takes_whole}
use Rattle.neighbour_laws.proofs.Lists.{FailsAt, filter_apart, filter_commutes, filter_removed, filter_set, set_fails, filter_rest}

-- ---- one that isn't of the part

-- one more that isn't leaves the part
pub beside : {X : Type 0} (q : X → Bool) (xs : List X) (x : X) → q x ≡ false → filter q (xs ++ x ∷ []) ≡ filter q xs
beside {X} q xs x other = filter-append q xs (x ∷ []) ∙ (ap (λ (b : Bool). filter q xs ++ cond b (x ∷ []) []) other ∙ append-nil (filter q xs))

pub twice : {X : Type 0} (p : X → Bool) (xs : List X) → filter p (filter p xs) ≡ filter p xs
twice p xs = filter_apart p p (λ x is. is) xs

-- ---- exchanges

pub exchanges_left : (x from : Endpoint) (now : ℕ) (s t : Table) → is_same_endpoint x from ≡ false → Meeting from now s t
    → exchanges_of x (at_moment now t).exchanges ≡ exchanges_of x (at_moment now s).exchanges
exchanges_left x from now s t other (meets_none is) = ap (λ (u : Table). exchanges_of x (at_moment now u).exchanges) is
exchanges_left x from now s t other (meets_some is) =
    ap (λ (u : Table). exchanges_of x (at_moment now u).exchanges) is ∙ ap (exchanges_of x) (twice (λ (e : Exchange). lives now e.arrival) s.exchanges)
exchanges_left x from now s t other (has_admitted slot a) =
    let alive : Exchange → Bool = λ e. lives now e.arrival in
    let its : Exchange → Bool = λ e. is_same_endpoint x e.arrival.from in
    let apart : is_same_endpoint x a.one.arrival.from ≡ false = ap (is_same_endpoint x) a.from_is ∙ other in
    filter_commutes its alive t.exchanges
    ∙ (ap (λ (l : List Exchange). filter alive (filter its l)) a.whole
    ∙ (ap (filter alive) (beside its (filter alive s.exchanges) a.one apart)
    ∙ (sym (filter_commutes its alive (filter alive s.exchanges)) ∙ ap (filter its) (twice alive s.exchanges))))

-- ---- bodies

few_last : (n : ℕ) (xs : List Body) → length xs ≤ n → last n xs ≡ xs
few_last n xs few = let none : length xs - n ≡ 0 = omega (arith, few) in ap (λ (k : ℕ). drop k xs) none

pub few_bodies : (from : Endpoint) (old new : List Body) → Puts from old new → length old ≤ most_bodies → length new ≤ most_bodies
few_bodies from old new (puts_none is) few = subst (λ (l : List Body). length l ≤ most_bodies) (sym is) few
few_bodies from old new (puts_one b of is) few =
    let all : List Body = other_bodies b.from b.path old ++ b ∷ [] in
    let long = length-drop (length all - most_bodies) all in
    subst (λ (l : List Body). length l ≤ most_bodies) (sym is) (omega (arith, long))

is_its : (from : Endpoint) (b : Body) (path : List (List ℕ)) (x : Endpoint) → is_same_endpoint x from ≡ false → is_body_of from path b ≡ true → is_same_endpoint x b.from ≡ false
is_its from b path x other is = ap (is_same_endpoint x) (same_endpoint b.from from (both (is_same_endpoint b.from from) (is_same_path b.path path) is).0) ∙ other

pub bodies_left : (x from : Endpoint) (old new : List Body) → is_same_endpoint x from ≡ false → length old ≤ most_bodies → Puts from old new → KeepsBodies x old new
bodies_left x from old new other few (puts_none is) = all_stay (ap (bodies_of x) is)
bodies_left x from old new other few (puts_one b of is) = by (position own old) refl
  where
    own : Body → Bool
    own = is_body_of b.from b.path

    apart : is_same_endpoint x b.from ≡ false
    apart = ap (is_same_endpoint x) of ∙ other

    its : Body → Bool
    its c = is_same_endpoint x c.from

    -- all have room
    roomy : (l : List Body) → other_bodies b.from b.path old ≡ l → length l + 1 ≤ most_bodies → bodies_of x l ≡ bodies_of x old → KeepsBodies x old new
    roomy l same few' rest =
        let long = length-append l (b ∷ []) in
        all_stay (ap (bodies_of x) (is ∙ (ap (λ (k : List Body). last most_bodies (k ++ b ∷ [])) same ∙ few_last most_bodies (l ++ b ∷ []) (omega (arith, long, few')))) ∙ (beside its l b apart ∙ rest))

    -- the list is full
    crowded : (l : List Body) → old ≡ l → position own old ≡ None → length l ≡ most_bodies → KeepsBodies x old new
    crowded [] same none full =
        let small : 0 ≡ most_bodies = full in
        all_stay (ap (bodies_of x) (is ∙ (ap (λ (o : Option ℕ). last most_bodies (without_place o old ++ b ∷ [])) none ∙ (ap (λ (k : List Body). last most_bodies (k ++ b ∷ [])) same ∙ ap (λ (n : ℕ). last n (b ∷ [])) (sym small)))) ∙ sym (ap (bodies_of x) same))
    crowded (oldest ∷ rest) same none full =
        let long = length-append (oldest ∷ rest) (b ∷ []) in
        let one : length ((oldest ∷ rest) ++ b ∷ []) - most_bodies ≡ 1 = omega (arith, long, full) in
        let new_is : new ≡ rest ++ b ∷ [] =
        is ∙ (ap (λ (o : Option ℕ). last most_bodies (without_place o old ++ b ∷ [])) none ∙ (ap (λ (k : List Body). last most_bodies (k ++ b ∷ [])) same
        ∙ ap (λ (n : ℕ). drop n ((oldest ∷ rest) ++ b ∷ [])) one)) in
        oldest_goes b oldest rest none (ap length same ∙ full) same (ap (bodies_of x) new_is ∙ beside its rest b apart)

    by : (o : Option ℕ) → position own old ≡ o → KeepsBodies x old new
    by None none = ⊎_elim (λ full. crowded old refl none full)
        (λ some. roomy old (ap (λ (o : Option ℕ). without_place o old) none) (let less : ¬ (length old ≡ most_bodies) = some in omega (arith, few, less)) refl) (cases_eq (length old) most_bodies)
    by (Some place) at =
        let inside = position-Some own old place b at in
        let shorter = length-remove old place inside.0 in
        roomy (remove old place) (ap (λ (o : Option ℕ). without_place o old) at) (omega (arith, shorter, few))
        (ap (bodies_of x) (place_removed own old (Some place) at) ∙ filter_rest its own (λ c is_own. is_its b.from c b.path x apart is_own) old)

-- ---- parts

fails_from : {X : Type 0} (q : X → Bool) (xs : List X) (i : ℕ) (d : X) → i < length xs → q (get_or xs i d) ≡ false → FailsAt q xs i
fails_from q [] i d within is = tt
fails_from q (x ∷ xs) zero d within is = is
fails_from q (x ∷ xs) (suc i) d within is = fails_from q xs i d (omega (arith, within)) is

-- a block leaves the parts of others, and the body that it makes whole isn't theirs
record BlockLeft (q : Part → Bool) (said : Added × List Part) (old : List Part) : Type 0 where
  left : filter q said.1 ≡ filter q old
  fails : (place : ℕ) → said.0 ≡ answer.Complete place → FailsAt q said.1 place

not_complete : (q : Part → Bool) (a : Added) (parts old : List Part) → ((place : ℕ) → a ≡ answer.Complete place → ⊥) → filter q parts ≡ filter q old → BlockLeft q (a, parts) old
not_complete q a parts old isnt left = record { left = left; fails = λ place is. absurd (isnt place is) }

same_place : (m n : ℕ) → answer.Complete m ≡ answer.Complete n → m ≡ n
same_place m n e = cc

answer_place : (more : Bool) (place k : ℕ) → cond more answer.Continue (answer.Complete place) ≡ answer.Complete k → place ≡ k
answer_place true place k is = absurd (let e : answer.Continue ≡ answer.Complete k = is in cc)
answer_place false place k is = same_place place k is

joined_to_left : (q : Part → Bool) (b : Block) (payload : List ℕ) (place : ℕ) (own : Part) (parts : List Part) → FailsAt q parts place → q (extended payload own) ≡ false → BlockLeft q (joined_to b payload place own parts) parts
joined_to_left q b payload place own parts at other = by (not (length own.bytes == block_start b)) (nat_lt longest_request (length own.bytes + length payload))
  where
    by : (c d : Bool) → BlockLeft q (cond c (answer.Incomplete, remove parts place) (cond d (answer.TooLarge, remove parts place) (answer_at place b, slice_set parts place (extended payload own)))) parts
    by true d = not_complete q answer.Incomplete (remove parts place) parts (λ k is. let e : answer.Incomplete ≡ answer.Complete k = is in cc) (filter_removed q parts place at)
    by false true = not_complete q answer.TooLarge (remove parts place) parts (λ k is. let e : answer.TooLarge ≡ answer.Complete k = is in cc) (filter_removed q parts place at)
    by false false = record {
      left = filter_set q parts place (extended payload own) at other;
      fails = λ k is. subst (FailsAt q (slice_set parts place (extended payload own))) (answer_place b.more place k is) (set_fails q parts place (extended payload own) other);
    }

module _ (q : Part → Bool) (o : Origin) (own_fails : (p : Part) → is_part_of o p ≡ true → q p ≡ false) (same_part : (payload : List ℕ) (p : Part) → q (extended payload p) ≡ q p) where
  joined_left : (b : Block) (payload : List ℕ) (parts : List Part) → BlockLeft q (joined o b payload parts) parts
  joined_left b payload parts = by (place_of o parts) refl
    where
      by : (at : Option ℕ) → place_of o parts ≡ at → BlockLeft q (joined_at b payload at parts) parts
      by None is = not_complete q answer.Incomplete parts parts (λ k e. let f : answer.Incomplete ≡ answer.Complete k = e in cc) refl
      by (Some place) is =
          let inside = position-Some (is_part_of o) parts place (new_part (record { from = record { host = 0; port = 0 }; code = 0; path = [] }) 0) is in
          let own = own_fails (part_at place parts) inside.1 in
          joined_to_left q b payload place (part_at place parts) parts (fails_from q parts place _ inside.0 own) (same_part payload (part_at place parts) ∙ own)

  begun_left : (b : Block) (payload : List ℕ) (moment : ℕ) (others : List Part) → q (new_part o moment) ≡ false
      → BlockLeft q (begun (record { origin = o; block = b; payload = payload; moment = moment }) others) others
  begun_left b payload moment others other = by (nat_lt (length others) most_parts)
    where
      by : (c : Bool) → BlockLeft q (cond c (joined o b payload (others ++ new_part o moment ∷ [])) (answer.Full, others)) others
      by true =
          let rest = joined_left b payload (others ++ new_part o moment ∷ []) in
          record { left = rest.left ∙ beside q others (new_part o moment) other; fails = rest.fails }
      by false = not_complete q answer.Full others others (λ k e. let f : answer.Full ≡ answer.Complete k = e in cc) refl

  others_left : (parts : List Part) → filter q (other_parts o parts) ≡ filter q parts
  others_left parts = ap (filter q) (place_removed (is_part_of o) parts (place_of o parts) refl) ∙ filter_rest q (is_part_of o) own_fails parts

  block_left : (b : Block) (payload : List ℕ) (moment : ℕ) (parts : List Part) → q (new_part o moment) ≡ false
      → BlockLeft q (after_block (record { origin = o; block = b; payload = payload; moment = moment }) parts) parts
  block_left b payload moment parts other = by (is_bad b payload) (b.number == 0)
    where
      by : (c d : Bool) → BlockLeft q (cond c (answer.BadBlock, parts) (cond d (begun (record { origin = o; block = b; payload = payload; moment = moment }) (other_parts o parts)) (joined o b payload parts))) parts
      by true d = not_complete q answer.BadBlock parts parts (λ k e. let f : answer.BadBlock ≡ answer.Complete k = e in cc) refl
      by false true =
          let rest = begun_left b payload moment (other_parts o parts) other in
          record { left = rest.left ∙ others_left parts; fails = rest.fails }
      by false false = joined_left b payload parts

-- those that live of what is left
living_left : (q : Part → Bool) (now : ℕ) (old new : List Part) → filter q new ≡ filter q (living now old) → filter q (living now new) ≡ filter q (living now old)
living_left q now old new same =
    let alive : Part → Bool = λ p. body_lives now p.moment in
    filter_commutes q alive new ∙ (ap (filter alive) same ∙ (sym (filter_commutes q alive (living now old)) ∙ ap (filter q) (twice alive old)))

of_block : (x from : Endpoint) (a : Arrival) (parts : List Part) → is_same_endpoint x from ≡ false → a.origin.from ≡ from → BlockLeft (λ p. is_same_endpoint x p.origin.from) (after_block a parts) parts
of_block x from a parts other of =
    let apart : is_same_endpoint x a.origin.from ≡ false = ap (is_same_endpoint x) of ∙ other in
    block_left (λ p. is_same_endpoint x p.origin.from) a.origin (λ p is. ap (is_same_endpoint x) (same_endpoint p.origin.from a.origin.from (own_from p a.origin is)) ∙ apart) (λ payload p. refl)
    a.block a.payload a.moment parts apart
  where
    first_of : (b c d : Bool) → (b && c && d) ≡ true → b ≡ true
    first_of true c d e = refl
    first_of false true true e = absurd cc
    first_of false true false e = absurd cc
    first_of false false true e = absurd cc
    first_of false false false e = absurd cc

    own_from : (p : Part) (o : Origin) → is_part_of o p ≡ true → is_same_endpoint p.origin.from o.from ≡ true
    own_from p o is = first_of (is_same_endpoint p.origin.from o.from) (p.origin.code == o.code) (is_same_path p.origin.path o.path) is

pub parts_left : (x from : Endpoint) (now : ℕ) (old new : List Part) → is_same_endpoint x from ≡ false → Joins from now old new → parts_of x (living now new) ≡ parts_of x (living now old)
parts_left x from now old new other (joins_none is) = ap (λ (l : List Part). parts_of x (living now l)) is
parts_left x from now old new other (joins_one a of is) =
    let its : Part → Bool = λ p. is_same_endpoint x p.origin.from in
    let left = of_block x from a (living now old) other of in
    living_left its now old new (ap (filter its) is ∙ left.left)
parts_left x from now old new other (takes_whole a place of whole is) =
    let its : Part → Bool = λ p. is_same_endpoint x p.origin.from in
    let left = of_block x from a (living now old) other of in
    living_left its now old new (ap (filter its) is ∙ (filter_removed its (after_block a (living now old)).1 place (left.fails place whole) ∙ left.left))
