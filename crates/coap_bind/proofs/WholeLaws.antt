-- The bodies of requests that came in blocks, and their paths, are no longer than they may be.
use Rattle.std.proofs.Common.{◌≡◌, ◌+◌, ◌-◌, ◌≤◌, ◌<◌, ◌∙◌, ℕ, Bool, true, false, not, List, [], ◌∷◌, ◌++◌, length, set, remove, slice_get, Option, Some, None, refl, ap, sym, subst, arith, length-append}
use Rattle.std.specs.Prelude.{◌==◌, nat_lt, map, IfSome, if◌then◌else◌}
use Rattle.std.specs.List.{filter}
use Rattle.std.proofs.lemmas.List.{length-set, get_or-set_same}
use Rattle.std.proofs.lemmas.List.Quantifiers.{position-Some}
use Rattle.std.proofs.lemmas.Option.{slice_get-get_or}
use Rattle.std.proofs.lemmas.Bool.Decides.{nat_tests}
use Rattle.coap_msg.specs.Blocks.{block_start}
use Rattle.coap_msg.specs.Grammar.{CoapOption, CoapMessage, Spells, extended, header, option_spelling, options_spelling, payload_spelling}
use Rattle.coap_opts.specs.Reading.{values_under}
use Rattle.coap_blocks.specs.Paths.{path_size}
use Rattle.coap_blocks.specs.Parts.{Arrival, Part, longest_request, most_parts, is_part_of, place_of, is_bad, extended as longer_part, joined_to, joined_at, joined, begun, new_part, part_at, other_parts, after_block, Gives}
use Rattle.coap_blocks.specs.declared.added.Added.{Added}
use Rattle.coap_blocks.specs.declared.added.Added.TheVariants as answer

-- ---- bodies that are completed

-- the part at a place is no longer than a request may be
abbrev pub IsShortAt : ℕ → List Part → Type 0
IsShortAt place parts = IfSome (slice_get parts place) (λ p. length p.bytes ≤ longest_request)

abbrev IsShort : ℕ → Added × List Part → Type 0
IsShort place said = said.0 ≡ answer.Complete place → IsShortAt place said.1

some_short : (n : ℕ) (o : Option Part) (p : Part) → o ≡ Some p → length p.bytes ≤ n → IfSome o (λ x. length x.bytes ≤ n)
some_short n o p is short = subst (λ (x : Option Part). IfSome x (λ y. length y.bytes ≤ n)) (sym is) short

joined_to_short : (a : Arrival) (place i : ℕ) (own : Part) (parts : List Part) → i < length parts → IsShort place (joined_to a.block a.payload i own parts)
joined_to_short a place i own parts within =
    by_tests (length own.bytes == block_start a.block) (nat_lt longest_request (length own.bytes + length a.payload)) a.block.more refl
  where
    by_tests : (goes_on long more : Bool) → nat_lt longest_request (length own.bytes + length a.payload) ≡ long
        → IsShort place (if not goes_on then (answer.Incomplete, remove parts i) else if long then (answer.TooLarge, remove parts i) else ((if more then answer.Continue else answer.Complete i), set parts i (longer_part a.payload own)))
    by_tests false long more t e = absurd cc
    by_tests true true more t e = absurd cc
    by_tests true false true t e = absurd cc
    by_tests true false false t e =
        let same : i ≡ place = cc in
        let few : length own.bytes + length a.payload ≤ longest_request = grind (arith, nat_tests) in
        let there : slice_get (set parts i (longer_part a.payload own)) i ≡ Some (longer_part a.payload own) =
        slice_get-get_or (set parts i (longer_part a.payload own)) i own (omega (arith, length-set parts i (longer_part a.payload own)))
        ∙ ap (λ (y : Part). Some y) (get_or-set_same parts i (longer_part a.payload own) own within) in
        subst (λ (n : ℕ). IsShortAt n (set parts i (longer_part a.payload own))) same
        (some_short longest_request (slice_get (set parts i (longer_part a.payload own)) i) (longer_part a.payload own) there (omega (arith, length-append own.bytes a.payload)))

-- a part that is in no list
abbrev no_part : Part
no_part = new_part (record { from = record { host = 0; port = 0 }; code = 0; path = [] }) 0

joined_short : (a : Arrival) (place : ℕ) (parts : List Part) → IsShort place (joined a.origin a.block a.payload parts)
joined_short a place parts = by_place (place_of a.origin parts) refl
  where
    by_place : (o : Option ℕ) → place_of a.origin parts ≡ o → IsShort place (joined_at a.block a.payload o parts)
    by_place None e = λ is. absurd cc
    by_place (Some i) e =
        let at = position-Some (is_part_of a.origin) parts i no_part e in
        joined_to_short a place i (part_at i parts) parts at.0

begun_short : (a : Arrival) (place : ℕ) (others : List Part) → IsShort place (begun a others)
begun_short a place others = by_test (nat_lt (length others) most_parts)
  where
    by_test : (b : Bool) → IsShort place (if b then joined a.origin a.block a.payload (others ++ new_part a.origin a.moment ∷ []) else (answer.Full, others))
    by_test true = joined_short a place (others ++ new_part a.origin a.moment ∷ [])
    by_test false = λ is. absurd cc

added_short : (a : Arrival) (place : ℕ) (parts : List Part) → IsShort place (after_block a parts)
added_short a place parts = by_tests (is_bad a.block a.payload) (a.block.number == 0)
  where
    by_tests : (bad first : Bool) → IsShort place (if bad then (answer.BadBlock, parts) else if first then begun a (other_parts a.origin parts) else joined a.origin a.block a.payload parts)
    by_tests true first = λ is. absurd cc
    by_tests false true = begun_short a place (other_parts a.origin parts)
    by_tests false false = joined_short a place parts

pub whole_is_short : (a : Arrival) (parts after : List Part) (place : ℕ) → Gives (after_block a parts) (answer.Complete place) after → IsShortAt place after
whole_is_short a parts after place gives = subst (IsShortAt place) (sym gives.parts_are) (added_short a place parts (sym gives.answer_is))

-- ---- paths

option_more : (last : ℕ) (o : CoapOption) → 1 + length o.1 ≤ length (option_spelling last o)
unfolding option_spelling
option_more last o = omega (arith, length-append (extended (o.0 - last) ++ extended (length o.1)) o.1)

path_at : (last number : ℕ) (os : List CoapOption) → path_size (values_under number os) ≤ length (options_spelling last os)
path_at last number [] = omega arith
path_at last number (o ∷ os) = by_test (o.0 == number) (path_at o.0 number os)
  where
    by_test : (b : Bool) → path_size (values_under number os) ≤ length (options_spelling o.0 os) → path_size (map (λ (x : CoapOption). x.1) (if b then o ∷ filter (λ x. x.0 == number) os else filter (λ x. x.0 == number) os)) ≤ length (options_spelling last (o ∷ os))
    by_test true more = let one = option_more last o in omega (arith, length-append (option_spelling last o) (options_spelling o.0 os))
    by_test false more = omega (arith, length-append (option_spelling last o) (options_spelling o.0 os))

-- the path of a request is no larger than its datagram
pub path_is_short : (m : CoapMessage) (bytes : List ℕ) (n number : ℕ) → Spells m bytes → length bytes ≤ n → path_size (values_under number m.options) ≤ n
path_is_short m bytes n number spells few =
    let of_path = path_at 0 number m.options in
    omega (
      arith,
      ap (λ (b : List ℕ). length b) spells.bytes_are,
      length-append (header m) (m.token ++ (options_spelling 0 m.options ++ payload_spelling m.payload)),
      length-append m.token (options_spelling 0 m.options ++ payload_spelling m.payload),
      length-append (options_spelling 0 m.options) (payload_spelling m.payload),
    )

-- a body that is short enough for less room is for more
pub short_in_room : (o : Option Part) (n m : ℕ) → n ≤ m → IfSome o (λ p. length p.bytes ≤ n) → IfSome o (λ p. length p.bytes ≤ m)
short_in_room None n m more short = tt
short_in_room (Some p) n m more short = omega arith
