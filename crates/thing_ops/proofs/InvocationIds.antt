-- Ids of invocations are spellings of numbers.
use Rattle.std.proofs.Common.{◌≡◌, ℕ, ◌<◌, ◌≤◌, ◌^◌, List, [], ◌∷◌, codes, ◌↔◌, Bool, true, false, ◌&&◌, cond, decimal, Option, refl, ap, subst, sym, ◌∙◌, arith}
use Rattle.std.specs.Prelude.{Some, None, IsUtf8, nat_le}
use Rattle.std.specs.Str.{bytes_eq, is_utf8}
use Rattle.std.specs.Str.Parse.{digits_value}
use Rattle.std.proofs.lemmas.Bool.{leb-true, le-leb}
use Rattle.std.proofs.lemmas.Fmt.{decimal_is_IsNumeral, IsAscii-decimal}
use Rattle.std.proofs.lemmas.Str.{IsUtf8-from_ascii, IsUtf8-from_is_utf8}
use Rattle.std.proofs.lemmas.Slice.Eq.{bytes_eq-Decides}
use Rattle.thing_ops.specs.declared.routing.RouteKind.{RouteKind}
use Rattle.thing_ops.specs.declared.routing.RouteKind.TheVariants as route
use Rattle.thing_ops.specs.Routes.{invocation_id, number_of_id, route_of}

-- three tests that hold, and the parts of three that hold together
all_three : (a b c : Bool) → a ≡ true → b ≡ true → c ≡ true → (a && b && c) ≡ true
all_three true true true one two three = refl
all_three true true false one two three = three
all_three true false c one two three = two
all_three false b c one two three = one

each_of_three : (a b c : Bool) → (a && b && c) ≡ true → (a ≡ true) × (b ≡ true) × (c ≡ true)
each_of_three true true true all = (refl, refl, refl)
each_of_three true true false all = (refl, refl, all)
each_of_three true false c all = absurd cc
each_of_three false b c all = absurd cc

unless : (b : Bool) (n : ℕ) → (b ≡ true → ⊥) → ◌≡◌ {A = Option ℕ} (cond b (Some n) None) None
unless true n never = absurd (never refl)
unless false n never = refl

-- the spelling of a number from 1 on that isn't too large is an id, and that number its value
pub spelling_is_id : (text : List ℕ) (n : ℕ) → 1 ≤ n → n ≤ 4294967295 → text ≡ decimal n → (invocation_id text ≡ true) × (digits_value 10 text ≡ n)
spelling_is_id text n some small is =
    let fits : n < 2 ^ 64 = omega arith in
    let value : digits_value 10 text ≡ n = ap (digits_value 10) is ∙ (decimal_is_IsNumeral n fits).1 in
    let all : (nat_le 1 n && nat_le n 4294967295 && bytes_eq text (decimal n)) ≡ true =
    all_three _ _ _ (le-leb 1 n some) (le-leb n 4294967295 small) ((bytes_eq-Decides text (decimal n)).1 is) in
    (subst (λ (v : ℕ). (nat_le 1 v && nat_le v 4294967295 && bytes_eq text (decimal v)) ≡ true) (sym value) all, value)

-- an id is the spelling of its value
id_is_spelling : (text : List ℕ) → invocation_id text ≡ true → (1 ≤ digits_value 10 text) × (digits_value 10 text ≤ 4294967295) × (text ≡ decimal (digits_value 10 text))
id_is_spelling text is =
    let each = each_of_three _ _ _ is in
    (leb-true _ _ each.0, leb-true _ _ each.1, (bytes_eq-Decides text (decimal (digits_value 10 text))).0 each.2)

-- it is the id that it spells
pub number_of_spelling : (text : List ℕ) (n : ℕ) → 1 ≤ n → n ≤ 4294967295 → text ≡ decimal n → number_of_id text ≡ Some n
number_of_spelling text n some small is =
    let id = spelling_is_id text n some small is in
    ap (λ (b : Bool). cond b (Some (digits_value 10 text)) None) id.0 ∙ ap (λ (v : ℕ). Some v) id.1

-- a text that is no such spelling is no id
pub number_of_none : (text : List ℕ) → ((n : ℕ) → 1 ≤ n → n ≤ 4294967295 → text ≡ decimal n → ⊥) → number_of_id text ≡ None
number_of_none text none =
    unless (invocation_id text) (digits_value 10 text)
    (λ is. let spelled = id_is_spelling text is in none (digits_value 10 text) spelled.0 spelled.1 spelled.2)

-- bytes that aren't UTF-8 are no id
pub number_of_bytes : (bytes : List ℕ) → (IsUtf8 bytes → ⊥) → number_of_id bytes ≡ None
number_of_bytes bytes isnt =
    number_of_none bytes (λ n some small is. isnt (subst (λ (bs : List ℕ). IsUtf8 bs) (sym is) (IsUtf8-from_ascii (decimal n) (IsAscii-decimal n (omega arith)))))

-- a test that can't hold
fails : (b : Bool) → (b ≡ true → ⊥) → b ≡ false
fails true never = absurd (never refl)
fails false never = refl

-- the test of what isn't UTF-8
pub isnt_text : (bytes : List ℕ) → (IsUtf8 bytes → ⊥) → is_utf8 bytes ≡ false
isnt_text bytes isnt = fails (is_utf8 bytes) (λ is. isnt (IsUtf8-from_is_utf8 bytes is))

-- the route of a path that has actions in the place of the kind, by three tests of its last segment
by_last : (observe subscribe id : Bool) (n : ℕ) → cond (((observe && true) && false) && true) route.Observe (cond (((subscribe && true) && false) && true) route.Subscribe (cond (((id && true) && true) && true) (route.Invocation n) route.Nowhere)) ≡ cond id (route.Invocation n) route.Nowhere
by_last true true true n = refl
by_last true true false n = refl
by_last true false true n = refl
by_last true false false n = refl
by_last false true true n = refl
by_last false true false n = refl
by_last false false true n = refl
by_last false false false n = refl

route_by_last : (thing name id : List ℕ) → route_of (thing ∷ codes "actions" ∷ name ∷ id ∷ []) ≡ cond (invocation_id id) (route.Invocation (digits_value 10 id)) route.Nowhere
route_by_last thing name id = by_last (bytes_eq id (codes "observe")) (bytes_eq id (codes "subscribe")) (invocation_id id) (digits_value 10 id)

-- the number of an invocation
number : RouteKind → ℕ
number (route.Invocation n) = n
number _ = 0

chosen : (b : Bool) (v n : ℕ) → cond b (route.Invocation v) route.Nowhere ≡ route.Invocation n → (b ≡ true) × (v ≡ n)
unfolding number
chosen true v n is = (refl, ap number is)
chosen false v n is = absurd cc

-- a path leads to an invocation exactly where its last segment spells the id
pub spelled_exactly : (thing name id : List ℕ) (n : ℕ) → (route_of (thing ∷ codes "actions" ∷ name ∷ id ∷ []) ≡ route.Invocation n) ↔ ((1 ≤ n) × (n ≤ 4294967295) × (id ≡ decimal n))
spelled_exactly thing name id n = (
  λ leads. let it = chosen (invocation_id id) (digits_value 10 id) n (sym (route_by_last thing name id) ∙ leads) in
      subst (λ (v : ℕ). (1 ≤ v) × (v ≤ 4294967295) × (id ≡ decimal v)) it.1 (id_is_spelling id it.0),
  λ spells. let it = spelling_is_id id n spells.0 spells.1 spells.2 in
      route_by_last thing name id ∙ ap (λ (b : Bool). cond b (route.Invocation (digits_value 10 id)) route.Nowhere) it.0 ∙ ap (λ (v : ℕ). route.Invocation v) it.1,
)
