-- Laws of writing one piece after another.
use Rattle.std.proofs.Common.{◌≡◌, ℕ, ◌+◌, ◌<◌, List, [], ◌∷◌, ◌++◌, length, take, sym, ap, subst, ◌∙◌, arith, append_assoc, length-append, get_or}
use Rattle.std.specs.Prelude.{Option, Some, None}
use Rattle.std.specs.List.{flat_map}
use Rattle.std.proofs.lemmas.List.{append-nil, take_more}
use Rattle.std.proofs.lemmas.List.Folds.{length-flat_map-take}
use Rattle.std.proofs.lemmas.Grind.{flat_map-append}
use Rattle.servient_base.proofs.Lists.{drop-further}
use Rattle.servient_base.specs.Writing.{Puts, PutsIfRoom}

-- one text was written, and then another after it
pub puts_then : (s t : List ℕ) (at mid end : ℕ) (before between now : List ℕ) → Puts s at mid before between → Puts t mid end between now → Puts (s ++ t) at end before now
puts_then s t at mid end before between now a b = record {
  end_is = omega (arith, a.end_is, b.end_is, length-append s t);
  within = b.within;
  prefix = b.prefix ∙ ap (λ (xs : List ℕ). xs ++ t) a.prefix ∙ append_assoc (take at before) s t;
  rest = b.rest ∙ drop-further mid end between before (omega (arith, b.end_is)) a.rest;
}

-- one text was written, and for the next there was no room
pub no_room_then : (s t : List ℕ) (at mid : ℕ) (before between : List ℕ) → length between ≡ length before → Puts s at mid before between → length between < mid + length t → length before < at + length (s ++ t)
no_room_then s t at mid before between same a short = omega (arith, same, short, a.end_is, length-append s t)

-- one text was written, and then another after it if there was room for that
pub puts_then_if_room : (s t : List ℕ) (at mid : ℕ) (before between now : List ℕ) (r : Option ℕ) → length between ≡ length before → Puts s at mid before between → PutsIfRoom t mid between now r → PutsIfRoom (s ++ t) at before now r
puts_then_if_room s t at mid before between now (Some end) same a b = puts_then s t at mid end before between now a b
puts_then_if_room s t at mid before between now None same a b = no_room_then s t at mid before between same a b

-- the texts of some elements and of one more
texts_more : {X : Type 0} (f : X → List ℕ) (xs : List X) (i : ℕ) (d x : X) → i < length xs → x ≡ get_or xs i d → flat_map f (take (i + 1) xs) ≡ flat_map f (take i xs) ++ f x
texts_more {X} f xs i d x within is =
    ap (λ (ys : List X). flat_map f ys) (take_more xs i d within) ∙ flat_map-append f (take i xs) (get_or xs i d ∷ [])
    ∙ ap (λ (t : List ℕ). flat_map f (take i xs) ++ t) (append-nil (f (get_or xs i d)))
    ∙ ap (λ (y : X). flat_map f (take i xs) ++ f y) (sym is)

-- the texts of some elements were written, and that of one more after them
pub puts_more : {X : Type 0} (f : X → List ℕ) (xs : List X) (i : ℕ) (d x : X) (at mid end : ℕ) (before between now : List ℕ) → i < length xs → x ≡ get_or xs i d → Puts (flat_map f (take i xs)) at mid before between → Puts (f x) mid end between now → Puts (flat_map f (take (i + 1) xs)) at end before now
puts_more {X} f xs i d x at mid end before between now within is a b =
    subst (λ (t : List ℕ). Puts t at end before now) (sym (texts_more f xs i d x within is))
    (puts_then (flat_map f (take i xs)) (f x) at mid end before between now a b)

-- the texts of some elements were written, and for that of one more there was no room
pub no_room_more : {X : Type 0} (f : X → List ℕ) (xs : List X) (i : ℕ) (d x : X) (at mid : ℕ) (before between : List ℕ) → i < length xs → x ≡ get_or xs i d → length between ≡ length before → Puts (flat_map f (take i xs)) at mid before between → length between < mid + length (f x) → length before < at + length (flat_map f xs)
no_room_more {X} f xs i d x at mid before between within is same a short =
    let of_it : length (f x) ≡ length (f (get_or xs i d)) = ap (λ (y : X). length (f y)) is in
    omega (arith, same, short, a.end_is, of_it, length-flat_map-take f xs i d within)

-- three texts were written one after another, and then a fourth if there was room for it
pub puts_fourth_if_room : (s t u v : List ℕ) (at p q r : ℕ) (o0 o1 o2 o3 o4 : List ℕ) (end : Option ℕ) → length o1 ≡ length o0 → length o2 ≡ length o1 → length o3 ≡ length o2 → Puts s at p o0 o1 → Puts t p q o1 o2 → Puts u q r o2 o3 → PutsIfRoom v r o3 o4 end → PutsIfRoom (s ++ (t ++ (u ++ v))) at o0 o4 end
puts_fourth_if_room s t u v at p q r o0 o1 o2 o3 o4 end one two three a b c d =
    puts_then_if_room s (t ++ (u ++ v)) at p o0 o1 o4 end one a
    (puts_then_if_room t (u ++ v) p q o1 o2 o4 end two b (puts_then_if_room u v q r o2 o3 o4 end three c d))

-- two texts were written one after another, and for a third there was no room, so not for a fourth either
pub no_room_for_third : (s t u v : List ℕ) (at p q : ℕ) (o0 o1 o2 : List ℕ) → length o1 ≡ length o0 → length o2 ≡ length o1 → Puts s at p o0 o1 → Puts t p q o1 o2 → length o2 < q + length u → length o0 < at + length (s ++ (t ++ (u ++ v)))
no_room_for_third s t u v at p q o0 o1 o2 one two a b short =
    omega (arith, one, two, short, a.end_is, b.end_is, length-append s (t ++ (u ++ v)), length-append t (u ++ v), length-append u v)
