-- Handlers that forget one after another.
use Rattle.std.proofs.Common.{◌≡◌, ℕ, zero, suc, ◌+◌, ◌<◌, List, [], ◌∷◌, length, map, take, drop, ◌++◌, set, get_or, Some, refl, sym, ap, subst, ◌∙◌, arith}
use Rattle.std.specs.Prelude.{slice_get}
use Rattle.std.proofs.lemmas.Option.{same_Some, slice_get-map, slice_get_read}
use Rattle.std.proofs.lemmas.List.{map-set, length-map}
use Rattle.std.proofs.Math.Seq.{take-append_seam}
use Rattle.thing_handler.specs.Handler.{Seen, forgotten}

-- the first n have forgotten
abbrev pub forgotten_first : ℕ → List Seen → List Seen
forgotten_first zero slots = slots
forgotten_first (suc n) [] = []
forgotten_first (suc n) (h ∷ slots) = forgotten h ∷ forgotten_first n slots

-- all have
pub all_forgot : (slots : List Seen) (n : ℕ) → n ≡ length slots → forgotten_first n slots ≡ map forgotten slots
all_forgot [] zero e = refl
all_forgot [] (suc n) e = refl
all_forgot (h ∷ slots) zero e = absurd (omega (arith, e))
all_forgot (h ∷ slots) (suc n) e = ap (λ rest. forgotten h ∷ rest) (all_forgot slots n (omega (arith, e)))

-- one more does
pub one_more_forgot : (slots : List Seen) (n : ℕ) (h : Seen) → slice_get (forgotten_first n slots) n ≡ Some h → set (forgotten_first n slots) n (forgotten h) ≡ forgotten_first (suc n) slots
one_more_forgot [] zero h stood = absurd cc
one_more_forgot [] (suc n) h stood = absurd cc
one_more_forgot (k ∷ slots) zero h stood =
    let same : k ≡ h = same_Some k h stood in
    ap (λ (x : Seen). forgotten x ∷ slots) (sym same)
one_more_forgot (k ∷ slots) (suc n) h stood = ap (λ rest. forgotten k ∷ rest) (one_more_forgot slots n h stood)

-- one more item of a list does
pub item_forgot : {A : Type 0} (xs : List A) (seen : A → Seen) (slots : List Seen) (n m : ℕ) (x y : A) → m ≡ n + 1 → n < length xs → x ≡ get_or xs n x → seen y ≡ forgotten (seen (get_or xs n x)) → map seen xs ≡ forgotten_first n slots → map seen (set xs n y) ≡ forgotten_first m slots
item_forgot xs seen slots n m x y next within at forgot before =
    let was : slice_get (map seen xs) n ≡ Some (seen x) = rw (slice_get-map seen xs n, slice_get_read xs (length xs) n x refl within at) refl in
    let stood : slice_get (forgotten_first n slots) n ≡ Some (seen x) = subst (λ (hs : List Seen). slice_get hs n ≡ Some (seen x)) before was in
    let more : m ≡ suc n = omega (arith, next) in
    map-set seen xs n y
    ∙ ap (λ (h : Seen). set (map seen xs) n h) (forgot ∙ ap (λ z. forgotten (seen z)) (sym at))
    ∙ ap (λ (hs : List Seen). set hs n (forgotten (seen x))) before
    ∙ one_more_forgot slots n (seen x) stood
    ∙ ap (λ (k : ℕ). forgotten_first k slots) (sym more)

-- all items of a list that was lent do
pub list_forgot : {A : Type 0} (old lent items : List A) (seen : A → Seen) (len n : ℕ) → length items ≡ length lent → length lent ≡ len → lent ≡ old → n ≡ length lent → map seen items ≡ forgotten_first n (map seen lent) → map seen (take len (items ++ drop (length items) old)) ≡ map forgotten (map seen old)
list_forgot old lent items seen len n as_long lent_length same last forgot =
    let whole : len ≡ length items = omega (arith, as_long, lent_length) in
    let many : n ≡ length (map seen lent) = last ∙ sym (length-map lent seen) in
    ap (λ (k : ℕ). map seen (take k (items ++ drop (length items) old))) whole
    ∙ ap (map seen) (take-append_seam items (drop (length items) old))
    ∙ forgot ∙ all_forgot (map seen lent) n many
    ∙ ap (λ xs. map forgotten (map seen xs)) same
