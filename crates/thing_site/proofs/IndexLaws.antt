-- The Thing that a binary search over an index finds, and the making of an index.
use Rattle.std.proofs.Common.{◌≡◌, ℕ, zero, suc, ◌+◌, ◌<◌, ◌≤◌, List, [], ◌∷◌, ◌++◌, length, take, get_or, Bool, true, false, cond, refl, sym, ap, subst, inl, inr, ◌∙◌, arith}
use Rattle.std.specs.Prelude.{Option, Some, None, slice_get, insert}
use Rattle.std.specs.List.{AllByRecursion, HoldsAt}
use Rattle.std.specs.List.Sorted.{IsNonDecreasingBy, IsPartitionPoint}
use Rattle.std.specs.Str.{bytes_eq}
use Rattle.std.specs.Ordering.{nat_cmp, ordering_index, ordering_reverse, is_eq, is_lt}
use Rattle.std.specs.declared.cmp.Ordering.{Ordering}
use Rattle.std.specs.declared.cmp.Ordering.TheVariants.{Less, Equal, Greater}
use Rattle.std.specs.Cmp.Lexicographic.{slice_cmp, nat_list_cmp_total}
use Rattle.std.proofs.lemmas.Bool.{cases_lt}
use Rattle.std.proofs.lemmas.List.{take_all}
use Rattle.std.proofs.lemmas.Option.{same_Some, slice_get_cases, slice_get_read}
use Rattle.std.proofs.lemmas.Slice.Eq.{bytes_eq-Decides}
use Rattle.std.proofs.lemmas.List.Sorted.{searchable_from_sorted}
use Rattle.std.proofs.lemmas.Cmp.{alike_right}
use Rattle.std.proofs.lemmas.Map.Text.{is_eq-slice_cmp}
use Rattle.thing_site.specs.Site.{ExposedThing, thing_named}
use Rattle.thing_site.specs.Index.{segment_of, segment_at, segment_order, thing_among, SegmentsRise, Indexes}

-- ---- the order at any two places

-- a fact of all of a list is one of that at a place
at_place : (P : ℕ → Type 0) (ns : List ℕ) (i d : ℕ) → AllByRecursion P ns → i < length ns → P (get_or ns i d)
at_place P [] i d all within = absurd (omega arith)
at_place P (n ∷ ns) zero d all within = all.0
at_place P (n ∷ ns) (suc i) d all within = at_place P ns i d all.1 (omega arith)

-- the order of the segments of two numbers
abbrev between : List ExposedThing → ℕ → ℕ → Ordering
between site n m = slice_cmp nat_cmp (segment_at site n) (segment_at site m)

earlier_segment : (site : List ExposedThing) (ns : List ℕ) → SegmentsRise site ns → (i j d : ℕ) → i < j → j < length ns → between site (get_or ns i d) (get_or ns j d) ≡ Less
earlier_segment site [] rise i j d below within = absurd (omega arith)
earlier_segment site (n ∷ ns) rise i zero d below within = absurd (omega arith)
earlier_segment site (n ∷ ns) rise zero (suc j) d below within = at_place (λ m. between site n m ≡ Less) ns j d rise.0 (omega arith)
earlier_segment site (n ∷ ns) rise (suc i) (suc j) d below within = earlier_segment site ns rise.1 i j d (omega arith) (omega arith)

-- ---- a binary search

segments_rise : (site : List ExposedThing) (ns segment : List ℕ) → SegmentsRise site ns → IsNonDecreasingBy (λ n. ordering_index (segment_order site segment n)) ns
segments_rise site ns segment rise = searchable_from_sorted nat_list_cmp_total (segment_at site) ns segment
    (λ i d low within. ap is_lt (nat_list_cmp_total.antisymm (segment_at site (get_or ns (i + 1) d)) (segment_at site (get_or ns i d))
    ∙ ap ordering_reverse (earlier_segment site ns rise i (i + 1) d (omega arith) within)))

test_of : (a segment : List ℕ) (o : Ordering) → slice_cmp nat_cmp a segment ≡ o → bytes_eq segment a ≡ is_eq (ordering_reverse o)
test_of a segment o is = sym (is_eq-slice_cmp segment a) ∙ ap is_eq (nat_list_cmp_total.antisymm segment a ∙ ap ordering_reverse is)

-- the one at a place that compares as equal is the one among them
found_among : (site : List ExposedThing) (ns segment : List ℕ) (i d : ℕ) → SegmentsRise site ns → i < length ns → segment_order site segment (get_or ns i d) ≡ Equal
    → slice_get site (get_or ns i d) ≡ thing_among segment site ns
found_among site [] segment i d rise within same = absurd (omega arith)
found_among site (n ∷ ns) segment zero d rise within same = rw (test_of (segment_at site n) segment Equal same) refl
found_among site (n ∷ ns) segment (suc i) d rise within same =
    let less : segment_order site segment n ≡ Less =
    sym (alike_right nat_list_cmp_total (segment_at site (get_or ns i d)) segment (segment_at site n) same) ∙ at_place (λ m. between site n m ≡ Less) ns i d rise.0 (omega arith) in
    rw (test_of (segment_at site n) segment Less less) (found_among site ns segment i d rise.1 (omega arith) same)

-- each of these compares otherwise
abbrev AllDiffer : List ExposedThing → List ℕ → List ℕ → Type 0
AllDiffer site segment ns = AllByRecursion (λ n. bytes_eq segment (segment_at site n) ≡ false) ns

none_among : (site : List ExposedThing) (ns segment : List ℕ) → AllDiffer site segment ns → None ≡ thing_among segment site ns
none_among site [] segment differ = refl
none_among site (n ∷ ns) segment differ = rw differ.0 (none_among site ns segment differ.1)

-- where a search ends between two
abbrev Parted : List ExposedThing → List ℕ → List ℕ → ℕ → Type 0
Parted site segment ns place = IsPartitionPoint (λ n. segment_order site segment n ≡ Less) (λ n. segment_order site segment n ≡ Greater) ns place

abbrev IsBetween : List ExposedThing → List ℕ → List ℕ → ℕ → Type 0
IsBetween site segment ns place = IsNonDecreasingBy (λ n. ordering_index (segment_order site segment n)) ns → Parted site segment ns place

parted_differ : (site : List ExposedThing) (ns segment : List ℕ) (place : ℕ) → Parted site segment ns place → AllDiffer site segment ns
parted_differ site ns segment place parts = all_of ns (λ k d within. elim (cases_lt k place) [
  | inl below ↦ test_of (segment_at site (get_or ns k d)) segment Less (parts.0 k d (omega arith) below)
  | inr above ↦ test_of (segment_at site (get_or ns k d)) segment Greater (parts.1 k d above within)
])
  where
    all_of : (ms : List ℕ) → ((k d : ℕ) → k < length ms → bytes_eq segment (segment_at site (get_or ms k d)) ≡ false) → AllDiffer site segment ms
    all_of [] each = tt
    all_of (m ∷ ms) each = (each 0 0 (omega arith), all_of ms (λ k d within. each (suc k) d (omega arith)))

pub found_thing : (site things : List ExposedThing) (ns segment : List ℕ) (i d : ℕ) → Indexes site ns things → i < length ns → HoldsAt (λ m. segment_order site segment m ≡ Equal) ns i
    → slice_get site (get_or ns i d) ≡ thing_named segment things
found_thing site things ns segment i d index within equal = found_among site ns segment i d index.rise within (equal d) ∙ sym (index.same segment)

pub missing_thing : (site things : List ExposedThing) (ns segment : List ℕ) (i : ℕ) → Indexes site ns things → IsBetween site segment ns i → None ≡ thing_named segment things
missing_thing site things ns segment i index between =
    none_among site ns segment (parted_differ site ns segment i (between (segments_rise site ns segment index.rise))) ∙ sym (index.same segment)

-- ---- a further number

all_inserted : (P : ℕ → Type 0) (ns : List ℕ) (place m : ℕ) → AllByRecursion P ns → P m → AllByRecursion P (insert ns place m)
all_inserted P [] zero m all one = (one, tt)
all_inserted P [] (suc place) m all one = (one, tt)
all_inserted P (n ∷ ns) zero m all one = (one, all)
all_inserted P (n ∷ ns) (suc place) m all one = (all.0, all_inserted P ns place m all.1 one)

rise_inserted : (site : List ExposedThing) (ns : List ℕ) (place m : ℕ) → SegmentsRise site ns → Parted site (segment_at site m) ns place → SegmentsRise site (insert ns place m)
rise_inserted site [] zero m rise parts = (tt, tt)
rise_inserted site [] (suc place) m rise parts = (tt, tt)
rise_inserted site (n ∷ ns) zero m rise parts = (all_of (n ∷ ns) (λ k d within. parts.1 k d (omega arith) within), rise)
  where
    all_of : (ms : List ℕ) → ((k d : ℕ) → k < length ms → between site (get_or ms k d) m ≡ Greater) → AllByRecursion (λ x. between site m x ≡ Less) ms
    all_of [] each = tt
    all_of (x ∷ ms) each =
        (nat_list_cmp_total.antisymm (segment_at site m) (segment_at site x) ∙ ap ordering_reverse (each 0 0 (omega arith)), all_of ms (λ k d within. each (suc k) d (omega arith)))
rise_inserted site (n ∷ ns) (suc place) m rise parts = (
  all_inserted (λ x. between site n x ≡ Less) ns place m rise.0 (parts.0 0 0 (omega arith) (omega arith)),
  rise_inserted site ns place m rise.1 (λ k d low below. parts.0 (suc k) d (omega arith) (omega arith), λ k d low below. parts.1 (suc k) d (omega arith) (omega arith)),
)

-- another segment leads where it led
other_among : (site : List ExposedThing) (ns segment : List ℕ) (place m : ℕ) → bytes_eq segment (segment_at site m) ≡ false → thing_among segment site (insert ns place m) ≡ thing_among segment site ns
other_among site [] segment zero m other = rw other refl
other_among site [] segment (suc place) m other = rw other refl
other_among site (n ∷ ns) segment zero m other = rw other refl
other_among site (n ∷ ns) segment (suc place) m other =
    ap (λ (o : Option ExposedThing). cond (bytes_eq segment (segment_at site n)) (slice_get site n) o) (other_among site ns segment place m other)

-- its own segment leads to it
own_among : (site : List ExposedThing) (ns segment : List ℕ) (place m : ℕ) → bytes_eq segment (segment_at site m) ≡ true → AllDiffer site segment ns → thing_among segment site (insert ns place m) ≡ slice_get site m
own_among site [] segment zero m own differ = rw own refl
own_among site [] segment (suc place) m own differ = rw own refl
own_among site (n ∷ ns) segment zero m own differ = rw own refl
own_among site (n ∷ ns) segment (suc place) m own differ = rw differ.0 (own_among site ns segment place m own differ.1)

-- one Thing more

standing : (site : List ExposedThing) (k : ℕ) (t : ExposedThing) → slice_get site k ≡ Some t → take (k + 1) site ≡ take k site ++ t ∷ []
standing [] k t given = absurd cc
standing (u ∷ site) zero t given = ap (λ (x : ExposedThing). x ∷ []) (same_Some u t given)
standing (u ∷ site) (suc k) t given =
    let e : suc (k + 1) ≡ suc k + 1 = omega arith in
    subst (λ (n : ℕ). take n (u ∷ site) ≡ u ∷ (take k site ++ t ∷ [])) e (ap (λ (l : List ExposedThing). u ∷ l) (standing site k t given))

named_other : (segment : List ℕ) (xs : List ExposedThing) (t : ExposedThing) → bytes_eq segment t.segment ≡ false → thing_named segment (xs ++ t ∷ []) ≡ thing_named segment xs
named_other segment [] t other = rw other refl
named_other segment (x ∷ xs) t other = ap (λ (o : Option ExposedThing). cond (bytes_eq segment x.segment) (Some x) o) (named_other segment xs t other)

named_before : (segment : List ℕ) (xs : List ExposedThing) (t u : ExposedThing) → thing_named segment xs ≡ Some u → thing_named segment (xs ++ t ∷ []) ≡ Some u
named_before segment [] t u is = absurd cc
named_before segment (x ∷ xs) t u is = by_test (named_before segment xs t u) (bytes_eq segment x.segment) is
  where
    by_test : (thing_named segment xs ≡ Some u → thing_named segment (xs ++ t ∷ []) ≡ Some u)
        → (b : Bool) → cond b (Some x) (thing_named segment xs) ≡ Some u → cond b (Some x) (thing_named segment (xs ++ t ∷ [])) ≡ Some u
    by_test further true here = here
    by_test further false here = further here

named_last : (segment : List ℕ) (xs : List ExposedThing) (t : ExposedThing) → bytes_eq segment t.segment ≡ true → thing_named segment xs ≡ None → thing_named segment (xs ++ t ∷ []) ≡ Some t
named_last segment [] t own is = rw own refl
named_last segment (x ∷ xs) t own is = by_test (named_last segment xs t own) (bytes_eq segment x.segment) is
  where
    by_test : (thing_named segment xs ≡ None → thing_named segment (xs ++ t ∷ []) ≡ Some t)
        → (b : Bool) → cond b (Some x) (thing_named segment xs) ≡ None → cond b (Some x) (thing_named segment (xs ++ t ∷ [])) ≡ Some t
    by_test further true here = absurd cc
    by_test further false here = further here

-- an earlier one has its segment, and counts
index_same : (site : List ExposedThing) (ns : List ℕ) (k i : ℕ) (t : ExposedThing) → Indexes site ns (take k site) → slice_get site k ≡ Some t → i < length ns
    → HoldsAt (λ m. segment_order site (segment_at site k) m ≡ Equal) ns i → Indexes site ns (take (k + 1) site)
index_same site ns k i t index given within equal = record {
  rise = index.rise;
  stand = index.stand;
  same = λ segment. ap (thing_named segment) (standing site k t given) ∙ by_test segment (bytes_eq segment t.segment) refl ∙ index.same segment;
}
  where
    n : ℕ
    n = get_or ns i 0

    mine : segment_at site k ≡ t.segment
    mine = ap segment_of given

    earlier : (segment : List ℕ) → segment ≡ t.segment → (u : ExposedThing) → slice_get site n ≡ Some u → thing_named segment (take k site) ≡ Some u
    earlier segment is u there =
        index.same segment
        ∙ sym (found_among site ns segment i 0 index.rise within (subst (λ (s : List ℕ). segment_order site s n ≡ Equal) (mine ∙ sym is) (equal 0)))
        ∙ there

    by_test : (segment : List ℕ) → (b : Bool) → bytes_eq segment t.segment ≡ b → thing_named segment (take k site ++ t ∷ []) ≡ thing_named segment (take k site)
    by_test segment false e = named_other segment (take k site) t e
    by_test segment true e = elim (slice_get_cases site n).1 [
      | inl stands ↦ (
          let before : thing_named segment (take k site) ≡ Some stands.0 = earlier segment ((bytes_eq-Decides segment t.segment).0 e) stands.0 stands.2 in
          named_before segment (take k site) t stands.0 before ∙ sym before
          )
      | inr past ↦ absurd (omega (arith, past.0, at_place (λ m. m < length site) ns i 0 index.stand within))
    ]

-- none has its segment, and it is put in
index_new : (site : List ExposedThing) (ns : List ℕ) (k place : ℕ) (t : ExposedThing) → Indexes site ns (take k site) → slice_get site k ≡ Some t → k < length site
    → IsBetween site (segment_at site k) ns place → Indexes site (insert ns place k) (take (k + 1) site)
index_new site ns k place t index given within between = record {
  rise = rise_inserted site ns place k index.rise parts;
  stand = all_inserted (λ m. m < length site) ns place k index.stand within;
  same = λ segment. ap (thing_named segment) (standing site k t given) ∙ by_test segment (bytes_eq segment t.segment) refl;
}
  where
    mine : segment_at site k ≡ t.segment
    mine = ap segment_of given

    parts : Parted site (segment_at site k) ns place
    parts = between (segments_rise site ns (segment_at site k) index.rise)

    by_test : (segment : List ℕ) → (b : Bool) → bytes_eq segment t.segment ≡ b → thing_named segment (take k site ++ t ∷ []) ≡ thing_among segment site (insert ns place k)
    by_test segment false e =
        named_other segment (take k site) t e ∙ index.same segment ∙ sym (other_among site ns segment place k (ap (bytes_eq segment) mine ∙ e))
    by_test segment true e =
        let is : segment_at site k ≡ segment = mine ∙ sym ((bytes_eq-Decides segment t.segment).0 e) in
        let differ : AllDiffer site segment ns = subst (λ (s : List ℕ). AllDiffer site s ns) is (parted_differ site ns (segment_at site k) place parts) in
        named_last segment (take k site) t e (index.same segment ∙ sym (none_among site ns segment differ))
        ∙ sym given ∙ sym (own_among site ns segment place k (ap (bytes_eq segment) mine ∙ e) differ)

-- a Thing of this number is there
there : (site : List ExposedThing) (k : ℕ) → k < length site → (t : ExposedThing) × (slice_get site k ≡ Some t)
there site k within = elim (slice_get_cases site k).1 [
  | inl stands ↦ (stands.0, stands.2)
  | inr past ↦ absurd (omega (arith, past.0, within))
]

-- the same after a search in the index that the code has, for the segment that it reads
pub added_same : (site : List ExposedThing) (ns ms segment : List ℕ) (k i : ℕ) → Indexes site ns (take k site) → k < length site → ms ≡ ns → segment ≡ segment_at site k → i < length ms
    → HoldsAt (λ m. segment_order site segment m ≡ Equal) ms i → Indexes site ns (take (k + 1) site)
added_same site ns ms segment k i index within same own inside equal =
    let t = there site k within in
    index_same site ns k i t.0 index t.1 (subst (λ (l : List ℕ). i < length l) same inside)
    (subst (λ (l : List ℕ). HoldsAt (λ m. segment_order site (segment_at site k) m ≡ Equal) l i) same
    (subst (λ (s : List ℕ). HoldsAt (λ m. segment_order site s m ≡ Equal) ms i) own equal))

pub added_new : (site : List ExposedThing) (ns ms segment : List ℕ) (k place : ℕ) → Indexes site ns (take k site) → k < length site → ms ≡ ns → segment ≡ segment_at site k
    → (IsNonDecreasingBy (λ n. ordering_index (segment_order site segment n)) ms → IsPartitionPoint (λ n. segment_order site segment n ≡ Less) (λ n. segment_order site segment n ≡ Greater) ms place)
    → Indexes site (insert ns place k) (take (k + 1) site)
added_new site ns ms segment k place index within same own between =
    let t = there site k within in
    index_new site ns k place t.0 index t.1 within
    (subst (λ (l : List ℕ). IsBetween site (segment_at site k) l place) same (subst (λ (s : List ℕ). IsBetween site s ms place) own between))

pub no_index : (site : List ExposedThing) → Indexes site [] (take 0 site)
no_index site = record { rise = tt; stand = tt; same = λ segment. refl }

pub whole_index : (site : List ExposedThing) (ns : List ℕ) (k : ℕ) → length site ≤ k → Indexes site ns (take k site) → Indexes site ns site
whole_index site ns k past index = subst (λ (l : List ExposedThing). Indexes site ns l) (take_all k site past) index

-- ---- what is found, and what isn't, as slices show Things and index

pub thing_found : (site shown whole : List ExposedThing) (ns seen segment : List ℕ) (i n : ℕ) (t : ExposedThing) → Indexes site ns site → site ≡ whole → shown ≡ site → seen ≡ ns → i < length seen → HoldsAt (λ m. segment_order shown segment m ≡ Equal) seen i
    → n ≡ get_or ns i n → t ≡ get_or site n t → Some t ≡ thing_named segment whole
thing_found site shown whole ns seen segment i n t index whole_is shown_is seen_is within equal at is =
    let inside : i < length ns = subst (λ (ms : List ℕ). i < length ms) seen_is within in
    let same : HoldsAt (λ m. segment_order site segment m ≡ Equal) ns i =
    subst (λ (ms : List ℕ). HoldsAt (λ m. segment_order site segment m ≡ Equal) ms i) seen_is
    (subst (λ (s : List ExposedThing). HoldsAt (λ m. segment_order s segment m ≡ Equal) seen i) shown_is equal) in
    let stands : n < length site = subst (λ (m : ℕ). m < length site) (sym at) (at_place (λ m. m < length site) ns i n index.stand inside) in
    sym (slice_get_read site (length site) n t refl stands is)
    ∙ ap (λ (m : ℕ). slice_get site m) at
    ∙ found_thing site site ns segment i n index inside same
    ∙ ap (λ (s : List ExposedThing). thing_named segment s) whole_is

pub thing_missing : (site shown whole : List ExposedThing) (ns seen segment : List ℕ) (i : ℕ) → Indexes site ns site → site ≡ whole → shown ≡ site → seen ≡ ns → IsBetween shown segment seen i → None ≡ thing_named segment whole
thing_missing site shown whole ns seen segment i index whole_is shown_is seen_is between =
    missing_thing site site ns segment i index (subst (λ (ms : List ℕ). IsBetween site segment ms i) seen_is (subst (λ (s : List ExposedThing). IsBetween s segment seen i) shown_is between))
    ∙ ap (λ (s : List ExposedThing). thing_named segment s) whole_is
