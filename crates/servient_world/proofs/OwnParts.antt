-- The blocks of requests that are kept until all have come: those of one origin are apart from those of any other, and
-- a block of an origin has its effect on its own.
use Rattle.std.proofs.Common.{◌≡◌, ◌≢◌, ℕ, zero, suc, ◌+◌, ◌<◌, ◌∙◌, ◌&&◌, Bool, true, false, cond, not, Option, Some, None, List, [], ◌∷◌, ◌++◌, set, remove, length, get_or, refl, sym, ap, subst, arith}
use Rattle.std.specs.Prelude.{◌==◌, nat_lt, slice_get, if◌then◌else◌}
use Rattle.std.specs.List.{filter}
use Rattle.std.proofs.lemmas.Bool.Decides.{nat_tests}
use Rattle.std.proofs.lemmas.List.Quantifiers.{position-Some}
use Rattle.coap_msg.specs.declared.block.Block.{Block}
use Rattle.coap_msg.specs.Blocks.{block_start}
use Rattle.coap_msg.specs.Endpoints.{is_same_endpoint}
use Rattle.coap_msg.proofs.SameEndpoints.{itself}
use Rattle.coap_blocks.specs.Paths.{is_same_path}
use Rattle.coap_blocks.specs.Parts.{Origin, Arrival as BlockArrival, Part, most_parts, longest_request, is_part_of, place_of, is_bad, extended, joined_to, new_part, part_at, joined_at, joined, begun, other_parts, after_block}
use Rattle.coap_blocks.specs.declared.added.Added.{Added}
use Rattle.coap_blocks.specs.declared.added.Added.TheVariants as answer
use Rattle.coap_blocks.proofs.Lists.{rest_of, place_removed}
use Rattle.coap_blocks.proofs.PartLaws.{own_origin}
use Rattle.coap_blocks.proofs.Paths.{path_itself}
use Rattle.servient_world.proofs.BlockReplies.{not_zero}

-- ---- parts, each and apart

abbrev pub Each : (Part → Type 0) → List Part → Type 0
Each P [] = Unit {0}
Each P (p ∷ ps) = P p × Each P ps

-- none of them is of this origin
abbrev pub NoneOf : Origin → List Part → Type 0
NoneOf o ps = Each (λ p. p.origin ≢ o) ps

abbrev pub AreApart : List Part → Type 0
AreApart [] = Unit {0}
AreApart (p ∷ ps) = NoneOf p.origin ps × AreApart ps

pub each_weaker : (P Q : Part → Type 0) (ps : List Part) → ((p : Part) → P p → Q p) → Each P ps → Each Q ps
each_weaker P Q [] step h = tt
each_weaker P Q (p ∷ ps) step h = (step p h.0, each_weaker P Q ps step h.1)

each_both : (P Q R : Part → Type 0) (ps : List Part) → ((p : Part) → P p → Q p → R p) → Each P ps → Each Q ps → Each R ps
each_both P Q R [] step h k = tt
each_both P Q R (p ∷ ps) step h k = (step p h.0 k.0, each_both P Q R ps step h.1 k.1)

each_push : (P : Part → Type 0) (ps : List Part) (p : Part) → Each P ps → P p → Each P (ps ++ p ∷ [])
each_push P [] p h new = (new, tt)
each_push P (q ∷ ps) p h new = (h.0, each_push P ps p h.1 new)

apart_push : (ps : List Part) (p : Part) → AreApart ps → NoneOf p.origin ps → AreApart (ps ++ p ∷ [])
apart_push [] p h none = (tt, tt)
apart_push (q ∷ ps) p h none = (each_push (λ (x : Part). x.origin ≢ q.origin) ps p h.0 (λ e. none.0 (sym e)), apart_push ps p h.1 none.1)

pub each_filter : (P : Part → Type 0) (test : Part → Bool) (ps : List Part) → Each P ps → Each P (filter test ps)
each_filter P test [] h = tt
each_filter P test (p ∷ ps) h = by_test (test p) (each_filter P test ps h.1)
  where
    by_test : (b : Bool) → Each P (filter test ps) → Each P (cond b (p ∷ filter test ps) (filter test ps))
    by_test true rest = (h.0, rest)
    by_test false rest = rest

pub apart_filter : (test : Part → Bool) (ps : List Part) → AreApart ps → AreApart (filter test ps)
apart_filter test [] h = tt
apart_filter test (p ∷ ps) h = by_test (test p) (apart_filter test ps h.1)
  where
    by_test : (b : Bool) → AreApart (filter test ps) → AreApart (cond b (p ∷ filter test ps) (filter test ps))
    by_test true rest = (each_filter (λ (x : Part). x.origin ≢ p.origin) test ps h.0, rest)
    by_test false rest = rest

-- ---- the part of an origin

three_true : (b c d : Bool) → b ≡ true → c ≡ true → d ≡ true → (b && c && d) ≡ true
three_true true true d e f g = g
three_true true false d e f g = absurd cc
three_true false c d e f g = absurd cc

pub is_itself : (o : Origin) (p : Part) → p.origin ≡ o → is_part_of o p ≡ true
is_itself o p e =
    let same : is_part_of p.origin p ≡ true =
    three_true (is_same_endpoint p.origin.from p.origin.from) (p.origin.code == p.origin.code) (is_same_path p.origin.path p.origin.path) (itself p.origin.from) (grind (arith, nat_tests)) (path_itself p.origin.path) in
    subst (λ (x : Origin). is_part_of x p ≡ true) e same

not_itself : (o : Origin) (p : Part) → is_part_of o p ≡ false → p.origin ≢ o
not_itself o p isnt e = let wrong = is_itself o p e in cc

-- where the first of an origin is gone, none is left
rest_none : (o : Origin) (ps : List Part) → AreApart ps → NoneOf o (rest_of (is_part_of o) ps)
rest_none o [] h = tt
rest_none o (p ∷ ps) h = by_test (is_part_of o p) refl (rest_none o ps h.1)
  where
    by_test : (b : Bool) → is_part_of o p ≡ b → NoneOf o (rest_of (is_part_of o) ps) → NoneOf o (cond b ps (p ∷ rest_of (is_part_of o) ps))
    by_test true is rest = each_weaker (λ (x : Part). x.origin ≢ p.origin) (λ (x : Part). x.origin ≢ o) ps (λ x not_p e. not_p (e ∙ sym (own_origin o p is))) h.0
    by_test false isnt rest = (not_itself o p isnt, rest)

rest_each : (P : Part → Type 0) (test : Part → Bool) (ps : List Part) → Each P ps → Each P (rest_of test ps)
rest_each P test [] h = tt
rest_each P test (p ∷ ps) h = by_test (test p) (rest_each P test ps h.1)
  where
    by_test : (b : Bool) → Each P (rest_of test ps) → Each P (cond b ps (p ∷ rest_of test ps))
    by_test true rest = h.1
    by_test false rest = (h.0, rest)

rest_apart : (test : Part → Bool) (ps : List Part) → AreApart ps → AreApart (rest_of test ps)
rest_apart test [] h = tt
rest_apart test (p ∷ ps) h = by_test (test p) (rest_apart test ps h.1)
  where
    by_test : (b : Bool) → AreApart (rest_of test ps) → AreApart (cond b ps (p ∷ rest_of test ps))
    by_test true rest = h.1
    by_test false rest = (rest_each (λ (x : Part). x.origin ≢ p.origin) test ps h.0, rest)

-- where none is found, none is there
none_there : (o : Origin) (ps : List Part) → AreApart ps → place_of o ps ≡ None → NoneOf o ps
none_there o ps apart none = subst (NoneOf o) (sym (place_removed (is_part_of o) ps None none)) (rest_none o ps apart)

-- ---- at a place

each_at : (P : Part → Type 0) (ps : List Part) (i : ℕ) (d : Part) → i < length ps → Each P ps → P (get_or ps i d)
each_at P [] i d within h = absurd (omega arith)
each_at P (p ∷ ps) zero d within h = h.0
each_at P (p ∷ ps) (suc i) d within h = each_at P ps i d (omega arith) h.1

each_set : (P : Part → Type 0) (ps : List Part) (i : ℕ) (y : Part) → i < length ps → Each P ps → P y → Each P (set ps i y)
each_set P [] i y within h new = absurd (omega arith)
each_set P (p ∷ ps) zero y within h new = (new, h.1)
each_set P (p ∷ ps) (suc i) y within h new = (h.0, each_set P ps i y (omega arith) h.1 new)

-- the part of an origin at a place, and all others
others_set : (P Q : Part → Type 0) (o : Origin) (ps : List Part) (i : ℕ) (d y : Part) → i < length ps → (get_or ps i d).origin ≡ o → AreApart ps → Each P ps
    → ((p : Part) → p.origin ≢ o → P p → Q p) → Q y → Each Q (set ps i y)
others_set P Q o [] i d y within own apart h step new = absurd (omega arith)
others_set P Q o (p ∷ ps) zero d y within own apart h step new =
    (new, each_both (λ (x : Part). x.origin ≢ p.origin) P Q ps (λ x not_p is. step x (λ e. not_p (e ∙ sym own)) is) apart.0 h.1)
others_set P Q o (p ∷ ps) (suc i) d y within own apart h step new =
    let not_p : (get_or ps i d).origin ≢ p.origin = each_at (λ (x : Part). x.origin ≢ p.origin) ps i d (omega arith) apart.0 in
    (step p (λ e. not_p (own ∙ sym e)) h.0, others_set P Q o ps i d y (omega arith) own apart.1 h.1 step new)

apart_set : (o : Origin) (ps : List Part) (i : ℕ) (d y : Part) → i < length ps → (get_or ps i d).origin ≡ o → y.origin ≡ o → AreApart ps → AreApart (set ps i y)
apart_set o [] i d y within own same apart = absurd (omega arith)
apart_set o (p ∷ ps) zero d y within own same apart =
    (each_weaker (λ (x : Part). x.origin ≢ p.origin) (λ (x : Part). x.origin ≢ y.origin) ps (λ x not_p e. not_p (e ∙ (same ∙ sym own))) apart.0, apart.1)
apart_set o (p ∷ ps) (suc i) d y within own same apart =
    let not_p : (get_or ps i d).origin ≢ p.origin = each_at (λ (x : Part). x.origin ≢ p.origin) ps i d (omega arith) apart.0 in
    (each_set (λ (x : Part). x.origin ≢ p.origin) ps i y (omega arith) apart.0 (λ e. not_p (own ∙ (sym same ∙ e))), apart_set o ps i d y (omega arith) own same apart.1)

each_removed : (P : Part → Type 0) (ps : List Part) (i : ℕ) → i < length ps → Each P ps → Each P (remove ps i)
each_removed P [] i within h = absurd (omega arith)
each_removed P (p ∷ ps) zero within h = h.1
each_removed P (p ∷ ps) (suc i) within h = (h.0, each_removed P ps i (omega arith) h.1)

apart_removed : (ps : List Part) (i : ℕ) → i < length ps → AreApart ps → AreApart (remove ps i)
apart_removed [] i within h = absurd (omega arith)
apart_removed (p ∷ ps) zero within h = h.1
apart_removed (p ∷ ps) (suc i) within h = (each_removed (λ (x : Part). x.origin ≢ p.origin) ps i (omega arith) h.0, apart_removed ps i (omega arith) h.1)

none_removed : (o : Origin) (ps : List Part) (i : ℕ) (d : Part) → i < length ps → (get_or ps i d).origin ≡ o → AreApart ps → NoneOf o (remove ps i)
none_removed o [] i d within own apart = absurd (omega arith)
none_removed o (p ∷ ps) zero d within own apart = each_weaker (λ (x : Part). x.origin ≢ p.origin) (λ (x : Part). x.origin ≢ o) ps (λ x not_p e. not_p (e ∙ sym own)) apart.0
none_removed o (p ∷ ps) (suc i) d within own apart =
    let not_p : (get_or ps i d).origin ≢ p.origin = each_at (λ (x : Part). x.origin ≢ p.origin) ps i d (omega arith) apart.0 in
    ((λ e. not_p (own ∙ sym e)), none_removed o ps i d (omega arith) own apart.1)

removed_set : (ps : List Part) (i : ℕ) (y : Part) → i < length ps → remove (set ps i y) i ≡ remove ps i
removed_set [] i y within = absurd (omega arith)
removed_set (p ∷ ps) zero y within = refl
removed_set (p ∷ ps) (suc i) y within = ap (λ (l : List Part). p ∷ l) (removed_set ps i y (omega arith))

there_set : (ps : List Part) (i : ℕ) (y : Part) → i < length ps → slice_get (set ps i y) i ≡ Some y
there_set [] i y within = absurd (omega arith)
there_set (p ∷ ps) zero y within = refl
there_set (p ∷ ps) (suc i) y within = there_set ps i y (omega arith)

-- ---- the effect of a block

-- a part of an origin was this one before its bytes grew
pub record Grown (Own : Part → Type 0) (o : Origin) (payload : List ℕ) (p : Part) : Type 0 where
  pub own : Part
  pub origin : own.origin ≡ o
  pub is : Own own
  pub grown : p ≡ extended payload own

-- none of the origin is left, and all others are
pub record LeftOver (Others : Part → Type 0) (o : Origin) (ps : List Part) : Type 0 where
  pub apart : AreApart ps
  pub none : NoneOf o ps
  pub others : Each Others ps

-- the last block of a body completes the part at a place
pub record Whole (Others Own : Part → Type 0) (o : Origin) (payload : List ℕ) (i : ℕ) (ps : List Part) : Type 0 where
  pub part : Part
  pub there : slice_get ps i ≡ Some part
  pub grown : Grown Own o payload part
  pub left : LeftOver Others o (remove ps i)

abbrev pub OneOf : (Part → Type 0) → (Part → Type 0) → Origin → List ℕ → Part → Type 0
OneOf Others Own o payload p = (p.origin ≢ o → Others p) × (p.origin ≡ o → Grown Own o payload p)

abbrev pub Outcome : (Part → Type 0) → (Part → Type 0) → Origin → List ℕ → Added → List Part → Type 0
Outcome Others Own o payload answer.Continue ps = AreApart ps × Each (OneOf Others Own o payload) ps
Outcome Others Own o payload (answer.Complete i) ps = Whole Others Own o payload i ps
Outcome Others Own o payload answer.BadBlock ps = AreApart ps × Each Others ps
Outcome Others Own o payload answer.Incomplete ps = LeftOver Others o ps
Outcome Others Own o payload answer.TooLarge ps = LeftOver Others o ps
Outcome Others Own o payload answer.Full ps = LeftOver Others o ps

-- before: those of the origin are `Own`, and all others are `Others`
abbrev Either : (Part → Type 0) → (Part → Type 0) → Origin → Part → Type 0
Either Others Own o p = (p.origin ≢ o → Others p) × (p.origin ≡ o → Own p)

abbrev any_part : Part
any_part = new_part (record { from = record { host = 0; port = 0 }; code = 0; path = [] }) 0

left_over : (Others Own : Part → Type 0) (o : Origin) (ps : List Part) (i : ℕ) → i < length ps → (get_or ps i any_part).origin ≡ o → AreApart ps → Each (Either Others Own o) ps → LeftOver Others o (remove ps i)
left_over Others Own o ps i within own apart h =
    let none = none_removed o ps i any_part within own apart in
    record {
      apart = apart_removed ps i within apart;
      none = none;
      others = each_both (λ (x : Part). x.origin ≢ o) (Either Others Own o) Others (remove ps i) (λ x not_o is. is.0 not_o) none (each_removed (Either Others Own o) ps i within h);
    }

-- the answer, by the tests
abbrev to_at : ℕ → List ℕ → Part → List Part → Bool → Bool → Bool → Added × List Part
to_at i payload own ps apart_it long more =
    if apart_it then (answer.Incomplete, remove ps i) else if long then (answer.TooLarge, remove ps i) else ((if more then answer.Continue else answer.Complete i), set ps i (extended payload own))

abbrev begun_at : BlockArrival → List Part → Bool → Added × List Part
begun_at a others room = if room then joined a.origin a.block a.payload (others ++ new_part a.origin a.moment ∷ []) else (answer.Full, others)

abbrev after_at : BlockArrival → List Part → Bool → Bool → Added × List Part
after_at a ps bad first = if bad then (answer.BadBlock, ps) else if first then begun a (other_parts a.origin ps) else joined a.origin a.block a.payload ps

joined_to_outcome : (Others Own : Part → Type 0) (o : Origin) (b : Block) (payload : List ℕ) (i : ℕ) (own : Part) (ps : List Part) → i < length ps → get_or ps i any_part ≡ own → own.origin ≡ o
    → AreApart ps → Each (Either Others Own o) ps → Outcome Others Own o payload (joined_to b payload i own ps).0 (joined_to b payload i own ps).1
joined_to_outcome Others Own o b payload i own ps within there origin apart h =
    by_tests (not (length own.bytes == block_start b)) (nat_lt longest_request (length own.bytes + length payload)) b.more
  where
    at : (get_or ps i any_part).origin ≡ o
    at = ap (λ (p : Part). p.origin) there ∙ origin

    grown : Grown Own o payload (extended payload own)
    grown = record {
      own = own;
      origin = origin;
      is = subst Own there ((each_at (Either Others Own o) ps i any_part within h).1 at);
      grown = refl;
    }

    left : LeftOver Others o (remove ps i)
    left = left_over Others Own o ps i within at apart h

    by_tests : (apart_it long more : Bool) → Outcome Others Own o payload (to_at i payload own ps apart_it long more).0 (to_at i payload own ps apart_it long more).1
    by_tests true long more = left
    by_tests false true more = left
    by_tests false false true = (
      apart_set o ps i any_part (extended payload own) within at origin apart,
      others_set (Either Others Own o) (OneOf Others Own o payload) o ps i any_part (extended payload own) within at apart h
          (λ p not_o is. ((λ isnt. is.0 isnt), (λ e. absurd (not_o e)))) ((λ not_o. absurd (not_o origin)), (λ e. grown)),
    )
    by_tests false false false = record {
      part = extended payload own;
      there = there_set ps i (extended payload own) within;
      grown = grown;
      left = subst (LeftOver Others o) (sym (removed_set ps i (extended payload own) within)) left;
    }

joined_outcome : (Others Own : Part → Type 0) (o : Origin) (b : Block) (payload : List ℕ) (ps : List Part) → AreApart ps → Each (Either Others Own o) ps
    → Outcome Others Own o payload (joined o b payload ps).0 (joined o b payload ps).1
joined_outcome Others Own o b payload ps apart h = by_place (place_of o ps) refl
  where
    by_place : (place : Option ℕ) → place_of o ps ≡ place → Outcome Others Own o payload (joined_at b payload place ps).0 (joined_at b payload place ps).1
    by_place None e =
        let none = none_there o ps apart e in
        record { apart = apart; none = none; others = each_both (λ (x : Part). x.origin ≢ o) (Either Others Own o) Others ps (λ x not_o is. is.0 not_o) none h }
    by_place (Some i) e =
        let at = position-Some (is_part_of o) ps i any_part e in
        joined_to_outcome Others Own o b payload i (part_at i ps) ps at.0 refl (own_origin o (part_at i ps) at.1) apart h

-- the part of an origin that a block is joined to: empty, where it is the first, and else as it was
abbrev pub Before : (Part → Type 0) → ℕ → Part → Type 0
Before P number p = (number ≡ 0 → p.bytes ≡ []) × (number ≢ 0 → P p)

pub is_zero : (n : ℕ) → (n == 0) ≡ true → n ≡ 0
is_zero n e = grind (arith, nat_tests)

begun_outcome : (P : Part → Type 0) (a : BlockArrival) (others : List Part) → a.block.number ≡ 0 → AreApart others → NoneOf a.origin others → Each P others
    → Outcome P (Before P a.block.number) a.origin a.payload (begun a others).0 (begun a others).1
begun_outcome P a others first apart none h = by_test (nat_lt (length others) most_parts)
  where
    ready : Each (Either P (Before P a.block.number) a.origin) (others ++ new_part a.origin a.moment ∷ [])
    ready = each_push (Either P (Before P a.block.number) a.origin) others (new_part a.origin a.moment)
        (each_both (λ (x : Part). x.origin ≢ a.origin) P (Either P (Before P a.block.number) a.origin) others (λ x not_o is. ((λ isnt. is), (λ e. absurd (not_o e)))) none h)
        ((λ isnt. absurd (isnt refl)), (λ e. ((λ zero_it. refl), (λ some. absurd (some first)))))

    by_test : (t : Bool) → Outcome P (Before P a.block.number) a.origin a.payload (begun_at a others t).0 (begun_at a others t).1
    by_test true = joined_outcome P (Before P a.block.number) a.origin a.block a.payload (others ++ new_part a.origin a.moment ∷ []) (apart_push others (new_part a.origin a.moment) apart none) ready
    by_test false = record { apart = apart; none = none; others = h }

pub after_outcome : (P : Part → Type 0) (a : BlockArrival) (ps : List Part) → AreApart ps → Each P ps
    → Outcome P (Before P a.block.number) a.origin a.payload (after_block a ps).0 (after_block a ps).1
after_outcome P a ps apart h = by_tests (is_bad a.block a.payload) (a.block.number == 0) refl
  where
    others_rest : other_parts a.origin ps ≡ rest_of (is_part_of a.origin) ps
    others_rest = place_removed (is_part_of a.origin) ps (place_of a.origin ps) refl

    by_tests : (bad first : Bool) → (a.block.number == 0) ≡ first → Outcome P (Before P a.block.number) a.origin a.payload (after_at a ps bad first).0 (after_at a ps bad first).1
    by_tests true first e = (apart, h)
    by_tests false true e =
        begun_outcome P a (other_parts a.origin ps) (is_zero a.block.number e)
        (subst AreApart (sym others_rest) (rest_apart (is_part_of a.origin) ps apart))
        (subst (NoneOf a.origin) (sym others_rest) (rest_none a.origin ps apart))
        (subst (Each P) (sym others_rest) (rest_each P (is_part_of a.origin) ps h))
    by_tests false false e =
        joined_outcome P (Before P a.block.number) a.origin a.block a.payload ps apart
        (each_weaker P (Either P (Before P a.block.number) a.origin) ps (λ p is. ((λ isnt. is), (λ own. ((λ zero_it. absurd (not_zero a.block.number e zero_it)), (λ some. is))))) h)
