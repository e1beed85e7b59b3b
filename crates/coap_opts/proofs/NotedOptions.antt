-- Notes on options, one after another.
use Rattle.std.proofs.Common.{◌≡◌, ◌∙◌, ℕ, ◌||◌, Bool, true, false, List, [], ◌∷◌, ◌++◌, map, refl, sym, ap, cond, append_assoc}
use Rattle.std.specs.Prelude.{◌==◌}
use Rattle.std.specs.List.{filter, list_any}
use Rattle.std.proofs.lemmas.Bool.{or_parts}
use Rattle.std.proofs.lemmas.List.Elements.{filter_map-append}
use Rattle.std.proofs.lemmas.List.Folds.{list_any-append}
use Rattle.coap_msg.specs.declared.constants.TheConstants.{IF_MATCH, ETAG, IF_NONE_MATCH}
use Rattle.coap_msg.specs.Grammar.{CoapOption}
use Rattle.thing_ops.specs.declared.conditions.Tags.{Tags}
use Rattle.thing_ops.specs.Conditions.{no_tags, no_conditions}
use Rattle.coap_opts.specs.declared.conditions.NotedOptions.{NotedOptions}
use Rattle.coap_opts.specs.Reading.{values_under, version_of, is_there, is_blank, tags_of, match_of, known_by, conditions_by}
use Rattle.coap_opts.specs.Found.{asks_for_version, both_tags, noted_of, noted_then}
use Rattle.coap_opts.proofs.FirstValues.{values_first}

or_assoc : (a b c : Bool) → ((a || b) || c) ≡ (a || (b || c))
or_assoc true b c = refl
or_assoc false b c = refl

there_more : (xs ys : List (List ℕ)) → is_there (xs ++ ys) ≡ (is_there xs || is_there ys)
there_more [] ys = refl
there_more (x ∷ xs) ys = refl

tags_more : (xs ys : List (List ℕ)) → tags_of (xs ++ ys) ≡ both_tags (tags_of xs) (tags_of ys)
tags_more xs ys = λ i. record { any = list_any-append is_blank xs ys i; list = filter_map-append version_of xs ys i }

known_more : (counts : Bool) (xs ys : List (List ℕ)) → known_by counts (xs ++ ys) ≡ both_tags (known_by counts xs) (known_by counts ys)
known_more false xs ys = refl
known_more true xs ys = λ i. record { any = false; list = filter_map-append version_of xs ys i }

both_assoc : (a b c : Tags) → both_tags (both_tags a b) c ≡ both_tags a (both_tags b c)
both_assoc a b c = λ i. record { any = or_assoc a.any b.any c.any i; list = append_assoc a.list b.list c.list i }

noted_first : (counts : Bool) (o : CoapOption) (os : List CoapOption) → noted_of counts (o ∷ os) ≡ noted_then (noted_of counts (o ∷ [])) (noted_of counts os)
noted_first counts o os = λ i. record {
  stands = (ap is_there (values_first IF_MATCH o os) ∙ there_more (values_under IF_MATCH (o ∷ [])) (values_under IF_MATCH os)) i;
  matched = (ap tags_of (values_first IF_MATCH o os) ∙ tags_more (values_under IF_MATCH (o ∷ [])) (values_under IF_MATCH os)) i;
  known = (ap (known_by counts) (values_first ETAG o os) ∙ known_more counts (values_under ETAG (o ∷ [])) (values_under ETAG os)) i;
  absent = (ap is_there (values_first IF_NONE_MATCH o os) ∙ there_more (values_under IF_NONE_MATCH (o ∷ [])) (values_under IF_NONE_MATCH os)) i;
}

noted_assoc : (a b c : NotedOptions) → noted_then (noted_then a b) c ≡ noted_then a (noted_then b c)
noted_assoc a b c = λ i. record {
  stands = or_assoc a.stands b.stands c.stands i;
  matched = both_assoc a.matched b.matched c.matched i;
  known = both_assoc a.known b.known c.known i;
  absent = or_assoc a.absent b.absent c.absent i;
}

-- one option more
pub option_kept : (counts : Bool) (before now after : NotedOptions) (all left rest : List CoapOption) (o : CoapOption) →
    noted_then before (noted_of counts all) ≡ noted_then now (noted_of counts left) → left ≡ o ∷ rest →
    after ≡ noted_then now (noted_of counts (o ∷ [])) → noted_then before (noted_of counts all) ≡ noted_then after (noted_of counts rest)
option_kept counts before now after all left rest o so_far is noted =
    so_far
    ∙ ap (λ (os : List CoapOption). noted_then now (noted_of counts os)) is
    ∙ ap (noted_then now) (noted_first counts o rest)
    ∙ sym (noted_assoc now (noted_of counts (o ∷ [])) (noted_of counts rest))
    ∙ ap (λ (n : NotedOptions). noted_then n (noted_of counts rest)) (sym noted)

known_none : (counts : Bool) → known_by counts [] ≡ no_tags
known_none true = refl
known_none false = refl

-- the notes on all options, where there were none before
pub nothing_before : (counts : Bool) (matched known : Tags) (after : NotedOptions) (os : List CoapOption) → matched ≡ no_tags → known ≡ no_tags →
    after ≡ noted_then (record { stands = false; matched = matched; known = known; absent = false }) (noted_of counts os) → after ≡ noted_of counts os
nothing_before counts matched known after os none none_too is =
    is ∙ (λ i. noted_then (record { stands = false; matched = none i; known = none_too i; absent = false }) (noted_of counts os))

-- ---- where no option asks

without_one : (number : ℕ) (o : CoapOption) (os : List CoapOption) → (o.0 == number) ≡ false → values_under number os ≡ [] → values_under number (o ∷ os) ≡ []
without_one number o os isnt none =
    ap (λ (t : Bool). map (λ (x : CoapOption). x.1) (cond t (o ∷ filter (λ (x : CoapOption). x.0 == number) os) (filter (λ (x : CoapOption). x.0 == number) os))) isnt ∙ none

none_under : (number : ℕ) → ((o : CoapOption) → asks_for_version o ≡ false → (o.0 == number) ≡ false) → (os : List CoapOption) →
    list_any asks_for_version os ≡ false → values_under number os ≡ []
none_under number isnt [] none = refl
none_under number isnt (o ∷ os) none =
    let parts = or_parts (asks_for_version o) (list_any asks_for_version os) none in
    without_one number o os (isnt o parts.0) (none_under number isnt os parts.1)

no_known : (counts : Bool) (values : List (List ℕ)) → values ≡ [] → known_by counts values ≡ no_tags
no_known counts values none = ap (known_by counts) none ∙ known_none counts

-- an option that has no condition has none of the three numbers
no_numbers : (o : CoapOption) → asks_for_version o ≡ false → ((o.0 == IF_MATCH) ≡ false) × ((o.0 == ETAG) ≡ false) × ((o.0 == IF_NONE_MATCH) ≡ false)
no_numbers o isnt =
    let first = or_parts (o.0 == IF_MATCH) ((o.0 == ETAG) || (o.0 == IF_NONE_MATCH)) isnt in
    let others = or_parts (o.0 == ETAG) (o.0 == IF_NONE_MATCH) first.1 in
    (first.0, others.0, others.1)

-- nothing is asked
pub none_ask : (counts : Bool) (os : List CoapOption) → list_any asks_for_version os ≡ false → no_conditions ≡ conditions_by counts os
none_ask counts os none =
    let matched = none_under IF_MATCH (λ o isnt. (no_numbers o isnt).0) os none in
    let known = none_under ETAG (λ o isnt. (no_numbers o isnt).1) os none in
    let absent = none_under IF_NONE_MATCH (λ o isnt. (no_numbers o isnt).2) os none in
    λ i. record {
      if_match = (sym (ap match_of matched)) i;
      known = (sym (no_known counts (values_under ETAG os) known)) i;
      absent = (sym (ap is_there absent)) i;
    }
