-- A verb is taken where the table of verbs has it.
use Rattle.thing_site.specs.Places.{flags_of}
use Rattle.thing_site.specs.Site.{Placed}
use Rattle.thing_site.specs.declared.place.Resource.{Resource}
use Rattle.thing_site.specs.declared.place.Resource.TheVariants as place
use Rattle.std.proofs.Common.{◌≡◌, List, [], ◌∷◌, Bool, true, false, refl, sym, ap, ◌∙◌}
use Rattle.std.specs.List.{filter}
use Rattle.thing_ops.specs.declared.allow.Allow.{Allow}
use Rattle.thing_ops.specs.declared.verb.Verb.{Verb}
use Rattle.thing_ops.specs.declared.verb.Verb.TheVariants as verb
use Rattle.thing_ops.specs.Verbs.{in_order, takes, verbs_in}
use Rattle.thing_site.specs.Places.{is_listed, is_verb}

same_verb : (v w : Verb) → is_verb v w ≡ true → v ≡ w
same_verb verb.Get verb.Get e = refl
same_verb verb.Head verb.Head e = refl
same_verb verb.Put verb.Put e = refl
same_verb verb.Post verb.Post e = refl
same_verb verb.Patch verb.Patch e = refl
same_verb verb.Delete verb.Delete e = refl
same_verb verb.Other verb.Other e = refl
same_verb v w e = absurd cc

-- a verb that passes is among those that pass where it is among all
passes : (p : Verb → Bool) (v : Verb) (ws : List Verb) → p v ≡ true → is_listed v (filter p ws) ≡ is_listed v ws
passes p v [] e = refl
passes p v (w ∷ ws) e = by_test (passes p v ws e) (is_verb v w) refl (p w) refl
  where
    by_test : is_listed v (filter p ws) ≡ is_listed v ws → (b : Bool) → is_verb v w ≡ b → (c : Bool) → p w ≡ c → is_listed v (filter p (w ∷ ws)) ≡ is_listed v (w ∷ ws)
    by_test rest true same true t = rw (t, same) refl
    by_test rest true same false t = absurd (let u : p w ≡ true = ap p (sym (same_verb v w same)) ∙ e in cc)
    by_test rest false same true t = rw (t, same) rest
    by_test rest false same false t = rw (t, same) rest

-- one that doesn't isn't
fails : (p : Verb → Bool) (v : Verb) (ws : List Verb) → p v ≡ false → is_listed v (filter p ws) ≡ false
fails p v [] e = refl
fails p v (w ∷ ws) e = by_test (fails p v ws e) (is_verb v w) refl (p w) refl
  where
    by_test : is_listed v (filter p ws) ≡ false → (b : Bool) → is_verb v w ≡ b → (c : Bool) → p w ≡ c → is_listed v (filter p (w ∷ ws)) ≡ false
    by_test rest true same true t = absurd (let u : p w ≡ false = ap p (sym (same_verb v w same)) ∙ e in cc)
    by_test rest true same false t = rw t rest
    by_test rest false same true t = rw (t, same) rest
    by_test rest false same false t = rw t rest

in_the_order : (v : Verb) (allow : Allow) → takes allow v ≡ true → is_listed v in_order ≡ true
in_the_order verb.Get allow e = refl
in_the_order verb.Head allow e = refl
in_the_order verb.Put allow e = refl
in_the_order verb.Post allow e = refl
in_the_order verb.Patch allow e = refl
in_the_order verb.Delete allow e = refl
in_the_order verb.Other allow e = absurd cc

pub listed_if_taken : (allow : Allow) (v : Verb) → takes allow v ≡ true → is_listed v (verbs_in allow) ≡ true
listed_if_taken allow v e = passes (takes allow) v in_order e ∙ in_the_order v allow e

pub unlisted_if_not_taken : (allow : Allow) (v : Verb) → takes allow v ≡ false → is_listed v (verbs_in allow) ≡ false
unlisted_if_not_taken allow v e = fails (takes allow) v in_order e

-- the flags of a place that is no property
pub flags_elsewhere : (p : Resource) → ((spot : Placed) → ¬ (p ≡ place.Property spot)) → record { read_only = false; write_only = false } ≡ flags_of p
flags_elsewhere (place.Property spot) other = absurd (other spot refl)
flags_elsewhere p other = refl
