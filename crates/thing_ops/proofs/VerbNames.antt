-- Lists of names of verbs.
use Rattle.std.proofs.Common.{◌≡◌, ℕ, zero, suc, ◌↔◌, ◌+◌, ◌<◌, List, [], ◌∷◌, ◌++◌, length, take, get_or, Bool, true, false, cond, codes, refl, ap, subst, sym, ◌∙◌, arith, append_assoc, length-append}
use Rattle.std.specs.List.{Contains, filter}
use Rattle.std.specs.Prelude.{IsTrue}
use Rattle.std.proofs.lemmas.Bool.{ne_eqb}
use Rattle.std.proofs.lemmas.List.{append-nil}
use Rattle.std.proofs.lemmas.List.Elements.{All-contains, filter_more, filter_passes}
use Rattle.servient_base.specs.Writing.{Puts}
use Rattle.servient_base.proofs.Pieces.{puts_then}
use Rattle.thing_ops.specs.declared.verb.Verb.{Verb}
use Rattle.thing_ops.specs.declared.verb.Verb.TheVariants as verb
use Rattle.thing_ops.specs.declared.allow.Allow.{Allow}
use Rattle.thing_ops.specs.Verbs.{takes, in_order, verbs_in, verb_name, further_names, names_of, name_at}

-- one more name after others
further_more : (vs : List Verb) (v : Verb) → further_names (vs ++ v ∷ []) ≡ further_names vs ++ (codes ", " ++ verb_name v)
further_more [] v = append-nil (codes ", " ++ verb_name v)
further_more (w ∷ vs) v =
    ap (λ (names : List ℕ). codes ", " ++ verb_name w ++ names) (further_more vs v)
    ∙ sym (append_assoc (codes ", " ++ verb_name w) (further_names vs) (codes ", " ++ verb_name v))

-- each of these verbs has a name
AreNamed : List Verb → Type 0
AreNamed [] = Unit {0}
AreNamed (v ∷ vs) = (0 < length (verb_name v)) × AreNamed vs

-- a verb that is taken has one
named : (allow : Allow) (v : Verb) → takes allow v ≡ true → 0 < length (verb_name v)
named allow verb.Get is = omega arith
named allow verb.Head is = omega arith
named allow verb.Put is = omega arith
named allow verb.Post is = omega arith
named allow verb.Patch is = omega arith
named allow verb.Delete is = omega arith
named allow verb.Other is = absurd cc

named_more : (b : Bool) (v : Verb) (vs : List Verb) → (b ≡ true → 0 < length (verb_name v)) → AreNamed vs → AreNamed (cond b (v ∷ vs) vs)
unfolding AreNamed
named_more true v vs one others = (one refl, others)
named_more false v vs one others = others

taken_named : (allow : Allow) (vs : List Verb) → AreNamed (filter (takes allow) vs)
unfolding AreNamed
taken_named allow [] = tt
taken_named allow (v ∷ vs) = named_more (takes allow v) v (filter (takes allow) vs) (named allow v) (taken_named allow vs)

-- a name at a place that isn't the first
pub name_after : (at : ℕ) (v : Verb) → 0 < at → name_at at v ≡ codes ", " ++ verb_name v
name_after at v some = ap (λ (b : Bool). cond b (verb_name v) (codes ", " ++ verb_name v)) (ne_eqb at 0 (omega arith))

-- one more name
names_more : (vs : List Verb) (v : Verb) → AreNamed vs → names_of (vs ++ v ∷ []) ≡ names_of vs ++ name_at (length (names_of vs)) v
unfolding AreNamed
names_more [] v are = append-nil (verb_name v)
names_more (w ∷ vs) v are =
    let some : 0 < length (verb_name w ++ further_names vs) = omega (arith, are.0, length-append (verb_name w) (further_names vs)) in
    ap (λ (names : List ℕ). verb_name w ++ names) (further_more vs v)
    ∙ sym (append_assoc (verb_name w) (further_names vs) (codes ", " ++ verb_name v))
    ∙ ap (λ (name : List ℕ). verb_name w ++ further_names vs ++ name) (sym (name_after _ v some))

-- a verb is added to those in front of it that are taken, or isn't
one_more : (allow : Allow) (vs : List Verb) (i : ℕ) (d : Verb) (b : Bool) → i < length vs → takes allow (get_or vs i d) ≡ b → filter (takes allow) (take (i + 1) vs) ≡ filter (takes allow) (take i vs) ++ cond b (get_or vs i d ∷ []) []
one_more allow vs i d b within taken =
    filter_more (takes allow) vs i d within
    ∙ ap (λ (t : Bool). filter (takes allow) (take i vs) ++ cond t (get_or vs i d ∷ []) []) taken

-- the names so far, and one more
pub line_more : (allow : Allow) (vs : List Verb) (i : ℕ) (d : Verb) (at end : ℕ) (before between now : List ℕ) → i < length vs → takes allow (get_or vs i d) ≡ true → Puts (names_of (filter (takes allow) (take i vs))) 0 at before between → Puts (name_at at (get_or vs i d)) at end between now → Puts (names_of (filter (takes allow) (take (i + 1) vs))) 0 end before now
line_more allow vs i d at end before between now within taken done more =
    let so_far = filter (takes allow) (take i vs) in
    let v = get_or vs i d in
    let place : length (names_of so_far) ≡ at = omega (arith, done.end_is) in
    let text : names_of (filter (takes allow) (take (i + 1) vs)) ≡ names_of so_far ++ name_at at v =
    ap names_of (one_more allow vs i d true within taken) ∙ names_more so_far v (taken_named allow (take i vs))
    ∙ ap (λ (n : ℕ). names_of so_far ++ name_at n v) place in
    subst (λ (line : List ℕ). Puts line 0 end before now) (sym text) (puts_then (names_of so_far) (name_at at v) 0 at end before between now done more)

-- the names so far, and none more
pub line_same : (allow : Allow) (vs : List Verb) (i : ℕ) (d : Verb) (at : ℕ) (before now : List ℕ) → i < length vs → takes allow (get_or vs i d) ≡ false → Puts (names_of (filter (takes allow) (take i vs))) 0 at before now → Puts (names_of (filter (takes allow) (take (i + 1) vs))) 0 at before now
line_same allow vs i d at before now within taken done =
    subst (λ (taken : List Verb). Puts (names_of taken) 0 at before now) (sym (one_more allow vs i d false within taken ∙ append-nil (filter (takes allow) (take i vs)))) done

-- one element more or less in front
further : (b : Bool) (w : Verb) (vs : List Verb) (v : Verb) → Contains vs v → Contains (cond b (w ∷ vs) vs) v
further true w vs v (k, within, is) = (suc k, omega arith, is)
further false w vs v has = has

-- an element that passes a test stays
stays : (p : Verb → Bool) (vs : List Verb) (v : Verb) → Contains vs v → p v ≡ true → Contains (filter p vs) v
stays p [] v has passes = absurd (omega (arith, has.1))
stays p (w ∷ vs) v (zero, within, is) passes =
    subst (λ (x : Verb). Contains (filter p (x ∷ vs)) v) (sym is)
    (subst (λ (b : Bool). Contains (cond b (v ∷ filter p vs) (filter p vs)) v) (sym passes) (0, omega arith, refl))
stays p (w ∷ vs) v (suc k, within, is) passes = further (p w) w (filter p vs) v (stays p vs v (k, omega arith, is) passes)

-- each verb that can be taken is among those that are listed
listed : (allow : Allow) (v : Verb) → takes allow v ≡ true → Contains in_order v
listed allow verb.Get is = (0, omega arith, refl)
listed allow verb.Head is = (1, omega arith, refl)
listed allow verb.Put is = (2, omega arith, refl)
listed allow verb.Post is = (3, omega arith, refl)
listed allow verb.Patch is = (4, omega arith, refl)
listed allow verb.Delete is = (5, omega arith, refl)
listed allow verb.Other is = absurd cc

-- the verbs that are taken are those in the list
pub taken_exactly : (allow : Allow) (v : Verb) → IsTrue (takes allow v) ↔ Contains (verbs_in allow) v
taken_exactly allow v = (
  λ is. stays (takes allow) in_order v (listed allow v is) is,
  λ has. All-contains (λ (w : Verb). takes allow w ≡ true) (verbs_in allow) v (filter_passes (takes allow) in_order) has,
)
