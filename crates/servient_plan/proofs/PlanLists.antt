-- Reading the entries of a list, one after another.
use Rattle.std.proofs.Common.{◌≡◌, ℕ, ◌+◌, ◌<◌, ◌≤◌, List, [], ◌∷◌, ◌++◌, length, drop, get_or, Option, Some, None, refl, sym, ap, ◌∙◌, append_assoc}
use Rattle.std.specs.Prelude.{option_map, option_and_then}
use Rattle.std.proofs.lemmas.List.{append-nil, drop_all, at_drop_more}
use Rattle.wot_json.specs.Tree.{Json, elements_of}
use Rattle.wot_json.specs.Meaning.{json_of, json_items}
use Rattle.wot_json.specs.declared.tree.Tree.{Tree}
use Rattle.servient_plan.specs.Plan.{each_read}

-- the values that entries are read as
abbrev pub read_as : {A : Type 0} → (Json → Option A) → List Tree → Option (List A)
read_as read entries = each_read read (elements_of (json_items entries))

-- with these before them
abbrev pub after : {A : Type 0} → List A → Option (List A) → Option (List A)
after made left = option_map (λ rest. made ++ rest) left

after_one : {A : Type 0} (made : List A) (a : A) (left : Option (List A)) → after made (option_map (λ rest. a ∷ rest) left) ≡ after (made ++ a ∷ []) left
after_one made a None = refl
after_one made a (Some rest) = ap (λ all. Some all) (sym (append_assoc made (a ∷ []) rest))

none_before : {A : Type 0} (all : Option (List A)) → all ≡ after [] all
none_before None = refl
none_before (Some all) = refl

-- before the first
pub read_first : {A : Type 0} (read : Json → Option A) (entries : List Tree) → read_as read entries ≡ after [] (read_as read (drop 0 entries))
read_first read entries = none_before (read_as read entries)

-- one more
pub read_more : {A : Type 0} (read : Json → Option A) (entries : List Tree) (made grown : List A) (index : ℕ) (entry : Tree) (a : A) → index < length entries → entry ≡ get_or entries index entry → read (json_of entry) ≡ Some a → grown ≡ made ++ a ∷ []
    → read_as read entries ≡ after made (read_as read (drop index entries)) → read_as read entries ≡ after grown (read_as read (drop (index + 1) entries))
read_more read entries made grown index entry a within is reads grown_is so_far =
    so_far
    ∙ ap (after made) (at_drop_more (read_as read) entries index entry within)
    ∙ ap (λ (t : Tree). after made (read_as read (t ∷ drop (index + 1) entries))) (sym is)
    ∙ ap (λ one. after made (option_and_then (λ b. option_map (λ rest. b ∷ rest) (read_as read (drop (index + 1) entries))) one)) reads
    ∙ after_one made a (read_as read (drop (index + 1) entries))
    ∙ ap (λ ms. after ms (read_as read (drop (index + 1) entries))) (sym grown_is)

-- one that can't be read
pub read_none : {A : Type 0} (read : Json → Option A) (entries : List Tree) (made : List A) (index : ℕ) (entry : Tree) → index < length entries → entry ≡ get_or entries index entry → read (json_of entry) ≡ None
    → read_as read entries ≡ after made (read_as read (drop index entries)) → read_as read entries ≡ None
read_none read entries made index entry within is reads so_far =
    so_far
    ∙ ap (after made) (at_drop_more (read_as read) entries index entry within)
    ∙ ap (λ (t : Tree). after made (read_as read (t ∷ drop (index + 1) entries))) (sym is)
    ∙ ap (λ one. after made (option_and_then (λ b. option_map (λ rest. b ∷ rest) (read_as read (drop (index + 1) entries))) one)) reads

-- after the last
pub read_last : {A : Type 0} (read : Json → Option A) (entries : List Tree) (made : List A) (index : ℕ) → length entries ≤ index
    → read_as read entries ≡ after made (read_as read (drop index entries)) → read_as read entries ≡ Some made
read_last read entries made index past so_far =
    so_far ∙ ap (λ left. after made (read_as read left)) (drop_all index entries past) ∙ ap (λ all. Some all) (append-nil made)
