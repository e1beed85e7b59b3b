-- The line of verbs that are taken: it is a text, and it is short.
use Rattle.std.proofs.Common.{◌≡◌, ℕ, ◌&&◌, Bool, true, false, List, [], ◌∷◌, ◌++◌, refl, codes}
use Rattle.std.specs.Prelude.{nat_lt}
use Rattle.std.specs.Str.{IsUtf8, IsAscii}
use Rattle.std.proofs.lemmas.Bool.{ltb-true}
use Rattle.std.proofs.lemmas.Str.{IsUtf8-from_ascii, IsAscii-append}
use Rattle.std.proofs.lemmas.Str.Ascii.{IsAscii-nil, IsAscii-cons}
use Rattle.thing_ops.specs.declared.verb.Verb.{Verb}
use Rattle.thing_ops.specs.declared.verb.Verb.TheVariants as verb
use Rattle.thing_ops.specs.Verbs.{verb_name, further_names, names_of}

-- all bytes are ASCII
are_ascii : List ℕ → Bool
are_ascii [] = true
are_ascii (b ∷ bytes) = nat_lt b 128 && are_ascii bytes

both_true : (t u : Bool) → (t && u) ≡ true → (t ≡ true) × (u ≡ true)
both_true true u is = (refl, is)
both_true false u is = absurd cc

ascii_by : (bytes : List ℕ) → are_ascii bytes ≡ true → IsAscii bytes
unfolding are_ascii
ascii_by [] is = IsAscii-nil
ascii_by (b ∷ bytes) is =
    let parts = both_true (nat_lt b 128) (are_ascii bytes) is in
    IsAscii-cons b bytes (ltb-true _ _ parts.0) (ascii_by bytes parts.1)

name_is_ascii : (v : Verb) → IsAscii (verb_name v)
unfolding are_ascii
name_is_ascii verb.Get = ascii_by (codes "GET") refl
name_is_ascii verb.Head = ascii_by (codes "HEAD") refl
name_is_ascii verb.Put = ascii_by (codes "PUT") refl
name_is_ascii verb.Post = ascii_by (codes "POST") refl
name_is_ascii verb.Patch = ascii_by (codes "PATCH") refl
name_is_ascii verb.Delete = ascii_by (codes "DELETE") refl
name_is_ascii verb.Other = IsAscii-nil

further_are_ascii : (vs : List Verb) → IsAscii (further_names vs)
unfolding are_ascii
further_are_ascii [] = IsAscii-nil
further_are_ascii (v ∷ vs) =
    IsAscii-append (codes ", " ++ verb_name v) (further_names vs) (IsAscii-append (codes ", ") (verb_name v) (ascii_by (codes ", ") refl) (name_is_ascii v)) (further_are_ascii vs)

names_are_ascii : (vs : List Verb) → IsAscii (names_of vs)
names_are_ascii [] = IsAscii-nil
names_are_ascii (v ∷ vs) = IsAscii-append (verb_name v) (further_names vs) (name_is_ascii v) (further_are_ascii vs)

-- the line is a text
pub names_are_text : (vs : List Verb) → IsUtf8 (names_of vs)
names_are_text vs = IsUtf8-from_ascii (names_of vs) (names_are_ascii vs)
