-- References from one Thing Model to a part of another, the values of `tm:ref` (Thing Description 1.1, section "Thing
-- Model"): the location of a model, `#`, and a JSON Pointer (RFC 6901) as the fragment.
use Rattle.std.specs.Prelude.{◌≡◌, ◌==◌, ◌&&◌, ◌⊎◌, nat_lt, ℕ, Bool, false, List, [], ◌∷◌, length, Option, Some, None, option_map, option_and_then, if◌then◌else◌}
use Rattle.std.specs.List.{position_or_len, before_first, after_first}
use Rattle.std.specs.Result.{result_ok}
use Rattle.std.specs.Str.{is_utf8}
use Rattle.percent_encoding.specs.Percent.{percent_decode}
use Rattle.url.specs.Parts.{serialize}
use Rattle.servient_base.specs.Location.{joined_url, IsRefused}
use Rattle.wot_json.specs.Pointer.{is_pointer}
use Rattle.tm_parts.specs.declared.reference.Reference.{Reference}

-- `#`, which begins the fragment of a reference (RFC 3986, section 3.5)
abbrev pub is_mark : ℕ → Bool
is_mark b = b == 35

-- the part before the first `#`: the location of the model
abbrev pub location_of : List ℕ → List ℕ
location_of text = before_first is_mark text

-- the part after the first `#`
abbrev pub fragment_of : List ℕ → List ℕ
fragment_of text = after_first is_mark text

-- the part at a pointer of the model of a URL
abbrev pub reference : List ℕ → List ℕ → Reference
reference url pointer = record { url = url; pointer = pointer }

-- The text of the URL of the model that a location leads to, where it leads to one: the empty location to the model
-- itself, under its own text, and any other to the URL that it gives when it is joined.
abbrev pub location_target : List ℕ → List ℕ → Option (List ℕ)
location_target from [] = Some from
location_target from (b ∷ bs) = option_map serialize (result_ok (joined_url (Some from) (b ∷ bs)))

-- The pointer that a fragment writes, where it writes one: decoded from its percent-encoding it is text, and a pointer
-- (RFC 6901, section 6).
abbrev pub pointer_written : List ℕ → Option (List ℕ)
pointer_written fragment =
    let decoded = percent_decode fragment in
    if is_utf8 decoded && is_pointer decoded then Some decoded else None

-- the text has a `#`
abbrev pub is_marked : List ℕ → Bool
is_marked text = nat_lt (position_or_len is_mark text) (length text)

-- The target that a text refers to from the model of this URL, where it refers to one: the model that its location
-- leads to, and the pointer that its fragment writes.
abbrev pub reference_target : List ℕ → List ℕ → Option Reference
reference_target from text =
    if is_marked text
    then option_and_then (λ url. option_map (reference url) (pointer_written (fragment_of text))) (location_target from (location_of text))
    else None

-- the location leads to no URL, and not because there was no room for one
abbrev pub IsLostLocation : List ℕ → List ℕ → Type 0
IsLostLocation from [] = ⊥
IsLostLocation from (b ∷ bs) = IsRefused (joined_url (Some from) (b ∷ bs))

-- The text refers to nothing from the model of this URL: it has no `#`, its fragment writes no pointer, or its location
-- leads to no URL. No room for a URL is none of these.
abbrev pub LeadsNowhere : List ℕ → List ℕ → Type 0
LeadsNowhere from text =
    (is_marked text ≡ false) ⊎ (pointer_written (fragment_of text) ≡ None) ⊎ IsLostLocation from (location_of text)
