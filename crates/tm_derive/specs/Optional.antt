-- The optional affordances of a model: its member `tm:optional`, a list of pointers to affordances (Thing Description
-- 1.1, section "Thing Model", optional affordances).
use Rattle.std.specs.Prelude.{◌+◌, ◌==◌, ◌&&◌, ◌||◌, nat_eq, not, Bool, false, ℕ, zero, suc, List, [], ◌∷◌, ◌++◌, length, drop, codes, Option, Some, None, if◌then◌else◌}
use Rattle.std.specs.List.{flat_map, list_any, starts_with}
use Rattle.std.specs.Str.{bytes_eq}
use Rattle.wot_json.specs.Tree.{Json, string, array}
use Rattle.wot_json.specs.Lookup.{element_list}
use Rattle.wot_json.specs.Places.{element_step_text}
use Rattle.wot_json.specs.Pointer.{is_pointer}
use Rattle.tm_parts.specs.Sources.{Sources}
use Rattle.tm_resolve.specs.ModelLinks.{ModelLink, model_links, optional_part}
use Rattle.tm_derive.specs.Given.{Choice}
use Rattle.tm_derive.specs.declared.fault.DeriveFault.{DeriveFault}
use Rattle.tm_derive.specs.declared.fault.DeriveFault.TheVariants.{Optional}

-- ---- one entry

-- the text is this one, and then a token without a `/` (RFC 6901, section 3)
abbrev pub is_token_after : List ℕ → List ℕ → Bool
is_token_after before text = starts_with nat_eq text before && not (list_any (λ b. b == 47) (drop (length before) text))

-- the text is a pointer to a property, an action or an event
abbrev pub is_affordance_place : List ℕ → Bool
is_affordance_place text =
    is_pointer text
    && (is_token_after (codes "/properties/") text || is_token_after (codes "/actions/") text || is_token_after (codes "/events/") text)

-- an entry as it should be
abbrev pub is_entry : Json → Bool
is_entry (string text) = is_affordance_place text
is_entry v = false

-- the text of an entry that is one
abbrev pub entry_texts : Json → List (List ℕ)
entry_texts (string text) = text ∷ []
entry_texts v = []

-- ---- one model

-- the pointer to the list of what is optional
abbrev pub optional_place : List ℕ
optional_place = codes "/tm:optional"

-- the pointers to faulty entries, of entries that are counted from this index on
abbrev pub faulty_entries : ℕ → List Json → List (List ℕ)
faulty_entries index [] = []
faulty_entries index (v ∷ vs) =
    (if is_entry v then [] else (optional_place ++ element_step_text index) ∷ []) ++ faulty_entries (index + 1) vs

-- the texts of a list of what is optional, and the pointers to what is faulty there
abbrev pub list_texts : Json → List (List ℕ)
list_texts (array es) = flat_map entry_texts (element_list es)
list_texts v = []

abbrev pub list_faults : Json → List (List ℕ)
list_faults (array es) = faulty_entries 0 (element_list es)
list_faults v = optional_place ∷ []

-- the same of a model that has such a list or none
abbrev pub part_texts : Option Json → List (List ℕ)
part_texts None = []
part_texts (Some v) = list_texts v

abbrev pub part_faults : Option Json → List (List ℕ)
part_faults None = []
part_faults (Some v) = list_faults v

-- ---- a model with those that it extends

-- the URL of the model that a model extends, by its links to such: where it extends one
abbrev pub base_of : List ModelLink → Option (List ℕ)
base_of (link ∷ []) = link.target
base_of links = None

abbrev pub base_url : Sources → List ℕ → Option (List ℕ)
base_url sources url = base_of (model_links sources url (codes "tm:extends"))

-- the texts of the base, where there is one
abbrev pub of_base : (List ℕ → List (List ℕ)) → Option (List ℕ) → List (List ℕ)
of_base said None = []
of_base said (Some base) = said base

-- The texts of what is optional in a model: those of the model that it extends, which are found in the same way, and
-- then its own. A text that comes twice stays, because it says no more than once. At most n models are gone through.
abbrev pub optional_texts : ℕ → Sources → List ℕ → List (List ℕ)
optional_texts zero sources url = []
optional_texts (suc room) sources url = of_base (optional_texts room sources) (base_url sources url) ++ part_texts (optional_part sources url)

-- the pointers to what is faulty in these lists, in the same order
abbrev pub optional_faults : ℕ → Sources → List ℕ → List (List ℕ)
optional_faults zero sources url = []
optional_faults (suc room) sources url = of_base (optional_faults room sources) (base_url sources url) ++ part_faults (optional_part sources url)

-- ---- choices

-- the text is one of these
abbrev pub is_among : List ℕ → List (List ℕ) → Bool
is_among text texts = list_any (bytes_eq text) texts

-- the choices for the Thing of this segment of what isn't optional there
abbrev pub unlisted_choices : List (List ℕ) → List ℕ → List Choice → List (List ℕ)
unlisted_choices texts segment choices =
    flat_map (λ choice. if bytes_eq choice.0 segment && not (is_among choice.1 texts) then choice.1 ∷ [] else []) choices

-- the choices for segments that none of these are
abbrev pub choices_elsewhere : List (List ℕ) → List Choice → List DeriveFault
choices_elsewhere segments choices =
    flat_map (λ choice. if is_among choice.0 segments then [] else Optional choice.0 choice.1 ∷ []) choices

-- the text is chosen for the Thing of this segment
abbrev pub is_chosen : List Choice → List ℕ → List ℕ → Bool
is_chosen choices segment text = list_any (λ choice. bytes_eq choice.0 segment && bytes_eq choice.1 text) choices
