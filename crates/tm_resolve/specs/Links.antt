-- Links from one Thing Model to another (Thing Description 1.1, section "Thing Model"): a link with the relation
-- `tm:extends` leads to the model that this one extends, and one with `tm:submodel` to a model that it is composed of.
use Rattle.std.specs.Prelude.{◌+◌, ◌&&◌, Bool, false, ℕ, List, [], ◌∷◌, ◌++◌, codes, Option, Some, None, Ok, Err, is_none, option_map, option_and_then, if◌then◌else◌}
use Rattle.std.specs.Str.{bytes_eq}
use Rattle.url.specs.Parts.{serialize}
use Rattle.url.specs.Setters.{set_fragment}
use Rattle.wot_json.specs.Tree.{Json, string, array, object, members_of}
use Rattle.wot_json.specs.Lookup.{element_list, member_list, member_named}
use Rattle.wot_json.specs.Merge.{members_under, without_member}
use Rattle.wot_json.specs.Places.{index_text}
use Rattle.servient_base.specs.Location.{joined_url}
use Rattle.tm_parts.specs.References.{reference_target}
use Rattle.tm_parts.specs.declared.reference.Reference.{Reference}
use Rattle.tm_resolve.specs.Chain.{whole_of}

-- the name of the member that refers to a part of a model
abbrev pub reference_name : List ℕ
reference_name = codes "tm:ref"

-- the target that the value of a `tm:ref` in the model `from` refers to, where it is a text that does
abbrev pub reference_of : List ℕ → Json → Option Reference
reference_of from (string text) = reference_target from text
reference_of from v = None

-- the value is this text
abbrev pub is_this_text : List ℕ → Json → Bool
is_this_text text (string s) = bytes_eq s text
is_this_text text v = false

-- the link has this relation
abbrev pub has_relation : List ℕ → List (List ℕ × Json) → Bool
has_relation relation ms = elim (member_named (codes "rel") ms) [ None ↦ false | Some v ↦ is_this_text relation v ]

-- a link that counts: an object with this relation, which doesn't itself come from elsewhere
abbrev pub is_link : List ℕ → Json → Bool
is_link relation (object ms) = is_none (member_named reference_name (member_list ms)) && has_relation relation (member_list ms)
is_link relation v = false

-- the elements of a value, which has none where it is no list
abbrev pub elements_under : Json → List Json
elements_under (array es) = element_list es
elements_under v = []

-- all links of a model, of every relation
abbrev pub links_under : Json → List Json
links_under model = elim (member_named (codes "links") (members_under model)) [ None ↦ [] | Some links ↦ elements_under links ]

-- the links with this relation that count, of links that are counted from this index on, each with its index
abbrev pub links_from : List ℕ → ℕ → List Json → List (ℕ × Json)
links_from relation index [] = []
links_from relation index (v ∷ vs) = if is_link relation v then (index, v) ∷ links_from relation (index + 1) vs else links_from relation (index + 1) vs

-- the links to the models that a model extends
abbrev pub extensions : Json → List (ℕ × Json)
extensions model = links_from (codes "tm:extends") 0 (links_under model)

-- the pointer to a model's links, and that to one of them
abbrev pub links_place : List ℕ
links_place = codes "/links"

abbrev pub link_place : ℕ → List ℕ
link_place index = links_place ++ codes "/" ++ index_text index

-- the text of a value that is one
abbrev pub text_under : Json → Option (List ℕ)
text_under (string s) = Some s
text_under v = None

-- the text, joined to the model's URL, without the fragment of the result (URL Standard, sections 4.4 and 6.1)
abbrev pub located_url : List ℕ → List ℕ → Option (List ℕ)
located_url from text = elim (joined_url (Some from) text) [ Ok parts ↦ Some (serialize (set_fragment parts None)) | Err fault ↦ None ]

-- the whole model that a link of the model `from` leads to, where its `href` is a text that can be joined
abbrev pub linked_model : List ℕ → Json → Option Reference
linked_model from link = option_map whole_of (option_and_then (located_url from) (option_and_then text_under (member_named (codes "href") (members_under link))))

-- a model as it is extended: its members but for its links, because those of a resolved model are to be its own
abbrev pub without_links : Json → Json
without_links model = object (members_of (without_member (codes "links") (members_under model)))
