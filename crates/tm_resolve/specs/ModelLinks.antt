-- The parts of a model that derivation asks for before it is resolved: the links that count, and the optional parts.
use Rattle.std.specs.Prelude.{ℕ, List, [], map, codes, Option, Some, None, option_map, option_and_then}
use Rattle.std.specs.Result.{result_ok}
use Rattle.wot_json.specs.Tree.{Json}
use Rattle.wot_json.specs.Lookup.{member_named}
use Rattle.wot_json.specs.Merge.{members_under}
use Rattle.wot_json.specs.Meaning.{json_of}
use Rattle.tm_parts.specs.Sources.{Sources, source_named}
use Rattle.tm_resolve.specs.Links.{links_from, links_under, linked_model}
use Rattle.tm_resolve.specs.declared.model_links.Relation.{Relation}
use Rattle.tm_resolve.specs.declared.model_links.Relation.TheVariants.{Extends, Submodel}
use Rattle.tm_resolve.specs.declared.model_links.CountedLink.{CountedLink}

-- the relation of a link as it is written (Thing Description 1.1, section "Thing Model")
abbrev pub relation_text : Relation → List ℕ
relation_text Extends = codes "tm:extends"
relation_text Submodel = codes "tm:submodel"

-- the model under this URL with values in place of its placeholders, where there is one and its
-- substitution has no fault
abbrev pub whole_model : Sources → List ℕ → Option Json
whole_model sources url = option_and_then result_ok (source_named url sources)

-- a link that counts: its index among all links of the model, the URL of the model that it leads to, where it leads to
-- one, and its `instanceName`, where it has one
pub record ModelLink : Type 0 where
  pub index : ℕ
  pub target : Option (List ℕ)
  pub instance_name : Option Json

abbrev pub model_link : List ℕ → ℕ × Json → ModelLink
model_link url link = record {
  index = link.0;
  target = option_map (λ model. model.url) (linked_model url link.1);
  instance_name = member_named (codes "instanceName") (members_under link.1);
}

-- the links with this relation of a model under this URL that count
abbrev pub links_of : List ℕ → List ℕ → Json → List ModelLink
links_of relation url whole = map (model_link url) (links_from relation 0 (links_under whole))

-- the same, of the model under the URL, which has none where there is no such model
abbrev pub model_links : Sources → List ℕ → List ℕ → List ModelLink
model_links sources url relation = elim (whole_model sources url) [ None ↦ [] | Some whole ↦ links_of relation url whole ]

-- the `tm:optional` of the model under a URL, where it has one (Thing Description 1.1, section "Thing Model")
abbrev pub optional_part : Sources → List ℕ → Option Json
optional_part sources url = option_and_then (λ whole. member_named (codes "tm:optional") (members_under whole)) (whole_model sources url)

-- the links of the code, as contracts see them
abbrev pub kept_link : CountedLink → ModelLink
kept_link link = record { index = link.index; target = link.target; instance_name = option_map json_of link.instance_name }

abbrev pub kept_links : List CountedLink → List ModelLink
kept_links = map kept_link
