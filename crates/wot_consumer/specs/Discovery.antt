-- The Things that a server says that it has (RFC 6690; WoT Discovery, section "CoRE Link Format and CoRE Resource
-- Directory"): the request for its links, and the outcome of its link text.
use Rattle.std.specs.Prelude.{◌≡◌, ◌==◌, ℕ, ◌&&◌, Bool, false, List, [], ◌∷◌, ◌++◌, codes, decimal, map, filter, Option, Some, None, option_map, option_and_then, if◌then◌else◌}
use Rattle.std.specs.List.{flat_map, list_all, list_any, slice_split}
use Rattle.std.specs.Result.{result_ok}
use Rattle.std.specs.Str.{bytes_eq}
use Rattle.url.specs.Parts.{serialize}
use Rattle.servient_base.specs.Location.{joined_url}
use Rattle.core_links.specs.declared.links.Link.{Link}
use Rattle.core_links.specs.declared.links.Param.{Param}
use Rattle.core_links.specs.Links.{is_target_byte, IsLinkText}
use Rattle.thing_ops.specs.declared.verb.Verb.TheVariants as verb
use Rattle.wot_forms.specs.declared.scheme.Scheme.TheVariants as scheme
use Rattle.wot_consumer.specs.declared.chosen.Chosen.{Chosen}

-- ## The request

-- the request to the server at a host and a port: a GET of `/.well-known/core` over CoAP (RFC 6690, section 4)
abbrev pub links_of : List ℕ → ℕ → Chosen
links_of host port = record {
  scheme = scheme.Coap;
  host = host;
  port = port;
  path = codes ".well-known" ∷ codes "core" ∷ [];
  verb = verb.Get;
  observe = false;
}

-- the URL of the server, to which the targets of its links are joined (RFC 6690, section 2.1)
abbrev pub server_url : List ℕ → ℕ → List ℕ
server_url host port = codes "coap://" ++ host ++ codes ":" ++ decimal port ++ codes "/"

-- ## The links to Things

-- the words of a value, between its spaces
abbrev pub words_of : List ℕ → List (List ℕ)
words_of = slice_split (λ b. b == 32)

abbrev pub is_thing_word : List ℕ → Bool
is_thing_word word = bytes_eq word (codes "wot.thing")

abbrev pub has_thing_word : Option (List ℕ) → Bool
has_thing_word None = false
has_thing_word (Some value) = list_any is_thing_word (words_of value)

-- a parameter is a resource type, and one of its words is `wot.thing` (RFC 6690, section 3.1)
abbrev pub is_resource_type : List ℕ → Bool
is_resource_type name = bytes_eq name (codes "rt")

abbrev pub says_thing : Param → Bool
says_thing p = is_resource_type p.name && has_thing_word p.value

-- a link leads to a Thing: one of its parameters says so
abbrev pub leads_to_thing : Link → Bool
leads_to_thing link = list_any says_thing link.params

-- ## Their targets

-- the text of the URL that a target gives when it is joined to a base, where it gives one
abbrev pub target_url : List ℕ → List ℕ → Option (List ℕ)
target_url base target = option_map serialize (result_ok (joined_url (Some base) target))

-- those of some targets, where each gives one
abbrev pub target_urls : List ℕ → List (List ℕ) → Option (List (List ℕ))
target_urls base [] = Some []
target_urls base (target ∷ targets) =
    option_and_then (λ url. option_map (λ urls. url ∷ urls) (target_urls base targets)) (target_url base target)

-- the URLs to which the links to Things lead, in their order, where each leads to one; other links aren't looked at
abbrev pub thing_urls : List ℕ → List Link → Option (List (List ℕ))
thing_urls base links = target_urls base (map (λ link. link.target) (filter leads_to_thing links))

-- one a line
abbrev pub line_text : List ℕ → List ℕ
line_text url = url ++ codes "\n"

abbrev pub lines_of : List (List ℕ) → List ℕ
lines_of = flat_map line_text

-- ## The whole

-- Bytes say this of the Things of the server with this URL: the lines of their URLs; or nothing, where the bytes are no
-- link text, or where they are one and the target of a link to a Thing can't be joined.
pub data SaysOfThings (base bytes : List ℕ) (said : Option (List ℕ)) : Type 0 where
  are_links : (links : List Link) → IsLinkText bytes links → said ≡ option_map lines_of (thing_urls base links) → SaysOfThings base bytes said
  are_no_links : ((links : List Link) → ¬ (IsLinkText bytes links)) → said ≡ None → SaysOfThings base bytes said

-- ## One link after another

-- the targets are such as a link text has
abbrev pub have_targets : List Link → Bool
have_targets = list_all (λ link. list_all is_target_byte link.target)

-- the line of a link, where its target can be joined; nothing of one that leads to no Thing
abbrev pub line_of : List ℕ → Link → Option (List ℕ)
line_of base link = if leads_to_thing link then option_map line_text (target_url base link.target) else Some []

-- it was put at the end of the lines, where it can be, as is said
abbrev pub PutsLine : List ℕ → Link → List ℕ → List ℕ → Bool → Type 0
PutsLine base link old new joined = option_map (λ line. old ++ line) (line_of base link) ≡ (if joined then Some new else None)
