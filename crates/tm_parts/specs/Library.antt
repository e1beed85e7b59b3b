-- A library of Thing Models.
use Rattle.std.specs.Prelude.{◌≡◌, ℕ, Bool, true, false, List, [], ◌∷◌, codes, Some, None, IsSome, MatchResult}
use Rattle.std.specs.Ordering.{nat_cmp, match_ordering}
use Rattle.std.specs.Cmp.Lexicographic.{slice_cmp}
use Rattle.wot_json.specs.Tree.{Json, object}
use Rattle.wot_json.specs.Lookup.{member_list, member_named}
use Rattle.wot_json.specs.Texts.{has_text}
use Rattle.url.specs.Parser.{parse_url, IsOutOfRoom}
use Rattle.tm_parts.specs.declared.library.AddFault.{AddFault}
use Rattle.tm_parts.specs.declared.library.AddFault.TheVariants.{BadUrl, Twice, NotModel, NoMemory}

-- models, each with the text of its URL, in the byte order of these texts
abbrev pub Models : Type 0
Models = List (List ℕ × Json)

-- the models with one more, in its place
abbrev pub with_model : List ℕ → Json → Models → Models
with_model url model [] = (url, model) ∷ []
with_model url model (m ∷ ms) = match_ordering (slice_cmp nat_cmp url m.0) ((url, model) ∷ m ∷ ms) ((m.0, model) ∷ ms) (m ∷ with_model url model ms)

-- a text that may name a model: a URL (URL Standard, section 4.4) without a fragment, not even an empty one
abbrev pub IsModelUrl : List ℕ → Type 0
IsModelUrl url = MatchResult (parse_url None url) (λ parts. parts.fragment ≡ None) (λ fault. ⊥)

-- A model can't be named by this text: it is no URL, and not because there was no room for one, or a URL with a fragment.
abbrev pub IsNoModelUrl : List ℕ → Type 0
IsNoModelUrl url = MatchResult (parse_url None url) (λ parts. ¬ (parts.fragment ≡ None)) (λ fault. ¬ (IsOutOfRoom fault))

-- the type that says that an object is a Thing Model (Thing Description 1.1, section "Thing Model")
abbrev pub thing_model : List ℕ
thing_model = codes "tm:ThingModel"

-- an object whose `@type` is or has `tm:ThingModel`
abbrev pub is_thing_model : Json → Bool
is_thing_model (object ms) = elim (member_named (codes "@type") (member_list ms)) [ None ↦ false | Some types ↦ has_text thing_model types ]
is_thing_model v = false

-- the reason for which a library takes no model: the first of these that holds
abbrev pub HasAddFault : AddFault → List ℕ → Json → Models → Type 0
HasAddFault BadUrl url model models = IsNoModelUrl url
HasAddFault Twice url model models = IsModelUrl url × IsSome (member_named url models)
HasAddFault NotModel url model models = IsModelUrl url × (member_named url models ≡ None) × (is_thing_model model ≡ false)
HasAddFault NoMemory url model models = Unit {0}

-- a model that a library takes
pub record MayAdd (url : List ℕ) (model : Json) (models : Models) : Type 0 where
  pub url_is : IsModelUrl url
  pub new : member_named url models ≡ None
  pub is_model : is_thing_model model ≡ true
