-- The condition that the value of each tree meets.
use Rattle.std.specs.Prelude.{IsUtf8, FitsSigned, ⊤}
use Rattle.std.specs.Int.{w64}
use Rattle.wot_json.specs.Lookup.{member_list}
use Rattle.wot_json.specs.Tree.{Json, null, boolean, integer, string, array, object, Elements, no_elements, element, Members, no_members, member, AreOrdered}

-- Each number has 64 bits with sign, each text and each name is UTF-8, and the names of an object are in byte order,
-- each once.
abbrev mutual
  pub IsWellFormed : Json → Type 0
  IsWellFormed null = ⊤
  IsWellFormed (boolean b) = ⊤
  IsWellFormed (integer z) = FitsSigned w64 z
  IsWellFormed (string s) = IsUtf8 s
  IsWellFormed (array es) = ElementsAreWellFormed es
  IsWellFormed (object ms) = AreOrdered (member_list ms) × MembersAreWellFormed ms

  pub ElementsAreWellFormed : Elements → Type 0
  ElementsAreWellFormed no_elements = ⊤
  ElementsAreWellFormed (element v es) = IsWellFormed v × ElementsAreWellFormed es

  pub MembersAreWellFormed : Members → Type 0
  MembersAreWellFormed no_members = ⊤
  MembersAreWellFormed (member name v ms) = IsUtf8 name × IsWellFormed v × MembersAreWellFormed ms
