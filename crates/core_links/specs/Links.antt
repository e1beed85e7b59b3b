-- Link texts: the grammar of what is read (RFC 6690, section 2), in this product's profile.
--
-- A profile because a target is any visible text between its brackets, each parameter has one form, and spaces stand only
-- beside `,` and `;`.
use Rattle.std.specs.Prelude.{◌≡◌, ◌≤◌, ℕ, ◌==◌, nat_le, List, [], ◌∷◌, ◌++◌, length, take, codes, Bool, true, ◌&&◌, ◌||◌, not, Some, None, Result, Ok, Err}
use Rattle.std.specs.List.{list_all, list_any}
use Rattle.std.specs.Char.{is_ascii_alphanumeric}
use Rattle.core_links.specs.declared.links.Param.{Param}
use Rattle.core_links.specs.declared.links.Link.{Link}
use Rattle.core_links.specs.declared.reading.LinkFault.{LinkFault}
use Rattle.core_links.specs.declared.reading.LinkFault.TheVariants as fault

-- ---- bytes

-- a visible byte of ASCII that is none of these
abbrev pub is_visible_but : List ℕ → ℕ → Bool
is_visible_but others b = (nat_le 33 b && nat_le b 126) && not (list_any (λ c. c == b) others)

abbrev pub is_target_byte : ℕ → Bool
is_target_byte b = is_visible_but (codes "<>") b

abbrev pub is_name_byte : ℕ → Bool
is_name_byte b = is_ascii_alphanumeric b || list_any (λ c. c == b) (codes "*-_.")

-- a byte of a value that isn't quoted
abbrev pub is_token_byte : ℕ → Bool
is_token_byte b = is_visible_but (codes "\";,<>\\") b

-- a byte that is written in quotes with `\` before it
abbrev pub is_escaped : ℕ → Bool
is_escaped b = list_any (λ c. c == b) (codes "\"\\")

-- a byte that stands for itself in quotes
abbrev pub is_quoted_byte : ℕ → Bool
is_quoted_byte b = nat_le 32 b && not (is_escaped b)

-- ---- the grammar

-- any number of spaces
abbrev pub AreSpaces : List ℕ → Type 0
AreSpaces text = list_all (λ b. b == 32) text ≡ true

-- one or more of these bytes
pub record IsWord (is_byte : ℕ → Bool) (text : List ℕ) : Type 0 where
  pub all : list_all is_byte text ≡ true
  pub some : 1 ≤ length text

-- the text between two quotes, and the value that it stands for
pub data IsQuoted : List ℕ → List ℕ → Type 0 where
  nothing_quoted : IsQuoted [] []
  plain : (text value : List ℕ) (b : ℕ) → IsQuoted text value → is_quoted_byte b ≡ true → IsQuoted (text ++ b ∷ []) (value ++ b ∷ [])
  escaped : (text value : List ℕ) (b : ℕ) → IsQuoted text value → is_escaped b ≡ true → IsQuoted (text ++ 92 ∷ b ∷ []) (value ++ b ∷ [])

-- a parameter after its `;`: a name, or a name, `=` and a token or a value in quotes
pub data IsParam : List ℕ → Param → Type 0 where
  name_alone : (name : List ℕ) → IsWord is_name_byte name → IsParam name (record { name = name; value = None })
  with_token : (name value : List ℕ) → IsWord is_name_byte name → IsWord is_token_byte value
      → IsParam (name ++ 61 ∷ value) (record { name = name; value = Some value })
  with_quoted : (name text value : List ℕ) → IsWord is_name_byte name → IsQuoted text value
      → IsParam (name ++ 61 ∷ 34 ∷ (text ++ 34 ∷ [])) (record { name = name; value = Some value })

-- one text after another, with a byte and spaces around it between them
abbrev pub joined : List ℕ → List ℕ → ℕ → List ℕ → List ℕ → List ℕ
joined before spaces b more_spaces after = before ++ (spaces ++ (b ∷ (more_spaces ++ after)))

-- a link: its target in angle brackets, and then `;` and a parameter any number of times
pub data IsLink : List ℕ → Link → Type 0 where
  target_alone : (target : List ℕ) → list_all is_target_byte target ≡ true
      → IsLink (60 ∷ (target ++ 62 ∷ [])) (record { target = target; params = [] })
  with_param : (before spaces more_spaces text target : List ℕ) (params : List Param) (param : Param)
      → IsLink before (record { target = target; params = params }) → AreSpaces spaces → AreSpaces more_spaces → IsParam text param
      → IsLink (joined before spaces 59 more_spaces text) (record { target = target; params = params ++ param ∷ [] })

-- one link or more, with `,` between them
pub data AreLinks : List ℕ → List Link → Type 0 where
  one_link : (text : List ℕ) (link : Link) → IsLink text link → AreLinks text (link ∷ [])
  with_link : (before spaces more_spaces text : List ℕ) (links : List Link) (link : Link)
      → AreLinks before links → AreSpaces spaces → AreSpaces more_spaces → IsLink text link
      → AreLinks (joined before spaces 44 more_spaces text) (links ++ link ∷ [])

-- a link text: links, or nothing
pub data IsLinkText : List ℕ → List Link → Type 0 where
  no_links : IsLinkText [] []
  some_links : (text : List ℕ) (links : List Link) → AreLinks text links → IsLinkText text links

-- ---- reading

-- Some link text begins with these bytes.
pub record BeginsLinkText (bytes : List ℕ) : Type 0 where
  pub rest : List ℕ
  pub links : List Link
  pub whole : IsLinkText (bytes ++ rest) links

-- This is the length of the longest prefix that some link text begins with.
pub record IsLongestBeginning (bytes : List ℕ) (n : ℕ) : Type 0 where
  pub within : n ≤ length bytes
  pub begins : BeginsLinkText (take n bytes)
  pub longest : (m : ℕ) → m ≤ length bytes → BeginsLinkText (take m bytes) → m ≤ n

-- Reading gives the links of a link text; or it says how long the longest beginning of one is, where the bytes are none.
-- It may be out of memory.
pub data ReadsLinks (bytes : List ℕ) (result : Result (List Link) LinkFault) : Type 0 where
  read : (links : List Link) → result ≡ Ok links → IsLinkText bytes links → ReadsLinks bytes result
  at : (n : ℕ) → result ≡ Err (fault.At n) → ((links : List Link) → ¬ (IsLinkText bytes links)) → IsLongestBeginning bytes n → ReadsLinks bytes result
  no_memory : result ≡ Err fault.NoMemory → ReadsLinks bytes result
