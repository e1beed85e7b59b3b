-- Rows of asks for the blocks of one body (RFC 7959, sections 2.4 and 2.5): their outcome together, where no other ask
-- of the same kind comes between.
use Rattle.std.specs.Prelude.{◌≡◌, ◌≢◌, ◌⊎◌, ◌<◌, ◌≤◌, ◌+◌, ◌/◌, ℕ, Bool, true, false, List, [], ◌∷◌, ◌++◌, length, map, AllPairs, Contains, Option, Some, None, slice_get}
use Rattle.coap_msg.specs.declared.block.Block.{Block}
use Rattle.coap_msg.specs.declared.constants.TheConstants.{GET, POST, PUT}
use Rattle.coap_msg.specs.Grammar.{CoapMessage}
use Rattle.coap_client.specs.declared.outstanding.Outstanding.{Outstanding}
use Rattle.coap_opts.specs.Reading.{asked as what_is_asked}
use Rattle.thing_ops.specs.Outcomes.{coap, payload_of}
use Rattle.coap_bind.specs.Links.{is_links_path}
use Rattle.coap_bind.specs.Server.{with_whole_body}
use Rattle.servient_world.specs.World.{Act, AskEnd, WorldState, WorldMove, answered, IsStart, PlaysAll}
use Rattle.servient_world.specs.Laws.{Asked}

-- ---- a row

-- an ask of a row: its number, its body, and the response that ended it, with the block of its own body that this says
pub record RowAsk : Type 0 where
  pub ask : ℕ
  pub body : List ℕ
  pub code : ℕ
  pub block : Option Block
  pub payload : List ℕ

-- the numbers of its asks, in their order
abbrev pub asks_of : List RowAsk → List ℕ
asks_of row = map (λ x. x.ask) row

abbrev pub AreInOrder : List RowAsk → Type 0
AreInOrder row = AllPairs (λ x y. x.ask < y.ask) row

-- the last of a row that begins with this one
abbrev pub last_of : RowAsk → List RowAsk → RowAsk
last_of x [] = x
last_of x (y ∷ row) = last_of y row

-- the payloads of the responses, joined, and the bodies of the asks
abbrev pub joined_payloads : List RowAsk → List ℕ
joined_payloads [] = []
joined_payloads (x ∷ row) = x.payload ++ joined_payloads row

abbrev pub joined_bodies : List RowAsk → List ℕ
joined_bodies [] = []
joined_bodies (x ∷ row) = x.body ++ joined_bodies row

-- an ask of it ended with that response
abbrev pub IsAnsweredSo : List AskEnd → RowAsk → Type 0
IsAnsweredSo ends x = Contains ends (record { ask = x.ask; end = answered x.code x.block x.payload })

-- No other ask with such a message comes between: each that was made before the last of the row, and isn't of it, was made more
-- than 200 seconds before the first. (Asks are made one at a time, so those before the last are those that were made by its end.)
abbrev pub NoOther : List Outstanding → (CoapMessage → Type 0) → RowAsk → List RowAsk → Type 0
NoOther asks IsSuch x row =
    (k : ℕ) (other : Asked asks k) (first : Outstanding) → IsSuch other.message → k < (last_of x row).ask → slice_get asks x.ask ≡ Some first
    → Contains (asks_of (x ∷ row)) k ⊎ (other.request.first + 200000 < first.first)

-- ---- reading

abbrev pub IsOfPath : List (List ℕ) → CoapMessage → Type 0
IsOfPath path m = (what_is_asked m).request.path ≡ path

-- it asks by GET for the block of this number and size of the representation at a path, and not to observe
pub record AsksForBlock (asks : List Outstanding) (path : List (List ℕ)) (szx n k : ℕ) : Type 0 where
  pub asked : Asked asks k
  pub code : asked.message.code ≡ GET
  pub observe : (what_is_asked asked.message).observe ≡ None
  pub path_is : IsOfPath path asked.message
  pub block : Block
  pub block2 : (what_is_asked asked.message).block2 ≡ Some block
  pub number : block.number ≡ n
  pub size : block.szx ≡ szx

-- a response says that more follows its block
abbrev pub says_more : Option Block → Bool
says_more None = false
says_more (Some b) = b.more

-- where others of the row follow one, its response says so
abbrev pub IsFollowed : RowAsk → List RowAsk → Type 0
IsFollowed x [] = Unit {0}
IsFollowed x (y ∷ row) = says_more x.block ≡ true

-- asks for the blocks from this number on, each of them answered by 2.05
abbrev pub AreReads : List Outstanding → List AskEnd → List (List ℕ) → ℕ → ℕ → List RowAsk → Type 0
AreReads asks ends path szx n [] = Unit {0}
AreReads asks ends path szx n (x ∷ row) =
    AsksForBlock asks path szx n x.ask × IsAnsweredSo ends x × (x.code ≡ coap 2 05) × IsFollowed x row × AreReads asks ends path szx (n + 1) row

-- the payloads of a row are the beginning of a text, and all of it where the last response says that no more follows
abbrev pub IsReadOf : List ℕ → RowAsk → List RowAsk → Type 0
IsReadOf text x row =
    (rest : List ℕ) × (text ≡ joined_payloads (x ∷ row) ++ rest) × (says_more (last_of x row).block ≡ false → rest ≡ [])

-- they are of the outcome of one act, that for the first ask of the row; or of the links, at their path
pub record AreOfOneAct (path : List (List ℕ)) (v : WorldState) (x : RowAsk) (row : List RowAsk) : Type 0 where
  pub of_act : is_links_path path ≡ false
      → (a : Act) × Contains v.acts a × (a.ask ≡ x.ask) × IsReadOf (payload_of a.acted.outcome) x row
  pub of_links : is_links_path path ≡ true → IsReadOf v.server.links x row

-- A row of asks reads the outcome of one act.
abbrev pub ReadsAreOfOneAct : Type 0
ReadsAreOfOneAct =
    (first_id exchanges observers : ℕ) (moves : List WorldMove) (w v : WorldState) (path : List (List ℕ)) (szx : ℕ) (x : RowAsk) (row : List RowAsk)
    → IsStart first_id exchanges observers w → PlaysAll moves w v → length v.asks ≤ 65536
    → AreReads v.asks v.ends path szx 0 (x ∷ row) → AreInOrder (x ∷ row) → NoOther v.asks (IsOfPath path) x row
    → AreOfOneAct path v x row

-- ---- writing

-- a PUT or a POST
abbrev pub IsWrite : ℕ → Type 0
IsWrite code = (code ≡ PUT) ⊎ (code ≡ POST)

abbrev pub IsOfCodeAndPath : ℕ → List (List ℕ) → CoapMessage → Type 0
IsOfCodeAndPath code path m = (m.code ≡ code) × ((what_is_asked m).request.path ≡ path)

-- it has the block of this number and size of its body
pub record AsksWithBlock (asks : List Outstanding) (code : ℕ) (path : List (List ℕ)) (szx n k : ℕ) (body : List ℕ) : Type 0 where
  pub asked : Asked asks k
  pub is : IsOfCodeAndPath code path asked.message
  pub block : Block
  pub block1 : (what_is_asked asked.message).block1 ≡ Some block
  pub number : block.number ≡ n
  pub size : block.szx ≡ szx
  pub body_is : asked.message.payload ≡ body

-- where others of the row follow one, it was answered that they are awaited, and the last by another success
abbrev pub IsTaken : RowAsk → List RowAsk → Type 0
IsTaken x [] = (x.code / 32 ≡ 2) × (x.code ≢ coap 2 31)
IsTaken x (y ∷ row) = x.code ≡ coap 2 31

-- asks with the blocks from this number on
abbrev pub AreWrites : List Outstanding → List AskEnd → ℕ → List (List ℕ) → ℕ → ℕ → List RowAsk → Type 0
AreWrites asks ends code path szx n [] = Unit {0}
AreWrites asks ends code path szx n (x ∷ row) =
    AsksWithBlock asks code path szx n x.ask x.body × IsAnsweredSo ends x × IsTaken x row × AreWrites asks ends code path szx (n + 1) row

-- One act was made for the asks of a row: for the last, on its request with the bodies of all, joined.
pub record IsOneAct (v : WorldState) (x : RowAsk) (row : List RowAsk) : Type 0 where
  pub act : Act
  pub made : Contains v.acts act
  pub for_last : act.ask ≡ (last_of x row).ask
  pub asked : Asked v.asks act.ask
  pub on_all : act.acted.what ≡ with_whole_body (joined_bodies (x ∷ row)) (what_is_asked asked.message)
  pub only : (other : Act) → Contains v.acts other → Contains (asks_of (x ∷ row)) other.ask → other ≡ act

-- A body that a row of asks writes is acted on once, whole.
abbrev pub WritesAreOneAct : Type 0
WritesAreOneAct =
    (first_id exchanges observers : ℕ) (moves : List WorldMove) (w v : WorldState) (code : ℕ) (path : List (List ℕ)) (szx : ℕ) (x : RowAsk) (row : List RowAsk)
    → IsStart first_id exchanges observers w → PlaysAll moves w v → length v.asks ≤ 65536
    → IsWrite code → AreWrites v.asks v.ends code path szx 0 (x ∷ row) → AreInOrder (x ∷ row) → NoOther v.asks (IsOfCodeAndPath code path) x row
    → IsOneAct v x row
