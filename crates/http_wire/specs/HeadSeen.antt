-- The parts that the code reads of the head of a request, apart from their place in memory.
use Rattle.std.specs.Prelude.{◌≡◌, ◌≤◌, ℕ, List, true, Result, Ok, Err}
use Rattle.httparse.specs.Grammar.{RequestHead}
use Rattle.http_fields.specs.Marks.{line_feeds}
use Rattle.http_fields.specs.Fields.{said_by}
use Rattle.http_fields.specs.Found.{said_in}
use Rattle.http_wire.specs.declared.heads.HeadParts.{HeadParts}
use Rattle.http_wire.specs.Heads.{IsHead, is_newer, are_paired, lines_of}
use Rattle.http_wire.specs.Conditions.{asking_lines}
use Rattle.http_wire.specs.Asked.{lines_in}
use Rattle.http_wire.specs.Judging.{IsJudged}

-- the parts are those of this head
pub record AreHeadParts (h : RequestHead) (p : HeadParts) : Type 0 where
  pub method : p.method.now ≡ h.method
  pub target : p.target.now ≡ h.target
  pub newer : p.newer ≡ is_newer h
  pub fields : said_in p.fields ≡ said_by (lines_of h)
  pub lines : asking_lines (lines_in p.lines.now) ≡ asking_lines (lines_of h)

-- the bytes are the head with these parts; or what is wrong with them has this status
abbrev pub IsReadAs : List ℕ → Result HeadParts ℕ → Type 0
IsReadAs bytes (Err status) = IsJudged bytes (Err status)
IsReadAs bytes (Ok p) =
    (h : RequestHead) × (line_feeds bytes ≤ 66) × (are_paired 0 bytes ≡ true) × IsHead bytes h × AreHeadParts h p
