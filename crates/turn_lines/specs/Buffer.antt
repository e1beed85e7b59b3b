-- A buffer before an output, and what it means that a text was put into it.
use Rattle.std.specs.Prelude.{◌≡◌, ℕ, List, [], ◌++◌}
use Rattle.servient_outside.specs.declared.out.Put.{Put}
use Rattle.servient_outside.specs.declared.out.Put.TheVariants.{Done, Failed}
use Rattle.servient_outside.specs.Out.{OutSeen, OutShows}
use Rattle.turn_lines.specs.declared.buffer.LineBuffer.{LineBuffer}

-- the bytes that wait to be written, and the answer of the last write
pub record Buffered : Type 0 where
  pub held : List ℕ
  pub put : Put

abbrev pub buffered_of : LineBuffer → Buffered
buffered_of b = record { held = b.held.items; put = b.put }

-- nothing waits, and nothing failed
abbrev pub nothing_held : Buffered
nothing_held = record { held = []; put = Done }

-- A text was put behind what was held. Either a write had failed before, and nothing more was written; or a piece was
-- written, and what is held now is the rest; or the write of a piece failed, and of all that was to be written it is the
-- beginning.
pub data HasPut (text : List ℕ) (before now : Buffered) (out out_now : OutSeen) : Type 0 where
  had_failed : before.put ≡ Failed → now.put ≡ Failed → out_now ≡ out → HasPut text before now out out_now
  is_put : (piece : List ℕ) → before.put ≡ Done → now.put ≡ Done → OutShows out out_now Done piece → before.held ++ text ≡ piece ++ now.held
      → HasPut text before now out out_now
  has_failed : (piece rest : List ℕ) → before.put ≡ Done → now.put ≡ Failed → OutShows out out_now Failed piece → before.held ++ text ≡ piece ++ rest
      → HasPut text before now out out_now

-- What is held is written, where there is any: the answer is that of the write, or of the last one before.
pub data WritesHeld (b : Buffered) (out out_now : OutSeen) (answer : Put) : Type 0 where
  nothing_to_write : answer ≡ b.put → out_now ≡ out → (b.put ≡ Done → b.held ≡ []) → WritesHeld b out out_now answer
  has_written : b.put ≡ Done → OutShows out out_now answer b.held → WritesHeld b out out_now answer
