-- The steps of a reader through a link text, byte by byte, and the values that it keeps. These are the reader's own
-- words; the grammar defines its result.
use Rattle.std.specs.Prelude.{◌≡◌, ◌<◌, ℕ, Result, Ok, Err, length, take, slice_index, ◌==◌, List, [], ◌∷◌, ◌++◌, Bool, true, false, Option, Some, None, option_map, option_and_then, if◌then◌else◌}
use Rattle.core_links.specs.Links.{is_target_byte, is_name_byte, is_token_byte, is_escaped, is_quoted_byte}
use Rattle.core_links.specs.declared.links.Link.{Link}
use Rattle.core_links.specs.declared.steps.ReaderPlace.{ReaderPlace}
use Rattle.core_links.specs.declared.steps.ReaderPlace.TheVariants as place
use Rattle.core_links.specs.declared.steps.ByteUse.{ByteUse}
use Rattle.core_links.specs.declared.steps.ByteUse.TheVariants as act
use Rattle.core_links.specs.declared.steps.Step.{Step}
use Rattle.core_links.specs.declared.reader.Reader.{Reader}
use Rattle.core_links.specs.declared.reading.LinkFault.{LinkFault}
use Rattle.core_links.specs.declared.reading.LinkFault.TheVariants as fault

abbrev pub goes : ReaderPlace → ByteUse → Option Step
goes p a = Some (record { place = p; act = a })

-- after a link as far as it goes
abbrev pub step_after : ℕ → Option Step
step_after b =
    if b == 32 then goes place.Spaces act.Skip
    else if b == 59 then goes place.BeforeName act.EndParam
    else if b == 44 then goes place.BeforeLink act.EndLink
    else None

abbrev pub step_start : ℕ → Option Step
step_start b = if b == 60 then goes place.Target act.Skip else None

abbrev pub step_before_link : ℕ → Option Step
step_before_link b = if b == 32 then goes place.BeforeLink act.Skip else step_start b

abbrev pub step_target : ℕ → Option Step
step_target b =
    if is_target_byte b then goes place.Target act.Target
    else if b == 62 then goes place.After act.Skip
    else None

abbrev pub step_before_name : ℕ → Option Step
step_before_name b =
    if is_name_byte b then goes place.Name act.Name
    else if b == 32 then goes place.BeforeName act.Skip
    else None

abbrev pub step_name : ℕ → Option Step
step_name b =
    if is_name_byte b then goes place.Name act.Name
    else if b == 61 then goes place.BeforeValue act.BeginValue
    else step_after b

abbrev pub step_before_value : ℕ → Option Step
step_before_value b =
    if is_token_byte b then goes place.Token act.Value
    else if b == 34 then goes place.Quoted act.Skip
    else None

abbrev pub step_token : ℕ → Option Step
step_token b = if is_token_byte b then goes place.Token act.Value else step_after b

abbrev pub step_quoted : ℕ → Option Step
step_quoted b =
    if is_quoted_byte b then goes place.Quoted act.Value
    else if b == 34 then goes place.After act.Skip
    else if b == 92 then goes place.Escape act.Skip
    else None

abbrev pub step_escape : ℕ → Option Step
step_escape b = if is_escaped b then goes place.Quoted act.Value else None

-- the step that a byte makes at a place, if it may stand there
abbrev pub step_at : ReaderPlace → ℕ → Option Step
step_at place.Start b = step_start b
step_at place.BeforeLink b = step_before_link b
step_at place.Target b = step_target b
step_at place.After b = step_after b
step_at place.Spaces b = step_after b
step_at place.BeforeName b = step_before_name b
step_at place.Name b = step_name b
step_at place.BeforeValue b = step_before_value b
step_at place.Token b = step_token b
step_at place.Quoted b = step_quoted b
step_at place.Escape b = step_escape b

-- ---- the state that is kept

-- the parameter of this name is done, if there is one
abbrev pub param_ended : List ℕ → Reader → Reader
param_ended [] r = r
param_ended (b ∷ bs) r = record r { params = r.params ++ (record { name = b ∷ bs; value = r.value }) ∷ []; name = []; value = None }

abbrev pub with_param_ended : Reader → Reader
with_param_ended r = param_ended r.name r

-- the link is done
abbrev pub link_ended : Reader → Reader
link_ended r = record r { links = r.links ++ (record { target = r.target; params = r.params }) ∷ []; target = []; params = [] }

-- a byte is put at the end of the value
abbrev pub value_more : ℕ → Reader → Reader
value_more b r = record r { value = option_map (λ v. v ++ b ∷ []) r.value }

abbrev pub acted : ByteUse → ℕ → Reader → Reader
acted act.Skip b r = r
acted act.Target b r = record r { target = r.target ++ b ∷ [] }
acted act.Name b r = record r { name = r.name ++ b ∷ [] }
acted act.BeginValue b r = record r { value = Some [] }
acted act.Value b r = value_more b r
acted act.EndParam b r = with_param_ended r
acted act.EndLink b r = link_ended (with_param_ended r)

-- the reader after a step
abbrev pub stepped : ℕ → Reader → Step → Reader
stepped b r s = acted s.act b (record r { place = s.place })

abbrev pub step : Reader → ℕ → Option Reader
step r b = option_map (stepped b r) (step_at r.place b)

-- the reader after some bytes, if they may stand there
abbrev pub run : Option Reader → List ℕ → Option Reader
run r [] = r
run r (b ∷ bs) = run (option_and_then (λ s. step s b) r) bs

-- a link text may end at this place
abbrev pub may_end : ReaderPlace → Bool
may_end place.Start = true
may_end place.BeforeLink = false
may_end place.Target = false
may_end place.After = true
may_end place.Spaces = false
may_end place.BeforeName = false
may_end place.Name = true
may_end place.BeforeValue = false
may_end place.Token = true
may_end place.Quoted = false
may_end place.Escape = false

-- all links, once the text has ended at this place
abbrev pub links_at : ReaderPlace → Reader → List Link
links_at place.Start r = r.links
links_at place.BeforeLink r = (link_ended (with_param_ended r)).links
links_at place.Target r = (link_ended (with_param_ended r)).links
links_at place.After r = (link_ended (with_param_ended r)).links
links_at place.Spaces r = (link_ended (with_param_ended r)).links
links_at place.BeforeName r = (link_ended (with_param_ended r)).links
links_at place.Name r = (link_ended (with_param_ended r)).links
links_at place.BeforeValue r = (link_ended (with_param_ended r)).links
links_at place.Token r = (link_ended (with_param_ended r)).links
links_at place.Quoted r = (link_ended (with_param_ended r)).links
links_at place.Escape r = (link_ended (with_param_ended r)).links

-- a reader at the front of a text
abbrev pub new_reader : Reader
new_reader = record { place = place.Start; links = []; target = []; params = []; name = []; value = None }

-- ---- a whole text

-- Bytes were taken one by one; or the byte at this place was the first that may not stand there.
pub data Takes (bytes : List ℕ) (before now : Reader) (result : Result (Unit {0}) LinkFault) : Type 0 where
  all : result ≡ Ok tt → run (Some before) bytes ≡ Some now → Takes bytes before now result
  stops : (n : ℕ) (between : Reader) → result ≡ Err (fault.At n) → n < length bytes → run (Some before) (take n bytes) ≡ Some between
      → step between (slice_index bytes n) ≡ None → Takes bytes before now result
  takes_memory : result ≡ Err fault.NoMemory → Takes bytes before now result

-- The text ended, after this many bytes.
pub data Ends (n : ℕ) (before now : Reader) (result : Result (Unit {0}) LinkFault) : Type 0 where
  ended : result ≡ Ok tt → may_end before.place ≡ true → now.links ≡ links_at before.place before → Ends n before now result
  unfinished : result ≡ Err (fault.At n) → may_end before.place ≡ false → Ends n before now result
  ends_memory : result ≡ Err fault.NoMemory → Ends n before now result
