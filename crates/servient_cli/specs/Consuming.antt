-- `consume TD OPERATION NAME`: an operation on another Thing. The description is read and judged, then the file of the
-- value that is handed in is read, if one is named; a form is chosen, and the operation is done by it. Its payloads are
-- written as they come, and then comes the line on how it ended, if it wasn't done.
use Rattle.std.specs.Prelude.{◌≡◌, ◌/◌, ◌%◌, ◌⊎◌, ℕ, List, [], ◌++◌, codes, decimal, map, Option, Result, option_map}
use Rattle.wot_json.specs.Meaning.{json_of}
use Rattle.wot_json.specs.declared.tree.Tree.{Tree}
use Rattle.wot_terms.specs.declared.op.Op.{Op}
use Rattle.wot_forms.specs.declared.scheme.Scheme.{Scheme}
use Rattle.wot_consumer.specs.declared.chosen.Chosen.{Chosen}
use Rattle.wot_consumer.specs.declared.chosen.ChooseFault.TheVariants as fault
use Rattle.wot_consumer.specs.Choice.{IsChosen, IsNoChoice, wanted}
use Rattle.command_words.specs.Operations.{form_operation}
use Rattle.command_words.specs.declared.command.Consumption.{Consumption}
use Rattle.servient_outside.specs.declared.files.HeldFile.{HeldFile}
use Rattle.servient_outside.specs.declared.out.Put.{Put}
use Rattle.servient_outside.specs.declared.out.Put.TheVariants as put
use Rattle.servient_outside.specs.Out.{OutSeen, OutShows}
use Rattle.servient_trace.specs.Trace.{at_network}
use Rattle.network_consumer.specs.declared.operation.ThingOperation.{ThingOperation}
use Rattle.network_consumer.specs.declared.consumed.Consumed.{Consumed}
use Rattle.network_consumer.specs.declared.consumed.Consumed.TheVariants as consumed
use Rattle.network_consumer.specs.declared.consumed.ConsumedOutcome.{ConsumedOutcome}
use Rattle.network_consumer.specs.declared.consumed.ConsumedOutcome.TheVariants as outcome
use Rattle.network_consumer.specs.declared.consumed.Status.{Status}
use Rattle.network_consumer.specs.declared.consumed.Status.TheVariants as status
use Rattle.network_consumer.specs.Deeds.{happens, prints}
use Rattle.network_consumer.specs.Deeds as operation
use Rattle.network_consumer.specs.Consuming.{Consumes}
use Rattle.command_stages.specs.declared.ending.Ending.{Ending}
use Rattle.command_stages.specs.declared.ending.Ended.{Ended}
use Rattle.command_stages.specs.Lines.{memory_line, network_line, no_affordance_line, no_form_line, silent_line, spent_line}
use Rattle.command_stages.specs.Stages.{Deed, did_see, did_write, text_in, Outcome, goes_on, ends, EndsWith, RunsOut, AndThen, Around, ShowsDeeds}
use Rattle.command_stages.specs.Ending.{final_status, final_text}
use Rattle.command_stages.specs.Describing.{ReadsDescription, ReadsInput}

-- ---- the form

-- Choosing a form for an operation of an affordance, of this scheme where one is wanted.
pub data Chooses (tree : Tree) (op : Op) (name : List ℕ) (only : Option Scheme) (seen : List Deed) (o : Outcome Chosen) : Type 0 where
  is_chosen : (c : Chosen) → IsChosen (json_of tree) (wanted op only) name c → seen ≡ [] → o ≡ goes_on c → Chooses tree op name only seen o
  has_no_affordance : IsNoChoice (json_of tree) (wanted op only) name fault.NoAffordance → EndsWith [] 12 no_affordance_line seen o → Chooses tree op name only seen o
  has_no_form : IsNoChoice (json_of tree) (wanted op only) name fault.NoForm → EndsWith [] 12 no_form_line seen o → Chooses tree op name only seen o
  choose_memory : RunsOut [] seen o → Chooses tree op name only seen o

-- ---- the operation

-- the deed of an operation, as that of a command
abbrev pub deed_of : operation.Deed → Deed
deed_of (happens h) = did_see (at_network h)
deed_of (prints text) = did_write text

abbrev pub deeds_of : List operation.Deed → List Deed
deeds_of = map deed_of

-- a status as it is printed: that of HTTP by its number, that of CoAP by its class and two digits (RFC 7252, section 3)
abbrev pub status_text : Status → List ℕ
status_text (status.Http number) = decimal number
status_text (status.Coap code) = decimal (code / 32) ++ codes "." ++ decimal (code % 32 / 10) ++ decimal (code % 32 % 10)

abbrev pub outcome_text : ConsumedOutcome → List ℕ
outcome_text outcome.Input = codes "input"
outcome_text outcome.Output = codes "output"
outcome_text outcome.Malformed = codes "malformed"
outcome_text outcome.Long = codes "long"
outcome_text outcome.Closed = codes "closed"
outcome_text outcome.Reset = codes "reset"
outcome_text outcome.Stopped = codes "stopped"
outcome_text (outcome.Status s) = status_text s

-- the end of the command of an operation that ended so, or of a discovery: the status, and the line
abbrev pub status_after : Consumed → ℕ
status_after consumed.Done = 0
status_after (consumed.Other x) = 10
status_after consumed.Silent = 11
status_after consumed.Failed = 6
status_after consumed.Unprinted = 7
status_after consumed.Spent = 8
status_after consumed.NoMemory = 9

abbrev pub line_after : Consumed → List ℕ
line_after consumed.Done = []
line_after (consumed.Other x) = codes "outcome " ++ outcome_text x ++ codes "\n"
line_after consumed.Silent = silent_line
line_after consumed.Failed = network_line
line_after consumed.Unprinted = []
line_after consumed.Spent = spent_line
line_after consumed.NoMemory = memory_line

-- an operation is the one that the words ask for, with this description and this value
pub record IsAskedFor (k : Consumption) (tree : Tree) (input : Option Tree) (x : ThingOperation) : Type 0 where
  pub tree_is : json_of x.tree.now ≡ json_of tree
  pub op_is : x.op ≡ form_operation k.operation
  pub name_is : x.name.now ≡ k.name
  pub input_is : option_map (λ v. json_of v.now) x.input ≡ option_map json_of input
  pub count_is : x.count ≡ k.count

-- An operation on others ended so: its deeds, and then the line on its end.
pub data EndsAfter (P : List operation.Deed → Consumed → Type 0) (seen : List Deed) (o : Outcome (Unit {0})) : Type 0 where
  has_ended : (r : Consumed) (deeds : List operation.Deed) → P deeds r → EndsWith (deeds_of deeds) (status_after r) (line_after r) seen o → EndsAfter P seen o
  -- the line was out of memory
  line_memory : (r : Consumed) (deeds : List operation.Deed) → P deeds r → RunsOut (deeds_of deeds) seen o → EndsAfter P seen o

-- Doing the operation by what was chosen for it.
pub record IsOperated (k : Consumption) (tree : Tree) (input : Option Tree) (c : Chosen) (deeds : List operation.Deed) (r : Consumed) : Type 0 where
  pub request : ThingOperation
  pub asked : IsAskedFor k tree input request
  pub consumes : Consumes request c deeds r

abbrev pub Operates : Consumption → Tree → Option Tree → Chosen → List Deed → Outcome (Unit {0}) → Type 0
Operates k tree input c = EndsAfter (IsOperated k tree input c)

-- the operation on a description with a value
abbrev pub OperatesOn : Consumption → Tree → Option Tree → List Deed → Outcome (Unit {0}) → Type 0
OperatesOn k tree input = AndThen (Chooses tree (form_operation k.operation) k.name k.scheme) (Operates k tree input)

abbrev pub ConsumesBy : Option (List HeldFile) → Consumption → Tree → List Deed → Outcome (Unit {0}) → Type 0
ConsumesBy held k tree = AndThen (ReadsInput held k.input) (OperatesOn k tree)

abbrev pub ConsumesThing : Option (List HeldFile) → Consumption → List Deed → Outcome (Unit {0}) → Type 0
ConsumesThing held k = AndThen (ReadsDescription held k.description) (ConsumesBy held k)

-- ---- how code comes out that wrote before its end

-- the report of an operation that ended so, unless the line was out of memory
abbrev pub IsEndOf : Consumed → Result Ending Ended → Type 0
IsEndOf r result =
    (final_status result ≡ status_after r) × (final_text result ≡ line_after r) ⊎ (¬ (r ≡ consumed.Unprinted)) × (final_status result ≡ 9) × (final_text result ≡ memory_line)

-- A command came out with a status and a text to write, and the outside shows what it did. It has written a part of
-- what it wrote, or couldn't, and then, and only then, it ends by that.
pub record ComesOutPrinting (P : List Deed → Outcome (Unit {0}) → Type 0) (before now : Around) (out out_now : OutSeen) (status : ℕ) (text : List ℕ) : Type 0 where
  pub seen : List Deed
  pub stage : P seen (ends status)
  pub shows : ShowsDeeds before now seen
  pub printed : List ℕ
  pub answer : Put
  pub wrote : OutShows out out_now answer printed
  pub text_is : text_in seen ≡ printed ++ text
  pub failed : answer ≡ put.Failed → (status ≡ 7) × (text ≡ [])
  pub unprinted : status ≡ 7 → answer ≡ put.Failed

abbrev pub EndsPrinting : (List Deed → Outcome (Unit {0}) → Type 0) → Around → Around → OutSeen → OutSeen → Result Ending Ended → Type 0
EndsPrinting P before now out out_now result = ComesOutPrinting P before now out out_now (final_status result) (final_text result)
