-- The verdict on an answer, the bytes of the connection on which it comes, and the text that is printed of it (TD 1.1,
-- section 5.3.4.2; RFC 9110, section 15; RFC 7252, section 5.9; RFC 6690). Each case may end out of memory.
use Rattle.std.specs.Prelude.{◌≡◌, ◌≢◌, ◌⊎◌, ◌==◌, ◌/◌, ⊤, ℕ, List, [], ◌∷◌, Bool, true, false, nat_le, ◌&&◌, Option, Some, None, option_map}
use Rattle.wot_json.specs.Tree.{Json}
use Rattle.wot_json.specs.Meaning.{json_of}
use Rattle.wot_json.specs.Reading.{tree_of}
use Rattle.http_replies.specs.declared.reply_scan.ReplyScan.{ReplyScan}
use Rattle.http_replies.specs.declared.reply_scan.ReplyScan.TheVariants as scan
use Rattle.http_replies.specs.ReplyFronts.{IsReply}
use Rattle.wot_terms.specs.Faults.{IsValid}
use Rattle.wot_consumer.specs.Operations.{is_consumed}
use Rattle.wot_consumer.specs.Judgement.{AcceptsOutput, HasAffordance}
use Rattle.wot_consumer.specs.Discovery.{SaysOfThings}
use Rattle.network_consumer.specs.declared.operation.ThingOperation.{ThingOperation}
use Rattle.network_consumer.specs.declared.purpose.Purpose.{Purpose}
use Rattle.network_consumer.specs.declared.purpose.Purpose.TheVariants as purpose
use Rattle.network_consumer.specs.declared.consumed.Consumed.{Consumed}
use Rattle.network_consumer.specs.declared.consumed.Consumed.TheVariants as ended
use Rattle.network_consumer.specs.declared.consumed.ConsumedOutcome.TheVariants as outcome
use Rattle.network_consumer.specs.declared.consumed.Status.{Status}
use Rattle.network_consumer.specs.declared.consumed.Status.TheVariants as status
use Rattle.network_consumer.specs.declared.judgement.Judged.{Judged}
use Rattle.network_consumer.specs.declared.judgement.Judged.TheVariants as judged
use Rattle.network_consumer.specs.declared.answers.Verdict.{Verdict}
use Rattle.network_consumer.specs.declared.answers.Verdict.TheVariants as verdict
use Rattle.network_consumer.specs.Deeds.{Deed, printed, printed_lines}

-- ## Operations that may be asked

-- a description is valid and has the affordance of an operation that a consumer does
pub record CanBeAsked (o : ThingOperation) : Type 0 where
  pub valid : IsValid (json_of o.tree.now)
  pub consumed : is_consumed o.op ≡ true
  pub affordance : HasAffordance (json_of o.tree.now) o.op o.name.now

-- the answers to a request that is sent for this can be judged
abbrev pub CanBeJudged : Purpose → Type 0
CanBeJudged (purpose.Operation o) = CanBeAsked o
CanBeJudged (purpose.Discovery server) = ⊤

-- the number of values that are waited for, where they are asked for as they come
abbrev pub count_of : Purpose → ℕ
count_of (purpose.Operation o) = o.count
count_of (purpose.Discovery server) = 1

-- ## An answer

-- the statuses of success
abbrev pub is_success : Status → Bool
is_success (status.Http number) = nat_le 200 number && nat_le number 299
is_success (status.Coap code) = code / 32 == 2

-- 201 and 2.01: what comes with them describes what was made
abbrev pub is_created : Status → Bool
is_created (status.Http number) = number == 201
is_created (status.Coap code) = code == 65

-- The value of a payload: an empty one has no value, any other the value of its JSON text. Nothing is read of a payload
-- that is no JSON text.
abbrev pub value_in : List ℕ → Option (Option Json)
value_in [] = Some None
value_in (byte ∷ bytes) = option_map (λ v. Some v) (tree_of (byte ∷ bytes))

-- The description takes the value that comes back. A value that describes a thing that was made isn't judged by it.
abbrev pub IsTaken : ThingOperation → Status → Option Json → Type 0
IsTaken o s value = (is_created s ≡ true) ⊎ AcceptsOutput (json_of o.tree.now) o.op o.name.now value

-- the judgement of a payload
abbrev pub IsJudged : ThingOperation → Status → List ℕ → Judged → Type 0
IsJudged o s payload judged.Taken = (value : Option Json) × (value_in payload ≡ Some value) × IsTaken o s value
IsJudged o s payload judged.NotTaken = (value : Option Json) × (value_in payload ≡ Some value) × ¬ (IsTaken o s value)
IsJudged o s payload judged.Unread = value_in payload ≡ None
IsJudged o s payload judged.NoMemory = ⊤

-- the verdict on the value of an answer of success: whether it can be read, and is taken
pub data ValueComesTo (o : ThingOperation) (s : Status) (payload : List ℕ) (v : Verdict) : Type 0 where
  unread : IsJudged o s payload judged.Unread → v ≡ verdict.Outcome outcome.Malformed → ValueComesTo o s payload v
  not_taken : IsJudged o s payload judged.NotTaken → v ≡ verdict.Outcome outcome.Output → ValueComesTo o s payload v
  taken : IsJudged o s payload judged.Taken → v ≡ verdict.Payload payload → ValueComesTo o s payload v
  value_memory : v ≡ verdict.NoMemory → ValueComesTo o s payload v

-- the verdict on the links of the server with this URL: the lines of its Things; a payload that is no link text, or one
-- with a target that can't be joined, is malformed
pub data LinksComeTo (server payload : List ℕ) (v : Verdict) : Type 0 where
  says_things : (lines : List ℕ) → SaysOfThings server payload (Some lines) → v ≡ verdict.Lines lines → LinksComeTo server payload v
  says_nothing : SaysOfThings server payload None → v ≡ verdict.Outcome outcome.Malformed → LinksComeTo server payload v
  links_memory : v ≡ verdict.NoMemory → LinksComeTo server payload v

-- the verdict on an answer of success, by the purpose of the request
abbrev pub SucceedsAs : Purpose → Status → List ℕ → Verdict → Type 0
SucceedsAs (purpose.Operation o) s payload v = ValueComesTo o s payload v
SucceedsAs (purpose.Discovery server) s payload v = LinksComeTo server.now payload v

-- the verdict on an answer with this status and payload
pub data AnswersAs (p : Purpose) (s : Status) (payload : List ℕ) (v : Verdict) : Type 0 where
  no_success : is_success s ≡ false → v ≡ verdict.Outcome (outcome.Status s) → AnswersAs p s payload v
  success : is_success s ≡ true → SucceedsAs p s payload v → AnswersAs p s payload v
  answer_memory : v ≡ verdict.NoMemory → AnswersAs p s payload v

-- the printing of a verdict, and the end of the operation by it; where the output fails, by that
abbrev pub Closes : Verdict → List Deed → Consumed → Type 0
Closes (verdict.Payload payload) deeds r = (deeds ≡ printed payload) × ((r ≡ ended.Done) ⊎ ((payload ≢ []) × (r ≡ ended.Unprinted)))
Closes (verdict.Lines lines) deeds r = (deeds ≡ printed_lines lines) × ((r ≡ ended.Done) ⊎ ((lines ≢ []) × (r ≡ ended.Unprinted)))
Closes (verdict.Outcome outcome) deeds r = (deeds ≡ []) × (r ≡ ended.Other outcome)
Closes verdict.NoMemory deeds r = (deeds ≡ []) × (r ≡ ended.NoMemory)

-- ## The bytes of a connection

-- the verdict on a reply that isn't whole: nothing yet, unless the connection has ended
abbrev pub short_of : Bool → Option Verdict
short_of true = Some (verdict.Outcome outcome.Closed)
short_of false = None

-- the verdict on a scan
abbrev pub ScansAs : Purpose → Bool → ReplyScan → Option Verdict → Type 0
ScansAs p ended scan.Short r = r ≡ short_of ended
ScansAs p ended (scan.Whole number body) r = (v : Verdict) × AnswersAs p (status.Http number) body v × (r ≡ Some v)
ScansAs p ended scan.Fault r = r ≡ Some (verdict.Outcome outcome.Malformed)
ScansAs p ended scan.TooLong r = r ≡ Some (verdict.Outcome outcome.Long)

-- the bytes of a connection that has ended or goes on come to this, or to nothing yet
abbrev pub ReceivesAs : Purpose → Bool → List ℕ → Option Verdict → Type 0
ReceivesAs p ended bytes r = (s : ReplyScan) × IsReply bytes ended s × ScansAs p ended s r
