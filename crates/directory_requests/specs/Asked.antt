-- The act that a request asks of the directory (after the Things API of WoT Discovery, in outline), and the refusals
-- before the directory is asked. They are those of all requests (thing_site/specs/Refusals.antt); the rows of their
-- tables stand here.
use Rattle.std.specs.Prelude.{◌≡◌, ◌⊎◌, ℕ, List, [], ◌∷◌, Bool, true, false, Option, Some, None, option_map, if◌then◌else◌}
use Rattle.wot_json.specs.Reading.{tree_of}
use Rattle.thing_ops.specs.declared.verb.Verb.{Verb}
use Rattle.thing_ops.specs.declared.verb.Verb.TheVariants as verb
use Rattle.thing_ops.specs.declared.routing.RouteKind.{RouteKind}
use Rattle.thing_ops.specs.declared.routing.RouteKind.TheVariants as route
use Rattle.thing_ops.specs.declared.allow.Allow.{Allow}
use Rattle.thing_ops.specs.declared.allow.Flags.{Flags}
use Rattle.thing_ops.specs.declared.outcome.Outcome.{Outcome}
use Rattle.thing_ops.specs.declared.outcome.Outcome.TheVariants as outcome
use Rattle.thing_ops.specs.Requests.{RequestSeen}
use Rattle.thing_ops.specs.Routes.{route_of}
use Rattle.thing_ops.specs.Verbs.{verbs_in, verbs_of}
use Rattle.thing_site.specs.declared.formats.AnswerFormat.{AnswerFormat}
use Rattle.thing_site.specs.declared.formats.AnswerFormat.TheVariants as sent
use Rattle.thing_site.specs.declared.formats.BodyFormat.{BodyFormat}
use Rattle.thing_site.specs.declared.formats.BodyFormat.TheVariants as taken
use Rattle.thing_site.specs.Places.{is_listed}
use Rattle.thing_site.specs.Refusals.{Input, no_inputs, Demands, Refusal, nothing_there, verb_not_taken, refusals_by_request, Holding, StandsBy, IsAnswer, IsFirst, IsNone}
use Rattle.directory_requests.specs.declared.act.DirectoryAct.{DirectoryAct}
use Rattle.directory_requests.specs.declared.act.DirectoryAct.TheVariants as act

-- ---- acts

-- a path of this form is the directory's own or that of an entry
abbrev pub is_of_directory : RouteKind → Bool
is_of_directory route.Things = true
is_of_directory route.Entry = true
is_of_directory form = false

-- the id that the path of an entry names: its second segment
abbrev pub id_in : List (List ℕ) → List ℕ
id_in (things ∷ id ∷ path) = id
id_in path = []

-- the act of a verb at such a path where it is taken
abbrev pub act_of : RouteKind → Verb → DirectoryAct
act_of route.Things verb.Post = act.Creates
act_of route.Things v = act.Lists
act_of form verb.Put = act.Puts
act_of form verb.Patch = act.Patches
act_of form verb.Delete = act.Removes
act_of form v = act.Shows

-- no property is at these paths
abbrev pub no_flags : Flags
no_flags = record { read_only = false; write_only = false }

-- the act, where the table of verbs has it there
abbrev pub act_at : RouteKind → Verb → Option DirectoryAct
act_at form v = if is_listed v (verbs_of form no_flags) then Some (act_of form v) else None

abbrev pub act_asked : RequestSeen → Option DirectoryAct
act_asked q = act_at (route_of q.path) q.verb

-- ---- what an act asks of a request

-- the formats of its answer
abbrev pub answer_format : DirectoryAct → AnswerFormat
answer_format act.Lists = sent.Json
answer_format act.Shows = sent.Description
answer_format a = sent.Any

-- the formats of its body
abbrev pub body_format : DirectoryAct → BodyFormat
body_format act.Creates = taken.Description
body_format act.Shows = taken.Description
body_format act.Puts = taken.Description
body_format act.Patches = taken.Patch
body_format a = taken.Json

-- a body that can be read hands in nothing to any handler
abbrev pub if_readable : List ℕ → Option (List Input)
if_readable body = option_map (λ tree. []) (tree_of body)

-- a description or a patch is in the body of those that change an entry, and the others take none
abbrev pub inputs_of : DirectoryAct → List ℕ → Option (List Input)
inputs_of act.Creates = if_readable
inputs_of act.Puts = if_readable
inputs_of act.Patches = if_readable
inputs_of a = no_inputs

abbrev pub demands_of : DirectoryAct → Demands
demands_of a = record { answer = answer_format a; body = body_format a; inputs = inputs_of a }

-- ---- refusals

-- those of a request to the directory, in the order in which they are judged
abbrev pub refusals : List Refusal
refusals = nothing_there ∷ verb_not_taken ∷ refusals_by_request

-- each of them holds
abbrev pub Stands : Refusal → RequestSeen → Type 0
-- the path isn't one of the directory's
Stands nothing_there q = is_of_directory (route_of q.path) ≡ false
-- the verb isn't taken there
Stands verb_not_taken q = act_asked q ≡ None
Stands r q = Holding (λ a. StandsBy r (demands_of a) q) (act_asked q)

-- the answer to each of them
abbrev pub IsAnsweredWith : Refusal → RequestSeen → Outcome → Type 0
IsAnsweredWith nothing_there q o = o ≡ outcome.NotFound
IsAnsweredWith verb_not_taken q o = (allow : Allow) × (verbs_in allow ≡ verbs_of (route_of q.path) no_flags) × (o ≡ outcome.NotAllowed allow)
IsAnsweredWith r q o = IsAnswer r o

-- a request is refused with this outcome: the first refusal that holds decides
abbrev pub IsRefused : RequestSeen → Outcome → Type 0
IsRefused q o = IsFirst (λ r. Stands r q) (λ r. IsAnsweredWith r q) refusals o

abbrev pub IsUnrefused : RequestSeen → Type 0
IsUnrefused q = IsNone (λ r. Stands r q) refusals
