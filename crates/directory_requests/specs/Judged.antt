-- The clauses of the functions that judge a request and do its act.
use Rattle.std.specs.Prelude.{◌≡◌, ◌⊎◌, ℕ, List, [], ◌∷◌, Some, Result, Ok, Err}
use Rattle.wot_json.specs.Meaning.{json_of}
use Rattle.wot_json.specs.Reading.{tree_of}
use Rattle.thing_ops.specs.declared.outcome.Outcome.{Outcome}
use Rattle.thing_ops.specs.declared.outcome.Outcome.TheVariants as outcome
use Rattle.thing_ops.specs.Requests.{RequestSeen}
use Rattle.wot_directory.specs.Contents.{Contents}
use Rattle.wot_registry.specs.Registry.{Registered}
use Rattle.thing_site.specs.Refusals.{nothing_there, verb_not_taken, IsFirst, IsNone}
use Rattle.directory_requests.specs.declared.act.DirectoryAct.{DirectoryAct}
use Rattle.directory_requests.specs.declared.act.DirectoryAct.TheVariants as act
use Rattle.directory_requests.specs.declared.judging.DirectoryTask.{DirectoryTask}
use Rattle.directory_requests.specs.declared.judging.DirectoryTask.TheVariants as task
use Rattle.directory_requests.specs.Asked.{act_asked, Stands, IsAnsweredWith, IsRefused, IsUnrefused}
use Rattle.directory_requests.specs.Requests.{Performs, PerformsAt}

-- the act, or the outcome where there is none: nothing is there, or the verb isn't taken
abbrev pub IsAsked : RequestSeen → Result DirectoryAct Outcome → Type 0
IsAsked q (Ok a) = (act_asked q ≡ Some a) × IsNone (λ r. Stands r q) (nothing_there ∷ verb_not_taken ∷ [])
IsAsked q (Err o) = IsFirst (λ r. Stands r q) (λ r. IsAnsweredWith r q) (nothing_there ∷ verb_not_taken ∷ []) o

-- this is to be done of an act, with what is in this body
abbrev pub IsTask : DirectoryAct → List ℕ → DirectoryTask → Type 0
IsTask act.Lists body task.Lists = body ≡ []
IsTask act.Creates body (task.Creates tree) = tree_of body ≡ Some (json_of tree)
IsTask act.Shows body task.Shows = body ≡ []
IsTask act.Puts body (task.Puts tree) = tree_of body ≡ Some (json_of tree)
IsTask act.Patches body (task.Patches tree) = tree_of body ≡ Some (json_of tree)
IsTask act.Removes body task.Removes = body ≡ []
IsTask a body t = ⊥

-- this is to be done of a request, and nothing is against it
pub record IsJudged (q : RequestSeen) (t : DirectoryTask) : Type 0 where
  pub act : DirectoryAct
  pub asked : act_asked q ≡ Some act
  pub is_task : IsTask act q.body t
  pub unrefused : IsUnrefused q

-- a request is refused, or it was out of memory
abbrev pub IsRefusedOrMemory : RequestSeen → Outcome → Type 0
IsRefusedOrMemory q o = (o ≡ outcome.Memory) ⊎ IsRefused q o

-- it is this outcome, or it was out of memory
abbrev pub IsOrMemory : Outcome → Outcome → Type 0
IsOrMemory o result = (result ≡ o) ⊎ (result ≡ outcome.Memory)

-- the act of what is to be done
abbrev pub act_of_task : DirectoryTask → DirectoryAct
act_of_task task.Lists = act.Lists
act_of_task (task.Creates tree) = act.Creates
act_of_task task.Shows = act.Shows
act_of_task (task.Puts tree) = act.Puts
act_of_task (task.Patches tree) = act.Patches
act_of_task task.Removes = act.Removes

-- it was done, or it was out of memory and nothing changed
abbrev pub DoesTask : DirectoryTask → RequestSeen → Outcome → Contents → Contents → Type 0
DoesTask t q o d e = Performs (act_of_task t) q o d e ⊎ ((o ≡ outcome.Memory) × (e ≡ d))

abbrev pub DoesTaskAt : DirectoryTask → RequestSeen → ℕ → Outcome → Registered → Registered → Type 0
DoesTaskAt t q now o r s = PerformsAt (act_of_task t) q now o r s ⊎ ((o ≡ outcome.Memory) × (s ≡ r))
