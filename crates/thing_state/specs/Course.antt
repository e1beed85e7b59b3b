-- The view that contracts have of the state of a run, and its codes, as the kit asks in an `impl Model`.
use Rattle.std.specs.Prelude.{◌≡◌, ◌≤◌, ◌<◌, ◌+◌, ℕ, List, length, Option, Some, None, refl}
use Rattle.std.specs.Coded.{Coded, code_by, coded×, coded_ℕ, coded_list, coded_option}
use Rattle.thing_state.specs.declared.state.Progress.{Progress}
use Rattle.thing_state.specs.declared.state.Progress.TheVariants as progress
use Rattle.thing_site.specs.Refusals.{longest_value}
use Rattle.thing_state.specs.State.{Status, running, completed, Invocation, LastValue, Version, State, version_of}

-- the state of the machine, the targets of emissions that weren't handed out yet, and how many more of these can be
-- kept without taking memory
pub record Course : Type 0 where
  pub state : State
  pub pending : List ℕ
  pub room : ℕ

-- the status of an invocation, by its progress and what is in the room of its output
abbrev pub status_of : Progress → List ℕ → Status
status_of progress.Running output = running
status_of progress.Finished output = completed None
status_of progress.Gave output = completed (Some output)

-- the output of an invocation of this status
abbrev pub IsOutput : Status → Option (List ℕ) → Type 0
IsOutput running o = o ≡ None
IsOutput (completed output) o = o ≡ output

-- a text, if there is one, is no longer than a value
abbrev pub FitsValue : Option (List ℕ) → Type 0
FitsValue None = Unit {0}
FitsValue (Some text) = length text ≤ longest_value

-- a turn more than any property has versions of this run: a value may be seen
abbrev pub HasRoom : State → Type 0
HasRoom s = (slot : ℕ) → version_of slot s.versions < s.left_out + s.turns

-- ---- codes, as the kit asks in an `impl Model`

abbrev status_parts : Status → Option (Option (List ℕ))
status_parts running = None
status_parts (completed output) = Some output

abbrev status_from : Option (Option (List ℕ)) → Status
status_from None = running
status_from (Some output) = completed output

pub status_back : (s : Status) → status_from (status_parts s) ≡ s
status_back running = refl
status_back (completed output) = refl

abbrev status_code : Coded Status
status_code = code_by (Option (Option (List ℕ))) (coded_option (coded_option (coded_list coded_ℕ))) status_parts status_from status_back

abbrev InvocationParts : Type 0
InvocationParts = ℕ × (ℕ × Status)

abbrev pub invocation_code : Coded Invocation
invocation_code =
    code_by InvocationParts (coded× coded_ℕ (coded× coded_ℕ status_code))
    (λ i. (i.id, (i.slot, i.status))) (λ q. record { id = q.0; slot = q.1.0; status = q.1.1 }) (λ _. refl)

abbrev LatestParts : Type 0
LatestParts = ℕ × Option (List ℕ)

abbrev pub latest_code : Coded LastValue
latest_code =
    code_by LatestParts (coded× coded_ℕ (coded_option (coded_list coded_ℕ))) (λ l. (l.target, l.text))
    (λ q. record { target = q.0; text = q.1 }) (λ _. refl)

abbrev VersionParts : Type 0
VersionParts = ℕ × (ℕ × Option (List ℕ))

abbrev pub version_code : Coded Version
version_code =
    code_by VersionParts (coded× coded_ℕ (coded× coded_ℕ (coded_option (coded_list coded_ℕ)))) (λ v. (v.slot, (v.number, v.text)))
    (λ q. record { slot = q.0; number = q.1.0; text = q.1.1 }) (λ _. refl)

abbrev StateParts : Type 0
StateParts = List Version × (List Invocation × (ℕ × (List LastValue × (ℕ × ℕ))))

abbrev pub state_code : Coded State
state_code =
    code_by StateParts
    (coded× (coded_list version_code) (coded× (coded_list invocation_code) (coded× coded_ℕ (coded× (coded_list latest_code) (coded× coded_ℕ coded_ℕ)))))
    (λ s. (s.versions, (s.invocations, (s.next_invocation, (s.last, (s.turns, s.left_out))))))
    (λ q. record { versions = q.0; invocations = q.1.0; next_invocation = q.1.1.0; last = q.1.1.1.0; turns = q.1.1.1.1.0; left_out = q.1.1.1.1.1 }) (λ _. refl)

abbrev CourseParts : Type 0
CourseParts = State × (List ℕ × ℕ)

abbrev pub course_code : Coded Course
course_code =
    code_by CourseParts (coded× state_code (coded× (coded_list coded_ℕ) coded_ℕ)) (λ c. (c.state, (c.pending, c.room)))
    (λ q. record { state = q.0; pending = q.1.0; room = q.1.1 }) (λ _. refl)
