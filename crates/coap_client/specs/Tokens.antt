-- Laws of tokens, and of the observation that a registration begins (RFC 7252, section 5.3.1; RFC 7641, sections 3.1 and 3.6).
use Rattle.std.specs.Prelude.{◌≡◌, ◌≢◌, ◌≤◌, ◌⊎◌, true, false, List, [], ◌∷◌, ◌++◌, length, Some, None, All, AllPairs}
use Rattle.coap_client.specs.declared.outstanding.Outstanding.{Outstanding}
use Rattle.coap_client.specs.declared.observation.Observation.{Observation}
use Rattle.coap_client.specs.declared.state.State.{State}
use Rattle.coap_client.specs.Laws.{Did}

-- the observation has the peer and the token of a request
pub record IsObservedAs (s : State) (o : Outstanding) : Type 0 where
  pub observation : Observation
  pub is : s.observation ≡ Some observation
  pub token : observation.token ≡ o.token
  pub peer : observation.peer ≡ o.peer

-- While a registration is outstanding, the observation is its.
abbrev pub RegistrationIsObserved : Type 0
RegistrationIsObserved =
    (sent : List Outstanding) (s : State) (o : Outstanding) → Did sent s → s.outstanding ≡ Some o → o.registers ≡ true → IsObservedAs s o

-- The outstanding request has a token that no request before it had, or that of the observation, and then it is no
-- registration.
abbrev pub TokenIsNewOrObserved : Type 0
TokenIsNewOrObserved =
    (before : List Outstanding) (a : Outstanding) (s : State) (o : Outstanding) → Did (before ++ a ∷ []) s → length before ≤ 65536 → s.outstanding ≡ Some o
    → All (λ x. x.token ≢ o.token) before ⊎ (IsObservedAs s o × (o.registers ≡ false))

-- A registration has a token that no request before it had.
abbrev pub RegistrationsDiffer : Type 0
RegistrationsDiffer =
    (sent : List Outstanding) (s : State) → Did sent s → length sent ≤ 65536 → AllPairs (λ a b. b.registers ≡ true → a.token ≢ b.token) sent

-- While a registration is outstanding, no value came.
abbrev pub NoValueYet : Type 0
NoValueYet =
    (sent : List Outstanding) (s : State) (o : Outstanding) (x : Observation)
    → Did sent s → s.outstanding ≡ Some o → o.registers ≡ true → s.observation ≡ Some x → x.latest ≡ None
