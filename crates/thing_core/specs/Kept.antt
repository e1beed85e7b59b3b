-- The view that contracts have of exposed Things.
use Rattle.std.specs.Prelude.{ℕ, List, refl}
use Rattle.std.specs.Coded.{Coded, code_by, coded×, coded_ℕ, coded_list}
use Rattle.thing_site.specs.Site.{Site}
use Rattle.thing_site.specs.SiteCodes.{site_code}
use Rattle.thing_state.specs.State.{State}
use Rattle.thing_state.specs.Course.{state_code}

-- the Things, the state of the machine, and the targets of emissions that weren't handed out yet
pub record Kept : Type 0 where
  pub site : Site
  pub state : State
  pub pending : List ℕ

-- ---- codes, as the kit asks in an `impl Model`

abbrev KeptParts : Type 0
KeptParts = Site × (State × List ℕ)

abbrev pub kept_code : Coded Kept
kept_code =
    code_by KeptParts (coded× site_code (coded× state_code (coded_list coded_ℕ))) (λ k. (k.site, (k.state, k.pending)))
    (λ q. record { site = q.0; state = q.1.0; pending = q.1.1 }) (λ _. refl)
