-- Laws of admission (RFC 7252, sections 4.4 and 4.5).
use Rattle.std.specs.Prelude.{◌≡◌, ◌≤◌, ℕ, true, false, List, [], ◌∷◌, ◌++◌, All, AllPairs, Contains}
use Rattle.coap_exchange.specs.Admission.{Arrival, lives, is_same_exchange, is_duplicate_of, Verdict, admitted, duplicate, refused, verdict, admitted_among}
use Rattle.coap_exchange.specs.Table.{Table, at_moment, Meets, StandsFor}
use Rattle.coap_exchange.specs.declared.met.Met.{Met}
use Rattle.coap_exchange.specs.declared.met.Met.TheVariants.{Fresh, Repeat, Full}

-- a request met this verdict
abbrev pub IsVerdict : Met → Verdict → Type 0
IsVerdict (Fresh slot) v = v ≡ admitted
IsVerdict (Repeat kept) v = v ≡ duplicate
IsVerdict Full v = v ≡ refused

-- A table that stands for a history of requests stands afterwards for the history with the next one, which met the
-- verdict of the history.
abbrev pub TablesFollowTheHistory : Type 0
TablesFollowTheHistory =
    (t u : Table) (history : List Arrival) (a : Arrival) (met : Met)
    → StandsFor t history → t.moment ≤ a.moment → Meets (at_moment a.moment t) a met u
    → IsVerdict met (verdict t.capacity (admitted_among t.capacity history) a) × StandsFor u (history ++ a ∷ [])

-- A duplicate of a request that was admitted and lives isn't admitted.
abbrev pub AdmittedOnce : Type 0
AdmittedOnce =
    (capacity : ℕ) (history : List Arrival) (earlier a : Arrival)
    → Contains (admitted_among capacity history) earlier → is_duplicate_of a earlier ≡ true
    → admitted_among capacity (history ++ a ∷ []) ≡ admitted_among capacity history

-- the two don't both live, or are different exchanges
abbrev pub DifferWhileLiving : ℕ → Arrival → Arrival → Type 0
DifferWhileLiving now a b = lives now a ≡ true → lives now b ≡ true → is_same_exchange b a ≡ false

-- Once all of a history came, no two of the admitted requests that live have one endpoint and message ID.
abbrev pub LivingExchangesDiffer : Type 0
LivingExchangesDiffer =
    (capacity now : ℕ) (history : List Arrival) → All (λ a. a.moment ≤ now) history
    → AllPairs (DifferWhileLiving now) (admitted_among capacity history)
