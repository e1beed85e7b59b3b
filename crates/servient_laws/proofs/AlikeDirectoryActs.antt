-- The effect of a request on the directory is determined, unless it is out of memory.
use Rattle.std.proofs.Common.{◌≡◌, ℕ, List, [], ◌∷◌, sym, ap, subst, ◌∙◌, inl, inr}
use Rattle.std.specs.Prelude.{◌≢◌}
use Rattle.std.proofs.lemmas.Option.{same_Some}
use Rattle.thing_ops.specs.declared.outcome.Outcome.{Outcome}
use Rattle.thing_ops.specs.declared.outcome.Outcome.TheVariants as outcome
use Rattle.thing_ops.specs.Requests.{RequestSeen}
use Rattle.thing_site.specs.Refusals.{Refusal, nothing_there, verb_not_taken, answer_not_acceptable, format_not_taken, body_not_as_wanted, value_too_large, refused_by_schema, condition_failed, no_invocation_left, IsFirst}
use Rattle.thing_core.proofs.CompleteLaws.{none_is_first}
use Rattle.thing_core.proofs.DeterminedLaws.{same_verbs}
use Rattle.wot_directory.specs.Contents.{Contents}
use Rattle.wot_registry.specs.Registry.{Registered}
use Rattle.directory_requests.specs.declared.act.DirectoryAct.{DirectoryAct}
use Rattle.directory_requests.specs.declared.server.ServedEntries.{ServedEntries}
use Rattle.directory_requests.specs.declared.server.ServedEntries.TheVariants as kept
use Rattle.directory_requests.specs.Asked.{refusals, Stands, IsAnsweredWith}
use Rattle.directory_requests.specs.Requests.{standing_at, PerformsOn, ActsOnStanding, refuses, is_out_of_memory, performs, DirectoryActs}
use Rattle.servient_laws.proofs.AlikeDirectories.{Same, HadMemory, performed_once}
use Rattle.servient_laws.proofs.AlikeRegistries.{performed_at_once}

-- ---- refusals

one_answer : (r : Refusal) (q : RequestSeen) (o p : Outcome) → IsAnsweredWith r q o → IsAnsweredWith r q p → o ≡ p
one_answer nothing_there q o p a b = a ∙ sym b
one_answer verb_not_taken q o p a b = a.2 ∙ ap outcome.NotAllowed (same_verbs a.0 b.0 (a.1 ∙ sym b.1)) ∙ sym b.2
one_answer answer_not_acceptable q o p a b = a ∙ sym b
one_answer format_not_taken q o p a b = a ∙ sym b
one_answer body_not_as_wanted q o p a b = a ∙ sym b
one_answer value_too_large q o p a b = a ∙ sym b
one_answer refused_by_schema q o p a b = a ∙ sym b
one_answer condition_failed q o p a b = a ∙ sym b
one_answer no_invocation_left q o p a b = a ∙ sym b

one_refusal : (q : RequestSeen) (rs : List Refusal) (o p : Outcome) → IsFirst (λ r. Stands r q) (λ r. IsAnsweredWith r q) rs o → IsFirst (λ r. Stands r q) (λ r. IsAnsweredWith r q) rs p → o ≡ p
one_refusal q [] o p a b = absurd a
one_refusal q (r ∷ rs) o p (inl a) (inl b) = one_answer r q o p a.1 b.1
one_refusal q (r ∷ rs) o p (inl a) (inr b) = absurd (b.0 a.0)
one_refusal q (r ∷ rs) o p (inr a) (inl b) = absurd (a.0 b.0)
one_refusal q (r ∷ rs) o p (inr a) (inr b) = one_refusal q rs o p a.1 b.1

-- ---- acts

on_entries_once : (a : DirectoryAct) (q : RequestSeen) (now : ℕ) (o p : Outcome) (d t u : ServedEntries) → HadMemory o → HadMemory p
    → PerformsOn a q now o d t → PerformsOn a q now p d u → Same o p t u
on_entries_once a q now o p (kept.Untimed d) t u on_o on_p (e, done, is) (f, other, is') =
    let same = performed_once a q o p d e f on_o on_p done other in
    record { outcome = same.outcome; contents = is ∙ ap (λ (x : Contents). kept.Untimed x) same.contents ∙ sym is' }
on_entries_once a q now o p (kept.Timed r) t u on_o on_p (e, done, is) (f, other, is') =
    let same = performed_at_once a q now o p r e f on_o on_p done other in
    record { outcome = same.outcome; contents = is ∙ ap (λ (x : Registered). kept.Timed x) same.contents ∙ sym is' }

-- ---- requests

acts_once : (q : RequestSeen) (now : ℕ) (o p : Outcome) (d t u : ServedEntries) → o ≢ outcome.Memory → p ≢ outcome.Memory
    → ActsOnStanding q now o d t → ActsOnStanding q now p d u → (o ≡ p) × (t ≡ u)
acts_once q now o p d t u on_o on_p (is_out_of_memory is after) other = absurd (on_o is)
acts_once q now o p d t u on_o on_p one (is_out_of_memory is after) = absurd (on_p is)
acts_once q now o p d t u on_o on_p (refuses a after) (refuses b after') = (one_refusal q refusals o p a b, after ∙ sym after')
acts_once q now o p d t u on_o on_p (refuses a after) (performs x asked none b) = absurd (none_is_first (λ r. Stands r q) (λ r. IsAnsweredWith r q) refusals o a none)
acts_once q now o p d t u on_o on_p (performs x asked none a) (refuses b after) = absurd (none_is_first (λ r. Stands r q) (λ r. IsAnsweredWith r q) refusals p b none)
acts_once q now o p d t u on_o on_p (performs x asked none a) (performs y asked' none' b) =
    let same = on_entries_once x q now o p d t u on_o on_p a (subst (λ (z : DirectoryAct). PerformsOn z q now p d u) (same_Some y x (sym asked' ∙ asked)) b) in
    (same.outcome, same.contents)

pub directory_determined : (q : RequestSeen) (now : ℕ) (o p : Outcome) (d t u : ServedEntries) → o ≢ outcome.Memory → p ≢ outcome.Memory
    → DirectoryActs q now o d t → DirectoryActs q now p d u → (o ≡ p) × (t ≡ u)
directory_determined q now o p d t u on_o on_p a b = acts_once q now o p (standing_at now d) t u on_o on_p a b
