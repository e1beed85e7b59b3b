-- The reasons for which a request is refused for what it hands in.
use Rattle.std.proofs.Common.{◌≡◌, List, inl, inr, subst, sym}
use Rattle.std.specs.Prelude.{Option, Some}
use Rattle.thing_ops.specs.declared.outcome.Outcome.{Outcome}
use Rattle.thing_ops.specs.Requests.{RequestSeen}
use Rattle.thing_site.specs.declared.place.ThingAct.{ThingAct}
use Rattle.thing_site.specs.declared.formats.AnswerFormat.{AnswerFormat}
use Rattle.thing_site.specs.declared.formats.BodyFormat.{BodyFormat}
use Rattle.thing_site.specs.Refusals.{Input, inputs_of, answer_format, body_format, Holding, SomeInput, IsLong, IsRefusedBySchema}
use Rattle.thing_site.specs.HandedIn.{AreFormatsTaken, AreInputsRefused, IsRefusedByRequest}

-- a request whose formats are taken, and whose inputs are refused
pub inputs_refused : (act : ThingAct) (q : RequestSeen) (answer : AnswerFormat) (body : BodyFormat) (inputs shown : List Input) (o : Outcome) → answer ≡ answer_format act → body ≡ body_format act → AreFormatsTaken answer body q
    → inputs_of act q.body ≡ Some inputs → shown ≡ inputs → AreInputsRefused shown o → IsRefusedByRequest act q o
inputs_refused act q answer body inputs shown o answer_is body_is formats handed shown_is refused =
    let taken : AreFormatsTaken (answer_format act) (body_format act) q =
    subst (λ (a : AnswerFormat). AreFormatsTaken a (body_format act) q) answer_is (subst (λ (b : BodyFormat). AreFormatsTaken answer b q) body_is formats) in
    let why : AreInputsRefused inputs o = subst (λ (is : List Input). AreInputsRefused is o) shown_is refused in
    inr (inr (
      (λ no. cc (taken.0, no)),
      inr (
        taken.1,
        inr (
          (λ none. cc (none, handed)),
          elim why [
            | inl long ↦ inl (subst (λ (w : Option (List Input)). Holding (SomeInput IsLong) w) (sym handed) long.0, long.1)
            | inr other ↦ inr (
              (λ long. other.0 (subst (λ (w : Option (List Input)). Holding (SomeInput IsLong) w) handed long)),
              inl (subst (λ (w : Option (List Input)). Holding (SomeInput IsRefusedBySchema) w) (sym handed) other.1, other.2),
            )
          ],
        ),
      ),
    ))
