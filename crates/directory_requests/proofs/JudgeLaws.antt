-- The refusals that hold of a request to the directory, and those that don't.
use Rattle.std.proofs.Common.{◌≡◌, ℕ, List, [], true, false, refl, sym, ap, subst, ◌∙◌, inl, inr}
use Rattle.std.specs.Prelude.{Option, Some, None, Ok, Err}
use Rattle.wot_json.specs.Tree.{Json}
use Rattle.wot_json.specs.Reading.{tree_of}
use Rattle.wot_json.specs.Meaning.{json_of}
use Rattle.thing_ops.specs.declared.outcome.Outcome.{Outcome}
use Rattle.thing_ops.specs.declared.outcome.Outcome.TheVariants as outcome
use Rattle.thing_ops.specs.Requests.{RequestSeen}
use Rattle.thing_site.specs.Refusals.{Input, no_inputs, Refusal, answer_not_acceptable, format_not_taken, body_not_as_wanted, value_too_large, refused_by_schema, Holding, SomeInput, IsLong, IsRefusedBySchema, StandsBy}
use Rattle.thing_site.specs.HandedIn.{AreFormatsTaken, AreFormatsRefused, HasNoInputs}
use Rattle.directory_requests.specs.declared.act.DirectoryAct.{DirectoryAct}
use Rattle.directory_requests.specs.declared.act.DirectoryAct.TheVariants as act
use Rattle.directory_requests.specs.declared.judging.DirectoryTask.{DirectoryTask}
use Rattle.directory_requests.specs.declared.judging.DirectoryTask.TheVariants as task
use Rattle.directory_requests.specs.Asked.{act_asked, answer_format, body_format, inputs_of, if_readable, demands_of, IsRefused}
use Rattle.directory_requests.specs.Judged.{IsAsked, IsTask, IsJudged, IsRefusedOrMemory}

-- a fact of the act that is asked for
holding : (P : DirectoryAct → Type 0) (o : Option DirectoryAct) (a : DirectoryAct) → o ≡ Some a → P a → Holding P o
holding P o a e p = subst (λ (x : Option DirectoryAct). Holding P x) (sym e) p

held : (P : DirectoryAct → Type 0) (o : Option DirectoryAct) (a : DirectoryAct) → o ≡ Some a → Holding P o → P a
held P o a e h = subst (λ (x : Option DirectoryAct). Holding P x) e h

-- a body that is read hands in nothing to a handler
readable : (body : List ℕ) (value : Json) → tree_of body ≡ Some value → if_readable body ≡ Some []
readable body value e = rw e refl

nothing_in : (body : List ℕ) → body ≡ [] → no_inputs body ≡ Some []
nothing_in body e = rw e refl

hands_in : (a : DirectoryAct) (body : List ℕ) (t : DirectoryTask) → IsTask a body t → inputs_of a body ≡ Some []
hands_in act.Lists body task.Lists e = nothing_in body e
hands_in act.Creates body (task.Creates tree) e = readable body (json_of tree) e
hands_in act.Shows body task.Shows e = nothing_in body e
hands_in act.Puts body (task.Puts tree) e = readable body (json_of tree) e
hands_in act.Patches body (task.Patches tree) e = readable body (json_of tree) e
hands_in act.Removes body task.Removes e = nothing_in body e
hands_in a body t e = absurd e

some_there : (o : Option (List Input)) → o ≡ Some [] → o ≡ None → ⊥
some_there o e none = absurd cc

none_such : (P : Input → Type 0) (o : Option (List Input)) → o ≡ Some [] → Holding (SomeInput P) o → ⊥
none_such P o e h = subst (λ (x : Option (List Input)). Holding (SomeInput P) x) e h

untrue : (b : _) → b ≡ true → b ≡ false → ⊥
untrue b e f = absurd cc

-- nothing is against a request
pub judged : (q : RequestSeen) (a : DirectoryAct) (t : DirectoryTask) → IsAsked q (Ok a) → AreFormatsTaken (answer_format a) (body_format a) q → IsTask a q.body t → IsJudged q t
judged q a t asked formats is =
    let given = hands_in a q.body t is in record {
      act = a;
      asked = asked.0;
      is_task = is;
      unrefused = (asked.1.0, (asked.1.1.0, ((λ h. untrue _ formats.0 (held (λ x. StandsBy answer_not_acceptable (demands_of x) q) (act_asked q) a asked.0 h)), ((λ h. formats.1 (held (λ x. StandsBy format_not_taken (demands_of x) q) (act_asked q) a asked.0 h)), ((λ h. some_there (inputs_of a q.body) given (held (λ x. StandsBy body_not_as_wanted (demands_of x) q) (act_asked q) a asked.0 h)), ((λ h. none_such IsLong (inputs_of a q.body) given (held (λ x. StandsBy value_too_large (demands_of x) q) (act_asked q) a asked.0 h)), ((λ h. none_such IsRefusedBySchema (inputs_of a q.body) given (held (λ x. StandsBy refused_by_schema (demands_of x) q) (act_asked q) a asked.0 h)), tt)))))));
    }

-- its formats are
pub formats_refused : (q : RequestSeen) (a : DirectoryAct) (o : Outcome) → IsAsked q (Ok a) → AreFormatsRefused (answer_format a) (body_format a) q o → IsRefusedOrMemory q o
formats_refused q a o asked (inl bad) =
    inr (inr (asked.1.0, inr (asked.1.1.0, inl (holding (λ x. StandsBy answer_not_acceptable (demands_of x) q) (act_asked q) a asked.0 bad.0, bad.1))))
formats_refused q a o asked (inr bad) = inr (inr (
  asked.1.0,
  inr (
    asked.1.1.0,
    inr (
      (λ h. untrue _ bad.0 (held (λ x. StandsBy answer_not_acceptable (demands_of x) q) (act_asked q) a asked.0 h)),
      inl (holding (λ x. StandsBy format_not_taken (demands_of x) q) (act_asked q) a asked.0 bad.1, bad.2),
    ),
  ),
))

-- its body is
pub body_refused : (q : RequestSeen) (a : DirectoryAct) (o : Outcome) → IsAsked q (Ok a) → AreFormatsTaken (answer_format a) (body_format a) q → HasNoInputs (inputs_of a q.body) o
    → IsRefusedOrMemory q o
body_refused q a o asked formats (inl memory) = inl memory
body_refused q a o asked formats (inr bad) = inr (inr (
  asked.1.0,
  inr (
    asked.1.1.0,
    inr (
      (λ h. untrue _ formats.0 (held (λ x. StandsBy answer_not_acceptable (demands_of x) q) (act_asked q) a asked.0 h)),
      inr (
        (λ h. formats.1 (held (λ x. StandsBy format_not_taken (demands_of x) q) (act_asked q) a asked.0 h)),
        inl (holding (λ x. StandsBy body_not_as_wanted (demands_of x) q) (act_asked q) a asked.0 bad.0, bad.1),
      ),
    ),
  ),
))

-- no act was asked for
pub asked_refused : (q : RequestSeen) (o : Outcome) → IsAsked q (Err o) → IsRefusedOrMemory q o
asked_refused q o (inl first) = inr (inl first)
asked_refused q o (inr (there, inl second)) = inr (inr (there, inl second))
asked_refused q o (inr (there, inr (taken, none))) = absurd none
