use Rattle.std.proofs.Common.{◌≡◌, List, ℕ, sym, ap, subst, ◌∙◌}
use Rattle.std.specs.Prelude.{None, IsSome}
use Rattle.wot_json.specs.Tree.{Json}
use Rattle.wot_json.specs.Lookup.{member_named}
use Rattle.tm_parts.proofs.Models.{none_kept, some_kept}
use Rattle.tm_parts.proofs.library.Library.judge.Goals as goal

pub returns-then-contains_key-clause-fault : goal.returns-then-contains_key-clause-fault
returns-then-contains_key-clause-fault c = (
  c.in_ok-judge_url.ensures.ok,
  subst (λ (ms : List (List ℕ × Json)). IsSome (member_named c.args.url.now ms)) c.self.view_is
      (some_kept c.args.url.now c.self.inside.models.entries (sym c.if-contains_key.ensures)),
)

pub returns-then-not-is_thing_model-clause-fault : goal.returns-then-not-is_thing_model-clause-fault
returns-then-not-is_thing_model-clause-fault c =
    let none : member_named c.args.url.now c.args.self.now ≡ None =
    ap (λ (ms : List (List ℕ × Json)). member_named c.args.url.now ms) (sym c.self.view_is)
    ∙ none_kept c.args.url.now c.self.inside.models.entries (sym c.if-contains_key.ensures) in
    (c.in_ok-judge_url.ensures.ok, none, sym c.if-not-is_thing_model.ensures)

pub returns-clause-ok : goal.returns-clause-ok
returns-clause-ok c = record {
  url_is = c.in_ok-judge_url.ensures.ok;
  new = ap (λ (ms : List (List ℕ × Json)). member_named c.args.url.now ms) (sym c.self.view_is)
      ∙ none_kept c.args.url.now c.self.inside.models.entries (sym c.if-contains_key.ensures);
  is_model = sym c.if-not-is_thing_model.ensures;
}
