use Rattle.std.proofs.Common.{◌≡◌, Bool, true, false, cond, sym, ap, ◌∙◌}
use Rattle.std.specs.Prelude.{Some, None}
use Rattle.thing_ops.specs.Verbs.{verbs_of}
use Rattle.thing_site.specs.Places.{is_listed}
use Rattle.thing_site.proofs.VerbLaws.{listed_if_taken, unlisted_if_not_taken}
use Rattle.directory_requests.specs.declared.act.DirectoryAct.{DirectoryAct}
use Rattle.directory_requests.specs.Asked.{act_of, no_flags}
use Rattle.directory_requests.proofs.act.act_at.Goals as goal

pub returns-then-takes : goal.returns-then-takes
returns-then-takes c =
    let listed : is_listed c.args.verb (verbs_of c.args.route no_flags) ≡ true =
    ap (is_listed c.args.verb) (sym c.allowed-allow.ensures) ∙ listed_if_taken c.allowed-allow.result c.args.verb (sym c.if-takes.ensures) in
    ap (λ (b : Bool). cond b (Some (act_of c.args.route c.args.verb)) None) listed ∙ ap (λ (a : DirectoryAct). Some a) (sym c.act_of.ensures)

pub returns-else-takes : goal.returns-else-takes
returns-else-takes c =
    let unlisted : is_listed c.args.verb (verbs_of c.args.route no_flags) ≡ false =
    ap (is_listed c.args.verb) (sym c.allowed-allow.ensures) ∙ unlisted_if_not_taken c.allowed-allow.result c.args.verb (sym c.if-takes.ensures) in
    (ap (λ (b : Bool). cond b (Some (act_of c.args.route c.args.verb)) None) unlisted, c.allowed-allow.ensures)
