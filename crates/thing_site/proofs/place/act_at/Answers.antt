use Rattle.std.proofs.Common.{◌≡◌, Bool, true, false, cond, sym, ap, ◌∙◌}
use Rattle.std.specs.Prelude.{Some, None}
use Rattle.thing_ops.specs.Verbs.{verbs_of}
use Rattle.thing_site.specs.Places.{act_of, flags_of, is_listed}
use Rattle.thing_site.specs.declared.place.ThingAct.{ThingAct}
use Rattle.thing_site.proofs.VerbLaws.{flags_elsewhere, listed_if_taken, unlisted_if_not_taken}
use Rattle.thing_site.proofs.place.act_at.Goals as goal
use Rattle.thing_site.proofs.place.act_at.Goals.{in-Property, in_default}

pub returns-then-takes : goal.returns-then-takes
returns-then-takes c =
    let flags : c.match-place.flags ≡ flags_of c.args.place = elim c.match-place.branch [
      | in-Property w ↦ w.flags-is ∙ (λ i. record { read_only = (w.affordance.ensures i).read_only; write_only = (w.affordance-in-Property.ensures i).write_only }) ∙ ap flags_of (sym w.in-Property.is)
      | in_default w ↦ w.flags-is ∙ flags_elsewhere c.args.place w.in_default.not-Property
    ] in
    let listed : is_listed c.args.verb (verbs_of c.args.route (flags_of c.args.place)) ≡ true =
    ap (is_listed c.args.verb) (sym (c.allowed-allow.ensures ∙ ap (verbs_of c.args.route) flags))
    ∙ listed_if_taken c.allowed-allow.result c.args.verb (sym c.if-takes.ensures) in
    ap (λ (b : Bool). cond b (Some (act_of c.args.place c.args.verb)) None) listed ∙ ap (λ (a : ThingAct). Some a) (sym c.act_of.ensures)

pub returns-else-takes : goal.returns-else-takes
returns-else-takes c =
    let flags : c.match-place.flags ≡ flags_of c.args.place = elim c.match-place.branch [
      | in-Property w ↦ w.flags-is ∙ (λ i. record { read_only = (w.affordance.ensures i).read_only; write_only = (w.affordance-in-Property.ensures i).write_only }) ∙ ap flags_of (sym w.in-Property.is)
      | in_default w ↦ w.flags-is ∙ flags_elsewhere c.args.place w.in_default.not-Property
    ] in
    let of_table = c.allowed-allow.ensures ∙ ap (verbs_of c.args.route) flags in
    let unlisted : is_listed c.args.verb (verbs_of c.args.route (flags_of c.args.place)) ≡ false =
    ap (is_listed c.args.verb) (sym of_table) ∙ unlisted_if_not_taken c.allowed-allow.result c.args.verb (sym c.if-takes.ensures) in
    (ap (λ (b : Bool). cond b (Some (act_of c.args.place c.args.verb)) None) unlisted, of_table)
