use Rattle.wot_terms.proofs.affordances.affordance.Goals as goal

pub returns-in-Forms : goal.returns-in-Forms
returns-in-Forms c = rw (c.in-Obj.is, c.in-Forms.is) (c.forms.ensures c.args.kind)
