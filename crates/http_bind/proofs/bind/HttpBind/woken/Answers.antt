use Rattle.std.proofs.Common.{◌≡◌, refl, take, cond, [], rules}
use Rattle.std.specs.Prelude.{option_map, unwrap_or}
use Rattle.http_bind.proofs.Calls.{wakes_lead, woken_body, settles_fewer, others_without}
use Rattle.http_bind.proofs.bind.HttpBind.woken.Goals as goal
use Rattle.http_bind.proofs.bind.HttpBind.woken.Goals.{then-owed, else-owed}

pub take_owed-owed-requires : goal.take_owed-owed-requires
take_owed-owed-requires c = c.always_sound.ensures.owed c.args.c c.requires.waits

pub returns-clause-leads : goal.returns-clause-leads
returns-clause-leads c =
    let text = option_map (λ t. t.now) c.args.text in
    let body : c.if-owed.body.now ≡ cond c.take_owed-owed.result.bodiless [] (unwrap_or (option_map (λ t. t.now) c.args.text) []) =
    elim c.if-owed.branch [ then-owed w ↦ search rules | else-owed w ↦ search rules ] in
    wakes_lead c.args.c c.args.now text c.args.self.now (take c.put_woken-length.result c.put_woken-length.new.out) c.if-owed.body.now c.take_owed-owed.result.closes
    c.take_owed-owed.result c.take_owed-owed.new.self c.requires.waits c.take_owed-owed.ensures refl c.put_woken-length.ensures.text
    (woken_body c.take_owed-owed.result.bodiless text (unwrap_or text []) c.if-owed.body.now body refl)

pub returns-clause-fewer : goal.returns-clause-fewer
returns-clause-fewer c = settles_fewer c.args.c c.args.now c.args.self.now c.take_owed-owed.result c.take_owed-owed.new.self c.requires.waits c.take_owed-owed.ensures

pub returns-clause-others : goal.returns-clause-others
returns-clause-others c = others_without c.args.c c.args.self.now c.take_owed-owed.new.self c.take_owed-owed.ensures.held c.take_owed-owed.ensures.after
