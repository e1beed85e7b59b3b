use Rattle.std.proofs.Common.{◌∙◌, ◌++◌, ◌==◌, take, ap, List, ℕ}
use Rattle.http_bind.specs.Replying.{status_head}
use Rattle.http_bind.proofs.Calls.{continues_lead, refuses_lead, others_stay}
use Rattle.http_bind.proofs.bind.HttpBind.refused.Goals as goal

pub returns-clause-continues : goal.returns-clause-continues
returns-clause-continues c =
    continues_lead c.args.c c.args.status _ c.args.self.now c.free_unless.new.self c.free_unless.ensures
    (ap (λ (xs : List ℕ). xs ++ take c.put_bytes-end.result c.put_bytes-end.new.out) c.put_status_head-length.ensures.text
    ∙ ap (λ (xs : List ℕ). status_head c.args.status ++ xs) (c.put_bytes-end.ensures.bytes ∙ c.fault_word.ensures.text))

pub returns-clause-refuses : goal.returns-clause-refuses
returns-clause-refuses c =
    refuses_lead c.args.c c.args.status _ c.args.self.now c.free_unless.new.self c.free_unless.ensures
    (ap (λ (xs : List ℕ). xs ++ take c.put_bytes-end.result c.put_bytes-end.new.out) c.put_status_head-length.ensures.text
    ∙ ap (λ (xs : List ℕ). status_head c.args.status ++ xs) (c.put_bytes-end.ensures.bytes ∙ c.fault_word.ensures.text))

pub returns-clause-others : goal.returns-clause-others
returns-clause-others c = others_stay c.args.c c.args.self.now c.free_unless.new.self (c.args.status == 100) c.free_unless.ensures
