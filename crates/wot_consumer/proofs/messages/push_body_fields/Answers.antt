use Rattle.std.proofs.Common.{◌∙◌, ◌≡◌, ◌++◌, OnOk, subst, string_bytes, codes, decimal}
use Rattle.std.proofs.lemmas.List.{append_assoc}
use Rattle.wot_consumer.specs.Messages.{field}
use Rattle.wot_consumer.proofs.messages.push_body_fields.Goals as goal

pub returns : goal.returns
returns c =
    subst (λ text. OnOk c.push_field-2.result (string_bytes c.push_field-2.new.text ≡ text))
    ((λ i. c.in_ok-push_field.ensures i ++ field (codes "Content-Length") (c.format.ensures.text i))
    ∙ append_assoc (string_bytes c.args.text.now) (field (codes "Content-Type") (codes "application/json")) (field (codes "Content-Length") (decimal c.args.length)))
    c.push_field-2.ensures
