-- The option that was written is the last.
use Rattle.std.proofs.Common.{◌≡◌, ◌∙◌, ap, arith}
use Rattle.coap_msg.specs.Opts.{WrittenOptions, last_number}
use Rattle.coap_msg.proofs.OptionLists.{last_number-push}
use Rattle.cases_words.proofs.encodings.push.Goals as goal

pub returns-in-Ok : goal.returns-in-Ok
returns-in-Ok c =
    let is : last_number 0 c.push.new.self.list ≡ c.args.number
    = ap (λ (w : WrittenOptions). last_number 0 w.list) c.in-Ok.ensures.ok
    ∙ last_number-push 0 c.args.options.now.list (c.args.number, c.args.value.now) in omega arith
