use Rattle.std.proofs.Common.{◌∙◌, ℕ, List, Bor, Option, Some, sym, ap}
use Rattle.std.specs.Prelude.{option_map}
use Rattle.wot_json.specs.Json.{text_of as text_of_value}
use Rattle.wot_json.specs.Meaning.{json_of}
use Rattle.wot_json.specs.declared.tree.Tree.{Tree}
use Rattle.network_consumer.specs.Deeds.{sight}
use Rattle.network_consumer.proofs.AskingLaws.{asked_with}
use Rattle.network_consumer.proofs.asking.ask.Goals as goal

pub returns-in-None : goal.returns-in-None
returns-in-None g c =
    asked_with _ _ _ _ _ (sight (g.N.Net.seen c.args.net.now) (g.O.Out.seen c.args.out.now)) (sight (g.N.Net.seen c.ask_with.new.net) (g.O.Out.seen c.ask_with.new.out)) _
    (sym (ap (λ (input : Option (Bor Tree)). option_map text_of_value (option_map (λ v. json_of v.now) input)) c.in-None.is)) c.ask_with.ensures

pub returns-in-Ok : goal.returns-in-Ok
returns-in-Ok g c =
    asked_with _ _ _ _ _ (sight (g.N.Net.seen c.args.net.now) (g.O.Out.seen c.args.out.now)) (sight (g.N.Net.seen c.ask_with-in-Ok.new.net) (g.O.Out.seen c.ask_with-in-Ok.new.out)) _
    (ap (λ (text : List ℕ). Some text) c.in-Ok.ensures ∙ sym (ap (λ (input : Option (Bor Tree)). option_map text_of_value (option_map (λ v. json_of v.now) input)) c.in-Some.is)) c.ask_with-in-Ok.ensures
