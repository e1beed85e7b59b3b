use Rattle.std.proofs.Common.{rules, ◌≡◌, ◌∙◌, ap, ap₂, sym, map, take, ◌++◌, ◌∷◌, [], List, ℕ, Bor, append_assoc, arith, Some}
use Rattle.std.proofs.lemmas.List.{take_all}
use Rattle.clap.specs.Words.{Rule, new_rule, rule_of, with_rule}
use Rattle.clap.specs.declared.builder.arg.Arg.{Arg}
use Rattle.command_words.specs.Line.{app_with, long_rule}
use Rattle.command_words.specs.Parts.{texts}
use Rattle.command_words.proofs.RulesMore.{rules_more}
use Rattle.command_words.proofs.values.with_options.Goals as goal

-- the rule of an argument that gets a long name
long_named : (before after : Arg) (name : Bor (List ℕ)) → after ≡ record before { long = Some name } → rule_of before ≡ new_rule name.now
    → rule_of after ≡ long_rule name.now
long_named before after name is plain = ap rule_of is ∙ ap (λ (r : Rule). record r { long = Some name.now }) plain

pub loop-option-preserved : goal.loop-option-preserved
loop-option-preserved c = λ places before.
    let more = rules_more long_rule c.args.options.now c.loop-option.option-index _ c.loop-option-test.true in
    c.in_ok-command.ensures.shape (search rules)
    ∙ ap₂ with_rule (c.loop-option.invariant places before) (long_named c.new.result c.long.result _ c.long.ensures c.new.ensures.rule)
    ∙ ap app_with (append_assoc places (map long_rule (texts (take c.loop-option.option-index c.args.options.now))) (long_rule _ ∷ []))
    ∙ ap (λ (rules : List Rule). app_with (places ++ rules)) (sym more)

pub returns : goal.returns
returns c = λ places before.
    c.loop-option.invariant places before
    ∙ ap (λ (names : List (Bor (List ℕ))). app_with (places ++ map long_rule (texts names))) (take_all c.loop-option.option-index c.args.options.now (omega (arith, c.loop-option-test.false)))
