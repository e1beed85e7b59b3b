use Rattle.std.proofs.Common.{◌≡◌, ◌∷◌, ◌∙◌, ℕ, List, arith, ap, sym}
use Rattle.std.specs.Prelude.{option_map}
use Rattle.std.proofs.lemmas.Bool.Decides.{nat_tests}
use Rattle.std.proofs.lemmas.Str.Pattern.{strip_prefix_char}
use Rattle.wot_json.specs.Pointer.{value_at, escapes}
use Rattle.wot_json.specs.Meaning.{json_of}
use Rattle.wot_json.proofs.PointerTexts.{no_pointer, no_pointer_unescaped, pointer_escaped, first_of_pointer}
use Rattle.wot_json.proofs.PointerTokens.{part_found}
use Rattle.wot_json.proofs.lookup.pointer.Goals as goal

pub returns-in_default-clause-fault : goal.returns-in_default-clause-fault
returns-in_default-clause-fault c =
    let begins = strip_prefix_char 47 c.args.at.now c.strip_prefix.result c.strip_prefix.ensures.cases (omega arith) in
    no_pointer c.args.at.now (λ empty. grind (arith, nat_tests, c.if-is_empty.ensures)) (rw c.in_default.is at begins)

pub returns-then-not-is_escaped-clause-fault : goal.returns-then-not-is_escaped-clause-fault
returns-then-not-is_escaped-clause-fault c =
    let begins = strip_prefix_char 47 c.args.at.now c.strip_prefix.result c.strip_prefix.ensures.cases (omega arith) in
    let begins_so : c.args.at.now ≡ 47 ∷ c.in-Some.tokens.now = rw c.in-Some.is at begins in
    no_pointer_unescaped c.args.at.now c.in-Some.tokens.now begins_so (ap escapes (sym c.as_bytes.ensures.value) ∙ sym c.is_escaped.ensures ∙ c.if-not-is_escaped.true)

pub returns-clause-ok : goal.returns-clause-ok
returns-clause-ok c =
    let begins = strip_prefix_char 47 c.args.at.now c.strip_prefix.result c.strip_prefix.ensures.cases (omega arith) in
    let begins_so : c.args.at.now ≡ 47 ∷ c.in-Some.tokens.now = rw c.in-Some.is at begins in
    let escaped = ap escapes (sym c.as_bytes.ensures.value) ∙ sym c.is_escaped.ensures ∙ c.if-not-is_escaped.false in
    let is_pointer = pointer_escaped c.args.at.now c.in-Some.tokens.now begins_so escaped in (
      is_pointer,
      part_found c.args.at.now (json_of c.args.tree.now) (option_map (λ t. json_of t.now) c.value_at_tokens.result) is_pointer
          (λ tokens is.
          let first = first_of_pointer c.args.at.now c.in-Some.tokens.now tokens begins_so is in
          c.value_at_tokens.ensures first.0 first.1 first.3 ∙ ap (λ (ts : List (List ℕ)). value_at ts (json_of c.args.tree.now)) (sym first.2)),
    )
