-- A request that was chosen can be asked.
use Rattle.std.proofs.Common.{◌≡◌, ◌≢◌, ◌<◌, ◌≤◌, ℕ, List, [], ◌∷◌, length, Bool, true, false, Option, Some, None, sym, subst, arith, inl, inr}
use Rattle.std.specs.Prelude.{codes, unwrap_or, if◌then◌else◌}
use Rattle.std.specs.Str.{bytes_eq}
use Rattle.std.proofs.lemmas.List.Elements.{All-nil, All-cons}
use Rattle.coap_msg.specs.declared.constants.TheConstants.{LONGEST_SEGMENT}
use Rattle.wot_terms.specs.declared.op.Op.{Op}
use Rattle.wot_terms.specs.declared.op.Op.TheVariants as op
use Rattle.wot_forms.specs.declared.form.Form.{Form}
use Rattle.wot_forms.specs.declared.scheme.Scheme.{Scheme}
use Rattle.wot_forms.specs.declared.scheme.Scheme.TheVariants as scheme
use Rattle.thing_ops.specs.declared.verb.Verb.{Verb}
use Rattle.thing_ops.specs.declared.verb.Verb.TheVariants as verb
use Rattle.wot_consumer.specs.declared.chosen.Chosen.{Chosen}
use Rattle.wot_consumer.specs.Operations.{default_verb, verb_of}
use Rattle.wot_consumer.specs.Places.{AreSendable}
use Rattle.wot_consumer.specs.Discovery.{links_of}
use Rattle.wot_json.specs.Tree.{Json}
use Rattle.wot_json.specs.Meaning.{json_of}
use Rattle.wot_consumer.specs.Choice.{IsFirst, IsChosen, base_of, wanted}
use Rattle.coap_client.specs.Asking.{Asking, MayAsk}
use Rattle.network_consumer.specs.declared.blocks.Blocks.{Blocks}
use Rattle.network_consumer.specs.declared.operation.ThingOperation.{ThingOperation}
use Rattle.network_consumer.specs.Asking.{method_code, asking_for, cancelling, AreBlocks, IsAskable, IsChoice}

-- the method is one that has a code
abbrev HasCode : Verb → Type 0
HasCode v = (method_code v ≢ 0) × (method_code v < 32)

default_has_code : (o : Op) → HasCode (default_verb o)
default_has_code op.ReadProperty = (λ none. absurd cc, omega arith)
default_has_code op.WriteProperty = (λ none. absurd cc, omega arith)
default_has_code op.ObserveProperty = (λ none. absurd cc, omega arith)
default_has_code op.UnobserveProperty = (λ none. absurd cc, omega arith)
default_has_code op.InvokeAction = (λ none. absurd cc, omega arith)
default_has_code op.QueryAction = (λ none. absurd cc, omega arith)
default_has_code op.CancelAction = (λ none. absurd cc, omega arith)
default_has_code op.SubscribeEvent = (λ none. absurd cc, omega arith)
default_has_code op.UnsubscribeEvent = (λ none. absurd cc, omega arith)
default_has_code op.ReadAllProperties = (λ none. absurd cc, omega arith)
default_has_code op.WriteAllProperties = (λ none. absurd cc, omega arith)
default_has_code op.ReadMultipleProperties = (λ none. absurd cc, omega arith)
default_has_code op.WriteMultipleProperties = (λ none. absurd cc, omega arith)
default_has_code op.ObserveAllProperties = (λ none. absurd cc, omega arith)
default_has_code op.UnobserveAllProperties = (λ none. absurd cc, omega arith)
default_has_code op.SubscribeAllEvents = (λ none. absurd cc, omega arith)
default_has_code op.UnsubscribeAllEvents = (λ none. absurd cc, omega arith)
default_has_code op.QueryAllActions = (λ none. absurd cc, omega arith)

named_has_code : (a b c : Bool) (v : Verb) → HasCode v → HasCode (unwrap_or (if a then Some verb.Get else if b then Some verb.Put else if c then Some verb.Post else None) v)
named_has_code true b c v has = (λ none. absurd cc, omega arith)
named_has_code false true c v has = (λ none. absurd cc, omega arith)
named_has_code false false true v has = (λ none. absurd cc, omega arith)
named_has_code false false false v has = has

verb_has_code : (o : Op) (named : Option (List ℕ)) → HasCode (verb_of o named)
verb_has_code o None = default_has_code o
verb_has_code o (Some name) = named_has_code (bytes_eq name (codes "GET")) (bytes_eq name (codes "PUT")) (bytes_eq name (codes "POST")) (default_verb o) (default_has_code o)

-- the first form that qualifies leads where its path can be sent, by a method that has a code
record CanBeSent (c : Chosen) : Type 0 where
  pub path : AreSendable c.scheme c.path
  pub code : HasCode c.verb

first_can_be_sent : (o : Op) (only : Option Scheme) (base : Option (List ℕ)) (forms : List Form) (c : Chosen) → IsFirst (wanted o only) base forms (Some c) → CanBeSent c
first_can_be_sent o only base [] c first = absurd first
first_can_be_sent o only base (f ∷ fs) c (inl qualifies) = record { path = qualifies.leads.sendable; code = subst HasCode (sym qualifies.verb) (verb_has_code o f.method) }
first_can_be_sent o only base (f ∷ fs) c (inr later) = first_can_be_sent o only base fs c later.1

chosen_can_be_sent : (t : Json) (o : Op) (only : Option Scheme) (name : List ℕ) (c : Chosen) → IsChosen t (wanted o only) name c → CanBeSent c
chosen_can_be_sent t o only name c chosen = first_can_be_sent o only (base_of t) chosen.0 c chosen.2

choice_can_be_sent : (o : ThingOperation) (c : Chosen) → IsChoice o c → CanBeSent c
choice_can_be_sent o c choice = chosen_can_be_sent (json_of o.tree.now) o.op choice.0 o.name.now c choice.1

pub choice_is_askable : (o : ThingOperation) (c : Chosen) → IsChoice o c → c.scheme ≡ scheme.Coap → IsAskable c
choice_is_askable o c choice is = record {
  code = (choice_can_be_sent o c choice).code.0;
  class = (choice_can_be_sent o c choice).code.1;
  path = subst (λ (s : Scheme). AreSendable s c.path) is (choice_can_be_sent o c choice).path;
}

-- and so can the links of a server
pub links_are_askable : (host : List ℕ) (port : ℕ) (c : Chosen) → c ≡ links_of host port → IsAskable c
links_are_askable host port c is = subst IsAskable (sym is) (record {
  code = λ none. absurd cc;
  class = omega arith;
  path = All-cons (λ (segment : List ℕ). length segment ≤ LONGEST_SEGMENT) (codes ".well-known") (codes "core" ∷ []) (omega arith)
      (All-cons (λ (segment : List ℕ). length segment ≤ LONGEST_SEGMENT) (codes "core") [] (omega arith) (All-nil (λ (segment : List ℕ). length segment ≤ LONGEST_SEGMENT)));
})

pub askable_may_be_asked : (c : Chosen) (a : Asking) (input : Option (List ℕ)) (b : Blocks) → a ≡ asking_for c input b → IsAskable c → AreBlocks b → MayAsk a
askable_may_be_asked c a input b same askable are = subst MayAsk (sym same) (record {
  code = askable.code;
  class = askable.class;
  segments = askable.path;
  block1 = are.block1;
  block2 = are.block2;
})

-- no further values are asked for by GET
pub cancelling_may_be_asked : (c : Chosen) (a : Asking) → a ≡ cancelling c → AreSendable scheme.Coap c.path → MayAsk a
cancelling_may_be_asked c a same path = subst MayAsk (sym same) (record { code = λ none. absurd cc; class = omega arith; segments = path; block1 = tt; block2 = tt })
