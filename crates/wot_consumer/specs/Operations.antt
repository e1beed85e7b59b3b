-- The operations of a consumer on a Thing (TD 1.1, section 5.3.4.2), and the method of each.
use Rattle.std.specs.Prelude.{ℕ, List, Bool, true, false, Option, Some, None, codes, unwrap_or, option_and_then, if◌then◌else◌}
use Rattle.std.specs.Str.{bytes_eq}
use Rattle.wot_terms.specs.declared.kind.Kind.{Kind}
use Rattle.wot_terms.specs.declared.kind.Kind.TheVariants as kind
use Rattle.wot_terms.specs.declared.op.Op.{Op}
use Rattle.wot_terms.specs.declared.op.Op.TheVariants as op
use Rattle.thing_ops.specs.declared.verb.Verb.{Verb}
use Rattle.thing_ops.specs.declared.verb.Verb.TheVariants as verb

-- the operations that a consumer does
abbrev pub is_consumed : Op → Bool
is_consumed op.ReadProperty = true
is_consumed op.WriteProperty = true
is_consumed op.ObserveProperty = true
is_consumed op.InvokeAction = true
is_consumed op.ReadAllProperties = true
is_consumed o = false

-- the affordances that have such an operation; none where it is one of the Thing as a whole
abbrev pub kind_of : Op → Option Kind
kind_of op.ReadProperty = Some kind.Property
kind_of op.WriteProperty = Some kind.Property
kind_of op.ObserveProperty = Some kind.Property
kind_of op.InvokeAction = Some kind.Action
kind_of o = None

-- values are waited for as they come (RFC 7641)
abbrev pub is_observing : Op → Bool
is_observing op.ObserveProperty = true
is_observing o = false

-- the method of such an operation, over HTTP and over CoAP, where the form names none
abbrev pub default_verb : Op → Verb
default_verb op.WriteProperty = verb.Put
default_verb op.InvokeAction = verb.Post
default_verb o = verb.Get

-- the method that a form names (`htv:methodName`), where it is GET, PUT or POST
abbrev pub verb_named : List ℕ → Option Verb
verb_named name =
    if bytes_eq name (codes "GET") then Some verb.Get
    else if bytes_eq name (codes "PUT") then Some verb.Put
    else if bytes_eq name (codes "POST") then Some verb.Post
    else None

-- the method by which an operation is asked for
abbrev pub verb_of : Op → Option (List ℕ) → Verb
verb_of o named = unwrap_or (option_and_then verb_named named) (default_verb o)
