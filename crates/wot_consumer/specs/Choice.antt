-- The form of a Thing Description that is chosen for an operation, and the request to it (TD 1.1, section 5.3.4.2).
use Rattle.std.specs.Prelude.{◌≡◌, ◌⊎◌, ℕ, List, [], ◌∷◌, Bool, true, not, IsTrue, Option, Some, None, Ok, codes, unwrap_or, option_map, IfSome, Contains, ⊤, if◌then◌else◌}
use Rattle.url.specs.Parts.{Parts, nonempty_host}
use Rattle.url.specs.Host.{host_text}
use Rattle.servient_base.specs.Location.{joined_url}
use Rattle.wot_json.specs.Tree.{Json}
use Rattle.wot_terms.specs.declared.op.Op.{Op}
use Rattle.wot_terms.specs.Affordances.{part}
use Rattle.wot_forms.specs.declared.form.Form.{Form}
use Rattle.wot_forms.specs.declared.scheme.Scheme.{Scheme}
use Rattle.wot_forms.specs.declared.scheme.Scheme.TheVariants as scheme
use Rattle.wot_forms.specs.Forms.{forms_in, text_of}
use Rattle.wot_consumer.specs.declared.chosen.Chosen.{Chosen}
use Rattle.wot_consumer.specs.declared.chosen.ChooseFault.{ChooseFault}
use Rattle.wot_consumer.specs.declared.chosen.ChooseFault.TheVariants as fault
use Rattle.wot_consumer.specs.declared.wanted.SoughtForm.{SoughtForm}
use Rattle.wot_consumer.specs.Operations.{kind_of, is_observing, verb_of}
use Rattle.wot_consumer.specs.Places.{scheme_named, default_port, segments_of, AreSendable}

-- ## A form that qualifies

-- the subprotocol of a form that is used for an operation: observing is that of CoAP (RFC 7641)
abbrev pub subprotocol_for : Op → Option (List ℕ)
subprotocol_for o = if is_observing o then Some (codes "cov:observe") else None

-- an operation is done over this protocol: observing over CoAP alone
abbrev pub is_over : Op → Scheme → Bool
is_over o scheme.Http = not (is_observing o)
is_over o scheme.Coap = true

-- a scheme may be used: it is the wanted one, where one is wanted
abbrev pub IsWanted : SoughtForm → Scheme → Type 0
IsWanted w s = IfSome w.scheme (λ only. only ≡ s) × IsTrue (is_over w.op s)

-- A form fits by its own members.
pub record Fits (w : SoughtForm) (f : Form) : Type 0 where
  pub operation : Contains f.ops w.op
  pub content_type : f.content_type ≡ codes "application/json"
  pub subprotocol : f.subprotocol ≡ subprotocol_for w.op

-- The choice is at this URL: it has a scheme that may be used, a host and no query, and its path can be sent.
pub record LeadsTo (w : SoughtForm) (url : Parts) (c : Chosen) : Type 0 where
  pub scheme : scheme_named url.scheme ≡ Some c.scheme
  pub wanted : IsWanted w c.scheme
  pub host : option_map host_text (nonempty_host url) ≡ Some c.host
  pub no_query : url.query ≡ None
  pub port : c.port ≡ unwrap_or url.port (default_port c.scheme)
  pub path : c.path ≡ segments_of url.path
  pub sendable : AreSendable c.scheme c.path

-- nothing is chosen at this URL
abbrev pub LeadsNowhere : SoughtForm → Parts → Type 0
LeadsNowhere w url = (c : Chosen) → ¬ (LeadsTo w url c)

-- A form qualifies, and this is what is chosen by it: its `href` is joined to the base of the description, where that
-- has one.
pub record Qualifies (w : SoughtForm) (base : Option (List ℕ)) (f : Form) (c : Chosen) : Type 0 where
  pub fits : Fits w f
  pub url : Parts
  pub joined : joined_url base f.href ≡ Ok url
  pub leads : LeadsTo w url c
  pub verb : c.verb ≡ verb_of w.op f.method
  pub observe : c.observe ≡ is_observing w.op

-- ## The first of them

-- nothing is chosen by a form
abbrev pub IsPassedOver : SoughtForm → Option (List ℕ) → Form → Type 0
IsPassedOver w base f = (c : Chosen) → ¬ (Qualifies w base f c)

-- the first form that qualifies, and what is chosen by it; or none of the forms qualifies
abbrev pub IsFirst : SoughtForm → Option (List ℕ) → List Form → Option Chosen → Type 0
IsFirst w base [] None = ⊤
IsFirst w base [] (Some c) = ⊥
IsFirst w base (f ∷ fs) None = IsPassedOver w base f × IsFirst w base fs None
IsFirst w base (f ∷ fs) (Some c) = Qualifies w base f c ⊎ (IsPassedOver w base f × IsFirst w base fs (Some c))

-- no form qualifies, or it is out of memory
abbrev pub IsNoForm : SoughtForm → Option (List ℕ) → List Form → ChooseFault → Type 0
IsNoForm w base forms fault.NoAffordance = ⊥
IsNoForm w base forms fault.NoForm = IsFirst w base forms None
IsNoForm w base forms fault.NoMemory = ⊤

-- ## The choice

-- the base to which the URLs of a description are joined (section 5.3.1.1)
abbrev pub base_of : Json → Option (List ℕ)
base_of t = text_of (part (codes "base") t)

-- the forms among which there is a choice: those of the affordance of this name that has the operation, or those of the
-- Thing as a whole; none where it has no such affordance
abbrev pub forms_for : Json → Op → List ℕ → Option (List Form)
forms_for t o name = forms_in t (kind_of o) name

-- the form that is wanted
abbrev pub wanted : Op → Option Scheme → SoughtForm
wanted o only = record { op = o; scheme = only }

-- there are such forms, and what is chosen by the first of them that qualifies, or by none, is this
abbrev pub ComesTo : Json → SoughtForm → List ℕ → Option Chosen → Type 0
ComesTo t w name o = (forms : List Form) × (forms_for t w.op name ≡ Some forms) × IsFirst w (base_of t) forms o

-- This is chosen: the first form that qualifies says it.
abbrev pub IsChosen : Json → SoughtForm → List ℕ → Chosen → Type 0
IsChosen t w name c = ComesTo t w name (Some c)

-- Nothing is chosen: there is no such affordance, or none of its forms qualifies; or it is out of memory.
abbrev pub IsNoChoice : Json → SoughtForm → List ℕ → ChooseFault → Type 0
IsNoChoice t w name fault.NoAffordance = forms_for t w.op name ≡ None
IsNoChoice t w name fault.NoForm = ComesTo t w name None
IsNoChoice t w name fault.NoMemory = ⊤
