-- The calls of devices, over a whole run: "input that its schema refuses reaches no handler", said of the calls alone.
use Rattle.std.specs.Prelude.{◌≡◌, ◌≤◌, List, length, Option, Some, None, Contains, All}
use Rattle.std.specs.List.{flat_map}
use Rattle.wot_json.specs.Tree.{Json}
use Rattle.wot_json.specs.Json.{text_of}
use Rattle.wot_json.specs.Meaning.{json_of}
use Rattle.wot_json.specs.declared.tree.Tree.{Tree}
use Rattle.wot_terms.specs.declared.kind.Kind.TheVariants as kind
use Rattle.thing_handler.specs.declared.handler.CallKind.{CallKind}
use Rattle.thing_handler.specs.declared.handler.CallKind.TheVariants as call
use Rattle.thing_handler.specs.Turns.{HandlerCall, answered, missed}
use Rattle.thing_site.specs.Site.{Placed, ExposedThing}
use Rattle.thing_site.specs.Refusals.{IsRefusedBySchema, longest_value}
use Rattle.servient_outside.specs.declared.net.EventWithBytes.{EventWithBytes}
use Rattle.servient_trace.specs.Trace.{Sighting, calls_in}
use Rattle.servient_core.specs.Machine.{Site, State, Run}

-- ---- values

-- a value that a device is handed: no schema of what is handed in there refuses it, and its text is no longer than is
-- taken
abbrev pub IsFitValue : Placed → Json → Type 0
IsFitValue p value = (¬ (IsRefusedBySchema (record { affordance = p; value = value }))) × (length (text_of value) ≤ longest_value)

-- the input that an action is handed: none, or such a value
abbrev pub IsFitInput : Placed → Option Tree → Type 0
IsFitInput p None = Unit {0}
IsFitInput p (Some tree) = IsFitValue p (json_of tree)

-- ---- calls

-- a call is one of this affordance's kind, and what it hands over is fit for that
abbrev pub IsCallOf : Placed → CallKind → Type 0
IsCallOf p call.Read = p.affordance.kind ≡ kind.Property
IsCallOf p (call.Write tree) = (p.affordance.kind ≡ kind.Property) × IsFitValue p (json_of tree)
IsCallOf p (call.Invoke id handed) = (p.affordance.kind ≡ kind.Action) × IsFitInput p handed
IsCallOf p (call.Query id) = p.affordance.kind ≡ kind.Action
IsCallOf p (call.Cancel id) = p.affordance.kind ≡ kind.Action
IsCallOf p call.Poll = p.affordance.kind ≡ kind.Event

-- the affordances of all Things
abbrev pub affordances_of : Site → List Placed
affordances_of site = flat_map (λ (t : ExposedThing). t.affordances) site.things

-- A call is made of the handler of one of them, and is one of that affordance. Of a call for which a handler was out of
-- memory the slot alone is seen.
abbrev pub IsFit : Site → HandlerCall → Type 0
IsFit site (answered turn) = (p : Placed) × Contains (affordances_of site) p × (p.slot ≡ turn.slot) × IsCallOf p turn.what
IsFit site (missed slot) = (p : Placed) × Contains (affordances_of site) p × (p.slot ≡ slot)

-- Each call of a run is so.
abbrev pub CallsAreFit : Type 0
CallsAreFit =
    (site : Site) (took : List EventWithBytes) (s t : State) (seen : List Sighting) → Run site took s seen t → All (IsFit site) (calls_in seen)
