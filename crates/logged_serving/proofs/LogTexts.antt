-- The lines of a run, part by part.
use Rattle.std.proofs.Common.{◌≡◌, ◌∙◌, ℕ, List, [], ◌∷◌, ◌++◌, refl, sym, ap, append_assoc}
use Rattle.std.specs.List.{flat_map}
use Rattle.thing_handler.specs.Turns.{answered, missed, turns_in}
use Rattle.servient_outside.specs.declared.net.EventWithBytes.{EventWithBytes}
use Rattle.servient_outside.specs.Network.{NetCall, heard, did, broke, events_in}
use Rattle.servient_trace.specs.Trace.{Sighting, at_network, at_handler, happened_in, calls_in}
use Rattle.servient_trace.specs.ShownSections.{Shown, saw, forgot, shown_of}
use Rattle.turn_lines.specs.Lines.{logged_turn}
use Rattle.logged_serving.specs.Logging.{log_from}

-- an event is heard, and then its step is made
pub log_more : (moment : ℕ) (first : List Shown) (e : EventWithBytes) (step : List Sighting)
    → log_from moment (first ++ shown_of (at_network (heard e) ∷ step)) ≡ log_from moment first ++ log_from e.event.moment (shown_of step)
log_more moment [] e step = refl
log_more moment (forgot ∷ first) e step = log_more moment first e step
log_more moment (saw (at_network (heard other)) ∷ first) e step = log_more other.event.moment first e step
log_more moment (saw (at_network (did act)) ∷ first) e step = log_more moment first e step
log_more moment (saw (at_network (broke call)) ∷ first) e step = log_more moment first e step
log_more moment (saw (at_handler (missed slot)) ∷ first) e step = log_more moment first e step
log_more moment (saw (at_handler (answered turn)) ∷ first) e step =
    ap (λ (x : List ℕ). logged_turn moment turn ++ x) (log_more moment first e step)
    ∙ sym (append_assoc (logged_turn moment turn) (log_from moment first) (log_from e.event.moment (shown_of step)))

-- the handlers forget
pub log_forgot : (moment : ℕ) (first : List Shown) → log_from moment (first ++ forgot ∷ []) ≡ log_from moment first
log_forgot moment [] = refl
log_forgot moment (forgot ∷ first) = log_forgot moment first
log_forgot moment (saw (at_network (heard other)) ∷ first) = log_forgot other.event.moment first
log_forgot moment (saw (at_network (did act)) ∷ first) = log_forgot moment first
log_forgot moment (saw (at_network (broke call)) ∷ first) = log_forgot moment first
log_forgot moment (saw (at_handler (missed slot)) ∷ first) = log_forgot moment first
log_forgot moment (saw (at_handler (answered turn)) ∷ first) = ap (λ (x : List ℕ). logged_turn moment turn ++ x) (log_forgot moment first)

-- the network breaks
pub log_broke : (moment : ℕ) (first : List Shown) (call : NetCall) → log_from moment (first ++ saw (at_network (broke call)) ∷ []) ≡ log_from moment first
log_broke moment [] call = refl
log_broke moment (forgot ∷ first) call = log_broke moment first call
log_broke moment (saw (at_network (heard other)) ∷ first) call = log_broke other.event.moment first call
log_broke moment (saw (at_network (did act)) ∷ first) call = log_broke moment first call
log_broke moment (saw (at_network (broke other)) ∷ first) call = log_broke moment first call
log_broke moment (saw (at_handler (missed slot)) ∷ first) call = log_broke moment first call
log_broke moment (saw (at_handler (answered turn)) ∷ first) call = ap (λ (x : List ℕ). logged_turn moment turn ++ x) (log_broke moment first call)

-- the lines of a step are those of its turns
pub step_log : (moment : ℕ) (step : List Sighting) → events_in (happened_in step) ≡ [] → log_from moment (shown_of step) ≡ flat_map (logged_turn moment) (turns_in (calls_in step))
step_log moment [] none = refl
step_log moment (at_network (heard e) ∷ step) none = absurd cc
step_log moment (at_network (did act) ∷ step) none = step_log moment step none
step_log moment (at_network (broke call) ∷ step) none = step_log moment step none
step_log moment (at_handler (missed slot) ∷ step) none = step_log moment step none
step_log moment (at_handler (answered turn) ∷ step) none = ap (λ (x : List ℕ). logged_turn moment turn ++ x) (step_log moment step none)
