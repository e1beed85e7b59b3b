-- The view of the handlers of devices behind files.
use Rattle.wot_terms.specs.declared.kind.Kind.{Kind}
use Rattle.wot_terms.specs.declared.kind.Kind.TheVariants.{Property, Action, Event}
use Rattle.thing_handler.specs.Handler.{Seen}
use Rattle.file_devices.specs.declared.device.Device.{Device}
use Rattle.file_devices.specs.declared.property.FileProperty.{FileProperty}
use Rattle.file_devices.specs.declared.action.FileAction.{FileAction}
use Rattle.file_devices.specs.declared.event.FileEvent.{FileEvent}
use Rattle.file_devices.specs.declared.running.RunningAction.{RunningAction}
use Rattle.file_devices.specs.declared.no_device.NoDevice.{NoDevice}

-- a device as the handler of an affordance of this kind
abbrev pub device_seen : {D : Type 0} → Kind → Device D → Seen
device_seen kind d = record { kind = kind; turns = d.log.turns.items; misses = d.log.misses }

abbrev pub property_seen : {D : Type 0} → FileProperty D → Seen
property_seen p = device_seen Property p.device

abbrev pub action_seen : {D : Type 0} → FileAction D → Seen
action_seen a = device_seen Action a.device

abbrev pub event_seen : {D : Type 0} → FileEvent D → Seen
event_seen e = device_seen Event e.device

-- an action that runs on
abbrev pub running_seen : {D : Type 0} → RunningAction D → Seen
running_seen r = record { kind = Action; turns = r.log.turns.items; misses = r.log.misses }

-- a property without a device
abbrev pub none_seen : NoDevice → Seen
none_seen n = record { kind = Property; turns = n.log.turns.items; misses = n.log.misses }
