-- What a call of the system is recorded as.
use Rattle.std.specs.Prelude.{ℕ, List, Result, Ok, Err, take}
use Rattle.servient_system.specs.declared.asked.ReceivedDatagram.{ReceivedDatagram}
use Rattle.servient_system.specs.declared.refusal.Refusal.{Refusal}
use Rattle.servient_system.specs.declared.system.Arrived.{Arrived}

-- the bytes that a read put at the beginning of a buffer
abbrev pub bytes_read : Result ℕ Refusal → List ℕ → Result (List ℕ) Refusal
bytes_read (Ok count) buffer = Ok (take count buffer)
bytes_read (Err refusal) buffer = Err refusal

-- the datagram that was received into a buffer
abbrev pub datagram_received : Result Arrived Refusal → List ℕ → Result ReceivedDatagram Refusal
datagram_received (Ok arrived) buffer = Ok (record { from = arrived.from; bytes = take arrived.count buffer })
datagram_received (Err refusal) buffer = Err refusal
