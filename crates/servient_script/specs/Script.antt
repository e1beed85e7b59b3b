-- Replay scripts: the text of their lines, and which bytes are one.
--
-- A script is a text of lines, each ended by a line feed, with one event on each:
--
--     MOMENT open C            a peer opened the connection C
--     MOMENT bytes C HEX       these bytes came on it
--     MOMENT end C             it has ended
--     MOMENT data H:P HEX      these bytes came in one datagram from this endpoint
--     MOMENT tick              time goes by
--     MOMENT stop              the run ends; nothing follows it
--
-- One blank is between two fields, and nothing else is in a line. Numbers are decimal, with no sign and no leading
-- zero. MOMENT is in milliseconds, at most 10 ^ 15; C is below 64; H, the number of the host, is below 2 ^ 32; P, its
-- UDP port, is below 2 ^ 16. HEX has each byte as two lower-case hexadecimal digits: 1 to 4,096 bytes on a connection,
-- and in a datagram 1 to 2,048, or `-` for none. There are no comments and no empty lines, so that each script has one
-- reading and each list of events one script. Moments may fall; the machine's moment doesn't.
use Rattle.std.specs.Prelude.{◌≡◌, ◌≢◌, ◌<◌, ◌+◌, ◌^◌, ℕ, Bool, true, false, List, [], ◌∷◌, ◌++◌, All, codes, decimal, length, Option, Some, IfSome}
use Rattle.std.specs.List.{AllByRecursion, flat_map, list_any}
use Rattle.hex.specs.Hex.{encode_lower}
use Rattle.coap_msg.specs.declared.endpoint.Endpoint.{Endpoint}
use Rattle.servient_outside.specs.declared.net.What.{What}
use Rattle.servient_outside.specs.declared.net.What.TheVariants.{Opened, Bytes, Ended, Datagram, Tick, Stop}
use Rattle.servient_outside.specs.declared.net.EventWithBytes.{EventWithBytes}
use Rattle.servient_outside.specs.Network.{IsWithinBounds}
use Rattle.servient_script.specs.Fields.{fields_text}

-- the longest script, in bytes
abbrev pub longest_script : ℕ
longest_script = 16777216

-- bytes as two lower-case hexadecimal digits each, or `-` where there are none
abbrev pub hex_text : List ℕ → List ℕ
hex_text [] = codes "-"
hex_text (b ∷ bs) = encode_lower (b ∷ bs)

-- an endpoint as `H:P`: the number of its host and its UDP port
abbrev pub endpoint_text : Endpoint → List ℕ
endpoint_text e = decimal e.host ++ codes ":" ++ decimal e.port

-- the fields that say what came
abbrev pub what_fields : What → List ℕ → List (List ℕ)
what_fields (Opened c) bytes = codes "open" ∷ decimal c ∷ []
what_fields (Bytes c count) bytes = codes "bytes" ∷ decimal c ∷ hex_text bytes ∷ []
what_fields (Ended c) bytes = codes "end" ∷ decimal c ∷ []
what_fields (Datagram from count) bytes = codes "data" ∷ endpoint_text from ∷ hex_text bytes ∷ []
what_fields Tick bytes = codes "tick" ∷ []
what_fields Stop bytes = codes "stop" ∷ []

-- the fields of an event's line: its moment, and what came
abbrev pub line_fields : EventWithBytes → List (List ℕ)
line_fields e = decimal e.event.moment ∷ what_fields e.event.what e.bytes

-- the line of an event: its fields, and a line feed
abbrev pub line_text : EventWithBytes → List ℕ
line_text e = fields_text (line_fields e) ++ codes "\n"

-- the lines of some events, one after another
abbrev pub script_text : List EventWithBytes → List ℕ
script_text events = flat_map line_text events

-- the bounds of an endpoint in a script
pub record IsScriptEndpoint (e : Endpoint) : Type 0 where
  pub host : e.host < 2 ^ 32
  pub port : e.port < 2 ^ 16

-- the bounds of what a line says, besides those of the network
abbrev pub IsScriptWhat : What → Type 0
IsScriptWhat (Opened c) = Unit {0}
IsScriptWhat (Bytes c count) = Unit {0}
IsScriptWhat (Ended c) = Unit {0}
IsScriptWhat (Datagram from count) = IsScriptEndpoint from
IsScriptWhat Tick = Unit {0}
IsScriptWhat Stop = Unit {0}

-- an event that a line may say
pub record IsScriptEvent (e : EventWithBytes) : Type 0 where
  pub bounds : IsWithinBounds e
  pub what : IsScriptWhat e.event.what
  pub bytes : All (λ b. b < 256) e.bytes

-- ---- the end of the run

abbrev pub is_stop : What → Bool
is_stop (Opened c) = false
is_stop (Bytes c count) = false
is_stop (Ended c) = false
is_stop (Datagram from count) = false
is_stop Tick = false
is_stop Stop = true

-- one of these events is the end of the run
abbrev pub has_stop : List EventWithBytes → Bool
has_stop = list_any (λ e. is_stop e.event.what)

-- no event follows the end of the run
abbrev pub StopsAtEnd : List EventWithBytes → Type 0
StopsAtEnd [] = Unit {0}
StopsAtEnd (e ∷ events) = (is_stop e.event.what ≡ true → events ≡ []) × StopsAtEnd events

-- ---- scripts

-- These bytes are the script of these events.
pub record IsScript (bytes : List ℕ) (events : List EventWithBytes) : Type 0 where
  pub text : bytes ≡ script_text events
  pub each : AllByRecursion IsScriptEvent events
  pub ends : StopsAtEnd events

-- bytes don't begin with the line of an event that may follow these
abbrev pub GoesOnBadly : List EventWithBytes → List ℕ → Type 0
GoesOnBadly events rest =
    (e : EventWithBytes) (more : List ℕ) → IsScriptEvent e → StopsAtEnd (events ++ e ∷ []) → rest ≢ line_text e ++ more

-- Line n, counted from 1, is the first that is not in the grammar: the lines before it are the script of some events,
-- something comes after them, and it doesn't begin with the line of an event that may follow.
pub record IsFirstBadLine (bytes : List ℕ) (n : ℕ) : Type 0 where
  pub good : List EventWithBytes
  pub rest : List ℕ
  pub text : bytes ≡ script_text good ++ rest
  pub each : AllByRecursion IsScriptEvent good
  pub ends : StopsAtEnd good
  pub number : n ≡ length good + 1
  pub some_left : rest ≢ []
  pub bad : GoesOnBadly good rest

-- ---- how code reads a line

-- The fields after a moment are read as this: the event whose fields they are, or nothing where they are no event's.
pub record ReadsEvent (moment : ℕ) (fields : List (List ℕ)) (o : Option EventWithBytes) : Type 0 where
  pub moment_is : IfSome o (λ e. e.event.moment ≡ moment)
  pub fields_are : IfSome o (λ e. fields ≡ what_fields e.event.what e.bytes)
  pub bounds : IfSome o IsScriptEvent
  pub complete : (e : EventWithBytes) → IsScriptEvent e → e.event.moment ≡ moment → fields ≡ what_fields e.event.what e.bytes → o ≡ Some e
