-- The line of an event.
use Rattle.std.proofs.Common.{◌≡◌, ℕ, ◌<◌, ◌≤◌, List, ◌++◌, length, All, codes, decimal, arith, refl}
use Rattle.std.specs.Str.{IsUtf8}
use Rattle.std.proofs.lemmas.List.{append_cancel_right}
use Rattle.std.proofs.lemmas.List.Elements.{All-weaker}
use Rattle.std.proofs.lemmas.Str.{IsUtf8-from_ascii}
use Rattle.std.proofs.lemmas.Str.Ascii.{IsAscii-from_all}
use Rattle.servient_outside.specs.declared.net.What.{What}
use Rattle.servient_outside.specs.declared.net.What.TheVariants.{Opened, Bytes, Ended, Datagram, Tick, Stop}
use Rattle.servient_outside.specs.declared.net.EventWithBytes.{EventWithBytes}
use Rattle.servient_outside.specs.Network.{MayCome}
use Rattle.servient_script.specs.Fields.{AreFields, fields_text}
use Rattle.servient_script.specs.Script.{IsScriptEvent, IsScriptWhat, line_fields, line_text, what_fields}
use Rattle.servient_script.proofs.FieldTexts.{AreGraphic, IsGraphic-decimal, IsGraphic-endpoint_text, IsGraphic-hex_text, IsGraphic-word, IsPrintable, IsPrintable-fields_text, graphic_are_fields}

-- ---- a case for each kind of line

-- the fields that say what came have graphic bytes alone
AreGraphic-what_fields : (what : What) (bytes : List ℕ) → MayCome what → IsScriptWhat what → All (λ b. b < 256) bytes
    → AreGraphic (what_fields what bytes)
AreGraphic-what_fields (Opened c) bytes may is each =
    (IsGraphic-word (codes "open") refl, (IsGraphic-decimal c (omega (arith, may)), tt))
AreGraphic-what_fields (Bytes c count) bytes may is each =
    (IsGraphic-word (codes "bytes") refl, (IsGraphic-decimal c (omega (arith, may.0)), (IsGraphic-hex_text bytes each, tt)))
AreGraphic-what_fields (Ended c) bytes may is each =
    (IsGraphic-word (codes "end") refl, (IsGraphic-decimal c (omega (arith, may)), tt))
AreGraphic-what_fields (Datagram from count) bytes may is each =
    (IsGraphic-word (codes "data") refl, (IsGraphic-endpoint_text from is, (IsGraphic-hex_text bytes each, tt)))
AreGraphic-what_fields Tick bytes may is each = (IsGraphic-word (codes "tick") refl, tt)
AreGraphic-what_fields Stop bytes may is each = (IsGraphic-word (codes "stop") refl, tt)

-- and there are no more of them than code looks at
length-what_fields : (what : What) (bytes : List ℕ) → length (what_fields what bytes) ≤ 3
length-what_fields (Opened c) bytes = omega arith
length-what_fields (Bytes c count) bytes = omega arith
length-what_fields (Ended c) bytes = omega arith
length-what_fields (Datagram from count) bytes = omega arith
length-what_fields Tick bytes = omega arith
length-what_fields Stop bytes = omega arith

-- ---- the same for each

AreGraphic-line_fields : (e : EventWithBytes) → IsScriptEvent e → AreGraphic (line_fields e)
AreGraphic-line_fields e is =
    let latest = is.bounds.event.moment in
    let what = AreGraphic-what_fields e.event.what e.bytes is.bounds.event.what is.what is.bytes in
    (IsGraphic-decimal e.event.moment (omega (arith, latest)), what)

pub AreFields-line_fields : (e : EventWithBytes) → IsScriptEvent e → AreFields (line_fields e)
AreFields-line_fields e is =
    graphic_are_fields (decimal e.event.moment) (what_fields e.event.what e.bytes) (AreGraphic-line_fields e is)

pub length-line_fields : (e : EventWithBytes) → length (line_fields e) ≤ 4
length-line_fields e = let what = length-what_fields e.event.what e.bytes in omega (arith, what)

-- a line without its line feed
abbrev pub line_body : EventWithBytes → List ℕ
line_body e = fields_text (line_fields e)

pub IsPrintable-line_body : (e : EventWithBytes) → IsScriptEvent e → All IsPrintable (line_body e)
IsPrintable-line_body e is = IsPrintable-fields_text (line_fields e) (AreGraphic-line_fields e is)

-- printable bytes are text
IsUtf8-from_printable : (line : List ℕ) → All IsPrintable line → IsUtf8 line
IsUtf8-from_printable line each =
    let ascii = All-weaker IsPrintable (λ b. b < 128) (λ b h. omega (arith, h)) line each in
    IsUtf8-from_ascii line (IsAscii-from_all line ascii)

-- a line that is that of an event
pub body_is : (e : EventWithBytes) (line : List ℕ) → line ++ codes "\n" ≡ line_text e → line ≡ line_body e
body_is e line text = append_cancel_right line (line_body e) (codes "\n") text

pub line_is_utf8 : (e : EventWithBytes) (line : List ℕ) → IsScriptEvent e → line ++ codes "\n" ≡ line_text e
    → IsUtf8 line
line_is_utf8 e line is text = rw (body_is e line text) (IsUtf8-from_printable (line_body e) (IsPrintable-line_body e is))
