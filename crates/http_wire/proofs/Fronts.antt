-- The front of a stream, put together from its head and what is after that.
use Rattle.std.proofs.Common.{◌≡◌, ◌≤◌, ℕ, ◌+◌, ◌-◌, arith, List, [], ◌∷◌, length, take, drop, refl, sym, ap, subst, ◌∙◌, cond}
use Rattle.std.specs.Prelude.{Some, Result, Ok, Err, Bool, true, false, not, ◌&&◌, ◌||◌}
use Rattle.std.specs.List.{list_any}
use Rattle.std.proofs.lemmas.Bool.{or_parts}
use Rattle.thing_ops.specs.declared.request.Accept.{Accept}
use Rattle.thing_ops.specs.declared.request.Format.{Format}
use Rattle.httparse.specs.Grammar.{RequestHead}
use Rattle.http_fields.specs.declared.framing.Framing.{Framing}
use Rattle.http_wire.specs.Heads.{is_newer, skipped, lines_of}
use Rattle.http_fields.specs.Marks.{length_through, empty_line}
use Rattle.http_wire.specs.Judging.{IsJudged, has_body, expects, fields_judged, with_framing, one_head}
use Rattle.http_wire.specs.declared.heads.HeadParts.{HeadParts}
use Rattle.http_fields.specs.Fields.{Line, said_by, asks_for_version, format_of, accept_of}
use Rattle.http_wire.specs.Conditions.{asking_lines}
use Rattle.http_wire.specs.Asked.{asking_lines_in}
use Rattle.http_fields.specs.Chunks.{BodyFront, unfinished, faulty, whole}
use Rattle.http_wire.specs.Stream.{Front, short, fault, message, IsFront, IsFrontAfter, one_end, with_head, with_body, longest_head}
use Rattle.http_wire.specs.Scanned.{IsHeadFront, TakesBetween}
use Rattle.http_wire.specs.HeadSeen.{AreHeadParts, IsReadAs}
use Rattle.http_fields.specs.Found.{standing_of, said_in}
use Rattle.http_wire.proofs.HeadParts.{expects_is, closes_is, same_fields}
use Rattle.http_wire.specs.declared.scanned.Scanned.{Scanned}
use Rattle.http_wire.specs.declared.scanned.Scanned.TheVariants as scanned

-- a head that ends, and what is at the front with it
pub front_with_head : (bytes rest window head after : List ℕ) (n : ℕ) (f : Front) →
    rest ≡ skipped bytes → window ≡ take longest_head rest → Some n ≡ length_through empty_line window →
    head ≡ take n rest → after ≡ drop n rest → IsHeadFront head (length bytes - length rest + n) after f → IsFront bytes f
front_with_head bytes rest window head after n f rest_is window_is end_is head_is after_is front =
    subst (λ (xs : List ℕ). IsFrontAfter (length bytes - length xs) xs f) rest_is
    (one_end n front.0 (ap (length_through empty_line) (sym window_is) ∙ sym end_is)
    (subst (λ (xs : List ℕ). IsJudged xs front.0) head_is front.1)
    (front.2 ∙ ap (with_head (length bytes - length rest + n) front.0) after_is))

-- a head that was judged, with its body
pub front_of_fault : (head after : List ℕ) (taken status : ℕ) → IsReadAs head (Err status) → IsHeadFront head taken after (fault status false)
front_of_fault head after taken status judged = (Err status, judged, refl)

pub front_of_head : (head after : List ℕ) (taken : ℕ) (p : HeadParts) (framed : Result Framing ℕ) (f : Front) → IsReadAs head (Ok p) →
    framed ≡ fields_judged p.newer (said_in p.fields) → ((h : RequestHead) → AreHeadParts h p → f ≡ with_head taken (with_framing h framed) after) →
    IsHeadFront head taken after f
front_of_head head after taken p framed f read by_fields is =
    let h = read.0 in
    let parts = read.4 in (
      with_framing h (fields_judged (is_newer h) (said_by (lines_of h))),
      one_head h read.1 read.2 read.3 refl,
      is h parts ∙ ap (λ (r : Result Framing ℕ). with_head taken (with_framing h r) after) (by_fields ∙ same_fields h p parts),
    )

-- the front by what was found after a head
pub short_with_body : (h : RequestHead) (p : HeadParts) (f : Framing) (taken : ℕ) (e : Bool) (b : BodyFront) → unfinished ≡ b →
    e ≡ (p.newer && has_body f && (said_in p.fields).continues) → AreHeadParts h p → short e ≡ with_body h taken (expects h f) b
short_with_body h p f taken e b is asks parts =
    ap short (expects_is h p f e parts asks) ∙ ap (with_body h taken (expects h f)) is

pub fault_with_body : (h : RequestHead) (p : HeadParts) (f : Framing) (taken status : ℕ) (e : Bool) (b : BodyFront) → faulty status ≡ b →
    e ≡ (p.newer && has_body f && (said_in p.fields).continues) → AreHeadParts h p → fault status e ≡ with_body h taken (expects h f) b
fault_with_body h p f taken status e b is asks parts =
    ap (fault status) (expects_is h p f e parts asks) ∙ ap (with_body h taken (expects h f)) is

-- the lines that ask: where none does, no line is kept
none_asks : (lines : List Line) → list_any asks_for_version lines ≡ false → asking_lines lines ≡ []
none_asks [] none = refl
none_asks (line ∷ lines) none =
    let parts = or_parts (asks_for_version line) (list_any asks_for_version lines) none in
    ap (λ (t : Bool). cond t (line ∷ asking_lines lines) (asking_lines lines)) parts.0 ∙ none_asks lines parts.1

lines_asking : (h : RequestHead) (p : HeadParts) → AreHeadParts h p → asking_lines_in p.fields.conditional p.lines.now ≡ asking_lines (lines_of h)
lines_asking h p parts = by_test p.fields.conditional (λ i. (parts.fields i).conditional)
  where
    by_test : (t : Bool) → t ≡ list_any asks_for_version (lines_of h) → asking_lines_in t p.lines.now ≡ asking_lines (lines_of h)
    by_test true is = parts.lines
    by_test false is = sym (none_asks (lines_of h) (sym is))

pub message_with_body : (h : RequestHead) (p : HeadParts) (f : Framing) (taken used : ℕ) (e close : Bool) (format : Format) (accept : Accept) (body : List ℕ) (b : BodyFront) →
    whole body used ≡ b → e ≡ (p.newer && has_body f && (said_in p.fields).continues) →
    close ≡ (not p.newer || (said_in p.fields).closes) → format ≡ format_of (standing_of p.fields.content_type) →
    accept ≡ accept_of p.fields.accept → AreHeadParts h p →
    message
    (record {
      method = p.method.now;
      target = p.target.now;
      close = close;
      format = format;
      accept = accept;
      asking = asking_lines_in p.fields.conditional p.lines.now;
    })
    body (taken + used) e
    ≡ with_body h taken (expects h f) b
message_with_body h p f taken used e close format accept body b is asks closing of_type of_accept parts =
    (λ i. message
    (record {
      method = parts.method i;
      target = parts.target i;
      close = closes_is h p close parts closing i;
      format = (of_type ∙ (λ k. format_of (parts.fields k).content_type)) i;
      accept = (of_accept ∙ (λ k. accept_of (parts.fields k).accept)) i;
      asking = lines_asking h p parts i;
    })
    body (taken + used) (expects_is h p f e parts asks i))
    ∙ ap (with_body h taken (expects h f)) is

-- a front that takes bytes between two numbers does so between wider ones
pub takes_wider : (low high least most : ℕ) (s : Scanned) → least ≤ low → high ≤ most → TakesBetween low high s → TakesBetween least most s
takes_wider low high least most (scanned.Short expect) wider higher takes = tt
takes_wider low high least most (scanned.Whole head body used expect) wider higher takes =
    (omega (arith, takes.0), omega (arith, takes.1), takes.2, takes.3)
takes_wider low high least most (scanned.Fault status expect) wider higher takes = tt
