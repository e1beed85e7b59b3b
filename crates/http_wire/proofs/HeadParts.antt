-- Heads as code reads and judges them: their lines, their parts, and their first fault.
use Rattle.std.proofs.Common.{◌≡◌, ◌≢◌, ◌≤◌, ◌<◌, ℕ, ◌&&◌, ◌||◌, Bool, true, false, List, [], length, map, take, refl, sym, ap, subst, ◌∙◌, arith}
use Rattle.std.specs.Prelude.{◌==◌, not, Ok, Err}
use Rattle.std.proofs.lemmas.List.{drop_all, append-nil, length-map, length-take}
use Rattle.httparse.specs.declared.spans.HeaderSpan.{HeaderSpan}
use Rattle.httparse.specs.declared.spans.RequestSpans.{RequestSpans}
use Rattle.httparse.specs.declared.Status.TheVariants.{Complete}
use Rattle.httparse.specs.Grammar.{RequestHead, ReadsRequest, print_request}
use Rattle.httparse.specs.Spans.{span_bytes, header_bytes, name_and_value, IsRequestOf, FindsRequest}
use Rattle.http_wire.specs.declared.heads.HeadParts.{HeadParts}
use Rattle.http_fields.specs.declared.framing.Framing.{Framing}
use Rattle.http_wire.specs.Heads.{are_paired, IsHead, is_newer, lines_of}
use Rattle.http_fields.specs.Marks.{line_feeds}
use Rattle.http_fields.specs.Fields.{said_by}
use Rattle.http_wire.specs.Judging.{too_many_lines, bare_line_end, no_head, fields_judged, has_body, expects, closes}
use Rattle.http_wire.specs.HeadSeen.{AreHeadParts, IsReadAs}
use Rattle.http_fields.specs.Found.{said_in, with_lines}
use Rattle.http_wire.specs.Conditions.{asking_lines}
use Rattle.http_wire.specs.Asked.{behind_start, lines_in}
use Rattle.http_fields.proofs.FieldLines.{all_lines}
use Rattle.http_wire.proofs.AskingLines.{asking_of_head}

-- the parts of a head at some spans
pub record StandsAt (bytes : List ℕ) (headers : List HeaderSpan) (r : RequestSpans) (p : HeadParts) : Type 0 where
  pub method : p.method.now ≡ span_bytes bytes r.method
  pub target : p.target.now ≡ span_bytes bytes r.path
  pub newer : p.newer ≡ (r.version == 1)
  pub fields : said_in p.fields ≡ with_lines (said_by []) (map (header_bytes bytes) (take r.headers headers))
  pub lines : p.lines.now ≡ behind_start bytes

-- the parts of a head that is all bytes
pub read_as : (bytes : List ℕ) (headers : List HeaderSpan) (r : RequestSpans) (p : HeadParts) → line_feeds bytes ≤ 66 → are_paired 0 bytes ≡ true →
    r.headers ≤ 64 → IsRequestOf bytes headers r → r.len ≡ length bytes → StandsAt bytes headers r p → IsReadAs bytes (Ok p)
read_as bytes headers r p few paired room of whole stands =
    let h = of.0 in
    let at = of.1 in
    let whole_head = subst (λ (rest : List ℕ). ReadsRequest bytes h rest) (drop_all r.len bytes (omega (arith, whole))) at.reads in
    let lines : length (map (header_bytes bytes) (take r.headers headers)) ≡ length (map name_and_value h.fields) = ap length at.fields in (
      h,
      few,
      paired,
      (
        whole_head,
        omega (arith, lines, length-map (take r.headers headers) (header_bytes bytes), length-map h.fields name_and_value, length-take r.headers headers, room),
      ),
      record {
        method = stands.method ∙ at.method;
        target = stands.target ∙ at.path;
        newer = stands.newer ∙ ap (λ (n : ℕ). n == 1) at.version;
        fields = stands.fields ∙ ap (with_lines (said_by [])) at.fields ∙ all_lines (map name_and_value h.fields);
        lines = ap (λ (xs : List ℕ). asking_lines (lines_in xs)) stands.lines ∙ asking_of_head bytes h whole_head;
      },
    )

-- a head that is only the first bytes
pub not_whole : (bytes : List ℕ) (headers : List HeaderSpan) (r : RequestSpans) → FindsRequest bytes 64 headers (Ok (Complete r)) → r.len ≢ length bytes →
    (h : RequestHead) → ¬ (IsHead bytes h)
not_whole bytes headers r finds isnt h = λ head.
    let at = finds h [] head.0 head.1 in
    isnt (at.len ∙ sym (ap length (head.0.1 ∙ append-nil (print_request h))))

-- ---- how bytes are judged

pub judged_many : (bytes : List ℕ) → 66 < line_feeds bytes → IsReadAs bytes (Err 431)
judged_many bytes many = too_many_lines many refl

pub judged_bare : (bytes : List ℕ) → line_feeds bytes ≤ 66 → are_paired 0 bytes ≡ false → IsReadAs bytes (Err 400)
judged_bare bytes few bare = bare_line_end few bare refl

pub judged_none : (bytes : List ℕ) → line_feeds bytes ≤ 66 → are_paired 0 bytes ≡ true → ((h : RequestHead) → ¬ (IsHead bytes h)) → IsReadAs bytes (Err 400)
judged_none bytes few paired none = no_head few paired none refl

-- the fields of a head that was read
pub same_fields : (h : RequestHead) (p : HeadParts) → AreHeadParts h p → fields_judged p.newer (said_in p.fields) ≡ fields_judged (is_newer h) (said_by (lines_of h))
same_fields h p parts = λ i. fields_judged (parts.newer i) (parts.fields i)

-- ---- the requests of a head besides its method

pub expects_is : (h : RequestHead) (p : HeadParts) (f : Framing) (e : Bool) → AreHeadParts h p →
    e ≡ (p.newer && has_body f && (said_in p.fields).continues) → e ≡ expects h f
expects_is h p f e parts is = is ∙ (λ i. parts.newer i && has_body f && (parts.fields i).continues)

pub closes_is : (h : RequestHead) (p : HeadParts) (e : Bool) → AreHeadParts h p → e ≡ (not p.newer || (said_in p.fields).closes) → e ≡ closes h
closes_is h p e parts is = is ∙ (λ i. not (parts.newer i) || (parts.fields i).closes)
