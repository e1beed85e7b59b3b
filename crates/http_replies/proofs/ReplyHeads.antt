-- Heads of replies as code reads and judges them.
use Rattle.std.proofs.Common.{◌≡◌, ◌≢◌, ◌≤◌, ◌<◌, ℕ, List, [], length, map, take, refl, sym, ap, subst, ◌∙◌, arith}
use Rattle.std.specs.Prelude.{◌==◌, Some, None, Result, Ok, Err}
use Rattle.std.proofs.lemmas.List.{drop_all, append-nil, length-map, length-take}
use Rattle.httparse.specs.declared.spans.HeaderSpan.{HeaderSpan}
use Rattle.httparse.specs.declared.spans.ResponseSpans.{ResponseSpans}
use Rattle.httparse.specs.declared.Status.TheVariants.{Complete}
use Rattle.httparse.specs.Grammar.{ResponseHead, ReadsResponse, print_response}
use Rattle.httparse.specs.Spans.{header_bytes, name_and_value, IsResponseOf, FindsResponse}
use Rattle.http_replies.specs.declared.reply_heads.ReplyParts.{ReplyParts}
use Rattle.http_replies.specs.declared.reply_heads.ReplyHead.{ReplyHead}
use Rattle.http_fields.specs.Marks.{line_feeds}
use Rattle.http_fields.specs.Fields.{said_by}
use Rattle.http_fields.specs.Found.{said_in, standing_of, with_lines}
use Rattle.http_replies.specs.ReplyFronts.{IsReplyHead, IsReplyJudged, too_many_lines, no_head, one_head, reply_framing, with_status}
use Rattle.http_replies.specs.ReplySeen.{IsReplyReadAs}
use Rattle.http_fields.proofs.FieldLines.{all_lines}

-- the statement on the parts of a head at some spans
pub record StandsAt (bytes : List ℕ) (headers : List HeaderSpan) (r : ResponseSpans) (p : ReplyParts) : Type 0 where
  pub status : p.status ≡ r.code
  pub newer : p.newer ≡ (r.version == 1)
  pub fields : said_in p.fields ≡ with_lines (said_by []) (map (header_bytes bytes) (take r.headers headers))

-- the parts of a head that is all bytes
pub read_as : (bytes : List ℕ) (headers : List HeaderSpan) (r : ResponseSpans) (p : ReplyParts) → r.headers ≤ 64 → IsResponseOf bytes headers r →
    r.len ≡ length bytes → StandsAt bytes headers r p → IsReplyReadAs bytes (Some p)
read_as bytes headers r p room of whole stands =
    let h = of.0 in
    let at = of.1 in
    let lines : length (map (header_bytes bytes) (take r.headers headers)) ≡ length (map name_and_value h.fields) = ap length at.fields in (
      h,
      (
        subst (λ (rest : List ℕ). ReadsResponse bytes h rest) (drop_all r.len bytes (omega (arith, whole))) at.reads,
        omega (arith, lines, length-map (take r.headers headers) (header_bytes bytes), length-map h.fields name_and_value, length-take r.headers headers, room),
      ),
      record {
        status = stands.status ∙ at.code;
        newer = stands.newer ∙ ap (λ (n : ℕ). n == 1) at.version;
        fields = stands.fields ∙ ap (with_lines (said_by [])) at.fields ∙ all_lines (map name_and_value h.fields);
      },
    )

-- a head that is only the first bytes
pub not_whole : (bytes : List ℕ) (headers : List HeaderSpan) (r : ResponseSpans) → FindsResponse bytes 64 headers (Ok (Complete r)) → r.len ≢ length bytes →
    (h : ResponseHead) → ¬ (IsReplyHead bytes h)
not_whole bytes headers r finds isnt h = λ head.
    let at = finds h [] head.0 head.1 in
    isnt (at.len ∙ sym (ap length (head.0.1 ∙ append-nil (print_response h))))

-- ---- how bytes are judged

pub judged_many : (bytes : List ℕ) → 66 < line_feeds bytes → IsReplyJudged bytes (Err 431)
judged_many bytes many = too_many_lines many refl

pub judged_none : (bytes : List ℕ) → line_feeds bytes ≤ 66 → IsReplyReadAs bytes None → IsReplyJudged bytes (Err 400)
judged_none bytes few none = no_head few none refl

pub judged_head : (bytes : List ℕ) (p : ReplyParts) (found : Result ReplyHead ℕ) → line_feeds bytes ≤ 66 → IsReplyReadAs bytes (Some p) →
    found ≡ with_status p.status (reply_framing p.status p.newer (standing_of p.fields.content_length) (standing_of p.fields.transfer_encoding)) →
    IsReplyJudged bytes found
judged_head bytes p found few read is =
    let parts = read.2 in
    one_head read.0 few read.1
    (is ∙ (λ i. with_status (parts.status i) (reply_framing (parts.status i) (parts.newer i) (parts.fields i).content_length (parts.fields i).transfer_encoding)))
