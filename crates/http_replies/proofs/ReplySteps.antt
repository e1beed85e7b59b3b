-- The step that follows from the head of a reply.
use Rattle.std.proofs.Common.{◌≡◌, ◌≤◌, ◌<◌, ◌+◌, ℕ, List, Bool, true, false, length, take, drop, refl, subst, ap, ◌∙◌}
use Rattle.std.specs.Prelude.{Some, None, Result, Ok, Err}
use Rattle.http_replies.specs.declared.reply_heads.ReplyHead.{ReplyHead}
use Rattle.http_replies.specs.declared.reply_scan.ReplyFront.{ReplyFront}
use Rattle.http_replies.specs.declared.reply_scan.ReplyFront.TheVariants as front
use Rattle.http_replies.specs.declared.reply_scan.ReplyStep.TheVariants as step
use Rattle.http_fields.specs.Marks.{length_through, empty_line}
use Rattle.http_replies.specs.ReplyFronts.{IsReplyJudged, no_end, wrong_head, interim, final, is_interim, reply_body, with_reply_body}
use Rattle.http_replies.specs.ReplySeen.{IsReplyStep}

pub awaited_step : (ended : Bool) (before : ℕ) (bytes : List ℕ) → length_through empty_line bytes ≡ None → IsReplyStep ended before bytes (step.Settled front.Awaited)
awaited_step ended before bytes none = no_end before bytes none refl

pub wrong_step : (ended : Bool) (before : ℕ) (bytes head : List ℕ) (n fault : ℕ) (r : Result ReplyHead ℕ) → length_through empty_line bytes ≡ Some n → head ≡ take n bytes →
    IsReplyJudged head r → r ≡ Err fault → IsReplyStep ended before bytes (step.Settled (front.Wrong fault))
wrong_step ended before bytes head n fault r found is judged wrong =
    wrong_head before bytes n fault found (subst (λ q. IsReplyJudged (take n bytes) q) wrong (subst (λ h. IsReplyJudged h r) is judged)) refl

pub interim_step : (ended : Bool) (before : ℕ) (bytes head : List ℕ) (n : ℕ) (h : ReplyHead) (r : Result ReplyHead ℕ) → length_through empty_line bytes ≡ Some n → head ≡ take n bytes →
    IsReplyJudged head r → r ≡ Ok h → is_interim h.status ≡ true → 0 < n → n ≤ length bytes → IsReplyStep ended before bytes (step.Skipped n)
interim_step ended before bytes head n h r found is judged right skips some within =
    (some, within, λ f later. interim before bytes n h found (subst (λ q. IsReplyJudged (take n bytes) q) right (subst (λ xs. IsReplyJudged xs r) is judged)) skips later)

pub final_step : (ended : Bool) (before : ℕ) (bytes head after : List ℕ) (n : ℕ) (h : ReplyHead) (r : Result ReplyHead ℕ) (f : ReplyFront) →
    length_through empty_line bytes ≡ Some n → head ≡ take n bytes → IsReplyJudged head r → r ≡ Ok h → is_interim h.status ≡ false → after ≡ drop n bytes →
    f ≡ with_reply_body h.status (before + n) (reply_body ended h.framing after) → IsReplyStep ended before bytes (step.Settled f)
final_step ended before bytes head after n h r f found is judged right last rest made =
    final before bytes n h found (subst (λ q. IsReplyJudged (take n bytes) q) right (subst (λ xs. IsReplyJudged xs r) is judged)) last
    (made ∙ ap (λ xs. with_reply_body h.status (before + n) (reply_body ended h.framing xs)) rest)
