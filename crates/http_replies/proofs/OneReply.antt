-- A stream of replies has one front at most.
use Rattle.std.proofs.Common.{◌≡◌, ℕ, ◌+◌, Bool, true≢false, List, [], take, drop, sym, ap, subst, ◌∙◌, arith}
use Rattle.std.specs.Prelude.{Result, Ok, Err, length}
use Rattle.httparse.specs.Grammar.{ResponseHead}
use Rattle.httparse.proofs.GrammarLemmas.{response_unique}
use Rattle.http_replies.specs.declared.reply_heads.ReplyHead.{ReplyHead}
use Rattle.http_replies.specs.declared.reply_scan.ReplyFront.{ReplyFront}
use Rattle.http_replies.specs.declared.reply_scan.ReplyFront.TheVariants as front
use Rattle.http_replies.specs.declared.reply_scan.ReplyScan.{ReplyScan}
use Rattle.http_fields.specs.Bodies.{longest_reply}
use Rattle.http_replies.specs.ReplyFronts.{IsReplyJudged, too_many_lines, no_head, one_head, judged_reply, IsReplyAfter, no_end, wrong_head, interim, final, is_interim, with_reply_body, reply_body, scanned_of, IsReply}

-- a head is judged in one way
one_judgement : (head : List ℕ) (r s : Result ReplyHead ℕ) → IsReplyJudged head r → IsReplyJudged head s → r ≡ s
one_judgement head r s (too_many_lines many is) (too_many_lines _ other) = is ∙ sym other
one_judgement head r s (too_many_lines many is) (no_head few _ _) = absurd (omega arith)
one_judgement head r s (too_many_lines many is) (one_head k few _ _) = absurd (omega arith)
one_judgement head r s (no_head few none is) (too_many_lines many _) = absurd (omega arith)
one_judgement head r s (no_head few none is) (no_head _ _ other) = is ∙ sym other
one_judgement head r s (no_head few none is) (one_head k _ one _) = absurd (none k one)
one_judgement head r s (one_head h few one is) (too_many_lines many _) = absurd (omega arith)
one_judgement head r s (one_head h few one is) (no_head _ none _) = absurd (none h one)
one_judgement head r s (one_head h few one is) (one_head k _ also other) =
    is ∙ ap (λ (x : ResponseHead). judged_reply x) (response_unique head h k [] [] one.0 also.0).0 ∙ sym other

-- two heads that end at one place are judged in one way
same_judgement : (bytes : List ℕ) (n m : ℕ) (r s : Result ReplyHead ℕ) → n ≡ m → IsReplyJudged (take n bytes) r → IsReplyJudged (take m bytes) s → r ≡ s
same_judgement bytes n m r s same of_r of_s =
    one_judgement (take n bytes) r s of_r (subst (λ (k : ℕ). IsReplyJudged (take k bytes) s) (sym same) of_s)

pub one_after : (ended : Bool) (f g : ReplyFront) (before : ℕ) (bytes : List ℕ) → IsReplyAfter ended f before bytes → IsReplyAfter ended g before bytes → f ≡ g
one_after ended f g before bytes (no_end _ _ none is) (no_end _ _ _ other) = is ∙ sym other
one_after ended f g before bytes (no_end _ _ none is) (wrong_head _ _ m fault found _ _) = absurd cc
one_after ended f g before bytes (no_end _ _ none is) (interim _ _ m k found _ _ _) = absurd cc
one_after ended f g before bytes (no_end _ _ none is) (final _ _ m k found _ _ _) = absurd cc
one_after ended f g before bytes (wrong_head _ _ n fault found judged is) (no_end _ _ none _) = absurd cc
one_after ended f g before bytes (wrong_head _ _ n fault found judged is) (wrong_head _ _ m other also judged_too is_too) =
    let same : n ≡ m = cc in
    let one = same_judgement bytes n m (Err fault) (Err other) same judged judged_too in
    let faults : fault ≡ other = cc in
    is ∙ ap front.Wrong faults ∙ sym is_too
one_after ended f g before bytes (wrong_head _ _ n fault found judged is) (interim _ _ m k also judged_too _ _) =
    let same : n ≡ m = cc in
    let one = same_judgement bytes n m (Err fault) (Ok k) same judged judged_too in absurd cc
one_after ended f g before bytes (wrong_head _ _ n fault found judged is) (final _ _ m k also judged_too _ _) =
    let same : n ≡ m = cc in
    let one = same_judgement bytes n m (Err fault) (Ok k) same judged judged_too in absurd cc
one_after ended f g before bytes (interim _ _ n h found judged skips later) (no_end _ _ none _) = absurd cc
one_after ended f g before bytes (interim _ _ n h found judged skips later) (wrong_head _ _ m other also judged_too is_too) =
    let same : n ≡ m = cc in
    let one = same_judgement bytes n m (Ok h) (Err other) same judged judged_too in absurd cc
one_after ended f g before bytes (interim _ _ n h found judged skips later) (interim _ _ m k also judged_too skips_too later_too) =
    let same : n ≡ m = cc in
    one_after ended f g (before + n) (drop n bytes) later (subst (λ (j : ℕ). IsReplyAfter ended g (before + j) (drop j bytes)) (sym same) later_too)
one_after ended f g before bytes (interim _ _ n h found judged skips later) (final _ _ m k also judged_too last _) =
    let same : n ≡ m = cc in
    let one = same_judgement bytes n m (Ok h) (Ok k) same judged judged_too in
    let heads : h ≡ k = cc in
    absurd (true≢false (sym skips ∙ ap (λ x. is_interim x.status) heads ∙ last))
one_after ended f g before bytes (final _ _ n h found judged last is) (no_end _ _ none _) = absurd cc
one_after ended f g before bytes (final _ _ n h found judged last is) (wrong_head _ _ m other also judged_too is_too) =
    let same : n ≡ m = cc in
    let one = same_judgement bytes n m (Ok h) (Err other) same judged judged_too in absurd cc
one_after ended f g before bytes (final _ _ n h found judged last is) (interim _ _ m k also judged_too skips _) =
    let same : n ≡ m = cc in
    let one = same_judgement bytes n m (Ok h) (Ok k) same judged judged_too in
    let heads : h ≡ k = cc in
    absurd (true≢false (sym skips ∙ ap (λ x. is_interim x.status) (sym heads) ∙ last))
one_after ended f g before bytes (final _ _ n h found judged last is) (final _ _ m k also judged_too last_too is_too) =
    let same : n ≡ m = cc in
    let one = same_judgement bytes n m (Ok h) (Ok k) same judged judged_too in
    let heads : h ≡ k = cc in
    is ∙ (λ i. with_reply_body (heads i).status (before + same i) (reply_body ended (heads i).framing (drop (same i) bytes))) ∙ sym is_too

pub at_most_one_reply : (bytes : List ℕ) (ended : Bool) (r s : ReplyScan) → IsReply bytes ended r → IsReply bytes ended s → r ≡ s
at_most_one_reply bytes ended r s of_r of_s =
    of_r.2 ∙ ap (scanned_of (length bytes)) (one_after ended of_r.0 of_s.0 0 (take (longest_reply + 1) bytes) of_r.1 of_s.1) ∙ sym of_s.2
