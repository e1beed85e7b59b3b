-- A stream has one front at most.
use Rattle.std.proofs.Common.{◌≡◌, ℕ, ◌+◌, true≢false, List, [], take, drop, sym, ap, subst, ◌∙◌, arith}
use Rattle.std.specs.Prelude.{Result}
use Rattle.httparse.specs.Grammar.{RequestHead}
use Rattle.httparse.proofs.GrammarLemmas.{request_unique}
use Rattle.http_wire.specs.Heads.{skipped, is_newer, lines_of}
use Rattle.http_fields.specs.Fields.{said_by}
use Rattle.http_wire.specs.Judging.{FramedHead, IsJudged, too_many_lines, bare_line_end, no_head, one_head, fields_judged, with_framing}
use Rattle.http_wire.specs.Stream.{Front, IsFront, IsFrontAfter, no_end, one_end, with_head}

-- a head is judged in one way
pub one_judgement : (head : List ℕ) (r s : Result FramedHead ℕ) → IsJudged head r → IsJudged head s → r ≡ s
one_judgement head r s (too_many_lines many is) (too_many_lines _ other) = is ∙ sym other
one_judgement head r s (too_many_lines many is) (bare_line_end few _ _) = absurd (omega arith)
one_judgement head r s (too_many_lines many is) (no_head few _ _ _) = absurd (omega arith)
one_judgement head r s (too_many_lines many is) (one_head k few _ _ _) = absurd (omega arith)
one_judgement head r s (bare_line_end few bare is) (too_many_lines many _) = absurd (omega arith)
one_judgement head r s (bare_line_end few bare is) (bare_line_end _ _ other) = is ∙ sym other
one_judgement head r s (bare_line_end few bare is) (no_head _ paired _ _) = absurd (true≢false (sym paired ∙ bare))
one_judgement head r s (bare_line_end few bare is) (one_head k _ paired _ _) = absurd (true≢false (sym paired ∙ bare))
one_judgement head r s (no_head few paired none is) (too_many_lines many _) = absurd (omega arith)
one_judgement head r s (no_head few paired none is) (bare_line_end _ bare _) = absurd (true≢false (sym paired ∙ bare))
one_judgement head r s (no_head few paired none is) (no_head _ _ _ other) = is ∙ sym other
one_judgement head r s (no_head few paired none is) (one_head k _ _ one _) = absurd (none k one)
one_judgement head r s (one_head h few paired one is) (too_many_lines many _) = absurd (omega arith)
one_judgement head r s (one_head h few paired one is) (bare_line_end _ bare _) = absurd (true≢false (sym paired ∙ bare))
one_judgement head r s (one_head h few paired one is) (no_head _ _ none _) = absurd (none h one)
one_judgement head r s (one_head h few paired one is) (one_head k _ _ also other) =
    is
    ∙ ap (λ (x : RequestHead). with_framing x (fields_judged (is_newer x) (said_by (lines_of x)))) (request_unique head h k [] [] one.0 also.0).0
    ∙ sym other

-- two heads that end at one place are judged in one way
same_judgement : (bytes : List ℕ) (n m : ℕ) (r s : Result FramedHead ℕ) → n ≡ m → IsJudged (take n bytes) r → IsJudged (take m bytes) s → r ≡ s
same_judgement bytes n m r s same of_r of_s =
    one_judgement (take n bytes) r s of_r (subst (λ (k : ℕ). IsJudged (take k bytes) s) (sym same) of_s)

one_front_after : (before : ℕ) (bytes : List ℕ) (f g : Front) → IsFrontAfter before bytes f → IsFrontAfter before bytes g → f ≡ g
one_front_after before bytes f g (no_end none is) (no_end _ other) = is ∙ sym other
one_front_after before bytes f g (no_end none is) (one_end m s found _ _) = absurd cc
one_front_after before bytes f g (one_end n r found _ _) (no_end none _) = absurd cc
one_front_after before bytes f g (one_end n r found judged is) (one_end m s also judged_too other) =
    let same : n ≡ m = cc in
    let judgement = same_judgement bytes n m r s same judged judged_too in
    is
    ∙ ap (λ (k : ℕ). with_head (before + k) r (drop k bytes)) same
    ∙ ap (λ (q : Result FramedHead ℕ). with_head (before + m) q (drop m bytes)) judgement
    ∙ sym other

pub at_most_one_front : (bytes : List ℕ) (f g : Front) → IsFront bytes f → IsFront bytes g → f ≡ g
at_most_one_front bytes f g of_f of_g = one_front_after _ (skipped bytes) f g of_f of_g
