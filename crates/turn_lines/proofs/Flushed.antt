-- What was written, once all that was put into a buffer was flushed.
use Rattle.std.proofs.Common.{◌≡◌, ◌∙◌, ℕ, List, [], ◌++◌, refl, sym, ap, subst}
use Rattle.std.proofs.lemmas.List.{append-nil}
use Rattle.servient_outside.specs.declared.out.Put.{Put}
use Rattle.servient_outside.specs.declared.out.Put.TheVariants as put
use Rattle.servient_outside.specs.Out.{OutSeen, OutShows}
use Rattle.turn_lines.specs.Buffer.{Buffered, HasPut, had_failed, is_put, has_failed, nothing_held}
use Rattle.turn_lines.proofs.Putting.{out_failed, put_then}

-- a text was put into an empty buffer, and nothing is held any more
pub all_shown : (text : List ℕ) (a b : Buffered) (o p : OutSeen) (answer : Put) → a ≡ nothing_held → b.held ≡ [] → answer ≡ b.put → HasPut text a b o p → OutShows o p answer text
all_shown text a b o p answer first empty is (had_failed before now same) = absurd (never (sym before ∙ ap (λ x. x.put) first))
  where
    never : put.Failed ≡ put.Done → ⊥
    never e = cc
all_shown text a b o p answer first empty is (is_put piece before now shows whole) =
    subst (λ (x : Put). OutShows o p x text) (sym (is ∙ now))
    (subst (λ (x : List ℕ). OutShows o p put.Done x) (sym (sym (ap (λ x. x.held ++ text) first) ∙ whole ∙ ap (λ (x : List ℕ). piece ++ x) empty ∙ append-nil piece)) shows)
all_shown text a b o p answer first empty is (has_failed piece rest before now shows whole) =
    subst (λ (x : Put). OutShows o p x text) (sym (is ∙ now))
    (subst (λ (x : List ℕ). OutShows o p put.Failed x) (sym (sym (ap (λ x. x.held ++ text) first) ∙ whole)) (out_failed o p piece rest shows))

-- where all was written, the buffer is as a new one
pub emptied : (b : Buffered) (answer : Put) → b.held ≡ [] → answer ≡ b.put → answer ≡ put.Done → b ≡ nothing_held
emptied b answer empty is done = λ i. record { held = empty i; put = (sym is ∙ done) i }

-- a text was put into an empty buffer, which was flushed then
pub flushed_all : (text : List ℕ) (a m b : Buffered) (o p q : OutSeen) (answer : Put) → a ≡ nothing_held → HasPut text a m o p → HasPut [] m b p q → b.held ≡ [] → answer ≡ b.put → OutShows o q answer text
flushed_all text a m b o p q answer first put_it flushed empty is =
    all_shown text a b o q answer first empty is (subst (λ (x : List ℕ). HasPut x a b o q) (append-nil text) (put_then put_it flushed))
