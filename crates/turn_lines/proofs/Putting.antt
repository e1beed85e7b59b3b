-- Laws of texts that are put into a buffer before an output, one after another.
use Rattle.std.proofs.Common.{◌≡◌, ℕ, ◌+◌, ◌<◌, List, [], ◌∷◌, ◌++◌, length, take, refl, sym, ap, subst, ◌∙◌, arith, append_assoc, get_or}
use Rattle.std.specs.List.{flat_map}
use Rattle.std.proofs.lemmas.List.{append-nil, take_more}
use Rattle.std.proofs.lemmas.Grind.{flat_map-append}
use Rattle.servient_outside.specs.declared.out.Put.{Put}
use Rattle.servient_outside.specs.declared.out.Put.TheVariants as put
use Rattle.servient_outside.specs.Out.{OutSeen, OutShows}
use Rattle.servient_outside.proofs.ToldLaws.{continues_same, continues_then}
use Rattle.servient_outside.proofs.OutLaws.{fits_none, fits_then, fits_no_longer}
use Rattle.turn_lines.specs.Buffer.{Buffered, HasPut, had_failed, is_put, has_failed, WritesHeld, nothing_to_write, has_written}

-- ---- the output

pub out_none : (o : OutSeen) → OutShows o o put.Done []
out_none o = record { writes = continues_same o.written; faults = omega arith; failed = λ e. absurd cc; fits = fits_none o }

-- one piece was written, and then another, or it failed
pub out_then : (a b c : OutSeen) (p : Put) (x y : List ℕ) → OutShows a b put.Done x → OutShows b c p y → OutShows a c p (x ++ y)
out_then a b c put.Done x y first second = record {
  writes = continues_then a.written b.written c.written x y first.writes second.writes;
  faults = omega (arith, first.faults, second.faults);
  failed = λ e. absurd cc;
  fits = fits_then a b c put.Done x y first.fits second.fits;
}
out_then a b c put.Failed x y first second = record {
  writes = (
    x ++ second.writes.0,
    second.writes.1,
    ap (λ (z : List ℕ). x ++ z) second.writes.2 ∙ sym (append_assoc x second.writes.0 second.writes.1),
    continues_then a.written b.written c.written x second.writes.0 first.writes second.writes.3,
  );
  faults = omega (arith, first.faults, second.faults);
  failed = λ e. (let rose = second.failed refl in omega (arith, first.faults, rose));
  fits = fits_then a b c put.Failed x y first.fits second.fits;
}

-- the output failed at a piece, and so at a longer one
pub out_failed : (a b : OutSeen) (x y : List ℕ) → OutShows a b put.Failed x → OutShows a b put.Failed (x ++ y)
out_failed a b x y shows = record {
  writes = (shows.writes.0, shows.writes.1 ++ y, ap (λ (z : List ℕ). z ++ y) shows.writes.2 ∙ append_assoc shows.writes.0 shows.writes.1 y, shows.writes.3);
  faults = shows.faults;
  failed = shows.failed;
  fits = fits_no_longer a b x y shows.fits;
}

-- ---- the buffer

-- nothing was put, and what is held is as it was
pub put_none : (a : Buffered) (o : OutSeen) → HasPut [] a a o o
put_none a o = by_put a.put refl
  where
    by_put : (p : Put) → a.put ≡ p → HasPut [] a a o o
    by_put put.Done is = is_put [] is is (out_none o) (append-nil a.held)
    by_put put.Failed is = had_failed is is refl

apart : (p : Put) → p ≡ put.Done → p ≡ put.Failed → ⊥
apart put.Done done failed = cc
apart put.Failed done failed = cc

-- the pieces of two texts, one after the other
joined : (s t held mid piece more rest : List ℕ) → held ++ s ≡ piece ++ mid → mid ++ t ≡ more ++ rest → held ++ (s ++ t) ≡ (piece ++ more) ++ rest
joined s t held mid piece more rest one other =
    sym (append_assoc held s t) ∙ ap (λ (x : List ℕ). x ++ t) one ∙ append_assoc piece mid t ∙ ap (λ (x : List ℕ). piece ++ x) other ∙ sym (append_assoc piece more rest)

-- a text was put, and then another
pub put_then : {s t : List ℕ} {a b c : Buffered} {o p q : OutSeen} → HasPut s a b o p → HasPut t b c p q → HasPut (s ++ t) a c o q
put_then {s} {t} {a} {b} {c} {o} {p} {q} (had_failed first then_so stays) (had_failed before now same) = had_failed first now (same ∙ stays)
put_then {s} {t} {a} {b} {c} {o} {p} {q} (had_failed first then_so stays) (is_put piece before now shows is) = absurd (apart b.put before then_so)
put_then {s} {t} {a} {b} {c} {o} {p} {q} (had_failed first then_so stays) (has_failed piece rest before now shows is) = absurd (apart b.put before then_so)
put_then {s} {t} {a} {b} {c} {o} {p} {q} (is_put piece first well shows is) (had_failed before now same) = absurd (apart b.put well before)
put_then {s} {t} {a} {b} {c} {o} {p} {q} (is_put piece first well shows is) (is_put more before now shows_more is_more) =
    is_put (piece ++ more) first now (out_then o p q put.Done piece more shows shows_more) (joined s t a.held b.held piece more c.held is is_more)
put_then {s} {t} {a} {b} {c} {o} {p} {q} (is_put piece first well shows is) (has_failed more rest before now shows_more is_more) =
    has_failed (piece ++ more) rest first now (out_then o p q put.Failed piece more shows shows_more) (joined s t a.held b.held piece more rest is is_more)
put_then {s} {t} {a} {b} {c} {o} {p} {q} (has_failed piece rest first fails shows is) (had_failed before now same) =
    has_failed piece (rest ++ t) first now (subst (λ (x : OutSeen). OutShows o x put.Failed piece) (sym same) shows)
    (sym (append_assoc a.held s t) ∙ ap (λ (x : List ℕ). x ++ t) is ∙ append_assoc piece rest t)
put_then {s} {t} {a} {b} {c} {o} {p} {q} (has_failed piece rest first fails shows is) (is_put more before now shows_more is_more) = absurd (apart b.put before fails)
put_then {s} {t} {a} {b} {c} {o} {p} {q} (has_failed piece rest first fails shows is) (has_failed more left before now shows_more is_more) = absurd (apart b.put before fails)

-- the texts of some elements and of one more
texts_more : {X : Type 0} (f : X → List ℕ) (xs : List X) (i : ℕ) (d x : X) → i < length xs → x ≡ get_or xs i d → flat_map f (take (i + 1) xs) ≡ flat_map f (take i xs) ++ f x
texts_more {X} f xs i d x within is =
    ap (λ (ys : List X). flat_map f ys) (take_more xs i d within) ∙ flat_map-append f (take i xs) (get_or xs i d ∷ [])
    ∙ ap (λ (t : List ℕ). flat_map f (take i xs) ++ t) (append-nil (f (get_or xs i d)))
    ∙ ap (λ (y : X). flat_map f (take i xs) ++ f y) (sym is)

-- the texts of some elements were put, and then that of one more
pub put_more : {X : Type 0} (f : X → List ℕ) (xs : List X) (i : ℕ) (d x : X) {a b c : Buffered} {o p q : OutSeen} → i < length xs → x ≡ get_or xs i d
    → HasPut (flat_map f (take i xs)) a b o p → HasPut (f x) b c p q → HasPut (flat_map f (take (i + 1) xs)) a c o q
put_more {X} f xs i d x {a} {b} {c} {o} {p} {q} within is first second =
    subst (λ (t : List ℕ). HasPut t a c o q) (sym (texts_more f xs i d x within is)) (put_then first second)

-- a text that is another
pub put_same : (s t : List ℕ) {a b : Buffered} {o p : OutSeen} → t ≡ s → HasPut s a b o p → HasPut t a b o p
put_same s t {a} {b} {o} {p} is has = subst (λ (x : List ℕ). HasPut x a b o p) (sym is) has

-- four texts, as the spelling of lists and objects has them
pub put_four : (s t u v : List ℕ) {a b c d e : Buffered} {o p q r w : OutSeen} → HasPut s a b o p → HasPut t b c p q → HasPut u c d q r → HasPut v d e r w → HasPut (s ++ (t ++ (u ++ v))) a e o w
put_four s t u v first second third fourth = put_then first (put_then second (put_then third fourth))

-- ---- the functions of the buffer

pub writes_nothing : (b : Buffered) (o : OutSeen) (answer : Put) → answer ≡ b.put → b.held ≡ [] → WritesHeld b o o answer
writes_nothing b o answer is empty = nothing_to_write is refl (λ done. empty)

pub stays_failed : (b : Buffered) (o : OutSeen) → b.put ≡ put.Failed → WritesHeld b o o put.Failed
stays_failed b o failed = nothing_to_write (sym failed) refl (λ done. absurd (apart b.put done failed))

pub writes_all : (b : Buffered) (o p : OutSeen) (answer : Put) → b.put ≡ put.Done → OutShows o p answer b.held → WritesHeld b o p answer
writes_all b o p answer done shows = has_written done shows

pub flushed : (b now : Buffered) (o p : OutSeen) (answer : Put) → WritesHeld b o p answer → now.held ≡ [] → now.put ≡ answer → HasPut [] b now o p
flushed b now o p answer (nothing_to_write is stays none) empty same = by_put b.put refl
  where
    by_put : (x : Put) → b.put ≡ x → HasPut [] b now o p
    by_put put.Failed was = had_failed was (same ∙ is ∙ was) stays
    by_put put.Done was =
        subst (λ (z : OutSeen). HasPut [] b now o z) (sym stays)
        (is_put [] was (same ∙ is ∙ was) (out_none o) (append-nil b.held ∙ none was ∙ sym empty))
flushed b now o p put.Done (has_written was shows) empty same =
    is_put b.held was same shows (ap (λ (x : List ℕ). b.held ++ x) (sym empty))
flushed b now o p put.Failed (has_written was shows) empty same = has_failed b.held [] was same shows refl

pub put_after_room : (text : List ℕ) (a b c : Buffered) (o p : OutSeen) → HasPut [] a b o p → ((x : OutSeen) → HasPut text b c x x) → HasPut text a c o p
put_after_room text a b c o p first second = put_then first (second p)

pub keeps_byte : (b now : Buffered) (byte : ℕ) (o : OutSeen) → b.put ≡ put.Done → now.put ≡ put.Done → now.held ≡ b.held ++ byte ∷ [] → HasPut (byte ∷ []) b now o o
keeps_byte b now byte o was is held = is_put [] was is (out_none o) (sym held)

pub keeps_none : (b now : Buffered) (byte : ℕ) (o : OutSeen) → ¬ (b.put ≡ put.Done) → now.put ≡ b.put → HasPut (byte ∷ []) b now o o
keeps_none b now byte o isnt same = by_put b.put refl
  where
    by_put : (x : Put) → b.put ≡ x → HasPut (byte ∷ []) b now o o
    by_put put.Done was = absurd (isnt was)
    by_put put.Failed was = had_failed was (same ∙ was) refl
