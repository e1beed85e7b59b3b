-- Laws of what a network shows.
use Rattle.std.proofs.Common.{◌≡◌, ◌+◌, List, [], ◌∷◌, ◌++◌, Option, Some, None, refl, subst, ◌∙◌, arith}
use Rattle.servient_base.specs.Moves.{ShowsInOrder}
use Rattle.servient_outside.specs.declared.net.EventWithBytes.{EventWithBytes}
use Rattle.servient_outside.specs.Network.{Happening, heard, did, broke, break_count, NetSeen, Leaves, NetShows}
use Rattle.servient_outside.proofs.ToldLaws.{continues_same, continues_then}

pub break_count-append : (a b : List Happening) → break_count (a ++ b) ≡ break_count a + break_count b
break_count-append [] b = omega arith
break_count-append (heard e ∷ a) b = break_count-append a b
break_count-append (did act ∷ a) b = break_count-append a b
break_count-append (broke call ∷ a) b = omega (arith, break_count-append a b)

pub leaves_then : (a b : List Happening) (first second third : Option (List EventWithBytes)) → Leaves a first second → Leaves b second third → Leaves (a ++ b) first third
leaves_then [] b first second third p q = subst (λ (o : Option (List EventWithBytes)). Leaves b o third) p q
leaves_then (did act ∷ a) b first second third p q = leaves_then a b first second third p q
leaves_then (heard e ∷ a) b (Some (x ∷ rest)) second third p q = (p.0, leaves_then a b (Some rest) second third p.1 q)
leaves_then (heard e ∷ a) b (Some []) second third p q = tt
leaves_then (heard e ∷ a) b None second third p q = tt
leaves_then (broke call ∷ a) b (Some (x ∷ rest)) second third p q = absurd p
leaves_then (broke call ∷ a) b (Some []) second third p q = tt
leaves_then (broke call ∷ a) b None second third p q = tt

-- nothing happened
pub net_shows_none : (w : NetSeen) → NetShows w w []
net_shows_none w = record { history = continues_same w.history; left = refl; faults = omega arith; no_failure = λ never. (never, refl, refl) }

-- happenings of one time and then of another
pub net_shows_then : (w v u : NetSeen) (a b : List Happening) → NetShows w v a → NetShows v u b → NetShows w u (a ++ b)
net_shows_then w v u a b p q = record {
  history = continues_then w.history v.history u.history a b p.history q.history;
  left = leaves_then a b w.left v.left u.left p.left q.left;
  faults = omega (arith, p.faults, q.faults, break_count-append a b);
  no_failure = λ never.
      let first = p.no_failure never in
      let second = q.no_failure first.0 in
      (second.0, omega (arith, break_count-append a b, first.1, second.1), second.2 ∙ first.2);
}

-- a network shows what happens in its order
pub net_shows_in_order : ShowsInOrder NetShows
net_shows_in_order = record {
  none = net_shows_none;
  more = λ w v u a b p q. net_shows_then w v u a b p q;
}
