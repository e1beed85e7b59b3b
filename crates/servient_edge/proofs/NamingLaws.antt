-- Laws of which number an event of the network names.
use Rattle.std.proofs.Common.{◌≡◌, ◌≢◌, ℕ, List, Option, Some, None, get_or, sym, ap, subst, ◌∙◌, inl, inr}
use Rattle.std.proofs.lemmas.List.{get_or-set_other}
use Rattle.std.proofs.lemmas.Bool.Decides.{eqb_tells}
use Rattle.servient_outside.specs.declared.net.What.{What}
use Rattle.servient_outside.specs.declared.net.What.TheVariants as what
use Rattle.servient_edge.specs.declared.number.Number.{Number}
use Rattle.servient_edge.specs.declared.number.Number.TheVariants as number
use Rattle.servient_edge.specs.declared.numbers.Numbers.{Numbers}
use Rattle.servient_edge.specs.Numbers.{Standing, standing, standing_at, number_at, ChangesAt, OthersStay, Settled, Settles, Comes}
use Rattle.servient_edge.specs.Naming.{stands, MaySettle, Names}

-- ---- connections that may be over

settled_twice : (a b c : Standing) → Settled a b → Settled b c → Settled a c
settled_twice a b c (inl same) later = subst (λ (s : Standing). Settled s c) same later
settled_twice a b c (inr over) (inl same) = inr (over.0, same ∙ over.1)
settled_twice a b c (inr over) (inr later) = inr (over.0, later.1)

pub settles_twice : (first second third : List Number) → MaySettle first second → MaySettle second third → MaySettle first third
settles_twice first second third before after = λ c. settled_twice (stands c first) (stands c second) (stands c third) (before c) (after c)

-- where the numbers are the same, none is over
pub settles_same : (before after : List Number) → after ≡ before → MaySettle before after
settles_same before after same = λ c. inl (ap (stands c) same)

others_stay : (c : ℕ) (before after : Numbers) → OthersStay c before after → (other : ℕ) → other ≢ c → standing_at other after ≡ standing_at other before
others_stay c before after stay other apart =
    ap (λ (items : List Number). standing (get_or items other number.Free)) stay
    ∙ ap standing (get_or-set_other before.list.items c other (number_at c after) number.Free apart)

-- of some numbers of which one more connection may be over
pub settles_one : (c : ℕ) (first before after : Numbers) → Settles first before → ChangesAt Settled c before after → Settles first after
settles_one c first before after settles changes = λ other.
    elim (eqb_tells other c) [
      | inl w ↦
          subst (λ (k : ℕ). Settled (standing_at k first) (standing_at k after)) (sym w.1)
          (settled_twice (standing_at c first) (standing_at c before) (standing_at c after) (settles c) changes.0)
      | inr w ↦ subst (λ (s : Standing). Settled (standing_at other first) s) (sym (others_stay c before after changes.1 other w.1)) (settles other)
    ]

-- ---- events

-- the event that some turns give is the one that is named
pub comes_named : (before after : Numbers) (came : Option What) → Comes before came after → Names before.list.items came after.list.items
comes_named before after None comes = settles_twice before.list.items comes.0.list.items after.list.items comes.1 comes.2
comes_named before after (Some (what.Opened c)) comes = (comes.0.list.items, comes.1, comes.2)
comes_named before after (Some (what.Bytes c count)) comes = (comes.0.list.items, comes.1, comes.2)
comes_named before after (Some (what.Ended c)) comes = (comes.0.list.items, comes.1, comes.2)
comes_named before after (Some (what.Datagram from count)) comes =
    subst (λ (n : Numbers). MaySettle before.list.items n.list.items) (sym comes.2) comes.1
comes_named before after (Some what.Tick) comes = absurd comes.2
comes_named before after (Some what.Stop) comes = absurd comes.2

-- before an event closed connections may have been over
pub names_later : (first before after : List Number) (came : Option What) → Names before came after → MaySettle first before → Names first came after
names_later first before after None names settles = settles_twice first before after settles names
names_later first before after (Some (what.Opened c)) names settles = (names.0, settles_twice first before names.0 settles names.1, names.2)
names_later first before after (Some (what.Bytes c count)) names settles = (names.0, settles_twice first before names.0 settles names.1, names.2)
names_later first before after (Some (what.Ended c)) names settles = (names.0, settles_twice first before names.0 settles names.1, names.2)
names_later first before after (Some (what.Datagram from count)) names settles = settles_twice first before after settles names
names_later first before after (Some what.Tick) names settles = settles_twice first before after settles names
names_later first before after (Some what.Stop) names settles = settles_twice first before after settles names

-- after an event nothing changes
pub names_still : (before between after : List Number) (came : Option What) → Names before came between → after ≡ between → Names before came after
names_still before between after came names same = subst (λ (items : List Number). Names before came items) (sym same) names
