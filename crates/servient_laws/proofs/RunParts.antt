-- What is known of two runs so far, as their moves are put together: they are alike, or they parted at a sign that memory
-- was wanting.
use Rattle.std.proofs.Common.{◌≡◌, ℕ, List, [], ◌∷◌, ◌++◌, sym, ap, ap₂, ◌∙◌, append_assoc, inl, inr}
use Rattle.std.specs.Prelude.{◌⊎◌}
use Rattle.std.proofs.lemmas.List.{append-nil}
use Rattle.thing_core.proofs.ApartLaws.{PartsAt, part_after, part_before}
use Rattle.servient_outside.specs.declared.net.EventWithBytes.{EventWithBytes}
use Rattle.servient_outside.specs.Network.{heard}
use Rattle.servient_trace.specs.Trace.{Sighting, at_network}
use Rattle.servient_core.specs.Machine.{State}
use Rattle.servient_laws.specs.Determined.{IsSign, BringsBlock, AreSameUpToSign, HasSignsOf, Agree, AreDetermined}
use Rattle.servient_laws.proofs.AlikeStates.{Agreed, joined_alike}
use Rattle.servient_laws.proofs.OwedReplies.{Owes, IsNoRefusal, Passed}

-- both refuse a block at once
pub record BothRefuse (a b : List Sighting) : Type 0 where
  pub before : List Sighting
  pub event : EventWithBytes
  pub sign : Sighting
  pub later : List Sighting
  pub other : List Sighting
  pub first : a ≡ before ++ at_network (heard event) ∷ sign ∷ later
  pub second : b ≡ before ++ at_network (heard event) ∷ sign ∷ other
  pub brings : BringsBlock event
  pub is_sign : IsSign sign

-- The first refused a request for want of memory, which waits in the second, of which nothing more is seen. Its
-- connection is one of these.
pub record Told (Of : ℕ → Type 0) (a b : List Sighting) (v : State) : Type 0 where
  pub connection : ℕ
  pub of : Of connection
  pub sign : Sighting
  pub rest : List Sighting
  pub whole : a ≡ b ++ sign ∷ rest
  pub is_sign : IsSign sign
  pub refuses : (y : Sighting) → IsNoRefusal connection y → y ≡ sign → ⊥
  pub owes : Owes connection v.http

-- The two, after which the states are these.
pub data Ran (Of : ℕ → Type 0) (a b : List Sighting) (u v : State) : Type 0 where
  agreed : Agreed a b u v → Ran Of a b u v
  refused : BothRefuse a b → Ran Of a b u v
  first_told : Told Of a b v → Ran Of a b u v
  second_told : Told Of b a u → Ran Of a b u v

pub of_these : (Of For : ℕ → Type 0) (a b : List Sighting) (u v : State) → ((c : ℕ) → Of c → For c) → Ran Of a b u v → Ran For a b u v
of_these Of For a b u v each (agreed x) = agreed x
of_these Of For a b u v each (refused r) = refused r
of_these Of For a b u v each (first_told t) =
    first_told (record { connection = t.connection; of = each t.connection t.of; sign = t.sign; rest = t.rest; whole = t.whole; is_sign = t.is_sign; refuses = t.refuses; owes = t.owes })
of_these Of For a b u v each (second_told t) =
    second_told (record { connection = t.connection; of = each t.connection t.of; sign = t.sign; rest = t.rest; whole = t.whole; is_sign = t.is_sign; refuses = t.refuses; owes = t.owes })

-- ---- what comes before, and behind

refused_after : (p q a b seen shown : List Sighting) → p ≡ q → seen ≡ p ++ a → shown ≡ q ++ b → BothRefuse a b → BothRefuse seen shown
refused_after p q a b seen shown same whole all r = record {
  before = p ++ r.before;
  event = r.event;
  sign = r.sign;
  later = r.later;
  other = r.other;
  first = whole ∙ ap (λ (x : List Sighting). p ++ x) r.first ∙ sym (append_assoc p r.before (at_network (heard r.event) ∷ r.sign ∷ r.later));
  second = all ∙ ap₂ (λ (x y : List Sighting). x ++ y) (sym same) r.second ∙ sym (append_assoc p r.before (at_network (heard r.event) ∷ r.sign ∷ r.other));
  brings = r.brings;
  is_sign = r.is_sign;
}

refused_before : (a b c d seen shown : List Sighting) → seen ≡ a ++ c → shown ≡ b ++ d → BothRefuse a b → BothRefuse seen shown
refused_before a b c d seen shown whole all r = record {
  before = r.before;
  event = r.event;
  sign = r.sign;
  later = r.later ++ c;
  other = r.other ++ d;
  first = whole ∙ ap (λ (x : List Sighting). x ++ c) r.first ∙ append_assoc r.before (at_network (heard r.event) ∷ r.sign ∷ r.later) c;
  second = all ∙ ap (λ (x : List Sighting). x ++ d) r.second ∙ append_assoc r.before (at_network (heard r.event) ∷ r.sign ∷ r.other) d;
  brings = r.brings;
  is_sign = r.is_sign;
}

told_after : (Of : ℕ → Type 0) (p q a b seen shown : List Sighting) (v : State) → p ≡ q → seen ≡ p ++ a → shown ≡ q ++ b → Told Of a b v → Told Of seen shown v
told_after Of p q a b seen shown v same whole all t = record {
  connection = t.connection;
  of = t.of;
  sign = t.sign;
  rest = t.rest;
  whole =
      whole ∙ ap₂ (λ (x y : List Sighting). x ++ y) same t.whole ∙ sym (append_assoc q b (t.sign ∷ t.rest)) ∙ ap (λ (x : List Sighting). x ++ t.sign ∷ t.rest) (sym all);
  is_sign = t.is_sign;
  refuses = t.refuses;
  owes = t.owes;
}

-- the one that waits goes on
told_before : (Of : ℕ → Type 0) (a b c d seen shown : List Sighting) (n v : State) → seen ≡ a ++ c → shown ≡ b ++ d → (t : Told Of a b n) → Passed t.connection d v
    → PartsAt IsSign seen shown ⊎ Told Of seen shown v
told_before Of a b c d seen shown n v whole all t (inr otherwise) = inl (record {
  common = b;
  sign = t.sign;
  rest = t.rest ++ c;
  instead = otherwise.instead;
  other = otherwise.other;
  is_sign = t.is_sign;
  apart = t.refuses otherwise.instead otherwise.is_no_refusal;
  first = whole ∙ ap (λ (x : List Sighting). x ++ c) t.whole ∙ append_assoc b (t.sign ∷ t.rest) c;
  second = all ∙ ap (λ (x : List Sighting). b ++ x) otherwise.whole;
})
told_before Of a b c d seen shown n v whole all t (inl (none, owes)) =
    let shown_is : shown ≡ b = all ∙ ap (λ (x : List Sighting). b ++ x) none ∙ append-nil b in
    inr (record {
      connection = t.connection;
      of = t.of;
      sign = t.sign;
      rest = t.rest ++ c;
      whole =
          whole ∙ ap (λ (x : List Sighting). x ++ c) t.whole ∙ append_assoc b (t.sign ∷ t.rest) c ∙ ap (λ (x : List Sighting). x ++ t.sign ∷ (t.rest ++ c)) (sym shown_is);
      is_sign = t.is_sign;
      refuses = t.refuses;
      owes = owes;
    })

-- what is known of two moves that come after the same
pub ran_after : (Of : ℕ → Type 0) (a b c d seen shown : List Sighting) (m n u v : State) → Agree a b m n → Ran Of c d u v → seen ≡ a ++ c → shown ≡ b ++ d → Ran Of seen shown u v
ran_after Of a b c d seen shown m n u v one (agreed (inl two)) whole all = agreed (inl (joined_alike a b c d seen shown m n u v one two whole all))
ran_after Of a b c d seen shown m n u v one (agreed (inr parts)) whole all = agreed (inr (part_after IsSign a b c d seen shown one.seen whole all parts))
ran_after Of a b c d seen shown m n u v one (refused r) whole all = refused (refused_after a b c d seen shown one.seen whole all r)
ran_after Of a b c d seen shown m n u v one (first_told t) whole all = first_told (told_after Of a b c d seen shown v one.seen whole all t)
ran_after Of a b c d seen shown m n u v one (second_told t) whole all = second_told (told_after Of b a d c shown seen u (sym one.seen) all whole t)

-- one move after another
pub ran_then : (Of : ℕ → Type 0) (a b c d seen shown : List Sighting) (m n u v : State) → Ran Of a b m n → (Agree a b m n → Ran Of c d u v)
    → ((k : ℕ) → Of k → Owes k m.http → Passed k c u) → ((k : ℕ) → Of k → Owes k n.http → Passed k d v) → seen ≡ a ++ c → shown ≡ b ++ d → Ran Of seen shown u v
ran_then Of a b c d seen shown m n u v (agreed (inr parts)) rest first second whole all = agreed (inr (part_before IsSign a b c d seen shown whole all parts))
ran_then Of a b c d seen shown m n u v (refused r) rest first second whole all = refused (refused_before a b c d seen shown whole all r)
ran_then Of a b c d seen shown m n u v (first_told t) rest first second whole all = by (told_before Of a b c d seen shown n v whole all t (second t.connection t.of t.owes))
  where
    by : PartsAt IsSign seen shown ⊎ Told Of seen shown v → Ran Of seen shown u v
    by (inl e) = agreed (inr (inl e))
    by (inr e) = first_told e
ran_then Of a b c d seen shown m n u v (second_told t) rest first second whole all = by (told_before Of b a d c shown seen m u all whole t (first t.connection t.of t.owes))
  where
    by : PartsAt IsSign shown seen ⊎ Told Of shown seen u → Ran Of seen shown u v
    by (inl e) = agreed (inr (inr e))
    by (inr e) = second_told e
ran_then Of a b c d seen shown m n u v (agreed (inl one)) rest first second whole all = ran_after Of a b c d seen shown m n u v one (rest one) whole all

-- ---- whole runs

same_head : (x y : Sighting) (a b : List Sighting) → x ∷ a ≡ y ∷ b → x ≡ y
same_head x y a b same = cc

not_more : (x : Sighting) (a : List Sighting) → [] ≡ x ∷ a → ⊥
not_more x a same = cc

up_to : (a b : List Sighting) → PartsAt IsSign a b → AreSameUpToSign a b
up_to a b e = record { common = e.common; rest = e.sign ∷ e.rest; other = e.instead ∷ e.other; first = e.first; second = e.second; sign = inl e.is_sign }

up_to_back : (a b : List Sighting) → AreSameUpToSign a b → AreSameUpToSign b a
up_to_back a b e = record { common = e.common; rest = e.other; other = e.rest; first = e.second; second = e.first; sign = by e.sign }
  where
    by : {A B : Type 0} → A ⊎ B → B ⊎ A
    by (inl x) = inr x
    by (inr x) = inl x

told_up_to : (Of : ℕ → Type 0) (a b : List Sighting) (v : State) → Told Of a b v → AreSameUpToSign a b
told_up_to Of a b v t = record { common = b; rest = t.sign ∷ t.rest; other = []; first = t.whole; second = sym (append-nil b); sign = inl t.is_sign }

parts_not : (a b : List Sighting) → PartsAt IsSign a b → HasSignsOf a b → ⊥
parts_not a b e has =
    let found = has e.common e.sign e.rest (e.instead ∷ e.other) e.first e.second e.is_sign in
    e.apart (same_head e.instead e.sign e.other found.0 found.1)

told_not : (Of : ℕ → Type 0) (a b : List Sighting) (v : State) → Told Of a b v → HasSignsOf a b → ⊥
told_not Of a b v t has =
    let found = has b t.sign t.rest [] t.whole (sym (append-nil b)) t.is_sign in
    not_more t.sign found.0 found.1

pub ran_determined : (Of : ℕ → Type 0) (a b : List Sighting) (s t : State) → Ran Of a b s t → AreDetermined a b s t
ran_determined Of a b s t (agreed (inl one)) = record { up_to_sign = inl one; throughout = λ has had none. one }
ran_determined Of a b s t (agreed (inr (inl e))) = record { up_to_sign = inr (up_to a b e); throughout = λ has had none. absurd (parts_not a b e has) }
ran_determined Of a b s t (agreed (inr (inr e))) = record { up_to_sign = inr (up_to_back b a (up_to b a e)); throughout = λ has had none. absurd (parts_not b a e had) }
ran_determined Of a b s t (refused r) = record {
  up_to_sign = inr (record {
    common = r.before ++ at_network (heard r.event) ∷ [];
    rest = r.sign ∷ r.later;
    other = r.sign ∷ r.other;
    first = r.first ∙ sym (append_assoc r.before (at_network (heard r.event) ∷ []) (r.sign ∷ r.later));
    second = r.second ∙ sym (append_assoc r.before (at_network (heard r.event) ∷ []) (r.sign ∷ r.other));
    sign = inl r.is_sign;
  });
  throughout = λ has had none.
      absurd (none (record { before = r.before; event = r.event; sign = r.sign; later = r.later; whole = r.first; brings = r.brings; is_sign = r.is_sign }));
}
ran_determined Of a b s t (first_told e) = record { up_to_sign = inr (told_up_to Of a b t e); throughout = λ has had none. absurd (told_not Of a b t e has) }
ran_determined Of a b s t (second_told e) = record { up_to_sign = inr (up_to_back b a (told_up_to Of b a s e)); throughout = λ has had none. absurd (told_not Of b a s e had) }
