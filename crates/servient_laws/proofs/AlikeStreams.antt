-- The acts on connections are determined.
use Rattle.std.proofs.Common.{◌≡◌, ℕ, Bool, List, [], ◌∷◌, ◌++◌, position, Option, Some, None, refl, sym, ap, ap₂, subst, ◌∙◌}
use Rattle.std.proofs.lemmas.Option.{same_Some}
use Rattle.thing_ops.specs.declared.outcome.Outcome.{Outcome}
use Rattle.thing_ops.specs.declared.outcome.Outcome.TheVariants as outcome
use Rattle.http_wire.specs.Stream.{Front}
use Rattle.http_wire.proofs.OneFront.{at_most_one_front}
use Rattle.http_bind.specs.declared.owed.Owed.{Owed}
use Rattle.http_bind.specs.Replying.{reply}
use Rattle.http_bind.specs.Streams.{HttpReply, Connection, Streams, Taken, with_connection, without_wait, rest_of, to_take, after_taking, LetsTake, takes_front, is_interrupted, Takes, IsSpent, HasNothing, IsDry, after_reply, Replies, waits_of, other_waits, Answers, lets_wait, sends_reply, woken_by, Wakes, IsIdle, NoneIdle}

some_none : {A : Type 0} (o : Option A) (x : A) → o ≡ None → o ≡ Some x → ⊥
some_none o x none some = absurd (let apart : None ≡ Some x = sym none ∙ some in cc)

-- ---- what is taken

let_take_once : (x : Connection) (p q : Taken) (y z : Option Connection) → LetsTake p x y → LetsTake q x z → (p ≡ q) × (y ≡ z)
let_take_once x p q y z (takes_front f free front taken is) (takes_front g free' front' taken' is') =
    let fronts : f ≡ g = at_most_one_front (rest_of x) f g front front' in
    let same : p ≡ q = same_Some p q (sym taken ∙ ap (λ (h : Front). to_take x.continued h) fronts ∙ taken') in
    (same, is ∙ ap₂ (λ (t : Taken) (h : Front). Some (after_taking t h x)) same fronts ∙ sym is')
let_take_once x p q y z (takes_front f free front taken is) (is_interrupted o owed rest taken' is') = absurd (some_none x.owed o free owed)
let_take_once x p q y z (is_interrupted o owed rest taken is) (takes_front f free front taken' is') = absurd (some_none x.owed o free owed)
let_take_once x p q y z (is_interrupted o owed rest taken is) (is_interrupted o' owed' rest' taken' is') = (taken ∙ sym taken', is ∙ sym is')

pub taken_once : (c : ℕ) (p q : Taken) (s t u : Streams) → Takes c p s t → Takes c q s u → (p ≡ q) × (t ≡ u)
taken_once c p q s t u (x, y, there, takes, is) (v, z, there', takes', is') =
    let same : v ≡ x = same_Some v x (sym there' ∙ there) in
    let once = let_take_once x p q y z takes (subst (λ (w : Connection). LetsTake q w z) same takes') in
    (once.0, is ∙ ap (λ (w : Option Connection). with_connection c w (without_wait c s)) once.1 ∙ sym is')

-- where nothing can be taken, nothing is
spent_lets : (x : Connection) (y : Option Connection) (p : Taken) (o : Option Owed) → x.owed ≡ o → IsSpent o x → LetsTake p x y → ⊥
spent_lets x y p None free spent (takes_front f none front taken is) =
    let fronts : spent.0 ≡ f = at_most_one_front (rest_of x) spent.0 f spent.1 front in
    some_none (to_take x.continued f) p (sym (ap (λ (h : Front). to_take x.continued h) fronts) ∙ spent.2) taken
spent_lets x y p (Some w) owed spent (takes_front f none front taken is) = some_none x.owed w none owed
spent_lets x y p None free spent (is_interrupted w owed rest taken is) = some_none x.owed w free owed
spent_lets x y p (Some w) owed spent (is_interrupted w' owed' rest taken is) = rest spent

pub dry_takes : (c : ℕ) (p : Taken) (s t : Streams) → IsDry c s → Takes c p s t → ⊥
dry_takes c p s t dry (x, y, there, takes, is) = spent_lets x y p x.owed refl (subst HasNothing there dry) takes

-- ---- replies

same_reply : (p q : HttpReply) → p.bytes ≡ q.bytes → p.closes ≡ q.closes → p ≡ q
same_reply p q bytes closes = λ i. record { bytes = bytes i; closes = closes i }

replied_once : (c : ℕ) (o : Outcome) (now : ℕ) (a b : List ℕ) (d e : Bool) (s t u : Streams) → Replies c o now a d s t → Replies c o now b e s u → (a ≡ b) × (d ≡ e) × (t ≡ u)
replied_once c o now a b d e s t u (x, w, there, owed, closes, bytes, is) (y, v, there', owed', closes', bytes', is') =
    let same : x ≡ y = same_Some x y (sym there ∙ there') in
    let debts : w ≡ v = same_Some w v (sym owed ∙ ap (λ (z : Connection). z.owed) same ∙ owed') in
    let closed : d ≡ e = closes ∙ ap (λ (z : Owed). z.closes) debts ∙ sym closes' in
    let replies : a ≡ b = same_Some a b (sym bytes ∙ ap₂ (λ (z : Owed) (f : Bool). reply z.bodiless f o) debts closed ∙ bytes') in
    (replies, closed, is ∙ ap₂ (λ (f : Bool) (z : Connection). with_connection c (after_reply f now z) (without_wait c s)) closed same ∙ sym is')

pub answered_once : (c : ℕ) (o : Outcome) (p q : Option HttpReply) (now : ℕ) (s t u : Streams) → Answers c o now p s t → Answers c o now q s u → (p ≡ q) × (t ≡ u)
answered_once c o p q now s t u (lets_wait m is waits sent) (lets_wait n is' waits' sent') =
    let targets : m ≡ n = (let e : outcome.Wait m ≡ outcome.Wait n = sym is ∙ is' in cc) in
    (sent ∙ sym sent', waits.4 ∙ ap (λ (k : ℕ). record s { waits = other_waits c s.waits ++ record { connection = c; target = k; since = now } ∷ [] }) targets ∙ sym waits'.4)
answered_once c o p q now s t u (lets_wait m is waits sent) (sends_reply b e none replies sent') = absurd (some_none (waits_of o) m none (ap waits_of is))
answered_once c o p q now s t u (sends_reply a d none replies sent) (lets_wait n is waits sent') = absurd (some_none (waits_of o) n none (ap waits_of is))
answered_once c o p q now s t u (sends_reply a d none replies sent) (sends_reply b e none' replies' sent') =
    let once = replied_once c o now a b d e s t u replies replies' in
    (sent ∙ ap Some (same_reply (record { bytes = a; closes = d }) (record { bytes = b; closes = e }) once.0 once.1) ∙ sym sent', once.2)

pub woken_once : (c : ℕ) (text : Option (List ℕ)) (p q : HttpReply) (now : ℕ) (s t u : Streams) → Wakes c text now p.bytes p.closes s t → Wakes c text now q.bytes q.closes s u → (p ≡ q) × (t ≡ u)
woken_once c text p q now s t u one other =
    let once = replied_once c (woken_by text) now p.bytes q.bytes p.closes q.closes s t u one.1 other.1 in
    (same_reply p q once.0 once.1, once.2)

-- ---- idle connections

pub idle_once : (c d now : ℕ) (s : Streams) → IsIdle c now s → IsIdle d now s → c ≡ d
idle_once c d now s one other = same_Some c d (sym one ∙ other)

pub none_idle : (c now : ℕ) (s : Streams) → NoneIdle now s → IsIdle c now s → ⊥
none_idle c now s none is = some_none (position _ s.places) c none is
