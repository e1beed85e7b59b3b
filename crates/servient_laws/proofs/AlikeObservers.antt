-- The acts on observers are determined: by an answer, and by the messages that are due.
use Rattle.std.proofs.Common.{◌≡◌, ◌+◌, ◌%◌, ℕ, Bool, true, false, List, [], ◌∷◌, ◌++◌, take, find, Option, Some, None, option_map, refl, sym, ap, ap₂, subst, ◌∙◌, arith}
use Rattle.std.specs.Prelude.{if◌then◌else◌}
use Rattle.std.proofs.lemmas.Option.{same_Some}
use Rattle.coap_msg.specs.declared.endpoint.Endpoint.{Endpoint}
use Rattle.coap_msg.specs.declared.message.Type4.TheVariants.{Con}
use Rattle.coap_msg.specs.declared.constants.TheConstants.{CONTENT_FORMAT, JSON}
use Rattle.coap_msg.specs.Numbers.{number_bytes}
use Rattle.coap_msg.specs.Grammar.{CoapMessage, spelling}
use Rattle.coap_observe.specs.Sending.{Sent}
use Rattle.coap_observe.specs.declared.observer.Observer.{Observer}
use Rattle.coap_observe.specs.declared.notice.Registered.{Registered}
use Rattle.coap_observe.specs.declared.notice.Registered.TheVariants.{New, Replaced, Full}
use Rattle.coap_observe.specs.declared.notice.Notice.{Notice}
use Rattle.coap_observe.specs.Watching.{Watching, Registers, sequence_of, is_due, IsNotification, next_sequence, GivesUp, nobody, endpoint, Sends, same, newer, first, nothing, Notifies, without, is_from}
use Rattle.thing_ops.specs.Outcomes.{coap}
use Rattle.thing_ops.specs.declared.outcome.Outcome.{Outcome}
use Rattle.coap_bind.specs.declared.observing.Observing.{Observing}
use Rattle.coap_bind.specs.declared.observing.Effect.{Effect}
use Rattle.coap_bind.specs.declared.observing.Effect.TheVariants as effect
use Rattle.coap_bind.specs.declared.pending.PendingReply.{PendingReply}
use Rattle.coap_bind.specs.declared.server.Server.{Server}
use Rattle.coap_bind.specs.Observing.{effect_of, Watches, leaves, cancels, registers}
use Rattle.coap_bind.specs.declared.blocks.BlockUse.{BlockUse}
use Rattle.coap_bind.specs.Blocks.{answer_reply, bodies_after}
use Rattle.coap_bind.proofs.DuplicateLaws.{ready}
use Rattle.coap_blocks.specs.Bodies.{Body}
use Rattle.coap_bind.specs.Writing.{observed, observe_options, notification, ReplyHead, head_in}
use Rattle.coap_bind.specs.Server.{Replies, Answers, with_observers, with_next_id, with_notification_sent, with_emitted, SendsNext}
use Rattle.coap_observe.specs.Watching.{with_emission}
use Rattle.servient_laws.specs.Determined.{SameServer}
use Rattle.servient_laws.proofs.AlikeAnswers.{moved, same_replies, SameAsk}

-- ---- registrations

registered_once : (from : Endpoint) (token : List ℕ) (target : ℕ) (t u v : Watching) (r q : Registered) → Registers from token target t r u → Registers from token target t q v → (r ≡ q) × (u ≡ v)
registered_once from token target t u v (Replaced m) (Replaced n) a b = (ap Replaced (same_Some m n (sym a.0 ∙ b.0)), a.1 ∙ sym b.1)
registered_once from token target t u v (Replaced m) (New n) a b = absurd (let found = sym a.0 ∙ ap (λ (o : Option Observer). option_map (λ (w : Observer). next_sequence w.sequence) o) b.0 in cc)
registered_once from token target t u v (Replaced m) Full a b = absurd (let found = sym a.0 ∙ ap (λ (o : Option Observer). option_map (λ (w : Observer). next_sequence w.sequence) o) b.0 in cc)
registered_once from token target t u v (New m) (Replaced n) a b = absurd (let found = sym b.0 ∙ ap (λ (o : Option Observer). option_map (λ (w : Observer). next_sequence w.sequence) o) a.0 in cc)
registered_once from token target t u v (New m) (New n) a b = (ap New (a.2 ∙ sym b.2), a.3 ∙ sym b.3)
registered_once from token target t u v (New m) Full a b = absurd (omega (arith, a.1, b.1))
registered_once from token target t u v Full (Replaced n) a b = absurd (let found = sym b.0 ∙ ap (λ (o : Option Observer). option_map (λ (w : Observer). next_sequence w.sequence) o) a.0 in cc)
registered_once from token target t u v Full (New n) a b = absurd (omega (arith, a.1, b.1))
registered_once from token target t u v Full Full a b = (refl, a.2 ∙ sym b.2)

same_target : (m n : ℕ) → effect.Registers m ≡ effect.Registers n → m ≡ n
same_target m n e = cc

watched_once : (does : Effect) (from : Endpoint) (token : List ℕ) (old u v : Watching) (o p : Option ℕ) → Watches does from token old o u → Watches does from token old p v → (o ≡ p) × (u ≡ v)
watched_once does from token old u v o p (leaves is a b) (leaves is' c d) = (a ∙ sym c, b ∙ sym d)
watched_once does from token old u v o p (leaves is a b) (cancels is' c d) = absurd (let apart : effect.Nothing ≡ effect.Cancels = sym is ∙ is' in cc)
watched_once does from token old u v o p (leaves is a b) (registers n q is' c d) = absurd (let apart : effect.Nothing ≡ effect.Registers n = sym is ∙ is' in cc)
watched_once does from token old u v o p (cancels is a b) (leaves is' c d) = absurd (let apart : effect.Nothing ≡ effect.Cancels = sym is' ∙ is in cc)
watched_once does from token old u v o p (cancels is a b) (cancels is' c d) = (a ∙ sym c, b ∙ sym d)
watched_once does from token old u v o p (cancels is a b) (registers n q is' c d) = absurd (let apart : effect.Cancels ≡ effect.Registers n = sym is ∙ is' in cc)
watched_once does from token old u v o p (registers n q is a b) (leaves is' c d) = absurd (let apart : effect.Nothing ≡ effect.Registers n = sym is' ∙ is in cc)
watched_once does from token old u v o p (registers n q is a b) (cancels is' c d) = absurd (let apart : effect.Cancels ≡ effect.Registers n = sym is' ∙ is in cc)
watched_once does from token old u v o p (registers n r is a b) (registers m q is' c d) =
    let same_one : m ≡ n = same_target m n (sym is' ∙ is) in
    let both = registered_once from token n old u v r q a (subst (λ (x : ℕ). Registers from token x old q v) same_one c) in
    (b ∙ ap sequence_of both.0 ∙ sym d, both.1)

-- a request is answered in the same bytes
pub same_answers : (one other : PendingReply) (o : Outcome) (target : Option ℕ) (a b : List ℕ) (s t u v : Server) → SameServer s t → SameAsk one other s t
    → Answers one o target a s u → Answers other o target b t v → (a ≡ b) × SameServer u v
same_answers one other o target a b s t u v same_servers ask p q =
    let there : Watches (effect_of one.observing o target) one.from one.token s.observers q.observe q.observers =
    subst (λ (w : Watching). Watches (effect_of one.observing o target) one.from one.token w q.observe q.observers) (sym same_servers.observers)
    (subst (λ (h : ReplyHead). Watches (effect_of one.observing o target) one.from h.token t.observers q.observe q.observers) (sym ask.head)
    (subst (λ (e : Endpoint). Watches (effect_of one.observing o target) e other.token t.observers q.observe q.observers) (sym ask.from)
    (subst (λ (x : Observing). Watches (effect_of x o target) other.from other.token t.observers q.observe q.observers) (sym ask.observing) q.watches))) in
    let once = watched_once (effect_of one.observing o target) one.from one.token s.observers p.observers q.observers p.observe q.observe p.watches there in
    let servers : SameServer (ready one o p.observers s) (ready other o q.observers t) = record {
      table = same_servers.table;
      observers = once.1;
      next = same_servers.next;
      bodies = ap₂ (λ (x : BlockUse) (e : Endpoint). bodies_after x e o s.bodies) ask.blocks ask.from ∙ ap (λ (bodies : List Body). bodies_after other.blocks other.from o bodies) same_servers.bodies;
      parts = same_servers.parts;
      links = same_servers.links;
    } in
    same_replies (observed p.observe (answer_reply one.blocks o)) (head_in one) one.slot (head_in other) other.slot a b (ready one o p.observers s) (ready other o q.observers t) u v servers ask.head ask.last ask.last_too
    p.replies (subst (λ (x : Option ℕ). Replies (observed x (answer_reply one.blocks o)) (head_in other) other.slot b (ready other o q.observers t) v) (sym once.0)
    (subst (λ (x : BlockUse). Replies (observed q.observe (answer_reply x o)) (head_in other) other.slot b (ready other o q.observers t) v) (sym ask.blocks) q.replies))

-- the observers of a target are marked
pub same_emitted : (target : ℕ) (s t : Server) → SameServer s t → SameServer (with_emitted target s) (with_emitted target t)
same_emitted target s t is = record { table = is.table; observers = ap (λ (w : Watching). with_emission target w) is.observers; next = is.next; bodies = is.bodies; parts = is.parts; links = is.links }

-- ---- what is due

-- two notifications that are one on the wire
pub record SameNotification (n k : Notice) : Type 0 where
  pub to : n.to ≡ k.to
  pub token : take n.token_length n.token ≡ take k.token_length k.token
  pub target : n.target ≡ k.target
  pub id : n.id ≡ k.id
  pub sequence : n.sequence ≡ k.sequence
  pub fresh : n.fresh ≡ k.fresh

abbrev pub SameNotifications : Option Notice → Option Notice → Type 0
SameNotifications None None = Unit {0}
SameNotifications (Some n) (Some k) = SameNotification n k
SameNotifications o p = ⊥

noticed : (v w : Observer) (id other sequence number : ℕ) (fresh : Bool) (n k : Notice) → v ≡ w → id ≡ other → sequence ≡ number → IsNotification v id sequence fresh n → IsNotification w other number fresh k
    → SameNotification n k
noticed v w id other sequence number fresh n k one ids numbers a b = record {
  to = a.to ∙ ap (λ (x : Observer). x.from) one ∙ sym b.to;
  token = a.token ∙ ap (λ (x : Observer). x.token) one ∙ sym b.token;
  target = a.target ∙ ap (λ (x : Observer). x.target) one ∙ sym b.target;
  id = a.id_is ∙ ids ∙ sym b.id_is;
  sequence = a.sequence_is ∙ numbers ∙ sym b.sequence_is;
  fresh = a.fresh_is ∙ sym b.fresh_is;
}

given_up_once : (now : ℕ) (ws us vs : List Observer) → GivesUp now ws us → GivesUp now ws vs → us ≡ vs
given_up_once now ws us vs (nobody _ _ none is) (nobody _ _ none' is') = is ∙ sym is'
given_up_once now ws us vs (nobody _ _ none is) (endpoint from _ _ found more) = absurd (let apart : None ≡ Some from = sym none ∙ found in cc)
given_up_once now ws us vs (endpoint from _ _ found more) (nobody _ _ none is) = absurd (let apart : None ≡ Some from = sym none ∙ found in cc)
given_up_once now ws us vs (endpoint from _ _ found more) (endpoint other _ _ found' further) =
    let one : other ≡ from = same_Some other from (sym found' ∙ found) in
    given_up_once now (without (is_from from) ws) us vs more (subst (λ (e : Endpoint). GivesUp now (without (is_from e) ws) vs) one further)

none_some : (w : Observer) (o : Option Observer) → o ≡ None → o ≡ Some w → ⊥
none_some w o none some = absurd (let apart : None ≡ Some w = sym none ∙ some in cc)

marked_or_not : (v w : Observer) → v ≡ w → v.is_marked ≡ true → w.is_marked ≡ false → ⊥
marked_or_not v w one is isnt = absurd (let apart : true ≡ false = sym is ∙ ap (λ (x : Observer). x.is_marked) one ∙ isnt in cc)

sent_once : (now id : ℕ) (ws us vs : List Observer) (o p : Option Notice) → Sends now id ws o us → Sends now id ws p vs → SameNotifications o p × (us ≡ vs)
sent_once now id ws us vs o p (same w x n _ found unmarked had is after) (same v y k _ found' unmarked' had' is' after') =
    let one : w ≡ v = same_Some w v (sym found ∙ found') in
    let sent : x ≡ y = same_Some x y (sym had ∙ ap (λ (z : Observer). z.notification) one ∙ had') in
    (noticed w v x.id y.id w.sequence v.sequence false n k one (ap (λ (z : Sent). z.id) sent) (ap (λ (z : Observer). z.sequence) one) is is', after ∙ sym after')
sent_once now id ws us vs o p (same w x n _ found unmarked had is after) (newer v k _ found' marked is' after') =
    absurd (marked_or_not v w (same_Some v w (sym found' ∙ found)) marked unmarked)
sent_once now id ws us vs o p (same w x n _ found unmarked had is after) (first v k _ none found' is' after') = absurd (none_some w (find (is_due now) ws) none found)
sent_once now id ws us vs o p (same w x n _ found unmarked had is after) (nothing _ none none' after') = absurd (none_some w (find (is_due now) ws) none found)
sent_once now id ws us vs o p (newer w n _ found marked is after) (same v y k _ found' unmarked had is' after') =
    absurd (marked_or_not w v (same_Some w v (sym found ∙ found')) marked unmarked)
sent_once now id ws us vs o p (newer w n _ found marked is after) (newer v k _ found' marked' is' after') =
    let one : w ≡ v = same_Some w v (sym found ∙ found') in
    (noticed w v id id (next_sequence w.sequence) (next_sequence v.sequence) true n k one refl (ap (λ (z : Observer). next_sequence z.sequence) one) is is', after ∙ sym after')
sent_once now id ws us vs o p (newer w n _ found marked is after) (first v k _ none found' is' after') = absurd (none_some w (find (is_due now) ws) none found)
sent_once now id ws us vs o p (newer w n _ found marked is after) (nothing _ none none' after') = absurd (none_some w (find (is_due now) ws) none found)
sent_once now id ws us vs o p (first w n _ none found is after) (same v y k _ found' unmarked had is' after') = absurd (none_some v (find (is_due now) ws) none found')
sent_once now id ws us vs o p (first w n _ none found is after) (newer v k _ found' marked is' after') = absurd (none_some v (find (is_due now) ws) none found')
sent_once now id ws us vs o p (first w n _ none found is after) (first v k _ none' found' is' after') =
    let one : w ≡ v = same_Some w v (sym found ∙ found') in
    (noticed w v id id (next_sequence w.sequence) (next_sequence v.sequence) true n k one refl (ap (λ (z : Observer). next_sequence z.sequence) one) is is', after ∙ sym after')
sent_once now id ws us vs o p (first w n _ none found is after) (nothing _ none' nobody_free after') = absurd (none_some w (find _ ws) nobody_free found)
sent_once now id ws us vs o p (nothing _ none nobody_free after) (same v y k _ found' unmarked had is' after') = absurd (none_some v (find (is_due now) ws) none found')
sent_once now id ws us vs o p (nothing _ none nobody_free after) (newer v k _ found' marked is' after') = absurd (none_some v (find (is_due now) ws) none found')
sent_once now id ws us vs o p (nothing _ none nobody_free after) (first v k _ none' found' is' after') = absurd (none_some v (find _ ws) nobody_free found')
sent_once now id ws us vs o p (nothing _ none nobody_free after) (nothing _ none' nobody' after') = (tt, after ∙ sym after')

-- ---- what is sent next

id_after : (b c : Bool) (s t : Server) → b ≡ c → SameServer s t → SameServer (if b then with_next_id s else s) (if c then with_next_id t else t)
id_after true true s t e is = record { table = is.table; observers = is.observers; next = ap (λ (n : ℕ). (n + 1) % 65536) is.next; bodies = is.bodies; parts = is.parts; links = is.links }
id_after false false s t e is = is
id_after true false s t e is = absurd cc
id_after false true s t e is = absurd cc

notification_sent : (o p : Option Notice) (s t : Server) → SameNotifications o p → SameServer s t → SameServer (with_notification_sent o s) (with_notification_sent p t)
notification_sent None None s t one is = is
notification_sent (Some n) (Some k) s t one is = id_after n.fresh k.fresh s t one.fresh is
notification_sent None (Some k) s t one is = absurd one
notification_sent (Some n) None s t one is = absurd one

same_watching : (a b : Watching) → a.capacity ≡ b.capacity → a.list ≡ b.list → a ≡ b
same_watching a b e f = ap₂ (λ (c : ℕ) (l : List Observer). record { capacity = c; list = l }) e f

pub same_next : (now : ℕ) (o p : Option Notice) (s t u v : Server) → SameServer s t → SendsNext now o s u → SendsNext now p t v → SameNotifications o p × SameServer u v
same_next now o p s t u v is a b =
    let there : Notifies now s.next_id s.observers.list p b.observers.list =
    subst (λ (w : Watching). Notifies now s.next_id w.list p b.observers.list) (sym is.observers) (subst (λ (n : ℕ). Notifies now n t.observers.list p b.observers.list) (sym is.next) b.notifies) in
    let left : there.left ≡ a.notifies.left = given_up_once now s.observers.list there.left a.notifies.left there.gives_up a.notifies.gives_up in
    let once = sent_once now s.next_id a.notifies.left a.observers.list b.observers.list o p a.notifies.sends
    (subst (λ (ws : List Observer). Sends now s.next_id ws p b.observers.list) left there.sends) in
    let watching : a.observers ≡ b.observers = same_watching a.observers b.observers (a.capacity ∙ ap (λ (w : Watching). w.capacity) is.observers ∙ sym b.capacity) once.1 in
    let servers : SameServer (with_observers a.observers s) (with_observers b.observers t) = record { table = is.table; observers = watching; next = is.next; bodies = is.bodies; parts = is.parts; links = is.links } in (
      once.0,
      moved (with_notification_sent o (with_observers a.observers s)) (with_notification_sent p (with_observers b.observers t)) u v a.after b.after
          (notification_sent o p (with_observers a.observers s) (with_observers b.observers t) once.0 servers),
    )

-- the message of a notification, by what is the same of two
abbrev said : ℕ → List ℕ → ℕ → List ℕ → CoapMessage
said id token sequence value = record {
  kind = Con;
  code = coap 2 05;
  id = id;
  token = token;
  options = observe_options (Some sequence) ++ (CONTENT_FORMAT, number_bytes JSON) ∷ [];
  payload = value;
}

pub same_bytes : (n k : Notice) (v w : List ℕ) → SameNotification n k → v ≡ w → spelling (notification n v) ≡ spelling (notification k w)
same_bytes n k v w is values =
    ap (λ (i : ℕ). spelling (said i (take n.token_length n.token) n.sequence v)) is.id
    ∙ ap (λ (x : List ℕ). spelling (said k.id x n.sequence v)) is.token
    ∙ ap₂ (λ (i : ℕ) (x : List ℕ). spelling (said k.id (take k.token_length k.token) i x)) is.sequence values
