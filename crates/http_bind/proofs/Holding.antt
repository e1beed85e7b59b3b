-- The value held of one connection, and the connection that it stands for.
use Rattle.std.proofs.Common.{◌≡◌, ℕ, ◌+◌, ◌-◌, ◌≤◌, Bool, true, false, List, ◌++◌, length, drop, refl, sym, ap, subst, ◌∙◌, arith, length-append}
use Rattle.std.specs.Prelude.{Option, Some, None, IsSome}
use Rattle.std.proofs.lemmas.List.{drop-append-le, length-drop, drop-drop}
use Rattle.thing_ops.specs.Requests.{RequestSeen}
use Rattle.http_wire.specs.Heads.{skipped}
use Rattle.http_wire.specs.Stream.{Front, IsFront}
use Rattle.http_bind.specs.declared.looking.MessageStep.{MessageStep}
use Rattle.http_bind.specs.declared.owed.Owed.{Owed}
use Rattle.http_bind.specs.Looking.{IsStep}
use Rattle.http_bind.specs.Replying.{is_head}
use Rattle.http_bind.specs.Streams.{Connection, opened_at, lengthened, rest_of, asks, wants_continue, is_faulty, to_take, bytes_used, asks_to_close, LetsTake, takes_front, HasNothing, IsSpent, after_reply}
use Rattle.http_bind.specs.Slots.{Held, Holds, HoldsIfOpen, held_at_opening, without_pairs, longer}
use Rattle.http_bind.specs.Shown.{after_answer}
use Rattle.http_bind.proofs.Skipping.{skipped_twice, skipped_alike, skipped_from}
use Rattle.http_bind.proofs.FrontsBehindPairs.{later, front_of_all, to_take_later, closes_later, used_later}

pub holds_opening : (now : ℕ) → Holds (held_at_opening now) (opened_at now)
holds_opening now = record { rest = refl; behind = λ is. refl; within = omega arith; continued = refl; owed = refl; active = refl }

pub holds_longer : (h : Held) (x : Connection) (piece : List ℕ) (now : ℕ) → Holds h x → Holds (longer piece now h) (lengthened piece now x)
holds_longer h x piece now a = record {
  rest = skipped_alike h.rest (drop x.taken x.stream) piece a.rest
      ∙ ap skipped (sym (drop-append-le x.taken x.stream piece a.within));
  behind = λ is. ap (λ (bytes : List ℕ). bytes ++ piece) (a.behind is) ∙ sym (drop-append-le x.taken x.stream piece a.within);
  within = omega (arith, a.within, length-append x.stream piece);
  continued = a.continued;
  owed = a.owed;
  active = refl;
}

isnt_some : (o : Option Owed) → o ≡ None → IsSome o → ⊥
isnt_some o is some = cc

-- the pairs in front are left out
pub holds_less : (h : Held) (x : Connection) → Holds h x → x.owed ≡ None → Holds (without_pairs h) x
holds_less h x a none = record {
  rest = skipped_twice h.rest ∙ a.rest;
  behind = λ some. absurd (isnt_some x.owed none some);
  within = a.within;
  continued = a.continued;
  owed = a.owed;
  active = a.active;
}

-- the front of the stream after what was taken, by that of what is left
pub record FrontOf (h : Held) (x : Connection) (f : Front) : Type 0 where
  pub place : ℕ
  pub place_is : place ≡ length (rest_of x) - length (skipped h.rest)
  pub front : IsFront (rest_of x) (later place f)
  pub same : to_take x.continued (later place f) ≡ to_take h.continued f

pub front_of_stream : (h : Held) (x : Connection) (f : Front) → Holds h x → IsFront (skipped h.rest) f → FrontOf h x f
front_of_stream h x f a front =
    let at : IsFront (skipped (rest_of x)) f = subst (λ (bytes : List ℕ). IsFront bytes f) a.rest front in
    let d : ℕ = length (rest_of x) - length (skipped (rest_of x)) in
    let same : d ≡ length (rest_of x) - length (skipped h.rest) = ap (λ (bytes : List ℕ). length (rest_of x) - length bytes) (sym a.rest) in
    record {
      place = d;
      place_is = same;
      front = front_of_all (rest_of x) f at;
      same = to_take_later d x.continued f ∙ ap (λ (c : Bool). to_take c f) (sym a.continued);
    }

pub has_nothing : (h : Held) (x : Connection) (f : Front) → Holds h x → x.owed ≡ None → IsFront (skipped h.rest) f → to_take h.continued f ≡ None → HasNothing (Some x)
has_nothing h x f a free front none =
    let at = front_of_stream h x f a front in
    subst (λ (o : Option Owed). IsSpent o x) (sym free) (later at.place f, at.front, at.same ∙ none)

pub lets_continue : (h : Held) (x : Connection) (f : Front) → Holds h x → x.owed ≡ None → IsFront (skipped h.rest) f → to_take h.continued f ≡ Some wants_continue →
    LetsTake wants_continue x (Some (record x { continued = true }))
lets_continue h x f a free front is = let at = front_of_stream h x f a front in takes_front (later at.place f) free at.front (at.same ∙ is) refl

pub lets_fault : (h : Held) (x : Connection) (f : Front) (status : ℕ) → Holds h x → x.owed ≡ None → IsFront (skipped h.rest) f → to_take h.continued f ≡ Some (is_faulty status) →
    LetsTake (is_faulty status) x (Some x)
lets_fault h x f status a free front is = let at = front_of_stream h x f a front in takes_front (later at.place f) free at.front (at.same ∙ is) refl

-- a connection after a request was taken, and what is held of it
pub record TakesRequest (h : Held) (x : Connection) (q : RequestSeen) (step : MessageStep) : Type 0 where
  pub after : Connection
  pub lets : LetsTake (asks q) x (Some after)
  pub holds : Holds (record h { rest = drop step.used (skipped h.rest); continued = false; owed = Some step.owed }) after

-- two that are owed alike
owed_alike : (o p : Owed) → o.bodiless ≡ p.bodiless → o.closes ≡ p.closes → o ≡ p
owed_alike o p bodiless closes = λ i. record { bodiless = bodiless i; closes = closes i }

pub takes_request : (h : Held) (x : Connection) (f : Front) (q : RequestSeen) (step : MessageStep) → Holds h x → x.owed ≡ None → IsFront (skipped h.rest) f →
    to_take h.continued f ≡ Some (asks q) → IsStep f q step → step.used ≤ length (skipped h.rest) → TakesRequest h x q step
takes_request h x f q step a free front is by within =
    let at = front_of_stream h x f a front in
    let used : bytes_used (later at.place f) ≡ at.place + step.used =
    used_later at.place h.continued f q is ∙ ap (λ (n : ℕ). at.place + n) (sym by.used) in
    let left : drop at.place (rest_of x) ≡ skipped h.rest =
    ap (λ (n : ℕ). drop n (rest_of x)) at.place_is ∙ skipped_from (rest_of x) (skipped h.rest) a.rest in
    let behind : drop (x.taken + bytes_used (later at.place f)) x.stream ≡ drop step.used (skipped h.rest) =
    ap (λ (n : ℕ). drop (x.taken + n) x.stream) used
    ∙ drop_sum x.taken (at.place + step.used) x.stream
    ∙ drop_sum at.place step.used (drop x.taken x.stream)
    ∙ ap (drop step.used) left in
    let shorter : at.place + length (skipped h.rest) ≤ length (rest_of x) = omega (arith, ap length left, length-drop at.place (rest_of x), at.place_is, within) in
    record {
      after = record x {
        taken = x.taken + bytes_used (later at.place f);
        continued = false;
        owed = Some (record { bodiless = is_head q.verb; closes = asks_to_close (later at.place f) });
      };
      lets = takes_front (later at.place f) free at.front (at.same ∙ is) refl;
      holds = record {
        rest = ap skipped (sym behind);
        behind = λ some. sym behind;
        within = omega (arith, used, shorter, within, a.within, length-drop x.taken x.stream);
        continued = refl;
        owed = ap (λ (o : Owed). Some o)
            (owed_alike step.owed (record { bodiless = is_head q.verb; closes = asks_to_close (later at.place f) }) by.bodiless (by.closes ∙ sym (closes_later at.place f)));
        active = a.active;
      };
    }
  where
    drop_sum : (m n : ℕ) (bytes : List ℕ) → drop (m + n) bytes ≡ drop n (drop m bytes)
    drop_sum m n bytes = sym (drop-drop n m bytes)

pub holds_reply : (h : Held) (x : Connection) (now : ℕ) (t : Bool) → Holds h x →
    HoldsIfOpen (after_answer t now h) (after_reply t now x)
holds_reply h x now true a = tt
holds_reply h x now false a = record { rest = a.rest; behind = λ some. absurd (isnt_some None refl some); within = a.within; continued = a.continued; owed = refl; active = refl }
