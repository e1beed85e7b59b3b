-- The message that is taken at a front, and the request of a whole one.
use Rattle.std.proofs.Common.{◌≡◌, ℕ, ◌&&◌, Bool, true, false, List, refl, sym, ap, subst, ◌∙◌, cond}
use Rattle.std.specs.Prelude.{Option, Some, None, option_map, not, is_some, IsSome}
use Rattle.thing_ops.specs.Requests.{RequestSeen}
use Rattle.thing_ops.specs.declared.verb.Verb.{Verb}
use Rattle.thing_ops.specs.declared.verb.Verb.TheVariants as verb
use Rattle.thing_ops.specs.contracts.verb.Verb.{the_type}
use denote.Enum.Bare.{sameb}
use Rattle.http_wire.specs.Targets.{segments_of}
use Rattle.http_wire.specs.declared.scanned.Head.{Head}
use Rattle.http_wire.specs.declared.scanned.Scanned.{Scanned}
use Rattle.http_wire.specs.declared.scanned.Scanned.TheVariants as scanned
use Rattle.http_wire.specs.Stream.{PlainHead, Front, message, IsFront}
use Rattle.http_wire.specs.Scanned.{plain_head, front_of}
use Rattle.http_wire.specs.Reading.{verb_of, request_at, asked}
use Rattle.http_bind.specs.declared.looking.HeldFront.{HeldFront}
use Rattle.http_bind.specs.declared.looking.HeldFront.TheVariants as seen
use Rattle.http_bind.specs.Replying.{is_head, fault_word}
use Rattle.http_bind.specs.Streams.{wants_continue, is_faulty, read_as, expected, found, to_take}
use Rattle.http_bind.specs.Looking.{IsMessageStep, ShowsMessage, Fits, Shows}

pub takes_continue : (continued : Bool) (f : Front) (t : Bool) → t ≡ (expected f && not continued) → t ≡ true → to_take continued f ≡ Some wants_continue
takes_continue continued f t is holds = ap (λ (u : Bool). cond u (Some wants_continue) (found f)) (sym is ∙ holds)

pub takes_found : (continued : Bool) (f : Front) (t : Bool) → t ≡ (expected f && not continued) → t ≡ false → to_take continued f ≡ found f
takes_found continued f t is holds = ap (λ (u : Bool). cond u (Some wants_continue) (found f)) (sym is ∙ holds)

verb_at : (h : PlainHead) (body : List ℕ) (r : Option (List (List ℕ))) (q : RequestSeen) → option_map (request_at h body) r ≡ Some q → q.verb ≡ verb_of h.method
verb_at h body None q is = absurd cc
verb_at h body (Some path) q is = let same : request_at h body path ≡ q = cc in ap (λ (p : RequestSeen). p.verb) (sym same)

-- a comparison with HEAD
pub same_as_head : (v : Verb) → sameb the_type v verb.Head ≡ is_head v
same_as_head verb.Get = refl
same_as_head verb.Head = refl
same_as_head verb.Put = refl
same_as_head verb.Post = refl
same_as_head verb.Patch = refl
same_as_head verb.Delete = refl
same_as_head verb.Other = refl

-- a step takes a message
pub message_step : (h : PlainHead) (body : List ℕ) (n : ℕ) (q : RequestSeen) (bodiless : Bool) → asked h body ≡ Some q → bodiless ≡ is_head (verb_of h.method) →
    IsMessageStep h n q (record { used = n; owed = record { bodiless = bodiless; closes = h.close } })
message_step h body n q bodiless is head = record {
  used = refl;
  bodiless = head ∙ ap is_head (sym (verb_at h body (segments_of h.target) q is));
  closes = refl;
}

-- an option that is there holds something
pub something : {A : Type 0} (r : Option A) → is_some r ≡ true → (x : A) × (r ≡ Some x)
something None is = absurd cc
something (Some x) is = (x, refl)

-- a whole message at the front can be taken for what it is taken for
pub shows_message : (continued : Bool) (h : PlainHead) (body : List ℕ) (used : ℕ) (expect : Bool) (what : HeldFront) (room : List ℕ) →
    to_take continued (message h body used expect) ≡ found (message h body used expect) → ShowsMessage h body used what room →
    Fits continued (message h body used expect) what room
shows_message continued h body used expect seen.Nothing room is shows = absurd shows
shows_message continued h body used expect seen.Interrupted room is shows = absurd shows
shows_message continued h body used expect seen.Continue room is shows = absurd shows
shows_message continued h body used expect (seen.Fault status) room is shows = (
  is ∙ ap (λ (r : Option RequestSeen). Some (read_as r)) shows.0 ∙ ap (λ (n : ℕ). Some (is_faulty n)) (sym shows.1),
  subst (λ (n : ℕ). IsSome (fault_word n)) (sym shows.1) refl,
)
shows_message continued h body used expect (seen.Message step parts) room is shows = (
  shows.0,
  is ∙ ap (λ (r : Option RequestSeen). Some (read_as r)) shows.1,
  record { used = shows.2.used; bodiless = shows.2.bodiless; closes = shows.2.closes },
  shows.3,
)

-- and so where it was scanned
pub shows_whole : (continued : Bool) (bytes : List ℕ) (s : Scanned) (head : Head) (body : List ℕ) (used : ℕ) (expect t : Bool) (what : HeldFront) (room : List ℕ) →
    s ≡ scanned.Whole head body used expect → IsFront bytes (front_of s) → t ≡ (expected (front_of s) && not continued) → t ≡ false →
    ShowsMessage (plain_head head) body used what room → Shows continued bytes what room
shows_whole continued bytes s head body used expect t what room is front asks none shows = (
  front_of (scanned.Whole head body used expect),
  subst (λ (r : Scanned). IsFront bytes (front_of r)) is front,
  shows_message continued (plain_head head) body used expect what room
      (subst (λ (r : Scanned). to_take continued (front_of r) ≡ found (front_of r)) is (takes_found continued (front_of s) t asks none)) shows,
)
