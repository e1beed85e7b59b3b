-- Properties that are read one after another.
use Rattle.std.proofs.Common.{◌≡◌, ℕ, ◌≤◌, List, [], ◌∷◌, ◌++◌, length, refl, ap, ◌∙◌, arith}
use Rattle.std.specs.Prelude.{Some, None, codes}
use Rattle.wot_json.specs.Tree.{Json}
use Rattle.thing_ops.specs.declared.outcome.Outcome.{Outcome}
use Rattle.thing_ops.specs.declared.outcome.Outcome.TheVariants as outcome
use Rattle.thing_handler.specs.Handler.{Seen}
use Rattle.thing_site.specs.Site.{Placed}
use Rattle.thing_state.specs.Course.{Course}
use Rattle.thing_core.specs.Thing.{only, ReadsEach}
use Rattle.thing_core.specs.Performing.{Leads, MakesDone, ReadsOne, open_object, room_of_all}
use Rattle.thing_core.proofs.MoveLaws.{done_alone, leads_none, leads_then, leads_end, made_unseen}

-- of all these, some were read, and these are left
pub record ReadSoFar (all left : List Placed) (text : List ℕ) (c d : Course) (a b : List Seen) : Type 0 where
  pub members : List (List ℕ × Json)
  pub written : text ≡ open_object members
  pub pending : d.pending ≡ c.pending
  pub slots : length b ≡ length a
  pub leads : Leads (ReadsEach left members) (ReadsEach all []) c.state d.state a b

pub none_read : (all : List Placed) (text : List ℕ) (c : Course) (a : List Seen) → text ≡ codes "{" → ReadSoFar all all text c c a a
none_read all text c a is = record { members = []; written = is; pending = refl; slots = refl; leads = leads_none (ReadsEach all []) c.state a }

pub one_read : (all left : List Placed) (p : Placed) (text later : List ℕ) (c d e : Course) (a b x : List Seen) → ReadSoFar all (p ∷ left) text c d a b
    → ReadsOne p None text later d e b x → e.pending ≡ d.pending → length x ≡ length b → ReadSoFar all left later c e a x
one_read all left p text later c d e a b x far one pending slots =
    let next = one far.members far.written in
    record {
      members = far.members ++ (p.affordance.name, next.0) ∷ [];
      written = next.1;
      pending = pending ∙ far.pending;
      slots = slots ∙ far.slots;
      leads = leads_then (ReadsEach left (far.members ++ (p.affordance.name, next.0) ∷ [])) (ReadsEach (p ∷ left) far.members) (ReadsEach all []) c.state d.state e.state a b x far.leads (next.2 left);
    }

pub one_fails : (all left : List Placed) (p : Placed) (o : Outcome) (text later : List ℕ) (c d e : Course) (a b x : List Seen) → ReadSoFar all (p ∷ left) text c d a b
    → ReadsOne p (Some o) text later d e b x → e.pending ≡ d.pending → MakesDone (ReadsEach all []) o c e a x
one_fails all left p o text later c d e a b x far one pending =
    done_alone (ReadsEach all []) o c e a x
    (leads_end (ReadsEach (p ∷ left) far.members) (ReadsEach all []) (only o) c.state d.state e.state a b x far.leads (one left far.members)) (pending ∙ far.pending)

pub all_read : (all : List Placed) (text whole : List ℕ) (c d : Course) (a b : List Seen) → ReadSoFar all [] text c d a b → whole ≡ text ++ codes "}"
    → MakesDone (ReadsEach all []) (outcome.Content whole None) c d a b
all_read all text whole c d a b far is =
    let written : whole ≡ open_object far.members ++ codes "}" = is ∙ ap (λ (l : List ℕ). l ++ codes "}") far.written in
    done_alone (ReadsEach all []) (outcome.Content whole None) c d a b
    (leads_end (ReadsEach [] far.members) (ReadsEach all []) (only (outcome.Content whole None)) c.state d.state d.state a b b far.leads
    (made_unseen (ReadsEach [] far.members (only (outcome.Content whole None))) d.state d.state b (ap (λ (l : List ℕ). only (outcome.Content l None)) written, record { next = refl; saw = refl })))
    far.pending

pub two_or_more : (fields : List Placed) → 2 ≤ room_of_all fields
two_or_more [] = omega arith
two_or_more (f ∷ fields) = omega (arith, two_or_more fields)
