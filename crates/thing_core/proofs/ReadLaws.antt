-- Reads of properties as moves of the Thing machine.
use Rattle.std.proofs.Common.{◌≡◌, ℕ, List, [], ◌∷◌, ◌++◌, length, Bool, true, refl, sym, ap, subst, ◌∙◌, append_assoc, arith, inl, inr}
use Rattle.std.specs.Prelude.{Option, Result, Ok, Err, codes, nat_lt, if◌then◌else◌}
use Rattle.std.proofs.lemmas.List.{append-nil}
use Rattle.std.proofs.lemmas.Bool.{lt-ltb}
use Rattle.servient_base.specs.Moves.{Makes, Stays}
use Rattle.wot_json.specs.Tree.{Json, members_of}
use Rattle.wot_json.specs.Json.{text_of, more_members_text, json_string}
use Rattle.wot_json.specs.Meaning.{json_of}
use Rattle.wot_json.specs.declared.tree.Tree.{Tree}
use Rattle.thing_ops.specs.declared.conditions.Conditions.{Conditions}
use Rattle.thing_ops.specs.declared.outcome.Outcome.{Outcome}
use Rattle.thing_ops.specs.declared.outcome.Outcome.TheVariants as outcome
use Rattle.thing_handler.specs.declared.handler.CallKind.TheVariants as call
use Rattle.thing_handler.specs.declared.handler.Answer.TheVariants as answer
use Rattle.thing_handler.specs.Handler.{Seen}
use Rattle.thing_handler.specs.Turns.{RackShows}
use Rattle.thing_site.specs.Site.{Placed}
use Rattle.thing_state.specs.State.{version_of}
use Rattle.thing_state.specs.Course.{Course}
use Rattle.thing_state.specs.Calls.{Move, Called, no_number, no_memory, gives, IsTaken, IsUnanswered, MakesCall}
use Rattle.thing_core.specs.Thing.{Done, only, GivesValue, outcome_of_read, with_value, Reads, ReadsEach}
use Rattle.thing_core.specs.Performing.{IsValueOf, MakesDone, OrMemory, Leads, open_object, with_member}
use Rattle.thing_core.proofs.MoveLaws.{done_alone, or_memory, leads_value, leads_end, made_unseen}

-- a value is taken, or it isn't
pub value_taken : (schema : Option Json) (called : Called) (tree : Tree) → called ≡ gives (answer.Value tree) → IsTaken schema (json_of tree) → GivesValue schema called (Ok (json_of tree))
value_taken schema called tree e taken = subst (λ (x : Called). GivesValue schema x (Ok (json_of tree))) (sym e) (inl (taken, refl))

pub value_refused : (schema : Option Json) (called : Called) (tree : Tree) → called ≡ gives (answer.Value tree) → ¬ (IsTaken schema (json_of tree)) → GivesValue schema called (Err outcome.BadAnswer)
value_refused schema called tree e refused = subst (λ (x : Called). GivesValue schema x (Err outcome.BadAnswer)) (sym e) (inr (refused, refl))

-- there is no answer, and so no value
pub unanswered_value : (called : Called) (o : Outcome) → IsUnanswered called o → IsValueOf called (Err o)
unanswered_value no_number o e = λ schema. ap Err e
unanswered_value no_memory o e = λ schema. ap Err e
unanswered_value (gives answer) o e = absurd e

-- a property is read by one call
pub read_done : (p : Placed) (q : Conditions) (called : Called) (r : Result Json Outcome) (o : Outcome) (c d e : Course) (a b : List Seen) → MakesCall p.slot call.Read called c d a b
    → GivesValue p.affordance.output called r → e.state ≡ with_value p r d.state → e.pending ≡ d.pending → o ≡ outcome_of_read q (version_of p.slot e.state.versions) r
    → MakesDone (OrMemory (Reads p q)) o c e a b
read_done p q called r o c d e a b k given sees pending is =
    or_memory (Reads p q) o c e a b
    (done_alone (Reads p q) o c e a b
    (record {
      seen = k.made.seen;
      move = (
        r,
        ap only is,
        (
          called,
          record {
            mid = d.state;
            first = k.made.seen;
            second = [];
            one = k.made.move;
            other = (given, record { next = sees; saw = refl });
            whole = sym (append-nil k.made.seen);
          },
        ),
      );
      shows = k.made.shows;
    }) (pending ∙ k.pending))

-- ---- several

-- the move after a value that was given among others, or wasn't
abbrev pub AfterValue : Placed → List Placed → List (List ℕ × Json) → Done → Result Json Outcome → Move
AfterValue p ps got done r =
    elim r as (λ _. Move) [
      | Ok value ↦ ReadsEach ps (got ++ (p.affordance.name, value) ∷ []) done
      | Err o ↦ λ u after v. (done ≡ only o) × Stays u after v
    ]

-- the next one is given
pub read_goes_on : (p : Placed) (ps : List Placed) (got : List (List ℕ × Json)) (called : Called) (value : Json) (c d e : Course) (a b : List Seen) → MakesCall p.slot call.Read called c d a b
    → GivesValue p.affordance.output called (Ok value) → e.state ≡ with_value p (Ok value) d.state
    → Leads (ReadsEach ps (got ++ (p.affordance.name, value) ∷ [])) (ReadsEach (p ∷ ps) got) c.state e.state a b
read_goes_on p ps got called value c d e a b k given sees = leads_value (AfterValue p ps got) p called (Ok value) c d e a b k given sees

-- it isn't, and all stops there
pub read_stops : (p : Placed) (ps : List Placed) (got : List (List ℕ × Json)) (called : Called) (o : Outcome) (c d : Course) (a b : List Seen) → MakesCall p.slot call.Read called c d a b
    → GivesValue p.affordance.output called (Err o) → Makes RackShows (ReadsEach (p ∷ ps) got (only o)) c.state d.state a b
read_stops p ps got called o c d a b k given =
    leads_end (λ (done : Done). AfterValue p ps got done (Err o)) (ReadsEach (p ∷ ps) got) (only o) c.state d.state d.state a b b
    (leads_value (AfterValue p ps got) p called (Err o) c d d a b k given refl)
    (made_unseen (AfterValue p ps got (only o) (Err o)) d.state d.state b (refl, record { next = refl; saw = refl }))

-- ---- the text of an object, member by member

-- several texts after one that two make
after_both : (x m a b c d : List ℕ) → x ++ (m ++ a ++ b ++ c ++ d) ≡ x ++ m ++ a ++ b ++ c ++ d
after_both x m a b c d =
    sym (append_assoc x (m ++ a ++ b ++ c) d)
    ∙ ap (λ (l : List ℕ). l ++ d) (sym (append_assoc x (m ++ a ++ b) c)
    ∙ ap (λ (l : List ℕ). l ++ c) (sym (append_assoc x (m ++ a) b) ∙ ap (λ (l : List ℕ). l ++ b) (sym (append_assoc x m a))))

further : (ms : List (List ℕ × Json)) (n : List ℕ) (v : Json)
    → more_members_text (members_of (ms ++ (n, v) ∷ [])) ≡ more_members_text (members_of ms) ++ codes "," ++ json_string n ++ codes ":" ++ text_of v
further [] n v = append-nil (codes "," ++ json_string n ++ codes ":" ++ text_of v)
further (m ∷ ms) n v =
    ap (λ (l : List ℕ). codes "," ++ json_string m.0 ++ codes ":" ++ text_of m.1 ++ l) (further ms n v)
    ∙ after_both (codes "," ++ json_string m.0 ++ codes ":" ++ text_of m.1) (more_members_text (members_of ms)) (codes ",") (json_string n) (codes ":") (text_of v)

pub open_more : (ms : List (List ℕ × Json)) (n : List ℕ) (v : Json) → open_object (ms ++ (n, v) ∷ []) ≡ with_member (open_object ms) (json_string n) (text_of v)
open_more [] n v = ap (λ (l : List ℕ). codes "{" ++ l) (append-nil (json_string n ++ codes ":" ++ text_of v))
open_more (m ∷ ms) n v =
    let longer : nat_lt 1 (length (open_object (m ∷ ms))) ≡ true = lt-ltb 1 (length (open_object (m ∷ ms))) (omega arith) in
    ap (λ (l : List ℕ). codes "{" ++ (json_string m.0 ++ codes ":" ++ text_of m.1 ++ l)) (further ms n v)
    ∙ ap (λ (l : List ℕ). codes "{" ++ l)
    (after_both (json_string m.0 ++ codes ":" ++ text_of m.1) (more_members_text (members_of ms)) (codes ",") (json_string n) (codes ":") (text_of v))
    ∙ ap (λ (b : Bool). open_object (m ∷ ms) ++ (if b then codes "," else []) ++ json_string n ++ codes ":" ++ text_of v) (sym longer)
