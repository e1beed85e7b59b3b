-- However the machine moves, versions see texts one after another, and count turns.
use Rattle.std.proofs.Common.{◌≡◌, ℕ, ◌+◌, ◌≤◌, List, [], ◌∷◌, ◌++◌, Bool, true, false, cond, refl, sym, ap, subst, ◌∙◌, arith, inl, inr}
use Rattle.std.specs.Prelude.{◌==◌, ◌&&◌, Result, Ok, Err, Option, Some, None, option_map}
use Rattle.servient_base.specs.Moves.{Then}
use Rattle.wot_json.specs.Tree.{Json}
use Rattle.wot_json.specs.Json.{text_of}
use Rattle.wot_json.specs.declared.tree.Tree.{Tree}
use Rattle.thing_ops.specs.declared.outcome.Outcome.{Outcome}
use Rattle.thing_ops.specs.Requests.{RequestSeen}
use Rattle.thing_handler.specs.declared.handler.CallKind.{CallKind}
use Rattle.thing_handler.specs.declared.handler.CallKind.TheVariants as call
use Rattle.thing_handler.specs.declared.handler.Answer.{Answer}
use Rattle.thing_handler.specs.declared.handler.Answer.TheVariants as answer
use Rattle.thing_handler.specs.Turns.{HandlerCall, answered, missed}
use Rattle.thing_site.specs.Site.{Placed, Site}
use Rattle.thing_state.specs.State.{Status, running, completed, State, Emission, Version, is_last_seen, after_text, versions_after, version_of, most_turns}
use Rattle.thing_site.specs.declared.place.ThingAct.{ThingAct}
use Rattle.thing_site.specs.declared.place.ThingAct.TheVariants.{Describes as describes, ReadsAll as reads_all, WritesMany as writes_many, Reads as reads, Writes as writes, Invokes as invokes, Queries as queries, Cancels as cancels, ReadsEvent as reads_event, Waits as waits}
use Rattle.thing_site.specs.Refusals.{Input}
use Rattle.thing_core.specs.Thing.{Done, GivesValue, ReadsValue, with_value, ReadsEach, SeesWritten, emissions_of_write, Stops, IfDone, WritesEach, IsInvoked, IsQueried, Queries, IsCancelled, Cancels, Performs, Acts, refuses, has_no_memory, performs, PollsEach}
use Rattle.thing_state.specs.Calls.{Called, no_number, no_memory, gives, failure_of, Calls}
use Rattle.thing_core.specs.Runs.{Deed, asks, polls, DoesAll, version_in, after_texts, changes, SeesTexts, IsLater, reads_or_writes, reads_and_writes}
use Rattle.thing_core.proofs.ReadLaws.{AfterValue}
use Rattle.thing_state.proofs.VersionLists.{one_more_at_most, others_stay, seen_within}

-- ---- texts that are seen

-- one more text
more_texts : (text : List ℕ) (texts : List (List ℕ)) (v : Version) → IsLater (after_text text v) (after_texts texts (after_text text v)) → IsLater v (after_texts (text ∷ texts) v)
more_texts text texts v later = by_test (is_last_seen text v) later
  where
    by_test : (b : Bool) → IsLater (cond b v (record v { number = v.number + 1; text = Some text })) (after_texts texts (cond b v (record v { number = v.number + 1; text = Some text })))
        → IsLater v (after_texts texts (cond b v (record v { number = v.number + 1; text = Some text })))
    by_test true rest = rest
    by_test false rest = (omega (arith, rest.0), λ same. absurd (omega (arith, rest.0, same)))

pub texts_make_versions : (texts : List (List ℕ)) (v : Version) → IsLater v (after_texts texts v)
texts_make_versions [] v = (omega arith, λ same. refl)
texts_make_versions (text ∷ texts) v = more_texts text texts v (texts_make_versions texts (after_text text v))

pub texts_counted : (texts : List (List ℕ)) (v : Version) → (after_texts texts v).number ≡ v.number + changes texts v
texts_counted [] v = omega arith
texts_counted (text ∷ texts) v = by_test (is_last_seen text v) (texts_counted texts (after_text text v))
  where
    newer : Version
    newer = record v { number = v.number + 1; text = Some text }

    by_test : (b : Bool) → (after_texts texts (cond b v newer)).number ≡ (cond b v newer).number + changes texts (cond b v newer)
        → (after_texts texts (cond b v newer)).number ≡ v.number + (cond b 0 1 + changes texts (cond b v newer))
    by_test true rest = omega (arith, rest)
    by_test false rest = omega (arith, rest)

two_parts : (a b : List (List ℕ)) (v : Version) → after_texts b (after_texts a v) ≡ after_texts (a ++ b) v
two_parts [] b v = refl
two_parts (text ∷ a) b v = two_parts a b (after_text text v)

two_parts_of : (a b : List (List ℕ)) (o : Option Version) → option_map (after_texts b) (option_map (after_texts a) o) ≡ option_map (after_texts (a ++ b)) o
two_parts_of a b None = refl
two_parts_of a b (Some v) = ap Some (two_parts a b v)

no_texts : (o : Option Version) → o ≡ option_map (after_texts []) o
no_texts None = refl
no_texts (Some v) = refl

-- a text that is seen of one property leaves the others
abbrev OneSeen : List ℕ → ℕ → Version → List Version → List Version → Type 0
OneSeen text slot v vs new = (texts : List (List ℕ)) × (version_in slot new ≡ option_map (after_texts texts) (version_in slot (v ∷ vs)))

first_seen : (text : List ℕ) (slot : ℕ) (v : Version) (vs : List Version) → OneSeen text slot v vs (after_text text v ∷ vs)
first_seen text slot v vs = by_last (is_last_seen text v) refl
  where
    newer : Version
    newer = record v { number = v.number + 1; text = Some text }

    by_slot : is_last_seen text v ≡ false → (b : Bool)
        → (texts : List (List ℕ)) × (cond b (Some newer) (version_in slot vs) ≡ option_map (after_texts texts) (cond b (Some v) (version_in slot vs)))
    by_slot e true = (text ∷ [], ap (λ (l : Bool). Some (cond l v newer)) (sym e))
    by_slot e false = ([], no_texts (version_in slot vs))

    by_last : (l : Bool) → is_last_seen text v ≡ l → OneSeen text slot v vs (cond l v newer ∷ vs)
    by_last true e = ([], no_texts (version_in slot (v ∷ vs)))
    by_last false e = by_slot e (v.slot == slot)

one_seen : (at : ℕ) (text : List ℕ) (slot : ℕ) (vs : List Version) → (texts : List (List ℕ)) × (version_in slot (versions_after at text vs) ≡ option_map (after_texts texts) (version_in slot vs))
one_seen at text slot [] = ([], refl)
one_seen at text slot (v ∷ vs) = by_place (one_seen at text slot vs) (v.slot == at)
  where
    by_slot : (texts : List (List ℕ)) × (version_in slot (versions_after at text vs) ≡ option_map (after_texts texts) (version_in slot vs)) → (b : Bool)
        → (texts : List (List ℕ)) × (cond b (Some v) (version_in slot (versions_after at text vs)) ≡ option_map (after_texts texts) (cond b (Some v) (version_in slot vs)))
    by_slot rest true = ([], refl)
    by_slot rest false = rest

    by_place : (texts : List (List ℕ)) × (version_in slot (versions_after at text vs) ≡ option_map (after_texts texts) (version_in slot vs)) → (b : Bool)
        → OneSeen text slot v vs (cond b (after_text text v ∷ vs) (v ∷ versions_after at text vs))
    by_place rest true = first_seen text slot v vs
    by_place rest false = by_slot rest (v.slot == slot)

-- ---- reads and writes that are counted

pub reads_of_both : (slot : ℕ) (a b : List HandlerCall) → reads_and_writes slot (a ++ b) ≡ reads_and_writes slot a + reads_and_writes slot b
reads_of_both slot [] b = omega arith
reads_of_both slot (answered turn ∷ a) b = more (cond ((turn.slot == slot) && reads_or_writes turn.what) 1 0) (reads_of_both slot a b)
  where
    more : (n : ℕ) → reads_and_writes slot (a ++ b) ≡ reads_and_writes slot a + reads_and_writes slot b
        → n + reads_and_writes slot (a ++ b) ≡ (n + reads_and_writes slot a) + reads_and_writes slot b
    more n e = omega (arith, e)
reads_of_both slot (missed other ∷ a) b = reads_of_both slot a b

-- one text is seen with one of these
one_is_counted : (slot : ℕ) (what : CallKind) (text : List ℕ) (vs : List Version) (k : ℕ) → reads_or_writes what ≡ true
    → version_of k (versions_after slot text vs) ≤ version_of k vs + (cond ((slot == k) && reads_or_writes what) 1 0 + 0)
one_is_counted slot what text vs k counts = rw counts (by_test (slot == k) refl)
  where
    by_test : (b : Bool) → (slot == k) ≡ b → version_of k (versions_after slot text vs) ≤ version_of k vs + (cond (b && true) 1 0 + 0)
    by_test true e = omega (arith, one_more_at_most slot text vs k)
    by_test false e = omega (arith, others_stay slot text vs k e)

-- ---- from one state to another

-- versions count turns of the run, which has no more than it may
pub record IsWithin (s : State) : Type 0 where
  pub versions : (slot : ℕ) → version_of slot s.versions ≤ s.left_out + s.turns
  pub turns : s.turns ≤ most_turns s.left_out

-- of each property texts were seen, one at most with each turn that reads or writes it; versions count turns still; and
-- the same versions are left out
pub record Grows (s : State) (seen : List HandlerCall) (t : State) : Type 0 where
  pub sees : (slot : ℕ) → SeesTexts slot s t
  pub counts : (slot : ℕ) → version_of slot t.versions ≤ version_of slot s.versions + reads_and_writes slot seen
  pub within : IsWithin s → IsWithin t
  pub left_out : t.left_out ≡ s.left_out

within_by : (s t : State) → t.versions ≡ s.versions → t.turns ≡ s.turns → t.left_out ≡ s.left_out → IsWithin s → IsWithin t
within_by s t vs turns left w = record {
  versions = λ slot. omega (arith, ap (version_of slot) vs, turns, left, w.versions slot);
  turns = omega (arith, turns, ap most_turns left, w.turns);
}

-- a step that neither is a turn nor sees a text
grows_by : (s : State) (seen : List HandlerCall) (t : State) → t.versions ≡ s.versions → t.turns ≡ s.turns → t.left_out ≡ s.left_out → Grows s seen t
grows_by s seen t vs turns left = record {
  sees = λ slot. ([], ap (version_in slot) vs ∙ no_texts (version_in slot s.versions));
  counts = λ slot. omega (arith, ap (version_of slot) vs);
  within = within_by s t vs turns left;
  left_out = left;
}

stays : (s : State) (seen : List HandlerCall) (t : State) → t ≡ s → Grows s seen t
stays s seen t e = grows_by s seen t (ap (λ (x : State). x.versions) e) (ap (λ (x : State). x.turns) e) (ap (λ (x : State). x.left_out) e)

becomes : (s : State) (seen : List HandlerCall) (t u : State) → t ≡ u → u.versions ≡ s.versions → u.turns ≡ s.turns → u.left_out ≡ s.left_out → Grows s seen t
becomes s seen t u e vs turns left =
    grows_by s seen t (ap (λ (x : State). x.versions) e ∙ vs) (ap (λ (x : State). x.turns) e ∙ turns) (ap (λ (x : State). x.left_out) e ∙ left)

pub then_grows : (s u t : State) (first second seen : List HandlerCall) → seen ≡ first ++ second → Grows s first u → Grows u second t → Grows s seen t
then_grows s u t first second seen whole one other = record {
  sees = λ slot.
      let a = one.sees slot in
      let b = other.sees slot in
      (a.0 ++ b.0, b.1 ∙ ap (option_map (after_texts b.0)) a.1 ∙ two_parts_of a.0 b.0 (version_in slot s.versions));
  counts = λ slot. omega (arith, one.counts slot, other.counts slot, ap (reads_and_writes slot) whole, reads_of_both slot first second);
  within = λ w. other.within (one.within w);
  left_out = other.left_out ∙ one.left_out;
}

-- a call is a turn at most
call_grows : (slot : ℕ) (what : CallKind) (called : Called) (s : State) (seen : List HandlerCall) (t : State) → Calls slot what called s seen t → Grows s seen t
call_grows slot what no_number s seen t p = stays s seen t p.1.next
call_grows slot what no_memory s seen t p = stays s seen t p.1.next
call_grows slot what (gives a) s seen t p =
    let vs : t.versions ≡ s.versions = ap (λ (x : State). x.versions) p.1.next in
    let turns : t.turns ≡ s.turns + 1 = ap (λ (x : State). x.turns) p.1.next in
    let left : t.left_out ≡ s.left_out = ap (λ (x : State). x.left_out) p.1.next in
    record {
      sees = λ at. ([], ap (version_in at) vs ∙ no_texts (version_in at s.versions));
      counts = λ at. omega (arith, ap (version_of at) vs);
      within = λ w. record {
        versions = λ at. omega (arith, ap (version_of at) vs, turns, left, w.versions at);
        turns = omega (arith, turns, ap most_turns left, p.0);
      };
      left_out = left;
    }

-- after a read or a write that was answered a text is seen
seen_grows : (slot : ℕ) (what : CallKind) (a : Answer) (text : List ℕ) (s : State) (seen : List HandlerCall) (m t : State) → reads_or_writes what ≡ true
    → Calls slot what (gives a) s seen m → t.versions ≡ versions_after slot text m.versions → t.turns ≡ m.turns → t.left_out ≡ m.left_out → Grows s seen t
seen_grows slot what a text s seen m t counted p vs same kept =
    let before : m.versions ≡ s.versions = ap (λ (x : State). x.versions) p.1.next in
    let turns : t.turns ≡ s.turns + 1 = same ∙ ap (λ (x : State). x.turns) p.1.next in
    let left : t.left_out ≡ s.left_out = kept ∙ ap (λ (x : State). x.left_out) p.1.next in
    let whole : t.versions ≡ versions_after slot text s.versions = vs ∙ ap (versions_after slot text) before in
    record {
      sees = λ k. let one = one_seen slot text k s.versions in (one.0, ap (version_in k) whole ∙ one.1);
      counts = λ k. omega (arith, ap (version_of k) whole, ap (reads_and_writes k) p.1.saw, one_is_counted slot what text s.versions k counted);
      within = λ w. record {
        versions = λ k. omega (
          arith,
          ap (version_of k) whole,
          turns,
          left,
          seen_within slot text s.versions (s.left_out + s.turns + 1) (λ j. omega (arith, w.versions j)) k,
        );
        turns = omega (arith, turns, ap most_turns left, p.0);
      };
      left_out = left;
    }

-- ---- properties

value_grows : (p : Placed) (called : Called) (r : Result Json Outcome) (s : State) (seen : List HandlerCall) (m t : State) → Calls p.slot call.Read called s seen m
    → GivesValue p.affordance.output called r → t ≡ with_value p r m → Grows s seen t
value_grows p (gives a) (Ok value) s seen m t made given e =
    seen_grows p.slot call.Read a (text_of value) s seen m t refl made (ap (λ (x : State). x.versions) e) (ap (λ (x : State). x.turns) e) (ap (λ (x : State). x.left_out) e)
value_grows p no_number (Ok value) s seen m t made given e = absurd cc
value_grows p no_memory (Ok value) s seen m t made given e = absurd cc
value_grows p called (Err o) s seen m t made given e = subst (Grows s seen) (sym e) (call_grows p.slot call.Read called s seen m made)

read_grows : (p : Placed) (r : Result Json Outcome) (s : State) (seen : List HandlerCall) (t : State) → ReadsValue p r s seen t → Grows s seen t
read_grows p r s seen t q =
    then_grows s t t q.1.first q.1.second seen q.1.whole (value_grows p q.0 r s q.1.first q.1.mid t q.1.one q.1.other.0 q.1.other.1.next) (stays t q.1.second t refl)

reads_grow : (ps : List Placed) (got : List (List ℕ × Json)) (done : Done) (s : State) (seen : List HandlerCall) (t : State) → ReadsEach ps got done s seen t → Grows s seen t
reads_grow [] got done s seen t q = stays s seen t q.1.next
reads_grow (p ∷ ps) got done s seen t q =
    then_grows s q.1.mid t q.1.first q.1.second seen q.1.whole (read_grows p q.0 s q.1.first q.1.mid q.1.one)
    (after (λ more. reads_grow ps more done q.1.mid q.1.second t) q.0 q.1.other)
  where
    after : ((more : List (List ℕ × Json)) → ReadsEach ps more done q.1.mid q.1.second t → Grows q.1.mid q.1.second t) → (r : Result Json Outcome) → AfterValue p ps got done r q.1.mid q.1.second t
        → Grows q.1.mid q.1.second t
    after further (Ok value) x = further (got ++ (p.affordance.name, value) ∷ []) x
    after further (Err o) x = stays q.1.mid q.1.second t x.1.next

write_grows : (i : Input) (is : List Input) (emitted : List Emission) (done : Done) (tree : Tree) (called : Called) (s : State) (first : List HandlerCall) (m : State) (second : List HandlerCall) (t : State)
    → ((u : State) (seen : List HandlerCall) → WritesEach is (emitted ++ emissions_of_write i) done u seen t → Grows u seen t)
    → Calls i.affordance.slot (call.Write tree) called s first m
    → IfDone called (Then (SeesWritten i) (WritesEach is (emitted ++ emissions_of_write i) done)) (Stops (failure_of called) emitted done) m second t → Grows s (first ++ second) t
write_grows i is emitted done tree (gives answer.Done) s first m second t further made x =
    then_grows s x.mid t first second (first ++ second) refl
    (seen_grows i.affordance.slot (call.Write tree) answer.Done (text_of i.value) s first m x.mid refl made (ap (λ (y : State). y.versions) x.one.next) (ap (λ (y : State). y.turns) x.one.next)
    (ap (λ (y : State). y.left_out) x.one.next))
    (then_grows x.mid x.mid t x.first x.second second x.whole (stays x.mid x.first x.mid refl) (further x.mid x.second x.other))
write_grows i is emitted done tree called s first m second t further made x =
    then_grows s m t first second (first ++ second) refl (call_grows i.affordance.slot (call.Write tree) called s first m made) (stays m second t x.1.next)

writes_grow : (is : List Input) (emitted : List Emission) (done : Done) (s : State) (seen : List HandlerCall) (t : State) → WritesEach is emitted done s seen t → Grows s seen t
writes_grow [] emitted done s seen t q = stays s seen t q.1.next
writes_grow (i ∷ is) emitted done s seen t q =
    subst (λ (calls : List HandlerCall). Grows s calls t) (sym q.2.1.whole)
    (write_grows i is emitted done q.0 q.2.0 s q.2.1.first q.2.1.mid q.2.1.second t
    (λ u after further. writes_grow is (emitted ++ emissions_of_write i) done u after t further) q.2.1.one q.2.1.other)

-- ---- actions

invoked_grows : (p : Placed) (path : List (List ℕ)) (id : ℕ) (done : Done) (called : Called) (s : State) (seen : List HandlerCall) (t : State) → IsInvoked p path id done called s seen t → Grows s seen t
invoked_grows p path id done (gives answer.Started) s seen t x = becomes s seen t _ x.1.next refl refl refl
invoked_grows p path id done (gives (answer.Finished None)) s seen t x = becomes s seen t _ x.1.next refl refl refl
invoked_grows p path id done (gives (answer.Finished (Some tree))) s seen t x = becomes s seen t _ x.1.next refl refl refl
invoked_grows p path id done called s seen t x = becomes s seen t _ x.1.next refl refl refl

queried_grows : (p : Placed) (id : ℕ) (done : Done) (called : Called) (s : State) (seen : List HandlerCall) (t : State) → IsQueried p id done called s seen t → Grows s seen t
queried_grows p id done (gives answer.Running) s seen t x = stays s seen t x.1.next
queried_grows p id done (gives (answer.Finished None)) s seen t x = becomes s seen t _ x.1.next refl refl refl
queried_grows p id done (gives (answer.Finished (Some tree))) s seen t (inl x) = becomes s seen t _ x.1.1.next refl refl refl
queried_grows p id done (gives (answer.Finished (Some tree))) s seen t (inr x) = stays s seen t x.1.1.next
queried_grows p id done called s seen t x = stays s seen t x.1.next

cancelled_grows : (id : ℕ) (done : Done) (called : Called) (s : State) (seen : List HandlerCall) (t : State) → IsCancelled id done called s seen t → Grows s seen t
cancelled_grows id done (gives answer.Cancelled) s seen t x = becomes s seen t _ x.1.next refl refl refl
cancelled_grows id done called s seen t x = stays s seen t x.1.next

queries_grow : (p : Placed) (id : ℕ) (status : Status) (done : Done) (s : State) (seen : List HandlerCall) (t : State) → Queries p id status done s seen t → Grows s seen t
queries_grow p id running done s seen t q =
    then_grows s q.1.mid t q.1.first q.1.second seen q.1.whole (call_grows p.slot (call.Query id) q.0 s q.1.first q.1.mid q.1.one) (queried_grows p id done q.0 q.1.mid q.1.second t q.1.other)
queries_grow p id (completed output) done s seen t q = stays s seen t q.1.next

cancels_grow : (p : Placed) (id : ℕ) (status : Status) (done : Done) (s : State) (seen : List HandlerCall) (t : State) → Cancels p id status done s seen t → Grows s seen t
cancels_grow p id running done s seen t q =
    then_grows s q.1.mid t q.1.first q.1.second seen q.1.whole (call_grows p.slot (call.Cancel id) q.0 s q.1.first q.1.mid q.1.one) (cancelled_grows id done q.0 q.1.mid q.1.second t q.1.other)
cancels_grow p id (completed output) done s seen t q = becomes s seen t _ q.1.next refl refl refl

-- ---- acts and polls

performs_grow : (act : ThingAct) (q : RequestSeen) (is : List Input) (done : Done) (s : State) (seen : List HandlerCall) (t : State) → Performs act q is done s seen t → Grows s seen t
performs_grow (describes thing) q is done s seen t x = stays s seen t x.1.next
performs_grow (reads_all thing) q is done s seen t x = reads_grow _ [] done s seen t x
performs_grow (writes_many thing) q is done s seen t x = writes_grow is [] done s seen t x
performs_grow (reads p) q is done s seen t x = read_grows p x.0 s seen t x.2
performs_grow (writes p) q is done s seen t x = writes_grow is [] done s seen t x
performs_grow (invokes p) q is done s seen t x =
    then_grows s x.2.1.mid t x.2.1.first x.2.1.second seen x.2.1.whole (call_grows p.slot (call.Invoke s.next_invocation x.0) x.2.0 s x.2.1.first x.2.1.mid x.2.1.one)
    (invoked_grows p q.path s.next_invocation done x.2.0 x.2.1.mid x.2.1.second t x.2.1.other)
performs_grow (queries p id) q is done s seen t x = queries_grow p id x.0.status done s seen t x.2
performs_grow (cancels p id) q is done s seen t x = cancels_grow p id x.0.status done s seen t x.2
performs_grow (reads_event p) q is done s seen t x = stays s seen t x.1.next
performs_grow (waits p) q is done s seen t x = stays s seen t x.1.next

pub acts_grow : (site : Site) (q : RequestSeen) (done : Done) (s : State) (seen : List HandlerCall) (t : State) → Acts site q done s seen t → Grows s seen t
acts_grow site q done s seen t (refuses o refused x) = stays s seen t x.1.next
acts_grow site q done s seen t (has_no_memory x) = stays s seen t x.1.next
acts_grow site q done s seen t (performs act is none asked given x) = performs_grow act q is done s seen t x

polls_grow : (ps : List Placed) (es : List Emission) (s : State) (seen : List HandlerCall) (t : State) → PollsEach ps es s seen t → Grows s seen t
polls_grow [] es s seen t q = stays s seen t q.1.next
polls_grow (p ∷ ps) es s seen t q =
    then_grows s q.3.mid t q.3.first q.3.second seen q.3.whole
    (then_grows s q.3.one.1.mid q.3.mid q.3.one.1.first q.3.one.1.second q.3.first q.3.one.1.whole (call_grows p.slot call.Poll q.3.one.0 s q.3.one.1.first q.3.one.1.mid q.3.one.1.one)
    (becomes q.3.one.1.mid q.3.one.1.second q.3.mid _ q.3.one.1.other.1.next refl refl refl))
    (polls_grow ps q.1 q.3.mid q.3.second t q.3.other)

pub deeds_grow : (site : Site) (deeds : List Deed) (s : State) (seen : List HandlerCall) (t : State) → DoesAll site deeds s seen t → Grows s seen t
deeds_grow site [] s seen t x = stays s seen t x.next
deeds_grow site (asks q done ∷ deeds) s seen t x =
    then_grows s x.mid t x.first x.second seen x.whole (acts_grow site q done s x.first x.mid x.one) (deeds_grow site deeds x.mid x.second t x.other)
deeds_grow site (polls emissions ∷ deeds) s seen t x =
    then_grows s x.mid t x.first x.second seen x.whole (polls_grow _ emissions s x.first x.mid x.one) (deeds_grow site deeds x.mid x.second t x.other)
