-- The promises of versions over runs.
use Rattle.std.proofs.Common.{◌≡◌, ℕ, ◌+◌, ◌<◌, ◌≤◌, List, [], ◌∷◌, ◌++◌, map, Bool, true, false, cond, refl, sym, ap, subst, ◌∙◌, arith, inl, inr}
use Rattle.std.specs.Prelude.{◌==◌, ◌||◌, not, nat_eq, Result, Ok, Err, Option, Some, None, option_map, IsSome}
use Rattle.std.specs.List.{AllByRecursion}
use Rattle.std.specs.Str.{bytes_eq}
use Rattle.std.proofs.lemmas.Option.{same_Some}
use Rattle.std.proofs.lemmas.Slice.Eq.{bytes_eq-Decides}
use Rattle.std.proofs.lemmas.Bool.{cases_lt, eqb-true}
use Rattle.wot_json.specs.Tree.{Json}
use Rattle.wot_json.specs.Json.{text_of}
use Rattle.wot_json.specs.Meaning.{json_of}
use Rattle.thing_ops.specs.declared.conditions.Tags.{Tags}
use Rattle.thing_ops.specs.declared.conditions.Conditions.{Conditions}
use Rattle.thing_ops.specs.Conditions.{has, fails, fails_to_write, is_missed}
use Rattle.thing_ops.specs.declared.outcome.Outcome.{Outcome}
use Rattle.thing_ops.specs.declared.outcome.Outcome.TheVariants as outcome
use Rattle.thing_ops.specs.Requests.{RequestSeen}
use Rattle.thing_handler.specs.declared.handler.CallKind.{CallKind}
use Rattle.thing_handler.specs.declared.handler.CallKind.TheVariants as call
use Rattle.thing_handler.specs.declared.handler.Answer.TheVariants as answer
use Rattle.thing_handler.specs.Turns.{HandlerCall}
use Rattle.thing_site.specs.Site.{Placed, Site}
use Rattle.thing_site.specs.declared.place.ThingAct.{ThingAct}
use Rattle.thing_site.specs.declared.place.ThingAct.TheVariants.{Reads as reads, Writes as writes}
use Rattle.thing_site.specs.Refusals.{Refusal, nothing_there, verb_not_taken, answer_not_acceptable, format_not_taken, body_not_as_wanted, value_too_large, refused_by_schema, condition_failed, no_invocation_left, Holding, IsFirst}
use Rattle.thing_state.specs.State.{State, Version, is_last_seen, after_text, versions_after, version_of, tag_of_version, tag_of, start, unseen, properties_of, most_turns}
use Rattle.thing_core.specs.Refusals.{Asked, act_asked, refusals, IsAnsweredWith, HasFailedCondition, Stands}
use Rattle.thing_core.specs.Thing.{Done, only, GivesValue, ReadsValue, Reads, outcome_of_read, read_outcome, Acts, refuses, has_no_memory, performs, Performs}
use Rattle.thing_state.specs.Calls.{Called, no_number, no_memory, gives, failure_of, Calls}
use Rattle.thing_core.specs.Runs.{version_in, after_texts, SeesTexts, VersionsAreFew, SameTagSameText, TagsAreSeen, NoWriteIsLost, PropertiesHaveVersions}
use Rattle.thing_core.proofs.InvokeLaws.{some_of}
use Rattle.thing_state.proofs.VersionLists.{unseen_version}
use Rattle.thing_core.proofs.VersionRuns.{IsWithin, Grows, then_grows, acts_grow, deeds_grow, texts_make_versions}

-- ---- one version

pub version_number : (slot : ℕ) (vs : List Version) (w : Version) → version_in slot vs ≡ Some w → version_of slot vs ≡ w.number
version_number slot [] w e = absurd cc
version_number slot (v ∷ vs) w e = by_test (version_number slot vs w) (v.slot == slot) e
  where
    by_test : (version_in slot vs ≡ Some w → version_of slot vs ≡ w.number) → (b : Bool) → cond b (Some v) (version_in slot vs) ≡ Some w → cond b v.number (version_of slot vs) ≡ w.number
    by_test rest true is = ap (λ (x : Version). x.number) (same_Some v w is)
    by_test rest false is = rest is

-- the one that is there after a text was seen
newest : (slot : ℕ) (text : List ℕ) (vs : List Version) → version_in slot (versions_after slot text vs) ≡ option_map (after_text text) (version_in slot vs)
newest slot text [] = refl
newest slot text (v ∷ vs) = by_slot (newest slot text vs) (v.slot == slot) refl
  where
    newer : Version
    newer = record v { number = v.number + 1; text = Some text }

    by_last : (v.slot == slot) ≡ true → (l : Bool) → version_in slot (cond l v newer ∷ vs) ≡ Some (cond l v newer)
    by_last e true = rw e refl
    by_last e false = rw e refl

    by_slot : version_in slot (versions_after slot text vs) ≡ option_map (after_text text) (version_in slot vs) → (b : Bool) → (v.slot == slot) ≡ b
        → version_in slot (cond b (after_text text v ∷ vs) (v ∷ versions_after slot text vs)) ≡ option_map (after_text text) (cond b (Some v) (version_in slot vs))
    by_slot rest true e = by_last e (is_last_seen text v)
    by_slot rest false e = rw e rest

-- its text is the one that was seen
text_after : (slot number : ℕ) (last : Option (List ℕ)) (text : List ℕ) → (after_text text (record { slot = slot; number = number; text = last })).text ≡ Some text
text_after slot number None text = refl
text_after slot number (Some last) text = by_test (bytes_eq last text) refl
  where
    by_test : (b : Bool) → bytes_eq last text ≡ b
        → (cond {A = Version} b (record { slot = slot; number = number; text = Some last }) (record { slot = slot; number = number + 1; text = Some text })).text ≡ Some text
    by_test true e = ap Some ((bytes_eq-Decides last text).0 e)
    by_test false e = refl

-- its tag, where it has a text
tag_is_number : (v : Version) → IsSome v.text → tag_of_version v ≡ v.number
tag_is_number v some = by_text v.text some
  where
    by_text : (last : Option (List ℕ)) → IsSome last → (elim last as (λ _. ℕ) [ None ↦ 0 | Some text ↦ v.number ]) ≡ v.number
    by_text None some = absurd cc
    by_text (Some text) some = refl

version_tag : (slot : ℕ) (vs : List Version) (w : Version) → version_in slot vs ≡ Some w → tag_of slot vs ≡ tag_of_version w
version_tag slot [] w e = absurd cc
version_tag slot (v ∷ vs) w e = by_test (version_tag slot vs w) (v.slot == slot) e
  where
    by_test : (version_in slot vs ≡ Some w → tag_of slot vs ≡ tag_of_version w) → (b : Bool) → cond b (Some v) (version_in slot vs) ≡ Some w → cond b (tag_of_version v) (tag_of slot vs) ≡ tag_of_version w
    by_test rest true is = ap tag_of_version (same_Some v w is)
    by_test rest false is = rest is

-- a text that was seen stays, or another is seen
one_seen_on : (text : List ℕ) (v : Version) → IsSome (after_text text v).text
one_seen_on text v = subst (λ (o : Option (List ℕ)). IsSome o) (sym (text_after v.slot v.number v.text text)) refl

texts_seen_on : (texts : List (List ℕ)) (v : Version) → IsSome v.text → IsSome (after_texts texts v).text
texts_seen_on [] v some = some
texts_seen_on (text ∷ texts) v some = texts_seen_on texts (after_text text v) (one_seen_on text v)

still_seen : (texts : List (List ℕ)) (v : Version) (text : List ℕ) → v.text ≡ Some text → IsSome (after_texts texts v).text
still_seen texts v text is = texts_seen_on texts v (subst (λ (o : Option (List ℕ)). IsSome o) (sym is) refl)

-- no version is below those that are left out, and one that is no more than these has no text
abbrev pub HasNumber : ℕ → Version → Type 0
HasNumber left_out v = (left_out ≤ v.number) × (v.number ≤ left_out → v.text ≡ None)

number_after : (left_out : ℕ) (text : List ℕ) (v : Version) → HasNumber left_out v → HasNumber left_out (after_text text v)
number_after left_out text v h = by_test (is_last_seen text v)
  where
    by_test : (b : Bool) → HasNumber left_out (cond b v (record v { number = v.number + 1; text = Some text }))
    by_test true = h
    by_test false = (omega (arith, h.0), λ low. absurd (omega (arith, low, h.0)))

numbers_after : (left_out : ℕ) (texts : List (List ℕ)) (v : Version) → HasNumber left_out v → HasNumber left_out (after_texts texts v)
numbers_after left_out [] v h = h
numbers_after left_out (text ∷ texts) v h = numbers_after left_out texts (after_text text v) (number_after left_out text v h)

-- ---- outcomes that are no success

abbrev pub is_failure : Outcome → Bool
is_failure outcome.NotFound = true
is_failure (outcome.NotAllowed allow) = true
is_failure outcome.NotAcceptable = true
is_failure outcome.Format = true
is_failure outcome.BadValue = true
is_failure outcome.TooLarge = true
is_failure outcome.PreconditionFailed = true
is_failure outcome.InvocationsFull = true
is_failure outcome.CallsUsed = true
is_failure outcome.Memory = true
is_failure outcome.BadAnswer = true
is_failure (outcome.Refused n) = true
is_failure (outcome.DeviceFault n) = true
is_failure o = false

refusal_fails : (r : Refusal) (x : Asked) (o : Outcome) → IsAnsweredWith r x o → is_failure o ≡ true
refusal_fails nothing_there x o is = ap is_failure is
refusal_fails verb_not_taken x o is = ap is_failure is.2
refusal_fails answer_not_acceptable x o is = ap is_failure is
refusal_fails format_not_taken x o is = ap is_failure is
refusal_fails body_not_as_wanted x o is = ap is_failure is
refusal_fails value_too_large x o is = ap is_failure is
refusal_fails refused_by_schema x o is = ap is_failure is
refusal_fails condition_failed x o is = ap is_failure is
refusal_fails no_invocation_left x o is = ap is_failure is

pub refusals_fail : (S : Refusal → Type 0) (x : Asked) (rs : List Refusal) (o : Outcome) → IsFirst S (λ r. IsAnsweredWith r x) rs o → is_failure o ≡ true
refusals_fail S x [] o first = absurd first
refusals_fail S x (r ∷ rs) o (inl first) = refusal_fails r x o first.1
refusals_fail S x (r ∷ rs) o (inr later) = refusals_fail S x rs o later.1

failures : (called : Called) → is_failure (failure_of called) ≡ true
failures no_number = refl
failures no_memory = refl
failures (gives (answer.Refused n)) = refl
failures (gives (answer.DeviceFault n)) = refl
failures (gives a) = refl

abbrev failure_in : Result Json Outcome → Bool
failure_in (Ok value) = false
failure_in (Err o) = is_failure o

not_ok : (o : Outcome) (value : Json) → Err o ≡ Ok value → ⊥
not_ok o value e = cc

pub no_value_fails : (schema : Option Json) (called : Called) (o : Outcome) → GivesValue schema called (Err o) → is_failure o ≡ true
no_value_fails schema (gives (answer.Value tree)) o (inl taken) = absurd (not_ok o (json_of tree) taken.1)
no_value_fails schema (gives (answer.Value tree)) o (inr refused) = ap failure_in refused.1
no_value_fails schema called o given = ap failure_in given ∙ failures called

success_isnt : (o p : Outcome) → is_failure o ≡ true → is_failure p ≡ false → o ≡ p → ⊥
success_isnt o p fails succeeds same = let e : true ≡ false = sym fails ∙ ap is_failure same ∙ succeeds in cc

-- ---- a read that sent its value

abbrev text_in : Outcome → List ℕ
text_in (outcome.Content text tag) = text
text_in o = []

abbrev tag_in : Outcome → Option ℕ
tag_in (outcome.Content text tag) = tag
tag_in o = None

read_content : (c : Conditions) (version : ℕ) (seen text : List ℕ) (tag : ℕ) → read_outcome c version seen ≡ outcome.Content text (Some tag) → (version ≡ tag) × (seen ≡ text)
read_content c version seen text tag is = by_test (fails c version) (has c.known version) is
  where
    by_test : (b d : Bool) → cond b outcome.PreconditionFailed (cond d (outcome.NotModified version) (outcome.Content seen (Some version))) ≡ outcome.Content text (Some tag) → (version ≡ tag) × (seen ≡ text)
    by_test true d e = absurd cc
    by_test false true e = absurd cc
    by_test false false e = (same_Some version tag (ap tag_in e), ap text_in e)

call_versions : (slot : ℕ) (what : CallKind) (called : Called) (s : State) (seen : List HandlerCall) (t : State) → Calls slot what called s seen t → t.versions ≡ s.versions
call_versions slot what no_number s seen t p = ap (λ (x : State). x.versions) p.1.next
call_versions slot what no_memory s seen t p = ap (λ (x : State). x.versions) p.1.next
call_versions slot what (gives a) s seen t p = ap (λ (x : State). x.versions) p.1.next

-- the property has a version of this number and text
abbrev Shows : ℕ → ℕ → List ℕ → State → Type 0
Shows slot tag text t = (w : Version) × (version_in slot t.versions ≡ Some w) × (w.number ≡ tag) × (w.text ≡ Some text)

-- after a value came its text is the one that was seen last
pub value_seen : (p : Placed) (value : Json) (s : State) (seen : List HandlerCall) (t : State) → ReadsValue p (Ok value) s seen t → IsSome (version_in p.slot s.versions)
    → (w : Version) × (version_in p.slot t.versions ≡ Some w) × (w.text ≡ Some (text_of value))
value_seen p value s seen t q there =
    let old = some_of (version_in p.slot s.versions) there in
    let w : Version = after_text (text_of value) old.0 in
    let now : version_in p.slot t.versions ≡ Some w =
    ap (λ (x : State). version_in p.slot x.versions) q.1.other.1.next
    ∙ newest p.slot (text_of value) q.1.mid.versions
    ∙ ap (λ (vs : List Version). option_map (after_text (text_of value)) (version_in p.slot vs)) (call_versions p.slot call.Read q.0 s q.1.first q.1.mid q.1.one)
    ∙ ap (option_map (after_text (text_of value))) old.1 in
    (w, now, text_after old.0.slot old.0.number old.0.text (text_of value))

value_shows : (p : Placed) (c : Conditions) (r : Result Json Outcome) (done : Done) (s : State) (seen : List HandlerCall) (t : State) (tag : ℕ) (text : List ℕ)
    → done ≡ only (outcome_of_read c (version_of p.slot t.versions) r) → ReadsValue p r s seen t → IsSome (version_in p.slot s.versions)
    → done.outcome ≡ outcome.Content text (Some tag) → Shows p.slot tag text t
value_shows p c (Err o) done s seen t tag text is q there sent =
    absurd (success_isnt o (outcome.Content text (Some tag)) (no_value_fails p.affordance.output q.0 o q.1.other.0) refl (sym (ap (λ (d : Done). d.outcome) is) ∙ sent))
value_shows p c (Ok value) done s seen t tag text is q there sent =
    let said = read_content c (version_of p.slot t.versions) (text_of value) text tag (sym (ap (λ (d : Done). d.outcome) is) ∙ sent) in
    let x = value_seen p value s seen t q there in
    (x.0, x.1, sym (version_number p.slot t.versions x.0 x.1) ∙ said.0, x.2 ∙ ap Some said.1)

read_shows : (site : Site) (p : Placed) (q : RequestSeen) (done : Done) (s : State) (seen : List HandlerCall) (t : State) (tag : ℕ) (text : List ℕ)
    → act_asked (record { site = site; state = s; request = q }) ≡ Some (reads p) → Acts site q done s seen t → IsSome (version_in p.slot s.versions)
    → done.outcome ≡ outcome.Content text (Some tag) → Shows p.slot tag text t
read_shows site p q done s seen t tag text asked (refuses o refused x) there sent =
    absurd (success_isnt o (outcome.Content text (Some tag)) (refusals_fail (λ r. Stands r (record { site = site; state = s; request = q })) (record { site = site; state = s; request = q }) refusals o refused) refl (sym (ap (λ (d : Done). d.outcome) x.0) ∙ sent))
read_shows site p q done s seen t tag text asked (has_no_memory x) there sent =
    absurd (success_isnt outcome.Memory (outcome.Content text (Some tag)) refl refl (sym (ap (λ (d : Done). d.outcome) x.0) ∙ sent))
read_shows site p q done s seen t tag text asked (performs act inputs none found given does) there sent =
    let same : act ≡ reads p = same_Some act (reads p) (sym found ∙ asked) in
    let read : Reads p q.conditions done s seen t = subst (λ (x : ThingAct). Performs x q inputs done s seen t) same does in
    value_shows p q.conditions read.0 done s seen t tag text read.1 read.2 there sent

-- ---- between two moments of a run

-- there is one still
still_there : (slot : ℕ) (s t : State) (w : Version) → version_in slot s.versions ≡ Some w → SeesTexts slot s t → (texts : List (List ℕ)) × (version_in slot t.versions ≡ Some (after_texts texts w))
still_there slot s t w there sees = (sees.0, sees.1 ∙ ap (option_map (after_texts sees.0)) there)

-- while the number is the same, nothing has changed
unchanged : (slot tag : ℕ) (s t : State) (w x : Version) → version_in slot s.versions ≡ Some w → version_in slot t.versions ≡ Some x → SeesTexts slot s t → w.number ≡ tag → x.number ≡ tag → x ≡ w
unchanged slot tag s t w x before after sees one other =
    let far = still_there slot s t w before sees in
    let is : x ≡ after_texts far.0 w = same_Some x (after_texts far.0 w) (sym after ∙ far.1) in
    is ∙ (texts_make_versions far.0 w).1 (sym (ap (λ (v : Version). v.number) is) ∙ other ∙ sym one)

pub same_tag : (site : Site) → SameTagSameText site
same_tag site p q r one other s t u v deeds between tag text further there asked does again sent resent =
    let w = read_shows site p q one s asked.seen t tag text asked.asked asked.move there sent in
    let grown : Grows t between u = deeds_grow site deeds t between u does in
    let later = still_there p.slot t u w.0 w.1 (grown.sees p.slot) in
    let stands : IsSome (version_in p.slot u.versions) = subst (λ (o : Option Version). IsSome o) (sym later.1) refl in
    let x = read_shows site p r other u again.seen v tag further again.asked again.move stands resent in
    let whole : Grows t (between ++ again.seen) v = then_grows t u v between again.seen (between ++ again.seen) refl grown (acts_grow site r other u again.seen v again.move) in
    let same : x.0 ≡ w.0 = unchanged p.slot tag t v w.0 x.0 w.1 x.1 (whole.sees p.slot) w.2 x.2 in
    same_Some text further (sym w.3 ∙ sym (ap (λ (y : Version). y.text) same) ∙ x.3)

-- ---- a write that asks for a version

-- that version alone is among these
one_listed : (tag version : ℕ) → has (record { any = false; list = tag ∷ [] }) version ≡ true → tag ≡ version
one_listed tag version e = by_test (nat_eq tag version) refl e
  where
    by_test : (b : Bool) → nat_eq tag version ≡ b → (b || false) ≡ true → tag ≡ version
    by_test true is e = eqb-true tag version is
    by_test false is e = absurd cc

-- it is met
asks_for : (c : Conditions) (tag version : ℕ) → c.if_match ≡ Some (record { any = false; list = tag ∷ [] }) → ¬ (fails_to_write c version ≡ true) → tag ≡ version
asks_for c tag version asks met = by_test (has (record { any = false; list = tag ∷ [] }) version) refl
  where
    missed : has (record { any = false; list = tag ∷ [] }) version ≡ false → is_missed c.if_match version ≡ true
    missed e = ap (λ (o : Option Tags). is_missed o version) asks ∙ ap not e

    fails_so : (a b k : Bool) → b ≡ true → ((a || b) || k) ≡ true
    fails_so true b k e = refl
    fails_so false true k e = refl
    fails_so false false k e = absurd cc

    by_test : (b : Bool) → has (record { any = false; list = tag ∷ [] }) version ≡ b → tag ≡ version
    by_test true e = one_listed tag version e
    by_test false e = absurd (met (fails_so c.absent (is_missed c.if_match version) (has c.known version) (missed e)))

pub write_finds : (site : Site) (p : Placed) (q : RequestSeen) (done : Done) (s : State) (seen : List HandlerCall) (t : State) (tag : ℕ)
    → act_asked (record { site = site; state = s; request = q }) ≡ Some (writes p) → Acts site q done s seen t → q.conditions.if_match ≡ Some (record { any = false; list = tag ∷ [] })
    → done.outcome ≡ outcome.Changed → tag ≡ tag_of p.slot s.versions
write_finds site p q done s seen t tag asked (refuses o refused x) asks changed =
    absurd (success_isnt o outcome.Changed (refusals_fail (λ r. Stands r (record { site = site; state = s; request = q })) (record { site = site; state = s; request = q }) refusals o refused) refl (sym (ap (λ (d : Done). d.outcome) x.0) ∙ changed))
write_finds site p q done s seen t tag asked (has_no_memory x) asks changed =
    absurd (success_isnt outcome.Memory outcome.Changed refl refl (sym (ap (λ (d : Done). d.outcome) x.0) ∙ changed))
write_finds site p q done s seen t tag asked (performs act inputs none found given does) asks changed =
    asks_for q.conditions tag (tag_of p.slot s.versions) asks
    (λ failed. none.1.1.1.1.1.1.1.0 (subst (λ (o : Option ThingAct). Holding (λ (y : ThingAct). HasFailedCondition s q.conditions y) o) (sym asked) failed))

pub no_write_is_lost : (site : Site) → NoWriteIsLost site
no_write_is_lost site p q r read written s t u v deeds between tag text there asked does again sent asks changed =
    let w = read_shows site p q read s asked.seen t tag text asked.asked asked.move there sent in
    let grown : Grows t between u = deeds_grow site deeds t between u does in
    let later = still_there p.slot t u w.0 w.1 (grown.sees p.slot) in
    let x : Version = after_texts later.0 w.0 in
    let number : x.number ≡ tag =
    sym (tag_is_number x (still_seen later.0 w.0 text w.3))
    ∙ sym (version_tag p.slot u.versions x later.1)
    ∙ sym (write_finds site p r written u again.seen v tag again.asked again.move asks changed) in
    let same : x ≡ w.0 = unchanged p.slot tag t u w.0 x w.1 later.1 (grown.sees p.slot) w.2 number in
    ap (option_map {U = ℕ × Option (List ℕ)} (λ (y : Version). (y.number, y.text))) (later.1 ∙ ap Some same) ∙ (λ i. Some (w.2 i, w.3 i))

-- ---- from the beginning

begins_within : (site : Site) → IsWithin (start site)
begins_within site = record {
  versions = λ slot. omega (arith, unseen_version site.left_out slot (properties_of site.things));
  turns = omega arith;
}

pub versions_are_few : (site : Site) → VersionsAreFew site
versions_are_few site s reached slot =
    let grown : Grows (start site) reached.seen s = deeds_grow site reached.deeds (start site) reached.seen s reached.run in
    let within : IsWithin s = grown.within (begins_within site) in
    (omega (arith, within.versions slot, grown.left_out), omega (arith, within.turns, ap most_turns grown.left_out))

-- at the beginning there is no text
begins_unseen : (left_out slot : ℕ) (ps : List Placed) (w : Version) → version_in slot (map (unseen left_out) ps) ≡ Some w → HasNumber left_out w
begins_unseen left_out slot [] w e = absurd cc
begins_unseen left_out slot (p ∷ ps) w e = by_test (begins_unseen left_out slot ps w) (p.slot == slot) e
  where
    first : HasNumber left_out (unseen left_out p)
    first = (omega arith, λ low. refl)

    by_test : (version_in slot (map (unseen left_out) ps) ≡ Some w → HasNumber left_out w) → (b : Bool)
        → cond b (Some (unseen left_out p)) (version_in slot (map (unseen left_out) ps)) ≡ Some w → HasNumber left_out w
    by_test rest true is = subst (HasNumber left_out) (same_Some (unseen left_out p) w is) first
    by_test rest false is = rest is

-- a version that is there has grown from one at the beginning
has_number : (left_out : ℕ) (first : Option Version) (texts : List (List ℕ)) (w : Version) → ((v : Version) → first ≡ Some v → HasNumber left_out v)
    → Some w ≡ option_map (after_texts texts) first → HasNumber left_out w
has_number left_out None texts w begins e = absurd cc
has_number left_out (Some v) texts w begins e =
    subst (HasNumber left_out) (sym (same_Some w (after_texts texts v) e)) (numbers_after left_out texts v (begins v refl))

pub numbered : (site : Site) (slot : ℕ) (t : State) (seen : List HandlerCall) (w : Version) → Grows (start site) seen t → version_in slot t.versions ≡ Some w → HasNumber site.left_out w
numbered site slot t seen w grown is =
    let sees = grown.sees slot in
    has_number site.left_out (version_in slot (start site).versions) sees.0 w (λ v e. begins_unseen site.left_out slot (properties_of site.things) v e) (sym is ∙ sees.1)

-- one that has a text is above those that are left out
pub above : (left_out : ℕ) (text : List ℕ) (v : Version) → HasNumber left_out v → v.text ≡ Some text → left_out < v.number
above left_out text v h is = elim (cases_lt left_out v.number) [
  | inl below ↦ below
  | inr low ↦ absurd (let e : None ≡ Some text = sym (h.1 low) ∙ is in cc)
]

pub tags_are_seen : (site : Site) → TagsAreSeen site
tags_are_seen site p q done s t tag text reached there asked sent =
    let w = read_shows site p q done s asked.seen t tag text asked.asked asked.move there sent in
    let grown : Grows (start site) (reached.seen ++ asked.seen) t =
    then_grows (start site) s t reached.seen asked.seen (reached.seen ++ asked.seen) refl
    (deeds_grow site reached.deeds (start site) reached.seen s reached.run) (acts_grow site q done s asked.seen t asked.move) in
    omega (arith, above site.left_out text w.0 (numbered site p.slot t (reached.seen ++ asked.seen) w.0 grown w.1) w.3, w.2)

-- each property has a version
begins_there : (left_out : ℕ) (ps : List Placed) → AllByRecursion (λ p. IsSome (version_in p.slot (map (unseen left_out) ps))) ps
begins_there left_out [] = tt
begins_there left_out (p ∷ ps) = (first (p.slot == p.slot) (same p.slot), further ps (begins_there left_out ps))
  where
    same : (n : ℕ) → (n == n) ≡ true
    same n = grind arith

    first : (b : Bool) → b ≡ true → IsSome (cond b (Some (unseen left_out p)) (version_in p.slot (map (unseen left_out) ps)))
    first true e = refl
    first false e = absurd cc

    one : (slot : ℕ) → IsSome (version_in slot (map (unseen left_out) ps)) → (b : Bool) → IsSome (cond b (Some (unseen left_out p)) (version_in slot (map (unseen left_out) ps)))
    one slot there true = refl
    one slot there false = there

    further : (qs : List Placed) → AllByRecursion (λ q. IsSome (version_in q.slot (map (unseen left_out) ps))) qs → AllByRecursion (λ q. IsSome (version_in q.slot (map (unseen left_out) (p ∷ ps)))) qs
    further [] all = tt
    further (q ∷ qs) all = (one q.slot all.0 (p.slot == q.slot), further qs all.1)

still_some : (texts : List (List ℕ)) (o : Option Version) → IsSome o → IsSome (option_map (after_texts texts) o)
still_some texts None there = absurd cc
still_some texts (Some v) there = refl

all_still : (s t : State) (ps : List Placed) → ((slot : ℕ) → SeesTexts slot s t) → AllByRecursion (λ p. IsSome (version_in p.slot s.versions)) ps → AllByRecursion (λ p. IsSome (version_in p.slot t.versions)) ps
all_still s t [] sees all = tt
all_still s t (p ∷ ps) sees all =
    let one = sees p.slot in
    (subst (λ (o : Option Version). IsSome o) (sym one.1) (still_some one.0 (version_in p.slot s.versions) all.0), all_still s t ps sees all.1)

pub properties_have_versions : (site : Site) → PropertiesHaveVersions site
properties_have_versions site s reached =
    all_still (start site) s (properties_of site.things) (deeds_grow site reached.deeds (start site) reached.seen s reached.run).sees (begins_there site.left_out (properties_of site.things))
