-- No tag of an earlier run comes again in a later one that leaves out as many versions more as any property was read and
-- written.
use Rattle.std.proofs.Common.{◌≡◌, ℕ, ◌+◌, ◌<◌, ◌≤◌, List, [], ◌∷◌, ◌++◌, Bool, true, false, cond, refl, sym, ap, subst, ◌∙◌, arith, inl, inr}
use Rattle.std.specs.Prelude.{◌⊎◌, ◌==◌, Result, Ok, Err, Option, Some, None, IsSome}
use Rattle.std.proofs.lemmas.Option.{same_Some}
use Rattle.wot_json.specs.Tree.{Json}
use Rattle.wot_json.specs.Json.{text_of}
use Rattle.thing_ops.specs.declared.conditions.Conditions.{Conditions}
use Rattle.thing_ops.specs.Conditions.{has, fails}
use Rattle.thing_ops.specs.declared.outcome.Outcome.{Outcome}
use Rattle.thing_ops.specs.declared.outcome.Outcome.TheVariants as outcome
use Rattle.thing_ops.specs.Outcomes.{version_of as tag_sent}
use Rattle.thing_ops.specs.Requests.{RequestSeen}
use Rattle.thing_handler.specs.Turns.{HandlerCall}
use Rattle.thing_site.specs.Site.{Placed, Site}
use Rattle.thing_site.specs.declared.place.ThingAct.{ThingAct}
use Rattle.thing_site.specs.declared.place.ThingAct.TheVariants.{Reads as reads}
use Rattle.thing_state.specs.State.{State, Version, version_of, tag_of_version, tag_of, start, properties_of}
use Rattle.thing_state.proofs.VersionLists.{unseen_version}
use Rattle.thing_core.specs.Refusals.{act_asked, refusals, Stands}
use Rattle.thing_core.specs.Thing.{Done, only, ReadsValue, Reads, outcome_of_read, read_outcome, Acts, refuses, has_no_memory, performs, Performs}
use Rattle.thing_core.specs.Runs.{version_in, reads_and_writes, SendsTag, TagsDontComeAgain, OldTagsAreNotMet}
use Rattle.thing_core.proofs.VersionRuns.{Grows, then_grows, acts_grow, deeds_grow, reads_of_both}
use Rattle.thing_core.proofs.VersionLaws.{HasNumber, version_number, is_failure, refusals_fail, no_value_fails, value_seen, write_finds, numbered, above}

-- ---- a read that sent a tag

-- the property has a version of this number, and a text
abbrev IsTagged : ℕ → ℕ → State → Type 0
IsTagged slot tag t = (w : Version) × (text : List ℕ) × (version_in slot t.versions ≡ Some w) × (w.number ≡ tag) × (w.text ≡ Some text)

untagged : (o : Outcome) (tag : ℕ) → is_failure o ≡ true → tag_sent o ≡ Some tag → ⊥
untagged (outcome.Content text it) tag fails sent = cc
untagged (outcome.NotModified it) tag fails sent = cc
untagged o tag fails sent = cc

read_tag : (c : Conditions) (version : ℕ) (text : List ℕ) (tag : ℕ) → tag_sent (read_outcome c version text) ≡ Some tag → version ≡ tag
read_tag c version text tag sent = by_test (fails c version) (has c.known version) sent
  where
    by_test : (b d : Bool) → tag_sent (cond b outcome.PreconditionFailed (cond d (outcome.NotModified version) (outcome.Content text (Some version)))) ≡ Some tag → version ≡ tag
    by_test true d e = absurd cc
    by_test false true e = same_Some version tag e
    by_test false false e = same_Some version tag e

value_tags : (p : Placed) (c : Conditions) (r : Result Json Outcome) (done : Done) (s : State) (seen : List HandlerCall) (t : State) (tag : ℕ)
    → done ≡ only (outcome_of_read c (version_of p.slot t.versions) r) → ReadsValue p r s seen t → IsSome (version_in p.slot s.versions)
    → tag_sent done.outcome ≡ Some tag → IsTagged p.slot tag t
value_tags p c (Err o) done s seen t tag is q there sent =
    absurd (untagged o tag (no_value_fails p.affordance.output q.0 o q.1.other.0) (sym (ap (λ (d : Done). tag_sent d.outcome) is) ∙ sent))
value_tags p c (Ok value) done s seen t tag is q there sent =
    let x = value_seen p value s seen t q there in
    let said = read_tag c (version_of p.slot t.versions) (text_of value) tag (sym (ap (λ (d : Done). tag_sent d.outcome) is) ∙ sent) in
    (x.0, text_of value, x.1, sym (version_number p.slot t.versions x.0 x.1) ∙ said, x.2)

read_tags : (site : Site) (p : Placed) (q : RequestSeen) (done : Done) (s : State) (seen : List HandlerCall) (t : State) (tag : ℕ)
    → act_asked (record { site = site; state = s; request = q }) ≡ Some (reads p) → Acts site q done s seen t → IsSome (version_in p.slot s.versions)
    → tag_sent done.outcome ≡ Some tag → IsTagged p.slot tag t
read_tags site p q done s seen t tag asked (refuses o refused x) there sent =
    absurd (untagged o tag (refusals_fail (λ r. Stands r (record { site = site; state = s; request = q })) (record { site = site; state = s; request = q }) refusals o refused)
    (sym (ap (λ (d : Done). tag_sent d.outcome) x.0) ∙ sent))
read_tags site p q done s seen t tag asked (has_no_memory x) there sent =
    absurd (untagged outcome.Memory tag refl (sym (ap (λ (d : Done). tag_sent d.outcome) x.0) ∙ sent))
read_tags site p q done s seen t tag asked (performs act inputs none found given does) there sent =
    let same : act ≡ reads p = same_Some act (reads p) (sym found ∙ asked) in
    let read : Reads p q.conditions done s seen t = subst (λ (x : ThingAct). Performs x q inputs done s seen t) same does in
    value_tags p q.conditions read.0 done s seen t tag read.1 read.2 there sent

-- ---- the bounds of a tag that a run sends

-- up to the read
grown_to : (site : Site) (slot tag : ℕ) (seen : List HandlerCall) (k : SendsTag site slot tag seen) → Grows (start site) (k.begun ++ k.asked.seen) k.t
grown_to site slot tag seen k =
    then_grows (start site) k.s k.t k.begun k.asked.seen (k.begun ++ k.asked.seen) refl (deeds_grow site k.before (start site) k.begun k.s k.begins)
    (acts_grow site k.request k.done k.s k.asked.seen k.t k.asked.move)

tagged_there : (site : Site) (slot tag : ℕ) (seen : List HandlerCall) (k : SendsTag site slot tag seen) → IsTagged k.p.slot tag k.t
tagged_there site slot tag seen k = read_tags site k.p k.request k.done k.s k.asked.seen k.t tag k.asked.asked k.asked.move k.there k.sent

-- a tag is above the versions that are left out
sent_above : (site : Site) (slot tag : ℕ) (seen : List HandlerCall) → SendsTag site slot tag seen → site.left_out < tag
sent_above site slot tag seen k =
    let w = tagged_there site slot tag seen k in
    omega (arith, w.3, above site.left_out w.1 w.0 (numbered site k.p.slot k.t (k.begun ++ k.asked.seen) w.0 (grown_to site slot tag seen k) w.2) w.4)

-- and by no more than the property was read and written
sent_within : (site : Site) (slot tag : ℕ) (seen : List HandlerCall) → SendsTag site slot tag seen → tag ≤ site.left_out + reads_and_writes slot seen
sent_within site slot tag seen k =
    let w = tagged_there site slot tag seen k in
    let grown = grown_to site slot tag seen k in
    subst (λ (n : ℕ). tag ≤ site.left_out + reads_and_writes n seen) k.named (omega (
      arith,
      w.3,
      version_number k.p.slot k.t.versions w.0 w.2,
      grown.counts k.p.slot,
      unseen_version site.left_out k.p.slot (properties_of site.things),
      ap (reads_and_writes k.p.slot) k.whole,
      reads_of_both k.p.slot k.begun k.asked.seen,
      reads_of_both k.p.slot k.begun (k.asked.seen ++ k.further),
      reads_of_both k.p.slot k.asked.seen k.further,
    ))

pub tags_dont_come_again : (site later : Site) → TagsDontComeAgain site later
tags_dont_come_again site later seen more slot other tag further leaves one two =
    omega (arith, sent_within site slot tag seen one, leaves slot, sent_above later other further more two)

-- ---- a write that asks for a tag

-- a property has no tag, or one above the versions that are left out
tag_above : (left_out slot : ℕ) (vs : List Version) → ((w : Version) → version_in slot vs ≡ Some w → HasNumber left_out w) → (tag_of slot vs ≡ 0) ⊎ (left_out < tag_of slot vs)
tag_above left_out slot [] numbers = inl refl
tag_above left_out slot (v ∷ vs) numbers = by_test (v.slot == slot) numbers (tag_above left_out slot vs)
  where
    by_text : (text : Option (List ℕ)) → v.text ≡ text → HasNumber left_out v
        → ((elim text as (λ _. ℕ) [ None ↦ 0 | Some last ↦ v.number ]) ≡ 0) ⊎ (left_out < (elim text as (λ _. ℕ) [ None ↦ 0 | Some last ↦ v.number ]))
    by_text None is h = inl refl
    by_text (Some last) is h = inr (above left_out last v h is)

    by_test : (b : Bool) → ((w : Version) → cond b (Some v) (version_in slot vs) ≡ Some w → HasNumber left_out w)
        → (((w : Version) → version_in slot vs ≡ Some w → HasNumber left_out w) → (tag_of slot vs ≡ 0) ⊎ (left_out < tag_of slot vs))
        → (cond b (tag_of_version v) (tag_of slot vs) ≡ 0) ⊎ (left_out < cond b (tag_of_version v) (tag_of slot vs))
    by_test true mine rest = by_text v.text refl (mine v refl)
    by_test false mine rest = rest mine

pub old_tags_are_not_met : (site later : Site) → OldTagsAreNotMet site later
old_tags_are_not_met site later seen slot tag leaves one p request written u v reached asked asks = λ changed.
    let found : tag ≡ tag_of p.slot u.versions = write_finds later p request written u asked.seen v tag asked.asked asked.move asks changed in
    let grown : Grows (start later) reached.seen u = deeds_grow later reached.deeds (start later) reached.seen u reached.run in
    elim (tag_above later.left_out p.slot u.versions (λ w is. numbered later p.slot u reached.seen w grown is)) [
      | inl none ↦ omega (arith, found, none, sent_above site slot tag seen one)
      | inr high ↦ omega (arith, found, high, sent_within site slot tag seen one, leaves slot)
    ]
