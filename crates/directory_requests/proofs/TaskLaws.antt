-- A task tells the act that was asked for; and an act on an entry was asked for at the path of one.
use Rattle.std.proofs.Common.{◌≡◌, ℕ, List, [], ◌∷◌, Bool, true, false, refl, sym, ap, subst, ◌∙◌, inl, inr}
use Rattle.std.proofs.lemmas.Option.{same_Some}
use Rattle.std.specs.Prelude.{Some, None, if◌then◌else◌}
use Rattle.wot_json.specs.Meaning.{json_of}
use Rattle.wot_json.specs.declared.tree.Tree.{Tree}
use Rattle.thing_ops.specs.declared.verb.Verb.{Verb}
use Rattle.thing_ops.specs.declared.verb.Verb.TheVariants as verb
use Rattle.thing_ops.specs.declared.routing.RouteKind.{RouteKind}
use Rattle.thing_ops.specs.declared.routing.RouteKind.TheVariants as route
use Rattle.thing_ops.specs.declared.outcome.Outcome.{Outcome}
use Rattle.thing_ops.specs.Requests.{RequestSeen}
use Rattle.thing_ops.specs.Routes.{route_of}
use Rattle.thing_ops.specs.Verbs.{verbs_of}
use Rattle.thing_site.specs.Places.{is_listed}
use Rattle.wot_directory.specs.Contents.{Contents}
use Rattle.wot_registry.specs.Registry.{Registered, standing, shown_under, shown_entries}
use Rattle.directory_requests.specs.declared.act.DirectoryAct.{DirectoryAct}
use Rattle.directory_requests.specs.declared.act.DirectoryAct.TheVariants as act
use Rattle.directory_requests.specs.declared.judging.DirectoryTask.{DirectoryTask}
use Rattle.directory_requests.specs.declared.judging.DirectoryTask.TheVariants as task
use Rattle.directory_requests.specs.Asked.{is_of_directory, act_of, act_asked, id_in, no_flags}
use Rattle.directory_requests.specs.declared.server.ServedEntries.{ServedEntries}
use Rattle.directory_requests.specs.declared.server.ServedEntries.TheVariants as kept
use Rattle.directory_requests.specs.Judged.{IsTask, IsJudged, IsOrMemory, IsRefusedOrMemory, act_of_task, DoesTask, DoesTaskAt}
use Rattle.directory_requests.specs.Window.{window_of}
use Rattle.wot_json.specs.Lookup.{member_named}
use Rattle.directory_requests.specs.Requests.{listed_by, shown, CreatesEntry, PutsEntry, PatchesEntry, RemovesEntry, CreatesEntryAt, PutsEntryAt, PatchesEntryAt, RemovesEntryAt, standing_at, ActsOnStanding, refuses, is_out_of_memory, performs}

-- ---- the act of what is to be done

same_act : (a : DirectoryAct) (body : List ℕ) (t : DirectoryTask) → IsTask a body t → a ≡ act_of_task t
same_act act.Lists body task.Lists e = refl
same_act act.Creates body (task.Creates tree) e = refl
same_act act.Shows body task.Shows e = refl
same_act act.Puts body (task.Puts tree) e = refl
same_act act.Patches body (task.Patches tree) e = refl
same_act act.Removes body task.Removes e = refl
same_act a body t e = absurd e

pub asked_act : (q : RequestSeen) (t : DirectoryTask) → IsJudged q t → act_asked q ≡ Some (act_of_task t)
asked_act q t j = j.asked ∙ ap (λ (a : DirectoryAct). Some a) (same_act j.act q.body t j.is_task)

pub body_is : (q : RequestSeen) (t : DirectoryTask) → IsJudged q t → IsTask (act_of_task t) q.body t
body_is q t j = subst (λ (a : DirectoryAct). IsTask a q.body t) (same_act j.act q.body t j.is_task) j.is_task

-- each of them, by what the function that does it says
pub lists : (q : RequestSeen) (o : Outcome) (d : Contents) → IsOrMemory (listed_by (window_of q.query) d.entries) o → DoesTask task.Lists q o d d
lists q o d (inl is) = inl (is, refl)
lists q o d (inr memory) = inr (memory, refl)

pub creates : (q : RequestSeen) (tree : Tree) (o : Outcome) (d t : Contents) → IsJudged q (task.Creates tree) → CreatesEntry (json_of tree) o d t → DoesTask (task.Creates tree) q o d t
creates q tree o d t j done = inl (json_of tree, body_is q (task.Creates tree) j, done)

pub shows : (q : RequestSeen) (id : List ℕ) (o : Outcome) (d : Contents) → id ≡ id_in q.path → IsOrMemory (shown (member_named id d.entries) q.accept) o → DoesTask task.Shows q o d d
shows q id o d same (inl is) = inl (subst (λ (x : List ℕ). o ≡ shown (member_named x d.entries) q.accept) same is, refl)
shows q id o d same (inr memory) = inr (memory, refl)

pub puts : (q : RequestSeen) (id : List ℕ) (tree : Tree) (o : Outcome) (d t : Contents) → IsJudged q (task.Puts tree) → id ≡ id_in q.path → PutsEntry id (json_of tree) o d t
    → DoesTask (task.Puts tree) q o d t
puts q id tree o d t j same done =
    inl (json_of tree, body_is q (task.Puts tree) j, subst (λ (x : List ℕ). PutsEntry x (json_of tree) o d t) same done)

pub patches : (q : RequestSeen) (id : List ℕ) (tree : Tree) (o : Outcome) (d t : Contents) → IsJudged q (task.Patches tree) → id ≡ id_in q.path → PatchesEntry id (json_of tree) o d t
    → DoesTask (task.Patches tree) q o d t
patches q id tree o d t j same done =
    inl (json_of tree, body_is q (task.Patches tree) j, subst (λ (x : List ℕ). PatchesEntry x (json_of tree) o d t) same done)

pub removes : (q : RequestSeen) (id : List ℕ) (o : Outcome) (d t : Contents) → id ≡ id_in q.path → RemovesEntry id o d t → DoesTask task.Removes q o d t
removes q id o d t same done = inl (subst (λ (x : List ℕ). RemovesEntry x o d t) same done)

-- and with times
pub lists_at : (q : RequestSeen) (now : ℕ) (o : Outcome) (r s : Registered) → IsOrMemory (listed_by (window_of q.query) (shown_entries r)) o → s ≡ r → DoesTaskAt task.Lists q now o r s
lists_at q now o r s (inl is) left = inl (is, left)
lists_at q now o r s (inr memory) left = inr (memory, left)

pub creates_at : (q : RequestSeen) (tree : Tree) (now : ℕ) (o : Outcome) (r s : Registered) → IsJudged q (task.Creates tree) → CreatesEntryAt (json_of tree) now o r s
    → DoesTaskAt (task.Creates tree) q now o r s
creates_at q tree now o r s j done = inl (json_of tree, body_is q (task.Creates tree) j, done)

pub shows_at : (q : RequestSeen) (id : List ℕ) (now : ℕ) (o : Outcome) (r s : Registered) → id ≡ id_in q.path → IsOrMemory (shown (shown_under id r) q.accept) o → s ≡ r
    → DoesTaskAt task.Shows q now o r s
shows_at q id now o r s same (inl is) left = inl (subst (λ (x : List ℕ). o ≡ shown (shown_under x r) q.accept) same is, left)
shows_at q id now o r s same (inr memory) left = inr (memory, left)

pub puts_at : (q : RequestSeen) (id : List ℕ) (tree : Tree) (now : ℕ) (o : Outcome) (r s : Registered) → IsJudged q (task.Puts tree) → id ≡ id_in q.path → PutsEntryAt id (json_of tree) now o r s
    → DoesTaskAt (task.Puts tree) q now o r s
puts_at q id tree now o r s j same done =
    inl (json_of tree, body_is q (task.Puts tree) j, subst (λ (x : List ℕ). PutsEntryAt x (json_of tree) now o r s) same done)

pub patches_at : (q : RequestSeen) (id : List ℕ) (tree : Tree) (now : ℕ) (o : Outcome) (r s : Registered) → IsJudged q (task.Patches tree) → id ≡ id_in q.path → PatchesEntryAt id (json_of tree) now o r s
    → DoesTaskAt (task.Patches tree) q now o r s
patches_at q id tree now o r s j same done =
    inl (json_of tree, body_is q (task.Patches tree) j, subst (λ (x : List ℕ). PatchesEntryAt x (json_of tree) now o r s) same done)

pub removes_at : (q : RequestSeen) (id : List ℕ) (now : ℕ) (o : Outcome) (r s : Registered) → id ≡ id_in q.path → RemovesEntryAt id o r s → DoesTaskAt task.Removes q now o r s
removes_at q id now o r s same done = inl (subst (λ (x : List ℕ). RemovesEntryAt x o r s) same done)

-- so the request acts on what stands
does_untimed : (q : RequestSeen) (t : DirectoryTask) (now : ℕ) (o : Outcome) (d e : Contents) → IsJudged q t → DoesTask t q o d e → ActsOnStanding q now o (kept.Untimed d) (kept.Untimed e)
does_untimed q t now o d e j (inl done) = performs (act_of_task t) (asked_act q t j) j.unrefused (e, done, refl)
does_untimed q t now o d e j (inr memory) = is_out_of_memory memory.0 (ap (λ (x : Contents). kept.Untimed x) memory.1)

does_timed : (q : RequestSeen) (t : DirectoryTask) (now : ℕ) (o : Outcome) (r s : Registered) → IsJudged q t → DoesTaskAt t q now o r s → ActsOnStanding q now o (kept.Timed r) (kept.Timed s)
does_timed q t now o r s j (inl done) = performs (act_of_task t) (asked_act q t j) j.unrefused (s, done, refl)
does_timed q t now o r s j (inr memory) = is_out_of_memory memory.0 (ap (λ (x : Registered). kept.Timed x) memory.1)

pub acts_untimed : (q : RequestSeen) (t : DirectoryTask) (now : ℕ) (o : Outcome) (d e : Contents) (old new : ServedEntries) → old ≡ kept.Untimed d → new ≡ kept.Untimed e → IsJudged q t → DoesTask t q o d e
    → ActsOnStanding q now o (standing_at now old) new
acts_untimed q t now o d e old new was is j done =
    subst (λ (x : ServedEntries). ActsOnStanding q now o (standing_at now x) new) (sym was)
    (subst (λ (x : ServedEntries). ActsOnStanding q now o (kept.Untimed d) x) (sym is) (does_untimed q t now o d e j done))

pub acts_timed : (q : RequestSeen) (t : DirectoryTask) (now : ℕ) (o : Outcome) (r s : Registered) (old new : ServedEntries) → old ≡ kept.Timed r → new ≡ kept.Timed s → IsJudged q t → DoesTaskAt t q now o (standing now r) s
    → ActsOnStanding q now o (standing_at now old) new
acts_timed q t now o r s old new was is j done =
    subst (λ (x : ServedEntries). ActsOnStanding q now o (standing_at now x) new) (sym was)
    (subst (λ (x : ServedEntries). ActsOnStanding q now o (kept.Timed (standing now r)) x) (sym is) (does_timed q t now o (standing now r) s j done))

-- a request that is refused
pub refused : (q : RequestSeen) (now : ℕ) (o : Outcome) (d t : ServedEntries) → IsRefusedOrMemory q o → t ≡ d → ActsOnStanding q now o d t
refused q now o d t (inl memory) left = is_out_of_memory memory left
refused q now o d t (inr is) left = refuses is left

-- ---- where it was asked for

abbrev pub is_on_entry : DirectoryAct → Bool
is_on_entry act.Lists = false
is_on_entry act.Creates = false
is_on_entry a = true

at_entry : (form : RouteKind) (v : Verb) → (is_of_directory form ≡ false → ⊥) → is_on_entry (act_of form v) ≡ true → form ≡ route.Entry
at_entry route.Entry v of_directory on = refl
at_entry route.Things verb.Post of_directory on = absurd cc
at_entry route.Things verb.Get of_directory on = absurd cc
at_entry route.Things verb.Head of_directory on = absurd cc
at_entry route.Things verb.Put of_directory on = absurd cc
at_entry route.Things verb.Patch of_directory on = absurd cc
at_entry route.Things verb.Delete of_directory on = absurd cc
at_entry route.Things verb.Other of_directory on = absurd cc
at_entry form v of_directory on = absurd (of_directory refl)

the_act : (form : RouteKind) (v : Verb) (a : DirectoryAct) (b : Bool) → (if b then Some (act_of form v) else None) ≡ Some a → act_of form v ≡ a
the_act form v a true e = same_Some (act_of form v) a e
the_act form v a false e = absurd cc

pub on_entry : (q : RequestSeen) (t : DirectoryTask) → IsJudged q t → is_on_entry (act_of_task t) ≡ true → route_of q.path ≡ route.Entry
on_entry q t j on =
    let is = the_act (route_of q.path) q.verb (act_of_task t) (is_listed q.verb (verbs_of (route_of q.path) no_flags)) (asked_act q t j) in
    at_entry (route_of q.path) q.verb j.unrefused.0 (ap is_on_entry is ∙ on)
