-- A request to the directory that is out of memory leaves its entries as they are.
use Rattle.std.proofs.Common.{◌≡◌, ℕ, Bool, true, false, List, Some, sym, ap, ◌∙◌, inl, inr}
use Rattle.wot_json.specs.Tree.{Json}
use Rattle.thing_ops.specs.declared.outcome.Outcome.{Outcome}
use Rattle.thing_ops.specs.declared.outcome.Outcome.TheVariants as outcome
use Rattle.thing_ops.specs.Requests.{RequestSeen}
use Rattle.wot_directory.specs.Contents.{Contents}
use Rattle.wot_registry.specs.Registry.{Registered}
use Rattle.directory_requests.specs.declared.act.DirectoryAct.{DirectoryAct}
use Rattle.directory_requests.specs.declared.act.DirectoryAct.TheVariants as act
use Rattle.directory_requests.specs.declared.server.ServedEntries.{ServedEntries}
use Rattle.directory_requests.specs.declared.server.ServedEntries.TheVariants as kept
use Rattle.directory_requests.specs.Requests.{put_outcome, CreatesEntry, PutsEntry, PatchesEntry, RemovesEntry, Performs, CreatesEntryAt, PutsEntryAt, PatchesEntryAt, RemovesEntryAt, PerformsAt, PerformsOn, standing_at, ActsOnStanding, refuses, is_out_of_memory, performs, DirectoryActs}

put_isnt : (is_new : Bool) → put_outcome is_new ≡ outcome.Memory → ⊥
put_isnt true is = cc
put_isnt false is = cc

-- ---- entries without times

created : (description : Json) (o : Outcome) (d t : Contents) → CreatesEntry description o d t → o ≡ outcome.Memory → t ≡ d
created description o d t (inl p) memory = absurd (let e : outcome.Created (Some p.0) ≡ outcome.Memory = sym p.2 ∙ memory in cc)
created description o d t (inr p) memory = p.3

put : (id : List ℕ) (description : Json) (o : Outcome) (d t : Contents) → PutsEntry id description o d t → o ≡ outcome.Memory → t ≡ d
put id description o d t (inl p) memory = absurd (put_isnt p.0 (sym p.2 ∙ memory))
put id description o d t (inr p) memory = p.3

patched : (id : List ℕ) (patch : Json) (o : Outcome) (d t : Contents) → PatchesEntry id patch o d t → o ≡ outcome.Memory → t ≡ d
patched id patch o d t (inl p) memory = absurd (let e : outcome.Changed ≡ outcome.Memory = sym p.1 ∙ memory in cc)
patched id patch o d t (inr p) memory = p.3

removed : (id : List ℕ) (o : Outcome) (d t : Contents) → RemovesEntry id o d t → o ≡ outcome.Memory → t ≡ d
removed id o d t (inl p) memory = absurd (let e : outcome.Deleted ≡ outcome.Memory = sym p.1 ∙ memory in cc)
removed id o d t (inr p) memory = p.3

performed : (a : DirectoryAct) (q : RequestSeen) (o : Outcome) (d t : Contents) → Performs a q o d t → o ≡ outcome.Memory → t ≡ d
performed act.Lists q o d t p memory = p.1
performed act.Creates q o d t p memory = created p.0 o d t p.2 memory
performed act.Shows q o d t p memory = p.1
performed act.Puts q o d t p memory = put _ p.0 o d t p.2 memory
performed act.Patches q o d t p memory = patched _ p.0 o d t p.2 memory
performed act.Removes q o d t p memory = removed _ o d t p memory

-- ---- entries with times

created_at : (description : Json) (now : ℕ) (o : Outcome) (r s : Registered) → CreatesEntryAt description now o r s → o ≡ outcome.Memory → s ≡ r
created_at description now o r s (inl p) memory = absurd (let e : outcome.Created (Some p.0) ≡ outcome.Memory = sym p.2 ∙ memory in cc)
created_at description now o r s (inr p) memory = p.3

put_at : (id : List ℕ) (description : Json) (now : ℕ) (o : Outcome) (r s : Registered) → PutsEntryAt id description now o r s → o ≡ outcome.Memory → s ≡ r
put_at id description now o r s (inl p) memory = absurd (put_isnt p.0 (sym p.2 ∙ memory))
put_at id description now o r s (inr p) memory = p.3

patched_at : (id : List ℕ) (patch : Json) (now : ℕ) (o : Outcome) (r s : Registered) → PatchesEntryAt id patch now o r s → o ≡ outcome.Memory → s ≡ r
patched_at id patch now o r s (inl p) memory = absurd (let e : outcome.Changed ≡ outcome.Memory = sym p.1 ∙ memory in cc)
patched_at id patch now o r s (inr p) memory = p.3

removed_at : (id : List ℕ) (o : Outcome) (r s : Registered) → RemovesEntryAt id o r s → o ≡ outcome.Memory → s ≡ r
removed_at id o r s (inl p) memory = absurd (let e : outcome.Deleted ≡ outcome.Memory = sym p.1 ∙ memory in cc)
removed_at id o r s (inr p) memory = p.3

performed_at : (a : DirectoryAct) (q : RequestSeen) (now : ℕ) (o : Outcome) (r s : Registered) → PerformsAt a q now o r s → o ≡ outcome.Memory → s ≡ r
performed_at act.Lists q now o r s p memory = p.1
performed_at act.Creates q now o r s p memory = created_at p.0 now o r s p.2 memory
performed_at act.Shows q now o r s p memory = p.1
performed_at act.Puts q now o r s p memory = put_at _ p.0 now o r s p.2 memory
performed_at act.Patches q now o r s p memory = patched_at _ p.0 now o r s p.2 memory
performed_at act.Removes q now o r s p memory = removed_at _ o r s p memory

-- ---- requests

performed_on : (a : DirectoryAct) (q : RequestSeen) (now : ℕ) (o : Outcome) (d t : ServedEntries) → PerformsOn a q now o d t → o ≡ outcome.Memory → t ≡ d
performed_on a q now o (kept.Untimed d) t (e, does, is) memory = is ∙ ap (λ (x : Contents). kept.Untimed x) (performed a q o d e does memory)
performed_on a q now o (kept.Timed r) t (s, does, is) memory = is ∙ ap (λ (x : Registered). kept.Timed x) (performed_at a q now o r s does memory)

acted : (q : RequestSeen) (now : ℕ) (o : Outcome) (d t : ServedEntries) → ActsOnStanding q now o d t → o ≡ outcome.Memory → t ≡ d
acted q now o d t (refuses a after) memory = after
acted q now o d t (is_out_of_memory is after) memory = after
acted q now o d t (performs x asked none on) memory = performed_on x q now o d t on memory

pub entries_stay : (q : RequestSeen) (now : ℕ) (o : Outcome) (d t : ServedEntries) → DirectoryActs q now o d t → o ≡ outcome.Memory → t ≡ standing_at now d
entries_stay q now o d t acts memory = acted q now o (standing_at now d) t acts memory
