-- One request more to a directory whose entries have no times.
use Rattle.std.proofs.Common.{arith, ◌≡◌, ◌≢◌, ◌≤◌, ℕ, List, [], ◌∷◌, ◌++◌, length, refl, sym, ap, subst, ◌∙◌, inl, inr, Bool, true, false, cond}
use Rattle.std.specs.Prelude.{◌<◌, Option, Some, None, IsSome, slice_get}
use Rattle.std.specs.Str.{bytes_eq}
use Rattle.wot_json.specs.Tree.{Json, AreOrdered}
use Rattle.wot_json.specs.Lookup.{member_named}
use Rattle.wot_json.specs.Merge.{merge, with_member, without_member}
use Rattle.wot_json.specs.Reading.{tree_of}
use Rattle.wot_terms.specs.Faults.{faults_of, IsValid}
use Rattle.wot_terms.specs.declared.fault.TdFault.{TdFault}
use Rattle.wot_directory.specs.Contents.{Contents, Entries, most_entries}
use Rattle.wot_directory.specs.Directory.{HasRoom, IsFirstFault, Puts, Creates, IsPatched, Removes, HasPutFault, HasCreateFault, HasPatchFault, HasRemoveFault}
use Rattle.wot_directory.specs.declared.fault.DirFault.{DirFault}
use Rattle.wot_directory.specs.declared.fault.DirFault.TheVariants.{NotFound, Invalid, IdDiffers, HasId, Full, NoMemory}
use Rattle.wot_directory.proofs.EntryLaws.{named_with, named_without}
use Rattle.wot_registry.specs.Laws.{History, Entry, registered, removed, last_entry}
use Rattle.wot_registry.proofs.HistoryLaws.{description_of}
use Rattle.wot_registry.proofs.Standing.{with_ordered, without_ordered}
use Rattle.thing_ops.specs.declared.outcome.Outcome.{Outcome}
use Rattle.thing_ops.specs.declared.outcome.Outcome.TheVariants as outcome
use Rattle.thing_ops.specs.Requests.{RequestSeen}
use Rattle.directory_requests.specs.declared.server.ServedEntries.{ServedEntries}
use Rattle.directory_requests.specs.declared.server.ServedEntries.TheVariants as kept
use Rattle.directory_requests.specs.declared.act.DirectoryAct.{DirectoryAct}
use Rattle.directory_requests.specs.declared.act.DirectoryAct.TheVariants as act
use Rattle.directory_requests.specs.Asked.{act_asked, id_in, refusals, IsUnrefused}
use Rattle.directory_requests.specs.Requests.{outcome_of, listed_by, shown, put_outcome, Performs, DirectoryActs, refuses, is_out_of_memory, performs}
use Rattle.directory_requests.specs.Window.{window_of}
use Rattle.servient_laws.specs.DirectoryRuns.{AreStanding, Makes, puts, creates, patches, removes, leaves, IsPutInVain, IsCreatedInVain, put_in_vain, created_in_vain, is_change}
use Rattle.servient_laws.proofs.DirectoryAnswers.{quiet_as, quiet_refused, refused_not, unchanged_by, is_full, quiet_list, quiet_entry, not_full_put, request_at, answers, never_full, vain_put, vain_create, refused_answer, memory_answer, unchanged_memory, HasCome, GoesOn}

-- ---- the entries after a change

named_after : (b : Bool) (d : Json) (e : Entry) (before : Option Json) (last : Option Entry) → e.description ≡ d → before ≡ description_of last
    → cond b (Some d) before ≡ description_of (cond b (Some e) last)
named_after true d e before last own is = ap (λ (x : Json). Some x) (sym own)
named_after false d e before last own is = is

named_gone : (b : Bool) (before : Option Json) (last : Option Entry) → before ≡ description_of last → cond b None before ≡ description_of (cond b None last)
named_gone true before last is = refl
named_gone false before last is = is

no_fault : (f : TdFault) (d : Json) → IsValid d → IsFirstFault f d → ⊥
no_fault f d valid first =
    let none : slice_get (faults_of d) 0 ≡ None = ap (λ (fs : List (ℕ × List ℕ)). slice_get fs 0) valid in
    let never : None ≡ Some (f.number, f.pointer) = sym none ∙ first in cc (never)

none_found : (o : Option Json) → o ≡ None → IsSome o → ⊥
none_found None is some = cc (some)
none_found (Some v) is some = cc (is)

module _ (now : ℕ) (history : History) (c : Contents) (ordered : AreOrdered c.entries) (named : (id : List ℕ) → member_named id c.entries ≡ description_of (last_entry id history)) where
  are_standing : AreStanding None now history c.entries
  are_standing = record { ordered = ordered; named = λ id. named id }

  left_as_it_was : (q : RequestSeen) (o : Outcome) (t : ServedEntries) → is_change o ≡ false → t ≡ kept.Untimed c
      → (made : History) × Makes None (request_at q now o) history made × HasCome None now (made ++ history) t
  left_as_it_was q o t unchanged is = ([], leaves unchanged refl, (c, is, ordered, named))

  with_one : (id : List ℕ) (d : Json) (after : Contents) (t : ServedEntries) → t ≡ kept.Untimed after → after.entries ≡ with_member id d c.entries
      → HasCome None now ((now, registered id d None) ∷ history) t
  with_one id d after t is entries = (
    after,
    is,
    subst AreOrdered (sym entries) (with_ordered id d c.entries ordered),
    λ x. ap (λ (es : Entries). member_named x es) entries ∙ named_with x id d c.entries
        ∙ named_after (bytes_eq x id) d _ (member_named x c.entries) (last_entry x history) refl (named x),
  )

  without_one : (id : List ℕ) (after : Contents) (t : ServedEntries) → t ≡ kept.Untimed after → after.entries ≡ without_member id c.entries
      → HasCome None now ((now, removed id) ∷ history) t
  without_one id after t is entries = (
    after,
    is,
    subst AreOrdered (sym entries) (without_ordered id c.entries ordered),
    λ x. ap (λ (es : Entries). member_named x es) entries ∙ named_without x id c.entries
        ∙ named_gone (bytes_eq x id) (member_named x c.entries) (last_entry x history) (named x),
  )

  module _ (q : RequestSeen) (o : Outcome) (t : ServedEntries) (unrefused : IsUnrefused q) (e : Contents) (t_is : t ≡ kept.Untimed e) where
    unchanged_t : e ≡ c → t ≡ kept.Untimed c
    unchanged_t same = t_is ∙ ap (λ (x : Contents). kept.Untimed x) same

    no_room : (id : List ℕ) (d : Json) → IsPutInVain None id d c.entries → HasRoom id c.entries → ⊥
    no_room id d vain (inl found) = none_found (member_named id c.entries) vain.new found
    no_room id d vain (inr few) = let full = vain.full in omega (arith, full, few)

    put_fault : (found : DirFault) (d : Json) → IsPutInVain None (id_in q.path) d c.entries → HasPutFault found (id_in q.path) d c → o ≡ outcome_of found → o ≢ outcome.Memory → o ≡ outcome.DirectoryFull
    put_fault (Invalid f) d vain fault is memory = absurd (no_fault f d vain.valid fault)
    put_fault IdDiffers d vain fault is memory = absurd (fault.1 vain.id_is)
    put_fault Full d vain fault is memory = is
    put_fault NoMemory d vain fault is memory = absurd (memory is)
    put_fault NotFound d vain fault is memory = absurd fault
    put_fault HasId d vain fault is memory = absurd fault

    create_fault : (found : DirFault) (d : Json) → IsCreatedInVain None d c.entries → HasCreateFault found d c → o ≡ outcome_of found → o ≢ outcome.Memory → o ≡ outcome.DirectoryFull
    create_fault HasId d vain fault is memory = absurd (none_found _ vain.nameless fault)
    create_fault (Invalid f) d vain fault is memory = absurd (no_fault f d vain.valid fault.1)
    create_fault Full d vain fault is memory = is
    create_fault NoMemory d vain fault is memory = absurd (memory is)
    create_fault NotFound d vain fault is memory = absurd fault
    create_fault IdDiffers d vain fault is memory = absurd fault

    put_done : (d : Json) (is_new : Bool) → act_asked q ≡ Some act.Puts → tree_of q.body ≡ Some d → Puts (id_in q.path) d c is_new e → o ≡ put_outcome is_new → GoesOn None now history q o t
    put_done d is_new asked tree done is = (
      c.entries,
      are_standing,
      answers None c.entries q now o act.Puts asked (λ e. absurd (cc (e))) (λ e. absurd (cc (e)))
          (λ memory. (
            λ full. absurd (not_full_put is_new o is full),
            λ finds. absurd (no_room (id_in q.path) d (vain_put None c.entries q now o act.Puts asked d tree refl finds) done.may.room),
          )),
      ((now, registered (id_in q.path) d None) ∷ [], puts d is_new asked is tree (None, refl, refl), with_one (id_in q.path) d e t t_is (ap (λ (x : Contents). x.entries) done.after_is)),
    )

    put_refused : (d : Json) (found : DirFault) → act_asked q ≡ Some act.Puts → tree_of q.body ≡ Some d → HasPutFault found (id_in q.path) d c → o ≡ outcome_of found → e ≡ c → GoesOn None now history q o t
    put_refused d found asked tree fault is same = (
      c.entries,
      are_standing,
      answers None c.entries q now o act.Puts asked (λ e. absurd (cc (e))) (λ e. absurd (cc (e)))
          (λ memory. (
            λ full.
                let f : HasPutFault Full (id_in q.path) d c = subst (λ (x : DirFault). HasPutFault x (id_in q.path) d c) (is_full found (sym is ∙ full)) fault in
                put_in_vain d asked unrefused tree (record { asked = (None, refl); valid = f.0; id_is = f.1; new = f.2; full = f.3 }),
            λ finds. put_fault found d (vain_put None c.entries q now o act.Puts asked d tree refl finds) fault is memory,
          )),
      left_as_it_was q o t (ap is_change is ∙ unchanged_by found) (unchanged_t same),
    )

    create_done : (d : Json) (id : List ℕ) → act_asked q ≡ Some act.Creates → tree_of q.body ≡ Some d → Creates d c id e → o ≡ outcome.Created (Some id) → GoesOn None now history q o t
    create_done d id asked tree done is = (
      c.entries,
      are_standing,
      answers None c.entries q now o act.Creates asked (λ e. absurd (cc (e))) (λ e. absurd (cc (e)))
          (λ memory. (
            λ full. let never : outcome.Created (Some id) ≡ outcome.DirectoryFull = sym is ∙ full in absurd (cc (never)),
            λ finds.
                let full = (vain_create None c.entries q now o act.Creates asked d tree refl finds).full in
                let few = done.may.room in
                absurd (too_many full few),
          )),
      ((now, registered id d None) ∷ [], creates id d asked is tree (None, refl, refl), with_one id d e t t_is (ap (λ (x : Contents). x.entries) done.after_is)),
    )
      where
        too_many : most_entries ≤ length c.entries → length c.entries < most_entries → ⊥
        too_many full few = omega (arith, full, few)

    create_refused : (d : Json) (found : DirFault) → act_asked q ≡ Some act.Creates → tree_of q.body ≡ Some d → HasCreateFault found d c → o ≡ outcome_of found → e ≡ c → GoesOn None now history q o t
    create_refused d found asked tree fault is same = (
      c.entries,
      are_standing,
      answers None c.entries q now o act.Creates asked (λ e. absurd (cc (e))) (λ e. absurd (cc (e)))
          (λ memory. (
            λ full.
                let f : HasCreateFault Full d c = subst (λ (x : DirFault). HasCreateFault x d c) (is_full found (sym is ∙ full)) fault in
                created_in_vain d asked unrefused tree (record { asked = (None, refl); nameless = f.0; valid = f.1; full = f.2 }),
            λ finds. create_fault found d (vain_create None c.entries q now o act.Creates asked d tree refl finds) fault is memory,
          )),
      left_as_it_was q o t (ap is_change is ∙ unchanged_by found) (unchanged_t same),
    )

    -- acts that never find the directory full
    other_act : (a : DirectoryAct) → act_asked q ≡ Some a → a ≢ act.Puts → a ≢ act.Creates → a ≢ act.Shows → a ≢ act.Lists → o ≢ outcome.DirectoryFull
        → (made : History) × Makes None (request_at q now o) history made × HasCome None now (made ++ history) t → GoesOn None now history q o t
    other_act a asked no_put no_create no_show no_list no_full goes = (
      c.entries,
      are_standing,
      answers None c.entries q now o a asked (λ e. absurd (no_show e)) (λ e. absurd (no_list e)) (never_full None c.entries q now o a asked no_full no_put no_create),
      goes,
    )

    entry_found : (id : List ℕ) (d : Json) → member_named id c.entries ≡ Some d → (x : Entry) × (last_entry id history ≡ Some x) × (x.description ≡ d)
    entry_found id d found = by (last_entry id history) refl (sym (named id) ∙ found)
      where
        or_null : Json → Option Json → Json
        or_null none None = none
        or_null none (Some x) = x

        by : (x : Option Entry) → last_entry id history ≡ x → description_of (last_entry id history) ≡ Some d → (x : Entry) × (last_entry id history ≡ Some x) × (x.description ≡ d)
        by None is there = let never : description_of None ≡ Some d = subst (λ (x : Option Entry). description_of x ≡ Some d) is there in absurd (cc (never))
        by (Some x) is there = (x, is, ap (or_null x.description) (subst (λ (x : Option Entry). description_of x ≡ Some d) is there))

    patch_done : (p merged d : Json) → act_asked q ≡ Some act.Patches → tree_of q.body ≡ Some p → member_named (id_in q.path) c.entries ≡ Some d → IsPatched d p merged
        → e.entries ≡ with_member (id_in q.path) merged c.entries → o ≡ outcome.Changed → GoesOn None now history q o t
    patch_done p merged d asked tree found done entries is =
        let x = entry_found (id_in q.path) d found in
        other_act act.Patches asked (λ e. cc (e)) (λ e. cc (e)) (λ e. cc (e)) (λ e. cc (e)) (λ full. let never : outcome.Changed ≡ outcome.DirectoryFull = sym is ∙ full in cc (never)) (
          (now, registered (id_in q.path) merged None) ∷ [],
          patches p x.0 asked is tree x.1 (None, refl, ap (λ (m : Json). (now, registered (id_in q.path) m None) ∷ []) (done.merged ∙ ap (λ (k : Json). merge k p) (sym x.2))),
          with_one (id_in q.path) merged e t t_is entries,
        )

    patch_refused : (found : DirFault) (p : Json) → act_asked q ≡ Some act.Patches → HasPatchFault found (id_in q.path) p c → o ≡ outcome_of found → e ≡ c → GoesOn None now history q o t
    patch_refused found p asked fault is same =
        other_act act.Patches asked (λ e. cc (e)) (λ e. cc (e)) (λ e. cc (e)) (λ e. cc (e)) (λ full. subst (λ (x : DirFault). HasPatchFault x (id_in q.path) p c) (is_full found (sym is ∙ full)) fault)
        (left_as_it_was q o t (ap is_change is ∙ unchanged_by found) (unchanged_t same))

    remove_done : act_asked q ≡ Some act.Removes → Removes (id_in q.path) c e → o ≡ outcome.Deleted → GoesOn None now history q o t
    remove_done asked done is =
        other_act act.Removes asked (λ e. cc (e)) (λ e. cc (e)) (λ e. cc (e)) (λ e. cc (e)) (λ full. let never : outcome.Deleted ≡ outcome.DirectoryFull = sym is ∙ full in cc (never))
        ((now, removed (id_in q.path)) ∷ [], removes asked is refl, without_one (id_in q.path) e t t_is (ap (λ (x : Contents). x.entries) done.after_is))

    remove_refused : (found : DirFault) → act_asked q ≡ Some act.Removes → HasRemoveFault found (id_in q.path) c → o ≡ outcome_of found → e ≡ c → GoesOn None now history q o t
    remove_refused found asked fault is same =
        other_act act.Removes asked (λ e. cc (e)) (λ e. cc (e)) (λ e. cc (e)) (λ e. cc (e)) (λ full. subst (λ (x : DirFault). HasRemoveFault x (id_in q.path) c) (is_full found (sym is ∙ full)) fault)
        (left_as_it_was q o t (ap is_change is ∙ unchanged_by found) (unchanged_t same))

    list_done : act_asked q ≡ Some act.Lists → o ≡ listed_by (window_of q.query) c.entries → e ≡ c → GoesOn None now history q o t
    list_done asked is same =
        let quiet = quiet_as o _ is (quiet_list (window_of q.query) c.entries) in (
          c.entries,
          are_standing,
          answers None c.entries q now o act.Lists asked (λ e. absurd (cc (e))) (λ e. is) (never_full None c.entries q now o act.Lists asked quiet.1 (λ e. cc (e)) (λ e. cc (e))),
          left_as_it_was q o t quiet.0 (unchanged_t same),
        )

    show_done : act_asked q ≡ Some act.Shows → o ≡ shown (member_named (id_in q.path) c.entries) q.accept → e ≡ c → GoesOn None now history q o t
    show_done asked is same =
        let quiet = quiet_as o _ is (quiet_entry (member_named (id_in q.path) c.entries) q.accept) in (
          c.entries,
          are_standing,
          answers None c.entries q now o act.Shows asked (λ e. is) (λ e. absurd (cc (e))) (never_full None c.entries q now o act.Shows asked quiet.1 (λ e. cc (e)) (λ e. cc (e))),
          left_as_it_was q o t quiet.0 (unchanged_t same),
        )

    acts_done : (a : DirectoryAct) → act_asked q ≡ Some a → Performs a q o c e → GoesOn None now history q o t
    acts_done act.Lists asked does = list_done asked does.0 does.1
    acts_done act.Shows asked does = show_done asked does.0 does.1
    acts_done act.Creates asked (d, tree, inl done) = create_done d done.0 asked tree done.1 done.2
    acts_done act.Creates asked (d, tree, inr refused) = create_refused d refused.0 asked tree refused.1 refused.2 refused.3
    acts_done act.Puts asked (d, tree, inl done) = put_done d done.0 asked tree done.1 done.2
    acts_done act.Puts asked (d, tree, inr refused) = put_refused d refused.0 asked tree refused.1 refused.2 refused.3
    acts_done act.Patches asked (p, tree, inl done) = patch_done p done.0.0 done.0.1.0 asked tree done.0.1.1 done.0.1.2 (ap (λ (x : Contents). x.entries) done.0.2) done.1
    acts_done act.Patches asked (p, tree, inr refused) = patch_refused refused.0 p asked refused.1 refused.2 refused.3
    acts_done act.Removes asked (inl done) = remove_done asked done.0 done.1
    acts_done act.Removes asked (inr refused) = remove_refused refused.0 asked refused.1 refused.2 refused.3

  pub untimed_request : (q : RequestSeen) (o : Outcome) (t : ServedEntries) → DirectoryActs q now o (kept.Untimed c) t → GoesOn None now history q o t
  untimed_request q o t (refuses refused is) =
      let quiet = quiet_refused q o refusals refused in
      (c.entries, are_standing, refused_answer None c.entries q now o quiet (refused_not q o refusals refused), left_as_it_was q o t quiet.0 is)
  untimed_request q o t (is_out_of_memory memory is) =
      (c.entries, are_standing, memory_answer None c.entries q now o memory, left_as_it_was q o t (unchanged_memory o memory) is)
  untimed_request q o t (performs a asked unrefused on) = acts_done q o t unrefused on.0 on.2 a asked on.1
