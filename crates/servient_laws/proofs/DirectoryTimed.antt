-- One request more to a directory whose entries have times.
use Rattle.std.proofs.Common.{arith, ◌≡◌, ◌≢◌, ◌≤◌, ℕ, List, [], ◌∷◌, ◌++◌, refl, sym, ap, subst, ◌∙◌, inl, inr, Bool, false}
use Rattle.std.specs.Prelude.{Option, Some, None, IsSome, option_map, Result, Ok, Err}
use Rattle.wot_json.specs.Tree.{Json}
use Rattle.wot_json.specs.Lookup.{member_named}
use Rattle.wot_json.specs.Merge.{merge}
use Rattle.wot_json.specs.Reading.{tree_of}
use Rattle.wot_directory.specs.Contents.{Entries}
use Rattle.wot_directory.specs.declared.fault.DirFault.TheVariants.{NoMemory}
use Rattle.wot_registry.specs.declared.fault.RegFault.{RegFault}
use Rattle.wot_registry.specs.declared.fault.RegFault.TheVariants.{Ttl, Directory}
use Rattle.wot_registry.specs.Times.{Times, times_of}
use Rattle.wot_registry.specs.Registration.{asked_ttl, without_registration, with_ttl, shown as with_registration}
use Rattle.wot_registry.specs.Registry.{Registered, standing, own_ttl, PutsAt, CreatesAt, ReplacesAt, RemovesAt, IsPutFault, IsCreateFault, IsPatchFault, IsRemoveFault, shown_under, shown_entries}
use Rattle.wot_registry.specs.Laws as registry
use Rattle.wot_registry.specs.Laws.{History, Entry, registered, Does, Comes, goes_on, still, last_entry}
use Rattle.wot_registry.proofs.FullLaws.{put_exactly, create_exactly}
use Rattle.wot_registry.proofs.HistoryLaws.{description_of, times_in, follows, gives_out, lists_all}
use Rattle.thing_ops.specs.declared.outcome.Outcome.{Outcome}
use Rattle.thing_ops.specs.declared.outcome.Outcome.TheVariants as outcome
use Rattle.thing_ops.specs.Requests.{RequestSeen}
use Rattle.directory_requests.specs.declared.server.ServedEntries.{ServedEntries}
use Rattle.directory_requests.specs.declared.server.ServedEntries.TheVariants as kept
use Rattle.directory_requests.specs.declared.act.DirectoryAct.{DirectoryAct}
use Rattle.directory_requests.specs.declared.act.DirectoryAct.TheVariants as act
use Rattle.directory_requests.specs.Asked.{act_asked, id_in, refusals, IsUnrefused}
use Rattle.directory_requests.specs.Requests.{outcome_of_fault, listed_by, shown, put_outcome, PerformsAt, DirectoryActs, refuses, is_out_of_memory, performs}
use Rattle.directory_requests.specs.Window.{window_of}
use Rattle.servient_laws.specs.DirectoryRuns.{AreStanding, IsRegistered, Makes, puts, creates, patches, removes, leaves, IsPutInVain, IsCreatedInVain, put_in_vain, created_in_vain, is_change}
use Rattle.servient_laws.proofs.DirectoryAnswers.{quiet_as, quiet_refused, refused_not, unchanged_by_any, is_any_full, quiet_list, quiet_entry, not_full_put, request_at, answers, never_full, vain_put, vain_create, refused_answer, memory_answer, unchanged_memory, HasCome, GoesOn}

module _ (epoch last now : ℕ) (history : History) (r : Registered) (comes : Comes epoch last history r) (from : last ≤ now) where
  abbrev left : Registered
  left = standing now r

  abbrev given : Entries
  given = shown_entries left

  are_standing : AreStanding (Some epoch) now history given
  are_standing =
      let all = lists_all epoch last now history r comes from in
      record { ordered = all.0; named = λ id. all.1 id }

  -- under one id as in the list
  given_under : (id : List ℕ) → member_named id given ≡ shown_under id left
  given_under id = (lists_all epoch last now history r comes from).1 id ∙ sym (gives_out epoch last now history r comes from id)

  -- nothing changed but that some are over
  left_as_it_was : (q : RequestSeen) (o : Outcome) (t : ServedEntries) → is_change o ≡ false → t ≡ kept.Timed left
      → (made : History) × Makes (Some epoch) (request_at q now o) history made × HasCome (Some epoch) now (made ++ history) t
  left_as_it_was q o t unchanged is =
      ([], leaves unchanged refl, (left, now, is, omega arith, goes_on last now history [] r left comes from (registry.leaves refl refl)))

  -- something did
  changed_by : (q : RequestSeen) (o : Outcome) (t : ServedEntries) (s : Registered) (made : History) → t ≡ kept.Timed s → Does now r s made → Makes (Some epoch) (request_at q now o) history made
      → (made : History) × Makes (Some epoch) (request_at q now o) history made × HasCome (Some epoch) now (made ++ history) t
  changed_by q o t s made is does makes = (made, makes, (s, now, is, omega arith, goes_on last now history made r s comes from does))

  -- ---- room, by the entries and by what is given out

  none_given : (o : Option Json) (f : Json → Json) → option_map f o ≡ None → o ≡ None
  none_given None f is = refl
  none_given (Some d) f is = absurd (cc (is))

  some_of : (o : Option (Option ℕ)) → IsSome o → (ttl : Option ℕ) × (o ≡ Some ttl)
  some_of None some = absurd (cc (some))
  some_of (Some ttl) some = (ttl, refl)

  some_by : (o : Option (Option ℕ)) (ttl : Option ℕ) → o ≡ Some ttl → IsSome o
  some_by o ttl is = subst IsSome (sym is) refl

  put_given : (id : List ℕ) (d : Json) → registry.IsPutInVain id d left → IsPutInVain (Some epoch) id d given
  put_given id d vain = record {
    asked = some_of (asked_ttl d) vain.asked;
    valid = vain.valid;
    id_is = vain.id_is;
    new = given_under id ∙ ap (λ (x : Option Json). option_map (with_registration left.epoch (times_of id left.times)) x) vain.new;
    full = vain.full;
  }

  put_kept : (id : List ℕ) (d : Json) → IsPutInVain (Some epoch) id d given → registry.IsPutInVain id d left
  put_kept id d vain = record {
    asked = some_by (asked_ttl d) vain.asked.0 vain.asked.1;
    valid = vain.valid;
    id_is = vain.id_is;
    new = none_given (member_named id left.contents.entries) (with_registration left.epoch (times_of id left.times)) (sym (given_under id) ∙ vain.new);
    full = vain.full;
  }

  create_given : (d : Json) → registry.IsCreatedInVain d left → IsCreatedInVain (Some epoch) d given
  create_given d vain = record { asked = some_of (asked_ttl d) vain.asked; nameless = vain.nameless; valid = vain.valid; full = vain.full }

  create_kept : (d : Json) → IsCreatedInVain (Some epoch) d given → registry.IsCreatedInVain d left
  create_kept d vain = record { asked = some_by (asked_ttl d) vain.asked.0 vain.asked.1; nameless = vain.nameless; valid = vain.valid; full = vain.full }

  -- ---- the acts

  not_memory : (found : RegFault) (o : Outcome) → o ≡ outcome_of_fault found → o ≢ outcome.Memory → found ≢ Directory NoMemory
  not_memory found o is memory same = memory (is ∙ ap outcome_of_fault same)

  module _ (q : RequestSeen) (o : Outcome) (t : ServedEntries) (unrefused : IsUnrefused q) (s : Registered) (t_is : t ≡ kept.Timed s) where
    put_done : (d : Json) (is_new : Bool) → act_asked q ≡ Some act.Puts → tree_of q.body ≡ Some d → PutsAt (id_in q.path) d now left is_new s → o ≡ put_outcome is_new
        → GoesOn (Some epoch) now history q o t
    put_done d is_new asked tree done is = (
      given,
      are_standing,
      answers (Some epoch) given q now o act.Puts asked (λ e. absurd (cc (e))) (λ e. absurd (cc (e)))
          (λ memory. (
            λ full. absurd (not_full_put is_new o is full),
            λ finds.
                let never : Ok is_new ≡ Err registry.full =
                (put_exactly (id_in q.path) d now r s (Ok is_new) done tt (λ e. cc (e))).1 (put_kept (id_in q.path) d (vain_put (Some epoch) given q now o act.Puts asked d tree refl finds)) in
                absurd (cc (never)),
          )),
      changed_by q o t s _ t_is (registry.puts (id_in q.path) d is_new done refl) (puts d is_new asked is tree (done.ttl, done.asked, refl)),
    )

    put_refused : (d : Json) (found : RegFault) → act_asked q ≡ Some act.Puts → tree_of q.body ≡ Some d → IsPutFault found (id_in q.path) d left → o ≡ outcome_of_fault found → s ≡ left
        → GoesOn (Some epoch) now history q o t
    put_refused d found asked tree fault is same = (
      given,
      are_standing,
      answers (Some epoch) given q now o act.Puts asked (λ e. absurd (cc (e))) (λ e. absurd (cc (e)))
          (λ memory.
          let exactly = put_exactly (id_in q.path) d now r s (Err found) tt fault (λ e. not_memory found o is memory (ap (λ (x : Result Bool RegFault). fault_in x) e)) in (
            λ full. put_in_vain d asked unrefused tree (put_given (id_in q.path) d (exactly.0 (ap (λ (x : RegFault). Err x) (is_any_full found (sym is ∙ full))))),
            λ finds. is ∙ ap (λ (x : Result Bool RegFault). outcome_of_fault (fault_in x)) (exactly.1 (put_kept (id_in q.path) d (vain_put (Some epoch) given q now o act.Puts asked d tree refl finds))),
          )),
      left_as_it_was q o t (ap is_change is ∙ unchanged_by_any found) (t_is ∙ ap (λ (x : Registered). kept.Timed x) same),
    )
      where
        fault_in : Result Bool RegFault → RegFault
        fault_in (Ok b) = Ttl
        fault_in (Err e) = e

    create_done : (d : Json) (id : List ℕ) → act_asked q ≡ Some act.Creates → tree_of q.body ≡ Some d → CreatesAt d now left id s → o ≡ outcome.Created (Some id)
        → GoesOn (Some epoch) now history q o t
    create_done d id asked tree done is = (
      given,
      are_standing,
      answers (Some epoch) given q now o act.Creates asked (λ e. absurd (cc (e))) (λ e. absurd (cc (e)))
          (λ memory. (
            λ full. let never : outcome.Created (Some id) ≡ outcome.DirectoryFull = sym is ∙ full in absurd (cc (never)),
            λ finds.
                let never : Ok id ≡ Err registry.full =
                (create_exactly d now r s (Ok id) done tt (λ e. cc (e))).1 (create_kept d (vain_create (Some epoch) given q now o act.Creates asked d tree refl finds)) in
                absurd (cc (never)),
          )),
      changed_by q o t s _ t_is (registry.creates id d done refl) (creates id d asked is tree (done.ttl, done.asked, refl)),
    )

    create_refused : (d : Json) (found : RegFault) → act_asked q ≡ Some act.Creates → tree_of q.body ≡ Some d → IsCreateFault found d left → o ≡ outcome_of_fault found → s ≡ left
        → GoesOn (Some epoch) now history q o t
    create_refused d found asked tree fault is same = (
      given,
      are_standing,
      answers (Some epoch) given q now o act.Creates asked (λ e. absurd (cc (e))) (λ e. absurd (cc (e)))
          (λ memory.
          let exactly = create_exactly d now r s (Err found) tt fault (λ e. not_memory found o is memory (ap (λ (x : Result (List ℕ) RegFault). fault_in x) e)) in (
            λ full. created_in_vain d asked unrefused tree (create_given d (exactly.0 (ap (λ (x : RegFault). Err x) (is_any_full found (sym is ∙ full))))),
            λ finds. is ∙ ap (λ (x : Result (List ℕ) RegFault). outcome_of_fault (fault_in x)) (exactly.1 (create_kept d (vain_create (Some epoch) given q now o act.Creates asked d tree refl finds))),
          )),
      left_as_it_was q o t (ap is_change is ∙ unchanged_by_any found) (t_is ∙ ap (λ (x : Registered). kept.Timed x) same),
    )
      where
        fault_in : Result (List ℕ) RegFault → RegFault
        fault_in (Ok b) = Ttl
        fault_in (Err e) = e

    -- acts that never find the directory full
    other_act : (a : DirectoryAct) → act_asked q ≡ Some a → a ≢ act.Puts → a ≢ act.Creates → a ≢ act.Shows → a ≢ act.Lists → o ≢ outcome.DirectoryFull
        → (made : History) × Makes (Some epoch) (request_at q now o) history made × HasCome (Some epoch) now (made ++ history) t → GoesOn (Some epoch) now history q o t
    other_act a asked no_put no_create no_show no_list no_full goes = (
      given,
      are_standing,
      answers (Some epoch) given q now o a asked (λ e. absurd (no_show e)) (λ e. absurd (no_list e)) (never_full (Some epoch) given q now o a asked no_full no_put no_create),
      goes,
    )

    -- the entry that a patch finds
    patched_entry : (id : List ℕ) (d : Json) → member_named id left.contents.entries ≡ Some d
        → (e : Entry) × (still now (last_entry id history) ≡ Some e) × (with_ttl e.times.ttl e.description ≡ with_ttl (own_ttl (times_of id left.times)) d)
    patched_entry id d found =
        let f = follows epoch last history r comes in
        by (still now (last_entry id history)) refl (sym (f.named_are now from id) ∙ found) (f.times_are now from id)
      where
        or_null : Json → Option Json → Json
        or_null none None = none
        or_null none (Some x) = x

        by : (e : Option Entry) → still now (last_entry id history) ≡ e → description_of (still now (last_entry id history)) ≡ Some d → times_of id left.times ≡ times_in (still now (last_entry id history))
            → (e : Entry) × (still now (last_entry id history) ≡ Some e) × (with_ttl e.times.ttl e.description ≡ with_ttl (own_ttl (times_of id left.times)) d)
        by None is found times = let never : description_of None ≡ Some d = subst (λ (x : Option Entry). description_of x ≡ Some d) is found in absurd (cc (never))
        by (Some e) is found times =
            let same : description_of (Some e) ≡ Some d = subst (λ (x : Option Entry). description_of x ≡ Some d) is found in
            let own : times_of id left.times ≡ Some e.times = times ∙ ap times_in is in
            (e, is, ap (λ (x : Json). with_ttl e.times.ttl x) (ap (or_null e.description) same) ∙ ap (λ (x : Option Times). with_ttl (own_ttl x) d) (sym own))

    patch_done : (p d : Json) → act_asked q ≡ Some act.Patches → tree_of q.body ≡ Some p → (found : member_named (id_in q.path) left.contents.entries ≡ Some d)
        → ReplacesAt (id_in q.path) (merge (with_ttl (own_ttl (times_of (id_in q.path) left.times)) d) p) now left s → o ≡ outcome.Changed
        → GoesOn (Some epoch) now history q o t
    patch_done p d asked tree found done is =
        let e = patched_entry (id_in q.path) d found in
        let description = merge (with_ttl (own_ttl (times_of (id_in q.path) left.times)) d) p in
        let made : History = (now, registered (id_in q.path) (without_registration description) done.ttl) ∷ [] in
        other_act act.Patches asked (λ e. cc (e)) (λ e. cc (e)) (λ e. cc (e)) (λ e. cc (e)) (λ full. let never : outcome.Changed ≡ outcome.DirectoryFull = sym is ∙ full in cc (never))
        (changed_by q o t s made t_is (registry.patches (id_in q.path) p description (d, found, refl) done refl)
        (patches p e.0 asked is tree e.1 (subst (λ (x : Json). IsRegistered (Some epoch) now (id_in q.path) (merge x p) made) (sym e.2) (done.ttl, done.asked, refl))))

    patch_refused : (found : RegFault) (p : Json) → act_asked q ≡ Some act.Patches → IsPatchFault found (id_in q.path) p left → o ≡ outcome_of_fault found → s ≡ left
        → GoesOn (Some epoch) now history q o t
    patch_refused found p asked fault is same =
        other_act act.Patches asked (λ e. cc (e)) (λ e. cc (e)) (λ e. cc (e)) (λ e. cc (e)) (λ full. subst (λ (x : RegFault). IsPatchFault x (id_in q.path) p left) (is_any_full found (sym is ∙ full)) fault)
        (left_as_it_was q o t (ap is_change is ∙ unchanged_by_any found) (t_is ∙ ap (λ (x : Registered). kept.Timed x) same))

    remove_done : act_asked q ≡ Some act.Removes → RemovesAt (id_in q.path) left s → o ≡ outcome.Deleted → GoesOn (Some epoch) now history q o t
    remove_done asked done is =
        other_act act.Removes asked (λ e. cc (e)) (λ e. cc (e)) (λ e. cc (e)) (λ e. cc (e)) (λ full. let never : outcome.Deleted ≡ outcome.DirectoryFull = sym is ∙ full in cc (never))
        (changed_by q o t s _ t_is (registry.removes (id_in q.path) done refl) (removes asked is refl))

    remove_refused : (found : RegFault) → act_asked q ≡ Some act.Removes → IsRemoveFault found (id_in q.path) left → o ≡ outcome_of_fault found → s ≡ left → GoesOn (Some epoch) now history q o t
    remove_refused found asked fault is same =
        other_act act.Removes asked (λ e. cc (e)) (λ e. cc (e)) (λ e. cc (e)) (λ e. cc (e)) (λ full. subst (λ (x : RegFault). IsRemoveFault x (id_in q.path) left) (is_any_full found (sym is ∙ full)) fault)
        (left_as_it_was q o t (ap is_change is ∙ unchanged_by_any found) (t_is ∙ ap (λ (x : Registered). kept.Timed x) same))

    list_done : act_asked q ≡ Some act.Lists → o ≡ listed_by (window_of q.query) given → s ≡ left → GoesOn (Some epoch) now history q o t
    list_done asked is same =
        let quiet = quiet_as o _ is (quiet_list (window_of q.query) given) in (
          given,
          are_standing,
          answers (Some epoch) given q now o act.Lists asked (λ e. absurd (cc (e))) (λ e. is) (never_full (Some epoch) given q now o act.Lists asked quiet.1 (λ e. cc (e)) (λ e. cc (e))),
          left_as_it_was q o t quiet.0 (t_is ∙ ap (λ (x : Registered). kept.Timed x) same),
        )

    show_done : act_asked q ≡ Some act.Shows → o ≡ shown (shown_under (id_in q.path) left) q.accept → s ≡ left → GoesOn (Some epoch) now history q o t
    show_done asked is same =
        let quiet = quiet_as o _ is (quiet_entry (shown_under (id_in q.path) left) q.accept) in (
          given,
          are_standing,
          answers (Some epoch) given q now o act.Shows asked (λ e. is ∙ ap (λ (x : Option Json). shown x q.accept) (sym (given_under (id_in q.path)))) (λ e. absurd (cc (e)))
              (never_full (Some epoch) given q now o act.Shows asked quiet.1 (λ e. cc (e)) (λ e. cc (e))),
          left_as_it_was q o t quiet.0 (t_is ∙ ap (λ (x : Registered). kept.Timed x) same),
        )

    acts_done : (a : DirectoryAct) → act_asked q ≡ Some a → PerformsAt a q now o left s → GoesOn (Some epoch) now history q o t
    acts_done act.Lists asked does = list_done asked does.0 does.1
    acts_done act.Shows asked does = show_done asked does.0 does.1
    acts_done act.Creates asked (d, tree, inl done) = create_done d done.0 asked tree done.1 done.2
    acts_done act.Creates asked (d, tree, inr refused) = create_refused d refused.0 asked tree refused.1 refused.2 refused.3
    acts_done act.Puts asked (d, tree, inl done) = put_done d done.0 asked tree done.1 done.2
    acts_done act.Puts asked (d, tree, inr refused) = put_refused d refused.0 asked tree refused.1 refused.2 refused.3
    acts_done act.Patches asked (p, tree, inl done) = patch_done p done.0.0 asked tree done.0.1 done.0.2 done.1
    acts_done act.Patches asked (p, tree, inr refused) = patch_refused refused.0 p asked refused.1 refused.2 refused.3
    acts_done act.Removes asked (inl done) = remove_done asked done.0 done.1
    acts_done act.Removes asked (inr refused) = remove_refused refused.0 asked refused.1 refused.2 refused.3

  pub timed_request : (q : RequestSeen) (o : Outcome) (t : ServedEntries) → DirectoryActs q now o (kept.Timed r) t → GoesOn (Some epoch) now history q o t
  timed_request q o t (refuses refused is) =
      let quiet = quiet_refused q o refusals refused in
      (given, are_standing, refused_answer (Some epoch) given q now o quiet (refused_not q o refusals refused), left_as_it_was q o t quiet.0 is)
  timed_request q o t (is_out_of_memory memory is) =
      (given, are_standing, memory_answer (Some epoch) given q now o memory, left_as_it_was q o t (unchanged_memory o memory) is)
  timed_request q o t (performs a asked unrefused on) = acts_done q o t unrefused on.0 on.2 a asked on.1
