-- The effect of an act on a directory whose entries have times is determined, unless it is out of memory.
use Rattle.std.proofs.Common.{◌≡◌, ℕ, Bool, List, Option, Some, None, refl, sym, ap, ap₂, subst, ◌∙◌, inl, inr}
use Rattle.std.proofs.lemmas.Option.{same_Some}
use Rattle.wot_json.specs.Tree.{Json}
use Rattle.wot_json.specs.Lookup.{member_named}
use Rattle.wot_json.specs.Merge.{merge}
use Rattle.wot_terms.specs.Faults.{IsValid}
use Rattle.thing_ops.specs.declared.outcome.Outcome.{Outcome}
use Rattle.thing_ops.specs.declared.outcome.Outcome.TheVariants as outcome
use Rattle.thing_ops.specs.Requests.{RequestSeen}
use Rattle.wot_directory.specs.Contents.{Contents}
use Rattle.wot_directory.specs.Directory.{id_of, IsFirstFault, local_id}
use Rattle.wot_directory.specs.declared.fault.DirFault.{DirFault}
use Rattle.wot_directory.specs.declared.fault.DirFault.TheVariants as fault
use Rattle.wot_registry.specs.Times.{times_of}
use Rattle.wot_registry.specs.Registration.{asked_ttl, without_registration, with_ttl}
use Rattle.wot_registry.specs.Registry.{Registered, changed_to, PutsAt, IsPutFault, CreatesAt, IsCreateFault, own_ttl, HoldsPatched, ReplacesAt, PatchesAt, IsPatchFault, RemovesAt, IsRemoveFault}
use Rattle.wot_registry.specs.declared.fault.RegFault.{RegFault}
use Rattle.wot_registry.specs.declared.fault.RegFault.TheVariants as reg_fault
use Rattle.directory_requests.specs.declared.act.DirectoryAct.{DirectoryAct}
use Rattle.directory_requests.specs.declared.act.DirectoryAct.TheVariants as act
use Rattle.directory_requests.specs.Asked.{id_in}
use Rattle.directory_requests.specs.Requests.{outcome_of, outcome_of_fault, put_outcome, CreatesEntryAt, PutsEntryAt, PatchesEntryAt, RemovesEntryAt, PerformsAt}
use Rattle.servient_laws.proofs.AlikeDirectories.{Same, HadMemory, some_or_none, valid_or_not, first_number, next_once, create_fault_once, created_or_not, creates_once, put_fault_once, put_or_not, one_held, only_not_found, same_value}

-- a time to live is asked for, or it is none
asked_or_not : (o : Option (Option ℕ)) (ttl : Option ℕ) → o ≡ Some ttl → o ≡ None → ⊥
asked_or_not o ttl some none = absurd (let apart : Some ttl ≡ None = sym some ∙ none in cc)

-- ---- creating

create_fault_at_once : (f g : RegFault) (v : Json) (r : Registered) → IsCreateFault f v r → IsCreateFault g v r → HadMemory (outcome_of_fault f) → HadMemory (outcome_of_fault g)
    → outcome_of_fault f ≡ outcome_of_fault g
create_fault_at_once reg_fault.Ttl reg_fault.Ttl v r a b on_f on_g = refl
create_fault_at_once reg_fault.Ttl (reg_fault.Directory g) v r a b on_f on_g = absurd (some_or_none (asked_ttl v) b.0 a)
create_fault_at_once (reg_fault.Directory f) reg_fault.Ttl v r a b on_f on_g = absurd (some_or_none (asked_ttl v) a.0 b)
create_fault_at_once (reg_fault.Directory f) (reg_fault.Directory g) v r a b on_f on_g = create_fault_once f g (without_registration v) r.contents a.1 b.1 on_f on_g

created_at_or_not : (f : RegFault) (v : Json) (now : ℕ) (r : Registered) (id : List ℕ) (s : Registered) → CreatesAt v now r id s → IsCreateFault f v r → HadMemory (outcome_of_fault f) → ⊥
created_at_or_not reg_fault.Ttl v now r id s a b on_f = asked_or_not (asked_ttl v) a.ttl a.asked b
created_at_or_not (reg_fault.Directory f) v now r id s a b on_f = created_or_not f (without_registration v) r.contents id a.contents a.creates b.1 on_f

was_created : (id : List ℕ) → HadMemory (outcome.Created (Some id))
was_created id e = cc

creates_at_once : (v : Json) (now : ℕ) (o p : Outcome) (r s u : Registered) → HadMemory o → HadMemory p → CreatesEntryAt v now o r s → CreatesEntryAt v now p r u → Same o p s u
creates_at_once v now o p r s u on_o on_p (inl (id, a, is)) (inl (other, b, is')) =
    let number : a.creates.number ≡ b.creates.number = next_once r.contents a.creates.number b.creates.number a.creates.number_is b.creates.number_is in
    let ids : id ≡ other = a.creates.id_is ∙ ap local_id number ∙ sym b.creates.id_is in
    let same = creates_once (without_registration v) (outcome.Created (Some id)) (outcome.Created (Some other)) r.contents a.contents b.contents (was_created id) (was_created other) (inl (id, a.creates, refl)) (inl (other, b.creates, refl)) in
    record {
      outcome = is ∙ same.outcome ∙ sym is';
      contents = a.after_is
          ∙ ap₂ (λ (c : Contents) (x : List ℕ). changed_to c x now a.ttl r) same.contents ids
          ∙ ap (λ (t : Option ℕ). changed_to b.contents other now t r) (same_Some a.ttl b.ttl (sym a.asked ∙ b.asked))
          ∙ sym b.after_is;
    }
creates_at_once v now o p r s u on_o on_p (inl (id, a, is)) (inr (f, b, is', after)) = absurd (created_at_or_not f v now r id s a b (subst HadMemory is' on_p))
creates_at_once v now o p r s u on_o on_p (inr (f, a, is, after)) (inl (id, b, is')) = absurd (created_at_or_not f v now r id u b a (subst HadMemory is on_o))
creates_at_once v now o p r s u on_o on_p (inr (f, a, is, after)) (inr (g, b, is', after')) = record {
  outcome = is ∙ create_fault_at_once f g v r a b (subst HadMemory is on_o) (subst HadMemory is' on_p) ∙ sym is';
  contents = after ∙ sym after';
}

-- ---- putting

put_fault_at_once : (f g : RegFault) (id : List ℕ) (v : Json) (r : Registered) → IsPutFault f id v r → IsPutFault g id v r → HadMemory (outcome_of_fault f) → HadMemory (outcome_of_fault g)
    → outcome_of_fault f ≡ outcome_of_fault g
put_fault_at_once reg_fault.Ttl reg_fault.Ttl id v r a b on_f on_g = refl
put_fault_at_once reg_fault.Ttl (reg_fault.Directory g) id v r a b on_f on_g = absurd (some_or_none (asked_ttl v) b.0 a)
put_fault_at_once (reg_fault.Directory f) reg_fault.Ttl id v r a b on_f on_g = absurd (some_or_none (asked_ttl v) a.0 b)
put_fault_at_once (reg_fault.Directory f) (reg_fault.Directory g) id v r a b on_f on_g = put_fault_once f g id (without_registration v) r.contents a.1 b.1 on_f on_g

put_at_or_not : (f : RegFault) (id : List ℕ) (v : Json) (now : ℕ) (r : Registered) (is_new : Bool) (s : Registered) → PutsAt id v now r is_new s → IsPutFault f id v r → HadMemory (outcome_of_fault f) → ⊥
put_at_or_not reg_fault.Ttl id v now r is_new s a b on_f = asked_or_not (asked_ttl v) a.ttl a.asked b
put_at_or_not (reg_fault.Directory f) id v now r is_new s a b on_f = put_or_not f id (without_registration v) r.contents is_new a.contents a.puts b.1 on_f

puts_at_once : (id : List ℕ) (v : Json) (now : ℕ) (o p : Outcome) (r s u : Registered) → HadMemory o → HadMemory p → PutsEntryAt id v now o r s → PutsEntryAt id v now p r u → Same o p s u
puts_at_once id v now o p r s u on_o on_p (inl (one, a, is)) (inl (other, b, is')) = record {
  outcome = is ∙ ap put_outcome (a.puts.new ∙ sym b.puts.new) ∙ sym is';
  contents = a.after_is
      ∙ ap₂ (λ (c : Contents) (t : Option ℕ). changed_to c id now t r) (a.puts.after_is ∙ sym b.puts.after_is) (same_Some a.ttl b.ttl (sym a.asked ∙ b.asked))
      ∙ sym b.after_is;
}
puts_at_once id v now o p r s u on_o on_p (inl (one, a, is)) (inr (f, b, is', after)) = absurd (put_at_or_not f id v now r one s a b (subst HadMemory is' on_p))
puts_at_once id v now o p r s u on_o on_p (inr (f, a, is, after)) (inl (other, b, is')) = absurd (put_at_or_not f id v now r other u b a (subst HadMemory is on_o))
puts_at_once id v now o p r s u on_o on_p (inr (f, a, is, after)) (inr (g, b, is', after')) = record {
  outcome = is ∙ put_fault_at_once f g id v r a b (subst HadMemory is on_o) (subst HadMemory is' on_p) ∙ sym is';
  contents = after ∙ sym after';
}

-- ---- patching

-- the description that a patch makes of the one under an id
abbrev patched_from : List ℕ → Json → Registered → Json → Json
patched_from id patch r kept = merge (with_ttl (own_ttl (times_of id r.times)) kept) patch

-- a fact of a patched description holds of the one that is kept
of_kept : (P : Json → Type 0) (id : List ℕ) (patch : Json) (r : Registered) (kept : Json) → member_named id r.contents.entries ≡ Some kept → HoldsPatched id patch r P → P (patched_from id patch r kept)
of_kept P id patch r kept there b = subst (λ (x : Json). P (patched_from id patch r x)) (one_held id r.contents kept b.0 there b.1) b.2

there_or_not : (id : List ℕ) (r : Registered) (kept : Json) → member_named id r.contents.entries ≡ Some kept → member_named id r.contents.entries ≡ None → ⊥
there_or_not id r kept some none = absurd (let apart : Some kept ≡ None = sym some ∙ none in cc)

-- no fault of the directory stands beside a faulty time to live
ttl_or_not : (f : DirFault) (id : List ℕ) (v : Json) (r : Registered) → HoldsPatched id v r (λ d. asked_ttl d ≡ None) → IsPatchFault (reg_fault.Directory f) id v r → HadMemory (outcome_of f) → ⊥
ttl_or_not fault.NoMemory id v r a b on_f = on_f refl
ttl_or_not fault.HasId id v r a b on_f = b
ttl_or_not fault.Full id v r a b on_f = b
ttl_or_not fault.NotFound id v r a b on_f = there_or_not id r a.0 a.1 b
ttl_or_not (fault.Invalid f) id v r a b on_f = some_or_none (asked_ttl (patched_from id v r b.0)) b.2.0 (of_kept (λ d. asked_ttl d ≡ None) id v r b.0 b.1 a)
ttl_or_not fault.IdDiffers id v r a b on_f = some_or_none (asked_ttl (patched_from id v r b.0)) b.2.0 (of_kept (λ d. asked_ttl d ≡ None) id v r b.0 b.1 a)

patch_fault_twice : (f g : DirFault) (id : List ℕ) (v : Json) (r : Registered) → IsPatchFault (reg_fault.Directory f) id v r → IsPatchFault (reg_fault.Directory g) id v r
    → HadMemory (outcome_of f) → HadMemory (outcome_of g) → outcome_of f ≡ outcome_of g
patch_fault_twice fault.NoMemory g id v r a b on_f on_g = absurd (on_f refl)
patch_fault_twice f fault.NoMemory id v r a b on_f on_g = absurd (on_g refl)
patch_fault_twice fault.HasId g id v r a b on_f on_g = absurd a
patch_fault_twice fault.Full g id v r a b on_f on_g = absurd a
patch_fault_twice f fault.HasId id v r a b on_f on_g = absurd b
patch_fault_twice f fault.Full id v r a b on_f on_g = absurd b
patch_fault_twice fault.NotFound fault.NotFound id v r a b on_f on_g = refl
patch_fault_twice fault.NotFound (fault.Invalid g) id v r a b on_f on_g = absurd (there_or_not id r b.0 b.1 a)
patch_fault_twice fault.NotFound fault.IdDiffers id v r a b on_f on_g = absurd (there_or_not id r b.0 b.1 a)
patch_fault_twice (fault.Invalid f) fault.NotFound id v r a b on_f on_g = absurd (there_or_not id r a.0 a.1 b)
patch_fault_twice (fault.Invalid f) (fault.Invalid g) id v r a b on_f on_g =
    ap outcome.Invalid (first_number f g (without_registration (patched_from id v r a.0)) a.2.1.2
    (of_kept (λ d. IsFirstFault g (without_registration d)) id v r a.0 a.1 (b.0, b.1, b.2.1.2)))
patch_fault_twice (fault.Invalid f) fault.IdDiffers id v r a b on_f on_g =
    absurd (valid_or_not f (without_registration (patched_from id v r a.0)) (of_kept (λ d. IsValid (without_registration d)) id v r a.0 a.1 (b.0, b.1, b.2.1.2.0)) a.2.1.2)
patch_fault_twice fault.IdDiffers fault.NotFound id v r a b on_f on_g = absurd (there_or_not id r a.0 a.1 b)
patch_fault_twice fault.IdDiffers (fault.Invalid g) id v r a b on_f on_g =
    absurd (valid_or_not g (without_registration (patched_from id v r b.0)) (of_kept (λ d. IsValid (without_registration d)) id v r b.0 b.1 (a.0, a.1, a.2.1.2.0)) b.2.1.2)
patch_fault_twice fault.IdDiffers fault.IdDiffers id v r a b on_f on_g = refl

patch_fault_at_once : (f g : RegFault) (id : List ℕ) (v : Json) (r : Registered) → IsPatchFault f id v r → IsPatchFault g id v r → HadMemory (outcome_of_fault f) → HadMemory (outcome_of_fault g)
    → outcome_of_fault f ≡ outcome_of_fault g
patch_fault_at_once reg_fault.Ttl reg_fault.Ttl id v r a b on_f on_g = refl
patch_fault_at_once reg_fault.Ttl (reg_fault.Directory g) id v r a b on_f on_g = absurd (ttl_or_not g id v r a b on_g)
patch_fault_at_once (reg_fault.Directory f) reg_fault.Ttl id v r a b on_f on_g = absurd (ttl_or_not f id v r b a on_f)
patch_fault_at_once (reg_fault.Directory f) (reg_fault.Directory g) id v r a b on_f on_g = patch_fault_twice f g id v r a b on_f on_g

-- a description took its place, or this fault stands
replaced_or_not : (f : DirFault) (id : List ℕ) (v : Json) (now : ℕ) (r s : Registered) → PatchesAt id v now r s → IsPatchFault (reg_fault.Directory f) id v r → HadMemory (outcome_of f) → ⊥
replaced_or_not fault.NoMemory id v now r s a b on_f = on_f refl
replaced_or_not fault.HasId id v now r s a b on_f = b
replaced_or_not fault.Full id v now r s a b on_f = b
replaced_or_not fault.NotFound id v now r s a b on_f = there_or_not id r a.0 a.1 b
replaced_or_not (fault.Invalid f) id v now r s a b on_f =
    valid_or_not f (without_registration (patched_from id v r a.0)) a.2.replaces.may.2.valid (of_kept (λ d. IsFirstFault f (without_registration d)) id v r a.0 a.1 (b.0, b.1, b.2.1.2))
replaced_or_not fault.IdDiffers id v now r s a b on_f =
    let kept : Json = b.2.1.0 in
    let same : id_of (without_registration (patched_from id v r a.0)) ≡ id_of kept =
    subst (λ (x : Json). id_of (without_registration (patched_from id v r a.0)) ≡ id_of x) (one_held id r.contents kept a.2.replaces.may.0 b.2.1.1 a.2.replaces.may.1) a.2.replaces.may.2.same_id in
    b.2.1.2.1 (subst (λ (x : Json). id_of (without_registration (patched_from id v r x)) ≡ id_of kept) (one_held id r.contents b.0 a.0 b.1 a.1) same)

patched_at_or_not : (f : RegFault) (id : List ℕ) (v : Json) (now : ℕ) (r s : Registered) → PatchesAt id v now r s → IsPatchFault f id v r → HadMemory (outcome_of_fault f) → ⊥
patched_at_or_not reg_fault.Ttl id v now r s a b on_f = asked_or_not (asked_ttl (patched_from id v r a.0)) a.2.ttl a.2.asked (of_kept (λ d. asked_ttl d ≡ None) id v r a.0 a.1 b)
patched_at_or_not (reg_fault.Directory f) id v now r s a b on_f = replaced_or_not f id v now r s a b on_f

replaces_once : (id : List ℕ) (v : Json) (now : ℕ) (r s u : Registered) → ReplacesAt id v now r s → ReplacesAt id v now r u → s ≡ u
replaces_once id v now r s u a b =
    a.after_is
    ∙ ap₂ (λ (c : Contents) (t : Option ℕ). changed_to c id now t r) (a.replaces.after_is ∙ sym b.replaces.after_is) (same_Some a.ttl b.ttl (sym a.asked ∙ b.asked))
    ∙ sym b.after_is

patches_at_once : (id : List ℕ) (v : Json) (now : ℕ) (o p : Outcome) (r s u : Registered) → HadMemory o → HadMemory p → PatchesEntryAt id v now o r s → PatchesEntryAt id v now p r u → Same o p s u
patches_at_once id v now o p r s u on_o on_p (inl (a, is)) (inl (b, is')) = record {
  outcome = is ∙ sym is';
  contents = replaces_once id (patched_from id v r a.0) now r s u a.2 (of_kept (λ d. ReplacesAt id d now r u) id v r a.0 a.1 b);
}
patches_at_once id v now o p r s u on_o on_p (inl (a, is)) (inr (f, b, is', after)) = absurd (patched_at_or_not f id v now r s a b (subst HadMemory is' on_p))
patches_at_once id v now o p r s u on_o on_p (inr (f, a, is, after)) (inl (b, is')) = absurd (patched_at_or_not f id v now r u b a (subst HadMemory is on_o))
patches_at_once id v now o p r s u on_o on_p (inr (f, a, is, after)) (inr (g, b, is', after')) = record {
  outcome = is ∙ patch_fault_at_once f g id v r a b (subst HadMemory is on_o) (subst HadMemory is' on_p) ∙ sym is';
  contents = after ∙ sym after';
}

-- ---- removing

removed_or_not : (f : RegFault) (id : List ℕ) (r s : Registered) → RemovesAt id r s → IsRemoveFault f id r → ⊥
removed_or_not reg_fault.Ttl id r s a b = b
removed_or_not (reg_fault.Directory f) id r s a b = some_or_none (member_named id r.contents.entries) a.found (only_not_found f id r.contents b).1

remove_fault_once : (f g : RegFault) (id : List ℕ) (r : Registered) → IsRemoveFault f id r → IsRemoveFault g id r → outcome_of_fault f ≡ outcome_of_fault g
remove_fault_once reg_fault.Ttl g id r a b = absurd a
remove_fault_once (reg_fault.Directory f) reg_fault.Ttl id r a b = absurd b
remove_fault_once (reg_fault.Directory f) (reg_fault.Directory g) id r a b = ap outcome_of ((only_not_found f id r.contents a).0 ∙ sym (only_not_found g id r.contents b).0)

removes_at_once : (id : List ℕ) (o p : Outcome) (r s u : Registered) → RemovesEntryAt id o r s → RemovesEntryAt id p r u → Same o p s u
removes_at_once id o p r s u (inl (a, is)) (inl (b, is')) = record { outcome = is ∙ sym is'; contents = a.after_is ∙ sym b.after_is }
removes_at_once id o p r s u (inl (a, is)) (inr (f, b, is', after)) = absurd (removed_or_not f id r s a b)
removes_at_once id o p r s u (inr (f, a, is, after)) (inl (b, is')) = absurd (removed_or_not f id r u b a)
removes_at_once id o p r s u (inr (f, a, is, after)) (inr (g, b, is', after')) =
    record { outcome = is ∙ remove_fault_once f g id r a b ∙ sym is'; contents = after ∙ sym after' }

-- ---- acts

pub performed_at_once : (a : DirectoryAct) (q : RequestSeen) (now : ℕ) (o p : Outcome) (r s u : Registered) → HadMemory o → HadMemory p
    → PerformsAt a q now o r s → PerformsAt a q now p r u → Same o p s u
performed_at_once act.Lists q now o p r s u on_o on_p a b = record { outcome = a.0 ∙ sym b.0; contents = a.1 ∙ sym b.1 }
performed_at_once act.Creates q now o p r s u on_o on_p (v, read, a) (w, read', b) =
    creates_at_once v now o p r s u on_o on_p a (subst (λ (x : Json). CreatesEntryAt x now p r u) (same_value q.body v w read read') b)
performed_at_once act.Shows q now o p r s u on_o on_p a b = record { outcome = a.0 ∙ sym b.0; contents = a.1 ∙ sym b.1 }
performed_at_once act.Puts q now o p r s u on_o on_p (v, read, a) (w, read', b) =
    puts_at_once (id_in q.path) v now o p r s u on_o on_p a (subst (λ (x : Json). PutsEntryAt (id_in q.path) x now p r u) (same_value q.body v w read read') b)
performed_at_once act.Patches q now o p r s u on_o on_p (v, read, a) (w, read', b) =
    patches_at_once (id_in q.path) v now o p r s u on_o on_p a (subst (λ (x : Json). PatchesEntryAt (id_in q.path) x now p r u) (same_value q.body v w read read') b)
performed_at_once act.Removes q now o p r s u on_o on_p a b = removes_at_once (id_in q.path) o p r s u a b
