-- The effect of an act on a directory whose entries have no times is determined, unless it is out of memory.
use Rattle.std.proofs.Common.{◌≡◌, ◌<◌, ◌≤◌, ℕ, Bool, true, List, [], length, Option, Some, None, refl, sym, ap, ap₂, subst, ◌∙◌, arith, inl, inr}
use Rattle.std.specs.Prelude.{◌≢◌, IsSome, is_some, slice_get}
use Rattle.std.proofs.lemmas.Option.{same_Some}
use Rattle.wot_json.specs.Tree.{Json}
use Rattle.wot_json.specs.Reading.{tree_of}
use Rattle.wot_json.specs.Lookup.{member_named}
use Rattle.wot_json.specs.Merge.{merge, with_member}
use Rattle.wot_terms.specs.Faults.{IsValid}
use Rattle.wot_terms.specs.declared.fault.TdFault.{TdFault}
use Rattle.thing_ops.specs.declared.outcome.Outcome.{Outcome}
use Rattle.thing_ops.specs.declared.outcome.Outcome.TheVariants as outcome
use Rattle.thing_ops.specs.Requests.{RequestSeen}
use Rattle.wot_directory.specs.Contents.{Contents, Entries, most_entries}
use Rattle.wot_directory.specs.Directory.{id_of, IsFirstFault, HasRoom, with_entry, HasPutFault, Puts, IsLeastUnused, AreAllUsed, IsNextNumber, local_id, number_after, HasCreateFault, Creates, IsPatched, HasPatchFault, Patches, HasRemoveFault}
use Rattle.wot_directory.specs.declared.fault.DirFault.{DirFault}
use Rattle.wot_directory.specs.declared.fault.DirFault.TheVariants as fault
use Rattle.directory_requests.specs.declared.act.DirectoryAct.{DirectoryAct}
use Rattle.directory_requests.specs.declared.act.DirectoryAct.TheVariants as act
use Rattle.directory_requests.specs.Asked.{id_in}
use Rattle.directory_requests.specs.Requests.{outcome_of, put_outcome, CreatesEntry, PutsEntry, PatchesEntry, RemovesEntry, Performs}

-- one outcome and one directory
pub record Same {X : Type 0} (o p : Outcome) (d e : X) : Type 0 where
  pub outcome : o ≡ p
  pub contents : d ≡ e

-- ---- what can't hold together

pub some_or_none : {A : Type 0} (o : Option A) → IsSome o → o ≡ None → ⊥
some_or_none {A} o some none = let there : is_some {T = A} None ≡ true = subst (λ (x : Option A). is_some x ≡ true) none some in absurd cc

pub valid_or_not : (f : TdFault) (v : Json) → IsValid v → IsFirstFault f v → ⊥
valid_or_not f v valid first = not_first (subst (λ (x : List (ℕ × List ℕ)). slice_get x 0 ≡ Some (f.number, f.pointer)) valid first)
  where
    not_first : slice_get {X = ℕ × List ℕ} [] 0 ≡ Some (f.number, f.pointer) → ⊥
    not_first e = cc

pub first_number : (f g : TdFault) (v : Json) → IsFirstFault f v → IsFirstFault g v → f.number ≡ g.number
first_number f g v a b = ap (λ (x : ℕ × List ℕ). x.0) (same_Some (f.number, f.pointer) (g.number, g.pointer) (sym a ∙ b))

has_room : (id : List ℕ) (entries : Entries) → HasRoom id entries → member_named id entries ≡ None → most_entries ≤ length entries → ⊥
has_room id entries (inl some) none full = some_or_none (member_named id entries) some none
has_room id entries (inr few) none full = absurd (omega (arith, few, full))

-- ---- ids that are given

least_once : (first m n : ℕ) (entries : Entries) → IsLeastUnused first entries m → IsLeastUnused first entries n → m ≡ n
least_once first m n entries a b = omega (arith, lower, higher)
  where
    lower : ¬ (m < n)
    lower less = some_or_none (member_named (local_id m) entries) (b.others m a.from_first less) a.unused

    higher : ¬ (n < m)
    higher less = some_or_none (member_named (local_id n) entries) (a.others n b.from_first less) b.unused

used_or_not : (first n : ℕ) (entries : Entries) → AreAllUsed first entries → IsLeastUnused first entries n → ⊥
used_or_not first n entries all least = some_or_none (member_named (local_id n) entries) (all n least.from_first least.to_last) least.unused

pub next_once : (d : Contents) (m n : ℕ) → IsNextNumber d m → IsNextNumber d n → m ≡ n
next_once d m n (inl a) (inl b) = least_once d.next m n d.entries a b
next_once d m n (inl a) (inr b) = absurd (used_or_not d.next m d.entries b.0 a)
next_once d m n (inr a) (inl b) = absurd (used_or_not d.next n d.entries a.0 b)
next_once d m n (inr a) (inr b) = least_once 1 m n d.entries a.1 b.1

-- ---- creating

abbrev pub HadMemory : Outcome → Type 0
HadMemory o = o ≢ outcome.Memory

pub create_fault_once : (f g : DirFault) (v : Json) (d : Contents) → HasCreateFault f v d → HasCreateFault g v d → HadMemory (outcome_of f) → HadMemory (outcome_of g) → outcome_of f ≡ outcome_of g
create_fault_once fault.NoMemory g v d a b on_f on_g = absurd (on_f refl)
create_fault_once f fault.NoMemory v d a b on_f on_g = absurd (on_g refl)
create_fault_once fault.NotFound g v d a b on_f on_g = absurd a
create_fault_once fault.IdDiffers g v d a b on_f on_g = absurd a
create_fault_once f fault.NotFound v d a b on_f on_g = absurd b
create_fault_once f fault.IdDiffers v d a b on_f on_g = absurd b
create_fault_once fault.HasId fault.HasId v d a b on_f on_g = refl
create_fault_once fault.HasId (fault.Invalid g) v d a b on_f on_g = absurd (some_or_none (id_of v) a b.0)
create_fault_once fault.HasId fault.Full v d a b on_f on_g = absurd (some_or_none (id_of v) a b.0)
create_fault_once (fault.Invalid f) fault.HasId v d a b on_f on_g = absurd (some_or_none (id_of v) b a.0)
create_fault_once (fault.Invalid f) (fault.Invalid g) v d a b on_f on_g = ap outcome.Invalid (first_number f g v a.1 b.1)
create_fault_once (fault.Invalid f) fault.Full v d a b on_f on_g = absurd (valid_or_not f v b.1 a.1)
create_fault_once fault.Full fault.HasId v d a b on_f on_g = absurd (some_or_none (id_of v) b a.0)
create_fault_once fault.Full (fault.Invalid g) v d a b on_f on_g = absurd (valid_or_not g v a.1 b.1)
create_fault_once fault.Full fault.Full v d a b on_f on_g = refl

pub created_or_not : (f : DirFault) (v : Json) (d : Contents) (id : List ℕ) (t : Contents) → Creates v d id t → HasCreateFault f v d → HadMemory (outcome_of f) → ⊥
created_or_not fault.NoMemory v d id t a b on_f = on_f refl
created_or_not fault.NotFound v d id t a b on_f = b
created_or_not fault.IdDiffers v d id t a b on_f = b
created_or_not fault.HasId v d id t a b on_f = some_or_none (id_of v) b a.may.nameless
created_or_not (fault.Invalid f) v d id t a b on_f = valid_or_not f v a.may.valid b.1
created_or_not fault.Full v d id t a b on_f = absurd (let few = a.may.room in omega (arith, few, b.2))

pub creates_once : (v : Json) (o p : Outcome) (d t u : Contents) → HadMemory o → HadMemory p → CreatesEntry v o d t → CreatesEntry v p d u → Same o p t u
creates_once v o p d t u on_o on_p (inl (id, a, is)) (inl (other, b, is')) =
    let number : a.number ≡ b.number = next_once d a.number b.number a.number_is b.number_is in record {
      outcome = is ∙ ap (λ (x : List ℕ). outcome.Created (Some x)) (a.id_is ∙ ap local_id number ∙ sym b.id_is) ∙ sym is';
      contents = a.after_is ∙ ap₂ (λ (x : List ℕ) (n : ℕ). record { entries = with_member x v d.entries; next = number_after n }) (a.id_is ∙ ap local_id number ∙ sym b.id_is) number ∙ sym b.after_is;
    }
creates_once v o p d t u on_o on_p (inl (id, a, is)) (inr (f, b, is', after)) = absurd (created_or_not f v d id t a b (subst HadMemory is' on_p))
creates_once v o p d t u on_o on_p (inr (f, a, is, after)) (inl (id, b, is')) = absurd (created_or_not f v d id u b a (subst HadMemory is on_o))
creates_once v o p d t u on_o on_p (inr (f, a, is, after)) (inr (g, b, is', after')) = record {
  outcome = is ∙ create_fault_once f g v d a b (subst HadMemory is on_o) (subst HadMemory is' on_p) ∙ sym is';
  contents = after ∙ sym after';
}

-- ---- putting

pub put_fault_once : (f g : DirFault) (id : List ℕ) (v : Json) (d : Contents) → HasPutFault f id v d → HasPutFault g id v d → HadMemory (outcome_of f) → HadMemory (outcome_of g) → outcome_of f ≡ outcome_of g
put_fault_once fault.NoMemory g id v d a b on_f on_g = absurd (on_f refl)
put_fault_once f fault.NoMemory id v d a b on_f on_g = absurd (on_g refl)
put_fault_once fault.NotFound g id v d a b on_f on_g = absurd a
put_fault_once fault.HasId g id v d a b on_f on_g = absurd a
put_fault_once f fault.NotFound id v d a b on_f on_g = absurd b
put_fault_once f fault.HasId id v d a b on_f on_g = absurd b
put_fault_once (fault.Invalid f) (fault.Invalid g) id v d a b on_f on_g = ap outcome.Invalid (first_number f g v a b)
put_fault_once (fault.Invalid f) fault.IdDiffers id v d a b on_f on_g = absurd (valid_or_not f v b.0 a)
put_fault_once (fault.Invalid f) fault.Full id v d a b on_f on_g = absurd (valid_or_not f v b.0 a)
put_fault_once fault.IdDiffers (fault.Invalid g) id v d a b on_f on_g = absurd (valid_or_not g v a.0 b)
put_fault_once fault.IdDiffers fault.IdDiffers id v d a b on_f on_g = refl
put_fault_once fault.IdDiffers fault.Full id v d a b on_f on_g = absurd (a.1 b.1)
put_fault_once fault.Full (fault.Invalid g) id v d a b on_f on_g = absurd (valid_or_not g v a.0 b)
put_fault_once fault.Full fault.IdDiffers id v d a b on_f on_g = absurd (b.1 a.1)
put_fault_once fault.Full fault.Full id v d a b on_f on_g = refl

pub put_or_not : (f : DirFault) (id : List ℕ) (v : Json) (d : Contents) (is_new : Bool) (t : Contents) → Puts id v d is_new t → HasPutFault f id v d → HadMemory (outcome_of f) → ⊥
put_or_not fault.NoMemory id v d is_new t a b on_f = on_f refl
put_or_not fault.NotFound id v d is_new t a b on_f = b
put_or_not fault.HasId id v d is_new t a b on_f = b
put_or_not (fault.Invalid f) id v d is_new t a b on_f = valid_or_not f v a.may.valid b
put_or_not fault.IdDiffers id v d is_new t a b on_f = b.1 a.may.id_is
put_or_not fault.Full id v d is_new t a b on_f = has_room id d.entries a.may.room b.2 b.3

puts_once : (id : List ℕ) (v : Json) (o p : Outcome) (d t u : Contents) → HadMemory o → HadMemory p → PutsEntry id v o d t → PutsEntry id v p d u → Same o p t u
puts_once id v o p d t u on_o on_p (inl (one, a, is)) (inl (other, b, is')) = record { outcome = is ∙ ap put_outcome (a.new ∙ sym b.new) ∙ sym is'; contents = a.after_is ∙ sym b.after_is }
puts_once id v o p d t u on_o on_p (inl (one, a, is)) (inr (f, b, is', after)) = absurd (put_or_not f id v d one t a b (subst HadMemory is' on_p))
puts_once id v o p d t u on_o on_p (inr (f, a, is, after)) (inl (other, b, is')) = absurd (put_or_not f id v d other u b a (subst HadMemory is on_o))
puts_once id v o p d t u on_o on_p (inr (f, a, is, after)) (inr (g, b, is', after')) = record {
  outcome = is ∙ put_fault_once f g id v d a b (subst HadMemory is on_o) (subst HadMemory is' on_p) ∙ sym is';
  contents = after ∙ sym after';
}

-- ---- patching

-- two values under one id are one
pub one_held : (id : List ℕ) (d : Contents) (v w : Json) → member_named id d.entries ≡ Some v → member_named id d.entries ≡ Some w → w ≡ v
one_held id d v w a b = same_Some w v (sym b ∙ a)

patch_fault_once : (f g : DirFault) (id : List ℕ) (v : Json) (d : Contents) → HasPatchFault f id v d → HasPatchFault g id v d → HadMemory (outcome_of f) → HadMemory (outcome_of g) → outcome_of f ≡ outcome_of g
patch_fault_once fault.NoMemory g id v d a b on_f on_g = absurd (on_f refl)
patch_fault_once f fault.NoMemory id v d a b on_f on_g = absurd (on_g refl)
patch_fault_once fault.HasId g id v d a b on_f on_g = absurd a
patch_fault_once fault.Full g id v d a b on_f on_g = absurd a
patch_fault_once f fault.HasId id v d a b on_f on_g = absurd b
patch_fault_once f fault.Full id v d a b on_f on_g = absurd b
patch_fault_once fault.NotFound fault.NotFound id v d a b on_f on_g = refl
patch_fault_once fault.NotFound (fault.Invalid g) id v d a b on_f on_g = absurd (let apart : None ≡ Some b.0 = sym a ∙ b.1 in cc)
patch_fault_once fault.NotFound fault.IdDiffers id v d a b on_f on_g = absurd (let apart : None ≡ Some b.0 = sym a ∙ b.1 in cc)
patch_fault_once (fault.Invalid f) fault.NotFound id v d a b on_f on_g = absurd (let apart : None ≡ Some a.0 = sym b ∙ a.1 in cc)
patch_fault_once (fault.Invalid f) (fault.Invalid g) id v d a b on_f on_g =
    ap outcome.Invalid (first_number f g (merge a.0 v) a.2 (subst (λ (x : Json). IsFirstFault g (merge x v)) (one_held id d a.0 b.0 a.1 b.1) b.2))
patch_fault_once (fault.Invalid f) fault.IdDiffers id v d a b on_f on_g =
    absurd (valid_or_not f (merge a.0 v) (subst (λ (x : Json). IsValid (merge x v)) (one_held id d a.0 b.0 a.1 b.1) b.2.0) a.2)
patch_fault_once fault.IdDiffers fault.NotFound id v d a b on_f on_g = absurd (let apart : None ≡ Some a.0 = sym b ∙ a.1 in cc)
patch_fault_once fault.IdDiffers (fault.Invalid g) id v d a b on_f on_g =
    absurd (valid_or_not g (merge b.0 v) (subst (λ (x : Json). IsValid (merge x v)) (one_held id d b.0 a.0 b.1 a.1) a.2.0) b.2)
patch_fault_once fault.IdDiffers fault.IdDiffers id v d a b on_f on_g = refl

patched_or_not : (f : DirFault) (id : List ℕ) (v : Json) (d t : Contents) → Patches id v d t → HasPatchFault f id v d → HadMemory (outcome_of f) → ⊥
patched_or_not fault.NoMemory id v d t a b on_f = on_f refl
patched_or_not fault.HasId id v d t a b on_f = b
patched_or_not fault.Full id v d t a b on_f = b
patched_or_not fault.NotFound id v d t a b on_f = absurd (let apart : None ≡ Some a.1.0 = sym b ∙ a.1.1 in cc)
patched_or_not (fault.Invalid f) id v d t a b on_f =
    let is : IsPatched b.0 v a.0 = subst (λ (x : Json). IsPatched x v a.0) (one_held id d b.0 a.1.0 b.1 a.1.1) a.1.2 in
    valid_or_not f (merge b.0 v) (subst IsValid is.merged is.valid) b.2
patched_or_not fault.IdDiffers id v d t a b on_f =
    let is : IsPatched b.0 v a.0 = subst (λ (x : Json). IsPatched x v a.0) (one_held id d b.0 a.1.0 b.1 a.1.1) a.1.2 in
    b.2.1 (subst (λ (x : Json). id_of x ≡ id_of b.0) is.merged is.same_id)

patches_once : (id : List ℕ) (v : Json) (o p : Outcome) (d t u : Contents) → HadMemory o → HadMemory p → PatchesEntry id v o d t → PatchesEntry id v p d u → Same o p t u
patches_once id v o p d t u on_o on_p (inl (a, is)) (inl (b, is')) =
    let held : b.1.0 ≡ a.1.0 = one_held id d a.1.0 b.1.0 a.1.1 b.1.1 in
    let descriptions : a.0 ≡ b.0 = a.1.2.merged ∙ ap (λ (x : Json). merge x v) (sym held) ∙ sym b.1.2.merged in
    record { outcome = is ∙ sym is'; contents = a.2 ∙ ap (λ (x : Json). with_entry id x d) descriptions ∙ sym b.2 }
patches_once id v o p d t u on_o on_p (inl (a, is)) (inr (f, b, is', after)) = absurd (patched_or_not f id v d t a b (subst HadMemory is' on_p))
patches_once id v o p d t u on_o on_p (inr (f, a, is, after)) (inl (b, is')) = absurd (patched_or_not f id v d u b a (subst HadMemory is on_o))
patches_once id v o p d t u on_o on_p (inr (f, a, is, after)) (inr (g, b, is', after')) = record {
  outcome = is ∙ patch_fault_once f g id v d a b (subst HadMemory is on_o) (subst HadMemory is' on_p) ∙ sym is';
  contents = after ∙ sym after';
}

-- ---- removing

pub only_not_found : (f : DirFault) (id : List ℕ) (d : Contents) → HasRemoveFault f id d → (f ≡ fault.NotFound) × (member_named id d.entries ≡ None)
only_not_found fault.NotFound id d a = (refl, a)
only_not_found (fault.Invalid f) id d a = absurd a
only_not_found fault.IdDiffers id d a = absurd a
only_not_found fault.HasId id d a = absurd a
only_not_found fault.Full id d a = absurd a
only_not_found fault.NoMemory id d a = absurd a

removes_once : (id : List ℕ) (o p : Outcome) (d t u : Contents) → RemovesEntry id o d t → RemovesEntry id p d u → Same o p t u
removes_once id o p d t u (inl (a, is)) (inl (b, is')) = record { outcome = is ∙ sym is'; contents = a.after_is ∙ sym b.after_is }
removes_once id o p d t u (inl (a, is)) (inr (f, b, is', after)) = absurd (some_or_none (member_named id d.entries) a.found (only_not_found f id d b).1)
removes_once id o p d t u (inr (f, a, is, after)) (inl (b, is')) = absurd (some_or_none (member_named id d.entries) b.found (only_not_found f id d a).1)
removes_once id o p d t u (inr (f, a, is, after)) (inr (g, b, is', after')) =
    record { outcome = is ∙ ap outcome_of ((only_not_found f id d a).0 ∙ sym (only_not_found g id d b).0) ∙ sym is'; contents = after ∙ sym after' }

-- ---- acts

pub same_value : (body : List ℕ) (v w : Json) → tree_of body ≡ Some v → tree_of body ≡ Some w → w ≡ v
same_value body v w a b = same_Some w v (sym b ∙ a)

pub performed_once : (a : DirectoryAct) (q : RequestSeen) (o p : Outcome) (d t u : Contents) → HadMemory o → HadMemory p → Performs a q o d t → Performs a q p d u → Same o p t u
performed_once act.Lists q o p d t u on_o on_p a b = record { outcome = a.0 ∙ sym b.0; contents = a.1 ∙ sym b.1 }
performed_once act.Creates q o p d t u on_o on_p (v, read, a) (w, read', b) =
    creates_once v o p d t u on_o on_p a (subst (λ (x : Json). CreatesEntry x p d u) (same_value q.body v w read read') b)
performed_once act.Shows q o p d t u on_o on_p a b = record { outcome = a.0 ∙ sym b.0; contents = a.1 ∙ sym b.1 }
performed_once act.Puts q o p d t u on_o on_p (v, read, a) (w, read', b) =
    puts_once (id_in q.path) v o p d t u on_o on_p a (subst (λ (x : Json). PutsEntry (id_in q.path) x p d u) (same_value q.body v w read read') b)
performed_once act.Patches q o p d t u on_o on_p (v, read, a) (w, read', b) =
    patches_once (id_in q.path) v o p d t u on_o on_p a (subst (λ (x : Json). PatchesEntry (id_in q.path) x p d u) (same_value q.body v w read read') b)
performed_once act.Removes q o p d t u on_o on_p a b = removes_once (id_in q.path) o p d t u a b
