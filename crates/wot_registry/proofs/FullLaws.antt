-- The directory is full.
use Rattle.std.proofs.Common.{arith, ◌≡◌, ◌≢◌, ◌≤◌, ℕ, List, length, refl, sym, ap, subst, inl, inr, Bool}
use Rattle.std.specs.Prelude.{◌↔◌, ◌⊎◌, ◌<◌, Option, Some, None, IsSome, slice_get, Result, Ok, Err, IfOk, IfErr}
use Rattle.std.proofs.lemmas.List.{length-map}
use Rattle.wot_json.specs.Tree.{Json}
use Rattle.wot_json.specs.Lookup.{member_named}
use Rattle.wot_terms.specs.Faults.{faults_of, IsValid}
use Rattle.wot_terms.specs.declared.fault.TdFault.{TdFault}
use Rattle.wot_directory.specs.Contents.{most_entries}
use Rattle.wot_directory.specs.Directory.{IsFirstFault}
use Rattle.wot_directory.specs.declared.fault.DirFault.TheVariants.{NotFound, Invalid, IdDiffers, HasId, Full, NoMemory}
use Rattle.wot_registry.specs.declared.fault.RegFault.{RegFault}
use Rattle.wot_registry.specs.declared.fault.RegFault.TheVariants.{Ttl, Directory}
use Rattle.wot_registry.specs.Times.{times_of}
use Rattle.wot_registry.specs.Registration.{asked_ttl, without_registration, shown}
use Rattle.wot_registry.specs.Registry.{Registered, standing, PutsAt, IsPutFault, CreatesAt, IsCreateFault, shown_entries}
use Rattle.wot_registry.specs.Laws.{full, IsFull, IsPutInVain, IsCreatedInVain}

-- as many are given out as there are
count : (r : Registered) → length (shown_entries r) ≡ length r.contents.entries
count r = length-map r.contents.entries (λ e. (e.0, shown r.epoch (times_of e.0 r.times) e.1))

all_there : (r : Registered) → most_entries ≤ length r.contents.entries → IsFull r
all_there r many = subst (λ (n : ℕ). most_entries ≤ n) (sym (count r)) many

none_left : (r : Registered) → IsFull r → length r.contents.entries < most_entries → ⊥
none_left r many few = let same = count r in omega (arith, same, many, few)

-- ---- faults that don't hold

asked_fails : (o : Option (Option ℕ)) → IsSome o → o ≡ None → ⊥
asked_fails None some is = cc (some)
asked_fails (Some t) some is = cc (is)

none_found : (o : Option Json) → o ≡ None → IsSome o → ⊥
none_found None is some = cc (some)
none_found (Some v) is some = cc (is)

no_fault : (f : TdFault) (d : Json) → IsValid d → IsFirstFault f d → ⊥
no_fault f d valid first =
    let none : slice_get (faults_of d) 0 ≡ None = ap (λ (fs : List (ℕ × List ℕ)). slice_get fs 0) valid in
    absent (slice_get (faults_of d) 0) none first
  where
    absent : (o : Option (ℕ × List ℕ)) → o ≡ None → o ≡ Some (f.number, f.pointer) → ⊥
    absent None none some = cc (some)
    absent (Some x) none some = cc (none)

-- ---- `put`

no_room : (id : List ℕ) (d : Json) (r : Registered) → IsPutInVain id d r → (IsSome (member_named id r.contents.entries) ⊎ (length r.contents.entries < most_entries)) → ⊥
no_room id d r vain (inl found) = none_found (member_named id r.contents.entries) vain.new found
no_room id d r vain (inr few) = none_left r vain.full few

put_fault : (e : RegFault) (id : List ℕ) (d : Json) (r : Registered) → IsPutInVain id d r → IsPutFault e id d r → (e ≡ Directory NoMemory → ⊥) → e ≡ full
put_fault Ttl id d r vain fault memory = absurd (asked_fails (asked_ttl d) vain.asked fault)
put_fault (Directory (Invalid f)) id d r vain fault memory = absurd (no_fault f (without_registration d) vain.valid fault.1)
put_fault (Directory IdDiffers) id d r vain fault memory = absurd (fault.1.1 vain.id_is)
put_fault (Directory Full) id d r vain fault memory = refl
put_fault (Directory NoMemory) id d r vain fault memory = absurd (memory refl)
put_fault (Directory NotFound) id d r vain fault memory = absurd fault.1
put_fault (Directory HasId) id d r vain fault memory = absurd fault.1

abbrev fault_of : RegFault → Result Bool RegFault → RegFault
fault_of d (Ok x) = d
fault_of d (Err e) = e

put_in_vain : (id : List ℕ) (d : Json) (r : Registered) (e : RegFault) → e ≡ full → IsPutFault e id d r → IsPutInVain id d r
put_in_vain id d r e is fault =
    let f : IsPutFault full id d r = subst (λ (x : RegFault). IsPutFault x id d r) is fault in
    record { asked = f.0; valid = f.1.0; id_is = f.1.1; new = f.1.2; full = all_there r f.1.3 }

pub put_exactly : (id : List ℕ) (description : Json) (now : ℕ) (r after : Registered) (result : Result Bool RegFault)
    → IfOk result (λ is_new. PutsAt id description now (standing now r) is_new after)
    → IfErr result (λ e. IsPutFault e id description (standing now r))
    → result ≢ Err (Directory NoMemory)
    → (result ≡ Err full) ↔ IsPutInVain id description (standing now r)
put_exactly id description now r after (Ok is_new) ok fault memory = (
  λ is. absurd (cc (is)),
  λ vain. absurd (no_room id description (standing now r) vain ok.puts.may.room),
)
put_exactly id description now r after (Err e) ok fault memory = (
  λ is. put_in_vain id description (standing now r) e (ap (fault_of full) is) fault,
  λ vain. ap (λ (x : RegFault). Err x) (put_fault e id description (standing now r) vain fault (λ is. memory (ap (λ (x : RegFault). Err x) is))),
)

-- ---- `create`

create_fault : (e : RegFault) (d : Json) (r : Registered) → IsCreatedInVain d r → IsCreateFault e d r → (e ≡ Directory NoMemory → ⊥) → e ≡ full
create_fault Ttl d r vain fault memory = absurd (asked_fails (asked_ttl d) vain.asked fault)
create_fault (Directory HasId) d r vain fault memory = absurd (none_found _ vain.nameless fault.1)
create_fault (Directory (Invalid f)) d r vain fault memory = absurd (no_fault f (without_registration d) vain.valid fault.1.1)
create_fault (Directory Full) d r vain fault memory = refl
create_fault (Directory NoMemory) d r vain fault memory = absurd (memory refl)
create_fault (Directory NotFound) d r vain fault memory = absurd fault.1
create_fault (Directory IdDiffers) d r vain fault memory = absurd fault.1

create_in_vain : (d : Json) (r : Registered) (e : RegFault) → e ≡ full → IsCreateFault e d r → IsCreatedInVain d r
create_in_vain d r e is fault =
    let f : IsCreateFault full d r = subst (λ (x : RegFault). IsCreateFault x d r) is fault in
    record { asked = f.0; nameless = f.1.0; valid = f.1.1; full = all_there r f.1.2 }

abbrev created_fault : RegFault → Result (List ℕ) RegFault → RegFault
created_fault d (Ok x) = d
created_fault d (Err e) = e

pub create_exactly : (description : Json) (now : ℕ) (r after : Registered) (result : Result (List ℕ) RegFault)
    → IfOk result (λ id. CreatesAt description now (standing now r) id after)
    → IfErr result (λ e. IsCreateFault e description (standing now r))
    → result ≢ Err (Directory NoMemory)
    → (result ≡ Err full) ↔ IsCreatedInVain description (standing now r)
create_exactly description now r after (Ok id) ok fault memory = (
  λ is. absurd (cc (is)),
  λ vain. absurd (none_left (standing now r) vain.full ok.creates.may.room),
)
create_exactly description now r after (Err e) ok fault memory = (
  λ is. create_in_vain description (standing now r) e (ap (created_fault full) is) fault,
  λ vain. ap (λ (x : RegFault). Err x) (create_fault e description (standing now r) vain fault (λ is. memory (ap (λ (x : RegFault). Err x) is))),
)
