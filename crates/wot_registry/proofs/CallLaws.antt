-- The results of the calls, by the answers of the directory and of the times.
use Rattle.std.proofs.Common.{◌≡◌, ◌<◌, ℕ, List, length, refl, sym, ap, subst, ◌∙◌, inl, inr, Bool}
use Rattle.std.specs.Prelude.{Option, Some, None, IsSome, is_none}
use Rattle.wot_json.specs.Tree.{Json}
use Rattle.wot_json.specs.Lookup.{member_named}
use Rattle.wot_directory.specs.Contents.{Contents, most_entries}
use Rattle.wot_directory.specs.Directory.{with_entry, HasRoom, MayPut, HasPutFault, MayCreate, IsNextNumber, local_id, counted_on, HasCreateFault, MayReplace, HasReplaceFault}
use Rattle.wot_directory.specs.declared.fault.DirFault.{DirFault}
use Rattle.wot_directory.specs.declared.fault.DirFault.TheVariants.{NotFound, Invalid, IdDiffers, HasId, Full, NoMemory}
use Rattle.wot_registry.specs.declared.fault.RegFault.{RegFault}
use Rattle.wot_registry.specs.declared.fault.RegFault.TheVariants.{Ttl, Directory}
use Rattle.wot_registry.specs.Registration.{asked_ttl, without_registration}
use Rattle.wot_registry.specs.Registry.{Registered, changed_to, PutsAt, IsPutFault, CreatesAt, IsCreateFault, HoldsPatched, ReplacesAt, PatchesAt, IsReplaceFault, IsPatchFault}

some_asked : (o : Option (Option ℕ)) (ttl : Option ℕ) → o ≡ Some ttl → IsSome o
some_asked None ttl is = absurd (cc (is))
some_asked (Some t) ttl is = refl

-- ---- `put`

-- a description asks for a time to live; what is kept of it is judged by the directory
module _ (id : List ℕ) (d kept : Json) (ttl : Option ℕ) (now : ℕ) (dir : Contents) (r : Registered) (asked : asked_ttl d ≡ Some ttl) (kept_is : kept ≡ without_registration d) (dir_is : dir ≡ r.contents) where
  pub put_room : MayPut id kept dir → HasRoom id r.contents.entries
  put_room may = subst (λ (x : Contents). HasRoom id x.entries) dir_is may.room

  pub put_refused : (fault : DirFault) → HasPutFault fault id kept dir → IsPutFault (Directory fault) id d r
  put_refused fault judged = (
    some_asked (asked_ttl d) ttl asked,
    subst (λ (x : Contents). HasPutFault fault id (without_registration d) x) dir_is (subst (λ (x : Json). HasPutFault fault id x dir) kept_is judged),
  )

  pub put_done : (is_new : Bool) (after : Registered) → MayPut id kept dir → is_new ≡ is_none (member_named id dir.entries) → after ≡ changed_to (with_entry id kept r.contents) id now ttl r
      → PutsAt id d now r is_new after
  put_done is_new after may new is = record {
    ttl = ttl;
    asked = asked;
    contents = with_entry id (without_registration d) r.contents;
    puts = record {
      may = subst (λ (x : Contents). MayPut id (without_registration d) x) dir_is (subst (λ (x : Json). MayPut id x dir) kept_is may);
      new = new ∙ ap (λ (x : Contents). is_none (member_named id x.entries)) dir_is;
      after_is = refl;
    };
    after_is = is ∙ ap (λ (x : Json). changed_to (with_entry id x r.contents) id now ttl r) kept_is;
  }

-- ---- `create`

module _ (d kept : Json) (ttl : Option ℕ) (now : ℕ) (dir : Contents) (r : Registered) (asked : asked_ttl d ≡ Some ttl) (kept_is : kept ≡ without_registration d) (dir_is : dir ≡ r.contents) where
  pub create_room : (id : List ℕ) → MayCreate kept dir → HasRoom id r.contents.entries
  create_room id may = inr (subst (λ (x : Contents). length x.entries < most_entries) dir_is may.room)

  pub create_refused : (fault : DirFault) → HasCreateFault fault kept dir → IsCreateFault (Directory fault) d r
  create_refused fault judged = (
    some_asked (asked_ttl d) ttl asked,
    subst (λ (x : Contents). HasCreateFault fault (without_registration d) x) dir_is (subst (λ (x : Json). HasCreateFault fault x dir) kept_is judged),
  )

  pub create_done : (id : List ℕ) (number : ℕ) (after : Registered) → MayCreate kept dir → IsNextNumber dir number → id ≡ local_id number
      → after ≡ changed_to (counted_on number (with_entry id kept r.contents)) id now ttl r → CreatesAt d now r id after
  create_done id number after may next id_is is = record {
    ttl = ttl;
    asked = asked;
    contents = counted_on number (with_entry id (without_registration d) r.contents);
    creates = record {
      may = subst (λ (x : Contents). MayCreate (without_registration d) x) dir_is (subst (λ (x : Json). MayCreate x dir) kept_is may);
      number = number;
      number_is = subst (λ (x : Contents). IsNextNumber x number) dir_is next;
      id_is = id_is;
      after_is = refl;
    };
    after_is = is ∙ ap (λ (x : Json). changed_to (counted_on number (with_entry id x r.contents)) id now ttl r) kept_is;
  }

-- ---- `patch`

-- a fact of the description that a patch made holds of its value
pub patched_holds : (id : List ℕ) (patch made : Json) (r : Registered) (P : Json → Type 0) → HoldsPatched id patch r (λ d. made ≡ d) → P made → HoldsPatched id patch r P
patched_holds id patch made r P is holds = (is.0, is.1, subst P is.2 holds)

replace_fault : (e : DirFault) (id : List ℕ) (patch d : Json) (r : Registered) → HoldsPatched id patch r (λ x. d ≡ x) → IsReplaceFault e id d r → IsPatchFault (Directory e) id patch r
replace_fault NotFound id patch d r is fault = fault.1
replace_fault (Invalid f) id patch d r is fault = patched_holds id patch d r (λ x. IsReplaceFault (Invalid f) id x r) is fault
replace_fault IdDiffers id patch d r is fault = patched_holds id patch d r (λ x. IsReplaceFault IdDiffers id x r) is fault
replace_fault NoMemory id patch d r is fault = tt
replace_fault HasId id patch d r is fault = absurd fault.1
replace_fault Full id patch d r is fault = absurd fault.1

module _ (id : List ℕ) (patch d kept : Json) (ttl : Option ℕ) (now : ℕ) (dir : Contents) (r : Registered) (made : HoldsPatched id patch r (λ x. d ≡ x))
    (asked : asked_ttl d ≡ Some ttl) (kept_is : kept ≡ without_registration d) (dir_is : dir ≡ r.contents) where
  pub patch_refused : (fault : DirFault) → HasReplaceFault fault id kept dir → IsPatchFault (Directory fault) id patch r
  patch_refused fault judged = replace_fault fault id patch d r made (
    some_asked (asked_ttl d) ttl asked,
    subst (λ (x : Contents). HasReplaceFault fault id (without_registration d) x) dir_is (subst (λ (x : Json). HasReplaceFault fault id x dir) kept_is judged),
  )

  replaces : MayReplace id kept dir → MayReplace id (without_registration d) r.contents
  replaces may = subst (λ (x : Contents). MayReplace id (without_registration d) x) dir_is (subst (λ (x : Json). MayReplace id x dir) kept_is may)

  pub patch_room : MayReplace id kept dir → HasRoom id r.contents.entries
  patch_room may = let found = replaces may in inl (some_found (member_named id r.contents.entries) found.0 found.1)
    where
      some_found : (o : Option Json) (v : Json) → o ≡ Some v → IsSome o
      some_found None v is = absurd (cc (is))
      some_found (Some x) v is = refl

  pub patch_done : (after : Registered) → MayReplace id kept dir → after ≡ changed_to (with_entry id kept r.contents) id now ttl r → PatchesAt id patch now r after
  patch_done after may is = patched_holds id patch d r (λ x. ReplacesAt id x now r after) made (record {
    ttl = ttl;
    asked = asked;
    contents = with_entry id (without_registration d) r.contents;
    replaces = record { may = replaces may; after_is = refl };
    after_is = is ∙ ap (λ (x : Json). changed_to (with_entry id x r.contents) id now ttl r) kept_is;
  })

pub patch_ttl : (id : List ℕ) (patch d : Json) (r : Registered) (e : RegFault) → HoldsPatched id patch r (λ x. d ≡ x) → e ≡ Ttl → asked_ttl d ≡ None → IsPatchFault e id patch r
patch_ttl id patch d r e made is none =
    subst (λ (x : RegFault). IsPatchFault x id patch r) (sym is) (patched_holds id patch d r (λ x. asked_ttl x ≡ None) made none)
