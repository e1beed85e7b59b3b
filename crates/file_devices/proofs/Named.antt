-- The first file of a name, by its place.
use Rattle.std.proofs.Common.{◌≡◌, ℕ, zero, suc, ◌+◌, ◌<◌, Bool, true, false, cond, List, [], ◌∷◌, Option, Some, None, length, set, get_or, refl, sym, ap, subst, ◌∙◌, inl, inr, arith}
use Rattle.std.specs.Prelude.{IsSome, IsSomeAnd}
use Rattle.std.specs.List.{position, position_from}
use Rattle.std.proofs.lemmas.Bool.{cases_Bool}
use Rattle.std.proofs.lemmas.Iterator.Adapters.{position_from-zero}
use Rattle.std.proofs.lemmas.List.Quantifiers.{position-Some}
use Rattle.servient_outside.specs.declared.files.HeldFile.{HeldFile}
use Rattle.servient_outside.specs.declared.files.Got.{Got}
use Rattle.servient_outside.specs.declared.files.Got.TheVariants.{Whole, Absent, TooLong, Failed, NoMemory}
use Rattle.servient_outside.specs.Files.{content_of, AnswersRead}
use Rattle.file_devices.specs.Files.{with_content}
use Rattle.file_devices.specs.InMemory.{ReadsContent, is_named}

-- the first file of this name stands there
pub stands : (name content : List ℕ) (files : List HeldFile) (i : ℕ) (d : HeldFile) → i < length files → is_named name (get_or files i d) ≡ true
    → ((k : ℕ) → k < i → is_named name (get_or files k d) ≡ false)
    → (content_of files name ≡ Some (get_or files i d).bytes)
    × (with_content name content files ≡ set files i (record { name = (get_or files i d).name; bytes = content }))
stands name content [] i d there this before = absurd (omega arith)
stands name content (f ∷ files) zero d there this before = rw this (refl, refl)
stands name content (f ∷ files) (suc i) d there this before =
    let other : is_named name f ≡ false = before 0 (omega arith) in
    let rest = stands name content files i d (omega arith) this (λ k less. before (suc k) (omega arith)) in
    rw other (rest.0, ap (λ (fs : List HeldFile). f ∷ fs) rest.1)

none_from : (name : List ℕ) (files : List HeldFile) (i : ℕ) → position_from (is_named name) i files ≡ None → content_of files name ≡ None
none_from name [] i nowhere = refl
none_from name (f ∷ files) i nowhere = elim (cases_Bool (is_named name f)) [
  | inl same ↦ let some : Some i ≡ None = sym (ap (λ (t : Bool). cond t (Some i) (position_from (is_named name) (i + 1) files)) same) ∙ nowhere in absurd cc
  | inr other ↦
      let rest : position_from (is_named name) (i + 1) files ≡ None = sym (ap (λ (t : Bool). cond t (Some i) (position_from (is_named name) (i + 1) files)) other) ∙ nowhere in
      rw other (none_from name files (i + 1) rest)
]

pub none : (name : List ℕ) (files : List HeldFile) → position (is_named name) files ≡ None → content_of files name ≡ None
none name files nowhere = none_from name files 0 (sym (position_from-zero (is_named name) files) ∙ nowhere)

pub first : (name content : List ℕ) (files : List HeldFile) (i : ℕ) (d : HeldFile) → position (is_named name) files ≡ Some i
    → (content_of files name ≡ Some (get_or files i d).bytes)
    × (with_content name content files ≡ set files i (record { name = (get_or files i d).name; bytes = content }))
first name content files i d at =
    let is = position-Some (is_named name) files i d at in
    stands name content files i d is.0 is.1 is.2

pub read_there : (files : List HeldFile) (name : List ℕ) (limit i : ℕ) (file : HeldFile) (got : Got) (into : List ℕ) → position (is_named name) files ≡ Some i
    → file ≡ get_or files i file → ReadsContent file.bytes limit got into → AnswersRead (Some files) name limit got into
read_there files name limit i file Whole into at is reads =
    (reads.0, (first name [] files i file at).0 ∙ ap (λ (f : HeldFile). Some f.bytes) (sym is) ∙ ap (λ (c : List ℕ). Some c) reads.1)
read_there files name limit i file TooLong into at is reads =
    let holds : content_of files name ≡ Some file.bytes = (first name [] files i file at).0 ∙ ap (λ (f : HeldFile). Some f.bytes) (sym is) in
    subst (λ (o : Option (List ℕ)). IsSomeAnd o (λ c. limit < length c)) (sym holds) reads
read_there files name limit i file Absent into at is reads = absurd reads
read_there files name limit i file Failed into at is reads = absurd reads
read_there files name limit i file NoMemory into at is reads = tt

pub written_there : (files : List HeldFile) (name content : List ℕ) (i : ℕ) (d : HeldFile) → position (is_named name) files ≡ Some i
    → IsSome (content_of files name) × (set files i (record { name = (get_or files i d).name; bytes = content }) ≡ with_content name content files)
written_there files name content i d at =
    let f = first name content files i d at in
    (subst (λ (o : Option (List ℕ)). IsSome o) (sym f.0) refl, sym f.1)
