-- Stages with which nothing is wrong: each goes on with its value, or is out of memory.
use Rattle.std.proofs.Common.{◌≡◌, ◌<◌, ◌≤◌, ◌⊎◌, ℕ, List, [], ◌∷◌, ◌++◌, length, Result, Ok, Err, Option, Some, None, sym, ap, ◌∙◌, subst, arith, inl, inr}
use Rattle.std.specs.Prelude.{MatchResult, IfSome, IsSome, IsSomeAnd, slice_get}
use Rattle.url.specs.Parser.{parse_url, IsOutOfRoom}
use Rattle.url.specs.Parts.{Parts}
use Rattle.url.specs.declared.error.ParseError.{ParseError}
use Rattle.tm_parts.specs.Library.{Models, MayAdd, with_model}
use Rattle.servient_plan.specs.declared.plan.Plan.{Plan}
use Rattle.servient_plan.specs.Plan.{plan_of}
use Rattle.std.proofs.lemmas.Option.{same_Some}
use Rattle.servient_base.specs.Count.{Rose, RoseBy}
use Rattle.wot_json.specs.Tree.{Json}
use Rattle.wot_json.specs.Lookup.{member_named}
use Rattle.wot_json.specs.Meaning.{json_of}
use Rattle.wot_json.specs.declared.tree.Tree.{Tree}
use Rattle.wot_json.specs.Reading.{tree_of}
use Rattle.wot_terms.specs.Faults.{faults_of}
use Rattle.servient_outside.specs.declared.files.HeldFile.{HeldFile}
use Rattle.servient_outside.specs.declared.net.EventWithBytes.{EventWithBytes}
use Rattle.servient_outside.specs.Files.{content_of}
use Rattle.servient_outside.specs.Network.{heard, did, broke, break_count}
use Rattle.servient_trace.specs.Trace.{at_network, at_handler, happened_in}
use Rattle.command_stages.specs.declared.derivation.Planned.{Planned}
use Rattle.servient_script.specs.Script.{IsScript}
use Rattle.command_stages.specs.Stages.{Deed, did_read, did_fail, did_see, did_forget, did_write, sightings_in, HasFailed, Outcome, goes_on, ends, AndThen, ends_first, goes_further}
use Rattle.command_stages.specs.Reading.{ReadsFile, is_read, is_absent, is_unreadable, is_long, file_memory, ReadsTree, is_tree, has_no_tree, tree_memory, longest_json}
use Rattle.command_stages.specs.Inputs.{ReadsScript, is_script, is_no_script, script_memory}
use Rattle.command_stages.specs.Checking.{Judges, is_valid, is_refused, judge_memory}
use Rattle.command_stages.specs.Deriving.{ReadsPlan, is_plan, is_no_plan, plan_memory, AddsModel, is_added, is_not_added, add_memory, IsNotTaken, has_bad_url, is_there_twice, is_no_model, TakesModel, TakesModels, Derives, is_derived, derive_memory, derived_of, Prints, is_printed, print_memory, AreFaultlessModels}
use Rattle.command_stages.specs.Deriving as plans

-- a stage gives such a value, or is out of memory
abbrev pub GoesOn : {A : Type 0} → (A → Type 0) → Outcome A → Type 0
GoesOn {A} Good o = ((value : A) × Good value × (o ≡ goes_on value)) ⊎ (o ≡ ends 9)

-- the command ends as it should, or is out of memory
abbrev pub EndsWell : Outcome (Unit {0}) → Type 0
EndsWell o = (o ≡ ends 0) ⊎ (o ≡ ends 9)

pub by_memory : (o : Outcome (Unit {0})) → o ≡ ends 9 → EndsWell o
by_memory o nine = inr nine

pub same_value : {A : Type 0} (a b : A) → goes_on a ≡ goes_on b → a ≡ b
same_value a b e = cc

pub on_no_end : {A : Type 0} (a : A) (status : ℕ) → ends status ≡ goes_on a → ⊥
on_no_end a status e = cc

pub end_no_on : {A : Type 0} (a : A) (status : ℕ) → goes_on a ≡ ends status → ⊥
end_no_on a status e = cc

pub same_status : {A : Type 0} (m n : ℕ) → ◌≡◌ {A = Outcome A} (ends m) (ends n) → m ≡ n
same_status m n e = cc

-- a read or a call of the network failed among these
abbrev pub HasTrouble : List Deed → Type 0
HasTrouble [] = ⊥
HasTrouble (did_read file ∷ seen) = HasTrouble seen
HasTrouble (did_fail file ∷ seen) = Unit {0}
HasTrouble (did_see (at_network (heard e)) ∷ seen) = HasTrouble seen
HasTrouble (did_see (at_network (did act)) ∷ seen) = HasTrouble seen
HasTrouble (did_see (at_network (broke call)) ∷ seen) = Unit {0}
HasTrouble (did_see (at_handler call) ∷ seen) = HasTrouble seen
HasTrouble (did_forget ∷ seen) = HasTrouble seen
HasTrouble (did_write text ∷ seen) = HasTrouble seen

-- it did among the first or among the others, and so among all
pub trouble_before : (a b : List Deed) → HasTrouble a → HasTrouble (a ++ b)
trouble_before [] b trouble = absurd trouble
trouble_before (did_read file ∷ a) b trouble = trouble_before a b trouble
trouble_before (did_fail file ∷ a) b trouble = tt
trouble_before (did_see (at_network (heard e)) ∷ a) b trouble = trouble_before a b trouble
trouble_before (did_see (at_network (did act)) ∷ a) b trouble = trouble_before a b trouble
trouble_before (did_see (at_network (broke call)) ∷ a) b trouble = tt
trouble_before (did_see (at_handler call) ∷ a) b trouble = trouble_before a b trouble
trouble_before (did_forget ∷ a) b trouble = trouble_before a b trouble
trouble_before (did_write text ∷ a) b trouble = trouble_before a b trouble

pub trouble_after : (a b : List Deed) → HasTrouble b → HasTrouble (a ++ b)
trouble_after [] b trouble = trouble
trouble_after (did_read file ∷ a) b trouble = trouble_after a b trouble
trouble_after (did_fail file ∷ a) b trouble = tt
trouble_after (did_see (at_network (heard e)) ∷ a) b trouble = trouble_after a b trouble
trouble_after (did_see (at_network (did act)) ∷ a) b trouble = trouble_after a b trouble
trouble_after (did_see (at_network (broke call)) ∷ a) b trouble = tt
trouble_after (did_see (at_handler call) ∷ a) b trouble = trouble_after a b trouble
trouble_after (did_forget ∷ a) b trouble = trouble_after a b trouble
trouble_after (did_write text ∷ a) b trouble = trouble_after a b trouble

-- a read failed, or the network broke
pub what_trouble : (seen : List Deed) → HasTrouble seen → HasFailed seen ⊎ (1 ≤ break_count (happened_in (sightings_in seen)))
what_trouble [] trouble = absurd trouble
what_trouble (did_read file ∷ a) trouble = what_trouble a trouble
what_trouble (did_fail file ∷ a) trouble = inl tt
what_trouble (did_see (at_network (heard e)) ∷ a) trouble = what_trouble a trouble
what_trouble (did_see (at_network (did act)) ∷ a) trouble = what_trouble a trouble
what_trouble (did_see (at_network (broke call)) ∷ a) trouble = inr (omega arith)
what_trouble (did_see (at_handler call) ∷ a) trouble = what_trouble a trouble
what_trouble (did_forget ∷ a) trouble = what_trouble a trouble
what_trouble (did_write text ∷ a) trouble = what_trouble a trouble

-- a count that rose by one or more rose
pub rose_some : (more before now : ℕ) → 1 ≤ more → RoseBy more before now → Rose before now
rose_some more before now some rose = omega (arith, some, rose)

quiet_before : (a b : List Deed) → ¬ (HasTrouble (a ++ b)) → ¬ (HasTrouble a)
quiet_before a b quiet = λ trouble. quiet (trouble_before a b trouble)

quiet_after : (a b : List Deed) → ¬ (HasTrouble (a ++ b)) → ¬ (HasTrouble b)
quiet_after a b quiet = λ trouble. quiet (trouble_after a b trouble)

-- one stage and then the next, where nothing failed
pub then_well : {A : Type 0} (Well : Outcome (Unit {0}) → Type 0) → ((o : Outcome (Unit {0})) → o ≡ ends 9 → Well o) → (P : List Deed → Outcome A → Type 0) (Q : A → List Deed → Outcome (Unit {0}) → Type 0) (Good : A → Type 0) (seen : List Deed) (o : Outcome (Unit {0})) → ¬ (HasTrouble seen)
    → ((s : List Deed) (r : Outcome A) → ¬ (HasTrouble s) → P s r → GoesOn Good r) → ((value : A) → Good value → (s : List Deed) → ¬ (HasTrouble s) → Q value s o → Well o) → AndThen P Q seen o → Well o
then_well Well memory P Q Good seen o quiet p q (ends_first status stage is) = elim (p seen (ends status) quiet stage) [
  | inl goes ↦ absurd (on_no_end goes.0 status goes.2)
  | inr nine ↦ memory o (is ∙ ap (λ (n : ℕ). ends n) (same_status status 9 nine))
]
then_well Well memory P Q Good seen o quiet p q (goes_further (value, both)) =
    let all : ¬ (HasTrouble (both.first ++ both.second)) = subst (λ (s : List Deed). ¬ (HasTrouble s)) both.whole quiet in
    elim (p both.first (goes_on value) (quiet_before both.first both.second all) both.one) [
      | inl goes ↦ q value (subst Good (sym (same_value value goes.0 goes.2)) goes.1) both.second (quiet_after both.first both.second all) both.other
      | inr nine ↦ absurd (end_no_on value 9 nine)
    ]

-- the same of stages that may go on
pub then_goes : {A B : Type 0} (P : List Deed → Outcome A → Type 0) (Q : A → List Deed → Outcome B → Type 0) (Good : A → Type 0) (Fine : B → Type 0) (seen : List Deed) (o : Outcome B) → ¬ (HasTrouble seen)
    → ((s : List Deed) (r : Outcome A) → ¬ (HasTrouble s) → P s r → GoesOn Good r) → ((value : A) → Good value → (s : List Deed) → ¬ (HasTrouble s) → Q value s o → GoesOn Fine o) → AndThen P Q seen o → GoesOn Fine o
then_goes P Q Good Fine seen o quiet p q (ends_first status stage is) = elim (p seen (ends status) quiet stage) [
  | inl goes ↦ absurd (on_no_end goes.0 status goes.2)
  | inr nine ↦ inr (is ∙ ap (λ (n : ℕ). ends n) (same_status status 9 nine))
]
then_goes P Q Good Fine seen o quiet p q (goes_further (value, both)) =
    let all : ¬ (HasTrouble (both.first ++ both.second)) = subst (λ (s : List Deed). ¬ (HasTrouble s)) both.whole quiet in
    elim (p both.first (goes_on value) (quiet_before both.first both.second all) both.one) [
      | inl goes ↦ q value (subst Good (sym (same_value value goes.0 goes.2)) goes.1) both.second (quiet_after both.first both.second all) both.other
      | inr nine ↦ absurd (end_no_on value 9 nine)
    ]

-- a fact of the files
pub told : (held : Option (List HeldFile)) (files : List HeldFile) (P : List HeldFile → Type 0) → held ≡ Some files → IfSome held P → P files
told held files P is known = subst (λ (h : Option (List HeldFile)). IfSome h P) is known

-- a file that is held, and isn't too long, is read
pub read_well : (held : Option (List HeldFile)) (limit : ℕ) (name content : List ℕ) (files : List HeldFile) (seen : List Deed) (o : Outcome (List ℕ)) → held ≡ Some files → content_of files name ≡ Some content → length content ≤ limit
    → ¬ (HasTrouble seen) → ReadsFile held limit name seen o → GoesOn (λ c. c ≡ content) o
read_well held limit name content files seen o is_held holds short quiet (is_read other fits was saw is) =
    inl (other, same_Some other content (sym (told held files (λ fs. content_of fs name ≡ Some other) is_held was) ∙ holds), is)
read_well held limit name content files seen o is_held holds short quiet (is_absent none end) =
    let gone : content_of files name ≡ None = told held files (λ fs. content_of fs name ≡ None) is_held none in
    absurd cc
read_well held limit name content files seen o is_held holds short quiet (is_unreadable end) = absurd (quiet (subst HasTrouble (sym end.0) tt))
read_well held limit name content files seen o is_held holds short quiet (is_long long end) =
    let longer : limit < length content = subst (λ (c : Option (List ℕ)). IsSomeAnd c (λ x. limit < length x)) holds (told held files (λ fs. IsSomeAnd (content_of fs name) (λ x. limit < length x)) is_held long) in
    absurd (omega (arith, longer, short))
read_well held limit name content files seen o is_held holds short quiet (file_memory made which end) = inr end.1

-- a script is read
pub script_well : (name content : List ℕ) (events : List EventWithBytes) (seen : List Deed) (o : Outcome (List EventWithBytes)) → IsScript content events → ReadsScript name content seen o → GoesOn (λ es. es ≡ events) o
script_well name content events seen o script (is_script others is only saw goes) = inl (others, only events script, goes)
script_well name content events seen o script (is_no_script line bad none end) = absurd (none events script)
script_well name content events seen o script (script_memory end) = inr end.1

-- a JSON text is read
pub tree_well : (name content : List ℕ) (v : Json) (seen : List Deed) (o : Outcome Tree) → tree_of content ≡ Some v → ReadsTree name content seen o → GoesOn (λ tree. json_of tree ≡ v) o
tree_well name content v seen o read (is_tree tree is saw goes) = inl (tree, same_Some (json_of tree) v (sym is ∙ read), goes)
tree_well name content v seen o read (has_no_tree what none why end) = absurd cc
tree_well name content v seen o read (tree_memory end) = inr end.1

pub no_fault : (faults : List (ℕ × List ℕ)) (number : ℕ) (pointer : List ℕ) → faults ≡ [] → slice_get faults 0 ≡ Some (number, pointer) → ⊥
no_fault [] number pointer none some = absurd cc
no_fault (f ∷ fs) number pointer none some = absurd cc

-- a description without a fault is valid
pub judge_well : (tree : Tree) (seen : List Deed) (o : Outcome (Unit {0})) → faults_of (json_of tree) ≡ [] → Judges tree seen o → EndsWell o
judge_well tree seen o none (is_valid also end) = inl end.1
judge_well tree seen o none (is_refused number pointer fault end) = absurd (no_fault (faults_of (json_of tree)) number pointer none fault)
judge_well tree seen o none (judge_memory end) = inr end.1

-- a plan is read
same_ok : {A E : Type 0} (a b : A) → ◌≡◌ {A = Result A E} (Ok a) (Ok b) → a ≡ b
same_ok a b e = cc

not_both : {A : Type 0} (a : A) (pointer : List ℕ) → ◌≡◌ {A = Result A (List ℕ)} (Ok a) (Err pointer) → ⊥
not_both a pointer e = cc

pub plan_well : (name : List ℕ) (tree : Tree) (v : Json) (plan : Plan) (seen : List Deed) (o : Outcome Plan) → json_of tree ≡ v → plan_of v ≡ Ok plan → ReadsPlan name tree seen o → GoesOn (λ p. p ≡ plan) o
plan_well name tree v plan seen o same it (is_plan other is saw goes) = inl (other, same_ok other plan (sym is ∙ ap plan_of same ∙ it), goes)
plan_well name tree v plan seen o same it (is_no_plan pointer is end) = absurd (not_both plan pointer (sym it ∙ ap plan_of (sym same) ∙ is))
plan_well name tree v plan seen o same it (plan_memory end) = inr end.1

-- a model that may be there is put there
missing : (o : Option Json) → o ≡ None → IsSome o → ⊥
missing o none some = cc

-- a text isn't both fit to name a model and not
apart : {A E : Type 0} (P : A → Type 0) (Q : E → Type 0) (r : Result A E) → MatchResult r P (λ e. ⊥) → MatchResult r (λ a. ¬ (P a)) Q → ⊥
apart P Q (Ok a) is isnt = isnt is
apart P Q (Err e) is isnt = is

no_refusal : (url : List ℕ) (v : Json) (models : Models) (what : List ℕ) → MayAdd url v models → IsNotTaken url v models what → ⊥
no_refusal url v models what may (has_bad_url fault is) = apart (λ (parts : Parts). parts.fragment ≡ None) (λ (e : ParseError). ¬ (IsOutOfRoom e)) (parse_url None url) may.url_is fault
no_refusal url v models what may (is_there_twice fault is) = absurd (missing (member_named url models) may.new fault.1)
no_refusal url v models what may (is_no_model fault is) = absurd cc

add_well : (models : Models) (url file : List ℕ) (tree : Tree) (v : Json) (seen : List Deed) (o : Outcome Models) → json_of tree ≡ v → MayAdd url v models → AddsModel models url file tree seen o → GoesOn (λ all. all ≡ with_model url v models) o
add_well models url file tree v seen o same may (is_added also saw goes) = inl (with_model url (json_of tree) models, ap (λ (x : Json). with_model url x models) same, goes)
add_well models url file tree v seen o same may (is_not_added what why end) = absurd (no_refusal url v models what may (subst (λ (x : Json). IsNotTaken url x models what) same why))
add_well models url file tree v seen o same may (add_memory end) = inr end.1

-- the models of a plan are there, one after another
take_well : (held : Option (List HeldFile)) (files : List HeldFile) (model : List ℕ × List ℕ) (models : Models) (content : List ℕ) (v : Json) (seen : List Deed) (o : Outcome Models) → held ≡ Some files
    → content_of files model.1 ≡ Some content → length content ≤ longest_json → tree_of content ≡ Some v → MayAdd model.0 v models → ¬ (HasTrouble seen) → TakesModel held model models seen o → GoesOn (λ all. all ≡ with_model model.0 v models) o
take_well held files model models content v seen o is_held holds short read may quiet stage =
    then_goes (ReadsFile held longest_json model.1) (λ c. AndThen (ReadsTree model.1 c) (AddsModel models model.0 model.1)) (λ c. c ≡ content) (λ all. all ≡ with_model model.0 v models) seen o quiet
    (λ s r q p. read_well held longest_json model.1 content files s r is_held holds short q p)
    (λ c same s q p. then_goes (ReadsTree model.1 c) (AddsModel models model.0 model.1) (λ tree. json_of tree ≡ v) (λ all. all ≡ with_model model.0 v models) s o q
    (λ s2 r q2 p2. tree_well model.1 c v s2 r (ap tree_of same ∙ read) p2)
    (λ tree is s2 q2 p2. add_well models model.0 model.1 tree v s2 o is may p2) p) stage

pub models_well : (held : Option (List HeldFile)) (files : List HeldFile) (left : List (List ℕ × List ℕ)) (models all : Models) (seen : List Deed) (o : Outcome Models) → held ≡ Some files → AreFaultlessModels files left models all → ¬ (HasTrouble seen) → TakesModels held left models seen o
    → GoesOn (λ ms. ms ≡ all) o
models_well held files [] models all seen o is_held fine quiet stage = inl (models, sym fine, stage.1)
models_well held files (model ∷ left) models all seen o is_held fine quiet stage =
    then_goes (TakesModel held model models) (TakesModels held left) (λ ms. ms ≡ with_model model.0 fine.1 models) (λ ms. ms ≡ all) seen o quiet
    (λ s r q p. take_well held files model models fine.0 fine.1 s r is_held fine.2 fine.3 fine.4 fine.5 q p)
    (λ ms same s q p. models_well held files left ms all s o is_held (subst (λ (x : Models). AreFaultlessModels files left x all) (sym same) fine.6) q p) stage

-- a root without a fault is derived
no_err : {A E : Type 0} (a : A) (e : E) → ◌≡◌ {A = Result A E} (Ok a) (Err e) → ⊥
no_err a e same = cc

pub derive_well : (p : Planned) (things : List (List ℕ × Json)) (seen : List Deed) (o : Outcome (List (List ℕ × Json))) → derived_of p ≡ Ok things → Derives p seen o → GoesOn (λ ts. ts ≡ things) o
derive_well p things seen o fine (is_derived others also saw goes) = inl (others, same_ok others things (sym also ∙ fine), goes)
derive_well p things seen o fine (plans.is_refused fault is end) = absurd (no_err things fault (sym fine ∙ is))
derive_well p things seen o fine (derive_memory end) = inr end.1

pub print_well : (things : List (List ℕ × Json)) (seen : List Deed) (o : Outcome (Unit {0})) → Prints things seen o → EndsWell o
print_well things seen o (is_printed end) = inl end.1
print_well things seen o (print_memory end) = inr end.1
