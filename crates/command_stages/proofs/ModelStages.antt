-- The models of a plan, one after another, as a loop takes them.
use Rattle.std.proofs.Common.{◌≡◌, ◌≢◌, ◌⊎◌, inl, inr, ℕ, ◌+◌, ◌<◌, ◌≤◌, suc, List, [], ◌∷◌, length, drop, get_or, Result, Ok, Err, refl, sym, subst, add-one, drop-cons, ◌∙◌, ap}
use Rattle.std.specs.Prelude.{Option, IfOk, OnOk, MatchResult}
use Rattle.wot_json.specs.Tree.{Json}
use Rattle.std.specs.declared.alloc.AllocError.{AllocError}
use Rattle.std.proofs.lemmas.List.{drop_all}
use Rattle.tm_parts.specs.Library.{Models, with_model}
use Rattle.servient_outside.specs.declared.files.HeldFile.{HeldFile}
use Rattle.wot_json.specs.declared.tree.Tree.{Tree}
use Rattle.tm_derive.specs.declared.fault.DeriveFault.{DeriveFault}
use Rattle.tm_derive.specs.declared.fault.DeriveFault.TheVariants.{NoMemory}
use Rattle.servient_plan.specs.declared.plan.Plan.{Plan}
use Rattle.servient_outside.specs.declared.net.EventWithBytes.{EventWithBytes}
use Rattle.servient_trace.specs.Trace.{Outside}
use Rattle.command_stages.specs.declared.derivation.Planned.{Planned}
use Rattle.command_stages.specs.declared.inputs.Inputs.{Inputs}
use Rattle.command_stages.specs.declared.ending.Ending.{Ending}
use Rattle.command_stages.specs.declared.ending.Ended.{Ended}
use Rattle.command_stages.specs.declared.ending.Ended.TheVariants as ended
use Rattle.command_stages.specs.Stages.{Deed, Outcome, goes_on, ends, AndThen, Around, around}
use Rattle.servient_outside.specs.Files.{FilesSeen}
use Rattle.command_stages.specs.Reading.{ReadsFile, ReadsTree, longest_json}
use Rattle.command_stages.specs.FaultLines.{refused_line}
use Rattle.command_stages.specs.Deriving.{AddsModel, ReadsPlan, TakesModel, TakesModels, IsPlanned, ReadsPlanned, Derives, is_refused, derive_memory, derived_of}
use Rattle.command_stages.specs.Ending.{ComesOut, Performs, status_of, text_of}
use Rattle.command_stages.proofs.StageLaws.{first_ends, goes_quietly, second_comes, error_performs, then_performs, ends_line, ends_memory}

-- a limit that is given by an equation
pub read_limit : (held : Option (List HeldFile)) (m n : ℕ) (name : List ℕ) (a b : Around) (e : Ended) → m ≡ n → Performs {A = List ℕ} (ReadsFile held m name) a b (Err e) → Performs {A = List ℕ} (ReadsFile held n name) a b (Err e)
read_limit held m n name a b e is p = subst (λ (k : ℕ). Performs {A = List ℕ} (ReadsFile held k name) a b (Err e)) is p

-- Models were taken, these are left, and however it comes out with those, all come out so.
abbrev pub TakesOn : Option (List HeldFile) → List (List ℕ × List ℕ) → List (List ℕ × List ℕ) → Models → FilesSeen → FilesSeen → Type 0
TakesOn held all left models before now =
    (w : Outside) (later : Around) (o : Outcome Models) (text : List ℕ) → ComesOut (TakesModels held left models) (around now w) later o text → ComesOut (TakesModels held all []) (around before w) later o text

-- before the first
pub takes_first : (held : Option (List HeldFile)) (all : List (List ℕ × List ℕ)) (before : FilesSeen) → TakesOn held all (drop 0 all) [] before before
takes_first held all before = λ w later o text p. p

-- the rest at an index begins with the model that is there
left_at : (all : List (List ℕ × List ℕ)) (i : ℕ) (d model : List ℕ × List ℕ) → i < length all → model ≡ get_or all i d → drop i all ≡ model ∷ drop (i + 1) all
left_at all i d model within is = drop-cons all i d within ∙ ap (λ (m : List ℕ × List ℕ). m ∷ drop (suc i) all) (sym is) ∙ ap (λ (n : ℕ). model ∷ drop n all) (sym (add-one i))

-- one more
pub takes_more : (held : Option (List HeldFile)) (all : List (List ℕ × List ℕ)) (i : ℕ) (d model : List ℕ × List ℕ) (models grown : Models) (before now next : FilesSeen) → i < length all → model ≡ get_or all i d
    → TakesOn held all (drop i all) models before now → ((w : Outside) → ComesOut (TakesModel held model models) (around now w) (around next w) (goes_on grown) []) → TakesOn held all (drop (i + 1) all) grown before next
takes_more held all i d model models grown before now next within is so_far one = λ w later o text p.
    so_far w later o text (subst (λ (left : List (List ℕ × List ℕ)). ComesOut (TakesModels held left models) (around now w) later o text) (sym (left_at all i d model within is))
    (second_comes (TakesModel held model models) (TakesModels held (drop (i + 1) all)) (around now w) (around next w) later grown o text (one w) p))

-- one that isn't taken ends all
pub takes_none : (held : Option (List HeldFile)) (all : List (List ℕ × List ℕ)) (i : ℕ) (d model : List ℕ × List ℕ) (models : Models) (before now next : FilesSeen) (w : Outside) (e : Ended) → i < length all → model ≡ get_or all i d
    → TakesOn held all (drop i all) models before now → Performs {A = Models} (TakesModel held model models) (around now w) (around next w) (Err e) → Performs {A = Models} (TakesModels held all []) (around before w) (around next w) (Err e)
takes_none held all i d model models before now next w e within is so_far one =
    so_far w (around next w) (ends (status_of e)) (text_of e) (subst (λ (left : List (List ℕ × List ℕ)). ComesOut (TakesModels held left models) (around now w) (around next w) (ends (status_of e)) (text_of e)) (sym (left_at all i d model within is))
    (first_ends (TakesModel held model models) (TakesModels held (drop (i + 1) all)) (around now w) (around next w) (status_of e) (text_of e) one))

-- after the last
pub takes_last : (held : Option (List HeldFile)) (all : List (List ℕ × List ℕ)) (i : ℕ) (models : Models) (before now : FilesSeen) (w : Outside) → length all ≤ i → TakesOn held all (drop i all) models before now
    → ComesOut (TakesModels held all []) (around before w) (around now w) (goes_on models) []
takes_last held all i models before now w past so_far =
    so_far w (around now w) (goes_on models) [] (subst (λ (left : List (List ℕ × List ℕ)). ComesOut (TakesModels held left models) (around now w) (around now w) (goes_on models) []) (sym (drop_all i all past))
    (goes_quietly (TakesModels held [] models) (around now w) models (refl, refl)))

-- ---- one model

-- its file isn't read
pub taken_no_file : (held : Option (List HeldFile)) (model : List ℕ × List ℕ) (models : Models) (file : List ℕ) (a b : Around) (e : Ended) → file ≡ model.1 → Performs {A = List ℕ} (ReadsFile held longest_json file) a b (Err e) → Performs {A = Models} (TakesModel held model models) a b (Err e)
taken_no_file held model models file a b e is p =
    error_performs (ReadsFile held longest_json model.1) (λ content. AndThen (ReadsTree model.1 content) (AddsModel models model.0 model.1)) a b e
    (subst (λ (f : List ℕ). Performs {A = List ℕ} (ReadsFile held longest_json f) a b (Err e)) is p)

-- it is read, and then comes what comes of its content
taken_file : (held : Option (List HeldFile)) (model : List ℕ × List ℕ) (models : Models) (file content : List ℕ) (a b : Around) (r : Result Models Ended) → file ≡ model.1 → ComesOut (ReadsFile held longest_json file) a b (goes_on content) []
    → Performs (AndThen (ReadsTree model.1 content) (AddsModel models model.0 model.1)) b b r → Performs (TakesModel held model models) a b r
taken_file held model models file content a b r is p rest =
    then_performs (ReadsFile held longest_json model.1) (λ c. AndThen (ReadsTree model.1 c) (AddsModel models model.0 model.1)) a b b content r
    (subst (λ (f : List ℕ). ComesOut (ReadsFile held longest_json f) a b (goes_on content) []) is p) rest

-- it has no tree
pub taken_no_tree : (held : Option (List HeldFile)) (model : List ℕ × List ℕ) (models : Models) (file content bytes : List ℕ) (a b : Around) (e : Ended) → file ≡ model.1 → bytes ≡ content → ComesOut (ReadsFile held longest_json file) a b (goes_on content) []
    → Performs {A = Tree} (ReadsTree file bytes) b b (Err e) → Performs {A = Models} (TakesModel held model models) a b (Err e)
taken_no_tree held model models file content bytes a b e is same p tree =
    taken_file held model models file content a b (Err e) is p
    (error_performs (ReadsTree model.1 content) (AddsModel models model.0 model.1) b b e
    (subst (λ (c : List ℕ). Performs {A = Tree} (ReadsTree model.1 c) b b (Err e)) same (subst (λ (f : List ℕ). Performs {A = Tree} (ReadsTree f bytes) b b (Err e)) is tree)))

-- it has one, and is put with the others or not
pub taken_tree : (held : Option (List HeldFile)) (model : List ℕ × List ℕ) (models : Models) (url file content bytes : List ℕ) (tree : Tree) (a b : Around) (r : Result Models Ended) → url ≡ model.0 → file ≡ model.1 → bytes ≡ content
    → ComesOut (ReadsFile held longest_json file) a b (goes_on content) [] → ComesOut (ReadsTree file bytes) b b (goes_on tree) [] → Performs (AddsModel models url file tree) b b r → Performs (TakesModel held model models) a b r
taken_tree held model models url file content bytes tree a b r url_is is same p read adds =
    taken_file held model models file content a b r is p
    (then_performs (ReadsTree model.1 content) (AddsModel models model.0 model.1) b b b tree r
    (subst (λ (c : List ℕ). ComesOut (ReadsTree model.1 c) b b (goes_on tree) []) same (subst (λ (f : List ℕ). ComesOut (ReadsTree f bytes) b b (goes_on tree) []) is read))
    (subst (λ (u : List ℕ). Performs (AddsModel models u model.1 tree) b b r) url_is (subst (λ (f : List ℕ). Performs (AddsModel models url f tree) b b r) is adds)))

-- ---- the root

-- it has a fault, or is out of memory
pub refused_ends : (p : Planned) (a : Around) (r : Result Ending AllocError) (e : DeriveFault) (ended_so : Ended) → IfOk r (λ x. (x.status ≡ 5) × (x.text ≡ refused_line e)) → OnOk r (e ≢ NoMemory) → MatchResult r (λ x. ended_so ≡ ended.With x) (λ _. ended_so ≡ ended.NoMemory)
    → (e ≡ NoMemory) ⊎ (derived_of p ≡ Err e) → Performs {A = List (List ℕ × Json)} (Derives p) a a (Err ended_so)
refused_ends p a (Err none) e ended_so line known comes why =
    subst (λ (x : Ended). Performs {A = List (List ℕ × Json)} (Derives p) a a (Err x)) (sym comes) (ends_memory (Derives p) a (derive_memory (refl, refl)))
refused_ends p a (Ok ending) e ended_so line known comes (inl memory) = absurd (known memory)
refused_ends p a (Ok ending) e ended_so line known comes (inr is) =
    subst (λ (x : Ended). Performs {A = List (List ℕ × Json)} (Derives p) a a (Err x)) (sym comes) (ends_line (Derives p) a ending 5 (refused_line e) line (is_refused e is (refl, refl)))

-- ---- a plan and its models

-- the stages after the content of a plan, its tree, and the plan
abbrev pub after_plan : Option (List HeldFile) → Plan → List Deed → Outcome Planned → Type 0
after_plan held plan = AndThen (TakesModels held plan.models []) (IsPlanned plan)

abbrev pub after_tree : Option (List HeldFile) → List ℕ → Tree → List Deed → Outcome Planned → Type 0
after_tree held name tree = AndThen (ReadsPlan name tree) (after_plan held)

abbrev pub after_content : Option (List HeldFile) → List ℕ → List ℕ → List Deed → Outcome Planned → Type 0
after_content held name content = AndThen (ReadsTree name content) (after_tree held name)

-- the plan's content was read, and then its tree, which is a plan
pub content_then : (held : Option (List HeldFile)) (name content : List ℕ) (a b c : Around) (r : Result Planned Ended) → ComesOut (ReadsFile held longest_json name) a b (goes_on content) [] → Performs (after_content held name content) b c r → Performs (ReadsPlanned held name) a c r
content_then held name content a b c r p q = then_performs (ReadsFile held longest_json name) (after_content held name) a b c content r p q

pub tree_then : (held : Option (List HeldFile)) (name content : List ℕ) (a b c : Around) (tree : Tree) (r : Result Planned Ended) → ComesOut (ReadsFile held longest_json name) a b (goes_on content) [] → ComesOut (ReadsTree name content) b b (goes_on tree) [] → Performs (after_tree held name tree) b c r → Performs (ReadsPlanned held name) a c r
tree_then held name content a b c tree r p q s = content_then held name content a b c r p (then_performs (ReadsTree name content) (after_tree held name) b b c tree r q s)

pub plan_then : (held : Option (List HeldFile)) (name content : List ℕ) (a b c : Around) (tree : Tree) (plan : Plan) (r : Result Planned Ended) → ComesOut (ReadsFile held longest_json name) a b (goes_on content) [] → ComesOut (ReadsTree name content) b b (goes_on tree) [] → ComesOut (ReadsPlan name tree) b b (goes_on plan) []
    → Performs (after_plan held plan) b c r → Performs (ReadsPlanned held name) a c r
plan_then held name content a b c tree plan r p q s t = tree_then held name content a b c tree r p q (then_performs (ReadsPlan name tree) (after_plan held) b b c plan r s t)

abbrev pub planned : Plan → Models → Planned
planned plan models = record { plan = plan; library = models }

-- the same plan, with one model under the same URL
pub same_planned : (plan other : Plan) (library models : Models) (url place : List ℕ) (v model : Json) → plan ≡ other → library ≡ with_model url v models → url ≡ place → v ≡ model → models ≡ [] → goes_on (planned plan library) ≡ goes_on (planned other (with_model place model []))
same_planned plan other library models url place v model same added at is none =
    ap (λ (x : Plan). goes_on (planned x library)) same
    ∙ ap (λ (x : Models). goes_on (planned other x))
    (added ∙ ap (λ (x : List ℕ). with_model x v models) at ∙ ap (λ (x : Json). with_model place x models) is ∙ ap (λ (x : Models). with_model place model x) none)

-- ---- the inputs of a replay

abbrev pub inputs : Planned → List EventWithBytes → Inputs
inputs p events = record { planned = p; events = events }
