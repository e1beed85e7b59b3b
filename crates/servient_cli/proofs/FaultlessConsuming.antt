-- `consume` and `discover` where nothing is wrong and nothing failed: they end as what they ask does.
use Rattle.std.proofs.Common.{◌≡◌, ◌⊎◌, ℕ, List, [], ◌∷◌, ◌++◌, Option, Some, None, Bool, true, false, cond, refl, sym, ap, ◌∙◌, subst, inl, inr}
use Rattle.std.proofs.lemmas.Option.{same_Some}
use Rattle.wot_json.specs.Tree.{Json}
use Rattle.wot_json.specs.Meaning.{json_of}
use Rattle.wot_json.specs.Reading.{tree_of}
use Rattle.wot_json.specs.declared.tree.Tree.{Tree}
use Rattle.wot_terms.specs.Faults.{faults_of}
use Rattle.wot_terms.specs.declared.op.Op.{Op}
use Rattle.wot_forms.specs.declared.form.Form.{Form}
use Rattle.wot_forms.specs.declared.scheme.Scheme.{Scheme}
use Rattle.wot_consumer.specs.declared.chosen.Chosen.{Chosen}
use Rattle.wot_consumer.specs.Discovery.{links_of}
use Rattle.wot_consumer.specs.Choice.{IsFirst, IsChosen, base_of, forms_for, wanted}
use Rattle.command_words.specs.Operations.{form_operation}
use Rattle.command_words.specs.declared.command.Consumption.{Consumption}
use Rattle.servient_outside.specs.declared.files.HeldFile.{HeldFile}
use Rattle.servient_outside.specs.Network.{heard, did, broke}
use Rattle.network_consumer.specs.declared.consumed.Consumed.{Consumed}
use Rattle.network_consumer.specs.declared.consumed.Consumed.TheVariants as consumed
use Rattle.network_consumer.specs.declared.operation.ThingOperation.{ThingOperation}
use Rattle.network_consumer.specs.Deeds.{happens, prints}
use Rattle.network_consumer.specs.Deeds as operation
use Rattle.network_consumer.specs.Consuming.{Consumes, Discovers}
use Rattle.network_consumer.proofs.FailureLaws.{Breaks, failing_breaks, discovering_breaks}
use Rattle.command_stages.specs.Stages.{Deed, Outcome, ends, did_write}
use Rattle.command_stages.specs.Reading.{ReadsFile, ReadsTree, longest_json}
use Rattle.command_stages.specs.Describing.{TakesDescription, is_taken, has_fault, description_memory, DescriptionIn, ReadsDescription, ReadsValue, HasInput, has_input, has_no_input, ReadsInput}
use Rattle.servient_cli.specs.Consuming.{Chooses, is_chosen, has_no_affordance, has_no_form, choose_memory, deeds_of, status_after, line_after, EndsAfter, has_ended, line_memory, IsOperated, Operates, OperatesOn, ConsumesBy, ConsumesThing}
use Rattle.servient_cli.specs.Discovering.{DiscoversThings}
use Rattle.servient_cli.specs.Command.{HoldsInput, IsFaultlessConsumption, IsAnswered}
use Rattle.command_stages.proofs.FaultlessReading.{GoesOn, HasTrouble, trouble_before, then_well, then_goes, read_well, tree_well, no_fault}

-- ---- what failed broke the network

breaks_trouble : (deeds : List operation.Deed) → Breaks deeds → HasTrouble (deeds_of deeds)
breaks_trouble [] breaks = absurd breaks
breaks_trouble (happens (heard e) ∷ deeds) breaks = breaks_trouble deeds breaks
breaks_trouble (happens (did act) ∷ deeds) breaks = breaks_trouble deeds breaks
breaks_trouble (happens (broke call) ∷ deeds) breaks = tt
breaks_trouble (prints text ∷ deeds) breaks = breaks_trouble deeds breaks

failed_trouble : (o : ThingOperation) (c : Chosen) (deeds : List operation.Deed) → Consumes o c deeds consumed.Failed → HasTrouble (deeds_of deeds)
failed_trouble o c deeds consumes = breaks_trouble deeds (failing_breaks o c deeds consumes)

discovery_trouble : (c : Chosen) (deeds : List operation.Deed) → Discovers c deeds consumed.Failed → HasTrouble (deeds_of deeds)
discovery_trouble c deeds discovers = breaks_trouble deeds (discovering_breaks c deeds discovers)

-- ---- how it ends

-- done, out of memory, as the other Thing answers, or by what couldn't be printed
abbrev pub MayEnd : ℕ → Type 0
MayEnd n = (n ≡ 0) ⊎ (n ≡ 9) ⊎ (n ≡ 7) ⊎ IsAnswered n

abbrev pub IsConsumed : Outcome (Unit {0}) → Type 0
IsConsumed o = (n : ℕ) × (o ≡ ends n) × MayEnd n

by_memory : (o : Outcome (Unit {0})) → o ≡ ends 9 → IsConsumed o
by_memory o nine = (9, nine, inr (inl refl))

abbrev BreaksSo : (List operation.Deed → Consumed → Type 0) → Type 0
BreaksSo P = (deeds : List operation.Deed) → P deeds consumed.Failed → HasTrouble (deeds_of deeds)

ended_well : (P : List operation.Deed → Consumed → Type 0) (r : Consumed) (deeds : List operation.Deed) (seen : List Deed) (o : Outcome (Unit {0})) → BreaksSo P → ¬ (HasTrouble seen) → seen ≡ deeds_of deeds ++ did_write (line_after r) ∷ [] → o ≡ ends (status_after r) → P deeds r → IsConsumed o
ended_well P consumed.Done deeds seen o breaks quiet is end did_so = (0, end, inl refl)
ended_well P (consumed.Other other) deeds seen o breaks quiet is end did_so = (10, end, inr (inr (inr (inl refl))))
ended_well P consumed.Silent deeds seen o breaks quiet is end did_so = (11, end, inr (inr (inr (inr (inl refl)))))
ended_well P consumed.Failed deeds seen o breaks quiet is end did_so =
    absurd (quiet (subst HasTrouble (sym is) (trouble_before (deeds_of deeds) (did_write (line_after consumed.Failed) ∷ []) (breaks deeds did_so))))
ended_well P consumed.Unprinted deeds seen o breaks quiet is end did_so = (7, end, inr (inr (inl refl)))
ended_well P consumed.Spent deeds seen o breaks quiet is end did_so = (8, end, inr (inr (inr (inr (inr refl)))))
ended_well P consumed.NoMemory deeds seen o breaks quiet is end did_so = (9, end, inr (inl refl))

asked_well : (P : List operation.Deed → Consumed → Type 0) (seen : List Deed) (o : Outcome (Unit {0})) → BreaksSo P → ¬ (HasTrouble seen) → EndsAfter P seen o → IsConsumed o
asked_well P seen o breaks quiet (has_ended r deeds did_so end) = ended_well P r deeds seen o breaks quiet end.0 end.1 did_so
asked_well P seen o breaks quiet (line_memory r deeds did_so end) = by_memory o end.1

operate_well : (k : Consumption) (tree : Tree) (input : Option Tree) (c : Chosen) (seen : List Deed) (o : Outcome (Unit {0})) → ¬ (HasTrouble seen) → Operates k tree input c seen o → IsConsumed o
operate_well k tree input c seen o quiet stage = asked_well (IsOperated k tree input c) seen o (λ deeds did_so. failed_trouble did_so.request c deeds did_so.consumes) quiet stage

pub discover_well : (host : List ℕ) (port : ℕ) (seen : List Deed) (o : Outcome (Unit {0})) → ¬ (HasTrouble seen) → DiscoversThings host port seen o → IsConsumed o
discover_well host port seen o quiet stage = asked_well (Discovers (links_of host port)) seen o (discovery_trouble (links_of host port)) quiet stage

-- ---- the files

described_well : (tree : Tree) (v : Json) (seen : List Deed) (o : Outcome Tree) → json_of tree ≡ v → faults_of v ≡ [] → TakesDescription tree seen o → GoesOn (λ t. json_of t ≡ v) o
described_well tree v seen o same none (is_taken also saw goes) = inl (tree, same, goes)
described_well tree v seen o same none (has_fault number pointer fault end) = absurd (no_fault (faults_of (json_of tree)) number pointer (ap faults_of same ∙ none) fault)
described_well tree v seen o same none (description_memory end) = inr end.1

description_well : (held : Option (List HeldFile)) (files : List HeldFile) (k : Consumption) (fine : IsFaultlessConsumption files k) (seen : List Deed) (o : Outcome Tree) → held ≡ Some files → ¬ (HasTrouble seen) → ReadsDescription held k.description seen o
    → GoesOn (λ t. json_of t ≡ fine.tree) o
description_well held files k fine seen o is_held quiet stage =
    then_goes (ReadsFile held longest_json k.description) (DescriptionIn k.description) (λ c. c ≡ fine.described.content) (λ t. json_of t ≡ fine.tree) seen o quiet
    (λ s r q p. read_well held longest_json k.description fine.described.content files s r is_held fine.described.holds fine.described.short q p)
    (λ content same s q p. then_goes (ReadsTree k.description content) TakesDescription (λ t. json_of t ≡ fine.tree) (λ t. json_of t ≡ fine.tree) s o q
    (λ s2 r2 q2 p2. tree_well k.description content fine.tree s2 r2 (ap tree_of same ∙ fine.described.good.0) p2)
    (λ t is s2 q2 p2. described_well t fine.tree s2 o is fine.described.good.1 p2) p) stage

any_tree : (v : Json) (o : Outcome Tree) → GoesOn (λ t. json_of t ≡ v) o → GoesOn (λ t. Unit {0}) o
any_tree v o (inl goes) = inl (goes.0, tt, goes.2)
any_tree v o (inr nine) = inr nine

handed_well : (tree : Tree) (seen : List Deed) (o : Outcome (Option Tree)) → HasInput tree seen o → GoesOn (λ i. Unit {0}) o
handed_well tree seen o (has_input saw goes) = inl (Some tree, tt, goes)

input_well : (held : Option (List HeldFile)) (files : List HeldFile) (input : Option (List ℕ)) (fine : HoldsInput files input) (seen : List Deed) (o : Outcome (Option Tree)) → held ≡ Some files → ¬ (HasTrouble seen) → ReadsInput held input seen o
    → GoesOn (λ i. Unit {0}) o
input_well held files None fine seen o is_held quiet (has_no_input saw goes) = inl (None, tt, goes)
input_well held files (Some name) fine seen o is_held quiet stage =
    then_goes (ReadsValue held name) HasInput (λ t. Unit {0}) (λ i. Unit {0}) seen o quiet
    (λ s r q p. then_goes (ReadsFile held longest_json name) (ReadsTree name) (λ c. c ≡ fine.content) (λ t. Unit {0}) s r q
    (λ s2 r2 q2 p2. read_well held longest_json name fine.content files s2 r2 is_held fine.holds fine.short q2 p2)
    (λ content same s2 q2 p2. any_tree fine.good.0 r (tree_well name content fine.good.0 s2 r (ap tree_of same ∙ fine.good.1) p2)) p)
    (λ tree any s q p. handed_well tree s o p) stage

-- ---- the form

-- no forms have a first one and none
never_both : (op : Op) (only : Option Scheme) (base : Option (List ℕ)) (forms : List Form) (c : Chosen) → IsFirst (wanted op only) base forms None → IsFirst (wanted op only) base forms (Some c) → ⊥
never_both op only base [] c none first = first
never_both op only base (f ∷ fs) c none (inl qualifies) = none.0 c qualifies
never_both op only base (f ∷ fs) c none (inr later) = never_both op only base fs c none.1 later.1

choose_well : (tree : Tree) (v : Json) (op : Op) (name : List ℕ) (only : Option Scheme) (c : Chosen) (seen : List Deed) (o : Outcome Chosen) → json_of tree ≡ v → IsChosen v (wanted op only) name c → Chooses tree op name only seen o → GoesOn (λ c. Unit {0}) o
choose_well tree v op name only c seen o same chosen (is_chosen d is saw goes) = inl (d, tt, goes)
choose_well tree v op name only c seen o same chosen (has_no_affordance none end) =
    let bad : None ≡ Some chosen.0 = sym none ∙ ap (λ (x : Json). forms_for x op name) same ∙ chosen.1 in absurd cc
choose_well tree v op name only c seen o same chosen (has_no_form none end) =
    let forms : none.0 ≡ chosen.0 = same_Some none.0 chosen.0 (sym none.1 ∙ ap (λ (x : Json). forms_for x op name) same ∙ chosen.1) in
    let first : IsFirst (wanted op only) (base_of v) chosen.0 None =
    subst (λ (fs : List Form). IsFirst (wanted op only) (base_of v) fs None) forms (subst (λ (x : Json). IsFirst (wanted op only) (base_of x) none.0 None) same none.2) in
    absurd (never_both op only (base_of v) chosen.0 c first chosen.2)
choose_well tree v op name only c seen o same chosen (choose_memory end) = inr end.1

-- ---- the whole

pub consume_well : (held : Option (List HeldFile)) (files : List HeldFile) (k : Consumption) (fine : IsFaultlessConsumption files k) (seen : List Deed) (o : Outcome (Unit {0})) → held ≡ Some files → ¬ (HasTrouble seen) → ConsumesThing held k seen o → IsConsumed o
consume_well held files k fine seen o is_held quiet stage =
    then_well IsConsumed by_memory (ReadsDescription held k.description) (ConsumesBy held k) (λ t. json_of t ≡ fine.tree) seen o quiet
    (λ s r q p. description_well held files k fine s r is_held q p)
    (λ tree same s q p. then_well IsConsumed by_memory (ReadsInput held k.input) (OperatesOn k tree) (λ i. Unit {0}) s o q
    (λ s2 r2 q2 p2. input_well held files k.input fine.input s2 r2 is_held q2 p2)
    (λ input any s2 q2 p2. then_well IsConsumed by_memory (Chooses tree (form_operation k.operation) k.name k.scheme) (Operates k tree input) (λ c. Unit {0}) s2 o q2
    (λ s3 r3 q3 p3. choose_well tree fine.tree (form_operation k.operation) k.name k.scheme fine.chosen s3 r3 same fine.chosen_is p3)
    (λ c other s3 q3 p3. operate_well k tree input c s3 o q3 p3) p2) p) stage
