use Rattle.std.proofs.Common.{◌++◌, ℕ, List, codes, ap, arith}
use Rattle.std.proofs.lemmas.Result.{err_from_is_err_and}
use Rattle.wot_json.specs.Tree.{nesting, elements_of, members_of}
use Rattle.wot_json.specs.Meaning.{json_of, json_items, json_members}
use Rattle.wot_json.specs.declared.tree.Tree.{Tree}
use Rattle.wot_json.proofs.Nesting.{element_nests, member_nests}
use Rattle.wot_schema.specs.Acceptance.{one_of, items, properties}
use Rattle.wot_schema.specs.Faults.{schema_faults, table_faults, faults_within, faults_below, faults_of_list, faults_of_members}
use Rattle.wot_schema.proofs.FirstFaults.{stops, goes_on, element_stops, element_passed, named_stops, named_passed}
use Rattle.wot_schema.proofs.CompilingSteps.{found_nests, absent_faultless, there_found}
use Rattle.wot_schema.proofs.validity.+checking.Goals as goal

pub check_alternatives-alternatives_found-requires : goal.check_alternatives-alternatives_found-requires
check_alternatives-alternatives_found-requires t c =
    let there = rw c.in-Some.is at c.value_under.ensures in
    (omega (arith, found_nests (codes "oneOf") (members_of c.args.members.now) (json_of c.in-Some.tree.now) there), tt)

pub check_alternatives-returns-in-None : goal.check_alternatives-returns-in-None
check_alternatives-returns-in-None t c = absent_faultless one_of (members_of c.args.members.now) (rw c.in-None.is at c.value_under.ensures)

pub check_alternatives-returns-in-Some : goal.check_alternatives-returns-in-Some
check_alternatives-returns-in-Some t c =
    there_found c.in_member.result one_of (members_of c.args.members.now) (json_of c.in-Some.tree.now) (rw c.in-Some.is at c.value_under.ensures)
    (c.in_member.ensures (faults_below one_of (json_of c.in-Some.tree.now)) c.alternatives_found.ensures)

pub check_items-items_found-requires : goal.check_items-items_found-requires
check_items-items_found-requires t c =
    let there = rw c.in-Some.is at c.value_under.ensures in
    (omega (arith, found_nests (codes "items") (members_of c.args.members.now) (json_of c.in-Some.tree.now) there), tt)

pub check_items-returns-in-None : goal.check_items-returns-in-None
check_items-returns-in-None t c = absent_faultless items (members_of c.args.members.now) (rw c.in-None.is at c.value_under.ensures)

pub check_items-returns-in-Some : goal.check_items-returns-in-Some
check_items-returns-in-Some t c =
    there_found c.in_member.result items (members_of c.args.members.now) (json_of c.in-Some.tree.now) (rw c.in-Some.is at c.value_under.ensures)
    (c.in_member.ensures (faults_below items (json_of c.in-Some.tree.now)) c.items_found.ensures)

pub check_properties-properties_found-requires : goal.check_properties-properties_found-requires
check_properties-properties_found-requires t c =
    let there = rw c.in-Some.is at c.value_under.ensures in
    (omega (arith, found_nests (codes "properties") (members_of c.args.members.now) (json_of c.in-Some.tree.now) there), tt)

pub check_properties-returns-in-None : goal.check_properties-returns-in-None
check_properties-returns-in-None t c = absent_faultless properties (members_of c.args.members.now) (rw c.in-None.is at c.value_under.ensures)

pub check_properties-returns-in-Some : goal.check_properties-returns-in-Some
check_properties-returns-in-Some t c =
    there_found c.in_member.result properties (members_of c.args.members.now) (json_of c.in-Some.tree.now) (rw c.in-Some.is at c.value_under.ensures)
    (c.in_member.ensures (faults_below properties (json_of c.in-Some.tree.now)) c.properties_found.ensures)

pub check_members-returns-in_err-check_table : goal.check_members-returns-in_err-check_table
check_members-returns-in_err-check_table t c =
    let ms = members_of c.args.members.now in
    let p = err_from_is_err_and c.from_residual.result c.from_residual.ensures.1 in
    rw (p.1, p.2) (stops (table_faults ms) (faults_within one_of ms ++ (faults_within items ms ++ faults_within properties ms)) _ c.in_err-check_table.ensures)

pub check_members-returns-in_err-check_alternatives : goal.check_members-returns-in_err-check_alternatives
check_members-returns-in_err-check_alternatives t c =
    let ms = members_of c.args.members.now in
    let p = err_from_is_err_and c.from_residual-in_err-check_alternatives.result c.from_residual-in_err-check_alternatives.ensures.1 in
    rw (p.1, p.2) (goes_on (table_faults ms) (faults_within one_of ms ++ (faults_within items ms ++ faults_within properties ms)) _ c.in_ok-check_table.ensures (stops (faults_within one_of ms) (faults_within items ms ++ faults_within properties ms) _ c.in_err-check_alternatives.ensures))

pub check_members-returns-in_err-check_items : goal.check_members-returns-in_err-check_items
check_members-returns-in_err-check_items t c =
    let ms = members_of c.args.members.now in
    let p = err_from_is_err_and c.from_residual-in_err-check_items.result c.from_residual-in_err-check_items.ensures.1 in
    rw (p.1, p.2) (goes_on (table_faults ms) (faults_within one_of ms ++ (faults_within items ms ++ faults_within properties ms)) _ c.in_ok-check_table.ensures (goes_on (faults_within one_of ms) (faults_within items ms ++ faults_within properties ms) _ c.in_ok-check_alternatives.ensures (stops (faults_within items ms) (faults_within properties ms) _ c.in_err-check_items.ensures)))

pub check_list-check_schema-requires : goal.check_list-check_schema-requires
check_list-check_schema-requires t c =
    (omega (arith, element_nests c.args.schemas.now c.loop-index.index c.index-schemas-index.result c.loop-index-test.true, ap (λ (u : Tree). nesting (json_of u)) c.index-schemas-index.is), tt)

pub check_list-returns-in_err-in_element : goal.check_list-returns-in_err-in_element
check_list-returns-in_err-in_element t c =
    let p = err_from_is_err_and c.from_residual.result c.from_residual.ensures.1 in
    rw (p.1, p.2)
    (element_stops (faults_of_list 0 (elements_of (json_items c.args.schemas.now))) c.args.schemas.now c.loop-index.index c.index-schemas-index.result _ c.loop-index-test.true c.index-schemas-index.is c.loop-index.invariant
    (c.in_err-in_element.ensures (schema_faults (json_of c.index-schemas-index.result)) c.check_schema.ensures))

pub check_list-loop-index-preserved : goal.check_list-loop-index-preserved
check_list-loop-index-preserved t c =
    element_passed (faults_of_list 0 (elements_of (json_items c.args.schemas.now))) c.args.schemas.now c.loop-index.index c.index-schemas-index.result c.loop-index-test.true c.index-schemas-index.is c.loop-index.invariant
    (c.in_ok-in_element.ensures (schema_faults (json_of c.index-schemas-index.result)) c.check_schema.ensures)

pub check_named-check_schema-requires : goal.check_named-check_schema-requires
check_named-check_schema-requires t c =
    (omega (arith, member_nests c.args.schemas.now c.loop-name.name-index c.loop-name-item.result c.loop-name-test.true, ap (λ (u : List ℕ × Tree). nesting (json_of u.1)) c.loop-name-item.is), tt)

pub check_named-returns-in_err-in_member : goal.check_named-returns-in_err-in_member
check_named-returns-in_err-in_member t c =
    let p = err_from_is_err_and c.from_residual.result c.from_residual.ensures.1 in
    rw (p.1, p.2)
    (named_stops (faults_of_members (members_of (json_members c.args.schemas.now))) c.args.schemas.now c.loop-name.name-index c.loop-name-item.result _ _ c.loop-name-test.true c.loop-name-item.is c.as_str.ensures c.loop-name.invariant
    (c.in_err-in_member.ensures (schema_faults (json_of c.loop-name-item.result.1)) c.check_schema.ensures))

pub check_named-loop-name-preserved : goal.check_named-loop-name-preserved
check_named-loop-name-preserved t c =
    named_passed (faults_of_members (members_of (json_members c.args.schemas.now))) c.args.schemas.now c.loop-name.name-index c.loop-name-item.result _ c.loop-name-test.true c.loop-name-item.is c.as_str.ensures c.loop-name.invariant
    (c.in_ok-in_member.ensures (schema_faults (json_of c.loop-name-item.result.1)) c.check_schema.ensures)
