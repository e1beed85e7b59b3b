use Rattle.std.proofs.Common.{ap, sym, ◌∙◌, List, Bool, cond, ◌++◌}
use Rattle.std.specs.Prelude.{Some, None}
use Rattle.std.specs.List.{list_all}
use Rattle.wot_json.specs.Tree.{Json, array, elements_of}
use Rattle.wot_forms.specs.Generated.{is_object}
use Rattle.tm_derive.specs.Finishing.{staying_links}
use Rattle.tm_derive.proofs.Values.{links_changed}
use Rattle.tm_derive.proofs.links.changed_links.Goals as goal

pub returns-in_ok-push_all-in-List : goal.returns-in_ok-push_all-in-List
returns-in_ok-push_all-in-List c =
    ap (λ (vs : List Json). Some (array (elements_of vs))) (
    c.in_ok-push_all-in-List.ensures ∙ ap (λ (vs : List Json). vs ++ c.args.added) (c.in_ok-changed-in-List.ensures ∙ ap (λ (vs : List Json). staying_links c.args.leaving.now 0 vs) c.as_slice-then-are_objects.ensures))
    ∙ ap (λ (b : Bool). cond b (Some (array (elements_of (staying_links c.args.leaving.now 0 c.in-List.list ++ c.args.added)))) None) (sym c.if-are_objects.true)
    ∙ links_changed c.args.leaving.now c.args.added c.args.links.now c.in-List.list c.are_objects.result c.in-List.is (c.are_objects.ensures ∙ ap (λ (vs : List Json). list_all is_object vs) c.as_slice.ensures)

pub returns-else-are_objects : goal.returns-else-are_objects
returns-else-are_objects c =
    ap (λ (b : Bool). cond b (Some (array (elements_of (staying_links c.args.leaving.now 0 c.in-List.list ++ c.args.added)))) None) (sym c.if-are_objects.false)
    ∙ links_changed c.args.leaving.now c.args.added c.args.links.now c.in-List.list c.are_objects.result c.in-List.is (c.are_objects.ensures ∙ ap (λ (vs : List Json). list_all is_object vs) c.as_slice.ensures)
