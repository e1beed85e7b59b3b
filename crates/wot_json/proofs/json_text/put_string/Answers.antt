use Rattle.std.proofs.Common.{ℕ, List, [], ◌∷◌, ◌++◌, ◌≡◌, ◌∙◌, subst}
use Rattle.std.specs.List.{flat_map}
use Rattle.wot_json.specs.Json.{escaped_byte}
use Rattle.servient_base.specs.Writing.{Puts}
use Rattle.servient_base.proofs.Pieces.{puts_then_if_room}
use Rattle.wot_json.proofs.json_text.put_string.Goals as goal

pub returns : goal.returns
returns c =
    let same : c.as_bytes.result.now ≡ c.args.text.now = c.as_bytes.ensures.value ∙ c.as_str.ensures in
    puts_then_if_room (34 ∷ []) (flat_map escaped_byte c.args.text.now ++ 34 ∷ []) c.args.at c.in_ok-at.at c.args.out.now c.put_piece.new.out c.put_piece-2.new.out c.put_piece-2.result
    c.put_piece.auto.out c.in_ok-at.ensures
    (puts_then_if_room (flat_map escaped_byte c.args.text.now) (34 ∷ []) c.in_ok-at.at c.in_ok-at-2.at c.put_piece.new.out c.put_all_escaped.new.out c.put_piece-2.new.out c.put_piece-2.result
    c.put_all_escaped.auto.out (subst (λ (bytes : List ℕ). Puts (flat_map escaped_byte bytes) c.in_ok-at.at c.in_ok-at-2.at c.put_piece.new.out c.put_all_escaped.new.out) same c.in_ok-at-2.ensures) c.put_piece-2.ensures)
