use Rattle.std.specs.List.{flat_map}
use Rattle.servient_base.proofs.Pieces.{puts_then_if_room}
use Rattle.core_links.specs.Writing.{link_text, further_text}
use Rattle.core_links.proofs.writing.put_links.Goals as goal

pub returns : goal.returns
returns c =
    puts_then_if_room (link_text c.args.first.now) (flat_map further_text c.args.rest.now) 0 c.in_ok-at.at c.args.out.now c.put_link.new.out c.put_further.new.out c.put_further.result
    c.put_link.auto.out c.in_ok-at.ensures c.put_further.ensures
