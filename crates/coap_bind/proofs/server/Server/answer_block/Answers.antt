-- Each answer to the block is a rule.
use Rattle.std.proofs.Common.{◌∙◌, ap, refl, sym}
use Rattle.coap_bind.specs.Blocks.{added_reply}
use Rattle.coap_bind.specs.Settling.{answered, for_links, whole}
use Rattle.coap_bind.proofs.server.Server.answer_block.Goals as goal

pub refuse_whole-requires-clause-place : goal.refuse_whole-requires-clause-place
refuse_whole-requires-clause-place c = (c.requires.whole c.in-Complete.place c.in-Complete.is).0

pub returns-then-is_links_path : goal.returns-then-is_links_path
returns-then-is_links_path c = for_links c.in-Complete.place _ c.in-Complete.is (sym c.is_links_path.ensures ∙ c.if-is_links_path.true) c.refuse_whole.ensures refl

pub returns-else-is_links_path : goal.returns-else-is_links_path
returns-else-is_links_path c = whole c.in-Complete.place c.in-Complete.is (sym c.is_links_path.ensures ∙ c.if-is_links_path.false) refl refl refl

pub returns-in-Continue : goal.returns-in-Continue
returns-in-Continue c = answered _ _ (ap (added_reply c.args.block) c.in-Continue.is) c.reply_continue.ensures refl

pub returns-in-BadBlock : goal.returns-in-BadBlock
returns-in-BadBlock c = answered _ _ (ap (added_reply c.args.block) c.in-BadBlock.is) c.refuse.ensures refl

pub returns-in-Incomplete : goal.returns-in-Incomplete
returns-in-Incomplete c = answered _ _ (ap (added_reply c.args.block) c.in-Incomplete.is) c.refuse-in-Incomplete.ensures refl

pub returns-in-TooLarge : goal.returns-in-TooLarge
returns-in-TooLarge c = answered _ _ (ap (added_reply c.args.block) c.in-TooLarge.is) c.refuse-in-TooLarge.ensures refl

pub returns-in-Full : goal.returns-in-Full
returns-in-Full c = answered _ _ (ap (added_reply c.args.block) c.in-Full.is) c.refuse-in-Full.ensures refl
