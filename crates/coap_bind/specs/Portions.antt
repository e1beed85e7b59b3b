-- Inside the crate: the code's parts of a reply, apart from their places in memory.
use Rattle.std.specs.Prelude.{Option, IfSome}
use Rattle.coap_msg.specs.declared.block.Block.{Block}
use Rattle.coap_msg.specs.Blocks.{IsBlock}
use Rattle.coap_bind.specs.declared.blocks.BlockOption.{BlockOption}
use Rattle.coap_bind.specs.declared.blocks.BlockOption.TheVariants.{Block1, Block2}
use Rattle.coap_bind.specs.declared.portion.Portion.{Portion as PortionOfCode}
use Rattle.coap_bind.specs.declared.writing.Told.{Told}
use Rattle.coap_bind.specs.Blocks.{Portion, content_format, with_block}
use Rattle.coap_bind.specs.Writing.{Reply}

-- a part of a payload
abbrev pub portion_seen : PortionOfCode → Portion
portion_seen p = record { block = p.block; payload = p.payload.now }

-- the block that an option says
abbrev pub block_said : BlockOption → Block
block_said (Block2 b) = b
block_said (Block1 b) = b

-- it is one that can be written
abbrev pub HoldsBlock : Option BlockOption → Type 0
HoldsBlock o = IfSome o (λ b. IsBlock (block_said b))

-- a reply without an outcome
abbrev pub told_reply : Told → Reply
told_reply t = record { code = t.code; version = t.version; options = with_block t.portion.block (content_format t.format); payload = t.portion.payload.now }
