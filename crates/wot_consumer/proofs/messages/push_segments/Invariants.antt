use Rattle.std.proofs.Common.{◌≡◌, ◌++◌, take, string_bytes}
use Rattle.wot_consumer.specs.Messages.{segments_text}
use Rattle.wot_consumer.proofs.messages.push_segments.Given as goal

abbrev pub invariant-loop-index : goal.invariant-loop-index
invariant-loop-index l = string_bytes l.text ≡ string_bytes l.initial.text ++ segments_text (take l.index l.path)
