-- so far the segments before `index` were written
use Rattle.std.proofs.Common.{◌≡◌, ◌≤◌, ◌++◌, take}
use Rattle.coap_msg.specs.declared.constants.TheConstants.{URI_PATH}
use Rattle.coap_msg.specs.Opts.{last_number, segment_options}
use Rattle.coap_client.proofs.ask.put_path.Given as goal

abbrev pub invariant-loop-index : goal.invariant-loop-index
invariant-loop-index l = record {
  room : l.options.room ≡ l.fn.options.room;
  list : l.options.list ≡ l.fn.options.list ++ segment_options URI_PATH (take l.index l.fn.path);
  last : last_number 0 l.options.list ≤ URI_PATH;
}
