-- so far the segments before `index` were written
use Rattle.std.proofs.Common.{◌≡◌, ◌≤◌, ◌++◌, take}
use Rattle.coap_msg.specs.declared.constants.TheConstants.{LOCATION_PATH}
use Rattle.coap_msg.specs.Opts.{last_number, segment_options}
use Rattle.coap_bind.proofs.options.put_location.Given as goal

abbrev pub invariant-loop-index : goal.invariant-loop-index
invariant-loop-index l = record {
  room : l.options.room ≡ l.fn.options.room;
  list : l.options.list ≡ l.fn.options.list ++ segment_options LOCATION_PATH (take l.index l.fn.place);
  last : last_number 0 l.options.list ≤ LOCATION_PATH;
}
