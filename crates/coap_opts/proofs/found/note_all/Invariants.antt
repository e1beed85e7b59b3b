-- the values so far and those of the options that are left are the values of all options
use Rattle.std.proofs.Common.{◌≡◌, ◌++◌, ◌||◌}
use Rattle.std.specs.List.{list_any}
use Rattle.std.specs.Option.{option_or}
use Rattle.coap_msg.specs.OptionsLeft.{options_left}
use Rattle.coap_opts.specs.Reading.{faults_of, faults_after, values_under}
use Rattle.coap_opts.specs.Found.{first_value, kept_first, asks_for_version}
use Rattle.coap_opts.proofs.found.note_all.Given as goal

abbrev pub invariant-loop-number : goal.invariant-loop-number
invariant-loop-number l = record {
  faults : faults_of l.options ≡ faults_after l.before (options_left l.number-iterator);
  path : values_under 11 l.options ≡ l.found.path ++ values_under 11 (options_left l.number-iterator);
  observe : first_value 6 l.options ≡ option_or (kept_first l.found.observe) (first_value 6 (options_left l.number-iterator));
  format : first_value 12 l.options ≡ option_or (kept_first l.found.format) (first_value 12 (options_left l.number-iterator));
  accept : first_value 17 l.options ≡ option_or (kept_first l.found.accept) (first_value 17 (options_left l.number-iterator));
  block2 : first_value 23 l.options ≡ option_or (kept_first l.found.block2) (first_value 23 (options_left l.number-iterator));
  conditional : list_any asks_for_version l.options ≡ (l.found.conditional || list_any asks_for_version (options_left l.number-iterator));
  block1 : first_value 27 l.options ≡ option_or (kept_first l.found.block1) (first_value 27 (options_left l.number-iterator));
}
