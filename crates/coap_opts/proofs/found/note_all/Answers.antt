-- One more option was noted.
use Rattle.std.proofs.Common.{sym, List}
use Rattle.coap_msg.specs.Grammar.{CoapOption}
use Rattle.coap_msg.specs.OptionsLeft.{options_left}
use Rattle.coap_opts.specs.Found.{kept_first, asks_for_version}
use Rattle.coap_opts.proofs.FirstValues.{faults_kept, values_kept, first_kept, any_kept}
use Rattle.coap_opts.proofs.found.note_all.Goals as goal

pub loop-number-preserved : goal.loop-number-preserved
loop-number-preserved c =
    let os : List CoapOption = c.args.options.now in
    let left : List CoapOption = options_left c.loop-number.number-iterator in
    let rest : List CoapOption = options_left c.next.new.self in
    let o : CoapOption = (c.in-Some.number, c.in-Some.value.now) in
    record {
      faults = faults_kept os left rest o c.loop-number.before c.loop-number.invariant.faults c.in-Some.ensures.steps (sym c.in-None-option_fault.ensures);
      path = values_kept 11 os left rest o c.loop-number.found.path c.note.new.self.path c.loop-number.invariant.path c.in-Some.ensures.steps c.in-Ok.ensures.path;
      observe = first_kept 6 os left rest o (kept_first c.loop-number.found.observe) (kept_first c.note.new.self.observe) c.loop-number.invariant.observe c.in-Some.ensures.steps c.in-Ok.ensures.observe;
      format = first_kept 12 os left rest o (kept_first c.loop-number.found.format) (kept_first c.note.new.self.format) c.loop-number.invariant.format c.in-Some.ensures.steps c.in-Ok.ensures.format;
      accept = first_kept 17 os left rest o (kept_first c.loop-number.found.accept) (kept_first c.note.new.self.accept) c.loop-number.invariant.accept c.in-Some.ensures.steps c.in-Ok.ensures.accept;
      block2 = first_kept 23 os left rest o (kept_first c.loop-number.found.block2) (kept_first c.note.new.self.block2) c.loop-number.invariant.block2 c.in-Some.ensures.steps c.in-Ok.ensures.block2;
      conditional = any_kept asks_for_version os left rest o c.loop-number.found.conditional c.note.new.self.conditional c.loop-number.invariant.conditional c.in-Some.ensures.steps c.in-Ok.ensures.conditional;
      block1 = first_kept 27 os left rest o (kept_first c.loop-number.found.block1) (kept_first c.note.new.self.block1) c.loop-number.invariant.block1 c.in-Some.ensures.steps c.in-Ok.ensures.block1;
    }
