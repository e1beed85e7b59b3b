use Rattle.std.proofs.Common.{List, refl, sym, subst}
use Rattle.std.specs.Prelude.{Ok}
use Rattle.core_links.specs.Links.{ReadsLinks}
use Rattle.core_links.specs.Steps.{Takes}
use Rattle.core_links.specs.declared.links.Link.{Link}
use Rattle.core_links.specs.declared.reader.Reader.{Reader}
use Rattle.core_links.proofs.Outcomes.{not_taken, not_ended, read_all, handed_on}
use Rattle.core_links.proofs.reading.read.Goals as goal

pub returns-in_err-take_all : goal.returns-in_err-take_all
returns-in_err-take_all c =
    subst (ReadsLinks c.args.bytes.now) (sym (handed_on c.from_residual.result c.in_err-take_all.field-0.0 c.from_residual.ensures.1))
    (not_taken c.args.bytes.now c.take_all.new.reader c.take_all.result c.in_err-take_all.field-0.0
    (subst (λ (r : Reader). Takes c.args.bytes.now r c.take_all.new.reader c.take_all.result) c.new-reader.ensures c.take_all.ensures) c.in_err-take_all.was)

pub returns-in_err-end : goal.returns-in_err-end
returns-in_err-end c =
    subst (ReadsLinks c.args.bytes.now) (sym (handed_on c.from_residual-in_err-end.result c.in_err-end.field-0.0 c.from_residual-in_err-end.ensures.1))
    (not_ended c.args.bytes.now c.take_all.new.reader c.end.new.reader _ c.take_all.result c.end.result c.in_err-end.field-0.0
    (subst (λ (r : Reader). Takes c.args.bytes.now r c.take_all.new.reader c.take_all.result) c.new-reader.ensures c.take_all.ensures)
    c.in_ok-take_all.was refl c.end.ensures c.in_err-end.was)

pub returns : goal.returns
returns c =
    subst (λ (links : List Link). ReadsLinks c.args.bytes.now (Ok links)) (sym c.into_links.ensures)
    (read_all c.args.bytes.now c.take_all.new.reader c.end.new.reader _ c.take_all.result c.end.result
    (subst (λ (r : Reader). Takes c.args.bytes.now r c.take_all.new.reader c.take_all.result) c.new-reader.ensures c.take_all.ensures) c.in_ok-take_all.was c.end.ensures c.in_ok-end.was)
