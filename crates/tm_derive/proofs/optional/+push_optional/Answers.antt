use Rattle.std.proofs.Common.{◌<◌, arith}
use Rattle.std.proofs.lemmas.Result.{err_from_is_err_and}
use Rattle.wot_json.specs.Meaning.{json_of}
use Rattle.std.specs.Prelude.{option_map}
use Rattle.tm_resolve.specs.Resolver.{resolver_models}
use Rattle.tm_derive.proofs.Gathering.{base_refused, part_after_base}
use Rattle.tm_derive.proofs.optional.+push_optional.Goals as goal

pub push_optional-returns-in_err-push_base : goal.push_optional-returns-in_err-push_base
push_optional-returns-in_err-push_base t c =
    let p = err_from_is_err_and c.from_residual.result c.from_residual.ensures.1 in
    let some : 0 < c.args.room = omega (arith, c.if-room-eq0.false) in
    rw (p.1, p.2)
    (base_refused c.args.segment.now c.args.room (resolver_models c.args.common.now.resolver) c.args.url.now c.in_err-push_base.field-0.0 some c.in_err-push_base.ensures)

pub push_optional-returns : goal.push_optional-returns
push_optional-returns t c =
    let some : 0 < c.args.room = omega (arith, c.if-room-eq0.false) in
    part_after_base c.args.segment.now c.args.texts.now.items c.push_base.new.texts.items c.push_part.new.texts.items c.args.room (resolver_models c.args.common.now.resolver) c.args.url.now (option_map json_of c.in_ok-part.part) c.push_part.result
    some c.in_ok-part.ensures c.in_ok-push_base.ensures.0 c.in_ok-push_base.ensures.1 c.push_part.ensures
