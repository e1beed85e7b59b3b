use Rattle.std.proofs.Common.{ap, refl, sym, arith, rules}
use Rattle.thing_core.specs.Kept.{Kept}
use Rattle.coap_bind.specs.declared.server.Server.{Server}
use Rattle.directory_requests.specs.Requests.{standing_at}
use Rattle.servient_core.proofs.LinkLaws.{coap_starts, links_stand}
use Rattle.servient_core.proofs.PartLaws.{none_have_room}
use Rattle.servient_core.proofs.servient.Servient.new.Goals as goal

pub invariant_of-result : goal.invariant_of-result
invariant_of-result g c = record {
  pending = ap (λ (k : Kept). k.pending) c.in-Ok.ensures.ok;
  moment = omega (arith, ap (λ (x : Server). x.exchanges.moment) c.in_ok-coap.ensures);
  clock = omega arith;
  room = none_have_room c.in_ok-http.http c.in_ok-http.ensures;
}

-- the CoAP server is that of the machine's beginning
pub returns-clause-start : goal.returns-clause-start
returns-clause-start g c =
    let site = ap (λ (k : Kept). k.site) c.in-Ok.ensures.ok in
    record {
      moment = refl;
      http = search (rules, c.in_ok-http.ensures);
      coap = coap_starts c.args.plan.now.versions c.args.plan.now.slots c.as_slice.result.now c.args.things c.in-Ok.exposed.site c.args.plan.now.exchanges c.args.plan.now.epoch c.in_ok-coap.coap c.as_slice.ensures site c.in_ok-coap.ensures;
      thing = search (rules, c.in-Ok.ensures.ok);
      directory = ap (standing_at 0) (search rules);
    }

pub returns-clause-links : goal.returns-clause-links
returns-clause-links g c =
    let site = ap (λ (k : Kept). k.site) c.in-Ok.ensures.ok in
    let coap = coap_starts c.args.plan.now.versions c.args.plan.now.slots c.as_slice.result.now c.args.things c.in-Ok.exposed.site c.args.plan.now.exchanges c.args.plan.now.epoch c.in_ok-coap.coap c.as_slice.ensures site c.in_ok-coap.ensures in
    links_stand c.args.plan.now.versions c.args.plan.now.slots c.args.things c.in-Ok.exposed.site c.in_ok-coap.coap.links site (sym (ap (λ (x : Server). x.links) coap)) c.requires.plain
