use Rattle.std.proofs.Common.{◌≡◌, true, false, refl, sym, ap, ◌∙◌, inl, inr}
use Rattle.thing_ops.specs.Requests.{request_seen}
use Rattle.thing_ops.specs.Routes.{route_of}
use Rattle.thing_core.specs.Thing.{only}
use Rattle.thing_core.proofs.ThingLaws.{fits_on}
use Rattle.directory_requests.specs.Asked.{is_of_directory}
use Rattle.servient_core.proofs.performing.perform_by_http.Goals as goal

pub returns-then-is_of_directory : goal.returns-then-is_of_directory
returns-then-is_of_directory g c =
    let is : is_of_directory (route_of (request_seen c.args.request.now).path) ≡ true = sym (c.if-is_of_directory.ensures ∙ ap is_of_directory c.route.ensures) in record {
      done = only c.perform.result;
      outcome = refl;
      pending = c.requires.pending;
      site = refl;
      fits = λ fits. fits;
      move = inl (is, c.perform.ensures, refl, refl, refl);
    }

pub returns : goal.returns
returns g c =
    let isnt : is_of_directory (route_of (request_seen c.args.request.now).path) ≡ false = sym (c.if-is_of_directory.ensures ∙ ap is_of_directory c.route.ensures) in
    let act = c.perform-2.ensures.performed in record {
      done = act.done;
      outcome = act.outcome;
      pending = act.pending;
      site = act.site;
      fits = fits_on c.args.exposed.now c.perform-2.new.exposed (request_seen c.args.request.now) c.perform-2.result (g.R.Handlers.slots c.args.rack.now) (g.R.Handlers.slots c.perform-2.new.rack) act;
      move = inr (isnt, act.made, refl);
    }
