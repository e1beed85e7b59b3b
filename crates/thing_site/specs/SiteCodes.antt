-- The codes of a site, as the kit asks in an `impl Model`. No contract names them.
use Rattle.std.specs.Prelude.{ℕ, List, refl}
use Rattle.std.specs.Coded.{Coded, code_by, coded×, coded_ℕ, coded_list}
use Rattle.wot_json.specs.Tree.{Json}
use Rattle.wot_json.specs.JsonCodes.{json_code}
use Rattle.wot_terms.specs.AffordanceCodes.{affordance_code}
use Rattle.wot_terms.specs.declared.affordance.Affordance.{Affordance}
use Rattle.thing_site.specs.Site.{Placed, ExposedThing, Site}

abbrev pub placed_code : Coded Placed
placed_code = code_by (Affordance × ℕ) (coded× affordance_code coded_ℕ) (λ p. (p.affordance, p.slot)) (λ q. record { affordance = q.0; slot = q.1 }) (λ _. refl)

abbrev pub ThingParts : Type 0
ThingParts = List ℕ × (Json × List Placed)

abbrev pub thing_code : Coded ExposedThing
thing_code =
    code_by ThingParts (coded× (coded_list coded_ℕ) (coded× json_code (coded_list placed_code)))
    (λ t. (t.segment, (t.description, t.affordances))) (λ q. record { segment = q.0; description = q.1.0; affordances = q.1.1 }) (λ _. refl)

abbrev pub SiteParts : Type 0
SiteParts = List ExposedThing × ℕ

abbrev pub site_code : Coded Site
site_code =
    code_by SiteParts (coded× (coded_list thing_code) coded_ℕ) (λ s. (s.things, s.left_out)) (λ q. record { things = q.0; left_out = q.1 }) (λ _. refl)
