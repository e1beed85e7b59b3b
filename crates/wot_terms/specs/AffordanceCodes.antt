-- The codes of affordances, which the kit asks for in their `impl Model`. No contract names this.
use Rattle.std.specs.Prelude.{◌≡◌, ℕ, ◌==◌, List, Bool, Option, refl, if◌then◌else◌}
use Rattle.std.specs.Coded.{Coded, code_by, coded×, coded_ℕ, coded_bool, coded_list, coded_option}
use Rattle.wot_json.specs.JsonCodes.{json_code}
use Rattle.wot_json.specs.Tree.{Json}
use Rattle.wot_terms.specs.declared.kind.Kind.{Kind}
use Rattle.wot_terms.specs.declared.kind.Kind.TheVariants as kind
use Rattle.wot_terms.specs.declared.affordance.Affordance.{Affordance}

abbrev kind_number : Kind → ℕ
kind_number kind.Property = 0
kind_number kind.Action = 1
kind_number kind.Event = 2

abbrev kind_numbered : ℕ → Kind
kind_numbered n = if n == 0 then kind.Property else if n == 1 then kind.Action else kind.Event

pub kind_back : (k : Kind) → kind_numbered (kind_number k) ≡ k
kind_back kind.Property = refl
kind_back kind.Action = refl
kind_back kind.Event = refl

abbrev pub kind_code : Coded Kind
kind_code = code_by ℕ coded_ℕ kind_number kind_numbered kind_back

abbrev Parts : Type 0
Parts = Kind × (List ℕ × (Option Json × (Option Json × (Bool × (Bool × Bool)))))

abbrev parts_code : Coded Parts
parts_code = coded× kind_code (coded× (coded_list coded_ℕ) (coded× (coded_option json_code) (coded× (coded_option json_code) (coded× coded_bool (coded× coded_bool coded_bool)))))

abbrev affordance_parts : Affordance → Parts
affordance_parts a = (a.kind, (a.name, (a.input, (a.output, (a.read_only, (a.write_only, a.observable))))))

abbrev affordance_from : Parts → Affordance
affordance_from p = record {
  kind = p.0;
  name = p.1.0;
  input = p.1.1.0;
  output = p.1.1.1.0;
  read_only = p.1.1.1.1.0;
  write_only = p.1.1.1.1.1.0;
  observable = p.1.1.1.1.1.1;
}

abbrev pub affordance_code : Coded Affordance
affordance_code = code_by Parts parts_code affordance_parts affordance_from (λ _. refl)

abbrev pub affordances_code : Coded (List Affordance)
affordances_code = coded_list affordance_code
