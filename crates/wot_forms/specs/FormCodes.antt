-- The codes of forms, which the kit asks for in their `impl Model`. No contract names this.
use Rattle.std.specs.Prelude.{ℕ, List, Option, refl}
use Rattle.std.specs.Coded.{Coded, code_by, coded×, coded_ℕ, coded_list, coded_option}
use Rattle.wot_terms.specs.declared.op.Op.{Op}
use Rattle.wot_forms.specs.declared.form.Form.{Form}
use Rattle.wot_forms.specs.OpCodes.{ops_code}

abbrev Parts : Type 0
Parts = List ℕ × (List Op × (List ℕ × (Option (List ℕ) × Option (List ℕ))))

abbrev text_code : Coded (List ℕ)
text_code = coded_list coded_ℕ

abbrev parts_code : Coded Parts
parts_code = coded× text_code (coded× ops_code (coded× text_code (coded× (coded_option text_code) (coded_option text_code))))

abbrev form_parts : Form → Parts
form_parts f = (f.href, (f.ops, (f.content_type, (f.subprotocol, f.method))))

abbrev form_from : Parts → Form
form_from p = record { href = p.0; ops = p.1.0; content_type = p.1.1.0; subprotocol = p.1.1.1.0; method = p.1.1.1.1 }

abbrev form_code : Coded Form
form_code = code_by Parts parts_code form_parts form_from (λ _. refl)

abbrev pub forms_code : Coded (List Form)
forms_code = coded_list form_code
