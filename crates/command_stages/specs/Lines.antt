-- The lines that the program writes besides what it prints. Names and pointers in them are JSON texts.
use Rattle.std.specs.Prelude.{ℕ, List, ◌++◌, codes, decimal}
use Rattle.wot_json.specs.Json.{json_string}

abbrev pub usage_line : List ℕ
usage_line = codes "usage: servient replay|serve|derive|check|consume|storm|discover ..\n"

abbrev pub file_line : List ℕ → List ℕ → List ℕ
file_line name what = codes "servient: file " ++ json_string name ++ codes " " ++ what ++ codes "\n"

abbrev pub input_line : List ℕ → List ℕ → List ℕ
input_line name what = codes "servient: input " ++ json_string name ++ codes " " ++ what ++ codes "\n"

abbrev pub network_line : List ℕ
network_line = codes "servient: net\n"

abbrev pub spent_line : List ℕ
spent_line = codes "servient: spent\n"

abbrev pub silent_line : List ℕ
silent_line = codes "servient: silent\n"

abbrev pub no_affordance_line : List ℕ
no_affordance_line = codes "servient: no affordance\n"

abbrev pub no_form_line : List ℕ
no_form_line = codes "servient: no form\n"

abbrev pub memory_line : List ℕ
memory_line = codes "servient: memory\n"

abbrev pub invalid_line : ℕ → List ℕ → List ℕ
invalid_line number pointer = codes "servient: refused invalid " ++ decimal number ++ codes " " ++ json_string pointer ++ codes "\n"

abbrev pub valid_line : List ℕ
valid_line = codes "valid\n"
