-- The names of the types of values.
use Rattle.std.specs.Prelude.{ℕ, List, codes}
use Rattle.wot_schema.specs.declared.kind.ValueType.{ValueType}
use Rattle.wot_schema.specs.declared.kind.ValueType.TheVariants as kind

abbrev pub kind_name : ValueType → List ℕ
kind_name kind.Boolean = codes "boolean"
kind_name kind.Integer = codes "integer"
kind_name kind.String = codes "string"
kind_name kind.Null = codes "null"
kind_name kind.Array = codes "array"
kind_name kind.Object = codes "object"
