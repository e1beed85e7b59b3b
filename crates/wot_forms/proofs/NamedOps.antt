-- The operation of a name among all operations.
use Rattle.std.proofs.Common.{◌≡◌, ℕ, List, [], ◌∷◌, filter, refl}
use Rattle.std.specs.Str.{bytes_eq}
use Rattle.std.proofs.lemmas.Bool.{false_from_ne_true}
use Rattle.std.proofs.lemmas.Slice.Eq.{bytes_eq-Decides}
use Rattle.wot_terms.specs.declared.op.Op.{Op}
use Rattle.wot_terms.specs.Operations.{op_name}

-- the operations, of some, that have a name
abbrev pub having : List ℕ → List Op → List Op
having name os = filter (λ o. bytes_eq name (op_name o)) os

-- a text that names no operation
pub no_op_named : (name : List ℕ) (os : List Op) → ((o : Op) → ¬ (name ≡ op_name o)) → having name os ≡ []
no_op_named name [] other = refl
no_op_named name (o ∷ os) other = rw (false_from_ne_true (bytes_eq name (op_name o)) (λ same. other o ((bytes_eq-Decides name (op_name o)).0 same))) (no_op_named name os other)
