-- The demands of compiled rules on an integer, and the members of a schema that they were compiled from.
use Rattle.std.specs.Prelude.{◌≡◌, ℤ, pos, ◌≤ℤ◌, ◌<ℤ◌, ◌*ℤ◌, IfSome, codes}
use Rattle.std.specs.Option.{option_map}
use Rattle.wot_json.specs.Tree.{integer, Members}
use Rattle.wot_json.specs.Lookup.{value_under}
use Rattle.wot_schema.specs.declared.numbers.NumberRules.{NumberRules}

-- the number meets the rules
pub record IsNumberWithin (r : NumberRules) (n : ℤ) : Type 0 where
  pub minimum : IfSome r.minimum (λ least. least ≤ℤ n)
  pub maximum : IfSome r.maximum (λ most. n ≤ℤ most)
  pub exclusive_minimum : IfSome r.exclusive_minimum (λ bound. bound <ℤ n)
  pub exclusive_maximum : IfSome r.exclusive_maximum (λ bound. n <ℤ bound)
  pub multiple_of : IfSome r.multiple_of (λ unit. (k : ℤ) × (n ≡ k *ℤ pos unit))

-- the rules are those that these members give
pub record AreNumbersOf (ms : Members) (r : NumberRules) : Type 0 where
  pub minimum : value_under (codes "minimum") ms ≡ option_map integer r.minimum
  pub maximum : value_under (codes "maximum") ms ≡ option_map integer r.maximum
  pub exclusive_minimum : value_under (codes "exclusiveMinimum") ms ≡ option_map integer r.exclusive_minimum
  pub exclusive_maximum : value_under (codes "exclusiveMaximum") ms ≡ option_map integer r.exclusive_maximum
  pub multiple_of : value_under (codes "multipleOf") ms ≡ option_map (λ n. integer (pos n)) r.multiple_of
