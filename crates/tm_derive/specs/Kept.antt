-- The types of the code, as contracts see them.
use Rattle.tm_resolve.specs.Resolver.{resolver_models}
use Rattle.tm_derive.specs.Given.{Given}
use Rattle.tm_derive.specs.declared.common.Common.{Common}

-- the inputs that all Things share
abbrev pub given_of : Common → Given
given_of common = record {
  models = common.library.now;
  sources = resolver_models common.resolver;
  choices = common.choices.now;
  frame = common.frame.now;
}
