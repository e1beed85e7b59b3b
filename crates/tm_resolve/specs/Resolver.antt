-- A resolver, as contracts see it.
use Rattle.tm_parts.specs.Sources.{Sources}
use Rattle.tm_resolve.specs.declared.resolver.Resolver.{Resolver}

-- the models of a resolver by their URLs, each with its values or with the first fault of the substitution
abbrev pub resolver_models : Resolver → Sources
resolver_models resolver = resolver.sources.models
