-- Inside: the values that are found in the options of a request, one after another.
use Rattle.std.specs.Prelude.{ℕ, List, ◌++◌, Bool, ◌==◌, ◌||◌, Option, Some, None, option_map, slice_get, if◌then◌else◌}
use Rattle.std.specs.Borrow.{Bor}
use Rattle.coap_msg.specs.declared.constants.TheConstants.{IF_MATCH, ETAG, IF_NONE_MATCH}
use Rattle.coap_msg.specs.Grammar.{CoapOption}
use Rattle.thing_ops.specs.declared.conditions.Tags.{Tags}
use Rattle.thing_ops.specs.declared.conditions.Conditions.{Conditions}
use Rattle.coap_opts.specs.declared.conditions.NotedOptions.{NotedOptions}
use Rattle.coap_opts.specs.Reading.{values_under, is_there, tags_of, known_by}

-- the value of the first option of this number
abbrev pub first_value : ℕ → List CoapOption → Option (List ℕ)
first_value number os = slice_get (values_under number os) 0

-- the first value that was found, apart from where it lies in memory
abbrev pub kept_first : Option (Bor (List ℕ)) → Option (List ℕ)
kept_first value = option_map (λ v. v.now) value

-- an option asks for a version
abbrev pub asks_for_version : CoapOption → Bool
asks_for_version o = (o.0 == IF_MATCH) || ((o.0 == ETAG) || (o.0 == IF_NONE_MATCH))

-- ---- notes on options, one after another

-- the notes on these options, where those of ETag count or don't
abbrev pub noted_of : Bool → List CoapOption → NotedOptions
noted_of counts os = record {
  stands = is_there (values_under IF_MATCH os);
  matched = tags_of (values_under IF_MATCH os);
  known = known_by counts (values_under ETAG os);
  absent = is_there (values_under IF_NONE_MATCH os);
}

-- the tags of some values, and then of others
abbrev pub both_tags : Tags → Tags → Tags
both_tags one other = record { any = one.any || other.any; list = one.list ++ other.list }

-- the notes on some options, and then on others
abbrev pub noted_then : NotedOptions → NotedOptions → NotedOptions
noted_then one other = record {
  stands = one.stands || other.stands;
  matched = both_tags one.matched other.matched;
  known = both_tags one.known other.known;
  absent = one.absent || other.absent;
}

-- the conditions of these notes
abbrev pub asked_by : NotedOptions → Conditions
asked_by noted = record { if_match = if noted.stands then Some noted.matched else None; known = noted.known; absent = noted.absent }
