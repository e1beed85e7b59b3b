-- The options that are known (RFC 7252, section 5.10; RFC 7641, section 2; RFC 7959, section 2.1): the least and the
-- most bytes of a value, and whether the option may come more than once.
use Rattle.std.specs.Prelude.{ℕ, List, [], ◌∷◌, length, Bool, true, false, not, ◌==◌, ◌&&◌, ◌||◌, nat_le, Option, Some, None, slice_get}
use Rattle.std.specs.List.{filter}
use Rattle.std.specs.Option.{option_map_or}
use Rattle.coap_msg.specs.declared.constants.TheConstants.{IF_MATCH, URI_HOST, ETAG, IF_NONE_MATCH, OBSERVE, URI_PORT, URI_PATH, CONTENT_FORMAT, URI_QUERY, ACCEPT, BLOCK1, BLOCK2, LONGEST_SEGMENT}
use Rattle.coap_msg.specs.Grammar.{CoapOption}
use Rattle.coap_opts.specs.declared.known.Known.{Known}

-- a row of the table
abbrev pub row : ℕ → ℕ → ℕ → Bool → Known
row number shortest longest repeats = record { number = number; shortest = shortest; longest = longest; repeats = repeats }

-- Observe
abbrev pub observe : Known
observe = row OBSERVE 0 3 false

-- Content-Format
abbrev pub content_format : Known
content_format = row CONTENT_FORMAT 0 2 false

-- Accept
abbrev pub accept : Known
accept = row ACCEPT 0 2 false

-- Block2, of a response
abbrev pub block2 : Known
block2 = row BLOCK2 0 3 false

-- Block1, of the request
abbrev pub block1 : Known
block1 = row BLOCK1 0 3 false

-- If-Match, Uri-Host, ETag, If-None-Match, Observe, Uri-Port, Uri-Path, Content-Format, Uri-Query, Accept, Block2, Block1
abbrev pub known_options : List Known
known_options =
    row IF_MATCH 0 8 true ∷ row URI_HOST 1 255 false ∷ row ETAG 1 8 true ∷ row IF_NONE_MATCH 0 0 false ∷ observe ∷ row URI_PORT 0 2 false ∷ row URI_PATH 0 LONGEST_SEGMENT true ∷ content_format ∷ row URI_QUERY 0 255 true ∷ accept ∷ block2 ∷ block1 ∷ []

-- the row of an option
abbrev pub known_of : ℕ → Option Known
known_of number = slice_get (filter (λ k. k.number == number) known_options) 0

-- a value is as long as the option's may be
abbrev pub has_length : Known → List ℕ → Bool
has_length k value = nat_le k.shortest (length value) && nat_le (length value) k.longest

-- the option before, if there is one, has this number
abbrev pub stands_again : Option ℕ → ℕ → Bool
stands_again None number = false
stands_again (Some before) number = before == number

-- The option may come after one of the number before: it is known, its value is neither too short nor too long, and it
-- repeats or the one before it has another number. (Options are in the order of their numbers: one that comes again
-- does so right after the last.)
abbrev pub may_stand : Option ℕ → CoapOption → Bool
may_stand before o = option_map_or (λ k. has_length k o.1 && (k.repeats || not (stands_again before o.0))) (known_of o.0) false
