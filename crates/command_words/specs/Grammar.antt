-- The grammar of the command line: what the words after the program's name mean. It says nothing of `clap`, because a
-- reader would have to know that parser; proofs/ shows once, for every form with different names, that `clap` agrees.
--
--     replay SCRIPT [PLAN] [--events N]
--     serve PLAN [--events N | --endless] [--idle SECONDS] [--log]
--     derive PLAN [--table]
--     check DESCRIPTION
--     consume DESCRIPTION OPERATION NAME [--scheme SCHEME] [--input FILE] [--count COUNT]
--     storm SEED N
--     discover HOST:PORT
use Rattle.std.specs.Prelude.{◌==◌, ◌&&◌, not, nat_le, ℕ, Bool, false, List, [], ◌∷◌, Option, Some, None, option_and_then, option_map, if◌then◌else◌, ◌+◌, take, drop, codes, decimal}
use Rattle.std.specs.Option.{option_map_or}
use Rattle.std.specs.Str.{bytes_eq}
use Rattle.std.specs.Str.Parse.{digits_value}
use Rattle.servient_base.specs.HostPorts.{point_in}
use Rattle.command_words.specs.Words.{Form, Values, values_given, value_at}
use Rattle.command_words.specs.Flags.{flag_place, values_around, words_without}
use Rattle.command_words.specs.declared.command.Budget.TheVariants.{Events, Endless}
use Rattle.command_words.specs.declared.command.Command.{Command}
use Rattle.command_words.specs.declared.command.Command.TheVariants.{Replay, Serve, ServeLogged, Derive, Table, Check, Consume, Storm, Discover}
use Rattle.command_words.specs.declared.command.Consumption.{Consumption}
use Rattle.command_words.specs.declared.command.Operation.{Operation}
use Rattle.command_words.specs.declared.command.Operation.TheVariants as operation
use Rattle.wot_forms.specs.declared.scheme.Scheme.{Scheme}
use Rattle.wot_forms.specs.declared.scheme.Scheme.TheVariants as scheme

-- one part, and where it is there what follows of it
abbrev pub with_part : {A B : Type 0} → Option A → (A → Option B) → Option B
with_part part next = option_and_then next part

-- ---- values

-- The number from `least` to `most` that a text writes in decimal digits, with no sign and no leading zero: the text is
-- the spelling of its own value.
abbrev pub number_between : ℕ → ℕ → List ℕ → Option ℕ
number_between least most text =
    let value = digits_value 10 text in
    if bytes_eq text (decimal value) && (nat_le least value && nat_le value most) then Some value else None

-- The number of a place, and that of an option, which has a default.
abbrev pub number_at : List ℕ → ℕ → ℕ → Values → Option ℕ
number_at name least most values = option_and_then (number_between least most) (value_at name values)

abbrev pub number_or : ℕ → List ℕ → ℕ → ℕ → Values → Option ℕ
number_or default name least most values = option_map_or (number_between least most) (value_at name values) (Some default)

-- the number of events that a run may take
abbrev pub events_in : Values → Option ℕ
events_in = number_or 100000 (codes "events") 1 1000000

-- An option that names a file: its value isn't empty and doesn't begin with a hyphen (45), which `clap` itself would
-- take. No number and no scheme does either.
abbrev pub is_file_name : List ℕ → Bool
is_file_name [] = false
is_file_name (b ∷ bytes) = not (b == 45)

abbrev pub file_of : List ℕ → Option (Option (List ℕ))
file_of text = if is_file_name text then Some (Some text) else None

abbrev pub file_in : List ℕ → Values → Option (Option (List ℕ))
file_in name values = option_map_or file_of (value_at name values) (Some None)

abbrev pub scheme_of : List ℕ → Option (Option Scheme)
scheme_of text =
    if bytes_eq text (codes "http") then Some (Some scheme.Http)
    else if bytes_eq text (codes "coap") then Some (Some scheme.Coap)
    else None

abbrev pub scheme_in : Values → Option (Option Scheme)
scheme_in values = option_map_or scheme_of (value_at (codes "scheme") values) (Some None)

-- the operations of the consumer, by their names in TD 1.1, section 5.3.4.2
abbrev pub operation_of : List ℕ → Option Operation
operation_of text =
    if bytes_eq text (codes "readproperty") then Some operation.ReadProperty
    else if bytes_eq text (codes "writeproperty") then Some operation.WriteProperty
    else if bytes_eq text (codes "invokeaction") then Some operation.InvokeAction
    else if bytes_eq text (codes "readallproperties") then Some operation.ReadAllProperties
    else if bytes_eq text (codes "observeproperty") then Some operation.ObserveProperty
    else None

-- all properties have no name, and `-` is written in its place
abbrev pub name_of : Operation → List ℕ → Option (List ℕ)
name_of operation.ReadAllProperties name = if bytes_eq name (codes "-") then Some name else None
name_of _ name = Some name

-- ---- the commands

abbrev pub replay_form : Form
replay_form = record { places = codes "script" ∷ codes "plan" ∷ []; options = codes "events" ∷ [] }

abbrev pub replay_of : Values → Option Command
replay_of values =
    with_part (value_at (codes "script") values) (λ script.
    with_part (events_in values) (λ events.
    Some (Replay script (value_at (codes "plan") values) events)))

-- the number of seconds without traffic after which a run ends; 0 is no such end
abbrev pub idle_in : Values → Option ℕ
idle_in = number_or 0 (codes "idle") 0 86400

abbrev pub serve_form : Form
serve_form = record { places = codes "plan" ∷ []; options = codes "events" ∷ codes "idle" ∷ [] }

abbrev pub serve_of : Values → Option Command
serve_of values =
    with_part (value_at (codes "plan") values) (λ plan.
    with_part (events_in values) (λ events.
    with_part (idle_in values) (λ idle.
    Some (Serve plan (Events events) idle))))

-- a run without an end has no number of events
abbrev pub endless_form : Form
endless_form = record { places = codes "plan" ∷ []; options = codes "idle" ∷ [] }

abbrev pub endless_of : Values → Option Command
endless_of values =
    with_part (value_at (codes "plan") values) (λ plan.
    with_part (idle_in values) (λ idle.
    Some (Serve plan Endless idle)))

-- the command that the words of `serve` mean, by the place of `--endless` among them
abbrev pub serve_at : List (List ℕ) → Option ℕ → Option Command
serve_at words None = option_and_then serve_of (values_given serve_form words)
serve_at words (Some place) = option_and_then endless_of (values_around endless_form (take place words) (drop (place + 1) words))

abbrev pub serve_by_budget : List (List ℕ) → Option Command
serve_by_budget words = serve_at words (flag_place (codes "--endless") words)

-- the same with a log, where it is `serve`
abbrev pub logged : Command → Command
logged (Serve plan budget idle) = ServeLogged plan budget idle
logged (Replay script plan events) = Replay script plan events
logged (ServeLogged plan budget idle) = ServeLogged plan budget idle
logged (Derive plan) = Derive plan
logged (Table plan) = Table plan
logged (Check description) = Check description
logged (Consume consumption) = Consume consumption
logged (Storm seed events) = Storm seed events
logged (Discover host port) = Discover host port

-- and by the place of `--log` among them: what the other words mean, with a log
abbrev pub log_at : List (List ℕ) → Option ℕ → Option Command
log_at words None = serve_by_budget words
log_at words (Some place) = option_map logged (option_and_then serve_by_budget (words_without (codes "--endless") words place))

abbrev pub serve_meaning : List (List ℕ) → Option Command
serve_meaning words = log_at words (flag_place (codes "--log") words)

abbrev pub derive_form : Form
derive_form = record { places = codes "plan" ∷ []; options = [] }

abbrev pub derive_of : Values → Option Command
derive_of values = option_map Derive (value_at (codes "plan") values)

abbrev pub table_of : Values → Option Command
table_of values = option_map Table (value_at (codes "plan") values)

-- the command that the words of `derive` mean, by the place of `--table` among them
abbrev pub derive_at : List (List ℕ) → Option ℕ → Option Command
derive_at words None = option_and_then derive_of (values_given derive_form words)
derive_at words (Some place) = option_and_then table_of (values_around derive_form (take place words) (drop (place + 1) words))

abbrev pub derive_meaning : List (List ℕ) → Option Command
derive_meaning words = derive_at words (flag_place (codes "--table") words)

abbrev pub check_form : Form
check_form = record { places = codes "description" ∷ []; options = [] }

abbrev pub check_of : Values → Option Command
check_of values = option_map Check (value_at (codes "description") values)

abbrev pub consume_form : Form
consume_form = record {
  places = codes "description" ∷ codes "operation" ∷ codes "name" ∷ [];
  options = codes "scheme" ∷ codes "input" ∷ codes "count" ∷ [];
}

abbrev pub consumption_of : Values → Option Consumption
consumption_of values =
    with_part (value_at (codes "description") values) (λ description.
    with_part (option_and_then operation_of (value_at (codes "operation") values)) (λ operation.
    with_part (option_and_then (name_of operation) (value_at (codes "name") values)) (λ name.
    with_part (scheme_in values) (λ scheme.
    with_part (file_in (codes "input") values) (λ input.
    with_part (number_or 1 (codes "count") 1 100 values) (λ count.
    Some (record { description = description; operation = operation; name = name; scheme = scheme; input = input; count = count })))))))

abbrev pub consume_of : Values → Option Command
consume_of values = option_map (λ consumption. Consume consumption) (consumption_of values)

abbrev pub storm_form : Form
storm_form = record { places = codes "seed" ∷ codes "events" ∷ []; options = [] }

abbrev pub storm_of : Values → Option Command
storm_of values =
    with_part (number_at (codes "seed") 0 999999999 values) (λ seed.
    with_part (number_at (codes "events") 1 100000 values) (λ events.
    Some (Storm seed events)))

abbrev pub discover_form : Form
discover_form = record { places = codes "server" ∷ []; options = [] }

abbrev pub discover_of : Values → Option Command
discover_of values = option_map (λ point. Discover point.0 point.1) (option_and_then point_in (value_at (codes "server") values))

-- the command that the words after the command's name mean
abbrev pub meaning_by : Form → (Values → Option Command) → List (List ℕ) → Option Command
meaning_by form command_of words = option_and_then command_of (values_given form words)

-- the command of a name, and the words after it
abbrev pub meaning_after : List ℕ → List (List ℕ) → Option Command
meaning_after name words =
    if bytes_eq name (codes "replay") then meaning_by replay_form replay_of words
    else if bytes_eq name (codes "serve") then serve_meaning words
    else if bytes_eq name (codes "derive") then derive_meaning words
    else if bytes_eq name (codes "check") then meaning_by check_form check_of words
    else if bytes_eq name (codes "consume") then meaning_by consume_form consume_of words
    else if bytes_eq name (codes "storm") then meaning_by storm_form storm_of words
    else if bytes_eq name (codes "discover") then meaning_by discover_form discover_of words
    else None

-- The command that the words of the command line mean; none where they mean nothing.
unfoldable pub meaning_of : List (List ℕ) → Option Command
meaning_of [] = None
meaning_of (name ∷ words) = meaning_after name words
