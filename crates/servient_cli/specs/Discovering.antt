-- `discover HOST:PORT`: the server there is asked over CoAP for its links (RFC 6690). The URLs of the Things to which
-- they lead are written, one a line, and then comes the line on how it ended, if it wasn't done. No file is read.
use Rattle.std.specs.Prelude.{ℕ, List}
use Rattle.wot_consumer.specs.Discovery.{links_of}
use Rattle.network_consumer.specs.Consuming.{Discovers}
use Rattle.command_stages.specs.Stages.{Deed, Outcome}
use Rattle.servient_cli.specs.Consuming.{EndsAfter}

abbrev pub DiscoversThings : List ℕ → ℕ → List Deed → Outcome (Unit {0}) → Type 0
DiscoversThings host port = EndsAfter (Discovers (links_of host port))
