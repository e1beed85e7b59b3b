-- A schedule in which something happens. Without one the laws could hold because nothing ever does.
use Rattle.std.specs.Prelude.{◌≡◌, true, Some, None, List, [], ◌∷◌, length}
use Rattle.coap_client.specs.declared.state.State.{State}
use Rattle.coap_client.specs.Asking.{Asking}
use Rattle.coap_client.specs.Exchange.{IsNew}
use Rattle.coap_bind.specs.Server.{start as nothing_came}
use Rattle.servient_world.specs.World.{WorldState, IsStart, WorldMove, ask, deliver, PlaysAll}

-- a new client beside a server in which 16 exchanges may live and 16 observers may be, at the moment 0
abbrev pub world_of : State → WorldState
world_of client = record {
  moment = 0;
  client = client;
  server = nothing_came 16 16;
  asks = [];
  sent = [];
  acts = [];
  emitted = [];
  ids = 0;
  ends = [];
  taken = [];
}

-- GET of the root, with Observe 0
abbrev pub observe_root : Asking
observe_root = record { code = 1; path = []; observe = Some true; format = None; block1 = None; block2 = None; payload = [] }

-- the client asks that, and its datagram comes to the server
abbrev pub ask_that_comes : List WorldMove
ask_that_comes = ask observe_root ∷ deliver 0 ∷ []

-- and the server's reply comes to the client
abbrev pub ask_and_reply : List WorldMove
ask_and_reply = ask observe_root ∷ deliver 0 ∷ deliver 1 ∷ []

-- In some run of the first the server makes an act.
abbrev pub SomeoneActs : Type 0
SomeoneActs =
    (client : State) → IsNew 0 client
    → IsStart 0 16 16 (world_of client) × (v : WorldState) × PlaysAll ask_that_comes (world_of client) v × (length v.acts ≡ 1)

-- In some run of the second the client takes a value.
abbrev pub SomeoneTakesAValue : Type 0
SomeoneTakesAValue =
    (client : State) → IsNew 0 client
    → IsStart 0 16 16 (world_of client) × (v : WorldState) × PlaysAll ask_and_reply (world_of client) v × (length v.taken ≡ 1)
