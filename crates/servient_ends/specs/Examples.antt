-- Schedules in which something happens: without them the laws could hold because nothing ever does.
use Rattle.std.specs.Prelude.{◌≡◌, ℕ, Bool, true, false, Some, None, List, [], ◌∷◌, codes, length, Contains}
use Rattle.wot_json.specs.Tree.{null}
use Rattle.thing_ops.specs.Outcomes.{coap}
use Rattle.wot_terms.specs.declared.kind.Kind.TheVariants as kind
use Rattle.thing_site.specs.Site.{Placed, ExposedThing}
use Rattle.servient_outside.specs.declared.net.What.TheVariants as what
use Rattle.coap_msg.specs.declared.constants.TheConstants.{PUT}
use Rattle.coap_client.specs.declared.state.State.{State as ClientState}
use Rattle.coap_client.specs.Asking.{Asking}
use Rattle.coap_client.specs.Exchange.{IsNew}
use Rattle.servient_core.specs.Machine.{Site, start}
use Rattle.servient_world.specs.Rows.{RowAsk, AreInOrder, NoOther, IsOfPath, AreReads, IsOfCodeAndPath, AreWrites}
use Rattle.servient_ends.specs.Ends.{EndsState, IsBeginning, Turn, asks_next, delivers, happens, TakesAll}

-- a site of these Things, which leaves no versions out
abbrev pub of_things : List ExposedThing → Site
of_things things = record { things = things; left_out = 0 }

-- a new client beside a servient of these Things, in which 16 exchanges may live, at the moment 0
abbrev pub beside : Site → ClientState → EndsState
beside site client = record {
  world = record {
    moment = 0;
    client = client;
    server = (start site 16 None).coap;
    asks = [];
    sent = [];
    acts = [];
    emitted = [];
    ids = 0;
    ends = [];
    taken = [];
  };
  servient = start site 16 None;
}

-- GET of the root
abbrev pub get_root : Asking
get_root = record { code = 1; path = []; observe = None; format = None; block1 = None; block2 = None; payload = [] }

-- the client asks that, and its datagram comes to the servient
abbrev pub ask_that_comes : List Turn
ask_that_comes = asks_next get_root ∷ delivers 0 ∷ []

-- After these turns the servient may have made an act.
abbrev pub SomeServientActs : Type 0
SomeServientActs =
    (client : ClientState) → IsNew 0 client
    → IsBeginning (of_things []) 0 16 (beside (of_things []) client) × (q : EndsState) × TakesAll (of_things []) ask_that_comes (beside (of_things []) client) q × (length q.world.acts ≡ 1)

-- ---- a row of block-wise reads

-- a Thing without affordances, whose link has 26 bytes: </t>;rt="wot.thing";ct=432
abbrev pub plain_thing : ExposedThing
plain_thing = record { segment = codes "t"; description = null; affordances = [] }

abbrev pub links_path : List (List ℕ)
links_path = codes ".well-known" ∷ codes "core" ∷ []

-- GET of the block of this number and of 16 bytes of the links
abbrev pub get_links : ℕ → Asking
get_links n = record {
  code = 1;
  path = links_path;
  observe = None;
  format = None;
  block1 = None;
  block2 = Some (record { number = n; more = false; szx = 0 });
  payload = [];
}

-- the client asks for both blocks, and each datagram comes to where it was sent
abbrev pub reads_in_two : List Turn
reads_in_two = asks_next (get_links 0) ∷ delivers 0 ∷ delivers 1 ∷ asks_next (get_links 1) ∷ delivers 2 ∷ delivers 3 ∷ []

-- The row of the two asks, each with the response that ended it.
abbrev pub read_of : ℕ → Bool → List ℕ → RowAsk
read_of n more payload = record {
  ask = n;
  body = [];
  code = coap 2 05;
  block = Some (record { number = n; more = more; szx = 0 });
  payload = payload;
}

abbrev pub first_read : RowAsk
first_read = read_of 0 true (codes "</t>;rt=\"wot.thi")

abbrev pub last_read : RowAsk
last_read = read_of 1 false (codes "ng\";ct=432")

-- After these turns the premises of `ServientReadsOneAct` may hold, of a row that ends.
abbrev pub SomeReadsEnd : Type 0
SomeReadsEnd =
    (client : ClientState) → IsNew 0 client
    → IsBeginning (of_things (plain_thing ∷ [])) 0 16 (beside (of_things (plain_thing ∷ [])) client)
    × (q : EndsState) × TakesAll (of_things (plain_thing ∷ [])) reads_in_two (beside (of_things (plain_thing ∷ [])) client) q
    × AreReads q.world.asks q.world.ends links_path 0 0 (first_read ∷ last_read ∷ [])
    × AreInOrder (first_read ∷ last_read ∷ [])
    × NoOther q.world.asks (IsOfPath links_path) first_read (last_read ∷ [])

-- ---- a value that is emitted and taken

-- an event without a schema, and a Thing that has it alone
abbrev pub alarm : Placed
alarm = record {
  affordance = record {
    kind = kind.Event;
    name = codes "e";
    input = None;
    output = None;
    read_only = false;
    write_only = false;
    observable = false;
  };
  slot = 0;
}

abbrev pub thing_with_alarm : ExposedThing
thing_with_alarm = record { segment = codes "t"; description = null; affordances = alarm ∷ [] }

-- GET of the event, with Observe 0
abbrev pub observe_alarm : Asking
observe_alarm = record {
  code = 1;
  path = codes "t" ∷ codes "events" ∷ codes "e" ∷ [];
  observe = Some true;
  format = None;
  block1 = None;
  block2 = None;
  payload = [];
}

-- the client registers, the alarm fires on a tick, and the notification comes to the client
abbrev pub observes_and_is_told : List Turn
observes_and_is_told = asks_next observe_alarm ∷ delivers 0 ∷ delivers 1 ∷ happens what.Tick [] ∷ delivers 2 ∷ []

-- After these turns the client may have taken the value that was emitted: the first of its target.
abbrev pub SomeValueIsTaken : Type 0
SomeValueIsTaken =
    (client : ClientState) → IsNew 0 client
    → IsBeginning (of_things (thing_with_alarm ∷ [])) 0 16 (beside (of_things (thing_with_alarm ∷ [])) client)
    × (q : EndsState) × TakesAll (of_things (thing_with_alarm ∷ [])) observes_and_is_told (beside (of_things (thing_with_alarm ∷ [])) client) q
    × (q.world.emitted ≡ record { target = 0; text = codes "true" } ∷ [])
    × Contains q.world.taken (record { ask = 0; place = 1; payload = codes "true" })

-- ---- a row of block-wise writes

-- a property without a schema, and a Thing that has it alone
abbrev pub level : Placed
level = record alarm { affordance = record alarm.affordance { kind = kind.Property; name = codes "p" } }

abbrev pub thing_with_level : ExposedThing
thing_with_level = record { segment = codes "t"; description = null; affordances = level ∷ [] }

abbrev pub level_path : List (List ℕ)
level_path = codes "t" ∷ codes "properties" ∷ codes "p" ∷ []

-- PUT of it with one block of 16 bytes
abbrev pub put_block : ℕ → Bool → List ℕ → Asking
put_block n more payload = record {
  code = 3;
  path = level_path;
  observe = None;
  format = None;
  block1 = Some (record { number = n; more = more; szx = 0 });
  block2 = None;
  payload = payload;
}

-- the two blocks of [true,true,true,true]
abbrev pub put_first : Asking
put_first = put_block 0 true (codes "[true,true,true,")

abbrev pub put_last : Asking
put_last = put_block 1 false (codes "true]")

-- the client sends both, and each datagram comes to where it was sent
abbrev pub writes_in_two : List Turn
writes_in_two = asks_next put_first ∷ delivers 0 ∷ delivers 1 ∷ asks_next put_last ∷ delivers 2 ∷ delivers 3 ∷ []

-- The row of the two asks: the first is answered that others are awaited, the last that it was written.
abbrev pub first_write : RowAsk
first_write = record { ask = 0; body = codes "[true,true,true,"; code = coap 2 31; block = None; payload = [] }

abbrev pub last_write : RowAsk
last_write = record { ask = 1; body = codes "true]"; code = coap 2 04; block = None; payload = [] }

-- After these turns the premises of `ServientWritesOneAct` may hold, and an act was made.
abbrev pub SomeWritesAct : Type 0
SomeWritesAct =
    (client : ClientState) → IsNew 0 client
    → IsBeginning (of_things (thing_with_level ∷ [])) 0 16 (beside (of_things (thing_with_level ∷ [])) client)
    × (q : EndsState) × TakesAll (of_things (thing_with_level ∷ [])) writes_in_two (beside (of_things (thing_with_level ∷ [])) client) q
    × AreWrites q.world.asks q.world.ends PUT level_path 0 0 (first_write ∷ last_write ∷ [])
    × AreInOrder (first_write ∷ last_write ∷ [])
    × NoOther q.world.asks (IsOfCodeAndPath PUT level_path) first_write (last_write ∷ [])
    × (length q.world.acts ≡ 1)
