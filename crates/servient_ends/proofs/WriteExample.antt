-- A schedule in which a row of block-wise writes acts.
use Rattle.std.proofs.Common.{◌≡◌, ◌≤◌, ◌<◌, ◌+◌, ℕ, zero, suc, Option, Some, None, true, false, List, [], ◌∷◌, ◌++◌, length, take, inl, inr, refl, sym, ap, subst, ◌∙◌, arith}
use Rattle.std.specs.Prelude.{slice_index_or, slice_set, codes, All, AllPairs, option_map}
use Rattle.std.specs.List.{remove}
use Rattle.std.proofs.lemmas.List.{get_or-set_other}
use Rattle.std.proofs.lemmas.List.Elements.{All-nil, All-cons}
use Rattle.std.proofs.lemmas.List.Kept.{AllPairs-cons}
use Rattle.servient_base.specs.Moves.{is_done}
use Rattle.coap_msg.specs.declared.block.Block.{Block}
use Rattle.coap_msg.specs.declared.constants.TheConstants.{LONGEST_SEGMENT, PUT}
use Rattle.coap_msg.specs.declared.message.RequestType.TheVariants.{Confirmable}
use Rattle.coap_msg.specs.Grammar.{CoapMessage, IsWellFormed, option_spelling, spelling}
use Rattle.coap_exchange.specs.Table.{at_moment as later, with_exchange}
use Rattle.coap_observe.specs.Watching.{nobody, nothing}
use Rattle.coap_blocks.specs.declared.added.Added.TheVariants.{Continue}
use Rattle.coap_blocks.specs.Parts.{Part, after_block}
use Rattle.wot_json.specs.Tree.{Json, boolean, array, element, no_elements}
use Rattle.wot_json.specs.Reading.{tree_of}
use Rattle.wot_json.specs.Json.{text_of}
use Rattle.wot_json.specs.declared.tree.Tree.{Tree}
use Rattle.wot_json.specs.declared.tree.Tree.TheVariants as tree
use Rattle.wot_json.proofs.ReadsBack.{tree_of-text_of}
use Rattle.thing_ops.specs.declared.outcome.Outcome.TheVariants as outcome
use Rattle.thing_handler.specs.declared.handler.CallKind.TheVariants as call
use Rattle.thing_handler.specs.declared.handler.Answer.TheVariants as answer
use Rattle.thing_handler.specs.Turns.{HandlerCall, answered}
use Rattle.thing_site.specs.declared.place.ThingAct.TheVariants as act_of_thing
use Rattle.thing_site.specs.Refusals.{Input, only_input, Holding, SomeInput, IsLong, IsRefusedBySchema}
use Rattle.thing_state.specs.State.{State as ThingState, versions_after}
use Rattle.thing_state.specs.Calls.{gives}
use Rattle.thing_core.specs.Thing.{Done, only, Acts, performs, WritesEach}
use Rattle.coap_client.specs.declared.state.State.{State as ClientState}
use Rattle.coap_client.specs.declared.news.News.TheVariants as news
use Rattle.coap_client.specs.declared.news.Delivered.{Delivered}
use Rattle.coap_client.specs.Asking.{message_for, MayAsk}
use Rattle.coap_client.specs.Names.{is_recent}
use Rattle.coap_client.specs.Exchange.{at_moment, Asks, request_for, with_request, answered as answered_by, Delivers, of_message}
use Rattle.coap_opts.specs.Reading.{AskSeen, asked as what_is_asked}
use Rattle.coap_bind.specs.declared.blocks.BlockUse.TheVariants as blocks
use Rattle.coap_bind.specs.declared.pending.PendingReply.{PendingReply}
use Rattle.coap_bind.specs.declared.server.Server.{Server}
use Rattle.coap_bind.specs.Blocks.{continue_reply, answer_reply}
use Rattle.coap_bind.specs.Observing.{leaves}
use Rattle.coap_bind.specs.Writing.{observed as observed_reply, coap_reply, head_of}
use Rattle.coap_bind.specs.Server.{arrival, block_arrival, asked, answered_at_once, Hears, admitted, replied, joined, asks_whole, pending_joined, with_whole_body, with_kept, with_parts, with_id_used, Answers, SendsNext}
use Rattle.servient_outside.specs.declared.net.What.TheVariants as what
use Rattle.servient_outside.specs.declared.net.EventWithBytes.{EventWithBytes}
use Rattle.servient_outside.specs.declared.net.Act.TheVariants as act
use Rattle.servient_outside.specs.Network.{heard, did}
use Rattle.servient_trace.specs.Trace.{Sighting, at_network, at_handler}
use Rattle.servient_core.specs.Machine.{Site, State, start, EventAndStep}
use Rattle.servient_world.specs.World.{client_place, server_place, copy_of, reply_to, other, WorldState, acts_for, id_used, latest, end_by, taken_by, with_sent, ClientAsks, sends_ask}
use Rattle.servient_world.specs.Laws.{Asked}
use Rattle.servient_world.specs.Rows.{RowAsk, AreWrites, AreInOrder, NoOther, IsOfCodeAndPath}
use Rattle.servient_ends.specs.Ends.{EndsState, act_of, back_of, emitted_by_datagram, notifications_in, with_emissions, with_notifications, event_at, Arrives, to_client, to_servient, TakesAll}
use Rattle.servient_ends.specs.Examples.{of_things, beside, level, thing_with_level, level_path, put_first, put_last, writes_in_two, first_write, last_write, SomeWritesAct}
use Rattle.servient_ends.proofs.ExampleLaws.{fresh, is_fresh, starts}
use Rattle.servient_ends.proofs.ReadExample.{first_token, second_token, whole, short}
use Rattle.servient_ends.proofs.AtOnce as once

abbrev things : Site
things = of_things (thing_with_level ∷ [])

-- ---- the datagrams

abbrev first_block : Block
first_block = record { number = 0; more = true; szx = 0 }

abbrev last_block : Block
last_block = record { number = 1; more = false; szx = 0 }

abbrev first_question : CoapMessage
first_question = message_for put_first 0 first_token

abbrev second_question : CoapMessage
second_question = message_for put_last 1 second_token

-- as they are sent
abbrev first_bytes : List ℕ
first_bytes = take (length (spelling first_question)) (spelling first_question)

abbrev second_bytes : List ℕ
second_bytes = take (length (spelling second_question)) (spelling second_question)

abbrev first_answer : CoapMessage
first_answer = coap_reply (continue_reply first_block) (head_of first_question) 0

abbrev second_answer : CoapMessage
second_answer = coap_reply (observed_reply None (answer_reply (blocks.Joined last_block) outcome.Changed)) (head_of second_question) 0

first_bounds : IsWellFormed first_question
first_bounds = record {
  code = omega arith;
  class = inl refl;
  id = omega arith;
  token = omega arith;
  options = (record { order = omega arith; number = omega arith; value = omega arith }, (record { order = omega arith; number = omega arith; value = omega arith }, (record { order = omega arith; number = omega arith; value = omega arith }, (record { order = omega arith; number = omega arith; value = omega arith }, tt))));
  empty = λ e. absurd (omega arith);
}

second_bounds : IsWellFormed second_question
second_bounds = record {
  code = omega arith;
  class = inl refl;
  id = omega arith;
  token = omega arith;
  options = (record { order = omega arith; number = omega arith; value = omega arith }, (record { order = omega arith; number = omega arith; value = omega arith }, (record { order = omega arith; number = omega arith; value = omega arith }, (record { order = omega arith; number = omega arith; value = omega arith }, tt))));
  empty = λ e. absurd (omega arith);
}

first_answer_bounds : IsWellFormed first_answer
first_answer_bounds = record {
  code = omega arith;
  class = inr (inl refl);
  id = omega arith;
  token = omega arith;
  options = (record { order = omega arith; number = omega arith; value = omega arith }, tt);
  empty = λ e. absurd (omega arith);
}

second_answer_bounds : IsWellFormed second_answer
second_answer_bounds = record {
  code = omega arith;
  class = inr (inl refl);
  id = omega arith;
  token = omega arith;
  options = (record { order = omega arith; number = omega arith; value = omega arith }, tt);
  empty = λ e. absurd (omega arith);
}

first_length : length (spelling first_question) ≡ 47
unfolding option_spelling
first_length = refl

second_length : length (spelling second_question) ≡ 36
unfolding option_spelling
second_length = refl

short_first : length first_bytes ≤ 1280
short_first = short (spelling first_question) (let size = first_length in omega (arith, size))

short_second : length second_bytes ≤ 1280
short_second = short (spelling second_question) (let size = second_length in omega (arith, size))

-- ---- the client sends the first block

abbrev beginning : List (Option ℕ) → EndsState
beginning uses = beside things (fresh uses)

abbrev first_asked : List (Option ℕ) → ClientState
first_asked uses = with_request (fresh uses) server_place put_first 0

abbrev first_world : List (Option ℕ) → WorldState
first_world uses =
    with_sent (record (beginning uses).world { client = first_asked uses; asks = request_for (fresh uses) server_place put_first 0 ∷ [] })
    client_place server_place (copy_of 0) (first_bytes ∷ [])

abbrev IsShort : List ℕ → Type 0
IsShort segment = length segment ≤ LONGEST_SEGMENT

short_path : All IsShort level_path
short_path =
    All-cons IsShort (codes "t") (codes "properties" ∷ codes "p" ∷ []) (omega arith)
    (All-cons IsShort (codes "properties") (codes "p" ∷ []) (omega arith) (All-cons IsShort (codes "p") [] (omega arith) (All-nil IsShort)))

may_ask_first : MayAsk put_first
may_ask_first = record { code = λ e. omega arith; class = omega arith; segments = short_path; block1 = record { number = omega arith; szx = omega arith }; block2 = tt }

may_ask_second : MayAsk put_last
may_ask_second = record { code = λ e. omega arith; class = omega arith; segments = short_path; block1 = record { number = omega arith; szx = omega arith }; block2 = tt }

asks_first : (uses : List (Option ℕ)) → slice_index_or uses 0 None ≡ None
    → Asks (fresh uses) server_place put_first (length (spelling first_question)) (spelling first_question) (spelling first_question) (first_asked uses)
asks_first uses unused = record {
  id = 0;
  alone = refl;
  next = record { ahead = 0; near = omega arith; id_is = refl; free = ap (is_recent 0) unused; passed = λ k below. absurd (omega arith) };
  written = record { within = omega arith; front = whole (spelling first_question); rest = refl };
  after = refl;
}

first_asking : (uses : List (Option ℕ)) → slice_index_or uses 0 None ≡ None → ClientAsks put_first (beginning uses).world (first_world uses)
unfolding asks_first
first_asking uses unused = sends_ask (length (spelling first_question)) (spelling first_question) (spelling first_question) (first_asked uses) may_ask_first (asks_first uses unused) refl

abbrev first_ends : List (Option ℕ) → EndsState
first_ends uses = record { world = first_world uses; servient = start things 16 None }

-- ---- the servient waits for the others

abbrev started : Server
started = (start things 16 None).coap

abbrev first_admitted : Server
first_admitted = record started { exchanges = with_exchange (arrival client_place 0 first_question) 0 (later 0 started.exchanges) }

abbrev first_parts : List Part
first_parts = (after_block (block_arrival client_place 0 first_question first_block) []).1

abbrev waiting : Server
waiting = with_kept Confirmable 0 (spelling first_answer) (with_parts first_parts first_admitted)

hears_first : Hears client_place first_bytes 0 (answered_at_once (spelling first_answer)) started waiting
hears_first = admitted first_question 0 first_admitted (record {
  spells = record { bounds = first_bounds; bytes_are = whole (spelling first_question) };
  request = refl;
  meets = (refl, (omega arith, refl, refl));
  same_observers = refl;
  same_id = refl;
  same_bodies = refl;
  same_parts = refl;
  same_links = refl;
}) (replied (continue_reply first_block) first_parts (spelling first_answer) (joined first_block Continue refl refl (record { answer_is = refl; parts_are = refl }) refl) (record { bytes_are = refl; after = refl }) refl)

quiet_first : SendsNext 0 None waiting waiting
quiet_first = record { observers = waiting.observers; notifies = record { left = []; gives_up = nobody [] [] refl refl; sends = nothing [] refl refl refl }; capacity = refl; after = refl }

abbrev waiting_world : List (Option ℕ) → WorldState
waiting_world uses = once.world_after things started waiting first_bytes (spelling first_answer) short_first hears_first quiet_first 0 (first_world uses)

abbrev waiting_servient : State
waiting_servient = once.after things started waiting first_bytes (spelling first_answer) short_first hears_first quiet_first

abbrev waiting_ends : List (Option ℕ) → EndsState
waiting_ends uses = record { world = waiting_world uses; servient = waiting_servient }

first_arrives : (uses : List (Option ℕ)) → Arrives things (record { moment = 0; from = client_place; to = server_place; bytes = first_bytes; purpose = copy_of 0 }) (first_ends uses) (waiting_ends uses)
first_arrives uses = to_servient refl refl (once.answers_turn things started waiting first_bytes (spelling first_answer) short_first hears_first quiet_first 0 (first_world uses))

-- ---- the client is told so

abbrev first_told : Delivered
first_told = record { reply = None; news = news.Answered 95 None (record { ref_ptr = (0, 0); now = [] }) }

abbrev told_state : List (Option ℕ) → ClientState
told_state uses = answered_by (at_moment 0 (first_asked uses)) server_place first_token

takes_first : (uses : List (Option ℕ)) → Delivers (at_moment 0 (first_asked uses)) server_place (spelling first_answer) first_told [] [] (told_state uses)
takes_first uses = of_message first_answer (record { bounds = first_answer_bounds; bytes_are = refl }) refl (refl, refl, refl, refl) refl

abbrev told_world : List (Option ℕ) → WorldState
told_world uses =
    with_sent (record (waiting_world uses) {
      client = told_state uses;
      ends = (waiting_world uses).ends ++ end_by (waiting_world uses).client.outstanding (told_state uses).outstanding (latest (waiting_world uses)) first_told.news;
      taken = (waiting_world uses).taken ++ taken_by (reply_to 0) first_told.news;
    }) client_place server_place other []

abbrev told_ends : List (Option ℕ) → EndsState
told_ends uses = record { world = told_world uses; servient = waiting_servient }

first_comes_back : (uses : List (Option ℕ)) → Arrives things (record { moment = 0; from = server_place; to = client_place; bytes = spelling first_answer; purpose = reply_to 0 }) (waiting_ends uses) (told_ends uses)
first_comes_back uses = to_client refl refl (record { does = record { told = first_told; old = []; new = []; after = told_state uses; delivers = takes_first uses; next = refl }; same = refl })

-- ---- and sends the last

abbrev second_asked : List (Option ℕ) → ClientState
second_asked uses = with_request (told_state uses) server_place put_last 1

abbrev second_world : List (Option ℕ) → WorldState
second_world uses =
    with_sent (record (told_world uses) { client = second_asked uses; asks = (told_world uses).asks ++ request_for (told_state uses) server_place put_last 1 ∷ [] })
    client_place server_place (copy_of 1) (second_bytes ∷ [])

second_unused : (uses : List (Option ℕ)) → slice_index_or uses 1 None ≡ None → slice_index_or (slice_set uses 0 (Some 0)) 1 None ≡ None
second_unused uses unused = get_or-set_other uses 0 1 (Some 0) None (λ e. omega (arith, e)) ∙ unused

asks_second : (uses : List (Option ℕ)) → slice_index_or uses 1 None ≡ None
    → Asks (told_state uses) server_place put_last (length (spelling second_question)) (spelling second_question) (spelling second_question) (second_asked uses)
asks_second uses unused = record {
  id = 1;
  alone = refl;
  next = record { ahead = 0; near = omega arith; id_is = refl; free = ap (is_recent 0) (second_unused uses unused); passed = λ k below. absurd (omega arith) };
  written = record { within = omega arith; front = whole (spelling second_question); rest = refl };
  after = refl;
}

second_asking : (uses : List (Option ℕ)) → slice_index_or uses 1 None ≡ None → ClientAsks put_last (told_world uses) (second_world uses)
unfolding asks_second
second_asking uses unused = sends_ask (length (spelling second_question)) (spelling second_question) (spelling second_question) (second_asked uses) may_ask_second (asks_second uses unused) refl

abbrev second_ends : List (Option ℕ) → EndsState
second_ends uses = record { world = second_world uses; servient = waiting_servient }

-- ---- the servient acts on the whole body

abbrev value_tree : Tree
value_tree = tree.List (boolean true ∷ boolean true ∷ boolean true ∷ boolean true ∷ [])

abbrev value : Json
value = array (element (boolean true) (element (boolean true) (element (boolean true) (element (boolean true) no_elements))))

abbrev second_parts : List Part
second_parts = (after_block (block_arrival client_place 0 second_question last_block) first_parts).1

abbrev whole_part : Part
whole_part = record { origin = (block_arrival client_place 0 second_question last_block).origin; bytes = codes "[true,true,true,true]"; moment = 0 }

abbrev whole_ask : AskSeen
whole_ask = with_whole_body whole_part.bytes (what_is_asked second_question)

abbrev second_admitted : Server
second_admitted = record waiting { exchanges = with_exchange (arrival client_place 0 second_question) 1 (later 0 waiting.exchanges) }

abbrev asking_server : Server
asking_server = with_parts (remove second_parts 0) second_admitted

abbrev pending : PendingReply
pending = pending_joined client_place second_question 1 last_block

hears_second : Hears client_place second_bytes 0 (asked whole_ask pending) waiting asking_server
hears_second = admitted second_question 1 second_admitted (record {
  spells = record { bounds = second_bounds; bytes_are = whole (spelling second_question) };
  request = refl;
  meets = (refl, (omega arith, refl, refl));
  same_observers = refl;
  same_id = refl;
  same_bodies = refl;
  same_parts = refl;
  same_links = refl;
}) (asks_whole last_block 0 second_parts whole_part refl refl refl (record { answer_is = refl; parts_are = refl }) refl refl refl)

abbrev written : Done
written = only outcome.Changed

abbrev first_things : ThingState
first_things = (start things 16 None).thing

abbrev write : HandlerCall
write = answered (record { number = 0; slot = 0; what = call.Write value_tree; answer = answer.Done })

abbrev written_things : ThingState
written_things = record first_things { turns = 1; versions = versions_after 0 (text_of value) first_things.versions }

abbrev inputs : List Input
inputs = only_input level value

is_read : tree_of whole_part.bytes ≡ Some value
is_read = tree_of-text_of value (tt, (tt, (tt, (tt, tt)))) (omega arith)

inputs_are : option_map (only_input level) (tree_of whole_part.bytes) ≡ Some inputs
inputs_are = ap (option_map (only_input level)) is_read

none_long : SomeInput IsLong inputs → ⊥
none_long (inl long) = omega (arith, long)
none_long (inr none) = none

none_refused : SomeInput IsRefusedBySchema inputs → ⊥
none_refused (inl refused) = refused tt
none_refused (inr none) = none

writes_it : WritesEach inputs [] written first_things (write ∷ []) written_things
writes_it = (
  value_tree,
  refl,
  (
    gives answer.Done,
    record {
      mid = record first_things { turns = 1 };
      first = write ∷ [];
      second = [];
      one = (omega arith, record { next = refl; saw = refl });
      other = record {
        mid = written_things;
        first = [];
        second = [];
        one = record { next = refl; saw = refl };
        other = (refl, record { next = refl; saw = refl });
        whole = refl;
      };
      whole = refl;
    },
  ),
)

acts_on_it : Acts things whole_ask.request written first_things (write ∷ []) written_things
acts_on_it = performs (act_of_thing.Writes level) inputs (
  λ e. cc (e),
  (
    λ e. cc (e),
    (
      λ e. cc (e),
      (
        λ e. cc (e.1),
        (
          λ e. let never : Some inputs ≡ None = sym inputs_are ∙ e in cc (never),
          (
            subst (λ (o : Option (List Input)). Holding (SomeInput IsLong) o → ⊥) (sym inputs_are) none_long,
            (subst (λ (o : Option (List Input)). Holding (SomeInput IsRefusedBySchema) o → ⊥) (sym inputs_are) none_refused, (λ e. cc (e), (λ e. e, tt))),
          ),
        ),
      ),
    ),
  ),
) refl inputs_are writes_it

abbrev answered_server : Server
answered_server = with_kept Confirmable 1 (spelling second_answer) (with_id_used Confirmable asking_server)

answers_it : Answers pending outcome.Changed None (spelling second_answer) asking_server answered_server
answers_it = record {
  observe = None;
  observers = asking_server.observers;
  watches = leaves refl refl refl;
  replies = record { bytes_are = refl; after = refl };
}

quiet_second : SendsNext 0 None answered_server answered_server
quiet_second = record { observers = answered_server.observers; notifies = record { left = []; gives_up = nobody [] [] refl refl; sends = nothing [] refl refl refl }; capacity = refl; after = refl }

abbrev second_comes : EventWithBytes
second_comes = event_at 0 (what.Datagram client_place (length second_bytes)) second_bytes

abbrev reply_seen : List Sighting
reply_seen = at_network (did (act.Datagram client_place (spelling second_answer))) ∷ []

abbrev asking_state : State
asking_state = record waiting_servient { coap = asking_server }

abbrev written_state : State
written_state = record asking_state { thing = written_things }

abbrev answered_state : State
answered_state = record written_state { coap = answered_server }

abbrev the_step : EventAndStep things second_comes waiting_servient (at_network (heard second_comes) ∷ at_handler write ∷ reply_seen) answered_state
the_step = record {
  mid = waiting_servient;
  first = at_network (heard second_comes) ∷ [];
  second = at_handler write ∷ reply_seen;
  one = record { next = refl; saw = refl };
  other = record {
    mid = answered_state;
    first = at_handler write ∷ reply_seen;
    second = [];
    one = inr (
      short_second,
      (
        asked whole_ask pending,
        record {
          mid = asking_state;
          first = [];
          second = at_handler write ∷ reply_seen;
          one = (asking_server, hears_second, record { next = refl; saw = refl });
          other = (
            written,
            record {
              mid = written_state;
              first = at_handler write ∷ [];
              second = reply_seen;
              one = (written_things, write ∷ [], acts_on_it, record { next = refl; saw = refl });
              other = record {
                mid = answered_state;
                first = reply_seen;
                second = [];
                one = (
                  spelling second_answer,
                  record {
                    mid = answered_state;
                    first = [];
                    second = reply_seen;
                    one = (answered_server, answers_it, record { next = refl; saw = refl });
                    other = record { next = refl; saw = refl };
                    whole = refl;
                  },
                );
                other = record { next = refl; saw = refl };
                whole = refl;
              };
              whole = refl;
            },
          );
          whole = refl;
        },
      ),
    );
    other = record {
      mid = answered_state;
      first = [];
      second = [];
      one = record {
        mid = answered_state;
        first = [];
        second = [];
        one = is_done answered_state [] answered_state (answered_server, quiet_second) (record { next = refl; saw = refl });
        other = (answered_server, quiet_second, record { next = refl; saw = refl });
        whole = refl;
      };
      other = record {
        mid = answered_state;
        first = [];
        second = [];
        one = is_done answered_state [] answered_state refl (record { next = refl; saw = refl });
        other = is_done answered_state [] answered_state refl (record { next = refl; saw = refl });
        whole = refl;
      };
      whole = refl;
    };
    whole = refl;
  };
  whole = refl;
}

abbrev written_world : List (Option ℕ) → WorldState
written_world uses =
    with_notifications written_things (notifications_in the_step.other.mid the_step.other.second answered_state the_step.other.other)
    (with_emissions (emitted_by_datagram things client_place second_bytes waiting_servient the_step.other.first the_step.other.mid the_step.other.one)
    (with_sent (record (second_world uses) {
      server = answered_server;
      acts = (second_world uses).acts ++ acts_for (copy_of 1) (act_of things client_place second_bytes waiting_servient the_step.other.first the_step.other.mid the_step.other.one);
      ids = (second_world uses).ids + id_used waiting the_step.other.mid.coap;
    }) server_place client_place (reply_to 1) (back_of things client_place second_bytes waiting_servient the_step.other.first the_step.other.mid the_step.other.one)))

abbrev written_ends : List (Option ℕ) → EndsState
written_ends uses = record { world = written_world uses; servient = answered_state }

second_arrives : (uses : List (Option ℕ)) → Arrives things (record { moment = 0; from = client_place; to = server_place; bytes = second_bytes; purpose = copy_of 1 }) (second_ends uses) (written_ends uses)
second_arrives uses = to_servient refl refl (record { seen = at_network (heard second_comes) ∷ at_handler write ∷ reply_seen; step = the_step; next = refl })

-- ---- and the client is told that it was written

abbrev second_told : Delivered
second_told = record { reply = None; news = news.Answered 68 None (record { ref_ptr = (0, 0); now = [] }) }

abbrev done_state : List (Option ℕ) → ClientState
done_state uses = answered_by (at_moment 0 (second_asked uses)) server_place second_token

takes_second : (uses : List (Option ℕ)) → Delivers (at_moment 0 (second_asked uses)) server_place (spelling second_answer) second_told [] [] (done_state uses)
takes_second uses = of_message second_answer (record { bounds = second_answer_bounds; bytes_are = refl }) refl (refl, refl, refl, refl) refl

abbrev done_world : List (Option ℕ) → WorldState
done_world uses =
    with_sent (record (written_world uses) {
      client = done_state uses;
      ends = (written_world uses).ends ++ end_by (written_world uses).client.outstanding (done_state uses).outstanding (latest (written_world uses)) second_told.news;
      taken = (written_world uses).taken ++ taken_by (reply_to 1) second_told.news;
    }) client_place server_place other []

abbrev done_ends : List (Option ℕ) → EndsState
done_ends uses = record { world = done_world uses; servient = answered_state }

second_comes_back : (uses : List (Option ℕ)) → Arrives things (record { moment = 0; from = server_place; to = client_place; bytes = spelling second_answer; purpose = reply_to 1 }) (written_ends uses) (done_ends uses)
second_comes_back uses = to_client refl refl (record { does = record { told = second_told; old = []; new = []; after = done_state uses; delivers = takes_second uses; next = refl }; same = refl })

-- ---- the row

takes_all : (uses : List (Option ℕ)) → slice_index_or uses 0 None ≡ None → slice_index_or uses 1 None ≡ None → TakesAll things writes_in_two (beginning uses) (done_ends uses)
takes_all uses one two = (
  first_ends uses,
  record { does = first_asking uses one; same = refl },
  (
    waiting_ends uses,
    first_arrives uses,
    (
      told_ends uses,
      first_comes_back uses,
      (second_ends uses, record { does = second_asking uses two; same = refl }, (written_ends uses, second_arrives uses, (done_ends uses, second_comes_back uses, refl))),
    ),
  ),
)

first_is_asked : (uses : List (Option ℕ)) → Asked (done_world uses).asks 0
first_is_asked uses = record { request = request_for (fresh uses) server_place put_first 0; ask = refl; message = first_question; spells = record { bounds = first_bounds; bytes_are = refl } }

second_is_asked : (uses : List (Option ℕ)) → Asked (done_world uses).asks 1
second_is_asked uses = record { request = request_for (told_state uses) server_place put_last 1; ask = refl; message = second_question; spells = record { bounds = second_bounds; bytes_are = refl } }

are_writes : (uses : List (Option ℕ)) → AreWrites (done_world uses).asks (done_world uses).ends PUT level_path 0 0 (first_write ∷ last_write ∷ [])
unfolding first_is_asked second_is_asked
are_writes uses = (
  record { asked = first_is_asked uses; is = (refl, refl); block = first_block; block1 = refl; number = refl; size = refl; body_is = refl },
  (0, omega arith, refl),
  refl,
  (
    record { asked = second_is_asked uses; is = (refl, refl); block = last_block; block1 = refl; number = refl; size = refl; body_is = refl },
    (1, omega arith, refl),
    (refl, λ e. omega (arith, e)),
    tt,
  ),
)

abbrev IsBefore : RowAsk → RowAsk → Type 0
IsBefore x y = x.ask < y.ask

no_pairs : AllPairs IsBefore []
no_pairs = λ i j d before within. absurd (omega (arith, within))

in_order : AreInOrder (first_write ∷ last_write ∷ [])
in_order =
    AllPairs-cons IsBefore first_write (last_write ∷ []) (All-cons (IsBefore first_write) last_write [] (omega arith) (All-nil (IsBefore first_write)))
    (AllPairs-cons IsBefore last_write [] (All-nil (IsBefore last_write)) no_pairs)

no_other : (uses : List (Option ℕ)) → NoOther (done_world uses).asks (IsOfCodeAndPath PUT level_path) first_write (last_write ∷ [])
no_other uses zero other_ask first is before found = inl (0, omega arith, refl)
no_other uses (suc k) other_ask first is before found = absurd (omega (arith, before))

abbrev Premises : EndsState → Type 0
Premises q =
    AreWrites q.world.asks q.world.ends PUT level_path 0 0 (first_write ∷ last_write ∷ []) × AreInOrder (first_write ∷ last_write ∷ [])
    × NoOther q.world.asks (IsOfCodeAndPath PUT level_path) first_write (last_write ∷ []) × (length q.world.acts ≡ 1)

pub some_writes_act : SomeWritesAct
some_writes_act s new =
    let run : (q : EndsState) × TakesAll things writes_in_two (beside things s) q × Premises q
    = subst (λ (t : ClientState). (q : EndsState) × TakesAll things writes_in_two (beside things t) q × Premises q)
    (sym (is_fresh s new)) (done_ends s.uses, takes_all s.uses (new.unused 0) (new.unused 1), (are_writes s.uses, in_order, no_other s.uses, refl)) in
    (starts things s new, run.0, run.1, run.2.0, run.2.1, run.2.2, run.2.3)
