-- A schedule in which the client takes a value that was emitted.
use Rattle.std.proofs.Common.{◌≡◌, ◌≤◌, ◌+◌, ℕ, Option, Some, None, Bool, true, List, [], ◌∷◌, ◌++◌, length, take, inl, inr, refl, sym, ap, subst, arith}
use Rattle.std.specs.Prelude.{slice_index_or, codes, All, Contains}
use Rattle.std.proofs.lemmas.List.Elements.{All-nil, All-cons}
use Rattle.servient_base.specs.Moves.{is_done, goes_on}
use Rattle.coap_msg.specs.declared.constants.TheConstants.{LONGEST_SEGMENT}
use Rattle.coap_msg.specs.declared.message.RequestType.TheVariants.{Confirmable}
use Rattle.coap_msg.specs.declared.message.Type4.TheVariants.{Ack}
use Rattle.coap_msg.specs.Grammar.{CoapMessage, IsWellFormed, option_spelling, spelling}
use Rattle.coap_msg.specs.Empty.{empty_message}
use Rattle.coap_exchange.specs.Table.{at_moment as later, with_exchange}
use Rattle.coap_observe.specs.declared.notice.Registered.TheVariants.{New}
use Rattle.coap_observe.specs.declared.notice.Notice.{Notice}
use Rattle.coap_observe.specs.declared.observer.Observer.{Observer}
use Rattle.coap_observe.specs.Watching.{Watching, newcomer, marked, notified, nobody, nothing, first}
use Rattle.wot_json.specs.declared.tree.Tree.TheVariants as tree
use Rattle.thing_ops.specs.declared.outcome.Outcome.TheVariants as outcome
use Rattle.thing_handler.specs.declared.handler.CallKind.TheVariants as call
use Rattle.thing_handler.specs.declared.handler.Answer.TheVariants as answer
use Rattle.thing_handler.specs.Turns.{HandlerCall, answered}
use Rattle.thing_site.specs.declared.place.ThingAct.TheVariants as act_of_thing
use Rattle.thing_state.specs.State.{State as ThingState, Emission, last_after}
use Rattle.thing_state.specs.Calls.{gives}
use Rattle.thing_core.specs.Thing.{only, Acts, performs, PollsEvent}
use Rattle.coap_client.specs.declared.state.State.{State as ClientState}
use Rattle.coap_client.specs.declared.news.News.TheVariants as news
use Rattle.coap_client.specs.declared.news.Delivered.{Delivered}
use Rattle.coap_client.specs.Asking.{message_for, MayAsk}
use Rattle.coap_client.specs.Names.{is_recent}
use Rattle.coap_client.specs.Exchange.{at_moment, Asks, request_for, with_request, valued, Delivers, of_message}
use Rattle.coap_opts.specs.Reading.{asked as what_is_asked}
use Rattle.coap_bind.specs.declared.server.Server.{Server}
use Rattle.coap_bind.specs.Observing.{registers}
use Rattle.coap_bind.specs.Writing.{Reply, reply_of, observed as observed_reply, coap_reply, head_of, notification}
use Rattle.coap_bind.specs.Server.{arrival, asked, asks, pending_of, Hears, admitted, with_kept, with_id_used, with_observers, with_emitted, with_notification_sent, Answers, SendsNext}
use Rattle.servient_outside.specs.declared.net.What.TheVariants as what
use Rattle.servient_outside.specs.declared.net.EventWithBytes.{EventWithBytes}
use Rattle.servient_outside.specs.declared.net.Act.TheVariants as act
use Rattle.servient_outside.specs.Network.{heard, did}
use Rattle.servient_trace.specs.Trace.{Sighting, at_network, at_handler}
use Rattle.servient_core.specs.Machine.{Site, State, start, EventAndStep, notification_bytes}
use Rattle.servient_world.specs.World.{client_place, server_place, copy_of, reply_to, notification_for, other, WorldState, acts_for, id_used, latest, end_by, taken_by, with_sent, ClientAsks, sends_ask}
use Rattle.servient_ends.specs.Ends.{EndsState, act_of, back_of, emitted_by_datagram, emitted_by, notifications_in, with_emissions, with_notifications, event_at, ServientDoes, Arrives, to_client, to_servient, TakesAll}
use Rattle.servient_ends.specs.Examples.{of_things, beside, alarm, thing_with_alarm, observe_alarm, observes_and_is_told, SomeValueIsTaken}
use Rattle.servient_ends.proofs.ExampleLaws.{fresh, is_fresh, starts}
use Rattle.servient_ends.proofs.ReadExample.{first_token, whole}

abbrev things : Site
things = of_things (thing_with_alarm ∷ [])

-- ---- the datagrams

abbrev question : CoapMessage
question = message_for observe_alarm 0 first_token

abbrev question_bytes : List ℕ
question_bytes = take (length (spelling question)) (spelling question)

-- the reply says no value yet, with the sequence number 0
abbrev first_reply : Reply
first_reply = observed_reply (Some 0) (reply_of outcome.Empty)

abbrev reply_message : CoapMessage
reply_message = coap_reply first_reply (head_of question) 0

-- the notification says the value that the alarm fired with, with the sequence number 1
abbrev notice : Notice
notice = record { to = client_place; token = first_token; token_length = 8; target = 0; id = 0; sequence = 1; fresh = true }

abbrev told : CoapMessage
told = notification notice (codes "true")

question_bounds : IsWellFormed question
question_bounds = record {
  code = omega arith;
  class = inl refl;
  id = omega arith;
  token = omega arith;
  options = (
    record { order = omega arith; number = omega arith; value = omega arith },
    (
      record { order = omega arith; number = omega arith; value = omega arith },
      (record { order = omega arith; number = omega arith; value = omega arith }, (record { order = omega arith; number = omega arith; value = omega arith }, tt)),
    ),
  );
  empty = λ e. absurd (omega arith);
}

reply_bounds : IsWellFormed reply_message
reply_bounds = record {
  code = omega arith;
  class = inr (inl refl);
  id = omega arith;
  token = omega arith;
  options = (record { order = omega arith; number = omega arith; value = omega arith }, tt);
  empty = λ e. absurd (omega arith);
}

told_bounds : IsWellFormed told
told_bounds = record {
  code = omega arith;
  class = inr (inl refl);
  id = omega arith;
  token = omega arith;
  options = (record { order = omega arith; number = omega arith; value = omega arith }, (record { order = omega arith; number = omega arith; value = omega arith }, tt));
  empty = λ e. absurd (omega arith);
}

question_length : length (spelling question) ≡ 24
unfolding option_spelling
question_length = refl

short_question : length question_bytes ≤ 1280
short_question = let size = question_length in let same = ap length (whole (spelling question)) in omega (arith, same, size)

-- ---- the client registers

abbrev beginning : List (Option ℕ) → EndsState
beginning uses = beside things (fresh uses)

abbrev asked_client : List (Option ℕ) → ClientState
asked_client uses = with_request (fresh uses) server_place observe_alarm 0

abbrev asked_world : List (Option ℕ) → WorldState
asked_world uses =
    with_sent (record (beginning uses).world { client = asked_client uses; asks = request_for (fresh uses) server_place observe_alarm 0 ∷ [] })
    client_place server_place (copy_of 0) (question_bytes ∷ [])

abbrev IsShort : List ℕ → Type 0
IsShort segment = length segment ≤ LONGEST_SEGMENT

short_path : All IsShort observe_alarm.path
short_path =
    All-cons IsShort (codes "t") (codes "events" ∷ codes "e" ∷ []) (omega arith)
    (All-cons IsShort (codes "events") (codes "e" ∷ []) (omega arith) (All-cons IsShort (codes "e") [] (omega arith) (All-nil IsShort)))

may_ask : MayAsk observe_alarm
may_ask = record { code = λ e. omega arith; class = omega arith; segments = short_path; block1 = tt; block2 = tt }

asks_it : (uses : List (Option ℕ)) → slice_index_or uses 0 None ≡ None
    → Asks (fresh uses) server_place observe_alarm (length (spelling question)) (spelling question) (spelling question) (asked_client uses)
asks_it uses unused = record {
  id = 0;
  alone = refl;
  next = record { ahead = 0; near = omega arith; id_is = refl; free = ap (is_recent 0) unused; passed = λ k below. absurd (omega arith) };
  written = record { within = omega arith; front = whole (spelling question); rest = refl };
  after = refl;
}

asking : (uses : List (Option ℕ)) → slice_index_or uses 0 None ≡ None → ClientAsks observe_alarm (beginning uses).world (asked_world uses)
unfolding asks_it
asking uses unused = sends_ask (length (spelling question)) (spelling question) (spelling question) (asked_client uses) may_ask (asks_it uses unused) refl

abbrev asked_ends : List (Option ℕ) → EndsState
asked_ends uses = record { world = asked_world uses; servient = start things 16 None }

-- ---- the servient registers it, and has no value yet

abbrev started : Server
started = (start things 16 None).coap

abbrev admitting : Server
admitting = record started { exchanges = with_exchange (arrival client_place 0 question) 0 (later 0 started.exchanges) }

abbrev watched : Watching
watched = record { capacity = 1024; list = newcomer client_place first_token 0 ∷ [] }

abbrev registered_server : Server
registered_server = with_kept Confirmable 0 (spelling reply_message) (with_id_used Confirmable (with_observers watched admitting))

hears_it : Hears client_place question_bytes 0 (asked (what_is_asked question) (pending_of client_place 0 question 0)) started admitting
hears_it = admitted question 0 admitting (record {
  spells = record { bounds = question_bounds; bytes_are = whole (spelling question) };
  request = refl;
  meets = (refl, (omega arith, refl, refl));
  same_observers = refl;
  same_id = refl;
  same_bodies = refl;
  same_parts = refl;
  same_links = refl;
}) (asks refl refl refl refl refl)

answers_it : Answers (pending_of client_place 0 question 0) outcome.Empty (Some 0) (spelling reply_message) admitting registered_server
answers_it = record {
  observe = Some 0;
  observers = watched;
  watches = registers 0 (New 0) refl (refl, omega arith, refl, refl) refl;
  replies = record { bytes_are = refl; after = refl };
}

abbrev first_things : ThingState
first_things = (start things 16 None).thing

acts_on_it : Acts things (what_is_asked question).request (only outcome.Empty) first_things [] first_things
acts_on_it = performs (act_of_thing.ReadsEvent alarm) [] (
  λ e. cc (e),
  (λ e. cc (e), (λ e. cc (e), (λ e. e.0 refl, (λ e. cc (e), (λ e. e, (λ e. e, (λ e. e, (λ e. e, tt)))))))),
) refl refl (refl, record { next = refl; saw = refl })

quiet : SendsNext 0 None registered_server registered_server
quiet = record {
  observers = registered_server.observers;
  notifies = record { left = registered_server.observers.list; gives_up = nobody registered_server.observers.list registered_server.observers.list refl refl; sends = nothing registered_server.observers.list refl refl refl };
  capacity = refl;
  after = refl;
}

abbrev question_comes : EventWithBytes
question_comes = event_at 0 (what.Datagram client_place (length question_bytes)) question_bytes

abbrev reply_seen : List Sighting
reply_seen = at_network (did (act.Datagram client_place (spelling reply_message))) ∷ []

abbrev admitted_state : State
admitted_state = record (start things 16 None) { coap = admitting }

abbrev registered_state : State
registered_state = record (start things 16 None) { coap = registered_server }

abbrev first_step : EventAndStep things question_comes (start things 16 None) (at_network (heard question_comes) ∷ reply_seen) registered_state
first_step = record {
  mid = start things 16 None;
  first = at_network (heard question_comes) ∷ [];
  second = reply_seen;
  one = record { next = refl; saw = refl };
  other = record {
    mid = registered_state;
    first = reply_seen;
    second = [];
    one = inr (
      short_question,
      (
        asked (what_is_asked question) (pending_of client_place 0 question 0),
        record {
          mid = admitted_state;
          first = [];
          second = reply_seen;
          one = (admitting, hears_it, record { next = refl; saw = refl });
          other = (
            only outcome.Empty,
            record {
              mid = admitted_state;
              first = [];
              second = reply_seen;
              one = (first_things, [], acts_on_it, record { next = refl; saw = refl });
              other = record {
                mid = registered_state;
                first = reply_seen;
                second = [];
                one = (
                  spelling reply_message,
                  record {
                    mid = registered_state;
                    first = [];
                    second = reply_seen;
                    one = (registered_server, answers_it, record { next = refl; saw = refl });
                    other = record { next = refl; saw = refl };
                    whole = refl;
                  },
                );
                other = record { next = refl; saw = refl };
                whole = refl;
              };
              whole = refl;
            },
          );
          whole = refl;
        },
      ),
    );
    other = record {
      mid = registered_state;
      first = [];
      second = [];
      one = record {
        mid = registered_state;
        first = [];
        second = [];
        one = is_done registered_state [] registered_state (registered_server, quiet) (record { next = refl; saw = refl });
        other = (registered_server, quiet, record { next = refl; saw = refl });
        whole = refl;
      };
      other = record {
        mid = registered_state;
        first = [];
        second = [];
        one = is_done registered_state [] registered_state refl (record { next = refl; saw = refl });
        other = is_done registered_state [] registered_state refl (record { next = refl; saw = refl });
        whole = refl;
      };
      whole = refl;
    };
    whole = refl;
  };
  whole = refl;
}

abbrev registered_world : List (Option ℕ) → WorldState
registered_world uses =
    with_notifications first_things (notifications_in first_step.other.mid first_step.other.second registered_state first_step.other.other)
    (with_emissions (emitted_by_datagram things client_place question_bytes (start things 16 None) first_step.other.first first_step.other.mid first_step.other.one)
    (with_sent (record (asked_world uses) {
      server = registered_server;
      acts = acts_for (copy_of 0) (act_of things client_place question_bytes (start things 16 None) first_step.other.first first_step.other.mid first_step.other.one);
      ids = 0 + id_used started first_step.other.mid.coap;
    }) server_place client_place (reply_to 0) (back_of things client_place question_bytes (start things 16 None) first_step.other.first first_step.other.mid first_step.other.one)))

abbrev registered_ends : List (Option ℕ) → EndsState
registered_ends uses = record { world = registered_world uses; servient = registered_state }

question_arrives : (uses : List (Option ℕ)) → Arrives things (record { moment = 0; from = client_place; to = server_place; bytes = question_bytes; purpose = copy_of 0 }) (asked_ends uses) (registered_ends uses)
question_arrives uses = to_servient refl refl (record { seen = at_network (heard question_comes) ∷ reply_seen; step = first_step; next = refl })

-- ---- the client takes the reply

abbrev first_news : Delivered
first_news = record { reply = None; news = news.Value (record { ref_ptr = (0, 0); now = [] }) }

abbrev watching_client : List (Option ℕ) → ClientState
watching_client uses = valued (at_moment 0 (asked_client uses)) 0

takes_reply : (uses : List (Option ℕ)) → Delivers (at_moment 0 (asked_client uses)) server_place (spelling reply_message) first_news [] [] (watching_client uses)
takes_reply uses = of_message reply_message (record { bounds = reply_bounds; bytes_are = refl }) refl (0, refl, refl) refl

abbrev watching_world : List (Option ℕ) → WorldState
watching_world uses =
    with_sent (record (registered_world uses) {
      client = watching_client uses;
      ends = (registered_world uses).ends ++ end_by (registered_world uses).client.outstanding (watching_client uses).outstanding (latest (registered_world uses)) first_news.news;
      taken = (registered_world uses).taken ++ taken_by (reply_to 0) first_news.news;
    }) client_place server_place other []

abbrev watching_ends : List (Option ℕ) → EndsState
watching_ends uses = record { world = watching_world uses; servient = registered_state }

reply_arrives : (uses : List (Option ℕ)) → Arrives things (record { moment = 0; from = server_place; to = client_place; bytes = spelling reply_message; purpose = reply_to 0 }) (registered_ends uses) (watching_ends uses)
reply_arrives uses = to_client refl refl (record { does = record { told = first_news; old = []; new = []; after = watching_client uses; delivers = takes_reply uses; next = refl }; same = refl })

-- ---- the alarm fires on a tick, and the client is notified

abbrev fired : List Emission
fired = record { target = 0; text = codes "true" } ∷ []

abbrev poll : HandlerCall
poll = answered (record { number = 0; slot = 0; what = call.Poll; answer = answer.Fired (tree.Bool true) })

abbrev polled_things : ThingState
polled_things = record first_things { turns = 1; last = last_after fired first_things.last }

polls_it : PollsEvent alarm fired first_things (poll ∷ []) polled_things
polls_it = (
  gives (answer.Fired (tree.Bool true)),
  record {
    mid = record first_things { turns = 1 };
    first = poll ∷ [];
    second = [];
    one = (omega arith, record { next = refl; saw = refl });
    other = (inl ((tt, omega arith), refl), record { next = refl; saw = refl });
    whole = refl;
  },
)

abbrev marked_server : Server
marked_server = with_emitted 0 registered_server

abbrev marked_list : List Observer
marked_list = marked (newcomer client_place first_token 0) ∷ []

abbrev told_list : List Observer
told_list = notified 0 0 (marked (newcomer client_place first_token 0)) ∷ []

abbrev told_server : Server
told_server = with_notification_sent (Some notice) (with_observers (record { capacity = 1024; list = told_list }) marked_server)

tells_it : SendsNext 0 (Some notice) marked_server told_server
tells_it = record {
  observers = record { capacity = 1024; list = told_list };
  notifies = record {
    left = marked_list;
    gives_up = nobody marked_list marked_list refl refl;
    sends = first (marked (newcomer client_place first_token 0)) notice told_list refl refl
        (record { to = refl; token = refl; token_length = refl; target = refl; id_is = refl; sequence_is = refl; fresh_is = refl }) refl;
  };
  capacity = refl;
  after = refl;
}

then_quiet : SendsNext 0 None told_server told_server
then_quiet = record {
  observers = told_server.observers;
  notifies = record { left = told_list; gives_up = nobody told_list told_list refl refl; sends = nothing told_list refl refl refl };
  capacity = refl;
  after = refl;
}

abbrev tick : EventWithBytes
tick = event_at 0 what.Tick []

abbrev told_seen : List Sighting
told_seen = at_network (did (act.Datagram client_place (notification_bytes notice polled_things))) ∷ []

abbrev polled_state : State
polled_state = record registered_state { thing = polled_things }

abbrev marked_state : State
marked_state = record polled_state { coap = marked_server }

abbrev told_state : State
told_state = record polled_state { coap = told_server }

abbrev second_step : EventAndStep things tick registered_state (at_network (heard tick) ∷ at_handler poll ∷ told_seen) told_state
second_step = record {
  mid = registered_state;
  first = at_network (heard tick) ∷ [];
  second = at_handler poll ∷ told_seen;
  one = record { next = refl; saw = refl };
  other = record {
    mid = marked_state;
    first = at_handler poll ∷ [];
    second = told_seen;
    one = record {
      mid = marked_state;
      first = at_handler poll ∷ [];
      second = [];
      one = (
        fired,
        record {
          mid = polled_state;
          first = at_handler poll ∷ [];
          second = [];
          one = (polled_things, poll ∷ [], polls_it, record { next = refl; saw = refl });
          other = record {
            mid = marked_state;
            first = [];
            second = [];
            one = record {
              mid = polled_state;
              first = [];
              second = [];
              one = is_done polled_state [] polled_state refl (record { next = refl; saw = refl });
              other = (marked_server, refl, record { next = refl; saw = refl });
              whole = refl;
            };
            other = record { next = refl; saw = refl };
            whole = refl;
          };
          whole = refl;
        },
      );
      other = record { next = refl; saw = refl };
      whole = refl;
    };
    other = record {
      mid = told_state;
      first = told_seen;
      second = [];
      one = record {
        mid = told_state;
        first = told_seen;
        second = [];
        one = goes_on marked_state told_state told_state told_seen told_seen [] (
          notice,
          record {
            mid = told_state;
            first = [];
            second = told_seen;
            one = (told_server, tells_it, record { next = refl; saw = refl });
            other = record { next = refl; saw = refl };
            whole = refl;
          },
        ) (is_done told_state [] told_state (told_server, then_quiet) (record { next = refl; saw = refl })) refl;
        other = (told_server, then_quiet, record { next = refl; saw = refl });
        whole = refl;
      };
      other = record {
        mid = told_state;
        first = [];
        second = [];
        one = is_done told_state [] told_state refl (record { next = refl; saw = refl });
        other = is_done told_state [] told_state refl (record { next = refl; saw = refl });
        whole = refl;
      };
      whole = refl;
    };
    whole = refl;
  };
  whole = refl;
}

abbrev told_world : List (Option ℕ) → WorldState
told_world uses =
    with_notifications polled_things (notifications_in second_step.other.mid second_step.other.second told_state second_step.other.other)
    (with_emissions (emitted_by things what.Tick [] registered_state second_step.other.first second_step.other.mid second_step.other.one)
    (record (watching_world uses) { server = told_server }))

abbrev told_ends : List (Option ℕ) → EndsState
told_ends uses = record { world = told_world uses; servient = told_state }

ticks : (uses : List (Option ℕ)) → ServientDoes things what.Tick [] (watching_ends uses) (told_ends uses)
ticks uses = record { seen = at_network (heard tick) ∷ at_handler poll ∷ told_seen; step = second_step; next = refl }

-- ---- the client takes the value, and acknowledges it

abbrev acknowledgement : List ℕ
acknowledgement = spelling (empty_message Ack 0)

abbrev value_news : Delivered
value_news = record { reply = Some (length acknowledgement); news = news.Value (record { ref_ptr = (0, 0); now = codes "true" }) }

abbrev told_client : List (Option ℕ) → ClientState
told_client uses = valued (at_moment 0 (watching_client uses)) 1

takes_value : (uses : List (Option ℕ)) → Delivers (at_moment 0 (watching_client uses)) server_place (spelling told) value_news acknowledgement acknowledgement (told_client uses)
takes_value uses = of_message told (record { bounds = told_bounds; bytes_are = refl })
    (record { within = omega arith; front = whole acknowledgement; rest = refl }) (1, refl, refl) refl

abbrev last_world : List (Option ℕ) → WorldState
last_world uses =
    with_sent (record (told_world uses) {
      client = told_client uses;
      ends = (told_world uses).ends ++ end_by (told_world uses).client.outstanding (told_client uses).outstanding (latest (told_world uses)) value_news.news;
      taken = (told_world uses).taken ++ taken_by (notification_for 0 1 1) value_news.news;
    }) client_place server_place other (take (length acknowledgement) acknowledgement ∷ [])

abbrev last_ends : List (Option ℕ) → EndsState
last_ends uses = record { world = last_world uses; servient = told_state }

value_arrives : (uses : List (Option ℕ)) → Arrives things (record { moment = 0; from = server_place; to = client_place; bytes = spelling told; purpose = notification_for 0 1 1 }) (told_ends uses) (last_ends uses)
value_arrives uses = to_client refl refl (record {
  does = record { told = value_news; old = acknowledgement; new = acknowledgement; after = told_client uses; delivers = takes_value uses; next = refl };
  same = refl;
})

takes_all : (uses : List (Option ℕ)) → slice_index_or uses 0 None ≡ None → TakesAll things observes_and_is_told (beginning uses) (last_ends uses)
takes_all uses unused = (
  asked_ends uses,
  record { does = asking uses unused; same = refl },
  (
    registered_ends uses,
    question_arrives uses,
    (watching_ends uses, reply_arrives uses, (told_ends uses, ticks uses, (last_ends uses, value_arrives uses, refl))),
  ),
)

pub some_value_is_taken : SomeValueIsTaken
some_value_is_taken s new =
    let run : (q : EndsState) × TakesAll things observes_and_is_told (beside things s) q × (q.world.emitted ≡ record { target = 0; text = codes "true" } ∷ [])
    × Contains q.world.taken (record { ask = 0; place = 1; payload = codes "true" })
    = subst (λ (t : ClientState). (q : EndsState) × TakesAll things observes_and_is_told (beside things t) q × (q.world.emitted ≡ record { target = 0; text = codes "true" } ∷ [])
    × Contains q.world.taken (record { ask = 0; place = 1; payload = codes "true" })) (sym (is_fresh s new))
    (last_ends s.uses, takes_all s.uses (new.unused 0), refl, (1, omega arith, refl)) in
    (starts things s new, run.0, run.1, run.2, run.3)
