-- A schedule in which the servient acts.
use Rattle.std.proofs.Common.{◌≡◌, ℕ, ◌≤◌, ◌+◌, Option, None, List, [], ◌∷◌, length, take, inl, inr, refl, sym, ap, subst, arith}
use Rattle.std.specs.Prelude.{slice_index_or}
use Rattle.std.specs.Int.{to_be_bytes, w64}
use Rattle.std.proofs.lemmas.List.{take_all}
use Rattle.std.proofs.lemmas.List.Elements.{All-nil}
use Rattle.servient_base.specs.Moves.{is_done}
use Rattle.coap_msg.specs.declared.message.RequestType.TheVariants.{Confirmable}
use Rattle.coap_msg.specs.Grammar.{CoapMessage, IsWellFormed, Spells, option_spelling, spelling}
use Rattle.coap_exchange.specs.Table.{Table, at_moment as later, with_exchange}
use Rattle.coap_observe.specs.Watching.{nobody, nothing}
use Rattle.thing_ops.specs.declared.outcome.Outcome.TheVariants as outcome
use Rattle.thing_state.specs.State.{State as ThingState}
use Rattle.thing_core.specs.Thing.{only, Acts, refuses}
use Rattle.coap_opts.specs.Reading.{asked as what_is_asked}
use Rattle.coap_client.specs.declared.state.State.{State as ClientState}
use Rattle.coap_client.specs.Asking.{message_for, MayAsk}
use Rattle.coap_client.specs.Names.{is_recent}
use Rattle.coap_client.specs.Exchange.{IsNew, Asks, request_for, with_request}
use Rattle.coap_bind.specs.declared.server.Server.{Server}
use Rattle.coap_bind.specs.Observing.{leaves}
use Rattle.coap_bind.specs.Writing.{reply_of, coap_reply}
use Rattle.coap_bind.specs.Server.{start as nothing_came, arrival, asked, asks, pending_of, Hears, admitted, with_kept, with_id_used, Answers, SendsNext}
use Rattle.servient_outside.specs.declared.net.What.TheVariants as what
use Rattle.servient_outside.specs.declared.net.EventWithBytes.{EventWithBytes}
use Rattle.servient_outside.specs.declared.net.Act.TheVariants as act
use Rattle.servient_outside.specs.Network.{heard, did}
use Rattle.servient_core.specs.declared.capacity.TheConstants.{MOST_WATCHERS}
use Rattle.servient_trace.specs.Trace.{Sighting, at_network}
use Rattle.servient_core.specs.Links.{segments_of, text_of_links}
use Rattle.servient_core.specs.Machine.{Site, State, start, EventAndStep}
use Rattle.servient_world.specs.World.{client_place, server_place, copy_of, reply_to, WorldState, acts_for, id_used, with_sent, ClientAsks, sends_ask}
use Rattle.servient_ends.specs.Ends.{EndsState, IsBeginning, act_of, back_of, emitted_by_datagram, notifications_in, with_emissions, with_notifications, event_at, ServientHears, Arrives, to_servient, TakesAll}
use Rattle.servient_ends.specs.Examples.{of_things, beside, get_root, ask_that_comes, SomeServientActs}

-- ---- what is sent

-- the token of a new client
abbrev first_token : List ℕ
first_token = to_be_bytes w64 0

abbrev question : CoapMessage
question = message_for get_root 0 first_token

abbrev question_bytes : List ℕ
question_bytes = spelling question

-- as it is sent
abbrev sent_bytes : List ℕ
sent_bytes = take (length question_bytes) question_bytes

abbrev answer_bytes : List ℕ
answer_bytes = spelling (coap_reply (reply_of outcome.NotFound) (record { kind = Confirmable; id = 0; token = first_token }) 0)

question_length : length question_bytes ≡ 12
unfolding option_spelling
question_length = refl

question_taken : sent_bytes ≡ question_bytes
question_taken = take_all (length question_bytes) question_bytes (omega arith)

question_bounds : IsWellFormed question
question_bounds = record {
  code = omega arith;
  class = inl refl;
  id = omega arith;
  token = omega arith;
  options = tt;
  empty = λ e. absurd (omega arith);
}

question_spells : Spells question sent_bytes
question_spells = record { bounds = question_bounds; bytes_are = question_taken }

short_question : length sent_bytes ≤ 1280
short_question = let size = question_length in let same = ap length question_taken in omega arith

-- ---- who sends it

-- a new client
abbrev pub fresh : List (Option ℕ) → ClientState
fresh uses = record { moment = 0; outstanding = None; observation = None; next_token = 0; next_id = 0; uses = uses }

pub is_fresh : (s : ClientState) → IsNew 0 s → s ≡ fresh s.uses
is_fresh s new = λ i. record {
  moment = new.moment i;
  outstanding = new.outstanding i;
  observation = new.observation i;
  next_token = new.next_token i;
  next_id = new.next_id i;
  uses = s.uses;
}

pub starts : (site : Site) (s : ClientState) → IsNew 0 s → IsBeginning site 0 16 (beside site s)
starts site s new = record {
  world = record { client = new; links = text_of_links (segments_of site); server = refl; asks = refl; sent = refl; acts = refl; emitted = refl; ids = refl; ends = refl; taken = refl };
  server = refl;
  epoch = None;
  servient = refl;
}

abbrev asked_state : List (Option ℕ) → ClientState
asked_state uses = with_request (fresh uses) server_place get_root 0

abbrev asked_world : List (Option ℕ) → WorldState
asked_world uses =
    with_sent (record (beside (of_things []) (fresh uses)).world { client = asked_state uses; asks = request_for (fresh uses) server_place get_root 0 ∷ [] })
    client_place server_place (copy_of 0) (sent_bytes ∷ [])

may_ask_it : MayAsk get_root
may_ask_it = record { code = λ e. omega arith; class = omega arith; segments = All-nil (λ (segment : List ℕ). length segment ≤ 255); block1 = tt; block2 = tt }

asks_it : (uses : List (Option ℕ)) → slice_index_or uses 0 None ≡ None → Asks (fresh uses) server_place get_root (length question_bytes) question_bytes question_bytes (asked_state uses)
asks_it uses unused = record {
  id = 0;
  alone = refl;
  next = record { ahead = 0; near = omega arith; id_is = refl; free = ap (is_recent 0) unused; passed = λ k below. absurd (omega arith) };
  written = record { within = omega arith; front = question_taken; rest = refl };
  after = refl;
}

asking_plays : (uses : List (Option ℕ)) → slice_index_or uses 0 None ≡ None → ClientAsks get_root (beside (of_things []) (fresh uses)).world (asked_world uses)
unfolding asks_it
asking_plays uses unused = sends_ask (length question_bytes) question_bytes question_bytes (asked_state uses) may_ask_it (asks_it uses unused) refl

-- ---- the servient acts on it

abbrev first_table : Table
first_table = later 0 (nothing_came 16 MOST_WATCHERS).exchanges

abbrev admitting : Server
admitting = record { exchanges = with_exchange (arrival client_place 0 question) 0 first_table; observers = (nothing_came 16 MOST_WATCHERS).observers; next_id = 0; bodies = []; parts = []; links = [] }

abbrev answered_server : Server
answered_server = with_kept Confirmable 0 answer_bytes (with_id_used Confirmable admitting)

hears_it : Hears client_place sent_bytes 0 (asked (what_is_asked question) (pending_of client_place 0 question 0)) (nothing_came 16 MOST_WATCHERS) admitting
hears_it = admitted question 0 admitting (record {
  spells = question_spells;
  request = refl;
  meets = (refl, (omega arith, refl, refl));
  same_observers = refl;
  same_id = refl;
  same_bodies = refl;
  same_parts = refl;
  same_links = refl;
}) (asks refl refl refl refl refl)

answers_it : Answers (pending_of client_place 0 question 0) outcome.NotFound None answer_bytes admitting answered_server
answers_it = record {
  observe = None;
  observers = (nothing_came 16 MOST_WATCHERS).observers;
  watches = leaves refl refl refl;
  replies = record { bytes_are = refl; after = refl };
}

abbrev things : ThingState
things = (start (of_things []) 16 None).thing

-- nothing is there
acts_on_it : Acts (of_things []) (what_is_asked question).request (only outcome.NotFound) things [] things
acts_on_it = refuses outcome.NotFound (inl (refl, refl)) (refl, record { next = refl; saw = refl })

sends_nothing : SendsNext 0 None answered_server answered_server
sends_nothing = record { observers = answered_server.observers; notifies = record { left = []; gives_up = nobody [] [] refl refl; sends = nothing [] refl refl refl }; capacity = refl; after = refl }

abbrev it_comes : EventWithBytes
it_comes = event_at 0 (what.Datagram client_place (length sent_bytes)) sent_bytes

abbrev reply_seen : List Sighting
reply_seen = at_network (did (act.Datagram client_place answer_bytes)) ∷ []

abbrev heard_state : State
heard_state = record (start (of_things []) 16 None) { coap = admitting }

abbrev answered_state : State
answered_state = record (start (of_things []) 16 None) { coap = answered_server }

abbrev the_step : EventAndStep (of_things []) it_comes (start (of_things []) 16 None) (at_network (heard it_comes) ∷ reply_seen) answered_state
the_step = record {
  mid = start (of_things []) 16 None;
  first = at_network (heard it_comes) ∷ [];
  second = reply_seen;
  one = record { next = refl; saw = refl };
  other = record {
    mid = answered_state;
    first = reply_seen;
    second = [];
    one = inr (
      short_question,
      (
        asked (what_is_asked question) (pending_of client_place 0 question 0),
        record {
          mid = heard_state;
          first = [];
          second = reply_seen;
          one = (admitting, hears_it, record { next = refl; saw = refl });
          other = (
            only outcome.NotFound,
            record {
              mid = heard_state;
              first = [];
              second = reply_seen;
              one = (things, [], acts_on_it, record { next = refl; saw = refl });
              other = record {
                mid = answered_state;
                first = reply_seen;
                second = [];
                one = (
                  answer_bytes,
                  record {
                    mid = answered_state;
                    first = [];
                    second = reply_seen;
                    one = (answered_server, answers_it, record { next = refl; saw = refl });
                    other = record { next = refl; saw = refl };
                    whole = refl;
                  },
                );
                other = record { next = refl; saw = refl };
                whole = refl;
              };
              whole = refl;
            },
          );
          whole = refl;
        },
      ),
    );
    other = record {
      mid = answered_state;
      first = [];
      second = [];
      one = record {
        mid = answered_state;
        first = [];
        second = [];
        one = is_done answered_state [] answered_state (answered_server, sends_nothing) (record { next = refl; saw = refl });
        other = (answered_server, sends_nothing, record { next = refl; saw = refl });
        whole = refl;
      };
      other = record {
        mid = answered_state;
        first = [];
        second = [];
        one = is_done answered_state [] answered_state refl (record { next = refl; saw = refl });
        other = is_done answered_state [] answered_state refl (record { next = refl; saw = refl });
        whole = refl;
      };
      whole = refl;
    };
    whole = refl;
  };
  whole = refl;
}

abbrev answered_world : List (Option ℕ) → WorldState
answered_world uses =
    with_notifications things (notifications_in the_step.other.mid the_step.other.second answered_state the_step.other.other)
    (with_emissions (emitted_by_datagram (of_things []) client_place sent_bytes (start (of_things []) 16 None) the_step.other.first the_step.other.mid the_step.other.one)
    (with_sent (record (asked_world uses) {
      server = answered_server;
      acts = acts_for (copy_of 0) (act_of (of_things []) client_place sent_bytes (start (of_things []) 16 None) the_step.other.first the_step.other.mid the_step.other.one);
      ids = 0 + id_used (start (of_things []) 16 None).coap the_step.other.mid.coap;
    }) server_place client_place (reply_to 0) (back_of (of_things []) client_place sent_bytes (start (of_things []) 16 None) the_step.other.first the_step.other.mid the_step.other.one)))

abbrev asked_ends : List (Option ℕ) → EndsState
asked_ends uses = record { world = asked_world uses; servient = start (of_things []) 16 None }

abbrev acted_ends : List (Option ℕ) → EndsState
acted_ends uses = record { world = answered_world uses; servient = answered_state }

hears_turn : (uses : List (Option ℕ)) → ServientHears (of_things []) client_place (length sent_bytes) sent_bytes (copy_of 0) (asked_ends uses) (acted_ends uses)
hears_turn uses = record { seen = at_network (heard it_comes) ∷ reply_seen; step = the_step; next = refl }

arrives : (uses : List (Option ℕ)) → Arrives (of_things []) (record { moment = 0; from = client_place; to = server_place; bytes = sent_bytes; purpose = copy_of 0 }) (asked_ends uses) (acted_ends uses)
arrives uses = to_servient refl refl (hears_turn uses)

acted_run : (uses : List (Option ℕ)) → slice_index_or uses 0 None ≡ None → (q : EndsState) × TakesAll (of_things []) ask_that_comes (beside (of_things []) (fresh uses)) q × (length q.world.acts ≡ 1)
acted_run uses unused = (acted_ends uses, (asked_ends uses, record { does = asking_plays uses unused; same = refl }, (acted_ends uses, arrives uses, refl)), refl)

pub some_servient_acts : SomeServientActs
some_servient_acts s new =
    let run : (q : EndsState) × TakesAll (of_things []) ask_that_comes (beside (of_things []) s) q × (length q.world.acts ≡ 1)
    = subst (λ (t : ClientState). (q : EndsState) × TakesAll (of_things []) ask_that_comes (beside (of_things []) t) q × (length q.world.acts ≡ 1)) (sym (is_fresh s new)) (acted_run s.uses (new.unused 0)) in
    (starts (of_things []) s new, run.0, run.1, run.2)
