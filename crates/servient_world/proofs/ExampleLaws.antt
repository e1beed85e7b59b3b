-- Schedules in which an act is made and a value is taken.
use Rattle.std.proofs.Common.{◌≡◌, ℕ, ◌≤◌, Option, Some, None, List, [], ◌∷◌, ◌++◌, length, take, inl, inr, refl, sym, ap, subst, arith}
use Rattle.std.specs.Prelude.{slice_index_or}
use Rattle.std.specs.Int.{to_be_bytes, w64}
use Rattle.std.proofs.lemmas.List.{take_all}
use Rattle.std.proofs.lemmas.List.Elements.{All-nil}
use Rattle.coap_msg.specs.declared.message.RequestType.TheVariants.{Confirmable}
use Rattle.coap_msg.specs.Grammar.{CoapMessage, IsWellFormed, Spells, option_spelling, spelling}
use Rattle.coap_exchange.specs.Table.{Table, at_moment as later, with_exchange}
use Rattle.coap_observe.specs.declared.notice.Registered.TheVariants.{New}
use Rattle.coap_observe.specs.Watching.{Watching, newcomer}
use Rattle.thing_ops.specs.declared.outcome.Outcome.TheVariants as outcome
use Rattle.coap_opts.specs.Reading.{asked as what_is_asked}
use Rattle.coap_client.specs.declared.state.State.{State}
use Rattle.coap_client.specs.declared.news.News.TheVariants as news
use Rattle.coap_client.specs.declared.news.Delivered.{Delivered}
use Rattle.coap_client.specs.Asking.{message_for, MayAsk}
use Rattle.coap_client.specs.Names.{is_recent}
use Rattle.coap_client.specs.Exchange.{IsNew, at_moment, Asks, request_for, with_request, valued, Delivers, of_message}
use Rattle.coap_bind.specs.declared.server.Server.{Server}
use Rattle.coap_bind.specs.Observing.{registers}
use Rattle.coap_bind.specs.Writing.{Reply, reply_of, observed as observed_reply, coap_reply}
use Rattle.coap_bind.specs.Server.{start as nothing_came, arrival, asked, asks, pending_of, Hears, admitted, with_kept, with_id_used, with_observers, Answers}
use Rattle.coap_bind.specs.Treating.{Acted, Treats, acts}
use Rattle.servient_world.specs.World.{client_place, server_place, copy_of, reply_to, other, WorldState, IsStart, latest, end_by, taken_by, with_sent, ClientAsks, sends_ask, treated, Comes, to_client, to_server, PlaysAll}
use Rattle.servient_world.specs.Examples.{world_of, observe_root, ask_that_comes, ask_and_reply, SomeoneActs, SomeoneTakesAValue}

-- ---- datagrams

-- the token of a new client
abbrev first_token : List ℕ
first_token = to_be_bytes w64 0

abbrev question : CoapMessage
question = message_for observe_root 0 first_token

abbrev question_bytes : List ℕ
question_bytes = spelling question

-- the reply to it, which says no value yet, with the sequence number 0
abbrev first_reply : Reply
first_reply = observed_reply (Some 0) (reply_of outcome.Empty)

abbrev answer : CoapMessage
answer = coap_reply first_reply (record { kind = Confirmable; id = 0; token = first_token }) 0

abbrev answer_bytes : List ℕ
answer_bytes = spelling answer

question_length : length question_bytes ≡ 13
unfolding option_spelling
question_length = refl

question_taken : take (length question_bytes) question_bytes ≡ question_bytes
question_taken = take_all (length question_bytes) question_bytes (omega arith)

question_bounds : IsWellFormed question
question_bounds = record {
  code = omega arith;
  class = inl refl;
  id = omega arith;
  token = omega arith;
  options = (record { order = omega arith; number = omega arith; value = omega arith }, tt);
  empty = λ e. absurd (omega arith);
}

question_spells : Spells question (take (length question_bytes) question_bytes)
question_spells = record { bounds = question_bounds; bytes_are = question_taken }

answer_bounds : IsWellFormed answer
answer_bounds = record {
  code = omega arith;
  class = inr (inl refl);
  id = omega arith;
  token = omega arith;
  options = (record { order = omega arith; number = omega arith; value = omega arith }, tt);
  empty = λ e. absurd (omega arith);
}

-- ---- the sender

-- a new client
abbrev fresh : List (Option ℕ) → State
fresh uses = record { moment = 0; outstanding = None; observation = None; next_token = 0; next_id = 0; uses = uses }

is_fresh : (s : State) → IsNew 0 s → s ≡ fresh s.uses
is_fresh s new = λ i. record {
  moment = new.moment i;
  outstanding = new.outstanding i;
  observation = new.observation i;
  next_token = new.next_token i;
  next_id = new.next_id i;
  uses = s.uses;
}

starts : (s : State) → IsNew 0 s → IsStart 0 16 16 (world_of s)
starts s new = record { client = new; links = []; server = refl; asks = refl; sent = refl; acts = refl; emitted = refl; ids = refl; ends = refl; taken = refl }

abbrev asked_state : List (Option ℕ) → State
asked_state uses = with_request (fresh uses) server_place observe_root 0

abbrev asked_world : List (Option ℕ) → WorldState
asked_world uses =
    with_sent (record (world_of (fresh uses)) { client = asked_state uses; asks = request_for (fresh uses) server_place observe_root 0 ∷ [] })
    client_place server_place (copy_of 0) (take (length question_bytes) question_bytes ∷ [])

may_ask_it : MayAsk observe_root
may_ask_it = record { code = λ e. omega arith; class = omega arith; segments = All-nil (λ (segment : List ℕ). length segment ≤ 255); block1 = tt; block2 = tt }

asks_it : (uses : List (Option ℕ)) → slice_index_or uses 0 None ≡ None → Asks (fresh uses) server_place observe_root (length question_bytes) question_bytes question_bytes (asked_state uses)
asks_it uses unused = record {
  id = 0;
  alone = refl;
  next = record { ahead = 0; near = omega arith; id_is = refl; free = ap (is_recent 0) unused; passed = λ k below. absurd (omega arith) };
  written = record { within = omega arith; front = question_taken; rest = refl };
  after = refl;
}

asking_plays : (uses : List (Option ℕ)) → slice_index_or uses 0 None ≡ None → ClientAsks observe_root (world_of (fresh uses)) (asked_world uses)
unfolding asks_it
asking_plays uses unused = sends_ask (length question_bytes) question_bytes question_bytes (asked_state uses) may_ask_it (asks_it uses unused) refl

-- ---- the server acts on it

abbrev act_made : Acted
act_made = record { what = what_is_asked question; outcome = outcome.Empty; target = Some 0 }

abbrev first_table : Table
first_table = later 0 (nothing_came 16 16).exchanges

abbrev admitting : Server
admitting = record { exchanges = with_exchange (arrival client_place 0 question) 0 first_table; observers = (nothing_came 16 16).observers; next_id = 0; bodies = []; parts = []; links = [] }

abbrev watching : Watching
watching = record { capacity = 16; list = newcomer client_place first_token 0 ∷ [] }

abbrev answered_server : Server
answered_server = with_kept Confirmable 0 answer_bytes (with_id_used Confirmable (with_observers watching admitting))

abbrev answered_world : List (Option ℕ) → WorldState
answered_world uses =
    with_sent (record (asked_world uses) { server = answered_server; acts = record { ask = 0; acted = act_made } ∷ [] })
    server_place client_place (reply_to 0) (answer_bytes ∷ [])

hears_it : Hears client_place (take (length question_bytes) question_bytes) 0 (asked (what_is_asked question) (pending_of client_place 0 question 0)) (nothing_came 16 16) admitting
hears_it = admitted question 0 admitting (record {
  spells = question_spells;
  request = refl;
  meets = (refl, (omega arith, refl, refl));
  same_observers = refl;
  same_id = refl;
  same_bodies = refl;
  same_parts = refl;
  same_links = refl;
}) (asks refl refl refl refl refl)

answers_it : Answers (pending_of client_place 0 question 0) outcome.Empty (Some 0) answer_bytes admitting answered_server
answers_it = record {
  observe = Some 0;
  observers = watching;
  watches = registers 0 (New 0) refl (refl, omega arith, refl, refl) refl;
  replies = record { bytes_are = refl; after = refl };
}

treats_it : Treats client_place (take (length question_bytes) question_bytes) 0 (Some act_made) (answer_bytes ∷ []) (nothing_came 16 16) answered_server
treats_it = acts act_made (pending_of client_place 0 question 0) answer_bytes admitting hears_it refl tt answers_it refl refl

short_question : length (take (length question_bytes) question_bytes) ≤ 1280
short_question = let size = question_length in let same = ap length question_taken in omega arith

acting_plays : (uses : List (Option ℕ)) → Comes (record { moment = 0; from = client_place; to = server_place; bytes = take (length question_bytes) question_bytes; purpose = copy_of 0 }) (asked_world uses) (answered_world uses)
acting_plays uses = to_server refl refl (record { act = Some act_made; back = answer_bytes ∷ []; after = answered_server; receives = treated short_question treats_it; next = refl })

-- ---- the client takes the value of the reply

abbrev told_value : Delivered
told_value = record { reply = None; news = news.Value (record { ref_ptr = (0, 0); now = [] }) }

abbrev valued_state : List (Option ℕ) → State
valued_state uses = valued (at_moment 0 (asked_state uses)) 0

delivers_it : (uses : List (Option ℕ)) → Delivers (at_moment 0 (asked_state uses)) server_place answer_bytes told_value [] [] (valued_state uses)
delivers_it uses = of_message answer (record { bounds = answer_bounds; bytes_are = refl }) refl (0, refl, refl) refl

abbrev valued_world : List (Option ℕ) → WorldState
valued_world uses =
    with_sent (record (answered_world uses) {
      client = valued_state uses;
      ends = (answered_world uses).ends ++ end_by (answered_world uses).client.outstanding (valued_state uses).outstanding (latest (answered_world uses)) told_value.news;
      taken = (answered_world uses).taken ++ taken_by (reply_to 0) told_value.news;
    }) client_place server_place other []

taking_plays : (uses : List (Option ℕ)) → Comes (record { moment = 0; from = server_place; to = client_place; bytes = answer_bytes; purpose = reply_to 0 }) (answered_world uses) (valued_world uses)
taking_plays uses = to_client refl refl (record { told = told_value; old = []; new = []; after = valued_state uses; delivers = delivers_it uses; next = refl })

-- ---- both

acted_run : (uses : List (Option ℕ)) → slice_index_or uses 0 None ≡ None → (v : WorldState) × PlaysAll ask_that_comes (world_of (fresh uses)) v × (length v.acts ≡ 1)
acted_run uses unused = (answered_world uses, (asked_world uses, asking_plays uses unused, (answered_world uses, acting_plays uses, refl)), refl)

taken_run : (uses : List (Option ℕ)) → slice_index_or uses 0 None ≡ None → (v : WorldState) × PlaysAll ask_and_reply (world_of (fresh uses)) v × (length v.taken ≡ 1)
taken_run uses unused =
    (valued_world uses, (asked_world uses, asking_plays uses unused, (answered_world uses, acting_plays uses, (valued_world uses, taking_plays uses, refl))), refl)

pub someone_acts : SomeoneActs
someone_acts s new =
    let run : (v : WorldState) × PlaysAll ask_that_comes (world_of s) v × (length v.acts ≡ 1)
    = subst (λ (t : State). (v : WorldState) × PlaysAll ask_that_comes (world_of t) v × (length v.acts ≡ 1)) (sym (is_fresh s new)) (acted_run s.uses (new.unused 0)) in
    (starts s new, run.0, run.1, run.2)

pub someone_takes_a_value : SomeoneTakesAValue
someone_takes_a_value s new =
    let run : (v : WorldState) × PlaysAll ask_and_reply (world_of s) v × (length v.taken ≡ 1)
    = subst (λ (t : State). (v : WorldState) × PlaysAll ask_and_reply (world_of t) v × (length v.taken ≡ 1)) (sym (is_fresh s new)) (taken_run s.uses (new.unused 0)) in
    (starts s new, run.0, run.1, run.2)
