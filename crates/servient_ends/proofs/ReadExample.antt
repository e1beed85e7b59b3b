-- A schedule in which a row of block-wise reads ends.
use Rattle.std.proofs.Common.{◌≡◌, ◌≤◌, ◌<◌, ℕ, zero, suc, Option, Some, None, true, false, List, [], ◌∷◌, ◌++◌, length, take, inl, inr, refl, sym, ap, subst, ◌∙◌, arith}
use Rattle.std.specs.Prelude.{slice_index_or, slice_set, codes, All, AllPairs}
use Rattle.coap_msg.specs.declared.constants.TheConstants.{LONGEST_SEGMENT}
use Rattle.std.specs.Int.{to_be_bytes, w64}
use Rattle.std.proofs.lemmas.List.{take_all, get_or-set_other}
use Rattle.std.proofs.lemmas.List.Elements.{All-nil, All-cons}
use Rattle.std.proofs.lemmas.List.Kept.{AllPairs-cons}
use Rattle.coap_msg.specs.declared.message.RequestType.TheVariants.{Confirmable}
use Rattle.coap_msg.specs.Grammar.{CoapMessage, IsWellFormed, option_spelling, spelling}
use Rattle.coap_exchange.specs.Table.{at_moment as later, with_exchange}
use Rattle.coap_observe.specs.Watching.{nobody, nothing}
use Rattle.coap_client.specs.declared.state.State.{State as ClientState}
use Rattle.coap_client.specs.declared.news.News.TheVariants as news
use Rattle.coap_client.specs.declared.news.Delivered.{Delivered}
use Rattle.coap_client.specs.Asking.{message_for, MayAsk}
use Rattle.coap_client.specs.Names.{is_recent}
use Rattle.coap_client.specs.Exchange.{at_moment, Asks, request_for, with_request, answered as answered_by, Delivers, of_message}
use Rattle.coap_opts.specs.Reading.{asked as what_is_asked}
use Rattle.coap_bind.specs.declared.server.Server.{Server}
use Rattle.coap_bind.specs.Blocks.{later_reply}
use Rattle.coap_bind.specs.Links.{links_content, links_reply}
use Rattle.coap_bind.specs.Writing.{Reply, coap_reply, head_of}
use Rattle.coap_bind.specs.Server.{arrival, Hears, admitted, gives_links, replied, later_block, with_kept, links_given, observing_in, answered_at_once, SendsNext}
use Rattle.servient_core.specs.Links.{segments_of, text_of_links}
use Rattle.servient_core.specs.Machine.{Site, State, start}
use Rattle.servient_world.specs.World.{client_place, server_place, copy_of, reply_to, other, WorldState, latest, end_by, taken_by, with_sent, ClientAsks, sends_ask}
use Rattle.servient_world.specs.Laws.{Asked}
use Rattle.servient_world.specs.Rows.{RowAsk, AreReads, AreInOrder, NoOther, IsOfPath}
use Rattle.coap_msg.specs.declared.block.Block.{Block}
use Rattle.servient_ends.specs.Ends.{EndsState, Arrives, to_client, to_servient, TakesAll}
use Rattle.servient_ends.specs.Examples.{of_things, beside, plain_thing, links_path, get_links, reads_in_two, first_read, last_read, SomeReadsEnd}
use Rattle.servient_ends.proofs.ExampleLaws.{fresh, is_fresh, starts}
use Rattle.servient_ends.proofs.AtOnce as once

abbrev things : Site
things = of_things (plain_thing ∷ [])

abbrev text : List ℕ
text = text_of_links (segments_of things)

-- ---- the datagrams

abbrev pub first_token : List ℕ
first_token = to_be_bytes w64 0

abbrev pub second_token : List ℕ
second_token = to_be_bytes w64 1

abbrev first_question : CoapMessage
first_question = message_for (get_links 0) 0 first_token

abbrev second_question : CoapMessage
second_question = message_for (get_links 1) 1 second_token

-- as they are sent
abbrev first_bytes : List ℕ
first_bytes = take (length (spelling first_question)) (spelling first_question)

abbrev second_bytes : List ℕ
second_bytes = take (length (spelling second_question)) (spelling second_question)

pub whole : (bytes : List ℕ) → take (length bytes) bytes ≡ bytes
whole bytes = take_all (length bytes) bytes (omega arith)

abbrev first_reply : Reply
first_reply = links_reply (Some 0) text

abbrev second_reply : Reply
second_reply = later_reply (record { number = 1; more = false; szx = 0 }) (Some (links_content text))

abbrev first_answer : CoapMessage
first_answer = coap_reply first_reply (head_of first_question) 0

abbrev second_answer : CoapMessage
second_answer = coap_reply second_reply (head_of second_question) 0

first_bounds : IsWellFormed first_question
first_bounds = record {
  code = omega arith;
  class = inl refl;
  id = omega arith;
  token = omega arith;
  options = (record { order = omega arith; number = omega arith; value = omega arith }, (record { order = omega arith; number = omega arith; value = omega arith }, (record { order = omega arith; number = omega arith; value = omega arith }, tt)));
  empty = λ e. absurd (omega arith);
}

second_bounds : IsWellFormed second_question
second_bounds = record {
  code = omega arith;
  class = inl refl;
  id = omega arith;
  token = omega arith;
  options = (record { order = omega arith; number = omega arith; value = omega arith }, (record { order = omega arith; number = omega arith; value = omega arith }, (record { order = omega arith; number = omega arith; value = omega arith }, tt)));
  empty = λ e. absurd (omega arith);
}

first_answer_bounds : IsWellFormed first_answer
first_answer_bounds = record {
  code = omega arith;
  class = inr (inl refl);
  id = omega arith;
  token = omega arith;
  options = (record { order = omega arith; number = omega arith; value = omega arith }, (record { order = omega arith; number = omega arith; value = omega arith }, tt));
  empty = λ e. absurd (omega arith);
}

second_answer_bounds : IsWellFormed second_answer
second_answer_bounds = record {
  code = omega arith;
  class = inr (inl refl);
  id = omega arith;
  token = omega arith;
  options = (record { order = omega arith; number = omega arith; value = omega arith }, (record { order = omega arith; number = omega arith; value = omega arith }, tt));
  empty = λ e. absurd (omega arith);
}

-- no datagram here is as long as one may be
pub short : (bytes : List ℕ) → length bytes ≤ 100 → length (take (length bytes) bytes) ≤ 1280
short bytes few = let same = ap length (whole bytes) in omega (arith, same, few)

first_length : length (spelling first_question) ≡ 30
unfolding option_spelling
first_length = refl

second_length : length (spelling second_question) ≡ 31
unfolding option_spelling
second_length = refl

-- ---- the client asks for the first block

abbrev beginning : List (Option ℕ) → EndsState
beginning uses = beside things (fresh uses)

abbrev first_asked : List (Option ℕ) → ClientState
first_asked uses = with_request (fresh uses) server_place (get_links 0) 0

abbrev first_world : List (Option ℕ) → WorldState
first_world uses =
    with_sent (record (beginning uses).world { client = first_asked uses; asks = request_for (fresh uses) server_place (get_links 0) 0 ∷ [] })
    client_place server_place (copy_of 0) (first_bytes ∷ [])

abbrev IsShort : List ℕ → Type 0
IsShort segment = length segment ≤ LONGEST_SEGMENT

short_path : All IsShort links_path
short_path = All-cons IsShort (codes ".well-known") (codes "core" ∷ []) (omega arith) (All-cons IsShort (codes "core") [] (omega arith) (All-nil IsShort))

may_ask_first : MayAsk (get_links 0)
may_ask_first = record { code = λ e. omega arith; class = omega arith; segments = short_path; block1 = tt; block2 = record { number = omega arith; szx = omega arith } }

asks_first : (uses : List (Option ℕ)) → slice_index_or uses 0 None ≡ None
    → Asks (fresh uses) server_place (get_links 0) (length (spelling first_question)) (spelling first_question) (spelling first_question) (first_asked uses)
asks_first uses unused = record {
  id = 0;
  alone = refl;
  next = record { ahead = 0; near = omega arith; id_is = refl; free = ap (is_recent 0) unused; passed = λ k below. absurd (omega arith) };
  written = record { within = omega arith; front = whole (spelling first_question); rest = refl };
  after = refl;
}

first_asking : (uses : List (Option ℕ)) → slice_index_or uses 0 None ≡ None → ClientAsks (get_links 0) (beginning uses).world (first_world uses)
unfolding asks_first
first_asking uses unused = sends_ask (length (spelling first_question)) (spelling first_question) (spelling first_question) (first_asked uses) may_ask_first (asks_first uses unused) refl

-- ---- the servient gives it

abbrev started : Server
started = (start things 16 None).coap

abbrev first_admitted : Server
first_admitted = record started { exchanges = with_exchange (arrival client_place 0 first_question) 0 (later 0 started.exchanges) }

abbrev first_given : Server
first_given = with_kept Confirmable 0 (spelling first_answer) (links_given client_place 0 first_token (observing_in first_question) (what_is_asked first_question) first_admitted)

hears_first : Hears client_place first_bytes 0 (answered_at_once (spelling first_answer)) started first_given
hears_first = admitted first_question 0 first_admitted (record {
  spells = record { bounds = first_bounds; bytes_are = whole (spelling first_question) };
  request = refl;
  meets = (refl, (omega arith, refl, refl));
  same_observers = refl;
  same_id = refl;
  same_bodies = refl;
  same_parts = refl;
  same_links = refl;
}) (gives_links (spelling first_answer) refl refl refl refl (record { bytes_are = refl; after = refl }) refl)

quiet_first : SendsNext 0 None first_given first_given
quiet_first = record { observers = first_given.observers; notifies = record { left = []; gives_up = nobody [] [] refl refl; sends = nothing [] refl refl refl }; capacity = refl; after = refl }

short_first : length first_bytes ≤ 1280
short_first = short (spelling first_question) (let size = first_length in omega (arith, size))

abbrev first_ends : List (Option ℕ) → EndsState
first_ends uses = record { world = first_world uses; servient = start things 16 None }

abbrev given_world : List (Option ℕ) → WorldState
given_world uses = once.world_after things started first_given first_bytes (spelling first_answer) short_first hears_first quiet_first 0 (first_world uses)

abbrev given_servient : State
given_servient = once.after things started first_given first_bytes (spelling first_answer) short_first hears_first quiet_first

abbrev given_ends : List (Option ℕ) → EndsState
given_ends uses = record { world = given_world uses; servient = given_servient }

first_arrives : (uses : List (Option ℕ)) → Arrives things (record { moment = 0; from = client_place; to = server_place; bytes = first_bytes; purpose = copy_of 0 }) (first_ends uses) (given_ends uses)
first_arrives uses = to_servient refl refl (once.answers_turn things started first_given first_bytes (spelling first_answer) short_first hears_first quiet_first 0 (first_world uses))

-- ---- the client takes it

abbrev told : CoapMessage → Block → Delivered
told answer block = record { reply = None; news = news.Answered 69 (Some block) (record { ref_ptr = (0, 0); now = answer.payload }) }

abbrev first_told : Delivered
first_told = told first_answer (record { number = 0; more = true; szx = 0 })

abbrev taken_state : List (Option ℕ) → ClientState
taken_state uses = answered_by (at_moment 0 (first_asked uses)) server_place first_token

takes_first : (uses : List (Option ℕ)) → Delivers (at_moment 0 (first_asked uses)) server_place (spelling first_answer) first_told [] [] (taken_state uses)
takes_first uses = of_message first_answer (record { bounds = first_answer_bounds; bytes_are = refl }) refl (refl, refl, refl, refl) refl

abbrev taken_world : List (Option ℕ) → WorldState
taken_world uses =
    with_sent (record (given_world uses) {
      client = taken_state uses;
      ends = (given_world uses).ends ++ end_by (given_world uses).client.outstanding (taken_state uses).outstanding (latest (given_world uses)) first_told.news;
      taken = (given_world uses).taken ++ taken_by (reply_to 0) first_told.news;
    }) client_place server_place other []

abbrev taken_ends : List (Option ℕ) → EndsState
taken_ends uses = record { world = taken_world uses; servient = given_servient }

first_comes_back : (uses : List (Option ℕ)) → Arrives things (record { moment = 0; from = server_place; to = client_place; bytes = spelling first_answer; purpose = reply_to 0 }) (given_ends uses) (taken_ends uses)
first_comes_back uses = to_client refl refl (record { does = record { told = first_told; old = []; new = []; after = taken_state uses; delivers = takes_first uses; next = refl }; same = refl })

-- ---- and asks for the second

abbrev second_asked : List (Option ℕ) → ClientState
second_asked uses = with_request (taken_state uses) server_place (get_links 1) 1

abbrev second_world : List (Option ℕ) → WorldState
second_world uses =
    with_sent (record (taken_world uses) { client = second_asked uses; asks = (taken_world uses).asks ++ request_for (taken_state uses) server_place (get_links 1) 1 ∷ [] })
    client_place server_place (copy_of 1) (second_bytes ∷ [])

may_ask_second : MayAsk (get_links 1)
may_ask_second = record { code = λ e. omega arith; class = omega arith; segments = short_path; block1 = tt; block2 = record { number = omega arith; szx = omega arith } }

second_unused : (uses : List (Option ℕ)) → slice_index_or uses 1 None ≡ None → slice_index_or (slice_set uses 0 (Some 0)) 1 None ≡ None
second_unused uses unused = get_or-set_other uses 0 1 (Some 0) None (λ e. omega (arith, e)) ∙ unused

asks_second : (uses : List (Option ℕ)) → slice_index_or uses 1 None ≡ None
    → Asks (taken_state uses) server_place (get_links 1) (length (spelling second_question)) (spelling second_question) (spelling second_question) (second_asked uses)
asks_second uses unused = record {
  id = 1;
  alone = refl;
  next = record { ahead = 0; near = omega arith; id_is = refl; free = ap (is_recent 0) (second_unused uses unused); passed = λ k below. absurd (omega arith) };
  written = record { within = omega arith; front = whole (spelling second_question); rest = refl };
  after = refl;
}

second_asking : (uses : List (Option ℕ)) → slice_index_or uses 1 None ≡ None → ClientAsks (get_links 1) (taken_world uses) (second_world uses)
unfolding asks_second
second_asking uses unused = sends_ask (length (spelling second_question)) (spelling second_question) (spelling second_question) (second_asked uses) may_ask_second (asks_second uses unused) refl

abbrev second_ends : List (Option ℕ) → EndsState
second_ends uses = record { world = second_world uses; servient = given_servient }

-- ---- the servient gives it of the text that it kept

abbrev second_admitted : Server
second_admitted = record first_given { exchanges = with_exchange (arrival client_place 0 second_question) 1 (later 0 first_given.exchanges) }

abbrev second_given : Server
second_given = with_kept Confirmable 1 (spelling second_answer) second_admitted

hears_second : Hears client_place second_bytes 0 (answered_at_once (spelling second_answer)) first_given second_given
hears_second = admitted second_question 1 second_admitted (record {
  spells = record { bounds = second_bounds; bytes_are = whole (spelling second_question) };
  request = refl;
  meets = (refl, (omega arith, refl, refl));
  same_observers = refl;
  same_id = refl;
  same_bodies = refl;
  same_parts = refl;
  same_links = refl;
}) (replied second_reply [] (spelling second_answer) (later_block (record { number = 1; more = false; szx = 0 }) refl refl refl refl) (record { bytes_are = refl; after = refl }) refl)

quiet_second : SendsNext 0 None second_given second_given
quiet_second = record { observers = second_given.observers; notifies = record { left = []; gives_up = nobody [] [] refl refl; sends = nothing [] refl refl refl }; capacity = refl; after = refl }

short_second : length second_bytes ≤ 1280
short_second = short (spelling second_question) (let size = second_length in omega (arith, size))

abbrev last_world : List (Option ℕ) → WorldState
last_world uses = once.world_after things first_given second_given second_bytes (spelling second_answer) short_second hears_second quiet_second 1 (second_world uses)

abbrev last_servient : State
last_servient = once.after things first_given second_given second_bytes (spelling second_answer) short_second hears_second quiet_second

abbrev last_ends : List (Option ℕ) → EndsState
last_ends uses = record { world = last_world uses; servient = last_servient }

second_arrives : (uses : List (Option ℕ)) → Arrives things (record { moment = 0; from = client_place; to = server_place; bytes = second_bytes; purpose = copy_of 1 }) (second_ends uses) (last_ends uses)
second_arrives uses = to_servient refl refl (once.answers_turn things first_given second_given second_bytes (spelling second_answer) short_second hears_second quiet_second 1 (second_world uses))

-- ---- and the client takes that

abbrev second_told : Delivered
second_told = told second_answer (record { number = 1; more = false; szx = 0 })

abbrev done_state : List (Option ℕ) → ClientState
done_state uses = answered_by (at_moment 0 (second_asked uses)) server_place second_token

takes_second : (uses : List (Option ℕ)) → Delivers (at_moment 0 (second_asked uses)) server_place (spelling second_answer) second_told [] [] (done_state uses)
takes_second uses = of_message second_answer (record { bounds = second_answer_bounds; bytes_are = refl }) refl (refl, refl, refl, refl) refl

abbrev done_world : List (Option ℕ) → WorldState
done_world uses =
    with_sent (record (last_world uses) {
      client = done_state uses;
      ends = (last_world uses).ends ++ end_by (last_world uses).client.outstanding (done_state uses).outstanding (latest (last_world uses)) second_told.news;
      taken = (last_world uses).taken ++ taken_by (reply_to 1) second_told.news;
    }) client_place server_place other []

abbrev done_ends : List (Option ℕ) → EndsState
done_ends uses = record { world = done_world uses; servient = last_servient }

second_comes_back : (uses : List (Option ℕ)) → Arrives things (record { moment = 0; from = server_place; to = client_place; bytes = spelling second_answer; purpose = reply_to 1 }) (last_ends uses) (done_ends uses)
second_comes_back uses = to_client refl refl (record { does = record { told = second_told; old = []; new = []; after = done_state uses; delivers = takes_second uses; next = refl }; same = refl })

-- ---- the row

takes_all : (uses : List (Option ℕ)) → slice_index_or uses 0 None ≡ None → slice_index_or uses 1 None ≡ None → TakesAll things reads_in_two (beginning uses) (done_ends uses)
takes_all uses one two = (
  first_ends uses,
  record { does = first_asking uses one; same = refl },
  (
    given_ends uses,
    first_arrives uses,
    (
      taken_ends uses,
      first_comes_back uses,
      (second_ends uses, record { does = second_asking uses two; same = refl }, (last_ends uses, second_arrives uses, (done_ends uses, second_comes_back uses, refl))),
    ),
  ),
)

first_is_asked : (uses : List (Option ℕ)) → Asked (done_world uses).asks 0
first_is_asked uses = record { request = request_for (fresh uses) server_place (get_links 0) 0; ask = refl; message = first_question; spells = record { bounds = first_bounds; bytes_are = refl } }

second_is_asked : (uses : List (Option ℕ)) → Asked (done_world uses).asks 1
second_is_asked uses = record { request = request_for (taken_state uses) server_place (get_links 1) 1; ask = refl; message = second_question; spells = record { bounds = second_bounds; bytes_are = refl } }

are_reads : (uses : List (Option ℕ)) → AreReads (done_world uses).asks (done_world uses).ends links_path 0 0 (first_read ∷ last_read ∷ [])
unfolding first_is_asked second_is_asked
are_reads uses = (
  record { asked = first_is_asked uses; code = refl; observe = refl; path_is = refl; block = record { number = 0; more = false; szx = 0 }; block2 = refl; number = refl; size = refl },
  (0, omega arith, refl),
  refl,
  refl,
  (
    record { asked = second_is_asked uses; code = refl; observe = refl; path_is = refl; block = record { number = 1; more = false; szx = 0 }; block2 = refl; number = refl; size = refl },
    (1, omega arith, refl),
    refl,
    tt,
    tt,
  ),
)

abbrev IsBefore : RowAsk → RowAsk → Type 0
IsBefore x y = x.ask < y.ask

no_pairs : AllPairs IsBefore []
no_pairs = λ i j d before within. absurd (omega (arith, within))

in_order : AreInOrder (first_read ∷ last_read ∷ [])
in_order =
    AllPairs-cons IsBefore first_read (last_read ∷ []) (All-cons (IsBefore first_read) last_read [] (omega arith) (All-nil (IsBefore first_read)))
    (AllPairs-cons IsBefore last_read [] (All-nil (IsBefore last_read)) no_pairs)

no_other : (uses : List (Option ℕ)) → NoOther (done_world uses).asks (IsOfPath links_path) first_read (last_read ∷ [])
no_other uses zero asked first is before found = inl (0, omega arith, refl)
no_other uses (suc k) asked first is before found = absurd (omega (arith, before))

pub some_reads_end : SomeReadsEnd
some_reads_end s new =
    let run : (q : EndsState) × TakesAll things reads_in_two (beside things s) q × AreReads q.world.asks q.world.ends links_path 0 0 (first_read ∷ last_read ∷ []) × AreInOrder (first_read ∷ last_read ∷ []) × NoOther q.world.asks (IsOfPath links_path) first_read (last_read ∷ [])
    = subst (λ (t : ClientState). (q : EndsState) × TakesAll things reads_in_two (beside things t) q × AreReads q.world.asks q.world.ends links_path 0 0 (first_read ∷ last_read ∷ []) × AreInOrder (first_read ∷ last_read ∷ []) × NoOther q.world.asks (IsOfPath links_path) first_read (last_read ∷ []))
    (sym (is_fresh s new)) (done_ends s.uses, takes_all s.uses (new.unused 0) (new.unused 1), are_reads s.uses, in_order, no_other s.uses) in
    (starts things s new, run.0, run.1, run.2, run.3, run.4)
