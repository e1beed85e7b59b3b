-- An ask of a row that writes, and its entry: a block that was joined, or, for the last, an act on all of them.
use Rattle.std.proofs.Common.{◌≡◌, ◌≢◌, ℕ, ◌/◌, ◌∙◌, Bool, true, false, Some, List, length, inl, inr, refl, sym, ap, subst, arith}
use Rattle.std.specs.Prelude.{nat_lt, if◌then◌else◌}
use Rattle.std.proofs.lemmas.Option.{same_Some}
use Rattle.coap_msg.specs.declared.block.Block.{Block}
use Rattle.coap_msg.specs.Grammar.{CoapMessage}
use Rattle.coap_blocks.specs.Parts.{Origin, Arrival as BlockArrival}
use Rattle.coap_blocks.specs.declared.added.Added.{Added}
use Rattle.coap_blocks.specs.declared.added.Added.TheVariants as answer
use Rattle.coap_opts.specs.Reading.{AskSeen, asked as what_is_asked}
use Rattle.thing_ops.specs.declared.outcome.Outcome.{Outcome}
use Rattle.thing_ops.specs.declared.outcome.Outcome.TheVariants as outcome
use Rattle.thing_ops.specs.Outcomes.{payload_of}
use Rattle.coap_bind.specs.declared.blocks.BlockUse.TheVariants.{Joined}
use Rattle.coap_bind.specs.declared.blocks.BlockWish.TheVariants as wanted
use Rattle.coap_bind.specs.Blocks.{wanted_by_body, wanted_of, added_reply, block_reply, continue_reply, portion_of, most_bytes, reply_with, answer_reply}
use Rattle.coap_bind.specs.Observing.{observing_of}
use Rattle.coap_bind.specs.Server.{wanted_in, with_whole_body, block_arrival}
use Rattle.coap_bind.specs.Treating.{Acted}
use Rattle.coap_bind.specs.Writing.{Reply, long_reply, whole_reply}
use Rattle.servient_world.specs.World.{WorldState, client_place}
use Rattle.servient_world.specs.Led.{Led, to_parts, to_act_on_whole, LeadsTo, is_refused, finds_no_memory, gets_links, gets_no_links, gets_block, is_joined, is_acted_on, is_acted_on_whole}
use Rattle.servient_world.specs.Laws.{Asked}
use Rattle.servient_world.specs.Rows.{RowAsk, IsAnsweredSo, IsWrite, IsOfCodeAndPath, AsksWithBlock}
use Rattle.servient_world.proofs.BlockReplies.{incomplete_reply, large_reply, blocks_reply}
use Rattle.servient_world.proofs.Ledger.{IsEntry}
use Rattle.servient_world.proofs.Exact.{Exact}
use Rattle.servient_world.proofs.ReadEntries.{same_message}
use Rattle.servient_world.proofs.RowLaws.{EntryFor, entry_for, entry_at}

-- ---- an ask of the row and its entry

-- the origin of these blocks
abbrev pub origin_at : ℕ → List (List ℕ) → Origin
origin_at code path = record { from = client_place; code = code; path = path }

-- an ask with a block, with its entry
pub record WriteEntry (v : WorldState) (x : Exact v) (code : ℕ) (path : List (List ℕ)) (n : ℕ) (z : RowAsk) : Type 0 where
  pub asked : Asked v.asks z.ask
  pub for_it : EntryFor x.led z.ask z.code z.block z.payload
  pub is : IsEntry v.asks v.acts v.server.links for_it.entry
  pub message : is.message ≡ asked.message
  pub kind : IsOfCodeAndPath code path is.message
  pub block : Block
  pub block1 : (what_is_asked is.message).block1 ≡ Some block
  pub number : block.number ≡ n
  pub body : is.message.payload ≡ z.body

pub write_entry : (v : WorldState) (x : Exact v) (code : ℕ) (path : List (List ℕ)) (szx n : ℕ) (z : RowAsk) → AsksWithBlock v.asks code path szx n z.ask z.body → IsAnsweredSo v.ends z → z.code / 32 ≡ 2
    → WriteEntry v x code path n z
write_entry v x code path szx n z asks_it has success =
    let f = entry_for v x z.ask z.code z.block z.payload has (λ e. omega arith) in
    let e = entry_at v x f.place f.entry f.there in
    let same = same_message v z.ask asks_it.asked f.entry e f.ask in
    let at : (P : CoapMessage → Type 0) → P asks_it.asked.message → P e.message = λ P h. subst P (sym same) h in
    record {
      asked = asks_it.asked;
      for_it = f;
      is = e;
      message = same;
      kind = at (IsOfCodeAndPath code path) asks_it.is;
      block = asks_it.block;
      block1 = at (λ (m : CoapMessage). (what_is_asked m).block1 ≡ Some asks_it.block) asks_it.block1;
      number = asks_it.number;
      body = at (λ (m : CoapMessage). m.payload ≡ z.body) asks_it.body_is;
    }

wants_body : (code : ℕ) (a : AskSeen) (b : Block) → IsWrite code → a.block1 ≡ Some b → wanted_of code (observing_of code a.observe) a ≡ wanted.Joining b
wants_body code a b (inl put) is = ap (λ (c : ℕ). wanted_of c (observing_of c a.observe) a) put ∙ ap wanted_by_body is
wants_body code a b (inr post) is = ap (λ (c : ℕ). wanted_of c (observing_of c a.observe) a) post ∙ ap wanted_by_body is

write_wants : (v : WorldState) (x : Exact v) (code : ℕ) (path : List (List ℕ)) (n : ℕ) (z : RowAsk) → IsWrite code → (r : WriteEntry v x code path n z) → wanted_in r.is.message ≡ wanted.Joining r.block
write_wants v x code path n z write r = wants_body r.is.message.code (what_is_asked r.is.message) r.block (subst IsWrite (sym r.kind.0) write) r.block1

-- a block of this origin, with this number and this body
pub record IsBlockAt (code : ℕ) (path : List (List ℕ)) (n : ℕ) (body : List ℕ) (a : BlockArrival) : Type 0 where
  pub origin : a.origin ≡ origin_at code path
  pub number : a.block.number ≡ n
  pub payload : a.payload ≡ body

arrival_is : (v : WorldState) (x : Exact v) (code : ℕ) (path : List (List ℕ)) (n : ℕ) (z : RowAsk) (b : Block) → (r : WriteEntry v x code path n z) → b ≡ r.block → IsBlockAt code path n z.body (block_arrival client_place r.is.now r.is.message b)
arrival_is v x code path n z b r same = record {
  origin = ap (λ (c : ℕ). origin_made c (what_is_asked r.is.message).request.path) r.kind.0 ∙ ap (origin_at code) r.kind.1;
  number = ap (λ (y : Block). y.number) same ∙ r.number;
  payload = r.body;
}
  where
    origin_made : ℕ → List (List ℕ) → Origin
    origin_made c p = record { from = client_place; code = c; path = p }

-- ---- an ask that isn't the last

-- it led to a block that was joined, and others are awaited
pub record Continued (code : ℕ) (path : List (List ℕ)) (n : ℕ) (z : RowAsk) (led : Led) : Type 0 where
  pub arrival : BlockArrival
  pub led_is : led ≡ to_parts arrival answer.Continue
  pub is : IsBlockAt code path n z.body arrival

-- no act is answered so
act_code : (o : Outcome) → (whole_reply o).code ≡ 95 → ⊥
act_code (outcome.Content value tag) e = omega (arith, e)
act_code (outcome.NotModified tag) e = omega (arith, e)
act_code (outcome.Description text td) e = omega (arith, e)
act_code outcome.Empty e = omega (arith, e)
act_code outcome.Changed e = omega (arith, e)
act_code (outcome.Output value) e = omega (arith, e)
act_code (outcome.Started place status) e = omega (arith, e)
act_code outcome.Deleted e = omega (arith, e)
act_code (outcome.Created id) e = omega (arith, e)
act_code (outcome.Listed entries) e = omega (arith, e)
act_code (outcome.Wait slot) e = omega (arith, e)
act_code outcome.NotFound e = omega (arith, e)
act_code (outcome.NotAllowed allow) e = omega (arith, e)
act_code outcome.NotAcceptable e = omega (arith, e)
act_code outcome.Format e = omega (arith, e)
act_code outcome.BadValue e = omega (arith, e)
act_code outcome.TooLarge e = omega (arith, e)
act_code outcome.PreconditionFailed e = omega (arith, e)
act_code (outcome.Refused n) e = omega (arith, e)
act_code (outcome.DeviceFault n) e = omega (arith, e)
act_code outcome.BadAnswer e = omega (arith, e)
act_code outcome.InvocationsFull e = omega (arith, e)
act_code outcome.CallsUsed e = omega (arith, e)
act_code (outcome.Invalid n) e = omega (arith, e)
act_code outcome.IdDiffers e = omega (arith, e)
act_code outcome.HasId e = omega (arith, e)
act_code outcome.BadTtl e = omega (arith, e)
act_code outcome.DirectoryFull e = omega (arith, e)
act_code outcome.Memory e = omega (arith, e)

joined_code : (b : Block) (o : Outcome) → (answer_reply (Joined b) o).code ≡ 95 → ⊥
joined_code b o e = by_test (nat_lt (most_bytes (Joined b) o) (length (payload_of o))) e
  where
    by_test : (long : Bool) → (if long then long_reply else reply_with (portion_of (Joined b) o) o).code ≡ 95 → ⊥
    by_test true code = omega (arith, code)
    by_test false code = act_code o code

-- a block that was answered by 2.31 is joined, and others are awaited
added_code : (b : Block) (added : Added) (r : Reply) → added_reply b added ≡ Some r → r.code ≡ 95 → added ≡ answer.Continue
added_code b added r is code = by_answer added is
  where
    at : (y : Reply) → Some y ≡ Some r → y.code ≡ 95
    at y e = ap (λ (z : Reply). z.code) (same_Some y r e) ∙ code

    by_answer : (y : Added) → added_reply b y ≡ Some r → y ≡ answer.Continue
    by_answer answer.Continue e = refl
    by_answer (answer.Complete place) e = absurd cc
    by_answer answer.BadBlock e = absurd (let wrong = at block_reply e in omega (arith, wrong))
    by_answer answer.Incomplete e = absurd (let wrong = at incomplete_reply e in omega (arith, wrong))
    by_answer answer.TooLarge e = absurd (let wrong = at large_reply e in omega (arith, wrong))
    by_answer answer.Full e = absurd (let wrong = at blocks_reply e in omega (arith, wrong))

pub continued : (v : WorldState) (x : Exact v) (code : ℕ) (path : List (List ℕ)) (n : ℕ) (z : RowAsk) → IsWrite code → (r : WriteEntry v x code path n z) → z.code ≡ 95 → Continued code path n z r.for_it.entry.led
continued v x code path n z write r code_is = by_reason r.is.leads
  where
    wants : wanted_in r.is.message ≡ wanted.Joining r.block
    wants = write_wants v x code path n z write r

    says : r.for_it.entry.reply.code ≡ 95
    says = sym r.for_it.code_is ∙ code_is

    by_reason : LeadsTo client_place r.is.now r.is.message v.server.links r.is.seen r.for_it.entry.led r.for_it.entry.reply → Continued code path n z r.for_it.entry.led
    by_reason (is_refused some same) = absurd (some r.is.is.options)
    by_reason (finds_no_memory same is) = absurd (let wrong : 163 ≡ 95 = sym (ap (λ (y : Reply). y.code) is) ∙ says in omega (arith, wrong))
    by_reason (gets_links act links_it same is) = absurd (let wrong : wanted.Act ≡ wanted.Joining r.block = sym act ∙ wants in cc)
    by_reason (gets_no_links links_it same is) = absurd (let wrong : 133 ≡ 95 = sym (ap (λ (y : Reply). y.code) is) ∙ says in omega (arith, wrong))
    by_reason (gets_block b found other same is) = absurd (let wrong : wanted.LaterBlock b ≡ wanted.Joining r.block = sym other ∙ wants in cc)
    by_reason (is_acted_on a act apart same what code_fits place is) = absurd (let wrong : wanted.Act ≡ wanted.Joining r.block = sym act ∙ wants in cc)
    by_reason (is_acted_on_whole a b body other apart same what code_fits place is) = absurd (joined_code b a.outcome (sym (ap (λ (y : Reply). y.code) is) ∙ says))
    by_reason (is_joined b added other same is) =
        let both_same : wanted.Joining b ≡ wanted.Joining r.block = sym other ∙ wants in
        let one : b ≡ r.block = cc in
        let more = added_code b added r.for_it.entry.reply is says in
        let arrival : BlockArrival = block_arrival client_place r.is.now r.is.message b in
        record {
          arrival = arrival;
          led_is = same ∙ ap (to_parts arrival) more;
          is = arrival_is v x code path n z b r one;
        }

-- ---- the last ask

pub record Finished (v : WorldState) (x : Exact v) (code : ℕ) (path : List (List ℕ)) (n : ℕ) (z : RowAsk) (r : WriteEntry v x code path n z) : Type 0 where
  pub arrival : BlockArrival
  pub act : Acted
  pub led_is : r.for_it.entry.led ≡ to_act_on_whole arrival act
  pub is : IsBlockAt code path n z.body arrival
  pub body : List ℕ
  pub what : act.what ≡ with_whole_body body (what_is_asked r.is.message)

-- no refusal of a block is a success, and no other answer to it alone
added_success : (b : Block) (added : Added) (r : Reply) → added_reply b added ≡ Some r → r.code / 32 ≡ 2 → r.code ≡ 95
added_success b added r is success = by_answer added is
  where
    at : (y : Reply) → Some y ≡ Some r → y.code / 32 ≡ 2
    at y e = ap (λ (z : Reply). z.code / 32) (same_Some y r e) ∙ success

    by_answer : (y : Added) → added_reply b y ≡ Some r → r.code ≡ 95
    by_answer answer.Continue e = sym (ap (λ (z : Reply). z.code) (same_Some (continue_reply b) r e))
    by_answer (answer.Complete place) e = absurd cc
    by_answer answer.BadBlock e = absurd (let wrong = at block_reply e in omega (arith, wrong))
    by_answer answer.Incomplete e = absurd (let wrong = at incomplete_reply e in omega (arith, wrong))
    by_answer answer.TooLarge e = absurd (let wrong = at large_reply e in omega (arith, wrong))
    by_answer answer.Full e = absurd (let wrong = at blocks_reply e in omega (arith, wrong))

pub finished : (v : WorldState) (x : Exact v) (code : ℕ) (path : List (List ℕ)) (n : ℕ) (z : RowAsk) → IsWrite code → (r : WriteEntry v x code path n z) → z.code / 32 ≡ 2 → z.code ≢ 95 → Finished v x code path n z r
finished v x code path n z write r success other_code = by_reason r.is.leads
  where
    wants : wanted_in r.is.message ≡ wanted.Joining r.block
    wants = write_wants v x code path n z write r

    class : r.for_it.entry.reply.code / 32 ≡ 2
    class = ap (λ (c : ℕ). c / 32) (sym r.for_it.code_is) ∙ success

    by_reason : LeadsTo client_place r.is.now r.is.message v.server.links r.is.seen r.for_it.entry.led r.for_it.entry.reply → Finished v x code path n z r
    by_reason (is_refused some same) = absurd (some r.is.is.options)
    by_reason (finds_no_memory same is) = absurd (let wrong : 163 / 32 ≡ 2 = sym (ap (λ (y : Reply). y.code / 32) is) ∙ class in omega (arith, wrong))
    by_reason (gets_links act links_it same is) = absurd (let wrong : wanted.Act ≡ wanted.Joining r.block = sym act ∙ wants in cc)
    by_reason (gets_no_links links_it same is) = absurd (let wrong : 133 / 32 ≡ 2 = sym (ap (λ (y : Reply). y.code / 32) is) ∙ class in omega (arith, wrong))
    by_reason (gets_block b found other same is) = absurd (let wrong : wanted.LaterBlock b ≡ wanted.Joining r.block = sym other ∙ wants in cc)
    by_reason (is_joined b added other same is) = absurd (other_code (r.for_it.code_is ∙ added_success b added r.for_it.entry.reply is class))
    by_reason (is_acted_on a act apart same what code_fits place is) = absurd (let wrong : wanted.Act ≡ wanted.Joining r.block = sym act ∙ wants in cc)
    by_reason (is_acted_on_whole a b body other apart same what code_fits place is) =
        let both_same : wanted.Joining b ≡ wanted.Joining r.block = sym other ∙ wants in
        let one : b ≡ r.block = cc in
        record {
          arrival = block_arrival client_place r.is.now r.is.message b;
          act = a;
          led_is = same;
          is = arrival_is v x code path n z b r one;
          body = body;
          what = what;
        }
