-- An ask of a row that reads, its entry, and the entries between the first of them and a later one.
use Rattle.std.proofs.Common.{◌≡◌, ◌≢◌, ℕ, zero, suc, ◌+◌, ◌<◌, ◌≤◌, ◌∙◌, ◌&&◌, Bool, true, false, Option, Some, None, List, take, length, option_map, inl, inr, refl, sym, ap, subst, arith}
use Rattle.std.specs.Prelude.{◌==◌, Contains, slice_get, IfSome, if◌then◌else◌}
use Rattle.std.proofs.lemmas.Bool.Decides.{nat_tests}
use Rattle.std.proofs.lemmas.Option.{slice_get_cases}
use Rattle.coap_msg.specs.declared.block.Block.{Block}
use Rattle.coap_msg.specs.declared.constants.TheConstants.{GET}
use Rattle.coap_msg.specs.Blocks.{IsBlock}
use Rattle.coap_msg.specs.Grammar.{CoapMessage, Spells}
use Rattle.coap_msg.proofs.Messages.{at_most_one_message}
use Rattle.coap_client.specs.declared.outstanding.Outstanding.{Outstanding}
use Rattle.coap_client.specs.Answers.{block2_of as block_said}
use Rattle.coap_blocks.specs.Bodies.{Content}
use Rattle.coap_blocks.specs.Paths.{is_same_path}
use Rattle.coap_blocks.proofs.Paths.{same_path, path_itself}
use Rattle.coap_opts.specs.Reading.{AskSeen, verb_of, asked as what_is_asked}
use Rattle.thing_ops.specs.Outcomes.{payload_of}
use Rattle.coap_bind.specs.declared.blocks.BlockUse.{BlockUse}
use Rattle.coap_bind.specs.declared.blocks.BlockUse.TheVariants as blocks
use Rattle.coap_bind.specs.declared.blocks.BlockWish.TheVariants as wanted
use Rattle.coap_bind.specs.Blocks.{wanted_by_get, wanted_of, use_of, outcome_content, is_kept, answer_reply}
use Rattle.coap_bind.specs.Links.{is_links_path, size_asked, links_reply}
use Rattle.coap_bind.specs.Observing.{observing_at, observing_of}
use Rattle.coap_bind.specs.Server.{observing_in, wanted_in}
use Rattle.coap_bind.specs.Treating.{Acted}
use Rattle.coap_bind.specs.Writing.{Reply, reply_options, observed as observed_reply}
use Rattle.servient_world.specs.World.{Act, WorldState, client_place}
use Rattle.servient_world.specs.Led.{Led, to_refusal, to_no_memory, to_links, to_later_block, to_parts, to_act, to_act_on_whole, act_in, LeadsTo, is_refused, finds_no_memory, gets_links, gets_no_links, gets_block, is_joined, is_acted_on, is_acted_on_whole}
use Rattle.servient_world.specs.Laws.{Asked, blocks_by, blocks_for}
use Rattle.servient_world.specs.Rows.{RowAsk, IsAnsweredSo, AsksForBlock, says_more}
use Rattle.servient_world.proofs.Places.{at_same, take_next}
use Rattle.servient_world.proofs.Holds.{is_equal}
use Rattle.servient_world.proofs.BlockReplies.{observed_block}
use Rattle.servient_world.proofs.Ledger.{Entry, IsEntry, given_at, given_by, given_to, given_push}
use Rattle.servient_world.proofs.Exact.{Exact}
use Rattle.servient_world.proofs.ReadTexts.{FirstOf, give, act_first, links_first}
use Rattle.servient_world.proofs.RowLaws.{plus_none, plus_next, EntryFor, entry_for, entry_at}

-- ---- an ask of the row and its entry

-- the message of an entry is that of its ask
pub same_message : (v : WorldState) (k : ℕ) (a : Asked v.asks k) (y : Entry) → (e : IsEntry v.asks v.acts v.server.links y) → y.ask ≡ k → e.message ≡ a.message
same_message v k a y e same =
    let one : e.request ≡ a.request = at_same v.asks k e.request a.request (subst (λ (n : ℕ). slice_get v.asks n ≡ Some e.request) same e.ask) a.ask in
    at_most_one_message e.message a.message a.request.sent (subst (λ (o : Outstanding). Spells e.message o.sent) one e.is.message.spells) a.spells

-- an ask for a block, with its entry
pub record ReadEntry (v : WorldState) (x : Exact v) (path : List (List ℕ)) (szx n : ℕ) (z : RowAsk) : Type 0 where
  pub for_it : EntryFor x.led z.ask z.code z.block z.payload
  pub is : IsEntry v.asks v.acts v.server.links for_it.entry
  pub code : is.message.code ≡ GET
  pub observe : (what_is_asked is.message).observe ≡ None
  pub path_is : (what_is_asked is.message).request.path ≡ path
  pub block : Block
  pub block2 : (what_is_asked is.message).block2 ≡ Some block
  pub number : block.number ≡ n
  pub size : block.szx ≡ szx
  pub fits : IsBlock block
  pub two_five : for_it.entry.reply.code ≡ 69

pub read_entry : (v : WorldState) (x : Exact v) (path : List (List ℕ)) (szx n : ℕ) (z : RowAsk) → AsksForBlock v.asks path szx n z.ask → IsAnsweredSo v.ends z → z.code ≡ 69 → ReadEntry v x path szx n z
read_entry v x path szx n z asks_it has code_is =
    let f = entry_for v x z.ask z.code z.block z.payload has (λ e. omega arith) in
    let e = entry_at v x f.place f.entry f.there in
    let same = same_message v z.ask asks_it.asked f.entry e f.ask in
    let at : (P : CoapMessage → Type 0) → P asks_it.asked.message → P e.message = λ P h. subst P (sym same) h in
    let block2 : (what_is_asked e.message).block2 ≡ Some asks_it.block = at (λ (m : CoapMessage). (what_is_asked m).block2 ≡ Some asks_it.block) asks_it.block2 in
    record {
      for_it = f;
      is = e;
      code = at (λ (m : CoapMessage). m.code ≡ GET) asks_it.code;
      observe = at (λ (m : CoapMessage). (what_is_asked m).observe ≡ None) asks_it.observe;
      path_is = at (λ (m : CoapMessage). (what_is_asked m).request.path ≡ path) asks_it.path_is;
      block = asks_it.block;
      block2 = block2;
      number = asks_it.number;
      size = asks_it.size;
      fits = subst (λ (o : Option Block). IfSome o IsBlock) block2 e.is.blocks.block2;
      two_five = sym f.code_is ∙ code_is;
    }

-- its wish
wants_get : (code : ℕ) (a : AskSeen) → code ≡ GET → a.observe ≡ None → wanted_of code (observing_of code a.observe) a ≡ wanted_by_get a.block2
wants_get code a get none =
    ap (λ (c : ℕ). wanted_of c (observing_of c a.observe) a) get ∙ ap (λ (o : Option ℕ). wanted_of GET (observing_of GET o) a) none

size_get : (code : ℕ) (a : AskSeen) (b : Block) → code ≡ GET → a.observe ≡ None → a.block2 ≡ Some b → size_asked (observing_of code a.observe) a ≡ Some b.szx
size_get code a b get none is =
    ap (λ (c : ℕ). size_asked (observing_of c a.observe) a) get ∙ (ap (λ (o : Option ℕ). size_asked (observing_of GET o) a) none
    ∙ ap (λ (o : Option Block). option_map (λ (y : Block). y.szx) o) is)

use_get : (now code : ℕ) (a : AskSeen) (b : Block) → code ≡ GET → a.observe ≡ None → a.block2 ≡ Some b → use_of now code (observing_of code a.observe) a ≡ give a.request.path b.szx now
use_get now code a b get none is =
    ap (λ (c : ℕ). use_of now c (observing_of c a.observe) a) get ∙ (ap (λ (o : Option ℕ). use_of now GET (observing_of GET o) a) none
    ∙ ap (λ (o : Option Block). blocks.Gives (record { path = a.request.path; szx = option_map (λ (y : Block). y.szx) o; moment = now })) is)

blocks_get : (code : ℕ) (a : AskSeen) (b : Block) → code ≡ GET → a.observe ≡ None → a.block2 ≡ Some b → blocks_by (verb_of code) a ≡ give a.request.path b.szx 0
blocks_get code a b get none is =
    ap (λ (c : ℕ). blocks_by (verb_of c) a) get
    ∙ (ap (λ (o : Option ℕ). blocks.Gives (record { path = a.request.path; szx = size_asked (observing_at o) a; moment = 0 })) none
    ∙ ap (λ (o : Option Block). blocks.Gives (record { path = a.request.path; szx = option_map (λ (y : Block). y.szx) o; moment = 0 })) is)

first_wants : (v : WorldState) (x : Exact v) (path : List (List ℕ)) (szx : ℕ) (z : RowAsk) → (r : ReadEntry v x path szx 0 z) → wanted_in r.is.message ≡ wanted.Act
first_wants v x path szx z r =
    wants_get r.is.message.code (what_is_asked r.is.message) r.code r.observe
    ∙ (ap wanted_by_get r.block2 ∙ ap (λ (t : Bool). if t then wanted.Act else wanted.LaterBlock r.block) (is_equal r.block.number 0 r.number))

pub later_wants : (v : WorldState) (x : Exact v) (path : List (List ℕ)) (szx n : ℕ) (z : RowAsk) → n ≢ 0 → (r : ReadEntry v x path szx n z) → wanted_in r.is.message ≡ wanted.LaterBlock r.block
later_wants v x path szx n z later r =
    wants_get r.is.message.code (what_is_asked r.is.message) r.code r.observe
    ∙ (ap wanted_by_get r.block2 ∙ ap (λ (t : Bool). if t then wanted.Act else wanted.LaterBlock r.block) (differs r.block.number (λ e. later (sym r.number ∙ e))))
  where
    differs : (m : ℕ) → (m ≡ 0 → ⊥) → (m == 0) ≡ false
    differs m isnt = grind (arith, nat_tests)

-- ---- the first ask

-- the reading of the first, and the body that it leaves for the others
pub record FirstRead (v : WorldState) (x : Exact v) (path : List (List ℕ)) (szx : ℕ) (z : RowAsk) (place : ℕ) : Type 0 where
  pub text : List ℕ
  pub first : FirstOf szx text z.payload z.block
  pub of_links : is_links_path path ≡ true → text ≡ v.server.links
  pub of_act : is_links_path path ≡ false → (a : Act) × Contains v.acts a × (a.ask ≡ z.ask) × (text ≡ payload_of a.acted.outcome)
  pub kept : is_links_path path ≡ false → says_more z.block ≡ true → (c : Content) × (c.bytes ≡ text) × (given_to path (take (suc place) x.led) ≡ Some c)

-- the content that an act leaves
act_given : (path : List (List ℕ)) (a : Acted) (szx : ℕ) (before : Option Content) → blocks_for a.what ≡ give a.what.request.path szx 0 → a.what.request.path ≡ path → is_kept (Some szx) a.outcome ≡ true
    → given_at path (blocks_for a.what) a before ≡ Some (outcome_content a.outcome)
act_given path a szx before use_it same kept =
    ap (λ (u : BlockUse). given_at path u a before) use_it
    ∙ (ap (λ (c : Bool). if is_same_path a.what.request.path path && c then Some (outcome_content a.outcome) else before) kept
    ∙ ap (λ (c : Bool). if c && true then Some (outcome_content a.outcome) else before) (ap (λ (p : List (List ℕ)). is_same_path p path) same ∙ path_itself path))

pub first_read : (v : WorldState) (x : Exact v) (path : List (List ℕ)) (szx : ℕ) (z : RowAsk) → (r : ReadEntry v x path szx 0 z) → FirstRead v x path szx z r.for_it.place
first_read v x path szx z r = by_reason r.is.leads
  where
    wants : wanted_in r.is.message ≡ wanted.Act
    wants = first_wants v x path szx z r

    fits : szx ≤ 6
    fits = let at = r.size in let low = r.fits.szx in omega arith

    by_reason : LeadsTo client_place r.is.now r.is.message v.server.links r.is.seen r.for_it.entry.led r.for_it.entry.reply → FirstRead v x path szx z r.for_it.place
    by_reason (is_refused some same) = absurd (some r.is.is.options)
    by_reason (finds_no_memory same is) = absurd (let code : 163 ≡ 69 = sym (ap (λ (y : Reply). y.code) is) ∙ r.two_five in omega (arith, code))
    by_reason (gets_links act links_it same is) =
        let size : size_asked (observing_in r.is.message) (what_is_asked r.is.message) ≡ Some szx
        = size_get r.is.message.code (what_is_asked r.is.message) r.block r.code r.observe r.block2 ∙ ap (λ (n : ℕ). Some n) r.size in
        let says : r.for_it.entry.reply ≡ links_reply (Some szx) v.server.links = is ∙ ap (λ (o : Option ℕ). links_reply o v.server.links) size in
        let code : (links_reply (Some szx) v.server.links).code ≡ 69 = sym (ap (λ (y : Reply). y.code) says) ∙ r.two_five in
        let f = links_first szx v.server.links fits code in
        let here : is_links_path path ≡ true = ap is_links_path (sym r.path_is) ∙ links_it in
        record {
          text = v.server.links;
          first = subst (λ (p : List ℕ). FirstOf szx v.server.links p z.block) (sym (r.for_it.payload_is ∙ ap (λ (y : Reply). y.payload) says))
              (subst (λ (b : Option Block). FirstOf szx v.server.links (links_reply (Some szx) v.server.links).payload b) (sym (r.for_it.block_is ∙ ap (λ (y : Reply). block_said (reply_options y)) says)) f);
          of_links = λ is_it. refl;
          of_act = λ isnt. absurd (let wrong : true ≡ false = sym here ∙ isnt in cc);
          kept = λ isnt more. absurd (let wrong : true ≡ false = sym here ∙ isnt in cc);
        }
    by_reason (gets_no_links links_it same is) = absurd (let code : 133 ≡ 69 = sym (ap (λ (y : Reply). y.code) is) ∙ r.two_five in omega (arith, code))
    by_reason (gets_block b found other same is) = absurd (let wrong : wanted.Act ≡ wanted.LaterBlock b = sym wants ∙ other in cc)
    by_reason (is_joined b added other same is) = absurd (let wrong : wanted.Act ≡ wanted.Joining b = sym wants ∙ other in cc)
    by_reason (is_acted_on_whole a b body other apart same what code place is) = absurd (let wrong : wanted.Act ≡ wanted.Joining b = sym wants ∙ other in cc)
    by_reason (is_acted_on a act apart same what code place is) =
        let its : AskSeen = what_is_asked r.is.message in
        let use_it : use_of r.is.now r.is.message.code (observing_in r.is.message) its ≡ give its.request.path szx r.is.now
        = use_get r.is.now r.is.message.code its r.block r.code r.observe r.block2 ∙ ap (λ (n : ℕ). give its.request.path n r.is.now) r.size in
        let says : r.for_it.entry.reply ≡ observed_reply r.is.seen (answer_reply (give its.request.path szx r.is.now) a.outcome)
        = is ∙ ap (λ (u : BlockUse). observed_reply r.is.seen (answer_reply u a.outcome)) use_it in
        let two_five : (answer_reply (give its.request.path szx r.is.now) a.outcome).code ≡ 69 = sym (ap (λ (y : Reply). y.code) says) ∙ r.two_five in
        let f = act_first its.request.path szx r.is.now a.outcome fits two_five in
        let payload : z.payload ≡ (answer_reply (give its.request.path szx r.is.now) a.outcome).payload = r.for_it.payload_is ∙ ap (λ (y : Reply). y.payload) says in
        let block : z.block ≡ block_said (reply_options (answer_reply (give its.request.path szx r.is.now) a.outcome))
        = r.for_it.block_is ∙ (ap (λ (y : Reply). block_said (reply_options y)) says ∙ observed_block r.is.seen (answer_reply (give its.request.path szx r.is.now) a.outcome)) in
        let path_is : a.what.request.path ≡ path = ap (λ (w : AskSeen). w.request.path) what ∙ r.path_is in
        let use_for : blocks_for a.what ≡ give a.what.request.path szx 0
        = ap blocks_for what ∙ (blocks_get r.is.message.code its r.block r.code r.observe r.block2
        ∙ (ap (λ (n : ℕ). give its.request.path n 0) r.size ∙ ap (λ (w : AskSeen). give w.request.path szx 0) (sym what))) in
        record {
          text = payload_of a.outcome;
          first = subst (λ (p : List ℕ). FirstOf szx (payload_of a.outcome) p z.block) (sym payload)
              (subst (λ (b : Option Block). FirstOf szx (payload_of a.outcome) (answer_reply (give its.request.path szx r.is.now) a.outcome).payload b) (sym block) f.first);
          of_links = λ is_it. absurd (let wrong : true ≡ false = sym is_it ∙ (ap is_links_path (sym r.path_is) ∙ apart) in cc);
          of_act = λ isnt. (record { ask = r.for_it.entry.ask; acted = a }, r.is.acted a (ap act_in same), r.for_it.ask, refl);
          kept = λ isnt more. (
            outcome_content a.outcome,
            refl,
            ap (given_to path) (take_next x.led r.for_it.place r.for_it.entry r.for_it.there)
                ∙ (given_push path None (take r.for_it.place x.led) r.for_it.entry
                ∙ (ap (λ (l : Led). given_by path l (given_to path (take r.for_it.place x.led))) same
                ∙ act_given path a szx (given_to path (take r.for_it.place x.led)) use_for path_is (f.kept (ap says_more (sym block) ∙ more)))),
          );
        }

-- ---- entries between the first and a later one

-- an entry that isn't an act for the path gives nothing for it
pub quiet : (path : List (List ℕ)) (l : Led) (before : Option Content) → ((a : Acted) → l ≡ to_act a → a.what.request.path ≡ path → ⊥) → given_by path l before ≡ before
quiet path to_refusal before none = refl
quiet path to_no_memory before none = refl
quiet path to_links before none = refl
quiet path (to_later_block other b found) before none = refl
quiet path (to_parts a added) before none = refl
quiet path (to_act_on_whole b a) before none = refl
quiet path (to_act a) before none = by_use (blocks_for a.what)
  where
    by_test : (szx : Option ℕ) (t : Bool) → is_same_path a.what.request.path path ≡ t → (if t && is_kept szx a.outcome then Some (outcome_content a.outcome) else before) ≡ before
    by_test szx true e = absurd (none a refl (same_path a.what.request.path path e))
    by_test szx false e = refl

    by_use : (u : BlockUse) → given_at path u a before ≡ before
    by_use blocks.Whole = refl
    by_use (blocks.Joined b) = refl
    by_use (blocks.Gives g) = by_test g.szx (is_same_path a.what.request.path path) refl

-- where nothing between gives anything, the same is given
pub given_still : (path : List (List ℕ)) (led : List Entry) (start more : ℕ) → start + more ≤ length led → ((q : ℕ) (y : Entry) → start ≤ q → q < start + more → slice_get led q ≡ Some y → (before : Option Content) → given_by path y.led before ≡ before)
    → given_to path (take (start + more) led) ≡ given_to path (take start led)
given_still path led start zero within each = ap (λ (n : ℕ). given_to path (take n led)) (plus_none start)
given_still path led start (suc more) within each =
    let last : ℕ = start + more in
    let there = slice_get_cases led last in
    let next : take (start + suc more) led ≡ take (suc (start + more)) led = ap (λ (n : ℕ). take n led) (plus_next start more) in
    elim there.1 [
      | inl some ↦
          ap (given_to path) (next ∙ take_next led (start + more) some.0 some.2)
          ∙ (given_push path None (take (start + more) led) some.0
          ∙ (each (start + more) some.0 (omega arith) (omega arith) some.2 (given_to path (take (start + more) led))
          ∙ given_still path led start more (omega arith) (λ q y from below at. each q y from (omega arith) at)))
      | inr none ↦ absurd (let past = none.0 in omega arith)
    ]

-- an entry of the row that isn't the first is no act
pub later_no_act : (v : WorldState) (x : Exact v) (path : List (List ℕ)) (szx n : ℕ) (z : RowAsk) → n ≢ 0 → (r : ReadEntry v x path szx n z) → (a : Acted) → r.for_it.entry.led ≡ to_act a → ⊥
later_no_act v x path szx n z later r a is = by_reason r.is.leads
  where
    wants : wanted_in r.is.message ≡ wanted.LaterBlock r.block
    wants = later_wants v x path szx n z later r

    by_reason : LeadsTo client_place r.is.now r.is.message v.server.links r.is.seen r.for_it.entry.led r.for_it.entry.reply → ⊥
    by_reason (is_refused some same) = some r.is.is.options
    by_reason (finds_no_memory same says) = cc
    by_reason (gets_links act links_it same says) = cc
    by_reason (gets_no_links links_it same says) = cc
    by_reason (gets_block b found other same says) = cc
    by_reason (is_joined b added other same says) = cc
    by_reason (is_acted_on b act apart same what code place says) = let wrong : wanted.Act ≡ wanted.LaterBlock r.block = sym act ∙ wants in cc
    by_reason (is_acted_on_whole b block body other apart same what code place says) = cc
