-- A row of asks for the blocks of one body reads the outcome of one act, or the links (RFC 7959, section 2.4).
use Rattle.std.proofs.Common.{◌≡◌, ◌≢◌, ℕ, suc, ◌+◌, ◌-◌, ◌*◌, ◌^◌, ◌<◌, ◌≤◌, ◌∙◌, true, false, Option, Some, List, [], ◌∷◌, take, drop, length, inl, inr, refl, sym, ap, subst, arith}
use Rattle.std.specs.Prelude.{Contains, nat_lt}
use Rattle.std.proofs.lemmas.Bool.{cases_Bool}
use Rattle.std.proofs.lemmas.Option.{same_Some, slice_get_within, get_or_from_slice_get}
use Rattle.coap_msg.specs.declared.block.Block.{Block}
use Rattle.coap_msg.specs.Blocks.{IsBlock, block_size, block_start}
use Rattle.coap_client.specs.Answers.{block2_of as block_said}
use Rattle.coap_blocks.specs.Bodies.{Content}
use Rattle.coap_opts.specs.Reading.{AskSeen, asked as what_is_asked}
use Rattle.coap_bind.specs.declared.blocks.BlockWish.TheVariants as wanted
use Rattle.coap_bind.specs.Links.{is_links_path, links_content}
use Rattle.coap_bind.specs.Server.{wanted_in}
use Rattle.coap_bind.specs.Writing.{Reply, reply_options}
use Rattle.servient_world.specs.World.{WorldState, client_place}
use Rattle.servient_world.specs.Led.{to_later_block, LeadsTo, is_refused, finds_no_memory, gets_links, gets_no_links, gets_block, is_joined, is_acted_on, is_acted_on_whole}
use Rattle.servient_world.specs.Rows.{RowAsk, asks_of, last_of, IsOfPath, says_more, IsFollowed, AreReads, IsReadOf, ReadsAreOfOneAct}
use Rattle.servient_world.proofs.Given.{acted_on}
use Rattle.servient_world.proofs.Ledger.{Entry, given_to, IsFed, IsGivenFor}
use Rattle.servient_world.proofs.Exact.{Exact}
use Rattle.servient_world.proofs.EndLaws.{stands_at_start, stands_after_all}
use Rattle.servient_world.proofs.ReadTexts.{size_of, later_of, IsBlockOf, AreBlocksOf, row_reads}
use Rattle.servient_world.proofs.RowLaws.{EndsWell, ended_well, one_place, in_order, Row, between, RisesFrom, rises, up_to_last, one_of, none_of}
use Rattle.servient_world.proofs.ReadEntries.{ReadEntry, read_entry, later_wants, FirstRead, first_read, quiet, given_still, later_no_act}

-- ---- a later ask

-- the reading of a later one: a block of the body that the entries before gave, or of the links
record LaterRead (v : WorldState) (x : Exact v) (path : List (List ℕ)) (szx n : ℕ) (z : RowAsk) (place : ℕ) : Type 0 where
  content : Content
  of_links : is_links_path path ≡ true → content ≡ links_content v.server.links
  of_entries : is_links_path path ≡ false → given_to path (take place x.led) ≡ Some content
  block : IsBlockOf szx n content.bytes z

block_of_text : (b : Block) (szx n : ℕ) (text : List ℕ) (z : RowAsk) → b.number ≡ n → b.szx ≡ szx → z.payload ≡ take (block_size b) (drop (block_start b) text) → says_more z.block ≡ nat_lt (block_start b + block_size b) (length text)
    → IsBlockOf szx n text z
block_of_text b szx n text z number size part more =
    let sizes : block_size b ≡ size_of szx = ap (λ (k : ℕ). 2 ^ (k + 4)) size in
    let starts : block_start b ≡ n * size_of szx = ap (λ (k : ℕ). k * block_size b) number ∙ ap (λ (k : ℕ). n * k) sizes in
    record {
      part = part ∙ (ap (λ (k : ℕ). take k (drop (block_start b) text)) sizes ∙ ap (λ (k : ℕ). take (size_of szx) (drop k text)) starts);
      more = more ∙ (ap (λ (k : ℕ). nat_lt (block_start b + k) (length text)) sizes ∙ ap (λ (k : ℕ). nat_lt (k + size_of szx) (length text)) starts);
    }

later_read : (v : WorldState) (x : Exact v) (path : List (List ℕ)) (szx n : ℕ) (z : RowAsk) → n ≢ 0 → (r : ReadEntry v x path szx n z) → LaterRead v x path szx n z r.for_it.place
later_read v x path szx n z later r = by_reason r.is.leads
  where
    wants : wanted_in r.is.message ≡ wanted.LaterBlock r.block
    wants = later_wants v x path szx n z later r

    by_reason : LeadsTo client_place r.is.now r.is.message v.server.links r.is.seen r.for_it.entry.led r.for_it.entry.reply → LaterRead v x path szx n z r.for_it.place
    by_reason (is_refused some same) = absurd (some r.is.is.options)
    by_reason (finds_no_memory same is) = absurd (let code : 163 ≡ 69 = sym (ap (λ (y : Reply). y.code) is) ∙ r.two_five in omega (arith, code))
    by_reason (gets_links act links_it same is) = absurd (let wrong : wanted.Act ≡ wanted.LaterBlock r.block = sym act ∙ wants in cc)
    by_reason (gets_no_links links_it same is) = absurd (let code : 133 ≡ 69 = sym (ap (λ (y : Reply). y.code) is) ∙ r.two_five in omega (arith, code))
    by_reason (is_joined b added other same is) = absurd (let wrong : wanted.Joining b ≡ wanted.LaterBlock r.block = sym other ∙ wants in cc)
    by_reason (is_acted_on a act apart same what code place is) = absurd (let wrong : wanted.Act ≡ wanted.LaterBlock r.block = sym act ∙ wants in cc)
    by_reason (is_acted_on_whole a b body other apart same what code place is) = absurd (let wrong : wanted.Joining b ≡ wanted.LaterBlock r.block = sym other ∙ wants in cc)
    by_reason (gets_block b found other same is) =
        let both_same : wanted.LaterBlock b ≡ wanted.LaterBlock r.block = sym other ∙ wants in
        let one : b ≡ r.block = cc in
        let fits : IsBlock b = subst IsBlock (sym one) r.fits in
        let l = later_of b found fits (sym (ap (λ (y : Reply). y.code) is) ∙ r.two_five) in
        let fed : IsFed v.server.links (take r.for_it.place x.led) (to_later_block (what_is_asked r.is.message).request.path b found)
        = subst (IsFed v.server.links (take r.for_it.place x.led)) same
        (subst (λ (e : Entry). IsFed v.server.links (take r.for_it.place x.led) e.led) (get_or_from_slice_get x.led r.for_it.place r.for_it.entry r.for_it.entry r.for_it.there)
        (x.fed r.for_it.place r.for_it.entry (slice_get_within x.led r.for_it.place r.for_it.entry r.for_it.there))) in
        let given : IsGivenFor path (Some l.content) v.server.links (take r.for_it.place x.led)
        = subst (λ (o : Option Content). IsGivenFor path o v.server.links (take r.for_it.place x.led)) l.is
        (subst (λ (p : List (List ℕ)). IsGivenFor p found v.server.links (take r.for_it.place x.led)) r.path_is fed) in
        record {
          content = l.content;
          of_links = given.0;
          of_entries = given.1;
          block = block_of_text b szx n l.content.bytes z (ap (λ (y : Block). y.number) one ∙ r.number) (ap (λ (y : Block). y.szx) one ∙ r.size)
              (r.for_it.payload_is ∙ (ap (λ (y : Reply). y.payload) is ∙ l.part))
              (ap says_more (r.for_it.block_is ∙ ap (λ (y : Reply). block_said (reply_options y)) is) ∙ l.more);
        }

-- ---- the row

-- an ask of the row that isn't the first, with its entry
later_of_row : (v : WorldState) (x : Exact v) (path : List (List ℕ)) (szx n : ℕ) (row : List RowAsk) (k : ℕ) → n ≢ 0 → AreReads v.asks v.ends path szx n row → Contains (asks_of row) k
    → (m : ℕ) × (m ≢ 0) × (z : RowAsk) × (z.ask ≡ k) × ReadEntry v x path szx m z
later_of_row v x path szx n [] k later are has = absurd (none_of k has)
later_of_row v x path szx n (z ∷ row) k later are has = elim (one_of z row k has) [
  | inl same ↦ (n, later, z, same, read_entry v x path szx n z are.0 are.1 are.2)
  | inr rest ↦ later_of_row v x path szx (n + 1) row k (λ e. omega arith) are.4 rest
]

reads_well : (v : WorldState) (path : List (List ℕ)) (szx n : ℕ) (row : List RowAsk) (k : ℕ) → AreReads v.asks v.ends path szx n row → Contains (asks_of row) k → EndsWell v.ends k
reads_well v path szx n [] k are has = absurd (none_of k has)
reads_well v path szx n (z ∷ row) k are has = elim (one_of z row k has) [
  | inl same ↦ subst (EndsWell v.ends) same (ended_well v.ends z are.1 (λ e. let code = are.2 in omega arith))
  | inr rest ↦ reads_well v path szx (n + 1) row k are.4 rest
]

-- the whole row, and the reading of its first
record ReadRow (v : WorldState) (x : Exact v) (path : List (List ℕ)) (szx : ℕ) (first : RowAsk) (row : List RowAsk) : Type 0 where
  row_is : Row v (IsOfPath path) first row
  entry : ReadEntry v x path szx 0 first
  read : FirstRead v x path szx first entry.for_it.place
  others : AreReads v.asks v.ends path szx 1 row

-- the body that is given before a later ask is the one that the first left
still_given : (v : WorldState) (x : Exact v) (path : List (List ℕ)) (szx n : ℕ) (first : RowAsk) (row : List RowAsk) (z : RowAsk) → (w : ReadRow v x path szx first row) → (r : ReadEntry v x path szx n z)
    → first.ask < z.ask → z.ask ≤ (last_of first row).ask → EndsWell v.ends z.ask → given_to path (take r.for_it.place x.led) ≡ given_to path (take (suc w.entry.for_it.place) x.led)
still_given v x path szx n first row z w r less to_last well =
    let a = w.entry.for_it in
    let b = r.for_it in
    let a_ask : a.entry.ask ≡ first.ask = a.ask in
    let b_ask : b.entry.ask ≡ z.ask = b.ask in
    let before : a.place < b.place
    = in_order v x a.place b.place a.entry b.entry a.there b.there (omega arith) (subst (EndsWell v.ends) (sym a.ask) (w.row_is.well first.ask (0, omega arith, refl))) in
    let within = slice_get_within x.led b.place b.entry b.there in
    let far : b.place ≡ suc a.place + (b.place - suc a.place) = omega arith in
    ap (λ (k : ℕ). given_to path (take k x.led)) far
    ∙ given_still path x.led (suc a.place) (b.place - suc a.place) (omega arith) (λ q y from below at_q held. quiet path y.led held (λ c is path_is.
    let found = between v x (IsOfPath path) first row w.row_is a.place q b.place a.entry y b.entry a.there at_q b.there (omega arith) (omega arith) (omega arith) (omega arith)
    (subst (EndsWell v.ends) (sym b.ask) well)
    (λ e. sym (ap (λ (k : AskSeen). k.request.path) (acted_on client_place e.now e.message v.server.links e.seen y.led y.reply c e.leads is).what) ∙ path_is) in
    elim (one_of first row y.ask found.0) [
      | inl same ↦ absurd (let more = found.1 in omega arith)
      | inr rest ↦
          let it = later_of_row v x path szx 1 row y.ask (λ e. omega arith) w.others rest in
          let one : it.4.for_it.entry ≡ y = one_place v x it.4.for_it.place q it.4.for_it.entry y it.4.for_it.there at_q (it.4.for_it.ask ∙ it.3) in
          later_no_act v x path szx it.0 it.2 it.1 it.4 c (ap (λ (k : Entry). k.led) one ∙ is)
    ]))

-- the text of a later block is that of the first
same_text : (v : WorldState) (x : Exact v) (path : List (List ℕ)) (szx n : ℕ) (first : RowAsk) (row : List RowAsk) (z : RowAsk) → n ≢ 0 → (w : ReadRow v x path szx first row) → (r : ReadEntry v x path szx n z)
    → first.ask < z.ask → z.ask ≤ (last_of first row).ask → EndsWell v.ends z.ask → says_more first.block ≡ true → IsBlockOf szx n w.read.text z
same_text v x path szx n first row z later w r less to_last well more =
    let l = later_read v x path szx n z later r in
    elim (cases_Bool (is_links_path path)) [
      | inl links ↦
          let text : l.content.bytes ≡ w.read.text = ap (λ (c : Content). c.bytes) (l.of_links links) ∙ sym (w.read.of_links links) in
          subst (λ (t : List ℕ). IsBlockOf szx n t z) text l.block
      | inr apart ↦
          let kept = w.read.kept apart more in
          let one : Some l.content ≡ Some kept.0 = sym (l.of_entries apart) ∙ (still_given v x path szx n first row z w r less to_last well ∙ kept.2) in
          let text : l.content.bytes ≡ w.read.text = ap (λ (c : Content). c.bytes) (same_Some l.content kept.0 one) ∙ kept.1 in
          subst (λ (t : List ℕ). IsBlockOf szx n t z) text l.block
    ]

rest_blocks : (v : WorldState) (x : Exact v) (path : List (List ℕ)) (szx n : ℕ) (first : RowAsk) (row : List RowAsk) (before : ℕ) (rest : List RowAsk) → n ≢ 0 → (w : ReadRow v x path szx first row)
    → AreReads v.asks v.ends path szx n rest → first.ask ≤ before → RisesFrom before rest → ((z : RowAsk) (more : List RowAsk) → rest ≡ z ∷ more → (last_of z more).ask ≡ (last_of first row).ask) → says_more first.block ≡ true
    → AreBlocksOf szx w.read.text n rest
rest_blocks v x path szx n first row before [] later w are from up ends more = tt
rest_blocks v x path szx n first row before (z ∷ rest) later w are from up ends more =
    let r = read_entry v x path szx n z are.0 are.1 are.2 in
    let to_last = up_to_last z rest up.1 in
    let at_last = ends z rest refl in
    let less = up.0 in (
      same_text v x path szx n first row z later w r (omega arith) (omega arith) (ended_well v.ends z are.1 (λ e. let code = are.2 in omega arith)) more,
      are.3,
      rest_blocks v x path szx (n + 1) first row z.ask rest (λ e. omega arith) w are.4 (omega arith) up.1 (λ y others same. next_last z rest y others same ∙ at_last) more,
    )
  where
    next_last : (a : RowAsk) (left : List RowAsk) (y : RowAsk) (others : List RowAsk) → left ≡ y ∷ others → (last_of y others).ask ≡ (last_of a left).ask
    next_last a left y others same = sym (ap (λ (l : List RowAsk). (last_of a l).ask) same)

row_blocks : (v : WorldState) (x : Exact v) (path : List (List ℕ)) (szx : ℕ) (first : RowAsk) (row : List RowAsk) → (w : ReadRow v x path szx first row) → RisesFrom first.ask row → IsFollowed first row
    → AreBlocksOf szx w.read.text 1 row
row_blocks v x path szx first [] w up followed = tt
row_blocks v x path szx first (y ∷ row) w up followed =
    rest_blocks v x path szx 1 first (y ∷ row) first.ask (y ∷ row) (λ e. omega arith) w w.others (omega arith) up (λ z more same. sym (ap (λ (l : List RowAsk). (last_of first l).ask) same)) followed

pub reads_are_of_one_act : ReadsAreOfOneAct
reads_are_of_one_act first_id exchanges observers moves w v path szx z row start plays few are order no_other =
    let s = stands_after_all exchanges observers moves w v plays few (stands_at_start first_id exchanges observers w start) in
    let x = s.exact in
    let entry = read_entry v x path szx 0 z are.0 are.1 are.2 in
    let whole : ReadRow v x path szx z row = record {
      row_is = record {
        request = are.0.asked.request;
        ask = are.0.asked.ask;
        no_other = no_other;
        well = λ k has. reads_well v path szx 0 (z ∷ row) k are has;
      };
      entry = entry;
      read = first_read v x path szx z entry;
      others = are.4;
    } in
    let reads = row_reads szx whole.read.text z row whole.read.first are.3 (row_blocks v x path szx z row whole (rises z row order) are.3) in
    record {
      of_act = λ apart.
          let act = whole.read.of_act apart in
          (act.0, act.1, act.2, subst (λ (t : List ℕ). IsReadOf t z row) act.3 reads);
      of_links = λ links. subst (λ (t : List ℕ). IsReadOf t z row) (whole.read.of_links links) reads;
    }
