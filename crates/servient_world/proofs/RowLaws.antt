-- Asks of a row, and where in the ledger their entries stand: in the order of the asks, and with no other of their kind between.
use Rattle.std.proofs.Common.{◌≡◌, ◌≢◌, ◌⊎◌, ℕ, zero, suc, ◌+◌, ◌<◌, ◌≤◌, ◌∙◌, Option, Some, List, [], ◌∷◌, length, get_or, inl, inr, refl, sym, ap, subst, arith}
use Rattle.std.specs.Prelude.{AllPairs, Contains, slice_get}
use Rattle.std.proofs.lemmas.Bool.{cases_lt}
use Rattle.std.proofs.lemmas.List.Elements.{All-contains}
use Rattle.std.proofs.lemmas.Option.{slice_get-get_or, slice_get_within, get_or_from_slice_get}
use Rattle.coap_msg.specs.declared.block.Block.{Block}
use Rattle.coap_msg.specs.declared.constants.TheConstants.{SERVICE_UNAVAILABLE}
use Rattle.coap_msg.specs.Grammar.{CoapMessage}
use Rattle.coap_client.specs.declared.outstanding.Outstanding.{Outstanding}
use Rattle.coap_client.specs.Answers.{block2_of}
use Rattle.coap_bind.specs.Writing.{Reply, reply_options}
use Rattle.servient_world.specs.World.{AskEnd, WorldState, answered}
use Rattle.servient_world.specs.Laws.{Asked}
use Rattle.servient_world.specs.Rows.{RowAsk, asks_of, last_of, IsAnsweredSo, NoOther}
use Rattle.servient_world.proofs.Places.{at_same}
use Rattle.servient_world.proofs.Ledger.{Entry, IsEntry, IsInTime, ComesFirst}
use Rattle.servient_world.proofs.Exact.{Exact, IsEnd}

-- ---- elements by their places

pub plus_none : (n : ℕ) → n + zero ≡ n
plus_none n = omega arith

pub plus_next : (m n : ℕ) → m + suc n ≡ suc (m + n)
plus_next m n = omega arith

pub pair_at : {X : Type 0} (R : X → X → Type 0) (xs : List X) (i j : ℕ) (a b : X) → AllPairs R xs → i < j → slice_get xs i ≡ Some a → slice_get xs j ≡ Some b → R a b
pair_at {X} R xs i j a b all before at_i at_j =
    let one : get_or xs i a ≡ a = get_or_from_slice_get xs i a a at_i in
    let two : get_or xs j a ≡ b = get_or_from_slice_get xs j b a at_j in
    subst (λ (y : X). R a y) two (subst (λ (y : X). R y (get_or xs j a)) one (all i j a before (slice_get_within xs j b at_j)))

-- ---- the entry of an ask that was answered

pub record EntryFor (led : List Entry) (k code : ℕ) (block : Option Block) (payload : List ℕ) : Type 0 where
  pub place : ℕ
  pub entry : Entry
  pub there : slice_get led place ≡ Some entry
  pub ask : entry.ask ≡ k
  pub code_is : code ≡ entry.reply.code
  pub block_is : block ≡ block2_of (reply_options entry.reply)
  pub payload_is : payload ≡ entry.reply.payload

contains_at : (led : List Entry) (e : Entry) → (has : Contains led e) → slice_get led has.0 ≡ Some e
contains_at led e has = slice_get-get_or led has.0 e has.1 ∙ ap (λ (y : Entry). Some y) has.2

pub entry_for : (v : WorldState) (x : Exact v) (k code : ℕ) (block : Option Block) (payload : List ℕ) → Contains v.ends (record { ask = k; end = answered code block payload }) → code ≢ SERVICE_UNAVAILABLE
    → EntryFor x.led k code block payload
entry_for v x k code block payload has well =
    let is = All-contains (λ (e : AskEnd). IsEnd v.acts x.led e.ask e.end) v.ends (record { ask = k; end = answered code block payload }) x.ended has in
    elim is.1 [
      | inl full ↦ absurd (well (is.2 ∙ ap (λ (r : Reply). r.code) full))
      | inr e ↦ record {
        place = e.1.0;
        entry = e.0;
        there = contains_at x.led e.0 e.1;
        ask = e.2;
        code_is = is.2 ∙ ap (λ (r : Reply). r.code) e.3;
        block_is = is.3 ∙ ap (λ (r : Reply). block2_of (reply_options r)) e.3;
        payload_is = is.4 ∙ ap (λ (r : Reply). r.payload) e.3;
      }
    ]

-- an ask ended with a response, and wasn't turned away
pub record EndsWell (ends : List AskEnd) (k : ℕ) : Type 0 where
  pub code : ℕ
  pub block : Option Block
  pub payload : List ℕ
  pub has : Contains ends (record { ask = k; end = answered code block payload })
  pub well : code ≢ SERVICE_UNAVAILABLE

pub ended_well : (ends : List AskEnd) (z : RowAsk) → IsAnsweredSo ends z → z.code ≢ SERVICE_UNAVAILABLE → EndsWell ends z.ask
ended_well ends z has well = record { code = z.code; block = z.block; payload = z.payload; has = has; well = well }

-- ---- the order of entries

-- of two places of which the first has an ask that ended well, and the second an earlier one, there are none
earlier_first : (v : WorldState) (x : Exact v) (i j : ℕ) (a b : Entry) → i < j → slice_get x.led i ≡ Some a → slice_get x.led j ≡ Some b → b.ask < a.ask → EndsWell v.ends b.ask → ⊥
earlier_first v x i j a b before at_i at_j less well =
    well.well (pair_at (ComesFirst v.ends) x.led i j a b x.first before at_i at_j less (record { ask = b.ask; end = answered well.code well.block well.payload }) well.has refl)

-- two different asks have different places
differ_at : (v : WorldState) (x : Exact v) (i j : ℕ) (a b : Entry) → i < j → slice_get x.led i ≡ Some a → slice_get x.led j ≡ Some b → a.ask ≢ b.ask
differ_at v x i j a b before at_i at_j = pair_at (λ (y z : Entry). y.ask ≢ z.ask) x.led i j a b x.ledger.once before at_i at_j

-- one place for one ask
pub one_place : (v : WorldState) (x : Exact v) (i j : ℕ) (a b : Entry) → slice_get x.led i ≡ Some a → slice_get x.led j ≡ Some b → a.ask ≡ b.ask → a ≡ b
one_place v x i j a b at_i at_j same = elim (cases_lt i j) [
  | inl before ↦ absurd (differ_at v x i j a b before at_i at_j same)
  | inr not_before ↦ elim (cases_lt j i) [
    | inl after ↦ absurd (differ_at v x j i b a after at_j at_i (sym same))
    | inr not_after ↦ let place : i ≡ j = omega arith in at_same x.led i a b at_i (ap (slice_get x.led) place ∙ at_j)
  ]
]

-- the entry of an earlier ask that ended well stands before that of a later one
pub in_order : (v : WorldState) (x : Exact v) (i j : ℕ) (a b : Entry) → slice_get x.led i ≡ Some a → slice_get x.led j ≡ Some b → a.ask < b.ask → EndsWell v.ends a.ask → i < j
in_order v x i j a b at_i at_j less well = elim (cases_lt i j) [
  | inl before ↦ before
  | inr not_before ↦ elim (cases_lt j i) [
    | inl after ↦ absurd (earlier_first v x j i b a after at_j at_i less well)
    | inr not_after ↦
        let place : i ≡ j = omega arith in
        let one : a ≡ b = at_same x.led i a b at_i (ap (slice_get x.led) place ∙ at_j) in
        let same : a.ask ≡ b.ask = ap (λ (e : Entry). e.ask) one in
        absurd (omega arith)
  ]
]

pub entry_at : (v : WorldState) (x : Exact v) (i : ℕ) (a : Entry) → slice_get x.led i ≡ Some a → IsEntry v.asks v.acts v.server.links a
entry_at v x i a at = subst (IsEntry v.asks v.acts v.server.links) (get_or_from_slice_get x.led i a a at) (x.ledger.entries i a (slice_get_within x.led i a at))

-- asks were made in their order
rising_at : (v : WorldState) (x : Exact v) (j k : ℕ) (a b : Outstanding) → j ≤ k → slice_get v.asks j ≡ Some a → slice_get v.asks k ≡ Some b → a.first ≤ b.first
rising_at v x j k a b up at_j at_k = elim (cases_lt j k) [
  | inl before ↦ pair_at (λ (y z : Outstanding). y.first ≤ z.first) v.asks j k a b x.ledger.rising before at_j at_k
  | inr not_before ↦
      let place : j ≡ k = omega arith in
      let one : a ≡ b = at_same v.asks j a b at_j (ap (slice_get v.asks) place ∙ at_k) in
      let same = ap (λ (y : Outstanding). y.first) one in
      omega arith
]

-- ---- between two asks of a row

-- facts on all asks of a row
pub record Row (v : WorldState) (IsSuch : CoapMessage → Type 0) (first : RowAsk) (row : List RowAsk) : Type 0 where
  pub request : Outstanding
  pub ask : slice_get v.asks first.ask ≡ Some request
  pub no_other : NoOther v.asks IsSuch first row
  pub well : (k : ℕ) → Contains (asks_of (first ∷ row)) k → EndsWell v.ends k

-- an entry of this kind that stands between those of two asks of the row is of the row, and of an ask between
pub between : (v : WorldState) (x : Exact v) (IsSuch : CoapMessage → Type 0) (first : RowAsk) (row : List RowAsk) → Row v IsSuch first row → (i q j : ℕ) (a y b : Entry)
    → slice_get x.led i ≡ Some a → slice_get x.led q ≡ Some y → slice_get x.led j ≡ Some b → i < q → q < j → first.ask ≤ a.ask → b.ask ≤ (last_of first row).ask → EndsWell v.ends b.ask
    → ((e : IsEntry v.asks v.acts v.server.links y) → IsSuch e.message) → Contains (asks_of (first ∷ row)) y.ask × (a.ask < y.ask) × (y.ask < b.ask)
between v x IsSuch first row r i q j a y b at_i at_q at_j before after from_first to_last well such =
    let e = entry_at v x q y at_q in
    let its : Asked v.asks y.ask = record { request = e.request; ask = e.ask; message = e.message; spells = e.is.message.spells } in
    let not_b = differ_at v x q j y b after at_q at_j in
    let not_a = differ_at v x i q a y before at_i at_q in
    elim (cases_lt y.ask b.ask) [
      | inl less ↦ elim (r.no_other y.ask its r.request (such e) (omega arith) r.ask) [
        | inl here ↦ elim (cases_lt a.ask y.ask) [
          | inl more ↦ (here, more, less)
          | inr not_more ↦
              let under : y.ask < a.ask = strictly y.ask a.ask (λ same. not_a (sym same)) (omega arith) in
              absurd (earlier_first v x i q a y before at_i at_q under (r.well y.ask here))
        ]
        | inr early ↦
            let t : IsInTime v.asks a.ask y.ask = pair_at (λ (w z : Entry). IsInTime v.asks w.ask z.ask) x.led i q a y x.ledger.in_time before at_i at_q in
            let same : t.other ≡ e.request = at_same v.asks y.ask t.other e.request t.second e.ask in
            let soon = t.soon in
            let at = ap (λ (o : Outstanding). o.first) same in
            let up = rising_at v x first.ask a.ask r.request t.one from_first r.ask t.first in
            absurd (omega arith)
      ]
      | inr later ↦
          let more : b.ask < y.ask = strictly b.ask y.ask (λ same. not_b (sym same)) (omega arith) in
          absurd (earlier_first v x q j y b after at_q at_j more well)
    ]
  where
    strictly : (m n : ℕ) → (m ≡ n → ⊥) → m ≤ n → m < n
    strictly m n differ up = elim (cases_lt m n) [
      | inl less ↦ less
      | inr not_less ↦ let same : m ≡ n = omega arith in absurd (differ same)
    ]

-- ---- rows in order

abbrev pub RisesFrom : ℕ → List RowAsk → Type 0
RisesFrom k [] = Unit {0}
RisesFrom k (z ∷ row) = (k < z.ask) × RisesFrom z.ask row

pub rises : (x : RowAsk) (row : List RowAsk) → AllPairs (λ (a b : RowAsk). a.ask < b.ask) (x ∷ row) → RisesFrom x.ask row
rises x [] all = tt
rises x (z ∷ row) all = (all 0 1 x (omega arith) (omega arith), rises z row (λ i j d before within. all (suc i) (suc j) d (omega arith) (omega arith)))

pub up_to_last : (z : RowAsk) (row : List RowAsk) → RisesFrom z.ask row → z.ask ≤ (last_of z row).ask
up_to_last z [] up = omega arith
up_to_last z (w ∷ row) up = let rest = up_to_last w row up.1 in let less = up.0 in omega arith

-- an ask of a row is its first or one of the others
pub one_of : (x : RowAsk) (row : List RowAsk) (k : ℕ) → Contains (asks_of (x ∷ row)) k → (x.ask ≡ k) ⊎ Contains (asks_of row) k
one_of x row k has = at has.0 has.1 has.2
  where
    at : (i : ℕ) → i < length (asks_of (x ∷ row)) → get_or (asks_of (x ∷ row)) i k ≡ k → (x.ask ≡ k) ⊎ Contains (asks_of row) k
    at zero within same = inl same
    at (suc i) within same = inr (i, omega arith, same)

pub none_of : (k : ℕ) → Contains (asks_of []) k → ⊥
none_of k has = let within = has.1 in omega arith
