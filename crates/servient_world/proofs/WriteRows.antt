-- A body that a row of asks writes in blocks is acted on once, whole (RFC 7959, section 2.5).
use Rattle.std.proofs.Common.{◌≡◌, ◌≢◌, ◌⊎◌, ℕ, zero, suc, ◌+◌, ◌-◌, ◌/◌, ◌<◌, ◌≤◌, ◌∙◌, Bool, true, false, Option, Some, None, List, [], ◌∷◌, ◌++◌, take, length, inl, inr, refl, sym, ap, subst, append_assoc, append-nil, arith}
use Rattle.std.specs.Prelude.{◌==◌, Contains, slice_get, unwrap_or, if◌then◌else◌}
use Rattle.std.proofs.lemmas.Bool.Decides.{nat_tests}
use Rattle.std.proofs.lemmas.List.Elements.{All-contains}
use Rattle.std.proofs.lemmas.Option.{same_Some, slice_get_cases, slice_get-get_or, slice_get_within, get_or_from_slice_get}
use Rattle.coap_blocks.specs.Parts.{Origin, Arrival as BlockArrival, new_part}
use Rattle.coap_blocks.specs.declared.added.Added.{Added}
use Rattle.coap_blocks.specs.declared.added.Added.TheVariants as answer
use Rattle.coap_blocks.proofs.PartLaws.{own_origin}
use Rattle.coap_opts.specs.Reading.{AskSeen, asked as what_is_asked}
use Rattle.coap_bind.specs.Server.{with_whole_body, block_arrival}
use Rattle.coap_bind.specs.Treating.{Acted}
use Rattle.servient_world.specs.World.{Act, WorldState, client_place}
use Rattle.servient_world.specs.Led.{Led, to_refusal, to_no_memory, to_links, to_later_block, to_parts, to_act, to_act_on_whole, act_in, LeadsTo, is_refused, finds_no_memory, gets_links, gets_no_links, gets_block, is_joined, is_acted_on, is_acted_on_whole}
use Rattle.servient_world.specs.Rows.{RowAsk, asks_of, last_of, joined_bodies, IsWrite, IsOfCodeAndPath, IsTaken, AreWrites, WritesAreOneAct}
use Rattle.servient_world.proofs.Places.{take_next}
use Rattle.servient_world.proofs.Holds.{is_equal}
use Rattle.servient_world.proofs.OwnParts.{is_itself}
use Rattle.servient_world.proofs.Ledger.{Entry, IsEntry, HasEntry, bytes_with, is_of, part_with, part_by, part_of, part_push, IsFed}
use Rattle.servient_world.proofs.Exact.{Exact}
use Rattle.servient_world.proofs.EndLaws.{stands_at_start, stands_after_all}
use Rattle.servient_world.proofs.RowLaws.{plus_none, plus_next, EndsWell, ended_well, one_place, in_order, Row, between, RisesFrom, rises, up_to_last, one_of, none_of}
use Rattle.servient_world.proofs.WriteEntries.{origin_at, WriteEntry, write_entry, IsBlockAt, Continued, continued, Finished, finished}

-- ---- entries between two of the row

-- an entry that joins no block of an origin leaves the blocks that were joined of it
quiet : (o : Origin) (l : Led) (before : Option (List ℕ)) → ((a : BlockArrival) (added : Added) → l ≡ to_parts a added → a.origin ≡ o → ⊥) → part_by o l before ≡ before
quiet o to_refusal before none = refl
quiet o to_no_memory before none = refl
quiet o to_links before none = refl
quiet o (to_later_block path b found) before none = refl
quiet o (to_act a) before none = refl
quiet o (to_act_on_whole b a) before none = refl
quiet o (to_parts a added) before none = by_answer added (is_of o a) refl
  where
    never : is_of o a ≡ true → ⊥
    never e = none a added refl (own_origin o (new_part a.origin 0) e)

    by_answer : (y : Added) (t : Bool) → is_of o a ≡ t → part_with o a y before ≡ before
    by_answer answer.Continue true e = absurd (never e)
    by_answer answer.Continue false e = ap (λ (t : Bool). if t then Some (bytes_with a before) else before) e
    by_answer (answer.Complete place) t e = refl
    by_answer answer.BadBlock t e = refl
    by_answer answer.Incomplete t e = refl
    by_answer answer.TooLarge t e = refl
    by_answer answer.Full t e = refl

-- where nothing between joins anything of it, the same is joined
part_still : (o : Origin) (led : List Entry) (start more : ℕ) → start + more ≤ length led → ((q : ℕ) (y : Entry) → start ≤ q → q < start + more → slice_get led q ≡ Some y → (before : Option (List ℕ)) → part_by o y.led before ≡ before)
    → part_of o (take (start + more) led) ≡ part_of o (take start led)
part_still o led start zero within each = ap (λ (n : ℕ). part_of o (take n led)) (plus_none start)
part_still o led start (suc more) within each =
    let there = slice_get_cases led (start + more) in
    let next : take (start + suc more) led ≡ take (suc (start + more)) led = ap (λ (n : ℕ). take n led) (plus_next start more) in
    elim there.1 [
      | inl some ↦
          ap (part_of o) (next ∙ take_next led (start + more) some.0 some.2)
          ∙ (part_push o None (take (start + more) led) some.0
          ∙ (each (start + more) some.0 (omega arith) (omega arith) some.2 (part_of o (take (start + more) led))
          ∙ part_still o led start more (omega arith) (λ q y from below at. each q y from (omega arith) at)))
      | inr none ↦ absurd (let past = none.0 in omega arith)
    ]

-- an entry that joins a block of an origin is of that code and path
joins_kind : (v : WorldState) (code : ℕ) (path : List (List ℕ)) (y : Entry) (a : BlockArrival) (added : Added) → (e : IsEntry v.asks v.acts v.server.links y) → y.led ≡ to_parts a added → a.origin ≡ origin_at code path
    → IsOfCodeAndPath code path e.message
joins_kind v code path y a added e is origin = by_reason e.leads
  where
    by_reason : LeadsTo client_place e.now e.message v.server.links e.seen y.led y.reply → IsOfCodeAndPath code path e.message
    by_reason (is_refused some same) = absurd (some e.is.options)
    by_reason (finds_no_memory same says) = absurd (cc)
    by_reason (gets_links act links_it same says) = absurd (cc)
    by_reason (gets_no_links links_it same says) = absurd (cc)
    by_reason (gets_block b found other same says) = absurd (cc)
    by_reason (is_acted_on b act apart same what code_fits place says) = absurd (cc)
    by_reason (is_acted_on_whole b block body other apart same what code_fits place says) = absurd (cc)
    by_reason (is_joined b other wants same says) =
        let both_same : to_parts (block_arrival client_place e.now e.message b) other ≡ to_parts a added = sym same ∙ is in
        let one : block_arrival client_place e.now e.message b ≡ a = cc in
        (ap (λ (y : BlockArrival). y.origin.code) one ∙ ap (λ (o : Origin). o.code) origin, ap (λ (y : BlockArrival). y.origin.path) one ∙ ap (λ (o : Origin). o.path) origin)

-- ---- the row

-- the whole row
record WriteRow (v : WorldState) (x : Exact v) (code : ℕ) (path : List (List ℕ)) (first : RowAsk) (row : List RowAsk) : Type 0 where
  row_is : Row v (IsOfCodeAndPath code path) first row
  write : IsWrite code

-- each ask of the whole is at most this one, or one of those left
abbrev AreUpTo : RowAsk → List RowAsk → ℕ → List RowAsk → Type 0
AreUpTo first row k left = (j : ℕ) → Contains (asks_of (first ∷ row)) j → (j ≤ k) ⊎ Contains (asks_of left) j

-- those left are later than the first of them
later_than : (k : ℕ) (row : List RowAsk) (j : ℕ) → RisesFrom k row → Contains (asks_of row) j → k < j
later_than k [] j up has = absurd (none_of j has)
later_than k (z ∷ row) j up has = elim (one_of z row j has) [
  | inl same ↦ (let less = up.0 in omega arith)
  | inr rest ↦ (let more = later_than z.ask row j up.1 rest in let less = up.0 in omega arith)
]

-- the bytes that are joined before the next ask of a row are those up to the one before it
still_joined : (v : WorldState) (x : Exact v) (code : ℕ) (path : List (List ℕ)) (n m : ℕ) (first : RowAsk) (row : List RowAsk) (z w : RowAsk) (left : List RowAsk) → WriteRow v x code path first row
    → (a : WriteEntry v x code path n z) → (b : WriteEntry v x code path m w) → z.ask < w.ask → first.ask ≤ z.ask → w.ask ≤ (last_of first row).ask → EndsWell v.ends z.ask → EndsWell v.ends w.ask
    → AreUpTo first row z.ask (w ∷ left) → RisesFrom w.ask left
    → part_of (origin_at code path) (take b.for_it.place x.led) ≡ part_of (origin_at code path) (take (suc a.for_it.place) x.led)
still_joined v x code path n m first row z w left whole a b less from to_last well_z well_w split up =
    let i = a.for_it in
    let j = b.for_it in
    let a_ask : i.entry.ask ≡ z.ask = i.ask in
    let b_ask : j.entry.ask ≡ w.ask = j.ask in
    let before : i.place < j.place = in_order v x i.place j.place i.entry j.entry i.there j.there (omega arith) (subst (EndsWell v.ends) (sym i.ask) well_z) in
    let within = slice_get_within x.led j.place j.entry j.there in
    let far : j.place ≡ suc i.place + (j.place - suc i.place) = omega arith in
    ap (λ (k : ℕ). part_of (origin_at code path) (take k x.led)) far
    ∙ part_still (origin_at code path) x.led (suc i.place) (j.place - suc i.place) (omega arith) (λ q y start below at_q held. quiet (origin_at code path) y.led held (λ c added is origin.
    let found = between v x (IsOfCodeAndPath code path) first row whole.row_is i.place q j.place i.entry y j.entry i.there at_q j.there (omega arith) (omega arith) (omega arith) (omega arith)
    (subst (EndsWell v.ends) (sym j.ask) well_w) (λ e. joins_kind v code path y c added e is origin) in
    elim (split y.ask found.0) [
      | inl low ↦ absurd (let more = found.1 in omega arith)
      | inr rest ↦ elim (one_of w left y.ask rest) [
        | inl same ↦ absurd (let under = found.2 in omega arith)
        | inr later ↦ absurd (let over = later_than w.ask left y.ask up later in let under = found.2 in omega arith)
      ]
    ]))

-- the bytes that a block of the row has joined
joined_by : (v : WorldState) (x : Exact v) (code : ℕ) (path : List (List ℕ)) (n : ℕ) (z : RowAsk) (bytes : List ℕ) → (r : WriteEntry v x code path n z) → (c : Continued code path n z r.for_it.entry.led)
    → bytes_with c.arrival (part_of (origin_at code path) (take r.for_it.place x.led)) ≡ bytes → part_of (origin_at code path) (take (suc r.for_it.place) x.led) ≡ Some bytes
joined_by v x code path n z bytes r c is =
    let o : Origin = origin_at code path in
    let own : is_of o c.arrival ≡ true = is_itself o (new_part c.arrival.origin 0) c.is.origin in
    ap (part_of o) (take_next x.led r.for_it.place r.for_it.entry r.for_it.there)
    ∙ (part_push o None (take r.for_it.place x.led) r.for_it.entry
    ∙ (ap (λ (l : Led). part_by o l (part_of o (take r.for_it.place x.led))) c.led_is
    ∙ (ap (λ (t : Bool). if t then Some (bytes_with c.arrival (part_of o (take r.for_it.place x.led))) else part_of o (take r.for_it.place x.led)) own
    ∙ ap (λ (l : List ℕ). Some l) is)))

-- the bytes with the first block, and with a later one
first_bytes : (code : ℕ) (path : List (List ℕ)) (body : List ℕ) (a : BlockArrival) (before : Option (List ℕ)) → IsBlockAt code path 0 body a → bytes_with a before ≡ body
first_bytes code path body a before is =
    ap (λ (t : Bool). if t then a.payload else unwrap_or before [] ++ a.payload) (is_equal a.block.number 0 is.number) ∙ is.payload

later_bytes : (code : ℕ) (path : List (List ℕ)) (n : ℕ) (body : List ℕ) (a : BlockArrival) (before : Option (List ℕ)) (bytes : List ℕ) → n ≢ 0 → IsBlockAt code path n body a → before ≡ Some bytes → bytes_with a before ≡ bytes ++ body
later_bytes code path n body a before bytes later is same =
    ap (λ (t : Bool). if t then a.payload else unwrap_or before [] ++ a.payload) (differs a.block.number (λ e. later (sym is.number ∙ e)))
    ∙ (ap (λ (o : Option (List ℕ)). unwrap_or o [] ++ a.payload) same ∙ ap (λ (l : List ℕ). bytes ++ l) is.payload)
  where
    differs : (m : ℕ) → (m ≡ 0 → ⊥) → (m == 0) ≡ false
    differs m isnt = grind (arith, nat_tests)

-- the last ask of a row, and its effect
record WritesTo (v : WorldState) (x : Exact v) (code : ℕ) (path : List (List ℕ)) (last : RowAsk) (bytes : List ℕ) : Type 0 where
  n : ℕ
  entry : WriteEntry v x code path n last
  done : Finished v x code path n last entry
  all : done.act.what.request.body ≡ bytes

-- an ask of a row isn't the last, and led to no act; or it is
abbrev IsNoActOrLast : (v : WorldState) → Exact v → ℕ → ℕ → Type 0
IsNoActOrLast v x last k = (k ≡ last) ⊎ ((i : ℕ) × (y : Entry) × (slice_get x.led i ≡ Some y) × (y.ask ≡ k) × (act_in y.led ≡ None))

-- the bytes of the block of an entry
record BytesAt (v : WorldState) (x : Exact v) (code : ℕ) (path : List (List ℕ)) (n : ℕ) (z : RowAsk) (bytes : List ℕ) (r : WriteEntry v x code path n z) : Type 0 where
  are : (a : BlockArrival) → IsBlockAt code path n z.body a → bytes_with a (part_of (origin_at code path) (take r.for_it.place x.led)) ≡ bytes

whole_is : (v : WorldState) (x : Exact v) (code : ℕ) (path : List (List ℕ)) (n : ℕ) (z : RowAsk) (bytes : List ℕ) → (r : WriteEntry v x code path n z) → (f : Finished v x code path n z r) → BytesAt v x code path n z bytes r
    → f.act.what.request.body ≡ bytes
whole_is v x code path n z bytes r f is =
    let fed : IsFed v.server.links (take r.for_it.place x.led) (to_act_on_whole f.arrival f.act)
    = subst (IsFed v.server.links (take r.for_it.place x.led)) f.led_is
    (subst (λ (e : Entry). IsFed v.server.links (take r.for_it.place x.led) e.led) (get_or_from_slice_get x.led r.for_it.place r.for_it.entry r.for_it.entry r.for_it.there)
    (x.fed r.for_it.place r.for_it.entry (slice_get_within x.led r.for_it.place r.for_it.entry r.for_it.there))) in
    fed ∙ (ap (λ (o : Origin). bytes_with f.arrival (part_of o (take r.for_it.place x.led))) f.is.origin ∙ is.are f.arrival f.is)

success_of : (z : RowAsk) (left : List RowAsk) → IsTaken z left → z.code / 32 ≡ 2
success_of z [] taken = taken.0
success_of z (w ∷ left) taken = omega arith

-- the outcome of a row from an ask on, where the bytes up to that are these
record RestWrites (v : WorldState) (x : Exact v) (code : ℕ) (path : List (List ℕ)) (z : RowAsk) (left : List RowAsk) (bytes : List ℕ) : Type 0 where
  writes : WritesTo v x code path (last_of z left) bytes
  acts : (k : ℕ) → Contains (asks_of (z ∷ left)) k → IsNoActOrLast v x (last_of z left).ask k

rest_writes : (v : WorldState) (x : Exact v) (code : ℕ) (path : List (List ℕ)) (szx n : ℕ) (first : RowAsk) (row : List RowAsk) (z : RowAsk) (left : List RowAsk) (bytes : List ℕ) → WriteRow v x code path first row
    → (r : WriteEntry v x code path n z) → BytesAt v x code path n z bytes r → AreWrites v.asks v.ends code path szx n (z ∷ left) → RisesFrom z.ask left → AreUpTo first row z.ask left → first.ask ≤ z.ask
    → (last_of z left).ask ≡ (last_of first row).ask → RestWrites v x code path z left (bytes ++ joined_bodies left)
rest_writes v x code path szx n first row z [] bytes whole r at_z are up split from ends =
    let f = finished v x code path n z whole.write r are.2.0 are.2.1 in
    record {
      writes = record { n = n; entry = r; done = f; all = whole_is v x code path n z bytes r f at_z ∙ sym (append-nil bytes) };
      acts = λ k has. elim (one_of z [] k has) [
        | inl same ↦ inl (sym same)
        | inr rest ↦ absurd (none_of k rest)
      ];
    }
rest_writes v x code path szx n first row z (w ∷ left) bytes whole r at_z are up split from ends =
    let c = continued v x code path n z whole.write r are.2 in
    let b = write_entry v x code path szx (n + 1) w are.3.0 are.3.1 (success_of w left are.3.2) in
    let well_z : EndsWell v.ends z.ask = ended_well v.ends z are.1 (λ e. let code_is = are.2 in omega arith) in
    let class = success_of w left are.3.2 in
    let well_w : EndsWell v.ends w.ask = ended_well v.ends w are.3.1 (λ e. omega arith) in
    let to_last = up_to_last w left up.1 in
    let less = up.0 in
    let held = joined_by v x code path n z bytes r c (at_z.are c.arrival c.is) in
    let still = still_joined v x code path n (n + 1) first row z w left whole r b less from (omega arith) well_z well_w split up.1 in
    let at_w : BytesAt v x code path (n + 1) w (bytes ++ w.body) b
    = record { are = λ a is. later_bytes code path (n + 1) w.body a (part_of (origin_at code path) (take b.for_it.place x.led)) bytes (λ e. omega arith) is (still ∙ held) } in
    let rest = rest_writes v x code path szx (n + 1) first row w left (bytes ++ w.body) whole b at_w are.3 up.1 (λ j has. next_split j (split j has)) (omega arith) ends in
    record {
      writes = subst (WritesTo v x code path (last_of w left)) (append_assoc bytes w.body (joined_bodies left)) rest.writes;
      acts = λ k has. elim (one_of z (w ∷ left) k has) [
        | inl same ↦ inr (r.for_it.place, r.for_it.entry, r.for_it.there, r.for_it.ask ∙ same, ap act_in c.led_is)
        | inr later ↦ rest.acts k later
      ];
    }
  where
    next_split : (j : ℕ) → (j ≤ z.ask) ⊎ Contains (asks_of (w ∷ left)) j → (j ≤ w.ask) ⊎ Contains (asks_of left) j
    next_split j (inl low) = inl (let less = up.0 in omega arith)
    next_split j (inr has) = elim (one_of w left j has) [
      | inl same ↦ inl (omega arith)
      | inr rest ↦ inr rest
    ]

writes_well : (v : WorldState) (code : ℕ) (path : List (List ℕ)) (szx n : ℕ) (row : List RowAsk) (k : ℕ) → AreWrites v.asks v.ends code path szx n row → Contains (asks_of row) k → EndsWell v.ends k
writes_well v code path szx n [] k are has = absurd (none_of k has)
writes_well v code path szx n (z ∷ row) k are has = elim (one_of z row k has) [
  | inl same ↦ subst (EndsWell v.ends) same (ended_well v.ends z are.1 (λ e. let class = success_of z row are.2 in omega arith))
  | inr rest ↦ writes_well v code path szx (n + 1) row k are.3 rest
]

-- two acts for the last ask are one
one_act : (v : WorldState) (x : Exact v) (other : Act) (i : ℕ) (y : Entry) (a : Acted) → Contains v.acts other → slice_get x.led i ≡ Some y → y.ask ≡ other.ask → act_in y.led ≡ Some a → other ≡ record { ask = y.ask; acted = a }
one_act v x other i y a has at same made =
    let h : HasEntry x.led other = All-contains (HasEntry x.led) v.acts other x.ledger.acts_have has in
    let there : slice_get x.led h.has.0 ≡ Some h.entry = slice_get-get_or x.led h.has.0 h.entry h.has.1 ∙ ap (λ (e : Entry). Some e) h.has.2 in
    let one : h.entry ≡ y = one_place v x h.has.0 i h.entry y there at (h.same ∙ sym same) in
    let acted : other.acted ≡ a = same_Some other.acted a (sym h.acted ∙ (ap (λ (e : Entry). act_in e.led) one ∙ made)) in
    let act_of : ℕ → Acted → Act = λ k b. record { ask = k; acted = b } in
    ap (λ (k : ℕ). act_of k other.acted) (sym same) ∙ ap (act_of y.ask) acted

-- an entry that led to no act has none
no_act : (v : WorldState) (x : Exact v) (other : Act) (i : ℕ) (y : Entry) → Contains v.acts other → slice_get x.led i ≡ Some y → y.ask ≡ other.ask → act_in y.led ≡ None → ⊥
no_act v x other i y has at same none =
    let h : HasEntry x.led other = All-contains (HasEntry x.led) v.acts other x.ledger.acts_have has in
    let there : slice_get x.led h.has.0 ≡ Some h.entry = slice_get-get_or x.led h.has.0 h.entry h.has.1 ∙ ap (λ (e : Entry). Some e) h.has.2 in
    let one : h.entry ≡ y = one_place v x h.has.0 i h.entry y there at (h.same ∙ sym same) in
    let wrong : Some other.acted ≡ None = sym h.acted ∙ (ap (λ (e : Entry). act_in e.led) one ∙ none) in
    cc

pub writes_are_one_act : WritesAreOneAct
writes_are_one_act first_id exchanges observers moves w v code path szx z row start plays few write are order no_other =
    let s = stands_after_all exchanges observers moves w v plays few (stands_at_start first_id exchanges observers w start) in
    let x = s.exact in
    let r = write_entry v x code path szx 0 z are.0 are.1 (success_of z row are.2) in
    let whole : WriteRow v x code path z row = record {
      row_is = record {
        request = are.0.asked.request;
        ask = are.0.asked.ask;
        no_other = no_other;
        well = λ k has. writes_well v code path szx 0 (z ∷ row) k are has;
      };
      write = write;
    } in
    let up = rises z row order in
    let bytes : BytesAt v x code path 0 z z.body r = record { are = λ a is. first_bytes code path z.body a (part_of (origin_at code path) (take r.for_it.place x.led)) is } in
    let rest = rest_writes v x code path szx 0 z row z row z.body whole r bytes are up (λ j has. first_split j (one_of z row j has)) (omega arith) refl in
    let last = rest.writes in
    let e = last.entry in
    let what : last.done.act.what ≡ with_whole_body (joined_bodies (z ∷ row)) (what_is_asked e.is.message)
    = last.done.what ∙ ap (λ (l : List ℕ). with_whole_body l (what_is_asked e.is.message)) (sym (ap (λ (p : AskSeen). p.request.body) last.done.what) ∙ last.all) in
    record {
      act = record { ask = e.for_it.entry.ask; acted = last.done.act };
      made = e.is.acted last.done.act (ap act_in last.done.led_is);
      for_last = e.for_it.ask;
      asked = record { request = e.is.request; ask = e.is.ask; message = e.is.message; spells = e.is.is.message.spells };
      on_all = what;
      only = λ other has here. elim (rest.acts other.ask here) [
        | inl same ↦ one_act v x other e.for_it.place e.for_it.entry last.done.act has e.for_it.there (e.for_it.ask ∙ sym same) (ap act_in last.done.led_is)
        | inr some ↦ absurd (no_act v x other some.0 some.1 has some.2 some.3 some.4)
      ];
    }
  where
    first_split : (j : ℕ) → (z.ask ≡ j) ⊎ Contains (asks_of row) j → (j ≤ z.ask) ⊎ Contains (asks_of row) j
    first_split j (inl same) = inl (omega arith)
    first_split j (inr rest) = inr rest
