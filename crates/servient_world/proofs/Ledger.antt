-- The effects of the copies of asks that were admitted, in the order in which they were (`Entry`), and the bodies and
-- parts afterwards. `Ledger` has the facts on all entries.
use Rattle.std.proofs.Common.{◌≡◌, ◌≢◌, ◌⊎◌, ℕ, ◌+◌, ◌<◌, ◌≤◌, ◌∙◌, ◌&&◌, Bool, true, false, Option, Some, None, List, [], ◌∷◌, ◌++◌, take, length, get_or, inl, inr, refl, sym, ap}
use Rattle.std.specs.Prelude.{◌==◌, All, AllPairs, Contains, slice_get, is_some, unwrap_or, if◌then◌else◌}
use Rattle.std.proofs.lemmas.List.Elements.{Contains-append_left}
use Rattle.coap_msg.specs.declared.constants.TheConstants.{SERVICE_UNAVAILABLE}
use Rattle.coap_msg.specs.Grammar.{CoapMessage}
use Rattle.coap_exchange.specs.Admission.{Arrival}
use Rattle.coap_client.specs.declared.outstanding.Outstanding.{Outstanding}
use Rattle.coap_client.specs.Answers.{sequence_of}
use Rattle.coap_blocks.specs.Bodies.{Content}
use Rattle.coap_blocks.specs.Paths.{is_same_path}
use Rattle.coap_blocks.specs.Parts.{Origin, Arrival as BlockArrival, is_part_of, new_part}
use Rattle.coap_blocks.specs.declared.added.Added.{Added}
use Rattle.coap_blocks.specs.declared.added.Added.TheVariants as answer
use Rattle.thing_ops.specs.declared.outcome.Outcome.TheVariants.{Memory}
use Rattle.coap_opts.specs.Reading.{AskSeen, asked as what_is_asked}
use Rattle.coap_bind.specs.declared.server.Server.{Server}
use Rattle.coap_bind.specs.declared.blocks.BlockUse.{BlockUse}
use Rattle.coap_bind.specs.declared.blocks.BlockUse.TheVariants as blocks
use Rattle.coap_bind.specs.Blocks.{outcome_content, is_kept, answer_reply}
use Rattle.coap_bind.specs.Links.{is_links_path, links_content, size_asked}
use Rattle.coap_bind.specs.Laws.{Did as ServerDid}
use Rattle.coap_bind.specs.Server.{observing_in}
use Rattle.coap_bind.specs.Treating.{Acted}
use Rattle.coap_bind.specs.Writing.{Reply, reply_of, reply_options, observed as observed_reply}
use Rattle.servient_world.specs.World.{client_place, Act, End, answered, observed, reset, timed_out, AskEnd}
use Rattle.servient_world.specs.Led.{Led, to_refusal, to_no_memory, to_links, to_later_block, to_parts, to_act, to_act_on_whole, act_in, LeadsTo, is_refused, finds_no_memory, gets_links, gets_no_links, gets_block, is_joined, is_acted_on, is_acted_on_whole}
use Rattle.servient_world.specs.Laws.{blocks_for, said_of, Asked, AsksLinks, AsksOfBlocks}
use Rattle.servient_world.proofs.Places.{at_more}
use Rattle.servient_world.proofs.AskLaws.{IsAskOf}
use Rattle.servient_world.proofs.Holds.{IsAdmitted}
use Rattle.servient_world.proofs.ReplyLaws.{unnumbered, links_unnumbered}
use Rattle.servient_world.proofs.BlockReplies.{wants_later, wants_joining, said_as_asked, joined_as_asked, later_unnumbered, added_unnumbered}

-- ---- entries

-- the effect of a copy of an ask that was admitted, and the reply
pub record Entry : Type 0 where
  pub ask : ℕ
  pub led : Led
  pub reply : Reply

-- its cause: it is the message of that ask, and the act that it led to is noted
pub record IsEntry (asks : List Outstanding) (acts : List Act) (links : List ℕ) (x : Entry) : Type 0 where
  pub request : Outstanding
  pub ask : slice_get asks x.ask ≡ Some request
  pub message : CoapMessage
  pub is : IsAskOf request message
  pub now : ℕ
  pub seen : Option ℕ
  pub leads : LeadsTo client_place now message links seen x.led x.reply
  pub acted : (a : Acted) → act_in x.led ≡ Some a → Contains acts (record { ask = x.ask; acted = a })

-- an act has its entry
pub record HasEntry (led : List Entry) (act : Act) : Type 0 where
  pub entry : Entry
  pub has : Contains led entry
  pub same : entry.ask ≡ act.ask
  pub acted : act_in entry.led ≡ Some act.acted

-- the effect of the first of two asks came before that of the second: it was sent less than 193 seconds after that
pub record IsInTime (asks : List Outstanding) (j k : ℕ) : Type 0 where
  pub one : Outstanding
  pub other : Outstanding
  pub first : slice_get asks j ≡ Some one
  pub second : slice_get asks k ≡ Some other
  pub soon : one.first < other.first + 193000

-- ---- the body that an endpoint reads, and the part that it writes

-- the body that an act leaves for the later blocks of the representation at a path, or the one before
abbrev pub given_at : List (List ℕ) → BlockUse → Acted → Option Content → Option Content
given_at path blocks.Whole a before = before
given_at path (blocks.Joined b) a before = before
given_at path (blocks.Gives g) a before = if is_same_path a.what.request.path path && is_kept g.szx a.outcome then Some (outcome_content a.outcome) else before

abbrev pub given_by : List (List ℕ) → Led → Option Content → Option Content
given_by path to_refusal before = before
given_by path to_no_memory before = before
given_by path to_links before = before
given_by path (to_later_block other b found) before = before
given_by path (to_parts a added) before = before
given_by path (to_act a) before = given_at path (blocks_for a.what) a before
given_by path (to_act_on_whole b a) before = before

abbrev pub given_from : List (List ℕ) → Option Content → List Entry → Option Content
given_from path before [] = before
given_from path before (x ∷ led) = given_from path (given_by path x.led before) led

-- the body that these leave
abbrev pub given_to : List (List ℕ) → List Entry → Option Content
given_to path led = given_from path None led

-- the bytes that are joined once a block was, to these before
abbrev pub bytes_with : BlockArrival → Option (List ℕ) → List ℕ
bytes_with a before = if a.block.number == 0 then a.payload else unwrap_or before [] ++ a.payload

-- a block is of this origin
abbrev pub is_of : Origin → BlockArrival → Bool
is_of o a = is_part_of o (new_part a.origin 0)

abbrev pub part_with : Origin → BlockArrival → Added → Option (List ℕ) → Option (List ℕ)
part_with o a answer.Continue before = if is_of o a then Some (bytes_with a before) else before
part_with o a (answer.Complete place) before = before
part_with o a answer.BadBlock before = before
part_with o a answer.Incomplete before = before
part_with o a answer.TooLarge before = before
part_with o a answer.Full before = before

abbrev pub part_by : Origin → Led → Option (List ℕ) → Option (List ℕ)
part_by o to_refusal before = before
part_by o to_no_memory before = before
part_by o to_links before = before
part_by o (to_later_block path b found) before = before
part_by o (to_parts a added) before = part_with o a added before
part_by o (to_act a) before = before
part_by o (to_act_on_whole b a) before = before

abbrev pub part_from : Origin → Option (List ℕ) → List Entry → Option (List ℕ)
part_from o before [] = before
part_from o before (x ∷ led) = part_from o (part_by o x.led before) led

-- the bytes that were joined of this origin, and not yet acted on
abbrev pub part_of : Origin → List Entry → Option (List ℕ)
part_of o led = part_from o None led

pub given_push : (path : List (List ℕ)) (before : Option Content) (led : List Entry) (x : Entry) → given_from path before (led ++ x ∷ []) ≡ given_by path x.led (given_from path before led)
given_push path before [] x = refl
given_push path before (y ∷ led) x = given_push path (given_by path y.led before) led x

pub part_push : (o : Origin) (before : Option (List ℕ)) (led : List Entry) (x : Entry) → part_from o before (led ++ x ∷ []) ≡ part_by o x.led (part_from o before led)
part_push o before [] x = refl
part_push o before (y ∷ led) x = part_push o (part_by o y.led before) led x

-- the effect of an entry is by the bodies that those before it left: the body that is given, and the body that is acted
-- on
abbrev pub IsGivenFor : List (List ℕ) → Option Content → List ℕ → List Entry → Type 0
IsGivenFor path None links before = Unit {0}
IsGivenFor path (Some c) links before = (is_links_path path ≡ true → c ≡ links_content links) × (is_links_path path ≡ false → given_to path before ≡ Some c)

abbrev pub IsFed : List ℕ → List Entry → Led → Type 0
IsFed links before to_refusal = Unit {0}
IsFed links before to_no_memory = Unit {0}
IsFed links before to_links = Unit {0}
IsFed links before (to_later_block path b found) = IsGivenFor path found links before
IsFed links before (to_parts a added) = Unit {0}
IsFed links before (to_act a) = Unit {0}
IsFed links before (to_act_on_whole b a) = a.what.request.body ≡ bytes_with b (part_of b.origin before)

abbrev pub AreFed : List ℕ → List Entry → Type 0
AreFed links led = (k : ℕ) (d : Entry) → k < length led → IsFed links (take k led) (get_or led k d).led

-- ---- ends

-- an ask that ended with a response was told that the table was full
abbrev pub IsTurnedAway : End → Type 0
IsTurnedAway (answered code block payload) = code ≡ SERVICE_UNAVAILABLE
IsTurnedAway observed = Unit {0}
IsTurnedAway reset = Unit {0}
IsTurnedAway timed_out = Unit {0}

-- If a later ask led to something before an earlier one did, that one had ended, and not by its effect.
abbrev pub ComesFirst : List AskEnd → Entry → Entry → Type 0
ComesFirst ends y x = x.ask < y.ask → (e : AskEnd) → Contains ends e → e.ask ≡ x.ask → IsTurnedAway e.end

-- ---- facts on all

pub record Ledger (led : List Entry) (asks : List Outstanding) (acts : List Act) (s : Server) (now : ℕ) : Type 0 where
  -- each is of a request that was admitted
  pub capacity : ℕ
  pub history : List Arrival
  pub served : ServerDid capacity history s
  pub early : s.exchanges.moment ≤ now
  pub admitted : All (λ (x : Entry). IsAdmitted capacity history asks x.ask) led
  -- no two are of one ask, and they are in the order of time
  pub once : AllPairs (λ (x y : Entry). x.ask ≢ y.ask) led
  pub in_time : AllPairs (λ (x y : Entry). IsInTime asks x.ask y.ask) led
  pub past : All (λ (a : Outstanding). a.first ≤ now) asks
  pub rising : AllPairs (λ (a b : Outstanding). a.first ≤ b.first) asks
  -- they are as the messages say, and all acts are among them
  pub entries : All (IsEntry asks acts s.links) led
  pub acts_have : All (HasEntry led) acts

-- ---- the cause of an entry's reply

-- an act, and its outcome as the server writes it
pub record IsActReply (acts : List Act) (k : ℕ) (r : Reply) : Type 0 where
  pub act : Act
  pub made : Contains acts act
  pub for_it : act.ask ≡ k
  pub seen : Option ℕ
  pub says : r ≡ observed_reply seen (said_of act.acted)

-- no act, and no Observe
pub record IsOtherReply (asks : List Outstanding) (k : ℕ) (r : Reply) : Type 0 where
  pub why : (r ≡ reply_of Memory) ⊎ (AsksLinks asks k ⊎ AsksOfBlocks asks k)
  pub silent : sequence_of (reply_options r) ≡ None

act_reply : (acts : List Act) (k : ℕ) (a : Acted) (seen : Option ℕ) (r : Reply) (bl : BlockUse) → Contains acts (record { ask = k; acted = a })
    → r ≡ observed_reply seen (answer_reply bl a.outcome) → answer_reply bl a.outcome ≡ said_of a → IsActReply acts k r
act_reply acts k a seen r bl has is same = record {
  act = record { ask = k; acted = a };
  made = has;
  for_it = refl;
  seen = seen;
  says = is ∙ ap (observed_reply seen) same;
}

pub entry_reply : (asks : List Outstanding) (acts : List Act) (links : List ℕ) (x : Entry) → IsEntry asks acts links x → IsActReply acts x.ask x.reply ⊎ IsOtherReply asks x.ask x.reply
entry_reply asks acts links x e = by_reason e.leads
  where
    its : Asked asks x.ask
    its = record { request = e.request; ask = e.ask; message = e.message; spells = e.is.message.spells }

    by_reason : LeadsTo client_place e.now e.message links e.seen x.led x.reply → IsActReply acts x.ask x.reply ⊎ IsOtherReply asks x.ask x.reply
    by_reason (is_refused some same) = absurd (some e.is.options)
    by_reason (finds_no_memory same is) = inr (record { why = inl is; silent = ap (λ (r : Reply). sequence_of (reply_options r)) is ∙ unnumbered Memory })
    by_reason (gets_links wants links_it same is) = inr (record {
      why = inr (inl (its, links_it));
      silent = ap (λ (r : Reply). sequence_of (reply_options r)) is ∙ links_unnumbered (size_asked (observing_in e.message) (what_is_asked e.message)) links;
    })
    by_reason (gets_no_links links_it same is) = inr (record { why = inr (inl (its, links_it)); silent = ap (λ (r : Reply). sequence_of (reply_options r)) is })
    by_reason (gets_block b found wants same is) =
        let w = wants_later e.message b wants in
        inr (record { why = inr (inr (its, inr (b, w.block, w.later))); silent = ap (λ (r : Reply). sequence_of (reply_options r)) is ∙ later_unnumbered b found })
    by_reason (is_joined b added wants same is) = inr (record {
      why = inr (inr (its, inl (ap is_some (wants_joining e.message b wants))));
      silent = added_unnumbered b added x.reply is;
    })
    by_reason (is_acted_on a wants apart same what code place is) =
        inl (act_reply acts x.ask a e.seen x.reply _ (e.acted a (ap act_in same)) is
        (said_as_asked e.now e.message a.outcome wants ∙ ap (λ (w : AskSeen). answer_reply (blocks_for w) a.outcome) (sym what)))
    by_reason (is_acted_on_whole a b body wants apart same what code place is) =
        inl (act_reply acts x.ask a e.seen x.reply (blocks.Joined b) (e.acted a (ap act_in same)) is
        (ap (λ (u : BlockUse). answer_reply u a.outcome) (sym (joined_as_asked e.message b body wants)) ∙ ap (λ (w : AskSeen). answer_reply (blocks_for w) a.outcome) (sym what)))

-- ---- more asks, acts and entries

pub entry_more : (asks other_asks : List Outstanding) (acts more : List Act) (links : List ℕ) (x : Entry) → IsEntry asks acts links x → IsEntry (asks ++ other_asks) (acts ++ more) links x
entry_more asks other_asks acts more links x e = record {
  request = e.request;
  ask = at_more asks other_asks x.ask e.request e.ask;
  message = e.message;
  is = e.is;
  now = e.now;
  seen = e.seen;
  leads = e.leads;
  acted = λ a is. Contains-append_left acts more (record { ask = x.ask; acted = a }) (e.acted a is);
}

pub in_time_more : (asks more : List Outstanding) (j k : ℕ) → IsInTime asks j k → IsInTime (asks ++ more) j k
in_time_more asks more j k t = record {
  one = t.one;
  other = t.other;
  first = at_more asks more j t.one t.first;
  second = at_more asks more k t.other t.second;
  soon = t.soon;
}

pub has_entry_more : (led more : List Entry) (act : Act) → HasEntry led act → HasEntry (led ++ more) act
has_entry_more led more act h = record { entry = h.entry; has = Contains-append_left led more h.entry h.has; same = h.same; acted = h.acted }
