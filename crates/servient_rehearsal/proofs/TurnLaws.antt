-- Turns that the real objects play, one after another.
use Rattle.std.proofs.Common.{◌≡◌, ◌∙◌, ℕ, List, [], ◌∷◌, ◌++◌, map, inl, inr, refl, sym, ap, subst, append_assoc}
use Rattle.std.specs.Prelude.{Option, Some, None, slice_get}
use Rattle.std.proofs.lemmas.List.{append-nil, map-append}
use Rattle.std.proofs.lemmas.List.Elements.{filter_map-append}
use Rattle.servient_base.specs.Moves.{Each, Makes}
use Rattle.servient_base.proofs.MovesLaws.{each_more}
use Rattle.coap_client.specs.declared.state.State.{State as ClientState}
use Rattle.thing_handler.specs.Handler.{Seen}
use Rattle.thing_handler.specs.Turns.{HandlerCall, RackShows}
use Rattle.thing_handler.proofs.RackLaws.{rack_shows_none, rack_shows_then}
use Rattle.servient_trace.specs.Trace.{Sighting, call_in, calls_in}
use Rattle.servient_core.specs.Machine.{Site}
use Rattle.servient_core.specs.Serving.{StandsFor}
use Rattle.servient_core.specs.declared.layers.Layers.{Layers}
use Rattle.servient_world.specs.World.{Datagram}
use Rattle.servient_ends.specs.Ends.{Turn, delivers, ArrivesIfSent, TakesAll}
use Rattle.servient_rehearsal.specs.declared.moves.Move.{Move}
use Rattle.servient_rehearsal.specs.declared.notes.Notes.{Notes}
use Rattle.servient_rehearsal.specs.Moves.{turn_of}
use Rattle.servient_rehearsal.specs.Noted.{Noted, noted_of, last_registration}
use Rattle.servient_rehearsal.specs.Turns.{Played, TakesTurn, seen_if_sent, values_if_sent}
use Rattle.servient_rehearsal.specs.Playing.{Kept, kept, IsShown, AreLeft, AreNoted, ShowsCalls, AtMost, PlaysTurn, PlaysTurnAtMost, PlaysMoves, PlaysSomeMoves}

-- ---- what a rack shows

pub shows_none : (slots : List Seen) → ShowsCalls slots slots []
shows_none slots = rack_shows_none slots

shows_then : (w v u : List Seen) (a b : List Sighting) → ShowsCalls w v a → ShowsCalls v u b → ShowsCalls w u (a ++ b)
shows_then w v u a b p q = subst (λ (l : List HandlerCall). RackShows w u l) (sym (filter_map-append call_in a b)) (rack_shows_then w v u (calls_in a) (calls_in b) p q)

-- ---- a datagram of a number

pub record ArrivesSeen (site : Site) (o : Option Datagram) (p : Played) (seen : List Sighting) (q : Played) : Type 0 where
  pub comes : ArrivesIfSent site o p.ends q.ends
  pub saw : seen ≡ seen_if_sent site o p.ends q.ends comes
  pub values : q.values ≡ p.values ++ values_if_sent site o p.ends q.ends comes

pub arrives_turn : (site : Site) (i : ℕ) (p : Played) (seen : List Sighting) (q : Played) (o : Option Datagram) → slice_get p.ends.world.sent i ≡ o → ArrivesSeen site o p seen q → TakesTurn site (delivers i) p seen q
arrives_turn site i p seen q o e a =
    let b : ArrivesSeen site (slice_get p.ends.world.sent i) p seen q = subst (λ (x : Option Datagram). ArrivesSeen site x p seen q) (sym e) a in
    record { takes = b.comes; saw = b.saw; values = b.values }

-- ---- one turn

-- both ends after a turn, from where they were: this is what is to be noted, and the last ask that registered
pub record Turned (site : Site) (m : Turn) (p : Played) (servient : Layers) (client : ClientState) (before after : List Seen) (now : Noted) (last : ℕ) : Type 0 where
  pub next : Played
  pub stands : StandsFor servient next.ends.servient
  pub same_client : next.ends.world.client ≡ client
  pub seen : List Sighting
  pub turn : TakesTurn site m p seen next
  pub shows : ShowsCalls before after seen
  pub shown : IsShown now next
  pub registered : last ≡ last_registration next.ends.world.asks

-- whatever both ends were, of which this was noted
abbrev pub Turns : Site → Turn → Kept → Layers → ClientState → List Seen → List Seen → Noted → ℕ → Type 0
Turns site m c servient client before after now last = (p : Played) → AreNoted c p → Turned site m p servient client before after now last

-- where all was noted, the turn was played
pub turns_play : (site : Site) (m : Turn) (c : Kept) (servient : Layers) (client : ClientState) (after : Notes) (slots shown : List Seen) (now : Noted) (last : ℕ)
    → Turns site m c servient client slots shown now last → noted_of after.world ≡ now → after.registered ≡ last → PlaysTurn site m c (kept servient client after) slots shown
turns_play site m c servient client after slots shown now last turns noted registered = λ p are.
    let t = turns p are in (
      t.next,
      record {
        left = record { servient = t.stands; client = t.same_client };
        shown = subst (λ (n : Noted). IsShown n t.next) (sym noted) t.shown;
        registered = registered ∙ t.registered;
      },
      record { seen = t.seen; move = t.turn; shows = t.shows },
    )

-- and whatever was noted, it was played at most
pub turns_at_most : (site : Site) (m : Turn) (c : Kept) (servient : Layers) (client : ClientState) (after : Notes) (slots shown : List Seen) (now : Noted) (last : ℕ)
    → Turns site m c servient client slots shown now last → PlaysTurnAtMost site m c (kept servient client after) slots shown
turns_at_most site m c servient client after slots shown now last turns = λ p are.
    let t = turns p are in (
      t.next,
      record { servient = t.stands; client = t.same_client },
      record { seen = t.seen; move = inl t.turn; shows = t.shows },
    )

-- where nothing was done, too
pub nothing_done : (site : Site) (m : Turn) (old new : Layers) (client : ClientState) (notes after : Notes) (slots shown : List Seen) → new ≡ old → shown ≡ slots
    → PlaysTurnAtMost site m (kept old client notes) (kept new client after) slots shown
nothing_done site m old new client notes after slots shown same none = λ p are. (
  p,
  record { servient = subst (λ (x : Layers). StandsFor x p.ends.servient) (sym same) are.left.servient; client = are.left.client },
  record { seen = []; move = inr (record { next = refl; saw = refl }); shows = subst (λ (l : List Seen). ShowsCalls slots l []) (sym none) (shows_none slots) },
)

-- ---- one after another

pub plays_none : (site : Site) (c : Kept) (slots : List Seen) → PlaysMoves site [] c c slots slots
plays_none site c slots = λ p are. (p, are, record { seen = []; move = record { next = refl; saw = refl }; shows = shows_none slots })

pub plays_more : (site : Site) (moves : List Move) (m : Move) (c d e : Kept) (w v x : List Seen) → PlaysMoves site moves c d w v → PlaysTurn site (turn_of m) d e v x → PlaysMoves site (moves ++ m ∷ []) c e w x
plays_more site moves m c d e w v x first one = λ p are.
    let a = first p are in
    let b = one a.0 a.1 in (
      b.0,
      b.1,
      record {
        seen = a.2.seen ++ b.2.seen;
        move = subst (λ (l : List Turn). Each (TakesTurn site) l p (a.2.seen ++ b.2.seen) b.0) (sym (map-append turn_of moves (m ∷ [])))
            (each_more (TakesTurn site) (map turn_of moves) (turn_of m) p a.0 b.0 a.2.seen b.2.seen a.2.move b.2.move);
        shows = shows_then w v x a.2.seen b.2.seen a.2.shows b.2.shows;
      },
    )

-- after a first part a move is played at most
ends_some : (site : Site) (all moves rest : List Move) (m : Move) (e : Kept) (w v x : List Seen) (p q u : Played) (seen more : List Sighting) → all ≡ moves ++ (m ∷ rest)
    → Each (TakesTurn site) (map turn_of moves) p seen q → ShowsCalls w v seen → AreLeft e u → AtMost (TakesTurn site (turn_of m)) q more u → ShowsCalls v x more
    → (some others : List Move) × (all ≡ some ++ others) × (t : Played) × AreLeft e t × Makes ShowsCalls (Each (TakesTurn site) (map turn_of some)) p t w x
ends_some site all moves rest m e w v x p q u seen more whole first shown left (inl one) shows = (
  moves ++ m ∷ [],
  rest,
  whole ∙ sym (append_assoc moves (m ∷ []) rest),
  u,
  left,
  record {
    seen = seen ++ more;
    move = subst (λ (l : List Turn). Each (TakesTurn site) l p (seen ++ more) u) (sym (map-append turn_of moves (m ∷ [])))
        (each_more (TakesTurn site) (map turn_of moves) (turn_of m) p q u seen more first one);
    shows = shows_then w v x seen more shown shows;
  },
)
ends_some site all moves rest m e w v x p q u seen more whole first shown left (inr none) shows = (
  moves,
  m ∷ rest,
  whole,
  q,
  subst (AreLeft e) none.next left,
  record {
    seen = seen;
    move = first;
    shows = subst (λ (l : List Sighting). ShowsCalls w x l) (append-nil seen) (shows_then w v x seen [] shown (subst (λ (l : List Sighting). ShowsCalls v x l) none.saw shows));
  },
)

pub plays_some : (site : Site) (all moves rest : List Move) (m : Move) (c d e : Kept) (w v x : List Seen) → all ≡ moves ++ (m ∷ rest)
    → PlaysMoves site moves c d w v → PlaysTurnAtMost site (turn_of m) d e v x → PlaysSomeMoves site all c e w x
plays_some site all moves rest m c d e w v x whole first one = λ p are.
    let a = first p are in
    let b = one a.0 a.1 in
    ends_some site all moves rest m e w v x p a.0 b.0 a.2.seen b.2.seen whole a.2.move a.2.shows b.1 b.2.move b.2.shows

-- turns with what is seen of them are turns
pub all_taken : (site : Site) (turns : List Turn) (p : Played) (seen : List Sighting) (q : Played) → Each (TakesTurn site) turns p seen q → TakesAll site turns p.ends q.ends
all_taken site [] p seen q stays = ap (λ (x : Played). x.ends) stays.next
all_taken site (m ∷ turns) p seen q both = (both.mid.ends, both.one.takes, all_taken site turns both.mid both.second q both.other)
