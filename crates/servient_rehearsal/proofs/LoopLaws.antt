-- Moves are played one after another, and the time that they take stays within the bounds of the network.
use Rattle.std.proofs.Common.{◌≡◌, ◌∙◌, ℕ, ◌+◌, ◌<◌, ◌≤◌, ◌^◌, List, [], ◌∷◌, ◌++◌, take, drop, get_or, length, zero, suc, refl, sym, ap, subst, arith}
use Rattle.std.proofs.lemmas.List.{take-append-drop, drop_more, take_more, take_all, at_drop_more}
use Rattle.thing_handler.specs.Handler.{Seen}
use Rattle.thing_site.specs.Fits.{Fits}
use Rattle.servient_core.specs.Machine.{Site}
use Rattle.servient_rehearsal.specs.declared.moves.Move.{Move}
use Rattle.servient_rehearsal.specs.Moves.{passed_by, total_passed, turn_of, AreShort}
use Rattle.servient_rehearsal.specs.Noted.{Noted, noted_of, nothing_noted}
use Rattle.servient_rehearsal.specs.Playing.{Kept, GoesOn, PlaysTurn, PlaysTurnAtMost, PlaysMoves, PlaysSomeMoves}
use Rattle.servient_rehearsal.proofs.TurnLaws.{plays_none, plays_more, plays_some}

pub record PlaysOn (site : Site) (moves : List Move) (i : ℕ) (c d : Kept) (before after : List Seen) : Type 0 where
  pub played : PlaysMoves site (take i moves) c d before after
  pub site_is : d.servient.exposed.site ≡ site
  pub fits : Fits d.servient.exposed.site after
  pub client : d.client.moment ≤ d.notes.world.moment
  pub time : d.notes.world.moment + total_passed (drop i moves) ≤ 10 ^ 15
  pub asks : length d.notes.world.asks.items ≤ i

pub plays_on_none : (site : Site) (moves : List Move) (c : Kept) (slots : List Seen) → c.servient.exposed.site ≡ site → Fits c.servient.exposed.site slots → c.client.moment ≡ 0 → noted_of c.notes.world ≡ nothing_noted
    → total_passed moves ≤ 10 ^ 15 → PlaysOn site moves 0 c c slots slots
plays_on_none site moves c slots same fits client noted time =
    let moment : c.notes.world.moment ≡ 0 = ap (λ (n : Noted). n.moment) noted in
    let asks : length c.notes.world.asks.items ≡ 0 = ap (λ (n : Noted). length n.asks) noted in
    record {
      played = plays_none site c slots;
      site_is = same;
      fits = fits;
      client = omega arith;
      time = omega arith;
      asks = omega arith;
    }

-- the time that is left, a move on
time_left : (moves : List Move) (i : ℕ) (m : Move) → i < length moves → m ≡ get_or moves i m → total_passed (drop i moves) ≡ passed_by m + total_passed (drop (i + 1) moves)
time_left moves i m within is = at_drop_more total_passed moves i m within ∙ ap (λ (x : Move). passed_by x + total_passed (drop (i + 1) moves)) (sym is)

pub plays_on_more : (site : Site) (moves : List Move) (i : ℕ) (m : Move) (c d e : Kept) (w v x : List Seen) → i < length moves → m ≡ get_or moves i m → PlaysOn site moves i c d w v
    → PlaysTurn d.servient.exposed.site (turn_of m) d e v x → GoesOn (passed_by m) e.client d.notes e.notes → e.servient.exposed.site ≡ d.servient.exposed.site → Fits e.servient.exposed.site x
    → PlaysOn site moves (i + 1) c e w x
plays_on_more site moves i m c d e w v x within is so_far turn goes same fits =
    let left = time_left moves i m within is in
    let time = so_far.time in
    let moment = goes.moment in
    let few = so_far.asks in
    let asks = goes.asks in
    record {
      played = subst (λ (l : List Move). PlaysMoves site l c e w x) (sym (take_more moves i m within ∙ ap (λ (y : Move). take i moves ++ y ∷ []) (sym is)))
          (plays_more site (take i moves) m c d e w v x so_far.played (subst (λ (s : Site). PlaysTurn s (turn_of m) d e v x) so_far.site_is turn));
      site_is = same ∙ so_far.site_is;
      fits = fits;
      client = goes.client;
      time = omega arith;
      asks = omega arith;
    }

pub plays_on_fails : (site : Site) (moves : List Move) (i : ℕ) (m : Move) (c d e : Kept) (w v x : List Seen) → i < length moves → m ≡ get_or moves i m → PlaysOn site moves i c d w v
    → PlaysTurnAtMost d.servient.exposed.site (turn_of m) d e v x → PlaysSomeMoves site moves c e w x
plays_on_fails site moves i m c d e w v x within is so_far turn =
    let whole : moves ≡ take i moves ++ (m ∷ drop (i + 1) moves)
    = sym (take-append-drop i moves) ∙ ap (λ (l : List Move). take i moves ++ l) (drop_more moves i m within ∙ ap (λ (y : Move). y ∷ drop (i + 1) moves) (sym is)) in
    plays_some site moves (take i moves) (drop (i + 1) moves) m c d e w v x whole so_far.played (subst (λ (s : Site). PlaysTurnAtMost s (turn_of m) d e v x) so_far.site_is turn)

-- all moves were played
pub played_all : (site : Site) (moves : List Move) (i : ℕ) (c d : Kept) (w v : List Seen) → length moves ≤ i → PlaysOn site moves i c d w v → PlaysMoves site moves c d w v
played_all site moves i c d w v all so_far = subst (λ (l : List Move). PlaysMoves site l c d w v) (take_all i moves all) so_far.played

-- a further move is within the time
pub within_time : (site : Site) (moves : List Move) (i : ℕ) (m : Move) (c d : Kept) (w v : List Seen) → i < length moves → m ≡ get_or moves i m → PlaysOn site moves i c d w v → d.notes.world.moment + passed_by m ≤ 10 ^ 15
within_time site moves i m c d w v within is so_far = let left = time_left moves i m within is in let time = so_far.time in omega arith

-- ---- whether moves are short

total_split : (moves : List Move) (i : ℕ) → total_passed moves ≡ total_passed (take i moves) + total_passed (drop i moves)
total_split moves zero = omega arith
total_split [] (suc i) = omega arith
total_split (m ∷ moves) (suc i) = let rest = total_split moves i in omega arith

pub total_more : (moves : List Move) (i : ℕ) (m : Move) → i < length moves → m ≡ get_or moves i m → total_passed (take (i + 1) moves) ≡ total_passed (take i moves) + passed_by m
total_more moves i m within is = let one = total_split moves i in let two = total_split moves (i + 1) in let left = time_left moves i m within is in omega arith

-- with the next move they take too long
pub too_long : (moves : List Move) (i : ℕ) (m : Move) (total : ℕ) → i < length moves → m ≡ get_or moves i m → total ≡ total_passed (take i moves) → 10 ^ 15 < total + passed_by m → ¬ (AreShort moves)
too_long moves i m total within is so_far long = λ short.
    let one = total_split moves i in
    let left = time_left moves i m within is in
    let time = short.time in
    absurd (omega arith)

pub all_passed : (moves : List Move) (i : ℕ) (total : ℕ) → length moves ≤ i → total ≡ total_passed (take i moves) → total ≤ 10 ^ 15 → total_passed moves ≤ 10 ^ 15
all_passed moves i total all is low = let same = ap total_passed (take_all i moves all) in omega arith
