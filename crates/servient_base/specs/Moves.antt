-- Moves of a machine over any state, what is seen of them from outside, and code that makes them.
--
-- A move relates the state before it, the trace of it, and the state after it. A trace is the list of what is seen, in
-- the order in which it came about. Moves are over any state and any trace, because the machine of Things and those of
-- the bindings are put together by the same words.
use Rattle.std.specs.Prelude.{◌≡◌, List, [], ◌∷◌, ◌++◌}

-- ---- moves

-- the state becomes this, and this is seen
pub record Becomes {S X : Type 0} (u : S) (shown seen : List X) (t : S) : Type 0 where
  pub next : t ≡ u
  pub saw : seen ≡ shown

-- nothing is seen, and the state stays
abbrev pub Stays : {S X : Type 0} → S → List X → S → Type 0
Stays s = Becomes s []

-- one move and then another
pub record Then {S X : Type 0} (P Q : S → List X → S → Type 0) (s : S) (seen : List X) (t : S) : Type 0 where
  pub mid : S
  pub first : List X
  pub second : List X
  pub one : P s first mid
  pub other : Q mid second t
  pub whole : seen ≡ first ++ second

-- a move with some result, which the move after it takes
abbrev pub Passing : {S X A : Type 0} → (A → S → List X → S → Type 0) → (A → S → List X → S → Type 0) → S → List X → S → Type 0
Passing {S} {X} {A} P Q s seen t = (a : A) × Then (P a) (Q a) s seen t

-- a move for each of some things, in order
abbrev pub Each : {S X A : Type 0} → (A → S → List X → S → Type 0) → List A → S → List X → S → Type 0
Each Move [] s seen t = Stays s seen t
Each Move (x ∷ xs) s seen t = Then (Move x) (Each Move xs) s seen t

-- a move again and again, until nothing is left to do
pub data Until {S X : Type 0} (P : S → List X → S → Type 0) (IsDone : S → Type 0) : S → List X → S → Type 0 where
  is_done : (s : S) (seen : List X) (t : S) → IsDone s → Stays s seen t → Until P IsDone s seen t
  goes_on : (s mid t : S) (seen first second : List X) → P s first mid → Until P IsDone mid second t → seen ≡ first ++ second → Until P IsDone s seen t

-- ---- code that makes moves

-- An outside shows traces from one time to another: an empty one where nothing happened, and one after another.
pub record ShowsInOrder {W X : Type 0} (Shows : W → W → List X → Type 0) : Type 0 where
  pub none : (w : W) → Shows w w []
  pub more : (w v u : W) (a b : List X) → Shows w v a → Shows v u b → Shows w u (a ++ b)

-- A move was made from one state to another, and the outside shows it.
pub record Makes {S X W : Type 0} (Shows : W → W → List X → Type 0) (P : S → List X → S → Type 0) (s t : S) (w v : W) : Type 0 where
  pub seen : List X
  pub move : P s seen t
  pub shows : Shows w v seen

-- The state of the code stands for states of the machine. Whatever state it stood for before, it stands afterwards
-- for one to which the move leads from there, and the outside shows that move.
abbrev pub Refines : {C S X W : Type 0} → (C → S → Type 0) → (W → W → List X → Type 0) → (S → List X → S → Type 0) → C → C → W → W → Type 0
Refines {C} {S} StandsFor Shows P c d w v = (s : S) → StandsFor c s → (t : S) × StandsFor d t × Makes Shows P s t w v
