-- An `HttpBind` as contracts see it, and the streams that it stands for.
use Rattle.std.specs.Prelude.{◌≡◌, ◌≤◌, ℕ, ◌+◌, ◌-◌, ◌*◌, ◌&&◌, Bool, true, false, eqb, nat_le, List, [], ◌∷◌, ◌++◌, length, map, replicate, slice_index_or, slice_set, Option, Some, None, option_and_then, IsSome, if◌then◌else◌}
use Rattle.std.specs.List.{IsDistinct}
use Rattle.std.specs.Option.{is_none}
use Rattle.http_wire.specs.Heads.{skipped}
use Rattle.http_bind.specs.declared.owed.Owed.{Owed}
use Rattle.http_bind.specs.declared.out.HttpOut.{HttpOut}
use Rattle.http_bind.specs.declared.waits.Wait.{Wait}
use Rattle.http_bind.specs.Streams.{HttpReply, Connection, Streams, rest_of, is_waiting, other_waits}

-- The most bytes that are held of a connection.
abbrev pub longest_rest : ℕ
longest_rest = 32768

-- The most bytes that come in one piece.
abbrev pub longest_piece : ℕ
longest_piece = 4096

-- The most bytes of a text by which a request that waits is replied.
abbrev pub longest_text : ℕ
longest_text = 1024

-- The value held of an open connection: the bytes of its stream that weren't taken, but for CR LF pairs that are
-- skipped; whether the 100 reply was sent for the message at their front; what is owed to the request taken last, until
-- it is replied to; and the moment of its last activity.
pub record Held : Type 0 where
  pub rest : List ℕ
  pub continued : Bool
  pub owed : Option Owed
  pub active : ℕ

-- the values held, by the numbers of the connections, and the requests that wait, the oldest first
pub record Slots : Type 0 where
  pub places : List (Option Held)
  pub waits : List Wait

-- the value held at a place, and the values held with another at that place
abbrev pub place_at : ℕ → List (Option Held) → Option Held
place_at c places = slice_index_or places c None

abbrev pub with_place : ℕ → Option Held → List (Option Held) → List (Option Held)
with_place c x places = slice_set places c x

abbrev pub held_at : ℕ → Slots → Option Held
held_at c b = place_at c b.places

abbrev pub with_held : ℕ → Option Held → Slots → Slots
with_held c x b = record b { places = with_place c x b.places }

-- a connection waits no longer, if it did
abbrev pub without_wait_of : ℕ → Slots → Slots
without_wait_of c b = record b { waits = other_waits c b.waits }

-- the request taken last from a connection waits for a target since this moment, behind all that wait already
abbrev pub with_wait : ℕ → ℕ → ℕ → Slots → Slots
with_wait c target now b = record b { waits = other_waits c b.waits ++ record { connection = c; target = target; since = now } ∷ [] }

-- no connection is open
abbrev pub nothing_held : List (Option Held)
nothing_held = replicate 64 None

-- ---- the streams that are stood for

-- The value held of a connection stands for it. Where a reply is owed, all bytes behind the messages taken are held,
-- CR LF pairs too, since each of them ends the wait for that reply.
pub record Holds (h : Held) (x : Connection) : Type 0 where
  pub rest : skipped h.rest ≡ skipped (rest_of x)
  pub behind : IsSome x.owed → h.rest ≡ rest_of x
  pub within : x.taken ≤ length x.stream
  pub continued : h.continued ≡ x.continued
  pub owed : h.owed ≡ x.owed
  pub active : h.active ≡ x.active

abbrev pub HoldsIfOpen : Option Held → Option Connection → Type 0
HoldsIfOpen None None = Unit {0}
HoldsIfOpen None (Some x) = ⊥
HoldsIfOpen (Some h) None = ⊥
HoldsIfOpen (Some h) (Some x) = Holds h x

abbrev pub HoldAll : List (Option Held) → List (Option Connection) → Type 0
HoldAll [] [] = Unit {0}
HoldAll [] (x ∷ xs) = ⊥
HoldAll (h ∷ hs) [] = ⊥
HoldAll (h ∷ hs) (x ∷ xs) = HoldsIfOpen h x × HoldAll hs xs

-- The values held stand for these streams: the same connections are open, of each the rest of its stream is held, and
-- the same requests wait.
pub record StandsFor (b : Slots) (s : Streams) : Type 0 where
  pub places : HoldAll b.places s.places
  pub waits : b.waits ≡ s.waits

-- For all streams that the values held stood for before, they stand afterwards for some to which this leads.
abbrev pub Leads : (Streams → Streams → Type 0) → Slots → Slots → Type 0
Leads Does b d = (s : Streams) → StandsFor b s → (t : Streams) × StandsFor d t × Does s t

-- ---- the conditions and the results of calls

-- a connection that was opened at this moment
abbrev pub held_at_opening : ℕ → Held
held_at_opening now = record { rest = []; continued = false; owed = None; active = now }

-- the CR LF pairs in front are left out
abbrev pub without_pairs : Held → Held
without_pairs h = record h { rest = skipped h.rest }

-- bytes came
abbrev pub longer : List ℕ → ℕ → Held → Held
longer piece now h = record h { rest = h.rest ++ piece; active = now }

-- no reply is owed, and the last activity was 120 seconds ago or longer
abbrev pub is_idle : ℕ → Option Held → Bool
is_idle now None = false
is_idle now (Some h) = is_none h.owed && nat_le 120000 (now - h.active)

-- there is room for n bytes more
abbrev pub HasRoomFor : ℕ → Option Held → Type 0
HasRoomFor n None = Unit {0}
HasRoomFor n (Some h) = length h.rest + n ≤ longest_rest

-- there is room for another piece
abbrev pub HasRoom : ℕ → Slots → Type 0
HasRoom c b = HasRoomFor longest_piece (held_at c b)

-- no more is held than may be
abbrev pub IsBounded : ℕ → Slots → Type 0
IsBounded c b = HasRoomFor 0 (held_at c b)

-- the connection is open
abbrev pub IsOpen : ℕ → Slots → Type 0
IsOpen c b = IsSome (held_at c b)

-- the connection is open, and a reply is owed to the request that was taken last
abbrev pub owed_in : Option Held → Option Owed
owed_in x = option_and_then (λ h. h.owed) x

abbrev pub IsOwed : ℕ → Slots → Type 0
IsOwed c b = IsSome (owed_in (held_at c b))

-- that request waits
abbrev pub IsWaiting : ℕ → Slots → Type 0
IsWaiting c b = is_waiting c b.waits ≡ true

-- The invariant: 64 connections, of each no more bytes than may be held, and each wait is of a connection that is owed
-- a reply, which has no other wait.
pub record IsSound (b : Slots) : Type 0 where
  pub count : length b.places ≡ 64
  pub bounded : (c : ℕ) → IsBounded c b
  pub owed : (c : ℕ) → IsWaiting c b → IsOwed c b
  pub once : IsDistinct eqb (map (λ w. w.connection) b.waits)

-- A bound of the things that may still be taken of a connection: each thing taken leaves less, and a closed one has
-- nothing.
abbrev pub left_in : Option Held → ℕ
left_in None = 0
left_in (Some h) = 2 * length h.rest + (if h.continued then 1 else 2)

abbrev pub left_at : ℕ → Slots → ℕ
left_at c b = left_in (held_at c b)

-- all other connections, and their waits, are as they were
pub record OthersStay (c : ℕ) (b d : Slots) : Type 0 where
  pub held : Option Held
  pub places : d.places ≡ with_place c held b.places
  pub waits : other_waits c d.waits ≡ other_waits c b.waits

-- ---- replies that were written

-- the reply that is sent for the outcome of a request; nothing, while it waits
abbrev pub sent_in : HttpOut → Option HttpReply
sent_in out = if out.waits then None else Some (record { bytes = out.head.now ++ out.body.now; closes = out.close })
