-- The deeds of an operation, in order, and the part of them that the outside shows.
use Rattle.std.specs.Prelude.{ℕ, List, [], ◌∷◌, ◌++◌, codes, map, Option, Some, None}
use Rattle.std.specs.List.{filter_map, flat_map}
use Rattle.servient_outside.specs.declared.out.Put.{Put}
use Rattle.servient_outside.specs.declared.out.Put.TheVariants as put
use Rattle.servient_outside.specs.Network.{Happening, NetSeen, NetShows}
use Rattle.servient_outside.specs.Out.{OutSeen, OutShows}
use Rattle.network_consumer.specs.declared.consumed.Consumed.{Consumed}
use Rattle.network_consumer.specs.declared.consumed.Consumed.TheVariants.{Done, Other, Silent, Failed, Unprinted, Spent, NoMemory}

-- One thing that an operation does.
pub data Deed : Type 0 where
  -- this happens at the network
  happens : Happening → Deed
  -- this is put to the output
  prints : List ℕ → Deed

-- these happen at the network
abbrev pub happen : List Happening → List Deed
happen = map (λ h. happens h)

-- the happenings at the network among some deeds, in order
abbrev pub happening_in : Deed → Option Happening
happening_in (happens h) = Some h
happening_in (prints text) = None

abbrev pub happened_in : List Deed → List Happening
happened_in = filter_map happening_in

-- all that is printed, one text after another
abbrev pub printed_in : Deed → List ℕ
printed_in (happens h) = []
printed_in (prints text) = text

abbrev pub text_in : List Deed → List ℕ
text_in = flat_map printed_in

-- the printing of a payload: it and a line feed, and nothing of an empty one
abbrev pub printed : List ℕ → List Deed
printed [] = []
printed (byte ∷ bytes) = prints ((byte ∷ bytes) ++ codes "\n") ∷ []

-- the printing of lines: they as they are, and nothing where there are none
abbrev pub printed_lines : List ℕ → List Deed
printed_lines [] = []
printed_lines (byte ∷ bytes) = prints (byte ∷ bytes) ∷ []

-- ## The view of the outside

-- the view of the network and of the output at one time
pub record Sight : Type 0 where
  pub net : NetSeen
  pub out : OutSeen

abbrev pub sight : NetSeen → OutSeen → Sight
sight net out = record { net = net; out = out }

-- From one time to another these were done and nothing else. Where the output failed, a prefix of the text to be
-- printed was written.
pub record ShowsDeeds (before now : Sight) (p : Put) (deeds : List Deed) : Type 0 where
  pub net : NetShows before.net now.net (happened_in deeds)
  pub out : OutShows before.out now.out p (text_in deeds)

-- and of these this holds
pub record Shows (P : List Deed → Type 0) (before now : Sight) (p : Put) : Type 0 where
  pub deeds : List Deed
  pub holds : P deeds
  pub shows : ShowsDeeds before now p deeds

-- the same of what happens at the network alone
pub record ShowsHappenings (P : List Happening → Type 0) (before now : NetSeen) : Type 0 where
  pub happened : List Happening
  pub holds : P happened
  pub shows : NetShows before now happened

-- the last answer of the output, by how an operation ended
abbrev pub put_of : Consumed → Put
put_of Done = put.Done
put_of (Other outcome) = put.Done
put_of Silent = put.Done
put_of Failed = put.Done
put_of Unprinted = put.Failed
put_of Spent = put.Done
put_of NoMemory = put.Done

-- the same where it may go on
abbrev pub put_in : Option Consumed → Put
put_in None = put.Done
put_in (Some c) = put_of c
