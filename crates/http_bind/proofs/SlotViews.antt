-- The view of one slot, and how its methods change it.
use Rattle.std.proofs.Common.{◌≡◌, ℕ, ◌+◌, ◌-◌, ◌≤◌, List, length, drop, sym, ap, subst, ◌∙◌, Bool, false, arith}
use Rattle.std.specs.Prelude.{Option, Some, option_map, is_some}
use Rattle.std.proofs.lemmas.List.{length-drop, drop-drop}
use Rattle.http_wire.specs.Heads.{skipped}
use Rattle.http_bind.specs.declared.slot.ConnectionState.{ConnectionState}
use Rattle.http_bind.specs.declared.looking.HeldFront.{HeldFront}
use Rattle.http_bind.specs.Kept.{held_with}
use Rattle.http_bind.specs.Looking.{Shows, IsWithin}
use Rattle.http_bind.specs.Slots.{Held, owed_in}
use Rattle.http_bind.specs.Shown.{after_finding, TakesFront, Passes, PassesBy}
use Rattle.http_bind.proofs.Skipping.{skipped_from}

-- the place of the rest in all bytes
pub record IsLeft (items rest : List ℕ) : Type 0 where
  pub within : length rest ≤ length items
  pub is : drop (length items - length rest) items ≡ rest

pub left_of : (items : List ℕ) (start : ℕ) (rest : List ℕ) → start ≤ length items → rest ≡ skipped (drop start items) → IsLeft items rest
left_of items start rest within is =
    let few : length rest ≤ length (drop start items) = shorter in
    record {
      within = omega (arith, few, length-drop start items);
      is = ap (λ (n : ℕ). drop n items) (place few) ∙ sym (drop-drop (length (drop start items) - length rest) start items) ∙ from;
    }
  where
    from : drop (length (drop start items) - length rest) (drop start items) ≡ rest
    from = skipped_from (drop start items) rest is

    shorter : length rest ≤ length (drop start items)
    shorter = omega (arith, ap length from, length-drop (length (drop start items) - length rest) (drop start items))

    place : length rest ≤ length (drop start items) → length items - length rest ≡ start + (length (drop start items) - length rest)
    place few = omega (arith, few, length-drop start items, within)

-- the message at the front without the pairs was found and taken
pub front_taken : (items : List ℕ) (start place : ℕ) (rest bytes : List ℕ) (kept : Option ConnectionState) (st : ConnectionState) (old new : Option Held) (what : HeldFront) (room : List ℕ) →
    option_map (held_with (drop start items)) kept ≡ old → kept ≡ Some st → rest ≡ skipped (drop start items) → drop place items ≡ rest → bytes ≡ drop place items →
    Shows st.continued bytes what room → IsWithin (length bytes) what → new ≡ option_map (after_finding what) (option_map (held_with (drop place items)) kept) →
    TakesFront old what new room
front_taken items start place rest bytes kept st old new what room view is skips left same shows within takes =
    let front : bytes ≡ skipped (drop start items) = same ∙ left ∙ skips in
    subst (λ (k : Option Held). TakesFront k what new room) (ap (option_map (held_with (drop start items))) (sym is) ∙ view) (
      subst (λ (xs : List ℕ). Shows st.continued xs what room) front shows,
      subst (λ (xs : List ℕ). IsWithin (length xs) what) front within,
      takes
          ∙ ap (λ (k : Option ConnectionState). option_map (after_finding what) (option_map (held_with (drop place items)) k)) is
          ∙ ap (λ (xs : List ℕ). Some (after_finding what (held_with xs st))) (left ∙ skips),
    )

-- and so it is passed, where no reply is owed
pub front_passed : (bytes : List ℕ) (kept : Option ConnectionState) (st : ConnectionState) (old new : Option Held) (what : HeldFront) (room : List ℕ) →
    option_map (held_with bytes) kept ≡ old → kept ≡ Some st → is_some st.owed ≡ false → TakesFront old what new room → Passes old what new room
front_passed bytes kept st old new what room view is unowed takes =
    subst (λ (t : Bool). PassesBy t old what new room)
    (sym (ap (λ (k : Option Held). is_some (owed_in k)) (sym view ∙ ap (option_map (held_with bytes)) is) ∙ unowed)) takes
