-- The handlers of a rack, one after another.
use Rattle.std.proofs.Common.{◌≡◌, ℕ, zero, suc, ◌+◌, List, [], ◌∷◌, ◌++◌, length, length-append, Some, refl, sym, ap, subst, ◌∙◌, arith}
use Rattle.std.specs.Prelude.{◌==◌, find, slice_get}
use Rattle.std.specs.Option.{unwrap_or}
use Rattle.file_devices.specs.declared.entry.DeviceEntry.{DeviceEntry}
use Rattle.file_devices.specs.declared.slot_handler.SlotHandler.{SlotHandler}
use Rattle.file_devices.specs.Entries.{slot_count}
use Rattle.file_devices.specs.Slots.{AreHandlers, IsHandlerAt}

some_is : {A : Type 0} (x y : A) → Some x ≡ Some y → x ≡ y
some_is x y same = ap (λ o. unwrap_or o x) same

-- each element is well at its place, and so is one more at the end
each_more : {A : Type 0} (P : ℕ → A → Type 0) (before : List A) (x : A) → P (length before) x → ((i : ℕ) (y : A) → slice_get before i ≡ Some y → P i y)
    → (i : ℕ) (y : A) → slice_get (before ++ x ∷ []) i ≡ Some y → P i y
each_more P [] x last each zero y at = subst (P 0) (some_is x y at) last
each_more P [] x last each (suc i) y at = absurd cc
each_more P (b ∷ before) x last each zero y at = each 0 y at
each_more P (b ∷ before) x last each (suc i) y at = each_more (λ (k : ℕ). P (suc k)) before x last (λ k z is. each (suc k) z is) i y at

-- these are the handlers of the slots below this one
pub record Made {D : Type 0} (slot : ℕ) (entries : List DeviceEntry) (handlers : List (SlotHandler D)) : Type 0 where
  pub count : length handlers ≡ slot
  pub each : (place : ℕ) (h : SlotHandler D) → slice_get handlers place ≡ Some h → IsHandlerAt place (find (λ e. e.slot == place) entries) h

pub made_none : {D : Type 0} (entries : List DeviceEntry) (handlers : List (SlotHandler D)) → handlers ≡ [] → Made 0 entries handlers
made_none entries handlers none =
    subst (Made 0 entries) (sym none) (record { count = refl; each = λ place h at. absurd cc })

pub made_more : {D : Type 0} (slot : ℕ) (entries : List DeviceEntry) (before grown : List (SlotHandler D)) (h : SlotHandler D) → Made slot entries before
    → IsHandlerAt slot (find (λ e. e.slot == slot) entries) h → grown ≡ before ++ h ∷ [] → Made (slot + 1) entries grown
made_more slot entries before grown h made one more =
    let last : IsHandlerAt (length before) (find (λ e. e.slot == length before) entries) h =
    subst (λ (n : ℕ). IsHandlerAt n (find (λ e. e.slot == n) entries) h) (sym made.count) one in
    let counted : length (before ++ h ∷ []) ≡ length before + 1 = length-append before (h ∷ []) in
    subst (Made (slot + 1) entries) (sym more) (record {
      count = omega (arith, counted, made.count);
      each = each_more (λ (n : ℕ) (g : SlotHandler _). IsHandlerAt n (find (λ e. e.slot == n) entries) g) before h last made.each;
    })

pub made_all : {D : Type 0} (slot count : ℕ) (entries : List DeviceEntry) (handlers : List (SlotHandler D)) → Made slot entries handlers → slot ≡ count → count ≡ slot_count entries
    → AreHandlers entries handlers
made_all slot count entries handlers made end counted = record { count = made.count ∙ (end ∙ counted); each = made.each }
