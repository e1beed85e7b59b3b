-- The number of slots that a list of devices asks for.
use Rattle.std.proofs.Common.{◌≡◌, ℕ, ◌+◌, ◌<◌, ◌≤◌, List, [], ◌∷◌, length, drop, get_or, sym, ap, ◌∙◌, arith}
use Rattle.std.specs.Prelude.{max}
use Rattle.std.proofs.lemmas.List.{drop_all, at_drop_more}
use Rattle.file_devices.specs.declared.entry.DeviceEntry.{DeviceEntry}
use Rattle.file_devices.specs.Entries.{slot_count}

-- what the entries before this index ask for, with those from it on, is what all ask for
pub record Counts (entries : List DeviceEntry) (index count : ℕ) : Type 0 where
  pub all : max count (slot_count (drop index entries)) ≡ slot_count entries
  pub least : 64 ≤ count
  pub most : count ≤ 65536

at_least : (entries : List DeviceEntry) → 64 ≤ slot_count entries
at_least [] = omega arith
at_least (e ∷ es) = let rest = at_least es in omega (arith, rest)

pub counts_none : (entries : List DeviceEntry) (count : ℕ) → count ≡ 64 → Counts entries 0 count
counts_none entries count is =
    let some = at_least entries in
    record { all = omega (arith, some, is); least = omega (arith, is); most = omega (arith, is) }

pub counts_more : (entries : List DeviceEntry) (index count needed next : ℕ) (e : DeviceEntry) → index < length entries → e ≡ get_or entries index e → e.slot ≤ 65535
    → needed ≡ e.slot + 1 → next ≡ max count needed → Counts entries index count → Counts entries (index + 1) next
counts_more entries index count needed next e within is few asks more counts =
    let one : slot_count (drop index entries) ≡ max (e.slot + 1) (slot_count (drop (index + 1) entries)) =
    at_drop_more slot_count entries index e within ∙ ap (λ (d : DeviceEntry). max (d.slot + 1) (slot_count (drop (index + 1) entries))) (sym is) in
    record {
      all = omega (arith, one, asks, more, counts.all);
      least = omega (arith, more, counts.least);
      most = omega (arith, asks, more, few, counts.most);
    }

pub counts_all : (entries : List DeviceEntry) (index count : ℕ) → length entries ≤ index → Counts entries index count → count ≡ slot_count entries
counts_all entries index count past counts =
    let none : slot_count (drop index entries) ≡ 64 = ap slot_count (drop_all index entries past) in
    omega (arith, none, counts.least, counts.all)
