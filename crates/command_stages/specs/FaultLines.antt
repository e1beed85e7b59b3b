-- The lines on the first fault of a derivation, and on what doesn't fit the rack. Names and
-- pointers in them are JSON texts.
use Rattle.std.specs.Prelude.{ℕ, List, [], ◌∷◌, ◌++◌, codes, decimal}
use Rattle.std.specs.List.{flat_map}
use Rattle.wot_json.specs.Json.{json_string}
use Rattle.tm_resolve.specs.declared.fault.ResolveKind.{ResolveKind}
use Rattle.tm_resolve.specs.declared.fault.ResolveKind.TheVariants as kind
use Rattle.tm_resolve.specs.declared.fault.ResolveFault.TheVariants as resolve
use Rattle.tm_derive.specs.declared.fault.DeriveFault.{DeriveFault}
use Rattle.tm_derive.specs.declared.fault.DeriveFault.TheVariants as fault
use Rattle.thing_site.specs.declared.fault.ExposeFault.{ExposeFault}
use Rattle.thing_site.specs.declared.fault.ExposeFault.TheVariants as misfit
use Rattle.command_stages.specs.Lines.{memory_line}

-- a kind of faults of a model's value, in a word
abbrev pub kind_word : ResolveKind → List ℕ
kind_word kind.TooLarge = codes "toolarge"
kind_word kind.BadRef = codes "badref"
kind_word kind.BadHref = codes "badhref"
kind_word kind.MissingModel = codes "missingmodel"
kind_word kind.MissingNode = codes "missingnode"
kind_word kind.NotObject = codes "notobject"
kind_word kind.Circular = codes "circular"
kind_word kind.TwoExtends = codes "twoextends"
kind_word kind.NotText = codes "nottext"
kind_word kind.InName = codes "inname"

-- a field of a line, after a blank
abbrev pub field_text : List ℕ → List ℕ
field_text field = codes " " ++ json_string field

-- the segment of the Thing that has the fault, what the fault is, and its fields
abbrev pub fault_line : List ℕ → List ℕ → List (List ℕ) → List ℕ
fault_line segment word fields =
    codes "servient: refused " ++ json_string segment ++ codes " " ++ word ++ flat_map field_text fields ++ codes "\n"

-- The line of each fault. Out of memory is no fault of a model, and has its own line.
abbrev pub refused_line : DeriveFault → List ℕ
refused_line (fault.Resolve segment (resolve.At k model pointer)) = fault_line segment (kind_word k) (model ∷ pointer ∷ [])
refused_line (fault.Resolve segment resolve.NoMemory) = memory_line
refused_line (fault.Optional segment pointer) = fault_line segment (codes "optional") (pointer ∷ [])
refused_line (fault.Instance segment pointer) = fault_line segment (codes "instance") (pointer ∷ [])
refused_line (fault.TwiceInstance segment pointer) = fault_line segment (codes "twiceinstance") (pointer ∷ [])
refused_line (fault.Unbound segment name pointer) = fault_line segment (codes "unbound") (name ∷ pointer ∷ [])
refused_line (fault.Invalid segment found) = fault_line segment (codes "invalid " ++ decimal found.number) (found.pointer ∷ [])
refused_line fault.NoMemory = memory_line

-- ---- the fit to the rack

-- the fields of a misfit: its word, its Thing and its affordance
abbrev pub misfit_fields : List ℕ → List ℕ → List ℕ → List ℕ
misfit_fields word segment pointer = word ++ field_text segment ++ field_text pointer

abbrev pub misfit_text : ExposeFault → List ℕ
misfit_text (misfit.NoSlot segment pointer) = misfit_fields (codes "noslot") segment pointer
misfit_text (misfit.KindDiffers segment pointer) = misfit_fields (codes "kind") segment pointer
misfit_text (misfit.SlotTwice segment pointer) = misfit_fields (codes "slottwice") segment pointer
misfit_text misfit.NoMemory = []
