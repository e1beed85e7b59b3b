-- The table of a plan. For each affordance of its Things it has the slot that the plan gives it, the handler that a rack has
-- there, and the places where it is served; and then the entries and the members of the plan that give nothing. A line is
-- words with a space between them. Names and pointers in it are JSON texts.
use Rattle.std.specs.Prelude.{◌&&◌, ◌||◌, not, nat_eq, ℕ, Bool, true, false, List, [], ◌∷◌, ◌++◌, map, find, slice_get, codes, decimal, Option, Some, None, option_map, option_and_then, unwrap_or, if◌then◌else◌}
use Rattle.std.specs.List.{flat_map, list_any, starts_with}
use Rattle.std.specs.Str.{bytes_eq}
use Rattle.wot_json.specs.Tree.{Json}
use Rattle.wot_json.specs.Json.{json_string}
use Rattle.wot_terms.specs.declared.kind.Kind.{Kind}
use Rattle.wot_terms.specs.declared.kind.Kind.TheVariants as kind
use Rattle.wot_terms.specs.declared.affordance.Affordance.{Affordance}
use Rattle.wot_terms.specs.Affordances.{affordances_of}
use Rattle.wot_forms.specs.declared.form.Form.{Form}
use Rattle.wot_forms.specs.Forms.{forms_in}
use Rattle.thing_site.specs.Site.{Slots, is_kind, pointer_of, slot_named}
use Rattle.servient_plan.specs.declared.plan.Plan.{Plan}
use Rattle.plan_table.specs.declared.row.Row.{Row}

-- ---- the row of an affordance

-- the first `href` among some forms that begins with one scheme or with the other
abbrev pub begins_with : List ℕ → List ℕ → Form → Bool
begins_with one other form = starts_with nat_eq form.href one || starts_with nat_eq form.href other

abbrev pub first_href : List ℕ → List ℕ → List Form → Option (List ℕ)
first_href one other forms = option_map (λ form. form.href) (find (begins_with one other) forms)

-- the forms of an affordance in the description of its Thing
abbrev pub forms_for : Json → Affordance → List Form
forms_for description a = unwrap_or (forms_in description (Some a.kind) a.name) []

-- only a property is observed (TD 1.1, section 5.3.1.3)
abbrev pub is_observable : Affordance → Bool
is_observable a = is_kind kind.Property a.kind && a.observable

-- what a plan with these slots gives an affordance of a Thing, where a rack has handlers of these kinds
abbrev pub row_of : Slots → List Kind → List ℕ × Json → Affordance → Row
row_of slots kinds thing a = record {
  segment = thing.0;
  kind = a.kind;
  name = a.name;
  pointer = pointer_of a;
  slot = slot_named thing.0 (pointer_of a) slots;
  handler = option_and_then (slice_get kinds) (slot_named thing.0 (pointer_of a) slots);
  observable = is_observable a;
  http = first_href (codes "http://") (codes "https://") (forms_for thing.1 a);
  coap = first_href (codes "coap://") (codes "coaps://") (forms_for thing.1 a);
}

-- the rows of a Thing, and of all Things in order
abbrev pub rows_of_thing : Slots → List Kind → List ℕ × Json → List Row
rows_of_thing slots kinds thing = map (row_of slots kinds thing) (affordances_of thing.1)

abbrev pub rows_of : Slots → List Kind → List (List ℕ × Json) → List Row
rows_of slots kinds = flat_map (rows_of_thing slots kinds)

-- ---- its line

abbrev pub word_or_hyphen : Option (List ℕ) → List ℕ
word_or_hyphen None = codes "-"
word_or_hyphen (Some word) = word

abbrev pub kind_word : Kind → List ℕ
kind_word kind.Property = codes "property"
kind_word kind.Action = codes "action"
kind_word kind.Event = codes "event"

abbrev pub observable_word : Bool → List ℕ
observable_word true = codes "observable"
observable_word false = codes "-"

-- A segment that the URL Standard takes out of a path, so that no URL leads to an affordance of this name. It takes out
-- `%2e` too, which no generated `href` has, since a `%` in a name is encoded itself.
abbrev pub is_dot_segment : List ℕ → Bool
is_dot_segment name = bytes_eq name (codes ".") || bytes_eq name (codes "..")

abbrev pub href_word : List ℕ → Option (List ℕ) → List ℕ
href_word name None = codes "-"
href_word name (Some href) = if is_dot_segment name then codes "unreachable" else href

-- a word after another
abbrev pub next_word : List ℕ → List ℕ
next_word word = codes " " ++ word

abbrev pub row_text : Row → List ℕ
row_text row =
    json_string row.segment ++ next_word (kind_word row.kind) ++ next_word (json_string row.name)
    ++ next_word (word_or_hyphen (option_map decimal row.slot)) ++ next_word (word_or_hyphen (option_map kind_word row.handler))
    ++ next_word (observable_word row.observable) ++ next_word (href_word row.name row.http) ++ next_word (href_word row.name row.coap)
    ++ codes "\n"

-- ---- what gives nothing

-- an entry of `slots`: the segment of a Thing, a pointer and a slot
abbrev pub Entry : Type 0
Entry = List ℕ × List ℕ × ℕ

abbrev pub is_for : Entry → Row → Bool
is_for entry row = bytes_eq entry.0 row.segment && bytes_eq entry.1 row.pointer

abbrev pub is_for_the_same : Entry → Entry → Bool
is_for_the_same entry other = bytes_eq entry.0 other.0 && bytes_eq entry.1 other.1

-- it gives an affordance its slot: it is for one of these, and no earlier entry is
abbrev pub is_used : List Row → Slots → Entry → Bool
is_used rows earlier entry = list_any (is_for entry) rows && not (list_any (is_for_the_same entry) earlier)

abbrev pub unused_line : Entry → List ℕ
unused_line entry = codes "unused slot " ++ json_string entry.0 ++ next_word (json_string entry.1) ++ next_word (decimal entry.2) ++ codes "\n"

abbrev pub unused_text : List Row → Slots → Slots → List ℕ
unused_text rows earlier [] = []
unused_text rows earlier (entry ∷ entries) =
    (if is_used rows earlier entry then [] else unused_line entry) ++ unused_text rows (earlier ++ entry ∷ []) entries

-- a member that no plan has
abbrev pub unknown_line : List ℕ → List ℕ
unknown_line name = codes "unknown " ++ json_string name ++ codes "\n"

-- ---- the table

-- The text of the table of a plan and its Things, where a rack has handlers of these kinds.
abbrev pub table_text : Plan → List (List ℕ × Json) → List Kind → List ℕ
table_text plan things kinds =
    flat_map row_text (rows_of plan.slots kinds things)
    ++ unused_text (rows_of plan.slots kinds things) [] plan.slots
    ++ flat_map unknown_line plan.unknown
