-- The schema of a node, and its demands on a value.
use Rattle.std.proofs.Common.{◌≡◌, ◌↔◌, ◌&&◌, ℕ, List, [], ◌∷◌, Option, Some, None, IfSome, MatchBool, Bool, true, false, not, codes, refl, sym, ap, subst, if◌then◌else◌}
use Rattle.std.specs.Prelude.{Vec}
use Rattle.std.specs.Option.{option_map}
use Rattle.std.specs.declared.alloc.Global.{Global}
use Rattle.std.specs.Str.{bytes_eq}
use Rattle.std.specs.Cmp.Lexicographic.{same_text}
use Rattle.wot_json.specs.Tree.{Json, Members, no_members, member, members_of}
use Rattle.wot_json.specs.Lookup.{value_under}
use Rattle.wot_schema.specs.Acceptance.{Accepts, Holder, one_of, items, properties, name_of, Within, Asks}
use Rattle.wot_schema.specs.Rules.{IsAllowed, AreRulesOf}
use Rattle.wot_schema.specs.Nodes.{present_members, node_rows, node_members, schema_of, list_of, items_of, properties_of}
use Rattle.wot_schema.specs.declared.node.SchemaNode.{SchemaNode}
use Rattle.wot_schema.specs.declared.node.SchemaNode.TheInside.{Inside}
use Rattle.wot_schema.proofs.Rows.{rows_hold, rows_asked}

abbrev Row : Type 0
Row = List ℕ × Option Json

-- the value of the row of this name
abbrev picked : List ℕ → List Row → Option Json
picked name [] = None
picked name (row ∷ rows) = if bytes_eq name row.0 then row.1 else picked name rows

abbrev is_new : List ℕ → List Row → Bool
is_new name [] = true
is_new name (row ∷ rows) = not (bytes_eq name row.0) && is_new name rows

abbrev are_distinct : List Row → Bool
are_distinct [] = true
are_distinct (row ∷ rows) = is_new row.0 rows && are_distinct rows

both : (a b : Bool) → a && b ≡ true → (a ≡ true) × (b ≡ true)
both true true h = (refl, refl)
both true false h = absurd cc
both false b h = absurd cc

is_false : (b : Bool) → not b ≡ true → b ≡ false
is_false true h = absurd cc
is_false false h = refl

new_absent : (name : List ℕ) (rows : List Row) → is_new name rows ≡ true → value_under name (members_of (present_members rows)) ≡ None
new_absent name [] new = refl
new_absent name ((n, None) ∷ rows) new = new_absent name rows (both (not (bytes_eq name n)) (is_new name rows) new).1
new_absent name ((n, Some v) ∷ rows) new =
    let parts = both (not (bytes_eq name n)) (is_new name rows) new in
    rw (is_false (bytes_eq name n) parts.0) (new_absent name rows parts.1)

-- of rows with distinct names the members that are there have the rows' values
found_present : (name : List ℕ) (rows : List Row) → are_distinct rows ≡ true → value_under name (members_of (present_members rows)) ≡ picked name rows
found_present name [] distinct = refl
found_present name ((n, Some v) ∷ rows) distinct =
    ap (λ o. if bytes_eq name n then Some v else o) (found_present name rows (both (is_new n rows) (are_distinct rows) distinct).1)
found_present name ((n, None) ∷ rows) distinct =
    let parts = both (is_new n rows) (are_distinct rows) distinct in
    absent_row name n rows (bytes_eq name n) refl parts.0 (found_present name rows parts.1)
  where
    absent_row : (name n : List ℕ) (rows : List Row) (b : Bool) → b ≡ bytes_eq name n → is_new n rows ≡ true → value_under name (members_of (present_members rows)) ≡ picked name rows →
        value_under name (members_of (present_members rows)) ≡ (if b then None else picked name rows)
    absent_row name n rows true same new rest = new_absent name rows (subst (λ m. is_new m rows ≡ true) (sym (same_text name n same)) new)
    absent_row name n rows false same new rest = rest

-- the rules of a node are those that its members give
rules_of_node : (a : Inside) → AreRulesOf (members_of (node_members a)) a.rules
rules_of_node a =
    let at : (name : List ℕ) → value_under name (members_of (node_members a)) ≡ picked name (node_rows a) = λ name. found_present name (node_rows a) refl in
    record {
      type = at (codes "type");
      constant = at (codes "const");
      choice = at (codes "enum");
      numbers = record {
        minimum = at (codes "minimum");
        maximum = at (codes "maximum");
        exclusive_minimum = at (codes "exclusiveMinimum");
        exclusive_maximum = at (codes "exclusiveMaximum");
        multiple_of = at (codes "multipleOf");
      };
      min_length = at (codes "minLength");
      max_length = at (codes "maxLength");
      min_items = at (codes "minItems");
      max_items = at (codes "maxItems");
      required = at (codes "required");
    }

-- a row of a member that holds schemas, by the member
pub within_found : (holder : Holder) (ms : Members) (v : Json) → Within holder ms v ↔ IfSome (value_under (name_of holder) ms) (λ s. Asks holder s v)
within_found holder no_members v = (λ h. h, λ h. h)
within_found holder (member n s ms) v =
    elim (bytes_eq (name_of holder) n) as (λ b. MatchBool b (Asks holder s v) (Within holder ms v) ↔ IfSome (if b then Some s else value_under (name_of holder) ms) (λ s. Asks holder s v))
    [ true ↦ (λ h. h, λ h. h) | false ↦ within_found holder ms v ]

-- the same, where it is known what the member is
pub within_is : (holder : Holder) (ms : Members) (v : Json) (o : Option Json) → value_under (name_of holder) ms ≡ o → Within holder ms v ↔ IfSome o (λ s. Asks holder s v)
within_is holder ms v o is = subst (λ (p : Option Json). Within holder ms v ↔ IfSome p (λ s. Asks holder s v)) is (within_found holder ms v)

-- the demands of the schemas below a node
pub one_of_node : (a : Inside) (v : Json) → Within one_of (members_of (node_members a)) v ↔ IfSome (option_map (λ (nodes : Vec SchemaNode Global). list_of nodes.items) a.alternatives) (λ s. Asks one_of s v)
one_of_node a v = within_is one_of (members_of (node_members a)) v _ (found_present (codes "oneOf") (node_rows a) refl)

pub items_node : (a : Inside) (v : Json) → Within items (members_of (node_members a)) v ↔ Asks items (items_of a.items) v
items_node a v = within_is items (members_of (node_members a)) v (Some (items_of a.items)) (found_present (codes "items") (node_rows a) refl)

pub properties_node : (a : Inside) (v : Json) → Within properties (members_of (node_members a)) v ↔ Asks properties (properties_of a.properties.items) v
properties_node a v = within_is properties (members_of (node_members a)) v (Some (properties_of a.properties.items)) (found_present (codes "properties") (node_rows a) refl)

-- each member that holds schemas is one of these
pub holders : (ms : Members) (v : Json) → Within one_of ms v → Within items ms v → Within properties ms v → (holder : Holder) → Within holder ms v
holders ms v a b c one_of = a
holders ms v a b c items = b
holders ms v a b c properties = c

-- a node accepts what its rules and the schemas below it accept
pub node_accepts : (a : Inside) (v : Json) → Accepts (schema_of (node_members a)) v ↔
    (IsAllowed a.rules v × Within one_of (members_of (node_members a)) v × Within items (members_of (node_members a)) v × Within properties (members_of (node_members a)) v)
node_accepts a v =
    let ms = members_of (node_members a) in (
      λ accepted. (rows_asked ms a.rules v (rules_of_node a) accepted.0, accepted.1 one_of, accepted.1 items, accepted.1 properties),
      λ parts. (rows_hold ms a.rules v (rules_of_node a) parts.0, holders ms v parts.1 parts.2 parts.3),
    )
