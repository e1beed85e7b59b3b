-- The affordances of a Thing Description (TD 1.1 section 5.3.1).
use Rattle.std.specs.Prelude.{ℕ, List, [], ◌∷◌, ◌++◌, Bool, false, Option, Some, None, codes}
use Rattle.std.specs.Option.{option_map_or}
use Rattle.wot_json.specs.Tree.{Json, boolean, object, Members, no_members, member}
use Rattle.wot_json.specs.Lookup.{member_named, value_under}
use Rattle.wot_json.specs.Merge.{members_under}
use Rattle.wot_terms.specs.declared.kind.Kind.{Kind}
use Rattle.wot_terms.specs.declared.kind.Kind.TheVariants as kind
use Rattle.wot_terms.specs.declared.affordance.Affordance.{Affordance}
use Rattle.wot_terms.specs.Faults.{holder}

-- the member of this name, where the value is an object that has it
abbrev pub part : List ℕ → Json → Option Json
part name v = member_named name (members_under v)

-- the truth value of a member, and the one that an affordance has under a name; false where it is absent (section 5.4)
abbrev pub is_true : Option Json → Bool
is_true (Some (boolean b)) = b
is_true o = false

abbrev pub flag_of : List ℕ → Json → Bool
flag_of name v = is_true (part name v)

-- the value that is handed in: a property its own value (section 5.3.1.3), an action its input (section 5.3.1.4)
abbrev pub input_of : Kind → Json → Option Json
input_of kind.Property v = Some v
input_of kind.Action v = part (codes "input") v
input_of kind.Event v = None

-- the value that comes back: of a property its own, of an action its output, of an event its data (section 5.3.1.5)
abbrev pub output_of : Kind → Json → Option Json
output_of kind.Property v = Some v
output_of kind.Action v = part (codes "output") v
output_of kind.Event v = part (codes "data") v

abbrev pub affordance_of : Kind → List ℕ → Json → Affordance
affordance_of k name v = record {
  kind = k;
  name = name;
  input = input_of k v;
  output = output_of k v;
  read_only = flag_of (codes "readOnly") v;
  write_only = flag_of (codes "writeOnly") v;
  observable = flag_of (codes "observable") v;
}

-- the affordances of one kind, in byte order of their names
abbrev pub named_affordances : Kind → Members → List Affordance
named_affordances k no_members = []
named_affordances k (member name v ms) = affordance_of k name v ∷ named_affordances k ms

abbrev pub held_affordances : Kind → Json → List Affordance
held_affordances k (object ms) = named_affordances k ms
held_affordances k v = []

abbrev pub affordances_in : Kind → Members → List Affordance
affordances_in k ms = option_map_or (held_affordances k) (value_under (holder k) ms) []

-- all affordances of a description: its properties, its actions and its events
abbrev pub affordances_of : Json → List Affordance
affordances_of (object ms) = affordances_in kind.Property ms ++ (affordances_in kind.Action ms ++ affordances_in kind.Event ms)
affordances_of v = []
