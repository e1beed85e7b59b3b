-- The steps in which a value is held against a node.
use Rattle.std.proofs.Common.{◌≡◌, ◌↔◌, ℕ, List, Some, None, IsTrue, Bool, true, false, map, refl, subst}
use Rattle.std.specs.Prelude.{Vec}
use Rattle.std.specs.declared.alloc.Global.{Global}
use Rattle.wot_json.specs.Tree.{Json, null, boolean, integer, string, array, object, Elements, Members, elements_of, members_of}
use Rattle.wot_json.specs.Meaning.{json_of}
use Rattle.wot_json.specs.declared.tree.Tree.{Tree}
use Rattle.wot_json.specs.declared.tree.Tree.TheVariants as tree
use Rattle.wot_schema.specs.Values.{EachElement, IfArray, IfObject}
use Rattle.wot_schema.specs.Acceptance.{Accepts, items, properties, Within, Asks, ExactlyOne, InOrder, AcceptMembers}
use Rattle.wot_schema.specs.Rules.{IsAllowed}
use Rattle.wot_schema.specs.Nodes.{node_members, schema_of, schemas_of, list_of, items_of, properties_of}
use Rattle.wot_schema.specs.declared.node.SchemaNode.{SchemaNode}
use Rattle.wot_schema.specs.declared.node.SchemaNode.TheInside.{Inside}
use Rattle.wot_schema.specs.declared.node.ItemRule.{ItemRule}
use Rattle.wot_schema.specs.declared.node.ItemRule.TheVariants as item
use Rattle.wot_schema.proofs.NodeMeaning.{node_accepts, one_of_node, items_node, properties_node}

abbrev pub Named : Type 0
Named = List ℕ × Json

pub not_both : (b : Bool) → b ≡ false → b ≡ true → ⊥
not_both b no_b yes_b = cc

-- a value that doesn't meet the rules is refused
pub refused_by_rules : (a : Inside) (n : List Named) (v : Json) (b : Bool) → node_members a ≡ n → (IsTrue b ↔ IsAllowed a.rules v) → b ≡ false → IsTrue false ↔ Accepts (schema_of n) v
refused_by_rules a n v b is rules refused =
    subst (λ (m : List Named). IsTrue false ↔ Accepts (schema_of m) v) is
    (λ h. absurd cc, λ accepted. absurd (not_both b refused (rules.1 ((node_accepts a v).0 accepted).0)))

-- where there is no `oneOf`, rules and contents decide
pub without_alternatives : (a : Inside) (n : List Named) (v : Json) (b c : Bool) → node_members a ≡ n → (IsTrue b ↔ IsAllowed a.rules v) → b ≡ true → a.alternatives ≡ None →
    (IsTrue c ↔ (Within items (members_of n) v × Within properties (members_of n) v)) → IsTrue c ↔ Accepts (schema_of n) v
without_alternatives a n v b c is rules allowed free =
    subst (λ (m : List Named). (IsTrue c ↔ (Within items (members_of m) v × Within properties (members_of m) v)) → IsTrue c ↔ Accepts (schema_of m) v) is
    (λ contents. (
      λ h. (node_accepts a v).1 (rules.0 allowed, (one_of_node a v).1 (rw free tt), (contents.0 h).0, (contents.0 h).1),
      λ accepted. let parts = (node_accepts a v).0 accepted in contents.1 (parts.2, parts.3),
    ))

-- a value that not exactly one alternative accepts is refused
pub refused_by_alternatives : (a : Inside) (n : List Named) (v : Json) (nodes : Vec SchemaNode Global) (d : Bool) → node_members a ≡ n → a.alternatives ≡ Some nodes →
    (IsTrue d ↔ ExactlyOne (elements_of (map schema_of nodes.items)) v) → d ≡ false → IsTrue d ↔ Accepts (schema_of n) v
refused_by_alternatives a n v nodes d is some alternatives refused =
    subst (λ (m : List Named). IsTrue d ↔ Accepts (schema_of m) v) is (
      λ h. absurd (not_both d refused h),
      λ accepted.
          let asked = (one_of_node a v).0 ((node_accepts a v).0 accepted).1 in
          absurd (not_both d refused (alternatives.1 (rw some at asked))),
    )

-- where exactly one alternative accepts it, rules and contents decide
pub with_alternatives : (a : Inside) (n : List Named) (v : Json) (nodes : Vec SchemaNode Global) (b d c : Bool) → node_members a ≡ n → (IsTrue b ↔ IsAllowed a.rules v) → b ≡ true → a.alternatives ≡ Some nodes →
    (IsTrue d ↔ ExactlyOne (elements_of (map schema_of nodes.items)) v) → d ≡ true →
    (IsTrue c ↔ (Within items (members_of n) v × Within properties (members_of n) v)) → IsTrue c ↔ Accepts (schema_of n) v
with_alternatives a n v nodes b d c is rules allowed some alternatives accepted_by_one =
    subst (λ (m : List Named). (IsTrue c ↔ (Within items (members_of m) v × Within properties (members_of m) v)) → IsTrue c ↔ Accepts (schema_of m) v) is
    (λ contents. (
      λ h. (node_accepts a v).1 (rules.0 allowed, (one_of_node a v).1 (rw some (alternatives.0 accepted_by_one)), (contents.0 h).0, (contents.0 h).1),
      λ accepted. let parts = (node_accepts a v).0 accepted in contents.1 (parts.2, parts.3),
    ))

free_items : (rule : ItemRule) (v : Json) → IfArray v (λ _. ⊥) → Asks items (items_of rule) v
free_items (item.Each node) null other = tt
free_items (item.Each node) (boolean b) other = tt
free_items (item.Each node) (integer n) other = tt
free_items (item.Each node) (string t) other = tt
free_items (item.Each node) (array es) other = absurd other
free_items (item.Each node) (object ms) other = tt
free_items (item.InOrder nodes) null other = tt
free_items (item.InOrder nodes) (boolean b) other = tt
free_items (item.InOrder nodes) (integer n) other = tt
free_items (item.InOrder nodes) (string t) other = tt
free_items (item.InOrder nodes) (array es) other = absurd other
free_items (item.InOrder nodes) (object ms) other = tt

free_properties : (ps : List (List ℕ × List Named)) (v : Json) → IfObject v (λ _. ⊥) → Asks properties (properties_of ps) v
free_properties ps null other = tt
free_properties ps (boolean b) other = tt
free_properties ps (integer n) other = tt
free_properties ps (string t) other = tt
free_properties ps (array es) other = tt
free_properties ps (object ms) other = absurd other

-- a tree of the code that is no list and no object
pub no_array : (t : Tree) → ((vs : List Json) → t ≡ tree.List vs → ⊥) → IfArray (json_of t) (λ _. ⊥)
no_array tree.Null other = tt
no_array (tree.Bool b) other = tt
no_array (tree.Int z) other = tt
no_array (tree.Text s) other = tt
no_array (tree.List vs) other = other vs refl
no_array (tree.Obj ms) other = tt

pub no_object : (t : Tree) → ((ms : List Named) → t ≡ tree.Obj ms → ⊥) → IfObject (json_of t) (λ _. ⊥)
no_object tree.Null other = tt
no_object (tree.Bool b) other = tt
no_object (tree.Int z) other = tt
no_object (tree.Text s) other = tt
no_object (tree.List vs) other = tt
no_object (tree.Obj ms) other = other ms refl

-- contents are decided by what the schemas below `items` and `properties` ask
contents_are : (a : Inside) (n : List Named) (v : Json) (b : Bool) → node_members a ≡ n →
    (IsTrue b ↔ (Asks items (items_of a.items) v × Asks properties (properties_of a.properties.items) v)) → IsTrue b ↔ (Within items (members_of n) v × Within properties (members_of n) v)
contents_are a n v b is asked =
    subst (λ (m : List Named). IsTrue b ↔ (Within items (members_of m) v × Within properties (members_of m) v)) is (
      λ h. ((items_node a v).1 (asked.0 h).0, (properties_node a v).1 (asked.0 h).1),
      λ within. asked.1 ((items_node a v).0 within.0, (properties_node a v).0 within.1),
    )

-- a value that is no list and no object has no contents
pub no_contents : (a : Inside) (n : List Named) (v : Json) → node_members a ≡ n → IfArray v (λ _. ⊥) → IfObject v (λ _. ⊥) → IsTrue true ↔ (Within items (members_of n) v × Within properties (members_of n) v)
no_contents a n v is no_array no_object =
    contents_are a n v true is (λ h. (free_items a.items v no_array, free_properties a.properties.items v no_object), λ h. refl)

-- a list against one schema
pub contents_each : (a : Inside) (n m : List Named) (es : Elements) (b : Bool) → node_members a ≡ n → items_of a.items ≡ schema_of m → (IsTrue b ↔ EachElement (Accepts (schema_of m)) es) →
    IsTrue b ↔ (Within items (members_of n) (array es) × Within properties (members_of n) (array es))
contents_each a n m es b is rule each =
    contents_are a n (array es) b is
    (rw rule (λ h. (each.0 h, tt), λ asked. each.1 asked.0))

-- a list against a list of schemas
pub contents_in_order : (a : Inside) (n : List Named) (nodes : List (List Named)) (es : Elements) (b : Bool) → node_members a ≡ n → items_of a.items ≡ list_of nodes →
    (IsTrue b ↔ InOrder (elements_of (map schema_of nodes)) es) → IsTrue b ↔ (Within items (members_of n) (array es) × Within properties (members_of n) (array es))
contents_in_order a n nodes es b is rule in_order =
    contents_are a n (array es) b is
    (rw rule (λ h. (in_order.0 h, tt), λ asked. in_order.1 asked.0))

-- an object against the schemas of its members
pub contents_members : (a : Inside) (n : List Named) (ms : Members) (b : Bool) → node_members a ≡ n → (IsTrue b ↔ AcceptMembers (members_of (schemas_of a.properties.items)) ms) →
    IsTrue b ↔ (Within items (members_of n) (object ms) × Within properties (members_of n) (object ms))
contents_members a n ms b is members =
    contents_are a n (object ms) b is
    (λ h. (free_items a.items (object ms) tt, members.0 h), λ asked. members.1 asked.1)
