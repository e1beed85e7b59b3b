-- Compiled rules ask for the same as the rows of their schema.
use Rattle.std.proofs.Common.{◌≡◌, ◌↔◌, ◌≤◌, ℕ, ℤ, pos, ◌≤ℤ◌, ◌<ℤ◌, ◌*ℤ◌, List, [], ◌∷◌, Option, Some, None, IfSome, map, codes, ap, inl, inr, arith}
use Rattle.std.specs.Prelude.{Vec, ⊤}
use Rattle.std.proofs.lemmas.Int.{ints}
use Rattle.std.specs.declared.alloc.Global.{Global}
use Rattle.std.specs.Option.{option_map}
use Rattle.wot_json.specs.Tree.{Json, null, boolean, integer, string, array, object, Elements, Members, elements_of}
use Rattle.wot_json.specs.Meaning.{json_of, json_items}
use Rattle.wot_json.specs.declared.tree.Tree.{Tree}
use Rattle.wot_json.specs.Lookup.{value_under}
use Rattle.wot_schema.specs.Values.{IfInteger, IfString, IfArray, IfObject, SomeElement, element_count, code_points}
use Rattle.wot_schema.specs.Acceptance.{type_of, AreNamesIn, Rows}
use Rattle.wot_schema.specs.Kinds.{kind_name}
use Rattle.wot_schema.specs.declared.kind.ValueType.{ValueType}
use Rattle.wot_schema.specs.declared.counts.CountRange.{CountRange}
use Rattle.wot_schema.specs.declared.numbers.NumberRules.{NumberRules}
use Rattle.wot_schema.specs.declared.rules.Rules.{Rules}
use Rattle.wot_schema.specs.Counts.{IsCountWithin}
use Rattle.wot_schema.specs.Numbers.{IsNumberWithin}
use Rattle.wot_schema.specs.Rules.{IsAmong, HasAll, AreContentsAllowed, IsAllowed, AreRulesOf}

-- a row asks of the member what it asks of what was read from it
row : {A : Type 0} (f : A → Json) (o : Option Json) (m : Option A) (P : Json → Type 0) → o ≡ option_map f m → IfSome m (λ x. P (f x)) ↔ IfSome o P
row f o None P is = rw is (λ h. h, λ h. h)
row f o (Some x) P is = rw is (λ h. h, λ h. h)

-- a fact in place of one that it follows from
each_value : {A : Type 0} (m : Option A) (P Q : A → Type 0) → ((x : A) → P x → Q x) → IfSome m P → IfSome m Q
each_value None P Q to h = tt
each_value (Some x) P Q to h = to x h

each_integer : (v : Json) (P Q : ℤ → Type 0) → ((n : ℤ) → P n → Q n) → IfInteger v P → IfInteger v Q
each_integer (integer n) P Q to h = to n h
each_integer v P Q to h = tt

each_string : (v : Json) (P Q : List ℕ → Type 0) → ((t : List ℕ) → P t → Q t) → IfString v P → IfString v Q
each_string (string t) P Q to h = to t h
each_string v P Q to h = tt

each_array : (v : Json) (P Q : Elements → Type 0) → ((es : Elements) → P es → Q es) → IfArray v P → IfArray v Q
each_array (array es) P Q to h = to es h
each_array v P Q to h = tt

each_object : (v : Json) (P Q : Members → Type 0) → ((ms : Members) → P ms → Q ms) → IfObject v P → IfObject v Q
each_object (object ms) P Q to h = to ms h
each_object v P Q to h = tt

free : {A : Type 0} (m : Option A) → IfSome m (λ _. ⊤)
free None = tt
free (Some x) = tt

-- whether a value is an integer, a text, a list or an object may be asked before or after whether a rule is there
integers : {A : Type 0} (v : Json) (m : Option A) (Q : A → ℤ → Type 0) → IfInteger v (λ n. IfSome m (λ x. Q x n)) ↔ IfSome m (λ x. IfInteger v (Q x))
integers (integer n) m Q = (λ h. h, λ h. h)
integers v m Q = (λ h. free m, λ h. tt)

strings : {A : Type 0} (v : Json) (m : Option A) (Q : A → List ℕ → Type 0) → IfString v (λ t. IfSome m (λ x. Q x t)) ↔ IfSome m (λ x. IfString v (Q x))
strings (string t) m Q = (λ h. h, λ h. h)
strings v m Q = (λ h. free m, λ h. tt)

arrays : {A : Type 0} (v : Json) (m : Option A) (Q : A → Elements → Type 0) → IfArray v (λ es. IfSome m (λ x. Q x es)) ↔ IfSome m (λ x. IfArray v (Q x))
arrays (array es) m Q = (λ h. h, λ h. h)
arrays v m Q = (λ h. free m, λ h. tt)

objects : {A : Type 0} (v : Json) (m : Option A) (Q : A → Members → Type 0) → IfObject v (λ ms. IfSome m (λ x. Q x ms)) ↔ IfSome m (λ x. IfObject v (Q x))
objects (object ms) m Q = (λ h. h, λ h. h)
objects v m Q = (λ h. free m, λ h. tt)

-- the demands of the rules on the contents of a value, type by type
record Parts (r : Rules) (v : Json) : Type 0 where
  numbers : IfInteger v (IsNumberWithin r.numbers)
  characters : IfString v (λ t. IsCountWithin r.characters (code_points t))
  items : IfArray v (λ es. IsCountWithin r.items (element_count es))
  required : IfObject v (λ ms. IfSome r.required (λ names. HasAll ms names.items))

parts : (r : Rules) (v : Json) → AreContentsAllowed r v → Parts r v
parts r null h = record { numbers = tt; characters = tt; items = tt; required = tt }
parts r (boolean b) h = record { numbers = tt; characters = tt; items = tt; required = tt }
parts r (integer n) h = record { numbers = h; characters = tt; items = tt; required = tt }
parts r (string t) h = record { numbers = tt; characters = h; items = tt; required = tt }
parts r (array es) h = record { numbers = tt; characters = tt; items = h; required = tt }
parts r (object ms) h = record { numbers = tt; characters = tt; items = tt; required = h }

contents : (r : Rules) (v : Json) → Parts r v → AreContentsAllowed r v
contents r null p = tt
contents r (boolean b) p = tt
contents r (integer n) p = p.numbers
contents r (string t) p = p.characters
contents r (array es) p = p.items
contents r (object ms) p = p.required

among : (v : Json) (ts : List Tree) → IsAmong v ts ↔ SomeElement (λ s. v ≡ s) (elements_of (json_items ts))
among v [] = (λ h. h, λ h. h)
among v (t ∷ ts) = (
  λ h. elim h [ inl e ↦ inl e | inr rest ↦ inr ((among v ts).0 rest) ],
  λ h. elim h [ inl e ↦ inl e | inr rest ↦ inr ((among v ts).1 rest) ],
)

have : (ms : Members) (ns : List (List ℕ)) → HasAll ms ns ↔ AreNamesIn (elements_of (map string ns)) ms
have ms [] = (λ h. h, λ h. h)
have ms (n ∷ ns) = (λ h. (h.0, (have ms ns).0 h.1), λ h. (h.0, (have ms ns).1 h.1))

text_equal : (s t : List ℕ) → string s ≡ string t → s ≡ t
text_equal s t same = cc

pos_le : (m n : ℕ) → m ≤ n → pos m ≤ℤ pos n
pos_le m n le = omega (arith, ints)

pos_le_back : (m n : ℕ) → pos m ≤ℤ pos n → m ≤ n
pos_le_back m n le = omega (arith, ints)

number_row : (v : Json) (r : NumberRules) (o : Option Json) (m : Option ℤ) (Q : ℤ → ℤ → Type 0) → o ≡ option_map integer m → ((n : ℤ) → IsNumberWithin r n → IfSome m (λ x. Q x n)) → IfInteger v (IsNumberWithin r) → IfSome o (λ s. IfInteger s (λ x. IfInteger v (Q x)))
number_row v r o m Q is to h =
    (row integer o m (λ s. IfInteger s (λ x. IfInteger v (Q x))) is).0 ((integers v m Q).0 (each_integer v (IsNumberWithin r) (λ n. IfSome m (λ x. Q x n)) to h))

number_row_back : (v : Json) (o : Option Json) (m : Option ℤ) (Q : ℤ → ℤ → Type 0) → o ≡ option_map integer m → IfSome o (λ s. IfInteger s (λ x. IfInteger v (Q x))) → IfInteger v (λ n. IfSome m (λ x. Q x n))
number_row_back v o m Q is h =
    (integers v m Q).1 ((row integer o m (λ s. IfInteger s (λ x. IfInteger v (Q x))) is).1 h)

-- rules that hold of an integer one by one hold of it
numbers_hold : (v : Json) (r : NumberRules) →
    IfInteger v (λ n. IfSome r.minimum (λ least. least ≤ℤ n)) →
    IfInteger v (λ n. IfSome r.maximum (λ most. n ≤ℤ most)) →
    IfInteger v (λ n. IfSome r.exclusive_minimum (λ bound. bound <ℤ n)) →
    IfInteger v (λ n. IfSome r.exclusive_maximum (λ bound. n <ℤ bound)) →
    IfInteger v (λ n. IfSome r.multiple_of (λ unit. (k : ℤ) × (n ≡ k *ℤ pos unit))) →
    IfInteger v (IsNumberWithin r)
numbers_hold (integer n) r a b c d e = record { minimum = a; maximum = b; exclusive_minimum = c; exclusive_maximum = d; multiple_of = e }
numbers_hold v r a b c d e = tt

-- the row of a least count, over texts and over lists
count : (o : Option Json) (m : Option ℕ) (P : ℤ → Type 0) → o ≡ option_map (λ n. integer (pos n)) m → IfSome m (λ n. P (pos n)) ↔ IfSome o (λ s. IfInteger s P)
count o m P is = row (λ (n : ℕ). integer (pos n)) o m (λ s. IfInteger s P) is

counts_within_string : (v : Json) (r : CountRange) → IfString v (λ t. IfSome r.least (λ n. n ≤ code_points t)) → IfString v (λ t. IfSome r.most (λ n. code_points t ≤ n)) → IfString v (λ t. IsCountWithin r (code_points t))
counts_within_string (string t) r a b = (a, b)
counts_within_string v r a b = tt

counts_within_array : (v : Json) (r : CountRange) → IfArray v (λ es. IfSome r.least (λ n. n ≤ element_count es)) → IfArray v (λ es. IfSome r.most (λ n. element_count es ≤ n)) → IfArray v (λ es. IsCountWithin r (element_count es))
counts_within_array (array es) r a b = (a, b)
counts_within_array v r a b = tt

-- a value that meets the rules meets the rows of the schema that they were read from
pub rows_hold : (ms : Members) (r : Rules) (v : Json) → AreRulesOf ms r → IsAllowed r v → Rows ms v
rows_hold ms r v is allowed =
    let p : Parts r v = parts r v allowed.contents in
    record {
      type = (row (λ (k : ValueType). string (kind_name k)) (value_under (codes "type") ms) r.kind (λ s. s ≡ string (type_of v)) is.type).0
          (each_value r.kind (λ k. kind_name k ≡ type_of v) (λ k. string (kind_name k) ≡ string (type_of v)) (λ k e. ap (λ (t : List ℕ). string t) e) allowed.type);
      constant = (row json_of (value_under (codes "const") ms) r.constant (λ s. v ≡ s) is.constant).0 allowed.constant;
      choice = (row (λ (ts : Vec Tree Global). array (elements_of (json_items ts.items))) (value_under (codes "enum") ms) r.choices (λ s. IfArray s (SomeElement (λ s. v ≡ s))) is.choice).0
          (each_value r.choices (λ ts. IsAmong v ts.items) (λ ts. SomeElement (λ s. v ≡ s) (elements_of (json_items ts.items))) (λ ts h. (among v ts.items).0 h) allowed.choice);
      minimum = number_row v r.numbers (value_under (codes "minimum") ms) r.numbers.minimum (λ least n. least ≤ℤ n) is.numbers.minimum (λ n h. h.minimum) p.numbers;
      maximum = number_row v r.numbers (value_under (codes "maximum") ms) r.numbers.maximum (λ most n. n ≤ℤ most) is.numbers.maximum (λ n h. h.maximum) p.numbers;
      exclusive_minimum = number_row v r.numbers (value_under (codes "exclusiveMinimum") ms) r.numbers.exclusive_minimum (λ bound n. bound <ℤ n) is.numbers.exclusive_minimum (λ n h. h.exclusive_minimum) p.numbers;
      exclusive_maximum = number_row v r.numbers (value_under (codes "exclusiveMaximum") ms) r.numbers.exclusive_maximum (λ bound n. n <ℤ bound) is.numbers.exclusive_maximum (λ n h. h.exclusive_maximum) p.numbers;
      multiple_of = (count (value_under (codes "multipleOf") ms) r.numbers.multiple_of (λ unit. IfInteger v (λ n. (k : ℤ) × (n ≡ k *ℤ unit))) is.numbers.multiple_of).0
          ((integers v r.numbers.multiple_of (λ unit n. (k : ℤ) × (n ≡ k *ℤ pos unit))).0 (each_integer v (IsNumberWithin r.numbers) (λ n. IfSome r.numbers.multiple_of (λ unit. (k : ℤ) × (n ≡ k *ℤ pos unit))) (λ n h. h.multiple_of) p.numbers));
      min_length = (count (value_under (codes "minLength") ms) r.characters.least (λ x. IfString v (λ t. x ≤ℤ pos (code_points t))) is.min_length).0
          ((strings v r.characters.least (λ n t. pos n ≤ℤ pos (code_points t))).0
          (each_string v (λ t. IsCountWithin r.characters (code_points t)) (λ t. IfSome r.characters.least (λ n. pos n ≤ℤ pos (code_points t))) (λ t w. each_value r.characters.least (λ n. n ≤ code_points t) (λ n. pos n ≤ℤ pos (code_points t)) (λ n h. pos_le n (code_points t) h) w.0) p.characters));
      max_length = (count (value_under (codes "maxLength") ms) r.characters.most (λ x. IfString v (λ t. pos (code_points t) ≤ℤ x)) is.max_length).0
          ((strings v r.characters.most (λ n t. pos (code_points t) ≤ℤ pos n)).0
          (each_string v (λ t. IsCountWithin r.characters (code_points t)) (λ t. IfSome r.characters.most (λ n. pos (code_points t) ≤ℤ pos n)) (λ t w. each_value r.characters.most (λ n. code_points t ≤ n) (λ n. pos (code_points t) ≤ℤ pos n) (λ n h. pos_le (code_points t) n h) w.1) p.characters));
      min_items = (count (value_under (codes "minItems") ms) r.items.least (λ x. IfArray v (λ es. x ≤ℤ pos (element_count es))) is.min_items).0
          ((arrays v r.items.least (λ n es. pos n ≤ℤ pos (element_count es))).0
          (each_array v (λ es. IsCountWithin r.items (element_count es)) (λ es. IfSome r.items.least (λ n. pos n ≤ℤ pos (element_count es))) (λ es w. each_value r.items.least (λ n. n ≤ element_count es) (λ n. pos n ≤ℤ pos (element_count es)) (λ n h. pos_le n (element_count es) h) w.0) p.items));
      max_items = (count (value_under (codes "maxItems") ms) r.items.most (λ x. IfArray v (λ es. pos (element_count es) ≤ℤ x)) is.max_items).0
          ((arrays v r.items.most (λ n es. pos (element_count es) ≤ℤ pos n)).0
          (each_array v (λ es. IsCountWithin r.items (element_count es)) (λ es. IfSome r.items.most (λ n. pos (element_count es) ≤ℤ pos n)) (λ es w. each_value r.items.most (λ n. element_count es ≤ n) (λ n. pos (element_count es) ≤ℤ pos n) (λ n h. pos_le (element_count es) n h) w.1) p.items));
      required = (row (λ (names : Vec (List ℕ) Global). array (elements_of (map string names.items))) (value_under (codes "required") ms) r.required (λ s. IfArray s (λ names. IfObject v (AreNamesIn names))) is.required).0
          ((objects v r.required (λ names vs. AreNamesIn (elements_of (map string names.items)) vs)).0
          (each_object v (λ vs. IfSome r.required (λ names. HasAll vs names.items)) (λ vs. IfSome r.required (λ names. AreNamesIn (elements_of (map string names.items)) vs)) (λ vs w. each_value r.required (λ names. HasAll vs names.items) (λ names. AreNamesIn (elements_of (map string names.items)) vs) (λ names h. (have vs names.items).0 h) w) p.required));
    }

-- and a value that meets the rows meets the rules
pub rows_asked : (ms : Members) (r : Rules) (v : Json) → AreRulesOf ms r → Rows ms v → IsAllowed r v
rows_asked ms r v is rows =
    record {
      type = each_value r.kind (λ k. string (kind_name k) ≡ string (type_of v)) (λ k. kind_name k ≡ type_of v) (λ k e. text_equal (kind_name k) (type_of v) e)
          ((row (λ (k : ValueType). string (kind_name k)) (value_under (codes "type") ms) r.kind (λ s. s ≡ string (type_of v)) is.type).1 rows.type);
      constant = (row json_of (value_under (codes "const") ms) r.constant (λ s. v ≡ s) is.constant).1 rows.constant;
      choice = each_value r.choices (λ ts. SomeElement (λ s. v ≡ s) (elements_of (json_items ts.items))) (λ ts. IsAmong v ts.items) (λ ts h. (among v ts.items).1 h)
          ((row (λ (ts : Vec Tree Global). array (elements_of (json_items ts.items))) (value_under (codes "enum") ms) r.choices (λ s. IfArray s (SomeElement (λ s. v ≡ s))) is.choice).1 rows.choice);
      contents = contents r v (record {
        numbers = numbers_hold v r.numbers
            (number_row_back v (value_under (codes "minimum") ms) r.numbers.minimum (λ least n. least ≤ℤ n) is.numbers.minimum rows.minimum)
            (number_row_back v (value_under (codes "maximum") ms) r.numbers.maximum (λ most n. n ≤ℤ most) is.numbers.maximum rows.maximum)
            (number_row_back v (value_under (codes "exclusiveMinimum") ms) r.numbers.exclusive_minimum (λ bound n. bound <ℤ n) is.numbers.exclusive_minimum rows.exclusive_minimum)
            (number_row_back v (value_under (codes "exclusiveMaximum") ms) r.numbers.exclusive_maximum (λ bound n. n <ℤ bound) is.numbers.exclusive_maximum rows.exclusive_maximum)
            ((integers v r.numbers.multiple_of (λ unit n. (k : ℤ) × (n ≡ k *ℤ pos unit))).1 ((count (value_under (codes "multipleOf") ms) r.numbers.multiple_of (λ unit. IfInteger v (λ n. (k : ℤ) × (n ≡ k *ℤ unit))) is.numbers.multiple_of).1 rows.multiple_of));
        characters = counts_within_string v r.characters
            (each_string v (λ t. IfSome r.characters.least (λ n. pos n ≤ℤ pos (code_points t))) (λ t. IfSome r.characters.least (λ n. n ≤ code_points t)) (λ t w. each_value r.characters.least (λ n. pos n ≤ℤ pos (code_points t)) (λ n. n ≤ code_points t) (λ n h. pos_le_back n (code_points t) h) w)
            ((strings v r.characters.least (λ n t. pos n ≤ℤ pos (code_points t))).1 ((count (value_under (codes "minLength") ms) r.characters.least (λ x. IfString v (λ t. x ≤ℤ pos (code_points t))) is.min_length).1 rows.min_length)))
            (each_string v (λ t. IfSome r.characters.most (λ n. pos (code_points t) ≤ℤ pos n)) (λ t. IfSome r.characters.most (λ n. code_points t ≤ n)) (λ t w. each_value r.characters.most (λ n. pos (code_points t) ≤ℤ pos n) (λ n. code_points t ≤ n) (λ n h. pos_le_back (code_points t) n h) w)
            ((strings v r.characters.most (λ n t. pos (code_points t) ≤ℤ pos n)).1 ((count (value_under (codes "maxLength") ms) r.characters.most (λ x. IfString v (λ t. pos (code_points t) ≤ℤ x)) is.max_length).1 rows.max_length)));
        items = counts_within_array v r.items
            (each_array v (λ es. IfSome r.items.least (λ n. pos n ≤ℤ pos (element_count es))) (λ es. IfSome r.items.least (λ n. n ≤ element_count es)) (λ es w. each_value r.items.least (λ n. pos n ≤ℤ pos (element_count es)) (λ n. n ≤ element_count es) (λ n h. pos_le_back n (element_count es) h) w)
            ((arrays v r.items.least (λ n es. pos n ≤ℤ pos (element_count es))).1 ((count (value_under (codes "minItems") ms) r.items.least (λ x. IfArray v (λ es. x ≤ℤ pos (element_count es))) is.min_items).1 rows.min_items)))
            (each_array v (λ es. IfSome r.items.most (λ n. pos (element_count es) ≤ℤ pos n)) (λ es. IfSome r.items.most (λ n. element_count es ≤ n)) (λ es w. each_value r.items.most (λ n. pos (element_count es) ≤ℤ pos n) (λ n. element_count es ≤ n) (λ n h. pos_le_back (element_count es) n h) w)
            ((arrays v r.items.most (λ n es. pos (element_count es) ≤ℤ pos n)).1 ((count (value_under (codes "maxItems") ms) r.items.most (λ x. IfArray v (λ es. pos (element_count es) ≤ℤ x)) is.max_items).1 rows.max_items)));
        required =
            each_object v (λ vs. IfSome r.required (λ names. AreNamesIn (elements_of (map string names.items)) vs)) (λ vs. IfSome r.required (λ names. HasAll vs names.items)) (λ vs w. each_value r.required (λ names. AreNamesIn (elements_of (map string names.items)) vs) (λ names. HasAll vs names.items) (λ names h. (have vs names.items).1 h) w)
            ((objects v r.required (λ names vs. AreNamesIn (elements_of (map string names.items)) vs)).1
            ((row (λ (names : Vec (List ℕ) Global). array (elements_of (map string names.items))) (value_under (codes "required") ms) r.required (λ s. IfArray s (λ names. IfObject v (AreNamesIn names))) is.required).1 rows.required));
      });
    }
