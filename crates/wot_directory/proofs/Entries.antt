-- The answers of the directory's map, in terms of the list of descriptions.
use Rattle.std.proofs.Common.{◌≡◌, ◌≤◌, ◌<◌, ◌+◌, ℕ, List, [], ◌∷◌, length, refl, sym, ap, subst, arith, ◌∙◌, inl, inr, Bool, true, false, cond, Bor}
use Rattle.std.specs.Prelude.{Option, Some, None, option_map, option_copied, is_some, IsSome, String, string_bytes, ◌⊎◌, Result, Ok, Err, IfOk, OnErr}
use Rattle.std.specs.Str.{bytes_eq}
use Rattle.std.specs.declared.alloc.Global.{Global}
use Rattle.std.specs.Ordering.{nat_cmp, match_ordering}
use Rattle.std.specs.declared.cmp.Ordering.{Ordering}
use Rattle.std.specs.declared.cmp.Ordering.TheVariants.{Less, Equal, Greater}
use Rattle.std.specs.Cmp.Lexicographic.{slice_cmp}
use Rattle.std.specs.List.Sorted.{IsStrictlySortedBy}
use Rattle.std.specs.Map.{lookup, remove_entry, keys_of}
use Rattle.std.specs.BTreeMap.{is_at, insert_entry}
use Rattle.std.specs.String.{string_cmp}
use Rattle.std.proofs.lemmas.Map.Text.{is_eq-slice_cmp}
use Rattle.std.proofs.lemmas.List.{length-map}
use Rattle.wot_json.specs.Tree.{Json, AreOrdered}
use Rattle.wot_json.specs.Cutting.{IsBeforeAll}
use Rattle.wot_json.specs.Meaning.{json_of}
use Rattle.wot_json.specs.Lookup.{member_named}
use Rattle.wot_json.specs.Merge.{with_member, without_member}
use Rattle.wot_json.specs.declared.tree.Tree.{Tree}
use Rattle.wot_json.proofs.MemberOrder.{less, equal, greater, compares, before_other, rest_ordered, before_others}
use Rattle.wot_directory.specs.Contents.{Contents, Entries}
use Rattle.wot_directory.specs.Kept.{kept_entries, contents_of}
use Rattle.wot_directory.specs.Directory.{HasRoom, with_entry, without_entry}

abbrev pub Kept : Type 0
Kept = List (String Global × Tree)

-- the description that the map holds under a text
abbrev pub found_in : List ℕ → Kept → Option Tree
found_in id es = lookup (is_at (λ k. slice_cmp nat_cmp id (string_bytes k))) es

-- ---- looking up

-- the description that a lookup lends, by value
pub lent_value : (r : Option (Bor Tree)) → option_map (λ t. json_of t.now) r ≡ option_map json_of (option_copied r)
lent_value None = refl
lent_value (Some t) = refl

-- a choice, seen by its values
mapped : (b : Bool) (t : Tree) (r : Option Tree) → option_map json_of (cond b (Some t) r) ≡ cond b (Some (json_of t)) (option_map json_of r)
mapped true t r = refl
mapped false t r = refl

-- a lookup in the map is one in the list
pub kept_found : (id : List ℕ) (es : Kept) → option_map json_of (found_in id es) ≡ member_named id (kept_entries es)
kept_found id [] = refl
kept_found id (e ∷ es) =
    mapped (is_at (λ k. slice_cmp nat_cmp id (string_bytes k)) e.0) e.1 (found_in id es)
    ∙ ap (λ (b : Bool). cond b (Some (json_of e.1)) (option_map json_of (found_in id es))) (is_eq-slice_cmp id (string_bytes e.0))
    ∙ ap (λ (r : Option Json). cond (bytes_eq id (string_bytes e.0)) (Some (json_of e.1)) r) (kept_found id es)

some_mapped : (r : Option Tree) → is_some (option_map json_of r) ≡ is_some r
some_mapped None = refl
some_mapped (Some t) = refl

-- both say alike whether there is one
pub kept_some : (id : List ℕ) (es : Kept) → is_some (member_named id (kept_entries es)) ≡ is_some (found_in id es)
kept_some id es = ap (λ (r : Option Json). is_some r) (sym (kept_found id es)) ∙ some_mapped (found_in id es)

none_of : (r : Option Json) → is_some r ≡ false → r ≡ None
none_of None h = refl
none_of (Some v) h = absurd (cc)

-- a map without an entry has no description there
pub none_kept : (id : List ℕ) (es : Kept) → is_some (found_in id es) ≡ false → member_named id (kept_entries es) ≡ None
none_kept id es none = none_of (member_named id (kept_entries es)) (kept_some id es ∙ none)

-- and one with an entry has
pub some_kept : (id : List ℕ) (es : Kept) → is_some (found_in id es) ≡ true → IsSome (member_named id (kept_entries es))
some_kept id es some = kept_some id es ∙ some

-- ---- insertion

placed : (o : Ordering) (before here after : Kept) → kept_entries (match_ordering o before here after) ≡ match_ordering o (kept_entries before) (kept_entries here) (kept_entries after)
placed Less before here after = refl
placed Equal before here after = refl
placed Greater before here after = refl

-- where two names compare as equal, either may be there
either_name : (m n : List ℕ) (v : Json) (before after rest : List (List ℕ × Json)) → match_ordering (slice_cmp nat_cmp m n) before ((n, v) ∷ rest) after ≡ match_ordering (slice_cmp nat_cmp m n) before ((m, v) ∷ rest) after
either_name m n v before after rest = elim (compares m n) [
  | less is test ↦ rw is
  | equal is same test ↦ ap (λ (x : List ℕ). match_ordering (slice_cmp nat_cmp m n) before ((x, v) ∷ rest) after) (sym same)
  | greater is behind test ↦ rw is
]

-- an insertion into the map is one into the list
pub kept_inserted : (es : Kept) (k : String Global) (t : Tree) → kept_entries (insert_entry string_cmp es k t) ≡ with_member (string_bytes k) (json_of t) (kept_entries es)
kept_inserted [] k t = refl
kept_inserted (e ∷ es) k t =
    placed (slice_cmp nat_cmp (string_bytes k) (string_bytes e.0)) ((k, t) ∷ e ∷ es) ((e.0, t) ∷ es) (e ∷ insert_entry string_cmp es k t)
    ∙ ap (λ (ms : List (List ℕ × Json)). match_ordering (slice_cmp nat_cmp (string_bytes k) (string_bytes e.0)) (kept_entries ((k, t) ∷ e ∷ es)) (kept_entries ((e.0, t) ∷ es)) ((string_bytes e.0, json_of e.1) ∷ ms)) (kept_inserted es k t)
    ∙ either_name (string_bytes k) (string_bytes e.0) (json_of t) (kept_entries ((k, t) ∷ e ∷ es)) ((string_bytes e.0, json_of e.1) ∷ with_member (string_bytes k) (json_of t) (kept_entries es)) (kept_entries es)

-- ---- removal

without_behind : (name : List ℕ) (ms : List (List ℕ × Json)) → IsBeforeAll name ms → without_member name ms ≡ ms
without_behind name [] before = refl
without_behind name (m ∷ ms) before = rw (before_other name m.0 before.0) (ap (λ (xs : List (List ℕ × Json)). m ∷ xs) (without_behind name ms before.1))

-- a removal from the map is one from the list, whose ids are in order
pub kept_removed : (id : List ℕ) (es : Kept) → AreOrdered (kept_entries es) → kept_entries (remove_entry (is_at (λ k. slice_cmp nat_cmp id (string_bytes k))) es) ≡ without_member id (kept_entries es)
kept_removed id [] ordered = refl
kept_removed id (e ∷ es) ordered =
    let later = kept_removed id es (rest_ordered (string_bytes e.0, json_of e.1) (kept_entries es) ordered) in
    let others = before_others (string_bytes e.0, json_of e.1) (kept_entries es) ordered in
    elim (compares id (string_bytes e.0)) [
      | less is test ↦ rw (is, test) (ap (λ (ms : List (List ℕ × Json)). (string_bytes e.0, json_of e.1) ∷ ms) later)
      | equal is same test ↦ rw (is, test) (sym (without_behind id (kept_entries es) (subst (λ (n : List ℕ). IsBeforeAll n (kept_entries es)) (sym same) others)))
      | greater is behind test ↦ rw (is, test) (ap (λ (ms : List (List ℕ × Json)). (string_bytes e.0, json_of e.1) ∷ ms) later)
    ]

-- ---- what is true of each directory

-- the map's keys ascend, so the ids are in order
pub kept_ordered : (es : Kept) → IsStrictlySortedBy string_cmp (keys_of es) → AreOrdered (kept_entries es)
unfolding IsStrictlySortedBy
kept_ordered [] sorted = tt
kept_ordered (e ∷ []) sorted = tt
kept_ordered (e ∷ f ∷ es) sorted = (sorted.0.0, kept_ordered (f ∷ es) sorted.1)

-- as many are in the list as in the map
pub kept_length : (es : Kept) → length (kept_entries es) ≡ length es
kept_length es = length-map es (λ entry. (string_bytes entry.0, json_of entry.1))

room_by : (found : Bool) (old new : ℕ) → ((found ≡ true) ⊎ (old < 4096)) → new ≡ old + cond found 0 1 → old ≤ 4096 → new ≤ 4096
room_by true old new room len bound = omega arith
room_by false old new (inl found) len bound = absurd (cc)
room_by false old new (inr few) len bound = omega arith

-- where there was room, no more are there than may be
pub still_few : (id : List ℕ) (es : Kept) (now : ℕ) (was : Option Tree) → HasRoom id (kept_entries es) → was ≡ found_in id es → now ≡ length es + cond (is_some was) 0 1 → length es ≤ 4096 → now ≤ 4096
still_few id es now was room is len bound =
    room_by (is_some was) (length es) now
    (elim room [
      | inl found ↦ inl (ap (λ (r : Option Tree). is_some r) is ∙ sym (kept_some id es) ∙ found)
      | inr few ↦ inr (subst (λ (n : ℕ). n < 4096) (kept_length es) few)
    ])
    len bound

-- the same once a description was put: where the map took it, or was out of memory
pub few_after : {E : Type 0} (r : Result (Option Tree) E) (k : String Global) (id : List ℕ) (es now : Kept) (d : Contents) → string_bytes k ≡ id → kept_entries es ≡ d.entries → HasRoom id d.entries → length es ≤ 4096
    → IfOk r (λ was. was ≡ found_in (string_bytes k) es) → IfOk r (λ was. length now ≡ length es + cond (is_some was) 0 1) → OnErr r (now ≡ es) → length now ≤ 4096
few_after (Ok was) k id es now d key is room few found len same =
    still_few (string_bytes k) es (length now) was (subst (λ (x : List ℕ). HasRoom x (kept_entries es)) (sym key) (subst (λ (ms : Entries). HasRoom id ms) (sym is) room)) found len few
few_after (Err e) k id es now d key is room few found len same = subst (λ (xs : Kept). length xs ≤ 4096) (sym same) few

-- a directory of these
abbrev seen : Entries → ℕ → Contents
seen ms next = record { entries = ms; next = next }

-- the view once the map took a description, and once an entry was removed
pub put_is_seen : (es now : Kept) (next : ℕ) (k : String Global) (id : List ℕ) (t : Tree) (d : Contents) → string_bytes k ≡ id → contents_of es next ≡ d → now ≡ insert_entry string_cmp es k t → contents_of now next ≡ with_entry id (json_of t) d
put_is_seen es now next k id t d key is entries =
    ap (λ (xs : Kept). contents_of xs next) entries
    ∙ ap (λ (ms : Entries). seen ms next) (kept_inserted es k t)
    ∙ ap (λ (x : List ℕ). with_entry x (json_of t) (contents_of es next)) key
    ∙ ap (λ (c : Contents). with_entry id (json_of t) c) is

pub removal_is_seen : (es now : Kept) (next : ℕ) (id : List ℕ) (d : Contents) → AreOrdered (kept_entries es) → contents_of es next ≡ d → now ≡ remove_entry (is_at (λ k. slice_cmp nat_cmp id (string_bytes k))) es → contents_of now next ≡ without_entry id d
removal_is_seen es now next id d ordered is entries =
    ap (λ (xs : Kept). contents_of xs next) entries
    ∙ ap (λ (ms : Entries). seen ms next) (kept_removed id es ordered)
    ∙ ap (λ (c : Contents). without_entry id c) is

-- the view by the entries
pub entries_seen : (es : Kept) (next : ℕ) (d : Contents) → contents_of es next ≡ d → kept_entries es ≡ d.entries
entries_seen es next d is = ap (λ (c : Contents). c.entries) is
