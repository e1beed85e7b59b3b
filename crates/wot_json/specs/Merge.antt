-- Merge patch (RFC 7396).
use Rattle.std.specs.Prelude.{ℕ, List, [], ◌∷◌, Option, Some, None, unwrap_or, if◌then◌else◌}
use Rattle.std.specs.Ordering.{nat_cmp, match_ordering}
use Rattle.std.specs.Cmp.Lexicographic.{slice_cmp}
use Rattle.std.specs.Str.{bytes_eq}
use Rattle.wot_json.specs.Tree.{Json, null, boolean, integer, string, array, object, Members, no_members, member, members_of}
use Rattle.wot_json.specs.Lookup.{member_list, member_named}

-- the members with this one: in place of that of its name, or where its name belongs in byte order
abbrev pub with_member : List ℕ → Json → List (List ℕ × Json) → List (List ℕ × Json)
with_member name v [] = (name, v) ∷ []
with_member name v (m ∷ ms) = match_ordering (slice_cmp nat_cmp name m.0) ((name, v) ∷ m ∷ ms) ((name, v) ∷ ms) (m ∷ with_member name v ms)

-- the members but for that of this name
abbrev pub without_member : List ℕ → List (List ℕ × Json) → List (List ℕ × Json)
without_member name [] = []
without_member name (m ∷ ms) = if bytes_eq name m.0 then without_member name ms else m ∷ without_member name ms

-- the members of a value, which has none where it is no object
abbrev pub members_under : Json → List (List ℕ × Json)
members_under null = []
members_under (boolean b) = []
members_under (integer z) = []
members_under (string s) = []
members_under (array es) = []
members_under (object ms) = member_list ms

-- a member of the patch that is null takes the member of its name away, and any other puts the merged value there
abbrev pub changed_members : List ℕ → Json → Json → List (List ℕ × Json) → List (List ℕ × Json)
changed_members name null merged_value ms = without_member name ms
changed_members name (boolean b) merged_value ms = with_member name merged_value ms
changed_members name (integer z) merged_value ms = with_member name merged_value ms
changed_members name (string s) merged_value ms = with_member name merged_value ms
changed_members name (array es) merged_value ms = with_member name merged_value ms
changed_members name (object os) merged_value ms = with_member name merged_value ms

-- the members that a member of the patch adds: none where it is null
abbrev pub added_members : List ℕ → Json → Json → List (List ℕ × Json)
added_members name null merged_value = []
added_members name (boolean b) merged_value = (name, merged_value) ∷ []
added_members name (integer z) merged_value = (name, merged_value) ∷ []
added_members name (string s) merged_value = (name, merged_value) ∷ []
added_members name (array es) merged_value = (name, merged_value) ∷ []
added_members name (object os) merged_value = (name, merged_value) ∷ []

-- MergePatch(Target, Patch) of section 2. A patch that is no object is the result itself. One that is changes the
-- members of the target, one after another: the member of a name is merged with that of the patch, or null is
-- where the target has none.
abbrev mutual
  pub merge : Json → Json → Json
  merge target null = null
  merge target (boolean b) = boolean b
  merge target (integer z) = integer z
  merge target (string s) = string s
  merge target (array es) = array es
  merge target (object changes) = object (members_of (merged_members (members_under target) changes))

  pub merged_members : List (List ℕ × Json) → Members → List (List ℕ × Json)
  merged_members ms no_members = ms
  merged_members ms (member name v changes) = merged_members (changed_members name v (merge (unwrap_or (member_named name ms) null) v) ms) changes

-- The member of a name once an object has patched a value (section 2), from the member of the target and that of the
-- patch: the target's where the patch doesn't name it, none where the patch has null, and else the merge of the patch's
-- member on the target's, or on null where the target has none.
abbrev pub patched_member : Option Json → Option Json → Option Json
patched_member target None = target
patched_member target (Some null) = None
patched_member target (Some (boolean b)) = Some (merge (unwrap_or target null) (boolean b))
patched_member target (Some (integer z)) = Some (merge (unwrap_or target null) (integer z))
patched_member target (Some (string s)) = Some (merge (unwrap_or target null) (string s))
patched_member target (Some (array es)) = Some (merge (unwrap_or target null) (array es))
patched_member target (Some (object ms)) = Some (merge (unwrap_or target null) (object ms))
