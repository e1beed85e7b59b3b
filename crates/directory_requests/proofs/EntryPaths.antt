-- The path of an entry has two segments, and the second is UTF-8.
use Rattle.std.proofs.Common.{◌≡◌, ℕ, List, [], ◌∷◌, Bool, true, false, refl}
use Rattle.std.specs.Prelude.{if◌then◌else◌, ◌&&◌, Some, slice_get}
use Rattle.std.specs.Str.{is_utf8, IsUtf8}
use Rattle.std.proofs.lemmas.Str.{IsUtf8-from_is_utf8}
use Rattle.thing_ops.specs.declared.routing.RouteKind.{RouteKind}
use Rattle.thing_ops.specs.declared.routing.RouteKind.TheVariants as route
use Rattle.thing_ops.specs.Routes.{route_of, entry_id}
use Rattle.directory_requests.specs.Asked.{id_in}

pub record IsEntryPath (path : List (List ℕ)) : Type 0 where
  pub first : List ℕ
  pub id : List ℕ
  pub is : path ≡ first ∷ id ∷ []
  pub text : is_utf8 id ≡ true

is_text : (id : List ℕ) (b : Bool) → (entry_id id && b) ≡ true → is_utf8 id ≡ true
is_text [] b e = absurd cc
is_text (byte ∷ bytes) b e = by_test (is_utf8 (byte ∷ bytes)) e
  where
    by_test : (t : Bool) → (t && b) ≡ true → t ≡ true
    by_test true e = refl
    by_test false e = absurd cc

-- the choices of the table for each number of segments
one : (p : Bool) → (if p then route.Things else route.Thing) ≡ route.Entry → ⊥
one true e = absurd cc
one false e = absurd cc

two : (p q r : Bool) → (if p then route.Root else if q then route.Entry else if r then route.All else route.Nowhere) ≡ route.Entry → q ≡ true
two true q r e = absurd cc
two false true r e = refl
two false false true e = absurd cc
two false false false e = absurd cc

three : (p q r : Bool) → (if p then route.Property else if q then route.Action else if r then route.Event else route.Nowhere) ≡ route.Entry → ⊥
three true q r e = absurd cc
three false true r e = absurd cc
three false false true e = absurd cc
three false false false e = absurd cc

four : (p q r : Bool) (n : ℕ) → (if p then route.Observe else if q then route.Subscribe else if r then route.Invocation n else route.Nowhere) ≡ route.Entry → ⊥
four true q r n e = absurd cc
four false true r n e = absurd cc
four false false true n e = absurd cc
four false false false n e = absurd cc

pub entry_path : (path : List (List ℕ)) → route_of path ≡ route.Entry → IsEntryPath path
entry_path [] e = absurd cc
entry_path (a ∷ []) e = absurd (one _ e)
entry_path (a ∷ b ∷ []) e = record { first = a; id = b; is = refl; text = is_text b _ (two _ _ _ e) }
entry_path (a ∷ b ∷ c ∷ []) e = absurd (three _ _ _ e)
entry_path (a ∷ b ∷ c ∷ d ∷ []) e = absurd (four _ _ _ _ e)
entry_path (a ∷ b ∷ c ∷ d ∷ f ∷ more) e = absurd cc

-- it is there, and is a text
pub entry_text : (path : List (List ℕ)) → route_of path ≡ route.Entry → (slice_get path 1 ≡ Some (id_in path)) × IsUtf8 (id_in path)
entry_text path e = let is = entry_path path e in rw is.is (refl, IsUtf8-from_is_utf8 is.id is.text)
