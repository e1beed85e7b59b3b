-- The answers of the directory to one request, apart from its entries.
use Rattle.std.proofs.Common.{arith, ◌≡◌, ◌≢◌, ◌≤◌, ℕ, List, [], ◌∷◌, ◌++◌, refl, sym, ap, subst, ◌∙◌, inl, inr, Bool, true, false}
use Rattle.std.specs.Prelude.{◌↔◌, ◌⊎◌, Option, Some, None}
use Rattle.wot_json.specs.Tree.{Json, AreOrdered}
use Rattle.wot_json.specs.Lookup.{member_named}
use Rattle.wot_json.specs.Reading.{tree_of}
use Rattle.wot_directory.specs.Contents.{Contents, Entries}
use Rattle.wot_directory.specs.declared.fault.DirFault.{DirFault}
use Rattle.wot_directory.specs.declared.fault.DirFault.TheVariants.{NotFound, Invalid, IdDiffers, HasId, Full, NoMemory}
use Rattle.wot_registry.specs.declared.fault.RegFault.{RegFault}
use Rattle.wot_registry.specs.declared.fault.RegFault.TheVariants.{Ttl, Directory}
use Rattle.wot_registry.specs.Registry.{Registered}
use Rattle.wot_registry.specs.Laws as registry
use Rattle.wot_registry.specs.Laws.{History, Comes, last_entry}
use Rattle.wot_registry.proofs.HistoryLaws.{description_of}
use Rattle.thing_ops.specs.declared.outcome.Outcome.{Outcome}
use Rattle.thing_ops.specs.declared.outcome.Outcome.TheVariants as outcome
use Rattle.thing_ops.specs.declared.request.Accept.{Accept}
use Rattle.thing_ops.specs.Requests.{RequestSeen}
use Rattle.thing_site.specs.Refusals.{Refusal, nothing_there, verb_not_taken, answer_not_acceptable, format_not_taken, body_not_as_wanted, value_too_large, refused_by_schema, condition_failed, no_invocation_left, IsFirst, IsNone}
use Rattle.directory_requests.specs.declared.server.ServedEntries.{ServedEntries}
use Rattle.directory_requests.specs.declared.server.ServedEntries.TheVariants as kept
use Rattle.directory_requests.specs.declared.act.DirectoryAct.{DirectoryAct}
use Rattle.directory_requests.specs.declared.act.DirectoryAct.TheVariants as act
use Rattle.directory_requests.specs.declared.window.Window.{Window}
use Rattle.directory_requests.specs.Asked.{act_asked, id_in, Stands, IsAnsweredWith, IsUnrefused}
use Rattle.directory_requests.specs.Requests.{outcome_of, outcome_of_fault, listed_by, shown, put_outcome}
use Rattle.directory_requests.specs.Window.{window_of}
use Rattle.servient_laws.specs.DirectoryRuns.{DirectoryRequest, AreStanding, is_change, Makes, IsPutInVain, IsCreatedInVain, FindsNoRoom, put_in_vain, created_in_vain, IsAnsweredBy}

-- ---- outcomes

-- neither a change nor that the directory is full
abbrev pub IsQuiet : Outcome → Type 0
IsQuiet o = (is_change o ≡ false) × (o ≢ outcome.DirectoryFull)

pub quiet_as : (o p : Outcome) → o ≡ p → IsQuiet p → IsQuiet o
quiet_as o p is quiet = subst IsQuiet (sym is) quiet

quiet_answer : (r : Refusal) (q : RequestSeen) (o : Outcome) → IsAnsweredWith r q o → IsQuiet o
quiet_answer nothing_there q o is = quiet_as o outcome.NotFound is (refl, λ e. cc (e))
quiet_answer verb_not_taken q o is = quiet_as o (outcome.NotAllowed is.0) is.2 (refl, λ e. cc (e))
quiet_answer answer_not_acceptable q o is = quiet_as o outcome.NotAcceptable is (refl, λ e. cc (e))
quiet_answer format_not_taken q o is = quiet_as o outcome.Format is (refl, λ e. cc (e))
quiet_answer body_not_as_wanted q o is = quiet_as o outcome.BadValue is (refl, λ e. cc (e))
quiet_answer value_too_large q o is = quiet_as o outcome.TooLarge is (refl, λ e. cc (e))
quiet_answer refused_by_schema q o is = quiet_as o outcome.BadValue is (refl, λ e. cc (e))
quiet_answer condition_failed q o is = quiet_as o outcome.PreconditionFailed is (refl, λ e. cc (e))
quiet_answer no_invocation_left q o is = quiet_as o outcome.InvocationsFull is (refl, λ e. cc (e))

pub quiet_refused : (q : RequestSeen) (o : Outcome) (rs : List Refusal) → IsFirst (λ r. Stands r q) (λ r. IsAnsweredWith r q) rs o → IsQuiet o
quiet_refused q o [] first = absurd first
quiet_refused q o (r ∷ rs) (inl first) = quiet_answer r q o first.1
quiet_refused q o (r ∷ rs) (inr later) = quiet_refused q o rs later.1

-- what is refused isn't unrefused
pub refused_not : (q : RequestSeen) (o : Outcome) (rs : List Refusal) → IsFirst (λ r. Stands r q) (λ r. IsAnsweredWith r q) rs o → IsNone (λ r. Stands r q) rs → ⊥
refused_not q o [] first none = first
refused_not q o (r ∷ rs) (inl first) none = none.0 first.0
refused_not q o (r ∷ rs) (inr later) none = refused_not q o rs later.1 none.1

pub unchanged_by : (f : DirFault) → is_change (outcome_of f) ≡ false
unchanged_by NotFound = refl
unchanged_by (Invalid f) = refl
unchanged_by IdDiffers = refl
unchanged_by HasId = refl
unchanged_by Full = refl
unchanged_by NoMemory = refl

pub unchanged_by_any : (f : RegFault) → is_change (outcome_of_fault f) ≡ false
unchanged_by_any Ttl = refl
unchanged_by_any (Directory f) = unchanged_by f

pub is_full : (f : DirFault) → outcome_of f ≡ outcome.DirectoryFull → f ≡ Full
is_full NotFound is = absurd (cc (is))
is_full (Invalid f) is = absurd (cc (is))
is_full IdDiffers is = absurd (cc (is))
is_full HasId is = absurd (cc (is))
is_full Full is = refl
is_full NoMemory is = absurd (cc (is))

pub is_any_full : (f : RegFault) → outcome_of_fault f ≡ outcome.DirectoryFull → f ≡ registry.full
is_any_full Ttl is = absurd (cc (is))
is_any_full (Directory f) is = ap (λ (x : DirFault). Directory x) (is_full f is)

pub quiet_list : (w : Option Window) (es : Entries) → IsQuiet (listed_by w es)
quiet_list None es = (refl, λ e. cc (e))
quiet_list (Some w) es = (refl, λ e. cc (e))

pub quiet_entry : (x : Option Json) (a : Accept) → IsQuiet (shown x a)
quiet_entry None a = (refl, λ e. cc (e))
quiet_entry (Some d) a = (refl, λ e. cc (e))

pub not_full_put : (is_new : Bool) (o : Outcome) → o ≡ put_outcome is_new → o ≡ outcome.DirectoryFull → ⊥
not_full_put true o is full = let never : put_outcome true ≡ outcome.DirectoryFull = sym is ∙ full in cc (never)
not_full_put false o is full = let never : put_outcome false ≡ outcome.DirectoryFull = sym is ∙ full in cc (never)

-- ---- the request

abbrev pub request_at : RequestSeen → ℕ → Outcome → DirectoryRequest
request_at q now o = record { request = q; moment = now; outcome = o }

-- a value that is there is one
pub same_some : {A : Type 0} (x : Option A) (a b : A) → x ≡ Some a → x ≡ Some b → a ≡ b
same_some {A} x a b one other = ap (value_or a) (sym one ∙ other)
  where
    value_or : A → Option A → A
    value_or none None = none
    value_or none (Some v) = v

-- what is asked of it
module _ (epoch : Option ℕ) (found : Entries) (q : RequestSeen) (now : ℕ) (o : Outcome) (a : DirectoryAct) (asked : act_asked q ≡ Some a) where
  pub answers : (a ≡ act.Shows → o ≡ shown (member_named (id_in q.path) found) q.accept) → (a ≡ act.Lists → o ≡ listed_by (window_of q.query) found)
      → (o ≢ outcome.Memory → (o ≡ outcome.DirectoryFull) ↔ FindsNoRoom epoch q found) → IsAnsweredBy epoch found (request_at q now o)
  answers entry list full = record {
    entry = λ is unrefused memory. entry (same_some (act_asked q) a act.Shows asked is);
    list = λ is unrefused memory. list (same_some (act_asked q) a act.Lists asked is);
    full = full;
  }

  -- only two acts find no room
  one_of_two : FindsNoRoom epoch q found → (a ≡ act.Puts) ⊎ (a ≡ act.Creates)
  one_of_two (put_in_vain d is unrefused tree vain) = inl (same_some (act_asked q) a act.Puts asked is)
  one_of_two (created_in_vain d is unrefused tree vain) = inr (same_some (act_asked q) a act.Creates asked is)

  pub never_full : o ≢ outcome.DirectoryFull → (a ≢ act.Puts) → (a ≢ act.Creates) → o ≢ outcome.Memory → (o ≡ outcome.DirectoryFull) ↔ FindsNoRoom epoch q found
  never_full isnt no_put no_create memory = (λ is. absurd (isnt is), λ finds. none (one_of_two finds))
    where
      none : (a ≡ act.Puts) ⊎ (a ≡ act.Creates) → o ≡ outcome.DirectoryFull
      none (inl is) = absurd (no_put is)
      none (inr is) = absurd (no_create is)

  -- what a `put` finds is of its description
  pub vain_put : (d : Json) → tree_of q.body ≡ Some d → a ≡ act.Puts → FindsNoRoom epoch q found → IsPutInVain epoch (id_in q.path) d found
  vain_put d tree puts_it (put_in_vain other is unrefused other_tree vain) =
      subst (λ (x : Json). IsPutInVain epoch (id_in q.path) x found) (same_some (tree_of q.body) other d other_tree tree) vain
  vain_put d tree puts_it (created_in_vain other is unrefused other_tree vain) =
      let never : act.Creates ≡ act.Puts = sym (same_some (act_asked q) a act.Creates asked is) ∙ puts_it in absurd (cc (never))

  pub vain_create : (d : Json) → tree_of q.body ≡ Some d → a ≡ act.Creates → FindsNoRoom epoch q found → IsCreatedInVain epoch d found
  vain_create d tree creates_it (created_in_vain other is unrefused other_tree vain) =
      subst (λ (x : Json). IsCreatedInVain epoch x found) (same_some (tree_of q.body) other d other_tree tree) vain
  vain_create d tree creates_it (put_in_vain other is unrefused other_tree vain) =
      let never : act.Puts ≡ act.Creates = sym (same_some (act_asked q) a act.Puts asked is) ∙ creates_it in absurd (cc (never))

-- one that is refused, or out of memory
pub refused_answer : (epoch : Option ℕ) (found : Entries) (q : RequestSeen) (now : ℕ) (o : Outcome) → IsQuiet o → (IsUnrefused q → ⊥) → IsAnsweredBy epoch found (request_at q now o)
refused_answer epoch found q now o quiet refused = record {
  entry = λ is unrefused memory. absurd (refused unrefused);
  list = λ is unrefused memory. absurd (refused unrefused);
  full = λ memory. (λ is. absurd (quiet.1 is), none);
}
  where
    none : FindsNoRoom epoch q found → o ≡ outcome.DirectoryFull
    none (put_in_vain d is unrefused tree vain) = absurd (refused unrefused)
    none (created_in_vain d is unrefused tree vain) = absurd (refused unrefused)

pub memory_answer : (epoch : Option ℕ) (found : Entries) (q : RequestSeen) (now : ℕ) (o : Outcome) → o ≡ outcome.Memory → IsAnsweredBy epoch found (request_at q now o)
memory_answer epoch found q now o is = record {
  entry = λ asked unrefused memory. absurd (memory is);
  list = λ asked unrefused memory. absurd (memory is);
  full = λ memory. absurd (memory is);
}

pub unchanged_memory : (o : Outcome) → o ≡ outcome.Memory → is_change o ≡ false
unchanged_memory o is = ap is_change is

-- ---- the entries by their history

-- these changes were made of an empty directory up to this moment
abbrev pub HasCome : Option ℕ → ℕ → History → ServedEntries → Type 0
HasCome None now history d =
    (c : Contents) × (d ≡ kept.Untimed c) × AreOrdered c.entries × ((id : List ℕ) → member_named id c.entries ≡ description_of (last_entry id history))
HasCome (Some epoch) now history d = (r : Registered) × (last : ℕ) × (d ≡ kept.Timed r) × (last ≤ now) × Comes epoch last history r

pub later_come : (epoch : Option ℕ) (now later : ℕ) (history : History) (d : ServedEntries) → now ≤ later → HasCome epoch now history d → HasCome epoch later history d
later_come None now later history d from come = come
later_come (Some epoch) now later history d from (r, last, is, before, comes) = (r, last, is, omega (arith, before, from), comes)

-- what one more request comes to
abbrev pub GoesOn : Option ℕ → ℕ → History → RequestSeen → Outcome → ServedEntries → Type 0
GoesOn epoch now history q o t =
    (found : Entries) × AreStanding epoch now history found × IsAnsweredBy epoch found (request_at q now o)
    × ((made : History) × Makes epoch (request_at q now o) history made × HasCome epoch now (made ++ history) t)
