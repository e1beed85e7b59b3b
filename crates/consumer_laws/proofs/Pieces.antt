-- A message that is read at the front of a stream is taken once, in whatever pieces it comes.
use Rattle.std.proofs.Common.{◌≡◌, ◌≢◌, ◌≤◌, ◌+◌, ℕ, false, List, [], ◌∷◌, ◌++◌, append-nil, length, drop, Some, inl, inr, refl, sym, ap, ap₂, subst, ◌∙◌, arith}
use Rattle.std.specs.Prelude.{◌⊎◌, None, Option}
use Rattle.std.proofs.lemmas.List.{length-append, drop_all}
use Rattle.thing_ops.specs.Requests.{RequestSeen}
use Rattle.http_wire.specs.Stream.{Front, short, message, fault, IsFront, no_end, IsSettled}
use Rattle.http_wire.proofs.MoreOfAStream.{front_stays}
use Rattle.http_wire.proofs.OneFront.{at_most_one_front}
use Rattle.http_bind.specs.Cutting.{IsFirst, AreFirst, EndsThere, AreRequests}
use Rattle.http_bind.specs.Streams.{Connection, asks, found, read_as, bytes_used}
use Rattle.http_bind.proofs.Requests.{front_within, takes_the_first, takes_all, has_one_list}
use Rattle.consumer_laws.specs.Asking.{IsOneMessage, IsTakenOnce}

module _ (bytes : List ℕ) (request : RequestSeen) (one : IsOneMessage bytes request) where
  is_front : IsFront bytes (message (one []).0 (one []).1 (length bytes) false)
  is_front = subst (λ (x : List ℕ). IsFront x (message (one []).0 (one []).1 (length bytes) false)) (append-nil bytes) (one []).2

  is_first : IsFirst bytes request (length bytes)
  is_first = (message (one []).0 (one []).1 (length bytes) false, is_front, ap (λ (o : Option RequestSeen). Some (read_as o)) (one []).3, refl)

  -- all are its one request
  are_requests : AreRequests bytes (request ∷ [])
  are_requests = (length bytes + 0, (length bytes, 0, is_first, refl, refl), subst EndsThere (sym none) (short false, no_end refl refl, tt))
    where
      none : drop (length bytes + 0) bytes ≡ []
      none = drop_all (length bytes + 0) bytes (omega arith)

  -- a part of the bytes has no whole message
  settled_by : (f : Front) (q : RequestSeen) → found f ≡ Some (asks q) → IsSettled f
  settled_by (short expect) q is = absurd cc
  settled_by (message head body used expect) q is = tt
  settled_by (fault status expect) q is = tt

  none_missing : (xs : List ℕ) → xs ≢ [] → length xs ≤ 0 → ⊥
  none_missing [] other few = other refl
  none_missing (x ∷ xs) other few = omega (arith, few)

  none_early : (part missing : List ℕ) (q : RequestSeen) (used : ℕ) → part ++ missing ≡ bytes → missing ≢ [] → IsFirst part q used → ⊥
  none_early part missing q used is some first =
      let grown = front_stays part missing first.0 first.1 (settled_by first.0 q first.2) in
      let same = at_most_one_front bytes first.0 (message (one []).0 (one []).1 (length bytes) false) (subst (λ (x : List ℕ). IsFront x first.0) is grown) is_front in
      let all : bytes_used first.0 ≡ length bytes = ap bytes_used same in
      let few = front_within part first.0 first.1 in
      none_missing missing some (omega (arith, all, few, ap length is, length-append part missing))

  none_taken : (x : Connection) (taken : List RequestSeen) (missing : List ℕ) → AreFirst x.stream taken x.taken → x.stream ++ missing ≡ bytes → missing ≢ [] → taken ≡ []
  none_taken x [] missing first is some = refl
  none_taken x (q ∷ qs) missing (used, behind, first, others, e) is some = absurd (none_early x.stream missing q used is some first)

  nothing_behind : (rest : List ℕ) (qs : List RequestSeen) (n : ℕ) → rest ≡ [] → AreFirst rest qs n → qs ≡ []
  nothing_behind rest [] n none are = refl
  nothing_behind rest (q ∷ qs) n none (used, behind, first, others, e) =
      absurd (isnt (ap found (at_most_one_front [] (short false) first.0 (no_end refl refl) (subst (λ (x : List ℕ). IsFront x first.0) none first.1)) ∙ first.2))
    where
      isnt : None ≡ Some (asks q) → ⊥
      isnt e = cc

  only_it : (taken : List RequestSeen) (n : ℕ) → AreFirst bytes taken n → (taken ≡ []) ⊎ (taken ≡ request ∷ [])
  unfolding is_first
  only_it [] n are = inl refl
  only_it (q ∷ qs) n (used, behind, first, others, e) =
      inr (ap₂ (λ (p : RequestSeen) (ps : List RequestSeen). p ∷ ps) (request_is (sym first.2 ∙ ap found same ∙ is_first.2)) (nothing_behind (drop used bytes) qs behind none others))
    where
      same : first.0 ≡ message (one []).0 (one []).1 (length bytes) false
      same = at_most_one_front bytes first.0 (message (one []).0 (one []).1 (length bytes) false) first.1 is_front

      request_is : Some (asks q) ≡ Some (asks request) → q ≡ request
      request_is e = cc

      all : used ≡ length bytes
      all = sym first.3 ∙ ap bytes_used same

      none : drop used bytes ≡ []
      none = drop_all used bytes (omega (arith, all))

  at_most : (x : Connection) (taken : List RequestSeen) (missing : List ℕ) → AreFirst x.stream taken x.taken → x.stream ++ missing ≡ bytes → (taken ≡ []) ⊎ (taken ≡ request ∷ [])
  at_most x taken [] first is = only_it taken x.taken (subst (λ (s : List ℕ). AreFirst s taken x.taken) (sym (append-nil x.stream) ∙ is) first)
  at_most x taken (b ∷ missing) first is = inl (none_taken x taken (b ∷ missing) first is (λ e. cc))

  pub taken_once : IsTakenOnce bytes request
  taken_once = record {
    early = λ x taken missing has is some. none_taken x taken missing (takes_the_first x taken has) is some;
    at_most = λ x taken missing has is. at_most x taken missing (takes_the_first x taken has) is;
    whole = λ x taken has is dry. has_one_list bytes taken (request ∷ []) (subst (λ (s : List ℕ). AreRequests s taken) is (takes_all x taken has dry)) are_requests;
  }
