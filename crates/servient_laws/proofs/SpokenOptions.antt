-- The options by which a CoAP message says what a request asks of versions.
use Rattle.std.proofs.Common.{◌≡◌, ◌≤◌, ℕ, Bool, true, false, List, [], ◌∷◌, ◌++◌, length, map, Option, Some, None, refl, sym, ap, ◌∙◌, arith, append-nil}
use Rattle.std.specs.Prelude.{◌==◌, nat_le, filter_map, IfSome, if◌then◌else◌}
use Rattle.std.specs.List.{AllByRecursion, list_any}
use Rattle.std.proofs.lemmas.Bool.Decides.{nat_tests}
use Rattle.coap_msg.specs.declared.constants.TheConstants.{IF_MATCH, ETAG, IF_NONE_MATCH}
use Rattle.coap_msg.specs.Grammar.{CoapOption, AreInOrder}
use Rattle.coap_msg.specs.Numbers.{number_bytes}
use Rattle.coap_msg.proofs.NumberValues.{number_length, first_byte}
use Rattle.coap_opts.specs.Reading.{faults_after, values_under, version_of, is_there, is_blank, tags_of, match_of, known_by, conditions_by}
use Rattle.coap_opts.specs.Table.{may_stand, stands_again}
use Rattle.coap_opts.proofs.WrittenTags.{tags_are_read_again}
use Rattle.thing_ops.specs.declared.conditions.Tags.{Tags}
use Rattle.thing_ops.specs.declared.conditions.Conditions.{Conditions}
use Rattle.servient_laws.specs.Spoken.{IsVersion, tag_options, match_options, absent_options}

-- ---- in order

tags_in_order : (number : ℕ) (versions : List ℕ) (os : List CoapOption) (last : ℕ) → last ≤ number → number ≤ 5 → ((l : ℕ) → l ≤ number → AreInOrder l os)
    → AreInOrder last (tag_options number versions ++ os)
tags_in_order number [] os last low small rest = rest last low
tags_in_order number (v ∷ vs) os last low small rest =
    let few = number_length v in
    (record { order = omega (arith, low); number = omega (arith, small); value = omega (arith, few) }, tags_in_order number vs os number (omega arith) small rest)

first_length : (any : Bool) → length {A = ℕ} (if any then [] else 0 ∷ []) ≤ 8
first_length true = omega arith
first_length false = omega arith

match_in_order : (m : Option Tags) (os : List CoapOption) → ((l : ℕ) → l ≤ 1 → AreInOrder l os) → AreInOrder 0 (match_options m ++ os)
match_in_order None os rest = rest 0 (omega arith)
match_in_order (Some tags) os rest =
    let few = first_length tags.any in
    (record { order = omega arith; number = omega arith; value = omega (arith, few) }, tags_in_order 1 tags.list os 1 (omega arith) (omega arith) rest)

absence_in_order : (absent : Bool) (os : List CoapOption) (last : ℕ) → last ≤ 4 → ((l : ℕ) → l ≤ 5 → AreInOrder l os) → AreInOrder last (absent_options absent ++ os)
absence_in_order true os last low rest = (record { order = omega (arith, low); number = omega arith; value = omega arith }, rest 5 (omega arith))
absence_in_order false os last low rest = rest last (omega (arith, low))

pub conditions_in_order : (c : Conditions) (os : List CoapOption) → ((l : ℕ) → l ≤ 5 → AreInOrder l os)
    → AreInOrder 0 (match_options c.if_match ++ (tag_options ETAG c.known.list ++ (absent_options c.absent ++ os)))
conditions_in_order c os rest =
    match_in_order c.if_match (tag_options ETAG c.known.list ++ (absent_options c.absent ++ os))
    (λ l low. tags_in_order 4 c.known.list (absent_options c.absent ++ os) l (omega (arith, low)) (omega arith) (λ k under. absence_in_order c.absent os k under rest))

-- ---- without fault

match_stands : (before : Option ℕ) (value : List ℕ) → length value ≤ 8 → may_stand before (IF_MATCH, value) ≡ true
match_stands before value short = rw least (rw fits refl)
  where
    least : nat_le 0 (length value) ≡ true
    least = grind (arith, nat_tests)

    fits : nat_le (length value) 8 ≡ true
    fits = grind (arith, nat_tests)

no_fault_of_tags : (versions : List ℕ) (os : List CoapOption) → faults_after (Some 1) os ≡ [] → faults_after (Some 1) (tag_options IF_MATCH versions ++ os) ≡ []
no_fault_of_tags [] os rest = rest
no_fault_of_tags (v ∷ vs) os rest =
    let few = number_length v in
    let stands : may_stand (Some 1) (IF_MATCH, number_bytes v) ≡ true = match_stands (Some 1) (number_bytes v) (omega (arith, few)) in
    rw stands (no_fault_of_tags vs os rest)

no_fault_of_match : (m : Option Tags) (os : List CoapOption) → faults_after None os ≡ [] → faults_after (Some 1) os ≡ [] → faults_after None (match_options m ++ os) ≡ []
no_fault_of_match None os first rest = first
no_fault_of_match (Some tags) os first rest =
    let few = first_length tags.any in
    let stands : may_stand None (IF_MATCH, if tags.any then [] else 0 ∷ []) ≡ true = match_stands None (if tags.any then [] else 0 ∷ []) (omega (arith, few)) in
    rw stands (no_fault_of_tags tags.list os rest)

-- ETag is elective
no_fault_of_etags : (before : Option ℕ) (versions : List ℕ) (os : List CoapOption) → faults_after before os ≡ [] → faults_after (Some 4) os ≡ []
    → faults_after before (tag_options ETAG versions ++ os) ≡ []
no_fault_of_etags before [] os first rest = first
no_fault_of_etags before (v ∷ vs) os first rest = no_fault_of_etags (Some 4) vs os rest rest

no_fault_of_absence : (absent : Bool) (before : Option ℕ) (os : List CoapOption) → stands_again before 5 ≡ false → faults_after before os ≡ [] → faults_after (Some 5) os ≡ []
    → faults_after before (absent_options absent ++ os) ≡ []
no_fault_of_absence true before os isnt first rest =
    let stands : may_stand before (IF_NONE_MATCH, []) ≡ true = rw isnt refl in
    rw stands rest
no_fault_of_absence false before os isnt first rest = first

-- where the others have none after an option of a lower number than Accept
pub no_fault_of_conditions : (c : Conditions) (os : List CoapOption) → ((before : Option ℕ) → stands_again before 17 ≡ false → faults_after before os ≡ [])
    → faults_after None (match_options c.if_match ++ (tag_options ETAG c.known.list ++ (absent_options c.absent ++ os))) ≡ []
no_fault_of_conditions c os others = no_fault_of_match c.if_match (tag_options ETAG c.known.list ++ (absent_options c.absent ++ os)) (known None refl refl) (known (Some 1) refl refl)
  where
    absence : (before : Option ℕ) → stands_again before 5 ≡ false → stands_again before 17 ≡ false → faults_after before (absent_options c.absent ++ os) ≡ []
    absence before five accept = no_fault_of_absence c.absent before os five (others before accept) (others (Some 5) refl)

    known : (before : Option ℕ) → stands_again before 5 ≡ false → stands_again before 17 ≡ false → faults_after before (tag_options ETAG c.known.list ++ (absent_options c.absent ++ os)) ≡ []
    known before five accept = no_fault_of_etags before c.known.list (absent_options c.absent ++ os) (absence before five accept) (absence (Some 4) refl refl)

-- ---- what is read

other_tags : (number other : ℕ) (versions : List ℕ) (os : List CoapOption) → (number == other) ≡ false
    → values_under other (tag_options number versions ++ os) ≡ values_under other os
other_tags number other [] os isnt = refl
other_tags number other (v ∷ vs) os isnt = rw isnt (other_tags number other vs os isnt)

matches_read : (versions : List ℕ) (os : List CoapOption) → values_under IF_MATCH (tag_options IF_MATCH versions ++ os) ≡ map number_bytes versions ++ values_under IF_MATCH os
matches_read [] os = refl
matches_read (v ∷ vs) os = ap (λ (values : List (List ℕ)). number_bytes v ∷ values) (matches_read vs os)

etags_read : (versions : List ℕ) (os : List CoapOption) → values_under ETAG (tag_options ETAG versions ++ os) ≡ map number_bytes versions ++ values_under ETAG os
etags_read [] os = refl
etags_read (v ∷ vs) os = ap (λ (values : List (List ℕ)). number_bytes v ∷ values) (etags_read vs os)

other_matches : (other : ℕ) (m : Option Tags) (os : List CoapOption) → (IF_MATCH == other) ≡ false → values_under other (match_options m ++ os) ≡ values_under other os
other_matches other None os isnt = refl
other_matches other (Some tags) os isnt = rw isnt (other_tags IF_MATCH other tags.list os isnt)

other_absence : (other : ℕ) (absent : Bool) (os : List CoapOption) → (IF_NONE_MATCH == other) ≡ false → values_under other (absent_options absent ++ os) ≡ values_under other os
other_absence other true os isnt = rw isnt refl
other_absence other false os isnt = refl

-- options of other numbers are read behind them
pub other_conditions : (other : ℕ) (c : Conditions) (os : List CoapOption) → (IF_MATCH == other) ≡ false → (ETAG == other) ≡ false → (IF_NONE_MATCH == other) ≡ false
    → values_under other (match_options c.if_match ++ (tag_options ETAG c.known.list ++ (absent_options c.absent ++ os))) ≡ values_under other os
other_conditions other c os one two three =
    other_matches other c.if_match (tag_options ETAG c.known.list ++ (absent_options c.absent ++ os)) one
    ∙ (other_tags ETAG other c.known.list (absent_options c.absent ++ os) two ∙ other_absence other c.absent os three)

versions_read : (versions : List ℕ) → AllByRecursion IsVersion versions → filter_map version_of (map number_bytes versions) ≡ versions
versions_read [] are = refl
versions_read (v ∷ vs) are = rw (tags_are_read_again v (omega (arith, are.0.0)) are.0.1) (ap (λ (rest : List ℕ). v ∷ rest) (versions_read vs are.1))

not_blank : (b : ℕ) (bytes : List ℕ) → is_blank (b ∷ bytes) ≡ false
not_blank b bytes = grind (arith, nat_tests)

some_bytes : (v : ℕ) → IsVersion v → is_blank (number_bytes v) ≡ false
some_bytes v is = let first = first_byte v (omega (arith, is.0)) in ap is_blank first.2 ∙ not_blank first.0 first.1

none_blank : (versions : List ℕ) → AllByRecursion IsVersion versions → list_any is_blank (map number_bytes versions) ≡ false
none_blank [] are = refl
none_blank (v ∷ vs) are = rw (some_bytes v are.0) (none_blank vs are.1)

tags_are : (any : Bool) (versions : List ℕ) → AllByRecursion IsVersion versions → tags_of ((if any then [] else 0 ∷ []) ∷ map number_bytes versions) ≡ record { any = any; list = versions }
tags_are true versions are = λ i. record { any = true; list = versions_read versions are i }
tags_are false versions are = λ i. record { any = none_blank versions are i; list = versions_read versions are i }

match_is : (m : Option Tags) (os : List CoapOption) → IfSome m (λ tags. AllByRecursion IsVersion tags.list) → values_under IF_MATCH os ≡ [] → match_of (values_under IF_MATCH (match_options m ++ os)) ≡ m
match_is None os are none = ap match_of none
match_is (Some tags) os are none =
    ap (λ (values : List (List ℕ)). match_of ((if tags.any then [] else 0 ∷ []) ∷ values)) (matches_read tags.list os ∙ ap (λ (values : List (List ℕ)). map number_bytes tags.list ++ values) none ∙ append-nil (map number_bytes tags.list))
    ∙ ap (λ (t : Tags). Some t) (tags_are tags.any tags.list are)

known_is : (counts : Bool) (known : Tags) (values : List (List ℕ)) → known.any ≡ false → AllByRecursion IsVersion known.list → values ≡ map number_bytes known.list
    → (counts ≡ false → known.list ≡ []) → known_by counts values ≡ known
known_is true known values named are is uncounted = λ i. record { any = (sym named) i; list = (ap (filter_map version_of) is ∙ versions_read known.list are) i }
known_is false known values named are is uncounted = λ i. record { any = (sym named) i; list = (sym (uncounted refl)) i }

absence_read : (absent : Bool) (os : List CoapOption) → values_under IF_NONE_MATCH os ≡ [] → is_there (values_under IF_NONE_MATCH (absent_options absent ++ os)) ≡ absent
absence_read true os none = refl
absence_read false os none = ap is_there none

-- the conditions that the options say are those to be asked, where ETag counts or nothing is known
pub conditions_read : (counts : Bool) (c : Conditions) (os : List CoapOption) → IfSome c.if_match (λ tags. AllByRecursion IsVersion tags.list) → AllByRecursion IsVersion c.known.list
    → c.known.any ≡ false → (counts ≡ false → c.known.list ≡ []) → values_under IF_MATCH os ≡ [] → values_under ETAG os ≡ [] → values_under IF_NONE_MATCH os ≡ []
    → conditions_by counts (match_options c.if_match ++ (tag_options ETAG c.known.list ++ (absent_options c.absent ++ os))) ≡ c
conditions_read counts c os matched known named uncounted one two three =
    let behind = tag_options ETAG c.known.list ++ (absent_options c.absent ++ os) in
    let no_match : values_under IF_MATCH behind ≡ [] = other_tags ETAG IF_MATCH c.known.list (absent_options c.absent ++ os) refl ∙ (other_absence IF_MATCH c.absent os refl ∙ one) in
    let etags : values_under ETAG (match_options c.if_match ++ behind) ≡ map number_bytes c.known.list =
    other_matches ETAG c.if_match behind refl
    ∙ (etags_read c.known.list (absent_options c.absent ++ os)
    ∙ (ap (λ (values : List (List ℕ)). map number_bytes c.known.list ++ values) (other_absence ETAG c.absent os refl ∙ two) ∙ append-nil (map number_bytes c.known.list))) in
    let absent : values_under IF_NONE_MATCH (match_options c.if_match ++ behind) ≡ values_under IF_NONE_MATCH (absent_options c.absent ++ os) =
    other_matches IF_NONE_MATCH c.if_match behind refl ∙ other_tags ETAG IF_NONE_MATCH c.known.list (absent_options c.absent ++ os) refl in
    λ i. record {
      if_match = match_is c.if_match behind matched no_match i;
      known = known_is counts c.known (values_under ETAG (match_options c.if_match ++ behind)) named known etags uncounted i;
      absent = (ap is_there absent ∙ absence_read c.absent os three) i;
    }
