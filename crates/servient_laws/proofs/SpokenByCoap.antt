-- A request is read from the CoAP message that says it.
use Rattle.std.proofs.Common.{◌≡◌, ◌≢◌, ◌<◌, ◌≤◌, ℕ, Bool, true, false, List, [], ◌∷◌, ◌++◌, length, Option, Some, None, refl, sym, ap, ap₂, ◌∙◌, arith, inl}
use Rattle.std.specs.Prelude.{◌&&◌, ◌==◌, ◌/◌, not, nat_le, nat_lt, unwrap_or, IsSome, option_and_then, slice_get}
use Rattle.std.specs.List.{AllByRecursion}
use Rattle.std.proofs.lemmas.Bool.Decides.{nat_tests}
use Rattle.coap_msg.specs.declared.constants.TheConstants.{LONGEST_SEGMENT, GET, IF_MATCH, ETAG, IF_NONE_MATCH, OBSERVE, URI_PATH, CONTENT_FORMAT, ACCEPT, BLOCK1, BLOCK2}
use Rattle.coap_msg.specs.Blocks.{block_of}
use Rattle.coap_msg.specs.Grammar.{CoapOption, AreInOrder}
use Rattle.coap_msg.specs.Opts.{segment_options}
use Rattle.coap_opts.specs.Reading.{faults_after, values_under, number_within, number_under, conditions_by, conditions_of, registers, verb_of, format_of, accept_of}
use Rattle.coap_opts.specs.Table.{observe, content_format, accept, may_stand, stands_again}
use Rattle.thing_ops.specs.declared.verb.Verb.{Verb}
use Rattle.thing_ops.specs.declared.verb.Verb.TheVariants as verb
use Rattle.thing_ops.specs.declared.request.Accept.{Accept}
use Rattle.thing_ops.specs.declared.request.Format.{Format}
use Rattle.thing_ops.specs.declared.request.Format.TheVariants as format
use Rattle.thing_ops.specs.declared.conditions.Conditions.{Conditions}
use Rattle.thing_ops.specs.Requests.{RequestSeen}
use Rattle.servient_laws.specs.Spoken.{code_of, format_options, accept_options, tag_options, match_options, absent_options, IsSaidByBoth, IsReadByCoap, IsSpeakable}
use Rattle.servient_laws.proofs.SpokenOptions.{conditions_in_order, no_fault_of_conditions, other_conditions, conditions_read}

-- ---- the options after the path

abbrev rest_of : Format → Bool → Bool → List CoapOption
rest_of f json td = format_options f ++ accept_options json td

accept_in_order : (json td : Bool) (last : ℕ) → last ≤ 12 → AreInOrder last (accept_options json td)
accept_in_order true true last low = tt
accept_in_order true false last low = (record { order = omega arith; number = omega arith; value = omega arith }, tt)
accept_in_order false true last low = (record { order = omega arith; number = omega arith; value = omega arith }, tt)
accept_in_order false false last low = (record { order = omega arith; number = omega arith; value = omega arith }, tt)

rest_in_order : (f : Format) (json td : Bool) (last : ℕ) → last ≤ 11 → AreInOrder last (rest_of f json td)
rest_in_order format.Absent json td last low = accept_in_order json td last (omega (arith, low))
rest_in_order format.Json json td last low = (record { order = omega arith; number = omega arith; value = omega arith }, accept_in_order json td 12 (omega arith))
rest_in_order format.Td json td last low = (record { order = omega arith; number = omega arith; value = omega arith }, accept_in_order json td 12 (omega arith))
rest_in_order format.Patch json td last low = (record { order = omega arith; number = omega arith; value = omega arith }, accept_in_order json td 12 (omega arith))
rest_in_order format.Other json td last low = (record { order = omega arith; number = omega arith; value = omega arith }, accept_in_order json td 12 (omega arith))

path_in_order : (path : List (List ℕ)) (os : List CoapOption) (last : ℕ) → last ≤ 11 → AllByRecursion (λ s. length s ≤ LONGEST_SEGMENT) path → ((n : ℕ) → n ≤ 11 → AreInOrder n os)
    → AreInOrder last (segment_options URI_PATH path ++ os)
path_in_order [] os last low short rest = rest last low
path_in_order (segment ∷ path) os last low short rest =
    let bound : length segment ≤ LONGEST_SEGMENT = short.0 in
    (record { order = omega arith; number = omega arith; value = omega arith }, path_in_order path os 11 (omega arith) short.1 rest)

-- ---- faults

segment_stands : (before : Option ℕ) (segment : List ℕ) → length segment ≤ LONGEST_SEGMENT → may_stand before (URI_PATH, segment) ≡ true
segment_stands before segment short = rw least (rw fits refl)
  where
    least : nat_le 0 (length segment) ≡ true
    least = grind (arith, nat_tests)

    fits : nat_le (length segment) LONGEST_SEGMENT ≡ true
    fits = grind (arith, nat_tests)

no_fault_of_rest : (f : Format) (json td : Bool) (before : Option ℕ) → stands_again before 17 ≡ false → faults_after before (rest_of f json td) ≡ []
no_fault_of_rest format.Absent true true before isnt = refl
no_fault_of_rest format.Absent true false before isnt = rw isnt refl
no_fault_of_rest format.Absent false true before isnt = rw isnt refl
no_fault_of_rest format.Absent false false before isnt = rw isnt refl
no_fault_of_rest format.Json true true before isnt = refl
no_fault_of_rest format.Json true false before isnt = refl
no_fault_of_rest format.Json false true before isnt = refl
no_fault_of_rest format.Json false false before isnt = refl
no_fault_of_rest format.Td true true before isnt = refl
no_fault_of_rest format.Td true false before isnt = refl
no_fault_of_rest format.Td false true before isnt = refl
no_fault_of_rest format.Td false false before isnt = refl
no_fault_of_rest format.Patch true true before isnt = refl
no_fault_of_rest format.Patch true false before isnt = refl
no_fault_of_rest format.Patch false true before isnt = refl
no_fault_of_rest format.Patch false false before isnt = refl
no_fault_of_rest format.Other true true before isnt = refl
no_fault_of_rest format.Other true false before isnt = refl
no_fault_of_rest format.Other false true before isnt = refl
no_fault_of_rest format.Other false false before isnt = refl

no_fault_of_path : (path : List (List ℕ)) (os : List CoapOption) → AllByRecursion (λ s. length s ≤ LONGEST_SEGMENT) path → faults_after (Some 11) os ≡ []
    → faults_after (Some 11) (segment_options URI_PATH path ++ os) ≡ []
no_fault_of_path [] os short rest = rest
no_fault_of_path (segment ∷ path) os short rest =
    let stands : may_stand (Some 11) (URI_PATH, segment) ≡ true = segment_stands (Some 11) segment short.0 in
    rw stands (no_fault_of_path path os short.1 rest)

no_fault : (path : List (List ℕ)) (os : List CoapOption) → AllByRecursion (λ s. length s ≤ LONGEST_SEGMENT) path
    → ((before : Option ℕ) → stands_again before 17 ≡ false → faults_after before os ≡ [])
    → (before : Option ℕ) → stands_again before 17 ≡ false → faults_after before (segment_options URI_PATH path ++ os) ≡ []
no_fault [] os short rest before isnt = rest before isnt
no_fault (segment ∷ path) os short rest before isnt =
    let stands : may_stand before (URI_PATH, segment) ≡ true = segment_stands before segment short.0 in
    rw stands (no_fault_of_path path os short.1 (rest (Some 11) refl))

-- ---- what is read

path_values : (path : List (List ℕ)) (os : List CoapOption) → values_under URI_PATH os ≡ [] → values_under URI_PATH (segment_options URI_PATH path ++ os) ≡ path
path_values [] os none = none
path_values (segment ∷ path) os none = ap (λ (p : List (List ℕ)). segment ∷ p) (path_values path os none)

other_values : (number : ℕ) (path : List (List ℕ)) (os : List CoapOption) → (URI_PATH == number) ≡ false → values_under number (segment_options URI_PATH path ++ os) ≡ values_under number os
other_values number [] os other = refl
other_values number (segment ∷ path) os other = rw other (other_values number path os other)

record IsRest (f : Format) (json td : Bool) : Type 0 where
  path : values_under URI_PATH (rest_of f json td) ≡ []
  block1 : values_under BLOCK1 (rest_of f json td) ≡ []
  block2 : values_under BLOCK2 (rest_of f json td) ≡ []
  if_match : values_under IF_MATCH (rest_of f json td) ≡ []
  etag : values_under ETAG (rest_of f json td) ≡ []
  if_none_match : values_under IF_NONE_MATCH (rest_of f json td) ≡ []
  observe : values_under OBSERVE (rest_of f json td) ≡ []
  format_is : f ≢ format.Patch → format_of (number_under content_format (rest_of f json td)) ≡ f
  accept_is : accept_of (number_under accept (rest_of f json td)) ≡ record { json = json; td = td }

rest_is : (f : Format) (json td : Bool) → IsRest f json td
rest_is format.Absent true true = record { path = refl; block1 = refl; block2 = refl; if_match = refl; etag = refl; if_none_match = refl; observe = refl; format_is = λ n. refl; accept_is = refl }
rest_is format.Absent true false = record { path = refl; block1 = refl; block2 = refl; if_match = refl; etag = refl; if_none_match = refl; observe = refl; format_is = λ n. refl; accept_is = refl }
rest_is format.Absent false true = record { path = refl; block1 = refl; block2 = refl; if_match = refl; etag = refl; if_none_match = refl; observe = refl; format_is = λ n. refl; accept_is = refl }
rest_is format.Absent false false = record { path = refl; block1 = refl; block2 = refl; if_match = refl; etag = refl; if_none_match = refl; observe = refl; format_is = λ n. refl; accept_is = refl }
rest_is format.Json true true = record { path = refl; block1 = refl; block2 = refl; if_match = refl; etag = refl; if_none_match = refl; observe = refl; format_is = λ n. refl; accept_is = refl }
rest_is format.Json true false = record { path = refl; block1 = refl; block2 = refl; if_match = refl; etag = refl; if_none_match = refl; observe = refl; format_is = λ n. refl; accept_is = refl }
rest_is format.Json false true = record { path = refl; block1 = refl; block2 = refl; if_match = refl; etag = refl; if_none_match = refl; observe = refl; format_is = λ n. refl; accept_is = refl }
rest_is format.Json false false = record { path = refl; block1 = refl; block2 = refl; if_match = refl; etag = refl; if_none_match = refl; observe = refl; format_is = λ n. refl; accept_is = refl }
rest_is format.Td true true = record { path = refl; block1 = refl; block2 = refl; if_match = refl; etag = refl; if_none_match = refl; observe = refl; format_is = λ n. refl; accept_is = refl }
rest_is format.Td true false = record { path = refl; block1 = refl; block2 = refl; if_match = refl; etag = refl; if_none_match = refl; observe = refl; format_is = λ n. refl; accept_is = refl }
rest_is format.Td false true = record { path = refl; block1 = refl; block2 = refl; if_match = refl; etag = refl; if_none_match = refl; observe = refl; format_is = λ n. refl; accept_is = refl }
rest_is format.Td false false = record { path = refl; block1 = refl; block2 = refl; if_match = refl; etag = refl; if_none_match = refl; observe = refl; format_is = λ n. refl; accept_is = refl }
rest_is format.Patch true true = record { path = refl; block1 = refl; block2 = refl; if_match = refl; etag = refl; if_none_match = refl; observe = refl; format_is = λ n. absurd (n refl); accept_is = refl }
rest_is format.Patch true false = record { path = refl; block1 = refl; block2 = refl; if_match = refl; etag = refl; if_none_match = refl; observe = refl; format_is = λ n. absurd (n refl); accept_is = refl }
rest_is format.Patch false true = record { path = refl; block1 = refl; block2 = refl; if_match = refl; etag = refl; if_none_match = refl; observe = refl; format_is = λ n. absurd (n refl); accept_is = refl }
rest_is format.Patch false false = record { path = refl; block1 = refl; block2 = refl; if_match = refl; etag = refl; if_none_match = refl; observe = refl; format_is = λ n. absurd (n refl); accept_is = refl }
rest_is format.Other true true = record { path = refl; block1 = refl; block2 = refl; if_match = refl; etag = refl; if_none_match = refl; observe = refl; format_is = λ n. refl; accept_is = refl }
rest_is format.Other true false = record { path = refl; block1 = refl; block2 = refl; if_match = refl; etag = refl; if_none_match = refl; observe = refl; format_is = λ n. refl; accept_is = refl }
rest_is format.Other false true = record { path = refl; block1 = refl; block2 = refl; if_match = refl; etag = refl; if_none_match = refl; observe = refl; format_is = λ n. refl; accept_is = refl }
rest_is format.Other false false = record { path = refl; block1 = refl; block2 = refl; if_match = refl; etag = refl; if_none_match = refl; observe = refl; format_is = λ n. refl; accept_is = refl }

-- ETag counts in a GET that doesn't observe, and nothing is known by another request
counted : (v : Verb) (c : Conditions) → IsSaidByBoth v c → (unwrap_or (code_of v) 0 == GET) ≡ false → c.known.list ≡ []
counted verb.Get c said isnt = absurd cc
counted verb.Head c said isnt = said.1
counted verb.Put c said isnt = said
counted verb.Post c said isnt = said
counted verb.Patch c said isnt = said
counted verb.Delete c said isnt = said
counted verb.Other c said isnt = said

counts_by : (get : Bool) (value : Option ℕ) → value ≡ None → (get && not (registers value)) ≡ get
counts_by true value none = ap (λ (o : Option ℕ). not (registers o)) none
counts_by false value none = refl

-- ---- verbs

record HasCode (v : Verb) : Type 0 where
  small : unwrap_or (code_of v) 0 < 32
  some : 0 < unwrap_or (code_of v) 0
  back : verb_of (unwrap_or (code_of v) 0) ≡ v

has_code : (v : Verb) → IsSome (code_of v) → HasCode v
has_code verb.Get is = record { small = omega arith; some = omega arith; back = refl }
has_code verb.Post is = record { small = omega arith; some = omega arith; back = refl }
has_code verb.Put is = record { small = omega arith; some = omega arith; back = refl }
has_code verb.Delete is = record { small = omega arith; some = omega arith; back = refl }
has_code verb.Head is = absurd cc
has_code verb.Patch is = absurd cc
has_code verb.Other is = absurd cc

-- ---- the message

class_of : (n : ℕ) → n < 32 → n / 32 ≡ 0
class_of n small = omega arith

same_request : (q : RequestSeen) (v : Verb) (path : List (List ℕ)) (a : Accept) (f : Format) (c : Conditions)
    → v ≡ q.verb → path ≡ q.path → q.query ≡ [] → a ≡ q.accept → f ≡ q.format → c ≡ q.conditions
    → record { verb = v; path = path; query = []; accept = a; format = f; body = q.body; conditions = c } ≡ q
same_request q v path a f c one two three four five six =
    ap₂ (λ (x : Verb) (p : List (List ℕ)). record { verb = x; path = p; query = []; accept = a; format = f; body = q.body; conditions = c }) one two
    ∙ ap₂ (λ (y : List ℕ) (x : Accept). record { verb = q.verb; path = q.path; query = y; accept = x; format = f; body = q.body; conditions = c }) (sym three) four
    ∙ ap₂ (λ (x : Format) (y : Conditions). record { verb = q.verb; path = q.path; query = q.query; accept = q.accept; format = x; body = q.body; conditions = y }) five six

pub read_by_coap : (q : RequestSeen) → IsSpeakable q → IsReadByCoap q
read_by_coap q can =
    let code = has_code q.verb can.verb in
    let rest = rest_is q.format q.accept.json q.accept.td in
    let os = rest_of q.format q.accept.json q.accept.td in
    let c = q.conditions in
    let behind : List CoapOption = segment_options URI_PATH q.path ++ os in
    let all : List CoapOption = match_options c.if_match ++ (tag_options ETAG c.known.list ++ (absent_options c.absent ++ behind)) in
    let get : Bool = unwrap_or (code_of q.verb) 0 == GET in
    let others : (n : ℕ) → (IF_MATCH == n) ≡ false → (ETAG == n) ≡ false → (IF_NONE_MATCH == n) ≡ false → (URI_PATH == n) ≡ false → values_under n all ≡ values_under n os =
    λ n one two three four. other_conditions n c behind one two three ∙ other_values n q.path os four in
    let observes : number_under observe all ≡ None =
    ap (λ (vs : List (List ℕ)). option_and_then (number_within observe) (slice_get vs 0)) (others OBSERVE refl refl refl refl ∙ rest.observe) in
    let small : unwrap_or (code_of q.verb) 0 < 32 = code.small in
    let some : 0 < unwrap_or (code_of q.verb) 0 = code.some in
    record {
      spells = record {
        bounds = record {
          code = omega (arith, small);
          class = inl (class_of (unwrap_or (code_of q.verb) 0) small);
          id = omega arith;
          token = omega arith;
          options = conditions_in_order c behind (λ l low. path_in_order q.path os l (omega (arith, low)) can.path (rest_in_order q.format q.accept.json q.accept.td));
          empty = λ none. absurd (omega (arith, none, some));
        };
        bytes_are = refl;
      };
      request = is_asked (unwrap_or (code_of q.verb) 0) some small;
      options = no_fault_of_conditions c behind (no_fault q.path os can.path (no_fault_of_rest q.format q.accept.json q.accept.td));
      names = record {
        block1 = ap (λ (vs : List (List ℕ)). option_and_then block_of (slice_get vs 0)) (others BLOCK1 refl refl refl refl ∙ rest.block1);
        block2 = ap (λ (vs : List (List ℕ)). option_and_then block_of (slice_get vs 0)) (others BLOCK2 refl refl refl refl ∙ rest.block2);
      };
      asks_it = same_request q (verb_of (unwrap_or (code_of q.verb) 0)) (values_under URI_PATH all)
          (accept_of (number_under accept all)) (format_of (number_under content_format all)) (conditions_of (unwrap_or (code_of q.verb) 0) all)
          code.back (other_conditions URI_PATH c behind refl refl refl ∙ path_values q.path os rest.path) can.query
          (ap (λ (vs : List (List ℕ)). accept_of (option_and_then (number_within accept) (slice_get vs 0))) (others ACCEPT refl refl refl refl) ∙ rest.accept_is)
          (ap (λ (vs : List (List ℕ)). format_of (option_and_then (number_within content_format) (slice_get vs 0))) (others CONTENT_FORMAT refl refl refl refl) ∙ rest.format_is can.format)
          (ap (λ (counts : Bool). conditions_by counts all) (counts_by get (number_under observe all) observes)
          ∙ conditions_read get c behind can.conditions.matched can.conditions.known can.conditions.named (counted q.verb c can.conditions.said)
          (other_values IF_MATCH q.path os refl ∙ rest.if_match) (other_values ETAG q.path os refl ∙ rest.etag) (other_values IF_NONE_MATCH q.path os refl ∙ rest.if_none_match));
    }
  where
    is_asked : (n : ℕ) → 0 < n → n < 32 → (nat_lt 0 n && nat_lt n 32) ≡ true
    is_asked n some small = grind (arith, nat_tests)
