-- The loop that reads options up to the payload.
use Rattle.std.proofs.Common.{◌≡◌, ℕ, ◌-◌, ◌<◌, List, [], ◌∷◌, ◌++◌, length, get_or, take, None, refl, sym, ap, subst, ◌∙◌, arith, append_assoc, length-append}
use Rattle.std.proofs.lemmas.List.{take_at, take_all}
use Rattle.coap_msg.specs.Grammar.{CoapOption, option_spelling, options_spelling, payload_spelling, MayFollow, AreInOrder}
use Rattle.coap_msg.specs.Opts.{last_number}
use Rattle.coap_msg.specs.Options.{option_at, options_of}
use Rattle.coap_msg.specs.Parts.{SpellsBody}
use Rattle.coap_msg.proofs.ExtendedNumbers.{IsBytes, none_read}
use Rattle.coap_msg.proofs.OneOption.{IsBytes-after, some_read, option_takes, option_at-spelling, option_shrinks, options_of-spelling}
use Rattle.coap_msg.proofs.OptionLists.{AreInOrder-push, options_spelling-push, last_number-push, BeginsNoOption, payload_begins_no_option, option_begins_here, same_option}

-- some options were read, the last of this number, and the rest comes after it
pub record Progress (body : List ℕ) (last : ℕ) (rest : List ℕ) : Type 0 where
  pub done : List CoapOption
  pub order : AreInOrder 0 done
  pub body_is : body ≡ options_spelling 0 done ++ rest
  pub last_is : last_number 0 done ≡ last
  pub are_bytes : IsBytes rest

-- before the first option
pub begin : (body : List ℕ) → IsBytes body → Progress body 0 body
begin body are_bytes = record { done = []; order = tt; body_is = refl; last_is = refl; are_bytes = are_bytes }

-- one option further
pub step : (body : List ℕ) (last : ℕ) (rest : List ℕ) (number : ℕ) (value next : List ℕ) →
    Progress body last rest → some_read ((number, value), next) ≡ option_at last rest →
    Progress body number next
step body last rest number value next p read =
    let o : CoapOption = (number, value) in
    let takes = option_takes last rest ((number, value), next) p.are_bytes (sym read) in
    let follows : MayFollow (last_number 0 p.done) o = rw p.last_is takes.follows in
    let spelled : rest ≡ option_spelling (last_number 0 p.done) o ++ next = rw p.last_is takes.bytes_are in
    record {
      done = p.done ++ o ∷ [];
      order = AreInOrder-push 0 p.done o p.order follows;
      body_is = p.body_is
          ∙ ap (λ (xs : List ℕ). options_spelling 0 p.done ++ xs) spelled
          ∙ sym (options_spelling-push 0 p.done o next);
      last_is = last_number-push 0 p.done o;
      are_bytes = IsBytes-after (option_spelling last o) next (subst IsBytes takes.bytes_are p.are_bytes);
    }

-- an option that is read leaves fewer bytes
pub falls : (last : ℕ) (rest : List ℕ) (number : ℕ) (value next : List ℕ) →
    some_read ((number, value), next) ≡ option_at last rest → length next < length rest
falls last rest number value next read = option_shrinks last rest ((number, value), next) (sym read)

-- where a payload or nothing is left, the bytes before it are the options
pub at_payload : (body : List ℕ) (last : ℕ) (rest payload done : List ℕ) → Progress body last rest →
    rest ≡ payload_spelling payload → done ≡ take (length body - length rest) body →
    SpellsBody (options_of done) payload body
at_payload body last rest payload done p rest_is front_is =
    let options = options_spelling 0 p.done in
    let count : length options ≡ length body - length rest = omega (arith, ap length p.body_is, length-append options rest) in
    let spelled : done ≡ options =
    front_is
    ∙ ap (λ (xs : List ℕ). take (length body - length rest) xs) p.body_is
    ∙ take_at options rest (length body - length rest) count in
    let same : options_of done ≡ p.done = ap options_of spelled ∙ options_of-spelling p.done p.order in
    record {
      order = rw same p.order;
      body_is = p.body_is
          ∙ ap (λ (xs : List ℕ). options ++ xs) rest_is
          ∙ ap (λ (os : List CoapOption). options_spelling 0 os ++ payload_spelling payload) (sym same);
    }

-- a marker with bytes after it is the spelling of a payload
pub marker_and_bytes : (first : ℕ) (rest after : List ℕ) → rest ≡ first ∷ after → first ≡ 255 →
    (length after ≡ 0 → ⊥) → rest ≡ payload_spelling after
marker_and_bytes first rest [] rest_is marker bytes = absurd (bytes refl)
marker_and_bytes first rest (b ∷ after) rest_is marker bytes = rest_is ∙ ap (λ (n : ℕ). n ∷ b ∷ after) marker

-- where nothing is left, all of the bytes are options
pub at_end : (body : List ℕ) (last : ℕ) (rest : List ℕ) → Progress body last rest → length rest ≡ 0 →
    SpellsBody (options_of body) rest body
at_end body last [] p none = at_payload body last [] [] body p refl (sym (take_all (length body - 0) body (omega arith)))
at_end body last (b ∷ rest) p none = absurd (omega arith)

-- the rest is options in order and a tail
pub record IsRest (last : ℕ) (rest tail : List ℕ) : Type 0 where
  pub more : List CoapOption
  pub order : AreInOrder last more
  pub rest_is : rest ≡ options_spelling last more ++ tail

-- the bytes after the options that were read are the rest of any other way to read them
pub same_rest : (last : ℕ) (done others : List CoapOption) (rest tail : List ℕ) → AreInOrder last done →
    AreInOrder last others → BeginsNoOption tail →
    options_spelling last others ++ tail ≡ options_spelling last done ++ rest →
    IsRest (last_number last done) rest tail
same_rest last [] others rest tail a b ends same = record { more = others; order = b; rest_is = sym same }
same_rest last (o ∷ done) [] rest tail a b ends same =
    absurd (option_begins_here last o (options_spelling o.0 done ++ rest)
    (subst BeginsNoOption (same ∙ append_assoc (option_spelling last o) (options_spelling o.0 done) rest) ends))
same_rest last (o ∷ done) (p ∷ others) rest tail a b ends same =
    let first = same_option last p o (options_spelling p.0 others ++ tail) (options_spelling o.0 done ++ rest) b.0 a.0
    (sym (append_assoc (option_spelling last p) (options_spelling p.0 others) tail) ∙ same ∙ append_assoc (option_spelling last o) (options_spelling o.0 done) rest) in
    let number : p.0 ≡ o.0 = ap (λ (r : CoapOption × List ℕ). r.0.0) first in
    let order : AreInOrder o.0 others = subst (λ (n : ℕ). AreInOrder n others) number b.1 in
    let tails : options_spelling o.0 others ++ tail ≡ options_spelling o.0 done ++ rest =
    subst (λ (n : ℕ). options_spelling n others ++ tail ≡ options_spelling o.0 done ++ rest) number (ap (λ (r : CoapOption × List ℕ). r.1) first) in
    same_rest o.0 done others rest tail a.1 order ends tails

-- the rest where the body is options and a payload
rest_of : (body : List ℕ) (last : ℕ) (rest : List ℕ) (os : List CoapOption) (payload : List ℕ) →
    Progress body last rest → SpellsBody os payload body → IsRest last rest (payload_spelling payload)
rest_of body last rest os payload p spells =
    let whole = same_rest 0 p.done os rest (payload_spelling payload) p.order spells.order (payload_begins_no_option payload) (sym spells.body_is ∙ p.body_is) in
    subst (λ (n : ℕ). IsRest n rest (payload_spelling payload)) p.last_is whole

-- the spelling of a payload isn't the marker alone
marker_with_bytes : (payload : List ℕ) → 255 ∷ [] ≡ payload_spelling payload → ⊥
marker_with_bytes [] same = cc
marker_with_bytes (b ∷ bytes) same = cc

-- after options that are in order no marker is alone
pub bare_marker : (body : List ℕ) (last first : ℕ) (rest after : List ℕ) → Progress body last rest →
    rest ≡ first ∷ after → first ≡ 255 → length after ≡ 0 → (os : List CoapOption) (payload : List ℕ) →
    SpellsBody os payload body → ⊥
bare_marker body last first rest after p rest_is marker bare os payload spells =
    let r = rest_of body last rest os payload p spells in
    go r.more after bare (sym (rest_is ∙ ap (λ (n : ℕ). n ∷ after) marker) ∙ r.rest_is)
  where
    go : (more : List CoapOption) (xs : List ℕ) → length xs ≡ 0 →
        255 ∷ xs ≡ options_spelling last more ++ payload_spelling payload → ⊥
    go more (x ∷ xs) none same = omega arith
    go [] [] none same = marker_with_bytes payload same
    go (o ∷ more) [] none same =
        option_begins_here last o (options_spelling o.0 more ++ payload_spelling payload)
        (subst BeginsNoOption (same ∙ append_assoc (option_spelling last o) (options_spelling o.0 more) (payload_spelling payload)) (omega arith))

-- after options that are in order comes an option or a marker
pub no_option : (body : List ℕ) (last first : ℕ) (rest after : List ℕ) → Progress body last rest →
    rest ≡ first ∷ after → (first ≡ 255 → ⊥) → option_at last rest ≡ None →
    (os : List CoapOption) (payload : List ℕ) → SpellsBody os payload body → ⊥
no_option body last first rest after p rest_is differs none os payload spells =
    let r = rest_of body last rest os payload p spells in
    go r.more payload r.order r.rest_is
  where
    go : (more : List CoapOption) (q : List ℕ) → AreInOrder last more →
        rest ≡ options_spelling last more ++ payload_spelling q → ⊥
    go [] [] order same = absurd (let none_left = sym rest_is ∙ same in cc)
    go [] (b ∷ bytes) order same = differs (ap (λ (xs : List ℕ). get_or xs 0 0) (sym rest_is ∙ same))
    go (o ∷ more) q order same =
        let read = option_at-spelling last o (options_spelling o.0 more ++ payload_spelling q) order.0 in
        let here : option_at last rest ≡ option_at last (option_spelling last o ++ (options_spelling o.0 more ++ payload_spelling q)) =
        ap (λ (xs : List ℕ). option_at last xs) (same ∙ append_assoc (option_spelling last o) (options_spelling o.0 more) (payload_spelling q)) in
        none_read (option_at last rest) (o, options_spelling o.0 more ++ payload_spelling q) none (here ∙ read)
