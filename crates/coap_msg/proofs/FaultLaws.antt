-- No message has a fault, and bytes have at most one.
use Rattle.std.proofs.Common.{◌≡◌, ℕ, ◌-◌, ◌/◌, List, [], ◌∷◌, ◌++◌, length, get_or, take, drop, refl, sym, ap, subst, ◌∙◌, arith, inl, inr, length-append, append_assoc}
use Rattle.std.proofs.lemmas.List.{take-append-drop, length-take-le}
use Rattle.coap_msg.specs.declared.header.Header.{Header}
use Rattle.coap_msg.specs.declared.message.MsgFault.{MsgFault}
use Rattle.coap_msg.specs.Grammar.{CoapOption, CoapMessage, IsClass, HasHeaderAlone, Spells, option_spelling, options_spelling, payload_spelling, MayFollow, AreInOrder}
use Rattle.coap_msg.specs.Opts.{last_number}
use Rattle.coap_msg.specs.Headers.{SpellsHeader}
use Rattle.coap_msg.specs.Parts.{SpellsBody}
use Rattle.coap_msg.specs.Faults.{BeginsWhole, HasFaultHere, of_nibble, of_cut, of_number, of_payload, HasBodyFault, HasHeaderFault, of_version, of_token, of_empty, of_class, HasMsgFault, is_short, in_header, in_body}
use Rattle.coap_msg.proofs.OneOption.{option_begins}
use Rattle.coap_msg.proofs.OptionLists.{payload_begins_no_option}
use Rattle.coap_msg.proofs.Bodies.{Progress, same_rest}
use Rattle.coap_msg.proofs.Messages.{header_of, body_of, bytes_after_header}
use Rattle.coap_msg.proofs.WholeOptions.{nothing_is_whole, whole_not_reserved, whole_from_option, one_delta}

-- no option begins where there is a fault
pub faulty_begins_no_option : (f : MsgFault) (last : ℕ) (bytes : List ℕ) (o : CoapOption) (tail : List ℕ) →
    HasFaultHere f last bytes → MayFollow last o → bytes ≡ option_spelling last o ++ tail → ⊥
faulty_begins_no_option f last bytes o tail (of_nibble b after f_is bytes_are differs reserved) follows spelled =
    whole_not_reserved b after (subst BeginsWhole bytes_are (whole_from_option last o bytes tail follows spelled).0) reserved
faulty_begins_no_option f last bytes o tail (of_cut b after f_is bytes_are fine cut) follows spelled =
    cut (whole_from_option last o bytes tail follows spelled).0
faulty_begins_no_option f last bytes o tail (of_number whole f_is large) follows spelled =
    let here = whole_from_option last o bytes tail follows spelled in
    let same = one_delta bytes whole here.0 in
    let delta : here.0.delta ≡ o.0 - last = here.1 in
    omega (arith, follows.order, follows.number)
faulty_begins_no_option f last bytes o tail (of_payload f_is bytes_are) follows spelled =
    let begins = option_begins last o in
    let first : 255 ≡ begins.0 = ap (λ (xs : List ℕ). get_or xs 0 0) (sym bytes_are ∙ spelled ∙ ap (λ (xs : List ℕ). xs ++ tail) begins.2) in
    omega (arith, begins.3)

-- nor is there a payload, or nothing
faulty_is_no_payload : (f : MsgFault) (last : ℕ) (bytes payload : List ℕ) → HasFaultHere f last bytes →
    bytes ≡ payload_spelling payload → ⊥
faulty_is_no_payload f last bytes [] (of_nibble b after f_is bytes_are differs reserved) spelled = let same = sym bytes_are ∙ spelled in cc
faulty_is_no_payload f last bytes [] (of_cut b after f_is bytes_are fine cut) spelled = let same = sym bytes_are ∙ spelled in cc
faulty_is_no_payload f last bytes [] (of_number whole f_is large) spelled = nothing_is_whole (subst BeginsWhole spelled whole)
faulty_is_no_payload f last bytes [] (of_payload f_is bytes_are) spelled = let same = sym bytes_are ∙ spelled in cc
faulty_is_no_payload f last bytes (x ∷ xs) (of_nibble b after f_is bytes_are differs reserved) spelled =
    differs (ap (λ (ys : List ℕ). get_or ys 0 0) (sym bytes_are ∙ spelled))
faulty_is_no_payload f last bytes (x ∷ xs) (of_cut b after f_is bytes_are fine cut) spelled =
    let first : b ≡ 255 = ap (λ (ys : List ℕ). get_or ys 0 0) (sym bytes_are ∙ spelled) in
    fine (inl (omega arith))
faulty_is_no_payload f last bytes (x ∷ xs) (of_number whole f_is large) spelled =
    whole_not_reserved 255 (x ∷ xs) (subst BeginsWhole spelled whole) (inl refl)
faulty_is_no_payload f last bytes (x ∷ xs) (of_payload f_is bytes_are) spelled = let same = sym bytes_are ∙ spelled in cc

-- options and a payload have no fault
pub no_body_fault : (f : MsgFault) (os : List CoapOption) (payload body : List ℕ) → SpellsBody os payload body →
    HasBodyFault f body → ⊥
no_body_fault f os payload body spells at_fault =
    let r = same_rest 0 at_fault.done os at_fault.rest (payload_spelling payload) at_fault.order spells.order (payload_begins_no_option payload)
    (sym spells.body_is ∙ at_fault.body_is) in
    go r.more r.order r.rest_is
  where
    go : (more : List CoapOption) → AreInOrder (last_number 0 at_fault.done) more →
        at_fault.rest ≡ options_spelling (last_number 0 at_fault.done) more ++ payload_spelling payload → ⊥
    go [] order rest_is = faulty_is_no_payload f (last_number 0 at_fault.done) at_fault.rest payload at_fault.here rest_is
    go (o ∷ more) order rest_is =
        faulty_begins_no_option f (last_number 0 at_fault.done) at_fault.rest o (options_spelling o.0 more ++ payload_spelling payload) at_fault.here order.0
        (rest_is ∙ append_assoc (option_spelling (last_number 0 at_fault.done) o) (options_spelling o.0 more) (payload_spelling payload))

-- nothing comes after the header of an Empty message
nothing_after_header : (m : CoapMessage) → HasHeaderAlone m → length (bytes_after_header m) ≡ 0
nothing_after_header m alone = rw (alone.token, alone.options, alone.payload) refl

-- the header of a message has no fault
pub no_header_fault : (f : MsgFault) (m : CoapMessage) (h : Header) (bytes rest : List ℕ) → Spells m bytes →
    SpellsHeader h bytes rest → HasHeaderFault f h rest → ⊥
no_header_fault f m h bytes rest spells of_header (of_version f_is differs) =
    differs (header_of m h bytes rest of_header spells).version
no_header_fault f m h bytes rest spells of_header (of_token f_is version (inl long)) =
    let is = header_of m h bytes rest of_header spells in
    omega (arith, is.token_length, spells.bounds.token)
no_header_fault f m h bytes rest spells of_header (of_token f_is version (inr cut)) =
    let is = header_of m h bytes rest of_header spells in
    omega (arith, is.token_length, ap length is.rest_is, length-append m.token (options_spelling 0 m.options ++ payload_spelling m.payload))
no_header_fault f m h bytes rest spells of_header (of_empty f_is token code more) =
    let is = header_of m h bytes rest of_header spells in
    let alone = spells.bounds.empty (sym is.code ∙ code) in
    omega (arith, ap length is.rest_is, nothing_after_header m alone)
no_header_fault f m h bytes rest spells of_header (of_class f_is token reserved) =
    let is = header_of m h bytes rest of_header spells in
    reserved (subst (λ (n : ℕ). IsClass (n / 32)) (sym is.code) spells.bounds.class)

-- no message has a fault
pub no_fault_of_message : (f : MsgFault) (m : CoapMessage) (bytes : List ℕ) → Spells m bytes → HasMsgFault f bytes → ⊥
no_fault_of_message f m bytes spells (is_short f_is few) = omega (arith, ap length spells.bytes_are)
no_fault_of_message f m bytes spells (in_header h rest of_header at_fault) =
    no_header_fault f m h bytes rest spells of_header at_fault
no_fault_of_message f m bytes spells (in_body h rest of_header goes_on at_fault) =
    let is = header_of m h bytes rest of_header spells in
    let token = take h.token_length rest in
    let body = drop h.token_length rest in
    let split : rest ≡ token ++ body = sym (take-append-drop h.token_length rest) in
    let count : length token ≡ h.token_length = length-take-le h.token_length rest goes_on.token.within in
    let after = body_of m h bytes rest token body is spells split count in
    no_body_fault f m.options m.payload body after.1 at_fault

-- a fault after some options in order is a fault of the body
pub body_fault_at : (f : MsgFault) (body : List ℕ) (last first : ℕ) (rest after : List ℕ) → Progress body last rest →
    rest ≡ first ∷ after → HasFaultHere f last (first ∷ after) → HasBodyFault f body
body_fault_at f body last first rest after p rest_is here = record {
  done = p.done;
  rest = first ∷ after;
  order = p.order;
  body_is = p.body_is ∙ ap (λ (xs : List ℕ). options_spelling 0 p.done ++ xs) rest_is;
  here = subst (λ (n : ℕ). HasFaultHere f n (first ∷ after)) (sym p.last_is) here;
}
