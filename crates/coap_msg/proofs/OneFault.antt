-- Bytes have at most one fault.
use Rattle.std.proofs.Common.{◌≡◌, ℕ, ◌+◌, ◌*◌, ◌/◌, ◌%◌, ◌<◌, List, [], ◌∷◌, ◌++◌, length, get_or, drop, refl, sym, ap, subst, ◌∙◌, arith, inl, inr, append_assoc}
use Rattle.std.specs.Prelude.{◌⊎◌}
use Rattle.coap_msg.specs.declared.header.Header.{Header}
use Rattle.coap_msg.specs.declared.message.MsgFault.{MsgFault}
use Rattle.coap_msg.specs.declared.message.Type4.{Type4}
use Rattle.coap_msg.specs.Grammar.{CoapOption, IsClass, type_bits, option_spelling, options_spelling, AreInOrder}
use Rattle.coap_msg.specs.Opts.{last_number}
use Rattle.coap_msg.specs.Headers.{SpellsHeader}
use Rattle.coap_msg.specs.Faults.{HasReservedNibble, BeginsWhole, HasFaultHere, of_nibble, of_cut, of_number, of_payload, HasBodyFault, HasHeaderFault, of_version, of_token, of_empty, of_class, HasToken, MayGoOn, HasMsgFault, is_short, in_header, in_body}
use Rattle.coap_msg.proofs.OptionLists.{same_option}
use Rattle.coap_msg.proofs.Messages.{type_bits_below, same_type}
use Rattle.coap_msg.proofs.WholeOptions.{whole_not_reserved}
use Rattle.coap_msg.proofs.FaultLaws.{faulty_begins_no_option}

-- where a byte that isn't the marker is wrong, the marker isn't alone
other_than_marker : (b : ℕ) (after bytes : List ℕ) → bytes ≡ b ∷ after → bytes ≡ 255 ∷ [] → b ≡ 255
other_than_marker b after bytes bytes_are marker = ap (λ (xs : List ℕ). get_or xs 0 0) (sym bytes_are ∙ marker)

-- the same first byte
same_first : (a b : ℕ) (x y bytes : List ℕ) → bytes ≡ a ∷ x → bytes ≡ b ∷ y → a ≡ b
same_first a b x y bytes of_a of_b = ap (λ (xs : List ℕ). get_or xs 0 0) (sym of_a ∙ of_b)

-- there is one fault right here
one_fault_here : (f g : MsgFault) (last : ℕ) (bytes : List ℕ) → HasFaultHere f last bytes → HasFaultHere g last bytes → f ≡ g
one_fault_here f g last bytes (of_nibble b x f_is bytes_are differs reserved) (of_nibble c y g_is same other also) = f_is ∙ sym g_is
one_fault_here f g last bytes (of_nibble b x f_is bytes_are differs reserved) (of_cut c y g_is same fine cut) =
    absurd (fine (subst HasReservedNibble (same_first b c x y bytes bytes_are same) reserved))
one_fault_here f g last bytes (of_nibble b x f_is bytes_are differs reserved) (of_number whole g_is large) =
    absurd (whole_not_reserved b x (subst BeginsWhole bytes_are whole) reserved)
one_fault_here f g last bytes (of_nibble b x f_is bytes_are differs reserved) (of_payload g_is marker) =
    absurd (differs (other_than_marker b x bytes bytes_are marker))
one_fault_here f g last bytes (of_cut b x f_is bytes_are fine cut) (of_nibble c y g_is same other also) =
    absurd (fine (subst HasReservedNibble (same_first c b y x bytes same bytes_are) also))
one_fault_here f g last bytes (of_cut b x f_is bytes_are fine cut) (of_cut c y g_is same other also) = f_is ∙ sym g_is
one_fault_here f g last bytes (of_cut b x f_is bytes_are fine cut) (of_number whole g_is large) = absurd (cut whole)
one_fault_here f g last bytes (of_cut b x f_is bytes_are fine cut) (of_payload g_is marker) =
    let first : b ≡ 255 = other_than_marker b x bytes bytes_are marker in
    absurd (fine (inl (omega arith)))
one_fault_here f g last bytes (of_number whole f_is large) (of_nibble c y g_is same other also) =
    absurd (whole_not_reserved c y (subst BeginsWhole same whole) also)
one_fault_here f g last bytes (of_number whole f_is large) (of_cut c y g_is same fine cut) = absurd (cut whole)
one_fault_here f g last bytes (of_number whole f_is large) (of_number other g_is also) = f_is ∙ sym g_is
one_fault_here f g last bytes (of_number whole f_is large) (of_payload g_is marker) =
    absurd (whole_not_reserved 255 [] (subst BeginsWhole marker whole) (inl refl))
one_fault_here f g last bytes (of_payload f_is marker) (of_nibble c y g_is same other also) =
    absurd (other (other_than_marker c y bytes same marker))
one_fault_here f g last bytes (of_payload f_is marker) (of_cut c y g_is same fine cut) =
    let first : c ≡ 255 = other_than_marker c y bytes same marker in
    absurd (fine (inl (omega arith)))
one_fault_here f g last bytes (of_payload f_is marker) (of_number whole g_is large) =
    absurd (whole_not_reserved 255 [] (subst BeginsWhole marker whole) (inl refl))
one_fault_here f g last bytes (of_payload f_is marker) (of_payload g_is same) = f_is ∙ sym g_is

-- after options in order, a fault is at one place
one_fault_after : (f g : MsgFault) (last : ℕ) (os ps : List CoapOption) (x y : List ℕ) → AreInOrder last os → AreInOrder last ps →
    HasFaultHere f (last_number last os) x → HasFaultHere g (last_number last ps) y →
    options_spelling last os ++ x ≡ options_spelling last ps ++ y → f ≡ g
one_fault_after f g last [] [] x y a b of_f of_g same = one_fault_here f g last x of_f (subst (λ (xs : List ℕ). HasFaultHere g last xs) (sym same) of_g)
one_fault_after f g last [] (p ∷ ps) x y a b of_f of_g same =
    absurd (faulty_begins_no_option f last x p (options_spelling p.0 ps ++ y) of_f b.0
    (same ∙ append_assoc (option_spelling last p) (options_spelling p.0 ps) y))
one_fault_after f g last (o ∷ os) [] x y a b of_f of_g same =
    absurd (faulty_begins_no_option g last y o (options_spelling o.0 os ++ x) of_g a.0
    (sym same ∙ append_assoc (option_spelling last o) (options_spelling o.0 os) x))
one_fault_after f g last (o ∷ os) (p ∷ ps) x y a b of_f of_g same =
    let first = same_option last o p (options_spelling o.0 os ++ x) (options_spelling p.0 ps ++ y) a.0 b.0
    (sym (append_assoc (option_spelling last o) (options_spelling o.0 os) x) ∙ same ∙ append_assoc (option_spelling last p) (options_spelling p.0 ps) y) in
    let number : p.0 ≡ o.0 = ap (λ (r : CoapOption × List ℕ). r.0.0) (sym first) in
    let order : AreInOrder o.0 ps = subst (λ (n : ℕ). AreInOrder n ps) number b.1 in
    let of_rest : HasFaultHere g (last_number o.0 ps) y = subst (λ (n : ℕ). HasFaultHere g (last_number n ps) y) number of_g in
    let rest : options_spelling o.0 os ++ x ≡ options_spelling o.0 ps ++ y =
    subst (λ (n : ℕ). options_spelling o.0 os ++ x ≡ options_spelling n ps ++ y) number (ap (λ (r : CoapOption × List ℕ). r.1) first) in
    one_fault_after f g o.0 os ps x y a.1 order of_f of_rest rest

-- a body has at most one fault
one_body_fault : (f g : MsgFault) (body : List ℕ) → HasBodyFault f body → HasBodyFault g body → f ≡ g
one_body_fault f g body a b = one_fault_after f g 0 a.done b.done a.rest b.rest a.order b.order a.here b.here (sym a.body_is ∙ b.body_is)

-- a token that isn't there isn't there
no_token : (h : Header) (rest : List ℕ) → (8 < h.token_length) ⊎ (length rest < h.token_length) → HasToken h rest → ⊥
no_token h rest (inl long) token = omega (arith, token.short)
no_token h rest (inr cut) token = omega (arith, token.within)

-- the class of the code 0.00 isn't reserved
class_of_zero : (code : ℕ) → code ≡ 0 → IsClass (code / 32)
class_of_zero code zero = inl (omega arith)

-- a header has at most one fault
one_header_fault : (f g : MsgFault) (h : Header) (rest : List ℕ) → HasHeaderFault f h rest → HasHeaderFault g h rest → f ≡ g
one_header_fault f g h rest (of_version f_is differs) (of_version g_is other) = f_is ∙ sym g_is
one_header_fault f g h rest (of_version f_is differs) (of_token g_is version bad) = absurd (differs version)
one_header_fault f g h rest (of_version f_is differs) (of_empty g_is token code more) = absurd (differs token.version)
one_header_fault f g h rest (of_version f_is differs) (of_class g_is token reserved) = absurd (differs token.version)
one_header_fault f g h rest (of_token f_is version bad) (of_version g_is other) = absurd (other version)
one_header_fault f g h rest (of_token f_is version bad) (of_token g_is also same) = f_is ∙ sym g_is
one_header_fault f g h rest (of_token f_is version bad) (of_empty g_is token code more) = absurd (no_token h rest bad token)
one_header_fault f g h rest (of_token f_is version bad) (of_class g_is token reserved) = absurd (no_token h rest bad token)
one_header_fault f g h rest (of_empty f_is token code more) (of_version g_is other) = absurd (other token.version)
one_header_fault f g h rest (of_empty f_is token code more) (of_token g_is version bad) = absurd (no_token h rest bad token)
one_header_fault f g h rest (of_empty f_is token code more) (of_empty g_is also same again) = f_is ∙ sym g_is
one_header_fault f g h rest (of_empty f_is token code more) (of_class g_is also reserved) = absurd (reserved (class_of_zero h.code code))
one_header_fault f g h rest (of_class f_is token reserved) (of_version g_is other) = absurd (other token.version)
one_header_fault f g h rest (of_class f_is token reserved) (of_token g_is version bad) = absurd (no_token h rest bad token)
one_header_fault f g h rest (of_class f_is token reserved) (of_empty g_is also code more) = absurd (reserved (class_of_zero h.code code))
one_header_fault f g h rest (of_class f_is token reserved) (of_class g_is also same) = f_is ∙ sym g_is

-- a header whose fields go on has none
no_fault_that_goes_on : (f : MsgFault) (h : Header) (rest : List ℕ) → HasHeaderFault f h rest → MayGoOn h rest → ⊥
no_fault_that_goes_on f h rest (of_version f_is differs) fine = differs fine.token.version
no_fault_that_goes_on f h rest (of_token f_is version bad) fine = no_token h rest bad fine.token
no_fault_that_goes_on f h rest (of_empty f_is token code more) fine = omega (arith, fine.empty code)
no_fault_that_goes_on f h rest (of_class f_is token reserved) fine = reserved fine.class

-- the header of these fields
abbrev with_fields : ℕ → Type4 → ℕ → ℕ → ℕ → Header
with_fields version kind token_length code id =
    record { version = version; kind = kind; token_length = token_length; code = code; id = id }

-- headers with the same fields are the same
same_fields : (h k : Header) → h.version ≡ k.version → h.kind ≡ k.kind → h.token_length ≡ k.token_length →
    h.code ≡ k.code → h.id ≡ k.id → h ≡ k
same_fields h k version kind token_length code id =
    let same : with_fields h.version h.kind h.token_length h.code h.id ≡ with_fields k.version k.kind k.token_length k.code k.id = cc in
    same

-- bytes begin with one header
one_header : (h k : Header) (bytes x y : List ℕ) → SpellsHeader h bytes x → SpellsHeader k bytes y → (h ≡ k) × (x ≡ y)
one_header h k bytes x y of_h of_k =
    let same = sym of_h.bytes_are ∙ of_k.bytes_are in
    let first : 64 * h.version + 16 * type_bits h.kind + h.token_length ≡ 64 * k.version + 16 * type_bits k.kind + k.token_length = ap (λ (xs : List ℕ). get_or xs 0 0) same in
    let code : h.code ≡ k.code = ap (λ (xs : List ℕ). get_or xs 1 0) same in
    let high : h.id / 256 ≡ k.id / 256 = ap (λ (xs : List ℕ). get_or xs 2 0) same in
    let low : h.id % 256 ≡ k.id % 256 = ap (λ (xs : List ℕ). get_or xs 3 0) same in
    let bits_of_h = type_bits_below h.kind in
    let bits_of_k = type_bits_below k.kind in
    let length_of_h = of_h.token_length in
    let length_of_k = of_k.token_length in (
      same_fields h k (omega arith) (same_type h.kind k.kind (omega arith)) (omega arith) code (omega arith),
      ap (λ (xs : List ℕ). drop 4 xs) same,
    )

-- bytes with a header aren't short
has_four : (h : Header) (bytes rest : List ℕ) → SpellsHeader h bytes rest → length bytes < 4 → ⊥
has_four h bytes rest of_h few = omega (arith, ap length of_h.bytes_are)

-- bytes have at most one fault
pub at_most_one_fault : (f g : MsgFault) (bytes : List ℕ) → HasMsgFault f bytes → HasMsgFault g bytes → f ≡ g
at_most_one_fault f g bytes (is_short f_is few) (is_short g_is same) = f_is ∙ sym g_is
at_most_one_fault f g bytes (is_short f_is few) (in_header k y of_k wrong) = absurd (has_four k bytes y of_k few)
at_most_one_fault f g bytes (is_short f_is few) (in_body k y of_k fine wrong) = absurd (has_four k bytes y of_k few)
at_most_one_fault f g bytes (in_header h x of_h wrong) (is_short g_is few) = absurd (has_four h bytes x of_h few)
at_most_one_fault f g bytes (in_header h x of_h wrong) (in_header k y of_k also) =
    let same = one_header k h bytes y x of_k of_h in
    one_header_fault f g h x wrong (subst (λ (r : Header). HasHeaderFault g r x) same.0 (subst (λ (r : List ℕ). HasHeaderFault g k r) same.1 also))
at_most_one_fault f g bytes (in_header h x of_h wrong) (in_body k y of_k fine also) =
    let same = one_header k h bytes y x of_k of_h in
    absurd (no_fault_that_goes_on f h x wrong (subst (λ (r : Header). MayGoOn r x) same.0 (subst (λ (r : List ℕ). MayGoOn k r) same.1 fine)))
at_most_one_fault f g bytes (in_body h x of_h fine wrong) (is_short g_is few) = absurd (has_four h bytes x of_h few)
at_most_one_fault f g bytes (in_body h x of_h fine wrong) (in_header k y of_k also) =
    let same = one_header h k bytes x y of_h of_k in
    absurd (no_fault_that_goes_on g k y also (subst (λ (r : Header). MayGoOn r y) same.0 (subst (λ (r : List ℕ). MayGoOn h r) same.1 fine)))
at_most_one_fault f g bytes (in_body h x of_h fine wrong) (in_body k y of_k good also) =
    let same = one_header k h bytes y x of_k of_h in
    let body : drop k.token_length y ≡ drop h.token_length x =
    ap (λ (r : Header). drop r.token_length y) same.0 ∙ ap (λ (r : List ℕ). drop h.token_length r) same.1 in
    one_body_fault f g (drop h.token_length x) wrong (subst (λ (r : List ℕ). HasBodyFault g r) body also)
