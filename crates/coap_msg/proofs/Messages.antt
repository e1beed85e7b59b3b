-- A whole message: its header, and that bytes spell one message at most.
use Rattle.std.proofs.Common.{◌≡◌, ℕ, ◌+◌, ◌*◌, ◌/◌, ◌%◌, ◌<◌, ◌≤◌, List, [], ◌∷◌, ◌++◌, length, get_or, take, drop, refl, sym, ap, ◌∙◌, arith, append_assoc, length-append}
use Rattle.std.proofs.lemmas.List.{take_at, drop_at, nil_from_length}
use Rattle.coap_msg.specs.declared.message.Type4.{Type4}
use Rattle.coap_msg.specs.declared.message.Type4.TheVariants.{Con, Non, Ack, Rst}
use Rattle.coap_msg.specs.declared.header.Header.{Header}
use Rattle.coap_msg.specs.Grammar.{CoapOption, CoapMessage, type_bits, header, IsClass, HasHeaderAlone, IsWellFormed, Spells, options_spelling, payload_spelling}
use Rattle.coap_msg.specs.Headers.{SpellsHeader}
use Rattle.coap_msg.specs.Parts.{SpellsBody}
use Rattle.coap_msg.proofs.OptionLists.{one_body}

-- type bits are two bits
pub type_bits_below : (kind : Type4) → type_bits kind < 4
type_bits_below Con = omega arith
type_bits_below Non = omega arith
type_bits_below Ack = omega arith
type_bits_below Rst = omega arith

-- types are recognised by their bits
pub same_type : (a b : Type4) → type_bits a ≡ type_bits b → a ≡ b
same_type Con Con same = refl
same_type Con Non same = absurd (omega arith)
same_type Con Ack same = absurd (omega arith)
same_type Con Rst same = absurd (omega arith)
same_type Non Con same = absurd (omega arith)
same_type Non Non same = refl
same_type Non Ack same = absurd (omega arith)
same_type Non Rst same = absurd (omega arith)
same_type Ack Con same = absurd (omega arith)
same_type Ack Non same = absurd (omega arith)
same_type Ack Ack same = refl
same_type Ack Rst same = absurd (omega arith)
same_type Rst Con same = absurd (omega arith)
same_type Rst Non same = absurd (omega arith)
same_type Rst Ack same = absurd (omega arith)
same_type Rst Rst same = refl

-- the bytes after the header of a message
abbrev pub bytes_after_header : CoapMessage → List ℕ
bytes_after_header m = m.token ++ (options_spelling 0 m.options ++ payload_spelling m.payload)

-- a header has the fields of its message
pub record IsHeaderOf (m : CoapMessage) (h : Header) (rest : List ℕ) : Type 0 where
  pub version : h.version ≡ 1
  pub kind : type_bits h.kind ≡ type_bits m.kind
  pub token_length : h.token_length ≡ length m.token
  pub code : h.code ≡ m.code
  pub id : h.id ≡ m.id
  pub rest_is : rest ≡ bytes_after_header m

-- the header that a message begins with is its header
pub header_of : (m : CoapMessage) (h : Header) (bytes rest : List ℕ) → SpellsHeader h bytes rest →
    Spells m bytes → IsHeaderOf m h rest
header_of m h bytes rest of_header of_message =
    let same = sym of_header.bytes_are ∙ of_message.bytes_are in
    let first : 64 * h.version + 16 * type_bits h.kind + h.token_length ≡ 64 * 1 + 16 * type_bits m.kind + length m.token = ap (λ (xs : List ℕ). get_or xs 0 0) same in
    let code : h.code ≡ m.code = ap (λ (xs : List ℕ). get_or xs 1 0) same in
    let high : h.id / 256 ≡ m.id / 256 = ap (λ (xs : List ℕ). get_or xs 2 0) same in
    let low : h.id % 256 ≡ m.id % 256 = ap (λ (xs : List ℕ). get_or xs 3 0) same in
    let of_h = type_bits_below h.kind in
    let of_m = type_bits_below m.kind in
    let short = of_message.bounds.token in
    let four = of_header.token_length in
    record {
      version = omega arith;
      kind = omega arith;
      token_length = omega arith;
      code = code;
      id = omega arith;
      rest_is = ap (λ (xs : List ℕ). drop 4 xs) same;
    }

-- the bytes after the token of a message are its options and payload
pub body_of : (m : CoapMessage) (h : Header) (bytes rest token body : List ℕ) → IsHeaderOf m h rest →
    Spells m bytes → rest ≡ token ++ body → length token ≡ h.token_length →
    (token ≡ m.token) × SpellsBody m.options m.payload body
body_of m h bytes rest token body of_header spells split count =
    let n = length m.token in
    let tail = options_spelling 0 m.options ++ payload_spelling m.payload in
    let same : token ++ body ≡ m.token ++ tail = sym split ∙ of_header.rest_is in
    let counted : length token ≡ n = count ∙ of_header.token_length in (
      sym (take_at token body n counted) ∙ ap (λ (xs : List ℕ). take n xs) same ∙ take_at m.token tail n refl,
      record {
        order = spells.bounds.options;
        body_is = sym (drop_at token body n counted)
            ∙ ap (λ (xs : List ℕ). drop n xs) same
            ∙ drop_at m.token tail n refl;
      },
    )

-- the message of a header, a token and a body
abbrev pub assembled_message : Header → List ℕ → List CoapOption → List ℕ → CoapMessage
assembled_message h token options payload =
    record { kind = h.kind; code = h.code; id = h.id; token = token; options = options; payload = payload }

-- a header, a token of its length and a body within the bounds spell their message
pub assembled_spells : (h : Header) (bytes rest token body : List ℕ) (options : List CoapOption) (payload : List ℕ) →
    SpellsHeader h bytes rest → h.version ≡ 1 → h.token_length ≤ 8 → IsClass (h.code / 32) →
    (h.code ≡ 0 → HasHeaderAlone (assembled_message h token options payload)) → rest ≡ token ++ body →
    length token ≡ h.token_length → SpellsBody options payload body →
    Spells (assembled_message h token options payload) bytes
assembled_spells h bytes rest token body options payload of_header version short class empty split count of_body =
    let first : 64 * h.version + 16 * type_bits h.kind + h.token_length ≡ 64 * 1 + 16 * type_bits h.kind + length token = omega arith in
    let after : rest ≡ token ++ (options_spelling 0 options ++ payload_spelling payload) = split
    ∙ ap (λ (xs : List ℕ). token ++ xs) of_body.body_is in
    record {
      bounds = record { code = of_header.code; class = class; id = of_header.id; token = omega arith; options = of_body.order; empty = empty };
      bytes_are =
          of_header.bytes_are
          ∙ ap (λ (n : ℕ). n ∷ h.code ∷ (h.id / 256) ∷ (h.id % 256) ∷ rest) first
          ∙ ap (λ (xs : List ℕ). (64 * 1 + 16 * type_bits h.kind + length token) ∷ h.code ∷ (h.id / 256) ∷ (h.id % 256) ∷ xs) after;
    }

-- header, token, options and payload one after another spell their message
pub pieces_spell : (m : CoapMessage) (a b c bytes options : List ℕ) → IsWellFormed m → a ≡ header m →
    b ≡ a ++ m.token → options ≡ options_spelling 0 m.options → c ≡ b ++ options →
    bytes ≡ c ++ payload_spelling m.payload → Spells m bytes
pieces_spell m a b c bytes options bounds a_is b_is options_are c_is bytes_are = record {
  bounds = bounds;
  bytes_are = rw (bytes_are, c_is, options_are, b_is, a_is) (simp append_assoc);
}

-- where nothing comes after a header, token, options and payload are empty
pub nothing_after : (h : Header) (rest token body : List ℕ) (options : List CoapOption) (payload : List ℕ) →
    length rest ≡ 0 → rest ≡ token ++ body → SpellsBody options payload body →
    HasHeaderAlone (assembled_message h token options payload)
nothing_after h rest token body options payload none split of_body =
    let counted = length-append token body in
    let whole = ap length split in
    let token_is : token ≡ [] = nil_from_length token (omega arith) in
    let body_is : body ≡ [] = nil_from_length body (omega arith) in
    let same = one_body options [] payload [] body of_body (record { order = tt; body_is = body_is }) in
    record { token = token_is; options = same.0; payload = same.1 }

-- the message of these parts
abbrev with_parts : Type4 → ℕ → ℕ → List ℕ → List CoapOption → List ℕ → CoapMessage
with_parts kind code id token options payload =
    record { kind = kind; code = code; id = id; token = token; options = options; payload = payload }

-- messages with the same parts are the same
same_parts : (m n : CoapMessage) → m.kind ≡ n.kind → m.code ≡ n.code → m.id ≡ n.id → m.token ≡ n.token →
    m.options ≡ n.options → m.payload ≡ n.payload → m ≡ n
same_parts m n kind code id token options payload =
    let same : with_parts m.kind m.code m.id m.token m.options m.payload ≡ with_parts n.kind n.code n.id n.token n.options n.payload = cc in
    same

-- the header of a message, in its fields
abbrev header_fields : CoapMessage → Header
header_fields m = record { version = 1; kind = m.kind; token_length = length m.token; code = m.code; id = m.id }

-- a message's bytes begin with its header
spells_header : (m : CoapMessage) (bytes : List ℕ) → Spells m bytes →
    SpellsHeader (header_fields m) bytes (bytes_after_header m)
spells_header m bytes spells =
    let short = spells.bounds.token in
    record { bytes_are = spells.bytes_are; version = omega arith; token_length = omega arith; code = spells.bounds.code; id = spells.bounds.id }

-- bytes spell at most one message
pub at_most_one_message : (m n : CoapMessage) (bytes : List ℕ) → Spells m bytes → Spells n bytes → m ≡ n
at_most_one_message m n bytes of_m of_n =
    let header = header_of n (header_fields m) bytes (bytes_after_header m) (spells_header m bytes of_m) of_n in
    let body_is = options_spelling 0 m.options ++ payload_spelling m.payload in
    let after = body_of n (header_fields m) bytes (bytes_after_header m) m.token body_is header of_n refl refl in
    let body = one_body m.options n.options m.payload n.payload body_is (record { order = of_m.bounds.options; body_is = refl }) after.1 in
    same_parts m n (same_type m.kind n.kind header.kind) header.code header.id after.0 body.0 body.1
