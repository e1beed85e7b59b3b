-- Lists of options and the bytes after a token: one more option at the end, and that bytes spell one list.
use Rattle.std.proofs.Common.{◌≡◌, ℕ, ◌≤◌, List, [], ◌∷◌, ◌++◌, refl, sym, ap, subst, ◌∙◌, arith, append_assoc}
use Rattle.std.proofs.lemmas.List.{append-nil}
use Rattle.std.proofs.lemmas.Option.{same_Some}
use Rattle.coap_msg.specs.Grammar.{CoapOption, option_spelling, options_spelling, payload_spelling, MayFollow, AreInOrder}
use Rattle.coap_msg.specs.Kept.{AreWritten}
use Rattle.coap_msg.specs.Opts.{last_number}
use Rattle.coap_msg.specs.Options.{option_at, options_of}
use Rattle.coap_msg.specs.Parts.{SpellsBody}
use Rattle.coap_msg.proofs.OneOption.{some_read, option_at-spelling, option_begins, options_of-spelling}

-- an option that may follow the last one keeps the order
pub AreInOrder-push : (last : ℕ) (os : List CoapOption) (o : CoapOption) → AreInOrder last os →
    MayFollow (last_number last os) o → AreInOrder last (os ++ o ∷ [])
AreInOrder-push last [] o order follows = (follows, tt)
AreInOrder-push last (x ∷ os) o order follows = (order.0, AreInOrder-push x.0 os o order.1 follows)

-- the spelling of one more option comes after that of the others
pub options_spelling-push : (last : ℕ) (os : List CoapOption) (o : CoapOption) (rest : List ℕ) →
    options_spelling last (os ++ o ∷ []) ++ rest ≡ options_spelling last os ++ (option_spelling (last_number last os) o ++ rest)
options_spelling-push last [] o rest = ap (λ (xs : List ℕ). xs ++ rest) (append-nil (option_spelling last o))
options_spelling-push last (x ∷ os) o rest =
    append_assoc (option_spelling last x) (options_spelling x.0 (os ++ o ∷ [])) rest
    ∙ ap (λ (xs : List ℕ). option_spelling last x ++ xs) (options_spelling-push x.0 os o rest)
    ∙ sym (append_assoc (option_spelling last x) (options_spelling x.0 os) (option_spelling (last_number x.0 os) o ++ rest))

-- the last number of a list is that of its last option
pub last_number-push : (last : ℕ) (os : List CoapOption) (o : CoapOption) →
    last_number last (os ++ o ∷ []) ≡ o.0
last_number-push last [] o = refl
last_number-push last (x ∷ os) o = last_number-push x.0 os o

-- the bytes that were written, with one more option
pub record IsPushed (os : List CoapOption) (o : CoapOption) (new : List ℕ) : Type 0 where
  pub list : options_of new ≡ os ++ o ∷ []
  pub written : AreWritten o.0 new
  pub bytes_are : new ≡ options_spelling 0 (os ++ o ∷ [])

-- an option that is spelled after written options is pushed
pub pushed : (old new : List ℕ) (last : ℕ) (o : CoapOption) → AreWritten last old → MayFollow last o →
    new ≡ old ++ option_spelling last o → IsPushed (options_of old) o new
pushed old new last o written follows new_is =
    let os = options_of old in
    let order : AreInOrder 0 (os ++ o ∷ []) = AreInOrder-push 0 os o written.order (rw written.last_is follows) in
    let bytes : new ≡ options_spelling 0 (os ++ o ∷ []) =
    new_is
    ∙ ap (λ (xs : List ℕ). xs ++ option_spelling last o) written.spelled
    ∙ ap (λ (n : ℕ). options_spelling 0 os ++ option_spelling n o) (sym written.last_is)
    ∙ ap (λ (xs : List ℕ). options_spelling 0 os ++ xs) (sym (append-nil (option_spelling (last_number 0 os) o)))
    ∙ sym (options_spelling-push 0 os o [])
    ∙ append-nil (options_spelling 0 (os ++ o ∷ [])) in
    let list : options_of new ≡ os ++ o ∷ [] = ap options_of bytes
    ∙ options_of-spelling (os ++ o ∷ []) order in
    record {
      list = list;
      written = record {
        order = rw list order;
        spelled = bytes ∙ ap (λ (xs : List CoapOption). options_spelling 0 xs) (sym list);
        last_is = ap (λ (xs : List CoapOption). last_number 0 xs) list ∙ last_number-push 0 os o;
      };
      bytes_are = bytes;
    }

-- no option begins here
abbrev pub BeginsNoOption : List ℕ → Type 0
BeginsNoOption [] = Unit {0}
BeginsNoOption (b ∷ bytes) = 255 ≤ b

-- no option begins at a payload
pub payload_begins_no_option : (payload : List ℕ) → BeginsNoOption (payload_spelling payload)
payload_begins_no_option [] = tt
payload_begins_no_option (b ∷ bytes) = omega arith

-- an option begins where it is spelled
pub option_begins_here : (last : ℕ) (o : CoapOption) (tail : List ℕ) →
    BeginsNoOption (option_spelling last o ++ tail) → ⊥
option_begins_here last o tail none =
    let begins = option_begins last o in
    let marker : 255 ≤ begins.0 = rw begins.2 at none in
    omega (arith, begins.3)

-- bytes begin with one option at most
pub same_option : (last : ℕ) (o p : CoapOption) (x y : List ℕ) → MayFollow last o → MayFollow last p →
    option_spelling last o ++ x ≡ option_spelling last p ++ y → ◌≡◌ {A = CoapOption × List ℕ} (o, x) (p, y)
same_option last o p x y of_o of_p same =
    let read : some_read (o, x) ≡ some_read (p, y) =
    sym (option_at-spelling last o x of_o)
    ∙ ap (λ (zs : List ℕ). option_at last zs) same
    ∙ option_at-spelling last p y of_p in
    same_Some (o, x) (p, y) read

-- bytes begin with one list of options at most, where none begins after them
same_options : (last : ℕ) (os ps : List CoapOption) (x y : List ℕ) → AreInOrder last os → AreInOrder last ps →
    BeginsNoOption x → BeginsNoOption y → options_spelling last os ++ x ≡ options_spelling last ps ++ y →
    (os ≡ ps) × (x ≡ y)
same_options last [] [] x y a b ends_x ends_y same = (refl, same)
same_options last [] (p ∷ ps) x y a b ends_x ends_y same =
    absurd (option_begins_here last p (options_spelling p.0 ps ++ y)
    (subst BeginsNoOption (same ∙ append_assoc (option_spelling last p) (options_spelling p.0 ps) y) ends_x))
same_options last (o ∷ os) [] x y a b ends_x ends_y same =
    absurd (option_begins_here last o (options_spelling o.0 os ++ x)
    (subst BeginsNoOption (sym same ∙ append_assoc (option_spelling last o) (options_spelling o.0 os) x) ends_y))
same_options last (o ∷ os) (p ∷ ps) x y a b ends_x ends_y same =
    let first = same_option last o p (options_spelling o.0 os ++ x) (options_spelling p.0 ps ++ y) a.0 b.0
    (sym (append_assoc (option_spelling last o) (options_spelling o.0 os) x) ∙ same ∙ append_assoc (option_spelling last p) (options_spelling p.0 ps) y) in
    let option : o ≡ p = ap (λ (r : CoapOption × List ℕ). r.0) first in
    let number : p.0 ≡ o.0 = ap (λ (q : CoapOption). q.0) (sym option) in
    let order : AreInOrder o.0 ps = subst (λ (n : ℕ). AreInOrder n ps) number b.1 in
    let others_are : options_spelling o.0 os ++ x ≡ options_spelling o.0 ps ++ y =
    subst (λ (n : ℕ). options_spelling o.0 os ++ x ≡ options_spelling n ps ++ y) number (ap (λ (r : CoapOption × List ℕ). r.1) first) in
    let others = same_options o.0 os ps x y a.1 order ends_x ends_y others_are in
    (ap (λ (q : CoapOption). q ∷ os) option ∙ ap (λ (qs : List CoapOption). p ∷ qs) others.0, others.1)

-- payloads are recognised by their spelling
same_payload : (p q : List ℕ) → payload_spelling p ≡ payload_spelling q → p ≡ q
same_payload [] [] same = refl
same_payload [] (b ∷ bytes) same = absurd cc
same_payload (a ∷ bytes) [] same = absurd cc
same_payload (a ∷ p) (b ∷ q) same = cc

-- the bytes after a token are options and a payload in one way at most
pub one_body : (os ps : List CoapOption) (p q body : List ℕ) → SpellsBody os p body → SpellsBody ps q body →
    (os ≡ ps) × (p ≡ q)
one_body os ps p q body a b =
    let same = same_options 0 os ps (payload_spelling p) (payload_spelling q) a.order b.order
    (payload_begins_no_option p) (payload_begins_no_option q) (sym a.body_is ∙ b.body_is) in
    (same.0, same_payload p q same.1)
