-- The text that is written is a link text of what was written.
use Rattle.std.proofs.Common.{arith, ◌≡◌, ◌≢◌, refl, sym, ap, ◌∙◌, ℕ, List, [], ◌∷◌, ◌++◌, length, Bool, true, false, ◌&&◌, append_assoc, subst}
use Rattle.std.specs.Prelude.{Option, Some, None, Result, Ok, Err, not, nat_le}
use Rattle.std.specs.List.{list_all, flat_map}
use Rattle.std.specs.Char.{is_ascii_digit}
use Rattle.std.proofs.lemmas.List.{append-nil}
use Rattle.core_links.specs.Links.{is_target_byte, is_name_byte, is_token_byte, is_escaped, is_quoted_byte, IsWord, IsQuoted, nothing_quoted, plain, escaped, IsParam, name_alone, with_token, with_quoted, IsLink, target_alone, with_param, AreLinks, one_link, with_link, IsLinkText, no_links, some_links, ReadsLinks, read, at, no_memory}
use Rattle.core_links.specs.Writing.{quoted_byte, are_digits, value_text, set_text, param_text, link_text, further_text, links_text, is_value, is_param, is_link, CanBeWritten}
use Rattle.core_links.specs.declared.links.Param.{Param}
use Rattle.core_links.specs.declared.links.Link.{Link}
use Rattle.core_links.specs.declared.reading.LinkFault.{LinkFault}
use Rattle.core_links.specs.declared.reading.LinkFault.TheVariants as fault
use Rattle.core_links.proofs.Runs.{both_true, by_test}
use Rattle.core_links.proofs.Stands.{same_links}
use Rattle.core_links.proofs.Values.{digits_as_they_are, others_in_quotes}

-- ---- values

digit_is_token : (b : ℕ) → is_ascii_digit b ≡ true → is_token_byte b ≡ true
digit_is_token b e = grind arith

digits_are_token : (v : List ℕ) → list_all is_ascii_digit v ≡ true → list_all is_token_byte v ≡ true
digits_are_token [] e = refl
digits_are_token (b ∷ v) e =
    let both = both_true (is_ascii_digit b) (list_all is_ascii_digit v) e in
    and_true (is_token_byte b) (list_all is_token_byte v) (digit_is_token b both.0) (digits_are_token v both.1)
  where
    and_true : (b c : Bool) → b ≡ true → c ≡ true → (b && c) ≡ true
    and_true true true e f = refl
    and_true true false e f = absurd cc
    and_true false c e f = absurd cc

word_of : (p : ℕ → Bool) (n : List ℕ) → nat_le 1 (length n) ≡ true → list_all p n ≡ true → IsWord p n
word_of p [] some all = absurd cc
word_of p (b ∷ n) some all = record { all = all; some = omega arith }

plain_of : (b : ℕ) → nat_le 32 b ≡ true → is_escaped b ≡ false → is_quoted_byte b ≡ true
plain_of b big is = both_so (nat_le 32 b) (is_escaped b) big is
  where
    both_so : (c d : Bool) → c ≡ true → d ≡ false → (c && not d) ≡ true
    both_so true false e f = refl
    both_so true true e f = absurd cc
    both_so false d e f = absurd cc

quoted_more : (x w v : List ℕ) → IsQuoted x w → list_all (λ b. nat_le 32 b) v ≡ true → IsQuoted (x ++ flat_map quoted_byte v) (w ++ v)
quoted_more x w [] is all = subst (λ (y : List ℕ). IsQuoted y (w ++ [])) (sym (append-nil x)) (subst (λ (y : List ℕ). IsQuoted x y) (sym (append-nil w)) is)
quoted_more x w (b ∷ v) is all =
    let both = both_true (nat_le 32 b) (list_all (λ c. nat_le 32 c) v) all in
    let one : IsQuoted (x ++ quoted_byte b) (w ++ b ∷ []) =
    by_test (is_escaped b) (92 ∷ b ∷ []) (b ∷ []) (λ (q : List ℕ). IsQuoted (x ++ q) (w ++ b ∷ []))
    (λ e. escaped x w b is e) (λ e. plain x w b is (plain_of b both.0 e)) in
    let more = quoted_more (x ++ quoted_byte b) (w ++ b ∷ []) v one both.1 in
    subst (λ (y : List ℕ). IsQuoted y (w ++ b ∷ v)) (append_assoc x (quoted_byte b) (flat_map quoted_byte v))
    (subst (λ (y : List ℕ). IsQuoted ((x ++ quoted_byte b) ++ flat_map quoted_byte v) y) (append_assoc w (b ∷ []) v) more)

value_read : (n v : List ℕ) → IsWord is_name_byte n → list_all (λ b. nat_le 32 b) v ≡ true → (d : Bool) → are_digits v ≡ d → IsParam (n ++ 61 ∷ value_text v) (record { name = n; value = Some v })
value_read n v word all true e =
    let both = both_true (nat_le 1 (length v)) (list_all is_ascii_digit v) e in
    subst (λ (y : List ℕ). IsParam (n ++ 61 ∷ y) (record { name = n; value = Some v })) (sym (digits_as_they_are v e))
    (with_token n v word (word_of is_token_byte v both.0 (digits_are_token v both.1)))
value_read n v word all false e =
    subst (λ (y : List ℕ). IsParam (n ++ 61 ∷ y) (record { name = n; value = Some v })) (sym (others_in_quotes v e))
    (with_quoted n (flat_map quoted_byte v) v word (quoted_more [] [] v nothing_quoted all))

-- ---- parameters and links

param_is : (n : List ℕ) (v : Option (List ℕ)) → IsWord is_name_byte n → is_value v ≡ true → IsParam (n ++ set_text v) (record { name = n; value = v })
param_is n None word e = subst (λ (y : List ℕ). IsParam y (record { name = n; value = None })) (sym (append-nil n)) (name_alone n word)
param_is n (Some v) word e = value_read n v word e (are_digits v) refl

params_more : (before t : List ℕ) (ps qs : List Param) → IsLink before (record { target = t; params = ps }) → list_all is_param qs ≡ true → IsLink (before ++ flat_map param_text qs) (record { target = t; params = ps ++ qs })
params_more before t ps [] is all =
    subst (λ (y : List ℕ). IsLink y (record { target = t; params = ps ++ [] })) (sym (append-nil before))
    (subst (λ (y : List Param). IsLink before (record { target = t; params = y })) (sym (append-nil ps)) is)
params_more before t ps (q ∷ qs) is all =
    let both = both_true (is_param q) (list_all is_param qs) all in
    let parts = both_true _ (is_value q.value) both.0 in
    let name = both_true (nat_le 1 (length q.name)) (list_all is_name_byte q.name) parts.0 in
    let one : IsLink (before ++ param_text q) (record { target = t; params = ps ++ q ∷ [] }) =
    with_param before [] [] (q.name ++ set_text q.value) t ps q is refl refl (param_is q.name q.value (word_of is_name_byte q.name name.0 name.1) parts.1) in
    let more = params_more (before ++ param_text q) t (ps ++ q ∷ []) qs one both.1 in
    subst (λ (y : List ℕ). IsLink y (record { target = t; params = ps ++ q ∷ qs })) (append_assoc before (param_text q) (flat_map param_text qs))
    (subst (λ (y : List Param). IsLink ((before ++ param_text q) ++ flat_map param_text qs) (record { target = t; params = y })) (append_assoc ps (q ∷ []) qs) more)

link_is : (l : Link) → is_link l ≡ true → IsLink (link_text l) l
link_is l e =
    let both = both_true (list_all is_target_byte l.target) (list_all is_param l.params) e in
    subst (λ (y : List ℕ). IsLink (60 ∷ y) l) (append_assoc l.target (62 ∷ []) (flat_map param_text l.params))
    (params_more (60 ∷ (l.target ++ 62 ∷ [])) l.target [] l.params (target_alone l.target both.0) both.1)

links_more : (before : List ℕ) (ls ms : List Link) → AreLinks before ls → list_all is_link ms ≡ true → AreLinks (before ++ flat_map further_text ms) (ls ++ ms)
links_more before ls [] are all =
    subst (λ (y : List ℕ). AreLinks y (ls ++ [])) (sym (append-nil before)) (subst (λ (y : List Link). AreLinks before y) (sym (append-nil ls)) are)
links_more before ls (m ∷ ms) are all =
    let both = both_true (is_link m) (list_all is_link ms) all in
    let one : AreLinks (before ++ further_text m) (ls ++ m ∷ []) = with_link before [] [] (link_text m) ls m are refl refl (link_is m both.0) in
    let more = links_more (before ++ further_text m) (ls ++ m ∷ []) ms one both.1 in
    subst (λ (y : List ℕ). AreLinks y (ls ++ m ∷ ms)) (append_assoc before (further_text m) (flat_map further_text ms))
    (subst (λ (y : List Link). AreLinks ((before ++ further_text m) ++ flat_map further_text ms) y) (append_assoc ls (m ∷ []) ms) more)

pub text_is : (links : List Link) → CanBeWritten links → IsLinkText (links_text links) links
text_is [] can = no_links
text_is (l ∷ ls) can =
    let both = both_true (is_link l) (list_all is_link ls) can in
    some_links _ _ (links_more (link_text l) (l ∷ []) ls (one_link (link_text l) l (link_is l both.0)) both.1)

pub read_back : (links : List Link) (r : Result (List Link) LinkFault) → CanBeWritten links → ReadsLinks (links_text links) r → r ≢ Err fault.NoMemory → r ≡ Ok links
read_back links r can (read others is text) enough = is ∙ ap (λ (ls : List Link). Ok ls) (same_links (links_text links) others links text (text_is links can))
read_back links r can (at n is none longest) enough = absurd (none links (text_is links can))
read_back links r can (no_memory is) enough = absurd (enough is)
