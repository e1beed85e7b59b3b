-- The text that a reader of a link text has read, by its place.
use Rattle.std.proofs.Common.{arith, ◌≡◌, refl, sym, ap, ◌∙◌, ℕ, ◌≤◌, ◌==◌, List, [], ◌∷◌, ◌++◌, length, Bool, true, false, ◌&&◌, append_assoc, subst}
use Rattle.std.specs.Prelude.{Option, Some, None, option_map}
use Rattle.std.specs.List.{list_all}
use Rattle.std.proofs.lemmas.List.{append-nil}
use Rattle.std.proofs.lemmas.Bool.{eqb-true}
use Rattle.core_links.specs.Links.{is_target_byte, is_name_byte, is_token_byte, is_escaped, is_quoted_byte, AreSpaces, IsWord, IsQuoted, nothing_quoted, plain, escaped, IsParam, name_alone, with_token, with_quoted, joined, IsLink, target_alone, with_param, AreLinks, one_link, with_link, IsLinkText, no_links, some_links, BeginsLinkText}
use Rattle.core_links.specs.Steps.{run, step, step_at, step_after, stepped, goes, param_ended, with_param_ended, link_ended, may_end, links_at, new_reader}
use Rattle.core_links.specs.declared.links.Param.{Param}
use Rattle.core_links.specs.declared.links.Link.{Link}
use Rattle.core_links.specs.declared.reader.Reader.{Reader}
use Rattle.core_links.specs.declared.steps.ReaderPlace.{ReaderPlace}
use Rattle.core_links.specs.declared.steps.ReaderPlace.TheVariants as place
use Rattle.core_links.specs.declared.steps.ByteUse.TheVariants as act
use Rattle.core_links.specs.declared.steps.Step.{Step}
use Rattle.core_links.proofs.Runs.{run_none, by_test}
use Rattle.core_links.proofs.Stands.{reader, ended_at}

-- ---- parts of a text

-- the text before a link: nothing, or links, `,` and spaces
pub data Front : List ℕ → List Link → Type 0 where
  front_start : Front [] []
  front_links : (before a b : List ℕ) (ls : List Link) → AreLinks before ls → AreSpaces a → AreSpaces b → Front (before ++ (a ++ (44 ∷ b))) ls

-- the text ends with a link of this target and these parameters, after these links
pub record LinkAt (text : List ℕ) (ls : List Link) (t : List ℕ) (ps : List Param) : Type 0 where
  pub front : List ℕ
  pub link : List ℕ
  pub is_front : Front front ls
  pub is_link : IsLink link (record { target = t; params = ps })
  pub text_is : text ≡ front ++ link

-- the text ends with such a link, `;` and spaces around it
pub record ParamAt (text : List ℕ) (ls : List Link) (t : List ℕ) (ps : List Param) : Type 0 where
  pub front : List ℕ
  pub link : List ℕ
  pub a : List ℕ
  pub b : List ℕ
  pub is_front : Front front ls
  pub is_link : IsLink link (record { target = t; params = ps })
  pub a_spaces : AreSpaces a
  pub b_spaces : AreSpaces b
  pub text_is : text ≡ front ++ (link ++ (a ++ (59 ∷ b)))

-- the text ends with such a link and spaces, and the reader keeps that link
pub record OpenAt (r : Reader) (text : List ℕ) : Type 0 where
  pub before : List ℕ
  pub a : List ℕ
  pub ls : List Link
  pub t : List ℕ
  pub ps : List Param
  pub link_at : LinkAt before ls t ps
  pub a_spaces : AreSpaces a
  pub text_is : text ≡ before ++ a
  pub kept : with_param_ended r ≡ reader r.place ls t ps [] None

joined_is : (before a : List ℕ) (x : ℕ) (b u : List ℕ) → (before ++ (a ++ (x ∷ b))) ++ u ≡ joined before a x b u
joined_is before a x b u = append_assoc before (a ++ (x ∷ b)) u ∙ ap (λ (y : List ℕ). before ++ y) (append_assoc a (x ∷ b) u)

links_with : (front text : List ℕ) (ls : List Link) (link : Link) → Front front ls → IsLink text link → AreLinks (front ++ text) (ls ++ link ∷ [])
links_with _ text _ link front_start is_link = one_link text link is_link
links_with _ text _ link (front_links before a b ls are a_spaces b_spaces) is_link =
    subst (λ (y : List ℕ). AreLinks y (ls ++ link ∷ [])) (sym (joined_is before a 44 b text)) (with_link before a b text ls link are a_spaces b_spaces is_link)

links_at_end : (text : List ℕ) (ls : List Link) (t : List ℕ) (ps : List Param) → LinkAt text ls t ps → AreLinks text (ls ++ (record { target = t; params = ps }) ∷ [])
links_at_end text ls t ps at =
    subst (λ (y : List ℕ). AreLinks y (ls ++ (record { target = t; params = ps }) ∷ [])) (sym at.text_is) (links_with at.front at.link ls _ at.is_front at.is_link)

-- a parameter more
param_more : (text x ts : List ℕ) (ls : List Link) (t : List ℕ) (ps : List Param) (p : Param) → ParamAt text ls t ps → IsParam x p → ts ≡ text ++ x → LinkAt ts ls t (ps ++ p ∷ [])
param_more text x ts ls t ps p at is ts_is = record {
  front = at.front;
  link = joined at.link at.a 59 at.b x;
  is_front = at.is_front;
  is_link = with_param at.link at.a at.b x t ps p at.is_link at.a_spaces at.b_spaces is;
  text_is = ts_is ∙ ap (λ (y : List ℕ). y ++ x) at.text_is ∙ append_assoc at.front (at.link ++ (at.a ++ (59 ∷ at.b))) x ∙ ap (λ (y : List ℕ). at.front ++ y) (joined_is at.link at.a 59 at.b x);
}

-- `;` after a link
semicolon_at : (r : Reader) (text : List ℕ) (at : OpenAt r text) → ParamAt (text ++ 59 ∷ []) at.ls at.t at.ps
semicolon_at r text at = record {
  front = at.link_at.front;
  link = at.link_at.link;
  a = at.a;
  b = [];
  is_front = at.link_at.is_front;
  is_link = at.link_at.is_link;
  a_spaces = at.a_spaces;
  b_spaces = refl;
  text_is = ap (λ (y : List ℕ). y ++ 59 ∷ []) (at.text_is ∙ ap (λ (y : List ℕ). y ++ at.a) at.link_at.text_is ∙ append_assoc at.link_at.front at.link_at.link at.a)
      ∙ append_assoc at.link_at.front (at.link_at.link ++ at.a) (59 ∷ []) ∙ ap (λ (y : List ℕ). at.link_at.front ++ y) (append_assoc at.link_at.link at.a (59 ∷ []));
}

-- ---- what was read

pub data Means : Reader → List ℕ → Type 0 where
  m_start : Means new_reader []
  m_before_link : (before a b : List ℕ) (ls : List Link) → AreLinks before ls → AreSpaces a → AreSpaces b → Means (reader place.BeforeLink ls [] [] [] None) (before ++ (a ++ (44 ∷ b)))
  m_target : (front x : List ℕ) (ls : List Link) → Front front ls → list_all is_target_byte x ≡ true → Means (reader place.Target ls x [] [] None) (front ++ (60 ∷ x))
  m_after : (text : List ℕ) (l ls : List Link) (u t : List ℕ) (qs ps : List Param) (n : List ℕ) (v : Option (List ℕ)) → LinkAt text ls t ps
      → param_ended n (reader place.After l u qs n v) ≡ reader place.After ls t ps [] None → Means (reader place.After l u qs n v) text
  m_spaces : (text : List ℕ) (l : List Link) (u : List ℕ) (qs : List Param) (n : List ℕ) (v : Option (List ℕ)) → OpenAt (reader place.Spaces l u qs n v) text → Means (reader place.Spaces l u qs n v) text
  m_before_name : (text : List ℕ) (ls : List Link) (t : List ℕ) (ps : List Param) → ParamAt text ls t ps → Means (reader place.BeforeName ls t ps [] None) text
  m_name : (text : List ℕ) (ls : List Link) (t : List ℕ) (ps : List Param) (n : List ℕ) → ParamAt text ls t ps → IsWord is_name_byte n → Means (reader place.Name ls t ps n None) (text ++ n)
  m_before_value : (text : List ℕ) (ls : List Link) (t : List ℕ) (ps : List Param) (n : List ℕ) → ParamAt text ls t ps → IsWord is_name_byte n → Means (reader place.BeforeValue ls t ps n (Some [])) (text ++ (n ++ 61 ∷ []))
  m_token : (text : List ℕ) (ls : List Link) (t : List ℕ) (ps : List Param) (n v : List ℕ) → ParamAt text ls t ps → IsWord is_name_byte n → IsWord is_token_byte v → Means (reader place.Token ls t ps n (Some v)) (text ++ (n ++ 61 ∷ v))
  m_quoted : (text : List ℕ) (ls : List Link) (t : List ℕ) (ps : List Param) (n x v : List ℕ) → ParamAt text ls t ps → IsWord is_name_byte n → IsQuoted x v → Means (reader place.Quoted ls t ps n (Some v)) (text ++ (n ++ 61 ∷ 34 ∷ x))
  m_escape : (text : List ℕ) (ls : List Link) (t : List ℕ) (ps : List Param) (n x v : List ℕ) → ParamAt text ls t ps → IsWord is_name_byte n → IsQuoted x v → Means (reader place.Escape ls t ps n (Some v)) (text ++ (n ++ 61 ∷ 34 ∷ (x ++ 92 ∷ [])))

-- the reader after a step means the text with the byte at its end
abbrev pub Keeps : Reader → List ℕ → ℕ → Option Step → Type 0
Keeps r text b None = Unit {0}
Keeps r text b (Some s) = Means (stepped b r s) (text ++ b ∷ [])

-- ---- lists and texts that grow at their end

all_more : (p : ℕ → Bool) (xs : List ℕ) (x : ℕ) → list_all p xs ≡ true → p x ≡ true → list_all p (xs ++ x ∷ []) ≡ true
all_more p [] x all is = both_are (p x) true is refl
  where
    both_are : (b c : Bool) → b ≡ true → c ≡ true → (b && c) ≡ true
    both_are true true e f = refl
    both_are false c e f = absurd cc
    both_are true false e f = absurd cc
all_more p (y ∷ xs) x all is = step_all (p y) (list_all p xs) (list_all p (xs ++ x ∷ [])) all (λ h. all_more p xs x h is)
  where
    step_all : (b c d : Bool) → (b && c) ≡ true → (c ≡ true → d ≡ true) → (b && d) ≡ true
    step_all true true d e f = f refl
    step_all true false d e f = absurd cc
    step_all false c d e f = absurd cc

word_more : (p : ℕ → Bool) (n : List ℕ) (b : ℕ) → IsWord p n → p b ≡ true → IsWord p (n ++ b ∷ [])
word_more p n b word is = record { all = all_more p n b word.all is; some = some_more n }
  where
    some_more : (n : List ℕ) → 1 ≤ length (n ++ b ∷ [])
    some_more [] = omega arith
    some_more (x ∷ xs) = omega arith

word_one : (p : ℕ → Bool) (b : ℕ) → p b ≡ true → IsWord p (b ∷ [])
word_one p b is = record { all = all_more p [] b refl is; some = omega arith }

-- a byte at the end of the second or third of some texts
end_2 : (t n : List ℕ) (b : ℕ) → (t ++ n) ++ b ∷ [] ≡ t ++ (n ++ b ∷ [])
end_2 t n b = append_assoc t n (b ∷ [])

end_3 : (t n x : List ℕ) (b : ℕ) → (t ++ (n ++ x)) ++ b ∷ [] ≡ t ++ (n ++ (x ++ b ∷ []))
end_3 t n x b = append_assoc t (n ++ x) (b ∷ []) ∙ ap (λ (y : List ℕ). t ++ y) (append_assoc n x (b ∷ []))

-- the same reader, and the text in another form
reads_same : (r : Reader) (s t : List ℕ) → s ≡ t → Means r t → Means r s
reads_same r s t e m = subst (λ (y : List ℕ). Means r y) (sym e) m

-- ---- steps

after_open : (r : Reader) (text : List ℕ) (b : ℕ) → OpenAt r text → Keeps r text b (step_after b)
after_open r text b at =
    by_test (b == 32) (goes place.Spaces act.Skip) _ (Keeps r text b)
    (λ e. m_spaces (text ++ b ∷ []) r.links r.target r.params r.name r.value (record {
      before = at.before;
      a = at.a ++ b ∷ [];
      ls = at.ls;
      t = at.t;
      ps = at.ps;
      link_at = at.link_at;
      a_spaces = all_more (λ c. c == 32) at.a b at.a_spaces e;
      text_is = ap (λ (y : List ℕ). y ++ b ∷ []) at.text_is ∙ append_assoc at.before at.a (b ∷ []);
      kept = ended_at at.ls at.t at.ps r place.Spaces at.kept;
    }))
    (λ _. by_test (b == 59) (goes place.BeforeName act.EndParam) _ (Keeps r text b)
    (λ e. subst (λ (s : Reader). Means s (text ++ b ∷ [])) (sym (ended_at at.ls at.t at.ps r place.BeforeName at.kept))
    (subst (λ (c : ℕ). Means (reader place.BeforeName at.ls at.t at.ps [] None) (text ++ c ∷ [])) (sym (eqb-true b 59 e))
    (m_before_name (text ++ 59 ∷ []) at.ls at.t at.ps (semicolon_at r text at))))
    (λ _. by_test (b == 44) (goes place.BeforeLink act.EndLink) None (Keeps r text b)
    (λ e. subst (λ (s : Reader). Means (link_ended s) (text ++ b ∷ [])) (sym (ended_at at.ls at.t at.ps r place.BeforeLink at.kept))
    (reads_same _ (text ++ b ∷ []) (at.before ++ (at.a ++ (44 ∷ [])))
    (ap (λ (c : ℕ). text ++ c ∷ []) (eqb-true b 44 e) ∙ ap (λ (y : List ℕ). y ++ 44 ∷ []) at.text_is ∙ append_assoc at.before at.a (44 ∷ []))
    (m_before_link at.before at.a [] _ (links_at_end at.before at.ls at.t at.ps at.link_at) at.a_spaces refl)))
    (λ _. tt)))

-- the reader of a link at its end, as one that may be followed by spaces
open_of : (r : Reader) (text : List ℕ) (ls : List Link) (t : List ℕ) (ps : List Param) → LinkAt text ls t ps → with_param_ended r ≡ reader r.place ls t ps [] None → OpenAt r text
open_of r text ls t ps at kept = record { before = text; a = []; ls = ls; t = t; ps = ps; link_at = at; a_spaces = refl; text_is = sym (append-nil text); kept = kept }

ended_param : (ls : List Link) (t : List ℕ) (ps : List Param) (n : List ℕ) (v : Option (List ℕ)) (p : ReaderPlace) → 1 ≤ length n → param_ended n (reader p ls t ps n v) ≡ reader p ls t (ps ++ (record { name = n; value = v }) ∷ []) [] None
ended_param ls t ps [] v p some = absurd (omega (arith, some))
ended_param ls t ps (b ∷ bs) v p some = refl

name_closed : (text : List ℕ) (ls : List Link) (t : List ℕ) (ps : List Param) (n : List ℕ) → ParamAt text ls t ps → IsWord is_name_byte n → LinkAt (text ++ n) ls t (ps ++ (record { name = n; value = None }) ∷ [])
name_closed text ls t ps n at word = param_more text n (text ++ n) ls t ps _ at (name_alone n word) refl

token_closed : (text : List ℕ) (ls : List Link) (t : List ℕ) (ps : List Param) (n v : List ℕ) → ParamAt text ls t ps → IsWord is_name_byte n → IsWord is_token_byte v → LinkAt (text ++ (n ++ 61 ∷ v)) ls t (ps ++ (record { name = n; value = Some v }) ∷ [])
token_closed text ls t ps n v at word value = param_more text (n ++ 61 ∷ v) _ ls t ps _ at (with_token n v word value) refl

quoted_closed : (text : List ℕ) (ls : List Link) (t : List ℕ) (ps : List Param) (n x v : List ℕ) (b : ℕ) → ParamAt text ls t ps → IsWord is_name_byte n → IsQuoted x v → b ≡ 34 → LinkAt ((text ++ (n ++ 61 ∷ 34 ∷ x)) ++ b ∷ []) ls t (ps ++ (record { name = n; value = Some v }) ∷ [])
quoted_closed text ls t ps n x v b at word value is = param_more text (n ++ 61 ∷ 34 ∷ (x ++ 34 ∷ [])) _ ls t ps _ at (with_quoted n x v word value)
    (ap (λ (c : ℕ). (text ++ (n ++ 61 ∷ 34 ∷ x)) ++ c ∷ []) is ∙ end_3 text n (61 ∷ 34 ∷ x) 34)

pub means_step : (r : Reader) (text : List ℕ) (b : ℕ) → Means r text → Keeps r text b (step_at r.place b)
means_step _ _ b m_start =
    by_test (b == 60) (goes place.Target act.Skip) None (Keeps new_reader [] b)
    (λ e. reads_same _ (b ∷ []) (60 ∷ []) (ap (λ (c : ℕ). c ∷ []) (eqb-true b 60 e)) (m_target [] [] [] front_start refl))
    (λ _. tt)
means_step _ _ b (m_before_link before a s ls are a_spaces s_spaces) =
    let text = before ++ (a ++ (44 ∷ s)) in
    let r = reader place.BeforeLink ls [] [] [] None in
    by_test (b == 32) (goes place.BeforeLink act.Skip) _ (Keeps r text b)
    (λ e. reads_same r (text ++ b ∷ []) (before ++ (a ++ (44 ∷ (s ++ b ∷ [])))) (end_3 before a (44 ∷ s) b)
    (m_before_link before a (s ++ b ∷ []) ls are a_spaces (all_more (λ c. c == 32) s b s_spaces e)))
    (λ _. by_test (b == 60) (goes place.Target act.Skip) None (Keeps r text b)
    (λ e. reads_same _ (text ++ b ∷ []) (text ++ 60 ∷ []) (ap (λ (c : ℕ). text ++ c ∷ []) (eqb-true b 60 e)) (m_target text [] ls (front_links before a s ls are a_spaces s_spaces) refl))
    (λ _. tt))
means_step _ _ b (m_target front x ls is_front all) =
    let text = front ++ (60 ∷ x) in
    let r = reader place.Target ls x [] [] None in
    by_test (is_target_byte b) (goes place.Target act.Target) _ (Keeps r text b)
    (λ e. reads_same _ (text ++ b ∷ []) (front ++ (60 ∷ (x ++ b ∷ []))) (end_2 front (60 ∷ x) b) (m_target front (x ++ b ∷ []) ls is_front (all_more is_target_byte x b all e)))
    (λ _. by_test (b == 62) (goes place.After act.Skip) None (Keeps r text b)
    (λ e. m_after (text ++ b ∷ []) ls ls x x [] [] [] None
    (record {
      front = front;
      link = 60 ∷ (x ++ 62 ∷ []);
      is_front = is_front;
      is_link = target_alone x all;
      text_is = ap (λ (c : ℕ). text ++ c ∷ []) (eqb-true b 62 e) ∙ end_2 front (60 ∷ x) 62;
    }) refl)
    (λ _. tt))
means_step _ _ b (m_after text l ls u t qs ps n v at kept) = after_open (reader place.After l u qs n v) text b (open_of (reader place.After l u qs n v) text ls t ps at kept)
means_step _ _ b (m_spaces text l u qs n v at) = after_open (reader place.Spaces l u qs n v) text b at
means_step _ _ b (m_before_name text ls t ps at) =
    let r = reader place.BeforeName ls t ps [] None in
    by_test (is_name_byte b) (goes place.Name act.Name) _ (Keeps r text b)
    (λ e. m_name text ls t ps (b ∷ []) at (word_one is_name_byte b e))
    (λ _. by_test (b == 32) (goes place.BeforeName act.Skip) None (Keeps r text b)
    (λ e. m_before_name (text ++ b ∷ []) ls t ps (record {
      front = at.front;
      link = at.link;
      a = at.a;
      b = at.b ++ b ∷ [];
      is_front = at.is_front;
      is_link = at.is_link;
      a_spaces = at.a_spaces;
      b_spaces = all_more (λ c. c == 32) at.b b at.b_spaces e;
      text_is = ap (λ (y : List ℕ). y ++ b ∷ []) at.text_is ∙ append_assoc at.front (at.link ++ (at.a ++ (59 ∷ at.b))) (b ∷ []) ∙ ap (λ (y : List ℕ). at.front ++ y) (end_3 at.link at.a (59 ∷ at.b) b);
    }))
    (λ _. tt))
means_step _ _ b (m_name text ls t ps n at word) =
    let r = reader place.Name ls t ps n None in
    by_test (is_name_byte b) (goes place.Name act.Name) _ (Keeps r (text ++ n) b)
    (λ e. reads_same _ ((text ++ n) ++ b ∷ []) (text ++ (n ++ b ∷ [])) (end_2 text n b) (m_name text ls t ps (n ++ b ∷ []) at (word_more is_name_byte n b word e)))
    (λ _. by_test (b == 61) (goes place.BeforeValue act.BeginValue) _ (Keeps r (text ++ n) b)
    (λ e. reads_same _ ((text ++ n) ++ b ∷ []) (text ++ (n ++ 61 ∷ [])) (ap (λ (c : ℕ). (text ++ n) ++ c ∷ []) (eqb-true b 61 e) ∙ end_2 text n 61) (m_before_value text ls t ps n at word))
    (λ _. after_open r (text ++ n) b (open_of r (text ++ n) ls t _ (name_closed text ls t ps n at word) (ended_param ls t ps n None place.Name word.some))))
means_step _ _ b (m_before_value text ls t ps n at word) =
    let r = reader place.BeforeValue ls t ps n (Some []) in
    let read = text ++ (n ++ 61 ∷ []) in
    by_test (is_token_byte b) (goes place.Token act.Value) _ (Keeps r read b)
    (λ e. reads_same _ (read ++ b ∷ []) (text ++ (n ++ 61 ∷ b ∷ [])) (end_3 text n (61 ∷ []) b) (m_token text ls t ps n (b ∷ []) at word (word_one is_token_byte b e)))
    (λ _. by_test (b == 34) (goes place.Quoted act.Skip) None (Keeps r read b)
    (λ e. reads_same _ (read ++ b ∷ []) (text ++ (n ++ 61 ∷ 34 ∷ [])) (ap (λ (c : ℕ). read ++ c ∷ []) (eqb-true b 34 e) ∙ end_3 text n (61 ∷ []) 34) (m_quoted text ls t ps n [] [] at word nothing_quoted))
    (λ _. tt))
means_step _ _ b (m_token text ls t ps n v at word value) =
    let r = reader place.Token ls t ps n (Some v) in
    let read = text ++ (n ++ 61 ∷ v) in
    by_test (is_token_byte b) (goes place.Token act.Value) _ (Keeps r read b)
    (λ e. reads_same _ (read ++ b ∷ []) (text ++ (n ++ 61 ∷ (v ++ b ∷ []))) (end_3 text n (61 ∷ v) b) (m_token text ls t ps n (v ++ b ∷ []) at word (word_more is_token_byte v b value e)))
    (λ _. after_open r read b (open_of r read ls t _ (token_closed text ls t ps n v at word value) (ended_param ls t ps n (Some v) place.Token word.some)))
means_step _ _ b (m_quoted text ls t ps n x v at word value) =
    let r = reader place.Quoted ls t ps n (Some v) in
    let read = text ++ (n ++ 61 ∷ 34 ∷ x) in
    by_test (is_quoted_byte b) (goes place.Quoted act.Value) _ (Keeps r read b)
    (λ e. reads_same _ (read ++ b ∷ []) (text ++ (n ++ 61 ∷ 34 ∷ (x ++ b ∷ []))) (end_3 text n (61 ∷ 34 ∷ x) b) (m_quoted text ls t ps n (x ++ b ∷ []) (v ++ b ∷ []) at word (plain x v b value e)))
    (λ _. by_test (b == 34) (goes place.After act.Skip) _ (Keeps r read b)
    (λ e. m_after (read ++ b ∷ []) ls ls t t ps _ n (Some v) (quoted_closed text ls t ps n x v b at word value (eqb-true b 34 e)) (ended_param ls t ps n (Some v) place.After word.some))
    (λ _. by_test (b == 92) (goes place.Escape act.Skip) None (Keeps r read b)
    (λ e. reads_same _ (read ++ b ∷ []) (text ++ (n ++ 61 ∷ 34 ∷ (x ++ 92 ∷ []))) (ap (λ (c : ℕ). read ++ c ∷ []) (eqb-true b 92 e) ∙ end_3 text n (61 ∷ 34 ∷ x) 92) (m_escape text ls t ps n x v at word value))
    (λ _. tt)))
means_step _ _ b (m_escape text ls t ps n x v at word value) =
    let r = reader place.Escape ls t ps n (Some v) in
    let read = text ++ (n ++ 61 ∷ 34 ∷ (x ++ 92 ∷ [])) in
    by_test (is_escaped b) (goes place.Quoted act.Value) None (Keeps r read b)
    (λ e. reads_same _ (read ++ b ∷ []) (text ++ (n ++ 61 ∷ 34 ∷ (x ++ 92 ∷ b ∷ [])))
    (end_3 text n (61 ∷ 34 ∷ (x ++ 92 ∷ [])) b ∙ ap (λ (y : List ℕ). text ++ (n ++ 61 ∷ 34 ∷ y)) (append_assoc x (92 ∷ []) (b ∷ [])))
    (m_quoted text ls t ps n (x ++ 92 ∷ b ∷ []) (v ++ b ∷ []) at word (escaped x v b value e)))
    (λ _. tt)

-- ---- runs

kept_by : (r s : Reader) (text : List ℕ) (b : ℕ) (o : Option Step) → Keeps r text b o → option_map (stepped b r) o ≡ Some s → Means s (text ++ b ∷ [])
kept_by r s text b None keeps e = absurd cc
kept_by r s text b (Some p) keeps e =
    let same : stepped b r p ≡ s = cc e in
    subst (λ (q : Reader). Means q (text ++ b ∷ [])) same keeps

pub means_run : (r s : Reader) (text xs : List ℕ) → Means r text → run (Some r) xs ≡ Some s → Means s (text ++ xs)
means_run r s text [] m e =
    let same : r ≡ s = cc e in
    subst (λ (y : List ℕ). Means s y) (sym (append-nil text)) (subst (λ (q : Reader). Means q text) same m)
means_run r s text (b ∷ xs) m e = on (step r b) refl e (λ q is rest. means_run q s (text ++ b ∷ []) xs (kept_by r q text b (step_at r.place b) (means_step r text b m) is) rest)
  where
    on : (o : Option Reader) → step r b ≡ o → run o xs ≡ Some s → ((q : Reader) → step r b ≡ Some q → run (Some q) xs ≡ Some s → Means s ((text ++ b ∷ []) ++ xs)) → Means s (text ++ b ∷ xs)
    on None is e more = absurd (cc (run_none xs, e))
    on (Some q) is e more = subst (λ (y : List ℕ). Means s y) (append_assoc text (b ∷ []) xs) (more q is e)

-- ---- ends

ended_text : (p : ReaderPlace) (text : List ℕ) (ls : List Link) (t : List ℕ) (ps : List Param) (r : Reader) → LinkAt text ls t ps → with_param_ended r ≡ reader p ls t ps [] None → IsLinkText text (link_ended (with_param_ended r)).links
ended_text p text ls t ps r at kept =
    subst (λ (s : Reader). IsLinkText text (link_ended s).links) (sym kept) (some_links text _ (links_at_end text ls t ps at))

pub means_text : (r : Reader) (text : List ℕ) → Means r text → may_end r.place ≡ true → IsLinkText text (links_at r.place r)
means_text _ _ m_start e = no_links
means_text _ _ (m_before_link before a s ls are a_spaces s_spaces) e = absurd cc
means_text _ _ (m_target front x ls is_front all) e = absurd cc
means_text _ _ (m_after text l ls u t qs ps n v at kept) e = ended_text place.After text ls t ps (reader place.After l u qs n v) at kept
means_text _ _ (m_spaces text l u qs n v at) e = absurd cc
means_text _ _ (m_before_name text ls t ps at) e = absurd cc
means_text _ _ (m_name text ls t ps n at word) e = ended_text place.Name (text ++ n) ls t _ (reader place.Name ls t ps n None) (name_closed text ls t ps n at word) (ended_param ls t ps n None place.Name word.some)
means_text _ _ (m_before_value text ls t ps n at word) e = absurd cc
means_text _ _ (m_token text ls t ps n v at word value) e = ended_text place.Token (text ++ (n ++ 61 ∷ v)) ls t _ (reader place.Token ls t ps n (Some v)) (token_closed text ls t ps n v at word value) (ended_param ls t ps n (Some v) place.Token word.some)
means_text _ _ (m_quoted text ls t ps n x v at word value) e = absurd cc
means_text _ _ (m_escape text ls t ps n x v at word value) e = absurd cc

-- a text that goes on to an end begins a link text
goes_on : (r s : Reader) (text xs : List ℕ) → Means r text → run (Some r) xs ≡ Some s → may_end s.place ≡ true → BeginsLinkText text
goes_on r s text xs m e may = record { rest = xs; links = links_at s.place s; whole = means_text s (text ++ xs) (means_run r s text xs m e) may }

pub begins : (r : Reader) (text : List ℕ) → Means r text → BeginsLinkText text
begins _ _ m_start = goes_on _ _ _ [] m_start refl refl
begins _ _ (m_before_link before a s ls are a_spaces s_spaces) = goes_on _ (reader place.After ls [] [] [] None) _ (60 ∷ 62 ∷ []) (m_before_link before a s ls are a_spaces s_spaces) refl refl
begins _ _ (m_target front x ls is_front all) = goes_on _ (reader place.After ls x [] [] None) _ (62 ∷ []) (m_target front x ls is_front all) refl refl
begins _ _ (m_after text l ls u t qs ps n v at kept) = goes_on _ (reader place.After l u qs n v) _ [] (m_after text l ls u t qs ps n v at kept) refl refl
begins _ _ (m_spaces text l u qs n v at) =
    let more = goes_on _ (reader place.Name at.ls at.t at.ps (97 ∷ []) None) _ (97 ∷ []) (m_before_name (text ++ 59 ∷ []) at.ls at.t at.ps (semicolon_at (reader place.Spaces l u qs n v) text at)) refl refl in
    record { rest = 59 ∷ more.rest; links = more.links; whole = subst (λ (y : List ℕ). IsLinkText y more.links) (append_assoc text (59 ∷ []) more.rest) more.whole }
begins _ _ (m_before_name text ls t ps at) = goes_on _ (reader place.Name ls t ps (97 ∷ []) None) _ (97 ∷ []) (m_before_name text ls t ps at) refl refl
begins _ _ (m_name text ls t ps n at word) = goes_on _ (reader place.Name ls t ps n None) _ [] (m_name text ls t ps n at word) refl refl
begins _ _ (m_before_value text ls t ps n at word) = goes_on _ (reader place.Token ls t ps n (Some (97 ∷ []))) _ (97 ∷ []) (m_before_value text ls t ps n at word) refl refl
begins _ _ (m_token text ls t ps n v at word value) = goes_on _ (reader place.Token ls t ps n (Some v)) _ [] (m_token text ls t ps n v at word value) refl refl
begins _ _ (m_quoted text ls t ps n x v at word value) = goes_on _ (reader place.After ls t ps n (Some v)) _ (34 ∷ []) (m_quoted text ls t ps n x v at word value) refl refl
begins _ _ (m_escape text ls t ps n x v at word value) = goes_on _ (reader place.After ls t ps n (Some (v ++ 34 ∷ []))) _ (34 ∷ 34 ∷ []) (m_escape text ls t ps n x v at word value) refl refl
