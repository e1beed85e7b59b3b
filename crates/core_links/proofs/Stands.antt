-- A reader of a link text after each part of the grammar.
use Rattle.std.proofs.Common.{arith, ◌≡◌, refl, sym, ap, ◌∙◌, ℕ, ◌≤◌, ◌==◌, List, [], ◌∷◌, ◌++◌, length, true, append_assoc}
use Rattle.std.specs.Prelude.{Option, Some, None, option_map}
use Rattle.std.specs.List.{list_all}
use Rattle.std.proofs.lemmas.List.{append-nil}
use Rattle.std.proofs.lemmas.Bool.{eqb-true}
use Rattle.core_links.specs.Links.{is_target_byte, is_name_byte, is_token_byte, is_escaped, is_quoted_byte, AreSpaces, IsWord, IsQuoted, nothing_quoted, plain, escaped, IsParam, name_alone, with_token, with_quoted, IsLink, target_alone, with_param, AreLinks, one_link, with_link, IsLinkText, no_links, some_links}
use Rattle.core_links.specs.Steps.{run, step, step_at, stepped, goes, param_ended, with_param_ended, link_ended, may_end, links_at, new_reader}
use Rattle.core_links.specs.declared.links.Param.{Param}
use Rattle.core_links.specs.declared.links.Link.{Link}
use Rattle.core_links.specs.declared.reader.Reader.{Reader}
use Rattle.core_links.specs.declared.steps.ReaderPlace.{ReaderPlace}
use Rattle.core_links.specs.declared.steps.ReaderPlace.TheVariants as place
use Rattle.core_links.specs.declared.steps.ByteUse.TheVariants as act
use Rattle.core_links.proofs.Runs.{run_then, if_true, both_true}

-- a reader of these parts
abbrev pub reader : ReaderPlace → List Link → List ℕ → List Param → List ℕ → Option (List ℕ) → Reader
reader p ls t ps n v = record { place = p; links = ls; target = t; params = ps; name = n; value = v }

-- places right after a link as far as it goes
pub data Closes : ReaderPlace → Type 0 where
  after_it : Closes place.After
  after_name : Closes place.Name
  after_token : Closes place.Token

-- these, and after spaces
pub data Opens : ReaderPlace → Type 0 where
  closed : (p : ReaderPlace) → Closes p → Opens p
  after_spaces : Opens place.Spaces

-- The reader stands after a link of this target and these parameters, which came after these links.
pub record Stands (ls : List Link) (t : List ℕ) (ps : List Param) (r : Reader) : Type 0 where
  pub closes : Closes r.place
  pub kept : with_param_ended r ≡ reader r.place ls t ps [] None

-- a run that comes to a reader of which this holds
pub record Comes (from : Reader) (text : List ℕ) (P : Reader → Type 0) : Type 0 where
  pub to : Reader
  pub run_is : run (Some from) text ≡ Some to
  pub holds : P to

-- ---- spaces

open_space : (p : ReaderPlace) → Opens p → step_at p 32 ≡ goes place.Spaces act.Skip
open_space _ (closed _ after_it) = refl
open_space _ (closed _ after_name) = refl
open_space _ (closed _ after_token) = refl
open_space _ after_spaces = refl

open_semicolon : (p : ReaderPlace) → Opens p → step_at p 59 ≡ goes place.BeforeName act.EndParam
open_semicolon _ (closed _ after_it) = refl
open_semicolon _ (closed _ after_name) = refl
open_semicolon _ (closed _ after_token) = refl
open_semicolon _ after_spaces = refl

open_comma : (p : ReaderPlace) → Opens p → step_at p 44 ≡ goes place.BeforeLink act.EndLink
open_comma _ (closed _ after_it) = refl
open_comma _ (closed _ after_name) = refl
open_comma _ (closed _ after_token) = refl
open_comma _ after_spaces = refl

-- spaces at a place where they change nothing
spaces_stay : (r : Reader) (xs : List ℕ) → step r 32 ≡ Some r → AreSpaces xs → run (Some r) xs ≡ Some r
spaces_stay r [] stay all = refl
spaces_stay r (x ∷ xs) stay all =
    let both = both_true (x == 32) (list_all (λ b. b == 32) xs) all in
    ap (λ (b : ℕ). run (step r b) xs) (eqb-true x 32 both.0) ∙ ap (λ (o : Option Reader). run o xs) stay ∙ spaces_stay r xs stay both.1

-- spaces after a link as far as it goes
pub spaces_after : (r : Reader) (xs : List ℕ) → Opens r.place → AreSpaces xs → (q : ReaderPlace) × Opens q × (run (Some r) xs ≡ Some (record r { place = q }))
spaces_after r [] opens all = (r.place, opens, refl)
spaces_after r (x ∷ xs) opens all =
    let both = both_true (x == 32) (list_all (λ b. b == 32) xs) all in
    let there : run (Some (record r { place = place.Spaces })) xs ≡ Some (record r { place = place.Spaces }) = spaces_stay (record r { place = place.Spaces }) xs refl both.1 in (
      place.Spaces,
      after_spaces,
      ap (λ (b : ℕ). run (step r b) xs) (eqb-true x 32 both.0)
          ∙ ap (λ o. run (option_map (stepped 32 r) o) xs) (open_space r.place opens) ∙ there,
    )

-- ---- the end of a parameter and of a link

param_ended_at : (n : List ℕ) (r : Reader) (q : ReaderPlace) → param_ended n (record r { place = q }) ≡ record (param_ended n r) { place = q }
param_ended_at [] r q = refl
param_ended_at (b ∷ bs) r q = refl

pub ended_at : (ls : List Link) (t : List ℕ) (ps : List Param) (r : Reader) (q : ReaderPlace) → with_param_ended r ≡ reader r.place ls t ps [] None → with_param_ended (record r { place = q }) ≡ reader q ls t ps [] None
ended_at ls t ps r q kept = param_ended_at r.name r q ∙ ap (λ (s : Reader). record s { place = q }) kept

-- `;` and spaces around it
pub next_param : (ls : List Link) (t : List ℕ) (ps : List Param) (r : Reader) (a b : List ℕ) → Stands ls t ps r → AreSpaces a → AreSpaces b → run (Some r) (a ++ (59 ∷ b)) ≡ Some (reader place.BeforeName ls t ps [] None)
next_param ls t ps r a b stands a_spaces b_spaces =
    let there = spaces_after r a (closed _ stands.closes) a_spaces in
    let q = there.0 in
    let stepped_is : step (record r { place = q }) 59 ≡ Some (reader place.BeforeName ls t ps [] None) =
    ap (option_map (stepped 59 (record r { place = q }))) (open_semicolon q there.1) ∙ ap (λ (s : Reader). Some s) (ended_at ls t ps r place.BeforeName stands.kept) in
    run_then (Some r) a (59 ∷ b) _ _ there.2
    (ap (λ (o : Option Reader). run o b) stepped_is ∙ spaces_stay (reader place.BeforeName ls t ps [] None) b refl b_spaces)

-- `,` and spaces around it
pub next_link : (ls : List Link) (t : List ℕ) (ps : List Param) (r : Reader) (a b : List ℕ) → Stands ls t ps r → AreSpaces a → AreSpaces b → run (Some r) (a ++ (44 ∷ b)) ≡ Some (reader place.BeforeLink (ls ++ (record { target = t; params = ps }) ∷ []) [] [] [] None)
next_link ls t ps r a b stands a_spaces b_spaces =
    let there = spaces_after r a (closed _ stands.closes) a_spaces in
    let q = there.0 in
    let begun = reader place.BeforeLink (ls ++ (record { target = t; params = ps }) ∷ []) [] [] [] None in
    let stepped_is : step (record r { place = q }) 44 ≡ Some begun =
    ap (option_map (stepped 44 (record r { place = q }))) (open_comma q there.1) ∙ ap (λ (s : Reader). Some (link_ended s)) (ended_at ls t ps r place.BeforeLink stands.kept) in
    run_then (Some r) a (44 ∷ b) _ _ there.2
    (ap (λ (o : Option Reader). run o b) stepped_is ∙ spaces_stay begun b refl b_spaces)

-- ---- words

targets : (ls : List Link) (t xs : List ℕ) → list_all is_target_byte xs ≡ true → run (Some (reader place.Target ls t [] [] None)) xs ≡ Some (reader place.Target ls (t ++ xs) [] [] None)
targets ls t [] all = ap (λ (y : List ℕ). Some (reader place.Target ls y [] [] None)) (sym (append-nil t))
targets ls t (x ∷ xs) all =
    let both = both_true (is_target_byte x) (list_all is_target_byte xs) all in
    ap (λ o. run (option_map (stepped x (reader place.Target ls t [] [] None)) o) xs) (if_true (is_target_byte x) (goes place.Target act.Target) _ both.0)
    ∙ targets ls (t ++ x ∷ []) xs both.1
    ∙ ap (λ (y : List ℕ). Some (reader place.Target ls y [] [] None)) (append_assoc t (x ∷ []) xs)

names : (ls : List Link) (t : List ℕ) (ps : List Param) (n xs : List ℕ) → list_all is_name_byte xs ≡ true → run (Some (reader place.Name ls t ps n None)) xs ≡ Some (reader place.Name ls t ps (n ++ xs) None)
names ls t ps n [] all = ap (λ (y : List ℕ). Some (reader place.Name ls t ps y None)) (sym (append-nil n))
names ls t ps n (x ∷ xs) all =
    let both = both_true (is_name_byte x) (list_all is_name_byte xs) all in
    ap (λ o. run (option_map (stepped x (reader place.Name ls t ps n None)) o) xs) (if_true (is_name_byte x) (goes place.Name act.Name) _ both.0)
    ∙ names ls t ps (n ++ x ∷ []) xs both.1
    ∙ ap (λ (y : List ℕ). Some (reader place.Name ls t ps y None)) (append_assoc n (x ∷ []) xs)

pub name_read : (ls : List Link) (t : List ℕ) (ps : List Param) (n : List ℕ) → IsWord is_name_byte n → run (Some (reader place.BeforeName ls t ps [] None)) n ≡ Some (reader place.Name ls t ps n None)
name_read ls t ps [] word = absurd (omega (arith, word.some))
name_read ls t ps (x ∷ xs) word =
    let both = both_true (is_name_byte x) (list_all is_name_byte xs) word.all in
    ap (λ o. run (option_map (stepped x (reader place.BeforeName ls t ps [] None)) o) xs) (if_true (is_name_byte x) (goes place.Name act.Name) _ both.0)
    ∙ names ls t ps (x ∷ []) xs both.1

tokens : (ls : List Link) (t : List ℕ) (ps : List Param) (n v xs : List ℕ) → list_all is_token_byte xs ≡ true → run (Some (reader place.Token ls t ps n (Some v))) xs ≡ Some (reader place.Token ls t ps n (Some (v ++ xs)))
tokens ls t ps n v [] all = ap (λ (y : List ℕ). Some (reader place.Token ls t ps n (Some y))) (sym (append-nil v))
tokens ls t ps n v (x ∷ xs) all =
    let both = both_true (is_token_byte x) (list_all is_token_byte xs) all in
    ap (λ o. run (option_map (stepped x (reader place.Token ls t ps n (Some v))) o) xs) (if_true (is_token_byte x) (goes place.Token act.Value) _ both.0)
    ∙ tokens ls t ps n (v ++ x ∷ []) xs both.1
    ∙ ap (λ (y : List ℕ). Some (reader place.Token ls t ps n (Some y))) (append_assoc v (x ∷ []) xs)

pub token_read : (ls : List Link) (t : List ℕ) (ps : List Param) (n v : List ℕ) → IsWord is_token_byte v → run (Some (reader place.BeforeValue ls t ps n (Some []))) v ≡ Some (reader place.Token ls t ps n (Some v))
token_read ls t ps n [] word = absurd (omega (arith, word.some))
token_read ls t ps n (x ∷ xs) word =
    let both = both_true (is_token_byte x) (list_all is_token_byte xs) word.all in
    ap (λ o. run (option_map (stepped x (reader place.BeforeValue ls t ps n (Some []))) o) xs) (if_true (is_token_byte x) (goes place.Token act.Value) _ both.0)
    ∙ tokens ls t ps n (x ∷ []) xs both.1

pub quoted_read : (ls : List Link) (t : List ℕ) (ps : List Param) (n x v : List ℕ) → IsQuoted x v → run (Some (reader place.Quoted ls t ps n (Some []))) x ≡ Some (reader place.Quoted ls t ps n (Some v))
quoted_read ls t ps n _ _ nothing_quoted = refl
quoted_read ls t ps n _ _ (plain x v b before is) =
    run_then _ x (b ∷ []) _ _ (quoted_read ls t ps n x v before)
    (ap (option_map (stepped b (reader place.Quoted ls t ps n (Some v)))) (if_true (is_quoted_byte b) (goes place.Quoted act.Value) _ is))
quoted_read ls t ps n _ _ (escaped x v b before is) =
    run_then _ x (92 ∷ b ∷ []) _ _ (quoted_read ls t ps n x v before)
    (ap (option_map (stepped b (reader place.Escape ls t ps n (Some v)))) (if_true (is_escaped b) (goes place.Quoted act.Value) _ is))

-- ---- parameters, links, link texts

stands_after : (ls : List Link) (t : List ℕ) (ps : List Param) (n : List ℕ) (v : Option (List ℕ)) (p : ReaderPlace) → Closes p → 1 ≤ length n → Stands ls t (ps ++ (record { name = n; value = v }) ∷ []) (reader p ls t ps n v)
stands_after ls t ps [] v p closes some = absurd (omega (arith, some))
stands_after ls t ps (b ∷ bs) v p closes some = record { closes = closes; kept = refl }

param_read : (ls : List Link) (t : List ℕ) (ps : List Param) (text : List ℕ) (param : Param) → IsParam text param → Comes (reader place.BeforeName ls t ps [] None) text (Stands ls t (ps ++ param ∷ []))
param_read ls t ps _ _ (name_alone n word) =
    record { to = reader place.Name ls t ps n None; run_is = name_read ls t ps n word; holds = stands_after ls t ps n None place.Name after_name word.some }
param_read ls t ps _ _ (with_token n v word value) =
    record { to = reader place.Token ls t ps n (Some v); run_is = run_then _ n (61 ∷ v) _ _ (name_read ls t ps n word) (token_read ls t ps n v value); holds = stands_after ls t ps n (Some v) place.Token after_token word.some }
param_read ls t ps _ _ (with_quoted n x v word value) =
    record { to = reader place.After ls t ps n (Some v); run_is = run_then _ n (61 ∷ 34 ∷ (x ++ 34 ∷ [])) _ _ (name_read ls t ps n word) (run_then (Some (reader place.Quoted ls t ps n (Some []))) x (34 ∷ []) _ _ (quoted_read ls t ps n x v value) refl); holds = stands_after ls t ps n (Some v) place.After after_it word.some }

-- places before a link
pub data Awaits : ReaderPlace → Type 0 where
  at_start : Awaits place.Start
  before_link : Awaits place.BeforeLink

begun : (p : ReaderPlace) (ls : List Link) (xs : List ℕ) → Awaits p → run (Some (reader p ls [] [] [] None)) (60 ∷ xs) ≡ run (Some (reader place.Target ls [] [] [] None)) xs
begun _ ls xs at_start = refl
begun _ ls xs before_link = refl

link_read : (p : ReaderPlace) (ls : List Link) (text : List ℕ) (link : Link) → Awaits p → IsLink text link → Comes (reader p ls [] [] [] None) text (Stands ls link.target link.params)
link_read p ls _ _ awaits (target_alone t all) =
    record { to = reader place.After ls t [] [] None; run_is = begun p ls (t ++ 62 ∷ []) awaits ∙ run_then _ t (62 ∷ []) _ _ (targets ls [] t all) refl; holds = record { closes = after_it; kept = refl } }
link_read p ls _ _ awaits (with_param before a b text t ps param is_before a_spaces b_spaces is_param) =
    let one = link_read p ls before (record { target = t; params = ps }) awaits is_before in
    let other = param_read ls t ps text param is_param in
    record {
      to = other.to;
      run_is = run_then _ before _ _ _ one.run_is
          (ap (λ (xs : List ℕ). run (Some one.to) xs) (sym (append_assoc a (59 ∷ b) text))
          ∙ run_then _ (a ++ (59 ∷ b)) text _ _ (next_param ls t ps one.to a b one.holds a_spaces b_spaces) other.run_is);
      holds = other.holds;
    }

-- after these links the reader stands after the last of them
pub record StandsAfter (links : List Link) (r : Reader) : Type 0 where
  pub before : List Link
  pub last : Link
  pub links_are : links ≡ before ++ last ∷ []
  pub stands : Stands before last.target last.params r

links_read : (text : List ℕ) (links : List Link) → AreLinks text links → Comes new_reader text (StandsAfter links)
links_read _ _ (one_link text link is_link) =
    let one = link_read place.Start [] text link at_start is_link in
    record { to = one.to; run_is = one.run_is; holds = record { before = []; last = link; links_are = refl; stands = one.holds } }
links_read _ _ (with_link before a b text links link are a_spaces b_spaces is_link) =
    let one = links_read before links are in
    let other = link_read place.BeforeLink links text link before_link is_link in
    let here : run (Some one.to) (a ++ (44 ∷ b)) ≡ Some (reader place.BeforeLink links [] [] [] None) =
    next_link one.holds.before one.holds.last.target one.holds.last.params one.to a b one.holds.stands a_spaces b_spaces
    ∙ ap (λ (ls : List Link). Some (reader place.BeforeLink ls [] [] [] None)) (sym one.holds.links_are) in
    record {
      to = other.to;
      run_is = run_then _ before _ _ _ one.run_is
          (ap (λ (xs : List ℕ). run (Some one.to) xs) (sym (append_assoc a (44 ∷ b) text))
          ∙ run_then _ (a ++ (44 ∷ b)) text _ _ here other.run_is);
      holds = record { before = links; last = link; links_are = refl; stands = other.holds };
    }

-- the text may end here, and these are its links
pub record EndsWith (links : List Link) (r : Reader) : Type 0 where
  pub may : may_end r.place ≡ true
  pub links_are : links_at r.place r ≡ links

closes_ends : (p : ReaderPlace) → Closes p → may_end p ≡ true
closes_ends _ after_it = refl
closes_ends _ after_name = refl
closes_ends _ after_token = refl

pub closes_links : (p : ReaderPlace) (r : Reader) → Closes p → links_at p r ≡ (link_ended (with_param_ended r)).links
closes_links _ r after_it = refl
closes_links _ r after_name = refl
closes_links _ r after_token = refl

pub text_read : (text : List ℕ) (links : List Link) → IsLinkText text links → Comes new_reader text (EndsWith links)
text_read _ _ no_links = record { to = new_reader; run_is = refl; holds = record { may = refl; links_are = refl } }
text_read _ _ (some_links text links are) =
    let one = links_read text links are in
    record {
      to = one.to;
      run_is = one.run_is;
      holds = record {
        may = closes_ends one.to.place one.holds.stands.closes;
        links_are = closes_links one.to.place one.to one.holds.stands.closes ∙ ap (λ (s : Reader). (link_ended s).links) one.holds.stands.kept ∙ sym one.holds.links_are;
      };
    }

-- a text is a link text of some links and no others
pub same_links : (text : List ℕ) (links others : List Link) → IsLinkText text links → IsLinkText text others → links ≡ others
same_links text links others a b =
    let one = text_read text links a in
    let other = text_read text others b in
    let same : Some one.to ≡ Some other.to = sym one.run_is ∙ other.run_is in
    let same_reader : one.to ≡ other.to = cc same in
    sym one.holds.links_are ∙ ap (λ (r : Reader). links_at r.place r) same_reader ∙ other.holds.links_are
