-- The lines of the Things to which links lead, one link after another.
use Rattle.std.proofs.Common.{◌≡◌, ◌<◌, ◌≤◌, ◌+◌, ℕ, zero, suc, List, [], ◌∷◌, ◌++◌, length, drop, get_or, map, codes, Bool, true, false, ◌&&◌, cond, Option, Some, None, Result, Ok, Err, refl, sym, ap, subst, ◌∙◌, arith, append_assoc, append-nil}
use Rattle.std.specs.Prelude.{nat_le, filter, option_map, option_and_then, IfOk, MatchOption}
use Rattle.std.specs.Result.{result_ok}
use Rattle.std.specs.declared.alloc.AllocError.{AllocError}
use Rattle.std.specs.List.{list_all}
use Rattle.std.specs.Str.{IsAscii, IsUtf8}
use Rattle.std.proofs.lemmas.Bool.Decides.{nat_tests}
use Rattle.std.proofs.lemmas.List.{drop_all}
use Rattle.std.proofs.lemmas.List.Folds.{list_all-append}
use Rattle.std.proofs.lemmas.Option.{same_Some}
use Rattle.std.proofs.lemmas.Str.{IsUtf8-from_ascii}
use Rattle.std.proofs.lemmas.Str.Ascii.{IsAscii-nil, IsAscii-cons}
use Rattle.url.specs.Parts.{Parts, serialize}
use Rattle.url.specs.Parser.{Parsed}
use Rattle.servient_base.specs.Location.{joined_url, IsRefused}
use Rattle.wot_schema.proofs.Steps.{rest_at}
use Rattle.core_links.specs.declared.links.Link.{Link}
use Rattle.core_links.specs.declared.reading.LinkFault.{LinkFault}
use Rattle.core_links.specs.declared.reading.LinkFault.TheVariants as fault
use Rattle.core_links.specs.Links as links
use Rattle.core_links.specs.Links.{is_target_byte, IsLink, target_alone, with_param, AreLinks, one_link, with_link, IsLinkText, no_links, some_links, ReadsLinks}
use Rattle.wot_consumer.specs.Discovery.{leads_to_thing, target_url, target_urls, thing_urls, line_text, lines_of, SaysOfThings, are_links, are_no_links, have_targets, line_of, PutsLine}

-- ## Targets

left_true : (a b : Bool) → (a && b) ≡ true → a ≡ true
left_true true b both = refl
left_true false b both = both

right_true : (a b : Bool) → (a && b) ≡ true → b ≡ true
right_true true b both = both
right_true false b both = absurd cc

both_true : (a b : Bool) → a ≡ true → b ≡ true → (a && b) ≡ true
both_true true b one other = other
both_true false b one other = one

-- a link of a link text has a target of the grammar
link_target : (text : List ℕ) (link : Link) → IsLink text link → list_all is_target_byte link.target ≡ true
link_target _ _ (target_alone target all) = all
link_target _ _ (with_param before spaces more_spaces text target params param link spaced more_spaced is) = link_target before (record { target = target; params = params }) link

links_targets : (text : List ℕ) (links : List Link) → AreLinks text links → have_targets links ≡ true
links_targets _ _ (one_link text link is) = both_true (list_all is_target_byte link.target) true (link_target text link is) refl
links_targets _ _ (with_link before spaces more_spaces text links link are spaced more_spaced is) =
    list_all-append (λ (l : Link). list_all is_target_byte l.target) links (link ∷ [])
    ∙ both_true (have_targets links) (list_all is_target_byte link.target && true) (links_targets before links are) (both_true (list_all is_target_byte link.target) true (link_target text link is) refl)

text_targets : (text : List ℕ) (links : List Link) → IsLinkText text links → have_targets links ≡ true
text_targets _ _ no_links = refl
text_targets _ _ (some_links text links are) = links_targets text links are

-- the links that were read
same_read : (a b : List Link) → ◌≡◌ {A = Result (List Link) LinkFault} (Ok a) (Ok b) → a ≡ b
same_read a b is = cc

read_is : (bytes : List ℕ) (ls : List Link) → ReadsLinks bytes (Ok ls) → IsLinkText bytes ls
read_is bytes ls (links.read others is text) = subst (λ (xs : List Link). IsLinkText bytes xs) (sym (same_read ls others is)) text
read_is bytes ls (links.at n is none longest) = absurd cc
read_is bytes ls (links.no_memory is) = absurd cc

pub read_targets : (bytes : List ℕ) (ls slice : List Link) → slice ≡ ls → ReadsLinks bytes (Ok ls) → have_targets slice ≡ true
read_targets bytes ls slice same reads = ap have_targets same ∙ text_targets bytes ls (read_is bytes ls reads)

-- and what it says of Things
pub says_links : (base bytes : List ℕ) (ls slice : List Link) (result : Result (Option (List ℕ)) AllocError) → slice ≡ ls → ReadsLinks bytes (Ok ls) → IfOk result (λ lines. lines ≡ option_map lines_of (thing_urls base slice)) → IfOk result (SaysOfThings base bytes)
says_links base bytes ls slice (Ok lines) same reads is = are_links ls (read_is bytes ls reads) (is ∙ ap (λ (xs : List Link). option_map lines_of (thing_urls base xs)) same)
says_links base bytes ls slice (Err e) same reads is = tt

pub target_at : (links : List Link) (i : ℕ) (d : Link) → have_targets links ≡ true → i < length links → list_all is_target_byte (get_or links i d).target ≡ true
target_at [] i d all within = absurd (omega (arith, within))
target_at (link ∷ links) zero d all within = left_true (list_all is_target_byte link.target) (have_targets links) all
target_at (link ∷ links) (suc i) d all within = target_at links i d (right_true (list_all is_target_byte link.target) (have_targets links) all) (omega (arith, within))

-- it is text
below_128 : (b : ℕ) → is_target_byte b ≡ true → b < 128
below_128 b is =
    let most : nat_le b 126 ≡ true = right_true (nat_le 33 b) (nat_le b 126) (left_true (nat_le 33 b && nat_le b 126) _ is) in
    grind (arith, nat_tests, most)

target_is_ascii : (target : List ℕ) → list_all is_target_byte target ≡ true → IsAscii target
target_is_ascii [] all = IsAscii-nil
target_is_ascii (b ∷ target) all =
    IsAscii-cons b target (below_128 b (left_true (is_target_byte b) (list_all is_target_byte target) all)) (target_is_ascii target (right_true (is_target_byte b) (list_all is_target_byte target) all))

pub target_is_text : (target : List ℕ) → list_all is_target_byte target ≡ true → IsUtf8 target
target_is_text target all = IsUtf8-from_ascii target (target_is_ascii target all)

-- ## Lines

abbrev pub lines_left : List ℕ → List Link → Option (List ℕ)
lines_left base links = option_map lines_of (thing_urls base links)

put_first : (x : Option (List ℕ)) → option_map (λ (more : List ℕ). [] ++ more) x ≡ x
put_first None = refl
put_first (Some x) = refl

after_url : (url : Option (List ℕ)) (urls : Option (List (List ℕ))) → option_map lines_of (option_and_then (λ u. option_map (λ us. u ∷ us) urls) url) ≡ option_and_then (λ (line : List ℕ). option_map (λ (more : List ℕ). line ++ more) (option_map lines_of urls)) (option_map line_text url)
after_url None urls = refl
after_url (Some u) None = refl
after_url (Some u) (Some us) = refl

-- the lines of a link and of those after it
line_then : (base : List ℕ) (leads : Bool) (link : Link) (kept : List Link) → option_map lines_of (target_urls base (map (λ (l : Link). l.target) (cond leads (link ∷ kept) kept)))
    ≡ option_and_then (λ (line : List ℕ). option_map (λ (more : List ℕ). line ++ more) (option_map lines_of (target_urls base (map (λ (l : Link). l.target) kept)))) (cond leads (option_map line_text (target_url base link.target)) (Some []))
line_then base true link kept = after_url (target_url base link.target) (target_urls base (map (λ (l : Link). l.target) kept))
line_then base false link kept = sym (put_first (option_map lines_of (target_urls base (map (λ (l : Link). l.target) kept))))

put_on : (lines new : List ℕ) (line rest : Option (List ℕ)) → option_map (λ (l : List ℕ). lines ++ l) line ≡ Some new → option_map (λ (more : List ℕ). lines ++ more) (option_and_then (λ (l : List ℕ). option_map (λ (more : List ℕ). l ++ more) rest) line) ≡ option_map (λ (more : List ℕ). new ++ more) rest
put_on lines new None rest is = absurd cc
put_on lines new (Some l) None is = refl
put_on lines new (Some l) (Some more) is = ap (λ (x : List ℕ). Some x) (sym (append_assoc lines l more) ∙ ap (λ (x : List ℕ). x ++ more) (same_Some (lines ++ l) new is))

-- before the first link
pub lines_none : (base : List ℕ) (links : List Link) (lines : List ℕ) → lines ≡ [] → lines_left base links ≡ option_map (λ (more : List ℕ). lines ++ more) (lines_left base links)
lines_none base links lines none = subst (λ (x : List ℕ). lines_left base links ≡ option_map (λ (more : List ℕ). x ++ more) (lines_left base links)) (sym none) (sym (put_first (lines_left base links)))

-- those that are left, from a link on
left_from : (base : List ℕ) (links : List Link) (i : ℕ) (link : Link) (lines : List ℕ) → i < length links → link ≡ get_or links i link → lines_left base links ≡ option_map (λ (more : List ℕ). lines ++ more) (lines_left base (drop i links))
    → lines_left base links ≡ option_map (λ (more : List ℕ). lines ++ more) (option_and_then (λ (l : List ℕ). option_map (λ (more : List ℕ). l ++ more) (lines_left base (drop (i + 1) links))) (line_of base link))
left_from base links i link lines within is so_far =
    so_far
    ∙ ap (λ (ls : List Link). option_map (λ (more : List ℕ). lines ++ more) (lines_left base ls)) (rest_at links i link within is)
    ∙ ap (option_map (λ (more : List ℕ). lines ++ more)) (line_then base (leads_to_thing link) link (filter leads_to_thing (drop (i + 1) links)))

-- a link more
pub lines_more : (base : List ℕ) (links : List Link) (i : ℕ) (link : Link) (joined : Bool) (lines new : List ℕ) → i < length links → link ≡ get_or links i link → lines_left base links ≡ option_map (λ (more : List ℕ). lines ++ more) (lines_left base (drop i links))
    → PutsLine base link lines new joined → joined ≡ true → lines_left base links ≡ option_map (λ (more : List ℕ). new ++ more) (lines_left base (drop (i + 1) links))
lines_more base links i link joined lines new within is so_far puts could =
    left_from base links i link lines within is so_far
    ∙ put_on lines new (line_of base link) (lines_left base (drop (i + 1) links)) (subst (PutsLine base link lines new) could puts)

-- after the last
pub lines_all : (base : List ℕ) (links : List Link) (i : ℕ) (lines : List ℕ) → length links ≤ i → lines_left base links ≡ option_map (λ (more : List ℕ). lines ++ more) (lines_left base (drop i links)) → Some lines ≡ lines_left base links
lines_all base links i lines beyond so_far =
    sym (so_far ∙ ap (λ (ls : List Link). option_map (λ (more : List ℕ). lines ++ more) (lines_left base ls)) (drop_all i links beyond) ∙ ap (λ (x : List ℕ). Some x) (append-nil lines))

-- ## A target

pub joined_target : (base target text : List ℕ) (result : Result (Option Parts) AllocError) → text ≡ target → IfOk result (λ url. MatchOption url (IsRefused (joined_url (Some base) text)) (λ u. joined_url (Some base) text ≡ Ok u))
    → IfOk result (λ url. option_map serialize url ≡ target_url base target)
joined_target base target text (Err e) same joins = tt
joined_target base target text (Ok None) same refused =
    sym (ap (λ (x : List ℕ). target_url base x) (sym same) ∙ ap (λ (p : Parsed Parts). option_map serialize (result_ok p)) refused.1)
joined_target base target text (Ok (Some url)) same is =
    sym (ap (λ (x : List ℕ). target_url base x) (sym same) ∙ ap (λ (p : Parsed Parts). option_map serialize (result_ok p)) is)
