-- Links of models, as the code looks at them.
use Rattle.std.proofs.Common.{◌≡◌, ℕ, ◌+◌, ◌<◌, ◌≤◌, List, [], ◌∷◌, ◌++◌, length, map, drop, get_or, Bool, true, false, ◌&&◌, not, refl, sym, ap, ◌∙◌, cond, append_assoc}
use Rattle.std.proofs.lemmas.List.{append-nil, drop_all, map_push}
use Rattle.std.specs.Prelude.{Option, Some, None, option_map, is_none, is_some, codes}
use Rattle.wot_json.specs.Tree.{Json, object, Members}
use Rattle.wot_json.specs.Lookup.{member_list, member_named}
use Rattle.wot_json.specs.declared.tree.Tree.{Tree}
use Rattle.tm_parts.specs.Views.{seen}
use Rattle.tm_parts.specs.declared.view.View.{View}
use Rattle.tm_resolve.specs.Links.{reference_name, has_relation, is_link, links_from}
use Rattle.tm_resolve.specs.ModelLinks.{ModelLink, model_link, kept_link, kept_links}
use Rattle.tm_resolve.specs.declared.model_links.CountedLink.{CountedLink}
use Rattle.tm_resolve.proofs.Loops.{left_at}

-- something is found where something is there
none_alike : (r : Option View) → is_none (option_map seen r) ≡ not (is_some r)
none_alike None = refl
none_alike (Some view) = refl

-- a link by what the code finds of its members
pub link_found : (relation : List ℕ) (v : Json) (ms : Members) (r : Option View) (some : Bool) → object ms ≡ v → option_map seen r ≡ member_named reference_name (member_list ms) → is_some r ≡ some
    → is_link relation v ≡ not some && has_relation relation (member_list ms)
link_found relation v ms r some is found tested =
    ap (λ (w : Json). is_link relation w) (sym is)
    ∙ ap (λ (b : Bool). b && has_relation relation (member_list ms)) (ap (λ (o : Option Json). is_none o) (sym found) ∙ none_alike r ∙ ap not tested)

-- the first link at a place
pub next_found : (meaning : Tree → Json) (links : List Tree) (index : ℕ) (link : Tree) → index < length links → link ≡ get_or links index link → is_link (codes "tm:extends") (meaning link) ≡ true
    → links_from (codes "tm:extends") index (map meaning (drop index links)) ≡ (index, meaning link) ∷ links_from (codes "tm:extends") (index + 1) (map meaning (drop (index + 1) links))
next_found meaning links index link within is extends =
    let left : drop index links ≡ link ∷ drop (index + 1) links = left_at links index link within is in
    let rest : List (ℕ × Json) = links_from (codes "tm:extends") (index + 1) (map meaning (drop (index + 1) links)) in
    ap (λ (ts : List Tree). links_from (codes "tm:extends") index (map meaning ts)) left
    ∙ ap (λ (b : Bool). cond b ((index, meaning link) ∷ rest) rest) extends

-- ---- links that count, one after another

-- the links made of those before an index, and those that the others will give
abbrev pub LinksGoOn : (Tree → Json) → List ℕ → List ℕ → List Tree → List CountedLink → ℕ → Type 0
LinksGoOn meaning relation url list made index =
    kept_links made ++ map (model_link url) (links_from relation index (map meaning (drop index list))) ≡ map (model_link url) (links_from relation 0 (map meaning list))

-- a link that counts is made
pub link_more : (meaning : Tree → Json) (relation url : List ℕ) (list : List Tree) (made grown : List CountedLink) (index : ℕ) (t : Tree) (link : CountedLink) → index < length list → t ≡ get_or list index t → is_link relation (meaning t) ≡ true → kept_link link ≡ model_link url (index, meaning t)
    → grown ≡ made ++ link ∷ [] → LinksGoOn meaning relation url list made index → LinksGoOn meaning relation url list grown (index + 1)
link_more meaning relation url list made grown index t link within is counts link_is grown_is before =
    let left : drop index list ≡ t ∷ drop (index + 1) list = left_at list index t within is in
    let rest : List (ℕ × Json) = links_from relation (index + 1) (map meaning (drop (index + 1) list)) in
    ap (λ (ls : List CountedLink). kept_links ls ++ map (model_link url) rest) grown_is
    ∙ ap (λ (ls : List ModelLink). ls ++ map (model_link url) rest) (map_push kept_link made link)
    ∙ append_assoc (kept_links made) (kept_link link ∷ []) (map (model_link url) rest)
    ∙ ap (λ (l : ModelLink). kept_links made ++ l ∷ map (model_link url) rest) link_is
    ∙ ap (λ (b : Bool). kept_links made ++ map (model_link url) (cond b ((index, meaning t) ∷ rest) rest)) (sym counts)
    ∙ ap (λ (ts : List Tree). kept_links made ++ map (model_link url) (links_from relation index (map meaning ts))) (sym left)
    ∙ before

-- another is passed over
pub link_other : (meaning : Tree → Json) (relation url : List ℕ) (list : List Tree) (made : List CountedLink) (index : ℕ) (t : Tree) → index < length list → t ≡ get_or list index t → is_link relation (meaning t) ≡ false
    → LinksGoOn meaning relation url list made index → LinksGoOn meaning relation url list made (index + 1)
link_other meaning relation url list made index t within is other before =
    let left : drop index list ≡ t ∷ drop (index + 1) list = left_at list index t within is in
    let rest : List (ℕ × Json) = links_from relation (index + 1) (map meaning (drop (index + 1) list)) in
    ap (λ (b : Bool). kept_links made ++ map (model_link url) (cond b ((index, meaning t) ∷ rest) rest)) (sym other)
    ∙ ap (λ (ts : List Tree). kept_links made ++ map (model_link url) (links_from relation index (map meaning ts))) (sym left)
    ∙ before

-- the end of the links
pub links_end : (meaning : Tree → Json) (relation url : List ℕ) (list : List Tree) (links : List Json) (made : List CountedLink) (index : ℕ) → map meaning list ≡ links → length list ≤ index → LinksGoOn meaning relation url list made index
    → kept_links made ≡ map (model_link url) (links_from relation 0 links)
links_end meaning relation url list links made index same past before =
    sym (append-nil (kept_links made))
    ∙ ap (λ (ts : List Tree). kept_links made ++ map (model_link url) (links_from relation index (map meaning ts))) (sym (drop_all index list past))
    ∙ before
    ∙ ap (λ (vs : List Json). map (model_link url) (links_from relation 0 vs)) same
