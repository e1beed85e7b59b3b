-- The links to the Things: their text as it is written, and that it is read back.
use Rattle.std.proofs.Common.{◌≡◌, ◌∙◌, ℕ, Option, ◌+◌, ◌<◌, List, [], ◌∷◌, ◌++◌, map, length, drop, get_or, Bool, true, false, ◌&&◌, refl, sym, ap, subst, append_assoc, add-one, drop-cons, arith}
use Rattle.std.specs.Prelude.{◌||◌, ◌==◌, codes}
use Rattle.std.specs.List.{AllByRecursion, flat_map, list_all}
use Rattle.std.proofs.lemmas.Bool.{and_parts}
use Rattle.std.proofs.lemmas.Bool.Decides.{nat_tests}
use Rattle.wot_json.specs.Tree.{Json}
use Rattle.core_links.specs.Links.{IsLinkText, is_target_byte}
use Rattle.core_links.specs.Writing.{CanBeWritten, further_text, is_link, link_text}
use Rattle.core_links.proofs.ReadsBack.{text_is, read_back}
use Rattle.wot_forms.specs.Segments.{is_name_byte, is_plain_segment, is_segment_byte}
use Rattle.thing_site.specs.Site.{Site, Slots, exposed, site_of}
use Rattle.wot_terms.specs.declared.thing.Thing.{Thing}
use Rattle.wot_terms.specs.ThingLists.{kept_things, segments_in}
use Rattle.coap_bind.specs.declared.server.Server.{Server}
use Rattle.coap_bind.specs.Server.{start as nothing_came, with_links}
use Rattle.servient_core.specs.declared.capacity.TheConstants.{MOST_WATCHERS}
use Rattle.servient_core.specs.Machine.{start}
use Rattle.servient_core.specs.Links.{LinksNameEachThing, link_to, links_to, segments_of, text_of_links}

-- ---- the text as it is put

pub link_put : (old segment : List ℕ) → ((old ++ codes "</") ++ segment) ++ codes ">;rt=\"wot.thing\";ct=432" ≡ old ++ link_text (link_to segment)
link_put old segment =
    append_assoc (old ++ codes "</") segment (codes ">;rt=\"wot.thing\";ct=432") ∙ append_assoc old (codes "</") (segment ++ codes ">;rt=\"wot.thing\";ct=432")

left_at : (list : List Thing) (i : ℕ) (t : Thing) → i < length list → t ≡ get_or list i t → drop i list ≡ t ∷ drop (i + 1) list
left_at list i t within is = (rw (add-one, drop-cons list i t)) ∙ ap (λ (y : Thing). y ∷ drop (i + 1) list) (sym is)

-- a link more
pub further_more : (list : List Thing) (i : ℕ) (t : Thing) (text more whole : List ℕ) → i < length list → t ≡ get_or list i t
    → text ++ flat_map further_text (links_to (segments_in (drop i list))) ≡ whole → more ≡ text ++ further_text (link_to t.segment)
    → more ++ flat_map further_text (links_to (segments_in (drop (i + 1) list))) ≡ whole
further_more list i t text more whole within is so_far put =
    let rest : List ℕ = flat_map further_text (links_to (segments_in (drop (i + 1) list))) in
    ap (λ (x : List ℕ). x ++ rest) put ∙ append_assoc text (further_text (link_to t.segment)) rest
    ∙ ap (λ (ts : List Thing). text ++ flat_map further_text (links_to (segments_in ts))) (sym (left_at list i t within is)) ∙ so_far

-- ---- it can be written

both_true : (a b : Bool) → a ≡ true → b ≡ true → (a && b) ≡ true
both_true a b one other = ap (λ (x : Bool). x && b) one ∙ other

byte_of_target : (b : ℕ) → is_segment_byte b ≡ true → is_target_byte b ≡ true
byte_of_target b is = grind (arith, nat_tests)

plain_target : (segment : List ℕ) → is_plain_segment segment ≡ true → list_all is_target_byte segment ≡ true
plain_target [] is = refl
plain_target (b ∷ bs) is =
    let both = and_parts (is_segment_byte b) (is_plain_segment bs) is in
    both_true (is_target_byte b) (list_all is_target_byte bs) (byte_of_target b both.0) (plain_target bs both.1)

can_be_written : (segments : List (List ℕ)) → AllByRecursion (λ s. is_plain_segment s ≡ true) segments → CanBeWritten (links_to segments)
can_be_written [] plain = refl
can_be_written (s ∷ ss) plain =
    both_true (is_link (link_to s)) (list_all is_link (links_to ss)) (ap (λ (x : Bool). x && true) (plain_target s plain.0)) (can_be_written ss plain.1)

pub links_name_each_thing : LinksNameEachThing
links_name_each_thing segments r plain reads some = read_back (links_to segments) r (can_be_written segments plain) reads some

-- ---- the links of a servient

segments_are : (left_out : ℕ) (slots : Slots) (list : List Thing) → segments_in list ≡ segments_of (site_of left_out slots (kept_things list))
segments_are left_out slots [] = refl
segments_are left_out slots (t ∷ ts) = ap (λ (ss : List (List ℕ)). t.segment ∷ ss) (segments_are left_out slots ts)

-- by the Things that were handed in
pub segments_same : (left_out : ℕ) (slots : Slots) (list : List Thing) (things : List (List ℕ × Json)) (site : Site) → kept_things list ≡ things → site ≡ site_of left_out slots things
    → segments_in list ≡ segments_of site
segments_same left_out slots list things site kept is =
    segments_are left_out slots list ∙ ap (λ (ts : List (List ℕ × Json)). segments_of (site_of left_out slots ts)) kept ∙ sym (ap segments_of is)

-- the CoAP server is that with which the machine begins
pub coap_starts : (left_out : ℕ) (slots : Slots) (list : List Thing) (things : List (List ℕ × Json)) (site : Site) (exchanges : ℕ) (epoch : Option ℕ) (coap : Server) → kept_things list ≡ things → site ≡ site_of left_out slots things
    → coap ≡ with_links (text_of_links (segments_in list)) (nothing_came exchanges MOST_WATCHERS) → (start site exchanges epoch).coap ≡ coap
coap_starts left_out slots list things site exchanges epoch coap kept is coap_is =
    ap (λ (ss : List (List ℕ)). with_links (text_of_links ss) (nothing_came exchanges MOST_WATCHERS)) (sym (segments_same left_out slots list things site kept is)) ∙ sym coap_is

plain_segments : (left_out : ℕ) (slots : Slots) (things : List (List ℕ × Json)) → AllByRecursion (λ t. is_plain_segment t.0 ≡ true) things
    → AllByRecursion (λ s. is_plain_segment s ≡ true) (segments_of (site_of left_out slots things))
plain_segments left_out slots [] plain = tt
plain_segments left_out slots (t ∷ ts) plain = (plain.0, plain_segments left_out slots ts plain.1)

pub links_stand : (left_out : ℕ) (slots : Slots) (things : List (List ℕ × Json)) (site : Site) (text : List ℕ) → site ≡ site_of left_out slots things → text ≡ text_of_links (segments_of site)
    → AllByRecursion (λ t. is_plain_segment t.0 ≡ true) things → IsLinkText text (links_to (segments_of site))
links_stand left_out slots things site text is text_is_it plain =
    subst (λ (x : List ℕ). IsLinkText x (links_to (segments_of site))) (sym text_is_it)
    (text_is (links_to (segments_of site)) (can_be_written (segments_of site)
    (subst (λ (s : Site). AllByRecursion (λ x. is_plain_segment x ≡ true) (segments_of s)) (sym is) (plain_segments left_out slots things plain))))
