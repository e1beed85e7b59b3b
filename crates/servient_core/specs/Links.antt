-- The links to the Things of a servient, which a GET of `/.well-known/core` by CoAP is answered with: one for each, in
-- their order, that says that the description of a Thing is there (WoT Discovery, section "CoRE Link Formats and CoRE
-- Resource Directory"; RFC 6690).
use Rattle.std.specs.Prelude.{◌≡◌, ◌≢◌, ℕ, List, [], ◌∷◌, ◌++◌, map, codes, true, Some, Result, Ok, Err}
use Rattle.std.specs.List.{AllByRecursion}
use Rattle.core_links.specs.declared.links.Param.{Param}
use Rattle.core_links.specs.declared.links.Link.{Link}
use Rattle.core_links.specs.declared.reading.LinkFault.{LinkFault}
use Rattle.core_links.specs.declared.reading.LinkFault.TheVariants.{NoMemory}
use Rattle.core_links.specs.Links.{ReadsLinks}
use Rattle.core_links.specs.Writing.{links_text}
use Rattle.wot_forms.specs.Segments.{is_plain_segment}
use Rattle.thing_site.specs.Site.{Site}

-- a parameter of a link
abbrev pub param : List ℕ → List ℕ → Param
param name value = record { name = name; value = Some value }

-- the link to the Thing of a segment: to its description, a Thing Description in JSON (the content format 432)
abbrev pub link_to : List ℕ → Link
link_to segment = record {
  target = codes "/" ++ segment;
  params = param (codes "rt") (codes "wot.thing") ∷ param (codes "ct") (codes "432") ∷ [];
}

abbrev pub links_to : List (List ℕ) → List Link
links_to segments = map link_to segments

-- the text of the links to Things of these segments
abbrev pub text_of_links : List (List ℕ) → List ℕ
text_of_links segments = links_text (links_to segments)

-- the segments of Things, in their order
abbrev pub segments_of : Site → List (List ℕ)
segments_of site = map (λ thing. thing.segment) site.things

-- Where each segment is plain, reading that text gives just these links, a link to each Thing in order; or the reader
-- is out of memory.
abbrev pub LinksNameEachThing : Type 0
LinksNameEachThing =
    (segments : List (List ℕ)) (r : Result (List Link) LinkFault) → AllByRecursion (λ s. is_plain_segment s ≡ true) segments
    → ReadsLinks (text_of_links segments) r → r ≢ Err NoMemory → r ≡ Ok (links_to segments)
