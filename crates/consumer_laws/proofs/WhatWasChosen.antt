-- The requests of a consumer of derived descriptions are what was chosen, for each Thing.
use Rattle.std.proofs.Common.{◌≡◌, ℕ, true, List, [], ◌∷◌, map, Ok, sym, subst}
use Rattle.std.specs.List.{AllByRecursion}
use Rattle.wot_json.specs.Tree.{Json}
use Rattle.wot_forms.specs.declared.bases.Bases.{Bases}
use Rattle.wot_forms.specs.Generated.{generated}
use Rattle.wot_forms.specs.Segments.{is_plain_segment}
use Rattle.tm_derive.specs.Derivation.{Things}
use Rattle.tm_derive.proofs.NoFaults.{AreGood, derived_good}
use Rattle.thing_site.specs.Site.{Site, Slots, exposed, site_of}
use Rattle.wot_consumer.specs.Messages.{request_bytes}
use Rattle.description_laws.specs.Leading.{IsReached}
use Rattle.description_laws.proofs.Leading.{over_things, lead}
use Rattle.description_laws.proofs.Members.{each_of}
use Rattle.description_laws.proofs.Things.{IsGenerated, things_made}
use Rattle.consumer_laws.specs.Asking.{request_for}
use Rattle.consumer_laws.specs.Choosing.{IsWhatWasChosen, RequestsAreWhatWasChosen}
use Rattle.consumer_laws.proofs.Choices.{known_choice}
use Rattle.consumer_laws.proofs.Pieces.{taken_once}
use Rattle.consumer_laws.proofs.RequestsRead.{one_message}

of_generated : (bases : Bases) (site : Site) (segment : List ℕ) → is_plain_segment segment ≡ true → (slots : Slots) (value : Json)
    → IsReached bases site (exposed slots (segment, generated value bases segment)) → IsWhatWasChosen bases site (exposed slots (segment, generated value bases segment))
of_generated bases site segment plain slots value reached o only name c input consumed are chosen http read can =
    let known = known_choice bases site segment plain slots o only name c consumed are http value reached chosen read in
    let one = one_message c input can known.verb known.path in
    (known.its_act, record { message = one; pieces = taken_once (request_bytes c input) (request_for c input) one })

abbrev Thing : Type 0
Thing = List ℕ × Json

-- what is known of a derived Thing
pub record IsKnown (bases : Bases) (root : List ℕ) (site : Site) (slots : Slots) (t : Thing) : Type 0 where
  pub generated : IsGenerated bases root t
  pub plain : is_plain_segment t.0 ≡ true
  pub reached : IsReached bases site (exposed slots t)

all_known : (bases : Bases) (root : List ℕ) (site : Site) (slots : Slots) (things : Things) → AllByRecursion (IsGenerated bases root) things → AllByRecursion (λ (t : Thing). is_plain_segment t.0 ≡ true) things
    → AllByRecursion (IsReached bases site) (map (exposed slots) things) → AllByRecursion (IsKnown bases root site slots) things
all_known bases root site slots [] made plain reached = tt
all_known bases root site slots (t ∷ things) made plain reached =
    (record { generated = made.0; plain = plain.0; reached = reached.0 }, all_known bases root site slots things made.1 plain.1 reached.1)

one : (bases : Bases) (root : List ℕ) (site : Site) (slots : Slots) (t : Thing) → IsKnown bases root site slots t → IsWhatWasChosen bases site (exposed slots t)
one bases root site slots t known =
    subst (λ (x : Json). IsReached bases site (exposed slots (t.0, x)) → IsWhatWasChosen bases site (exposed slots (t.0, x))) (sym known.generated.is)
    (of_generated bases site t.0 known.plain slots known.generated.value) known.reached

pub chosen : RequestsAreWhatWasChosen
chosen models values choices frame root things slots left_out is plain some isnt well =
    let good : AreGood frame.segment things = derived_good models values choices frame root (Ok things) is in
    let site : Site = site_of left_out slots things in
    over_things slots (IsWhatWasChosen frame.bases site) things
    (each_of (IsKnown frame.bases frame.segment site slots) (λ (t : Thing). IsWhatWasChosen frame.bases site (exposed slots t)) (one frame.bases frame.segment site slots) things
    (all_known frame.bases frame.segment site slots things (things_made models values choices frame root things is) (good.plain plain)
    (lead models values choices frame root things slots left_out is plain some isnt well)))
