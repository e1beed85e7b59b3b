-- Consuming a derived Thing over HTTP does what is described.
use Rattle.std.proofs.Common.{◌≡◌, ◌≢◌, ℕ, Bool, true, false, List, [], ◌∷◌, ◌++◌, Option, Some, None, option_map, inl, inr, refl, sym, ap, subst, ◌∙◌}
use Rattle.std.specs.Prelude.{◌⊎◌, IfSome}
use Rattle.wot_json.specs.Json.{text_of}
use Rattle.wot_forms.specs.declared.bases.Bases.{Bases}
use Rattle.thing_ops.specs.declared.outcome.Outcome.{Outcome}
use Rattle.thing_ops.specs.Outcomes.{answer_of, payload_of}
use Rattle.thing_ops.specs.Requests.{RequestSeen}
use Rattle.thing_site.specs.Site.{ExposedThing, Site, site_of}
use Rattle.http_replies.specs.declared.reply_scan.ReplyScan.TheVariants as scan
use Rattle.http_replies.specs.declared.reply_scan.ReplyFront.TheVariants as front
use Rattle.http_replies.specs.ReplyFronts.{IsReply, no_end}
use Rattle.http_replies.proofs.OneReply.{at_most_one_reply}
use Rattle.http_bind.specs.Replying.{reply, head_with}
use Rattle.wot_consumer.specs.declared.chosen.Chosen.{Chosen}
use Rattle.network_consumer.specs.declared.consumed.Consumed.{Consumed}
use Rattle.network_consumer.specs.declared.consumed.Consumed.TheVariants.{Done}
use Rattle.network_consumer.specs.declared.consumed.Status.TheVariants as status
use Rattle.network_consumer.specs.declared.operation.ThingOperation.{ThingOperation}
use Rattle.network_consumer.specs.Answers.{is_success}
use Rattle.network_consumer.specs.Consuming.{input_of}
use Rattle.network_consumer.specs.Deeds.{Deed}
use Rattle.description_laws.proofs.Members.{each_of}
use Rattle.consumer_laws.specs.Asking.{request_for}
use Rattle.consumer_laws.specs.Choosing.{IsItsAct, IsWhatWasChosen}
use Rattle.consumer_laws.specs.Consuming.{IsBetween, PrintsItAlone, DoesItOnce, DoesWhatIsDescribed, ConsumingDoesWhatIsDescribed}
use Rattle.consumer_laws.specs.Replying.{AreReadBack}
use Rattle.consumer_laws.proofs.Printing.{printed_alone}
use Rattle.consumer_laws.proofs.RepliesRead.{read}
use Rattle.consumer_laws.proofs.WhatWasChosen.{chosen}

-- no bytes are no reply
some_written : (written payload : List ℕ) (number : ℕ) → AreReadBack written number payload → written ≢ []
some_written written payload number back none =
    never (at_most_one_reply [] false (scan.Whole number payload) scan.Short (subst (λ (x : List ℕ). IsReply x false (scan.Whole number payload)) none (back.whole false)) (front.Awaited, no_end 0 [] refl refl, refl))
  where
    never : scan.Whole number payload ≡ scan.Short → ⊥
    never e = cc

module _ (site : Site) (thing : ExposedThing) (o : ThingOperation) (c : Chosen) (input : Option (List ℕ)) (outcome : Outcome) (taken : List RequestSeen) (deeds : List Deed) (r : Consumed)
    (its_act : IsItsAct site thing o.op o.name.now c) (either : (taken ≡ []) ⊎ (taken ≡ request_for c input ∷ [])) (between : IsBetween c input outcome taken deeds) where
  with_status : (number : ℕ) → (answer_of outcome).status ≡ Some number → AreReadBack between.written number (payload_of outcome) → PrintsItAlone between.written number (payload_of outcome) deeds r
      → DoesItOnce site thing o c input outcome taken deeds r
  with_status number is back alone = record {
    its_act = its_act;
    at_most_once = either;
    once = λ done. by done either;
    success = λ done. subst (λ (s : Option ℕ). IfSome s (λ n. is_success (status.Http n) ≡ true)) (sym is) (alone.success done);
    printed_it = alone.printed_it;
    undone = alone.undone;
  }
    where
      by : r ≡ Done → (taken ≡ []) ⊎ (taken ≡ request_for c input ∷ []) → taken ≡ request_for c input ∷ []
      by done (inr same) = same
      by done (inl none) = absurd (some_written between.written (payload_of outcome) number back (sym (alone.heard done).1 ∙ between.later none (alone.heard done).0))

-- a reply that is written has a status
has_status : (outcome : Outcome) (closes : Bool) (written : List ℕ) (s : Option ℕ) → (answer_of outcome).status ≡ s → reply false closes outcome ≡ Some written → (number : ℕ) × ((answer_of outcome).status ≡ Some number)
has_status outcome closes written (Some number) is answers = (number, is)
has_status outcome closes written None is answers = absurd (never (sym (ap (λ (s : Option ℕ). option_map (λ head. head ++ payload_of outcome) (option_map (head_with closes outcome) s)) is) ∙ answers))
  where
    never : None ≡ Some written → ⊥
    never e = cc

does : (bases : Bases) (site : Site) (thing : ExposedThing) → IsWhatWasChosen bases site thing → DoesWhatIsDescribed bases site thing
does bases site thing was o only c outcome taken deeds r same consumed are choice http written_so can consumes between =
    let asked = was o.op only o.name.now c (option_map text_of (input_of o)) consumed are choice http written_so can in
    let number = has_status outcome between.closes between.written (answer_of outcome).status refl between.answers in
    let back : AreReadBack between.written number.0 (payload_of outcome) = read outcome between.closes number.0 between.written number.1 between.answers between.version between.fits in
    with_status site thing o c (option_map text_of (input_of o)) outcome taken deeds r asked.0
    (asked.1.pieces.at_most between.servient taken between.lost between.has between.comes) between number.0 number.1 back
    (printed_alone o c deeds r between.written (payload_of outcome) number.0 http consumes back between.brings)

pub consuming : ConsumingDoesWhatIsDescribed
consuming models values choices frame root things slots left_out is plain some isnt well =
    let site : Site = site_of left_out slots things in
    each_of (IsWhatWasChosen frame.bases site) (DoesWhatIsDescribed frame.bases site) (does frame.bases site) site.things
    (chosen models values choices frame root things slots left_out is plain some isnt well)
