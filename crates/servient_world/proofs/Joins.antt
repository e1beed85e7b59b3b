-- The parts of bodies that the server keeps (RFC 7959, section 2.5): no two are of one origin, and that of an origin of the client's
-- has the bytes that the ledger says.
use Rattle.std.proofs.Common.{◌≡◌, ◌≢◌, ℕ, ◌∙◌, Bool, true, false, Option, Some, None, List, [], ◌∷◌, ◌++◌, remove, refl, sym, ap, subst, append-nil}
use Rattle.std.specs.Prelude.{◌==◌, unwrap_or, if◌then◌else◌}
use Rattle.std.proofs.lemmas.Option.{same_Some}
use Rattle.coap_msg.specs.declared.endpoint.Endpoint.{Endpoint}
use Rattle.coap_msg.specs.Grammar.{CoapMessage}
use Rattle.coap_blocks.specs.Paths.{lives}
use Rattle.coap_blocks.specs.Parts.{Origin, Arrival as BlockArrival, Part, living, new_part, after_block}
use Rattle.coap_blocks.specs.declared.added.Added.{Added}
use Rattle.coap_blocks.specs.declared.added.Added.TheVariants as answer
use Rattle.coap_blocks.proofs.PartLaws.{own_origin}
use Rattle.coap_bind.specs.declared.server.Server.{Server}
use Rattle.coap_bind.specs.Blocks.{added_reply}
use Rattle.coap_bind.specs.Server.{block_arrival}
use Rattle.coap_bind.specs.Writing.{Reply}
use Rattle.servient_world.specs.World.{client_place}
use Rattle.servient_world.specs.Led.{Led, to_refusal, to_no_memory, to_links, to_later_block, to_parts, to_act, to_act_on_whole, LeadsTo, is_refused, finds_no_memory, gets_links, gets_no_links, gets_block, is_joined, is_acted_on, is_acted_on_whole, BlockComes, BodyCompletes, leaves_text, leaves_nothing, drops_body, Leaves}
use Rattle.servient_world.proofs.BlockReplies.{not_zero}
use Rattle.servient_world.proofs.Ledger.{Entry, bytes_with, is_of, part_by, part_of, part_push}
use Rattle.servient_world.proofs.OwnParts.{Each, AreApart, each_weaker, each_filter, apart_filter, is_itself, LeftOver, OneOf, Outcome, Before, is_zero, after_outcome}

-- ---- the invariant

abbrev pub IsPart : List Entry → Part → Type 0
IsPart led p = p.origin.from ≡ client_place → part_of p.origin led ≡ Some p.bytes

pub record Joins (led : List Entry) (s : Server) : Type 0 where
  pub apart : AreApart s.parts
  pub parts : Each (IsPart led) s.parts

-- the effect of a block, by its answer
came : (led : List Entry) (from : Endpoint) (now : ℕ) (m : CoapMessage) (a : BlockArrival) (added : Added) (s : Server) (ps : List Part) → BlockComes from now m a added s ps → Joins led s
    → Outcome (IsPart led) (Before (IsPart led) a.block.number) a.origin a.payload added ps
came led from now m a added s ps comes j =
    let at = after_outcome (IsPart led) a (living now s.parts) (apart_filter (λ (p : Part). lives now p.moment) s.parts j.apart) (each_filter (IsPart led) (λ (p : Part). lives now p.moment) s.parts j.parts) in
    subst (λ (x : Added). Outcome (IsPart led) (Before (IsPart led) a.block.number) a.origin a.payload x ps) (sym comes.gives.answer_is)
    (subst (λ (x : List Part). Outcome (IsPart led) (Before (IsPart led) a.block.number) a.origin a.payload (after_block a (living now s.parts)).0 x) (sym comes.gives.parts_are) at)

joins_stay : (led more : List Entry) (s t : Server) → t.parts ≡ s.parts → ((o : Origin) → part_of o (led ++ more) ≡ part_of o led) → Joins led s → Joins (led ++ more) t
joins_stay led more s t same stays j = record {
  apart = subst AreApart (sym same) j.apart;
  parts = subst (Each (IsPart (led ++ more))) (sym same) (each_weaker (IsPart led) (IsPart (led ++ more)) s.parts (λ p is here. stays p.origin ∙ is here) j.parts);
}

left_joins : (led more : List Entry) (t : Server) (o : Origin) (ps : List Part) → t.parts ≡ ps → ((x : Origin) → part_of x (led ++ more) ≡ part_of x led) → LeftOver (IsPart led) o ps → Joins (led ++ more) t
left_joins led more t o ps same stays left = record {
  apart = subst AreApart (sym same) left.apart;
  parts = subst (Each (IsPart (led ++ more))) (sym same) (each_weaker (IsPart led) (IsPart (led ++ more)) ps (λ p is here. stays p.origin ∙ is here) left.others);
}

no_entry : (led : List Entry) (o : Origin) → part_of o (led ++ []) ≡ part_of o led
no_entry led o = ap (part_of o) (append-nil led)

without_nil : (led : List Entry) (s : Server) → Joins (led ++ []) s → Joins led s
without_nil led s j = subst (λ (l : List Entry). Joins l s) (append-nil led) j

pub joins_same : (led : List Entry) (s t : Server) → t.parts ≡ s.parts → Joins led s → Joins led t
joins_same led s t same j = without_nil led t (joins_stay led [] s t same (no_entry led) j)

-- ---- datagrams from elsewhere

foreign_answer : (led : List Entry) (o : Origin) (payload : List ℕ) (number : ℕ) (added : Added) (t : Server) (ps : List Part) → (o.from ≡ client_place → ⊥) → t.parts ≡ ps
    → ((i : ℕ) → added ≡ answer.Complete i → ⊥) → Outcome (IsPart led) (Before (IsPart led) number) o payload added ps → Joins led t
foreign_answer led o payload number answer.Continue t ps away same not_whole out = record {
  apart = subst AreApart (sym same) out.0;
  parts = subst (Each (IsPart led)) (sym same) (each_weaker (OneOf (IsPart led) (Before (IsPart led) number) o payload) (IsPart led) ps
      (λ p is here. is.0 (λ e. away (sym (ap (λ (x : Origin). x.from) e) ∙ here)) here) out.1);
}
foreign_answer led o payload number (answer.Complete i) t ps away same not_whole out = absurd (not_whole i refl)
foreign_answer led o payload number answer.BadBlock t ps away same not_whole out = record { apart = subst AreApart (sym same) out.0; parts = subst (Each (IsPart led)) (sym same) out.1 }
foreign_answer led o payload number answer.Incomplete t ps away same not_whole out = record { apart = subst AreApart (sym same) out.apart; parts = subst (Each (IsPart led)) (sym same) out.others }
foreign_answer led o payload number answer.TooLarge t ps away same not_whole out = record { apart = subst AreApart (sym same) out.apart; parts = subst (Each (IsPart led)) (sym same) out.others }
foreign_answer led o payload number answer.Full t ps away same not_whole out = record { apart = subst AreApart (sym same) out.apart; parts = subst (Each (IsPart led)) (sym same) out.others }

-- the answer to a block alone isn't that the body is whole
not_whole_answer : (from : Endpoint) (now : ℕ) (m : CoapMessage) (links : List ℕ) (seen : Option ℕ) (l : Led) (r : Reply) (a : BlockArrival) (added : Added) → LeadsTo from now m links seen l r → l ≡ to_parts a added
    → (i : ℕ) → added ≡ answer.Complete i → ⊥
not_whole_answer from now m links seen l r a added (is_refused some same) is i e = cc
not_whole_answer from now m links seen l r a added (finds_no_memory same says) is i e = cc
not_whole_answer from now m links seen l r a added (gets_links wants links_it same says) is i e = cc
not_whole_answer from now m links seen l r a added (gets_no_links links_it same says) is i e = cc
not_whole_answer from now m links seen l r a added (gets_block b found wants same says) is i e = cc
not_whole_answer from now m links seen l r a added (is_joined b x wants same says) is i e =
    let one : x ≡ added = cc in
    let none : added_reply b (answer.Complete i) ≡ Some r = subst (λ (y : Added). added_reply b y ≡ Some r) (one ∙ e) says in
    cc
not_whole_answer from now m links seen l r a added (is_acted_on x wants apart same what code place says) is i e = cc
not_whole_answer from now m links seen l r a added (is_acted_on_whole x b body wants apart same what code place says) is i e = cc

-- the sender of a block
from_of : (from : Endpoint) (now : ℕ) (m : CoapMessage) (a : BlockArrival) → a ≡ block_arrival from now m a.block → a.origin.from ≡ from
from_of from now m a same = ap (λ (x : BlockArrival). x.origin.from) same

pub joins_elsewhere : (led : List Entry) (from : Endpoint) (now : ℕ) (m : CoapMessage) (links : List ℕ) (seen : Option ℕ) (l : Led) (r : Reply) (s t : Server) → (from ≡ client_place → ⊥)
    → LeadsTo from now m links seen l r → Leaves from now m l s t → Joins led s → Joins led t
joins_elsewhere led from now m links seen l r s t away leads leaves j = by_led l refl leaves
  where
    stays : t.parts ≡ s.parts → Joins led t
    stays same = joins_same led s t same j

    gone : (a : BlockArrival) (i : ℕ) (ps : List Part) → BlockComes from now m a (answer.Complete i) s ps → t.parts ≡ remove ps i → Joins led t
    gone a i ps comes after =
        let w = came led from now m a (answer.Complete i) s ps comes j in
        without_nil led t (left_joins led [] t a.origin (remove ps i) after (no_entry led) w.left)

    by_led : (x : Led) → l ≡ x → Leaves from now m x s t → Joins led t
    by_led to_refusal is it = stays it.parts
    by_led to_no_memory is it = stays it.parts
    by_led to_links is (leaves_text links_it bodies parts) = stays parts
    by_led to_links is (leaves_nothing same) = stays same.parts
    by_led to_links is (drops_body a place parts comes after bodies) = gone a place parts comes after
    by_led (to_later_block path b found) is it = stays it.1.parts
    by_led (to_parts a added) is it =
        foreign_answer led a.origin a.payload a.block.number added t t.parts (λ here. away (sym (from_of from now m a it.0.arrival) ∙ here)) refl
        (not_whole_answer from now m links seen l r a added leads is) (came led from now m a added s t.parts it.0 j)
    by_led (to_act a) is it = stays it.1
    by_led (to_act_on_whole b a) is it = gone b it.0.place it.0.parts it.0.comes it.0.after

-- ---- datagrams from the client

bytes_are : (led : List Entry) (a : BlockArrival) (own : Part) → own.origin ≡ a.origin → own.origin.from ≡ client_place → Before (IsPart led) a.block.number own
    → bytes_with a (part_of a.origin led) ≡ own.bytes ++ a.payload
bytes_are led a own origin here is = by_test (a.block.number == 0) refl
  where
    by_test : (first : Bool) → (a.block.number == 0) ≡ first → (if first then a.payload else unwrap_or (part_of a.origin led) [] ++ a.payload) ≡ own.bytes ++ a.payload
    by_test true e = ap (λ (l : List ℕ). l ++ a.payload) (sym (is.0 (is_zero a.block.number e)))
    by_test false e =
        let before : part_of own.origin led ≡ Some own.bytes = is.1 (not_zero a.block.number e) here in
        ap (λ (o : Option (List ℕ)). unwrap_or o [] ++ a.payload) (ap (λ (o : Origin). part_of o led) (sym origin) ∙ before)

grown_part : (led : List Entry) (x : Entry) (a : BlockArrival) (p : Part) → x.led ≡ to_parts a answer.Continue → a.origin.from ≡ client_place
    → OneOf (IsPart led) (Before (IsPart led) a.block.number) a.origin a.payload p → IsPart (led ++ x ∷ []) p
grown_part led x a p is_it from is here =
    part_push p.origin None led x ∙ (ap (λ (l : Led). part_by p.origin l (part_of p.origin led)) is_it ∙ by_test (is_of p.origin a) refl)
  where
    by_test : (c : Bool) → is_of p.origin a ≡ c → (if c then Some (bytes_with a (part_of p.origin led)) else part_of p.origin led) ≡ Some p.bytes
    by_test true e =
        let same : a.origin ≡ p.origin = own_origin p.origin (new_part a.origin 0) e in
        let g = is.1 (sym same) in
        let bytes : bytes_with a (part_of a.origin led) ≡ g.own.bytes ++ a.payload = bytes_are led a g.own g.origin (ap (λ (o : Origin). o.from) g.origin ∙ from) g.is in
        ap (λ (l : List ℕ). Some l) (ap (λ (o : Origin). bytes_with a (part_of o led)) (sym same) ∙ (bytes ∙ ap (λ (q : Part). q.bytes) (sym g.grown)))
    by_test false e = is.0 (not_same e) here
      where
        not_same : is_of p.origin a ≡ false → p.origin ≢ a.origin
        not_same isnt same = let wrong = is_itself p.origin (new_part a.origin 0) (sym same) in cc

-- an entry that joins no block
plain_part : (led : List Entry) (x : Entry) → ((o : Origin) (before : Option (List ℕ)) → part_by o x.led before ≡ before) → (o : Origin) → part_of o (led ++ x ∷ []) ≡ part_of o led
plain_part led x none o = part_push o None led x ∙ none o (part_of o led)

pub joins_admits : (led : List Entry) (now : ℕ) (m : CoapMessage) (links : List ℕ) (seen : Option ℕ) (x : Entry) (s t : Server) → LeadsTo client_place now m links seen x.led x.reply → Leaves client_place now m x.led s t
    → Joins led s → Joins (led ++ x ∷ []) t
joins_admits led now m links seen x s t leads leaves j = by_led x.led refl leaves
  where
    none : (l : Led) → x.led ≡ l → ((o : Origin) (before : Option (List ℕ)) → part_by o l before ≡ before) → (o : Origin) → part_of o (led ++ x ∷ []) ≡ part_of o led
    none l is each = plain_part led x (λ o before. ap (λ (y : Led). part_by o y before) is ∙ each o before)

    stays : (l : Led) → x.led ≡ l → ((o : Origin) (before : Option (List ℕ)) → part_by o l before ≡ before) → t.parts ≡ s.parts → Joins (led ++ x ∷ []) t
    stays l is each same = joins_stay led (x ∷ []) s t same (none l is each) j

    gone : (l : Led) → x.led ≡ l → ((o : Origin) (before : Option (List ℕ)) → part_by o l before ≡ before) → (a : BlockArrival) (i : ℕ) (ps : List Part) → BlockComes client_place now m a (answer.Complete i) s ps
        → t.parts ≡ remove ps i → Joins (led ++ x ∷ []) t
    gone l is each a i ps comes after = left_joins led (x ∷ []) t a.origin (remove ps i) after (none l is each) (came led client_place now m a (answer.Complete i) s ps comes j).left

    by_answer : (a : BlockArrival) (added : Added) → x.led ≡ to_parts a added → a.origin.from ≡ client_place → ((i : ℕ) → added ≡ answer.Complete i → ⊥)
        → Outcome (IsPart led) (Before (IsPart led) a.block.number) a.origin a.payload added t.parts → Joins (led ++ x ∷ []) t
    by_answer a answer.Continue is here not_whole out = record {
      apart = out.0;
      parts = each_weaker (OneOf (IsPart led) (Before (IsPart led) a.block.number) a.origin a.payload) (IsPart (led ++ x ∷ [])) t.parts (λ p one. grown_part led x a p is here one) out.1;
    }
    by_answer a (answer.Complete i) is here not_whole out = absurd (not_whole i refl)
    by_answer a answer.BadBlock is here not_whole out = record {
      apart = out.0;
      parts = each_weaker (IsPart led) (IsPart (led ++ x ∷ [])) t.parts (λ p one at. none (to_parts a answer.BadBlock) is (λ o before. refl) p.origin ∙ one at) out.1;
    }
    by_answer a answer.Incomplete is here not_whole out = left_joins led (x ∷ []) t a.origin t.parts refl (none (to_parts a answer.Incomplete) is (λ o before. refl)) out
    by_answer a answer.TooLarge is here not_whole out = left_joins led (x ∷ []) t a.origin t.parts refl (none (to_parts a answer.TooLarge) is (λ o before. refl)) out
    by_answer a answer.Full is here not_whole out = left_joins led (x ∷ []) t a.origin t.parts refl (none (to_parts a answer.Full) is (λ o before. refl)) out

    by_led : (l : Led) → x.led ≡ l → Leaves client_place now m l s t → Joins (led ++ x ∷ []) t
    by_led to_refusal is it = stays to_refusal is (λ o before. refl) it.parts
    by_led to_no_memory is it = stays to_no_memory is (λ o before. refl) it.parts
    by_led to_links is (leaves_text links_it bodies parts) = stays to_links is (λ o before. refl) parts
    by_led to_links is (leaves_nothing same) = stays to_links is (λ o before. refl) same.parts
    by_led to_links is (drops_body a place parts comes after bodies) = gone to_links is (λ o before. refl) a place parts comes after
    by_led (to_later_block path b found) is it = stays (to_later_block path b found) is (λ o before. refl) it.1.parts
    by_led (to_parts a added) is it =
        by_answer a added is (from_of client_place now m a it.0.arrival) (not_whole_answer client_place now m links seen x.led x.reply a added leads is) (came led client_place now m a added s t.parts it.0 j)
    by_led (to_act a) is it = stays (to_act a) is (λ o before. refl) it.1
    by_led (to_act_on_whole b a) is it = gone (to_act_on_whole b a) is (λ o before. refl) b it.0.place it.0.parts it.0.comes it.0.after

-- the body that is acted on is the bytes that the entries before joined, and the last block
pub whole_for : (led : List Entry) (now : ℕ) (m : CoapMessage) (b : BlockArrival) (body : List ℕ) (s t : Server) → (c : BodyCompletes client_place now m b s t) → body ≡ c.whole.bytes → Joins led s
    → body ≡ bytes_with b (part_of b.origin led)
whole_for led now m b body s t c is j =
    let w = came led client_place now m b (answer.Complete c.place) s c.parts c.comes j in
    let one : w.part ≡ c.whole = same_Some w.part c.whole (sym w.there ∙ c.there) in
    let here : b.origin.from ≡ client_place = from_of client_place now m b c.comes.arrival in
    let bytes = bytes_are led b w.grown.own w.grown.origin (ap (λ (o : Origin). o.from) w.grown.origin ∙ here) w.grown.is in
    is ∙ (ap (λ (p : Part). p.bytes) (sym one) ∙ (ap (λ (p : Part). p.bytes) w.grown.grown ∙ sym bytes))

pub joins_at_start : (s : Server) → s.parts ≡ [] → Joins [] s
joins_at_start s none = record { apart = subst AreApart (sym none) tt; parts = subst (Each (IsPart [])) (sym none) tt }
