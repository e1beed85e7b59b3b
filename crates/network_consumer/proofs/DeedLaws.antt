-- Laws of deeds, and of what the outside shows of them.
use Rattle.std.proofs.Common.{◌≡◌, ◌≢◌, ℕ, List, [], ◌∷◌, ◌++◌, refl, sym, ap, subst, ◌∙◌, append_assoc, arith}
use Rattle.std.specs.Prelude.{codes}
use Rattle.std.proofs.lemmas.Grind.{flat_map-append}
use Rattle.std.proofs.lemmas.List.{append-nil}
use Rattle.std.proofs.lemmas.List.Elements.{filter_map-append}
use Rattle.servient_outside.specs.declared.out.Put.{Put}
use Rattle.servient_outside.specs.declared.out.Put.TheVariants as put
use Rattle.servient_outside.specs.Network.{Happening, NetSeen, NetShows}
use Rattle.servient_outside.specs.Out.{OutSeen, OutShows}
use Rattle.servient_outside.proofs.NetLaws.{net_shows_none, net_shows_then}
use Rattle.servient_outside.proofs.OutLaws.{fits_none, fits_then, fits_no_longer}
use Rattle.servient_outside.proofs.ToldLaws.{continues_same, continues_then}
use Rattle.network_consumer.specs.Deeds.{Deed, happen, happening_in, happened_in, printed_in, text_in, printed, Sight, sight, ShowsDeeds}

pub happened_in-happen : (hs : List Happening) → happened_in (happen hs) ≡ hs
happened_in-happen [] = refl
happened_in-happen (h ∷ hs) = ap (λ (more : List Happening). h ∷ more) (happened_in-happen hs)

pub text_in-happen : (hs : List Happening) → text_in (happen hs) ≡ []
text_in-happen [] = refl
text_in-happen (h ∷ hs) = text_in-happen hs

-- ## The output

pub out_none : (o : OutSeen) → OutShows o o put.Done []
out_none o = record { writes = continues_same o.written; faults = omega arith; failed = λ e. absurd cc; fits = fits_none o }

pub out_then : (a b c : OutSeen) (p : Put) (x y : List ℕ) → OutShows a b put.Done x → OutShows b c p y → OutShows a c p (x ++ y)
out_then a b c put.Done x y first second = record {
  writes = continues_then a.written b.written c.written x y first.writes second.writes;
  faults = omega (arith, first.faults, second.faults);
  failed = λ e. absurd cc;
  fits = fits_then a b c put.Done x y first.fits second.fits;
}
out_then a b c put.Failed x y first second = record {
  writes = (
    x ++ second.writes.0,
    second.writes.1,
    ap (λ (z : List ℕ). x ++ z) second.writes.2 ∙ sym (append_assoc x second.writes.0 second.writes.1),
    continues_then a.written b.written c.written x second.writes.0 first.writes second.writes.3,
  );
  faults = omega (arith, first.faults, second.faults);
  failed = λ e. (let rose = second.failed refl in omega (arith, first.faults, rose));
  fits = fits_then a b c put.Failed x y first.fits second.fits;
}

-- the output failed at a piece, and so at a longer one
pub out_failed : (a b : OutSeen) (x y : List ℕ) → OutShows a b put.Failed x → OutShows a b put.Failed (x ++ y)
out_failed a b x y shows = record {
  writes = (shows.writes.0, shows.writes.1 ++ y, ap (λ (z : List ℕ). z ++ y) shows.writes.2 ∙ append_assoc shows.writes.0 shows.writes.1 y, shows.writes.3);
  faults = shows.faults;
  failed = shows.failed;
  fits = fits_no_longer a b x y shows.fits;
}

-- the printing of a payload is one text
text_of_printed : (payload : List ℕ) → payload ≢ [] → text_in (printed payload) ≡ payload ++ codes "\n"
text_of_printed [] some = absurd (some refl)
text_of_printed (byte ∷ bytes) some = append-nil ((byte ∷ bytes) ++ codes "\n")

pub prints_nothing : (o : OutSeen) (payload : List ℕ) → payload ≡ [] → OutShows o o put.Done (text_in (printed payload))
prints_nothing o payload none = subst (λ (x : List ℕ). OutShows o o put.Done (text_in (printed x))) (sym none) (out_none o)

pub prints_whole : (a b c : OutSeen) (p : Put) (payload end : List ℕ) → payload ≢ [] → end ≡ codes "\n" → OutShows a b put.Done payload → OutShows b c p end → OutShows a c p (text_in (printed payload))
prints_whole a b c p payload end some is first second =
    subst (OutShows a c p) (sym (text_of_printed payload some)) (out_then a b c p payload (codes "\n") first (subst (OutShows b c p) is second))

pub prints_part : (a b : OutSeen) (payload : List ℕ) → payload ≢ [] → OutShows a b put.Failed payload → OutShows a b put.Failed (text_in (printed payload))
prints_part a b payload some shows = subst (OutShows a b put.Failed) (sym (text_of_printed payload some)) (out_failed a b payload (codes "\n") shows)

-- ## Deeds

pub shows_none : (a : Sight) → ShowsDeeds a a put.Done []
shows_none a = record { net = net_shows_none a.net; out = out_none a.out }

pub shows_then : (a b c : Sight) (p : Put) (d e : List Deed) → ShowsDeeds a b put.Done d → ShowsDeeds b c p e → ShowsDeeds a c p (d ++ e)
shows_then a b c p d e first second = record {
  net = subst (NetShows a.net c.net) (sym (filter_map-append happening_in d e)) (net_shows_then a.net b.net c.net (happened_in d) (happened_in e) first.net second.net);
  out = subst (OutShows a.out c.out p) (sym (flat_map-append printed_in d e)) (out_then a.out b.out c.out p (text_in d) (text_in e) first.out second.out);
}

-- the happenings at the network alone
pub shows_net : (n m : NetSeen) (o : OutSeen) (hs : List Happening) → NetShows n m hs → ShowsDeeds (sight n o) (sight m o) put.Done (happen hs)
shows_net n m o hs shows = record {
  net = subst (NetShows n m) (sym (happened_in-happen hs)) shows;
  out = subst (OutShows o o put.Done) (sym (text_in-happen hs)) (out_none o);
}

-- it happened after something else, also where the output had failed
pub shows_then_net : (a : Sight) (m k : NetSeen) (o : OutSeen) (p : Put) (d : List Deed) (hs : List Happening) → ShowsDeeds a (sight m o) p d → NetShows m k hs → ShowsDeeds a (sight k o) p (d ++ happen hs)
shows_then_net a m k o p d hs first second = record {
  net = subst (NetShows a.net k) (sym (filter_map-append happening_in d (happen hs) ∙ ap (λ (x : List Happening). happened_in d ++ x) (happened_in-happen hs)))
      (net_shows_then a.net m k (happened_in d) hs first.net second);
  out = subst (OutShows a.out o p) (sym (flat_map-append printed_in d (happen hs) ∙ ap (λ (x : List ℕ). text_in d ++ x) (text_in-happen hs) ∙ append-nil (text_in d))) first.out;
}

-- something was printed alone
pub shows_text : (n : NetSeen) (o q : OutSeen) (p : Put) (payload : List ℕ) → OutShows o q p (text_in (printed payload)) → ShowsDeeds (sight n o) (sight n q) p (printed payload)
shows_text n o q p [] shows = record { net = net_shows_none n; out = shows }
shows_text n o q p (byte ∷ bytes) shows = record { net = net_shows_none n; out = shows }
