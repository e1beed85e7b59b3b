-- Laws of what is shown in sections, between which the handlers forget.
use Rattle.std.proofs.Common.{◌≡◌, ◌+◌, List, [], ◌∷◌, ◌++◌, refl, sym, ap, subst, ◌∙◌}
use Rattle.std.proofs.lemmas.List.{append_assoc, map-append}
use Rattle.std.proofs.lemmas.List.Elements.{filter_map-append}
use Rattle.servient_base.specs.Moves.{ShowsInOrder}
use Rattle.servient_outside.specs.Network.{Happening, NetShows}
use Rattle.servient_outside.proofs.NetLaws.{net_shows_then}
use Rattle.servient_trace.specs.Trace.{Sighting, happening_in, happened_in, Outside, Shows}
use Rattle.servient_trace.specs.ShownSections.{Shown, saw, forgot, seen_of, seen_in, shown_of, after_forgetting, ShowsInSections, section, forgets}
use Rattle.servient_trace.proofs.TraceLaws.{shows_in_order}

-- the trace of a list that has nothing but that
pub seen_of_shown : (seen : List Sighting) → seen_in (shown_of seen) ≡ seen
seen_of_shown [] = refl
seen_of_shown (x ∷ seen) = ap (λ rest. x ∷ rest) (seen_of_shown seen)

-- ---- sections

pub sections_none : (w : Outside) → ShowsInSections w w []
sections_none w = section w w [] [] refl (shows_in_order.none w)

-- one section is lengthened at its front
pub then_section : (w v u : Outside) (seen : List Sighting) (b : List Shown) → Shows w v seen → ShowsInSections v u b → ShowsInSections w u (shown_of seen ++ b)
then_section w v u seen b shows (section _ _ _ more is later) =
    section w u (shown_of seen ++ b) (seen ++ more) (ap (λ x. shown_of seen ++ x) is ∙ sym (map-append saw seen more)) (shows_in_order.more w v u seen more shows later)
then_section w v u seen b shows (forgets _ m _ _ rest more is later others) =
    forgets w m u (shown_of seen ++ b) rest (seen ++ more)
    (ap (λ x. shown_of seen ++ x) is ∙ sym (append_assoc (shown_of seen) (shown_of more) (forgot ∷ rest)) ∙ ap (λ x. x ++ forgot ∷ rest) (sym (map-append saw seen more)))
    (shows_in_order.more w v m seen more shows later) others

pub sections_more : (w v u : Outside) (a b : List Shown) → ShowsInSections w v a → ShowsInSections v u b → ShowsInSections w u (a ++ b)
sections_more w v u a b (section _ _ _ seen is shows) q =
    subst (λ (x : List Shown). ShowsInSections w u (x ++ b)) (sym is) (then_section w v u seen b shows q)
sections_more w v u a b (forgets _ m _ _ rest seen is shows others) q =
    forgets w m u (a ++ b) (rest ++ b) seen (ap (λ x. x ++ b) is ∙ append_assoc (shown_of seen) (forgot ∷ rest) b) shows
    (sections_more (after_forgetting m) v u rest b others q)

pub sections_in_order : ShowsInOrder ShowsInSections
sections_in_order = record { none = sections_none; more = sections_more }

-- nothing is seen, and the handlers forget
pub forgotten_section : (w : Outside) → ShowsInSections w (after_forgetting w) (forgot ∷ [])
forgotten_section w = forgets w w (after_forgetting w) (forgot ∷ []) [] [] refl (shows_in_order.none w) (sections_none (after_forgetting w))

-- the network knows nothing of forgetting
pub sections_net : (w v : Outside) (shown : List Shown) → ShowsInSections w v shown → NetShows w.net v.net (happened_in (seen_in shown))
sections_net w v shown (section _ _ _ seen is shows) =
    subst (λ (x : List Sighting). NetShows w.net v.net (happened_in x)) (sym (seen_of_shown seen) ∙ sym (ap seen_in is)) shows.net
sections_net w v shown (forgets _ m _ _ rest seen is shows others) =
    subst (λ (x : List Happening). NetShows w.net v.net x)
    (sym (filter_map-append happening_in seen (seen_in rest)) ∙ ap (λ (x : List Sighting). happened_in (x ++ seen_in rest)) (sym (seen_of_shown seen))
    ∙ ap happened_in (sym (filter_map-append seen_of (shown_of seen) (forgot ∷ rest))) ∙ ap (λ (x : List Shown). happened_in (seen_in x)) (sym is))
    (net_shows_then w.net m.net v.net (happened_in seen) (happened_in (seen_in rest)) shows.net (sections_net (after_forgetting m) v rest others))

-- where nothing is shown, nothing was seen and nothing forgotten
pub nothing_shown : (w v : Outside) → ShowsInSections w v [] → Shows w v []
nothing_shown w v (section _ _ _ [] is shows) = shows
nothing_shown w v (section _ _ _ (x ∷ seen) is shows) = cc
nothing_shown w v (forgets _ m _ _ rest [] is shows others) = cc
nothing_shown w v (forgets _ m _ _ rest (x ∷ seen) is shows others) = cc
