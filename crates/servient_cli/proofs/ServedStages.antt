-- Serving with which nothing is wrong ends with status 0, or 8 where the budget is taken, unless it is out of memory.
use Rattle.std.proofs.Common.{◌≡◌, ◌*◌, ◌⊎◌, ℕ, List, [], ◌∷◌, ◌++◌, Option, Some, refl, sym, ap, ◌∙◌, subst, inl, inr}
use Rattle.servient_outside.specs.declared.files.HeldFile.{HeldFile}
use Rattle.servient_outside.specs.declared.place.Place.{Place}
use Rattle.servient_outside.specs.Network.{heard, did, broke, next_event}
use Rattle.wot_terms.specs.declared.kind.Kind.{Kind}
use Rattle.thing_site.specs.Site.{expose_faults}
use Rattle.servient_core.specs.declared.serving.Served.TheVariants as served
use Rattle.servient_plan.specs.Plan.{place_of}
use Rattle.servient_trace.specs.Trace.{Sighting, at_network, at_handler}
use Rattle.servient_core.specs.Machine.{Site, State, start}
use Rattle.servient_core.specs.Serving.{Serves}
use Rattle.servient_core.specs.declared.sections.RunBounds.{RunBounds}
use Rattle.servient_core.specs.declared.sections.SectionsEnd.TheVariants as ending
use Rattle.servient_trace.specs.ShownSections.{Shown, saw as was_seen, forgot, seen_in}
use Rattle.servient_core.specs.Sections.{ServesInSections}
use Rattle.command_words.specs.declared.command.Budget.{Budget}
use Rattle.command_words.specs.declared.command.Budget.TheVariants as budgets
use Rattle.command_stages.specs.declared.derivation.Planned.{Planned}
use Rattle.command_stages.specs.Stages.{Deed, did_see, did_write, sees, shows_all, Outcome, ends, AndThen}
use Rattle.command_stages.specs.Lines.{network_line}
use Rattle.servient_cli.specs.Opening.{Opens}
use Rattle.servient_cli.specs.Listening.{Listens, is_listening, cannot_listen, place_memory, listen_memory, ServesEvents, has_served, Endures, has_endured, ServesBy, ServesPlanned, ServesPlan}
use Rattle.command_stages.specs.Deriving.{ReadsPlanned, derived_of}
use Rattle.servient_cli.specs.Command.{IsFaultlessServing}
use Rattle.command_stages.proofs.FaultlessReading.{GoesOn, HasTrouble, trouble_before, trouble_after, then_well}
use Rattle.servient_cli.proofs.FaultlessStages.{planned_well, open_well}

-- it ends as it should, has spent its budget, or is out of memory
abbrev pub IsServed : Outcome (Unit {0}) → Type 0
IsServed o = (o ≡ ends 0) ⊎ (o ≡ ends 9) ⊎ (o ≡ ends 8)

served_memory : (o : Outcome (Unit {0})) → o ≡ ends 9 → IsServed o
served_memory o nine = inr (inl nine)

-- where listening doesn't fail, it listens
pub listen_well : (place : Place) (seen : List Deed) (o : Outcome (Unit {0})) → ¬ (HasTrouble seen) → Listens place seen o → GoesOn (λ u. Unit {0}) o
listen_well place seen o quiet (is_listening saw goes) = inl (tt, tt, goes)
listen_well place seen o quiet (cannot_listen end) = absurd (quiet (subst HasTrouble (sym end.0) tt))
listen_well place seen o quiet (place_memory end) = inr end.1
listen_well place seen o quiet (listen_memory end) = inr end.1

-- serving that fails is a break of the network
pub sees-append : (a b : List Sighting) → sees (a ++ b) ≡ sees a ++ sees b
sees-append [] b = refl
sees-append (sighting ∷ a) b = ap (λ (more : List Deed). did_see sighting ∷ more) (sees-append a b)

failing_breaks : (budget : ℕ) (site : Site) (s t : State) (ran : List Sighting) → Serves site budget served.Failed s ran t → HasTrouble (sees ran)
failing_breaks budget site s t ran serves =
    let run = serves.run in
    let last = at_network (broke next_event) ∷ [] in
    subst HasTrouble (sym (ap sees (run.whole ∙ ap (λ (more : List Sighting). run.first ++ more) run.other.saw) ∙ sees-append run.first last))
    (trouble_after (sees run.first) (sees last) tt)

serve_well : (budget exchanges : ℕ) (epoch : Option ℕ) (site : Site) (seen : List Deed) (o : Outcome (Unit {0})) → ¬ (HasTrouble seen) → ServesEvents budget exchanges epoch site seen o → IsServed o
serve_well budget exchanges epoch site seen o quiet (has_served served.Stopped ran end serves out) = inl out.1
serve_well budget exchanges epoch site seen o quiet (has_served served.Failed ran end serves out) =
    absurd (quiet (subst HasTrouble (sym out.0) (trouble_before (sees ran) (did_write network_line ∷ []) (failing_breaks budget site (start site exchanges epoch) end ran serves))))
serve_well budget exchanges epoch site seen o quiet (has_served served.Spent ran end serves out) = inr (inr out.1)

-- the same of a run that is shown in sections: its trace ends with a break
trouble_shown : (shown : List Shown) → HasTrouble (sees (seen_in shown)) → HasTrouble (shows_all shown)
trouble_shown [] trouble = trouble
trouble_shown (forgot ∷ shown) trouble = trouble_shown shown trouble
trouble_shown (was_seen (at_handler call) ∷ shown) trouble = trouble_shown shown trouble
trouble_shown (was_seen (at_network (heard e)) ∷ shown) trouble = trouble_shown shown trouble
trouble_shown (was_seen (at_network (did act)) ∷ shown) trouble = trouble_shown shown trouble
trouble_shown (was_seen (at_network (broke call)) ∷ shown) trouble = tt

failing_in_sections : (bounds : RunBounds) (site : Site) (s t : State) (shown : List Shown) → ServesInSections site bounds ending.Failed s shown t → HasTrouble (shows_all shown)
failing_in_sections bounds site s t shown serves =
    let run = serves.run in
    let last = at_network (broke next_event) ∷ [] in
    trouble_shown shown (subst HasTrouble (sym (ap sees (run.whole ∙ ap (λ (more : List Sighting). run.first ++ more) run.other.saw) ∙ sees-append run.first last))
    (trouble_after (sees run.first) (sees last) tt))

endure_well : (exchanges : ℕ) (epoch : Option ℕ) (site : Site) (seen : List Deed) (o : Outcome (Unit {0})) → ¬ (HasTrouble seen) → Endures exchanges epoch site seen o → IsServed o
endure_well exchanges epoch site seen o quiet (has_endured ending.Stopped shown end serves out) = inl out.1
endure_well exchanges epoch site seen o quiet (has_endured ending.Failed shown end serves out) =
    absurd (quiet (subst HasTrouble (sym out.0) (trouble_before (shows_all shown) (did_write network_line ∷ []) (failing_in_sections _ site (start site exchanges epoch) end shown serves))))
endure_well exchanges epoch site seen o quiet (has_endured ending.Spent shown end serves out) = inr (inr out.1)

serve_by_well : (budget : Budget) (exchanges : ℕ) (epoch : Option ℕ) (site : Site) (seen : List Deed) (o : Outcome (Unit {0})) → ¬ (HasTrouble seen) → ServesBy budget exchanges epoch site seen o → IsServed o
serve_by_well (budgets.Events n) exchanges epoch site seen o quiet stage = serve_well n exchanges epoch site seen o quiet stage
serve_by_well budgets.Endless exchanges epoch site seen o quiet stage = endure_well exchanges epoch site seen o quiet stage

pub serving_well : (held : Option (List HeldFile)) (files : List HeldFile) (kinds : List Kind) (plan : List ℕ) (budget : Budget) (idle : ℕ) (fine : IsFaultlessServing files kinds plan) (seen : List Deed) (o : Outcome (Unit {0})) → held ≡ Some files → ¬ (HasTrouble seen) → ServesPlan held kinds plan budget idle seen o → IsServed o
serving_well held files kinds plan budget idle fine seen o is_held quiet stage =
    then_well IsServed served_memory (ReadsPlanned held plan) (ServesPlanned plan kinds budget idle) (λ p. p ≡ fine.planned) seen o quiet
    (λ s r q st. planned_well held files plan fine.planned s r is_held fine.by_plan q st)
    (λ p same s q st. then_well IsServed served_memory (Opens plan kinds p) (λ site. AndThen (Listens (place_of p.plan (idle * 1000))) (λ _. ServesBy budget p.plan.exchanges p.plan.epoch site)) (λ site. Unit {0}) s o q
    (λ s2 r q2 st2. open_well plan kinds p fine.things s2 r (ap derived_of same ∙ fine.derived_is) (ap (λ (x : Planned). expose_faults kinds x.plan.slots fine.things) same ∙ fine.fits) q2 st2)
    (λ site any s2 q2 st2. then_well IsServed served_memory (Listens (place_of p.plan (idle * 1000))) (λ _. ServesBy budget p.plan.exchanges p.plan.epoch site) (λ u. Unit {0}) s2 o q2
    (λ s3 r q3 st3. listen_well (place_of p.plan (idle * 1000)) s3 r q3 st3)
    (λ u also s3 q3 st3. serve_by_well budget p.plan.exchanges p.plan.epoch site s3 o q3 st3) st2) st) stage
