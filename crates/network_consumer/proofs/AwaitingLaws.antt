-- Awaiting the answer to a request: the invariant before each event, and the end.
use Rattle.std.proofs.Common.{◌≡◌, ℕ, zero, suc, ◌+◌, ◌<◌, List, [], ◌∷◌, ◌++◌, Some, None, take, refl, subst, sym, ◌∙◌, ap, arith, append_assoc}
use Rattle.servient_outside.specs.declared.net.EventWithBytes.{EventWithBytes}
use Rattle.servient_outside.specs.declared.net.Event.{Event}
use Rattle.servient_outside.specs.declared.out.Put.{Put}
use Rattle.servient_outside.specs.declared.out.Put.TheVariants as put
use Rattle.servient_outside.specs.Network.{byte_count, in_buffer, heard, broke, next_event, NetSeen, NetShows}
use Rattle.servient_outside.specs.Out.{OutSeen}
use Rattle.wot_consumer.specs.declared.chosen.Chosen.{Chosen}
use Rattle.network_consumer.specs.declared.purpose.Purpose.{Purpose}
use Rattle.network_consumer.specs.declared.consumed.Consumed.{Consumed}
use Rattle.network_consumer.specs.declared.consumed.Consumed.TheVariants.{Failed, Spent}
use Rattle.network_consumer.specs.declared.waiting.Waiting.{Waiting}
use Rattle.network_consumer.specs.Deeds.{Deed, happens, Sight, sight, ShowsDeeds, Shows, put_of}
use Rattle.network_consumer.specs.Waiting.{Hears, IsReady, Awaits, is_spent, is_broken, comes_to, goes_on}
use Rattle.network_consumer.proofs.DeedLaws.{shows_none, shows_then, shows_net}

-- the invariant before each event: the deeds so far, and with any deeds that are left they make the whole
pub record Progress (o : Purpose) (c : Chosen) (most : ℕ) (w v : Waiting) (a b : Sight) (count : ℕ) : Type 0 where
  pub done : List Deed
  pub shows : ShowsDeeds a b put.Done done
  pub left : ℕ
  pub all : left + count ≡ most
  pub ready : IsReady c v
  pub leads : (r : Consumed) (rest : List Deed) → Awaits o c r left v rest → Awaits o c r most w (done ++ rest)

-- before the first
pub progress_none : (o : Purpose) (c : Chosen) (most : ℕ) (w : Waiting) (a : Sight) → IsReady c w → Progress o c most w w a a 0
progress_none o c most w a ready = record {
  done = [];
  shows = shows_none a;
  left = most;
  all = omega arith;
  ready = ready;
  leads = λ r rest awaits. awaits;
}

-- an event is heard, and something is done by it
heard_then : (n m : NetSeen) (q : OutSeen) (b : Sight) (e : EventWithBytes) (p : Put) (by_it : List Deed) → NetShows n m (heard e ∷ []) → ShowsDeeds (sight m q) b p by_it → ShowsDeeds (sight n q) b p (happens (heard e) ∷ by_it)
heard_then n m q b e p by_it comes does = shows_then (sight n q) (sight m q) b p (happens (heard e) ∷ []) by_it (shows_net n m q (heard e ∷ []) comes) does

-- an event came, and it goes on
more_by : (o : Purpose) (c : Chosen) (most : ℕ) (w v u : Waiting) (a : Sight) (n m : NetSeen) (q : OutSeen) (b : Sight) (count : ℕ) (e : EventWithBytes) (done by_it : List Deed) (left : ℕ) → ShowsDeeds a (sight n q) put.Done done → left + count ≡ most
    → ((r : Consumed) (rest : List Deed) → Awaits o c r left v rest → Awaits o c r most w (done ++ rest)) → NetShows n m (heard e ∷ []) → Hears o c v e by_it None u → ShowsDeeds (sight m q) b put.Done by_it → IsReady c u → count < most
    → Progress o c most w u a b (count + 1)
more_by o c most w v u a n m q b count e done by_it zero shown all leads comes hears does ready below = absurd (omega (arith, all, below))
more_by o c most w v u a n m q b count e done by_it (suc left) shown all leads comes hears does ready below = record {
  done = done ++ (happens (heard e) ∷ by_it);
  shows = shows_then a (sight n q) b put.Done done (happens (heard e) ∷ by_it) shown (heard_then n m q b e put.Done by_it comes does);
  left = left;
  all = omega (arith, all);
  ready = ready;
  leads = λ r rest awaits. subst (λ (deeds : List Deed). Awaits o c r most w deeds) (sym (append_assoc done (happens (heard e) ∷ by_it) rest))
      (leads r (happens (heard e) ∷ by_it ++ rest) (goes_on left v u (happens (heard e) ∷ by_it ++ rest) e by_it rest hears awaits refl));
}

pub progress_more : (o : Purpose) (c : Chosen) (most : ℕ) (w v u : Waiting) (a : Sight) (n m : NetSeen) (q : OutSeen) (b : Sight) (count : ℕ) (e came : EventWithBytes) → Progress o c most w v a (sight n q) count → NetShows n m (heard e ∷ []) → came ≡ e
    → Shows (λ deeds. Hears o c v came deeds None u) (sight m q) b put.Done → IsReady c u → count < most → Progress o c most w u a b (count + 1)
progress_more o c most w v u a n m q b count e came p comes same hears ready below =
    more_by o c most w v u a n m q b count e p.done hears.deeds p.left p.shows p.all p.leads comes (subst (λ (x : EventWithBytes). Hears o c v x hears.deeds None u) same hears.holds) hears.shows ready below

-- the last that is done
ends_by : (o : Purpose) (c : Chosen) (r : Consumed) (most : ℕ) (w v : Waiting) (a b d : Sight) (p : Put) (count : ℕ) (deeds : List Deed) (done : Progress o c most w v a b count) → ShowsDeeds b d p deeds → Awaits o c r done.left v deeds → Shows (Awaits o c r most w) a d p
ends_by o c r most w v a b d p count deeds done shown last = record {
  deeds = done.done ++ deeds;
  holds = done.leads r deeds last;
  shows = shows_then a b d p done.done deeds done.shows shown;
}

broken_at : (o : Purpose) (c : Chosen) (v : Waiting) (count most left : ℕ) → left + count ≡ most → count < most → Awaits o c Failed left v (happens (broke next_event) ∷ [])
broken_at o c v count most zero all below = absurd (omega (arith, all, below))
broken_at o c v count most (suc left) all below = is_broken left v (happens (broke next_event) ∷ []) refl refl

comes_at : (o : Purpose) (c : Chosen) (r : Consumed) (v u : Waiting) (e : EventWithBytes) (by_it : List Deed) (count most left : ℕ) → Hears o c v e by_it (Some r) u → left + count ≡ most → count < most → Awaits o c r left v (happens (heard e) ∷ by_it)
comes_at o c r v u e by_it count most zero comes all below = absurd (omega (arith, all, below))
comes_at o c r v u e by_it count most (suc left) comes all below = comes_to left v u (happens (heard e) ∷ by_it) e by_it comes refl

spent_at : (o : Purpose) (c : Chosen) (v : Waiting) (count most left : ℕ) → left + count ≡ most → count ≡ most → Awaits o c Spent left v []
spent_at o c v count most zero all is = is_spent v [] refl refl
spent_at o c v count most (suc left) all is = absurd (omega (arith, all, is))

-- the network failed
pub ends_broken : (o : Purpose) (c : Chosen) (most : ℕ) (w v : Waiting) (a : Sight) (n m : NetSeen) (q : OutSeen) (count : ℕ) → Progress o c most w v a (sight n q) count → NetShows n m (broke next_event ∷ []) → count < most → Shows (Awaits o c Failed most w) a (sight m q) put.Done
ends_broken o c most w v a n m q count p breaks below =
    ends_by o c Failed most w v a (sight n q) (sight m q) put.Done count (happens (broke next_event) ∷ []) p (shows_net n m q (broke next_event ∷ []) breaks) (broken_at o c v count most p.left p.all below)

-- an event came that ends it
pub ends_at : (o : Purpose) (c : Chosen) (r : Consumed) (most : ℕ) (w v u : Waiting) (a : Sight) (n m : NetSeen) (q : OutSeen) (b : Sight) (count : ℕ) (e came : EventWithBytes) → Progress o c most w v a (sight n q) count → NetShows n m (heard e ∷ []) → came ≡ e
    → Shows (λ deeds. Hears o c v came deeds (Some r) u) (sight m q) b (put_of r) → count < most → Shows (Awaits o c r most w) a b (put_of r)
ends_at o c r most w v u a n m q b count e came p comes same hears below =
    ends_by o c r most w v a (sight n q) b (put_of r) count (happens (heard e) ∷ hears.deeds) p (heard_then n m q b e (put_of r) hears.deeds comes hears.shows)
    (comes_at o c r v u e hears.deeds count most p.left (subst (λ (x : EventWithBytes). Hears o c v x hears.deeds (Some r) u) same hears.holds) p.all below)

-- all events were taken
pub ends_spent : (o : Purpose) (c : Chosen) (most : ℕ) (w v : Waiting) (a b : Sight) (count : ℕ) → Progress o c most w v a b count → count ≡ most → Shows (Awaits o c Spent most w) a b put.Done
ends_spent o c most w v a b count p is =
    ends_by o c Spent most w v a b b put.Done count [] p (shows_none b) (spent_at o c v count most p.left p.all is)

-- the event that the network gave is the one that was heard
pub same_event : (e : Event) (n : ℕ) (buffer bytes : List ℕ) → n ≡ byte_count e.what → bytes ≡ take n buffer → ◌≡◌ {A = EventWithBytes} (record { event = e; bytes = bytes }) (in_buffer e buffer)
same_event e n buffer bytes is taken = ap (λ (x : List ℕ). record { event = e; bytes = x }) (taken ∙ ap (λ (k : ℕ). take k buffer) is)
