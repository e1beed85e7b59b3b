-- Each observer observes a target of the site.
use Rattle.std.proofs.Common.{◌≡◌, ◌∙◌, ◌⊎◌, ◌<◌, ◌^◌, ℕ, Option, Bool, true, false, cond, List, [], ◌∷◌, ◌++◌, inl, inr, refl, sym, ap, subst, arith}
use Rattle.std.specs.Prelude.{Option, Some, None, All}
use Rattle.std.proofs.lemmas.List.Elements.{All-nil, All-push, All-contains}
use Rattle.coap_msg.specs.declared.endpoint.Endpoint.{Endpoint}
use Rattle.coap_observe.specs.declared.notice.Notice.{Notice}
use Rattle.coap_observe.specs.Accounts.{Registration, Account, no_account, with_notification as account_noticed, with_value, Did as AccountDid, nothing as nothing_done, emitted as was_emitted, sent as was_sent, IsToRegistered, token_of}
use Rattle.coap_observe.proofs.AccountLaws.{notifications_go_to_the_registered}
use Rattle.coap_bind.specs.declared.server.Server.{Server}
use Rattle.coap_bind.specs.Server.{with_next_id, with_emitted, with_observers, with_notification_sent, SendsNext}
use Rattle.coap_bind.specs.Treating.{Acted}
use Rattle.coap_bind.proofs.TreatingLaws.{all_are_treated}
use Rattle.servient_core.specs.declared.capacity.TheConstants.{MOST_WATCHERS}
use Rattle.servient_core.specs.Machine.{Site, start}
use Rattle.servient_world.specs.World.{Receives, too_long, treated}
use Rattle.servient_world.proofs.WatchLaws.{IsByRequest, GoesOn, account_goes_on}
use Rattle.servient_world.proofs.CounterLaws.{counter_receives, counter_sends}
use Rattle.servient_ends.proofs.TargetLaws.{IsTarget}

pub record WatchesTargets (site : Site) (c : Server) : Type 0 where
  pub account : Account
  pub did : AccountDid MOST_WATCHERS account c.observers
  pub known : All (λ r. IsTarget site r.target) account.registered
  pub id : c.next_id < 2 ^ 16

-- the target of an act is one of the site
abbrev pub ActsOnTarget : Site → Option Acted → Type 0
ActsOnTarget site act = (a : Acted) (n : ℕ) → act ≡ Some a → a.target ≡ Some n → IsTarget site n

pub watches_at_start : (site : Site) (exchanges : ℕ) (epoch : Option ℕ) → WatchesTargets site (start site exchanges epoch).coap
watches_at_start site exchanges epoch = record {
  account = no_account;
  did = nothing_done _ refl;
  known = All-nil (λ (r : Registration). IsTarget site r.target);
  id = omega arith;
}

treated_watches : (site : Site) (from : Endpoint) (bytes : List ℕ) (act : Option Acted) (s t : Server) (y : WatchesTargets site s) → ActsOnTarget site act
    → GoesOn MOST_WATCHERS from bytes act y.account t.observers → t.next_id < 2 ^ 16 → WatchesTargets site t
treated_watches site from bytes act s t y targets g small = record { account = g.account; did = g.did; known = by_case g.registered; id = small }
  where
    by_case : (g.account.registered ≡ y.account.registered)
        ⊎ ((r : Registration) × (g.account.registered ≡ y.account.registered ++ r ∷ []) × (r.from ≡ from) × IsByRequest bytes act r)
        → All (λ r. IsTarget site r.target) g.account.registered
    by_case (inl same) = subst (λ (rs : List Registration). All (λ r. IsTarget site r.target) rs) (sym same) y.known
    by_case (inr new) = subst (λ (rs : List Registration). All (λ r. IsTarget site r.target) rs) (sym new.1)
        (All-push (λ (r : Registration). IsTarget site r.target) y.account.registered new.0 y.known (targets new.3.made new.0.target new.3.acted_is new.3.target))

pub watches_received : (site : Site) (from : Endpoint) (bytes : List ℕ) (now : ℕ) (act : Option Acted) (back : List (List ℕ)) (s t : Server) → Receives from bytes now act back s t
    → ActsOnTarget site act → WatchesTargets site s → WatchesTargets site t
watches_received site from bytes now act back s t (too_long long none nothing same) targets y = subst (WatchesTargets site) (sym same) y
watches_received site from bytes now act back s t (treated short treats) targets y =
    treated_watches site from bytes act s t y targets
    (account_goes_on MOST_WATCHERS from bytes now act back y.account s t (all_are_treated from bytes now act back s t treats) y.did)
    (counter_receives from bytes now act back s t (treated short treats) y.id)

pub watches_emitted : (site : Site) (target : ℕ) (s : Server) → WatchesTargets site s → WatchesTargets site (with_emitted target s)
watches_emitted site target s y = record {
  account = with_value target y.account;
  did = was_emitted y.account s.observers (with_emitted target s).observers target y.did refl;
  known = y.known;
  id = y.id;
}

-- the next notification leaves these observers
noticed_observers : (n : Option Notice) (s : Server) → (with_notification_sent n s).observers ≡ s.observers
noticed_observers None s = refl
noticed_observers (Some n) s = by_test n.fresh
  where
    by_test : (b : Bool) → (cond b (with_next_id s) s).observers ≡ s.observers
    by_test true = refl
    by_test false = refl

noticed_known : (site : Site) (n : Option Notice) (a : Account) → All (λ r. IsTarget site r.target) a.registered → All (λ r. IsTarget site r.target) (account_noticed n a).registered
noticed_known site None a known = known
noticed_known site (Some n) a known = known

pub watches_sent : (site : Site) (now : ℕ) (n : Option Notice) (s t : Server) → SendsNext now n s t → WatchesTargets site s → WatchesTargets site t
watches_sent site now n s t sends y = record {
  account = account_noticed n y.account;
  did =
      let same : t.observers ≡ sends.observers = ap (λ (x : Server). x.observers) sends.after ∙ noticed_observers n (with_observers sends.observers s) in
      subst (AccountDid MOST_WATCHERS (account_noticed n y.account)) (sym same)
      (was_sent y.account s.observers sends.observers now s.next_id n y.did y.id sends.capacity sends.notifies);
  known = noticed_known site n y.account y.known;
  id = counter_sends now n s t sends y.id;
}

-- A notification is for a target.
pub notification_target : (site : Site) (now : ℕ) (n : Notice) (s t : Server) → SendsNext now (Some n) s t → WatchesTargets site s → IsTarget site n.target
notification_target site now n s t sends y =
    let goes : IsToRegistered y.account n = notifications_go_to_the_registered MOST_WATCHERS y.account s.observers now s.next_id n sends.observers.list y.did y.id sends.notifies in
    All-contains (λ (r : Registration). IsTarget site r.target) y.account.registered (record { from = n.to; token = token_of n; target = n.target }) y.known goes.registered
