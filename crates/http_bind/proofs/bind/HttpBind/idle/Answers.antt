use Rattle.std.proofs.Common.{◌∙◌, ap}
use Rattle.http_bind.specs.Slots.{Slots}
use Rattle.http_bind.proofs.Standing.{idle_is, idle_is_open}
use Rattle.http_bind.proofs.bind.HttpBind.idle.Goals as goal

pub returns-in-None-clause-none : goal.returns-in-None-clause-none
returns-in-None-clause-none c = λ _ s stands.
    idle_is c.args.now c.args.self.now s c.first_idle.result (ap (λ (b : Slots). b.places) c.self.view_is) c.as_slice.ensures.value c.first_idle.ensures.first stands ∙ c.in-None.is

pub returns-in-Some-clause-idle : goal.returns-in-Some-clause-idle
returns-in-Some-clause-idle c = λ n is s stands.
    idle_is c.args.now c.args.self.now s c.first_idle.result (ap (λ (b : Slots). b.places) c.self.view_is) c.as_slice.ensures.value c.first_idle.ensures.first stands ∙ c.in-Some.is ∙ is

pub returns-in-Some-clause-open : goal.returns-in-Some-clause-open
returns-in-Some-clause-open c = λ n is.
    idle_is_open c.args.now n c.args.self.now c.first_idle.result (ap (λ (b : Slots). b.places) c.self.view_is) c.as_slice.ensures.value c.first_idle.ensures.first (c.in-Some.is ∙ is)
