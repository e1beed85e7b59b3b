mod ClapForms
mod ClapRules
mod ClapValues
mod ClapWalk
mod FlagLaws
mod RulesMore
mod WordKinds
