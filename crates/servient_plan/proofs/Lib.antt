mod PlanLaws
mod PlanNames
mod PlanTexts
mod PlanLists
