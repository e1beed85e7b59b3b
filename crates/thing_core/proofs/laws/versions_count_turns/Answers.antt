use Rattle.thing_core.proofs.VersionLaws.{properties_have_versions, tags_are_seen, versions_are_few}
use Rattle.thing_core.proofs.laws.versions_count_turns.Goals as goal

pub returns-clause-few : goal.returns-clause-few
returns-clause-few c = versions_are_few

pub returns-clause-there : goal.returns-clause-there
returns-clause-there c = properties_have_versions

pub returns-clause-tags : goal.returns-clause-tags
returns-clause-tags c = tags_are_seen
