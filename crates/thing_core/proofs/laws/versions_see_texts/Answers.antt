use Rattle.thing_core.proofs.VersionRuns.{deeds_grow, texts_counted, texts_make_versions}
use Rattle.thing_core.proofs.laws.versions_see_texts.Goals as goal

pub returns-clause-sees : goal.returns-clause-sees
returns-clause-sees c = λ site deeds s t seen does slot. (deeds_grow site deeds s seen t does).sees slot

pub returns-clause-later : goal.returns-clause-later
returns-clause-later c = λ texts v. (texts_make_versions texts v, texts_counted texts v)
