use Rattle.std.proofs.Common.{◌≤◌, List, sym, subst}
use Rattle.thing_state.specs.State.{Version, properties_of, version_of}
use Rattle.thing_state.proofs.VersionLists.{unseen_version}
use Rattle.thing_core.proofs.exposed.Exposed.new.Goals as goal

pub new-requires-2 : goal.new-requires-2
new-requires-2 g c = λ slot.
    subst (λ (vs : List Version). version_of slot vs ≤ c.args.left_out) (sym c.in_ok-versions.ensures) (unseen_version c.args.left_out slot (properties_of c.as_slice.result.now))
