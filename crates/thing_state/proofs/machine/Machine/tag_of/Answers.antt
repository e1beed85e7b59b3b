use Rattle.std.proofs.Common.{◌≡◌, ◌∙◌, ◌==◌, ap, List, Some, None}
use Rattle.std.specs.Prelude.{position}
use Rattle.thing_state.specs.State.{Version, tag_of_version, tag_of}
use Rattle.thing_state.specs.Course.{Course}
use Rattle.thing_state.proofs.VersionLists.{no_tag, tag_at}
use Rattle.thing_state.proofs.machine.Machine.tag_of.Goals as goal

pub returns-in-Some : goal.returns-in-Some
returns-in-Some c =
    let found : Some c.in-Some.index ≡ position (λ (v : Version). v.slot == c.args.slot) c.self.inside.versions.items =
    c.in-Some.ensures ∙ ap (λ (vs : List Version). position (λ (v : Version). v.slot == c.args.slot) vs) c.as_slice.ensures.value in
    c.tag.ensures
    ∙ tag_at c.args.slot c.self.inside.versions.items c.in-Some.index c.index.result.now found c.index.ensures
    ∙ ap (λ (k : Course). tag_of c.args.slot k.state.versions) c.self.view_is

pub returns-in-None : goal.returns-in-None
returns-in-None c =
    let none : None ≡ position (λ (v : Version). v.slot == c.args.slot) c.self.inside.versions.items =
    c.in-None.ensures ∙ ap (λ (vs : List Version). position (λ (v : Version). v.slot == c.args.slot) vs) c.as_slice.ensures.value in
    no_tag c.args.slot c.self.inside.versions.items none ∙ ap (λ (k : Course). tag_of c.args.slot k.state.versions) c.self.view_is
