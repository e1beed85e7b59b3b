use Rattle.std.proofs.Common.{◌≡◌, ◌<◌, ◌≤◌, ◌+◌, ◌==◌, ◌∙◌, ℕ, List, Some, None, ap, sym, subst, arith, rules, slice_set}
use Rattle.std.specs.Prelude.{position}
use Rattle.thing_state.specs.State.{Version, version_of, versions_after}
use Rattle.thing_state.specs.Course.{Course, HasRoom}
use Rattle.thing_state.proofs.VersionLists.{no_version, none_seen, seen_at, seen_within, version_at, version_seen}
use Rattle.thing_state.proofs.machine.Machine.see.Goals as goal

pub see-requires-clause-room : goal.see-requires-clause-room
see-requires-clause-room c =
    let found : Some c.in-Some.index ≡ position (λ (v : Version). v.slot == c.args.slot) c.self.inside.versions.items =
    c.in-Some.ensures ∙ ap (λ (vs : List Version). position (λ (v : Version). v.slot == c.args.slot) vs) c.as_slice.ensures.value in
    let below : version_of c.args.slot c.self.inside.versions.items < c.self.inside.left_out + c.self.inside.turns =
    subst (λ (k : Course). HasRoom k.state) (sym c.self.view_is) c.requires.room c.args.slot in
    omega (arith, below, c.self.invariant.turns, version_at c.args.slot c.self.inside.versions.items c.in-Some.index c.index_mut.result.now found c.index_mut.ensures.value)

pub invariant_of-self : goal.invariant_of-self
invariant_of-self c =
    let found : Some c.in-Some.index ≡ position (λ (v : Version). v.slot == c.args.slot) c.self.inside.versions.items =
    c.in-Some.ensures ∙ ap (λ (vs : List Version). position (λ (v : Version). v.slot == c.args.slot) vs) c.as_slice.ensures.value in
    let done : slice_set c.self.inside.versions.items c.in-Some.index c.see.new.self ≡ versions_after c.args.slot c.args.text.now c.self.inside.versions.items =
    ap (λ (x : Version). slice_set c.self.inside.versions.items c.in-Some.index x) c.see.ensures.seen
    ∙ seen_at c.args.slot c.args.text.now c.self.inside.versions.items c.in-Some.index c.index_mut.result.now found c.index_mut.ensures.value in
    let below : (s : ℕ) → version_of s c.self.inside.versions.items < c.self.inside.left_out + c.self.inside.turns =
    subst (λ (k : Course). HasRoom k.state) (sym c.self.view_is) c.requires.room in
    record {
      turns = c.self.invariant.turns;
      ids = c.self.invariant.ids;
      versions = λ s. subst (λ (vs : List Version). version_of s vs ≤ c.self.inside.left_out + c.self.inside.turns) (sym done)
          (seen_within c.args.slot c.args.text.now c.self.inside.versions.items (c.self.inside.left_out + c.self.inside.turns) below s);
      counted = c.self.invariant.counted;
      rooms = c.self.invariant.rooms;
      invocation_places = c.self.invariant.invocation_places;
      spare_places = c.self.invariant.spare_places;
      pending_places = c.self.invariant.pending_places;
    }

pub returns-in-Some-clause-seen : goal.returns-in-Some-clause-seen
returns-in-Some-clause-seen c =
    let found : Some c.in-Some.index ≡ position (λ (v : Version). v.slot == c.args.slot) c.self.inside.versions.items =
    c.in-Some.ensures ∙ ap (λ (vs : List Version). position (λ (v : Version). v.slot == c.args.slot) vs) c.as_slice.ensures.value in
    let done : slice_set c.self.inside.versions.items c.in-Some.index c.see.new.self ≡ versions_after c.args.slot c.args.text.now c.self.inside.versions.items =
    ap (λ (x : Version). slice_set c.self.inside.versions.items c.in-Some.index x) c.see.ensures.seen
    ∙ seen_at c.args.slot c.args.text.now c.self.inside.versions.items c.in-Some.index c.index_mut.result.now found c.index_mut.ensures.value in
    search (rules, done)

pub returns-in-Some-clause-version : goal.returns-in-Some-clause-version
returns-in-Some-clause-version c =
    let found : Some c.in-Some.index ≡ position (λ (v : Version). v.slot == c.args.slot) c.self.inside.versions.items =
    c.in-Some.ensures ∙ ap (λ (vs : List Version). position (λ (v : Version). v.slot == c.args.slot) vs) c.as_slice.ensures.value in
    c.see.ensures.number
    ∙ ap (λ (x : Version). x.number) c.see.ensures.seen
    ∙ version_seen c.args.slot c.args.text.now c.self.inside.versions.items c.in-Some.index c.index_mut.result.now found c.index_mut.ensures.value
    ∙ ap (version_of c.args.slot)
    (sym (ap (λ (x : Version). slice_set c.self.inside.versions.items c.in-Some.index x) c.see.ensures.seen
    ∙ seen_at c.args.slot c.args.text.now c.self.inside.versions.items c.in-Some.index c.index_mut.result.now found c.index_mut.ensures.value))

pub returns-in-None-clause-seen : goal.returns-in-None-clause-seen
returns-in-None-clause-seen c =
    let none : None ≡ position (λ (v : Version). v.slot == c.args.slot) c.args.self.now.state.versions =
    c.in-None.ensures
    ∙ ap (λ (vs : List Version). position (λ (v : Version). v.slot == c.args.slot) vs) (c.as_slice.ensures.value ∙ ap (λ (k : Course). k.state.versions) c.self.view_is) in
    let same : c.args.self.now.state.versions ≡ versions_after c.args.slot c.args.text.now c.args.self.now.state.versions =
    none_seen c.args.slot c.args.text.now c.args.self.now.state.versions none in
    λ i. record c.args.self.now { state = record c.args.self.now.state { versions = same i } }

pub returns-in-None-clause-version : goal.returns-in-None-clause-version
returns-in-None-clause-version c =
    let none : None ≡ position (λ (v : Version). v.slot == c.args.slot) c.args.self.now.state.versions =
    c.in-None.ensures
    ∙ ap (λ (vs : List Version). position (λ (v : Version). v.slot == c.args.slot) vs) (c.as_slice.ensures.value ∙ ap (λ (k : Course). k.state.versions) c.self.view_is) in
    no_version c.args.slot c.args.self.now.state.versions none
