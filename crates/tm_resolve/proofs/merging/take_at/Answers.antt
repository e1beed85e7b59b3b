use Rattle.std.proofs.Common.{◌∷◌, [], List, ℕ, sym, ap, subst, ◌∙◌, option_map}
use Rattle.wot_json.specs.Meaning.{json_of, json_member, json_members}
use Rattle.tm_resolve.specs.Merging.{BeginsAt}
use Rattle.tm_resolve.proofs.Moving.{more_moved, moved_takes, none_named, pushed}
use Rattle.tm_resolve.proofs.merging.take_at.Goals as goal

pub loop-member-preserved : goal.loop-member-preserved
loop-member-preserved c =
    more_moved c.args.name.now (json_members c.args.rest.now.items) (json_members c.args.into.now.items) (json_members c.loop-member.rest.items) (json_members c.loop-member.into.items) (json_members c.take_before.new.rest.items)
    (json_member c.in-Some.member) (json_members c.push.new.self.items) c.loop-member.invariant (ap json_members c.in-Some.ensures.0) c.in-Some.ensures.1
    (pushed c.loop-member.into.items c.push.new.self.items (c.in-Some.member ∷ []) c.in_ok-push.ensures.items)

pub returns : goal.returns
returns c =
    let name : List ℕ = c.args.name.now in
    let same = ap json_members c.in_default.ensures.0 in
    moved_takes name (json_members c.args.rest.now.items) (json_members c.args.into.now.items) (json_members c.loop-member.rest.items) (json_members c.loop-member.into.items) (option_map json_of c.take_named.result) (json_members c.take_named.new.rest.items)
    c.requires c.loop-member.invariant c.in_default.ensures.1 (sym same ∙ c.take_named.ensures.parts)
    (λ none here. none_named (BeginsAt name (json_members c.take_before.new.rest.items) → ⊥) c.take_named.result c.take_named.ensures.none none (subst (BeginsAt name) (sym same) here))
