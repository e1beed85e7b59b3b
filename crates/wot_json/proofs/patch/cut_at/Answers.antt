use Rattle.std.proofs.Common.{◌∙◌, sym}
use mathlib.Core.Bool.{false≢true}
use Rattle.std.proofs.lemmas.Slice.Eq.{bytes_eq-Decides}
use Rattle.wot_json.proofs.MemberCuts.{cut_found, cut_between, cut_end, rest_in_order, behind_in_order}
use Rattle.wot_json.proofs.patch.cut_at.Goals as goal

pub returns-then-eq-clause-cut : goal.returns-then-eq-clause-cut
returns-then-eq-clause-cut c =
    let same = (bytes_eq-Decides c.as_str.result.now c.args.name.now).0 (sym c.eq.ensures ∙ c.if-eq.true) in
    cut_found c.args.name.now c.args.members.now c.split_at.result.0.now c.split_at.result.1.now c.count_before.result c.requires c.count_before.ensures.bound c.count_before.ensures.before c.split_at.ensures.front c.split_at.ensures.back
    c.in-Some.member.now c.in-Some.after.now c.in-Some.ensures.cases.0 (sym c.as_str.ensures ∙ same)

pub returns-else-eq-clause-cut : goal.returns-else-eq-clause-cut
returns-else-eq-clause-cut c =
    let decides = (bytes_eq-Decides c.as_str.result.now c.args.name.now).1 in
    cut_between c.args.name.now c.args.members.now c.split_at.result.0.now c.split_at.result.1.now c.count_before.result c.requires c.count_before.ensures.bound c.count_before.ensures.before c.split_at.ensures.front c.split_at.ensures.back
    c.in-Some.member.now c.in-Some.after.now c.in-Some.ensures.cases.0 (λ same. false≢true (sym c.if-eq.false ∙ c.eq.ensures ∙ decides (c.as_str.ensures ∙ same))) c.count_before.ensures.next

pub returns-in-None-clause-cut : goal.returns-in-None-clause-cut
returns-in-None-clause-cut c =
    cut_end c.args.name.now c.args.members.now c.split_at.result.0.now c.split_at.result.1.now c.count_before.result c.requires c.count_before.ensures.bound c.count_before.ensures.before c.split_at.ensures.front c.split_at.ensures.back c.in-None.ensures.cases

pub returns-then-eq-clause-order : goal.returns-then-eq-clause-order
returns-then-eq-clause-order c =
    behind_in_order c.args.name.now c.args.members.now c.split_at.result.0.now c.split_at.result.1.now c.count_before.result c.requires c.count_before.ensures.bound c.count_before.ensures.before c.split_at.ensures.front c.split_at.ensures.back
    c.in-Some.member.now c.in-Some.after.now c.in-Some.ensures.cases.0

pub returns-else-eq-clause-order : goal.returns-else-eq-clause-order
returns-else-eq-clause-order c =
    rest_in_order c.args.name.now c.args.members.now c.split_at.result.0.now c.split_at.result.1.now c.count_before.result c.requires c.count_before.ensures.bound c.count_before.ensures.before c.split_at.ensures.front c.split_at.ensures.back
