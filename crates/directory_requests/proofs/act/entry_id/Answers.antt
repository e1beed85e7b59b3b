use Rattle.std.proofs.Common.{ℕ, List, ◌∙◌, sym, subst}
use Rattle.std.specs.Str.{IsUtf8}
use Rattle.std.proofs.lemmas.Option.{same_Some}
use Rattle.directory_requests.specs.Asked.{id_in}
use Rattle.directory_requests.proofs.EntryPaths.{entry_text}
use Rattle.directory_requests.proofs.act.entry_id.Goals as goal

pub unreachable-requires : goal.unreachable-requires
unreachable-requires c =
    let text = entry_text c.args.path.now c.requires in
    c.in-Err.ensures.cases.0
    (subst (λ (id : List ℕ). IsUtf8 id) (sym (same_Some c.in-Some.segment.now (id_in c.args.path.now) (c.in-Some.ensures ∙ text.0))) text.1)
