use Rattle.std.proofs.Common.{◌∙◌, ap, sym, false, codes, ℕ, List}
use Rattle.std.specs.Prelude.{◌==◌}
use Rattle.std.specs.List.{slice_split}
use Rattle.std.specs.Str.{str_eq_ignore_ascii_case}
use Rattle.http_fields.specs.Fields.{trimmed}
use Rattle.http_wire.specs.Asked.{line_in, both_tags, named_in}
use Rattle.http_wire.proofs.NotedLines.{on_ok, matched_line}
use Rattle.http_wire.proofs.conditions.note_line.Goals as goal

pub returns-then-is_alike : goal.returns-then-is_alike
returns-then-is_alike c =
    on_ok c.note_items.result c.note_items.ensures
    (λ said. matched_line c.args.noted.now (line_in c.args.line.now) c.note_items.new.tags
    (ap (λ (name : List ℕ). str_eq_ignore_ascii_case name (codes "if-match")) (sym c.cut.ensures.before) ∙ sym c.is_alike.ensures ∙ c.if-is_alike.true)
    (said
    ∙ ap (λ (value : List ℕ). both_tags c.args.noted.now.matched (named_in false (slice_split (λ b. b == 44) value)))
    (c.trim-value.ensures ∙ ap trimmed c.cut.ensures.after)))
