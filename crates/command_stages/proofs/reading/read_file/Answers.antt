use Rattle.std.proofs.Common.{[], ◌∷◌, refl}
use Rattle.std.specs.Prelude.{codes}
use Rattle.command_stages.specs.Lines.{file_line, input_line}
use Rattle.command_stages.specs.Stages.{around, did_read, did_fail}
use Rattle.command_stages.specs.Reading.{ReadsFile, is_read, is_absent, is_unreadable, is_long, file_memory, is_not_read, has_been_read, has_failed, file_read}
use Rattle.command_stages.proofs.StageLaws.{goes_after, writes_after, memory_after, shows_read, shows_failed, shows_no_read}
use Rattle.command_stages.proofs.reading.read_file.Goals as goal

pub returns-in-Whole-clause-stage : goal.returns-in-Whole-clause-stage
returns-in-Whole-clause-stage g c = λ w.
    let held = (g.F.Files.seen c.args.files.now).held in
    let before = g.F.Files.seen c.args.files.now in
    let now = g.F.Files.seen c.read.new.self in
    let read = file_read c.args.limit c.args.name.now in
    goes_after (ReadsFile held c.args.limit c.args.name.now) (around before w) (around now w) (did_read read ∷ []) c.read.new.into
    (shows_read before now w read c.in-Whole.ensures.shows.reads c.in-Whole.ensures.shows.faults c.in-Whole.ensures.shows.no_failure) refl
    (is_read c.read.new.into c.in-Whole.ensures.answer.0 c.in-Whole.ensures.answer.1 refl refl)

pub returns-in-Absent-clause-stage : goal.returns-in-Absent-clause-stage
returns-in-Absent-clause-stage g c = λ w.
    let held = (g.F.Files.seen c.args.files.now).held in
    let before = g.F.Files.seen c.args.files.now in
    let now = g.F.Files.seen c.read.new.self in
    let read = file_read c.args.limit c.args.name.now in
    writes_after (ReadsFile held c.args.limit c.args.name.now) (around before w) (around now w) (did_read read ∷ []) c.file.result c.end_with.result 3 (file_line c.args.name.now (codes "absent"))
    (shows_read before now w read c.in-Absent.ensures.shows.reads c.in-Absent.ensures.shows.faults c.in-Absent.ensures.shows.no_failure) refl c.file.ensures c.end_with.ensures
    (is_absent c.in-Absent.ensures.answer (refl, refl)) (file_memory (did_read read ∷ []) (has_been_read refl) (refl, refl))

pub returns-in-Failed-clause-stage : goal.returns-in-Failed-clause-stage
returns-in-Failed-clause-stage g c = λ w.
    let held = (g.F.Files.seen c.args.files.now).held in
    let before = g.F.Files.seen c.args.files.now in
    let now = g.F.Files.seen c.read.new.self in
    let read = file_read c.args.limit c.args.name.now in
    writes_after (ReadsFile held c.args.limit c.args.name.now) (around before w) (around now w) (did_fail read ∷ []) c.file-in-Failed.result c.end_with-in-Failed.result 3 (file_line c.args.name.now (codes "failed"))
    (shows_failed before now w read c.in-Failed.ensures.shows.reads c.in-Failed.ensures.shows.faults (c.in-Failed.ensures.shows.failed refl) c.in-Failed.ensures.shows.no_failure) refl c.file-in-Failed.ensures c.end_with-in-Failed.ensures
    (is_unreadable (refl, refl)) (file_memory (did_fail read ∷ []) (has_failed refl) (refl, refl))

pub returns-in-TooLong-clause-stage : goal.returns-in-TooLong-clause-stage
returns-in-TooLong-clause-stage g c = λ w.
    let held = (g.F.Files.seen c.args.files.now).held in
    let before = g.F.Files.seen c.args.files.now in
    let now = g.F.Files.seen c.read.new.self in
    let read = file_read c.args.limit c.args.name.now in
    writes_after (ReadsFile held c.args.limit c.args.name.now) (around before w) (around now w) (did_read read ∷ []) c.input.result c.end_with-in-TooLong.result 4 (input_line c.args.name.now (codes "long"))
    (shows_read before now w read c.in-TooLong.ensures.shows.reads c.in-TooLong.ensures.shows.faults c.in-TooLong.ensures.shows.no_failure) refl c.input.ensures c.end_with-in-TooLong.ensures
    (is_long c.in-TooLong.ensures.answer (refl, refl)) (file_memory (did_read read ∷ []) (has_been_read refl) (refl, refl))

pub returns-in-NoMemory-clause-stage : goal.returns-in-NoMemory-clause-stage
returns-in-NoMemory-clause-stage g c = λ w.
    let held = (g.F.Files.seen c.args.files.now).held in
    let before = g.F.Files.seen c.args.files.now in
    let now = g.F.Files.seen c.read.new.self in
    memory_after (ReadsFile held c.args.limit c.args.name.now) (around before w) (around now w) []
    (shows_no_read before now w c.in-NoMemory.ensures.shows.reads c.in-NoMemory.ensures.shows.faults c.in-NoMemory.ensures.shows.no_failure) refl (file_memory [] (is_not_read refl) (refl, refl))
