-- The laws of the world hold where the server is the whole servient, since its turns are moves of the world.
use Rattle.servient_core.specs.declared.capacity.TheConstants.{MOST_WATCHERS}
use Rattle.servient_world.proofs.OnceLaws.{acted_once}
use Rattle.servient_world.proofs.EndLaws.{answered_once, observed_once}
use Rattle.servient_world.proofs.TakenLaws.{values_never_go_back}
use Rattle.servient_world.proofs.SourceLaws.{values_have_a_source}
use Rattle.servient_world.proofs.ReadRows.{reads_are_of_one_act}
use Rattle.servient_world.proofs.WriteRows.{writes_are_one_act}
use Rattle.servient_ends.specs.Laws.{ServientActsOnce, ServientAnswersOnce, ServientObservesOnce, ServientValuesNeverGoBack, ServientValuesHaveASource, ServientReadsOneAct, ServientWritesOneAct}
use Rattle.servient_ends.proofs.TurnLaws.{turns_play}

pub servient_acts_once : ServientActsOnce
servient_acts_once site first_id exchanges turns p q is all =
    let t = turns_play site first_id exchanges turns p q is all in acted_once first_id exchanges MOST_WATCHERS t.0 p.world q.world is.world t.1

pub servient_answers_once : ServientAnswersOnce
servient_answers_once site first_id exchanges turns p q k code block payload is all few no_links no_blocks ended =
    let t = turns_play site first_id exchanges turns p q is all in
    answered_once first_id exchanges MOST_WATCHERS t.0 p.world q.world k code block payload is.world t.1 few no_links no_blocks ended

pub servient_observes_once : ServientObservesOnce
servient_observes_once site first_id exchanges turns p q k is all few ended =
    let t = turns_play site first_id exchanges turns p q is all in observed_once first_id exchanges MOST_WATCHERS t.0 p.world q.world k is.world t.1 few ended

pub servient_values_never_go_back : ServientValuesNeverGoBack
servient_values_never_go_back site first_id exchanges turns p q is all few ids =
    let t = turns_play site first_id exchanges turns p q is all in
    values_never_go_back first_id exchanges MOST_WATCHERS t.0 p.world q.world is.world t.1 few ids

pub servient_values_have_a_source : ServientValuesHaveASource
servient_values_have_a_source site first_id exchanges turns p q is all few =
    let t = turns_play site first_id exchanges turns p q is all in values_have_a_source first_id exchanges MOST_WATCHERS t.0 p.world q.world is.world t.1 few

pub servient_reads_one_act : ServientReadsOneAct
servient_reads_one_act site first_id exchanges turns p q path szx x row is all few are order no_other =
    let t = turns_play site first_id exchanges turns p q is all in
    reads_are_of_one_act first_id exchanges MOST_WATCHERS t.0 p.world q.world path szx x row is.world t.1 few are order no_other

pub servient_writes_one_act : ServientWritesOneAct
servient_writes_one_act site first_id exchanges turns p q code path szx x row is all few write are order no_other =
    let t = turns_play site first_id exchanges turns p q is all in
    writes_are_one_act first_id exchanges MOST_WATCHERS t.0 p.world q.world code path szx x row is.world t.1 few write are order no_other
