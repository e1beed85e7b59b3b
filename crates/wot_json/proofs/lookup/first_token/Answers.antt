use Rattle.wot_json.proofs.PointerTexts.{cut_nowhere, cut_first, cut_shorter}
use Rattle.wot_json.proofs.lookup.first_token.Goals as goal

pub returns-in-None-clause-cut : goal.returns-in-None-clause-cut
returns-in-None-clause-cut c = λ token further is. cut_nowhere c.args.tokens.now token further c.in-None.ensures.cases is

pub returns-in-Some-clause-cut : goal.returns-in-Some-clause-cut
returns-in-Some-clause-cut c = λ token further is.
    cut_first c.args.tokens.now token further (c.in-Some.token, c.in-Some.further) c.in-Some.ensures.cases is

pub returns-in-Some-clause-shorter : goal.returns-in-Some-clause-shorter
returns-in-Some-clause-shorter c = cut_shorter c.args.tokens.now (c.in-Some.token, c.in-Some.further) c.in-Some.ensures.cases
