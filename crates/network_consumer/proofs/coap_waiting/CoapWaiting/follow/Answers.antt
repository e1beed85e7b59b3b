use Rattle.std.proofs.Common.{refl}
use Rattle.coap_client.specs.declared.news.News.TheVariants as news
use Rattle.network_consumer.specs.Deeds.{sight}
use Rattle.network_consumer.proofs.HearingLaws.{nothing_follows, news_follow, reset_follows}
use Rattle.network_consumer.proofs.coap_waiting.CoapWaiting.follow.Goals as goal

pub returns-in-Nothing-clause-follows : goal.returns-in-Nothing-clause-follows
returns-in-Nothing-clause-follows g c = nothing_follows _ _ c.args.self.now c.args.news news.Nothing (sight (g.N.Net.seen c.args.net.now) (g.O.Out.seen c.args.out.now)) c.in-Nothing.is (refl, refl, refl)

pub returns-in-Old-clause-follows : goal.returns-in-Old-clause-follows
returns-in-Old-clause-follows g c = nothing_follows _ _ c.args.self.now c.args.news news.Old (sight (g.N.Net.seen c.args.net.now) (g.O.Out.seen c.args.out.now)) c.in-Old.is (refl, refl, refl)

pub returns-in-Reset-clause-follows : goal.returns-in-Reset-clause-follows
returns-in-Reset-clause-follows g c = reset_follows _ _ c.args.self.now c.args.self.now c.args.news (sight (g.N.Net.seen c.args.net.now) (g.O.Out.seen c.args.out.now)) c.in-Reset.is

pub returns-in-Answered-clause-follows : goal.returns-in-Answered-clause-follows
returns-in-Answered-clause-follows g c =
    news_follow c.args.task.now.purpose c.args.task.now.chosen.now c.args.self.now c.follow_answer.new.self c.args.news (news.Answered c.in-Answered.code c.in-Answered.block2 c.in-Answered.payload) _ (sight (g.N.Net.seen c.args.net.now) (g.O.Out.seen c.args.out.now)) (sight (g.N.Net.seen c.follow_answer.new.net) (g.O.Out.seen c.follow_answer.new.out)) _
    c.in-Answered.is c.follow_answer.ensures.follows

pub returns-in-Value-clause-follows : goal.returns-in-Value-clause-follows
returns-in-Value-clause-follows g c =
    news_follow c.args.task.now.purpose c.args.task.now.chosen.now c.args.self.now c.follow_value.new.self c.args.news (news.Value c.in-Value.payload) _ (sight (g.N.Net.seen c.args.net.now) (g.O.Out.seen c.args.out.now)) (sight (g.N.Net.seen c.follow_value.new.net) (g.O.Out.seen c.follow_value.new.out)) _
    c.in-Value.is c.follow_value.ensures.follows
