-- It is asked, or out of memory; or it is for the links.
use Rattle.std.proofs.Common.{◌∙◌, ap, refl, sym, subst}
use Rattle.coap_opts.specs.AskSeen.{ask_seen}
use Rattle.coap_bind.specs.declared.blocks.BlockUse.{BlockUse}
use Rattle.coap_bind.specs.declared.blocks.BlockUse.TheVariants.{Whole, Gives}
use Rattle.coap_bind.specs.declared.pending.PendingReply.{PendingReply}
use Rattle.coap_bind.specs.Blocks.{IsUse}
use Rattle.coap_bind.proofs.TreatLaws.{gives_use, open_ticket, treat_asks, treat_links, treat_out_of_memory, use_fits, whole_use}
use Rattle.coap_bind.proofs.server.Server.ask.Goals as goal

pub returns-then-is_links_path-clause-ok : goal.returns-then-is_links_path-clause-ok
returns-then-is_links_path-clause-ok c =
    λ m r act. treat_links c.args.pending c.args.received.moment c.args.received.message.now.code (ask_seen c.args.ask) m c.answer_links.result _ _ _ _ r act
    (sym c.is_links_path.ensures ∙ c.if-is_links_path.true) c.answer_links.ensures

pub returns-then-code-ne-GET-clause-ok : goal.returns-then-code-ne-GET-clause-ok
returns-then-code-ne-GET-clause-ok c =
    let p = c.args.pending in
    let what = ask_seen c.args.ask in
    let ticket = ap (λ (u : BlockUse). let x : PendingReply = record p { blocks = u } in x) (whole_use c.args.received.moment c.args.received.message.now.code p.observing what c.if-code-ne-GET.true) in
    λ m r act. (
      _,
      treat_asks p c.args.received.moment c.args.received.message.now.code what (record p { blocks = Whole }) m c.args.self.now r act (sym c.is_links_path.ensures ∙ c.if-is_links_path.false) ticket,
      (refl, refl),
    )

pub returns-in-Ok-clause-ok : goal.returns-in-Ok-clause-ok
returns-in-Ok-clause-ok c =
    let p = c.args.pending in
    let what = ask_seen c.args.ask in
    let given : BlockUse = Gives (record { path = c.in-Ok.path; szx = c.size_asked.result; moment = c.args.received.moment }) in
    let ticket = ap (λ (u : BlockUse). let x : PendingReply = record p { blocks = u } in x)
    (gives_use c.args.received.moment c.args.received.message.now.code p.observing what c.in-Ok.path c.size_asked.result c.if-code-ne-GET.false c.in-Ok.ensures c.size_asked.ensures) in
    λ m r act. (
      _,
      treat_asks p c.args.received.moment c.args.received.message.now.code what (record p { blocks = given }) m c.args.self.now r act (sym c.is_links_path.ensures ∙ c.if-is_links_path.false) ticket,
      (refl, refl),
    )

pub returns-in-Ok-clause-open : goal.returns-in-Ok-clause-open
returns-in-Ok-clause-open c =
    let what = ask_seen c.args.ask in
    let given = gives_use c.args.received.moment c.args.received.message.now.code c.args.pending.observing what c.in-Ok.path c.size_asked.result c.if-code-ne-GET.false c.in-Ok.ensures c.size_asked.ensures in
    open_ticket (record c.args.pending { blocks = Gives (record { path = c.in-Ok.path; szx = c.size_asked.result; moment = c.args.received.moment }) }) _ c.args.self.now refl c.requires.slot c.requires.token
    (subst IsUse (sym given) (use_fits c.args.received.moment c.args.received.message.now.code c.args.pending.observing what c.requires.blocks c.requires.path))

pub returns-clause-ok : goal.returns-clause-ok
returns-clause-ok c = λ m r act. treat_out_of_memory c.args.pending c.args.received.moment c.args.received.message.now.code (ask_seen c.args.ask) m c.refuse_out_of_memory.result _ _ _ _ r c.refuse_out_of_memory.ensures
