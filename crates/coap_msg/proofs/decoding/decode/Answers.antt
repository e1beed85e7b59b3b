use Rattle.std.proofs.Common.{◌≡◌, ℕ, List, ◌++◌, length, drop, ap, sym, ◌∙◌, subst, rules}
use Rattle.std.proofs.lemmas.List.{drop_at}
use Rattle.std.proofs.lemmas.Result.{err_from_is_err_and}
use Rattle.coap_msg.specs.declared.message.MsgFault.{MsgFault}
use Rattle.coap_msg.specs.declared.message.MsgFault.TheVariants as fault
use Rattle.coap_msg.specs.Grammar.{HasHeaderAlone}
use Rattle.coap_msg.specs.Faults.{HasMsgFault, HasHeaderFault, MayGoOn, HasBodyFault, in_header, in_body}
use Rattle.coap_msg.proofs.Messages.{assembled_message, assembled_spells, nothing_after}
use Rattle.coap_msg.proofs.decoding.decode.Goals as goal

-- the bytes after a token are those that its length leaves
after_token : (body token rest : List ℕ) (n : ℕ) → rest ≡ token ++ body → length token ≡ n → drop n rest ≡ body
after_token body token rest n split count = ap (λ (xs : List ℕ). drop n xs) split ∙ drop_at token body n count

pub returns-then-header-ne1-clause-fault : goal.returns-then-header-ne1-clause-fault
returns-then-header-ne1-clause-fault c =
    let here : HasHeaderFault fault.Version c.in-Some.header c.in-Some.rest.now = search rules in
    in_header c.in-Some.header c.in-Some.rest.now c.in-Some.ensures.ok here

pub returns-then-token_length-gt-LONGEST_TOKEN-clause-fault : goal.returns-then-token_length-gt-LONGEST_TOKEN-clause-fault
returns-then-token_length-gt-LONGEST_TOKEN-clause-fault c =
    let here : HasHeaderFault fault.TokenLength c.in-Some.header c.in-Some.rest.now = search rules in
    in_header c.in-Some.header c.in-Some.rest.now c.in-Some.ensures.ok here

pub returns-then-not-is_empty-clause-fault : goal.returns-then-not-is_empty-clause-fault
returns-then-not-is_empty-clause-fault c =
    let here : HasHeaderFault fault.EmptyCode c.in-Some.header c.in-Some.rest.now = search rules in
    in_header c.in-Some.header c.in-Some.rest.now c.in-Some.ensures.ok here

pub returns-then-not-matches-clause-fault : goal.returns-then-not-matches-clause-fault
returns-then-not-matches-clause-fault c =
    let here : HasHeaderFault fault.Class c.in-Some.header c.in-Some.rest.now = search rules in
    in_header c.in-Some.header c.in-Some.rest.now c.in-Some.ensures.ok here

pub returns-in_err-options-clause-fault : goal.returns-in_err-options-clause-fault
returns-in_err-options-clause-fault c =
    let error = err_from_is_err_and c.from_residual.result c.from_residual.ensures.1 in
    let goes_on : MayGoOn c.in-Some.header c.in-Some.rest.now = search rules in
    let here = after_token c.split_at.result.1.now c.split_at.result.0.now c.in-Some.rest.now c.in-Some.header.token_length c.split_at.ensures.by_index.0 c.split_at.ensures.front_len in
    rw error.1 (subst (λ (e : MsgFault). HasMsgFault e c.args.bytes.now) (sym error.2)
    (in_body c.in-Some.header c.in-Some.rest.now c.in-Some.ensures.ok goes_on
    (subst (λ (xs : List ℕ). HasBodyFault c.in_err-options.field-0.0 xs) (sym here) c.in_err-options.ensures.fault)))

pub returns-clause-ok : goal.returns-clause-ok
returns-clause-ok c =
    let h = c.in-Some.header in
    let token = c.split_at.result.0.now in
    let body = c.split_at.result.1.now in
    let options = c.in_ok-options.options in
    let payload = c.in_ok-options.payload.now in
    let goes_on : MayGoOn c.in-Some.header c.in-Some.rest.now = search rules in
    let empty : h.code ≡ 0 → HasHeaderAlone (assembled_message h token options payload) =
    λ code. nothing_after h c.in-Some.rest.now token body options payload (goes_on.empty code) c.split_at.ensures.by_index.0 c.in_ok-options.ensures.ok in
    assembled_spells h c.args.bytes.now c.in-Some.rest.now token body options payload c.in-Some.ensures.ok
    goes_on.token.version goes_on.token.short goes_on.class empty
    c.split_at.ensures.by_index.0 c.split_at.ensures.front_len c.in_ok-options.ensures.ok
