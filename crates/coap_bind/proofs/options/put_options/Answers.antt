-- The options have no room if the place has none after those before it.
use Rattle.std.proofs.Common.{◌≡◌, ◌++◌, ◌<◌, ◌∙◌, ℕ, List, Option, length, ap, subst, append_assoc}
use Rattle.std.proofs.lemmas.Result.{err_from_is_err_and}
use Rattle.coap_msg.specs.declared.constants.TheConstants.{ETAG, OBSERVE, LOCATION_PATH}
use Rattle.coap_msg.specs.Grammar.{CoapOption, options_spelling}
use Rattle.coap_msg.specs.Opts.{WrittenOptions, segment_options}
use Rattle.coap_msg.proofs.OptionParts.{no_room_after_part}
use Rattle.coap_bind.specs.Writing.{place_of, format_options, optional}
use Rattle.coap_bind.proofs.options.put_options.Goals as goal

no_room_at_third : (start one two : WrittenOptions) (a b os qs : List CoapOption) → one ≡ record start { list = start.list ++ a } → two ≡ record one { list = one.list ++ b }
    → two.room < length (options_spelling 0 (two.list ++ os)) → start.room < length (options_spelling 0 (start.list ++ (a ++ (b ++ (os ++ qs)))))
no_room_at_third start one two a b os qs first second h =
    let both : two ≡ record start { list = start.list ++ (a ++ b) } =
    second ∙ ap (λ (w : WrittenOptions). let x : WrittenOptions = record w { list = w.list ++ b } in x) first
    ∙ ap (λ (l : List CoapOption). let x : WrittenOptions = record start { list = l } in x) (append_assoc start.list a b) in
    subst (λ (l : List CoapOption). start.room < length (options_spelling 0 (start.list ++ l))) (append_assoc a b (os ++ qs))
    (no_room_after_part start two (a ++ b) os qs both h)

pub returns-in_err-put_place-clause-ok : goal.returns-in_err-put_place-clause-ok
returns-in_err-put_place-clause-ok c =
    let p = err_from_is_err_and c.from_residual-in_err-put_place.result c.from_residual-in_err-put_place.ensures.1 in
    let place = segment_options LOCATION_PATH (place_of c.args.outcome.now) in
    let observe = optional OBSERVE c.args.observe in
    let F : Option ℕ → Type 0 = λ v. c.args.options.now.room < length (options_spelling 0 (c.args.options.now.list ++ (optional ETAG v ++ (observe ++ (place ++ format_options c.args.outcome.now))))) in
    rw p.1 (subst F c.version.ensures.version
    (no_room_at_third c.args.options.now c.put_optional.new.options c.put_optional-2.new.options (optional ETAG c.version.result) observe place (format_options c.args.outcome.now)
    c.in_ok-put_optional.ensures.ok c.in_ok-put_optional-2.ensures.ok c.in_err-put_place.ensures.ok))
