-- Where the reply fits, its options do, and no segment is too long for one.
use Rattle.std.proofs.Common.{arith, List, [], ℕ, ◌≤◌, length, ◌++◌, subst, sym}
use Rattle.std.proofs.lemmas.List.Elements.{All-weaker}
use Rattle.coap_msg.specs.declared.constants.TheConstants.{LOCATION_PATH, LONGEST_MESSAGE}
use Rattle.coap_msg.specs.Opts.{WrittenOptions, segment_options}
use Rattle.coap_msg.specs.Grammar.{largest_number, options_spelling, payload_spelling}
use Rattle.thing_ops.specs.Outcomes.{version_of}
use Rattle.coap_bind.specs.Blocks.{with_block}
use Rattle.coap_bind.specs.Writing.{place_of, format_options, etag_options, observe_options}
use Rattle.coap_bind.proofs.LengthLaws.{all_lengths, options_written, segments_behind, without_block}
use Rattle.coap_bind.proofs.writing.put_portion.Goals as goal

pub put_options-requires-clause-segments : goal.put_options-requires-clause-segments
put_options-requires-clause-segments c =
    let o = c.args.said.outcome.now in
    let tag = etag_options (version_of o) in
    let observe = observe_options c.args.said.observe in
    let rest = segment_options LOCATION_PATH (place_of o) ++ format_options o in
    let all = all_lengths c.args.pending.now.token (options_spelling 0 (tag ++ (observe ++ with_block c.args.portion.block rest))) (payload_spelling c.args.portion.payload.now) in
    let short = without_block c.args.portion.block tag observe rest LONGEST_MESSAGE (omega (arith, c.requires.room)) in
    All-weaker (λ (s : List ℕ). length s ≤ LONGEST_MESSAGE) (λ (s : List ℕ). length s ≤ largest_number) (λ s h. omega arith) (place_of o)
    (segments_behind LONGEST_MESSAGE tag observe (place_of o) (format_options o) short)

pub unwrap-requires : goal.unwrap-requires
unwrap-requires c =
    let o = c.args.said.outcome.now in
    let tag = etag_options (version_of o) in
    let observe = observe_options c.args.said.observe in
    let rest = segment_options LOCATION_PATH (place_of o) ++ format_options o in
    let all = all_lengths c.args.pending.now.token (options_spelling 0 (tag ++ (observe ++ with_block c.args.portion.block rest))) (payload_spelling c.args.portion.payload.now) in
    let short = without_block c.args.portion.block tag observe rest LONGEST_MESSAGE (omega (arith, c.requires.room)) in
    let F : WrittenOptions → Type 0 = λ w. length (options_spelling 0 (w.list ++ (tag ++ (observe ++ rest)))) ≤ w.room in
    let room : F (record { list = []; room = 1152 }) = short in
    (options_written c.put_options.result _ _ _ c.put_options.ensures.ok (subst F (sym c.on-options.ensures) room)).0
