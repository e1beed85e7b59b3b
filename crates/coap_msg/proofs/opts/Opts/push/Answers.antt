use Rattle.std.proofs.Common.{◌≡◌, ℕ, ◌+◌, ◌^◌, ◌<◌, ◌≤◌, List, [], ◌∷◌, ◌++◌, length, take, arith, refl, ap, sym, ◌∙◌, length-append}
use Rattle.std.specs.Prelude.{Result, Ok, Err, OnErr}
use Rattle.std.proofs.lemmas.List.{length-take-le}
use Rattle.coap_msg.specs.Grammar.{CoapOption, option_spelling, options_spelling, largest_number, MayFollow}
use Rattle.coap_msg.specs.Options.{options_of}
use Rattle.coap_msg.specs.Kept.{AreWritten}
use Rattle.coap_msg.specs.Opts.{WrittenOptions, last_number}
use Rattle.coap_msg.proofs.OptionLists.{IsPushed, pushed}
use Rattle.coap_msg.proofs.opts.Opts.push.Goals as goal

-- a fact that holds is one that holds on an error
on_err : {T E P : Type 0} (r : Result T E) → P → OnErr r P
on_err (Ok x) p = tt
on_err (Err e) p = p

-- written options of this list and this room
abbrev written_options : List CoapOption → ℕ → WrittenOptions
written_options list room = record { list = list; room = room }

-- an option of a number that isn't below the last one may follow
follows : (self : WrittenOptions) (old : List ℕ) (last number : ℕ) (value : List ℕ) →
    options_of old ≡ self.list → AreWritten last old → last_number 0 self.list ≤ number → number < 2 ^ 16 →
    length value ≤ largest_number → MayFollow last (number, value)
follows self old last number value list_is are_written order below bound =
    let last_is : last_number 0 self.list ≡ last = ap (λ (os : List CoapOption). last_number 0 os) (sym list_is)
    ∙ are_written.last_is in
    record { order = omega arith; number = below; value = bound }

-- an option of such a number that is spelled after the written ones is pushed
pushed_here : (self : WrittenOptions) (old new : List ℕ) (last number : ℕ) (value : List ℕ) →
    options_of old ≡ self.list → AreWritten last old → last_number 0 self.list ≤ number → number < 2 ^ 16 →
    length value ≤ largest_number → new ≡ old ++ option_spelling last (number, value) →
    IsPushed (options_of old) (number, value) new
pushed_here self old new last number value list_is are_written order below bound new_is =
    pushed old new last (number, value) are_written (follows self old last number value list_is are_written order below bound) new_is

pub invariant_of-self-2 : goal.invariant_of-self-2
invariant_of-self-2 c =
    let old = take c.self.inside.used c.self.inside.room.now in
    let new = take c.in_ok-end.end c.put_option.new.out in
    let list_is = ap (λ (w : WrittenOptions). w.list) c.self.view_is in
    let p = pushed_here c.args.self.now old new c.self.inside.last c.args.number c.args.value.now list_is
    c.self.invariant.1 c.requires.order (omega (arith, c.ranges.number)) c.requires.value c.in_ok-end.ensures.bytes in
    (c.in_ok-end.ensures.end.1, p.written)

-- written options with the same list and room are the same
same_written : (l m : List CoapOption) (r s : ℕ) → l ≡ m → r ≡ s → written_options l r ≡ written_options m s
same_written l m r s list room = cc

pub returns-clause-ok : goal.returns-clause-ok
returns-clause-ok c =
    let old = take c.self.inside.used c.self.inside.room.now in
    let new = take c.in_ok-end.end c.put_option.new.out in
    let list_is = ap (λ (w : WrittenOptions). w.list) c.self.view_is in
    let room_is = ap (λ (w : WrittenOptions). w.room) c.self.view_is in
    let p = pushed_here c.args.self.now old new c.self.inside.last c.args.number c.args.value.now list_is
    c.self.invariant.1 c.requires.order (omega (arith, c.ranges.number)) c.requires.value c.in_ok-end.ensures.bytes in
    same_written _ _ _ _ (p.list ∙ ap (λ (os : List CoapOption). os ++ (c.args.number, c.args.value.now) ∷ []) list_is) (c.put_option.auto.out ∙ room_is)

-- where the spelling of an option has no room after that of the others, the longer list has none
no_room : (self : WrittenOptions) (bytes : List ℕ) (used last room : ℕ) (o : CoapOption) →
    options_of bytes ≡ self.list → room ≡ self.room → AreWritten last bytes → MayFollow last o →
    length bytes ≡ used → room < used + length (option_spelling last o) →
    self.room < length (options_spelling 0 (self.list ++ o ∷ []))
no_room self bytes used last room o list_is room_is are_written may_follow used_is short =
    let p = pushed bytes (bytes ++ option_spelling last o) last o are_written may_follow refl in
    let longer : bytes ++ option_spelling last o ≡ options_spelling 0 (self.list ++ o ∷ []) =
    p.bytes_are ∙ ap (λ (os : List CoapOption). options_spelling 0 (os ++ o ∷ [])) list_is in
    omega (arith, ap length longer, length-append bytes (option_spelling last o))

pub returns-in_err-end-clause-no_room : goal.returns-in_err-end-clause-no_room
returns-in_err-end-clause-no_room c =
    let old = take c.self.inside.used c.self.inside.room.now in
    let list_is = ap (λ (w : WrittenOptions). w.list) c.self.view_is in
    on_err c.from_residual.result
    (no_room c.args.self.now old c.self.inside.used c.self.inside.last (length c.self.inside.room.now) (c.args.number, c.args.value.now)
    list_is (ap (λ (w : WrittenOptions). w.room) c.self.view_is) c.self.invariant.1
    (follows c.args.self.now old c.self.inside.last c.args.number c.args.value.now list_is c.self.invariant.1 c.requires.order (omega (arith, c.ranges.number)) c.requires.value)
    (length-take-le c.self.inside.used c.self.inside.room.now c.self.invariant.0) c.in_err-end.ensures.no_room)

-- where the bytes of the longer list lie within the room, its spelling does
fits : (bytes : List ℕ) (room : ℕ) (old list : List CoapOption) (o : CoapOption) →
    old ≡ list → bytes ≡ options_spelling 0 (old ++ o ∷ []) → length bytes ≤ room →
    length (options_spelling 0 (list ++ o ∷ [])) ≤ room
fits bytes room old list o list_is bytes_are within =
    let same : bytes ≡ options_spelling 0 (list ++ o ∷ []) =
    bytes_are ∙ ap (λ (os : List CoapOption). options_spelling 0 (os ++ o ∷ [])) list_is in
    omega (arith, ap length same)

pub returns-clause-fits : goal.returns-clause-fits
returns-clause-fits c =
    let old = take c.self.inside.used c.self.inside.room.now in
    let new = take c.in_ok-end.end c.put_option.new.out in
    let list_is = ap (λ (w : WrittenOptions). w.list) c.self.view_is in
    let room_is = ap (λ (w : WrittenOptions). w.room) c.self.view_is in
    let p = pushed_here c.args.self.now old new c.self.inside.last c.args.number c.args.value.now list_is
    c.self.invariant.1 c.requires.order (omega (arith, c.ranges.number)) c.requires.value c.in_ok-end.ensures.bytes in
    fits new _ _ _ (c.args.number, c.args.value.now) list_is p.bytes_are
    (omega (arith, length-take-le c.in_ok-end.end c.put_option.new.out c.in_ok-end.ensures.end.1, c.in_ok-end.ensures.end.1, c.put_option.auto.out, room_is))
