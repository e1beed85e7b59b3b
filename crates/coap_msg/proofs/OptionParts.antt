-- Options that are written one part after another.
use Rattle.std.proofs.Common.{◌≡◌, ℕ, ◌+◌, ◌≤◌, ◌<◌, ◌∙◌, List, [], ◌∷◌, ◌++◌, length, take, drop, get_or, Some, sym, ap, subst, arith, append_assoc, length-append}
use Rattle.std.specs.Prelude.{Result, OnOk, slice_get}
use Rattle.std.proofs.lemmas.Option.{get_or_from_slice_get}
use Rattle.std.proofs.lemmas.Result.{on_ok_weaker}
use Rattle.std.proofs.lemmas.List.{map-append, take_more, take-append-drop}
use Rattle.coap_msg.specs.Grammar.{CoapOption, option_spelling, options_spelling}
use Rattle.coap_msg.specs.declared.opts.NoRoom.{NoRoom}
use Rattle.coap_msg.specs.Opts.{WrittenOptions, last_number, segment_options}
use Rattle.coap_msg.proofs.OptionLists.{last_number-push}

-- the option that was written is the last
pub last_written : (result : Result (Unit {0}) NoRoom) (old new : WrittenOptions) (number : ℕ) (value : List ℕ)
    → OnOk result (new ≡ record old { list = old.list ++ (number, value) ∷ [] }) → OnOk result (last_number 0 new.list ≡ number)
last_written result old new number value ok =
    on_ok_weaker result (λ e. ap (λ (w : WrittenOptions). last_number 0 w.list) e ∙ last_number-push 0 old.list (number, value)) ok

-- more options have no fewer bytes
pub longer : (last : ℕ) (os ps : List CoapOption) → length (options_spelling last os) ≤ length (options_spelling last (os ++ ps))
longer last [] ps = omega arith
longer last (o ∷ os) ps =
    let rest = longer o.0 os ps in
    omega (arith, length-append (option_spelling last o) (options_spelling o.0 os), length-append (option_spelling last o) (options_spelling o.0 (os ++ ps)))

-- where some of the options have no room, all have none
pub no_room_for_all : (os ps all : List CoapOption) (room : ℕ) → all ≡ os ++ ps → room < length (options_spelling 0 os) → room < length (options_spelling 0 all)
no_room_for_all os ps all room is h = rw is (let l = longer 0 os ps in omega arith)

-- the options of the segments so far with that of the next one
pub segments_more : (number : ℕ) (os : List CoapOption) (segments : List (List ℕ)) (i : ℕ) → i < length segments
    → (os ++ segment_options number (take i segments)) ++ (number, get_or segments i []) ∷ [] ≡ os ++ segment_options number (take (i + 1) segments)
segments_more number os segments i h =
    append_assoc os (segment_options number (take i segments)) ((number, get_or segments i []) ∷ [])
    ∙ ap (λ (xs : List CoapOption). os ++ xs) (sym (map-append (λ (s : List ℕ). let o : CoapOption = (number, s) in o) (take i segments) (get_or segments i [] ∷ [])))
    ∙ ap (λ (xs : List (List ℕ)). os ++ segment_options number xs) (sym (take_more segments i [] h))

-- the options of a path are those so far and those of the segments after them
pub segments_split : (number : ℕ) (os : List CoapOption) (segments : List (List ℕ)) (i : ℕ)
    → os ++ segment_options number segments ≡ (os ++ segment_options number (take i segments)) ++ segment_options number (drop i segments)
segments_split number os segments i =
    ap (λ (xs : List (List ℕ)). os ++ segment_options number xs) (sym (take-append-drop i segments))
    ∙ ap (λ (xs : List CoapOption). os ++ xs) (map-append (λ (s : List ℕ). let o : CoapOption = (number, s) in o) (take i segments) (drop i segments))
    ∙ sym (append_assoc os (segment_options number (take i segments)) (segment_options number (drop i segments)))

-- where the segments up to one of them have no room, the path has none
pub no_room_in_path : (number : ℕ) (os sofar : List CoapOption) (segments : List (List ℕ)) (i room : ℕ) → i < length segments
    → sofar ≡ os ++ segment_options number (take i segments)
    → room < length (options_spelling 0 (sofar ++ (number, get_or segments i []) ∷ [])) → room < length (options_spelling 0 (os ++ segment_options number segments))
no_room_in_path number os sofar segments i room within is h =
    no_room_for_all (sofar ++ (number, get_or segments i []) ∷ []) (segment_options number (drop (i + 1) segments)) (os ++ segment_options number segments) room
    (segments_split number os segments (i + 1)
    ∙ ap (λ (xs : List CoapOption). xs ++ segment_options number (drop (i + 1) segments))
    (sym (segments_more number os segments i within) ∙ ap (λ (xs : List CoapOption). xs ++ (number, get_or segments i []) ∷ []) (sym is)))
    h

-- one segment more was written
pub segment_written : (number : ℕ) (start old new : WrittenOptions) (segments : List (List ℕ)) (i : ℕ) (segment : List ℕ) → i < length segments
    → slice_get segments i ≡ Some segment → old.list ≡ start.list ++ segment_options number (take i segments)
    → new ≡ record old { list = old.list ++ (number, segment) ∷ [] } → new.list ≡ start.list ++ segment_options number (take (i + 1) segments)
segment_written number start old new segments i segment within there so_far is =
    ap (λ (w : WrittenOptions). w.list) is
    ∙ ap (λ (xs : List CoapOption). xs ++ (number, segment) ∷ []) so_far
    ∙ ap (λ (s : List ℕ). (start.list ++ segment_options number (take i segments)) ++ (number, s) ∷ []) (sym (get_or_from_slice_get segments i segment [] there))
    ∙ segments_more number start.list segments i within

-- where a segment has no room after those before it, the path has none
pub no_room_at_segment : (number : ℕ) (start old : WrittenOptions) (segments : List (List ℕ)) (i : ℕ) (segment : List ℕ) → i < length segments
    → slice_get segments i ≡ Some segment → old.room ≡ start.room → old.list ≡ start.list ++ segment_options number (take i segments)
    → old.room < length (options_spelling 0 (old.list ++ (number, segment) ∷ []))
    → start.room < length (options_spelling 0 (start.list ++ segment_options number segments))
no_room_at_segment number start old segments i segment within there room so_far h =
    no_room_in_path number start.list old.list segments i start.room within so_far
    (subst (λ (s : List ℕ). start.room < length (options_spelling 0 (old.list ++ (number, s) ∷ []))) (sym (get_or_from_slice_get segments i segment [] there))
    (subst (λ (n : ℕ). n < length (options_spelling 0 (old.list ++ (number, segment) ∷ []))) room h))

-- where a part has no room after another one was written, both have none with the options after them
pub no_room_after_part : (old new : WrittenOptions) (os ps qs : List CoapOption) → new ≡ record old { list = old.list ++ os }
    → new.room < length (options_spelling 0 (new.list ++ ps)) → old.room < length (options_spelling 0 (old.list ++ (os ++ (ps ++ qs))))
no_room_after_part old new os ps qs is h =
    let P : WrittenOptions → Type 0 = λ w. w.room < length (options_spelling 0 (w.list ++ ps)) in
    no_room_for_all ((old.list ++ os) ++ ps) qs (old.list ++ (os ++ (ps ++ qs))) old.room
    (sym (append_assoc (old.list ++ os) ps qs ∙ append_assoc old.list os (ps ++ qs)))
    (subst P is h)
