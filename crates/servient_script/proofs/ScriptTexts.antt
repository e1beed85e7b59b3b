-- Lines one after another: what the reader knows after some of them, at the end, and at a bad line.
use Rattle.std.proofs.Common.{◌≡◌, ◌≢◌, ℕ, suc, ◌+◌, ◌-◌, ◌<◌, ◌≤◌, Bool, true, false, Some, subst, List, [], ◌∷◌, ◌++◌, length, get_or, All, codes, refl, sym, ap, ◌∙◌, append_assoc, arith, length-append}
use Rattle.std.specs.Prelude.{◌||◌, slice_get}
use Rattle.std.specs.List.{AllByRecursion}
use Rattle.std.proofs.lemmas.Option.{same_Some}
use Rattle.std.proofs.lemmas.List.{append-nil, get_or_at}
use Rattle.std.proofs.lemmas.List.Elements.{All-get_or, All-head, All-tail, All-weaker}
use Rattle.servient_outside.specs.declared.net.What.{What}
use Rattle.servient_outside.specs.declared.net.What.TheVariants as what
use Rattle.servient_outside.specs.declared.net.EventWithBytes.{EventWithBytes}
use Rattle.servient_script.specs.Script.{GoesOnBadly, IsFirstBadLine, IsScript, IsScriptEvent, StopsAtEnd, has_stop, is_stop, line_text, script_text}
use Rattle.servient_script.proofs.FieldTexts.{IsPrintable}
use Rattle.servient_script.proofs.LineTexts.{IsPrintable-line_body, line_body}

-- ---- the end of the run

-- the last of the events says whether one of them is the end
pub last_says : (events : List EventWithBytes) (last : EventWithBytes) → StopsAtEnd events → slice_get events (length events - 1) ≡ Some last → has_stop events ≡ is_stop last.event.what
last_says [] last ends at = absurd cc
last_says (e ∷ []) last ends at = same (is_stop e.event.what) ∙ ap (λ (x : EventWithBytes). is_stop x.event.what) (same_Some e last at)
  where
    same : (b : Bool) → (b || false) ≡ b
    same true = refl
    same false = refl
last_says (e ∷ f ∷ events) last ends at =
    not_here (is_stop e.event.what) refl ∙ last_says (f ∷ events) last ends.1 (ap (λ (n : ℕ). slice_get (e ∷ f ∷ events) n) back ∙ at)
  where
    back : suc (length (f ∷ events) - 1) ≡ length (e ∷ f ∷ events) - 1
    back = omega arith

    not_here : (b : Bool) → is_stop e.event.what ≡ b → has_stop (e ∷ f ∷ events) ≡ has_stop (f ∷ events)
    not_here true is = absurd (let none = ends.0 is in cc)
    not_here false is = rw is refl

pub is_no_stop : (w : What) → (w ≡ what.Stop → ⊥) → is_stop w ≡ false
is_no_stop (what.Opened c) other = refl
is_no_stop (what.Bytes c count) other = refl
is_no_stop (what.Ended c) other = refl
is_no_stop (what.Datagram from count) other = refl
is_no_stop what.Tick other = refl
is_no_stop what.Stop other = absurd (other refl)

pub none_says : (events : List EventWithBytes) → length events < 1 → has_stop events ≡ false
none_says [] few = refl
none_says (e ∷ events) few = absurd (omega (arith, few))

-- an event may follow where none is the end
pub ends_push : (events : List EventWithBytes) (e : EventWithBytes) → has_stop events ≡ false → StopsAtEnd (events ++ e ∷ [])
ends_push [] e none = (λ is. refl, tt)
ends_push (x ∷ events) e none = by_test (ends_push events e) (is_stop x.event.what) refl none
  where
    by_test : (has_stop events ≡ false → StopsAtEnd (events ++ e ∷ [])) → (b : Bool) → is_stop x.event.what ≡ b → (b || has_stop events) ≡ false → StopsAtEnd ((x ∷ events) ++ e ∷ [])
    by_test rest true is n = absurd cc
    by_test rest false is n = (λ stops. let both : false ≡ true = sym is ∙ stops in absurd cc, rest n)

-- where one is, none may follow
none_follows : (events : List EventWithBytes) (e : EventWithBytes) (more : List EventWithBytes) → has_stop events ≡ true → StopsAtEnd (events ++ e ∷ more) → ⊥
none_follows [] e more some ends = cc
none_follows (x ∷ events) e more some ends = by_test (λ stopped. none_follows events e more stopped ends.1) (is_stop x.event.what) refl some
  where
    nothing : (xs : List EventWithBytes) → xs ++ e ∷ more ≡ [] → ⊥
    nothing [] same = cc
    nothing (y ∷ ys) same = cc

    by_test : (has_stop events ≡ true → ⊥) → (b : Bool) → is_stop x.event.what ≡ b → (b || has_stop events) ≡ true → ⊥
    by_test rest true is s = nothing events (ends.0 is)
    by_test rest false is s = rest s

-- the end of the run is at the end of the first of some events too, and of those after them
ends_first : (events : List EventWithBytes) (e : EventWithBytes) (more : List EventWithBytes) → StopsAtEnd (events ++ e ∷ more) → StopsAtEnd (events ++ e ∷ [])
ends_first [] e more ends = (λ is. refl, tt)
ends_first (x ∷ events) e more ends = (λ is. absurd (nothing events (ends.0 is)), ends_first events e more ends.1)
  where
    nothing : (xs : List EventWithBytes) → xs ++ e ∷ more ≡ [] → ⊥
    nothing [] same = cc
    nothing (y ∷ ys) same = cc

-- ---- the text of some events

-- one more event is one more line
script_text_push : (events : List EventWithBytes) (e : EventWithBytes)
    → script_text (events ++ e ∷ []) ≡ script_text events ++ line_text e
script_text_push [] e = append-nil (line_text e)
script_text_push (x ∷ xs) e =
    ap (λ (rest : List ℕ). line_text x ++ rest) (script_text_push xs e)
    ∙ sym (append_assoc (line_text x) (script_text xs) (line_text e))

each_push : (events : List EventWithBytes) (e : EventWithBytes) → AllByRecursion IsScriptEvent events
    → IsScriptEvent e → AllByRecursion IsScriptEvent (events ++ e ∷ [])
each_push [] e each is = (is, tt)
each_push (x ∷ xs) e each is = (each.0, each_push xs e each.1 is)

-- a line has one byte or more
line_text_some : (e : EventWithBytes) → 0 < length (line_text e)
line_text_some e = let size = length-append (line_body e) (codes "\n") in omega (arith, size)

-- so there are no more lines than bytes
length-le-script_text : (events : List EventWithBytes) → length events ≤ length (script_text events)
length-le-script_text [] = omega arith
length-le-script_text (x ∷ xs) =
    let more = length-le-script_text xs in
    let some = line_text_some x in
    let size = length-append (line_text x) (script_text xs) in
    omega (arith, more, some, size)

-- and no bytes are the lines of no events
no_events : (events : List EventWithBytes) → script_text events ≡ [] → events ≡ []
no_events [] none = refl
no_events (x ∷ xs) none =
    let size = length-append (line_text x) (script_text xs) in
    let some = line_text_some x in
    let zero_size : length (line_text x ++ script_text xs) ≡ 0 = ap length none in
    absurd (omega (arith, size, some, zero_size))

-- ---- the first line

-- there is no line feed
abbrev pub LacksLineFeed : List ℕ → Type 0
LacksLineFeed xs = All (λ b. b ≢ 10) xs

-- where two texts are one, the first line feed is at one place
same_cut : (xs ys zs ws : List ℕ) → LacksLineFeed xs → LacksLineFeed ys → xs ++ 10 ∷ zs ≡ ys ++ 10 ∷ ws
    → (xs ≡ ys) × (zs ≡ ws)
same_cut [] [] zs ws lacks_x lacks_y same = (refl, cc same)
same_cut [] (y ∷ ys) zs ws lacks_x lacks_y same = absurd (All-head (λ b. b ≢ 10) y ys lacks_y (cc same))
same_cut (x ∷ xs) [] zs ws lacks_x lacks_y same = absurd (All-head (λ b. b ≢ 10) x xs lacks_x (cc same))
same_cut (x ∷ xs) (y ∷ ys) zs ws lacks_x lacks_y same =
    let head : x ≡ y = cc same in
    let tail : xs ++ 10 ∷ zs ≡ ys ++ 10 ∷ ws = cc same in
    let more_x = All-tail (λ b. b ≢ 10) x xs lacks_x in
    let more_y = All-tail (λ b. b ≢ 10) y ys lacks_y in
    let rest = same_cut xs ys zs ws more_x more_y tail in
    (cc (head, rest.0), rest.1)

-- an event's line ends at its only line feed
no_line_feed : (e : EventWithBytes) → IsScriptEvent e → LacksLineFeed (line_body e)
no_line_feed e is =
    All-weaker IsPrintable (λ b. b ≢ 10) (λ b printable feed. omega (arith, printable, feed)) (line_body e)
    (IsPrintable-line_body e is)

-- bytes that begin with the line of an event have it as their first line
first_line_is : (e : EventWithBytes) (line more after : List ℕ) → LacksLineFeed line → IsScriptEvent e
    → line ++ 10 ∷ more ≡ line_text e ++ after → (line ++ codes "\n" ≡ line_text e) × (more ≡ after)
first_line_is e line more after lacks is same =
    let whole : line ++ 10 ∷ more ≡ line_body e ++ 10 ∷ after =
    same ∙ append_assoc (line_body e) (codes "\n") after in
    let cut = same_cut line (line_body e) more after lacks (no_line_feed e is) whole in
    (ap (λ (xs : List ℕ). xs ++ codes "\n") cut.0, cut.1)

-- ---- after some lines

-- These events were read and this rest is left: every script of the bytes continues with it.
pub record HasRead (bytes : List ℕ) (events : List EventWithBytes) (rest : List ℕ) : Type 0 where
  pub text : bytes ≡ script_text events ++ rest
  pub each : AllByRecursion IsScriptEvent events
  pub ends : StopsAtEnd events
  pub only : (all : List EventWithBytes) → IsScript bytes all
      → (more : List EventWithBytes) × (all ≡ events ++ more) × IsScript rest more

pub read_none : (bytes : List ℕ) → HasRead bytes [] bytes
read_none bytes = record { text = refl; each = tt; ends = tt; only = λ all is. (all, refl, is) }

-- there are no more events so far than bytes
pub few_events : (bytes rest : List ℕ) (events : List EventWithBytes) → HasRead bytes events rest
    → length events ≤ length bytes
few_events bytes rest events read =
    let lines = length-le-script_text events in
    let size : length bytes ≡ length (script_text events) + length rest =
    ap length read.text ∙ length-append (script_text events) rest in
    omega (arith, lines, size)

-- a line feed is in the rest
some_line : (xs ys : List ℕ) → xs ++ 10 ∷ ys ≡ [] → ⊥
some_line [] ys same = cc same
some_line (x ∷ xs) ys same = cc same

-- a script of the rest begins with the event of its first line
first_event : (rest line more : List ℕ) (e : EventWithBytes) (all : List EventWithBytes)
    → rest ≡ line ++ 10 ∷ more → LacksLineFeed line
    → ((x : EventWithBytes) → IsScriptEvent x → line ++ codes "\n" ≡ line_text x → e ≡ x) → IsScript rest all
    → (after : List EventWithBytes) × (all ≡ e ∷ after) × IsScript more after
first_event rest line more e [] cut lacks only is = absurd (some_line line more (sym cut ∙ is.text))
first_event rest line more e (x ∷ after) cut lacks only is =
    let first = first_line_is x line more (script_text after) lacks is.each.0 (sym cut ∙ is.text) in
    let same : e ≡ x = only x is.each.0 first.0 in
    let after_is : IsScript more after = record { text = first.1; each = is.each.1; ends = is.ends.1 } in
    (after, ap (λ (y : EventWithBytes). y ∷ after) (sym same), after_is)

-- one more line was read as the one event that it is
pub read_more : (bytes line more : List ℕ) (events : List EventWithBytes) (e : EventWithBytes) (rest : List ℕ)
    → HasRead bytes events rest → rest ≡ line ++ 10 ∷ more → LacksLineFeed line
    → line ++ codes "\n" ≡ line_text e → IsScriptEvent e
    → ((x : EventWithBytes) → IsScriptEvent x → line ++ codes "\n" ≡ line_text x → e ≡ x) → has_stop events ≡ false
    → HasRead bytes (events ++ e ∷ []) more
read_more bytes line more events e rest read cut lacks text is only going =
    let first : rest ≡ line_text e ++ more =
    cut ∙ sym (append_assoc line (codes "\n") more) ∙ ap (λ (xs : List ℕ). xs ++ more) text in
    record {
      text =
          read.text ∙ ap (λ (xs : List ℕ). script_text events ++ xs) first
          ∙ sym (append_assoc (script_text events) (line_text e) more)
          ∙ ap (λ (xs : List ℕ). xs ++ more) (sym (script_text_push events e));
      each = each_push events e read.each is;
      ends = ends_push events e going;
      only =
          λ all is_script.
          let left = read.only all is_script in
          let begins = first_event rest line more e left.0 cut lacks only left.2 in
          let whole : all ≡ (events ++ e ∷ []) ++ begins.0 =
          left.1 ∙ ap (λ (xs : List EventWithBytes). events ++ xs) begins.1
          ∙ sym (append_assoc events (e ∷ []) begins.0) in
          (begins.0, whole, begins.2);
    }

-- ---- at the end

-- nothing is left, so these are the script's events
pub all_read : (bytes : List ℕ) (events : List EventWithBytes) (rest : List ℕ) → HasRead bytes events rest
    → rest ≡ [] → IsScript bytes events
all_read bytes events rest read empty = record {
  text = read.text ∙ ap (λ (xs : List ℕ). script_text events ++ xs) empty ∙ append-nil (script_text events);
  each = read.each;
  ends = read.ends;
}

-- and it has no others
pub only_read : (bytes : List ℕ) (events : List EventWithBytes) (rest : List ℕ) → HasRead bytes events rest
    → rest ≡ [] → (all : List EventWithBytes) → IsScript bytes all → events ≡ all
only_read bytes events rest read empty all is =
    let left = read.only all is in
    let none : left.0 ≡ [] = no_events left.0 (sym left.2.text ∙ empty) in
    sym (left.1 ∙ ap (λ (xs : List EventWithBytes). events ++ xs) none ∙ append-nil events)

-- ---- at a bad line

-- no line feed is left
pub bad_without_line_feed : (events : List EventWithBytes) (rest : List ℕ) → LacksLineFeed rest → GoesOnBadly events rest
bad_without_line_feed events rest lacks e more is ends begins =
    let at = length (line_body e) in
    let text : rest ≡ line_body e ++ 10 ∷ more = begins ∙ append_assoc (line_body e) (codes "\n") more in
    let feed : get_or rest at 0 ≡ 10 =
    ap (λ (xs : List ℕ). get_or xs at 0) text ∙ get_or_at (line_body e) 10 more 0 at refl in
    let size : length rest ≡ at + suc (length more) = ap length text ∙ length-append (line_body e) (10 ∷ more) in
    All-get_or (λ b. b ≢ 10) rest at 0 (omega (arith, size)) lacks feed

-- the first line is that of no event
pub bad_line : (events : List EventWithBytes) (rest line more : List ℕ) → rest ≡ line ++ 10 ∷ more → LacksLineFeed line
    → ((e : EventWithBytes) → IsScriptEvent e → line ++ codes "\n" ≢ line_text e) → GoesOnBadly events rest
bad_line events rest line more cut lacks none e after is ends begins =
    none e is ((first_line_is e line more after lacks is (sym cut ∙ begins)).0)

-- the run has ended
pub bad_after_stop : (events : List EventWithBytes) (rest : List ℕ) → has_stop events ≡ true → GoesOnBadly events rest
bad_after_stop events rest stopped e more is ends begins = none_follows events e [] stopped ends

-- the bytes are no script
pub no_script : (bytes : List ℕ) (events : List EventWithBytes) (rest : List ℕ) → HasRead bytes events rest
    → rest ≢ [] → GoesOnBadly events rest → (all : List EventWithBytes) → IsScript bytes all → ⊥
no_script bytes events rest read some bad all is =
    let left = read.only all is in
    go left.0 left.2 (subst (λ (es : List EventWithBytes). StopsAtEnd es) left.1 is.ends)
  where
    go : (more : List EventWithBytes) → IsScript rest more → StopsAtEnd (events ++ more) → ⊥
    go [] is' ends = some is'.text
    go (x ∷ more) is' ends = bad x (script_text more) is'.each.0 (ends_first events x more ends) is'.text

-- and the line after those that were read is their first bad one
pub first_bad_line : (bytes : List ℕ) (events : List EventWithBytes) (rest : List ℕ) (n : ℕ)
    → HasRead bytes events rest → rest ≢ [] → GoesOnBadly events rest → n ≡ length events + 1 → IsFirstBadLine bytes n
first_bad_line bytes events rest n read some bad number = record {
  good = events;
  rest = rest;
  text = read.text;
  each = read.each;
  ends = read.ends;
  number = number;
  some_left = some;
  bad = bad;
}
