-- Something can be taken from a connection, or nothing is left to take.
use Rattle.std.proofs.Common.{◌≡◌, ◌<◌, ◌≤◌, ◌+◌, ◌-◌, ◌⊎◌, ℕ, Bool, true, false, List, [], ◌∷◌, length, take, drop, Option, Some, None, Result, Err, refl, sym, subst, ◌∙◌, inl, inr}
use Rattle.std.proofs.lemmas.Bool.{cases_lt}
use Rattle.httparse.specs.Grammar.{RequestHead}
use Rattle.http_fields.specs.Marks.{line_feeds}
use Rattle.http_fields.specs.Fields.{said_by}
use Rattle.http_wire.specs.Heads.{skipped, are_paired, IsHead, is_newer, lines_of}
use Rattle.http_wire.specs.Judging.{FramedHead, IsJudged, too_many_lines, bare_line_end, no_head, one_head, fields_judged, with_framing}
use Rattle.http_wire.specs.Stream.{Front, IsFront, IsFrontAfter, no_end, one_end, with_head, without_head, head_length}
use Rattle.http_bind.specs.declared.owed.Owed.{Owed}
use Rattle.http_bind.specs.Streams.{Connection, Streams, connection_at, with_connection, without_wait, Taken, interrupts, rest_of, to_take, after_taking, LetsTake, takes_front, is_interrupted, Takes, IsSpent, HasNothing, IsDry}
use Rattle.progress_laws.specs.Progress.{HeadsAreDecided, StreamsGoOn}

-- a head is judged
judged : HeadsAreDecided → (bytes : List ℕ) → (r : Result FramedHead ℕ) × IsJudged bytes r
judged decided bytes = by_lines (cases_lt 66 (line_feeds bytes))
  where
    by_head : line_feeds bytes ≤ 66 → are_paired 0 bytes ≡ true → ((h : RequestHead) × IsHead bytes h) ⊎ ((h : RequestHead) → ¬ (IsHead bytes h)) → (r : Result FramedHead ℕ) × IsJudged bytes r
    by_head few paired (inl (h, is)) = (with_framing h (fields_judged (is_newer h) (said_by (lines_of h))), one_head h few paired is refl)
    by_head few paired (inr none) = (Err 400, no_head few paired none refl)

    by_pairs : line_feeds bytes ≤ 66 → (t : Bool) → are_paired 0 bytes ≡ t → (r : Result FramedHead ℕ) × IsJudged bytes r
    by_pairs few true paired = by_head few paired (decided bytes)
    by_pairs few false bare = (Err 400, bare_line_end few bare refl)

    by_lines : (66 < line_feeds bytes) ⊎ (line_feeds bytes ≤ 66) → (r : Result FramedHead ℕ) × IsJudged bytes r
    by_lines (inl many) = (Err 431, too_many_lines many refl)
    by_lines (inr few) = by_pairs few (are_paired 0 bytes) refl

-- bytes have a front
front_after : HeadsAreDecided → (before : ℕ) (bytes : List ℕ) → (f : Front) × IsFrontAfter before bytes f
front_after decided before bytes = by (head_length bytes) refl
  where
    by : (o : Option ℕ) → head_length bytes ≡ o → (f : Front) × IsFrontAfter before bytes f
    by None none = (without_head bytes, no_end none refl)
    by (Some n) found = let r = judged decided (take n bytes) in (with_head (before + n) r.0 (drop n bytes), one_end n r.0 found r.1 refl)

pub has_front : HeadsAreDecided → (bytes : List ℕ) → (f : Front) × IsFront bytes f
has_front decided bytes = front_after decided (length bytes - length (skipped bytes)) (skipped bytes)

-- one connection
lets_take : HeadsAreDecided → (x : Connection) → ((taken : Taken) × (y : Option Connection) × LetsTake taken x y) ⊎ HasNothing (Some x)
lets_take decided x = by x.owed refl
  where
    free : x.owed ≡ None → (f : Front) → IsFront (rest_of x) f → (o : Option Taken) → to_take x.continued f ≡ o → ((taken : Taken) × (y : Option Connection) × LetsTake taken x y) ⊎ HasNothing (Some x)
    free none f front None is = inr (subst (λ (o : Option Owed). IsSpent o x) (sym none) (f, front, is))
    free none f front (Some taken) is = inl (taken, Some (after_taking taken f x), takes_front f none front is refl)

    owing : (o : Owed) → x.owed ≡ Some o → (rest : List ℕ) → rest_of x ≡ rest → ((taken : Taken) × (y : Option Connection) × LetsTake taken x y) ⊎ HasNothing (Some x)
    owing o is [] none = inr (subst (λ (p : Option Owed). IsSpent p x) (sym is) none)
    owing o is (b ∷ rest) some = inl (interrupts, None, is_interrupted o is (λ none. let e : [] ≡ b ∷ rest = sym none ∙ some in absurd cc) refl refl)

    by : (o : Option Owed) → x.owed ≡ o → ((taken : Taken) × (y : Option Connection) × LetsTake taken x y) ⊎ HasNothing (Some x)
    by None none = let f = has_front decided (rest_of x) in free none f.0 f.1 (to_take x.continued f.0) refl
    by (Some o) is = owing o is (rest_of x) refl

pub streams_go_on : StreamsGoOn
streams_go_on decided c h = by (connection_at c h) refl
  where
    open_one : (x : Connection) → connection_at c h ≡ Some x → ((taken : Taken) × (y : Option Connection) × LetsTake taken x y) ⊎ HasNothing (Some x)
        → ((taken : Taken) × (k : Streams) × Takes c taken h k) ⊎ IsDry c h
    open_one x is (inl (taken, y, lets)) = inl (taken, with_connection c y (without_wait c h), (x, y, is, lets, refl))
    open_one x is (inr nothing) = inr (subst HasNothing (sym is) nothing)

    by : (o : Option Connection) → connection_at c h ≡ o → ((taken : Taken) × (k : Streams) × Takes c taken h k) ⊎ IsDry c h
    by None none = inr (subst HasNothing (sym none) tt)
    by (Some x) is = open_one x is (lets_take decided x)
