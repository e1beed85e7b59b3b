-- The result of reading, from the runs of a reader.
use Rattle.std.proofs.Common.{arith, ◌≡◌, refl, sym, ap, ◌∙◌, ℕ, ◌+◌, ◌≤◌, ◌<◌, List, [], ◌++◌, length, take, drop, true, false, subst}
use Rattle.std.specs.Prelude.{Option, Some, None, Result, Ok, Err, slice_index}
use Rattle.std.proofs.lemmas.List.{append-nil, take-append-drop, take-take}
use Rattle.std.proofs.Math.Seq.{take-length}
use Rattle.std.specs.Result.{IsErrAnd}
use Rattle.core_links.specs.Links.{IsLinkText, BeginsLinkText, ReadsLinks, read, at, no_memory}
use Rattle.core_links.specs.Steps.{run, step, new_reader, may_end, Takes, all, stops, takes_memory, Ends, ended, unfinished, ends_memory}
use Rattle.core_links.specs.declared.links.Link.{Link}
use Rattle.core_links.specs.declared.reader.Reader.{Reader}
use Rattle.core_links.specs.declared.reading.LinkFault.{LinkFault}
use Rattle.core_links.specs.declared.reading.LinkFault.TheVariants as fault
use Rattle.core_links.proofs.Runs.{run_append, run_none, run_more}
use Rattle.core_links.proofs.Stands.{text_read}
use Rattle.core_links.proofs.Means.{Means, m_start, means_run, means_text, begins}

-- a link text begins with these bytes, so a run goes on to their end
pub goes_through : (bytes : List ℕ) → BeginsLinkText bytes → run (Some new_reader) bytes ≡ None → ⊥
goes_through bytes b none =
    let one = text_read (bytes ++ b.rest) b.links b.whole in
    let end : run (Some new_reader) (bytes ++ b.rest) ≡ None = run_append (Some new_reader) bytes b.rest ∙ ap (λ (o : Option Reader). run o b.rest) none ∙ run_none b.rest in
    absurd (cc (end, one.run_is))

-- the bytes up to a place from which no byte goes on begin no link text, nor do more bytes
pub longest_before : (bytes : List ℕ) (n m : ℕ) → n < length bytes → run (Some new_reader) (take (n + 1) bytes) ≡ None → m ≤ length bytes → BeginsLinkText (take m bytes) → n < m → ⊥
longest_before bytes n m within none bound b more =
    let parts : take m bytes ≡ take (n + 1) bytes ++ drop (n + 1) (take m bytes) =
    sym (take-append-drop (n + 1) (take m bytes)) ∙ ap (λ (y : List ℕ). y ++ drop (n + 1) (take m bytes)) (take-take (n + 1) m bytes (omega (arith, more))) in
    let end : run (Some new_reader) (take m bytes) ≡ None =
    ap (λ (y : List ℕ). run (Some new_reader) y) parts ∙ run_append (Some new_reader) (take (n + 1) bytes) (drop (n + 1) (take m bytes))
    ∙ ap (λ (o : Option Reader). run o (drop (n + 1) (take m bytes))) none ∙ run_none (drop (n + 1) (take m bytes)) in
    goes_through (take m bytes) b end

at_most : (n m : ℕ) → ¬ (n < m) → m ≤ n
at_most n m never = omega (arith, never)

-- a link text begins with itself
begins_itself : (bytes : List ℕ) (links : List Link) → IsLinkText bytes links → BeginsLinkText (take (length bytes) bytes)
begins_itself bytes links is = record { rest = []; links = links; whole = subst (λ (y : List ℕ). IsLinkText y links) (sym (append-nil (take (length bytes) bytes) ∙ take-length bytes)) is }

means_new : (bytes : List ℕ) (s : Reader) → run (Some new_reader) bytes ≡ Some s → Means s bytes
means_new bytes s e = means_run new_reader s [] bytes m_start e

-- a byte that may not stand where it is
stopped : (bytes : List ℕ) (n : ℕ) (between : Reader) → n < length bytes → run (Some new_reader) (take n bytes) ≡ Some between → step between (slice_index bytes n) ≡ None → ReadsLinks bytes (Err (fault.At n))
stopped bytes n between within before stop =
    let none : run (Some new_reader) (take (n + 1) bytes) ≡ None = run_more (Some new_reader) bytes n (slice_index bytes n) between within refl before ∙ stop in
    at n refl
    (λ links is. longest_before bytes n (length bytes) within none (omega arith) (begins_itself bytes links is) within)
    (record {
      within = omega (arith, within);
      begins = begins between (take n bytes) (means_new (take n bytes) between before);
      longest = λ m bound b. at_most n m (longest_before bytes n m within none bound b);
    })

-- the bytes end where no link text may end
unended : (bytes : List ℕ) (now : Reader) → run (Some new_reader) bytes ≡ Some now → may_end now.place ≡ false → ReadsLinks bytes (Err (fault.At (length bytes)))
unended bytes now e may =
    at (length bytes) refl
    (λ links is. let one = text_read bytes links is in
    let same_option : Some now ≡ Some one.to = sym e ∙ one.run_is in
    let same : now ≡ one.to = cc same_option in
    let both : false ≡ true = sym may ∙ ap (λ (r : Reader). may_end r.place) same ∙ one.holds.may in absurd (cc both))
    (record {
      within = omega arith;
      begins = subst (λ (y : List ℕ). BeginsLinkText y) (sym (take-length bytes)) (begins now bytes (means_new bytes now e));
      longest = λ m bound b. bound;
    })

-- results that are errors and the same have the same fault
error_same : {A : Type 0} (r : Result A LinkFault) (e f : LinkFault) → r ≡ Err e → r ≡ Err f → e ≡ f
error_same r e f a b = cc (a, b)

pub not_taken : (bytes : List ℕ) (now : Reader) (r : Result (Unit {0}) LinkFault) (e : LinkFault) → Takes bytes new_reader now r → r ≡ Err e → ReadsLinks bytes (Err e)
not_taken bytes now r e (all is run_is) err = absurd (cc (is, err))
not_taken bytes now r e (stops n between is within before stop) err =
    subst (λ (f : LinkFault). ReadsLinks bytes (Err f)) (sym (error_same r e (fault.At n) err is)) (stopped bytes n between within before stop)
not_taken bytes now r e (takes_memory is) err =
    no_memory (ap (λ (f : LinkFault). Err f) (error_same r e fault.NoMemory err is))

taken_all : (bytes : List ℕ) (now : Reader) (r : Result (Unit {0}) LinkFault) → Takes bytes new_reader now r → r ≡ Ok tt → run (Some new_reader) bytes ≡ Some now
taken_all bytes now r (all is run_is) ok = run_is
taken_all bytes now r (stops n between is within before stop) ok = absurd (cc (is, ok))
taken_all bytes now r (takes_memory is) ok = absurd (cc (is, ok))

pub not_ended : (bytes : List ℕ) (now end : Reader) (n : ℕ) (r q : Result (Unit {0}) LinkFault) (e : LinkFault) → Takes bytes new_reader now r → r ≡ Ok tt → n ≡ length bytes → Ends n now end q → q ≡ Err e → ReadsLinks bytes (Err e)
not_ended bytes now end n r q e takes ok is_length (ended is may links_are) err = absurd (cc (is, err))
not_ended bytes now end n r q e takes ok is_length (unfinished is may) err =
    subst (λ (f : LinkFault). ReadsLinks bytes (Err f)) (sym (error_same q e (fault.At n) err is ∙ ap (λ (k : ℕ). fault.At k) is_length)) (unended bytes now (taken_all bytes now r takes ok) may)
not_ended bytes now end n r q e takes ok is_length (ends_memory is) err =
    no_memory (ap (λ (f : LinkFault). Err f) (error_same q e fault.NoMemory err is))

pub read_all : (bytes : List ℕ) (now end : Reader) (n : ℕ) (r q : Result (Unit {0}) LinkFault) → Takes bytes new_reader now r → r ≡ Ok tt → Ends n now end q → q ≡ Ok tt → ReadsLinks bytes (Ok end.links)
read_all bytes now end n r q takes ok (ended is may links_are) done =
    read end.links refl (subst (λ (ls : List Link). IsLinkText bytes ls) (sym links_are) (means_text now bytes (means_new bytes now (taken_all bytes now r takes ok)) may))
read_all bytes now end n r q takes ok (unfinished is may) done = absurd (cc (is, done))
read_all bytes now end n r q takes ok (ends_memory is) done = absurd (cc (is, done))

-- an error that is handed on is the same error
pub handed_on : {A : Type 0} (q : Result A LinkFault) (e : LinkFault) → IsErrAnd q (λ f. f ≡ e) → q ≡ Err e
handed_on (Ok a) e is = absurd is
handed_on (Err f) e is = ap (λ g. Err g) is
