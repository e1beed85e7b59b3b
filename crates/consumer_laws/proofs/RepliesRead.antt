-- The reply that a servient writes to an outcome is read as its status and payload.
use Rattle.std.proofs.Common.{◌≡◌, ◌≢◌, ◌<◌, ◌≤◌, ◌+◌, ◌^◌, ℕ, Bool, true, false, List, [], ◌∷◌, ◌++◌, length, length-drop, map, take, drop, Option, Some, None, option_map, Ok, refl, sym, ap, subst, ◌∙◌, arith}
use Rattle.std.specs.Prelude.{◌&&◌, codes, decimal, IfSome, IsTrue, nat_le, nat_lt, if◌then◌else◌}
use Rattle.std.specs.List.{list_all}
use Rattle.std.proofs.Math.Seq.{take-append_seam, drop-append_seam}
use Rattle.std.proofs.lemmas.Bool.Decides.{nat_tests}
use Rattle.std.proofs.lemmas.List.{length-append, take_all, take-append-le}
use Rattle.thing_ops.specs.declared.outcome.Outcome.{Outcome}
use Rattle.thing_ops.specs.declared.outcome.Outcome.TheVariants as outcome
use Rattle.thing_ops.specs.declared.verb.Verb.{Verb}
use Rattle.thing_ops.specs.declared.verb.Verb.TheVariants as verb
use Rattle.thing_ops.specs.Outcomes.{Payload, text, word, nothing, answer_of, payload_of, version_of}
use Rattle.thing_ops.specs.Verbs.{verb_name, verbs_in, further_names, names_of}
use Rattle.http_fields.specs.declared.framing.Framing.TheVariants as framing
use Rattle.http_fields.specs.Bodies.{longest_reply, stated_body}
use Rattle.http_fields.specs.Marks.{length_through, empty_line}
use Rattle.http_fields.proofs.FoundMarks.{is_through, through_stays}
use Rattle.http_fields.specs.Chunks.{whole, unfinished}
use Rattle.http_replies.specs.declared.reply_scan.ReplyFront.TheVariants as front
use Rattle.http_replies.specs.declared.reply_scan.ReplyScan.TheVariants as scan
use Rattle.http_replies.specs.ReplyFronts.{IsReplyAfter, IsReplyJudged, no_end, final, with_reply_body}
use Rattle.http_replies.specs.Writing.{entity_tag, PlainReply, http_reply}
use Rattle.http_bind.specs.Places.{path_text}
use Rattle.http_bind.specs.Replying.{longest_reply_head, type_of_payload, media_type_of, location_of, allow_of, head_of, head_with, reply}
use Rattle.consumer_laws.specs.Asking.{IsVisible}
use Rattle.consumer_laws.specs.Replying.{AreReadBack, RepliesAreReadBack}
use Rattle.consumer_laws.proofs.HeadLines.{printed, lines_end}
use Rattle.consumer_laws.proofs.HeadBytes.{both_all, weaker, passes, digits_pass, line_of, is_size}
use Rattle.consumer_laws.proofs.Targets.{segments_are_visible}
use Rattle.consumer_laws.proofs.ReplyHeads.{IsPrintable, IsText, IsStatus, HasTexts, start_line, reply_lines, text_is, are_lines, judged}

-- ---- one reply

module _ (r : PlainReply) (status : IsStatus r.status) (texts : HasTexts r) (body : List ℕ) (size : r.size ≡ Some (length body)) (none : status.bodiless ≡ true → length body ≡ 0) where
  body_is : stated_body (length body) body ≡ whole body (length body)
  body_is = rw fits (ap (λ (x : List ℕ). whole x (length body)) (take_all (length body) body (omega arith)))
    where
      fits : nat_le (length body) (length body) ≡ true
      fits = grind (arith, nat_tests)

  is_after : (ended : Bool) → IsReplyAfter ended (front.Reply r.status body (0 + length (printed (start_line status ∷ map line_of (reply_lines r))) + length body)) 0 (printed (start_line status ∷ map line_of (reply_lines r)) ++ body)
  is_after ended =
      final 0 (printed (start_line status ∷ map line_of (reply_lines r)) ++ body) (length (printed (start_line status ∷ map line_of (reply_lines r)))) (record { status = r.status; framing = Some (framing.Stated (length body)) })
      (lines_end (start_line status) (map line_of (reply_lines r)) body (are_lines r status texts).0 (are_lines r status texts).1)
      (subst (λ (x : List ℕ). IsReplyJudged x (Ok (record { status = r.status; framing = Some (framing.Stated (length body)) }))) (sym (take-append_seam (printed (start_line status ∷ map line_of (reply_lines r))) body)) (judged r status texts (length body) size none))
      status.is_last
      (sym (ap (λ (x : List ℕ). with_reply_body r.status (0 + length (printed (start_line status ∷ map line_of (reply_lines r)))) (stated_body (length body) x)) (drop-append_seam (printed (start_line status ∷ map line_of (reply_lines r))) body)
      ∙ ap (with_reply_body r.status (0 + length (printed (start_line status ∷ map line_of (reply_lines r))))) body_is))

  -- a part of it
  some_missing : (xs : List ℕ) → xs ≢ [] → 0 < length xs
  some_missing [] isnt = absurd (isnt refl)
  some_missing (x ∷ xs) isnt = omega arith

  -- with its head whole, and the body not
  head_whole : (ended : Bool) (part missing : List ℕ) (m : ℕ) → part ++ missing ≡ printed (start_line status ∷ map line_of (reply_lines r)) ++ body → 0 < length missing
      → length_through empty_line part ≡ Some m → IsReplyAfter ended front.Awaited 0 part
  head_whole ended part missing m is some found =
      final 0 part m (record { status = r.status; framing = Some (framing.Stated (length body)) }) found
      (subst (λ (x : List ℕ). IsReplyJudged x (Ok (record { status = r.status; framing = Some (framing.Stated (length body)) }))) (sym head_is) (judged r status texts (length body) size none)) status.is_last
      (sym (ap (with_reply_body r.status (0 + m)) (ap (λ (t : Bool). if t then whole (take (length body) (drop m part)) (length body) else unfinished) unread)))
    where
      at_whole : length_through empty_line (printed (start_line status ∷ map line_of (reply_lines r)) ++ body) ≡ Some m
      at_whole = subst (λ (x : List ℕ). length_through empty_line x ≡ Some m) is (through_stays empty_line part missing m found)

      same_number : Some (length (printed (start_line status ∷ map line_of (reply_lines r)))) ≡ Some m → m ≡ length (printed (start_line status ∷ map line_of (reply_lines r)))
      same_number e = cc

      same : m ≡ length (printed (start_line status ∷ map line_of (reply_lines r)))
      same = same_number (sym (lines_end (start_line status) (map line_of (reply_lines r)) body (are_lines r status texts).0 (are_lines r status texts).1) ∙ at_whole)

      within : m ≤ length part
      within = (is_through empty_line part m found).within

      head_is : take m part ≡ printed (start_line status ∷ map line_of (reply_lines r))
      head_is =
          sym (take-append-le m part missing within) ∙ ap (take m) is
          ∙ ap (λ (k : ℕ). take k (printed (start_line status ∷ map line_of (reply_lines r)) ++ body)) same ∙ take-append_seam (printed (start_line status ∷ map line_of (reply_lines r))) body

      unread : nat_le (length body) (length (drop m part)) ≡ false
      unread =
          leb-less (length body) (length (drop m part))
          (omega (arith, length-drop m part, within, some, same, ap length is, length-append part missing, length-append (printed (start_line status ∷ map line_of (reply_lines r))) body))
        where
          leb-less : (a b : ℕ) → b < a → nat_le a b ≡ false
          leb-less a b less = grind (arith, nat_tests)

  part_is_short : (ended : Bool) (part missing : List ℕ) → part ++ missing ≡ printed (start_line status ∷ map line_of (reply_lines r)) ++ body → 0 < length missing → IsReplyAfter ended front.Awaited 0 part
  part_is_short ended part missing is some = by (length_through empty_line part) refl
    where
      by : (o : Option ℕ) → length_through empty_line part ≡ o → IsReplyAfter ended front.Awaited 0 part
      by None found = no_end 0 part found refl
      by (Some m) found = head_whole ended part missing m is some found

  -- the whole
  pub read_back : length (http_reply r ++ body) ≤ longest_reply → AreReadBack (http_reply r ++ body) r.status body
  read_back short =
      subst (λ (x : List ℕ). length (x ++ body) ≤ longest_reply → AreReadBack (x ++ body) r.status body) (sym (text_is r status texts)) at short
    where
      at : length (printed (start_line status ∷ map line_of (reply_lines r)) ++ body) ≤ longest_reply → AreReadBack (printed (start_line status ∷ map line_of (reply_lines r)) ++ body) r.status body
      at few = record {
        whole = λ ended. (
          front.Reply r.status body (0 + length (printed (start_line status ∷ map line_of (reply_lines r))) + length body),
          subst (λ (x : List ℕ). IsReplyAfter ended (front.Reply r.status body (0 + length (printed (start_line status ∷ map line_of (reply_lines r))) + length body)) 0 x)
              (sym (take_all (longest_reply + 1) (printed (start_line status ∷ map line_of (reply_lines r)) ++ body) (omega (arith, few)))) (is_after ended),
          ap (λ (b : Bool). if b then scan.Whole r.status body else scan.TooLong) (sym fits),
        );
        early = λ ended part missing is some. (
          front.Awaited,
          subst (λ (x : List ℕ). IsReplyAfter ended front.Awaited 0 x) (sym (take_all (longest_reply + 1) part (within part missing is))) (part_is_short ended part missing is (some_missing missing some)),
          ap (λ (b : Bool). if b then scan.TooLong else scan.Short) (sym (unfull part missing is)),
        );
      }
        where
          fits : nat_le (0 + length (printed (start_line status ∷ map line_of (reply_lines r))) + length body) longest_reply ≡ true
          fits = let sum = length-append (printed (start_line status ∷ map line_of (reply_lines r))) body in grind (arith, nat_tests)

          within : (part missing : List ℕ) → part ++ missing ≡ printed (start_line status ∷ map line_of (reply_lines r)) ++ body → length part ≤ longest_reply + 1
          within part missing is = omega (arith, few, ap length is, length-append part missing)

          unfull : (part missing : List ℕ) → part ++ missing ≡ printed (start_line status ∷ map line_of (reply_lines r)) ++ body → nat_lt longest_reply (length part) ≡ false
          unfull part missing is = not_less longest_reply (length part) (omega (arith, few, ap length is, length-append part missing))
            where
              not_less : (a b : ℕ) → b ≤ a → nat_lt a b ≡ false
              not_less a b most = grind (arith, nat_tests)

-- ---- statuses

abbrev is_200 : IsStatus 200
is_200 = record { digits = codes "200"; reason = codes "OK"; phrase = refl; three = refl; are_digits = refl; plain_digits = refl; value = refl; reason_value = refl; plain_reason = refl; is_last = refl; bodiless = false; has_none = refl; unwritten = refl }

abbrev is_201 : IsStatus 201
is_201 = record { digits = codes "201"; reason = codes "Created"; phrase = refl; three = refl; are_digits = refl; plain_digits = refl; value = refl; reason_value = refl; plain_reason = refl; is_last = refl; bodiless = false; has_none = refl; unwritten = refl }

abbrev is_204 : IsStatus 204
is_204 = record { digits = codes "204"; reason = codes "No Content"; phrase = refl; three = refl; are_digits = refl; plain_digits = refl; value = refl; reason_value = refl; plain_reason = refl; is_last = refl; bodiless = true; has_none = refl; unwritten = refl }

abbrev is_304 : IsStatus 304
is_304 = record { digits = codes "304"; reason = codes "Not Modified"; phrase = refl; three = refl; are_digits = refl; plain_digits = refl; value = refl; reason_value = refl; plain_reason = refl; is_last = refl; bodiless = true; has_none = refl; unwritten = refl }

abbrev is_400 : IsStatus 400
is_400 = record { digits = codes "400"; reason = codes "Bad Request"; phrase = refl; three = refl; are_digits = refl; plain_digits = refl; value = refl; reason_value = refl; plain_reason = refl; is_last = refl; bodiless = false; has_none = refl; unwritten = refl }

abbrev is_403 : IsStatus 403
is_403 = record { digits = codes "403"; reason = codes "Forbidden"; phrase = refl; three = refl; are_digits = refl; plain_digits = refl; value = refl; reason_value = refl; plain_reason = refl; is_last = refl; bodiless = false; has_none = refl; unwritten = refl }

abbrev is_404 : IsStatus 404
is_404 = record { digits = codes "404"; reason = codes "Not Found"; phrase = refl; three = refl; are_digits = refl; plain_digits = refl; value = refl; reason_value = refl; plain_reason = refl; is_last = refl; bodiless = false; has_none = refl; unwritten = refl }

abbrev is_405 : IsStatus 405
is_405 = record { digits = codes "405"; reason = codes "Method Not Allowed"; phrase = refl; three = refl; are_digits = refl; plain_digits = refl; value = refl; reason_value = refl; plain_reason = refl; is_last = refl; bodiless = false; has_none = refl; unwritten = refl }

abbrev is_406 : IsStatus 406
is_406 = record { digits = codes "406"; reason = codes "Not Acceptable"; phrase = refl; three = refl; are_digits = refl; plain_digits = refl; value = refl; reason_value = refl; plain_reason = refl; is_last = refl; bodiless = false; has_none = refl; unwritten = refl }

abbrev is_412 : IsStatus 412
is_412 = record { digits = codes "412"; reason = codes "Precondition Failed"; phrase = refl; three = refl; are_digits = refl; plain_digits = refl; value = refl; reason_value = refl; plain_reason = refl; is_last = refl; bodiless = false; has_none = refl; unwritten = refl }

abbrev is_413 : IsStatus 413
is_413 = record { digits = codes "413"; reason = codes "Content Too Large"; phrase = refl; three = refl; are_digits = refl; plain_digits = refl; value = refl; reason_value = refl; plain_reason = refl; is_last = refl; bodiless = false; has_none = refl; unwritten = refl }

abbrev is_415 : IsStatus 415
is_415 = record { digits = codes "415"; reason = codes "Unsupported Media Type"; phrase = refl; three = refl; are_digits = refl; plain_digits = refl; value = refl; reason_value = refl; plain_reason = refl; is_last = refl; bodiless = false; has_none = refl; unwritten = refl }

abbrev is_500 : IsStatus 500
is_500 = record { digits = codes "500"; reason = codes "Internal Server Error"; phrase = refl; three = refl; are_digits = refl; plain_digits = refl; value = refl; reason_value = refl; plain_reason = refl; is_last = refl; bodiless = false; has_none = refl; unwritten = refl }

abbrev is_503 : IsStatus 503
is_503 = record { digits = codes "503"; reason = codes "Service Unavailable"; phrase = refl; three = refl; are_digits = refl; plain_digits = refl; value = refl; reason_value = refl; plain_reason = refl; is_last = refl; bodiless = false; has_none = refl; unwritten = refl }

abbrev is_507 : IsStatus 507
is_507 = record { digits = codes "507"; reason = codes "Insufficient Storage"; phrase = refl; three = refl; are_digits = refl; plain_digits = refl; value = refl; reason_value = refl; plain_reason = refl; is_last = refl; bodiless = false; has_none = refl; unwritten = refl }

-- the status of an outcome, and where its reply has no body it has no payload
pub record HasStatus (o : Outcome) (n : ℕ) : Type 0 where
  pub status : IsStatus n
  pub none : status.bodiless ≡ true → length (payload_of o) ≡ 0

same_status : (m n : ℕ) → Some m ≡ Some n → m ≡ n
same_status m n e = cc

of_status : (o : Outcome) (m n : ℕ) (s : IsStatus m) → (s.bodiless ≡ true → length (payload_of o) ≡ 0) → Some m ≡ Some n → HasStatus o n
of_status o m n s none e = subst (λ (k : ℕ). HasStatus o k) (same_status m n e) (record { status = s; none = none })

has_status : (o : Outcome) (n : ℕ) → (answer_of o).status ≡ Some n → HasStatus o n
has_status (outcome.Content value tag) n e = of_status (outcome.Content value tag) 200 n is_200 (λ same. absurd cc) e
has_status (outcome.NotModified tag) n e = of_status (outcome.NotModified tag) 304 n is_304 (λ same. refl) e
has_status (outcome.Description description as_td) n e = of_status (outcome.Description description as_td) 200 n is_200 (λ same. absurd cc) e
has_status outcome.Empty n e = of_status outcome.Empty 204 n is_204 (λ same. refl) e
has_status outcome.Changed n e = of_status outcome.Changed 204 n is_204 (λ same. refl) e
has_status (outcome.Output value) n e = of_status (outcome.Output value) 200 n is_200 (λ same. absurd cc) e
has_status (outcome.Started place status) n e = of_status (outcome.Started place status) 201 n is_201 (λ same. absurd cc) e
has_status outcome.Deleted n e = of_status outcome.Deleted 204 n is_204 (λ same. refl) e
has_status (outcome.Created id) n e = of_status (outcome.Created id) 201 n is_201 (λ same. absurd cc) e
has_status (outcome.Listed entries) n e = of_status (outcome.Listed entries) 200 n is_200 (λ same. absurd cc) e
has_status (outcome.Wait slot) n e = absurd cc
has_status outcome.NotFound n e = of_status outcome.NotFound 404 n is_404 (λ same. absurd cc) e
has_status (outcome.NotAllowed allow) n e = of_status (outcome.NotAllowed allow) 405 n is_405 (λ same. absurd cc) e
has_status outcome.NotAcceptable n e = of_status outcome.NotAcceptable 406 n is_406 (λ same. absurd cc) e
has_status outcome.Format n e = of_status outcome.Format 415 n is_415 (λ same. absurd cc) e
has_status outcome.BadValue n e = of_status outcome.BadValue 400 n is_400 (λ same. absurd cc) e
has_status outcome.PreconditionFailed n e = of_status outcome.PreconditionFailed 412 n is_412 (λ same. absurd cc) e
has_status outcome.TooLarge n e = of_status outcome.TooLarge 413 n is_413 (λ same. absurd cc) e
has_status (outcome.Refused number) n e = of_status (outcome.Refused number) 403 n is_403 (λ same. absurd cc) e
has_status (outcome.DeviceFault number) n e = of_status (outcome.DeviceFault number) 500 n is_500 (λ same. absurd cc) e
has_status outcome.BadAnswer n e = of_status outcome.BadAnswer 500 n is_500 (λ same. absurd cc) e
has_status outcome.InvocationsFull n e = of_status outcome.InvocationsFull 503 n is_503 (λ same. absurd cc) e
has_status outcome.CallsUsed n e = of_status outcome.CallsUsed 503 n is_503 (λ same. absurd cc) e
has_status (outcome.Invalid number) n e = of_status (outcome.Invalid number) 400 n is_400 (λ same. absurd cc) e
has_status outcome.IdDiffers n e = of_status outcome.IdDiffers 400 n is_400 (λ same. absurd cc) e
has_status outcome.HasId n e = of_status outcome.HasId 400 n is_400 (λ same. absurd cc) e
has_status outcome.BadTtl n e = of_status outcome.BadTtl 400 n is_400 (λ same. absurd cc) e
has_status outcome.DirectoryFull n e = of_status outcome.DirectoryFull 503 n is_503 (λ same. absurd cc) e
has_status outcome.Memory n e = of_status outcome.Memory 507 n is_507 (λ same. absurd cc) e

-- ---- texts

printable : (bytes : List ℕ) → list_all (λ b. nat_le 32 b && nat_le b 126) bytes ≡ true → IsText bytes
printable bytes h = weaker (λ b. IsTrue (nat_le 32 b && nat_le b 126)) IsPrintable bytes one (passes (λ b. nat_le 32 b && nat_le b 126) bytes h)
  where
    one : (b : ℕ) → (nat_le 32 b && nat_le b 126) ≡ true → IsPrintable b
    one b is = (low, high)
      where
        low : 32 ≤ b
        low = grind (arith, nat_tests)

        high : b ≤ 126
        high = grind (arith, nat_tests)

type_is_text : (p : Payload) → IfSome (type_of_payload p) IsText
type_is_text (text bytes) = printable (codes "application/json") refl
type_is_text (word bytes) = printable (codes "text/plain;charset=utf-8") refl
type_is_text nothing = tt

media_is_text : (o : Outcome) → IfSome (media_type_of o) IsText
media_is_text (outcome.Description description true) = printable (codes "application/td+json") refl
media_is_text (outcome.Content value tag) = type_is_text (answer_of (outcome.Content value tag)).payload
media_is_text (outcome.NotModified tag) = type_is_text (answer_of (outcome.NotModified tag)).payload
media_is_text (outcome.Description description false) = type_is_text (answer_of (outcome.Description description false)).payload
media_is_text outcome.Empty = type_is_text (answer_of outcome.Empty).payload
media_is_text outcome.Changed = type_is_text (answer_of outcome.Changed).payload
media_is_text (outcome.Output value) = type_is_text (answer_of (outcome.Output value)).payload
media_is_text (outcome.Started place status) = type_is_text (answer_of (outcome.Started place status)).payload
media_is_text outcome.Deleted = type_is_text (answer_of outcome.Deleted).payload
media_is_text (outcome.Created id) = type_is_text (answer_of (outcome.Created id)).payload
media_is_text (outcome.Listed entries) = type_is_text (answer_of (outcome.Listed entries)).payload
media_is_text (outcome.Wait slot) = type_is_text (answer_of (outcome.Wait slot)).payload
media_is_text outcome.NotFound = type_is_text (answer_of outcome.NotFound).payload
media_is_text (outcome.NotAllowed allow) = type_is_text (answer_of (outcome.NotAllowed allow)).payload
media_is_text outcome.NotAcceptable = type_is_text (answer_of outcome.NotAcceptable).payload
media_is_text outcome.Format = type_is_text (answer_of outcome.Format).payload
media_is_text outcome.BadValue = type_is_text (answer_of outcome.BadValue).payload
media_is_text outcome.PreconditionFailed = type_is_text (answer_of outcome.PreconditionFailed).payload
media_is_text outcome.TooLarge = type_is_text (answer_of outcome.TooLarge).payload
media_is_text (outcome.Refused number) = type_is_text (answer_of (outcome.Refused number)).payload
media_is_text (outcome.DeviceFault number) = type_is_text (answer_of (outcome.DeviceFault number)).payload
media_is_text outcome.BadAnswer = type_is_text (answer_of outcome.BadAnswer).payload
media_is_text outcome.InvocationsFull = type_is_text (answer_of outcome.InvocationsFull).payload
media_is_text outcome.CallsUsed = type_is_text (answer_of outcome.CallsUsed).payload
media_is_text (outcome.Invalid number) = type_is_text (answer_of (outcome.Invalid number)).payload
media_is_text outcome.IdDiffers = type_is_text (answer_of outcome.IdDiffers).payload
media_is_text outcome.HasId = type_is_text (answer_of outcome.HasId).payload
media_is_text outcome.BadTtl = type_is_text (answer_of outcome.BadTtl).payload
media_is_text outcome.DirectoryFull = type_is_text (answer_of outcome.DirectoryFull).payload
media_is_text outcome.Memory = type_is_text (answer_of outcome.Memory).payload

path_is_text : (path : List (List ℕ)) → IsText (path_text path)
path_is_text path = weaker IsVisible IsPrintable (path_text path) (λ b seen. (omega (arith, seen.0), seen.1)) (segments_are_visible path)

location_is_text : (o : Outcome) → IfSome (location_of o) IsText
location_is_text (outcome.Started place status) = path_is_text place
location_is_text (outcome.Created (Some id)) = path_is_text (codes "things" ∷ id ∷ [])
location_is_text (outcome.Created None) = tt
location_is_text (outcome.Content value tag) = tt
location_is_text (outcome.NotModified tag) = tt
location_is_text (outcome.Description description as_td) = tt
location_is_text outcome.Empty = tt
location_is_text outcome.Changed = tt
location_is_text (outcome.Output value) = tt
location_is_text outcome.Deleted = tt
location_is_text (outcome.Listed entries) = tt
location_is_text (outcome.Wait slot) = tt
location_is_text outcome.NotFound = tt
location_is_text (outcome.NotAllowed allow) = tt
location_is_text outcome.NotAcceptable = tt
location_is_text outcome.Format = tt
location_is_text outcome.BadValue = tt
location_is_text outcome.PreconditionFailed = tt
location_is_text outcome.TooLarge = tt
location_is_text (outcome.Refused number) = tt
location_is_text (outcome.DeviceFault number) = tt
location_is_text outcome.BadAnswer = tt
location_is_text outcome.InvocationsFull = tt
location_is_text outcome.CallsUsed = tt
location_is_text (outcome.Invalid number) = tt
location_is_text outcome.IdDiffers = tt
location_is_text outcome.HasId = tt
location_is_text outcome.BadTtl = tt
location_is_text outcome.DirectoryFull = tt
location_is_text outcome.Memory = tt

verb_is_text : (v : Verb) → IsText (verb_name v)
verb_is_text verb.Get = printable (codes "GET") refl
verb_is_text verb.Head = printable (codes "HEAD") refl
verb_is_text verb.Put = printable (codes "PUT") refl
verb_is_text verb.Post = printable (codes "POST") refl
verb_is_text verb.Patch = printable (codes "PATCH") refl
verb_is_text verb.Delete = printable (codes "DELETE") refl
verb_is_text verb.Other = tt

further_are_text : (vs : List Verb) → IsText (further_names vs)
further_are_text [] = tt
further_are_text (v ∷ vs) =
    both_all IsPrintable (codes ", " ++ verb_name v) (further_names vs) (both_all IsPrintable (codes ", ") (verb_name v) (printable (codes ", ") refl) (verb_is_text v)) (further_are_text vs)

names_are_text : (vs : List Verb) → IsText (names_of vs)
names_are_text [] = tt
names_are_text (v ∷ vs) = both_all IsPrintable (verb_name v) (further_names vs) (verb_is_text v) (further_are_text vs)

allow_is_text : (o : Outcome) → IfSome (allow_of o) IsText
allow_is_text (outcome.NotAllowed allow) = names_are_text (verbs_in allow)
allow_is_text (outcome.Content value tag) = tt
allow_is_text (outcome.NotModified tag) = tt
allow_is_text (outcome.Description description as_td) = tt
allow_is_text outcome.Empty = tt
allow_is_text outcome.Changed = tt
allow_is_text (outcome.Output value) = tt
allow_is_text (outcome.Started place status) = tt
allow_is_text outcome.Deleted = tt
allow_is_text (outcome.Created id) = tt
allow_is_text (outcome.Listed entries) = tt
allow_is_text (outcome.Wait slot) = tt
allow_is_text outcome.NotFound = tt
allow_is_text outcome.NotAcceptable = tt
allow_is_text outcome.Format = tt
allow_is_text outcome.BadValue = tt
allow_is_text outcome.PreconditionFailed = tt
allow_is_text outcome.TooLarge = tt
allow_is_text (outcome.Refused number) = tt
allow_is_text (outcome.DeviceFault number) = tt
allow_is_text outcome.BadAnswer = tt
allow_is_text outcome.InvocationsFull = tt
allow_is_text outcome.CallsUsed = tt
allow_is_text (outcome.Invalid number) = tt
allow_is_text outcome.IdDiffers = tt
allow_is_text outcome.HasId = tt
allow_is_text outcome.BadTtl = tt
allow_is_text outcome.DirectoryFull = tt
allow_is_text outcome.Memory = tt

tag_is_text : (o : Option ℕ) → IfSome o (λ v. v < 2 ^ 32) → IfSome (option_map entity_tag o) IsText
tag_is_text None fits = tt
tag_is_text (Some v) fits = ((omega arith, omega arith), both_all IsPrintable (decimal v) (34 ∷ []) digits ((omega arith, omega arith), tt))
  where
    one : (c : ℕ) → 48 ≤ c → c ≤ 57 → (nat_le 32 c && nat_le c 126) ≡ true
    one c low high = grind (arith, nat_tests)

    digits : IsText (decimal v)
    digits = printable (decimal v) (digits_pass (λ b. nat_le 32 b && nat_le b 126) (decimal v) one (is_size v (omega (arith, fits))).digits)

-- ---- the reply to an outcome

module _ (o : Outcome) (closes : Bool) (n : ℕ) (known : HasStatus o n) (version : IfSome (version_of o) (λ v. v < 2 ^ 32)) where
  head_texts : (location : Option (List ℕ)) → IfSome location IsText → length (payload_of o) ≤ longest_reply → HasTexts (head_of n closes location o)
  head_texts location located fits = record {
    content_type = media_is_text o;
    etag = tag_is_text (version_of o) version;
    location = located;
    allow = allow_is_text o;
    size = fits;
  }

  at_location : (location : Option (List ℕ)) → IfSome location IsText → (bytes : List ℕ) → http_reply (head_of n closes location o) ++ payload_of o ≡ bytes → length bytes ≤ longest_reply → AreReadBack bytes n (payload_of o)
  at_location location located bytes is short =
      subst (λ (x : List ℕ). AreReadBack x n (payload_of o)) is
      (read_back (head_of n closes location o) known.status (head_texts location located few) (payload_of o) refl known.none all_few)
    where
      all_few : length (http_reply (head_of n closes location o) ++ payload_of o) ≤ longest_reply
      all_few = omega (arith, short, ap length is)

      few : length (payload_of o) ≤ longest_reply
      few = omega (arith, all_few, length-append (http_reply (head_of n closes location o)) (payload_of o))

  either : (b : Bool) (bytes : List ℕ) → (if b then http_reply (head_of n closes (location_of o) o) else http_reply (head_of n closes None o)) ++ payload_of o ≡ bytes
      → length bytes ≤ longest_reply → AreReadBack bytes n (payload_of o)
  either true bytes is short = at_location (location_of o) (location_is_text o) bytes is short
  either false bytes is short = at_location None tt bytes is short

pub read : RepliesAreReadBack
read o closes n bytes status is version short =
    either o closes n (has_status o n status) version (nat_le (length (http_reply (head_of n closes (location_of o) o))) longest_reply_head) bytes (some_bytes (head_with closes o n ++ payload_of o) (written status is)) short
  where
    some_bytes : (x : List ℕ) → Some x ≡ Some bytes → x ≡ bytes
    some_bytes x e = cc

    written : (answer_of o).status ≡ Some n → reply false closes o ≡ Some bytes → Some (head_with closes o n ++ payload_of o) ≡ Some bytes
    written at e = sym (ap (λ (s : Option ℕ). option_map (λ head. head ++ payload_of o) (option_map (head_with closes o) s)) at) ∙ e
