use Rattle.std.proofs.Common.{◌≡◌, ◌<◌, ◌+◌, ◌++◌, ℕ, Bool, List, length, codes, subst, sym}
use Rattle.std.specs.Prelude.{Option, None, option_map}
use Rattle.std.specs.Fmt.{decimal}
use Rattle.servient_base.specs.Writing.{Puts, PutsIfRoom}
use Rattle.servient_base.proofs.Pieces.{puts_then_if_room}
use Rattle.http_fields.specs.Marks.{line_end}
use Rattle.http_replies.specs.Writing.{entity_tag, phrase_of, field_line, written_length, closing, http_reply}
use Rattle.http_replies.specs.Replies.{plain_reply}
use Rattle.http_replies.proofs.ReplyLines.{from_close, from_length, from_allow, from_location, from_tag, from_type, by_lines, no_room_for}
use Rattle.http_replies.proofs.reply.put_reply.Goals as goal

pub returns-in_err-at : goal.returns-in_err-at
returns-in_err-at c =
    let r = plain_reply c.args.reply.now in
    let none : c.from_residual.result ≡ None = c.from_residual.ensures in
    subst (λ (n : Option ℕ). PutsIfRoom (http_reply r) 0 c.args.out.now c.put_line.new.out n) (sym none)
    (subst (λ (t : List ℕ). PutsIfRoom t 0 c.args.out.now c.put_line.new.out None) (sym (by_lines r c.requires))
    (no_room_for (field_line (codes "HTTP/1.1 ") (phrase_of r.status)) (from_type r) 0 c.args.out.now c.put_line.new.out (subst (λ (o : Option (List ℕ)). length c.args.out.now < 0 + length (field_line (codes "HTTP/1.1 ") o)) c.phrase.ensures c.in_err-at.ensures)))

pub returns-in_err-at-2 : goal.returns-in_err-at-2
returns-in_err-at-2 c =
    let r = plain_reply c.args.reply.now in
    let none : c.from_residual-in_err-at-2.result ≡ None = c.from_residual-in_err-at-2.ensures in
    subst (λ (n : Option ℕ). PutsIfRoom (http_reply r) 0 c.args.out.now c.put_line-2.new.out n) (sym none)
    (subst (λ (t : List ℕ). PutsIfRoom t 0 c.args.out.now c.put_line-2.new.out None) (sym (by_lines r c.requires))
    (puts_then_if_room (field_line (codes "HTTP/1.1 ") (phrase_of r.status)) (from_type r) 0 c.in_ok-at.at c.args.out.now c.put_line.new.out c.put_line-2.new.out None c.put_line.auto.out (subst (λ (o : Option (List ℕ)). Puts (field_line (codes "HTTP/1.1 ") o) 0 c.in_ok-at.at c.args.out.now c.put_line.new.out) c.phrase.ensures c.in_ok-at.ensures)
    (no_room_for (field_line (codes "Content-Type: ") (r.content_type)) (from_tag r) c.in_ok-at.at c.put_line.new.out c.put_line-2.new.out (subst (λ (o : Option (List ℕ)). length c.put_line.new.out < c.in_ok-at.at + length (field_line (codes "Content-Type: ") o)) c.bytes_of.ensures c.in_err-at-2.ensures))))

pub returns-in_err-at-3 : goal.returns-in_err-at-3
returns-in_err-at-3 c =
    let r = plain_reply c.args.reply.now in
    let none : c.from_residual-in_err-at-3.result ≡ None = c.from_residual-in_err-at-3.ensures in
    subst (λ (n : Option ℕ). PutsIfRoom (http_reply r) 0 c.args.out.now c.put_line-3.new.out n) (sym none)
    (subst (λ (t : List ℕ). PutsIfRoom t 0 c.args.out.now c.put_line-3.new.out None) (sym (by_lines r c.requires))
    (puts_then_if_room (field_line (codes "HTTP/1.1 ") (phrase_of r.status)) (from_type r) 0 c.in_ok-at.at c.args.out.now c.put_line.new.out c.put_line-3.new.out None c.put_line.auto.out (subst (λ (o : Option (List ℕ)). Puts (field_line (codes "HTTP/1.1 ") o) 0 c.in_ok-at.at c.args.out.now c.put_line.new.out) c.phrase.ensures c.in_ok-at.ensures)
    (puts_then_if_room (field_line (codes "Content-Type: ") (r.content_type)) (from_tag r) c.in_ok-at.at c.in_ok-at-2.at c.put_line.new.out c.put_line-2.new.out c.put_line-3.new.out None c.put_line-2.auto.out (subst (λ (o : Option (List ℕ)). Puts (field_line (codes "Content-Type: ") o) c.in_ok-at.at c.in_ok-at-2.at c.put_line.new.out c.put_line-2.new.out) c.bytes_of.ensures c.in_ok-at-2.ensures)
    (no_room_for (field_line (codes "ETag: ") (option_map entity_tag r.etag)) (from_location r) c.in_ok-at-2.at c.put_line-2.new.out c.put_line-3.new.out (subst (λ (o : Option (List ℕ)). length c.put_line-2.new.out < c.in_ok-at-2.at + length (field_line (codes "ETag: ") o)) c.tag_of.ensures c.in_err-at-3.ensures)))))

pub returns-in_err-at-4 : goal.returns-in_err-at-4
returns-in_err-at-4 c =
    let r = plain_reply c.args.reply.now in
    let none : c.from_residual-in_err-at-4.result ≡ None = c.from_residual-in_err-at-4.ensures in
    subst (λ (n : Option ℕ). PutsIfRoom (http_reply r) 0 c.args.out.now c.put_line-4.new.out n) (sym none)
    (subst (λ (t : List ℕ). PutsIfRoom t 0 c.args.out.now c.put_line-4.new.out None) (sym (by_lines r c.requires))
    (puts_then_if_room (field_line (codes "HTTP/1.1 ") (phrase_of r.status)) (from_type r) 0 c.in_ok-at.at c.args.out.now c.put_line.new.out c.put_line-4.new.out None c.put_line.auto.out (subst (λ (o : Option (List ℕ)). Puts (field_line (codes "HTTP/1.1 ") o) 0 c.in_ok-at.at c.args.out.now c.put_line.new.out) c.phrase.ensures c.in_ok-at.ensures)
    (puts_then_if_room (field_line (codes "Content-Type: ") (r.content_type)) (from_tag r) c.in_ok-at.at c.in_ok-at-2.at c.put_line.new.out c.put_line-2.new.out c.put_line-4.new.out None c.put_line-2.auto.out (subst (λ (o : Option (List ℕ)). Puts (field_line (codes "Content-Type: ") o) c.in_ok-at.at c.in_ok-at-2.at c.put_line.new.out c.put_line-2.new.out) c.bytes_of.ensures c.in_ok-at-2.ensures)
    (puts_then_if_room (field_line (codes "ETag: ") (option_map entity_tag r.etag)) (from_location r) c.in_ok-at-2.at c.in_ok-at-3.at c.put_line-2.new.out c.put_line-3.new.out c.put_line-4.new.out None c.put_line-3.auto.out (subst (λ (o : Option (List ℕ)). Puts (field_line (codes "ETag: ") o) c.in_ok-at-2.at c.in_ok-at-3.at c.put_line-2.new.out c.put_line-3.new.out) c.tag_of.ensures c.in_ok-at-3.ensures)
    (no_room_for (field_line (codes "Location: ") (r.location)) (from_allow r) c.in_ok-at-3.at c.put_line-3.new.out c.put_line-4.new.out c.in_err-at-4.ensures)))))

pub returns-in_err-at-5 : goal.returns-in_err-at-5
returns-in_err-at-5 c =
    let r = plain_reply c.args.reply.now in
    let none : c.from_residual-in_err-at-5.result ≡ None = c.from_residual-in_err-at-5.ensures in
    subst (λ (n : Option ℕ). PutsIfRoom (http_reply r) 0 c.args.out.now c.put_line-5.new.out n) (sym none)
    (subst (λ (t : List ℕ). PutsIfRoom t 0 c.args.out.now c.put_line-5.new.out None) (sym (by_lines r c.requires))
    (puts_then_if_room (field_line (codes "HTTP/1.1 ") (phrase_of r.status)) (from_type r) 0 c.in_ok-at.at c.args.out.now c.put_line.new.out c.put_line-5.new.out None c.put_line.auto.out (subst (λ (o : Option (List ℕ)). Puts (field_line (codes "HTTP/1.1 ") o) 0 c.in_ok-at.at c.args.out.now c.put_line.new.out) c.phrase.ensures c.in_ok-at.ensures)
    (puts_then_if_room (field_line (codes "Content-Type: ") (r.content_type)) (from_tag r) c.in_ok-at.at c.in_ok-at-2.at c.put_line.new.out c.put_line-2.new.out c.put_line-5.new.out None c.put_line-2.auto.out (subst (λ (o : Option (List ℕ)). Puts (field_line (codes "Content-Type: ") o) c.in_ok-at.at c.in_ok-at-2.at c.put_line.new.out c.put_line-2.new.out) c.bytes_of.ensures c.in_ok-at-2.ensures)
    (puts_then_if_room (field_line (codes "ETag: ") (option_map entity_tag r.etag)) (from_location r) c.in_ok-at-2.at c.in_ok-at-3.at c.put_line-2.new.out c.put_line-3.new.out c.put_line-5.new.out None c.put_line-3.auto.out (subst (λ (o : Option (List ℕ)). Puts (field_line (codes "ETag: ") o) c.in_ok-at-2.at c.in_ok-at-3.at c.put_line-2.new.out c.put_line-3.new.out) c.tag_of.ensures c.in_ok-at-3.ensures)
    (puts_then_if_room (field_line (codes "Location: ") (r.location)) (from_allow r) c.in_ok-at-3.at c.in_ok-at-4.at c.put_line-3.new.out c.put_line-4.new.out c.put_line-5.new.out None c.put_line-4.auto.out c.in_ok-at-4.ensures
    (no_room_for (field_line (codes "Allow: ") (r.allow)) (from_length r) c.in_ok-at-4.at c.put_line-4.new.out c.put_line-5.new.out (subst (λ (o : Option (List ℕ)). length c.put_line-4.new.out < c.in_ok-at-4.at + length (field_line (codes "Allow: ") o)) c.bytes_of-2.ensures c.in_err-at-5.ensures)))))))

pub returns-in_err-at-6 : goal.returns-in_err-at-6
returns-in_err-at-6 c =
    let r = plain_reply c.args.reply.now in
    let none : c.from_residual-in_err-at-6.result ≡ None = c.from_residual-in_err-at-6.ensures in
    subst (λ (n : Option ℕ). PutsIfRoom (http_reply r) 0 c.args.out.now c.put_line-6.new.out n) (sym none)
    (subst (λ (t : List ℕ). PutsIfRoom t 0 c.args.out.now c.put_line-6.new.out None) (sym (by_lines r c.requires))
    (puts_then_if_room (field_line (codes "HTTP/1.1 ") (phrase_of r.status)) (from_type r) 0 c.in_ok-at.at c.args.out.now c.put_line.new.out c.put_line-6.new.out None c.put_line.auto.out (subst (λ (o : Option (List ℕ)). Puts (field_line (codes "HTTP/1.1 ") o) 0 c.in_ok-at.at c.args.out.now c.put_line.new.out) c.phrase.ensures c.in_ok-at.ensures)
    (puts_then_if_room (field_line (codes "Content-Type: ") (r.content_type)) (from_tag r) c.in_ok-at.at c.in_ok-at-2.at c.put_line.new.out c.put_line-2.new.out c.put_line-6.new.out None c.put_line-2.auto.out (subst (λ (o : Option (List ℕ)). Puts (field_line (codes "Content-Type: ") o) c.in_ok-at.at c.in_ok-at-2.at c.put_line.new.out c.put_line-2.new.out) c.bytes_of.ensures c.in_ok-at-2.ensures)
    (puts_then_if_room (field_line (codes "ETag: ") (option_map entity_tag r.etag)) (from_location r) c.in_ok-at-2.at c.in_ok-at-3.at c.put_line-2.new.out c.put_line-3.new.out c.put_line-6.new.out None c.put_line-3.auto.out (subst (λ (o : Option (List ℕ)). Puts (field_line (codes "ETag: ") o) c.in_ok-at-2.at c.in_ok-at-3.at c.put_line-2.new.out c.put_line-3.new.out) c.tag_of.ensures c.in_ok-at-3.ensures)
    (puts_then_if_room (field_line (codes "Location: ") (r.location)) (from_allow r) c.in_ok-at-3.at c.in_ok-at-4.at c.put_line-3.new.out c.put_line-4.new.out c.put_line-6.new.out None c.put_line-4.auto.out c.in_ok-at-4.ensures
    (puts_then_if_room (field_line (codes "Allow: ") (r.allow)) (from_length r) c.in_ok-at-4.at c.in_ok-at-5.at c.put_line-4.new.out c.put_line-5.new.out c.put_line-6.new.out None c.put_line-5.auto.out (subst (λ (o : Option (List ℕ)). Puts (field_line (codes "Allow: ") o) c.in_ok-at-4.at c.in_ok-at-5.at c.put_line-4.new.out c.put_line-5.new.out) c.bytes_of-2.ensures c.in_ok-at-5.ensures)
    (no_room_for (field_line (codes "Content-Length: ") (option_map decimal (written_length r))) (from_close r) c.in_ok-at-5.at c.put_line-5.new.out c.put_line-6.new.out (subst (λ (o : Option (List ℕ)). length c.put_line-5.new.out < c.in_ok-at-5.at + length (field_line (codes "Content-Length: ") o)) c.length_of.ensures c.in_err-at-6.ensures))))))))

pub returns-then-reply : goal.returns-then-reply
returns-then-reply c =
    let r = plain_reply c.args.reply.now in
    subst (λ (t : List ℕ). PutsIfRoom t 0 c.args.out.now c.put_piece.new.out c.put_piece.result) (sym (by_lines r c.requires))
    (puts_then_if_room (field_line (codes "HTTP/1.1 ") (phrase_of r.status)) (from_type r) 0 c.in_ok-at.at c.args.out.now c.put_line.new.out c.put_piece.new.out c.put_piece.result c.put_line.auto.out (subst (λ (o : Option (List ℕ)). Puts (field_line (codes "HTTP/1.1 ") o) 0 c.in_ok-at.at c.args.out.now c.put_line.new.out) c.phrase.ensures c.in_ok-at.ensures)
    (puts_then_if_room (field_line (codes "Content-Type: ") (r.content_type)) (from_tag r) c.in_ok-at.at c.in_ok-at-2.at c.put_line.new.out c.put_line-2.new.out c.put_piece.new.out c.put_piece.result c.put_line-2.auto.out (subst (λ (o : Option (List ℕ)). Puts (field_line (codes "Content-Type: ") o) c.in_ok-at.at c.in_ok-at-2.at c.put_line.new.out c.put_line-2.new.out) c.bytes_of.ensures c.in_ok-at-2.ensures)
    (puts_then_if_room (field_line (codes "ETag: ") (option_map entity_tag r.etag)) (from_location r) c.in_ok-at-2.at c.in_ok-at-3.at c.put_line-2.new.out c.put_line-3.new.out c.put_piece.new.out c.put_piece.result c.put_line-3.auto.out (subst (λ (o : Option (List ℕ)). Puts (field_line (codes "ETag: ") o) c.in_ok-at-2.at c.in_ok-at-3.at c.put_line-2.new.out c.put_line-3.new.out) c.tag_of.ensures c.in_ok-at-3.ensures)
    (puts_then_if_room (field_line (codes "Location: ") (r.location)) (from_allow r) c.in_ok-at-3.at c.in_ok-at-4.at c.put_line-3.new.out c.put_line-4.new.out c.put_piece.new.out c.put_piece.result c.put_line-4.auto.out c.in_ok-at-4.ensures
    (puts_then_if_room (field_line (codes "Allow: ") (r.allow)) (from_length r) c.in_ok-at-4.at c.in_ok-at-5.at c.put_line-4.new.out c.put_line-5.new.out c.put_piece.new.out c.put_piece.result c.put_line-5.auto.out (subst (λ (o : Option (List ℕ)). Puts (field_line (codes "Allow: ") o) c.in_ok-at-4.at c.in_ok-at-5.at c.put_line-4.new.out c.put_line-5.new.out) c.bytes_of-2.ensures c.in_ok-at-5.ensures)
    (puts_then_if_room (field_line (codes "Content-Length: ") (option_map decimal (written_length r))) (from_close r) c.in_ok-at-5.at c.in_ok-at-6.at c.put_line-5.new.out c.put_line-6.new.out c.put_piece.new.out c.put_piece.result c.put_line-6.auto.out (subst (λ (o : Option (List ℕ)). Puts (field_line (codes "Content-Length: ") o) c.in_ok-at-5.at c.in_ok-at-6.at c.put_line-5.new.out c.put_line-6.new.out) c.length_of.ensures c.in_ok-at-6.ensures)
    (subst (λ (b : Bool). PutsIfRoom (field_line (codes "Connection: ") (closing b) ++ line_end) c.in_ok-at-6.at c.put_line-6.new.out c.put_piece.new.out c.put_piece.result) (sym c.if-reply.true) c.put_piece.ensures)))))))

pub returns-else-reply : goal.returns-else-reply
returns-else-reply c =
    let r = plain_reply c.args.reply.now in
    subst (λ (t : List ℕ). PutsIfRoom t 0 c.args.out.now c.put_piece-else-reply.new.out c.put_piece-else-reply.result) (sym (by_lines r c.requires))
    (puts_then_if_room (field_line (codes "HTTP/1.1 ") (phrase_of r.status)) (from_type r) 0 c.in_ok-at.at c.args.out.now c.put_line.new.out c.put_piece-else-reply.new.out c.put_piece-else-reply.result c.put_line.auto.out (subst (λ (o : Option (List ℕ)). Puts (field_line (codes "HTTP/1.1 ") o) 0 c.in_ok-at.at c.args.out.now c.put_line.new.out) c.phrase.ensures c.in_ok-at.ensures)
    (puts_then_if_room (field_line (codes "Content-Type: ") (r.content_type)) (from_tag r) c.in_ok-at.at c.in_ok-at-2.at c.put_line.new.out c.put_line-2.new.out c.put_piece-else-reply.new.out c.put_piece-else-reply.result c.put_line-2.auto.out (subst (λ (o : Option (List ℕ)). Puts (field_line (codes "Content-Type: ") o) c.in_ok-at.at c.in_ok-at-2.at c.put_line.new.out c.put_line-2.new.out) c.bytes_of.ensures c.in_ok-at-2.ensures)
    (puts_then_if_room (field_line (codes "ETag: ") (option_map entity_tag r.etag)) (from_location r) c.in_ok-at-2.at c.in_ok-at-3.at c.put_line-2.new.out c.put_line-3.new.out c.put_piece-else-reply.new.out c.put_piece-else-reply.result c.put_line-3.auto.out (subst (λ (o : Option (List ℕ)). Puts (field_line (codes "ETag: ") o) c.in_ok-at-2.at c.in_ok-at-3.at c.put_line-2.new.out c.put_line-3.new.out) c.tag_of.ensures c.in_ok-at-3.ensures)
    (puts_then_if_room (field_line (codes "Location: ") (r.location)) (from_allow r) c.in_ok-at-3.at c.in_ok-at-4.at c.put_line-3.new.out c.put_line-4.new.out c.put_piece-else-reply.new.out c.put_piece-else-reply.result c.put_line-4.auto.out c.in_ok-at-4.ensures
    (puts_then_if_room (field_line (codes "Allow: ") (r.allow)) (from_length r) c.in_ok-at-4.at c.in_ok-at-5.at c.put_line-4.new.out c.put_line-5.new.out c.put_piece-else-reply.new.out c.put_piece-else-reply.result c.put_line-5.auto.out (subst (λ (o : Option (List ℕ)). Puts (field_line (codes "Allow: ") o) c.in_ok-at-4.at c.in_ok-at-5.at c.put_line-4.new.out c.put_line-5.new.out) c.bytes_of-2.ensures c.in_ok-at-5.ensures)
    (puts_then_if_room (field_line (codes "Content-Length: ") (option_map decimal (written_length r))) (from_close r) c.in_ok-at-5.at c.in_ok-at-6.at c.put_line-5.new.out c.put_line-6.new.out c.put_piece-else-reply.new.out c.put_piece-else-reply.result c.put_line-6.auto.out (subst (λ (o : Option (List ℕ)). Puts (field_line (codes "Content-Length: ") o) c.in_ok-at-5.at c.in_ok-at-6.at c.put_line-5.new.out c.put_line-6.new.out) c.length_of.ensures c.in_ok-at-6.ensures)
    (subst (λ (b : Bool). PutsIfRoom (field_line (codes "Connection: ") (closing b) ++ line_end) c.in_ok-at-6.at c.put_line-6.new.out c.put_piece-else-reply.new.out c.put_piece-else-reply.result) (sym c.if-reply.false) c.put_piece-else-reply.ensures)))))))
