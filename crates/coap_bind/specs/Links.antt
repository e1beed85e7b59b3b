-- The path of the links: a GET of it is answered with the text of the links that the server was given, in blocks where that
-- is long, and nothing is asked for it (RFC 6690, section 4; RFC 7252, section 7.2).
use Rattle.std.specs.Prelude.{◌&&◌, ℕ, nat_lt, nat_le, Bool, List, [], ◌∷◌, length, codes, option_map, Option, Some, None, if◌then◌else◌}
use Rattle.coap_msg.specs.declared.endpoint.Endpoint.{Endpoint}
use Rattle.coap_blocks.specs.Bodies.{Body, Content, longest_body, with_body}
use Rattle.coap_msg.specs.Blocks.{block_size}
use Rattle.coap_observe.specs.Watching.{Watching, without_pair}
use Rattle.coap_opts.specs.Reading.{AskSeen}
use Rattle.thing_ops.specs.Outcomes.{coap}
use Rattle.thing_ops.specs.Routes.{has_form, the}
use Rattle.coap_msg.specs.declared.constants.TheConstants.{METHOD_NOT_ALLOWED}
use Rattle.coap_bind.specs.declared.links.TheConstants.{LINK_FORMAT}
use Rattle.coap_bind.specs.declared.observing.Observing.{Observing}
use Rattle.coap_bind.specs.declared.observing.Observing.TheVariants as observing
use Rattle.coap_bind.specs.Blocks.{block2_of, content_reply, first_block, given_portion}
use Rattle.coap_bind.specs.Writing.{Reply, word_reply, long_reply}

-- `/.well-known/core`
abbrev pub is_links_path : List (List ℕ) → Bool
is_links_path path = has_form (the (codes ".well-known") ∷ the (codes "core") ∷ []) path

-- the text as a body: 2.05, the content format of links (RFC 6690, section 7.3), and no tag
abbrev pub links_content : List ℕ → Content
links_content text = record { code = coap 2 05; format = Some LINK_FORMAT; tag = None; bytes = text }

-- the exponent of the size of a block that a GET asks for, if it asks for one
abbrev pub size_asked : Observing → AskSeen → Option ℕ
size_asked o a = option_map (λ b. b.szx) (block2_of o a)

-- The reply to a GET that asks for a block of this size, or for none. A text that is too long for a body is refused.
abbrev pub links_reply : Option ℕ → List ℕ → Reply
links_reply szx text = if nat_lt longest_body (length text) then long_reply else content_reply (given_portion szx text) (links_content text)

-- the reply to another verb (RFC 7252, section 5.9.2.6)
abbrev pub method_reply : Reply
method_reply = word_reply METHOD_NOT_ALLOWED (codes "method")

-- ---- the effects of a GET

-- The observers: to deregister ends an observation on whatever path (RFC 7641, section 3.6), and nothing here can be
-- observed.
abbrev pub observers_with_links : Observing → Endpoint → List ℕ → Watching → Watching
observers_with_links observing.Unchanged from token w = w
observers_with_links observing.Registers from token w = w
observers_with_links observing.Deregisters from token w = without_pair from token w

-- the text is given in more than one block
abbrev pub is_text_kept : Option ℕ → ℕ → Bool
is_text_kept szx n = nat_lt (block_size (first_block szx)) n && nat_le n longest_body

-- the bodies that are kept: the text, for the requests for its later blocks (RFC 7959, section 2.4)
abbrev pub bodies_with_links : Endpoint → List (List ℕ) → ℕ → Option ℕ → List ℕ → List Body → List Body
bodies_with_links from path now szx text bodies =
    if is_text_kept szx (length text)
    then with_body (record { from = from; path = path; content = links_content text; moment = now }) bodies
    else bodies
