-- The forms that a servient generates for a description, over HTTP and over CoAP (TD 1.1 section 5.3.4.2), in place of
-- all that the description has.
use Rattle.std.specs.Prelude.{ℕ, Bool, true, false, not, ◌&&◌, ◌||◌, ◌==◌, nat_le, List, [], ◌∷◌, ◌++◌, length, map, Option, Some, None, codes, if◌then◌else◌}
use Rattle.std.specs.List.{flat_map, list_any}
use Rattle.std.specs.Char.{is_ascii_alphanumeric}
use Rattle.std.specs.Str.{bytes_eq}
use Rattle.servient_base.specs.Encoding.{encoded}
use Rattle.wot_json.specs.Tree.{Json, string, array, object, elements_of, members_of}
use Rattle.wot_json.specs.Lookup.{member_list, value_under}
use Rattle.wot_json.specs.Merge.{with_member, without_member}
use Rattle.wot_terms.specs.declared.kind.Kind.{Kind}
use Rattle.wot_terms.specs.declared.kind.Kind.TheVariants as kind
use Rattle.wot_terms.specs.declared.op.Op.{Op}
use Rattle.wot_terms.specs.declared.op.Op.TheVariants as op
use Rattle.wot_terms.specs.Operations.{op_name}
use Rattle.wot_terms.specs.Faults.{holder}
use Rattle.wot_terms.specs.Affordances.{flag_of}
use Rattle.wot_forms.specs.declared.bases.Bases.{Bases}
use Rattle.wot_forms.specs.declared.bases.Protocol.{Protocol}
use Rattle.wot_forms.specs.declared.bases.Protocol.TheVariants.{Http, Coap}
use Rattle.wot_forms.specs.Forms.{default_ops}

-- ## Where a form leads

-- the part before the path in the URLs of a protocol
abbrev pub base_of : Bases → Protocol → List ℕ
base_of bases Http = bases.http
base_of bases Coap = bases.coap

-- The path of the affordances of a kind, and that of one affordance, each after its base. The segment of the Thing is
-- encoded as names are, so that an `href` is a URL for every segment.
abbrev pub holder_path : List ℕ → List ℕ → Kind → List ℕ
holder_path base segment k = base ++ codes "/" ++ encoded segment ++ codes "/" ++ holder k

abbrev pub affordance_path : List ℕ → List ℕ → Kind → List ℕ → List ℕ
affordance_path base segment k name = holder_path base segment k ++ codes "/" ++ encoded name

-- The name can be a segment of a path of CoAP: it has at most 255 bytes, and is neither `.` nor `..` (RFC 7252
-- sections 5.10 and 5.10.1). Its bytes are counted before it is encoded, because CoAP sends a segment as it is.
abbrev pub is_coap_segment : List ℕ → Bool
is_coap_segment name = nat_le (length name) 255 && not (bytes_eq name (codes ".")) && not (bytes_eq name (codes ".."))

-- ## One form

-- a protocol brings the values of a property or of an event as they come by the form's subprotocol, and by the part
-- that its path has after that of the affordance
abbrev pub subprotocol_of : Protocol → List ℕ
subprotocol_of Http = codes "longpoll"
subprotocol_of Coap = codes "cov:observe"

abbrev pub observe_path : Protocol → List ℕ
observe_path Http = codes "/observe"
observe_path Coap = []

abbrev pub subscribe_path : Protocol → List ℕ
subscribe_path Http = codes "/subscribe"
subscribe_path Coap = []

-- the member `subprotocol`, where there is one
abbrev pub subprotocol_member : Option (List ℕ) → List (List ℕ × Json)
subprotocol_member None = []
subprotocol_member (Some name) = (codes "subprotocol", string name) ∷ []

-- a form: its members in byte order of their names (sections 5.3.4.2 and 5.4)
abbrev pub form : List ℕ → List Op → Option (List ℕ) → Json
form href ops subprotocol = object (members_of (
    (codes "contentType", string (codes "application/json")) ∷
    (codes "href", string href) ∷
    (codes "op", array (elements_of (map (λ o. string (op_name o)) ops))) ∷
    subprotocol_member subprotocol))

-- a form without a subprotocol; none where there is nothing that it would be for
abbrev pub plain_form : List ℕ → List Op → List Json
plain_form href [] = []
plain_form href (o ∷ ops) = form href (o ∷ ops) None ∷ []

-- ## The forms of an affordance

-- reading a property unless it is write-only, and writing it unless it is read-only
abbrev pub property_ops : Json → List Op
property_ops v = default_ops kind.Property (flag_of (codes "readOnly") v) (flag_of (codes "writeOnly") v)

-- the form for observing a property, which an observable one has as well
abbrev pub observe_form : Protocol → List ℕ → Json
observe_form p path = form (path ++ observe_path p) (op.ObserveProperty ∷ op.UnobserveProperty ∷ []) (Some (subprotocol_of p))

-- the form of an event
abbrev pub subscribe_form : Protocol → List ℕ → Json
subscribe_form p path = form (path ++ subscribe_path p) (default_ops kind.Event false false) (Some (subprotocol_of p))

-- the forms of an affordance of a kind for one protocol, from its value and its path
abbrev pub protocol_forms : Protocol → Kind → Json → List ℕ → List Json
protocol_forms p kind.Property v path =
    plain_form path (property_ops v) ++ (if flag_of (codes "observable") v then observe_form p path ∷ [] else [])
protocol_forms p kind.Action v path = form path (default_ops kind.Action false false) None ∷ []
protocol_forms p kind.Event v path = subscribe_form p path ∷ []

-- The forms of an affordance: first those over HTTP, then those over CoAP, which a name that can't be a segment there
-- has none of.
abbrev pub generated_forms : Bases → List ℕ → Kind → List ℕ → Json → List Json
generated_forms bases segment k name v =
    protocol_forms Http k v (affordance_path bases.http segment k name) ++
    (if is_coap_segment name then protocol_forms Coap k v (affordance_path bases.coap segment k name) else [])

-- ## The forms of the description as a whole

-- the value is an object: among the properties of a description, nothing else is a property
abbrev pub is_object : Json → Bool
is_object (object ms) = true
is_object v = false

-- one of these properties doesn't have this flag
abbrev pub some_without : List ℕ → List (List ℕ × Json) → Bool
some_without flag properties = list_any (λ m. is_object m.1 && not (flag_of flag m.1)) properties

-- reading all properties where one isn't write-only, and writing several where one isn't read-only
abbrev pub root_ops : List (List ℕ × Json) → List Op
root_ops properties =
    (if some_without (codes "writeOnly") properties then op.ReadAllProperties ∷ [] else []) ++
    (if some_without (codes "readOnly") properties then op.WriteMultipleProperties ∷ [] else [])

-- the forms of a description with these properties
abbrev pub generated_root_forms : Bases → List ℕ → List (List ℕ × Json) → List Json
generated_root_forms bases segment properties =
    plain_form (holder_path bases.http segment kind.Property) (root_ops properties) ++
    plain_form (holder_path bases.coap segment kind.Property) (root_ops properties)

-- ## The description with its forms

-- an affordance with its forms, in place of those that it had; a value that is no object isn't one and stays
abbrev pub with_forms : List Json → Json → Json
with_forms forms (object ms) = object (members_of (with_member (codes "forms") (array (elements_of forms)) (member_list ms)))
with_forms forms v = v

-- each affordance of a kind with its forms
abbrev pub each_with_forms : Bases → List ℕ → Kind → List (List ℕ × Json) → List (List ℕ × Json)
each_with_forms bases segment k affordances =
    map (λ m. (m.0, with_forms (generated_forms bases segment k m.0 m.1) m.1)) affordances

-- members of a description with the affordances of a kind, where what it has there is an object
abbrev pub with_affordances : Bases → List ℕ → Kind → Option Json → List (List ℕ × Json) → List (List ℕ × Json)
with_affordances bases segment k (Some (object affordances)) ms =
    with_member (holder k) (object (members_of (each_with_forms bases segment k (member_list affordances)))) ms
with_affordances bases segment k held ms = ms

-- members of a description with the forms of the whole, which it has where its properties are an object
abbrev pub with_root_forms : Bases → List ℕ → Option Json → List (List ℕ × Json) → List (List ℕ × Json)
with_root_forms bases segment (Some (object properties)) ms =
    with_member (codes "forms") (array (elements_of (generated_root_forms bases segment (member_list properties)))) ms
with_root_forms bases segment held ms = without_member (codes "forms") ms

-- A description with all its forms generated, as the Thing of this segment has them: those of its actions, of its
-- events, of itself and of its properties. All else is as it was.
abbrev pub generated : Json → Bases → List ℕ → Json
generated (object ms) bases segment = object (members_of (
    with_affordances bases segment kind.Property (value_under (holder kind.Property) ms) (
    with_root_forms bases segment (value_under (holder kind.Property) ms) (
    with_affordances bases segment kind.Event (value_under (holder kind.Event) ms) (
    with_affordances bases segment kind.Action (value_under (holder kind.Action) ms) (member_list ms))))))
generated v bases segment = v
