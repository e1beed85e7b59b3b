-- The plan: an object that says which Things a servient exposes, where, and with which handlers. Its format is the
-- product's own; docs/REFERENCE.md retells it. It is a table of rows, each a value or the pointer to its member, and the
-- first row without a value is the fault: so a wrong entry of a list is a fault of the list, and one pass reads all.
use Rattle.std.specs.Prelude.{◌≡◌, ◌≤◌, ℕ, pos, ◌==◌, ◌&&◌, ◌||◌, not, nat_le, nat_lt, Bool, true, false, List, [], ◌∷◌, ◌++◌, length, drop, map, codes, Option, Some, None, is_some, IfSome, unwrap_or, option_map, option_and_then, Result, Ok, Err, if◌then◌else◌}
use Rattle.std.specs.List.{filter, list_all, list_any, starts_with}
use Rattle.std.specs.Str.{bytes_eq}
use Rattle.servient_base.specs.HostPorts.{point_in}
use Rattle.wot_json.specs.Tree.{Json, integer, string, array, object, Elements, no_elements, element}
use Rattle.wot_json.specs.Lookup.{member_list, member_named}
use Rattle.wot_json.specs.Merge.{members_under}
use Rattle.wot_terms.specs.Affordances.{part}
use Rattle.wot_forms.specs.declared.bases.Bases.{Bases}
use Rattle.wot_forms.specs.Segments.{is_name_byte, is_plain_segment}
use Rattle.servient_outside.specs.declared.place.Place.{Place}
use Rattle.servient_plan.specs.declared.plan.Plan.{Plan}
use Rattle.servient_plan.specs.declared.plan.Names.{Names}
use Rattle.servient_plan.specs.declared.plan.Lists.{Lists}
use Rattle.servient_plan.specs.declared.plan.PlanFault.{PlanFault}
use Rattle.servient_plan.specs.declared.plan.PlanFault.TheVariants.{At, NoMemory}
use Rattle.servient_plan.specs.declared.texts.TextRow.{TextRow}
use Rattle.servient_plan.specs.declared.texts.TextRow.TheVariants as row

-- ---- members that are texts

-- the segment of the root: 1 to 64 of A-Z a-z 0-9 . _ -, but none that is taken or that a URL would lose
-- (RFC 3986, section 5.2.4)
abbrev pub is_reserved : List ℕ → Bool
is_reserved text =
    bytes_eq text (codes "things") || bytes_eq text (codes ".well-known") || bytes_eq text (codes ".") || bytes_eq text (codes "..")

abbrev pub is_root_segment : List ℕ → Bool
is_root_segment text = list_all is_name_byte text && nat_lt 0 (length text) && nat_le (length text) 64 && not (is_reserved text)

-- the host and the port of a base: a scheme with `://`, and then HOST:PORT; the port is always there, because forms are
-- built from a base as it is written
abbrev pub base_point : List ℕ → List ℕ → Option (List ℕ × ℕ)
base_point scheme text = if starts_with (λ a b. a == b) text scheme then point_in (drop (length scheme) text) else None

abbrev pub is_base : List ℕ → List ℕ → Bool
is_base scheme text = is_some (base_point scheme text)

-- the name of each of these members
abbrev pub member_of : TextRow → List ℕ
member_of row.Name = codes "name"
member_of row.Id = codes "id"
member_of row.Http = codes "http"
member_of row.Coap = codes "coap"
member_of row.PublicHttp = codes "http"
member_of row.PublicCoap = codes "coap"
member_of row.Root = codes "model"

-- the texts that it may be; a plan that says where the servient listens may have bases of a proxy in front of it
abbrev pub takes_text : TextRow → List ℕ → Bool
takes_text row.Name text = is_root_segment text
takes_text row.Id text = nat_lt 0 (length text)
takes_text row.Http text = is_base (codes "http://") text
takes_text row.Coap text = is_base (codes "coap://") text
takes_text row.PublicHttp text = is_base (codes "http://") text || is_base (codes "https://") text
takes_text row.PublicCoap text = is_base (codes "coap://") text || is_base (codes "coaps://") text
takes_text row.Root text = true

-- ---- the values of members

abbrev pub text_in : Option Json → Option (List ℕ)
text_in (Some (string text)) = Some text
text_in v = None

abbrev pub taken_text : TextRow → Option (List ℕ) → Option (List ℕ)
taken_text r None = None
taken_text r (Some text) = if takes_text r text then Some text else None

-- a row of the table: a value, or that the member at this pointer is refused
abbrev pub row_of : {A : Type 0} → List ℕ → Option A → Result A (List ℕ)
row_of name None = Err (codes "/" ++ name)
row_of name (Some value) = Ok value

abbrev pub text_row : TextRow → List (List ℕ × Json) → Result (List ℕ) (List ℕ)
text_row r ms = row_of (member_of r) (taken_text r (text_in (member_named (member_of r) ms)))

-- the values that the elements of a list are read as, where each is right
abbrev pub each_read : {A : Type 0} → (Json → Option A) → Elements → Option (List A)
each_read read no_elements = Some []
each_read read (element v es) = option_and_then (λ a. option_map (λ as_read. a ∷ as_read) (each_read read es)) (read v)

-- two texts of an object, under these names
abbrev pub two_texts : List ℕ → List ℕ → Json → Option (List ℕ × List ℕ)
two_texts first second v =
    option_and_then (λ one. option_map (λ other. (one, other)) (text_in (part second v))) (text_in (part first v))

-- a model: the text of its URL, and the file that has it
abbrev pub model_entry : Json → Option (List ℕ × List ℕ)
model_entry = two_texts (codes "url") (codes "file")

-- a choice of an optional affordance: the segment of its Thing, and its pointer
abbrev pub choice_entry : Json → Option (List ℕ × List ℕ)
choice_entry = two_texts (codes "thing") (codes "pointer")

-- the slot of an affordance: the segment of its Thing, its pointer, and a number from 0 to 65,535
abbrev pub number_within : ℕ → ℕ → Option Json → Option ℕ
number_within least most (Some (integer (pos n))) = if nat_le least n && nat_le n most then Some n else None
number_within least most v = None

abbrev pub slot_entry : Json → Option (List ℕ × List ℕ × ℕ)
slot_entry v = option_and_then (λ named. option_map (λ slot. (named.0, named.1, slot)) (number_within 0 65535 (part (codes "slot") v))) (choice_entry v)

-- a list of 1 to 256 models
abbrev pub if_few : List (List ℕ × List ℕ) → Option (List (List ℕ × List ℕ))
if_few models = if nat_le 1 (length models) && nat_le (length models) 256 then Some models else None

abbrev pub models_in : Option Json → Option (List (List ℕ × List ℕ))
models_in (Some (array es)) = option_and_then if_few (each_read model_entry es)
models_in v = None

-- values by the names of placeholders; none where the member is absent
abbrev pub bindings_in : Option Json → Option (List (List ℕ × Json))
bindings_in None = Some []
bindings_in (Some (object ms)) = Some (member_list ms)
bindings_in (Some v) = None

-- a list of such entries; none where the member is absent
abbrev pub entries_in : {A : Type 0} → (Json → Option A) → Option Json → Option (List A)
entries_in read None = Some []
entries_in read (Some (array es)) = each_read read es
entries_in read (Some v) = None

-- a text, which may be absent
abbrev pub instance_in : Option Json → Option (Option (List ℕ))
instance_in None = Some None
instance_in (Some (string text)) = Some (Some text)
instance_in (Some v) = None

-- the number of exchanges that may live: 16 to 65,536, and 1,024 where the member is absent
abbrev pub exchanges_in : Option Json → Option ℕ
exchanges_in None = Some 1024
exchanges_in (Some v) = number_within 16 65536 (Some v)

-- the moment at which the clock began, in milliseconds after the start of 1970: up to the last one of the year 9999,
-- and nothing where the member is absent
abbrev pub last_epoch : ℕ
last_epoch = 253_402_300_799_999

abbrev pub epoch_in : Option Json → Option (Option ℕ)
epoch_in None = Some None
epoch_in (Some v) = option_map (λ epoch. Some epoch) (number_within 0 last_epoch (Some v))

-- The number up to which versions of properties are left out, since an earlier run may have sent them as tags: up to
-- 4,000,000,000, and 0 where the member is absent.
abbrev pub last_left_out : ℕ
last_left_out = 4_000_000_000

abbrev pub versions_in : Option Json → Option ℕ
versions_in None = Some 0
versions_in (Some v) = number_within 0 last_left_out (Some v)

-- Where it listens, if that isn't where descriptions and links say that it is: both bases, such as a plan has them that
-- doesn't say it.
abbrev pub bases_in : Json → Option Bases
bases_in v =
    option_and_then (λ http. option_map (λ coap. record { http = http; coap = coap }) (taken_text row.Coap (text_in (part (codes "coap") v))))
    (taken_text row.Http (text_in (part (codes "http") v)))

abbrev pub listen_in : Option Json → Option (Option Bases)
listen_in None = Some None
listen_in (Some v) = option_map (λ bases. Some bases) (bases_in v)

-- the member stands, whatever its value is; and the rows of `http` and `coap` then, and else
abbrev pub has_listen : List (List ℕ × Json) → Bool
has_listen ms = is_some (member_named (codes "listen") ms)

abbrev pub http_row : Bool → TextRow
http_row true = row.PublicHttp
http_row false = row.Http

abbrev pub coap_row : Bool → TextRow
coap_row true = row.PublicCoap
coap_row false = row.Coap

-- ---- the members that a plan has

-- Other members are ignored, and so a name that is misspelt; `unknown_in` gives their names, in the order of the object.
abbrev pub plan_members : List (List ℕ)
plan_members =
    codes "name" ∷ codes "id" ∷ codes "http" ∷ codes "coap" ∷ codes "model" ∷ codes "models" ∷ codes "bindings" ∷ codes "optional"
    ∷ codes "instance" ∷ codes "slots" ∷ codes "exchanges" ∷ codes "epoch" ∷ codes "versions" ∷ codes "listen" ∷ []

abbrev pub is_unknown : List ℕ → Bool
is_unknown name = not (list_any (λ other. bytes_eq name other) plan_members)

abbrev pub unknown_in : List (List ℕ × Json) → List (List ℕ)
unknown_in ms = filter is_unknown (map (λ m. m.0) ms)

-- ---- the plan

-- one row, and where it is not refused the next
abbrev pub then_row : {A B : Type 0} → Result A (List ℕ) → (A → Result B (List ℕ)) → Result B (List ℕ)
then_row (Err pointer) next = Err pointer
then_row (Ok a) next = next a

abbrev pub member_row : {A : Type 0} → List ℕ → (Option Json → Option A) → List (List ℕ × Json) → Result A (List ℕ)
member_row name read ms = row_of name (read (member_named name ms))

-- the answer of a reading of rows: the value that they have; or the member that they refuse first; or out of memory
abbrev pub Reads : {A : Type 0} → Result A PlanFault → Result A (List ℕ) → Type 0
Reads (Ok value) r = r ≡ Ok value
Reads (Err (At pointer)) r = r ≡ Err pointer
Reads (Err NoMemory) r = Unit {0}

-- The table: the rows in the order in which they are judged, and the plan that they make. First come who the root Thing
-- is, where it is served, and the URL of its model;
abbrev pub names_in : List (List ℕ × Json) → Result Names (List ℕ)
names_in ms =
    then_row (text_row row.Name ms) (λ segment.
    then_row (text_row row.Id ms) (λ id.
    then_row (text_row (http_row (has_listen ms)) ms) (λ http.
    then_row (text_row (coap_row (has_listen ms)) ms) (λ coap.
    then_row (text_row row.Root ms) (λ root.
    Ok (record { segment = segment; id = id; bases = record { http = http; coap = coap }; root = root }))))))

-- then what else the Things are derived from;
abbrev pub lists_in : List (List ℕ × Json) → Result Lists (List ℕ)
lists_in ms =
    then_row (member_row (codes "models") models_in ms) (λ models.
    then_row (member_row (codes "bindings") bindings_in ms) (λ bindings.
    then_row (member_row (codes "optional") (entries_in choice_entry) ms) (λ choices.
    Ok (record { models = models; bindings = bindings; choices = choices }))))

-- and then the rest.
abbrev pub plan_in : List (List ℕ × Json) → Result Plan (List ℕ)
plan_in ms =
    then_row (names_in ms) (λ names.
    then_row (lists_in ms) (λ lists.
    then_row (member_row (codes "instance") instance_in ms) (λ instance.
    then_row (member_row (codes "slots") (entries_in slot_entry) ms) (λ slots.
    then_row (member_row (codes "exchanges") exchanges_in ms) (λ exchanges.
    then_row (member_row (codes "epoch") epoch_in ms) (λ epoch.
    then_row (member_row (codes "versions") versions_in ms) (λ versions.
    then_row (member_row (codes "listen") listen_in ms) (λ listen.
    Ok (record {
      frame = record { segment = names.segment; id = names.id; bases = names.bases; instance = instance };
      root = names.root;
      models = lists.models;
      bindings = lists.bindings;
      choices = lists.choices;
      slots = slots;
      exchanges = exchanges;
      epoch = epoch;
      versions = versions;
      listen = listen;
      unknown = unknown_in ms;
    })))))))))

-- The plan that a value is, or the pointer to what it refuses first: the empty one where it is no object.
abbrev pub is_object : Json → Bool
is_object (object ms) = true
is_object v = false

abbrev pub plan_of : Json → Result Plan (List ℕ)
plan_of v = if is_object v then plan_in (members_under v) else Err []

-- as many exchanges may live as a server takes, the segment of the root is plain, and the clock began before the year
-- 10000
abbrev pub MayBeServed : Plan → Type 0
MayBeServed plan = (16 ≤ plan.exchanges) × (plan.exchanges ≤ 65536) × (is_plain_segment plan.frame.segment ≡ true) × IfSome plan.epoch (λ epoch. epoch ≤ last_epoch)

-- ---- where it listens

-- The host and the port of a base; no host and port 0 where it has none, which no plan that was read has. Instead of a
-- condition on plans that each caller would carry.
abbrev pub point_of : List ℕ → List ℕ → List ℕ × ℕ
point_of scheme base = unwrap_or (base_point scheme base) ([], 0)

-- The bases at which it listens: its own, where it doesn't say others.
abbrev pub listened_at : Plan → Bases
listened_at plan = unwrap_or plan.listen plan.frame.bases

-- there, and how many milliseconds without traffic
abbrev pub place_of : Plan → ℕ → Place
place_of plan idle = record {
  http_host = (point_of (codes "http://") (listened_at plan).http).0;
  http_port = (point_of (codes "http://") (listened_at plan).http).1;
  coap_host = (point_of (codes "coap://") (listened_at plan).coap).0;
  coap_port = (point_of (codes "coap://") (listened_at plan).coap).1;
  idle = idle;
}
