-- The built-in Thing: its plan and its one model.
use Rattle.std.specs.Prelude.{List, [], ◌∷◌, codes, ℕ, None, unwrap_or}
use Rattle.wot_json.specs.Tree.{Json, string}
use Rattle.wot_json.specs.Reading.{tree_of}
use Rattle.thing_site.specs.Site.{Slots}
use Rattle.servient_plan.specs.declared.plan.Plan.{Plan}

-- The URL and the text of its model, which is read when it is needed. No clause rules out that it is no JSON, so the
-- answer then is out of memory; a test shows that it is read and taken.
abbrev pub built_in_url : List ℕ
built_in_url = codes "https://models.example/builtin.tm.json"

abbrev pub built_in_text : List ℕ
built_in_text = codes "{\"@context\":\"https://www.w3.org/2022/wot/td/v1.1\",\"@type\":\"tm:ThingModel\",\"title\":\"Lamp\",\"properties\":{\"status\":{\"type\":\"integer\",\"minimum\":0,\"maximum\":100,\"observable\":true}},\"actions\":{\"fade\":{\"input\":{\"type\":\"integer\",\"minimum\":0,\"maximum\":100},\"output\":{\"type\":\"integer\"}},\"halt\":{}},\"events\":{\"beat\":{\"data\":{\"type\":\"integer\"}}}}"

-- the value of that text
abbrev pub built_in_model : Json
built_in_model = unwrap_or (tree_of built_in_text) (string [])

-- the slots of its affordances: a cell, two jobs and a pulse of the rack that is shipped
abbrev pub built_in_slots : Slots
built_in_slots =
    (codes "lamp", codes "/properties/status", 0) ∷ (codes "lamp", codes "/actions/fade", 34)
    ∷ (codes "lamp", codes "/actions/halt", 32) ∷ (codes "lamp", codes "/events/beat", 48) ∷ []

abbrev pub built_in_plan : Plan
built_in_plan = record {
  frame = record {
    segment = codes "lamp";
    id = codes "urn:x:lamp";
    bases = record { http = codes "http://127.0.0.1:8080"; coap = codes "coap://127.0.0.1:5683" };
    instance = None;
  };
  root = built_in_url;
  models = [];
  bindings = [];
  choices = [];
  slots = built_in_slots;
  exchanges = 1024;
  epoch = None;
  versions = 0;
  listen = None;
  unknown = [];
}
