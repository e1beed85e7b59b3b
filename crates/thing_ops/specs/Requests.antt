-- Requests apart from where their parts lie in memory.
use Rattle.std.specs.Prelude.{ℕ, List}
use Rattle.thing_ops.specs.declared.verb.Verb.{Verb}
use Rattle.thing_ops.specs.declared.conditions.Conditions.{Conditions}
use Rattle.thing_ops.specs.declared.request.Accept.{Accept}
use Rattle.thing_ops.specs.declared.request.Format.{Format}
use Rattle.thing_ops.specs.declared.request.Request.{Request}

-- a request: its path is a list of segments, and segments, query and body are lists of bytes
pub record RequestSeen : Type 0 where
  pub verb : Verb
  pub path : List (List ℕ)
  pub query : List ℕ
  pub accept : Accept
  pub format : Format
  pub body : List ℕ
  pub conditions : Conditions

-- a request as plain lists
abbrev pub request_seen : Request → RequestSeen
request_seen r = record {
  verb = r.verb;
  path = r.path;
  query = r.query.now;
  accept = r.accept;
  format = r.format;
  body = r.body.now;
  conditions = r.conditions;
}
