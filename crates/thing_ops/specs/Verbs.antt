-- The verbs that each kind of path takes, and the line that lists them (RFC 9110, section 10.2.1).
use Rattle.std.specs.Prelude.{ℕ, Bool, false, List, [], ◌∷◌, ◌++◌, codes, ◌==◌, if◌then◌else◌}
use Rattle.std.specs.List.{filter}
use Rattle.thing_ops.specs.declared.verb.Verb.{Verb}
use Rattle.thing_ops.specs.declared.verb.Verb.TheVariants as verb
use Rattle.thing_ops.specs.declared.allow.Allow.{Allow}
use Rattle.thing_ops.specs.declared.allow.Flags.{Flags}
use Rattle.thing_ops.specs.declared.routing.RouteKind.{RouteKind}
use Rattle.thing_ops.specs.declared.routing.RouteKind.TheVariants as route

-- a method's name (RFC 9110, section 9.3, and RFC 5789)
abbrev pub verb_name : Verb → List ℕ
verb_name verb.Get = codes "GET"
verb_name verb.Head = codes "HEAD"
verb_name verb.Put = codes "PUT"
verb_name verb.Post = codes "POST"
verb_name verb.Patch = codes "PATCH"
verb_name verb.Delete = codes "DELETE"
verb_name verb.Other = []

-- these verbs have that one; no other verb is ever among them
abbrev pub takes : Allow → Verb → Bool
takes allow verb.Get = allow.get
takes allow verb.Head = allow.head
takes allow verb.Put = allow.put
takes allow verb.Post = allow.post
takes allow verb.Patch = allow.patch
takes allow verb.Delete = allow.delete
takes allow verb.Other = false

-- the order in which verbs are listed
abbrev pub in_order : List Verb
in_order = verb.Get ∷ verb.Head ∷ verb.Put ∷ verb.Post ∷ verb.Patch ∷ verb.Delete ∷ []

-- the verbs that are taken, in that order
abbrev pub verbs_in : Allow → List Verb
verbs_in allow = filter (takes allow) in_order

-- names of verbs that come after others, each with a comma and a blank in front of it
abbrev pub further_names : List Verb → List ℕ
further_names [] = []
further_names (v ∷ vs) = codes ", " ++ verb_name v ++ further_names vs

-- names of verbs with a comma and a blank between them
abbrev pub names_of : List Verb → List ℕ
names_of [] = []
names_of (v ∷ vs) = verb_name v ++ further_names vs

-- a verb's name at this place of such names
abbrev pub name_at : ℕ → Verb → List ℕ
name_at at v = if at == 0 then verb_name v else codes ", " ++ verb_name v

-- A property's verbs: it is read with GET and HEAD unless it is write-only, and written with PUT unless it is read-only
-- (TD 1.1, section 5.3.2.1). Whether it is observable changes no verbs, but whether there is a path for that.
abbrev pub property_verbs : Flags → List Verb
property_verbs flags =
    (if flags.write_only then [] else verb.Get ∷ verb.Head ∷ []) ++ (if flags.read_only then [] else verb.Put ∷ [])

-- the table of verbs: what each path takes; the flags are a property's
abbrev pub verbs_of : RouteKind → Flags → List Verb
verbs_of route.Root flags = verb.Get ∷ verb.Head ∷ []
verbs_of route.Thing flags = verb.Get ∷ verb.Head ∷ []
verbs_of route.All flags = verb.Get ∷ verb.Head ∷ verb.Put ∷ []
verbs_of route.Property flags = property_verbs flags
verbs_of route.Observe flags = verb.Get ∷ []
verbs_of route.Subscribe flags = verb.Get ∷ []
verbs_of route.Action flags = verb.Post ∷ []
verbs_of (route.Invocation id) flags = verb.Get ∷ verb.Head ∷ verb.Delete ∷ []
verbs_of route.Event flags = verb.Get ∷ verb.Head ∷ []
verbs_of route.Things flags = verb.Get ∷ verb.Head ∷ verb.Post ∷ []
verbs_of route.Entry flags = verb.Get ∷ verb.Head ∷ verb.Put ∷ verb.Patch ∷ verb.Delete ∷ []
verbs_of route.Nowhere flags = []
