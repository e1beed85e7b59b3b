-- The bodies that the server keeps for their later blocks (RFC 7959, section 2.4): the last that was given to the
-- client for a path is that of the last act of the ledger that leaves one, or the text of the links.
use Rattle.std.proofs.Common.{◌≡◌, ℕ, ◌∙◌, ◌&&◌, ◌||◌, Bool, true, false, Option, Some, None, List, [], ◌∷◌, ◌++◌, option_map, length, refl, sym, ap, subst, append-nil}
use Rattle.std.specs.Prelude.{◌==◌, if◌then◌else◌}
use Rattle.std.specs.List.{list_any}
use Rattle.std.proofs.lemmas.Option.{same_Some}
use Rattle.coap_msg.specs.declared.constants.TheConstants.{GET, POST, PUT, DELETE}
use Rattle.coap_msg.specs.declared.endpoint.Endpoint.{Endpoint}
use Rattle.coap_msg.specs.Grammar.{CoapMessage}
use Rattle.coap_blocks.specs.Bodies.{Body, Content, is_body_of, with_body, body_for, kept_bodies}
use Rattle.coap_blocks.specs.Paths.{is_same_path}
use Rattle.coap_blocks.proofs.BodyLaws.{bodies_follow_the_puts, the_last_body_is_got, own_is}
use Rattle.coap_opts.specs.Reading.{AskSeen, asked as what_is_asked}
use Rattle.thing_ops.specs.declared.outcome.Outcome.{Outcome}
use Rattle.coap_bind.specs.declared.server.Server.{Server}
use Rattle.coap_bind.specs.declared.blocks.BlockUse.{BlockUse}
use Rattle.coap_bind.specs.declared.blocks.BlockUse.TheVariants as blocks
use Rattle.coap_bind.specs.declared.blocks.BlockWish.TheVariants as wanted
use Rattle.coap_bind.specs.Blocks.{use_of, outcome_content, body_of, is_kept, bodies_after}
use Rattle.coap_bind.specs.Links.{is_links_path, links_content, size_asked, is_text_kept}
use Rattle.coap_bind.specs.Server.{asks_links, observing_in, wanted_in}
use Rattle.coap_bind.specs.Treating.{Acted}
use Rattle.coap_bind.specs.Writing.{Reply}
use Rattle.servient_world.specs.World.{client_place}
use Rattle.servient_world.specs.Led.{Led, to_refusal, to_no_memory, to_links, to_later_block, to_parts, to_act, to_act_on_whole, LeadsTo, is_refused, finds_no_memory, gets_links, gets_no_links, gets_block, is_joined, is_acted_on, is_acted_on_whole, leaves_text, leaves_nothing, drops_body, Leaves}
use Rattle.servient_world.specs.Laws.{blocks_for, blocks_by}
use Rattle.servient_world.proofs.Ledger.{Entry, given_at, given_by, given_to, given_push, IsGivenFor}
use Rattle.servient_world.proofs.BlockReplies.{verb_if, observing_if, wanted_if, use_if, not_joined}

-- ---- the last that was put

abbrev pub last_by : (Body → Bool) → Option Body → List Body → Option Body
last_by test before [] = before
last_by test before (b ∷ puts) = last_by test (if test b then Some b else before) puts

last_push : (test : Body → Bool) (before : Option Body) (puts : List Body) (b : Body) → last_by test before (puts ++ b ∷ []) ≡ (if test b then Some b else last_by test before puts)
last_push test before [] b = refl
last_push test before (x ∷ puts) b = last_push test (if test x then Some x else before) puts b

-- the last body for the client at a path
abbrev pub last_put : List (List ℕ) → List Body → Option Body
last_put path puts = last_by (is_body_of client_place path) None puts

none_after : (test : Body → Bool) (before : Option Body) (puts : List Body) → list_any test puts ≡ false → last_by test before puts ≡ before
none_after test before [] e = refl
none_after test before (x ∷ puts) e = by_test (none_after test before puts) (test x) refl e
  where
    by_test : (list_any test puts ≡ false → last_by test before puts ≡ before) → (b : Bool) → test x ≡ b → (b || list_any test puts) ≡ false
        → last_by test (if test x then Some x else before) puts ≡ before
    by_test rest true t h = absurd cc
    by_test rest false t h = ap (λ (c : Bool). last_by test (if c then Some x else before) puts) t ∙ rest h

last_is : (test : Body → Bool) (before : Option Body) (first after : List Body) (b : Body) → test b ≡ true → list_any test after ≡ false → last_by test before (first ++ b ∷ after) ≡ Some b
last_is test before [] after b own last = ap (λ (c : Bool). last_by test (if c then Some b else before) after) own ∙ none_after test (Some b) after last
last_is test before (x ∷ first) after b own last = last_is test (if test x then Some x else before) first after b own last

pub record Given (led : List Entry) (s : Server) : Type 0 where
  pub puts : List Body
  pub bodies : s.bodies ≡ kept_bodies puts
  pub given : (path : List (List ℕ)) → is_links_path path ≡ false → option_map (λ (b : Body). b.content) (last_put path puts) ≡ given_to path led
  pub texts : (path : List (List ℕ)) (b : Body) → is_links_path path ≡ true → last_put path puts ≡ Some b → b.content ≡ links_content s.links

-- the body that is got for the client is the last that was put
pub got_is_last : (path : List (List ℕ)) (now : ℕ) (puts bodies : List Body) (b : Body) → bodies ≡ kept_bodies puts → body_for client_place path now bodies ≡ Some b → last_put path puts ≡ Some b
got_is_last path now puts bodies b same got =
    let last = the_last_body_is_got puts client_place path now b (subst (λ (bs : List Body). body_for client_place path now bs ≡ Some b) same got) in
    subst (λ (ps : List Body). last_put path ps ≡ Some b) (sym last.there) (last_is (is_body_of client_place path) None last.before last.after b last.own last.last)

-- ---- a body is put, or none

-- another server and more entries, with the same bodies
given_same : (led more : List Entry) (s t : Server) → t.bodies ≡ s.bodies → t.links ≡ s.links → ((path : List (List ℕ)) → given_to path (led ++ more) ≡ given_to path led) → Given led s → Given (led ++ more) t
given_same led more s t bodies links same g = record {
  puts = g.puts;
  bodies = bodies ∙ g.bodies;
  given = λ path apart. g.given path apart ∙ sym (same path);
  texts = λ path b is last. g.texts path b is last ∙ ap links_content (sym links);
}

-- a body is put, which is that of the entry for the path that it is of
given_put : (led more : List Entry) (s t : Server) (b : Body) → t.bodies ≡ with_body b s.bodies → t.links ≡ s.links
    → ((path : List (List ℕ)) → is_links_path path ≡ false → given_to path (led ++ more) ≡ (if is_body_of client_place path b then Some b.content else given_to path led))
    → ((path : List (List ℕ)) → is_links_path path ≡ true → is_body_of client_place path b ≡ true → b.content ≡ links_content s.links)
    → Given led s → Given (led ++ more) t
given_put led more s t b bodies links each text g = record {
  puts = g.puts ++ b ∷ [];
  bodies = bodies ∙ (ap (with_body b) g.bodies ∙ sym (bodies_follow_the_puts g.puts b));
  given = λ path apart.
      ap (option_map (λ (x : Body). x.content)) (last_push (is_body_of client_place path) None g.puts b)
      ∙ (at path (is_body_of client_place path b) (g.given path apart) ∙ sym (each path apart));
  texts = λ path x is last. of_text path x is (is_body_of client_place path b) refl (sym (last_push (is_body_of client_place path) None g.puts b) ∙ last);
}
  where
    at : (path : List (List ℕ)) (c : Bool) → option_map (λ (x : Body). x.content) (last_put path g.puts) ≡ given_to path led
        → option_map (λ (x : Body). x.content) (if c then Some b else last_put path g.puts) ≡ (if c then Some b.content else given_to path led)
    at path true e = refl
    at path false e = e

    of_text : (path : List (List ℕ)) (x : Body) → is_links_path path ≡ true → (c : Bool) → is_body_of client_place path b ≡ c → (if c then Some b else last_put path g.puts) ≡ Some x
        → x.content ≡ links_content t.links
    of_text path x is true own e =
        subst (λ (y : Body). y.content ≡ links_content t.links) (same_Some b x e) (text path is own ∙ ap links_content (sym links))
    of_text path x is false own e = g.texts path x is e ∙ ap links_content (sym links)

no_entry : (path : List (List ℕ)) (led : List Entry) → given_to path (led ++ []) ≡ given_to path led
no_entry path led = ap (given_to path) (append-nil led)

without_nil : (led : List Entry) (s : Server) → Given (led ++ []) s → Given led s
without_nil led s g = subst (λ (l : List Entry). Given l s) (append-nil led) g

-- ---- datagrams from elsewhere

not_own : (path : List (List ℕ)) (from : Endpoint) (b : Body) → (from ≡ client_place → ⊥) → b.from ≡ from → (c : Bool) → is_body_of client_place path b ≡ c → c ≡ false
not_own path from b apart place true e = absurd (apart (sym place ∙ (own_is client_place path b e).0))
not_own path from b apart place false e = refl

foreign_put : (led : List Entry) (s t : Server) (from : Endpoint) (b : Body) → (from ≡ client_place → ⊥) → b.from ≡ from → t.bodies ≡ with_body b s.bodies → t.links ≡ s.links → Given led s → Given led t
foreign_put led s t from b apart place bodies links g =
    without_nil led t (given_put led [] s t b bodies links
    (λ path is. no_entry path led ∙ ap (λ (c : Bool). if c then Some b.content else given_to path led) (sym (not_own path from b apart place (is_body_of client_place path b) refl)))
    (λ path is own. absurd (let wrong : true ≡ false = sym own ∙ not_own path from b apart place (is_body_of client_place path b) refl in cc)) g)

pub given_stays : (led : List Entry) (s t : Server) → t.bodies ≡ s.bodies → t.links ≡ s.links → Given led s → Given led t
given_stays led s t bodies links g = without_nil led t (given_same led [] s t bodies links (λ path. no_entry path led) g)

foreign_text : (led : List Entry) (s t : Server) (from : Endpoint) (path : List (List ℕ)) (now : ℕ) (size : Option ℕ) (text : List ℕ) → (from ≡ client_place → ⊥) → t.links ≡ s.links
    → (c : Bool) → t.bodies ≡ (if c then with_body (record { from = from; path = path; content = links_content text; moment = now }) s.bodies else s.bodies) → Given led s → Given led t
foreign_text led s t from path now size text apart links true bodies g = foreign_put led s t from _ apart refl bodies links g
foreign_text led s t from path now size text apart links false bodies g = given_stays led s t bodies links g

foreign_act : (led : List Entry) (s t : Server) (from : Endpoint) (u : BlockUse) (o : Outcome) → (from ≡ client_place → ⊥) → t.links ≡ s.links → t.bodies ≡ bodies_after u from o s.bodies
    → Given led s → Given led t
foreign_act led s t from blocks.Whole o apart links bodies g = given_stays led s t bodies links g
foreign_act led s t from (blocks.Joined b) o apart links bodies g = given_stays led s t bodies links g
foreign_act led s t from (blocks.Gives x) o apart links bodies g = by_test (is_kept x.szx o) bodies
  where
    by_test : (c : Bool) → t.bodies ≡ (if c then with_body (body_of from x.path x.moment o) s.bodies else s.bodies) → Given led t
    by_test true is = foreign_put led s t from (body_of from x.path x.moment o) apart refl is links g
    by_test false is = given_stays led s t is links g

pub given_elsewhere : (led : List Entry) (from : Endpoint) (now : ℕ) (m : CoapMessage) (x : Led) (s t : Server) → (from ≡ client_place → ⊥) → t.links ≡ s.links → Leaves from now m x s t → Given led s → Given led t
given_elsewhere led from now m to_refusal s t apart links leaves g = given_stays led s t leaves.bodies links g
given_elsewhere led from now m to_no_memory s t apart links leaves g = given_stays led s t leaves.bodies links g
given_elsewhere led from now m to_links s t apart links (leaves_text is bodies parts) g =
    foreign_text led s t from (what_is_asked m).request.path now (size_asked (observing_in m) (what_is_asked m)) s.links apart links _ bodies g
given_elsewhere led from now m to_links s t apart links (leaves_nothing same) g = given_stays led s t same.bodies links g
given_elsewhere led from now m to_links s t apart links (drops_body a place parts comes after bodies) g = given_stays led s t bodies links g
given_elsewhere led from now m (to_later_block path b found) s t apart links leaves g = given_stays led s t leaves.1.bodies links g
given_elsewhere led from now m (to_parts a added) s t apart links leaves g = given_stays led s t leaves.1 links g
given_elsewhere led from now m (to_act a) s t apart links leaves g =
    foreign_act led s t from (use_of now m.code (observing_in m) (what_is_asked m)) a.outcome apart links leaves.0 g
given_elsewhere led from now m (to_act_on_whole b a) s t apart links leaves g = given_stays led s t leaves.0.bodies links g

-- ---- datagrams from the client

-- an entry that leaves no body
plain_entry : (led : List Entry) (s t : Server) (x : Entry) → ((path : List (List ℕ)) (before : Option Content) → given_by path x.led before ≡ before) → t.bodies ≡ s.bodies → t.links ≡ s.links
    → Given led s → Given (led ++ x ∷ []) t
plain_entry led s t x none bodies links g = given_same led (x ∷ []) s t bodies links (λ path. given_push path None led x ∙ none path (given_to path led)) g

-- the path of a body for the links is no other
own_text : (path other : List (List ℕ)) (from : Endpoint) (content : Content) (now : ℕ) → is_links_path other ≡ true → is_links_path path ≡ false
    → (c : Bool) → is_body_of client_place path (record { from = from; path = other; content = content; moment = now }) ≡ c → c ≡ false
own_text path other from content now is isnt true e =
    let same = (own_is client_place path (record { from = from; path = other; content = content; moment = now }) e).1 in
    absurd (let wrong : is_links_path other ≡ false = ap is_links_path same ∙ isnt in cc)
own_text path other from content now is isnt false e = refl

text_entry : (led : List Entry) (s t : Server) (x : Entry) (path : List (List ℕ)) (now : ℕ) → x.led ≡ to_links → is_links_path path ≡ true → t.links ≡ s.links
    → (c : Bool) → t.bodies ≡ (if c then with_body (record { from = client_place; path = path; content = links_content s.links; moment = now }) s.bodies else s.bodies)
    → Given led s → Given (led ++ x ∷ []) t
text_entry led s t x path now is_it links_it links true bodies g =
    let b : Body = record { from = client_place; path = path; content = links_content s.links; moment = now } in
    given_put led (x ∷ []) s t b bodies links
    (λ other apart. given_push other None led x ∙ (ap (λ (l : Led). given_by other l (given_to other led)) is_it
    ∙ ap (λ (c : Bool). if c then Some b.content else given_to other led) (sym (own_text other path client_place (links_content s.links) now links_it apart (is_body_of client_place other b) refl))))
    (λ other is own. refl) g
text_entry led s t x path now is_it links_it links false bodies g = plain_entry led s t x (λ other before. ap (λ (l : Led). given_by other l before) is_it) bodies links g

-- the body that an act for a GET leaves, and the ledger's fact on it
and_true : (c : Bool) → (c && true) ≡ c
and_true true = refl
and_true false = refl

act_put : (led : List Entry) (s t : Server) (x : Entry) (a : Acted) (path : List (List ℕ)) (now : ℕ) (szx : Option ℕ) → is_links_path path ≡ false → t.links ≡ s.links
    → ((other : List (List ℕ)) (before : Option Content) → given_by other x.led before ≡ (if is_same_path path other && is_kept szx a.outcome then Some (outcome_content a.outcome) else before))
    → (c : Bool) → is_kept szx a.outcome ≡ c → t.bodies ≡ (if c then with_body (body_of client_place path now a.outcome) s.bodies else s.bodies) → Given led s → Given (led ++ x ∷ []) t
act_put led s t x a path now szx apart links by true kept bodies g =
    given_put led (x ∷ []) s t (body_of client_place path now a.outcome) bodies links
    (λ other isnt. given_push other None led x ∙ (by other (given_to other led)
    ∙ (ap (λ (c : Bool). if is_same_path path other && c then Some (outcome_content a.outcome) else given_to other led) kept
    ∙ ap (λ (c : Bool). if c then Some (outcome_content a.outcome) else given_to other led) (and_true (is_same_path path other)))))
    (λ other is own.
    let same = (own_is client_place other (body_of client_place path now a.outcome) own).1 in
    absurd (let wrong : is_links_path path ≡ true = ap is_links_path same ∙ is in cc)) g
act_put led s t x a path now szx apart links by false kept bodies g =
    plain_entry led s t x (λ other before. by other before
    ∙ (ap (λ (c : Bool). if is_same_path path other && c then Some (outcome_content a.outcome) else before) kept ∙ never (is_same_path path other) before)) bodies links g
  where
    never : (c : Bool) (before : Option Content) → (if c && false then Some (outcome_content a.outcome) else before) ≡ before
    never true before = refl
    never false before = refl

act_entry : (get post put delete : Bool) (led : List Entry) (s t : Server) (x : Entry) (a : Acted) (what : AskSeen) (now : ℕ) → wanted_if get post put what ≡ wanted.Act
    → is_links_path what.request.path ≡ false → t.links ≡ s.links → x.led ≡ to_act a → a.what.request.path ≡ what.request.path → blocks_for a.what ≡ blocks_by (verb_if get post put delete) what
    → t.bodies ≡ bodies_after (use_if get now what) client_place a.outcome s.bodies → Given led s → Given (led ++ x ∷ []) t
act_entry true post put delete led s t x a what now wants apart links is_it path by bodies g =
    act_put led s t x a what.request.path now (size_asked (observing_if true what) what) apart links
    (λ other before. ap (λ (l : Led). given_by other l before) is_it ∙ (ap (λ (u : BlockUse). given_at other u a before) by
    ∙ ap (λ (p : List (List ℕ)). if is_same_path p other && is_kept (size_asked (observing_if true what) what) a.outcome then Some (outcome_content a.outcome) else before) path))
    (is_kept (size_asked (observing_if true what) what) a.outcome) refl bodies g
act_entry false true put delete led s t x a what now wants apart links is_it path by bodies g =
    plain_entry led s t x (λ other before. ap (λ (l : Led). given_by other l before) is_it ∙ ap (λ (u : BlockUse). given_at other u a before) (by ∙ not_joined what.block1 wants)) bodies links g
act_entry false false true delete led s t x a what now wants apart links is_it path by bodies g =
    plain_entry led s t x (λ other before. ap (λ (l : Led). given_by other l before) is_it ∙ ap (λ (u : BlockUse). given_at other u a before) (by ∙ not_joined what.block1 wants)) bodies links g
act_entry false false false true led s t x a what now wants apart links is_it path by bodies g =
    plain_entry led s t x (λ other before. ap (λ (l : Led). given_by other l before) is_it ∙ ap (λ (u : BlockUse). given_at other u a before) by) bodies links g
act_entry false false false false led s t x a what now wants apart links is_it path by bodies g =
    plain_entry led s t x (λ other before. ap (λ (l : Led). given_by other l before) is_it ∙ ap (λ (u : BlockUse). given_at other u a before) by) bodies links g

-- the cause for which an entry is an act
pub record IsActedOn (m : CoapMessage) (a : Acted) : Type 0 where
  pub wants : wanted_in m ≡ wanted.Act
  pub apart : asks_links m ≡ false
  pub what : a.what ≡ what_is_asked m

pub acted_on : (from : Endpoint) (now : ℕ) (m : CoapMessage) (links : List ℕ) (seen : Option ℕ) (l : Led) (r : Reply) (a : Acted) → LeadsTo from now m links seen l r → l ≡ to_act a → IsActedOn m a
acted_on from now m links seen l r a (is_refused some same) is = absurd (cc)
acted_on from now m links seen l r a (finds_no_memory same says) is = absurd (cc)
acted_on from now m links seen l r a (gets_links wants links_it same says) is = absurd (cc)
acted_on from now m links seen l r a (gets_no_links links_it same says) is = absurd (cc)
acted_on from now m links seen l r a (gets_block b found wants same says) is = absurd (cc)
acted_on from now m links seen l r a (is_joined b added wants same says) is = absurd (cc)
acted_on from now m links seen l r a (is_acted_on x wants apart same what code place says) is =
    let one : x ≡ a = cc in
    record { wants = wants; apart = apart; what = subst (λ (y : Acted). y.what ≡ what_is_asked m) one what }
acted_on from now m links seen l r a (is_acted_on_whole x b body wants apart same what code place says) is = absurd (cc)

-- the entry of the effect of a copy of an ask
pub given_admits : (led : List Entry) (now : ℕ) (m : CoapMessage) (seen : Option ℕ) (x : Entry) (s t : Server) → LeadsTo client_place now m s.links seen x.led x.reply → Leaves client_place now m x.led s t
    → t.links ≡ s.links → Given led s → Given (led ++ x ∷ []) t
given_admits led now m seen x s t leads leaves links g = by_led x.led refl leaves
  where
    none : (l : Led) → x.led ≡ l → ((path : List (List ℕ)) (before : Option Content) → given_by path l before ≡ before) → (path : List (List ℕ)) (before : Option Content) → given_by path x.led before ≡ before
    none l is each path before = ap (λ (y : Led). given_by path y before) is ∙ each path before

    by_led : (l : Led) → x.led ≡ l → Leaves client_place now m l s t → Given (led ++ x ∷ []) t
    by_led to_refusal is it = plain_entry led s t x (none to_refusal is (λ path before. refl)) it.bodies links g
    by_led to_no_memory is it = plain_entry led s t x (none to_no_memory is (λ path before. refl)) it.bodies links g
    by_led to_links is (leaves_text links_it bodies parts) =
        text_entry led s t x (what_is_asked m).request.path now is links_it links (is_text_kept (size_asked (observing_in m) (what_is_asked m)) (length s.links)) bodies g
    by_led to_links is (leaves_nothing same) = plain_entry led s t x (none to_links is (λ path before. refl)) same.bodies links g
    by_led to_links is (drops_body a place parts comes after bodies) = plain_entry led s t x (none to_links is (λ path before. refl)) bodies links g
    by_led (to_later_block path b found) is it = plain_entry led s t x (none (to_later_block path b found) is (λ path before. refl)) it.1.bodies links g
    by_led (to_parts a added) is it = plain_entry led s t x (none (to_parts a added) is (λ path before. refl)) it.1 links g
    by_led (to_act a) is it =
        let on = acted_on client_place now m s.links seen x.led x.reply a leads is in
        act_entry (m.code == GET) (m.code == POST) (m.code == PUT) (m.code == DELETE) led s t x a (what_is_asked m) now on.wants on.apart links is
        (ap (λ (w : AskSeen). w.request.path) on.what) (ap blocks_for on.what) it.0 g
    by_led (to_act_on_whole b a) is it = plain_entry led s t x (none (to_act_on_whole b a) is (λ path before. refl)) it.0.bodies links g

-- the body that is found for a later block is the one that the entries before gave
pub given_for : (led : List Entry) (s : Server) (path : List (List ℕ)) (now : ℕ) (found : Option Content) → found ≡ option_map (λ (b : Body). b.content) (body_for client_place path now s.bodies)
    → Given led s → IsGivenFor path found s.links led
given_for led s path now found is g = at (body_for client_place path now s.bodies) refl is
  where
    at : (o : Option Body) → body_for client_place path now s.bodies ≡ o → found ≡ option_map (λ (b : Body). b.content) o → IsGivenFor path found s.links led
    at None got same = subst (λ (f : Option Content). IsGivenFor path f s.links led) (sym same) tt
    at (Some b) got same =
        let last = got_is_last path now g.puts s.bodies b g.bodies got in
        subst (λ (f : Option Content). IsGivenFor path f s.links led) (sym same)
        ((λ is_it. g.texts path b is_it last), (λ apart. sym (g.given path apart) ∙ ap (option_map (λ (x : Body). x.content)) last))

pub given_at_start : (s : Server) → s.bodies ≡ [] → Given [] s
given_at_start s none = record { puts = []; bodies = none; given = λ path apart. refl; texts = λ path b is last. absurd (cc) }
