-- The server does just that which the server inside does.
use Rattle.std.proofs.Common.{inl, inr, ℕ, List, Option, subst}
use Rattle.coap_msg.specs.MessageOf.{message_of}
use Rattle.coap_bind.specs.declared.next.CoapNext.TheVariants.{Nothing, Send}
use Rattle.coap_bind.specs.declared.server.Server.{Server}
use Rattle.coap_msg.specs.declared.constants.TheConstants.{LONGEST_DATAGRAM, URI_PATH}
use Rattle.coap_bind.specs.Server.{settled, admitted}
use Rattle.coap_bind.specs.Telling.{HearsAs, SettlesAs, IsAdmitted}
use Rattle.coap_bind.specs.Settling.{ReadsAs, TellsDone}
use Rattle.coap_bind.proofs.MomentLaws.{hears_moment}
use Rattle.coap_bind.proofs.TellingLaws.{tells_nothing, tells_send}
use Rattle.coap_bind.proofs.WholeLaws.{path_is_short}
use Rattle.coap_bind.proofs.bind.CoapBind.datagram.Goals as goal

pub returns-in-Err-None-clause-ok : goal.returns-in-Err-None-clause-ok
returns-in-Err-None-clause-ok c =
    let h = c.in-Err-None.ensures in
    let T : Option ℕ → Type 0 = λ r. TellsDone h.0 r c.args.out.now c.judge_datagram.new.out in
    let P : Server → Type 0 = λ s. HearsAs c.args.from c.args.bytes.now c.args.now Nothing c.args.out.now c.judge_datagram.new.out s c.judge_datagram.new.self in
    subst P c.self.view_is
    (record { heard = h.0; hears = settled h.1; tells = tells_nothing h.0 c.args.out.now c.judge_datagram.new.out (subst T c.in-Err-None.field-0-is h.2) })

pub returns-in-Err-None-clause-memory : goal.returns-in-Err-None-clause-memory
returns-in-Err-None-clause-memory c =
    let h = c.in-Err-None.ensures in
    let T : Option ℕ → Type 0 = λ r. TellsDone h.0 r c.args.out.now c.judge_datagram.new.out in
    let P : Server → Type 0 = λ s. SettlesAs c.args.from c.args.bytes.now c.args.now Nothing c.args.out.now c.judge_datagram.new.out s c.judge_datagram.new.self in
    inr (subst P c.self.view_is
    (record { heard = h.0; settles = h.1; tells = tells_nothing h.0 c.args.out.now c.judge_datagram.new.out (subst T c.in-Err-None.field-0-is h.2) }))

pub returns-in-Err-Some-clause-ok : goal.returns-in-Err-Some-clause-ok
returns-in-Err-Some-clause-ok c =
    let h = c.in-Err-Some.ensures in
    let T : Option ℕ → Type 0 = λ r. TellsDone h.0 r c.args.out.now c.judge_datagram.new.out in
    let P : Server → Type 0 = λ s. HearsAs c.args.from c.args.bytes.now c.args.now (Send c.in-Err-Some.size) c.args.out.now c.judge_datagram.new.out s c.judge_datagram.new.self in
    rw c.in-Err-Some.field-0-is (subst P c.self.view_is
    (record { heard = h.0; hears = settled h.1; tells = tells_send h.0 c.in-Err-Some.size c.args.out.now c.judge_datagram.new.out (subst T c.in-Err-Some.field-0-is h.2) }))

pub returns-in-Err-Some-clause-memory : goal.returns-in-Err-Some-clause-memory
returns-in-Err-Some-clause-memory c =
    let h = c.in-Err-Some.ensures in
    let T : Option ℕ → Type 0 = λ r. TellsDone h.0 r c.args.out.now c.judge_datagram.new.out in
    let P : Server → Type 0 = λ s. SettlesAs c.args.from c.args.bytes.now c.args.now (Send c.in-Err-Some.size) c.args.out.now c.judge_datagram.new.out s c.judge_datagram.new.self in
    rw c.in-Err-Some.field-0-is (inr (subst P c.self.view_is
    (record { heard = h.0; settles = h.1; tells = tells_send h.0 c.in-Err-Some.size c.args.out.now c.judge_datagram.new.out (subst T c.in-Err-Some.field-0-is h.2) })))

pub read-requires-clause-head : goal.read-requires-clause-head
read-requires-clause-head c = λ i. record { kind = c.of.ensures i; id = c.in-Ok.message.id; token = c.of-in-Ok.ensures i }

pub read-requires-clause-path : goal.read-requires-clause-path
read-requires-clause-path c =
    path_is_short (message_of c.in-Ok.message) c.args.bytes.now LONGEST_DATAGRAM URI_PATH c.in-Ok.ensures.0.spells c.requires.length

pub returns-in-Ok-clause-ok : goal.returns-in-Ok-clause-ok
returns-in-Ok-clause-ok c =
    let h = c.in-Ok.ensures in
    let m = message_of c.in-Ok.message in
    let T : List ℕ → Type 0 = λ out. ReadsAs c.args.from c.args.now m c.in-Ok.slot c.read.result out c.read.new.out c.judge_datagram.new.self c.read.new.self in
    let reads = subst T h.2 c.read.ensures.ok in
    let P : Server → Type 0 = λ s. HearsAs c.args.from c.args.bytes.now c.args.now c.read.result c.args.out.now c.read.new.out s c.read.new.self in
    subst P c.self.view_is (record { heard = reads.0; hears = admitted m c.in-Ok.slot c.judge_datagram.new.self h.0 reads.1; tells = reads.2 })

pub returns-in-Ok-clause-memory : goal.returns-in-Ok-clause-memory
returns-in-Ok-clause-memory c =
    let P : Server → Type 0 = λ s. IsAdmitted c.args.from c.args.bytes.now c.args.now s in
    inl (subst P c.self.view_is
    (record { message = message_of c.in-Ok.message; slot = c.in-Ok.slot; after = c.judge_datagram.new.self; met = c.in-Ok.ensures.0 }))

-- a datagram takes the exchanges to no later moment than its own
pub returns-in-Err-None-clause-moment : goal.returns-in-Err-None-clause-moment
returns-in-Err-None-clause-moment c = let h = returns-in-Err-None-clause-ok c in hears_moment c.args.from c.args.bytes.now c.args.now h.heard _ _ h.hears c.requires.moment

pub returns-in-Err-Some-clause-moment : goal.returns-in-Err-Some-clause-moment
returns-in-Err-Some-clause-moment c = let h = returns-in-Err-Some-clause-ok c in hears_moment c.args.from c.args.bytes.now c.args.now h.heard _ _ h.hears c.requires.moment

pub returns-in-Ok-clause-moment : goal.returns-in-Ok-clause-moment
returns-in-Ok-clause-moment c = let h = returns-in-Ok-clause-ok c in hears_moment c.args.from c.args.bytes.now c.args.now h.heard _ _ h.hears c.requires.moment
