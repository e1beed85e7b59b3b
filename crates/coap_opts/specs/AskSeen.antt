-- The view that contracts have of a request that `request_of` read (RFC 7252, section 5.8).
use Rattle.thing_ops.specs.Requests.{request_seen}
use Rattle.coap_opts.specs.declared.ask.CoapAsk.{CoapAsk}
use Rattle.coap_opts.specs.Reading.{AskSeen}

-- a request that was read, apart from where it lies in memory
abbrev pub ask_seen : CoapAsk → AskSeen
ask_seen a = record { request = request_seen a.request; observe = a.observe; block1 = a.block1; block2 = a.block2 }
