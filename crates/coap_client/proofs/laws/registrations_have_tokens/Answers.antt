-- The laws are lemmas.
use Rattle.coap_client.proofs.RegistrationLaws.{registration_is_observed}
use Rattle.coap_client.proofs.TokenLaws.{token_is_new_or_observed, registrations_differ, no_value_yet}
use Rattle.coap_client.proofs.laws.registrations_have_tokens.Goals as goal

pub returns : goal.returns
returns c = record { observed = registration_is_observed; token = token_is_new_or_observed; differ = registrations_differ; value = no_value_yet }
