pub mod AddressLaws
pub mod BytesInTurns
pub mod SendingLaws
pub mod NamingLaws
pub mod ConnectionLaws
