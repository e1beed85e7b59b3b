pub mod HistoryLaws
pub mod IdLaws
pub mod RequestLaws
pub mod StepLaws
pub mod RegistrationLaws
pub mod TokenLaws
pub mod Taking
