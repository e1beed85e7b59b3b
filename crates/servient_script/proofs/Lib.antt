mod HexTexts
mod FieldTexts
mod LineTexts
mod EventFields
mod ScriptTexts
pub mod MergeLaws
