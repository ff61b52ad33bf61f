pub mod Times
pub mod TimesLaws
pub mod TimeText
pub mod TimeTextLaws
pub mod TimeJson
