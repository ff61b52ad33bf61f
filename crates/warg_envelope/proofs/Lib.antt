pub mod EnvelopeReading
pub mod EnvelopeJsonLaws
