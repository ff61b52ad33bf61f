pub mod KebabLemmas
pub mod PackageNames
pub mod PrefixCode
pub mod Pieces
pub mod RegistryJsonLaws
pub mod JsonLemmas
