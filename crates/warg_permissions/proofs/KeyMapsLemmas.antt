pub mod AccessLaws
pub mod AuthorityDataLemmas
pub mod MapLaws
pub mod Missing
pub mod RightsLemmas
pub mod KeyLemmas
