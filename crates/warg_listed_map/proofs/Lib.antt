mod ListedMapLemmas
mod PartingLemmas
