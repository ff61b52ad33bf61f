pub mod ListedMaps
