-- A registry's map, and the proofs on it.
-- maps over ways down a tree, their roots and paths; what an accepted proof says
pub use Rattle.warg_merkle.specs.SparseMap.Maps.{IsOwn, Leads, map_path, map_root}
-- what is put into a map, and how much stands there
pub use Rattle.warg_merkle.specs.SparseTree.Nodes.{Sets, map_count}
-- what stands in a registry's map, and the way of a log
pub use Rattle.warg_registry.specs.PrefixEncodings.{map_leaf_encoding_of}
pub use Rattle.warg_transparency.specs.MapTree.{leaves_of, way_of}
-- the short forms of proofs
pub use Rattle.warg_merkle.specs.MapProof.ShortForms.{IsShortForm, short_form_len}
