-- Code 8, which is judged over the paths of a module.
pub mod NotDefinite
