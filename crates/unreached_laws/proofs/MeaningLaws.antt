-- The laws of the module, and of the module with bases that is made of what is left of it.
use Rattle.ir_cfg.proofs.KeepsSource.{source_after}
use Rattle.base_laws.proofs.MeaningLaws as bases
use Rattle.unreached_laws.specs.Statements.{BasesKeepReachedMeaning, UnreachedAreNoMatter}
use Rattle.unreached_laws.proofs.ModuleLaws.{same_meaning}

pub unreached_are_no_matter : UnreachedAreNoMatter
unreached_are_no_matter = same_meaning

pub bases_keep_reached_meaning : BasesKeepReachedMeaning
bases_keep_reached_meaning content after source drops input go bound outcome =
    let first = same_meaning content after source drops input go bound outcome in
    let second = bases.bases_keep_meaning after (source_after content after source drops) input go bound outcome in
    (λ given. second.0 (first.0 given), λ given. first.1 (second.1 given))
