use Rattle.base_definite.proofs.base_relations.TableInstance as laws
use Rattle.base_definite.proofs.base_relations.table_has_bases.Goals as goal

pub returns : goal.returns
returns c = laws.table_has_bases
