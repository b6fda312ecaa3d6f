use Rattle.rewriting_forms.specs.Names.{full_naming}
use Rattle.ssa_rebuild.proofs.RebuiltLaws.{versions_are}
use Rattle.ssa_rebuild.proofs.functions.rebuild.Goals as goal

pub returns-clause-content : goal.returns-clause-content
returns-clause-content c =
    let func = c.args.marked.before in
    let table = c.args.marked.table in
    let found = c.in_ok-versions.ensures in
    c.in_ok-func.ensures.content (full_naming func table) (versions_are func table (full_naming func table) c.in_ok-versions.versions found.joins.each found.rows found.entries)
