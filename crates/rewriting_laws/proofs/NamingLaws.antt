-- The naming that the rewriting takes fits.
use Rattle.std.proofs.Common.{◌≡◌, ℕ, ◌<◌, true, List, length}
use Rattle.std.proofs.lemmas.Bool.{and_parts}
use Rattle.ir_ast.specs.declared.ops.Operand.{Operand}
use Rattle.ir_ast.specs.Funcs.{Function}
use Rattle.phi_webs.specs.Becomes.{becomes}
use Rattle.phi_webs.proofs.BecomesLaws.{becomes_is_removal}
use Rattle.rewriting_forms.specs.Liveness.{live_table}
use Rattle.rewriting_forms.specs.Names.{joined, joins_of, least_naming, naming_of, phis_of, same_name}
use Rattle.rewriting_laws.specs.Laws.{Fits, IsReached}
use Rattle.rewriting_laws.proofs.NameTests.{tells_names}
use Rattle.rewriting_laws.proofs.RemovalLaws.{join_inside, removal_fits}

pub least_fits : (func : Function) (table : List Operand) → IsReached func → Fits func table (least_naming func table) (live_table func table)
least_fits func table graph =
    removal_fits func table graph (becomes same_name (phis_of func table)) (becomes_is_removal same_name tells_names (phis_of func table))

pub least_inside : (func : Function) (table : List Operand) (b v : ℕ) → (least_naming func table).joins b v ≡ true → b < length func.blocks
least_inside func table b v joins =
    join_inside func table b v (and_parts (joins_of func table b v) (same_name (joined b v) (becomes same_name (phis_of func table) (joined b v))) joins).0

pub naming_fits : (func : Function) (table : List Operand) → IsReached func → Fits func table (naming_of func table) (live_table func table)
naming_fits = least_fits

pub naming_inside : (func : Function) (table : List Operand) (b v : ℕ) → (naming_of func table).joins b v ≡ true → b < length func.blocks
naming_inside = least_inside
