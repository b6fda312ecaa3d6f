-- What is proved of the bases of the function with bases, in the manual's terms.
use Rattle.std.specs.Prelude.{ℕ, ◌-◌}
use Rattle.std.specs.List.{All}
use Rattle.sp_ids.specs.declared.ids.ValueId.{ValueId}
use Rattle.ir_ast.specs.Bases.{HasBases, IsBaseTable}
use Rattle.ir_ast.specs.Modules.{ModuleContent}
use Rattle.ir_cfg.specs.Paths.{IsReached}
use Rattle.ir_cfg.specs.SourceModules.{IsSourceModule}
use Rattle.base_forms.specs.Polls.{placed}
use Rattle.base_forms.specs.Based.{base_table, based}

-- the base of a derived phi or select is the value directly before it
abbrev pub before : ℕ → ValueId
before value = record { 0 = value - 1 }

-- in each function of a module without unreached blocks, derived phis and selects have their bases, and the table has the
-- base of each value
abbrev pub TableHasBases : Type 0
TableHasBases = (content : ModuleContent) → IsSourceModule content
    → All (λ func. IsReached func → HasBases (based (placed func)) before × IsBaseTable (based (placed func)) before (base_table (placed func))) content.funcs
