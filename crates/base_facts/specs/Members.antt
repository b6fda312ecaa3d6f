-- What the lines of a group give, by their instructions.
use Rattle.std.specs.Prelude.{ℕ, Bool, false, ◌==◌, ◌&&◌}
use Rattle.ir_ast.specs.declared.ops.Op.{Op}
use Rattle.ir_ast.specs.declared.ops.Op.TheVariants.{GcResult, GcRelocate}
use Rattle.ir_ast.specs.Types.{is_pointer}
use Rattle.object_meaning.specs.Lines.{Line}
use Rattle.pair_facts.specs.Pairs.{base_index, relocates_base}

-- the pairs of a member with a base that this line of the group gives
abbrev pub member_named : ℕ → Line → Op → ℕ → Line → Bool
member_named value line GcResult base given = is_pointer line.inst.ty && (value == base)
member_named value line GcRelocate base given = relocates_base (base_index line) given
member_named value line op base given = false
