-- The steps of the loops that number registers.
use Rattle.std.proofs.Common.{◌≡◌, ℕ, ◌+◌, ◌<◌, List, [], ◌∷◌, ◌++◌, length, drop, get_or, sym, ap, ◌∙◌, append_assoc}
pub use Rattle.list_laws.proofs.Places.{drop_item as rest_at}
use Rattle.ir_ast.specs.Insts.{Instruction}
use Rattle.ir_ast.specs.Blocks.{BasicBlock}
use Rattle.flat_code.specs.declared.lines.Copied.{Copied}
use Rattle.object_meaning.specs.Lines.{numbered, following, after_all, first_registers}
use Rattle.flat_code.specs.Edges.{copy_of, copies_from}

pub after_more : (first next after : ℕ) (insts : List Instruction) (i : ℕ) (inst : Instruction) → i < length insts
    → inst ≡ get_or insts i inst → after ≡ following next inst → after_all next (drop i insts) ≡ after_all first insts
    → after_all after (drop (i + 1) insts) ≡ after_all first insts
after_more first next after insts i inst below read is so_far =
    ap (λ n. after_all n (drop (i + 1) insts)) is
    ∙ ap (after_all next) (sym (rest_at insts i inst below read)) ∙ so_far
