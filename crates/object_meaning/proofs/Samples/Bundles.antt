-- What a waiting frame shows at a trap.
use Rattle.std.proofs.Common.{ℕ, ◌-◌, ◌^◌, List, [], ◌∷◌, ◌++◌, refl, codes, pos, neg_ℤ}
use Rattle.std.specs.Fmt.{signed_decimal}
use Rattle.std.specs.List.{flat_map}
use Rattle.std.specs.Prelude.{decimal}
use Rattle.sp_ids.specs.declared.ends.End.TheVariants as ended
use Rattle.sp_ids.specs.declared.ends.Trap.TheVariants as traps
use Rattle.ir_ast.specs.declared.modules.Form.TheVariants as form
use Rattle.ir_ast.specs.declared.ops.Callee.TheVariants.{Read}
use Rattle.ir_ast.specs.declared.ops.Op.TheVariants.{Call, Udiv}
use Rattle.ir_ast.specs.declared.ops.Operand.TheVariants.{Null}
use Rattle.ir_ast.specs.declared.types.Ty.TheVariants.{Void, Int, Ptr}
use Rattle.ir_ast.specs.Insts.{Instruction}
use Rattle.ir_ast.specs.Modules.{ModuleContent}
use Rattle.ir_ast.specs.Objects.{number, pointer, null}
use Rattle.ir_ast.specs.Sizes.{laid, size_of}
use Rattle.object_meaning.specs.Effects.{newline}
use Rattle.object_meaning.specs.Outcomes.{Outcome, proceeds}
use Rattle.object_meaning.specs.SourceRuns.{SourceGives, no_go, source_setting}
use Rattle.object_meaning.specs.Steps.{step}
use Rattle.object_meaning.specs.Traces.{at_new, at_poll}
use Rattle.object_meaning.proofs.OutcomeLaws.{gives_within}
use Rattle.object_meaning.proofs.Samples.{module_of, function, value, literal, gives, new, call, field, return, return_void}

-- call void @u() [ "deopt"(i64 %x, ptr addrspace(1) %q, i32 -5, i64 5000000000, ptr addrspace(1) null) ]
abbrev shows : Instruction
shows = record (call 1) {
  bundle = (Int 64, value 2) ∷ (Ptr, value 1) ∷ (Int 32, literal (2 ^ 32 - 5)) ∷ (Int 64, literal 5000000000) ∷ (Ptr, Null) ∷ [];
}

abbrev bundles : ModuleContent
bundles = module_of form.Source
    (function (codes "main") (Int 64) []
    (new 1 ∷ field (value 0) 1 ∷ gives (Call Read []) (Int 64) [] ∷ shows ∷ return (literal 0) ∷ [])
    ∷ function (codes "u") Void [] (call 2 ∷ gives Udiv (Int 64) (literal 1 ∷ literal 0 ∷ []) ∷ return_void ∷ [])
    ∷ function (codes "f") Void [] (return_void ∷ []) ∷ [])

-- ! 1 @main 9 1+8 -5 5000000000 0
abbrev shown_words : List (List ℕ)
shown_words =
    signed_decimal (pos 9) ∷ (decimal 1 ++ codes "+" ++ decimal 8) ∷ signed_decimal (neg_ℤ (pos 5)) ∷ signed_decimal (pos 5000000000) ∷ signed_decimal (pos 0) ∷ []

abbrev shown_line : List ℕ
shown_line = codes "! " ++ decimal 1 ++ codes " @" ++ codes "main" ++ flat_map (λ word. codes " " ++ word) shown_words ++ newline

abbrev bundles_outcome : Outcome
bundles_outcome = record {
  lines = shown_line ∷ [];
  end = ended.Trap traps.Div;
  func = 1;
  steps = 3;
  events = 4;
  printed = 0;
  happened = at_poll ∷ at_new ∷ at_poll ∷ at_poll ∷ [];
  accesses = [];
  objects = record { layout = 0; count = 1; cells = number 0 ∷ pointer null ∷ [] } ∷ [];
}

bundles_give : SourceGives bundles (pos 9 ∷ []) no_go 1000 bundles_outcome
unfolding proceeds step laid size_of
bundles_give = gives_within (source_setting bundles no_go 1000) (pos 9 ∷ []) 20 bundles_outcome refl
