-- The words of bundles by computation, as a check that the definitions say what is meant.
use Rattle.std.proofs.Common.{◌≡◌, refl, ◌^◌, ◌-◌, List, [], ◌∷◌, Some, None}
use Rattle.ir_ast.specs.declared.ops.Callee.TheVariants.{Poll}
use Rattle.ir_ast.specs.declared.ops.Op.TheVariants.{Statepoint}
use Rattle.ir_ast.specs.declared.ops.Operand.{Operand}
use Rattle.ir_ast.specs.declared.ops.Operand.TheVariants.{Int as Literal, Null}
use Rattle.ir_ast.specs.declared.types.Ty.{Ty}
use Rattle.ir_ast.specs.declared.types.Ty.TheVariants.{Int, Ptr, Token}
use Rattle.ir_ast.specs.Insts.{Instruction}
use Rattle.ir_ast.specs.Operands.{named}
use Rattle.frame_forms.specs.FrameSizes.{words_at}
use Rattle.frame_forms.specs.BundleWords.{BundleWords, bundle_word, bundles_from, deopt_words}

abbrev keeps : List Operand → List (Ty × Operand) → Instruction
keeps live bundle = record { result = Some []; op = Statepoint 2882400000 Poll []; ty = Token; operands = live; labels = []; bundle = bundle }

-- "deopt"(i64 %4, ptr addrspace(1) %3, i32 -5, ptr addrspace(1) null, i8 %5), "gc-live"(%2, %3, %3)
abbrev one : Instruction
one = keeps (named 2 ∷ named 3 ∷ named 3 ∷ [])
    ((Int 64, named 4) ∷ (Ptr, named 3) ∷ (Int 32, Literal (2 ^ 32 - 5)) ∷ (Ptr, Null) ∷ (Int 8, named 5) ∷ [])

-- the pointer is in the word of its first entry, the integers are in the two behind the three entries
words : deopt_words one ≡ Some 3 ∷ Some 1 ∷ None ∷ None ∷ Some 4 ∷ []
words = refl

all_words : words_at one ≡ 5
all_words = refl

-- "deopt"(ptr addrspace(1) %3), "gc-live"(null, %3)
behind_null : deopt_words (keeps (Null ∷ named 3 ∷ []) ((Ptr, named 3) ∷ [])) ≡ Some 1 ∷ []
behind_null = refl

-- a pointer that isn't an entry
no_entry : deopt_words (keeps (named 2 ∷ []) ((Ptr, named 3) ∷ [])) ≡ None ∷ []
no_entry = refl

-- of a function's instructions, those without a bundle have none
abbrev rows : List BundleWords
rows = bundles_from 0 (keeps [] [] ∷ one ∷ keeps (named 2 ∷ []) ((Int 1, named 0) ∷ []) ∷ [])

rows_are : rows ≡ record { place = 1; words = Some 3 ∷ Some 1 ∷ None ∷ None ∷ Some 4 ∷ [] } ∷ record { place = 2; words = Some 1 ∷ [] } ∷ []
rows_are = refl

looked_up : bundle_word rows 1 4 ≡ Some 4
looked_up = refl
