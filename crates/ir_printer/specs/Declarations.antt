-- The declarations of the externals that a module calls, in the order in which they are printed.
use Rattle.std.specs.Prelude.{ℕ, Bool, nat_lt, List, [], ◌∷◌, ◌++◌, map, length, if◌then◌else◌, ◌||◌, codes, decimal}
use Rattle.std.specs.List.{flat_map, list_any, range_with_len}
use Rattle.ir_ast.specs.Layouts.{ObjectLayout}
use Rattle.ir_ast.specs.Funcs.{Function}
use Rattle.print_tables.specs.declared.externals.External.{External}
use Rattle.print_tables.specs.declared.externals.External.TheVariants.{New, Print, Read, TaskStart, Poll, Check, Same, StatepointFamily, RelocateFamily, ResultOf, ResultPointer}
use Rattle.ir_printer.specs.Names.{layout_name}
pub use Rattle.print_tables.specs.Externals.{is_callee, is_result, is_statepoints, is_relocates, is_call_of}
unfoldable pub use Rattle.print_tables.specs.Externals.{calls}

unfoldable pub new_words : List ℕ
new_words = codes "declare ptr addrspace(1) @gc_new."

unfoldable pub result_of_words : List ℕ
result_of_words = codes " @llvm.experimental.gc.result.i"

-- the declarations that are the same in each module
unfoldable pub fixed_declaration : External → List ℕ
fixed_declaration Print = codes "declare void @print_i64(i64)\n"
fixed_declaration Read = codes "declare i64 @read_i64()\n"
fixed_declaration TaskStart = codes "declare void @task_start(ptr, ptr addrspace(1))\n"
fixed_declaration Poll = codes "declare void @gc.safepoint_poll()\n"
fixed_declaration Check = codes "declare void @gc_check(ptr addrspace(1), ptr addrspace(1), i64)\n"
fixed_declaration Same = codes "declare i1 @gc_same(ptr addrspace(1), ptr addrspace(1), ptr addrspace(1), ptr addrspace(1))\n"
fixed_declaration StatepointFamily = codes "declare token @llvm.experimental.gc.statepoint.p0(i64, i32, ptr, i32, i32, ...)\n"
fixed_declaration RelocateFamily = codes "declare ptr addrspace(1) @llvm.experimental.gc.relocate.p1(token, i32, i32)\n"
fixed_declaration ResultPointer = codes "declare ptr addrspace(1) @llvm.experimental.gc.result.p1(token)\n"
fixed_declaration _ = []

abbrev pub declaration_text : List ObjectLayout → External → List ℕ
declaration_text layouts (New layout) = new_words ++ (layout_name layouts layout ++ codes "(i64)\n")
declaration_text layouts (ResultOf width) =
    codes "declare i" ++ (decimal width ++ (result_of_words ++ (decimal width ++ codes "(token)\n")))
declaration_text layouts external = fixed_declaration external

abbrev pub declaration_if_called : List ObjectLayout → List Function → External → List ℕ
declaration_if_called layouts funcs external =
    if calls funcs external then declaration_text layouts external else []

-- between `gc_new` of each layout and the results
unfoldable pub fixed_externals : List External
fixed_externals =
    Print ∷ Read ∷ TaskStart ∷ Poll ∷ Check ∷ Same ∷ StatepointFamily ∷ RelocateFamily ∷ []

-- the widths that an integer type may have
unfoldable pub integer_widths : List ℕ
integer_widths = range_with_len 1 64

-- all externals of a module with these layouts, in the order of their declarations
abbrev pub externals : List ObjectLayout → List External
externals layouts =
    map New (range_with_len 0 (length layouts))
    ++ (fixed_externals ++ (map ResultOf integer_widths ++ ResultPointer ∷ []))

unfoldable pub declarations_text : List ObjectLayout → List Function → List ℕ
declarations_text layouts funcs = flat_map (declaration_if_called layouts funcs) (externals layouts)

-- whether a layout or a declaration stands above the functions
unfoldable pub has_top : List ObjectLayout → List Function → Bool
has_top layouts funcs = nat_lt 0 (length layouts) || list_any (calls funcs) (externals layouts)
