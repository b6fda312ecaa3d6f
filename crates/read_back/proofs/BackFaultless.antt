-- The lines that a module is printed as have no fault of their own.
use Rattle.std.proofs.Common.{◌≡◌, ℕ, List}
use Rattle.ir_ast.specs.declared.modules.Form.{Form}
use Rattle.ir_ast.specs.declared.modules.Form.TheVariants.{Source, Rewritten}
use Rattle.ir_ast.specs.Modules.{ModuleContent}
use Rattle.ir_cfg.specs.TypedModules.{IsTypedModule}
use Rattle.ir_lines.specs.Statements.{Line}
use Rattle.ir_lines.specs.Faults.NameTwice.{NameTwice, layout_again, head_again, declares_defined, label_again, value_again}
use Rattle.ir_lines.specs.Faults.Reserved.{Reserved, defines_external, declares_helper, names_value, names_label}
use Rattle.ir_resolve.specs.TextFaults.{HasTextFault, name_twice, unknown_name, misspelled, case_width, no_strategy, unknown_extern, bad_layout, reserved, pointer_cast, miscounted}
use Rattle.read_back.specs.Said.{said_by}
use Rattle.read_back.proofs.BackLines.{said}
use Rattle.read_back.proofs.BackModules.{IsShaped, shaped_of}
use Rattle.read_back.proofs.BackFaults.{no_strategy-clear, bad_layout-clear, pointer_cast-clear, unknown_extern-clear, declares_free}
use Rattle.read_back.proofs.NotCalled.{not_called_in}
use Rattle.read_back.proofs.BackTops.{layouts_once, labels_once, values_once, definitions_free, values_free, labels_free}
use Rattle.read_back.proofs.BackHeads.{declares_defined-clear}
use Rattle.read_back.proofs.BackOnce.{heads_once}
use Rattle.read_back.proofs.BackUnknown.{unknown_name-clear}
use Rattle.read_back.proofs.BackCases.{case_width-clear}
use Rattle.read_back.proofs.BackSpelled.{misspelled-clear, miscounted-clear}

names_clear : (content : ModuleContent) → IsShaped content → (lines : List Line) → said lines ≡ said_by content → (line : ℕ) → NameTwice lines line → ⊥
names_clear content shaped lines e line (layout_again r) = layouts_once content shaped lines e line r
names_clear content shaped lines e line (head_again r) = heads_once content shaped lines e line r
names_clear content shaped lines e line (declares_defined d) = declares_defined-clear content shaped lines e line d
names_clear content shaped lines e line (label_again func c r) = labels_once content shaped lines e func c line r
names_clear content shaped lines e line (value_again func c r) = values_once content shaped lines e func c line r

reserved_clear : (form : Form) (content : ModuleContent) → IsTypedModule form content → (lines : List Line) → said lines ≡ said_by content
    → (line : ℕ) → Reserved form lines line → ⊥
reserved_clear form content typed lines e line (defines_external func c at external) = definitions_free content (shaped_of form content typed) lines e func c external
reserved_clear Source content typed lines e line (declares_helper is answer name parameters c h) = declares_free content (not_called_in content typed) lines e line answer name parameters c h
reserved_clear Source content typed lines e line (names_value is func one c d at inserted) = values_free content typed lines e func c one d inserted
reserved_clear Source content typed lines e line (names_label is func one c d at inserted) = labels_free content typed lines e func c one d inserted
reserved_clear Rewritten content typed lines e line (declares_helper is answer name parameters c h) = absurd (let bad : Rewritten ≡ Source = is in cc)
reserved_clear Rewritten content typed lines e line (names_value is func one c d at inserted) = absurd (let bad : Rewritten ≡ Source = is in cc)
reserved_clear Rewritten content typed lines e line (names_label is func one c d at inserted) = absurd (let bad : Rewritten ≡ Source = is in cc)

pub no_text_fault : (form : Form) (content : ModuleContent) → IsTypedModule form content → (lines : List Line) → said lines ≡ said_by content
    → (line code : ℕ) → ¬ HasTextFault form lines line code
no_text_fault form content typed lines e line code f = by code f
  where
    shaped : IsShaped content
    shaped = shaped_of form content typed

    by : (code : ℕ) → HasTextFault form lines line code → ⊥
    by code (name_twice t) = names_clear content shaped lines e line t
    by code (unknown_name t) = unknown_name-clear content shaped lines e line t
    by code (misspelled t) = misspelled-clear form content shaped lines e line t
    by code (case_width t) = case_width-clear content lines e line t
    by code (no_strategy t) = no_strategy-clear content lines e line t
    by code (unknown_extern t) = unknown_extern-clear content lines e line t
    by code (bad_layout t) = bad_layout-clear content shaped lines e line t
    by code (reserved t) = reserved_clear form content typed lines e line t
    by code (pointer_cast t) = pointer_cast-clear content lines e line t
    by code (miscounted is t) = miscounted-clear form content shaped lines e line t
