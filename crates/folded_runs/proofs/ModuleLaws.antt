-- A folded module gives what the module gives.
use Rattle.std.proofs.Common.{◌≡◌, ℕ, zero, suc, ◌+◌, ◌-◌, ◌<◌, ◌≤◌, Bool, true, false, not, if◌then◌else◌, List, [], ◌∷◌, length, map, refl, sym, ap, subst, ◌∙◌, arith}
use Rattle.std.specs.Prelude.{Option, Some, None, slice_get, slice_index, slice_index_or, codes, nat_lt, unwrap_or, ℤ}
use Rattle.std.specs.List.{AllZip, prefix_len}
use Rattle.std.specs.Option.{option_map, option_map_or}
use Rattle.std.specs.Str.{bytes_eq}
use Rattle.std.proofs.lemmas.Bool.Decides.{nat_tests}
use Rattle.std.proofs.lemmas.List.{length-append}
use Rattle.std.proofs.lemmas.Option.{none-some}
use Rattle.list_laws.proofs.Places.{get_some}
use Rattle.sp_ids.specs.declared.ends.End.{End}
use Rattle.ir_ast.specs.declared.ops.Operand.{Operand}
use Rattle.ir_ast.specs.Blocks.{BasicBlock}
use Rattle.ir_ast.specs.Funcs.{Function, instructions_of}
use Rattle.ir_ast.specs.Layouts.{ObjectLayout}
use Rattle.ir_ast.specs.Modules.{ModuleContent}
use Rattle.ir_ast.specs.Values.{definitions_of}
use Rattle.ir_cfg.specs.SourceModules.{IsSourceModule}
use Rattle.object_meaning.specs.Effects.{Progress}
use Rattle.object_meaning.specs.Lines.{Line, first_registers, insts_in, lines_from, lines_of, main_of, poll, register_count, registers_of}
use Rattle.object_meaning.specs.Outcomes.{opening, proceeds}
use Rattle.object_meaning.specs.Runs.{Reaches}
use Rattle.object_meaning.specs.SourceRuns.{source_setting}
use Rattle.object_meaning.specs.States.{State}
use Rattle.object_meaning.specs.Texts.{function_name}
use Rattle.object_meaning.proofs.LineLaws.{last_register}
use Rattle.object_meaning.proofs.GivenLaws.{after_is, definition_count}
use Rattle.base_laws.proofs.FormLaws.{phi_splits}
use Rattle.folded_forms.specs.Folded.{Table, folded, folded_blocks, folded_insts, stays}
use Rattle.trimmed_laws.specs.Trims.{IsTrim, Trim}
use Rattle.trimmed_laws.specs.Trimmed.{FrameReads, IsTrimmed, Trimmed, no_lines, stays as line_stays}
use Rattle.trimmed_laws.proofs.ReadLaws.{reads_itself}
use Rattle.trimmed_laws.proofs.TrimLaws.{trimmed_give_the_same}
use Rattle.folded_source.specs.Statements.{IsUnder, ModuleIsUnder}
use Rattle.folded_runs.specs.Statements.{GiveTheSame}
use Rattle.folded_source.proofs.DerivedLaws.{counted_less, counted_same}
use Rattle.folded_source.proofs.PlaceLaws.{folded_block}
use Rattle.folded_source.proofs.ValueLaws.{counted, counted_argument}
use Rattle.folded_runs.proofs.BlockCounts.{block_folded, count_index, last_index, registers_folded}
use Rattle.folded_runs.proofs.CutLaws.{block_cut, no_groups, poll_stays, trim_found, trimmed_from}
use Rattle.folded_runs.proofs.FoldCuts.{IsCutBy, SourceFunction, all_cut, calls, source_function, trims}

-- ---- the functions of both modules, by number

-- the table of each function
abbrev pub tables_of : (Kind : Function → Table → Type 0) (funcs others : List Function) → AllZip (IsUnder Kind) funcs others → List Table
tables_of Kind [] [] all = []
tables_of Kind [] (other ∷ others) all = []
tables_of Kind (func ∷ funcs) [] all = []
tables_of Kind (func ∷ funcs) (other ∷ others) all = (all.0).table ∷ tables_of Kind funcs others all.1

pub record FoldedAt (Kind : Function → Table → Type 0) (table : Table) (func : Function) (others : List Function) (number : ℕ) : Type 0 where
  pub kind : Kind func table
  pub found : slice_get others number ≡ Some (folded func table)

pub folded_at : (Kind : Function → Table → Type 0) (funcs others : List Function) (all : AllZip (IsUnder Kind) funcs others) (number : ℕ) (func : Function) → slice_get funcs number ≡ Some func
    → FoldedAt Kind (slice_index_or (tables_of Kind funcs others all) number []) func others number
folded_at Kind [] [] all number func found = absurd (none-some func found)
folded_at Kind [] (other ∷ others) all number func found = absurd all
folded_at Kind (first ∷ funcs) [] all number func found = absurd all
folded_at Kind (first ∷ funcs) (other ∷ others) all zero func found =
    let same : first ≡ func = cc in
    subst (λ (f : Function). FoldedAt Kind (all.0).table f (other ∷ others) 0) same (record { kind = (all.0).holds; found = ap (λ (f : Function). Some f) (all.0).is })
folded_at Kind (first ∷ funcs) (other ∷ others) all (suc number) func found =
    let rest = folded_at Kind funcs others all.1 number func found in
    record { kind = rest.kind; found = rest.found }

none_at : (Kind : Function → Table → Type 0) (funcs others : List Function) → AllZip (IsUnder Kind) funcs others → (number : ℕ) → slice_get funcs number ≡ None → slice_get others number ≡ None
none_at Kind [] [] all number none = refl
none_at Kind [] (other ∷ others) all number none = absurd all
none_at Kind (first ∷ funcs) [] all number none = absurd all
none_at Kind (first ∷ funcs) (other ∷ others) all zero none = absurd cc
none_at Kind (first ∷ funcs) (other ∷ others) all (suc number) none = none_at Kind funcs others all.1 number none

abbrev is_main : Function → Bool
is_main func = bytes_eq func.name (codes "main")

before_main : (Kind : Function → Table → Type 0) (funcs others : List Function) → AllZip (IsUnder Kind) funcs others
    → (prefix_len (λ func. not (is_main func)) others ≡ prefix_len (λ func. not (is_main func)) funcs) × (length others ≡ length funcs)
before_main Kind [] [] all = (refl, refl)
before_main Kind [] (other ∷ others) all = absurd all
before_main Kind (first ∷ funcs) [] all = absurd all
before_main Kind (first ∷ funcs) (other ∷ others) all =
    let rest = before_main Kind funcs others all.1 in
    let name : is_main other ≡ is_main first = ap is_main (all.0).is in (
      ap (λ (b : Bool). if not b then 1 + prefix_len (λ func. not (is_main func)) others else 0) name
          ∙ ap (λ (n : ℕ). if not (is_main first) then 1 + n else 0) rest.0,
      ap suc rest.1,
    )

-- ---- one function

module _ (layouts : List ObjectLayout) (func : Function) (table : Table) (stands : Operand → Operand) (cut : IsCutBy layouts func table stands) where
  few_arguments : length func.args ≤ length (definitions_of func)
  few_arguments = let count = definition_count func in omega arith

  pub is_trim : IsTrim (trim_found (Some func) table stands)
  is_trim = record {
    apart = λ one other one_has other_has same. counted_same table one other one_has.1 other_has.1 same;
    within = λ register has. counted_less table register (length (definitions_of func)) has.1 has.0;
    few_arguments = few_arguments;
    arguments = λ register below. (cut.arguments register below, counted_argument func table cut.arguments register (omega arith));
  }

pub no_trim : (table : Table) (stands : Operand → Operand) → IsTrim (trim_found None table stands)
no_trim table stands = record {
  apart = λ one other one_has other_has same. same;
  within = λ register has. has.0;
  few_arguments = omega arith;
  arguments = λ register below. (refl, refl);
}

registers_now : (func : Function) (table : Table) → ((value : ℕ) → value < length func.args → stays table value ≡ true) → registers_of (folded func table) ≡ map (counted table) (registers_of func)
registers_now func table all =
    ap (λ (n : ℕ). first_registers n (folded_blocks table (length func.args) func.blocks)) (sym (counted_argument func table all (length func.args) (omega arith))) ∙ registers_folded table (length func.args) func.blocks

module _ (layouts : List ObjectLayout) (content : ModuleContent) (tables : ℕ → Table) (stands : ℕ → Operand → Operand) (func : Function) (is : SourceFunction content func) (table : Table)
    (standing : Operand → Operand) (cut : IsCutBy content.layouts func table standing) where
  abbrev TrimmedSo : List Line → List Line → Type 0
  TrimmedSo = Trimmed content.layouts (calls content tables stands) (trim_found (Some func) table standing)

  -- the lines of one of its blocks
  pub block_trimmed : (number : ℕ) → TrimmedSo (lines_from number (slice_index (registers_of func) number) (insts_in func number))
      (lines_from number (slice_index (registers_of (folded func table)) number) (insts_in (folded func table) number))
  block_trimmed number = by (slice_get func.blocks number) refl
    where
      start : slice_index (registers_of (folded func table)) number ≡ counted table (slice_index (registers_of func) number)
      start = ap (λ (registers : List ℕ). slice_index registers number) (registers_now func table cut.arguments) ∙ count_index table (registers_of func) number

      block_now : (here : Option BasicBlock) → slice_get func.blocks number ≡ here
          → slice_get (folded func table).blocks number ≡ option_map (folded_block table (slice_index (registers_of func) number)) here
      block_now here found =
          block_folded table (length func.args) number func.blocks ∙ ap (option_map (folded_block table (slice_index (registers_of func) number))) found

      by : (here : Option BasicBlock) → slice_get func.blocks number ≡ here → TrimmedSo (lines_from number (slice_index (registers_of func) number) (insts_in func number))
          (lines_from number (slice_index (registers_of (folded func table)) number) (insts_in (folded func table) number))
      by None found =
          subst (λ (each : Option BasicBlock). TrimmedSo (lines_from number (slice_index (registers_of func) number) (option_map_or (λ block. block.insts) each []))
          (lines_from number (slice_index (registers_of (folded func table)) number) (insts_in (folded func table) number))) (sym found)
          (subst (λ (each : Option BasicBlock). TrimmedSo [] (lines_from number (slice_index (registers_of (folded func table)) number) (option_map_or (λ block. block.insts) each [])))
          (sym (block_now None found)) no_lines)
      by (Some block) found =
          let lead = phi_splits block.insts (λ before after each whole one. ((is.faultless).phis number block before after each found whole one).first) in
          let lines = trimmed_from content.layouts (calls content tables stands) func table standing number (slice_index (registers_of func) number) block.insts
          (block_cut content.layouts (calls content tables stands) func table standing (length func.args) number func.blocks block found
          (all_cut content tables stands func is table standing cut)) lead in
          subst (λ (each : Option BasicBlock). TrimmedSo (lines_from number (slice_index (registers_of func) number) (option_map_or (λ block. block.insts) each []))
          (lines_from number (slice_index (registers_of (folded func table)) number) (insts_in (folded func table) number))) (sym found)
          (subst (λ (each : Option BasicBlock). TrimmedSo (lines_from number (slice_index (registers_of func) number) block.insts)
          (lines_from number (slice_index (registers_of (folded func table)) number) (option_map_or (λ block. block.insts) each []))) (sym (block_now (Some block) found))
          (subst (λ (n : ℕ). TrimmedSo (lines_from number (slice_index (registers_of func) number) block.insts)
          (lines_from number n (folded_insts table (slice_index (registers_of func) number) block.insts))) (sym start) lines))

  pub front_trimmed : (one other : List Line) → TrimmedSo one other → TrimmedSo (poll ∷ one) (poll ∷ other)
  front_trimmed one other further = line_stays poll None one other (poll_stays content.layouts (calls content tables stands) func table standing) further

-- ---- the module

-- what a kind of tables must have: each is as asked, with what stands for operands in the runs, which read what they read
pub record IsSound (Kind : Function → Table → Type 0) (stands : Table → Operand → Operand) : Type 0 where
  pub cut : (content : ModuleContent) (func : Function) → SourceFunction content func → (table : Table) → Kind func table → IsCutBy content.layouts func table (stands table)
  pub reads : (content : ModuleContent) → IsSourceModule content → (go : ℕ → Option ℕ) (bound number : ℕ) (func : Function) → slice_get content.funcs number ≡ Some func
      → (table : Table) → Kind func table → (input : List ℤ) (now : Progress State)
      → Reaches {E = End} (proceeds (source_setting content go bound)) (opening (source_setting content go bound) input) now → (now.state.running).func ≡ number
      → FrameReads (trim_found (Some func) table (stands table)) (source_setting content go bound) now.state.running

module _ (Kind : Function → Table → Type 0) (stands : Table → Operand → Operand) (sound : IsSound Kind stands) (content after : ModuleContent) (source : IsSourceModule content)
    (folds : ModuleIsUnder Kind content after) where
  abbrev tables : ℕ → Table
  tables number = slice_index_or (tables_of Kind content.funcs after.funcs folds.functions) number []

  abbrev standing : ℕ → Operand → Operand
  standing number = stands (tables number)

  abbrev all_trims : ℕ → Trim
  all_trims = trims content tables standing

  at : (number : ℕ) (func : Function) → slice_get content.funcs number ≡ Some func → FoldedAt Kind (tables number) func after.funcs number
  at number func found = folded_at Kind content.funcs after.funcs folds.functions number func found

  cut_at : (number : ℕ) (func : Function) → slice_get content.funcs number ≡ Some func → IsCutBy content.layouts func (tables number) (standing number)
  cut_at number func found = sound.cut content func (source_function content source number func found) (tables number) (at number func found).kind

  trim_at : (number : ℕ) (here : Option Function) → slice_get content.funcs number ≡ here → IsTrim (trim_found here (tables number) (standing number))
  trim_at number None found = no_trim (tables number) (standing number)
  trim_at number (Some func) found = is_trim content.layouts func (tables number) (standing number) (cut_at number func found)

  abbrev lines_found : Option Function → ℕ → List Line
  lines_found here block =
      lines_from block (option_map_or (λ defined. slice_index (registers_of defined) block) here 0) (option_map_or (λ defined. insts_in defined block) here [])

  abbrev TrimmedAt : Option Function → ℕ → List Line → List Line → Type 0
  TrimmedAt here number = Trimmed content.layouts (calls content tables standing) (trim_found here (tables number) (standing number))

  blocks_at : (number block : ℕ) (here : Option Function) → slice_get content.funcs number ≡ here → TrimmedAt here number (lines_found here block) (lines_of after number block)
  blocks_at number block None found =
      subst (λ (there : Option Function). TrimmedAt None number [] (lines_found there block)) (sym (none_at Kind content.funcs after.funcs folds.functions number found)) no_lines
  blocks_at number block (Some func) found =
      subst (λ (there : Option Function). TrimmedAt (Some func) number (lines_found (Some func) block) (lines_found there block)) (sym (at number func found).found)
      (block_trimmed content.layouts content tables standing func (source_function content source number func found) (tables number) (standing number) (cut_at number func found) block)

  front_at : (number : ℕ) (here : Option Function) → slice_get content.funcs number ≡ here → (trim_found here (tables number) (standing number)).renaming.called ≡ true
      → TrimmedAt here number (poll ∷ lines_found here 0) (poll ∷ lines_of after number 0)
  front_at number None found called = absurd cc
  front_at number (Some func) found called =
      front_trimmed content.layouts content tables standing func (source_function content source number func found) (tables number) (standing number) (cut_at number func found)
      (lines_found (Some func) 0) (lines_of after number 0) (blocks_at number 0 (Some func) found)

  abbrev count_found : Option Function → ℕ
  count_found here = option_map_or (λ defined. slice_index (registers_of defined) (length (registers_of defined) - 1)) here 0

  room_of : (func : Function) → slice_index (registers_of func) (length (registers_of func) - 1) ≡ length (definitions_of func)
  room_of func =
      let last = last_register (length func.args) func.blocks in
      let all = after_is (length func.args) (instructions_of func.blocks) in
      let count = definition_count func in
      omega (arith, last, all, count)

  room_at : (number : ℕ) (here : Option Function) → slice_get content.funcs number ≡ here → count_found here ≡ (trim_found here (tables number) (standing number)).renaming.room
  room_at number None found = refl
  room_at number (Some func) found = room_of func

  now_room_at : (number : ℕ) (here : Option Function) → slice_get content.funcs number ≡ here → register_count after number ≡ (trim_found here (tables number) (standing number)).renaming.now_room
  now_room_at number None found = ap count_found (none_at Kind content.funcs after.funcs folds.functions number found)
  now_room_at number (Some func) found =
      ap count_found (at number func found).found
      ∙ (ap (λ (registers : List ℕ). slice_index registers (length registers - 1)) (registers_now func (tables number) (cut_at number func found).arguments)
      ∙ (last_index (tables number) (registers_of func) ∙ ap (counted (tables number)) (room_of func)))

  names_at : (number : ℕ) (here : Option Function) → slice_get content.funcs number ≡ here → function_name after number ≡ option_map_or (λ defined. defined.name) here []
  names_at number None found = ap (λ (each : Option Function). option_map_or (λ defined. defined.name) each []) (none_at Kind content.funcs after.funcs folds.functions number found)
  names_at number (Some func) found = ap (λ (each : Option Function). option_map_or (λ defined. defined.name) each []) (at number func found).found

  main_same : main_of after ≡ main_of content
  main_same = let both = before_main Kind content.funcs after.funcs folds.functions in rw (both.0, both.1) refl

  some_functions : 0 < length content.funcs
  some_functions =
      let has = ((source.typed).no_fault).main in
      let long = length-append has.earlier (has.main ∷ has.later) in
      let same = ap length has.whole in
      omega arith

  called_at : (number : ℕ) → number < length content.funcs → (all_trims number).renaming.called ≡ true
  called_at number below =
      let some = get_some content.funcs number below in
      ap (λ (here : Option Function). (trim_found here (tables number) (standing number)).renaming.called) some.1

  main_called : (all_trims (main_of content)).renaming.called ≡ true
  main_called =
      by (prefix_len (λ func. not (is_main func)) content.funcs) (nat_lt (prefix_len (λ func. not (is_main func)) content.funcs) (length content.funcs)) refl
    where
      by : (place : ℕ) (b : Bool) → nat_lt place (length content.funcs) ≡ b → (all_trims (unwrap_or (if b then Some place else None) 0)).renaming.called ≡ true
      by place true less = called_at place (grind (arith, nat_tests))
      by place false less = called_at 0 some_functions

  reads_at : (go : ℕ → Option ℕ) (bound : ℕ) (input : List ℤ) (now : Progress State)
      → Reaches {E = End} (proceeds (source_setting content go bound)) (opening (source_setting content go bound) input) now
      → FrameReads (all_trims (now.state.running).func) (source_setting content go bound) now.state.running
  reads_at go bound input now reached = by (slice_get content.funcs (now.state.running).func) refl
    where
      by : (here : Option Function) → slice_get content.funcs (now.state.running).func ≡ here
          → FrameReads (trim_found here (tables (now.state.running).func) (standing (now.state.running).func)) (source_setting content go bound) now.state.running
      by None found = reads_itself (trim_found None [] (λ operand. operand)) refl (λ block. refl) (source_setting content go bound) now.state.running
      by (Some func) found =
          sound.reads content source go bound (now.state.running).func func found (tables (now.state.running).func) (at (now.state.running).func func found).kind input now reached refl

  is_trimmed : (go : ℕ → Option ℕ) (bound : ℕ) → IsTrimmed all_trims (source_setting content go bound) (source_setting after go bound)
  is_trimmed go bound = record {
    trim = λ number. trim_at number (slice_get content.funcs number) refl;
    front = λ number called. front_at number (slice_get content.funcs number) refl called;
    blocks = λ number block entered. blocks_at number block (slice_get content.funcs number) refl;
    room = λ number. room_at number (slice_get content.funcs number) refl;
    now_room = λ number. now_room_at number (slice_get content.funcs number) refl;
    names = λ number. names_at number (slice_get content.funcs number) refl;
    layouts = folds.layouts;
    main = main_same;
    main_called = main_called;
    go = λ event. refl;
    bound = refl;
    reads = λ input now reached. reads_at go bound input now reached;
    groups = λ input now there reached reached_there group here other_here is agree.
        absurd (no_groups (slice_get content.funcs (now.state.running).func) (tables (now.state.running).func) (standing (now.state.running).func) is.regroups);
  }

  pub give_the_same : GiveTheSame content after
  give_the_same input go bound outcome =
      trimmed_give_the_same all_trims (source_setting content go bound) (source_setting after go bound) (is_trimmed go bound) input outcome
