-- At the opening the machine is what it has of the target meaning's state.
use Rattle.std.proofs.Common.{◌≡◌, ℕ, ℤ, zero, suc, ◌-◌, ◌&&◌, true, false, List, [], ◌∷◌, length, get_or, map, replicate, refl, sym, ap, ◌∙◌, arith, Option, Some, None}
use Rattle.std.specs.Prelude.{slice_get, slice_index}
use Rattle.std.specs.Option.{option_map_or}
use Rattle.std.proofs.lemmas.Bool.{true≢false}
use Rattle.std.proofs.lemmas.List.{length-replicate}
use Rattle.std.proofs.lemmas.List.Elements.{All-cons, All-nil}
use Rattle.ir_ast.specs.declared.funcs.Arg.{Arg}
use Rattle.ir_ast.specs.declared.ops.Operand.{Operand}
use Rattle.ir_ast.specs.declared.ops.Operand.TheVariants as operands
use Rattle.ir_ast.specs.Funcs.{Function}
use Rattle.ir_ast.specs.Layouts.{ObjectLayout}
use Rattle.ir_ast.specs.Modules.{ModuleContent}
use Rattle.ir_ast.specs.Objects.{Datum, number}
use Rattle.ir_ast.specs.Types.{is_pointer}
use Rattle.ir_ast.specs.Values.{value_types}
use Rattle.frame_forms.specs.FrameSizes.{frame_words}
use Rattle.ir_cfg.specs.TargetModules.{IsTargetModule}
use Rattle.map_bytes.specs.Maps.{StackMap}
use Rattle.move_plan.specs.declared.plan_lines.PlanLine.{PlanLine}
use Rattle.move_plan.specs.Plans.{go}
use Rattle.moving_heap.specs.Settled.{AreSettled}
use Rattle.object_meaning.specs.Lines.{insts_in, main_of, register_count, registers_of}
use Rattle.object_meaning.specs.Outcomes.{opening}
use Rattle.object_meaning.specs.Registers.{nothing, value, number_in, pointer_in}
use Rattle.object_meaning.specs.States.{Setting}
use Rattle.object_meaning.specs.TargetRuns.{plain_lines, target_setting}
use Rattle.pair_facts.specs.declared.bases.Base.TheVariants.{Named}
use Rattle.pair_facts.specs.Pairs.{at_entry, own_pairs}
use Rattle.pair_facts.specs.Paths.{start}
use Rattle.machine_meaning.specs.Code.{machinery_of, words_in}
use Rattle.machine_meaning.specs.MachineRuns.{machine_opening}
use Rattle.machine_meaning.specs.Machines.{Machinery}
use Rattle.machine_meaning.specs.Relations.{word_in, IsPair}
use Rattle.moves_unseen.specs.Awaits.{AreAwaiting}
use Rattle.moves_unseen.specs.Frames.{AreWords, FrameWords, IsRunning}
use Rattle.moves_unseen.specs.Objects.{AreHeld}
use Rattle.moves_unseen.proofs.MainLaws.{main_found, register_for_each}
use Rattle.moves_unseen.specs.States.{Extra, Follows, machine_of}

none_settled : AreSettled []
none_settled = record {
  each = λ k d within. absurd (omega arith);
  within = omega arith;
  numbered = record { at = λ k d within. absurd (omega arith) };
  apart = refl;
}

none_held : (layouts : List ObjectLayout) → AreHeld layouts [] [] []
none_held layouts = record {
  settled = none_settled;
  stands_count = refl;
  contents_count = refl;
  sizes = λ place object stand here there. cc;
  each = λ place object content here there. cc;
}

zeros_are : (count : ℕ) → map number (replicate count 0) ≡ replicate count nothing
zeros_are zero = refl
zeros_are (suc count) = ap (λ (more : List Datum). nothing ∷ more) (zeros_are count)

zero_there : (count place : ℕ) → ◌≡◌ {A = ℕ} (get_or (replicate count 0) place 0) (number_in (get_or (replicate count nothing) place nothing))
zero_there zero place = refl
zero_there (suc count) zero = refl
zero_there (suc count) (suc place) = zero_there count place

-- only `null` has a pair where a function has no arguments
null_pair : (func : Function) (count : ℕ) → func.args ≡ [] → (derived base : Operand) → at_entry func derived (Named base) ≡ true
    → IsPair [] (pointer_in (value (replicate count nothing) derived)) (pointer_in (value (replicate count nothing) base)) (word_in (replicate count 0) derived) (word_in (replicate count 0) base)
null_pair func count none operands.Null operands.Null stood =
    record { heap = record { object = omega arith; offset = omega arith }; same = refl; first = refl; derived_is = refl; base_is = refl }
null_pair func count none operands.Null (operands.Value at) stood = cc
null_pair func count none operands.Null (operands.Int literal) stood = cc
null_pair func count none operands.Null (operands.Fun other) stood = cc
null_pair func count none (operands.Value at) base stood =
    absurd (true≢false (sym stood ∙ ap (λ (args : List Arg). option_map_or (λ (arg : Arg). is_pointer arg.ty) (slice_get args at.0) false && own_pairs at.0 (Named base)) none))
null_pair func count none (operands.Int literal) base stood = cc
null_pair func count none (operands.Fun other) base stood = cc

module _ (content : ModuleContent) (map_given : StackMap) (input : List ℤ) (plan : List PlanLine) (bound : ℕ) (main : Function)
    (found : slice_get content.funcs (main_of content) ≡ Some main) (args : main.args ≡ []) (registers : register_count content (main_of content) ≡ length (value_types main)) where
  abbrev setting : Setting
  setting = target_setting content (go plan) bound

  abbrev machinery : Machinery
  machinery = machinery_of content map_given plan bound

  abbrev count : ℕ
  count = register_count content (main_of content) - 0

  abbrev first_words : FrameWords
  first_words = record { words = replicate count 0; slots = replicate (words_in content (main_of content)) 0 }

  abbrev first_extra : Extra
  first_extra = record { running = first_words; below = []; tasks = [] ∷ []; heap = record { stands = []; contents = []; moves = [] } }

  opening_is : (machine_opening machinery input).state ≡ machine_of machinery (opening setting input).state first_extra
  opening_is =
      ap (λ (all : List Datum). record (machine_opening machinery input).state {
        state = record (machine_opening machinery input).state.state { running = record (machine_opening machinery input).state.state.running { registers = all } };
      }) (sym (zeros_are count))

  whole : count ≡ length (value_types main)
  whole = (let same : count ≡ register_count content (main_of content) = omega arith in same) ∙ registers

  words_are : AreWords [] (value_types main) (at_entry main) (replicate count nothing) (replicate count 0)
  words_are = record {
    registers_count = length-replicate count nothing ∙ whole;
    words_count = length-replicate count 0 ∙ whole;
    numbers = λ place ty is plain. zero_there count place;
    pointers = null_pair main count args;
  }

  running_is : IsRunning content [] [] (opening setting input).state.running first_words
  running_is = record {
    func = main;
    place = 0;
    pairs = at_entry main;
    at = record {
      defined = found;
      arrived = record { front = at_entry main; arrives = start; is = refl };
      rest = ap (λ (one : Option Function). plain_lines (option_map_or (λ (defined : Function). slice_index (registers_of defined) 0) one 0) (option_map_or (λ (defined : Function). insts_in defined 0) one [])) found;
    };
    words = words_are;
    slots = length-replicate (words_in content (main_of content)) 0 ∙ ap (λ (one : Option Function). option_map_or frame_words one 0) found;
    guarded = λ check types before op. cc;
    chosen = λ select to before op managed gives. cc;
  }

  pub opening_follows : Follows content machinery (opening setting input).state (machine_opening machinery input).state
  opening_follows = record {
    extra = first_extra;
    is = opening_is;
    related = record {
      objects = none_held content.layouts;
      settled = refl;
      running = running_is;
      below = tt;
      tasks = (tt, tt);
      await = record {
        below = tt;
        tasks = All-cons (AreAwaiting None) [] [] tt (All-nil (AreAwaiting None));
        place = refl;
        runs = λ first. refl;
        waits = λ frame more is. absurd cc;
      };
    };
  }

-- of each target module
pub openings_follow : (content : ModuleContent) → IsTargetModule content → (map_given : StackMap) (input : List ℤ) (plan : List PlanLine) (bound : ℕ)
    → Follows content (machinery_of content map_given plan bound) (opening (target_setting content (go plan) bound) input).state
    (machine_opening (machinery_of content map_given plan bound) input).state
openings_follow content target map_given input plan bound =
    let has = ((target.typed).no_fault).main in
    let found = main_found content has in
    opening_follows content map_given input plan bound has.main found has.args (register_for_each content (main_of content) has.main found)
