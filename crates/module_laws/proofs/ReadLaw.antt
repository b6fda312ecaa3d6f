-- The lines of a text that has readings are as a reader gives them.
use Rattle.std.proofs.Common.{ℕ, Ok, ◌≡◌, ◌+◌, ◌≤◌, refl, Bool, true, false, not, List, [], ◌∷◌, length, arith}
use Rattle.std.specs.List.{All, AllByRecursion, Contains, sum_by}
use Rattle.std.proofs.lemmas.List.{length-map}
use Rattle.std.proofs.lemmas.List.Sums.{count_by-le-length}
use Rattle.std.proofs.lemmas.List.Elements.{All-contains, All-from_recursion, recursion_from_All}
use Rattle.list_laws.proofs.Contents.{all_contained}
use Rattle.ir_reader.specs.declared.states.Place.TheVariants as places
use Rattle.ir_reader.specs.Text.{Numbered, opening, readings_in}
use Rattle.ir_reader.specs.declared.states.State.{State}
use Rattle.ir_reader.specs.declared.states.Counts.{Counts}
use Rattle.ir_ast.specs.declared.modules.Form.{Form}
use Rattle.ir_ast.specs.declared.modules.Form.TheVariants.{Source, Rewritten}
use Rattle.ir_lines.specs.Statements.{Line, lines_of}
use Rattle.ir_lines.specs.Parts.{is_of_group}
use Rattle.ir_lines.specs.Sections.{Definition, definitions_of, blocks_of}
use Rattle.ir_lines.specs.Modules.{known_of, block_of}
use Rattle.ir_lines.specs.TextLines.{Stand, stands_in}
use Rattle.ir_lines.specs.ReadLines.{IsReadFunction, IsReadLines, SaysRead, is_instruction, instruction_count}
use Rattle.module_build.specs.Placed.{IsPlacedFunction, IsPlaced}
use Rattle.module_build.proofs.Bodies.{Body}
use Rattle.module_laws.proofs.LawHeads.{SaysOf, says-defined}
use Rattle.module_build.proofs.Placing.{IsPlacedBody, definitions-placed, read-placed}
use Rattle.module_laws.proofs.Runs.{Runs}
use Rattle.module_laws.proofs.ReadTexts.{text-runs, text-lines}
use Rattle.module_laws.proofs.ReadTypes.{said_read}
use Rattle.module_laws.proofs.ReadCounts.{Run, NoGroups, IsCounted, runs-counted, layouts_total, functions_total, total_all, instructions_total, few_values_in, each_counted, relocates_few, cases_stand, has_line}

all_read : (xs : List Numbered) (s : State) → Runs s xs → AllByRecursion (λ l. SaysRead l.says) (lines_of xs)
all_read [] s run = tt
all_read (x ∷ xs) s run = (said_read x.said run.step.kept run.step.spelled run.step.fits, all_read xs run.next run.more)

no_groups : (form : Form) (ls : List Line) → form ≡ Source → AllByRecursion (λ l. stands_in form l.says ≡ true) ls → NoGroups ls
no_groups Source [] is own = tt
no_groups Source (l ∷ ls) is own = (not_group (is_of_group l.says) own.0, no_groups Source ls is own.1)
  where
    not_group : (b : Bool) → not b ≡ true → b ≡ false
    not_group false e = refl
    not_group true e = absurd (let bad : false ≡ true = e in cc)
no_groups Rewritten ls is own = absurd (let bad : Rewritten ≡ Source = is in cc)

-- the lines of a definition
no_groups_in : (lines : List Line) → NoGroups lines → (func : Definition) → Contains (definitions_of lines) func → NoGroups func.body
no_groups_in lines own func inside =
    recursion_from_All (λ (l : Line). is_of_group l.says ≡ false) func.body
    (All-contains (SaysOf (λ s. is_of_group s ≡ false)) (definitions_of lines) func
    (says-defined (λ s. is_of_group s ≡ false) lines (All-from_recursion (λ (l : Line). is_of_group l.says ≡ false) lines own)) inside).body

values_few : (form : Form) (lines : List Line) → (form ≡ Source → NoGroups lines) → (func : Definition) → Contains (definitions_of lines) func
    → Body places.Entry func.body → IsCounted form func → form ≡ Source → length func.arguments + instruction_count func.body ≤ 4096
values_few Source lines own func inside body counted is = few_values_in func body (no_groups_in lines (own refl) func inside) counted
values_few Rewritten lines own func inside body counted is = absurd (let bad : Rewritten ≡ Source = is in cc)

instructions_few : (form : Form) (lines : List Line) (c : Counts) → (form ≡ Source → NoGroups lines) → Stand places.Top lines → Run form c lines → form ≡ Source
    → sum_by (λ func. instruction_count func.body) (definitions_of lines) ≤ 65536
instructions_few Source lines c own placed run is =
    let t = instructions_total lines c (own refl) run in
    let u = total_all lines places.Top placed in
    omega arith
instructions_few Rewritten lines c own placed run is = absurd (let bad : Rewritten ≡ Source = is in cc)

function_read : (form : Form) (lines : List Line) → (form ≡ Source → NoGroups lines) → IsPlaced lines → All IsPlacedBody (definitions_of lines)
    → All (IsCounted form) (definitions_of lines) → (func : Definition) → Contains (definitions_of lines) func → IsReadFunction form func
function_read form lines own built placed counted func inside =
    let here = All-contains IsPlacedBody (definitions_of lines) func placed inside in
    let run = All-contains (IsCounted form) (definitions_of lines) func counted inside in
    let b = (All-contains (λ (one : Definition). IsPlacedFunction (known_of lines one) one) (definitions_of lines) func built.functions inside).small.few_blocks in
    record {
      has_line = has_line func.body here.body;
      cases = cases_stand func.body places.Entry here.body;
      values = values_few form lines own func inside here.body run;
      few_instructions = (let short = here.short in
          let few = count_by-le-length (λ (l : Line). is_instruction l.says) func.body in
          omega arith);
      few_relocates = relocates_few form func.body run.start run.run;
      few_blocks = omega (arith, b, length-map (blocks_of func) (block_of (known_of lines func)));
    }

pub read_law : (form : Form) (text : List ℕ) (xs : List Numbered) → length text ≤ 16777216 → readings_in form text ≡ Ok xs → IsReadLines form (lines_of xs)
read_law form text xs small read =
    let lines = lines_of xs in
    let text_lines = text-lines form text xs small read in
    let run = text-runs form text xs read in
    let counts = runs-counted xs (opening form) refl run in
    let placed = definitions-placed lines places.Top text_lines.placed text_lines.fit text_lines.few in
    let built = read-placed form lines text_lines in
    let own : form ≡ Source → NoGroups lines = λ is. no_groups form lines is (recursion_from_All (λ (l : Line). stands_in form l.says ≡ true) lines text_lines.own) in
    record {
      says = All-from_recursion (λ (l : Line). SaysRead l.says) lines (all_read xs (opening form) run);
      own = λ is. All-from_recursion (λ (l : Line). is_of_group l.says ≡ false) lines (own is);
      functions = all_contained (IsReadFunction form) (definitions_of lines)
          (function_read form lines own built placed (each_counted form lines (opening form).counts counts));
      few_layouts = (let t = layouts_total form lines (opening form).counts counts in omega arith);
      few_functions = (let t = functions_total form lines (opening form).counts counts in omega arith);
      few_instructions = instructions_few form lines (opening form).counts own text_lines.placed counts;
      few_lines = text_lines.few;
    }
