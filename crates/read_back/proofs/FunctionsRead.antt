-- A function's text is read: its head, its blocks and its end.
use Rattle.std.proofs.Common.{◌≡◌, refl, sym, subst, ℕ, suc, ◌+◌, ◌<◌, ◌≤◌, true, List, [], ◌∷◌, ◌++◌, length, map, Some, arith, codes}
use Rattle.std.specs.List.{All, list_all}
use Rattle.std.proofs.lemmas.Bool.{le-leb}
use Rattle.std.proofs.lemmas.List.{length-map}
use Rattle.sp_text.specs.Tokens.{is_name}
use Rattle.ir_ast.specs.Layouts.{ObjectLayout}
use Rattle.ir_ast.specs.Funcs.{Function, instructions_of}
use Rattle.ir_ast.specs.Types.{is_answer}
use Rattle.ir_printer.specs.Lists.{joined}
use Rattle.ir_printer.specs.Words.{type_text}
use Rattle.ir_printer.specs.Names.{Names}
use Rattle.ir_printer.specs.Texts.{argument_of, function_text}
use Rattle.line_forms.specs.declared.forms.Form.TheVariants as forms
use Rattle.ir_reader.specs.declared.states.Counted.TheVariants as kinds
use Rattle.ir_reader.specs.declared.states.Place.TheVariants as places
use Rattle.ir_ast.specs.declared.modules.Form.{Form as TextForm}
use Rattle.ir_ast.specs.declared.modules.Form.TheVariants as text_forms
use Rattle.ir_reader.specs.declared.states.Counts.{Counts}
use Rattle.ir_reader.specs.declared.states.State.{State}
use Rattle.ir_reader.specs.Limits.{item_fits, counted, counted_in, counts_fit}
use Rattle.line_forms.specs.Seen.{of_form}
use Rattle.line_forms.specs.Slots as parts
use Rattle.ir_reader.specs.Text.{said, outcome}
use Rattle.read_back.specs.Said.{word_of, argument_says, function_says}
use Rattle.read_back.proofs.PartSteps.{strategy_word}
use Rattle.read_back.proofs.Forms.{ReadsAs, close_line}
use Rattle.read_back.proofs.ListForms.{define_line}
use Rattle.read_back.proofs.FormsIn.{ReadsIn, in_both}
use Rattle.read_back.proofs.LinesRead.{Says, says-both, says-line, formed_in, ends_none-clean}
use Rattle.read_back.proofs.Operands.{IsNarrow}
use Rattle.read_back.proofs.Chains.{behind_all, behind_block}
use Rattle.read_back.proofs.Blocks.{weight, Room, room-fits, room_still, AllBlocksSay, blocks_read, blocks_closed, blocks_form, blocks_room}
use Rattle.read_back.proofs.Functions.{ArgumentSays, answer_spelled, answer_allowed, arguments_each, arguments_open, function_shape}

abbrev pub names_in : List ObjectLayout → List Function → Function → Names
names_in layouts funcs func = record { layouts = layouts; funcs = funcs; func = func }

-- what is asked of a function so that its text is read
pub record FunctionReads (of : TextForm) (layouts : List ObjectLayout) (funcs : List Function) (func : Function) : Type 0 where
  pub named : is_name func.name ≡ true
  pub short : length func.name ≤ 4096
  pub answers : is_answer func.answer ≡ true
  pub narrow : IsNarrow func.answer
  pub args : All ArgumentSays func.args
  pub few : length func.args ≤ 64
  pub has_block : 0 < length func.blocks
  pub blocks : AllBlocksSay of (names_in layouts funcs func) func.blocks
  pub values : length func.args + weight of (length (instructions_of func.blocks)) ≤ 4096

-- the state behind the head
abbrev pub behind_head : Function → State → State
behind_head func s = record { form = s.form; place = places.Entry; counts = counted (counted_in s.form (kinds.Function (length func.args))) s.counts }

-- the state behind the closing line
abbrev pub behind_close : State → State
behind_close s = record { form = s.form; place = places.Top; counts = counted (counted_in s.form kinds.Nothing) s.counts }

-- the state behind a function
abbrev pub behind_function : Function → State → State
behind_function func s = behind_close (behind_all behind_block func.blocks (behind_head func s))

head_room : (of : TextForm) (n : ℕ) (c : Counts) {l f v i : ℕ} (w : ℕ) → n + weight of w ≤ 4096 → Room of l (suc f) v i c → Room of l f w i (counted (counted_in of (kinds.Function n)) c)
head_room text_forms.Source n c w values room = record { layouts = room.layouts; functions = omega (arith, room.functions); values = values; instructions = room.instructions }
head_room text_forms.Rewritten n c w values room = record { layouts = room.layouts; functions = omega (arith, room.functions); values = values; instructions = room.instructions }

head_still : (of : TextForm) (n : ℕ) (c : Counts) → (counted (counted_in of (kinds.Function n)) c).relocates ≤ 16384
head_still text_forms.Source n c = omega arith
head_still text_forms.Rewritten n c = omega arith

pub nothing_room : (of : TextForm) (c : Counts) {l f v i : ℕ} → Room of l f v i c → Room of l f v i (counted (counted_in of kinds.Nothing) c)
nothing_room text_forms.Source c room = room_still text_forms.Source c room
nothing_room text_forms.Rewritten c room = room_still text_forms.Rewritten c room

-- no relocates stand in a row behind a line that counts as nothing
pub nothing_still : (of : TextForm) (c : Counts) → (counted (counted_in of kinds.Nothing) c).relocates ≡ 0
nothing_still text_forms.Source c = refl
nothing_still text_forms.Rewritten c = refl

abbrev head_text : Function → List ℕ
head_text func = codes "define " ++ (type_text func.answer ++ (32 ∷ 64 ∷ (func.name ++ (40 ∷ (joined (codes ", ") (map argument_of func.args) ++ (41 ∷ 32 ∷ (codes "gc " ++ (strategy_word ++ codes " {"))))))))

abbrev head_items : Function → List parts.Item
head_items func = parts.ty (word_of func.answer) ∷ parts.defined func.name (map argument_says func.args) ∷ parts.strategy (Some (codes "statepoint-example")) ∷ []

head_line : (of : TextForm) (layouts : List ObjectLayout) (funcs : List Function) (func : Function) → FunctionReads of layouts funcs func → ReadsAs (head_text func) forms.Define (head_items func)
head_line of layouts funcs func is = define_line (answer_spelled func.answer is.answers is.narrow) (answer_allowed func.answer is.answers) func.name is.named
    argument_of argument_says func.args (arguments_each func.args is.args) (arguments_open func.args is.args)

head_outcome : (of : TextForm) (layouts : List ObjectLayout) (funcs : List Function) (func : Function) (s : State) → FunctionReads of layouts funcs func → s.place ≡ places.Top → counts_fit (behind_head func s).counts ≡ true
    → outcome s (head_text func) ≡ said (of_form forms.Define (head_items func)) (behind_head func s)
head_outcome of layouts funcs func s is top fit =
    let line : ReadsIn s.form (head_text func) forms.Define (head_items func) = in_both s.form refl (head_line of layouts funcs func is) in
    let same : length (map argument_says func.args) ≡ length func.args = length-map func.args argument_says in
    let fits : list_all item_fits (head_items func) ≡ true =
    rw (le-leb (length func.name) 4096 is.short, same, le-leb (length func.args) 64 is.few) refl in
    rw same at (formed_in s (head_text func) forms.Define places.Entry (head_items func) line.clean (rw top refl) line.form_is line.whole (rw top refl) refl fits (rw same fit))

end_outcome : (s : State) → s.place ≡ places.Closed → counts_fit (behind_close s).counts ≡ true → outcome s (codes "}") ≡ said (of_form forms.Close []) (behind_close s)
end_outcome s closed fit =
    let line : ReadsIn s.form (codes "}") forms.Close [] = in_both s.form refl close_line in
    formed_in s (codes "}") forms.Close places.Top [] line.clean (rw closed refl) line.form_is line.whole (rw closed refl) refl refl fit

pub function_form : (func : Function) (s : State) → (behind_function func s).form ≡ s.form
function_form func s = blocks_form func.blocks (behind_head func s)

opened_room : (of : TextForm) (layouts : List ObjectLayout) (funcs : List Function) (func : Function) (s : State) (l f i : ℕ) → FunctionReads of layouts funcs func → s.form ≡ of
    → Room s.form l (suc f) 0 (length (instructions_of func.blocks) + i) s.counts
    → Room s.form l f (length (instructions_of func.blocks) + 0) (length (instructions_of func.blocks) + i) (behind_head func s).counts
opened_room of layouts funcs func s l f i is formed room =
    let n : ℕ = length (instructions_of func.blocks) in
    let more : length func.args + weight of (n + 0) ≤ 4096 = subst (λ (m : ℕ). length func.args + weight of m ≤ 4096) (let same : n ≡ n + 0 = omega arith in same) is.values in
    head_room s.form (length func.args) s.counts (n + 0) (subst (λ (form : TextForm). length func.args + weight form (n + 0) ≤ 4096) (sym formed) more) room

pub function_room : (of : TextForm) (layouts : List ObjectLayout) (funcs : List Function) (func : Function) (s : State) (l f i : ℕ) → FunctionReads of layouts funcs func → s.form ≡ of
    → Room s.form l (suc f) 0 (length (instructions_of func.blocks) + i) s.counts → Room (behind_function func s).form l f 0 i (behind_function func s).counts
function_room of layouts funcs func s l f i is formed room =
    let last : State = behind_all behind_block func.blocks (behind_head func s) in
    nothing_room last.form last.counts (blocks_room func.blocks (behind_head func s) l f 0 i (opened_room of layouts funcs func s l f i is formed room))

pub function_read : (of : TextForm) (layouts : List ObjectLayout) (funcs : List Function) (func : Function) (s : State) (l f i : ℕ) → FunctionReads of layouts funcs func → s.form ≡ of → s.place ≡ places.Top
    → Room s.form l (suc f) 0 (length (instructions_of func.blocks) + i) s.counts
    → Says s (function_text layouts funcs func) (behind_function func s) (function_says layouts funcs func)
function_read of layouts funcs func s l f i is formed top room =
    let opened = opened_room of layouts funcs func s l f i is formed room in
    let last : State = behind_all behind_block func.blocks (behind_head func s) in
    let closed : last.place ≡ places.Closed = blocks_closed of (names_in layouts funcs func) func.blocks (behind_head func s) is.has_block is.blocks in
    let ended : Room last.form l f 0 i (behind_close last).counts = function_room of layouts funcs func s l f i is formed room in
    let none : (behind_close last).counts.relocates ≡ 0 = nothing_still last.form last.counts in
    rw (function_shape layouts funcs func)
    (says-both (says-line s (behind_head func s) (head_text func) (of_form forms.Define (head_items func)) (ends_none-clean (head_text func) (head_line of layouts funcs func is).clean)
    (head_outcome of layouts funcs func s is top (room-fits opened (head_still s.form (length func.args) s.counts))))
    (says-both (blocks_read of (names_in layouts funcs func) func.blocks (behind_head func s) l f 0 i is.blocks formed (refl, refl) opened)
    (says-line last (behind_function func s) (codes "}") (of_form forms.Close []) refl (end_outcome last closed (room-fits ended (omega arith))))))
