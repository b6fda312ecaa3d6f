-- One text after another, each from the state behind the one before.
use Rattle.std.proofs.Common.{◌≡◌, refl, ap, ◌∙◌, ℕ, true, false, ◌&&◌, List, [], ◌∷◌, ◌++◌, map, Some, codes, append_assoc}
use Rattle.std.specs.List.{flat_map, list_all}
use Rattle.std.proofs.lemmas.List.Folds.{list_all-append}
use Rattle.sp_text.specs.Tokens.{tokens, is_name}
use Rattle.sp_text.specs.Labels.{is_metadata}
use Rattle.sp_text.proofs.Spelled.{tokens-blank}
use Rattle.ir_ast.specs.Insts.{Instruction}
use Rattle.ir_ast.specs.Blocks.{BasicBlock}
use Rattle.ir_printer.specs.Lists.{joined}
use Rattle.ir_printer.specs.Names.{Names}
use Rattle.ir_printer.specs.Lines.{line_text, result_front, operator_text}
use Rattle.ir_printer.specs.Texts.{block_text}
use Rattle.ir_ast.specs.declared.modules.Form.{Form as TextForm}
use Rattle.ir_reader.specs.declared.states.Counted.{Counted}
use Rattle.ir_reader.specs.declared.states.Counted.TheVariants as kinds
use Rattle.ir_reader.specs.declared.states.State.{State}
use Rattle.ir_reader.specs.Limits.{counted, counted_in, counts_fit}
use Rattle.ir_reader.specs.declared.states.Place.TheVariants as places
use Rattle.line_forms.specs.Forms.{fit, form_in}
use Rattle.ir_reader.specs.Places.{behind, behind_label}
use Rattle.line_forms.specs.Seen.{Said, label, of_form}
use Rattle.ir_reader.specs.Text.{said, outcome, is_top, next_state}
use Rattle.ir_lines.specs.Statements.{Statement}
use Rattle.read_back.specs.Said.{instruction_says, block_says}
use Rattle.read_back.proofs.Steps.{IsClean, name-clean}
use Rattle.read_back.proofs.LinesRead.{Says, says-nil, says-both, says-line, formed_in, label_line, ends_none-clean, ends_none}
use Rattle.read_back.proofs.OneLine.{LineIn, place_after, counted_as}

pub joined-cons : (x : List ℕ) (xs : List (List ℕ)) → joined [] (x ∷ xs) ≡ x ++ joined [] xs
joined-cons x [] = refl
joined-cons x (y ∷ ys) = refl

-- what is asked at each element, at the state behind those before it
abbrev pub AllOk : {Y : Type 0} → (Y → State → Type 0) → (Y → State → State) → List Y → State → Type 0
AllOk ok next [] s = Unit {0}
AllOk ok next (y ∷ ys) s = ok y s × AllOk ok next ys (next y s)

-- the state behind all elements
abbrev pub behind_all : {Y : Type 0} → (Y → State → State) → List Y → State → State
behind_all next [] s = s
behind_all next (y ∷ ys) s = behind_all next ys (next y s)

pub says-chain : {Y : Type 0} (text : Y → List ℕ) (say : Y → List Statement) (next : Y → State → State) (ok : Y → State → Type 0) → ((y : Y) (s : State) → ok y s → Says s (text y) (next y s) (say y))
    → (ys : List Y) (s : State) → AllOk ok next ys s → Says s (joined [] (map text ys)) (behind_all next ys s) (flat_map say ys)
says-chain text say next ok each [] s all = says-nil s
says-chain text say next ok each (y ∷ ys) s all =
    rw (joined-cons (text y) (map text ys)) (says-both (each y s all.0) (says-chain text say next ok each ys (next y s) all.1))

-- ---- instructions

-- the state behind an instruction
abbrev pub behind_inst : Instruction → State → State
behind_inst inst s = record { form = s.form; place = place_after inst.op; counts = counted (counted_in s.form (counted_as inst.op)) s.counts }

-- an instruction is read in a block of a text of this form
abbrev pub InstSays : TextForm → Names → Instruction → Type 0
InstSays of names inst = (s : State) → s.form ≡ of → s.place ≡ places.Block → counts_fit (behind_inst inst s).counts ≡ true
    → Says s (line_text names inst) (behind_inst inst s) (instruction_says names inst)

pub indented : (text : List ℕ) → tokens (32 ∷ 32 ∷ text) ≡ tokens text
indented text = tokens-blank 32 (32 ∷ text) refl ∙ tokens-blank 32 text refl

line_shape : (front op : List ℕ) → codes "  " ++ (front ++ (op ++ codes "\n")) ≡ (32 ∷ 32 ∷ (front ++ op)) ++ (10 ∷ [])
line_shape front op = simp append_assoc

line_outcome : (of : TextForm) (names : Names) (inst : Instruction) (one : LineIn of names inst) (s : State) → s.form ≡ of → s.place ≡ places.Block → counts_fit (behind_inst inst s).counts ≡ true
    → outcome s (32 ∷ 32 ∷ (result_front inst.result ++ operator_text names inst.op inst)) ≡ said (of_form one.form one.items) (behind_inst inst s)
line_outcome of names inst one s formed inside few =
    let text : List ℕ = result_front inst.result ++ operator_text names inst.op inst in
    let what : Said = of_form one.form one.items in
    let next : next_state s (place_after inst.op) what ≡ behind_inst inst s =
    ap (λ (kind : Counted). record { form = s.form; place = place_after inst.op; counts = counted (counted_in s.form kind) s.counts }) one.counts in
    let plain : (is_top s.place && is_metadata (32 ∷ 32 ∷ text)) ≡ false = rw inside refl in
    let form_is : form_in s.form (tokens (32 ∷ 32 ∷ text)) ≡ Some one.form = rw (formed, indented text) one.reads.form_is in
    let fitting : fit one.form (tokens (32 ∷ 32 ∷ text)) ≡ Some (one.items, []) = rw (indented text) one.reads.whole in
    let stands : behind s.place one.form ≡ Some (place_after inst.op) = rw inside one.stands in
    let counts : counts_fit (next_state s (place_after inst.op) what).counts ≡ true = ap (λ (n : State). counts_fit n.counts) next ∙ few in
    formed_in s (32 ∷ 32 ∷ text) one.form (place_after inst.op) one.items one.reads.clean plain form_is fitting stands one.kept one.fits counts ∙ ap (said what) next

pub line_says : (of : TextForm) (names : Names) (inst : Instruction) → LineIn of names inst → InstSays of names inst
line_says of names inst one s formed inside few =
    rw (line_shape (result_front inst.result) (operator_text names inst.op inst)) (rw one.says
    (says-line s (behind_inst inst s) (32 ∷ 32 ∷ (result_front inst.result ++ operator_text names inst.op inst)) (of_form one.form one.items)
    (ends_none-clean (32 ∷ 32 ∷ (result_front inst.result ++ operator_text names inst.op inst)) one.reads.clean) (line_outcome of names inst one s formed inside few)))

-- ---- blocks

abbrev pub in_block : State → State
in_block s = record { form = s.form; place = places.Block; counts = counted kinds.Nothing s.counts }

abbrev pub behind_block : BasicBlock → State → State
behind_block block s = behind_all behind_inst block.insts (in_block s)

abbrev pub InstOk : TextForm → Names → Instruction → State → Type 0
InstOk of names inst s = (s.form ≡ of) × (s.place ≡ places.Block) × (counts_fit (behind_inst inst s).counts ≡ true) × InstSays of names inst

label_shape : (name rest : List ℕ) → name ++ (codes ":\n" ++ rest) ≡ ((name ++ (58 ∷ [])) ++ (10 ∷ [])) ++ rest
label_shape name rest = simp append_assoc

label_ends : (name : List ℕ) → IsClean name → list_all ends_none (name ++ (58 ∷ [])) ≡ true
label_ends name clean = rw (list_all-append ends_none name (58 ∷ []), ends_none-clean name clean) refl

pub block_read : (of : TextForm) (names : Names) (block : BasicBlock) (s : State) → is_name block.name ≡ true → is_top s.place ≡ false → behind_label s.place ≡ Some places.Block
    → AllOk (InstOk of names) behind_inst block.insts (in_block s) → Says s (block_text names block) (behind_block block s) (block_says names block)
block_read of names block s is inside stands all =
    rw (label_shape block.name (joined [] (map (line_text names) block.insts)))
    (says-both (says-line s (in_block s) (block.name ++ (58 ∷ [])) (label block.name) (label_ends block.name (name-clean block.name is)) (label_line s block.name places.Block is inside stands))
    (says-chain (line_text names) (instruction_says names) behind_inst (InstOk of names) (λ inst s ok. ok.3 s ok.0 ok.1 ok.2) block.insts (in_block s) all))
