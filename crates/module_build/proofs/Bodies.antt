-- The lines of a function that stand in their places: each block ends with its terminator.
use Rattle.std.proofs.Common.{◌≡◌, ◌∙◌, refl, sym, ap, subst, Bool, true, false, ◌&&◌, cond, List, [], ◌∷◌, ◌++◌, Option, Some, None, ℕ}
use Rattle.std.specs.Prelude.{decimal, map, not, take_while, is_some, if◌then◌else◌}
use Rattle.std.specs.List.{All, list_all}
use Rattle.std.proofs.lemmas.List.Elements.{All-nil, All-cons, All-append}
use Rattle.std.proofs.lemmas.List.Sums.{take_while-cons}
use Rattle.ir_reader.specs.declared.states.Place.{Place}
use Rattle.ir_reader.specs.declared.states.Place.TheVariants as places
use Rattle.line_tokens.specs.declared.words.Binary.{Binary}
use Rattle.line_tokens.specs.declared.words.Binary.TheVariants as binaries
use Rattle.line_tokens.specs.declared.words.Conversion.{Conversion}
use Rattle.line_tokens.specs.declared.words.Conversion.TheVariants as conversions
use Rattle.ir_ast.specs.Insts.{Instruction}
use Rattle.ir_ast.specs.Ops.{is_terminator}
use Rattle.ir_ast.specs.Blocks.{EndsAtTerminator}
use Rattle.ir_lines.specs.Statements.{Statement, Line, close, label, binary, compare, convert, select, phi, scalar_step, layout_step, load, store, call, jump, branch, switch, switch_case, switch_end, ret_void, ret, unreachable, cast, statepoint, gc_result, gc_relocate}
use Rattle.ir_lines.specs.Sections.{Definition, BlockLines, is_close, is_label, label_said, until_label, block_at, labelled_blocks, first_block, blocks_of, count_numbered}
use Rattle.ir_lines.specs.Modules.{Known, binary_of, conversion_of, instruction_said, with_line, instructions_of, insts_of}
use Rattle.ir_lines.specs.TextLines.{behind_instruction, behind_head, behind_closed, behind_case, place_behind, Goes, Stand}

abbrev pub Inside : Place → Type 0
Inside places.Top = ⊥
Inside _ = Unit {0}

-- the lines of a body stand from this place on to its end, which is behind a terminator
abbrev pub Body : Place → List Line → Type 0
Body place [] = place ≡ places.Closed
Body place (l ∷ ls) = Goes (place_behind place l.says) (λ next. Inside next × Body next ls)

abbrev pub inside_function : Line → Bool
inside_function l = not (is_close l.says)

-- ---- from the head of a definition to its brace

abbrev leads_out : Option Place → Bool
leads_out (Some places.Top) = true
leads_out _ = false

stays-in : (place : Place) (what : Statement) → Inside place → is_close what ≡ false → leads_out (place_behind place what) ≡ false
stays-in places.Top what in' c = absurd in'
stays-in places.Closed close in' c = absurd (let bad : true ≡ false = c in cc)
stays-in place (label name) in' c = refl
stays-in place what in' c = refl

in-out : (next : Place) → leads_out (Some next) ≡ false → Inside next
in-out places.Top e = absurd (let bad : true ≡ false = e in cc)
in-out next e = tt

pub stays : (place : Place) (what : Statement) (next : Place) → Inside place → is_close what ≡ false → place_behind place what ≡ Some next → Inside next
stays place what next in' c e = in-out next (sym (ap leads_out e) ∙ stays-in place what in' c)

abbrev is_closed : Place → Bool
is_closed places.Closed = true
is_closed _ = false

closes-at : (place : Place) (what : Statement) → Inside place → is_close what ≡ true → is_some (place_behind place what) ≡ is_closed place
closes-at places.Top what in' c = absurd in'
closes-at places.Entry close in' c = refl
closes-at places.Block close in' c = refl
closes-at places.Closed close in' c = refl
closes-at places.Cases close in' c = refl
closes-at place what in' c = absurd (let bad : false ≡ true = c in cc)

closed-is : (place : Place) → is_closed place ≡ true → place ≡ places.Closed
closed-is places.Closed e = refl
closed-is place e = absurd (let bad : false ≡ true = e in cc)

closes : (place : Place) (what : Statement) (next : Place) → Inside place → is_close what ≡ true → place_behind place what ≡ Some next → place ≡ places.Closed
closes place what next in' c e = closed-is place (sym (closes-at place what in' c) ∙ ap (λ (o : Option Place). is_some o) e)

body-at : (b : Bool) (l : Line) (rest : List Line) (place : Place) → Inside place → is_close l.says ≡ b
    → Goes (place_behind place l.says) (λ next. Inside next → Body next rest) → Body place (cond (not b) (l ∷ rest) [])
body-at true l rest place in' c h = closes place l.says h.next in' c h.is
body-at false l rest place in' c h =
    let stay = stays place l.says h.next in' c h.is in
    record { next = h.next; is = h.is; more = (stay, h.more stay) }

pub body-of : (ls : List Line) (place : Place) → Inside place → Stand place ls → Body place (take_while inside_function ls)
body-of [] place in' stand = absurd (subst Inside stand in')
body-of (l ∷ ls) place in' stand =
    subst (λ (xs : List Line). Body place xs) (sym (take_while-cons inside_function l ls))
    (body-at (is_close l.says) l (take_while inside_function ls) place in' refl
    (record { next = stand.next; is = stand.is; more = λ stay. body-of ls stand.next stay stand.more }))

-- ---- a block

-- what the instructions from a place of a block on are
abbrev pub Ends : Known → Place → List Line → Type 0
Ends known places.Block ls = EndsAtTerminator (insts_of known ls)
Ends known places.Closed ls = insts_of known ls ≡ []
Ends known places.Cases ls = insts_of known ls ≡ []
Ends known _ ls = Unit {0}

-- the instruction that leads from a block to a place
abbrev LeadsTo : Place → Option Instruction → Type 0
LeadsTo places.Block None = Unit {0}
LeadsTo places.Block (Some inst) = is_terminator inst.op ≡ false
LeadsTo places.Closed (Some inst) = is_terminator inst.op ≡ true
LeadsTo places.Cases (Some inst) = is_terminator inst.op ≡ true
LeadsTo _ _ = ⊥

abbrev LeadsAny : Option Place → Option Instruction → Type 0
LeadsAny None inst = Unit {0}
LeadsAny (Some place) inst = LeadsTo place inst

binary-inside : (op : Binary) → is_terminator (binary_of op) ≡ false
binary-inside binaries.Add = refl
binary-inside op = refl

conversion-inside : (op : Conversion) (to : ℕ) → is_terminator (conversion_of op to) ≡ false
conversion-inside conversions.Trunc to = refl
conversion-inside op to = refl

leads-any : (known : Known) (behind : List Line) (what : Statement) → LeadsAny (behind_instruction what) (instruction_said known behind what)
leads-any known behind (binary result op width left right) = binary-inside op
leads-any known behind (convert result op width value to) = conversion-inside op to
leads-any known behind (compare result predicate ty left right) = refl
leads-any known behind (select result condition left_ty left right_ty right) = refl
leads-any known behind (phi result ty entries) = refl
leads-any known behind (scalar_step result element address width index) = refl
leads-any known behind (layout_step result named address width index place) = refl
leads-any known behind (load result ty address) = refl
leads-any known behind (store ty value address) = refl
leads-any known behind (call result made) = refl
leads-any known behind (statepoint result made live) = refl
leads-any known behind (gc_result result ty token) = refl
leads-any known behind (gc_relocate result token base derived) = refl
leads-any known behind (jump to) = refl
leads-any known behind (branch condition on_true on_false) = refl
leads-any known behind ret_void = refl
leads-any known behind (ret ty value) = refl
leads-any known behind unreachable = refl
leads-any known behind (cast result op from value to) = refl
leads-any known behind (switch width value default) = refl
leads-any known behind what = tt

ends-first : (inst : Instruction) (insts : List Instruction) → is_terminator inst.op ≡ true → insts ≡ [] → EndsAtTerminator (inst ∷ insts)
ends-first inst insts ends none =
    record { before = []; last = inst; whole = ap (λ (xs : List Instruction). inst ∷ xs) none; ends = ends; inside = refl }

ends-more : (inst : Instruction) (insts : List Instruction) → is_terminator inst.op ≡ false → EndsAtTerminator insts → EndsAtTerminator (inst ∷ insts)
ends-more inst insts inside h = record {
  before = inst ∷ h.before;
  last = h.last;
  whole = ap (λ (xs : List Instruction). inst ∷ xs) h.whole;
  ends = h.ends;
  inside = ap (λ (b : Bool). not b && list_all (λ (one : Instruction). not (is_terminator one.op)) h.before) inside ∙ h.inside;
}

block-more : (known : Known) (number : ℕ) (rest : List Line) (inst : Option Instruction) (next : Place) → LeadsTo next inst → Ends known next rest
    → EndsAtTerminator (map (λ one. one.1) (with_line number inst ++ instructions_of known rest))
block-more known number rest None places.Block leads ends = ends
block-more known number rest (Some inst) places.Block leads ends = ends-more inst (insts_of known rest) leads ends
block-more known number rest (Some inst) places.Closed leads ends = ends-first inst (insts_of known rest) leads ends
block-more known number rest (Some inst) places.Cases leads ends = ends-first inst (insts_of known rest) leads ends
block-more known number rest inst next leads ends = absurd leads

-- no line but a label stands behind a terminator
abbrev is_out : Option Place → Bool
is_out None = true
is_out (Some places.Top) = true
is_out _ = false

closed-out : (what : Statement) → is_label what ≡ false → is_out (behind_closed what) ≡ true
closed-out (label name) c = absurd (let bad : true ≡ false = c in cc)
closed-out what c = refl

not-out : (next : Place) → Inside next → is_out (Some next) ≡ true → ⊥
not-out places.Top in' e = in'
not-out next in' e = let bad : false ≡ true = e in cc

-- the lines of a `switch` behind its first are none of the instructions
abbrev CaseAny : Option Place → Option Instruction → Type 0
CaseAny None inst = Unit {0}
CaseAny (Some places.Cases) inst = inst ≡ None
CaseAny (Some places.Closed) inst = inst ≡ None
CaseAny (Some _) inst = ⊥

case-any : (known : Known) (behind : List Line) (what : Statement) → CaseAny (behind_case what) (instruction_said known behind what)
case-any known behind (switch_case width value to) = refl
case-any known behind switch_end = refl
case-any known behind what = tt

case-none : (known : Known) (number : ℕ) (rest : List Line) (inst : Option Instruction) (next : Place) → CaseAny (Some next) inst → Ends known next rest
    → map (λ one. one.1) (with_line number inst ++ instructions_of known rest) ≡ []
case-none known number rest inst places.Cases e ends =
    ap (λ (o : Option Instruction). map (λ one. one.1) (with_line number o ++ instructions_of known rest)) e ∙ ends
case-none known number rest inst places.Closed e ends =
    ap (λ (o : Option Instruction). map (λ one. one.1) (with_line number o ++ instructions_of known rest)) e ∙ ends
case-none known number rest inst next e ends = absurd e

no-label : (what : Statement) → is_label what ≡ true → is_some (behind_instruction what) ≡ false
no-label (label name) c = refl
no-label what c = absurd (let bad : false ≡ true = c in cc)

label-ends : (known : Known) (place : Place) (what : Statement) (next : Place) → is_label what ≡ true → place_behind place what ≡ Some next → Ends known place []
label-ends known places.Block what next c e = absurd (let bad : true ≡ false = sym (ap (λ (o : Option Place). is_some o) e) ∙ no-label what c in cc)
label-ends known places.Closed what next c e = refl
label-ends known places.Cases what next c e = refl
label-ends known place what next c e = tt

line-ends : (known : Known) (place : Place) (l : Line) (rest : List Line) (next : Place) → is_label l.says ≡ false → Inside next
    → place_behind place l.says ≡ Some next → Ends known next rest → Ends known place (l ∷ rest)
line-ends known places.Block l rest next c in' e ends =
    block-more known l.number rest (instruction_said known rest l.says) next
    (subst (λ (o : Option Place). LeadsAny o (instruction_said known rest l.says)) e (leads-any known rest l.says)) ends
line-ends known places.Closed l rest next c in' e ends = absurd (not-out next in' (sym (ap is_out e) ∙ closed-out l.says c))
line-ends known places.Cases l rest next c in' e ends =
    case-none known l.number rest (instruction_said known rest l.says) next
    (subst (λ (o : Option Place). CaseAny o (instruction_said known rest l.says)) e (case-any known rest l.says)) ends
line-ends known place l rest next c in' e ends = tt

ends-at : (known : Known) (b : Bool) (place : Place) (l : Line) (rest : List Line) (next : Place) → is_label l.says ≡ b → Inside next
    → place_behind place l.says ≡ Some next → Ends known next rest → Ends known place (cond (not b) (l ∷ rest) [])
ends-at known true place l rest next c in' e ends = label-ends known place l.says next c e
ends-at known false place l rest next c in' e ends = line-ends known place l rest next c in' e ends

abbrev pub in_block : Line → Bool
in_block l = not (is_label l.says)

pub ends-of : (known : Known) (ls : List Line) (place : Place) → Body place ls → Ends known place (until_label ls)
ends-of known [] place body = subst (λ (p : Place). Ends known p []) (sym body) refl
ends-of known (l ∷ ls) place body =
    subst (λ (xs : List Line). Ends known place xs) (sym (take_while-cons in_block l ls))
    (ends-at known (is_label l.says) place l (until_label ls) body.next refl body.more.0 body.is (ends-of known ls body.next body.more.1))

-- ---- the blocks

abbrev pub BlockEnds : Known → BlockLines → Type 0
BlockEnds known block = EndsAtTerminator (insts_of known block.lines)

abbrev opens : Option Place → Bool
opens None = true
opens (Some places.Block) = true
opens _ = false

label-opens : (place : Place) (what : Statement) → is_some (label_said what) ≡ true → opens (place_behind place what) ≡ true
label-opens places.Top (label name) c = refl
label-opens places.Entry (label name) c = refl
label-opens places.Block (label name) c = refl
label-opens places.Closed (label name) c = refl
label-opens places.Cases (label name) c = refl
label-opens place what c = absurd (let bad : false ≡ true = c in cc)

opens-is : (next : Place) → opens (Some next) ≡ true → next ≡ places.Block
opens-is places.Block e = refl
opens-is next e = absurd (let bad : false ≡ true = e in cc)

block-ends : (known : Known) (number : ℕ) (place : Place) (what : Statement) (name : Option (List ℕ)) (next : Place) (ls : List Line)
    → label_said what ≡ name → place_behind place what ≡ Some next → Ends known next (until_label ls) → All (BlockEnds known) (block_at number name ls)
block-ends known number place what None next ls n e ends = All-nil (BlockEnds known)
block-ends known number place what (Some name) next ls n e ends =
    let is = opens-is next (sym (ap opens e) ∙ label-opens place what (ap (λ (o : Option (List ℕ)). is_some o) n)) in
    All-cons (BlockEnds known) (record { line = number; name = name; lines = until_label ls }) []
    (subst (λ (p : Place). Ends known p (until_label ls)) is ends) (All-nil (BlockEnds known))

labelled-end : (known : Known) (ls : List Line) (place : Place) → Body place ls → All (BlockEnds known) (labelled_blocks ls)
labelled-end known [] place body = All-nil (BlockEnds known)
labelled-end known (l ∷ ls) place body =
    All-append (BlockEnds known) (block_at l.number (label_said l.says) ls) (labelled_blocks ls)
    (block-ends known l.number place l.says (label_said l.says) body.next ls refl body.is (ends-of known ls body.next body.more.1))
    (labelled-end known ls body.next body.more.1)

head-is : (what : Statement) → is_label what ≡ false → behind_instruction what ≡ behind_head what
head-is (label name) c = absurd (let bad : true ≡ false = c in cc)
head-is what c = refl

entry-ends : (known : Known) (l : Line) (ls : List Line) → is_label l.says ≡ false → Body places.Entry (l ∷ ls)
    → EndsAtTerminator (insts_of known (until_label (l ∷ ls)))
entry-ends known l ls c body =
    ends-of known (l ∷ ls) places.Block (record { next = body.next; is = head-is l.says c ∙ body.is; more = body.more })

first-at : (known : Known) (func : Definition) (name : List ℕ) (l : Line) (ls : List Line) (b : Bool) → is_label l.says ≡ b → Body places.Entry (l ∷ ls)
    → All (BlockEnds known) (if b then [] else record { line = func.line; name = name; lines = until_label (l ∷ ls) } ∷ [])
first-at known func name l ls true c body = All-nil (BlockEnds known)
first-at known func name l ls false c body =
    All-cons (BlockEnds known) (record { line = func.line; name = name; lines = until_label (l ∷ ls) }) []
    (entry-ends known l ls c body) (All-nil (BlockEnds known))

first-ends : (known : Known) (func : Definition) (body : List Line) → Body places.Entry body → All (BlockEnds known) (first_block func body)
first-ends known func [] body = All-nil (BlockEnds known)
first-ends known func (l ∷ ls) body = first-at known func (decimal (count_numbered func.arguments)) l ls (is_label l.says) refl body

pub blocks-end : (known : Known) (func : Definition) → Body places.Entry func.body → All (BlockEnds known) (blocks_of func)
blocks-end known func body =
    All-append (BlockEnds known) (first_block func func.body) (labelled_blocks func.body)
    (first-ends known func func.body body) (labelled-end known func.body places.Entry body)
