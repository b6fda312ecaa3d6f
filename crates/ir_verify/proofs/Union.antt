-- What is found in the functions of a module, and in the module, is what it breaks.
use Rattle.std.proofs.Common.{◌≡◌, ◌∙◌, ℕ, ◌+◌, inl, inr, Bool, true, false, List, [], ◌∷◌, ◌++◌, length, take, drop, refl, ap, sym, subst, arith}
use Rattle.std.specs.Prelude.{map, Option, Some, slice_get, slice_index, unwrap_or}
use Rattle.std.proofs.lemmas.Option.{slice_get_within}
use Rattle.std.proofs.Math.Seq.{take-append_seam}
use Rattle.std.proofs.lemmas.List.{length-take-le}
use Rattle.list_laws.proofs.Places.{get_middle, split_at, get_map, map_back}
use Rattle.ir_ast.specs.declared.modules.Form.{Form}
use Rattle.ir_ast.specs.declared.modules.Form.TheVariants.{Source, Rewritten}
use Rattle.ir_ast.specs.Insts.{Instruction}
use Rattle.ir_ast.specs.Funcs.{Function, LinedFunction, instructions_of, content_of, lines_of}
use Rattle.ir_ast.specs.Modules.{line_at}
use Rattle.ir_ast.specs.Scope.{scope_of}
use Rattle.ir_ast.specs.Faults.DerivedEscapes.{KeepsDerived}
use Rattle.ir_ast.specs.Faults.PhiEdges.{PhiIsRight}
use Rattle.ir_ast.specs.Faults.PointerOrder.{orders_pointers}
use Rattle.ir_ast.specs.Faults.GroupShape.{ShapeOf}
use Rattle.ir_ast.specs.Faults.NoMain.{HasMain}
use Rattle.ir_resolve.specs.Resolved.{Resolved, cases_at, part_line}
use Rattle.ir_resolve.specs.ModuleFaults.{HasModuleFault, type_clash, case_again, entry_has_pred, phi_edges, derived_escapes, no_main, pointer_order, group_shape, Stands, Breaks, CaseAgain, NamesEntry, PhiIsWrong, IsTypedBesidesCalls, its_line, its_part}
use Rattle.ir_verify.specs.Bodies.{insts_of, line_in, cases_in}
use Rattle.ir_verify.specs.Founds.{FoundIn}
use Rattle.ir_verify.specs.FunctionFaults.{At, CaseAt, LabelAt, PartFault, LineFaultAt, PhiFaultAt, start_of, BlockFaultAt, EscapeAt, ShapeAt, FormFault, FunctionFault, FunctionAt}
use Rattle.ir_lines.proofs.NoteLemmas.{Either}
use Rattle.ir_verify.proofs.Founds.{found-at}

-- the functions of a text, with their lines
pub record AreFuncs (text : Resolved) (funcs : List LinedFunction) : Type 0 where
  pub content : map content_of funcs ≡ text.whole.content.funcs
  pub lines : map lines_of funcs ≡ text.whole.lines

-- a function of a text, with its lines
record IsFunc (text : Resolved) (funcs : List LinedFunction) (number : ℕ) (func : Function) : Type 0 where
  pub lined : LinedFunction
  pub stands : slice_get funcs number ≡ Some lined
  pub content : func ≡ lined.content
  pub line : (place : ℕ) → line_at text.whole.lines number place ≡ line_in lined place

module _ (text : Resolved) (funcs : List LinedFunction) (are : AreFuncs text funcs) where
  lines-at : (number : ℕ) (lined : LinedFunction) → slice_get funcs number ≡ Some lined → (place : ℕ) → line_at text.whole.lines number place ≡ line_in lined place
  lines-at number lined stands place =
      ap (λ (lines : List (List ℕ)). slice_index (unwrap_or (slice_get lines number) []) place) (sym are.lines)
      ∙ ap (λ (o : Option (List ℕ)). slice_index (unwrap_or o []) place) (get_map lines_of funcs number lined stands)

  func-at : (number : ℕ) (func : Function) → slice_get text.whole.content.funcs number ≡ Some func → IsFunc text funcs number func
  func-at number func is =
      let m = map_back content_of funcs number func (ap (λ (fs : List Function). slice_get fs number) are.content ∙ is) in
      record { lined = m.before; stands = m.stands; content = m.is; line = lines-at number m.before m.stands }

  abbrev Found : ℕ → ℕ → Type 0
  Found l c = FoundIn (FunctionAt text.whole.content text.cases) funcs l c

  -- ---- an instruction of a function

  record IsAt (at : Stands text) : Type 0 where
    pub lined : LinedFunction
    pub stands : slice_get funcs at.number ≡ Some lined
    pub content : at.func ≡ lined.content
    pub inst : slice_get (insts_of lined) at.place ≡ Some at.inst
    pub line : its_line text at ≡ line_in lined at.place

  is-at : (at : Stands text) → IsAt at
  is-at at =
      let f = func-at at.number at.func at.is_function in
      record {
        lined = f.lined;
        stands = f.stands;
        content = f.content;
        inst = subst (λ (func : Function). slice_get (instructions_of func.blocks) at.place ≡ Some at.inst) f.content at.is_instruction;
        line = f.line at.place;
      }

  -- a fault of an instruction by itself
  in-line : (at : Stands text) (i : IsAt at) (l c : ℕ) → LineFaultAt text.whole.content i.lined (unwrap_or (slice_get text.cases at.number) []) at.place at.inst l c → Found l c
  in-line at i l c fault =
      found-at (FunctionAt text.whole.content text.cases) funcs at.number i.lined l c i.stands
      (inl (found-at (LineFaultAt text.whole.content i.lined (unwrap_or (slice_get text.cases at.number) [])) (insts_of i.lined) at.place at.inst l c i.inst fault))

  to-type : (l : ℕ) → Breaks text l (λ func place inst. IsTypedBesidesCalls (scope_of text.whole.content func) inst) → Found l 5
  to-type l b =
      let i = is-at b.at in
      in-line b.at i l 5 (inl (
        refl,
        sym b.its ∙ i.line,
        subst (λ (func : Function). ¬ IsTypedBesidesCalls (scope_of text.whole.content func) b.at.inst) i.content b.breaks,
      ))

  ordered : (b : Bool) → (¬ (b ≡ false)) → b ≡ true
  ordered true n = refl
  ordered false n = absurd (n refl)

  to-order : (l : ℕ) → Breaks text l (λ func place inst. orders_pointers inst.op inst.ty ≡ false) → Found l 15
  to-order l b =
      let i = is-at b.at in
      in-line b.at i l 15 (inr (inl (refl, sym b.its ∙ i.line, ordered (orders_pointers b.at.inst.op b.at.inst.ty) b.breaks)))

  part-at : (at : Stands text) (i : IsAt at) (part l : ℕ) → its_part text at part ≡ l
      → l ≡ part_line (line_in i.lined at.place) (cases_in (unwrap_or (slice_get text.cases at.number) []) at.place) part
  part-at at i part l its = sym its ∙ ap (λ n. part_line n (cases_at text.cases at.number at.place) part) i.line

  to-case : (l : ℕ) → CaseAgain text l → Found l 5
  to-case l a =
      let i = is-at a.at in
      let cases = cases_in (unwrap_or (slice_get text.cases a.at.number) []) a.at.place in
      in-line a.at i l 5 (inr (inr (inl (
        a.switch,
        found-at (CaseAt (line_in i.lined a.at.place) cases a.at.inst.operands) a.at.inst.operands a.later a.value l 5 a.is_later (
          refl,
          part-at a.at i a.later l a.its,
          record { earlier = a.earlier; behind_tested = a.behind_tested; in_order = a.in_order; same = a.is_earlier },
        ),
      ))))

  to-entry : (l : ℕ) → NamesEntry text l → Found l 6
  to-entry l a =
      let i = is-at a.at in
      let cases = cases_in (unwrap_or (slice_get text.cases a.at.number) []) a.at.place in
      in-line a.at i l 6 (inr (inr (inr (
        a.ends,
        found-at (LabelAt (line_in i.lined a.at.place) cases) a.at.inst.labels a.part a.label l 6 a.is_label (refl, part-at a.at i a.part l a.its, a.first),
      ))))

  to-phi : (l : ℕ) → PhiIsWrong text l → Found l 7
  to-phi l p =
      let f = func-at p.number p.func p.is_function in
      let func = f.lined.content in
      let block : slice_get func.blocks p.at ≡ Some p.block = subst (λ (g : Function). slice_get g.blocks p.at ≡ Some p.block) f.content p.is_block in
      let here : slice_get p.block.insts (length p.before) ≡ Some p.phi
      = ap (λ (xs : List Instruction). slice_get xs (length p.before)) p.whole ∙ get_middle p.before p.phi p.after in
      let front : take (length p.before) p.block.insts ≡ p.before
      = ap (take (length p.before)) p.whole ∙ take-append_seam p.before (p.phi ∷ p.after) in
      let line : l ≡ line_in f.lined (start_of func p.at + length p.before)
      = sym p.its ∙ f.line (start_of p.func p.at + length p.before) ∙ ap (λ (g : Function). line_in f.lined (start_of g p.at + length p.before)) f.content in
      let wrong : ¬ PhiIsRight func p.at (take (length p.before) p.block.insts) p.phi
      = subst (λ (before : List Instruction). ¬ PhiIsRight func p.at before p.phi) (sym front)
      (subst (λ (g : Function). ¬ PhiIsRight g p.at p.before p.phi) f.content p.wrong) in
      found-at (FunctionAt text.whole.content text.cases) funcs p.number f.lined l 7 f.stands
      (inr (inl (found-at (BlockFaultAt f.lined) func.blocks p.at p.block l 7 block
      (found-at (PhiFaultAt f.lined p.at (start_of func p.at) p.block.insts) p.block.insts (length p.before) p.phi l 7 here
      (refl, line, (p.merges, wrong))))))

  in-form : (at : Stands text) (i : IsAt at) (l c : ℕ) → FormFault text.whole.content.form i.lined l c → Found l c
  in-form at i l c fault = found-at (FunctionAt text.whole.content text.cases) funcs at.number i.lined l c i.stands (inr (inr fault))

  to-escape : (l : ℕ) → text.whole.content.form ≡ Source → Breaks text l (λ func place inst. KeepsDerived func inst) → Found l 9
  to-escape l form b =
      let i = is-at b.at in
      in-form b.at i l 9 (subst (λ (f : Form). FormFault f i.lined l 9) (sym form)
      (found-at (EscapeAt i.lined) (insts_of i.lined) b.at.place b.at.inst l 9 i.inst
      (refl, sym b.its ∙ i.line, subst (λ (func : Function). ¬ KeepsDerived func b.at.inst) i.content b.breaks)))

  to-shape : (l : ℕ) → text.whole.content.form ≡ Rewritten → Breaks text l (λ func place inst. ShapeOf func place inst inst.op) → Found l 18
  to-shape l form b =
      let i = is-at b.at in
      in-form b.at i l 18 (subst (λ (f : Form). FormFault f i.lined l 18) (sym form)
      (found-at (ShapeAt i.lined) (insts_of i.lined) b.at.place b.at.inst l 18 i.inst
      (refl, sym b.its ∙ i.line, subst (λ (func : Function). ¬ ShapeOf func b.at.place b.at.inst b.at.inst.op) i.content b.breaks)))

  pub module-found : (l c : ℕ) → HasModuleFault text l c → Either (At 11 0 (¬ HasMain text.whole.content)) Found l c
  module-found l _ (type_clash b) = inr (to-type l b)
  module-found l _ (case_again a) = inr (to-case l a)
  module-found l _ (entry_has_pred a) = inr (to-entry l a)
  module-found l _ (phi_edges p) = inr (to-phi l p)
  module-found l _ (derived_escapes form b) = inr (to-escape l form b)
  module-found l _ (no_main e n) = inl (refl, e, n)
  module-found l _ (pointer_order b) = inr (to-order l b)
  module-found l _ (group_shape form b) = inr (to-shape l form b)

  -- ---- the other way

  record Here (number : ℕ) (lined : LinedFunction) (place : ℕ) (inst : Instruction) : Type 0 where
    pub stands : slice_get funcs number ≡ Some lined
    pub inside : slice_get (insts_of lined) place ≡ Some inst

  abbrev at-here : (number : ℕ) (lined : LinedFunction) (place : ℕ) (inst : Instruction) → Here number lined place inst → Stands text
  at-here number lined place inst h = record {
    number = number;
    func = lined.content;
    is_function = ap (λ (fs : List Function). slice_get fs number) (sym are.content) ∙ get_map content_of funcs number lined h.stands;
    place = place;
    inst = inst;
    is_instruction = h.inside;
  }

  breaks-here : (Rule : Function → ℕ → Instruction → Type 0) (number : ℕ) (lined : LinedFunction) (place : ℕ) (inst : Instruction)
      → Here number lined place inst → (l : ℕ) → l ≡ line_in lined place → (¬ Rule lined.content place inst) → Breaks text l Rule
  breaks-here Rule number lined place inst h l line wrong = record {
    at = at-here number lined place inst h;
    its = lines-at number lined h.stands place ∙ sym line;
    breaks = wrong;
  }

  part-here : (number : ℕ) (lined : LinedFunction) (place : ℕ) (inst : Instruction) (h : Here number lined place inst) (part l : ℕ)
      → l ≡ part_line (line_in lined place) (cases_in (unwrap_or (slice_get text.cases number) []) place) part
      → its_part text (at-here number lined place inst h) part ≡ l
  part-here number lined place inst h part l line =
      ap (λ n. part_line n (cases_at text.cases number place) part) (lines-at number lined h.stands place) ∙ sym line

  abbrev Has : ℕ → ℕ → Type 0
  Has l c = HasModuleFault text l c

  coded : (l c code : ℕ) → c ≡ code → Has l code → Has l c
  coded l c code e has = subst (λ (n : ℕ). Has l n) (sym e) has

  by-part : (number : ℕ) (lined : LinedFunction) (place : ℕ) (inst : Instruction) (h : Here number lined place inst) (l c : ℕ)
      → PartFault (line_in lined place) (cases_in (unwrap_or (slice_get text.cases number) []) place) inst l c → Has l c
  by-part number lined place inst h l c (inl f) =
      let r = f.1.faulty.2 in
      coded l c 5 f.1.faulty.0 (case_again (record {
        at = at-here number lined place inst h;
        switch = f.0;
        earlier = r.earlier;
        later = f.1.place;
        behind_tested = r.behind_tested;
        in_order = r.in_order;
        value = f.1.here;
        is_earlier = r.same;
        is_later = f.1.stands;
        its = part-here number lined place inst h f.1.place l f.1.faulty.1;
      }))
  by-part number lined place inst h l c (inr f) =
      coded l c 6 f.1.faulty.0 (entry_has_pred (record {
        at = at-here number lined place inst h;
        ends = f.0;
        part = f.1.place;
        label = f.1.here;
        is_label = f.1.stands;
        first = f.1.faulty.2;
        its = part-here number lined place inst h f.1.place l f.1.faulty.1;
      }))

  by-line : (number : ℕ) (lined : LinedFunction) (place : ℕ) (inst : Instruction) (h : Here number lined place inst) (l c : ℕ)
      → LineFaultAt text.whole.content lined (unwrap_or (slice_get text.cases number) []) place inst l c → Has l c
  by-line number lined place inst h l c (inl f) =
      coded l c 5 f.0 (type_clash (breaks-here (λ func place inst. IsTypedBesidesCalls (scope_of text.whole.content func) inst) number lined place inst h l f.1 f.2))
  by-line number lined place inst h l c (inr (inl f)) =
      coded l c 15 f.0 (pointer_order (breaks-here (λ func place inst. orders_pointers inst.op inst.ty ≡ false) number lined place inst h l f.1
      (λ none. let bad : true ≡ false = sym f.2 ∙ none in cc)))
  by-line number lined place inst h l c (inr (inr f)) = by-part number lined place inst h l c f

  by-phi : (number : ℕ) (lined : LinedFunction) → slice_get funcs number ≡ Some lined → (l c : ℕ) → FoundIn (BlockFaultAt lined) lined.content.blocks l c → Has l c
  by-phi number lined stands l c f =
      let block = f.here in
      let p = f.faulty in
      let insts = block.insts in
      let before = take p.place insts in
      let whole : insts ≡ before ++ p.here ∷ drop (p.place + 1) insts = split_at insts p.place p.here p.stands in
      let long : length before ≡ p.place = length-take-le p.place insts (let b = slice_get_within insts p.place p.here p.stands in omega (arith, b)) in
      coded l c 7 p.faulty.0 (phi_edges (record {
        number = number;
        func = lined.content;
        is_function = ap (λ (fs : List Function). slice_get fs number) (sym are.content) ∙ get_map content_of funcs number lined stands;
        at = f.place;
        block = block;
        is_block = f.stands;
        before = before;
        phi = p.here;
        after = drop (p.place + 1) insts;
        whole = whole;
        merges = p.faulty.2.0;
        its = lines-at number lined stands (start_of lined.content f.place + length before)
            ∙ ap (λ n. line_in lined (start_of lined.content f.place + n)) long ∙ sym p.faulty.1;
        wrong = p.faulty.2.1;
      }))

  by-form : (number : ℕ) (lined : LinedFunction) → slice_get funcs number ≡ Some lined → (form : Form) → text.whole.content.form ≡ form → (l c : ℕ)
      → FormFault form lined l c → Has l c
  by-form number lined stands Source is l c f =
      coded l c 9 f.faulty.0 (derived_escapes is (breaks-here (λ func place inst. KeepsDerived func inst) number lined f.place f.here
      (record { stands = stands; inside = f.stands }) l f.faulty.1 f.faulty.2))
  by-form number lined stands Rewritten is l c f =
      coded l c 18 f.faulty.0 (group_shape is (breaks-here (λ func place inst. ShapeOf func place inst inst.op) number lined f.place f.here
      (record { stands = stands; inside = f.stands }) l f.faulty.1 f.faulty.2))

  by-function : (number : ℕ) (lined : LinedFunction) → slice_get funcs number ≡ Some lined → (l c : ℕ)
      → FunctionFault text.whole.content lined (unwrap_or (slice_get text.cases number) []) l c → Has l c
  by-function number lined stands l c (inl f) = by-line number lined f.place f.here (record { stands = stands; inside = f.stands }) l c f.faulty
  by-function number lined stands l c (inr (inl f)) = by-phi number lined stands l c f
  by-function number lined stands l c (inr (inr f)) = by-form number lined stands text.whole.content.form refl l c f

  pub found-module : (l c : ℕ) → Either (At 11 0 (¬ HasMain text.whole.content)) Found l c → HasModuleFault text l c
  found-module l c (inl f) = coded l c 11 f.0 (no_main f.1 f.2)
  found-module l c (inr f) = by-function f.place f.here f.stands l c f.faulty
