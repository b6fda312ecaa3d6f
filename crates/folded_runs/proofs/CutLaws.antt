-- The lines of a folded function are those of the function that stay.
use Rattle.std.proofs.Common.{◌≡◌, ℕ, zero, suc, ◌+◌, ◌<◌, Bool, true, false, not, ◌&&◌, ◌||◌, if◌then◌else◌, List, [], ◌∷◌, ◌++◌, length, map, refl, sym, ap, subst, ◌∙◌, arith}
use Rattle.std.specs.Prelude.{nat_le, Option, Some, None, is_some, slice_get, slice_index, slice_index_or}
use Rattle.std.specs.List.{All, list_all, list_any}
use Rattle.std.specs.Option.{option_map, IfSome}
use Rattle.std.proofs.lemmas.List.Elements.{All-cons, All-nil, All-head, All-tail}
use Rattle.ir_ast.specs.declared.types.Ty.{Ty}
use Rattle.ir_ast.specs.declared.ops.Op.{Op}
use Rattle.ir_ast.specs.declared.ops.Op.TheVariants as ops
use Rattle.ir_ast.specs.declared.ops.Operand.{Operand}
use Rattle.ir_ast.specs.Insts.{Instruction}
use Rattle.ir_ast.specs.Blocks.{BasicBlock}
use Rattle.ir_ast.specs.Funcs.{Function, instructions_of}
use Rattle.ir_ast.specs.Layouts.{ObjectLayout}
use Rattle.ir_ast.specs.Lines.{is_rewritten}
use Rattle.ir_ast.specs.Operands.{operands_of}
use Rattle.ir_ast.specs.Ops.{is_member, is_phi, is_terminator}
use Rattle.ir_ast.specs.Values.{definitions_of}
use Rattle.ir_ast.proofs.OpLaws.{plain_member}
use Rattle.object_meaning.specs.Lines.{Line, after_all, first_registers, following, lines_from, numbered, poll, retreats}
use Rattle.base_laws.proofs.FormLaws.{lead_of_none, phis_lead}
use Rattle.known_values.specs.Onward.{computes}
use Rattle.renaming_laws.specs.Renamed.{ArgumentsFit, Renaming}
use Rattle.folded_forms.specs.Folded.{Table, folded_insts, folded_line, folded_operand, stays}
use Rattle.trimmed_laws.specs.Trims.{HasNumber, IsNumbered, IsStaying, LiteralsStay, MayGo, Trim, computing, now_operand, starts, taken_before, trimmed_line}
use Rattle.trimmed_laws.specs.Trimmed.{Trimmed, goes as line_goes, no_lines, stays as line_stays}
use Rattle.trimmed_laws.proofs.TrimRegisters.{of_bundle, of_line}
use Rattle.folded_source.proofs.ValueLaws.{counted}
use Rattle.folded_runs.proofs.CountLaws.{count_goes, count_stays}

-- a function that is there, under a table, with what stands for its operands in the runs; and one that isn't
abbrev pub trim_found : Option Function → Table → (Operand → Operand) → Trim
trim_found (Some func) table stands = record {
  renaming = record {
    called = true;
    arguments = length func.args;
    room = length (definitions_of func);
    now_room = counted table (length (definitions_of func));
    number = counted table;
    entered = λ block. true;
  };
  kept = stays table;
  stands = stands;
  regroups = false;
}
trim_found None table stands = record {
  renaming = record { called = false; arguments = 0; room = 0; now_room = 0; number = λ value. value; entered = λ block. true };
  kept = λ value. true;
  stands = λ operand. operand;
  regroups = false;
}

pub no_groups : (found : Option Function) (table : Table) (stands : Operand → Operand) → (trim_found found table stands).regroups ≡ true → ⊥
no_groups (Some func) table stands regroups = cc
no_groups None table stands regroups = cc

-- what may go is no terminator
goes_on_when_gone : {layouts : List ObjectLayout} {stands : Operand → Operand} {inst : Instruction} → MayGo layouts stands inst → is_terminator inst.op ≡ false
goes_on_when_gone {inst = inst} (taken_before taken) = by inst.op taken
  where
    by : (op : Op) → is_phi op || is_member op ≡ true → is_terminator op ≡ false
    by ops.Phi is = refl
    by ops.GcResult is = refl
    by ops.GcRelocate is = refl
    by op is = absurd cc
goes_on_when_gone {inst = inst} (computing kind safe) = by inst.op kind
  where
    by : (op : Op) → computes op ≡ true → is_terminator op ≡ false
    by ops.Br is = absurd cc
    by ops.CondBr is = absurd cc
    by ops.Switch is = absurd cc
    by ops.Ret is = absurd cc
    by ops.Unreachable is = absurd cc
    by op is = refl

map_same : {A B : Type 0} (f g : A → B) (xs : List A) → All (λ x. f x ≡ g x) xs → map f xs ≡ map g xs
map_same f g [] same = refl
map_same f g (x ∷ xs) same =
    ap (λ y. y ∷ map f xs) (All-head (λ z. f z ≡ g z) x xs same) ∙ ap (λ ys. g x ∷ ys) (map_same f g xs (All-tail (λ z. f z ≡ g z) x xs same))

all_weaker : {A : Type 0} (P Q : A → Type 0) (xs : List A) → ((x : A) → P x → Q x) → All P xs → All Q xs
all_weaker P Q xs weaker all = λ k x below. weaker (slice_index_or xs k x) (all k x below)

module _ (layouts : List ObjectLayout) (calls : ℕ → Renaming) (func : Function) (table : Table) (stands : Operand → Operand) where
  abbrev trim : Trim
  trim = trim_found (Some func) table stands

  -- what stands for an operand has a number, under which it stands in the folded text
  pub record OperandCut (each : Operand) : Type 0 where
    pub has : IsNumbered trim (stands each)
    pub same : folded_operand table each ≡ now_operand trim each

  -- an instruction whose result, if it has one, has this number
  pub record LineCut (number : ℕ) (inst : Instruction) : Type 0 where
    pub within : is_some inst.result ≡ true → number < length (definitions_of func)
    pub operands : (is_some inst.result ≡ true → stays table number ≡ true) → All OperandCut (operands_of inst)
    pub arguments : ArgumentsFit calls inst.op inst.operands
    pub literals : LiteralsStay trim inst.op inst.operands
    pub going : is_some inst.result ≡ true → stays table number ≡ false → MayGo layouts stands inst
    pub plain : is_rewritten inst.op ≡ false

  -- instructions, the first result of which has this number
  abbrev pub AllCut : ℕ → List Instruction → Type 0
  AllCut next [] = Unit {0}
  AllCut next (inst ∷ insts) = LineCut next inst × AllCut (following next inst) insts

  -- ---- one line

  line_is : (next : ℕ) (inst : Instruction) → All OperandCut (operands_of inst) → (to : Option ℕ) → (if is_some inst.result then Some (counted table next) else None) ≡ option_map (counted table) to
      → numbered (counted table next) (folded_line table inst) ≡ trimmed_line trim inst.result (record { to = to; inst = inst })
  line_is next inst cut to same =
      let operands = map_same (folded_operand table) (now_operand trim) inst.operands
      (all_weaker OperandCut (λ each. folded_operand table each ≡ now_operand trim each) inst.operands (λ each one. one.same) (of_line OperandCut inst cut)) in
      let bundle = map_same (λ (entry : Ty × Operand). (entry.0, folded_operand table entry.1)) (λ (entry : Ty × Operand). (entry.0, now_operand trim entry.1)) inst.bundle
      (all_weaker (λ (entry : Ty × Operand). OperandCut entry.1) (λ (entry : Ty × Operand). ◌≡◌ {A = Ty × Operand} (entry.0, folded_operand table entry.1) (entry.0, now_operand trim entry.1)) inst.bundle
      (λ entry one. ap (λ (each : Operand). (entry.0, each)) one.same) (of_bundle OperandCut inst cut)) in
      ap (λ (all : List Operand). let line : Line = record {
        to = if is_some inst.result then Some (counted table next) else None;
        inst = record inst { operands = all; bundle = map (λ (entry : Ty × Operand). (entry.0, folded_operand table entry.1)) inst.bundle };
      } in line) operands
      ∙ (ap (λ (all : List (Ty × Operand)). let line : Line = record {
        to = if is_some inst.result then Some (counted table next) else None;
        inst = record inst { operands = map (now_operand trim) inst.operands; bundle = all };
      } in line) bundle
      ∙ ap (λ (now : Option ℕ). let line : Line = record {
        to = now;
        inst = record inst { operands = map (now_operand trim) inst.operands; bundle = map (λ (entry : Ty × Operand). (entry.0, now_operand trim entry.1)) inst.bundle };
      } in line) same)

  staying : (next : ℕ) (inst : Instruction) → LineCut next inst → (to : Option ℕ) → All OperandCut (operands_of inst) → IfSome to (HasNumber trim)
      → IsStaying calls trim (record { to = to; inst = inst })
  staying next inst cut to operands has = record {
    result = has;
    operands = all_weaker OperandCut (λ each. IsNumbered trim (stands each)) (operands_of inst) (λ each one. one.has) operands;
    arguments = cut.arguments;
    literals = cut.literals;
  }

  pub poll_stays : IsStaying calls trim poll
  poll_stays = record { result = tt; operands = All-nil (λ (each : Operand). IsNumbered trim (stands each)); arguments = tt; literals = tt }

  -- behind a poll, if there is one
  behind_polls : (retreating : Bool) (lines others : List Line) → Trimmed layouts calls trim lines others
      → Trimmed layouts calls trim ((if retreating then poll ∷ [] else []) ++ lines) ((if retreating then poll ∷ [] else []) ++ others)
  behind_polls true lines others further = line_stays poll None lines others poll_stays further
  behind_polls false lines others further = further

  -- ---- what stands in front

  none_starts : (test : Op → Bool) → test poll.inst.op ≡ false → (block next : ℕ) (insts : List Instruction) → All (λ (inst : Instruction). test inst.op ≡ false) insts
      → (start : ℕ) → starts test (lines_from block start (folded_insts table next insts)) ≡ false
  none_starts test poll_not block next [] none start = refl
  none_starts test poll_not block next (inst ∷ insts) none start =
      by (is_some inst.result && not (stays table next)) (none_starts test poll_not block (following next inst) insts (All-tail (λ (i : Instruction). test i.op ≡ false) inst insts none))
    where
      here : test inst.op ≡ false
      here = All-head (λ (i : Instruction). test i.op ≡ false) inst insts none

      at_line : (retreating : Bool) (more : List Line)
          → starts test ((if retreating then poll ∷ [] else []) ++ numbered start (folded_line table inst) ∷ more) ≡ false
      at_line true more = poll_not
      at_line false more = here

      by : (gone : Bool) → ((start : ℕ) → starts test (lines_from block start (folded_insts table (following next inst) insts)) ≡ false)
          → starts test (lines_from block start ((if gone then [] else folded_line table inst ∷ []) ++ folded_insts table (following next inst) insts)) ≡ false
      by true further = further start
      by false further = at_line (retreats block inst) (lines_from block (following start (folded_line table inst)) (folded_insts table (following next inst) insts))

  all_plain : (next : ℕ) (insts : List Instruction) → AllCut next insts → All (λ (inst : Instruction). is_member inst.op ≡ false) insts
  all_plain next [] all = All-nil (λ (inst : Instruction). is_member inst.op ≡ false)
  all_plain next (inst ∷ insts) all =
      All-cons (λ (each : Instruction). is_member each.op ≡ false) inst insts (plain_member inst.op (all.0).plain) (all_plain (following next inst) insts all.1)

  none_phis : (insts : List Instruction) → list_all (λ (each : Instruction). not (is_phi each.op)) insts ≡ true → All (λ (inst : Instruction). is_phi inst.op ≡ false) insts
  none_phis [] none = All-nil (λ (inst : Instruction). is_phi inst.op ≡ false)
  none_phis (inst ∷ insts) none = by (is_phi inst.op) refl none (λ rest. none_phis insts rest)
    where
      by : (b : Bool) → is_phi inst.op ≡ b → not b && list_all (λ (each : Instruction). not (is_phi each.op)) insts ≡ true → (list_all (λ (each : Instruction). not (is_phi each.op)) insts ≡ true → All (λ (each : Instruction). is_phi each.op ≡ false) insts)
          → All (λ (each : Instruction). is_phi each.op ≡ false) (inst ∷ insts)
      by true is none further = absurd cc
      by false is none further = All-cons (λ (each : Instruction). is_phi each.op ≡ false) inst insts is (further none)

  leads_then : (inst : Instruction) (insts : List Instruction) → phis_lead (inst ∷ insts) ≡ true → phis_lead insts ≡ true
  leads_then inst insts lead = by (is_phi inst.op) lead
    where
      by : (b : Bool) → (if b then phis_lead insts else list_all (λ (each : Instruction). not (is_phi each.op)) insts) ≡ true → phis_lead insts ≡ true
      by true rest = rest
      by false none = lead_of_none insts none

  no_phi_behind : (inst : Instruction) (insts : List Instruction) → phis_lead (inst ∷ insts) ≡ true → is_phi inst.op ≡ false → All (λ (each : Instruction). is_phi each.op ≡ false) insts
  no_phi_behind inst insts lead is = none_phis insts (subst (λ (b : Bool). (if b then phis_lead insts else list_all (λ (each : Instruction). not (is_phi each.op)) insts) ≡ true) is lead)

  -- ---- the lines

  gone_quiet : (block : ℕ) (inst : Instruction) → MayGo layouts stands inst → retreats block inst ≡ false
  gone_quiet block inst may = ap (λ (b : Bool). b && list_any (λ label. nat_le label.0 block) inst.labels) (goes_on_when_gone may)

  pub trimmed_from : (block next : ℕ) (insts : List Instruction) → AllCut next insts → phis_lead insts ≡ true
      → Trimmed layouts calls trim (lines_from block next insts) (lines_from block (counted table next) (folded_insts table next insts))
  trimmed_from block next [] all lead = no_lines
  trimmed_from block next (inst ∷ insts) all lead =
      by (is_some inst.result) (stays table next) refl refl (trimmed_from block (following next inst) insts all.1 (leads_then inst insts lead))
    where
      cut : LineCut next inst
      cut = all.0

      next_is : next + 1 ≡ suc next
      next_is = omega arith

      -- a line that stays, behind its poll
      kept_line : (to : Option ℕ) → (if is_some inst.result then Some next else None) ≡ to → (if is_some inst.result then Some (counted table next) else None) ≡ option_map (counted table) to
          → All OperandCut (operands_of inst) → IfSome to (HasNumber trim) → following (counted table next) (folded_line table inst) ≡ counted table (following next inst) → Trimmed layouts calls trim (lines_from block (following next inst) insts) (lines_from block (counted table (following next inst)) (folded_insts table (following next inst) insts))
          → Trimmed layouts calls trim (lines_from block next (inst ∷ insts)) (lines_from block (counted table next) (folded_line table inst ∷ (folded_insts table (following next inst) insts)))
      kept_line to to_is now_is operands has after rest =
          behind_polls (retreats block inst) (numbered next inst ∷ lines_from block (following next inst) insts)
          (numbered (counted table next) (folded_line table inst) ∷ lines_from block (following (counted table next) (folded_line table inst)) (folded_insts table (following next inst) insts))
          (subst (λ (first : Line). Trimmed layouts calls trim (numbered next inst ∷ lines_from block (following next inst) insts)
          (first ∷ lines_from block (following (counted table next) (folded_line table inst)) (folded_insts table (following next inst) insts))) (sym (line_is next inst operands to now_is))
          (subst (λ (n : ℕ). Trimmed layouts calls trim (numbered next inst ∷ lines_from block (following next inst) insts)
          (trimmed_line trim inst.result (record { to = to; inst = inst }) ∷ lines_from block n (folded_insts table (following next inst) insts))) (sym after)
          (subst (λ (own : Option ℕ). Trimmed layouts calls trim (record { to = own; inst = inst } ∷ lines_from block (following next inst) insts)
          (trimmed_line trim inst.result (record { to = to; inst = inst }) ∷ lines_from block (counted table (following next inst)) (folded_insts table (following next inst) insts))) (sym to_is)
          (line_stays (record { to = to; inst = inst }) inst.result (lines_from block (following next inst) insts) (lines_from block (counted table (following next inst)) (folded_insts table (following next inst) insts))
          (staying next inst cut to operands has) rest))))

      by : (named here : Bool) → is_some inst.result ≡ named → stays table next ≡ here → Trimmed layouts calls trim (lines_from block (following next inst) insts) (lines_from block (counted table (following next inst)) (folded_insts table (following next inst) insts))
          → Trimmed layouts calls trim (lines_from block next (inst ∷ insts)) (lines_from block (counted table next) ((if named && not here then [] else folded_line table inst ∷ []) ++ (folded_insts table (following next inst) insts)))
      by true true named is rest =
          kept_line (Some next) (ap (λ (b : Bool). if b then Some next else None) named) (ap (λ (b : Bool). if b then Some (counted table next) else None) named)
          (cut.operands (λ result. is)) (cut.within named, is)
          (ap (λ (b : Bool). if b then counted table next + 1 else counted table next) named
          ∙ (sym (count_stays table next is) ∙ (ap (counted table) (sym next_is) ∙ ap (λ (b : Bool). counted table (if b then next + 1 else next)) (sym named)))) rest
      by false true named is rest =
          kept_line None (ap (λ (b : Bool). if b then Some next else None) named) (ap (λ (b : Bool). if b then Some (counted table next) else None) named)
          (cut.operands (λ result. is)) tt
          (ap (λ (b : Bool). if b then counted table next + 1 else counted table next) named ∙ ap (λ (b : Bool). counted table (if b then next + 1 else next)) (sym named)) rest
      by false false named is rest =
          kept_line None (ap (λ (b : Bool). if b then Some next else None) named) (ap (λ (b : Bool). if b then Some (counted table next) else None) named)
          (cut.operands (λ result. absurd (let both : true ≡ false = sym result ∙ named in cc))) tt
          (ap (λ (b : Bool). if b then counted table next + 1 else counted table next) named ∙ ap (λ (b : Bool). counted table (if b then next + 1 else next)) (sym named)) rest
      by true false named is rest =
          let may = cut.going named is in
          let same : counted table (following next inst) ≡ counted table next =
          ap (λ (b : Bool). counted table (if b then next + 1 else next)) named ∙ (ap (counted table) next_is ∙ count_goes table next is) in
          let to_is : (if is_some inst.result then Some next else None) ≡ Some next = ap (λ (b : Bool). if b then Some next else None) named in
          subst (λ (b : Bool). Trimmed layouts calls trim ((if b then poll ∷ [] else []) ++ numbered next inst ∷ lines_from block (following next inst) insts) (lines_from block (counted table next) (folded_insts table (following next inst) insts)))
          (sym (gone_quiet block inst may))
          (subst (λ (to : Option ℕ). Trimmed layouts calls trim (record { to = to; inst = inst } ∷ lines_from block (following next inst) insts) (lines_from block (counted table next) (folded_insts table (following next inst) insts))) (sym to_is)
          (line_goes (record { to = Some next; inst = inst }) (lines_from block (following next inst) insts) (lines_from block (counted table next) (folded_insts table (following next inst) insts))
          (record {
            may = may;
            unkept = is;
            phis = λ not_one. none_starts is_phi refl block (following next inst) insts (no_phi_behind inst insts lead not_one) (counted table next);
            members = λ not_one. none_starts is_member refl block (following next inst) insts (all_plain (following next inst) insts all.1) (counted table next);
          })
          (subst (λ (n : ℕ). Trimmed layouts calls trim (lines_from block (following next inst) insts) (lines_from block n (folded_insts table (following next inst) insts))) same rest)))

  -- ---- the blocks

  cut_back : (next : ℕ) (xs ys : List Instruction) → AllCut next (xs ++ ys) → AllCut next xs × AllCut (after_all next xs) ys
  cut_back next [] ys all = (tt, all)
  cut_back next (x ∷ xs) ys all = let rest = cut_back (following next x) xs ys all.1 in ((all.0, rest.0), rest.1)

  pub block_cut : (next place : ℕ) (blocks : List BasicBlock) (block : BasicBlock) → slice_get blocks place ≡ Some block → AllCut next (instructions_of blocks)
      → AllCut (slice_index (first_registers next blocks) place) block.insts
  block_cut next place [] block found all = absurd cc
  block_cut next zero (first ∷ blocks) block found all =
      let same : first ≡ block = cc in
      subst (λ (b : BasicBlock). AllCut next b.insts) same (cut_back next first.insts (instructions_of blocks) all).0
  block_cut next (suc place) (first ∷ blocks) block found all =
      block_cut (after_all next first.insts) place blocks block found (cut_back next first.insts (instructions_of blocks) all).1
