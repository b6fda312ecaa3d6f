-- Literals have no pairs, so the entries of a pair that stands are values or `null`.
use Rattle.std.proofs.Common.{◌≡◌, ℕ, zero, suc, ◌&&◌, Bool, true, false, List, [], ◌∷◌, length, refl, sym, ap, ◌∙◌, subst, arith, ltb, Option, Some, None}
use Rattle.std.specs.Prelude.{if◌then◌else◌}
use Rattle.std.specs.List.{list_any}
use Rattle.std.specs.Option.{option_map_or}
use Rattle.ir_ast.specs.declared.ops.Op.{Op}
use Rattle.ir_ast.specs.declared.ops.Op.TheVariants as ops
use Rattle.ir_ast.specs.declared.ops.Operand.{Operand}
use Rattle.ir_ast.specs.declared.ops.Operand.TheVariants as operands
use Rattle.ir_ast.specs.Faults.GroupShape.{entries_of}
use Rattle.ir_ast.specs.Funcs.{Function}
use Rattle.ir_ast.specs.Insts.{Instruction}
use Rattle.ir_ast.specs.Types.{is_pointer}
use Rattle.object_meaning.specs.Jumps.{phi_count}
use Rattle.object_meaning.specs.Lines.{Line}
use Rattle.pair_facts.specs.declared.bases.Base.{Base}
use Rattle.pair_facts.specs.declared.bases.Base.TheVariants.{Named}
use Rattle.pair_facts.specs.Lines.{gives, group_in, head_at, line_before, line_in, lines_at, operand_at, phis_in}
use Rattle.pair_facts.specs.Pairs.{Pairs, after, after_group, at_entry, base_along, along, given_pairs, is_base_named, is_named, is_pointer_argument, member_pairs, with_given, with_own, without}
use Rattle.pair_facts.specs.Paths.{Arrives, At, behind, pairs_at, start, went}

record AreBare (pairs : Pairs) : Type 0 where
  pub derived : (literal : ℕ) (base : Base) → pairs (operands.Int literal) base ≡ false
  pub base : (operand : Operand) (literal : ℕ) → pairs operand (Named (operands.Int literal)) ≡ false

and_never : (test : Bool) → test && false ≡ false
and_never true = refl
and_never false = refl

entry_bare : (func : Function) → AreBare (at_entry func)
entry_bare func = record { derived = λ literal base. refl; base = by }
  where
    by : (operand : Operand) (literal : ℕ) → at_entry func operand (Named (operands.Int literal)) ≡ false
    by (operands.Value at) literal = and_never (is_pointer_argument func at.0)
    by (operands.Int other) literal = refl
    by operands.Null literal = refl
    by (operands.Fun called) literal = refl

if_never : (test : Bool) → (if test then false else false) ≡ false
if_never true = refl
if_never false = refl

without_bare : (value : ℕ) (pairs : Pairs) → AreBare pairs → AreBare (without value pairs)
without_bare value pairs bare = record {
  derived = λ literal base.
      ap (λ (b : Bool). if is_base_named value base then false else b) (bare.derived literal base) ∙ if_never (is_base_named value base);
  base = λ operand literal.
      ap (λ (b : Bool). if is_named value operand then false else b) (bare.base operand literal) ∙ if_never (is_named value operand);
}

given_bare : (pairs : Pairs) → AreBare pairs → (last : Option Line) (inst : Instruction) (op : Op) (value literal : ℕ) → given_pairs pairs last inst op value (Named (operands.Int literal)) ≡ false
given_bare pairs bare last inst ops.Load value literal = and_never (is_pointer inst.ty)
given_bare pairs bare last inst (ops.Gep elem index_width place) value literal = bare.base (operand_at inst.operands 0) literal
given_bare pairs bare last inst ops.Select value literal = and_never (is_pointer inst.ty)
given_bare pairs bare last inst op value literal = refl

own_bare : (value : ℕ) (own : Base → Bool) (pairs : Pairs) → AreBare pairs → ((literal : ℕ) → own (Named (operands.Int literal)) ≡ false) → AreBare (with_own value own pairs)
own_bare value own pairs bare none = record {
  derived = λ literal base. (without_bare value pairs bare).derived literal base;
  base = λ operand literal.
      ap (λ (b : Bool). if is_named value operand then b else without value pairs operand (Named (operands.Int literal))) (none literal)
      ∙ (ap (λ (b : Bool). if is_named value operand then false else b) ((without_bare value pairs bare).base operand literal) ∙ if_never (is_named value operand));
}

after_bare : (pairs : Pairs) → AreBare pairs → (last : Option Line) (line : Line) → AreBare (after pairs last line)
after_bare pairs bare last line = by line.to
  where
    by : (to : Option ℕ) → AreBare (with_given to (λ value. given_pairs (without value pairs) last line.inst line.inst.op value) pairs)
    by None = bare
    by (Some value) =
        own_bare value (given_pairs (without value pairs) last line.inst line.inst.op value) pairs bare
        (λ literal. given_bare (without value pairs) (without_bare value pairs bare) last line.inst line.inst.op value literal)

member_bare : (entries : List Operand) (group : List Line) (value : ℕ) (line : Line) (op : Op) (literal : ℕ) → member_pairs entries group value line op (Named (operands.Int literal)) ≡ false
member_bare entries group value line ops.GcResult literal = and_never (is_pointer line.inst.ty)
member_bare entries group value line ops.GcRelocate literal = refl
member_bare entries group value line op literal = refl

members_bare : (entries : List Operand) (group members : List Line) (value literal : ℕ)
    → list_any (λ line. gives line value && member_pairs entries group value line line.inst.op (Named (operands.Int literal))) members ≡ false
members_bare entries group [] value literal = refl
members_bare entries group (line ∷ members) value literal =
    let first = ap (λ (b : Bool). gives line value && b) (member_bare entries group value line line.inst.op literal) ∙ and_never (gives line value) in
    let rest = members_bare entries group members value literal in
    grind (arith, first, rest)

group_bare : (entries : List Operand) (group : List Line) → AreBare (after_group entries group)
group_bare entries group = record { derived = λ literal base. refl; base = by }
  where
    by : (operand : Operand) (literal : ℕ) → after_group entries group operand (Named (operands.Int literal)) ≡ false
    by (operands.Value at) literal = members_bare entries group group at.0 literal
    by (operands.Int other) literal = refl
    by operands.Null literal = refl
    by (operands.Fun called) literal = refl

behind_bare : (lines : List Line) (place : ℕ) (pairs : Pairs) → AreBare pairs → AreBare (behind lines place pairs)
behind_bare lines place pairs bare = by (head_at lines place) (ltb place (phi_count lines))
  where
    by : (head : Option ℕ) (phi : Bool) → AreBare (option_map_or (λ head. after_group (entries_of (line_in lines head).inst) (group_in lines head)) head
        (if phi then pairs else after pairs (line_before lines place) (line_in lines place)))
    by (Some head) phi = group_bare (entries_of (line_in lines head).inst) (group_in lines head)
    by None true = bare
    by None false = after_bare pairs bare (line_before lines place) (line_in lines place)

at_bare : (lines : List Line) (front : Pairs) → AreBare front → (place : ℕ) → AreBare (pairs_at lines front place)
at_bare lines front bare zero = bare
at_bare lines front bare (suc place) = behind_bare lines place (pairs_at lines front place) (at_bare lines front bare place)

arrives_bare : (func : Function) (block : ℕ) (front : Pairs) → Arrives func block front → AreBare front
arrives_bare func _ _ start = entry_bare func
arrives_bare func _ _ (went from to front arrives edge) =
    let before = at_bare (lines_at func from) front (arrives_bare func from front arrives) (length (lines_at func from)) in
    record { derived = λ literal base. before.derived literal (base_along from (phis_in (lines_at func to)) base); base = λ operand literal. before.base (along from (phis_in (lines_at func to)) operand) literal }

pub literals_bare : (func : Function) (block place : ℕ) (pairs : Pairs) → At func block place pairs → (literal : ℕ)
    → ((base : Base) → pairs (operands.Int literal) base ≡ false) × ((operand : Operand) → pairs operand (Named (operands.Int literal)) ≡ false)
literals_bare func block place pairs arrived literal =
    let bare = subst AreBare (sym arrived.is) (at_bare (lines_at func block) arrived.front (arrives_bare func block arrived.front arrived.arrives) place) in
    (bare.derived literal, λ operand. bare.base operand literal)
