-- That an ask has what the question has.
use Rattle.std.proofs.Common.{◌≡◌, ◌∙◌, ℕ, ◌<◌, ◌≤◌, true, false, List, Some, None, refl, sym, subst, length, arith}
use Rattle.std.proofs.lemmas.Bool.{false≢true}
use Rattle.std.proofs.lemmas.List.Sums.{prefix_len_passes}
use Rattle.std.proofs.lemmas.Option.{none-some, same_Some, slice_get_within}
use Rattle.ir_ast.specs.declared.ops.Operand.{Operand}
use Rattle.ir_ast.specs.declared.ops.Operand.TheVariants.{Int}
use Rattle.ir_ast.specs.declared.ops.Op.{Op}
use Rattle.ir_ast.specs.declared.ops.Op.TheVariants.{Phi}
use Rattle.ir_ast.specs.Funcs.{Function}
use Rattle.ir_ast.specs.Faults.PhiEdges.{is_phi}
use Rattle.definite_assign.proofs.TextLemmas.{one_block, one_place}
use Rattle.object_meaning.specs.Lines.{Line}
use Rattle.object_meaning.specs.Frames.{is_member}
use Rattle.object_meaning.specs.Jumps.{phi_count}
use Rattle.pair_facts.specs.declared.bases.Base.{Base}
use Rattle.pair_facts.specs.declared.bases.Base.TheVariants.{Any}
use Rattle.pair_facts.specs.Lines.{lines_at, line_in, no_line, head_at}
use Rattle.pair_facts.specs.Pairs.{Pairs}
use Rattle.pair_facts.specs.Paths.{pairs_at, Arrives, At, Stands, Misses}
use Rattle.pair_facts.proofs.FreshLaws.{int, arrives_sound}
use Rattle.pair_facts.proofs.PlaceLaws.{no_head_before}
use Rattle.fact_tables.proofs.InstLemmas.{count_lines}
use Rattle.base_facts.proofs.SettleLemmas.{start_front, head_stands, statepoint_apart}
use Rattle.place_facts.specs.declared.facts.Question.{Question}
use Rattle.place_facts.specs.Spots.{IsNumbered}
use Rattle.place_facts.specs.Before.{Comes, Before, phi, group, line, IsAskable}
use Rattle.place_facts.specs.Phis.{IsLeft, IsBaseLeft}
use Rattle.place_facts.specs.Asks.{ask_at, AsksFor}
use Rattle.place_facts.proofs.ComeLemmas.{come_behind, come_ahead, IsMissed}

-- ---- where an instruction stands

pub record IsInside (func : Function) (block place : ℕ) : Type 0 where
  pub block_inside : block < length func.blocks
  pub place_inside : place < length (lines_at func block)

pub numbered_inside : (func : Function) (number block place : ℕ) → IsNumbered func number block place → IsInside func block place
numbered_inside func number block place is =
    let found = is.stands.block in
    let count = count_lines func block found is.stands.in_function in
    let below = slice_get_within found.insts place is.inst is.stands.in_block in
    record {
      block_inside = slice_get_within func.blocks block found is.stands.in_function;
      place_inside = omega (arith, count, below);
    }

one_spot : (func : Function) (number block place other there : ℕ) → IsNumbered func number block place → IsNumbered func number other there
    → (other ≡ block) × (there ≡ place)
one_spot func number block place other there is again =
    let text = sym again.number_is ∙ is.number_is in
    let same = one_block func other there block place again.inst is.inst again.stands is.stands text in
    (same, one_place func other there block place same text)

-- ---- operators

phi_apart : (op : Op) → is_phi op ≡ true → is_member op ≡ false
phi_apart Phi is = refl
phi_apart op is = absurd (false≢true is)

phi_first : (lines : List Line) (place : ℕ) → place < phi_count lines → is_member (line_in lines 0).inst.op ≡ false
phi_first lines place below =
    phi_apart (line_in lines 0).inst.op (prefix_len_passes (λ (l : Line). is_phi l.inst.op) lines 0 no_line (omega (arith, below)))

phi_alone : (lines : List Line) (place : ℕ) → place < phi_count lines → head_at lines place ≡ None
phi_alone lines place below = no_head_before lines (phi_count lines) place (start_front lines (phi_count lines) (omega arith)) below

-- ---- what stands before a line, by what the line is

before_phi : (func : Function) (block place : ℕ) (pairs : Pairs) → place < phi_count (lines_at func block) → Before func block place pairs → Comes func block pairs
before_phi func _ _ _ below (phi block place pairs low comes) = comes
before_phi func _ _ _ below (group block place head pairs is at) = absurd (none-some head (sym (phi_alone (lines_at func block) place below) ∙ is))
before_phi func _ _ _ below (line block place pairs past none at) = absurd (omega (arith, below, past))

before_group : (func : Function) (block place head : ℕ) (pairs : Pairs) → head_at (lines_at func block) place ≡ Some head → Before func block place pairs
    → At func block head pairs
before_group func _ _ head _ is (phi block place pairs low comes) = absurd (none-some head (sym (phi_alone (lines_at func block) place low) ∙ is))
before_group func _ _ head _ is (group block place own pairs found at) = subst (λ (h : ℕ). At func block h pairs) (same_Some own head (sym found ∙ is)) at
before_group func _ _ head _ is (line block place pairs past none at) = absurd (none-some head (sym none ∙ is))

before_line : (func : Function) (block place : ℕ) (pairs : Pairs) → phi_count (lines_at func block) ≤ place → head_at (lines_at func block) place ≡ None
    → Before func block place pairs → At func block place pairs
before_line func _ _ _ past none (phi block place pairs low comes) = absurd (omega (arith, past, low))
before_line func _ _ _ past none (group block place head pairs is at) = absurd (none-some head (sym none ∙ is))
before_line func _ _ _ past none (line block place pairs high alone at) = at

-- ---- asks

-- an instruction's place, and an ask that has what every path has before it
record Asks (func : Function) (block place : ℕ) (question : Question) (at : ℕ) (operand : Operand) (base : Base) : Type 0 where
  grouped : head_at (lines_at func block) place ≡ None → is_member (line_in (lines_at func block) place).inst.op ≡ false
  inside : at ≤ length (lines_at func block)
  outside : is_member (line_in (lines_at func block) at).inst.op ≡ false
  stands : Stands func block at operand base → (pairs : Pairs) → Before func block place pairs → pairs question.pointer question.base ≡ true
  misses : Misses func block at operand base → (pairs : Pairs) × Before func block place pairs × (pairs question.pointer question.base ≡ false)

asks_for : (func : Function) (question : Question) (block place at : ℕ) (operand : Operand) (base : Base) → IsNumbered func question.place block place
    → Asks func block place question at operand base → AsksFor func question (ask_at block at operand base)
asks_for func question block place at operand base numbered has = record {
  askable = record { block = block; place = place; numbered = numbered; grouped = has.grouped };
  can_ask = record {
    block_inside = (numbered_inside func question.place block place numbered).block_inside;
    place_inside = has.inside;
    outside = has.outside;
  };
  stands = λ holds other there pairs again before.
      let same = one_spot func question.place block place other there numbered again in
      has.stands holds pairs (subst (λ (p : ℕ). Before func block p pairs) same.1 (subst (λ (b : ℕ). Before func b there pairs) same.0 before));
  misses = λ fails.
      let found = has.misses fails in
      record { block = block; place = place; pairs = found.0; numbered = numbered; before = found.1; misses = found.2 };
}

pub asks_group : (func : Function) (question : Question) (block place head : ℕ) → IsNumbered func question.place block place
    → head_at (lines_at func block) place ≡ Some head → AsksFor func question (ask_at block head question.pointer question.base)
asks_group func question block place head numbered is =
    let stands = head_stands (lines_at func block) place head is in
    let below = (numbered_inside func question.place block place numbered).place_inside in
    asks_for func question block place head question.pointer question.base numbered (record {
      grouped = λ none. absurd (none-some head (sym none ∙ is));
      inside = omega (arith, stands.1, below);
      outside = (statepoint_apart (line_in (lines_at func block) head).inst.op stands.0).0;
      stands = λ holds pairs before. at_stands (before_group func block place head pairs is before) holds;
      misses = λ fails. (pairs_at (lines_at func block) fails.front head, group block place head _ is (record { front = fails.front; arrives = fails.arrives; is = refl }), fails.misses);
    })
  where
    at_stands : {pairs : Pairs} → At func block head pairs → Stands func block head question.pointer question.base → pairs question.pointer question.base ≡ true
    at_stands at holds = subst (λ (p : Pairs). p question.pointer question.base ≡ true) (sym at.is) (holds at.front at.arrives)

pub asks_line : (func : Function) (question : Question) (block place : ℕ) → IsNumbered func question.place block place → phi_count (lines_at func block) ≤ place
    → head_at (lines_at func block) place ≡ None → is_member (line_in (lines_at func block) place).inst.op ≡ false
    → AsksFor func question (ask_at block place question.pointer question.base)
asks_line func question block place numbered past none apart =
    let below = (numbered_inside func question.place block place numbered).place_inside in
    asks_for func question block place place question.pointer question.base numbered (record {
      grouped = λ _. apart;
      inside = omega (arith, below);
      outside = apart;
      stands = λ holds pairs before. at_stands (before_line func block place pairs past none before) holds;
      misses = λ fails. (pairs_at (lines_at func block) fails.front place, line block place _ past none (record { front = fails.front; arrives = fails.arrives; is = refl }), fails.misses);
    })
  where
    at_stands : {pairs : Pairs} → At func block place pairs → Stands func block place question.pointer question.base → pairs question.pointer question.base ≡ true
    at_stands at holds = subst (λ (p : Pairs). p question.pointer question.base ≡ true) (sym at.is) (holds at.front at.arrives)

-- what no phi of the block gives
pub asks_front : (func : Function) (question : Question) (block place : ℕ) → IsNumbered func question.place block place → place < phi_count (lines_at func block)
    → IsLeft (lines_at func block) question.pointer → IsBaseLeft (lines_at func block) question.base
    → AsksFor func question (ask_at block 0 question.pointer question.base)
asks_front func question block place numbered below left base_left =
    asks_for func question block place 0 question.pointer question.base numbered (record {
      grouped = λ _. phi_member;
      inside = omega arith;
      outside = phi_first (lines_at func block) place below;
      stands = λ holds pairs before.
          let behind = come_behind func question.pointer question.base block pairs left base_left (before_phi func block place pairs below before) in
          behind.same ∙ holds behind.front behind.arrives;
      misses = λ fails.
          let ahead = come_ahead func question.pointer question.base block fails.front left base_left fails.arrives in
          (ahead.pairs, phi block place ahead.pairs below ahead.comes, ahead.same ∙ fails.misses);
    })
  where
    phi_member : is_member (line_in (lines_at func block) place).inst.op ≡ false
    phi_member = phi_apart (line_in (lines_at func block) place).inst.op (prefix_len_passes (λ (l : Line). is_phi l.inst.op) (lines_at func block) place no_line below)

-- what a phi of the block gives
pub asks_nothing : (func : Function) (question : Question) (block place : ℕ) → IsNumbered func question.place block place → place < phi_count (lines_at func block)
    → ((front : Pairs) → Arrives func block front → IsMissed func block question.pointer question.base) → AsksFor func question (ask_at block 0 (Int 0) Any)
asks_nothing func question block place numbered below missed =
    asks_for func question block place 0 (Int 0) Any numbered (record {
      grouped = λ _. phi_member;
      inside = omega arith;
      outside = phi_first (lines_at func block) place below;
      stands = λ holds pairs before.
          let behind = come_behind func (Int 0) Any block pairs (λ from. refl) (λ from. refl) (before_phi func block place pairs below before) in
          absurd (false≢true (sym ((arrives_sound func block behind.front behind.arrives).no_literal (Int 0) Any (int 0)) ∙ holds behind.front behind.arrives));
      misses = λ fails.
          let found = missed fails.front fails.arrives in
          (found.pairs, phi block place found.pairs below found.comes, found.missed);
    })
  where
    phi_member : is_member (line_in (lines_at func block) place).inst.op ≡ false
    phi_member = phi_apart (line_in (lines_at func block) place).inst.op (prefix_len_passes (λ (l : Line). is_phi l.inst.op) (lines_at func block) place no_line below)

-- a result or a relocate without a statepoint isn't asked
pub not_askable : (func : Function) (number block place : ℕ) → IsNumbered func number block place → head_at (lines_at func block) place ≡ None
    → is_member (line_in (lines_at func block) place).inst.op ≡ true → IsAskable func number → ⊥
not_askable func number block place numbered none member askable =
    let same = one_spot func number block place askable.block askable.place numbered askable.numbered in
    let grouped = subst (λ (p : ℕ). head_at (lines_at func block) p ≡ None → is_member (line_in (lines_at func block) p).inst.op ≡ false) same.1
    (subst (λ (b : ℕ). head_at (lines_at func b) askable.place ≡ None → is_member (line_in (lines_at func b) askable.place).inst.op ≡ false) same.0 askable.grouped) in
    false≢true (sym (grouped none) ∙ member)
