-- The places of a function's instructions, a line at a time.
use Rattle.std.proofs.Common.{◌≡◌, ◌∙◌, inl, inr, ℕ, ◌+◌, ◌<◌, List, [], ◌∷◌, ◌++◌, None, ap, sym, subst, slice_get, length, arith, take}
use Rattle.std.proofs.lemmas.List.{length_push, take_all}
use Rattle.std.proofs.lemmas.Option.{none-some, slice_get_past}
use Rattle.list_laws.proofs.Places.{get_some, pushed_cases}
use Rattle.ir_ast.specs.Insts.{Instruction}
use Rattle.ir_ast.specs.Blocks.{BasicBlock}
use Rattle.ir_ast.specs.Funcs.{Function, instructions_of}
use Rattle.ir_cfg.specs.DefiniteUses.{Stands, text_place}
use Rattle.definite_assign.proofs.TextLemmas.{place_within}
use Rattle.place_facts.specs.declared.spots.Spot.{Spot}
use Rattle.place_facts.specs.Spots.{IsNumbered, AreSpots, KnowsSpots}
use Rattle.place_facts.specs.Before.{IsAskable}

pub no_spots : (func : Function) (count : ℕ) → count ≡ 0 → AreSpots func count []
no_spots func count none = record { whole = sym none; each = λ number spot is. absurd (none-some spot (sym (slice_get_past [] number (omega arith)) ∙ is)) }

pub spots_more : (func : Function) (block place : ℕ) (inst : Instruction) (spots : List Spot) → Stands func block place inst
    → AreSpots func (text_place func block place) spots
    → AreSpots func (text_place func block (place + 1)) (spots ++ record { block = block; place = place } ∷ [])
spots_more func block place inst spots stands are = record {
  whole = omega (arith, length_push spots (record { block = block; place = place }), are.whole);
  each = λ number spot is. elim (pushed_cases spots (record { block = block; place = place }) number spot is) [
    | inl earlier ↦ are.each number spot earlier
    | inr own ↦ subst (λ (s : Spot). IsNumbered func number s.block s.place) own.1
        (record { inst = inst; stands = stands; number_is = own.0 ∙ are.whole })
  ];
}

pub spots_all : (func : Function) (count : ℕ) (spots : List Spot) → count ≡ length func.blocks → AreSpots func (text_place func count 0) spots → KnowsSpots func spots
spots_all func count spots all are =
    let whole : length (instructions_of (take count func.blocks)) ≡ length (instructions_of func.blocks) =
    ap (λ (blocks : List BasicBlock). length (instructions_of blocks)) (take_all count func.blocks (omega (arith, all))) in
    let same : text_place func count 0 ≡ length (instructions_of func.blocks) = omega (arith, whole) in
    subst (λ (n : ℕ). AreSpots func n spots) same are

-- no instruction has a number past them
pub none_past : (func : Function) (spots : List Spot) (number : ℕ) → KnowsSpots func spots → slice_get spots number ≡ None → IsAskable func number → ⊥
none_past func spots number knows none askable =
    let own = askable.numbered in
    let low = place_within func askable.block askable.place own.inst own.stands in
    let inside : number < length spots = omega (arith, low, own.number_is, knows.whole) in
    let found = get_some spots number inside in
    none-some found.0 (sym none ∙ found.1)
