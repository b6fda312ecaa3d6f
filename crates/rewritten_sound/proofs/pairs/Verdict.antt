-- The rewritten function has no fault.
use Rattle.std.proofs.Common.{◌≡◌, ℕ, true, List, sym, subst, ◌∙◌, ◌⊎◌, inl, inr}
use Rattle.std.specs.Prelude.{Some, slice_get}
use Rattle.std.proofs.lemmas.Bool.{true≢false}
use Rattle.ir_ast.specs.declared.ops.Operand.{Operand}
use Rattle.ir_ast.specs.Blocks.{BasicBlock}
use Rattle.ir_ast.specs.Funcs.{Function}
use Rattle.object_meaning.specs.Lines.{Line}
use Rattle.rewriting_forms.specs.Liveness.{live_table}
use Rattle.rewriting_forms.specs.Names.{Naming}
use Rattle.rewriting_laws.specs.Laws.{Fits, IsNumbering, IsPlain}
use Rattle.rewritten_sound.proofs.definite.NowLaws.{block_now, lines_now_are, now, number}
use Rattle.pair_facts.specs.declared.bases.Base.{Base}
use Rattle.pair_facts.specs.declared.bases.Base.TheVariants.{Any, Named}
use Rattle.pair_facts.specs.Faults.{FaultAt, IsLostValue, IsOpenGroup, IsPlainCall, IsStale, IsUnchecked, loose, lost_value, open_group, plain_call, stale, unchecked}
use Rattle.pair_facts.specs.Lines.{lines_at}
use Rattle.pair_facts.specs.Paths.{Misses, pairs_at}
use Rattle.pair_facts.specs.Uses.{Use, Uses, checks, compares, escapes, relocates}
use Rattle.rewritten_sound.specs.Pairs.{FittingIsVerified}
use Rattle.rewritten_sound.specs.Takes.{HasPairs}
use Rattle.rewritten_sound.proofs.pairs.FaultFacts.{no_lost_value, no_open_group, no_plain_call, no_unchecked, used_stands}
use Rattle.rewritten_sound.proofs.pairs.HoldFacts.{Stands}
use Rattle.rewritten_sound.proofs.pairs.NowPlaces.{lines}
use Rattle.rewritten_sound.proofs.pairs.PathFacts.{arrives_holds}
use Rattle.base_definite.proofs.LinePlaces.{line_from}

module _ (func : Function) (table : List Operand) (naming : Naming) (fits : Fits func table naming (live_table func table)) (now_room room : ℕ)
    (numbers : IsNumbering func table naming.joins (number func table naming) now_room) (plain_form : IsPlain func room) (has : HasPairs func table (live_table func table)) where
  abbrev after : Function
  after = now func table naming

  -- a line stands in a block of the function before
  own_block : (b j : ℕ) (line : Line) → slice_get (lines_at after b) j ≡ Some line → (block : BasicBlock) × (slice_get func.blocks b ≡ Some block)
  own_block b j line at =
      let stands = (line_from after b j line at).stands in
      let here = block_now func table naming b stands.block stands.in_function in
      (here.own, here.stands)

  used_block : (b j code at : ℕ) (pair : Use) → Uses (lines_at after b) j code at pair → (block : BasicBlock) × (slice_get func.blocks b ≡ Some block)
  used_block b j _ _ _ (relocates head line rel) = own_block b j line rel.stands
  used_block b j _ _ _ (checks line pair stands takes) = own_block b j line stands
  used_block b j _ _ _ (compares line pair stands takes) = own_block b j line stands
  used_block b j _ _ _ (escapes line operand stands takes) = own_block b j line stands

  module _ (b : ℕ) (block : BasicBlock) (found : slice_get func.blocks b ≡ Some block) where
    lines_are : lines_at after b ≡ lines func table naming b
    lines_are = lines_now_are func table naming b block found

    stands_always : (j code at : ℕ) (pair : Use) → Uses (lines_at after b) j code at pair → (missed : Operand) (base : Base) → (missing : Misses after b at missed base)
        → Stands (pairs_at (lines_at after b) missing.front at) pair.address pair.base
    stands_always j code at pair uses missed base missing =
        subst (λ (ls : List Line). Stands (pairs_at ls missing.front at) pair.address pair.base) (sym lines_are)
        (used_stands func table naming fits now_room room numbers plain_form has b missing.front
        (arrives_holds func table naming fits now_room room numbers plain_form has b missing.front missing.arrives block found) j code at pair
        (subst (λ (ls : List Line). Uses ls j code at pair) lines_are uses))

    no_miss : (at : ℕ) (o : Operand) (base : Base) (missing : Misses after b at o base) → pairs_at (lines_at after b) missing.front at o base ≡ true → ⊥
    no_miss at o base missing is = true≢false (sym is ∙ missing.misses)

    no_stale : (j code at : ℕ) (pair : Use) → Uses (lines_at after b) j code at pair → IsStale after b at pair → ⊥
    no_stale j code at pair uses (inl missing) = no_miss at pair.address Any missing (stands_always j code at pair uses pair.address Any missing).fresh
    no_stale j code at pair uses (inr missing) = no_miss at pair.base Any missing (stands_always j code at pair uses pair.base Any missing).base_fresh

    no_loose : (j code at : ℕ) (pair : Use) → Uses (lines_at after b) j code at pair → Misses after b at pair.address (Named pair.base) ⊎ Misses after b at pair.base (Named pair.base) → ⊥
    no_loose j code at pair uses (inl missing) = no_miss at pair.address (Named pair.base) missing (stands_always j code at pair uses pair.address (Named pair.base) missing).pair
    no_loose j code at pair uses (inr missing) = no_miss at pair.base (Named pair.base) missing (stands_always j code at pair uses pair.base (Named pair.base) missing).base_own

  pub no_fault : (b j code : ℕ) → FaultAt after b j code → ⊥
  no_fault b j _ (stale code at pair uses is) = let own = used_block b j code at pair uses in no_stale b own.0 own.1 j code at pair uses is
  no_fault b j _ (loose code at pair uses is) = let own = used_block b j code at pair uses in no_loose b own.0 own.1 j code at pair uses is.misses
  no_fault b j _ (open_group reached is) =
      let own = own_block b j is.line is.relocates.stands in
      no_open_group func table naming fits now_room room numbers plain_form has b j (subst (λ (ls : List Line). IsOpenGroup ls j) (lines_are b own.0 own.1) is)
  no_fault b j _ (unchecked reached is) =
      let own = own_block b j is.line is.stands in
      no_unchecked func table naming fits now_room room numbers plain_form has b j (subst (λ (ls : List Line). IsUnchecked ls j) (lines_are b own.0 own.1) is)
  no_fault b j _ (plain_call reached is) =
      let own = own_block b j is.line is.stands in
      no_plain_call func table naming fits now_room room numbers plain_form has b j (subst (λ (ls : List Line). IsPlainCall ls j) (lines_are b own.0 own.1) is)
  no_fault b j _ (lost_value is) =
      let own = own_block b j is.line is.stands in
      no_lost_value func table naming fits now_room room numbers plain_form has b j (subst (λ (ls : List Line). IsLostValue ls j) (lines_are b own.0 own.1) is)

pub fitting_is_verified : FittingIsVerified
fitting_is_verified func table naming room has block place code fault =
    no_fault func table naming has.fits _ room has.numbers has.plain has.pairs block place code fault
