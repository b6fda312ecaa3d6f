-- What a stack ends as after a whole loop over its frames.
use Rattle.std.proofs.Common.{ℕ, List, [], ◌∷◌, refl, sym}
use seplogic.Ra.Ura.{Ura}
use base.Fml.{GName, feq, fres, ftrue}
use base.Logic.{ent, sep}
use types.Follow.{followed₂}
use types.Kit.{‵, ◌$◌, ◌∵◌, !, qed, by, done, drop as toss, move, use3, join, fsplit, feq_l, rewrite}
use types.Logic.{Logic, sem}
use denote.Follow.{followed, both_by}
use denote.Memory.{mem}
use denote.Ref.{MutBor}
use Rattle.frame_walk.specs.contracts.stack.Stack.{the_row}
use Rattle.frame_walk.specs.Lent.{joined}
use Rattle.frame_walk.specs.Loops.{LentFrame, Lends, Ends, put_back}
use Rattle.frame_walk.specs.StackLent.{LendsStack, refilled}
use Rattle.frame_walk.proofs.JoinLemmas.{L}

module _ {M : Type 1} {𝓤 : Ura M} (𝓛 : Logic 𝓤) where
  open 𝓛 use {A}

  -- the words end as the frames do that were lent out of them, with their return words as they are, and what is left behind them
  pub frames_put_back : (whole : GName) (frames : List LentFrame) (last : GName) (rest : List ℕ)
      → ent 𝓤 (sep 𝓤 (sem 𝓛 (Lends whole frames last)) (sep 𝓤 (sem 𝓛 (Ends frames)) (A.res last (L.coded.code rest)))) (A.res whole (L.coded.code (put_back frames rest)))
  unfolding both_by
  frames_put_back whole [] last rest =
      qed 𝓛 (‵ (feq GName whole last) ∷ ‵ ftrue ∷ ‵ (fres last (L.coded.code rest)) ∷ []) ∵
      feq_l ! (λ e. toss ! $ rewrite ! 0 (λ (name : GName). ‵ (fres name (L.coded.code rest))) (sym e) refl $ done !)
  frames_put_back whole (one ∷ more) last rest =
      qed 𝓛 (‵ (Lends whole (one ∷ more) last) ∷ ‵ (Ends (one ∷ more)) ∷ ‵ (fres last (L.coded.code rest)) ∷ []) ∵
      fsplit ! $ move ! (2 ∷ []) $ fsplit ! $
      -- [the frame's end; the others' ends; the frame's clause; the others' clauses; the rest's end]
      move ! (3 ∷ 1 ∷ 4 ∷ []) $ use3 𝓛 (‵ (fres one.rest (L.coded.code (put_back more rest)))) (frames_put_back one.rest more last rest) $
      move ! (1 ∷ 0 ∷ []) $ join ! $ by ! (followed₂ 𝓛 (mem L) (mem L) (mem L) (joined one.address) whole one.name one.rest one.ended (put_back more rest))

  -- the same of a stack: its own words were lent
  pub stack_put_back : (stack : MutBor (List ℕ)) (whole : GName) (frames : List LentFrame) (last : GName) (rest : List ℕ)
      → ent 𝓤 (sep 𝓤 (sem 𝓛 (LendsStack stack whole)) (sep 𝓤 (sem 𝓛 (Lends whole frames last)) (sep 𝓤 (sem 𝓛 (Ends frames)) (A.res last (L.coded.code rest)))))
      (A.res stack.ghost_name (the_row.coded.code (refilled stack.now (put_back frames rest))))
  stack_put_back stack whole frames last rest =
      qed 𝓛 (‵ (LendsStack stack whole) ∷ ‵ (Lends whole frames last) ∷ ‵ (Ends frames) ∷ ‵ (fres last (L.coded.code rest)) ∷ []) ∵
      move ! (1 ∷ 2 ∷ 3 ∷ []) $ use3 𝓛 (‵ (fres whole (L.coded.code (put_back frames rest)))) (frames_put_back whole frames last rest) $
      move ! (1 ∷ 0 ∷ []) $ by ! (followed 𝓛 the_row L (refilled stack.now) stack.ghost_name whole (put_back frames rest))
