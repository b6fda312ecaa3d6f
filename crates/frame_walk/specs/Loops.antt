-- A whole loop over the frames of a stack.
use Rattle.std.specs.Prelude.{ℕ, List, [], ◌∷◌}
use Rattle.std.specs.Borrow.{Fml, GName, Array, u64, follows_both, ftrue, fsep}
use base.Fml.{feq, fres}
use Rattle.frame_walk.specs.Lent.{joined}

-- a frame that was lent, and what it ended as; the return word behind it, and the words behind that
pub record LentFrame : Type 0 where
  pub name : GName
  pub ended : List ℕ
  pub address : ℕ
  pub rest : GName

-- each frame was lent out of the words that the one before it left, the first out of `whole`; `last` were left by the last
abbrev pub Lends : GName → List LentFrame → GName → Fml
Lends whole [] last = feq GName whole last
Lends whole (one ∷ more) last =
    fsep (follows_both (Array u64 0) (Array u64 0) (Array u64 0) whole one.name one.rest (joined one.address)) (Lends one.rest more last)

-- what the frames ended as
abbrev pub Ends : List LentFrame → Fml
Ends [] = ftrue
Ends (one ∷ more) = fsep (fres one.name ((Array u64 0).coded.code one.ended)) (Ends more)

-- the frames, each with its return word behind it, and what is left
abbrev pub put_back : List LentFrame → List ℕ → List ℕ
put_back [] rest = rest
put_back (one ∷ more) rest = joined one.address one.ended (put_back more rest)
