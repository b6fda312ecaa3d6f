use Rattle.std.proofs.Common.{◌≡◌, sym, ◌∙◌, subst}
use Rattle.sp_text.specs.Lines.{lines_of}
use Rattle.outside_texts.specs.Declares.{IsUnknown, intrinsic, maker}
use Rattle.outside_texts.proofs.declarations.is_unknown_name.Goals as goal

pub returns-then-is_intrinsic : goal.returns-then-is_intrinsic
returns-then-is_intrinsic c = λ _. intrinsic c.args.name.now (sym c.is_intrinsic.ensures ∙ c.if-is_intrinsic.true)

pub returns-in-Some : goal.returns-in-Some
returns-in-Some c = λ lacks. subst (IsUnknown (lines_of c.args.text.now)) (sym c.in-Some.ensures) (maker c.in-Some.layout.now (c.lacks_layout.ensures lacks))
