-- What worked lines tell.
use Rattle.std.proofs.Common.{◌≡◌, refl, true, false}
use Rattle.std.specs.Prelude.{codes, Some, None}
use Rattle.sp_text.specs.Tokens.{tokens, tokens_after, front_of, longest_front, kind_of}
use Rattle.llvm_features.specs.declared.features.Feature.TheVariants.{Spelling, FrameMemory, IndirectCall, SmallAccess, PlainPointer, NoStrategy}
use Rattle.llvm_features.specs.Words.{is_hint, is_written_out, is_known, is_unknown}
use Rattle.llvm_features.specs.Features.{line_tells, head_tells, tells}

pub ex1 : line_tells (tokens (codes "  %a = alloca i64, align 8")) ≡ Some FrameMemory
unfolding tokens tokens_after front_of longest_front kind_of line_tells tells
ex1 = refl

pub ex2 : line_tells (tokens (codes "  %b = add i64 %a, 1 ; alloca")) ≡ None
unfolding tokens tokens_after front_of longest_front kind_of line_tells tells
ex2 = refl

pub ex3 : line_tells (tokens (codes "  store i32 1, ptr addrspace(1) %p")) ≡ Some SmallAccess
unfolding tokens tokens_after front_of longest_front kind_of line_tells tells
ex3 = refl

pub ex4 : line_tells (tokens (codes "  store i64 1, ptr %p")) ≡ Some PlainPointer
unfolding tokens tokens_after front_of longest_front kind_of line_tells tells
ex4 = refl

pub ex5 : line_tells (tokens (codes "  call void %f(i64 1)")) ≡ Some IndirectCall
unfolding tokens tokens_after front_of longest_front kind_of line_tells tells
ex5 = refl

pub ex6 : line_tells (tokens (codes "  %v = call <4 x i32> @f()")) ≡ Some Spelling
unfolding tokens tokens_after front_of longest_front kind_of line_tells tells
ex6 = refl

pub ex7 : line_tells (tokens (codes "define void @f() {")) ≡ Some NoStrategy
unfolding tokens tokens_after front_of longest_front kind_of line_tells head_tells
ex7 = refl

pub ex8 : is_unknown (codes "llvm.memcpy.p1.p1.i64") ≡ true
unfolding is_unknown is_known is_hint is_written_out
ex8 = refl

pub ex9 : is_unknown (codes "llvm.umin.i32") ≡ false
unfolding is_unknown is_known is_hint is_written_out
ex9 = refl
