-- Return offsets of joined instructions: a group ends before the terminator of its block.
use Rattle.std.proofs.Common.{◌≡◌, ◌∙◌, ℕ, suc, ◌+◌, ◌*◌, ◌≤◌, Bool, true, false, cond, List, [], ◌∷◌, ◌++◌, length, refl, ap, sym, subst, arith}
use Rattle.std.specs.List.{prefix_len}
use Rattle.ir_ast.specs.declared.ops.Op.{Op}
use Rattle.ir_ast.specs.declared.ops.Op.TheVariants.{Statepoint}
use Rattle.ir_ast.specs.Insts.{Instruction}
use Rattle.ir_ast.specs.Ops.{is_terminator}
use Rattle.ir_ast.specs.Blocks.{EndsAtTerminator}
use Rattle.ir_ast.proofs.OpLaws.{end_member}
use Rattle.object_meaning.specs.Frames.{is_member}
use Rattle.frame_forms.specs.Groups.{group_size}
use Rattle.frame_forms.specs.CodeAddresses.{returns_from}
use Rattle.std.proofs.lemmas.List.Sums.{prefix_len-le-length}

pub no_group : (op : Op) (rest other : List Instruction) → is_terminator op ≡ true → group_size op rest ≡ group_size op other
no_group (Statepoint id callee types) rest other ends = cc
no_group _ rest other ends = refl

prefix_stops : {A : Type 0} (p : A → Bool) (before : List A) (last : A) (after : List A) → p last ≡ false
    → prefix_len p ((before ++ last ∷ []) ++ after) ≡ prefix_len p (before ++ last ∷ [])
prefix_stops p [] last after fails =
    ap (λ b. cond b (1 + prefix_len p after) 0) fails ∙ sym (ap (λ b. cond b (1 + prefix_len p []) 0) fails)
prefix_stops p (x ∷ before) last after fails = ap (λ n. cond (p x) (1 + n) 0) (prefix_stops p before last after fails)

pub group_stops : (op : Op) (before : List Instruction) (last : Instruction) (after : List Instruction) → is_terminator last.op ≡ true
    → group_size op ((before ++ last ∷ []) ++ after) ≡ group_size op (before ++ last ∷ [])
group_stops (Statepoint id callee types) before last after ends =
    prefix_stops (λ (inst : Instruction). is_member inst.op) before last after (end_member last.op ends)
group_stops _ before last after ends = refl

returns_at : (place : ℕ) (before : List Instruction) (last : Instruction) (after : List Instruction) → is_terminator last.op ≡ true
    → returns_from place ((before ++ last ∷ []) ++ after)
    ≡ returns_from place (before ++ last ∷ []) ++ returns_from (place + length (before ++ last ∷ [])) after
returns_at place [] last after ends =
    ap (λ n. 4 * (place + 1 + n) ∷ returns_from (place + 1) after) (no_group last.op after [] ends)
returns_at place (x ∷ before) last after ends =
    let one : place + 1 + length (before ++ last ∷ []) ≡ place + suc (length (before ++ last ∷ [])) = omega arith in
    ap (λ n. 4 * (place + 1 + n) ∷ returns_from (place + 1) ((before ++ last ∷ []) ++ after)) (group_stops x.op before last after ends)
    ∙ ap (λ ns. 4 * (place + 1 + group_size x.op (before ++ last ∷ [])) ∷ ns)
    (returns_at (place + 1) before last after ends
    ∙ ap (λ n. returns_from (place + 1) (before ++ last ∷ []) ++ returns_from n after) one)

-- behind a whole block the places go on
pub returns_joined : (place : ℕ) (block after : List Instruction) → EndsAtTerminator block
    → returns_from place (block ++ after) ≡ returns_from place block ++ returns_from (place + length block) after
returns_joined place block after ends =
    let P : List Instruction → Type 0 = λ insts. returns_from place (insts ++ after) ≡ returns_from place insts ++ returns_from (place + length insts) after in
    subst P (sym ends.whole) (returns_at place ends.before ends.last after ends.ends)

pub length-returns_from : (place : ℕ) (insts : List Instruction) → length (returns_from place insts) ≡ length insts
length-returns_from place [] = refl
length-returns_from place (inst ∷ insts) = ap suc (length-returns_from (place + 1) insts)

pub group_within : (op : Op) (rest : List Instruction) → group_size op rest ≤ length rest
group_within (Statepoint id callee types) rest = prefix_len-le-length (λ (inst : Instruction). is_member inst.op) rest
group_within _ rest = omega arith
