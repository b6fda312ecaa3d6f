use Rattle.std.proofs.Common.{◌≡◌, ◌+◌, ◌*◌, ◌≤◌, ℕ, length, sym, ap, ◌∙◌, subst, arith}
use Rattle.ir_ast.specs.Modules.{ModuleContent}
use Rattle.frame_forms.specs.ModuleLayouts.{address_in}
use Rattle.object_meaning.specs.Lines.{insts_of}
use Rattle.machine_frames.proofs.CodeLemmas.{near_is, no_code}
use Rattle.machine_frames.proofs.code.Code.address.Goals as goal

pub returns-in-None : goal.returns-in-None
returns-in-None c =
    rw (← c.self.view_is) (no_code c.self.inside.«module».now.content c.self.inside.layouts c.self.inside.tables.items c.args.func c.args.block c.args.place c.self.invariant (rw c.as_slice.ensures.value at c.in-None.ensures)
    (subst (λ (content : ModuleContent). c.args.place ≤ length (insts_of content c.args.func c.args.block)) (sym c.self.view_is) c.requires))

pub address-start-requires : goal.address-start-requires
address-start-requires c =
    let near = near_is c.self.inside.«module».now.content c.self.inside.layouts c.self.inside.tables.items c.args.func c.args.block c.args.place c.in-Some.table.now c.self.invariant (rw c.as_slice.ensures.value at c.in-Some.ensures) (subst (λ (content : ModuleContent). c.args.place ≤ length (insts_of content c.args.func c.args.block)) (sym c.self.view_is) c.requires) in near.there

pub overflow_add-result : goal.overflow_add-result
overflow_add-result c =
    let near = near_is c.self.inside.«module».now.content c.self.inside.layouts c.self.inside.tables.items c.args.func c.args.block c.args.place c.in-Some.table.now c.self.invariant (rw c.as_slice.ensures.value at c.in-Some.ensures) (subst (λ (content : ModuleContent). c.args.place ≤ length (insts_of content c.args.func c.args.block)) (sym c.self.view_is) c.requires) in omega (arith, near.within, c.ahead.ensures)

pub overflow_mul-result : goal.overflow_mul-result
overflow_mul-result c =
    let near = near_is c.self.inside.«module».now.content c.self.inside.layouts c.self.inside.tables.items c.args.func c.args.block c.args.place c.in-Some.table.now c.self.invariant (rw c.as_slice.ensures.value at c.in-Some.ensures) (subst (λ (content : ModuleContent). c.args.place ≤ length (insts_of content c.args.func c.args.block)) (sym c.self.view_is) c.requires) in omega (arith, near.within, c.ahead.ensures)

pub overflow_add-result-in-Some : goal.overflow_add-result-in-Some
overflow_add-result-in-Some c =
    let near = near_is c.self.inside.«module».now.content c.self.inside.layouts c.self.inside.tables.items c.args.func c.args.block c.args.place c.in-Some.table.now c.self.invariant (rw c.as_slice.ensures.value at c.in-Some.ensures) (subst (λ (content : ModuleContent). c.args.place ≤ length (insts_of content c.args.func c.args.block)) (sym c.self.view_is) c.requires) in omega (arith, near.within, near.start, c.ahead.ensures, c.address-start.ensures)

pub returns-in-Some : goal.returns-in-Some
returns-in-Some c =
    let near = near_is c.self.inside.«module».now.content c.self.inside.layouts c.self.inside.tables.items c.args.func c.args.block c.args.place c.in-Some.table.now c.self.invariant (rw c.as_slice.ensures.value at c.in-Some.ensures) (subst (λ (content : ModuleContent). c.args.place ≤ length (insts_of content c.args.func c.args.block)) (sym c.self.view_is) c.requires) in
    rw (← c.self.view_is)
    (ap (λ (n : ℕ). n + 4 * (c.ahead.result + c.args.place)) c.address-start.ensures
    ∙ ap (λ (n : ℕ). address_in c.self.inside.layouts c.args.func + 4 * (n + c.args.place)) c.ahead.ensures ∙ near.address)
