-- What a line does to registers and objects.
use Rattle.std.proofs.Common.{◌≡◌, ℕ, ◌+◌, ◌%◌, List, Option, Result, Ok, Err, refl, sym, ap, ◌∙◌}
use Rattle.std.proofs.Math.Nat.{add-mod-mod, mod-add-mod}
use Rattle.sp_ids.specs.declared.ends.Trap.{Trap}
use Rattle.ir_ast.specs.Objects.{Datum, Object}
use Rattle.object_meaning.specs.Accesses.{Place}
use Rattle.object_meaning.specs.Registers.{nothing, put}
use Rattle.object_store.specs.Stored.{load_from, store_to}
use Rattle.ir_ast.specs.declared.cells.Cell.{Cell}
use Rattle.ir_ast.specs.Layouts.{ObjectLayout}
use Rattle.flat_code.specs.declared.lines.Action.{Action}
use Rattle.flat_code.specs.declared.lines.Action.TheVariants.{Load, Store}
use Rattle.flat_code.specs.Actions.{acted}
use Rattle.flat_code.specs.Flats.{Held, computes, loads, stores, acts_on}

pub wrapped_sum : (from by rest m : ℕ) → (from + (by % m + rest) % m) % m ≡ (from + (by + rest)) % m
wrapped_sum from by rest m = ap (λ (n : ℕ). (from + n) % m) (mod-add-mod by m rest) ∙ add-mod-mod from (by + rest) m

pub loads_ok : (held : Held) (to : Option ℕ) (found : Result Place Trap) (one : Datum) → ◌≡◌ {A = Result Datum Trap} (Ok one) (load_from held.objects found)
    → loads held to found ≡ Ok (record held { registers = put to one held.registers })
loads_ok held to (Ok place) one e = ap (λ (d : Datum). let r : Result Held Trap = Ok (record held { registers = put to d held.registers }) in r) cc
loads_ok held to (Err trap) one e = cc

pub loads_err : (held : Held) (to : Option ℕ) (found : Result Place Trap) (trap : Trap) → ◌≡◌ {A = Result Datum Trap} (Err trap) (load_from held.objects found)
    → loads held to found ≡ Err trap
loads_err held to (Ok place) trap e = cc
loads_err held to (Err other) trap e = cc

pub stores_ok : (held : Held) (to : Option ℕ) (word : Datum) (found : Result Place Trap) (objects : List Object)
    → ◌≡◌ {A = Result (List Object) Trap} (Ok objects) (store_to held.objects word found)
    → stores held to word found ≡ Ok (record { registers = put to nothing held.registers; objects = objects })
stores_ok held to word (Ok place) objects e = ap (λ (os : List Object). let r : Result Held Trap = Ok (record { registers = put to nothing held.registers; objects = os }) in r) cc
stores_ok held to word (Err trap) objects e = cc

pub acts_done : (layouts : List ObjectLayout) (held : Held) (to : Option ℕ) (width : ℕ) (a b c : Datum) (action : Action)
    → ((cell : Cell) → action ≡ Load cell → ⊥) → ((cell : Cell) → action ≡ Store cell → ⊥) → (one : Datum) → ◌≡◌ {A = Result Datum Trap} (Ok one) (acted action width a b c)
    → acts_on layouts held to width a b c action ≡ Ok (record held { registers = put to one held.registers })
acts_done layouts held to width a b c (Load cell) loads stores one e = absurd (loads cell refl)
acts_done layouts held to width a b c (Store cell) loads stores one e = absurd (stores cell refl)
acts_done layouts held to width a b c _ loads stores one e = ap (computes held to) (sym e)
