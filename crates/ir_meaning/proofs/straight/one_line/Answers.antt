use Rattle.std.proofs.Common.{◌≡◌, List, Ok, map, refl, sym, ap, ◌∙◌}
use Rattle.std.specs.Prelude.{Result}
use Rattle.sp_ids.specs.declared.ends.Trap.{Trap}
use Rattle.ir_ast.specs.Objects.{Datum}
use Rattle.object_meaning.specs.Accesses.{accessed}
use Rattle.object_meaning.specs.Registers.{value, pointer_in, put}
use Rattle.object_store.specs.declared.words.Word.{Word}
use Rattle.object_store.specs.Words.{datum, number_word}
use Rattle.flat_code.specs.Flats.{Held}
use Rattle.ir_meaning.specs.Straights.{held_in}
use Rattle.ir_meaning.proofs.WordLemmas.{put_is}
use Rattle.ir_meaning.proofs.StraightLemmas.{loads_ok, loads_err, stores_ok, acts_done}
use Rattle.ir_meaning.proofs.straight.one_line.Goals as goal

pub returns-in-Ok-clause-done : goal.returns-in-Ok-clause-done
returns-in-Ok-clause-done c =
    let registers = c.args.registers.now in let store = c.args.objects.now in let line = c.args.line.now in let held = held_in registers store in
    let given = rw c.held.ensures at c.in-Ok.ensures in
    let written : map datum c.put.new.registers ≡ put line.to (datum c.in-Ok.word) (map datum registers) = ap (λ (ws : List Word). map datum ws) c.put.ensures ∙ put_is line.to c.in-Ok.word registers in
    rw c.in-Load.is
    (loads_ok held line.to (accessed store.layouts store.objects c.in-Load.cell (pointer_in (value held.registers line.first))) (datum c.in-Ok.word) given
    ∙ ap (λ (rs : List Datum). let r : Result Held Trap = Ok (record { registers = rs; objects = store.objects }) in r) (sym written))

pub returns-in-Err-clause-done : goal.returns-in-Err-clause-done
returns-in-Err-clause-done c =
    let registers = c.args.registers.now in let store = c.args.objects.now in let line = c.args.line.now in let held = held_in registers store in
    let given = rw c.held.ensures at c.in-Err.ensures in
    rw c.in-Load.is
    (loads_err held line.to (accessed store.layouts store.objects c.in-Load.cell (pointer_in (value held.registers line.first))) c.in-Err.trap given)

pub returns-in-Ok-store-clause-done : goal.returns-in-Ok-store-clause-done
returns-in-Ok-store-clause-done c =
    let registers = c.args.registers.now in let store = c.args.objects.now in let line = c.args.line.now in let held = held_in registers store in
    let given = rw (c.held-in-Store.ensures, c.held-word.ensures) at c.in-Ok-store.ensures.stored in
    let zero = ap (λ (w : Word). put line.to w registers) c.of.ensures in
    let written : map datum c.put-in-Ok-store.new.registers ≡ put line.to (datum (number_word 0)) (map datum registers) =
    ap (λ (ws : List Word). map datum ws) (c.put-in-Ok-store.ensures ∙ zero) ∙ put_is line.to (number_word 0) registers in
    rw c.in-Store.is
    (stores_ok held line.to (value held.registers line.first) (accessed store.layouts store.objects c.in-Store.cell (pointer_in (value held.registers line.second))) c.store.new.self.objects given
    ∙ ap (λ (rs : List Datum). let r : Result Held Trap = Ok (record { registers = rs; objects = c.store.new.self.objects }) in r) (sym written))

pub returns-in-Ok-acted : goal.returns-in-Ok-acted
returns-in-Ok-acted c =
    let registers = c.args.registers.now in let store = c.args.objects.now in let line = c.args.line.now in let held = held_in registers store in
    let written : map datum c.put-in-Ok-acted.new.registers ≡ put line.to (datum c.in-Ok-acted.word) (map datum registers) =
    ap (λ (ws : List Word). map datum ws) c.put-in-Ok-acted.ensures ∙ put_is line.to c.in-Ok-acted.word registers in
    record {
      done = acts_done store.layouts held line.to line.width (value held.registers line.first) (value held.registers line.second) (value held.registers line.third) line.action
          c.in_default.not-Load c.in_default.not-Store (datum c.in-Ok-acted.word) c.in-Ok-acted.ensures
          ∙ ap (λ (rs : List Datum). let r : Result Held Trap = Ok (record { registers = rs; objects = store.objects }) in r) (sym written);
      layouts = refl;
    }
