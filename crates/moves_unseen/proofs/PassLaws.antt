-- Both go on behind a line with a result.
use Rattle.std.proofs.Common.{◌≡◌, ℕ, List, ◌∷◌, map, refl, sym, ap, Option, Some, None, true}
use Rattle.std.proofs.lemmas.List.{map-set}
use Rattle.ir_ast.specs.declared.types.Ty.{Ty}
use Rattle.ir_ast.specs.declared.ops.Callee.TheVariants.{Check}
use Rattle.ir_ast.specs.declared.ops.Op.TheVariants.{Call, Select}
use Rattle.ir_ast.specs.Modules.{ModuleContent}
use Rattle.ir_ast.specs.Objects.{Datum, number}
use Rattle.ir_ast.specs.Types.{is_pointer}
use Rattle.ir_ast.specs.Values.{value_types}
use Rattle.object_meaning.specs.Frames.{passed}
use Rattle.object_meaning.specs.Lines.{Line}
use Rattle.object_meaning.specs.Registers.{put}
use Rattle.object_meaning.specs.States.{State}
use Rattle.pair_facts.specs.Lines.{line_before, lines_at}
use Rattle.pair_facts.specs.Pairs.{after}
use Rattle.machine_meaning.specs.Machines.{Machinery}
use Rattle.machine_meaning.specs.MachineSteps.{passes}
use Rattle.machine_meaning.specs.Words.{worded}
use Rattle.moves_unseen.specs.Frames.{AreWords, IsChosen, IsGuarded}
use Rattle.moves_unseen.specs.States.{Extra, Follows, IsRelated, machine_of, worded_frame}
use Rattle.moves_unseen.proofs.StandLaws.{IsAlone, goes_behind}

pub put_words : (to : Option ℕ) (word : ℕ) (words : List ℕ) → put to (number word) (map number words) ≡ map number (put to word words)
put_words None word words = refl
put_words (Some to) word words = sym (map-set number words to word)

-- the machine's words of the running frame
abbrev pub with_words : Extra → List ℕ → Extra
with_words extra words = record extra { running = record extra.running { words = words } }

pub passes_is : (machinery : Machinery) (state : State) (extra : Extra) (line : Line) (rest : List Line) (datum : Datum) (word : ℕ)
    → passes (machine_of machinery state extra) (worded line) (map worded rest) word
    ≡ machine_of machinery (passed state line rest datum) (with_words extra (put line.to word extra.running.words))
passes_is machinery state extra line rest datum word =
    ap (λ (registers : List Datum). record (machine_of machinery state extra) {
      state = record (machine_of machinery state extra).state {
        running = record (worded_frame state.running extra.running.words) { rest = map worded rest; registers = registers };
      };
    }) (put_words line.to word extra.running.words)

module _ (content : ModuleContent) (machinery : Machinery) (state : State) (extra : Extra) (related : IsRelated content state extra) (line : Line) (rest : List Line)
    (is : state.running.rest ≡ line ∷ rest) (alone : IsAlone line) where
  -- where the registers and words behind the line are related, the states are
  pub pass_follows : (datum : Datum) (word : ℕ)
      → AreWords extra.heap.stands (value_types related.running.func)
      (after related.running.pairs (line_before (lines_at related.running.func state.running.block) related.running.place) line)
      (put line.to datum state.running.registers) (put line.to word extra.running.words)
      → ((types : List Ty) → line.inst.op ≡ Call Check types → IsGuarded content.layouts state.objects
      (after related.running.pairs (line_before (lines_at related.running.func state.running.block) related.running.place) line)
      (put line.to datum state.running.registers) line)
      → ((to : ℕ) → line.inst.op ≡ Select → is_pointer line.inst.ty ≡ true → line.to ≡ Some to
      → IsChosen (put line.to datum state.running.registers) (put line.to word extra.running.words) line to)
      → Follows content machinery (passed state line rest datum) (passes (machine_of machinery state extra) (worded line) (map worded rest) word)
  pass_follows datum word are check select = record {
    extra = with_words extra (put line.to word extra.running.words);
    is = passes_is machinery state extra line rest datum word;
    related = record {
      objects = related.objects;
      settled = related.settled;
      running = goes_behind content state.objects extra.heap.stands state.running extra.running related.running line rest is alone
          (put line.to datum state.running.registers) (put line.to word extra.running.words) state.objects are check select;
      below = related.below;
      tasks = related.tasks;
      await = related.await;
    };
  }
