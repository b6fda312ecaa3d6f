-- How a phase that reads a file and what follows it make a work.
use Rattle.std.proofs.Common.{◌≡◌, ℕ, List, Option, Result, Ok, Err, inl, inr, sym, ap, subst, Vec, Global}
use Rattle.tool_io.specs.Counts.{NoneFell}
use Rattle.tool_io.proofs.AppendLaws.{append_known-nil}
use Rattle.piece_writer.specs.LinePuts.{SinkTold}
use Rattle.statepoint_tool.specs.Answers.{Agrees, Came, IsBegun, Reads, SinkSeen, sink_seen, Works}
use Rattle.statepoint_tool.specs.Steps.{Step, Go, Stop, comes_to, Then, goes_on, stops}
use Rattle.statepoint_tool.specs.Taken.{Taken, Bytes, Longer, Faulty, FilesSeen, files_seen, MayGive, file_phase}
use Rattle.statepoint_tool.specs.Work.{Output, Given}
use Rattle.statepoint_tool.specs.declared.refusal.Cause.{Cause}
use Rattle.statepoint_tool.specs.declared.refusal.Cause.TheVariants.{ReadFault, TooLong}
use Rattle.statepoint_tool.specs.declared.refusal.Refusal.{Refusal}
use Rattle.statepoint_tool.specs.declared.refusal.Refusal.TheVariants.{Defined, WriteFault, Memory}
use Rattle.statepoint_tool.specs.declared.status.Status.{Status}
use Rattle.statepoint_tool.proofs.GivenLaws.{MayGive-later}
use Rattle.statepoint_tool.proofs.StepLaws.{stop_in, same-value, not_both}

pub Came-stops : {A B : Type 0} (phase : Step A → Type 0) (rest : A → Step Output → Type 0) (view : B → A) (refusal : Refusal) (old : SinkTold) (faults : ℕ) →
    Agrees view (Err refusal) phase → Came (Err refusal) (Then phase rest) (sink_seen old old faults faults)
Came-stops phase rest view (Defined cause) old faults agrees =
    record { defined = stops cause agrees; unwritten = sym (append_known-nil old.written) }
Came-stops phase rest view WriteFault old faults agrees = absurd agrees
Came-stops phase rest view Memory old faults agrees = inl (sym (append_known-nil old.written))

begun-goes_on : {A : Type 0} (phase : Step A → Type 0) (rest : A → Step Output → Type 0) (value : A) (out : SinkSeen) → phase (Go value) →
    IsBegun (λ output. rest value (Go output)) out → IsBegun (λ output. Then phase rest (Go output)) out
begun-goes_on phase rest value out first begun =
    record { output = begun.output; defined = goes_on value (Go begun.output) first begun.defined; front = begun.front }

pub Came-goes_on : {A : Type 0} (phase : Step A → Type 0) (rest : A → Step Output → Type 0) (value : A) (result : Result Status Refusal) (out : SinkSeen) → phase (Go value) →
    Came result (rest value) out → Came result (Then phase rest) out
Came-goes_on phase rest value (Ok status) out first came =
    record { output = came.output; defined = goes_on value (Go came.output) first came.defined; status_is = came.status_is; written = came.written; by_line = came.by_line }
Came-goes_on phase rest value (Err (Defined cause)) out first came =
    record { defined = goes_on value (Stop cause) first came.defined; unwritten = came.unwritten }
Came-goes_on phase rest value (Err WriteFault) out first came = (came.0, begun-goes_on phase rest value out first came.1)
Came-goes_on phase rest value (Err Memory) out first (inl unwritten) = inl unwritten
Came-goes_on phase rest value (Err Memory) out first (inr begun) = inr (begun-goes_on phase rest value out first begun)

-- phases of which each step is one of others
pub Came-like : (phase other : Step Output → Type 0) (result : Result Status Refusal) (out : SinkSeen) → ((step : Step Output) → phase step → other step) →
    Came result phase out → Came result other out
Came-like phase other (Ok status) out like came =
    record { output = came.output; defined = like (Go came.output) came.defined; status_is = came.status_is; written = came.written; by_line = came.by_line }
Came-like phase other (Err (Defined cause)) out like came = record { defined = like (Stop cause) came.defined; unwritten = came.unwritten }
Came-like phase other (Err WriteFault) out like came =
    (came.0, record { output = came.1.output; defined = like (Go came.1.output) came.1.defined; front = came.1.front })
Came-like phase other (Err Memory) out like (inl unwritten) = inl unwritten
Came-like phase other (Err Memory) out like (inr begun) =
    inr (record { output = begun.output; defined = like (Go begun.output) begun.defined; front = begun.front })

-- what a refusal agrees with asks for no value
pub Agrees-refuses : {A B C : Type 0} (phase : Step A → Type 0) (view : B → A) (other : C → A) (refusal : Refusal) → Agrees view (Err refusal) phase → Agrees other (Err refusal) phase
Agrees-refuses phase view other (Defined cause) agrees = agrees
Agrees-refuses phase view other WriteFault agrees = agrees
Agrees-refuses phase view other Memory agrees = tt

-- where a phase refuses, so does the phase that it begins
pub Agrees-stops : {A B C D : Type 0} (phase : Step A → Type 0) (view : B → A) (refusal : Refusal) (rest : A → Step C → Type 0) (last : D → C) →
    Agrees view (Err refusal) phase → Agrees last (Err refusal) (Then phase rest)
Agrees-stops phase view (Defined cause) rest last agrees = stops cause agrees
Agrees-stops phase view WriteFault rest last agrees = agrees
Agrees-stops phase view Memory rest last agrees = tt

-- where it goes on, what follows it decides
pub Agrees-goes_on : {A B C D : Type 0} (phase : Step A → Type 0) (view : B → A) (value : B) (result : Result D Refusal) (rest : A → Step C → Type 0) (last : D → C) →
    Agrees view (Ok value) phase → Agrees last result (rest (view value)) → Agrees last result (Then phase rest)
Agrees-goes_on phase view value (Ok done) rest last first agrees = goes_on (view value) (Go (last done)) first agrees
Agrees-goes_on phase view value (Err (Defined cause)) rest last first agrees = goes_on (view value) (Stop cause) first agrees
Agrees-goes_on phase view value (Err WriteFault) rest last first agrees = agrees
Agrees-goes_on phase view value (Err Memory) rest last first agrees = tt

-- where the one file's phase refuses, so does the work
pub Works-stops_at : {A B : Type 0} {files : FilesSeen} {name : List ℕ} {read : List ℕ → Step A → Type 0} {view : B → A} {refusal : Refusal} →
    (rest : A → Step Output → Type 0) (old : SinkTold) (faults : ℕ) → Reads files name read view (Err refusal) →
    Works (MayGive files name) (λ given. Then (file_phase name read given) rest) (Err refusal) (sink_seen old old faults faults)
Works-stops_at {A} {B} {files} {name} {read} {view} {refusal} rest old faults reads =
    record {
      given = reads.given;
      may = reads.may_give;
      came = Came-stops (file_phase name read reads.given) rest view refusal old faults reads.agrees;
    }

-- where it goes on, the work is what follows it
pub Works-goes_on_at : {A B : Type 0} {files : FilesSeen} {name : List ℕ} {read : List ℕ → Step A → Type 0} {view : B → A} {value : B} {result : Result Status Refusal} {out : SinkSeen} →
    (rest : A → Step Output → Type 0) → Reads files name read view (Ok value) → Came result (rest (view value)) out →
    Works (MayGive files name) (λ given. Then (file_phase name read given) rest) result out
Works-goes_on_at {A} {B} {files} {name} {read} {view} {value} {result} {out} rest reads came =
    record {
      given = reads.given;
      may = reads.may_give;
      came = Came-goes_on (file_phase name read reads.given) rest (view value) result out reads.agrees came;
    }

-- where the bytes of the one file are taken, the work is what reads them
module _ {A : Type 0} (name : List ℕ) (read : List ℕ → Step A → Type 0) (rest : A → Step Output → Type 0) where
  came_taken : (bytes : List ℕ) (given : Taken) (result : Result Status Refusal) (out : SinkSeen) → file_phase name (λ text. comes_to (Go text)) given (Go bytes) →
      Came result (Then (read bytes) rest) out → Came result (Then (file_phase name read given) rest) out
  came_taken bytes (Bytes text) result out same came =
      subst (λ (b : List ℕ). Came result (Then (read b) rest) out) (same-value bytes text same) came
  came_taken bytes Longer result out same came = absurd (not_both bytes (TooLong name) same)
  came_taken bytes Faulty result out same came = absurd (not_both bytes (ReadFault name) same)

  stops_untaken : (given : Taken) (cause : Cause) → file_phase name (λ text. comes_to (Go text)) given (Stop cause) → file_phase name read given (Stop cause)
  stops_untaken (Bytes text) cause same = absurd (not_both text cause (sym same))
  stops_untaken Longer cause same = let is : stop_in (List ℕ) cause ≡ Stop (TooLong name) = same in let causes : cause ≡ TooLong name = cc in ap Stop causes
  stops_untaken Faulty cause same = let is : stop_in (List ℕ) cause ≡ Stop (ReadFault name) = same in let causes : cause ≡ ReadFault name = cc in ap Stop causes

-- the same of what was taken
pub Works-taken : {A : Type 0} {files : FilesSeen} {name : List ℕ} {value : Vec ℕ Global} {result : Result Status Refusal} {out : SinkSeen}
    (read : List ℕ → Step A → Type 0) (rest : A → Step Output → Type 0) →
    Reads files name (λ text. comes_to (Go text)) (λ taken. taken.items) (Ok value) → Came result (Then (read value.items) rest) out →
    Works (MayGive files name) (λ given. Then (file_phase name read given) rest) result out
Works-taken {A} {files} {name} {value} {result} {out} read rest reads came =
    record { given = reads.given; may = reads.may_give; came = came_taken name read rest value.items reads.given result out reads.agrees came }

pub Works-untaken : {A : Type 0} {files : FilesSeen} {name : List ℕ} {refusal : Refusal}
    (read : List ℕ → Step A → Type 0) (rest : A → Step Output → Type 0) (old : SinkTold) (faults : ℕ) →
    Reads files name (λ text. comes_to (Go text)) (λ (taken : Vec ℕ Global). taken.items) (Err refusal) →
    Works (MayGive files name) (λ given. Then (file_phase name read given) rest) (Err refusal) (sink_seen old old faults faults)
Works-untaken {A} {files} {name} {refusal} read rest old faults reads =
    record {
      given = reads.given;
      may = reads.may_give;
      came = came_untaken refusal reads.agrees;
    }
  where
    came_untaken : (why : Refusal) → Agrees (λ (taken : Vec ℕ Global). taken.items) (Err why) (file_phase name (λ text. comes_to (Go text)) reads.given) →
        Came (Err why) (Then (file_phase name read reads.given) rest) (sink_seen old old faults faults)
    came_untaken (Defined cause) agrees =
        record { defined = stops cause (stops_untaken name read rest reads.given cause agrees); unwritten = sym (append_known-nil old.written) }
    came_untaken WriteFault agrees = absurd agrees
    came_untaken Memory agrees = inl (sym (append_known-nil old.written))

-- where a file's phase refuses, so does the work, whatever the later files may give
pub Works-stops : {A B G : Type 0} {files : FilesSeen} {name : List ℕ} {read : List ℕ → Step A → Type 0} {view : B → A} {refusal : Refusal} →
    (rest : A → G → Step Output → Type 0) (may : G → Type 0) (others : G) → may others → (old : SinkTold) (faults : ℕ) →
    Reads files name read view (Err refusal) →
    Works {G = Taken × G} (λ given. MayGive files name given.0 × may given.1)
    (λ given. Then (file_phase name read given.0) (λ value. rest value given.1))
    (Err refusal) (sink_seen old old faults faults)
Works-stops {A} {B} {G} {files} {name} {read} {view} {refusal} rest may others may_others old faults reads =
    record {
      given = (reads.given, others);
      may = (reads.may_give, may_others);
      came = Came-stops (file_phase name read reads.given) (λ value. rest value others) view refusal old faults reads.agrees;
    }

-- where a file's phase goes on, the work is what follows it
pub Works-goes_on : {A B G : Type 0} {contents : List ℕ → Option (List ℕ)} {before mid : List ℕ → ℕ} {name : List ℕ} {read : List ℕ → Step A → Type 0} {view : B → A} {value : B} {may_rest : G → Type 0} {result : Result Status Refusal} {out : SinkSeen} →
    (rest : A → G → Step Output → Type 0) (may : G → Type 0) (lift : (given : G) → may_rest given → may given) (after : List ℕ → ℕ) → NoneFell mid after →
    Reads (files_seen contents before mid) name read view (Ok value) →
    Works may_rest (rest (view value)) result out →
    Works {G = Taken × G} (λ given. MayGive (files_seen contents before after) name given.0 × may given.1)
    (λ given. Then (file_phase name read given.0) (λ read_value. rest read_value given.1)) result out
Works-goes_on {A} {B} {G} {contents} {before} {mid} {name} {read} {view} {value} {may_rest} {result} {out} rest may lift after stayed reads works =
    record {
      given = (reads.given, works.given);
      may = (MayGive-later contents before mid after name reads.given reads.may_give stayed, lift works.given works.may);
      came = Came-goes_on (file_phase name read reads.given) (λ read_value. rest read_value works.given) (view value) result out reads.agrees works.came;
    }

-- the same, where what the files gave has its names
pub Works-given : {may : Taken × (Taken × (Taken × Taken)) → Type 0} {phases : Taken × (Taken × (Taken × Taken)) → Step Output → Type 0} {result : Result Status Refusal} {out : SinkSeen} →
    Works may phases result out →
    Works {G = Given} (λ given. may (given.module_file, (given.input, (given.plan, given.map_file))))
    (λ given. phases (given.module_file, (given.input, (given.plan, given.map_file)))) result out
Works-given works =
    record {
      given = record { module_file = works.given.0; input = works.given.1.0; plan = works.given.1.1.0; map_file = works.given.1.1.1 };
      may = works.may;
      came = works.came;
    }

-- and where the command names one file
pub Works-shown : {may : Taken → Type 0} {phases : Taken → Step Output → Type 0} {result : Result Status Refusal} {out : SinkSeen} →
    Works may phases result out →
    Works {G = Given} (λ given. may given.module_file) (λ given. phases given.module_file) result out
Works-shown works =
    record {
      given = record { module_file = works.given; input = works.given; plan = works.given; map_file = works.given };
      may = works.may;
      came = works.came;
    }
