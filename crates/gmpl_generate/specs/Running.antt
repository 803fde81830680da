-- What an execution makes on its way: what is made so far goes in, and comes out with a value or with the first fault. What was made
-- before a fault stays.
use Rattle.std.specs.Prelude.{◌≡◌, ℕ, List, [], map, string_bytes, Result, Ok, Err}
use Rattle.gmpl_value.specs.declared.eval_fault.EvalFault.{EvalFault}
use Rattle.gmpl_generate.specs.declared.fault.Halt.{Halt}
use Rattle.gmpl_generate.specs.declared.fault.Halt.TheVariants as halt
use Rattle.gmpl_generate.specs.declared.fault.ModelFault.{ModelFault}
use Rattle.gmpl_generate.specs.declared.fault.ModelFaultKind.{ModelFaultKind}
use Rattle.gmpl_generate.specs.declared.fault.ModelFaultKind.TheVariants.{CheckFailed, Evaluation}
use Rattle.gmpl_generate.specs.declared.fault.Stop.{Stop}
use Rattle.gmpl_generate.specs.declared.fault.Stop.TheVariants as stop
use Rattle.gmpl_generate.specs.declared.progress.Progress.{Progress}
use Rattle.gmpl_generate.specs.declared.progress.TableFile.{TableFile}

-- a value or a fault, each with what is made up to there
abbrev pub Ran : Type 0 → Type 0 → Type 0 → Type 0
Ran S F A = Result (A × S) (F × S)

abbrev pub Running : Type 0 → Type 0 → Type 0 → Type 0
Running S F A = S → Ran S F A

abbrev pub and_then : {S F A B : Type 0} → Ran S F A → (A → Running S F B) → Ran S F B
and_then (Ok r) go = go r.0 r.1
and_then (Err r) go = Err r

infixl 10 ◌>>=◌
abbrev pub ◌>>=◌ : {S F A B : Type 0} → Running S F A → (A → Running S F B) → Running S F B
p >>= go = λ state. and_then (p state) go

abbrev pub pure : {S F A : Type 0} → A → Running S F A
pure a = λ state. Ok (a, state)

-- what makes nothing
abbrev pub beside : {S F A : Type 0} → Result A F → Running S F A
beside (Ok a) state = Ok (a, state)
beside (Err fault) state = Err (fault, state)

abbrev pub then_on : {F A B : Type 0} → (A → Result B F) → Result A F → Result B F
then_on go (Err fault) = Err fault
then_on go (Ok a) = go a

abbrev pub state_of : {S F A : Type 0} → Ran S F A → S
state_of (Ok r) = r.1
state_of (Err r) = r.1

abbrev pub result_of : {S F A : Type 0} → Ran S F A → Result A F
result_of (Ok r) = Ok r.0
result_of (Err r) = Err r.0

-- a fault is its statement's
abbrev pub fault_at : ℕ → ℕ → ModelFaultKind → ModelFault
fault_at number line kind = record { statement = number; line = line; kind = kind }

-- ---- what is made: a text that is printed, and files of tables

-- what prints, on the text so far
abbrev pub Printing : Type 0 → Type 0
Printing A = Running (List ℕ) ModelFaultKind A

pub record File : Type 0 where
  pub name : List ℕ
  pub text : List ℕ

-- what is printed, and the files in the order in which they are made
pub record Made : Type 0 where
  pub printed : List ℕ
  pub files : List File

abbrev pub nothing_made : Made
nothing_made = record { printed = []; files = [] }

abbrev pub with_printed : {F A : Type 0} → List File → Ran (List ℕ) F A → Ran Made F A
with_printed files (Ok r) = Ok (r.0, record { printed = r.1; files = files })
with_printed files (Err r) = Err (r.0, record { printed = r.1; files = files })

-- what prints makes no file
abbrev pub printing : {F A : Type 0} → Running (List ℕ) F A → Running Made F A
printing p made = with_printed made.files (p made.printed)

-- what code has made

abbrev pub file_of : TableFile → File
file_of f = record { name = f.name; text = f.text.items }

abbrev pub files_of : List TableFile → List File
files_of fs = map file_of fs

abbrev pub made_of : Progress → Made
made_of p = record { printed = string_bytes p.printed; files = files_of p.files.items }

-- ---- a call goes the way of the definition; want of memory is free

-- within a statement
abbrev pub Follows : {S A : Type 0} → Ran S ModelFaultKind A → Result A (Stop EvalFault) → S → Type 0
Follows ran (Ok a) state = ran ≡ Ok (a, state)
Follows ran (Err (stop.Fault fault)) state = ran ≡ Err (Evaluation fault, state)
Follows ran (Err stop.CheckFailed) state = ran ≡ Err (CheckFailed, state)
Follows ran (Err stop.NoMemory) state = Unit {0}

-- the same of what makes nothing
abbrev pub Gives : {A : Type 0} → Result A ModelFaultKind → Result A (Stop EvalFault) → Type 0
Gives right (Ok a) = right ≡ Ok a
Gives right (Err (stop.Fault fault)) = right ≡ Err (Evaluation fault)
Gives right (Err stop.CheckFailed) = right ≡ Err CheckFailed
Gives right (Err stop.NoMemory) = Unit {0}

-- of statements
abbrev pub Runs : {S A : Type 0} → Ran S ModelFault A → Result A (Halt EvalFault) → S → Type 0
Runs ran (Ok a) state = ran ≡ Ok (a, state)
Runs ran (Err (halt.Fault number line fault)) state = ran ≡ Err (fault_at number line (Evaluation fault), state)
Runs ran (Err (halt.CheckFailed number line)) state = ran ≡ Err (fault_at number line CheckFailed, state)
Runs ran (Err halt.NoMemory) state = Unit {0}

abbrev pub Makes : {A : Type 0} → Result A ModelFault → Result A (Halt EvalFault) → Type 0
Makes right (Ok a) = right ≡ Ok a
Makes right (Err (halt.Fault number line fault)) = right ≡ Err (fault_at number line (Evaluation fault))
Makes right (Err (halt.CheckFailed number line)) = right ≡ Err (fault_at number line CheckFailed)
Makes right (Err halt.NoMemory) = Unit {0}
