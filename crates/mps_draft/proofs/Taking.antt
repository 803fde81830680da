-- What a row takes, the table and the declaration in which it stands take too.
use Rattle.std.proofs.Common.{◌≡◌, ℕ, List, map, get_or, set, Some, None, Ok, Err, Result, OnOk, refl}
use Rattle.std.specs.List.{find, position}
use Rattle.rational.specs.Rational.{Rational}
use Rattle.model_text.specs.declared.error.ReadError.{ReadError}
use Rattle.model_text.specs.declared.error.ReadError.TheVariants.{Fault, NoMemory}
use Rattle.model_text.specs.declared.fault.FaultKind.{FaultKind}
use Rattle.model_text.specs.declared.fault.FaultKind.TheVariants.{Unknown}
use Rattle.model_text.specs.Follows.{Follows}
use Rattle.model_text.specs.Names.{is_name}
use Rattle.model_text.specs.Steps.{then_do}
use Rattle.mps_draft.specs.Declaration.{DeclaredRow, is_row_named, with_first_changed}
use Rattle.mps_draft.specs.RowNumbers.{rows_with}
use Rattle.mps_draft.proofs.Keyed.{found, not-found, changed}

-- what follows where nothing failed
pub on-ok : {E P Q : Type 0} → (P → Q) → (result : Result (Unit {0}) E) → OnOk result P → OnOk result Q
on-ok f (Ok u) h = f h
on-ok f (Err error) h = tt

pub follows-into : {A B : Type 0} (f : Rational → A) (g : Rational → B) (into : A → B) → ((v : Rational) → g v ≡ into (f v)) → (taken : Result Rational FaultKind) (result : Result (Unit {0}) (ReadError FaultKind)) (new : A) → Follows result new (then_do (λ v. Ok (f v)) taken) → Follows result (into new) (then_do (λ v. Ok (g v)) taken)
follows-into f g into same (Ok v) (Ok u) new h = let e : f v ≡ new = cc in rw (same v, e) refl
follows-into f g into same (Ok v) (Err (Fault kind)) new h = absurd cc
follows-into f g into same (Ok v) (Err NoMemory) new h = tt
follows-into f g into same (Err fault) (Ok u) new h = absurd cc
follows-into f g into same (Err fault) (Err (Fault kind)) new h = let e : fault ≡ kind = cc in rw e refl
follows-into f g into same (Err fault) (Err NoMemory) new h = tt

module _ (taken : DeclaredRow → Result Rational FaultKind) (change : Rational → DeclaredRow → DeclaredRow) (name : List ℕ) (names : List (List ℕ)) (rows : List DeclaredRow) (index : names ≡ map (λ (r : DeclaredRow). r.name) rows) where
  -- the row at its name's place
  pub row-follows : (i : ℕ) (row new : DeclaredRow) → position (is_name name) names ≡ Some i → row ≡ get_or rows i row → (result : Result (Unit {0}) (ReadError FaultKind)) → Follows result new (then_do (λ v. Ok (change v row)) (taken row)) → Follows result (set rows i new) (rows_with taken change name rows (find (is_row_named name) rows))
  row-follows i row new e g result h =
      let there = found (λ (r : DeclaredRow). r.name) name names rows index i row e g in
      let same = λ (v : Rational). changed (λ (r : DeclaredRow). r.name) name names rows index (change v) i row e g in
      rw there (follows-into (λ v. change v row) (λ v. with_first_changed (is_row_named name) (change v) rows) (set rows i) same (taken row) result new h)

  pub row-unknown : position (is_name name) names ≡ None → rows_with taken change name rows (find (is_row_named name) rows) ≡ Err Unknown
  row-unknown e = rw (not-found (λ (r : DeclaredRow). r.name) name names rows index e) refl
