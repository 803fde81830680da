-- The names of made columns are apart.
use Rattle.std.proofs.Common.{◌≡◌, ◌∙◌, ◌<◌, ◌≤◌, ℕ, zero, suc, ◌+◌, ◌^◌, false, List, [], ◌∷◌, ◌++◌, length, map, refl, sym, ap, arith}
use Rattle.std.specs.Prelude.{codes}
use Rattle.std.specs.Fmt.{decimal}
use Rattle.std.specs.List.{range_with_len}
use Rattle.std.specs.Str.{bytes_eq}
use Rattle.std.proofs.lemmas.Bool.{or_from, false_from_ne_true}
use Rattle.std.proofs.lemmas.Fmt.{decimal_injective}
use Rattle.std.proofs.lemmas.List.{append_cancel_left}
use Rattle.std.proofs.lemmas.List.FromFn.{length-map-range_with_len, map-range_with_len_more}
use Rattle.std.proofs.lemmas.Slice.Eq.{bytes_eq-Decides}
use Rattle.instance.specs.WellFormed.{has_column}
use Rattle.milp.specs.Problem.{Column, Problem}
use Rattle.made_problem.specs.Made.{made_column, made_columns}

differ : (i j : ℕ) → i < j → j < 2 ^ 32 → ¬ (codes "x" ++ decimal i ≡ codes "x" ++ decimal j)
differ i j lt h e =
    let same : i ≡ j = decimal_injective i j (omega arith) (omega arith) (append_cancel_left (codes "x") (decimal i) (decimal j) e) in
    omega (arith, lt, same)

-- the columns from a number on have no name of a later number
pub later_is_new : (first count later : ℕ) → first + count ≤ later → later < 2 ^ 32 → has_column (codes "x" ++ decimal later) (map made_column (range_with_len first count)) ≡ false
later_is_new first zero later h few = refl
later_is_new first (suc count) later h few =
    or_from (bytes_eq (codes "x" ++ decimal first) (codes "x" ++ decimal later)) _
    (false_from_ne_true _ (λ t. differ first later (omega arith) few ((bytes_eq-Decides (codes "x" ++ decimal first) (codes "x" ++ decimal later)).0 t)))
    (later_is_new (first + 1) count later (omega arith) few)

-- ---- a column more

pub so_many_columns : (count : ℕ) → length (made_columns count) ≡ count
so_many_columns count = length-map-range_with_len made_column 1 count

pub column_more : (old before after : Problem) (place : ℕ) → before ≡ record old { columns = made_columns place } → after ≡ record before { columns = before.columns ++ made_column (place + 1) ∷ [] } → after ≡ record old { columns = made_columns (place + 1) }
column_more old before after place so_far more =
    more
    ∙ ap (λ (p : Problem). record p { columns = p.columns ++ made_column (place + 1) ∷ [] }) so_far
    ∙ ap (λ (cs : List Column). record old { columns = cs }) (sym (map-range_with_len_more made_column 1 place (place + 1) (omega arith)))
