-- Steps of the loops.
use Rattle.std.proofs.Common.{◌≡◌, ◌∙◌, ℕ, zero, suc, ◌+◌, ◌-◌, ◌*◌, ◌<◌, ◌≤◌, true, false, List, [], ◌∷◌, ◌++◌, length, drop, get_or, refl, sym, ap, subst, arith, nat_le, append_assoc}
use Rattle.std.proofs.lemmas.Bool.Decides.{nat_tests}
use Rattle.std.proofs.lemmas.List.{at_drop_more, at_drop_all}
use Rattle.std.specs.Prelude.{None, Result, Ok, Err}
use Rattle.std.specs.Result.{IsErrAnd}
use Rattle.gmpl_value.specs.declared.symbol.Symbol.{Symbol}
use Rattle.gmpl_value.specs.declared.eval_fault.EvalFault.{EvalFault}
use Rattle.gmpl_value.specs.declared.eval_fault.EvalFault.TheVariants.{NoValue, OutOfDomain, Restriction, DivZero, NotWhole, NotANumber, Nonlinear, BadFormat, Depth, TooMany, NoDual, NoFit, NoMemory}
use Rattle.gmpl_value.specs.Outcome.{Faults, Follows, Outcome, then_do}
use Rattle.gmpl_formats.specs.declared.conversion.Piece.{Piece}
use Rattle.gmpl_formats.specs.Conversions.{number_on}
use Rattle.gmpl_formats.specs.Pieces.{step_of, pieces_behind}
use Rattle.gmpl_formats.specs.Printing.{with_piece, left_behind, printed_onto}

-- ---- numbers

pub number_more : (most n : ℕ) (digits : List ℕ) (i : ℕ) → i < length digits → n ≤ most → number_on most n (drop i digits) ≡ number_on most (10 * n + (get_or digits i 0 - 48)) (drop (i + 1) digits)
unfolding number_on
number_more most n digits i more small =
    let test : nat_le n most ≡ true = grind (arith, nat_tests) in
    at_drop_more (number_on most n) digits i 0 more ∙ rw test refl

pub number_over : (most n : ℕ) (digits : List ℕ) → most < n → number_on most n digits ≡ None
unfolding number_on
number_over most n [] large = let test : nat_le n most ≡ false = grind (arith, nat_tests) in rw test refl
number_over most n (c ∷ cs) large = let test : nat_le n most ≡ false = grind (arith, nat_tests) in rw test refl

pub number_end : (most n : ℕ) (digits : List ℕ) (i : ℕ) → length digits ≤ i → number_on most n (drop i digits) ≡ number_on most n []
number_end most n digits i past = at_drop_all (number_on most n) digits i past

-- ---- pieces

skip_one : (behind c : ℕ) (cs : List ℕ) → pieces_behind (suc behind) (c ∷ cs) ≡ pieces_behind behind cs
unfolding pieces_behind
skip_one behind c cs = refl

pub skip_more : (behind i : ℕ) (text : List ℕ) → i < length text → 0 < behind → pieces_behind behind (drop i text) ≡ pieces_behind (behind - 1) (drop (i + 1) text)
skip_more zero i text more some = absurd (omega arith)
skip_more (suc behind) i text more some =
    let before : behind ≡ suc behind - 1 = omega arith in
    at_drop_more (pieces_behind (suc behind)) text i 0 more ∙ skip_one behind (get_or text i 0) (drop (i + 1) text) ∙ ap (λ b. pieces_behind b (drop (i + 1) text)) before

step_first : (c : ℕ) (cs : List ℕ) → pieces_behind 0 (c ∷ cs) ≡ (step_of c cs).piece ∷ pieces_behind ((step_of c cs).count - 1) cs
unfolding pieces_behind
step_first c cs = refl

pub step_more : (i : ℕ) (text : List ℕ) → i < length text
    → pieces_behind 0 (drop i text) ≡ (step_of (get_or text i 0) (drop (i + 1) text)).piece ∷ pieces_behind ((step_of (get_or text i 0) (drop (i + 1) text)).count - 1) (drop (i + 1) text)
step_more i text more = at_drop_more (pieces_behind 0) text i 0 more ∙ step_first (get_or text i 0) (drop (i + 1) text)

no_pieces : (behind : ℕ) → pieces_behind behind [] ≡ []
unfolding pieces_behind
no_pieces zero = refl
no_pieces (suc behind) = refl

pub pieces_end : (behind i : ℕ) (text : List ℕ) → length text ≤ i → pieces_behind behind (drop i text) ≡ []
pieces_end behind i text past = at_drop_all (pieces_behind behind) text i past ∙ no_pieces behind

-- the pieces so far, and a step's piece behind them
pub with_step : (done now : List Piece) (behind i c : ℕ) (text rest : List ℕ) (all : List Piece) → i < length text → behind ≡ 0 → c ≡ get_or text i 0 → rest ≡ drop (i + 1) text
    → now ≡ done ++ (step_of c rest).piece ∷ [] → done ++ pieces_behind behind (drop i text) ≡ all → now ++ pieces_behind ((step_of c rest).count - 1) (drop (i + 1) text) ≡ all
with_step done now behind i c text rest all more none first e f whole =
    let at_step : pieces_behind behind (drop i text) ≡ (step_of c rest).piece ∷ pieces_behind ((step_of c rest).count - 1) (drop (i + 1) text) =
    ap (λ b. pieces_behind b (drop i text)) none ∙ step_more i text more
    ∙ sym (ap (λ x. (step_of x rest).piece ∷ pieces_behind ((step_of x rest).count - 1) (drop (i + 1) text)) first
    ∙ ap (λ xs. (step_of (get_or text i 0) xs).piece ∷ pieces_behind ((step_of (get_or text i 0) xs).count - 1) (drop (i + 1) text)) e) in
    ap (λ x. x ++ pieces_behind ((step_of c rest).count - 1) (drop (i + 1) text)) f
    ∙ append_assoc done ((step_of c rest).piece ∷ []) (pieces_behind ((step_of c rest).count - 1) (drop (i + 1) text))
    ∙ ap (λ x. done ++ x) (sym at_step) ∙ whole

-- ---- faults

then_faults : {A B : Type 0} (f : EvalFault) (go : A → Outcome B) (answer : Outcome A) → Faults f answer → Faults f (then_do go answer)
then_faults NoMemory go answer is = tt
then_faults NoValue go answer is = ap (then_do go) is
then_faults OutOfDomain go answer is = ap (then_do go) is
then_faults Restriction go answer is = ap (then_do go) is
then_faults DivZero go answer is = ap (then_do go) is
then_faults NotWhole go answer is = ap (then_do go) is
then_faults NotANumber go answer is = ap (then_do go) is
then_faults Nonlinear go answer is = ap (then_do go) is
then_faults BadFormat go answer is = ap (then_do go) is
then_faults Depth go answer is = ap (then_do go) is
then_faults TooMany go answer is = ap (then_do go) is
then_faults NoDual go answer is = ap (then_do go) is
then_faults (NoFit n) go answer is = ap (then_do go) is

next_printed : (text : List ℕ) (pieces : List Piece) (i : ℕ) (piece : Piece) (rest : List Symbol) → i < length pieces → piece ≡ get_or pieces i piece
    → printed_onto text (drop i pieces) rest ≡ then_do (λ now. printed_onto now (drop (i + 1) pieces) (left_behind piece rest)) (with_piece text piece rest)
unfolding printed_onto
next_printed text pieces i piece rest more is =
    at_drop_more (λ ps. printed_onto text ps rest) pieces i piece more ∙ ap (λ p. printed_onto text (p ∷ drop (i + 1) pieces) rest) (sym is)

pub print_fails : (text : List ℕ) (pieces : List Piece) (i : ℕ) (piece : Piece) (rest : List Symbol) (f : EvalFault) (answer : Outcome (List ℕ)) → i < length pieces → piece ≡ get_or pieces i piece
    → printed_onto text (drop i pieces) rest ≡ answer → Faults f (with_piece text piece rest) → Faults f answer
print_fails text pieces i piece rest f answer more is before fails =
    subst (Faults f) (sym (next_printed text pieces i piece rest more is) ∙ before) (then_faults f _ (with_piece text piece rest) fails)

pub handed_on : {A B : Type 0} (result : Result A EvalFault) (f : EvalFault) (new : B) (answer : Outcome B) → IsErrAnd result (λ d. d ≡ f) → Faults f answer → Follows result new answer
handed_on (Ok a) f new answer never h = absurd never
handed_on (Err d) f new answer is h = subst (λ d. Faults d answer) (sym is) h
