-- Bounds: `[number relation] name [relation number]` and `name free`, where numbers may be infinite; general and binary columns
-- (GLPK Reference Manual, appendix on the CPLEX LP format: bounds section; general, integer and binary sections).
use Rattle.std.specs.Prelude.{ℕ, ◌||◌, Bool, true, false, List, codes, Result, Ok, if◌then◌else◌}
use Rattle.model_text.specs.declared.fault.FileFault.{FileFault}
use Rattle.model_text.specs.declared.profile.Profile.{Profile}
use Rattle.cplex_lp_tokens.specs.declared.token.Relation.{Relation}
use Rattle.cplex_lp_tokens.specs.declared.token.Relation.TheVariants.{AtMost, AtLeast, Exactly}
use Rattle.cplex_lp_tokens.specs.declared.token.TokenKind.{TokenKind}
use Rattle.cplex_lp_tokens.specs.declared.token.TokenKind.TheVariants.{Word, Literal, Plus, Minus, Compared}
use Rattle.cplex_lp_draft.specs.declared.column_change.ColumnChange.{ColumnChange}
use Rattle.cplex_lp_draft.specs.declared.column_change.ColumnChange.TheVariants.{Kept, Bounded, Freed, MadeInteger, MadeBinary}
use Rattle.cplex_lp_draft.specs.declared.expecting.Sign.{Sign}
use Rattle.cplex_lp_draft.specs.declared.expecting.Sign.TheVariants as sign
use Rattle.cplex_lp_draft.specs.declared.expecting.Limit.{Limit}
use Rattle.cplex_lp_draft.specs.declared.expecting.Limit.TheVariants.{MinusInfinity, Finite, PlusInfinity}
use Rattle.cplex_lp_draft.specs.declared.expecting.Expecting.{Expecting}
use Rattle.cplex_lp_draft.specs.declared.expecting.Expecting.TheVariants.{BoundStart, BoundLeft, BoundRelation, BoundName, BoundNamed, BoundCompared, BoundRight, Generals, Binaries}
use Rattle.cplex_lp_tokens.specs.Tokens.{Token, is_word}
use Rattle.model_text.specs.Steps.{then_do}
use Rattle.cplex_lp_draft.specs.Steps.{misplaced, number_of}
use Rattle.cplex_lp_draft.specs.Declaration.{Declaration, now_expecting, column_place, mentioned, with_column}
use Rattle.cplex_lp_draft.specs.Changes.{changed}
use Rattle.cplex_lp_draft.specs.Signs.{after_plus, after_minus, signed}

-- ---- infinite numbers, in any case of letters

abbrev pub is_infinity : List ℕ → Bool
is_infinity text = is_word text (codes "inf") || is_word text (codes "infinity")

abbrev pub infinite : Sign → Limit
infinite sign.Unsigned = PlusInfinity
infinite sign.Plus = PlusInfinity
infinite sign.Minus = MinusInfinity

-- ---- what a bound sets

-- no lower bound is +inf and no upper bound -inf
abbrev pub is_possible : Relation → Limit → Bool
is_possible AtMost MinusInfinity = false
is_possible AtLeast PlusInfinity = false
is_possible Exactly MinusInfinity = false
is_possible Exactly PlusInfinity = false
is_possible relation limit = true

-- the relation read from its other side
abbrev pub turned : Relation → Relation
turned AtMost = AtLeast
turned AtLeast = AtMost
turned Exactly = Exactly

-- the column of a name is there and changed, and another token comes
abbrev pub with_mentioned : Profile → Declaration → Token → Expecting → ColumnChange → Result Declaration FileFault
with_mentioned profile d t next change =
    then_do (λ more. Ok (now_expecting next (with_column (column_place t.text d.columns) (changed change) more))) (mentioned profile t d)

-- ---- the number on the left

-- `inf` begins a bound as a number
abbrev pub bound_word : Profile → Declaration → Token → Result Declaration FileFault
bound_word profile d t =
    if is_infinity t.text then Ok (now_expecting (BoundRelation PlusInfinity) d)
    else with_mentioned profile d t (BoundNamed (column_place t.text d.columns)) Kept

abbrev pub at_bound_start : TokenKind → Profile → Declaration → Token → Result Declaration FileFault
at_bound_start Word profile d t = bound_word profile d t
at_bound_start Plus profile d t = Ok (now_expecting (BoundLeft (after_plus sign.Unsigned)) d)
at_bound_start Minus profile d t = Ok (now_expecting (BoundLeft (after_minus sign.Unsigned)) d)
at_bound_start Literal profile d t = then_do (λ v. Ok (now_expecting (BoundRelation (Finite v)) d)) (number_of t)
at_bound_start kind profile d t = misplaced t

-- where the number on the left has signs alone
abbrev pub at_bound_left : TokenKind → Declaration → Sign → Token → Result Declaration FileFault
at_bound_left Plus d s t = Ok (now_expecting (BoundLeft (after_plus s)) d)
at_bound_left Minus d s t = Ok (now_expecting (BoundLeft (after_minus s)) d)
at_bound_left Literal d s t = then_do (λ v. Ok (now_expecting (BoundRelation (Finite (signed s v))) d)) (number_of t)
at_bound_left Word d s t = if is_infinity t.text then Ok (now_expecting (BoundRelation (infinite s)) d) else misplaced t
at_bound_left kind d s t = misplaced t

-- a relation in which the number on the left can't stand is misplaced
abbrev pub at_bound_relation : TokenKind → Declaration → Limit → Token → Result Declaration FileFault
at_bound_relation (Compared relation) d limit t =
    if is_possible (turned relation) limit then Ok (now_expecting (BoundName limit relation) d) else misplaced t
at_bound_relation kind d limit t = misplaced t

-- ---- the name

-- `inf` is no name here
abbrev pub at_bound_name : TokenKind → Profile → Declaration → Limit → Relation → Token → Result Declaration FileFault
at_bound_name Word profile d limit relation t =
    if is_infinity t.text then misplaced t
    else with_mentioned profile d t (BoundCompared (column_place t.text d.columns)) (Bounded (turned relation) limit)
at_bound_name kind profile d limit relation t = misplaced t

-- after a name the number on its right may come; else another bound begins
abbrev pub at_bound_compared : TokenKind → Profile → Declaration → ℕ → Token → Result Declaration FileFault
at_bound_compared (Compared relation) profile d column t = Ok (now_expecting (BoundRight column relation sign.Unsigned) d)
at_bound_compared kind profile d column t = at_bound_start kind profile d t

-- the same, or `free`, after a name that stands first
abbrev pub at_bound_named : TokenKind → Profile → Declaration → ℕ → Token → Result Declaration FileFault
at_bound_named Word profile d column t =
    if is_word t.text (codes "free") then Ok (now_expecting BoundStart (with_column column (changed Freed) d)) else bound_word profile d t
at_bound_named kind profile d column t = at_bound_compared kind profile d column t

-- ---- the number on the right

abbrev pub with_right_bound : Declaration → ℕ → Relation → Limit → Token → Result Declaration FileFault
with_right_bound d column relation limit t =
    if is_possible relation limit then Ok (now_expecting BoundStart (with_column column (changed (Bounded relation limit)) d)) else misplaced t

-- where the number on the right is about to come, or has signs alone
abbrev pub at_bound_right : TokenKind → Declaration → ℕ → Relation → Sign → Token → Result Declaration FileFault
at_bound_right Plus d column relation s t = Ok (now_expecting (BoundRight column relation (after_plus s)) d)
at_bound_right Minus d column relation s t = Ok (now_expecting (BoundRight column relation (after_minus s)) d)
at_bound_right Literal d column relation s t = then_do (λ v. with_right_bound d column relation (Finite (signed s v)) t) (number_of t)
at_bound_right Word d column relation s t = if is_infinity t.text then with_right_bound d column relation (infinite s) t else misplaced t
at_bound_right kind d column relation s t = misplaced t

-- ---- general and binary columns

abbrev pub at_general : TokenKind → Profile → Declaration → Token → Result Declaration FileFault
at_general Word profile d t = with_mentioned profile d t Generals MadeInteger
at_general kind profile d t = misplaced t

abbrev pub at_binary : TokenKind → Profile → Declaration → Token → Result Declaration FileFault
at_binary Word profile d t = with_mentioned profile d t Binaries MadeBinary
at_binary kind profile d t = misplaced t
