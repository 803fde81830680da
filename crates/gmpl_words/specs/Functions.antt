-- Names that mean a function before `(` or an iteration before `{`, and suffixes (GNU MathProg Language Reference, chapter on
-- expressions: function references, iterated expressions; chapter on statements: variable statement).
use Rattle.std.specs.Prelude.{ℕ, Bool, ◌||◌, List, Option, Some, None, if◌then◌else◌, codes}
use Rattle.std.specs.Str.{bytes_eq}
use Rattle.gmpl_syntax.specs.declared.expression.Iteration.{Iteration}
use Rattle.gmpl_syntax.specs.declared.expression.Iteration.TheVariants as i
use Rattle.gmpl_syntax.specs.declared.expression.Function.{Function}
use Rattle.gmpl_syntax.specs.declared.expression.Function.TheVariants as f
use Rattle.gmpl_syntax.specs.declared.expression.Suffix.{Suffix}
use Rattle.gmpl_syntax.specs.declared.expression.Suffix.TheVariants as s

abbrev pub iteration_word : List ℕ → Option Iteration
iteration_word text =
    if bytes_eq text (codes "sum") then Some i.Sum
    else if bytes_eq text (codes "prod") then Some i.Prod
    else if bytes_eq text (codes "min") then Some i.Min
    else if bytes_eq text (codes "max") then Some i.Max
    else if bytes_eq text (codes "setof") then Some i.Setof
    else if bytes_eq text (codes "forall") then Some i.Forall
    else if bytes_eq text (codes "exists") then Some i.Exists
    else None

-- ---- functions

-- those that have no exact fraction as their value
abbrev pub is_inexact : List ℕ → Bool
is_inexact text =
    bytes_eq text (codes "atan") || (bytes_eq text (codes "cos") || (bytes_eq text (codes "exp") || (bytes_eq text (codes "log")
    || (bytes_eq text (codes "log10") || (bytes_eq text (codes "sin") || (bytes_eq text (codes "sqrt") || bytes_eq text (codes "tan")))))))

-- those that give random numbers
abbrev pub is_random : List ℕ → Bool
is_random text =
    bytes_eq text (codes "Irand224") || (bytes_eq text (codes "Uniform01") || (bytes_eq text (codes "Uniform")
    || (bytes_eq text (codes "Normal01") || bytes_eq text (codes "Normal"))))

-- those that tell the time
abbrev pub is_of_time : List ℕ → Bool
is_of_time text = bytes_eq text (codes "gmtime") || (bytes_eq text (codes "str2time") || bytes_eq text (codes "time2str"))

abbrev pub is_left_out : List ℕ → Bool
is_left_out text = is_inexact text || (is_random text || is_of_time text)

abbrev pub left_out : List ℕ → Option Function
left_out text = if is_left_out text then Some f.LeftOut else None

abbrev pub function_word : List ℕ → Option Function
function_word text =
    if bytes_eq text (codes "abs") then Some f.Abs
    else if bytes_eq text (codes "ceil") then Some f.Ceil
    else if bytes_eq text (codes "floor") then Some f.Floor
    else if bytes_eq text (codes "trunc") then Some f.Trunc
    else if bytes_eq text (codes "round") then Some f.Round
    else if bytes_eq text (codes "max") then Some f.Max
    else if bytes_eq text (codes "min") then Some f.Min
    else if bytes_eq text (codes "card") then Some f.Card
    else if bytes_eq text (codes "length") then Some f.Length
    else if bytes_eq text (codes "substr") then Some f.Substr
    else left_out text

-- how many arguments a function takes behind the first, at least
abbrev pub fewest_more : Function → ℕ
fewest_more f.Substr = 1
fewest_more _ = 0

-- and at most, where so many tokens are left
abbrev pub most_more : Function → ℕ → ℕ
most_more f.Trunc left = 1
most_more f.Round left = 1
most_more f.Substr left = 2
most_more f.Max left = left
most_more f.Min left = left
most_more f.LeftOut left = left
most_more _ left = 0

-- ---- suffixes

abbrev pub suffix_word : List ℕ → Option Suffix
suffix_word text =
    if bytes_eq text (codes "val") then Some s.Value
    else if bytes_eq text (codes "lb") then Some s.LowerBound
    else if bytes_eq text (codes "ub") then Some s.UpperBound
    else if bytes_eq text (codes "dual") then Some s.Dual
    else if bytes_eq text (codes "status") then Some s.LeftOut
    else None
