-- What of the language is supported: all functions and suffixes but those that are `LeftOut` in the trees.
use Rattle.std.specs.Prelude.{Bool, true, false, Option, Some}
use Rattle.gmpl_syntax.specs.declared.expression.Function.{Function}
use Rattle.gmpl_syntax.specs.declared.expression.Function.TheVariants as f
use Rattle.gmpl_syntax.specs.declared.expression.Suffix.{Suffix}
use Rattle.gmpl_syntax.specs.declared.expression.Suffix.TheVariants as suffix

abbrev pub supports_function : Function → Bool
supports_function f.LeftOut = false
supports_function _ = true

abbrev pub supports_suffix : Option Suffix → Bool
supports_suffix (Some suffix.LeftOut) = false
supports_suffix _ = true
