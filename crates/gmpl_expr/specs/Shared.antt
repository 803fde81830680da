-- What an entry gives, seen without how its set is shared.
use Rattle.gmpl_value.specs.Sets.{Elements as Set}
use Rattle.gmpl_operations.specs.Patterns.{Pattern}
use Rattle.gmpl_meaning.specs.declared.walk.EntryValue.{EntryValue}
use Rattle.gmpl_expr.specs.declared.entered.Entered.{Entered}

abbrev pub given : Pattern → Set → EntryValue
given p s = record { pattern = p; set = s }

abbrev pub entered : Entered → EntryValue
entered e = given e.pattern e.set.value
